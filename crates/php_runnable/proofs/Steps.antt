-- What an effect is made of, each with what goes on behind it: where the rest of the move is as it should be, so is
-- the whole.
use Rattle.std.proofs.Common.{◌≡◌, ℕ, zero, suc, ◌+◌, ◌<◌, ◌≤◌, Bool, true, false, cond, [], ◌∷◌, ◌++◌, length, Option, Some, None, refl, ap, ◌∙◌, subst, arith}
use Rattle.php_value.specs.declared.scalar.Scalar.{Scalar}
use Rattle.php_value.specs.declared.scalar.Scalar.TheVariants as scalar
use Rattle.php_memdef.specs.declared.place.Place.{Place}
use Rattle.php_memdef.specs.declared.answer.Read.TheVariants.{Found}
use Rattle.php_memdef.specs.declared.answer.Wrote.{Wrote}
use Rattle.php_memdef.specs.declared.answer.Wrote.TheVariants.{Done, NotArray, Full, Limit}
use Rattle.php_memdef.specs.Contents.{null, Item, value, link, Scope, Mem, scope_of}
use Rattle.php_memdef.specs.Places.{Spot, stored, content_if, content_at, with_content, with_new_store, with_scope, temp_spot, base_spot, find_place, variable_store, variable_to_write, walk}
use Rattle.php_memdef.specs.Temporaries.{push, push_array, copy_of_spot, copy, turn, drop_top, popped, top}
use Rattle.php_memdef.specs.Writes.{moved_in, assigned, assign}
use Rattle.php_memdef.specs.Views.{content_if_found, cost_of}
use Rattle.php_memdef.specs.Reading.{loud, reading, content_or_null}
use Rattle.php_memdef.specs.Conditions.{IsPlace, IsScalarWithin}
use Rattle.php_memdef.specs.Deciders.{can}
use Rattle.php_memdef.specs.Operations.{effect, answer, Can}
use Rattle.php_memdef.specs.Operations as op
use Rattle.php_memdef_laws.specs.Shapes.{shape, without_top, if_done}
use Rattle.php_memdef_laws.proofs.Formed.Parts.{scope-sound}
use Rattle.php_machine.specs.Moves.{Wrong}
use Rattle.php_actions.specs.Data.{Frame, Data, Move, on}
use Rattle.php_actions.specs.Contents.{scalar_of}
use Rattle.php_actions.specs.PlaceForms.{variable}
use Rattle.php_actions.specs.Start.{variable_place}
use Rattle.php_actions.specs.Steps.{temp, operand, turned, drops, sink, pushed, replaced, written, assigns, copied_or_pushed, reads}
use Rattle.php_runnable.proofs.Blocks.{Stands, Holds, block_there, temps_are, stands, holds_as, after, can_now, here, scope-with, can_push, push_holds, can_push_array, push_array_holds, can_copy, copy_holds, can_turn, turn_holds, can_drop, drop_holds, falls_one, popped_falling}

module _ (b room : ℕ) where
  -- the room holds all that stands
  pub within_room : (m : Mem) (n q : ℕ) → Holds b room m n q → n ≤ room
  within_room m n q s =
      let within = (scope-sound m s.sound.formed b).temps_within in
      let is = ap (λ x. x.room) s.looks in
      omega (arith, within, is, temps_are b room m n q s)

  pub operand_is : (m : Mem) (k : ℕ) (s : Stands (scope_of m b).temps k) → operand m b k ≡ Some s.content
  unfolding find_place
  operand_is m k s = ap (λ o. content_if_found m (temp_spot b k o)) s.there ∙ ap (λ o. Some (content_if o)) s.there

  temp_found : (m : Mem) (k : ℕ) → Stands (scope_of m b).temps k → answer (op.copy b (temp b k)) m ≡ Found
  unfolding copy find_place
  temp_found m k s = ap (λ o. (copy_of_spot (temp_spot b k o) m b).1) s.there

  pub temp_place : (m : Mem) (n q k : ℕ) → Holds b room m n q → k < n → IsPlace m (temp b k)
  temp_place m n q k s lt = ((block_there b room m n q s, omega (arith, lt, temps_are b room m n q s)), tt)

  pub copy_temp_holds : (m : Mem) (n q k : ℕ) (s : Holds b room m n q) → k < n → Can (op.copy b (temp b k)) m → Holds b room (copy m b (temp b k)).0 (suc n) q
  copy_temp_holds m n q k s lt c = copy_holds b room m n q s (temp b k) c (temp_found m k (stands b room m n q s k lt))

  -- ---- a variable is assigned

  pub moved_falling : (i : Item) (m : Mem) (s : ℕ) → length (scope_of (moved_in i m b (stored s)) b).falling ≤ suc (length (scope_of m b).falling)
  moved_falling (value c) m s =
      let n = with_content m (stored s) c in
      omega (arith, falls_one b room (popped n b) (value (content_at m (stored s))), ap length (popped_falling b room n))
  moved_falling (link t) m s = omega arith

  variable_done : (o : Option ℕ) (m : Mem) (x : ℕ) → (assigned (variable_to_write o m b x) m b).1 ≡ Done
  variable_done (Some s) m x = refl
  variable_done None m x = refl

  variable_falling : (o : Option ℕ) (m : Mem) (x : ℕ) → length (scope_of (assigned (variable_to_write o m b x) m b).0 b).falling ≤ suc (length (scope_of m b).falling)
  variable_falling (Some s) m x = moved_falling (top m b) m s
  variable_falling None m x =
      let n = with_scope (with_new_store m null) b (record (scope_of m b) { variables = (scope_of m b).variables ++ record { name = x; store = length m.stores } ∷ [] }) in
      let same = ap (λ (f : Scope). length f.falling) (scope-with (with_new_store m null) b (record (scope_of m b) { variables = (scope_of m b).variables ++ record { name = x; store = length m.stores } ∷ [] })) in
      omega (arith, moved_falling (top n b) n (length m.stores), same)

  pub assign_done : (m : Mem) (x : ℕ) → answer (op.assign b (variable_place b x [])) m ≡ Done
  unfolding assign walk
  assign_done m x = variable_done (variable_store (scope_of m b).variables x) m x

  assign_falling : (m : Mem) (x : ℕ) → length (scope_of (assign m b (variable_place b x [])).0 b).falling ≤ suc (length (scope_of m b).falling)
  unfolding assign walk
  assign_falling m x = variable_falling (variable_store (scope_of m b).variables x) m x

  pub can_assign : (m : Mem) (n q x : ℕ) → Holds b room m (suc n) q → Can (op.assign b (variable_place b x [])) m
  can_assign m n q x s =
      let st = stands b room m (suc n) q s 0 (omega arith) in
      record { block = block_there b room m (suc n) q s; top = (st.content, st.there); place = (block_there b room m (suc n) q s, tt); below_top = tt }

  pub assign_holds : (m : Mem) (n q x : ℕ) → Holds b room m (suc n) q → Can (op.assign b (variable_place b x [])) m → Holds b room (assign m b (variable_place b x [])).0 n (suc q)
  assign_holds m n q x s c =
      after b room (op.assign b (variable_place b x [])) m (suc n) q n (suc q) s c tt (λ h. refl)
      (here b (if_done (answer (op.assign b (variable_place b x [])) m) (without_top (shape m b)) (shape m b)) (shape m b)
      ∙ ap (λ w. if_done w (without_top (shape m b)) (shape m b)) (assign_done m x) ∙ ap without_top s.looks)
      (omega (arith, s.falling, assign_falling m x))

module _ (P : Move → Type 0) where
  pub on_ok : (t : Bool) (m : Mem) (go : Mem → Move) → t ≡ true → P (go m) → P (on t m go)
  on_ok true m go e h = h
  on_ok false m go e h = absurd (cc)

  pub cond_ok : (t : Bool) (x : Move) → t ≡ true → P x → P (cond t x Wrong)
  cond_ok true x e h = h
  cond_ok false x e h = absurd (cc)

  module _ (b room : ℕ) where
    pub pushed_ok : (v : Scalar) (m : Mem) (n q : ℕ) (go : Mem → Move) → Holds b room m n q → IsScalarWithin v → n < room
        → ((k : Mem) → Holds b room k (suc n) q → P (go k)) → P (pushed b v m go)
    pushed_ok v m n q go s w lt h =
        let c = can_push b room m n q s v w lt in
        on_ok (can (op.push b v) m) (push m b v) go (can_now b room (op.push b v) m c) (h (push m b v) (push_holds b room m n q s v c))

    pub array_ok : (m : Mem) (n q : ℕ) (go : Mem → Move) → Holds b room m n q → n < room
        → ((k : Mem) → Holds b room k (suc n) q → P (go k)) → P (on (can (op.push_array b) m) (push_array m b) go)
    array_ok m n q go s lt h =
        let c = can_push_array b room m n q s lt in
        on_ok (can (op.push_array b) m) (push_array m b) go (can_now b room (op.push_array b) m c) (h (push_array m b) (push_array_holds b room m n q s c))

    pub turned_ok : (j : ℕ) (m : Mem) (n q : ℕ) (go : Mem → Move) → Holds b room m n q → j ≤ n
        → ((k : Mem) → Holds b room k n q → P (go k)) → P (turned b j m go)
    turned_ok j m n q go s l h =
        let c = can_turn b room m n q s j l in
        on_ok (can (op.turn b j) m) (turn m b j) go (can_now b room (op.turn b j) m c) (h (turn m b j) (turn_holds b room m n q s j c))

    pub drops_ok : (j : ℕ) (m : Mem) (n q r : ℕ) (go : Mem → Move) → Holds b room m n q → n ≡ j + r → q + j ≤ room
        → ((k : Mem) → Holds b room k r (q + j) → P (go k)) → P (drops b j m go)
    drops_ok zero m n q r go s e l h = h m (holds_as b room m n r q (q + 0) s (omega (arith, e)) (omega arith))
    drops_ok (suc j) m n q r go s e l h =
        let t = holds_as b room m n (suc (j + r)) q q s (omega (arith, e)) (omega arith) in
        let c = can_drop b room m (j + r) q t (omega (arith, l)) in
        on_ok (can (op.drop_top b) m) (drop_top m b) (λ k. drops b j k go) (can_now b room (op.drop_top b) m c)
        (drops_ok j (drop_top m b) (j + r) (suc q) r go (drop_holds b room m (j + r) q t c) refl (omega (arith, l))
        (λ k x. h k (holds_as b room k r r (suc q + j) (q + suc j) x refl (omega arith))))

    pub sink_ok : (j : ℕ) (m : Mem) (n q r : ℕ) (go : Mem → Move) → Holds b room m n q → n ≡ suc (j + r) → q + j ≤ room
        → ((k : Mem) → Holds b room k (suc r) (q + j) → P (go k)) → P (sink b j m go)
    sink_ok zero m n q r go s e l h = h m (holds_as b room m n (suc r) q (q + 0) s (omega (arith, e)) (omega arith))
    sink_ok (suc j) m n q r go s e l h =
        turned_ok (suc (suc j)) m n q (λ k. drops b (suc j) k go) s (omega (arith, e))
        (λ k x. drops_ok (suc j) k n q (suc r) go x (omega (arith, e)) l h)

    pub replaced_ok : (j : ℕ) (v : Scalar) (m : Mem) (n q r : ℕ) (go : Mem → Move) → Holds b room m n q → n ≡ j + r → q + j ≤ room → IsScalarWithin v → r < room
        → ((k : Mem) → Holds b room k (suc r) (q + j) → P (go k)) → P (replaced b j v m go)
    replaced_ok j v m n q r go s e l w lt h =
        turned_ok j m n q (λ k. drops b j k (λ i. pushed b v i go)) s (omega (arith, e))
        (λ k x. drops_ok j k n q r (λ i. pushed b v i go) x e l
        (λ i y. pushed_ok v i r (q + j) go y w lt h))

    pub copied_ok : (j : ℕ) (m : Mem) (n q : ℕ) (go : Mem → Move) → Holds b room m n q → j < n → n < room
        → ((k : Mem) → Holds b room k (suc n) q → P (go k)) → P (on (can (op.copy b (temp b j)) m) (copy m b (temp b j)).0 go)
    copied_ok j m n q go s lt more h =
        let c = can_copy b room m n q s (temp b j) (temp_place b room m n q j s lt) more in
        on_ok (can (op.copy b (temp b j)) m) (copy m b (temp b j)).0 go (can_now b room (op.copy b (temp b j)) m c)
        (h (copy m b (temp b j)).0 (copy_temp_holds b room m n q j s lt c))

  -- ---- variables

  module _ (room : ℕ) (f : Frame) where
    pub read_ok : (x : ℕ) (d : Data) (n q : ℕ) (go : Mem → Move) → Holds f.block room d.mem n q → n < room
        → ((k : Mem) → Holds f.block room k (suc n) q → P (go k)) → P (reads loud (variable_place f.block x []) f d go)
    unfolding reading copy find_place
    read_ok x d n q go s lt h =
        let p = variable_place f.block x [] in
        let c = can_copy f.block room d.mem n q s p (block_there f.block room d.mem n q s, tt) lt in
        cond_ok (can (op.copy f.block p) d.mem) (copied_or_pushed (copy d.mem f.block p) f.block (scalar_of (content_or_null (content_if_found d.mem (base_spot d.mem p.base)))) d.mem go)
        (can_now f.block room (op.copy f.block p) d.mem c) (by (base_spot d.mem p.base) refl c)
      where
        by : (o : Option Spot) → base_spot d.mem (variable f.block x) ≡ o → Can (op.copy f.block (variable_place f.block x [])) d.mem
            → P (copied_or_pushed (copy_of_spot o d.mem f.block) f.block (scalar_of (content_or_null (content_if_found d.mem o))) d.mem go)
        by None e c = pushed_ok f.block room scalar.Null d.mem n q go s tt lt h
        by (Some spot) e c =
            h (copy_of_spot (Some spot) d.mem f.block).0
            (subst (λ o. Holds f.block room (copy_of_spot o d.mem f.block).0 (suc n) q) e
            (copy_holds f.block room d.mem n q s (variable_place f.block x []) c (ap (λ o. (copy_of_spot o d.mem f.block).1) e)))

    written_ok : (r : Mem × Wrote) (p : Place) (d : Data) (go : Data → Move) → r.1 ≡ Done → P (go (record d { mem = r.0; writes = d.writes + cost_of d.mem p })) → P (written r p f d go)
    written_ok (m, Done) p d go e h = h
    written_ok (m, NotArray) p d go e h = absurd (cc)
    written_ok (m, Full) p d go e h = absurd (cc)
    written_ok (m, Limit) p d go e h = absurd (cc)

    pub assign_ok : (x : ℕ) (d : Data) (n q : ℕ) (go : Data → Move) → Holds f.block room d.mem (suc n) q
        → ((k : Mem) (w : ℕ) → Holds f.block room k n (suc q) → P (go (record d { mem = k; writes = w }))) → P (assigns (variable_place f.block x []) f d go)
    assign_ok x d n q go s h =
        let p = variable_place f.block x [] in
        let c = can_assign f.block room d.mem n q x s in
        cond_ok (can (op.assign f.block p) d.mem) (written (assign d.mem f.block p) p f d go) (can_now f.block room (op.assign f.block p) d.mem c)
        (written_ok (assign d.mem f.block p) p d go (assign_done f.block room d.mem x)
        (h (assign d.mem f.block p).0 (d.writes + cost_of d.mem p) (assign_holds f.block room d.mem n q x s c)))
