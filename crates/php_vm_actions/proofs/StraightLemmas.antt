-- Operations that are made one after another.
use Rattle.std.proofs.Common.{◌≡◌, ◌≢◌, ℕ, zero, suc, ◌-◌, ◌<◌, Bool, true, false, cond, List, [], ◌∷◌, ◌++◌, Option, Some, None, refl, sym, ap, ◌∙◌, arith}
use Rattle.std.specs.Prelude.{nat_eq}
use Rattle.php_value.specs.declared.scalar.Scalar.{Scalar}
use Rattle.php_memdef.specs.declared.answer.Read.{Read}
use Rattle.php_memdef.specs.declared.answer.Read.TheVariants.{Found, Absent}
use Rattle.php_memdef.specs.declared.answer.Wrote.{Wrote}
use Rattle.php_memdef.specs.declared.answer.Wrote.TheVariants.{Done, NotArray, Full, Limit}
use Rattle.php_memdef.specs.Contents.{Mem}
use Rattle.php_memdef.specs.Operations.{Operation, Can, effect, answer}
use Rattle.php_memdef.specs.Operations as op
use Rattle.php_memdef.specs.Temporaries.{turn, drop_top}
use Rattle.php_memdef.specs.Deciders.{can}
use Rattle.php_memdef_laws.specs.Shapes.{Shape, shape, shape_after, in_block, if_done, with_one_if_found, with_one_if_made, without_top, joined_and_assigned}
use Rattle.php_memdef_laws.proofs.DecidedOperations.{can-decides}
use Rattle.php_memdef_laws.proofs.Shapes.Operations.{shapes}
use Rattle.php_machine.specs.Moves.{Wrong}
use Rattle.php_actions.specs.Data.{Move, on}
use Rattle.php_actions.specs.Steps.{drops, sink, trim, pushed, replaced}
use Rattle.php_vm_actions.specs.Straight.{CanAll, all, behind, drops_of, sink_of, trim_of, replace_of, Kept, IsNoLeave, LeaveNone}

-- ---- blocks stay

in_block-there : (b c : ℕ) (s t : Shape) → s.there ≡ true → t.there ≡ true → (in_block b c s t).there ≡ true
in_block-there b c s t h k = by (nat_eq c b)
  where
    by : (x : Bool) → (cond x s t).there ≡ true
    by true = h
    by false = k

done-there : (w : Wrote) (s t : Shape) → s.there ≡ true → t.there ≡ true → (if_done w s t).there ≡ true
done-there Done s t h k = h
done-there NotArray s t h k = k
done-there Full s t h k = k
done-there Limit s t h k = k

found-there : (r : Read) (s : Shape) → s.there ≡ true → (with_one_if_found r s).there ≡ true
found-there Found s h = h
found-there Absent s h = h

made-there : (o : Option ℕ) (s : Shape) → s.there ≡ true → (with_one_if_made o s).there ≡ true
made-there None s h = h
made-there (Some n) s h = h

there_after : (o : Operation) (m : Mem) (c : ℕ) → IsNoLeave o → Can o m → (shape m c).there ≡ true → (shape_after o m c).there ≡ true
there_after (op.enter b room) m c stays can h = in_block-there b c (record { there = true; room = room; temps = [] }) (shape m c) refl h
there_after (op.leave b) m c stays can h = absurd stays
there_after (op.push b v) m c stays can h = in_block-there b c _ _ can.block h
there_after (op.push_array b) m c stays can h = in_block-there b c _ _ can.block h
there_after (op.push_object b k) m c stays can h = in_block-there b c _ _ can.block h
there_after (op.copy b p) m c stays can h = in_block-there b c _ _ (found-there (answer (op.copy b p) m) (shape m b) can.block) h
there_after (op.assign b p) m c stays can h = in_block-there b c _ _ (done-there (answer (op.assign b p) m) (without_top (shape m b)) (shape m b) can.block can.block) h
there_after (op.link b p) m c stays can h = in_block-there b c _ _ (done-there (answer (op.link b p) m) _ (shape m b) can.block can.block) h
there_after (op.bind b p) m c stays can h = in_block-there b c _ _ (done-there (answer (op.bind b p) m) (without_top (shape m b)) (shape m b) can.block can.block) h
there_after (op.settle b) m c stays can h = in_block-there b c _ _ can.block h
there_after (op.pass b d) m c stays can h =
    in_block-there d c _ _ (in_block-there b d (without_top (shape m b)) (shape m d) can.from_block can.to_block) (in_block-there b c (without_top (shape m b)) (shape m c) can.from_block h)
there_after (op.turn b n) m c stays can h = in_block-there b c _ _ can.block h
there_after (op.reserve b n) m c stays can h = in_block-there b c _ _ can h
there_after (op.append b p) m c stays can h = in_block-there b c _ _ (done-there (joined_and_assigned m b p) (without_top (shape m b)) (shape m b) can.block can.block) h
there_after (op.unset b p) m c stays can h = h
there_after (op.unset_last b p) m c stays can h = h
there_after (op.forget b k) m c stays can h = h
there_after (op.shed b) m c stays can h = h
there_after (op.drop_top b) m c stays can h = in_block-there b c _ _ can.block h
there_after (op.fall b) m c stays can h = h
there_after (op.make_object b class finishing) m c stays can h = in_block-there b c _ _ (made-there (answer (op.make_object b class finishing) m) (shape m b) can.block) h
there_after (op.clone_object b) m c stays can h = h
there_after (op.finish k) m c stays can h = h
there_after (op.spare k) m c stays can h = h
there_after (op.attach k f) m c stays can h = h

pub kept_one : (o : Operation) (m : Mem) → IsNoLeave o → Can o m → Kept m (effect o m)
kept_one o m stays can = record { blocks = λ c h. ap (λ s. s.there) (shapes o m can c) ∙ there_after o m c stays can h }

pub kept_none : (m : Mem) → Kept m m
kept_none m = record { blocks = λ c h. h }

pub kept_both : (l m n : Mem) → Kept l m → Kept m n → Kept l n
kept_both l m n h k = record { blocks = λ c b. k.blocks c (h.blocks c b) }

pub kept_all : (os : List Operation) (m : Mem) → LeaveNone os → CanAll os m → Kept m (all os m)
kept_all [] m stays can = kept_none m
kept_all (o ∷ os) m stays can = kept_both m (effect o m) (all os (effect o m)) (kept_one o m stays.0 can.0) (kept_all os (effect o m) stays.1 can.1)

-- ---- moves behind operations

on_goes : (t : Bool) (n : Mem) (go : Mem → Move) → on t n go ≢ Wrong → (t ≡ true) × (on t n go ≡ go n)
on_goes true n go h = (refl, refl)
on_goes false n go h = absurd (h refl)

pub behind_goes : (os : List Operation) (m : Mem) (go : Mem → Move) → behind os m go ≢ Wrong → CanAll os m × (behind os m go ≡ go (all os m))
behind_goes [] m go h = (tt, refl)
behind_goes (o ∷ os) m go h =
    let t = on_goes (can o m) (effect o m) (λ n. behind os n go) h in
    let r = behind_goes os (effect o m) go (λ e. h (t.1 ∙ e)) in
    (((can-decides m o).0 t.0, r.0), t.1 ∙ r.1)

pub behind_append : (os ps : List Operation) (m : Mem) (go : Mem → Move) → behind (os ++ ps) m go ≡ behind os m (λ n. behind ps n go)
behind_append [] ps m go = refl
behind_append (o ∷ os) ps m go = λ i. on (can o m) (effect o m) (λ n. behind_append os ps n go i)

pub drops_behind : (b n : ℕ) (m : Mem) (go : Mem → Move) → drops b n m go ≡ behind (drops_of b n) m go
drops_behind b zero m go = refl
drops_behind b (suc n) m go = λ i. on (can (op.drop_top b) m) (drop_top m b) (λ l. drops_behind b n l go i)

pub sink_behind : (b n : ℕ) (m : Mem) (go : Mem → Move) → sink b n m go ≡ behind (sink_of b n) m go
sink_behind b zero m go = refl
sink_behind b (suc n) m go = λ i. on (can (op.turn b (suc (suc n))) m) (turn m b (suc (suc n))) (λ l. drops_behind b (suc n) l go i)

pub trim_behind : (b n : ℕ) (m : Mem) (go : Mem → Move) → trim b n m go ≡ behind (trim_of b n) m go
trim_behind b zero m go = refl
trim_behind b (suc n) m go =
    λ i. on (can (op.turn b (suc (suc n))) m) (turn m b (suc (suc n))) (λ k. on (can (op.turn b (suc n)) k) (turn k b (suc n)) (λ l. drops_behind b (suc n) l go i))

pub drops_push_behind : (b n : ℕ) (v : Scalar) (m : Mem) (go : Mem → Move) → drops b n m (λ l. pushed b v l go) ≡ behind (drops_of b n ++ op.push b v ∷ []) m go
drops_push_behind b n v m go = drops_behind b n m (λ l. pushed b v l go) ∙ sym (behind_append (drops_of b n) (op.push b v ∷ []) m go)

pub replaced_behind : (b n : ℕ) (v : Scalar) (m : Mem) (go : Mem → Move) → replaced b n v m go ≡ behind (replace_of b n v) m go
replaced_behind b n v m go = λ i. on (can (op.turn b n) m) (turn m b n) (λ l. drops_push_behind b n v l go i)

-- ---- none of them takes a block away

pub drops_leave_none : (b n : ℕ) → LeaveNone (drops_of b n)
drops_leave_none b zero = tt
drops_leave_none b (suc n) = (tt, drops_leave_none b n)

pub append_leaves_none : (os ps : List Operation) → LeaveNone os → LeaveNone ps → LeaveNone (os ++ ps)
append_leaves_none [] ps h k = k
append_leaves_none (o ∷ os) ps h k = (h.0, append_leaves_none os ps h.1 k)

pub sink_leaves_none : (b n : ℕ) → LeaveNone (sink_of b n)
sink_leaves_none b zero = tt
sink_leaves_none b (suc n) = (tt, drops_leave_none b (suc n))

pub trim_leaves_none : (b n : ℕ) → LeaveNone (trim_of b n)
trim_leaves_none b zero = tt
trim_leaves_none b (suc n) = (tt, (tt, drops_leave_none b (suc n)))

pub replace_leaves_none : (b n : ℕ) (v : Scalar) → LeaveNone (replace_of b n v)
replace_leaves_none b n v = (tt, append_leaves_none (drops_of b n) (op.push b v ∷ []) (drops_leave_none b n) (tt, tt))

-- ---- the lists in two parts

pub can_append : (os ps : List Operation) (m : Mem) → CanAll (os ++ ps) m → CanAll os m × CanAll ps (all os m)
can_append [] ps m h = (tt, h)
can_append (o ∷ os) ps m h = let r = can_append os ps (effect o m) h.1 in ((h.0, r.0), r.1)

pub all_append : (os ps : List Operation) (m : Mem) → all (os ++ ps) m ≡ all ps (all os m)
all_append [] ps m = refl
all_append (o ∷ os) ps m = all_append os ps (effect o m)

-- ---- a drop more

pub drops_left : (b n : ℕ) → 0 < n → drops_of b n ≡ op.drop_top b ∷ drops_of b (n - 1)
drops_left b n h = ap (drops_of b) (sym (pred_of n h))
  where
    pred_of : (k : ℕ) → 0 < k → suc (k - 1) ≡ k
    pred_of k j = omega (arith, j)
