-- A release where no object is there: it goes on until nothing is left.
use Rattle.std.proofs.Common.{◌≡◌, ℕ, zero, suc, Bool, true, false, List, [], ◌∷◌, length, Option, Some, None, refl, sym, ap, ◌∙◌, subst, arith, inl, inr}
use Rattle.std.specs.Prelude.{is_some, unwrap_or}
use Rattle.std.proofs.lemmas.Bool.Decides.{eqb_tells}
use Rattle.php_memdef.specs.declared.answer.Fallen.TheVariants.{Nothing}
use Rattle.php_memdef.specs.Numbered.{numbered, with_numbered}
use Rattle.php_memdef.specs.Contents.{null, truth, int, text, array, object, Item, value, link, Object, Mem, no_object, scope_of, object_of}
use Rattle.php_memdef.specs.Releases.{Turn, goes_on, stops, link_dropped, handle_dropped, is_held, is_object_held, item_released, first_released, turn, fall_after, fall_within, turns, fall}
use Rattle.php_memdef.specs.Temporaries.{with_falling}
use Rattle.php_memdef.specs.Deciders.{is_object}
use Rattle.php_memdef.specs.Operations.{effect}
use Rattle.php_memdef.specs.Operations as op
use Rattle.php_memdef_laws.proofs.NumberedLemmas.{numbered-with_same, numbered-with_other}
use Rattle.php_memdef_laws.proofs.EndLemmas.{fall_ends}
use Rattle.php_memdef_laws.proofs.Held.Operations.{effect-sound}
use Rattle.php_memdef_laws.proofs.ObjectLemmas.{fall_fewer}
use Rattle.php_memdef_laws.proofs.Shapes.Operations.{shapes}
use Rattle.php_runnable.proofs.Blocks.{Holds, block_there}

abbrev HasNone : Mem → Type 0
HasNone m = (h : ℕ) → numbered m.objects h ≡ None

abbrev TurnGoes : Turn → Type 0
TurnGoes (goes_on m) = HasNone m
TurnGoes (stops m answer) = answer ≡ Nothing

link-none : (held : Bool) (m : Mem) (b : ℕ) (rest : List Item) (s : ℕ) → HasNone m → HasNone (link_dropped held m b rest s)
link-none true m b rest s none = none
link-none false m b rest s none = none

removed-none : (m : Mem) (g h : ℕ) → HasNone m → numbered (with_numbered m.objects g None) h ≡ None
removed-none m g h none = elim (eqb_tells h g) [
  | inl e ↦ ap (numbered (with_numbered m.objects g None)) e.1 ∙ numbered-with_same m.objects g None
  | inr e ↦ numbered-with_other m.objects g h None e.1 ∙ none h
]

handle-goes : (held : Bool) (m : Mem) (b : ℕ) (rest : List Item) (g : ℕ) → HasNone m → TurnGoes (handle_dropped held no_object m b rest g)
handle-goes true m b rest g none = none
handle-goes false m b rest g none = λ h. removed-none m g h none

item-goes : (i : Item) (m : Mem) (b : ℕ) (rest : List Item) → HasNone m → TurnGoes (item_released i m b rest)
item-goes (link s) m b rest none = link-none (is_held (with_falling m b rest) s) m b rest s none
item-goes (value null) m b rest none = none
item-goes (value (truth x)) m b rest none = none
item-goes (value (int i)) m b rest none = none
item-goes (value (text bytes)) m b rest none = none
item-goes (value (array t)) m b rest none = none
item-goes (value (object g)) m b rest none =
    let missing : object_of m g ≡ no_object = ap (λ o. unwrap_or o no_object) (none g) in
    subst (λ o. TurnGoes (handle_dropped (is_object_held (with_falling m b rest) g) o m b rest g)) (sym missing) (handle-goes (is_object_held (with_falling m b rest) g) m b rest g none)

first-goes : (is : List Item) (m : Mem) (b : ℕ) → HasNone m → TurnGoes (first_released is m b)
first-goes [] m b none = refl
first-goes (i ∷ rest) m b none = item-goes i m b rest none

within-ends : (k : ℕ) (m : Mem) (b : ℕ) → HasNone m → (fall_within k m b).1 ≡ Nothing
within-ends zero m b none = refl
within-ends (suc k) m b none = by (turn m b) (first-goes (scope_of m b).falling m b none) (λ n h. within-ends k n b h)
  where
    by : (t : Turn) → TurnGoes t → ((n : Mem) → HasNone n → (fall_within k n b).1 ≡ Nothing) → (fall_after t (λ n. fall_within k n b)).1 ≡ Nothing
    by (goes_on n) h go_on = go_on n h
    by (stops n answer) h go_on = h

none_there : (o : Option Object) → is_some o ≡ false → o ≡ None
none_there None e = refl
none_there (Some x) e = absurd (cc)

pub release-ends : (m : Mem) (b : ℕ) → ((h : ℕ) → is_object m h ≡ false) → (fall m b).1 ≡ Nothing
unfolding fall
release-ends m b none = within-ends (suc (turns m b)) m b (λ h. none_there (numbered m.objects h) (none h))

pub release-holds : (b room : ℕ) (m : Mem) (n q : ℕ) → Holds b room m n q → Holds b room (fall m b).0 n 0
release-holds b room m n q s =
    let c = block_there b room m n q s in
    record {
      sound = effect-sound (op.fall b) m s.sound c;
      no_object = λ h. by h (is_object (fall m b).0 h) refl;
      looks = shapes (op.fall b) m c b ∙ s.looks;
      falling = omega (arith, ap length (fall_ends m b (release-ends m b s.no_object)));
    }
  where
    by : (h : ℕ) (t : Bool) → is_object (fall m b).0 h ≡ t → is_object (fall m b).0 h ≡ false
    by h false e = e
    by h true e =
        let before : is_object m h ≡ true = fall_fewer m b h e in
        let none = s.no_object h in
        absurd (cc)
