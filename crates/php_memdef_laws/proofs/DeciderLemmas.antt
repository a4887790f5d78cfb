-- The tests of conditions tell exactly when an operation may be made.
use Rattle.std.proofs.Common.{◌≡◌, ℕ, zero, suc, ◌<◌, ◌≤◌, ◌^◌, List, [], ◌∷◌, ◌++◌, length, refl, sym, ◌∙◌, ap, arith, inl, inr, nat_lt, nat_le, ℤ, pos, negsuc}
use Rattle.std.specs.Prelude.{Bool, true, false, ◌&&◌, ◌||◌, not, nat_eq, ◌≢◌, Option, Some, None, is_some, unwrap_or}
use Rattle.std.specs.Bool.{Decides}
use Rattle.std.proofs.lemmas.Bool.{false≢true, not-true, leb-true, le-leb, ltb-true, lt-ltb, eq-eqb, eqb-true, or_cases, or_left, or_right, not_from_false}
use Rattle.std.proofs.lemmas.Bool.Decides.{eqb_tells, Decides-like, Decides-and, Decides-not, Decides-ltb}
use Rattle.php_value.specs.declared.key.Key.{Key}
use Rattle.php_value.specs.declared.key.Key.TheVariants.{Int, Str}
use Rattle.php_value.specs.declared.scalar.Scalar.{Scalar}
use Rattle.php_value.specs.declared.scalar.Scalar.TheVariants as scalar
use Rattle.php_value.specs.Decimal.{fits_int}
use Rattle.php_memdef.specs.declared.place.Base.{Base}
use Rattle.php_memdef.specs.declared.place.Base.TheVariants.{Var, Property as OfObject, Static, Temp}
use Rattle.php_memdef.specs.declared.place.Step.{Step}
use Rattle.php_memdef.specs.declared.place.Step.TheVariants.{At, Push}
use Rattle.php_memdef.specs.declared.place.Place.{Place}
use Rattle.php_memdef.specs.Numbered.{Numbered, numbered}
use Rattle.php_memdef.specs.Contents.{Content, null, truth, int, text, array, object, Item, value, link, Variable, Scope, Object, Mem, no_object, scope_of}
use Rattle.php_memdef.specs.Places.{nth_item}
use Rattle.php_memdef.specs.Views.{is_link_item}
use Rattle.php_memdef.specs.Sound.{TEXT_LIMIT, IsInt, IsShort, IsKeyWithin}
use Rattle.php_memdef.specs.Conditions.{HasRoom, HasFallingRoom, HasTemp, IsBase, AreStepsWithin, IsPlace, IsBelowTop, HasStep, IsPointed, IsRemovable, IsLinkable, IsScalarWithin}
use Rattle.php_memdef.specs.Deciders.{is_block, is_object, has_room, has_falling_room, has_temp, is_value_item, is_handle_item, is_short, is_key_within, are_steps_within, is_scalar_within, is_base, is_place, is_below_top, has_step, is_pointed, is_removable, is_linkable, no_variables, no_items, is_frame, has_frame, is_no_frame, is_no_other_frame, are_joinable}

pub flag : (b : Bool) → Decides b (b ≡ true)
flag b = (λ h. h, λ h. h)

always : Decides true (Unit {0})
always = (λ h. tt, λ h. refl)

never : Decides false ⊥
never = (λ h. absurd (false≢true h), λ h. absurd h)

pub le-decides : (a b : ℕ) → Decides (nat_le a b) (a ≤ b)
le-decides a b = (leb-true a b, le-leb a b)

-- what is false decides what can't be
nothing-decides : {P : Type 0} → (P → ⊥) → Decides false P
nothing-decides against = (λ h. absurd (false≢true h), λ p. absurd (against p))

short-decides : (bytes : List ℕ) → Decides (is_short bytes) (IsShort bytes)
short-decides bytes = le-decides (length bytes) TEXT_LIMIT

int-decides : (i : ℤ) → Decides (fits_int i) (IsInt i)
int-decides (pos n) = Decides-like (nat_lt n (2 ^ 63)) (λ h. record { sfits = h }) (λ h. h.sfits) (Decides-ltb n (2 ^ 63))
int-decides (negsuc n) = Decides-like (nat_lt n (2 ^ 63)) (λ h. record { sfits = h }) (λ h. h.sfits) (Decides-ltb n (2 ^ 63))

key-decides : (k : Key) → Decides (is_key_within k) (IsKeyWithin k)
key-decides (Int i) = int-decides i
key-decides (Str bytes) = short-decides bytes

steps-decide : (path : List Step) → Decides (are_steps_within path) (AreStepsWithin path)
steps-decide [] = always
steps-decide (At k ∷ path) = Decides-and (is_key_within k) (are_steps_within path) (key-decides k) (steps-decide path)
steps-decide (Push ∷ path) = steps-decide path

pub scalar-decides : (v : Scalar) → Decides (is_scalar_within v) (IsScalarWithin v)
scalar-decides scalar.Null = always
scalar-decides (scalar.Bool b) = always
scalar-decides (scalar.Int i) = int-decides i
scalar-decides (scalar.Str bytes) = short-decides bytes

module _ (m : Mem) where
  pub room-decides : (b : ℕ) → Decides (has_room m b) (HasRoom m b)
  room-decides b = Decides-ltb (length (scope_of m b).temps) (scope_of m b).room

  pub falling-decides : (b : ℕ) → Decides (has_falling_room m b) (HasFallingRoom m b)
  falling-decides b = Decides-ltb (length (scope_of m b).falling) (scope_of m b).room

  pub temp-decides : (b : ℕ) → Decides (has_temp m b) (HasTemp m b)
  temp-decides b = Decides-ltb 0 (length (scope_of m b).temps)

  base-decides : (base : Base) → Decides (is_base m base) (IsBase m base)
  base-decides (Var b n) = flag (is_block m b.0)
  base-decides (OfObject h p) = Decides-and (is_object m h.0) (is_short p.name) (flag (is_object m h.0)) (short-decides p.name)
  base-decides (Static i) = always
  base-decides (Temp b n) = Decides-and (is_block m b.0) (nat_lt n (length (scope_of m b.0).temps)) (flag (is_block m b.0)) (Decides-ltb n (length (scope_of m b.0).temps))

  pub place-decides : (p : Place) → Decides (is_place m p) (IsPlace m p)
  place-decides p = Decides-and (is_base m p.base) (are_steps_within p.path) (base-decides p.base) (steps-decide p.path)

not_top-decides : (c b n : ℕ) → Decides (not (nat_eq c b) || nat_lt 0 n) (c ≡ b → 0 < n)
not_top-decides c b n = (
  λ h d. elim (or_cases (not (nat_eq c b)) (nat_lt 0 n) h) [
    | inl x ↦ absurd (false≢true (sym (not-true (nat_eq c b) x) ∙ eq-eqb c b d))
    | inr y ↦ ltb-true 0 n y
  ],
  λ f. elim (eqb_tells c b) [
    | inl e ↦ or_right (not (nat_eq c b)) (nat_lt 0 n) (lt-ltb 0 n (f e.1))
    | inr e ↦ or_left (not (nat_eq c b)) (nat_lt 0 n) (not_from_false (nat_eq c b) e.0)
  ],
)

pub below_top-decides : (b : ℕ) (base : Base) → Decides (is_below_top b base) (IsBelowTop b base)
below_top-decides b (Var c n) = always
below_top-decides b (OfObject h p) = always
below_top-decides b (Static i) = always
below_top-decides b (Temp c n) = not_top-decides c.0 b n

step-decides : (path : List Step) → Decides (has_step path) (HasStep path)
step-decides [] = never
step-decides (step ∷ path) = always

pub pointed-decides : (base : Base) (path : List Step) → Decides (is_pointed base path) (IsPointed base path)
pointed-decides (Var b n) path = always
pointed-decides (OfObject h p) path = always
pointed-decides (Static i) path = always
pointed-decides (Temp b n) path = step-decides path

pub removable-decides : (base : Base) (path : List Step) → Decides (is_removable base path) (IsRemovable base path)
removable-decides (Var b n) path = always
removable-decides (OfObject h p) path = always
removable-decides (Static i) path = step-decides path
removable-decides (Temp b n) path = step-decides path

-- what is on top

pub value-decides : (o : Option Item) → Decides (is_value_item o) ((c : Content) × (o ≡ Some (value c)))
value-decides None = nothing-decides (λ p. no p.0 p.1)
  where
    no : (c : Content) → None ≡ Some (value c) → ⊥
    no c e = cc
value-decides (Some (value c)) = (λ h. (c, refl), λ p. refl)
value-decides (Some (link s)) = nothing-decides (λ p. no p.0 p.1)
  where
    no : (c : Content) → Some (link s) ≡ Some (value c) → ⊥
    no c e = cc

pub link-decides : (o : Option Item) → Decides (is_link_item o) ((s : ℕ) × (o ≡ Some (link s)))
link-decides None = nothing-decides (λ p. no p.0 p.1)
  where
    no : (s : ℕ) → None ≡ Some (link s) → ⊥
    no s e = cc
link-decides (Some (value c)) = nothing-decides (λ p. no p.0 p.1)
  where
    no : (s : ℕ) → Some (value c) ≡ Some (link s) → ⊥
    no s e = cc
link-decides (Some (link s)) = (λ h. (s, refl), λ p. refl)

abbrev IsHandle : Option Item → Type 0
IsHandle o = (h : ℕ) × (o ≡ Some (value (object h)))

handle_of_content-decides : (c : Content) → Decides (is_handle_item (Some (value c))) (IsHandle (Some (value c)))
handle_of_content-decides (object h) = (λ e. (h, refl), λ p. refl)
handle_of_content-decides null = nothing-decides (λ p. no p.0 p.1)
  where
    no : (h : ℕ) → Some (value null) ≡ Some (value (object h)) → ⊥
    no h e = cc
handle_of_content-decides (truth b) = nothing-decides (λ p. no p.0 p.1)
  where
    no : (h : ℕ) → Some (value (truth b)) ≡ Some (value (object h)) → ⊥
    no h e = cc
handle_of_content-decides (int i) = nothing-decides (λ p. no p.0 p.1)
  where
    no : (h : ℕ) → Some (value (int i)) ≡ Some (value (object h)) → ⊥
    no h e = cc
handle_of_content-decides (text bytes) = nothing-decides (λ p. no p.0 p.1)
  where
    no : (h : ℕ) → Some (value (text bytes)) ≡ Some (value (object h)) → ⊥
    no h e = cc
handle_of_content-decides (array t) = nothing-decides (λ p. no p.0 p.1)
  where
    no : (h : ℕ) → Some (value (array t)) ≡ Some (value (object h)) → ⊥
    no h e = cc

pub handle-decides : (o : Option Item) → Decides (is_handle_item o) (IsHandle o)
handle-decides None = nothing-decides (λ p. no p.0 p.1)
  where
    no : (h : ℕ) → None ≡ Some (value (object h)) → ⊥
    no h e = cc
handle-decides (Some (link s)) = nothing-decides (λ p. no p.0 p.1)
  where
    no : (h : ℕ) → Some (link s) ≡ Some (value (object h)) → ⊥
    no h e = cc
handle-decides (Some (value c)) = handle_of_content-decides c

pub linkable-decides : (m : Mem) (base : Base) (path : List Step) → Decides (is_linkable m base path) (IsLinkable m base path)
linkable-decides m (Var b n) path = always
linkable-decides m (OfObject h p) path = always
linkable-decides m (Static i) path = always
linkable-decides m (Temp b n) [] = link-decides (nth_item (scope_of m b.0).temps n)
linkable-decides m (Temp b n) (step ∷ path) = always

-- texts

abbrev AreTexts : Option Content → Option Item → Type 0
AreTexts o i = (before : List ℕ) × ((behind : List ℕ) × ((o ≡ Some (text before)) × ((i ≡ Some (value (text behind))) × IsShort (before ++ behind))))

no_text : (o : Option Content) (i : Option Item) → ((bytes : List ℕ) → o ≡ Some (text bytes) → ⊥) → AreTexts o i → ⊥
no_text o i against p = against p.0 p.1.1.0

no_text_on_top : (o : Option Content) (i : Option Item) → ((bytes : List ℕ) → i ≡ Some (value (text bytes)) → ⊥) → AreTexts o i → ⊥
no_text_on_top o i against p = against p.1.0 p.1.1.1.0

behind-decides : (before : List ℕ) (i : Option Item) → Decides (are_joinable (Some (text before)) i) (AreTexts (Some (text before)) i)
behind-decides before None = nothing-decides (no_text_on_top (Some (text before)) None (λ bytes e. cc))
behind-decides before (Some (link s)) = nothing-decides (no_text_on_top (Some (text before)) (Some (link s)) (λ bytes e. cc))
behind-decides before (Some (value null)) = nothing-decides (no_text_on_top (Some (text before)) (Some (value null)) (λ bytes e. cc))
behind-decides before (Some (value (truth b))) = nothing-decides (no_text_on_top (Some (text before)) (Some (value (truth b))) (λ bytes e. cc))
behind-decides before (Some (value (int z))) = nothing-decides (no_text_on_top (Some (text before)) (Some (value (int z))) (λ bytes e. cc))
behind-decides before (Some (value (array t))) = nothing-decides (no_text_on_top (Some (text before)) (Some (value (array t))) (λ bytes e. cc))
behind-decides before (Some (value (object h))) = nothing-decides (no_text_on_top (Some (text before)) (Some (value (object h))) (λ bytes e. cc))
behind-decides before (Some (value (text behind))) = Decides-like (is_short (before ++ behind)) (λ h. (before, (behind, (refl, (refl, h))))) (short_of before behind) (short-decides (before ++ behind))
  where
    same : (xs ys : List ℕ) → Some (text xs) ≡ Some (text ys) → xs ≡ ys
    same xs ys e = cc

    same_on_top : (xs ys : List ℕ) → Some (value (text xs)) ≡ Some (value (text ys)) → xs ≡ ys
    same_on_top xs ys e = cc

    short_of : (xs ys : List ℕ) → AreTexts (Some (text xs)) (Some (value (text ys))) → IsShort (xs ++ ys)
    short_of xs ys p =
        let first : xs ≡ p.0 = same xs p.0 p.1.1.0 in
        let second : ys ≡ p.1.0 = same_on_top ys p.1.0 p.1.1.1.0 in
        let count : length (xs ++ ys) ≡ length (p.0 ++ p.1.0) = ap (λ zs. length (zs ++ ys)) first ∙ ap (λ zs. length (p.0 ++ zs)) second in
        let h : length (p.0 ++ p.1.0) ≤ TEXT_LIMIT = p.1.1.1.1 in
        omega (arith, count, h)

pub joinable-decides : (o : Option Content) (i : Option Item) → Decides (are_joinable o i) (AreTexts o i)
joinable-decides None i = nothing-decides (no_text None i (λ bytes e. cc))
joinable-decides (Some null) i = nothing-decides (no_text (Some null) i (λ bytes e. cc))
joinable-decides (Some (truth b)) i = nothing-decides (no_text (Some (truth b)) i (λ bytes e. cc))
joinable-decides (Some (int z)) i = nothing-decides (no_text (Some (int z)) i (λ bytes e. cc))
joinable-decides (Some (array t)) i = nothing-decides (no_text (Some (array t)) i (λ bytes e. cc))
joinable-decides (Some (object h)) i = nothing-decides (no_text (Some (object h)) i (λ bytes e. cc))
joinable-decides (Some (text before)) i = behind-decides before i

-- blocks that can be entered, and those that can be left

pub free-decides : (o : Option Scope) → Decides (not (is_some o)) (o ≡ None)
free-decides None = (λ h. refl, λ e. refl)
free-decides (Some f) = nothing-decides no
  where
    no : Some f ≡ None → ⊥
    no e = cc

pub variables-decide : (vs : List Variable) → Decides (no_variables vs) (vs ≡ [])
variables-decide [] = (λ h. refl, λ e. refl)
variables-decide (v ∷ vs) = nothing-decides no
  where
    no : v ∷ vs ≡ [] → ⊥
    no e = cc

pub items-decide : (is : List Item) → Decides (no_items is) (is ≡ [])
items-decide [] = (λ h. refl, λ e. refl)
items-decide (i ∷ is) = nothing-decides no
  where
    no : i ∷ is ≡ [] → ⊥
    no e = cc

module _ (b : ℕ) where
  frame-decides : (o : Option ℕ) → Decides (is_frame b o) (o ≡ Some b)
  frame-decides None = nothing-decides no
    where
      no : None ≡ Some b → ⊥
      no e = cc
  frame-decides (Some f) = (λ h. ap Some (eqb-true f b h), λ e. eq-eqb f b (same e))
    where
      same : Some f ≡ Some b → f ≡ b
      same e = cc

  object-decides : (o : Option Object) → Decides (has_frame b o) ((unwrap_or o no_object).frame ≡ Some b)
  object-decides None = frame-decides None
  object-decides (Some o) = frame-decides o.frame

  abbrev NoFrame : Numbered Object → Type 0
  NoFrame os = (h : ℕ) → (unwrap_or (numbered os h) no_object).frame ≢ Some b

  pub no_frame-decides : (os : Numbered Object) → Decides (is_no_frame b os) (NoFrame os)
  no_frame-decides [] = (λ t h e. no e, λ f. refl)
    where
      no : None ≡ Some b → ⊥
      no e = cc
  no_frame-decides (o ∷ os) = Decides-like (not (has_frame b o) && is_no_frame b os) both (λ f. (f 0, λ h. f (suc h))) (Decides-and (not (has_frame b o)) (is_no_frame b os) (Decides-not (has_frame b o) (object-decides o)) (no_frame-decides os))
    where
      both : ((unwrap_or o no_object).frame ≢ Some b) × NoFrame os → NoFrame (o ∷ os)
      both p zero = p.0
      both p (suc h) = p.1 h

  abbrev NoOtherFrame : ℕ → Numbered Object → Type 0
  NoOtherFrame h os = (g : ℕ) → (unwrap_or (numbered os g) no_object).frame ≡ Some b → g ≡ h

  pub no_other-decides : (h : ℕ) (os : Numbered Object) → Decides (is_no_other_frame b h os) (NoOtherFrame h os)
  no_other-decides h [] = (λ t g e. absurd (no e), λ f. refl)
    where
      no : None ≡ Some b → ⊥
      no e = cc
  no_other-decides zero (o ∷ os) = Decides-like (is_no_frame b os) forth (λ f g e. far g (f (suc g) e)) (no_frame-decides os)
    where
      far : (g : ℕ) → suc g ≡ 0 → ⊥
      far g e = omega (arith, e)

      forth : NoFrame os → NoOtherFrame 0 (o ∷ os)
      forth f zero e = refl
      forth f (suc g) e = absurd (f g e)
  no_other-decides (suc h) (o ∷ os) = Decides-like (not (has_frame b o) && is_no_other_frame b h os) forth (λ f. (λ e. far (f 0 e), λ g e. nearer g (f (suc g) e))) (Decides-and (not (has_frame b o)) (is_no_other_frame b h os) (Decides-not (has_frame b o) (object-decides o)) (no_other-decides h os))
    where
      far : 0 ≡ suc h → ⊥
      far e = omega (arith, e)

      nearer : (g : ℕ) → suc g ≡ suc h → g ≡ h
      nearer g e = omega (arith, e)

      forth : ((unwrap_or o no_object).frame ≢ Some b) × NoOtherFrame h os → NoOtherFrame (suc h) (o ∷ os)
      forth p zero e = absurd (p.0 e)
      forth p (suc g) e = ap suc (p.1 g e)
