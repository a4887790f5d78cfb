-- Lists all of whose elements another list has.
use Rattle.std.proofs.Common.{◌≡◌, ◌⊎◌, Bool, true, false, List, [], ◌∷◌, ◌++◌, map, flat_map, refl, sym, ◌∙◌, ap, subst}
use mathlib.Core.Logic.{inl, inr}
use Rattle.php_legality.specs.Lists.{Has, where_true}
use Rattle.php_legality.proofs.HasLemmas.{has_left, has_right, has_either, has_apart, has_together, map_joined, flat_map_joined}

abbrev pub Sub : {A : Type 0} → List A → List A → Type 0
Sub xs ys = (b : _) → Has xs b → Has ys b

pub sub_same : {A : Type 0} (xs ys : List A) → xs ≡ ys → Sub xs ys
sub_same xs ys same b has = subst (λ zs. Has zs b) same has

pub sub_behind : {A : Type 0} (xs ys zs : List A) → Sub xs ys → Sub ys zs → Sub xs zs
sub_behind xs ys zs one two b has = two b (one b has)

pub sub_left : {A : Type 0} (xs ys zs : List A) → Sub xs ys → Sub xs (ys ++ zs)
sub_left xs ys zs one b has = has_left ys zs b (one b has)

pub sub_right : {A : Type 0} (xs ys zs : List A) → Sub xs zs → Sub xs (ys ++ zs)
sub_right xs ys zs one b has = has_right ys zs b (one b has)

pub sub_all : {A : Type 0} (xs : List A) → Sub xs xs
sub_all xs b has = has

pub sub_join : {A : Type 0} (xs ys zs : List A) → Sub xs zs → Sub ys zs → Sub (xs ++ ys) zs
sub_join xs ys zs one two b has = from_side (has_either xs ys b has)
  where
    from_side : Has xs b ⊎ Has ys b → Has zs b
    from_side (inl h) = one b h
    from_side (inr h) = two b h

-- ---- elements of which each gives several

pub sub_apart : {A B : Type 0} (f g : A → List B) (xs : List A) (zs : List B) → Sub (flat_map f xs) zs → Sub (flat_map g xs) zs → Sub (flat_map (λ x. f x ++ g x) xs) zs
sub_apart f g xs zs one two b has = sub_join (flat_map f xs) (flat_map g xs) zs one two b (has_apart f g xs b has)

pub sub_first : {A B : Type 0} (f g : A → List B) (xs : List A) (ys : List B) → Sub ys (flat_map f xs) → Sub ys (flat_map (λ x. f x ++ g x) xs)
sub_first f g xs ys one b has = has_together f g xs b (has_left (flat_map f xs) (flat_map g xs) b (one b has))

pub sub_second : {A B : Type 0} (f g : A → List B) (xs : List A) (ys : List B) → Sub ys (flat_map g xs) → Sub ys (flat_map (λ x. f x ++ g x) xs)
sub_second f g xs ys one b has = has_together f g xs b (has_right (flat_map f xs) (flat_map g xs) b (one b has))

-- ---- seen by a function

has_map : {A B : Type 0} (f : A → B) (ys : List A) (x : A) → Has ys x → Has (map f ys) (f x)
has_map f [] x has = absurd has
has_map f (y ∷ ys) x (inl is) = inl (ap f is)
has_map f (y ∷ ys) x (inr has) = inr (has_map f ys x has)

pub sub_map : {A B : Type 0} (f : A → B) (xs ys : List A) → Sub xs ys → Sub (map f xs) (map f ys)
sub_map f [] ys one b has = absurd has
sub_map f (x ∷ xs) ys one b (inl is) = subst (λ c. Has (map f ys) c) is (has_map f ys x (one x (inl refl)))
sub_map f (x ∷ xs) ys one b (inr has) = sub_map f xs ys (λ c h. one c (inr h)) b has

pub sub_map_join : {A B : Type 0} (f : A → B) (xs ys : List A) (zs : List B) → Sub (map f xs) zs → Sub (map f ys) zs → Sub (map f (xs ++ ys)) zs
sub_map_join f xs ys zs one two b has = sub_join (map f xs) (map f ys) zs one two b (subst (λ l. Has l b) (map_joined f xs ys) has)

pub sub_map_left : {A B : Type 0} (f : A → B) (xs ys : List A) (zs : List B) → Sub zs (map f xs) → Sub zs (map f (xs ++ ys))
sub_map_left f xs ys zs one b has = subst (λ l. Has l b) (sym (map_joined f xs ys)) (has_left (map f xs) (map f ys) b (one b has))

pub sub_map_right : {A B : Type 0} (f : A → B) (xs ys : List A) (zs : List B) → Sub zs (map f ys) → Sub zs (map f (xs ++ ys))
sub_map_right f xs ys zs one b has = subst (λ l. Has l b) (sym (map_joined f xs ys)) (has_right (map f xs) (map f ys) b (one b has))

-- ---- tests

mapped : {A B : Type 0} (t : Bool) (f : A → B) (x : A) → where_true t (f x) ≡ map f (where_true t x)
mapped true f x = refl
mapped false f x = refl

pub flat_where : {A B C : Type 0} (g : B → C) (test : A → Bool) (h : A → B) (xs : List A) → flat_map (λ x. where_true (test x) (g (h x))) xs ≡ map g (flat_map (λ x. where_true (test x) (h x)) xs)
flat_where g test h [] = refl
flat_where g test h (x ∷ xs) =
    ap (λ zs. where_true (test x) (g (h x)) ++ zs) (flat_where g test h xs)
    ∙ ap (λ ys. ys ++ map g (flat_map (λ y. where_true (test y) (h y)) xs)) (mapped (test x) g (h x))
    ∙ sym (map_joined g (where_true (test x) (h x)) (flat_map (λ y. where_true (test y) (h y)) xs))
