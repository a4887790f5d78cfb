-- What lists have that are made of others.
use Rattle.std.proofs.Common.{◌≡◌, ◌⊎◌, List, [], ◌∷◌, ◌++◌, map, flat_map, refl, sym, ◌∙◌, ap}
use mathlib.Core.Logic.{inl, inr}
use Rattle.php_legality.specs.Lists.{Has}

pub has_left : {A : Type 0} (xs ys : List A) (x : A) → Has xs x → Has (xs ++ ys) x
has_left [] ys x has = absurd has
has_left (z ∷ xs) ys x (inl is) = inl is
has_left (z ∷ xs) ys x (inr has) = inr (has_left xs ys x has)

pub has_right : {A : Type 0} (xs ys : List A) (x : A) → Has ys x → Has (xs ++ ys) x
has_right [] ys x has = has
has_right (z ∷ xs) ys x has = inr (has_right xs ys x has)

pub has_either : {A : Type 0} (xs ys : List A) (x : A) → Has (xs ++ ys) x → Has xs x ⊎ Has ys x
has_either [] ys x has = inr has
has_either (z ∷ xs) ys x (inl is) = inl (inl is)
has_either (z ∷ xs) ys x (inr has) = shift (has_either xs ys x has)
  where
    shift : Has xs x ⊎ Has ys x → Has (z ∷ xs) x ⊎ Has ys x
    shift (inl h) = inl (inr h)
    shift (inr h) = inr h

pub append_assoc : {A : Type 0} (xs ys zs : List A) → (xs ++ ys) ++ zs ≡ xs ++ (ys ++ zs)
append_assoc [] ys zs = refl
append_assoc (x ∷ xs) ys zs = ap (λ rest. x ∷ rest) (append_assoc xs ys zs)

pub flat_map_joined : {A B : Type 0} (f : A → List B) (xs ys : List A) → flat_map f (xs ++ ys) ≡ flat_map f xs ++ flat_map f ys
flat_map_joined f [] ys = refl
flat_map_joined f (x ∷ xs) ys = ap (λ zs. f x ++ zs) (flat_map_joined f xs ys) ∙ sym (append_assoc (f x) (flat_map f xs) (flat_map f ys))

pub map_joined : {A B : Type 0} (f : A → B) (xs ys : List A) → map f (xs ++ ys) ≡ map f xs ++ map f ys
map_joined f [] ys = refl
map_joined f (x ∷ xs) ys = ap (λ zs. f x ∷ zs) (map_joined f xs ys)

pub map_flat_map : {A B C : Type 0} (g : B → C) (f : A → List B) (xs : List A) → map g (flat_map f xs) ≡ flat_map (λ x. map g (f x)) xs
map_flat_map g f [] = refl
map_flat_map g f (x ∷ xs) = map_joined g (f x) (flat_map f xs) ∙ ap (λ zs. map g (f x) ++ zs) (map_flat_map g f xs)

pub flat_map_map : {A B C : Type 0} (f : B → List C) (g : A → B) (xs : List A) → flat_map f (map g xs) ≡ flat_map (λ x. f (g x)) xs
flat_map_map f g [] = refl
flat_map_map f g (x ∷ xs) = ap (λ zs. f (g x) ++ zs) (flat_map_map f g xs)

pub flat_map_flat_map : {A B C : Type 0} (f : B → List C) (g : A → List B) (xs : List A) → flat_map f (flat_map g xs) ≡ flat_map (λ x. flat_map f (g x)) xs
flat_map_flat_map f g [] = refl
flat_map_flat_map f g (x ∷ xs) = flat_map_joined f (g x) (flat_map g xs) ∙ ap (λ zs. flat_map f (g x) ++ zs) (flat_map_flat_map f g xs)

-- Two kinds of faults of one site after the other, or all of one kind before all of the other: the same elements.
pub has_apart : {A B : Type 0} (f g : A → List B) (xs : List A) (b : B) → Has (flat_map (λ x. f x ++ g x) xs) b → Has (flat_map f xs ++ flat_map g xs) b
has_apart f g [] b has = has
has_apart f g (x ∷ xs) b has = from_parts (λ h. has_apart f g xs b h) (has_either (f x ++ g x) (flat_map (λ y. f y ++ g y) xs) b has)
  where
    from_rest : Has (flat_map f xs) b ⊎ Has (flat_map g xs) b → Has ((f x ++ flat_map f xs) ++ (g x ++ flat_map g xs)) b
    from_rest (inl h) = has_left (f x ++ flat_map f xs) (g x ++ flat_map g xs) b (has_right (f x) (flat_map f xs) b h)
    from_rest (inr h) = has_right (f x ++ flat_map f xs) (g x ++ flat_map g xs) b (has_right (g x) (flat_map g xs) b h)

    from_here : Has (f x) b ⊎ Has (g x) b → Has ((f x ++ flat_map f xs) ++ (g x ++ flat_map g xs)) b
    from_here (inl h) = has_left (f x ++ flat_map f xs) (g x ++ flat_map g xs) b (has_left (f x) (flat_map f xs) b h)
    from_here (inr h) = has_right (f x ++ flat_map f xs) (g x ++ flat_map g xs) b (has_left (g x) (flat_map g xs) b h)

    from_parts : (Has (flat_map (λ y. f y ++ g y) xs) b → Has (flat_map f xs ++ flat_map g xs) b) → Has (f x ++ g x) b ⊎ Has (flat_map (λ y. f y ++ g y) xs) b → Has ((f x ++ flat_map f xs) ++ (g x ++ flat_map g xs)) b
    from_parts rec (inl h) = from_here (has_either (f x) (g x) b h)
    from_parts rec (inr h) = from_rest (has_either (flat_map f xs) (flat_map g xs) b (rec h))

pub has_together : {A B : Type 0} (f g : A → List B) (xs : List A) (b : B) → Has (flat_map f xs ++ flat_map g xs) b → Has (flat_map (λ x. f x ++ g x) xs) b
has_together f g [] b has = has
has_together f g (x ∷ xs) b has = from_sides (λ h. has_together f g xs b h) (has_either (f x ++ flat_map f xs) (g x ++ flat_map g xs) b has)
  where
    later : Has (flat_map (λ y. f y ++ g y) xs) b → Has ((f x ++ g x) ++ flat_map (λ y. f y ++ g y) xs) b
    later h = has_right (f x ++ g x) (flat_map (λ y. f y ++ g y) xs) b h

    here : Has (f x ++ g x) b → Has ((f x ++ g x) ++ flat_map (λ y. f y ++ g y) xs) b
    here h = has_left (f x ++ g x) (flat_map (λ y. f y ++ g y) xs) b h

    on_left : (Has (flat_map f xs ++ flat_map g xs) b → Has (flat_map (λ y. f y ++ g y) xs) b) → Has (f x) b ⊎ Has (flat_map f xs) b
        → Has ((f x ++ g x) ++ flat_map (λ y. f y ++ g y) xs) b
    on_left rec (inl h) = here (has_left (f x) (g x) b h)
    on_left rec (inr h) = later (rec (has_left (flat_map f xs) (flat_map g xs) b h))

    on_right : (Has (flat_map f xs ++ flat_map g xs) b → Has (flat_map (λ y. f y ++ g y) xs) b) → Has (g x) b ⊎ Has (flat_map g xs) b
        → Has ((f x ++ g x) ++ flat_map (λ y. f y ++ g y) xs) b
    on_right rec (inl h) = here (has_right (f x) (g x) b h)
    on_right rec (inr h) = later (rec (has_right (flat_map f xs) (flat_map g xs) b h))

    from_sides : (Has (flat_map f xs ++ flat_map g xs) b → Has (flat_map (λ y. f y ++ g y) xs) b) → Has (f x ++ flat_map f xs) b ⊎ Has (g x ++ flat_map g xs) b
        → Has ((f x ++ g x) ++ flat_map (λ y. f y ++ g y) xs) b
    from_sides rec (inl h) = on_left rec (has_either (f x) (flat_map f xs) b h)
    from_sides rec (inr h) = on_right rec (has_either (g x) (flat_map g xs) b h)
