-- The variable or the property of a name, and a base that points to another store.
use Rattle.std.proofs.Common.{◌≡◌, ◌<◌, ◌≤◌, ◌+◌, ℕ, zero, suc, List, [], ◌∷◌, length, map, refl, sym, ◌∙◌, ap, subst, arith, cond}
use Rattle.std.specs.Prelude.{Bool, true, false, nat_eq, Option, Some, None, slice_index_or, slice_set, Result, Ok, Err, IfOk, OnOk}
use Rattle.php_base.specs.declared.memory.NoMemory.{NoMemory}
use Rattle.php_memdef.specs.declared.place.PropName.{PropName}
use Rattle.php_memdef.specs.declared.place.Base.{Base}
use Rattle.php_memdef.specs.declared.place.Base.TheVariants.{Var, Property as OfObject, Static, Temp}
use Rattle.php_memdef.specs.Numbered.{numbered, weight_if}
use Rattle.php_memdef.specs.Contents as model
use Rattle.php_memdef.specs.Contents.{Mem, scope_of, object_of}
use Rattle.php_memdef.specs.Holders.{times, stores_of_variables, stores_of_properties, holders, object_holders}
use Rattle.php_memdef.specs.Places.{variable_store, property_store, prop_name_eq}
use Rattle.php_memdef.specs.Conditions.{IsBlock, IsPointed}
use Rattle.php_memdef.specs.Writes.{bound, with_variable, with_property, base_bound}
use Rattle.php_memdef_laws.proofs.NumberedLemmas.{live-with}
use Rattle.php_memdef_laws.proofs.Held.Parts.{holders-with_variables, handles-with_variables, holders-with_object, handles-with_object, holders-with_static, handles-with_static}
use Rattle.php_memdef_laws.proofs.Held.Writes.{listed, KeepsTopLinks, top_with_variables}
use Rattle.php_memplain_cells.specs.declared.block.Variable.{Variable}
use Rattle.php_memplain_cells.specs.declared.load.Property.{Property}
use Rattle.php_memplain_cells.specs.Seen.{variable_seen, property_seen}
use Rattle.php_memplain_writes.specs.Pointing.{has_name, has_prop_name, NoneBefore, IsFirst}

-- the first that passes a test

module _ {X : Type 0} (test : X → Bool) where
  pub none_yet : (xs : List X) → NoneBefore test xs 0
  none_yet [] = tt
  none_yet (x ∷ xs) = tt

  pub none_on : (xs : List X) (k : ℕ) (d : X) → NoneBefore test xs k → k < length xs → test (slice_index_or xs k d) ≡ false → NoneBefore test xs (suc k)
  none_on [] k d p h e = absurd (omega (arith, h))
  none_on (x ∷ xs) zero d p h e = (e, none_yet xs)
  none_on (x ∷ xs) (suc k) d p h e = (p.0, none_on xs k d p.1 (omega (arith, h)) e)

  pub first_at : (xs : List X) (k : ℕ) (d : X) → NoneBefore test xs k → k < length xs → test (slice_index_or xs k d) ≡ true → IsFirst test xs k
  first_at [] k d p h e = absurd (omega (arith, h))
  first_at (x ∷ xs) zero d p h e = e
  first_at (x ∷ xs) (suc k) d p h e = (p.0, first_at xs k d p.1 (omega (arith, h)) e)

  pub first_within : (xs : List X) (k : ℕ) → IsFirst test xs k → k < length xs
  first_within [] k p = absurd p
  first_within (x ∷ xs) zero p = omega arith
  first_within (x ∷ xs) (suc k) p = omega (arith, first_within xs k p.1)

  pub none_so_far : (xs : List X) (k : ℕ) → length xs ≤ k → NoneBefore test xs k → NoneBefore test xs (length xs)
  none_so_far [] k h p = tt
  none_so_far (x ∷ xs) zero h p = absurd (omega (arith, h))
  none_so_far (x ∷ xs) (suc k) h p = (p.0, none_so_far xs k (omega (arith, h)) p.1)

-- what a number has
pub number_at : (xs : List (Option ℕ)) (k : ℕ) (o : Option ℕ) → o ≡ slice_index_or xs k o → k < length xs → o ≡ numbered xs k
number_at [] k o is h = absurd (omega (arith, h))
number_at (x ∷ xs) zero o is h = is
number_at (x ∷ xs) (suc k) o is h = number_at xs k o is (omega (arith, h))

-- variables

module _ (n : ℕ) where
  pub variable_first : (vs : List Variable) (k : ℕ) (d : Variable) → IsFirst (has_name n) vs k → Some (slice_index_or vs k d).store ≡ variable_store (map variable_seen vs) n
  variable_first [] k d p = absurd p
  variable_first (v ∷ vs) zero d p = sym (ap (λ b. cond b (Some v.store) (variable_store (map variable_seen vs) n)) p)
  variable_first (v ∷ vs) (suc k) d p = variable_first vs k d p.1 ∙ sym (ap (λ b. cond b (Some v.store) (variable_store (map variable_seen vs) n)) p.0)

  pub variable_set : (vs : List Variable) (k : ℕ) (d w : Variable) → IsFirst (has_name n) vs k → w.name ≡ (slice_index_or vs k d).name → map variable_seen (slice_set vs k w) ≡ with_variable n w.store (map variable_seen vs)
  variable_set [] k d w p e = absurd p
  variable_set (v ∷ vs) zero d w p e =
      ap (λ x. record { name = x; store = w.store } ∷ map variable_seen vs) e
      ∙ sym (ap (λ b. cond b (record { name = v.name; store = w.store } ∷ map variable_seen vs) (variable_seen v ∷ with_variable n w.store (map variable_seen vs))) p)
  variable_set (v ∷ vs) (suc k) d w p e =
      ap (λ us. variable_seen v ∷ us) (variable_set vs k d w p.1 e)
      ∙ sym (ap (λ b. cond b (record { name = v.name; store = w.store } ∷ map variable_seen vs) (variable_seen v ∷ with_variable n w.store (map variable_seen vs))) p.0)

  pub variable_none : (vs : List Variable) → NoneBefore (has_name n) vs (length vs) → None ≡ variable_store (map variable_seen vs) n
  variable_none [] p = refl
  variable_none (v ∷ vs) p = variable_none vs p.1 ∙ sym (ap (λ b. cond b (Some v.store) (variable_store (map variable_seen vs) n)) p.0)

-- properties

module _ (n : PropName) where
  pub property_first : (ps : List Property) (k : ℕ) (d : Property) → IsFirst (has_prop_name n) ps k → Some (slice_index_or ps k d).store ≡ property_store (map property_seen ps) n
  property_first [] k d p = absurd p
  property_first (q ∷ ps) zero d p = sym (ap (λ b. cond b (Some q.store) (property_store (map property_seen ps) n)) p)
  property_first (q ∷ ps) (suc k) d p = property_first ps k d p.1 ∙ sym (ap (λ b. cond b (Some q.store) (property_store (map property_seen ps) n)) p.0)

  pub property_set : (ps : List Property) (k : ℕ) (d w : Property) → IsFirst (has_prop_name n) ps k → w.name ≡ (slice_index_or ps k d).name → map property_seen (slice_set ps k w) ≡ with_property n w.store (map property_seen ps)
  property_set [] k d w p e = absurd p
  property_set (q ∷ ps) zero d w p e =
      ap (λ x. record { name = x; store = w.store } ∷ map property_seen ps) e
      ∙ sym (ap (λ b. cond b (record { name = q.name; store = w.store } ∷ map property_seen ps) (property_seen q ∷ with_property n w.store (map property_seen ps))) p)
  property_set (q ∷ ps) (suc k) d w p e =
      ap (λ us. property_seen q ∷ us) (property_set ps k d w p.1 e)
      ∙ sym (ap (λ b. cond b (record { name = q.name; store = w.store } ∷ map property_seen ps) (property_seen q ∷ with_property n w.store (map property_seen ps))) p.0)

  pub property_none : (ps : List Property) → NoneBefore (has_prop_name n) ps (length ps) → None ≡ property_store (map property_seen ps) n
  property_none [] p = refl
  property_none (q ∷ ps) p = property_none ps p.1 ∙ sym (ap (λ b. cond b (Some q.store) (property_store (map property_seen ps) n)) p.0)

-- what is named once a base points to another store

module _ (x : ℕ) where
  variable_rebound : (n s : ℕ) (vs : List model.Variable) → times x (stores_of_variables (with_variable n s vs)) + times x (listed (variable_store vs n)) ≡ times x (stores_of_variables vs) + times x (s ∷ [])
  variable_rebound n s [] = omega arith
  variable_rebound n s (v ∷ vs) = chosen (nat_eq n v.name) refl (variable_rebound n s vs)
    where
      chosen : (b : Bool) → nat_eq n v.name ≡ b → times x (stores_of_variables (with_variable n s vs)) + times x (listed (variable_store vs n)) ≡ times x (stores_of_variables vs) + times x (s ∷ []) → times x (stores_of_variables (with_variable n s (v ∷ vs))) + times x (listed (variable_store (v ∷ vs) n)) ≡ times x (stores_of_variables (v ∷ vs)) + times x (s ∷ [])
      chosen true q later =
          let a : times x (stores_of_variables (with_variable n s (v ∷ vs))) ≡ times x (s ∷ stores_of_variables vs) = ap (λ b. times x (stores_of_variables (cond b (record v { store = s } ∷ vs) (v ∷ with_variable n s vs)))) q in
          let g : times x (listed (variable_store (v ∷ vs) n)) ≡ times x (v.store ∷ []) = ap (λ b. times x (listed (cond b (Some v.store) (variable_store vs n)))) q in
          omega (arith, a, g)
      chosen false q later =
          let a : times x (stores_of_variables (with_variable n s (v ∷ vs))) ≡ times x (v.store ∷ stores_of_variables (with_variable n s vs)) = ap (λ b. times x (stores_of_variables (cond b (record v { store = s } ∷ vs) (v ∷ with_variable n s vs)))) q in
          let g : times x (listed (variable_store (v ∷ vs) n)) ≡ times x (listed (variable_store vs n)) = ap (λ b. times x (listed (cond b (Some v.store) (variable_store vs n)))) q in
          omega (arith, a, g, later)

  property_rebound : (n : PropName) (s : ℕ) (ps : List model.Property) → times x (stores_of_properties (with_property n s ps)) + times x (listed (property_store ps n)) ≡ times x (stores_of_properties ps) + times x (s ∷ [])
  property_rebound n s [] = omega arith
  property_rebound n s (p ∷ ps) = chosen (prop_name_eq n p.name) refl (property_rebound n s ps)
    where
      chosen : (b : Bool) → prop_name_eq n p.name ≡ b → times x (stores_of_properties (with_property n s ps)) + times x (listed (property_store ps n)) ≡ times x (stores_of_properties ps) + times x (s ∷ []) → times x (stores_of_properties (with_property n s (p ∷ ps))) + times x (listed (property_store (p ∷ ps) n)) ≡ times x (stores_of_properties (p ∷ ps)) + times x (s ∷ [])
      chosen true q later =
          let a : times x (stores_of_properties (with_property n s (p ∷ ps))) ≡ times x (s ∷ stores_of_properties ps) = ap (λ b. times x (stores_of_properties (cond b (record p { store = s } ∷ ps) (p ∷ with_property n s ps)))) q in
          let g : times x (listed (property_store (p ∷ ps) n)) ≡ times x (p.store ∷ []) = ap (λ b. times x (listed (cond b (Some p.store) (property_store ps n)))) q in
          omega (arith, a, g)
      chosen false q later =
          let a : times x (stores_of_properties (with_property n s (p ∷ ps))) ≡ times x (p.store ∷ stores_of_properties (with_property n s ps)) = ap (λ b. times x (stores_of_properties (cond b (record p { store = s } ∷ ps) (p ∷ with_property n s ps)))) q in
          let g : times x (listed (property_store (p ∷ ps) n)) ≡ times x (listed (property_store ps n)) = ap (λ b. times x (listed (cond b (Some p.store) (property_store ps n)))) q in
          omega (arith, a, g, later)

  static_names : (o : Option ℕ) → weight_if (λ t. times x (t ∷ [])) o ≡ times x (listed o)
  static_names None = refl
  static_names (Some s) = refl

-- the memory where a base points to another store, and the store before
pub record Rebound (m : Mem) (s : ℕ) (n : Mem) (before : Option ℕ) : Type 0 where
  pub names : (k : ℕ) → holders n k + times k (listed before) ≡ holders m k + times k (s ∷ [])
  pub handles : (h : ℕ) → object_holders n h ≡ object_holders m h
  pub links : KeepsTopLinks m n
  pub blocks : (b : ℕ) → IsBlock m b → IsBlock n b

same_memory : {m n : Mem} {o p : Option ℕ} → bound m o ≡ bound n p → m ≡ n
same_memory e = cc

same_before : {m n : Mem} {o p : Option ℕ} → bound m o ≡ bound n p → o ≡ p
same_before e = cc

rebound_as : (m : Mem) (s : ℕ) (n : Mem) (before : Option ℕ) (n' : Mem) (before' : Option ℕ) → bound n' before' ≡ bound n before → Rebound m s n' before' → Rebound m s n before
rebound_as m s n before n' before' e r = subst (λ x. Rebound m s x before) (same_memory e) (subst (Rebound m s n') (same_before e) r)

pub base_rebound : (m : Mem) (base : Base) (s : ℕ) → IsPointed base [] → (n : Mem) (before : Option ℕ) → base_bound m base s ≡ bound n before → Rebound m s n before
base_rebound m (Var c k) s h n before e =
    let f = scope_of m c.0 in
    rebound_as m s n before _ _ e
    (record {
      names = λ x. omega (arith, holders-with_variables m x c.0 (with_variable k.0 s f.variables), variable_rebound x k.0 s f.variables);
      handles = λ x. handles-with_variables m x c.0 (with_variable k.0 s f.variables);
      links = λ b t is. top_with_variables m c.0 b (with_variable k.0 s f.variables) ∙ is;
      blocks = λ b live. live-with m.blocks c.0 (record f { variables = with_variable k.0 s f.variables }) b live;
    })
base_rebound m (OfObject j q) s h n before e =
    let o = object_of m j.0 in
    let y : model.Object = record o { properties = with_property q s o.properties } in
    rebound_as m s n before _ _ e
    (record {
      names = λ x. omega (arith, holders-with_object m x j.0 (Some y), property_rebound x q s o.properties);
      handles = λ x. handles-with_object m x j.0 (Some y);
      links = λ b t is. is;
      blocks = λ b live. live;
    })
base_rebound m (Static i) s h n before e =
    rebound_as m s n before _ _ e
    (record {
      names = λ x. omega (arith, holders-with_static m x i.0 (Some s), static_names x (numbered m.statics i.0));
      handles = λ x. handles-with_static m x i.0 (Some s);
      links = λ b t is. is;
      blocks = λ b live. live;
    })
base_rebound m (Temp b k) s h n before e = absurd h

-- what points to another store, and the store before, as the model says it
pub bound_from : (r : Result (Option ℕ) NoMemory) (n w : Mem) (o : Option ℕ) → OnOk r (n ≡ w) → IfOk r (λ before. before ≡ o) → IfOk r (λ before. bound w o ≡ bound n before)
bound_from (Ok before) n w o seen is = ap (λ (x : Mem). bound x o) (sym seen) ∙ ap (bound n) (sym is)
bound_from (Err e) n w o seen is = is
