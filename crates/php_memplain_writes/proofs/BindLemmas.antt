-- Binding where something is missing: a chain of new stores that leads to the store of the link.
use Rattle.std.proofs.Common.{◌≡◌, ◌≢◌, ℕ, List, [], ◌∷◌, ◌++◌, refl, sym, ◌∙◌, ap}
use Rattle.std.specs.Prelude.{true, false, Some, None, unwrap_or, nat_eq, cond}
use Rattle.php_entries.specs.Listing.{no_entries}
use Rattle.php_memdef.specs.declared.place.PropName.{PropName}
use Rattle.php_memdef.specs.declared.place.Base.{Base}
use Rattle.php_memdef.specs.declared.place.Base.TheVariants.{Var, Property as OfObject, Static, Temp}
use Rattle.php_memdef.specs.declared.place.Step.{Step}
use Rattle.php_memdef.specs.Numbered.{Numbered, numbered, with_numbered}
use Rattle.php_memdef.specs.Contents.{Content, null, array, Variable, Property, Mem}
use Rattle.php_memdef.specs.Places.{Spot, stored, standing, with_content, variable_store, property_store, prop_name_eq, elements_to_write, step_store, reached}
use Rattle.php_memdef.specs.Writes.{bound, steps_before, last_step, element_bound, bound_in_elements, element_of_walk_bound, with_variable, with_property}
use Rattle.php_memdef_laws.proofs.NumberedLemmas.{numbered-with_same, numbered-with_other}
use Rattle.php_memplain_writes.specs.Chains.{PutsElement, ChainTo, NewChain}
use Rattle.php_memplain_writes.specs.Reached.{with_base}
use Rattle.php_memplain_writes.proofs.WayLemmas.{none_some, nothing_there}
use Rattle.php_memplain_writes.proofs.ChainLemmas.{OneElement, chain_aside}
use Rattle.php_memplain_writes.proofs.AgreeLemmas.{with_stores_of}
use Rattle.php_memplain_writes.proofs.MoveLemmas.{with_either}

-- the steps of a path and the last one
pub path_split : (step : Step) (path : List Step) → steps_before step path ++ last_step step path ∷ [] ≡ step ∷ path
path_split step [] = refl
path_split step (next ∷ path) = ap (λ p. step ∷ p) (path_split next path)

-- a chain gets a further step at its end
pub chain_on_to : (rest : List Step) (xs zs ys : Numbered Content) (s k top : ℕ) (step : Step) → PutsElement xs k step s zs → ChainTo zs k rest ys top → ChainTo xs s (rest ++ step ∷ []) ys top
chain_on_to [] xs zs ys s k top step p c = (
  s,
  (
    xs,
    (
      (refl, λ j. refl),
      record {
        elements = p.elements;
        is = p.is;
        puts = record {
          free = ap (numbered xs) c.0 ∙ p.puts.free;
          there = ap (numbered ys) c.0 ∙ c.1 k ∙ p.puts.there;
          others = λ j ne. c.1 j ∙ p.puts.others j (λ e. ne (e ∙ sym c.0));
        };
      },
    ),
  ),
)
chain_on_to (t ∷ rest) xs zs ys s k top step p c = (c.0, (c.1.0, (chain_on_to rest xs zs c.1.0 s k c.0 step p c.1.1.0, c.1.1.1)))

-- in place of the null at the end of a new chain an array, which leads to a store
pub chain_led : (xs ys : Numbered Content) (rest : List Step) (top leaf : ℕ) → NewChain xs rest ys top leaf → (step : Step) (s : ℕ) (one : OneElement step s) → ChainTo xs s (rest ++ step ∷ []) (with_numbered ys leaf (Some (array one.elements))) top
chain_led xs ys rest top leaf n step s one =
    let c = array one.elements in
    chain_on_to rest xs (with_numbered n.first leaf (Some c)) (with_numbered ys leaf (Some c)) s leaf top step
    (record {
      elements = one.elements;
      is = one.is;
      puts = record {
        free = n.puts.free;
        there = numbered-with_same n.first leaf (Some c);
        others = λ j ne. numbered-with_other n.first leaf j (Some c) ne ∙ n.puts.others j ne;
      };
    })
    (chain_aside rest n.first leaf ys top n.chain leaf null n.puts.there (Some c))

-- a store beside what hangs the chain up

pub base_put : (base : Base) (m : Mem) (xs : Numbered Content) (s leaf : ℕ) (c : Content) → with_content (with_base base (with_stores_of m xs) s) (stored leaf) c ≡ with_base base (with_stores_of m (with_numbered xs leaf (Some c))) s
base_put (Var b n) m xs s leaf c = refl
base_put (OfObject h p) m xs s leaf c = refl
base_put (Static i) m xs s leaf c = refl
base_put (Temp b n) m xs s leaf c = refl

pub spot_put : (spot : Spot) (m : Mem) (xs : Numbered Content) (a : Content) (leaf : ℕ) (c : Content) → ((s : ℕ) → spot ≡ stored s → leaf ≢ s) → with_content (with_content (with_stores_of m xs) spot a) (stored leaf) c ≡ with_content (with_stores_of m (with_numbered xs leaf (Some c))) spot a
spot_put (stored s) m xs a leaf c apart = ap (λ ys. record m { stores = ys }) (with_either xs s leaf (Some a) (Some c) (apart s refl))
spot_put (standing b k) m xs a leaf c apart = refl

-- a walk that ends at a new store is bound there
pub walk_bound : (n : Mem) (leaf : ℕ) → numbered n.stores leaf ≡ Some null → (step : Step) (s : ℕ) (one : OneElement step s) → element_of_walk_bound (reached n (stored leaf)) step s ≡ bound (with_content n (stored leaf) (array one.elements)) None
walk_bound n leaf there step s one =
    ap (λ o. bound_in_elements (elements_to_write (unwrap_or o null)) n (stored leaf) step s) there
    ∙ ap (λ g. element_bound g (step_store no_entries step) n (stored leaf)) one.is
    ∙ ap (bound (with_content n (stored leaf) (array one.elements))) (nothing_there step)

-- a base that is missing is bound as it is made

pub variable_new : (n s : ℕ) (vs : List Variable) → variable_store vs n ≡ None → with_variable n s vs ≡ vs ++ record { name = n; store = s } ∷ []
variable_new n s [] e = refl
variable_new n s (v ∷ vs) e = by_name (nat_eq n v.name) refl (variable_new n s vs)
  where
    by_name : (b : _) → nat_eq n v.name ≡ b → (variable_store vs n ≡ None → with_variable n s vs ≡ vs ++ record { name = n; store = s } ∷ []) → with_variable n s (v ∷ vs) ≡ v ∷ (vs ++ record { name = n; store = s } ∷ [])
    by_name true f later = absurd (none_some (sym e ∙ ap (λ b. cond b (Some v.store) (variable_store vs n)) f))
    by_name false f later = ap (λ b. cond b (record v { store = s } ∷ vs) (v ∷ with_variable n s vs)) f ∙ ap (λ ws. v ∷ ws) (later (sym (ap (λ b. cond b (Some v.store) (variable_store vs n)) f) ∙ e))

pub property_new : (n : PropName) (s : ℕ) (ps : List Property) → property_store ps n ≡ None → with_property n s ps ≡ ps ++ record { name = n; store = s } ∷ []
property_new n s [] e = refl
property_new n s (p ∷ ps) e = by_name (prop_name_eq n p.name) refl (property_new n s ps)
  where
    by_name : (b : _) → prop_name_eq n p.name ≡ b → (property_store ps n ≡ None → with_property n s ps ≡ ps ++ record { name = n; store = s } ∷ []) → with_property n s (p ∷ ps) ≡ p ∷ (ps ++ record { name = n; store = s } ∷ [])
    by_name true f later = absurd (none_some (sym e ∙ ap (λ b. cond b (Some p.store) (property_store ps n)) f))
    by_name false f later = ap (λ b. cond b (record p { store = s } ∷ ps) (p ∷ with_property n s ps)) f ∙ ap (λ qs. p ∷ qs) (later (sym (ap (λ b. cond b (Some p.store) (property_store ps n)) f) ∙ e))
