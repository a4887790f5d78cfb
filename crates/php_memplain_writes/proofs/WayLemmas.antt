-- How a write goes along the part of a path that is there.
use Rattle.std.proofs.Common.{◌≡◌, ℕ, suc, List, [], ◌∷◌, drop, refl, sym, ◌∙◌, ap, subst}
use Rattle.std.specs.Prelude.{Option, Some, None}
use Rattle.php_entries.specs.Listing.{Listing, no_entries}
use Rattle.php_memdef.specs.declared.place.Base.{Base}
use Rattle.php_memdef.specs.declared.place.Base.TheVariants.{Var, Property as OfObject, Static, Temp}
use Rattle.php_memdef.specs.declared.place.Step.{Step}
use Rattle.php_memdef.specs.declared.place.Step.TheVariants.{At, Push}
use Rattle.php_memdef.specs.declared.answer.Wrote.TheVariants.{NotArray}
use Rattle.php_memdef.specs.Numbered.{numbered}
use Rattle.php_memdef.specs.Contents.{Content, null, truth, int, text, array, object, Mem, scope_of, object_of}
use Rattle.php_memdef.specs.Places.{Spot, stored, content_at, elements_of, variable_store, property_store, stored_if, base_spot, step_store, step_store_if, next_spot, new_store_number, elements_to_write, step_set, reached, stopped, element_made, element_to_write, step_in_elements, walk_step, walk_along, variable_to_write, property_to_write, static_to_write, temp_to_write, base_to_write}
use Rattle.php_memdef.specs.Views.{counted_if, steps_along, spot_or, end_along}

pub none_some : {X : Type 0} {x : X} → None ≡ Some x → ⊥
none_some e = cc

pub same_some : {X : Type 0} {x y : X} → Some x ≡ Some y → x ≡ y
same_some e = cc

pub nothing_there : (step : Step) → step_store no_entries step ≡ None
nothing_there (At key) = refl
nothing_there Push = refl

-- along a path from a spot a write comes to an end, after so many steps; the step behind them leads nowhere
pub record Leads (m : Mem) (spot : Spot) (path : List Step) (last : Spot) (steps : ℕ) : Type 0 where
  pub goes : walk_along (reached m spot) path ≡ walk_along (reached m last) (drop steps path)
  pub stops : (step : Step) (later : List Step) → drop steps path ≡ step ∷ later → next_spot m (Some last) step ≡ None

module _ (m : Mem) where
  stored_is : (o : Option ℕ) (spot : Spot) → stored_if o ≡ Some spot → (s : ℕ) → o ≡ Some s → spot ≡ stored s
  stored_is o spot e s f = same_some (sym e ∙ ap stored_if f)

  variable_reached : (o : Option ℕ) (b n : ℕ) (spot : Spot) → stored_if o ≡ Some spot → variable_to_write o m b n ≡ reached m spot
  variable_reached None b n spot e = absurd (none_some e)
  variable_reached (Some s) b n spot e = ap (reached m) (same_some e)

  property_reached : (o : Option ℕ) (h : ℕ) (p : _) (spot : Spot) → stored_if o ≡ Some spot → property_to_write o m h p ≡ reached m spot
  property_reached None h p spot e = absurd (none_some e)
  property_reached (Some s) h p spot e = ap (reached m) (same_some e)

  static_reached : (o : Option ℕ) (i : ℕ) (spot : Spot) → stored_if o ≡ Some spot → static_to_write o m i ≡ reached m spot
  static_reached None i spot e = absurd (none_some e)
  static_reached (Some s) i spot e = ap (reached m) (same_some e)

  -- a base that is there
  pub base_reached : (base : Base) (spot : Spot) → base_spot m base ≡ Some spot → base_to_write m base ≡ reached m spot
  base_reached (Var b n) spot e = variable_reached (variable_store (scope_of m b.0).variables n.0) b.0 n.0 spot e
  base_reached (OfObject h p) spot e = property_reached (property_store (object_of m h.0).properties p) h.0 p spot e
  base_reached (Static i) spot e = static_reached (numbered m.statics i.0) i.0 spot e
  base_reached (Temp b n) spot e = ap (λ o. temp_to_write o m b.0 n) e

  element_reached : (o : Option ℕ) (t : Listing ℕ) (spot : Spot) (step : Step) (next : Spot) → stored_if o ≡ Some next → element_to_write o t m spot step ≡ reached m next
  element_reached None t spot step next e = absurd (none_some e)
  element_reached (Some s) t spot step next e = ap (reached m) (same_some e)

  content_reached : (c : Content) (spot : Spot) (step : Step) (next : Spot) → stored_if (step_store_if (elements_of c) step) ≡ Some next → step_in_elements (elements_to_write c) m spot step ≡ reached m next
  content_reached null spot step next e = absurd (none_some e)
  content_reached (truth b) spot step next e = absurd (none_some e)
  content_reached (int i) spot step next e = absurd (none_some e)
  content_reached (text bytes) spot step next e = absurd (none_some e)
  content_reached (array t) spot step next e = element_reached (step_store t step) t spot step next e
  content_reached (object h) spot step next e = absurd (none_some e)

  -- a step that leads somewhere
  step_reached : (spot : Spot) (step : Step) (next : Spot) → next_spot m (Some spot) step ≡ Some next → walk_step (reached m spot) step ≡ reached m next
  step_reached spot step next e = content_reached (content_at m spot) spot step next e

  pub no_end : (path : List Step) → end_along m None path ≡ None
  no_end [] = refl
  no_end (step ∷ path) = ap (λ o. spot_or o None) (no_end path)

  pub spot_or_some : (path : List Step) (spot before last : Spot) → spot_or (end_along m (Some spot) path) (Some before) ≡ Some last → end_along m (Some spot) path ≡ Some last
  spot_or_some [] spot before last e = e
  spot_or_some (step ∷ path) spot before last e = twice (end_along m (next_spot m (Some spot) step) path) e
    where
      twice : (o : Option Spot) → spot_or (spot_or o (Some spot)) (Some before) ≡ Some last → spot_or o (Some spot) ≡ Some last
      twice None e = e
      twice (Some x) e = e

  no_step : (step : Step) (later : List Step) → [] ≡ step ∷ later → ⊥
  no_step step later e = cc

  same_step : (s t : Step) (p q : List Step) → s ∷ p ≡ t ∷ q → s ≡ t
  same_step s t p q e = cc

  pub leads : (path : List Step) (spot last : Spot) → end_along m (Some spot) path ≡ Some last → Leads m spot path last (steps_along m (Some spot) path)
  leads [] spot last e = record { goes = ap (reached m) (same_some e); stops = λ step later f. absurd (no_step step later f) }
  leads (step ∷ path) spot last e = by_next (next_spot m (Some spot) step) refl (leads path)
    where
      by_next : (o : Option Spot) → next_spot m (Some spot) step ≡ o → ((spot last : Spot) → end_along m (Some spot) path ≡ Some last → Leads m spot path last (steps_along m (Some spot) path)) → Leads m spot (step ∷ path) last (steps_along m (Some spot) (step ∷ path))
      by_next None f below =
          let here : spot ≡ last = same_some (sym (ap (λ o. spot_or o (Some spot)) (no_end path)) ∙ sym (ap (λ o. spot_or (end_along m o path) (Some spot)) f) ∙ e) in
          let steps : 0 ≡ steps_along m (Some spot) (step ∷ path) = sym (ap (λ o. counted_if o (steps_along m o path)) f) in
          subst (Leads m spot (step ∷ path) last) steps
          (subst (λ (x : Spot). Leads m spot (step ∷ path) x 0) here
          (record { goes = refl; stops = λ t later g. ap (next_spot m (Some spot)) (sym (same_step step t path later g)) ∙ f }))
      by_next (Some x) f below =
          let rest = below x last (spot_or_some path x spot last (sym (ap (λ o. spot_or (end_along m o path) (Some spot)) f) ∙ e)) in
          let steps : suc (steps_along m (Some x) path) ≡ steps_along m (Some spot) (step ∷ path) = sym (ap (λ o. counted_if o (steps_along m o path)) f) in
          subst (Leads m spot (step ∷ path) last) steps
          (record { goes = ap (λ w. walk_along w path) (step_reached spot step x f) ∙ rest.goes; stops = rest.stops })

  -- a step that leads nowhere needs a new element, or stops the write

  needs_element : (c : Content) (spot : Spot) (step : Step) (t : Listing ℕ) → elements_to_write c ≡ Some t → stored_if (step_store_if (elements_of c) step) ≡ None → step_in_elements (elements_to_write c) m spot step ≡ element_made (step_set t step (new_store_number m)) m spot
  needs_element null spot step t e f = ap (λ o. step_in_elements o m spot step) e ∙ ap (λ o. element_to_write o t m spot step) (none_of t e step)
    where
      none_of : (t : Listing ℕ) → elements_to_write null ≡ Some t → (step : Step) → step_store t step ≡ None
      none_of t e step = sym (ap (λ (u : Listing ℕ). step_store u step) (same_some e)) ∙ nothing_there step
  needs_element (truth b) spot step t e f = absurd (none_some e)
  needs_element (int i) spot step t e f = absurd (none_some e)
  needs_element (text bytes) spot step t e f = absurd (none_some e)
  needs_element (array u) spot step t e f =
      ap (λ o. element_to_write o u m spot step) (not_there (step_store u step) f)
      ∙ ap (λ (v : Listing ℕ). element_made (step_set v step (new_store_number m)) m spot) (same_some e)
    where
      not_there : (o : Option ℕ) → stored_if o ≡ None → o ≡ None
      not_there None g = refl
      not_there (Some s) g = absurd (none_some (sym g))
  needs_element (object h) spot step t e f = absurd (none_some e)

  pub element_needed : (spot : Spot) (step : Step) (t : Listing ℕ) → elements_to_write (content_at m spot) ≡ Some t → next_spot m (Some spot) step ≡ None → walk_step (reached m spot) step ≡ element_made (step_set t step (new_store_number m)) m spot
  element_needed spot step t e f = needs_element (content_at m spot) spot step t e f

  pub no_elements : (spot : Spot) (step : Step) → elements_to_write (content_at m spot) ≡ None → walk_step (reached m spot) step ≡ stopped NotArray
  no_elements spot step e = ap (λ o. step_in_elements o m spot step) e

-- a write that stopped stays so
pub stopped_along : (why : _) (path : List Step) → walk_along (stopped why) path ≡ stopped why
stopped_along why [] = refl
stopped_along why (step ∷ path) = stopped_along why path
