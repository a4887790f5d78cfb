use Rattle.std.proofs.Common.{◌∙◌, sym, ap, subst, refl, List}
use Rattle.php_entries.specs.Changes.{Grown}
use Rattle.php_array.specs.Kept.{listing_of, IsKept}
use Rattle.php_array.specs.Slot.{Slot}
use Rattle.php_array.proofs.KeptLemmas.{kept-with_value, value_at-missing, value_at-place, set_value-place, is_some-place}
use Rattle.php_array.proofs.entries.Entries.replace.Goals as goal

pub set_value-requires : goal.set_value-requires
set_value-requires g c = is_some-place c.args.key.now c.self.inside.slots.items c.in-Some.place (sym c.in-Some.ensures)

pub invariant_of-self : goal.invariant_of-self
invariant_of-self g c =
    let i = c.self.inside in
    subst (λ (ss : List (Slot _)). IsKept i.index ss i.first i.count i.next_key i.next_serial) (sym c.set_value.ensures.after)
    (kept-with_value i.index i.slots.items i.first i.count i.next_key i.next_serial c.self.invariant c.args.key.now c.in-Some.place c.args.value (sym c.in-Some.ensures))

pub returns-in-Some-clause-ok : goal.returns-in-Some-clause-ok
returns-in-Some-clause-ok g c =
    let i = c.self.inside in (
      value_at-place c.args.self.now i.slots.items i.next_key i.next_serial c.self.view_is c.args.key.now c.in-Some.place c.set_value.result (sym c.in-Some.ensures) c.set_value.ensures.old,
      set_value-place c.args.self.now i.slots.items i.next_key i.next_serial c.self.view_is c.args.key.now c.in-Some.place c.args.value (sym c.in-Some.ensures)
          ∙ ap (λ (ss : List (Slot _)). Grown (listing_of ss i.next_key i.next_serial)) (sym c.set_value.ensures.after),
    )

pub returns-in-None-clause-missing : goal.returns-in-None-clause-missing
returns-in-None-clause-missing g c =
    let i = c.self.inside in
    (value_at-missing c.args.self.now i.slots.items i.next_key i.next_serial c.self.view_is c.args.key.now (sym c.in-None.ensures), refl)
