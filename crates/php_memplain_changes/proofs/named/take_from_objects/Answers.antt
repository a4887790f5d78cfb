use Rattle.std.proofs.Common.{◌≡◌, ◌-◌, sym, ◌∙◌, ap, subst, arith}
use Rattle.std.specs.Prelude.{Some, Box, slice_set}
use Rattle.std.specs.declared.alloc.Global.{Global}
use Rattle.php_memdef.specs.Contents as model
use Rattle.php_memdef.specs.Places.{property_store}
use Rattle.php_memplain_cells.specs.declared.objects.Object.{Object}
use Rattle.php_memplain_cells.specs.Seen.{object_seen, objects_seen}
use Rattle.php_memplain_cells.specs.Counts.{AreSameHandles}
use Rattle.php_memplain_changes.specs.Named.{object_without, without_property_at}
use Rattle.php_memplain_changes.proofs.ObjectLemmas.{was_seen, is_within, no_box, length_put, back_changed, back_same}
use Rattle.php_memplain_changes.proofs.named.take_from_objects.Goals as goal

pub index_mut-requires : goal.index_mut-requires
index_mut-requires c = omega (arith, (is_within c.args.objects.now.items c.args.number c.requires).0, (is_within c.args.objects.now.items c.args.number c.requires).1)

pub unreachable-requires : goal.unreachable-requires
unreachable-requires c = no_box c.args.objects.now.items c.args.number c.requires c.index_mut.result.now (sym c.index_mut.ensures.value ∙ sym c.take.ensures.value ∙ c.in_default.is)

pub index_mut-requires-2 : goal.index_mut-requires-2
index_mut-requires-2 c = omega (arith, (is_within c.args.objects.now.items c.args.number c.requires).0, (is_within c.args.objects.now.items c.args.number c.requires).1, length_put c.args.objects.now.items (c.args.number - 1) c.take.new.self)

pub returns-clause-seen : goal.returns-clause-seen
returns-clause-seen c =
    let os = c.args.objects.now.items in
    let h = c.args.number in
    let taken = c.in-Some.object in
    let change = object_without c.args.name.now in
    let new = c.take_from_object-store.new.object in
    let p : Box Object Global = record taken { value = new } in
    subst (λ x. objects_seen (slice_set (slice_set os (h - 1) x) (h - 1) (Some p)) ≡ without_property_at c.args.name.now (objects_seen os) h) (sym c.take.ensures.after)
    (back_changed os h c.requires c.index_mut.result.now taken (sym c.in-Some.is ∙ c.take.ensures.value ∙ c.index_mut.ensures.value) p change (c.take_from_object-store.ensures.seen ∙ ap (λ (o : Object). change (object_seen o)) c.deref_mut.ensures.value))

pub returns-clause-holders : goal.returns-clause-holders
returns-clause-holders c =
    let os = c.args.objects.now.items in
    let h = c.args.number in
    let taken = c.in-Some.object in
    let new = c.take_from_object-store.new.object in
    let q : new.holders ≡ taken.value.holders = subst (λ (o : Object). new.holders ≡ o.holders) c.deref_mut.ensures.value c.take_from_object-store.ensures.holders in
    let p : Box Object Global = record taken { value = new } in
    subst (λ x. AreSameHandles os (slice_set (slice_set os (h - 1) x) (h - 1) (Some p))) (sym c.take.ensures.after)
    (back_same os h c.requires c.index_mut.result.now taken (sym c.in-Some.is ∙ c.take.ensures.value ∙ c.index_mut.ensures.value) p q)

pub returns-clause-store : goal.returns-clause-store
returns-clause-store c =
    let os = c.args.objects.now.items in
    let h = c.args.number in
    let taken = c.in-Some.object in
    c.take_from_object-store.ensures.store
    ∙ ap (λ (x : Object). property_store (object_seen x).properties c.args.name.now) c.deref_mut.ensures.value
    ∙ ap (λ (x : model.Object). property_store x.properties c.args.name.now) (sym (was_seen os h c.requires c.index_mut.result.now taken (sym c.in-Some.is ∙ c.take.ensures.value ∙ c.index_mut.ensures.value)))
