use Rattle.std.proofs.Common.{◌≡◌, ◌-◌, sym, ◌∙◌, ap, subst, arith}
use Rattle.std.specs.Prelude.{Some, Box, Result, Ok, Err, slice_set, OnOk, OnErr}
use Rattle.std.specs.declared.alloc.Global.{Global}
use Rattle.php_base.specs.declared.memory.NoMemory.{NoMemory}
use Rattle.php_memplain_cells.specs.declared.objects.Object.{Object}
use Rattle.php_memplain_cells.specs.Seen.{object_seen, objects_seen}
use Rattle.php_memplain_cells.specs.Counts.{AreSameHandles}
use Rattle.php_memplain_writes.specs.Hanging.{property_added, property_added_at}
use Rattle.php_memplain_writes.proofs.HangLemmas.{is_within, no_box, length_put, back_changed, back_kept, back_same}
use Rattle.php_memplain_writes.proofs.hanging.add_to_object.Goals as goal

pub index_mut-requires : goal.index_mut-requires
index_mut-requires c = omega (arith, (is_within c.args.objects.now.items c.args.number c.requires).0, (is_within c.args.objects.now.items c.args.number c.requires).1)

pub unreachable-requires : goal.unreachable-requires
unreachable-requires c = no_box c.args.objects.now.items c.args.number c.requires c.index_mut.result.now (sym c.index_mut.ensures.value ∙ sym c.take.ensures.value ∙ c.in_default.is)

pub index_mut-requires-2 : goal.index_mut-requires-2
index_mut-requires-2 c = omega (arith, (is_within c.args.objects.now.items c.args.number c.requires).0, (is_within c.args.objects.now.items c.args.number c.requires).1, length_put c.args.objects.now.items (c.args.number - 1) c.take.new.self)

mapped_ok : {P Q : Type 0} (r : Result Unit NoMemory) → (P → Q) → OnOk r P → OnOk r Q
mapped_ok (Ok x) f p = f p
mapped_ok (Err e) f p = p

mapped_err : {P Q : Type 0} (r : Result Unit NoMemory) → (P → Q) → OnErr r P → OnErr r Q
mapped_err (Ok x) f p = p
mapped_err (Err e) f p = f p

pub returns-clause-ok : goal.returns-clause-ok
returns-clause-ok c =
    let os = c.args.objects.now.items in
    let h = c.args.number in
    let taken = c.in-Some.object in
    let change = property_added c.args.name.now c.args.store in
    let new = c.add_property-added.new.object in
    let p : Box Object Global = record taken { value = new } in
    mapped_ok c.add_property-added.result
    (λ is. subst (λ x. objects_seen (slice_set (slice_set os (h - 1) x) (h - 1) (Some p)) ≡ property_added_at c.args.name.now c.args.store (objects_seen os) h) (sym c.take.ensures.after)
    (back_changed os h c.requires c.index_mut.result.now taken (sym c.in-Some.is ∙ c.take.ensures.value ∙ c.index_mut.ensures.value) p change (is ∙ ap (λ (o : Object). change (object_seen o)) c.deref_mut.ensures.value)))
    c.add_property-added.ensures.ok

pub returns-clause-no_memory : goal.returns-clause-no_memory
returns-clause-no_memory c =
    let os = c.args.objects.now.items in
    let h = c.args.number in
    let taken = c.in-Some.object in
    let new = c.add_property-added.new.object in
    let p : Box Object Global = record taken { value = new } in
    mapped_err c.add_property-added.result
    (λ is. subst (λ x. objects_seen (slice_set (slice_set os (h - 1) x) (h - 1) (Some p)) ≡ objects_seen os) (sym c.take.ensures.after)
    (back_kept os h c.requires c.index_mut.result.now taken (sym c.in-Some.is ∙ c.take.ensures.value ∙ c.index_mut.ensures.value) p (is ∙ ap object_seen c.deref_mut.ensures.value)))
    c.add_property-added.ensures.no_memory

pub returns-clause-holders : goal.returns-clause-holders
returns-clause-holders c =
    let os = c.args.objects.now.items in
    let h = c.args.number in
    let taken = c.in-Some.object in
    let new = c.add_property-added.new.object in
    let q : new.holders ≡ taken.value.holders = subst (λ (o : Object). new.holders ≡ o.holders) c.deref_mut.ensures.value c.add_property-added.ensures.holders in
    let p : Box Object Global = record taken { value = new } in
    subst (λ x. AreSameHandles os (slice_set (slice_set os (h - 1) x) (h - 1) (Some p))) (sym c.take.ensures.after)
    (back_same os h c.requires c.index_mut.result.now taken (sym c.in-Some.is ∙ c.take.ensures.value ∙ c.index_mut.ensures.value) p q)
