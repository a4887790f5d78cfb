use Rattle.std.proofs.Common.{◌≡◌, ◌-◌, sym, ◌∙◌, subst}
use Rattle.std.specs.Prelude.{Some, Box, slice_set}
use Rattle.std.specs.declared.alloc.Global.{Global}
use Rattle.php_memplain_cells.specs.declared.objects.Object.{Object}
use Rattle.php_memplain_cells.specs.Seen.{object_seen, objects_seen}
use Rattle.php_memplain_cells.specs.Counts.{AreSameHandles}
use Rattle.php_memplain.specs.Changes.{changed, changed_at}
use Rattle.php_memplain.proofs.ChangeLemmas.{back_changed, back_same}
use Rattle.php_memplain.proofs.objects.change_object.Goals as goal

pub returns-clause-seen : goal.returns-clause-seen
returns-clause-seen c =
    let os = c.args.objects.now.items in
    let h = c.args.number in
    let taken = c.in-Some.object in
    let what = c.args.what in
    let q : object_seen c.alter.new.object ≡ changed what (object_seen taken.value) = subst (λ o. object_seen c.alter.new.object ≡ changed what (object_seen o)) c.deref_mut.ensures.value c.alter.ensures.seen in
    let p : Box Object Global = record taken { value = c.alter.new.object } in
    subst (λ x. objects_seen (slice_set (slice_set os (h - 1) x) (h - 1) (Some p)) ≡ changed_at what (objects_seen os) h) (sym c.take.ensures.after)
    (back_changed os h c.requires c.index_mut.result.now taken (sym c.in-Some.is ∙ c.take.ensures.value ∙ c.index_mut.ensures.value) p what q)

pub returns-clause-holders : goal.returns-clause-holders
returns-clause-holders c =
    let os = c.args.objects.now.items in
    let h = c.args.number in
    let taken = c.in-Some.object in
    let q : c.alter.new.object.holders ≡ taken.value.holders = subst (λ (o : Object). c.alter.new.object.holders ≡ o.holders) c.deref_mut.ensures.value c.alter.ensures.holders in
    let p : Box Object Global = record taken { value = c.alter.new.object } in
    subst (λ x. AreSameHandles os (slice_set (slice_set os (h - 1) x) (h - 1) (Some p))) (sym c.take.ensures.after)
    (back_same os h c.requires c.index_mut.result.now taken (sym c.in-Some.is ∙ c.take.ensures.value ∙ c.index_mut.ensures.value) p q)
