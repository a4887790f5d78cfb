use Rattle.std.proofs.Common.{◌≡◌, ◌+◌, ◌-◌, [], ◌∷◌, sym, ◌∙◌, ap, subst, arith}
use Rattle.std.specs.Prelude.{Some, Box, slice_set}
use Rattle.std.specs.declared.alloc.Global.{Global}
use Rattle.php_memplain_cells.specs.declared.objects.Object.{Object}
use Rattle.php_memplain_cells.specs.Seen.{object_seen, objects_seen}
use Rattle.php_memplain_cells.specs.Counts.{count_of_object}
use Rattle.php_memplain_copy.specs.More.{AreMoreHandles}
use Rattle.php_memplain_copy.proofs.RaiseLemmas.{count, back_seen, back_more}
use Rattle.php_memplain_objects.proofs.holding.hold_again.Goals as goal

pub gain-requires : goal.gain-requires
gain-requires c =
    let os = c.args.objects.now.items in
    let h = c.args.number in
    let taken = c.in-Some.object in
    let is : count_of_object os h ≡ taken.value.holders = count os h c.requires.there c.index_mut.result.now taken (sym c.in-Some.is ∙ c.take.ensures.value ∙ c.index_mut.ensures.value) in
    let same : taken.value.holders ≡ c.deref_mut.result.now.holders = ap (λ (x : Object). x.holders) (sym c.deref_mut.ensures.value) in
    omega (arith, c.requires.fits, is, same)

pub returns-clause-seen : goal.returns-clause-seen
returns-clause-seen c =
    let os = c.args.objects.now.items in
    let h = c.args.number in
    let taken = c.in-Some.object in
    let q : c.gain.new.object ≡ record taken.value { holders = taken.value.holders + 1 } = subst (λ o. c.gain.new.object ≡ record o { holders = o.holders + 1 }) c.deref_mut.ensures.value c.gain.ensures in
    let p : Box Object Global = record taken { value = c.gain.new.object } in
    subst (λ x. objects_seen (slice_set (slice_set os (h - 1) x) (h - 1) (Some p)) ≡ objects_seen os) (sym c.take.ensures.after)
    (back_seen os h c.requires.there c.index_mut.result.now taken (sym c.in-Some.is ∙ c.take.ensures.value ∙ c.index_mut.ensures.value) p (ap object_seen q))

pub returns-clause-more : goal.returns-clause-more
returns-clause-more c =
    let os = c.args.objects.now.items in
    let h = c.args.number in
    let taken = c.in-Some.object in
    let q : c.gain.new.object ≡ record taken.value { holders = taken.value.holders + 1 } = subst (λ o. c.gain.new.object ≡ record o { holders = o.holders + 1 }) c.deref_mut.ensures.value c.gain.ensures in
    let p : Box Object Global = record taken { value = c.gain.new.object } in
    subst (λ x. AreMoreHandles os (slice_set (slice_set os (h - 1) x) (h - 1) (Some p)) (h ∷ [])) (sym c.take.ensures.after)
    (back_more os h c.requires.there c.index_mut.result.now taken (sym c.in-Some.is ∙ c.take.ensures.value ∙ c.index_mut.ensures.value) p (ap (λ (x : Object). x.holders) q))
