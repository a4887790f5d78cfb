use Rattle.std.proofs.Common.{◌≡◌, ◌+◌, ◌-◌, [], ◌∷◌, sym, ◌∙◌, ap, subst}
use Rattle.std.specs.Prelude.{Bool, true, false, Option, Some, None, Box, slice_set}
use Rattle.std.specs.declared.alloc.Global.{Global}
use Rattle.php_memplain_cells.specs.declared.objects.Object.{Object}
use Rattle.php_memplain_cells.specs.Seen.{object_seen, objects_seen}
use Rattle.php_memplain_cells.specs.Counts.{AreSameHandles}
use Rattle.php_memplain_copy.specs.More.{AreMoreHandles, GainIs}
use Rattle.php_memplain_copy.proofs.RaiseLemmas.{back_seen, back_same, back_more}
use Rattle.php_memplain_copy.proofs.objects.raise_object.Goals as goal

looks_same : (b : Bool) (o p : Object) → GainIs b o p → object_seen p ≡ object_seen o
looks_same true o p e = ap object_seen e
looks_same false o p e = ap object_seen e

gained : (b : Bool) (o p : Object) → b ≡ true → GainIs b o p → p.holders ≡ o.holders + 1
gained b o p e g = ap (λ (x : Object). x.holders) (subst (λ (x : Bool). GainIs x o p) e g)

not_gained : (b : Bool) (o p : Object) → b ≡ false → GainIs b o p → p.holders ≡ o.holders
not_gained b o p e g = ap (λ (x : Object). x.holders) (subst (λ (x : Bool). GainIs x o p) e g)

pub returns-clause-seen : goal.returns-clause-seen
returns-clause-seen c =
    let os = c.args.objects.now.items in
    let h = c.args.number in
    let taken = c.in-Some.object in
    let q : GainIs c.gain-is_raised.result taken.value c.gain-is_raised.new.object = subst (λ o. GainIs c.gain-is_raised.result o c.gain-is_raised.new.object) c.deref_mut.ensures.value c.gain-is_raised.ensures in
    let p : Box Object Global = record taken { value = c.gain-is_raised.new.object } in
    subst (λ x. objects_seen (slice_set (slice_set os (h - 1) x) (h - 1) (Some p)) ≡ objects_seen os) (sym c.take.ensures.after)
    (back_seen os h c.requires c.index_mut.result.now taken (sym c.in-Some.is ∙ c.take.ensures.value ∙ c.index_mut.ensures.value) p (looks_same c.gain-is_raised.result taken.value p.value q))

pub returns-clause-raised : goal.returns-clause-raised
returns-clause-raised c = λ true_is. (
    let os = c.args.objects.now.items in
    let h = c.args.number in
    let taken = c.in-Some.object in
    let q : GainIs c.gain-is_raised.result taken.value c.gain-is_raised.new.object = subst (λ o. GainIs c.gain-is_raised.result o c.gain-is_raised.new.object) c.deref_mut.ensures.value c.gain-is_raised.ensures in
    let p : Box Object Global = record taken { value = c.gain-is_raised.new.object } in
    subst (λ x. AreMoreHandles os (slice_set (slice_set os (h - 1) x) (h - 1) (Some p)) (h ∷ [])) (sym c.take.ensures.after)
    (back_more os h c.requires c.index_mut.result.now taken (sym c.in-Some.is ∙ c.take.ensures.value ∙ c.index_mut.ensures.value) p (gained c.gain-is_raised.result taken.value p.value true_is q)))

pub returns-clause-kept : goal.returns-clause-kept
returns-clause-kept c = λ false_is. (
    let os = c.args.objects.now.items in
    let h = c.args.number in
    let taken = c.in-Some.object in
    let q : GainIs c.gain-is_raised.result taken.value c.gain-is_raised.new.object = subst (λ o. GainIs c.gain-is_raised.result o c.gain-is_raised.new.object) c.deref_mut.ensures.value c.gain-is_raised.ensures in
    let p : Box Object Global = record taken { value = c.gain-is_raised.new.object } in
    subst (λ x. AreSameHandles os (slice_set (slice_set os (h - 1) x) (h - 1) (Some p))) (sym c.take.ensures.after)
    (back_same os h c.requires c.index_mut.result.now taken (sym c.in-Some.is ∙ c.take.ensures.value ∙ c.index_mut.ensures.value) p (not_gained c.gain-is_raised.result taken.value p.value false_is q)))
