use Rattle.std.proofs.Common.{◌≡◌, ◌<◌, ◌+◌, ◌-◌, ℕ, sym, ◌∙◌, ap, subst, arith}
use Rattle.std.specs.Prelude.{Some, None, Option, Box, slice_set}
use Rattle.std.specs.declared.alloc.Global.{Global}
use Rattle.php_memplain_cells.specs.declared.objects.Object.{Object}
use Rattle.php_memplain_cells.specs.Seen.{object_seen, objects_seen}
use Rattle.php_memplain_cells.specs.Counts.{count_of_object, AreFewerHandles}
use Rattle.php_memplain_copy.proofs.RaiseLemmas.{count, back_seen, back_fewer}
use Rattle.php_memplain_copy.proofs.objects.lower_object.Goals as goal

some_held : (n : ℕ) → 1 < n → 0 < n
some_held n h = omega (arith, h)

fewer_held : (o p : Object) (n : ℕ) → n ≡ o.holders → 1 < n → p ≡ record o { holders = o.holders - 1 } → p.holders + 1 ≡ o.holders
fewer_held o p n e many is = let less : p.holders ≡ o.holders - 1 = ap (λ (x : Object). x.holders) is in omega (arith, e, many, less)

pub lose-requires : goal.lose-requires
lose-requires c =
    let os = c.args.objects.now.items in
    let h = c.args.number in
    let taken = c.in-Some.object in
    let many : 1 < count_of_object os h = c.requires in
    let is : count_of_object os h ≡ taken.value.holders = count os h (some_held (count_of_object os h) many) c.index_mut.result.now taken (sym c.in-Some.is ∙ c.take.ensures.value ∙ c.index_mut.ensures.value) in
    let same : taken.value.holders ≡ c.deref_mut.result.now.holders = ap (λ (x : Object). x.holders) (sym c.deref_mut.ensures.value) in
    omega (arith, many, is, same)

pub returns-clause-seen : goal.returns-clause-seen
returns-clause-seen c =
    let os = c.args.objects.now.items in
    let h = c.args.number in
    let taken = c.in-Some.object in
    let q : c.lose.new.object ≡ record taken.value { holders = taken.value.holders - 1 } = subst (λ o. c.lose.new.object ≡ record o { holders = o.holders - 1 }) c.deref_mut.ensures.value c.lose.ensures in
    let p : Box Object Global = record taken { value = c.lose.new.object } in
    subst (λ x. objects_seen (slice_set (slice_set os (h - 1) x) (h - 1) (Some p)) ≡ objects_seen os) (sym c.take.ensures.after)
    (back_seen os h (some_held (count_of_object os h) c.requires) c.index_mut.result.now taken (sym c.in-Some.is ∙ c.take.ensures.value ∙ c.index_mut.ensures.value) p (ap object_seen q))

pub returns-clause-fewer : goal.returns-clause-fewer
returns-clause-fewer c =
    let os = c.args.objects.now.items in
    let h = c.args.number in
    let taken = c.in-Some.object in
    let q : c.lose.new.object ≡ record taken.value { holders = taken.value.holders - 1 } = subst (λ o. c.lose.new.object ≡ record o { holders = o.holders - 1 }) c.deref_mut.ensures.value c.lose.ensures in
    let p : Box Object Global = record taken { value = c.lose.new.object } in
    let e = sym c.in-Some.is ∙ c.take.ensures.value ∙ c.index_mut.ensures.value in
    let some = some_held (count_of_object os h) c.requires in
    subst (λ x. AreFewerHandles os (slice_set (slice_set os (h - 1) x) (h - 1) (Some p)) h) (sym c.take.ensures.after)
    (back_fewer os h some c.index_mut.result.now taken e p (fewer_held taken.value p.value (count_of_object os h) (count os h some c.index_mut.result.now taken e) c.requires q))
