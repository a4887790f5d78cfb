use Rattle.std.proofs.Common.{◌≡◌, ◌<◌, ◌-◌, ℕ, suc, List, map, refl, sym, ◌∙◌, ap, subst, arith}
use Rattle.std.specs.Prelude.{true, false, Option, Some, None, Box, option_map, slice_index_or, slice_set}
use Rattle.std.specs.declared.alloc.Global.{Global}
use Rattle.php_memdef.specs.Numbered.{numbered, with_numbered}
use Rattle.php_memdef.specs.Contents as model
use Rattle.php_memplain_cells.specs.declared.objects.Object.{Object}
use Rattle.php_memplain_cells.specs.Seen.{property_seen, object_seen, box_seen, objects_seen}
use Rattle.php_memplain_cells.specs.Counts.{handles_if, count_of_object, AreFewerHandles, AreSameHandles}
use Rattle.php_memplain_cells.specs.Dropped.{LostIs, Turns, is_due}
use Rattle.php_memplain_cells.specs.declared.objects.Lost.TheVariants as lost
use Rattle.php_memplain_cells.proofs.SlotLemmas.{set_twice, any_default, with_same}
use Rattle.php_memplain_cells.proofs.ObjectLemmas.{found, put_seen, there_seen, fewer_put, same_put}
use Rattle.php_memplain_cells.proofs.objects.drop_handle.Goals as goal

-- the slot of the number, and what was taken out of it

module _ (os : List (Option (Box Object Global))) (h : ℕ) (some : 0 < count_of_object os h) (d : Option (Box Object Global)) (taken : Box Object Global) (e : Some taken ≡ slice_index_or os (h - 1) d) where
  there : slice_index_or os (h - 1) None ≡ Some taken
  there = let f = found os h some in f.there ∙ sym (any_default os (h - 1) f.box d f.there) ∙ sym e

  count : count_of_object os h ≡ taken.value.holders
  count = let f = found os h some in f.holders ∙ ap handles_if (sym f.there ∙ there)

  held : (p : Box Object Global) → p.value ≡ record taken.value { holders = taken.value.holders - 1 } → 1 < taken.value.holders → (1 < count_of_object os h) × ((objects_seen (slice_set (slice_set os (h - 1) None) (h - 1) (Some p)) ≡ objects_seen os) × AreFewerHandles os (slice_set (slice_set os (h - 1) None) (h - 1) (Some p)) h)
  held p is more =
      let k = h - 1 in
      let fewer : p.value.holders ≡ taken.value.holders - 1 = ap (λ (o : Object). o.holders) is in (
        omega (arith, more, count),
        (
          ap objects_seen (set_twice os k None (Some p)) ∙ put_seen os k taken there (Some p) ∙ ap (λ o. with_numbered (objects_seen os) (suc k) (Some o)) (ap object_seen is) ∙ with_same (objects_seen os) (suc k) (box_seen taken) (there_seen os k taken there),
          subst (λ ps. AreFewerHandles os ps h) (sym (set_twice os k None (Some p))) (fewer_put os k taken there h (found os h some).number (Some p) (omega (arith, fewer, more))),
        ),
      )

  stays : (p : Box Object Global) → p.value.holders ≡ taken.value.holders → AreSameHandles os (slice_set (slice_set os (h - 1) None) (h - 1) (Some p))
  stays p same = subst (λ ps. AreSameHandles os ps) (sym (set_twice os (h - 1) None (Some p))) (same_put os (h - 1) taken there (Some p) same)

  turns : (y : Option (Box Object Global)) (o : Option model.Object) → option_map box_seen y ≡ o → Turns os (slice_set os (h - 1) y) h (box_seen taken) o
  turns y o is =
      let k = h - 1 in
      let up = (found os h some).number in
      record {
        there = ap (numbered (objects_seen os)) up ∙ there_seen os k taken there;
        after_it = put_seen os k taken there y ∙ ap (with_numbered (objects_seen os) (suc k)) is ∙ ap (λ i. with_numbered (objects_seen os) i o) (sym up);
      }

  turns_twice : (p : Box Object Global) (o : model.Object) → box_seen p ≡ o → Turns os (slice_set (slice_set os (h - 1) None) (h - 1) (Some p)) h (box_seen taken) (Some o)
  turns_twice p o is = subst (λ ps. Turns os ps h (box_seen taken) (Some o)) (sym (set_twice os (h - 1) None (Some p))) (turns (Some p) (Some o) (ap Some is))

pub returns-in-Held-clause-dropped : goal.returns-in-Held-clause-dropped
returns-in-Held-clause-dropped c =
    let os = c.args.objects.now.items in
    let h = c.args.number in
    let taken = c.in-Some.object in
    let q : LostIs lost.Held taken.value c.lose.new.self = subst (λ o. LostIs lost.Held o c.lose.new.self) c.deref_mut.ensures.value c.in-Held.ensures in
    let p : Box Object Global = record taken { value = c.lose.new.self } in
    subst (λ x. (1 < count_of_object os h) × ((objects_seen (slice_set (slice_set os (h - 1) x) (h - 1) (Some p)) ≡ objects_seen os) × AreFewerHandles os (slice_set (slice_set os (h - 1) x) (h - 1) (Some p)) h)) (sym c.take.ensures.after)
    (held os h c.requires c.index_mut.result.now taken (sym c.in-Some.is ∙ c.take.ensures.value ∙ c.index_mut.ensures.value) p q.1 q.0)

pub returns-in-Due-clause-dropped : goal.returns-in-Due-clause-dropped
returns-in-Due-clause-dropped c =
    let os = c.args.objects.now.items in
    let h = c.args.number in
    let d = c.index_mut.result.now in
    let taken = c.in-Some.object in
    let e = sym c.in-Some.is ∙ c.take.ensures.value ∙ c.index_mut.ensures.value in
    let q : LostIs lost.Due taken.value c.lose.new.self = subst (λ o. LostIs lost.Due o c.lose.new.self) c.deref_mut.ensures.value c.in-Due.ensures in
    let p : Box Object Global = record taken { value = c.lose.new.self } in
    subst (λ x. (count_of_object os h ≡ 1) × (AreSameHandles os (slice_set (slice_set os (h - 1) x) (h - 1) (Some p)) × ((o : model.Object) × (Turns os (slice_set (slice_set os (h - 1) x) (h - 1) (Some p)) h o (Some (record o { spent = true })) × (is_due o ≡ true))))) (sym c.take.ensures.after) (
      count os h c.requires d taken e ∙ q.0,
      (
        stays os h c.requires d taken e p (ap (λ (o : Object). o.holders) q.1.1),
        (box_seen taken, (turns_twice os h c.requires d taken e p (record (box_seen taken) { spent = true }) (ap object_seen q.1.1), q.1.0)),
      ),
    )

pub returns-in-Framed-clause-dropped : goal.returns-in-Framed-clause-dropped
returns-in-Framed-clause-dropped c =
    let os = c.args.objects.now.items in
    let h = c.args.number in
    let d = c.index_mut.result.now in
    let taken = c.in-Some.object in
    let e = sym c.in-Some.is ∙ c.take.ensures.value ∙ c.index_mut.ensures.value in
    let q : LostIs (lost.Framed c.in-Framed.frame) taken.value c.lose.new.self = subst (λ o. LostIs (lost.Framed c.in-Framed.frame) o c.lose.new.self) c.deref_mut.ensures.value c.in-Framed.ensures in
    let p : Box Object Global = record taken { value = c.lose.new.self } in
    subst (λ x. (count_of_object os h ≡ 1) × (AreSameHandles os (slice_set (slice_set os (h - 1) x) (h - 1) (Some p)) × ((o : model.Object) × (Turns os (slice_set (slice_set os (h - 1) x) (h - 1) (Some p)) h o (Some (record o { frame = None })) × ((is_due o ≡ false) × (o.frame ≡ Some c.in-Framed.frame)))))) (sym c.take.ensures.after) (
      count os h c.requires d taken e ∙ q.0,
      (
        stays os h c.requires d taken e p (ap (λ (o : Object). o.holders) q.1.1.1),
        (box_seen taken, (turns_twice os h c.requires d taken e p (record (box_seen taken) { frame = None }) (ap object_seen q.1.1.1), (q.1.0, q.1.1.0))),
      ),
    )

pub returns-in-Gone-clause-dropped : goal.returns-in-Gone-clause-dropped
returns-in-Gone-clause-dropped c =
    let os = c.args.objects.now.items in
    let h = c.args.number in
    let d = c.index_mut.result.now in
    let taken = c.in-Some.object in
    let e = sym c.in-Some.is ∙ c.take.ensures.value ∙ c.index_mut.ensures.value in
    let q : LostIs lost.Gone taken.value c.lose.new.self = subst (λ o. LostIs lost.Gone o c.lose.new.self) c.deref_mut.ensures.value c.in-Gone.ensures in
    let f = found os h c.requires in
    let one : count_of_object os h ≡ 1 = count os h c.requires d taken e ∙ q.0 in
    subst (λ x. (count_of_object os h ≡ 1) × (AreFewerHandles os (slice_set os (h - 1) x) h × ((o : model.Object) × (Turns os (slice_set os (h - 1) x) h o None × ((is_due o ≡ false) × ((o.frame ≡ None) × (o.properties ≡ map property_seen c.into_inner-object.result.properties.items))))))) (sym c.take.ensures.after) (
      one,
      (
        fewer_put os (h - 1) taken (there os h c.requires d taken e) h f.number None (omega (arith, q.0)),
        (box_seen taken, (turns os h c.requires d taken e None None refl, (q.1.0, (q.1.1.0, ap (λ (o : Object). map property_seen o.properties.items) (sym q.1.1.1 ∙ sym c.into_inner-object.ensures))))),
      ),
    )
