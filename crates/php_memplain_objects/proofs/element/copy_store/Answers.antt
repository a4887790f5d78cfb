use Rattle.std.proofs.Common.{◌≡◌, ◌+◌, ◌-◌, ◌<◌, ℕ, suc, sym, subst, arith}
use Rattle.std.specs.Prelude.{Ok}
use Rattle.php_memplain_copy.specs.Steps.{IsInside, ElementIs}
use Rattle.php_memplain_objects.proofs.ElementLemmas.{store_from}
use Rattle.php_memplain_objects.proofs.element.copy_store.Goals as goal

some_level : (n k : ℕ) → n ≡ suc k → 0 < n
some_level n k e = omega (arith, e)

level_again : (n k : ℕ) → n ≡ suc k → n ≡ n - 1 + 1
level_again n k e = omega (arith, e)

pub returns-in-Ok-Some-clause-copy : goal.returns-in-Ok-Some-clause-copy
returns-in-Ok-Some-clause-copy c = λ before at_hand whole taken live.
    subst (λ r. ElementIs before at_hand c.args.levels c.args.store c.args.stores.now (Ok r) c.copy_element.new.stores c.copy_element.new.objects.items c.copy_element.new.log) c.in-Ok-Some.field-0-is
    (c.in-Ok-Some.ensures before at_hand whole taken live)

pub copy_inside-requires : goal.copy_inside-requires
copy_inside-requires c =
    let r = c.requires in
    let q = subst (λ o. ElementIs r.0 r.1.0 c.args.levels c.args.store c.args.stores.now (Ok o) c.copy_element.new.stores c.copy_element.new.objects.items c.copy_element.new.log) c.in-Ok-None.field-0-is (c.in-Ok-None.ensures r.0 r.1.0 r.1.1.0 r.1.1.1.0 r.1.1.1.1) in
    (r.0, (r.1.0, (r.1.1.0, (q.0, (r.1.1.1.1, subst (λ n. IsInside r.0 n c.args.store) (level_again c.args.levels q.1.1.inner q.1.1.is_inside) q.1.1)))))

pub returns-in-Ok-None-clause-copy : goal.returns-in-Ok-None-clause-copy
returns-in-Ok-None-clause-copy c = λ before at_hand whole taken live.
    let q = subst (λ o. ElementIs before at_hand c.args.levels c.args.store c.args.stores.now (Ok o) c.copy_element.new.stores c.copy_element.new.objects.items c.copy_element.new.log) c.in-Ok-None.field-0-is (c.in-Ok-None.ensures before at_hand whole taken live) in
    let up = level_again c.args.levels q.1.1.inner q.1.1.is_inside in
    store_from before at_hand (c.args.levels - 1 + 1) c.args.levels c.args.store c.args.stores.now c.copy_element.new.stores c.copy_inside.result c.copy_inside.new.stores c.copy_inside.new.objects.items c.copy_inside.new.log (sym up) q.1.0
    (c.copy_inside.ensures.copy before at_hand whole q.0 live (subst (λ n. IsInside before n c.args.store) up q.1.1))

pub returns-in-Err-clause-copy : goal.returns-in-Err-clause-copy
returns-in-Err-clause-copy c = λ before at_hand whole taken live. c.in-Err.ensures before at_hand whole taken live

pub overflow_sub-levels : goal.overflow_sub-levels
overflow_sub-levels c =
    let r = c.requires in
    let q = subst (λ o. ElementIs r.0 r.1.0 c.args.levels c.args.store c.args.stores.now (Ok o) c.copy_element.new.stores c.copy_element.new.objects.items c.copy_element.new.log) c.in-Ok-None.field-0-is (c.in-Ok-None.ensures r.0 r.1.0 r.1.1.0 r.1.1.1.0 r.1.1.1.1) in
    some_level c.args.levels q.1.1.inner q.1.1.is_inside
