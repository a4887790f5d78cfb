use Rattle.std.proofs.Common.{◌≡◌, [], subst, arith}
use Rattle.std.specs.Prelude.{vec_len}
use Rattle.php_memplain_copy.specs.More.{StoresGrown, ObjectsGrown}
use Rattle.php_memplain_copy.proofs.GrownLemmas.{two_held, handle_lowered, none_left}
use Rattle.php_memplain_copy.proofs.log.undo_objects.Goals as goal

pub lower_object-requires : goal.lower_object-requires
lower_object-requires c = two_held c.requires.0 c.loop-number.objects.items c.loop-number.raised.items (c.loop-number.invariant c.requires.0 c.requires.1) c.in-Some.number c.pop.new.self.items c.in-Some.ensures.items

pub loop-number-preserved : goal.loop-number-preserved
loop-number-preserved c = λ before g. handle_lowered before c.loop-number.objects.items c.loop-number.raised.items (c.loop-number.invariant before g) c.in-Some.number c.pop.new.self.items c.in-Some.ensures.items c.lower_object.new.objects.items c.lower_object.ensures.seen c.lower_object.ensures.fewer

pub returns : goal.returns
returns c = λ before g.
    let zero : vec_len c.loop-number.raised ≡ 0 = (rw c.in_default.is at c.pop.ensures.cases).0 in
    let empty : c.loop-number.raised.items ≡ [] = none_left c.loop-number.raised.items (let ok = c.loop-number.raised.ok in omega (arith, zero)) in
    subst (λ rs. ObjectsGrown before c.loop-number.objects.items rs) empty (c.loop-number.invariant before g)
