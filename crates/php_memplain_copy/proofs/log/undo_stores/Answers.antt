use Rattle.std.proofs.Common.{◌≡◌, [], subst, arith}
use Rattle.std.specs.Prelude.{vec_len}
use Rattle.php_memplain_copy.specs.More.{StoresGrown, ObjectsGrown}
use Rattle.php_memplain_copy.proofs.GrownLemmas.{last_held, undone, none_left}
use Rattle.php_memplain_copy.proofs.log.undo_stores.Goals as goal

pub drop_link-requires : goal.drop_link-requires
drop_link-requires c = last_held c.requires.0 c.loop-store.stores c.loop-store.done.items (c.loop-store.invariant c.requires.0 c.requires.1) c.in-Some.store c.pop.new.self.items c.in-Some.ensures.items

pub loop-store-preserved : goal.loop-store-preserved
loop-store-preserved c = λ before g. undone before c.loop-store.stores c.drop_link.new.stores c.loop-store.done.items c.pop.new.self.items (c.loop-store.invariant before g) c.in-Some.store c.in-Some.ensures.items c.drop_link.ensures.fewer c.drop_link.result c.drop_link.ensures.kept c.drop_link.ensures.gone

pub returns : goal.returns
returns c = λ before g.
    let zero : vec_len c.loop-store.done ≡ 0 = (rw c.in_default.is at c.pop.ensures.cases).0 in
    let empty : c.loop-store.done.items ≡ [] = none_left c.loop-store.done.items (let ok = c.loop-store.done.ok in omega (arith, zero)) in
    subst (λ ds. StoresGrown before c.loop-store.stores ds) empty (c.loop-store.invariant before g)

pub loop-store-preserved-in-Some : goal.loop-store-preserved-in-Some
loop-store-preserved-in-Some c = λ before g. undone before c.loop-store.stores c.drop_link.new.stores c.loop-store.done.items c.pop.new.self.items (c.loop-store.invariant before g) c.in-Some.store c.in-Some.ensures.items c.drop_link.ensures.fewer c.drop_link.result c.drop_link.ensures.kept c.drop_link.ensures.gone

pub loop-store-preserved-in-Some-2 : goal.loop-store-preserved-in-Some-2
loop-store-preserved-in-Some-2 c = λ before g. undone before c.loop-store.stores c.drop_link.new.stores c.loop-store.done.items c.pop.new.self.items (c.loop-store.invariant before g) c.in-Some.store c.in-Some.ensures.items c.drop_link.ensures.fewer c.drop_link.result c.drop_link.ensures.kept c.drop_link.ensures.gone

pub loop-store-preserved-in-Some-3 : goal.loop-store-preserved-in-Some-3
loop-store-preserved-in-Some-3 c = λ before g. undone before c.loop-store.stores c.drop_link.new.stores c.loop-store.done.items c.pop.new.self.items (c.loop-store.invariant before g) c.in-Some.store c.in-Some.ensures.items c.drop_link.ensures.fewer c.drop_link.result c.drop_link.ensures.kept c.drop_link.ensures.gone

pub loop-store-preserved-in-Some-4 : goal.loop-store-preserved-in-Some-4
loop-store-preserved-in-Some-4 c = λ before g. undone before c.loop-store.stores c.drop_link.new.stores c.loop-store.done.items c.pop.new.self.items (c.loop-store.invariant before g) c.in-Some.store c.in-Some.ensures.items c.drop_link.ensures.fewer c.drop_link.result c.drop_link.ensures.kept c.drop_link.ensures.gone
