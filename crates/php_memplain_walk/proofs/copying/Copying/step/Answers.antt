use Rattle.std.proofs.Common.{◌≡◌, refl, sym, ◌∙◌, ap, subst, arith}
use Rattle.std.specs.Prelude.{Ok, Some, None}
use Rattle.php_memplain_copy.specs.Steps.{ElementIs}
use Rattle.php_memplain_walk.specs.declared.copying.Copying.{Copying}
use Rattle.php_memplain_walk.specs.Way.{hand_of}
use Rattle.php_memplain_walk.proofs.WayLemmas.{live_at, same_way, go_on, go_in, looked_begun}
use Rattle.php_memplain_walk.proofs.copying.Copying.step.Goals as goal

pub go_back-requires-clause-way : goal.go_back-requires-clause-way
go_back-requires-clause-way c =
    let e = c.requires in
    let next = c.next_element.ensures in
    let none = c.in_default.ensures.none in
    (c.args.objects.now.items, (e.0, (e.1.0, (e.1.1.0, same_way e.0 c.args.root.now e.1.0 e.1.1.0 c.args.stores.now c.args.objects.now.items c.args.log.now c.args.self.now e.1.1.1 (record { frame = c.next_element.new.frame; waiting = c.args.self.now.waiting }) next.source next.levels (ap (λ v. v.items) next.values) refl (none.1 ∙ sym none.0)))))

pub copy_element-requires : goal.copy_element-requires
copy_element-requires c =
    let e = c.requires.0 in
    let way = c.requires.1.1.1 in
    let next = c.next_element.ensures in
    (e, (_, (way.whole, (way.taken, live_at e c.args.root.now c.requires.1.0 c.requires.1.1.0 c.args.stores.now c.args.objects.now.items c.args.log.now c.args.self.now way c.next_element.new.frame c.in-Some.store next.source next.levels (ap (λ v. v.items) next.values) c.in-Some.ensures.some))))

pub go_inside-requires : goal.go_inside-requires
go_inside-requires c =
    let e = c.requires.0 in
    let way = c.requires.1.1.1 in
    let next = c.next_element.ensures in
    let live = live_at e c.args.root.now c.requires.1.0 c.requires.1.1.0 c.args.stores.now c.args.objects.now.items c.args.log.now c.args.self.now way c.next_element.new.frame c.in-Some.store next.source next.levels (ap (λ v. v.items) next.values) c.in-Some.ensures.some in
    let hand = hand_of c.requires.1.1.0 c.args.self.now in
    let found =
    subst (λ r. ElementIs e hand c.next_element.new.frame.levels c.in-Some.store c.args.stores.now (Ok r) c.copy_element.new.stores c.copy_element.new.objects.items c.copy_element.new.log) c.in-Ok-None.field-0-is
    (c.in-Ok-None.ensures e hand way.whole way.taken live) in
    omega (arith, found.1.1.is_inside)

pub returns-in-Ok-clause-step : goal.returns-in-Ok-clause-step
returns-in-Ok-clause-step c = λ e start others way.
    let next = c.next_element.ensures in
    let live = live_at e c.args.root.now start others c.args.stores.now c.args.objects.now.items c.args.log.now c.args.self.now way c.next_element.new.frame c.in-Some.store next.source next.levels (ap (λ v. v.items) next.values) c.in-Some.ensures.some in
    let hand = hand_of others c.args.self.now in
    let found =
    subst (λ r. ElementIs e hand c.next_element.new.frame.levels c.in-Some.store c.args.stores.now (Ok r) c.copy_element.new.stores c.copy_element.new.objects.items c.copy_element.new.log) c.in-Ok-Some.field-0-is
    (c.in-Ok-Some.ensures e hand way.whole way.taken live) in
    go_on e c.args.root.now start others c.args.stores.now c.args.objects.now.items c.args.log.now c.args.self.now way c.next_element.new.frame c.in-Some.store next.source next.levels (ap (λ v. v.items) next.values) c.in-Some.ensures.some
    c.copy_element.new.stores c.copy_element.new.objects.items c.copy_element.new.log (record { frame = record c.next_element.new.frame { values = c.push.new.self }; waiting = c.args.self.now.waiting }) c.in-Ok-Some.copy found.0 found.1 refl refl refl c.in-Ok.ensures.items refl

pub returns-in-Err-push-clause-step : goal.returns-in-Err-push-clause-step
returns-in-Err-push-clause-step c = λ e start others way.
    let next = c.next_element.ensures in
    let live = live_at e c.args.root.now start others c.args.stores.now c.args.objects.now.items c.args.log.now c.args.self.now way c.next_element.new.frame c.in-Some.store next.source next.levels (ap (λ v. v.items) next.values) c.in-Some.ensures.some in
    let hand = hand_of others c.args.self.now in
    looked_begun e hand c.next_element.new.frame.levels c.in-Some.store c.args.stores.now (Ok c.in-Ok-Some.field-0) c.copy_element.new.stores c.copy_element.new.objects.items c.copy_element.new.log (c.in-Ok-Some.ensures e hand way.whole way.taken live)

pub returns-in-Ok-go_inside-clause-step : goal.returns-in-Ok-go_inside-clause-step
returns-in-Ok-go_inside-clause-step c = λ e start others way.
    let next = c.next_element.ensures in
    let live = live_at e c.args.root.now start others c.args.stores.now c.args.objects.now.items c.args.log.now c.args.self.now way c.next_element.new.frame c.in-Some.store next.source next.levels (ap (λ v. v.items) next.values) c.in-Some.ensures.some in
    let hand = hand_of others c.args.self.now in
    let found =
    subst (λ r. ElementIs e hand c.next_element.new.frame.levels c.in-Some.store c.args.stores.now (Ok r) c.copy_element.new.stores c.copy_element.new.objects.items c.copy_element.new.log) c.in-Ok-None.field-0-is
    (c.in-Ok-None.ensures e hand way.whole way.taken live) in
    let went = c.in-Ok-go_inside.ensures in
    go_in e c.args.root.now start others c.args.stores.now c.args.objects.now.items c.args.log.now c.args.self.now way c.next_element.new.frame c.in-Some.store next.source next.levels (ap (λ v. v.items) next.values) c.in-Some.ensures.some
    c.copy_element.new.stores c.copy_element.new.objects.items c.copy_element.new.log c.go_inside.new.self found.0 found.1.0 found.1.1 went.source went.levels went.passed went.values went.waiting

pub returns-in-Err-go_inside-clause-step : goal.returns-in-Err-go_inside-clause-step
returns-in-Err-go_inside-clause-step c = λ e start others way.
    let next = c.next_element.ensures in
    let live = live_at e c.args.root.now start others c.args.stores.now c.args.objects.now.items c.args.log.now c.args.self.now way c.next_element.new.frame c.in-Some.store next.source next.levels (ap (λ v. v.items) next.values) c.in-Some.ensures.some in
    let hand = hand_of others c.args.self.now in
    looked_begun e hand c.next_element.new.frame.levels c.in-Some.store c.args.stores.now (Ok c.in-Ok-None.field-0) c.copy_element.new.stores c.copy_element.new.objects.items c.copy_element.new.log (c.in-Ok-None.ensures e hand way.whole way.taken live)

pub returns-in-Err-clause-step : goal.returns-in-Err-clause-step
returns-in-Err-clause-step c = λ e start others way.
    let next = c.next_element.ensures in
    let live = live_at e c.args.root.now start others c.args.stores.now c.args.objects.now.items c.args.log.now c.args.self.now way c.next_element.new.frame c.in-Some.store next.source next.levels (ap (λ v. v.items) next.values) c.in-Some.ensures.some in
    c.in-Err.ensures e (hand_of others c.args.self.now) way.whole way.taken live

pub returns-in_default-clause-step : goal.returns-in_default-clause-step
returns-in_default-clause-step c = λ e start others way.
    let next = c.next_element.ensures in
    let none = c.in_default.ensures.none in
    c.go_back.ensures.step c.args.objects.now.items e start others
    (same_way e c.args.root.now start others c.args.stores.now c.args.objects.now.items c.args.log.now c.args.self.now way (record { frame = c.next_element.new.frame; waiting = c.args.self.now.waiting }) next.source next.levels (ap (λ v. v.items) next.values) refl (none.1 ∙ sym none.0))
