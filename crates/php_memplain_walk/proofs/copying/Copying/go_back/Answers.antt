use Rattle.std.proofs.Common.{◌≡◌, [], length, refl, ◌∙◌, ap, arith}
use Rattle.std.specs.Prelude.{vec_len}
use Rattle.php_entries.specs.Changes.{with_values}
use Rattle.php_memdef.specs.Contents.{array}
use Rattle.php_memplain_cells.specs.Seen.{stores_seen}
use Rattle.php_memplain_copy.specs.Walking.{listing_in}
use Rattle.php_memplain_walk.proofs.WayLemmas.{no_frames, count_here, come_out, come_back, put_begun, not_put_begun, way_begun}
use Rattle.php_memplain_walk.proofs.copying.Copying.go_back.Goals as goal

pub finished-requires : goal.finished-requires
finished-requires c =
    let e = c.requires.way in
    ap (λ v. length v.items) c.replace-values.ensures.value
    ∙ count_here e.1.0 c.args.root.now e.1.1.0 e.1.1.1.0 c.args.stores.now e.0 c.args.log.now c.args.self.now e.1.1.1.1 c.requires.end

pub returns-in_default-pop-clause-step : goal.returns-in_default-pop-clause-step
returns-in_default-pop-clause-step c = λ objects before start others way.
    let w = c.args.self.now in
    let zero : vec_len w.waiting ≡ 0 = (rw c.in_default-pop.is at c.pop.ensures.cases).0 in
    come_out before c.args.root.now start others c.args.stores.now objects c.args.log.now w way c.requires.end c.in-Ok.content
    (c.in-Ok.ensures.copy ∙ ap (λ v. array (with_values (listing_in (stores_seen c.args.stores.now) c.args.root.now w.frame.source) v.items)) c.replace-values.ensures.value)
    (no_frames w.waiting.items (let ok = w.waiting.ok in omega (arith, zero)))

pub returns-in-Ok-push-clause-step : goal.returns-in-Ok-push-clause-step
returns-in-Ok-push-clause-step c = λ objects before start others way.
    let w = c.args.self.now in
    come_back before c.args.root.now start others c.args.stores.now objects c.args.log.now w way c.requires.end c.in-Ok.content
    (c.in-Ok.ensures.copy ∙ ap (λ v. array (with_values (listing_in (stores_seen c.args.stores.now) c.args.root.now w.frame.source) v.items)) c.replace-values.ensures.value)
    c.in-Some.outer c.pop.new.self.items c.in-Some.ensures.items c.put_new.new.stores c.in-Ok-put_new.copy (record c.args.log.now { stores = c.put_new.new.done })
    (record { frame = record c.in-Some.outer { values = c.push.new.self }; waiting = c.pop.new.self })
    c.in-Ok-put_new.ensures.put c.in-Ok-put_new.ensures.more.0 c.in-Ok-put_new.ensures.more.1 refl refl refl refl c.in-Ok-push.ensures.items refl

pub returns-in-Err-clause-step : goal.returns-in-Err-clause-step
returns-in-Err-clause-step c = λ objects before start others way.
    put_begun before c.args.root.now start others c.args.stores.now objects c.args.log.now c.args.self.now way c.put_new.new.stores c.in-Ok-put_new.copy _ (record c.args.log.now { stores = c.put_new.new.done })
    c.in-Ok-put_new.ensures.put c.in-Ok-put_new.ensures.more.0 c.in-Ok-put_new.ensures.more.1 refl
