use Rattle.std.proofs.Common.{[], ◌∷◌, ◌++◌, ◌∙◌, ap}
use Rattle.php_memdef.specs.Contents.{Scope, value, object}
use Rattle.php_memdef.specs.Temporaries.{rest_of}
use Rattle.php_memplain_cells.specs.Seen.{item_seen, scope_seen}
use Rattle.php_memplain_objects.proofs.handles.replace_top.Goals as goal

pub returns : goal.returns
returns c =
    let f = scope_seen c.args.block.now in
    let q = c.swap_handle-top.ensures in
    c.fall_last.ensures
    ∙ ap (λ (x : Scope). record x { falling = x.falling ++ item_seen c.swap_handle-top.result ∷ [] }) q.seen
    ∙ ap (λ i. record f { temps = value (object c.args.number) ∷ rest_of f.temps; falling = f.falling ++ i ∷ [] }) q.top
