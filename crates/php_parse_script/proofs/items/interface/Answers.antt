use Rattle.std.proofs.Common.{arith}
use Rattle.std.proofs.lemmas.Result.{err_from_is_err_and}
use Rattle.php_grammar.specs.declaration.ScriptMachine.{past_heading, item_of, interface_heading}
use Rattle.php_parse_script.proofs.Moves.{leads, later}
use Rattle.php_parse_script.proofs.Declared.{interface_shown}
use Rattle.php_parse_script.proofs.items.interface.Goals as goal

pub returns-in_err-heading : goal.returns-in_err-heading
returns-in_err-heading c =
    let q = err_from_is_err_and c.from_residual.result c.from_residual.ensures.1 in
    rw (q.1, q.2) c.in_err-heading.ensures

pub returns-in_err-read : goal.returns-in_err-read
returns-in_err-read c =
    let h = c.in_ok-heading.ensures in
    let q = err_from_is_err_and c.from_residual-in_err-read.result c.from_residual-in_err-read.ensures.1 in
    rw (q.1, q.2) (λ items. later c.args.reader.now.tokens.now c.args.at c.in_ok-heading.heading.next (past_heading items (interface_heading h.name h.parents)) c.in_err-read.field-0.0 (omega (arith, h.sized)) (h.reads items)
    (c.in_err-read.ensures items (interface_heading h.name h.parents) h.over))

pub returns : goal.returns
returns c =
    let h = c.in_ok-heading.ensures in
    let m = c.in_ok-read.ensures in
    record {
      form = item_of (interface_heading h.name h.parents) m.members;
      shown = interface_shown c.args.reader.now.tokens.now c.args.at c.in_ok-heading.heading.next h.name h.parents m.members _ _ _ _ _ c.interface_item.ensures.shown h.sized h.spot_shown h.name_shown h.parents_shown m.shown;
      sized = omega (arith, h.sized, m.sized);
      reads = λ items. leads (past_heading items (interface_heading h.name h.parents)) (h.reads items) (m.reads items (interface_heading h.name h.parents));
      ahead = omega (arith, h.sized, m.sized);
      within = m.within;
    }
