use Rattle.std.proofs.Common.{◌+◌, refl, ap, ◌∙◌, arith}
use Rattle.std.proofs.lemmas.Result.{err_from_is_err_and}
use Rattle.php_ast.specs.expression.Placed.{notes_of}
use Rattle.php_ast.specs.declaration.Placed.{noted_members}
use Rattle.php_grammar.specs.statement.Machine.{named_here}
use Rattle.php_grammar.specs.declaration.ScriptMachine.{at_trait, due_heading_name, past_heading, trait_kind, trait_heading, item_of}
use Rattle.php_parse_script.proofs.Moves.{leads, later}
use Rattle.php_parse_script.proofs.Heads.{kind_read}
use Rattle.php_parse_script.proofs.Named.{heading_named, heading_fails, past_trait}
use Rattle.php_parse_script.proofs.Declared.{trait_shown}
use Rattle.php_parse_script.proofs.items.trait_declaration.Goals as goal

pub returns-in_err-name : goal.returns-in_err-name
returns-in_err-name c =
    let g = c.requires.here in
    let q = err_from_is_err_and c.from_residual.result c.from_residual.ensures.1 in
    rw (q.1, q.2) (λ items. later c.args.reader.now.tokens.now c.args.at (c.args.at + 1) (due_heading_name items trait_kind) c.in_err-name.field-0.0 (omega arith)
    (kind_read items at_trait trait_kind g.token g.stands.is g.role_is refl)
    (heading_fails c.args.reader.now.room items trait_kind c.args.reader.now.tokens.now (c.args.at + 1) c.in_err-name.field-0.0 (omega (arith, g.stands.within)) c.in_err-name.ensures))

pub returns-in_err-read : goal.returns-in_err-read
returns-in_err-read c =
    let g = c.requires.here in
    let s = c.in_ok-name.ensures in
    let q = err_from_is_err_and c.from_residual-in_err-read.result c.from_residual-in_err-read.ensures.1 in
    rw (q.1, q.2) (λ items. later c.args.reader.now.tokens.now c.args.at (c.args.at + 1 + 1) (past_heading items (trait_heading (named_here s.0))) c.in_err-read.field-0.0 (omega arith)
    (leads (due_heading_name items trait_kind) (kind_read items at_trait trait_kind g.token g.stands.is g.role_is refl) (heading_named items trait_kind s.1.token s.0 s.1.stands.is s.1.role_is))
    (c.in_err-read.ensures items (trait_heading (named_here s.0)) (past_trait (named_here s.0) _)))

pub returns : goal.returns
returns c =
    let g = c.requires.here in
    let s = c.in_ok-name.ensures in
    let m = c.in_ok-read.ensures in
    record {
      form = item_of (trait_heading (named_here s.0)) m.members;
      shown = trait_shown c.args.reader.now.tokens.now c.args.at (named_here s.0) m.members _ _ _ _ c.trait_item.ensures.shown c.spot.ensures s.2
          (m.shown ∙ ap (λ k. noted_members (notes_of c.args.reader.now.tokens.now) k m.members) (omega arith));
      sized = omega (arith, m.sized);
      reads = λ items. leads (due_heading_name items trait_kind) (kind_read items at_trait trait_kind g.token g.stands.is g.role_is refl)
          (leads (past_heading items (trait_heading (named_here s.0))) (heading_named items trait_kind s.1.token s.0 s.1.stands.is s.1.role_is) (m.reads items (trait_heading (named_here s.0))));
      ahead = omega (arith, m.sized);
      within = m.within;
    }
