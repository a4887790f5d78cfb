use Rattle.std.proofs.Common.{◌+◌, arith}
use Rattle.std.proofs.lemmas.Result.{err_from_is_err_and}
use Rattle.php_ast.specs.statement.Tree.{block, no_statement}
use Rattle.php_grammar.specs.statement.Forms.{of_block, due_in_list, done}
use Rattle.php_parse_simple.proofs.Fails.{later}
use Rattle.php_parse_simple.proofs.Moves.{leads}
use Rattle.php_parse_statement.proofs.Lists.{block_braced, block_opens, block_spans}
use Rattle.php_parse_statement.proofs.parser.Parser.block.Goals as goal

pub returns-in_err-list : goal.returns-in_err-list
returns-in_err-list g c =
    let h = c.requires in
    let q = err_from_is_err_and c.from_residual.result c.from_residual.ensures.1 in
    rw (q.1, q.2) (later c.args.self.now.reader.tokens.now c.args.at (c.args.at + 1) (λ o. due_in_list of_block no_statement o) c.in_err-list.field-0.0 (omega arith)
    (block_opens h.token h.stands.is h.role_is c.args.self.now.deep) (c.in_err-list.ensures of_block (λ ss o. done (block tt ss) o) block_braced))

pub returns : goal.returns
returns g c =
    let h = c.requires in
    let r = c.in_ok-list.ensures in
    record {
      form = block tt r.statements;
      spans = block_spans c.args.self.now.reader.tokens.now _ _ _ r.statements c.args.at _ c.block_statement.ensures.shown c.spot.ensures r.shown r.sized;
      reads = leads (λ o. due_in_list of_block no_statement o) (block_opens h.token h.stands.is h.role_is c.args.self.now.deep) (r.reads of_block (λ ss o. done (block tt ss) o) block_braced);
      ahead = omega (arith, r.sized);
      within = r.within;
    }

pub block_statement-requires : goal.block_statement-requires
block_statement-requires g c = c.in_ok-list.ensures.flat
