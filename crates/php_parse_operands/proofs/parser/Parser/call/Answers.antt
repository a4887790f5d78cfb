use Rattle.std.proofs.Common.{◌+◌, refl, arith, sym}
use Rattle.std.proofs.lemmas.Result.{err_from_is_err_and}
use Rattle.php_ast.specs.expression.Tree.{call, none}
use Rattle.php_grammar.specs.expression.Machine.{of_call, past_items}
use Rattle.php_parse_operands.proofs.Fails.{later}
use Rattle.php_parse_operands.proofs.Trails.{call_begins, call_spans}
use Rattle.php_parse_operands.proofs.Moves.{leads}
use Rattle.php_parse_operands.proofs.parser.Parser.call.Goals as goal

pub returns-in_err-arguments : goal.returns-in_err-arguments
returns-in_err-arguments g c = λ f start sized low.
    let o = c.requires.here in
    let q = err_from_is_err_and c.from_residual.result c.from_residual.ensures.1 in
    rw (q.1, q.2) (later c.args.self.now.reader.tokens.now c.args.at (c.args.at + 1) (λ s. past_items (of_call f) none s) c.in_err-arguments.field-0.0 (omega arith)
    (call_begins o.token f o.stands.is o.role_is low c.args.self.now.deep) (c.in_err-arguments.ensures (of_call f) refl))

pub returns : goal.returns
returns g c = λ f start sized low.
    let o = c.requires.here in
    let r = c.in_ok-arguments.ensures in
    record {
      form = call f r.items;
      spans = call_spans c.args.self.now.reader.tokens.now f r.items _ start c.args.at _ sized r.spans;
      reads = leads (λ s. past_items (of_call f) none s) (call_begins o.token f o.stands.is o.role_is low c.args.self.now.deep) (r.reads (of_call f) refl);
      ends_is = refl;
      call_is = sym c.is_call_suffix.ensures;
      ahead = omega (arith, r.ahead);
      within = r.within;
    }
