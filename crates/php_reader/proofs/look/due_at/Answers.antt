use Rattle.std.proofs.Common.{◌∙◌, refl, ap, sym, rules, w64}
use Rattle.std.proofs.lemmas.Int.{to_z-of_z}
use Rattle.php_token.specs.Token.{token_at}
use Rattle.php_ast.specs.Symbol.{symbol_of}
use Rattle.php_grammar.specs.expression.Role.{beginning}
use Rattle.php_reader.proofs.Items.{marked, started, value_kept}
use Rattle.php_reader.proofs.look.due_at.Goals as goal

pub returns-clause-starts : goal.returns-clause-starts
returns-clause-starts c =
    let same = value_kept (token_at c.args.tokens.now c.args.at).kind (token_at c.args.tokens.now c.args.at).text c.value_at.result (token_at c.args.tokens.now c.args.at).int (λ e. c.value_at.ensures (c.kind-kind.ensures ∙ e)) in
    let whole = to_z-of_z w64 c.value_at.result (search rules) in
    started c.args.tokens.now c.args.at _ (c.if-not-stands.ensures.yes refl)
    (ap beginning (sym same) ∙ ap (λ v. beginning (symbol_of (token_at c.args.tokens.now c.args.at).kind (token_at c.args.tokens.now c.args.at).text v)) (sym whole)
    ∙ (rw c.kind-kind.ensures at c.due_of.ensures.starts) (token_at c.args.tokens.now c.args.at).text)

pub returns-clause-marks : goal.returns-clause-marks
returns-clause-marks c =
    marked c.args.tokens.now c.args.at _ (c.if-not-stands.ensures.yes refl) ((rw c.kind-kind.ensures at c.due_of.ensures.marks) (token_at c.args.tokens.now c.args.at).text (token_at c.args.tokens.now c.args.at).int)
