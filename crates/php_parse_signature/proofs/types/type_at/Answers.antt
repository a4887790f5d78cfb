use Rattle.std.proofs.Common.{true, false, refl, ◌∙◌, ap, arith, ◌∷◌}
use Rattle.php_token.specs.Token.{token_at}
use Rattle.php_token.specs.declared.kind.Punct.TheVariants as mark
use Rattle.php_ast.specs.Symbol.{punct}
use Rattle.php_ast.specs.expression.Placed.{notes_of}
use Rattle.php_ast.specs.declaration.Placed.{noted_base}
use Rattle.php_grammar.specs.declaration.SignatureMachine.{type_of}
use Rattle.php_parse_signature.specs.PartView.{base_of}
use Rattle.php_parse_signature.proofs.Roles.{question_shown, base_shown, type_shown}
use Rattle.php_parse_signature.proofs.types.type_at.Goals as goal

pub returns-in_ok-base-in-Nullable : goal.returns-in_ok-base-in-Nullable
returns-in_ok-base-in-Nullable c =
    let o = rw c.in-Nullable.is at c.requires.here in
    let b = c.in_ok-base-in-Nullable.ensures in
    record {
      form = type_of true b.form;
      shown = type_shown true _ _ _ _ b.shown refl refl;
      sized = omega arith;
      spelled = question_shown c.args.reader.now.tokens.now c.args.at o ∙ ap (λ w. punct mark.Question ∷ w) b.spelled;
      within = omega (arith, b.within);
    }

pub returns-in_ok-base_at-in-Plain : goal.returns-in_ok-base_at-in-Plain
returns-in_ok-base_at-in-Plain c =
    let o = rw c.in-Plain.is at c.requires.here in
    record {
      form = type_of false (base_of c.in-Plain.kind (token_at c.args.reader.now.tokens.now c.args.at).text);
      shown = type_shown false _ _ _ _ (c.in_ok-base_at-in-Plain.ensures
          ∙ ap (λ k. noted_base (notes_of c.args.reader.now.tokens.now) k (base_of c.in-Plain.kind (token_at c.args.reader.now.tokens.now c.args.at).text)) (omega arith)) refl refl;
      sized = omega arith;
      spelled = base_shown c.args.reader.now.tokens.now c.args.at (base_of c.in-Plain.kind (token_at c.args.reader.now.tokens.now c.args.at).text) o;
      within = omega (arith, o.stands.within);
    }
