-- Names behind their word, or none.
use Rattle.std.proofs.Common.{◌≡◌, ◌≢◌, ◌≤◌, ℕ, ◌+◌, Result, Ok, Err, [], sym, ap, subst, length, arith}
use Rattle.php_ast.specs.statement.Tree.{empty, then_also}
use Rattle.php_ast.specs.statement.View.{names_view}
use Rattle.php_grammar.specs.declaration.ScriptMachine.{due_interface, heading_role}
use Rattle.php_reader.specs.declared.reader.Reader.{Reader}
use Rattle.php_reader.specs.declared.fail.Stop.{Stop}
use Rattle.php_reader.specs.Seen.{Shows, rest}
use Rattle.php_ast.specs.declared.spot.Name as rust_name
use Rattle.php_reader.specs.declared.found.Listed.{Listed}
use Rattle.php_parse_script.specs.Look.{head_mark}
use Rattle.php_parse_script.specs.Owner.{Owner, owned, owner_mark, GoesNoFurther}
use Rattle.php_parse_script.specs.Answer.{AnswersNames, AnswersListing}
use Rattle.php_parse_script.proofs.Moves.{leads, stays_at, later}
use Rattle.php_parse_script.proofs.Named.{owner_read, past_names, past_none}

pub listing_behind : (o : Owner) (reader : Reader) (at : ℕ) (r : Result (Listed rust_name.Name) Stop) → Shows heading_role reader.tokens.now at (owner_mark o) → AnswersNames reader (at + 1) r → AnswersListing o reader at r
listing_behind o reader at (Ok r) g f = record {
  names = then_also f.before f.last;
  shown = f.shown;
  sized = omega (arith, f.sized);
  reads = λ items. leads (due_interface items (owned o empty)) (owner_read items o g.token g.stands.is g.role_is) (f.reads items o);
  over = λ past. past_names o f.before f.last (rest reader.tokens.now r.next) f.no_comma;
  within = f.within;
}
listing_behind o reader at (Err e) g f = λ items. later reader.tokens.now at (at + 1) (due_interface items (owned o empty)) e (omega arith) (owner_read items o g.token g.stands.is g.role_is) (f items o)

pub listing_none : (o : Owner) (reader : Reader) (at : ℕ) (r : Listed rust_name.Name) → r.items ≡ [] → r.next ≡ at → head_mark (rest reader.tokens.now at) ≢ owner_mark o → at ≤ length reader.tokens.now → AnswersListing o reader at (Ok r)
listing_none o reader at r none here absent within = record {
  names = empty;
  shown = ap names_view none;
  sized = omega (arith, here);
  reads = λ items. stays_at (rest reader.tokens.now at) (rest reader.tokens.now r.next) (ap (rest reader.tokens.now) (sym here));
  over = λ past. subst (λ k. GoesNoFurther (owned o empty) (rest reader.tokens.now k)) (sym here) (past_none o (rest reader.tokens.now at) absent past);
  within = omega (arith, here);
}
