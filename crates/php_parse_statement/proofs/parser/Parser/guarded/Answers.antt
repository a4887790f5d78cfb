use Rattle.std.proofs.Common.{◌+◌, [], ◌∷◌, refl, arith}
use Rattle.php_ast.specs.statement.Tree.{no_statement}
use Rattle.php_grammar.specs.statement.Role.{left_brace}
use Rattle.php_grammar.specs.statement.Forms.{due_in_list}
use Rattle.php_parse_simple.proofs.Moves.{due_halts}
use Rattle.php_parse_statement.proofs.Guards.{guarded_answers}
use Rattle.php_parse_statement.proofs.parser.Parser.guarded.Goals as goal

pub returns-then-not-sees : goal.returns-then-not-sees
returns-then-not-sees g c = λ list to is. record { halts = due_halts left_brace [] (λ o. due_in_list list no_statement o) c.if-not-sees.ensures; ahead = omega arith; within = c.requires }

pub returns : goal.returns
returns g c = guarded_answers c.args.self.now.reader c.args.at c.braced.result c.args.self.now.deep c.if-not-sees.ensures c.braced.ensures
