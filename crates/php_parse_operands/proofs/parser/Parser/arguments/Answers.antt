use Rattle.std.proofs.Common.{refl, arith, ap, map}
use Rattle.php_ast.specs.expression.Tree.{none}
use Rattle.php_ast.specs.expression.View.{arguments_from, view}
use Rattle.php_ast.specs.expression.Parts.{argument_with}
use Rattle.php_parse_operands.proofs.Listings.{no_arguments_read, no_arguments_halt}
use Rattle.php_build.specs.Flat.{are_flat_arguments}
use Rattle.php_parse_operands.proofs.parser.Parser.arguments.Goals as goal

pub returns-then-self-eq1 : goal.returns-then-self-eq1
returns-then-self-eq1 g c = λ h is.
    let e = c.if-not-ended_by.ensures.yes refl _ _ c.due_at-due.ensures.marks in
    record { halts = no_arguments_halt e.token h is e.stands.is e.role_is c.if-self-eq1.true; ahead = omega arith; within = c.requires.within }

pub returns : goal.returns
returns g c =
    let e = c.if-not-ended_by.ensures.yes refl _ _ c.due_at-due.ensures.marks in
    let deep = c.args.self.now.deep in
    record {
      items = none;
      spans = record { shown = ap (λ l. arguments_from none (map (argument_with view) l)) c.new.ensures; sized = omega arith };
      flat = ap are_flat_arguments c.new.ensures;
      reads = λ h is. no_arguments_read e.token h is e.stands.is e.role_is (omega arith);
      ahead = omega arith;
      within = omega (arith, e.stands.within);
    }

pub some_arguments-requires-clause-seen : goal.some_arguments-requires-clause-seen
some_arguments-requires-clause-seen g c = record { starts = c.due_at-due.ensures.starts; marks = c.due_at-due.ensures.marks }

pub overflow_add-result : goal.overflow_add-result
overflow_add-result g c = let e = c.if-not-ended_by.ensures.yes refl c.args.self.now.reader.tokens.now c.args.at c.due_at-due.ensures.marks in omega (arith, e.stands.fits)
