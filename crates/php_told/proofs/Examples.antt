-- The first token of the first form that isn't told, of small scripts.
use Rattle.std.specs.Prelude.{pos, codes, Some, None}
use Rattle.std.proofs.Common.{◌≡◌, ℕ, ◌+◌, [], refl}
use Rattle.php_ast.specs.declared.operator.Binary.TheVariants as operator
use Rattle.php_ast.specs.declared.operator.Prefix.TheVariants as prefix_form
use Rattle.php_ast.specs.declared.operator.Assign.TheVariants as setting
use Rattle.php_ast.specs.declared.operator.Magic.TheVariants as magic_word
use Rattle.php_ast.specs.declared.declaration.ClassModifier.TheVariants as class_modifier
use Rattle.php_ast.specs.expression.Tree.{Tree, leaf, variable, int, name, magic, template, no_piece, bytes, value, enclosed, parentheses, index, call, none, prefix, binary, assign, by_value}
use Rattle.php_ast.specs.expression.View.{Note}
use Rattle.php_ast.specs.statement.Tree.{empty, then_also, block, expression, throw, no_statement, and_statement}
use Rattle.php_ast.specs.declaration.Tree.{Class, of_statement, of_class}
use Rattle.php_told.specs.First.{first_in, first_in_statement, first_not_told}

-- the token at a place of the first line
abbrev at : ℕ → Note
at n = record { place = n; line = 1; text = [] }

abbrev a : ℕ → Tree Note
a n = leaf (at n) (variable (codes "a"))

abbrev one : ℕ → Tree Note
one n = leaf (at n) (int (pos 1))

-- `f()`
abbrev called : ℕ → Tree Note
called n = call (leaf (at n) (name (codes "f"))) none

-- `(1 + $a) . __LINE__`
all_told : first_in (binary operator.Concatenated (enclosed (at 0) parentheses (binary operator.Plus (one 1) (a 3))) (leaf (at 6) (magic magic_word.Line))) ≡ None
all_told = refl

-- `1 + f()`
call_behind_an_operator : first_in (binary operator.Plus (one 0) (called 2)) ≡ Some (at 2)
call_behind_an_operator = refl

-- `f() + f()`
call_before_an_operator : first_in (binary operator.Plus (called 0) (called 4)) ≡ Some (at 0)
call_before_an_operator = refl

-- `$a && f()`
operator_before_a_call : first_in (binary operator.LogicalAnd (a 0) (called 2)) ≡ Some (at 0)
operator_before_a_call = refl

-- `1 * ($a && $a)`
operator_in_parentheses : first_in (binary operator.Times (one 0) (enclosed (at 2) parentheses (binary operator.LogicalAnd (a 3) (a 5)))) ≡ Some (at 3)
operator_in_parentheses = refl

-- `-$a[1]`
element_behind_a_sign : first_in (prefix (at 0) prefix_form.Minus (index (a 1) (one 3))) ≡ Some (at 1)
element_behind_a_sign = refl

-- `++$a`
count_at_its_sign : first_in (prefix (at 0) prefix_form.Increment (a 1)) ≡ Some (at 0)
count_at_its_sign = refl

-- `$a[1] = f()`
assignment_to_an_element : first_in (assign (by_value setting.Plain) (index (a 0) (one 2)) (called 5)) ≡ Some (at 0)
assignment_to_an_element = refl

-- `$a = f()`
call_that_is_assigned : first_in (assign (by_value setting.Plain) (a 0) (called 2)) ≡ Some (at 2)
call_that_is_assigned = refl

-- `$a += f()`
added_to_a_variable : first_in (assign (by_value setting.Plus) (a 0) (called 2)) ≡ Some (at 0)
added_to_a_variable = refl

-- `"a{$a}{f()}"`
call_in_a_text : first_in (template (at 0) (value (value (bytes no_piece (codes "a")) (a 3)) (called 6))) ≡ Some (at 6)
call_in_a_text = refl

-- `{ 1; throw f(); }`
statement_in_a_block : first_in_statement (block (at 0) (and_statement (and_statement no_statement (expression (at 1) (one 1))) (throw (at 3) (called 4)))) ≡ Some (at 3)
statement_in_a_block = refl

-- `final class A {}`, behind `1;`
abbrev final_class : ℕ → Class Note
final_class n = record {
  modifiers = then_also empty (record { note = at n; word = class_modifier.Final });
  note = at (n + 1);
  name = record { note = at (n + 2); text = codes "A" };
  parent = None;
  interfaces = empty;
  members = empty;
}

class_at_its_first_word : first_not_told (then_also (then_also empty (of_statement (expression (at 0) (one 0)))) (of_class (final_class 2))) ≡ Some (at 2)
class_at_its_first_word = refl
