-- A script has no form that isn't told exactly where all of its forms are told.
use Rattle.std.specs.Prelude.{is_some}
use Rattle.std.specs.Option.{option_or}
use Rattle.std.proofs.Common.{◌≡◌, Bool, true, false, ◌&&◌, cond, Option, Some, None, refl}
use Rattle.php_value.specs.declared.scalar.Scalar.TheVariants as scalar
use Rattle.php_ast.specs.declared.operator.Prefix.{Prefix}
use Rattle.php_ast.specs.declared.operator.Prefix.TheVariants as prefix_form
use Rattle.php_ast.specs.expression.Tree.{Leaf, variable, int, string, name, magic, Enclosure, parentheses, emptiness, exiting}
use Rattle.php_ast.specs.expression.Tree.{Tree, leaf, template, enclosed, prefix, binary, assign}
use Rattle.php_ast.specs.expression.Tree.{Items, none, and, skip, Pieces, no_piece, bytes, value}
use Rattle.php_ast.specs.expression.View.{Note}
use Rattle.php_ast.specs.statement.Tree.{empty, then_also, Statement, block, blank, inline, expression, echo, Statements, no_statement, and_statement}
use Rattle.php_ast.specs.declaration.Tree.{Item, of_statement, of_function, of_class, of_interface, of_trait, Script}
use Rattle.php_legality.specs.Places.{first_note}
use Rattle.php_memdef.specs.Deciders.{is_short}
use Rattle.php_memdef_laws.proofs.DeciderLemmas.{scalar-decides}
use Rattle.php_meaning.specs.Forms.{magic_value, is_plain, variable_name}
use Rattle.php_runnable.specs.Told.{IsToldLeaf, IsToldPrefix, IsToldEnclosure, IsTold, ArePiecesTold, AreItemsTold, IsStatementTold, AreStatementsTold, IsItemTold, IsScriptTold}
use Rattle.php_told.specs.First.{is_told_leaf, are_short, is_told_enclosure, is_told_prefix, is_told_operator, is_told_assignment, first_in, first_in_pieces, first_in_items, first_in_statement, first_in_statements, first_in_item, first_not_told}

-- ---- a test, and two parts

cond_none : (b : Bool) (o : Option Note) (at : Note) → cond b o (Some at) ≡ None → (b ≡ true) × (o ≡ None)
cond_none true o at h = (refl, h)
cond_none false o at h = absurd cc

none_cond : (b : Bool) (o : Option Note) (at : Note) → b ≡ true → o ≡ None → cond b o (Some at) ≡ None
none_cond true o at t h = h
none_cond false o at t h = absurd cc

or_none : (a b : Option Note) → option_or a b ≡ None → (a ≡ None) × (b ≡ None)
or_none None b h = (refl, h)
or_none (Some x) b h = absurd cc

none_or : (a b : Option Note) → a ≡ None → b ≡ None → option_or a b ≡ None
none_or None b p q = q
none_or (Some x) b p q = absurd cc

and_true : (a b : Bool) → a && b ≡ true → (a ≡ true) × (b ≡ true)
and_true true b h = (refl, h)
and_true false b h = absurd cc

true_and : (a b : Bool) → a ≡ true → b ≡ true → a && b ≡ true
true_and true b p q = q
true_and false b p q = absurd cc

-- ---- forms by themselves

leaf_told : (at : Note) (l : Leaf) → is_told_leaf at l ≡ true → IsToldLeaf at l
leaf_told at (variable n) h = tt
leaf_told at (int n) h = (scalar-decides (scalar.Int n)).0 h
leaf_told at (string t) h = (scalar-decides (scalar.Str t)).0 h
leaf_told at (name n) h = tt
leaf_told at (magic m) h = (scalar-decides (magic_value at m)).0 h

told_leaf : (at : Note) (l : Leaf) → IsToldLeaf at l → is_told_leaf at l ≡ true
told_leaf at (variable n) h = refl
told_leaf at (int n) h = (scalar-decides (scalar.Int n)).1 h
told_leaf at (string t) h = (scalar-decides (scalar.Str t)).1 h
told_leaf at (name n) h = refl
told_leaf at (magic m) h = (scalar-decides (magic_value at m)).1 h

prefix_told : (op : Prefix) → is_told_prefix op ≡ true → IsToldPrefix op
prefix_told prefix_form.Silence h = tt
prefix_told _ h = h

told_prefix : (op : Prefix) → IsToldPrefix op → is_told_prefix op ≡ true
told_prefix prefix_form.Silence h = refl
told_prefix _ h = h

enclosure_told : (by : Enclosure) → is_told_enclosure by ≡ true → IsToldEnclosure by
enclosure_told parentheses h = tt
enclosure_told emptiness h = absurd cc
enclosure_told exiting h = absurd cc

told_enclosure : (by : Enclosure) → IsToldEnclosure by → is_told_enclosure by ≡ true
told_enclosure parentheses h = refl
told_enclosure emptiness h = absurd h
told_enclosure exiting h = absurd h

-- ---- where there is none, all are told

mutual
  expression_told : (e : Tree Note) → first_in e ≡ None → IsTold e
  expression_told (leaf at l) h = leaf_told at l (cond_none (is_told_leaf at l) None at h).0
  expression_told (template at ps) h = let parts = cond_none (are_short ps) (first_in_pieces ps) at h in pieces_told ps parts.0 parts.1
  expression_told (enclosed at by e) h =
      let parts = cond_none (is_told_enclosure by) (first_in e) at h in (enclosure_told by parts.0, expression_told e parts.1)
  expression_told (prefix at op e) h = let parts = cond_none (is_told_prefix op) (first_in e) at h in (prefix_told op parts.0, expression_told e parts.1)
  expression_told (binary op l r) h =
      let parts = cond_none (is_told_operator op) (option_or (first_in l) (first_in r)) (first_note l) h in
      let sides = or_none (first_in l) (first_in r) parts.1 in
      (parts.0, (expression_told l sides.0, expression_told r sides.1))
  expression_told (assign s p e) h =
      let parts = cond_none (is_told_assignment s p) (first_in e) (first_note p) h in
      let told = and_true (is_plain s) (is_some (variable_name p)) parts.0 in
      (told.0, (told.1, expression_told e parts.1))
  expression_told _ h = absurd cc

  pieces_told : (ps : Pieces Note) → are_short ps ≡ true → first_in_pieces ps ≡ None → ArePiecesTold ps
  pieces_told no_piece s h = tt
  pieces_told (bytes ps t) s h =
      let parts = and_true (are_short ps) (is_short t) s in (pieces_told ps parts.0 h, (scalar-decides (scalar.Str t)).0 parts.1)
  pieces_told (value ps e) s h = let parts = or_none (first_in_pieces ps) (first_in e) h in (pieces_told ps s parts.0, expression_told e parts.1)

values_told : (is : Items Note) → first_in_items is ≡ None → AreItemsTold is
values_told none h = tt
values_told (and is lead e) h = let parts = or_none (first_in_items is) (first_in e) h in (values_told is parts.0, expression_told e parts.1)
values_told (skip is) h = values_told is h

mutual
  statement_told : (s : Statement Note) → first_in_statement s ≡ None → IsStatementTold s
  statement_told (block at ss) h = statements_told ss h
  statement_told (blank at) h = tt
  statement_told (inline at t) h = tt
  statement_told (expression at e) h = expression_told e h
  statement_told (echo at is) h = values_told is h
  statement_told _ h = absurd cc

  statements_told : (ss : Statements Note) → first_in_statements ss ≡ None → AreStatementsTold ss
  statements_told no_statement h = tt
  statements_told (and_statement ss s) h =
      let parts = or_none (first_in_statements ss) (first_in_statement s) h in (statements_told ss parts.0, statement_told s parts.1)

item_told : (i : Item Note) → first_in_item i ≡ None → IsItemTold i
item_told (of_statement s) h = statement_told s h
item_told (of_function f) h = absurd cc
item_told (of_class c) h = absurd cc
item_told (of_interface i) h = absurd cc
item_told (of_trait t) h = absurd cc

pub none_is_told : (script : Script Note) → first_not_told script ≡ None → IsScriptTold script
none_is_told empty h = tt
none_is_told (then_also is i) h = let parts = or_none (first_not_told is) (first_in_item i) h in (none_is_told is parts.0, item_told i parts.1)

-- ---- where all are told, there is none

mutual
  told_expression : (e : Tree Note) → IsTold e → first_in e ≡ None
  told_expression (leaf at l) h = none_cond (is_told_leaf at l) None at (told_leaf at l h) refl
  told_expression (template at ps) h = let parts = told_pieces ps h in none_cond (are_short ps) (first_in_pieces ps) at parts.0 parts.1
  told_expression (enclosed at by e) h = none_cond (is_told_enclosure by) (first_in e) at (told_enclosure by h.0) (told_expression e h.1)
  told_expression (prefix at op e) h = none_cond (is_told_prefix op) (first_in e) at (told_prefix op h.0) (told_expression e h.1)
  told_expression (binary op l r) h =
      none_cond (is_told_operator op) (option_or (first_in l) (first_in r)) (first_note l) h.0 (none_or (first_in l) (first_in r) (told_expression l h.1.0) (told_expression r h.1.1))
  told_expression (assign s p e) h =
      none_cond (is_told_assignment s p) (first_in e) (first_note p) (true_and (is_plain s) (is_some (variable_name p)) h.0 h.1.0) (told_expression e h.1.1)
  told_expression _ h = absurd h

  told_pieces : (ps : Pieces Note) → ArePiecesTold ps → (are_short ps ≡ true) × (first_in_pieces ps ≡ None)
  told_pieces no_piece h = (refl, refl)
  told_pieces (bytes ps t) h =
      let before = told_pieces ps h.0 in (true_and (are_short ps) (is_short t) before.0 ((scalar-decides (scalar.Str t)).1 h.1), before.1)
  told_pieces (value ps e) h = let before = told_pieces ps h.0 in (before.0, none_or (first_in_pieces ps) (first_in e) before.1 (told_expression e h.1))

told_values : (is : Items Note) → AreItemsTold is → first_in_items is ≡ None
told_values none h = refl
told_values (and is lead e) h = none_or (first_in_items is) (first_in e) (told_values is h.0) (told_expression e h.1)
told_values (skip is) h = told_values is h

mutual
  told_statement : (s : Statement Note) → IsStatementTold s → first_in_statement s ≡ None
  told_statement (block at ss) h = told_statements ss h
  told_statement (blank at) h = refl
  told_statement (inline at t) h = refl
  told_statement (expression at e) h = told_expression e h
  told_statement (echo at is) h = told_values is h
  told_statement _ h = absurd h

  told_statements : (ss : Statements Note) → AreStatementsTold ss → first_in_statements ss ≡ None
  told_statements no_statement h = refl
  told_statements (and_statement ss s) h = none_or (first_in_statements ss) (first_in_statement s) (told_statements ss h.0) (told_statement s h.1)

told_item : (i : Item Note) → IsItemTold i → first_in_item i ≡ None
told_item (of_statement s) h = told_statement s h
told_item (of_function f) h = absurd h
told_item (of_class c) h = absurd h
told_item (of_interface i) h = absurd h
told_item (of_trait t) h = absurd h

pub told_is_none : (script : Script Note) → IsScriptTold script → first_not_told script ≡ None
told_is_none empty h = refl
told_is_none (then_also is i) h = none_or (first_not_told is) (first_in_item i) (told_is_none is h.0) (told_item i h.1)
