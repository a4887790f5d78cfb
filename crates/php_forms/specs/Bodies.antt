-- The first fault of the bodies of a script, behind those met so far.
use Rattle.std.specs.Prelude.{Bool, true, false, Option}
use Rattle.php_ast.specs.expression.View.{Note}
use Rattle.php_ast.specs.declaration.Tree.{Member, method, Item, of_statement, of_function, of_class, of_interface, of_trait}
use Rattle.php_legality.specs.declared.fault.Fault.{Fault}
use Rattle.php_legality.specs.Lists.{elements}
use Rattle.php_legality.specs.Declarations.{outermost, body_scope}
use Rattle.php_legality.specs.Rows.{is_strict_types}
use Rattle.php_places.specs.Over.{over}
use Rattle.php_bodies.specs.Met.{met_statement, met_list, met_last}

abbrev pub met_member_body : Member Note → Option Fault → Option Fault
met_member_body (method m) met = met_last (body_scope true m.signature) m.body met
met_member_body _ met = met

abbrev pub met_item_bodies : Item Note → Option Fault → Option Fault
met_item_bodies (of_statement s) met = met_statement outermost s met
met_item_bodies (of_function g) met = met_list (body_scope false g.signature) g.body met
met_item_bodies (of_class c) met = over met_member_body (elements c.members) met
met_item_bodies (of_interface i) met = over met_member_body (elements i.members) met
met_item_bodies (of_trait t) met = over met_member_body (elements t.members) met

abbrev pub declares_types : Item Note → Bool
declares_types (of_statement s) = is_strict_types s
declares_types _ = false
