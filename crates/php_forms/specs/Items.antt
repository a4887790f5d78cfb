-- The first fault of signatures and members of a script, behind those met so far.
use Rattle.std.specs.Prelude.{true, false, Option}
use Rattle.php_ast.specs.expression.View.{Note}
use Rattle.php_ast.specs.declaration.Tree.{Member, method, Item, of_function, of_class, of_interface, of_trait}
use Rattle.php_legality.specs.declared.fault.Fault.{Fault}
use Rattle.php_legality.specs.Lists.{elements}
use Rattle.php_legality.specs.Declarations.{of_a_class, of_an_interface}
use Rattle.php_places.specs.Over.{over}
use Rattle.php_forms.specs.Signatures.{met_signature}
use Rattle.php_forms.specs.MemberFaults.{met_member}

abbrev pub met_member_signature : Member Note → Option Fault → Option Fault
met_member_signature (method m) met = met_signature true m.signature met
met_member_signature _ met = met

abbrev pub met_item_signatures : Item Note → Option Fault → Option Fault
met_item_signatures (of_function g) met = met_signature false g.signature met
met_item_signatures (of_class c) met = over met_member_signature (elements c.members) met
met_item_signatures (of_interface i) met = over met_member_signature (elements i.members) met
met_item_signatures (of_trait t) met = over met_member_signature (elements t.members) met
met_item_signatures _ met = met

abbrev pub met_item_members : Item Note → Option Fault → Option Fault
met_item_members (of_class c) met = over (met_member of_a_class) (elements c.members) met
met_item_members (of_interface i) met = over (met_member of_an_interface) (elements i.members) met
met_item_members (of_trait t) met = over (met_member of_a_class) (elements t.members) met
met_item_members _ met = met
