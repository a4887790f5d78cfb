-- The first fault of the words before classes and of their names, behind those met so far.
use Rattle.std.specs.Prelude.{ℕ, true, Option, List, [], ◌∷◌, codes, drop}
use Rattle.php_ast.specs.expression.View.{Note}
use Rattle.php_ast.specs.statement.Tree.{Name}
use Rattle.php_ast.specs.declaration.Tree.{ClassWord, Item, of_class, of_interface, of_trait}
use Rattle.php_legality.specs.declared.kind.Kind.TheVariants as kind
use Rattle.php_legality.specs.declared.fault.Fault.{Fault}
use Rattle.php_legality.specs.Lists.{elements}
use Rattle.php_legality.specs.Taken.{is_one_of, no_class_names}
use Rattle.php_places.specs.Over.{over}
use Rattle.php_places.specs.Met.{where_bad}

abbrev pub own_names : List (List ℕ)
own_names = codes "self" ∷ codes "parent" ∷ codes "static" ∷ []

abbrev pub type_names : List (List ℕ)
type_names = codes "int" ∷ codes "string" ∷ codes "bool" ∷ codes "void" ∷ []

abbrev pub constant_names : List (List ℕ)
constant_names = codes "true" ∷ codes "false" ∷ codes "null" ∷ []

unfoldable pub met_class_name : Name Note → Option Fault → Option Fault
met_class_name n met = where_bad (is_one_of no_class_names n.text) kind.BadUse n.note met

abbrev pub met_class_word : ClassWord Note → Option Fault → Option Fault
met_class_word w met = where_bad true kind.BadUse w.note met

abbrev pub met_item_class : Item Note → Option Fault → Option Fault
met_item_class (of_class c) met = met_class_name c.name (over met_class_word (drop 1 (elements c.modifiers)) met)
met_item_class (of_interface i) met = met_class_name i.name met
met_item_class (of_trait t) met = met_class_name t.name met
met_item_class _ met = met
