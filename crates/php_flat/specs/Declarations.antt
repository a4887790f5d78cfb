-- Which signatures, members and scripts of the program are flat: all expressions and statements in them are. Parameters,
-- members, constants, properties and items lie side by side in lists by their types.
use Rattle.std.specs.Prelude.{Bool, true, ◌&&◌, List}
use Rattle.std.specs.List.{list_all}
use Rattle.php_ast.specs.declared.declaration.Param as rust_param
use Rattle.php_ast.specs.declared.declaration.Signature as rust_signature
use Rattle.php_ast.specs.declared.declaration.FunctionDecl.{FunctionDecl}
use Rattle.php_ast.specs.declared.declaration.ClassMember.{ClassMember}
use Rattle.php_ast.specs.declared.declaration.ClassMember.TheVariants as member_form
use Rattle.php_ast.specs.declared.declaration.ClassConstant as rust_constant
use Rattle.php_ast.specs.declared.declaration.Method as rust_method
use Rattle.php_ast.specs.declared.script.Script as rust_script
use Rattle.php_ast.specs.declared.script.ScriptItem.{ScriptItem}
use Rattle.php_ast.specs.declared.script.ScriptItem.TheVariants as script_item
use Rattle.php_build.specs.Flat.{is_flat}
use Rattle.php_flat.specs.Statements.{is_flat_optional, is_flat_variable, is_flat_statement, are_flat_statements, is_flat_list}

abbrev pub is_flat_param : rust_param.Param → Bool
is_flat_param p = is_flat_optional p.default

abbrev pub are_flat_params : List rust_param.Param → Bool
are_flat_params params = list_all is_flat_param params

abbrev pub is_flat_signature : rust_signature.Signature → Bool
is_flat_signature s = are_flat_params s.params

abbrev pub is_flat_function : FunctionDecl → Bool
is_flat_function f = is_flat_signature f.signature && are_flat_statements f.body

abbrev pub is_flat_class_constant : rust_constant.ClassConstant → Bool
is_flat_class_constant c = is_flat c.value

abbrev pub is_flat_method : rust_method.Method → Bool
is_flat_method m = is_flat_signature m.signature && is_flat_list m.body

abbrev pub is_flat_member : ClassMember → Bool
is_flat_member (member_form.Use spot names rules) = true
is_flat_member (member_form.Const modifiers items) = list_all is_flat_class_constant items
is_flat_member (member_form.Method m) = is_flat_method m
is_flat_member (member_form.Properties modifiers items) = list_all is_flat_variable items

abbrev pub are_flat_members : List ClassMember → Bool
are_flat_members members = list_all is_flat_member members

abbrev pub is_flat_script_item : ScriptItem → Bool
is_flat_script_item (script_item.Statement s) = is_flat_statement s
is_flat_script_item (script_item.Function f) = is_flat_function f
is_flat_script_item (script_item.Class c) = are_flat_members c.members
is_flat_script_item (script_item.Interface i) = are_flat_members i.members
is_flat_script_item (script_item.Trait t) = are_flat_members t.members

abbrev pub is_flat_script : rust_script.Script → Bool
is_flat_script s = list_all is_flat_script_item s.items
