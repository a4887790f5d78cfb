-- Names that are taken before a script begins: of functions of the library and the prelude, and of built-in classes. Also those that no
-- class may have.
use Rattle.std.specs.Prelude.{ℕ, Bool, List, [], ◌∷◌, codes}
use Rattle.std.specs.Str.{str_eq_ignore_ascii_case}
use Rattle.php_legality.specs.Lists.{is_any}

abbrev Text : Type 0
Text = List ℕ

-- whether a name is one of these, in any letter case
abbrev pub is_one_of : List Text → Text → Bool
is_one_of names name = is_any (λ one. str_eq_ignore_ascii_case one name) names

unfoldable pub library_functions : List Text
library_functions =
    codes "strlen" ∷ codes "substr" ∷ codes "strpos" ∷ codes "strrpos" ∷ codes "str_replace" ∷ codes "str_repeat" ∷ codes "strrev" ∷
    codes "trim" ∷ codes "ltrim" ∷ codes "rtrim" ∷ codes "explode" ∷ codes "implode" ∷ codes "join" ∷ codes "str_pad" ∷
    codes "str_split" ∷ codes "strcmp" ∷ codes "ord" ∷ codes "chr" ∷ codes "dechex" ∷ codes "bin2hex" ∷ codes "htmlspecialchars" ∷
    codes "ctype_digit" ∷ codes "sprintf" ∷ codes "printf" ∷ codes "abs" ∷ codes "intdiv" ∷ codes "min" ∷ codes "max" ∷
    codes "count" ∷ codes "array_keys" ∷ codes "array_values" ∷ codes "array_merge" ∷ codes "array_slice" ∷ codes "array_sum" ∷
    codes "array_reverse" ∷ codes "in_array" ∷ codes "array_search" ∷ codes "array_key_exists" ∷ codes "array_flip" ∷
    codes "array_unique" ∷ codes "array_fill" ∷ codes "array_combine" ∷ codes "range" ∷ codes "array_push" ∷ codes "array_unshift" ∷
    codes "array_pop" ∷ codes "array_shift" ∷ codes "sort" ∷ codes "rsort" ∷ codes "ksort" ∷ codes "is_null" ∷ codes "is_bool" ∷
    codes "is_int" ∷ codes "is_string" ∷ codes "is_array" ∷ codes "is_object" ∷ codes "is_callable" ∷ codes "is_numeric" ∷
    codes "gettype" ∷ codes "intval" ∷ codes "strval" ∷ codes "boolval" ∷ codes "get_class" ∷ codes "get_parent_class" ∷
    codes "method_exists" ∷ codes "property_exists" ∷ codes "function_exists" ∷ codes "class_exists" ∷ codes "is_a" ∷
    codes "get_object_vars" ∷ codes "define" ∷ codes "defined" ∷ codes "var_dump" ∷ codes "print_r" ∷ []

unfoldable pub prelude_functions : List Text
prelude_functions =
    codes "array_map" ∷ codes "array_filter" ∷ codes "array_reduce" ∷ codes "array_walk" ∷ codes "call_user_func" ∷
    codes "call_user_func_array" ∷ codes "iterator_to_array" ∷ []

unfoldable pub built_in_classes : List Text
built_in_classes =
    codes "Traversable" ∷ codes "Throwable" ∷ codes "Exception" ∷ codes "Error" ∷ codes "ArithmeticError" ∷ codes "TypeError" ∷
    codes "DivisionByZeroError" ∷ codes "ArgumentCountError" ∷ codes "Generator" ∷ []

unfoldable pub no_class_names : List Text
no_class_names =
    codes "self" ∷ codes "parent" ∷ codes "static" ∷ codes "int" ∷ codes "string" ∷ codes "bool" ∷ codes "void" ∷
    codes "true" ∷ codes "false" ∷ codes "null" ∷ []

-- what a class is called from inside
unfoldable pub inner_class_names : List Text
inner_class_names = codes "self" ∷ codes "parent" ∷ []
