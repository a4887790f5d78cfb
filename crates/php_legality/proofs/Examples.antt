-- Small scripts, each with all of its faults by kind and token, by computing; beside what is refused stands its nearest legal neighbour.
use Rattle.std.proofs.Common.{◌≡◌, ℕ, pos, Bool, true, false, Option, Some, None, List, [], ◌∷◌, ◌++◌, map, refl, codes}
use Rattle.php_ast.specs.declared.operator.ArrayForm.TheVariants as form
use Rattle.php_ast.specs.declared.operator.Prefix.TheVariants as prefix_form
use Rattle.php_ast.specs.declared.operator.Count.TheVariants as count_form
use Rattle.php_ast.specs.declared.operator.Assign.TheVariants as assign_form
use Rattle.php_ast.specs.declared.operator.Binary.TheVariants as binary_form
use Rattle.php_ast.specs.declared.statement.SwitchForm.TheVariants as switch_form
use Rattle.php_ast.specs.declared.statement.CaseEnd.TheVariants as case_end
use Rattle.php_ast.specs.declared.declaration.ModifierWord.{ModifierWord}
use Rattle.php_ast.specs.declared.declaration.ModifierWord.TheVariants as modifier
use Rattle.php_ast.specs.declared.declaration.ClassModifier.TheVariants as class_word
use Rattle.php_ast.specs.expression.Tree.{Tree, Items, Lead, leaf, enclosed, listed, static_member, append, index, selected, call, new, prefix, count, binary, instance_of, instance_of_static, assign, yield_nothing, none, and, skip, plain, reference, keyed, thin, colons, parentheses, is_set, array, by_value, by_reference, held, named, reserved}
use Rattle.php_ast.specs.expression.Tree as tree
use Rattle.php_ast.specs.expression.View.{Note}
use Rattle.php_ast.specs.expression.Placed.{Notes}
use Rattle.php_ast.specs.statement.Tree.{Sequence, empty, then_also, Name, Target, Statement, block, blank, expression, statics, unset, constants, jump, while, foreach, switch, try_catch, try_finally, declares, returning, breaking, continuing, Statements, no_statement, and_statement, single, Cases, no_case, and_case, no_catch, and_catch}
use Rattle.php_ast.specs.declaration.Tree.{of_name, Param, Signature, Modifier, renames, Member, uses_by, class_constants, method, properties, Item, of_statement, of_function, of_class, of_interface}
use Rattle.php_ast.specs.declaration.Placed.{noted_script}
use Rattle.php_legality.specs.declared.kind.Kind.{Kind}
use Rattle.php_legality.specs.declared.kind.Kind.TheVariants as kind
use Rattle.php_legality.specs.Lists.{elements}
use Rattle.php_legality.specs.NameTokens.{NameToken}
use Rattle.php_legality.specs.Rows.{too_many, most_names}
use Rattle.php_legality.specs.Taken as taken
use Rattle.php_legality.specs.Legality.{places_of}

-- ---- shorthand

abbrev Nothing : Type 0
Nothing = Unit {0}

abbrev Text : Type 0
Text = List ℕ

-- all tokens on the first line
abbrev notes : Notes Note
notes = record { token = λ at. record { place = at; line = 1; text = [] }; keyword = λ at. record { place = at; line = 1; text = codes "class" } }

abbrev of_kind : Kind → List (Item Note) → List (Kind × ℕ)
of_kind k items = map (λ n. (k, n.place)) (places_of k items)

-- a list as it is read
abbrev sequence_from : {A : Type 0} → Sequence A → List A → Sequence A
sequence_from before [] = before
sequence_from before (x ∷ xs) = sequence_from (then_also before x) xs

abbrev sequence : {A : Type 0} → List A → Sequence A
sequence xs = sequence_from empty xs

-- all faults of a script
abbrev faults : List (Item Nothing) → List (Kind × ℕ)
faults items =
    let those = elements (noted_script notes (sequence items)) in
    of_kind kind.NoPlace those ++ of_kind kind.BadBreak those ++ of_kind kind.JumpFromFinally those ++ of_kind kind.Duplicate those
    ++ of_kind kind.NoConstant those ++ of_kind kind.BadList those ++ of_kind kind.BadUse those ++ of_kind kind.TooManyNames those

abbrev body_from : Statements Nothing → List (Statement Nothing) → Statements Nothing
body_from before [] = before
body_from before (s ∷ ss) = body_from (and_statement before s) ss

abbrev body : List (Statement Nothing) → Statements Nothing
body ss = body_from no_statement ss

abbrev v : Text → Tree Nothing
v text = leaf tt (tree.variable text)

abbrev n : Text → Tree Nothing
n text = leaf tt (tree.name text)

abbrev i : ℕ → Tree Nothing
i k = leaf tt (tree.int (pos k))

abbrev id : Text → Name Nothing
id text = record { note = tt; text = text }

abbrev w : Text → tree.Member Nothing
w text = named tt text

-- `f()`
abbrev f : Tree Nothing
f = call (n (codes "f")) none

abbrev a : Tree Nothing
a = v (codes "a")

abbrev b : Tree Nothing
b = v (codes "b")

abbrev s : Tree Nothing → Item Nothing
s e = of_statement (expression tt e)

abbrev set : Tree Nothing → Tree Nothing → Tree Nothing
set l r = assign (by_value assign_form.Plain) l r

abbrev one : Tree Nothing → Items Nothing
one e = and none plain e

abbrev two : Tree Nothing → Tree Nothing → Items Nothing
two x y = and (one x) plain y

abbrev key : Text → Lead Nothing
key text = keyed (leaf tt (tree.string text))

abbrev brackets : Items Nothing → Tree Nothing
brackets items = listed tt (array form.Brackets) items

abbrev listing : Items Nothing → Tree Nothing
listing items = listed tt (array form.List) items

abbrev statement : Statement Nothing → List (Item Nothing)
statement x = of_statement x ∷ []

abbrev foreach_as : Target Nothing → List (Item Nothing)
foreach_as t = statement (foreach tt a None t (single (blank tt)))

abbrev to : Tree Nothing → Target Nothing
to e = record { is_reference = false; place = e }

abbrev bound_to : Tree Nothing → Target Nothing
bound_to e = record { is_reference = true; place = e }

abbrev leave : Statement Nothing
leave = jump tt breaking None

abbrev leave_by : Tree Nothing → Statement Nothing
leave_by e = jump tt breaking (Some e)

abbrev while_one : Statement Nothing → Statement Nothing
while_one x = while tt (i 1) (single x)

abbrev braces : List (Statement Nothing) → Statement Nothing
braces ss = block tt (body ss)

abbrev finally_of : List (Statement Nothing) → Statement Nothing
finally_of ss = try_finally tt no_statement no_catch (body ss)

abbrev param : Text → Param Nothing
param text = record { declared = None; is_reference = false; is_variadic = false; name = id text; default = None }

abbrev rest : Text → Option (Tree Nothing) → Param Nothing
rest text default = record { declared = None; is_reference = false; is_variadic = true; name = id text; default = default }

abbrev with_default : Text → Tree Nothing → Param Nothing
with_default text e = record { declared = None; is_reference = false; is_variadic = false; name = id text; default = Some e }

abbrev typed : Text → Text → Param Nothing
typed type text = record { declared = Some (record { is_nullable = false; base = of_name (id type) }); is_reference = false; is_variadic = false; name = id text; default = None }

abbrev taking : List (Param Nothing) → Signature Nothing
taking params = record { params = sequence params; result = None }

abbrev giving : Bool → Text → Signature Nothing
giving is_nullable type = record { params = empty; result = Some (record { is_nullable = is_nullable; base = of_name (id type) }) }

abbrev function : Text → Signature Nothing → List (Statement Nothing) → Item Nothing
function text signature ss = of_function (record { note = tt; is_reference = false; name = id text; signature = signature; body = body ss })

abbrev class : Text → List (Member Nothing) → Item Nothing
class text members = of_class (record { modifiers = empty; note = tt; name = id text; parent = None; interfaces = empty; members = sequence members })

abbrev interface : Text → List (Member Nothing) → Item Nothing
interface text members = of_interface (record { note = tt; name = id text; parents = empty; members = sequence members })

abbrev words : List ModifierWord → Sequence (Modifier Nothing)
words those = sequence (map (λ x. record { note = tt; word = x }) those)

abbrev method_by : List ModifierWord → tree.Member Nothing → Option (Statements Nothing) → Member Nothing
method_by modifiers name ss = method (record { modifiers = words modifiers; note = tt; is_reference = false; name = name; signature = taking []; body = ss })

abbrev property : List ModifierWord → Text → Member Nothing
property modifiers text = properties (words modifiers) (sequence (record { name = id text; value = None } ∷ []))

abbrev constant : tree.Member Nothing → Tree Nothing → Member Nothing
constant name e = class_constants empty (sequence (record { name = name; value = e } ∷ []))

abbrev const_of : Tree Nothing → List (Item Nothing)
const_of e = statement (constants tt (sequence (record { name = id (codes "X"); value = e } ∷ [])))

abbrev case_of : Option (Tree Nothing) → Cases Nothing → Cases Nothing
case_of label before = and_case before tt label case_end.Colon no_statement

abbrev rule : Option (tree.Member Nothing) → List (Item Nothing)
rule alias = class (codes "C") (uses_by tt (sequence (id (codes "T") ∷ [])) (sequence (renames tt None (w (codes "f")) None alias ∷ [])) ∷ []) ∷ []

-- ---- no place

-- `f()=1;`
set_call : faults (s (set f (i 1)) ∷ []) ≡ (kind.NoPlace, 0) ∷ []
unfolding places_of most_names taken.library_functions taken.prelude_functions taken.built_in_classes taken.no_class_names taken.inner_class_names
set_call = refl

-- `$a=1;`
set_variable : faults (s (set a (i 1)) ∷ []) ≡ []
unfolding places_of most_names taken.library_functions taken.prelude_functions taken.built_in_classes taken.no_class_names taken.inner_class_names
set_variable = refl

-- `($a)[0]=1;`
set_element_of_group : faults (s (set (index (enclosed tt parentheses a) (i 0)) (i 1)) ∷ []) ≡ (kind.NoPlace, 0) ∷ []
unfolding places_of most_names taken.library_functions taken.prelude_functions taken.built_in_classes taken.no_class_names taken.inner_class_names
set_element_of_group = refl

-- `($a)->p=1;`
set_property_of_group : faults (s (set (selected (enclosed tt parentheses a) thin (w (codes "p"))) (i 1)) ∷ []) ≡ []
unfolding places_of most_names taken.library_functions taken.prelude_functions taken.built_in_classes taken.no_class_names taken.inner_class_names
set_property_of_group = refl

-- `f()[0]=1;`
set_element_of_call : faults (s (set (index f (i 0)) (i 1)) ∷ []) ≡ (kind.NoPlace, 0) ∷ []
unfolding places_of most_names taken.library_functions taken.prelude_functions taken.built_in_classes taken.no_class_names taken.inner_class_names
set_element_of_call = refl

-- `$a[]=1;`
set_pushed : faults (s (set (append a) (i 1)) ∷ []) ≡ []
unfolding places_of most_names taken.library_functions taken.prelude_functions taken.built_in_classes taken.no_class_names taken.inner_class_names
set_pushed = refl

-- `C::X=1;`
set_class_constant : faults (s (set (selected (n (codes "C")) colons (w (codes "X"))) (i 1)) ∷ []) ≡ (kind.NoPlace, 0) ∷ []
unfolding places_of most_names taken.library_functions taken.prelude_functions taken.built_in_classes taken.no_class_names taken.inner_class_names
set_class_constant = refl

-- `C::$a=1;`
set_static_member : faults (s (set (selected (n (codes "C")) colons (held tt (codes "a"))) (i 1)) ∷ []) ≡ []
unfolding places_of most_names taken.library_functions taken.prelude_functions taken.built_in_classes taken.no_class_names taken.inner_class_names
set_static_member = refl

-- `$this=1;`
set_this : faults (s (set (v (codes "this")) (i 1)) ∷ []) ≡ (kind.NoPlace, 0) ∷ []
unfolding places_of most_names taken.library_functions taken.prelude_functions taken.built_in_classes taken.no_class_names taken.inner_class_names
set_this = refl

-- `$this[1]=1;`
set_element_of_this : faults (s (set (index (v (codes "this")) (i 1)) (i 1)) ∷ []) ≡ []
unfolding places_of most_names taken.library_functions taken.prelude_functions taken.built_in_classes taken.no_class_names taken.inner_class_names
set_element_of_this = refl

-- `$a=&1;`
linked_value : faults (s (assign by_reference a (i 1)) ∷ []) ≡ (kind.NoPlace, 3) ∷ []
unfolding places_of most_names taken.library_functions taken.prelude_functions taken.built_in_classes taken.no_class_names taken.inner_class_names
linked_value = refl

-- `$a=&f();`
linked_call : faults (s (assign by_reference a f) ∷ []) ≡ []
unfolding places_of most_names taken.library_functions taken.prelude_functions taken.built_in_classes taken.no_class_names taken.inner_class_names
linked_call = refl

-- `$a=&(f());`
linked_group : faults (s (assign by_reference a (enclosed tt parentheses f)) ∷ []) ≡ (kind.NoPlace, 3) ∷ []
unfolding places_of most_names taken.library_functions taken.prelude_functions taken.built_in_classes taken.no_class_names taken.inner_class_names
linked_group = refl

-- `$a=&new C;`
linked_new : faults (s (assign by_reference a (new tt (tree.class_name tt (codes "C")))) ∷ []) ≡ (kind.NoPlace, 3) ∷ []
unfolding places_of most_names taken.library_functions taken.prelude_functions taken.built_in_classes taken.no_class_names taken.inner_class_names
linked_new = refl

-- `$a=&$this;`
linked_this : faults (s (assign by_reference a (v (codes "this"))) ∷ []) ≡ (kind.NoPlace, 3) ∷ []
unfolding places_of most_names taken.library_functions taken.prelude_functions taken.built_in_classes taken.no_class_names taken.inner_class_names
linked_this = refl

-- `[$a]=&$b;`
list_linked : faults (s (assign by_reference (brackets (one a)) b) ∷ []) ≡ (kind.NoPlace, 0) ∷ []
unfolding places_of most_names taken.library_functions taken.prelude_functions taken.built_in_classes taken.no_class_names taken.inner_class_names
list_linked = refl

-- `[$a]+=1;`
added_to_list : faults (s (assign (by_value assign_form.Plus) (brackets (one a)) (i 1)) ∷ []) ≡ (kind.NoPlace, 0) ∷ []
unfolding places_of most_names taken.library_functions taken.prelude_functions taken.built_in_classes taken.no_class_names taken.inner_class_names
added_to_list = refl

-- `$a+=1;`
added_to_variable : faults (s (assign (by_value assign_form.Plus) a (i 1)) ∷ []) ≡ []
unfolding places_of most_names taken.library_functions taken.prelude_functions taken.built_in_classes taken.no_class_names taken.inner_class_names
added_to_variable = refl

-- `++f();`
counted_call : faults (s (prefix tt prefix_form.Increment f) ∷ []) ≡ (kind.NoPlace, 1) ∷ []
unfolding places_of most_names taken.library_functions taken.prelude_functions taken.built_in_classes taken.no_class_names taken.inner_class_names
counted_call = refl

-- `f()--;`
call_counted : faults (s (count f count_form.Down) ∷ []) ≡ (kind.NoPlace, 0) ∷ []
unfolding places_of most_names taken.library_functions taken.prelude_functions taken.built_in_classes taken.no_class_names taken.inner_class_names
call_counted = refl

-- `++f()->p;`
counted_property : faults (s (prefix tt prefix_form.Increment (selected f thin (w (codes "p")))) ∷ []) ≡ []
unfolding places_of most_names taken.library_functions taken.prelude_functions taken.built_in_classes taken.no_class_names taken.inner_class_names
counted_property = refl

-- `[&f()];`
call_in_array : faults (s (brackets (and none reference f)) ∷ []) ≡ (kind.NoPlace, 2) ∷ []
unfolding places_of most_names taken.library_functions taken.prelude_functions taken.built_in_classes taken.no_class_names taken.inner_class_names
call_in_array = refl

-- `[&$a];`
variable_in_array : faults (s (brackets (and none reference a)) ∷ []) ≡ []
unfolding places_of most_names taken.library_functions taken.prelude_functions taken.built_in_classes taken.no_class_names taken.inner_class_names
variable_in_array = refl

-- `unset(C::$a);`
unset_static : faults (statement (unset tt (one (selected (n (codes "C")) colons (held tt (codes "a")))))) ≡ (kind.NoPlace, 2) ∷ []
unfolding places_of most_names taken.library_functions taken.prelude_functions taken.built_in_classes taken.no_class_names taken.inner_class_names
unset_static = refl

-- `unset(C::$a[0]);`
unset_element_of_static : faults (statement (unset tt (one (index (selected (n (codes "C")) colons (held tt (codes "a"))) (i 0))))) ≡ []
unfolding places_of most_names taken.library_functions taken.prelude_functions taken.built_in_classes taken.no_class_names taken.inner_class_names
unset_element_of_static = refl

-- `unset($this);`
unset_this : faults (statement (unset tt (one (v (codes "this"))))) ≡ (kind.NoPlace, 2) ∷ []
unfolding places_of most_names taken.library_functions taken.prelude_functions taken.built_in_classes taken.no_class_names taken.inner_class_names
unset_this = refl

-- `isset($a,1);`
asked_value : faults (s (listed tt is_set (two a (i 1))) ∷ []) ≡ (kind.NoPlace, 4) ∷ []
unfolding places_of most_names taken.library_functions taken.prelude_functions taken.built_in_classes taken.no_class_names taken.inner_class_names
asked_value = refl

-- `isset(($a));`
asked_group : faults (s (listed tt is_set (one (enclosed tt parentheses a))) ∷ []) ≡ (kind.NoPlace, 2) ∷ []
unfolding places_of most_names taken.library_functions taken.prelude_functions taken.built_in_classes taken.no_class_names taken.inner_class_names
asked_group = refl

-- `isset($this);`
asked_this : faults (s (listed tt is_set (one (v (codes "this")))) ∷ []) ≡ []
unfolding places_of most_names taken.library_functions taken.prelude_functions taken.built_in_classes taken.no_class_names taken.inner_class_names
asked_this = refl

-- `foreach($a as f());`
foreach_call : faults (foreach_as (to f)) ≡ (kind.NoPlace, 4) ∷ []
unfolding places_of most_names taken.library_functions taken.prelude_functions taken.built_in_classes taken.no_class_names taken.inner_class_names
foreach_call = refl

-- `foreach($a as [$b]);`
foreach_list : faults (foreach_as (to (brackets (one b)))) ≡ []
unfolding places_of most_names taken.library_functions taken.prelude_functions taken.built_in_classes taken.no_class_names taken.inner_class_names
foreach_list = refl

-- `foreach($a as &[$b]);`
foreach_list_bound : faults (foreach_as (bound_to (brackets (one b)))) ≡ (kind.NoPlace, 5) ∷ []
unfolding places_of most_names taken.library_functions taken.prelude_functions taken.built_in_classes taken.no_class_names taken.inner_class_names
foreach_list_bound = refl

-- `foreach($a as &$b);`
foreach_bound : faults (foreach_as (bound_to b)) ≡ []
unfolding places_of most_names taken.library_functions taken.prelude_functions taken.built_in_classes taken.no_class_names taken.inner_class_names
foreach_bound = refl

-- `[$a,5]=$b;`
part_is_value : faults (s (set (brackets (two a (i 5))) b) ∷ []) ≡ (kind.NoPlace, 3) ∷ []
unfolding places_of most_names taken.library_functions taken.prelude_functions taken.built_in_classes taken.no_class_names taken.inner_class_names
part_is_value = refl

-- `[$a,[$b]]=$a;`
parts_are_places : faults (s (set (brackets (two a (brackets (one b)))) a) ∷ []) ≡ []
unfolding places_of most_names taken.library_functions taken.prelude_functions taken.built_in_classes taken.no_class_names taken.inner_class_names
parts_are_places = refl

-- `array($a)=$b;`
array_set : faults (s (set (listed tt (array form.Array) (one a)) b) ∷ []) ≡ (kind.NoPlace, 0) ∷ []
unfolding places_of most_names taken.library_functions taken.prelude_functions taken.built_in_classes taken.no_class_names taken.inner_class_names
array_set = refl

-- ---- `break` and `continue`

-- `break;`
break_alone : faults (statement leave) ≡ (kind.BadBreak, 0) ∷ []
unfolding places_of most_names taken.library_functions taken.prelude_functions taken.built_in_classes taken.no_class_names taken.inner_class_names
break_alone = refl

-- `while(1)break;`
break_in_loop : faults (statement (while_one leave)) ≡ []
unfolding places_of most_names taken.library_functions taken.prelude_functions taken.built_in_classes taken.no_class_names taken.inner_class_names
break_in_loop = refl

-- `while(1)break 2;`
break_two : faults (statement (while_one (leave_by (i 2)))) ≡ (kind.BadBreak, 4) ∷ []
unfolding places_of most_names taken.library_functions taken.prelude_functions taken.built_in_classes taken.no_class_names taken.inner_class_names
break_two = refl

-- `while(1)while(1)break 2;`
break_two_of_two : faults (statement (while_one (while_one (leave_by (i 2))))) ≡ []
unfolding places_of most_names taken.library_functions taken.prelude_functions taken.built_in_classes taken.no_class_names taken.inner_class_names
break_two_of_two = refl

-- `while(1)break 0;`
break_zero : faults (statement (while_one (leave_by (i 0)))) ≡ (kind.BadBreak, 4) ∷ []
unfolding places_of most_names taken.library_functions taken.prelude_functions taken.built_in_classes taken.no_class_names taken.inner_class_names
break_zero = refl

-- `while(1)break $a;`
break_variable : faults (statement (while_one (leave_by a))) ≡ (kind.BadBreak, 4) ∷ []
unfolding places_of most_names taken.library_functions taken.prelude_functions taken.built_in_classes taken.no_class_names taken.inner_class_names
break_variable = refl

-- `switch(1){default:continue;}`
continue_in_switch : faults (statement (switch tt (i 1) switch_form.Braces (and_case no_case tt None case_end.Colon (body (jump tt continuing None ∷ []))))) ≡ []
unfolding places_of most_names taken.library_functions taken.prelude_functions taken.built_in_classes taken.no_class_names taken.inner_class_names
continue_in_switch = refl

-- `while(1){try{}finally{break;}}`
break_in_finally : faults (statement (while_one (braces (finally_of (leave ∷ []) ∷ [])))) ≡ (kind.JumpFromFinally, 10) ∷ []
unfolding places_of most_names taken.library_functions taken.prelude_functions taken.built_in_classes taken.no_class_names taken.inner_class_names
break_in_finally = refl

-- `try{}finally{while(1)break;}`
break_in_loop_in_finally : faults (statement (finally_of (while_one leave ∷ []))) ≡ []
unfolding places_of most_names taken.library_functions taken.prelude_functions taken.built_in_classes taken.no_class_names taken.inner_class_names
break_in_loop_in_finally = refl

-- `while(1){try{}finally{while(1)break 2;}}`
break_two_in_finally : faults (statement (while_one (braces (finally_of (while_one (leave_by (i 2)) ∷ []) ∷ [])))) ≡ (kind.JumpFromFinally, 14) ∷ []
unfolding places_of most_names taken.library_functions taken.prelude_functions taken.built_in_classes taken.no_class_names taken.inner_class_names
break_two_in_finally = refl

-- `while(1){try{break;}finally{}}`
break_in_try : faults (statement (while_one (braces (try_finally tt (body (leave ∷ [])) no_catch no_statement ∷ [])))) ≡ []
unfolding places_of most_names taken.library_functions taken.prelude_functions taken.built_in_classes taken.no_class_names taken.inner_class_names
break_in_try = refl

-- ---- duplicates

-- `function f(){} function F(){}`
functions_alike : faults (function (codes "f") (taking []) [] ∷ function (codes "F") (taking []) [] ∷ []) ≡ (kind.Duplicate, 7) ∷ []
unfolding places_of most_names taken.library_functions taken.prelude_functions taken.built_in_classes taken.no_class_names taken.inner_class_names
functions_alike = refl

-- `function f(){} function g(){}`
functions_apart : faults (function (codes "f") (taking []) [] ∷ function (codes "g") (taking []) [] ∷ []) ≡ []
unfolding places_of most_names taken.library_functions taken.prelude_functions taken.built_in_classes taken.no_class_names taken.inner_class_names
functions_apart = refl

-- `class C{} interface c{}`
class_and_interface : faults (class (codes "C") [] ∷ interface (codes "c") [] ∷ []) ≡ (kind.Duplicate, 5) ∷ []
unfolding places_of most_names taken.library_functions taken.prelude_functions taken.built_in_classes taken.no_class_names taken.inner_class_names
class_and_interface = refl

-- `class C{} function C(){}`
class_and_function : faults (class (codes "C") [] ∷ function (codes "C") (taking []) [] ∷ []) ≡ []
unfolding places_of most_names taken.library_functions taken.prelude_functions taken.built_in_classes taken.no_class_names taken.inner_class_names
class_and_function = refl

-- `function StrLen(){}`
of_the_library : faults (function (codes "StrLen") (taking []) [] ∷ []) ≡ (kind.Duplicate, 1) ∷ []
unfolding places_of most_names taken.library_functions taken.prelude_functions taken.built_in_classes taken.no_class_names taken.inner_class_names
of_the_library = refl

-- `function array_map(){}`
of_the_prelude : faults (function (codes "array_map") (taking []) [] ∷ []) ≡ (kind.Duplicate, 1) ∷ []
unfolding places_of most_names taken.library_functions taken.prelude_functions taken.built_in_classes taken.no_class_names taken.inner_class_names
of_the_prelude = refl

-- `class exception{}`
of_built_in_class : faults (class (codes "exception") [] ∷ []) ≡ (kind.Duplicate, 1) ∷ []
unfolding places_of most_names taken.library_functions taken.prelude_functions taken.built_in_classes taken.no_class_names taken.inner_class_names
of_built_in_class = refl

-- `class strlen{}`
class_like_function : faults (class (codes "strlen") [] ∷ []) ≡ []
unfolding places_of most_names taken.library_functions taken.prelude_functions taken.built_in_classes taken.no_class_names taken.inner_class_names
class_like_function = refl

-- `class C{public $a;static $a;}`
property_twice : faults (class (codes "C") (property (modifier.Public ∷ []) (codes "a") ∷ property (modifier.Static ∷ []) (codes "a") ∷ []) ∷ []) ≡ (kind.Duplicate, 7) ∷ []
unfolding places_of most_names taken.library_functions taken.prelude_functions taken.built_in_classes taken.no_class_names taken.inner_class_names
property_twice = refl

-- `class C{public $a;static $A;}`
property_case : faults (class (codes "C") (property (modifier.Public ∷ []) (codes "a") ∷ property (modifier.Static ∷ []) (codes "A") ∷ []) ∷ []) ≡ []
unfolding places_of most_names taken.library_functions taken.prelude_functions taken.built_in_classes taken.no_class_names taken.inner_class_names
property_case = refl

-- `class C{function f(){} function F(){}}`
method_twice : faults (class (codes "C") (method_by [] (w (codes "f")) (Some no_statement) ∷ method_by [] (w (codes "F")) (Some no_statement) ∷ []) ∷ []) ≡ (kind.Duplicate, 10) ∷ []
unfolding places_of most_names taken.library_functions taken.prelude_functions taken.built_in_classes taken.no_class_names taken.inner_class_names
method_twice = refl

-- `class C{const f=1;function f(){}}`
method_and_constant : faults (class (codes "C") (constant (w (codes "f")) (i 1) ∷ method_by [] (w (codes "f")) (Some no_statement) ∷ []) ∷ []) ≡ []
unfolding places_of most_names taken.library_functions taken.prelude_functions taken.built_in_classes taken.no_class_names taken.inner_class_names
method_and_constant = refl

-- `class C{const A=1;const A=1;}`
constant_twice : faults (class (codes "C") (constant (w (codes "A")) (i 1) ∷ constant (w (codes "A")) (i 1) ∷ []) ∷ []) ≡ (kind.Duplicate, 9) ∷ []
unfolding places_of most_names taken.library_functions taken.prelude_functions taken.built_in_classes taken.no_class_names taken.inner_class_names
constant_twice = refl

-- `class C{const A=1;const a=1;}`
constant_case : faults (class (codes "C") (constant (w (codes "A")) (i 1) ∷ constant (w (codes "a")) (i 1) ∷ []) ∷ []) ≡ []
unfolding places_of most_names taken.library_functions taken.prelude_functions taken.built_in_classes taken.no_class_names taken.inner_class_names
constant_case = refl

-- `function f($a,$a){}`
parameter_twice : faults (function (codes "f") (taking (param (codes "a") ∷ param (codes "a") ∷ [])) [] ∷ []) ≡ (kind.Duplicate, 5) ∷ []
unfolding places_of most_names taken.library_functions taken.prelude_functions taken.built_in_classes taken.no_class_names taken.inner_class_names
parameter_twice = refl

-- `function f($a,$A){}`
parameter_case : faults (function (codes "f") (taking (param (codes "a") ∷ param (codes "A") ∷ [])) [] ∷ []) ≡ []
unfolding places_of most_names taken.library_functions taken.prelude_functions taken.built_in_classes taken.no_class_names taken.inner_class_names
parameter_case = refl

-- `switch($a){default:default:}`
default_twice : faults (statement (switch tt a switch_form.Braces (case_of None (case_of None no_case)))) ≡ (kind.Duplicate, 7) ∷ []
unfolding places_of most_names taken.library_functions taken.prelude_functions taken.built_in_classes taken.no_class_names taken.inner_class_names
default_twice = refl

-- `switch($a){case 1:default:}`
default_once : faults (statement (switch tt a switch_form.Braces (case_of None (case_of (Some (i 1)) no_case)))) ≡ []
unfolding places_of most_names taken.library_functions taken.prelude_functions taken.built_in_classes taken.no_class_names taken.inner_class_names
default_once = refl

-- ---- no constant expression

-- `const X=[1,2][0];`
element_of_array : faults (const_of (index (brackets (two (i 1) (i 2))) (i 0))) ≡ (kind.NoConstant, 3) ∷ []
unfolding places_of most_names taken.library_functions taken.prelude_functions taken.built_in_classes taken.no_class_names taken.inner_class_names
element_of_array = refl

-- `const X=[1,A,'k'=>-(C::X.1)];`
array_is_constant : faults (const_of (brackets (and (two (i 1) (n (codes "A"))) (key (codes "k")) (prefix tt prefix_form.Minus (enclosed tt parentheses (binary binary_form.Concatenated (selected (n (codes "C")) colons (w (codes "X"))) (i 1))))))) ≡ []
unfolding places_of most_names taken.library_functions taken.prelude_functions taken.built_in_classes taken.no_class_names taken.inner_class_names
array_is_constant = refl

-- `const X=1+$a;`
variable_in_constant : faults (const_of (binary binary_form.Plus (i 1) a)) ≡ (kind.NoConstant, 3) ∷ []
unfolding places_of most_names taken.library_functions taken.prelude_functions taken.built_in_classes taken.no_class_names taken.inner_class_names
variable_in_constant = refl

-- `const X=print 1;`
print_in_constant : faults (const_of (prefix tt prefix_form.Print (i 1))) ≡ (kind.NoConstant, 3) ∷ []
unfolding places_of most_names taken.library_functions taken.prelude_functions taken.built_in_classes taken.no_class_names taken.inner_class_names
print_in_constant = refl

-- `class C{const A=1;const B=static::A;}`
constant_of_static : faults (class (codes "C") (constant (w (codes "A")) (i 1) ∷ constant (w (codes "B")) (static_member tt (w (codes "A"))) ∷ []) ∷ []) ≡ (kind.NoConstant, 11) ∷ []
unfolding places_of most_names taken.library_functions taken.prelude_functions taken.built_in_classes taken.no_class_names taken.inner_class_names
constant_of_static = refl

-- `class C{const A=1;const B=self::A;}`
constant_of_self : faults (class (codes "C") (constant (w (codes "A")) (i 1) ∷ constant (w (codes "B")) (selected (n (codes "self")) colons (w (codes "A"))) ∷ []) ∷ []) ≡ []
unfolding places_of most_names taken.library_functions taken.prelude_functions taken.built_in_classes taken.no_class_names taken.inner_class_names
constant_of_self = refl

-- `static $a=$b;`
static_value : faults (statement (statics tt (sequence (record { name = id (codes "a"); value = Some b } ∷ [])))) ≡ (kind.NoConstant, 3) ∷ []
unfolding places_of most_names taken.library_functions taken.prelude_functions taken.built_in_classes taken.no_class_names taken.inner_class_names
static_value = refl

-- `function f($a=f()){}`
default_call : faults (function (codes "f") (taking (with_default (codes "a") f ∷ [])) [] ∷ []) ≡ (kind.NoConstant, 5) ∷ []
unfolding places_of most_names taken.library_functions taken.prelude_functions taken.built_in_classes taken.no_class_names taken.inner_class_names
default_call = refl

-- `function f($a=A){}`
default_constant : faults (function (codes "f") (taking (with_default (codes "a") (n (codes "A")) ∷ [])) [] ∷ []) ≡ []
unfolding places_of most_names taken.library_functions taken.prelude_functions taken.built_in_classes taken.no_class_names taken.inner_class_names
default_constant = refl

-- `class C{public $a=$b;}`
property_value : faults (class (codes "C") (properties (words (modifier.Public ∷ [])) (sequence (record { name = id (codes "a"); value = Some b } ∷ [])) ∷ []) ∷ []) ≡ (kind.NoConstant, 6) ∷ []
unfolding places_of most_names taken.library_functions taken.prelude_functions taken.built_in_classes taken.no_class_names taken.inner_class_names
property_value = refl

-- `const X=A instanceof C;`
instance_of_name : faults (const_of (instance_of (n (codes "A")) (n (codes "C")))) ≡ []
unfolding places_of most_names taken.library_functions taken.prelude_functions taken.built_in_classes taken.no_class_names taken.inner_class_names
instance_of_name = refl

-- `const X=A instanceof $a;`
instance_of_variable : faults (const_of (instance_of (n (codes "A")) a)) ≡ (kind.NoConstant, 3) ∷ []
unfolding places_of most_names taken.library_functions taken.prelude_functions taken.built_in_classes taken.no_class_names taken.inner_class_names
instance_of_variable = refl

-- ---- lists

-- `list('a'=>$a,[$b])=[];`
mixed : faults (s (set (listing (and (and none (key (codes "a")) a) plain (brackets (one b)))) (brackets none)) ∷ []) ≡ (kind.BadList, 0) ∷ []
unfolding places_of most_names taken.library_functions taken.prelude_functions taken.built_in_classes taken.no_class_names taken.inner_class_names
mixed = refl

-- `list('a'=>$a,'b'=>[$b])=[];`
keyed_alone : faults (s (set (listing (and (and none (key (codes "a")) a) (key (codes "b")) (brackets (one b)))) (brackets none)) ∷ []) ≡ []
unfolding places_of most_names taken.library_functions taken.prelude_functions taken.built_in_classes taken.no_class_names taken.inner_class_names
keyed_alone = refl

-- `['a'=>$a,]=$b;`
keyed_with_comma : faults (s (set (brackets (skip (and none (key (codes "a")) a))) b) ∷ []) ≡ []
unfolding places_of most_names taken.library_functions taken.prelude_functions taken.built_in_classes taken.no_class_names taken.inner_class_names
keyed_with_comma = refl

-- `['a'=>$a,,]=$b;`
keyed_with_hole : faults (s (set (brackets (skip (skip (and none (key (codes "a")) a)))) b) ∷ []) ≡ (kind.BadList, 0) ∷ []
unfolding places_of most_names taken.library_functions taken.prelude_functions taken.built_in_classes taken.no_class_names taken.inner_class_names
keyed_with_hole = refl

-- `[,$a]=$b;`
hole_in_front : faults (s (set (brackets (and (skip none) plain a)) b) ∷ []) ≡ []
unfolding places_of most_names taken.library_functions taken.prelude_functions taken.built_in_classes taken.no_class_names taken.inner_class_names
hole_in_front = refl

-- `[]=$a;`
empty_list : faults (s (set (brackets none) a) ∷ []) ≡ (kind.BadList, 0) ∷ []
unfolding places_of most_names taken.library_functions taken.prelude_functions taken.built_in_classes taken.no_class_names taken.inner_class_names
empty_list = refl

-- `list(,)=$a;`
commas_alone : faults (s (set (listing (skip (skip none))) a) ∷ []) ≡ (kind.BadList, 0) ∷ []
unfolding places_of most_names taken.library_functions taken.prelude_functions taken.built_in_classes taken.no_class_names taken.inner_class_names
commas_alone = refl

-- `[&$a]=$b;`
reference_in_list : faults (s (set (brackets (and none reference a)) b) ∷ []) ≡ (kind.BadList, 0) ∷ []
unfolding places_of most_names taken.library_functions taken.prelude_functions taken.built_in_classes taken.no_class_names taken.inner_class_names
reference_in_list = refl

-- `f(list($a));`
list_as_value : faults (s (call (n (codes "f")) (one (listing (one a)))) ∷ []) ≡ (kind.BadList, 2) ∷ []
unfolding places_of most_names taken.library_functions taken.prelude_functions taken.built_in_classes taken.no_class_names taken.inner_class_names
list_as_value = refl

-- `[list($a)];`
list_in_array : faults (s (brackets (one (listing (one a)))) ∷ []) ≡ (kind.BadList, 1) ∷ []
unfolding places_of most_names taken.library_functions taken.prelude_functions taken.built_in_classes taken.no_class_names taken.inner_class_names
list_in_array = refl

-- `[list($a)]=$b;`
list_in_list : faults (s (set (brackets (one (listing (one a)))) b) ∷ []) ≡ []
unfolding places_of most_names taken.library_functions taken.prelude_functions taken.built_in_classes taken.no_class_names taken.inner_class_names
list_in_list = refl

-- `foreach($a as list($b));`
list_in_foreach : faults (foreach_as (to (listing (one b)))) ≡ []
unfolding places_of most_names taken.library_functions taken.prelude_functions taken.built_in_classes taken.no_class_names taken.inner_class_names
list_in_foreach = refl

-- `[1,,2];`
array_with_hole : faults (s (brackets (and (skip (one (i 1))) plain (i 2))) ∷ []) ≡ (kind.BadList, 0) ∷ []
unfolding places_of most_names taken.library_functions taken.prelude_functions taken.built_in_classes taken.no_class_names taken.inner_class_names
array_with_hole = refl

-- `[1,];`
array_with_comma : faults (s (brackets (skip (one (i 1)))) ∷ []) ≡ []
unfolding places_of most_names taken.library_functions taken.prelude_functions taken.built_in_classes taken.no_class_names taken.inner_class_names
array_with_comma = refl

-- `[];`
array_empty : faults (s (brackets none) ∷ []) ≡ []
unfolding places_of most_names taken.library_functions taken.prelude_functions taken.built_in_classes taken.no_class_names taken.inner_class_names
array_empty = refl

-- ---- uses

-- `yield;`
yield_outside : faults (s (yield_nothing tt) ∷ []) ≡ (kind.BadUse, 0) ∷ []
unfolding places_of most_names taken.library_functions taken.prelude_functions taken.built_in_classes taken.no_class_names taken.inner_class_names
yield_outside = refl

-- `function f(){yield;}`
yield_inside : faults (function (codes "f") (taking []) (expression tt (yield_nothing tt) ∷ []) ∷ []) ≡ []
unfolding places_of most_names taken.library_functions taken.prelude_functions taken.built_in_classes taken.no_class_names taken.inner_class_names
yield_inside = refl

-- `$a=yield from $b;`
yield_from_outside : faults (s (set a (prefix tt prefix_form.YieldFrom b)) ∷ []) ≡ (kind.BadUse, 2) ∷ []
unfolding places_of most_names taken.library_functions taken.prelude_functions taken.built_in_classes taken.no_class_names taken.inner_class_names
yield_from_outside = refl

-- `Self::A;`
self_outside : faults (s (selected (n (codes "Self")) colons (w (codes "A"))) ∷ []) ≡ (kind.BadUse, 0) ∷ []
unfolding places_of most_names taken.library_functions taken.prelude_functions taken.built_in_classes taken.no_class_names taken.inner_class_names
self_outside = refl

-- `class C{function f(){self::A;}}`
self_in_class : faults (class (codes "C") (method_by [] (w (codes "f")) (Some (body (expression tt (selected (n (codes "self")) colons (w (codes "A"))) ∷ []))) ∷ []) ∷ []) ≡ []
unfolding places_of most_names taken.library_functions taken.prelude_functions taken.built_in_classes taken.no_class_names taken.inner_class_names
self_in_class = refl

-- `self;`
self_as_constant : faults (s (n (codes "self")) ∷ []) ≡ []
unfolding places_of most_names taken.library_functions taken.prelude_functions taken.built_in_classes taken.no_class_names taken.inner_class_names
self_as_constant = refl

-- `self();`
self_as_function : faults (s (call (n (codes "self")) none) ∷ []) ≡ []
unfolding places_of most_names taken.library_functions taken.prelude_functions taken.built_in_classes taken.no_class_names taken.inner_class_names
self_as_function = refl

-- `static::A;`
static_outside : faults (s (static_member tt (w (codes "A"))) ∷ []) ≡ (kind.BadUse, 0) ∷ []
unfolding places_of most_names taken.library_functions taken.prelude_functions taken.built_in_classes taken.no_class_names taken.inner_class_names
static_outside = refl

-- `new static;`
new_static_outside : faults (s (new tt (tree.class_static tt)) ∷ []) ≡ (kind.BadUse, 1) ∷ []
unfolding places_of most_names taken.library_functions taken.prelude_functions taken.built_in_classes taken.no_class_names taken.inner_class_names
new_static_outside = refl

-- `new parent;`
new_parent_outside : faults (s (new tt (tree.class_name tt (codes "parent"))) ∷ []) ≡ (kind.BadUse, 1) ∷ []
unfolding places_of most_names taken.library_functions taken.prelude_functions taken.built_in_classes taken.no_class_names taken.inner_class_names
new_parent_outside = refl

-- `$a instanceof self;`
instance_of_self_outside : faults (s (instance_of a (n (codes "self"))) ∷ []) ≡ (kind.BadUse, 2) ∷ []
unfolding places_of most_names taken.library_functions taken.prelude_functions taken.built_in_classes taken.no_class_names taken.inner_class_names
instance_of_self_outside = refl

-- `$a instanceof static;`
instance_of_static_outside : faults (s (instance_of_static a tt) ∷ []) ≡ (kind.BadUse, 2) ∷ []
unfolding places_of most_names taken.library_functions taken.prelude_functions taken.built_in_classes taken.no_class_names taken.inner_class_names
instance_of_static_outside = refl

-- `function f(self $a){}`
self_as_type : faults (function (codes "f") (taking (typed (codes "self") (codes "a") ∷ [])) [] ∷ []) ≡ (kind.BadUse, 3) ∷ []
unfolding places_of most_names taken.library_functions taken.prelude_functions taken.built_in_classes taken.no_class_names taken.inner_class_names
self_as_type = refl

-- `try{}catch(self $a){}`
self_caught : faults (statement (try_catch tt no_statement (and_catch no_catch (sequence (id (codes "self") ∷ [])) (id (codes "a")) no_statement))) ≡ (kind.BadUse, 5) ∷ []
unfolding places_of most_names taken.library_functions taken.prelude_functions taken.built_in_classes taken.no_class_names taken.inner_class_names
self_caught = refl

-- `class C{function f();}`
no_body : faults (class (codes "C") (method_by [] (w (codes "f")) None ∷ []) ∷ []) ≡ (kind.BadUse, 4) ∷ []
unfolding places_of most_names taken.library_functions taken.prelude_functions taken.built_in_classes taken.no_class_names taken.inner_class_names
no_body = refl

-- `class C{abstract function f(){}}`
body_of_abstract : faults (class (codes "C") (method_by (modifier.Abstract ∷ []) (w (codes "f")) (Some no_statement) ∷ []) ∷ []) ≡ (kind.BadUse, 5) ∷ []
unfolding places_of most_names taken.library_functions taken.prelude_functions taken.built_in_classes taken.no_class_names taken.inner_class_names
body_of_abstract = refl

-- `class C{abstract function f();}`
abstract_without_body : faults (class (codes "C") (method_by (modifier.Abstract ∷ []) (w (codes "f")) None ∷ []) ∷ []) ≡ []
unfolding places_of most_names taken.library_functions taken.prelude_functions taken.built_in_classes taken.no_class_names taken.inner_class_names
abstract_without_body = refl

-- `interface I{function f(){}}`
body_in_interface : faults (interface (codes "I") (method_by [] (w (codes "f")) (Some no_statement) ∷ []) ∷ []) ≡ (kind.BadUse, 4) ∷ []
unfolding places_of most_names taken.library_functions taken.prelude_functions taken.built_in_classes taken.no_class_names taken.inner_class_names
body_in_interface = refl

-- `interface I{function f();}`
interface_without_body : faults (interface (codes "I") (method_by [] (w (codes "f")) None ∷ []) ∷ []) ≡ []
unfolding places_of most_names taken.library_functions taken.prelude_functions taken.built_in_classes taken.no_class_names taken.inner_class_names
interface_without_body = refl

-- `class C{static static $a;}`
modifier_twice : faults (class (codes "C") (property (modifier.Static ∷ modifier.Static ∷ []) (codes "a") ∷ []) ∷ []) ≡ (kind.BadUse, 4) ∷ []
unfolding places_of most_names taken.library_functions taken.prelude_functions taken.built_in_classes taken.no_class_names taken.inner_class_names
modifier_twice = refl

-- `class C{public var $a;}`
two_visibilities : faults (class (codes "C") (property (modifier.Public ∷ modifier.Var ∷ []) (codes "a") ∷ []) ∷ []) ≡ (kind.BadUse, 4) ∷ []
unfolding places_of most_names taken.library_functions taken.prelude_functions taken.built_in_classes taken.no_class_names taken.inner_class_names
two_visibilities = refl

-- `class C{private abstract function f();}`
private_abstract : faults (class (codes "C") (method_by (modifier.Private ∷ modifier.Abstract ∷ []) (w (codes "f")) None ∷ []) ∷ []) ≡ (kind.BadUse, 4) ∷ []
unfolding places_of most_names taken.library_functions taken.prelude_functions taken.built_in_classes taken.no_class_names taken.inner_class_names
private_abstract = refl

-- `class C{final static abstract function f();}`
final_abstract : faults (class (codes "C") (method_by (modifier.Final ∷ modifier.Static ∷ modifier.Abstract ∷ []) (w (codes "f")) None ∷ []) ∷ []) ≡ (kind.BadUse, 5) ∷ []
unfolding places_of most_names taken.library_functions taken.prelude_functions taken.built_in_classes taken.no_class_names taken.inner_class_names
final_abstract = refl

-- `class C{abstract public $a;}`
abstract_property : faults (class (codes "C") (property (modifier.Abstract ∷ modifier.Public ∷ []) (codes "a") ∷ []) ∷ []) ≡ []
unfolding places_of most_names taken.library_functions taken.prelude_functions taken.built_in_classes taken.no_class_names taken.inner_class_names
abstract_property = refl

-- `abstract final class C{}`
abstract_final_class : faults (of_class (record { modifiers = sequence (record { note = tt; word = class_word.Abstract } ∷ record { note = tt; word = class_word.Final } ∷ []); note = tt; name = id (codes "C"); parent = None; interfaces = empty; members = empty }) ∷ []) ≡ (kind.BadUse, 1) ∷ []
unfolding places_of most_names taken.library_functions taken.prelude_functions taken.built_in_classes taken.no_class_names taken.inner_class_names
abstract_final_class = refl

-- `interface I{public $a;}`
property_in_interface : faults (interface (codes "I") (property (modifier.Public ∷ []) (codes "a") ∷ []) ∷ []) ≡ (kind.BadUse, 4) ∷ []
unfolding places_of most_names taken.library_functions taken.prelude_functions taken.built_in_classes taken.no_class_names taken.inner_class_names
property_in_interface = refl

-- `interface I{const A=1;}`
constant_in_interface : faults (interface (codes "I") (constant (w (codes "A")) (i 1) ∷ []) ∷ []) ≡ []
unfolding places_of most_names taken.library_functions taken.prelude_functions taken.built_in_classes taken.no_class_names taken.inner_class_names
constant_in_interface = refl

-- `function f(...$a,$b){}`
behind_variadic : faults (function (codes "f") (taking (rest (codes "a") None ∷ param (codes "b") ∷ [])) [] ∷ []) ≡ (kind.BadUse, 6) ∷ []
unfolding places_of most_names taken.library_functions taken.prelude_functions taken.built_in_classes taken.no_class_names taken.inner_class_names
behind_variadic = refl

-- `function f($b,...$a){}`
before_variadic : faults (function (codes "f") (taking (param (codes "b") ∷ rest (codes "a") None ∷ [])) [] ∷ []) ≡ []
unfolding places_of most_names taken.library_functions taken.prelude_functions taken.built_in_classes taken.no_class_names taken.inner_class_names
before_variadic = refl

-- `function f(...$a=1){}`
default_of_variadic : faults (function (codes "f") (taking (rest (codes "a") (Some (i 1)) ∷ [])) [] ∷ []) ≡ (kind.BadUse, 4) ∷ []
unfolding places_of most_names taken.library_functions taken.prelude_functions taken.built_in_classes taken.no_class_names taken.inner_class_names
default_of_variadic = refl

-- `declare(STRICT_TYPES=1);`
strict_types : faults (statement (declares tt (id (codes "STRICT_TYPES")) (pos 1))) ≡ []
unfolding places_of most_names taken.library_functions taken.prelude_functions taken.built_in_classes taken.no_class_names taken.inner_class_names
strict_types = refl

-- `;declare(strict_types=1);`
strict_types_second : faults (of_statement (blank tt) ∷ of_statement (declares tt (id (codes "strict_types")) (pos 1)) ∷ []) ≡ (kind.BadUse, 1) ∷ []
unfolding places_of most_names taken.library_functions taken.prelude_functions taken.built_in_classes taken.no_class_names taken.inner_class_names
strict_types_second = refl

-- `declare(strict_types=1);declare(strict_types=1);`
strict_types_twice : faults (of_statement (declares tt (id (codes "strict_types")) (pos 1)) ∷ of_statement (declares tt (id (codes "strict_types")) (pos 1)) ∷ []) ≡ (kind.BadUse, 7) ∷ []
unfolding places_of most_names taken.library_functions taken.prelude_functions taken.built_in_classes taken.no_class_names taken.inner_class_names
strict_types_twice = refl

-- `declare(strict_types=2);`
strict_types_two : faults (statement (declares tt (id (codes "strict_types")) (pos 2))) ≡ (kind.BadUse, 0) ∷ []
unfolding places_of most_names taken.library_functions taken.prelude_functions taken.built_in_classes taken.no_class_names taken.inner_class_names
strict_types_two = refl

-- `declare(ticks=1);`
ticks : faults (statement (declares tt (id (codes "ticks")) (pos 1))) ≡ (kind.BadUse, 0) ∷ []
unfolding places_of most_names taken.library_functions taken.prelude_functions taken.built_in_classes taken.no_class_names taken.inner_class_names
ticks = refl

-- `{declare(strict_types=1);}`
strict_types_inside : faults (statement (braces (declares tt (id (codes "strict_types")) (pos 1) ∷ []))) ≡ (kind.BadUse, 1) ∷ []
unfolding places_of most_names taken.library_functions taken.prelude_functions taken.built_in_classes taken.no_class_names taken.inner_class_names
strict_types_inside = refl

-- `function f():Void{return 1;}`
value_from_void : faults (function (codes "f") (giving false (codes "Void")) (jump tt returning (Some (i 1)) ∷ []) ∷ []) ≡ (kind.BadUse, 7) ∷ []
unfolding places_of most_names taken.library_functions taken.prelude_functions taken.built_in_classes taken.no_class_names taken.inner_class_names
value_from_void = refl

-- `function f():void{return;}`
nothing_from_void : faults (function (codes "f") (giving false (codes "void")) (jump tt returning None ∷ []) ∷ []) ≡ []
unfolding places_of most_names taken.library_functions taken.prelude_functions taken.built_in_classes taken.no_class_names taken.inner_class_names
nothing_from_void = refl

-- `function f():int{return 1;}`
value_from_int : faults (function (codes "f") (giving false (codes "int")) (jump tt returning (Some (i 1)) ∷ []) ∷ []) ≡ []
unfolding places_of most_names taken.library_functions taken.prelude_functions taken.built_in_classes taken.no_class_names taken.inner_class_names
value_from_int = refl

-- `class C{use T{f as;}}`
rule_of_nothing : faults (rule None) ≡ (kind.BadUse, 6) ∷ []
unfolding places_of most_names taken.library_functions taken.prelude_functions taken.built_in_classes taken.no_class_names taken.inner_class_names
rule_of_nothing = refl

-- `class C{use T{f as g;}}`
rule_of_name : faults (rule (Some (w (codes "g")))) ≡ []
unfolding places_of most_names taken.library_functions taken.prelude_functions taken.built_in_classes taken.no_class_names taken.inner_class_names
rule_of_name = refl

-- `class Int{}`
class_named_int : faults (class (codes "Int") [] ∷ []) ≡ (kind.BadUse, 1) ∷ []
unfolding places_of most_names taken.library_functions taken.prelude_functions taken.built_in_classes taken.no_class_names taken.inner_class_names
class_named_int = refl

-- `class Ints{}`
class_named_array_of_ints : faults (class (codes "Ints") [] ∷ []) ≡ []
unfolding places_of most_names taken.library_functions taken.prelude_functions taken.built_in_classes taken.no_class_names taken.inner_class_names
class_named_array_of_ints = refl

-- ---- several at one token, and several in one script

-- `const X=list(1);`
constant_list : faults (const_of (listing (one (i 1)))) ≡ (kind.NoConstant, 3) ∷ (kind.BadList, 3) ∷ []
unfolding places_of most_names taken.library_functions taken.prelude_functions taken.built_in_classes taken.no_class_names taken.inner_class_names
constant_list = refl

-- `const X=[1,,2];`
constant_with_hole : faults (const_of (brackets (and (skip (one (i 1))) plain (i 2)))) ≡ (kind.BadList, 3) ∷ []
unfolding places_of most_names taken.library_functions taken.prelude_functions taken.built_in_classes taken.no_class_names taken.inner_class_names
constant_with_hole = refl

-- `f()=yield;break;`
several : faults (s (set f (yield_nothing tt)) ∷ of_statement leave ∷ []) ≡ (kind.NoPlace, 0) ∷ (kind.BadBreak, 6) ∷ (kind.BadUse, 4) ∷ []
unfolding places_of most_names taken.library_functions taken.prelude_functions taken.built_in_classes taken.no_class_names taken.inner_class_names
several = refl

-- ---- too many names

abbrev t : Bool → Text → ℕ → NameToken ℕ
t is_variable text at = record { note = at; is_variable = is_variable; text = text }

-- two at most, and the third different one is the fault: a name and a variable of one text are two, and so are names in other letter cases
third_name : too_many 2 (t true (codes "a") 0 ∷ t false (codes "a") 3 ∷ t true (codes "a") 5 ∷ t false (codes "A") 8 ∷ t false (codes "b") 9 ∷ []) ≡ 8 ∷ []
third_name = refl

two_names : too_many 2 (t true (codes "a") 0 ∷ t false (codes "a") 3 ∷ t true (codes "a") 5 ∷ t false (codes "a") 8 ∷ []) ≡ []
two_names = refl
