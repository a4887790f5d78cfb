-- Small scripts, what their tables hold and answer, and what is wrong with their classes. Each stands without notes, and its notes
-- are those of its spelling, all of line 1.
use Rattle.std.proofs.Common.{◌≡◌, ℕ, zero, suc, Bool, true, false, Option, Some, None, List, [], ◌∷◌, map, length, refl, codes, ltb-true, inr}
use Rattle.php_ast.specs.declared.spot.Spot.{Spot}
use Rattle.php_ast.specs.declared.declaration.ClassModifier.{ClassModifier}
use Rattle.php_ast.specs.declared.declaration.ClassModifier.TheVariants as class_word
use Rattle.php_ast.specs.declared.declaration.ModifierWord.{ModifierWord}
use Rattle.php_ast.specs.declared.declaration.ModifierWord.TheVariants as word
use Rattle.php_ast.specs.expression.Tree as tree
use Rattle.php_ast.specs.expression.View.{Note}
use Rattle.php_ast.specs.expression.Placed.{Notes}
use Rattle.php_ast.specs.statement.Tree.{Sequence, empty, then_also, Name, Statements, no_statement}
use Rattle.php_ast.specs.declaration.Tree.{Base, of_name, Type_of, Param, Method, Member, uses, method, properties, Item, of_class, of_interface, of_trait, Script}
use Rattle.php_ast.specs.declaration.Placed.{noted_script}
use Rattle.php_trait.specs.Declared.{Text, declarations}
use Rattle.php_trait.specs.Members.{flat}
use Rattle.php_trait.specs.Faults.{In, here, later}
use Rattle.php_class.specs.Rows.{Row, MethodRow, table, built_in}
use Rattle.php_class.specs.Lookups as look
use Rattle.php_class.specs.Lookups.{number_of, row_at, parent, is_a, ancestry, yes, hidden, no}
use Rattle.php_class.specs.Faults.{IsNoParent, no_parent, no_interface, Leads, is_it, goes_on, IsCycle, IsFinalBroken, final_class, final_method, Against, of_parents, of_interface, Clashes, narrower, otherwise_static, IsUnfit, more_required, fewer_params, other_marks, other_reference, other_result, IsBadOverride, signature, inherited, built_in_alone, IsInterfaceMissing, IsAbstractLeft, required, result_fits, agree, built_in_has}

-- ---- small trees

abbrev Nothing : Type 0
Nothing = Unit {0}

abbrev n : Text → Name Nothing
n text = record { note = tt; text = text }

abbrev listed_from : {A : Type 0} → Sequence A → List A → Sequence A
listed_from before [] = before
listed_from before (x ∷ xs) = listed_from (then_also before x) xs

abbrev these : {A : Type 0} → List A → Sequence A
these xs = listed_from empty xs

abbrev words : List ModifierWord → Sequence (Rattle.php_ast.specs.declaration.Tree.Modifier Nothing)
words ms = these (map (λ m. record { note = tt; word = m }) ms)

-- a parameter `$x`, and `$x=0` as one that may be left out
abbrev param : Bool → Param Nothing
param false = record { declared = None; is_reference = false; is_variadic = false; name = n (codes "x"); default = None }
param true = record { declared = None; is_reference = false; is_variadic = false; name = n (codes "x"); default = Some (tree.leaf tt (tree.name (codes "null"))) }

abbrev int_type : Option (Type_of Nothing)
int_type = Some (record { is_nullable = false; base = of_name (n (codes "int")) })

-- `function f(..){}`, or with `;` in place of the body
abbrev f : List ModifierWord → Text → List (Param Nothing) → Option (Type_of Nothing) → Option (Statements Nothing) → Member Nothing
f ms name params result body = method (record {
  modifiers = words ms;
  note = tt;
  is_reference = false;
  name = tree.named tt name;
  signature = record { params = these params; result = result };
  body = body;
})

abbrev block : Option (Statements Nothing)
block = Some no_statement

abbrev class : List ClassModifier → Text → Option (Name Nothing) → List (Name Nothing) → List (Member Nothing) → Item Nothing
class ms name up interfaces members = of_class (record {
  modifiers = these (map (λ m. record { note = tt; word = m }) ms);
  note = tt;
  name = n name;
  parent = up;
  interfaces = these interfaces;
  members = these members;
})

abbrev interface : Text → List (Name Nothing) → List (Member Nothing) → Item Nothing
interface name ups members = of_interface (record { note = tt; name = n name; parents = these ups; members = these members })

abbrev placed : Notes Note
placed = record { token = λ at. record { place = at; line = 1; text = [] }; keyword = λ at. record { place = at; line = 1; text = [] } }

abbrev rows_of : List (Item Nothing) → List Row
rows_of items = of_declared (declarations (noted_script placed (these items)))
  where
    of_declared : List Rattle.php_trait.specs.Declared.Declared → List Row
    of_declared ds = table (map (flat ds) ds)

-- ---- what is built in

error_is_throwable : is_a built_in 6 1 ≡ true
error_is_throwable = refl

parents_of_division : ancestry built_in 6 ≡ 6 ∷ 4 ∷ 3 ∷ 1 ∷ []
parents_of_division = refl

number_in_any_case : number_of built_in (codes "argumentCOUNTerror") ≡ Some 7
number_in_any_case = refl

-- `getLine` is the eleventh of all methods: those of Exception stand before those of Error
line_of_errors : look.method built_in 7 (codes "getline") None ≡ yes 10
line_of_errors = refl

message_from_outside : look.property built_in 5 (codes "message") None ≡ hidden 4
message_from_outside = refl

message_from_inside : look.property built_in 5 (codes "message") (Some 4) ≡ yes 4
message_from_inside = refl

-- ---- what is found

-- `class P{private $x;private function f(){} protected static function g(){}} class C extends P{function f(){}}`
inherits : List Row
inherits = rows_of (class [] (codes "P") None [] (properties (words (word.Private ∷ [])) (these (record { name = n (codes "x"); value = None } ∷ []))
    ∷ f (word.Private ∷ []) (codes "f") [] None block ∷ f (word.Protected ∷ word.Static ∷ []) (codes "g") [] None block ∷ [])
    ∷ class [] (codes "C") (Some (n (codes "p"))) [] (f [] (codes "f") [] None block ∷ []) ∷ [])

parent_in_any_case : parent inherits 10 ≡ Some 9
unfolding inherits
parent_in_any_case = refl

-- 20 methods are built in
own_before_inherited : look.method inherits 10 (codes "f") None ≡ yes 22
unfolding inherits
own_before_inherited = refl

-- code of P means P's private method, also on a C
private_of_the_asking : look.method inherits 10 (codes "f") (Some 9) ≡ yes 20
unfolding inherits
private_of_the_asking = refl

protected_from_below : look.method inherits 9 (codes "g") (Some 10) ≡ yes 21
unfolding inherits
protected_from_below = refl

protected_from_outside : look.method inherits 10 (codes "g") None ≡ hidden 21
unfolding inherits
protected_from_outside = refl

private_is_there : look.property inherits 10 (codes "x") (Some 10) ≡ hidden 8
unfolding inherits
private_is_there = refl

none_of_the_name : look.property inherits 10 (codes "X") (Some 9) ≡ no
unfolding inherits
none_of_the_name = refl

-- ---- faults

abbrev on : ℕ → Spot
on place = record { place = place; line = 1 }

-- the row of a number
abbrev OfRow : List Row → ℕ → (Row → Type 0) → Type 0
OfRow rows number P = given (row_at rows number)
  where
    given : Option Row → Type 0
    given None = ⊥
    given (Some r) = P r

-- `class A extends B{}`
lonely : List Row
lonely = rows_of (class [] (codes "A") (Some (n (codes "B"))) [] [] ∷ [])

lonely_fault : OfRow lonely 9 (λ r. IsNoParent lonely r (on 3))
unfolding lonely
lonely_fault = no_parent _ (here _) refl refl

-- an interface is no parent: `class A extends Throwable{}`
wrong_kind : List Row
wrong_kind = rows_of (class [] (codes "A") (Some (n (codes "Throwable"))) [] [] ∷ [])

wrong_kind_fault : OfRow wrong_kind 9 (λ r. IsNoParent wrong_kind r (on 3))
unfolding wrong_kind
wrong_kind_fault = no_parent _ (here _) refl refl

-- `class A extends B{} class B extends A{}`
circle : List Row
circle = rows_of (class [] (codes "A") (Some (n (codes "B"))) [] [] ∷ class [] (codes "B") (Some (n (codes "A"))) [] [] ∷ [])

circle_fault : OfRow circle 9 (λ r. IsCycle circle r (on 3))
unfolding circle
circle_fault = record {
  before = [];
  name = _;
  behind = [];
  whole = refl;
  place = refl;
  first = λ a there leads. elim there [ ];
  leads = goes_on _ 10 _ _ refl refl (here _) (is_it _ refl);
}

-- `class A extends Generator{}`
final_parent : List Row
final_parent = rows_of (class [] (codes "A") (Some (n (codes "Generator"))) [] [] ∷ [])

final_parent_fault : OfRow final_parent 9 (λ r. IsFinalBroken final_parent 9 r (on 3))
unfolding final_parent
final_parent_fault = final_class _ 8 _ (here _) refl refl refl refl

-- `class A extends Error{function GETLINE(){}}`
final_again : List Row
final_again = rows_of (class [] (codes "A") (Some (n (codes "Error"))) [] (f [] (codes "GETLINE") [] None block ∷ []) ∷ [])

final_again_fault : OfRow final_again 9 (λ r. IsFinalBroken final_again 9 r (on 6))
unfolding final_again
final_again_fault =
    final_method _ 3 _ _ (here _) (here _) refl (later _ _ (later _ _ (later _ _ (later _ _ (here _))))) refl refl

-- `interface I extends Traversable{}`
traversable_alone : List Row
traversable_alone = rows_of (interface (codes "I") (n (codes "Traversable") ∷ []) [] ∷ [])

traversable_alone_fault : OfRow traversable_alone 9 (λ r. IsBadOverride traversable_alone 9 r (on 3))
unfolding traversable_alone
traversable_alone_fault = built_in_alone _ 0 (here _) refl refl refl refl

-- `class C extends TypeError implements Throwable{}`: a built-in parent has it
throwable_by_parent : List Row
throwable_by_parent = rows_of (class [] (codes "C") (Some (n (codes "TypeError"))) (n (codes "Throwable") ∷ []) [] ∷ [])

throwable_by_parent_has : built_in_has throwable_by_parent 1 9 ≡ true
unfolding throwable_by_parent
throwable_by_parent_has = refl

-- `class P{public function f(){}} class C extends P{protected static function F(){}}`
clashing : List Row
clashing = rows_of (class [] (codes "P") None [] (f (word.Public ∷ []) (codes "f") [] None block ∷ [])
    ∷ class [] (codes "C") (Some (n (codes "P"))) [] (f (word.Protected ∷ word.Static ∷ []) (codes "F") [] None block ∷ []) ∷ [])

clashing_narrower : OfRow clashing 10 (λ r. IsBadOverride clashing 10 r (on 19))
unfolding clashing
clashing_narrower = Rattle.php_class.specs.Faults.method _ _ (here _) (of_parents _ refl) refl (narrower (record { narrower = ltb-true _ _ refl })) refl

-- `abstract class A{abstract function f($a);} class B extends A{function f($a){}} class C extends B{function f(){}}`
third : List Row
third = rows_of (class (class_word.Abstract ∷ []) (codes "A") None [] (f (word.Abstract ∷ []) (codes "f") (param false ∷ []) None None ∷ [])
    ∷ class [] (codes "B") (Some (n (codes "A"))) [] (f [] (codes "f") (param false ∷ []) None block ∷ [])
    ∷ class [] (codes "C") (Some (n (codes "B"))) [] (f [] (codes "f") [] None block ∷ []) ∷ [])

third_fault : OfRow third 11 (λ r. IsBadOverride third 11 r (on 31))
unfolding third
third_fault = signature _ 9 _ _ (here _) (later _ _ (here _)) refl (here _) refl refl refl (fewer_params (ltb-true _ _ refl)) refl

-- `interface I{function f();} class C implements I{function f():int{}}`: a result's type may be added, not taken away
added : result_fits (Some (record { is_nullable = false; base = Rattle.php_class.specs.Rows.a_name (codes "int") })) None ≡ true
added = refl

taken : result_fits None (Some (record { is_nullable = false; base = Rattle.php_class.specs.Rows.a_name (codes "int") })) ≡ false
taken = refl

-- `interface I{function f();} class C implements I{}`
missing : List Row
missing = rows_of (interface (codes "I") [] (f [] (codes "f") [] None None ∷ []) ∷ class [] (codes "C") None (n (codes "I") ∷ []) [] ∷ [])

missing_fault : OfRow missing 10 (λ r. IsInterfaceMissing missing 10 r (on 10))
unfolding missing
missing_fault = record {
  concrete = refl;
  not_abstract = refl;
  up = 9;
  interface = _;
  above = here _;
  row = refl;
  method = _;
  asked = here _;
  missing = refl;
  place = refl;
}

-- `class C{abstract function f();}`
left : List Row
left = rows_of (class [] (codes "C") None [] (f (word.Abstract ∷ []) (codes "f") [] None None ∷ []) ∷ [])

left_fault : OfRow left 9 (λ r. IsAbstractLeft left 9 r (on 1))
unfolding left
left_fault = record { concrete = refl; not_abstract = refl; name = codes "f"; found = _; is_found = refl; left = refl; place = refl }

-- `class P{private function f(){}} interface I{function f();} class C extends P implements I{}`: a private method of a class above
-- carries nothing out
hidden_above : List Row
hidden_above = rows_of (class [] (codes "P") None [] (f (word.Private ∷ []) (codes "f") [] None block ∷ [])
    ∷ interface (codes "I") [] (f [] (codes "f") [] None None ∷ []) ∷ class [] (codes "C") (Some (n (codes "P"))) (n (codes "I") ∷ []) [] ∷ [])

hidden_above_fault : OfRow hidden_above 11 (λ r. IsInterfaceMissing hidden_above 11 r (on 21))
unfolding hidden_above
hidden_above_fault = record {
  concrete = refl;
  not_abstract = refl;
  up = 10;
  interface = _;
  above = here _;
  row = refl;
  method = _;
  asked = here _;
  missing = refl;
  place = refl;
}

-- `interface I{function f($a);} class P{function f(){}} class C extends P implements I{}`: an inherited method stands against the
-- interface, and the fault is at the class's name
inherits_unfit : List Row
inherits_unfit = rows_of (interface (codes "I") [] (f [] (codes "f") (param false ∷ []) None None ∷ [])
    ∷ class [] (codes "P") None [] (f [] (codes "f") [] None block ∷ []) ∷ class [] (codes "C") (Some (n (codes "P"))) (n (codes "I") ∷ []) [] ∷ [])

inherits_unfit_fault : OfRow inherits_unfit 11 (λ r. IsBadOverride inherits_unfit 11 r (on 21))
unfolding inherits_unfit
inherits_unfit_fault = inherited _ 9 _ _ refl refl (here _) (λ is. elim is [ ]) refl (here _) (inr (fewer_params (ltb-true _ _ refl))) refl

-- `interface I{protected function f();}`: what an interface has is public
seen_in_interface : List Row
seen_in_interface = rows_of (interface (codes "I") [] (f (word.Protected ∷ []) (codes "f") [] None None ∷ []) ∷ [])

seen_from_outside : look.method seen_in_interface 9 (codes "f") None ≡ yes 20
unfolding seen_in_interface
seen_from_outside = refl
