-- What is found in a table: classes by name, what is above a class, and members, with whether they are seen from where they are
-- asked for.
use Rattle.std.specs.Prelude.{◌≡◌, ℕ, suc, zero, ◌+◌, Bool, true, false, Option, Some, None, List, [], ◌∷◌, ◌++◌, cond, map, not, length, nat_eq}
use Rattle.std.specs.Str.{bytes_eq}
use Rattle.php_ast.specs.declared.declaration.Visibility.{Visibility}
use Rattle.php_ast.specs.declared.declaration.Visibility.TheVariants.{Public, Protected, Private}
use Rattle.php_trait.specs.Declared.{Text, joined, kept, any, one_or_none, same_name, Kind, of_a_class, of_an_interface, of_a_trait}
use Rattle.php_class.specs.Rows.{Row, Above, MethodRow, PropertyRow, ConstantRow}

-- ---- classes

abbrev pub number_from : ℕ → List Row → Text → Option ℕ
number_from count [] name = None
number_from count (r ∷ rows) name = cond (same_name r.name name) (Some count) (number_from (suc count) rows name)

-- the class of a name, in any letter case
abbrev pub number_of : List Row → Text → Option ℕ
number_of rows name = number_from 0 rows name

abbrev pub row_at : List Row → ℕ → Option Row
row_at [] number = None
row_at (r ∷ rows) zero = Some r
row_at (r ∷ rows) (suc number) = row_at rows number

abbrev pub of_row : {A : Type 0} → A → (Row → A) → Option Row → A
of_row none f None = none
of_row none f (Some r) = f r

abbrev pub in_row : {A : Type 0} → List Row → ℕ → A → (Row → A) → A
in_row rows number none f = of_row none f (row_at rows number)

abbrev pub numbers_of : List Row → List Above → List ℕ
numbers_of rows [] = []
numbers_of rows (a ∷ more) = and_also (number_of rows a.name) (numbers_of rows more)
  where
    and_also : Option ℕ → List ℕ → List ℕ
    and_also None rest = rest
    and_also (Some number) rest = number ∷ rest

abbrev pub is_class : Kind → Bool
is_class of_a_class = true
is_class of_an_interface = false
is_class of_a_trait = false

abbrev pub first_of : {A : Type 0} → List A → Option A
first_of [] = None
first_of (x ∷ xs) = Some x

-- the parent class; an interface and a trait have none
abbrev pub parent : List Row → ℕ → Option ℕ
parent rows number = in_row rows number None (λ r. cond (is_class r.kind) (first_of (numbers_of rows r.parents)) None)

-- Counts of steps: a table without circles has no way upwards that is longer than it.
abbrev pub chain_in : ℕ → List Row → ℕ → List ℕ
chain_in zero rows number = []
chain_in (suc steps) rows number = number ∷ joined (chain_in steps rows) (one_or_none (parent rows number))

-- a class, its parent, the parent of that, and so on
abbrev pub chain : List Row → ℕ → List ℕ
chain rows number = chain_in (length rows) rows number

-- the interfaces that a class or an interface names itself
abbrev pub named_interfaces : List Row → ℕ → List ℕ
named_interfaces rows number = in_row rows number [] (λ r. numbers_of rows (cond (is_class r.kind) r.interfaces r.parents))

-- those, each with what it extends behind it
abbrev pub interfaces_in : ℕ → List Row → ℕ → List ℕ
interfaces_in zero rows number = []
interfaces_in (suc steps) rows number = joined (λ i. i ∷ interfaces_in steps rows i) (named_interfaces rows number)

abbrev pub interfaces : List Row → ℕ → List ℕ
interfaces rows number = interfaces_in (length rows) rows number

-- all that stands above a class, itself first
abbrev pub ancestry : List Row → ℕ → List ℕ
ancestry rows number = chain rows number ++ joined (interfaces rows) (chain rows number)

abbrev pub is_a : List Row → ℕ → ℕ → Bool
is_a rows number other = any (λ up. nat_eq up other) (ancestry rows number)

-- ---- members

-- A declaration of a member: its class, and its number among all declarations of its kind, which go by the numbers of their
-- classes and then by their places in them.
pub record Found_at (A : Type 0) : Type 0 where
  pub class : ℕ
  pub number : ℕ
  pub what : A

abbrev pub among : {A : Type 0} → (A → Bool) → ℕ → ℕ → List A → Option (Found_at A)
among is_it class number [] = None
among is_it class number (x ∷ xs) = cond (is_it x) (Some (record { class = class; number = number; what = x })) (among is_it class (suc number) xs)

-- how many stand in the classes before a class
abbrev pub count_before : {A : Type 0} → (Row → List A) → List Row → ℕ → ℕ
count_before members rows zero = 0
count_before members [] (suc class) = 0
count_before members (r ∷ rows) (suc class) = length (members r) + count_before members rows class

abbrev pub declared_in : {A : Type 0} → (Row → List A) → (A → Bool) → List Row → ℕ → Option (Found_at A)
declared_in members is_it rows class = among is_it class (count_before members rows class) (in_row rows class [] members)

abbrev pub or_else : {A : Type 0} → Option A → Option A → Option A
or_else None other = other
or_else (Some x) other = Some x

-- the first declaration in these classes
abbrev pub first_declared : {A : Type 0} → (Row → List A) → (A → Bool) → List Row → List ℕ → Option (Found_at A)
first_declared members is_it rows [] = None
first_declared members is_it rows (class ∷ classes) = or_else (declared_in members is_it rows class) (first_declared members is_it rows classes)

-- Methods of the class and of its parents go before those of interfaces.
abbrev pub method_along : List Row → ℕ → Text → Option (Found_at MethodRow)
method_along rows class name = first_declared (λ r. r.methods) (λ m. same_name m.name name) rows (ancestry rows class)

abbrev pub only : Bool → Row → List PropertyRow
only true r = kept (λ p. p.is_static) r.properties
only false r = kept (λ p. not p.is_static) r.properties

-- Properties of objects and static members are counted apart. Their names count in their letter case, as those of constants do.
abbrev pub property_along : Bool → List Row → ℕ → Text → Option (Found_at PropertyRow)
property_along is_static rows class name = first_declared (only is_static) (λ p. bytes_eq p.name name) rows (chain rows class)

-- A constant is looked for in each class of the chain and in its interfaces, before the parent.
abbrev pub constant_along : List Row → ℕ → Text → Option (Found_at ConstantRow)
constant_along rows class name =
    first_declared (λ r. r.constants) (λ c. bytes_eq c.name name) rows (joined (λ up. up ∷ interfaces rows up) (chain rows class))

-- ---- what is seen

-- Private members are seen from their class, protected ones from classes where one side is below the other.
abbrev pub is_seen : List Row → Option ℕ → ℕ → Visibility → Bool
is_seen rows from owner Public = true
is_seen rows None owner Protected = false
is_seen rows (Some asking) owner Protected = cond (is_a rows asking owner) true (is_a rows owner asking)
is_seen rows None owner Private = false
is_seen rows (Some asking) owner Private = nat_eq asking owner

pub data Answer : Type 0 where
  yes : ℕ → Answer
  hidden : ℕ → Answer
  no : Answer

abbrev pub answer : {A : Type 0} → List Row → Option ℕ → (A → Visibility) → Option (Found_at A) → Answer
answer rows from seen None = no
answer rows from seen (Some m) = cond (is_seen rows from m.class (seen m.what)) (yes m.number) (hidden m.number)

abbrev pub is_private : Visibility → Bool
is_private Private = true
is_private Protected = false
is_private Public = false

-- Where the class that asks declares a private member of the name and the class that is asked is one of its kind, that member is
-- meant, whatever stands before it in the chain.
abbrev pub own_private : {A : Type 0} → (Row → List A) → (A → Bool) → (A → Visibility) → List Row → ℕ → Option ℕ → Option (Found_at A)
own_private members is_it seen rows class None = None
own_private members is_it seen rows class (Some asking) =
    cond (is_a rows class asking) (declared_in members (λ x. cond (is_it x) (is_private (seen x)) false) rows asking) None

abbrev pub method : List Row → ℕ → Text → Option ℕ → Answer
method rows class name from = answer rows from (λ m. m.seen)
    (or_else (own_private (λ r. r.methods) (λ m. same_name m.name name) (λ m. m.seen) rows class from) (method_along rows class name))

abbrev pub property : List Row → ℕ → Text → Option ℕ → Answer
property rows class name from = answer rows from (λ p. p.seen)
    (or_else (own_private (only false) (λ p. bytes_eq p.name name) (λ p. p.seen) rows class from) (property_along false rows class name))

abbrev pub static_member : List Row → ℕ → Text → Option ℕ → Answer
static_member rows class name from = answer rows from (λ p. p.seen) (property_along true rows class name)

abbrev pub constant : List Row → ℕ → Text → Option ℕ → Answer
constant rows class name from = answer rows from (λ c. c.seen) (constant_along rows class name)
