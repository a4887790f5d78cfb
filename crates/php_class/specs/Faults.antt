-- What is wrong with the classes of a table, each kind at a token, and which fault is answered. A fault is one of a class that the
-- script declares: what is built in has no place in it.
use Rattle.std.specs.Prelude.{◌≡◌, ℕ, suc, zero, ◌≤◌, ◌<◌, ◌⊎◌, Bool, true, false, Option, Some, None, List, [], ◌∷◌, ◌++◌, cond, map, not, length, nat_eq, nat_lt, codes}
use Rattle.std.specs.Str.{bytes_eq}
use Rattle.php_ast.specs.declared.spot.Spot.{Spot}
use Rattle.php_ast.specs.declared.declaration.Visibility.{Visibility}
use Rattle.php_ast.specs.declared.declaration.Visibility.TheVariants.{Public, Protected, Private}
use Rattle.php_trait.specs.Declared.{Text, joined, kept, any, same_name, Kind, of_a_class, of_an_interface, of_a_trait}
use Rattle.php_trait.specs.Faults.{In}
use Rattle.php_class.specs.Rows.{TypeName, a_name, an_array, a_callable, TypeMark, ParamMark, SignatureMark, Row, Above, MethodRow, PropertyRow, ConstantRow, is_interface, built_in}
use Rattle.php_class.specs.Lookups.{number_of, row_at, is_class, first_of, numbers_of, parent, chain, named_interfaces, interfaces, ancestry, is_a, Found_at, declared_in, first_declared, or_else, method_along, is_private}

-- the row that a number stands for
abbrev pub IsRow : List Row → ℕ → Row → Type 0
IsRow rows number r = row_at rows number ≡ Some r

-- ---- a named parent or interface is unknown, or of the wrong kind

abbrev pub is_of_kind : (Kind → Bool) → List Row → Text → Bool
is_of_kind fits rows name = any (λ r. cond (same_name r.name name) (fits r.kind) false) rows

-- A class extends a class; all else that is named behind `extends` and `implements` is an interface.
abbrev pub fits_parent : Kind → Kind → Bool
fits_parent of_a_class kind = is_class kind
fits_parent of_an_interface kind = is_interface kind
fits_parent of_a_trait kind = false

pub data IsNoParent (rows : List Row) (r : Row) (at : Spot) : Type 0 where
  no_parent : (a : Above) → In a r.parents → is_of_kind (fits_parent r.kind) rows a.name ≡ false → a.spot ≡ Some at → IsNoParent rows r at
  no_interface : (a : Above) → In a r.interfaces → is_of_kind is_interface rows a.name ≡ false → a.spot ≡ Some at → IsNoParent rows r at

-- ---- a class or an interface is above itself

-- what is named behind `extends` leads from the first name to the second
pub data Leads (rows : List Row) (last : Text) : Text → Type 0 where
  is_it : (name : Text) → same_name name last ≡ true → Leads rows last name
  goes_on : (name : Text) (number : ℕ) (r : Row) (a : Above) → number_of rows name ≡ Some number → IsRow rows number r
      → In a r.parents → Leads rows last a.name → Leads rows last name

-- the first name behind `extends` that leads back
pub record IsCycle (rows : List Row) (r : Row) (at : Spot) : Type 0 where
  pub before : List Above
  pub name : Above
  pub behind : List Above
  pub whole : before ++ (name ∷ behind) ≡ r.parents
  pub leads : Leads rows r.name name.name
  pub first : (a : Above) → In a before → Leads rows r.name a.name → ⊥
  pub place : name.spot ≡ Some at

-- ---- what stands above

-- all that stands above a class, without the class
abbrev pub above_classes : List Row → ℕ → List ℕ
above_classes rows number = kept (λ up. not (nat_eq up number)) (ancestry rows number)

-- ---- a final class is extended, or a final method is declared again

abbrev pub has_final : Bool → MethodRow → Text → Bool
has_final true m name = same_name m.name name
has_final false m name = false

-- Private methods count here too.
pub data IsFinalBroken (rows : List Row) (number : ℕ) (r : Row) (at : Spot) : Type 0 where
  final_class : (a : Above) (up : ℕ) (above : Row) → In a r.parents → number_of rows a.name ≡ Some up → IsRow rows up above
      → above.is_final ≡ true → a.spot ≡ Some at → IsFinalBroken rows number r at
  final_method : (m : MethodRow) (up : ℕ) (above : Row) (other : MethodRow) → In m r.methods → In up (above_classes rows number)
      → IsRow rows up above → In other above.methods → has_final other.is_final other m.name ≡ true → m.spot ≡ Some at → IsFinalBroken rows number r at

-- ---- a member doesn't fit what it stands against

abbrev pub rank : Visibility → ℕ
rank Private = 0
rank Protected = 1
rank Public = 2

-- A member stands against the one that its class would have from its parent without it, and against each one of an interface.
pub data Against {A : Type 0} (members : Row → List A) (fits : A → Bool) (rows : List Row) (number : ℕ) : A → Type 0 where
  of_parents : (found : Found_at A) → first_declared members fits rows (kept (λ up. not (nat_eq up number)) (chain rows number)) ≡ Some found
      → Against members fits rows number found.what
  of_interface : (up : ℕ) (interface : Row) (x : A) → In up (joined (interfaces rows) (chain rows number)) → IsRow rows up interface
      → In x (members interface) → fits x ≡ true → Against members fits rows number x

pub record Narrows (seen before : Visibility) : Type 0 where
  pub narrower : rank seen < rank before

pub data Clashes (seen before : Visibility) (is_static was_static : Bool) : Type 0 where
  narrower : Narrows seen before → Clashes seen before is_static was_static
  otherwise_static : (is_static ≡ was_static → ⊥) → Clashes seen before is_static was_static

-- ---- signatures

abbrev pub same_type_name : TypeName → TypeName → Bool
same_type_name (a_name x) (a_name y) = same_name x y
same_type_name (a_name x) an_array = false
same_type_name (a_name x) a_callable = false
same_type_name an_array (a_name y) = false
same_type_name an_array an_array = true
same_type_name an_array a_callable = false
same_type_name a_callable (a_name y) = false
same_type_name a_callable an_array = false
same_type_name a_callable a_callable = true

abbrev pub same_bool : Bool → Bool → Bool
same_bool true b = b
same_bool false b = not b

abbrev pub same_type : Option TypeMark → Option TypeMark → Bool
same_type None None = true
same_type None (Some t) = false
same_type (Some s) None = false
same_type (Some s) (Some t) = cond (same_bool s.is_nullable t.is_nullable) (same_type_name s.base t.base) false

-- how many arguments a call has to give: as many as reach the last parameter that can't be left out
abbrev pub required_from : ℕ → ℕ → List ParamMark → ℕ
required_from count last [] = last
required_from count last (p ∷ ps) = required_from (suc count) (cond p.is_required (suc count) last) ps

abbrev pub required : List ParamMark → ℕ
required ps = required_from 0 0 ps

-- whether the parameters that both have agree in their marks and types
abbrev pub agree : List ParamMark → List ParamMark → Bool
agree [] qs = true
agree (p ∷ ps) [] = true
agree (p ∷ ps) (q ∷ qs) = cond (cond (same_bool p.is_reference q.is_reference) (same_type p.declared q.declared) false) (agree ps qs) false

-- A result's type may be added, and not changed or left out.
abbrev pub result_fits : Option TypeMark → Option TypeMark → Bool
result_fits given None = true
result_fits given (Some wanted) = same_type given (Some wanted)

pub data IsUnfit (s wanted : SignatureMark) : Type 0 where
  more_required : required wanted.params < required s.params → IsUnfit s wanted
  fewer_params : length s.params < length wanted.params → IsUnfit s wanted
  other_marks : agree s.params wanted.params ≡ false → IsUnfit s wanted
  other_reference : same_bool s.is_reference wanted.is_reference ≡ false → IsUnfit s wanted
  other_result : result_fits s.result wanted.result ≡ false → IsUnfit s wanted

-- ---- what a class has for a name

abbrev pub seen_below : Row → List MethodRow
seen_below r = kept (λ m. not (is_private m.seen)) r.methods

abbrev pub own_method : List Row → ℕ → Text → Option (Found_at MethodRow)
own_method rows number name = declared_in (λ r. r.methods) (λ m. same_name m.name name) rows number

-- the method of a class above, where it isn't private there
abbrev pub from_above : List Row → ℕ → Text → Option (Found_at MethodRow)
from_above rows number name = first_declared seen_below (λ m. same_name m.name name) rows (kept (λ up. not (nat_eq up number)) (chain rows number))

-- the method that carries a name out: the class's own, or else one of a class above
abbrev pub carried_out : List Row → ℕ → Text → Option (Found_at MethodRow)
carried_out rows number name = or_else (own_method rows number name) (from_above rows number name)

-- ---- bad overriding

abbrev pub is_throwable : Text → Bool
is_throwable name = cond (same_name name (codes "Throwable")) true (same_name name (codes "Traversable"))

-- whether something built in stands above a class, apart from the one of this number, that is one of its kind
abbrev pub built_in_has : List Row → ℕ → ℕ → Bool
built_in_has rows wanted number =
    any (λ up. cond (cond (nat_lt up (length built_in)) (not (nat_eq up wanted)) false) (is_a rows up wanted) false) (above_classes rows number)

pub data IsBadOverride (rows : List Row) (number : ℕ) (r : Row) (at : Spot) : Type 0 where
  method : (m other : MethodRow) → In m r.methods → Against (λ x. x.methods) (λ x. same_name x.name m.name) rows number other
      → is_private other.seen ≡ false → Clashes m.seen other.seen m.is_static other.is_static → m.spot ≡ Some at → IsBadOverride rows number r at
  property : (p other : PropertyRow) → In p r.properties → Against (λ x. x.properties) (λ x. bytes_eq x.name p.name) rows number other
      → is_private other.seen ≡ false → Clashes p.seen other.seen p.is_static other.is_static → p.spot ≡ Some at → IsBadOverride rows number r at
  constant : (c other : ConstantRow) → In c r.constants → Against (λ x. x.constants) (λ x. bytes_eq x.name c.name) rows number other
      → is_private other.seen ≡ false → Narrows c.seen other.seen → c.spot ≡ at → IsBadOverride rows number r at
  -- each abstract method of the name above counts, also behind one that carries it out
  signature : (m : MethodRow) (up : ℕ) (above : Row) (other : MethodRow) → In m r.methods → In up (above_classes rows number) → IsRow rows up above
      → In other above.methods → same_name other.name m.name ≡ true → other.is_abstract ≡ true → is_private other.seen ≡ false
      → IsUnfit m.signature other.signature → m.spot ≡ Some at → IsBadOverride rows number r at
  -- An inherited method stands against those of the interfaces that come with this class, and the class's name is the place.
  inherited : (found : Found_at MethodRow) (up : ℕ) (interface : Row) (other : MethodRow) → own_method rows number other.name ≡ None
      → from_above rows number other.name ≡ Some found → In up (joined (interfaces rows) (chain rows number)) → (In up (joined (interfaces rows) (chain rows found.class)) → ⊥)
      → IsRow rows up interface → In other interface.methods
      → Clashes found.what.seen other.seen found.what.is_static other.is_static ⊎ IsUnfit found.what.signature other.signature → r.spot ≡ Some at
      → IsBadOverride rows number r at
  -- Throwable or Traversable is named, and nothing else that is built in and has it stands above
  built_in_alone : (a : Above) (wanted : ℕ) → In a (cond (is_class r.kind) r.interfaces r.parents) → is_throwable a.name ≡ true
      → number_of rows a.name ≡ Some wanted → built_in_has rows wanted number ≡ false → a.spot ≡ Some at → IsBadOverride rows number r at

-- ---- methods that are missing

pub record IsInterfaceMissing (rows : List Row) (number : ℕ) (r : Row) (at : Spot) : Type 0 where
  pub concrete : is_class r.kind ≡ true
  pub not_abstract : r.is_abstract ≡ false
  pub up : ℕ
  pub interface : Row
  pub above : In up (joined (interfaces rows) (chain rows number))
  pub row : IsRow rows up interface
  pub method : MethodRow
  pub asked : In method interface.methods
  pub missing : carried_out rows number method.name ≡ None
  pub place : r.spot ≡ Some at

pub record IsAbstractLeft (rows : List Row) (number : ℕ) (r : Row) (at : Spot) : Type 0 where
  pub concrete : is_class r.kind ≡ true
  pub not_abstract : r.is_abstract ≡ false
  pub name : Text
  pub found : Found_at MethodRow
  pub is_found : carried_out rows number name ≡ Some found
  pub left : found.what.is_abstract ≡ true
  pub place : r.spot ≡ Some at

-- ---- the fault that is answered

pub data Fault : Type 0 where
  no_parent : Fault
  cycle : Fault
  final_broken : Fault
  bad_override : Fault
  interface_missing : Fault
  abstract_left : Fault

abbrev pub HasFault : List Row → ℕ → Row → Fault → Spot → Type 0
HasFault rows number r no_parent at = IsNoParent rows r at
HasFault rows number r cycle at = IsCycle rows r at
HasFault rows number r final_broken at = IsFinalBroken rows number r at
HasFault rows number r bad_override at = IsBadOverride rows number r at
HasFault rows number r interface_missing at = IsInterfaceMissing rows number r at
HasFault rows number r abstract_left at = IsAbstractLeft rows number r at

-- the order of the kinds within a class
abbrev pub order : Fault → ℕ
order no_parent = 0
order cycle = 1
order final_broken = 2
order bad_override = 3
order interface_missing = 4
order abstract_left = 5

-- Of a kind that is asked of the whole script, no row has it.
abbrev pub NoneHas : List Row → Fault → Type 0
NoneHas rows fault = (number : ℕ) (r : Row) (at : Spot) → IsRow rows number r → HasFault rows number r fault at → ⊥

abbrev pub LeastPlace : List Row → Fault → Spot → Type 0
LeastPlace rows fault at = (number : ℕ) (r : Row) (other : Spot) → IsRow rows number r → HasFault rows number r fault other → at.place ≤ other.place

-- In a row, no kind that goes before this one, and of this one no lesser place.
abbrev pub FirstInRow : List Row → ℕ → Row → Fault → Spot → Type 0
FirstInRow rows number r fault at =
    ((other : Fault) (place : Spot) → order other < order fault → HasFault rows number r other place → ⊥)
    × ((place : Spot) → HasFault rows number r fault place → at.place ≤ place.place)

-- An unknown parent in any class goes first, then a class above itself in any class. Of the others the first class decides.
pub data IsFirstFault (rows : List Row) : Fault → Spot → Type 0 where
  parents_first : (number : ℕ) (r : Row) (at : Spot) → IsRow rows number r → IsNoParent rows r at → LeastPlace rows no_parent at → IsFirstFault rows no_parent at
  then_cycles : (number : ℕ) (r : Row) (at : Spot) → NoneHas rows no_parent → IsRow rows number r → IsCycle rows r at → LeastPlace rows cycle at
      → IsFirstFault rows cycle at
  then_by_class : (number : ℕ) (r : Row) (fault : Fault) (at : Spot) → NoneHas rows no_parent → NoneHas rows cycle → order cycle < order fault
      → IsRow rows number r → HasFault rows number r fault at → FirstInRow rows number r fault at
      → ((before : ℕ) (s : Row) (kind : Fault) (place : Spot) → before < number → IsRow rows before s → HasFault rows before s kind place → ⊥)
      → IsFirstFault rows fault at
