-- What is wrong with the use of traits, each kind at a token, and which fault of a script is answered.
use Rattle.std.specs.Prelude.{◌≡◌, ℕ, suc, Bool, true, false, Option, Some, None, List, [], ◌∷◌, ◌++◌, ◌≤◌, ◌<◌, map, length}
use Rattle.php_ast.specs.declared.spot.Spot.{Spot}
use Rattle.php_ast.specs.declared.declaration.Visibility.{Visibility}
use Rattle.php_ast.specs.expression.Tree as tree
use Rattle.php_ast.specs.expression.Tree.{Tree}
use Rattle.php_ast.specs.expression.View.{Note}
use Rattle.php_ast.specs.expression.Placed.{form_of}
use Rattle.php_ast.specs.statement.Tree.{Name, Sequence}
use Rattle.php_ast.specs.declaration.Tree.{Rule, renames, prefers}
use Rattle.php_trait.specs.Declared.{Text, elements, any, same_name, member_text, member_spot, name_spot, Declared, is_trait, trait_named, declarations}
use Rattle.php_trait.specs.Members.{Held, Property, Through, own_methods, own_properties, names_method, used, rules_of, methods, gained, gained_properties}

-- a thing that stands in a list
pub data In {A : Type 0} (x : A) : List A → Type 0 where
  here : (xs : List A) → In x (x ∷ xs)
  later : (y : A) (xs : List A) → In x xs → In x (y ∷ xs)

-- two things of a list, the one before the other
pub data Before {A : Type 0} (x y : A) : List A → Type 0 where
  first : (xs : List A) → In y xs → Before x y (x ∷ xs)
  later_both : (z : A) (xs : List A) → Before x y xs → Before x y (z ∷ xs)

-- ---- a used name is no trait, or traits use each other in a circle

-- the trait of the first name uses that of the second, itself or through others, or is that one
pub data Uses (ds : List Declared) (last : Text) : Text → Type 0 where
  is_it : (name : Text) → same_name name last ≡ true → Uses ds last name
  goes_on : (name : Text) (t : Declared) (n : Name Note) → trait_named ds name ≡ Some t → In n (used t) → Uses ds last n.text → Uses ds last name

pub data IsNotATrait (ds : List Declared) (d : Declared) (at : Spot) : Type 0 where
  unknown : (n : Name Note) → In n (used d) → trait_named ds n.text ≡ None → name_spot n ≡ at → IsNotATrait ds d at
  in_a_circle : (n : Name Note) → is_trait d ≡ true → In n (used d) → Uses ds d.name.text n.text → name_spot n ≡ at → IsNotATrait ds d at

-- ---- a rule names no method of the used traits

abbrev pub uses_name : Declared → Text → Bool
uses_name d name = any (λ n. same_name n.text name) (used d)

abbrev pub trait_has : List Declared → Text → Text → Bool
trait_has ds trait name = of_trait (trait_named ds trait)
  where
    of_trait : Option Declared → Bool
    of_trait None = false
    of_trait (Some t) = names_method (methods (length ds) ds t) name

abbrev pub some_trait_has : List Declared → Declared → Text → Bool
some_trait_has ds d name = any (λ n. trait_has ds n.text name) (used d)

pub data NamesNone (ds : List Declared) (d : Declared) (at : Spot) : Rule Note → Type 0 where
  -- the trait before `::` isn't used
  as_of_another : (note : Note) (n : Name Note) (w : tree.Member Note) (seen : Option Visibility) (alias : Option (tree.Member Note))
      → uses_name d n.text ≡ false → name_spot n ≡ at → NamesNone ds d at (renames note (Some n) w seen alias)
  -- it has no such method
  as_of_none : (note : Note) (n : Name Note) (w : tree.Member Note) (seen : Option Visibility) (alias : Option (tree.Member Note))
      → uses_name d n.text ≡ true → trait_has ds n.text (member_text w) ≡ false → member_spot w ≡ at → NamesNone ds d at (renames note (Some n) w seen alias)
  -- none of the used traits has it
  as_alone : (note : Note) (w : tree.Member Note) (seen : Option Visibility) (alias : Option (tree.Member Note))
      → some_trait_has ds d (member_text w) ≡ false → member_spot w ≡ at → NamesNone ds d at (renames note None w seen alias)
  prefers_another : (note : Note) (n : Name Note) (w : tree.Member Note) (others : Sequence (Name Note))
      → uses_name d n.text ≡ false → name_spot n ≡ at → NamesNone ds d at (prefers note n w others)
  prefers_none : (note : Note) (n : Name Note) (w : tree.Member Note) (others : Sequence (Name Note))
      → uses_name d n.text ≡ true → trait_has ds n.text (member_text w) ≡ false → member_spot w ≡ at → NamesNone ds d at (prefers note n w others)
  -- a trait behind `insteadof` isn't used; it need not have the method
  leaves_another : (note : Note) (n : Name Note) (w : tree.Member Note) (others : Sequence (Name Note)) (o : Name Note)
      → In o (elements others) → uses_name d o.text ≡ false → name_spot o ≡ at → NamesNone ds d at (prefers note n w others)

pub record IsNoSuchMember (ds : List Declared) (d : Declared) (at : Spot) : Type 0 where
  pub rule : Rule Note
  pub is_there : In rule (rules_of d)
  pub names : NamesNone ds d at rule

-- ---- two methods of one name, or properties that differ

-- `null`
abbrev pub null_name : Text
null_name = 110 ∷ 117 ∷ 108 ∷ 108 ∷ []

-- What the value of a property is without one: the constant `null`, which may be written in any letter case.
abbrev pub is_null : Tree Note → Bool
is_null (tree.leaf note (tree.name text)) = same_name text null_name
is_null _ = false

abbrev pub form_unless : Bool → Tree Note → Tree (Unit {0})
form_unless true e = tree.leaf tt (tree.name null_name)
form_unless false e = form_of e

abbrev pub default_form : Option (Tree Note) → Tree (Unit {0})
default_form None = tree.leaf tt (tree.name null_name)
default_form (Some e) = form_unless (is_null e) e

-- the name of a member that is spelled as a keyword
abbrev pub keyword_name : tree.Member Note → List Text
keyword_name (tree.reserved note word) = note.text ∷ []
keyword_name _ = []

-- The names of members that are spelled as keywords count in their letter case, and a form keeps their keyword alone: so
-- they are compared apart, in order. Of a constant expression these are all.
abbrev mutual
  pub keyword_names : Tree Note → List Text
  keyword_names (tree.enclosed note by e) = keyword_names e
  keyword_names (tree.listed note form items) = keyword_names_in items
  keyword_names (tree.selected e arrow member) = keyword_names e ++ keyword_name member
  keyword_names (tree.prefix note op e) = keyword_names e
  keyword_names (tree.binary op l r) = keyword_names l ++ keyword_names r
  keyword_names (tree.instance_of l r) = keyword_names l ++ keyword_names r
  keyword_names (tree.choice c a b) = keyword_names c ++ keyword_names a ++ keyword_names b
  keyword_names (tree.short_choice c b) = keyword_names c ++ keyword_names b
  keyword_names _ = []

  pub keyword_names_in : tree.Items Note → List Text
  keyword_names_in tree.none = []
  keyword_names_in (tree.and items lead e) = keyword_names_in items ++ keyword_names_before lead ++ keyword_names e
  keyword_names_in (tree.skip items) = keyword_names_in items

  pub keyword_names_before : tree.Lead Note → List Text
  keyword_names_before (tree.keyed k) = keyword_names k
  keyword_names_before (tree.keyed_reference k) = keyword_names k
  keyword_names_before _ = []

abbrev pub default_names : Option (Tree Note) → List Text
default_names None = []
default_names (Some e) = keyword_names e

-- Properties are equal that are seen and static alike and have equal default trees.
pub record AreEqual (p q : Property) : Type 0 where
  pub seen : p.seen ≡ q.seen
  pub static : p.is_static ≡ q.is_static
  pub value : default_form p.variable.value ≡ default_form q.variable.value
  pub names : default_names p.variable.value ≡ default_names q.variable.value

pub data IsConflict (ds : List Declared) (d : Declared) (at : Spot) : Type 0 where
  -- two methods come under one name, and the declaration has none of its own
  two_methods : (a b : Through Held) → Before a b (gained (length ds) ds d) → same_name a.what.name b.what.name ≡ true
      → names_method (own_methods d) a.what.name ≡ false → name_spot b.used ≡ at → IsConflict ds d at
  -- a property that comes is unequal to an own one
  own_property : (p : Property) (q : Through Property) → In p (own_properties d) → In q (gained_properties (length ds) ds d)
      → p.variable.name.text ≡ q.what.variable.name.text → (AreEqual p q.what → ⊥) → name_spot q.used ≡ at → IsConflict ds d at
  two_properties : (p q : Through Property) → Before p q (gained_properties (length ds) ds d)
      → p.what.variable.name.text ≡ q.what.variable.name.text → (AreEqual p.what q.what → ⊥) → name_spot q.used ≡ at → IsConflict ds d at

-- ---- the fault that is answered

pub data Fault : Type 0 where
  not_a_trait : Fault
  no_such_member : Fault
  conflict : Fault

abbrev pub HasFault : List Declared → Declared → Fault → Spot → Type 0
HasFault ds d not_a_trait at = IsNotATrait ds d at
HasFault ds d no_such_member at = IsNoSuchMember ds d at
HasFault ds d conflict at = IsConflict ds d at

-- A used name that is no trait goes before all else, in whatever declaration it stands.
abbrev pub NoneUnknown : List Declared → Type 0
NoneUnknown ds = (d : Declared) (at : Spot) → In d ds → IsNotATrait ds d at → ⊥

abbrev pub HasNone : List Declared → Fault → List Declared → Type 0
HasNone ds fault before = (d : Declared) (at : Spot) → In d before → HasFault ds d fault at → ⊥

-- Of the other faults the first declaration with one decides; in it a rule that names nothing goes first; and of one kind
-- the least place is answered.
pub data IsFirstFault (ds : List Declared) : Fault → Spot → Type 0 where
  unknown_first : (d : Declared) (at : Spot) → In d ds → IsNotATrait ds d at
      → ((e : Declared) (other : Spot) → In e ds → IsNotATrait ds e other → at.place ≤ other.place) → IsFirstFault ds not_a_trait at
  then_rules : (before behind : List Declared) (d : Declared) (at : Spot) → before ++ (d ∷ behind) ≡ ds → NoneUnknown ds
      → HasNone ds no_such_member before → HasNone ds conflict before → IsNoSuchMember ds d at
      → ((other : Spot) → IsNoSuchMember ds d other → at.place ≤ other.place) → IsFirstFault ds no_such_member at
  then_conflicts : (before behind : List Declared) (d : Declared) (at : Spot) → before ++ (d ∷ behind) ≡ ds → NoneUnknown ds
      → HasNone ds no_such_member (before ++ (d ∷ [])) → HasNone ds conflict before → IsConflict ds d at
      → ((other : Spot) → IsConflict ds d other → at.place ≤ other.place) → IsFirstFault ds conflict at
