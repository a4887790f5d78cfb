-- Small scripts, what their classes have and what is wrong with their traits. Each stands without notes, and its notes are
-- those of its spelling, all of line 1.
use Rattle.std.proofs.Common.{◌≡◌, ℕ, zero, suc, Bool, true, false, Option, Some, None, List, [], ◌∷◌, map, length, refl, pos}
use Rattle.php_ast.specs.declared.spot.Spot.{Spot}
use Rattle.php_ast.specs.declared.declaration.Visibility.{Visibility}
use Rattle.php_ast.specs.declared.declaration.Visibility.TheVariants.{Public, Protected, Private}
use Rattle.php_ast.specs.declared.declaration.ModifierWord.{ModifierWord}
use Rattle.php_ast.specs.declared.declaration.ModifierWord.TheVariants as word
use Rattle.php_ast.specs.expression.Tree as tree
use Rattle.php_ast.specs.expression.Tree.{Tree}
use Rattle.php_ast.specs.expression.View.{Note}
use Rattle.php_ast.specs.expression.Placed.{Notes}
use Rattle.php_ast.specs.statement.Tree.{Sequence, empty, then_also, Name, Variable, no_statement}
use Rattle.php_ast.specs.declaration.Tree.{Method, Member, uses, uses_by, method, properties, Rule, renames, prefers, Item, of_class, of_trait, Script}
use Rattle.php_ast.specs.declaration.Placed.{noted_script}
use Rattle.php_trait.specs.Declared.{Text, Declared, declarations, trait_named}
use Rattle.php_trait.specs.Members.{Held, Property, Through, flat, gained, gained_properties, own_methods, all_properties}
use Rattle.php_trait.specs.Faults.{default_form, In, here, later, Before, first, later_both, Uses, is_it, goes_on, IsNotATrait, unknown, in_a_circle, NamesNone, as_of_another, as_of_none, as_alone, prefers_another, prefers_none, leaves_another, IsNoSuchMember, IsConflict, two_methods, own_property, two_properties}

-- ---- small trees

abbrev Nothing : Type 0
Nothing = Unit {0}

-- names of one letter
abbrev n : ℕ → Name Nothing
n letter = record { note = tt; text = letter ∷ [] }

abbrev w : ℕ → tree.Member Nothing
w letter = tree.named tt (letter ∷ [])

abbrev listed_from : {A : Type 0} → Sequence A → List A → Sequence A
listed_from before [] = before
listed_from before (x ∷ xs) = listed_from (then_also before x) xs

abbrev these : {A : Type 0} → List A → Sequence A
these xs = listed_from empty xs

-- `function f(){}`, behind words
abbrev f_with : List ModifierWord → ℕ → Member Nothing
f_with words letter = method (record {
  modifiers = these (map (λ m. record { note = tt; word = m }) words);
  note = tt;
  is_reference = false;
  name = w letter;
  signature = record { params = empty; result = None };
  body = Some no_statement;
})

abbrev f : ℕ → Member Nothing
f letter = f_with [] letter

-- `public $a;`, and `public $a=1;`
abbrev prop : List ModifierWord → ℕ → Option (Tree Nothing) → Member Nothing
prop words letter value = properties (these (map (λ m. record { note = tt; word = m }) words))
    (these (record { name = n letter; value = value } ∷ []))

abbrev trait_of : ℕ → List (Member Nothing) → Item Nothing
trait_of letter members = of_trait (record { note = tt; name = n letter; members = these members })

abbrev class_of : ℕ → List (Member Nothing) → Item Nothing
class_of letter members = of_class (record { modifiers = empty; note = tt; name = n letter; parent = None; interfaces = empty; members = these members })

abbrev placed : Notes Note
placed = record { token = λ at. record { place = at; line = 1; text = [] }; keyword = λ at. record { place = at; line = 1; text = [] } }

abbrev script : List (Item Nothing) → List Declared
script items = declarations (noted_script placed (these items))

-- what is seen of a method: the name, the trait or class that declares it, and from where it is seen
abbrev Shown : Type 0
Shown = Text × (Text × Visibility)

abbrev shown : Held → Shown
shown h = (h.name, (h.owner.text, h.seen))

abbrev methods_at : List Declared → List Declared → ℕ → List Shown
methods_at ds [] place = []
methods_at ds (d ∷ more) zero = map shown (flat ds d).methods
methods_at ds (d ∷ more) (suc place) = methods_at ds more place

-- the methods of the declaration at a place of the script
abbrev methods_of : List Declared → ℕ → List Shown
methods_of ds place = methods_at ds ds place

abbrev seen : ℕ → ℕ → Visibility → Shown
seen letter owner by = (letter ∷ [], (owner ∷ [], by))

-- ---- methods

-- `trait T{function f(){}} trait U{function f(){}} class C{use T,U{T::f insteadof U;U::f as g;}}`
preferred : List Declared
preferred = script (trait_of 84 (f 102 ∷ []) ∷ trait_of 85 (f 102 ∷ [])
    ∷ class_of 67 (uses_by tt (these (n 84 ∷ n 85 ∷ [])) (these (prefers tt (n 84) (w 102) (these (n 85 ∷ [])) ∷ renames tt (Some (n 85)) (w 102) None (Some (w 103)) ∷ [])) ∷ []) ∷ [])

preferred_methods : methods_of preferred 2 ≡ seen 102 84 Public ∷ seen 103 85 Public ∷ []
unfolding preferred
preferred_methods = refl

-- `trait T{private function f(){}} class C{use T{f as protected;f as public G;}}`
opened : List Declared
opened = script (trait_of 84 (f_with (word.Private ∷ []) 102 ∷ [])
    ∷ class_of 67 (uses_by tt (these (n 84 ∷ [])) (these (renames tt None (w 102) (Some Protected) None ∷ renames tt None (w 102) (Some Public) (Some (w 71)) ∷ [])) ∷ []) ∷ [])

opened_methods : methods_of opened 1 ≡ seen 102 84 Protected ∷ seen 71 84 Public ∷ []
unfolding opened
opened_methods = refl

-- `class C{use T;function F(){}} trait T{function f(){} use V;} trait V{static function v(){} function f(){}}`: an own method
-- hides a trait's in any letter case, a trait's own that of a trait that it uses.
hidden : List Declared
hidden = script (class_of 67 (uses tt (these (n 84 ∷ [])) ∷ f 70 ∷ []) ∷ trait_of 84 (f 102 ∷ uses tt (these (n 86 ∷ [])) ∷ [])
    ∷ trait_of 86 (f_with (word.Static ∷ []) 118 ∷ f 102 ∷ []) ∷ [])

hidden_methods : methods_of hidden 0 ≡ seen 70 67 Public ∷ seen 118 86 Public ∷ []
unfolding hidden
hidden_methods = refl

hidden_in_trait : methods_of hidden 1 ≡ seen 102 84 Public ∷ seen 118 86 Public ∷ []
unfolding hidden
hidden_in_trait = refl

-- `f as g` without a trait takes the method of each trait that doesn't give way:
-- `class C{use T,U{T::f insteadof U;f as g;}}`
once_more : List Declared
once_more = script (trait_of 84 (f 102 ∷ []) ∷ trait_of 85 (f 102 ∷ [])
    ∷ class_of 67 (uses_by tt (these (n 84 ∷ n 85 ∷ [])) (these (prefers tt (n 84) (w 102) (these (n 85 ∷ [])) ∷ renames tt None (w 102) None (Some (w 103)) ∷ [])) ∷ []) ∷ [])

once_more_methods : methods_of once_more 2 ≡ seen 102 84 Public ∷ seen 103 84 Public ∷ []
unfolding once_more
once_more_methods = refl

-- ---- faults

abbrev on : ℕ → Spot
on place = record { place = place; line = 1 }

abbrev nth : List Declared → ℕ → Option Declared
nth [] place = None
nth (d ∷ ds) zero = Some d
nth (d ∷ ds) (suc place) = nth ds place

-- the fault of the declaration at a place of the script
abbrev OfNth : List Declared → ℕ → (Declared → Type 0) → Type 0
OfNth ds place P = given (nth ds place)
  where
    given : Option Declared → Type 0
    given None = ⊥
    given (Some d) = P d

-- `trait T{function f(){}} trait U{function f(){}} class C{use T,U;}`: the name of the later trait, token 26
both : List Declared
both = script (trait_of 84 (f 102 ∷ []) ∷ trait_of 85 (f 102 ∷ []) ∷ class_of 67 (uses tt (these (n 84 ∷ n 85 ∷ [])) ∷ []) ∷ [])

both_conflict : OfNth both 2 (λ d. IsConflict both d (on 26))
unfolding both
both_conflict = two_methods _ _ (first _ (here _)) refl refl refl

-- with a method of its own there is none: `.. class C{use T,U;function f(){}}`
hides : List Declared
hides = script (trait_of 84 (f 102 ∷ []) ∷ trait_of 85 (f 102 ∷ []) ∷ class_of 67 (uses tt (these (n 84 ∷ n 85 ∷ [])) ∷ f 102 ∷ []) ∷ [])

hides_methods : methods_of hides 2 ≡ seen 102 67 Public ∷ []
unfolding hides
hides_methods = refl

hides_none : (place : Spot) → OfNth hides 2 (λ d. IsConflict hides d place) → ⊥
unfolding hides
hides_none place (two_methods a b (first xs is) same own at) = cc
hides_none place (two_methods a b (later_both _ _ (first ys is)) same own at) = elim is [ ]
hides_none place (two_methods a b (later_both _ _ (later_both _ _ none)) same own at) = elim none [ ]
hides_none place (own_property p q own behind same differ at) = elim own [ ]
hides_none place (two_properties p q pair same differ at) = elim pair [ ]

-- one trait through two: `trait V{function f(){}} trait T{use V;} trait U{use V;} class C{use T,U;}`
twice : List Declared
twice = script (trait_of 86 (f 102 ∷ []) ∷ trait_of 84 (uses tt (these (n 86 ∷ [])) ∷ []) ∷ trait_of 85 (uses tt (these (n 86 ∷ [])) ∷ [])
    ∷ class_of 67 (uses tt (these (n 84 ∷ n 85 ∷ [])) ∷ []) ∷ [])

twice_conflict : OfNth twice 3 (λ d. IsConflict twice d (on 30))
unfolding twice
twice_conflict = two_methods _ _ (first _ (here _)) refl refl refl

-- two methods of one name through one trait: `trait T{function f(){} function h(){}} class C{use T{f as h;}}`
through_one : List Declared
through_one = script (trait_of 84 (f 102 ∷ f 104 ∷ []) ∷ class_of 67 (uses_by tt (these (n 84 ∷ [])) (these (renames tt None (w 102) None (Some (w 104)) ∷ [])) ∷ []) ∷ [])

through_one_conflict : OfNth through_one 1 (λ d. IsConflict through_one d (on 20))
unfolding through_one
through_one_conflict = two_methods _ _ (later_both _ _ (first _ (here _))) refl refl refl

-- `class C{use X;}`
missing : List Declared
missing = script (class_of 67 (uses tt (these (n 88 ∷ [])) ∷ []) ∷ [])

missing_fault : OfNth missing 0 (λ d. IsNotATrait missing d (on 4))
unfolding missing
missing_fault = unknown _ (here _) refl refl

-- a class is no trait: `class X{} class C{use X;}`
no_trait : List Declared
no_trait = script (class_of 88 [] ∷ class_of 67 (uses tt (these (n 88 ∷ [])) ∷ []) ∷ [])

no_trait_fault : OfNth no_trait 1 (λ d. IsNotATrait no_trait d (on 8))
unfolding no_trait
no_trait_fault = unknown _ (here _) refl refl

-- `trait T{use U;} trait U{use T;} class C{use T;}`: both traits use themselves on the way, and the class is in no circle
circle : List Declared
circle = script (trait_of 84 (uses tt (these (n 85 ∷ [])) ∷ []) ∷ trait_of 85 (uses tt (these (n 84 ∷ [])) ∷ []) ∷ class_of 67 (uses tt (these (n 84 ∷ [])) ∷ []) ∷ [])

circle_fault : OfNth circle 0 (λ d. IsNotATrait circle d (on 4))
unfolding circle
circle_fault = in_a_circle _ refl (here _) (goes_on _ _ _ refl (here _) (is_it _ refl)) refl

circle_spares_class : (place : Spot) → OfNth circle 2 (λ d. IsNotATrait circle d place) → ⊥
unfolding circle
circle_spares_class place (unknown m (here xs) none at) = cc
circle_spares_class place (unknown m (later _ _ other) none at) = elim other [ ]
circle_spares_class place (in_a_circle m is there leads at) = cc

-- `trait T{} class C{use T{f as g;U::f as g;T::f insteadof U;}}`
unnamed : List Declared
unnamed = script (trait_of 84 [] ∷ class_of 67 (uses_by tt (these (n 84 ∷ [])) (these (renames tt None (w 102) None (Some (w 103))
    ∷ renames tt (Some (n 85)) (w 102) None (Some (w 103)) ∷ prefers tt (n 84) (w 102) (these (n 85 ∷ [])) ∷ [])) ∷ []) ∷ [])

unnamed_alone : OfNth unnamed 1 (λ d. IsNoSuchMember unnamed d (on 10))
unfolding unnamed
unnamed_alone = record { rule = _; is_there = here _; names = as_alone _ _ _ _ refl refl }

unnamed_of_another : OfNth unnamed 1 (λ d. IsNoSuchMember unnamed d (on 14))
unfolding unnamed
unnamed_of_another = record { rule = _; is_there = later _ _ (here _); names = as_of_another _ _ _ _ _ refl refl }

unnamed_preferred : OfNth unnamed 1 (λ d. IsNoSuchMember unnamed d (on 22))
unfolding unnamed
unnamed_preferred = record { rule = _; is_there = later _ _ (later _ _ (here _)); names = prefers_none _ _ _ _ refl refl refl }

unnamed_left : OfNth unnamed 1 (λ d. IsNoSuchMember unnamed d (on 24))
unfolding unnamed
unnamed_left = record { rule = _; is_there = later _ _ (later _ _ (here _)); names = leaves_another _ _ _ _ _ (here _) refl refl }

-- behind `insteadof` a trait need not have the method: `trait T{function f(){}} trait U{} class C{use T,U{T::f insteadof U;}}`
left_without : List Declared
left_without = script (trait_of 84 (f 102 ∷ []) ∷ trait_of 85 []
    ∷ class_of 67 (uses_by tt (these (n 84 ∷ n 85 ∷ [])) (these (prefers tt (n 84) (w 102) (these (n 85 ∷ [])) ∷ [])) ∷ []) ∷ [])

left_without_methods : methods_of left_without 2 ≡ seen 102 84 Public ∷ []
unfolding left_without
left_without_methods = refl

-- ---- properties

abbrev one : Option (Tree Nothing)
one = Some (tree.leaf tt (tree.int (pos 1)))

abbrev null : Option (Tree Nothing)
null = Some (tree.leaf tt (tree.name (110 ∷ 117 ∷ 108 ∷ 108 ∷ [])))

-- Without a value it is null: `trait T{public $a;} class C{use T;public $a=null;}`
equal_null : List Declared
equal_null = script (trait_of 84 (prop (word.Public ∷ []) 97 None ∷ []) ∷ class_of 67 (uses tt (these (n 84 ∷ [])) ∷ prop (word.Public ∷ []) 97 null ∷ []) ∷ [])

abbrev owners : List Property → List (Text × Text)
owners ps = map (λ p. (p.variable.name.text, p.owner.text)) ps

equal_null_one : OfNth equal_null 1 (λ d. owners (all_properties 2 equal_null d) ≡ (97 ∷ [], 67 ∷ []) ∷ [])
unfolding equal_null
equal_null_one = refl

equal_null_none : (place : Spot) → OfNth equal_null 1 (λ d. IsConflict equal_null d place) → ⊥
unfolding equal_null
equal_null_none place (two_methods a b pair same own at) = elim pair [ ]
equal_null_none place (own_property p q (here xs) (here ys) same differ at) = differ (record { seen = refl; static = refl; value = refl; names = refl })
equal_null_none place (own_property _ q (here _) (later _ _ more) same differ at) = elim more [ ]
equal_null_none place (own_property p q (later _ _ more) _ same differ at) = elim more [ ]
equal_null_none place (two_properties p q (later_both _ _ more) same differ at) = elim more [ ]
equal_null_none place (two_properties p q (first xs behind) same differ at) = elim behind [ ]

-- `trait T{public $a=1;} class C{use T;public $a;}`
other_value : List Declared
other_value = script (trait_of 84 (prop (word.Public ∷ []) 97 one ∷ []) ∷ class_of 67 (uses tt (these (n 84 ∷ [])) ∷ prop (word.Public ∷ []) 97 None ∷ []) ∷ [])

null_is_not_one : default_form None ≡ default_form (Some (tree.leaf (placed.token 0) (tree.int (pos 1)))) → ⊥
null_is_not_one is = cc

other_value_conflict : OfNth other_value 1 (λ d. IsConflict other_value d (on 13))
unfolding other_value
other_value_conflict = own_property _ _ (here _) (here _) refl (λ same. null_is_not_one same.value) refl

-- names of properties count in their letter case: `trait T{public $A=1;} class C{use T;public $a;}`
other_case : List Declared
other_case = script (trait_of 84 (prop (word.Public ∷ []) 65 one ∷ []) ∷ class_of 67 (uses tt (these (n 84 ∷ [])) ∷ prop (word.Public ∷ []) 97 None ∷ []) ∷ [])

other_case_both : OfNth other_case 1 (λ d. owners (all_properties 2 other_case d) ≡ (97 ∷ [], 67 ∷ []) ∷ (65 ∷ [], 84 ∷ []) ∷ [])
unfolding other_case
other_case_both = refl

-- `NULL` is null as well: `trait T{public $a;} class C{use T;public $a=NULL;}`
capitals : List Declared
capitals = script (trait_of 84 (prop (word.Public ∷ []) 97 None ∷ []) ∷ class_of 67 (uses tt (these (n 84 ∷ []))
    ∷ prop (word.Public ∷ []) 97 (Some (tree.leaf tt (tree.name (78 ∷ 85 ∷ 76 ∷ 76 ∷ [])))) ∷ []) ∷ [])

capitals_none : (place : Spot) → OfNth capitals 1 (λ d. IsConflict capitals d place) → ⊥
unfolding capitals
capitals_none place (two_methods a b pair same own at) = elim pair [ ]
capitals_none place (own_property p q (here xs) (here ys) same differ at) = differ (record { seen = refl; static = refl; value = refl; names = refl })
capitals_none place (own_property _ q (here _) (later _ _ more) same differ at) = elim more [ ]
capitals_none place (own_property p q (later _ _ more) _ same differ at) = elim more [ ]
capitals_none place (two_properties p q (later_both _ _ more) same differ at) = elim more [ ]
capitals_none place (two_properties p q (first xs behind) same differ at) = elim behind [ ]

-- `class C{use T;} trait T{use A,B;} trait A{function f(){}} trait B{function f(){}}`: the fault is of T, which joins the two
handed : List Declared
handed = script (class_of 67 (uses tt (these (n 84 ∷ [])) ∷ []) ∷ trait_of 84 (uses tt (these (n 65 ∷ n 66 ∷ [])) ∷ [])
    ∷ trait_of 65 (f 102 ∷ []) ∷ trait_of 66 (f 102 ∷ []) ∷ [])

handed_conflict : OfNth handed 1 (λ d. IsConflict handed d (on 13))
unfolding handed
handed_conflict = two_methods _ _ (first _ (here _)) refl refl refl

handed_methods : methods_of handed 0 ≡ seen 102 65 Public ∷ []
unfolding handed
handed_methods = refl
