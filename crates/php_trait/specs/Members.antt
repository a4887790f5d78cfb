-- What a class, an interface or a trait has once the traits that it uses are flattened: its own members and behind them
-- those of its traits, by the rules of its `use`.
use Rattle.std.specs.Prelude.{◌≡◌, ℕ, suc, zero, Bool, true, false, Option, Some, None, List, [], ◌∷◌, ◌++◌, cond, map, not, length}
use Rattle.std.specs.Str.{bytes_eq}
use Rattle.php_ast.specs.declared.spot.Spot.{Spot}
use Rattle.php_ast.specs.declared.declaration.ModifierWord.{ModifierWord}
use Rattle.php_ast.specs.declared.declaration.ModifierWord.TheVariants as word
use Rattle.php_ast.specs.declared.declaration.Visibility.{Visibility}
use Rattle.php_ast.specs.declared.declaration.Visibility.TheVariants.{Public, Protected, Private}
use Rattle.php_ast.specs.expression.Tree.{Tree}
use Rattle.php_ast.specs.expression.View.{Note}
use Rattle.php_ast.specs.statement.Tree.{Name, Variable, Sequence}
use Rattle.php_ast.specs.declaration.Tree.{Modifier, ClassConstant, Method, Rule, renames, prefers, Member, uses, uses_by, class_constants, method, properties}
use Rattle.php_trait.specs.Declared.{Text, elements, joined, kept, any, same_name, member_text, member_spot, Declared, trait_named}

-- ---- marks

-- Without a word for it a member is public; `var` is public too.
abbrev pub seen_by_word : ModifierWord → Visibility → Visibility
seen_by_word word.Public rest = Public
seen_by_word word.Protected rest = Protected
seen_by_word word.Private rest = Private
seen_by_word word.Static rest = rest
seen_by_word word.Abstract rest = rest
seen_by_word word.Final rest = rest
seen_by_word word.Var rest = Public

abbrev pub seen_by : List (Modifier Note) → Visibility
seen_by [] = Public
seen_by (m ∷ ms) = seen_by_word m.word (seen_by ms)

abbrev pub is_static_word : ModifierWord → Bool
is_static_word word.Public = false
is_static_word word.Protected = false
is_static_word word.Private = false
is_static_word word.Static = true
is_static_word word.Abstract = false
is_static_word word.Final = false
is_static_word word.Var = false

abbrev pub has_static : List (Modifier Note) → Bool
has_static ms = any (λ m. is_static_word m.word) ms

-- ---- members

-- A method under a name that a class has for it. The owner is what declares it, and gives it `self`'s lines and its
-- static variables; the name is another than the method's own where a rule gives one.
pub record Held : Type 0 where
  pub owner : Name Note
  pub name : Text
  -- of the token that gives the name: in the method, or in the rule
  pub spot : Spot
  pub seen : Visibility
  pub method : Method Note

pub record Property : Type 0 where
  pub owner : Name Note
  pub seen : Visibility
  pub is_static : Bool
  pub variable : Variable Note

pub record Fixed : Type 0 where
  pub owner : Name Note
  pub seen : Visibility
  pub constant : ClassConstant Note

abbrev pub method_of : Name Note → Member Note → List Held
method_of owner (uses note names) = []
method_of owner (uses_by note names rules) = []
method_of owner (class_constants modifiers constants) = []
method_of owner (method m) = record { owner = owner; name = member_text m.name; spot = member_spot m.name; seen = seen_by (elements m.modifiers); method = m } ∷ []
method_of owner (properties modifiers variables) = []

abbrev pub properties_of : Name Note → Member Note → List Property
properties_of owner (uses note names) = []
properties_of owner (uses_by note names rules) = []
properties_of owner (class_constants modifiers constants) = []
properties_of owner (method m) = []
properties_of owner (properties modifiers variables) =
    map (λ v. record { owner = owner; seen = seen_by (elements modifiers); is_static = has_static (elements modifiers); variable = v })
    (elements variables)

abbrev pub constants_of : Name Note → Member Note → List Fixed
constants_of owner (uses note names) = []
constants_of owner (uses_by note names rules) = []
constants_of owner (class_constants modifiers constants) =
    map (λ c. record { owner = owner; seen = seen_by (elements modifiers); constant = c }) (elements constants)
constants_of owner (method m) = []
constants_of owner (properties modifiers variables) = []

abbrev pub own_methods : Declared → List Held
own_methods d = joined (method_of d.name) d.members

abbrev pub own_properties : Declared → List Property
own_properties d = joined (properties_of d.name) d.members

abbrev pub own_constants : Declared → List Fixed
own_constants d = joined (constants_of d.name) d.members

-- ---- what is used

abbrev pub used_by : Member Note → List (Name Note)
used_by (uses note names) = elements names
used_by (uses_by note names rules) = elements names
used_by (class_constants modifiers constants) = []
used_by (method m) = []
used_by (properties modifiers variables) = []

-- the names behind each `use`, in order
abbrev pub used : Declared → List (Name Note)
used d = joined used_by d.members

abbrev pub rules_by : Member Note → List (Rule Note)
rules_by (uses note names) = []
rules_by (uses_by note names rules) = elements rules
rules_by (class_constants modifiers constants) = []
rules_by (method m) = []
rules_by (properties modifiers variables) = []

abbrev pub rules_of : Declared → List (Rule Note)
rules_of d = joined rules_by d.members

-- ---- rules

-- whether a rule on methods of a name speaks of this trait; without a trait's name it speaks of all that are used
abbrev pub speaks_of : Option (Name Note) → Text → Bool
speaks_of None trait = true
speaks_of (Some n) trait = same_name n.text trait

-- whether another trait's method of the name is preferred to that of this trait
abbrev pub gives_way : List (Rule Note) → Text → Text → Bool
gives_way rules trait name = any leaves_out rules
  where
    leaves_out : Rule Note → Bool
    leaves_out (renames note origin w seen alias) = false
    leaves_out (prefers note origin w others) = cond (same_name (member_text w) name) (any (λ n. same_name n.text trait) (elements others)) false

-- The visibility that a method of a trait has under its own name: what the last rule on it without a new name says.
abbrev pub seen_under : List (Rule Note) → Text → Text → Visibility → Visibility
seen_under [] trait name seen = seen
seen_under (prefers note origin w others ∷ rules) trait name seen = seen_under rules trait name seen
seen_under (renames note origin w None alias ∷ rules) trait name seen = seen_under rules trait name seen
seen_under (renames note origin w (Some changed) (Some alias) ∷ rules) trait name seen = seen_under rules trait name seen
seen_under (renames note origin w (Some changed) None ∷ rules) trait name seen =
    cond (cond (speaks_of origin trait) (same_name (member_text w) name) false)
    (seen_under rules trait name changed) (seen_under rules trait name seen)

abbrev pub or_as_it_is : Option Visibility → Visibility → Visibility
or_as_it_is None seen = seen
or_as_it_is (Some changed) seen = changed

-- The further names of a method, in the order of the rules. A rule that names the trait gives one also to a method that
-- gives way to another; a rule without a trait only to one that doesn't.
abbrev pub further_names : List (Rule Note) → Text → Bool → Held → List Held
further_names rules trait yields h = joined under rules
  where
    gives : Option (Name Note) → Bool
    gives None = not yields
    gives (Some n) = same_name n.text trait

    under : Rule Note → List Held
    under (prefers note origin w others) = []
    under (renames note origin w seen None) = []
    under (renames note origin w seen (Some alias)) =
        cond (cond (gives origin) (same_name (member_text w) h.name) false)
        (record { owner = h.owner; name = member_text alias; spot = member_spot alias; seen = or_as_it_is seen h.seen; method = h.method } ∷ []) []

-- the names under which a method of a used trait comes
abbrev pub comes : List (Rule Note) → Text → Held → List Held
comes rules trait h = under (gives_way rules trait h.name)
  where
    under : Bool → List Held
    under true = further_names rules trait true h
    under false = record { owner = h.owner; name = h.name; spot = h.spot; seen = seen_under rules trait h.name h.seen; method = h.method }
        ∷ further_names rules trait false h

-- ---- what comes through traits

-- what came through a name behind `use`
pub record Through (A : Type 0) : Type 0 where
  pub used : Name Note
  pub what : A

abbrev pub through_one : {A : Type 0} → (Declared → List A) → Name Note → Option Declared → List (Through A)
through_one members n None = []
through_one members n (Some t) = map (λ x. record { used = n; what = x }) (members t)

-- what the traits of these names have
abbrev pub through_each : {A : Type 0} → (Declared → List A) → List Declared → List (Name Note) → List (Through A)
through_each members ds names = joined (λ n. through_one members n (trait_named ds n.text)) names

abbrev pub names_method : List Held → Text → Bool
names_method hs name = any (λ h. same_name h.name name) hs

abbrev pub names_property : List Property → Text → Bool
names_property ps name = any (λ p. bytes_eq p.variable.name.text name) ps

abbrev pub names_constant : List Fixed → Text → Bool
names_constant cs name = any (λ c. bytes_eq (member_text c.constant.name) name) cs

-- of each name the first
abbrev pub once : {A : Type 0} → (List A → A → Bool) → List A → List A → List A
once is_there before [] = before
once is_there before (x ∷ xs) = once is_there (cond (is_there before x) before (before ++ (x ∷ []))) xs

-- what stands behind the names, without them
abbrev pub what_came : {A : Type 0} → List (Through A) → List A
what_came = map (λ t. t.what)

-- The methods that come through traits, with all names under which they come, where a trait's own are given.
abbrev pub gained_of : (Declared → List Held) → List Declared → Declared → List (Through Held)
gained_of methods ds d = through_each (λ t. joined (comes (rules_of d) t.name.text) (methods t)) ds (used d)

-- Traits may use traits, to a depth that is less than their number where none uses itself on the way. A declaration has its
-- own methods first, which hide those of traits. Where two of its traits bring one name, the first is what it hands on: the
-- fault is of the declaration whose `use` joins them, and of none that uses it.
abbrev pub methods : ℕ → List Declared → Declared → List Held
methods zero ds d = own_methods d
methods (suc depth) ds d = once (λ hs h. names_method hs h.name) (own_methods d) (what_came (gained_of (methods depth ds) ds d))

abbrev pub gained : ℕ → List Declared → Declared → List (Through Held)
gained zero ds d = []
gained (suc depth) ds d = gained_of (methods depth ds) ds d

-- Equal properties are one: the own one, or else the first.
abbrev pub all_properties : ℕ → List Declared → Declared → List Property
all_properties zero ds d = own_properties d
all_properties (suc depth) ds d = once (λ ps p. names_property ps p.variable.name.text) (own_properties d)
    (what_came (through_each (all_properties depth ds) ds (used d)))

abbrev pub gained_properties : ℕ → List Declared → Declared → List (Through Property)
gained_properties zero ds d = []
gained_properties (suc depth) ds d = through_each (all_properties depth ds) ds (used d)

-- Of constants of one name the own one stands, or else the first.
abbrev pub all_constants : ℕ → List Declared → Declared → List Fixed
all_constants zero ds d = own_constants d
all_constants (suc depth) ds d = once (λ cs c. names_constant cs (member_text c.constant.name)) (own_constants d)
    (what_came (through_each (all_constants depth ds) ds (used d)))

-- ---- flat declarations

pub record Flat : Type 0 where
  pub declared : Declared
  pub methods : List Held
  pub properties : List Property
  pub constants : List Fixed

abbrev pub flat : List Declared → Declared → Flat
flat ds d = record {
  declared = d;
  methods = methods (length ds) ds d;
  properties = all_properties (length ds) ds d;
  constants = all_constants (length ds) ds d;
}
