-- What the functions of the parser answer.
use Rattle.std.specs.Prelude.{◌≡◌, ◌≢◌, ◌≤◌, ◌<◌, ◌^◌, ℕ, suc, ◌+◌, Bool, true, false, Option, Some, None, Result, Ok, Err, List, [], length}
use Rattle.php_token.specs.Token.{Token}
use Rattle.php_ast.specs.declared.declaration.ClassModifier.{ClassModifier}
use Rattle.php_ast.specs.declared.script.ScriptItem.{ScriptItem}
use Rattle.php_ast.specs.declared.spot.Name as rust_name
use Rattle.php_ast.specs.declared.spot.Spot.{Spot}
use Rattle.php_ast.specs.Symbol.{Symbol}
use Rattle.php_ast.specs.expression.Placed.{notes_of}
use Rattle.php_ast.specs.expression.View.{spot_view}
use Rattle.php_ast.specs.statement.Tree.{Sequence, empty, then_also, Name}
use Rattle.php_ast.specs.statement.View.{sequence, optional, name_view, names_view}
use Rattle.php_ast.specs.statement.Placed.{size_separated, size_separator, noted_separated, size_name, noted_name}
use Rattle.php_ast.specs.declaration.Tree.{Member, Item, Script}
use Rattle.php_ast.specs.declaration.Placed.{size_joined, noted_joined, noted_one_name, size_class_word, noted_class_word, size_parent, size_names, size_members, noted_names, noted_members, size_item, noted_item}
use Rattle.php_ast.specs.declaration.View.{class_word_view, member_view, item_view}
use Rattle.php_flat.specs.Declarations.{is_flat_script_item}
use Rattle.std.specs.List.{list_all}
use Rattle.php_grammar.specs.expression.Machine.{Nothing}
use Rattle.php_grammar.specs.declaration.ScriptMachine.{Items, Names, ClassWords, Heading, class_heading, interface_heading, class_kind, ScriptState, due_item, past_class_words, due_heading_name, past_heading, due_interface, with_item, by_comma}
use Rattle.php_grammar.specs.statement.Role.{name_text}
use Rattle.php_grammar_laws.specs.Walks.{whole, walk_script}
use Rattle.php_parse_simple.specs.Answer.{ShowsName, head_text}
use Rattle.php_parse_member.specs.declared.read.ReadMembers.{ReadMembers}
use Rattle.php_reader.specs.declared.reader.Reader.{Reader}
use Rattle.php_reader.specs.declared.fail.Stop.{Stop}
use Rattle.php_reader.specs.declared.fail.Stop.TheVariants.{Syntax, TooDeep, NoMemory}
use Rattle.php_reader.specs.Seen.{rest}
use Rattle.php_parse_script.specs.declared.read.ReadWords.{ReadWords}
use Rattle.php_parse_script.specs.declared.read.ReadParent.{ReadParent}
use Rattle.php_reader.specs.declared.found.Listed.{Listed}
use Rattle.php_parse_script.specs.declared.read.ClassHeading as rust_heading
use Rattle.php_parse_script.specs.declared.read.InterfaceHeading.{InterfaceHeading}
use Rattle.php_parse_script.specs.declared.read.ReadItem.{ReadItem}
use Rattle.php_parse_script.specs.declared.read.ReadScript.{ReadScript}
use Rattle.php_parse_script.specs.Look.{head_mark}
use Rattle.php_parse_script.specs.Owner.{Owner, owned, GoesNoFurther, IsPast, IsPastParent}
use Rattle.php_parse_script.specs.Walk.{Leads, Halts}

-- ---- failures

-- The reading stops in front of the token at a place, not before those that were read already.
pub record StopsAt (too_deep : Bool) (room : ℕ) (from : ScriptState) (w : List Symbol) (tokens : List Token) (at k : ℕ) : Type 0 where
  pub halts : Halts too_deep room from w (rest tokens k)
  pub ahead : at ≤ k
  pub within : k ≤ length tokens

-- from a state before the symbols w
abbrev pub Fails : ℕ → ScriptState → List Symbol → List Token → ℕ → Stop → Type 0
Fails room from w tokens at (Syntax k) = StopsAt false room from w tokens at k
Fails room from w tokens at (TooDeep k) = StopsAt true room from w tokens at k
Fails room from w tokens at NoMemory = Unit {0}

-- ---- names

-- No name stands here.
abbrev pub FailsName : List Token → ℕ → Stop → Type 0
FailsName tokens at (Syntax k) = (k ≡ at) × (head_text name_text (rest tokens at) ≡ None)
FailsName tokens at (TooDeep k) = ⊥
FailsName tokens at NoMemory = Unit {0}

abbrev pub AnswersName : Reader → ℕ → Result rust_name.Name Stop → Type 0
AnswersName reader at (Ok n) = ShowsName name_text reader.tokens.now at (Some n)
AnswersName reader at (Err e) = FailsName reader.tokens.now at e

pub record FoundParent (room : ℕ) (tokens : List Token) (at : ℕ) (r : ReadParent) : Type 0 where
  pub parent : Option (Name Nothing)
  pub shown : optional name_view r.parent ≡ noted_one_name (notes_of tokens) (at + 1) parent
  pub sized : at + size_parent parent ≡ r.next
  pub reads : (items : Items) (words : ClassWords) (n : Name Nothing)
      → Leads room (past_heading items (class_heading words n None empty)) (rest tokens at) (past_heading items (class_heading words n parent empty)) (rest tokens r.next)
  pub past : IsPastParent parent (rest tokens r.next)
  pub within : r.next ≤ length tokens

abbrev pub AnswersParent : Reader → ℕ → Result ReadParent Stop → Type 0
AnswersParent reader at (Ok r) = FoundParent reader.room reader.tokens.now at r
AnswersParent reader at (Err e) = (items : Items) (words : ClassWords) (n : Name Nothing)
    → Fails reader.room (past_heading items (class_heading words n None empty)) (rest reader.tokens.now at) reader.tokens.now at e

-- one name or more; the last one isn't followed by a comma
pub record FoundNames (room : ℕ) (tokens : List Token) (at : ℕ) (r : Listed rust_name.Name) : Type 0 where
  pub before : Names
  pub last : Name Nothing
  pub shown : names_view r.items ≡ noted_separated size_name (noted_name (notes_of tokens)) at (then_also before last)
  pub sized : at + size_separated size_name (then_also before last) ≡ r.next
  pub reads : (items : Items) (o : Owner)
      → Leads room (due_interface items (owned o empty)) (rest tokens at) (past_heading items (owned o (then_also before last))) (rest tokens r.next)
  pub no_comma : head_mark (rest tokens r.next) ≢ by_comma
  pub within : r.next ≤ length tokens

abbrev pub AnswersNames : Reader → ℕ → Result (Listed rust_name.Name) Stop → Type 0
AnswersNames reader at (Ok r) = FoundNames reader.room reader.tokens.now at r
AnswersNames reader at (Err e) = (items : Items) (o : Owner) → Fails reader.room (due_interface items (owned o empty)) (rest reader.tokens.now at) reader.tokens.now at e

-- names behind each of which a comma was read
pub record NamesSoFar (room : ℕ) (tokens : List Token) (at : ℕ) (xs : List rust_name.Name) (next : ℕ) : Type 0 where
  pub names : Names
  pub shown : names_view xs ≡ noted_separated size_name (noted_name (notes_of tokens)) at names
  pub sized : at + size_separated size_name names + size_separator names ≡ next
  pub reads : (items : Items) (o : Owner) → Leads room (due_interface items (owned o empty)) (rest tokens at) (due_interface items (owned o names)) (rest tokens next)
  pub within : next ≤ length tokens

-- names behind their word, or none
pub record FoundListing (o : Owner) (room : ℕ) (tokens : List Token) (at : ℕ) (r : Listed rust_name.Name) : Type 0 where
  pub names : Names
  pub shown : names_view r.items ≡ noted_names (notes_of tokens) at names
  pub sized : at + size_names names ≡ r.next
  pub reads : (items : Items) → Leads room (past_heading items (owned o empty)) (rest tokens at) (past_heading items (owned o names)) (rest tokens r.next)
  pub over : IsPast o (rest tokens at) → GoesNoFurther (owned o names) (rest tokens r.next)
  pub within : r.next ≤ length tokens

abbrev pub AnswersListing : Owner → Reader → ℕ → Result (Listed rust_name.Name) Stop → Type 0
AnswersListing o reader at (Ok r) = FoundListing o reader.room reader.tokens.now at r
AnswersListing o reader at (Err e) = (items : Items) → Fails reader.room (past_heading items (owned o empty)) (rest reader.tokens.now at) reader.tokens.now at e

-- ---- headings

-- behind some of the words before `class`
abbrev pub behind_words : Items → ClassWords → ScriptState
behind_words items empty = due_item items
behind_words items (then_also words w) = past_class_words items (then_also words w)

-- The words up to `class`, which is read too.
pub record FoundWords (room : ℕ) (tokens : List Token) (at : ℕ) (r : ReadWords) : Type 0 where
  pub words : ClassWords
  pub shown : sequence class_word_view r.words ≡ noted_joined size_class_word (noted_class_word (notes_of tokens)) at words
  pub sized : at + size_joined size_class_word words ≡ r.next
  pub reads : (items : Items) → Leads room (due_item items) (rest tokens at) (due_heading_name items (class_kind words)) (rest tokens (r.next + 1))
  pub within : r.next < length tokens
  pub fits : r.next + 1 < 2 ^ 64

abbrev pub FailsItem : Reader → ℕ → Stop → Type 0
FailsItem reader at e = (items : Items) → Fails reader.room (due_item items) (rest reader.tokens.now at) reader.tokens.now at e

abbrev pub AnswersWords : Reader → ℕ → Result ReadWords Stop → Type 0
AnswersWords reader at (Ok r) = FoundWords reader.room reader.tokens.now at r
AnswersWords reader at (Err e) = FailsItem reader at e

pub record WordsSoFar (room : ℕ) (tokens : List Token) (at : ℕ) (xs : List (Spot × ClassModifier)) (next : ℕ) : Type 0 where
  pub words : ClassWords
  pub shown : sequence class_word_view xs ≡ noted_joined size_class_word (noted_class_word (notes_of tokens)) at words
  pub sized : at + size_joined size_class_word words ≡ next
  pub reads : (items : Items) → Leads room (due_item items) (rest tokens at) (behind_words items words) (rest tokens next)
  pub within : next ≤ length tokens

pub record FoundClassHeading (room : ℕ) (tokens : List Token) (at : ℕ) (r : rust_heading.ClassHeading) : Type 0 where
  pub words : ClassWords
  pub name : Name Nothing
  pub parent : Option (Name Nothing)
  pub interfaces : Names
  -- where `class` stands
  pub place : ℕ
  pub sized_words : at + size_joined size_class_word words ≡ place
  pub words_shown : sequence class_word_view r.modifiers ≡ noted_joined size_class_word (noted_class_word (notes_of tokens)) at words
  pub spot_shown : spot_view r.spot ≡ (notes_of tokens).token place
  pub name_shown : name_view r.name ≡ noted_name (notes_of tokens) (place + 1) name
  pub parent_shown : optional name_view r.parent ≡ noted_one_name (notes_of tokens) (place + 3) parent
  pub interfaces_shown : names_view r.interfaces ≡ noted_names (notes_of tokens) (place + 2 + size_parent parent) interfaces
  pub sized : place + 2 + size_parent parent + size_names interfaces ≡ r.next
  pub reads : (items : Items) → Leads room (due_item items) (rest tokens at) (past_heading items (class_heading words name parent interfaces)) (rest tokens r.next)
  pub over : GoesNoFurther (class_heading words name parent interfaces) (rest tokens r.next)
  pub within : r.next ≤ length tokens

abbrev pub AnswersClassHeading : Reader → ℕ → Result rust_heading.ClassHeading Stop → Type 0
AnswersClassHeading reader at (Ok r) = FoundClassHeading reader.room reader.tokens.now at r
AnswersClassHeading reader at (Err e) = FailsItem reader at e

pub record FoundInterfaceHeading (room : ℕ) (tokens : List Token) (at : ℕ) (r : InterfaceHeading) : Type 0 where
  pub name : Name Nothing
  pub parents : Names
  pub spot_shown : spot_view r.spot ≡ (notes_of tokens).token at
  pub name_shown : name_view r.name ≡ noted_name (notes_of tokens) (at + 1) name
  pub parents_shown : names_view r.parents ≡ noted_names (notes_of tokens) (at + 2) parents
  pub sized : at + 2 + size_names parents ≡ r.next
  pub reads : (items : Items) → Leads room (due_item items) (rest tokens at) (past_heading items (interface_heading name parents)) (rest tokens r.next)
  pub over : GoesNoFurther (interface_heading name parents) (rest tokens r.next)
  pub within : r.next ≤ length tokens

abbrev pub AnswersInterfaceHeading : Reader → ℕ → Result InterfaceHeading Stop → Type 0
AnswersInterfaceHeading reader at (Ok r) = FoundInterfaceHeading reader.room reader.tokens.now at r
AnswersInterfaceHeading reader at (Err e) = FailsItem reader at e

-- ---- members in braces

pub record FoundBraced (room : ℕ) (tokens : List Token) (at : ℕ) (r : ReadMembers) : Type 0 where
  pub members : Sequence (Member Nothing)
  pub shown : sequence member_view r.members ≡ noted_members (notes_of tokens) at members
  pub sized : at + size_members members ≡ r.next
  pub reads : (items : Items) (heading : Heading) → Leads room (past_heading items heading) (rest tokens at) (due_item (with_item items heading members)) (rest tokens r.next)
  pub within : r.next ≤ length tokens

-- where the heading goes on with nothing else
abbrev pub AnswersBraced : Reader → ℕ → Result ReadMembers Stop → Type 0
AnswersBraced reader at (Ok r) = FoundBraced reader.room reader.tokens.now at r
AnswersBraced reader at (Err e) = (items : Items) (heading : Heading) → GoesNoFurther heading (rest reader.tokens.now at)
    → Fails reader.room (past_heading items heading) (rest reader.tokens.now at) reader.tokens.now at e

-- ---- items

pub record FoundItem (room : ℕ) (tokens : List Token) (at : ℕ) (r : ReadItem) : Type 0 where
  pub form : Item Nothing
  pub shown : item_view r.item ≡ noted_item (notes_of tokens) at form
  pub sized : at + size_item form ≡ r.next
  pub reads : (items : Items) → Leads room (due_item items) (rest tokens at) (due_item (then_also items form)) (rest tokens r.next)
  pub ahead : at < r.next
  pub within : r.next ≤ length tokens

abbrev pub AnswersItem : Reader → ℕ → Result ReadItem Stop → Type 0
AnswersItem reader at (Ok r) = FoundItem reader.room reader.tokens.now at r
AnswersItem reader at (Err e) = FailsItem reader at e

-- ---- scripts

pub record FoundScript (room : ℕ) (tokens : List Token) (xs : List ScriptItem) : Type 0 where
  pub form : Script Nothing
  pub shown : sequence item_view xs ≡ noted_joined size_item (noted_item (notes_of tokens)) 0 form
  pub comes : (n : ℕ) → room ≡ suc n → walk_script n (due_item empty) (rest tokens 0) ≡ whole form []

abbrev pub AnswersScript : Reader → Result ReadScript Stop → Type 0
AnswersScript reader (Ok r) = FoundScript reader.room reader.tokens.now r.script.items
AnswersScript reader (Err e) = Fails reader.room (due_item empty) (rest reader.tokens.now 0) reader.tokens.now 0 e

-- what a loop has read so far
pub record ItemsSoFar (room : ℕ) (tokens : List Token) (xs : List ScriptItem) (next : ℕ) : Type 0 where
  pub form : Script Nothing
  pub shown : sequence item_view xs ≡ noted_joined size_item (noted_item (notes_of tokens)) 0 form
  pub sized : size_joined size_item form ≡ next
  pub flat : list_all is_flat_script_item xs ≡ true
  pub reads : Leads room (due_item empty) (rest tokens 0) (due_item form) (rest tokens next)
  pub within : next ≤ length tokens
