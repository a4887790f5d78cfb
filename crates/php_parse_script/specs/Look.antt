-- What is seen of the token at a place.
use Rattle.std.specs.Prelude.{◌≡◌, ◌≢◌, ◌⊎◌, ℕ, Bool, true, false, Option, Some, None, List, [], ◌∷◌}
use Rattle.php_token.specs.Token.{Token}
use Rattle.php_ast.specs.declared.declaration.ClassModifier.{ClassModifier}
use Rattle.php_ast.specs.Symbol.{Symbol}
use Rattle.php_grammar.specs.declaration.ScriptMachine.{ItemRole, at_class, at_class_word, at_statement, item_role, HeadingRole, by_no_heading, heading_role}
use Rattle.php_reader.specs.Seen.{Shows, rest}

-- what the first of some symbols begins at the outermost level; at the end it is as if a statement were due
abbrev pub head_item : List Symbol → ItemRole
head_item [] = at_statement
head_item (t ∷ w) = item_role t

abbrev pub SeesItem : List Token → ℕ → ItemRole → Type 0
SeesItem tokens at at_statement = head_item (rest tokens at) ≡ at_statement
SeesItem tokens at x = Shows item_role tokens at x

-- whether a token of this role stands at a place
abbrev pub SeesItemRole : ItemRole → List Token → ℕ → Bool → Type 0
SeesItemRole role tokens at true = Shows item_role tokens at role
SeesItemRole role tokens at false = head_item (rest tokens at) ≢ role

abbrev pub SeesClassWord : List Token → ℕ → Option ClassModifier → Type 0
SeesClassWord tokens at (Some word) = Shows item_role tokens at (at_class_word word)
SeesClassWord tokens at None = (word : ClassModifier) → head_item (rest tokens at) ≢ at_class_word word

-- `class` stands at a place, or a word before it
abbrev pub BeginsClass : List Token → ℕ → Type 0
BeginsClass tokens at = Shows item_role tokens at at_class ⊎ ((word : ClassModifier) × Shows item_role tokens at (at_class_word word))

-- behind the name of a class or an interface; nothing goes on at the end
abbrev pub head_mark : List Symbol → HeadingRole
head_mark [] = by_no_heading
head_mark (t ∷ w) = heading_role t

abbrev pub SeesMark : List Token → ℕ → HeadingRole → Type 0
SeesMark tokens at by_no_heading = head_mark (rest tokens at) ≡ by_no_heading
SeesMark tokens at x = Shows heading_role tokens at x

abbrev pub SeesHeading : HeadingRole → List Token → ℕ → Bool → Type 0
SeesHeading role tokens at true = Shows heading_role tokens at role
SeesHeading role tokens at false = head_mark (rest tokens at) ≢ role
