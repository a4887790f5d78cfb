-- Examples of what names a member: each keyword does, and the token `yield from` doesn't, where a member is read, spelled
-- or declared.
use Rattle.std.proofs.Common.{◌≡◌, ℕ, true, false, None, Some, List, [], ◌∷◌, refl}
use Rattle.php_token.specs.declared.kind.Keyword.TheVariants as word
use Rattle.php_token.specs.declared.kind.Punct.TheVariants as mark
use Rattle.php_ast.specs.Symbol as symbol
use Rattle.php_ast.specs.Symbol.{Symbol, keyword, punct}
use Rattle.php_ast.specs.expression.Tree as tree
use Rattle.php_ast.specs.expression.Tree.{variable, name, thin, colons, leaf, static_member, selected, new, class_found, from, step_property}
use Rattle.php_ast.specs.expression.Proper.{Proper}
use Rattle.php_grammar.specs.expression.Machine.{Form, Nothing, Reading, any, any_symbol, any_member, read}
use Rattle.php_ast.specs.statement.Tree.{Sequence, empty, then_also, Name}
use Rattle.php_ast.specs.declaration.Tree.{Signature, Rule, renames, prefers, Member, uses_by, class_constants, method}
use Rattle.php_ast.specs.declaration.Proper.{IsProperMember}
use Rattle.php_grammar.specs.declaration.MemberMachine.{read_member}

-- ---- shorthand: `$x`, the name `f`, the words `yield` and `yield from`

abbrev v : ℕ → Form
v letter = leaf tt (variable (letter ∷ []))

abbrev sv : ℕ → Symbol
sv letter = symbol.variable (letter ∷ [])

abbrev f : Form
f = leaf tt (name (102 ∷ []))

abbrev sf : Symbol
sf = symbol.name (102 ∷ [])

abbrev yield_word : tree.Member Nothing
yield_word = tree.reserved tt word.Yield

abbrev token : tree.Member Nothing
token = tree.reserved tt word.YieldFrom

-- the token is not read, and the name of a member is missing in front of it
abbrev stops : Form → Symbol → List Symbol → Reading
stops e missing rest = record { tree = e; missing = missing ∷ []; unread = keyword word.YieldFrom ∷ rest }

-- ---- expressions

-- `$a->yield`
named_yield : read (sv 97 ∷ punct mark.Arrow ∷ keyword word.Yield ∷ []) ≡ record { tree = selected (v 97) thin yield_word; missing = []; unread = [] }
named_yield = refl

-- `$a->yield from`, `f::yield from`, `static::yield from`, `new $a->yield from`
stops_property : read (sv 97 ∷ punct mark.Arrow ∷ keyword word.YieldFrom ∷ []) ≡ stops (selected (v 97) thin any_member) any_symbol []
stops_property = refl

stops_constant : read (sf ∷ punct mark.DoubleColon ∷ keyword word.YieldFrom ∷ []) ≡ stops (selected f colons any_member) any_symbol []
stops_constant = refl

stops_static : read (keyword word.Static ∷ punct mark.DoubleColon ∷ keyword word.YieldFrom ∷ []) ≡ stops (static_member tt any_member) any_symbol []
stops_static = refl

stops_class : read (keyword word.New ∷ sv 97 ∷ punct mark.Arrow ∷ keyword word.YieldFrom ∷ [])
    ≡ stops (new tt (class_found (step_property (from tt (97 ∷ [])) (tree.named tt [])))) (symbol.name []) []
stops_class = refl

-- and so no proper tree has it as a name
property-improper : Proper (selected (v 97) thin token) → ⊥
property-improper p = let e : false ≡ true = p.2 in cc

constant-improper : Proper (selected f colons token) → ⊥
constant-improper p = let e : false ≡ true = p.2 in cc

static-improper : Proper (static_member tt token) → ⊥
static-improper p = let e : false ≡ true = p in cc

class-improper : Proper (new tt (class_found (step_property (from tt (97 ∷ [])) token))) → ⊥
class-improper p = let e : false ≡ true = p.1 in cc

-- ---- members of classes

abbrev only : {A : Type 0} → A → Sequence A
only x = then_also empty x

abbrev n : ℕ → Name Nothing
n letter = record { note = tt; text = letter ∷ [] }

abbrev w : ℕ → tree.Member Nothing
w letter = tree.named tt (letter ∷ [])

abbrev constant_named : tree.Member Nothing → Member Nothing
constant_named m = class_constants empty (only (record { name = m; value = v 97 }))

abbrev no_params : Signature Nothing
no_params = record { params = empty; result = None }

abbrev method_named : tree.Member Nothing → Member Nothing
method_named m = method (record { modifiers = empty; note = tt; is_reference = false; name = m; signature = no_params; body = None })

abbrev with_rule : Rule Nothing → Member Nothing
with_rule rule = uses_by tt (only (n 65)) (only rule)

-- the word `yield` in each place
constant-proper : IsProperMember (constant_named yield_word)
constant-proper = (refl, (tt, (refl, tt)))

method-proper : IsProperMember (method_named yield_word)
method-proper = (refl, tt, tt)

-- `const yield from = $a;`, `function yield from();`, and the rules `yield from as b;`, `a as yield from;`,
-- `a as public yield from;`, `A::yield from insteadof B;`
named_constant-improper : IsProperMember (constant_named token) → ⊥
named_constant-improper p = let e : false ≡ true = p.1.1.0 in cc

method-improper : IsProperMember (method_named token) → ⊥
method-improper p = let e : false ≡ true = p.0 in cc

renamed-improper : IsProperMember (with_rule (renames tt None token None (Some (w 98)))) → ⊥
renamed-improper p = let e : false ≡ true = p.1.1.0 in cc

token_alias-improper : IsProperMember (with_rule (renames tt None (w 97) None (Some token))) → ⊥
token_alias-improper p = let e : false ≡ true = p.1.1.1.0 in cc

preferred-improper : IsProperMember (with_rule (prefers tt (n 65) token (only (n 66)))) → ⊥
preferred-improper p = let e : false ≡ true = p.1.1.0 in cc

-- where a member is read, each of them stops at the token
stops_class_constant : read_member (keyword word.Const ∷ keyword word.YieldFrom ∷ [])
    ≡ record {
      tree = class_constants empty (only (record { name = tree.named tt []; value = any }));
      missing = symbol.name [] ∷ punct mark.Assign ∷ any_symbol ∷ punct mark.Semicolon ∷ [];
      unread = keyword word.YieldFrom ∷ [];
    }
stops_class_constant = refl

stops_method : (read_member (keyword word.Function ∷ keyword word.YieldFrom ∷ [])).unread ≡ keyword word.YieldFrom ∷ []
stops_method = refl

stops_rule : (read_member (keyword word.Use ∷ symbol.name (65 ∷ []) ∷ punct mark.LeftBrace ∷ keyword word.YieldFrom ∷ [])).unread ≡ keyword word.YieldFrom ∷ []
stops_rule = refl

stops_alias : (read_member (keyword word.Use ∷ symbol.name (65 ∷ []) ∷ punct mark.LeftBrace ∷ symbol.name (97 ∷ []) ∷ keyword word.As ∷ keyword word.YieldFrom ∷ [])).unread
    ≡ keyword word.YieldFrom ∷ []
stops_alias = refl

stops_seen_alias : (read_member (keyword word.Use ∷ symbol.name (65 ∷ []) ∷ punct mark.LeftBrace ∷ symbol.name (97 ∷ []) ∷ keyword word.As ∷ keyword word.Public
    ∷ keyword word.YieldFrom ∷ [])).unread ≡ keyword word.YieldFrom ∷ []
stops_seen_alias = refl

stops_preferred : (read_member (keyword word.Use ∷ symbol.name (65 ∷ []) ∷ punct mark.LeftBrace ∷ symbol.name (65 ∷ []) ∷ punct mark.DoubleColon
    ∷ keyword word.YieldFrom ∷ [])).unread ≡ keyword word.YieldFrom ∷ []
stops_preferred = refl
