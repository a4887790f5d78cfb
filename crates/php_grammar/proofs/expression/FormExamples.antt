-- Each form of expression by an example: its spelling, its reading, and the nesting of each of its tokens, as the tree
-- and as the machine counts it.
use Rattle.std.proofs.Common.{◌≡◌, ℕ, zero, suc, pos, Some, None, List, [], ◌∷◌, refl}
use Rattle.php_token.specs.declared.kind.Keyword.TheVariants as word
use Rattle.php_token.specs.declared.kind.Punct.TheVariants as mark
use Rattle.php_token.specs.declared.kind.Cast.TheVariants as to
use Rattle.php_ast.specs.declared.operator.Binary.TheVariants as op
use Rattle.php_ast.specs.declared.operator.Prefix.TheVariants as pre
use Rattle.php_ast.specs.declared.operator.Count.TheVariants as count
use Rattle.php_ast.specs.declared.operator.Assign.TheVariants as set
use Rattle.php_ast.specs.declared.operator.Magic.TheVariants as magic_word
use Rattle.php_ast.specs.declared.operator.ArrayForm.TheVariants as form
use Rattle.php_ast.specs.Symbol as symbol
use Rattle.php_ast.specs.Symbol.{Symbol, keyword, punct, cast}
use Rattle.php_ast.specs.expression.Tree.{variable, int, string, name, magic, parentheses, emptiness, exiting, array, is_set, thin, colons, by_value, by_reference, named, reserved, held}
use Rattle.php_ast.specs.expression.Tree.{leaf, template, enclosed, listed, exit, exit_empty, static_member, append, index, selected, computed, call, new, new_with, prefix, count, binary, instance_of, instance_of_static, choice, short_choice, assign, yield_nothing, yield_value, yield_pair}
use Rattle.php_ast.specs.expression.Tree.{none, and, skip, plain, reference, spread, keyed_reference, no_piece, bytes, value, class_name, class_static, class_found, from, step_property, step_index}
use Rattle.php_ast.specs.expression.Spelling.{spell}
use Rattle.php_ast.specs.expression.Nesting.{nests}
use Rattle.php_grammar.specs.expression.Machine.{Form, Reading, expects, read}
use Rattle.php_grammar.specs.expression.Depth.{depths_read}
use Rattle.php_grammar.specs.TooDeep.{first_too_deep}

-- ---- shorthand: `$x`, a small integer, the name `f`

abbrev v : ℕ → Form
v letter = leaf tt (variable (letter ∷ []))

abbrev sv : ℕ → Symbol
sv letter = symbol.variable (letter ∷ [])

abbrev i : ℕ → Form
i number = leaf tt (int (pos number))

abbrev si : ℕ → Symbol
si number = symbol.int (pos number)

abbrev f : Form
f = leaf tt (name (102 ∷ []))

abbrev sf : Symbol
sf = symbol.name (102 ∷ [])

abbrev whole : Form → Reading
whole e = record { tree = e; missing = []; unread = [] }

-- The symbols are the spelling, they are read back, and the depths are those of the tokens.
abbrev IsExample : Form → List Symbol → List ℕ → Type 0
IsExample e w depths = (spell e [] ≡ w) × (read w ≡ whole e) × (nests e 0 [] ≡ depths) × (depths_read (expects []) w ≡ depths)

-- ---- one token

-- `$a`, `1`, `'a'`, `f`, `__LINE__`
form_variable : IsExample (v 97) (sv 97 ∷ []) (0 ∷ [])
form_variable = (refl, refl, refl, refl)

form_int : IsExample (i 1) (si 1 ∷ []) (0 ∷ [])
form_int = (refl, refl, refl, refl)

form_string : IsExample (leaf tt (string (97 ∷ []))) (symbol.string (97 ∷ []) ∷ []) (0 ∷ [])
form_string = (refl, refl, refl, refl)

form_name : IsExample f (sf ∷ []) (0 ∷ [])
form_name = (refl, refl, refl, refl)

form_magic : IsExample (leaf tt (magic magic_word.Line)) (keyword word.LineNumber ∷ []) (0 ∷ [])
form_magic = (refl, refl, refl, refl)

-- ---- what encloses

-- `($a)`, `empty($a)`, `exit($a)`, `exit`, `exit()`
form_parentheses : IsExample (enclosed tt parentheses (v 97)) (punct mark.LeftParen ∷ sv 97 ∷ punct mark.RightParen ∷ []) (0 ∷ 1 ∷ 1 ∷ [])
form_parentheses = (refl, refl, refl, refl)

form_empty : IsExample (enclosed tt emptiness (v 97)) (keyword word.Empty ∷ punct mark.LeftParen ∷ sv 97 ∷ punct mark.RightParen ∷ []) (0 ∷ 0 ∷ 1 ∷ 1 ∷ [])
form_empty = (refl, refl, refl, refl)

form_exit_with : IsExample (enclosed tt exiting (v 97)) (keyword word.Exit ∷ punct mark.LeftParen ∷ sv 97 ∷ punct mark.RightParen ∷ []) (0 ∷ 0 ∷ 1 ∷ 1 ∷ [])
form_exit_with = (refl, refl, refl, refl)

form_exit : IsExample (exit tt) (keyword word.Exit ∷ []) (0 ∷ [])
form_exit = (refl, refl, refl, refl)

form_exit_empty : IsExample (exit_empty tt) (keyword word.Exit ∷ punct mark.LeftParen ∷ punct mark.RightParen ∷ []) (0 ∷ 0 ∷ 1 ∷ [])
form_exit_empty = (refl, refl, refl, refl)

-- `exit or $a`, and in `exit()()` the first parentheses belong to the `exit`
form_exit_or : IsExample (binary op.WordOr (exit tt) (v 97)) (keyword word.Exit ∷ keyword word.Or ∷ sv 97 ∷ []) (0 ∷ 0 ∷ 0 ∷ [])
form_exit_or = (refl, refl, refl, refl)

form_exit_called : IsExample (call (exit_empty tt) none)
    (keyword word.Exit ∷ punct mark.LeftParen ∷ punct mark.RightParen ∷ punct mark.LeftParen ∷ punct mark.RightParen ∷ []) (0 ∷ 0 ∷ 1 ∷ 0 ∷ 1 ∷ [])
form_exit_called = (refl, refl, refl, refl)

-- `isset($a, $b)`
form_is_set : IsExample (listed tt is_set (and (and none plain (v 97)) plain (v 98)))
    (keyword word.IsSet ∷ punct mark.LeftParen ∷ sv 97 ∷ punct mark.Comma ∷ sv 98 ∷ punct mark.RightParen ∷ []) (0 ∷ 0 ∷ 1 ∷ 1 ∷ 1 ∷ 1 ∷ [])
form_is_set = (refl, refl, refl, refl)

-- `[]`, `[1, &$a, 2 => &$b]`, `array(1,)`, `list($a, , $b)`
form_no_items : IsExample (listed tt (array form.Brackets) none) (punct mark.LeftBracket ∷ punct mark.RightBracket ∷ []) (0 ∷ 1 ∷ [])
form_no_items = (refl, refl, refl, refl)

form_references : IsExample (listed tt (array form.Brackets) (and (and (and none plain (i 1)) reference (v 97)) (keyed_reference (i 2)) (v 98)))
    (punct mark.LeftBracket ∷ si 1 ∷ punct mark.Comma ∷ punct mark.Ampersand ∷ sv 97 ∷ punct mark.Comma ∷ si 2 ∷ punct mark.DoubleArrow ∷ punct mark.Ampersand
    ∷ sv 98 ∷ punct mark.RightBracket ∷ []) (0 ∷ 1 ∷ 1 ∷ 1 ∷ 1 ∷ 1 ∷ 1 ∷ 1 ∷ 1 ∷ 1 ∷ 1 ∷ [])
form_references = (refl, refl, refl, refl)

form_array : IsExample (listed tt (array form.Array) (skip (and none plain (i 1))))
    (keyword word.Array ∷ punct mark.LeftParen ∷ si 1 ∷ punct mark.Comma ∷ punct mark.RightParen ∷ []) (0 ∷ 0 ∷ 1 ∷ 1 ∷ 1 ∷ [])
form_array = (refl, refl, refl, refl)

form_list : IsExample (listed tt (array form.List) (and (skip (and none plain (v 97))) plain (v 98)))
    (keyword word.List ∷ punct mark.LeftParen ∷ sv 97 ∷ punct mark.Comma ∷ punct mark.Comma ∷ sv 98 ∷ punct mark.RightParen ∷ []) (0 ∷ 0 ∷ 1 ∷ 1 ∷ 1 ∷ 1 ∷ 1 ∷ [])
form_list = (refl, refl, refl, refl)

-- `"a{$b}"`
form_template : IsExample (template tt (value (bytes no_piece (97 ∷ [])) (v 98)))
    (symbol.quote ∷ symbol.piece (97 ∷ []) ∷ symbol.part ∷ sv 98 ∷ symbol.end_part ∷ symbol.unquote ∷ []) (0 ∷ 0 ∷ 0 ∷ 1 ∷ 1 ∷ 0 ∷ [])
form_template = (refl, refl, refl, refl)

-- ---- suffixes

-- `$a[]`, `$a[1]`, `$a->class`, `$a->$b`, `$a->{$b}`, `f::$a`, `static::f`
form_append : IsExample (append (v 97)) (sv 97 ∷ punct mark.LeftBracket ∷ punct mark.RightBracket ∷ []) (0 ∷ 0 ∷ 1 ∷ [])
form_append = (refl, refl, refl, refl)

form_index : IsExample (index (v 97) (i 1)) (sv 97 ∷ punct mark.LeftBracket ∷ si 1 ∷ punct mark.RightBracket ∷ []) (0 ∷ 0 ∷ 1 ∷ 1 ∷ [])
form_index = (refl, refl, refl, refl)

form_property : IsExample (selected (v 97) thin (reserved tt word.Class)) (sv 97 ∷ punct mark.Arrow ∷ keyword word.Class ∷ []) (0 ∷ 0 ∷ 0 ∷ [])
form_property = (refl, refl, refl, refl)

form_held_property : IsExample (selected (v 97) thin (held tt (98 ∷ []))) (sv 97 ∷ punct mark.Arrow ∷ sv 98 ∷ []) (0 ∷ 0 ∷ 0 ∷ [])
form_held_property = (refl, refl, refl, refl)

form_computed : IsExample (computed (v 97) (v 98)) (sv 97 ∷ punct mark.Arrow ∷ punct mark.LeftBrace ∷ sv 98 ∷ punct mark.RightBrace ∷ []) (0 ∷ 0 ∷ 0 ∷ 1 ∷ 1 ∷ [])
form_computed = (refl, refl, refl, refl)

form_member : IsExample (selected f colons (held tt (97 ∷ []))) (sf ∷ punct mark.DoubleColon ∷ sv 97 ∷ []) (0 ∷ 0 ∷ 0 ∷ [])
form_member = (refl, refl, refl, refl)

form_static_member : IsExample (static_member tt (named tt (102 ∷ []))) (keyword word.Static ∷ punct mark.DoubleColon ∷ sf ∷ []) (0 ∷ 0 ∷ 0 ∷ [])
form_static_member = (refl, refl, refl, refl)

-- `f()`, `f($a, ...$b)`, `$a->f()[1]`
form_call : IsExample (call f none) (sf ∷ punct mark.LeftParen ∷ punct mark.RightParen ∷ []) (0 ∷ 0 ∷ 1 ∷ [])
form_call = (refl, refl, refl, refl)

form_spread : IsExample (call f (and (and none plain (v 97)) spread (v 98)))
    (sf ∷ punct mark.LeftParen ∷ sv 97 ∷ punct mark.Comma ∷ punct mark.Ellipsis ∷ sv 98 ∷ punct mark.RightParen ∷ []) (0 ∷ 0 ∷ 1 ∷ 1 ∷ 1 ∷ 1 ∷ 1 ∷ [])
form_spread = (refl, refl, refl, refl)

form_suffixes : IsExample (index (call (selected (v 97) thin (named tt (102 ∷ []))) none) (i 1))
    (sv 97 ∷ punct mark.Arrow ∷ sf ∷ punct mark.LeftParen ∷ punct mark.RightParen ∷ punct mark.LeftBracket ∷ si 1 ∷ punct mark.RightBracket ∷ [])
    (0 ∷ 0 ∷ 0 ∷ 0 ∷ 1 ∷ 0 ∷ 1 ∷ 1 ∷ [])
form_suffixes = (refl, refl, refl, refl)

-- `new f`, `new static`, `new f(1)`, `new $a->b[1]`
form_new : IsExample (new tt (class_name tt (102 ∷ []))) (keyword word.New ∷ sf ∷ []) (0 ∷ 0 ∷ [])
form_new = (refl, refl, refl, refl)

form_new_static : IsExample (new tt (class_static tt)) (keyword word.New ∷ keyword word.Static ∷ []) (0 ∷ 0 ∷ [])
form_new_static = (refl, refl, refl, refl)

form_new_with : IsExample (new_with tt (class_name tt (102 ∷ [])) (and none plain (i 1)))
    (keyword word.New ∷ sf ∷ punct mark.LeftParen ∷ si 1 ∷ punct mark.RightParen ∷ []) (0 ∷ 0 ∷ 0 ∷ 1 ∷ 1 ∷ [])
form_new_with = (refl, refl, refl, refl)

form_new_found : IsExample (new tt (class_found (step_index (step_property (from tt (97 ∷ [])) (named tt (98 ∷ []))) (i 1))))
    (keyword word.New ∷ sv 97 ∷ punct mark.Arrow ∷ symbol.name (98 ∷ []) ∷ punct mark.LeftBracket ∷ si 1 ∷ punct mark.RightBracket ∷ []) (0 ∷ 0 ∷ 0 ∷ 0 ∷ 0 ∷ 1 ∷ 1 ∷ [])
form_new_found = (refl, refl, refl, refl)

-- ---- prefix operators, `++` and `--`

-- `clone $a`, `++$a`, `(int)$a`, `@-$a`, `!$a`, `print $a`, `yield from $a`
form_clone : IsExample (prefix tt pre.Clone (v 97)) (keyword word.Clone ∷ sv 97 ∷ []) (0 ∷ 1 ∷ [])
form_clone = (refl, refl, refl, refl)

form_increment : IsExample (prefix tt pre.Increment (v 97)) (punct mark.PlusPlus ∷ sv 97 ∷ []) (0 ∷ 1 ∷ [])
form_increment = (refl, refl, refl, refl)

form_cast : IsExample (prefix tt pre.ToInt (v 97)) (cast to.Int ∷ sv 97 ∷ []) (0 ∷ 1 ∷ [])
form_cast = (refl, refl, refl, refl)

form_prefixes : IsExample (prefix tt pre.Silence (prefix tt pre.Minus (v 97))) (punct mark.At ∷ punct mark.Minus ∷ sv 97 ∷ []) (0 ∷ 1 ∷ 2 ∷ [])
form_prefixes = (refl, refl, refl, refl)

form_not : IsExample (prefix tt pre.Not (v 97)) (punct mark.Bang ∷ sv 97 ∷ []) (0 ∷ 1 ∷ [])
form_not = (refl, refl, refl, refl)

form_print : IsExample (prefix tt pre.Print (v 97)) (keyword word.Print ∷ sv 97 ∷ []) (0 ∷ 1 ∷ [])
form_print = (refl, refl, refl, refl)

form_yield_from : IsExample (prefix tt pre.YieldFrom (v 97)) (keyword word.YieldFrom ∷ sv 97 ∷ []) (0 ∷ 1 ∷ [])
form_yield_from = (refl, refl, refl, refl)

-- `$a++`, and `$a++ [` stops: a suffix stands behind an operand alone
form_count : IsExample (count (v 97) count.Up) (sv 97 ∷ punct mark.PlusPlus ∷ []) (0 ∷ 0 ∷ [])
form_count = (refl, refl, refl, refl)

count_stops : read (sv 97 ∷ punct mark.MinusMinus ∷ punct mark.LeftBracket ∷ [])
    ≡ record { tree = count (v 97) count.Down; missing = []; unread = punct mark.LeftBracket ∷ [] }
count_stops = refl

-- ---- operators

-- `1 + 2 * 3` and `1 * 2 + 3`: the higher power binds tighter
form_sum : IsExample (binary op.Plus (i 1) (binary op.Times (i 2) (i 3))) (si 1 ∷ punct mark.Plus ∷ si 2 ∷ punct mark.Star ∷ si 3 ∷ []) (0 ∷ 0 ∷ 0 ∷ 0 ∷ 0 ∷ [])
form_sum = (refl, refl, refl, refl)

form_product : IsExample (binary op.Plus (binary op.Times (i 1) (i 2)) (i 3)) (si 1 ∷ punct mark.Star ∷ si 2 ∷ punct mark.Plus ∷ si 3 ∷ []) (0 ∷ 0 ∷ 0 ∷ 0 ∷ 0 ∷ [])
form_product = (refl, refl, refl, refl)

-- `1 - 2 - 3` groups to the left, `1 ** 2 ** 3` and `$a ?? $b ?? $c` to the right
form_left : IsExample (binary op.Minus (binary op.Minus (i 1) (i 2)) (i 3)) (si 1 ∷ punct mark.Minus ∷ si 2 ∷ punct mark.Minus ∷ si 3 ∷ []) (0 ∷ 0 ∷ 0 ∷ 0 ∷ 0 ∷ [])
form_left = (refl, refl, refl, refl)

form_right : IsExample (binary op.Power (i 1) (binary op.Power (i 2) (i 3))) (si 1 ∷ punct mark.StarStar ∷ si 2 ∷ punct mark.StarStar ∷ si 3 ∷ []) (0 ∷ 0 ∷ 1 ∷ 1 ∷ 2 ∷ [])
form_right = (refl, refl, refl, refl)

form_coalesced : IsExample (binary op.Coalesced (v 97) (binary op.Coalesced (v 98) (v 99)))
    (sv 97 ∷ punct mark.QuestionQuestion ∷ sv 98 ∷ punct mark.QuestionQuestion ∷ sv 99 ∷ []) (0 ∷ 0 ∷ 1 ∷ 1 ∷ 2 ∷ [])
form_coalesced = (refl, refl, refl, refl)

-- `$a instanceof f`, `$a instanceof static`
form_instance_of : IsExample (instance_of (v 97) f) (sv 97 ∷ keyword word.InstanceOf ∷ sf ∷ []) (0 ∷ 0 ∷ 0 ∷ [])
form_instance_of = (refl, refl, refl, refl)

form_instance_of_static : IsExample (instance_of_static (v 97) tt) (sv 97 ∷ keyword word.InstanceOf ∷ keyword word.Static ∷ []) (0 ∷ 0 ∷ 0 ∷ [])
form_instance_of_static = (refl, refl, refl, refl)

-- `$a ? 1 : 2 ? 3 : 4` groups to the left, and `$a ?: 1`
form_choices : IsExample (choice (choice (v 97) (i 1) (i 2)) (i 3) (i 4))
    (sv 97 ∷ punct mark.Question ∷ si 1 ∷ punct mark.Colon ∷ si 2 ∷ punct mark.Question ∷ si 3 ∷ punct mark.Colon ∷ si 4 ∷ []) (0 ∷ 0 ∷ 1 ∷ 1 ∷ 0 ∷ 0 ∷ 1 ∷ 1 ∷ 0 ∷ [])
form_choices = (refl, refl, refl, refl)

form_short_choice : IsExample (short_choice (v 97) (i 1)) (sv 97 ∷ punct mark.Question ∷ punct mark.Colon ∷ si 1 ∷ []) (0 ∷ 0 ∷ 0 ∷ 0 ∷ [])
form_short_choice = (refl, refl, refl, refl)

-- `$a .= 1`, `$a = &$b`: the right side opens behind the `&`
form_set : IsExample (assign (by_value set.Concatenated) (v 97) (i 1)) (sv 97 ∷ punct mark.DotAssign ∷ si 1 ∷ []) (0 ∷ 0 ∷ 1 ∷ [])
form_set = (refl, refl, refl, refl)

form_by_reference : IsExample (assign by_reference (v 97) (v 98)) (sv 97 ∷ punct mark.Assign ∷ punct mark.Ampersand ∷ sv 98 ∷ []) (0 ∷ 0 ∷ 0 ∷ 1 ∷ [])
form_by_reference = (refl, refl, refl, refl)

-- ---- `yield`

-- `(yield)`, `yield $a`, `yield $a => $b`
form_yield : IsExample (enclosed tt parentheses (yield_nothing tt)) (punct mark.LeftParen ∷ keyword word.Yield ∷ punct mark.RightParen ∷ []) (0 ∷ 1 ∷ 1 ∷ [])
form_yield = (refl, refl, refl, refl)

form_yield_value : IsExample (yield_value tt (v 97)) (keyword word.Yield ∷ sv 97 ∷ []) (0 ∷ 1 ∷ [])
form_yield_value = (refl, refl, refl, refl)

form_yield_pair : IsExample (yield_pair tt (v 97) (v 98)) (keyword word.Yield ∷ sv 97 ∷ punct mark.DoubleArrow ∷ sv 98 ∷ []) (0 ∷ 1 ∷ 1 ∷ 1 ∷ [])
form_yield_pair = (refl, refl, refl, refl)

-- ---- the first token that is too deep

-- `1` in so many parentheses
abbrev grouped : ℕ → Form
grouped zero = i 1
grouped (suc n) = enclosed tt parentheses (grouped n)

-- 128 parentheses are allowed; of 129 the `1` is too deep, which is token 129
nested_enough : first_too_deep 0 (depths_read (expects []) (spell (grouped 128) [])) ≡ None
nested_enough = refl

nested_too_deep : first_too_deep 0 (depths_read (expects []) (spell (grouped 129) [])) ≡ Some 129
nested_too_deep = refl

-- inside 127 further constructs the second parenthesis is one too many
nested_further : first_too_deep 127 (depths_read (expects []) (spell (grouped 2) [])) ≡ Some 2
nested_further = refl
