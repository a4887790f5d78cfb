-- Examples of spelling, of proper trees, of nesting and of reading, each by computing.
use Rattle.std.proofs.Common.{◌≡◌, ℕ, pos, [], ◌∷◌, refl, arith}
use Rattle.php_token.specs.declared.kind.Keyword.TheVariants as word
use Rattle.php_token.specs.declared.kind.Punct.TheVariants as mark
use Rattle.php_ast.specs.declared.operator.Binary.TheVariants as op
use Rattle.php_ast.specs.declared.operator.Prefix.TheVariants as pre
use Rattle.php_ast.specs.declared.operator.Assign.TheVariants as set
use Rattle.php_ast.specs.declared.operator.ArrayForm.TheVariants as form
use Rattle.php_ast.specs.Symbol as symbol
use Rattle.php_ast.specs.Symbol.{Symbol, keyword, punct}
use Rattle.php_ast.specs.expression.Tree.{append, instance_of, variable, int, name, parentheses, array, thin, by_value, named, leaf, template, enclosed, listed, index, selected, call, new, new_with, prefix, binary, choice, assign, yield_value, yield_pair, yield_nothing, none, and, skip, plain, keyed, no_piece, bytes, value, class_name, class_found, from, step_property, step_index}
use Rattle.php_ast.specs.expression.Spelling.{spell}
use Rattle.php_ast.specs.expression.Proper.{Proper}
use Rattle.php_ast.specs.expression.Nesting.{nests}
use Rattle.php_grammar.specs.expression.Machine.{Form, Reading, any, any_symbol, read}

-- ---- shorthand: `$x`, small integers, the name `f`, and a reading of all symbols

abbrev v : ℕ → Form
v letter = leaf tt (variable (letter ∷ []))

abbrev sv : ℕ → Symbol
sv letter = symbol.variable (letter ∷ [])

abbrev i : ℕ → Form
i number = leaf tt (int (pos number))

abbrev si : ℕ → Symbol
si number = symbol.int (pos number)

abbrev f : Form
f = leaf tt (name (102 ∷ []))

abbrev sf : Symbol
sf = symbol.name (102 ∷ [])

abbrev whole : Form → Reading
whole e = record { tree = e; missing = []; unread = [] }

-- ---- powers

-- `-2**2` is the negation of a power, and no power of a negation
negated_power : read (punct mark.Minus ∷ si 2 ∷ punct mark.StarStar ∷ si 2 ∷ [])
    ≡ whole (prefix tt pre.Minus (binary op.Power (i 2) (i 2)))
negated_power = refl

negated_power-proper : Proper (prefix tt pre.Minus (binary op.Power (i 2) (i 2)))
negated_power-proper = (omega arith, (omega arith, omega arith, tt, tt))

power_of_negation-improper : Proper (binary op.Power (prefix tt pre.Minus (i 2)) (i 2)) → ⊥
power_of_negation-improper p = omega (arith, p.0)

-- `2**-1`
power_to_negation : read (si 2 ∷ punct mark.StarStar ∷ punct mark.Minus ∷ si 1 ∷ [])
    ≡ whole (binary op.Power (i 2) (prefix tt pre.Minus (i 1)))
power_to_negation = refl

-- `!$a = f()`
not_assigned : read (punct mark.Bang ∷ sv 97 ∷ punct mark.Assign ∷ sf ∷ punct mark.LeftParen ∷ punct mark.RightParen ∷ [])
    ≡ whole (prefix tt pre.Not (assign (by_value set.Plain) (v 97) (call f none)))
not_assigned = refl

-- `1 + 2 . 3` is one run
one_run : read (si 1 ∷ punct mark.Plus ∷ si 2 ∷ punct mark.Dot ∷ si 3 ∷ [])
    ≡ whole (binary op.Concatenated (binary op.Plus (i 1) (i 2)) (i 3))
one_run = refl

-- `$a ?? $b ?? $c` groups to the right
coalesced : read (sv 97 ∷ punct mark.QuestionQuestion ∷ sv 98 ∷ punct mark.QuestionQuestion ∷ sv 99 ∷ [])
    ≡ whole (binary op.Coalesced (v 97) (binary op.Coalesced (v 98) (v 99)))
coalesced = refl

-- `$a = $b = 3`
assigned_twice : read (sv 97 ∷ punct mark.Assign ∷ sv 98 ∷ punct mark.Assign ∷ si 3 ∷ [])
    ≡ whole (assign (by_value set.Plain) (v 97) (assign (by_value set.Plain) (v 98) (i 3)))
assigned_twice = refl

-- `print $x and $y`
printed : read (keyword word.Print ∷ sv 120 ∷ keyword word.And ∷ sv 121 ∷ [])
    ≡ whole (binary op.WordAnd (prefix tt pre.Print (v 120)) (v 121))
printed = refl

-- `1 < 2 < 3` stops at the second `<`, and so does `print 1 < 2 < 3`
ungrouped_twice : read (si 1 ∷ punct mark.Less ∷ si 2 ∷ punct mark.Less ∷ si 3 ∷ [])
    ≡ record { tree = binary op.Less (i 1) (i 2); missing = []; unread = punct mark.Less ∷ si 3 ∷ [] }
ungrouped_twice = refl

ungrouped_printed : read (keyword word.Print ∷ si 1 ∷ punct mark.Less ∷ si 2 ∷ punct mark.Less ∷ si 3 ∷ [])
    ≡ record { tree = prefix tt pre.Print (binary op.Less (i 1) (i 2)); missing = []; unread = punct mark.Less ∷ si 3 ∷ [] }
ungrouped_printed = refl

ungrouped_left-improper : Proper (binary op.Less (binary op.Less (i 1) (i 2)) (i 3)) → ⊥
ungrouped_left-improper p = omega (arith, p.0)

ungrouped_right-improper : Proper (binary op.Less (i 1) (binary op.Less (i 2) (i 3))) → ⊥
ungrouped_right-improper p = omega (arith, p.1)

-- ---- `yield`

-- `yield $k => $v`
yielded_pair : read (keyword word.Yield ∷ sv 107 ∷ punct mark.DoubleArrow ∷ sv 118 ∷ []) ≡ whole (yield_pair tt (v 107) (v 118))
yielded_pair = refl

-- `[yield 1 => 2]`: the arrow belongs to the `yield`
yielded_in_array : read (punct mark.LeftBracket ∷ keyword word.Yield ∷ si 1 ∷ punct mark.DoubleArrow ∷ si 2 ∷ punct mark.RightBracket ∷ [])
    ≡ whole (listed tt (array form.Brackets) (and none plain (yield_pair tt (i 1) (i 2))))
yielded_in_array = refl

-- `yield yield 1 => 2 => 3`
yielded_twice : read (keyword word.Yield ∷ keyword word.Yield ∷ si 1 ∷ punct mark.DoubleArrow ∷ si 2 ∷ punct mark.DoubleArrow ∷ si 3 ∷ [])
    ≡ whole (yield_pair tt (yield_pair tt (i 1) (i 2)) (i 3))
yielded_twice = refl

-- `yield;` and `(yield)`, and `yield +` begins a prefix operator
yielded_nothing : read (keyword word.Yield ∷ punct mark.Semicolon ∷ [])
    ≡ record { tree = yield_nothing tt; missing = []; unread = punct mark.Semicolon ∷ [] }
yielded_nothing = refl

yielded_in_parentheses : read (punct mark.LeftParen ∷ keyword word.Yield ∷ punct mark.RightParen ∷ []) ≡ whole (enclosed tt parentheses (yield_nothing tt))
yielded_in_parentheses = refl

-- ---- operands

-- `new $c->d[1](2)`
new_of_steps : read (keyword word.New ∷ sv 99 ∷ punct mark.Arrow ∷ symbol.name (100 ∷ []) ∷ punct mark.LeftBracket ∷ si 1 ∷ punct mark.RightBracket
    ∷ punct mark.LeftParen ∷ si 2 ∷ punct mark.RightParen ∷ [])
    ≡ whole (new_with tt (class_found (step_index (step_property (from tt (99 ∷ [])) (named tt (100 ∷ []))) (i 1))) (and none plain (i 2)))
new_of_steps = refl

-- `(new f)->d`, and `new f->d` stops at the `->`
new_in_parentheses : read (punct mark.LeftParen ∷ keyword word.New ∷ sf ∷ punct mark.RightParen ∷ punct mark.Arrow ∷ symbol.name (100 ∷ []) ∷ [])
    ≡ whole (selected (enclosed tt parentheses (new tt (class_name tt (102 ∷ [])))) thin (named tt (100 ∷ [])))
new_in_parentheses = refl

new_stops : read (keyword word.New ∷ sf ∷ punct mark.Arrow ∷ symbol.name (100 ∷ []) ∷ [])
    ≡ record { tree = new tt (class_name tt (102 ∷ [])); missing = []; unread = punct mark.Arrow ∷ symbol.name (100 ∷ []) ∷ [] }
new_stops = refl

-- `"x$b[0]{$c}"`
text_with_parts : read (symbol.quote ∷ symbol.piece (120 ∷ []) ∷ symbol.part ∷ sv 98 ∷ punct mark.LeftBracket ∷ si 0 ∷ punct mark.RightBracket ∷ symbol.end_part
    ∷ symbol.part ∷ sv 99 ∷ symbol.end_part ∷ symbol.unquote ∷ [])
    ≡ whole (template tt (value (value (bytes no_piece (120 ∷ [])) (index (v 98) (i 0))) (v 99)))
text_with_parts = refl

-- `$x instanceof f()` stops behind the call, and lacks a suffix there
class_by_call : read (sv 120 ∷ keyword word.InstanceOf ∷ sf ∷ punct mark.LeftParen ∷ punct mark.RightParen ∷ punct mark.Semicolon ∷ [])
    ≡ record {
      tree = instance_of (v 120) (append (call f none));
      missing = punct mark.LeftBracket ∷ punct mark.RightBracket ∷ [];
      unread = punct mark.Semicolon ∷ [];
    }
class_by_call = refl

-- `[1, , 2 => $a, ]`
array_with_holes : read (punct mark.LeftBracket ∷ si 1 ∷ punct mark.Comma ∷ punct mark.Comma ∷ si 2 ∷ punct mark.DoubleArrow ∷ sv 97 ∷ punct mark.Comma ∷ punct mark.RightBracket ∷ [])
    ≡ whole (listed tt (array form.Brackets) (skip (and (skip (and none plain (i 1))) (keyed (i 2)) (v 97))))
array_with_holes = refl

-- `f(1, 2 ? 3` begins an expression; it lacks `: $x)`
call_cut_off : read (sf ∷ punct mark.LeftParen ∷ si 1 ∷ punct mark.Comma ∷ si 2 ∷ punct mark.Question ∷ si 3 ∷ [])
    ≡ record {
      tree = call f (and (and none plain (i 1)) plain (choice (i 2) (i 3) any));
      missing = punct mark.Colon ∷ any_symbol ∷ punct mark.RightParen ∷ [];
      unread = [];
    }
call_cut_off = refl

-- ---- nesting

-- `(1)`, `f(1)`, `$a[1]`: the opening token is outside, the closing one inside
nests_parentheses : nests (enclosed tt parentheses (i 1)) 0 [] ≡ 0 ∷ 1 ∷ 1 ∷ []
nests_parentheses = refl

nests_call : nests (call f (and (and none plain (i 1)) plain (i 2))) 0 [] ≡ 0 ∷ 0 ∷ 1 ∷ 1 ∷ 1 ∷ 1 ∷ []
nests_call = refl

nests_index : nests (index (v 97) (i 1)) 0 [] ≡ 0 ∷ 0 ∷ 1 ∷ 1 ∷ []
nests_index = refl

-- `- - 1`, and `1 + 2`
nests_prefix : nests (prefix tt pre.Minus (prefix tt pre.Minus (i 1))) 0 [] ≡ 0 ∷ 1 ∷ 2 ∷ []
nests_prefix = refl

nests_sum : nests (binary op.Plus (i 1) (i 2)) 0 [] ≡ 0 ∷ 0 ∷ 0 ∷ []
nests_sum = refl

-- `$a ** $b ** $c`, `$a = 1`, and `1 ? 2 : 3`
nests_powers : nests (binary op.Power (v 97) (binary op.Power (v 98) (v 99))) 0 [] ≡ 0 ∷ 0 ∷ 1 ∷ 1 ∷ 2 ∷ []
nests_powers = refl

nests_assigned : nests (assign (by_value set.Plain) (v 97) (i 1)) 0 [] ≡ 0 ∷ 0 ∷ 1 ∷ []
nests_assigned = refl

nests_choice : nests (choice (i 1) (i 2) (i 3)) 0 [] ≡ 0 ∷ 0 ∷ 1 ∷ 1 ∷ 0 ∷ []
nests_choice = refl

-- `"{$a}"`: the quotes don't nest, the part does
nests_part : nests (template tt (value no_piece (v 97))) 0 [] ≡ 0 ∷ 0 ∷ 1 ∷ 1 ∷ 0 ∷ []
nests_part = refl

-- ---- spelling

spelled_array : spell (listed tt (array form.Array) (skip (and none (keyed (i 1)) (v 97)))) []
    ≡ keyword word.Array ∷ punct mark.LeftParen ∷ si 1 ∷ punct mark.DoubleArrow ∷ sv 97 ∷ punct mark.Comma ∷ punct mark.RightParen ∷ []
spelled_array = refl

spelled_nothing : spell (yield_value (tt {0}) (v 97)) [] ≡ keyword word.Yield ∷ sv 97 ∷ []
spelled_nothing = refl
