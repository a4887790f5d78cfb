-- Examples of reading statements, each by computing: the spelling of a tree is read back to that tree, and the nesting
-- counted at each symbol is that of the tree.
use Rattle.std.proofs.Common.{◌≡◌, ℕ, pos, true, false, Some, None, [], ◌∷◌, refl}
use Rattle.php_token.specs.declared.kind.Keyword.TheVariants as word
use Rattle.php_token.specs.declared.kind.Punct.TheVariants as mark
use Rattle.php_ast.specs.declared.statement.SwitchForm.TheVariants as switch_form
use Rattle.php_ast.specs.declared.statement.CaseEnd.TheVariants as case_end
use Rattle.php_ast.specs.declared.operator.Count.TheVariants as count
use Rattle.php_ast.specs.Symbol as symbol
use Rattle.php_ast.specs.Symbol.{Symbol, keyword, punct}
use Rattle.php_ast.specs.expression.Tree.{variable, held, leaf, static_member, count, choice, yield_nothing, yield_value, yield_pair, none, and, plain}
use Rattle.php_grammar.specs.expression.Machine.{Form, Nothing, any, any_symbol}
use Rattle.php_ast.specs.statement.Tree.{empty, then_also, Name, Target, Statement, block, blank, inline, expression, echo, globals, statics, unset, constants, jump, throw, if_only, if_else, if_lists, if_else_lists, while, do_while, for, foreach, switch, try_catch, try_finally, declares, returning, breaking, continuing, Statements, no_statement, and_statement, no_elseif, and_elseif, no_elseif_list, and_elseif_list, single, list_behind_colon, no_case, and_case, no_catch, and_catch}
use Rattle.php_ast.specs.statement.Spelling.{spell_statement}
use Rattle.php_ast.specs.statement.Nesting.{nests_statement}
use Rattle.php_grammar.specs.statement.Forms.{due_statement}
use Rattle.php_grammar.specs.statement.Reading.{StatementReading, any_statement, read_statement}
use Rattle.php_grammar.specs.statement.Depth.{statement_depths_read}

-- ---- shorthand, as in StatementExamples

abbrev v : ℕ → Form
v letter = leaf tt (variable (letter ∷ []))

abbrev sv : ℕ → Symbol
sv letter = symbol.variable (letter ∷ [])

abbrev line : ℕ → Statement Nothing
line letter = expression tt (v letter)

abbrev n : ℕ → Name Nothing
n letter = record { note = tt; text = letter ∷ [] }

abbrev one : Statement Nothing → Statements Nothing
one s = and_statement no_statement s

abbrev two : Statement Nothing → Statement Nothing → Statements Nothing
two a b = and_statement (one a) b

abbrev target : ℕ → Target Nothing
target letter = record { is_reference = false; place = v letter }

abbrev reference : ℕ → Target Nothing
reference letter = record { is_reference = true; place = v letter }

abbrev whole : Statement Nothing → StatementReading
whole a = record { tree = a; missing = []; unread = [] }

-- The tree is read back, and its nesting is counted.
abbrev IsRead : Statement Nothing → Type 0
IsRead a =
    (read_statement (spell_statement a []) ≡ whole a) × (statement_depths_read (due_statement []) (spell_statement a []) ≡ nests_statement a 0 [])

-- ---- simple statements

-- `;`, bytes outside the tags, `$a;`, `{ $a; ; }`
read_blank : IsRead (blank tt)
read_blank = (refl, refl)

read_inline : IsRead (inline tt (60 ∷ []))
read_inline = (refl, refl)

read_line : IsRead (line 97)
read_line = (refl, refl)

read_block : IsRead (block tt (two (line 97) (blank tt)))
read_block = (refl, refl)

-- `echo $a, $b;` and `unset($a, $b);`
read_echo : IsRead (echo tt (and (and none plain (v 97)) plain (v 98)))
read_echo = (refl, refl)

read_unset : IsRead (unset tt (and (and none plain (v 97)) plain (v 98)))
read_unset = (refl, refl)

-- `global $a, $b;`, `static $a, $b = $c;` and `const A = $a, B = $b;`
read_globals : IsRead (globals tt (then_also (then_also empty (n 97)) (n 98)))
read_globals = (refl, refl)

read_statics : IsRead (statics tt (then_also (then_also empty (record { name = n 97; value = None })) (record { name = n 98; value = Some (v 99) })))
read_statics = (refl, refl)

read_constants : IsRead (constants tt (then_also (then_also empty (record { name = n 65; value = v 97 })) (record { name = n 66; value = v 98 })))
read_constants = (refl, refl)

-- `static::$a;` is an expression
read_static_member : IsRead (expression tt (static_member tt (held tt (97 ∷ []))))
read_static_member = (refl, refl)

-- `return;`, `return yield;`, `break $a;`, `continue;` and `throw $a;`
read_return : IsRead (jump tt returning None)
read_return = (refl, refl)

read_return_yield : IsRead (jump tt returning (Some (yield_nothing tt)))
read_return_yield = (refl, refl)

read_break : IsRead (jump tt breaking (Some (v 97)))
read_break = (refl, refl)

read_continue : IsRead (jump tt continuing None)
read_continue = (refl, refl)

read_throw : IsRead (throw tt (v 97))
read_throw = (refl, refl)

-- `declare(a = 1);`
read_declare : IsRead (declares tt (n 97) (pos 1))
read_declare = (refl, refl)

-- ---- the nearest `if`

-- `if ($a) if ($b) $c; else $d;`: the `else` belongs to the second `if`
read_nearest : IsRead (if_only tt (v 97) (if_else tt (v 98) (line 99) no_elseif (line 100)) no_elseif)
read_nearest = (refl, refl)

-- `if ($a) if ($b) $c; elseif ($d) $e; else $f;`: both parts belong to the second `if`
read_nearest_part : IsRead (if_only tt (v 97) (if_else tt (v 98) (line 99) (and_elseif no_elseif (v 100) (line 101)) (line 102)) no_elseif)
read_nearest_part = (refl, refl)

-- `if ($a) { if ($b) $c; } else $d;`: braces keep it away
read_else_outside : IsRead (if_else tt (v 97) (block tt (one (if_only tt (v 98) (line 99) no_elseif))) no_elseif (line 100))
read_else_outside = (refl, refl)

-- `if ($a): if ($b) $c; else $d; else: $e; endif;`: the first `else` belongs to the inner `if`, the second to the list
read_nearest_in_list : IsRead (if_else_lists tt (v 97) (one (if_else tt (v 98) (line 99) no_elseif (line 100))) no_elseif_list (one (line 101)))
read_nearest_in_list = (refl, refl)

-- `if ($a): if ($b) $c; else: ..` stops at the colon, since the `else` belongs to the inner `if`
stops_in_list :
    read_statement
    (keyword word.If ∷ punct mark.LeftParen ∷ sv 97 ∷ punct mark.RightParen ∷ punct mark.Colon ∷ keyword word.If ∷ punct mark.LeftParen ∷ sv 98
    ∷ punct mark.RightParen ∷ sv 99 ∷ punct mark.Semicolon ∷ keyword word.Else ∷ punct mark.Colon ∷ [])
    ≡ record {
      tree = if_lists tt (v 97) (one (if_else tt (v 98) (line 99) no_elseif any_statement)) no_elseif_list;
      missing = punct mark.Semicolon ∷ keyword word.EndIf ∷ punct mark.Semicolon ∷ [];
      unread = punct mark.Colon ∷ [];
    }
stops_in_list = refl

-- `if ($a) while ($b) if ($c) $d; else $e;`: through a loop
read_through_loop : IsRead (if_only tt (v 97) (while tt (v 98) (single (if_else tt (v 99) (line 100) no_elseif (line 101)))) no_elseif)
read_through_loop = (refl, refl)

-- `if ($a) do if ($b) $c; while ($d); else $e;`: a `do` ends with its `while`
read_past_do : IsRead (if_else tt (v 97) (do_while tt (if_only tt (v 98) (line 99) no_elseif) (v 100)) no_elseif (line 101))
read_past_do = (refl, refl)

-- `if ($a) $b; elseif ($c) { $d; } elseif ($e) $f; else {}`
read_elseifs : IsRead (if_else tt (v 97) (line 98) (and_elseif (and_elseif no_elseif (v 99) (block tt (one (line 100)))) (v 101) (line 102)) (block tt no_statement))
read_elseifs = (refl, refl)

-- `if ($a): $b; elseif ($c): $d; elseif ($e): else: $f; endif;` and `if ($a): endif;`
read_elseif_lists :
    IsRead (if_else_lists tt (v 97) (one (line 98)) (and_elseif_list (and_elseif_list no_elseif_list (v 99) (one (line 100))) (v 101) no_statement) (one (line 102)))
read_elseif_lists = (refl, refl)

read_endif : IsRead (if_lists tt (v 97) no_statement no_elseif_list)
read_endif = (refl, refl)

-- ---- loops

-- `while ($a) $b;`, `while ($a) {}` and `while ($a): $b; endwhile;`
read_while : IsRead (while tt (v 97) (single (line 98)))
read_while = (refl, refl)

read_while_block : IsRead (while tt (v 97) (single (block tt no_statement)))
read_while_block = (refl, refl)

read_endwhile : IsRead (while tt (v 97) (list_behind_colon (one (line 98))))
read_endwhile = (refl, refl)

-- `do while ($a) $b; while ($c);` and `do {} while ($a);`
read_do : IsRead (do_while tt (while tt (v 97) (single (line 98))) (v 99))
read_do = (refl, refl)

read_do_block : IsRead (do_while tt (block tt no_statement) (v 97))
read_do_block = (refl, refl)

-- `for (;;);`, `for ($a, $b; $c; $d++) {}` and `for (;;): $a; endfor;`
read_for_ever : IsRead (for tt none none none (single (blank tt)))
read_for_ever = (refl, refl)

read_for :
    IsRead (for tt (and (and none plain (v 97)) plain (v 98)) (and none plain (v 99)) (and none plain (count (v 100) count.Up)) (single (block tt no_statement)))
read_for = (refl, refl)

read_endfor : IsRead (for tt none none none (list_behind_colon (one (line 97))))
read_endfor = (refl, refl)

-- `foreach ($a as $b) $c;`, `foreach ($a as $b => &$c) {}` and `foreach ($a as &$b): $c; endforeach;`
read_foreach : IsRead (foreach tt (v 97) None (target 98) (single (line 99)))
read_foreach = (refl, refl)

read_foreach_key : IsRead (foreach tt (v 97) (Some (target 98)) (reference 99) (single (block tt no_statement)))
read_foreach_key = (refl, refl)

read_endforeach : IsRead (foreach tt (v 97) None (reference 98) (list_behind_colon (one (line 99))))
read_endforeach = (refl, refl)

-- `foreach ($a as yield $b => $c) ..`: the arrow belongs to the `yield`
read_foreach_yield : IsRead (foreach tt (v 97) None (record { is_reference = false; place = yield_pair tt (v 98) (v 99) }) (single (line 100)))
read_foreach_yield = (refl, refl)

-- ---- `switch`

-- `switch ($a) { case $b: $c; default; case $d ? $e : $f: }` and `switch ($a): endswitch;`
read_switch :
    IsRead (switch tt (v 97) switch_form.Braces (and_case (and_case (and_case no_case tt (Some (v 98)) case_end.Colon (one (line 99)))
    tt None case_end.Semicolon no_statement) tt (Some (choice (v 100) (v 101) (v 102))) case_end.Colon no_statement))
read_switch = (refl, refl)

read_endswitch : IsRead (switch tt (v 97) switch_form.Colon no_case)
read_endswitch = (refl, refl)

-- `switch ($a): case $b; $c; $d; endswitch;`
read_case_list : IsRead (switch tt (v 97) switch_form.Colon (and_case no_case tt (Some (v 98)) case_end.Semicolon (two (line 99) (line 100))))
read_case_list = (refl, refl)

-- ---- `try`

-- `try { $a; } catch (A | B $e) { $b; } catch (C $f) {}` and `try {} finally { $a; }`
read_try :
    IsRead (try_catch tt (one (line 97)) (and_catch (and_catch no_catch (then_also (then_also empty (n 65)) (n 66)) (n 101) (one (line 98))) (then_also empty (n 67)) (n 102) no_statement))
read_try = (refl, refl)

read_finally : IsRead (try_finally tt no_statement no_catch (one (line 97)))
read_finally = (refl, refl)

-- `if ($a) try {} catch (A $e) {} finally {} else $b;`
read_try_in_if : IsRead (if_else tt (v 97) (try_finally tt no_statement (and_catch no_catch (then_also empty (n 65)) (n 101) no_statement) no_statement) no_elseif (line 98))
read_try_in_if = (refl, refl)

-- `if ($a) try {} catch (A $e) {} else $b;`: the `else` ends the `try`
read_catch_in_if : IsRead (if_else tt (v 97) (try_catch tt no_statement (and_catch no_catch (then_also empty (n 65)) (n 101) no_statement)) no_elseif (line 98))
read_catch_in_if = (refl, refl)

-- ---- what is missing, and what can't go on

-- `try {}` alone lacks a `finally` or a `catch`
stops_try : read_statement (keyword word.Try ∷ punct mark.LeftBrace ∷ punct mark.RightBrace ∷ [])
    ≡ record {
      tree = try_finally tt no_statement no_catch no_statement;
      missing = keyword word.Finally ∷ punct mark.LeftBrace ∷ punct mark.RightBrace ∷ [];
      unread = [];
    }
stops_try = refl

-- `case yield` may end with `;` and not with `:`
stops_yield_label :
    read_statement
    (keyword word.Switch ∷ punct mark.LeftParen ∷ sv 97 ∷ punct mark.RightParen ∷ punct mark.LeftBrace ∷ keyword word.Case ∷ keyword word.Yield ∷ punct mark.Colon ∷ [])
    ≡ record {
      tree = switch tt (v 97) switch_form.Braces (and_case no_case tt (Some (yield_nothing tt)) case_end.Semicolon no_statement);
      missing = punct mark.Semicolon ∷ punct mark.RightBrace ∷ [];
      unread = punct mark.Colon ∷ [];
    }
stops_yield_label = refl

-- `foreach (yield as $b)` stops at the `as`: the `yield` needs an operand there
stops_yield_walked : read_statement (keyword word.Foreach ∷ punct mark.LeftParen ∷ keyword word.Yield ∷ keyword word.As ∷ [])
    ≡ record {
      tree = foreach tt (yield_value tt any) None (record { is_reference = false; place = any }) (single any_statement);
      missing = any_symbol ∷ keyword word.As ∷ any_symbol ∷ punct mark.RightParen ∷ punct mark.Semicolon ∷ [];
      unread = keyword word.As ∷ [];
    }
stops_yield_walked = refl

-- `echo $a $b` stops at `$b`, `echo ;` at the `;`, and `global $a = ..` at the `=`
stops_echo : read_statement (keyword word.Echo ∷ sv 97 ∷ sv 98 ∷ [])
    ≡ record { tree = echo tt (and none plain (v 97)); missing = punct mark.Semicolon ∷ []; unread = sv 98 ∷ [] }
stops_echo = refl

stops_echo_alone : read_statement (keyword word.Echo ∷ punct mark.Semicolon ∷ [])
    ≡ record { tree = echo tt (and none plain any); missing = any_symbol ∷ punct mark.Semicolon ∷ []; unread = punct mark.Semicolon ∷ [] }
stops_echo_alone = refl

stops_global : read_statement (keyword word.Global ∷ sv 97 ∷ punct mark.Assign ∷ [])
    ≡ record { tree = globals tt (then_also empty (n 97)); missing = punct mark.Semicolon ∷ []; unread = punct mark.Assign ∷ [] }
stops_global = refl

-- `if ($a) $b; $c;` ends in front of `$c`
stops_behind : read_statement (spell_statement (if_only tt (v 97) (line 98) no_elseif) (sv 99 ∷ punct mark.Semicolon ∷ []))
    ≡ record { tree = if_only tt (v 97) (line 98) no_elseif; missing = []; unread = sv 99 ∷ punct mark.Semicolon ∷ [] }
stops_behind = refl
