-- Examples of the spelling of statements and declarations, and of the nearest `if`, by computing.
use Rattle.std.proofs.Common.{◌≡◌, ℕ, pos, true, false, Some, None, [], ◌∷◌, refl}
use Rattle.php_token.specs.declared.kind.Keyword.TheVariants as word
use Rattle.php_token.specs.declared.kind.Punct.TheVariants as mark
use Rattle.php_ast.specs.declared.statement.SwitchForm.TheVariants as switch_form
use Rattle.php_ast.specs.declared.statement.CaseEnd.TheVariants as case_end
use Rattle.php_ast.specs.declared.declaration.ModifierWord.TheVariants as modifier
use Rattle.php_ast.specs.declared.declaration.ClassModifier.TheVariants as class_word
use Rattle.php_ast.specs.declared.declaration.Visibility.TheVariants as visibility
use Rattle.php_ast.specs.Symbol as symbol
use Rattle.php_ast.specs.Symbol.{Symbol, keyword, punct}
use Rattle.php_ast.specs.expression.Tree as tree
use Rattle.php_ast.specs.expression.Tree.{variable, int, leaf, none, and, plain}
use Rattle.php_grammar.specs.expression.Machine.{Form, Nothing}
use Rattle.php_ast.specs.statement.Tree.{empty, then_also, Name, Statement, block, expression, echo, statics, unset, jump, if_only, if_else, if_else_lists, while, do_while, for, foreach, switch, try_catch, try_finally, declares, returning, Statements, no_statement, and_statement, no_elseif, and_elseif, no_elseif_list, and_elseif_list, single, list_behind_colon, no_case, and_case, no_catch, and_catch}
use Rattle.php_ast.specs.statement.Spelling.{spell_statement}
use Rattle.php_ast.specs.statement.Proper.{IsProper}
use Rattle.php_ast.specs.statement.Nesting.{nests_statement}
use Rattle.php_ast.specs.expression.Placed.{Notes}
use Rattle.php_ast.specs.statement.Placed.{noted_statement}
use Rattle.php_ast.specs.declaration.Proper.{IsProperRule}
use Rattle.php_ast.specs.declaration.Tree.{Rule, of_array, of_name, of_class, of_function, renames, uses_by, properties}
use Rattle.php_ast.specs.declaration.Spelling.{spell_script}

-- ---- shorthand: `$x`, `$x;`, the name `n`, a small integer

abbrev v : ℕ → Form
v letter = leaf tt (variable (letter ∷ []))

abbrev sv : ℕ → Symbol
sv letter = symbol.variable (letter ∷ [])

abbrev line : ℕ → Statement Nothing
line letter = expression tt (v letter)

abbrev n : ℕ → Name Nothing
n letter = record { note = tt; text = letter ∷ [] }

abbrev sn : ℕ → Symbol
sn letter = symbol.name (letter ∷ [])

abbrev one : Statement Nothing → Statements Nothing
one s = and_statement no_statement s

-- ---- the nearest `if`

-- `if ($a) if ($b) $c; else $d;`: the `else` belongs to the second `if`
abbrev inner : Statement Nothing
inner = if_only tt (v 97) (if_else tt (v 98) (line 99) no_elseif (line 100)) no_elseif

abbrev outer : Statement Nothing
outer = if_else tt (v 97) (if_only tt (v 98) (line 99) no_elseif) no_elseif (line 100)

spelled_alike : spell_statement inner [] ≡ spell_statement outer []
spelled_alike = refl

inner-proper : IsProper inner
inner-proper = (tt, (tt, tt, tt, tt, refl, tt), tt, tt)

outer-improper : IsProper outer → ⊥
outer-improper p = let e : true ≡ false = p.4 in cc

-- in lists: `if ($a): if ($b) $c; else: $d; endif;` is spelled by no proper tree of this form
lists-improper : IsProper (if_else_lists tt (v 97) (one (if_only tt (v 98) (line 99) no_elseif)) no_elseif_list (one (line 100))) → ⊥
lists-improper p = let e : true ≡ false = p.4 in cc

-- `if ($a): $b; else: $c; endif;`
spelled_lists : spell_statement (if_else_lists tt (v 97) (one (line 98)) no_elseif_list (one (line 99))) []
    ≡ keyword word.If ∷ punct mark.LeftParen ∷ sv 97 ∷ punct mark.RightParen ∷ punct mark.Colon ∷ sv 98 ∷ punct mark.Semicolon
    ∷ keyword word.Else ∷ punct mark.Colon ∷ sv 99 ∷ punct mark.Semicolon ∷ keyword word.EndIf ∷ punct mark.Semicolon ∷ []
spelled_lists = refl

-- `if ($a) $b; elseif ($c) $d;`
spelled_elseif : spell_statement (if_only tt (v 97) (line 98) (and_elseif no_elseif (v 99) (line 100))) []
    ≡ keyword word.If ∷ punct mark.LeftParen ∷ sv 97 ∷ punct mark.RightParen ∷ sv 98 ∷ punct mark.Semicolon
    ∷ keyword word.ElseIf ∷ punct mark.LeftParen ∷ sv 99 ∷ punct mark.RightParen ∷ sv 100 ∷ punct mark.Semicolon ∷ []
spelled_elseif = refl

-- ---- loops, `switch`, `try`

-- `while ($a) {}` and `while ($a): endwhile;`
spelled_while : spell_statement (while tt (v 97) (single (block tt no_statement))) []
    ≡ keyword word.While ∷ punct mark.LeftParen ∷ sv 97 ∷ punct mark.RightParen ∷ punct mark.LeftBrace ∷ punct mark.RightBrace ∷ []
spelled_while = refl

spelled_endwhile : spell_statement (while tt (v 97) (list_behind_colon no_statement)) []
    ≡ keyword word.While ∷ punct mark.LeftParen ∷ sv 97 ∷ punct mark.RightParen ∷ punct mark.Colon ∷ keyword word.EndWhile ∷ punct mark.Semicolon ∷ []
spelled_endwhile = refl

-- `do $a; while ($b);`
spelled_do : spell_statement (do_while tt (line 97) (v 98)) []
    ≡ keyword word.Do ∷ sv 97 ∷ punct mark.Semicolon ∷ keyword word.While ∷ punct mark.LeftParen ∷ sv 98 ∷ punct mark.RightParen ∷ punct mark.Semicolon ∷ []
spelled_do = refl

-- `for ($a, $b; ; $c) {}`
spelled_for : spell_statement (for tt (and (and none plain (v 97)) plain (v 98)) none (and none plain (v 99)) (single (block tt no_statement))) []
    ≡ keyword word.For ∷ punct mark.LeftParen ∷ sv 97 ∷ punct mark.Comma ∷ sv 98 ∷ punct mark.Semicolon ∷ punct mark.Semicolon ∷ sv 99 ∷ punct mark.RightParen
    ∷ punct mark.LeftBrace ∷ punct mark.RightBrace ∷ []
spelled_for = refl

-- `foreach ($a as $k => &$v) $c;`
spelled_foreach :
    spell_statement (foreach tt (v 97) (Some (record { is_reference = false; place = v 107 })) (record { is_reference = true; place = v 118 }) (single (line 99))) []
    ≡ keyword word.Foreach ∷ punct mark.LeftParen ∷ sv 97 ∷ keyword word.As ∷ sv 107 ∷ punct mark.DoubleArrow ∷ punct mark.Ampersand ∷ sv 118
    ∷ punct mark.RightParen ∷ sv 99 ∷ punct mark.Semicolon ∷ []
spelled_foreach = refl

-- `switch ($a): case $b; default: $c; endswitch;`
spelled_switch :
    spell_statement (switch tt (v 97) switch_form.Colon (and_case (and_case no_case tt (Some (v 98)) case_end.Semicolon no_statement) tt None case_end.Colon (one (line 99)))) []
    ≡ keyword word.Switch ∷ punct mark.LeftParen ∷ sv 97 ∷ punct mark.RightParen ∷ punct mark.Colon ∷ keyword word.Case ∷ sv 98 ∷ punct mark.Semicolon
    ∷ keyword word.Default ∷ punct mark.Colon ∷ sv 99 ∷ punct mark.Semicolon ∷ keyword word.EndSwitch ∷ punct mark.Semicolon ∷ []
spelled_switch = refl

-- `try {} catch (A | B $e) {}`
spelled_try : spell_statement (try_catch tt no_statement (and_catch no_catch (then_also (then_also empty (n 65)) (n 66)) (n 101) no_statement)) []
    ≡ keyword word.Try ∷ punct mark.LeftBrace ∷ punct mark.RightBrace ∷ keyword word.Catch ∷ punct mark.LeftParen ∷ sn 65 ∷ punct mark.Bar ∷ sn 66 ∷ sv 101
    ∷ punct mark.RightParen ∷ punct mark.LeftBrace ∷ punct mark.RightBrace ∷ []
spelled_try = refl

-- a `try` has a `catch` or a `finally`
abbrev try_alone : Statement Nothing
try_alone = try_catch tt no_statement no_catch

try_alone-improper : IsProper try_alone → ⊥
try_alone-improper p = let e : true ≡ false = p.1 in cc

-- `echo $a, $b;` and `static $a, $b = $c;`
spelled_echo : spell_statement (echo tt (and (and none plain (v 97)) plain (v 98))) []
    ≡ keyword word.Echo ∷ sv 97 ∷ punct mark.Comma ∷ sv 98 ∷ punct mark.Semicolon ∷ []
spelled_echo = refl

spelled_static : spell_statement (statics tt (then_also (then_also empty (record { name = n 97; value = None })) (record { name = n 98; value = Some (v 99) }))) []
    ≡ keyword word.Static ∷ sv 97 ∷ punct mark.Comma ∷ sv 98 ∷ punct mark.Assign ∷ sv 99 ∷ punct mark.Semicolon ∷ []
spelled_static = refl

-- ---- declarations

-- `function &f(?A &$a, ...$b): array { return $a; }`
spelled_function : spell_script (then_also empty (of_function (record {
  note = tt;
  is_reference = true;
  name = n 102;
  signature = record {
    params = then_also (then_also empty
        (record { declared = Some (record { is_nullable = true; base = of_name (n 65) }); is_reference = true; is_variadic = false; name = n 97; default = None }))
        (record { declared = None; is_reference = false; is_variadic = true; name = n 98; default = None });
    result = Some (record { is_nullable = false; base = of_array });
  };
  body = one (jump tt returning (Some (v 97)));
})))
    ≡ keyword word.Function ∷ punct mark.Ampersand ∷ sn 102 ∷ punct mark.LeftParen ∷ punct mark.Question ∷ sn 65 ∷ punct mark.Ampersand ∷ sv 97
    ∷ punct mark.Comma ∷ punct mark.Ellipsis ∷ sv 98 ∷ punct mark.RightParen ∷ punct mark.Colon ∷ keyword word.Array ∷ punct mark.LeftBrace
    ∷ keyword word.Return ∷ sv 97 ∷ punct mark.Semicolon ∷ punct mark.RightBrace ∷ []
spelled_function = refl

-- `final class C extends P implements I { public $a; use T { T::m as protected k; } }`
spelled_class : spell_script (then_also empty (of_class (record {
  modifiers = then_also empty (record { note = tt; word = class_word.Final });
  note = tt;
  name = n 67;
  parent = Some (n 80);
  interfaces = then_also empty (n 73);
  members = then_also (then_also empty
      (properties (then_also empty (record { note = tt; word = modifier.Public })) (then_also empty (record { name = n 97; value = None }))))
      (uses_by tt (then_also empty (n 84)) (then_also empty (renames tt (Some (n 84)) (tree.named tt (109 ∷ [])) (Some visibility.Protected) (Some (tree.named tt (107 ∷ []))))));
})))
    ≡ keyword word.Final ∷ keyword word.Class ∷ sn 67 ∷ keyword word.Extends ∷ sn 80 ∷ keyword word.Implements ∷ sn 73 ∷ punct mark.LeftBrace
    ∷ keyword word.Public ∷ sv 97 ∷ punct mark.Semicolon ∷ keyword word.Use ∷ sn 84 ∷ punct mark.LeftBrace ∷ sn 84 ∷ punct mark.DoubleColon ∷ sn 109
    ∷ keyword word.As ∷ keyword word.Protected ∷ sn 107 ∷ punct mark.Semicolon ∷ punct mark.RightBrace ∷ punct mark.RightBrace ∷ []
spelled_class = refl

-- a word of visibility behind `as` is no name
abbrev public_alias : Rule Nothing
public_alias = renames tt None (tree.named tt (109 ∷ [])) None (Some (tree.reserved tt word.Public))

alias-improper : IsProperRule public_alias → ⊥
alias-improper p = let e : true ≡ false = p.1.1 in cc

-- ---- nesting: each construct at its opening, first, last and closing token

-- `{ $a; }`
nests_block : nests_statement (block tt (one (line 97))) 0 [] ≡ 0 ∷ 1 ∷ 1 ∷ 1 ∷ []
nests_block = refl

-- `while ($a) $b;` and `while ($a) {}`
nests_while : nests_statement (while tt (v 97) (single (line 98))) 0 [] ≡ 0 ∷ 0 ∷ 1 ∷ 1 ∷ 1 ∷ 1 ∷ []
nests_while = refl

nests_while_block : nests_statement (while tt (v 97) (single (block tt no_statement))) 0 [] ≡ 0 ∷ 0 ∷ 1 ∷ 1 ∷ 0 ∷ 1 ∷ []
nests_while_block = refl

-- `while ($a): $b; endwhile;`
nests_endwhile : nests_statement (while tt (v 97) (list_behind_colon (one (line 98)))) 0 [] ≡ 0 ∷ 0 ∷ 1 ∷ 1 ∷ 0 ∷ 1 ∷ 1 ∷ 0 ∷ 0 ∷ []
nests_endwhile = refl

-- `if ($a) $b; else $c;`
nests_else : nests_statement (if_else tt (v 97) (line 98) no_elseif (line 99)) 0 [] ≡ 0 ∷ 0 ∷ 1 ∷ 1 ∷ 1 ∷ 1 ∷ 0 ∷ 1 ∷ 1 ∷ []
nests_else = refl

-- `switch ($a): case $b; $c; endswitch;`: what stands behind a label is as deep as the label
nests_switch : nests_statement (switch tt (v 97) switch_form.Colon (and_case no_case tt (Some (v 98)) case_end.Semicolon (one (line 99)))) 0 []
    ≡ 0 ∷ 0 ∷ 1 ∷ 1 ∷ 0 ∷ 1 ∷ 1 ∷ 1 ∷ 1 ∷ 1 ∷ 0 ∷ 0 ∷ []
nests_switch = refl

-- `try {} catch (A $e) {}`
nests_try : nests_statement (try_catch tt no_statement (and_catch no_catch (then_also empty (n 65)) (n 101) no_statement)) 0 []
    ≡ 0 ∷ 0 ∷ 1 ∷ 0 ∷ 0 ∷ 1 ∷ 1 ∷ 1 ∷ 0 ∷ 1 ∷ []
nests_try = refl

-- `try {} finally { $a; }`
nests_finally : nests_statement (try_finally tt no_statement no_catch (one (line 97))) 0 [] ≡ 0 ∷ 0 ∷ 1 ∷ 0 ∷ 0 ∷ 1 ∷ 1 ∷ 1 ∷ []
nests_finally = refl

-- `if ($a) $b; elseif ($c) $d; else { $e; }`: the block nests once
nests_elseif : nests_statement (if_else tt (v 97) (line 98) (and_elseif no_elseif (v 99) (line 100)) (block tt (one (line 101)))) 0 []
    ≡ 0 ∷ 0 ∷ 1 ∷ 1 ∷ 1 ∷ 1 ∷ 0 ∷ 0 ∷ 1 ∷ 1 ∷ 1 ∷ 1 ∷ 0 ∷ 0 ∷ 1 ∷ 1 ∷ 1 ∷ []
nests_elseif = refl

-- `if ($a): $b; elseif ($c): $d; else: $e; endif;`
nests_lists : nests_statement (if_else_lists tt (v 97) (one (line 98)) (and_elseif_list no_elseif_list (v 99) (one (line 100))) (one (line 101))) 0 []
    ≡ 0 ∷ 0 ∷ 1 ∷ 1 ∷ 0 ∷ 1 ∷ 1 ∷ 0 ∷ 0 ∷ 1 ∷ 1 ∷ 0 ∷ 1 ∷ 1 ∷ 0 ∷ 0 ∷ 1 ∷ 1 ∷ 0 ∷ 0 ∷ []
nests_lists = refl

-- `if ($a) while ($b) $c;`: a body in a body
nests_body_in_body : nests_statement (if_only tt (v 97) (while tt (v 98) (single (line 99))) no_elseif) 0 [] ≡ 0 ∷ 0 ∷ 1 ∷ 1 ∷ 1 ∷ 1 ∷ 2 ∷ 2 ∷ 2 ∷ 2 ∷ []
nests_body_in_body = refl

-- `do $a; while ($b);`
nests_do : nests_statement (do_while tt (line 97) (v 98)) 0 [] ≡ 0 ∷ 1 ∷ 1 ∷ 0 ∷ 0 ∷ 1 ∷ 1 ∷ 0 ∷ []
nests_do = refl

-- `for ($a; $b; $c) $d;` and `for (;;): $a; endfor;`
nests_for : nests_statement (for tt (and none plain (v 97)) (and none plain (v 98)) (and none plain (v 99)) (single (line 100))) 0 []
    ≡ 0 ∷ 0 ∷ 1 ∷ 1 ∷ 1 ∷ 1 ∷ 1 ∷ 1 ∷ 1 ∷ 1 ∷ []
nests_for = refl

nests_endfor : nests_statement (for tt none none none (list_behind_colon (one (line 97)))) 0 [] ≡ 0 ∷ 0 ∷ 1 ∷ 1 ∷ 1 ∷ 0 ∷ 1 ∷ 1 ∷ 0 ∷ 0 ∷ []
nests_endfor = refl

-- `foreach ($a as $b => &$c) {}`
nests_foreach :
    nests_statement (foreach tt (v 97) (Some (record { is_reference = false; place = v 98 })) (record { is_reference = true; place = v 99 }) (single (block tt no_statement))) 0 []
    ≡ 0 ∷ 0 ∷ 1 ∷ 1 ∷ 1 ∷ 1 ∷ 1 ∷ 1 ∷ 1 ∷ 0 ∷ 1 ∷ []
nests_foreach = refl

-- `switch ($a) { default: $b; }`
nests_switch_block : nests_statement (switch tt (v 97) switch_form.Braces (and_case no_case tt None case_end.Colon (one (line 98)))) 0 []
    ≡ 0 ∷ 0 ∷ 1 ∷ 1 ∷ 0 ∷ 1 ∷ 1 ∷ 1 ∷ 1 ∷ 1 ∷ []
nests_switch_block = refl

-- `unset($a);`, `declare(a = 1);` and `static $a = $b;`, whose value doesn't nest
nests_unset : nests_statement (unset tt (and none plain (v 97))) 0 [] ≡ 0 ∷ 0 ∷ 1 ∷ 1 ∷ 0 ∷ []
nests_unset = refl

nests_declare : nests_statement (declares tt (n 97) (pos 1)) 0 [] ≡ 0 ∷ 0 ∷ 1 ∷ 1 ∷ 1 ∷ 1 ∷ 0 ∷ []
nests_declare = refl

nests_static : nests_statement (statics tt (then_also empty (record { name = n 97; value = Some (v 98) }))) 0 [] ≡ 0 ∷ 0 ∷ 0 ∷ 0 ∷ 0 ∷ []
nests_static = refl

-- ---- notes: with the number of each token as its note

abbrev numbers : Notes ℕ
numbers = record { token = λ at. at; keyword = λ at. at }

-- `if ($a) $b; else { $c; }` has the tokens `if` 0, `$a` 2, `$b` 4, `{` 7 and `$c` 8
noted_else : noted_statement numbers 0 (if_else tt (v 97) (line 98) no_elseif (block tt (one (line 99))))
    ≡ if_else 0 (leaf 2 (variable (97 ∷ []))) (expression 4 (leaf 4 (variable (98 ∷ [])))) no_elseif
    (block 7 (and_statement no_statement (expression 8 (leaf 8 (variable (99 ∷ []))))))
noted_else = refl

-- `foreach ($a as $k => &$v): $c; endforeach;`
noted_foreach :
    noted_statement numbers 0
    (foreach tt (v 97) (Some (record { is_reference = false; place = v 107 })) (record { is_reference = true; place = v 118 }) (list_behind_colon (one (line 99))))
    ≡ foreach 0 (leaf 2 (variable (97 ∷ []))) (Some (record { is_reference = false; place = leaf 4 (variable (107 ∷ [])) }))
    (record { is_reference = true; place = leaf 7 (variable (118 ∷ [])) }) (list_behind_colon (and_statement no_statement (expression 10 (leaf 10 (variable (99 ∷ []))))))
noted_foreach = refl

-- `try {} catch (A | B $e) {}`
noted_try : noted_statement numbers 0 (try_catch tt no_statement (and_catch no_catch (then_also (then_also empty (n 65)) (n 66)) (n 101) no_statement))
    ≡ try_catch 0 no_statement (and_catch no_catch
    (then_also (then_also empty (record { note = 5; text = 65 ∷ [] })) (record { note = 7; text = 66 ∷ [] })) (record { note = 8; text = 101 ∷ [] }) no_statement)
noted_try = refl
