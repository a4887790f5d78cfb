-- The form of a statement has no notes: noting nothing of its tokens leaves it as it is.
use Rattle.std.proofs.Common.{◌≡◌, ℕ, ◌+◌, Option, Some, None, refl, ◌∙◌, ap}
use Rattle.php_ast.specs.expression.Tree.{Items, none, and, skip, Lead, plain, reference, spread, keyed, keyed_reference}
use Rattle.php_ast.specs.expression.Placed.{size, size_items, size_lead, comma_size, no_notes, noted, noted_items, noted_lead}
use Rattle.php_ast.specs.statement.Tree.{Sequence, empty, then_also, Name, Variable, Constant, Target}
use Rattle.php_ast.specs.statement.Tree.{Statement, block, blank, inline, expression, echo, globals, statics, unset, constants, jump, throw, if_only, if_else, if_lists, if_else_lists, while, do_while, for, foreach, switch, try_catch, try_finally, declares}
use Rattle.php_ast.specs.statement.Tree.{Statements, no_statement, and_statement, ElseIfs, no_elseif, and_elseif, ElseIfLists, no_elseif_list, and_elseif_list, Body, single, list_behind_colon, Cases, no_case, and_case, Catches, no_catch, and_catch}
use Rattle.php_ast.specs.statement.Placed.{size_separated, size_separator, noted_separated, size_name, noted_name, size_optional, noted_optional, size_variable, noted_variable, size_constant, noted_constant, size_if, size_target, noted_target, size_key, noted_key, size_head}
use Rattle.php_ast.specs.statement.Placed.{size_statement, noted_statement, size_statements, noted_statements, size_elseifs, noted_elseifs, size_elseif_lists, noted_elseif_lists, size_body, noted_body, size_cases, noted_cases, size_catches, noted_catches}
use Rattle.php_grammar.specs.expression.Machine.{Nothing, Form}
use Rattle.php_parse_expression.proofs.Blanks.{blank as blank_expression}

-- ---- parts

blank_lead : (k : ℕ) (lead : Lead Nothing) → noted_lead no_notes k lead ≡ lead
blank_lead k plain = refl
blank_lead k reference = refl
blank_lead k spread = refl
blank_lead k (keyed key) = ap keyed (blank_expression k key)
blank_lead k (keyed_reference key) = ap keyed_reference (blank_expression k key)

blank_items : (k : ℕ) (items : Items Nothing) → noted_items no_notes k items ≡ items
blank_items k none = refl
blank_items k (and items lead e) =
    ap (λ x. and x (noted_lead no_notes (k + size_items items + comma_size items) lead) (noted no_notes (k + size_items items + comma_size items + size_lead lead) e)) (blank_items k items)
    ∙ ap (λ x. and items x (noted no_notes (k + size_items items + comma_size items + size_lead lead) e)) (blank_lead _ lead) ∙ ap (and items lead) (blank_expression _ e)
blank_items k (skip items) = ap skip (blank_items k items)

blank_separated : {A : Type 0} (each : A → ℕ) (f : ℕ → A → A) → ((k : ℕ) (x : A) → f k x ≡ x) → (k : ℕ) (xs : Sequence A) → noted_separated each f k xs ≡ xs
blank_separated each f same k empty = refl
blank_separated each f same k (then_also xs x) =
    ap (λ z. then_also z (f (k + size_separated each xs + size_separator xs) x)) (blank_separated each f same k xs) ∙ ap (then_also xs) (same _ x)

pub blank_name : (k : ℕ) (n : Name Nothing) → noted_name no_notes k n ≡ n
blank_name k n = refl

pub blank_optional : (k : ℕ) (e : Option Form) → noted_optional no_notes k e ≡ e
blank_optional k None = refl
blank_optional k (Some e) = ap Some (blank_expression k e)

pub blank_variable : (k : ℕ) (x : Variable Nothing) → noted_variable no_notes k x ≡ x
blank_variable k x = ap (λ z. record { name = x.name; value = z }) (blank_optional (k + 2) x.value)

blank_constant : (k : ℕ) (x : Constant Nothing) → noted_constant no_notes k x ≡ x
blank_constant k x = ap (λ z. record { name = x.name; value = z }) (blank_expression (k + 2) x.value)

blank_target : (k : ℕ) (t : Target Nothing) → noted_target no_notes k t ≡ t
blank_target k t = ap (λ z. record { is_reference = t.is_reference; place = z }) (blank_expression (k + size_if t.is_reference) t.place)

blank_key : (k : ℕ) (t : Option (Target Nothing)) → noted_key no_notes k t ≡ t
blank_key k None = refl
blank_key k (Some t) = ap Some (blank_target k t)

-- ---- statements

mutual
  pub blank_statement : (k : ℕ) (s : Statement Nothing) → noted_statement no_notes k s ≡ s
  blank_statement k (block note body) = ap (block tt) (blank_statements _ body)
  blank_statement k (blank note) = refl
  blank_statement k (inline note text) = refl
  blank_statement k (expression note e) = ap (expression tt) (blank_expression k e)
  blank_statement k (echo note values) = ap (echo tt) (blank_items _ values)
  blank_statement k (globals note names) = ap (globals tt) (blank_separated size_name (noted_name no_notes) blank_name (k + 1) names)
  blank_statement k (statics note variables) = ap (statics tt) (blank_separated size_variable (noted_variable no_notes) blank_variable (k + 1) variables)
  blank_statement k (unset note places) = ap (unset tt) (blank_items _ places)
  blank_statement k (constants note items) = ap (constants tt) (blank_separated size_constant (noted_constant no_notes) blank_constant (k + 1) items)
  blank_statement k (jump note kind value) = ap (jump tt kind) (blank_optional _ value)
  blank_statement k (throw note e) = ap (throw tt) (blank_expression _ e)
  blank_statement k (if_only note test body parts) =
      ap (λ z. if_only tt z (noted_statement no_notes (k + size_head test) body) (noted_elseifs no_notes (k + size_head test + size_statement body) parts)) (blank_expression (k + 2) test)
      ∙ ap (λ z. if_only tt test z (noted_elseifs no_notes (k + size_head test + size_statement body) parts)) (blank_statement _ body)
      ∙ ap (if_only tt test body) (blank_elseifs _ parts)
  blank_statement k (if_else note test body parts last) =
      ap (λ z. if_else tt z (noted_statement no_notes (k + size_head test) body) (noted_elseifs no_notes (k + size_head test + size_statement body) parts)
      (noted_statement no_notes (k + size_head test + size_statement body + size_elseifs parts + 1) last)) (blank_expression (k + 2) test)
      ∙ ap (λ z. if_else tt test z (noted_elseifs no_notes (k + size_head test + size_statement body) parts)
      (noted_statement no_notes (k + size_head test + size_statement body + size_elseifs parts + 1) last)) (blank_statement _ body)
      ∙ ap (λ z. if_else tt test body z (noted_statement no_notes (k + size_head test + size_statement body + size_elseifs parts + 1) last)) (blank_elseifs _ parts)
      ∙ ap (if_else tt test body parts) (blank_statement _ last)
  blank_statement k (if_lists note test body parts) =
      ap (λ z. if_lists tt z (noted_statements no_notes (k + size_head test + 1) body) (noted_elseif_lists no_notes (k + size_head test + 1 + size_statements body) parts)) (blank_expression (k + 2) test)
      ∙ ap (λ z. if_lists tt test z (noted_elseif_lists no_notes (k + size_head test + 1 + size_statements body) parts)) (blank_statements _ body)
      ∙ ap (if_lists tt test body) (blank_elseif_lists _ parts)
  blank_statement k (if_else_lists note test body parts last) =
      ap (λ z. if_else_lists tt z (noted_statements no_notes (k + size_head test + 1) body) (noted_elseif_lists no_notes (k + size_head test + 1 + size_statements body) parts)
      (noted_statements no_notes (k + size_head test + 1 + size_statements body + size_elseif_lists parts + 2) last)) (blank_expression (k + 2) test)
      ∙ ap (λ z. if_else_lists tt test z (noted_elseif_lists no_notes (k + size_head test + 1 + size_statements body) parts)
      (noted_statements no_notes (k + size_head test + 1 + size_statements body + size_elseif_lists parts + 2) last)) (blank_statements _ body)
      ∙ ap (λ z. if_else_lists tt test body z (noted_statements no_notes (k + size_head test + 1 + size_statements body + size_elseif_lists parts + 2) last)) (blank_elseif_lists _ parts)
      ∙ ap (if_else_lists tt test body parts) (blank_statements _ last)
  blank_statement k (while note test body) =
      ap (λ z. while tt z (noted_body no_notes (k + size_head test) body)) (blank_expression (k + 2) test) ∙ ap (while tt test) (blank_body _ body)
  blank_statement k (do_while note body test) =
      ap (λ z. do_while tt z (noted no_notes (k + 1 + size_statement body + 2) test)) (blank_statement _ body) ∙ ap (do_while tt body) (blank_expression _ test)
  blank_statement k (for note starts tests steps body) =
      ap (λ z. for tt z (noted_items no_notes (k + 2 + size_items starts + 1) tests) (noted_items no_notes (k + 2 + size_items starts + 1 + size_items tests + 1) steps)
      (noted_body no_notes (k + 2 + size_items starts + 1 + size_items tests + 1 + size_items steps + 1) body)) (blank_items (k + 2) starts)
      ∙ ap (λ z. for tt starts z (noted_items no_notes (k + 2 + size_items starts + 1 + size_items tests + 1) steps)
      (noted_body no_notes (k + 2 + size_items starts + 1 + size_items tests + 1 + size_items steps + 1) body)) (blank_items _ tests)
      ∙ ap (λ z. for tt starts tests z (noted_body no_notes (k + 2 + size_items starts + 1 + size_items tests + 1 + size_items steps + 1) body)) (blank_items _ steps)
      ∙ ap (for tt starts tests steps) (blank_body _ body)
  blank_statement k (foreach note walked key value body) =
      ap (λ z. foreach tt z (noted_key no_notes (k + 2 + size walked + 1) key) (noted_target no_notes (k + 2 + size walked + 1 + size_key key) value)
      (noted_body no_notes (k + 2 + size walked + 1 + size_key key + size_target value + 1) body)) (blank_expression (k + 2) walked)
      ∙ ap (λ z. foreach tt walked z (noted_target no_notes (k + 2 + size walked + 1 + size_key key) value)
      (noted_body no_notes (k + 2 + size walked + 1 + size_key key + size_target value + 1) body)) (blank_key _ key)
      ∙ ap (λ z. foreach tt walked key z (noted_body no_notes (k + 2 + size walked + 1 + size_key key + size_target value + 1) body)) (blank_target _ value)
      ∙ ap (foreach tt walked key value) (blank_body _ body)
  blank_statement k (switch note e form cases) =
      ap (λ z. switch tt z form (noted_cases no_notes (k + size_head e + 1) cases)) (blank_expression (k + 2) e) ∙ ap (switch tt e form) (blank_cases _ cases)
  blank_statement k (try_catch note body catches) =
      ap (λ z. try_catch tt z (noted_catches no_notes (k + 3 + size_statements body) catches)) (blank_statements _ body) ∙ ap (try_catch tt body) (blank_catches _ catches)
  blank_statement k (try_finally note body catches last) =
      ap (λ z. try_finally tt z (noted_catches no_notes (k + 3 + size_statements body) catches) (noted_statements no_notes (k + 3 + size_statements body + size_catches catches + 2) last)) (blank_statements _ body)
      ∙ ap (λ z. try_finally tt body z (noted_statements no_notes (k + 3 + size_statements body + size_catches catches + 2) last)) (blank_catches _ catches)
      ∙ ap (try_finally tt body catches) (blank_statements _ last)
  blank_statement k (declares note n value) = refl

  pub blank_statements : (k : ℕ) (ss : Statements Nothing) → noted_statements no_notes k ss ≡ ss
  blank_statements k no_statement = refl
  blank_statements k (and_statement ss s) =
      ap (λ z. and_statement z (noted_statement no_notes (k + size_statements ss) s)) (blank_statements k ss) ∙ ap (and_statement ss) (blank_statement _ s)

  blank_elseifs : (k : ℕ) (parts : ElseIfs Nothing) → noted_elseifs no_notes k parts ≡ parts
  blank_elseifs k no_elseif = refl
  blank_elseifs k (and_elseif parts test body) =
      ap (λ z. and_elseif z (noted no_notes (k + size_elseifs parts + 2) test) (noted_statement no_notes (k + size_elseifs parts + size_head test) body)) (blank_elseifs k parts)
      ∙ ap (λ z. and_elseif parts z (noted_statement no_notes (k + size_elseifs parts + size_head test) body)) (blank_expression _ test)
      ∙ ap (and_elseif parts test) (blank_statement _ body)

  blank_elseif_lists : (k : ℕ) (parts : ElseIfLists Nothing) → noted_elseif_lists no_notes k parts ≡ parts
  blank_elseif_lists k no_elseif_list = refl
  blank_elseif_lists k (and_elseif_list parts test body) =
      ap (λ z. and_elseif_list z (noted no_notes (k + size_elseif_lists parts + 2) test) (noted_statements no_notes (k + size_elseif_lists parts + size_head test + 1) body)) (blank_elseif_lists k parts)
      ∙ ap (λ z. and_elseif_list parts z (noted_statements no_notes (k + size_elseif_lists parts + size_head test + 1) body)) (blank_expression _ test)
      ∙ ap (and_elseif_list parts test) (blank_statements _ body)

  blank_body : (k : ℕ) (body : Body Nothing) → noted_body no_notes k body ≡ body
  blank_body k (single s) = ap single (blank_statement k s)
  blank_body k (list_behind_colon ss) = ap list_behind_colon (blank_statements _ ss)

  blank_cases : (k : ℕ) (cases : Cases Nothing) → noted_cases no_notes k cases ≡ cases
  blank_cases k no_case = refl
  blank_cases k (and_case cases note label end body) =
      ap (λ z. and_case z tt (noted_optional no_notes (k + size_cases cases + 1) label) end (noted_statements no_notes (k + size_cases cases + 1 + size_optional label + 1) body)) (blank_cases k cases)
      ∙ ap (λ z. and_case cases tt z end (noted_statements no_notes (k + size_cases cases + 1 + size_optional label + 1) body)) (blank_optional _ label)
      ∙ ap (and_case cases tt label end) (blank_statements _ body)

  blank_catches : (k : ℕ) (catches : Catches Nothing) → noted_catches no_notes k catches ≡ catches
  blank_catches k no_catch = refl
  blank_catches k (and_catch catches classes variable body) =
      ap (λ z. and_catch z (noted_separated size_name (noted_name no_notes) (k + size_catches catches + 2) classes) variable
      (noted_statements no_notes (k + size_catches catches + 2 + size_separated size_name classes + 3) body)) (blank_catches k catches)
      ∙ ap (λ z. and_catch catches z variable (noted_statements no_notes (k + size_catches catches + 2 + size_separated size_name classes + 3) body))
      (blank_separated size_name (noted_name no_notes) blank_name (k + size_catches catches + 2) classes)
      ∙ ap (and_catch catches classes variable) (blank_statements _ body)
