-- Which trees of statements are proper: their expressions are, each form has what it needs, and each `else`
-- and `elseif` belongs to the nearest `if` that can take it.
use Rattle.std.specs.Prelude.{◌≡◌, Bool, true, false, Option, Some, None}
use Rattle.php_ast.specs.declared.statement.CaseEnd.{CaseEnd}
use Rattle.php_ast.specs.declared.statement.CaseEnd.TheVariants as case_end
use Rattle.php_ast.specs.expression.Tree.{Tree, Items}
use Rattle.php_ast.specs.expression.Proper.{Proper, AreProperItems, AreValues, is_none, ends_bare, IsKey}
use Rattle.php_ast.specs.statement.Tree.{Sequence, empty, then_also, Target}
use Rattle.php_ast.specs.statement.Tree.{Statement, block, blank, inline, expression, echo, globals, statics, unset, constants, jump, throw, if_only, if_else, if_lists, if_else_lists, while, do_while, for, foreach, switch, try_catch, try_finally, declares}
use Rattle.php_ast.specs.statement.Tree.{Statements, no_statement, and_statement, ElseIfs, no_elseif, and_elseif, ElseIfLists, no_elseif_list, and_elseif_list, Body, single, list_behind_colon, Cases, no_case, and_case, Catches, no_catch, and_catch}

-- ---- the nearest `if`

-- An `if` at the end of a statement would take an `else` or `elseif` that stands behind it.
abbrev mutual
  pub takes_else : {S : Type 0} → Statement S → Bool
  takes_else (if_only note test body parts) = true
  takes_else (if_else note test body parts last) = takes_else last
  takes_else (while note test body) = body_takes body
  takes_else (for note starts tests steps body) = body_takes body
  takes_else (foreach note walked key value body) = body_takes body
  takes_else _ = false

  pub body_takes : {S : Type 0} → Body S → Bool
  body_takes (single s) = takes_else s
  body_takes (list_behind_colon body) = false

-- the last statement of a list
abbrev pub last_takes : {S : Type 0} → Statements S → Bool
last_takes no_statement = false
last_takes (and_statement body s) = takes_else s

-- No body that an `elseif` of these stands behind takes it: the one before them, and each of theirs but
-- the last.
abbrev pub last_body : {S : Type 0} → Bool → ElseIfs S → Bool
last_body first no_elseif = first
last_body first (and_elseif parts test body) = takes_else body

abbrev pub NoneTakes : {S : Type 0} → Bool → ElseIfs S → Type 0
NoneTakes first no_elseif = Unit {0}
NoneTakes first (and_elseif parts test body) = NoneTakes first parts × (last_body first parts ≡ false)

abbrev pub last_list : {S : Type 0} → Bool → ElseIfLists S → Bool
last_list first no_elseif_list = first
last_list first (and_elseif_list parts test body) = last_takes body

abbrev pub NoListTakes : {S : Type 0} → Bool → ElseIfLists S → Type 0
NoListTakes first no_elseif_list = Unit {0}
NoListTakes first (and_elseif_list parts test body) = NoListTakes first parts × (last_list first parts ≡ false)

-- ---- parts

abbrev pub is_empty : {A : Type 0} → Sequence A → Bool
is_empty empty = true
is_empty (then_also xs x) = false

abbrev pub Each : {A : Type 0} → (A → Type 0) → Sequence A → Type 0
Each P empty = Unit {0}
Each P (then_also xs x) = Each P xs × P x

abbrev pub IfAny : {S : Type 0} → Option (Tree S) → Type 0
IfAny None = Unit {0}
IfAny (Some e) = Proper e

-- values between commas, at least one
abbrev pub AreSome : {S : Type 0} → Items S → Type 0
AreSome items = AreValues items × (is_none items ≡ false) × AreProperItems items

-- values between commas, or none
abbrev pub AreAny : {S : Type 0} → Items S → Type 0
AreAny items = AreValues items × AreProperItems items

abbrev pub IsProperTarget : {S : Type 0} → Target S → Type 0
IsProperTarget t = Proper t.place

abbrev pub IsProperKey : {S : Type 0} → Option (Target S) → Type 0
IsProperKey None = Unit {0}
IsProperKey (Some t) = IsKey t.place × Proper t.place

-- a `yield` alone may end a label before `;` and not before `:`
abbrev pub IsProperLabel : {S : Type 0} → Option (Tree S) → CaseEnd → Type 0
IsProperLabel None end = Unit {0}
IsProperLabel (Some e) case_end.Colon = (ends_bare e ≡ false) × Proper e
IsProperLabel (Some e) case_end.Semicolon = Proper e

abbrev pub is_no_catch : {S : Type 0} → Catches S → Bool
is_no_catch no_catch = true
is_no_catch (and_catch catches classes variable body) = false

-- ---- statements

abbrev mutual
  pub IsProper : {S : Type 0} → Statement S → Type 0
  IsProper (block note body) = AreProper body
  IsProper (blank note) = Unit {0}
  IsProper (inline note text) = Unit {0}
  IsProper (expression note e) = Proper e
  IsProper (echo note values) = AreSome values
  IsProper (globals note names) = is_empty names ≡ false
  IsProper (statics note variables) = (is_empty variables ≡ false) × Each (λ x. IfAny x.value) variables
  IsProper (unset note places) = AreSome places
  IsProper (constants note items) = (is_empty items ≡ false) × Each (λ x. Proper x.value) items
  IsProper (jump note kind value) = IfAny value
  IsProper (throw note e) = Proper e
  IsProper (if_only note test body parts) = Proper test × IsProper body × AreProperParts parts × NoneTakes (takes_else body) parts
  IsProper (if_else note test body parts last) =
      Proper test × IsProper body × AreProperParts parts × NoneTakes (takes_else body) parts
      × (last_body (takes_else body) parts ≡ false) × IsProper last
  IsProper (if_lists note test body parts) = Proper test × AreProper body × AreProperLists parts × NoListTakes (last_takes body) parts
  IsProper (if_else_lists note test body parts last) =
      Proper test × AreProper body × AreProperLists parts × NoListTakes (last_takes body) parts
      × (last_list (last_takes body) parts ≡ false) × AreProper last
  IsProper (while note test body) = Proper test × IsProperBody body
  IsProper (do_while note body test) = IsProper body × Proper test
  IsProper (for note starts tests steps body) = AreAny starts × AreAny tests × AreAny steps × IsProperBody body
  IsProper (foreach note walked key value body) =
      (ends_bare walked ≡ false) × Proper walked × IsProperKey key × IsProperTarget value × IsProperBody body
  IsProper (switch note e form cases) = Proper e × AreProperCases cases
  IsProper (try_catch note body catches) = AreProper body × (is_no_catch catches ≡ false) × AreProperCatches catches
  IsProper (try_finally note body catches last) = AreProper body × AreProperCatches catches × AreProper last
  IsProper (declares note n value) = Unit {0}

  pub AreProper : {S : Type 0} → Statements S → Type 0
  AreProper no_statement = Unit {0}
  AreProper (and_statement body s) = AreProper body × IsProper s

  pub AreProperParts : {S : Type 0} → ElseIfs S → Type 0
  AreProperParts no_elseif = Unit {0}
  AreProperParts (and_elseif parts test body) = AreProperParts parts × Proper test × IsProper body

  pub AreProperLists : {S : Type 0} → ElseIfLists S → Type 0
  AreProperLists no_elseif_list = Unit {0}
  AreProperLists (and_elseif_list parts test body) = AreProperLists parts × Proper test × AreProper body

  pub IsProperBody : {S : Type 0} → Body S → Type 0
  IsProperBody (single s) = IsProper s
  IsProperBody (list_behind_colon body) = AreProper body

  pub AreProperCases : {S : Type 0} → Cases S → Type 0
  AreProperCases no_case = Unit {0}
  AreProperCases (and_case cases note label end body) = AreProperCases cases × IsProperLabel label end × AreProper body

  pub AreProperCatches : {S : Type 0} → Catches S → Type 0
  AreProperCatches no_catch = Unit {0}
  AreProperCatches (and_catch catches classes variable body) = AreProperCatches catches × (is_empty classes ≡ false) × AreProper body
