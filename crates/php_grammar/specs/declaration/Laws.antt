-- What holds of the reading of signatures, members and scripts, for every list of symbols and every tree.
use Rattle.std.specs.Prelude.{◌≡◌, ℕ, ◌+◌, length, false, Option, Some, None, List, [], ◌∷◌, map}
use Rattle.php_token.specs.Token.{Token}
use Rattle.php_ast.specs.Symbol.{Symbol, symbol}
use Rattle.php_ast.specs.expression.View.{Note}
use Rattle.php_grammar.specs.expression.Role.{is_colon}
use Rattle.php_grammar.specs.expression.Machine.{Nothing}
use Rattle.php_ast.specs.declaration.Tree.{Type_of, Signature, Member, Script}
use Rattle.php_ast.specs.declaration.Spelling.{spell_signature, spell_member, spell_script}
use Rattle.php_ast.specs.declaration.Proper.{IsProperSignature, IsProperMember, IsProperScript}
use Rattle.php_ast.specs.declaration.Placed.{size_signature, size_script, signature_form, script_form, IsPlacedSignature, IsPlacedScript}
use Rattle.php_ast.specs.declaration.Nesting.{signature_nests, member_nests, script_nests}
use Rattle.php_grammar.specs.declaration.Depth.{signature_depths_read, member_depths_read, script_depths_read}
use Rattle.php_grammar.specs.declaration.SignatureMachine.{read_signature}
use Rattle.php_grammar.specs.declaration.MemberMachine.{read_member}
use Rattle.php_grammar.specs.declaration.ScriptMachine.{read_script}

-- ---- what may follow a signature

-- A signature without a result's type would take a `:` that stands behind it.
abbrev pub ResultEnds : {S : Type 0} → Option (Type_of S) → List Symbol → Type 0
ResultEnds (Some t) w = Unit {0}
ResultEnds None [] = Unit {0}
ResultEnds None (t ∷ w) = is_colon t ≡ false

abbrev pub SignatureEnds : {S : Type 0} → Signature S → List Symbol → Type 0
SignatureEnds s w = ResultEnds s.result w

-- ---- the spelling of a proper tree is read back

abbrev pub ReadsSignaturesBack : Type 0
ReadsSignaturesBack =
    (s : Signature Nothing) (v : List Symbol) → IsProperSignature s → SignatureEnds s v → read_signature (spell_signature s v) ≡ record { tree = s; missing = []; unread = v }

abbrev pub ReadsMembersBack : Type 0
ReadsMembersBack = (m : Member Nothing) (v : List Symbol) → IsProperMember m → read_member (spell_member m v) ≡ record { tree = m; missing = []; unread = v }

abbrev pub ReadsScriptsBack : Type 0
ReadsScriptsBack = (items : Script Nothing) → IsProperScript items → read_script (spell_script items) ≡ record { tree = items; missing = []; unread = [] }

-- ---- symbols spell at most one tree

abbrev pub SpellsSignature : Signature Nothing → List Symbol → Type 0
SpellsSignature s w = IsProperSignature s × (spell_signature s [] ≡ w)

abbrev pub OneSignature : Type 0
OneSignature = (a b : Signature Nothing) (w : List Symbol) → SpellsSignature a w → SpellsSignature b w → a ≡ b

abbrev pub SpellsScript : Script Nothing → List Symbol → Type 0
SpellsScript items w = IsProperScript items × (spell_script items ≡ w)

abbrev pub OneScript : Type 0
OneScript = (a b : Script Nothing) (w : List Symbol) → SpellsScript a w → SpellsScript b w → a ≡ b

-- Tokens spell a tree where its form is spelled and its notes are about them. A signature begins at a place among
-- all tokens, and a script has all of them.
pub record IsSpelledSignature (tokens : List Token) (at : ℕ) (s : Signature Note) (w : List Token) : Type 0 where
  pub spelled : SpellsSignature (signature_form s) (map symbol w)
  pub placed : IsPlacedSignature tokens at s

abbrev pub OneSignatureTree : Type 0
OneSignatureTree =
    (tokens : List Token) (at : ℕ) (w : List Token) (a b : Signature Note) → IsSpelledSignature tokens at a w → IsSpelledSignature tokens at b w → a ≡ b

pub record IsSpelledScript (tokens : List Token) (items : Script Note) : Type 0 where
  pub spelled : SpellsScript (script_form items) (map symbol tokens)
  pub placed : IsPlacedScript tokens items

abbrev pub OneScriptTree : Type 0
OneScriptTree = (tokens : List Token) (a b : Script Note) → IsSpelledScript tokens a → IsSpelledScript tokens b → a ≡ b

-- ---- sizes

-- Signatures and scripts have as many tokens as the places of their notes say.
abbrev pub SignatureSizesAgree : Type 0
SignatureSizesAgree = (s : Signature Nothing) (w : List Symbol) → length (spell_signature s w) ≡ size_signature s + length w

abbrev pub ScriptSizesAgree : Type 0
ScriptSizesAgree = (items : Script Nothing) → length (spell_script items) ≡ size_script items

-- ---- nesting

-- The nesting that a reading counts at each symbol is that of the tree.
abbrev pub SignatureNestingAgrees : Type 0
SignatureNestingAgrees = (s : Signature Nothing) (v : List Symbol) → IsProperSignature s → SignatureEnds s v → signature_depths_read (spell_signature s v) ≡ signature_nests s 0 []

abbrev pub MemberNestingAgrees : Type 0
MemberNestingAgrees = (m : Member Nothing) (v : List Symbol) → IsProperMember m → member_depths_read (spell_member m v) ≡ member_nests m 0 []

abbrev pub ScriptNestingAgrees : Type 0
ScriptNestingAgrees = (items : Script Nothing) → IsProperScript items → script_depths_read (spell_script items) ≡ script_nests items
