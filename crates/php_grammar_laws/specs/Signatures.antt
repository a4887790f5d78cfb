-- What the machine of signatures says of the symbols that it reads, exactly.
use Rattle.std.specs.Prelude.{◌≡◌, ◌≢◌, List, [], ◌∷◌, ◌++◌}
use Rattle.php_ast.specs.Symbol.{Symbol}
use Rattle.php_ast.specs.declaration.Tree.{Signature}
use Rattle.php_ast.specs.declaration.Spelling.{spell_signature}
use Rattle.php_ast.specs.declaration.Proper.{IsProperSignature}
use Rattle.php_grammar.specs.expression.Machine.{Nothing}
use Rattle.php_grammar.specs.Begins.{BeginsSignature}
use Rattle.php_grammar.specs.Run.{ReadingOf}
use Rattle.php_grammar.specs.declaration.Laws.{SpellsSignature, SignatureEnds}
use Rattle.php_grammar.specs.declaration.SignatureMachine.{read_signature}

-- The signature is proper, and its spelling is what was read and what it lacks; what was read and what is left are all
-- the symbols.
pub record BeginsAsSignature (w : List Symbol) (r : ReadingOf (Signature Nothing)) : Type 0 where
  pub proper : IsProperSignature r.tree
  pub done : List Symbol
  pub whole : w ≡ done ++ r.unread
  pub spelled : spell_signature r.tree [] ≡ done ++ r.missing

abbrev pub SignatureReadingBegins : Type 0
SignatureReadingBegins = (w : List Symbol) → BeginsAsSignature w (read_signature w)

-- Where a reading halts in front of these symbols and something is missing, no signature is spelled by what was read that
-- ends there.
abbrev pub UnfinishedSignature : Type 0
UnfinishedSignature = (w v : List Symbol) (s : Signature Nothing) → SpellsSignature s w → SignatureEnds s v → (read_signature (w ++ v)).missing ≢ [] → ⊥

-- The symbols read begin a signature, and no longer do so with one more.
abbrev pub SignatureStopsExactly : Type 0
SignatureStopsExactly =
    (w done : List Symbol) (t : Symbol) (v : List Symbol) → w ≡ done ++ t ∷ v → (read_signature w).unread ≡ t ∷ v → BeginsSignature (done ++ t ∷ []) → ⊥
