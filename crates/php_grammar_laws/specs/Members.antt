-- What the machine of members says of the symbols that it reads, exactly.
use Rattle.std.specs.Prelude.{◌≡◌, ◌≢◌, List, [], ◌∷◌, ◌++◌}
use Rattle.php_ast.specs.Symbol.{Symbol}
use Rattle.php_ast.specs.declaration.Tree.{Member}
use Rattle.php_ast.specs.declaration.Spelling.{spell_member}
use Rattle.php_ast.specs.declaration.Proper.{IsProperMember}
use Rattle.php_grammar.specs.expression.Machine.{Nothing}
use Rattle.php_grammar.specs.Run.{ReadingOf}
use Rattle.php_grammar.specs.declaration.MemberMachine.{read_member}

abbrev pub SpellsMember : Member Nothing → List Symbol → Type 0
SpellsMember m w = IsProperMember m × (spell_member m [] ≡ w)

-- the symbols begin a member
pub record BeginsMember (w : List Symbol) : Type 0 where
  pub tree : Member Nothing
  pub rest : List Symbol
  pub spelled : SpellsMember tree (w ++ rest)

abbrev pub OneMember : Type 0
OneMember = (a b : Member Nothing) (w : List Symbol) → SpellsMember a w → SpellsMember b w → a ≡ b

-- The member is proper, and its spelling is what was read and what it lacks; what was read and what is left are all
-- the symbols.
pub record BeginsAsMember (w : List Symbol) (r : ReadingOf (Member Nothing)) : Type 0 where
  pub proper : IsProperMember r.tree
  pub done : List Symbol
  pub whole : w ≡ done ++ r.unread
  pub spelled : spell_member r.tree [] ≡ done ++ r.missing

abbrev pub MemberReadingBegins : Type 0
MemberReadingBegins = (w : List Symbol) → BeginsAsMember w (read_member w)

-- Where something is missing, no member is spelled by what was read.
abbrev pub UnfinishedMember : Type 0
UnfinishedMember = (w v : List Symbol) (m : Member Nothing) → SpellsMember m w → (read_member (w ++ v)).missing ≢ [] → ⊥

-- The symbols read begin a member, and no longer do so with one more.
abbrev pub MemberStopsExactly : Type 0
MemberStopsExactly =
    (w done : List Symbol) (t : Symbol) (v : List Symbol) → w ≡ done ++ t ∷ v → (read_member w).unread ≡ t ∷ v → BeginsMember (done ++ t ∷ []) → ⊥
