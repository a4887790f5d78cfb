-- The parts of members as trees.
use Rattle.std.proofs.Common.{◌≡◌, ℕ, ◌+◌, Some, None, List, ◌∙◌, ap, arith}
use Rattle.php_token.specs.Token.{Token}
use Rattle.php_ast.specs.declared.spot.Spot.{Spot}
use Rattle.php_ast.specs.declared.declaration.ModifierWord.{ModifierWord}
use Rattle.php_ast.specs.expression.Tree.{Tree}
use Rattle.php_ast.specs.expression.Tree as tree
use Rattle.php_ast.specs.expression.View.{Note, spot_view}
use Rattle.php_ast.specs.expression.Placed.{noted, noted_member, notes_of}
use Rattle.php_ast.specs.statement.Tree.{Name}
use Rattle.php_ast.specs.statement.Placed.{noted_name, noted_variable}
use Rattle.php_ast.specs.declaration.Tree.{Modifier}
use Rattle.php_ast.specs.declaration.View.{modifier_view}
use Rattle.php_ast.specs.declaration.Placed.{noted_modifier, noted_class_constant}
use Rattle.php_grammar.specs.expression.Machine.{Nothing, Form}
use Rattle.php_grammar.specs.declaration.MemberMachine.{Word}

-- ---- constants and properties

pub constant_shown : (tokens : List Token) (at : ℕ) (shown : tree.Member Note) (e : Tree Note) (m : Word) (form : Form) → shown ≡ noted_member (notes_of tokens) at m → e ≡ noted (notes_of tokens) (at + 1 + 1) form
    → record { name = shown; value = e } ≡ noted_class_constant (notes_of tokens) at (record { name = m; value = form })
constant_shown tokens at shown e m form named is =
    ap (λ z. record { name = z; value = e }) named ∙ ap (λ z. record { name = noted_member (notes_of tokens) at m; value = z }) (is ∙ ap (λ k. noted (notes_of tokens) k form) (omega arith))

pub property_shown : (tokens : List Token) (at : ℕ) (shown : Name Note) (e : Tree Note) (a : Name Nothing) (form : Form) → shown ≡ noted_name (notes_of tokens) at a → e ≡ noted (notes_of tokens) (at + 1 + 1) form
    → record { name = shown; value = Some e } ≡ noted_variable (notes_of tokens) at (record { name = a; value = Some form })
property_shown tokens at shown e a form named is =
    ap (λ z. record { name = z; value = Some e }) named ∙ ap (λ z. record { name = noted_name (notes_of tokens) at a; value = Some z }) (is ∙ ap (λ k. noted (notes_of tokens) k form) (omega arith))

pub bare_shown : (tokens : List Token) (at : ℕ) (shown : Name Note) (a : Name Nothing) → shown ≡ noted_name (notes_of tokens) at a
    → record { name = shown; value = None } ≡ noted_variable (notes_of tokens) at (record { name = a; value = None })
bare_shown tokens at shown a named = ap (λ z. record { name = z; value = None }) named

-- ---- modifiers

abbrev pub modifier_of : ModifierWord → Modifier Nothing
modifier_of w = record { note = tt; word = w }

pub modifier_shown : (tokens : List Token) (at : ℕ) (spot : Spot) (w : ModifierWord) → spot_view spot ≡ (notes_of tokens).token at
    → modifier_view (record { spot = spot; word = w }) ≡ noted_modifier (notes_of tokens) at (modifier_of w)
modifier_shown tokens at spot w noted_is = ap (λ n. record { note = n; word = w }) noted_is
