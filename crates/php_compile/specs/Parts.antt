-- The code of one part of a form that grows at its end, behind the parts before it.
use Rattle.std.specs.Prelude.{ℕ, ◌+◌, max, List, [], ◌∷◌, ◌++◌}
use Rattle.php_value.specs.declared.scalar.Scalar.TheVariants as scalar
use Rattle.php_ast.specs.declared.expression.Piece.{Piece}
use Rattle.php_ast.specs.declared.expression.Piece.TheVariants as piece
use Rattle.php_ast.specs.declared.expression.Link.{Link}
use Rattle.php_ast.specs.declared.expression.Link.TheVariants as link
use Rattle.php_ast.specs.expression.Tree.{Tree, Pieces}
use Rattle.php_ast.specs.expression.View.{Note}
use Rattle.php_actions.specs.declared.action.Action.TheVariants.{Operator, Output}
use Rattle.php_actions.specs.declared.operators.OperatorAction.TheVariants.{ToText, Join}
use Rattle.php_actions.specs.declared.output.OutputAction.TheVariants.{Echo}
use Rattle.php_code.specs.declared.instr.Instr.{Instr}
use Rattle.php_code.specs.declared.instr.Instr.TheVariants.{Do}
use Rattle.php_meaning.specs.Slots.{Names, names_of}
use Rattle.php_meaning.specs.Forms.{push, binary_action}
use Rattle.php_meaning.specs.Heights.{peak_of, peak_of_two, piece_count}
use Rattle.php_compile.specs.ExpressionCode.{expr_code, pieces_code, right_code}

-- ---- a piece of a template

abbrev pub piece_names : Names → Piece (Tree Note) → Names
piece_names ns (piece.Bytes t) = ns
piece_names ns (piece.Part e) = names_of ns e

abbrev pub piece_code : Names → Piece (Tree Note) → List Instr
piece_code ns (piece.Bytes t) = Do (push (scalar.Str t)) ∷ []
piece_code ns (piece.Part e) = expr_code ns e ++ Do (Operator ToText) ∷ []

abbrev pub piece_peak : Names → ℕ → ℕ → Piece (Tree Note) → ℕ
piece_peak ns n m (piece.Bytes t) = max m (n + 1)
piece_peak ns n m (piece.Part e) = peak_of ns n m e

abbrev pub template_code : Names → Pieces Note → List Instr
template_code ns ps = pieces_code ns ps ++ Do (Operator (Join (piece_count ps))) ∷ []

-- ---- an operator and what stands behind it

abbrev pub link_names : Names → Link (Tree Note) → Names
link_names ns (link.Operator op r) = names_of ns r
link_names ns (link.Choice a b) = ns
link_names ns (link.ShortChoice b) = ns

abbrev pub link_code : Names → Link (Tree Note) → List Instr
link_code ns (link.Operator op r) = right_code (binary_action op) (expr_code ns r)
link_code ns (link.Choice a b) = []
link_code ns (link.ShortChoice b) = []

abbrev pub link_peak : Names → ℕ → ℕ → Link (Tree Note) → ℕ
link_peak ns n m (link.Operator op r) = peak_of_two (binary_action op) n m (peak_of ns (n + 1) m r)
link_peak ns n m (link.Choice a b) = m
link_peak ns n m (link.ShortChoice b) = m

-- ---- a value of an `echo`

abbrev pub value_code : Names → Tree Note → List Instr
value_code ns e = expr_code ns e ++ Do (Output Echo) ∷ []
