-- What is met where a test has given true or false.
use Rattle.std.proofs.Common.{◌≡◌, Bool, true, false, not, Option, refl, ◌∙◌, ap}
use Rattle.php_ast.specs.expression.Tree.{Tree}
use Rattle.php_ast.specs.expression.View.{Note}
use Rattle.php_ast.specs.statement.Tree.{Name}
use Rattle.php_legality.specs.declared.kind.Kind.TheVariants as kind
use Rattle.php_legality.specs.declared.fault.Fault.{Fault}
use Rattle.php_legality.specs.Places.{first_note}
use Rattle.php_legality.specs.Constants.{is_constant}
use Rattle.php_legality.specs.Rows.{is_inner_name}
use Rattle.php_places.specs.Met.{where_bad}
use Rattle.php_bodies.specs.Own.{met_constant, met_name}

pub constant : (e : Tree Note) (met : Option Fault) (t : Bool) → t ≡ is_constant e → t ≡ true → met ≡ met_constant e met
unfolding met_constant
constant e met true is so = ap (λ b. where_bad (not b) kind.NoConstant (first_note e) met) is
constant e met false is so = absurd (cc)

pub not_constant : (e : Tree Note) (met r : Option Fault) (t : Bool) (at : Note) → t ≡ is_constant e → t ≡ false → at ≡ first_note e → r ≡ where_bad true kind.NoConstant at met → r ≡ met_constant e met
unfolding met_constant
not_constant e met r true at is so first rest = absurd (cc)
not_constant e met r false at is so first rest =
    rest ∙ ap (λ n. where_bad true kind.NoConstant n met) first ∙ ap (λ b. where_bad (not b) kind.NoConstant (first_note e) met) is

pub in_class : (b : Bool) (n : Name Note) (met : Option Fault) → b ≡ true → met ≡ met_name b n met
unfolding met_name
in_class true n met so = refl
in_class false n met so = absurd (cc)

pub outside_class : (b t : Bool) (n : Name Note) (met r : Option Fault) → b ≡ false → t ≡ is_inner_name n.text → r ≡ where_bad t kind.BadUse n.note met → r ≡ met_name b n met
unfolding met_name
outside_class true t n met r so is rest = absurd (cc)
outside_class false t n met r so is rest = rest ∙ ap (λ x. where_bad x kind.BadUse n.note met) is
