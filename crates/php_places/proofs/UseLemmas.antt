-- What is wrong with what is done with an expression, as the program finds it.
use Rattle.std.proofs.Common.{◌≡◌, Bool, true, false, ◌&&◌, not, Option, List, ◌++◌, refl, sym, ◌∙◌, ap}
use Rattle.php_ast.specs.expression.Tree.{Tree}
use Rattle.php_ast.specs.expression.View.{Note}
use Rattle.php_legality.specs.declared.kind.Kind.TheVariants as kind
use Rattle.php_legality.specs.declared.fault.Fault.{Fault}
use Rattle.php_legality.specs.Lists.{where_true}
use Rattle.php_legality.specs.First.{fault_at, first_from}
use Rattle.php_legality.specs.Places.{first_note}
use Rattle.php_legality.specs.Expressions.{Use}
use Rattle.php_legality.specs.Rows.{fits, is_bad_list}
use Rattle.php_legality.proofs.FirstLemmas.{first_from_joined}
use Rattle.php_places.specs.Met.{where_bad, at_use}

pub seen_use : (u : Use) (e : Tree Note) (met : Option Fault) (f b : Bool) (at : Note) → f ≡ fits u e → b ≡ is_bad_list u e → at ≡ first_note e
    → where_bad b kind.BadList at (where_bad (not f) kind.NoPlace at met) ≡ at_use u e met
unfolding at_use
seen_use u e met f b at fit bad first =
    sym (first_from_joined met (where_true (not f) (fault_at kind.NoPlace at)) (where_true b (fault_at kind.BadList at)))
    ∙ ap (λ x. first_from met (where_true (not x) (fault_at kind.NoPlace at) ++ where_true b (fault_at kind.BadList at))) fit
    ∙ ap (λ y. first_from met (where_true (not (fits u e)) (fault_at kind.NoPlace at) ++ where_true y (fault_at kind.BadList at))) bad
    ∙ ap (λ n. first_from met (where_true (not (fits u e)) (fault_at kind.NoPlace n) ++ where_true (is_bad_list u e) (fault_at kind.BadList n))) first

pub right_use : (u : Use) (e : Tree Note) (met : Option Fault) (f b r : Bool) → f ≡ fits u e → b ≡ is_bad_list u e → r ≡ (f && not b) → true ≡ r → met ≡ at_use u e met
right_use u e met true false r fit bad is so = seen_use u e met true false (first_note e) fit bad refl
right_use u e met true true r fit bad is so = absurd (cc)
right_use u e met false b r fit bad is so = absurd (cc)
