-- Lists of parts that grow by a flat one.
use Rattle.std.proofs.Common.{◌≡◌, true, List, [], ◌∷◌, ◌++◌}
use Rattle.std.specs.List.{list_all}
use Rattle.php_ast.specs.declared.statement.Stmt.{Stmt}
use Rattle.php_ast.specs.declared.statement.ElseIf.{ElseIf}
use Rattle.php_ast.specs.declared.statement.Case.{Case}
use Rattle.php_build.specs.Flat.{is_flat}
use Rattle.php_build.proofs.Flats.{both}
use Rattle.php_flat.specs.Statements.{is_flat_optional, is_flat_statement, are_flat_statements, is_flat_elseif, is_flat_elseif_list, is_flat_case}
use Rattle.php_flat.proofs.Lists.{all_with}

pub elseifs_flat : (xs new : List (ElseIf Stmt)) (x : ElseIf Stmt) → new ≡ xs ++ x ∷ [] → list_all is_flat_elseif xs ≡ true → is_flat x.test ≡ true → is_flat_statement x.body ≡ true → list_all is_flat_elseif new ≡ true
elseifs_flat xs new x grown all test body = all_with is_flat_elseif xs new x grown all (both test body)

pub elseif_lists_flat : (xs new : List (ElseIf (List Stmt))) (x : ElseIf (List Stmt)) → new ≡ xs ++ x ∷ [] → list_all is_flat_elseif_list xs ≡ true → is_flat x.test ≡ true → are_flat_statements x.body ≡ true
    → list_all is_flat_elseif_list new ≡ true
elseif_lists_flat xs new x grown all test body = all_with is_flat_elseif_list xs new x grown all (both test body)

pub cases_flat : (xs new : List (Case Stmt)) (x : Case Stmt) → new ≡ xs ++ x ∷ [] → list_all is_flat_case xs ≡ true → is_flat_optional x.value ≡ true → are_flat_statements x.body ≡ true → list_all is_flat_case new ≡ true
cases_flat xs new x grown all value body = all_with is_flat_case xs new x grown all (both value body)
