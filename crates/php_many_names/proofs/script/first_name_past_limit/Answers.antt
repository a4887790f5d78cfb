use Rattle.std.proofs.Common.{◌≡◌, ◌∙◌, sym, ap, map, subst, ◌++◌, []}
use Rattle.php_ast.specs.declaration.View.{item_view, script_view}
use Rattle.php_ast.specs.statement.View.{sequence}
use Rattle.php_legality.specs.Lists.{elements}
use Rattle.php_legality.specs.NameTokens.{name_tokens}
use Rattle.php_ast.specs.expression.View.{Note}
use Rattle.php_ast.specs.statement.Tree.{Sequence}
use Rattle.php_ast.specs.declaration.Tree.{Item}
use Rattle.php_legality.specs.declared.kind.Kind.TheVariants as kind
use Rattle.php_legality.specs.First.{fault_at, IsFirst}
use Rattle.php_legality.specs.Legality.{faults_of_kinds, places_of}
use Rattle.php_legality.specs.Rows.{most_names, too_many}
use Rattle.php_many_names.specs.Tally.{Tally, nothing}
use Rattle.php_many_names.specs.Met.{over, met_script_item}
use Rattle.php_many_names.specs.Promise.{name_kinds, FirstNamePastLimit}
use Rattle.php_many_names.proofs.Bridge.{script_met}
use Rattle.php_many_names.proofs.Limit.{limit_is_met}
use Rattle.php_many_names.proofs.script.first_name_past_limit.Goals as goal

kept : (items : Sequence (Item Note)) (tally : Tally) → tally ≡ over met_script_item nothing items → IsFirst (faults_of_kinds name_kinds (elements items)) tally.first
unfolding places_of
kept items tally is =
    subst (λ (t : Tally). IsFirst (map (fault_at kind.TooManyNames) (too_many most_names (name_tokens (elements items))) ++ []) t.first) (sym (is ∙ script_met nothing items)) (limit_is_met (name_tokens (elements items)))

pub returns : goal.returns
returns c =
    subst (FirstNamePastLimit (script_view c.args.script.now)) (sym c.first.ensures)
    (kept (script_view c.args.script.now) c.meet_script_items.new.names
    (c.in_ok-meet_script_items.ensures ∙ ap (λ xs. over met_script_item c.new-names.result (sequence item_view xs)) c.as_slice.ensures
    ∙ ap (λ (t : Tally). over met_script_item t (script_view c.args.script.now)) c.new-names.ensures))
