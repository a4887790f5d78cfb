use Rattle.std.proofs.Common.{◌++◌, ◌∷◌, [], List, ap, ◌∙◌}
use Rattle.std.proofs.lemmas.List.{replicate-append-replicate}
use Rattle.php_first_run.specs.declared.value.Value.{Value}
use Rattle.php_first_run.specs.declared.value.Value.TheVariants.{Null}
use Rattle.php_run.proofs.today.nulls.Goals as goal

pub loop-made-preserved : goal.loop-made-preserved
loop-made-preserved c =
    c.in_ok-push.ensures.items ∙ ap (λ (l : List Value). l ++ Null ∷ []) c.loop-made.invariant ∙ replicate-append-replicate c.loop-made._made 1 Null
