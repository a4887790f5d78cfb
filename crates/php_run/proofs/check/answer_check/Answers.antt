use Rattle.std.proofs.Common.{◌≡◌, ℕ, List, [], map, sym, ap, ◌∙◌, subst}
use Rattle.php_base.specs.Streams.{Stream, stream_of}
use Rattle.php_base.proofs.Streams.{nothing_written}
use Rattle.php_ast.specs.declared.script.ScriptItem.{ScriptItem}
use Rattle.php_ast.specs.expression.View.{Note}
use Rattle.php_ast.specs.declaration.Tree.{Item}
use Rattle.php_ast.specs.declaration.View.{item_view, script_view}
use Rattle.php_legality.specs.Lists.{elements}
use Rattle.php_legality.proofs.SequenceLemmas.{elements_are}
use Rattle.php_run.specs.Answer.{Answer, counted, not_yet}
use Rattle.php_run.specs.Called.{CanEnd, finished}
use Rattle.php_run.specs.Checked.{checked, checked_by, first_class}
use Rattle.php_run.specs.Counting.{HasNoClass, HasClassOn}
use Rattle.php_run.specs.Shown.{shown}
use Rattle.php_run.proofs.Comes.{ends_as}
use Rattle.php_run.proofs.Counts.{counted_all, not_counted}
use Rattle.php_run.proofs.check.answer_check.Goals as goal

pub returns-in-Functions : goal.returns-in-Functions
returns-in-Functions g c =
    let items : List (Item Note) = elements (script_view c.args.script.now) in
    let same : map item_view c.as_slice.result.now ≡ items = ap (map item_view) c.as_slice.ensures ∙ sym (elements_are item_view c.args.script.now.items) in
    let P : List (Item Note) → Type 0 = λ l. HasNoClass l c.in-Functions.functions in
    let none : HasNoClass items c.in-Functions.functions = subst P same (rw c.in-Functions.is at c.tallied.ensures) in
    let s = g.O.Sink in
    let old : Stream = stream_of s.written s.faults c.args.out.now in
    let new : Stream = stream_of s.written s.faults c.put_count.new.out in
    let end = c.put_count.ensures in
    let Due : Answer → Type 0 = λ whole. whole ≡ counted c.in-Functions.functions 0 in
    let Owed : Answer → Type 0 = λ whole. whole ≡ checked (script_view c.args.script.now) in
    (end.0, ends_as Due Owed old new (shown c.put_count.result end.0) (λ a due. due ∙ counted_all items c.in-Functions.functions none) end.1)

pub returns-in-Class : goal.returns-in-Class
returns-in-Class g c =
    let items : List (Item Note) = elements (script_view c.args.script.now) in
    let same : map item_view c.as_slice.result.now ≡ items = ap (map item_view) c.as_slice.ensures ∙ sym (elements_are item_view c.args.script.now.items) in
    let P : List (Item Note) → Type 0 = λ l. HasClassOn l c.in-Class.line in
    let some : HasClassOn items c.in-Class.line = subst P same (rw c.in-Class.is at c.tallied.ensures) in
    ([], finished (c.not_yet.ensures ∙ not_counted items c.in-Class.line some) (nothing_written _))
