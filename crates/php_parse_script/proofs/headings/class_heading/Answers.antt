use Rattle.std.proofs.Common.{◌+◌, None, ap, arith, ◌∙◌}
use Rattle.std.proofs.lemmas.Result.{err_from_is_err_and}
use Rattle.php_ast.specs.expression.Placed.{notes_of}
use Rattle.php_ast.specs.statement.Tree.{empty}
use Rattle.php_ast.specs.declaration.Placed.{noted_one_name, noted_names}
use Rattle.php_grammar.specs.declaration.ScriptMachine.{due_heading_name, past_heading, class_kind, class_heading}
use Rattle.php_grammar.specs.statement.Machine.{named_here}
use Rattle.php_parse_script.proofs.Moves.{leads, later}
use Rattle.php_parse_script.proofs.Named.{heading_named, heading_fails}
use Rattle.php_parse_script.proofs.headings.class_heading.Goals as goal

pub returns-in_err-read : goal.returns-in_err-read
returns-in_err-read c =
    let q = err_from_is_err_and c.from_residual.result c.from_residual.ensures.1 in
    rw (q.1, q.2) c.in_err-read.ensures

pub overflow_add-place : goal.overflow_add-place
overflow_add-place c = let w = c.in_ok-read.ensures in omega (arith, w.fits)

pub returns-in_err-name : goal.returns-in_err-name
returns-in_err-name c =
    let w = c.in_ok-read.ensures in
    let q = err_from_is_err_and c.from_residual-in_err-name.result c.from_residual-in_err-name.ensures.1 in
    rw (q.1, q.2) (λ items. later c.args.reader.now.tokens.now c.args.at (c.in_ok-read.read.next + 1) (due_heading_name items (class_kind w.words)) c.in_err-name.field-0.0 (omega (arith, w.sized)) (w.reads items)
    (heading_fails c.args.reader.now.room items (class_kind w.words) c.args.reader.now.tokens.now (c.in_ok-read.read.next + 1) c.in_err-name.field-0.0 (omega (arith, w.within)) c.in_err-name.ensures))

pub returns-in_err-parent : goal.returns-in_err-parent
returns-in_err-parent c =
    let w = c.in_ok-read.ensures in
    let s = c.in_ok-name.ensures in
    let q = err_from_is_err_and c.from_residual-in_err-parent.result c.from_residual-in_err-parent.ensures.1 in
    rw (q.1, q.2) (λ items. later c.args.reader.now.tokens.now c.args.at (c.in_ok-read.read.next + 1 + 1) (past_heading items (class_heading w.words (named_here s.0) None empty)) c.in_err-parent.field-0.0 (omega (arith, w.sized))
    (leads (due_heading_name items (class_kind w.words)) (w.reads items) (heading_named items (class_kind w.words) s.1.token s.0 s.1.stands.is s.1.role_is)) (c.in_err-parent.ensures items w.words (named_here s.0)))

pub returns-in_err-interfaces : goal.returns-in_err-interfaces
returns-in_err-interfaces c =
    let w = c.in_ok-read.ensures in
    let s = c.in_ok-name.ensures in
    let p = c.in_ok-parent.ensures in
    let q = err_from_is_err_and c.from_residual-in_err-interfaces.result c.from_residual-in_err-interfaces.ensures.1 in
    rw (q.1, q.2) (λ items. later c.args.reader.now.tokens.now c.args.at c.in_ok-parent.parent.next (past_heading items (class_heading w.words (named_here s.0) p.parent empty)) c.in_err-interfaces.field-0.0 (omega (arith, w.sized, p.sized))
    (leads (due_heading_name items (class_kind w.words)) (w.reads items) (leads (past_heading items (class_heading w.words (named_here s.0) None empty)) (heading_named items (class_kind w.words) s.1.token s.0 s.1.stands.is s.1.role_is)
    (p.reads items w.words (named_here s.0)))) (c.in_err-interfaces.ensures w.words (named_here s.0) p.parent items))

pub returns : goal.returns
returns c =
    let w = c.in_ok-read.ensures in
    let s = c.in_ok-name.ensures in
    let p = c.in_ok-parent.ensures in
    let i = c.in_ok-interfaces.ensures w.words (named_here s.0) p.parent in
    record {
      words = w.words;
      name = named_here s.0;
      parent = p.parent;
      interfaces = i.names;
      place = c.in_ok-read.read.next;
      sized_words = w.sized;
      words_shown = w.shown;
      spot_shown = c.spot.ensures;
      name_shown = s.2;
      parent_shown = p.shown ∙ ap (λ k. noted_one_name (notes_of c.args.reader.now.tokens.now) k p.parent) (omega arith);
      interfaces_shown = i.shown ∙ ap (λ k. noted_names (notes_of c.args.reader.now.tokens.now) k i.names) (omega (arith, p.sized));
      sized = omega (arith, p.sized, i.sized);
      reads = λ items. leads (due_heading_name items (class_kind w.words)) (w.reads items)
          (leads (past_heading items (class_heading w.words (named_here s.0) None empty)) (heading_named items (class_kind w.words) s.1.token s.0 s.1.stands.is s.1.role_is)
          (leads (past_heading items (class_heading w.words (named_here s.0) p.parent empty)) (p.reads items w.words (named_here s.0)) (i.reads items)));
      over = i.over p.past;
      within = i.within;
    }
