use Rattle.std.proofs.Common.{arith}
use Rattle.std.proofs.lemmas.Result.{err_from_is_err_and}
use Rattle.php_grammar.specs.declaration.ScriptMachine.{past_heading, item_of, class_heading}
use Rattle.php_parse_script.proofs.Moves.{leads, later}
use Rattle.php_parse_script.proofs.Declared.{class_shown}
use Rattle.php_parse_script.proofs.items.class.Goals as goal

pub returns-in_err-heading : goal.returns-in_err-heading
returns-in_err-heading c =
    let q = err_from_is_err_and c.from_residual.result c.from_residual.ensures.1 in
    rw (q.1, q.2) c.in_err-heading.ensures

pub returns-in_err-read : goal.returns-in_err-read
returns-in_err-read c =
    let h = c.in_ok-heading.ensures in
    let q = err_from_is_err_and c.from_residual-in_err-read.result c.from_residual-in_err-read.ensures.1 in
    rw (q.1, q.2) (λ items. later c.args.reader.now.tokens.now c.args.at c.in_ok-heading.heading.next (past_heading items (class_heading h.words h.name h.parent h.interfaces)) c.in_err-read.field-0.0 (omega (arith, h.sized, h.sized_words)) (h.reads items)
    (c.in_err-read.ensures items (class_heading h.words h.name h.parent h.interfaces) h.over))

pub returns : goal.returns
returns c =
    let h = c.in_ok-heading.ensures in
    let m = c.in_ok-read.ensures in
    record {
      form = item_of (class_heading h.words h.name h.parent h.interfaces) m.members;
      shown = class_shown c.args.reader.now.tokens.now c.args.at h.place c.in_ok-heading.heading.next h.words h.name h.parent h.interfaces m.members _ _ _ _ _ _ _ c.class_item.ensures.shown
          h.sized_words h.sized h.words_shown h.spot_shown h.name_shown h.parent_shown h.interfaces_shown m.shown;
      sized = omega (arith, h.sized, h.sized_words, m.sized);
      reads = λ items. leads (past_heading items (class_heading h.words h.name h.parent h.interfaces)) (h.reads items) (m.reads items (class_heading h.words h.name h.parent h.interfaces));
      ahead = omega (arith, h.sized, h.sized_words, m.sized);
      within = m.within;
    }
