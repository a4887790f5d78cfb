use Rattle.std.proofs.Common.{◌≡◌, ◌+◌, ◌-◌, ◌<◌, ◌≤◌, ◌++◌, ◌∷◌, length, take, drop, sym, ap, ◌∙◌, inl, inr, ⊎_elim, subst, arith, length-drop}
use Rattle.std.proofs.lemmas.List.{take_rest}
use Rattle.php_lex.specs.Entry.{tokens_in}
use Rattle.php_lex.specs.Modes.{outside, changed}
use Rattle.php_lex.specs.Reading.{put_before, read_from, tokens, tokens_of, lines_after}
use Rattle.php_lex.proofs.CutLemmas.{CutTo, cut_starts, cut_more, cut_stops}
use Rattle.php_lex.proofs.KeepLemmas.{none_within}
use Rattle.php_lex.proofs.ReadingLemmas.{put_before-nil, read_more, read_faulty}
use Rattle.php_lex_pieces.proofs.RunLemmas.{part}
use Rattle.php_lex.proofs.lexer.lex.Goals as goal

pub loop-at-init : goal.loop-at-init
unfolding tokens
loop-at-init c =
    let out = c.new-out.result in
    let src = c.args.src.now in
    let modes = c.in-Ok.ensures ∙ ap (λ m. outside ∷ m) c.new-modes.ensures in
    let line = c.first_line-line in
    let cut = cut_starts src c.enter.new.self (tokens_in out.decoded.items out.entries.items) modes (ap (tokens_in out.decoded.items) c.new-out.ensures.entries) in
    record {
      kept = none_within (length out.decoded.items) out.entries.items c.new-out.ensures.entries;
      read = ap (λ es. put_before (tokens_in out.decoded.items es) (read_from 0 c.enter.new.self line.result.number src)) c.new-out.ensures.entries
          ∙ put_before-nil (read_from 0 c.enter.new.self line.result.number src) ∙ ap (λ n. read_from 0 c.enter.new.self n src) line.ensures.number ∙ ap (λ m. read_from 0 m 1 src) modes;
      within = omega arith;
      lines = omega (arith, line.ensures.number);
      ends = line.ensures.line;
      cut = subst (λ n. CutTo src 0 c.enter.new.self n (tokens_in out.decoded.items out.entries.items)) (sym line.ensures.number) cut;
    }

pub loop-at-preserved : goal.loop-at-preserved
loop-at-preserved c =
    let old = c.loop-at in
    let new = c.step.new in
    let src = c.args.src.now in
    let p = c.in-Ok-step.ensures.0 in
    let t = c.in-Ok-step.ensures.1 in
    let len = c.in-Ok-step.len in
    let rest : length (part src old.at) ≡ length (drop old.at src) = ap length (take_rest src old.at) in
    let fits : len ≤ length (part src old.at) = t.within.1 in
    let within : old.at + len ≤ length src = omega (arith, fits, rest, length-drop old.at src, old.invariant.within) in
    let before = tokens_in old.out.decoded.items old.out.entries.items in
    let more = read_more before old.modes old.line.number src old.at p t.found (subst (λ n. 0 < n) t.len_is t.within.0) (subst (λ n. n ≤ length (part src old.at)) t.len_is fits) in
    let count : old.at + len - old.at ≡ len = omega arith in
    let line_is : c.line_behind-line.result.number ≡ lines_after old.line.number (take p.len (part src old.at)) =
    c.line_behind-line.ensures.number ∙ ap (λ n. lines_after old.line.number (take n (drop old.at src))) count
    ∙ ap (λ text. lines_after old.line.number (take len text)) (sym (take_rest src old.at)) ∙ ap (λ n. lines_after old.line.number (take n (part src old.at))) t.len_is in
    record {
      kept = t.added.within;
      read = ap (λ ts. put_before ts (read_from 0 new.modes c.line_behind-line.result.number (drop (old.at + len) src))) t.added.told
          ∙ ap (λ m. put_before (before ++ tokens_of old.line.number p) (read_from 0 m c.line_behind-line.result.number (drop (old.at + len) src))) t.state
          ∙ ap (λ l. put_before (before ++ tokens_of old.line.number p) (read_from 0 (changed p.change old.modes) l (drop (old.at + len) src))) line_is
          ∙ ap (λ n. put_before (before ++ tokens_of old.line.number p) (read_from 0 (changed p.change old.modes) (lines_after old.line.number (take p.len (part src old.at))) (drop (old.at + n) src))) t.len_is
          ∙ more ∙ old.invariant.read;
      within = within;
      lines = omega (arith, c.line_behind-line.ensures.few, old.invariant.lines, count);
      ends = c.line_behind-line.ensures.line;
      cut =
          let more = cut_more src old.at old.modes old.line.number before p old.invariant.cut t.found (subst (λ n. 0 < n) t.len_is t.within.0) (subst (λ n. n ≤ length (part src old.at)) t.len_is fits) in
          subst (λ ts. CutTo src (old.at + len) new.modes c.line_behind-line.result.number ts) (sym t.added.told)
          (subst (λ m. CutTo src (old.at + len) m c.line_behind-line.result.number (before ++ tokens_of old.line.number p)) (sym t.state)
          (subst (λ l. CutTo src (old.at + len) (changed p.change old.modes) l (before ++ tokens_of old.line.number p)) (sym line_is)
          (subst (λ n. CutTo src (old.at + n) (changed p.change old.modes) (lines_after old.line.number (take p.len (part src old.at))) (before ++ tokens_of old.line.number p)) (sym t.len_is) more)));
    }

pub returns-in-Err-clause-tokens : goal.returns-in-Err-clause-tokens
returns-in-Err-clause-tokens c =
    let old = c.loop-at in
    let before = tokens_in old.out.decoded.items old.out.entries.items in
    ⊎_elim
    (λ e. inl e)
    (λ e. inr (sym old.invariant.read ∙ read_faulty before old.modes old.line.number c.args.src.now old.at c.in-Err.fault c.loop-at-test.true e))
    c.in-Err.ensures

pub returns-in-Err-clause-fault : goal.returns-in-Err-clause-fault
returns-in-Err-clause-fault c =
    let old = c.loop-at in
    let before = tokens_in old.out.decoded.items old.out.entries.items in
    ⊎_elim
    (λ e. inl e)
    (λ e. inr (cut_stops c.args.src.now old.at old.modes old.line.number before c.in-Err.fault old.invariant.cut c.loop-at-test.true e))
    c.in-Err.ensures
