use Rattle.std.proofs.Common.{false, ap, arith}
use Rattle.php_ast.specs.expression.Placed.{notes_of}
use Rattle.php_ast.specs.statement.Tree.{empty}
use Rattle.php_ast.specs.statement.View.{sequence}
use Rattle.php_ast.specs.declaration.Placed.{size_class_word, noted_class_word}
use Rattle.php_ast.specs.declaration.View.{class_word_view}
use Rattle.php_grammar.specs.declaration.ScriptMachine.{with_word}
use Rattle.php_parse_script.specs.Answer.{behind_words}
use Rattle.php_parse_script.proofs.Moves.{leads, leads_halts, stays}
use Rattle.php_parse_script.proofs.Heads.{class_read, word_read, words_halt, begun_within, words_none, word_shown}
use Rattle.php_flat.proofs.Lists.{joined_more}
use Rattle.php_parse_script.proofs.headings.class_words.Goals as goal

pub loop-words-init : goal.loop-words-init
loop-words-init c = record {
  words = empty;
  shown = ap (sequence class_word_view) c.new-words.ensures;
  sized = omega arith;
  reads = λ items. stays;
  within = begun_within c.args.reader.now.tokens.now c.args.at c.requires;
}

pub returns-then-sees_class : goal.returns-then-sees_class
returns-then-sees_class c =
    let v = c.loop-words.invariant in
    let g = c.if-sees_class.ensures in
    record {
      words = v.words;
      shown = v.shown;
      sized = v.sized;
      reads = λ items. leads (behind_words items v.words) (v.reads items) (class_read items v.words g.token g.stands.is g.role_is);
      within = g.stands.within;
      fits = g.stands.fits;
    }

pub returns-in_default : goal.returns-in_default
returns-in_default c =
    let v = c.loop-words.invariant in
    λ items. record {
      halts = leads_halts false (behind_words items v.words) (v.reads items)
          (words_halt items v.words c.args.reader.now.tokens.now c.args.at c.loop-words.next c.requires (words_none v.words c.args.at c.loop-words.next v.sized) c.if-sees_class.ensures (rw c.in_default.is at c.class_word_at.ensures));
      ahead = omega (arith, v.sized);
      within = v.within;
    }

pub loop-words-preserved : goal.loop-words-preserved
loop-words-preserved c =
    let v = c.loop-words.invariant in
    let g = rw c.in-Some.is at c.class_word_at.ensures in
    record {
      words = with_word v.words c.in-Some.word;
      shown = joined_more class_word_view size_class_word (noted_class_word (notes_of c.args.reader.now.tokens.now)) c.args.at c.loop-words.next v.words _ c.loop-words.words _ _ c.in_ok-push.ensures.ok v.shown v.sized
          (word_shown c.args.reader.now.tokens.now c.loop-words.next _ c.in-Some.word c.spot.ensures);
      sized = omega (arith, v.sized);
      reads = λ items. leads (behind_words items v.words) (v.reads items) (word_read items v.words c.in-Some.word g.token g.stands.is g.role_is);
      within = omega (arith, g.stands.within);
    }
