use Rattle.std.proofs.Common.{◌≡◌, Ok, refl, sym, ap, ◌∙◌}
use Rattle.php_lex.specs.Front.{front_piece, simple_kept}
use Rattle.php_lex.specs.Kept.{mode_kept}
use Rattle.php_lex.specs.Modes.{stay}
use Rattle.php_lex.specs.Pieces.{nothing, piece}
use Rattle.php_lex.proofs.KeepLemmas.{added_none}
use Rattle.php_lex.proofs.SteppingLemmas.{looked, took_steps}
use Rattle.php_lex.proofs.lexer.step.Goals as goal

pub returns-then-not-is_in_script : goal.returns-then-not-is_in_script
returns-then-not-is_in_script c =
    took_steps c.args.line c.args.text.now c.args.modes.now c.take.new.modes c.args.out.now c.take.new.out c.next_piece.result
    (piece (mode_kept c.mode-mode.result) c.args.line c.args.text.now) c.take.result
    (ap (λ mode. piece mode c.args.line c.args.text.now) (sym c.mode-mode.ensures)) c.next_piece.ensures.value c.next_piece.ensures.within c.take.ensures

pub returns-in-Nothing : goal.returns-in-Nothing
returns-in-Nothing c = (
  nothing c.in-Nothing.len stay,
  record {
    found = looked (mode_kept c.mode-mode.result) c.args.modes.now c.args.line c.args.text.now c.look.result c.is_in_script.result c.mode-mode.ensures c.is_in_script.ensures c.if-not-is_in_script.false c.look.ensures.value
        ∙ ap (front_piece (mode_kept c.mode-mode.result) c.args.line c.args.text.now) c.in-Nothing.is;
    len_is = refl;
    within = c.in-Nothing.ensures.within;
    state = refl;
    added = added_none c.args.out.now.entries.items c.args.out.now.decoded.items c.requires.kept;
  },
)

pub returns-in-Ok : goal.returns-in-Ok
returns-in-Ok c = (
  simple_kept c.in-Simple.simple,
  record {
    found = looked (mode_kept c.mode-mode.result) c.args.modes.now c.args.line c.args.text.now c.look.result c.is_in_script.result c.mode-mode.ensures c.is_in_script.ensures c.if-not-is_in_script.false c.look.ensures.value
        ∙ ap (front_piece (mode_kept c.mode-mode.result) c.args.line c.args.text.now) c.in-Simple.is;
    len_is = refl;
    within = c.in-Simple.ensures.within;
    state = refl;
    added = c.in-Ok.ensures;
  },
)

pub returns-in-General : goal.returns-in-General
returns-in-General c =
    took_steps c.args.line c.args.text.now c.args.modes.now c.take-in-General.new.modes c.args.out.now c.take-in-General.new.out c.kind_piece.result
    (front_piece (mode_kept c.mode-mode.result) c.args.line c.args.text.now c.look.result) c.take-in-General.result
    (looked (mode_kept c.mode-mode.result) c.args.modes.now c.args.line c.args.text.now c.look.result c.is_in_script.result c.mode-mode.ensures c.is_in_script.ensures c.if-not-is_in_script.false c.look.ensures.value)
    (rw c.in-General.is c.kind_piece.ensures.value) c.kind_piece.ensures.within c.take-in-General.ensures
