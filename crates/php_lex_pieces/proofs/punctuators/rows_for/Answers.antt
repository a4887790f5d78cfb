use Rattle.std.proofs.Common.{refl, sym, ◌∙◌, ◌∷◌, []}
use Rattle.php_lex_pieces.specs.Punctuators.{punctuators, punctuator}
use Rattle.php_lex_pieces.proofs.TableLemmas.{narrowed, begins_otherwise}
use Rattle.php_lex_pieces.proofs.punctuators.rows_for.Goals as goal

pub returns-then-first-eq61 : goal.returns-then-first-eq61
unfolding punctuator punctuators
returns-then-first-eq61 c = narrowed 61 c.args.text.now (sym c.byte-first.ensures ∙ c.if-first-eq61.true)

pub returns-then-first-eq33 : goal.returns-then-first-eq33
unfolding punctuator punctuators
returns-then-first-eq33 c = narrowed 33 c.args.text.now (sym c.byte-first.ensures ∙ c.if-first-eq33.true)

pub returns-then-first-eq60 : goal.returns-then-first-eq60
unfolding punctuator punctuators
returns-then-first-eq60 c = narrowed 60 c.args.text.now (sym c.byte-first.ensures ∙ c.if-first-eq60.true)

pub returns-then-first-eq42 : goal.returns-then-first-eq42
unfolding punctuator punctuators
returns-then-first-eq42 c = narrowed 42 c.args.text.now (sym c.byte-first.ensures ∙ c.if-first-eq42.true)

pub returns-then-first-eq62 : goal.returns-then-first-eq62
unfolding punctuator punctuators
returns-then-first-eq62 c = narrowed 62 c.args.text.now (sym c.byte-first.ensures ∙ c.if-first-eq62.true)

pub returns-then-first-eq46 : goal.returns-then-first-eq46
unfolding punctuator punctuators
returns-then-first-eq46 c = narrowed 46 c.args.text.now (sym c.byte-first.ensures ∙ c.if-first-eq46.true)

pub returns-then-first-eq45 : goal.returns-then-first-eq45
unfolding punctuator punctuators
returns-then-first-eq45 c = narrowed 45 c.args.text.now (sym c.byte-first.ensures ∙ c.if-first-eq45.true)

pub returns-then-first-eq43 : goal.returns-then-first-eq43
unfolding punctuator punctuators
returns-then-first-eq43 c = narrowed 43 c.args.text.now (sym c.byte-first.ensures ∙ c.if-first-eq43.true)

pub returns-then-first-eq38 : goal.returns-then-first-eq38
unfolding punctuator punctuators
returns-then-first-eq38 c = narrowed 38 c.args.text.now (sym c.byte-first.ensures ∙ c.if-first-eq38.true)

pub returns-then-first-eq124 : goal.returns-then-first-eq124
unfolding punctuator punctuators
returns-then-first-eq124 c = narrowed 124 c.args.text.now (sym c.byte-first.ensures ∙ c.if-first-eq124.true)

pub returns-then-first-eq47 : goal.returns-then-first-eq47
unfolding punctuator punctuators
returns-then-first-eq47 c = narrowed 47 c.args.text.now (sym c.byte-first.ensures ∙ c.if-first-eq47.true)

pub returns-then-first-eq63 : goal.returns-then-first-eq63
unfolding punctuator punctuators
returns-then-first-eq63 c = narrowed 63 c.args.text.now (sym c.byte-first.ensures ∙ c.if-first-eq63.true)

pub returns-then-first-eq58 : goal.returns-then-first-eq58
unfolding punctuator punctuators
returns-then-first-eq58 c = narrowed 58 c.args.text.now (sym c.byte-first.ensures ∙ c.if-first-eq58.true)

pub returns-then-first-eq91 : goal.returns-then-first-eq91
unfolding punctuator punctuators
returns-then-first-eq91 c = narrowed 91 c.args.text.now (sym c.byte-first.ensures ∙ c.if-first-eq91.true)

pub returns-then-first-eq93 : goal.returns-then-first-eq93
unfolding punctuator punctuators
returns-then-first-eq93 c = narrowed 93 c.args.text.now (sym c.byte-first.ensures ∙ c.if-first-eq93.true)

pub returns-then-first-eq40 : goal.returns-then-first-eq40
unfolding punctuator punctuators
returns-then-first-eq40 c = narrowed 40 c.args.text.now (sym c.byte-first.ensures ∙ c.if-first-eq40.true)

pub returns-then-first-eq41 : goal.returns-then-first-eq41
unfolding punctuator punctuators
returns-then-first-eq41 c = narrowed 41 c.args.text.now (sym c.byte-first.ensures ∙ c.if-first-eq41.true)

pub returns-then-first-eq123 : goal.returns-then-first-eq123
unfolding punctuator punctuators
returns-then-first-eq123 c = narrowed 123 c.args.text.now (sym c.byte-first.ensures ∙ c.if-first-eq123.true)

pub returns-then-first-eq125 : goal.returns-then-first-eq125
unfolding punctuator punctuators
returns-then-first-eq125 c = narrowed 125 c.args.text.now (sym c.byte-first.ensures ∙ c.if-first-eq125.true)

pub returns-then-first-eq59 : goal.returns-then-first-eq59
unfolding punctuator punctuators
returns-then-first-eq59 c = narrowed 59 c.args.text.now (sym c.byte-first.ensures ∙ c.if-first-eq59.true)

pub returns-then-first-eq44 : goal.returns-then-first-eq44
unfolding punctuator punctuators
returns-then-first-eq44 c = narrowed 44 c.args.text.now (sym c.byte-first.ensures ∙ c.if-first-eq44.true)

pub returns-then-first-eq126 : goal.returns-then-first-eq126
unfolding punctuator punctuators
returns-then-first-eq126 c = narrowed 126 c.args.text.now (sym c.byte-first.ensures ∙ c.if-first-eq126.true)

pub returns-then-first-eq37 : goal.returns-then-first-eq37
unfolding punctuator punctuators
returns-then-first-eq37 c = narrowed 37 c.args.text.now (sym c.byte-first.ensures ∙ c.if-first-eq37.true)

pub returns-then-first-eq94 : goal.returns-then-first-eq94
unfolding punctuator punctuators
returns-then-first-eq94 c = narrowed 94 c.args.text.now (sym c.byte-first.ensures ∙ c.if-first-eq94.true)

pub returns-then-first-eq64 : goal.returns-then-first-eq64
unfolding punctuator punctuators
returns-then-first-eq64 c = narrowed 64 c.args.text.now (sym c.byte-first.ensures ∙ c.if-first-eq64.true)

pub returns-else-first-eq64 : goal.returns-else-first-eq64
unfolding punctuator punctuators
returns-else-first-eq64 c =
    begins_otherwise c.byte-first.result (61 ∷ 33 ∷ 60 ∷ 42 ∷ 62 ∷ 46 ∷ 45 ∷ 43 ∷ 38 ∷ 124 ∷ 47 ∷ 63 ∷ 58 ∷ 91 ∷ 93 ∷ 40 ∷ 41 ∷ 123 ∷ 125 ∷ 59 ∷ 44 ∷ 126 ∷ 37 ∷ 94 ∷ 64 ∷ []) c.args.text.now (sym c.byte-first.ensures) refl
    (c.if-first-eq61.false, (c.if-first-eq33.false, (c.if-first-eq60.false, (c.if-first-eq42.false, (c.if-first-eq62.false, (c.if-first-eq46.false, (c.if-first-eq45.false, (c.if-first-eq43.false, (c.if-first-eq38.false, (c.if-first-eq124.false, (c.if-first-eq47.false, (c.if-first-eq63.false, (c.if-first-eq58.false, (c.if-first-eq91.false, (c.if-first-eq93.false, (c.if-first-eq40.false, (c.if-first-eq41.false, (c.if-first-eq123.false, (c.if-first-eq125.false, (c.if-first-eq59.false, (c.if-first-eq44.false, (c.if-first-eq126.false, (c.if-first-eq37.false, (c.if-first-eq94.false, (c.if-first-eq64.false, tt)))))))))))))))))))))))))
