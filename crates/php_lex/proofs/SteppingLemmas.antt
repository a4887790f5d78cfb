-- What a step of the lexer takes.
use Rattle.std.proofs.Common.{◌≡◌, ℕ, Bool, true, false, Result, Ok, Err, refl, sym, ◌∙◌, inl, inr, ap, subst}
use Rattle.std.specs.Prelude.{IfOk}
use Rattle.php_lex.specs.declared.fail.LexFail.{LexFail}
use Rattle.php_lex.specs.declared.pieces.Piece as Kept
use Rattle.php_lex.specs.declared.tokens.Builder.{Builder}
use Rattle.php_lex_pieces.specs.Bytes.{Text}
use Rattle.php_lex.specs.declared.front.Front.{Front}
use Rattle.php_lex.specs.Front.{Sees, front_piece}
use Rattle.php_lex.specs.Modes.{Mode, outside, script, quotes, heredoc, braces, block, name_due, name_read, brackets, index, brace_due, subject, member_due, key_due, key_read, State, mode_of, is_in_script}
use Rattle.php_lex.specs.PieceKept.{Finds, IsPieceOf, piece_kept}
use Rattle.php_lex.specs.Pieces.{Found, piece, script_piece}
use Rattle.php_lex.specs.Stepping.{Steps, Took}

-- a piece of a script
pub in_script : (mode : Mode) (line : ℕ) (text : Text) → is_in_script mode ≡ true → piece mode line text ≡ script_piece mode line text
in_script outside line text is = absurd (cc)
in_script script line text is = refl
in_script (quotes begun) line text is = absurd (cc)
in_script (heredoc name begun) line text is = absurd (cc)
in_script (braces begun) line text is = refl
in_script block line text is = refl
in_script (name_due begun) line text is = absurd (cc)
in_script (name_read begun) line text is = absurd (cc)
in_script (brackets begun) line text is = refl
in_script index line text is = refl
in_script (brace_due begun) line text is = absurd (cc)
in_script (subject begun) line text is = absurd (cc)
in_script (member_due begun) line text is = absurd (cc)
in_script (key_due begun) line text is = absurd (cc)
in_script (key_read begun) line text is = absurd (cc)

-- what was found at the front and taken is a step
pub took_steps : (line : ℕ) (text : Text) (old_state new_state : State) (old new : Builder) (found : Result Kept.Piece LexFail) (stands : Found) (result : Result ℕ LexFail)
    → piece (mode_of old_state) line text ≡ stands → Finds found stands → IfOk found (λ p. IsPieceOf p.len text) → Took found line old_state new_state old new result
    → Steps line text old_state new_state old new result
took_steps line text old_state new_state old new (Ok p) stands (Ok len) here finds within took =
    (piece_kept p, record { found = here ∙ finds; len_is = took.0; within = subst (λ n. IsPieceOf n text) (sym took.0) within; state = took.1.0; added = took.1.1 })
took_steps line text old_state new_state old new (Ok p) stands (Err fault) here finds within took = inl took
took_steps line text old_state new_state old new (Err found) stands (Ok len) here finds within took = absurd took
took_steps line text old_state new_state old new (Err found) stands (Err fault) here finds within took = inr (here ∙ finds ∙ ap Err (sym took))

-- the piece of a script is what the look at its front says
pub looked : (mode : Mode) (state : State) (line : ℕ) (text : Text) (front : Front) (is_inside : Bool) → mode ≡ mode_of state → is_inside ≡ is_in_script mode → is_inside ≡ true
    → Sees (λ l. script_piece mode l text) mode text front → piece (mode_of state) line text ≡ front_piece mode line text front
looked mode state line text front is_inside opened inside holds sees =
    ap (λ m. piece m line text) (sym opened) ∙ in_script mode line text (sym inside ∙ holds) ∙ sees line
