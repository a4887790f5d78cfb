-- `new` with its class, and texts with parts.
use Rattle.std.proofs.Common.{◌≡◌, ◌≢◌, ◌≤◌, ℕ, ◌+◌, ◌-◌, false, Option, Some, None, List, [], ◌∷◌, ◌++◌, map, refl, ◌∙◌, ap, arith}
use Rattle.php_token.specs.Token.{Token, token_at}
use Rattle.php_token.specs.declared.kind.Keyword.{Keyword}
use Rattle.php_token.specs.declared.kind.Keyword.TheVariants as word
use Rattle.php_reader.specs.declared.limit.TheConstants.{LEAST_POWER}
use Rattle.php_ast.specs.declared.expression.Expr.{Expr}
use Rattle.php_ast.specs.declared.expression.Piece.{Piece}
use Rattle.php_ast.specs.declared.expression.Piece.TheVariants as piece
use Rattle.php_ast.specs.declared.expression.ClassStep.{ClassStep}
use Rattle.php_ast.specs.Symbol as sort
use Rattle.php_ast.specs.Symbol.{Symbol}
use Rattle.php_ast.specs.expression.Proper.{ends, top}
use Rattle.php_ast.specs.expression.Tree.{Tree, Items, none, Member, Class, class_name, class_found, Steps, from, step_property, step_index, new, new_with, Pieces, no_piece, bytes, value, template, thin}
use Rattle.php_ast.specs.expression.View.{Note, step_more, steps_from, piece_more, pieces_from, view}
use Rattle.php_ast.specs.expression.Placed.{size_class, size_steps, size_pieces, noted, noted_class, noted_steps, noted_member, noted_items, noted_pieces, notes_of}
use Rattle.php_grammar.specs.declared.closer.Closer.{Closer}
use Rattle.php_grammar.specs.declared.closer.Closer.TheVariants as ender
use Rattle.php_grammar.specs.expression.Role as role
use Rattle.php_grammar.specs.expression.Role.{beginning, at_new, at_template, closes, continuation, draws, by_select, word_of}
use Rattle.php_grammar.specs.expression.Machine.{Nothing, Form, of_new, step_open, part_open, OpenForms, State, expects, holds, past_new, past_class, past_step, past_items, past_template, closed, class_step, new_step, template_step, with_member, started}
use Rattle.php_grammar.specs.expression.Laws.{head_continuation}
use Rattle.php_grammar.proofs.expression.Fill.{least_power_most}
use Rattle.php_parse_operands.specs.Walk.{Leads, Halts, Rests, walk, short}
use Rattle.php_reader.specs.Seen.{head_word, named_class, head_class, Mold, is_bytes, is_opened, is_over, is_other, mold, head_mold}
use Rattle.php_ast.specs.expression.Parts.{piece_with, step_with}
use Rattle.php_parse_operands.specs.Answer.{Spans}
use Rattle.php_parse_operands.specs.ListAnswer.{SpansItems}
use Rattle.php_build.proofs.Views.{piece_push, step_push}
use Rattle.php_parse_operands.proofs.Moves.{leads, leads_halts, move, sticks, behind_draw}
use Rattle.php_parse_operands.proofs.Productions.{between_reads, between_unclosed}

-- ---- the class

pub new_begins : {room : ℕ} {x w : List Symbol} (t : Symbol) → x ≡ t ∷ w → beginning t ≡ at_new → 1 ≤ room → Leads room top (λ s. expects s) x (λ s. past_new s) w
new_begins t is begun deep = move t is (λ s near. ap (λ b. started b s) begun) (λ n s near at. omega arith)

abbrev pub named_state : Option (Class Nothing) → OpenForms → Option State
named_state (Some class) s = Some (past_class class s)
named_state None s = None

new_keyword : (k : Keyword) (s : OpenForms) → new_step s (sort.keyword k) ≡ named_state (named_class (sort.keyword k)) s
new_keyword word.Static s = refl
new_keyword _ s = refl

new_by : (t : Symbol) (s : OpenForms) → new_step s t ≡ named_state (named_class t) s
new_by (sort.name text) s = refl
new_by (sort.variable text) s = refl
new_by (sort.keyword k) s = new_keyword k s
new_by _ s = refl

pub class_reads : {room : ℕ} {x w : List Symbol} (t : Symbol) (class : Class Nothing) → x ≡ t ∷ w → named_class t ≡ Some class → 1 ≤ room
    → Leads room top (λ s. past_new s) x (λ s. past_class class s) w
class_reads t class is named deep = move t is (λ s near. new_by t s ∙ ap (λ o. named_state o s) named) (λ n s near at. omega arith)

classless : (n : ℕ) (s : OpenForms) (v : List Symbol) → head_class v ≡ None → walk n (past_new s) v ≡ short v
classless n s [] h = refl
classless n s (t ∷ w) h = sticks n (past_new s) t w (new_by t s ∙ ap (λ o. named_state o s) h)

pub class_halts : {room least : ℕ} {v : List Symbol} → head_class v ≡ None → Halts false room least (λ s. past_new s) v v
class_halts {room} {least} {v} h = record { same = λ n s whole near at. classless n s v h }

-- ---- steps

arrow_on : {room : ℕ} {x w : List Symbol} (t : Symbol) (steps : Steps Nothing) → x ≡ t ∷ w → continuation t ≡ draws (by_select thin) → 1 ≤ room
    → Leads room top (λ s. past_class (class_found steps) s) x (λ s. past_step steps s) w
arrow_on t steps is drawing deep =
    move t is (λ s near. ap (class_step (class_found steps) s) drawing) (λ n s near at. omega (arith, behind_draw (by_select thin) s (continuation t) drawing (omega (arith, least_power_most s))))

pub step_reads : {room : ℕ} {x y w : List Symbol} (t u : Symbol) (steps : Steps Nothing) (m : Member Nothing) → x ≡ t ∷ y → continuation t ≡ draws (by_select thin) → y ≡ u ∷ w → word_of u ≡ Some m → 1 ≤ room
    → Leads room top (λ s. past_class (class_found steps) s) x (λ s. past_class (class_found (step_property steps m)) s) w
step_reads t u steps m is drawing more named deep =
    leads (λ s. past_step steps s) (arrow_on t steps is drawing deep)
    (move u more (λ s near. ap (λ o. with_member o (λ k. past_class (class_found (step_property steps k)) s)) named) (λ n s near at. omega arith))

wordless : (n : ℕ) (steps : Steps Nothing) (s : OpenForms) (v : List Symbol) → head_word v ≡ None → walk n (past_step steps s) v ≡ short v
wordless n steps s [] h = refl
wordless n steps s (t ∷ w) h = sticks n (past_step steps s) t w (ap (λ o. with_member o (λ k. past_class (class_found (step_property steps k)) s)) h)

pub step_halts : {room : ℕ} {x y : List Symbol} (t : Symbol) (steps : Steps Nothing) → x ≡ t ∷ y → continuation t ≡ draws (by_select thin) → head_word y ≡ None → 1 ≤ room
    → Halts false room top (λ s. past_class (class_found steps) s) x y
step_halts {room} {x} {y} t steps is drawing h deep =
    leads_halts (λ s. past_step steps s) (arrow_on t steps is drawing deep) (record { same = λ n s whole near at. wordless n steps s y h })

pub step_opens : {room : ℕ} {x w : List Symbol} (t : Symbol) (steps : Steps Nothing) → x ≡ t ∷ w → continuation t ≡ draws role.by_index → 1 ≤ room
    → Leads room top (λ s. past_class (class_found steps) s) x (λ s. expects (step_open steps ∷ s)) w
step_opens t steps is drawing deep =
    move t is (λ s near. ap (class_step (class_found steps) s) drawing) (λ n s near at. omega (arith, behind_draw role.by_index s (continuation t) drawing (omega (arith, least_power_most s))))

shut_step : (a : Steps Nothing) (c : Closer) (e : Form) (s : OpenForms) → c ≢ ender.Bracket → closed c e (step_open a) s ≡ None
shut_step a ender.Bracket e s h = absurd (h refl)
shut_step a _ e s h = refl

pub step_index_reads : {room : ℕ} {x w y v : List Symbol} (steps : Steps Nothing) (e : Form) (u : Symbol) → Leads room top (λ s. past_class (class_found steps) s) x (λ s. expects (step_open steps ∷ s)) w
    → Leads (room - 1) LEAST_POWER (λ s. expects s) w (λ s. holds e s) y → 1 ≤ room - 1 → y ≡ u ∷ v → continuation u ≡ closes ender.Bracket
    → Leads room top (λ s. past_class (class_found steps) s) x (λ s. past_class (class_found (step_index steps e)) s) v
step_index_reads steps e u opens r deep more ending =
    between_reads (step_open steps) e ender.Bracket u (λ s. past_class (class_found (step_index steps e)) s) refl (λ d. refl) (λ s. refl) opens r (omega arith) more ending

pub step_index_unclosed : {room : ℕ} {x w y : List Symbol} (steps : Steps Nothing) (e : Form) → Leads room top (λ s. past_class (class_found steps) s) x (λ s. expects (step_open steps ∷ s)) w
    → Leads (room - 1) LEAST_POWER (λ s. expects s) w (λ s. holds e s) y → 1 ≤ room → Rests LEAST_POWER (ends e) y → head_continuation y ≢ closes ender.Bracket
    → Halts false room top (λ s. past_class (class_found steps) s) x y
step_index_unclosed steps e opens r deep rests shut =
    between_unclosed (step_open steps) e refl (λ d. refl) deep opens r rests (λ k s h. shut_step steps k e s (λ p. shut (h ∙ ap closes p)))

pub step_index_shown : (tokens : List Token) (steps : Steps Nothing) (e : Tree Note) (form : Form) (start at next : ℕ) → start + size_steps steps ≡ at → Spans tokens e form (at + 1) next
    → step_index (noted_steps (notes_of tokens) start steps) e ≡ noted_steps (notes_of tokens) start (step_index steps form)
step_index_shown tokens steps e form start at next sized spans =
    ap (step_index (noted_steps (notes_of tokens) start steps)) (spans.shown ∙ ap (λ k. noted (notes_of tokens) k form) (omega arith))

pub step_shown : (tokens : List Token) (steps : Steps Nothing) (w : Member Note) (m : Member Nothing) (start at : ℕ) → start + size_steps steps ≡ at → w ≡ noted_member (notes_of tokens) (at + 1) m
    → step_property (noted_steps (notes_of tokens) start steps) w ≡ noted_steps (notes_of tokens) start (step_property steps m)
step_shown tokens steps w m start at sized is =
    ap (step_property (noted_steps (notes_of tokens) start steps)) (is ∙ ap (λ k. noted_member (notes_of tokens) k m) (omega arith))

-- ---- arguments behind a class

pub class_applies : {room : ℕ} {x w : List Symbol} (t : Symbol) (class : Class Nothing) → x ≡ t ∷ w → continuation t ≡ draws role.by_call → 1 ≤ room
    → Leads room top (λ s. past_class class s) x (λ s. past_items (of_new class) none s) w
class_applies t class is drawing deep =
    move t is (λ s near. ap (class_step class s) drawing) (λ n s near at. omega (arith, behind_draw role.by_call s (continuation t) drawing (omega (arith, least_power_most s))))

pub new_spans : (tokens : List Token) (made : Tree Note) (spot : Note) (c : Class Note) (class : Class Nothing) (at next : ℕ) → made ≡ new spot c → spot ≡ (notes_of tokens).token at → c ≡ noted_class (notes_of tokens) (at + 1) class
    → at + 1 + size_class class ≡ next → Spans tokens made (new tt class) at next
new_spans tokens made spot c class at next is noted_is shown sized = record {
  shown = is ∙ ap (λ n. new n c) noted_is ∙ ap (new ((notes_of tokens).token at)) shown;
  sized = omega arith;
}

pub new_with_spans : (tokens : List Token) (made : Tree Note) (spot : Note) (c : Class Note) (xs : Items Note) (class : Class Nothing) (items : Items Nothing) (at place next : ℕ) → made ≡ new_with spot c xs → spot ≡ (notes_of tokens).token at
    → c ≡ noted_class (notes_of tokens) (at + 1) class → at + 1 + size_class class ≡ place → SpansItems tokens xs items (place + 1) next → Spans tokens made (new_with tt class items) at next
new_with_spans tokens made spot c xs class items at place next is noted_is shown sized spans = record {
  shown = is ∙ ap (λ n. new_with n c xs) noted_is ∙ ap (λ z. new_with ((notes_of tokens).token at) z xs) shown
      ∙ ap (new_with ((notes_of tokens).token at) (noted_class (notes_of tokens) (at + 1) class)) (spans.shown ∙ ap (λ k. noted_items (notes_of tokens) k items) (omega arith));
  sized = omega (arith, spans.sized);
}

-- ---- texts with parts

pub quote_begins : {room : ℕ} {x w : List Symbol} (t : Symbol) → x ≡ t ∷ w → beginning t ≡ at_template → 1 ≤ room → Leads room top (λ s. expects s) x (λ s. past_template no_piece s) w
quote_begins t is begun deep = move t is (λ s near. ap (λ b. started b s) begun) (λ n s near at. omega arith)

abbrev pub molded : Mold → Pieces Nothing → OpenForms → Option State
molded (is_bytes text) pieces s = Some (past_template (bytes pieces text) s)
molded is_opened pieces s = Some (expects (part_open pieces ∷ s))
molded is_over pieces s = Some (holds (template tt pieces) s)
molded is_other pieces s = None

template_by : (t : Symbol) (pieces : Pieces Nothing) (s : OpenForms) → template_step pieces s t ≡ molded (mold t) pieces s
template_by (sort.piece text) pieces s = refl
template_by sort.part pieces s = refl
template_by sort.unquote pieces s = refl
template_by _ pieces s = refl

pub bytes_read : {room : ℕ} {x w : List Symbol} (t : Symbol) (pieces : Pieces Nothing) (text : List ℕ) → x ≡ t ∷ w → mold t ≡ is_bytes text → 1 ≤ room
    → Leads room top (λ s. past_template pieces s) x (λ s. past_template (bytes pieces text) s) w
bytes_read t pieces text is molds deep = move t is (λ s near. template_by t pieces s ∙ ap (λ m. molded m pieces s) molds) (λ n s near at. omega arith)

pub part_opens : {room : ℕ} {x w : List Symbol} (t : Symbol) (pieces : Pieces Nothing) → x ≡ t ∷ w → mold t ≡ is_opened → 1 ≤ room
    → Leads room top (λ s. past_template pieces s) x (λ s. expects (part_open pieces ∷ s)) w
part_opens t pieces is molds deep = move t is (λ s near. template_by t pieces s ∙ ap (λ m. molded m pieces s) molds) (λ n s near at. omega arith)

pub template_reads : {room : ℕ} {x w : List Symbol} (t : Symbol) (pieces : Pieces Nothing) → x ≡ t ∷ w → mold t ≡ is_over → 1 ≤ room
    → Leads room top (λ s. past_template pieces s) x (λ s. holds (template tt pieces) s) w
template_reads t pieces is molds deep = move t is (λ s near. template_by t pieces s ∙ ap (λ m. molded m pieces s) molds) (λ n s near at. omega arith)

moldless : (n : ℕ) (pieces : Pieces Nothing) (s : OpenForms) (v : List Symbol) → head_mold v ≡ is_other → walk n (past_template pieces s) v ≡ short v
moldless n pieces s [] h = refl
moldless n pieces s (t ∷ w) h = sticks n (past_template pieces s) t w (template_by t pieces s ∙ ap (λ m. molded m pieces s) h)

pub template_halts : {room least : ℕ} {v : List Symbol} (pieces : Pieces Nothing) → head_mold v ≡ is_other → Halts false room least (λ s. past_template pieces s) v v
template_halts {room} {least} {v} pieces h = record { same = λ n s whole near at. moldless n pieces s v h }

shut_part : (a : Pieces Nothing) (c : Closer) (e : Form) (s : OpenForms) → c ≢ ender.EndPart → closed c e (part_open a) s ≡ None
shut_part a ender.EndPart e s h = absurd (h refl)
shut_part a _ e s h = refl

pub part_reads : {room : ℕ} {x w y v : List Symbol} (pieces : Pieces Nothing) (e : Form) (u : Symbol) → Leads room top (λ s. past_template pieces s) x (λ s. expects (part_open pieces ∷ s)) w
    → Leads (room - 1) LEAST_POWER (λ s. expects s) w (λ s. holds e s) y → 1 ≤ room - 1 → y ≡ u ∷ v → continuation u ≡ closes ender.EndPart
    → Leads room top (λ s. past_template pieces s) x (λ s. past_template (value pieces e) s) v
part_reads pieces e u opens r deep more ending =
    between_reads (part_open pieces) e ender.EndPart u (λ s. past_template (value pieces e) s) refl (λ d. refl) (λ s. refl) opens r (omega arith) more ending

pub part_unclosed : {room : ℕ} {x w y : List Symbol} (pieces : Pieces Nothing) (e : Form) → Leads room top (λ s. past_template pieces s) x (λ s. expects (part_open pieces ∷ s)) w
    → Leads (room - 1) LEAST_POWER (λ s. expects s) w (λ s. holds e s) y → 1 ≤ room → Rests LEAST_POWER (ends e) y → head_continuation y ≢ closes ender.EndPart
    → Halts false room top (λ s. past_template pieces s) x y
part_unclosed pieces e opens r deep rests shut =
    between_unclosed (part_open pieces) e refl (λ d. refl) deep opens r rests (λ k s h. shut_part pieces k e s (λ p. shut (h ∙ ap closes p)))

pub bytes_more : (tokens : List Token) (at : ℕ) (pieces : Pieces Nothing) (text : List ℕ) (xs longer : List (Piece Expr)) (made : List ℕ) → longer ≡ xs ++ piece.Bytes made ∷ []
    → pieces_from no_piece (map (piece_with view) xs) ≡ noted_pieces (notes_of tokens) at pieces → made ≡ text → pieces_from no_piece (map (piece_with view) longer) ≡ noted_pieces (notes_of tokens) at (bytes pieces text)
bytes_more tokens at pieces text xs longer made grown is same = piece_push no_piece xs longer (piece.Bytes made) grown ∙ ap (λ z. bytes z made) is ∙ ap (bytes (noted_pieces (notes_of tokens) at pieces)) same

pub parts_more : (tokens : List Token) (at place : ℕ) (pieces : Pieces Nothing) (form : Form) (xs longer : List (Piece Expr)) (x : Piece Expr) → longer ≡ xs ++ x ∷ []
    → pieces_from no_piece (map (piece_with view) xs) ≡ noted_pieces (notes_of tokens) at pieces → at + size_pieces pieces ≡ place
    → ((ys : Pieces Note) → piece_more ys (piece_with view x) ≡ value ys (noted (notes_of tokens) (place + 1) form))
    → pieces_from no_piece (map (piece_with view) longer) ≡ noted_pieces (notes_of tokens) at (value pieces form)
parts_more tokens at place pieces form xs longer x grown is sized shown =
    piece_push no_piece xs longer x grown ∙ shown (pieces_from no_piece (map (piece_with view) xs))
    ∙ ap (λ z. value z (noted (notes_of tokens) (place + 1) form)) is ∙ ap (λ k. value (noted_pieces (notes_of tokens) at pieces) (noted (notes_of tokens) k form)) (omega arith)

pub template_spans : (tokens : List Token) (made : Tree Note) (spot : Note) (xs : Pieces Note) (pieces : Pieces Nothing) (at next : ℕ) → made ≡ template spot xs → spot ≡ (notes_of tokens).token at → xs ≡ noted_pieces (notes_of tokens) (at + 1) pieces
    → at + 1 + size_pieces pieces + 1 ≡ next → Spans tokens made (template tt pieces) at next
template_spans tokens made spot xs pieces at next is noted_is shown sized = record {
  shown = is ∙ ap (λ n. template n xs) noted_is ∙ ap (template ((notes_of tokens).token at)) shown;
  sized = omega arith;
}

pub steps_more : (tokens : List Token) (at : ℕ) (begun : Steps Note) (steps more : Steps Nothing) (xs longer : List (ClassStep Expr)) (x : ClassStep Expr) → longer ≡ xs ++ x ∷ []
    → steps_from begun (map (step_with view) xs) ≡ noted_steps (notes_of tokens) at steps → step_more (noted_steps (notes_of tokens) at steps) (step_with view x) ≡ noted_steps (notes_of tokens) at more
    → steps_from begun (map (step_with view) longer) ≡ noted_steps (notes_of tokens) at more
steps_more tokens at begun steps more xs longer x grown is shown = step_push begun xs longer x grown ∙ ap (λ z. step_more z (step_with view x)) is ∙ shown

pub from_shown : (tokens : List Token) (at : ℕ) (spot : Note) (text : List ℕ) (steps : Steps Nothing) → spot ≡ (notes_of tokens).token at → text ≡ (token_at tokens at).text → (xs : List (ClassStep Expr))
    → steps_from (noted_steps (notes_of tokens) at (from (tt {0}) (token_at tokens at).text)) (map (step_with view) xs) ≡ noted_steps (notes_of tokens) at steps
    → class_found (steps_from (from spot text) (map (step_with view) xs)) ≡ class_found (noted_steps (notes_of tokens) at steps)
from_shown tokens at spot text steps noted_is text_is xs shown =
    ap (λ z. class_found (steps_from z (map (step_with view) xs))) (ap (λ n. from n text) noted_is ∙ ap (from ((notes_of tokens).token at)) text_is) ∙ ap class_found shown

pub name_shown : (tokens : List Token) (at : ℕ) (spot : Note) (text : List ℕ) → spot ≡ (notes_of tokens).token at → text ≡ (token_at tokens at).text
    → class_name spot text ≡ noted_class (notes_of tokens) at (class_name (tt {0}) (token_at tokens at).text)
name_shown tokens at spot text noted_is text_is = ap (λ n. class_name n text) noted_is ∙ ap (class_name ((notes_of tokens).token at)) text_is
