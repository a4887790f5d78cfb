-- Suffixes.
use Rattle.std.proofs.Common.{◌≡◌, ◌≢◌, ◌≤◌, ◌<◌, ℕ, ◌+◌, ◌-◌, true, false, Some, None, List, [], ◌∷◌, ◌++◌, map, refl, sym, ◌∙◌, ap, arith}
use Rattle.php_token.specs.Token.{Token}
use Rattle.php_reader.specs.declared.limit.TheConstants.{LEAST_POWER}
use Rattle.php_ast.specs.Symbol.{Symbol}
use Rattle.php_ast.specs.expression.Proper.{ends, top, select_strength, call_strength}
use Rattle.php_ast.specs.expression.Tree.{Tree, Member, append, index, selected, computed, call, Items, none, thin, colons, Arrow}
use Rattle.php_ast.specs.declared.expression.Expr.{Expr}
use Rattle.php_ast.specs.declared.expression.Suffix.{Suffix}
use Rattle.php_ast.specs.expression.View.{Note, with_suffix, with_suffixes, view}
use Rattle.php_ast.specs.expression.Placed.{noted_items}
use Rattle.php_grammar.specs.declared.closer.Closer.{Closer}
use Rattle.php_grammar.specs.declared.closer.Closer.TheVariants as ender
use Rattle.php_grammar.specs.expression.Machine.{of_call, past_items, after_by}
use Rattle.php_ast.specs.expression.Proper.{is_call}
use Rattle.php_ast.specs.expression.Parts.{suffix_with}
use Rattle.php_build.proofs.Views.{suffix_push}
use Rattle.php_ast.specs.expression.Placed.{size, noted, noted_member, notes_of}
use Rattle.php_grammar.specs.expression.Role as role
use Rattle.php_grammar.specs.expression.Role.{closes, continuation, draws, by_select, by_index, is_left_brace, is_right_bracket, member_of}
use Rattle.php_grammar.specs.expression.Machine.{Nothing, Form, index_open, computed_open, OpenForms, expects, holds, past_index, past_arrow, after, closed, with_member, pick, start}
use Rattle.php_grammar.specs.expression.Laws.{head_continuation}
use Rattle.php_parse_operands.specs.Walk.{Leads, Halts, Rests, walk, short}
use Rattle.php_reader.specs.Seen.{test, head_member}
use Rattle.php_parse_operands.specs.Answer.{Spans}
use Rattle.php_parse_operands.specs.ListAnswer.{SpansItems}
use Rattle.php_parse_operands.proofs.Moves.{leads, leads_halts, move, sink, sticks, suffix}
use Rattle.php_parse_operands.proofs.Enters.{index_enters}
use Rattle.php_parse_operands.proofs.Productions.{between_reads, between_unclosed}

-- ---- `[]` and `[key]`

index_begins : {room : ℕ} {x w : List Symbol} (t : Symbol) (f : Form) → x ≡ t ∷ w → continuation t ≡ draws by_index → select_strength < ends f → 1 ≤ room
    → Leads room top (λ s. after f s) x (λ s. past_index f s) w
index_begins t f is drawing low deep = suffix t by_index f is drawing (omega arith) low deep

pub append_reads : {room : ℕ} {x y w : List Symbol} (t u : Symbol) (f : Form) → x ≡ t ∷ y → continuation t ≡ draws by_index → select_strength < ends f → y ≡ u ∷ w → is_right_bracket u ≡ true → 2 ≤ room
    → Leads room top (λ s. after f s) x (λ s. after (append f) s) w
append_reads t u f is drawing low more last deep =
    leads (λ s. past_index f s) (index_begins t f is drawing low (omega arith))
    (move u more (λ s near. ap (λ b. pick b (Some (holds (append f) s)) (start (index_open f ∷ s) u)) last) (λ n s near at. omega arith))

pub append_halts : {room : ℕ} {x y w : List Symbol} (t u : Symbol) (f : Form) → x ≡ t ∷ y → continuation t ≡ draws by_index → select_strength < ends f → y ≡ u ∷ w → is_right_bracket u ≡ true → room ≡ 1
    → Halts true room top (λ s. after f s) x y
append_halts {room} {x} {y} {w} t u f is drawing low more last only =
    leads_halts (λ s. past_index f s) (index_begins t f is drawing low (omega arith))
    (sink {to = λ s. holds (append f) s} u more (λ s near. ap (λ b. pick b (Some (holds (append f) s)) (start (index_open f ∷ s) u)) last) (λ n s near at. omega arith))

pub index_opens : {room : ℕ} {x w : List Symbol} (t : Symbol) (f : Form) → x ≡ t ∷ w → continuation t ≡ draws by_index → select_strength < ends f → test is_right_bracket w ≡ false → 1 ≤ room
    → Leads room top (λ s. after f s) x (λ s. expects (index_open f ∷ s)) w
index_opens t f is drawing low filled deep = leads (λ s. past_index f s) (index_begins t f is drawing low deep) (index_enters f filled)

shut_index : (a : Form) (c : Closer) (e : Form) (s : OpenForms) → c ≢ ender.Bracket → closed c e (index_open a) s ≡ None
shut_index a ender.Bracket e s h = absurd (h refl)
shut_index a _ e s h = refl

pub index_reads : {room : ℕ} {x w y v : List Symbol} (f e : Form) (u : Symbol) → Leads room top (λ s. after f s) x (λ s. expects (index_open f ∷ s)) w
    → Leads (room - 1) LEAST_POWER (λ s. expects s) w (λ s. holds e s) y → 1 ≤ room - 1 → y ≡ u ∷ v → continuation u ≡ closes ender.Bracket
    → Leads room top (λ s. after f s) x (λ s. after (index f e) s) v
index_reads f e u opens r deep more ending = between_reads (index_open f) e ender.Bracket u (λ s. holds (index f e) s) refl (λ d. refl) (λ s. refl) opens r (omega arith) more ending

pub index_unclosed : {room : ℕ} {x w y : List Symbol} (f e : Form) → Leads room top (λ s. after f s) x (λ s. expects (index_open f ∷ s)) w
    → Leads (room - 1) LEAST_POWER (λ s. expects s) w (λ s. holds e s) y → 1 ≤ room → Rests LEAST_POWER (ends e) y → head_continuation y ≢ closes ender.Bracket
    → Halts false room top (λ s. after f s) x y
index_unclosed f e opens r deep rests shut =
    between_unclosed (index_open f) e refl (λ d. refl) deep opens r rests (λ k s h. shut_index f k e s (λ p. shut (h ∙ ap closes p)))

pub index_spans : (tokens : List Token) (f key : Form) (e : Tree Note) (start at behind next : ℕ) → start + size f ≡ at → Spans tokens e key behind next → behind ≡ at + 1
    → Spans tokens (index (noted (notes_of tokens) start f) e) (index f key) start (next + 1)
index_spans tokens f key e start at behind next sized spans where_is = record {
  shown = ap (index (noted (notes_of tokens) start f)) (spans.shown ∙ ap (λ k. noted (notes_of tokens) k key) (omega arith));
  sized = omega (arith, spans.sized);
}

-- ---- `-> {name}`

arrow_begins : {room : ℕ} {x w : List Symbol} (t : Symbol) (f : Form) → x ≡ t ∷ w → continuation t ≡ draws (by_select thin) → select_strength < ends f → 1 ≤ room
    → Leads room top (λ s. after f s) x (λ s. past_arrow thin f s) w
arrow_begins t f is drawing low deep = suffix t (by_select thin) f is drawing (omega arith) low deep

pub computed_opens : {room : ℕ} {x y w : List Symbol} (t u : Symbol) (f : Form) → x ≡ t ∷ y → continuation t ≡ draws (by_select thin) → select_strength < ends f → y ≡ u ∷ w → is_left_brace u ≡ true → 1 ≤ room
    → Leads room top (λ s. after f s) x (λ s. expects (computed_open f ∷ s)) w
computed_opens t u f is drawing low more brace deep =
    leads (λ s. past_arrow thin f s) (arrow_begins t f is drawing low deep)
    (move u more (λ s near. ap (λ b. pick b (Some (expects (computed_open f ∷ s))) (with_member (member_of u) (λ m. holds (selected f thin m) s))) brace) (λ n s near at. omega arith))

shut_computed : (a : Form) (c : Closer) (e : Form) (s : OpenForms) → c ≢ ender.Brace → closed c e (computed_open a) s ≡ None
shut_computed a ender.Brace e s h = absurd (h refl)
shut_computed a _ e s h = refl

pub computed_reads : {room : ℕ} {x w y v : List Symbol} (f e : Form) (u : Symbol) → Leads room top (λ s. after f s) x (λ s. expects (computed_open f ∷ s)) w
    → Leads (room - 1) LEAST_POWER (λ s. expects s) w (λ s. holds e s) y → 1 ≤ room - 1 → y ≡ u ∷ v → continuation u ≡ closes ender.Brace
    → Leads room top (λ s. after f s) x (λ s. after (computed f e) s) v
computed_reads f e u opens r deep more ending = between_reads (computed_open f) e ender.Brace u (λ s. holds (computed f e) s) refl (λ d. refl) (λ s. refl) opens r (omega arith) more ending

pub computed_unclosed : {room : ℕ} {x w y : List Symbol} (f e : Form) → Leads room top (λ s. after f s) x (λ s. expects (computed_open f ∷ s)) w
    → Leads (room - 1) LEAST_POWER (λ s. expects s) w (λ s. holds e s) y → 1 ≤ room → Rests LEAST_POWER (ends e) y → head_continuation y ≢ closes ender.Brace
    → Halts false room top (λ s. after f s) x y
computed_unclosed f e opens r deep rests shut =
    between_unclosed (computed_open f) e refl (λ d. refl) deep opens r rests (λ k s h. shut_computed f k e s (λ p. shut (h ∙ ap closes p)))

pub computed_spans : (tokens : List Token) (f key : Form) (e : Tree Note) (start at behind next : ℕ) → start + size f ≡ at → Spans tokens e key behind next → behind ≡ at + 2
    → Spans tokens (computed (noted (notes_of tokens) start f) e) (computed f key) start (next + 1)
computed_spans tokens f key e start at behind next sized spans where_is = record {
  shown = ap (computed (noted (notes_of tokens) start f)) (spans.shown ∙ ap (λ k. noted (notes_of tokens) k key) (omega arith));
  sized = omega (arith, spans.sized);
}

-- ---- names of members

pub property_reads : {room : ℕ} {x y w : List Symbol} (t u : Symbol) (f : Form) (m : Member Nothing) → x ≡ t ∷ y → continuation t ≡ draws (by_select thin) → select_strength < ends f → y ≡ u ∷ w → test is_left_brace y ≡ false → member_of u ≡ Some m → 1 ≤ room
    → Leads room top (λ s. after f s) x (λ s. after (selected f thin m) s) w
property_reads t u f m is drawing low more no_brace named deep =
    leads (λ s. past_arrow thin f s) (arrow_begins t f is drawing low deep)
    (move u more (λ s near. ap (λ b. pick b (Some (expects (computed_open f ∷ s))) (with_member (member_of u) (λ k. holds (selected f thin k) s))) (ap (test is_left_brace) (sym more) ∙ no_brace)
    ∙ ap (λ o. with_member o (λ k. holds (selected f thin k) s)) named) (λ n s near at. omega arith))

unnamed : (n : ℕ) (f : Form) (s : OpenForms) (v : List Symbol) → head_member v ≡ None → test is_left_brace v ≡ false → walk n (past_arrow thin f s) v ≡ short v
unnamed n f s [] h no_brace = refl
unnamed n f s (t ∷ w) h no_brace =
    sticks n (past_arrow thin f s) t w (ap (λ b. pick b (Some (expects (computed_open f ∷ s))) (with_member (member_of t) (λ k. holds (selected f thin k) s))) no_brace
    ∙ ap (λ o. with_member o (λ k. holds (selected f thin k) s)) h)

pub property_halts : {room : ℕ} {x y : List Symbol} (t : Symbol) (f : Form) → x ≡ t ∷ y → continuation t ≡ draws (by_select thin) → select_strength < ends f → test is_left_brace y ≡ false → head_member y ≡ None → 1 ≤ room
    → Halts false room top (λ s. after f s) x y
property_halts {room} {x} {y} t f is drawing low no_brace h deep =
    leads_halts (λ s. past_arrow thin f s) (arrow_begins t f is drawing low deep) (record { same = λ n s whole near at. unnamed n f s y h no_brace })

colons_begin : {room : ℕ} {x w : List Symbol} (t : Symbol) (f : Form) → x ≡ t ∷ w → continuation t ≡ draws (by_select colons) → select_strength < ends f → 1 ≤ room
    → Leads room top (λ s. after f s) x (λ s. past_arrow colons f s) w
colons_begin t f is drawing low deep = suffix t (by_select colons) f is drawing (omega arith) low deep

pub member_reads : {room : ℕ} {x y w : List Symbol} (t u : Symbol) (f : Form) (m : Member Nothing) → x ≡ t ∷ y → continuation t ≡ draws (by_select colons) → select_strength < ends f → y ≡ u ∷ w → member_of u ≡ Some m → 1 ≤ room
    → Leads room top (λ s. after f s) x (λ s. after (selected f colons m) s) w
member_reads t u f m is drawing low more named deep =
    leads (λ s. past_arrow colons f s) (colons_begin t f is drawing low deep)
    (move u more (λ s near. ap (λ o. with_member o (λ k. holds (selected f colons k) s)) named) (λ n s near at. omega arith))

memberless : (n : ℕ) (f : Form) (s : OpenForms) (v : List Symbol) → head_member v ≡ None → walk n (past_arrow colons f s) v ≡ short v
memberless n f s [] h = refl
memberless n f s (t ∷ w) h = sticks n (past_arrow colons f s) t w (ap (λ o. with_member o (λ k. holds (selected f colons k) s)) h)

pub member_halts : {room : ℕ} {x y : List Symbol} (t : Symbol) (f : Form) → x ≡ t ∷ y → continuation t ≡ draws (by_select colons) → select_strength < ends f → head_member y ≡ None → 1 ≤ room
    → Halts false room top (λ s. after f s) x y
member_halts {room} {x} {y} t f is drawing low h deep =
    leads_halts (λ s. past_arrow colons f s) (colons_begin t f is drawing low deep) (record { same = λ n s whole near at. memberless n f s y h })

pub selected_spans : (tokens : List Token) (f : Form) (arrow : Arrow) (shown_as : Member Note) (m : Member Nothing) (start at : ℕ) → start + size f ≡ at → shown_as ≡ noted_member (notes_of tokens) (at + 1) m
    → Spans tokens (selected (noted (notes_of tokens) start f) arrow shown_as) (selected f arrow m) start (at + 1 + 1)
selected_spans tokens f arrow shown_as m start at sized is = record {
  shown = ap (selected (noted (notes_of tokens) start f) arrow) (is ∙ ap (λ k. noted_member (notes_of tokens) k m) (omega arith));
  sized = omega arith;
}

-- ---- `(arguments)`

pub call_begins : {room : ℕ} {x w : List Symbol} (t : Symbol) (f : Form) → x ≡ t ∷ w → continuation t ≡ draws role.by_call → call_strength < ends f → 1 ≤ room
    → Leads room top (λ s. after f s) x (λ s. past_items (of_call f) none s) w
call_begins t f is drawing low deep = suffix t role.by_call f is drawing (omega arith) low deep

pub call_spans : (tokens : List Token) (f : Form) (items : Items Nothing) (xs : Items Note) (start at next : ℕ) → start + size f ≡ at → SpansItems tokens xs items (at + 1) next
    → Spans tokens (call (noted (notes_of tokens) start f) xs) (call f items) start next
call_spans tokens f items xs start at next sized spans = record {
  shown = ap (call (noted (notes_of tokens) start f)) (spans.shown ∙ ap (λ k. noted_items (notes_of tokens) k items) (omega arith));
  sized = omega (arith, spans.sized);
}

-- ---- one suffix more

pub suffix_more : (tokens : List Token) (e : Tree Note) (xs new : List (Suffix Expr)) (x : Suffix Expr) (f g : Form) (at place next : ℕ) → new ≡ xs ++ x ∷ []
    → Spans tokens (with_suffixes e (map (suffix_with view) xs)) f at place → Spans tokens (with_suffix (noted (notes_of tokens) at f) (suffix_with view x)) g at next
    → Spans tokens (with_suffixes e (map (suffix_with view) new)) g at next
suffix_more tokens e xs new x f g at place next grown a b = record {
  shown = suffix_push e xs new x grown ∙ ap (λ z. with_suffix z (suffix_with view x)) a.shown ∙ b.shown;
  sized = b.sized;
}

-- an operand that is no call
pub leaf_after : {room least : ℕ} (e : Form) (v : List Symbol) → is_call e ≡ false → Leads room least (λ s. holds e s) v (λ s. after e s) v
leaf_after e v is = record { same = λ n s whole near at. ap (λ b. walk n (after_by b e s) v) (sym is) }
