-- Operands.
use Rattle.std.proofs.Common.{◌≡◌, ◌≢◌, ◌≤◌, inl, ℕ, ◌+◌, ◌-◌, Bool, true, false, Some, None, List, [], ◌∷◌, refl, ◌∙◌, ap, arith}
use Rattle.php_token.specs.Token.{Token}
use Rattle.php_reader.specs.declared.limit.TheConstants.{LEAST_POWER}
use Rattle.php_ast.specs.Symbol.{Symbol}
use Rattle.php_ast.specs.expression.Proper.{ends, top, select_strength, call_strength}
use Rattle.php_ast.specs.expression.Tree.{Tree, Leaf, Enclosure, parentheses, emptiness, exiting, leaf, enclosed, exit, exit_empty, static_member, colons, Member}
use Rattle.php_ast.specs.expression.View.{Note}
use Rattle.php_ast.specs.expression.Placed.{opening_size, noted, noted_member, notes_of}
use Rattle.php_grammar.specs.declared.closer.Closer.{Closer}
use Rattle.php_grammar.specs.declared.closer.Closer.TheVariants as ender
use Rattle.php_grammar.specs.expression.Role as role
use Rattle.php_grammar.specs.expression.Role.{at_leaf, at_static, at_exit, at_enclosed, beginning, closes, continuation, draws, by_select, is_paren, is_right_paren, member_of}
use Rattle.php_grammar.specs.expression.Machine.{Nothing, Form, OpenForm, enclosed_open, OpenForms, State, expects, holds, due_enclosed, past_exit, past_exit_paren, past_static, past_static_colons, closed, started, static_step, with_member, allowed_if, pick, goes_on, least_power_at, start}
use Rattle.php_grammar.specs.expression.Depth.{depth, deepened, static_depth}
use Rattle.php_grammar.specs.expression.Laws.{head_continuation}
use Rattle.php_parse_operands.specs.Walk.{Leads, Halts, Rests}
use Rattle.php_reader.specs.declared.fail.Stop.{Stop}
use Rattle.php_reader.specs.declared.fail.Stop.TheVariants.{Syntax, TooDeep, NoMemory}
use Rattle.php_parse_operands.specs.Answer.{Spans, Fails}
use Rattle.php_token.specs.declared.kind.Punct.TheVariants as mark
use Rattle.php_grammar.specs.expression.Machine.{instance_of_open}
use Rattle.php_grammar.specs.expression.Depth.{depth_behind}
use Rattle.php_ast.specs.Symbol.{punct}
use Rattle.php_grammar.proofs.expression.Fill.{least_power_most}
use Rattle.php_grammar.proofs.expression.Settle.{kept_power}
use Rattle.php_grammar.proofs.expression.Roles.{paren_says, TestSays}
use Rattle.php_parse_operands.specs.Walk.{walk, short}
use Rattle.php_reader.specs.Seen.{test, head_member}
use Rattle.php_parse_operands.proofs.Enters.{exit_alone, exit_enters}
use Rattle.php_parse_operands.proofs.Moves.{sticks, sink, kept_all, leads, leads_halts, move, inside, inside_halts, unclosed_halts, close}

-- ---- one expression between two tokens

pub between_reads : {room least : ℕ} {from : OpenForms → State} {x w y v : List Symbol} (f : OpenForm) (e : Form) (c : Closer) (u : Symbol) (to : OpenForms → State)
    → least_power_at f ≡ 0 → ((d : ℕ) → deepened f d ≡ 1 + d) → ((s : OpenForms) → closed c e f s ≡ Some (to s))
    → Leads room least from x (λ s. expects (f ∷ s)) w → Leads (room - 1) LEAST_POWER (λ s. expects s) w (λ s. holds e s) y → 2 ≤ room → y ≡ u ∷ v → continuation u ≡ closes c
    → Leads room least from x to v
between_reads {room} {least} f e c u to own deeper on opens r deep more ending =
    leads (λ s. expects (f ∷ s)) opens
    (leads (λ s. holds e (f ∷ s)) (inside (room - 1) LEAST_POWER f (inl own) (omega arith) (λ d. omega (arith, deeper d)) r)
    (close u c e f to more ending own on (λ d. omega (arith, deeper d)) deep))

pub between_halts : {too_deep : Bool} {room least : ℕ} {from : OpenForms → State} {x w y : List Symbol} (f : OpenForm)
    → least_power_at f ≡ 0 → ((d : ℕ) → deepened f d ≡ 1 + d) → 1 ≤ room
    → Leads room least from x (λ s. expects (f ∷ s)) w → Halts too_deep (room - 1) LEAST_POWER (λ s. expects s) w y → Halts too_deep room least from x y
between_halts {too_deep} {room} {least} f own deeper deep opens r =
    leads_halts (λ s. expects (f ∷ s)) opens (inside_halts (room - 1) LEAST_POWER f (inl own) (omega arith) (λ d. omega (arith, deeper d)) r)

pub between_unclosed : {room least : ℕ} {from : OpenForms → State} {x w y : List Symbol} (f : OpenForm) (e : Form)
    → least_power_at f ≡ 0 → ((d : ℕ) → deepened f d ≡ 1 + d) → 1 ≤ room
    → Leads room least from x (λ s. expects (f ∷ s)) w → Leads (room - 1) LEAST_POWER (λ s. expects s) w (λ s. holds e s) y → Rests LEAST_POWER (ends e) y
    → ((k : Closer) (s : OpenForms) → head_continuation y ≡ closes k → closed k e f s ≡ None)
    → Halts false room least from x y
between_unclosed {room} {least} {from} {x} {w} {y} f e own deeper deep opens r rests shut =
    leads_halts (λ s. expects (f ∷ s)) opens
    (leads_halts (λ s. holds e (f ∷ s)) (inside (room - 1) LEAST_POWER f (inl own) (omega arith) (λ d. omega (arith, deeper d)) r)
    (unclosed_halts e f y own rests shut))

shut_enclosed : (enclosure : Enclosure) (c : Closer) (e : Form) (s : OpenForms) → c ≢ ender.Paren → closed c e (enclosed_open enclosure) s ≡ None
shut_enclosed enclosure ender.Paren e s h = absurd (h refl)
shut_enclosed enclosure _ e s h = refl

-- `)` closes what encloses one expression
pub enclosed_reads : {room : ℕ} {e : Form} {x w y v : List Symbol} (enclosure : Enclosure) (u : Symbol)
    → Leads room top (λ s. expects s) x (λ s. expects (enclosed_open enclosure ∷ s)) w
    → Leads (room - 1) LEAST_POWER (λ s. expects s) w (λ s. holds e s) y → 1 ≤ room - 1 → y ≡ u ∷ v → continuation u ≡ closes ender.Paren
    → Leads room top (λ s. expects s) x (λ s. holds (enclosed tt enclosure e) s) v
enclosed_reads {room} {e} enclosure u opens r deep more ending =
    between_reads (enclosed_open enclosure) e ender.Paren u (λ s. holds (enclosed tt enclosure e) s) refl (λ d. refl) (λ s. refl) opens r (omega arith) more ending

pub enclosed_unclosed : {room : ℕ} {e : Form} {x w y : List Symbol} (enclosure : Enclosure) → 1 ≤ room
    → Leads room top (λ s. expects s) x (λ s. expects (enclosed_open enclosure ∷ s)) w
    → Leads (room - 1) LEAST_POWER (λ s. expects s) w (λ s. holds e s) y → Rests LEAST_POWER (ends e) y → head_continuation y ≢ closes ender.Paren
    → Halts false room top (λ s. expects s) x y
enclosed_unclosed {room} {e} enclosure deep opens r rests shut =
    between_unclosed (enclosed_open enclosure) e refl (λ d. refl) deep opens r rests
    (λ k s h. shut_enclosed enclosure k e s (λ p. shut (h ∙ ap closes p)))

pub enclosed_fails : (tokens : List Token) (room at behind : ℕ) {x w : List Symbol} (enclosure : Enclosure) (e : Stop) → 1 ≤ room → at ≤ behind
    → Leads room top (λ s. expects s) x (λ s. expects (enclosed_open enclosure ∷ s)) w
    → Fails (room - 1) LEAST_POWER (λ s. expects s) w tokens behind e → Fails room top (λ s. expects s) x tokens at e
enclosed_fails tokens room at behind enclosure (Syntax k) deep ahead opens r =
    record { halts = between_halts (enclosed_open enclosure) refl (λ d. refl) deep opens r.halts; ahead = omega (arith, r.ahead); within = r.within }
enclosed_fails tokens room at behind enclosure (TooDeep k) deep ahead opens r =
    record { halts = between_halts (enclosed_open enclosure) refl (λ d. refl) deep opens r.halts; ahead = omega (arith, r.ahead); within = r.within }
enclosed_fails tokens room at behind enclosure NoMemory deep ahead opens r = tt

pub enclosed_spans : (tokens : List Token) (enclosure : Enclosure) (made e : Tree Note) (spot : Note) (form : Form) (at behind next : ℕ) → made ≡ enclosed spot enclosure e → spot ≡ (notes_of tokens).token at
    → Spans tokens e form behind next → behind ≡ at + opening_size enclosure → Spans tokens made (enclosed tt enclosure form) at (next + 1)
enclosed_spans tokens enclosure made e spot form at behind next is noted_is spans where_is = record {
  shown = is ∙ ap (λ n. enclosed n enclosure e) noted_is ∙ ap (enclosed ((notes_of tokens).token at) enclosure) (spans.shown ∙ ap (λ k. noted (notes_of tokens) k form) where_is);
  sized = omega (arith, spans.sized);
}

-- ---- how they open

pub group_opens : {room : ℕ} {x w : List Symbol} (t : Symbol) → x ≡ t ∷ w → beginning t ≡ at_enclosed parentheses → 1 ≤ room
    → Leads room top (λ s. expects s) x (λ s. expects (enclosed_open parentheses ∷ s)) w
group_opens t is begins deep = move t is (λ s near. ap (λ b. started b s) begins) (λ n s near at. omega arith)

empty_begins : {room : ℕ} {x w : List Symbol} (t : Symbol) → x ≡ t ∷ w → beginning t ≡ at_enclosed emptiness → 1 ≤ room
    → Leads room top (λ s. expects s) x (λ s. due_enclosed emptiness s) w
empty_begins t is begins deep = move t is (λ s near. ap (λ b. started b s) begins) (λ n s near at. omega arith)

pub empty_opens : {room : ℕ} {x y w : List Symbol} (t u : Symbol) → x ≡ t ∷ y → beginning t ≡ at_enclosed emptiness → y ≡ u ∷ w → is_paren u ≡ true → 1 ≤ room
    → Leads room top (λ s. expects s) x (λ s. expects (enclosed_open emptiness ∷ s)) w
empty_opens t u is begins more opens deep =
    leads (λ s. due_enclosed emptiness s) (empty_begins t is begins deep)
    (move u more (λ s near. ap (λ b. allowed_if b (expects (enclosed_open emptiness ∷ s))) opens) (λ n s near at. omega arith))

-- ---- leaves

pub leaf_reads : {room : ℕ} {x w : List Symbol} (t : Symbol) (l : Leaf) → x ≡ t ∷ w → beginning t ≡ at_leaf l → 1 ≤ room → Leads room top (λ s. expects s) x (λ s. holds (leaf tt l) s) w
leaf_reads t l is begins deep = move t is (λ s near. ap (λ b. started b s) begins) (λ n s near at. omega arith)

-- ---- `static :: name`

colons_on : (x : role.Continuation) (s : OpenForms) → x ≡ draws (by_select colons) → static_step s x ≡ Some (past_static_colons s)
colons_on x s is = ap (static_step s) is

colons_deep : (x : role.Continuation) (s : OpenForms) → x ≡ draws (by_select colons) → static_depth s x ≡ depth s
colons_deep x [] is = refl
colons_deep x (instance_of_open l ∷ s) is = ap (depth_behind s) is ∙ ap depth (kept_all false select_strength s (omega (arith, kept_power s, least_power_most s)))
colons_deep x (_ ∷ s) is = refl

static_opens : {room : ℕ} {x y w : List Symbol} (t u : Symbol) → x ≡ t ∷ y → beginning t ≡ at_static → y ≡ u ∷ w → continuation u ≡ draws (by_select colons) → 1 ≤ room
    → Leads room top (λ s. expects s) x (λ s. past_static_colons s) w
static_opens t u is begins more colons_are deep =
    leads (λ s. past_static s) (move t is (λ s near. ap (λ b. started b s) begins) (λ n s near at. omega arith))
    (move u more (λ s near. colons_on (continuation u) s colons_are) (λ n s near at. omega (arith, colons_deep (continuation u) s colons_are)))

pub static_reads : {room : ℕ} {x y z w : List Symbol} (t u a : Symbol) (m : Member Nothing) → x ≡ t ∷ y → beginning t ≡ at_static → y ≡ u ∷ z → continuation u ≡ draws (by_select colons) → z ≡ a ∷ w → member_of a ≡ Some m → 1 ≤ room
    → Leads room top (λ s. expects s) x (λ s. holds (static_member tt m) s) w
static_reads t u a m is begins more colons_are last named deep =
    leads (λ s. past_static_colons s) (static_opens t u is begins more colons_are deep)
    (move a last (λ s near. ap (λ o. with_member o (λ k. holds (static_member tt k) s)) named) (λ n s near at. omega arith))

nameless : (n : ℕ) (s : OpenForms) (v : List Symbol) → head_member v ≡ None → walk n (past_static_colons s) v ≡ short v
nameless n s [] h = refl
nameless n s (t ∷ w) h = sticks n (past_static_colons s) t w (ap (λ o. with_member o (λ k. holds (static_member tt k) s)) h)

pub static_halts : {room : ℕ} {x y z : List Symbol} (t u : Symbol) → x ≡ t ∷ y → beginning t ≡ at_static → y ≡ u ∷ z → continuation u ≡ draws (by_select colons) → head_member z ≡ None → 1 ≤ room
    → Halts false room top (λ s. expects s) x z
static_halts {room} {x} {y} {z} t u is begins more colons_are none deep =
    leads_halts (λ s. past_static_colons s) (static_opens t u is begins more colons_are deep) (record { same = λ n s whole near at. nameless n s z none })

pub static_spans : (tokens : List Token) (made : Tree Note) (spot : Note) (shown_as : Member Note) (m : Member Nothing) (at : ℕ) → made ≡ static_member spot shown_as → spot ≡ (notes_of tokens).token at → shown_as ≡ noted_member (notes_of tokens) (at + 1 + 1) m
    → Spans tokens made (static_member tt m) at (at + 1 + 1 + 1)
static_spans tokens made spot shown_as m at made_is is named = record {
  shown = made_is ∙ ap (λ n. static_member n shown_as) is ∙ ap (static_member ((notes_of tokens).token at)) (named ∙ ap (λ k. noted_member (notes_of tokens) k m) (omega arith));
  sized = omega arith;
}

-- ---- `exit`

exit_begins : {room : ℕ} {x w : List Symbol} (t : Symbol) → x ≡ t ∷ w → beginning t ≡ at_exit → 1 ≤ room → Leads room top (λ s. expects s) x (λ s. past_exit s) w
exit_begins t is begins deep = move t is (λ s near. ap (λ b. started b s) begins) (λ n s near at. omega arith)

pub exit_reads : {room : ℕ} {x w : List Symbol} (t : Symbol) → x ≡ t ∷ w → beginning t ≡ at_exit → test is_paren w ≡ false → 1 ≤ room → Leads room top (λ s. expects s) x (λ s. holds (exit tt) s) w
exit_reads t is begins no_paren deep = leads (λ s. past_exit s) (exit_begins t is begins deep) (exit_alone no_paren)

paren_deep : (t : Symbol) → is_paren t ≡ true → continuation t ≡ draws role.by_call
paren_deep t h = paren_by (is_paren t) t (paren_says t) h
  where
    paren_by : (b : Bool) (t : Symbol) → TestSays b t (punct mark.LeftParen) → b ≡ true → continuation t ≡ draws role.by_call
    paren_by true t says h = ap continuation says
    paren_by false t says h = cc

exit_parens : {room : ℕ} {x y w : List Symbol} (t u : Symbol) → x ≡ t ∷ y → beginning t ≡ at_exit → y ≡ u ∷ w → is_paren u ≡ true → 1 ≤ room
    → Leads room top (λ s. expects s) x (λ s. past_exit_paren s) w
exit_parens t u is begins more opens deep =
    leads (λ s. past_exit s) (exit_begins t is begins deep)
    (move u more (λ s near. ap (λ b. pick b (Some (past_exit_paren s)) (goes_on (exit tt) s (continuation u))) opens)
    (λ n s near at. omega (arith, ap (depth_behind s) (paren_deep u opens), ap depth (kept_all false call_strength s (omega (arith, kept_power s, least_power_most s))))))

pub exit_opens : {room : ℕ} {x y w : List Symbol} (t u : Symbol) → x ≡ t ∷ y → beginning t ≡ at_exit → y ≡ u ∷ w → is_paren u ≡ true → test is_right_paren w ≡ false → 1 ≤ room
    → Leads room top (λ s. expects s) x (λ s. expects (enclosed_open exiting ∷ s)) w
exit_opens t u is begins more opens filled deep = leads (λ s. past_exit_paren s) (exit_parens t u is begins more opens deep) (exit_enters filled)

pub exit_empty_reads : {room : ℕ} {x y z w : List Symbol} (t u a : Symbol) → x ≡ t ∷ y → beginning t ≡ at_exit → y ≡ u ∷ z → is_paren u ≡ true → z ≡ a ∷ w → is_right_paren a ≡ true → 2 ≤ room
    → Leads room top (λ s. expects s) x (λ s. holds (exit_empty tt) s) w
exit_empty_reads t u a is begins more opens last ends_here deep =
    leads (λ s. past_exit_paren s) (exit_parens t u is begins more opens (omega arith))
    (move a last (λ s near. ap (λ b. pick b (Some (holds (exit_empty tt) s)) (start (enclosed_open exiting ∷ s) a)) ends_here) (λ n s near at. omega arith))

pub exit_empty_halts : {room : ℕ} {x y z w : List Symbol} (t u a : Symbol) → x ≡ t ∷ y → beginning t ≡ at_exit → y ≡ u ∷ z → is_paren u ≡ true → z ≡ a ∷ w → is_right_paren a ≡ true → room ≡ 1
    → Halts true room top (λ s. expects s) x z
exit_empty_halts {room} {x} {y} {z} {w} t u a is begins more opens last ends_here only =
    leads_halts (λ s. past_exit_paren s) (exit_parens t u is begins more opens (omega arith))
    (sink a last (λ s near. ap (λ b. pick b (Some (holds (exit_empty tt) s)) (start (enclosed_open exiting ∷ s) a)) ends_here) (λ n s near at. omega arith))
