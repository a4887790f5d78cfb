-- Operators, and what stands before them.
use Rattle.std.proofs.Common.{◌≡◌, ◌≢◌, ◌≤◌, ◌<◌, ◌⊎◌, inl, inr, ℕ, suc, ◌+◌, ◌-◌, true, false, Some, None, List, [], ◌∷◌, refl, ◌∙◌, ap, arith}
use Rattle.php_reader.specs.declared.limit.TheConstants.{LEAST_POWER}
use Rattle.php_ast.specs.declared.operator.Binary.{Binary}
use Rattle.php_ast.specs.declared.operator.Binary.TheVariants as binary_op
use Rattle.php_ast.specs.Symbol.{Symbol}
use Rattle.php_token.specs.Token.{Token}
use Rattle.php_ast.specs.expression.Tree.{Tree}
use Rattle.php_ast.specs.expression.View.{Note}
use Rattle.php_ast.specs.expression.Placed.{size, noted, notes_of}
use Rattle.php_reader.specs.declared.fail.Stop.{Stop}
use Rattle.php_reader.specs.declared.fail.Stop.TheVariants.{Syntax, TooDeep, NoMemory}
use Rattle.php_parse_operands.specs.Answer.{Spans, Fails}
use Rattle.php_ast.specs.expression.Nesting.{right_depth}
use Rattle.php_ast.specs.Power.{binary_row, choice_row, instance_of_row}
use Rattle.php_ast.specs.expression.Proper.{operand_level, ends, right, is_call, free, top, call_strength}
use Rattle.php_ast.specs.expression.Tree.{binary, instance_of, instance_of_static, choice, short_choice, colons}
use Rattle.php_grammar.specs.declared.closer.Closer.{Closer}
use Rattle.php_grammar.specs.declared.closer.Closer.TheVariants as ender
use Rattle.php_grammar.specs.expression.Role.{Beginning, at_nothing, at_static, at_yield, at_prefix, beginning, by_binary, by_instance_of, by_choice, Continuation, closes, draws, continuation, strength_of, by_select, is_colon}
use Rattle.php_grammar.specs.expression.Machine.{Form, binary_open, else_open, short_open, then_open, instance_of_open, OpenForms, State, expects, holds, past_question, past_static, pick, started, start, after, after_by, closed}
use Rattle.php_grammar.specs.expression.Depth.{depth}
use Rattle.php_grammar.specs.expression.Laws.{head_continuation}
use Rattle.php_grammar.proofs.expression.Fill.{binary_bound}
use Rattle.php_parse_operands.specs.Walk.{Leads, Halts, Rests, walk, short}
use Rattle.php_reader.specs.Seen.{test, head_beginning, NoOperand}
use Rattle.php_parse_operands.proofs.Moves.{leads, leads_halts, move, sticks, inside, finish_instance, draw, call_halts, close, unclosed_halts}
use Rattle.php_parse_operands.proofs.Enters.{question_enters, static_ends}
use Rattle.php_parse_prefixes.proofs.Fronts.{rests_same}

-- ---- operators between two operands

pub right_bounds : (op : Binary) → (0 < right (binary_row op)) × (right (binary_row op) ≤ free) × (right_depth (binary_row op).grouping ≤ 1)
right_bounds binary_op.Power = (omega arith, omega arith, omega arith)
right_bounds binary_op.Coalesced = (omega arith, omega arith, omega arith)
right_bounds binary_op.Times = (omega arith, omega arith, omega arith)
right_bounds _ = (omega arith, omega arith, omega arith)

pub binary_opens : {room least : ℕ} {x w : List Symbol} (t : Symbol) (op : Binary) (f : Form) → x ≡ t ∷ w → continuation t ≡ draws (by_binary op) → least ≤ (binary_row op).power → (binary_row op).power < ends f → 1 ≤ room
    → Leads room least (λ s. holds f s) x (λ s. expects (binary_open op f ∷ s)) w
binary_opens t op f is drawing near low deep = draw t (by_binary op) f is drawing near low deep

-- ---- `? :`

pub short_opens : {room least : ℕ} {x y w : List Symbol} (t u : Symbol) (f : Form) → x ≡ t ∷ y → continuation t ≡ draws by_choice → least ≤ choice_row.power → choice_row.power < ends f → y ≡ u ∷ w → is_colon u ≡ true → 1 ≤ room
    → Leads room least (λ s. holds f s) x (λ s. expects (short_open f ∷ s)) w
short_opens t u f is drawing near low more colon deep =
    leads (λ s. past_question f s) (draw t by_choice f is drawing near low deep)
    (move u more (λ s g. ap (λ b. pick b (Some (expects (short_open f ∷ s))) (start (then_open f ∷ s) u)) colon) (λ n s g at. omega (arith, ap (λ b. pick b (depth s) (1 + depth s)) colon)))

pub then_opens : {room least : ℕ} {x w : List Symbol} (t : Symbol) (f : Form) → x ≡ t ∷ w → continuation t ≡ draws by_choice → least ≤ choice_row.power → choice_row.power < ends f → test is_colon w ≡ false → 1 ≤ room
    → Leads room least (λ s. holds f s) x (λ s. expects (then_open f ∷ s)) w
then_opens t f is drawing near low filled deep = leads (λ s. past_question f s) (draw t by_choice f is drawing near low deep) (question_enters f filled)

shut_then : (c : Form) (k : Closer) (e : Form) (s : OpenForms) → k ≢ ender.Colon → closed k e (then_open c) s ≡ None
shut_then c ender.Colon e s h = absurd (h refl)
shut_then c _ e s h = refl

pub then_unclosed : {room least : ℕ} {from : OpenForms → State} {x w y : List Symbol} (f e : Form) → least ≤ free → Leads room least from x (λ s. expects (then_open f ∷ s)) w
    → Leads (room - 1) LEAST_POWER (λ s. expects s) w (λ s. holds e s) y → 1 ≤ room → Rests LEAST_POWER (ends e) y → head_continuation y ≢ closes ender.Colon
    → Halts false room least from x y
then_unclosed {room} {least} {from} {x} {w} {y} f e low opens r deep rests shut =
    leads_halts (λ s. expects (then_open f ∷ s)) opens
    (leads_halts (λ s. holds e (then_open f ∷ s)) (inside (room - 1) LEAST_POWER (then_open f) (inl refl) (omega arith) (λ d. omega arith) r)
    (unclosed_halts e (then_open f) y refl rests (λ k s h. shut_then f k e s (λ p. shut (h ∙ ap closes p)))))

pub else_begins : {room least : ℕ} {y v : List Symbol} (f e : Form) (u : Symbol) → y ≡ u ∷ v → continuation u ≡ closes ender.Colon → 2 ≤ room
    → Leads room least (λ s. holds e (then_open f ∷ s)) y (λ s. expects (else_open f e ∷ s)) v
else_begins f e u more colon deep =
    close u ender.Colon e (then_open f) (λ s. expects (else_open f e ∷ s)) more colon refl (λ s. refl) (λ d. omega arith) deep

-- ---- `instanceof`

pub instance_opens : {room least : ℕ} {x w : List Symbol} (t : Symbol) (f : Form) → x ≡ t ∷ w → continuation t ≡ draws by_instance_of → least ≤ instance_of_row.power → instance_of_row.power < ends f → 1 ≤ room
    → Leads room least (λ s. holds f s) x (λ s. expects (instance_of_open f ∷ s)) w
instance_opens t f is drawing near low deep = draw t by_instance_of f is drawing near low deep

operand_in : {room least : ℕ} {w v : List Symbol} (f e : Form) → least ≤ instance_of_row.power → Leads room top (λ s. expects s) w (λ s. after e s) v
    → Leads room least (λ s. expects (instance_of_open f ∷ s)) w (λ s. after e (instance_of_open f ∷ s)) v
operand_in f e near r = record { same = λ n s whole g is. r.same n (instance_of_open f ∷ s) (inr (omega arith), whole) (omega arith) (omega arith) }

strength_most : (x : Continuation) → strength_of x ≤ call_strength
strength_most (draws (by_binary op)) = omega (arith, binary_bound op)
strength_most (draws _) = omega arith
strength_most _ = omega arith

call_low : (n : ℕ) (x : Continuation) → (strength_of x < operand_level) ⊎ (n ≤ strength_of x) → n ≡ top → strength_of x < suc operand_level
call_low n x (inl h) is = omega arith
call_low n x (inr h) is = absurd (omega (arith, strength_most x))

pub instance_reads : {room least : ℕ} {x w v : List Symbol} (f e : Form) → least ≤ instance_of_row.power → Leads room least (λ s. holds f s) x (λ s. expects (instance_of_open f ∷ s)) w
    → Leads room top (λ s. expects s) w (λ s. after e s) v → is_call e ≡ false → Rests operand_level (ends e) v
    → Leads room least (λ s. holds f s) x (λ s. holds (instance_of f e) s) v
instance_reads {room} {least} {x} {w} {v} f e near opens r no_call rests =
    leads (λ s. expects (instance_of_open f ∷ s)) opens
    (leads (λ s. after e (instance_of_open f ∷ s)) (operand_in f e near r)
    (leads (λ s. holds e (instance_of_open f ∷ s)) (record { same = λ n s whole g is. ap (λ b. walk n (after_by b e (instance_of_open f ∷ s)) v) no_call })
    (finish_instance f e v (omega arith) rests)))

pub instance_halts : {room least : ℕ} {x w v : List Symbol} (f e : Form) → least ≤ instance_of_row.power → Leads room least (λ s. holds f s) x (λ s. expects (instance_of_open f ∷ s)) w
    → Leads room top (λ s. expects s) w (λ s. after e s) v → is_call e ≡ true → ends e ≡ top → Rests operand_level (ends e) v
    → Halts false room least (λ s. holds f s) x v
instance_halts {room} {least} {x} {w} {v} f e near opens r call broad rests =
    leads_halts (λ s. expects (instance_of_open f ∷ s)) opens
    (leads_halts (λ s. after e (instance_of_open f ∷ s)) (operand_in f e near r)
    (call_halts f e v call (call_low (ends e) (head_continuation v) rests broad)))

pub static_instance_reads : {room least : ℕ} {x y w : List Symbol} (f : Form) (u : Symbol) → least ≤ instance_of_row.power → Leads room least (λ s. holds f s) x (λ s. expects (instance_of_open f ∷ s)) y
    → y ≡ u ∷ w → beginning u ≡ at_static → head_continuation w ≢ draws (by_select colons) → 1 ≤ room
    → Leads room least (λ s. holds f s) x (λ s. holds (instance_of_static f tt) s) w
static_instance_reads {room} {least} {x} {y} {w} f u near opens is begins alone deep =
    leads (λ s. expects (instance_of_open f ∷ s)) opens
    (leads (λ s. past_static (instance_of_open f ∷ s)) (move u is (λ s g. ap (λ b. started b (instance_of_open f ∷ s)) begins) (λ n s g at. omega arith))
    (static_ends f alone))

pub instance_fails : {room least : ℕ} {x w : List Symbol} (tokens : List Token) (at behind : ℕ) (f : Form) (e : Stop) → at ≤ behind → least ≤ instance_of_row.power → Leads room least (λ s. holds f s) x (λ s. expects (instance_of_open f ∷ s)) w
    → Fails room top (λ s. expects s) w tokens behind e → Fails room least (λ s. holds f s) x tokens at e
instance_fails tokens at behind f (Syntax k) ahead near opens r = record {
  halts = leads_halts (λ s. expects (instance_of_open f ∷ s)) opens (record { same = λ n s whole g is. r.halts.same n (instance_of_open f ∷ s) (inr (omega arith), whole) (omega arith) (omega arith) });
  ahead = omega (arith, r.ahead);
  within = r.within;
}
instance_fails tokens at behind f (TooDeep k) ahead near opens r = record {
  halts = leads_halts (λ s. expects (instance_of_open f ∷ s)) opens (record { same = λ n s whole g is. r.halts.same n (instance_of_open f ∷ s) (inr (omega arith), whole) (omega arith) (omega arith) });
  ahead = omega (arith, r.ahead);
  within = r.within;
}
instance_fails tokens at behind f NoMemory ahead near opens r = tt

pub instance_rests : (e : Form) (v : List Symbol) → ends e ≡ instance_of_row.power → Rests free (ends e) v
instance_rests e v is = instance_by (rests_same free v)
  where
    instance_by : Rests free free v → Rests free (ends e) v
    instance_by (inl h) = inl h
    instance_by (inr h) = inr (omega arith)

no_operand_by : (b : Beginning) (f : Form) (s : OpenForms) → NoOperand b → started b (instance_of_open f ∷ s) ≡ None
no_operand_by at_yield f s h = refl
no_operand_by (at_prefix op) f s h = refl
no_operand_by at_nothing f s h = refl
no_operand_by _ f s h = absurd h

no_operand_in : (n : ℕ) (f : Form) (s : OpenForms) (v : List Symbol) → NoOperand (head_beginning v) → walk n (expects (instance_of_open f ∷ s)) v ≡ short v
no_operand_in n f s [] h = refl
no_operand_in n f s (t ∷ w) h = sticks n (expects (instance_of_open f ∷ s)) t w (no_operand_by (beginning t) f s h)

pub no_operand : {room least : ℕ} {x y : List Symbol} (f : Form) → Leads room least (λ s. holds f s) x (λ s. expects (instance_of_open f ∷ s)) y → NoOperand (head_beginning y)
    → Halts false room least (λ s. holds f s) x y
no_operand {room} {least} {x} {y} f opens h =
    leads_halts (λ s. expects (instance_of_open f ∷ s)) opens (record { same = λ n s whole g is. no_operand_in n f s y h })

-- ---- notes

pub binary_spans : (tokens : List Token) (made l r : Tree Note) (op : Binary) (f form : Form) (start place next : ℕ) → made ≡ binary op l r → Spans tokens l f start place → Spans tokens r form (place + 1) next
    → Spans tokens made (binary op f form) start next
binary_spans tokens made l r op f form start place next is a b = record {
  shown = is ∙ ap (λ z. binary op z r) a.shown ∙ ap (binary op (noted (notes_of tokens) start f)) (b.shown ∙ ap (λ k. noted (notes_of tokens) k form) (omega (arith, a.sized)));
  sized = omega (arith, a.sized, b.sized);
}

pub instance_spans : (tokens : List Token) (made l r : Tree Note) (f form : Form) (start place next : ℕ) → made ≡ instance_of l r → Spans tokens l f start place → Spans tokens r form (place + 1) next
    → Spans tokens made (instance_of f form) start next
instance_spans tokens made l r f form start place next is a b = record {
  shown = is ∙ ap (λ z. instance_of z r) a.shown ∙ ap (instance_of (noted (notes_of tokens) start f)) (b.shown ∙ ap (λ k. noted (notes_of tokens) k form) (omega (arith, a.sized)));
  sized = omega (arith, a.sized, b.sized);
}

pub static_instance_spans : (tokens : List Token) (made l : Tree Note) (spot : Note) (f : Form) (start place : ℕ) → made ≡ instance_of_static l spot → spot ≡ (notes_of tokens).token (place + 1) → Spans tokens l f start place
    → Spans tokens made (instance_of_static f tt) start (place + 1 + 1)
static_instance_spans tokens made l spot f start place is noted_is a = record {
  shown = is ∙ ap (λ z. instance_of_static z spot) a.shown ∙ ap (instance_of_static (noted (notes_of tokens) start f)) (noted_is ∙ ap (λ k. (notes_of tokens).token k) (omega (arith, a.sized)));
  sized = omega (arith, a.sized);
}

pub choice_spans : (tokens : List Token) (made c a b : Tree Note) (f x y : Form) (start place middle next : ℕ) → made ≡ choice c a b → Spans tokens c f start place → Spans tokens a x (place + 1) middle → Spans tokens b y (middle + 1) next
    → Spans tokens made (choice f x y) start next
choice_spans tokens made c a b f x y start place middle next is p q r = record {
  shown = is ∙ ap (λ z. choice z a b) p.shown ∙ ap (λ z. choice (noted (notes_of tokens) start f) z b) (q.shown ∙ ap (λ k. noted (notes_of tokens) k x) (omega (arith, p.sized)))
      ∙ ap (choice (noted (notes_of tokens) start f) (noted (notes_of tokens) (start + size f + 1) x)) (r.shown ∙ ap (λ k. noted (notes_of tokens) k y) (omega (arith, p.sized, q.sized)));
  sized = omega (arith, p.sized, q.sized, r.sized);
}

pub short_spans : (tokens : List Token) (made c b : Tree Note) (f y : Form) (start place next : ℕ) → made ≡ short_choice c b → Spans tokens c f start place → Spans tokens b y (place + 1 + 1) next
    → Spans tokens made (short_choice f y) start next
short_spans tokens made c b f y start place next is p r = record {
  shown = is ∙ ap (λ z. short_choice z b) p.shown ∙ ap (short_choice (noted (notes_of tokens) start f)) (r.shown ∙ ap (λ k. noted (notes_of tokens) k y) (omega (arith, p.sized)));
  sized = omega (arith, p.sized, r.sized);
}
