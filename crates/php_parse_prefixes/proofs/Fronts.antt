-- Forms of operators, and what stands before the first of them.
use Rattle.std.proofs.Common.{◌≡◌, ◌≤◌, ◌<◌, ◌⊎◌, inl, inr, ℕ, ◌+◌, ◌-◌, Bool, true, false, Some, List, ◌∷◌, refl, ◌∙◌, ap, subst, arith, ltb-true, ltb-false}
use Rattle.std.specs.Prelude.{nat_lt}
use Rattle.std.proofs.lemmas.Bool.{lt-ltb}
use Rattle.php_ast.specs.declared.operator.Assign.{Assign}
use Rattle.php_ast.specs.declared.operator.Assign.TheVariants as setting
use Rattle.php_ast.specs.declared.operator.Prefix.{Prefix}
use Rattle.php_ast.specs.declared.operator.Count.{Count}
use Rattle.php_ast.specs.Symbol.{Symbol}
use Rattle.php_token.specs.Token.{Token}
use Rattle.php_ast.specs.expression.Tree.{Tree, Setting}
use Rattle.php_ast.specs.expression.View.{Note}
use Rattle.php_ast.specs.expression.Placed.{setting_size, noted, notes_of}
use Rattle.php_parse_operands.specs.Answer.{Spans}
use Rattle.php_ast.specs.expression.Proper.{operand_level, ends, free}
use Rattle.php_ast.specs.expression.Tree.{prefix, count, assign, by_value, by_reference, yield_nothing, yield_value, yield_pair}
use Rattle.php_grammar.specs.declared.closer.Closer.TheVariants as ender
use Rattle.php_grammar.specs.expression.Role.{at_yield, at_prefix, beginning, by_assign, Continuation, closes, draws, neither, continuation, strength_of, is_arrow, ends_yield, is_ampersand}
use Rattle.php_grammar.specs.expression.Machine.{Form, OpenForm, prefix_open, assign_open, yield_open, yield_value_open, OpenForms, State, expects, holds, past_assign, past_yield, least_power_at, least_power, ends_at, completed, pick, allowed_if, started, start, goes_on}
use Rattle.php_grammar.specs.expression.Depth.{deepened, depth, depth_behind}
use Rattle.php_grammar.specs.expression.Laws.{head_continuation}
use Rattle.php_parse_operands.specs.Walk.{Leads, Rests, head_strength}
use Rattle.php_reader.specs.Seen.{test}
use Rattle.php_parse_operands.proofs.Moves.{leads, move, inside, finish, completed_ends, draw}
use Rattle.php_parse_operands.proofs.Enters.{assign_enters, yield_enters, yield_alone}

-- ---- an operator form

pub operator_reads : {room least : ℕ} {from : OpenForms → State} {x w v : List Symbol} (f : OpenForm) (e : Form) (inner inner_least : ℕ) → least ≤ free → 0 < least_power_at f → least_power_at f ≤ free → inner_least ≡ least_power_at f
    → (is_arrow (head_continuation v) ≡ true → ends_at true f ≡ least_power_at f) → ((d : ℕ) → deepened f d + inner ≡ d + room)
    → Leads room least from x (λ s. expects (f ∷ s)) w → Leads inner inner_least (λ s. expects s) w (λ s. holds e s) v → Rests inner_least (ends e) v
    → Leads room least from x (λ s. holds (completed f e) s) v
operator_reads {room} {least} {from} {x} {w} {v} f e inner inner_least low some most is arrow deeper opens r rests =
    leads (λ s. expects (f ∷ s)) opens
    (leads (λ s. holds e (f ∷ s)) (inside inner inner_least f (inr low) (omega (arith, is)) deeper r)
    (finish f e v low some most arrow (subst (λ n. Rests n (ends e) v) is rests)))

pub operator_rests : (f : OpenForm) (e : Form) (least : ℕ) (v : List Symbol) → 0 < least_power_at f → least_power_at f ≤ free → least ≡ least_power_at f → Rests least (ends e) v → Rests free (ends (completed f e)) v
operator_rests f e least v some most is (inl h) = inl (omega arith)
operator_rests f e least v some most is (inr h) = inr (omega (arith, completed_ends f e some most))

pub rests_same : (n : ℕ) (v : List Symbol) → Rests n n v
rests_same n v = rests_by (nat_lt (head_strength v) n) n (head_strength v) refl
  where
    rests_by : (b : Bool) (n k : ℕ) → nat_lt k n ≡ b → (k < n) ⊎ (n ≤ k)
    rests_by true n k h = inl (ltb-true k n h)
    rests_by false n k h = inr (ltb-false k n h)

-- ---- prefix operators

pub prefix_opens : {room : ℕ} {x w : List Symbol} (t : Symbol) (op : Prefix) → x ≡ t ∷ w → beginning t ≡ at_prefix op → 1 ≤ room
    → Leads room free (λ s. expects s) x (λ s. expects (prefix_open op ∷ s)) w
prefix_opens t op is begins deep =
    move t is (λ s near. ap (λ b. started b s) begins ∙ ap (λ b. allowed_if b (expects (prefix_open op ∷ s))) (lt-ltb (least_power s) operand_level (omega arith))) (λ n s near at. omega arith)

-- ---- assignments

pub value_opens : {room : ℕ} {x w : List Symbol} (t : Symbol) (op : Assign) (f : Form) → x ≡ t ∷ w → continuation t ≡ draws (by_assign op) → free < ends f → (op ≡ setting.Plain → test is_ampersand w ≡ false) → 1 ≤ room
    → Leads room free (λ s. holds f s) x (λ s. expects (assign_open (by_value op) f ∷ s)) w
value_opens t setting.Plain f is drawing low no_reference deep =
    leads (λ s. past_assign f s) (draw t (by_assign setting.Plain) f is drawing (omega arith) low deep) (assign_enters f (no_reference refl))
value_opens t setting.Power f is drawing low no_reference deep = draw t (by_assign setting.Power) f is drawing (omega arith) low deep
value_opens t setting.Times f is drawing low no_reference deep = draw t (by_assign setting.Times) f is drawing (omega arith) low deep
value_opens t setting.Divided f is drawing low no_reference deep = draw t (by_assign setting.Divided) f is drawing (omega arith) low deep
value_opens t setting.Remainder f is drawing low no_reference deep = draw t (by_assign setting.Remainder) f is drawing (omega arith) low deep
value_opens t setting.Plus f is drawing low no_reference deep = draw t (by_assign setting.Plus) f is drawing (omega arith) low deep
value_opens t setting.Minus f is drawing low no_reference deep = draw t (by_assign setting.Minus) f is drawing (omega arith) low deep
value_opens t setting.Concatenated f is drawing low no_reference deep = draw t (by_assign setting.Concatenated) f is drawing (omega arith) low deep
value_opens t setting.ShiftedLeft f is drawing low no_reference deep = draw t (by_assign setting.ShiftedLeft) f is drawing (omega arith) low deep
value_opens t setting.ShiftedRight f is drawing low no_reference deep = draw t (by_assign setting.ShiftedRight) f is drawing (omega arith) low deep
value_opens t setting.BitAnd f is drawing low no_reference deep = draw t (by_assign setting.BitAnd) f is drawing (omega arith) low deep
value_opens t setting.BitXor f is drawing low no_reference deep = draw t (by_assign setting.BitXor) f is drawing (omega arith) low deep
value_opens t setting.BitOr f is drawing low no_reference deep = draw t (by_assign setting.BitOr) f is drawing (omega arith) low deep

pub reference_opens : {room : ℕ} {x y w : List Symbol} (t u : Symbol) (f : Form) → x ≡ t ∷ y → continuation t ≡ draws (by_assign setting.Plain) → free < ends f → y ≡ u ∷ w → is_ampersand u ≡ true → 1 ≤ room
    → Leads room free (λ s. holds f s) x (λ s. expects (assign_open by_reference f ∷ s)) w
reference_opens t u f is drawing low more refers deep =
    leads (λ s. past_assign f s) (draw t (by_assign setting.Plain) f is drawing (omega arith) low deep)
    (move u more (λ s near. ap (λ b. pick b (Some (expects (assign_open by_reference f ∷ s))) (start (assign_open (by_value setting.Plain) f ∷ s) u)) refers)
    (λ n s near at. omega (arith, ap (λ b. pick b (depth s) (1 + depth s)) refers)))

-- ---- `yield`

yield_begins : {room : ℕ} {x w : List Symbol} (t : Symbol) → x ≡ t ∷ w → beginning t ≡ at_yield → 1 ≤ room → Leads room free (λ s. expects s) x (λ s. past_yield s) w
yield_begins t is begins deep =
    move t is (λ s near. ap (λ b. started b s) begins ∙ ap (λ b. allowed_if b (past_yield s)) (lt-ltb (least_power s) operand_level (omega arith))) (λ n s near at. omega arith)

pub yield_nothing_reads : {room : ℕ} {x w : List Symbol} (t : Symbol) → x ≡ t ∷ w → beginning t ≡ at_yield → ends_yield (head_continuation w) ≡ true → 1 ≤ room
    → Leads room free (λ s. expects s) x (λ s. holds (yield_nothing tt) s) w
yield_nothing_reads t is begins alone deep = leads (λ s. past_yield s) (yield_begins t is begins deep) (yield_alone alone)

pub yield_opens : {room : ℕ} {x w : List Symbol} (t : Symbol) → x ≡ t ∷ w → beginning t ≡ at_yield → ends_yield (head_continuation w) ≡ false → 1 ≤ room
    → Leads room free (λ s. expects s) x (λ s. expects (yield_open ∷ s)) w
yield_opens t is begins more deep = leads (λ s. past_yield s) (yield_begins t is begins deep) (yield_enters more)

pub yield_ends_low : (x : Continuation) → ends_yield x ≡ true → strength_of x < free
yield_ends_low (closes c) h = omega arith
yield_ends_low (draws d) h = cc
yield_ends_low neither h = cc

pub arrow_is : (x : Continuation) → is_arrow x ≡ true → x ≡ closes ender.DoubleArrow
arrow_is (closes ender.DoubleArrow) h = refl
arrow_is (closes ender.Paren) h = cc
arrow_is (closes ender.Bracket) h = cc
arrow_is (closes ender.Brace) h = cc
arrow_is (closes ender.Comma) h = cc
arrow_is (closes ender.Colon) h = cc
arrow_is (closes ender.Semicolon) h = cc
arrow_is (closes ender.EndPart) h = cc
arrow_is (draws d) h = cc
arrow_is neither h = cc

pub pair_opens : {room : ℕ} {x w : List Symbol} (t : Symbol) (k : Form) → x ≡ t ∷ w → continuation t ≡ closes ender.DoubleArrow → 2 ≤ room
    → Leads room free (λ s. holds k (yield_open ∷ s)) x (λ s. expects (yield_value_open k ∷ s)) w
pair_opens t k is arrow deep =
    move t is (λ s near. ap (goes_on k (yield_open ∷ s)) arrow) (λ n s near at. omega (arith, ap (depth_behind (yield_open ∷ s)) arrow))

-- ---- notes

pub prefix_spans : (tokens : List Token) (made e : Tree Note) (spot : Note) (op : Prefix) (form : Form) (at next : ℕ) → made ≡ prefix spot op e → spot ≡ (notes_of tokens).token at → Spans tokens e form (at + 1) next
    → Spans tokens made (prefix tt op form) at next
prefix_spans tokens made e spot op form at next is noted_is spans = record { shown = is ∙ ap (λ n. prefix n op e) noted_is ∙ ap (prefix ((notes_of tokens).token at) op) spans.shown; sized = omega (arith, spans.sized) }

pub assign_spans : (tokens : List Token) (made l r : Tree Note) (how : Setting) (f form : Form) (start place behind next : ℕ) → made ≡ assign how l r → Spans tokens l f start place → Spans tokens r form behind next
    → behind ≡ place + setting_size how → Spans tokens made (assign how f form) start next
assign_spans tokens made l r how f form start place behind next is a b where_is = record {
  shown = is ∙ ap (λ z. assign how z r) a.shown ∙ ap (assign how (noted (notes_of tokens) start f)) (b.shown ∙ ap (λ k. noted (notes_of tokens) k form) (omega (arith, a.sized)));
  sized = omega (arith, a.sized, b.sized);
}

pub yield_spans : (tokens : List Token) (made e : Tree Note) (spot : Note) (form : Form) (at next : ℕ) → made ≡ yield_value spot e → spot ≡ (notes_of tokens).token at → Spans tokens e form (at + 1) next
    → Spans tokens made (yield_value tt form) at next
yield_spans tokens made e spot form at next is noted_is spans = record { shown = is ∙ ap (λ n. yield_value n e) noted_is ∙ ap (yield_value ((notes_of tokens).token at)) spans.shown; sized = omega (arith, spans.sized) }

pub pair_spans : (tokens : List Token) (made a b : Tree Note) (spot : Note) (k form : Form) (at place next : ℕ) → made ≡ yield_pair spot a b → spot ≡ (notes_of tokens).token at → Spans tokens a k (at + 1) place → Spans tokens b form (place + 1) next
    → Spans tokens made (yield_pair tt k form) at next
pair_spans tokens made a b spot k form at place next is noted_is p q = record {
  shown = is ∙ ap (λ n. yield_pair n a b) noted_is ∙ ap (λ z. yield_pair ((notes_of tokens).token at) z b) p.shown
      ∙ ap (yield_pair ((notes_of tokens).token at) (noted (notes_of tokens) (at + 1) k)) (q.shown ∙ ap (λ n. noted (notes_of tokens) n form) (omega (arith, p.sized)));
  sized = omega (arith, p.sized, q.sized);
}

pub counted_spans : (tokens : List Token) (made l : Tree Note) (way : Count) (f : Form) (start place : ℕ) → made ≡ count l way → Spans tokens l f start place → Spans tokens made (count f way) start (place + 1)
counted_spans tokens made l way f start place is a = record { shown = is ∙ ap (λ z. count z way) a.shown; sized = omega (arith, a.sized) }
