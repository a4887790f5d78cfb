-- Lists: items and what stands between them.
use Rattle.std.proofs.Common.{◌≡◌, ◌≢◌, ◌≤◌, inl, ℕ, ◌-◌, Bool, true, false, Some, None, List, [], ◌∷◌, refl, sym, ◌∙◌, ap, arith}
use Rattle.php_reader.specs.declared.limit.TheConstants.{LEAST_POWER}
use Rattle.php_ast.specs.declared.operator.ArrayForm.{ArrayForm}
use Rattle.php_ast.specs.declared.operator.ArrayForm.TheVariants as array_form
use Rattle.php_ast.specs.Symbol.{Symbol}
use Rattle.php_ast.specs.expression.Proper.{ends, is_none, top}
use Rattle.php_ast.specs.expression.Tree.{Listing}
use Rattle.php_ast.specs.expression.Tree.{Items, none, and, skip, Lead, plain, reference, spread, keyed, keyed_reference, listed, array, is_set}
use Rattle.php_grammar.specs.declared.closer.Closer.{Closer}
use Rattle.php_grammar.specs.declared.closer.Closer.TheVariants as ender
use Rattle.php_grammar.specs.expression.Role.{refers, spreads, item_mark, closes, continuation, is_ampersand, is_paren, at_listed, beginning}
use Rattle.php_grammar.specs.expression.Machine.{Nothing, Form, Holder, of_call, of_new, of_list, is_array, is_arguments, has_paren, may_end, is_plain, items_open, OpenForms, State, expects, holds, past_items, past_value, due_listed, closed, keys, closed_with, ended_items, after, item_step, allowed_if, pick, start, started}
use Rattle.php_grammar.specs.expression.Laws.{head_continuation}
use Rattle.php_parse_operands.specs.Walk.{Leads, Halts, Rests, walk, short}
use Rattle.php_reader.specs.Seen.{test, head_mark}
use Rattle.php_reader.proofs.Items.{mark_closes, closes_mark}
use Rattle.php_parse_operands.specs.ListAnswer.{closer_in}
use Rattle.php_parse_operands.proofs.Moves.{leads, leads_halts, move, sink, sticks, inside, close, unclosed_halts}
use Rattle.php_parse_operands.proofs.Enters.{items_enter}

-- ---- what holds a list

pub arguments_no_array : (h : Holder) → is_arguments h ≡ true → is_array h ≡ false
arguments_no_array (of_call f) g = refl
arguments_no_array (of_new class) g = refl
arguments_no_array (of_list listing) g = cc

pub arguments_paren : (h : Holder) → is_arguments h ≡ true → has_paren h ≡ true
arguments_paren (of_call f) g = refl
arguments_paren (of_new class) g = refl
arguments_paren (of_list listing) g = cc

pub arguments_end : (h : Holder) (items : Items Nothing) → is_arguments h ≡ true → may_end h items ≡ is_none items
arguments_end (of_call f) items g = refl
arguments_end (of_new class) items g = refl
arguments_end (of_list listing) items g = cc

-- ---- before an item

spread_on : (h : Holder) (items : Items Nothing) (s : OpenForms) (t : Symbol) → item_mark t ≡ spreads → is_arguments h ≡ true → item_step (item_mark t) h items s t ≡ Some (expects (items_open h items spread ∷ s))
spread_on h items s t is g = ap (λ x. item_step x h items s t) is ∙ ap (λ b. allowed_if b (expects (items_open h items spread ∷ s))) g

pub spread_opens : {room : ℕ} {x w : List Symbol} (t : Symbol) (h : Holder) (items : Items Nothing) → x ≡ t ∷ w → item_mark t ≡ spreads → is_arguments h ≡ true → 2 ≤ room
    → Leads room top (λ s. past_items h items s) x (λ s. expects (items_open h items spread ∷ s)) w
spread_opens t h items is marked g deep = move t is (λ s near. spread_on h items s t marked g) (λ n s near at. omega arith)

pub spread_halts : {room : ℕ} {x w : List Symbol} (t : Symbol) (h : Holder) (items : Items Nothing) → x ≡ t ∷ w → item_mark t ≡ spreads → is_arguments h ≡ true → room ≡ 1
    → Halts true room top (λ s. past_items h items s) x x
spread_halts t h items is marked g only = sink {to = λ s. expects (items_open h items spread ∷ s)} t is (λ s near. spread_on h items s t marked g) (λ n s near at. omega arith)

reference_on : (h : Holder) (items : Items Nothing) (s : OpenForms) (t : Symbol) → item_mark t ≡ refers → is_array h ≡ true → item_step (item_mark t) h items s t ≡ Some (expects (items_open h items reference ∷ s))
reference_on h items s t is g = ap (λ x. item_step x h items s t) is ∙ ap (λ b. allowed_if b (expects (items_open h items reference ∷ s))) g

pub reference_opens : {room : ℕ} {x w : List Symbol} (t : Symbol) (h : Holder) (items : Items Nothing) → x ≡ t ∷ w → item_mark t ≡ refers → is_array h ≡ true → 2 ≤ room
    → Leads room top (λ s. past_items h items s) x (λ s. expects (items_open h items reference ∷ s)) w
reference_opens t h items is marked g deep = move t is (λ s near. reference_on h items s t marked g) (λ n s near at. omega arith)

pub reference_halts : {room : ℕ} {x w : List Symbol} (t : Symbol) (h : Holder) (items : Items Nothing) → x ≡ t ∷ w → item_mark t ≡ refers → is_array h ≡ true → room ≡ 1
    → Halts true room top (λ s. past_items h items s) x x
reference_halts t h items is marked g only = sink {to = λ s. expects (items_open h items reference ∷ s)} t is (λ s near. reference_on h items s t marked g) (λ n s near at. omega arith)

pub argument_opens : {room : ℕ} {v : List Symbol} (h : Holder) (items : Items Nothing) → is_arguments h ≡ true → head_mark v ≢ spreads → head_continuation v ≢ closes ender.Paren
    → Leads room top (λ s. past_items h items s) v (λ s. expects (items_open h items plain ∷ s)) v
argument_opens {room} {v} h items g no_spread no_end = items_enter h items (record {
  no_reference = λ a. let b = arguments_no_array h g in cc;
  no_spread = λ a. no_spread;
  no_comma = λ a. let b = arguments_no_array h g in cc;
  no_paren = λ a b e. no_end (mark_closes v ender.Paren e);
  no_bracket = λ a. let b = arguments_paren h g in cc;
})

pub value_opens : {room : ℕ} {v : List Symbol} (items : Items Nothing) → Leads room top (λ s. past_items (of_list is_set) items s) v (λ s. expects (items_open (of_list is_set) items plain ∷ s)) v
value_opens items = items_enter (of_list is_set) items (record { no_reference = λ a. cc; no_spread = λ a. cc; no_comma = λ a. cc; no_paren = λ a b. cc; no_bracket = λ a b. cc })

pub item_opens : {room : ℕ} {v : List Symbol} (form : ArrayForm) (items : Items Nothing) → head_mark v ≢ refers → head_continuation v ≢ closes ender.Comma → head_continuation v ≢ closes (closer_in form)
    → Leads room top (λ s. past_items (of_list (array form)) items s) v (λ s. expects (items_open (of_list (array form)) items plain ∷ s)) v
item_opens {room} {v} array_form.Brackets items no_reference no_comma no_end = items_enter (of_list (array array_form.Brackets)) items (record {
  no_reference = λ a. no_reference;
  no_spread = λ a. cc;
  no_comma = λ a e. no_comma (mark_closes v ender.Comma e);
  no_paren = λ a. cc;
  no_bracket = λ a b e. no_end (mark_closes v ender.Bracket e);
})
item_opens {room} {v} array_form.Array items no_reference no_comma no_end = items_enter (of_list (array array_form.Array)) items (record {
  no_reference = λ a. no_reference;
  no_spread = λ a. cc;
  no_comma = λ a e. no_comma (mark_closes v ender.Comma e);
  no_paren = λ a b e. no_end (mark_closes v ender.Paren e);
  no_bracket = λ a. cc;
})
item_opens {room} {v} array_form.List items no_reference no_comma no_end = items_enter (of_list (array array_form.List)) items (record {
  no_reference = λ a. no_reference;
  no_spread = λ a. cc;
  no_comma = λ a e. no_comma (mark_closes v ender.Comma e);
  no_paren = λ a b e. no_end (mark_closes v ender.Paren e);
  no_bracket = λ a. cc;
})

-- an expression in an item
pub item_in : {room : ℕ} {from : OpenForms → State} {x w v : List Symbol} (h : Holder) (items : Items Nothing) (lead : Lead Nothing) (e : Form)
    → Leads room top from x (λ s. expects (items_open h items lead ∷ s)) w → Leads (room - 1) LEAST_POWER (λ s. expects s) w (λ s. holds e s) v → 1 ≤ room
    → Leads room top from x (λ s. holds e (items_open h items lead ∷ s)) v
item_in {room} h items lead e opens r deep =
    leads (λ s. expects (items_open h items lead ∷ s)) opens (inside (room - 1) LEAST_POWER (items_open h items lead) (inl refl) (omega arith) (λ d. omega arith) r)

-- ---- the key of an item

key_on : (form : ArrayForm) (items : Items Nothing) (e : Form) (s : OpenForms) → closed ender.DoubleArrow e (items_open (of_list (array form)) items plain) s ≡ Some (past_value (of_list (array form)) items e s)
key_on form items e s = refl

pub key_reads : {room : ℕ} {x w : List Symbol} (t : Symbol) (form : ArrayForm) (items : Items Nothing) (k : Form) → x ≡ t ∷ w → continuation t ≡ closes ender.DoubleArrow → 2 ≤ room
    → Leads room top (λ s. holds k (items_open (of_list (array form)) items plain ∷ s)) x (λ s. past_value (of_list (array form)) items k s) w
key_reads t form items k is arrow deep =
    close t ender.DoubleArrow k (items_open (of_list (array form)) items plain) (λ s. past_value (of_list (array form)) items k s) is arrow refl (key_on form items k) (λ d. omega arith) deep

pub keyed_reference_opens : {room : ℕ} {x w : List Symbol} (t : Symbol) (form : ArrayForm) (items : Items Nothing) (k : Form) → x ≡ t ∷ w → is_ampersand t ≡ true → 2 ≤ room
    → Leads room top (λ s. past_value (of_list (array form)) items k s) x (λ s. expects (items_open (of_list (array form)) items (keyed_reference k) ∷ s)) w
keyed_reference_opens t form items k is refers_to deep =
    move t is (λ s near. ap (λ b. pick b (Some (expects (items_open (of_list (array form)) items (keyed_reference k) ∷ s))) (start (items_open (of_list (array form)) items (keyed k) ∷ s) t)) refers_to) (λ n s near at. omega arith)

-- ---- behind an item

pub comma_reads : {room : ℕ} {x w : List Symbol} (t : Symbol) (h : Holder) (items : Items Nothing) (lead : Lead Nothing) (e : Form) → x ≡ t ∷ w → continuation t ≡ closes ender.Comma → 2 ≤ room
    → Leads room top (λ s. holds e (items_open h items lead ∷ s)) x (λ s. past_items h (and items lead e) s) w
comma_reads t h items lead e is comma deep =
    close t ender.Comma e (items_open h items lead) (λ s. past_items h (and items lead e) s) is comma refl (λ s. refl) (λ d. omega arith) deep

pub paren_reads : {room : ℕ} {x w : List Symbol} (t : Symbol) (h : Holder) (items : Items Nothing) (lead : Lead Nothing) (e : Form) → x ≡ t ∷ w → continuation t ≡ closes ender.Paren → has_paren h ≡ true → 2 ≤ room
    → Leads room top (λ s. holds e (items_open h items lead ∷ s)) x (λ s. after (closed_with h (and items lead e)) s) w
paren_reads t h items lead e is paren has deep =
    close t ender.Paren e (items_open h items lead) (λ s. after (closed_with h (and items lead e)) s) is paren refl (λ s. ap (λ b. allowed_if b (after (closed_with h (and items lead e)) s)) has) (λ d. omega arith) deep

pub array_reads : {room : ℕ} {x w : List Symbol} (t : Symbol) (form : ArrayForm) (items : Items Nothing) (lead : Lead Nothing) (e : Form) → x ≡ t ∷ w → continuation t ≡ closes (closer_in form) → 2 ≤ room
    → Leads room top (λ s. holds e (items_open (of_list (array form)) items lead ∷ s)) x (λ s. holds (listed tt (array form) (and items lead e)) s) w
array_reads t array_form.Brackets items lead e is closer deep =
    close t ender.Bracket e (items_open (of_list (array array_form.Brackets)) items lead) (λ s. holds (listed tt (array array_form.Brackets) (and items lead e)) s) is closer refl (λ s. refl) (λ d. omega arith) deep
array_reads t array_form.Array items lead e is closer deep =
    close t ender.Paren e (items_open (of_list (array array_form.Array)) items lead) (λ s. holds (listed tt (array array_form.Array) (and items lead e)) s) is closer refl (λ s. refl) (λ d. omega arith) deep
array_reads t array_form.List items lead e is closer deep =
    close t ender.Paren e (items_open (of_list (array array_form.List)) items lead) (λ s. holds (listed tt (array array_form.List) (and items lead e)) s) is closer refl (λ s. refl) (λ d. omega arith) deep

-- what closes no item
pub record Shut (h : Holder) (lead : Lead Nothing) (v : List Symbol) : Type 0 where
  pub no_comma : head_continuation v ≢ closes ender.Comma
  pub no_paren : has_paren h ≡ true → head_continuation v ≢ closes ender.Paren
  pub no_bracket : has_paren h ≡ false → head_continuation v ≢ closes ender.Bracket
  pub no_key : is_array h ≡ true → is_plain lead ≡ true → head_continuation v ≢ closes ender.DoubleArrow

allowed_off : (b : Bool) (m : State) → (b ≡ true → ⊥) → allowed_if b m ≡ None
allowed_off false m h = refl
allowed_off true m h = absurd (h refl)

dropped_off : (b : Bool) (m : State) → (b ≡ false → ⊥) → pick b None (Some m) ≡ None
dropped_off true m h = refl
dropped_off false m h = absurd (h refl)

keys_off : (b : Bool) (h : Holder) (items : Items Nothing) (lead : Lead Nothing) (e : Form) (s : OpenForms) → (b ≡ true → is_plain lead ≡ true → ⊥) → keys b h items lead e s ≡ None
keys_off true h items plain e s g = absurd (g refl refl)
keys_off true h items reference e s g = refl
keys_off true h items spread e s g = refl
keys_off true h items (keyed k) e s g = refl
keys_off true h items (keyed_reference k) e s g = refl
keys_off false h items lead e s g = refl

shut_items : (k : Closer) (h : Holder) (items : Items Nothing) (lead : Lead Nothing) (e : Form) (s : OpenForms) (v : List Symbol) → Shut h lead v → head_continuation v ≡ closes k → closed k e (items_open h items lead) s ≡ None
shut_items ender.Comma h items lead e s v g is = absurd (g.no_comma is)
shut_items ender.Paren h items lead e s v g is = allowed_off (has_paren h) (after (closed_with h (and items lead e)) s) (λ b. g.no_paren b is)
shut_items ender.Bracket h items lead e s v g is = dropped_off (has_paren h) (after (closed_with h (and items lead e)) s) (λ b. g.no_bracket b is)
shut_items ender.DoubleArrow h items lead e s v g is = keys_off (is_array h) h items lead e s (λ a b. g.no_key a b is)
shut_items _ h items lead e s v g is = refl

pub item_unclosed : {room : ℕ} {v : List Symbol} (h : Holder) (items : Items Nothing) (lead : Lead Nothing) (e : Form) → Rests LEAST_POWER (ends e) v → Shut h lead v
    → Halts false room top (λ s. holds e (items_open h items lead ∷ s)) v v
item_unclosed {room} {v} h items lead e rests g = unclosed_halts e (items_open h items lead) v refl rests (λ k s is. shut_items k h items lead e s v g is)

-- ---- where an item is due

missing_on : (form : ArrayForm) (items : Items Nothing) (s : OpenForms) (t : Symbol) → continuation t ≡ closes ender.Comma
    → item_step (item_mark t) (of_list (array form)) items s t ≡ Some (past_items (of_list (array form)) (skip items) s)
missing_on form items s t is = ap (λ x. item_step x (of_list (array form)) items s t) (closes_mark t ender.Comma is)

pub missing_reads : {room : ℕ} {x w : List Symbol} (t : Symbol) (form : ArrayForm) (items : Items Nothing) → x ≡ t ∷ w → continuation t ≡ closes ender.Comma → 2 ≤ room
    → Leads room top (λ s. past_items (of_list (array form)) items s) x (λ s. past_items (of_list (array form)) (skip items) s) w
missing_reads t form items is comma deep = move t is (λ s near. missing_on form items s t comma) (λ n s near at. omega arith)

pub missing_halts : {room : ℕ} {x w : List Symbol} (t : Symbol) (form : ArrayForm) (items : Items Nothing) → x ≡ t ∷ w → continuation t ≡ closes ender.Comma → room ≡ 1
    → Halts true room top (λ s. past_items (of_list (array form)) items s) x x
missing_halts t form items is comma only = sink {to = λ s. past_items (of_list (array form)) (skip items) s} t is (λ s near. missing_on form items s t comma) (λ n s near at. omega arith)

end_on : (form : ArrayForm) (items : Items Nothing) (s : OpenForms) (t : Symbol) → continuation t ≡ closes (closer_in form)
    → item_step (item_mark t) (of_list (array form)) items s t ≡ Some (holds (listed tt (array form) (ended_items items)) s)
end_on array_form.Brackets items s t is = ap (λ x. item_step x (of_list (array array_form.Brackets)) items s t) (closes_mark t ender.Bracket is)
end_on array_form.Array items s t is = ap (λ x. item_step x (of_list (array array_form.Array)) items s t) (closes_mark t ender.Paren is)
end_on array_form.List items s t is = ap (λ x. item_step x (of_list (array array_form.List)) items s t) (closes_mark t ender.Paren is)

pub end_reads : {room : ℕ} {x w : List Symbol} (t : Symbol) (form : ArrayForm) (items : Items Nothing) → x ≡ t ∷ w → continuation t ≡ closes (closer_in form) → 2 ≤ room
    → Leads room top (λ s. past_items (of_list (array form)) items s) x (λ s. holds (listed tt (array form) (ended_items items)) s) w
end_reads t form items is closer deep = move t is (λ s near. end_on form items s t closer) (λ n s near at. omega arith)

pub end_halts : {room : ℕ} {x w : List Symbol} (t : Symbol) (form : ArrayForm) (items : Items Nothing) → x ≡ t ∷ w → continuation t ≡ closes (closer_in form) → room ≡ 1
    → Halts true room top (λ s. past_items (of_list (array form)) items s) x x
end_halts t form items is closer only = sink {to = λ s. holds (listed tt (array form) (ended_items items)) s} t is (λ s near. end_on form items s t closer) (λ n s near at. omega arith)

empty_on : (h : Holder) (s : OpenForms) (t : Symbol) → is_arguments h ≡ true → continuation t ≡ closes ender.Paren → item_step (item_mark t) h none s t ≡ Some (after (closed_with h none) s)
empty_on (of_call f) s t g is = ap (λ x. item_step x (of_call f) none s t) (closes_mark t ender.Paren is)
empty_on (of_new class) s t g is = ap (λ x. item_step x (of_new class) none s t) (closes_mark t ender.Paren is)
empty_on (of_list listing) s t g is = cc

pub no_arguments_read : {room : ℕ} {x w : List Symbol} (t : Symbol) (h : Holder) → is_arguments h ≡ true → x ≡ t ∷ w → continuation t ≡ closes ender.Paren → 2 ≤ room
    → Leads room top (λ s. past_items h none s) x (λ s. after (closed_with h none) s) w
no_arguments_read t h g is paren deep = move t is (λ s near. empty_on h s t g paren) (λ n s near at. omega arith)

pub no_arguments_halt : {room : ℕ} {x w : List Symbol} (t : Symbol) (h : Holder) → is_arguments h ≡ true → x ≡ t ∷ w → continuation t ≡ closes ender.Paren → room ≡ 1
    → Halts true room top (λ s. past_items h none s) x x
no_arguments_halt t h g is paren only = sink {to = λ s. after (closed_with h none) s} t is (λ s near. empty_on h s t g paren) (λ n s near at. omega arith)

-- where `)` stands behind a comma of arguments
paren_by : (h : Holder) (items : Items Nothing) (s : OpenForms) (t : Symbol) → is_arguments h ≡ true → is_none items ≡ false → continuation t ≡ closes ender.Paren → item_step (item_mark t) h items s t ≡ None
paren_by (of_call f) items s t g some is = ap (λ x. item_step x (of_call f) items s t) (closes_mark t ender.Paren is) ∙ ap (λ b. allowed_if b (after (closed_with (of_call f) (ended_items items)) s)) some
paren_by (of_new class) items s t g some is = ap (λ x. item_step x (of_new class) items s t) (closes_mark t ender.Paren is) ∙ ap (λ b. allowed_if b (after (closed_with (of_new class) (ended_items items)) s)) some
paren_by (of_list listing) items s t g some is = cc

pub paren_halts : {room : ℕ} {x w : List Symbol} (t : Symbol) (h : Holder) (items : Items Nothing) → is_arguments h ≡ true → is_none items ≡ false → x ≡ t ∷ w → continuation t ≡ closes ender.Paren
    → Halts false room top (λ s. past_items h items s) x x
paren_halts {room} {x} {w} t h items g some is paren = record {
  same = λ n s whole near at. ap (walk n (past_items h items s)) is ∙ sticks n (past_items h items s) t w (paren_by h items s t g some paren) ∙ ap short (sym is);
}

-- ---- how a list opens

pub brackets_open : {room : ℕ} {x w : List Symbol} (t : Symbol) → x ≡ t ∷ w → beginning t ≡ at_listed (array array_form.Brackets) → 1 ≤ room
    → Leads room top (λ s. expects s) x (λ s. past_items (of_list (array array_form.Brackets)) none s) w
brackets_open t is begun deep = move t is (λ s near. ap (λ b. started b s) begun) (λ n s near at. omega arith)

word_on : (form : ArrayForm) (s : OpenForms) → form ≢ array_form.Brackets → started (at_listed (array form)) s ≡ Some (due_listed (array form) s)
word_on array_form.Brackets s h = absurd (h refl)
word_on _ s h = refl

word_begins : {room : ℕ} {x w : List Symbol} (t : Symbol) (form : ArrayForm) → x ≡ t ∷ w → beginning t ≡ at_listed (array form) → form ≢ array_form.Brackets → 1 ≤ room
    → Leads room top (λ s. expects s) x (λ s. due_listed (array form) s) w
word_begins t form is begun word deep = move t is (λ s near. ap (λ b. started b s) begun ∙ word_on form s word) (λ n s near at. omega arith)

isset_begins : {room : ℕ} {x w : List Symbol} (t : Symbol) → x ≡ t ∷ w → beginning t ≡ at_listed is_set → 1 ≤ room → Leads room top (λ s. expects s) x (λ s. due_listed is_set s) w
isset_begins t is begun deep = move t is (λ s near. ap (λ b. started b s) begun) (λ n s near at. omega arith)

paren_on : {room : ℕ} {x w : List Symbol} (u : Symbol) (listing : Listing) → x ≡ u ∷ w → is_paren u ≡ true → 1 ≤ room → Leads room top (λ s. due_listed listing s) x (λ s. past_items (of_list listing) none s) w
paren_on u listing is paren deep = move u is (λ s near. ap (λ b. allowed_if b (past_items (of_list listing) none s)) paren) (λ n s near at. omega arith)

pub word_opens : {room : ℕ} {x y w : List Symbol} (t u : Symbol) (form : ArrayForm) → x ≡ t ∷ y → beginning t ≡ at_listed (array form) → form ≢ array_form.Brackets → y ≡ u ∷ w → is_paren u ≡ true → 1 ≤ room
    → Leads room top (λ s. expects s) x (λ s. past_items (of_list (array form)) none s) w
word_opens t u form is begun word more paren deep = leads (λ s. due_listed (array form) s) (word_begins t form is begun word deep) (paren_on u (array form) more paren deep)

pub isset_opens : {room : ℕ} {x y w : List Symbol} (t u : Symbol) → x ≡ t ∷ y → beginning t ≡ at_listed is_set → y ≡ u ∷ w → is_paren u ≡ true → 1 ≤ room
    → Leads room top (λ s. expects s) x (λ s. past_items (of_list is_set) none s) w
isset_opens t u is begun more paren deep = leads (λ s. due_listed is_set s) (isset_begins t is begun deep) (paren_on u is_set more paren deep)

unopened : (n : ℕ) (listing : Listing) (s : OpenForms) (v : List Symbol) → test is_paren v ≡ false → walk n (due_listed listing s) v ≡ short v
unopened n listing s [] h = refl
unopened n listing s (t ∷ w) h = sticks n (due_listed listing s) t w (ap (λ b. allowed_if b (past_items (of_list listing) none s)) h)

pub word_halts : {room : ℕ} {x y : List Symbol} (t : Symbol) (form : ArrayForm) → x ≡ t ∷ y → beginning t ≡ at_listed (array form) → form ≢ array_form.Brackets → test is_paren y ≡ false → 1 ≤ room
    → Halts false room top (λ s. expects s) x y
word_halts {room} {x} {y} t form is begun word no_paren deep =
    leads_halts (λ s. due_listed (array form) s) (word_begins t form is begun word deep) (record { same = λ n s whole near at. unopened n (array form) s y no_paren })

pub isset_halts : {room : ℕ} {x y : List Symbol} (t : Symbol) → x ≡ t ∷ y → beginning t ≡ at_listed is_set → test is_paren y ≡ false → 1 ≤ room → Halts false room top (λ s. expects s) x y
isset_halts {room} {x} {y} t is begun no_paren deep =
    leads_halts (λ s. due_listed is_set s) (isset_begins t is begun deep) (record { same = λ n s whole near at. unopened n is_set s y no_paren })
