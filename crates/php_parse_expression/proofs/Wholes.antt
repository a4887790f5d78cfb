-- What whole walks say of the tokens read.
use Rattle.std.proofs.Common.{◌≡◌, ◌≢◌, ◌≤◌, ◌<◌, ◌⊎◌, inl, inr, ℕ, ◌+◌, Bool, true, false, Some, None, List, [], ◌∷◌, ◌++◌, take, length, get_or, refl, sym, ◌∙◌, ap, subst, arith, append_assoc}
use Rattle.std.proofs.lemmas.List.{append-nil}
use Rattle.std.proofs.lemmas.Bool.{le-ltb}
use Rattle.std.proofs.lemmas.List.{length-append}
use Rattle.std.proofs.Math.Seq.{take-append_seam}
use Rattle.php_token.specs.declared.kind.Punct.TheVariants as mark
use Rattle.php_reader.specs.declared.limit.TheConstants.{LEAST_POWER}
use Rattle.php_ast.specs.Symbol.{Symbol, punct}
use Rattle.php_ast.specs.expression.Tree.{Class, class_name, class_static, class_found, new, exit, instance_of_static, yield_nothing, thin, colons}
use Rattle.php_ast.specs.expression.Spelling.{spell}
use Rattle.php_ast.specs.expression.Proper.{Proper, ends, ends_bare}
use Rattle.php_ast.specs.expression.Nesting.{nests}
use Rattle.php_grammar.specs.declared.closer.Closer.TheVariants as ender
use Rattle.php_grammar.specs.expression.Role.{Draw, draw_strength, Continuation, draws, closes, neither, continuation, strength_of, is_arrow, ends_yield}
use Rattle.php_grammar.specs.expression.Machine.{Nothing, Form, OpenForm, enclosed_open, items_open, yield_open, instance_of_open, OpenForms, State, expects, holds, past_exit, past_static, past_class, past_yield, past_arrow, class_step, closed, advance, halt, Reading, read, read_from, or_halt, goes_on, released, opened_by, allowed_if, closes_in}
use Rattle.php_grammar.specs.expression.Depth.{depth_at, depths_read, noting}
use Rattle.php_grammar.specs.expression.Laws.{Spells, BeginsExpression, EndsBefore, head_continuation}
use Rattle.php_grammar.proofs.expression.Appended.{spell_append}
use Rattle.php_grammar.proofs.expression.LawProofs.{reading_begins, reads_back, unfinished, stops_exactly, nesting_agrees}
use Rattle.php_parse_operands.specs.Walk.{whole, short, deep, outcome_of, outcome, walk, Rests}
use Rattle.php_parse_expression.proofs.Depths.{AllWithin, SinksAt}
use Rattle.php_parse_operands.proofs.Moves.{sticks, draws_some}
use Rattle.php_parse_expression.proofs.Walked.{Reads, EndsIn, AllAtMost, walks, halt_unread, outcome_whole, outcome_short}

-- ---- an expression that is over

over_by : (x : Continuation) (f : Form) → (strength_of x < LEAST_POWER) ⊎ (ends f ≤ strength_of x) → goes_on f [] x ≡ None
over_by (draws d) f (inl h) = absurd (omega (arith, draws_some d))
over_by (draws d) f (inr h) = ap (λ b. allowed_if b (opened_by d f [])) (le-ltb (draw_strength d) (ends f) h)
over_by (closes c) f h = refl
over_by neither f h = refl

pub over : (n : ℕ) (f : Form) (v : List Symbol) → Rests LEAST_POWER (ends f) v → walk n (holds f []) v ≡ whole f v
over n f [] h = refl
over n f (t ∷ w) h = sticks n (holds f []) t w (over_by (continuation t) f h)

-- ---- where a walk ends

-- the reading halts there, and counts nothing more
pub record Halted (to : State) (left : List Symbol) : Type 0 where
  pub same : read_from to left ≡ halt to left
  pub none : depths_read to left ≡ []

halted_none : (to : State) (t : Symbol) (v : List Symbol) → advance to t ≡ None → Halted to (t ∷ v)
halted_none to t v is = record {
  same = ap (λ o. or_halt o (λ y. read_from y v) (halt to (t ∷ v))) is;
  none = ap (λ o. noting o (depth_at to t) (λ y. depths_read y v)) is;
}

pub record EndsWhole (to : State) (left : List Symbol) (f : Form) (y : List Symbol) : Type 0 where
  pub halted : Halted to left
  pub missing : (halt to left).missing ≡ []
  pub tree : (halt to left).tree ≡ f
  pub left_is : left ≡ y

whole_of : (to : State) (left : List Symbol) (f : Form) (y : List Symbol) → Halted to left → outcome (halt to left) ≡ whole f y → EndsWhole to left f y
whole_of to left f y halted h =
    let p = outcome_whole (halt to left) f y h in
    record { halted = halted; missing = p.0; tree = p.1; left_is = sym (halt_unread to left) ∙ p.2 }

pub ends_whole : (n : ℕ) (to : State) (left : List Symbol) (f : Form) (y : List Symbol) → EndsIn n to left (whole f y) → EndsWhole to left f y
ends_whole n to [] f y h = whole_of to [] f y (record { same = refl; none = refl }) (sym h)
ends_whole n to (t ∷ v) f y (inl p) = whole_of to (t ∷ v) f y (halted_none to t v p.0) (sym p.1)
ends_whole n to (t ∷ v) f y (inr p) = let e : whole f y ≡ deep (t ∷ v) = p.3 in absurd (cc)

pub record EndsShort (to : State) (left y : List Symbol) : Type 0 where
  pub halted : Halted to left
  pub missing : (halt to left).missing ≢ []
  pub left_is : left ≡ y

short_of : (to : State) (left y : List Symbol) → Halted to left → outcome (halt to left) ≡ short y → EndsShort to left y
short_of to left y halted h =
    let p = outcome_short (halt to left) y h in
    record { halted = halted; missing = p.0; left_is = sym (halt_unread to left) ∙ p.1 }

pub ends_short : (n : ℕ) (to : State) (left y : List Symbol) → EndsIn n to left (short y) → EndsShort to left y
ends_short n to [] y h = short_of to [] y (record { same = refl; none = refl }) (sym h)
ends_short n to (t ∷ v) y (inl p) = short_of to (t ∷ v) y (halted_none to t v p.0) (sym p.1)
ends_short n to (t ∷ v) y (inr p) = let e : short y ≡ deep (t ∷ v) = p.3 in absurd (cc)

pub record EndsDeep (n : ℕ) (to : State) (left y : List Symbol) : Type 0 where
  pub token : Symbol
  pub more : List Symbol
  pub is : y ≡ token ∷ more
  pub left_is : left ≡ y
  pub next : State
  pub goes : advance to token ≡ Some next
  pub under : n < depth_at to token

not_deep : (r : Reading) (y : List Symbol) → deep y ≡ outcome r → ⊥
not_deep r y h = not_deep_by r.missing r.tree r.unread y h
  where
    not_deep_by : (missing : List Symbol) (tree : Form) (unread y : List Symbol) → deep y ≡ outcome_of missing tree unread → ⊥
    not_deep_by [] tree unread y h = cc
    not_deep_by (t ∷ missing) tree unread y h = cc

pub ends_deep : (n : ℕ) (to : State) (left y : List Symbol) → EndsIn n to left (deep y) → EndsDeep n to left y
ends_deep n to [] y h = absurd (not_deep (halt to []) y h)
ends_deep n to (t ∷ v) y (inl p) = absurd (not_deep (halt to (t ∷ v)) y p.1)
ends_deep n to (t ∷ v) y (inr p) =
    let e : y ≡ t ∷ v = cc (p.3) in
    record { token = t; more = v; is = e; left_is = sym e; next = p.0; goes = p.1; under = p.2 }

-- ---- lists

cancel_length : (u v y : List Symbol) → u ++ y ≡ v ++ y → length u ≡ length v
cancel_length u v y h = omega (arith, length-append {A = Symbol}, ap length h)

cancel_by : (u v y : List Symbol) → length u ≡ length v → u ++ y ≡ v ++ y → u ≡ v
cancel_by [] [] y n h = refl
cancel_by [] (b ∷ v) y n h = absurd (omega arith)
cancel_by (a ∷ u) [] y n h = absurd (omega arith)
cancel_by (a ∷ u) (b ∷ v) y n h =
    let tails : u ++ y ≡ v ++ y = cc in
    let heads : a ≡ b = cc in
    let k : length u ≡ length v = omega arith in
    ap (λ z. z ∷ u) heads ∙ ap (λ z. b ∷ z) (cancel_by u v y k tails)

pub cancel : (u v y : List Symbol) → u ++ y ≡ v ++ y → u ≡ v
cancel u v y h = cancel_by u v y (cancel_length u v y h) h

-- ---- nesting, by what was read

abbrev pub semicolon : List Symbol
semicolon = punct mark.Semicolon ∷ []

-- every tree ends in front of `;`
ends_semicolon : (e : Form) → EndsBefore e semicolon
ends_semicolon e = record { draws_nothing = refl; no_arrow = λ h. cc; after_bare = λ h. refl }

-- the nesting of a tree begins with that of the symbols read
pub begun_nests : (n : ℕ) (done : List Symbol) (to : State) (e : Form) (more : List Symbol) (r : Reads n (expects []) done to) → Spells e (done ++ more)
    → nests e 0 [] ≡ r.depths ++ depths_read to (more ++ semicolon)
begun_nests n done to e more r h =
    sym (nesting_agrees e semicolon h.0 (ends_semicolon e))
    ∙ ap (depths_read (expects [])) (spell_append e [] semicolon ∙ ap (λ z. z ++ semicolon) h.1 ∙ append_assoc done more semicolon)
    ∙ r.counts (more ++ semicolon)

-- no state goes on with `;`
semicolon_closed : (e : Form) (f : OpenForm) (s : OpenForms) → closed ender.Semicolon e f s ≡ None
semicolon_closed e (enclosed_open enclosure) s = refl
semicolon_closed e (items_open h items lead) s = refl
semicolon_closed e yield_open s = refl
semicolon_closed e _ s = refl

semicolon_closes : (e : Form) (s : OpenForms) → closes_in ender.Semicolon e s ≡ None
semicolon_closes e [] = refl
semicolon_closes e (f ∷ s) = semicolon_closed e f s

semicolon_goes : (e : Form) (s : OpenForms) → goes_on e s (closes ender.Semicolon) ≡ None
semicolon_goes e s = semicolon_closes (released false 0 s e).tree (released false 0 s e).stack

semicolon_class : (class : Class Nothing) (s : OpenForms) → class_step class s (closes ender.Semicolon) ≡ None
semicolon_class (class_found steps) s = semicolon_goes (new tt (class_found steps)) s
semicolon_class (class_name spot text) s = semicolon_goes (new tt (class_name spot text)) s
semicolon_class (class_static spot) s = semicolon_goes (new tt (class_static spot)) s

pub semicolon_none : (m : State) → advance m (punct mark.Semicolon) ≡ None
semicolon_none (expects s) = refl
semicolon_none (holds e s) = semicolon_goes e s
semicolon_none (past_exit s) = semicolon_goes (exit tt) s
semicolon_none (past_static (instance_of_open l ∷ s)) = semicolon_goes (instance_of_static l tt) s
semicolon_none (past_class class s) = semicolon_class class s
semicolon_none (past_yield s) = semicolon_goes (yield_nothing tt) s
semicolon_none (past_arrow thin e s) = refl
semicolon_none (past_arrow colons e s) = refl
semicolon_none _ = refl

semicolon_depths : (m : State) → depths_read m semicolon ≡ []
semicolon_depths m = ap (λ o. noting o (depth_at m (punct mark.Semicolon)) (λ y. depths_read y [])) (semicolon_none m)

-- ---- numbers of lists

pub within_most : (n depth : ℕ) (ds : List ℕ) → n + depth ≡ 128 → AllAtMost n ds → AllWithin depth ds
within_most n depth [] is h = tt
within_most n depth (d ∷ ds) is h = (omega (arith, h.0), within_most n depth ds is h.1)

pub take_front : (ds es : List ℕ) (k : ℕ) → length ds ≡ k → take k (ds ++ es) ≡ ds
take_front ds es k is = ap (λ j. take j (ds ++ es)) (sym is) ∙ take-append_seam ds es

-- ---- what was read begins an expression, and no more does

pub longer_begins : (u : List Symbol) (t : Symbol) (v : List Symbol) → BeginsExpression (u ++ t ∷ v) → BeginsExpression (u ++ t ∷ [])
longer_begins u t v b = record {
  tree = b.tree;
  rest = v ++ b.rest;
  spelled = (b.spelled.0, b.spelled.1 ∙ append_assoc u (t ∷ v) b.rest ∙ sym (append_assoc u (t ∷ []) (v ++ b.rest)));
}

-- the symbols before the unread ones begin an expression
begins_before : (w u y : List Symbol) → w ≡ u ++ y → (read w).unread ≡ y → BeginsExpression u
begins_before w u y split unread =
    let b = reading_begins w in
    let same : b.done ≡ u = cancel b.done u y (ap (λ z. b.done ++ z) (sym unread) ∙ sym b.whole ∙ split) in
    record { tree = (read w).tree; rest = (read w).missing; spelled = (b.proper, b.spelled ∙ ap (λ z. z ++ (read w).missing) same) }

no_more : (w u y : List Symbol) (t : Symbol) (v : List Symbol) → w ≡ u ++ y → (read w).unread ≡ y → y ≡ t ∷ v → (x : List Symbol) → BeginsExpression (u ++ t ∷ x) → ⊥
no_more w u y t v split unread is x b =
    stops_exactly w u t v (split ∙ ap (λ z. u ++ z) is) (unread ∙ is) (longer_begins u t x b)

-- ---- a walk that ends with a tree

pub record WholeWalk (n : ℕ) (w u y : List Symbol) (f : Form) : Type 0 where
  pub spelled : Spells f u
  pub begins : BeginsExpression u
  pub most : (t : Symbol) (v x : List Symbol) → y ≡ t ∷ v → BeginsExpression (u ++ t ∷ x) → ⊥
  pub shallow : (depth : ℕ) → n + depth ≡ 128 → AllWithin depth (nests f 0 [])

pub whole_walk : (n : ℕ) (w u y : List Symbol) (f : Form) → w ≡ u ++ y → walk n (expects []) w ≡ whole f y → WholeWalk n w u y f
whole_walk n w u y f split h =
    let k = walks n (expects []) w in
    let e = ends_whole n k.to k.left f y (subst (λ o. EndsIn n k.to k.left o) h k.ends) in
    let done_is : k.done ≡ u = cancel k.done u y (ap (λ z. k.done ++ z) (sym e.left_is) ∙ sym k.split ∙ split) in
    let at_end : read w ≡ halt k.to k.left = ap read k.split ∙ k.reads.leads k.left ∙ e.halted.same in
    let tree_is : (read w).tree ≡ f = ap (λ r. r.tree) at_end ∙ e.tree in
    let missing_is : (read w).missing ≡ [] = ap (λ r. r.missing) at_end ∙ e.missing in
    let unread_is : (read w).unread ≡ y = ap (λ r. r.unread) at_end ∙ halt_unread k.to k.left ∙ e.left_is in
    let b = reading_begins w in
    let same : b.done ≡ u = cancel b.done u y (ap (λ z. b.done ++ z) (sym unread_is) ∙ sym b.whole ∙ split) in
    let spells : Spells f u = (subst Proper tree_is b.proper, ap (λ z. spell z []) (sym tree_is) ∙ b.spelled ∙ ap (λ z. b.done ++ z) missing_is ∙ append-nil b.done ∙ same) in
    record {
      spelled = spells;
      begins = begins_before w u y split unread_is;
      most = λ t v x is. no_more w u y t v split unread_is is x;
      shallow = λ depth sum.
          let ns = begun_nests n k.done k.to f [] k.reads (spells.0, spells.1 ∙ sym done_is ∙ sym (append-nil k.done)) in
          subst (AllWithin depth) (sym (ns ∙ ap (λ z. k.reads.depths ++ z) (semicolon_depths k.to) ∙ append-nil k.reads.depths)) (within_most n depth k.reads.depths sum k.reads.shallow);
    }

-- ---- a walk that something is missing behind

pub record ShortWalk (n : ℕ) (w u y : List Symbol) : Type 0 where
  pub begins : BeginsExpression u
  pub most : (t : Symbol) (v x : List Symbol) → y ≡ t ∷ v → BeginsExpression (u ++ t ∷ x) → ⊥
  pub unspelled : (e : Form) → Spells e u → (ends_bare e ≡ true → ends_yield (head_continuation y) ≡ true) → ⊥
  pub shallow : (depth k : ℕ) (e : Form) (more : List Symbol) → n + depth ≡ 128 → length u ≡ k → Spells e (u ++ more) → AllWithin depth (take k (nests e 0 []))

halt_missing : (m : State) (w : List Symbol) → (halt m []).missing ≡ [] → (halt m w).missing ≡ []
halt_missing (past_yield s) w h = absurd (cc)
halt_missing (past_static (instance_of_open l ∷ s)) w h = h
halt_missing _ w h = h

yield_closes : (x : Continuation) → ends_yield x ≡ true → (strength_of x ≡ 0) × (is_arrow x ≡ false)
yield_closes (closes ender.Paren) h = (refl, refl)
yield_closes (closes ender.Bracket) h = (refl, refl)
yield_closes (closes ender.Comma) h = (refl, refl)
yield_closes (closes ender.Semicolon) h = (refl, refl)
yield_closes (closes ender.Brace) h = absurd (cc)
yield_closes (closes ender.DoubleArrow) h = absurd (cc)
yield_closes (closes ender.Colon) h = absurd (cc)
yield_closes (closes ender.EndPart) h = absurd (cc)
yield_closes (draws d) h = absurd (cc)
yield_closes neither h = absurd (cc)

unspelled_by : (b : Bool) (u y : List Symbol) (to : State) (left : List Symbol) (e : Form) → ends_bare e ≡ b → Spells e u → read u ≡ halt to [] → read (u ++ y) ≡ halt to left → (halt to left).missing ≢ []
    → (ends_bare e ≡ true → ends_yield (head_continuation y) ≡ true) → ⊥
unspelled_by false u y to left e is spells alone behind lacks look =
    let back : read (spell e []) ≡ record { tree = e; missing = []; unread = [] } = reads_back e [] spells.0 (record { draws_nothing = refl; no_arrow = λ h. absurd (cc); after_bare = λ h. absurd (cc) }) in
    let none : (halt to []).missing ≡ [] = ap (λ r. r.missing) (sym alone) ∙ ap (λ z. (read z).missing) (sym spells.1) ∙ ap (λ r. r.missing) back in
    lacks (halt_missing to left none)
unspelled_by true u y to left e is spells alone behind lacks look =
    let closed_by = yield_closes (head_continuation y) (look is) in
    unfinished u y e spells (record { draws_nothing = closed_by.0; no_arrow = λ h. let g = closed_by.1 in absurd (cc); after_bare = look }) (λ h. lacks (ap (λ r. r.missing) (sym behind) ∙ h))

pub short_walk : (n : ℕ) (w u y : List Symbol) → w ≡ u ++ y → walk n (expects []) w ≡ short y → ShortWalk n w u y
short_walk n w u y split h =
    let k = walks n (expects []) w in
    let e = ends_short n k.to k.left y (subst (λ o. EndsIn n k.to k.left o) h k.ends) in
    let done_is : k.done ≡ u = cancel k.done u y (ap (λ z. k.done ++ z) (sym e.left_is) ∙ sym k.split ∙ split) in
    let at_end : read w ≡ halt k.to k.left = ap read k.split ∙ k.reads.leads k.left ∙ e.halted.same in
    let unread_is : (read w).unread ≡ y = ap (λ r. r.unread) at_end ∙ halt_unread k.to k.left ∙ e.left_is in
    let alone : read u ≡ halt k.to [] = ap read (sym done_is ∙ sym (append-nil k.done)) ∙ k.reads.leads [] in
    record {
      begins = begins_before w u y split unread_is;
      most = λ t v x is. no_more w u y t v split unread_is is x;
      unspelled = λ f spells look. unspelled_by (ends_bare f) u y k.to k.left f refl spells alone (ap read (sym split) ∙ at_end) e.missing look;
      shallow = λ depth j f more sum len spells.
          let ns = begun_nests n k.done k.to f more k.reads (spells.0, spells.1 ∙ ap (λ z. z ++ more) (sym done_is)) in
          subst (AllWithin depth) (sym (ap (take j) ns ∙ take_front k.reads.depths (depths_read k.to (more ++ semicolon)) j (k.reads.count ∙ ap length done_is ∙ len))) (within_most n depth k.reads.depths sum k.reads.shallow);
    }

-- ---- a walk that ends in front of a symbol that is nested too deep

pub record DeepWalk (n : ℕ) (u : List Symbol) (t : Symbol) : Type 0 where
  pub begins : BeginsExpression (u ++ t ∷ [])
  pub sinks : (depth k : ℕ) (e : Form) (more : List Symbol) → n + depth ≡ 128 → length u ≡ k → Spells e ((u ++ t ∷ []) ++ more) → SinksAt depth k (nests e 0 [])

first_behind : (ds es : List ℕ) (d k : ℕ) → length ds ≡ k → get_or (ds ++ d ∷ es) k 0 ≡ d
first_behind [] es d k is = ap (λ j. get_or (d ∷ es) j 0) (sym is)
first_behind (x ∷ ds) es d k is = ap (λ j. get_or (x ∷ (ds ++ d ∷ es)) j 0) (sym is) ∙ first_behind ds es d (length ds) refl

pub deep_walk : (n : ℕ) (w u : List Symbol) (t : Symbol) (v : List Symbol) → w ≡ u ++ t ∷ v → walk n (expects []) w ≡ deep (t ∷ v) → DeepWalk n u t
deep_walk n w u t v split h =
    let k = walks n (expects []) w in
    let e = ends_deep n k.to k.left (t ∷ v) (subst (λ o. EndsIn n k.to k.left o) h k.ends) in
    let same : e.token ≡ t = let is = e.is in cc in
    let done_is : k.done ≡ u = cancel k.done u (t ∷ v) (ap (λ z. k.done ++ z) (sym e.left_is) ∙ sym k.split ∙ split) in
    let goes : advance k.to t ≡ Some e.next = ap (advance k.to) (sym same) ∙ e.goes in
    let reads : read (u ++ t ∷ []) ≡ halt e.next [] = ap (λ z. read (z ++ t ∷ [])) (sym done_is) ∙ k.reads.leads (t ∷ []) ∙ ap (λ o. or_halt o (λ y. read_from y []) (halt k.to (t ∷ []))) goes in
    let b = reading_begins (u ++ t ∷ []) in
    let all : b.done ≡ u ++ t ∷ [] = sym (append-nil b.done) ∙ ap (λ z. b.done ++ z) (sym (ap (λ r. r.unread) reads ∙ halt_unread e.next [])) ∙ sym b.whole in
    record {
      begins = record { tree = (read (u ++ t ∷ [])).tree; rest = (read (u ++ t ∷ [])).missing; spelled = (b.proper, b.spelled ∙ ap (λ z. z ++ (read (u ++ t ∷ [])).missing) all) };
      sinks = λ depth j f more sum len spells.
          let ns : nests f 0 [] ≡ k.reads.depths ++ depths_read k.to ((t ∷ more) ++ semicolon) =
          begun_nests n k.done k.to f (t ∷ more) k.reads (spells.0, spells.1 ∙ append_assoc u (t ∷ []) more ∙ ap (λ z. z ++ t ∷ more) (sym done_is)) in
          let count : length k.reads.depths ≡ j = k.reads.count ∙ ap length done_is ∙ len in
          let here : depths_read k.to ((t ∷ more) ++ semicolon) ≡ depth_at k.to t ∷ depths_read e.next (more ++ semicolon) =
          ap (λ o. noting o (depth_at k.to t) (λ y. depths_read y (more ++ semicolon))) goes in
          let whole_is = ns ∙ ap (λ z. k.reads.depths ++ z) here in (
            subst (AllWithin depth) (sym (ap (take j) whole_is ∙ take_front k.reads.depths (depth_at k.to t ∷ depths_read e.next (more ++ semicolon)) j count)) (within_most n depth k.reads.depths sum k.reads.shallow),
            omega (arith, ap (λ z. get_or z j 0) whole_is, first_behind k.reads.depths (depths_read e.next (more ++ semicolon)) (depth_at k.to t) j count, ap (depth_at k.to) same, e.under),
          );
    }
