-- The nesting inside a machine, counted from what is around it.
use Rattle.std.proofs.Common.{◌≡◌, ℕ, ◌+◌, Option, Some, None, List, [], ◌∷◌, refl, sym, ◌∙◌, ap}
use Rattle.php_ast.specs.Symbol.{Symbol}
use Rattle.php_ast.specs.expression.Spelling.{spell}
use Rattle.php_ast.specs.expression.Proper.{Proper}
use Rattle.php_ast.specs.expression.Nesting.{nests}
use Rattle.php_grammar.specs.expression.Machine.{Form, State, expects, advance, halt, or_halt, read_from}
use Rattle.php_grammar.specs.expression.Depth.{depth_at, noting, depths_read}
use Rattle.php_grammar.specs.expression.Laws.{EndsBefore}
use Rattle.php_grammar.specs.Run.{either, if_some, ReadingOf, reading, if_whole, or_halted, run_of, whole_before, through_expression}
use Rattle.php_grammar.specs.TooDeep.{taken, depths_taken, depth_inside}
use Rattle.php_grammar.proofs.expression.LawProofs.{halt_unread, reads_back, nesting_agrees}
use Rattle.php_grammar.proofs.Inside.{Reader, whole_here}
use Rattle.php_grammar.proofs.Machines.{Halts, Holds, IsSome, whole_in, same_head, same_tail}

-- the depths, so much deeper, and others behind them
abbrev pub shifted : ℕ → List ℕ → List ℕ → List ℕ
shifted k [] w = w
shifted k (n ∷ ns) w = (n + k) ∷ shifted k ns w

-- ---- an expression inside

-- a machine that reads an expression, which counts its nesting from a depth
pub record Counts (M : Type 0) (step : M → Symbol → Option M) (depth : M → Symbol → ℕ) (r : Reader M step) (k : ℕ) : Type 0 where
  pub counts : (m : State) (t : Symbol) → depth (r.on m) t ≡ depth_inside (advance m t) (depth_at m t) k

inside_by : {M : Type 0} (step : M → Symbol → Option M) (depth : M → Symbol → ℕ) (r : Reader M step) (k : ℕ) (o : Option State) (m : State) (x : Symbol) (w : List Symbol) (e : Form) (t : Symbol)
    (v : List Symbol) (n : M) → r.ended t e ≡ Some n
    → ((q : State) → read_from q w ≡ record { tree = e; missing = []; unread = t ∷ v } → depths_taken step depth (r.on q) w ≡ shifted k (depths_read q w) (k ∷ depths_taken step depth n v))
    → or_halt o (λ q. read_from q w) (halt m (x ∷ w)) ≡ record { tree = e; missing = []; unread = t ∷ v }
    → taken (either (if_some o (λ q. Some (r.on q))) (if_some (whole_before m x) (r.ended x))) (depth_inside o (depth_at m x) k) (λ q. depths_taken step depth q w)
    ≡ shifted k (noting o (depth_at m x) (λ q. depths_read q w)) (k ∷ depths_taken step depth n v)
inside_by step depth r k (Some q) m x w e t v n is next h = ap (λ u. (depth_at m x + k) ∷ u) (next q h)
inside_by step depth r k None m x w e t v n is next h =
    let all : x ∷ w ≡ t ∷ v = sym (halt_unread m (x ∷ w)) ∙ ap (λ u. u.unread) h in
    let first : x ≡ t = same_head x t w v all in
    let rest : w ≡ v = same_tail x t w v all in
    let whole : whole_before m x ≡ Some e = whole_here m x w e (h ∙ ap (λ u. record { tree = e; missing = []; unread = u }) (sym all)) in
    ap (λ u. taken (if_some u (r.ended x)) k (λ q. depths_taken step depth q w)) whole
    ∙ ap (λ u. taken u k (λ q. depths_taken step depth q w)) (ap (λ y. r.ended y e) first ∙ is) ∙ ap (λ u. k ∷ depths_taken step depth n u) rest

inside_depths : {M : Type 0} (step : M → Symbol → Option M) (depth : M → Symbol → ℕ) (r : Reader M step) (k : ℕ) (c : Counts M step depth r k) (w : List Symbol) (m : State) (e : Form) (t : Symbol)
    (v : List Symbol) (n : M) → r.ended t e ≡ Some n → read_from m w ≡ record { tree = e; missing = []; unread = t ∷ v }
    → depths_taken step depth (r.on m) w ≡ shifted k (depths_read m w) (k ∷ depths_taken step depth n v)
inside_depths step depth r k c [] m e t v n is h = let none : [] ≡ t ∷ v = sym (halt_unread m []) ∙ ap (λ u. u.unread) h in cc
inside_depths step depth r k c (x ∷ w) m e t v n is h =
    ap (λ u. taken u (depth (r.on m) x) (λ q. depths_taken step depth q w)) (r.steps m x)
    ∙ ap (λ d. taken (through_expression m x r.on (r.ended x)) d (λ q. depths_taken step depth q w)) (c.counts m x)
    ∙ inside_by step depth r k (advance m x) m x w e t v n is (λ q. inside_depths step depth r k c w q e t v n is) h

pub expression_depths : {M : Type 0} (step : M → Symbol → Option M) (depth : M → Symbol → ℕ) (r : Reader M step) (k : ℕ) (c : Counts M step depth r k) (e : Form) (t : Symbol) (v : List Symbol) (n : M)
    → Proper e → EndsBefore e (t ∷ v) → r.ended t e ≡ Some n
    → depths_taken step depth (r.on (expects [])) (spell e (t ∷ v)) ≡ shifted k (nests e 0 []) (k ∷ depths_taken step depth n v)
expression_depths step depth r k c e t v n p h is =
    inside_depths step depth r k c (spell e (t ∷ v)) (expects []) e t v n is (reads_back e (t ∷ v) p h)
    ∙ ap (λ u. shifted k u (k ∷ depths_taken step depth n v)) (nesting_agrees e (t ∷ v) p h)

-- ---- a machine inside

pub record CountsInside (M N A : Type 0) (inner : M → Symbol → Option M) (stop : M → List Symbol → ReadingOf A) (step : N → Symbol → Option N) (r : Holds M N A inner stop step)
    (depth_in : M → Symbol → ℕ) (depth : N → Symbol → ℕ) (k : ℕ) : Type 0 where
  pub counts : (m : M) (t : Symbol) → depth (r.on m) t ≡ depth_inside (inner m t) (depth_in m t) k

machine_by : {M N A : Type 0} (inner : M → Symbol → Option M) (stop : M → List Symbol → ReadingOf A) (step : N → Symbol → Option N) (halts : Halts M A stop) (r : Holds M N A inner stop step)
    (depth_in : M → Symbol → ℕ) (depth : N → Symbol → ℕ) (k : ℕ) (o : Option M) (m : M) (x : Symbol) (w : List Symbol) (a : A) (t : Symbol) (v : List Symbol) (n : N) → r.ended t a ≡ Some n
    → ((q : M) → run_of inner stop q w ≡ reading a [] (t ∷ v) → depths_taken step depth (r.on q) w ≡ shifted k (depths_taken inner depth_in q w) (k ∷ depths_taken step depth n v))
    → or_halted o (λ q. run_of inner stop q w) (stop m (x ∷ w)) ≡ reading a [] (t ∷ v)
    → taken (either (if_some o (λ q. Some (r.on q))) (if_some (if_whole (stop m [])) (r.ended x))) (depth_inside o (depth_in m x) k) (λ q. depths_taken step depth q w)
    ≡ shifted k (taken o (depth_in m x) (λ q. depths_taken inner depth_in q w)) (k ∷ depths_taken step depth n v)
machine_by inner stop step halts r depth_in depth k (Some q) m x w a t v n is next h = ap (λ u. (depth_in m x + k) ∷ u) (next q h)
machine_by inner stop step halts r depth_in depth k None m x w a t v n is next h =
    let all : x ∷ w ≡ t ∷ v = sym (halts.unread m (x ∷ w)) ∙ ap (λ u. u.unread) h in
    let first : x ≡ t = same_head x t w v all in
    let rest : w ≡ v = same_tail x t w v all in
    ap (λ u. taken (if_some u (r.ended x)) k (λ q. depths_taken step depth q w)) (whole_in stop halts m (x ∷ w) a (t ∷ v) h)
    ∙ ap (λ u. taken u k (λ q. depths_taken step depth q w)) (ap (λ y. r.ended y a) first ∙ is) ∙ ap (λ u. k ∷ depths_taken step depth n u) rest

pub machine_depths : {M N A : Type 0} (inner : M → Symbol → Option M) (stop : M → List Symbol → ReadingOf A) (step : N → Symbol → Option N) (halts : Halts M A stop) (r : Holds M N A inner stop step)
    (depth_in : M → Symbol → ℕ) (depth : N → Symbol → ℕ) (k : ℕ) (c : CountsInside M N A inner stop step r depth_in depth k) (w : List Symbol) (m : M) (a : A) (t : Symbol) (v : List Symbol) (n : N)
    → r.ended t a ≡ Some n → run_of inner stop m w ≡ reading a [] (t ∷ v)
    → depths_taken step depth (r.on m) w ≡ shifted k (depths_taken inner depth_in m w) (k ∷ depths_taken step depth n v)
machine_depths inner stop step halts r depth_in depth k c [] m a t v n is h = let none : [] ≡ t ∷ v = sym (halts.unread m []) ∙ ap (λ u. u.unread) h in cc
machine_depths inner stop step halts r depth_in depth k c (x ∷ w) m a t v n is h =
    ap (λ u. taken u (depth (r.on m) x) (λ q. depths_taken step depth q w)) (r.steps m x)
    ∙ ap (λ d. taken (either (if_some (inner m x) (λ q. Some (r.on q))) (if_some (if_whole (stop m [])) (r.ended x))) d (λ q. depths_taken step depth q w)) (c.counts m x)
    ∙ machine_by inner stop step halts r depth_in depth k (inner m x) m x w a t v n is (λ q. machine_depths inner stop step halts r depth_in depth k c w q a t v n is) h

-- at the end of all symbols
end_by : {M N A : Type 0} (inner : M → Symbol → Option M) (stop : M → List Symbol → ReadingOf A) (step : N → Symbol → Option N) (halts : Halts M A stop) (r : Holds M N A inner stop step)
    (depth_in : M → Symbol → ℕ) (depth : N → Symbol → ℕ) (k : ℕ) (o : Option M) (m : M) (x : Symbol) (w : List Symbol) (a : A)
    → ((q : M) → run_of inner stop q w ≡ reading a [] [] → depths_taken step depth (r.on q) w ≡ shifted k (depths_taken inner depth_in q w) [])
    → or_halted o (λ q. run_of inner stop q w) (stop m (x ∷ w)) ≡ reading a [] []
    → taken (either (if_some o (λ q. Some (r.on q))) (if_some (if_whole (stop m [])) (r.ended x))) (depth_inside o (depth_in m x) k) (λ q. depths_taken step depth q w)
    ≡ shifted k (taken o (depth_in m x) (λ q. depths_taken inner depth_in q w)) []
end_by inner stop step halts r depth_in depth k (Some q) m x w a next h = ap (λ u. (depth_in m x + k) ∷ u) (next q h)
end_by inner stop step halts r depth_in depth k None m x w a next h = let some : x ∷ w ≡ [] = sym (halts.unread m (x ∷ w)) ∙ ap (λ u. u.unread) h in cc

pub end_depths : {M N A : Type 0} (inner : M → Symbol → Option M) (stop : M → List Symbol → ReadingOf A) (step : N → Symbol → Option N) (halts : Halts M A stop) (r : Holds M N A inner stop step)
    (depth_in : M → Symbol → ℕ) (depth : N → Symbol → ℕ) (k : ℕ) (c : CountsInside M N A inner stop step r depth_in depth k) (w : List Symbol) (m : M) (a : A)
    → run_of inner stop m w ≡ reading a [] [] → depths_taken step depth (r.on m) w ≡ shifted k (depths_taken inner depth_in m w) []
end_depths inner stop step halts r depth_in depth k c [] m a h = refl
end_depths inner stop step halts r depth_in depth k c (x ∷ w) m a h =
    ap (λ u. taken u (depth (r.on m) x) (λ q. depths_taken step depth q w)) (r.steps m x)
    ∙ ap (λ d. taken (either (if_some (inner m x) (λ q. Some (r.on q))) (if_some (if_whole (stop m [])) (r.ended x))) d (λ q. depths_taken step depth q w)) (c.counts m x)
    ∙ end_by inner stop step halts r depth_in depth k (inner m x) m x w a (λ q. end_depths inner stop step halts r depth_in depth k c w q a) h

-- ---- without the state that follows

some_by : {M N A : Type 0} (inner : M → Symbol → Option M) (stop : M → List Symbol → ReadingOf A) (step : N → Symbol → Option N) (halts : Halts M A stop) (r : Holds M N A inner stop step)
    (depth_in : M → Symbol → ℕ) (depth : N → Symbol → ℕ) (k : ℕ) (c : CountsInside M N A inner stop step r depth_in depth k) (w : List Symbol) (m : M) (a : A) (t : Symbol) (v : List Symbol) (o : Option N)
    → r.ended t a ≡ o → IsSome o → run_of inner stop m w ≡ reading a [] (t ∷ v)
    → depths_taken step depth (r.on m) w ≡ shifted k (depths_taken inner depth_in m w) (taken o k (λ q. depths_taken step depth q v))
some_by inner stop step halts r depth_in depth k c w m a t v (Some n) is goes h = machine_depths inner stop step halts r depth_in depth k c w m a t v n is h
some_by inner stop step halts r depth_in depth k c w m a t v None is goes h = absurd goes

pub some_depths : {M N A : Type 0} (inner : M → Symbol → Option M) (stop : M → List Symbol → ReadingOf A) (step : N → Symbol → Option N) (halts : Halts M A stop) (r : Holds M N A inner stop step)
    (depth_in : M → Symbol → ℕ) (depth : N → Symbol → ℕ) (k : ℕ) (c : CountsInside M N A inner stop step r depth_in depth k) (w : List Symbol) (m : M) (a : A) (t : Symbol) (v : List Symbol)
    → IsSome (r.ended t a) → run_of inner stop m w ≡ reading a [] (t ∷ v)
    → depths_taken step depth (r.on m) w ≡ shifted k (depths_taken inner depth_in m w) (taken (r.ended t a) k (λ q. depths_taken step depth q v))
some_depths inner stop step halts r depth_in depth k c w m a t v goes h = some_by inner stop step halts r depth_in depth k c w m a t v (r.ended t a) refl goes h

-- where an inner machine begins with its first symbol, it was due before that
pub some_entered : {M N : Type 0} (o : Option M) (on : M → N) (other : Option N) (n k x : ℕ) (f : N → List ℕ) → IsSome o → x ≡ n + k
    → taken (if_some o (λ m. Some (on m))) x f ≡ taken (either (if_some o (λ m. Some (on m))) other) (depth_inside o n k) f
some_entered None on other n k x f h is = absurd h
some_entered (Some m) on other n k x f h is = ap (λ y. y ∷ f (on m)) is

-- a machine that ends with the inner one
wrap_by : {M N : Type 0} (inner : M → Symbol → Option M) (step : N → Symbol → Option N) (on : M → N) (depth_in : M → Symbol → ℕ) (depth : N → Symbol → ℕ) (o : Option M) (n : ℕ) (w : List Symbol)
    → ((q : M) → depths_taken step depth (on q) w ≡ depths_taken inner depth_in q w)
    → taken (if_some o (λ q. Some (on q))) n (λ q. depths_taken step depth q w) ≡ taken o n (λ q. depths_taken inner depth_in q w)
wrap_by inner step on depth_in depth None n w next = refl
wrap_by inner step on depth_in depth (Some q) n w next = ap (λ u. n ∷ u) (next q)

pub wrapped_depths : {M N : Type 0} (inner : M → Symbol → Option M) (step : N → Symbol → Option N) (on : M → N) (depth_in : M → Symbol → ℕ) (depth : N → Symbol → ℕ)
    → ((m : M) (t : Symbol) → step (on m) t ≡ if_some (inner m t) (λ q. Some (on q))) → ((m : M) (t : Symbol) → depth (on m) t ≡ depth_in m t)
    → (w : List Symbol) (m : M) → depths_taken step depth (on m) w ≡ depths_taken inner depth_in m w
wrapped_depths inner step on depth_in depth steps counts [] m = refl
wrapped_depths inner step on depth_in depth steps counts (t ∷ w) m =
    ap (λ u. taken u (depth (on m) t) (λ q. depths_taken step depth q w)) (steps m t)
    ∙ ap (λ d. taken (if_some (inner m t) (λ q. Some (on q))) d (λ q. depths_taken step depth q w)) (counts m t)
    ∙ wrap_by inner step on depth_in depth (inner m t) (depth_in m t) w (λ q. wrapped_depths inner step on depth_in depth steps counts w q)
