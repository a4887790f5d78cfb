-- A machine inside another one: what the reading of the inner machine says is what the outer one does with it.
use Rattle.std.proofs.Common.{◌≡◌, Option, Some, None, List, [], ◌∷◌, ◌++◌, refl, sym, ◌∙◌, ap}
use Rattle.php_ast.specs.Symbol.{Symbol}
use Rattle.php_grammar.specs.Run.{either, if_some, ReadingOf, reading, if_nothing, if_whole, inside, or_halted, run_of}

-- A machine whose halting leaves what is unread and looks at none of it.
pub record Halts (M A : Type 0) (stop : M → List Symbol → ReadingOf A) : Type 0 where
  pub unread : (m : M) (w : List Symbol) → (stop m w).unread ≡ w
  pub tree : (m : M) (w : List Symbol) → (stop m w).tree ≡ (stop m []).tree
  pub missing : (m : M) (w : List Symbol) → (stop m w).missing ≡ (stop m []).missing

whole_if : {A : Type 0} (missing : List Symbol) (tree a : A) → missing ≡ [] → tree ≡ a → if_nothing missing tree ≡ Some a
whole_if [] tree a h is = ap Some is
whole_if (t ∷ w) tree a h is = cc

pub whole_in : {M A : Type 0} (stop : M → List Symbol → ReadingOf A) (halts : Halts M A stop) (m : M) (w : List Symbol) (a : A) (v : List Symbol) → stop m w ≡ reading a [] v
    → if_whole (stop m []) ≡ Some a
whole_in stop halts m w a v h =
    whole_if (stop m []).missing (stop m []).tree a (sym (halts.missing m w) ∙ ap (λ r. r.missing) h) (sym (halts.tree m w) ∙ ap (λ r. r.tree) h)

pub same_head : (x t : Symbol) (w v : List Symbol) → x ∷ w ≡ t ∷ v → x ≡ t
same_head x t w v h = cc

pub same_tail : (x t : Symbol) (w v : List Symbol) → x ∷ w ≡ t ∷ v → w ≡ v
same_tail x t w v h = cc

-- ---- a machine that goes on behind the inner one

pub record Holds (M N A : Type 0) (inner : M → Symbol → Option M) (stop : M → List Symbol → ReadingOf A) (step : N → Symbol → Option N) : Type 0 where
  pub on : M → N
  pub ended : Symbol → A → Option N
  pub steps : (m : M) (t : Symbol) → step (on m) t ≡ either (if_some (inner m t) (λ n. Some (on n))) (if_some (if_whole (stop m [])) (ended t))

through_by : {M N A B : Type 0} (inner : M → Symbol → Option M) (stop : M → List Symbol → ReadingOf A) (step : N → Symbol → Option N) (outer : N → List Symbol → ReadingOf B)
    (halts : Halts M A stop) (r : Holds M N A inner stop step) (o : Option M) (m : M) (x : Symbol) (w : List Symbol) (a : A) (t : Symbol) (v : List Symbol) (n : N)
    → r.ended t a ≡ Some n → ((k : M) → run_of inner stop k w ≡ reading a [] (t ∷ v) → run_of step outer (r.on k) w ≡ run_of step outer n v)
    → or_halted o (λ k. run_of inner stop k w) (stop m (x ∷ w)) ≡ reading a [] (t ∷ v)
    → or_halted (either (if_some o (λ k. Some (r.on k))) (if_some (if_whole (stop m [])) (r.ended x))) (λ k. run_of step outer k w) (outer (r.on m) (x ∷ w)) ≡ run_of step outer n v
through_by inner stop step outer halts r (Some k) m x w a t v n is next h = next k h
through_by inner stop step outer halts r None m x w a t v n is next h =
    let all : x ∷ w ≡ t ∷ v = sym (halts.unread m (x ∷ w)) ∙ ap (λ u. u.unread) h in
    let first : x ≡ t = same_head x t w v all in
    let rest : w ≡ v = same_tail x t w v all in
    ap (λ u. or_halted (if_some u (r.ended x)) (λ k. run_of step outer k w) (outer (r.on m) (x ∷ w))) (whole_in stop halts m (x ∷ w) a (t ∷ v) h)
    ∙ ap (λ u. or_halted u (λ k. run_of step outer k w) (outer (r.on m) (x ∷ w))) (ap (λ y. r.ended y a) first ∙ is) ∙ ap (run_of step outer n) rest

-- what the inner machine reads is followed by a symbol that the outer one takes
pub through_machine : {M N A B : Type 0} (inner : M → Symbol → Option M) (stop : M → List Symbol → ReadingOf A) (step : N → Symbol → Option N) (outer : N → List Symbol → ReadingOf B)
    (halts : Halts M A stop) (r : Holds M N A inner stop step) (w : List Symbol) (m : M) (a : A) (t : Symbol) (v : List Symbol) (n : N)
    → r.ended t a ≡ Some n → run_of inner stop m w ≡ reading a [] (t ∷ v) → run_of step outer (r.on m) w ≡ run_of step outer n v
through_machine inner stop step outer halts r [] m a t v n is h = let none : [] ≡ t ∷ v = sym (halts.unread m []) ∙ ap (λ u. u.unread) h in cc
through_machine inner stop step outer halts r (x ∷ w) m a t v n is h =
    ap (λ u. or_halted u (λ k. run_of step outer k w) (outer (r.on m) (x ∷ w))) (r.steps m x)
    ∙ through_by inner stop step outer halts r (inner m x) m x w a t v n is (λ k. through_machine inner stop step outer halts r w k a t v n is) h

-- ---- without the state that follows

abbrev pub IsSome : {A : Type 0} → Option A → Type 0
IsSome None = ⊥
IsSome (Some x) = Unit {0}

some_by : {M N A B : Type 0} (inner : M → Symbol → Option M) (stop : M → List Symbol → ReadingOf A) (step : N → Symbol → Option N) (outer : N → List Symbol → ReadingOf B)
    (halts : Halts M A stop) (r : Holds M N A inner stop step) (w : List Symbol) (m : M) (a : A) (t : Symbol) (v : List Symbol) (b : ReadingOf B) (o : Option N)
    → r.ended t a ≡ o → IsSome o → run_of inner stop m w ≡ reading a [] (t ∷ v) → run_of step outer (r.on m) w ≡ or_halted o (λ k. run_of step outer k v) b
some_by inner stop step outer halts r w m a t v b (Some n) is goes h = through_machine inner stop step outer halts r w m a t v n is h
some_by inner stop step outer halts r w m a t v b None is goes h = absurd goes

pub through_some : {M N A B : Type 0} (inner : M → Symbol → Option M) (stop : M → List Symbol → ReadingOf A) (step : N → Symbol → Option N) (outer : N → List Symbol → ReadingOf B)
    (halts : Halts M A stop) (r : Holds M N A inner stop step) (w : List Symbol) (m : M) (a : A) (t : Symbol) (v : List Symbol) (b : ReadingOf B)
    → IsSome (r.ended t a) → run_of inner stop m w ≡ reading a [] (t ∷ v) → run_of step outer (r.on m) w ≡ or_halted (r.ended t a) (λ k. run_of step outer k v) b
through_some inner stop step outer halts r w m a t v b goes h = some_by inner stop step outer halts r w m a t v b (r.ended t a) refl goes h

-- where an inner machine begins with its first symbol, it was due before that
pub some_either : {M N A : Type 0} (o : Option M) (on : M → N) (other : Option N) (f : N → ReadingOf A) (a b : ReadingOf A) → IsSome o
    → or_halted (if_some o (λ m. Some (on m))) f a ≡ or_halted (either (if_some o (λ m. Some (on m))) other) f b
some_either None on other f a b h = absurd h
some_either (Some m) on other f a b h = refl

pub some_in : {M N : Type 0} (on : M → N) (o : Option M) → IsSome o → IsSome (if_some o (λ m. Some (on m)))
some_in on None h = absurd h
some_in on (Some m) h = tt

-- ---- at the end of all symbols

nothing_more : (w : List Symbol) → w ≡ [] → w ++ [] ≡ []
nothing_more [] h = refl
nothing_more (t ∷ w) h = cc

wrapped : {A B : Type 0} (f : A → B) (r : ReadingOf A) (a : A) (u : List Symbol) → r.tree ≡ a → r.missing ≡ [] → inside f r [] u ≡ reading (f a) [] u
wrapped f r a u is none = ap (λ x. reading (f x) (r.missing ++ []) u) is ∙ ap (λ x. reading (f a) x u) (nothing_more r.missing none)

end_by : {M N A B : Type 0} (inner : M → Symbol → Option M) (stop : M → List Symbol → ReadingOf A) (step : N → Symbol → Option N) (outer : N → List Symbol → ReadingOf B) (f : A → B)
    (halts : Halts M A stop) (r : Holds M N A inner stop step) (o : Option M) (m : M) (x : Symbol) (w : List Symbol) (a : A)
    → ((k : M) → run_of inner stop k w ≡ reading a [] [] → run_of step outer (r.on k) w ≡ reading (f a) [] [])
    → or_halted o (λ k. run_of inner stop k w) (stop m (x ∷ w)) ≡ reading a [] []
    → or_halted (either (if_some o (λ k. Some (r.on k))) (if_some (if_whole (stop m [])) (r.ended x))) (λ k. run_of step outer k w) (outer (r.on m) (x ∷ w)) ≡ reading (f a) [] []
end_by inner stop step outer f halts r (Some k) m x w a next h = next k h
end_by inner stop step outer f halts r None m x w a next h = let some : x ∷ w ≡ [] = sym (halts.unread m (x ∷ w)) ∙ ap (λ u. u.unread) h in cc

pub end_of_machine : {M N A B : Type 0} (inner : M → Symbol → Option M) (stop : M → List Symbol → ReadingOf A) (step : N → Symbol → Option N) (outer : N → List Symbol → ReadingOf B) (f : A → B)
    (halts : Halts M A stop) (r : Holds M N A inner stop step) (wraps : (m : M) → outer (r.on m) [] ≡ inside f (stop m []) [] []) (w : List Symbol) (m : M) (a : A)
    → run_of inner stop m w ≡ reading a [] [] → run_of step outer (r.on m) w ≡ reading (f a) [] []
end_of_machine inner stop step outer f halts r wraps [] m a h = wraps m ∙ wrapped f (stop m []) a [] (ap (λ u. u.tree) h) (ap (λ u. u.missing) h)
end_of_machine inner stop step outer f halts r wraps (x ∷ w) m a h =
    ap (λ u. or_halted u (λ k. run_of step outer k w) (outer (r.on m) (x ∷ w))) (r.steps m x)
    ∙ end_by inner stop step outer f halts r (inner m x) m x w a (λ k. end_of_machine inner stop step outer f halts r wraps w k a) h

-- ---- a machine that ends with the inner one

pub record Wraps (M N A B : Type 0) (inner : M → Symbol → Option M) (stop : M → List Symbol → ReadingOf A) (step : N → Symbol → Option N) (outer : N → List Symbol → ReadingOf B) : Type 0 where
  pub on : M → N
  pub whole : A → B
  pub steps : (m : M) (t : Symbol) → step (on m) t ≡ if_some (inner m t) (λ n. Some (on n))
  pub halts : (m : M) (w : List Symbol) → outer (on m) w ≡ inside whole (stop m w) [] w

wrap_by : {M N A B : Type 0} (inner : M → Symbol → Option M) (stop : M → List Symbol → ReadingOf A) (step : N → Symbol → Option N) (outer : N → List Symbol → ReadingOf B)
    (halts : Halts M A stop) (r : Wraps M N A B inner stop step outer) (o : Option M) (m : M) (x : Symbol) (w : List Symbol) (a : A) (v : List Symbol)
    → ((k : M) → run_of inner stop k w ≡ reading a [] v → run_of step outer (r.on k) w ≡ reading (r.whole a) [] v)
    → or_halted o (λ k. run_of inner stop k w) (stop m (x ∷ w)) ≡ reading a [] v
    → or_halted (if_some o (λ k. Some (r.on k))) (λ k. run_of step outer k w) (outer (r.on m) (x ∷ w)) ≡ reading (r.whole a) [] v
wrap_by inner stop step outer halts r (Some k) m x w a v next h = next k h
wrap_by inner stop step outer halts r None m x w a v next h =
    r.halts m (x ∷ w) ∙ wrapped r.whole (stop m (x ∷ w)) a (x ∷ w) (ap (λ u. u.tree) h) (ap (λ u. u.missing) h)
    ∙ ap (λ u. reading (r.whole a) [] u) (sym (halts.unread m (x ∷ w)) ∙ ap (λ u. u.unread) h)

pub wrapped_machine : {M N A B : Type 0} (inner : M → Symbol → Option M) (stop : M → List Symbol → ReadingOf A) (step : N → Symbol → Option N) (outer : N → List Symbol → ReadingOf B)
    (halts : Halts M A stop) (r : Wraps M N A B inner stop step outer) (w : List Symbol) (m : M) (a : A) (v : List Symbol)
    → run_of inner stop m w ≡ reading a [] v → run_of step outer (r.on m) w ≡ reading (r.whole a) [] v
wrapped_machine inner stop step outer halts r [] m a v h =
    r.halts m [] ∙ wrapped r.whole (stop m []) a [] (ap (λ u. u.tree) h) (ap (λ u. u.missing) h)
    ∙ ap (λ u. reading (r.whole a) [] u) (sym (halts.unread m []) ∙ ap (λ u. u.unread) h)
wrapped_machine inner stop step outer halts r (x ∷ w) m a v h =
    ap (λ u. or_halted u (λ k. run_of step outer k w) (outer (r.on m) (x ∷ w))) (r.steps m x)
    ∙ wrap_by inner stop step outer halts r (inner m x) m x w a v (λ k. wrapped_machine inner stop step outer halts r w k a v) h
