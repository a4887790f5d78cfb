-- What the machines of statements, signatures, members and scripts have in common. Each takes one symbol after the
-- other. Where one stands inside another, the inner one takes each symbol that it can, and one that it can't take ends
-- what it has read, if that is whole; the outer one then takes that symbol.
use Rattle.std.specs.Prelude.{Option, Some, None, List, [], ◌∷◌, ◌++◌}
use Rattle.php_ast.specs.Symbol.{Symbol}
use Rattle.php_grammar.specs.expression.Machine.{Form, State, Reading, halt, advance}

-- the first of two answers
abbrev pub either : {A : Type 0} → Option A → Option A → Option A
either (Some x) y = Some x
either None y = y

abbrev pub if_some : {A B : Type 0} → Option A → (A → Option B) → Option B
if_some (Some x) f = f x
if_some None f = None

-- ---- what has been read, ended as shortly as possible

-- a tree that the symbols read begin, the symbols missing from its spelling, and those that were not read
pub record ReadingOf (A : Type 0) : Type 0 where
  pub tree : A
  pub missing : List Symbol
  pub unread : List Symbol

abbrev pub reading : {A : Type 0} → A → List Symbol → List Symbol → ReadingOf A
reading tree missing unread = record { tree = tree; missing = missing; unread = unread }

-- the tree where nothing is missing
abbrev pub if_nothing : {A : Type 0} → List Symbol → A → Option A
if_nothing [] e = Some e
if_nothing (t ∷ w) e = None

abbrev pub if_whole : {A : Type 0} → ReadingOf A → Option A
if_whole r = if_nothing r.missing r.tree

-- with what stands around it, which needs more symbols
abbrev pub inside : {A B : Type 0} → (A → B) → ReadingOf A → List Symbol → List Symbol → ReadingOf B
inside f r rest unread = reading (f r.tree) (r.missing ++ rest) unread

-- ---- runs

abbrev pub or_halted : {M A : Type 0} → Option M → (M → ReadingOf A) → ReadingOf A → ReadingOf A
or_halted (Some m) f r = f m
or_halted None f r = r

abbrev pub run_of : {M A : Type 0} → (M → Symbol → Option M) → (M → List Symbol → ReadingOf A) → M → List Symbol → ReadingOf A
run_of step stop m [] = stop m []
run_of step stop m (t ∷ w) = or_halted (step m t) (λ n. run_of step stop n w) (stop m (t ∷ w))

-- ---- an expression inside

abbrev pub whole_in : Reading → Option Form
whole_in r = if_nothing r.missing r.tree

-- the expression that is whole in front of a symbol
abbrev pub whole_before : State → Symbol → Option Form
whole_before m t = whole_in (halt m (t ∷ []))

-- A symbol goes on with the expression, or ends it.
abbrev pub through_expression : {M : Type 0} → State → Symbol → (State → M) → (Form → Option M) → Option M
through_expression m t on ended = either (if_some (advance m t) (λ n. Some (on n))) (if_some (whole_before m t) ended)

abbrev pub around_reading : {A : Type 0} → (Form → A) → Reading → List Symbol → ReadingOf A
around_reading f r unread = reading (f r.tree) (r.missing ++ r.unread) unread

-- An expression ends as shortly as it can in front of the symbols that must follow.
abbrev pub around_expression : {A : Type 0} → (Form → A) → State → List Symbol → List Symbol → ReadingOf A
around_expression f m rest unread = around_reading f (halt m rest) unread
