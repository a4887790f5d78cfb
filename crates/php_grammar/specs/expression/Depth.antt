-- How deep a symbol is nested, by what was read before it.
use Rattle.std.specs.Prelude.{ℕ, ◌+◌, Bool, nat_lt, Option, Some, None, List, [], ◌∷◌}
use Rattle.php_ast.specs.Symbol.{Symbol}
use Rattle.php_ast.specs.Power.{binary_row}
use Rattle.php_ast.specs.expression.Nesting.{right_depth}
use Rattle.php_grammar.specs.expression.Role.{Continuation, continuation, strength_of, is_arrow, ends_yield, is_ampersand, is_colon}
use Rattle.php_grammar.specs.expression.Machine.{OpenForm, else_open, short_open, binary_open, instance_of_open, OpenForms, State, expects, holds, holds_call, due_enclosed, due_listed, past_items, past_value, past_exit, past_exit_paren, past_static, past_static_colons, past_template, past_index, past_arrow, past_new, past_class, past_step, past_question, past_assign, past_yield, ends_at, pick, advance}

-- what is in an open form is one deeper, but for the right sides of operators that don't group to the right
abbrev pub deepened : OpenForm → ℕ → ℕ
deepened (else_open c a) d = d
deepened (short_open c) d = d
deepened (instance_of_open l) d = d
deepened (binary_open op l) d = right_depth (binary_row op).grouping + d
deepened _ d = 1 + d

abbrev pub depth : OpenForms → ℕ
depth [] = 0
depth (f ∷ s) = deepened f (depth s)

-- the forms in which a symbol goes on
abbrev pub kept : Bool → ℕ → OpenForms → OpenForms
kept arrow n [] = []
kept arrow n (f ∷ s) = pick (nat_lt n (ends_at arrow f)) (kept arrow n s) (f ∷ s)

-- behind an expression
abbrev pub depth_behind : OpenForms → Continuation → ℕ
depth_behind s x = depth (kept (is_arrow x) (strength_of x) s)

abbrev pub static_depth : OpenForms → Continuation → ℕ
static_depth (instance_of_open l ∷ s) x = depth_behind s x
static_depth s x = depth s

-- of a symbol that is read in a state
abbrev pub depth_at : State → Symbol → ℕ
depth_at (expects s) t = depth s
depth_at (holds e s) t = depth_behind s (continuation t)
depth_at (holds_call e s) t = depth s
depth_at (due_enclosed enclosure s) t = depth s
depth_at (due_listed listing s) t = depth s
depth_at (past_items h items s) t = 1 + depth s
depth_at (past_value h items k s) t = 1 + depth s
depth_at (past_exit s) t = depth_behind s (continuation t)
depth_at (past_exit_paren s) t = 1 + depth s
depth_at (past_static s) t = static_depth s (continuation t)
depth_at (past_static_colons s) t = depth s
depth_at (past_template pieces s) t = depth s
depth_at (past_index e s) t = 1 + depth s
depth_at (past_arrow arrow e s) t = depth s
depth_at (past_new s) t = depth s
depth_at (past_class class s) t = depth_behind s (continuation t)
depth_at (past_step steps s) t = depth s
depth_at (past_question c s) t = pick (is_colon t) (depth s) (1 + depth s)
depth_at (past_assign l s) t = pick (is_ampersand t) (depth s) (1 + depth s)
depth_at (past_yield s) t = pick (ends_yield (continuation t)) (depth_behind s (continuation t)) (1 + depth s)

-- the nesting of each symbol that a reading takes
abbrev pub noting : Option State → ℕ → (State → List ℕ) → List ℕ
noting (Some m) n f = n ∷ f m
noting None n f = []

abbrev pub depths_read : State → List Symbol → List ℕ
depths_read m [] = []
depths_read m (t ∷ w) = noting (advance m t) (depth_at m t) (λ n. depths_read n w)
