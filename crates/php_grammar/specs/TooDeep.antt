-- The walk to the first token that is too deep, the same for expressions, statements, signatures and scripts: a machine
-- takes one symbol after the other, and the nesting of each that it takes is counted by what was read before it.
use Rattle.std.specs.Prelude.{◌≡◌, ℕ, suc, ◌+◌, nat_lt, Option, Some, None, List, [], ◌∷◌}
use Rattle.php_ast.specs.Symbol.{Symbol}
use Rattle.php_grammar.specs.expression.Machine.{State, pick, advance}
use Rattle.php_grammar.specs.expression.Depth.{depth_at, depths_read}

abbrev pub taken : {M : Type 0} → Option M → ℕ → (M → List ℕ) → List ℕ
taken (Some m) n f = n ∷ f m
taken None n f = []

-- the nesting of each symbol that a machine takes, by its step and by the nesting of a symbol in a state
abbrev pub depths_taken : {M : Type 0} → (M → Symbol → Option M) → (M → Symbol → ℕ) → M → List Symbol → List ℕ
depths_taken step depth m [] = []
depths_taken step depth m (t ∷ w) = taken (step m t) (depth m t) (λ n. depths_taken step depth n w)

-- The nesting of a symbol that an inner machine takes counts from what is around that machine; a symbol that ends what it
-- has read stands outside all of that.
abbrev pub depth_inside : {M : Type 0} → Option M → ℕ → ℕ → ℕ
depth_inside (Some m) n d = n + d
depth_inside None n d = d

-- For expressions this is the nesting that the laws speak of.
abbrev pub WalksAgree : Type 0
WalksAgree = (m : State) (w : List Symbol) → depths_taken advance depth_at m w ≡ depths_read m w

-- the greatest nesting that a token may have
abbrev pub nesting_limit : ℕ
nesting_limit = 128

abbrev pub one_further : Option ℕ → Option ℕ
one_further None = None
one_further (Some k) = Some (suc k)

-- The place, from 0, of the first token that is deeper than a limit.
abbrev pub first_above : ℕ → List ℕ → Option ℕ
first_above limit [] = None
first_above limit (n ∷ ns) = pick (nat_lt limit n) (Some 0) (one_further (first_above limit ns))

-- So many constructs are open around the first token.
abbrev pub deeper : ℕ → List ℕ → List ℕ
deeper d [] = []
deeper d (n ∷ ns) = (d + n) ∷ deeper d ns

-- The first token that is too deep, where so many constructs are open around the first token of all. `None` where none is.
abbrev pub first_too_deep : ℕ → List ℕ → Option ℕ
first_too_deep d ns = first_above nesting_limit (deeper d ns)
