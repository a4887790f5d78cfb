-- Where a machine stops, and what stands behind that place.
use Rattle.std.proofs.Common.{◌≡◌, ◌≢◌, ◌≤◌, Option, Some, None, List, [], ◌∷◌, ◌++◌, length, sym, ◌∙◌, ap, subst, arith, append_assoc, length-append}
use Rattle.php_ast.specs.Symbol.{Symbol}
use Rattle.php_grammar.specs.Run.{ReadingOf, or_halted, run_of}

-- A machine halts and leaves what is unread.
abbrev pub LeavesUnread : (M A : Type 0) → (M → List Symbol → ReadingOf A) → Type 0
LeavesUnread M A stop = (m : M) (w : List Symbol) → (stop m w).unread ≡ w

left_by : {M A : Type 0} (step : M → Symbol → Option M) (stop : M → List Symbol → ReadingOf A) → LeavesUnread M A stop → (o : Option M) (m : M) (t : Symbol) (w : List Symbol)
    → ((n : M) → length (run_of step stop n w).unread ≤ length w) → length (or_halted o (λ n. run_of step stop n w) (stop m (t ∷ w))).unread ≤ length (t ∷ w)
left_by step stop leaves None m t w h = omega (arith, ap length (leaves m (t ∷ w)))
left_by step stop leaves (Some n) m t w h = omega (arith, h n)

left_length : {M A : Type 0} (step : M → Symbol → Option M) (stop : M → List Symbol → ReadingOf A) → LeavesUnread M A stop → (w : List Symbol) (m : M) → length (run_of step stop m w).unread ≤ length w
left_length step stop leaves [] m = omega (arith, ap length (leaves m []))
left_length step stop leaves (t ∷ w) m = left_by step stop leaves (step m t) m t w (left_length step stop leaves w)

here_by : {M A : Type 0} (step : M → Symbol → Option M) (stop : M → List Symbol → ReadingOf A) → LeavesUnread M A stop → (o : Option M) (m : M) (t : Symbol) (v x : List Symbol)
    → (or_halted o (λ n. run_of step stop n v) (stop m (t ∷ v))).unread ≡ t ∷ v → (or_halted o (λ n. run_of step stop n x) (stop m (t ∷ x))).unread ≡ t ∷ x
here_by step stop leaves None m t v x h = leaves m (t ∷ x)
here_by step stop leaves (Some n) m t v x h =
    let e : length (run_of step stop n v).unread ≡ length (t ∷ v) = ap length h in absurd (omega (arith, e, left_length step stop leaves v n))

there_by : {M A : Type 0} (step : M → Symbol → Option M) (stop : M → List Symbol → ReadingOf A) → LeavesUnread M A stop → (o : Option M) (m : M) (y t : Symbol) (done v x : List Symbol)
    → (or_halted o (λ n. run_of step stop n (done ++ t ∷ v)) (stop m (y ∷ done ++ t ∷ v))).unread ≡ t ∷ v
    → ((n : M) → (run_of step stop n (done ++ t ∷ v)).unread ≡ t ∷ v → (run_of step stop n (done ++ t ∷ x)).unread ≡ t ∷ x)
    → (or_halted o (λ n. run_of step stop n (done ++ t ∷ x)) (stop m (y ∷ done ++ t ∷ x))).unread ≡ t ∷ x
there_by step stop leaves (Some n) m y t done v x h below = below n h
there_by step stop leaves None m y t done v x h below =
    let e : length (y ∷ (done ++ t ∷ v)) ≡ length (t ∷ v) = ap length (sym (leaves m (y ∷ (done ++ t ∷ v))) ∙ h) in
    absurd (omega (arith, e, length-append done (t ∷ v)))

-- where a reading stops doesn't depend on what stands behind that place
stops_there : {M A : Type 0} (step : M → Symbol → Option M) (stop : M → List Symbol → ReadingOf A) → LeavesUnread M A stop → (done : List Symbol) (m : M) (t : Symbol) (v x : List Symbol)
    → (run_of step stop m (done ++ t ∷ v)).unread ≡ t ∷ v → (run_of step stop m (done ++ t ∷ x)).unread ≡ t ∷ x
stops_there step stop leaves [] m t v x h = here_by step stop leaves (step m t) m t v x h
stops_there step stop leaves (y ∷ done) m t v x h = there_by step stop leaves (step m y) m y t done v x h (λ n. stops_there step stop leaves done n t v x)

-- So symbols that are read to their end don't go on from a place at which a reading stopped.
pub stops_exactly_by : {M A : Type 0} (step : M → Symbol → Option M) (stop : M → List Symbol → ReadingOf A) → LeavesUnread M A stop → (m : M) (w done : List Symbol) (t : Symbol) (v rest : List Symbol)
    → w ≡ done ++ t ∷ v → (run_of step stop m w).unread ≡ t ∷ v → (run_of step stop m ((done ++ t ∷ []) ++ rest)).unread ≡ [] → ⊥
stops_exactly_by step stop leaves m w done t v rest is h whole =
    let stops : (run_of step stop m (done ++ t ∷ rest)).unread ≡ t ∷ rest =
    stops_there step stop leaves done m t v rest (subst (λ u. (run_of step stop m u).unread ≡ t ∷ v) is h) in
    let none : t ∷ rest ≡ [] = sym stops ∙ ap (λ u. (run_of step stop m u).unread) (sym (append_assoc done (t ∷ []) rest)) ∙ whole in
    cc

-- A reading that lacks nothing isn't one that lacks something.
pub unfinished_by : {A : Type 0} (r : ReadingOf A) (a : A) (v : List Symbol) → r ≡ record { tree = a; missing = []; unread = v } → r.missing ≢ [] → ⊥
unfinished_by r a v is lacks = lacks (ap (λ o. o.missing) is)
