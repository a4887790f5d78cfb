use Rattle.std.proofs.Common.{◌≡◌, Result, Ok, Err, IfOk, IfErr, sym, ◌∙◌}

-- a result with one error has no other
pub only_error : {T E : Type 0} (one other : E) (result : Result T E) → IfErr result (λ error. error ≡ one) → result ≡ Err other → other ≡ one
only_error one other (Ok value) only is = cc
only_error one other (Err error) only is = let same : error ≡ other = cc in sym same ∙ only

-- what is known of the value, where there is one
pub ok_then : {T E : Type 0} (P Q : T → Type 0) (result : Result T E) → IfOk result P → ((value : T) → P value → Q value) → IfOk result Q
ok_then P Q (Ok value) known implied = implied value known
ok_then P Q (Err error) known implied = tt
