use Rattle.std.proofs.Common.{◌≡◌, ◌-◌, [], ◌∷◌, ◌++◌, length, ap, arith, length-append}
use Rattle.php_array.proofs.PlaceLemmas.{last-hole}
use Rattle.php_array.proofs.places.ends_in_hole.Goals as goal

pub returns-then-len-gt0-clause-hole : goal.returns-then-len-gt0-clause-hole
returns-then-len-gt0-clause-hole g c =
    λ hole front last split.
    let behind : c.len-len.result - 1 ≡ length front = omega (arith, ap length split, length-append front (last ∷ [])) in
    last-hole c.args.slots.now.items front last (c.len-len.result - 1) c.is_live.result split behind c.is_live.ensures hole
