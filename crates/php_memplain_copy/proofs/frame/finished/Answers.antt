use Rattle.std.proofs.Common.{◌≡◌, ℕ, arith, ap}
use Rattle.php_entries.specs.Listing.{Listing, count_of}
use Rattle.php_memplain_copy.proofs.frame.finished.Goals as goal

pub with_values-requires : goal.with_values-requires
with_values-requires c = let ok = c.args.values.ok in omega (arith, c.requires, ap (λ (t : Listing ℕ). count_of t) c.entries_of.ensures)

pub returns-clause-made : goal.returns-clause-made
returns-clause-made c = let fits = c.made_so_far-made.type_inv in omega (arith, fits, c.made_so_far-made.ensures, c.in_ok-entries.ensures.made)
