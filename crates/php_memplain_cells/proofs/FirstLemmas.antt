-- An array that gives way to its elements.
use Rattle.std.proofs.Common.{◌≡◌, ℕ, ◌+◌, List, [], ◌∷◌, ◌++◌, refl, ◌∙◌, ap, arith}
use Rattle.php_entries.specs.Listing.{Listing}
use Rattle.php_memdef.specs.Contents.{array, Item, value}
use Rattle.php_memdef.specs.Holders.{times, stores_of_entries, stores_of_items}
use Rattle.php_memdef.specs.Releases.{entry_links}
use Rattle.php_memdef_laws.proofs.Held.Parts.{times-append}
use Rattle.php_memdef_laws.proofs.Held.Releases.{entry_links_times, entry_links_handles}
use Rattle.std.specs.Prelude.{Option, None}
use Rattle.php_memplain_cells.specs.Seen.{handle_items}
use Rattle.php_memplain_cells.specs.Falls.{GivesWay}

pub array_gives_way : (t : Listing ℕ) (old new rest : List Item) → old ≡ value (array t) ∷ rest → new ≡ entry_links t.entries ++ rest → GivesWay old new
array_gives_way t old new rest e f = record {
  first = value (array t);
  rest = rest;
  stood = e;
  gives = entry_links t.entries;
  comes = f;
  releases = λ m b behind. refl;
  stores = λ s. (let whole : times s (stores_of_items (value (array t) ∷ [])) ≡ times s (stores_of_entries t.entries) + times s [] = times-append s (stores_of_entries t.entries) [] in omega (arith, whole, entry_links_times s t.entries));
  handles = λ h. entry_links_handles h t.entries;
}

-- lists in a row
pub joined_thrice : {X : Type 0} (xs ys zs : List X) → (xs ++ ys) ++ zs ≡ xs ++ (ys ++ zs)
joined_thrice [] ys zs = refl
joined_thrice (x ∷ xs) ys zs = ap (λ us. x ∷ us) (joined_thrice xs ys zs)

-- what waits is all that falls, where there is nothing else
pub all_waits : (h : Option ℕ) (ls ws : List Item) → h ≡ None → ls ≡ [] → handle_items h ++ (ls ++ ws) ≡ ws
all_waits h ls ws e f = ap (λ o. handle_items o ++ (ls ++ ws)) e ∙ ap (λ xs. xs ++ ws) f

pub one_waits : (h : Option ℕ) (ls ws xs : List Item) → h ≡ None → ls ≡ [] → handle_items h ++ ((xs ++ ls) ++ ws) ≡ xs ++ ws
one_waits h ls ws xs e f = ap (λ o. handle_items o ++ ((xs ++ ls) ++ ws)) e ∙ joined_thrice xs ls ws ∙ ap (λ ys. xs ++ (ys ++ ws)) f
