-- The topmost temporaries in reverse order.
use Rattle.std.proofs.Common.{◌≡◌, ◌+◌, ℕ, zero, suc, List, [], ◌∷◌, ◌++◌, length, map, take, drop, refl, sym, ◌∙◌, ap, arith, length-append}
use Rattle.std.specs.Prelude.{reverse}
use Rattle.std.proofs.lemmas.List.{append-nil, append_assoc, map-append, reverse-append, reverse-reverse, length-reverse}
use Rattle.php_memdef.specs.Contents.{Item}
use Rattle.php_memdef.specs.Temporaries.{turned, turn}
use Rattle.php_memdef_laws.proofs.Held.Parts.{holders-turned, handles-turned}
use Rattle.php_memplain_cells.specs.declared.content.Item.{Item as Kept}
use Rattle.php_memplain_cells.specs.declared.cells.Cells.{Cells}
use Rattle.php_memplain_cells.specs.Seen.{item_seen}
use Rattle.php_memplain_cells.specs.Counts.{count_of_store, count_of_object}
use Rattle.php_memplain_cells.specs.Memory.{memory_seen, IsCounted}
use Rattle.php_memplain_cells.proofs.MemoryLemmas.{counted_by}

turned_all : (xs ys before : List Item) → turned (length xs) (xs ++ ys) before ≡ (reverse xs ++ before) ++ ys
turned_all [] ys before = refl
turned_all (x ∷ xs) ys before =
    turned_all xs ys (x ∷ before)
    ∙ ap (λ zs. zs ++ ys) (sym (append_assoc (reverse xs) (x ∷ []) before) ∙ ap (λ zs. zs ++ before) (sym (reverse-append (x ∷ []) xs)))

seen_reversed : (is : List Kept) → map item_seen (reverse is) ≡ reverse (map item_seen is)
seen_reversed [] = refl
seen_reversed (i ∷ is) =
    ap (map item_seen) (reverse-append (i ∷ []) is) ∙ map-append item_seen (reverse is) (i ∷ [])
    ∙ ap (λ js. js ++ item_seen i ∷ []) (seen_reversed is)
    ∙ sym (reverse-append (item_seen i ∷ []) (map item_seen is))

parts : (is : List Kept) (n : ℕ) → take n is ++ drop n is ≡ is
parts [] zero = refl
parts [] (suc n) = refl
parts (i ∷ is) zero = refl
parts (i ∷ is) (suc n) = ap (λ js. i ∷ js) (parts is n)

so_many : (is : List Kept) (n k : ℕ) → n + k ≡ length is → length (drop n is) ≡ k
so_many [] zero k e = omega (arith, e)
so_many [] (suc n) k e = absurd (omega (arith, e))
so_many (i ∷ is) zero k e = omega (arith, e)
so_many (i ∷ is) (suc n) k e = so_many is n k (omega (arith, e))

seen_length : (is : List Kept) → length (map item_seen is) ≡ length is
seen_length [] = refl
seen_length (i ∷ is) = ap suc (seen_length is)

pub whole_slice : (xs ys : List Kept) (n : ℕ) → n ≡ length xs → take n (xs ++ ys) ≡ xs
whole_slice [] ys n e = ap (λ (k : ℕ). take k ys) e
whole_slice (x ∷ xs) ys zero e = absurd (omega (arith, e))
whole_slice (x ∷ xs) ys (suc n) e = ap (λ zs. x ∷ zs) (whole_slice xs ys n (omega (arith, e)))

pub as_many : (is : List Kept) (n : ℕ) → length (take n is ++ reverse (drop n is)) ≡ length is
as_many is n = omega (arith, length-append (take n is) (reverse (drop n is)), length-reverse (drop n is), length-append (take n is) (drop n is), ap length (parts is n))

-- what stands at a place and behind it is reversed, so the topmost are
pub turned_is : (is : List Kept) (count from : ℕ) → from + count ≡ length is → map item_seen (reverse (take from is ++ reverse (drop from is))) ≡ turned count (map item_seen (reverse is)) []
turned_is is count from e =
    let front = take from is in
    let back = drop from is in
    let xs = map item_seen (reverse back) in
    let ys = map item_seen (reverse front) in
    let many : length xs ≡ count = seen_length (reverse back) ∙ length-reverse back ∙ so_many is from count e in
    let left : map item_seen (reverse (front ++ reverse back)) ≡ map item_seen back ++ ys =
    ap (map item_seen) (reverse-append front (reverse back) ∙ ap (λ js. js ++ reverse front) (reverse-reverse back))
    ∙ map-append item_seen back (reverse front) in
    let all : map item_seen (reverse is) ≡ xs ++ ys =
    ap (λ js. map item_seen (reverse js)) (sym (parts is from)) ∙ ap (map item_seen) (reverse-append front back) ∙ map-append item_seen (reverse back) (reverse front) in
    let turns : reverse xs ≡ map item_seen back = sym (seen_reversed (reverse back)) ∙ ap (map item_seen) (reverse-reverse back) in
    left ∙ ap (λ zs. zs ++ ys) (sym (append-nil (reverse xs) ∙ turns))
    ∙ sym (turned_all xs ys [])
    ∙ ap (λ n. turned n (xs ++ ys) []) many
    ∙ ap (λ zs. turned count zs []) (sym all)

pub turned_counted : (s t : Cells) (b n : ℕ) → IsCounted s → t.stores ≡ s.stores → t.objects ≡ s.objects → memory_seen t ≡ turn (memory_seen s) b n → IsCounted t
turned_counted s t b n counted st os seen =
    counted_by t (turn (memory_seen s) b n) [] [] seen
    (λ k. (
    let same : count_of_store t.stores k ≡ count_of_store s.stores k = ap (λ x. count_of_store x k) st in
    omega (arith, same, counted.stores k, holders-turned (memory_seen s) k b n)))
    (λ h. (
    let same : count_of_object t.objects.items h ≡ count_of_object s.objects.items h = ap (λ x. count_of_object x h) (ap (λ x. x.items) os) in
    omega (arith, same, counted.objects h, handles-turned (memory_seen s) h b n)))
