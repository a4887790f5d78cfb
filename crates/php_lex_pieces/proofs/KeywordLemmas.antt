-- Keywords by their length.
use Rattle.std.proofs.Common.{◌≡◌, ℕ, zero, suc, ◌≤◌, Bool, true, false, ◌&&◌, nat_eq, nat_lt, cond, List, [], ◌∷◌, length, Some, None, refl, sym, ap, ◌∙◌, arith}
use Rattle.std.specs.Str.{str_eq_ignore_ascii_case}
use Rattle.std.proofs.lemmas.Bool.{and_right}
use Rattle.std.proofs.lemmas.Grind.{common_steps}
use Rattle.php_token.specs.declared.kind.Keyword.{Keyword}
use Rattle.php_lex_pieces.specs.Bytes.{Text}
use Rattle.php_lex_pieces.specs.Words.{keywords, look_up}

-- the rows of a length
abbrev pub of_length : ℕ → List (Text × Keyword) → List (Text × Keyword)
of_length n [] = []
of_length n (row ∷ rows) = cond (nat_eq (length row.0) n) (row ∷ of_length n rows) (of_length n rows)

other_length : (a b : Text) → (length a ≡ length b → ⊥) → str_eq_ignore_ascii_case a b ≡ false
other_length [] [] differ = absurd (differ refl)
other_length [] (y ∷ b) differ = refl
other_length (x ∷ a) [] differ = refl
other_length (x ∷ a) (y ∷ b) differ = and_right _ _ (other_length a b (λ e. differ (ap suc e)))

with_row : (fits : Bool) (row : Text × Keyword) (some rows : List (Text × Keyword)) (word : Text) → (fits ≡ false → str_eq_ignore_ascii_case row.0 word ≡ false)
    → look_up some word ≡ look_up rows word → look_up (cond fits (row ∷ some) some) word ≡ look_up (row ∷ rows) word
with_row true row some rows word other same = ap (λ f. cond (str_eq_ignore_ascii_case row.0 word) (Some row.1) f) same
with_row false row some rows word other same = same ∙ sym (ap (λ v. cond v (Some row.1) (look_up rows word)) (other refl))

differs : (n m k : ℕ) → nat_eq n m ≡ false → k ≡ m → n ≡ k → ⊥
differs n m k test is same = grind (arith, common_steps)

-- rows of other lengths than the word's don't count
lengths_alike : (n : ℕ) (rows : List (Text × Keyword)) (word : Text) → length word ≡ n → look_up (of_length n rows) word ≡ look_up rows word
lengths_alike n [] word is = refl
lengths_alike n (row ∷ rows) word is =
    with_row (nat_eq (length row.0) n) row (of_length n rows) rows word (λ test. other_length row.0 word (differs (length row.0) n (length word) test is)) (lengths_alike n rows word is)

pub of_length_alone : (n : ℕ) (word : Text) → length word ≡ n → look_up (of_length n keywords) word ≡ look_up keywords word
of_length_alone n word is = lengths_alike n keywords word is

-- whether all rows are shorter than a length
abbrev shorter : ℕ → List (Text × Keyword) → Bool
shorter n [] = true
shorter n (row ∷ rows) = nat_lt (length row.0) n && shorter n rows

none_of_length : (limit n : ℕ) (rows : List (Text × Keyword)) → shorter limit rows ≡ true → limit ≤ n → of_length n rows ≡ []
none_of_length limit n [] short over = refl
none_of_length limit n (row ∷ rows) short over =
    let more : shorter limit rows ≡ true = grind (arith, common_steps) in
    let other : nat_eq (length row.0) n ≡ false = grind (arith, common_steps) in
    ap (λ fits. cond fits (row ∷ of_length n rows) (of_length n rows)) other ∙ none_of_length limit n rows more over

pub of_length_above : (word : Text) → 16 ≤ length word → None ≡ look_up keywords word
unfolding keywords
of_length_above word over = ap (λ rows. look_up rows word) (sym (none_of_length 16 (length word) keywords refl over)) ∙ of_length_alone (length word) word refl

pub one_of_seventeen : {A : Type 0} (n : ℕ) → n ≤ 16
    → (n ≡ 0 → A) → (n ≡ 1 → A) → (n ≡ 2 → A) → (n ≡ 3 → A) → (n ≡ 4 → A) → (n ≡ 5 → A) → (n ≡ 6 → A) → (n ≡ 7 → A) → (n ≡ 8 → A) → (n ≡ 9 → A)
    → (n ≡ 10 → A) → (n ≡ 11 → A) → (n ≡ 12 → A) → (n ≡ 13 → A) → (n ≡ 14 → A) → (n ≡ 15 → A) → (n ≡ 16 → A) → A
one_of_seventeen zero within a b c d e f g h i j k l m n o p q = a refl
one_of_seventeen (suc zero) within a b c d e f g h i j k l m n o p q = b refl
one_of_seventeen (suc (suc zero)) within a b c d e f g h i j k l m n o p q = c refl
one_of_seventeen (suc (suc (suc zero))) within a b c d e f g h i j k l m n o p q = d refl
one_of_seventeen (suc (suc (suc (suc zero)))) within a b c d e f g h i j k l m n o p q = e refl
one_of_seventeen (suc (suc (suc (suc (suc zero))))) within a b c d e f g h i j k l m n o p q = f refl
one_of_seventeen (suc (suc (suc (suc (suc (suc zero)))))) within a b c d e f g h i j k l m n o p q = g refl
one_of_seventeen (suc (suc (suc (suc (suc (suc (suc zero))))))) within a b c d e f g h i j k l m n o p q = h refl
one_of_seventeen (suc (suc (suc (suc (suc (suc (suc (suc zero)))))))) within a b c d e f g h i j k l m n o p q = i refl
one_of_seventeen (suc (suc (suc (suc (suc (suc (suc (suc (suc zero))))))))) within a b c d e f g h i j k l m n o p q = j refl
one_of_seventeen (suc (suc (suc (suc (suc (suc (suc (suc (suc (suc zero)))))))))) within a b c d e f g h i j k l m n o p q = k refl
one_of_seventeen (suc (suc (suc (suc (suc (suc (suc (suc (suc (suc (suc zero))))))))))) within a b c d e f g h i j k l m n o p q = l refl
one_of_seventeen (suc (suc (suc (suc (suc (suc (suc (suc (suc (suc (suc (suc zero)))))))))))) within a b c d e f g h i j k l m n o p q = m refl
one_of_seventeen (suc (suc (suc (suc (suc (suc (suc (suc (suc (suc (suc (suc (suc zero))))))))))))) within a b c d e f g h i j k l m n o p q = n refl
one_of_seventeen (suc (suc (suc (suc (suc (suc (suc (suc (suc (suc (suc (suc (suc (suc zero)))))))))))))) within a b c d e f g h i j k l m n o p q = o refl
one_of_seventeen (suc (suc (suc (suc (suc (suc (suc (suc (suc (suc (suc (suc (suc (suc (suc zero))))))))))))))) within a b c d e f g h i j k l m n o p q = p refl
one_of_seventeen (suc (suc (suc (suc (suc (suc (suc (suc (suc (suc (suc (suc (suc (suc (suc (suc zero)))))))))))))))) within a b c d e f g h i j k l m n o p q = q refl
one_of_seventeen (suc (suc (suc (suc (suc (suc (suc (suc (suc (suc (suc (suc (suc (suc (suc (suc (suc n2))))))))))))))))) within a b c d e f g h i j k l m n o p q = absurd (omega arith)
