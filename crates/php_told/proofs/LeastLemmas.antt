-- In a placed script the first form that isn't told is the one with the least token.
--
-- A part lies between two places. What it answers is the first of what it lists, and what it lists rises from the one place to the other; so a form
-- needs only the bounds of its parts.
use Rattle.std.specs.Option.{option_or}
use Rattle.std.proofs.Common.{◌≡◌, ℕ, ◌+◌, ◌≤◌, ◌<◌, Bool, true, false, cond, List, [], ◌∷◌, ◌++◌, Option, Some, None, inl, inr, refl, ap, ◌∙◌, subst, arith}
use Rattle.php_token.specs.Token.{Token}
use Rattle.php_ast.specs.expression.Tree.{Tree, leaf, template, enclosed, append, index, selected, computed, call, prefix, count, binary, instance_of, instance_of_static, choice, short_choice, assign}
use Rattle.php_ast.specs.expression.Tree.{Items, none, and, skip, Pieces, no_piece, bytes, value}
use Rattle.php_ast.specs.expression.View.{Note}
use Rattle.php_ast.specs.expression.Placed.{size, size_items, size_pieces, size_lead, comma_size, opening_size, setting_size, notes_of, noted, noted_items, noted_pieces}
use Rattle.php_ast.specs.statement.Tree.{Sequence, empty, then_also, Statement, block, blank, inline, expression, echo, Statements, no_statement, and_statement}
use Rattle.php_ast.specs.statement.Placed.{size_statement, size_statements, noted_statement, noted_statements}
use Rattle.php_ast.specs.declaration.Tree.{ClassWord, Item, of_statement, of_function, of_class, of_interface, of_trait, Script}
use Rattle.php_ast.specs.declaration.Placed.{size_joined, noted_joined, size_class_word, noted_class_word, size_item, noted_item, size_script, noted_script, IsPlacedScript}
use Rattle.php_legality.specs.Lists.{elements, Has}
use Rattle.php_legality.specs.Places.{first_note}
use Rattle.php_told.specs.First.{is_told_leaf, are_short, is_told_enclosure, is_told_prefix, is_told_operator, is_told_assignment, first_in, first_in_pieces, first_in_items, first_in_statement, first_in_statements, first_word, first_in_item, first_not_told}
use Rattle.php_told.specs.Least.{starts_in, starts_in_pieces, starts_in_items, starts_in_statement, starts_in_statements, starts_in_item, starts, IsLeast}

-- ---- notes that rise

-- from the first place on, and before the second
abbrev Rises : ℕ → ℕ → List Note → Type 0
Rises lo hi [] = lo ≤ hi
Rises lo hi (n ∷ ns) = (lo ≤ n.place) × Rises (n.place + 1) hi ns

rises_within : (low lo hi high : ℕ) (ns : List Note) → low ≤ lo → hi ≤ high → Rises lo hi ns → Rises low high ns
rises_within low lo hi high [] p q h = omega (arith, p, q, h)
rises_within low lo hi high (n ∷ ns) p q h = (omega (arith, p, h.0), rises_within (n.place + 1) (n.place + 1) hi high ns (omega arith) q h.1)

rises_append : (lo mid hi : ℕ) (ns ms : List Note) → Rises lo mid ns → Rises mid hi ms → Rises lo hi (ns ++ ms)
rises_append lo mid hi [] ms h k = rises_within lo mid hi hi ms h (omega arith) k
rises_append lo mid hi (n ∷ ns) ms h k = (h.0, rises_append (n.place + 1) mid hi ns ms h.1 k)

rises_has : (lo hi : ℕ) (ns : List Note) (m : Note) → Rises lo hi ns → Has ns m → lo ≤ m.place
rises_has lo hi [] m h has = absurd has
rises_has lo hi (n ∷ ns) m h (inl is) = let same = ap (λ (x : Note). x.place) is in let least = h.0 in omega (arith, same, least)
rises_has lo hi (n ∷ ns) m h (inr has) = let more = rises_has (n.place + 1) hi ns m h.1 has in let least = h.0 in omega (arith, more, least)

abbrev first : List Note → Option Note
first [] = None
first (n ∷ ns) = Some n

first_append : (ns ms : List Note) (o p : Option Note) → first ns ≡ o → first ms ≡ p → first (ns ++ ms) ≡ option_or o p
first_append [] ms o p h k = k ∙ ap (λ x. option_or x p) h
first_append (n ∷ ns) ms o p h k = ap (λ x. option_or x p) h

least_is : (lo hi : ℕ) (ns : List Note) → Rises lo hi ns → IsLeast (first ns) ns
least_is lo hi [] h = refl
least_is lo hi (n ∷ ns) h = (inl refl, λ m has. rises_has n.place hi (n ∷ ns) m (omega arith, h.1) has)

-- ---- an answer, and what is listed

record Ordered (lo hi : ℕ) (o : Option Note) (ns : List Note) : Type 0 where
  is_first : first ns ≡ o
  rises : Rises lo hi ns

nothing : (lo hi : ℕ) → lo ≤ hi → Ordered lo hi None []
nothing lo hi p = record { is_first = refl; rises = p }

alone : (n : Note) (at k : ℕ) → n.place ≡ at → 0 < k → Ordered at (at + k) (Some n) (n ∷ [])
alone n at k is some = record { is_first = refl; rises = (omega (arith, is), omega (arith, is, some)) }

within : (low lo hi high : ℕ) (o : Option Note) (ns : List Note) → low ≤ lo → hi ≤ high → Ordered lo hi o ns → Ordered low high o ns
within low lo hi high o ns p q h = record { is_first = h.is_first; rises = rises_within low lo hi high ns p q h.rises }

both : (lo mid hi : ℕ) (o p : Option Note) (ns ms : List Note) → Ordered lo mid o ns → Ordered mid hi p ms → Ordered lo hi (option_or o p) (ns ++ ms)
both lo mid hi o p ns ms h k = record { is_first = first_append ns ms o p h.is_first k.is_first; rises = rises_append lo mid hi ns ms h.rises k.rises }

-- a form that is told or not
chosen : (b : Bool) (at k : ℕ) (o : Option Note) (ns : List Note) (n : Note) → n.place ≡ at → 0 < k → Ordered at (at + k) o ns → Ordered at (at + k) (cond b o (Some n)) (cond b ns (n ∷ []))
chosen true at k o ns n is some h = h
chosen false at k o ns n is some h = alone n at k is some

-- ---- each form has a token

some_tokens : (e : Tree Note) → 0 < size e
some_tokens (assign s l r) = omega (arith, some_tokens l)
some_tokens _ = omega arith

some_of_statement : (s : Statement Note) → 0 < size_statement s
some_of_statement (blank at) = omega arith
some_of_statement _ = omega arith

module _ (tokens : List Token) where
  abbrev token : ℕ → Note
  token at = (notes_of tokens).token at

  -- ---- expressions

  first_place : (at : ℕ) (e : Tree Note) → (first_note (noted (notes_of tokens) at e)).place ≡ at
  first_place at (append e) = first_place at e
  first_place at (index e key) = first_place at e
  first_place at (selected e arrow member) = first_place at e
  first_place at (computed e key) = first_place at e
  first_place at (call f items) = first_place at f
  first_place at (count e way) = first_place at e
  first_place at (binary op l r) = first_place at l
  first_place at (instance_of l r) = first_place at l
  first_place at (instance_of_static l spot) = first_place at l
  first_place at (choice c a b) = first_place at c
  first_place at (short_choice c b) = first_place at c
  first_place at (assign s l r) = first_place at l
  first_place at _ = refl

  alone_in : (at : ℕ) (e : Tree Note) → Ordered at (at + size e) (Some (first_note (noted (notes_of tokens) at e))) (first_note (noted (notes_of tokens) at e) ∷ [])
  alone_in at e = alone (first_note (noted (notes_of tokens) at e)) at (size e) (first_place at e) (some_tokens e)

  mutual
    in_tree : (at : ℕ) (e : Tree Note) → Ordered at (at + size e) (first_in (noted (notes_of tokens) at e)) (starts_in (noted (notes_of tokens) at e))
    in_tree at (leaf spot l) = chosen (is_told_leaf (token at) l) at 1 None [] (token at) refl (omega arith) (nothing at (at + 1) (omega arith))
    in_tree at (template spot ps) =
        let inner = noted_pieces (notes_of tokens) (at + 1) ps in
        chosen (are_short inner) at (2 + size_pieces ps) (first_in_pieces inner) (starts_in_pieces inner) (token at) refl (omega arith)
        (within at (at + 1) (at + 1 + size_pieces ps) (at + (2 + size_pieces ps)) (first_in_pieces inner) (starts_in_pieces inner) (omega arith) (omega arith) (in_pieces (at + 1) ps))
    in_tree at (enclosed spot by e) =
        let inner = noted (notes_of tokens) (at + opening_size by) e in
        chosen (is_told_enclosure by) at (opening_size by + size e + 1) (first_in inner) (starts_in inner) (token at) refl (omega arith)
        (within at (at + opening_size by) (at + opening_size by + size e) (at + (opening_size by + size e + 1)) (first_in inner) (starts_in inner) (omega arith) (omega arith) (in_tree (at + opening_size by) e))
    in_tree at (prefix spot op e) =
        let inner = noted (notes_of tokens) (at + 1) e in
        chosen (is_told_prefix op) at (1 + size e) (first_in inner) (starts_in inner) (token at) refl (omega arith)
        (within at (at + 1) (at + 1 + size e) (at + (1 + size e)) (first_in inner) (starts_in inner) (omega arith) (omega arith) (in_tree (at + 1) e))
    in_tree at (binary op l r) =
        let left = noted (notes_of tokens) at l in
        let right = noted (notes_of tokens) (at + size l + 1) r in
        chosen (is_told_operator op) at (size l + size r + 1) (option_or (first_in left) (first_in right)) (starts_in left ++ starts_in right) (first_note left) (first_place at l) (omega arith)
        (both at (at + size l) (at + (size l + size r + 1)) (first_in left) (first_in right) (starts_in left) (starts_in right) (in_tree at l)
        (within (at + size l) (at + size l + 1) (at + size l + 1 + size r) (at + (size l + size r + 1)) (first_in right) (starts_in right) (omega arith) (omega arith) (in_tree (at + size l + 1) r)))
    in_tree at (assign s p e) =
        let target = noted (notes_of tokens) at p in
        let inner = noted (notes_of tokens) (at + size p + setting_size s) e in
        chosen (is_told_assignment s target) at (size p + setting_size s + size e) (first_in inner) (starts_in inner) (first_note target) (first_place at p) (omega (arith, some_tokens p))
        (within at (at + size p + setting_size s) (at + size p + setting_size s + size e) (at + (size p + setting_size s + size e)) (first_in inner) (starts_in inner) (omega arith) (omega arith)
        (in_tree (at + size p + setting_size s) e))
    in_tree at e = alone_in at e

    in_pieces : (at : ℕ) (ps : Pieces Note) → Ordered at (at + size_pieces ps) (first_in_pieces (noted_pieces (notes_of tokens) at ps)) (starts_in_pieces (noted_pieces (notes_of tokens) at ps))
    in_pieces at no_piece = nothing at (at + 0) (omega arith)
    in_pieces at (bytes ps t) =
        let before = noted_pieces (notes_of tokens) at ps in
        within at at (at + size_pieces ps) (at + (size_pieces ps + 1)) (first_in_pieces before) (starts_in_pieces before) (omega arith) (omega arith) (in_pieces at ps)
    in_pieces at (value ps e) =
        let before = noted_pieces (notes_of tokens) at ps in
        let last = noted (notes_of tokens) (at + size_pieces ps + 1) e in
        both at (at + size_pieces ps) (at + (size_pieces ps + size e + 2)) (first_in_pieces before) (first_in last) (starts_in_pieces before) (starts_in last) (in_pieces at ps)
        (within (at + size_pieces ps) (at + size_pieces ps + 1) (at + size_pieces ps + 1 + size e) (at + (size_pieces ps + size e + 2)) (first_in last) (starts_in last) (omega arith) (omega arith)
        (in_tree (at + size_pieces ps + 1) e))

  in_items : (at : ℕ) (is : Items Note) → Ordered at (at + size_items is) (first_in_items (noted_items (notes_of tokens) at is)) (starts_in_items (noted_items (notes_of tokens) at is))
  in_items at none = nothing at (at + 0) (omega arith)
  in_items at (and is lead e) =
      let before = noted_items (notes_of tokens) at is in
      let place = at + size_items is + comma_size is + size_lead lead in
      let last = noted (notes_of tokens) (at + size_items is + comma_size is + size_lead lead) e in
      both at (at + size_items is) (at + (size_items is + comma_size is + size_lead lead + size e)) (first_in_items before) (first_in last) (starts_in_items before) (starts_in last) (in_items at is)
      (within (at + size_items is) (at + size_items is + comma_size is + size_lead lead) (at + size_items is + comma_size is + size_lead lead + size e)
      (at + (size_items is + comma_size is + size_lead lead + size e)) (first_in last) (starts_in last) (omega arith) (omega arith) (in_tree (at + size_items is + comma_size is + size_lead lead) e))
  in_items at (skip is) =
      let before = noted_items (notes_of tokens) at is in
      within at at (at + size_items is) (at + (size_items is + comma_size is)) (first_in_items before) (starts_in_items before) (omega arith) (omega arith) (in_items at is)

  -- ---- statements

  mutual
    in_statement : (at : ℕ) (s : Statement Note) → Ordered at (at + size_statement s) (first_in_statement (noted_statement (notes_of tokens) at s)) (starts_in_statement (noted_statement (notes_of tokens) at s))
    in_statement at (block spot ss) =
        let inner = noted_statements (notes_of tokens) (at + 1) ss in
        within at (at + 1) (at + 1 + size_statements ss) (at + (size_statements ss + 2)) (first_in_statements inner) (starts_in_statements inner) (omega arith) (omega arith) (in_statements (at + 1) ss)
    in_statement at (blank spot) = nothing at (at + 1) (omega arith)
    in_statement at (inline spot t) = nothing at (at + 1) (omega arith)
    in_statement at (expression spot e) =
        let inner = noted (notes_of tokens) at e in
        within at at (at + size e) (at + (size e + 1)) (first_in inner) (starts_in inner) (omega arith) (omega arith) (in_tree at e)
    in_statement at (echo spot is) =
        let inner = noted_items (notes_of tokens) (at + 1) is in
        within at (at + 1) (at + 1 + size_items is) (at + (size_items is + 2)) (first_in_items inner) (starts_in_items inner) (omega arith) (omega arith) (in_items (at + 1) is)
    in_statement at s = alone (token at) at (size_statement s) refl (some_of_statement s)

    in_statements : (at : ℕ) (ss : Statements Note) → Ordered at (at + size_statements ss) (first_in_statements (noted_statements (notes_of tokens) at ss)) (starts_in_statements (noted_statements (notes_of tokens) at ss))
    in_statements at no_statement = nothing at (at + 0) (omega arith)
    in_statements at (and_statement ss s) =
        let before = noted_statements (notes_of tokens) at ss in
        let last = noted_statement (notes_of tokens) (at + size_statements ss) s in
        both at (at + size_statements ss) (at + (size_statements ss + size_statement s)) (first_in_statements before) (first_in_statement last) (starts_in_statements before) (starts_in_statement last) (in_statements at ss)
        (within (at + size_statements ss) (at + size_statements ss) (at + size_statements ss + size_statement s) (at + (size_statements ss + size_statement s)) (first_in_statement last) (starts_in_statement last)
        (omega arith) (omega arith) (in_statement (at + size_statements ss) s))

  -- ---- items and scripts

  last_word : (at : Note) (words : List (ClassWord Note)) (w : ClassWord Note) → first_word at (words ++ w ∷ []) ≡ first_word w.note words
  last_word at [] w = refl
  last_word at (x ∷ words) w = refl

  word_place : (at : ℕ) (words : Sequence (ClassWord Note)) → (first_word (token (at + size_joined size_class_word words)) (elements (noted_joined size_class_word (noted_class_word (notes_of tokens)) at words))).place ≡ at
  word_place at empty = omega arith
  word_place at (then_also words w) =
      ap (λ (n : Note). n.place)
      (last_word (token (at + size_joined size_class_word (then_also words w))) (elements (noted_joined size_class_word (noted_class_word (notes_of tokens)) at words))
      (noted_class_word (notes_of tokens) (at + size_joined size_class_word words) w))
      ∙ word_place at words

  in_item : (at : ℕ) (i : Item Note) → Ordered at (at + size_item i) (first_in_item (noted_item (notes_of tokens) at i)) (starts_in_item (noted_item (notes_of tokens) at i))
  in_item at (of_statement s) = in_statement at s
  in_item at (of_function f) = alone (token at) at (size_item (of_function f)) refl (omega arith)
  in_item at (of_class c) =
      alone (first_word (token (at + size_joined size_class_word c.modifiers)) (elements (noted_joined size_class_word (noted_class_word (notes_of tokens)) at c.modifiers))) at
      (size_item (of_class c)) (word_place at c.modifiers) (omega arith)
  in_item at (of_interface i) = alone (token at) at (size_item (of_interface i)) refl (omega arith)
  in_item at (of_trait t) = alone (token at) at (size_item (of_trait t)) refl (omega arith)

  in_script : (is : Script Note) → Ordered 0 (0 + size_script is) (first_not_told (noted_script (notes_of tokens) is)) (starts (noted_script (notes_of tokens) is))
  in_script empty = nothing 0 0 (omega arith)
  in_script (then_also is i) =
      let before = noted_script (notes_of tokens) is in
      let last = noted_item (notes_of tokens) (0 + size_script is) i in
      both 0 (0 + size_script is) (0 + (size_script is + size_item i)) (first_not_told before) (first_in_item last) (starts before) (starts_in_item last) (in_script is)
      (within (0 + size_script is) (0 + size_script is) (0 + size_script is + size_item i) (0 + (size_script is + size_item i)) (first_in_item last) (starts_in_item last) (omega arith) (omega arith)
      (in_item (0 + size_script is) i))

-- that the notes of the script itself are these
pub first_is_least : (tokens : List Token) (script : Script Note) → IsPlacedScript tokens script → IsLeast (first_not_told script) (starts script)
first_is_least tokens script placed =
    let found = in_script tokens script in
    subst (λ (is : Script Note). IsLeast (first_not_told is) (starts is)) placed
    (subst (λ o. IsLeast o (starts (noted_script (notes_of tokens) script))) found.is_first (least_is 0 (0 + size_script script) (starts (noted_script (notes_of tokens) script)) found.rises))
