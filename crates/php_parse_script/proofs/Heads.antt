-- Words before `class`, headings, and members in braces.
use Rattle.std.proofs.Common.{◌≡◌, ◌≢◌, ◌≤◌, inl, inr, ℕ, ◌+◌, false, Some, None, List, [], ◌∷◌, length, refl, sym, ◌∙◌, ap, arith}
use Rattle.php_token.specs.Token.{Token, token_at}
use Rattle.php_ast.specs.declared.declaration.ClassModifier.{ClassModifier}
use Rattle.php_ast.specs.Symbol.{Symbol, symbol}
use Rattle.php_ast.specs.statement.Tree.{empty, then_also}
use Rattle.php_ast.specs.declared.spot.Spot.{Spot}
use Rattle.php_ast.specs.expression.View.{Note, spot_view}
use Rattle.php_ast.specs.expression.Placed.{notes_of}
use Rattle.php_ast.specs.declaration.Tree.{ClassWord}
use Rattle.php_ast.specs.declaration.View.{class_word_view}
use Rattle.php_ast.specs.declaration.Placed.{size_joined, size_class_word, noted_class_word}
use Rattle.php_grammar.specs.expression.Machine.{Nothing}
use Rattle.php_grammar.specs.declaration.ScriptMachine.{Items, ClassWords, Heading, Kind, class_kind, ItemRole, at_function, at_class, at_class_word, at_interface, at_trait, at_statement, item_role, item_begun, due_item, past_class_words, due_heading_name, past_heading, due_member, with_word, class_word_step, heading_role, by_members, heading_step}
use Rattle.php_reader.specs.Seen.{Stands, Shows, rest}
use Rattle.php_grammar_laws.specs.Walks.{short, walk_script}
use Rattle.php_parse_script.specs.Look.{head_item, head_mark, BeginsClass}
use Rattle.php_parse_script.specs.Owner.{GoesNoFurther}
use Rattle.php_parse_script.specs.Walk.{Leads, Halts}
use Rattle.php_parse_script.specs.Answer.{behind_words}
use Rattle.php_parse_script.proofs.Moves.{sticks, move, lacking}

-- ---- words before `class`

pub class_read : {room : ℕ} {x w : List Symbol} (items : Items) (words : ClassWords) (t : Symbol) → x ≡ t ∷ w → item_role t ≡ at_class → Leads room (behind_words items words) x (due_heading_name items (class_kind words)) w
class_read items empty t is role = move t is (ap (λ r. item_begun items r t) role) refl
class_read items (then_also words v) t is role = move t is (ap (class_word_step items (then_also words v)) role) refl

pub word_read : {room : ℕ} {x w : List Symbol} (items : Items) (words : ClassWords) (v : ClassModifier) (t : Symbol) → x ≡ t ∷ w → item_role t ≡ at_class_word v
    → Leads room (behind_words items words) x (behind_words items (with_word words v)) w
word_read items empty v t is role = move t is (ap (λ r. item_begun items r t) role) refl
word_read items (then_also words u) v t is role = move t is (ap (class_word_step items (then_also words u)) role) refl

no_word : (items : Items) (words : ClassWords) (r : ItemRole) → r ≢ at_class → ((v : ClassModifier) → r ≢ at_class_word v) → class_word_step items words r ≡ None
no_word items words at_function h g = refl
no_word items words at_class h g = absurd (h refl)
no_word items words (at_class_word v) h g = absurd (g v refl)
no_word items words at_interface h g = refl
no_word items words at_trait h g = refl
no_word items words at_statement h g = refl

wordless : (n : ℕ) (items : Items) (words : ClassWords) (w : List Symbol) → head_item w ≢ at_class → ((v : ClassModifier) → head_item w ≢ at_class_word v) → walk_script n (past_class_words items words) w ≡ short w
wordless n items words [] h g = refl
wordless n items words (t ∷ w) h g = sticks n (past_class_words items words) t w (no_word items words (item_role t) h g)

role_here : (tokens : List Token) (at : ℕ) (r : ItemRole) → Shows item_role tokens at r → head_item (rest tokens at) ≡ r
role_here tokens at r o = ap head_item o.stands.is ∙ o.role_is

-- Neither stands here, so a word was read before.
pub words_halt : {room : ℕ} (items : Items) (words : ClassWords) (tokens : List Token) (at next : ℕ) → BeginsClass tokens at → (words ≡ empty → at ≡ next)
    → head_item (rest tokens next) ≢ at_class → ((v : ClassModifier) → head_item (rest tokens next) ≢ at_class_word v) → Halts false room (behind_words items words) (rest tokens next) (rest tokens next)
words_halt items empty tokens at next (inl o) same h g = absurd (h (ap (λ k. head_item (rest tokens k)) (sym (same refl)) ∙ role_here tokens at at_class o))
words_halt items empty tokens at next (inr o) same h g = absurd (g o.0 (ap (λ k. head_item (rest tokens k)) (sym (same refl)) ∙ role_here tokens at (at_class_word o.0) o.1))
words_halt items (then_also words u) tokens at next begun same h g = lacking (λ n. wordless n items (then_also words u) (rest tokens next) h g)

-- ---- interfaces and traits

pub kind_read : {room : ℕ} {x w : List Symbol} (items : Items) (r : ItemRole) (kind : Kind) (t : Symbol) → x ≡ t ∷ w → item_role t ≡ r → item_begun items r t ≡ Some (due_heading_name items kind)
    → Leads room (due_item items) x (due_heading_name items kind) w
kind_read items r kind t is role begun = move t is (ap (λ q. item_begun items q t) role ∙ begun) refl

-- ---- members in braces

members_step : (items : Items) (heading : Heading) → heading_step items heading by_members ≡ Some (due_member items heading empty)
members_step items heading = refl

pub brace_read : {room : ℕ} {x w : List Symbol} (items : Items) (heading : Heading) (t : Symbol) → x ≡ t ∷ w → heading_role t ≡ by_members → Leads room (past_heading items heading) x (due_member items heading empty) w
brace_read items heading t is role = move t is (ap (heading_step items heading) role ∙ members_step items heading) refl

braceless : (n : ℕ) (items : Items) (heading : Heading) (w : List Symbol) → head_mark w ≢ by_members → GoesNoFurther heading w → walk_script n (past_heading items heading) w ≡ short w
braceless n items heading [] h over = refl
braceless n items heading (t ∷ w) h over = sticks n (past_heading items heading) t w (over items h)

pub brace_halts : {room : ℕ} (items : Items) (heading : Heading) (w : List Symbol) → head_mark w ≢ by_members → GoesNoFurther heading w → Halts false room (past_heading items heading) w w
brace_halts items heading w h over = lacking (λ n. braceless n items heading w h over)

abbrev pub bare_word : ClassModifier → ClassWord Nothing
bare_word word = record { note = tt; word = word }

abbrev word_note : Note → ClassModifier → ClassWord Note
word_note s word = record { note = s; word = word }

-- ---- where a class begins

pub begun_within : (tokens : List Token) (at : ℕ) → BeginsClass tokens at → at ≤ length tokens
begun_within tokens at (inl o) = omega (arith, o.stands.within)
begun_within tokens at (inr o) = omega (arith, o.1.stands.within)

pub words_none : (words : ClassWords) (at next : ℕ) → at + size_joined size_class_word words ≡ next → words ≡ empty → at ≡ next
words_none words at next sized none = omega (arith, sized, ap (size_joined size_class_word) none)

pub word_shown : (tokens : List Token) (next : ℕ) (spot : Spot) (word : ClassModifier) → spot_view spot ≡ (notes_of tokens).token next → class_word_view (spot, word) ≡ noted_class_word (notes_of tokens) next (bare_word word)
word_shown tokens next spot word is = ap (λ s. word_note s word) is

-- ---- a statement

pub item_shown : (tokens : List Token) (at : ℕ) → Stands tokens at (symbol (token_at tokens at)) → head_item (rest tokens at) ≡ at_statement → Shows item_role tokens at at_statement
item_shown tokens at stands is = record { token = symbol (token_at tokens at); stands = stands; role_is = sym (ap head_item stands.is) ∙ is }
