-- Rules on the methods of used traits.
use Rattle.std.proofs.Common.{◌≡◌, ◌≢◌, ◌≤◌, ℕ, ◌+◌, Bool, true, false, Option, Some, None, List, [], ◌∷◌, length, refl, sym, ◌∙◌, ap, subst, arith}
use Rattle.php_token.specs.declared.kind.Keyword.{Keyword}
use Rattle.php_token.specs.declared.kind.Keyword.TheVariants as word
use Rattle.php_token.specs.declared.kind.Punct.TheVariants as mark
use Rattle.php_ast.specs.declared.declaration.Visibility.{Visibility}
use Rattle.php_token.specs.Token.{Token}
use Rattle.php_ast.specs.Symbol as symbol
use Rattle.php_ast.specs.Symbol.{Symbol, keyword, punct}
use Rattle.php_ast.specs.expression.Tree as tree
use Rattle.php_ast.specs.expression.Proper.{may_name}
use Rattle.php_ast.specs.statement.Tree.{Sequence, empty, Name}
use Rattle.php_ast.specs.declaration.Tree.{Rule, renames, prefers, uses, uses_by}
use Rattle.php_grammar.specs.declared.closer.Closer.TheVariants as ender
use Rattle.php_grammar.specs.Run.{either, if_some}
use Rattle.php_grammar.specs.expression.Role.{word_of, reserved_if, is_left_brace}
use Rattle.php_grammar.specs.expression.Machine.{Nothing, pick}
use Rattle.php_grammar.specs.statement.Machine.{named_here}
use Rattle.php_grammar.specs.statement.Role.{Ending, closer, ending, is_semicolon, is_right_brace, name_text}
use Rattle.php_grammar.specs.declaration.MemberMachine.{RuleRole, by_as, by_instead_of, by_colons, by_no_rule, rule_role, visibility_of, visibility_of_keyword, Word, Names, Rules, with_rule, of_use, of_instead, MemberState, past_modifiers, due_trait, past_trait, due_rule, past_first_word, past_colons, past_second_word, past_as, past_visibility, due_rule_end, past_member, word_here, first_word_step, second_word_step, rule_end, listed_step, at_use, member_role, first_step, advance_member, halt_member}
use Rattle.php_grammar.specs.declaration.Depth.{member_depth_at}
use Rattle.php_grammar_laws.specs.Walks.{short, outcome, walk_member}
use Rattle.php_reader.specs.Seen.{Shows, rest, test, head_word}
use Rattle.php_parse_simple.specs.Walk.{head_ending}
use Rattle.php_ast.specs.declaration.Placed.{size_one}
use Rattle.php_parse_member.specs.declared.lead.Verb.{Verb}
use Rattle.php_parse_member.specs.declared.lead.Verb.TheVariants as verb
use Rattle.php_parse_member.specs.LeadView.{head_verb, verb_view, SeesVerb, head_visibility, SeesVisibility, VisibilityFits}
use Rattle.php_parse_member.specs.Walk.{Leads, Halts}
use Rattle.php_parse_member.specs.Answer.{Fails}
use Rattle.php_reader.specs.declared.fail.Stop.{Stop}
use Rattle.php_parse_member.specs.RuleAnswer.{AnswersNoRules, past_head, NoClass, past_tail, NoAlias, ruled}
use Rattle.php_parse_member.proofs.Moves.{leads}
use Rattle.php_parse_member.proofs.Steps.{step, sink, NoStep, stuck}

-- ---- the first words

not_brace : (rules : Rules) (m : Word) (t : Symbol) → word_of t ≡ Some m → advance_member (due_rule rules) t ≡ Some (past_first_word rules m)
not_brace rules m (punct p) is = cc
not_brace rules m t is =
    ap (λ b. pick b (Some (past_member (uses_by tt rules.traits rules.rules))) (word_here t (past_first_word rules))) (no_end t is) ∙ ap (λ o. if_some o (λ z. Some (past_first_word rules z))) is
  where
    no_end : (t : Symbol) → word_of t ≡ Some m → is_right_brace t ≡ false
    no_end (punct p) h = cc
    no_end _ h = refl

pub first_reads : {room : ℕ} {x : List Symbol} (rules : Rules) (m : Word) (t : Symbol) (w : List Symbol) → x ≡ t ∷ w → word_of t ≡ Some m → 2 ≤ room → Leads walk_member room (due_rule rules) x (past_first_word rules m) w
first_reads rules m t w is named low = step (past_first_word rules m) t w is (not_brace rules m t named) (omega (arith, low))

no_word_by : (rules : Rules) (w : List Symbol) → head_word w ≡ None → test is_right_brace w ≡ false → NoStep (due_rule rules) w
no_word_by rules [] h g = tt
no_word_by rules (t ∷ w) h g =
    ap (λ b. pick b (Some (past_member (uses_by tt rules.traits rules.rules))) (word_here t (past_first_word rules))) g ∙ ap (λ o. if_some o (λ z. Some (past_first_word rules z))) h

pub first_lacks : {room : ℕ} {w : List Symbol} (rules : Rules) → head_word w ≡ None → test is_right_brace w ≡ false → Halts walk_member false room (due_rule rules) w w
first_lacks {room} {w} rules h g = stuck (due_rule rules) w (λ v. refl) (no_word_by rules w h g)

pub name_is : (t : Symbol) (text : List ℕ) → name_text t ≡ Some text → word_of t ≡ Some (tree.named tt text)
name_is (symbol.name own) text is = let same : own ≡ text = cc in ap (λ z. Some (tree.named tt z)) same
name_is _ text is = cc

-- a word that is no name
reserved_no : (b : Bool) (k : Keyword) (m : Word) (v : List Symbol) → reserved_if b k ≡ Some m → NoClass None m v
reserved_no true k (tree.named note text) v is = absurd (cc)
reserved_no true k (tree.reserved note own) v is = tt
reserved_no true k (tree.held note text) v is = tt
reserved_no false k m v is = absurd (cc)

pub keyword_no_class : (t : Symbol) (m : Word) (v : List Symbol) → name_text t ≡ None → word_of t ≡ Some m → NoClass None m v
keyword_no_class (symbol.name own) m v is named = absurd (cc)
keyword_no_class (keyword k) m v is named = reserved_no (may_name k) k m v named
keyword_no_class _ m v is named = absurd (cc)

pub colons_read : {room : ℕ} {x : List Symbol} (rules : Rules) (text : List ℕ) (t : Symbol) (w : List Symbol) → x ≡ t ∷ w → rule_role t ≡ by_colons → 2 ≤ room
    → Leads walk_member room (past_first_word rules (tree.named tt text)) x (past_colons rules (named_here text)) w
colons_read rules text t w is role low = step (past_colons rules (named_here text)) t w is (ap (first_word_step rules (tree.named tt text)) role) (omega (arith, low))

pub second_reads : {room : ℕ} {x : List Symbol} (rules : Rules) (origin : Name Nothing) (m : Word) (t : Symbol) (w : List Symbol) → x ≡ t ∷ w → word_of t ≡ Some m → 2 ≤ room
    → Leads walk_member room (past_colons rules origin) x (past_second_word rules origin m) w
second_reads rules origin m t w is named low = step (past_second_word rules origin m) t w is (ap (λ o. if_some o (λ z. Some (past_second_word rules origin z))) named) (omega (arith, low))

no_second_by : (rules : Rules) (origin : Name Nothing) (w : List Symbol) → head_word w ≡ None → NoStep (past_colons rules origin) w
no_second_by rules origin [] h = tt
no_second_by rules origin (t ∷ w) h = ap (λ o. if_some o (λ z. Some (past_second_word rules origin z))) h

pub second_lacks : {room : ℕ} {w : List Symbol} (rules : Rules) (origin : Name Nothing) → head_word w ≡ None → Halts walk_member false room (past_colons rules origin) w w
second_lacks {room} {w} rules origin h = stuck (past_colons rules origin) w (λ v. refl) (no_second_by rules origin w h)

-- ---- what a rule does

as_after : (rules : Rules) (origin : Option (Name Nothing)) (m : Word) (t : Symbol) → rule_role t ≡ by_as → advance_member (past_head rules origin m) t ≡ Some (past_as rules origin m)
as_after rules None (tree.named note text) t is = ap (first_word_step rules (tree.named note text)) is
as_after rules None (tree.reserved note k) t is = ap (first_word_step rules (tree.reserved note k)) is
as_after rules None (tree.held note text) t is = ap (first_word_step rules (tree.held note text)) is
as_after rules (Some o) m t is = ap (second_word_step rules o m) is

as_depth : (rules : Rules) (origin : Option (Name Nothing)) (m : Word) (t : Symbol) → member_depth_at (past_head rules origin m) t ≡ 1
as_depth rules None m t = refl
as_depth rules (Some o) m t = refl

pub as_reads : {room : ℕ} {x : List Symbol} (rules : Rules) (origin : Option (Name Nothing)) (m : Word) (t : Symbol) (w : List Symbol) → x ≡ t ∷ w → rule_role t ≡ by_as → 2 ≤ room
    → Leads walk_member room (past_head rules origin m) x (past_as rules origin m) w
as_reads rules origin m t w is role low = step (past_as rules origin m) t w is (as_after rules origin m t role) (omega (arith, low, as_depth rules origin m t))

pub instead_reads : {room : ℕ} {x : List Symbol} (rules : Rules) (origin : Name Nothing) (m : Word) (t : Symbol) (w : List Symbol) → x ≡ t ∷ w → rule_role t ≡ by_instead_of → 2 ≤ room
    → Leads walk_member room (past_second_word rules origin m) x (due_trait (of_instead rules origin m) empty) w
instead_reads rules origin m t w is role low = step (due_trait (of_instead rules origin m) empty) t w is (ap (second_word_step rules origin m) role) (omega (arith, low))

-- what can't stand there
abbrev pub NoVerb : Option (Name Nothing) → Word → RuleRole → Type 0
NoVerb origin m by_as = ⊥
NoVerb None (tree.named note text) by_colons = ⊥
NoVerb None m x = Unit {0}
NoVerb (Some o) m by_instead_of = ⊥
NoVerb (Some o) m x = Unit {0}

verb_none : (rules : Rules) (origin : Option (Name Nothing)) (m : Word) (x : RuleRole) (t : Symbol) → rule_role t ≡ x → NoVerb origin m x → advance_member (past_head rules origin m) t ≡ None
verb_none rules None (tree.named note text) by_as t is h = absurd h
verb_none rules None (tree.named note text) by_colons t is h = absurd h
verb_none rules None (tree.named note text) by_instead_of t is h = ap (first_word_step rules (tree.named note text)) is
verb_none rules None (tree.named note text) by_no_rule t is h = ap (first_word_step rules (tree.named note text)) is
verb_none rules None (tree.reserved note k) by_as t is h = absurd h
verb_none rules None (tree.reserved note k) by_colons t is h = ap (first_word_step rules (tree.reserved note k)) is
verb_none rules None (tree.reserved note k) by_instead_of t is h = ap (first_word_step rules (tree.reserved note k)) is
verb_none rules None (tree.reserved note k) by_no_rule t is h = ap (first_word_step rules (tree.reserved note k)) is
verb_none rules None (tree.held note text) by_as t is h = absurd h
verb_none rules None (tree.held note text) by_colons t is h = ap (first_word_step rules (tree.held note text)) is
verb_none rules None (tree.held note text) by_instead_of t is h = ap (first_word_step rules (tree.held note text)) is
verb_none rules None (tree.held note text) by_no_rule t is h = ap (first_word_step rules (tree.held note text)) is
verb_none rules (Some o) m by_as t is h = absurd h
verb_none rules (Some o) m by_colons t is h = ap (second_word_step rules o m) is
verb_none rules (Some o) m by_instead_of t is h = absurd h
verb_none rules (Some o) m by_no_rule t is h = ap (second_word_step rules o m) is

verb_stuck : (rules : Rules) (origin : Option (Name Nothing)) (m : Word) (w : List Symbol) → NoVerb origin m (head_verb w) → NoStep (past_head rules origin m) w
verb_stuck rules origin m [] h = tt
verb_stuck rules origin m (t ∷ w) h = verb_none rules origin m (rule_role t) t refl h

head_lacks : (rules : Rules) (origin : Option (Name Nothing)) (m : Word) (v : List Symbol) → outcome (halt_member (past_head rules origin m) v) ≡ short v
head_lacks rules None m v = refl
head_lacks rules (Some o) m v = refl

pub verb_lacks : {room : ℕ} {w : List Symbol} (rules : Rules) (origin : Option (Name Nothing)) (m : Word) → NoVerb origin m (head_verb w) → Halts walk_member false room (past_head rules origin m) w w
verb_lacks {room} {w} rules origin m h = stuck (past_head rules origin m) w (λ v. head_lacks rules origin m v) (verb_stuck rules origin m w h)

-- from what the parser saw
pub no_verb : (origin : Option (Name Nothing)) (m : Word) (x : RuleRole) (w : List Symbol) → head_verb w ≡ x → NoClass origin m w → x ≢ by_as → x ≢ by_instead_of → NoVerb origin m x
no_verb origin m by_as w is c a b = absurd (a refl)
no_verb origin m by_instead_of w is c a b = absurd (b refl)
no_verb None (tree.named note text) by_colons w is c a b = c is
no_verb None (tree.reserved note k) by_colons w is c a b = tt
no_verb None (tree.held note text) by_colons w is c a b = tt
no_verb (Some o) m by_colons w is c a b = tt
no_verb None (tree.named note text) by_no_rule w is c a b = tt
no_verb None (tree.reserved note k) by_no_rule w is c a b = tt
no_verb None (tree.held note text) by_no_rule w is c a b = tt
no_verb (Some o) m by_no_rule w is c a b = tt

pub no_origin : (m : Word) (x : RuleRole) → x ≡ by_instead_of → NoVerb None m x
no_origin m by_as is = absurd (cc)
no_origin (tree.named note text) by_instead_of is = tt
no_origin (tree.reserved note k) by_instead_of is = tt
no_origin (tree.held note text) by_instead_of is = tt
no_origin m by_colons is = absurd (cc)
no_origin m by_no_rule is = absurd (cc)

-- ---- behind `as`

pub seen_reads : {room : ℕ} {x : List Symbol} (rules : Rules) (origin : Option (Name Nothing)) (m : Word) (seen : Visibility) (t : Symbol) (w : List Symbol) → x ≡ t ∷ w → visibility_of t ≡ Some seen → 2 ≤ room
    → Leads walk_member room (past_as rules origin m) x (past_visibility rules origin m seen) w
seen_reads rules origin m seen t w is role low =
    step (past_visibility rules origin m seen) t w is
    (ap (λ o. either (if_some o (λ s. Some (past_visibility rules origin m s))) (either (word_here t (λ alias. due_rule_end rules (renames tt origin m None (Some alias)))) (rule_end rules (renames tt origin m None None) t))) role)
    (omega (arith, low))

-- Where no visibility stands first, none was read.
abbrev pub Unseen : Option Visibility → Option Visibility → Type 0
Unseen None here = here ≡ None
Unseen (Some seen) here = Unit {0}

alias_on : (rules : Rules) (origin : Option (Name Nothing)) (m alias : Word) (seen : Option Visibility) (t : Symbol) → Unseen seen (visibility_of t) → word_of t ≡ Some alias
    → advance_member (past_tail rules origin m seen None) t ≡ Some (due_rule_end rules (renames tt origin m seen (Some alias)))
alias_on rules origin m alias None t unseen named =
    ap (λ o. either (if_some o (λ s. Some (past_visibility rules origin m s))) (either (word_here t (λ z. due_rule_end rules (renames tt origin m None (Some z)))) (rule_end rules (renames tt origin m None None) t))) unseen
    ∙ ap (λ o. either (if_some o (λ z. Some (due_rule_end rules (renames tt origin m None (Some z))))) (rule_end rules (renames tt origin m None None) t)) named
alias_on rules origin m alias (Some seen) t unseen named =
    ap (λ o. either (if_some o (λ z. Some (due_rule_end rules (renames tt origin m (Some seen) (Some z))))) (rule_end rules (renames tt origin m (Some seen) None) t)) named

tail_depth : (rules : Rules) (origin : Option (Name Nothing)) (m : Word) (seen : Option Visibility) (alias : Option Word) (t : Symbol) → member_depth_at (past_tail rules origin m seen alias) t ≡ 1
tail_depth rules origin m None None t = refl
tail_depth rules origin m (Some seen) None t = refl
tail_depth rules origin m None (Some alias) t = refl
tail_depth rules origin m (Some seen) (Some alias) t = refl

pub alias_reads : {room : ℕ} {x : List Symbol} (rules : Rules) (origin : Option (Name Nothing)) (m alias : Word) (seen : Option Visibility) (t : Symbol) (w : List Symbol) → x ≡ t ∷ w → Unseen seen (head_visibility x) → word_of t ≡ Some alias → 2 ≤ room
    → Leads walk_member room (past_tail rules origin m seen None) x (past_tail rules origin m seen (Some alias)) w
alias_reads {room} {x} rules origin m alias seen t w is unseen named low = step (past_tail rules origin m seen (Some alias)) t w is (on seen unseen) (omega (arith, low, tail_depth rules origin m seen None t))
  where
    on : (s : Option Visibility) → Unseen s (head_visibility x) → advance_member (past_tail rules origin m s None) t ≡ Some (past_tail rules origin m s (Some alias))
    on None h = alias_on rules origin m alias None t (sym (ap head_visibility is) ∙ h) named
    on (Some v) h = alias_on rules origin m alias (Some v) t tt named

-- ---- the end of a rule

keyword_word : (k : Keyword) → reserved_if (may_name k) k ≡ None → visibility_of_keyword k ≡ None
keyword_word word.Public h = cc
keyword_word word.Protected h = cc
keyword_word word.Private h = cc
keyword_word _ h = refl

no_visibility : (t : Symbol) → word_of t ≡ None → visibility_of t ≡ None
no_visibility (keyword k) h = keyword_word k h
no_visibility _ h = refl

-- behind `as` with no other name
plain_end : (rules : Rules) (origin : Option (Name Nothing)) (m : Word) (t : Symbol) → word_of t ≡ None → advance_member (past_as rules origin m) t ≡ rule_end rules (renames tt origin m None None) t
plain_end rules origin m t h =
    ap (λ o. either (if_some o (λ s. Some (past_visibility rules origin m s))) (either (word_here t (λ z. due_rule_end rules (renames tt origin m None (Some z)))) (rule_end rules (renames tt origin m None None) t))) (no_visibility t h)
    ∙ ap (λ o. either (if_some o (λ z. Some (due_rule_end rules (renames tt origin m None (Some z))))) (rule_end rules (renames tt origin m None None) t)) h

seen_end : (rules : Rules) (origin : Option (Name Nothing)) (m : Word) (seen : Visibility) (t : Symbol) → word_of t ≡ None → advance_member (past_visibility rules origin m seen) t ≡ rule_end rules (renames tt origin m (Some seen) None) t
seen_end rules origin m seen t h = ap (λ o. either (if_some o (λ z. Some (due_rule_end rules (renames tt origin m (Some seen) (Some z))))) (rule_end rules (renames tt origin m (Some seen) None) t)) h

abbrev pub NoAliasHere : Option Word → Symbol → Type 0
NoAliasHere None t = word_of t ≡ None
NoAliasHere (Some alias) t = Unit {0}

tail_end : (rules : Rules) (origin : Option (Name Nothing)) (m : Word) (seen : Option Visibility) (alias : Option Word) (t : Symbol) → NoAliasHere alias t
    → advance_member (past_tail rules origin m seen alias) t ≡ rule_end rules (renames tt origin m seen alias) t
tail_end rules origin m None None t h = plain_end rules origin m t h
tail_end rules origin m (Some seen) None t h = seen_end rules origin m seen t h
tail_end rules origin m None (Some alias) t h = refl
tail_end rules origin m (Some seen) (Some alias) t h = refl

alias_here : (alias : Option Word) (x : List Symbol) (t : Symbol) (w : List Symbol) → x ≡ t ∷ w → NoAlias alias x → NoAliasHere alias t
alias_here None x t w is h = sym (ap head_word is) ∙ h
alias_here (Some alias) x t w is h = tt

pub tail_ends : {room : ℕ} {x : List Symbol} (rules : Rules) (origin : Option (Name Nothing)) (m : Word) (seen : Option Visibility) (alias : Option Word) (t : Symbol) (w : List Symbol) → x ≡ t ∷ w → NoAlias alias x → is_semicolon t ≡ true → 2 ≤ room
    → Leads walk_member room (past_tail rules origin m seen alias) x (due_rule (with_rule rules (renames tt origin m seen alias))) w
tail_ends {room} {x} rules origin m seen alias t w is no_more ends low =
    step (due_rule (with_rule rules (renames tt origin m seen alias))) t w is
    (tail_end rules origin m seen alias t (alias_here alias x t w is no_more) ∙ ap (λ b. pick b (Some (due_rule (with_rule rules (renames tt origin m seen alias)))) None) ends)
    (omega (arith, low, tail_depth rules origin m seen alias t))

tail_stuck : (rules : Rules) (origin : Option (Name Nothing)) (m : Word) (seen : Option Visibility) (alias : Option Word) (w : List Symbol) → NoAlias alias w → test is_semicolon w ≡ false → NoStep (past_tail rules origin m seen alias) w
tail_stuck rules origin m seen alias [] no_more h = tt
tail_stuck rules origin m seen alias (t ∷ w) no_more h =
    tail_end rules origin m seen alias t (alias_here alias (t ∷ w) t w refl no_more) ∙ ap (λ b. pick b (Some (due_rule (with_rule rules (renames tt origin m seen alias)))) None) h

tail_lacks : (rules : Rules) (origin : Option (Name Nothing)) (m : Word) (seen : Option Visibility) (alias : Option Word) (v : List Symbol) → outcome (halt_member (past_tail rules origin m seen alias) v) ≡ short v
tail_lacks rules origin m None None v = refl
tail_lacks rules origin m (Some seen) None v = refl
tail_lacks rules origin m None (Some alias) v = refl
tail_lacks rules origin m (Some seen) (Some alias) v = refl

pub tail_unended : {room : ℕ} {w : List Symbol} (rules : Rules) (origin : Option (Name Nothing)) (m : Word) (seen : Option Visibility) (alias : Option Word) → NoAlias alias w → test is_semicolon w ≡ false
    → Halts walk_member false room (past_tail rules origin m seen alias) w w
tail_unended {room} {w} rules origin m seen alias no_more h = stuck (past_tail rules origin m seen alias) w (λ v. tail_lacks rules origin m seen alias v) (tail_stuck rules origin m seen alias w no_more h)

-- ---- the end of names

pub instead_ends : {room : ℕ} {x : List Symbol} (rules : Rules) (origin : Name Nothing) (m : Word) (names : Names) (t : Symbol) (w : List Symbol) → x ≡ t ∷ w → ending t ≡ closer ender.Semicolon → 2 ≤ room
    → Leads walk_member room (past_trait (of_instead rules origin m) names) x (due_rule (with_rule rules (prefers tt origin m names))) w
instead_ends rules origin m names t w is ends low = step (due_rule (with_rule rules (prefers tt origin m names))) t w is (ap (listed_step (of_instead rules origin m) names t) ends) (omega (arith, low))

instead_none : (rules : Rules) (origin : Name Nothing) (m : Word) (names : Names) (t : Symbol) (x : Ending) → x ≢ closer ender.Comma → x ≢ closer ender.Semicolon → listed_step (of_instead rules origin m) names t x ≡ None
instead_none rules origin m names t (closer ender.Comma) p q = absurd (p refl)
instead_none rules origin m names t (closer ender.Semicolon) p q = absurd (q refl)
instead_none rules origin m names t (closer ender.Paren) p q = refl
instead_none rules origin m names t (closer ender.Bracket) p q = refl
instead_none rules origin m names t (closer ender.Brace) p q = refl
instead_none rules origin m names t (closer ender.DoubleArrow) p q = refl
instead_none rules origin m names t (closer ender.Colon) p q = refl
instead_none rules origin m names t (closer ender.EndPart) p q = refl
instead_none rules origin m names t _ p q = refl

instead_stuck : (rules : Rules) (origin : Name Nothing) (m : Word) (names : Names) (w : List Symbol) → head_ending w ≢ closer ender.Comma → head_ending w ≢ closer ender.Semicolon → NoStep (past_trait (of_instead rules origin m) names) w
instead_stuck rules origin m names [] p q = tt
instead_stuck rules origin m names (t ∷ w) p q = instead_none rules origin m names t (ending t) p q

pub instead_unended : {room : ℕ} {w : List Symbol} (rules : Rules) (origin : Name Nothing) (m : Word) (names : Names) → head_ending w ≢ closer ender.Comma → head_ending w ≢ closer ender.Semicolon
    → Halts walk_member false room (past_trait (of_instead rules origin m) names) w w
instead_unended {room} {w} rules origin m names p q = stuck (past_trait (of_instead rules origin m) names) w (λ v. refl) (instead_stuck rules origin m names w p q)

-- ---- the whole of a `use`

pub use_begins : {room : ℕ} {x : List Symbol} (t : Symbol) (w : List Symbol) → x ≡ t ∷ w → member_role t ≡ at_use → 1 ≤ room → Leads walk_member room (past_modifiers empty) x (due_trait of_use empty) w
use_begins t w is role low = step (due_trait of_use empty) t w is (ap (first_step empty) role) (omega (arith, low))

pub use_ends : {room : ℕ} {x : List Symbol} (names : Names) (t : Symbol) (w : List Symbol) → x ≡ t ∷ w → ending t ≡ closer ender.Semicolon → 1 ≤ room → Leads walk_member room (past_trait of_use names) x (past_member (uses tt names)) w
use_ends names t w is ends low = step (past_member (uses tt names)) t w is (ap (listed_step of_use names t) ends) (omega (arith, low))

-- the brace ends no list
brace_is : (t : Symbol) → is_left_brace t ≡ true → t ≡ punct mark.LeftBrace
brace_is (punct mark.LeftBrace) h = refl
brace_is _ h = cc

pub use_opens : {room : ℕ} {x : List Symbol} (names : Names) (t : Symbol) (w : List Symbol) → x ≡ t ∷ w → is_left_brace t ≡ true → 1 ≤ room → Leads walk_member room (past_trait of_use names) x (due_rule (ruled names empty)) w
use_opens names t w is opens low = step (due_rule (ruled names empty)) t w is (ap (λ u. advance_member (past_trait of_use names) u) (brace_is t opens)) (omega (arith, low))

use_none : (names : Names) (t : Symbol) (x : Ending) → x ≢ closer ender.Comma → x ≢ closer ender.Semicolon → is_left_brace t ≡ false → listed_step of_use names t x ≡ None
use_none names t (closer ender.Comma) p q h = absurd (p refl)
use_none names t (closer ender.Semicolon) p q h = absurd (q refl)
use_none names t (closer ender.Paren) p q h = ap (λ b. pick b (Some (due_rule (ruled names empty))) None) h
use_none names t (closer ender.Bracket) p q h = ap (λ b. pick b (Some (due_rule (ruled names empty))) None) h
use_none names t (closer ender.Brace) p q h = ap (λ b. pick b (Some (due_rule (ruled names empty))) None) h
use_none names t (closer ender.DoubleArrow) p q h = ap (λ b. pick b (Some (due_rule (ruled names empty))) None) h
use_none names t (closer ender.Colon) p q h = ap (λ b. pick b (Some (due_rule (ruled names empty))) None) h
use_none names t (closer ender.EndPart) p q h = ap (λ b. pick b (Some (due_rule (ruled names empty))) None) h
use_none names t _ p q h = ap (λ b. pick b (Some (due_rule (ruled names empty))) None) h

use_stuck : (names : Names) (w : List Symbol) → head_ending w ≢ closer ender.Comma → head_ending w ≢ closer ender.Semicolon → test is_left_brace w ≡ false → NoStep (past_trait of_use names) w
use_stuck names [] p q h = tt
use_stuck names (t ∷ w) p q h = use_none names t (ending t) p q h

pub use_unended : {room : ℕ} {w : List Symbol} (names : Names) → head_ending w ≢ closer ender.Comma → head_ending w ≢ closer ender.Semicolon → test is_left_brace w ≡ false → Halts walk_member false room (past_trait of_use names) w w
use_unended {room} {w} names p q h = stuck (past_trait of_use names) w (λ v. refl) (use_stuck names w p q h)

-- ---- the braces of rules

pub rules_end : {room : ℕ} {x : List Symbol} (traits : Names) (rules : Sequence (Rule Nothing)) (t : Symbol) (w : List Symbol) → x ≡ t ∷ w → is_right_brace t ≡ true → 2 ≤ room
    → Leads walk_member room (due_rule (ruled traits rules)) x (past_member (uses_by tt traits rules)) w
rules_end traits rules t w is ends low =
    step (past_member (uses_by tt traits rules)) t w is (ap (λ b. pick b (Some (past_member (uses_by tt traits rules))) (word_here t (past_first_word (ruled traits rules)))) ends) (omega (arith, low))

-- where no level is left
pub end_sinks : {x : List Symbol} (rules : Rules) (t : Symbol) (w : List Symbol) → x ≡ t ∷ w → is_right_brace t ≡ true → Halts walk_member true 1 (due_rule rules) x x
end_sinks rules t w is ends =
    sink (past_member (uses_by tt rules.traits rules.rules)) t w is (ap (λ b. pick b (Some (past_member (uses_by tt rules.traits rules.rules))) (word_here t (past_first_word rules))) ends) (omega arith)

pub word_sinks : {x : List Symbol} (rules : Rules) (m : Word) (t : Symbol) (w : List Symbol) → x ≡ t ∷ w → word_of t ≡ Some m → Halts walk_member true 1 (due_rule rules) x x
word_sinks rules m t w is named = sink (past_first_word rules m) t w is (not_brace rules m t named) (omega arith)

-- ---- a visibility or none, from what the parser saw

pub tail_seen : (tokens : List Token) (at next room : ℕ) (rules : Rules) (origin : Option (Name Nothing)) (m : Word) (seen : Option Visibility) → 2 ≤ room → next ≡ at + size_one seen → SeesVisibility tokens at seen
    → Leads walk_member room (past_as rules origin m) (rest tokens at) (past_tail rules origin m seen None) (rest tokens next)
tail_seen tokens at next room rules origin m None low is o =
    let same : next ≡ at = omega (arith, is) in
    record { same = λ n here. ap (λ k. walk_member n (past_as rules origin m) (rest tokens k)) (sym same) }
tail_seen tokens at next room rules origin m (Some seen) low is o =
    seen_reads rules origin m seen o.token (rest tokens next) (o.stands.is ∙ ap (λ k. o.token ∷ rest tokens k) (sym is)) o.role_is low

pub tail_unseen : (tokens : List Token) (at next : ℕ) (seen : Option Visibility) → next ≡ at + size_one seen → SeesVisibility tokens at seen → Unseen seen (head_visibility (rest tokens next))
tail_unseen tokens at next None is o = let same : next ≡ at = omega (arith, is) in ap (λ k. head_visibility (rest tokens k)) same ∙ o
tail_unseen tokens at next (Some seen) is o = tt

-- behind a visibility there is a place
pub visibility_fits : (tokens : List Token) (at : ℕ) (seen : Option Visibility) → SeesVisibility tokens at seen → VisibilityFits seen at
visibility_fits tokens at None o = tt
visibility_fits tokens at (Some seen) o = o.stands.fits

pub visibility_within : (tokens : List Token) (at next : ℕ) (seen : Option Visibility) → at ≤ length tokens → next ≡ at + size_one seen → SeesVisibility tokens at seen → next ≤ length tokens
visibility_within tokens at next None low is o = omega (arith, low, is)
visibility_within tokens at next (Some seen) low is o = omega (arith, is, o.stands.within)

pub no_rules : (room : ℕ) (tokens : List Token) (at : ℕ) (rules : Rules) (e : Stop) → room ≡ 1 → AnswersNoRules tokens at e → Fails walk_member room (due_rule rules) (rest tokens at) tokens at e
no_rules room tokens at rules e is f = subst (λ k. Fails walk_member k (due_rule rules) (rest tokens at) tokens at e) (sym is) (f rules)

-- ---- `insteadof`, from what the parser saw

pub head_reads : {x : List Symbol} {from : MemberState} (tokens : List Token) (at room : ℕ) (rules : Rules) (origin : Option (Name Nothing)) (o : Name Nothing) (m : Word) → origin ≡ Some o
    → Leads walk_member room from x (past_head rules origin m) (rest tokens at) → Shows rule_role tokens at by_instead_of → 2 ≤ room → Leads walk_member room from x (due_trait (of_instead rules o m) empty) (rest tokens (at + 1))
head_reads {x} {from} tokens at room rules origin o m is reads seen low =
    leads (past_second_word rules o m) (subst (λ z. Leads walk_member room from x (past_head rules z m) (rest tokens at)) is reads) (instead_reads rules o m seen.token (rest tokens (at + 1)) seen.stands.is seen.role_is low)

-- without a class
pub instead_lacks : (tokens : List Token) (at : ℕ) (origin : Option (Name Nothing)) (m : Word) → Shows rule_role tokens at by_instead_of → origin ≡ None → NoVerb origin m (head_verb (rest tokens at))
instead_lacks tokens at origin m seen none =
    subst (λ z. NoVerb z m (head_verb (rest tokens at))) (sym none) (no_origin m (head_verb (rest tokens at)) (ap head_verb seen.stands.is ∙ seen.role_is))

-- what is no `as` and no `insteadof`, from what the parser saw
pub other_verb : (tokens : List Token) (at : ℕ) (origin : Option (Name Nothing)) (m : Word) (v : Verb) → SeesVerb tokens at (verb_view v) → NoClass origin m (rest tokens at) → v ≢ verb.As → v ≢ verb.InsteadOf
    → NoVerb origin m (head_verb (rest tokens at))
other_verb tokens at origin m verb.As o c a b = absurd (a refl)
other_verb tokens at origin m verb.InsteadOf o c a b = absurd (b refl)
other_verb tokens at origin m verb.Colons o c a b =
    let is : head_verb (rest tokens at) ≡ by_colons = ap head_verb o.stands.is ∙ o.role_is in
    no_verb origin m (head_verb (rest tokens at)) (rest tokens at) refl c (λ h. cc) (λ h. cc)
other_verb tokens at origin m verb.Other o c a b = no_verb origin m (head_verb (rest tokens at)) (rest tokens at) refl c (λ h. cc) (λ h. cc)
