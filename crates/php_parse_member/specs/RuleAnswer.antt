-- What the functions of the parser answer that read a `use` of traits and its rules.
use Rattle.std.specs.Prelude.{◌≡◌, ◌≢◌, ◌≤◌, ◌<◌, ℕ, ◌+◌, Option, Some, None, Result, Ok, Err, List, length}
use Rattle.php_token.specs.Token.{Token}
use Rattle.php_ast.specs.declared.declaration.Rule as rust_rule
use Rattle.php_ast.specs.declared.declaration.Visibility.{Visibility}
use Rattle.php_ast.specs.declared.spot.Name as rust_name
use Rattle.php_ast.specs.Symbol.{Symbol}
use Rattle.php_ast.specs.expression.Tree as tree
use Rattle.php_ast.specs.expression.View.{word_view}
use Rattle.php_ast.specs.expression.Placed.{noted_member, notes_of}
use Rattle.php_ast.specs.statement.Tree.{Sequence, empty, Name}
use Rattle.php_ast.specs.statement.View.{sequence, optional, name_view, names_view}
use Rattle.php_ast.specs.statement.Placed.{size_separated, noted_separated, size_name, noted_name}
use Rattle.php_ast.specs.declaration.Tree.{Rule, renames, uses_by}
use Rattle.php_ast.specs.declaration.Placed.{size_one, noted_alias, size_origin, noted_one_name, size_rule, noted_rule, size_joined, noted_joined}
use Rattle.php_ast.specs.declaration.View.{rule_view}
use Rattle.php_grammar.specs.expression.Machine.{Nothing}
use Rattle.php_grammar.specs.declared.closer.Closer.TheVariants as ender
use Rattle.php_grammar.specs.statement.Role.{closer}
use Rattle.php_grammar.specs.declaration.Depth.{names_in_depth}
use Rattle.php_grammar.specs.declaration.MemberMachine.{Word, Names, Rules, with_rule, NamesIn, MemberState, due_trait, past_trait, due_rule, past_first_word, past_second_word, past_as, past_visibility, due_rule_end, past_member, by_colons}
use Rattle.php_grammar_laws.specs.Walks.{walk_member}
use Rattle.php_reader.specs.declared.reader.Reader.{Reader}
use Rattle.php_reader.specs.declared.fail.Stop.{Stop}
use Rattle.php_reader.specs.declared.fail.Stop.TheVariants.{NoMemory}
use Rattle.php_reader.specs.Seen.{rest, head_word}
use Rattle.php_parse_simple.specs.NameAnswer.{SpansSoFar}
use Rattle.php_parse_simple.specs.Walk.{head_ending}
use Rattle.php_reader.specs.declared.found.Listed.{Listed}
use Rattle.php_parse_member.specs.declared.read.RuleHead.{RuleHead}
use Rattle.php_parse_member.specs.declared.read.RuleTail.{RuleTail}
use Rattle.php_parse_member.specs.declared.read.ReadRule.{ReadRule}
use Rattle.php_parse_member.specs.declared.read.ReadRules.{ReadRules}
use Rattle.php_parse_member.specs.LeadView.{head_verb}
use Rattle.php_parse_member.specs.Walk.{Leads}
use Rattle.php_parse_member.specs.Answer.{Fails}

-- ---- names between commas

-- The last name stands in front of what is no comma. Names behind `insteadof` stand one level deeper than traits.
pub record FoundNames (room : ℕ) (tokens : List Token) (at : ℕ) (r : Listed rust_name.Name) : Type 0 where
  pub names : Names
  pub shown : names_view r.items ≡ noted_separated size_name (noted_name (notes_of tokens)) at names
  pub sized : at + size_separated size_name names ≡ r.next
  pub reads : (list : NamesIn) → names_in_depth list + 1 ≤ room → Leads walk_member room (due_trait list empty) (rest tokens at) (past_trait list names) (rest tokens r.next)
  pub no_comma : head_ending (rest tokens r.next) ≢ closer ender.Comma
  pub ahead : at < r.next
  pub within : r.next ≤ length tokens

abbrev pub AnswersNames : Reader → ℕ → Result (Listed rust_name.Name) Stop → Type 0
AnswersNames reader at (Ok r) = FoundNames reader.room reader.tokens.now at r
AnswersNames reader at (Err e) =
    (list : NamesIn) → names_in_depth list + 1 ≤ reader.room → Fails walk_member reader.room (due_trait list empty) (rest reader.tokens.now at) reader.tokens.now at e

-- behind each of which a comma was read
pub record NamesSoFar (room : ℕ) (tokens : List Token) (at : ℕ) (xs : List rust_name.Name) (next : ℕ) : Type 0 where
  pub names : Names
  pub spans : SpansSoFar (sequence name_view xs) size_name (noted_name (notes_of tokens)) at names next
  pub reads : (list : NamesIn) → names_in_depth list + 1 ≤ room → Leads walk_member room (due_trait list empty) (rest tokens at) (due_trait list names) (rest tokens next)
  pub ahead : at ≤ next
  pub within : next ≤ length tokens

-- ---- rules

-- behind the first words of a rule
abbrev pub past_head : Rules → Option (Name Nothing) → Word → MemberState
past_head rules None w = past_first_word rules w
past_head rules (Some origin) w = past_second_word rules origin w

-- A word that is a name may be that of a class, in front of `::`.
abbrev pub NoClass : Option (Name Nothing) → Word → List Symbol → Type 0
NoClass None (tree.named note text) v = head_verb v ≢ by_colons
NoClass _ w v = Unit {0}

pub record FoundHead (room : ℕ) (tokens : List Token) (at : ℕ) (r : RuleHead) : Type 0 where
  pub origin : Option (Name Nothing)
  pub word : Word
  pub origin_shown : optional name_view r.origin ≡ noted_one_name (notes_of tokens) at origin
  pub word_shown : word_view r.word ≡ noted_member (notes_of tokens) (at + size_origin origin) word
  pub sized : at + size_origin origin + 1 ≡ r.next
  pub reads : (rules : Rules) → Leads walk_member room (due_rule rules) (rest tokens at) (past_head rules origin word) (rest tokens r.next)
  pub no_class : NoClass origin word (rest tokens r.next)
  pub within : r.next ≤ length tokens

abbrev pub FailsRule : Reader → ℕ → Stop → Type 0
FailsRule reader at e = (rules : Rules) → Fails walk_member reader.room (due_rule rules) (rest reader.tokens.now at) reader.tokens.now at e

abbrev pub AnswersHead : Reader → ℕ → Result RuleHead Stop → Type 0
AnswersHead reader at (Ok r) = FoundHead reader.room reader.tokens.now at r
AnswersHead reader at (Err e) = FailsRule reader at e

-- behind `as`, and what stands there of a visibility and another name
abbrev pub past_tail : Rules → Option (Name Nothing) → Word → Option Visibility → Option Word → MemberState
past_tail rules origin w None None = past_as rules origin w
past_tail rules origin w (Some seen) None = past_visibility rules origin w seen
past_tail rules origin w seen (Some alias) = due_rule_end rules (renames tt origin w seen (Some alias))

-- Where no other name was read, no word stands that could be one.
abbrev pub NoAlias : Option Word → List Symbol → Type 0
NoAlias None v = head_word v ≡ None
NoAlias (Some alias) v = Unit {0}

pub record FoundTail (room : ℕ) (tokens : List Token) (at : ℕ) (r : RuleTail) : Type 0 where
  pub alias : Option Word
  pub shown : optional word_view r.alias ≡ noted_alias (notes_of tokens) (at + size_one r.seen) alias
  pub sized : at + size_one r.seen + size_one alias ≡ r.next
  pub reads : (rules : Rules) (origin : Option (Name Nothing)) (w : Word) → Leads walk_member room (past_as rules origin w) (rest tokens at) (past_tail rules origin w r.seen alias) (rest tokens r.next)
  pub no_alias : NoAlias alias (rest tokens r.next)
  pub within : r.next ≤ length tokens

-- Reading what stands behind `as` fails for want of memory alone.
abbrev pub NoMore : Stop → Type 0
NoMore e = e ≡ NoMemory

abbrev pub AnswersTail : Reader → ℕ → Result RuleTail Stop → Type 0
AnswersTail reader at (Ok r) = FoundTail reader.room reader.tokens.now at r
AnswersTail reader at (Err e) = NoMore e

pub record FoundRule (room : ℕ) (tokens : List Token) (at : ℕ) (r : ReadRule) : Type 0 where
  pub form : Rule Nothing
  pub shown : rule_view r.rule ≡ noted_rule (notes_of tokens) at form
  pub sized : at + size_rule form ≡ r.next
  pub reads : (rules : Rules) → Leads walk_member room (due_rule rules) (rest tokens at) (due_rule (with_rule rules form)) (rest tokens r.next)
  pub ahead : at < r.next
  pub within : r.next ≤ length tokens

abbrev pub AnswersRule : Reader → ℕ → Result ReadRule Stop → Type 0
AnswersRule reader at (Ok r) = FoundRule reader.room reader.tokens.now at r
AnswersRule reader at (Err e) = FailsRule reader at e

abbrev pub ruled : Names → Sequence (Rule Nothing) → Rules
ruled traits rules = record { traits = traits; rules = rules }

-- rules and the `}` behind them
pub record FoundRules (room : ℕ) (tokens : List Token) (at : ℕ) (r : ReadRules) : Type 0 where
  pub rules : Sequence (Rule Nothing)
  pub shown : sequence rule_view r.rules ≡ noted_joined size_rule (noted_rule (notes_of tokens)) at rules
  pub sized : at + size_joined size_rule rules + 1 ≡ r.next
  pub reads : (traits : Names) → Leads walk_member room (due_rule (ruled traits empty)) (rest tokens at) (past_member (uses_by tt traits rules)) (rest tokens r.next)
  pub within : r.next ≤ length tokens

abbrev pub AnswersRules : Reader → ℕ → Result ReadRules Stop → Type 0
AnswersRules reader at (Ok r) = FoundRules reader.room reader.tokens.now at r
AnswersRules reader at (Err e) = (traits : Names) → Fails walk_member reader.room (due_rule (ruled traits empty)) (rest reader.tokens.now at) reader.tokens.now at e

pub record RulesSoFar (room : ℕ) (tokens : List Token) (at : ℕ) (xs : List rust_rule.Rule) (next : ℕ) : Type 0 where
  pub rules : Sequence (Rule Nothing)
  pub shown : sequence rule_view xs ≡ noted_joined size_rule (noted_rule (notes_of tokens)) at rules
  pub sized : at + size_joined size_rule rules ≡ next
  pub reads : (traits : Names) → Leads walk_member room (due_rule (ruled traits empty)) (rest tokens at) (due_rule (ruled traits rules)) (rest tokens next)
  pub within : next ≤ length tokens

-- where no level is left for what stands in the braces of rules
abbrev pub AnswersNoRules : List Token → ℕ → Stop → Type 0
AnswersNoRules tokens at e = (rules : Rules) → Fails walk_member 1 (due_rule rules) (rest tokens at) tokens at e
