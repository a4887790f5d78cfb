-- From what tokens are in the program to the roles of the grammar.
use Rattle.std.specs.Prelude.{◌≡◌, ◌≢◌, ◌<◌, ◌^◌, ℕ, ◌+◌, Bool, true, false, Option, Some, None, List, [], ◌∷◌}
use Rattle.php_token.specs.Token.{Token}
use Rattle.php_ast.specs.declared.declaration.Visibility.{Visibility}
use Rattle.php_ast.specs.Symbol.{Symbol}
use Rattle.php_grammar.specs.declaration.MemberMachine.{MemberRole, at_modifier, at_function, at_class_constants, at_use, at_variable, at_other, member_role, RuleRole, by_as, by_instead_of, by_colons, by_no_rule, rule_role, visibility_of}
use Rattle.php_reader.specs.Seen.{Shows, rest}
use Rattle.php_parse_member.specs.declared.lead.Lead.{Lead}
use Rattle.php_parse_member.specs.declared.lead.Lead.TheVariants as lead
use Rattle.php_parse_member.specs.declared.lead.Verb.{Verb}
use Rattle.php_parse_member.specs.declared.lead.Verb.TheVariants as verb

-- of a token with this text
abbrev pub lead_view : Lead → List ℕ → MemberRole
lead_view (lead.Modifier w) text = at_modifier w
lead_view lead.Function text = at_function
lead_view lead.Constants text = at_class_constants
lead_view lead.Use text = at_use
lead_view lead.Variable text = at_variable text
lead_view lead.Other text = at_other

-- the role of the first of these symbols; nothing is at the end
abbrev pub head_lead : List Symbol → MemberRole
head_lead [] = at_other
head_lead (t ∷ w) = member_role t

abbrev pub SeesLead : List Token → ℕ → MemberRole → Type 0
SeesLead tokens at at_other = head_lead (rest tokens at) ≡ at_other
SeesLead tokens at x = Shows member_role tokens at x

abbrev pub verb_view : Verb → RuleRole
verb_view verb.As = by_as
verb_view verb.InsteadOf = by_instead_of
verb_view verb.Colons = by_colons
verb_view verb.Other = by_no_rule

abbrev pub head_verb : List Symbol → RuleRole
head_verb [] = by_no_rule
head_verb (t ∷ w) = rule_role t

abbrev pub SeesVerb : List Token → ℕ → RuleRole → Type 0
SeesVerb tokens at by_no_rule = head_verb (rest tokens at) ≡ by_no_rule
SeesVerb tokens at x = Shows rule_role tokens at x

abbrev pub head_visibility : List Symbol → Option Visibility
head_visibility [] = None
head_visibility (t ∷ w) = visibility_of t

abbrev pub SeesVisibility : List Token → ℕ → Option Visibility → Type 0
SeesVisibility tokens at None = head_visibility (rest tokens at) ≡ None
SeesVisibility tokens at (Some v) = Shows visibility_of tokens at (Some v)

-- whether `::` stands at a place
abbrev pub SeesColons : List Token → ℕ → Bool → Type 0
SeesColons tokens at true = Shows rule_role tokens at by_colons
SeesColons tokens at false = head_verb (rest tokens at) ≢ by_colons

-- The place behind a visibility is a number of the program.
abbrev pub VisibilityFits : Option Visibility → ℕ → Type 0
VisibilityFits None at = Unit {0}
VisibilityFits (Some v) at = at + 1 < 2 ^ 64
