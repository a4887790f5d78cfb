-- What stands behind a constant, a property or a name of a list.
use Rattle.std.proofs.Common.{◌≡◌, ◌≢◌, ◌≤◌, ℕ, suc, ◌+◌, true, false, Option, Some, None, List, [], ◌∷◌, refl, ◌∙◌, ap, arith}
use Rattle.std.specs.Prelude.{nat_lt}
use Rattle.std.proofs.lemmas.Bool.{le-ltb}
use Rattle.php_token.specs.declared.kind.Keyword.{Keyword}
use Rattle.php_token.specs.declared.kind.Keyword.TheVariants as word
use Rattle.php_ast.specs.Symbol as symbol
use Rattle.php_ast.specs.Symbol.{Symbol}
use Rattle.php_ast.specs.statement.Tree.{Sequence, then_also, Name, Variable}
use Rattle.php_ast.specs.declaration.Tree.{ClassConstant}
use Rattle.php_grammar.specs.declared.closer.Closer.TheVariants as ender
use Rattle.php_grammar.specs.Run.{if_some}
use Rattle.php_grammar.specs.expression.Machine.{Nothing, pick, expects}
use Rattle.php_grammar.specs.statement.Machine.{named_here}
use Rattle.php_grammar.specs.statement.Role.{Ending, closer, ending, is_assign, name_text, variable_text}
use Rattle.php_grammar.specs.declaration.Depth.{names_in_depth}
use Rattle.php_grammar.specs.declaration.MemberMachine.{member_keyword, Word, Modifiers, Names, NamesIn, MemberState, due_constant, past_constant, in_constant, due_property, past_property, in_property, due_trait, past_trait, with_property, constant_end, property_end, due_property_step, listed_step, advance_member, halt_member}
use Rattle.php_grammar.specs.expression.Role.{word_of}
use Rattle.php_grammar_laws.specs.Walks.{short, outcome, stepped, taken_on, walk_member}
use Rattle.php_reader.specs.Seen.{test, head_word}
use Rattle.php_parse_simple.specs.Answer.{head_text}
use Rattle.php_parse_simple.specs.Walk.{head_ending}
use Rattle.php_parse_member.specs.Walk.{Leads, Halts}
use Rattle.php_parse_member.specs.Answer.{behind_constant, behind_property}
use Rattle.php_parse_member.proofs.Moves.{past_on, NoneEnds, past_stuck}
use Rattle.php_parse_member.proofs.Steps.{NoStep, step, stuck}

-- ---- constants

no_constant_end : (ms : Modifiers) (items : Sequence (ClassConstant Nothing)) (x : Ending) → x ≢ closer ender.Comma → x ≢ closer ender.Semicolon → constant_end ms items x ≡ None
no_constant_end ms items (closer ender.Comma) p q = absurd (p refl)
no_constant_end ms items (closer ender.Semicolon) p q = absurd (q refl)
no_constant_end ms items _ p q = refl

constants_none : (ms : Modifiers) (items : Sequence (ClassConstant Nothing)) (v : List Symbol) → head_ending v ≢ closer ender.Comma → head_ending v ≢ closer ender.Semicolon → NoneEnds (λ t. constant_end ms items (ending t)) v
constants_none ms items [] p q = tt
constants_none ms items (t ∷ v) p q = no_constant_end ms items (ending t) p q

-- with the symbol behind it
pub constant_ends : {room : ℕ} {x w v : List Symbol} (ms : Modifiers) (items more : Sequence (ClassConstant Nothing)) (t : Symbol) (to : MemberState)
    → ((n : ℕ) → room ≡ suc n → walk_member n (due_constant ms items) x ≡ behind_constant ms more n w) → w ≡ t ∷ v → constant_end ms more (ending t) ≡ Some to → Leads walk_member room (due_constant ms items) x to v
constant_ends {room} {x} {w} {v} ms items more t to read is on = record { same = λ n at. read n at ∙ past_on (λ u. constant_end ms more (ending u)) (walk_member n) to t w v is on }

pub constant_unended : {room : ℕ} {x w : List Symbol} (ms : Modifiers) (items more : Sequence (ClassConstant Nothing))
    → ((n : ℕ) → room ≡ suc n → walk_member n (due_constant ms items) x ≡ behind_constant ms more n w) → head_ending w ≢ closer ender.Comma → head_ending w ≢ closer ender.Semicolon
    → Halts walk_member false room (due_constant ms items) x w
constant_unended {room} {x} {w} ms items more read p q =
    record { same = λ n at. read n at ∙ past_stuck (λ u. constant_end ms more (ending u)) (walk_member n) w (constants_none ms more w p q) }

-- the name and the `=`
pub constant_named : {room : ℕ} {x : List Symbol} (ms : Modifiers) (items : Sequence (ClassConstant Nothing)) (m : Word) (t : Symbol) (w : List Symbol) → x ≡ t ∷ w → word_of t ≡ Some m → 1 ≤ room
    → Leads walk_member room (due_constant ms items) x (past_constant ms items m) w
constant_named ms items m t w is named low = step (past_constant ms items m) t w is (ap (λ o. if_some o (λ z. Some (past_constant ms items z))) named) (omega (arith, low))

unnamed_by : (ms : Modifiers) (items : Sequence (ClassConstant Nothing)) (w : List Symbol) → head_word w ≡ None → NoStep (due_constant ms items) w
unnamed_by ms items [] h = tt
unnamed_by ms items (t ∷ w) h = ap (λ o. if_some o (λ z. Some (past_constant ms items z))) h

pub constant_unnamed : {room : ℕ} {w : List Symbol} (ms : Modifiers) (items : Sequence (ClassConstant Nothing)) → head_word w ≡ None → Halts walk_member false room (due_constant ms items) w w
constant_unnamed {room} {w} ms items h = stuck (due_constant ms items) w (λ v. refl) (unnamed_by ms items w h)

pub constant_assigned : {room : ℕ} {x : List Symbol} (ms : Modifiers) (items : Sequence (ClassConstant Nothing)) (m : Word) (t : Symbol) (w : List Symbol) → x ≡ t ∷ w → is_assign t ≡ true → 1 ≤ room
    → Leads walk_member room (past_constant ms items m) x (in_constant ms items m (expects [])) w
constant_assigned ms items m t w is assigns low =
    step (in_constant ms items m (expects [])) t w is (ap (λ b. pick b (Some (in_constant ms items m (expects []))) None) assigns) (omega (arith, low))

unassigned_by : (ms : Modifiers) (items : Sequence (ClassConstant Nothing)) (m : Word) (w : List Symbol) → test is_assign w ≡ false → NoStep (past_constant ms items m) w
unassigned_by ms items m [] h = tt
unassigned_by ms items m (t ∷ w) h = ap (λ b. pick b (Some (in_constant ms items m (expects []))) None) h

pub constant_unassigned : {room : ℕ} {w : List Symbol} (ms : Modifiers) (items : Sequence (ClassConstant Nothing)) (m : Word) → test is_assign w ≡ false → Halts walk_member false room (past_constant ms items m) w w
constant_unassigned {room} {w} ms items m h = stuck (past_constant ms items m) w (λ v. refl) (unassigned_by ms items m w h)

-- ---- properties

no_property_end : (ms : Modifiers) (items : Sequence (Variable Nothing)) (x : Ending) → x ≢ closer ender.Comma → x ≢ closer ender.Semicolon → property_end ms items x ≡ None
no_property_end ms items (closer ender.Comma) p q = absurd (p refl)
no_property_end ms items (closer ender.Semicolon) p q = absurd (q refl)
no_property_end ms items _ p q = refl

properties_none : (ms : Modifiers) (items : Sequence (Variable Nothing)) (v : List Symbol) → head_ending v ≢ closer ender.Comma → head_ending v ≢ closer ender.Semicolon → NoneEnds (λ t. property_end ms items (ending t)) v
properties_none ms items [] p q = tt
properties_none ms items (t ∷ v) p q = no_property_end ms items (ending t) p q

pub property_ends : {room : ℕ} {x w v : List Symbol} (ms : Modifiers) (items more : Sequence (Variable Nothing)) (t : Symbol) (to : MemberState)
    → ((n : ℕ) → room ≡ suc n → walk_member n (due_property ms items) x ≡ behind_property ms more n w) → w ≡ t ∷ v → property_end ms more (ending t) ≡ Some to → Leads walk_member room (due_property ms items) x to v
property_ends {room} {x} {w} {v} ms items more t to read is on = record { same = λ n at. read n at ∙ past_on (λ u. property_end ms more (ending u)) (walk_member n) to t w v is on }

pub property_unended : {room : ℕ} {x w : List Symbol} (ms : Modifiers) (items more : Sequence (Variable Nothing))
    → ((n : ℕ) → room ≡ suc n → walk_member n (due_property ms items) x ≡ behind_property ms more n w) → head_ending w ≢ closer ender.Comma → head_ending w ≢ closer ender.Semicolon
    → Halts walk_member false room (due_property ms items) x w
property_unended {room} {x} {w} ms items more read p q =
    record { same = λ n at. read n at ∙ past_stuck (λ u. property_end ms more (ending u)) (walk_member n) w (properties_none ms more w p q) }

variable_on : (ms : Modifiers) (items : Sequence (Variable Nothing)) (text : List ℕ) (t : Symbol) → variable_text t ≡ Some text → advance_member (due_property ms items) t ≡ Some (past_property ms items (named_here text))
variable_on ms items text (symbol.variable own) is = let same : own ≡ text = cc in ap (λ z. Some (past_property ms items (named_here z))) same
variable_on ms items text _ is = cc

pub property_named : {room : ℕ} {x : List Symbol} (ms : Modifiers) (items : Sequence (Variable Nothing)) (text : List ℕ) (t : Symbol) (w : List Symbol) → x ≡ t ∷ w → variable_text t ≡ Some text → 1 ≤ room
    → Leads walk_member room (due_property ms items) x (past_property ms items (named_here text)) w
property_named ms items text t w is named low = step (past_property ms items (named_here text)) t w is (variable_on ms items text t named) (omega (arith, low))

no_variable : (ms : Modifiers) (items : Sequence (Variable Nothing)) (t : Symbol) → variable_text t ≡ None → advance_member (due_property ms items) t ≡ None
no_variable ms items (symbol.variable own) is = cc
no_variable ms items (symbol.keyword k) is = keyword_none k
  where
    keyword_none : (k : Keyword) → due_property_step ms items (member_keyword k) ≡ None
    keyword_none word.Public = refl
    keyword_none word.Protected = refl
    keyword_none word.Private = refl
    keyword_none word.Static = refl
    keyword_none word.Abstract = refl
    keyword_none word.Final = refl
    keyword_none word.Var = refl
    keyword_none word.Function = refl
    keyword_none word.Const = refl
    keyword_none word.Use = refl
    keyword_none _ = refl
no_variable ms items _ is = refl

nameless_by : (ms : Modifiers) (items : Sequence (Variable Nothing)) (w : List Symbol) → head_text variable_text w ≡ None → NoStep (due_property ms items) w
nameless_by ms items [] h = tt
nameless_by ms items (t ∷ w) h = no_variable ms items t h

pub property_unnamed : {room : ℕ} {w : List Symbol} (ms : Modifiers) (items : Sequence (Variable Nothing)) → head_text variable_text w ≡ None → Halts walk_member false room (due_property ms items) w w
property_unnamed {room} {w} ms items h = stuck (due_property ms items) w (λ v. refl) (nameless_by ms items w h)

pub property_assigned : {room : ℕ} {x : List Symbol} (ms : Modifiers) (items : Sequence (Variable Nothing)) (a : Name Nothing) (t : Symbol) (w : List Symbol) → x ≡ t ∷ w → is_assign t ≡ true → 1 ≤ room
    → Leads walk_member room (past_property ms items a) x (in_property ms items a (expects [])) w
property_assigned ms items a t w is assigns low =
    step (in_property ms items a (expects [])) t w is (ap (λ b. pick b (Some (in_property ms items a (expects []))) (property_end ms (with_property items a None) (ending t))) assigns) (omega (arith, low))

-- without a value
bare_by : (n : ℕ) (ms : Modifiers) (items : Sequence (Variable Nothing)) (a : Name Nothing) (w : List Symbol) → test is_assign w ≡ false → walk_member n (past_property ms items a) w ≡ behind_property ms (with_property items a None) n w
bare_by n ms items a [] h = refl
bare_by n ms items a (t ∷ w) h =
    ap (λ o. stepped o (nat_lt n 0) (λ x. walk_member n x w) (short (t ∷ w)) (t ∷ w)) (ap (λ b. pick b (Some (in_property ms items a (expects []))) (property_end ms (with_property items a None) (ending t))) h)
    ∙ stepped_past (property_end ms (with_property items a None) (ending t)) n t w
  where
    stepped_past : (o : Option MemberState) (n : ℕ) (t : Symbol) (w : List Symbol) → stepped o (nat_lt n 0) (λ x. walk_member n x w) (short (t ∷ w)) (t ∷ w) ≡ taken_on o (λ x. walk_member n x w) (short (t ∷ w))
    stepped_past None n t w = refl
    stepped_past (Some m) n t w = ap (λ b. stepped (Some m) b (λ x. walk_member n x w) (short (t ∷ w)) (t ∷ w)) (le-ltb n 0 (omega arith))

pub property_bare : {room : ℕ} {x w : List Symbol} (ms : Modifiers) (items : Sequence (Variable Nothing)) (a : Name Nothing) → test is_assign w ≡ false → Leads walk_member room (due_property ms items) x (past_property ms items a) w
    → (n : ℕ) → room ≡ suc n → walk_member n (due_property ms items) x ≡ behind_property ms (with_property items a None) n w
property_bare {room} {x} {w} ms items a h reads n is = reads.same n is ∙ bare_by n ms items a w h

-- ---- names of traits and classes

pub name_reads : {room : ℕ} {x : List Symbol} (list : NamesIn) (names : Names) (text : List ℕ) (t : Symbol) (w : List Symbol) → x ≡ t ∷ w → name_text t ≡ Some text → names_in_depth list + 1 ≤ room
    → Leads walk_member room (due_trait list names) x (past_trait list (then_also names (named_here text))) w
name_reads list names text t w is named low = step (past_trait list (then_also names (named_here text))) t w is (ap (λ o. if_some o (λ z. Some (past_trait list (then_also names (named_here z))))) named) low

untraited_by : (list : NamesIn) (names : Names) (w : List Symbol) → head_text name_text w ≡ None → NoStep (due_trait list names) w
untraited_by list names [] h = tt
untraited_by list names (t ∷ w) h = ap (λ o. if_some o (λ z. Some (past_trait list (then_also names (named_here z))))) h

trait_lacks : (list : NamesIn) (names : Names) (v : List Symbol) → outcome (halt_member (due_trait list names) v) ≡ short v
trait_lacks list names v = refl

pub name_lacks : {room : ℕ} {w : List Symbol} (list : NamesIn) (names : Names) → head_text name_text w ≡ None → Halts walk_member false room (due_trait list names) w w
name_lacks {room} {w} list names h = stuck (due_trait list names) w (λ v. trait_lacks list names v) (untraited_by list names w h)

pub name_comma : {room : ℕ} {x : List Symbol} (list : NamesIn) (names : Names) (t : Symbol) (w : List Symbol) → x ≡ t ∷ w → ending t ≡ closer ender.Comma → names_in_depth list + 1 ≤ room
    → Leads walk_member room (past_trait list names) x (due_trait list names) w
name_comma list names t w is ends low = step (due_trait list names) t w is (ap (listed_step list names t) ends) low
