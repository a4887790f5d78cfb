-- Names in headings.
use Rattle.std.proofs.Common.{◌≡◌, ◌≢◌, ◌≤◌, ℕ, Some, None, List, [], ◌∷◌, refl, sym, ◌∙◌, ap, subst, length, arith}
use Rattle.php_token.specs.Token.{Token}
use Rattle.php_ast.specs.Symbol.{Symbol}
use Rattle.php_ast.specs.statement.Tree.{empty, then_also, Name}
use Rattle.php_grammar.specs.Run.{if_some}
use Rattle.php_grammar.specs.expression.Machine.{Nothing}
use Rattle.php_grammar.specs.statement.Role.{name_text}
use Rattle.php_grammar.specs.statement.Machine.{named_here}
use Rattle.php_grammar.specs.declaration.ScriptMachine.{Items, Names, ClassWords, Heading, class_heading, interface_heading, trait_heading, Kind, ScriptState, due_heading_name, past_heading, due_parent, due_interface, begun_heading, with_interface, heading_role, HeadingRole, by_extends, by_implements, by_comma, by_members, by_no_heading, heading_step}
use Rattle.php_reader.specs.declared.fail.Stop.{Stop}
use Rattle.php_reader.specs.declared.fail.Stop.TheVariants.{Syntax, TooDeep, NoMemory}
use Rattle.php_reader.specs.Seen.{rest}
use Rattle.php_grammar_laws.specs.Walks.{short, walk_script}
use Rattle.php_parse_simple.specs.Answer.{head_text}
use Rattle.php_parse_script.specs.Look.{head_mark}
use Rattle.php_parse_script.specs.Owner.{Owner, of_class, of_interface, owned, owner_mark, GoesNoFurther, IsPast}
use Rattle.php_parse_script.specs.Walk.{Leads}
use Rattle.php_parse_script.specs.Answer.{FailsName, Fails}
use Rattle.php_parse_script.proofs.Moves.{sticks, move, lacking}

-- ---- where a name is due

pub heading_named : {room : ℕ} {x w : List Symbol} (items : Items) (kind : Kind) (t : Symbol) (text : List ℕ) → x ≡ t ∷ w → name_text t ≡ Some text
    → Leads room (due_heading_name items kind) x (past_heading items (begun_heading kind (named_here text))) w
heading_named items kind t text is named = move t is (ap (λ z. if_some z (λ text. Some (past_heading items (begun_heading kind (named_here text))))) named) refl

pub parent_named : {room : ℕ} {x w : List Symbol} (items : Items) (words : ClassWords) (n : Name Nothing) (t : Symbol) (text : List ℕ) → x ≡ t ∷ w → name_text t ≡ Some text
    → Leads room (due_parent items words n) x (past_heading items (class_heading words n (Some (named_here text)) empty)) w
parent_named items words n t text is named =
    move t is (ap (λ z. if_some z (λ text. Some (past_heading items (class_heading words n (Some (named_here text)) empty)))) named) refl

with_owned : (o : Owner) (names : Names) (n : Name Nothing) → with_interface (owned o names) n ≡ owned o (then_also names n)
with_owned (of_class words a parent) names n = refl
with_owned (of_interface a) names n = refl

pub interface_named : {room : ℕ} {x w : List Symbol} (items : Items) (o : Owner) (names : Names) (t : Symbol) (text : List ℕ) → x ≡ t ∷ w → name_text t ≡ Some text
    → Leads room (due_interface items (owned o names)) x (past_heading items (owned o (then_also names (named_here text)))) w
interface_named items o names t text is named =
    move t is
    (ap (λ z. if_some z (λ text. Some (past_heading items (with_interface (owned o names) (named_here text))))) named ∙ ap (λ h. Some (past_heading items h)) (with_owned o names (named_here text))) refl

-- ---- where none stands

heading_nameless : (n : ℕ) (items : Items) (kind : Kind) (w : List Symbol) → head_text name_text w ≡ None → walk_script n (due_heading_name items kind) w ≡ short w
heading_nameless n items kind [] h = refl
heading_nameless n items kind (t ∷ w) h = sticks n (due_heading_name items kind) t w (ap (λ z. if_some z (λ text. Some (past_heading items (begun_heading kind (named_here text))))) h)

parent_nameless : (n : ℕ) (items : Items) (words : ClassWords) (a : Name Nothing) (w : List Symbol) → head_text name_text w ≡ None → walk_script n (due_parent items words a) w ≡ short w
parent_nameless n items words a [] h = refl
parent_nameless n items words a (t ∷ w) h =
    sticks n (due_parent items words a) t w (ap (λ z. if_some z (λ text. Some (past_heading items (class_heading words a (Some (named_here text)) empty)))) h)

interface_nameless : (n : ℕ) (items : Items) (heading : Heading) (w : List Symbol) → head_text name_text w ≡ None → walk_script n (due_interface items heading) w ≡ short w
interface_nameless n items heading [] h = refl
interface_nameless n items heading (t ∷ w) h =
    sticks n (due_interface items heading) t w (ap (λ z. if_some z (λ text. Some (past_heading items (with_interface heading (named_here text))))) h)

fails_by : (room : ℕ) (from : ScriptState) (tokens : List Token) (at : ℕ) (e : Stop) → ((n : ℕ) → head_text name_text (rest tokens at) ≡ None → walk_script n from (rest tokens at) ≡ short (rest tokens at)) → at ≤ length tokens
    → FailsName tokens at e → Fails room from (rest tokens at) tokens at e
fails_by room from tokens at (Syntax k) h within f =
    subst (λ j. Fails room from (rest tokens at) tokens at (Syntax j)) (sym f.0) (record { halts = lacking (λ n. h n f.1); ahead = omega arith; within = within })
fails_by room from tokens at (TooDeep k) h within f = absurd f
fails_by room from tokens at NoMemory h within f = tt

pub heading_fails : (room : ℕ) (items : Items) (kind : Kind) (tokens : List Token) (at : ℕ) (e : Stop) → at ≤ length tokens → FailsName tokens at e → Fails room (due_heading_name items kind) (rest tokens at) tokens at e
heading_fails room items kind tokens at e within f = fails_by room (due_heading_name items kind) tokens at e (λ n h. heading_nameless n items kind (rest tokens at) h) within f

pub parent_fails : (room : ℕ) (items : Items) (words : ClassWords) (a : Name Nothing) (tokens : List Token) (at : ℕ) (e : Stop) → at ≤ length tokens → FailsName tokens at e → Fails room (due_parent items words a) (rest tokens at) tokens at e
parent_fails room items words a tokens at e within f = fails_by room (due_parent items words a) tokens at e (λ n h. parent_nameless n items words a (rest tokens at) h) within f

pub interface_fails : (room : ℕ) (items : Items) (heading : Heading) (tokens : List Token) (at : ℕ) (e : Stop) → at ≤ length tokens → FailsName tokens at e → Fails room (due_interface items heading) (rest tokens at) tokens at e
interface_fails room items heading tokens at e within f = fails_by room (due_interface items heading) tokens at e (λ n h. interface_nameless n items heading (rest tokens at) h) within f

-- ---- the words and commas between names

pub extends_read : {room : ℕ} {x w : List Symbol} (items : Items) (words : ClassWords) (n : Name Nothing) (t : Symbol) → x ≡ t ∷ w → heading_role t ≡ by_extends
    → Leads room (past_heading items (class_heading words n None empty)) x (due_parent items words n) w
extends_read items words n t is role = move t is (ap (heading_step items (class_heading words n None empty)) role) refl

owner_step : (items : Items) (o : Owner) → heading_step items (owned o empty) (owner_mark o) ≡ Some (due_interface items (owned o empty))
owner_step items (of_class words n None) = refl
owner_step items (of_class words n (Some a)) = refl
owner_step items (of_interface n) = refl

pub owner_read : {room : ℕ} {x w : List Symbol} (items : Items) (o : Owner) (t : Symbol) → x ≡ t ∷ w → heading_role t ≡ owner_mark o → Leads room (past_heading items (owned o empty)) x (due_interface items (owned o empty)) w
owner_read items o t is role = move t is (ap (heading_step items (owned o empty)) role ∙ owner_step items o) refl

comma_step : (items : Items) (o : Owner) (xs : Names) (x : Name Nothing) → heading_step items (owned o (then_also xs x)) by_comma ≡ Some (due_interface items (owned o (then_also xs x)))
comma_step items (of_class words n None) xs x = refl
comma_step items (of_class words n (Some a)) xs x = refl
comma_step items (of_interface n) xs x = refl

pub comma_read : {room : ℕ} {y w : List Symbol} (items : Items) (o : Owner) (xs : Names) (x : Name Nothing) (t : Symbol) → y ≡ t ∷ w → heading_role t ≡ by_comma
    → Leads room (past_heading items (owned o (then_also xs x))) y (due_interface items (owned o (then_also xs x))) w
comma_read items o xs x t is role = move t is (ap (heading_step items (owned o (then_also xs x))) role ∙ comma_step items o xs x) refl

-- ---- where a heading goes no further

no_more : (items : Items) (o : Owner) (xs : Names) (x : Name Nothing) (r : HeadingRole) → r ≢ by_comma → r ≢ by_members → heading_step items (owned o (then_also xs x)) r ≡ None
no_more items (of_class words n None) xs x by_extends h g = refl
no_more items (of_class words n None) xs x by_implements h g = refl
no_more items (of_class words n None) xs x by_comma h g = absurd (h refl)
no_more items (of_class words n None) xs x by_members h g = absurd (g refl)
no_more items (of_class words n None) xs x by_no_heading h g = refl
no_more items (of_class words n (Some a)) xs x by_extends h g = refl
no_more items (of_class words n (Some a)) xs x by_implements h g = refl
no_more items (of_class words n (Some a)) xs x by_comma h g = absurd (h refl)
no_more items (of_class words n (Some a)) xs x by_members h g = absurd (g refl)
no_more items (of_class words n (Some a)) xs x by_no_heading h g = refl
no_more items (of_interface n) xs x by_extends h g = refl
no_more items (of_interface n) xs x by_implements h g = refl
no_more items (of_interface n) xs x by_comma h g = absurd (h refl)
no_more items (of_interface n) xs x by_members h g = absurd (g refl)
no_more items (of_interface n) xs x by_no_heading h g = refl

pub past_names : (o : Owner) (xs : Names) (x : Name Nothing) (w : List Symbol) → head_mark w ≢ by_comma → GoesNoFurther (owned o (then_also xs x)) w
past_names o xs x w h items g = no_more items o xs x (head_mark w) h g

no_first : (items : Items) (words : ClassWords) (n : Name Nothing) (r : HeadingRole) → r ≢ by_implements → r ≢ by_extends → r ≢ by_members → heading_step items (class_heading words n None empty) r ≡ None
no_first items words n by_extends h p g = absurd (p refl)
no_first items words n by_implements h p g = absurd (h refl)
no_first items words n by_comma h p g = refl
no_first items words n by_members h p g = absurd (g refl)
no_first items words n by_no_heading h p g = refl

no_second : (items : Items) (words : ClassWords) (n a : Name Nothing) (r : HeadingRole) → r ≢ by_implements → r ≢ by_members → heading_step items (class_heading words n (Some a) empty) r ≡ None
no_second items words n a by_extends h g = refl
no_second items words n a by_implements h g = absurd (h refl)
no_second items words n a by_comma h g = refl
no_second items words n a by_members h g = absurd (g refl)
no_second items words n a by_no_heading h g = refl

no_parents : (items : Items) (n : Name Nothing) (r : HeadingRole) → r ≢ by_extends → r ≢ by_members → heading_step items (interface_heading n empty) r ≡ None
no_parents items n by_extends h g = absurd (h refl)
no_parents items n by_implements h g = refl
no_parents items n by_comma h g = refl
no_parents items n by_members h g = absurd (g refl)
no_parents items n by_no_heading h g = refl

pub past_none : (o : Owner) (w : List Symbol) → head_mark w ≢ owner_mark o → IsPast o w → GoesNoFurther (owned o empty) w
past_none (of_class words n None) w h p items g = no_first items words n (head_mark w) h p g
past_none (of_class words n (Some a)) w h p items g = no_second items words n a (head_mark w) h g
past_none (of_interface n) w h p items g = no_parents items n (head_mark w) h g

no_step : (items : Items) (n : Name Nothing) (r : HeadingRole) → r ≢ by_members → heading_step items (trait_heading n) r ≡ None
no_step items n by_extends g = refl
no_step items n by_implements g = refl
no_step items n by_comma g = refl
no_step items n by_members g = absurd (g refl)
no_step items n by_no_heading g = refl

pub past_trait : (n : Name Nothing) (w : List Symbol) → GoesNoFurther (trait_heading n) w
past_trait n w items g = no_step items n (head_mark w) g
