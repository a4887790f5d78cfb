-- Trees of the program against trees with their notes.
use Rattle.std.proofs.Common.{◌≡◌, ℕ, ◌+◌, Bool, Some, None, Option, List, refl, ◌∙◌, ap, arith}
use Rattle.php_token.specs.Token.{Token}
use Rattle.php_ast.specs.declared.spot.Name as rust_name
use Rattle.php_ast.specs.declared.spot.Spot.{Spot}
use Rattle.php_ast.specs.declared.spot.Word as rust_word
use Rattle.php_ast.specs.declared.declaration.Visibility.{Visibility}
use Rattle.php_ast.specs.declared.declaration.Rule as rust_rule
use Rattle.php_ast.specs.declared.declaration.Rule.TheVariants.{As, InsteadOf}
use Rattle.php_ast.specs.expression.Tree as tree
use Rattle.php_ast.specs.expression.View.{Note, spot_view, word_view}
use Rattle.php_ast.specs.expression.Placed.{noted_member, notes_of}
use Rattle.php_ast.specs.statement.Placed.{size_if, size_name, size_variable, size_separated, noted_name, noted_variable, noted_separated, noted_statements}
use Rattle.php_ast.specs.statement.View.{name_view, names_view, optional, sequence}
use Rattle.php_ast.specs.declaration.Tree.{Signature, Function, Modifier, ClassConstant, Rule, renames, prefers, Member, uses, uses_by, class_constants, method, properties}
use Rattle.php_ast.specs.declaration.Placed.{size_joined, noted_joined, size_signature, noted_signature, noted_function, size_modifier, noted_modifiers, size_class_constant, noted_class_constant, size_method_body, noted_method_body, noted_method, size_member, size_rule, noted_class_member, size_one, size_origin, noted_alias, noted_one_name, noted_rule}
use Rattle.php_ast.specs.declaration.View.{rule_view, uses_view}
use Rattle.php_ast.specs.statement.Tree.{Sequence, Name, Variable, Statements}
use Rattle.php_grammar.specs.expression.Machine.{Nothing}
use Rattle.php_grammar.specs.statement.Machine.{named_here}
use Rattle.php_grammar.specs.declaration.FunctionMachine.{Routine, routine}
use Rattle.php_grammar.specs.declaration.MemberMachine.{Word, Names, Modifiers, method_of}
use Rattle.php_parse_member.specs.Answer.{function_tree}

abbrev pub plain_name : List ℕ → Word
plain_name text = tree.named tt text

-- a name as a word
pub plain_shown : (tokens : List Token) (at : ℕ) (n : rust_name.Name) (text : List ℕ) → name_view n ≡ noted_name (notes_of tokens) at (named_here text) → tree.named (spot_view n.spot) n.text ≡ noted_member (notes_of tokens) (at + 0) (plain_name text)
plain_shown tokens at n text is =
    let noted : spot_view n.spot ≡ (notes_of tokens).token at = ap (λ m. m.note) is in
    let same : n.text ≡ text = ap (λ m. m.text) is in
    ap (λ z. tree.named z n.text) noted ∙ ap (tree.named ((notes_of tokens).token at)) same ∙ ap (λ k. tree.named ((notes_of tokens).token k) text) (omega arith)

-- at a place that is said in another way
pub word_moved : (tokens : List Token) (at place : ℕ) (w : tree.Member Note) (m : Word) → w ≡ noted_member (notes_of tokens) place m → place ≡ at → w ≡ noted_member (notes_of tokens) at m
word_moved tokens at place w m is same = is ∙ ap (λ k. noted_member (notes_of tokens) k m) same

-- ---- rules

pub renaming_shown : (tokens : List Token) (at : ℕ) (spot : Spot) (origin : Option rust_name.Name) (w : rust_word.Word) (seen : Option Visibility) (alias : Option rust_word.Word) (next : ℕ) (o : Option (Name Nothing)) (m : Word) (a : Option Word)
    → spot_view spot ≡ (notes_of tokens).token at → optional name_view origin ≡ noted_one_name (notes_of tokens) at o → word_view w ≡ noted_member (notes_of tokens) (at + size_origin o) m
    → optional word_view alias ≡ noted_alias (notes_of tokens) (next + size_one seen) a → next ≡ at + size_origin o + 2
    → rule_view (As spot origin w seen alias) ≡ noted_rule (notes_of tokens) at (renames tt o m seen a)
renaming_shown tokens at spot origin w seen alias next o m a noted first second third is =
    cc (noted, first, second, third ∙ ap (λ k. noted_alias (notes_of tokens) (k + size_one seen) a) is)

pub preference_shown : (tokens : List Token) (at : ℕ) (spot : Spot) (origin : rust_name.Name) (w : rust_word.Word) (others : List rust_name.Name) (next : ℕ) (o : Name Nothing) (m : Word) (names : Names)
    → spot_view spot ≡ (notes_of tokens).token at → name_view origin ≡ noted_name (notes_of tokens) at o → word_view w ≡ noted_member (notes_of tokens) (at + 2) m
    → names_view others ≡ noted_separated size_name (noted_name (notes_of tokens)) next names → next ≡ at + 4
    → rule_view (InsteadOf spot origin w others) ≡ noted_rule (notes_of tokens) at (prefers tt o m names)
preference_shown tokens at spot origin w others next o m names noted first second third is =
    cc (noted, first, second, third ∙ ap (λ k. noted_separated size_name (noted_name (notes_of tokens)) k names) is)

-- the class of a rule, where the program has one
pub origin_some : (tokens : List Token) (at : ℕ) (origin : Option (Name Nothing)) (n : rust_name.Name) → Some (name_view n) ≡ noted_one_name (notes_of tokens) at origin → (o : Name Nothing) × (origin ≡ Some o) × (name_view n ≡ noted_name (notes_of tokens) at o)
origin_some tokens at None n is = cc
origin_some tokens at (Some o) n is = (o, refl, some_same (name_view n) (noted_name (notes_of tokens) at o) is)
  where
    some_same : (a b : Name Note) → Some a ≡ Some b → a ≡ b
    some_same a b h = cc

pub origin_none : (tokens : List Token) (at : ℕ) (origin : Option (Name Nothing)) → None ≡ noted_one_name (notes_of tokens) at origin → origin ≡ None
origin_none tokens at None is = refl
origin_none tokens at (Some o) is = cc

-- ---- functions

pub function_shown : (tokens : List Token) (at : ℕ) (spot : Note) (r : Bool) (name : Name Note) (sign : Signature Note) (body : Statements Note) (x : Name Nothing) (s : Signature Nothing) (ss : Statements Nothing) (made : Function Note)
    → made ≡ record { note = spot; is_reference = r; name = name; signature = sign; body = body } → spot ≡ (notes_of tokens).token at → name ≡ noted_name (notes_of tokens) (at + 1 + size_if r) x
    → sign ≡ noted_signature (notes_of tokens) (at + 1 + size_if r + 1) s → (next : ℕ) → body ≡ noted_statements (notes_of tokens) next ss → next ≡ at + 1 + size_if r + 1 + size_signature s + 1
    → made ≡ noted_function (notes_of tokens) at (function_tree (routine r x s (Some ss)))
function_shown tokens at spot r name sign body x s ss made is noted first second next third same =
    is ∙ cc (noted, first, second, third ∙ ap (λ k. noted_statements (notes_of tokens) k ss) same)

-- ---- members

pub uses_shown : (tokens : List Token) (at : ℕ) (spot : Note) (shown : Sequence (Name Note)) (made : Member Note) (names : Names) → made ≡ uses spot shown → spot ≡ (notes_of tokens).token at
    → shown ≡ noted_separated size_name (noted_name (notes_of tokens)) (at + 1) names → made ≡ noted_class_member (notes_of tokens) at (uses tt names)
uses_shown tokens at spot shown made names is noted first = is ∙ cc (noted, first)

pub uses_by_shown : (tokens : List Token) (at : ℕ) (spot : Note) (shown : Sequence (Name Note)) (rules : List rust_rule.Rule) (made : Member Note) (next : ℕ) (names : Names) (rs : Sequence (Rule Nothing))
    → made ≡ uses_view spot shown (Some rules) → spot ≡ (notes_of tokens).token at → shown ≡ noted_separated size_name (noted_name (notes_of tokens)) (at + 1) names
    → sequence rule_view rules ≡ noted_joined size_rule (noted_rule (notes_of tokens)) next rs → next ≡ at + 1 + size_separated size_name names + 1 → made ≡ noted_class_member (notes_of tokens) at (uses_by tt names rs)
uses_by_shown tokens at spot shown rules made next names rs is noted first second same =
    is ∙ cc (noted, first, second ∙ ap (λ k. noted_joined size_rule (noted_rule (notes_of tokens)) k rs) same)

pub constants_shown : (tokens : List Token) (at next : ℕ) (modifiers : Sequence (Modifier Note)) (shown : Sequence (ClassConstant Note)) (made : Member Note) (ms : Modifiers) (items : Sequence (ClassConstant Nothing))
    → made ≡ class_constants modifiers shown → modifiers ≡ noted_modifiers (notes_of tokens) at ms → shown ≡ noted_separated size_class_constant (noted_class_constant (notes_of tokens)) next items
    → next ≡ at + size_joined size_modifier ms + 1 → made ≡ noted_class_member (notes_of tokens) at (class_constants ms items)
constants_shown tokens at next modifiers shown made ms items is first second same =
    is ∙ cc (first, second ∙ ap (λ k. noted_separated size_class_constant (noted_class_constant (notes_of tokens)) k items) same)

pub properties_shown : (tokens : List Token) (at next : ℕ) (modifiers : Sequence (Modifier Note)) (shown : Sequence (Variable Note)) (made : Member Note) (ms : Modifiers) (items : Sequence (Variable Nothing))
    → made ≡ properties modifiers shown → modifiers ≡ noted_modifiers (notes_of tokens) at ms → shown ≡ noted_separated size_variable (noted_variable (notes_of tokens)) next items
    → next ≡ at + size_joined size_modifier ms → made ≡ noted_class_member (notes_of tokens) at (properties ms items)
properties_shown tokens at next modifiers shown made ms items is first second same =
    is ∙ cc (first, second ∙ ap (λ k. noted_separated size_variable (noted_variable (notes_of tokens)) k items) same)

pub method_shown : (tokens : List Token) (at next : ℕ) (modifiers : Sequence (Modifier Note)) (spot : Note) (r : Bool) (name : tree.Member Note) (sign : Signature Note) (body : Option (Statements Note)) (made : Member Note) (ms : Modifiers) (f : Routine Word)
    → made ≡ method (record { modifiers = modifiers; note = spot; is_reference = r; name = name; signature = sign; body = body }) → modifiers ≡ noted_modifiers (notes_of tokens) at ms → spot ≡ (notes_of tokens).token next
    → f.is_reference ≡ r → name ≡ noted_member (notes_of tokens) (next + 1 + size_if r) f.name → sign ≡ noted_signature (notes_of tokens) (next + 1 + size_if r + 1) f.signature
    → body ≡ noted_method_body (notes_of tokens) (next + 1 + size_if r + 1 + size_signature f.signature) f.body → next ≡ at + size_joined size_modifier ms → made ≡ noted_class_member (notes_of tokens) at (method_of ms f)
method_shown tokens at next modifiers spot r name sign body made ms f is first noted reference second third fourth same =
    is ∙ method_by tokens at next r modifiers spot name sign body ms f first noted reference second third fourth
    ∙ ap (λ k. method (noted_method (notes_of tokens) at k (record { modifiers = ms; note = tt; is_reference = f.is_reference; name = f.name; signature = f.signature; body = f.body }))) same
  where
    method_by : (tokens : List Token) (at next : ℕ) (r : Bool) (modifiers : Sequence (Modifier Note)) (spot : Note) (name : tree.Member Note) (sign : Signature Note) (body : Option (Statements Note)) (ms : Modifiers) (f : Routine Word)
        → modifiers ≡ noted_modifiers (notes_of tokens) at ms → spot ≡ (notes_of tokens).token next → f.is_reference ≡ r → name ≡ noted_member (notes_of tokens) (next + 1 + size_if r) f.name
        → sign ≡ noted_signature (notes_of tokens) (next + 1 + size_if r + 1) f.signature → body ≡ noted_method_body (notes_of tokens) (next + 1 + size_if r + 1 + size_signature f.signature) f.body
        → method (record { modifiers = modifiers; note = spot; is_reference = r; name = name; signature = sign; body = body })
        ≡ method (noted_method (notes_of tokens) at next (record { modifiers = ms; note = tt; is_reference = f.is_reference; name = f.name; signature = f.signature; body = f.body }))
    method_by tokens at next r modifiers spot name sign body ms f first noted reference second third fourth = cc

pub method_size : (at place next : ℕ) (r : Bool) (ms : Modifiers) (f : Routine Word) → f.is_reference ≡ r → at + size_joined size_modifier ms ≡ place
    → place + 1 + size_if r + 1 + size_signature f.signature + size_method_body f.body ≡ next → at + size_member (method_of ms f) ≡ next
method_size at place next r ms f is first second = omega (arith, first, second, ap size_if is)
