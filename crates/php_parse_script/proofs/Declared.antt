-- Trees of classes, interfaces and traits, from the parts that were read.
use Rattle.std.proofs.Common.{◌≡◌, ℕ, ◌+◌, Option, List, sym, ◌∙◌, ap}
use Rattle.php_token.specs.Token.{Token}
use Rattle.php_ast.specs.expression.View.{Note}
use Rattle.php_ast.specs.expression.Placed.{notes_of}
use Rattle.php_ast.specs.statement.Tree.{Sequence, Name}
use Rattle.php_ast.specs.statement.Placed.{noted_name}
use Rattle.php_ast.specs.declaration.Tree.{ClassWord, Member, Item, of_class, of_interface, of_trait}
use Rattle.php_ast.specs.declaration.Placed.{size_joined, noted_joined, noted_one_name, size_class_word, noted_class_word, size_parent, size_names, noted_names, noted_members, noted_item}
use Rattle.php_grammar.specs.expression.Machine.{Nothing}
use Rattle.php_grammar.specs.declaration.ScriptMachine.{Names, ClassWords, class_heading, interface_heading, trait_heading, item_of}

abbrev class_item : Sequence (ClassWord Note) → Note → Name Note → Option (Name Note) → Sequence (Name Note) → Sequence (Member Note) → Item Note
class_item words note n parent interfaces members =
    of_class (record { modifiers = words; note = note; name = n; parent = parent; interfaces = interfaces; members = members })

class_same : (ws vs : Sequence (ClassWord Note)) (s t : Note) (n m : Name Note) (p q : Option (Name Note)) (is js : Sequence (Name Note)) (ms ns : Sequence (Member Note)) → ws ≡ vs → s ≡ t → n ≡ m → p ≡ q → is ≡ js → ms ≡ ns
    → class_item ws s n p is ms ≡ class_item vs t m q js ns
class_same ws vs s t n m p q is js ms ns a b c d e f = cc

pub class_shown : (tokens : List Token) (at place next : ℕ) (words : ClassWords) (n : Name Nothing) (parent : Option (Name Nothing)) (interfaces : Names) (members : Sequence (Member Nothing))
    (item : Item Note) (ws : Sequence (ClassWord Note)) (spot : Note) (name : Name Note) (p : Option (Name Note)) (is : Sequence (Name Note)) (ms : Sequence (Member Note))
    → item ≡ of_class (record { modifiers = ws; note = spot; name = name; parent = p; interfaces = is; members = ms })
    → at + size_joined size_class_word words ≡ place → place + 2 + size_parent parent + size_names interfaces ≡ next
    → ws ≡ noted_joined size_class_word (noted_class_word (notes_of tokens)) at words → spot ≡ (notes_of tokens).token place → name ≡ noted_name (notes_of tokens) (place + 1) n
    → p ≡ noted_one_name (notes_of tokens) (place + 3) parent → is ≡ noted_names (notes_of tokens) (place + 2 + size_parent parent) interfaces → ms ≡ noted_members (notes_of tokens) next members
    → item ≡ noted_item (notes_of tokens) at (item_of (class_heading words n parent interfaces) members)
class_shown tokens at place next words n parent interfaces members item ws spot name p is ms made placed sized w s a q i m =
    made
    ∙ class_same ws (noted_joined size_class_word (noted_class_word (notes_of tokens)) at words) spot ((notes_of tokens).token place) name (noted_name (notes_of tokens) (place + 1) n)
    p (noted_one_name (notes_of tokens) (place + 3) parent) is (noted_names (notes_of tokens) (place + 2 + size_parent parent) interfaces)
    ms (noted_members (notes_of tokens) (place + 2 + size_parent parent + size_names interfaces) members) w s a q i (m ∙ ap (λ k. noted_members (notes_of tokens) k members) (sym sized))
    ∙ class_at tokens at place words n parent interfaces members placed
  where
    class_at : (tokens : List Token) (at place : ℕ) (words : ClassWords) (n : Name Nothing) (parent : Option (Name Nothing)) (interfaces : Names) (members : Sequence (Member Nothing))
        → at + size_joined size_class_word words ≡ place
        → class_item (noted_joined size_class_word (noted_class_word (notes_of tokens)) at words) ((notes_of tokens).token place) (noted_name (notes_of tokens) (place + 1) n) (noted_one_name (notes_of tokens) (place + 3) parent)
        (noted_names (notes_of tokens) (place + 2 + size_parent parent) interfaces) (noted_members (notes_of tokens) (place + 2 + size_parent parent + size_names interfaces) members)
        ≡ noted_item (notes_of tokens) at (item_of (class_heading words n parent interfaces) members)
    class_at tokens at place words n parent interfaces members placed =
        ap (λ k. class_item (noted_joined size_class_word (noted_class_word (notes_of tokens)) at words) ((notes_of tokens).token k) (noted_name (notes_of tokens) (k + 1) n) (noted_one_name (notes_of tokens) (k + 3) parent)
        (noted_names (notes_of tokens) (k + 2 + size_parent parent) interfaces) (noted_members (notes_of tokens) (k + 2 + size_parent parent + size_names interfaces) members)) (sym placed)

abbrev interface_item : Note → Name Note → Sequence (Name Note) → Sequence (Member Note) → Item Note
interface_item note n parents members = of_interface (record { note = note; name = n; parents = parents; members = members })

pub interface_shown : (tokens : List Token) (at next : ℕ) (n : Name Nothing) (parents : Names) (members : Sequence (Member Nothing)) (item : Item Note) (spot : Note) (name : Name Note) (ps : Sequence (Name Note)) (ms : Sequence (Member Note))
    → item ≡ of_interface (record { note = spot; name = name; parents = ps; members = ms }) → at + 2 + size_names parents ≡ next
    → spot ≡ (notes_of tokens).token at → name ≡ noted_name (notes_of tokens) (at + 1) n → ps ≡ noted_names (notes_of tokens) (at + 2) parents → ms ≡ noted_members (notes_of tokens) next members
    → item ≡ noted_item (notes_of tokens) at (item_of (interface_heading n parents) members)
interface_shown tokens at next n parents members item spot name ps ms made sized s a i m =
    made
    ∙ ap (λ x. interface_item x name ps ms) s ∙ ap (λ x. interface_item ((notes_of tokens).token at) x ps ms) a ∙ ap (λ x. interface_item ((notes_of tokens).token at) (noted_name (notes_of tokens) (at + 1) n) x ms) i
    ∙ ap (λ x. interface_item ((notes_of tokens).token at) (noted_name (notes_of tokens) (at + 1) n) (noted_names (notes_of tokens) (at + 2) parents) x) (m ∙ ap (λ k. noted_members (notes_of tokens) k members) (sym sized))

abbrev trait_item : Note → Name Note → Sequence (Member Note) → Item Note
trait_item note n members = of_trait (record { note = note; name = n; members = members })

pub trait_shown : (tokens : List Token) (at : ℕ) (n : Name Nothing) (members : Sequence (Member Nothing)) (item : Item Note) (spot : Note) (name : Name Note) (ms : Sequence (Member Note))
    → item ≡ of_trait (record { note = spot; name = name; members = ms }) → spot ≡ (notes_of tokens).token at → name ≡ noted_name (notes_of tokens) (at + 1) n → ms ≡ noted_members (notes_of tokens) (at + 2) members
    → item ≡ noted_item (notes_of tokens) at (item_of (trait_heading n) members)
trait_shown tokens at n members item spot name ms made s a m =
    made ∙ ap (λ x. trait_item x name ms) s ∙ ap (λ x. trait_item ((notes_of tokens).token at) x ms) a ∙ ap (λ x. trait_item ((notes_of tokens).token at) (noted_name (notes_of tokens) (at + 1) n) x) m
