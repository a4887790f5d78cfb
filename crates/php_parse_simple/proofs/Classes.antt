-- The classes of a `catch` and its variable.
use Rattle.std.proofs.Common.{◌≡◌, ◌≤◌, ℕ, true, false, Option, Some, None, List, [], ◌∷◌, refl, ◌∙◌, ap, arith}
use Rattle.php_ast.specs.Symbol as symbol
use Rattle.php_ast.specs.Symbol.{Symbol}
use Rattle.php_ast.specs.statement.Tree.{Sequence, then_also, Name, Statements, no_statement, Catches}
use Rattle.php_grammar.specs.Run.{if_some}
use Rattle.php_grammar.specs.expression.Machine.{Nothing, pick}
use Rattle.php_grammar.specs.statement.Role.{right_paren, left_brace, is_bar, variable_text}
use Rattle.php_grammar.specs.statement.Forms.{of_catch, of_classes, Around, due, due_in_list, due_name, past_name}
use Rattle.php_grammar.specs.statement.Machine.{name_in, named_here, class_step}
use Rattle.php_grammar.specs.statement.Depth.{statement_depth}
use Rattle.php_grammar_laws.specs.Walks.{short, walk_statement}
use Rattle.php_reader.specs.Seen.{test}
use Rattle.php_parse_simple.specs.Answer.{head_text}
use Rattle.php_parse_simple.specs.Walk.{Leads, Halts}
use Rattle.php_parse_simple.proofs.Moves.{move, sink, sticks}

pub class_sinks : {room : ℕ} {x w : List Symbol} (body : Statements Nothing) (catches : Catches Nothing) (classes : Sequence (Name Nothing)) (text : List ℕ) (t : Symbol) → x ≡ t ∷ w → name_in (of_classes body catches classes) t ≡ Some text → room ≡ 1
    → Halts true statement_depth room (λ o. due_name (of_classes body catches classes) o) x x
class_sinks body catches classes text t is named one =
    sink t is (λ o. ap (λ z. if_some z (λ text. Some (past_name (of_classes body catches classes) (named_here text) o))) named) (λ n o at. omega arith)

-- a further class
bar_on : (body : Statements Nothing) (catches : Catches Nothing) (classes : Sequence (Name Nothing)) (o : Around) (t : Symbol) → is_bar t ≡ true → class_step body catches classes o t ≡ Some (due_name (of_classes body catches classes) o)
bar_on body catches classes o (symbol.variable text) h = cc
bar_on body catches classes o _ h = ap (λ b. pick b (Some (due_name (of_classes body catches classes) o)) None) h

pub class_more : {room : ℕ} {x w : List Symbol} (body : Statements Nothing) (catches : Catches Nothing) (classes : Sequence (Name Nothing)) (a : Name Nothing) (t : Symbol) → x ≡ t ∷ w → is_bar t ≡ true → 2 ≤ room
    → Leads statement_depth room (λ o. past_name (of_classes body catches classes) a o) x (λ o. due_name (of_classes body catches (then_also classes a)) o) w
class_more body catches classes a t is h roomy = move t is (λ o. bar_on body catches (then_also classes a) o t h) (λ n o at. omega arith)

-- the variable
variable_on : (body : Statements Nothing) (catches : Catches Nothing) (classes : Sequence (Name Nothing)) (o : Around) (t : Symbol) (text : List ℕ) → variable_text t ≡ Some text
    → class_step body catches classes o t ≡ Some (due (right_paren ∷ left_brace ∷ []) (due_in_list (of_catch body catches classes (named_here text)) no_statement o))
variable_on body catches classes o (symbol.variable x) text h =
    ap (λ z. if_some z (λ u. Some (due (right_paren ∷ left_brace ∷ []) (due_in_list (of_catch body catches classes (named_here u)) no_statement o)))) h
variable_on body catches classes o _ text h = cc

pub class_variable : {room : ℕ} {x w : List Symbol} (body : Statements Nothing) (catches : Catches Nothing) (classes : Sequence (Name Nothing)) (a : Name Nothing) (text : List ℕ) (t : Symbol) → x ≡ t ∷ w → variable_text t ≡ Some text → 2 ≤ room
    → Leads statement_depth room (λ o. past_name (of_classes body catches classes) a o) x
    (λ o. due (right_paren ∷ left_brace ∷ []) (due_in_list (of_catch body catches (then_also classes a) (named_here text)) no_statement o)) w
class_variable body catches classes a text t is h roomy = move t is (λ o. variable_on body catches (then_also classes a) o t text h) (λ n o at. omega arith)

-- neither
class_stuck : (body : Statements Nothing) (catches : Catches Nothing) (classes : Sequence (Name Nothing)) (o : Around) (t : Symbol) → variable_text t ≡ None → is_bar t ≡ false → class_step body catches classes o t ≡ None
class_stuck body catches classes o (symbol.variable x) p q = cc
class_stuck body catches classes o _ p q = ap (λ b. pick b (Some (due_name (of_classes body catches classes) o)) None) q

class_lacks : (n : ℕ) (body : Statements Nothing) (catches : Catches Nothing) (classes : Sequence (Name Nothing)) (a : Name Nothing) (o : Around) (w : List Symbol) → head_text variable_text w ≡ None → test is_bar w ≡ false
    → walk_statement n (past_name (of_classes body catches classes) a o) w ≡ short w
class_lacks n body catches classes a o [] p q = refl
class_lacks n body catches classes a o (t ∷ w) p q = sticks n (past_name (of_classes body catches classes) a o) t w (class_stuck body catches (then_also classes a) o t p q)

pub class_halts : {room : ℕ} {w : List Symbol} (body : Statements Nothing) (catches : Catches Nothing) (classes : Sequence (Name Nothing)) (a : Name Nothing) → head_text variable_text w ≡ None → test is_bar w ≡ false
    → Halts false statement_depth room (λ o. past_name (of_classes body catches classes) a o) w w
class_halts {room} {w} body catches classes a p q = record { same = λ n o at. class_lacks n body catches classes a o w p q }
