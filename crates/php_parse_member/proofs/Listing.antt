-- Members one behind the other, by what the machine of scripts does.
use Rattle.std.proofs.Common.{◌≡◌, ◌≤◌, ℕ, suc, ◌+◌, ◌-◌, Bool, true, false, Option, Some, None, List, [], ◌∷◌, refl, sym, ◌∙◌, ap, subst, arith}
use Rattle.php_token.specs.Token.{Token}
use Rattle.php_ast.specs.Symbol.{Symbol}
use Rattle.php_ast.specs.statement.Tree.{Sequence, empty, then_also}
use Rattle.php_ast.specs.declaration.Tree.{Member}
use Rattle.php_grammar.specs.Run.{either}
use Rattle.php_grammar.specs.TooDeep.{depth_inside}
use Rattle.php_grammar.specs.expression.Machine.{Nothing, pick}
use Rattle.php_grammar.specs.statement.Role.{is_right_brace}
use Rattle.php_grammar.specs.declaration.Depth.{script_depth_at}
use Rattle.php_grammar.specs.declaration.MemberMachine.{MemberState, past_modifiers, advance_member}
use Rattle.php_grammar.specs.declaration.ScriptMachine.{Items, Heading, due_item, due_member, in_member, with_item, member_begun, member_step, advance_script, halt_script}
use Rattle.php_grammar_laws.specs.Walks.{whole, short, past, resumed, walk_member, walk_script}
use Rattle.php_grammar_laws.proofs.Instances.{scripts_lend_members}
use Rattle.php_reader.specs.declared.fail.Stop.{Stop}
use Rattle.php_reader.specs.declared.fail.Stop.TheVariants.{Syntax, TooDeep, NoMemory}
use Rattle.php_reader.specs.Seen.{rest, test}
use Rattle.php_parse_member.specs.Walk.{Leads, Halts}
use Rattle.php_parse_member.specs.Answer.{Fails}
use Rattle.php_parse_member.proofs.Moves.{go, alike, past_same, resumed_stopped}

either_none : {A : Type 0} (o : Option A) → either o None ≡ o
either_none (Some x) = refl
either_none None = refl

inside_one : (o : Option MemberState) → 1 ≡ depth_inside o 0 1
inside_one (Some m) = refl
inside_one None = refl

-- Where the members don't end, one is due.
in_list : (n : ℕ) (items : Items) (heading : Heading) (ms : Sequence (Member Nothing)) (u : List Symbol) → test is_right_brace u ≡ false
    → walk_script n (due_member items heading ms) u ≡ walk_script n (in_member items heading ms (past_modifiers empty)) u
in_list n items heading ms [] h = refl
in_list n items heading ms (t ∷ u) h =
    alike advance_script script_depth_at halt_script n (due_member items heading ms) (in_member items heading ms (past_modifiers empty)) t u
    (ap (λ b. pick b (Some (due_item (with_item items heading ms))) (member_begun items heading ms (past_modifiers empty) t)) h ∙ sym (either_none (member_begun items heading ms (past_modifiers empty) t)))
    (inside_one (advance_member (past_modifiers empty) t))
    refl

-- a member, one level deeper
lend_at : (n top : ℕ) (items : Items) (heading : Heading) (ms : Sequence (Member Nothing)) (m : MemberState) (w : List Symbol) → top ≡ n + 1
    → walk_script top (in_member items heading ms m) w ≡ resumed (λ x. past (λ t. member_step items heading (then_also ms x) t) (walk_script top) short) (walk_member n m w)
lend_at n top items heading ms m w is =
    subst (λ k. walk_script k (in_member items heading ms m) w ≡ resumed (λ x. past (λ t. member_step items heading (then_also ms x) t) (walk_script k) short) (walk_member n m w)) (sym is)
    (scripts_lend_members n items heading ms m w)

member_walk : (n top : ℕ) (items : Items) (heading : Heading) (ms : Sequence (Member Nothing)) (m : Member Nothing) (w v : List Symbol) → top ≡ n + 1 → test is_right_brace w ≡ false → walk_member n (past_modifiers empty) w ≡ whole m v
    → walk_script top (due_member items heading ms) w ≡ walk_script top (due_member items heading (then_also ms m)) v
member_walk n top items heading ms m w v is h read =
    in_list top items heading ms w h
    ∙ lend_at n top items heading ms (past_modifiers empty) w is
    ∙ ap (resumed (λ x. past (λ t. member_step items heading (then_also ms x) t) (walk_script top) short)) read
    ∙ past_same advance_script script_depth_at halt_script top (due_member items heading (then_also ms m)) v (λ t. omega (arith, is)) (λ u. refl)

-- where so many levels are left inside, and one more outside
pub member_reads : (inner room : ℕ) (items : Items) (heading : Heading) (ms : Sequence (Member Nothing)) (m : Member Nothing) (w v : List Symbol) → room ≡ inner + 1 → 1 ≤ inner → test is_right_brace w ≡ false
    → ((n : ℕ) → inner ≡ suc n → walk_member n (past_modifiers empty) w ≡ whole m v) → Leads walk_script room (due_member items heading ms) w (due_member items heading (then_also ms m)) v
member_reads inner room items heading ms m w v sum low h read =
    record { same = λ n is. member_walk (n - 1) n items heading ms m w v (omega (arith, sum, low, is)) h (read (n - 1) (omega (arith, sum, low, is))) }

member_stops : (inner room : ℕ) (too_deep : Bool) (items : Items) (heading : Heading) (ms : Sequence (Member Nothing)) (w v : List Symbol) → room ≡ inner + 1 → 1 ≤ inner → test is_right_brace w ≡ false
    → Halts walk_member too_deep inner (past_modifiers empty) w v → Halts walk_script too_deep room (due_member items heading ms) w v
member_stops inner room too_deep items heading ms w v sum low h f = record {
  same = λ n is. in_list n items heading ms w h
      ∙ lend_at (n - 1) n items heading ms (past_modifiers empty) w (omega (arith, sum, low, is))
      ∙ resumed_stopped too_deep _ (walk_member (n - 1) (past_modifiers empty) w) v (f.same (n - 1) (omega (arith, sum, low, is)));
}

pub member_fails : (inner room : ℕ) (items : Items) (heading : Heading) (ms : Sequence (Member Nothing)) (tokens : List Token) (at : ℕ) (e : Stop) → room ≡ inner + 1 → 1 ≤ inner → test is_right_brace (rest tokens at) ≡ false
    → Fails walk_member inner (past_modifiers empty) (rest tokens at) tokens at e → Fails walk_script room (due_member items heading ms) (rest tokens at) tokens at e
member_fails inner room items heading ms tokens at (Syntax k) sum low h f =
    record { halts = member_stops inner room false items heading ms (rest tokens at) (rest tokens k) sum low h f.halts; ahead = f.ahead; within = f.within }
member_fails inner room items heading ms tokens at (TooDeep k) sum low h f =
    record { halts = member_stops inner room true items heading ms (rest tokens at) (rest tokens k) sum low h f.halts; ahead = f.ahead; within = f.within }
member_fails inner room items heading ms tokens at NoMemory sum low h f = tt

-- the `}`
pub members_end : (room : ℕ) (items : Items) (heading : Heading) (ms : Sequence (Member Nothing)) (t : Symbol) (x w : List Symbol) → x ≡ t ∷ w → is_right_brace t ≡ true → 2 ≤ room
    → Leads walk_script room (due_member items heading ms) x (due_item (with_item items heading ms)) w
members_end room items heading ms t x w is ends low = record {
  same = λ n at. ap (walk_script n (due_member items heading ms)) is
      ∙ go advance_script script_depth_at halt_script n (due_member items heading ms) (due_item (with_item items heading ms)) t w
      (ap (λ b. pick b (Some (due_item (with_item items heading ms))) (member_begun items heading ms (past_modifiers empty) t)) ends) (omega (arith, low, at));
}
