use Rattle.std.proofs.Common.{ℕ, List, sym, subst}
use Rattle.php_vm_actions.proofs.JoinLemmas.{Joins, begins_joining, next_operand, fewer_left, joins_on}
use Rattle.php_vm_actions.proofs.operators.joined_texts.Goals as goal

pub loop-left-init : goal.loop-left-init
loop-left-init g c = record {
  some = c.requires;
  joins = subst (λ (xs : List ℕ). Joins (g.M.Memory.means c.args.memory.now) c.args.block.0 c.args.count xs c.args.count) (sym c.new-bytes.ensures.items) (begins_joining (g.M.Memory.means c.args.memory.now) c.args.block.0 c.args.count);
}

pub text_at-requires : goal.text_at-requires
text_at-requires g c = next_operand (g.M.Memory.means c.args.memory.now) c.args.block.0 c.args.count _ c.loop-left-test.true c.loop-left.invariant.some

pub loop-left-preserved : goal.loop-left-preserved
loop-left-preserved g c = record {
  some = fewer_left (g.M.Memory.means c.args.memory.now) c.args.block.0 c.args.count _ c.loop-left-test.true c.loop-left.invariant.some;
  joins = joins_on (g.M.Memory.means c.args.memory.now) c.args.block.0 c.args.count _ _ c.in_ok-text.text _ c.loop-left-test.true c.loop-left.invariant.joins c.in_ok-text.ensures c.in_ok-add_text.ensures;
}
