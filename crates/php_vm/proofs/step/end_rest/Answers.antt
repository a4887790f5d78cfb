use Rattle.std.proofs.Common.{Bool, refl, sym, ap, ◌∙◌, arith}
use Rattle.std.specs.Prelude.{◌&&◌, nat_eq}
use Rattle.php_vm.proofs.EndingLemmas.{can_leave_this, leaves_this_moves, can_drop_value, drops_value_moves, rest_is_over}
use Rattle.php_vm.proofs.step.end_rest.Goals as goal

pub turn-requires : goal.turn-requires
turn-requires g c = let t = can_leave_this c.args.program.now.facts c.args.state.now (g.M.Memory.means c.args.memory.now) c.temps-standing.result c.temps-standing.ensures (ap (λ (t : Bool). t && nat_eq c.temps-standing.result 2) (sym c.has_this-this.ensures) ∙ sym c.leaves_this.ensures ∙ c.if-leaves_this.true) c.requires in (t.0, t.1, t.2.0)

pub drop_top-requires : goal.drop_top-requires
drop_top-requires g c = let t = can_leave_this c.args.program.now.facts c.args.state.now (g.M.Memory.means c.args.memory.now) c.temps-standing.result c.temps-standing.ensures (ap (λ (t : Bool). t && nat_eq c.temps-standing.result 2) (sym c.has_this-this.ensures) ∙ sym c.leaves_this.ensures ∙ c.if-leaves_this.true) c.requires in (_, c.turn.ensures.effect t.0 t.1, t.2.1.0)

pub returns-then-leaves_this-clause-moves : goal.returns-then-leaves_this-clause-moves
returns-then-leaves_this-clause-moves g c written = leaves_this_moves c.args.program.now.facts c.args.state.now (g.M.Memory.means c.args.memory.now) c.temps-standing.result c.temps-standing.ensures (ap (λ (t : Bool). t && nat_eq c.temps-standing.result 2) (sym c.has_this-this.ensures) ∙ sym c.leaves_this.ensures ∙ c.if-leaves_this.true) (g.M.Memory.means c.drop_top.new.self) (λ m h. c.drop_top.ensures.effect _ (c.turn.ensures.effect m h)) written

pub returns-then-leaves_this-clause-faults : goal.returns-then-leaves_this-clause-faults
returns-then-leaves_this-clause-faults g c n = refl

pub drop_top-requires-then-standing-gt0 : goal.drop_top-requires-then-standing-gt0
drop_top-requires-then-standing-gt0 g c = can_drop_value c.args.program.now.facts c.args.state.now (g.M.Memory.means c.args.memory.now) c.temps-standing.result c.temps-standing.ensures (ap (λ (t : Bool). t && nat_eq c.temps-standing.result 2) (sym c.has_this-this.ensures) ∙ sym c.leaves_this.ensures ∙ c.if-leaves_this.false) c.if-standing-gt0.true c.requires

pub returns-then-standing-gt0-clause-moves : goal.returns-then-standing-gt0-clause-moves
returns-then-standing-gt0-clause-moves g c written = drops_value_moves c.args.program.now.facts c.args.state.now (g.M.Memory.means c.args.memory.now) c.temps-standing.result c.temps-standing.ensures (ap (λ (t : Bool). t && nat_eq c.temps-standing.result 2) (sym c.has_this-this.ensures) ∙ sym c.leaves_this.ensures ∙ c.if-leaves_this.false) c.if-standing-gt0.true (g.M.Memory.means c.drop_top-then-standing-gt0.new.self) c.drop_top-then-standing-gt0.ensures.effect written

pub returns-then-standing-gt0-clause-faults : goal.returns-then-standing-gt0-clause-faults
returns-then-standing-gt0-clause-faults g c n = refl

pub returns-clause-moves : goal.returns-clause-moves
returns-clause-moves g c written = rest_is_over c.args.program.now.facts c.args.state.now (g.M.Memory.means c.args.memory.now) c.temps-standing.result c.temps-standing.ensures (ap (λ (t : Bool). t && nat_eq c.temps-standing.result 2) (sym c.has_this-this.ensures) ∙ sym c.leaves_this.ensures ∙ c.if-leaves_this.false) (let e = c.if-standing-gt0.false in omega (arith, e)) written

pub returns-clause-faults : goal.returns-clause-faults
returns-clause-faults g c n = refl
