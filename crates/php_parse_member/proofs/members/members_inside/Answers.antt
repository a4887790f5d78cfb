use Rattle.std.proofs.Common.{◌+◌, refl, ap, arith}
use Rattle.std.proofs.lemmas.Result.{err_from_is_err_and}
use Rattle.php_ast.specs.expression.Placed.{notes_of}
use Rattle.php_ast.specs.statement.Tree.{empty, then_also}
use Rattle.php_ast.specs.statement.View.{sequence}
use Rattle.php_ast.specs.declaration.Placed.{size_member, noted_class_member}
use Rattle.php_ast.specs.declaration.View.{member_view}
use Rattle.php_flat.specs.Declarations.{is_flat_member, are_flat_members}
use Rattle.php_grammar.specs.declaration.ScriptMachine.{due_member}
use Rattle.php_reader.specs.Seen.{rest}
use Rattle.php_parse_member.proofs.Moves.{leads, later}
use Rattle.php_flat.proofs.Lists.{all_with, joined_more}
use Rattle.php_parse_member.proofs.Listing.{member_reads, member_fails, members_end}
use Rattle.php_parse_member.proofs.members.members_inside.Goals as goal

pub loop-members-init : goal.loop-members-init
loop-members-init c = record {
  members = empty;
  shown = ap (sequence member_view) c.new-members.ensures;
  sized = omega arith;
  flat = ap are_flat_members c.new-members.ensures;
  reads = λ items heading. record { same = λ n is. refl };
  within = c.requires.within;
}

pub returns-then-sees_right_brace : goal.returns-then-sees_right_brace
returns-then-sees_right_brace c =
    let v = c.loop-members.invariant in
    let e = c.if-sees_right_brace.ensures in
    record {
      members = v.members;
      shown = v.shown;
      sized = omega (arith, v.sized);
      reads = λ items heading. (leads (due_member items heading v.members) (v.reads items heading) (members_end (c.args.reader.now.room + 1) items heading v.members e.token _ _ e.stands.is e.role_is (omega (arith, c.requires.deep)))).same;
      within = omega (arith, e.stands.within);
    }

pub returns-in_err-read : goal.returns-in_err-read
returns-in_err-read c =
    let v = c.loop-members.invariant in
    let q = err_from_is_err_and c.from_residual.result c.from_residual.ensures.1 in
    rw (q.1, q.2) (λ items heading. later c.args.reader.now.tokens.now c.args.at c.loop-members.next (due_member items heading v.members) c.in_err-read.field-0.0 (omega (arith, v.sized)) (v.reads items heading)
    (member_fails c.args.reader.now.room (c.args.reader.now.room + 1) items heading v.members c.args.reader.now.tokens.now c.loop-members.next c.in_err-read.field-0.0 refl c.requires.deep c.if-sees_right_brace.ensures c.in_err-read.ensures))

pub loop-members-preserved : goal.loop-members-preserved
loop-members-preserved c =
    let v = c.loop-members.invariant in
    let r = c.in_ok-read.ensures in
    record {
      members = then_also v.members r.form;
      shown = joined_more member_view size_member (noted_class_member (notes_of c.args.reader.now.tokens.now)) c.args.at c.loop-members.next v.members r.form c.loop-members.members _ _ c.in_ok-push.ensures.ok v.shown v.sized r.shown;
      sized = omega (arith, v.sized, r.sized);
      flat = all_with is_flat_member c.loop-members.members _ _ c.in_ok-push.ensures.ok v.flat c.in_ok-read.read.flat;
      reads = λ items heading. leads (due_member items heading v.members) (v.reads items heading)
          (member_reads c.args.reader.now.room (c.args.reader.now.room + 1) items heading v.members r.form (rest c.args.reader.now.tokens.now c.loop-members.next) (rest c.args.reader.now.tokens.now _) refl c.requires.deep c.if-sees_right_brace.ensures r.comes);
      within = r.within;
    }

pub loop-members-smaller : goal.loop-members-smaller
loop-members-smaller c =
    let r = c.in_ok-read.ensures in
    omega (arith, r.ahead, r.within)
