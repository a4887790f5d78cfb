use Rattle.std.proofs.Common.{refl, ap, arith}
use Rattle.php_ast.specs.expression.Placed.{notes_of}
use Rattle.php_ast.specs.statement.Tree.{empty}
use Rattle.php_ast.specs.statement.View.{sequence}
use Rattle.php_ast.specs.declaration.Placed.{size_modifier, noted_modifier}
use Rattle.php_ast.specs.declaration.View.{modifier_view}
use Rattle.php_grammar.specs.declaration.MemberMachine.{past_modifiers, with_modifier}
use Rattle.php_parse_member.proofs.Moves.{leads}
use Rattle.php_parse_member.proofs.Steps.{modifier_reads}
use Rattle.php_flat.proofs.Lists.{joined_more}
use Rattle.php_parse_member.proofs.Lists.{modifier_of, modifier_shown}
use Rattle.php_parse_member.proofs.member.read_member.Goals as goal

pub loop-word-init : goal.loop-word-init
loop-word-init c = record {
  modifiers = empty;
  shown = ap (sequence modifier_view) c.new-modifiers.ensures;
  sized = omega arith;
  reads = record { same = λ n is. refl };
  within = c.requires.within;
}

pub loop-word-preserved : goal.loop-word-preserved
loop-word-preserved c =
    let v = c.loop-word.invariant in
    let o = c.in-Modifier.ensures in
    record {
      modifiers = with_modifier v.modifiers c.in-Modifier.word;
      shown = joined_more modifier_view size_modifier (noted_modifier (notes_of c.args.reader.now.tokens.now)) c.args.at c.loop-word.next v.modifiers (modifier_of c.in-Modifier.word) c.loop-word.modifiers _ _ c.in_ok-push.ensures.ok v.shown v.sized
          (modifier_shown c.args.reader.now.tokens.now c.loop-word.next _ c.in-Modifier.word c.spot.ensures);
      sized = omega (arith, v.sized);
      reads = leads (past_modifiers v.modifiers) v.reads (modifier_reads v.modifiers c.in-Modifier.word o.token _ o.stands.is o.role_is c.requires.deep);
      within = omega (arith, o.stands.within);
    }
