use Rattle.std.proofs.Common.{refl, arith, ap}
use Rattle.std.proofs.lemmas.Result.{err_from_is_err_and}
use Rattle.php_parse_operands.proofs.Fails.{later}
use Rattle.php_ast.specs.expression.Tree.{no_piece, bytes, value}
use Rattle.php_grammar.specs.expression.Machine.{past_template}
use Rattle.php_parse_operands.proofs.Moves.{leads, leads_halts}
use Rattle.php_parse_operands.proofs.Makes.{bytes_read, bytes_more, parts_more, template_reads, template_halts}
use Rattle.std.proofs.Common.{map}
use Rattle.php_ast.specs.expression.View.{pieces_from, view}
use Rattle.php_ast.specs.expression.Parts.{piece_with}
use Rattle.php_build.specs.Flat.{shape, piece_flat, are_flat_pieces}
use Rattle.php_build.proofs.Flats.{all_push}
use Rattle.php_parse_operands.proofs.parser.Parser.pieces.Goals as goal

pub loop-items-init : goal.loop-items-init
loop-items-init g c = record {
  pieces = no_piece;
  shown = ap (λ l. pieces_from no_piece (map (piece_with view) l)) c.new-items.ensures;
  sized = omega arith;
  flat = ap are_flat_pieces c.new-items.ensures;
  reads = record { same = λ n s whole near at. refl };
  within = c.requires.within;
}

pub loop-items-preserved-in-Bytes : goal.loop-items-preserved-in-Bytes
loop-items-preserved-in-Bytes g c =
    let v = c.loop-items.invariant in
    let m = rw c.in-Bytes.is at c.mold_at.ensures in
    record {
      pieces = bytes v.pieces _;
      shown = bytes_more c.args.self.now.reader.tokens.now c.args.at v.pieces _ c.loop-items.items _ _ c.in_ok-push-in-Bytes.ensures.ok v.shown c.in_ok-text_at-in-Bytes.ensures;
      sized = omega (arith, v.sized);
      flat = all_push piece_flat (piece_with shape) c.loop-items.items _ _ c.in_ok-push-in-Bytes.ensures.ok v.flat refl;
      reads = leads (λ s. past_template v.pieces s) v.reads (bytes_read m.token v.pieces _ m.stands.is m.role_is c.args.self.now.deep);
      within = omega (arith, m.stands.within);
    }

pub returns-in_err-part-in-Opened : goal.returns-in_err-part-in-Opened
returns-in_err-part-in-Opened g c =
    let v = c.loop-items.invariant in
    let q = err_from_is_err_and c.from_residual-in_err-part-in-Opened.result c.from_residual-in_err-part-in-Opened.ensures.1 in
    rw (q.1, q.2) (later c.args.self.now.reader.tokens.now c.args.at c.loop-items.next (λ s. past_template v.pieces s) c.in_err-part-in-Opened.field-0.0 (omega (arith, v.sized)) v.reads (c.in_err-part-in-Opened.ensures v.pieces))

pub loop-items-preserved : goal.loop-items-preserved
loop-items-preserved g c =
    let v = c.loop-items.invariant in
    let r = c.in_ok-part-in-Opened.ensures in
    record {
      pieces = value v.pieces r.form;
      shown = parts_more c.args.self.now.reader.tokens.now c.args.at c.loop-items.next v.pieces r.form c.loop-items.items _ _ c.in_ok-push-in-Opened.ensures.ok v.shown v.sized r.shown;
      sized = omega (arith, v.sized, r.sized);
      flat = all_push piece_flat (piece_with shape) c.loop-items.items _ _ c.in_ok-push-in-Opened.ensures.ok v.flat r.flat;
      reads = leads (λ s. past_template v.pieces s) v.reads (r.reads v.pieces);
      within = r.within;
    }

pub returns-in-Over : goal.returns-in-Over
returns-in-Over g c =
    let v = c.loop-items.invariant in
    let m = rw c.in-Over.is at c.mold_at.ensures in
    record {
      pieces = v.pieces;
      shown = v.shown;
      sized = omega (arith, v.sized);
      flat = v.flat;
      reads = leads (λ s. past_template v.pieces s) v.reads (template_reads m.token v.pieces m.stands.is m.role_is c.args.self.now.deep);
      ahead = omega (arith, v.sized);
      within = omega (arith, m.stands.within);
    }

pub returns-in-Other : goal.returns-in-Other
returns-in-Other g c =
    let v = c.loop-items.invariant in
    let m = rw c.in-Other.is at c.mold_at.ensures in
    record {
      halts = leads_halts (λ s. past_template v.pieces s) v.reads (template_halts v.pieces m);
      ahead = omega (arith, v.sized);
      within = v.within;
    }

pub loop-items-smaller-in-Bytes : goal.loop-items-smaller-in-Bytes
loop-items-smaller-in-Bytes g c = let m = rw c.in-Bytes.is at c.mold_at.ensures in omega (arith, m.stands.within)

pub loop-items-smaller : goal.loop-items-smaller
loop-items-smaller g c = let r = c.in_ok-part-in-Opened.ensures in omega (arith, r.ahead, r.within)
