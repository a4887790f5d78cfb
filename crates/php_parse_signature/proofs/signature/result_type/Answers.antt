use Rattle.std.proofs.Common.{Some, ap, arith}
use Rattle.php_parse_signature.proofs.Wholes.{result_leads}
use Rattle.php_parse_signature.proofs.signature.result_type.Goals as goal

pub returns : goal.returns
returns c =
    let f = c.in_ok-item.ensures in
    record {
      result = Some f.form;
      shown = ap Some f.shown;
      sized = omega (arith, f.sized);
      reads = λ params. result_leads c.args.reader.now.tokens.now c.args.at _ c.args.reader.now.room params f.form c.if-not-sees_colon.ensures f.spelled;
      over = tt;
      within = f.within;
    }
