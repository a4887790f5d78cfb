use Rattle.std.proofs.Common.{◌∙◌, inl, inr, true≢false, sym, ap}
use Rattle.php_array.proofs.KeptLemmas.{kept-with_value, value_at-missing, value_at-place, written-place, set_value-written, is_some-place}
use Rattle.php_array.proofs.entries.Entries.get_mut.Goals as goal

pub value_mut-requires : goal.value_mut-requires
value_mut-requires g c = is_some-place c.args.key.now c.self.inside.slots.items c.in_ok-place.place (sym c.in_ok-place.ensures)

pub invariant_of-self-lent : goal.invariant_of-self-lent
invariant_of-self-lent g c w =
    let i = c.self.inside in
    kept-with_value i.index i.slots.items i.first i.count i.next_key i.next_serial c.self.invariant c.args.key.now c.in_ok-place.place w (sym c.in_ok-place.ensures)

pub returns : goal.returns
returns g c =
    let i = c.self.inside in
    let ss = i.slots.items in
    let l = c.args.self.now in
    let k = c.args.key.now in
    let place = sym c.in_ok-place.ensures in (
      (λ t. inl (c.value_mut.result.ghost_name, λ (w : g.row.T.Denot). written-place l ss i.next_key i.next_serial c.self.view_is k c.in_ok-place.place w place t)),
      record {
        writes_back = tt;
        value = sym (value_at-place l ss i.next_key i.next_serial c.self.view_is k c.in_ok-place.place c.value_mut.result.now place c.value_mut.ensures.value);
        sets = λ some v. set_value-written l ss i.next_key i.next_serial c.self.view_is k c.in_ok-place.place v place;
      },
    )

pub returns-in_err-place : goal.returns-in_err-place
returns-in_err-place g c =
    let i = c.self.inside in
    let missing = value_at-missing c.args.self.now i.slots.items i.next_key i.next_serial c.self.view_is c.args.key.now (sym c.in_err-place.ensures) in
    rw (c.from_residual.ensures) (ap inr c.self.view_is, record { writes_back = tt; value = sym missing; sets = λ some. absurd (true≢false (sym some)) })
