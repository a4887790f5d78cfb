use Rattle.std.proofs.Common.{◌≡◌, ◌∙◌, sym, ap, Err}
use Rattle.std.specs.Prelude.{true, false}
use Rattle.php_entries.specs.Listing.{Listing, is_at_limit}
use Rattle.php_entries.specs.Changes.{Grown, with_entry}
use Rattle.php_entries.proofs.ChangeLemmas.{set_value-limit, set_value-new}
use Rattle.php_array.specs.declared.refusal.NoSet.TheVariants as refusal
use Rattle.php_array.proofs.AnswerLemmas.{entry_at-no_value}
use Rattle.php_array.proofs.entries.Entries.set.Goals as goal

pub returns-then-is_at_limit-clause-limit : goal.returns-then-is_at_limit-clause-limit
returns-then-is_at_limit-clause-limit g c =
    let l = c.args.self.now in
    let none = entry_at-no_value l c.args.key c.in-Err.ensures.missing.0 in
    let limit : is_at_limit l ≡ true = ap (λ (m : Listing _). is_at_limit m) (sym c.in-Err.ensures.err) ∙ sym c.is_at_limit.ensures ∙ c.if-is_at_limit.true in
    (λ e. set_value-limit l c.args.value c.args.key none limit, λ e. ap (λ (v : _). Err (refusal.Limit v)) c.in-Err.ensures.missing.1)

pub returns-in-Ok-add_next-clause-set : goal.returns-in-Ok-add_next-clause-set
returns-in-Ok-add_next-clause-set g c =
    let l = c.args.self.now in
    let none = entry_at-no_value l c.args.key c.in-Err.ensures.missing.0 in
    let room : is_at_limit l ≡ false = ap (λ (m : Listing _). is_at_limit m) (sym c.in-Err.ensures.err) ∙ sym c.is_at_limit.ensures ∙ c.if-is_at_limit.false in (
      sym c.in-Err.ensures.missing.0,
      set_value-new l c.args.value c.args.key none room
          ∙ ap Grown (sym (c.in-Ok-add_next.ensures.ok ∙ ap (λ (m : Listing _). with_entry m c.args.key c.in-Err.value) c.in-Err.ensures.err ∙ ap (λ (v : _). with_entry l c.args.key v) c.in-Err.ensures.missing.1)),
    )

pub returns-in-Ok-add_next-clause-limit : goal.returns-in-Ok-add_next-clause-limit
returns-in-Ok-add_next-clause-limit g c =
    let l = c.args.self.now in
    let none = entry_at-no_value l c.args.key c.in-Err.ensures.missing.0 in
    let room : is_at_limit l ≡ false = ap (λ (m : Listing _). is_at_limit m) (sym c.in-Err.ensures.err) ∙ sym c.is_at_limit.ensures ∙ c.if-is_at_limit.false in
    (λ e. cc, λ e. (let bad = sym (set_value-new l c.args.value c.args.key none room) ∙ e in cc))

pub returns-in-Err-add_next-clause-limit : goal.returns-in-Err-add_next-clause-limit
returns-in-Err-add_next-clause-limit g c =
    let l = c.args.self.now in
    let none = entry_at-no_value l c.args.key c.in-Err.ensures.missing.0 in
    let room : is_at_limit l ≡ false = ap (λ (m : Listing _). is_at_limit m) (sym c.in-Err.ensures.err) ∙ sym c.is_at_limit.ensures ∙ c.if-is_at_limit.false in
    (λ e. cc, λ e. (let bad = sym (set_value-new l c.args.value c.args.key none room) ∙ e in cc))
