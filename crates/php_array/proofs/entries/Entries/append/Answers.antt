use Rattle.std.proofs.lemmas.Int.{to_z-of_z}
use Rattle.std.proofs.Common.{rules, w64, ◌≡◌, ◌∙◌, ℕ, refl, sym, ap}
use Rattle.std.specs.Prelude.{true, false, pos}
use Rattle.std.proofs.lemmas.Bool.{le-leb, lt-leb}
use Rattle.php_value.specs.declared.key.Key.{Key}
use Rattle.php_value.specs.declared.key.Key.TheVariants.{Int}
use Rattle.php_entries.specs.Listing.{Listing, entry_at, is_full, is_at_limit, KEY_LIMIT}
use Rattle.php_entries.specs.Changes.{Grown, with_entry}
use Rattle.php_entries.proofs.ChangeLemmas.{append_value-full, append_value-limit, append_value-new}
use Rattle.php_entries.proofs.SoundLemmas.{next_key-absent}
use Rattle.php_array.specs.Kept.{listing_of}
use Rattle.php_array.proofs.entries.Entries.append.Goals as goal

pub returns-then-self-ge-KEY_LIMIT-clause-full : goal.returns-then-self-ge-KEY_LIMIT-clause-full
returns-then-self-ge-KEY_LIMIT-clause-full g c =
    let full : is_full c.args.self.now ≡ true = ap (λ (m : Listing _). is_full m) (sym c.self.view_is) ∙ le-leb KEY_LIMIT c.self.inside.next_key c.if-self-ge-KEY_LIMIT.true in
    (λ e. append_value-full c.args.self.now c.args.value full, λ e. refl)

pub returns-then-self-ge-KEY_LIMIT-clause-limit : goal.returns-then-self-ge-KEY_LIMIT-clause-limit
returns-then-self-ge-KEY_LIMIT-clause-limit g c =
    let full : is_full c.args.self.now ≡ true = ap (λ (m : Listing _). is_full m) (sym c.self.view_is) ∙ le-leb KEY_LIMIT c.self.inside.next_key c.if-self-ge-KEY_LIMIT.true in
    (λ e. cc, λ e. (let bad = sym (append_value-full c.args.self.now c.args.value full) ∙ e in cc))

pub returns-then-is_at_limit-clause-full : goal.returns-then-is_at_limit-clause-full
returns-then-is_at_limit-clause-full g c =
    let open_key : is_full c.args.self.now ≡ false = ap (λ (m : Listing _). is_full m) (sym c.self.view_is) ∙ lt-leb KEY_LIMIT c.self.inside.next_key c.if-self-ge-KEY_LIMIT.false in
    let limit : is_at_limit c.args.self.now ≡ true = sym c.is_at_limit.ensures ∙ c.if-is_at_limit.true in
    (λ e. cc, λ e. (let bad = sym (append_value-limit c.args.self.now c.args.value open_key limit) ∙ e in cc))

pub returns-then-is_at_limit-clause-limit : goal.returns-then-is_at_limit-clause-limit
returns-then-is_at_limit-clause-limit g c =
    let open_key : is_full c.args.self.now ≡ false = ap (λ (m : Listing _). is_full m) (sym c.self.view_is) ∙ lt-leb KEY_LIMIT c.self.inside.next_key c.if-self-ge-KEY_LIMIT.false in
    let limit : is_at_limit c.args.self.now ≡ true = sym c.is_at_limit.ensures ∙ c.if-is_at_limit.true in
    (λ e. append_value-limit c.args.self.now c.args.value open_key limit, λ e. refl)

pub add_next-requires-clause-absent : goal.add_next-requires-clause-absent
add_next-requires-clause-absent g c =
    ap (entry_at c.args.self.now) c.int_key-key.ensures
    ∙ ap (λ (m : Listing _). entry_at m (Int (pos c.self.inside.next_key))) (sym c.self.view_is)
    ∙ next_key-absent (listing_of c.self.inside.slots.items c.self.inside.next_key c.self.inside.next_serial) c.self.invariant.sound

pub returns-in-Ok-clause-appended : goal.returns-in-Ok-clause-appended
returns-in-Ok-clause-appended g c =
    let open_key : is_full c.args.self.now ≡ false = ap (λ (m : Listing _). is_full m) (sym c.self.view_is) ∙ lt-leb KEY_LIMIT c.self.inside.next_key c.if-self-ge-KEY_LIMIT.false in
    let room : is_at_limit c.args.self.now ≡ false = sym c.is_at_limit.ensures ∙ c.if-is_at_limit.false in
    let same : c.self.inside.next_key ≡ c.args.self.now.next_key = ap (λ (m : Listing _). m.next_key) c.self.view_is in (
      to_z-of_z w64 c.next_int-number.result (search rules) ∙ c.next_int-number.ensures ∙ ap pos same,
      append_value-new c.args.self.now c.args.value open_key room
          ∙ ap Grown (sym (c.in-Ok.ensures.ok ∙ ap (λ (k : Key). with_entry c.args.self.now k c.args.value) (c.int_key-key.ensures ∙ ap (λ (n : ℕ). Int (pos n)) same))),
    )

pub returns-in-Ok-clause-full : goal.returns-in-Ok-clause-full
returns-in-Ok-clause-full g c =
    let open_key : is_full c.args.self.now ≡ false = ap (λ (m : Listing _). is_full m) (sym c.self.view_is) ∙ lt-leb KEY_LIMIT c.self.inside.next_key c.if-self-ge-KEY_LIMIT.false in
    let room : is_at_limit c.args.self.now ≡ false = sym c.is_at_limit.ensures ∙ c.if-is_at_limit.false in
    (λ e. cc, λ e. (let bad = sym (append_value-new c.args.self.now c.args.value open_key room) ∙ e in cc))

pub returns-in-Ok-clause-limit : goal.returns-in-Ok-clause-limit
returns-in-Ok-clause-limit g c =
    let open_key : is_full c.args.self.now ≡ false = ap (λ (m : Listing _). is_full m) (sym c.self.view_is) ∙ lt-leb KEY_LIMIT c.self.inside.next_key c.if-self-ge-KEY_LIMIT.false in
    let room : is_at_limit c.args.self.now ≡ false = sym c.is_at_limit.ensures ∙ c.if-is_at_limit.false in
    (λ e. cc, λ e. (let bad = sym (append_value-new c.args.self.now c.args.value open_key room) ∙ e in cc))

pub returns-in-Err-clause-full : goal.returns-in-Err-clause-full
returns-in-Err-clause-full g c =
    let open_key : is_full c.args.self.now ≡ false = ap (λ (m : Listing _). is_full m) (sym c.self.view_is) ∙ lt-leb KEY_LIMIT c.self.inside.next_key c.if-self-ge-KEY_LIMIT.false in
    let room : is_at_limit c.args.self.now ≡ false = sym c.is_at_limit.ensures ∙ c.if-is_at_limit.false in
    (λ e. cc, λ e. (let bad = sym (append_value-new c.args.self.now c.args.value open_key room) ∙ e in cc))

pub returns-in-Err-clause-limit : goal.returns-in-Err-clause-limit
returns-in-Err-clause-limit g c =
    let open_key : is_full c.args.self.now ≡ false = ap (λ (m : Listing _). is_full m) (sym c.self.view_is) ∙ lt-leb KEY_LIMIT c.self.inside.next_key c.if-self-ge-KEY_LIMIT.false in
    let room : is_at_limit c.args.self.now ≡ false = sym c.is_at_limit.ensures ∙ c.if-is_at_limit.false in
    (λ e. cc, λ e. (let bad = sym (append_value-new c.args.self.now c.args.value open_key room) ∙ e in cc))
