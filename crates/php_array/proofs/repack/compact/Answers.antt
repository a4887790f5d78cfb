use Rattle.std.proofs.Common.{◌∙◌, ◌+◌, ℕ, List, sym, ap, subst}
use Rattle.std.specs.Prelude.{is_some}
use Rattle.php_value.specs.declared.key.Key.{Key}
use Rattle.php_entries.specs.Listing.{Entry}
use Rattle.php_entries.specs.Soundness.{AreKeysDistinct}
use Rattle.php_array.specs.Index.{IsIndexed}
use Rattle.php_array.specs.Kept.{IsRepacked}
use Rattle.php_array.specs.Slots.{entries_in, place_of}
use Rattle.php_array.specs.declared.key_index.KeyIndex.TheVariants.{Packed, Hashed}
use Rattle.php_array.specs.Slot.{Slot}
use Rattle.php_array.proofs.RepackLemmas.{live-entries, live-place, repacked-live, repacked-front}
use Rattle.php_array.proofs.repack.compact.Goals as goal

pub renew_places-requires-clause-distinct : goal.renew_places-requires-clause-distinct
renew_places-requires-clause-distinct g c =
    subst (λ (es : List (Entry _)). AreKeysDistinct es) (sym (ap entries_in c.drop_holes.ensures ∙ live-entries c.args.slots.now.items)) c.requires.distinct

pub renew_places-requires-clause-same_keys : goal.renew_places-requires-clause-same_keys
renew_places-requires-clause-same_keys g c =
    let before = rw c.in-Hashed.is at c.requires.indexed in
    λ (k : Key). ap is_some (before k) ∙ sym (live-place k c.args.slots.now.items) ∙ ap (λ (ss : List (Slot _)). is_some (place_of k ss)) (sym c.drop_holes.ensures)

pub returns-in-Hashed : goal.returns-in-Hashed
returns-in-Hashed g c =
    let index = Hashed c.renew_places.new.places in
    let old = c.args.slots.now.items in
    subst (λ (ss : List (Slot _)). IsRepacked old ss index 0) (sym c.drop_holes.ensures)
    (repacked-live old index (subst (λ (ss : List (Slot _)). IsIndexed index ss) c.drop_holes.ensures c.renew_places.ensures))

pub returns-in-Some : goal.returns-in-Some
returns-in-Some g c =
    let old = c.args.slots.now.items in
    let first = c.in-Packed.first_key in
    let shifted = repacked-front c.args.first first old c.requires.front c.requires.front_within (rw c.in-Packed.is at c.requires.indexed) in
    subst (λ (key : ℕ). IsRepacked old c.drop_front.new.self.items (Packed key) 0) (sym c.in-Some.ensures.1)
    (subst (λ (ss : List (Slot _)). IsRepacked old ss (Packed (first + c.args.first)) 0) (sym c.drop_front.ensures) shifted)
