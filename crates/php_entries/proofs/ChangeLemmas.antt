-- What a change comes to, by what it finds.
use Rattle.std.proofs.Common.{◌≡◌, ◌∙◌, ap, Some, None}
use Rattle.std.specs.Prelude.{Bool, true, false, Option, pos}
use Rattle.php_value.specs.declared.key.Key.{Key}
use Rattle.php_value.specs.declared.key.Key.TheVariants.{Int}
use Rattle.php_entries.specs.Listing.{Entry, Listing, entry_at, is_full, is_at_limit}
use Rattle.php_entries.specs.Changes.{Grown, Full, Limit, with_entry, with_value, value_set, entry_added, value_appended, set_value, append_value}

module _ {T : Type 0} (l : Listing T) (v : T) where
  pub set_value-there : (k : Key) (e : Entry T) → entry_at l k ≡ Some e → set_value l k v ≡ Grown (record l { entries = with_value k v l.entries })
  unfolding set_value
  set_value-there k e is = ap (λ (o : Option (Entry T)). value_set o l k v) is

  pub set_value-limit : (k : Key) → entry_at l k ≡ None → is_at_limit l ≡ true → set_value l k v ≡ Limit
  unfolding set_value
  set_value-limit k none limit = ap (λ (o : Option (Entry T)). value_set o l k v) none ∙ ap (λ (b : Bool). entry_added b l k v) limit

  pub set_value-new : (k : Key) → entry_at l k ≡ None → is_at_limit l ≡ false → set_value l k v ≡ Grown (with_entry l k v)
  unfolding set_value
  set_value-new k none room = ap (λ (o : Option (Entry T)). value_set o l k v) none ∙ ap (λ (b : Bool). entry_added b l k v) room

  pub append_value-full : is_full l ≡ true → append_value l v ≡ Full
  unfolding append_value
  append_value-full full = ap (λ (b : Bool). value_appended b l v) full

  pub append_value-limit : is_full l ≡ false → is_at_limit l ≡ true → append_value l v ≡ Limit
  unfolding append_value
  append_value-limit open_key limit = ap (λ (b : Bool). value_appended b l v) open_key ∙ ap (λ (b : Bool). entry_added b l (Int (pos l.next_key)) v) limit

  pub append_value-new : is_full l ≡ false → is_at_limit l ≡ false → append_value l v ≡ Grown (with_entry l (Int (pos l.next_key)) v)
  unfolding append_value
  append_value-new open_key room = ap (λ (b : Bool). value_appended b l v) open_key ∙ ap (λ (b : Bool). entry_added b l (Int (pos l.next_key)) v) room
