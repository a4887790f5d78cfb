use Rattle.std.proofs.Common.{◌≡◌, ◌<◌, ◌+◌, ◌++◌, ℕ, length, drop}
use Rattle.php_entries.specs.Changes.{entries_with}
use Rattle.php_entries.specs.Soundness.{DoSerialsRise}
use Rattle.php_array.specs.Slots.{entries_in}
use Rattle.php_array.proofs.entries.Entries.with_values.Given as goal

abbrev pub invariant-loop-value : goal.invariant-loop-value
invariant-loop-value g l = record {
  values : l.yielded ++ l.value-iterator.rest.items ≡ l.fn.values.items;
  rest : entries_in (drop l.place l.self-inside.slots.items) ≡ drop (length l.yielded) (entries_in l.self-inside.slots.items);
  copied : l.copy.entries ≡ entries_with (entries_in l.self-inside.slots.items) l.yielded;
  last : (from : ℕ) × ((l.copy.next_serial ≡ from + 1) × ((from < l.self-inside.next_serial) × DoSerialsRise from (drop (length l.yielded) (entries_in l.self-inside.slots.items)) l.self-inside.next_serial));
}
