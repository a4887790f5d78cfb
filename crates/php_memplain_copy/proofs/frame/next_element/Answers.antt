use Rattle.std.proofs.Common.{◌≡◌, ℕ, ◌∷◌, sym, ◌∙◌, ap}
use Rattle.std.specs.Option.{option_map}
use Rattle.php_entries.specs.Listing.{Entry, Listing}
use Rattle.php_memdef.specs.Holders.{stores_of_entries}
use Rattle.php_array.specs.Answers.{shown_entry}
use Rattle.php_memplain_cells.specs.Seen.{later}
use Rattle.php_memplain_cells.proofs.LoadLemmas.{later_none, later_first}
use Rattle.php_memplain_copy.proofs.frame.next_element.Goals as goal

pub returns-in-None-clause-none : goal.returns-in-None-clause-none
returns-in-None-clause-none c =
    let t = c.entries_of-entries.result.now in
    let p = c.args.frame.now.passed in
    let none =
    ap (λ (x : Listing ℕ). stores_of_entries (later p x.entries)) (sym c.entries_of-entries.ensures)
    ∙ ap stores_of_entries (later_none p t.entries (sym c.entry_after_near.ensures ∙ ap (option_map shown_entry) c.in-None.is)) in
    (none, none)

pub returns-clause-some : goal.returns-clause-some
returns-clause-some c =
    let t = c.entries_of-entries.result.now in
    let p = c.args.frame.now.passed in
    let s = c.len-count.ensures.sound in
    let x : Entry ℕ = record { serial = c.in-Some.serial; key = c.in-Some.field-0-1.now; value = c.in-Some.store.now } in
    ap (λ (y : Listing ℕ). stores_of_entries (later p y.entries)) (sym c.entries_of-entries.ensures)
    ∙ ap stores_of_entries (later_first p 0 t.entries t.next_serial x s.serials_rise (sym c.entry_after_near.ensures ∙ ap (option_map shown_entry) c.in-Some.is)).left
    ∙ ap (λ (y : Listing ℕ). x.value ∷ stores_of_entries (later x.serial y.entries)) c.entries_of-entries.ensures
