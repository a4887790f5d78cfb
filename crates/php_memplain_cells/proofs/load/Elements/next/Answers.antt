use Rattle.std.proofs.Common.{ℕ, sym, ◌∙◌, ap}
use Rattle.std.specs.Option.{option_map}
use Rattle.php_entries.specs.Listing.{Entry}
use Rattle.php_memdef.specs.Releases.{entry_links}
use Rattle.php_array.specs.Answers.{shown_entry}
use Rattle.php_memplain_cells.proofs.LoadLemmas.{later_none, later_first}
use Rattle.php_memplain_cells.proofs.load.Elements.next.Goals as goal

pub returns-in-None-clause-none : goal.returns-in-None-clause-none
returns-in-None-clause-none c =
    let e = c.args.self.now in
    ap entry_links (later_none e.passed e.entries.entries (sym c.entry_after_near.ensures ∙ ap (option_map shown_entry) c.in-None.is))

pub returns-clause-some : goal.returns-clause-some
returns-clause-some c =
    let e = c.args.self.now in
    let s = c.len-count.ensures.sound in
    let x : Entry ℕ = record { serial = c.in-Some.serial; key = c.in-Some.field-0-1.now; value = c.in-Some.store.now } in
    ap entry_links (later_first e.passed 0 e.entries.entries e.entries.next_serial x s.serials_rise (sym c.entry_after_near.ensures ∙ ap (option_map shown_entry) c.in-Some.is)).left
