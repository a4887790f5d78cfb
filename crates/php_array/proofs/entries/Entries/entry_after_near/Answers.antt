use Rattle.std.proofs.Common.{rules, ◌≡◌, ◌∙◌, ◌<◌, ◌≤◌, ◌+◌, ℕ, arith, drop, length, sym, ap, Some}
use Rattle.std.specs.Prelude.{max}
use Rattle.php_array.specs.Answers.{shown_entry}
use Rattle.php_array.specs.Slots.{entries_in, serial_at}
use Rattle.php_array.proofs.AnswerLemmas.{entry_after-some, entry_after-none}
use Rattle.php_array.proofs.entries.Entries.entry_after_near.Goals as goal

pub returns-in-Some : goal.returns-in-Some
returns-in-Some g c =
    let i = c.self.inside in
    let ss = i.slots.items in
    let e = shown_entry c.in-Some.entry in
    let from : c.max-from.result ≡ max c.slots_through_near.result i.first = search rules in
    let high : (j : ℕ) → c.slots_through_near.result ≤ j → j < length ss → c.args.serial < serial_at j ss = λ j above below. c.slots_through_near.ensures.behind j above below in
    sym (entry_after-some c.args.self.now ss i.next_key i.next_serial c.self.view_is c.args.serial c.slots_through_near.result i.first c.max-from.result c.slots_through_near.ensures.through c.self.invariant.front from high c.in-Some.at e (entries_in (drop (c.in-Some.at + 1) ss)) c.in-Some.ensures.place c.in-Some.ensures.stored c.in-Some.ensures.entries)

pub returns-in-None : goal.returns-in-None
returns-in-None g c =
    let i = c.self.inside in
    let from : c.max-from.result ≡ max c.slots_through_near.result i.first = search rules in
    sym (entry_after-none c.args.self.now i.slots.items i.next_key i.next_serial c.self.view_is c.args.serial c.slots_through_near.result i.first c.max-from.result c.slots_through_near.ensures.through c.self.invariant.front from c.in-None.ensures.none)
