use Rattle.std.proofs.Common.{rules, ◌≡◌, ◌∙◌, length}
use Rattle.php_value.specs.declared.key.Key.{Key}
use Rattle.php_array.proofs.IndexLemmas.{pushed_packed, pushed_hashed, OnOk-map, OnErr-map}
use Rattle.php_array.proofs.indexing.index_entry.Goals as goal

pub returns-in-Some-clause-ok : goal.returns-in-Some-clause-ok
returns-in-Some-clause-ok g c =
    let len : c.len.result ≡ length c.args.slots.now.items = search rules in
    pushed_packed c.in-Packed.first c.in-Some.new_first c.len.result c.args.slots.now.items c.args.key.now (rw c.in-Packed.is at c.requires.indexed) c.requires.absent c.in-Some.ensures.place len c.in-Some.ensures.kept

pub returns-in_ok-insert_place-in-None-clause-ok : goal.returns-in_ok-insert_place-in-None-clause-ok
returns-in_ok-insert_place-in-None-clause-ok g c =
    let len : c.len-in-None.result ≡ length c.args.slots.now.items = search rules in
    pushed_hashed c.in_ok-places-in-None.places.entries c.insert_place.new.places.entries c.len-in-None.result c.args.slots.now.items c.args.key.now c.in_ok-places-in-None.ensures c.requires.absent c.in_ok-insert_place-in-None.ensures.ok len

pub returns-in-Hashed-clause-ok : goal.returns-in-Hashed-clause-ok
returns-in-Hashed-clause-ok g c =
    let len : c.len-in-Hashed.result ≡ length c.args.slots.now.items = search rules in
    OnOk-map c.insert_place-in-Hashed.result c.insert_place-in-Hashed.ensures.ok (λ sets.
    pushed_hashed c.in-Hashed.places.entries c.insert_place-in-Hashed.new.places.entries c.len-in-Hashed.result c.args.slots.now.items c.args.key.now (rw c.in-Hashed.is at c.requires.indexed) c.requires.absent sets len)

pub returns-in-Hashed-clause-err : goal.returns-in-Hashed-clause-err
returns-in-Hashed-clause-err g c =
    let before = rw c.in-Hashed.is at c.requires.indexed in
    OnErr-map c.insert_place-in-Hashed.result c.insert_place-in-Hashed.ensures.err (λ same. λ (k : Key). same k ∙ before k)
