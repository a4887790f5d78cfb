-- Each operation on alike memories: may it be made, what it leaves, what it answers, what it costs.
use Rattle.std.proofs.Common.{◌≡◌, ℕ, List, [], ◌∷◌, length, refl, ◌∙◌, ap, arith}
use Rattle.std.specs.Prelude.{Option, Some, None}
use Rattle.php_entries.specs.Listing.{Entry, Listing}
use Rattle.php_entries.specs.Changes.{map_entries, map_listing}
use Rattle.php_memdef.specs.declared.place.Place.{Place}
use Rattle.php_memdef.specs.declared.answer.Wrote.{Wrote}
use Rattle.php_memdef.specs.Numbered.{numbered}
use Rattle.php_memdef.specs.Contents.{Scope, Mem}
use Rattle.php_memdef.specs.Writes as writes
use Rattle.php_memdef.specs.Views.{found, elements_if_found, cost_of}
use Rattle.php_memdef.specs.Sound.{IsClosed}
use Rattle.php_memdef.specs.Alike.{map_if, renamed_scope, IsRenamed, Alike}
use Rattle.php_memdef.specs.Operations.{Operation, Can, run, cost, cost_if_done, cost_of_last, cost_of_last_if}
use Rattle.php_memdef.specs.Operations as op
use Rattle.php_memdef.specs.Laws.{AnswersAlike, HoldsAlike}
use Rattle.php_memdef_laws.proofs.Alike.Temporaries.{enter-renamed, leave-renamed, push-renamed, push_array-renamed, push_object-renamed, pass-renamed, drop_top-renamed}
use Rattle.php_memdef_laws.proofs.Alike.Scopes.{turn-renamed, reserve-renamed}
use Rattle.php_memdef_laws.proofs.Alike.Appends.{append-alike}
use Rattle.php_memdef_laws.proofs.Alike.Copies.{copy-alike, settle-alike}
use Rattle.php_memdef_laws.proofs.Alike.Places.{unset-renamed, unset_last-renamed, forget-renamed, shed-renamed}
use Rattle.php_memdef_laws.proofs.Alike.Walks.{assign-alike, make_link-alike, bind-alike}
use Rattle.php_memdef_laws.proofs.Alike.Releases.{fall-renamed, make_object-renamed, clone_object-alike, finish-renamed, spare-renamed, attach-renamed}
use Rattle.php_memdef_laws.proofs.Alike.Views.{found-renamed, elements_if-renamed, length_entries, cost_of-alike, IsBlock-alike, IsObject-alike, CanLeave-alike, CanPush-alike, CanPushArray-alike, CanPushObject-alike, CanCopy-alike, CanAssign-alike, CanLink-alike, CanBind-alike, CanSettle-alike, CanTurn-alike, CanAppend-alike, CanPass-alike, CanUnset-alike, CanUnsetLast-alike, CanForget-alike, CanDropTop-alike, CanMakeObject-alike, CanClone-alike, CanAttach-alike}

-- one renaming before and after

kept : (m n : Mem) (a : Alike m n) (m' n' : Mem) → IsRenamed a.to a.back m' n' → Alike m' n'
kept m n a m' n' r = record { to = a.to; back = a.back; renamed = r }

pub run-alike : (o : Operation) → AnswersAlike (run o)
run-alike (op.enter b room) m n closed a = (kept m n a _ _ (enter-renamed a.to a.back m n a.renamed b room), refl)
run-alike (op.leave b) m n closed a = (kept m n a _ _ (leave-renamed a.to a.back m n a.renamed b), refl)
run-alike (op.push b v) m n closed a = (kept m n a _ _ (push-renamed a.to a.back m n a.renamed b v), refl)
run-alike (op.push_array b) m n closed a = (kept m n a _ _ (push_array-renamed a.to a.back m n a.renamed b), refl)
run-alike (op.push_object b h) m n closed a = (kept m n a _ _ (push_object-renamed a.to a.back m n a.renamed b h), refl)
run-alike (op.copy b from) m n closed a = copy-alike m n closed a b from
run-alike (op.assign b to) m n closed a = assign-alike m n closed a b to
run-alike (op.link b from) m n closed a = make_link-alike m n closed a b from
run-alike (op.bind b to) m n closed a = bind-alike m n closed a b to
run-alike (op.settle b) m n closed a = (settle-alike m n closed a b, refl)
run-alike (op.pass b c) m n closed a = (kept m n a _ _ (pass-renamed a.to a.back m n a.renamed b c), refl)
run-alike (op.turn b k) m n closed a = (kept m n a _ _ (turn-renamed a.to a.back m n a.renamed b k), refl)
run-alike (op.reserve b k) m n closed a = (kept m n a _ _ (reserve-renamed a.to a.back m n a.renamed b k), refl)
run-alike (op.append b to) m n closed a = (append-alike m n closed a b to, refl)
run-alike (op.unset b at) m n closed a = (kept m n a _ _ (unset-renamed a.to a.back m n a.renamed b at), refl)
run-alike (op.unset_last b at) m n closed a = (kept m n a _ _ (unset_last-renamed a.to a.back m n a.renamed b at), refl)
run-alike (op.forget b k) m n closed a = (kept m n a _ _ (forget-renamed a.to a.back m n a.renamed b k), refl)
run-alike (op.shed b) m n closed a = let p = shed-renamed a.to a.back m n a.renamed b in (kept m n a _ _ p.0, p.1)
run-alike (op.drop_top b) m n closed a = (kept m n a _ _ (drop_top-renamed a.to a.back m n a.renamed b), refl)
run-alike (op.fall b) m n closed a = let p = fall-renamed a.to a.back m n a.renamed b in (kept m n a _ _ p.0, p.1)
run-alike (op.make_object b class finishing) m n closed a = let p = make_object-renamed a.to a.back m n a.renamed b class finishing in (kept m n a _ _ p.0, p.1)
run-alike (op.clone_object b) m n closed a = clone_object-alike m n closed a b
run-alike (op.finish h) m n closed a = (kept m n a _ _ (finish-renamed a.to a.back m n a.renamed h), refl)
run-alike (op.spare h) m n closed a = (kept m n a _ _ (spare-renamed a.to a.back m n a.renamed h), refl)
run-alike (op.attach h f) m n closed a = (kept m n a _ _ (attach-renamed a.to a.back m n a.renamed h f), refl)

still_free : (to : ℕ → ℕ) (o p : Option Scope) → p ≡ map_if (renamed_scope to) o → o ≡ None → p ≡ None
still_free to o p e h = e ∙ ap (map_if (renamed_scope to)) h

pub Can-alike : (o : Operation) → HoldsAlike (Can o)
Can-alike (op.enter b room) m n a h = still_free a.to (numbered m.blocks b) (numbered n.blocks b) (a.renamed.blocks b) h
Can-alike (op.leave b) m n a h = CanLeave-alike a.to a.back m n a.renamed b h
Can-alike (op.push b v) m n a h = CanPush-alike a.to a.back m n a.renamed b v h
Can-alike (op.push_array b) m n a h = CanPushArray-alike a.to a.back m n a.renamed b h
Can-alike (op.push_object b k) m n a h = CanPushObject-alike a.to a.back m n a.renamed b k h
Can-alike (op.copy b p) m n a h = CanCopy-alike a.to a.back m n a.renamed b p h
Can-alike (op.assign b p) m n a h = CanAssign-alike a.to a.back m n a.renamed b p h
Can-alike (op.link b p) m n a h = CanLink-alike a.to a.back m n a.renamed b p h
Can-alike (op.bind b p) m n a h = CanBind-alike a.to a.back m n a.renamed b p h
Can-alike (op.settle b) m n a h = CanSettle-alike a.to a.back m n a.renamed b h
Can-alike (op.pass b c) m n a h = CanPass-alike a.to a.back m n a.renamed b c h
Can-alike (op.turn b k) m n a h = CanTurn-alike a.to a.back m n a.renamed b k h
Can-alike (op.reserve b k) m n a h = IsBlock-alike a.to a.back m n a.renamed b h
Can-alike (op.append b p) m n a h = CanAppend-alike a.to a.back m n a.renamed b p h
Can-alike (op.unset b p) m n a h = CanUnset-alike a.to a.back m n a.renamed b p h
Can-alike (op.unset_last b p) m n a h = CanUnsetLast-alike a.to a.back m n a.renamed b p h
Can-alike (op.forget b k) m n a h = CanForget-alike a.to a.back m n a.renamed b h
Can-alike (op.shed b) m n a h = CanForget-alike a.to a.back m n a.renamed b h
Can-alike (op.drop_top b) m n a h = CanDropTop-alike a.to a.back m n a.renamed b h
Can-alike (op.fall b) m n a h = IsBlock-alike a.to a.back m n a.renamed b h
Can-alike (op.make_object b class finishing) m n a h = CanMakeObject-alike a.to a.back m n a.renamed b h
Can-alike (op.clone_object b) m n a h = CanClone-alike a.to a.back m n a.renamed b h
Can-alike (op.finish k) m n a h = IsObject-alike a.to a.back m n a.renamed k h
Can-alike (op.spare k) m n a h = IsObject-alike a.to a.back m n a.renamed k h
Can-alike (op.attach k f) m n a h = CanAttach-alike a.to a.back m n a.renamed k f h

-- costs

cost_of_last-renamed : (to : ℕ → ℕ) (es : List (Entry ℕ)) (m n : Mem) (p : Place) → cost_of n p ≡ cost_of m p → cost_of_last (map_entries to es) n p ≡ cost_of_last es m p
cost_of_last-renamed to [] m n p e = refl
cost_of_last-renamed to (x ∷ es) m n p e = let f : length (map_entries to es) ≡ length es = length_entries to es in omega (arith, e, f)

cost_of_last_if-renamed : (to : ℕ → ℕ) (o : Option (Listing ℕ)) (m n : Mem) (p : Place) → cost_of n p ≡ cost_of m p → cost_of_last_if (map_if (map_listing to) o) n p ≡ cost_of_last_if o m p
cost_of_last_if-renamed to None m n p e = refl
cost_of_last_if-renamed to (Some t) m n p e = cost_of_last-renamed to t.entries m n p e

module _ (m n : Mem) (closed : IsClosed m) (a : Alike m n) where
  place-cost : (p : Place) → cost_of n p ≡ cost_of m p
  place-cost p = cost_of-alike a.to a.back m n a.renamed p

  write-cost : (v w : Wrote) (p : Place) → v ≡ w → cost_if_done v (cost_of n p) ≡ cost_if_done w (cost_of m p)
  write-cost v w p e = ap (λ x. cost_if_done x (cost_of n p)) e ∙ ap (cost_if_done w) (place-cost p)

  last-cost : (p : Place) → cost_of_last_if (elements_if_found (found n p)) n p ≡ cost_of_last_if (elements_if_found (found m p)) m p
  last-cost p = ap (λ o. cost_of_last_if (elements_if_found o) n p) (found-renamed a.to a.back m n a.renamed p) ∙ ap (λ o. cost_of_last_if o n p) (elements_if-renamed a.to (found m p)) ∙ cost_of_last_if-renamed a.to (elements_if_found (found m p)) m n p (place-cost p)

pub cost-alike : (o : Operation) (m n : Mem) → IsClosed m → Alike m n → cost o n ≡ cost o m
cost-alike (op.enter b room) m n closed a = refl
cost-alike (op.leave b) m n closed a = refl
cost-alike (op.push b v) m n closed a = refl
cost-alike (op.push_array b) m n closed a = refl
cost-alike (op.push_object b h) m n closed a = refl
cost-alike (op.copy b from) m n closed a = refl
cost-alike (op.assign b p) m n closed a = write-cost m n closed a (writes.assign n b p).1 (writes.assign m b p).1 p (assign-alike m n closed a b p).1
cost-alike (op.link b p) m n closed a = write-cost m n closed a (writes.make_link n b p).1 (writes.make_link m b p).1 p (make_link-alike m n closed a b p).1
cost-alike (op.bind b p) m n closed a = write-cost m n closed a (writes.bind n b p).1 (writes.bind m b p).1 p (bind-alike m n closed a b p).1
cost-alike (op.settle b) m n closed a = refl
cost-alike (op.pass b c) m n closed a = refl
cost-alike (op.turn b k) m n closed a = refl
cost-alike (op.reserve b k) m n closed a = refl
cost-alike (op.append b p) m n closed a = place-cost m n closed a p
cost-alike (op.unset b p) m n closed a = place-cost m n closed a p
cost-alike (op.unset_last b p) m n closed a = last-cost m n closed a p
cost-alike (op.forget b k) m n closed a = refl
cost-alike (op.shed b) m n closed a = refl
cost-alike (op.drop_top b) m n closed a = refl
cost-alike (op.fall b) m n closed a = refl
cost-alike (op.make_object b class finishing) m n closed a = refl
cost-alike (op.clone_object b) m n closed a = refl
cost-alike (op.finish h) m n closed a = refl
cost-alike (op.spare h) m n closed a = refl
cost-alike (op.attach h f) m n closed a = refl
