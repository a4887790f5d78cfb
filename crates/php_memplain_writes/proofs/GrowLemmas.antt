-- Arrays and contents that are to lead to a store.
use Rattle.std.proofs.Common.{◌≡◌, ℕ, sym, ◌∙◌, ap, subst}
use Rattle.php_entries.specs.Listing.{Listing, no_entries}
use Rattle.php_entries.specs.Changes.{Grown, Full as NoKeyLeft, Limit as NoEntryLeft}
use Rattle.php_memdef.specs.declared.place.Step.{Step}
use Rattle.php_memdef.specs.declared.answer.Wrote.{Wrote}
use Rattle.php_memdef.specs.declared.answer.Wrote.TheVariants.{Done, NotArray, Full, Limit}
use Rattle.php_memdef.specs.Contents.{Content, Mem}
use Rattle.php_memdef.specs.Places.{Spot, content_at, with_content, step_set}
use Rattle.php_memplain_writes.specs.Standing.{HasContent}
use Rattle.php_memplain_writes.specs.declared.growing.Grew.{Grew}
use Rattle.php_memplain_writes.specs.declared.growing.Grew.TheVariants as grew
use Rattle.php_memplain_writes.specs.Grows.{IsRefusal}
use Rattle.php_memplain_writes.specs.Growing.{GrowsTo, CantGrow, ContentGrew, GrewAt}
use Rattle.php_memplain_writes.proofs.ChainLemmas.{one_element}
use Rattle.php_memplain_writes.proofs.SpotLemmas.{put_twice, put_same}

no_full : {t : Listing ℕ} → Grown t ≡ NoKeyLeft → ⊥
no_full e = cc

no_limit : {t : Listing ℕ} → Grown t ≡ NoEntryLeft → ⊥
no_limit e = cc

-- an array without entries can grow
pub never_refused : (why : Wrote) (step : Step) (s : ℕ) (t : Listing ℕ) → t ≡ no_entries → IsRefusal why (step_set t step s) → ⊥
never_refused Done step s t e h = h
never_refused NotArray step s t e h = h
never_refused Full step s t e h = no_full (sym (ap (λ u. step_set u step s) e ∙ (one_element step s).is) ∙ h)
never_refused Limit step s t e h = no_limit (sym (ap (λ u. step_set u step s) e ∙ (one_element step s).is) ∙ h)

-- a content is taken out, and what became of it is put back
pub put_back : (m n w : Mem) (spot : Spot) → HasContent m spot → (c d : Content) → c ≡ content_at m spot → (e : Content) → n ≡ with_content m spot e → w ≡ with_content n spot d → (g : Grew) (step : Step) (s : ℕ) → ContentGrew g c step s d → GrewAt g m spot step s w
put_back m n w spot there c d is e out back g step s h = by_answer g h
  where
    after : w ≡ with_content m spot d
    after = back ∙ ap (λ (x : Mem). with_content x spot d) out ∙ put_twice m spot e d

    unchanged : d ≡ c → w ≡ m
    unchanged same = after ∙ put_same m spot there d (same ∙ is)

    by_answer : (g : Grew) → ContentGrew g c step s d → GrewAt g m spot step s w
    by_answer (grew.Done before) h = (h.0, (subst (λ x. GrowsTo x step s before h.0) is h.1.0, after ∙ ap (with_content m spot) h.1.1))
    by_answer (grew.Refused why) h = (subst (λ x. CantGrow why x step s) is h.0, unchanged h.1)
    by_answer grew.NoMemory h = unchanged h
