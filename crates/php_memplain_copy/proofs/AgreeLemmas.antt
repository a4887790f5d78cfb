-- A copy into any free stores against the model's copy into the next ones.
use Rattle.std.proofs.Common.{◌≡◌, ◌≢◌, ℕ, zero, suc, List, [], ◌∷◌, length, refl, sym, ◌∙◌, ap, subst, inl, inr}
use Rattle.std.specs.Prelude.{Bool, true, false, Option, Some, None}
use Rattle.std.proofs.lemmas.Bool.Decides.{eqb_tells}
use Rattle.php_entries.specs.Listing.{Entry, Listing}
use Rattle.php_entries.specs.Changes.{entries_with, with_values, map_entries}
use Rattle.php_memdef.specs.Numbered.{Numbered, numbered, with_numbered, with_next}
use Rattle.php_memdef.specs.Contents.{Content, null, truth, int, text, array, object, Mem, content_of}
use Rattle.php_memdef.specs.Holders.{stores_of_content, stores_of_entries, is_shared}
use Rattle.php_memdef.specs.Copies.{Copy, Copier, in_new_store, copied_store_if, copied_store, copied_entries, copied_deep}
use Rattle.php_memdef.specs.Places.{with_new_store}
use Rattle.php_memdef.specs.Alike.{renamed_content, IsRenamed}
use Rattle.php_memdef.specs.Sound.{Every, IsLive, IsClosed}
use Rattle.php_memdef_laws.proofs.NumberedLemmas.{numbered-length, with_next-numbered, numbered-with_same, numbered-with_other}
use Rattle.php_memdef_laws.proofs.Alike.Renamings.{Every-weaken, content-agree, content-kept, scope-kept, object-kept}
use Rattle.php_memdef_laws.proofs.Alike.Memories.{map_if-kept, store-renamed}
use Rattle.php_memdef_laws.proofs.Alike.NewStores.{renamed_again, Extends, Extends-refl, Extends-trans}
use Rattle.php_memdef_laws.proofs.Alike.Copies.{Making, Onwards, StoresMade, ContentsMade, EntriesMade, here}
use Rattle.php_memdef_laws.proofs.Closed.Parts.{content-closed, live-with_new, new-live, with_new_store-closed}
use Rattle.php_memplain_copy.specs.Copying.{Puts, One, CopiesStores, CopiesBy, CopiesIf, CopiesOne, CopiesContent, CopyAgrees}

abbrev itself : ℕ → ℕ
itself s = s

-- a new store on each side, on the second one under any free number
pub record Placed (to : ℕ → ℕ) (m : Mem) (n : Mem) (c : Content) (k : ℕ) : Type 0 where
  pub to' : ℕ → ℕ
  pub back' : ℕ → ℕ
  pub renamed : IsRenamed to' back' (with_new_store m c) n
  pub number : to' (length m.stores) ≡ k
  pub extends : Extends to m to' (with_new_store m c)

pub placed : (to back : ℕ → ℕ) (m n : Mem) → IsRenamed to back m n → IsClosed m → (c : Content) → Every (IsLive m) (stores_of_content c) → (k : ℕ) (zs : Numbered Content) → Puts n.stores k (renamed_content to c) zs → Placed to m (record n { stores = zs }) c k
placed to back m n r closed c h k zs put =
    let l = length m.stores in
    let a = renamed_again to back m n r closed l k (numbered-length m.stores) put.free in
    let d = renamed_content to c in
    let same : renamed_content a.to' c ≡ d = content-agree a.to' to c (Every-weaken (IsLive m) (λ s. a.to' s ≡ to s) a.kept (stores_of_content c) h) in
    let one : IsRenamed a.to' a.back' (record m { stores = with_numbered m.stores l (Some c) }) (record n { stores = with_numbered n.stores (a.to' l) (Some (renamed_content a.to' c)) }) = store-renamed a.to' a.back' m n a.renamed l (Some c) in
    let two : IsRenamed a.to' a.back' (record m { stores = with_numbered m.stores l (Some c) }) (record n { stores = with_numbered n.stores k (Some d) }) =
    subst (λ x. IsRenamed a.to' a.back' (record m { stores = with_numbered m.stores l (Some c) }) (record n { stores = with_numbered n.stores k (Some x) })) same
    (subst (λ x. IsRenamed a.to' a.back' (record m { stores = with_numbered m.stores l (Some c) }) (record n { stores = with_numbered n.stores x (Some (renamed_content a.to' c)) })) a.number one) in
    let three : IsRenamed a.to' a.back' (with_new_store m c) (record n { stores = with_numbered n.stores k (Some d) }) = subst (λ xs. IsRenamed a.to' a.back' (record m { stores = xs }) (record n { stores = with_numbered n.stores k (Some d) })) (sym (with_next-numbered m.stores c)) two in
    record {
      to' = a.to';
      back' = a.back';
      renamed = record {
        back_to = three.back_to;
        to_back = three.to_back;
        stores = λ s. there (a.to' s) ∙ three.stores s;
        objects = three.objects;
        blocks = three.blocks;
        statics = three.statics;
        next_object = three.next_object;
      };
      number = a.number;
      extends = record { live = live-with_new m closed c; kept = a.kept };
    }
  where
    there : (j : ℕ) → numbered zs j ≡ numbered (with_numbered n.stores k (Some (renamed_content to c))) j
    there j = elim (eqb_tells j k) [
      | inl e ↦ ap (numbered zs) e.1 ∙ put.there ∙ sym (numbered-with_same n.stores k (Some (renamed_content to c))) ∙ ap (numbered (with_numbered n.stores k (Some (renamed_content to c)))) (sym e.1)
      | inr e ↦ put.others j e.1 ∙ sym (numbered-with_other n.stores k j (Some (renamed_content to c)) e.1)
    ]

-- the entries over their own stores
own_values : (es : List (Entry ℕ)) → entries_with es (stores_of_entries es) ≡ es
own_values [] = refl
own_values (e ∷ es) = ap (λ fs. e ∷ fs) (own_values es)

module _ (m : Mem) (closed : IsClosed m) where
  abbrev Made : (xs ys : Numbered Content) → Type 0
  Made xs ys = Making itself m m xs ys

  -- a relation that makes what a copier makes
  abbrev Agrees : Copier → One → Type 0
  Agrees f one = (xs ys : Numbered Content) (s : Made xs ys) (c : Content) → Every (IsLive m) (stores_of_content c) → (d : Content) (zs : Numbered Content) → CopiesBy one c ys d zs → ContentsMade itself m m s (f xs c) (record { stores = zs; made = d })

  module _ (f : Copier) (one : One) (agrees : Agrees f one) where
    store_if : (b : Bool) (xs ys : Numbered Content) (s : Made xs ys) (j : ℕ) → IsLive m j → (k : ℕ) (zs : Numbered Content) → CopiesIf b one m j ys k zs → StoresMade itself m m s (copied_store_if b f m xs j) (record { stores = zs; made = k })
    store_if true xs ys s j h k zs p =
        subst (λ us. StoresMade itself m m s (record { stores = xs; made = j }) (record { stores = us; made = k })) (sym p.1)
        (subst (λ i. StoresMade itself m m s (record { stores = xs; made = j }) (record { stores = ys; made = i })) (sym p.0)
        (record { on = here itself m m s; made = sym (s.extends.kept j h); live = s.extends.live j h }))
    store_if false xs ys s j h k zs p =
        let c = content_of m j in
        let a = f xs c in
        let us = p.1.0 in
        let made = agrees xs ys s c (content-closed m closed j) p.0 us p.1.1.0 in
        let q = made.on.making in
        let m' : Mem = record m { stores = a.stores } in
        let n' : Mem = record m { stores = us } in
        let put : Puts us k (renamed_content q.to' a.made) zs = subst (λ x. Puts us k x zs) made.made p.1.1.1 in
        let o = placed q.to' q.back' m' n' q.renamed q.closed a.made made.live k zs put in
        record {
          on = record {
            making = record {
              to' = o.to';
              back' = o.back';
              renamed = o.renamed;
              closed = with_new_store-closed m' q.closed a.made made.live;
              extends = Extends-trans itself q.to' o.to' m m' (with_new_store m' a.made) q.extends o.extends;
            };
            onwards = Extends-trans s.to' q.to' o.to' (record m { stores = xs }) m' (with_new_store m' a.made) made.on.onwards o.extends;
          };
          made = sym o.number;
          live = new-live m' q.closed a.made;
        }

    entries_made : (es : List (Entry ℕ)) (xs ys : Numbered Content) (s : Made xs ys) → Every (IsLive m) (stores_of_entries es) → (vs : List ℕ) (zs : Numbered Content) → CopiesStores (λ j us k ws. CopiesIf (is_shared m j) one m j us k ws) (stores_of_entries es) ys vs zs → EntriesMade itself m m s (copied_entries f m xs es) (record { stores = zs; made = entries_with es vs })
    entries_made [] xs ys s h vs zs p = subst (λ us. EntriesMade itself m m s (record { stores = xs; made = [] }) (record { stores = us; made = [] })) (sym p.1) (record { on = here itself m m s; made = refl; live = tt })
    entries_made (e ∷ es) xs ys s h vs zs p =
        let k = p.0 in
        let us = p.1.0 in
        let ws = p.1.1.0 in
        let first = store_if (is_shared m e.value) xs ys s e.value h.0 k us p.1.1.1.0 in
        let a = copied_store f m xs e.value in
        let rest = entries_made es a.stores us first.on.making h.1 ws zs p.1.1.1.1.0 in
        let a' = copied_entries f m a.stores es in
        let t = rest.on.making.to' in
        let same : k ≡ t a.made = first.made ∙ sym (rest.on.onwards.kept a.made first.live) in
        subst (λ vs. EntriesMade itself m m s (copied_entries f m xs (e ∷ es)) (record { stores = zs; made = entries_with (e ∷ es) vs })) (sym p.1.1.1.1.1)
        (record {
          on = record { making = rest.on.making; onwards = Extends-trans s.to' first.on.making.to' t (record m { stores = xs }) (record m { stores = a.stores }) (record m { stores = a'.stores }) first.on.onwards rest.on.onwards };
          made = ap (λ j. record { serial = e.serial; key = e.key; value = j } ∷ entries_with es ws) same ∙ ap (λ fs. record { serial = e.serial; key = e.key; value = t a.made } ∷ fs) rest.made;
          live = (rest.on.onwards.live a.made first.live, rest.live);
        })

  -- what is kept as it is
  kept_made : (xs ys : Numbered Content) (s : Made xs ys) (c : Content) → Every (IsLive m) (stores_of_content c) → (d : Content) (zs : Numbered Content) → d ≡ c → zs ≡ ys → ContentsMade itself m m s (record { stores = xs; made = c }) (record { stores = zs; made = d })
  kept_made xs ys s c h d zs e g =
      subst (λ us. ContentsMade itself m m s (record { stores = xs; made = c }) (record { stores = us; made = d })) (sym g)
      (record {
        on = here itself m m s;
        made = e ∙ sym (content-agree s.to' itself c (Every-weaken (IsLive m) (λ j. s.to' j ≡ j) s.extends.kept (stores_of_content c) h) ∙ content-kept c);
        live = Every-weaken (IsLive m) (IsLive (record m { stores = xs })) s.extends.live (stores_of_content c) h;
      })

  all_kept : (ss : List ℕ) (xs : Numbered Content) (vs : List ℕ) (ys : Numbered Content) → CopiesStores (CopiesOne zero m) ss xs vs ys → (vs ≡ ss) × (ys ≡ xs)
  all_kept [] xs vs ys p = p
  all_kept (s ∷ ss) xs vs ys p =
      let rest = all_kept ss p.1.0 p.1.1.0 ys p.1.1.1.1.0 in
      (p.1.1.1.1.1 ∙ ap (λ k. k ∷ p.1.1.0) p.1.1.1.0.0 ∙ ap (λ us. s ∷ us) rest.0, rest.1 ∙ p.1.1.1.0.1)

  pub deep_agrees : (n : ℕ) → Agrees (copied_deep n m) (CopiesOne n m)
  unfolding with_values
  deep_agrees zero xs ys s null h d zs p = kept_made xs ys s null h d zs p.0 p.1
  deep_agrees zero xs ys s (truth b) h d zs p = kept_made xs ys s (truth b) h d zs p.0 p.1
  deep_agrees zero xs ys s (int i) h d zs p = kept_made xs ys s (int i) h d zs p.0 p.1
  deep_agrees zero xs ys s (text bytes) h d zs p = kept_made xs ys s (text bytes) h d zs p.0 p.1
  deep_agrees zero xs ys s (object i) h d zs p = kept_made xs ys s (object i) h d zs p.0 p.1
  deep_agrees zero xs ys s (array t) h d zs p = kept_made xs ys s (array t) h d zs (p.1.1 ∙ array_own t p.0 (all_kept (stores_of_entries t.entries) ys p.0 zs p.1.0).0) (all_kept (stores_of_entries t.entries) ys p.0 zs p.1.0).1
    where
      array_own : (t : Listing ℕ) (vs : List ℕ) → vs ≡ stores_of_entries t.entries → array (with_values t vs) ≡ array t
      array_own t vs e = ap (λ us. array (record t { entries = entries_with t.entries us })) e ∙ ap (λ es. array (record t { entries = es })) (own_values t.entries)
  deep_agrees (suc n) xs ys s null h d zs p = kept_made xs ys s null h d zs p.0 p.1
  deep_agrees (suc n) xs ys s (truth b) h d zs p = kept_made xs ys s (truth b) h d zs p.0 p.1
  deep_agrees (suc n) xs ys s (int i) h d zs p = kept_made xs ys s (int i) h d zs p.0 p.1
  deep_agrees (suc n) xs ys s (text bytes) h d zs p = kept_made xs ys s (text bytes) h d zs p.0 p.1
  deep_agrees (suc n) xs ys s (object i) h d zs p = kept_made xs ys s (object i) h d zs p.0 p.1
  deep_agrees (suc n) xs ys s (array t) h d zs p = array_made (deep_agrees n)
    where
      array_made : Agrees (copied_deep n m) (CopiesOne n m) → ContentsMade itself m m s (copied_deep (suc n) m xs (array t)) (record { stores = zs; made = d })
      array_made agrees =
          let made = entries_made (copied_deep n m) (CopiesOne n m) agrees t.entries xs ys s h p.0 zs p.1.0 in
          record { on = made.on; made = p.1.1 ∙ ap (λ es. array (record { entries = es; next_key = t.next_key; next_serial = t.next_serial })) made.made; live = made.live }

  start : Made m.stores m.stores
  start = record {
    to' = itself;
    back' = itself;
    renamed = record {
      back_to = λ s. refl;
      to_back = λ s. refl;
      stores = λ s. sym (map_if-kept _ content-kept (numbered m.stores s));
      objects = λ h. sym (map_if-kept _ object-kept (numbered m.objects h));
      blocks = λ b. sym (map_if-kept _ scope-kept (numbered m.blocks b));
      statics = λ i. sym (map_if-kept _ (λ s. refl) (numbered m.statics i));
      next_object = refl;
    };
    closed = closed;
    extends = Extends-refl itself m;
  }

pub content_agrees : (n : ℕ) (m : Mem) → IsClosed m → (c : Content) → Every (IsLive m) (stores_of_content c) → (d : Content) (zs : Numbered Content) → CopiesContent n m c m.stores d zs → CopyAgrees n m c d zs
content_agrees n m closed c h d zs p =
    let made = deep_agrees m closed n m.stores m.stores (start m closed) c h d zs p in
    let q = made.on.making in
    record { to = q.to'; back = q.back'; renamed = q.renamed; made = made.made; kept = q.extends.kept }
