-- Copies in memories that differ in the numbers of their stores.
use Rattle.std.proofs.Common.{◌≡◌, ℕ, zero, suc, List, [], ◌∷◌, refl, sym, ◌∙◌, ap, subst}
use Rattle.std.specs.Prelude.{Bool, true, false, Option, Some, None}
use Rattle.php_entries.specs.Listing.{Entry, Listing}
use Rattle.php_entries.specs.Changes.{map_entry, map_entries, map_listing}
use Rattle.php_memdef.specs.declared.place.Place.{Place}
use Rattle.php_memdef.specs.Numbered.{Numbered, live_count}
use Rattle.php_memdef.specs.Contents.{Content, null, truth, int, text, array, object, Item, value, link, Property, Mem, content_of}
use Rattle.php_memdef.specs.Holders.{stores_of_entries, stores_of_content, stores_of_properties, is_shared}
use Rattle.php_memdef.specs.Copies.{Copy, Copier, in_new_store, copied_store_if, copied_store, copied_entries, copied_deep, copier_of, copied, copied_properties}
use Rattle.php_memdef.specs.Places.{Spot, content_at, with_new_store, find_place}
use Rattle.php_memdef.specs.Temporaries.{pushed, popped, top, let_fall, pushed_copy, copy_of_spot, copy, settled, settle}
use Rattle.php_memdef.specs.Sound.{Every, IsLive, IsClosed}
use Rattle.php_memdef.specs.Alike.{map_if, renamed_content, renamed_item, renamed_properties, IsRenamed, Alike}
use Rattle.php_memdef_laws.proofs.Alike.Renamings.{Every-weaken}
use Rattle.php_memdef_laws.proofs.Alike.Memories.{content_of-renamed}
use Rattle.php_memdef_laws.proofs.Alike.Scopes.{pushed-renamed, popped-renamed, top-renamed, let_fall-renamed}
use Rattle.php_memdef_laws.proofs.Alike.Places.{renamed_spot, content_at-renamed, find_place-renamed}
use Rattle.php_memdef_laws.proofs.Closed.Parts.{content-closed, content_at-closed, with_new_store-closed, new-live}
use Rattle.php_memdef_laws.proofs.Alike.NewStores.{Extends, Extends-refl, Extends-trans, one_more}
use Rattle.php_memdef_laws.proofs.Alike.Walks.{AnswersAlike, top_link-live}
use Rattle.php_memdef_laws.proofs.Alike.Totals.{live_count-renamed, is_shared-renamed}

-- two copies in the making: the stores so far are one up to the numbers, and what the memories had
-- at first keeps its number
pub record Making (to : ℕ → ℕ) (m n : Mem) (xs ys : Numbered Content) : Type 0 where
  pub to' : ℕ → ℕ
  pub back' : ℕ → ℕ
  pub renamed : IsRenamed to' back' (record m { stores = xs }) (record n { stores = ys })
  pub closed : IsClosed (record m { stores = xs })
  pub extends : Extends to m to' (record m { stores = xs })

module _ (to : ℕ → ℕ) (m n : Mem) where
  abbrev pub with_stores : Numbered Content → Mem
  with_stores xs = record m { stores = xs }

  -- a making that goes on from another one
  pub record Onwards {xs ys : Numbered Content} (s : Making to m n xs ys) (xs' ys' : Numbered Content) : Type 0 where
    pub making : Making to m n xs' ys'
    pub onwards : Extends s.to' (record m { stores = xs }) making.to' (record m { stores = xs' })

  pub record StoresMade {xs ys : Numbered Content} (s : Making to m n xs ys) (a b : Copy ℕ) : Type 0 where
    pub on : Onwards s a.stores b.stores
    pub made : b.made ≡ on.making.to' a.made
    pub live : IsLive (record m { stores = a.stores }) a.made

  pub record ContentsMade {xs ys : Numbered Content} (s : Making to m n xs ys) (a b : Copy Content) : Type 0 where
    pub on : Onwards s a.stores b.stores
    pub made : b.made ≡ renamed_content on.making.to' a.made
    pub live : Every (IsLive (record m { stores = a.stores })) (stores_of_content a.made)

  pub record EntriesMade {xs ys : Numbered Content} (s : Making to m n xs ys) (a b : Copy (List (Entry ℕ))) : Type 0 where
    pub on : Onwards s a.stores b.stores
    pub made : b.made ≡ map_entries on.making.to' a.made
    pub live : Every (IsLive (record m { stores = a.stores })) (stores_of_entries a.made)

  pub record PropertiesMade {xs ys : Numbered Content} (s : Making to m n xs ys) (a b : Copy (List Property)) : Type 0 where
    pub on : Onwards s a.stores b.stores
    pub made : b.made ≡ renamed_properties on.making.to' a.made
    pub live : Every (IsLive (record m { stores = a.stores })) (stores_of_properties a.made)

  abbrev pub here : {xs ys : Numbered Content} (s : Making to m n xs ys) → Onwards s xs ys
  here s = record { making = s; onwards = Extends-refl s.to' _ }

  -- two copiers that make one content of one content
  abbrev pub CopiersAlike : Copier → Copier → Type 0
  CopiersAlike f g = (xs ys : Numbered Content) (s : Making to m n xs ys) (c : Content) → Every (IsLive m) (stores_of_content c) → ContentsMade s (f xs c) (g ys (renamed_content to c))

  module _ (back : ℕ → ℕ) (r : IsRenamed to back m n) (closed : IsClosed m) (f g : Copier) (alike : CopiersAlike f g) where
    store_if : (b : Bool) (xs ys : Numbered Content) (s : Making to m n xs ys) (k : ℕ) → IsLive m k → StoresMade s (copied_store_if b f m xs k) (copied_store_if b g n ys (to k))
    store_if true xs ys s k h = record { on = here s; made = sym (s.extends.kept k h); live = s.extends.live k h }
    store_if false xs ys s k h =
        let c = content_of m k in
        let a = f xs c in
        let b = g ys (renamed_content to c) in
        let p = alike xs ys s c (content-closed m closed k) in
        let q = p.on.making in
        let m' : Mem = record m { stores = a.stores } in
        let n' : Mem = record n { stores = b.stores } in
        let o = one_more q.to' q.back' m' n' q.renamed q.closed a.made p.live in
        let e : renamed_content q.to' a.made ≡ b.made = sym p.made in
        let made : StoresMade s (in_new_store a) (in_new_store b) =
        record {
          on = record {
            making = record {
              to' = o.to';
              back' = o.back';
              renamed = subst (λ (d : Content). IsRenamed o.to' o.back' (with_new_store m' a.made) (with_new_store n' d)) e o.renamed;
              closed = with_new_store-closed m' q.closed a.made p.live;
              extends = Extends-trans to q.to' o.to' m m' (with_new_store m' a.made) q.extends o.extends;
            };
            onwards = Extends-trans s.to' q.to' o.to' (with_stores xs) m' (with_new_store m' a.made) p.on.onwards o.extends;
          };
          made = sym o.number;
          live = new-live m' q.closed a.made;
        } in
        subst (λ (d : Content). StoresMade s (in_new_store a) (in_new_store (g ys d))) (sym (content_of-renamed to back m n r k)) made

    pub copied_store-alike : (xs ys : Numbered Content) (s : Making to m n xs ys) (k : ℕ) → IsLive m k → StoresMade s (copied_store f m xs k) (copied_store g n ys (to k))
    copied_store-alike xs ys s k h = subst (λ (b : Bool). StoresMade s (copied_store_if (is_shared m k) f m xs k) (copied_store_if b g n ys (to k))) (sym (is_shared-renamed to back m n r k)) (store_if (is_shared m k) xs ys s k h)

    pub copied_entries-alike : (es : List (Entry ℕ)) (xs ys : Numbered Content) (s : Making to m n xs ys) → Every (IsLive m) (stores_of_entries es) → EntriesMade s (copied_entries f m xs es) (copied_entries g n ys (map_entries to es))
    copied_entries-alike [] xs ys s h = record { on = here s; made = refl; live = tt }
    copied_entries-alike (e ∷ es) xs ys s h =
        let first = copied_store-alike xs ys s e.value h.0 in
        let a = copied_store f m xs e.value in
        let b = copied_store g n ys (to e.value) in
        let rest = copied_entries-alike es a.stores b.stores first.on.making h.1 in
        let a' = copied_entries f m a.stores es in
        let b' = copied_entries g n b.stores (map_entries to es) in
        let t = rest.on.making.to' in
        let same : b.made ≡ t a.made = first.made ∙ sym (rest.on.onwards.kept a.made first.live) in
        record {
          on = record { making = rest.on.making; onwards = Extends-trans s.to' first.on.making.to' t (with_stores xs) (with_stores a.stores) (with_stores a'.stores) first.on.onwards rest.on.onwards };
          made = ap (λ k. record { serial = e.serial; key = e.key; value = k } ∷ b'.made) same ∙ ap (λ fs. record { serial = e.serial; key = e.key; value = t a.made } ∷ fs) rest.made;
          live = (rest.on.onwards.live a.made first.live, rest.live);
        }

    pub copied_properties-alike : (ps : List Property) (xs ys : Numbered Content) (s : Making to m n xs ys) → Every (IsLive m) (stores_of_properties ps) → PropertiesMade s (copied_properties f m xs ps) (copied_properties g n ys (renamed_properties to ps))
    copied_properties-alike [] xs ys s h = record { on = here s; made = refl; live = tt }
    copied_properties-alike (p ∷ ps) xs ys s h =
        let first = copied_store-alike xs ys s p.store h.0 in
        let a = copied_store f m xs p.store in
        let b = copied_store g n ys (to p.store) in
        let rest = copied_properties-alike ps a.stores b.stores first.on.making h.1 in
        let a' = copied_properties f m a.stores ps in
        let b' = copied_properties g n b.stores (renamed_properties to ps) in
        let t = rest.on.making.to' in
        let same : b.made ≡ t a.made = first.made ∙ sym (rest.on.onwards.kept a.made first.live) in
        record {
          on = record { making = rest.on.making; onwards = Extends-trans s.to' first.on.making.to' t (with_stores xs) (with_stores a.stores) (with_stores a'.stores) first.on.onwards rest.on.onwards };
          made = ap (λ k. record { name = p.name; store = k } ∷ b'.made) same ∙ ap (λ qs. record { name = p.name; store = t a.made } ∷ qs) rest.made;
          live = (rest.on.onwards.live a.made first.live, rest.live);
        }

  module _ (back : ℕ → ℕ) (r : IsRenamed to back m n) (closed : IsClosed m) where
    itself : (xs ys : Numbered Content) (s : Making to m n xs ys) (c d : Content) → d ≡ renamed_content s.to' c → Every (IsLive (record m { stores = xs })) (stores_of_content c) → ContentsMade s (record { stores = xs; made = c }) (record { stores = ys; made = d })
    itself xs ys s c d e h = record { on = here s; made = e; live = h }

    array_kept : (xs ys : Numbered Content) (s : Making to m n xs ys) (t : Listing ℕ) → Every (IsLive m) (stores_of_entries t.entries) → array (map_listing to t) ≡ renamed_content s.to' (array t)
    array_kept xs ys s t h = ap (λ es. array (record { entries = es; next_key = t.next_key; next_serial = t.next_serial })) (entries_kept t.entries h)
      where
        entries_kept : (es : List (Entry ℕ)) → Every (IsLive m) (stores_of_entries es) → map_entries to es ≡ map_entries s.to' es
        entries_kept [] h = refl
        entries_kept (e ∷ es) h = ap (λ k. record { serial = e.serial; key = e.key; value = k } ∷ map_entries to es) (sym (s.extends.kept e.value h.0)) ∙ ap (λ fs. map_entry s.to' e ∷ fs) (entries_kept es h.1)

    pub copied_deep-alike : (k : ℕ) → CopiersAlike (copied_deep k m) (copied_deep k n)
    copied_deep-alike zero xs ys s null h = itself xs ys s null null refl tt
    copied_deep-alike zero xs ys s (truth b) h = itself xs ys s (truth b) (truth b) refl tt
    copied_deep-alike zero xs ys s (int i) h = itself xs ys s (int i) (int i) refl tt
    copied_deep-alike zero xs ys s (text bytes) h = itself xs ys s (text bytes) (text bytes) refl tt
    copied_deep-alike zero xs ys s (array t) h = itself xs ys s (array t) (array (map_listing to t)) (array_kept xs ys s t h) (Every-weaken (IsLive m) _ s.extends.live (stores_of_entries t.entries) h)
    copied_deep-alike zero xs ys s (object i) h = itself xs ys s (object i) (object i) refl tt
    copied_deep-alike (suc k) xs ys s null h = itself xs ys s null null refl tt
    copied_deep-alike (suc k) xs ys s (truth b) h = itself xs ys s (truth b) (truth b) refl tt
    copied_deep-alike (suc k) xs ys s (int i) h = itself xs ys s (int i) (int i) refl tt
    copied_deep-alike (suc k) xs ys s (text bytes) h = itself xs ys s (text bytes) (text bytes) refl tt
    copied_deep-alike (suc k) xs ys s (object i) h = itself xs ys s (object i) (object i) refl tt
    copied_deep-alike (suc k) xs ys s (array t) h =
        let made = copied_entries-alike back r closed (copied_deep k m) (copied_deep k n) (copied_deep-alike k) t.entries xs ys s h in
        record { on = made.on; made = ap (λ es. array (record { entries = es; next_key = t.next_key; next_serial = t.next_serial })) made.made; live = made.live }

    pub copiers-alike : CopiersAlike (copier_of m) (copier_of n)
    copiers-alike = subst (λ (k : ℕ). CopiersAlike (copier_of m) (copied_deep k n)) (sym (live_count-renamed to back m n r)) (copied_deep-alike (live_count m.stores))

    pub start_of_making : Making to m n m.stores n.stores
    start_of_making = record { to' = to; back' = back; renamed = r; closed = closed; extends = Extends-refl to m }

-- the copy of one content, up to the numbers
pub record CopiedAlike (to : ℕ → ℕ) (m n : Mem) (a b : Copy Content) : Type 0 where
  pub to' : ℕ → ℕ
  pub back' : ℕ → ℕ
  pub renamed : IsRenamed to' back' (record m { stores = a.stores }) (record n { stores = b.stores })
  pub made : b.made ≡ renamed_content to' a.made
  pub extends : Extends to m to' (record m { stores = a.stores })

module _ (m n : Mem) (closed : IsClosed m) (a : Alike m n) where
  pub copied-alike : (c : Content) → Every (IsLive m) (stores_of_content c) → CopiedAlike a.to m n (copied m c) (copied n (renamed_content a.to c))
  unfolding copied
  copied-alike c h =
      let p = copiers-alike a.to m n a.back a.renamed closed m.stores n.stores (start_of_making a.to m n a.back a.renamed closed) c h in
      let q = p.on.making in
      record { to' = q.to'; back' = q.back'; renamed = q.renamed; made = p.made; extends = q.extends }

  pushed_copy-alike : (b : ℕ) (c : Content) → Every (IsLive m) (stores_of_content c) → Alike (pushed_copy m b c) (pushed_copy n b (renamed_content a.to c))
  pushed_copy-alike b c h =
      let p = copied-alike c h in
      let x = copied m c in
      let y = copied n (renamed_content a.to c) in
      record {
        to = p.to';
        back = p.back';
        renamed = subst (λ (d : Content). IsRenamed p.to' p.back' (pushed (record m { stores = x.stores }) b (value x.made)) (pushed (record n { stores = y.stores }) b (value d))) (sym p.made) (pushed-renamed p.to' p.back' _ _ p.renamed b (value x.made));
      }

  copy_of_spot-alike : (o : Option Spot) (b : ℕ) → AnswersAlike (copy_of_spot o m b) (copy_of_spot (map_if (renamed_spot a.to) o) n b)
  copy_of_spot-alike None b = (a, refl)
  copy_of_spot-alike (Some spot) b =
      (subst (λ (c : Content). Alike (pushed_copy m b (content_at m spot)) (pushed_copy n b c)) (sym (content_at-renamed a.to a.back m n a.renamed spot)) (pushed_copy-alike b (content_at m spot) (content_at-closed m closed spot)), refl)

  pub copy-alike : (b : ℕ) (p : Place) → AnswersAlike (copy m b p) (copy n b p)
  unfolding copy
  copy-alike b p = subst (λ (o : Option Spot). AnswersAlike (copy_of_spot (find_place m p) m b) (copy_of_spot o n b)) (sym (find_place-renamed a.to a.back m n a.renamed p)) (copy_of_spot-alike (find_place m p) b)

  settled-alike : (i : Item) → ((s : ℕ) → i ≡ link s → IsLive m s) → (b : ℕ) → Alike (settled i m b) (settled (renamed_item a.to i) n b)
  settled-alike (value c) h b = a
  settled-alike (link s) h b =
      let c = content_of m s in
      let p = copied-alike c (content-closed m closed s) in
      let x = copied m c in
      let y = copied n (renamed_content a.to c) in
      let m' : Mem = record m { stores = x.stores } in
      let n' : Mem = record n { stores = y.stores } in
      let popped' = popped-renamed p.to' p.back' m' n' p.renamed b in
      let pushed' : IsRenamed p.to' p.back' (pushed (popped m' b) b (value x.made)) (pushed (popped n' b) b (value y.made)) =
      subst (λ (d : Content). IsRenamed p.to' p.back' (pushed (popped m' b) b (value x.made)) (pushed (popped n' b) b (value d))) (sym p.made) (pushed-renamed p.to' p.back' _ _ popped' b (value x.made)) in
      let fallen' : IsRenamed p.to' p.back' (let_fall (pushed (popped m' b) b (value x.made)) b (link s)) (let_fall (pushed (popped n' b) b (value y.made)) b (link (a.to s))) =
      subst (λ (k : ℕ). IsRenamed p.to' p.back' (let_fall (pushed (popped m' b) b (value x.made)) b (link s)) (let_fall (pushed (popped n' b) b (value y.made)) b (link k))) (p.extends.kept s (h s refl)) (let_fall-renamed p.to' p.back' _ _ pushed' b (link s)) in
      subst (λ (d : Content). Alike (settled (link s) m b) (let_fall (pushed (popped (record n { stores = (copied n d).stores }) b) b (value (copied n d).made)) b (link (a.to s)))) (sym (content_of-renamed a.to a.back m n a.renamed s)) (record { to = p.to'; back = p.back'; renamed = fallen' })

  pub settle-alike : (b : ℕ) → Alike (settle m b) (settle n b)
  unfolding settle
  settle-alike b = subst (λ (i : Item). Alike (settled (top m b) m b) (settled i n b)) (sym (top-renamed a.to a.back m n a.renamed b)) (settled-alike (top m b) (top_link-live m n closed a b) b)
