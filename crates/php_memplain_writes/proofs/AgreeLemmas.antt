-- Two chains of new stores differ in the numbers of these stores alone.
use Rattle.std.proofs.Common.{◌≡◌, ℕ, List, [], ◌∷◌, refl, sym, ◌∙◌, ap, subst, inl, inr}
use Rattle.std.specs.Prelude.{Some, is_some}
use Rattle.std.proofs.lemmas.Bool.Decides.{eqb_tells}
use Rattle.php_entries.specs.Listing.{Listing, no_entries}
use Rattle.php_entries.specs.Changes.{Grown, map_listing, map_growth}
use Rattle.php_entries.proofs.MapLemmas.{set_value-map, append_value-map}
use Rattle.php_memdef.specs.declared.place.Step.{Step}
use Rattle.php_memdef.specs.declared.place.Step.TheVariants.{At, Push}
use Rattle.php_memdef.specs.Numbered.{Numbered, numbered, with_numbered}
use Rattle.php_memdef.specs.Contents.{Content, null, array, Mem}
use Rattle.php_memdef.specs.Holders.{stores_of_content}
use Rattle.php_memdef.specs.Places.{stored, with_content, step_set}
use Rattle.php_memdef.specs.Sound.{Every, IsLive, IsClosed}
use Rattle.php_memdef.specs.Alike.{map_if, renamed_content, IsRenamed}
use Rattle.php_memdef_laws.proofs.NumberedLemmas.{numbered-with_same, numbered-with_other}
use Rattle.php_memdef_laws.proofs.Alike.Renamings.{Every-weaken, content-agree}
use Rattle.php_memdef_laws.proofs.Alike.Memories.{one_to_one}
use Rattle.php_memdef_laws.proofs.Alike.NewStores.{renamed_again, Extends, Extends-trans}
use Rattle.php_memdef_laws.proofs.Closed.Parts.{GrowthNames, step_set-names, with_content-closed}
use Rattle.php_memplain_copy.specs.Copying.{Puts}
use Rattle.php_memplain_copy.proofs.SameLemmas.{SameAt, same_closed}
use Rattle.php_memplain_writes.specs.Chains.{AreAlso, ChainTo, NewChain}

pub step_set-map : (f : ℕ → ℕ) (t : Listing ℕ) (step : Step) (s : ℕ) → step_set (map_listing f t) step (f s) ≡ map_growth f (step_set t step s)
step_set-map f t (At k) s = set_value-map f t k s
step_set-map f t Push s = append_value-map f t s

pub same_grown : {t u : Listing ℕ} → Grown t ≡ Grown u → t ≡ u
same_grown e = cc

abbrev pub with_stores_of : Mem → Numbered Content → Mem
with_stores_of m xs = record m { stores = xs }

-- new stores on each side, of which two are one
pub record Both (to : ℕ → ℕ) (m n : Mem) (k l : ℕ) (xs zs : Numbered Content) : Type 0 where
  pub to' : ℕ → ℕ
  pub back' : ℕ → ℕ
  pub renamed : IsRenamed to' back' (with_stores_of m xs) (with_stores_of n zs)
  pub number : to' k ≡ l
  pub extends : Extends to m to' (with_stores_of m xs)
  pub closed : IsClosed (with_stores_of m xs)
  pub live : IsLive (with_stores_of m xs) k

put_same : (m : Mem) (k : ℕ) (c : Content) (xs : Numbered Content) → Puts m.stores k c xs → SameAt (with_content m (stored k) c) (with_stores_of m xs)
put_same m k c xs p = record {
  stores = λ j. elim (eqb_tells j k) [
    | inl e ↦ ap (numbered xs) e.1 ∙ p.there ∙ sym (ap (numbered (with_numbered m.stores k (Some c))) e.1 ∙ numbered-with_same m.stores k (Some c))
    | inr e ↦ p.others j e.1 ∙ sym (numbered-with_other m.stores k j (Some c) e.1)
  ];
  objects = λ h. refl;
  blocks = λ b. refl;
  statics = λ i. refl;
  next_object = refl;
}

pub put_both : (to back : ℕ → ℕ) (m n : Mem) → IsRenamed to back m n → IsClosed m → (c : Content) → Every (IsLive m) (stores_of_content c) → (k : ℕ) (xs : Numbered Content) → Puts m.stores k c xs → (l : ℕ) (zs : Numbered Content) → Puts n.stores l (renamed_content to c) zs → Both to m n k l xs zs
put_both to back m n r closed c named k xs p l zs q =
    let a = renamed_again to back m n r closed k l p.free q.free in
    let same : renamed_content a.to' c ≡ renamed_content to c = content-agree a.to' to c (Every-weaken (IsLive m) (λ s. a.to' s ≡ to s) a.kept (stores_of_content c) named) in
    record {
      to' = a.to';
      back' = a.back';
      renamed = record {
        back_to = a.renamed.back_to;
        to_back = a.renamed.to_back;
        stores = λ s. elim (eqb_tells s k) [
          | inl e ↦ ap (λ x. numbered zs (a.to' x)) e.1 ∙ ap (numbered zs) a.number ∙ q.there ∙ ap Some (sym same) ∙ sym (ap (λ x. map_if (renamed_content a.to') (numbered xs x)) e.1 ∙ ap (map_if (renamed_content a.to')) p.there)
          | inr e ↦ q.others (a.to' s) (λ f. e.1 (one_to_one a.to' a.back' m n a.renamed s k (f ∙ sym a.number))) ∙ a.renamed.stores s ∙ ap (map_if (renamed_content a.to')) (sym (p.others s e.1))
        ];
        objects = a.renamed.objects;
        blocks = a.renamed.blocks;
        statics = a.renamed.statics;
        next_object = a.renamed.next_object;
      };
      number = a.number;
      extends = record {
        live = λ s h. elim (eqb_tells s k) [
          | inl e ↦ ap is_some (ap (numbered xs) e.1 ∙ p.there)
          | inr e ↦ ap is_some (p.others s e.1) ∙ h
        ];
        kept = a.kept;
      };
      closed = same_closed (with_content m (stored k) c) (with_stores_of m xs) (put_same m k c xs p) (with_content-closed m closed (stored k) c named);
      live = ap is_some p.there;
    }

also_same : (m : Mem) (xs : Numbered Content) → AreAlso m.stores xs → SameAt m (with_stores_of m xs)
also_same m xs same = record { stores = same; objects = λ h. refl; blocks = λ b. refl; statics = λ i. refl; next_object = refl }

pub chains_agree : (path : List Step) (to back : ℕ → ℕ) (m n : Mem) → IsRenamed to back m n → IsClosed m → (leaf : ℕ) → IsLive m leaf → (xs : Numbered Content) (top : ℕ) → ChainTo m.stores leaf path xs top → (other : ℕ) → to leaf ≡ other → (zs : Numbered Content) (top' : ℕ) → ChainTo n.stores other path zs top' → Both to m n top top' xs zs
chains_agree [] to back m n r closed leaf live xs top p other is zs top' q = record {
  to' = to;
  back' = back;
  renamed = record {
    back_to = r.back_to;
    to_back = r.to_back;
    stores = λ s. q.1 (to s) ∙ r.stores s ∙ ap (map_if (renamed_content to)) (sym (p.1 s));
    objects = r.objects;
    blocks = r.blocks;
    statics = r.statics;
    next_object = r.next_object;
  };
  number = ap to p.0 ∙ is ∙ sym q.0;
  extends = record { live = λ s h. ap is_some (p.1 s) ∙ h; kept = λ s h. refl };
  closed = same_closed m (with_stores_of m xs) (also_same m xs p.1) closed;
  live = ap is_some (ap (numbered xs) p.0 ∙ p.1 leaf) ∙ live;
}
chains_agree (step ∷ path) to back m n r closed leaf live xs top p other is zs top' q =
    let b = chains_agree path to back m n r closed leaf live p.1.0 p.0 p.1.1.0 other is q.1.0 q.0 q.1.1.0 in
    let m1 = with_stores_of m p.1.0 in
    let n1 = with_stores_of n q.1.0 in
    let one = p.1.1.1 in
    let two = q.1.1.1 in
    let named : GrowthNames (IsLive m1) (Grown one.elements) = subst (GrowthNames (IsLive m1)) one.is (step_set-names (IsLive m1) no_entries step p.0 tt b.live) in
    let same : two.elements ≡ map_listing b.to' one.elements = same_grown (sym two.is ∙ ap (step_set no_entries step) (sym b.number) ∙ step_set-map b.to' no_entries step p.0 ∙ ap (map_growth b.to') one.is) in
    let o = put_both b.to' b.back' m1 n1 b.renamed b.closed (array one.elements) named top xs one.puts top' zs (subst (λ (t : Listing ℕ). Puts q.1.0 top' (array t) zs) same two.puts) in
    record {
      to' = o.to';
      back' = o.back';
      renamed = o.renamed;
      number = o.number;
      extends = Extends-trans to b.to' o.to' m m1 (with_stores_of m xs) b.extends o.extends;
      closed = o.closed;
      live = o.live;
    }

-- the same of chains to new stores, whose ends are one as well
pub record BothNew (to : ℕ → ℕ) (m n : Mem) (k l leaf other : ℕ) (xs zs : Numbered Content) : Type 0 where
  pub both : Both to m n k l xs zs
  pub leaf_number : both.to' leaf ≡ other

pub new_chains_agree : (path : List Step) (to back : ℕ → ℕ) (m n : Mem) → IsRenamed to back m n → IsClosed m → (xs : Numbered Content) (top leaf : ℕ) → NewChain m.stores path xs top leaf → (zs : Numbered Content) (top' other : ℕ) → NewChain n.stores path zs top' other → BothNew to m n top top' leaf other xs zs
new_chains_agree path to back m n r closed xs top leaf p zs top' other q =
    let a = put_both to back m n r closed null tt leaf p.first p.puts other q.first q.puts in
    let m1 = with_stores_of m p.first in
    let n1 = with_stores_of n q.first in
    let b = chains_agree path a.to' a.back' m1 n1 a.renamed a.closed leaf a.live xs top p.chain other a.number zs top' q.chain in
    record {
      both = record {
        to' = b.to';
        back' = b.back';
        renamed = b.renamed;
        number = b.number;
        extends = Extends-trans to a.to' b.to' m m1 (with_stores_of m xs) a.extends b.extends;
        closed = b.closed;
        live = b.live;
      };
      leaf_number = b.extends.kept leaf a.live ∙ a.number;
    }
