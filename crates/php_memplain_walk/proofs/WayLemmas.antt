-- The steps of a copy.
use Rattle.std.proofs.Common.{◌≡◌, ℕ, suc, ◌+◌, List, [], ◌∷◌, ◌++◌, length, refl, sym, ◌∙◌, ap, subst, arith}
use Rattle.std.specs.Prelude.{Bool, true, false, Option, Some, None, Box, Result, Ok, Err, IsSome, reverse}
use Rattle.std.proofs.lemmas.List.{reverse-append}
use Rattle.std.specs.declared.alloc.Global.{Global}
use Rattle.slab.specs.Slab.{Slab}
use Rattle.php_base.specs.declared.memory.NoMemory.{NoMemory}
use Rattle.php_entries.specs.Listing.{Listing, count_of}
use Rattle.php_entries.specs.Changes.{entries_with, with_values}
use Rattle.php_entries.specs.Soundness.{IsSound}
use Rattle.php_memdef.specs.Numbered.{Numbered, numbered}
use Rattle.php_memdef.specs.Contents.{Content, array, Mem}
use Rattle.php_memdef.specs.Holders.{times, stores_of_entries, stores_of_content, handles_of_content, is_shared}
use Rattle.php_memdef.specs.Sound.{Every, IsLive}
use Rattle.php_memdef_laws.proofs.Held.Parts.{times-append}
use Rattle.php_memplain_cells.specs.declared.stores.Store.{Store}
use Rattle.php_memplain_cells.specs.declared.objects.Object.{Object}
use Rattle.php_memplain_cells.specs.declared.content.Content.{Content as Kept}
use Rattle.php_memplain_cells.specs.declared.cells.Cells.{Cells}
use Rattle.php_memplain_cells.specs.Seen.{later, content_seen, stores_seen}
use Rattle.php_memplain_cells.specs.Counts.{count_of_store, count_of_object}
use Rattle.php_memplain_cells.specs.Memory.{memory_seen}
use Rattle.php_memplain_copy.specs.declared.log.Log.{Log}
use Rattle.php_memplain_copy.specs.declared.frame.Frame.{Frame}
use Rattle.php_memplain_copy.specs.Copying.{Puts, CopiesStores, CopiesOne, CopiesContent}
use Rattle.php_memplain_copy.specs.More.{AreMore, AreSame, StoresGrown, ObjectsGrown}
use Rattle.php_memplain_copy.specs.Walking.{listing_if, listing_in, left_in, IsThere, IsWhole, IsTaken, IsBegun, HasCome, Waits, Start, AreWaiting}
use Rattle.php_memplain_copy.specs.Steps.{IsInside, ElementIs}
use Rattle.php_memplain_copy.proofs.TakenLemmas.{counted_as, put_taken}
use Rattle.php_memplain_copy.proofs.WalkLemmas.{listing_kept, is_there, names_with, come_on, values_count, whole_copied, inner_copied, come_to}
use Rattle.php_memplain_copy.proofs.GrownLemmas.{put_grown, same_grown}
use Rattle.php_memplain_walk.specs.declared.copying.Copying.{Copying}
use Rattle.php_memplain_walk.specs.Way.{values_times, hand_of, IsOnWay, IsCopied, CanBegin}

-- a frame that goes on with the same source, levels and values
come_same : (m : Mem) (root : Listing ℕ) (f g : Frame) (next : List ℕ) (began now : Numbered Content) → g.source ≡ f.source → g.levels ≡ f.levels → g.values.items ≡ f.values.items → HasCome m root f next began now → HasCome m root g next began now
come_same m root f g next began now source levels values h = record {
  there = subst (IsThere m) (sym source) h.there;
  copied = h.copied;
  split = ap (λ o. stores_of_entries (listing_in m.stores root o).entries) source ∙ h.split;
  live = h.live;
  copies =
      subst (λ n. CopiesStores (CopiesOne n m) h.copied began g.values.items now) (sym levels)
      (subst (λ vs. CopiesStores (CopiesOne f.levels m) h.copied began vs now) (sym values) h.copies);
}

-- the last of a list is the first of what it is from its end
turned_last : (fs gs : List Frame) (f : Frame) → fs ≡ gs ++ f ∷ [] → reverse fs ≡ f ∷ reverse gs
turned_last fs gs f e = ap reverse e ∙ reverse-append gs (f ∷ [])

pub no_frames : (fs : List Frame) → length fs ≡ 0 → fs ≡ []
no_frames [] e = refl
no_frames (f ∷ fs) e = absurd (omega (arith, e))

left_same : (xs : Numbered Content) (root : Listing ℕ) (f g : Frame) → g.source ≡ f.source → g.passed ≡ f.passed → left_in xs root g ≡ left_in xs root f
left_same xs root f g a b = ap (λ o. stores_of_entries (later g.passed (listing_in xs root o).entries)) a ∙ ap (λ p. stores_of_entries (later p (listing_in xs root f.source).entries)) b

-- whatever came of an element, it can be given back
pub looked_begun : (before : Cells) (at_hand : ℕ → ℕ) (levels store : ℕ) (old : Slab Store) (r : Result (Option ℕ) NoMemory) (stores : Slab Store) (objects : List (Option (Box Object Global))) (log : Log) → ElementIs before at_hand levels store old r stores objects log → IsBegun before stores objects log
looked_begun before at_hand levels store old (Ok (Some k)) stores objects log h = record { stores_grown = h.0.stores_grown; objects_grown = h.0.objects_grown }
looked_begun before at_hand levels store old (Ok None) stores objects log h = record { stores_grown = h.0.stores_grown; objects_grown = h.0.objects_grown }
looked_begun before at_hand levels store old (Err e) stores objects log h = h

module _ (before : Cells) (root : Listing ℕ) (start : Start) (others : ℕ → ℕ) (stores : Slab Store) (objects : List (Option (Box Object Global))) (log : Log) where
  -- a copy begins
  pub begin : (w : Copying) → CanBegin before others root start.source stores objects log → IsSound (listing_in (stores_seen stores) root start.source) → start.stores ≡ stores_seen stores → w.frame.source ≡ start.source → w.frame.levels ≡ start.levels → w.frame.values.items ≡ [] → w.frame.passed ≡ 0 → w.waiting.items ≡ [] → IsOnWay before root start others w stores objects log
  begin w can sound stores_are source levels values passed none =
      let m = memory_seen before in
      let kept : listing_in (stores_seen stores) root start.source ≡ listing_in m.stores root start.source = listing_kept before.stores stores log.stores.items can.taken.stores_grown root start.source (is_there m start.source can.there) in
      record {
        whole = can.whole;
        taken = counted_as before stores objects log others (hand_of others w) can.taken
            (λ j. (let a : times j w.frame.values.items ≡ 0 = ap (times j) values in let b : values_times j (reverse w.waiting.items) ≡ 0 = ap (λ fs. values_times j (reverse fs)) none in omega (arith, a, b)));
        began = stores_seen stores;
        waiting = subst (λ fs. AreWaiting m root start (reverse fs) w.frame.source w.frame.levels (stores_seen stores)) (sym none) (source, (levels, sym stores_are));
        come = come_to m root w.frame (stores_seen stores)
            (subst (IsThere m) (sym source) can.there)
            (subst (λ o. IsSound (listing_in m.stores root o)) (sym source) (subst IsSound kept sound))
            (subst (λ o. Every (IsLive m) (stores_of_entries (listing_in m.stores root o).entries)) (sym source) can.live)
            passed values;
      }

  module _ (w : Copying) (way : IsOnWay before root start others w stores objects log) where
    its_listing : (f : Frame) → f.source ≡ w.frame.source → listing_in (stores_seen stores) root f.source ≡ listing_in (memory_seen before).stores root f.source
    its_listing f same = listing_kept before.stores stores log.stores.items way.taken.stores_grown root f.source (is_there (memory_seen before) f.source (subst (IsThere (memory_seen before)) (sym same) way.come.there))

    pub left_kept : (f : Frame) → f.source ≡ w.frame.source → left_in (stores_seen stores) root f ≡ left_in (memory_seen before).stores root f
    left_kept f same = ap (λ (t : Listing ℕ). stores_of_entries (later f.passed t.entries)) (its_listing f same)

    -- the walk through an array stands elsewhere
    pub same_way : (g : Copying) → g.frame.source ≡ w.frame.source → g.frame.levels ≡ w.frame.levels → g.frame.values.items ≡ w.frame.values.items → g.waiting.items ≡ w.waiting.items → left_in (stores_seen stores) root g.frame ≡ left_in (stores_seen stores) root w.frame → IsOnWay before root start others g stores objects log
    same_way g source levels values waiting left = record {
      whole = way.whole;
      taken = counted_as before stores objects log _ (hand_of others g) way.taken
          (λ j. (
          let a : times j g.frame.values.items ≡ times j w.frame.values.items = ap (times j) values in
          let b : values_times j (reverse g.waiting.items) ≡ values_times j (reverse w.waiting.items) = ap (λ fs. values_times j (reverse fs)) waiting in
          omega (arith, a, b)));
      began = way.began;
      waiting =
          subst (λ fs. AreWaiting (memory_seen before) root start (reverse fs) g.frame.source g.frame.levels way.began) (sym waiting)
          (subst (λ o. AreWaiting (memory_seen before) root start (reverse w.waiting.items) o g.frame.levels way.began) (sym source)
          (subst (λ n. AreWaiting (memory_seen before) root start (reverse w.waiting.items) w.frame.source n way.began) (sym levels) way.waiting));
      come =
          come_same (memory_seen before) root w.frame g.frame (left_in (memory_seen before).stores root g.frame) way.began (stores_seen stores) source levels values
          (subst (λ ss. HasCome (memory_seen before) root w.frame ss way.began (stores_seen stores)) (sym (left_kept w.frame refl) ∙ sym left ∙ left_kept g.frame source) way.come);
    }

    -- what is on its way can be given back
    pub way_begun : IsBegun before stores objects log
    way_begun = record { stores_grown = way.taken.stores_grown; objects_grown = way.taken.objects_grown }

    -- also with one new store more
    pub put_begun : (next : Slab Store) (k : ℕ) (d : Content) (log' : Log) → Puts (stores_seen stores) k d (stores_seen next) → AreMore stores next (k ∷ []) → log'.stores.items ≡ log.stores.items ++ k ∷ [] → log'.handles.items ≡ log.handles.items → IsBegun before next objects log'
    put_begun next k d log' put more is same = record {
      stores_grown = put_grown before.stores stores log.stores.items way.taken.stores_grown next k d log'.stores.items put more is;
      objects_grown = subst (λ rs. ObjectsGrown before.objects.items objects rs) (sym same) way.taken.objects_grown;
    }

    -- also where no new store came
    pub not_put_begun : (next : Slab Store) (log' : Log) → stores_seen next ≡ stores_seen stores → AreSame stores next → log'.stores.items ≡ log.stores.items → log'.handles.items ≡ log.handles.items → IsBegun before next objects log'
    not_put_begun next log' seen same is handles = record {
      stores_grown = same_grown before.stores stores log.stores.items way.taken.stores_grown next log'.stores.items seen same is;
      objects_grown = subst (λ rs. ObjectsGrown before.objects.items objects rs) (sym handles) way.taken.objects_grown;
    }

    -- one element is looked at
    module _ (f : Frame) (s : ℕ) (source : f.source ≡ w.frame.source) (levels : f.levels ≡ w.frame.levels) (values : f.values.items ≡ w.frame.values.items) (first : left_in (stores_seen stores) root w.frame ≡ s ∷ left_in (stores_seen stores) root f) where
      pub come_at : HasCome (memory_seen before) root f (s ∷ left_in (memory_seen before).stores root f) way.began (stores_seen stores)
      come_at =
          let now : left_in (memory_seen before).stores root w.frame ≡ s ∷ left_in (memory_seen before).stores root f = sym (left_kept w.frame refl) ∙ first ∙ ap (λ ss. s ∷ ss) (left_kept f source) in
          come_same (memory_seen before) root w.frame f (s ∷ left_in (memory_seen before).stores root f) way.began (stores_seen stores) source levels values
          (subst (λ ss. HasCome (memory_seen before) root w.frame ss way.began (stores_seen stores)) now way.come)

      pub live_at : IsLive (memory_seen before) s
      live_at = come_at.live.0

      -- it is copied
      pub go_on : (next : Slab Store) (objects' : List (Option (Box Object Global))) (log' : Log) (g : Copying) (k : ℕ)
          → IsTaken before next objects' log' (λ j. hand_of others w j + times j (k ∷ []))
          → CopiesOne f.levels (memory_seen before) s (stores_seen stores) k (stores_seen next)
          → g.frame.source ≡ f.source → g.frame.levels ≡ f.levels → g.frame.passed ≡ f.passed → g.frame.values.items ≡ f.values.items ++ k ∷ [] → g.waiting.items ≡ w.waiting.items
          → IsOnWay before root start others g next objects' log'
      go_on next objects' log' g k taken one g_source g_levels g_passed g_values g_waiting = record {
        whole = way.whole;
        taken = counted_as before next objects' log' _ (hand_of others g) taken
            (λ j. (
            let a : times j g.frame.values.items ≡ times j w.frame.values.items + times j (k ∷ []) = ap (times j) (g_values ∙ ap (λ vs. vs ++ k ∷ []) values) ∙ times-append j w.frame.values.items (k ∷ []) in
            let b : values_times j (reverse g.waiting.items) ≡ values_times j (reverse w.waiting.items) = ap (λ fs. values_times j (reverse fs)) g_waiting in
            omega (arith, a, b)));
        began = way.began;
        waiting =
            subst (λ fs. AreWaiting (memory_seen before) root start (reverse fs) g.frame.source g.frame.levels way.began) (sym g_waiting)
            (subst (λ o. AreWaiting (memory_seen before) root start (reverse w.waiting.items) o g.frame.levels way.began) (sym (g_source ∙ source))
            (subst (λ n. AreWaiting (memory_seen before) root start (reverse w.waiting.items) w.frame.source n way.began) (sym (g_levels ∙ levels)) way.waiting));
        come =
            subst (λ ss. HasCome (memory_seen before) root g.frame ss way.began (stores_seen next)) (sym (left_same (memory_seen before).stores root f g.frame g_source g_passed))
            (come_on (memory_seen before) root f g.frame s k (left_in (memory_seen before).stores root f) way.began (stores_seen stores) (stores_seen next) come_at one g_source g_levels g_values);
      }

      -- it is an array, which has to be copied first
      pub go_in : (next : Slab Store) (objects' : List (Option (Box Object Global))) (log' : Log) (g : Copying) → IsTaken before next objects' log' (hand_of others w)
          → stores_seen next ≡ stores_seen stores → (inside : IsInside before f.levels s)
          → g.frame.source ≡ Some s → f.levels ≡ g.frame.levels + 1 → g.frame.passed ≡ 0 → g.frame.values.items ≡ [] → g.waiting.items ≡ w.waiting.items ++ f ∷ []
          → IsOnWay before root start others g next objects' log'
      go_in next objects' log' g taken seen inside g_source g_levels g_passed g_values g_waiting =
          let m = memory_seen before in
          let turned : reverse g.waiting.items ≡ f ∷ reverse w.waiting.items = turned_last g.waiting.items w.waiting.items f g_waiting in
          let t = inside.elements in
          let its : listing_in m.stores root g.frame.source ≡ t = ap (listing_in m.stores root) g_source ∙ ap (listing_if root) inside.is_array in
          let waits : Waits m root f g.frame.source g.frame.levels way.began (stores_seen stores) = record {
            store = s;
            elements = t;
            is_source = g_source;
            is_inside = omega (arith, g_levels);
            is_alone = inside.is_alone;
            is_array = inside.is_array;
            come = come_at;
          } in
          let around : AreWaiting m root start (reverse w.waiting.items) f.source f.levels way.began =
          subst (λ o. AreWaiting m root start (reverse w.waiting.items) o f.levels way.began) (sym source)
          (subst (λ n. AreWaiting m root start (reverse w.waiting.items) w.frame.source n way.began) (sym levels) way.waiting) in
          record {
            whole = way.whole;
            taken = counted_as before next objects' log' _ (hand_of others g) taken
                (λ j. (
                let a : times j g.frame.values.items ≡ 0 = ap (times j) g_values in
                let b : values_times j (reverse g.waiting.items) ≡ times j f.values.items + values_times j (reverse w.waiting.items) = ap (values_times j) turned in
                let c : times j f.values.items ≡ times j w.frame.values.items = ap (times j) values in
                omega (arith, a, b, c)));
            began = stores_seen stores;
            waiting = subst (λ fs. AreWaiting m root start fs g.frame.source g.frame.levels (stores_seen stores)) (sym turned) (way.began, (waits, around));
            come =
                subst (λ xs. HasCome m root g.frame (left_in m.stores root g.frame) (stores_seen stores) xs) (sym seen)
                (come_to m root g.frame (stores_seen stores)
                (subst (IsThere m) (sym g_source) live_at)
                (subst IsSound (sym its) inside.is_sound)
                (subst (λ (x : Listing ℕ). Every (IsLive m) (stores_of_entries x.entries)) (sym its) (way.whole.closed.stores s (array t) inside.is_array))
                g_passed g_values);
          }

    -- all elements are copied
    module _ (end : left_in (stores_seen stores) root w.frame ≡ []) where
      come_whole : HasCome (memory_seen before) root w.frame [] way.began (stores_seen stores)
      come_whole = subst (λ ss. HasCome (memory_seen before) root w.frame ss way.began (stores_seen stores)) (sym (left_kept w.frame refl) ∙ end) way.come

      pub count_here : length w.frame.values.items ≡ count_of (listing_in (stores_seen stores) root w.frame.source)
      count_here = values_count (memory_seen before) root w.frame way.began (stores_seen stores) come_whole ∙ ap (λ (t : Listing ℕ). count_of t) (sym (its_listing w.frame refl))

      module _ (d : Kept) (is : content_seen d ≡ array (with_values (listing_in (stores_seen stores) root w.frame.source) w.frame.values.items)) where
        copied_here : CopiesContent w.frame.levels (memory_seen before) (array (listing_in (memory_seen before).stores root w.frame.source)) way.began (content_seen d) (stores_seen stores)
        copied_here =
            subst (λ c. CopiesContent w.frame.levels (memory_seen before) (array (listing_in (memory_seen before).stores root w.frame.source)) way.began c (stores_seen stores))
            (sym (is ∙ ap (λ t. array (with_values t w.frame.values.items)) (its_listing w.frame refl)))
            (whole_copied (memory_seen before) root w.frame way.began (stores_seen stores) come_whole)

        names_here : stores_of_content (content_seen d) ≡ w.frame.values.items
        unfolding with_values
        names_here = ap stores_of_content is ∙ names_with (listing_in (stores_seen stores) root w.frame.source).entries w.frame.values.items count_here

        no_handles_here : handles_of_content (content_seen d) ≡ []
        no_handles_here = ap handles_of_content is

        -- no array is around it
        pub come_out : w.waiting.items ≡ [] → IsCopied before root start others d stores objects log
        come_out none =
            let m = memory_seen before in
            let at_start : AreWaiting m root start [] w.frame.source w.frame.levels way.began = subst (λ fs. AreWaiting m root start (reverse fs) w.frame.source w.frame.levels way.began) none way.waiting in
            record {
              taken = counted_as before stores objects log _ (λ j. others j + times j (stores_of_content (content_seen d))) way.taken
                  (λ j. (
                  let a : values_times j (reverse w.waiting.items) ≡ 0 = ap (λ fs. values_times j (reverse fs)) none in
                  let b : times j (stores_of_content (content_seen d)) ≡ times j w.frame.values.items = ap (times j) names_here in
                  omega (arith, a, b)));
              copies =
                  subst (λ n. CopiesContent n m (array (listing_in m.stores root start.source)) start.stores (content_seen d) (stores_seen stores)) at_start.1.0
                  (subst (λ o. CopiesContent w.frame.levels m (array (listing_in m.stores root o)) start.stores (content_seen d) (stores_seen stores)) at_start.0
                  (subst (λ xs. CopiesContent w.frame.levels m (array (listing_in m.stores root w.frame.source)) xs (content_seen d) (stores_seen stores)) at_start.1.1 copied_here));
            }

        -- the array around it goes on
        pub come_back : (outer : Frame) (rest : List Frame) → w.waiting.items ≡ rest ++ outer ∷ [] → (next : Slab Store) (k : ℕ) (log' : Log) (g : Copying)
            → Puts (stores_seen stores) k (content_seen d) (stores_seen next) → AreMore stores next (k ∷ []) → log'.stores.items ≡ log.stores.items ++ k ∷ [] → log'.handles.items ≡ log.handles.items
            → g.frame.source ≡ outer.source → g.frame.levels ≡ outer.levels → g.frame.passed ≡ outer.passed → g.frame.values.items ≡ outer.values.items ++ k ∷ [] → g.waiting.items ≡ rest
            → IsOnWay before root start others g next objects log'
        come_back outer rest last next k log' g put more log_stores log_handles g_source g_levels g_passed g_values g_waiting =
            let m = memory_seen before in
            let turned : reverse w.waiting.items ≡ outer ∷ reverse rest = turned_last w.waiting.items rest outer last in
            let around : AreWaiting m root start (outer ∷ reverse rest) w.frame.source w.frame.levels way.began = subst (λ fs. AreWaiting m root start fs w.frame.source w.frame.levels way.began) turned way.waiting in
            let waits = around.1.0 in
            let one = inner_copied m root outer w.frame.source w.frame.levels around.0 way.began (stores_seen next) waits (stores_seen stores) (content_seen d) k copied_here put in
            let hand : ℕ → ℕ = λ j. others j + (times j outer.values.items + values_times j (reverse rest)) in
            let taken : IsTaken before next objects log' (λ j. hand j + times j (k ∷ [])) =
            put_taken before stores next objects log hand (content_seen d) k way.taken.stores_grown way.taken.objects_grown
            (λ j. (
            let a : values_times j (reverse w.waiting.items) ≡ times j outer.values.items + values_times j (reverse rest) = ap (values_times j) turned in
            let b : times j (stores_of_content (content_seen d)) ≡ times j w.frame.values.items = ap (times j) names_here in
            omega (arith, way.taken.names j, a, b)))
            (λ h. (let none : times h (handles_of_content (content_seen d)) ≡ 0 = ap (times h) no_handles_here in omega (arith, way.taken.handles h, none)))
            put more log' log_stores log_handles in
            record {
              whole = way.whole;
              taken = counted_as before next objects log' _ (hand_of others g) taken
                  (λ j. (
                  let a : times j g.frame.values.items ≡ times j outer.values.items + times j (k ∷ []) = ap (times j) g_values ∙ times-append j outer.values.items (k ∷ []) in
                  let b : values_times j (reverse g.waiting.items) ≡ values_times j (reverse rest) = ap (λ fs. values_times j (reverse fs)) g_waiting in
                  omega (arith, a, b)));
              began = around.0;
              waiting =
                  subst (λ fs. AreWaiting m root start (reverse fs) g.frame.source g.frame.levels around.0) (sym g_waiting)
                  (subst (λ o. AreWaiting m root start (reverse rest) o g.frame.levels around.0) (sym g_source)
                  (subst (λ n. AreWaiting m root start (reverse rest) outer.source n around.0) (sym g_levels) around.1.1));
              come =
                  subst (λ ss. HasCome m root g.frame ss around.0 (stores_seen next)) (sym (left_same m.stores root outer g.frame g_source g_passed))
                  (come_on m root outer g.frame waits.store k (left_in m.stores root outer) around.0 way.began (stores_seen next) waits.come one g_source g_levels g_values);
            }
