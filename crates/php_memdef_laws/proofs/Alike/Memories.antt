-- Memories that differ in the numbers of their stores, and how they stay so.
use Rattle.std.proofs.Common.{◌≡◌, ℕ, refl, sym, ◌∙◌, ap, subst, inl, inr}
use Rattle.std.specs.Prelude.{Option, Some, None, unwrap_or}
use Rattle.std.proofs.lemmas.Bool.Decides.{eqb_tells}
use Rattle.php_memdef.specs.Numbered.{Numbered, numbered, with_numbered}
use Rattle.php_memdef.specs.Contents.{Content, null, Scope, Object, Mem, no_scope, no_object, content_of, scope_of, object_of}
use Rattle.php_memdef.specs.Places.{with_scope, with_object}
use Rattle.php_memdef.specs.Alike.{map_if, renamed_content, renamed_scope, renamed_object, IsRenamed, Alike}
use Rattle.php_memdef_laws.proofs.NumberedLemmas.{numbered-with_same, numbered-with_other}
use Rattle.php_memdef_laws.proofs.Alike.Renamings.{Every-always, content-agree, content-twice, content-kept, object-agree, object-twice, object-kept, scope-agree, scope-twice, scope-kept}

pub map_if-kept : {X : Type 0} (f : X → X) → ((x : X) → f x ≡ x) → (o : Option X) → map_if f o ≡ o
map_if-kept f h None = refl
map_if-kept f h (Some x) = ap Some (h x)

pub map_if-agree : {X Y : Type 0} (f g : X → Y) → ((x : X) → f x ≡ g x) → (o : Option X) → map_if f o ≡ map_if g o
map_if-agree f g h None = refl
map_if-agree f g h (Some x) = ap Some (h x)

pub map_if-twice : {X Y Z : Type 0} (f : X → Y) (g : Y → Z) (o : Option X) → map_if g (map_if f o) ≡ map_if (λ x. g (f x)) o
map_if-twice f g None = refl
map_if-twice f g (Some x) = refl

-- a renaming that another one undoes

module _ (to back : ℕ → ℕ) (undone : (s : ℕ) → back (to s) ≡ s) where
  content-undone : (c : Content) → renamed_content back (renamed_content to c) ≡ c
  content-undone c = content-twice to back c ∙ content-agree (λ s. back (to s)) (λ s. s) c (Every-always _ undone _) ∙ content-kept c

  object-undone : (o : Object) → renamed_object back (renamed_object to o) ≡ o
  object-undone o = object-twice to back o ∙ object-agree (λ s. back (to s)) (λ s. s) o (Every-always _ undone _) ∙ object-kept o

  scope-undone : (f : Scope) → renamed_scope back (renamed_scope to f) ≡ f
  scope-undone f = scope-twice to back f ∙ scope-agree (λ s. back (to s)) (λ s. s) f (Every-always _ undone _) ∙ scope-kept f

-- an equivalence

pub Alike-refl : (m : Mem) → Alike m m
Alike-refl m = record {
  to = λ s. s;
  back = λ s. s;
  renamed = record {
    back_to = λ s. refl;
    to_back = λ s. refl;
    stores = λ s. sym (map_if-kept _ content-kept (numbered m.stores s));
    objects = λ h. sym (map_if-kept _ object-kept (numbered m.objects h));
    blocks = λ b. sym (map_if-kept _ scope-kept (numbered m.blocks b));
    statics = λ i. sym (map_if-kept _ (λ s. refl) (numbered m.statics i));
    next_object = refl;
  };
}

undone : {X Y : Type 0} (f : X → Y) (g : Y → X) → ((x : X) → g (f x) ≡ x) → (o : Option X) (p : Option Y) → p ≡ map_if f o → o ≡ map_if g p
undone f g h o p e = sym (map_if-kept (λ x. g (f x)) h o) ∙ sym (map_if-twice f g o) ∙ sym (ap (map_if g) e)

pub IsRenamed-sym : (to back : ℕ → ℕ) (m n : Mem) → IsRenamed to back m n → IsRenamed back to n m
IsRenamed-sym to back m n r = record {
  back_to = r.to_back;
  to_back = r.back_to;
  stores = λ t. undone (renamed_content to) (renamed_content back) (content-undone to back r.back_to) (numbered m.stores (back t)) (numbered n.stores t) (ap (numbered n.stores) (sym (r.to_back t)) ∙ r.stores (back t));
  objects = λ h. undone (renamed_object to) (renamed_object back) (object-undone to back r.back_to) (numbered m.objects h) (numbered n.objects h) (r.objects h);
  blocks = λ b. undone (renamed_scope to) (renamed_scope back) (scope-undone to back r.back_to) (numbered m.blocks b) (numbered n.blocks b) (r.blocks b);
  statics = λ i. undone to back r.back_to (numbered m.statics i) (numbered n.statics i) (r.statics i);
  next_object = sym r.next_object;
}

pub Alike-sym : (m n : Mem) → Alike m n → Alike n m
Alike-sym m n a = record { to = a.back; back = a.to; renamed = IsRenamed-sym a.to a.back m n a.renamed }

twice : {X Y Z : Type 0} (f : X → Y) (g : Y → Z) (k : X → Z) → ((x : X) → g (f x) ≡ k x) → (o : Option X) (p : Option Y) (q : Option Z) → p ≡ map_if f o → q ≡ map_if g p → q ≡ map_if k o
twice f g k h o p q e d = d ∙ ap (map_if g) e ∙ map_if-twice f g o ∙ map_if-agree _ k h o

pub Alike-trans : (l m n : Mem) → Alike l m → Alike m n → Alike l n
Alike-trans l m n a b =
    let r = a.renamed in
    let q = b.renamed in
    let to : ℕ → ℕ = λ s. b.to (a.to s) in
    record {
      to = to;
      back = λ t. a.back (b.back t);
      renamed = record {
        back_to = λ s. ap a.back (q.back_to (a.to s)) ∙ r.back_to s;
        to_back = λ t. ap b.to (r.to_back (b.back t)) ∙ q.to_back t;
        stores = λ s. twice (renamed_content a.to) (renamed_content b.to) (renamed_content to) (content-twice a.to b.to) (numbered l.stores s) (numbered m.stores (a.to s)) (numbered n.stores (b.to (a.to s))) (r.stores s) (q.stores (a.to s));
        objects = λ h. twice (renamed_object a.to) (renamed_object b.to) (renamed_object to) (object-twice a.to b.to) (numbered l.objects h) (numbered m.objects h) (numbered n.objects h) (r.objects h) (q.objects h);
        blocks = λ k. twice (renamed_scope a.to) (renamed_scope b.to) (renamed_scope to) (scope-twice a.to b.to) (numbered l.blocks k) (numbered m.blocks k) (numbered n.blocks k) (r.blocks k) (q.blocks k);
        statics = λ i. twice a.to b.to to (λ s. refl) (numbered l.statics i) (numbered m.statics i) (numbered n.statics i) (r.statics i) (q.statics i);
        next_object = q.next_object ∙ r.next_object;
      };
    }

-- a change under one number, on both sides

pub changed_alike : {X Y : Type 0} (f : X → Y) (xs : Numbered X) (ys : Numbered Y) → ((n : ℕ) → numbered ys n ≡ map_if f (numbered xs n)) → (k : ℕ) (o : Option X) (n : ℕ) → numbered (with_numbered ys k (map_if f o)) n ≡ map_if f (numbered (with_numbered xs k o) n)
changed_alike f xs ys h k o n = elim (eqb_tells n k) [
  | inl e ↦ ap (numbered (with_numbered ys k (map_if f o))) e.1 ∙ numbered-with_same ys k (map_if f o) ∙ sym (ap (map_if f) (ap (numbered (with_numbered xs k o)) e.1 ∙ numbered-with_same xs k o))
  | inr e ↦ numbered-with_other ys k n (map_if f o) e.1 ∙ h n ∙ sym (ap (map_if f) (numbered-with_other xs k n o e.1))
]

stores_changed : {X Y : Type 0} (to : ℕ → ℕ) (f : X → Y) (xs : Numbered X) (ys : Numbered Y) → ((s t : ℕ) → to s ≡ to t → s ≡ t) → ((n : ℕ) → numbered ys (to n) ≡ map_if f (numbered xs n)) → (k : ℕ) (o : Option X) (n : ℕ) → numbered (with_numbered ys (to k) (map_if f o)) (to n) ≡ map_if f (numbered (with_numbered xs k o) n)
stores_changed to f xs ys one_to_one h k o n = elim (eqb_tells n k) [
  | inl e ↦ ap (λ i. numbered (with_numbered ys (to k) (map_if f o)) (to i)) e.1 ∙ numbered-with_same ys (to k) (map_if f o) ∙ sym (ap (map_if f) (ap (numbered (with_numbered xs k o)) e.1 ∙ numbered-with_same xs k o))
  | inr e ↦ numbered-with_other ys (to k) (to n) (map_if f o) (λ d. e.1 (one_to_one n k d)) ∙ h n ∙ sym (ap (map_if f) (numbered-with_other xs k n o e.1))
]

unwrap-map_if : {X Y : Type 0} (f : X → Y) (o : Option X) (x : X) → unwrap_or (map_if f o) (f x) ≡ f (unwrap_or o x)
unwrap-map_if f None x = refl
unwrap-map_if f (Some y) x = refl

module _ (to back : ℕ → ℕ) (m n : Mem) (r : IsRenamed to back m n) where
  pub one_to_one : (s t : ℕ) → to s ≡ to t → s ≡ t
  one_to_one s t e = sym (r.back_to s) ∙ ap back e ∙ r.back_to t

  pub content_of-renamed : (s : ℕ) → content_of n (to s) ≡ renamed_content to (content_of m s)
  content_of-renamed s = ap (λ o. unwrap_or o null) (r.stores s) ∙ unwrap-map_if (renamed_content to) (numbered m.stores s) null

  pub scope_of-renamed : (b : ℕ) → scope_of n b ≡ renamed_scope to (scope_of m b)
  scope_of-renamed b = ap (λ o. unwrap_or o no_scope) (r.blocks b) ∙ unwrap-map_if (renamed_scope to) (numbered m.blocks b) no_scope

  pub object_of-renamed : (h : ℕ) → object_of n h ≡ renamed_object to (object_of m h)
  object_of-renamed h = ap (λ o. unwrap_or o no_object) (r.objects h) ∙ unwrap-map_if (renamed_object to) (numbered m.objects h) no_object

  -- the primitive changes

  pub store-renamed : (s : ℕ) (o : Option Content) → IsRenamed to back (record m { stores = with_numbered m.stores s o }) (record n { stores = with_numbered n.stores (to s) (map_if (renamed_content to) o) })
  store-renamed s o = record { back_to = r.back_to; to_back = r.to_back; stores = stores_changed to (renamed_content to) m.stores n.stores one_to_one r.stores s o; objects = r.objects; blocks = r.blocks; statics = r.statics; next_object = r.next_object }

  pub object-renamed : (h : ℕ) (o : Option Object) → IsRenamed to back (record m { objects = with_numbered m.objects h o }) (record n { objects = with_numbered n.objects h (map_if (renamed_object to) o) })
  object-renamed h o = record { back_to = r.back_to; to_back = r.to_back; stores = r.stores; objects = changed_alike (renamed_object to) m.objects n.objects r.objects h o; blocks = r.blocks; statics = r.statics; next_object = r.next_object }

  pub block-renamed : (b : ℕ) (o : Option Scope) → IsRenamed to back (record m { blocks = with_numbered m.blocks b o }) (record n { blocks = with_numbered n.blocks b (map_if (renamed_scope to) o) })
  block-renamed b o = record { back_to = r.back_to; to_back = r.to_back; stores = r.stores; objects = r.objects; blocks = changed_alike (renamed_scope to) m.blocks n.blocks r.blocks b o; statics = r.statics; next_object = r.next_object }

  pub static-renamed : (i : ℕ) (o : Option ℕ) → IsRenamed to back (record m { statics = with_numbered m.statics i o }) (record n { statics = with_numbered n.statics i (map_if to o) })
  static-renamed i o = record { back_to = r.back_to; to_back = r.to_back; stores = r.stores; objects = r.objects; blocks = r.blocks; statics = changed_alike to m.statics n.statics r.statics i o; next_object = r.next_object }

  -- a change of what a block holds, of an object
  pub scope_change-renamed : (b : ℕ) (u v : Scope → Scope) → ((x : Scope) → v (renamed_scope to x) ≡ renamed_scope to (u x)) → IsRenamed to back (with_scope m b (u (scope_of m b))) (with_scope n b (v (scope_of n b)))
  scope_change-renamed b u v h =
      let e : renamed_scope to (u (scope_of m b)) ≡ v (scope_of n b) = sym (h (scope_of m b)) ∙ ap v (sym (scope_of-renamed b)) in
      subst (λ (x : Scope). IsRenamed to back (with_scope m b (u (scope_of m b))) (with_scope n b x)) e (block-renamed b (Some (u (scope_of m b))))

  pub object_change-renamed : (h : ℕ) (u v : Object → Object) → ((x : Object) → v (renamed_object to x) ≡ renamed_object to (u x)) → IsRenamed to back (with_object m h (u (object_of m h))) (with_object n h (v (object_of n h)))
  object_change-renamed h u v same =
      let e : renamed_object to (u (object_of m h)) ≡ v (object_of n h) = sym (same (object_of m h)) ∙ ap v (sym (object_of-renamed h)) in
      subst (λ (x : Object). IsRenamed to back (with_object m h (u (object_of m h))) (with_object n h x)) e (object-renamed h (Some (u (object_of m h))))
