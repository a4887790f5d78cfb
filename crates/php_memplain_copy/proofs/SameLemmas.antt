-- Two memories that have the same under each number.
use Rattle.std.proofs.Common.{◌≡◌, ℕ, List, refl, sym, ◌∙◌, ap}
use Rattle.std.specs.Prelude.{Option, Some, None, is_some}
use Rattle.php_memdef.specs.Numbered.{numbered}
use Rattle.php_memdef.specs.Contents.{Content, Mem}
use Rattle.php_memdef.specs.Holders.{stores_of_content, stores_of_object, stores_of_scope, holders, object_holders}
use Rattle.php_memdef.specs.Sound.{Every, IsLive, IsClosed}
use Rattle.php_memdef.specs.Alike.{map_if, IsRenamed, Alike}
use Rattle.php_memdef_laws.proofs.Alike.Renamings.{Every-weaken, content-kept, scope-kept, object-kept}
use Rattle.php_memdef_laws.proofs.Alike.Memories.{map_if-kept}
use Rattle.php_memdef_laws.proofs.Alike.Totals.{holders-renamed, object_holders-renamed}

pub record SameAt (m n : Mem) : Type 0 where
  pub stores : (s : ℕ) → numbered n.stores s ≡ numbered m.stores s
  pub objects : (h : ℕ) → numbered n.objects h ≡ numbered m.objects h
  pub blocks : (b : ℕ) → numbered n.blocks b ≡ numbered m.blocks b
  pub statics : (i : ℕ) → numbered n.statics i ≡ numbered m.statics i
  pub next_object : n.next_object ≡ m.next_object

module _ (m n : Mem) (same : SameAt m n) where
  renamed : IsRenamed (λ s. s) (λ s. s) m n
  renamed = record {
    back_to = λ s. refl;
    to_back = λ s. refl;
    stores = λ s. same.stores s ∙ sym (map_if-kept _ content-kept (numbered m.stores s));
    objects = λ h. same.objects h ∙ sym (map_if-kept _ object-kept (numbered m.objects h));
    blocks = λ b. same.blocks b ∙ sym (map_if-kept _ scope-kept (numbered m.blocks b));
    statics = λ i. same.statics i ∙ sym (map_if-kept _ (λ s. refl) (numbered m.statics i));
    next_object = same.next_object;
  }

  pub same_alike : Alike m n
  same_alike = record { to = λ s. s; back = λ s. s; renamed = renamed }

  pub same_holders : (k : ℕ) → holders n k ≡ holders m k
  same_holders k = holders-renamed (λ s. s) (λ s. s) m n renamed k

  pub same_handles : (h : ℕ) → object_holders n h ≡ object_holders m h
  same_handles h = object_holders-renamed (λ s. s) (λ s. s) m n renamed h

  still_live : (s : ℕ) → IsLive m s → IsLive n s
  still_live s h = ap is_some (same.stores s) ∙ h

  pub same_closed : IsClosed m → IsClosed n
  same_closed closed = record {
    stores = λ s c e. Every-weaken (IsLive m) (IsLive n) still_live (stores_of_content c) (closed.stores s c (sym (same.stores s) ∙ e));
    objects = λ h o e. Every-weaken (IsLive m) (IsLive n) still_live (stores_of_object o) (closed.objects h o (sym (same.objects h) ∙ e));
    blocks = λ b f e. Every-weaken (IsLive m) (IsLive n) still_live (stores_of_scope f) (closed.blocks b f (sym (same.blocks b) ∙ e));
    statics = λ i s e. still_live s (closed.statics i s (sym (same.statics i) ∙ e));
  }
