-- The operations on blocks and temporaries, in memories that differ in the numbers of their stores.
use Rattle.std.proofs.Common.{◌≡◌, ℕ, refl, sym, subst}
use Rattle.std.specs.Prelude.{Some, None}
use Rattle.php_value.specs.declared.scalar.Scalar.{Scalar}
use Rattle.php_value.specs.declared.scalar.Scalar.TheVariants as scalar
use Rattle.php_entries.specs.Listing.{no_entries}
use Rattle.php_memdef.specs.Contents.{Content, array, object, Item, value, Mem, no_scope}
use Rattle.php_memdef.specs.Temporaries.{content_of_scalar, pushed, popped, top, let_fall, enter, leave, push, push_array, push_object, pass, drop_top}
use Rattle.php_memdef.specs.Alike.{renamed_content, IsRenamed}
use Rattle.php_memdef_laws.proofs.Alike.Memories.{block-renamed}
use Rattle.php_memdef_laws.proofs.Alike.Scopes.{pushed-renamed, popped-renamed, top-renamed, let_fall-renamed}

scalar-renamed : (to : ℕ → ℕ) (v : Scalar) → renamed_content to (content_of_scalar v) ≡ content_of_scalar v
scalar-renamed to scalar.Null = refl
scalar-renamed to (scalar.Bool b) = refl
scalar-renamed to (scalar.Int i) = refl
scalar-renamed to (scalar.Str bytes) = refl

module _ (to back : ℕ → ℕ) (m n : Mem) (r : IsRenamed to back m n) where
  pub enter-renamed : (b room : ℕ) → IsRenamed to back (enter m b room) (enter n b room)
  unfolding enter
  enter-renamed b room = block-renamed to back m n r b (Some (record no_scope { room = room }))

  pub leave-renamed : (b : ℕ) → IsRenamed to back (leave m b) (leave n b)
  unfolding leave
  leave-renamed b = block-renamed to back m n r b None

  pub push-renamed : (b : ℕ) (v : Scalar) → IsRenamed to back (push m b v) (push n b v)
  unfolding push
  push-renamed b v = subst (λ (c : Content). IsRenamed to back (pushed m b (value (content_of_scalar v))) (pushed n b (value c))) (scalar-renamed to v) (pushed-renamed to back m n r b (value (content_of_scalar v)))

  pub push_array-renamed : (b : ℕ) → IsRenamed to back (push_array m b) (push_array n b)
  unfolding push_array
  push_array-renamed b = pushed-renamed to back m n r b (value (array no_entries))

  pub push_object-renamed : (b h : ℕ) → IsRenamed to back (push_object m b h) (push_object n b h)
  unfolding push_object
  push_object-renamed b h = pushed-renamed to back m n r b (value (object h))

  pub pass-renamed : (b c : ℕ) → IsRenamed to back (pass m b c) (pass n b c)
  unfolding pass
  pass-renamed b c = subst (λ (i : Item). IsRenamed to back (pass m b c) (pushed (popped n b) c i)) (sym (top-renamed to back m n r b)) (pushed-renamed to back _ _ (popped-renamed to back m n r b) c (top m b))

  pub drop_top-renamed : (b : ℕ) → IsRenamed to back (drop_top m b) (drop_top n b)
  unfolding drop_top
  drop_top-renamed b = subst (λ (i : Item). IsRenamed to back (drop_top m b) (let_fall (popped n b) b i)) (sym (top-renamed to back m n r b)) (let_fall-renamed to back _ _ (popped-renamed to back m n r b) b (top m b))
