-- What was written so far to a sink, and what is left to write.
use Rattle.std.proofs.Common.{◌≡◌, ℕ, List, [], ◌++◌, take, drop, Option, Some, None, sym, ◌∙◌, ap, refl, subst}
use Rattle.std.proofs.lemmas.List.{take-append-drop, append_assoc, append-nil}
use Rattle.php_base.specs.Counts.{Rose}
use Rattle.php_base.specs.Streams.{Stream, AllWritten, BrokenOff}
use Rattle.php_base.specs.Written.{GrewBy, GrewByPart}
use Rattle.php_base.proofs.Growth.{grew-twice}

-- Of these bytes some are written, and the rest is still to be written.
pub record Wrote (whole rest : List ℕ) (old now : Stream) : Type 0 where
  pub front : List ℕ
  pub split : front ++ rest ≡ whole
  pub written : AllWritten front old now

-- what a call that wrote all, or failed, says
pub part_broken : (bytes : List ℕ) (old new : Stream) → Rose old.faults new.faults → GrewByPart old.written new.written bytes → BrokenOff bytes old new
part_broken bytes old new fault part = record {
  fault = fault;
  front = take part.0 bytes;
  is_front = (drop part.0 bytes, take-append-drop part.0 bytes);
  grew = part.2;
}

pub nothing_written : (s : Stream) → AllWritten [] s s
nothing_written s = record { grew = grew_nothing s.written; no_fault = refl } where
  grew_nothing : (w : Option (List ℕ)) → GrewBy w w []
  grew_nothing None = refl
  grew_nothing (Some w) = ap Some (sym (append-nil w))

-- the sink failed within the bytes that come next
pub wrote_broken : (whole rest text more : List ℕ) (old mid new : Stream) →
    Wrote whole rest old mid → rest ≡ text ++ more → BrokenOff text mid new → BrokenOff whole old new
wrote_broken whole rest text more old mid new so next broken = record {
  fault = rose;
  front = so.front ++ broken.front;
  is_front = (broken.is_front.0 ++ more, regrouped);
  grew = grew-twice _ _ _ so.front broken.front so.written.grew broken.grew;
} where
  rose : Rose old.faults new.faults
  rose = let P : ℕ → Type 0 = λ n. Rose n new.faults in subst P so.written.no_fault broken.fault

  regrouped : (so.front ++ broken.front) ++ (broken.is_front.0 ++ more) ≡ whole
  regrouped =
      append_assoc so.front broken.front (broken.is_front.0 ++ more)
      ∙ ap (λ l. so.front ++ l) (sym (append_assoc broken.front broken.is_front.0 more) ∙ ap (λ l. l ++ more) broken.is_front.1 ∙ sym next)
      ∙ so.split

-- the bytes that come next are written
pub wrote_more : (whole rest text later : List ℕ) (old mid new : Stream) →
    Wrote whole rest old mid → rest ≡ text ++ later → AllWritten text mid new → Wrote whole later old new
wrote_more whole rest text later old mid new so next written = record {
  front = so.front ++ text;
  split = append_assoc so.front text later ∙ ap (λ l. so.front ++ l) (sym next) ∙ so.split;
  written = record {
    grew = grew-twice _ _ _ so.front text so.written.grew written.grew;
    no_fault = written.no_fault ∙ so.written.no_fault;
  };
}

-- nothing is left to write
pub wrote_all : (whole : List ℕ) (old now : Stream) → Wrote whole [] old now → AllWritten whole old now
wrote_all whole old now so =
    let P : List ℕ → Type 0 = λ l. AllWritten l old now in
    subst P (sym (append-nil so.front) ∙ so.split) so.written
