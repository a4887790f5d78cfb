-- What files come to, held against what is owed.
use Rattle.std.proofs.Common.{◌≡◌, ◌≢◌, ℕ, ◌+◌, ◌<◌, ◌≤◌, List, length, take, min, Option, Some, None, refl, sym, ap, ◌∙◌, arith}
use Rattle.std.proofs.lemmas.List.{take_all, length-take}
use Rattle.php_base.specs.Files.{File, file_of, TellsNone}
use Rattle.php_base.specs.Streams.{Stream, AllWritten}
use Rattle.php_front.specs.Read.{IsRefused}
use Rattle.php_front.specs.declared.fail.ReadFail.{ReadFail}
use Rattle.php_front.specs.declared.fail.ReadFail.TheVariants as fail
use Rattle.php_run.specs.declared.limits.TheConstants.{MOST_BYTES}
use Rattle.php_run.specs.Answer.{Answer, unread}
use Rattle.php_run.specs.Called.{CanEnd, finished, out_failed, starved, IsHeld}
use Rattle.php_run.specs.Owed.{IsOwed, faulty, read}
use Rattle.php_run.specs.Words.{Request}

-- whatever is due in the one way is due in the other
pub ends_as : (IsDue IsOther : Answer → Type 0) (out out' : Stream) (answer : Answer) →
    ((a : Answer) → IsDue a → IsOther a) → CanEnd IsDue out out' answer → CanEnd IsOther out out' answer
ends_as IsDue IsOther out out' answer wider (finished due written) = finished (wider answer due) written
ends_as IsDue IsOther out out' answer wider (out_failed whole due fault short grew same) = out_failed whole (wider whole due) fault short grew same
ends_as IsDue IsOther out out' answer wider (starved same nothing) = starved same nothing

-- what was taken of a file is all of it, or the file is longer than the limit
pub taken_whole : (bytes whole : List ℕ) (most : ℕ) → bytes ≡ take (most + 1) whole → length bytes ≤ most → bytes ≡ whole
taken_whole bytes whole most is short =
    let lengths : length bytes ≡ min (most + 1) (length whole) = ap length is ∙ length-take (most + 1) whole in
    is ∙ take_all (most + 1) whole (omega (arith, lengths))

pub taken_part : (bytes whole : List ℕ) (most : ℕ) → bytes ≡ take (most + 1) whole → most < length bytes → most < length whole
taken_part bytes whole most is long =
    let lengths : length bytes ≡ min (most + 1) (length whole) = ap length is ∙ length-take (most + 1) whole in
    omega (arith, lengths)

-- there is something that the shelf has, or doesn't have, under the name
pub some_held : (files : Option (List File)) (request : Option Request) → (held : Option (List ℕ)) × IsHeld files request held
some_held None request = (None, tt)
some_held (Some files) None = (None, tt)
some_held (Some files) (Some request) = (file_of files request.file, refl)

pub none_held : (files : Option (List File)) → IsHeld files None None
none_held None = tt
none_held (Some files) = tt

-- the bytes that a shelf gave are taken of a file that it has
pub held_bytes : (files : Option (List File)) (request : Request) (given : List ℕ) (most : ℕ) →
    length given ≤ most →
    ((told : List File) (bytes : List ℕ) → files ≡ Some told → file_of told request.file ≡ Some bytes → given ≡ take most bytes) →
    (TellsNone files request.file → ⊥) →
    (whole : List ℕ) × (given ≡ take most whole) × IsHeld files (Some request) (Some whole)
held_bytes None request given most short told there = (given, sym (take_all most given short), tt)
held_bytes (Some files) request given most short told there = by_look_up (file_of files request.file) refl where
  by_look_up : (found : Option (List ℕ)) → file_of files request.file ≡ found → (whole : List ℕ) × (given ≡ take most whole) × IsHeld (Some files) (Some request) (Some whole)
  by_look_up None same = absurd (there (files, refl, same))
  by_look_up (Some bytes) same = (bytes, told files bytes refl same, sym same)

-- the file wasn't read as a legal script
pub ends_unread : (request : Request) (file : List ℕ) (cause : ReadFail) (out : Stream) (a : Answer) →
    length file ≤ MOST_BYTES → (cause ≢ fail.NoMemory → IsRefused file cause) → AllWritten a.output out out → a ≡ unread cause →
    CanEnd (IsOwed (Some request) (Some file)) out out a
ends_unread request file (fail.Lex fault) out a short refused nothing is = finished (read short (faulty (fail.Lex fault) (refused (λ h. cc)) is)) nothing
ends_unread request file (fail.Parse failure) out a short refused nothing is = finished (read short (faulty (fail.Parse failure) (refused (λ h. cc)) is)) nothing
ends_unread request file (fail.Name failure) out a short refused nothing is = finished (read short (faulty (fail.Name failure) (refused (λ h. cc)) is)) nothing
ends_unread request file fail.NoMemory out a short refused nothing is = starved is refl
