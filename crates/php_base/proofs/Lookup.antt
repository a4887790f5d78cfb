use Rattle.std.proofs.Common.{◌≡◌, ◌≢◌, ℕ, zero, suc, ◌<◌, Bool, true, false, cond, List, [], ◌∷◌, ◌++◌, take, length, set, get_or, Some, None, refl, sym, ◌∙◌, ap, subst, arith, string_bytes}
use Rattle.std.specs.Str.{bytes_eq}
use Rattle.std.specs.Cmp.Lexicographic.{same_text, other_text}
use Rattle.std.proofs.Math.ListN.{get_or-map}
use Rattle.std.proofs.lemmas.List.{map-set, map-append}
use Rattle.php_base.specs.declared.mem_shelf.MemFile.{MemFile}
use Rattle.php_base.specs.MemFiles.{file_view, files_view}
use Rattle.php_base.specs.Files.{File, file_of, IsFirstOf, PutsFile}

-- a name is itself
pub same_name : (name : List ℕ) → bytes_eq name name ≡ true
same_name name = by_test (bytes_eq name name) refl
  where
    by_test : (test : Bool) → bytes_eq name name ≡ test → test ≡ true
    by_test true is = refl
    by_test false is = absurd (other_text name name (sym is) refl)

-- two names are two
pub other_name : (one other : List ℕ) → one ≢ other → bytes_eq one other ≡ false
other_name one other apart = by_test (bytes_eq one other) refl
  where
    by_test : (test : Bool) → bytes_eq one other ≡ test → test ≡ false
    by_test true is = absurd (apart (same_text one other (sym is)))
    by_test false is = refl

-- a look-up past files that lack the name
pub file_of-append : (files more : List File) (name : List ℕ) → file_of files name ≡ None → file_of (files ++ more) name ≡ file_of more name
file_of-append [] more name none = refl
file_of-append (file ∷ files) more name none =
    (elim (bytes_eq name file.name) as (λ test. cond test (Some file.bytes) (file_of files name) ≡ None →
    cond test (Some file.bytes) (file_of (files ++ more) name) ≡ file_of more name) [
      | true ↦ λ found. cc
      | false ↦ λ none_here. file_of-append files more name none_here
    ]) none

-- a further file at the end is found by no other name
pub file_of-append-other : (files : List File) (file : File) (name : List ℕ) → bytes_eq name file.name ≡ false → file_of (files ++ file ∷ []) name ≡ file_of files name
file_of-append-other [] file name apart = ap (λ test. cond test (Some file.bytes) None) apart
file_of-append-other (first ∷ files) file name apart =
    ap (cond (bytes_eq name first.name) (Some first.bytes)) (file_of-append-other files file name apart)

-- a search that met no file of the name before this place
pub first_found : (files : List File) (name : List ℕ) (place : ℕ) (at : File) → place < length files → file_of (take place files) name ≡ None → bytes_eq name (get_or files place at).name ≡ true → IsFirstOf files name place
first_found [] name place at within none named = absurd (omega arith)
first_found (file ∷ files) name zero at within none named = named
first_found (file ∷ files) name (suc place) at within none named =
    (elim (bytes_eq name file.name) as (λ test. cond test (Some file.bytes) (file_of (take place files) name) ≡ None →
    (test ≡ false) × IsFirstOf files name place) [
      | true ↦ λ found. cc
      | false ↦ λ none_here. (refl, first_found files name place at (omega arith) none_here named)
    ]) none

pub first_within : (files : List File) (name : List ℕ) (place : ℕ) → IsFirstOf files name place → place < length files
first_within [] name place first = absurd first
first_within (file ∷ files) name zero first = omega arith
first_within (file ∷ files) name (suc place) first =
    let further : place < length files = first_within files name place first.1 in omega arith

-- it is what the look-up gives
pub file_of-first : (files : List File) (name : List ℕ) (place : ℕ) (at : File) → IsFirstOf files name place → file_of files name ≡ Some (get_or files place at).bytes
file_of-first [] name place at first = absurd first
file_of-first (file ∷ files) name zero at first = ap (λ test. cond test (Some file.bytes) (file_of files name)) first
file_of-first (file ∷ files) name (suc place) at first =
    ap (λ test. cond test (Some file.bytes) (file_of files name)) first.0 ∙ file_of-first files name place at first.1

-- other bytes under its name are what the look-up gives then
pub file_of-set : (files : List File) (name : List ℕ) (place : ℕ) (at new : File) → IsFirstOf files name place → new.name ≡ (get_or files place at).name → file_of (set files place new) name ≡ Some new.bytes
file_of-set [] name place at new first same = absurd first
file_of-set (file ∷ files) name zero at new first same =
    ap (λ test. cond test (Some new.bytes) (file_of files name)) (ap (bytes_eq name) same ∙ first)
file_of-set (file ∷ files) name (suc place) at new first same =
    ap (λ test. cond test (Some file.bytes) (file_of (set files place new) name)) first.0 ∙ file_of-set files name place at new first.1 same

-- and no other look-up changes
pub file_of-set-other : (files : List File) (name : List ℕ) (place : ℕ) (at new : File) (other : List ℕ) → IsFirstOf files name place → new.name ≡ (get_or files place at).name → other ≢ name → file_of (set files place new) other ≡ file_of files other
file_of-set-other [] name place at new other first same apart = absurd first
file_of-set-other (file ∷ files) name zero at new other first same apart =
    let is_name : file.name ≡ name = sym (same_text name file.name (sym first)) in
    let lacks : bytes_eq other file.name ≡ false = ap (bytes_eq other) is_name ∙ other_name other name apart in
    ap (λ test. cond test (Some new.bytes) (file_of files other)) (ap (bytes_eq other) same ∙ lacks)
    ∙ sym (ap (λ test. cond test (Some file.bytes) (file_of files other)) lacks)
file_of-set-other (file ∷ files) name (suc place) at new other first same apart =
    ap (cond (bytes_eq other file.name) (Some file.bytes)) (file_of-set-other files name place at new other first.1 same apart)

-- a file put in place of the first of its name
pub puts-set : (files : List File) (name : List ℕ) (place : ℕ) (at new : File) → IsFirstOf files name place → new.name ≡ (get_or files place at).name → PutsFile files (set files place new) name new.bytes
puts-set files name place at new first same = record {
  there = file_of-set files name place at new first same;
  others = λ other apart. file_of-set-other files name place at new other first same apart;
}

-- a file put behind the others, where none has its name
pub puts-append : (files : List File) (new : File) → file_of files new.name ≡ None → PutsFile files (files ++ new ∷ []) new.name new.bytes
puts-append files new none = record {
  there = file_of-append files (new ∷ []) new.name none ∙ ap (λ test. cond test (Some new.bytes) None) (same_name new.name);
  others = λ other apart. file_of-append-other files new other (other_name other new.name apart);
}

-- the bytes of the kept file that was found
pub file_of-kept : (told : List File) (kept files : List MemFile) (name : List ℕ) (place : ℕ) (file : MemFile) →
    files_view kept ≡ told → files ≡ kept →
    IsFirstOf (files_view files) name place → file ≡ get_or kept place file →
    file_of told name ≡ Some file.bytes.items
file_of-kept told kept files name place file is_told is_kept first is =
    let P : List MemFile → Type 0 = λ some. IsFirstOf (files_view some) name place in
    ap (λ some. file_of some name) (sym is_told)
    ∙ file_of-first (files_view kept) name place (file_view file) (subst P is_kept first)
    ∙ ap (λ f. Some f.bytes) (get_or-map file_view kept place file ∙ ap file_view (sym is))

-- the kept file that was found, with other bytes
pub puts-kept : (told : List File) (kept files : List MemFile) (name bytes : List ℕ) (place : ℕ) (file new : MemFile) →
    files_view kept ≡ told → files ≡ kept →
    IsFirstOf (files_view files) name place → file ≡ get_or kept place file →
    new.name ≡ file.name → new.bytes.items ≡ bytes →
    PutsFile told (files_view (set kept place new)) name bytes
puts-kept told kept files name bytes place file new is_told is_kept first is is_name new_bytes =
    let P : List MemFile → Type 0 = λ some. IsFirstOf (files_view some) name place in
    let at : get_or (files_view kept) place (file_view file) ≡ file_view file = get_or-map file_view kept place file ∙ ap file_view (sym is) in
    let named : (file_view new).name ≡ (get_or (files_view kept) place (file_view file)).name =
    ap string_bytes is_name ∙ sym (ap (λ f. f.name) at) in
    let put : PutsFile (files_view kept) (set (files_view kept) place (file_view new)) name new.bytes.items =
    puts-set (files_view kept) name place (file_view file) (file_view new) (subst P is_kept first) named in
    let Q : List File → Type 0 = λ old. PutsFile old (files_view (set kept place new)) name bytes in
    let R : List File → Type 0 = λ now. PutsFile (files_view kept) now name bytes in
    let S : List ℕ → Type 0 = λ some. PutsFile (files_view kept) (set (files_view kept) place (file_view new)) name some in
    subst Q is_told (subst R (sym (map-set file_view kept place new)) (subst S new_bytes put))

-- a further kept file
pub puts-kept_last : (told : List File) (kept files now : List MemFile) (name bytes : List ℕ) (new : MemFile) →
    files_view kept ≡ told → files ≡ kept → now ≡ kept ++ new ∷ [] →
    file_of (files_view files) name ≡ None →
    string_bytes new.name ≡ name → new.bytes.items ≡ bytes →
    PutsFile told (files_view now) name bytes
puts-kept_last told kept files now name bytes new is_told is_kept is_now none is_name new_bytes =
    let lacks : file_of (files_view kept) (string_bytes new.name) ≡ None =
    ap (λ some. file_of (files_view some) (string_bytes new.name)) (sym is_kept) ∙ ap (file_of (files_view files)) is_name ∙ none in
    let put : PutsFile (files_view kept) (files_view kept ++ file_view new ∷ []) (string_bytes new.name) new.bytes.items =
    puts-append (files_view kept) (file_view new) lacks in
    let Q : List File → Type 0 = λ old. PutsFile old (files_view now) name bytes in
    let R : List File → Type 0 = λ after. PutsFile (files_view kept) after name bytes in
    let S : List ℕ → Type 0 = λ some. PutsFile (files_view kept) (files_view kept ++ file_view new ∷ []) name some in
    let U : List ℕ → Type 0 = λ some. PutsFile (files_view kept) (files_view kept ++ file_view new ∷ []) some new.bytes.items in
    let is_all : files_view kept ++ file_view new ∷ [] ≡ files_view now =
    sym (ap files_view is_now ∙ map-append file_view kept (new ∷ [])) in
    subst Q is_told (subst R is_all (subst S new_bytes (subst U is_name put)))
