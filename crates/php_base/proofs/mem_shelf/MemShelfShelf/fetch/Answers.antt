use Rattle.std.proofs.Common.{rules, ◌≡◌, Some, false, true, take, ap, sym, ◌∙◌}
use Rattle.std.specs.Option.{option_map}
use Rattle.php_base.specs.declared.shelf.ShelfFail.TheVariants.{Missing, Failed, NoMemory}
use Rattle.php_base.specs.MemShelf.{fetch_fails}
use Rattle.php_base.proofs.Fails.{only_error, ok_then}
use Rattle.php_base.proofs.Lookup.{file_of-kept}
use Rattle.php_base.proofs.mem_shelf.MemShelfShelf.fetch.Goals as goal

pub returns-then-contains-clause-missing : goal.returns-then-contains-clause-missing
returns-then-contains-clause-missing c =
    let fails : fetch_fails c.args.self.now ≡ true = search rules in
    λ works. let clash : true ≡ false = sym fails ∙ works in cc

pub returns-in_default-clause-failed : goal.returns-in_default-clause-failed
returns-in_default-clause-failed c =
    let works : fetch_fails c.args.self.now ≡ false = search rules in
    (λ is. cc, λ fails. let clash : true ≡ false = sym fails ∙ works in cc)

pub returns-clause-failed : goal.returns-clause-failed
returns-clause-failed c =
    let works : fetch_fails c.args.self.now ≡ false = search rules in (
      λ is. let clash : Failed ≡ NoMemory = only_error _ _ _ c.first_bytes.ensures.err is in cc,
      λ fails. let clash : true ≡ false = sym fails ∙ works in cc,
    )

pub returns-clause-missing : goal.returns-clause-missing
returns-clause-missing c =
    let found = file_of-kept _ _ _ _ _ c.index.result.now (ap (λ shelf. shelf.files) c.self.view_is) c.as_slice.ensures.value c.in-Some.ensures.found c.index.ensures in
    λ works. (
      λ is. let clash : Missing ≡ NoMemory = only_error _ _ _ c.first_bytes.ensures.err is in cc,
      λ none. let clash = sym none ∙ found in cc,
    )

pub returns-clause-given : goal.returns-clause-given
returns-clause-given c =
    let found = file_of-kept _ _ _ _ _ c.index.result.now (ap (λ shelf. shelf.files) c.self.view_is) c.as_slice.ensures.value c.in-Some.ensures.found c.index.ensures in
    let bytes = c.as_slice-bytes.ensures.value in
    ok_then _ _ c.first_bytes.result c.first_bytes.ensures.ok (λ given is. ap (option_map (take c.args.limit)) found ∙ ap Some (ap (take c.args.limit) (sym bytes) ∙ sym is))
