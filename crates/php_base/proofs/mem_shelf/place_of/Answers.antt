use Rattle.std.proofs.Common.{◌≡◌, ◌+◌, ◌<◌, ◌++◌, ◌∷◌, [], true, false, take, length, get_or, None, Some, cond, ap, sym, ◌∙◌, arith}
use Rattle.std.proofs.Math.ListN.{get_or-map}
use Rattle.std.proofs.lemmas.List.{length-map, map_more, take-map}
use Rattle.std.specs.Str.{bytes_eq}
use Rattle.php_base.specs.Files.{file_of}
use Rattle.php_base.specs.MemFiles.{file_view, files_view}
use Rattle.php_base.proofs.Lookup.{file_of-append, first_found}
use Rattle.php_base.proofs.mem_shelf.place_of.Goals as goal

pub returns-then-eq-clause-found : goal.returns-then-eq-clause-found
returns-then-eq-clause-found c =
    let files = c.args.files.now in
    let file = c.index-files-place.result in
    let place = c.loop-place.place in
    let within : place < length (files_view files) = omega (arith, length-map files file_view) in
    let none : file_of (take place (files_view files)) c.args.name.now ≡ None = ap (λ some. file_of some c.args.name.now) (take-map file_view place files) ∙ c.loop-place.invariant in
    let told : get_or (files_view files) place (file_view file) ≡ file_view file = get_or-map file_view files place file ∙ ap file_view (sym c.index-files-place.is) in
    let named : bytes_eq c.args.name.now (file_view file).name ≡ true = ap (bytes_eq c.args.name.now) (sym c.as_str.ensures.value) ∙ sym c.if-eq.ensures in
    first_found (files_view files) c.args.name.now place (file_view file) within none (ap (λ f. bytes_eq c.args.name.now f.name) told ∙ named)

pub loop-place-preserved : goal.loop-place-preserved
loop-place-preserved c =
    let files = c.args.files.now in
    let file = c.index-files-place.result in
    let place = c.loop-place.place in
    let within : place < length files = omega arith in
    let more : files_view (take (place + 1) files) ≡ files_view (take place files) ++ file_view file ∷ [] = map_more file_view files place file within ∙ ap (λ f. files_view (take place files) ++ file_view f ∷ []) (sym c.index-files-place.is) in
    let lacks : bytes_eq c.args.name.now (file_view file).name ≡ false = ap (bytes_eq c.args.name.now) (sym c.as_str.ensures.value) ∙ sym c.if-eq.ensures in
    ap (λ some. file_of some c.args.name.now) more
    ∙ file_of-append (files_view (take place files)) (file_view file ∷ []) c.args.name.now c.loop-place.invariant
    ∙ ap (λ test. cond test (Some (file_view file).bytes) None) lacks
