use Rattle.std.proofs.Common.{◌≡◌, None, take}
use Rattle.php_base.specs.Files.{file_of}
use Rattle.php_base.specs.MemFiles.{files_view}
use Rattle.php_base.proofs.mem_shelf.place_of.Given as goal

-- no file before this place has the name
abbrev pub invariant-loop-place : goal.invariant-loop-place
invariant-loop-place l = file_of (files_view (take l.place l.files)) l.name ≡ None
