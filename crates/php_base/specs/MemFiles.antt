use Rattle.std.specs.Prelude.{List, map, string_bytes}
use Rattle.php_base.specs.Files.{File}
use Rattle.php_base.specs.declared.mem_shelf.MemFile.{MemFile}

-- a kept file as the shelf tells it
abbrev pub file_view : MemFile → File
file_view file = record { name = string_bytes file.name; bytes = file.bytes.items }

-- the kept files as the shelf tells them
abbrev pub files_view : List MemFile → List File
files_view files = map file_view files
