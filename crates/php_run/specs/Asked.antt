-- The words of a command line as lists of bytes.
use Rattle.std.specs.Prelude.{ℕ, List, map, string_bytes}
use Rattle.std.specs.declared.string.String.{String}
use Rattle.std.specs.declared.alloc.Global.{Global}

abbrev pub asked : List (String Global) → List (List ℕ)
asked = map (λ word. string_bytes word)
