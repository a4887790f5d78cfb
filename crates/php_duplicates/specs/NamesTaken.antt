-- The names that are taken, by what they are names of.
use Rattle.std.specs.Prelude.{ℕ, List}
use Rattle.php_legality.specs.Taken.{library_functions, prelude_functions, built_in_classes}
use Rattle.php_duplicates.specs.declared.taken.Taken.{Taken}
use Rattle.php_duplicates.specs.declared.taken.Taken.TheVariants.{LibraryFunctions, PreludeFunctions, BuiltInClasses}

abbrev pub names_taken : Taken → List (List ℕ)
names_taken LibraryFunctions = library_functions
names_taken PreludeFunctions = prelude_functions
names_taken BuiltInClasses = built_in_classes
