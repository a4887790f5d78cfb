use Rattle.std.proofs.Common.{◌≡◌, List, ◌++◌, drop}
use Rattle.php_ast.specs.Symbol.{Symbol}
use Rattle.php_print.specs.Print.{fixed_views}
use Rattle.php_print.proofs.printer.Printer.put_all.Given as goal

abbrev pub invariant-loop-token : goal.invariant-loop-token
invariant-loop-token l = (w : List Symbol) → l.self ++ fixed_views (drop l.token-index l.tokens) w ≡ l.initial.self ++ fixed_views l.tokens w
