-- What printed tokens stand for.
use Rattle.std.specs.Prelude.{◌≡◌, List, ◌++◌, map}
use Rattle.php_print.specs.declared.printed.Printed.{Printed}
use Rattle.php_print.specs.declared.printed.Printed.TheVariants as printed
use Rattle.php_print.specs.declared.fixed.Fixed.{Fixed}
use Rattle.php_print.specs.declared.fixed.Fixed.TheVariants as fixed
use Rattle.php_ast.specs.Symbol.{Symbol, inline, name, variable, int, string, quote, piece, part, end_part, unquote, keyword, punct, cast}

-- each printed token is one symbol, and each symbol one printed token
abbrev pub printed_view : Printed → Symbol
printed_view (printed.Inline text) = inline text
printed_view (printed.Name text) = name text
printed_view (printed.Variable text) = variable text
printed_view (printed.Int n) = int n
printed_view (printed.Str text) = string text
printed_view printed.Quote = quote
printed_view (printed.Piece text) = piece text
printed_view printed.Part = part
printed_view printed.EndPart = end_part
printed_view printed.Unquote = unquote
printed_view (printed.Keyword word) = keyword word
printed_view (printed.Punct mark) = punct mark
printed_view (printed.Cast word) = cast word

abbrev pub fixed_view : Fixed → Symbol
fixed_view fixed.Part = part
fixed_view fixed.EndPart = end_part
fixed_view (fixed.Keyword word) = keyword word
fixed_view (fixed.Punct mark) = punct mark
fixed_view (fixed.Cast word) = cast word

abbrev pub fixed_views : List Fixed → List Symbol → List Symbol
fixed_views tokens w = map fixed_view tokens ++ w

-- A form was written behind what was there: whatever follows, it stands in front of that.
abbrev pub Prints : (List Symbol → List Symbol) → List Symbol → List Symbol → Type 0
Prints form old new = (w : List Symbol) → new ++ w ≡ old ++ form w
