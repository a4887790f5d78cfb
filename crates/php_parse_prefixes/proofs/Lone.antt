-- What stands behind a `yield` alone, from the mark of that token.
use Rattle.std.proofs.Common.{◌≡◌, ◌≢◌, ℕ, Bool, false, List, [], ◌∷◌, refl, ap, ◌∙◌}
use Rattle.php_token.specs.Token.{Token}
use Rattle.php_token.specs.declared.kind.Punct.{Punct}
use Rattle.php_token.specs.declared.kind.Punct.TheVariants as sign
use Rattle.php_ast.specs.declared.operator.Binary.{Binary}
use Rattle.php_ast.specs.declared.operator.Binary.TheVariants as binary
use Rattle.php_ast.specs.Symbol.{Symbol, punct}
use Rattle.php_grammar.specs.declared.closer.Closer.{Closer}
use Rattle.php_grammar.specs.expression.Role.{Mark, ends_item, item_mark, mark_of, Continuation, closes, draws, by_binary, neither, continuation, ends_yield}
use Rattle.php_grammar.specs.expression.Laws.{head_continuation}
use Rattle.php_reader.specs.declared.role.Mark as rust_mark
use Rattle.php_reader.specs.declared.role.Mark.TheVariants as marked
use Rattle.php_reader.specs.RoleView.{mark_view}
use Rattle.php_reader.specs.Seen.{Marks, head_mark, rest}
use Rattle.php_reader.proofs.Items.{marks_head}

abbrev pub yields_mark : Mark → Bool
yields_mark (ends_item c) = ends_yield (closes c)
yields_mark _ = false

yields_by : (x : Continuation) → ends_yield x ≡ yields_mark (mark_of x)
yields_by (closes c) = refl
yields_by (draws (by_binary op)) = joined op
  where
    joined : (op : Binary) → false ≡ yields_mark (mark_of (draws (by_binary op)))
    joined binary.BitAnd = refl
    joined _ = refl
yields_by (draws _) = refl
yields_by neither = refl

yields_punct : (p : Punct) → ends_yield (continuation (punct p)) ≡ yields_mark (item_mark (punct p))
yields_punct sign.Ellipsis = refl
yields_punct p = yields_by (continuation (punct p))

yields_one : (t : Symbol) → ends_yield (continuation t) ≡ yields_mark (item_mark t)
yields_one (punct p) = yields_punct p
yields_one t = yields_by (continuation t)

yields_head : (v : List Symbol) → ends_yield (head_continuation v) ≡ yields_mark (head_mark v)
yields_head [] = refl
yields_head (t ∷ w) = yields_one t

pub no_lone : (tokens : List Token) (at : ℕ) (m : rust_mark.Mark) → yields_mark (mark_view m) ≡ false → Marks tokens at (mark_view m) → ends_yield (head_continuation (rest tokens at)) ≡ false
no_lone tokens at m is h = yields_head (rest tokens at) ∙ ap yields_mark (marks_head tokens at (mark_view m) h) ∙ is

pub ends_nothing : (m : rust_mark.Mark) → ((c : Closer) → m ≢ marked.Ends c) → yields_mark (mark_view m) ≡ false
ends_nothing (marked.Ends c) h = absurd (h c refl)
ends_nothing _ h = refl
