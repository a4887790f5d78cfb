use Rattle.std.proofs.Common.{[], ◌∷◌, ◌++◌, w64, sym, subst}
use Rattle.std.proofs.lemmas.Int.{to_z-of_z}
use Rattle.php_lex.specs.declared.tokens.Entry.{Entry}
use Rattle.php_lex.specs.Entry.{Adds}
use Rattle.php_lex.specs.PieceKept.{text_kept}
use Rattle.php_token.specs.Token.{the_token}
use Rattle.php_lex.proofs.KeepLemmas.{pushed}
use Rattle.php_lex.proofs.tokens.push.Goals as goal

pub returns : goal.returns
returns c =
    let old = c.args.out.now.decoded.items in
    let new = c.keep.new.decoded.items in
    let entries = c.args.out.now.entries.items in
    let text = text_kept c.args.text in
    let int_is = to_z-of_z w64 c.args.int c.ranges.int in
    let entry : Entry = record { kind = c.args.kind; text = c.in_ok-text.text; int = c.args.int; line = c.args.line } in
    let added = pushed old new entries entry text c.requires c.in_ok-text.ensures in
    let same = subst (λ n. Adds (the_token c.args.kind text c.args.int c.args.line ∷ []) entries (entries ++ record { kind = c.args.kind; text = c.in_ok-text.text; int = n; line = c.args.line } ∷ []) old new) (sym int_is) added in
    subst (λ es. Adds (the_token c.args.kind text c.args.int c.args.line ∷ []) entries es old new) (sym c.in_ok-push.ensures.items) same
