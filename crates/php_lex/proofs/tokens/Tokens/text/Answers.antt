use Rattle.std.proofs.Common.{◌<◌, length, sym, ap, ◌∙◌, subst, arith}
use Rattle.std.proofs.lemmas.List.{length-map}
use Rattle.php_lex.specs.declared.tokens.TokenText.TheVariants.{Decoded}
use Rattle.php_lex.specs.Entry.{Within, token_of}
use Rattle.php_lex.proofs.tokens.Tokens.text.Goals as goal

-- the invariant at the token that is read
within : (c : goal.After-deref) → Within (length c.self.inside.decoded.items) (Decoded c.in-Decoded.start c.in-Decoded.end)
within c =
    let count = sym (length-map c.self.inside.entries.items (token_of c.self.inside.decoded.items)) ∙ ap length c.self.view_is in
    let in_range : c.args.at < length c.self.inside.entries.items = omega (arith, count, c.requires) in
    let at_entry = c.self.invariant c.args.at c.index.result.now in_range in
    subst (Within (length c.self.inside.decoded.items)) c.in-Decoded.is (subst (λ e. Within (length c.self.inside.decoded.items) e.text) (sym c.index.ensures) at_entry)

pub slice_bounds-result-count : goal.slice_bounds-result-count
slice_bounds-result-count c = (within c).0

pub slice_bounds-result-start : goal.slice_bounds-result-start
slice_bounds-result-start c = let w = within c in search (arith, w)

pub slice_bounds-result-end : goal.slice_bounds-result-end
slice_bounds-result-end c = let w = within c in omega (arith, w.0, w.1)
