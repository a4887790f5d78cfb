use Rattle.std.proofs.Common.{map, length, ◌≤◌, ◌&&◌, arith, refl, ap, sym, ◌∙◌}
use Rattle.std.specs.Prelude.{◌==◌}
use Rattle.php_ast.specs.expression.View.{view}
use Rattle.php_ast.specs.expression.Parts.{item_with, link_with}
use Rattle.php_legality.specs.Constants.{is_name, is_constant}
use Rattle.php_constants.specs.Elements.{all_constant, is_constant_link, is_constant_access, is_constant_array}
use Rattle.php_constants.proofs.ChainLemmas.{array_is_constant, chain_access, run_constant}
use Rattle.php_weights.proofs.Expressions.{heavier, total, item_weight, link_weight, weight}
use Rattle.php_constants.proofs.constant.+constants.Goals as goal

pub are_constant_items-is_constant_item-requires : goal.are_constant_items-is_constant_item-requires
are_constant_items-is_constant_item-requires t c =
    let h = heavier item_weight (item_with weight) c.args.items.now c.args.items.now c.loop-item.item-index c.item-item.result refl c.loop-item-test.true c.item-item.is in
    (omega (arith, h), tt)

pub are_constant_links-is_constant_link-requires : goal.are_constant_links-is_constant_link-requires
are_constant_links-is_constant_link-requires t c =
    let h = heavier link_weight (link_with weight) c.args.links.now c.args.links.now c.loop-link.link-index c.link-item.result refl c.loop-link-test.true c.link-item.is in
    (omega (arith, h), tt)

pub is_constant-returns-in-Array : goal.is_constant-returns-in-Array
is_constant-returns-in-Array t c =
    rw c.in-Array.is
    (c.is_constant_array.ensures ∙ ap (λ xs. is_constant_array c.in-Array.form (map (item_with view) xs)) c.as_slice.ensures ∙ array_is_constant c.in-Array.field-0 c.in-Array.form c.in-Array.items)

pub is_constant-returns-then-is_constant : goal.is_constant-returns-then-is_constant
is_constant-returns-then-is_constant t c =
    let first = ap (λ e. is_constant (view e)) (sym c.get-in-Run.ensures) ∙ sym c.is_constant-in-Run.ensures ∙ c.if-is_constant.true in
    rw c.in-Run.is
    (c.are_constant_links.ensures ∙ ap (λ xs. all_constant is_constant_link (map (link_with view) xs)) c.as_slice-then-is_constant.ensures
    ∙ ap (λ b. b && all_constant is_constant_link (map (link_with view) c.in-Run.links)) (sym first) ∙ run_constant c.in-Run.e c.in-Run.links)

pub is_constant-returns-else-is_constant : goal.is_constant-returns-else-is_constant
is_constant-returns-else-is_constant t c =
    let first = ap (λ e. is_constant (view e)) (sym c.get-in-Run.ensures) ∙ sym c.is_constant-in-Run.ensures ∙ c.if-is_constant.false in
    rw c.in-Run.is (ap (λ b. b && all_constant is_constant_link (map (link_with view) c.in-Run.links)) (sym first) ∙ run_constant c.in-Run.e c.in-Run.links)

pub is_constant-returns-then-is_name : goal.is_constant-returns-then-is_name
is_constant-returns-then-is_name t c =
    let some = sym c.if-is_empty.false ∙ c.is_empty.ensures ∙ ap (λ xs. length xs == 0) c.as_slice-in-Chain.ensures in
    let named = ap (λ e. is_name (view e)) (sym c.get-else-is_empty.ensures) ∙ sym c.is_name.ensures ∙ c.if-is_name.true in
    rw c.in-Chain.is
    (c.is_constant_access.ensures ∙ ap is_constant_access c.as_slice-then-is_name.ensures ∙ ap (λ b. b && is_constant_access c.in-Chain.suffixes) (sym named)
    ∙ chain_access c.in-Chain.e c.in-Chain.suffixes some)

pub is_constant-returns-else-is_name : goal.is_constant-returns-else-is_name
is_constant-returns-else-is_name t c =
    let some = sym c.if-is_empty.false ∙ c.is_empty.ensures ∙ ap (λ xs. length xs == 0) c.as_slice-in-Chain.ensures in
    let named = ap (λ e. is_name (view e)) (sym c.get-else-is_empty.ensures) ∙ sym c.is_name.ensures ∙ c.if-is_name.false in
    rw c.in-Chain.is (ap (λ b. b && is_constant_access c.in-Chain.suffixes) (sym named) ∙ chain_access c.in-Chain.e c.in-Chain.suffixes some)
