-- What may be written: places, and lists of them.
use Rattle.std.specs.Prelude.{Bool, true, false, ◌&&◌, not, codes, bytes_eq}
use Rattle.php_ast.specs.declared.operator.ArrayForm.TheVariants as form
use Rattle.php_ast.specs.expression.Tree.{Tree, leaf, template, enclosed, listed, exit, exit_empty, static_member, append, index, selected, computed, call, new, new_with, prefix, count, binary, instance_of, instance_of_static, choice, short_choice, assign, yield_nothing, yield_value, yield_pair}
use Rattle.php_ast.specs.expression.Tree as tree

-- the note of the first token
abbrev pub first_note : {S : Type 0} → Tree S → S
first_note (leaf at l) = at
first_note (template at pieces) = at
first_note (enclosed at enclosure e) = at
first_note (listed at listing items) = at
first_note (exit at) = at
first_note (exit_empty at) = at
first_note (static_member at member) = at
first_note (append e) = first_note e
first_note (index e key) = first_note e
first_note (selected e arrow member) = first_note e
first_note (computed e key) = first_note e
first_note (call f items) = first_note f
first_note (new at class) = at
first_note (new_with at class items) = at
first_note (prefix at op e) = at
first_note (count e way) = first_note e
first_note (binary op l r) = first_note l
first_note (instance_of l r) = first_note l
first_note (instance_of_static l at) = first_note l
first_note (choice c a b) = first_note c
first_note (short_choice c b) = first_note c
first_note (assign setting l r) = first_note l
first_note (yield_nothing at) = at
first_note (yield_value at v) = at
first_note (yield_pair at k v) = at

-- A place is a variable, a property or a static member, and what elements of one lead to.
abbrev pub is_place : {S : Type 0} → Tree S → Bool
is_place (leaf at (tree.variable text)) = true
is_place (selected e tree.thin member) = true
is_place (computed e key) = true
is_place (selected e tree.colons (tree.held at text)) = true
is_place (static_member at (tree.held name_at text)) = true
is_place (append e) = is_place e
is_place (index e key) = is_place e
is_place _ = false

-- `$this` alone
abbrev pub is_this : {S : Type 0} → Tree S → Bool
is_this (leaf at (tree.variable text)) = bytes_eq text (codes "this")
is_this _ = false

-- what may be written: a place, but not `$this`
abbrev pub is_written : {S : Type 0} → Tree S → Bool
is_written e = is_place e && not (is_this e)

-- a static member alone
abbrev pub is_static : {S : Type 0} → Tree S → Bool
is_static (selected e tree.colons (tree.held at text)) = true
is_static (static_member at (tree.held name_at text)) = true
is_static _ = false

abbrev pub is_call : {S : Type 0} → Tree S → Bool
is_call (call f items) = true
is_call _ = false

-- `[..]` and `list(..)`, which may take values; `array(..)` may not
abbrev pub is_list : {S : Type 0} → Tree S → Bool
is_list (listed at (tree.array form.Brackets) items) = true
is_list (listed at (tree.array form.List) items) = true
is_list _ = false
