use Rattle.std.proofs.Common.{◌∙◌, sym, ap, map}
use Rattle.php_ast.specs.declaration.View.{member_view}
use Rattle.php_legality.proofs.SequenceLemmas.{elements_are}
use Rattle.php_jumps.specs.Met.{over, met_member}
use Rattle.php_jumps.proofs.script.walk_item.Goals as goal

pub returns-in-Class : goal.returns-in-Class
returns-in-Class c =
    rw c.in-Class.is
    (c.walk_members.ensures ∙ ap (λ ms. over met_member (map member_view ms) c.args.met) c.as_slice-in-Class.ensures
    ∙ ap (λ xs. over met_member xs c.args.met) (sym (elements_are member_view c.in-Class.class.members)))

pub returns-in-Interface : goal.returns-in-Interface
returns-in-Interface c =
    rw c.in-Interface.is
    (c.walk_members-in-Interface.ensures ∙ ap (λ ms. over met_member (map member_view ms) c.args.met) c.as_slice-in-Interface.ensures
    ∙ ap (λ xs. over met_member xs c.args.met) (sym (elements_are member_view c.in-Interface.interface.members)))

pub returns-in-Trait : goal.returns-in-Trait
returns-in-Trait c =
    rw c.in-Trait.is
    (c.walk_members-in-Trait.ensures ∙ ap (λ ms. over met_member (map member_view ms) c.args.met) c.as_slice-in-Trait.ensures
    ∙ ap (λ xs. over met_member xs c.args.met) (sym (elements_are member_view c.in-Trait.item.members)))
