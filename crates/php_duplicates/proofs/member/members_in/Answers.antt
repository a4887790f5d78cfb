use Rattle.std.proofs.Common.{◌∙◌, sym, ap, map}
use Rattle.php_ast.specs.declaration.View.{member_view}
use Rattle.php_legality.proofs.SequenceLemmas.{elements_are}
use Rattle.php_duplicates.proofs.member.members_in.Goals as goal

pub returns-in-Class : goal.returns-in-Class
returns-in-Class c = rw c.in-Class.is (ap (map member_view) c.as_slice.ensures ∙ sym (elements_are member_view c.in-Class.class.members))

pub returns-in-Interface : goal.returns-in-Interface
returns-in-Interface c = rw c.in-Interface.is (ap (map member_view) c.as_slice-in-Interface.ensures ∙ sym (elements_are member_view c.in-Interface.interface.members))

pub returns-in-Trait : goal.returns-in-Trait
returns-in-Trait c = rw c.in-Trait.is (ap (map member_view) c.as_slice-in-Trait.ensures ∙ sym (elements_are member_view c.in-Trait.declared.members))
