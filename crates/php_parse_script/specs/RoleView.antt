-- From the roles of tokens in the program to those of the grammar.
use Rattle.php_grammar.specs.declaration.ScriptMachine.{ItemRole, at_function, at_class, at_class_word, at_interface, at_trait, at_statement, HeadingRole, by_extends, by_implements, by_comma, by_members, by_no_heading}
use Rattle.php_parse_script.specs.declared.role.ItemKind.{ItemKind}
use Rattle.php_parse_script.specs.declared.role.ItemKind.TheVariants as kind
use Rattle.php_parse_script.specs.declared.role.HeadingMark.{HeadingMark}
use Rattle.php_parse_script.specs.declared.role.HeadingMark.TheVariants as heading_mark

abbrev pub kind_view : ItemKind → ItemRole
kind_view kind.Function = at_function
kind_view kind.Class = at_class
kind_view (kind.ClassWord word) = at_class_word word
kind_view kind.Interface = at_interface
kind_view kind.Trait = at_trait
kind_view kind.Statement = at_statement

abbrev pub mark_view : HeadingMark → HeadingRole
mark_view heading_mark.Extends = by_extends
mark_view heading_mark.Implements = by_implements
mark_view heading_mark.Comma = by_comma
mark_view heading_mark.Members = by_members
mark_view heading_mark.Other = by_no_heading
