-- Words before a member that don't go together, by which words stand before.
use Rattle.std.specs.Prelude.{Bool, true, false, ◌||◌, Option, List}
use Rattle.php_ast.specs.declared.declaration.ModifierWord.{ModifierWord}
use Rattle.php_ast.specs.declared.declaration.ModifierWord.TheVariants as modifier
use Rattle.php_ast.specs.expression.View.{Note}
use Rattle.php_ast.specs.declaration.Tree.{Modifier}
use Rattle.php_legality.specs.declared.kind.Kind.TheVariants as kind
use Rattle.php_legality.specs.declared.fault.Fault.{Fault}
use Rattle.php_legality.specs.Lists.{is_any}
use Rattle.php_legality.specs.Rows.{is_abstract_word}
use Rattle.php_places.specs.Over.{over}
use Rattle.php_places.specs.Met.{where_bad}
use Rattle.php_forms.specs.declared.modifiers.Words.{Words}
use Rattle.php_forms.specs.declared.modifiers.Worded.{Worded}

abbrev pub no_words : Words
no_words = record { has_visibility = false; has_private = false; has_static = false; has_abstract = false; has_final = false }

abbrev pub clashes : Words → ModifierWord → Bool
clashes w modifier.Public = w.has_visibility
clashes w modifier.Protected = w.has_visibility
clashes w modifier.Var = w.has_visibility
clashes w modifier.Private = w.has_visibility || w.has_abstract
clashes w modifier.Static = w.has_static
clashes w modifier.Abstract = w.has_private || (w.has_abstract || w.has_final)
clashes w modifier.Final = w.has_abstract || w.has_final

abbrev pub with_word : Words → ModifierWord → Words
with_word w modifier.Public = record { has_visibility = true; has_private = w.has_private; has_static = w.has_static; has_abstract = w.has_abstract; has_final = w.has_final }
with_word w modifier.Protected = record { has_visibility = true; has_private = w.has_private; has_static = w.has_static; has_abstract = w.has_abstract; has_final = w.has_final }
with_word w modifier.Var = record { has_visibility = true; has_private = w.has_private; has_static = w.has_static; has_abstract = w.has_abstract; has_final = w.has_final }
with_word w modifier.Private = record { has_visibility = true; has_private = true; has_static = w.has_static; has_abstract = w.has_abstract; has_final = w.has_final }
with_word w modifier.Static = record { has_visibility = w.has_visibility; has_private = w.has_private; has_static = true; has_abstract = w.has_abstract; has_final = w.has_final }
with_word w modifier.Abstract = record { has_visibility = w.has_visibility; has_private = w.has_private; has_static = w.has_static; has_abstract = true; has_final = w.has_final }
with_word w modifier.Final = record { has_visibility = w.has_visibility; has_private = w.has_private; has_static = w.has_static; has_abstract = w.has_abstract; has_final = true }

abbrev pub before_words : Option Fault → Worded
before_words met = record { first = met; words = no_words }

abbrev pub met_word : Modifier Note → Worded → Worded
met_word m worded = record { first = where_bad (clashes worded.words m.word) kind.BadUse m.note worded.first; words = with_word worded.words m.word }

unfoldable pub met_modifiers : List (Modifier Note) → Option Fault → Option Fault
met_modifiers ms met = (over met_word ms (before_words met)).first

abbrev pub is_abstract : List (Modifier Note) → Bool
is_abstract ms = is_any (λ m. is_abstract_word m.word) ms
