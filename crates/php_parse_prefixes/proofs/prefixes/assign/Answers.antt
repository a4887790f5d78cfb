use Rattle.php_reader.proofs.Items.{ampersand_shown}
use Rattle.php_parse_prefixes.proofs.prefixes.assign.Goals as goal

pub assign_reference-requires-clause-reference : goal.assign_reference-requires-clause-reference
assign_reference-requires-clause-reference g c = ampersand_shown _ _ (c.if-is_reference.ensures _ _ c.due_at-due.ensures.marks)
