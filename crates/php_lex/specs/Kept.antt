-- How the code keeps a mode.
use Rattle.php_lex.specs.declared.modes.Mode.{Mode}
use Rattle.php_lex.specs.declared.modes.Mode.TheVariants as Kept
use Rattle.php_lex.specs.Modes as Modes

abbrev pub mode_kept : Mode → Modes.Mode
mode_kept Kept.Outside = Modes.outside
mode_kept Kept.Script = Modes.script
mode_kept (Kept.Quotes line) = Modes.quotes line
mode_kept (Kept.Heredoc label line) = Modes.heredoc label.now line
mode_kept (Kept.Braces line) = Modes.braces line
mode_kept Kept.Block = Modes.block
mode_kept (Kept.NameDue line) = Modes.name_due line
mode_kept (Kept.NameRead line) = Modes.name_read line
mode_kept (Kept.Brackets line) = Modes.brackets line
mode_kept Kept.Index = Modes.index
mode_kept (Kept.BraceDue line) = Modes.brace_due line
mode_kept (Kept.Subject line) = Modes.subject line
mode_kept (Kept.MemberDue line) = Modes.member_due line
mode_kept (Kept.KeyDue line) = Modes.key_due line
mode_kept (Kept.KeyRead line) = Modes.key_read line
