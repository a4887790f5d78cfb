-- What is owed to the words of a command line.
use Rattle.std.specs.Prelude.{◌≡◌, ℕ, ◌<◌, ◌≤◌, List, length, Option, Some, None}
use Rattle.php_token.specs.Token.{Token}
use Rattle.php_ast.specs.expression.View.{Note}
use Rattle.php_ast.specs.declaration.Tree.{Script}
use Rattle.php_front.specs.Read.{IsRefused, IsScript}
use Rattle.php_front.specs.declared.fail.ReadFail.{ReadFail}
use Rattle.php_run.specs.Words.{Request, Task, running, checking}
use Rattle.php_run.specs.Answer.{Answer, no_file, too_long, unread, usage}
use Rattle.php_run.specs.Checked.{checked}
use Rattle.php_run.specs.Today.{IsOwedByScript}
use Rattle.php_run.specs.declared.limits.TheConstants.{MOST_BYTES}

-- what is owed where the file is a legal script with these tokens
abbrev pub IsOwedTo : Task → List Token → Script Note → Answer → Type 0
IsOwedTo (running allowance) found script owed = IsOwedByScript found script allowance owed
IsOwedTo checking found script owed = owed ≡ checked script

-- What is owed where the file has these bytes and isn't too long: the refusal for the first cause why it is no legal script;
-- else what is owed to the script.
pub data IsOwedFor (request : Request) (bytes : List ℕ) (owed : Answer) : Type 0 where
  faulty : (cause : ReadFail) → IsRefused bytes cause → owed ≡ unread cause → IsOwedFor request bytes owed
  legal : (found : List Token) (script : Script Note) → IsScript bytes found script → IsOwedTo request.task found script owed → IsOwedFor request bytes owed

-- what is owed where a file of the name holds these bytes
pub data IsOwedOf (request : Request) (bytes : List ℕ) (owed : Answer) : Type 0 where
  too_many : MOST_BYTES < length bytes → owed ≡ too_long request.file → IsOwedOf request bytes owed
  read : length bytes ≤ MOST_BYTES → IsOwedFor request bytes owed → IsOwedOf request bytes owed

-- The answer that is owed to the words, where the shelf has this under the name: no file, or a file with these bytes.
abbrev pub IsOwed : Option Request → Option (List ℕ) → Answer → Type 0
IsOwed None held owed = owed ≡ usage
IsOwed (Some request) None owed = owed ≡ no_file request.file
IsOwed (Some request) (Some bytes) owed = IsOwedOf request bytes owed
