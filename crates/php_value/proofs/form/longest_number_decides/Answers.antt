use Rattle.php_value.specs.Form.{is_number}
use Rattle.php_value.proofs.Prefixes.{longest_prefix-passes, longest_prefix-last, longest_prefix-fails_all}
use Rattle.php_value.proofs.form.longest_number_decides.Goals as goal

pub returns : goal.returns
returns c = record {
  number = longest_prefix-passes is_number;
  longest = longest_prefix-last is_number;
  none = longest_prefix-fails_all is_number;
}
