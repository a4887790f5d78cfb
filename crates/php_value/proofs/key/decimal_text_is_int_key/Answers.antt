use Rattle.php_value.proofs.Numerals.{key_of_text-signed_decimal}
use Rattle.php_value.proofs.key.decimal_text_is_int_key.Goals as goal

pub returns : goal.returns
returns c = key_of_text-signed_decimal
