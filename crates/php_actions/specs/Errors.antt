-- The errors that the engine throws: the class and the message of each kind.
use Rattle.std.specs.Prelude.{ℕ, zero, suc, List, [], ◌∷◌, ◌++◌, codes}
use Rattle.php_value.specs.declared.error_kind.ErrorKind.{ErrorKind}

-- a class, and a message with a word in its midst
pub record Wording : Type 0 where
  pub class : List ℕ
  pub before : List ℕ
  pub after : List ℕ

abbrev pub wording : List ℕ → List ℕ → List ℕ → Wording
wording class before after = record { class = class; before = before; after = after }

-- of the kinds from 1 on, in order
abbrev pub wordings : List Wording
wordings =
    wording (codes "Error") (codes "Call to undefined function ") (codes "()") ∷
    wording (codes "Error") (codes "Call to undefined method ") (codes "()") ∷
    wording (codes "Error") (codes "Class '") (codes "' not found") ∷
    wording (codes "Error") (codes "Undefined constant '") (codes "'") ∷
    wording (codes "Error") (codes "Cannot access ") [] ∷
    wording (codes "Error") (codes "Cannot instantiate ") [] ∷
    wording (codes "Error") (codes "Using $this when not in object context") [] ∷
    wording (codes "Error") (codes "Cannot use a value of type ") (codes " as an array") ∷
    wording (codes "Error") (codes "Cannot use a value of type ") (codes " as an object") ∷
    wording (codes "Error") (codes "Unsupported operand types") [] ∷
    wording (codes "Error") (codes "Cannot append: no key is left") [] ∷
    wording (codes "Error") (codes "Object of class ") (codes " could not be converted to string") ∷
    wording (codes "Error") (codes "Nesting too deep") [] ∷
    wording (codes "Error") (codes "Cannot compare an object with a string") [] ∷
    wording (codes "Error") (codes "Cannot count this value up or down") [] ∷
    wording (codes "Error") (codes "Value is not callable") [] ∷
    wording (codes "Error") (codes "Bad argument for ") (codes "()") ∷
    wording (codes "Error") (codes "Can only throw objects") [] ∷
    wording (codes "Error") (codes "Generator cannot be used here") [] ∷
    wording (codes "Error") (codes "Bad offset or access") [] ∷
    wording (codes "DivisionByZeroError") (codes "Division by zero") [] ∷
    wording (codes "ArithmeticError") (codes "Arithmetic error") [] ∷
    wording (codes "TypeError") (codes "Value of type ") (codes " does not fit") ∷
    wording (codes "ArgumentCountError") (codes "Too few arguments to ") (codes "()") ∷
    wording (codes "Exception") (codes "Generator is past its start or at its end") [] ∷
    []

abbrev pub nth_wording : List Wording → ℕ → Wording
nth_wording [] n = wording [] [] []
nth_wording (w ∷ ws) zero = w
nth_wording (w ∷ ws) (suc n) = nth_wording ws n

abbrev pub wording_before : ℕ → Wording
wording_before zero = wording [] [] []
wording_before (suc n) = nth_wording wordings n

abbrev pub wording_of : ErrorKind → Wording
wording_of kind = wording_before kind.0

abbrev pub class_of : ErrorKind → List ℕ
class_of kind = (wording_of kind).class

-- the message of a kind about something of this name
abbrev pub message_of : ErrorKind → List ℕ → List ℕ
message_of kind name = (wording_of kind).before ++ name ++ (wording_of kind).after
