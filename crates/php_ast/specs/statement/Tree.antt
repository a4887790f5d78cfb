-- Trees of statements. As in trees of expressions, `S` is what is noted of a token, and what is read as a
-- sequence grows at its end. The note of a statement is that of its first token.
use Rattle.std.specs.Prelude.{ℕ, ℤ, Bool, Option, List}
use Rattle.php_ast.specs.declared.statement.SwitchForm.{SwitchForm}
use Rattle.php_ast.specs.declared.statement.CaseEnd.{CaseEnd}
use Rattle.php_ast.specs.expression.Tree.{Tree, Items}

-- elements between commas, or between `|`
pub data Sequence (A : Type 0) : Type 0 where
  empty : Sequence A
  then_also : Sequence A → A → Sequence A

-- a name, or a variable's name
pub record Name (S : Type 0) : Type 0 where
  pub note : S
  pub text : List ℕ

-- a variable, and the value that it begins with
pub record Variable (S : Type 0) : Type 0 where
  pub name : Name S
  pub value : Option (Tree S)

pub record Constant (S : Type 0) : Type 0 where
  pub name : Name S
  pub value : Tree S

-- what takes a key or a value in `foreach`
pub record Target (S : Type 0) : Type 0 where
  pub is_reference : Bool
  pub place : Tree S

pub data Jump : Type 0 where
  returning : Jump
  breaking : Jump
  continuing : Jump

mutual
  pub data Statement (S : Type 0) : Type 0 where
    -- `{ .. }`, `;`, bytes outside the tags, and an expression with its `;`
    block : S → Statements S → Statement S
    blank : S → Statement S
    inline : S → List ℕ → Statement S
    expression : S → Tree S → Statement S
    echo : S → Items S → Statement S
    globals : S → Sequence (Name S) → Statement S
    statics : S → Sequence (Variable S) → Statement S
    unset : S → Items S → Statement S
    constants : S → Sequence (Constant S) → Statement S
    -- `return`, `break` or `continue`, and its value
    jump : S → Jump → Option (Tree S) → Statement S
    throw : S → Tree S → Statement S
    -- `if` with a statement as each body, without and with `else`
    if_only : S → Tree S → Statement S → ElseIfs S → Statement S
    if_else : S → Tree S → Statement S → ElseIfs S → Statement S → Statement S
    -- `if` with a list behind a colon as each body
    if_lists : S → Tree S → Statements S → ElseIfLists S → Statement S
    if_else_lists : S → Tree S → Statements S → ElseIfLists S → Statements S → Statement S
    while : S → Tree S → Body S → Statement S
    do_while : S → Statement S → Tree S → Statement S
    for : S → Items S → Items S → Items S → Body S → Statement S
    foreach : S → Tree S → Option (Target S) → Target S → Body S → Statement S
    switch : S → Tree S → SwitchForm → Cases S → Statement S
    -- `try` without and with `finally`
    try_catch : S → Statements S → Catches S → Statement S
    try_finally : S → Statements S → Catches S → Statements S → Statement S
    -- `declare (name = int);`
    declares : S → Name S → ℤ → Statement S

  pub data Statements (S : Type 0) : Type 0 where
    no_statement : Statements S
    and_statement : Statements S → Statement S → Statements S

  -- the `elseif` parts of an `if`
  pub data ElseIfs (S : Type 0) : Type 0 where
    no_elseif : ElseIfs S
    and_elseif : ElseIfs S → Tree S → Statement S → ElseIfs S

  pub data ElseIfLists (S : Type 0) : Type 0 where
    no_elseif_list : ElseIfLists S
    and_elseif_list : ElseIfLists S → Tree S → Statements S → ElseIfLists S

  -- the body of a loop: a statement, or a list behind a colon
  pub data Body (S : Type 0) : Type 0 where
    single : Statement S → Body S
    list_behind_colon : Statements S → Body S

  -- the cases of a `switch`; no value stands for `default`
  pub data Cases (S : Type 0) : Type 0 where
    no_case : Cases S
    and_case : Cases S → S → Option (Tree S) → CaseEnd → Statements S → Cases S

  pub data Catches (S : Type 0) : Type 0 where
    no_catch : Catches S
    and_catch : Catches S → Sequence (Name S) → Name S → Statements S → Catches S
