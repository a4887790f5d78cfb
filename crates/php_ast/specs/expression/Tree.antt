-- Trees of expressions.
--
-- `S` is what a tree notes of a token on which something may be said later: its place and its line
-- (`Note` in View), or nothing, where only the form counts. Runs that group from the left, suffixes,
-- and lists grow at their end, so that each is built as its tokens are read.
use Rattle.std.specs.Prelude.{ℕ, ℤ, List}
use Rattle.php_token.specs.declared.kind.Keyword.{Keyword}
use Rattle.php_ast.specs.declared.operator.Binary.{Binary}
use Rattle.php_ast.specs.declared.operator.Prefix.{Prefix}
use Rattle.php_ast.specs.declared.operator.Count.{Count}
use Rattle.php_ast.specs.declared.operator.Assign.{Assign}
use Rattle.php_ast.specs.declared.operator.Magic.{Magic}
use Rattle.php_ast.specs.declared.operator.ArrayForm.{ArrayForm}

-- an expression of one token
pub data Leaf : Type 0 where
  variable : List ℕ → Leaf
  int : ℤ → Leaf
  string : List ℕ → Leaf
  name : List ℕ → Leaf
  magic : Magic → Leaf

-- what encloses one expression
pub data Enclosure : Type 0 where
  -- `( .. )`
  parentheses : Enclosure
  -- `empty( .. )`
  emptiness : Enclosure
  -- `exit( .. )`
  exiting : Enclosure

-- what encloses a list of items that stands alone
pub data Listing : Type 0 where
  array : ArrayForm → Listing
  is_set : Listing

-- the token between an operand and the name of a member
pub data Arrow : Type 0 where
  -- `->`
  thin : Arrow
  -- `::`
  colons : Arrow

-- the tokens of an assignment
pub data Setting : Type 0 where
  by_value : Assign → Setting
  -- `= &`
  by_reference : Setting

-- the name of a member, which may be spelled as a keyword or be kept in a variable
pub data Member (S : Type 0) : Type 0 where
  named : S → List ℕ → Member S
  reserved : S → Keyword → Member S
  held : S → List ℕ → Member S

mutual
  pub data Tree (S : Type 0) : Type 0 where
    leaf : S → Leaf → Tree S
    template : S → Pieces S → Tree S
    enclosed : S → Enclosure → Tree S → Tree S
    listed : S → Listing → Items S → Tree S
    -- `exit` alone, and `exit()`
    exit : S → Tree S
    exit_empty : S → Tree S
    -- `static :: name`
    static_member : S → Member S → Tree S
    -- `e[]`
    append : Tree S → Tree S
    -- `e[key]`
    index : Tree S → Tree S → Tree S
    selected : Tree S → Arrow → Member S → Tree S
    -- `e->{name}`
    computed : Tree S → Tree S → Tree S
    call : Tree S → Items S → Tree S
    -- `new` without and with arguments
    new : S → Class S → Tree S
    new_with : S → Class S → Items S → Tree S
    prefix : S → Prefix → Tree S → Tree S
    count : Tree S → Count → Tree S
    binary : Binary → Tree S → Tree S → Tree S
    instance_of : Tree S → Tree S → Tree S
    -- `e instanceof static`
    instance_of_static : Tree S → S → Tree S
    -- `c ? a : b`, and `c ?: b`
    choice : Tree S → Tree S → Tree S → Tree S
    short_choice : Tree S → Tree S → Tree S
    assign : Setting → Tree S → Tree S → Tree S
    -- `yield` alone, `yield v`, and `yield k => v`
    yield_nothing : S → Tree S
    yield_value : S → Tree S → Tree S
    yield_pair : S → Tree S → Tree S → Tree S

  -- the items of an array or a list, and arguments
  pub data Items (S : Type 0) : Type 0 where
    none : Items S
    and : Items S → Lead S → Tree S → Items S
    -- nothing between two commas, or behind the last one
    skip : Items S → Items S

  -- what stands before the value of an item
  pub data Lead (S : Type 0) : Type 0 where
    -- nothing, `&`, `...`, `key =>`, and `key => &`
    plain : Lead S
    reference : Lead S
    spread : Lead S
    keyed : Tree S → Lead S
    keyed_reference : Tree S → Lead S

  -- what stands between the quotes of a text with parts
  pub data Pieces (S : Type 0) : Type 0 where
    no_piece : Pieces S
    bytes : Pieces S → List ℕ → Pieces S
    value : Pieces S → Tree S → Pieces S

  -- the class behind `new`
  pub data Class (S : Type 0) : Type 0 where
    class_name : S → List ℕ → Class S
    class_static : S → Class S
    class_found : Steps S → Class S

  -- a variable and steps to the name of a class
  pub data Steps (S : Type 0) : Type 0 where
    from : S → List ℕ → Steps S
    step_property : Steps S → Member S → Steps S
    step_index : Steps S → Tree S → Steps S
