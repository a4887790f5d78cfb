-- Names, keywords and the words of casts.
use Rattle.std.specs.Prelude.{ℕ, ◌+◌, ◌-◌, Bool, ◌&&◌, if◌then◌else◌, ◌==◌, nat_lt, List, [], ◌∷◌, take, drop, slice_index, Option, Some, None, codes}
use Rattle.std.specs.Str.{str_eq_ignore_ascii_case}
use Rattle.php_token.specs.declared.kind.TokenKind.{TokenKind}
use Rattle.php_token.specs.declared.kind.TokenKind.TheVariants as Kind
use Rattle.php_token.specs.declared.kind.Keyword.TheVariants as Keyword
use Rattle.php_token.specs.declared.kind.Keyword.{Keyword as KeywordType}
use Rattle.php_token.specs.declared.kind.Cast.TheVariants as Cast
use Rattle.php_token.specs.declared.kind.Cast.{Cast as CastType}
use Rattle.php_lex_pieces.specs.Bytes.{Text, is_blank, is_gap, run, name_len}

unfoldable pub keywords : List (Text × KeywordType)
keywords =
    (codes "abstract", Keyword.Abstract) ∷
    (codes "and", Keyword.And) ∷
    (codes "array", Keyword.Array) ∷
    (codes "as", Keyword.As) ∷
    (codes "break", Keyword.Break) ∷
    (codes "callable", Keyword.Callable) ∷
    (codes "case", Keyword.Case) ∷
    (codes "catch", Keyword.Catch) ∷
    (codes "class", Keyword.Class) ∷
    (codes "clone", Keyword.Clone) ∷
    (codes "const", Keyword.Const) ∷
    (codes "continue", Keyword.Continue) ∷
    (codes "declare", Keyword.Declare) ∷
    (codes "default", Keyword.Default) ∷
    (codes "do", Keyword.Do) ∷
    (codes "echo", Keyword.Echo) ∷
    (codes "else", Keyword.Else) ∷
    (codes "elseif", Keyword.ElseIf) ∷
    (codes "empty", Keyword.Empty) ∷
    (codes "endfor", Keyword.EndFor) ∷
    (codes "endforeach", Keyword.EndForeach) ∷
    (codes "endif", Keyword.EndIf) ∷
    (codes "endswitch", Keyword.EndSwitch) ∷
    (codes "endwhile", Keyword.EndWhile) ∷
    (codes "enddeclare", Keyword.EndDeclare) ∷
    (codes "eval", Keyword.Eval) ∷
    (codes "die", Keyword.Exit) ∷
    (codes "exit", Keyword.Exit) ∷
    (codes "extends", Keyword.Extends) ∷
    (codes "final", Keyword.Final) ∷
    (codes "finally", Keyword.Finally) ∷
    (codes "for", Keyword.For) ∷
    (codes "foreach", Keyword.Foreach) ∷
    (codes "function", Keyword.Function) ∷
    (codes "global", Keyword.Global) ∷
    (codes "goto", Keyword.Goto) ∷
    (codes "if", Keyword.If) ∷
    (codes "implements", Keyword.Implements) ∷
    (codes "include", Keyword.Include) ∷
    (codes "include_once", Keyword.IncludeOnce) ∷
    (codes "instanceof", Keyword.InstanceOf) ∷
    (codes "insteadof", Keyword.InsteadOf) ∷
    (codes "interface", Keyword.Interface) ∷
    (codes "isset", Keyword.IsSet) ∷
    (codes "list", Keyword.List) ∷
    (codes "namespace", Keyword.Namespace) ∷
    (codes "new", Keyword.New) ∷
    (codes "or", Keyword.Or) ∷
    (codes "print", Keyword.Print) ∷
    (codes "private", Keyword.Private) ∷
    (codes "protected", Keyword.Protected) ∷
    (codes "public", Keyword.Public) ∷
    (codes "require", Keyword.Require) ∷
    (codes "require_once", Keyword.RequireOnce) ∷
    (codes "return", Keyword.Return) ∷
    (codes "static", Keyword.Static) ∷
    (codes "switch", Keyword.Switch) ∷
    (codes "throw", Keyword.Throw) ∷
    (codes "trait", Keyword.Trait) ∷
    (codes "try", Keyword.Try) ∷
    (codes "unset", Keyword.Unset) ∷
    (codes "use", Keyword.Use) ∷
    (codes "var", Keyword.Var) ∷
    (codes "while", Keyword.While) ∷
    (codes "xor", Keyword.Xor) ∷
    (codes "yield", Keyword.Yield) ∷
    (codes "__halt_compiler", Keyword.HaltCompiler) ∷
    (codes "__CLASS__", Keyword.ClassName) ∷
    (codes "__FUNCTION__", Keyword.FunctionName) ∷
    (codes "__LINE__", Keyword.LineNumber) ∷
    (codes "__METHOD__", Keyword.MethodName) ∷
    (codes "__FILE__", Keyword.FileName) ∷
    (codes "__DIR__", Keyword.DirectoryName) ∷
    (codes "__NAMESPACE__", Keyword.NamespaceName) ∷
    (codes "__TRAIT__", Keyword.TraitName) ∷ []

unfoldable pub cast_words : List (Text × CastType)
cast_words =
    (codes "int", Cast.Int) ∷
    (codes "integer", Cast.Int) ∷
    (codes "bool", Cast.Bool) ∷
    (codes "boolean", Cast.Bool) ∷
    (codes "string", Cast.Str) ∷
    (codes "array", Cast.Arr) ∷
    (codes "float", Cast.Other) ∷
    (codes "double", Cast.Other) ∷
    (codes "real", Cast.Other) ∷
    (codes "object", Cast.Other) ∷
    (codes "unset", Cast.Other) ∷
    (codes "binary", Cast.Other) ∷ []

-- what a table has for a word, in any letter case
abbrev pub look_up : {A : Type 0} → List (Text × A) → Text → Option A
look_up [] word = None
look_up (row ∷ rows) word = if str_eq_ignore_ascii_case row.0 word then Some row.1 else look_up rows word

abbrev pub kind_of_keyword : Option KeywordType → TokenKind
kind_of_keyword None = Kind.Name
kind_of_keyword (Some keyword) = Kind.Keyword keyword

-- a keyword in any letter case, or else a name
unfoldable pub word_kind : Text → TokenKind
word_kind word = kind_of_keyword (look_up keywords word)

-- the word at a place
abbrev pub word_at : Text → ℕ → Text
word_at text at = take (name_len text at) (drop at text)

-- a whole word at a place, in any letter case
unfoldable pub is_word_at : Text → ℕ → Text → Bool
is_word_at text at expected = str_eq_ignore_ascii_case expected (word_at text at)

-- where `yield`, blanks and the whole word `from` stand at the front, their length, or else 0
unfoldable pub yield_from_len : Text → ℕ
yield_from_len text =
    let second = 5 + run is_blank text 5 in
    if is_word_at text 0 (codes "yield") && nat_lt 5 second && is_word_at text second (codes "from")
    then second + name_len text second else 0

-- the kind of the word at the front, and its length
unfoldable pub word : Text → TokenKind × ℕ
word text =
    if nat_lt 0 (yield_from_len text) then (Kind.Keyword Keyword.YieldFrom, yield_from_len text)
    else (word_kind (take (name_len text 0) text), name_len text 0)

abbrev pub closed_cast : Text → ℕ → Option CastType → Option (CastType × ℕ)
closed_cast text at None = None
closed_cast text at (Some cast) = if slice_index text at == 41 then Some (cast, at + 1) else None

-- the cast at the front, a word in parentheses with spaces and tabs beside it, and its length
unfoldable pub cast : Text → Option (CastType × ℕ)
cast text =
    let start = 1 + run is_gap text 1 in
    let end = start + name_len text start in
    closed_cast text (end + run is_gap text end) (look_up cast_words (take (end - start) (drop start text)))
