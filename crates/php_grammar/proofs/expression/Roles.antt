-- What a symbol is, from what it may do.
use Rattle.std.proofs.Common.{◌≡◌, Bool, true, false, Option, Some, None, refl, ap}
use Rattle.php_token.specs.declared.kind.Keyword.{Keyword}
use Rattle.php_token.specs.declared.kind.Keyword.TheVariants as word
use Rattle.php_token.specs.declared.kind.Punct.{Punct}
use Rattle.php_token.specs.declared.kind.Punct.TheVariants as mark
use Rattle.php_token.specs.declared.kind.Cast.{Cast}
use Rattle.php_token.specs.declared.kind.Cast.TheVariants as to
use Rattle.php_ast.specs.declared.operator.Binary.{Binary}
use Rattle.php_ast.specs.declared.operator.Binary.TheVariants as binary
use Rattle.php_ast.specs.declared.operator.Prefix.{Prefix}
use Rattle.php_ast.specs.declared.operator.Prefix.TheVariants as prefix
use Rattle.php_ast.specs.declared.operator.Assign.{Assign}
use Rattle.php_ast.specs.declared.operator.Assign.TheVariants as assign
use Rattle.php_ast.specs.declared.operator.Count.TheVariants as count
use Rattle.php_ast.specs.declared.operator.ArrayForm.TheVariants as form
use Rattle.php_ast.specs.declared.operator.Magic.{Magic}
use Rattle.php_ast.specs.declared.operator.Magic.TheVariants as magic
use Rattle.php_ast.specs.Symbol as symbol
use Rattle.php_ast.specs.Symbol.{Symbol, keyword, punct, cast}
use Rattle.php_ast.specs.Operators.{binary_symbol, prefix_symbol, count_symbol, assign_symbol, magic_symbol}
use Rattle.php_ast.specs.expression.Tree as tree
use Rattle.php_ast.specs.expression.Tree.{Leaf, Enclosure, parentheses, emptiness, exiting, Listing, array, is_set, thin, colons, Member, named, reserved, held}
use Rattle.php_ast.specs.expression.Spelling.{leaf_symbol, member_symbol, arrow_symbol}
use Rattle.php_ast.specs.expression.Proper.{may_name, IsWord, IsMemberName}
use Rattle.php_grammar.specs.declared.closer.Closer.{Closer}
use Rattle.php_grammar.specs.declared.closer.Closer.TheVariants as ender
use Rattle.php_grammar.specs.expression.Role.{Beginning, at_leaf, at_static, at_template, at_exit, at_new, at_yield, at_enclosed, at_listed, at_prefix, at_nothing, beginning, beginning_keyword, beginning_punct, beginning_cast, Draw, by_binary, by_instance_of, by_choice, by_assign, by_count, by_call, by_index, by_select, Continuation, draws, closes, neither, continuation, continuation_keyword, continuation_punct, reserved_if, word_of, member_of, Mark, refers, spreads, ends_item, begins, item_mark, is_ampersand, is_paren, is_right_paren, is_right_bracket, is_left_brace, is_colon}

-- ---- the symbol of each role

abbrev pub draw_symbol : Draw → Symbol
draw_symbol (by_binary op) = binary_symbol op
draw_symbol by_instance_of = keyword word.InstanceOf
draw_symbol by_choice = punct mark.Question
draw_symbol (by_assign op) = assign_symbol op
draw_symbol (by_count c) = count_symbol c
draw_symbol by_call = punct mark.LeftParen
draw_symbol by_index = punct mark.LeftBracket
draw_symbol (by_select arrow) = arrow_symbol arrow

abbrev pub closer_symbol : Closer → Symbol
closer_symbol ender.Paren = punct mark.RightParen
closer_symbol ender.Bracket = punct mark.RightBracket
closer_symbol ender.Brace = punct mark.RightBrace
closer_symbol ender.Comma = punct mark.Comma
closer_symbol ender.DoubleArrow = punct mark.DoubleArrow
closer_symbol ender.Colon = punct mark.Colon
closer_symbol ender.Semicolon = punct mark.Semicolon
closer_symbol ender.EndPart = symbol.end_part

abbrev pub enclosure_word : Enclosure → Symbol
enclosure_word parentheses = punct mark.LeftParen
enclosure_word emptiness = keyword word.Empty
enclosure_word exiting = keyword word.Exit

abbrev pub listing_word : Listing → Symbol
listing_word (array form.Brackets) = punct mark.LeftBracket
listing_word (array form.Array) = keyword word.Array
listing_word (array form.List) = keyword word.List
listing_word is_set = keyword word.IsSet

-- ---- what follows an expression

abbrev pub Says : Continuation → Symbol → Type 0
Says (draws d) t = t ≡ draw_symbol d
Says (closes c) t = t ≡ closer_symbol c
Says neither t = Unit {0}

continuation_keyword_says : (k : Keyword) → Says (continuation_keyword k) (keyword k)
continuation_keyword_says word.InstanceOf = refl
continuation_keyword_says word.And = refl
continuation_keyword_says word.Xor = refl
continuation_keyword_says word.Or = refl
continuation_keyword_says _ = tt

continuation_punct_says : (p : Punct) → Says (continuation_punct p) (punct p)
continuation_punct_says mark.LeftBrace = tt
continuation_punct_says mark.Tilde = tt
continuation_punct_says mark.Bang = tt
continuation_punct_says mark.Ellipsis = tt
continuation_punct_says mark.At = tt
continuation_punct_says _ = refl

pub continuation_says : (t : Symbol) → Says (continuation t) t
continuation_says (keyword k) = continuation_keyword_says k
continuation_says (punct p) = continuation_punct_says p
continuation_says symbol.end_part = refl
continuation_says _ = tt

pub continuation_binary : (op : Binary) → continuation (binary_symbol op) ≡ draws (by_binary op)
continuation_binary binary.Power = refl
continuation_binary _ = refl

pub continuation_assign : (op : Assign) → continuation (assign_symbol op) ≡ draws (by_assign op)
continuation_assign assign.Plain = refl
continuation_assign _ = refl

pub continuation_draw : (d : Draw) → continuation (draw_symbol d) ≡ draws d
continuation_draw (by_binary op) = continuation_binary op
continuation_draw by_instance_of = refl
continuation_draw by_choice = refl
continuation_draw (by_assign op) = continuation_assign op
continuation_draw (by_count count.Up) = refl
continuation_draw (by_count count.Down) = refl
continuation_draw by_call = refl
continuation_draw by_index = refl
continuation_draw (by_select thin) = refl
continuation_draw (by_select colons) = refl

-- ---- what begins an expression

abbrev pub BeginningSays : Beginning → Symbol → Type 0
BeginningSays (at_leaf l) t = t ≡ leaf_symbol l
BeginningSays at_static t = t ≡ keyword word.Static
BeginningSays at_template t = t ≡ symbol.quote
BeginningSays at_exit t = t ≡ keyword word.Exit
BeginningSays at_new t = t ≡ keyword word.New
BeginningSays at_yield t = t ≡ keyword word.Yield
BeginningSays (at_enclosed enclosure) t = t ≡ enclosure_word enclosure
BeginningSays (at_listed listing) t = t ≡ listing_word listing
BeginningSays (at_prefix op) t = t ≡ prefix_symbol op
BeginningSays at_nothing t = Unit {0}

beginning_keyword_says : (k : Keyword) → BeginningSays (beginning_keyword k) (keyword k)
beginning_keyword_says word.Array = refl
beginning_keyword_says word.List = refl
beginning_keyword_says word.IsSet = refl
beginning_keyword_says word.Empty = refl
beginning_keyword_says word.Exit = refl
beginning_keyword_says word.New = refl
beginning_keyword_says word.Static = refl
beginning_keyword_says word.Yield = refl
beginning_keyword_says word.Clone = refl
beginning_keyword_says word.Print = refl
beginning_keyword_says word.YieldFrom = refl
beginning_keyword_says word.LineNumber = refl
beginning_keyword_says word.ClassName = refl
beginning_keyword_says word.FunctionName = refl
beginning_keyword_says word.MethodName = refl
beginning_keyword_says _ = tt

beginning_punct_says : (p : Punct) → BeginningSays (beginning_punct p) (punct p)
beginning_punct_says mark.LeftParen = refl
beginning_punct_says mark.LeftBracket = refl
beginning_punct_says mark.PlusPlus = refl
beginning_punct_says mark.MinusMinus = refl
beginning_punct_says mark.Tilde = refl
beginning_punct_says mark.At = refl
beginning_punct_says mark.Plus = refl
beginning_punct_says mark.Minus = refl
beginning_punct_says mark.Bang = refl
beginning_punct_says _ = tt

beginning_cast_says : (c : Cast) → BeginningSays (beginning_cast c) (cast c)
beginning_cast_says to.Other = tt
beginning_cast_says _ = refl

pub beginning_says : (t : Symbol) → BeginningSays (beginning t) t
beginning_says (symbol.variable text) = refl
beginning_says (symbol.int n) = refl
beginning_says (symbol.string text) = refl
beginning_says (symbol.name text) = refl
beginning_says symbol.quote = refl
beginning_says (keyword k) = beginning_keyword_says k
beginning_says (punct p) = beginning_punct_says p
beginning_says (cast c) = beginning_cast_says c
beginning_says _ = tt

pub beginning_prefix : (op : Prefix) → beginning (prefix_symbol op) ≡ at_prefix op
beginning_prefix prefix.Clone = refl
beginning_prefix _ = refl

beginning_magic : (m : Magic) → beginning (magic_symbol m) ≡ at_leaf (tree.magic m)
beginning_magic magic.Line = refl
beginning_magic _ = refl

pub beginning_leaf : (l : Leaf) → beginning (leaf_symbol l) ≡ at_leaf l
beginning_leaf (tree.variable text) = refl
beginning_leaf (tree.int n) = refl
beginning_leaf (tree.string text) = refl
beginning_leaf (tree.name text) = refl
beginning_leaf (tree.magic m) = beginning_magic m

-- ---- what may stand where an item is due

abbrev pub MarkSays : Mark → Symbol → Type 0
MarkSays refers t = t ≡ punct mark.Ampersand
MarkSays spreads t = t ≡ punct mark.Ellipsis
MarkSays (ends_item c) t = t ≡ closer_symbol c
MarkSays begins t = Unit {0}

item_punct_says : (p : Punct) → MarkSays (item_mark (punct p)) (punct p)
item_punct_says mark.Ampersand = refl
item_punct_says mark.Ellipsis = refl
item_punct_says mark.RightBracket = refl
item_punct_says mark.RightParen = refl
item_punct_says mark.RightBrace = refl
item_punct_says mark.Colon = refl
item_punct_says mark.Semicolon = refl
item_punct_says mark.Comma = refl
item_punct_says mark.DoubleArrow = refl
item_punct_says _ = tt

item_keyword_says : (k : Keyword) → MarkSays (item_mark (keyword k)) (keyword k)
item_keyword_says word.InstanceOf = tt
item_keyword_says _ = tt

pub item_says : (t : Symbol) → MarkSays (item_mark t) t
item_says (punct p) = item_punct_says p
item_says (keyword k) = item_keyword_says k
item_says symbol.end_part = refl
item_says _ = tt

-- ---- names

abbrev pub MemberSays : Option (Member (Unit {0})) → Symbol → Type 0
MemberSays (Some m) t = (t ≡ member_symbol m) × IsMemberName m
MemberSays None t = Unit {0}

abbrev pub WordSays : Option (Member (Unit {0})) → Symbol → Type 0
WordSays (Some m) t = (t ≡ member_symbol m) × IsWord m
WordSays None t = Unit {0}

keyword_word : (b : Bool) (k : Keyword) → may_name k ≡ b → WordSays (reserved_if b k) (keyword k)
keyword_word true k may = (refl, may)
keyword_word false k may = tt

keyword_member : (b : Bool) (k : Keyword) → may_name k ≡ b → MemberSays (reserved_if b k) (keyword k)
keyword_member true k may = (refl, may)
keyword_member false k may = tt

pub word_says : (t : Symbol) → WordSays (word_of t) t
word_says (symbol.name text) = (refl, tt)
word_says (keyword k) = keyword_word (may_name k) k refl
word_says _ = tt

pub member_says : (t : Symbol) → MemberSays (member_of t) t
member_says (symbol.variable text) = (refl, tt)
member_says (symbol.name text) = (refl, tt)
member_says (keyword k) = keyword_member (may_name k) k refl
member_says _ = tt

pub word_back : (m : Member (Unit {0})) → IsWord m → word_of (member_symbol m) ≡ Some m
word_back (named spot text) h = refl
word_back (reserved spot k) h = ap (λ b. reserved_if b k) h
word_back (held spot text) h = absurd h

pub member_back : (m : Member (Unit {0})) → IsMemberName m → member_of (member_symbol m) ≡ Some m
member_back (named spot text) h = refl
member_back (reserved spot k) h = word_back (reserved spot k) h
member_back (held spot text) h = refl

-- ---- tests of one symbol

abbrev pub TestSays : Bool → Symbol → Symbol → Type 0
TestSays true t x = t ≡ x
TestSays false t x = Unit {0}

ampersand_punct : (p : Punct) → TestSays (is_ampersand (punct p)) (punct p) (punct mark.Ampersand)
ampersand_punct mark.Ampersand = refl
ampersand_punct _ = tt

pub ampersand_says : (t : Symbol) → TestSays (is_ampersand t) t (punct mark.Ampersand)
ampersand_says (punct p) = ampersand_punct p
ampersand_says _ = tt

paren_punct : (p : Punct) → TestSays (is_paren (punct p)) (punct p) (punct mark.LeftParen)
paren_punct mark.LeftParen = refl
paren_punct _ = tt

pub paren_says : (t : Symbol) → TestSays (is_paren t) t (punct mark.LeftParen)
paren_says (punct p) = paren_punct p
paren_says _ = tt

right_paren_punct : (p : Punct) → TestSays (is_right_paren (punct p)) (punct p) (punct mark.RightParen)
right_paren_punct mark.RightParen = refl
right_paren_punct _ = tt

pub right_paren_says : (t : Symbol) → TestSays (is_right_paren t) t (punct mark.RightParen)
right_paren_says (punct p) = right_paren_punct p
right_paren_says _ = tt

right_bracket_punct : (p : Punct) → TestSays (is_right_bracket (punct p)) (punct p) (punct mark.RightBracket)
right_bracket_punct mark.RightBracket = refl
right_bracket_punct _ = tt

pub right_bracket_says : (t : Symbol) → TestSays (is_right_bracket t) t (punct mark.RightBracket)
right_bracket_says (punct p) = right_bracket_punct p
right_bracket_says _ = tt

left_brace_punct : (p : Punct) → TestSays (is_left_brace (punct p)) (punct p) (punct mark.LeftBrace)
left_brace_punct mark.LeftBrace = refl
left_brace_punct _ = tt

pub left_brace_says : (t : Symbol) → TestSays (is_left_brace t) t (punct mark.LeftBrace)
left_brace_says (punct p) = left_brace_punct p
left_brace_says _ = tt

colon_punct : (p : Punct) → TestSays (is_colon (punct p)) (punct p) (punct mark.Colon)
colon_punct mark.Colon = refl
colon_punct _ = tt

pub colon_says : (t : Symbol) → TestSays (is_colon t) t (punct mark.Colon)
colon_says (punct p) = colon_punct p
colon_says _ = tt
