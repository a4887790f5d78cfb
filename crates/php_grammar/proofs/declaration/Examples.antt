-- Examples of declarations and scripts, each by computing: the spelling of a script is read back to that script, the
-- nesting counted at each symbol is that of the tree, and each note is about the right token.
use Rattle.std.proofs.Common.{◌≡◌, ℕ, zero, suc, ◌+◌, true, false, Option, Some, None, [], ◌∷◌, refl, pos}
use Rattle.php_token.specs.declared.kind.Keyword.TheVariants as word
use Rattle.php_token.specs.declared.kind.Punct.TheVariants as mark
use Rattle.php_ast.specs.declared.declaration.ModifierWord.{ModifierWord}
use Rattle.php_ast.specs.declared.declaration.ModifierWord.TheVariants as modifier
use Rattle.php_ast.specs.declared.declaration.ClassModifier.TheVariants as class_word
use Rattle.php_ast.specs.declared.declaration.Visibility.TheVariants as visibility
use Rattle.php_ast.specs.Symbol as symbol
use Rattle.php_ast.specs.Symbol.{Symbol, keyword, punct}
use Rattle.php_ast.specs.expression.Tree as tree
use Rattle.php_ast.specs.expression.Tree.{Tree, variable, int, leaf, static_member, held, none, and, plain, enclosed, parentheses}
use Rattle.php_grammar.specs.expression.Machine.{Form, Nothing, any_symbol}
use Rattle.php_ast.specs.expression.Placed.{Notes}
use Rattle.php_ast.specs.statement.Tree.{Sequence, empty, then_also, Name, Variable, Statement, blank, inline, expression, echo, if_only, jump, returning, Statements, no_statement, and_statement, no_elseif}
use Rattle.php_ast.specs.declaration.Tree.{Base, of_name, of_array, of_callable, Type_of, Param, Signature, Modifier, Rule, renames, prefers, Member, uses, uses_by, class_constants, method, properties, Item, of_statement, of_function, of_class, of_interface, of_trait, Script}
use Rattle.php_ast.specs.declaration.Spelling.{spell_signature, spell_member, spell_script}
use Rattle.php_ast.specs.declaration.Nesting.{signature_nests, member_nests, script_nests}
use Rattle.php_ast.specs.declaration.Placed.{noted_script}
use Rattle.php_grammar.specs.declaration.SignatureMachine.{read_signature}
use Rattle.php_grammar.specs.declaration.MemberMachine.{read_member}
use Rattle.php_grammar.specs.declaration.ScriptMachine.{read_script}
use Rattle.php_grammar.specs.TooDeep.{first_too_deep}
use Rattle.php_grammar.specs.declaration.Depth.{signature_depths_read, member_depths_read, script_depths_read}

-- ---- shorthand

abbrev v : ℕ → Form
v letter = leaf tt (variable (letter ∷ []))

abbrev sv : ℕ → Symbol
sv letter = symbol.variable (letter ∷ [])

abbrev line : ℕ → Statement Nothing
line letter = expression tt (v letter)

abbrev n : ℕ → Name Nothing
n letter = record { note = tt; text = letter ∷ [] }

abbrev sn : ℕ → Symbol
sn letter = symbol.name (letter ∷ [])

abbrev w : ℕ → tree.Member Nothing
w letter = tree.named tt (letter ∷ [])

abbrev one : Statement Nothing → Statements Nothing
one s = and_statement no_statement s

abbrev only : {A : Type 0} → A → Sequence A
only x = then_also empty x

abbrev pair : {A : Type 0} → A → A → Sequence A
pair x y = then_also (then_also empty x) y

abbrev type : ℕ → Type_of Nothing
type letter = record { is_nullable = false; base = of_name (n letter) }

abbrev nullable : Base Nothing → Type_of Nothing
nullable base = record { is_nullable = true; base = base }

abbrev param : Option (Type_of Nothing) → ℕ → Option Form → Param Nothing
param declared letter default =
    record { declared = declared; is_reference = false; is_variadic = false; name = n letter; default = default }

abbrev reference_param : Option (Type_of Nothing) → ℕ → Param Nothing
reference_param declared letter =
    record { declared = declared; is_reference = true; is_variadic = false; name = n letter; default = None }

abbrev rest_param : ℕ → Param Nothing
rest_param letter = record { declared = None; is_reference = false; is_variadic = true; name = n letter; default = None }

abbrev no_params : Signature Nothing
no_params = record { params = empty; result = None }

abbrev word_before : ModifierWord → Modifier Nothing
word_before x = record { note = tt; word = x }

abbrev property : ℕ → Option Form → Variable Nothing
property letter e = record { name = n letter; value = e }

-- The tree is read back, and its nesting is counted.
abbrev IsReadSignature : Signature Nothing → Type 0
IsReadSignature s =
    (read_signature (spell_signature s []) ≡ record { tree = s; missing = []; unread = [] })
    × (signature_depths_read (spell_signature s []) ≡ signature_nests s 0 [])

abbrev IsReadMember : Member Nothing → Type 0
IsReadMember m =
    (read_member (spell_member m []) ≡ record { tree = m; missing = []; unread = [] })
    × (member_depths_read (spell_member m []) ≡ member_nests m 0 [])

abbrev IsReadScript : Script Nothing → Type 0
IsReadScript items =
    (read_script (spell_script items) ≡ record { tree = items; missing = []; unread = [] })
    × (script_depths_read (spell_script items) ≡ script_nests items)

-- ---- signatures

-- `()`, `($a): ?array`, `(?callable $a = $b, A &$c): B` and `(array $a, ...$b)`
read_no_params : IsReadSignature no_params
read_no_params = (refl, refl)

read_param : IsReadSignature (record { params = only (param None 97 None); result = Some (nullable of_array) })
read_param = (refl, refl)

read_default :
    IsReadSignature (record { params = pair (param (Some (nullable of_callable)) 97 (Some (v 98))) (reference_param (Some (type 65)) 99); result = Some (type 66) })
read_default = (refl, refl)

read_variadic :
    IsReadSignature (record { params = pair (param (Some (record { is_nullable = false; base = of_array })) 97 None) (rest_param 98); result = None })
read_variadic = (refl, refl)

-- `&...$a`
read_variadic_reference :
    IsReadSignature (record { params = only (record { declared = None; is_reference = true; is_variadic = true; name = n 97; default = None }); result = None })
read_variadic_reference = (refl, refl)

-- `($a,)` stops at the parenthesis, since a parameter is due there
stops_at_last_comma : read_signature (punct mark.LeftParen ∷ sv 97 ∷ punct mark.Comma ∷ punct mark.RightParen ∷ [])
    ≡ record {
      tree = record { params = pair (param None 97 None) (record { declared = None; is_reference = false; is_variadic = false; name = record { note = tt; text = [] }; default = None }); result = None };
      missing = any_symbol ∷ punct mark.RightParen ∷ [];
      unread = punct mark.RightParen ∷ [];
    }
stops_at_last_comma = refl

-- ---- members

-- `use A, B;`, and `use A { m as k; as as public; A::m as private l; A::m as; A::m insteadof B, C; }`
read_uses : IsReadMember (uses tt (pair (n 65) (n 66)))
read_uses = (refl, refl)

abbrev all_rules : Sequence (Rule Nothing)
all_rules =
    then_also (then_also (then_also (pair (renames tt None (w 109) None (Some (w 107))) (renames tt None (tree.reserved tt word.As) (Some visibility.Public) None))
    (renames tt (Some (n 65)) (w 109) (Some visibility.Private) (Some (w 108)))) (renames tt (Some (n 65)) (w 109) None None))
    (prefers tt (n 65) (w 109) (pair (n 66) (n 67)))

read_rules : IsReadMember (uses_by tt (only (n 65)) all_rules)
read_rules = (refl, refl)

-- `const A = $a, class = $b;` and `public const A = $a;`
read_constants : IsReadMember (class_constants empty (pair (record { name = w 65; value = v 97 }) (record { name = tree.reserved tt word.Class; value = v 98 })))
read_constants = (refl, refl)

read_public_constant : IsReadMember (class_constants (only (word_before modifier.Public)) (only (record { name = w 65; value = v 97 })))
read_public_constant = (refl, refl)

-- `static private $a, $b = $c;` and `var $a;`
read_properties :
    IsReadMember (properties (pair (word_before modifier.Static) (word_before modifier.Private)) (pair (property 97 None) (property 98 (Some (v 99)))))
read_properties = (refl, refl)

read_var : IsReadMember (properties (only (word_before modifier.Var)) (only (property 97 None)))
read_var = (refl, refl)

-- `abstract function &list($a);` and `function m() { $a; }`
read_abstract_method : IsReadMember (method (record {
  modifiers = only (word_before modifier.Abstract);
  note = tt;
  is_reference = true;
  name = tree.reserved tt word.List;
  signature = record { params = only (param None 97 None); result = None };
  body = None;
}))
read_abstract_method = (refl, refl)

read_method : IsReadMember (method (record {
  modifiers = empty;
  note = tt;
  is_reference = false;
  name = w 109;
  signature = no_params;
  body = Some (and_statement (one (line 97)) (if_only tt (v 98) (line 99) no_elseif));
}))
read_method = (refl, refl)

-- `$a` alone begins no member
stops_at_property : read_member (sv 97 ∷ punct mark.Semicolon ∷ [])
    ≡ record {
      tree = uses tt (only (record { note = tt; text = [] }));
      missing = keyword word.Use ∷ symbol.name [] ∷ punct mark.Semicolon ∷ [];
      unread = sv 97 ∷ punct mark.Semicolon ∷ [];
    }
stops_at_property = refl

-- ---- scripts

abbrev sample_function : Item Nothing
sample_function = of_function (record {
  note = tt;
  is_reference = true;
  name = n 102;
  signature = record { params = pair (reference_param (Some (nullable (of_name (n 65)))) 97) (rest_param 98); result = Some (record { is_nullable = false; base = of_array }) };
  body = one (jump tt returning (Some (v 97)));
})

-- `function &f(?A &$a, ...$b): array { return $a; }` and `function f() {}`
read_function : IsReadScript (only sample_function)
read_function = (refl, refl)

read_empty_function : IsReadScript (only (of_function (record { note = tt; is_reference = false; name = n 102; signature = no_params; body = no_statement })))
read_empty_function = (refl, refl)

-- `final class C extends P implements I, J { public $a; use T { T::m as protected k; } function m(); }`
abbrev sample_class : Item Nothing
sample_class = of_class (record {
  modifiers = only (record { note = tt; word = class_word.Final });
  note = tt;
  name = n 67;
  parent = Some (n 80);
  interfaces = pair (n 73) (n 74);
  members = then_also (pair (properties (only (word_before modifier.Public)) (only (property 97 None)))
      (uses_by tt (only (n 84)) (only (renames tt (Some (n 84)) (w 109) (Some visibility.Protected) (Some (w 107))))))
      (method (record { modifiers = empty; note = tt; is_reference = false; name = w 109; signature = no_params; body = None }));
})

read_class : IsReadScript (only sample_class)
read_class = (refl, refl)

-- `class C {}`, `class C implements I {}`, `abstract class C extends P {}`
read_plain_class :
    IsReadScript (only (of_class (record { modifiers = empty; note = tt; name = n 67; parent = None; interfaces = empty; members = empty })))
read_plain_class = (refl, refl)

read_implements :
    IsReadScript (only (of_class (record { modifiers = empty; note = tt; name = n 67; parent = None; interfaces = only (n 73); members = empty })))
read_implements = (refl, refl)

read_extends :
    IsReadScript (only (of_class (record {
      modifiers = only (record { note = tt; word = class_word.Abstract });
      note = tt;
      name = n 67;
      parent = Some (n 80);
      interfaces = empty;
      members = empty;
    })))
read_extends = (refl, refl)

-- `interface I extends J, K { const A = $a; function m(); }` and `trait T { var $a; }`
read_interface : IsReadScript (only (of_interface (record {
  note = tt;
  name = n 73;
  parents = pair (n 74) (n 75);
  members = pair (class_constants empty (only (record { name = w 65; value = v 97 })))
      (method (record { modifiers = empty; note = tt; is_reference = false; name = w 109; signature = no_params; body = None }));
})))
read_interface = (refl, refl)

read_trait : IsReadScript (only (of_trait (record { note = tt; name = n 84; members = only (properties (only (word_before modifier.Var)) (only (property 97 None))) })))
read_trait = (refl, refl)

-- Text, `echo $a;`, text, `if ($a) $b;`, a function, a class, `static::$a;`: the whole of a script
read_whole_script :
    IsReadScript (then_also (then_also (then_also (then_also (then_also (then_also (only (of_statement (inline tt (60 ∷ []))))
    (of_statement (echo tt (and none plain (v 97))))) (of_statement (inline tt (62 ∷ [])))) (of_statement (if_only tt (v 97) (line 98) no_elseif)))
    sample_function) sample_class) (of_statement (expression tt (static_member tt (held tt (97 ∷ []))))))
read_whole_script = (refl, refl)

-- no item at all
read_nothing : IsReadScript empty
read_nothing = (refl, refl)

-- a class behind an `if` ends it: `if ($a) class ..` stops, `if ($a); class C {}` doesn't
stops_at_class : read_script (keyword word.If ∷ punct mark.LeftParen ∷ sv 97 ∷ punct mark.RightParen ∷ keyword word.Class ∷ [])
    ≡ record { tree = only (of_statement (if_only tt (v 97) (blank tt) no_elseif)); missing = punct mark.Semicolon ∷ []; unread = keyword word.Class ∷ [] }
stops_at_class = refl

read_class_behind_if :
    IsReadScript (pair (of_statement (if_only tt (v 97) (blank tt) no_elseif))
    (of_class (record { modifiers = empty; note = tt; name = n 67; parent = None; interfaces = empty; members = empty })))
read_class_behind_if = (refl, refl)

-- `class C { function f() { $a` lacks `; } }`
lacks_all_ends :
    read_script (keyword word.Class ∷ sn 67 ∷ punct mark.LeftBrace ∷ keyword word.Function ∷ sn 102 ∷ punct mark.LeftParen ∷ punct mark.RightParen
    ∷ punct mark.LeftBrace ∷ sv 97 ∷ [])
    ≡ record {
      tree = only (of_class (record {
        modifiers = empty;
        note = tt;
        name = n 67;
        parent = None;
        interfaces = empty;
        members = only (method (record { modifiers = empty; note = tt; is_reference = false; name = w 102; signature = no_params; body = Some (one (line 97)) }));
      }));
      missing = punct mark.Semicolon ∷ punct mark.RightBrace ∷ punct mark.RightBrace ∷ [];
      unread = [];
    }
lacks_all_ends = refl

-- ---- nesting: each construct at its opening, first, last and closing token

-- `function f($a): A { $b; }`
nests_function :
    script_nests (only (of_function (record {
      note = tt {0};
      is_reference = false;
      name = n 102;
      signature = record { params = only (param None 97 None); result = Some (type 65) };
      body = one (line 98);
    })))
    ≡ 0 ∷ 0 ∷ 0 ∷ 1 ∷ 1 ∷ 0 ∷ 0 ∷ 0 ∷ 1 ∷ 1 ∷ 1 ∷ []
nests_function = refl

-- `class C { use T { m as k; } const A = $a; public $b; function m() { $c; } }`
nests_class :
    script_nests (only (of_class (record {
      modifiers = empty;
      note = tt {0};
      name = n 67;
      parent = None;
      interfaces = empty;
      members = then_also (then_also (pair (uses_by tt (only (n 84)) (only (renames tt None (w 109) None (Some (w 107)))))
          (class_constants empty (only (record { name = w 65; value = v 97 })))) (properties (only (word_before modifier.Public)) (only (property 98 None))))
          (method (record { modifiers = empty; note = tt; is_reference = false; name = w 109; signature = no_params; body = Some (one (line 99)) }));
    })))
    ≡ 0 ∷ 0 ∷ 0 ∷ 1 ∷ 1 ∷ 1 ∷ 2 ∷ 2 ∷ 2 ∷ 2 ∷ 2 ∷ 1 ∷ 1 ∷ 1 ∷ 1 ∷ 1 ∷ 1 ∷ 1 ∷ 1 ∷ 1 ∷ 1 ∷ 1 ∷ 2 ∷ 1 ∷ 2 ∷ 2 ∷ 2 ∷ 1 ∷ []
nests_class = refl

-- ---- the first token that is too deep

-- `1` in so many parentheses
abbrev grouped : ℕ → Form
grouped zero = leaf tt (int (pos 1))
grouped (suc k) = enclosed tt parentheses (grouped k)

abbrev echoed : ℕ → Script Nothing
echoed k = only (of_statement (echo tt (and none plain (grouped k))))

-- `echo` with the `1` in 128 parentheses is deep enough; in 129 the `1` is too deep, and is token 130
echoed_enough : first_too_deep 0 (script_depths_read (spell_script (echoed 128))) ≡ None
echoed_enough = refl

echoed_too_deep : first_too_deep 0 (script_depths_read (spell_script (echoed 129))) ≡ Some 130
echoed_too_deep = refl

-- ---- notes: with the number of each token as its note

abbrev numbers : Notes ℕ
numbers = record { token = λ at. at; keyword = λ at. at + 100 }

-- `function &f(?A &$a, ...$b): array { return $a; }`
noted_function : noted_script numbers (only sample_function)
    ≡ only (of_function (record {
      note = 0;
      is_reference = true;
      name = record { note = 2; text = 102 ∷ [] };
      signature = record {
        params = pair
            (record { declared = Some (record { is_nullable = true; base = of_name (record { note = 5; text = 65 ∷ [] }) }); is_reference = true; is_variadic = false; name = record { note = 7; text = 97 ∷ [] }; default = None })
            (record { declared = None; is_reference = false; is_variadic = true; name = record { note = 10; text = 98 ∷ [] }; default = None });
        result = Some (record { is_nullable = false; base = of_array });
      };
      body = and_statement no_statement (jump 15 returning (Some (leaf 16 (variable (97 ∷ [])))));
    }))
noted_function = refl

-- `final class C extends P implements I, J { public $a; use T { T::m as protected k; } function m(); }`
noted_class : noted_script numbers (only sample_class)
    ≡ only (of_class (record {
      modifiers = only (record { note = 0; word = class_word.Final });
      note = 1;
      name = record { note = 2; text = 67 ∷ [] };
      parent = Some (record { note = 4; text = 80 ∷ [] });
      interfaces = pair (record { note = 6; text = 73 ∷ [] }) (record { note = 8; text = 74 ∷ [] });
      members = then_also (pair
          (properties (only (record { note = 10; word = modifier.Public })) (only (record { name = record { note = 11; text = 97 ∷ [] }; value = None })))
          (uses_by 13 (only (record { note = 14; text = 84 ∷ [] }))
          (only (renames 16 (Some (record { note = 16; text = 84 ∷ [] })) (tree.named 18 (109 ∷ [])) (Some visibility.Protected) (Some (tree.named 21 (107 ∷ [])))))))
          (method (record {
            modifiers = empty;
            note = 24;
            is_reference = false;
            name = tree.named 25 (109 ∷ []);
            signature = record { params = empty; result = None };
            body = None;
          }));
    }))
noted_class = refl
