-- What an expression is, as the program finds it.
use Rattle.std.specs.Prelude.{ℕ, Bool, true, false, ◌&&◌, ◌||◌, not, codes, bytes_eq, List}
use Rattle.php_ast.specs.declared.operator.ArrayForm.{ArrayForm}
use Rattle.php_ast.specs.declared.operator.ArrayForm.TheVariants as form
use Rattle.php_ast.specs.declared.expression.Item.{Item}
use Rattle.php_ast.specs.declared.expression.Item.TheVariants as item
use Rattle.php_ast.specs.declared.expression.Suffix.{Suffix}
use Rattle.php_ast.specs.declared.expression.Suffix.TheVariants as suffix
use Rattle.php_ast.specs.declared.expression.Member.{Member}
use Rattle.php_ast.specs.declared.expression.Member.TheVariants as member
use Rattle.php_ast.specs.expression.Tree.{Tree}
use Rattle.php_ast.specs.expression.View.{Note}
use Rattle.php_legality.specs.Expressions.{valued, assigned}
use Rattle.php_legality.specs.Places as meant
use Rattle.php_legality.specs.Rows as rows
use Rattle.php_places.specs.declared.usage.Use.{Use}
use Rattle.php_places.specs.declared.usage.Use.TheVariants as usage
use Rattle.php_places.specs.declared.list.Kinds.{Kinds}
use Rattle.php_places.specs.declared.list.Found.{Found}
use Rattle.php_places.specs.declared.shape.Shape.{Shape}

-- ---- items

abbrev no_kind : Kinds
no_kind = record { has_missing = false; has_keyed = false; has_unkeyed = false }

abbrev pub nothing : Found
nothing = record { has_item = false; has_reference = false; all = no_kind; trimmed = no_kind }

abbrev pub with_missing : Found → Found
with_missing f = record {
  has_item = f.has_item;
  has_reference = f.has_reference;
  all = record { has_missing = true; has_keyed = f.all.has_keyed; has_unkeyed = true };
  trimmed = f.all;
}

abbrev pub more_kinds : Kinds → Bool → Kinds
more_kinds k is_keyed = record { has_missing = k.has_missing; has_keyed = k.has_keyed || is_keyed; has_unkeyed = k.has_unkeyed || not is_keyed }

abbrev pub with_item : Found → Bool → Bool → Found
with_item f is_keyed is_reference = record {
  has_item = true;
  has_reference = f.has_reference || is_reference;
  all = more_kinds f.all is_keyed;
  trimmed = more_kinds f.all is_keyed;
}

abbrev pub look : {A : Type 0} → Item A → Found → Found
look item.Missing f = with_missing f
look (item.Value e) f = with_item f false false
look (item.Reference e) f = with_item f false true
look (item.Keyed k e) f = with_item f true false
look (item.KeyedReference k e) f = with_item f true true

abbrev pub is_bad_target : Found → Bool
is_bad_target f = not f.has_item || f.trimmed.has_keyed && f.trimmed.has_unkeyed || f.has_reference

-- ---- shapes

abbrev pub plain : Shape
plain = record { is_place = false; is_this = false; is_static = false; is_call = false; is_list = false; is_bad_target = false; is_bad_value = false }

abbrev pub place : Bool → Bool → Shape
place is_this is_static = record { is_place = true; is_this = is_this; is_static = is_static; is_call = false; is_list = false; is_bad_target = false; is_bad_value = false }

abbrev pub element : Bool → Shape
element is_place = record { is_place = is_place; is_this = false; is_static = false; is_call = false; is_list = false; is_bad_target = false; is_bad_value = false }

abbrev pub called : Shape
called = record { is_place = false; is_this = false; is_static = false; is_call = true; is_list = false; is_bad_target = false; is_bad_value = false }

abbrev pub variable : List ℕ → Shape
variable text = place (bytes_eq text (codes "this")) false

abbrev pub static_member : Member → Shape
static_member (member.Word w) = plain
static_member (member.Variable n) = place false true

abbrev pub listed : Bool → Bool → Bool → Shape
listed is_list is_bad_target is_bad_value =
    record { is_place = false; is_this = false; is_static = false; is_call = false; is_list = is_list; is_bad_target = is_bad_target; is_bad_value = is_bad_value }

abbrev pub array : ArrayForm → Found → Shape
array form.Brackets f = listed true (is_bad_target f) f.trimmed.has_missing
array form.Array f = listed false f.trimmed.has_missing f.trimmed.has_missing
array form.List f = listed true (is_bad_target f) true

abbrev pub after : {A : Type 0} → Suffix A → Shape → Shape
after suffix.Append s = element s.is_place
after (suffix.Index e) s = element s.is_place
after (suffix.Property n) s = place false false
after (suffix.Member m) s = static_member m
after (suffix.Call arguments) s = called

-- by the definitions
abbrev pub shape_of : Tree Note → Shape
shape_of e = record {
  is_place = meant.is_place e;
  is_this = meant.is_this e;
  is_static = meant.is_static e;
  is_call = meant.is_call e;
  is_list = meant.is_list e;
  is_bad_target = rows.is_bad_list assigned e;
  is_bad_value = rows.is_bad_list valued e;
}

-- ---- what may be done with a shape

abbrev pub is_written : Shape → Bool
is_written s = s.is_place && not s.is_this

abbrev pub fits : Use → Shape → Bool
fits usage.Valued s = true
fits usage.Assigned s = is_written s || s.is_list
fits usage.Changed s = is_written s
fits usage.Linked s = is_written s || s.is_call
fits usage.Removed s = is_written s && not s.is_static
fits usage.Asked s = s.is_place

abbrev pub is_bad_list : Use → Shape → Bool
is_bad_list usage.Assigned s = s.is_bad_target
is_bad_list _ s = s.is_bad_value
