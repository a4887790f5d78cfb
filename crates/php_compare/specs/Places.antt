-- What stands at two places of a memory, compared.
use Rattle.std.specs.Prelude.{Option, Some, None}
use Rattle.php_memdef.specs.declared.place.Place.{Place}
use Rattle.php_memdef.specs.Contents.{Content, null, Mem}
use Rattle.php_memdef.specs.Views.{found}
use Rattle.php_compare.specs.Outcomes.{Compared, Identified}
use Rattle.php_compare.specs.Ordering.{order_in}
use Rattle.php_compare.specs.Identity.{same_in}

-- what is missing counts as null
abbrev pub or_null : Option Content → Content
or_null None = null
or_null (Some c) = c

abbrev pub content_there : Mem → Place → Content
content_there m p = or_null (found m p)

abbrev pub order_at : Mem → Place → Place → Compared
order_at m p q = order_in m (content_there m p) (content_there m q)

abbrev pub same_at : Mem → Place → Place → Identified
same_at m p q = same_in m (content_there m p) (content_there m q)
