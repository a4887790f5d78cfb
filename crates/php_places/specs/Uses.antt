-- The uses of the program and those of the definition.
use Rattle.php_legality.specs.Expressions as meant
use Rattle.php_places.specs.declared.usage.Use.{Use}
use Rattle.php_places.specs.declared.usage.Use.TheVariants as usage

abbrev pub use_view : Use → meant.Use
use_view usage.Valued = meant.valued
use_view usage.Assigned = meant.assigned
use_view usage.Changed = meant.changed
use_view usage.Linked = meant.linked
use_view usage.Removed = meant.removed
use_view usage.Asked = meant.asked
