use Rattle.php_compare.proofs.Tables.{order_table, identity_table}
use Rattle.php_compare.proofs.laws.worked_tables.Goals as goal

pub returns-clause-orders : goal.returns-clause-orders
returns-clause-orders c = order_table

pub returns-clause-identities : goal.returns-clause-identities
returns-clause-identities c = identity_table
