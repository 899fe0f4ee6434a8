-- Tables that are lent.
use Rattle.sp_canonical.specs.Tables.{NamedTable}
use Rattle.sp_canonical.specs.declared.tables.NamedTable as code

abbrev pub lent_table : code.NamedTable → NamedTable
lent_table t = record { name = t.name.now; table = t.table.now }
