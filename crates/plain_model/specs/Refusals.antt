-- The refusals that faults of the layers below are.
use Rattle.std.specs.Prelude.{Option, None, Some}
use Rattle.row_types.specs.declared.fault.SchemaFault.{SchemaFault}
use Rattle.row_types.specs.declared.fault.SchemaFault.TheVariants as schema
use Rattle.sql_check.specs.declared.fault.CheckFault.{CheckFault}
use Rattle.sql_check.specs.declared.fault.CheckFault.TheVariants as check
use Rattle.plain_model.specs.declared.reply.Refusal.{Refusal}
use Rattle.plain_model.specs.declared.reply.Refusal.TheVariants.{NoTable, NoColumn, Kind, Order, KeyFixed}
use Rattle.plain_model.specs.declared.reply.Refusal.TheVariants.{Twice, Count, Length, TableExists, Tables}
use Rattle.plain_model.specs.declared.reply.Refusal.TheVariants.{Columns, SameName, NoKey, TooWide}

-- why a statement doesn't fit the tables; that memory ran out is no refusal
abbrev pub refusal_of_check : CheckFault → Option Refusal
refusal_of_check check.NoTable = Some NoTable
refusal_of_check check.NoColumn = Some NoColumn
refusal_of_check check.Kind = Some Kind
refusal_of_check check.Order = Some Order
refusal_of_check check.KeyFixed = Some KeyFixed
refusal_of_check check.Twice = Some Twice
refusal_of_check (check.Count given wanted) = Some (Count given wanted)
refusal_of_check (check.Length given limit) = Some (Length given limit)
refusal_of_check check.OutOfMemory = None

-- why a table isn't added; that memory ran out is no refusal
abbrev pub refusal_of_schema : SchemaFault → Option Refusal
refusal_of_schema schema.TableExists = Some TableExists
refusal_of_schema (schema.Tables limit) = Some (Tables limit)
refusal_of_schema (schema.Columns count) = Some (Columns count)
refusal_of_schema (schema.SameName place) = Some (SameName place)
refusal_of_schema schema.NoKey = Some NoKey
refusal_of_schema (schema.TooWide bytes) = Some (TooWide bytes)
refusal_of_schema schema.OutOfMemory = None
