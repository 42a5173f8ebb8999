-- What a statement means is never that something is used up.
use Rattle.std.proofs.Common.{◌≡◌, ◌<◌, ℕ, add-one, drop-cons, get_or, drop, if◌then◌else◌, ◌+◌, Bool, true, false, List, [], ◌∷◌, length, map, Option, None, Some, Result, Ok, Err, IfOk, refl, ap, sym, ◌∙◌, true≢false}
use Rattle.std.specs.Prelude.{option_and_then}
use Rattle.row_types.specs.Block.{Placed}
use Rattle.row_types.specs.declared.definition.Column.{Column}
use Rattle.row_types.specs.declared.definition.TableDef.{TableDef}
use Rattle.row_types.specs.declared.row.Value.{Value}
use Rattle.row_types.specs.declared.row.Value.TheVariants as values
use Rattle.row_types.specs.Tables.{Tables, schema_of}
use Rattle.key_space.specs.Plays.{Rows}
use Rattle.sql_parse.specs.declared.statement.Statement.{Statement}
use Rattle.sql_parse.specs.declared.statement.Statement.TheVariants as statements
use Rattle.sql_parse.specs.declared.statement.Totals.{Totals}
use Rattle.sql_check.specs.declared.fault.CheckFault.{CheckFault}
use Rattle.sql_check.specs.declared.fault.CheckFault.TheVariants as faults
use Rattle.sql_check.specs.Misfits.{misfit}
use Rattle.sql_check.specs.Plans.{number_of}
use Rattle.plain_model.specs.declared.reply.Reply.{Reply}
use Rattle.plain_model.specs.declared.reply.Reply.TheVariants as reply
use Rattle.plain_model.specs.declared.reply.Refusal.{Refusal}
use Rattle.plain_model.specs.declared.reply.Refusal.TheVariants as refusals
use Rattle.plain_model.specs.Refusals.{refusal_of_check}
use Rattle.plain_model.specs.Meaning.{count_of, kept, duplicate, inserts_unless, total_of, totals_reply, is_out_of_range, updated, acts, table_at, unfit, means_unless, means}
use Rattle.plain_model.specs.Values.{fits_int}
use Rattle.std.specs.List.{list_all}
use Rattle.plain_model.specs.Blocks.{misplaced, IsPlain}

-- the refusal is that something is used up
abbrev pub is_lack : Refusal → Bool
is_lack (refusals.Syntax at) = false
is_lack refusals.InBlock = false
is_lack refusals.NoBlock = false
is_lack refusals.OnlyFirst = false
is_lack refusals.NoTable = false
is_lack refusals.NoColumn = false
is_lack refusals.Kind = false
is_lack refusals.Order = false
is_lack refusals.KeyFixed = false
is_lack refusals.Twice = false
is_lack (refusals.Count given wanted) = false
is_lack (refusals.Length given limit) = false
is_lack (refusals.Duplicate key) = false
is_lack refusals.Range = false
is_lack refusals.TableExists = false
is_lack (refusals.Tables limit) = false
is_lack (refusals.Columns count) = false
is_lack (refusals.SameName place) = false
is_lack refusals.NoKey = false
is_lack (refusals.TooWide bytes) = false
is_lack (refusals.Resource resource) = true
is_lack (refusals.Spent limit) = true

abbrev pub is_used : Reply → Bool
is_used reply.Done = false
is_used (reply.Many n) = false
is_used (reply.Rows rows) = false
is_used (reply.Opened n) = false
is_used (reply.Refused refusal) = is_lack refusal

abbrev pub some_lacks : Option Refusal → Bool
some_lacks None = false
some_lacks (Some refusal) = is_lack refusal

pub is_plain : (r : Reply) → is_used r ≡ false → IsPlain r
is_plain r e = ((λ resource is. true≢false (sym (ap is_used is) ∙ e)), (λ limit is. true≢false (sym (ap is_used is) ∙ e)))

misplaced_lacks : (is_inside : Bool) (statement : Statement) → some_lacks (misplaced is_inside statement) ≡ false
misplaced_lacks is_inside (statements.Create created) = refl
misplaced_lacks true statements.Begin = refl
misplaced_lacks true statements.Commit = refl
misplaced_lacks true statements.Rollback = refl
misplaced_lacks false statements.Begin = refl
misplaced_lacks false statements.Commit = refl
misplaced_lacks false statements.Rollback = refl
misplaced_lacks is_inside (statements.Insert s) = refl
misplaced_lacks is_inside (statements.Select s) = refl
misplaced_lacks is_inside (statements.Totals s) = refl
misplaced_lacks is_inside (statements.Update s) = refl
misplaced_lacks is_inside (statements.Delete s) = refl

-- a statement refused where it stands
pub misplaced_plain : (is_inside : Bool) (statement : Statement) (refusal : Refusal) → misplaced is_inside statement ≡ Some refusal → IsPlain (reply.Refused refusal)
misplaced_plain is_inside statement refusal e = is_plain (reply.Refused refusal) (sym (ap some_lacks e) ∙ misplaced_lacks is_inside statement)

fault_lacks : (fault : CheckFault) → some_lacks (refusal_of_check fault) ≡ false
fault_lacks faults.NoTable = refl
fault_lacks faults.NoColumn = refl
fault_lacks faults.Kind = refl
fault_lacks faults.Order = refl
fault_lacks faults.KeyFixed = refl
fault_lacks faults.Twice = refl
fault_lacks (faults.Count given wanted) = refl
fault_lacks (faults.Length given limit) = refl
fault_lacks faults.OutOfMemory = refl

unfit_lacks : (o : Option CheckFault) → some_lacks (option_and_then refusal_of_check o) ≡ false
unfit_lacks None = refl
unfit_lacks (Some fault) = fault_lacks fault

inserts_used : (o : Option (List Value)) (def : TableDef) (new rows : Rows) → is_used (inserts_unless o def new rows).0 ≡ false
inserts_used None def new rows = refl
inserts_used (Some row) def new rows = refl

totals_used : (b : Bool) (rows : Rows) → is_used (if b then reply.Rows rows else reply.Refused refusals.Range) ≡ false
totals_used true rows = refl
totals_used false rows = refl

updates_used : (b : Bool) (refused done : Reply × Rows) → is_used refused.0 ≡ false → is_used done.0 ≡ false → is_used (if◌then◌else◌ {A = Reply × Rows} b refused done).0 ≡ false
updates_used true refused done r d = r
updates_used false refused done r d = d

acts_used : (def : TableDef) (statement : Statement) (rows : Rows) → is_used (acts def statement rows).0 ≡ false
acts_used def (statements.Insert s) rows = inserts_used (duplicate def.keys rows s.rows) def s.rows rows
acts_used def (statements.Select s) rows = refl
acts_used def (statements.Totals s) rows =
    let numbers = map (total_of def.columns (kept def.columns s.conditions rows)) s.totals in
    totals_used (list_all fits_int numbers) (map values.Int numbers ∷ [])
acts_used def (statements.Update s) rows =
    let found = kept def.columns s.conditions rows in
    updates_used (is_out_of_range def.columns s.changes found) (reply.Refused refusals.Range, rows) (reply.Many (count_of found), map (updated def.columns s.changes s.conditions) rows) refl refl
acts_used def (statements.Delete s) rows = refl
acts_used def (statements.Create created) rows = refl
acts_used def statements.Begin rows = refl
acts_used def statements.Commit rows = refl
acts_used def statements.Rollback rows = refl

unless_used : (o : Option Refusal) (tables : Tables) (statement : Statement) → some_lacks o ≡ false → is_used (means_unless o tables statement).0 ≡ false
unless_used None tables statement e = let t = table_at tables (number_of (schema_of tables) statement) in acts_used t.def statement t.rows
unless_used (Some refusal) tables statement e = e

-- what a statement means
pub means_plain : (tables : Tables) (statement : Statement) → IsPlain (means tables statement).0
means_plain tables statement = is_plain (means tables statement).0 (unless_used (unfit tables statement) tables statement (unfit_lacks (misfit (schema_of tables) statement)))

-- the texts from one on are it and those behind it
pub texts_from : (texts : List Placed) (i : ℕ) (t : Placed) → i < length texts → t ≡ get_or texts i t → drop i texts ≡ t ∷ drop (i + 1) texts
texts_from texts i t inside is = rw (add-one, drop-cons texts i t, ← is) refl

-- what one result gives another
pub if_ok_gives : {A E : Type 0} (r : Result A E) (P Q : A → Type 0) → ((x : A) → P x → Q x) → IfOk r P → IfOk r Q
if_ok_gives (Ok x) P Q gives is = gives x is
if_ok_gives (Err e) P Q gives is = tt

-- totals, of which the columns and the rows after them are equal to the table's
pub acts_totals : (def : TableDef) (statement : Statement) {s : Totals} (rows : Rows) (columns : List Column) (answer : Reply) (after : Rows)
    → columns ≡ def.columns → statement ≡ statements.Totals s → answer ≡ totals_reply (map (total_of columns (kept columns s.conditions rows)) s.totals) → after ≡ rows
    → (answer, after) ≡ acts def statement rows
acts_totals def statement {s} rows columns answer after same is answered copied =
    ap (λ (r : Reply). (r, after)) (answered ∙ ap (λ (cs : List Column). totals_reply (map (total_of cs (kept cs s.conditions rows)) s.totals)) same)
    ∙ ap (λ (rs : Rows). (totals_reply (map (total_of def.columns (kept def.columns s.conditions rows)) s.totals), rs)) copied
    ∙ sym (ap (λ (st : Statement). acts def st rows) is)
