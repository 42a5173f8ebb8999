-- What holds of the tables of a schema, and of a schema with one table more.
use Rattle.std.proofs.Common.{◌+◌, arith, ◌≤◌, ◌≡◌, ℕ, zero, suc, Bool, true, false, List, [], ◌∷◌, ◌++◌, length, Option, None, Some, refl, sym, ◌∙◌, ap, subst, append_assoc}
use Rattle.std.specs.Prelude.{slice_get, nat_le}
use Rattle.std.specs.Option.{option_or}
use Rattle.std.specs.List.{AllByRecursion}
use Rattle.std.proofs.lemmas.Bool.{ltb-false, leb-false, not-false}
use Rattle.std.proofs.lemmas.List.{append-nil, length-append}
use Rattle.row_types.specs.declared.definition.TableDef.{TableDef}
use Rattle.row_types.specs.declared.fault.SchemaFault.{SchemaFault}
use Rattle.row_types.specs.declared.fault.SchemaFault.TheVariants.{TableExists, Tables}
use Rattle.row_types.specs.Slot.{slot_len}
use Rattle.row_types.specs.Schema.{has_table, refused_if, refusal, AreAccepted, IsNamed, IsSchema, IsTable}

pub neither : {A : Type 0} (o p : Option A) → option_or o p ≡ None → (o ≡ None) × (p ≡ None)
neither None p e = (refl, e)
neither (Some x) p e = absurd cc

not_refused : (test : Bool) (fault : SchemaFault) → refused_if test fault ≡ None → test ≡ false
not_refused true fault e = absurd cc
not_refused false fault e = refl

-- a definition that isn't refused keeps the rules
pub table_of_accepted : (tables : List TableDef) (def : TableDef) → refusal tables def ≡ None → IsTable def
table_of_accepted tables def none =
    let a = (neither _ _ none).1 in
    let b = (neither _ _ a).1 in
    let c = neither _ _ b in
    let d = (neither _ _ c.1).1 in
    let e = neither _ _ d in
    record {
      few = ltb-false 32 (length def.columns) (not_refused _ _ c.0);
      narrow = ltb-false 4096 (slot_len def.columns) (not_refused _ _ e.1);
      key = not-false _ (not_refused _ _ e.0);
    }

accepted_at : (before tables : List TableDef) (n : ℕ) (def : TableDef) → AreAccepted before tables → slice_get tables n ≡ Some def → (others : List TableDef) × (refusal others def ≡ None)
accepted_at before [] n def all at = absurd cc
accepted_at before (d ∷ tables) zero def all at = (let same : d ≡ def = cc in (before, subst (λ (x : TableDef). refusal before x ≡ None) same all.0))
accepted_at before (d ∷ tables) (suc n) def all at = accepted_at (before ++ d ∷ []) tables n def all.1 at

pub table_of_schema : (tables : List TableDef) (n : ℕ) (def : TableDef) → IsSchema tables → slice_get tables n ≡ Some def → IsTable def
table_of_schema tables n def schema at = let found = accepted_at [] tables n def schema.accepted at in table_of_accepted found.0 def found.1

named_push : (tables : List TableDef) (def : TableDef) → AllByRecursion IsNamed tables → IsNamed def → AllByRecursion IsNamed (tables ++ def ∷ [])
named_push [] def all one = (one, tt)
named_push (d ∷ tables) def all one = (all.0, named_push tables def all.1 one)

accepted_push : (before tables : List TableDef) (def : TableDef) → AreAccepted before tables → refusal (before ++ tables) def ≡ None → AreAccepted before (tables ++ def ∷ [])
accepted_push before [] def all one = (ap (λ (ts : List TableDef). refusal ts def) (sym (append-nil before)) ∙ one, tt)
accepted_push before (d ∷ tables) def all one =
    (all.0, accepted_push (before ++ d ∷ []) tables def all.1 (ap (λ (ts : List TableDef). refusal ts def) (append_assoc before (d ∷ []) tables) ∙ one))

-- a schema stays one with a table that isn't refused
pub schema_push : (tables : List TableDef) (def : TableDef) → IsSchema tables → IsNamed def → refusal tables def ≡ None → IsSchema (tables ++ def ∷ [])
schema_push tables def schema named none = record { named = named_push tables def schema.named named; accepted = accepted_push [] tables def schema.accepted none }

count_of : (before tables : List TableDef) → AreAccepted before tables → length before ≤ 16 → length before + length tables ≤ 16
count_of before [] all le = omega arith
count_of before (d ∷ tables) all le =
    let later = neither (refused_if (has_table before d.name) TableExists) _ all.0 in
    let b = neither (refused_if (nat_le 16 (length before)) (Tables 16)) _ later.1 in
    let few : nat_le 16 (length before) ≡ false = not_refused (nat_le 16 (length before)) (Tables 16) b.0 in
    let one = length-append before (d ∷ []) in
    let rest = count_of (before ++ d ∷ []) tables all.1 (omega (arith, one, leb-false 16 (length before) few)) in
    omega (arith, one, rest)

-- a schema has at most 16 tables
pub table_count : (tables : List TableDef) → IsSchema tables → length tables ≤ 16
table_count tables schema = omega (arith, count_of [] tables schema.accepted (omega arith))
