-- What is read is the text of the schema that is read, and the text of a schema is read as this schema.
use Rattle.std.proofs.Common.{◌≡◌, ℕ, zero, suc, ◌*◌, ◌^◌, ◌<◌, ◌≤◌, Bool, true, false, cond, eqb, ltb, leb, List, [], ◌∷◌, ◌++◌, length, take, drop, Option, None, Some, refl, sym, ◌∙◌, ap, subst, append_assoc, arith}
use Rattle.std.specs.Prelude.{◌&&◌, is_none, slice_index}
use Rattle.std.specs.Str.{is_utf8}
use Rattle.std.specs.Int.{w16, to_le_bytes, from_le_bytes}
use Rattle.std.specs.List.{flat_map, AllByRecursion}
use Rattle.std.proofs.lemmas.Option.{none-some}
use Rattle.std.proofs.lemmas.Bool.{false≢true, ltb-false, le-ltb, leb-true, le-leb, eqb-true}
use Rattle.std.proofs.lemmas.Str.{IsUtf8-from_is_utf8, is_utf8-from_IsUtf8}
use Rattle.std.proofs.lemmas.Nat.{le_bytes_2, from_le_bytes-to_le_bytes_2}
use Rattle.std.proofs.lemmas.List.{take_at, drop_at, take-append-drop, length-append, length-take, append-nil, nil_from_length}
use Rattle.std.proofs.lemmas.List.Sums.{sum_by-cons}
use Rattle.row_types.specs.declared.definition.Kind.{Kind}
use Rattle.row_types.specs.declared.definition.Kind.TheVariants as kind
use Rattle.row_types.specs.declared.definition.Column.{Column}
use Rattle.row_types.specs.declared.definition.TableDef.{TableDef}
use Rattle.row_types.specs.Text.{IsName}
use Rattle.row_types.specs.Slot.{width, widths}
use Rattle.row_types.specs.Schema.{refusal, has_int_key, AreAccepted, IsNamed, IsSchema, IsTable}
use Rattle.row_types.specs.SchemaText.{name_text, kind_text, column_text, table_text, schema_text}
use Rattle.row_types.specs.SchemaReading.{◌>>=◌, byte_at, is_name, name_at, limit_at, kind_at, column_at, columns_from, table_at, tables_from, schema_at}
use Rattle.row_types.proofs.Bytes.{IsBytes, IsBytes-drop, IsBytes-take}
use Rattle.row_types.proofs.SchemaLaws.{table_of_accepted, table_count}

some_is : {A : Type 0} (x y : A) → ◌≡◌ {A = Option A} (Some x) (Some y) → x ≡ y
some_is x y e = cc

-- the value of a step that did not fail
bind_some : {A B : Type 0} (o : Option A) (f : A → Option B) (y : B) → (o >>= f) ≡ Some y → (x : A) × (o ≡ Some x) × (f x ≡ Some y)
bind_some (Some x) f y e = (x, refl, e)
bind_some None f y e = absurd (none-some y e)

-- a test that let the value through, or that stopped it
passed : {A : Type 0} (b : Bool) (x y : A) → cond b (Some x) None ≡ Some y → (b ≡ true) × (x ≡ y)
passed true x y e = (refl, some_is x y e)
passed false x y e = absurd (none-some y e)

unstopped : {A : Type 0} (b : Bool) (o : Option A) (y : A) → cond b None o ≡ Some y → (b ≡ false) × (o ≡ Some y)
unstopped true o y e = absurd (none-some y e)
unstopped false o y e = (refl, e)

both_true : (b c : Bool) → (b && c) ≡ true → (b ≡ true) × (c ≡ true)
both_true true c e = (refl, e)
both_true false c e = absurd (false≢true e)

-- what a reader took from the front
record Takes (bytes text rest : List ℕ) : Type 0 where
  parts : bytes ≡ text ++ rest
  rest_fits : IsBytes rest

takes_then : (a x b y c : List ℕ) → Takes a x b → Takes b y c → Takes a (x ++ y) c
takes_then a x b y c p q = record { parts = p.parts ∙ ap (λ (t : List ℕ). x ++ t) q.parts ∙ sym (append_assoc x y c); rest_fits = q.rest_fits }

byte_takes : (bytes : List ℕ) (x : ℕ × List ℕ) → IsBytes bytes → byte_at bytes ≡ Some x → Takes bytes (x.0 ∷ []) x.1
byte_takes [] x fits e = absurd (none-some x e)
byte_takes (b ∷ bytes) x fits e = subst (λ (y : ℕ × List ℕ). Takes (b ∷ bytes) (y.0 ∷ []) y.1) (some_is (b, bytes) x e) (record { parts = refl; rest_fits = λ i. fits (suc i) })

-- ---- names

name_takes : (bytes : List ℕ) (x : List ℕ × List ℕ) → IsBytes bytes → name_at bytes ≡ Some x → Takes bytes (name_text x.0) x.1 × IsName x.0
unfolding name_at
name_takes bytes x fits e =
    let a = bind_some (byte_at bytes) (λ n. cond (ltb (length n.1) n.0) None (cond (is_name (take n.0 n.1)) (Some (take n.0 n.1, drop n.0 n.1)) None)) x e in
    let n = a.0 in
    let first = byte_takes bytes n fits a.1 in
    let b = unstopped (ltb (length n.1) n.0) (cond (is_name (take n.0 n.1)) (Some (take n.0 n.1, drop n.0 n.1)) None) x a.2 in
    let g = passed (is_name (take n.0 n.1)) (take n.0 n.1, drop n.0 n.1) x b.1 in
    let long : n.0 ≤ length n.1 = ltb-false _ _ b.0 in
    let len : length (take n.0 n.1) ≡ n.0 = omega (arith, length-take n.0 n.1) in
    let text = both_true (is_utf8 (take n.0 n.1)) (leb 1 (length (take n.0 n.1)) && leb (length (take n.0 n.1)) 32) g.0 in
    let sizes = both_true (leb 1 (length (take n.0 n.1))) (leb (length (take n.0 n.1)) 32) text.1 in
    let name : IsName (take n.0 n.1) = record { len = (leb-true _ _ sizes.0, leb-true _ _ sizes.1); utf8 = IsUtf8-from_is_utf8 (take n.0 n.1) text.0 } in
    let second : Takes n.1 (take n.0 n.1) (drop n.0 n.1) = record { parts = sym (take-append-drop n.0 n.1); rest_fits = IsBytes-drop n.0 n.1 first.rest_fits } in
    let both = takes_then bytes (n.0 ∷ []) n.1 (take n.0 n.1) (drop n.0 n.1) first second in
    let whole : Takes bytes (name_text (take n.0 n.1)) (drop n.0 n.1) = subst (λ (k : ℕ). Takes bytes (k ∷ take n.0 n.1) (drop n.0 n.1)) (sym len) both in
    subst (λ (p : List ℕ × List ℕ). Takes bytes (name_text p.0) p.1 × IsName p.0) g.1 (whole, name)

name_again : (name rest : List ℕ) → IsName name → name_at (name_text name ++ rest) ≡ Some (name, rest)
unfolding name_at
name_again name rest is =
    let long : ltb (length (name ++ rest)) (length name) ≡ false = le-ltb _ _ (omega (arith, length-append name rest)) in
    let text = is_utf8-from_IsUtf8 name is.utf8 in
    let low : leb 1 (length name) ≡ true = le-leb _ _ is.len.0 in
    let high : leb (length name) 32 ≡ true = le-leb _ _ is.len.1 in
    rw (long, take_at name rest (length name) refl, drop_at name rest (length name) refl, text, low, high) refl

-- ---- kinds

limit_takes : (bytes : List ℕ) (x : Kind × List ℕ) → IsBytes bytes → limit_at bytes ≡ Some x → Takes (2 ∷ bytes) (kind_text x.0) x.1
limit_takes bytes x fits e =
    let limit = from_le_bytes w16 (take 2 bytes) in
    let b = unstopped (ltb (length bytes) 2) (Some (kind.Text limit, drop 2 bytes)) x e in
    let long : 2 ≤ length bytes = ltb-false _ _ b.0 in
    let front : to_le_bytes w16 limit ≡ take 2 bytes = le_bytes_2 (take 2 bytes) limit (omega (arith, length-take 2 bytes)) (IsBytes-take 2 bytes fits) refl in
    let whole : Takes (2 ∷ bytes) (kind_text (kind.Text limit)) (drop 2 bytes) = record {
      parts = ap (λ (t : List ℕ). 2 ∷ t) (sym (take-append-drop 2 bytes) ∙ ap (λ (t : List ℕ). t ++ drop 2 bytes) (sym front));
      rest_fits = IsBytes-drop 2 bytes fits;
    } in
    subst (λ (p : Kind × List ℕ). Takes (2 ∷ bytes) (kind_text p.0) p.1) (some_is (kind.Text limit, drop 2 bytes) x b.1) whole

kind_takes_by : (tag : ℕ) (bytes : List ℕ) (x : Kind × List ℕ) → IsBytes (tag ∷ bytes) → (b c : Bool) → eqb tag 1 ≡ b → eqb tag 2 ≡ c → cond b (Some (kind.Int, bytes)) (cond c (limit_at bytes) None) ≡ Some x → Takes (tag ∷ bytes) (kind_text x.0) x.1
kind_takes_by tag bytes x fits true c is-int is-text e =
    let whole : Takes (tag ∷ bytes) (kind_text kind.Int) bytes = record { parts = ap (λ (t : ℕ). t ∷ bytes) (eqb-true _ _ is-int); rest_fits = λ i. fits (suc i) } in
    subst (λ (p : Kind × List ℕ). Takes (tag ∷ bytes) (kind_text p.0) p.1) (some_is (kind.Int, bytes) x e) whole
kind_takes_by tag bytes x fits false true is-int is-text e =
    subst (λ (t : ℕ). Takes (t ∷ bytes) (kind_text x.0) x.1) (sym (eqb-true _ _ is-text)) (limit_takes bytes x (λ i. fits (suc i)) e)
kind_takes_by tag bytes x fits false false is-int is-text e = absurd (none-some x e)

kind_takes : (bytes : List ℕ) (x : Kind × List ℕ) → IsBytes bytes → kind_at bytes ≡ Some x → Takes bytes (kind_text x.0) x.1
unfolding kind_at
kind_takes [] x fits e = absurd (none-some x e)
kind_takes (tag ∷ bytes) x fits e = kind_takes_by tag bytes x fits (eqb tag 1) (eqb tag 2) refl refl e

kind_again : (k : Kind) (rest : List ℕ) → width k < 2 ^ 16 → kind_at (kind_text k ++ rest) ≡ Some (k, rest)
unfolding kind_at
kind_again kind.Int rest narrow = refl
kind_again (kind.Text limit) rest narrow =
    let back : from_le_bytes w16 (to_le_bytes w16 limit) ≡ limit = from_le_bytes-to_le_bytes_2 limit (omega arith) in
    let long : ltb (length (to_le_bytes w16 limit ++ rest)) 2 ≡ false = le-ltb _ _ (omega (arith, length-append (to_le_bytes w16 limit) rest)) in
    let read : limit_at (to_le_bytes w16 limit ++ rest) ≡ Some (kind.Text (from_le_bytes w16 (to_le_bytes w16 limit)), rest) = rw long refl in
    read ∙ ap (λ (n : ℕ). Some (kind.Text n, rest)) back

-- ---- columns

column_takes : (bytes : List ℕ) (x : Column × List ℕ) → IsBytes bytes → column_at bytes ≡ Some x → Takes bytes (column_text x.0) x.1 × IsName x.0.name
unfolding column_at
column_takes bytes x fits e =
    let a = bind_some (name_at bytes) (λ name. kind_at name.1 >>= λ k. Some (record { name = name.0; kind = k.0 }, k.1)) x e in
    let b = bind_some (kind_at a.0.1) (λ k. Some (record { name = a.0.0; kind = k.0 }, k.1)) x a.2 in
    let first = name_takes bytes a.0 fits a.1 in
    let second = kind_takes a.0.1 b.0 first.0.rest_fits b.1 in
    let made : Column × List ℕ = (record { name = a.0.0; kind = b.0.0 }, b.0.1) in
    let both = takes_then bytes (name_text a.0.0) a.0.1 (kind_text b.0.0) b.0.1 first.0 second in
    subst (λ (y : Column × List ℕ). Takes bytes (column_text y.0) y.1 × IsName y.0.name) (some_is made x b.2) (both, first.1)

column_again : (c : Column) (rest : List ℕ) → IsName c.name → width c.kind < 2 ^ 16 → column_at (column_text c ++ rest) ≡ Some (c, rest)
unfolding column_at
column_again c rest is narrow =
    let regrouped : column_text c ++ rest ≡ name_text c.name ++ (kind_text c.kind ++ rest) = append_assoc (name_text c.name) (kind_text c.kind) rest in
    ap column_at regrouped ∙ rw (name_again c.name (kind_text c.kind ++ rest) is, kind_again c.kind rest narrow) refl

columns_take : (n : ℕ) (bytes : List ℕ) (x : List Column × List ℕ) → IsBytes bytes → columns_from n bytes ≡ Some x
    → Takes bytes (flat_map column_text x.0) x.1 × (length x.0 ≡ n) × AllByRecursion (λ c. IsName c.name) x.0
unfolding columns_from
columns_take zero bytes x fits e =
    subst (λ (y : List Column × List ℕ). Takes bytes (flat_map column_text y.0) y.1 × (length y.0 ≡ 0) × AllByRecursion (λ c. IsName c.name) y.0) (some_is ([], bytes) x e) (record { parts = refl; rest_fits = fits }, refl, tt)
columns_take (suc n) bytes x fits e =
    let a = bind_some (column_at bytes) (λ first. columns_from n first.1 >>= λ others. Some (first.0 ∷ others.0, others.1)) x e in
    let b = bind_some (columns_from n a.0.1) (λ others. Some (a.0.0 ∷ others.0, others.1)) x a.2 in
    let first = column_takes bytes a.0 fits a.1 in
    let second = columns_take n a.0.1 b.0 first.0.rest_fits b.1 in
    let both = takes_then bytes (column_text a.0.0) a.0.1 (flat_map column_text b.0.0) b.0.1 first.0 second.0 in
    let made : List Column × List ℕ = (a.0.0 ∷ b.0.0, b.0.1) in
    subst (λ (y : List Column × List ℕ). Takes bytes (flat_map column_text y.0) y.1 × (length y.0 ≡ suc n) × AllByRecursion (λ c. IsName c.name) y.0) (some_is made x b.2) (both, ap suc second.1, (first.1, second.2))

columns_again : (columns : List Column) (rest : List ℕ) → AllByRecursion (λ c. IsName c.name) columns → widths columns < 2 ^ 16 → columns_from (length columns) (flat_map column_text columns ++ rest) ≡ Some (columns, rest)
unfolding columns_from
columns_again [] rest named narrow = refl
columns_again (c ∷ columns) rest named narrow =
    let sum = sum_by-cons (λ (x : Column). width x.kind) c columns in
    let regrouped : flat_map column_text (c ∷ columns) ++ rest ≡ column_text c ++ (flat_map column_text columns ++ rest) = append_assoc (column_text c) (flat_map column_text columns) rest in
    ap (columns_from (suc (length columns))) regrouped ∙ rw (column_again c (flat_map column_text columns ++ rest) named.0 (omega (arith, sum)), columns_again columns rest named.1 (omega (arith, sum))) refl

-- ---- tables

table_takes : (bytes : List ℕ) (x : TableDef × List ℕ) → IsBytes bytes → table_at bytes ≡ Some x → Takes bytes (table_text x.0) x.1 × IsNamed x.0
unfolding table_at
table_takes bytes x fits e =
    let a = bind_some (name_at bytes) (λ name. byte_at name.1 >>= λ count. byte_at count.1 >>= λ key. columns_from count.0 key.1 >>= λ columns. Some (record { name = name.0; columns = columns.0; keys = key.0 ∷ [] }, columns.1)) x e in
    let b = bind_some (byte_at a.0.1) (λ count. byte_at count.1 >>= λ key. columns_from count.0 key.1 >>= λ columns. Some (record { name = a.0.0; columns = columns.0; keys = key.0 ∷ [] }, columns.1)) x a.2 in
    let d = bind_some (byte_at b.0.1) (λ key. columns_from b.0.0 key.1 >>= λ columns. Some (record { name = a.0.0; columns = columns.0; keys = key.0 ∷ [] }, columns.1)) x b.2 in
    let f = bind_some (columns_from b.0.0 d.0.1) (λ columns. Some (record { name = a.0.0; columns = columns.0; keys = d.0.0 ∷ [] }, columns.1)) x d.2 in
    let t0 = name_takes bytes a.0 fits a.1 in
    let t1 = byte_takes a.0.1 b.0 t0.0.rest_fits b.1 in
    let t2 = byte_takes b.0.1 d.0 t1.rest_fits d.1 in
    let t3 = columns_take b.0.0 d.0.1 f.0 t2.rest_fits f.1 in
    let e23 = takes_then b.0.1 (d.0.0 ∷ []) d.0.1 (flat_map column_text f.0.0) f.0.1 t2 t3.0 in
    let e13 = takes_then a.0.1 (b.0.0 ∷ []) b.0.1 (d.0.0 ∷ flat_map column_text f.0.0) f.0.1 t1 e23 in
    let counted : Takes a.0.1 (length f.0.0 ∷ d.0.0 ∷ flat_map column_text f.0.0) f.0.1 = subst (λ (n : ℕ). Takes a.0.1 (n ∷ d.0.0 ∷ flat_map column_text f.0.0) f.0.1) (sym t3.1) e13 in
    let e03 = takes_then bytes (name_text a.0.0) a.0.1 (length f.0.0 ∷ d.0.0 ∷ flat_map column_text f.0.0) f.0.1 t0.0 counted in
    let made : TableDef × List ℕ = (record { name = a.0.0; columns = f.0.0; keys = d.0.0 ∷ [] }, f.0.1) in
    subst (λ (y : TableDef × List ℕ). Takes bytes (table_text y.0) y.1 × IsNamed y.0) (some_is made x f.2) (e03, (t0.1, t3.2))

one_key : (columns : List Column) (keys : List ℕ) → has_int_key columns keys ≡ true → keys ≡ slice_index keys 0 ∷ []
one_key columns [] e = absurd (false≢true e)
one_key columns (k ∷ []) e = refl
one_key columns (k ∷ l ∷ keys) e = absurd (false≢true e)

table_again : (t : TableDef) (rest : List ℕ) → IsNamed t → IsTable t → table_at (table_text t ++ rest) ≡ Some (t, rest)
unfolding table_at
table_again t rest named is =
    let behind = flat_map column_text t.columns ++ rest in
    let key = slice_index t.keys 0 in
    let regrouped : table_text t ++ rest ≡ name_text t.name ++ (length t.columns ∷ key ∷ behind) = append_assoc (name_text t.name) (length t.columns ∷ key ∷ flat_map column_text t.columns) rest in
    let same : ◌≡◌ {A = TableDef} (record { name = t.name; columns = t.columns; keys = key ∷ [] }) t = ap (λ (ks : List ℕ). record t { keys = ks }) (sym (one_key t.columns t.keys is.key)) in
    ap table_at regrouped ∙ rw (name_again t.name (length t.columns ∷ key ∷ behind) named.0, columns_again t.columns rest named.1 (omega (arith, is.narrow))) (ap (λ (d : TableDef). Some (d, rest)) same)

-- what was read of tables: those before, and then those that the text says
record TakesTables (n : ℕ) (before : List TableDef) (bytes : List ℕ) (x : List TableDef × List ℕ) : Type 0 where
  more : List TableDef
  tables : x.0 ≡ before ++ more
  count : length more ≡ n
  text : Takes bytes (flat_map table_text more) x.1
  accepted : AreAccepted before more
  named : AllByRecursion IsNamed more

none_of : {A : Type 0} (o : Option A) → is_none o ≡ true → o ≡ None
none_of None e = refl
none_of (Some x) e = absurd (false≢true e)

let_through : {A : Type 0} (b : Bool) (o : Option A) (y : A) → cond b o None ≡ Some y → (b ≡ true) × (o ≡ Some y)
let_through true o y e = (refl, e)
let_through false o y e = absurd (none-some y e)

tables_take : (n : ℕ) (before : List TableDef) (bytes : List ℕ) (x : List TableDef × List ℕ) → IsBytes bytes → tables_from n before bytes ≡ Some x → TakesTables n before bytes x
unfolding tables_from
tables_take zero before bytes x fits e =
    subst (TakesTables zero before bytes) (some_is (before, bytes) x e) (record {
      more = [];
      tables = sym (append-nil before);
      count = refl;
      text = record { parts = refl; rest_fits = fits };
      accepted = tt;
      named = tt;
    })
tables_take (suc n) before bytes x fits e =
    let a = bind_some (table_at bytes) (λ next. cond (is_none (refusal before next.0)) (tables_from n (before ++ next.0 ∷ []) next.1) None) x e in
    let g = let_through (is_none (refusal before a.0.0)) (tables_from n (before ++ a.0.0 ∷ []) a.0.1) x a.2 in
    let first = table_takes bytes a.0 fits a.1 in
    let rest = tables_take n (before ++ a.0.0 ∷ []) a.0.1 x first.0.rest_fits g.1 in
    record {
      more = a.0.0 ∷ rest.more;
      tables = rest.tables ∙ append_assoc before (a.0.0 ∷ []) rest.more;
      count = ap suc rest.count;
      text = takes_then bytes (table_text a.0.0) a.0.1 (flat_map table_text rest.more) x.1 first.0 rest.text;
      accepted = (none_of (refusal before a.0.0) g.0, rest.accepted);
      named = (first.1, rest.named);
    }

tables_again : (before more : List TableDef) (rest : List ℕ) → AreAccepted before more → AllByRecursion IsNamed more → tables_from (length more) before (flat_map table_text more ++ rest) ≡ Some (before ++ more, rest)
unfolding tables_from
tables_again before [] rest accepted named = ap (λ (ts : List TableDef). Some (ts, rest)) (sym (append-nil before))
tables_again before (t ∷ more) rest accepted named =
    let regrouped : flat_map table_text (t ∷ more) ++ rest ≡ table_text t ++ (flat_map table_text more ++ rest) = append_assoc (table_text t) (flat_map table_text more) rest in
    let one = table_again t (flat_map table_text more ++ rest) named.0 (table_of_accepted before t accepted.0) in
    ap (tables_from (suc (length more)) before) regrouped ∙ rw (one, accepted.0) (tables_again (before ++ t ∷ []) more rest accepted.1 named.1) ∙ ap (λ (ts : List TableDef). Some (ts, rest)) (append_assoc before (t ∷ []) more)

-- ---- schemas

pub schema_takes : (bytes : List ℕ) (tables : List TableDef) → IsBytes bytes → schema_at bytes ≡ Some tables → IsSchema tables × (bytes ≡ schema_text tables)
unfolding schema_at
schema_takes bytes tables fits e =
    let a = bind_some (byte_at bytes) (λ count. tables_from count.0 [] count.1 >>= λ ts. cond (eqb (length ts.1) 0) (Some ts.0) None) tables e in
    let b = bind_some (tables_from a.0.0 [] a.0.1) (λ ts. cond (eqb (length ts.1) 0) (Some ts.0) None) tables a.2 in
    let g = passed (eqb (length b.0.1) 0) b.0.0 tables b.2 in
    let first = byte_takes bytes a.0 fits a.1 in
    let r = tables_take a.0.0 [] a.0.1 b.0 first.rest_fits b.1 in
    let nothing : b.0.1 ≡ [] = nil_from_length b.0.1 (eqb-true _ _ g.0) in
    let same : r.more ≡ tables = sym r.tables ∙ g.1 in
    let whole : bytes ≡ schema_text r.more =
    first.parts ∙ ap (λ (t : List ℕ). a.0.0 ∷ t) (r.text.parts ∙ ap (λ (t : List ℕ). flat_map table_text r.more ++ t) nothing ∙ append-nil (flat_map table_text r.more))
    ∙ ap (λ (n : ℕ). n ∷ flat_map table_text r.more) (sym r.count) in
    let schema : IsSchema r.more = record { named = r.named; accepted = r.accepted } in
    subst (λ (ts : List TableDef). IsSchema ts × (bytes ≡ schema_text ts)) same (schema, whole)

pub schema_again : (tables : List TableDef) → IsSchema tables → schema_at (schema_text tables) ≡ Some tables
unfolding schema_at
schema_again tables is =
    let all : tables_from (length tables) [] (flat_map table_text tables) ≡ Some (tables, []) = ap (tables_from (length tables) []) (sym (append-nil (flat_map table_text tables))) ∙ tables_again [] tables [] is.accepted is.named in
    rw all refl

pub reads_only : (bytes : List ℕ) (read : Option (List TableDef)) (tables : List TableDef) → schema_at bytes ≡ read → IsSchema tables → bytes ≡ schema_text tables → read ≡ Some tables
reads_only bytes read tables e is text = sym e ∙ ap schema_at text ∙ schema_again tables is

-- ---- how long they are

columns_short : (columns : List Column) → AllByRecursion (λ c. IsName c.name) columns → length (flat_map column_text columns) ≤ 36 * length columns
columns_short [] named = omega arith
columns_short (c ∷ columns) named =
    let kind-len : length (kind_text c.kind) ≤ 3 = kind_short c.kind in
    omega (arith, length-append (column_text c) (flat_map column_text columns), length-append c.name (kind_text c.kind), named.0.len.1, kind-len, columns_short columns named.1) where
      kind_short : (k : Kind) → length (kind_text k) ≤ 3
      kind_short kind.Int = omega arith
      kind_short (kind.Text limit) = omega arith

table_short : (t : TableDef) → IsNamed t → length t.columns ≤ 32 → length (table_text t) ≤ 1187
table_short t named few =
    omega (arith, length-append t.name (length t.columns ∷ slice_index t.keys 0 ∷ flat_map column_text t.columns), named.0.len.1, columns_short t.columns named.1, few)

tables_short : (before tables : List TableDef) → AreAccepted before tables → AllByRecursion IsNamed tables → length (flat_map table_text tables) ≤ 1187 * length tables
tables_short before [] accepted named = omega arith
tables_short before (t ∷ tables) accepted named =
    let few = (table_of_accepted before t accepted.0).few in
    omega (arith, length-append (table_text t) (flat_map table_text tables), table_short t named.0 few, tables_short (before ++ t ∷ []) tables accepted.1 named.1)

pub schema_short : (tables : List TableDef) → IsSchema tables → length (schema_text tables) ≤ 18993
schema_short tables is = omega (arith, tables_short [] tables is.accepted is.named, table_count tables is)
