-- Which bytes are read as a name.
use Rattle.std.proofs.Common.{◌≡◌, ℕ, Bool, true, false, cond, leb, List, length, Option, None, Some, Result, Ok, Err, refl, ap}
use Rattle.std.specs.Prelude.{◌&&◌, IsUtf8, IfOk, SomeIff}
use Rattle.std.proofs.lemmas.Bool.{leb-true, le-leb}
use Rattle.std.proofs.lemmas.Str.{is_utf8-from_IsUtf8}
use Rattle.row_types.specs.Text.{IsNameLen}
use Rattle.row_types.specs.SchemaReading.{is_name}
use Rattle.row_types.proofs.Cells.{not_utf8}

pub no_name : (bytes : List ℕ) → (IsUtf8 bytes → ⊥) → ◌≡◌ {A = Option (List ℕ)} None (cond (is_name bytes) (Some bytes) None)
no_name bytes bad = rw (not_utf8 bytes bad) refl

len_is : (n : ℕ) (b c : Bool) → leb 1 n ≡ b → leb n 32 ≡ c → (IsNameLen n → ⊥) → (b && c) ≡ false
len_is n true true e f bad = absurd (bad (leb-true _ _ e, leb-true _ _ f))
len_is n true false e f bad = refl
len_is n false c e f bad = refl

pub name_is : {E : Type 0} (bytes : List ℕ) (r : Result (Option (List ℕ)) E) → IsUtf8 bytes → IfOk r (λ name. SomeIff name (IsNameLen (length bytes)) bytes) → IfOk r (λ name. name ≡ cond (is_name bytes) (Some bytes) None)
name_is bytes (Err e) utf8 given = tt
name_is bytes (Ok None) utf8 given =
    let text = is_utf8-from_IsUtf8 bytes utf8 in
    let len = len_is (length bytes) (leb 1 (length bytes)) (leb (length bytes) 32) refl refl given in
    rw (text, len) refl
name_is bytes (Ok (Some name)) utf8 given =
    let text = is_utf8-from_IsUtf8 bytes utf8 in
    let low : leb 1 (length bytes) ≡ true = le-leb _ _ given.0.0 in
    let high : leb (length bytes) 32 ≡ true = le-leb _ _ given.0.1 in
    rw (text, low, high) (ap (λ (x : List ℕ). Some x) given.1)
