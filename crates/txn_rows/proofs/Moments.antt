-- The tables and the changes after each number of operations.
use Rattle.std.proofs.Common.{◌≡◌, inl, inr, ℕ, suc, ◌<◌, ◌≤◌, true, false, cond, List, [], ◌∷◌, length, refl, ◌∙◌, ap, arith}
use Rattle.std.specs.Prelude.{◌==◌}
use Rattle.row_types.specs.Tables.{Tables}
use Rattle.key_space.specs.Plays.{RowOp, Get, Part, Put, Del, UndoTo}
use Rattle.op_log.specs.declared.change.RowChange.{RowChange}
use Rattle.plain_model.specs.Calls.{KeepsMark, IsMark}
use Rattle.plain_model.specs.CallPlays.{at_moment, tables_behind, moments_of}
use Rattle.call_log.specs.Standing.{changes_at, changes_behind, change_moments}

pub moments_len : (first : Tables) (ops : List RowOp) → length (moments_of first ops) ≡ suc (length ops)
moments_len first [] = refl
moments_len first (op ∷ ops) = let rest = moments_len first ops in omega arith

pub changes_len : (ops : List RowOp) → length (change_moments ops) ≡ suc (length ops)
changes_len [] = refl
changes_len (op ∷ ops) = let rest = changes_len ops in omega arith

pub mark_most : (ops : List RowOp) (mark : ℕ) → IsMark ops mark → mark ≤ length ops
mark_most [] mark is = omega (arith, is)
mark_most (op ∷ ops) mark (inl e) = omega (arith, e)
mark_most (op ∷ ops) mark (inr m) = let rest = mark_most ops mark m.1 in omega arith

pub zero_mark : (ops : List RowOp) → IsMark ops 0
zero_mark [] = refl
zero_mark (op ∷ ops) = inr (keeps op, zero_mark ops)
  where
    keeps : (op : RowOp) → KeepsMark 0 op
    keeps (UndoTo count) = omega arith
    keeps (Get table key answer) = _
    keeps (Part table from upto answer) = _
    keeps (Put table row) = _
    keeps (Del table key answer) = _

other_place : (len k : ℕ) → k < len → (len == k) ≡ false
other_place len k less = grind arith

own_place : (n : ℕ) → (n == n) ≡ true
own_place n = grind arith

pub at_earlier : (tables : Tables) (moments : List Tables) (k : ℕ) → k < length moments → at_moment k (tables ∷ moments) ≡ at_moment k moments
at_earlier tables moments k less = ap (λ b. cond b tables (at_moment k moments)) (other_place (length moments) k less)

pub at_last : (tables : Tables) (moments : List Tables) (k : ℕ) → length moments ≡ k → at_moment k (tables ∷ moments) ≡ tables
at_last tables moments k e = ap (λ b. cond b tables (at_moment k moments)) (ap (λ n. n == k) e ∙ own_place k)

pub changes_earlier : (changes : List RowChange) (moments : List (List RowChange)) (k : ℕ) → k < length moments → changes_at k (changes ∷ moments) ≡ changes_at k moments
changes_earlier changes moments k less = ap (λ b. cond b changes (changes_at k moments)) (other_place (length moments) k less)

pub changes_last : (changes : List RowChange) (moments : List (List RowChange)) (k : ℕ) → length moments ≡ k → changes_at k (changes ∷ moments) ≡ changes
changes_last changes moments k e = ap (λ b. cond b changes (changes_at k moments)) (ap (λ n. n == k) e ∙ own_place k)

-- ---- at the beginning

pub first_moment : (first : Tables) (ops : List RowOp) → at_moment 0 (moments_of first ops) ≡ first
first_moment first [] = at_last first [] 0 refl
first_moment first (op ∷ ops) =
    let len = moments_len first ops in
    at_earlier (tables_behind (moments_of first ops) op) (moments_of first ops) 0 (omega arith) ∙ first_moment first ops

pub first_changes : (ops : List RowOp) → changes_at 0 (change_moments ops) ≡ []
first_changes [] = changes_last [] [] 0 refl
first_changes (op ∷ ops) =
    let len = changes_len ops in
    changes_earlier (changes_behind (change_moments ops) op) (change_moments ops) 0 (omega arith) ∙ first_changes ops

-- ---- after one operation more

pub mark_earlier : (first : Tables) (op : RowOp) (ops : List RowOp) (mark : ℕ) → IsMark ops mark → at_moment mark (moments_of first (op ∷ ops)) ≡ at_moment mark (moments_of first ops)
mark_earlier first op ops mark is =
    let most = mark_most ops mark is in
    let len = moments_len first ops in
    at_earlier (tables_behind (moments_of first ops) op) (moments_of first ops) mark (omega arith)

pub changes_mark_earlier : (op : RowOp) (ops : List RowOp) (mark : ℕ) → IsMark ops mark → changes_at mark (change_moments (op ∷ ops)) ≡ changes_at mark (change_moments ops)
changes_mark_earlier op ops mark is =
    let most = mark_most ops mark is in
    let len = changes_len ops in
    changes_earlier (changes_behind (change_moments ops) op) (change_moments ops) mark (omega arith)

pub mark_last : (first : Tables) (op : RowOp) (ops : List RowOp) (mark : ℕ) → mark ≡ length (op ∷ ops) → at_moment mark (moments_of first (op ∷ ops)) ≡ tables_behind (moments_of first ops) op
mark_last first op ops mark e =
    let len = moments_len first ops in
    at_last (tables_behind (moments_of first ops) op) (moments_of first ops) mark (omega arith)

pub changes_mark_last : (op : RowOp) (ops : List RowOp) (mark : ℕ) → mark ≡ length (op ∷ ops) → changes_at mark (change_moments (op ∷ ops)) ≡ changes_behind (change_moments ops) op
changes_mark_last op ops mark e =
    let len = changes_len ops in
    changes_last (changes_behind (change_moments ops) op) (change_moments ops) mark (omega arith)
