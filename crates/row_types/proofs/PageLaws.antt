-- The first fault of a page, slot after slot.
use Rattle.std.proofs.Common.{◌≡◌, ℕ, suc, ◌+◌, ◌-◌, ◌*◌, ◌/◌, ◌<◌, ◌≤◌, List, length, take, drop}
use Rattle.std.proofs.Common.{Option, None}
use Rattle.std.proofs.Common.{Some, sym, ap, ap₂, ◌∙◌, subst, arith}
use Rattle.std.specs.Option.{option_or, option_map}
use Rattle.std.proofs.lemmas.List.{drop-drop, take_rest}
use Rattle.row_types.specs.declared.definition.Column.{Column}
use Rattle.row_types.specs.Slot.{slot_len, slot_fault, first_not_zero}
use Rattle.row_types.specs.Page.{slots, slots_fault, page_fault}

slots_left : (columns : List Column) (k n : ℕ) (bytes : List ℕ) → k < n
    → slots_fault columns k (n - k) bytes
    ≡ option_or (option_map (λ at. (k, at)) (slot_fault columns (take (slot_len columns) bytes)))
    (slots_fault columns (k + 1) (n - (k + 1)) (drop (slot_len columns) bytes))
slots_left columns k n bytes l =
    let more : n - k ≡ suc (n - (k + 1)) = omega (arith, l) in
    ap (λ m. slots_fault columns k m bytes) more

next_slot : (columns : List Column) (k : ℕ) (page : List ℕ)
    → drop (slot_len columns) (drop (k * slot_len columns) page) ≡ drop ((k + 1) * slot_len columns) page
next_slot columns k page =
    drop-drop (slot_len columns) (k * slot_len columns) page ∙ ap (λ n. drop n page) (omega arith)

-- a slot without a fault
pub fault_step : (columns : List Column) (k n : ℕ) (page : List ℕ) → k < n
    → slot_fault columns (take (slot_len columns) (drop (k * slot_len columns) page)) ≡ None
    → slots_fault columns k (n - k) (drop (k * slot_len columns) page) ≡ slots_fault columns (k + 1)
    (n - (k + 1)) (drop ((k + 1) * slot_len columns) page)
fault_step columns k n page l none =
    slots_left columns k n (drop (k * slot_len columns) page) l
    ∙ ap₂ (λ f rest. option_or (option_map (λ (at : ℕ). (k, at)) f)
    (slots_fault columns (k + 1) (n - (k + 1)) rest)) none (next_slot columns k page)

-- a slot with one
pub fault_found : (columns : List Column) (k n place : ℕ) (page : List ℕ) → k < n
    → slot_fault columns (take (slot_len columns) (drop (k * slot_len columns) page)) ≡ Some place
    → slots_fault columns k (n - k) (drop (k * slot_len columns) page) ≡ Some (k, place)
fault_found columns k n place page l some =
    slots_left columns k n (drop (k * slot_len columns) page) l
    ∙ ap (λ f. option_or (option_map (λ (at : ℕ). (k, at)) f)
    (slots_fault columns (k + 1) (n - (k + 1))
    (drop (slot_len columns) (drop (k * slot_len columns) page)))) some

-- behind the last slot
pub fault_behind : (columns : List Column) (k n : ℕ) (page : List ℕ) → n ≤ k
    → slots_fault columns k (n - k) (drop (k * slot_len columns) page) ≡ option_map (λ at. (k, at))
    (first_not_zero 0 (drop (k * slot_len columns) page))
fault_behind columns k n page l =
    let none : n - k ≡ 0 = omega (arith, l) in
    ap (λ m. slots_fault columns k m (drop (k * slot_len columns) page)) none

-- slot k as the code takes it
slot_here : (columns : List Column) (len k : ℕ) (page : List ℕ) (fault : Option ℕ) → len ≡ slot_len columns
    → slot_fault columns (take (k * len + len - k * len) (drop (k * len) page)) ≡ fault
    → slot_fault columns (take (slot_len columns) (drop (k * slot_len columns) page)) ≡ fault
slot_here columns len k page fault is found =
    let width : k * len + len - k * len ≡ len = omega arith in
    subst (λ n. slot_fault columns (take n (drop (k * n) page)) ≡ fault) is
    (ap (λ n. slot_fault columns (take n (drop (k * len) page))) (sym width) ∙ found)

slots_are : (columns : List Column) (len : ℕ) → len ≡ slot_len columns → 4096 / len ≡ slots columns
slots_are columns len is = ap (λ n. 4096 / n) is

-- what is left of the search at slot k
abbrev pub FaultLeft : List Column → ℕ → List ℕ → Type 0
FaultLeft columns k page =
    slots_fault columns 0 (slots columns) page
    ≡ slots_fault columns k (slots columns - k) (drop (k * slot_len columns) page)

-- the page's first fault is that of a slot
pub page_found : (columns : List Column) (len k place : ℕ) (page : List ℕ) → len ≡ slot_len columns
    → k < 4096 / len → FaultLeft columns k page
    → slot_fault columns (take (k * len + len - k * len) (drop (k * len) page)) ≡ Some place
    → Some (k, place) ≡ page_fault columns page
unfolding page_fault
page_found columns len k place page is l left some =
    sym (left ∙ fault_found columns k (slots columns) place page
    (subst (λ n. k < n) (slots_are columns len is) l) (slot_here columns len k page _ is some))

-- a slot has no fault
pub page_step : (columns : List Column) (len k : ℕ) (page : List ℕ) → len ≡ slot_len columns
    → k < 4096 / len → FaultLeft columns k page
    → slot_fault columns (take (k * len + len - k * len) (drop (k * len) page)) ≡ None
    → FaultLeft columns (k + 1) page
page_step columns len k page is l left none =
    left ∙ fault_step columns k (slots columns) page
    (subst (λ n. k < n) (slots_are columns len is) l) (slot_here columns len k page _ is none)

-- no slot has a fault
pub page_behind : (columns : List Column) (len k : ℕ) (page : List ℕ) (fault : Option ℕ)
    → len ≡ slot_len columns
    → k ≡ 4096 / len → FaultLeft columns k page
    → first_not_zero 0 (take (length page - 4096 / len * len) (drop (4096 / len * len) page)) ≡ fault
    → option_map (λ at. (4096 / len, at)) fault ≡ page_fault columns page
unfolding page_fault
page_behind columns len k page fault is end left found =
    let end-is : k ≡ slots columns = end ∙ slots_are columns len is in
    let behind = subst (λ n. FaultLeft columns n page) end-is left
    ∙ fault_behind columns (slots columns) (slots columns) page (omega arith) in
    let there : first_not_zero 0 (drop (slots columns * slot_len columns) page) ≡ fault =
    subst (λ n. first_not_zero 0 (drop (4096 / n * n) page) ≡ fault) is
    (ap (first_not_zero 0) (sym (take_rest page (4096 / len * len))) ∙ found) in
    ap (λ n. option_map (λ (at : ℕ). (n, at)) fault) (slots_are columns len is)
    ∙ ap (λ f. option_map (λ (at : ℕ). (slots columns, at)) f) (sym there)
    ∙ sym behind
