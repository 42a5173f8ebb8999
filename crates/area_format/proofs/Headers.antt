-- The head of a file by its three parts.
use Rattle.std.proofs.Common.{◌≡◌, ℕ, List, Some, None, ◌∙◌, ap}
use Rattle.std.specs.Option.{option_or}
use Rattle.area_format.specs.AreaRead.{start_fault, fields_fault, body_fault, header_fault}
use Rattle.area_format.proofs.Rules.{both_none}

module _ (bytes : List ℕ) where
  pub header_start : (at : ℕ) → start_fault bytes ≡ Some at → header_fault bytes ≡ Some at
  unfolding header_fault
  header_start at e = ap (λ o. option_or o (option_or (fields_fault bytes) (body_fault bytes))) e

  pub header_fields : (at : ℕ) → start_fault bytes ≡ None → fields_fault bytes ≡ Some at → header_fault bytes ≡ Some at
  unfolding header_fault
  header_fields at none e = ap (λ o. option_or o (option_or (fields_fault bytes) (body_fault bytes))) none ∙ ap (λ o. option_or o (body_fault bytes)) e

  pub header_body : start_fault bytes ≡ None → fields_fault bytes ≡ None → header_fault bytes ≡ body_fault bytes
  unfolding header_fault
  header_body none none_either = ap (λ o. option_or o (option_or (fields_fault bytes) (body_fault bytes))) none ∙ ap (λ o. option_or o (body_fault bytes)) none_either

  pub header_kept : header_fault bytes ≡ None → (start_fault bytes ≡ None) × (fields_fault bytes ≡ None) × (body_fault bytes ≡ None)
  unfolding header_fault
  header_kept e =
      let a = both_none (start_fault bytes) (option_or (fields_fault bytes) (body_fault bytes)) e in
      let b = both_none (fields_fault bytes) (body_fault bytes) a.1 in
      (a.0, b.0, b.1)
