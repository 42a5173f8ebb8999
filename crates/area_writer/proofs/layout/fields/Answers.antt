use Rattle.std.proofs.Common.{ℕ, List, [], ◌∷◌, get_or, ◌∙◌, ap}
use Rattle.std.specs.Int.{w16, w32, w64, to_le_bytes}
use Rattle.area_format.specs.Area.{fields_text}
use Rattle.area_writer.proofs.layout.fields.Goals as goal

-- the bytes of the fields, one after the other
abbrev spelled : List ℕ → List ℕ → List ℕ → List ℕ → List ℕ → List ℕ → List ℕ → List ℕ
spelled g l p n t s k = 1 ∷ 0 ∷ get_or g 0 0 ∷ get_or g 1 0 ∷ get_or g 2 0 ∷ get_or g 3 0 ∷ get_or g 4 0 ∷ get_or g 5 0 ∷ get_or g 6 0 ∷ get_or g 7 0 ∷ get_or l 0 0 ∷ get_or l 1 0 ∷ get_or p 0 0 ∷ get_or p 1 0 ∷ get_or p 2 0 ∷ get_or p 3 0 ∷ get_or n 0 0 ∷ get_or n 1 0 ∷ get_or n 2 0 ∷ get_or n 3 0 ∷ get_or t 0 0 ∷ get_or t 1 0 ∷ get_or t 2 0 ∷ get_or t 3 0 ∷ get_or s 0 0 ∷ get_or s 1 0 ∷ get_or s 2 0 ∷ get_or s 3 0 ∷ get_or k 0 0 ∷ get_or k 1 0 ∷ get_or k 2 0 ∷ get_or k 3 0 ∷ []

pub returns : goal.returns
unfolding fields_text
returns c =
    let settings = c.args.settings.now in
    ap (λ (x : List ℕ). spelled x c.to_le_bytes-2.result c.to_le_bytes-3.result c.to_le_bytes-4.result c.to_le_bytes-5.result c.to_le_bytes-6.result c.to_le_bytes-7.result) c.to_le_bytes.ensures
    ∙ ap (λ (x : List ℕ). spelled (to_le_bytes w64 c.args.generation) x c.to_le_bytes-3.result c.to_le_bytes-4.result c.to_le_bytes-5.result c.to_le_bytes-6.result c.to_le_bytes-7.result) c.to_le_bytes-2.ensures
    ∙ ap (λ (x : List ℕ). spelled (to_le_bytes w64 c.args.generation) (to_le_bytes w16 settings.lanes) x c.to_le_bytes-4.result c.to_le_bytes-5.result c.to_le_bytes-6.result c.to_le_bytes-7.result) c.to_le_bytes-3.ensures
    ∙ ap (λ (x : List ℕ). spelled (to_le_bytes w64 c.args.generation) (to_le_bytes w16 settings.lanes) (to_le_bytes w32 settings.pages) x c.to_le_bytes-5.result c.to_le_bytes-6.result c.to_le_bytes-7.result) c.to_le_bytes-4.ensures
    ∙ ap (λ (x : List ℕ). spelled (to_le_bytes w64 c.args.generation) (to_le_bytes w16 settings.lanes) (to_le_bytes w32 settings.pages) (to_le_bytes w32 settings.nodes) x c.to_le_bytes-6.result c.to_le_bytes-7.result) c.to_le_bytes-5.ensures
    ∙ ap (λ (x : List ℕ). spelled (to_le_bytes w64 c.args.generation) (to_le_bytes w16 settings.lanes) (to_le_bytes w32 settings.pages) (to_le_bytes w32 settings.nodes) (to_le_bytes w32 settings.txn) x c.to_le_bytes-7.result) c.to_le_bytes-6.ensures
    ∙ ap (λ (x : List ℕ). spelled (to_le_bytes w64 c.args.generation) (to_le_bytes w16 settings.lanes) (to_le_bytes w32 settings.pages) (to_le_bytes w32 settings.nodes) (to_le_bytes w32 settings.txn) (to_le_bytes w32 settings.segment) x) c.to_le_bytes-7.ensures
