use Rattle.std.proofs.Common.{◌≡◌, ◌-◌, ◌++◌, List, ℕ, length, drop, set, ◌∙◌, ap, refl, arith}
use Rattle.std.proofs.lemmas.List.{length-take, length-drop}
use Rattle.std.specs.Int.{w32, to_le_bytes}
use Rattle.lane_format.specs.Lane.{body_of, frame_text}
use Rattle.lane_writer.proofs.Writes.{filled}
use Rattle.lane_writer.proofs.frame.fill.Goals as goal

pub returns : goal.returns
unfolding frame_text
returns c =
    let frame = c.args.frame.now in
    let length_is : length frame - 1 - 4 ≡ length (body_of frame) = omega (arith, length-take (length frame - 5) (drop 4 frame), length-drop 4 frame) in
    let lengths : c.copy_from_slice.new.self ≡ to_le_bytes w32 (length (body_of frame)) = c.copy_from_slice.ensures.after ∙ c.to_le_bytes.ensures ∙ ap (to_le_bytes w32) length_is in
    ap (λ (l : List ℕ). set (l ++ drop 4 frame) (length frame - 1) 0) lengths ∙ filled (to_le_bytes w32 (length (body_of frame))) frame refl c.requires.room
