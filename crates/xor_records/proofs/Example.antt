-- Pages that are computed from their definition.
use Rattle.std.proofs.Common.{◌≡◌, ℕ, List, [], ◌∷◌, refl}
use Rattle.xor_records.specs.Record.{Record, Diff, Commit, End}
use Rattle.xor_records.specs.Replay.{PageImage, restarted}
use Rattle.xor_records.specs.Parity.{flipped}

change : ℕ → ℕ → List ℕ → Record
change txn stamp xor = Diff (record { txn = txn; table = 0; page = 1; stamp = stamp; offset = 1 }) xor

image : ℕ → List ℕ → List PageImage
image stamp bytes = record { table = 0; page = 1; stamp = stamp; bytes = bytes } ∷ []

-- An image with stamp 5, and changes with stamps 4 of transaction 7, 5 and 6 of transaction 8, which has ended, and 7 of transaction 9: those with 4 and 6 are toggled.
both_sides : restarted (image 5 (17 ∷ 17 ∷ 17 ∷ [])) (change 7 4 (1 ∷ []) ∷ change 8 5 (2 ∷ []) ∷ change 8 6 (4 ∷ []) ∷ change 9 7 (8 ∷ []) ∷ End 8 ∷ []) (record { table = 0; page = 1 })
    ≡ 17 ∷ 20 ∷ 17 ∷ []
unfolding restarted flipped change image
both_sides = refl

-- An image with stamp 1 that has transaction 3's change, and the change with its compensation: with the end record the compensation alone is toggled, without it the change alone.
with_its_end : restarted (image 1 (0 ∷ 20 ∷ 0 ∷ [])) (change 3 1 (30 ∷ []) ∷ change 3 2 (30 ∷ []) ∷ End 3 ∷ []) (record { table = 0; page = 1 }) ≡ 0 ∷ 10 ∷ 0 ∷ []
unfolding restarted flipped change image
with_its_end = refl

without_its_end : restarted (image 1 (0 ∷ 20 ∷ 0 ∷ [])) (change 3 1 (30 ∷ []) ∷ change 3 2 (30 ∷ []) ∷ []) (record { table = 0; page = 1 }) ≡ 0 ∷ 10 ∷ 0 ∷ []
unfolding restarted flipped change image
without_its_end = refl
