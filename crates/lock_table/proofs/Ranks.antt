-- The order of ranks.
use Rattle.std.proofs.Common.{◌≡◌, ℕ, ◌^◌, ◌<◌, ◌≤◌, ◌≢◌, true, sym, ◌∙◌, arith, inl, inr}
use Rattle.std.proofs.lemmas.Bool.{cases_lt, lt-ltb, le-ltb, le-leb, lt-leb}
use Rattle.std.specs.Prelude.{nat_lt, nat_le}
use Rattle.std.specs.Prelude.{None}
use Rattle.lock_table.specs.declared.place.Place.{Place}
use Rattle.lock_table.specs.declared.place.Spot.{Spot}
use Rattle.lock_table.specs.Locks.{Locks}
use Rattle.lock_table.specs.Orders.{rank, spot_rank, lock_at, is_before, is_up_to}

pub table_below : (t k w t' k' w' : ℕ) → k < 2 ^ 128 → w < 2 ^ 16 → t < t' → rank t k w < rank t' k' w'
unfolding rank
table_below t k w t' k' w' key who below = omega arith

pub key_below : (t k w k' w' : ℕ) → w < 2 ^ 16 → k < k' → rank t k w < rank t k' w'
unfolding rank
key_below t k w k' w' who below = omega arith

-- sessions up to 2 ^ 16: behind all of a lower key
pub key_up_to : (t k w k' w' : ℕ) → w ≤ 2 ^ 16 → k < k' → rank t k w ≤ rank t k' w'
unfolding rank
key_up_to t k w k' w' who below = omega arith

pub table_up_to : (t k w t' k' w' : ℕ) → k < 2 ^ 128 → w ≤ 2 ^ 16 → t < t' → rank t k w ≤ rank t' k' w'
unfolding rank
table_up_to t k w t' k' w' key who below = omega arith

pub who_below : (t k w w' : ℕ) → w < w' → rank t k w < rank t k w'
unfolding rank
who_below t k w w' below = omega arith

pub who_up_to : (t k w w' : ℕ) → w ≤ w' → rank t k w ≤ rank t k w'
unfolding rank
who_up_to t k w w' below = omega arith

pub some_rank : (t k w : ℕ) → 0 < rank t k w
unfolding rank
some_rank t k w = omega arith

same_test : (a b c d : ℕ) → (a < b → c < d) → (b ≤ a → d ≤ c) → nat_lt a b ≡ nat_lt c d
same_test a b c d below above = elim (cases_lt a b) [
  | inl lt ↦ lt-ltb a b lt ∙ sym (lt-ltb c d (below lt))
  | inr le ↦ le-ltb a b le ∙ sym (le-ltb c d (above le))
]

pub tables_tell : (t k w t' k' w' : ℕ) → k < 2 ^ 128 → w < 2 ^ 16 → k' < 2 ^ 128 → w' ≤ 2 ^ 16 → t ≢ t' → nat_lt t t' ≡ nat_lt (rank t k w) (rank t' k' w')
tables_tell t k w t' k' w' key who key' who' other =
    same_test t t' (rank t k w) (rank t' k' w') (λ lt. table_below t k w t' k' w' key who lt) (λ le. table_up_to t' k' w' t k w key' who' (omega arith))

pub keys_tell : (t k w t' k' w' : ℕ) → w < 2 ^ 16 → w' ≤ 2 ^ 16 → t ≡ t' → k ≢ k' → nat_lt k k' ≡ nat_lt (rank t k w) (rank t' k' w')
keys_tell t k w t' k' w' who who' same other =
    rw same (same_test k k' (rank t' k w) (rank t' k' w') (λ lt. key_below t' k w k' w' who lt) (λ le. key_up_to t' k' w' k w who' (omega arith)))

pub owners_tell : (t k w t' k' w' : ℕ) → t ≡ t' → k ≡ k' → nat_lt w w' ≡ nat_lt (rank t k w) (rank t' k' w')
owners_tell t k w t' k' w' same same_key =
    rw (same, same_key) (same_test w w' (rank t' k' w) (rank t' k' w') (λ lt. who_below t' k' w w' lt) (λ le. who_up_to t' k' w' w le))

pub below_next : (t k w k' : ℕ) → w < 2 ^ 16 → k ≤ k' → rank t k w < rank t k' (2 ^ 16)
unfolding rank
below_next t k w k' who le = omega arith

pub keys_up_to_tell : (t k w t' k' : ℕ) → w < 2 ^ 16 → t ≡ t' → nat_le k k' ≡ nat_lt (rank t k w) (rank t' k' (2 ^ 16))
keys_up_to_tell t k w t' k' who same = rw same (elim (cases_lt k' k) [
  | inl lt ↦ lt-leb k k' lt ∙ sym (le-ltb (rank t' k w) (rank t' k' (2 ^ 16)) (key_up_to t' k' (2 ^ 16) k w (omega arith) lt))
  | inr le ↦ le-leb k k' le ∙ sym (lt-ltb (rank t' k w) (rank t' k' (2 ^ 16)) (below_next t' k w k' who le))
])

-- a place without a lock stands in front of all
pub none_before : (locks : Locks) (spot : Spot) (place : Place) → lock_at locks place ≡ None → true ≡ is_before locks spot place
none_before locks spot place none = rw none (sym (lt-ltb 0 (spot_rank spot) (some_rank spot.table spot.key spot.who)))

pub none_up_to : (locks : Locks) (table key : ℕ) (place : Place) → lock_at locks place ≡ None → true ≡ is_up_to locks table key place
none_up_to locks table key place none = rw none (sym (lt-ltb 0 (rank table key (2 ^ 16)) (some_rank table key (2 ^ 16))))
