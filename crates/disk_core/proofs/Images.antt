-- What the change calls of a disk in memory do to the images that a crash may leave.
use Rattle.std.proofs.Common.{◌≡◌, inl, inr, ℕ, ◌+◌, ◌≤◌, List, [], ◌∷◌, ◌++◌, length, take, drop, get_or, sym, ◌∙◌, ap, subst, arith, length-append, append_assoc}
use Rattle.std.proofs.lemmas.List.{length-take, length-drop, take_at, drop_at, get_or_at}
use Rattle.disk_core.specs.Device.{written}
use Rattle.disk_core.specs.Crash.{Tears}
use Rattle.disk_core.specs.History.{Change, Wrote, Synced, content_after, MayLeave}
use Rattle.disk_core.specs.HistoryLaws.{reads_left}

module _ (at : ℕ) (bytes old : List ℕ) (inside : at ≤ length old) where
  front : length (take at old) ≡ at
  front = omega (arith, length-take at old)

  range : length (take at old ++ bytes) ≡ at + length bytes
  range = omega (arith, length-append (take at old) bytes, front)

  rest : List ℕ
  rest = drop (at + length bytes) old

  pub length-written_parts : length (written at bytes old) ≡ at + length bytes + length (drop (at + length bytes) old)
  length-written_parts = omega (arith, length-append (take at old ++ bytes) (drop (at + length bytes) old), range)

  -- a whole write is one of those that a crash may leave
  pub whole_write : Tears at bytes old (written at bytes old)
  whole_write = record {
    torn = record {
      before = ap (take at) (append_assoc (take at old) bytes (drop (at + length bytes) old)) ∙ take_at (take at old) (bytes ++ drop (at + length bytes) old) at front;
      after = drop_at (take at old ++ bytes) (drop (at + length bytes) old) (at + length bytes) range;
      no_shorter = omega (arith, length-written_parts, length-drop (at + length bytes) old);
      no_longer = omega (arith, length-written_parts, length-drop (at + length bytes) old);
    };
    alone = λ byte one. inl (single byte one);
  }
    where
      single : (byte : ℕ) → bytes ≡ byte ∷ [] → get_or (written at bytes old) at 0 ≡ byte
      single byte one =
          ap (λ (l : List ℕ). get_or (take at old ++ l ++ drop (at + length bytes) old) at 0) one
          ∙ ap (λ (l : List ℕ). get_or l at 0) (append_assoc (take at old) (byte ∷ []) (drop (at + length bytes) old))
          ∙ get_or_at (take at old) byte (drop (at + length bytes) old) 0 at front

-- an image after a write comes from one before
pub write_follows : (initial : List ℕ) (calls : List Change) (at : ℕ) (bytes image : List ℕ) → at ≤ length (content_after initial calls) → MayLeave initial (Wrote at bytes ∷ calls) image → (before : List ℕ) × MayLeave initial calls before × Tears at bytes before image
write_follows initial calls at bytes image inside (inr step) = step
write_follows initial calls at bytes image inside (inl is) = (
  content_after initial calls,
  reads_left initial calls,
  subst (λ i. Tears at bytes (content_after initial calls) i) (sym is) (whole_write at bytes (content_after initial calls) inside),
)

-- a sync adds no image
pub sync_adds_none : (initial : List ℕ) (calls : List Change) (image : List ℕ) → MayLeave initial (Synced ∷ calls) image → MayLeave initial calls image
sync_adds_none initial calls image is = subst (λ i. MayLeave initial calls i) (sym is) (reads_left initial calls)
