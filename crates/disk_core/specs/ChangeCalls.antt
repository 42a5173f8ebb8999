-- The calls that changed a disk, and plans of such calls.
use Rattle.std.specs.Prelude.{◌≡◌, ◌⊎◌, ℕ, Bool, true, false, List, [], ◌∷◌, Option, IsSomeAnd, Result, Ok}
use Rattle.std.specs.Prelude.{Err}
use Rattle.std.specs.Option.{ForSome}

-- a call that changes a disk
pub data ChangeCall : Type 0 where
  WriteCall : (at : ℕ) (bytes : List ℕ) → ChangeCall
  SyncCall : ChangeCall

-- such a call as it was made, and whether it succeeded
pub record CallMade : Type 0 where
  pub call : ChangeCall
  pub done : Bool

-- the calls of a plan, each a success, on top of earlier ones; the latest comes first
abbrev pub all_made : List ChangeCall → List CallMade → List CallMade
all_made [] earlier = earlier
all_made (call ∷ plan) earlier = all_made plan (record { call = call; done = true } ∷ earlier)

-- these are the calls of a plan up to one that failed, on top of earlier ones
abbrev pub StoppedIn : List ChangeCall → List CallMade → List CallMade → Type 0
StoppedIn [] earlier calls = ⊥
StoppedIn (call ∷ plan) earlier calls =
    (calls ≡ record { call = call; done = false } ∷ earlier)
    ⊎ StoppedIn plan (record { call = call; done = true } ∷ earlier) calls

-- A plan was carried out: after an Ok all its calls were made, in order, and after an Err those up to
-- the one that failed. This is said where the calls are still known, and then they were known before.
abbrev pub Made : {T E : Type 0} → List ChangeCall → Result T E → Option (List CallMade)
    → Option (List CallMade) → Type 0
Made plan (Ok _) old new = ForSome new (λ calls. IsSomeAnd old (λ earlier. calls ≡ all_made plan earlier))
Made plan (Err _) old new = ForSome new (λ calls. IsSomeAnd old (λ earlier. StoppedIn plan earlier calls))
