-- Plans of change calls that are carried out one after the other.
use Rattle.std.proofs.Common.{◌≡◌, inl, inr, List, [], ◌∷◌, ◌++◌, true, false, Option, Some, None, IsSomeAnd, Result, Ok, Err, IsOk, IsErr, OnOk, OnErr, refl, sym, ◌∙◌, ap, subst}
use Rattle.std.specs.Option.{ForSome}
use Rattle.disk_core.specs.ChangeCalls.{ChangeCall, CallMade, all_made, StoppedIn, Made}

all_made-append : (p q : List ChangeCall) (earlier : List CallMade) → all_made (p ++ q) earlier ≡ all_made q (all_made p earlier)
all_made-append [] q earlier = refl
all_made-append (call ∷ p) q earlier = all_made-append p q (record { call = call; done = true } ∷ earlier)

stopped_first : (p q : List ChangeCall) (earlier calls : List CallMade) → StoppedIn p earlier calls → StoppedIn (p ++ q) earlier calls
stopped_first [] q earlier calls stopped = absurd stopped
stopped_first (call ∷ p) q earlier calls (inl here) = inl here
stopped_first (call ∷ p) q earlier calls (inr later) = inr (stopped_first p q (record { call = call; done = true } ∷ earlier) calls later)

stopped_second : (p q : List ChangeCall) (earlier calls : List CallMade) → StoppedIn q (all_made p earlier) calls → StoppedIn (p ++ q) earlier calls
stopped_second [] q earlier calls stopped = stopped
stopped_second (call ∷ p) q earlier calls stopped = inr (stopped_second p q (record { call = call; done = true } ∷ earlier) calls stopped)

-- what was known after the first was known before it
through : (P Q R : List CallMade → List CallMade → Type 0) (old mid : Option (List CallMade)) (calls : List CallMade)
    → ForSome mid (λ m. IsSomeAnd old (λ e. P e m)) → IsSomeAnd mid (λ m. Q m calls) → ((e m : List CallMade) → P e m → Q m calls → R e calls) → IsSomeAnd old (λ e. R e calls)
through P Q R old None calls first second follows = absurd second
through P Q R None (Some m) calls first second follows = absurd (first m refl)
through P Q R (Some e) (Some m) calls first second follows = follows e m (first m refl) second

weaken : (P R : List CallMade → Type 0) (old : Option (List CallMade)) → IsSomeAnd old P → ((e : List CallMade) → P e → R e) → IsSomeAnd old R
weaken P R None holds follows = absurd holds
weaken P R (Some e) holds follows = follows e holds

module _ (p q : List ChangeCall) where
  -- a whole plan, and then another
  pub then_made : {T E : Type 0} (r : Result T E) (old mid new : Option (List CallMade)) → ForSome mid (λ calls. IsSomeAnd old (λ earlier. calls ≡ all_made p earlier)) → Made q r mid new → Made (p ++ q) r old new
  then_made (Ok x) old mid new first second = λ calls known.
      through (λ e m. m ≡ all_made p e) (λ m c. c ≡ all_made q m) (λ e c. c ≡ all_made (p ++ q) e) old mid calls first (second calls known)
      (λ e m is then. then ∙ ap (all_made q) is ∙ sym (all_made-append p q e))
  then_made (Err e) old mid new first second = λ calls known.
      through (λ e m. m ≡ all_made p e) (λ m c. StoppedIn q m c) (λ e c. StoppedIn (p ++ q) e c) old mid calls first (second calls known)
      (λ e m is stopped. stopped_second p q e calls (subst (λ l. StoppedIn q l calls) is stopped))

  -- a plan that stopped is the front of a longer one that did
  pub stopped_before : {T E : Type 0} (r : Result T E) (old new : Option (List CallMade)) → IsErr r → ForSome new (λ calls. IsSomeAnd old (λ earlier. StoppedIn p earlier calls)) → Made (p ++ q) r old new
  stopped_before (Ok x) old new err made = absurd (let none : false ≡ true = err in cc)
  stopped_before (Err e) old new err made = λ calls known. weaken (λ e. StoppedIn p e calls) (λ e. StoppedIn (p ++ q) e calls) old (made calls known) (λ e. stopped_first p q e calls)

-- the same calls, said of a result that ends so too
pub made_so : {A B C E : Type 0} (S T : Type 0) (fault : E) (plan : List ChangeCall) (done : Result A B) (result : Result C E) (old new : Option (List CallMade))
    → OnOk done (IsOk result × S) → OnErr done ((result ≡ Err fault) × T) → Made plan done old new → Made plan result old new
made_so S T fault plan (Ok x) (Ok y) old new ok err made = made
made_so S T fault plan (Ok x) (Err e) old new ok err made = absurd (let none : false ≡ true = ok.0 in cc)
made_so S T fault plan (Err x) result old new ok err made = subst (λ r. Made plan r old new) (sym err.0) made
