-- What one pull after the other gives of a source.
use Rattle.std.proofs.Common.{◌≡◌, ℕ, ◌+◌, ◌≤◌, List, [], ◌++◌, length, take, drop, Option, Some, None, IsSomeAnd, MatchOption, Bool, true, false, MatchBool, refl, sym, ◌∙◌, ap, subst, arith}
use Rattle.std.proofs.lemmas.List.{length-take, length-drop, length-append, append_assoc, append-nil, drop-drop, take_all, drop_all, take_at, drop_at, take-append-drop}
use Rattle.std.proofs.Math.Seq.{take-add}
use Rattle.std.specs.Option.{option_map, ForSome}
use Rattle.base_types.specs.Causes.{one_more}
use Rattle.io_edge.specs.Content.{Content, Gives, after_giving}
use Rattle.io_edge.specs.Runs.{ReadsOn}
use Rattle.io_edge.specs.declared.source.Source.{Ghosts}
use Rattle.shell.specs.Input.{FailsWithin, HasEnded, IsInput, ReadsWithin, StopsWithin, WasRead, read_limit}
use Rattle.shell.specs.declared.input.InputFault.{InputFault}
use Rattle.shell.specs.declared.input.InputFault.TheVariants.{Source, OutOfMemory}

-- what one pull does where it succeeds
abbrev Pulled : ℕ → List ℕ → Option Content → Option Content → Type 0
Pulled n piece old new = MatchOption old (new ≡ None) (λ content. IsSomeAnd new (Gives n piece content))

nothing_given : (o : Option Content) → o ≡ option_map (after_giving 0) o
nothing_given None = refl
nothing_given (Some c) = ap Some (ap (λ (l : List ℕ). let content : Content = record { given = l; left = c.left } in content) (sym (append-nil c.given)))

given_twice : (k n : ℕ) (c : Content) → after_giving n (after_giving k c) ≡ after_giving (k + n) c
given_twice k n c = rw (take-add k n c.left, drop-drop n k c.left, append_assoc c.given (take k c.left) (take n (drop k c.left))) refl

both_given : (k n : ℕ) (o : Option Content) → option_map (after_giving n) (option_map (after_giving k) o) ≡ option_map (after_giving (k + n)) o
both_given k n None = refl
both_given k n (Some c) = ap Some (given_twice k n c)

pull_gives : (n : ℕ) (piece : List ℕ) (old new : Option Content) → Pulled n piece old new → new ≡ option_map (after_giving n) old
pull_gives n piece None new is = is
pull_gives n piece (Some c) None is = absurd is
pull_gives n piece (Some c) (Some c') is = ap Some is.rest

-- the bytes of a pull are those that were to come next
pull_bytes : (n : ℕ) (piece : List ℕ) (old new : Option Content) → Pulled n piece old new → ForSome old (λ c. take n piece ≡ take n c.left)
pull_bytes n piece None new is c told = absurd cc
pull_bytes n piece (Some c') None is c told = absurd is
pull_bytes n piece (Some c') (Some after) is c told = let same : c' ≡ c = cc in subst (λ (x : Content). take n piece ≡ take n x.left) same is.bytes

-- where the source has ended, no more than the rest was given
none_left : (k : ℕ) (start now : Option Content) → now ≡ option_map (after_giving k) start → ForSome now (λ c. c.left ≡ [])
    → k ≤ read_limit → now ≡ option_map (after_giving read_limit) start
none_left k None now given ended few = given
none_left k (Some c) now given ended few =
    let none : drop k c.left ≡ [] = ended (after_giving k c) given in
    let short : length c.left ≤ k = omega (arith, ap length none, length-drop k c.left) in
    let all : take k c.left ≡ take read_limit c.left = take_all k c.left short ∙ sym (take_all read_limit c.left (omega (arith, short, few))) in
    given ∙ ap Some (rw (all, none, drop_all read_limit c.left (omega (arith, short, few))) refl)

-- what is read up to the limit is read
limit_bytes : (start now : Option Content) → now ≡ option_map (after_giving read_limit) start
    → (bytes : List ℕ) × (length bytes ≤ read_limit) × (now ≡ option_map (after_giving (length bytes)) start) × ForSome start (λ c. bytes ≡ take (length bytes) c.left)
limit_bytes None now given = ([], omega arith, given, λ c told. absurd cc)
limit_bytes (Some c) now given =
    let bytes = take read_limit c.left in
    let size : length bytes ≤ read_limit = omega (arith, length-take read_limit c.left) in
    let split = take-append-drop read_limit c.left in
    let front : take (length bytes) c.left ≡ bytes = ap (take (length bytes)) (sym split) ∙ take_at bytes (drop read_limit c.left) (length bytes) refl in
    let back : drop (length bytes) c.left ≡ drop read_limit c.left = ap (drop (length bytes)) (sym split) ∙ drop_at bytes (drop read_limit c.left) (length bytes) refl in
    let after : after_giving read_limit c ≡ after_giving (length bytes) c = rw (front, back) refl in
    (bytes, size, given ∙ ap Some after, λ x told. let same : c ≡ x = cc in subst (λ (o : Content). bytes ≡ take (length bytes) o.left) same (sym front))

module _ {S : Type 0} (s : Ghosts S) where
  pub nothing_read : (now : S) → ReadsOn s now now []
  nothing_read now = record { given = nothing_given (s.content now); next = λ c told. refl; still = refl }

  -- a pull that gave some
  pull_reads : (old new : S) (piece : List ℕ) (n : ℕ) → n ≤ length piece → Pulled n piece (s.content old) (s.content new)
      → s.faults new ≡ s.faults old → ReadsOn s old new (take n piece)
  pull_reads old new piece n fits pulled still =
      let size : n ≡ length (take n piece) = omega (arith, length-take n piece, fits) in
      record {
        given = pull_gives n piece (s.content old) (s.content new) pulled ∙ ap (λ (m : ℕ). option_map (after_giving m) (s.content old)) size;
        next = λ c told. pull_bytes n piece (s.content old) (s.content new) pulled c told ∙ ap (λ (m : ℕ). take m c.left) size;
        still = still;
      }

  -- one run of pulls after another
  reads_joined : (old mid new : S) (first second : List ℕ) → ReadsOn s old mid first → ReadsOn s mid new second → ReadsOn s old new (first ++ second)
  reads_joined old mid new first second one two =
      let k = length first in
      let n = length second in
      let size : k + n ≡ length (first ++ second) = omega (arith, length-append first second) in
      record {
        given = two.given ∙ ap (option_map (after_giving n)) one.given ∙ both_given k n (s.content old) ∙ ap (λ (m : ℕ). option_map (after_giving m) (s.content old)) size;
        next = λ c told.
            let after = two.next (after_giving k c) (one.given ∙ ap (option_map (after_giving k)) told) in
            ap (λ (l : List ℕ). l ++ second) (one.next c told) ∙ ap (λ (l : List ℕ). take k c.left ++ l) after ∙ sym (take-add k n c.left) ∙ ap (λ (m : ℕ). take m c.left) size;
        still = two.still ∙ one.still;
      }

  -- the bytes of one more pull come behind those so far
  pub one_more_piece : (start now new : S) (input piece : List ℕ) (n : ℕ) → n ≤ length piece → Pulled n piece (s.content now) (s.content new)
      → s.faults new ≡ s.faults now → ReadsOn s start now input → ReadsOn s start new (input ++ take n piece)
  one_more_piece start now new input piece n fits pulled still so_far = reads_joined start now new input (take n piece) so_far (pull_reads now new piece n fits pulled still)

  module _ (start now : S) (input : List ℕ) (so_far : ReadsOn s start now input) where
    -- where the source has ended, all of it was read
    pub read_to_end : length input ≤ read_limit → HasEnded s now → WasRead s start now × IsInput s start input
    read_to_end few ended = (
      record { given = none_left (length input) (s.content start) (s.content now) so_far.given ended few; still = so_far.still },
      λ c told.
          let none : drop (length input) c.left ≡ [] = ended (after_giving (length input) c) (so_far.given ∙ ap (option_map (after_giving (length input))) told) in
          let short : length c.left ≤ length input = omega (arith, ap length none, length-drop (length input) c.left) in
          so_far.next c told ∙ take_all (length input) c.left short ∙ sym (take_all read_limit c.left (omega (arith, short, few))),
    )

    -- where so much was read that no script is longer
    pub read_enough : length input ≡ read_limit → WasRead s start now × IsInput s start input
    read_enough many = (
      record { given = so_far.given ∙ ap (λ (n : ℕ). option_map (after_giving n) (s.content start)) many; still = so_far.still },
      λ c told. so_far.next c told ∙ ap (λ (n : ℕ). take n c.left) many,
    )

    -- where reading stopped
    pub stops_since : (most all : ℕ) (fault : InputFault) (new : S) → length input + most ≤ all → StopsWithin s most fault now new → StopsWithin s all fault start new
    stops_since most all Source new fits stops = record {
      count = length input + stops.count;
      few = omega (arith, fits, stops.few);
      read = record {
        given = stops.read.given ∙ ap (option_map (after_giving stops.count)) so_far.given ∙ both_given (length input) stops.count (s.content start);
        fault = omega (arith, stops.read.fault, so_far.still);
        last = stops.read.last;
      };
    }
    stops_since most all OutOfMemory new fits stops = record {
      bytes = input ++ stops.bytes;
      few = omega (arith, fits, stops.few, length-append input stops.bytes);
      read = reads_joined start now new input stops.bytes so_far stops.read;
    }

  -- a pull that failed gave nothing
  pub none_pulled : (most : ℕ) (old new : S) → s.content new ≡ s.content old → s.faults new ≡ one_more (s.faults old) → s.failed new ≡ true → FailsWithin s most old new
  none_pulled most old new same fault last = record { count = 0; few = omega arith; read = record { given = same ∙ nothing_given (s.content old); fault = fault; last = last } }

  -- a pull that gave some
  pub some_pulled : (most n : ℕ) (piece : List ℕ) (old new : S) → length piece ≡ most → n ≤ length piece → Pulled n piece (s.content old) (s.content new) → s.faults new ≡ s.faults old → ReadsWithin s most old new
  some_pulled most n piece old new all fits pulled still = record {
    bytes = take n piece;
    few = omega (arith, length-take n piece, all);
    read = pull_reads old new piece n fits pulled still;
  }

  -- what was read whole was read within the limit
  pub whole_within : (old new : S) → WasRead s old new → ReadsWithin s read_limit old new
  whole_within old new read =
      let is = limit_bytes (s.content old) (s.content new) read.given in
      record { bytes = is.0; few = is.1; read = record { given = is.2; next = is.3; still = read.still } }

-- the answer that there was nothing more
pub at_false : {Q : Type 0} (P : Type 0) (b : Bool) → b ≡ false → MatchBool b P Q → Q
at_false P true is cases = absurd (cc)
at_false P false is cases = cases
