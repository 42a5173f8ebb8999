use Rattle.std.proofs.Common.{◌≡◌, Ok, Err, None, Some, ℕ, [], ◌∷◌, List, refl, sym, ap, subst, IfSome}
use Rattle.std.proofs.lemmas.List.{append-nil}
use Rattle.lane_format.specs.declared.segment.LaneReadFault.TheVariants.{Damaged, OutOfMemory}
use Rattle.replay_core.specs.Readers.{HasRead, Steps, StepsOver}
use Rattle.replay_core.specs.Segments.{Placed}
use Rattle.replay_core.proofs.ReadingLaws.{none_some, ok_no_err, ok_same}
use Rattle.replay_core.proofs.segment_reader.SegmentReader.next.Goals as goal

pub returns-in-Err : goal.returns-in-Err
returns-in-Err g c =
    let content = g.D.Disk.content c.args.disk.now in
    let advance = c.in-Err.ensures in
    let steps : Steps content c.args.self.now (Err c.in-Err.fault) c.advance.new.self = record {
      over = advance.over;
      same = advance.same;
      less = tt;
      given = [];
      gives = refl;
      read = λ (items : List Placed) read. subst (HasRead content c.advance.new.self) (sym (append-nil items)) (advance.err items read);
    } in (
      (refl, (λ _. tt), steps),
      record {
        read = tt;
        end = λ none. absurd (ok_no_err None c.in-Err.fault (Err c.in-Err.fault) none refl);
        damaged = λ file at same items read bytes known.
            let e : c.in-Err.fault ≡ Damaged file at = cc in
            advance.damaged file at (ap Err e) items read bytes known;
        only_reads = advance.only_reads;
        cause = advance.cause;
        memory = λ same. let e : c.in-Err.fault ≡ OutOfMemory = cc in advance.memory (ap Err e);
      },
    )

pub returns-in-Ok-Some : goal.returns-in-Ok-Some
returns-in-Ok-Some g c =
    let advance = c.in-Ok-Some.ensures in
    let item = c.item.result in
    let content = g.D.Disk.content c.args.disk.now in
    let old = c.args.self.now in
    let new = c.advance.new.self in
    let found : StepsOver content old c.in-Ok-Some.found new = subst (λ next. IfSome next (λ found. StepsOver content old found new)) c.in-Ok-Some.field-0-is advance.found in
    let steps : Steps content old (Ok (Some item)) new = record {
      over = advance.over;
      same = advance.same;
      less = found.less;
      given = record { at = c.in-Ok-Some.found.at; rec = found.rec } ∷ [];
      gives = (found.rec, c.item.ensures.shows found.rec found.is found.text, ap (λ (n : ℕ). let placed : Placed = record { at = n; rec = found.rec } in placed ∷ []) (sym c.item.ensures.at));
      read = found.read;
    } in (
      (refl, (λ _. tt), steps),
      record {
        read = tt;
        end = λ none. absurd (none_some item (ok_same (Some item) None (Ok (Some item)) refl none));
        damaged = λ file at same. absurd (ok_no_err (Some item) (Damaged file at) (Ok (Some item)) refl same);
        only_reads = advance.only_reads;
        cause = advance.cause;
        memory = λ same. ok_no_err (Some item) OutOfMemory (Ok (Some item)) refl same;
      },
    )
