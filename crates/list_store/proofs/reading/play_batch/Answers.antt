use Rattle.std.proofs.Common.{◌≡◌, ◌≢◌, ℕ, ◌+◌, ◌<◌, ◌≤◌, List, [], ◌∷◌, ◌++◌, length, take, drop, Result, Ok, Err, refl, sym, ◌∙◌, ap, subst, arith}
use Rattle.std.specs.List.{AllByRecursion}
use Rattle.row_types.specs.declared.definition.TableDef.{TableDef}
use Rattle.op_log.specs.Changes.{IsChange, body_text}
use Rattle.list_keeper.specs.Past.{tables_in}
use Rattle.list_store.specs.Found.{PlaysOne}
use Rattle.list_store.proofs.Faulting.{damaged_as}
use Rattle.list_store.proofs.Fronts.{within}
use Rattle.list_store.proofs.Pasts.{no_change, no_first, no_row, not_late, some_there, stop_is, whole_body}
use Rattle.list_store.proofs.Playing.{read_next}
use Rattle.list_store.proofs.reading.play_batch.Goals as goal

pub returns-then-end-eq0-clause-damaged : goal.returns-then-end-eq0-clause-damaged
returns-then-end-eq0-clause-damaged c = λ file at e.
    let defs = c.args.schema.now in
    let gate = c.args.gate in
    let body = c.args.body.now in
    let front = c.in_ok-front.front in
    let near = not_late c.ends_late.result (gate + 5 + length body) c.ends_late.ensures c.if-ends_late.false in
    let is = damaged_as c.damaged-then-end-eq0.result file at (gate + 5) c.damaged-then-end-eq0.ensures e in
    (is.0, λ some. no_first defs (tables_in c.args.keeper) gate body front.changes front.end c.in_ok-front.ensures near at (omega (arith, c.if-end-eq0.true)) some is.1)

pub load-requires-clause-fit : goal.load-requires-clause-fit
load-requires-clause-fit c =
    subst (λ (l : List TableDef). AllByRecursion (IsChange l) c.in_ok-front.front.changes) (sym c.requires.read.defs_are) c.in_ok-front.ensures.fit

pub returns-then-end-body-clause-damaged : goal.returns-then-end-body-clause-damaged
returns-then-end-body-clause-damaged c = λ file at e.
    let defs = c.args.schema.now in
    let gate = c.args.gate in
    let body = c.args.body.now in
    let front = c.in_ok-front.front in
    let near = not_late c.ends_late.result (gate + 5 + length body) c.ends_late.ensures c.if-ends_late.false in
    let is = damaged_as c.damaged-then-end-body.result file at (gate + 5 + front.end) c.damaged-then-end-body.ensures e in
    (is.0, λ some. no_change defs (tables_in c.args.keeper) gate body front.changes front.end c.in_ok-front.ensures near at c.in-Ok.ensures.played (omega (arith, c.if-end-body.true)) is.1)

pub changes_len-requires : goal.changes_len-requires
changes_len-requires c =
    let front = c.in_ok-front.front in
    let found = c.in_ok-front.ensures in
    let stops = c.load.ensures.no_row c.in-Err-NoRow.index (c.in-Err-NoRow.is ∙ ap Err c.in-Err-NoRow.field-0-is) in
    (front.changes, drop front.end c.args.body.now, found.fit, found.text, (stop_is (tables_in c.args.keeper) front.changes c.in-Err-NoRow.index stops).inside)

pub overflow_add-at-in-Err-NoRow : goal.overflow_add-at-in-Err-NoRow
overflow_add-at-in-Err-NoRow c =
    let defs = c.args.schema.now in
    let gate = c.args.gate in
    let body = c.args.body.now in
    let front = c.in_ok-front.front in
    let found = c.in_ok-front.ensures in
    let near = not_late c.ends_late.result (gate + 5 + length body) c.ends_late.ensures c.if-ends_late.false in
    let index = c.in-Err-NoRow.index in
    let stops = c.load.ensures.no_row index (c.in-Err-NoRow.is ∙ ap Err c.in-Err-NoRow.field-0-is) in
    let inside = (stop_is (tables_in c.args.keeper) front.changes index stops).inside in
    let len_is = c.in_ok-len-in-Err-NoRow.ensures front.changes (drop front.end body) found.fit found.text inside in
    let short = within defs body front.changes (drop front.end body) found.fit found.text index c.in_ok-len-in-Err-NoRow.len inside len_is in
    omega (arith, near, short)

pub returns-else-end-body-clause-plays : goal.returns-else-end-body-clause-plays
returns-else-end-body-clause-plays c =
    let defs = c.args.schema.now in
    let gate = c.args.gate in
    let body = c.args.body.now in
    let keeper = c.args.keeper in
    let front = c.in_ok-front.front in
    let found = c.in_ok-front.ensures in
    let near = not_late c.ends_late.result (gate + 5 + length body) c.ends_late.ensures c.if-ends_late.false in
    let defs_are = c.requires.read.defs_are in
    record {
      batch = front.changes;
      calls = c.in-Ok.ensures.calls;
      fit = subst (λ (l : List TableDef). AllByRecursion (IsChange l) front.changes) (sym defs_are) found.fit;
      some = some_there defs (tables_in keeper) gate body front.changes front.end found near (omega (arith, c.if-end-eq0.false));
      body_is = whole_body defs (tables_in keeper) gate body front.changes front.end found near (omega (arith, c.if-end-body.false)) ∙ ap (λ (l : List TableDef). body_text l front.changes) (sym defs_are);
      played = c.in-Ok.ensures.played;
    }

pub returns-else-end-body-clause-read : goal.returns-else-end-body-clause-read
returns-else-end-body-clause-read c =
    let defs = c.args.schema.now in
    let gate = c.args.gate in
    let body = c.args.body.now in
    let keeper = c.args.keeper in
    let front = c.in_ok-front.front in
    let found = c.in_ok-front.ensures in
    let near = not_late c.ends_late.result (gate + 5 + length body) c.ends_late.ensures c.if-ends_late.false in
    let defs_are = c.requires.read.defs_are in
    let plays : PlaysOne keeper c.in-Ok.loaded body = record {
      batch = front.changes;
      calls = c.in-Ok.ensures.calls;
      fit = subst (λ (l : List TableDef). AllByRecursion (IsChange l) front.changes) (sym defs_are) found.fit;
      some = some_there defs (tables_in keeper) gate body front.changes front.end found near (omega (arith, c.if-end-eq0.false));
      body_is = whole_body defs (tables_in keeper) gate body front.changes front.end found near (omega (arith, c.if-end-body.false)) ∙ ap (λ (l : List TableDef). body_text l front.changes) (sym defs_are);
      played = c.in-Ok.ensures.played;
    } in
    read_next defs keeper c.in-Ok.loaded gate body c.requires.read plays c.in-Ok.ensures.defs c.history.ensures

pub returns-in_ok-len-in-Err-NoRow-clause-damaged : goal.returns-in_ok-len-in-Err-NoRow-clause-damaged
returns-in_ok-len-in-Err-NoRow-clause-damaged c = λ file at e.
    let defs = c.args.schema.now in
    let gate = c.args.gate in
    let body = c.args.body.now in
    let front = c.in_ok-front.front in
    let found = c.in_ok-front.ensures in
    let near = not_late c.ends_late.result (gate + 5 + length body) c.ends_late.ensures c.if-ends_late.false in
    let index = c.in-Err-NoRow.index in
    let stops = c.load.ensures.no_row index (c.in-Err-NoRow.is ∙ ap Err c.in-Err-NoRow.field-0-is) in
    let inside = (stop_is (tables_in c.args.keeper) front.changes index stops).inside in
    let len_is = c.in_ok-len-in-Err-NoRow.ensures front.changes (drop front.end body) found.fit found.text inside in
    let is = damaged_as c.damaged-in-Err-NoRow.result file at (gate + 5 + c.in_ok-len-in-Err-NoRow.len) c.damaged-in-Err-NoRow.ensures e in
    (is.0, λ some. no_row defs (tables_in c.args.keeper) gate body front.changes front.end found near index at stops (is.1 ∙ ap (λ (n : ℕ). gate + 5 + n) len_is))
