use Rattle.std.proofs.Common.{◌≡◌, List, ℕ, ◌+◌, ◌++◌, ◌∷◌, [], length, refl, ap, subst, arith, length-append}
use Rattle.std.specs.Int.{w16, to_le_bytes}
use Rattle.std.proofs.lemmas.Result.{on_ok_weaker}
use Rattle.std.specs.Option.{ForSome}
use Rattle.disk_core.specs.ChangeCalls.{Made, WriteCall}
use Rattle.disk_core.proofs.Plans.{stopped_before, then_made}
use Rattle.area_writer.specs.Put.{HasText}
use Rattle.area_writer.proofs.Behind.{has_room}
use Rattle.area_writer.proofs.Left.{shut_on, stopped_two}
use Rattle.area_writer.proofs.steps.put_header.Goals as goal

pub put_behind-requires-clause-inside : goal.put_behind-requires-clause-inside
put_behind-requires-clause-inside g c = λ x told. has_room [] x 1 refl (c.requires.shut x told)

pub put_behind-requires-2-clause-inside : goal.put_behind-requires-2-clause-inside
put_behind-requires-2-clause-inside g c = λ x told.
    let fields = c.args.fields.now in
    has_room fields x 33 (omega (arith, c.requires.fields)) (c.in_ok-put_behind.ensures.text [] refl c.requires.shut x told)

pub put_behind-requires-3-clause-inside : goal.put_behind-requires-3-clause-inside
put_behind-requires-3-clause-inside g c = λ x told.
    let fields = c.args.fields.now in
    let size = c.to_le_bytes.result in
    let place : 33 ≡ 1 + length fields = omega (arith, c.requires.fields) in
    let two : length size ≡ 2 = ap length c.to_le_bytes.ensures in
    has_room (fields ++ size) x 35 (omega (arith, place, length-append fields size, two))
    (c.in_ok-put_behind-2.ensures.text fields place (c.in_ok-put_behind.ensures.text [] refl c.requires.shut) x told)

pub returns-clause-text : goal.returns-clause-text
returns-clause-text g c =
    let fields = c.args.fields.now in
    let size = c.to_le_bytes.result in
    let place : 33 ≡ 1 + length fields = omega (arith, c.requires.fields) in
    let two : length size ≡ 2 = ap length c.to_le_bytes.ensures in
    let place_3 : 35 ≡ 1 + length (fields ++ size) = omega (arith, place, length-append fields size, two) in
    let before = c.in_ok-put_behind-2.ensures.text fields place (c.in_ok-put_behind.ensures.text [] refl c.requires.shut) in
    on_ok_weaker c.put_behind-3.result
    (λ text. subst (λ (l : List ℕ). ForSome (g.D.Disk.content c.put_behind-3.new.disk) (HasText (fields ++ l ++ c.args.schema.now))) c.to_le_bytes.ensures (text (fields ++ size) place_3 before))
    c.put_behind-3.ensures.text

pub returns-in_err-put_behind-clause-calls : goal.returns-in_err-put_behind-clause-calls
returns-in_err-put_behind-clause-calls g c =
    let calls = g.D.Disk.calls in
    stopped_before (WriteCall 1 c.args.fields.now ∷ []) (WriteCall 33 (to_le_bytes w16 (length c.args.schema.now)) ∷ WriteCall 35 c.args.schema.now ∷ [])
    c.from_residual.result (calls c.args.disk.now) (calls c.put_behind.new.disk) c.from_residual.ensures.0 c.in_err-put_behind.ensures.calls

pub returns-in_err-put_behind-2-clause-calls : goal.returns-in_err-put_behind-2-clause-calls
returns-in_err-put_behind-2-clause-calls g c =
    let calls = g.D.Disk.calls in
    let fields = WriteCall 1 c.args.fields.now in
    let second = c.from_residual-in_err-put_behind-2.result in
    let err = c.from_residual-in_err-put_behind-2.ensures.0 in
    let stopped = stopped_two fields c.to_le_bytes.result c.args.schema.now second (calls c.args.disk.now) (calls c.put_behind.new.disk) (calls c.put_behind-2.new.disk) err c.in_ok-put_behind.ensures.calls c.in_err-put_behind-2.ensures.calls in
    subst (λ (l : List ℕ). Made (fields ∷ WriteCall 33 l ∷ WriteCall 35 c.args.schema.now ∷ []) second (calls c.args.disk.now) (calls c.put_behind-2.new.disk)) c.to_le_bytes.ensures stopped

pub returns-clause-calls : goal.returns-clause-calls
returns-clause-calls g c =
    let calls = g.D.Disk.calls in
    let fields = WriteCall 1 c.args.fields.now in
    let old = calls c.args.disk.now in
    let size = WriteCall 33 c.to_le_bytes.result in
    let schema = WriteCall 35 c.args.schema.now in
    let both = then_made (size ∷ []) (schema ∷ []) c.put_behind-3.result (calls c.put_behind.new.disk) (calls c.put_behind-2.new.disk) (calls c.put_behind-3.new.disk) c.in_ok-put_behind-2.ensures.calls c.put_behind-3.ensures.calls in
    let all = then_made (fields ∷ []) (size ∷ schema ∷ []) c.put_behind-3.result old (calls c.put_behind.new.disk) (calls c.put_behind-3.new.disk) c.in_ok-put_behind.ensures.calls both in
    subst (λ (l : List ℕ). Made (fields ∷ WriteCall 33 l ∷ schema ∷ []) c.put_behind-3.result old (calls c.put_behind-3.new.disk)) c.to_le_bytes.ensures all

pub returns-in_err-put_behind-2-clause-shut : goal.returns-in_err-put_behind-2-clause-shut
returns-in_err-put_behind-2-clause-shut g c = shut_on g.D.Disk c.args.disk.now c.put_behind.new.disk c.put_behind-2.new.disk c.in_ok-put_behind.ensures.shut c.in_err-put_behind-2.ensures.shut

pub returns-clause-shut : goal.returns-clause-shut
returns-clause-shut g c = shut_on g.D.Disk c.args.disk.now c.put_behind-2.new.disk c.put_behind-3.new.disk
    (shut_on g.D.Disk c.args.disk.now c.put_behind.new.disk c.put_behind-2.new.disk c.in_ok-put_behind.ensures.shut c.in_ok-put_behind-2.ensures.shut)
    c.put_behind-3.ensures.shut
