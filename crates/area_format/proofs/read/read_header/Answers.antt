use Rattle.std.proofs.Common.{◌≡◌, length, min, take, None, sym, ◌∙◌, ap, subst, arith}
use Rattle.std.proofs.lemmas.Grind.{common_steps}
use Rattle.area_format.specs.AreaRead.{body_fault, fields_fault, header_fault, start_fault}
use Rattle.area_format.specs.Area.{IsOpen}
use Rattle.area_format.specs.Places.{count_at, settings_at, u64_at}
use Rattle.area_format.specs.Results.{IsHeaderOf}
use Rattle.area_format.proofs.Fronts.{count_of, fields_of, for_some, front_read, generation_of, opens, settings_of, start_of}
use Rattle.area_format.proofs.Headers.{header_body, header_fields, header_start}
use Rattle.area_format.proofs.Stops.{named, stopped_open}
use Rattle.area_format.proofs.read.read_header.Goals as goal

pub returns-in-Some-clause-header : goal.returns-in-Some-clause-header
returns-in-Some-clause-header g c = λ bytes known.
    let front = c.read_at.new.into in
    let len : length front ≡ min c.in_ok-size.size 35 = grind (arith, common_steps) in
    let size = for_some (g.D.Disk.content c.args.disk.now) _ c.in_ok-size.ensures.size bytes known in
    let found = for_some (g.D.Disk.content c.size.new.self) _ c.in_ok-read_at.ensures.bytes bytes (c.size.ensures.same ∙ known) in
    let is : front ≡ take 35 bytes = front_read 35 c.in_ok-size.size front bytes found len size in
    let open_gate : IsOpen front = grind (arith, common_steps) in
    let opened = opens 35 bytes (omega arith) (subst IsOpen is open_gate) in
    let start : start_fault bytes ≡ c.start_fault.result = sym (start_of 35 bytes (omega arith)) ∙ ap start_fault (sym is) ∙ sym c.start_fault.ensures.fault in
    (opened, header_start bytes c.in-Some.at (start ∙ c.in-Some.is))

pub returns-in-Some-fields_fault-clause-header : goal.returns-in-Some-fields_fault-clause-header
returns-in-Some-fields_fault-clause-header g c = λ bytes known.
    let front = c.read_at.new.into in
    let len : length front ≡ min c.in_ok-size.size 35 = grind (arith, common_steps) in
    let size = for_some (g.D.Disk.content c.args.disk.now) _ c.in_ok-size.ensures.size bytes known in
    let found = for_some (g.D.Disk.content c.size.new.self) _ c.in_ok-read_at.ensures.bytes bytes (c.size.ensures.same ∙ known) in
    let is : front ≡ take 35 bytes = front_read 35 c.in_ok-size.size front bytes found len size in
    let open_gate : IsOpen front = grind (arith, common_steps) in
    let opened = opens 35 bytes (omega arith) (subst IsOpen is open_gate) in
    let start : start_fault bytes ≡ c.start_fault.result = sym (start_of 35 bytes (omega arith)) ∙ ap start_fault (sym is) ∙ sym c.start_fault.ensures.fault in
    let fields : fields_fault bytes ≡ c.fields_fault.result = sym (fields_of 35 bytes (omega arith)) ∙ ap fields_fault (sym is) ∙ sym c.fields_fault.ensures.fault in
    (opened, header_fields bytes c.in-Some-fields_fault.at (start ∙ c.in_default.is) (fields ∙ c.in-Some-fields_fault.is))

pub read_schema-requires-clause-front : goal.read_schema-requires-clause-front
read_schema-requires-clause-front g c = λ bytes known2.
    let known = sym (c.read_at.ensures.same ∙ c.size.ensures.same) ∙ known2 in
    let front = c.read_at.new.into in
    let len : length front ≡ min c.in_ok-size.size 35 = grind (arith, common_steps) in
    let size = for_some (g.D.Disk.content c.args.disk.now) _ c.in_ok-size.ensures.size bytes known in
    let found = for_some (g.D.Disk.content c.size.new.self) _ c.in_ok-read_at.ensures.bytes bytes (c.size.ensures.same ∙ known) in
    let is : front ≡ take 35 bytes = front_read 35 c.in_ok-size.size front bytes found len size in
    is

pub returns-in_err-schema-clause-header : goal.returns-in_err-schema-clause-header
returns-in_err-schema-clause-header g c = λ bytes known.
    let front = c.read_at.new.into in
    let len : length front ≡ min c.in_ok-size.size 35 = grind (arith, common_steps) in
    let size = for_some (g.D.Disk.content c.args.disk.now) _ c.in_ok-size.ensures.size bytes known in
    let found = for_some (g.D.Disk.content c.size.new.self) _ c.in_ok-read_at.ensures.bytes bytes (c.size.ensures.same ∙ known) in
    let is : front ≡ take 35 bytes = front_read 35 c.in_ok-size.size front bytes found len size in
    let open_gate : IsOpen front = grind (arith, common_steps) in
    let opened = opens 35 bytes (omega arith) (subst IsOpen is open_gate) in
    let start : start_fault bytes ≡ c.start_fault.result = sym (start_of 35 bytes (omega arith)) ∙ ap start_fault (sym is) ∙ sym c.start_fault.ensures.fault in
    let fields : fields_fault bytes ≡ c.fields_fault.result = sym (fields_of 35 bytes (omega arith)) ∙ ap fields_fault (sym is) ∙ sym c.fields_fault.ensures.fault in
    let there = c.read_at.ensures.same ∙ c.size.ensures.same ∙ known in
    let body = header_body bytes (start ∙ c.in_default.is) (fields ∙ c.in_default-fields_fault.is) in
    stopped_open (header_fault bytes) (IsHeaderOf bytes) c.in_err-schema.field-0.0 bytes c.from_residual-in_err-schema.result c.from_residual-in_err-schema.ensures.1 opened
    (λ at damaged. body ∙ named (body_fault bytes) c.in_err-schema.field-0.0 (c.in_err-schema.ensures.schema bytes there) at damaged)

pub returns-clause-header : goal.returns-clause-header
returns-clause-header g c = λ bytes known.
    let front = c.read_at.new.into in
    let len : length front ≡ min c.in_ok-size.size 35 = grind (arith, common_steps) in
    let size = for_some (g.D.Disk.content c.args.disk.now) _ c.in_ok-size.ensures.size bytes known in
    let found = for_some (g.D.Disk.content c.size.new.self) _ c.in_ok-read_at.ensures.bytes bytes (c.size.ensures.same ∙ known) in
    let is : front ≡ take 35 bytes = front_read 35 c.in_ok-size.size front bytes found len size in
    let open_gate : IsOpen front = grind (arith, common_steps) in
    let opened = opens 35 bytes (omega arith) (subst IsOpen is open_gate) in
    let start : start_fault bytes ≡ c.start_fault.result = sym (start_of 35 bytes (omega arith)) ∙ ap start_fault (sym is) ∙ sym c.start_fault.ensures.fault in
    let fields : fields_fault bytes ≡ c.fields_fault.result = sym (fields_of 35 bytes (omega arith)) ∙ ap fields_fault (sym is) ∙ sym c.fields_fault.ensures.fault in
    let there = c.read_at.ensures.same ∙ c.size.ensures.same ∙ known in
    let body = header_body bytes (start ∙ c.in_default.is) (fields ∙ c.in_default-fields_fault.is) in
    let schema = c.in_ok-schema.ensures.schema bytes there in
    let fine : header_fault bytes ≡ None = body ∙ schema.0 in (
      opened,
      fine,
      record {
        open_gate = opened;
        fine = fine;
        generation = c.generation_at.ensures ∙ ap (u64_at 3) is ∙ generation_of 35 bytes (omega arith);
        settings = c.settings_at.ensures ∙ ap settings_at is ∙ settings_of 35 bytes (omega arith);
        schema = schema.1;
        count = c.count_at.ensures ∙ ap count_at is ∙ count_of 35 bytes (omega arith);
      },
    )
