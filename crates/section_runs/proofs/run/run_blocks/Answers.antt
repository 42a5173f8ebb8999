use Rattle.std.proofs.Common.{rules, ◌≡◌, ◌+◌, length, List, [], ◌∷◌, ◌++◌, Option, None, Some, slice_get, refl, sym, ◌∙◌, ap, subst, arith}
use Rattle.std.proofs.lemmas.Option.{slice_get_read}
use Rattle.std.proofs.lemmas.List.{append-nil}
use Rattle.row_types.specs.declared.block.Block.{Block}
use Rattle.plain_model.specs.Blocks.{Said}
use Rattle.section_runs.specs.Lasting.{Runs}
use Rattle.section_runs.specs.Sections.{with_replies}
use Rattle.section_runs.proofs.RunLaws.{block_said, block_short, block_stopped, nothing_run, runs_on, still_keeps}
use Rattle.section_runs.proofs.SectionLaws.{with_none, with_replies-push}
use Rattle.section_runs.proofs.run.run_blocks.Goals as goal

pub loop-block-init : goal.loop-block-init
loop-block-init g c = (
  search (rules, c.requires.none),
  c.requires.room,
  refl,
  subst (λ (l : List Said). Runs g.D.Disk c.args.store.now l None c.args.store.now) (sym (ap (with_replies c.args.blocks.now) c.requires.none ∙ with_none c.args.blocks.now))
      (nothing_run g.D.Disk g.met.D.Disk.only_now c.args.store.now),
)

pub run-requires : goal.run-requires
run-requires g c = still_keeps g.D.Disk c.args.store.now c.loop-block.store (with_replies c.args.blocks.now c.loop-block.said.items) c.loop-block.invariant.3 c.requires.keeps

pub returns-in-Stopped-clause-runs : goal.returns-in-Stopped-clause-runs
returns-in-Stopped-clause-runs g c =
    let d = g.D.Disk in
    let start = c.args.store.now in
    let mid = c.loop-block.store in
    let new = c.run.new.self in
    let blocks = c.args.blocks.now in
    let block : Block = c.block-item.result in
    let said = with_replies blocks c.loop-block.said.items in
    let count : length c.loop-block.said.items ≡ c.loop-block.block-index = omega (arith, c.loop-block.said.ok.0, c.loop-block.invariant.0) in
    let at : slice_get blocks c.loop-block.block-index ≡ Some block = slice_get_read blocks (length blocks) c.loop-block.block-index block refl (omega arith) c.block-item.is in
    let both : Runs d start (said ++ []) (Some block) new = runs_on d start mid new said [] (Some block) c.loop-block.invariant.3 (block_stopped d block mid new c.in-Stopped.ensures) in
    subst (λ (o : Option Block). Runs d start said o new) (sym (ap (slice_get blocks) count ∙ at)) (subst (λ (l : List Said). Runs d start l (Some block) new) (append-nil said) both)

pub returns-in-OutOfMemory-clause-runs : goal.returns-in-OutOfMemory-clause-runs
returns-in-OutOfMemory-clause-runs g c =
    let d = g.D.Disk in
    let start = c.args.store.now in
    let mid = c.loop-block.store in
    let new = c.run.new.self in
    let said = with_replies c.args.blocks.now c.loop-block.said.items in
    subst (λ (l : List Said). Runs d start l None new) (append-nil said)
    (runs_on d start mid new said [] None c.loop-block.invariant.3 (block_short d g.met.D.Disk.only_now mid new c.in-OutOfMemory.ensures))

pub loop-block-preserved : goal.loop-block-preserved
loop-block-preserved g c =
    let d = g.D.Disk in
    let start = c.args.store.now in
    let mid = c.loop-block.store in
    let new = c.run.new.self in
    let blocks = c.args.blocks.now in
    let block : Block = c.block-item.result in
    let replies = c.in-Said.replies in
    let before = c.loop-block.said.items in
    let said = with_replies blocks before in
    let one : Said = record { block = block; replies = replies } in
    let count : length before ≡ c.loop-block.block-index = omega (arith, c.loop-block.said.ok.0, c.loop-block.invariant.0) in
    let at : slice_get blocks c.loop-block.block-index ≡ Some block = slice_get_read blocks (length blocks) c.loop-block.block-index block refl (omega arith) c.block-item.is in
    let both : Runs d start (said ++ one ∷ []) None new = runs_on d start mid new said (one ∷ []) None c.loop-block.invariant.3 (block_said d block replies mid new c.in-Said.ensures) in
    let pushed : with_replies blocks c.push_reserved.new.self.items ≡ said ++ one ∷ [] =
    ap (with_replies blocks) c.push_reserved.ensures.items ∙ with_replies-push blocks before block replies (ap (slice_get blocks) count ∙ at) in (
      omega (arith, c.push_reserved.ensures.len, c.loop-block.invariant.0),
      omega (arith, c.push_reserved.ensures.capacity, c.loop-block.invariant.1),
      c.in-Said.ensures.faults ∙ c.loop-block.invariant.2,
      subst (λ (l : List Said). Runs d start l None new) (sym pushed) both,
    )
