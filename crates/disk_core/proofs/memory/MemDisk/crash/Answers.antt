use Rattle.std.proofs.Common.{◌≡◌, ◌≤◌, List, ℕ, length, get_or, take, sym, ◌∙◌, ap, subst, arith, rules}
use Rattle.std.proofs.lemmas.Grind.{common_steps}
use Rattle.disk_core.specs.History.{content_after, MayLeave}
use Rattle.disk_core.specs.Memory.{content_of, synced_of}
use Rattle.disk_core.specs.Places.{at_sync}
use Rattle.disk_core.proofs.Chosen.{torn_byte, torn_left, torn_by_choice}
use Rattle.disk_core.proofs.Places.{is_image, may_leave}
use Rattle.disk_core.proofs.memory.MemDisk.crash.Goals as goal

pub returns : goal.returns
returns c =
    let d = c.self.inside in
    let calls = d.history.calls in
    let inside = c.self.invariant.inside in
    let choice = c.args.choice.now in
    let made = c.tear.new.image in
    let synced : c.deref.result.now ≡ at_sync d.initial.items calls = c.deref.ensures.value ∙ c.self.invariant.synced in
    let cut : c.deref_mut.result.now ≡ take c.args.size (content_after d.initial.items calls) = c.deref_mut.ensures.value ∙ c.truncate.ensures.items ∙ ap (λ (l : List ℕ). take c.args.size l) c.self.invariant.content in
    let least : length (at_sync d.initial.items calls) ≤ c.args.size = subst (λ s. length (synced_of s) ≤ c.args.size) (sym c.self.view_is) c.requires.least in
    let most : c.args.size ≤ length (content_after d.initial.items calls) = subst (λ s. c.args.size ≤ length (content_of s)) (sym c.self.view_is) c.requires.most in
    let long : length made ≡ length c.deref_mut.result.now = c.tear.auto.image in
    let refilled : c.refill.new.bytes.items ≡ made = grind (arith, common_steps) in
    let reads : content_after c.refill.new.bytes.items c.forget.new.self.calls ≡ made = ap (λ h. content_after c.refill.new.bytes.items h.calls) c.forget.ensures ∙ refilled in
    record {
      image = rw (← c.self.view_is) (subst (λ (l : List ℕ). MayLeave d.initial.items calls l) (sym reads) (torn_left d.initial.items calls inside choice made c.deref.result.now c.deref_mut.result.now c.args.size synced cut least most long c.tear.ensures));
      every_image = rw (← c.self.view_is) (λ image left size is. reads ∙ torn_by_choice d.initial.items calls inside choice made c.deref.result.now c.deref_mut.result.now c.args.size synced cut least most long c.tear.ensures image left size is);
      places = rw (← c.self.view_is) (λ image. (is_image d.initial.items calls inside image, may_leave d.initial.items calls inside image));
      size = search rules;
      bytes = rw (← c.self.view_is) (λ k lt. ap (λ (l : List ℕ). get_or l k 0) reads ∙ torn_byte d.initial.items calls inside choice made c.deref.result.now c.deref_mut.result.now c.args.size synced cut least most long c.tear.ensures k (omega (arith, ap length reads)));
      fresh = search rules;
    }
