use Rattle.std.proofs.Common.{◌≡◌, ◌∙◌, List, get_or, Option, None, Some, ap, sym, arith}
use Rattle.std.proofs.lemmas.Grind.{common_steps}
use Rattle.slub_red_zone.specs.State.{CheckedState}
use Rattle.slub_lists.specs.State.{State}
use Rattle.slub_lists.specs.Alloc.{checked_of, named}
use Rattle.slub_lists.proofs.CheckedReplies.{read-some}
use Rattle.slub_lists.proofs.FlushingCpu.{keeps-all}
use Rattle.slub_lists.proofs.Trimming.{live-below, place-live, trims-checked, trims-unchecked}
use Rattle.slub_list_machine.proofs.lists.Lists.trim.Goals as goal

pub index-requires : goal.index-requires
index-requires c =
    let s : State = c.args.self.now in
    let is : named s c.args.place ≡ Some c.in-Some.cache = ap (λ (t : State). named t c.args.place) (sym c.self.view_is) ∙ sym c.in-Some.ensures.named in
    let shaped = c.requires.coherent.shaped in
    let below = live-below s c.in-Some.cache shaped (place-live s c.args.place c.in-Some.cache shaped is) in
    grind (arith, common_steps, below, shaped.checked.numbers)

pub trim_cache-requires-clause-live : goal.trim_cache-requires-clause-live
trim_cache-requires-clause-live c =
    let s : State = c.args.self.now in
    let is : named s c.args.place ≡ Some c.in-Some.cache = ap (λ (t : State). named t c.args.place) (sym c.self.view_is) ∙ sym c.in-Some.ensures.named in
    place-live s c.args.place c.in-Some.cache c.requires.coherent.shaped is

pub returns-then-is_some-clause-trims : goal.returns-then-is_some-clause-trims
returns-then-is_some-clause-trims c =
    let s : State = c.args.self.now in
    let is : named s c.args.place ≡ Some c.in-Some.cache = ap (λ (t : State). named t c.args.place) (sym c.self.view_is) ∙ sym c.in-Some.ensures.named in
    let shaped = c.requires.coherent.shaped in
    let below = live-below s c.in-Some.cache shaped (place-live s c.args.place c.in-Some.cache shaped is) in
    let same : c.self.inside.checked.items ≡ s.checked = ap (λ (t : State). t.checked) c.self.view_is in
    let read = c.index.ensures ∙ ap (λ (l : List (Option CheckedState)). get_or l c.in-Some.cache c.index.result.now) same in
    trims-checked s c.args.place c.in-Some.cache is
    (read-some s.checked c.in-Some.cache c.index.result.now (omega (arith, below, shaped.checked.numbers)) read (grind (arith, common_steps)))

pub returns-clause-trims : goal.returns-clause-trims
returns-clause-trims c =
    let s : State = c.args.self.now in
    let is : named s c.args.place ≡ Some c.in-Some.cache = ap (λ (t : State). named t c.args.place) (sym c.self.view_is) ∙ sym c.in-Some.ensures.named in
    let none : checked_of s c.in-Some.cache ≡ None = grind (arith, common_steps) in
    trims-unchecked s c.trim_cache.new.self c.args.place c.in-Some.cache c.trim_cache.result is none c.trim_cache.ensures.shrinks c.trim_cache.ensures.discarded

pub returns-clause-others : goal.returns-clause-others
returns-clause-others c = keeps-all c.args.self.now c.trim_cache.new.self c.trim_cache.ensures.rest
