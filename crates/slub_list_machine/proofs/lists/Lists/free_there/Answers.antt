use Rattle.std.proofs.Common.{◌≡◌, ◌≢◌, false, length, ap, sym, ◌∙◌, arith}
use Rattle.std.proofs.lemmas.Bool.Decides.{nat_tests}
use Rattle.slub_lists.specs.State.{State}
use Rattle.slub_lists.specs.Alloc.{own_free}
use Rattle.slub_lists.specs.Free.{is_frozen, without_spare, with_freed, with_taken}
use Rattle.slub_lists.proofs.Settling.{settled-listed}
use Rattle.slub_list_machine.proofs.lists.Lists.free_there.Goals as goal

-- the slab wasn't full, so it is on a list
pub returns-else-was_full-clause-freed : goal.returns-else-was_full-clause-freed
returns-else-was_full-clause-freed c =
    let t : State = with_freed (with_taken c.args.self.now c.args.object c.args.held.now.cache) c.args.held.now.frame c.args.held.now.index in
    let stocked : length (own_free c.args.self.now c.args.held.now.frame) ≢ 0 =
    λ full.
    let none = ap (λ (s : State). length (own_free s c.args.held.now.frame)) c.self.view_is ∙ full in
    let not_empty = c.if-was_full.ensures.value in
    grind (arith, nat_tests, none, not_empty) in
    let not_frozen : is_frozen t c.args.held.now.frame ≡ false = sym (ap (λ (s : State). is_frozen s c.args.held.now.frame) c.free_own.ensures.freed) ∙ sym c.if-is_frozen.ensures in
    c.drop_spare.ensures.without_spare ∙ ap (λ (s : State). without_spare s c.args.layout.now.min_partial c.args.held.now.cache c.args.held.now.frame) c.free_own.ensures.freed
    ∙ sym (settled-listed t c.args.layout.now c.args.held.now.cache c.args.cpu c.args.held.now.frame (own_free c.args.self.now c.args.held.now.frame) stocked not_frozen)
