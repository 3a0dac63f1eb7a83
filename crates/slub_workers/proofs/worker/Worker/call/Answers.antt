use Rattle.std.proofs.Common.{◌≡◌, ℕ, List, length, reverse, get_or, refl, sym, ap, ◌∙◌, subst}
use Rattle.std.proofs.lemmas.List.{length-reverse}
use Rattle.atomic_table.specs.Seated.{TableId}
use Rattle.slub_core.specs.declared.local.Answered.{Answered}
use Rattle.slub_core.specs.Local.{Local}
use Rattle.slub_workers.specs.declared.worker.Worker.TheInside.{Inside}
use Rattle.slub_workers.specs.Standing.{Standing}
use Rattle.slub_workers.specs.Rule.{setup_in}
use Rattle.slub_workers.specs.Turns.{Met}
use Rattle.slub_workers.specs.Calls.{IsOver, IsOneCall}
use Rattle.slub_workers.proofs.Calls.{is_answered}
use Rattle.slub_workers.proofs.CallTurns.{leaves_first, leaves_next, ends_now, goes_after}
use Rattle.slub_workers.proofs.worker.Worker.call.Goals as goal

pub loop-init : goal.loop-init
loop-init g c =
    let s = c.args.shared.now in
    let told = c.answers-told.result.now in
    let done = c.answers-told.ensures ∙ ap (λ (y : Inside). y.standing.local.done) c.self-inside.view_is ∙ ap (λ (p : TableId × Standing). p.1.local.done) c.self.view_is in
    record {
      seat = c.requires.seat;
      number = refl;
      told = sym (length-reverse told) ∙ ap (λ (ds : List Answered). length ds) done;
      leaves = leaves_first (setup_in s.words.shared.key) (length told) c.args.self.now.1;
    }

pub loop-preserved : goal.loop-preserved
loop-preserved g c =
    let s = c.args.shared.now in
    let inv = c.loop.invariant in
    let h = c.turn-answer.ensures.turned in
    let met : Met = record { word = h.found; value = h.value; refused = h.refused } in
    let y = c.turn-answer.new.self.1 in
    let local = ap (λ (y : Inside). y.standing.local) c.self-inside-in-loop.view_is ∙ ap (λ (p : TableId × Standing). p.1.local) c.self-in-loop.view_is in
    let not : ¬ IsOver (length c.answers-told.result.now) y.local = subst (λ (l : Local). ¬ IsOver (length c.answers-told.result.now) l) local (c.reply_after.ensures.none c.in_default.is) in
    record {
      seat = c.turn-answer.ensures.may;
      number = c.turn-answer.ensures.number ∙ inv.number;
      told = inv.told;
      leaves = leaves_next (setup_in s.words.shared.key) (length c.answers-told.result.now) c.args.self.now.1 c.loop.self.1 inv.leaves met y h.leads not;
    }

pub returns-in-Some-reply_after-clause-called : goal.returns-in-Some-reply_after-clause-called
returns-in-Some-reply_after-clause-called g c =
    let s = c.args.shared.now in
    let m = setup_in s.words.shared.key in
    let x = c.args.self.now.1 in
    let inv = c.loop.invariant in
    let h = c.turn-answer.ensures.turned in
    let met : Met = record { word = h.found; value = h.value; refused = h.refused } in
    let y = c.turn-answer.new.self.1 in
    let told = length c.answers-told.result.now in
    let reply = c.in-Some-reply_after.reply in
    let local = ap (λ (y : Inside). y.standing.local) c.self-inside-in-loop.view_is ∙ ap (λ (p : TableId × Standing). p.1.local) c.self-in-loop.view_is in
    let over = c.in-Some-reply_after.ensures.over in
    let is_over : IsOver told y.local = subst (λ (l : Local). IsOver told l) local over.0 in
    let replied : (d : Answered) → (get_or (reverse y.local.done) told d).reply ≡ reply = subst (λ (l : Local). (d : Answered) → (get_or (reverse l.done) told d).reply ≡ reply) local over.1 in
    let ends = ends_now m told x c.loop.self.1 inv.leaves met y h.leads is_over in
    let goes = goes_after m told x c.loop.self.1 inv.leaves met y h.leads in
    record {
      met = ends.0;
      one = subst (λ (n : ℕ). IsOneCall m n x ends.0) inv.told ends.1.0;
      leads = ends.1.1;
      answered = is_answered x.local y.local reply goes (subst (λ (n : ℕ). IsOver n y.local) inv.told is_over)
          (subst (λ (n : ℕ). (d : Answered) → (get_or (reverse y.local.done) n d).reply ≡ reply) inv.told replied);
    }
