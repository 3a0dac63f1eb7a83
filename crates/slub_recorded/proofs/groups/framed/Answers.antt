use Rattle.std.proofs.Common.{◌≡◌, ◌+◌, List, [], ◌∷◌, ◌++◌, take, false, ap, sym, subst, ◌∙◌}
use Rattle.std.proofs.lemmas.List.{take_more}
use Rattle.slub_recorded.specs.declared.groups.Cache.{Cache}
use Rattle.slub_recorded.specs.declared.groups.Chosen.{Chosen}
use Rattle.slub_recorded.specs.Members.{AreFramed}
use Rattle.slub_recorded.proofs.Framed.{framed_more, left_more}
use Rattle.slub_recorded.proofs.groups.framed.Goals as goal
use Rattle.slub_recorded.proofs.groups.framed.Goals.{in-Some+in_ok-push, in_default}

pub loop-cache-preserved : goal.loop-cache-preserved
loop-cache-preserved c =
    let caches = c.args.caches.now in
    let i = c.loop-cache.cache-index in
    let item = c.cache-item.result in
    let front : List Cache = take i caches in
    let more : front ++ item ∷ [] ≡ take (i + 1) caches = ap (λ (x : Cache). front ++ x ∷ []) c.cache-item.is ∙ sym (take_more caches i item c.loop-cache-test.true) in
    let G : List Cache → Type 0 = λ g. AreFramed c.args.cpus g c.match-frames_of.chosen.items in
    let H : List Chosen → Type 0 = λ h. AreFramed c.args.cpus (front ++ item ∷ []) h in
    subst G more (elim c.match-frames_of.branch [
      | in-Some+in_ok-push w ↦
          let one : Chosen = record { cache = item; frames = w.in-Some.frames; second = false } in
          subst H (sym (ap (λ v. v.items) w.chosen-is ∙ w.in_ok-push.ensures.items)) (framed_more c.args.cpus front c.loop-cache.chosen.items one c.loop-cache.invariant w.in-Some.ensures.need)
      | in_default w ↦ subst H (sym (ap (λ v. v.items) w.chosen-is)) (left_more c.args.cpus front c.loop-cache.chosen.items item c.loop-cache.invariant w.in_default.ensures.need)
    ])
