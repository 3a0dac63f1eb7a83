use Rattle.std.proofs.Common.{◌<◌, List, [], ◌∷◌, ◌++◌, length, take, ◌∙◌, ap, sym, arith}
use Rattle.std.proofs.lemmas.Bool.{false≢true}
use Rattle.std.proofs.lemmas.Option.{get_or_from_slice_get}
use Rattle.slub_core.specs.declared.local.Known.{Known}
use Rattle.slub_calls.proofs.Numbers.{rooms}
use Rattle.slub_calls.proofs.Walks.{room_more}
use Rattle.slub_calls.proofs.share.rooms.Goals as goal
use Rattle.slub_calls.proofs.share.rooms.Goals.{in-Some+in_ok-push, in_default}

pub loop-at-preserved : goal.loop-at-preserved
loop-at-preserved c =
    let within : c.loop-at.at < length c.args.numbers.now.keys = let long = c.len-at-end.ensures.len in omega (arith, c.loop-at-test.true, long) in
    elim c.match-get_index.branch [
      | in-Some+in_ok-push w ↦
          let at = get_or_from_slice_get c.args.numbers.now.keys c.loop-at.at w.in-Some.object.now w.in-Some.object.now (sym w.in-Some.ensures.key) in
          ap (λ v. v.items) w.rooms-is ∙ w.in_ok-push.ensures.items
          ∙ ap (λ (rooms : List Known). rooms ++ w.room_for.result ∷ []) c.loop-at.invariant
          ∙ ap (λ (room : Known). rooms (take c.loop-at.at c.args.numbers.now.keys) ++ room ∷ []) w.room_for.ensures
          ∙ sym (room_more c.args.numbers.now.keys c.loop-at.at w.in-Some.object.now within (sym at))
      | in_default w ↦ absurd (false≢true (w.in_default.ensures.found.1 within))
    ]
