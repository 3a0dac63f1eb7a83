use Rattle.std.proofs.Common.{◌≡◌, ◌∙◌, ap, length, arith, List, ℕ}
use Rattle.slub_engine.specs.Steps.{found_since, told_in}
use Rattle.slub_engine.proofs.Damages.{found_few, found_is}
use Rattle.slub_engine.proofs.Rounds.{same_ledgers}
use Rattle.slub_slabinfo_text.proofs.Zips.{front_taken}
use Rattle.slub_rounds.proofs.Replies.{ledgers_before}
use Rattle.slub_rounds.proofs.answers.result_of.Goals as goal

pub push_found-requires-clause-room : goal.push_found-requires-clause-room
push_found-requires-clause-room c =
    let s = c.requires.0 in
    let may = c.requires.1 in
    let told : c.deref.result.now ≡ told_in s = c.deref.ensures.value ∙ may.room.told in
    let few = found_few s c.args.lists.now (length c.args.round.now.events) may.before.shaped.checked.numbers may.coherent.shaped.checked.numbers may.reports may.findable in
    let same = ap (λ (counts : List ℕ). length (found_since counts c.args.lists.now)) told in
    omega (arith, same, few, may.room.damages.1)

pub returns : goal.returns
returns c = λ s may.
    let told : c.deref.result.now ≡ told_in s = c.deref.ensures.value ∙ may.room.told in
    let count : length c.args.locals.now ≡ c.args.round.now.workers = may.workers in
    let events = c.as_slice-events.ensures in
    record {
      replies = rw (c.from_vec.ensures, ← events) c.push_replies.ensures.replies;
      damages = c.from_vec-2.ensures ∙ c.push_found.ensures ∙ ap (λ (counts : List ℕ). found_since counts c.args.lists.now) told ∙ found_is s c.args.lists.now;
      ledgers =
          same_ledgers s _ _ _ _ _ _ _ _ events c.from_vec.ensures count (c.from_vec-3.ensures ∙ front_taken _ _ c.args.answers.ledgers.len (omega (arith, c.push_replies.ensures.ledgers.each, c.deref_mut-2.ensures.len)))
          (ledgers_before s c.args.lists.now _ _ _ may.table c.push_replies.ensures.ledgers);
    }
