use Rattle.std.proofs.Common.{ℕ, ◌≡◌, ◌≢◌, ◌∙◌, ◌++◌, ◌∷◌, [], List, ap, length, get_or, slice_set}
use Rattle.std.proofs.lemmas.List.{get_or-set_same, get_or-set_other}
use Rattle.slub_trace_reader.specs.State.{AreNoted}
use Rattle.slub_trace_reader.proofs.WrittenWords.{noted_first}
use Rattle.slub_trace_reader.proofs.written.Written.put_first.Goals as goal

pub returns-clause-noted : goal.returns-clause-noted
returns-clause-noted c =
    let old = c.args.self.now in
    let made = c.make_place.new.self in
    let spot = c.args.spot in
    let places = slice_set made.places.items spot.1 c.len.result in
    let here : get_or places spot.1 0 ≡ length old.keys =
    get_or-set_same made.places.items spot.1 c.len.result 0 c.in_ok-make_place.ensures.made ∙ c.len.ensures ∙ ap (λ (keys : List (ℕ × ℕ × ℕ)). length keys) c.make_place.ensures.keys in
    let others : (o : ℕ) → o ≢ spot.1 → get_or places o 0 ≡ get_or old.places.items o 0 =
    λ o off. get_or-set_other made.places.items spot.1 o c.len.result 0 off ∙ c.in_ok-make_place.ensures.same o in
    let kept : AreNoted (old.keys ++ spot ∷ []) places old.more.keys = noted_first old.keys old.more.keys old.places.items places spot c.requires.noted c.requires.first here others in
    let keys : c.push.new.self ≡ old.keys ++ spot ∷ [] = c.in_ok-push.ensures ∙ ap (λ (keys : List (ℕ × ℕ × ℕ)). keys ++ spot ∷ []) c.make_place.ensures.keys in
    rw (keys, c.make_place.ensures.more) kept
