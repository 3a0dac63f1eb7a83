-- A machine at rest whose worker is another between calls: it rests so too, where the worker knows the same objects.
use Rattle.std.proofs.Common.{◌≡◌, ℕ, ◌<◌, ◌≤◌, List, length, get_or, set, ap, sym, ◌∙◌, arith, sum_by}
use Rattle.std.specs.Option.{option_map, option_or}
use Rattle.std.proofs.lemmas.List.Elements.{All-set}
use Rattle.std.proofs.lemmas.List.Sums.{sum_by-set}
use Rattle.slub_lists.specs.State.{State}
use Rattle.slub_core.specs.Local.{Local}
use Rattle.slub_core.specs.Run.{idle}
use Rattle.slub_core.specs.World.{World}
use Rattle.slub_law_opening.specs.Opening.{Beside}
use Rattle.slub_law_opening.specs.Rests.{IsBetween, Rests, held_in, held_on, times_held, named, times_named}
use Rattle.slub_law_opening.proofs.Names.{holds}
use Rattle.slub_law_alone.proofs.Names.{among_same}

pub rests_with : (s : State) (b : Beside) (w : World) (ls : List Local) (x : ℕ) (l : Local) → Rests s b w ls → x < length ls → IsBetween w.setup l → l.worker ≡ (get_or ls x idle).worker → l.known ≡ (get_or ls x idle).known → Rests s b w (set ls x l)
rests_with s b w ls x l rests there between worker known = record {
  setup = rests.setup;
  words = rests.words;
  workers = All-set (IsBetween w.setup) ls x l between rests.workers;
  locks = rests.locks;
  values = rests.values;
  nodes = rests.nodes;
  cpu = rests.cpu;
  slab = rests.slab;
  unchecked = rests.unchecked;
  unslabbed = rests.unslabbed;
  own = rests.own;
  listed = rests.listed;
  named = λ o. rests.named o ∙ sym (names o);
  once = once;
  no_zero = rests.no_zero;
  contents = rests.contents;
}
  where
    names : (o : ℕ) → named w (set ls x l) o ≡ named w ls o
    names o = ap (option_or (option_map held_on (w.board o))) (among_same o ls x l (λ i. held_in (worker i) (known i) o))

    once : (o : ℕ) → times_named w (set ls x l) o ≤ 1
    once o =
        let c = sum_by-set (times_held o) ls x l idle there in
        let was = rests.once o in
        let same : times_held o l ≡ times_held o (get_or ls x idle) = ap (sum_by (holds o)) known in
        omega (arith, c, was, same)
