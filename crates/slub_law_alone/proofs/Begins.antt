-- Before the first turn of a round the machine rests in the lists that it was opened from.
use Rattle.std.proofs.Common.{◌≡◌, ℕ, ◌+◌, ◌-◌, ◌*◌, ◌<◌, List, [], ◌∷◌, ◌++◌, get_or, map, refl, ap, sym, ◌∙◌, subst, arith, sum_by}
use Rattle.std.specs.Prelude.{All}
use Rattle.std.specs.Option.{option_map, option_or}
use Rattle.std.specs.List.{range_with_len}
use Rattle.std.proofs.lemmas.List.{get_or_append_left, get_or-append_right}
use Rattle.std.proofs.lemmas.List.Elements.{All-nil, All-cons, All-head, All-tail}
use Rattle.std.proofs.lemmas.List.FromFn.{get_or-map-range_with_len, length-map-range_with_len}
use Rattle.std.proofs.lemmas.List.Sums.{sum_by-cons}
use Rattle.slub_words.specs.Words.{cpu_bits, slab_bits}
use Rattle.slub_cpu_partial.specs.Strings.{list_bits}
use Rattle.slub_lists.specs.State.{State}
use Rattle.slub_core.specs.Setup.{Setup}
use Rattle.slub_core.specs.Words.{slab_base, list_base, slab_in, list_in}
use Rattle.slub_core.specs.Local.{Local}
use Rattle.slub_core.specs.Steps.{rested}
use Rattle.slub_core.specs.World.{World, world_of}
use Rattle.slub_core.proofs.Opens.{rounds_keep}
use Rattle.slub_core.proofs.Packed.{slab_in-bits, list_in-bits}
use Rattle.slub_law_opening.specs.Opening.{Beside, setup_of, opened_words}
use Rattle.slub_law_opening.specs.Rests.{IsBetween, Rests, held_on, held_in, held_among, times_held}
use Rattle.slub_law_opening.specs.Table.{board_number, words_of, system_of}
use Rattle.slub_law_opening.specs.Laws.{MayOpen}
use Rattle.slub_law_opening.proofs.Opened.{opened-rests}
use Rattle.slub_law_opening.proofs.Systems.{opened-rest}
use Rattle.slub_law_opening.proofs.Workers.{HoldsNothing}
use Rattle.slub_law_alone.specs.Alone.{AreWhole}
use Rattle.slub_law_alone.specs.Laws.{RoundsBeginAtRest}
use Rattle.slub_law_alone.proofs.Workers.{rested_calls}

-- ---- the words of a class

class_here : (f : ℕ → ℕ) (room : ℕ) (rest : List ℕ) (n : ℕ) → n < room → get_or (map f (range_with_len 0 room) ++ rest) n 0 ≡ f n
class_here f room rest n below = get_or_append_left (map f (range_with_len 0 room)) rest 0 n (let l = length-map-range_with_len f 0 room in omega arith) ∙ get_or-map-range_with_len f 0 room n n 0 below (omega arith)

class_past : (f : ℕ → ℕ) (room : ℕ) (rest : List ℕ) (n k : ℕ) → n ≡ room + k → get_or (map f (range_with_len 0 room) ++ rest) n 0 ≡ get_or rest k 0
class_past f room rest n k e = get_or-append_right (map f (range_with_len 0 room)) rest room n 0 (length-map-range_with_len f 0 room) (omega arith) ∙ ap (λ j. get_or rest j 0) (let q : n - room ≡ k = omega arith in q)

-- what stands behind the slab words, the CPU words, the list words
abbrev past_slabs : World → List ℕ
past_slabs w = map (λ object. board_number (w.board object)) (range_with_len 1 (w.setup.objects - 1)) ++ (map w.memory (range_with_len 0 (512 * w.setup.frames)) ++ map w.link (range_with_len 0 w.setup.frames))

abbrev past_cpus : World → List ℕ
past_cpus w = map (λ f. slab_bits (w.slab f)) (range_with_len 0 w.setup.frames) ++ past_slabs w

abbrev past_lists : World → List ℕ
past_lists w = map (λ n. cpu_bits (w.cpu n)) (range_with_len 0 w.setup.cpu_words) ++ past_cpus w

abbrev past_locks : World → List ℕ
past_locks w = map (λ n. list_bits (w.list n)) (range_with_len 0 w.setup.cpu_words) ++ past_lists w

slab_read : (w : World) (f : ℕ) → w.setup.locks ≡ 33 → w.setup.cpu_words ≡ 512 → f < w.setup.frames → get_or (words_of w) (slab_base + f) 0 ≡ slab_bits (w.slab f)
slab_read w f locks cpus below =
    class_past w.lock w.setup.locks (past_locks w) (slab_base + f) (1024 + f) (omega (arith, locks)) ∙ class_past (λ n. list_bits (w.list n)) w.setup.cpu_words (past_lists w) (1024 + f) (512 + f) (omega (arith, cpus))
    ∙ class_past (λ n. cpu_bits (w.cpu n)) w.setup.cpu_words (past_cpus w) (512 + f) f (omega (arith, cpus)) ∙ class_here (λ f. slab_bits (w.slab f)) w.setup.frames (past_slabs w) f below

list_read : (w : World) (n : ℕ) → w.setup.locks ≡ 33 → n < w.setup.cpu_words → get_or (words_of w) (list_base + n) 0 ≡ list_bits (w.list n)
list_read w n locks below = class_past w.lock w.setup.locks (past_locks w) (list_base + n) n (omega (arith, locks)) ∙ class_here (λ n. list_bits (w.list n)) w.setup.cpu_words (past_lists w) n below

-- opened words have no bit beside their fields
opened_whole : (s : State) (b : Beside) → MayOpen s b → AreWhole (setup_of s b) (words_of (opened_words s b))
opened_whole s b may =
    let w = opened_words s b in
    let worded = (opened-rests s b [] may.beside may.coherent may.laid_down (All-nil (IsBetween (setup_of s b))) (All-nil HoldsNothing)).words in
    record {
      slab = λ f below. subst (λ x. slab_bits (slab_in x) ≡ x) (sym (slab_read w f refl refl below)) (ap slab_bits (slab_in-bits (w.slab f) (worded.slab f)));
      list = λ n below. subst (λ x. list_bits (list_in x) ≡ x) (sym (list_read w n refl below)) (ap list_bits (list_in-bits (w.list n) (worded.list n)));
    }

-- ---- workers with the replies that take no step

all_between : (m : Setup) (n : Setup) (ls : List Local) → All (IsBetween n) ls → All (IsBetween n) (map (rested m) ls)
all_between m n [] are = All-nil (IsBetween n)
all_between m n (l ∷ ls) are =
    let here = All-head (IsBetween n) l ls are in
    let calls = rested_calls m l here.between in
    All-cons (IsBetween n) (rested m l) (map (rested m) ls) (subst (IsBetween n) (sym calls.same) (record {
      between = here.between;
      hands = here.hands;
      string = here.string;
      run = here.run;
      packed = record { cpu_word = here.packed.cpu_word; slab_word = here.packed.slab_word; list_word = here.packed.list_word; next = here.packed.next };
      cpu = here.cpu;
      numbers = here.numbers;
      some = here.some;
    })) (all_between m n ls (All-tail (IsBetween n) l ls are))

among_rested : (m n : Setup) (o : ℕ) (ls : List Local) → All (IsBetween n) ls → (held_among (map (rested m) ls) o ≡ held_among ls o) × (sum_by (times_held o) (map (rested m) ls) ≡ sum_by (times_held o) ls)
among_rested m n o [] are = (refl, refl)
among_rested m n o (l ∷ ls) are =
    let calls = rested_calls m l (All-head (IsBetween n) l ls are).between in
    let more = among_rested m n o ls (All-tail (IsBetween n) l ls are) in
    let here = ap (times_held o) calls.same in
    let c = sum_by-cons (times_held o) (rested m l) (map (rested m) ls) in
    let d = sum_by-cons (times_held o) l ls in
    (ap (λ (l : Local). option_or (held_in l.worker l.known o) (held_among (map (rested m) ls) o)) calls.same ∙ ap (option_or (held_in l.worker l.known o)) more.0, omega (arith, c, d, more.1, here))

rests_rested : (m : Setup) (s : State) (b : Beside) (w : World) (ls : List Local) → Rests s b w ls → Rests s b w (map (rested m) ls)
rests_rested m s b w ls rests = record {
  setup = rests.setup;
  words = rests.words;
  workers = all_between m w.setup ls rests.workers;
  locks = rests.locks;
  values = rests.values;
  nodes = rests.nodes;
  cpu = rests.cpu;
  slab = rests.slab;
  unchecked = rests.unchecked;
  unslabbed = rests.unslabbed;
  own = rests.own;
  listed = rests.listed;
  named = λ o. rests.named o ∙ sym (ap (option_or (option_map held_on (w.board o))) (among_rested m w.setup o ls rests.workers).0);
  once = λ o. let e = (among_rested m w.setup o ls rests.workers).1 in let old = rests.once o in omega arith;
  no_zero = rests.no_zero;
  contents = rests.contents;
}

pub begins_at_rest : RoundsBeginAtRest
begins_at_rest s b ls may begin =
    let m = setup_of s b in
    let system = system_of s b ls in
    let opens = opened-rest s b ls may begin in
    record {
      lists = may.coherent;
      beside = may.beside;
      rests = record { count = opens.0.count; rests = rests_rested m s b (world_of m system.value system.words) ls opens.0.rests };
      whole = opened_whole s b may;
      coherent = rounds_keep m system [] opens.1;
    }
