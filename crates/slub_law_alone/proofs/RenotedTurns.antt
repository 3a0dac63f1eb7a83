-- Turns of a worker that has noted another CPU word, which it doesn't rely on.
use Rattle.std.proofs.Common.{◌≡◌, ℕ, zero, suc, ◌<◌, ◌^◌, ◌⊎◌, false, List, length, get_or, set, refl, sym, ap, ◌∙◌, subst, arith, inl, inr, sum_by}
use Rattle.std.specs.Option.{option_map, option_or}
use Rattle.std.proofs.lemmas.List.{get_or-set_same, set-set, length-set}
use Rattle.std.proofs.lemmas.List.Elements.{All-set, All-get_or}
use Rattle.std.proofs.lemmas.List.Sums.{sum_by-set}
use Rattle.slub_words.specs.declared.cpu.CpuWord.{CpuWord}
use Rattle.slub_lists.specs.State.{State}
use Rattle.slub_core.specs.declared.step.Step.{Step}
use Rattle.slub_core.specs.declared.step.Op.{Op}
use Rattle.slub_core.specs.Setup.{Setup}
use Rattle.slub_core.specs.Words.{number_of, after_op, answer_of}
use Rattle.slub_core.specs.World.{World}
use Rattle.slub_core.specs.Local.{Local, Change}
use Rattle.slub_core.specs.Spots.{notes_cpu}
use Rattle.slub_core.specs.Steps.{begun, step_of, advance_of}
use Rattle.slub_core.specs.Run.{System, idle, after_step, turn}
use Rattle.slub_law_opening.specs.Opening.{Beside}
use Rattle.slub_law_opening.specs.Rests.{IsBetween, Rests, held_on, held_in, times_held, named, times_named}
use Rattle.slub_law_opening.proofs.Names.{holds}
use Rattle.slub_law_alone.specs.Alone.{own_pick, alone, worker_at}
use Rattle.slub_law_alone.proofs.Names.{among_same}
use Rattle.slub_law_alone.proofs.Renoted.{renoted, change_renoted, begun_alike, step_alike, advanced_alike}

module _ (m : Setup) (c : CpuWord) (x : ℕ) where
  -- the worker has noted another CPU word
  abbrev pub system_renoted : System → System
  system_renoted s = record s { locals = set s.locals x (renoted c (worker_at s x)) }

  -- two machines are the same, or the same but for a CPU word that the worker noted and doesn't rely on
  abbrev pub SystemsAlike : System → System → Type 0
  SystemsAlike s r = (r ≡ s) ⊎ ((r ≡ system_renoted s) × (notes_cpu (worker_at s x).spot ≡ false))

  -- where a turn leads, by its change
  abbrev by_change : System → ℕ → ℕ → Op → Change → System
  by_change s n q op z = record { words = set s.words n (after_op op q); value = z.value; locals = set s.locals x z.local }

  abbrev by_step : System → Local → Step → System
  by_step s l step = let n = number_of m step.place in let q = get_or s.words n 0 in by_change s n q step.op (advance_of m false s.value l (answer_of step.op q))

  renoted_turn : (s : System) → x < length s.locals → notes_cpu (worker_at s x).spot ≡ false → SystemsAlike (turn m s (own_pick x)) (turn m (system_renoted s) (own_pick x))
  renoted_turn s below quiet =
      let l = worker_at s x in
      let r = system_renoted s in
      let started = begun_alike m c l quiet in
      let b = begun m false l in
      let step = step_of m s.value b in
      let n = number_of m step.place in
      let q = get_or s.words n 0 in
      let z = advance_of m false s.value b (answer_of step.op q) in
      let begins : turn m r (own_pick x) ≡ after_step m false r x (renoted c b) = ap (λ l. after_step m false r x (begun m false l)) (get_or-set_same s.locals x (renoted c l) idle below) ∙ ap (after_step m false r x) started.0 in
      let steps : turn m r (own_pick x) ≡ by_step r (renoted c b) step = begins ∙ ap (by_step r (renoted c b)) (step_alike m s.value c b b.spot started.1) in
      let over : (z : Change) → by_change r n q step.op z ≡ by_change s n q step.op z = λ z. ap (with_locals z) (set-set s.locals x (renoted c l) z.local) in
      elim (advanced_alike m c s.value b (answer_of step.op q) started.1) [
        | inl e ↦ inl (steps ∙ ap (by_change r n q step.op) e ∙ over z)
        | inr e ↦ inr (
          steps ∙ ap (by_change r n q step.op) e.0 ∙ over (change_renoted c z)
              ∙ sym (ap (with_locals z) (ap (λ l. set (set s.locals x z.local) x (renoted c l)) (get_or-set_same s.locals x z.local idle below) ∙ set-set s.locals x z.local (renoted c z.local))),
          ap (λ (l : Local). notes_cpu l.spot) (get_or-set_same s.locals x z.local idle below) ∙ e.1,
        )
      ]
    where
      with_locals : Change → List Local → System
      with_locals z locals =
          let step = step_of m s.value (begun m false (worker_at s x)) in
          let n = number_of m step.place in
          record { words = set s.words n (after_op step.op (get_or s.words n 0)); value = z.value; locals = locals }

  turn_alike : (s r : System) → x < length s.locals → SystemsAlike s r → SystemsAlike (turn m s (own_pick x)) (turn m r (own_pick x))
  turn_alike s r below (inl e) = inl (ap (λ s. turn m s (own_pick x)) e)
  turn_alike s r below (inr (e, quiet)) = subst (λ r. SystemsAlike (turn m s (own_pick x)) (turn m r (own_pick x))) (sym e) (renoted_turn s below quiet)

  -- so are they after any turns of the worker
  pub alone_alike : (turns : ℕ) (s r : System) → x < length s.locals → SystemsAlike s r → SystemsAlike (alone m x turns s) (alone m x turns r)
  alone_alike zero s r below alike = alike
  alone_alike (suc turns) s r below alike =
      let z = advance_of m false s.value (begun m false (worker_at s x)) (let step = step_of m s.value (begun m false (worker_at s x)) in answer_of step.op (get_or s.words (number_of m step.place) 0)) in
      alone_alike turns (turn m s (own_pick x)) (turn m r (own_pick x)) (let e = length-set s.locals x z.local in omega (arith, e, below)) (turn_alike s r below alike)

-- ---- a worker in another place, or with other notes

-- with the same number and the same objects, each number names what it named
pub named_same : (w : World) (ls : List Local) (x : ℕ) (l : Local) → l.worker ≡ (get_or ls x idle).worker → l.known ≡ (get_or ls x idle).known → (o : ℕ) → named w (set ls x l) o ≡ named w ls o
named_same w ls x l worker known o =
    ap (option_or (option_map held_on (w.board o))) (among_same o ls x l (ap (λ n. held_in n l.known o) worker ∙ ap (λ ks. held_in (get_or ls x idle).worker ks o) known))

pub times_same : (w : World) (ls : List Local) (x : ℕ) (l : Local) → x < length ls → l.known ≡ (get_or ls x idle).known → (o : ℕ) → times_named w (set ls x l) o ≡ times_named w ls o
times_same w ls x l below known o =
    let a = sum_by-set (times_held o) ls x l idle below in
    let e : times_held o l ≡ times_held o (get_or ls x idle) = ap (λ ks. sum_by (holds o) ks) known in
    omega (arith, a, e)

-- a machine rests in its lists whatever CPU word a worker has noted
pub rests_renoted : (s : State) (b : Beside) (w : World) (ls : List Local) (x : ℕ) (c : CpuWord) → (c.tid < 2 ^ 32) × (c.frame < 2 ^ 16) × (c.head < 2 ^ 16) → x < length ls → Rests s b w ls → Rests s b w (set ls x (renoted c (get_or ls x idle)))
rests_renoted s b w ls x c fit below rests =
    let l = get_or ls x idle in
    let between = All-get_or (IsBetween w.setup) ls x idle below rests.workers in
    record {
      setup = rests.setup;
      words = rests.words;
      workers = All-set (IsBetween w.setup) ls x (renoted c l) (record {
        between = between.between;
        hands = between.hands;
        string = between.string;
        run = between.run;
        packed = record { cpu_word = fit; slab_word = between.packed.slab_word; list_word = between.packed.list_word; next = between.packed.next };
        cpu = between.cpu;
        numbers = between.numbers;
        some = between.some;
      }) rests.workers;
      locks = rests.locks;
      values = rests.values;
      nodes = rests.nodes;
      cpu = rests.cpu;
      slab = rests.slab;
      unchecked = rests.unchecked;
      unslabbed = rests.unslabbed;
      own = rests.own;
      listed = rests.listed;
      named = λ o. rests.named o ∙ sym (named_same w ls x (renoted c l) refl refl o);
      once = λ o. let e = times_same w ls x (renoted c l) below refl o in let old = rests.once o in omega (arith, e, old);
      no_zero = rests.no_zero;
      contents = rests.contents;
    }
