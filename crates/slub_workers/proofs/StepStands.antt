-- The step of a worker leads from workers that stand to workers that stand.
use Rattle.std.proofs.Common.{◌≡◌, ◌≢◌, ◌⊎◌, ℕ, ◌<◌, Bool, true, false, ◌||◌, List, [], ◌∷◌, ◌++◌, length, get_or, set, All, Contains, refl, sym, ap, ◌∙◌, subst, arith, inl, inr}
use Rattle.std.proofs.lemmas.Bool.{cases_eq, false≢true}
use Rattle.std.proofs.lemmas.List.Elements.{All-append, All-nil, All-cons}
use mathlib.Core.Option.{Option, some, some-injective}
use lib.ListN.{get_elem?}
use Rattle.atomic_table.proofs.Lists.{at_set, set_here, set_else}
use Rattle.slub_core.specs.declared.step.Step.{Step}
use Rattle.slub_core.specs.Setup.{Setup}
use Rattle.slub_core.specs.Words.{number_of}
use Rattle.slub_core.specs.World.{LockValue}
use Rattle.slub_core.specs.Listed.{IsGuarded}
use Rattle.slub_core.specs.Local.{Local}
use Rattle.slub_core.specs.Run.{System, Pick, idle, turn, run}
use Rattle.slub_core.specs.Law.{IsCoherentSystem}
use Rattle.slub_core.specs.declared.guarded.Guarded.{Guarded}
use Rattle.slub_core.specs.declared.guarded.Guarded.TheVariants.{Nothing}
use Rattle.slub_core.specs.Values.{values_of, rooms_of}
use Rattle.slub_turns.specs.Fits.{HasRooms}
use Rattle.slub_schedule.specs.Schedule.{IsCall}
use Rattle.slub_turns.specs.Laws.{TurnsKeepReady, PicksFit}
use Rattle.slub_turns.specs.Ready.{rooms_for, MayTurn, IsReady}
use Rattle.slub_workers.specs.Begun.{Begun}
use Rattle.slub_workers.specs.Locks.{Move, Stays, Takes, Gives, locks_of, slots_out}
use Rattle.slub_workers.specs.Standing.{Standing, begun_in, step_in, after_turn, locals_of}
use Rattle.slub_workers.specs.Rule.{Stands, setup_in, facts_in, system_begun, table_in}
use Rattle.slub_workers.specs.Sits.{MayStand, slots_after}
use Rattle.slub_workers.proofs.LockSteps.{MovesLocks}
use Rattle.slub_workers.proofs.LockSorts.{IsStepFor, step_is}
use Rattle.slub_workers.proofs.LockBounds.{MovesBelow, has_below}
use Rattle.slub_workers.proofs.StepLists.{at_below}
use Rattle.slub_workers.proofs.StepOwners.{lock_apart, lock_free}
use Rattle.slub_workers.proofs.StepMoves.{AreInHand, IsTaken, homes_moved, IsHome, moved-before, moved-home}
use Rattle.slub_workers.proofs.StepTurn.{whole, IsAmong, word_of, found_of, move_made, words_made, change_made, guards_after, local-is, worker-below, move-below, turned-locks, length-turned, turned-hand, else-stays, values-after, turn-is}
use Rattle.slub_workers.proofs.StepReady.{guarded-value, many-guards, rooms-kept}

-- ---- of a round

abbrev pub number_at : Begun → Bool → Standing → ℕ
number_at key tries x = word_of (setup_in key) tries x

abbrev pub found_at : Begun → List ℕ → Bool → Standing → ℕ
found_at key words tries x = found_of (setup_in key) words tries x

abbrev pub move_at : Begun → List ℕ → Bool → Standing → Move
move_at key words tries x = move_made (setup_in key) words tries x

abbrev pub words_after : Begun → List ℕ → Bool → Standing → List ℕ
words_after key words tries x = words_made (setup_in key) words tries x

-- one turn more
run_more : (m : Setup) (s : System) (picks : List Pick) (pick : Pick) → run m s (picks ++ pick ∷ []) ≡ turn m (run m s picks) pick
run_more m s [] pick = refl
run_more m s (p ∷ picks) pick = run_more m (turn m s p) picks pick

-- ---- the slots of the locks that a worker has

moved-slots : (move : Move) (before after : List ℕ) → MovesLocks move before after → slots_out after ≡ slots_after move Nothing (slots_out before)
moved-slots Stays before after moves = ap (λ (locks : List ℕ). slots_out locks) moves
moved-slots (Takes k) before after moves = ap (λ (locks : List ℕ). slots_out locks) moves.0
moved-slots (Gives k) before after moves = ap (λ (locks : List ℕ). slots_after (Gives k) Nothing (slots_out locks)) (sym moves.0)

-- ---- the lock that a step takes

-- its word is 0
taken-free : (m : Setup) (words : List ℕ) (tries : Bool) (x : Standing) (lock : ℕ) → move_made m words tries x ≡ Takes lock → get_or words lock 0 ≡ 0
taken-free m words tries x lock takes =
    let l = begun_in m tries x in
    let n = found_of m words tries x in
    let is : IsStepFor l (Takes lock) (step_in m tries x) n = subst (λ (move : Move). IsStepFor l move (step_in m tries x) n) takes (step_is m (values_of x.values) l n) in
    ap (λ (step : Step). get_or words (number_of m step.place) 0) (sym is.0) ∙ is.1

or-none : (a b : Bool) → (a || b) ≡ false → (a ≡ false) × (b ≡ false)
or-none true b none = absurd (false≢true (sym none))
or-none false b none = (refl, none)

-- ---- a worker that stands among the others

module _ (key : Begun) (words : List ℕ) (homes : List (Option Guarded)) (all : List Standing) (w : ℕ) (tries : Bool) (x : Standing) (keep : TurnsKeepReady) (fit : PicksFit)
    (st : Stands key words homes all) (slots : length homes ≡ 33) (here : get_elem? all w ≡ some x) where
  abbrev sys : System
  sys = whole words st.guards all

  coherent : IsCoherentSystem (setup_in key) st.ready.may.opening sys
  coherent = st.ready.may.coherent

  pub among : IsAmong (setup_in key) st.ready.may.opening words st.guards all w x
  among = record {
    coherent = coherent;
    here = here;
    hand = λ lock has. st.hand w x lock here has;
    room = st.room w x here;
    many = many-guards (setup_in key) st.guards st.ready.full;
  }

  -- a worker that has a lock, as one of the system
  in_system : (k : ℕ) (z : Standing) (lock : ℕ) → get_elem? all k ≡ some z → Contains (locks_of z.local) lock → (k < length (locals_of all)) × Contains (locks_of (get_or (locals_of all) k idle)) lock
  in_system k z lock e has = (worker-below all k z e, subst (λ (l : Local). Contains (locks_of l) lock) (sym (local-is all k z e)) has)

  none_before : (lock : ℕ) → move_at key words tries x ≡ Takes lock → (k : ℕ) (z : Standing) → get_elem? all k ≡ some z → ¬ Contains (locks_of z.local) lock
  none_before lock takes k z e has =
      let there = in_system k z lock e has in
      lock_free (setup_in key) st.ready.may.opening sys coherent k lock there.0 (taken-free (setup_in key) words tries x lock takes) there.1

  below-taken : MovesBelow (move_at key words tries x) 33
  below-taken = move-below among tries

  home-of : (move : Move) → move_at key words tries x ≡ move → MovesBelow move 33 → (y : Guarded) × IsHome move homes y
  home-of Stays is below = (Nothing, tt)
  home-of (Takes lock) is below = (get_or st.guards lock Nothing, st.home lock below (none_before lock is))
  home-of (Gives lock) is below = (Nothing, tt)

  -- where a step takes a lock, what that guards lies at home
  pub takes_home : (y : Guarded) × IsHome (move_at key words tries x) homes y
  takes_home = home-of (move_at key words tries x) refl below-taken

  taken-of : (move : Move) → move_at key words tries x ≡ move → MovesBelow move 33 → (y : Guarded) → IsHome move homes y → IsTaken move st.guards y
  taken-of Stays is below y home = tt
  taken-of (Takes lock) is below y home =
      let g = get_or st.guards lock Nothing in
      some-injective y g (some-injective (some y) (some g) (sym home ∙ st.home lock below (none_before lock is)))
  taken-of (Gives lock) is below y home = tt

  -- ---- after its turn

  module _ (y : Guarded) (home : IsHome (move_at key words tries x) homes y) where
    pub taken : IsTaken (move_at key words tries x) st.guards y
    taken = taken-of (move_at key words tries x) refl below-taken y home

    module _ (refused : Bool) where
      abbrev next : Standing
      next = after_turn (setup_in key) tries x (found_at key words tries x) y refused

      abbrev new_guards : List Guarded
      new_guards = guards_after (setup_in key) refused words st.guards tries x

      abbrev others : List Standing
      others = set all w next

      abbrev pick : Pick
      pick = record { worker = w; refused = refused; tries = tries }

      next-there : get_elem? others w ≡ some next
      next-there = set_here all w next (at_below all w x here)

      locks-next : MovesLocks (move_at key words tries x) (locks_of x.local) (locks_of next.local)
      locks-next = turned-locks among tries y taken refused

      -- what the locks guard that it hasn't stays as it was
      guard-else : (lock : ℕ) → lock < 33 → ¬ Contains (locks_of next.local) lock → get_or new_guards lock Nothing ≡ get_or st.guards lock Nothing
      guard-else = else-stays among tries y taken refused

      turned : turn (setup_in key) sys pick ≡ whole (words_after key words tries x) new_guards others
      turned = turn-is among tries y taken refused

      may-next : MayTurn (setup_in key) (whole (words_after key words tries x) new_guards others)
      may-next = subst (λ (s : System). MayTurn (setup_in key) s) turned (keep (setup_in key) sys pick st.ready.may)

      full-next : rooms_of new_guards ≡ rooms_for (setup_in key)
      full-next =
          let m = setup_in key in
          let c = change_made m refused words st.guards tries x in
          let values : values_of new_guards ≡ c.value = values-after among tries y taken refused in
          rooms-kept m st.guards c.value st.ready.full (λ n below. subst (λ (v : ℕ → LockValue). IsGuarded m n (v n)) values (guarded-value m may-next.opening (whole (words_after key words tries x) new_guards others) may-next.coherent n below))

      ready-next : IsReady (facts_in key) (table_in key (words_after key words tries x)) new_guards (locals_of others)
      ready-next = record {
        may = may-next;
        sizes = record { frames = st.ready.sizes.frames; objects = st.ready.sizes.objects };
        rooms = subst (λ (rooms : List ℕ). HasRooms (setup_in key) rooms) (st.ready.full ∙ sym full-next) st.ready.rooms;
        full = full-next;
      }

      numbers-next : (k : ℕ) (z : Standing) → get_elem? others k ≡ some z → z.local.worker ≡ k
      numbers-next k z e =
          ap (λ (l : Local). l.worker) (sym (local-is others k z e)) ∙ may-next.bounded.numbers k (worker-below others k z e)

      -- another worker has no lock that this one has
      apart-next : (k : ℕ) (z : Standing) (lock : ℕ) → k ≢ w → get_elem? all k ≡ some z → Contains (locks_of z.local) lock → ¬ Contains (locks_of next.local) lock
      apart-next k z lock apart e has mine =
          let there = in_system k z lock e has in
          elim (moved-before (move_at key words tries x) (locks_of x.local) (locks_of next.local) locks-next lock mine) [
            | inl old ↦
                let me = in_system w x lock here old in
                lock_apart (setup_in key) st.ready.may.opening sys coherent k w lock apart there.0 me.0 there.1 me.1
            | inr takes ↦ none_before lock takes k z e has
          ]

      home-next : (lock : ℕ) → lock < 33 → ((k : ℕ) (z : Standing) → get_elem? others k ≡ some z → ¬ Contains (locks_of z.local) lock)
          → get_elem? (homes_moved (move_at key words tries x) x.values homes) lock ≡ some (some (get_or new_guards lock Nothing))
      home-next lock below none_has =
          let mine : ¬ Contains (locks_of next.local) lock = none_has w next next-there in
          moved-home (move_at key words tries x) x.values st.guards homes (locks_of x.local) (locks_of next.local) lock locks-next (omega arith) among.hand mine
          (λ hasnt. st.home lock below (λ k z e. none_old hasnt k z e (cases_eq k w)))
          ∙ ap (λ (g : Guarded). some (some g)) (sym (guard-else lock below mine))
        where
          none_old : ¬ Contains (locks_of x.local) lock → (k : ℕ) (z : Standing) → get_elem? all k ≡ some z → (k ≡ w) ⊎ (k ≡ w → ⊥) → ¬ Contains (locks_of z.local) lock
          none_old hasnt k z e (inl is) has =
              let same : z ≡ x = some-injective z x (sym e ∙ ap (λ (j : ℕ). get_elem? all j) is ∙ here) in
              hasnt (subst (λ (o : Standing). Contains (locks_of o.local) lock) same has)
          none_old hasnt k z e (inr apart) has = none_has k z (set_else all w k next apart ∙ e) has

      hand-next : (k : ℕ) (z : Standing) (lock : ℕ) → get_elem? others k ≡ some z → Contains (locks_of z.local) lock → get_or z.values lock Nothing ≡ get_or new_guards lock Nothing
      hand-next k z lock e has = elim (at_set all w k next z e) [
        | inl me ↦
            let mine : AreInHand (locks_of next.local) next.values new_guards =
            turned-hand among tries y taken refused in
            subst (λ (o : Standing). Contains (locks_of o.local) lock → get_or o.values lock Nothing ≡ get_or new_guards lock Nothing) me.1 (mine lock) has
        | inr other ↦
            let there = in_system k z lock other.1 has in
            st.hand k z lock other.1 has
            ∙ sym (guard-else lock (has_below (setup_in key) st.ready.may.opening sys k lock coherent there.0 there.1) (apart-next k z lock other.0 other.1 has))
      ]

      room-next : (k : ℕ) (z : Standing) → get_elem? others k ≡ some z → length z.values ≡ 33
      room-next k z e = elim (at_set all w k next z e) [
        | inl me ↦ subst (λ (o : Standing). length o.values ≡ 33) me.1 (length-turned among tries y taken refused)
        | inr other ↦ st.room k z other.1
      ]

      -- where none of them has tried then, none had before, and this turn is no try
      calls-next : ((k : ℕ) (z : Standing) → get_elem? others k ≡ some z → z.tried ≡ false) → All IsCall (st.picks ++ pick ∷ [])
      calls-next none =
          let mine = or-none x.tried tries (none w next next-there) in
          All-append IsCall st.picks (pick ∷ []) (st.calls (λ k z e. none-before mine.0 k z e (cases_eq k w))) (All-cons IsCall pick [] mine.1 (All-nil IsCall))
        where
          none-before : x.tried ≡ false → (k : ℕ) (z : Standing) → get_elem? all k ≡ some z → (k ≡ w) ⊎ (k ≡ w → ⊥) → z.tried ≡ false
          none-before mine k z e (inl is) =
              let same : x ≡ z = some-injective x z (sym here ∙ ap (λ (j : ℕ). get_elem? all j) (sym is) ∙ e) in
              subst (λ (o : Standing). o.tried ≡ false) same mine
          none-before mine k z e (inr apart) = none k z (set_else all w k next apart ∙ e)

      -- so all stand after it
      pub stands_step : Stands key (words_after key words tries x) (homes_moved (move_at key words tries x) x.values homes) (set all w (after_turn (setup_in key) tries x (found_at key words tries x) y refused))
      stands_step = record {
        guards = new_guards;
        picks = st.picks ++ pick ∷ [];
        ready = ready-next;
        calls = calls-next;
        ran = run_more (setup_in key) (system_begun key) st.picks pick ∙ ap (λ (s : System). turn (setup_in key) s pick) st.ran ∙ turned;
        numbers = numbers-next;
        home = home-next;
        hand = hand-next;
        room = room-next;
      }

      -- it has its number still
      pub stays_numbered : (after_turn (setup_in key) tries x (found_at key words tries x) y refused).local.worker ≡ w
      stays_numbered = numbers-next w next next-there

      pub may_stand : MayStand key next
      may_stand = record {
        words = words_after key words tries x;
        homes = homes_moved (move_at key words tries x) x.values homes;
        all = others;
        stands = stands_step;
        here = ap (λ (k : ℕ). get_elem? others k) stays_numbered ∙ next-there;
      }

      pub slots_next : slots_out (locks_of next.local) ≡ slots_after (move_at key words tries x) Nothing (slots_out (locks_of x.local))
      slots_next = moved-slots (move_at key words tries x) (locks_of x.local) (locks_of next.local) locks-next
