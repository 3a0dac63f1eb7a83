-- The turns of a call of a checked cache that takes the pool's lock too, for a run of frames; and what a machine rests in after it.
use Rattle.std.proofs.Common.{◌≡◌, ℕ, zero, suc, ◌-◌, ◌+◌, ◌<◌, ◌≤◌, eqb, cond, Bool, true, false, List, length, get_or, set, Option, Some, None, inl, inr, refl, ap, sym, ◌∙◌, subst, arith}
use Rattle.std.specs.Prelude.{nat_lt, option_map, unwrap_or}
use Rattle.std.proofs.lemmas.Bool.{cases_lt, eq-eqb, cond-true, cond-false, lt-ltb, le-ltb}
use Rattle.std.proofs.lemmas.List.{get_or-set_other}
use Rattle.slub_trace.specs.declared.reply.Reply.{Reply}
use Rattle.slub_page_pool.specs.FreeFrames.{FreeFrames}
use Rattle.slub_red_zone.specs.State.{CheckedState, SlabState, no_slab, slab_of as checked_slab, objects_in}
use Rattle.slub_red_zone.specs.Objects.{shape_at, shape_of}
use Rattle.slub_red_zone.specs.Sound.{IsSound}
use Rattle.slub_lists.specs.declared.lists.Slab.{Slab}
use Rattle.slub_lists.specs.State.{State}
use Rattle.slub_lists.specs.Alloc.{checked_of, slab_of}
use Rattle.slub_core.specs.declared.call.CallKind.{CallKind}
use Rattle.slub_core.specs.declared.spot.Spot.TheVariants.{Between, InChecked}
use Rattle.slub_core.specs.declared.spot.CheckedSpot.TheVariants.{LockChecked, LockRun, GiveRun, GiveChecked}
use Rattle.slub_core.specs.declared.step.Step.{Step}
use Rattle.slub_core.specs.declared.step.Answer.{Answer}
use Rattle.slub_core.specs.declared.step.Answer.TheVariants.{Done, Won, Lost}
use Rattle.slub_core.specs.declared.step.Op.TheVariants.{Store, Exchange}
use Rattle.slub_core.specs.declared.step.Place.TheVariants.{LockOf}
use Rattle.slub_core.specs.Setup.{Setup, node_lock, pool_lock}
use Rattle.slub_core.specs.World.{World, LockValue, Checked, Pool, update, set_value, world_of, objects_at, cache_at, order_at}
use Rattle.slub_core.specs.Local.{Local, Turn, Change, at, noted, goes, stays}
use Rattle.slub_core.specs.Listed.{IsGuarded}
use Rattle.slub_core.specs.Run.{System, turn}
use Rattle.slub_core.specs.Steps.{advance_at, advance_of, at_once, settled, changed, begun, rested}
use Rattle.slub_core.specs.Law.{IsCoherentSystem}
use Rattle.slub_core.proofs.OneSlab.{IsOneSlab, apart-same, new-here}
use Rattle.slub_core.proofs.Update.{update_other}
use Rattle.slub_core.proofs.StepWords.{value_of}
use Rattle.slub_law_opening.specs.Opening.{Beside, setup_of, value_of as value_in}
use Rattle.slub_law_opening.specs.Rests.{Rests, slab_at}
use Rattle.slub_law_alone.specs.Alone.{own_pick, alone}
use Rattle.slub_law_alone.specs.Ready.{IsReady}
use Rattle.slub_law_alone.proofs.Apart.{slab_word}
use Rattle.slub_law_alone.proofs.CheckedEnds.{values_there}
use Rattle.slub_law_alone.proofs.NewSlabDry.{pool_slabs}
use Rattle.slub_law_alone.proofs.NewSlabSearch.{turn_changes, change, lock_back}
use Rattle.slub_law_alone.proofs.Ready.{along}
use Rattle.slub_law_alone.proofs.Turns.{machine, turn_goes, settle_goes, settle_rests, then_turn}
use Rattle.slub_law_alone.proofs.Workers.{at_front}

-- ---- turns

-- an answer leads to a spot at which something is done at once, and that to another one
pub settle_twice : (m : Setup) (value first later : ℕ → LockValue) (l next mid end : Local) (a : Answer) (told says : Option Reply) → advance_at m value l l.spot a ≡ goes next → at_once m false value next next.spot ≡ change first mid told → at_once m false first (noted mid told) (noted mid told).spot ≡ change later end says
    → rested m (noted end says) ≡ noted end says → advance_of m false value l a ≡ stays later (noted end says)
settle_twice m value first later l next mid end a told says leads does more rests =
    ap by_turn leads ∙ ap (λ c. ends (changed m false c)) does ∙ ap ends more ∙ ap (stays later) rests
  where
    ends : Change → Change
    ends c = record { value = c.value; local = rested m (noted c.local c.reply); reply = None }

    by_turn : Turn → Change
    by_turn t = ends (settled m false (record { value = value; local = t.local; reply = t.reply }))

module _ (m : Setup) (words : List ℕ) (value first later : ℕ → LockValue) (ls : List Local) (x : ℕ) (l q p r : Local) (kind : CallKind) (below : x < length ls) (begins : begun m false l ≡ at q (InChecked LockChecked kind)) (free : get_or words (node_lock q.cache) 0 ≡ 0) (pool_free : get_or words pool_lock 0 ≡ 0) (same : r.cache ≡ q.cache)
    (leads : advance_of m false value (at q (InChecked LockChecked kind)) Won ≡ stays first (at p (InChecked LockRun kind))) (finds : advance_of m false first (at p (InChecked LockRun kind)) Won ≡ stays later (at r (InChecked GiveRun kind))) where
  abbrev j : ℕ
  j = node_lock q.cache

  abbrev a : ℕ
  a = q.worker + 1

  abbrev d : ℕ
  d = p.worker + 1

  abbrev asked : Local
  asked = at q (InChecked LockChecked kind)

  abbrev waits : Local
  waits = at p (InChecked LockRun kind)

  abbrev moved : Local
  moved = at r (InChecked GiveRun kind)

  abbrev giving : Local
  giving = at r (InChecked GiveChecked kind)

  abbrev words1 : List ℕ
  words1 = set words j a

  abbrev words2 : List ℕ
  words2 = set words1 pool_lock d

  hit : eqb (get_or words j 0) 0 ≡ true
  hit = eq-eqb (get_or words j 0) 0 free

  still_free : get_or words1 pool_lock 0 ≡ 0
  still_free = get_or-set_other words j pool_lock a 0 (λ e. absurd (omega (arith, e))) ∙ pool_free

  hit2 : eqb (get_or words1 pool_lock 0) 0 ≡ true
  hit2 = eq-eqb (get_or words1 pool_lock 0) 0 still_free

  turn1 : turn m (machine words value (set ls x l)) (own_pick x) ≡ machine words1 first (set ls x waits)
  turn1 = turn_changes m words words1 value first ls x l asked waits (record { place = LockOf j; op = Exchange 0 a }) Won below begins refl
      (ap (λ h. set words j (cond {A = ℕ} h a (get_or words j 0))) hit) (ap (λ h. cond {A = Answer} h Won (Lost (get_or words j 0))) hit) leads

  turn2 : turn m (machine words1 first (set ls x waits)) (own_pick x) ≡ machine words2 later (set ls x moved)
  turn2 = turn_changes m words1 words2 first later ls x waits waits moved (record { place = LockOf pool_lock; op = Exchange 0 d }) Won below refl refl
      (ap (λ h. set words1 pool_lock (cond {A = ℕ} h d (get_or words1 pool_lock 0))) hit2) (ap (λ h. cond {A = Answer} h Won (Lost (get_or words1 pool_lock 0))) hit2) finds

  turn3 : turn m (machine words2 later (set ls x moved)) (own_pick x) ≡ machine words1 later (set ls x giving)
  turn3 = turn_goes m words2 words1 later ls x moved moved giving (record { place = LockOf pool_lock; op = Store 0 }) Done below refl refl (lock_back words1 pool_lock d still_free) refl (settle_goes m later moved giving Done refl refl refl)

  turn4 : turn m (machine words1 later (set ls x giving)) (own_pick x) ≡ machine words later (set ls x (rested m (at r Between)))
  turn4 = turn_goes m words1 words later ls x giving giving (rested m (at r Between)) (record { place = LockOf j; op = Store 0 }) Done below refl (ap gives same) (lock_back words j a free) refl (settle_rests m later giving (at r Between) Done refl refl)
    where
      gives : ℕ → Step
      gives k = record { place = LockOf (node_lock k); op = Store 0 }

  pub first_turn : alone m x 1 (machine words value (set ls x l)) ≡ machine words1 first (set ls x waits)
  first_turn = then_turn m x 0 (machine words value (set ls x l)) (machine words1 first (set ls x waits)) (machine words1 first (set ls x waits)) turn1 refl

  pub four_turns : alone m x 4 (machine words value (set ls x l)) ≡ machine words later (set ls x (rested m (at r Between)))
  four_turns = then_turn m x 3 (machine words value (set ls x l)) (machine words1 first (set ls x waits)) (machine words later (set ls x (rested m (at r Between)))) turn1
      (then_turn m x 2 (machine words1 first (set ls x waits)) (machine words2 later (set ls x moved)) (machine words later (set ls x (rested m (at r Between)))) turn2
      (then_turn m x 1 (machine words2 later (set ls x moved)) (machine words1 later (set ls x giving)) (machine words later (set ls x (rested m (at r Between)))) turn3
      (then_turn m x 0 (machine words1 later (set ls x giving)) (machine words later (set ls x (rested m (at r Between)))) (machine words later (set ls x (rested m (at r Between)))) turn4 refl)))

-- ---- what the locks guard

-- after turns of the worker alone a lock guards sound slabs
pub guards_sound : (opening : World) (s : State) (b : Beside) (system : System) (x n : ℕ) (ws : List ℕ) (value : ℕ → LockValue) (ls : List Local) → x < length system.locals → IsReady opening s b system x → alone (setup_of s b) x (suc n) system ≡ machine ws value ls → x < length ls → (k : ℕ) (e : CheckedState) → k < 32 → value (node_lock k) ≡ Checked e → IsSound e
guards_sound opening s b system x n ws value ls there rest whole below k e small is =
    let m = setup_of s b in
    let ended : IsCoherentSystem m opening (machine ws value ls) = subst (IsCoherentSystem m opening) whole (along opening s b system x there rest n) in
    let front = at_front m opening (machine ws value ls) x below ended in
    let v = world_of m value ws in
    let here : v.value (node_lock k) ≡ Checked e = ap (λ (value : ℕ → LockValue). value (node_lock k)) (value_of m value ws) ∙ is in
    let guarded = subst (IsGuarded v.setup (node_lock k)) here (front.stands.listed.shaped.guarded (node_lock k) (omega (arith, small, front.stands.fresh.setup.locks))) in
    guarded.4.sound

-- another pool
pub pool_values : (t : State) (pool : FreeFrames) (value : ℕ → LockValue) → ((n : ℕ) → n < 33 → value n ≡ value_in t n) → (n : ℕ) → n < 33 → update value pool_lock (Pool pool) n ≡ value_in (record t { pool = pool }) n
pool_values t pool value values zero below = refl
pool_values t pool value values (suc j) below = update_other value pool_lock (Pool pool) (suc j) (λ e. absurd (omega (arith, e))) ∙ values (suc j) below

-- the pool's lock guards the pool, whatever the lock of a cache guards
pub pool_there : {x : ℕ} (opening : World) (s : State) (b : Beside) (system : System) → IsReady opening s b system x → (k : ℕ) (e : CheckedState) → update system.value (node_lock k) (Checked e) pool_lock ≡ Pool s.pool
pool_there opening s b system rest k e = update_other system.value (node_lock k) (Checked e) pool_lock (λ e. absurd (omega (arith, e))) ∙ values_there opening s b system rest pool_lock (omega arith)

-- ---- slabs

-- where one slab of a checked cache comes or goes, and the pool is another
module _ {x : ℕ} (opening : World) (s : State) (b : Beside) (system : System) (rest : IsReady opening s b system x) (k : ℕ) (c e : CheckedState) (f : ℕ) (pool : FreeFrames) (one : IsOneSlab (world_of (setup_of s b) system.value system.words) (node_lock k) c e f) where
  abbrev w : World
  w = world_of (setup_of s b) system.value system.words

  abbrev v : World
  v = set_value w (node_lock k) (Checked e)

  abbrev later : ℕ → LockValue
  later = update (update system.value (node_lock k) (Checked e)) pool_lock (Pool pool)

  with_pool : (g : ℕ) → slab_at (record w { value = later }) g ≡ slab_at v g
  with_pool g = pool_slabs (record w { value = update system.value (node_lock k) (Checked e) }) s.pool pool (pool_there opening s b system rest k e) g
      ∙ ap by_value (sym (value_of (setup_of s b) system.value system.words))
    where
      by_value : (ℕ → LockValue) → Option Slab
      by_value h = slab_at (record w { value = update h (node_lock k) (Checked e) }) g

  abbrev by_slab : ℕ → ℕ → ℕ → ℕ → Option Slab
  by_slab g o k r = cond (nat_lt 0 o) (Some (record { cache = k; order = r; objects = o; frozen = (w.slab g).frozen })) None

  pub slabs_beside : (g : ℕ) → (g ≡ f → ⊥) → slab_of s g ≡ slab_at (record w { value = later }) g
  slabs_beside g away =
      let same = apart-same w (node_lock k) c e f one g away in
      rest.rests.rests.slab g
      ∙ sym (with_pool g ∙ ap (λ o. by_slab g o (cache_at v g) (order_at v g)) same.0 ∙ ap (λ k. by_slab g (objects_at w g) k (order_at v g)) same.1 ∙ ap (by_slab g (objects_at w g) (cache_at w g)) same.2)

  pub slab_gone : objects_in (checked_slab e f) ≡ 0 → None ≡ slab_at (record w { value = later }) f
  slab_gone none =
      let here = new-here w (node_lock k) c e f one in
      sym (with_pool f ∙ cond-false {A = Option Slab} (nat_lt 0 (objects_at v f)) (Some (record { cache = cache_at v f; order = order_at v f; objects = objects_at v f; frozen = (w.slab f).frozen })) None (le-ltb 0 (objects_at v f) (omega (arith, here.0, none))))

  pub slab_come : (order objects : ℕ) → (checked_slab e f).order ≡ order → objects_in (checked_slab e f) ≡ objects → 1 ≤ objects → Some (record { cache = k; order = order; objects = objects; frozen = false }) ≡ slab_at (record w { value = later }) f
  slab_come order objects order_is size some =
      let here = new-here w (node_lock k) c e f one in
      let is = here.1 (omega (arith, size, some)) in
      sym (with_pool f ∙ ap (λ o. by_slab f o (cache_at v f) (order_at v f)) (here.0 ∙ size) ∙ ap (λ k. by_slab f objects k (order_at v f)) (is.0 ∙ number) ∙ ap (by_slab f objects k) (is.1 ∙ order_is)
      ∙ cond-true {A = Option Slab} (nat_lt 0 objects) (Some (record { cache = k; order = order; objects = objects; frozen = (w.slab f).frozen })) None (lt-ltb 0 objects some) ∙ ap frozen_as (rest.rests.rests.unslabbed f one.unworded))
    where
      number : node_lock k - 1 ≡ k
      number = omega arith

      frozen_as : Bool → Option Slab
      frozen_as z = Some (record { cache = k; order = order; objects = objects; frozen = z })

-- a slab of a checked cache has no word
pub no_word : (s : State) (b : Beside) (w : World) (ls : List Local) → Rests s b w ls → (f : ℕ) (y : Slab) (c : CheckedState) → slab_of s f ≡ Some y → checked_of s y.cache ≡ Some c → (w.slab f).objects ≡ 0
no_word s b w ls rests f y c there was = elim (cases_lt 0 (w.slab f).objects) [
  | inl some ↦ absurd (
      let a = slab_word s b w ls rests f some in
      let own : y.cache ≡ (w.slab f).cache = ap cache_in (sym there ∙ a.there) ∙ a.cache in
      cc (was, ap (checked_of s) own, rests.unchecked f some))
  | inr none ↦ omega arith
]
  where
    cache_in : Option Slab → ℕ
    cache_in None = 0
    cache_in (Some y) = y.cache

-- where no slab begins, none is seen
pub no_objects : (s : State) (b : Beside) (w : World) (ls : List Local) → Rests s b w ls → (f : ℕ) → slab_of s f ≡ None → objects_at w f ≡ 0
no_objects s b w ls rests f none = elim (cases_lt 0 (objects_at w f)) [
  | inl some ↦ absurd (
      let there = cond-true {A = Option Slab} (nat_lt 0 (objects_at w f)) (Some (record { cache = cache_at w f; order = order_at w f; objects = objects_at w f; frozen = (w.slab f).frozen })) None (lt-ltb 0 (objects_at w f) some) in
      let seen = rests.slab f in
      cc (none, seen, there))
  | inr few ↦ omega arith
]

-- the shape of a slab that is there
pub shape_some : (e : CheckedState) (f order objects : ℕ) → shape_at e f ≡ Some (order, objects) → ((checked_slab e f).order ≡ order) × (objects_in (checked_slab e f) ≡ objects)
shape_some e f order objects is = by (get_or e.slabs f None) is
  where
    first : Option (ℕ × ℕ) → ℕ
    first None = 0
    first (Some p) = p.0

    second : Option (ℕ × ℕ) → ℕ
    second None = 0
    second (Some p) = p.1

    by : (z : Option SlabState) → option_map shape_of z ≡ Some (order, objects) → ((unwrap_or z no_slab).order ≡ order) × (objects_in (unwrap_or z no_slab) ≡ objects)
    by None is = absurd (cc is)
    by (Some z) is = (ap first is, ap second is)
