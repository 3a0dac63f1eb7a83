-- Where a call is answered that no frames are there, no block of the cache's least order was free at a moment of the round.
use Rattle.std.proofs.Common.{◌≡◌, ℕ, ◌<◌, ◌≤◌, Bool, true, false, List, [], ◌∷◌, ◌++◌, length, get_or, set, refl, sym, ap, subst, ◌∙◌, arith, All, Option, Some, None, inl, inr}
use Rattle.std.proofs.lemmas.Bool.{cases_lt, false≢true}
use Rattle.std.proofs.lemmas.List.Elements.{All-get_or, All-map, All-set}
use Rattle.slub_trace.specs.declared.reply.Reply.{Reply}
use Rattle.slub_trace.specs.declared.reply.Reply.TheVariants as reply
use Rattle.slub_core.specs.declared.call.Call.{Call}
use Rattle.slub_core.specs.declared.call.CallKind.TheVariants.{Alloc, Poke}
use Rattle.slub_core.specs.declared.local.Answered.{Answered}
use Rattle.slub_core.specs.declared.spot.Spot.{Spot}
use Rattle.slub_core.specs.declared.spot.Spot.TheVariants.{Between, InAlloc, InChecked}
use Rattle.slub_core.specs.declared.spot.CheckedSpot.TheVariants.{DoChecked, MoveRun}
use Rattle.slub_core.specs.Setup.{Setup}
use Rattle.slub_core.specs.Words.{word_count, number_of, after_op, answer_of}
use Rattle.slub_core.specs.World.{World, LockValue, world_from, world_of}
use Rattle.slub_core.specs.Local.{Local, Worker, answered, no_call, nobody, noted}
use Rattle.slub_core.specs.Spots.{doing}
use Rattle.slub_core.specs.Steps.{advance_at, advance_of, at_once, begun, begun_at, begun_with, or_step, rested, rested_at, rested_with, step_of, told_at_once}
use Rattle.slub_core.specs.Run.{System, Pick, idle, run, turn}
use Rattle.slub_core.specs.Accounted.{IsAccounted}
use Rattle.slub_core.specs.Coherent.{Stands}
use Rattle.slub_core.specs.Opening.{IsNew, IsOpening, opened}
use Rattle.slub_core.specs.Law.{IsCoherentSystem}
use Rattle.slub_core.proofs.Accounts.{Comes}
use Rattle.slub_core.proofs.Dispatch.{leads}
use Rattle.slub_core.proofs.Leads.{table}
use Rattle.slub_core.proofs.Noted.{noted-comes}
use Rattle.slub_core.proofs.Opens.{opens}
use Rattle.slub_core.proofs.Rests.{joined}
use Rattle.slub_core.proofs.Scripts.{change-leaves, turn-says}
use Rattle.slub_core.proofs.TaleReplies.{told-of}
use Rattle.slub_core.proofs.TaleSettled.{comes_once}
use Rattle.slub_core.proofs.Tells.{turn-tells}
use Rattle.slub_core.proofs.Turns.{turn_keeps as turn_keeps_all}
use Rattle.slub_law_opening.proofs.Turns.{has-begun, no-turn}
use Rattle.slub_law_rounds.proofs.Acts.{at-work, one-more}
use Rattle.std.proofs.lemmas.List.Elements.{All-cons, All-nil}
use Rattle.slub_page_pool.specs.Block.{HasNoBlock}
use Rattle.slub_core.specs.declared.spot.AllocSpot.TheVariants.{TakeRun}
use Rattle.slub_core.specs.Calls.{call_kind, call_cache, call_place}
use Rattle.slub_core.specs.Setup.{pool_lock}
use Rattle.slub_core.specs.World.{pool_in}
use Rattle.slub_core.specs.Alloc.{found_run, way_of_run}
use Rattle.slub_core.specs.Checked.{slabs_of, way_of_found}
use Rattle.slub_core.proofs.PoolSpots.{the-pool}
use Rattle.slub_law_replay.proofs.WantReplies.{WantsNone, is_wanting, none-block, noted-spot, once-leads, once-wants, poke-wants, rest-wants, run-wants, turn-wants}

module _ (m : Setup) (seen : (ℕ → LockValue) → Type 0) where
  -- a call that was answered so, of this cache: no block was free at such a moment
  pub record Lacked (k : ℕ) : Type 0 where
    pub value : ℕ → LockValue
    pub there : seen value
    pub none : HasNoBlock (pool_in (value pool_lock)).free (m.layout k).min_order

  abbrev pub IsWant : Answered → Type 0
  IsWant d = d.reply ≡ reply.NoFrames → (k : ℕ) × (call_cache d.call ≡ Some k) × Lacked k

  abbrev pub AreWants : List Answered → Type 0
  AreWants ds = All IsWant ds

  other-want : (s : Spot) (r : Option Reply) (told : Reply) (l : Local) → WantsNone s r → r ≡ Some told → IsWant (one-more l told)
  other-want s r told l none is unmet = absurd (subst (WantsNone s) (is ∙ ap (λ (t : Reply). Some t) unmet) none)

  -- a reply that comes, or none
  noted-want : (l n : Local) (r : Option Reply) → n.done ≡ l.done → n.todo ≡ l.todo → ((told : Reply) → r ≡ Some told → IsWant (one-more l told)) → AreWants l.done → AreWants (noted n r).done
  noted-want l n None done todo want has = subst AreWants (sym done) has
  noted-want l n (Some told) done todo want has =
      let e : (answered n told).done ≡ one-more l told ∷ l.done = (λ i. record { call = get_or (todo i) 0 no_call; reply = told } ∷ done i) in
      subst AreWants (sym e) (All-cons IsWant (one-more l told) l.done (want told refl) has)

  -- ---- what is done at once

  same-told : (told other : Reply) → Some told ≡ Some other → told ≡ other
  same-told told other is = cc

  -- the order of a live cache is one of the pool's
  small-order : (w : World) (xs : List Worker) (k : ℕ) → Stands w xs → w.setup.lives k ≡ true → (w.setup.layout k).min_order ≤ 10
  small-order w xs k s live = let layout = s.fresh.setup.layout k live in omega (arith, layout.order, layout.min_order)

  lacked : (opening w : World) (x : Worker) (others : List Worker) → w.setup ≡ m → Stands w (x ∷ others) → IsAccounted opening w (x ∷ others) → seen w.value → doing x.local.spot ≡ Some Alloc → w.setup.lives x.local.cache ≡ true
      → found_run w.setup (pool_in (w.value pool_lock)) (w.setup.layout x.local.cache) ≡ None → (told : Reply) → IsWant (one-more x.local told)
  lacked opening w x others of s ac there at live none told is =
      let named = ((told-of opening w x others ac).call Alloc at).1.0 in (
        x.local.cache,
        named,
        record {
          value = w.value;
          there = there;
          none = subst (λ (n : Setup). HasNoBlock (pool_in (w.value pool_lock)).free (n.layout x.local.cache).min_order) of
              (none-block w.setup (pool_in (w.value pool_lock)) (w.setup.layout x.local.cache) (the-pool w (x ∷ others) s).0 (small-order w (x ∷ others) x.local.cache s live) none);
        },
      )

  once-at : (spot : Spot) (opening w : World) (refused : Bool) (x : Worker) (others : List Worker) → w.setup ≡ m → x.local.spot ≡ spot → Stands w (x ∷ others) → IsAccounted opening w (x ∷ others) → (is_wanting spot ≡ true → seen w.value)
      → (told : Reply) → (at_once w.setup refused w.value x.local spot).reply ≡ Some told → IsWant (one-more x.local told)
  once-at (InAlloc TakeRun) opening w refused x others of is s ac there told reply_is unmet =
      let ok = at-work w x others s in
      let found = found_run w.setup (pool_in (w.value pool_lock)) (w.setup.layout x.local.cache) in
      lacked opening w x others of s ac (there refl) (rw is refl) (ok.spot.plain (rw is refl)).1
      (run-wants w.value (pool_in (w.value pool_lock)) (w.setup.layout x.local.cache) (record x.local { spot = way_of_run found }) found (reply_is ∙ ap (λ (t : Reply). Some t) unmet)) told unmet
  once-at (InChecked MoveRun Alloc) opening w refused x others of is s ac there told reply_is unmet =
      let ok = at-work w x others s in
      let found = found_run w.setup (pool_in (w.value pool_lock)) (w.setup.layout x.local.cache) in
      lacked opening w x others of s ac (there refl) (rw is refl) (ok.spot.checked (rw is refl)).1
      (run-wants w.value (pool_in (w.value pool_lock)) (w.setup.layout x.local.cache) (record x.local { spot = way_of_found found }) found (reply_is ∙ ap (λ (t : Reply). Some t) unmet)) told unmet
  once-at (InChecked DoChecked Poke) opening w refused x others of is s ac there told reply_is unmet =
      other-want (InChecked DoChecked Poke) (at_once w.setup refused w.value x.local (InChecked DoChecked Poke)).reply told x.local (poke-wants w.setup w.value x.local (slabs_of w.setup w.value x.local)) reply_is unmet
  once-at spot opening w refused x others of is s ac there told reply_is unmet = other-want spot (at_once w.setup refused w.value x.local spot).reply told x.local (once-wants w.setup refused w.value x.local spot refl) reply_is unmet

  once : (opening w : World) (refused : Bool) (others : List Worker) (l : Local) → w.setup ≡ m → Comes opening w others l → (is_wanting l.spot ≡ true → seen w.value) → AreWants l.done → let c = at_once w.setup refused w.value l l.spot in AreWants (noted c.local c.reply).done
  once opening w refused others l of comes =
      let z = joined opening w others l comes in
      subst (λ l. (is_wanting l.spot ≡ true → seen w.value) → AreWants l.done → let c = at_once w.setup refused w.value l l.spot in AreWants (noted c.local c.reply).done) z.1
      (λ there has.
      let c = at_once w.setup refused w.value z.0.local z.0.local.spot in
      let leaves = change-leaves w.setup refused w.value z.0.local z.0.local.spot in
      noted-want z.0.local c.local c.reply leaves.1 leaves.0 (once-at z.0.local.spot opening w refused z.0 others of refl z.2 z.3 there) has)

  -- ---- replies that take no step

  or-has : (P : Local → Type 0) (l : Local) (more : Reply → Local) (r : Option Reply) → P l → ((told : Reply) → r ≡ Some told → P (more told)) → P (or_step l more r)
  or-has P l more None a b = a
  or-has P l more (Some told) a b = b told refl

  rests : (calls : List Call) (l : Local) → AreWants l.done → AreWants (rested_with m calls l).done
  rests [] l has = has
  rests (call ∷ calls) l has =
      or-has (λ n. AreWants n.done) l (λ told. rested_with m calls (answered l told)) (told_at_once m (get_or l.known (call_place call) nobody) call (call_kind call)) has
      (λ told is. rests calls (answered l told)
      (All-cons IsWant (one-more l told) l.done (other-want Between (told_at_once m (get_or l.known (call_place call) nobody) call (call_kind call)) told l (rest-wants Between m (get_or l.known (call_place call) nobody) call (call_kind call)) is) has))

  rests-at : (l : Local) (spot : Spot) → AreWants l.done → AreWants (rested_at m l spot).done
  rests-at l Between has = rests l.todo l has
  rests-at l _ has = has

  -- ---- a step

  steps : (opening : World) (value : ℕ → LockValue) (words : List ℕ) (refused : Bool) (x : Worker) (others : List Worker) → length words ≡ word_count m → Stands (world_of m value words) (x ∷ others)
      → IsAccounted opening (world_of m value words) (x ∷ others) → seen value → AreWants x.local.done
      → let step = step_of m value x.local in let n = number_of m step.place in let q = get_or words n 0 in let a = answer_of step.op q in
      let c = advance_of m refused value x.local a in AreWants c.local.done
  unfolding world_of world_from
  steps opening value words refused x others long s ac there has =
      let step = step_of m value x.local in
      let n = number_of m step.place in
      let q = get_or words n 0 in
      let a = answer_of step.op q in
      let after = set words n (after_op step.op q) in
      let turn = advance_at m value x.local x.local.spot a in
      let led = leads x.local.spot opening m value words x others (table m value words x others long s) refl s ac in
      let stands = noted-comes (world_of m value after) others turn.local turn.reply (turn-tells m value x.local x.local.spot a) led.0 in
      let says = turn-says m value x.local x.local.spot a in
      let l = noted turn.local turn.reply in
      let told : AreWants l.done = noted-want x.local turn.local turn.reply says.1 says.0 (λ told is. other-want x.local.spot turn.reply told x.local (turn-wants m value x.local x.local.spot a) is) has in
      let w = world_of m value after in
      let comes : Comes opening w others l = (stands, led.1) in
      let c = at_once m refused value l l.spot in
      let first = once opening w refused others l refl comes (λ wanting. there) told in
      let again = comes_once opening w refused others l comes in
      let n = noted c.local c.reply in
      let none : is_wanting n.spot ≡ false = ap is_wanting (noted-spot c.local c.reply) ∙ once-leads m refused value l l.spot refl in
      let d = at_once m refused c.value n n.spot in
      let second = once opening (record w { value = c.value }) refused others n refl again (λ wanting. absurd (false≢true (sym none ∙ wanting))) first in
      let z = noted d.local d.reply in
      rests-at z z.spot second

  -- ---- a turn, and a run

  begun-done : (tries : Bool) (l : Local) (spot : Spot) → (begun_at m tries l spot).done ≡ l.done
  begun-done tries l Between = by l.todo
    where
      by : (calls : List Call) → (begun_with m tries l calls).done ≡ l.done
      by [] = refl
      by (call ∷ calls) = refl
  begun-done tries l _ = refl

  abbrev pub WantsIn : System → Type 0
  WantsIn s = All (λ (l : Local). AreWants l.done) s.locals

  turn_below : (opening : World) (s : System) (pick : Pick) → pick.worker < length s.locals → IsCoherentSystem m opening s → seen s.value → WantsIn s → WantsIn (turn m s pick)
  turn_below opening s pick below is there has =
      let b = has-begun m opening s pick below is in
      let k = pick.worker in
      let l = get_or s.locals k idle in
      let others = b.front ++ b.back in
      let mine : AreWants l.done = All-get_or (λ (l : Local). AreWants l.done) s.locals k idle below has in
      let starts : AreWants b.x.local.done = subst (λ (n : Local). AreWants n.done) (sym b.local) (subst AreWants (sym (begun-done pick.tries l l.spot)) mine) in
      let step = step_of m s.value (begun m pick.tries l) in
      let q = get_or s.words (number_of m step.place) 0 in
      let c = advance_of m pick.refused s.value (begun m pick.tries l) (answer_of step.op q) in
      let led : AreWants c.local.done =
      subst (λ b. let step = step_of m s.value b in let q = get_or s.words (number_of m step.place) 0 in let c = advance_of m pick.refused s.value b (answer_of step.op q) in AreWants c.local.done) b.local
      (steps opening s.value s.words pick.refused b.x others is.words b.stands b.accounted there starts) in
      All-set (λ (l : Local). AreWants l.done) s.locals k c.local led has

  turn_keeps : (opening : World) (s : System) (pick : Pick) → IsCoherentSystem m opening s → seen s.value → WantsIn s → WantsIn (turn m s pick)
  turn_keeps opening s pick is there has = elim (cases_lt pick.worker (length s.locals)) [
    | inl below ↦ turn_below opening s pick below is there has
    | inr past ↦ subst WantsIn (sym (no-turn m s pick past)) has
  ]

  -- each machine on the way is one of those moments
  run_keeps : (opening : World) (s : System) (picks : List Pick) → IsCoherentSystem m opening s → ((front rest : List Pick) → picks ≡ front ++ rest → seen (run m s front).value) → WantsIn s → WantsIn (run m s picks)
  run_keeps opening s [] is there has = has
  run_keeps opening s (pick ∷ picks) is there has =
      run_keeps opening (turn m s pick) picks (turn_keeps_all m opening s pick is) (λ front rest split. there (pick ∷ front) rest (ap (λ (ps : List Pick). pick ∷ ps) split)) (turn_keeps opening s pick is (there [] (pick ∷ picks) refl) has)

  -- ---- the beginning

  new-wants : (l : Local) (spot : Spot) → IsNew m l → AreWants (rested_at m l spot).done
  new-wants l spot new = rests-at l spot (subst AreWants (sym new.done) (All-nil IsWant))

  -- after any turns of a round
  pub round_wants : (s : System) (picks : List Pick) → IsOpening m s → ((front rest : List Pick) → picks ≡ front ++ rest → seen (run m (opened m s) front).value) → WantsIn (run m (opened m s) picks)
  round_wants s picks new there =
      let w = world_of m s.value s.words in
      run_keeps w (opened m s) picks (opens m s new) there
      (All-map (λ (l : Local). AreWants l.done) (rested m) s.locals (λ k d below. let l = get_or s.locals k d in new-wants l l.spot (new.new k d below)))
