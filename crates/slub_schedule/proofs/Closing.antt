-- The board of a closed round: what is on it was there before or was given, where the replies say.
use Rattle.std.proofs.Common.{◌≡◌, ℕ, suc, ◌+◌, ◌<◌, ◌≤◌, ◌==◌, Bool, true, false, ◌&&◌, List, [], ◌∷◌, map, All, Contains, Option, Some, None, refl, sym, ap, ◌∙◌, subst, arith, inl, inr, ◌⊎◌}
use Rattle.std.specs.Option.{option_map}
use Rattle.std.proofs.Math.ListN.{get_or-map}
use Rattle.std.proofs.lemmas.List.{length-map}
use Rattle.std.proofs.lemmas.Bool.{cases_Bool, eqb-true, false≢true}
use Rattle.std.proofs.lemmas.Option.{none-some, same_Some}
use Rattle.std.proofs.lemmas.List.Sums.{sum_by-cons}
use Rattle.std.proofs.lemmas.List.Elements.{All-head, All-tail, All-weaker, All-contains}
use Rattle.slub_common.proofs.Sums.{sum_by-map}
use Rattle.slub_words.specs.declared.board.BoardWord.{BoardWord}
use Rattle.slub_trace.specs.declared.reply.Reply.{Reply}
use Rattle.slub_trace.specs.declared.reply.Reply.TheVariants as reply
use Rattle.slub_core.specs.declared.call.Call.{Call}
use Rattle.slub_core.specs.declared.local.Known.{Known}
use Rattle.slub_core.specs.declared.local.Answered.{Answered}
use Rattle.slub_core.specs.Calls.{call_cache, call_object}
use Rattle.slub_core.specs.Setup.{Setup}
use Rattle.slub_core.specs.World.{World, world_of, world_from, one_if}
use Rattle.slub_core.specs.Local.{Local, Worker, address_in}
use Rattle.slub_core.specs.Replies.{is_given, given_in, freed_in, holding, address_on, address_after, address_by, cache_after, cache_by}
use Rattle.slub_core.specs.Accounted.{boarded, known_of, public, AreDistinct, IsTold}
use Rattle.slub_core.specs.Fresh.{IsAtWork}
use Rattle.slub_core.specs.Coherent.{Stands}
use Rattle.slub_core.proofs.Counts.{All-from_no_sum}
use Rattle.slub_core.specs.Opening.{IsOpening, opened}
use Rattle.slub_core.specs.Round.{IsRoundOnWords}
use Rattle.slub_core.proofs.Turns.{run_both}
use Rattle.slub_core.proofs.Opens.{opens}
use Rattle.slub_core.proofs.RoundEnds.{rounds_end}
use Rattle.slub_schedule.specs.Rounds.{IsFinishedSystem, EndsRound}
use Rattle.slub_schedule.specs.Finished.{empty_handed, IsQuiet, HoldsAsTold}
use Rattle.slub_schedule.specs.Closed.{word_of, held_by, or_held, closed, WasGiven, IsBoardAfter}
use Rattle.slub_core.specs.Run.{System, Pick}
use Rattle.slub_core.specs.Law.{IsCoherentSystem, calls_to_come, replies_of}
use Rattle.slub_schedule.specs.Laws.{RoundsEndWell, RoundsClose}
use Rattle.slub_schedule.proofs.Finished.{all_workers, given_all, holders, Counted, finished_well}
use Rattle.slub_schedule.proofs.Closed.{held_count, closed-count, holder, IsSettled, IsCached, closed_stands}

-- ---- without a gift a number stays what it was

kept-address : (r : Reply) (x : Option ℕ) → is_given r ≡ false → address_after r x ≡ x
kept-address (reply.Given a) x none = absurd (false≢true (sym none))
kept-address _ x none = refl

kept-cache : (c : Call) (r : Reply) (x : Option ℕ) → is_given r ≡ false → cache_after c r x ≡ x
kept-cache c (reply.Given a) x none = absurd (false≢true (sym none))
kept-cache c _ x none = refl

not-given : (b : Bool) (n : ℕ) → one_if (b && true) + n ≡ 0 → b ≡ false
not-given true n none = absurd (omega arith)
not-given false n none = refl

address-stays : (m : Setup) (before : ℕ → Option BoardWord) (ds : List Answered) (o : ℕ) → given_in o ds ≡ 0
    → (address_by m before ds o ≡ address_on m (before o)) × (cache_by before ds o ≡ option_map (λ (b : BoardWord). b.cache) (before o))
address-stays m before [] o none = (refl, refl)
address-stays m before (d ∷ ds) o none =
    let rest = address-stays m before ds o (omega arith) in
    elim (cases_Bool (call_object d.call == o)) [
      | inl same ↦
          let kept : is_given d.reply ≡ false = not-given (is_given d.reply) (given_in o ds) (rw same at none) in
          (rw same (kept-address d.reply (address_by m before ds o) kept ∙ rest.0), rw same (kept-cache d.call d.reply (cache_by before ds o) kept ∙ rest.1))
      | inr other ↦ (rw other rest.0, rw other rest.1)
    ]

-- ---- what names an object now and was not on the board was given

gift : (m : Setup) (before : ℕ → Option BoardWord) (o k a : ℕ) (ds : List Answered) → before o ≡ None → address_by m before ds o ≡ Some a → cache_by before ds o ≡ Some k
    → (d : Answered) × Contains ds d × (call_object d.call ≡ o) × (call_cache d.call ≡ Some k) × (d.reply ≡ reply.Given a)
gift m before o k a [] none at of = absurd (none-some a (rw none at at))
gift m before o k a (d ∷ ds) none at of = elim (cases_Bool (call_object d.call == o)) [
  | inl same ↦ by_reply (gift m before o k a ds none) d.reply refl (eqb-true (call_object d.call) o same) (rw same at at) (rw same at of)
  | inr other ↦ later (gift m before o k a ds none (rw other at at) (rw other at of))
]
  where
    later : (e : Answered) × Contains ds e × (call_object e.call ≡ o) × (call_cache e.call ≡ Some k) × (e.reply ≡ reply.Given a) → (e : Answered) × Contains (d ∷ ds) e × (call_object e.call ≡ o) × (call_cache e.call ≡ Some k) × (e.reply ≡ reply.Given a)
    later (e, (n, below, is), object, cache, given) = (e, (suc n, omega arith, is), object, cache, given)

    by_reply : (address_by m before ds o ≡ Some a → cache_by before ds o ≡ Some k → (e : Answered) × Contains ds e × (call_object e.call ≡ o) × (call_cache e.call ≡ Some k) × (e.reply ≡ reply.Given a)) → (r : Reply) → d.reply ≡ r → call_object d.call ≡ o
        → address_after r (address_by m before ds o) ≡ Some a → cache_after d.call r (cache_by before ds o) ≡ Some k → (e : Answered) × Contains (d ∷ ds) e × (call_object e.call ≡ o) × (call_cache e.call ≡ Some k) × (e.reply ≡ reply.Given a)
    by_reply again (reply.Given b) is object at' of' = (d, (0, omega arith, refl), object, of', is ∙ ap (λ a. reply.Given a) (same_Some b a at'))
    by_reply again _ is object at' of' = later (again at' of')

-- ---- the board

contains-done : (ls : List Local) (l : Local) → Contains ls l → Contains (map (λ (l : Local). l.done) ls) l.done
contains-done ls l (k, below, is) = (k, omega (arith, below, length-map ls (λ (l : Local). l.done)), get_or-map (λ (l : Local). l.done) ls k l ∙ ap (λ (l : Local). l.done) is)

held-holders : (before : ℕ → Option BoardWord) (w : World) (o : ℕ) (ls : List Local) → All (HoldsAsTold before w) ls → held_count o ls ≡ holders o ls
held-holders before w o [] all = refl
held-holders before w o (l ∷ ls) all =
    let first : one_if (known_of l.known o).held ≡ one_if (holding l.done o) = ap one_if ((All-head (HoldsAsTold before w) l ls all).held o) in
    let rest = held-holders before w o ls (All-tail (HoldsAsTold before w) l ls all) in
    omega (arith, sum_by-cons (λ (l : Local). one_if (known_of l.known o).held) l ls, sum_by-cons (λ (l : Local). one_if (holding l.done o)) l ls)

once : (before w : World) (ls : List Local) → Counted before w ls → (o : ℕ) → boarded (w.board o) + held_count o ls ≤ 1
once before w ls r o = let a = r.count o in let b = r.given_once o in let c = held-holders before.board w o ls r.kept.holds in omega arith

board_after : (before w : World) (ls : List Local) → Counted before w ls → IsBoardAfter before (closed w ls) (map (λ (l : Local). l.done) ls)
board_after before w ls r = record {
  numbers = λ o. let a = r.count o in let g = sum_by-map (given_in o) (λ (l : Local). l.done) ls in let f = sum_by-map (freed_in o) (λ (l : Local). l.done) ls in let c = held-holders before.board w o ls r.kept.holds in let d = closed-count o ls (w.board o) (once before w ls r o) in omega arith;
  stays = λ o b c was is. stayed o b c was (w.board o) (r.stays o) is;
  comes = λ o c none is. came o c none (w.board o) (r.stays o) is;
}
  where
    stayed : (o : ℕ) (b c : BoardWord) → before.board o ≡ Some b → (x : Option BoardWord) → (x ≡ None) ⊎ (x ≡ before.board o) → or_held x (held_by ls o) ≡ Some c
        → (address_on w.setup (Some c) ≡ address_on w.setup (Some b)) × (c.cache ≡ b.cache)
    stayed o b c was None stood is =
        let h = holder o ls c is in
        let told : HoldsAsTold before.board w h.0 = All-contains (HoldsAsTold before.board w) ls h.0 r.kept.holds h.1 in
        let k = known_of h.0.known o in
        let holds : holding h.0.done o ≡ true = sym (told.held o) ∙ h.2 in
        let on : boarded (before.board o) ≡ 1 = ap boarded was in
        let given : given_all o ls ≡ 0 = let g = r.given_once o in omega arith in
        let none = All-contains (λ (l : Local). given_in o l.done ≡ 0) ls h.0 (All-from_no_sum (λ (l : Local). given_in o l.done) ls given) h.1 in
        let kept = address-stays w.setup before.board h.0.done o none in
        let address : address_on w.setup (Some (word_of k)) ≡ address_on w.setup (Some b) = sym (told.address o holds) ∙ kept.0 ∙ ap (address_on w.setup) was in
        let cache : k.cache ≡ b.cache = same_Some k.cache b.cache (sym (told.cache o holds) ∙ kept.1 ∙ ap (option_map (λ (b : BoardWord). b.cache)) was) in
        (subst (λ (c : BoardWord). address_on w.setup (Some c) ≡ address_on w.setup (Some b)) h.3 address, sym (ap (λ (c : BoardWord). c.cache) h.3) ∙ cache)
    stayed o b c was (Some d) (inl gone) is = absurd (none-some d (sym gone))
    stayed o b c was (Some d) (inr same) is =
        let e : c ≡ b = same_Some c b (sym is ∙ same ∙ was) in
        (ap (λ (c : BoardWord). address_on w.setup (Some c)) e, ap (λ (c : BoardWord). c.cache) e)

    came : (o : ℕ) (c : BoardWord) → before.board o ≡ None → (x : Option BoardWord) → (x ≡ None) ⊎ (x ≡ before.board o) → or_held x (held_by ls o) ≡ Some c
        → (ds : List Answered) × Contains (map (λ (l : Local). l.done) ls) ds × (a : ℕ) × (address_on w.setup (Some c) ≡ Some a) × WasGiven o c.cache a ds
    came o c none None stood is =
        let h = holder o ls c is in
        let told : HoldsAsTold before.board w h.0 = All-contains (HoldsAsTold before.board w) ls h.0 r.kept.holds h.1 in
        let k = known_of h.0.known o in
        let holds : holding h.0.done o ≡ true = sym (told.held o) ∙ h.2 in
        let a = address_in w.setup k in
        let given : WasGiven o k.cache a h.0.done = gift w.setup before.board o k.cache a h.0.done none (told.address o holds) (told.cache o holds) in
        (h.0.done, contains-done ls h.0 h.1, a, subst (λ (c : BoardWord). address_on w.setup (Some c) ≡ Some a) h.3 refl, subst (λ (c : BoardWord). WasGiven o c.cache a h.0.done) h.3 given)
    came o c none (Some d) (inl gone) is = absurd (none-some d (sym gone))
    came o c none (Some d) (inr same) is = absurd (none-some d (sym (same ∙ none)))

-- ---- the whole

-- a round from its opening to its end
pub ended : (m : Setup) (s : System) (seed : ℕ) (picks : List Pick) (last : System) → IsOpening m s → EndsRound m seed (opened m s) picks last
    → IsQuiet m (world_of m s.value s.words) last × Counted (world_of m s.value s.words) (world_of m last.value last.words) last.locals
ended m s seed picks last new ends =
    let opening = world_of m s.value s.words in
    let run = (run_both m opening (opened m s) picks (opens m s new)).0 in
    finished_well m opening last (subst (IsCoherentSystem m opening) (sym ends.run) run) ends.finished

pub end_well : RoundsEndWell
end_well m s seed picks last new ends =
    let opening = world_of m s.value s.words in
    let all = ended m s seed picks last new ends in
    let round = rounds_end m s picks new (subst IsFinishedSystem ends.run ends.finished) in
    (all.0, subst (λ (last : System). IsRoundOnWords m opening (world_of m last.value last.words) (calls_to_come s) (replies_of last)) (sym ends.run) round, all.1.kept)

pub close_well : RoundsClose
unfolding world_of world_from
close_well m s seed picks last new ends =
    let opening = world_of m s.value s.words in
    let w = world_of m last.value last.words in
    let ls = last.locals in
    let all = ended m s seed picks last new ends in
    let quiet = all.0 in
    let done = ends.finished in
    let told = quiet.coherent.accounted.told in
    let p = public w (map empty_handed ls) in
    let settled : IsSettled w ls = record {
      idle = λ k d below. record { hands = quiet.hands k d below; run = quiet.run k d below; between = (done k d below).between };
      distinct = all_workers (λ (l : Local). AreDistinct l.known) ls (All-weaker (λ (x : Worker). IsTold m opening.board p x.local) (λ (x : Worker). AreDistinct x.local.known) (λ x t. t.distinct) (map empty_handed ls) told);
      numbers = all_workers (λ (l : Local). All (λ (k : Known). k.object < m.objects) l.known) ls (All-weaker (λ (x : Worker). IsTold m opening.board p x.local) (λ (x : Worker). All (λ (k : Known). k.object < m.objects) x.local.known) (λ x t. t.numbers) (map empty_handed ls) told);
      once = once opening w ls all.1;
    } in
    let cached = all_workers (IsCached w) ls (All-weaker (IsAtWork w) (λ (x : Worker). IsCached w x.local) (λ x at. at.seen.known) (map empty_handed ls) quiet.coherent.fresh.workers) in
    let stands : Stands w (map empty_handed ls) = record { chains = quiet.chains; placed = quiet.coherent.placed; listed = quiet.coherent.listed; fresh = quiet.coherent.fresh } in
    (closed_stands w ls settled cached stands, board_after opening w ls all.1)
