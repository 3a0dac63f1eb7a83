-- A turn of any worker keeps what is said of contents, and so does a run; and a round begins so.
use Rattle.std.proofs.Common.{◌≡◌, ℕ, ◌*◌, ◌+◌, zero, suc, ◌<◌, ◌≤◌, ◌⊎◌, Bool, true, false, List, [], ◌∷◌, ◌++◌, length, get_or, set, map, Option, Some, None, refl, sym, ap, ◌∙◌, subst, arith, inl, inr, ℤ}
use Rattle.std.specs.Prelude.{All, slice_get}
use Rattle.std.specs.List.{Contains}
use Rattle.std.proofs.lemmas.Bool.{cases_eq, cases_lt, false≢true}
use Rattle.std.proofs.lemmas.List.{set-get_or, append-nil}
use Rattle.std.proofs.lemmas.List.Elements.{All-nil, All-cons, All-head, All-tail, All-map, All-weaker, All-contains_itself}
use Rattle.std.proofs.lemmas.Option.{slice_get_past, same_Some}
use Rattle.slub_object_layout.specs.declared.layout.Flags.{Flags}
use Rattle.slub_object_layout.specs.declared.layout.Layout.{Layout}
use Rattle.slub_red_zone.specs.declared.slab.ObjectState.{ObjectState}
use Rattle.slub_red_zone.specs.declared.slab.ObjectState.TheVariants.{Free, Used, Aside}
use Rattle.slub_red_zone.specs.State.{CheckedState, slab_of}
use Rattle.slub_red_zone.specs.Sound.{IsSound}
use Rattle.slub_trace.specs.declared.reply.Reply.{Reply}
use Rattle.slub_core.specs.declared.call.Call.{Call}
use Rattle.slub_core.specs.declared.call.CallKind.TheVariants.{Alloc, Free as FreeCall, Write, Read}
use Rattle.slub_core.specs.declared.local.Known.{Known}
use Rattle.slub_trace.specs.declared.reply.Reply.TheVariants as reply
use Rattle.slub_core.specs.declared.local.Answered.{Answered}
use Rattle.slub_core.specs.declared.spot.Spot.{Spot}
use Rattle.slub_core.specs.declared.spot.Spot.TheVariants.{Between, InFree, WriteWord, ReadWord, InChecked}
use Rattle.slub_core.specs.declared.spot.FreeSpot.TheVariants.{TakeBoard}
use Rattle.slub_core.specs.declared.spot.CheckedSpot.TheVariants.{DoChecked, AddSlab}
use Rattle.slub_core.specs.Calls.{call_kind, call_place}
use Rattle.slub_core.specs.Setup.{Setup, node_lock}
use Rattle.slub_core.specs.Words.{word_count, number_of, after_op, answer_of}
use Rattle.slub_core.specs.World.{World, LockValue, Checked, world_from, world_of}
use Rattle.slub_core.specs.Local.{Local, Worker, Turn, Change, nobody, no_call, here, call_of, answered, noted}
use Rattle.slub_core.specs.Spots.{doing, is_freeing}
use Rattle.slub_core.specs.Replies.{holding}
use Rattle.slub_core.specs.Checked.{slabs_in}
use Rattle.slub_core.specs.Steps.{step_of, advance_at, advance_of, at_once, settled, begun, begun_at, begun_with, told_at_once, or_step, rested, rested_with, rested_at}
use Rattle.slub_core.specs.Run.{System, Pick, idle, after_step, turn}
use Rattle.slub_core.specs.Listed.{IsCheckedOf}
use Rattle.slub_core.specs.Coherent.{Stands}
use Rattle.slub_core.specs.Accounted.{public, place_of, known_of, IsAccounted}
use Rattle.slub_core.specs.Opening.{IsNew, opened}
use Rattle.slub_core.specs.Law.{TakesStep, IsCoherentSystem, replies_of}
use Rattle.slub_core.proofs.Accounts.{Comes}
use Rattle.slub_core.proofs.Among.{sum_by-middle, to_front, All-middle, All-back}
use Rattle.slub_core.proofs.Begin.{begin}
use Rattle.slub_core.proofs.Dispatch.{leads}
use Rattle.slub_core.proofs.Leads.{table}
use Rattle.slub_core.proofs.MayBegin.{may_begin}
use Rattle.slub_core.proofs.Noted.{noted-comes}
use Rattle.slub_core.proofs.Onces.{makes}
use Rattle.slub_core.proofs.Opens.{opens}
use Rattle.slub_core.proofs.Rests.{joined}
use Rattle.slub_core.proofs.Scripts.{turn-says, change-leaves}
use Rattle.slub_core.proofs.TaleBegin.{told_begin, accounted_to_front}
use Rattle.slub_core.proofs.TaleKnowns.{held-inside, known_of-other}
use Rattle.slub_core.proofs.TaleReplies.{told-of, place-inside}
use Rattle.slub_core.proofs.TaleSettled.{comes_once}
use Rattle.slub_core.proofs.Tells.{turn-tells}
use Rattle.slub_core.proofs.Turns.{split, turn_keeps as turn_keeps_all}
use Rattle.slub_core.proofs.UnderLock.{checked-is}
use Rattle.slub_law_rounds.proofs.Clean.{parts_of, parts-fit, slot-byte}
use Rattle.slub_law_rounds.proofs.Cleaning.{Clean, by_place}
use Rattle.slub_law_rounds.specs.Contents.{slabs_at, IsByteAt, Came, IsReport, AreTold}
use Rattle.slub_law_rounds.specs.Law.{examined, AreBytes, byte_in, HasWords, HasBoarded, HasContents, TurnsKeepContents, RunsKeepContents, RoundsBeginWithContents, RoundsEndWithContents}
use Rattle.slub_law_rounds.proofs.Moves.{Goes, goes-none}
use Rattle.slub_law_rounds.proofs.Grows.{Grows, Has, GoesAll, told-later, has-later, has-goes, has-reply}
use Rattle.slub_law_rounds.proofs.Acts.{HasAt, one-more, where-held}
use Rattle.slub_law_rounds.proofs.Mild.{MildReply, Stepped, keeps, gives, frees, takes, writes, reads, tells-mild, turn-step, rest-mild, IsOther, Spares, is_doing, once-milder}
use Rattle.slub_law_rounds.proofs.Words.{calm-mild, calm-value}
use Rattle.slub_law_rounds.proofs.Own.{OwnOf, own-still}
use Rattle.slub_law_rounds.proofs.ContentPuts.{WordsOf, IsByteKept, words-act, words-calm, words-none}
use Rattle.slub_law_rounds.proofs.Stores.{here-of}
use Rattle.slub_law_rounds.proofs.Gifts.{other-known, given-none, freed-none}
use Rattle.slub_law_rounds.proofs.Boards.{boarded-later}
use Rattle.slub_law_rounds.proofs.Does.{WordsAt, BoardedAt, boarded-reply, boarded-none, does_checked, both_added}
use Rattle.slub_core.specs.Replies.{freed_in}
use Rattle.std.specs.Prelude.{pos}
use Rattle.slub_object_layout.specs.Layout.{address_of}

-- all that is said, of a worker beside others
abbrev Both : Setup → World → List (List Answered) → List Worker → (ℕ → LockValue) → Local → Type 0
Both m opening rest others value l = HasAt m opening rest value l × WordsAt m opening rest others value l × BoardedAt m opening rest value l × (rest ≡ map (λ (y : Worker). y.local.done) others)

abbrev BothAfter : Setup → World → List (List Answered) → List Worker → Change → Type 0
BothAfter m opening rest others c = Both m opening rest others c.value (noted c.local c.reply)

-- ---- replies that tell nothing of bytes

-- the worker after a reply
as-answered : (m : Setup) (opening : World) (rest : List (List Answered)) (others : List Worker) (value : ℕ → LockValue) (l n : Local) (known : List Known) (r : Reply) → n.done ≡ l.done → n.todo ≡ l.todo → n.known ≡ known
    → Has m opening value ((one-more l r ∷ l.done) ∷ rest) → WordsOf m opening rest value known (one-more l r ∷ l.done) others → HasBoarded m opening ((one-more l r ∷ l.done) ∷ rest) value → rest ≡ map (λ (y : Worker). y.local.done) others → Both m opening rest others value (answered n r)
as-answered m opening rest others value l n known r done todo knows has words board are =
    let e : (answered n r).done ≡ one-more l r ∷ l.done = (λ i. record { call = get_or (todo i) 0 no_call; reply = r } ∷ done i) in (
      subst (λ ds. Has m opening value (ds ∷ rest)) (sym e) has,
      subst (λ ds. WordsOf m opening rest value n.known ds others) (sym e) (subst (λ ks. WordsOf m opening rest value ks (one-more l r ∷ l.done) others) (sym knows) words),
      subst (λ ds. HasBoarded m opening (ds ∷ rest) value) (sym e) board,
      are,
    )

-- such a reply, or none, and other values of locks
mild-both : (m : Setup) (opening : World) (rest : List (List Answered)) (others : List Worker) (value after : ℕ → LockValue) (l n : Local) (r : Option Reply) → n.done ≡ l.done → n.todo ≡ l.todo → n.known ≡ l.known → MildReply r
    → ((dones : List (List Answered)) → GoesAll m opening dones value after) → ((q : Known) → IsByteKept m value after q) → ((cache : ℕ) → m.checks cache ≡ true → slabs_at m after cache ≡ slabs_at m value cache) → Both m opening rest others value l → Both m opening rest others after (noted n r)
mild-both m opening rest others value after l n None done todo known mild goes kept slabs has = (
  subst (λ ds. Has m opening after (ds ∷ rest)) (sym done) (has-goes m opening value after (l.done ∷ rest) (goes (l.done ∷ rest)) has.0),
  subst (λ ds. WordsOf m opening rest after n.known ds others) (sym done) (subst (λ ks. WordsOf m opening rest after ks l.done others) (sym known)
      (words-none m opening rest value after l.known l.done others (λ o. kept (known_of l.known o)) (λ k e below o. kept (known_of (get_or others k e).local.known o)) has.1)),
  subst (λ ds. HasBoarded m opening (ds ∷ rest) after) (sym done) (boarded-none m opening (l.done ∷ rest) value after slabs has.2),
  has.3,
)
mild-both m opening rest others value after l n (Some r) done todo known mild goes kept slabs has =
    let d = one-more l r in
    let more = (d ∷ l.done) ∷ rest in
    as-answered m opening rest others after l n l.known r done todo known
    (has-goes m opening value after more (goes more) (has-reply m opening value l.done rest d (tells-mild m opening more l.done (call_of l) r mild) has.0))
    (words-calm m opening rest value after l.known l.done d others (calm-mild r mild) (λ o. kept (known_of l.known o)) (λ k e below o. kept (known_of (get_or others k e).local.known o)) has.1)
    (boarded-reply m opening rest value after l.done d slabs has.2) has.3

-- nothing of the locks' values changes
no-goes : (m : Setup) (opening : World) (value : ℕ → LockValue) (dones : List (List Answered)) → GoesAll m opening dones value value
no-goes m opening value dones cache checks clean = goes-none (Came m opening dones cache) (slabs_at m value cache) clean

no-moves : (m : Setup) (value : ℕ → LockValue) (q : Known) → IsByteKept m value value q
no-moves m value q word place held checks ends below = refl

-- the slabs of a checked cache that its lock guards
the-slabs : (w : World) (xs : List Worker) (cache : ℕ) → Stands w xs → w.setup.checks cache ≡ true → (slabs : CheckedState) × (w.value (node_lock cache) ≡ Checked slabs) × IsCheckedOf w.setup cache slabs
the-slabs w xs cache s checks =
    let setup = s.fresh.setup in
    let lives = setup.checked cache checks in
    let few = setup.live cache lives in
    let count = setup.locks in
    checked-is w.setup cache (w.value (node_lock cache)) (few, lives, checks) (s.listed.shaped.guarded (node_lock cache) (omega arith))

-- what changes no checked cache's slabs
spares-same : (w : World) (xs : List Worker) (after : ℕ → LockValue) → Stands (record w { value = after }) xs → Spares w.value after → (cache : ℕ) → w.setup.checks cache ≡ true → slabs_at w.setup after cache ≡ slabs_at w.setup w.value cache
spares-same w xs after s spares cache checks =
    elim (spares cache) [
      | inl same ↦ ap (slabs_in (w.setup.layout cache)) same
      | inr other ↦ absurd (subst IsOther (the-slabs (record w { value = after }) xs cache s checks).1 other)
    ]

spares-goes : (opening w : World) (xs : List Worker) (after : ℕ → LockValue) → Stands (record w { value = after }) xs → Spares w.value after → (dones : List (List Answered)) → GoesAll w.setup opening dones w.value after
spares-goes opening w xs after s spares dones cache checks clean =
    subst (λ slabs. Goes (Came w.setup opening dones cache) (slabs_at w.setup w.value cache) slabs) (sym (spares-same w xs after s spares cache checks)) (goes-none (Came w.setup opening dones cache) (slabs_at w.setup w.value cache) clean)

spares-kept : (w : World) (xs : List Worker) (after : ℕ → LockValue) → Stands (record w { value = after }) xs → Spares w.value after → (q : Known) → IsByteKept w.setup w.value after q
spares-kept w xs after s spares q word place held checks ends below = ap (λ slabs. byte_in slabs q word place) (spares-same w xs after s spares q.cache checks)

-- ---- what is done at once

mild-once : (spot : Spot) (opening w : World) (refused : Bool) (x : Worker) (others : List Worker) (rest : List (List Answered)) → is_doing spot ≡ false → x.local.spot ≡ spot → Stands w (x ∷ others)
    → Both w.setup opening rest others w.value x.local → BothAfter w.setup opening rest others (at_once w.setup refused w.value x.local spot)
mild-once spot opening w refused x others rest mild is s has =
    let c = at_once w.setup refused w.value x.local spot in
    let made = makes w refused x others spot is s in
    let milder = once-milder w.setup refused w.value x.local spot mild in
    let leaves = change-leaves w.setup refused w.value x.local spot in
    mild-both w.setup opening rest others w.value c.value x.local c.local c.reply leaves.1 leaves.0 milder.2 milder.1
    (spares-goes opening w (made.0 ∷ others) c.value made.2 milder.0) (spares-kept w (made.0 ∷ others) c.value made.2 milder.0) (spares-same w (made.0 ∷ others) c.value made.2 milder.0) has

once-at : (spot : Spot) (opening w : World) (refused : Bool) (x : Worker) (others : List Worker) (rest : List (List Answered)) → x.local.spot ≡ spot → Stands w (x ∷ others) → IsAccounted opening w (x ∷ others)
    → Both w.setup opening rest others w.value x.local → BothAfter w.setup opening rest others (at_once w.setup refused w.value x.local spot)
once-at (InChecked DoChecked kind) opening w refused x others rest is s ac has = let r = does_checked kind opening w x others rest is s ac has.3 has.0 has.1 has.2 in (r.0, r.1, r.2, has.3)
once-at (InChecked AddSlab kind) opening w refused x others rest is s ac has = let r = both_added opening w x others rest refused kind is s ac has.3 has.0 has.1 has.2 in (r.0, r.1, r.2, has.3)
once-at spot opening w refused x others rest is s ac has = mild-once spot opening w refused x others rest refl is s has

once : (opening w : World) (refused : Bool) (others : List Worker) (rest : List (List Answered)) (l : Local) → Comes opening w others l → Both w.setup opening rest others w.value l → BothAfter w.setup opening rest others (at_once w.setup refused w.value l l.spot)
once opening w refused others rest l comes =
    let z = joined opening w others l comes in
    subst (λ l. Both w.setup opening rest others w.value l → BothAfter w.setup opening rest others (at_once w.setup refused w.value l l.spot)) z.1
    (λ has. once-at z.0.local.spot opening w refused z.0 others rest refl z.2 z.3 has)

settles : (opening w : World) (refused : Bool) (others : List Worker) (rest : List (List Answered)) (l : Local) (reply : Option Reply) → Comes opening w others (noted l reply) → Both w.setup opening rest others w.value (noted l reply)
    → BothAfter w.setup opening rest others (settled w.setup refused (record { value = w.value; local = l; reply = reply }))
settles opening w refused others rest l reply comes has =
    let n = noted l reply in
    let c = at_once w.setup refused w.value n n.spot in
    once opening (record w { value = c.value }) refused others rest (noted c.local c.reply) (comes_once opening w refused others n comes) (once opening w refused others rest n comes has)

-- ---- replies that take no step

or-has : (P : Local → Type 0) (l : Local) (more : Reply → Local) (r : Option Reply) → P l → ((reply : Reply) → r ≡ Some reply → P (more reply)) → P (or_step l more r)
or-has P l more None a b = a
or-has P l more (Some reply) a b = b reply refl

rests : (m : Setup) (opening : World) (rest : List (List Answered)) (others : List Worker) (value : ℕ → LockValue) (calls : List Call) (l : Local) → Both m opening rest others value l → Both m opening rest others value (rested_with m calls l)
rests m opening rest others value [] l has = has
rests m opening rest others value (call ∷ calls) l has =
    or-has (Both m opening rest others value) l (λ reply. rested_with m calls (answered l reply)) (told_at_once m (get_or l.known (call_place call) nobody) call (call_kind call)) has
    (λ reply is. rests m opening rest others value calls (answered l reply)
    (mild-both m opening rest others value value l l (Some reply) refl refl refl (subst MildReply is (rest-mild m (get_or l.known (call_place call) nobody) call (call_kind call))) (no-goes m opening value) (no-moves m value) (λ cache checks. refl) has))

rests-at : (m : Setup) (opening : World) (rest : List (List Answered)) (others : List Worker) (value : ℕ → LockValue) (l : Local) (spot : Spot) → Both m opening rest others value l → Both m opening rest others value (rested_at m l spot)
rests-at m opening rest others value l Between has = rests m opening rest others value l.todo l has
rests-at m opening rest others value l _ has = has

-- ---- a step

-- what its spot does, and the reply
stepped : (opening w : World) (x : Worker) (others : List Worker) (rest : List (List Answered)) (spot : Spot) (turn : Turn) → x.local.spot ≡ spot → Stands w (x ∷ others) → IsAccounted opening w (x ∷ others) → turn.local.todo ≡ x.local.todo → turn.local.done ≡ x.local.done
    → Stepped x.local spot turn → Both w.setup opening rest others w.value x.local → Both w.setup opening rest others w.value (noted turn.local turn.reply)
stepped opening w x others rest spot turn is s ac todo done (keeps known mild) has =
    mild-both w.setup opening rest others w.value w.value x.local turn.local turn.reply done todo known mild (no-goes w.setup opening w.value) (no-moves w.setup w.value) (λ cache checks. refl) has
stepped opening w x others rest spot turn is s ac todo done (gives k a known object at r) has =
    let l = x.local in
    let d = one-more l (reply.Given a) in
    let kind_at : doing l.spot ≡ Some Alloc = ap doing is ∙ at in
    let mine = here-of opening w x others Alloc ac kind_at refl in
    let tale = told-of opening w x others ac in
    let inside = place-inside w.setup opening.board (public w (x ∷ others)) l Alloc (tale.call Alloc kind_at).0 refl tale in
    subst (λ r. Both w.setup opening rest others w.value (noted turn.local r)) (sym r)
    (as-answered w.setup opening rest others w.value l turn.local (set l.known l.place k) (reply.Given a) done todo known
    (has-reply w.setup opening w.value l.done rest d tt has.0)
    (words-act w.setup opening rest w.value w.value l.known (set l.known l.place k) l.done d others
    (λ o other. other-known l k o inside object mine.same other) (λ o other. no-moves w.setup w.value (known_of l.known o))
    (λ o word place put e. given-none w.setup opening ((d ∷ l.done) ∷ rest) w.value d l.done a o word place put (known_of (set l.known l.place k) o) refl e)
    (λ j e below o. no-moves w.setup w.value (known_of (get_or others j e).local.known o)) has.1)
    (boarded-reply w.setup opening rest w.value w.value l.done d (λ cache checks. refl) has.2) has.3)
stepped opening w x others rest spot turn is s ac todo done (frees k a known object at r) has =
    let l = x.local in
    let d = one-more l (reply.Freed a) in
    let kind_at : doing l.spot ≡ Some FreeCall = ap doing is ∙ at in
    let mine = here-of opening w x others FreeCall ac kind_at refl in
    let tale = told-of opening w x others ac in
    let inside = place-inside w.setup opening.board (public w (x ∷ others)) l FreeCall (tale.call FreeCall kind_at).0 refl tale in
    subst (λ r. Both w.setup opening rest others w.value (noted turn.local r)) (sym r)
    (as-answered w.setup opening rest others w.value l turn.local (set l.known l.place k) (reply.Freed a) done todo known
    (has-reply w.setup opening w.value l.done rest d tt has.0)
    (words-act w.setup opening rest w.value w.value l.known (set l.known l.place k) l.done d others
    (λ o other. other-known l k o inside object mine.same other) (λ o other. no-moves w.setup w.value (known_of l.known o))
    (λ o word place put e. freed-none w.setup opening ((d ∷ l.done) ∷ rest) w.value d l.done a o word place put (known_of (set l.known l.place k) o) refl e)
    (λ j e below o. no-moves w.setup w.value (known_of (get_or others j e).local.known o)) has.1)
    (boarded-reply w.setup opening rest w.value w.value l.done d (λ cache checks. refl) has.2) has.3)
stepped opening w x others rest spot turn is s ac todo done (takes k known object at r) has =
    let l = x.local in
    let here_at : l.spot ≡ InFree TakeBoard = is ∙ at in
    let ok = s.fresh.workers 0 x (omega arith) in
    let room = ok.spot.awaits (rw here_at refl) in
    let mine = here-of opening w x others FreeCall ac (rw here_at refl) refl in
    let tale = told-of opening w x others ac in
    let none : holding l.done (here l).object ≡ false = sym (tale.holds (here l).object (λ f. absurd (false≢true (let z : is_freeing l.spot ≡ false = rw here_at refl in sym z ∙ f)))) ∙ ap (λ (j : Known). j.held) mine.knew ∙ room.1 in
    subst (λ r. Both w.setup opening rest others w.value (noted turn.local r)) (sym r) (
      subst (λ ds. Has w.setup opening w.value (ds ∷ rest)) (sym done) has.0,
      subst (λ ds. WordsOf w.setup opening rest w.value turn.local.known ds others) (sym done) (subst (λ ks. WordsOf w.setup opening rest w.value ks l.done others) (sym known) (
        λ o word place put. elim (cases_eq o (here l).object) [
          | inl e ↦ λ held hold. absurd (false≢true (sym none ∙ ap (holding l.done) (sym e) ∙ hold))
          | inr other ↦ subst (OwnOf w.setup opening (l.done ∷ rest) w.value l.done o word place put) (sym (known_of-other l.known l.place k o room.0 object other)) (has.1.0 o word place put)
        ],
        has.1.1,
      )),
      subst (λ ds. HasBoarded w.setup opening (ds ∷ rest) w.value) (sym done) has.2,
      has.3,
    )
stepped opening w x others rest spot turn is s ac todo done (writes at known r) has =
    let l = x.local in
    let d = one-more l reply.Wrote in
    let here_at : l.spot ≡ WriteWord = is ∙ at in
    let ok = s.fresh.workers 0 x (omega arith) in
    let mine = here-of opening w x others Write ac (rw here_at refl) refl in
    let plain : w.setup.checks (here l).cache ≡ false = ap w.setup.checks (ok.spot.uses (rw here_at refl)).2 ∙ (ok.spot.plain (rw here_at refl)).2 in
    subst (λ r. Both w.setup opening rest others w.value (noted turn.local r)) (sym r)
    (as-answered w.setup opening rest others w.value l turn.local l.known reply.Wrote done todo known
    (has-reply w.setup opening w.value l.done rest d tt has.0)
    (words-act w.setup opening rest w.value w.value l.known l.known l.done d others (λ o other. refl) (λ o other. no-moves w.setup w.value (known_of l.known o))
    (λ o word place put e held hold checks. absurd (false≢true (sym plain ∙ ap (λ (k : Known). w.setup.checks k.cache) (sym (ap (known_of l.known) (sym e ∙ mine.same) ∙ mine.knew)) ∙ checks)))
    (λ j e below o. no-moves w.setup w.value (known_of (get_or others j e).local.known o)) has.1)
    (boarded-reply w.setup opening rest w.value w.value l.done d (λ cache checks. refl) has.2) has.3)
stepped opening w x others rest spot turn is s ac todo done (reads v at known r) has =
    let l = x.local in
    let d = one-more l (reply.Value v) in
    let here_at : l.spot ≡ ReadWord = is ∙ at in
    let ok = s.fresh.workers 0 x (omega arith) in
    let uses = ok.spot.uses (rw here_at refl) in
    let place = where-held opening w x others Read ac (rw here_at refl) refl uses.1 in
    let plain : w.setup.checks (here l).cache ≡ false = ap w.setup.checks uses.2 ∙ (ok.spot.plain (rw here_at refl)).2 in
    subst (λ r. Both w.setup opening rest others w.value (noted turn.local r)) (sym r)
    (as-answered w.setup opening rest others w.value l turn.local l.known (reply.Value v) done todo known
    (has-reply w.setup opening w.value l.done rest d (λ checked. absurd (false≢true (sym plain ∙ ap w.setup.checks (same_Some (here l).cache checked.0 (sym place.cache ∙ checked.1)) ∙ checked.2))) has.0)
    (words-calm w.setup opening rest w.value w.value l.known l.done d others (calm-value v) (λ o. no-moves w.setup w.value (known_of l.known o)) (λ j e below o. no-moves w.setup w.value (known_of (get_or others j e).local.known o)) has.1)
    (boarded-reply w.setup opening rest w.value w.value l.done d (λ cache checks. refl) has.2) has.3)

steps : (opening : World) (m : Setup) (value : ℕ → LockValue) (words : List ℕ) (refused : Bool) (x : Worker) (others : List Worker) (rest : List (List Answered)) → length words ≡ word_count m → Stands (world_of m value words) (x ∷ others)
    → IsAccounted opening (world_of m value words) (x ∷ others) → Both m opening rest others value x.local
    → let step = step_of m value x.local in let n = number_of m step.place in let q = get_or words n 0 in let a = answer_of step.op q in
    let c = advance_of m refused value x.local a in Both m opening rest others c.value c.local
unfolding world_of world_from
steps opening m value words refused x others rest long s ac has =
    let step = step_of m value x.local in
    let n = number_of m step.place in
    let q = get_or words n 0 in
    let a = answer_of step.op q in
    let after = set words n (after_op step.op q) in
    let turn = advance_at m value x.local x.local.spot a in
    let led = leads x.local.spot opening m value words x others (table m value words x others long s) refl s ac in
    let stands = noted-comes (world_of m value after) others turn.local turn.reply (turn-tells m value x.local x.local.spot a) led.0 in
    let c = settled m refused (record { value = value; local = turn.local; reply = turn.reply }) in
    let says = turn-says m value x.local x.local.spot a in
    let told = stepped opening (world_of m value words) x others rest x.local.spot turn refl s ac says.0 says.1 (turn-step m value x.local x.local.spot a) has in
    let z = noted c.local c.reply in
    rests-at m opening rest others c.value z z.spot (settles opening (world_of m value after) refused others rest turn.local turn.reply (stands, led.1) told)

-- ---- a worker among the others

map-append : {X Y : Type 0} (f : X → Y) (front back : List X) → map f (front ++ back) ≡ map f front ++ map f back
map-append f [] back = refl
map-append f (x ∷ front) back = ap (λ ys. f x ∷ ys) (map-append f front back)

length-mapped : {X Y : Type 0} (f : X → Y) (xs : List X) → length (map f xs) ≡ length xs
length-mapped f [] = refl
length-mapped f (x ∷ xs) = ap suc (length-mapped f xs)

get_or-middle : {X : Type 0} (front back : List X) (x d : X) → get_or (front ++ x ∷ back) (length front) d ≡ x
get_or-middle [] back x d = refl
get_or-middle (y ∷ front) back x d = get_or-middle front back x d

set-middle : {X : Type 0} (front back : List X) (x v : X) → set (front ++ x ∷ back) (length front) v ≡ front ++ v ∷ back
set-middle [] back x v = refl
set-middle (y ∷ front) back x v = ap (λ ys. y ∷ ys) (set-middle front back x v)

-- the same lists of replies
same-grows : (xs ys : List (List Answered)) → All (Contains ys) xs → Grows xs ys
same-grows xs ys all ds there = ([], subst (Contains ys) there.2 (all there.0 ds there.1))

to-front-grows : (front back : List (List Answered)) (ds : List Answered) → Grows (front ++ ds ∷ back) (ds ∷ (front ++ back))
to-front-grows front back ds = same-grows (front ++ ds ∷ back) (ds ∷ (front ++ back)) (All-back (Contains (ds ∷ (front ++ back))) front back ds (All-contains_itself (ds ∷ (front ++ back))))

from-front-grows : (front back : List (List Answered)) (ds : List Answered) → Grows (ds ∷ (front ++ back)) (front ++ ds ∷ back)
from-front-grows front back ds = same-grows (ds ∷ (front ++ back)) (front ++ ds ∷ back) (All-middle (Contains (front ++ ds ∷ back)) front back ds (All-contains_itself (front ++ ds ∷ back)))

to-front : (m : Setup) (opening : World) (value : ℕ → LockValue) (front back : List (List Answered)) (ds : List Answered) → Has m opening value (front ++ ds ∷ back) → Has m opening value (ds ∷ (front ++ back))
to-front m opening value front back ds has =
    let here = ds ∷ (front ++ back) in
    let there = front ++ ds ∷ back in
    let grows = to-front-grows front back ds in
    has-later m opening value there here grows (All-middle (AreTold m opening here) front back ds (All-weaker (AreTold m opening there) (AreTold m opening here) (λ es told. told-later m opening there here es grows told) there has.contents.told)) has

from-front : (m : Setup) (opening : World) (value : ℕ → LockValue) (front back : List (List Answered)) (ds : List Answered) → Has m opening value (ds ∷ (front ++ back)) → Has m opening value (front ++ ds ∷ back)
from-front m opening value front back ds has =
    let here = ds ∷ (front ++ back) in
    let there = front ++ ds ∷ back in
    let grows = from-front-grows front back ds in
    has-later m opening value here there grows (All-back (AreTold m opening there) front back ds (All-weaker (AreTold m opening here) (AreTold m opening there) (λ es told. told-later m opening here there es grows told) here has.contents.told)) has

-- the same words
words-grow : (m : Setup) (opening : World) (dones more : List (List Answered)) (value : ℕ → LockValue) (l : Local) → Grows dones more → HasWords m opening dones value l → HasWords m opening more value l
words-grow m opening dones more value l grows has o word place put = own-still m opening dones more value value l.done l.done o word place put (known_of l.known o) grows (λ h. h) (λ h. h) (λ held checks ends below. refl) (has o word place put)

map-done : (xs : List Worker) → map (λ (y : Worker). y.local.done) xs ≡ map (λ (l : Local). l.done) (map (λ (y : Worker). y.local) xs)
map-done [] = refl
map-done (y ∷ ys) = ap (λ ds. y.local.done ∷ ds) (map-done ys)

-- of workers, and of what is plain of them
all-unmapped : (P : Local → Type 0) (xs : List Worker) → All P (map (λ (x : Worker). x.local) xs) → All (λ (x : Worker). P x.local) xs
all-unmapped P [] all = All-nil (λ (x : Worker). P x.local)
all-unmapped P (x ∷ xs) all = All-cons (λ (x : Worker). P x.local) x xs (All-head P x.local (map (λ (x : Worker). x.local) xs) all) (all-unmapped P xs (All-tail P x.local (map (λ (x : Worker). x.local) xs) all))

-- ---- the same, of a system

examined-same : (layout : Layout) (flags : Flags) (x : Option ObjectState) → examined layout flags x ≡ parts_of layout flags x
examined-same layout flags None = refl
examined-same layout flags (Some Free) = refl
examined-same layout flags (Some Used) = refl
examined-same layout flags (Some Aside) = refl

clean-of : (came : ℤ → ℕ → Type 0) (s : CheckedState) → AreBytes came s → Clean came s
clean-of came s bytes frame j p part there has = bytes frame j p part (subst (λ ps. Contains ps part) (sym (examined-same s.layout s.flags (slice_get (slab_of s frame).states j))) there) has

bytes-of : (came : ℤ → ℕ → Type 0) (s : CheckedState) → Clean came s → AreBytes came s
bytes-of came s clean frame j p part there has = clean frame j p part (subst (λ ps. Contains ps part) (examined-same s.layout s.flags (slice_get (slab_of s frame).states j)) there) has

has-of : (m : Setup) (opening : World) (s : System) → HasContents m opening s → Has m opening s.value (replies_of s)
has-of m opening s has = record { contents = has.contents; bytes = λ cache checks. clean-of (Came m opening (replies_of s) cache) (slabs_at m s.value cache) (has.bytes cache checks) }

contents-of : (m : Setup) (opening : World) (s : System) → Has m opening s.value (replies_of s) → All (HasWords m opening (replies_of s) s.value) s.locals → HasBoarded m opening (replies_of s) s.value → HasContents m opening s
contents-of m opening s has words board = record { contents = has.contents; bytes = λ cache checks. bytes-of (Came m opening (replies_of s) cache) (slabs_at m s.value cache) (has.bytes cache checks); words = words; boarded = board }

-- ---- a turn

-- the call begins
begun-both : (m : Setup) (tries : Bool) (opening : World) (rest : List (List Answered)) (others : List Worker) (value : ℕ → LockValue) (l : Local) (spot : Spot) → Both m opening rest others value l → Both m opening rest others value (begun_at m tries l spot)
begun-both m tries opening rest others value l Between has = by l.todo
  where
    by : (calls : List Call) → Both m opening rest others value (begun_with m tries l calls)
    by [] = has
    by (call ∷ calls) = has
begun-both m tries opening rest others value l _ has = has

turn_below : (m : Setup) (opening : World) (s : System) (pick : Pick) → pick.worker < length s.locals → IsCoherentSystem m opening s → Has m opening s.value (replies_of s) → All (HasWords m opening (replies_of s) s.value) s.locals → HasBoarded m opening (replies_of s) s.value → HasContents m opening (turn m s pick)
unfolding world_of world_from
turn_below m opening s pick below is has words board =
    let r = split is.workers pick.worker (let e = ap (λ ls. length ls) is.locals in let g = length-mapped (λ (x : Worker). x.local) is.workers in omega arith) in
    let w = world_of m s.value s.words in
    let all : Stands w is.workers = record { chains = is.chains; placed = is.coherent.placed; listed = is.coherent.listed; fresh = is.coherent.fresh } in
    by_split r.0 r.2 r.1 r.4 (sym (ap (map (λ (x : Worker). x.local)) r.3) ∙ is.locals) (subst (Stands w) r.3 all) (subst (IsAccounted opening w) r.3 is.coherent.accounted)
  where
    by_split : (front back : List Worker) (x : Worker) → length front ≡ pick.worker → map (λ (x : Worker). x.local) (front ++ x ∷ back) ≡ s.locals → Stands (world_of m s.value s.words) (front ++ x ∷ back) → IsAccounted opening (world_of m s.value s.words) (front ++ x ∷ back)
        → HasContents m opening (turn m s pick)
    by_split front back x at locals all ac =
        let w = world_of m s.value s.words in
        let k = pick.worker in
        let l = get_or s.locals k idle in
        let others = front ++ back in
        let before = map (λ (x : Worker). x.local) front in
        let behind = map (λ (x : Worker). x.local) back in
        let laid : before ++ x.local ∷ behind ≡ s.locals = sym (map-append (λ (x : Worker). x.local) front (x ∷ back)) ∙ locals in
        let long : length before ≡ k = length-mapped (λ (x : Worker). x.local) front ∙ at in
        let mine : x.local ≡ l = sym (subst (λ ls. get_or ls (length before) idle ≡ x.local) laid (get_or-middle before behind x.local idle)) ∙ ap (λ n. get_or s.locals n idle) long in
        let rest = subst (λ l. l.spot ≡ Between → TakesStep m l l.todo) (sym mine) (is.rested k idle below) in
        let stood = to_front w front back x all in
        let agrees = accounted_to_front opening w front back x ac in
        let began = subst (λ l. Comes opening w others (begun m pick.tries l)) mine (begin pick.tries w x others stood (λ _. may_begin opening w x others agrees) rest, told_begin pick.tries opening w x others rest agrees) in
        let y = joined opening w others (begun m pick.tries l) began in
        let done = λ (l : Local). l.done in
        let dones = map done before ++ map done behind in
        let was : Has m opening s.value (x.local.done ∷ dones) = to-front m opening s.value (map done before) (map done behind) x.local.done
        (subst (λ ds. Has m opening s.value ds) (ap (map done) (sym laid) ∙ map-append done before (x.local ∷ behind)) has) in
        let here_dones = x.local.done ∷ dones in
        let all_dones = map done before ++ x.local.done ∷ map done behind in
        let laid_dones : replies_of s ≡ all_dones = ap (map done) (sym laid) ∙ map-append done before (x.local ∷ behind) in
        let moved : All (HasWords m opening here_dones s.value) s.locals = All-weaker (HasWords m opening all_dones s.value) (HasWords m opening here_dones s.value)
        (λ l has. words-grow m opening all_dones here_dones s.value l (to-front-grows (map done before) (map done behind) x.local.done) has) s.locals (subst (λ ds. All (HasWords m opening ds s.value) s.locals) laid_dones words) in
        let front_words : All (HasWords m opening here_dones s.value) (x.local ∷ (before ++ behind)) = All-middle (HasWords m opening here_dones s.value) before behind x.local (subst (All (HasWords m opening here_dones s.value)) (sym laid) moved) in
        let my_words : HasWords m opening here_dones s.value x.local = All-head (HasWords m opening here_dones s.value) x.local (before ++ behind) front_words in
        let their_words : All (λ (y : Worker). HasWords m opening here_dones s.value y.local) others = all-unmapped (HasWords m opening here_dones s.value) others
        (subst (All (HasWords m opening here_dones s.value)) (sym (map-append (λ (x : Worker). x.local) front back)) (All-tail (HasWords m opening here_dones s.value) x.local (before ++ behind) front_words)) in
        let my_board : HasBoarded m opening here_dones s.value = boarded-later m opening all_dones here_dones s.value s.value (to-front-grows (map done before) (map done behind) x.local.done)
        (λ o. let e = sum_by-middle (freed_in o) (map done before) (map done behind) x.local.done in omega arith) (λ cache checks. refl) (subst (λ ds. HasBoarded m opening ds s.value) laid_dones board) in
        let are : dones ≡ map (λ (y : Worker). y.local.done) others = sym (map-append (λ (y : Worker). y.local.done) front back ∙ (λ i. map-done front i ++ map-done back i)) in
        let started : Both m opening dones others s.value x.local = (was, (my_words, their_words), my_board, are) in
        let starts : Both m opening dones others s.value (begun m pick.tries l) = begun-both m pick.tries opening dones others s.value l l.spot (subst (Both m opening dones others s.value) mine started) in
        let step = step_of m s.value (begun m pick.tries l) in
        let n = number_of m step.place in
        let q = get_or s.words n 0 in
        let c = advance_of m pick.refused s.value (begun m pick.tries l) (answer_of step.op q) in
        let led : Both m opening dones others c.value c.local
        = subst (λ b. Both m opening dones others s.value b → let step = step_of m s.value b in let n = number_of m step.place in let q = get_or s.words n 0 in let a = answer_of step.op q in
        let c = advance_of m pick.refused s.value b a in Both m opening dones others c.value c.local) y.1
        (steps opening m s.value s.words pick.refused y.0 others dones is.words y.2 y.3) starts in
        let now : map done (set s.locals k c.local) ≡ map done before ++ c.local.done ∷ map done behind
        = ap (map done) (sym (ap (λ ls. set ls k c.local) laid)) ∙ ap (λ j. map done (set (before ++ x.local ∷ behind) j c.local)) (sym long) ∙ ap (map done) (set-middle before behind x.local c.local) ∙ map-append done before (c.local ∷ behind) in
        let now_dones = c.local.done ∷ dones in
        let last_dones = map done before ++ c.local.done ∷ map done behind in
        let held_words : All (HasWords m opening now_dones c.value) (c.local ∷ (before ++ behind)) = All-cons (HasWords m opening now_dones c.value) c.local (before ++ behind) led.1.0
        (subst (All (HasWords m opening now_dones c.value)) (map-append (λ (x : Worker). x.local) front back) (All-map (HasWords m opening now_dones c.value) (λ (x : Worker). x.local) others led.1.1)) in
        let grown : All (HasWords m opening last_dones c.value) (c.local ∷ (before ++ behind)) = All-weaker (HasWords m opening now_dones c.value) (HasWords m opening last_dones c.value)
        (λ l has. words-grow m opening now_dones last_dones c.value l (from-front-grows (map done before) (map done behind) c.local.done) has) (c.local ∷ (before ++ behind)) held_words in
        let locals_now : set s.locals k c.local ≡ before ++ c.local ∷ behind = sym (ap (λ ls. set ls k c.local) laid) ∙ ap (λ j. set (before ++ x.local ∷ behind) j c.local) (sym long) ∙ set-middle before behind x.local c.local in
        contents-of m opening (turn m s pick) (subst (λ ds. Has m opening c.value ds) (sym now) (from-front m opening c.value (map done before) (map done behind) c.local.done led.0))
        (subst (λ ds. All (HasWords m opening ds c.value) (set s.locals k c.local)) (sym now)
        (subst (All (HasWords m opening last_dones c.value)) (sym locals_now) (All-back (HasWords m opening last_dones c.value) before behind c.local grown)))
        (subst (λ ds. HasBoarded m opening ds c.value) (sym now) (boarded-later m opening now_dones last_dones c.value c.value (from-front-grows (map done before) (map done behind) c.local.done)
        (λ o. let e = sum_by-middle (freed_in o) (map done before) (map done behind) c.local.done in omega arith) (λ cache checks. refl) led.2))

-- a pick of no worker changes nothing
set-beyond : {X : Type 0} (xs : List X) (k : ℕ) (v : X) → length xs ≤ k → set xs k v ≡ xs
set-beyond [] k v past = refl
set-beyond (x ∷ xs) zero v past = absurd (omega arith)
set-beyond (x ∷ xs) (suc k) v past = ap (λ ys. x ∷ ys) (set-beyond xs k v (omega arith))

get_or-beyond : {X : Type 0} (xs : List X) (k : ℕ) (d : X) → length xs ≤ k → get_or xs k d ≡ d
get_or-beyond [] k d past = refl
get_or-beyond (x ∷ xs) zero d past = absurd (omega arith)
get_or-beyond (x ∷ xs) (suc k) d past = get_or-beyond xs k d (omega arith)

idle-turn : (m : Setup) (s : System) (refused : Bool) (k : ℕ) → length s.locals ≤ k → after_step m refused s k idle ≡ s
idle-turn m s refused k past =
    let words = set-get_or s.words 0 0 in
    let locals = set-beyond s.locals k idle past in
    λ i. record { words = words i; value = s.value; locals = locals i }

no-turn : (m : Setup) (s : System) (pick : Pick) → length s.locals ≤ pick.worker → turn m s pick ≡ s
no-turn m s pick past = ap (λ l. after_step m pick.refused s pick.worker (begun m pick.tries l)) (get_or-beyond s.locals pick.worker idle past) ∙ idle-turn m s pick.refused pick.worker past

pub turn_keeps : TurnsKeepContents
turn_keeps m opening s pick is has = elim (cases_lt pick.worker (length s.locals)) [
  | inl below ↦ turn_below m opening s pick below is (has-of m opening s has) has.words has.boarded
  | inr past ↦ subst (HasContents m opening) (sym (no-turn m s pick past)) has
]

pub run_keeps : RunsKeepContents
run_keeps m opening s [] is has = has
run_keeps m opening s (pick ∷ picks) is has = run_keeps m opening (turn m s pick) picks (turn_keeps_all m opening s pick is) (turn_keeps m opening s pick is has)

-- ---- the beginning

-- no reply of a worker tells of a damage
told-rested : (m : Setup) (opening : World) (dones : List (List Answered)) (calls : List Call) (l : Local) → AreTold m opening dones l.done → AreTold m opening dones (rested_with m calls l).done
told-rested m opening dones [] l told = told
told-rested m opening dones (call ∷ calls) l told =
    or-has (λ l. AreTold m opening dones l.done) l (λ reply. rested_with m calls (answered l reply)) (told_at_once m (get_or l.known (call_place call) nobody) call (call_kind call)) told
    (λ reply is. told-rested m opening dones calls (answered l reply)
    (tells-mild m opening dones l.done (call_of l) reply (subst MildReply is (rest-mild m (get_or l.known (call_place call) nobody) call (call_kind call))), told))

told-new : (m : Setup) (opening : World) (dones : List (List Answered)) (l : Local) (spot : Spot) → l.done ≡ [] → AreTold m opening dones (rested_at m l spot).done
told-new m opening dones l Between none = told-rested m opening dones l.todo l (rw none tt)
told-new m opening dones l _ none = rw none tt

-- nobody holds anything
unheld : (m : Setup) (l : Local) (o : ℕ) → IsNew m l → (known_of l.known o).held ≡ true → ⊥
unheld m l o new is = false≢true (sym (new.known (place_of l.known o) nobody (held-inside l.known o is)).2 ∙ is)

known-rested : (m : Setup) (calls : List Call) (l : Local) → (rested_with m calls l).known ≡ l.known
known-rested m [] l = refl
known-rested m (call ∷ calls) l = or-has (λ n. n.known ≡ l.known) l (λ reply. rested_with m calls (answered l reply)) (told_at_once m (get_or l.known (call_place call) nobody) call (call_kind call)) refl (λ reply is. known-rested m calls (answered l reply))

known-at : (m : Setup) (l : Local) (spot : Spot) → (rested_at m l spot).known ≡ l.known
known-at m l Between = known-rested m l.todo l
known-at m l _ = refl

-- each byte stood there
bytes-before : (came : ℤ → ℕ → Type 0) (s : CheckedState) → IsSound s → ((at : ℤ) (byte : ℕ) → IsByteAt s at byte → came at byte) → Clean came s
bytes-before came s sound stood frame j p part there has =
    let fit = parts-fit (by_place came s.layout frame) s.layout s.flags sound.layout (slice_get (slab_of s frame).states j) part p there has in
    inr (stood _ _ (record {
      slot = record { frame = frame; index = j };
      object = object-of (cases_lt j (length (slab_of s frame).states));
      place = p;
      inside = fit;
      address = refl;
      is = slot-byte s.layout (slab_of s frame).bytes j p fit;
    }))
  where
    object-of : (j < length (slab_of s frame).states) ⊎ (length (slab_of s frame).states ≤ j) → j < length (slab_of s frame).states
    object-of (inl below) = below
    object-of (inr past) = absurd (let none = subst (λ x. Contains (parts_of s.layout s.flags x) part) (slice_get_past (slab_of s frame).states j past) there in omega (arith, none.1))

pub rounds_begin : RoundsBeginWithContents
unfolding world_of world_from
rounds_begin m s new =
    let w = world_of m s.value s.words in
    let dones = replies_of (opened m s) in
    contents-of m w (opened m s) (record {
      contents = record {
        slabs = λ cache checks. record {
          number = refl;
          layout = refl;
          found = [];
          added = sym (append-nil (slabs_at m s.value cache).reports);
          told = All-nil (IsReport (Came m w dones cache) (slabs_at m s.value cache));
          aside = λ slot is. inl is;
          more_aside = λ frame more. absurd (omega (arith, more));
        };
        told = All-map (AreTold m w dones) (λ (l : Local). l.done) (map (rested m) s.locals)
            (All-map (λ (l : Local). AreTold m w dones l.done) (rested m) s.locals (λ k d below. let l = get_or s.locals k d in told-new m w dones l l.spot (new.new k d below).done));
      };
      bytes = λ cache checks.
          let r = the-slabs w [] cache new.rest checks in
          let e : slabs_at m s.value cache ≡ r.0 = ap (slabs_in (m.layout cache)) r.1 in
          bytes-before (Came m w dones cache) (slabs_at m s.value cache) (subst IsSound (sym e) r.2.sound) (λ at byte there. inl there);
    })
    (All-map (HasWords m w dones s.value) (rested m) s.locals (λ k d below o word place put held.
    let l = get_or s.locals k d in absurd (unheld m l o (new.new k d below) (subst (λ ks. (known_of ks o).held ≡ true) (known-at m l l.spot) held))))
    (λ o f i word place b on checks none object address ends below.
    let r = the-slabs w [] b.cache new.rest checks in
    let e : slabs_at m s.value b.cache ≡ r.0 = ap (slabs_in (m.layout b.cache)) r.1 in
    let t = slabs_at m s.value b.cache in
    let sound : IsSound t = subst IsSound (sym e) r.2.sound in
    let like : (record t.layout { min_partial = (m.layout b.cache).min_partial }) ≡ m.layout b.cache = subst (λ (t : CheckedState). (record t.layout { min_partial = (m.layout b.cache).min_partial }) ≡ m.layout b.cache) (sym e) r.2.layout in
    let size : t.layout.object_size ≡ (m.layout b.cache).object_size = ap (λ (l : Layout). l.object_size) like in
    let bounds = sound.layout.bounds in
    let address_is : address_of f i t.layout ≡ address_of b.frame b.index (m.layout b.cache) = ap (λ (l : Layout). address_of f i l) like ∙ address in
    inl (inl (record {
      slot = record { frame = f; index = i };
      object = object;
      place = t.layout.left_pad + (8 * word + place);
      inside = omega (arith, ends, below, size, bounds.inuse.0, bounds.inuse.1, bounds.left_pad);
      address = ap pos (let z : f * 4096 + i * t.layout.size + (t.layout.left_pad + (8 * word + place)) ≡ address_of b.frame b.index (m.layout b.cache) + (8 * word + place) = omega (arith, address_is) in z);
      is = refl;
    })))

pub rounds_end : RoundsEndWithContents
rounds_end m s picks new = (run_keeps m (world_of m s.value s.words) (opened m s) picks (opens m s new) (rounds_begin m s new)).contents
