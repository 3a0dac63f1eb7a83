-- What the steps of spots do to the account: those without a reply, an object popped, installed or freed, a take from the board, and the ends of calls.
use Rattle.std.proofs.Common.{◌≡◌, ℕ, ◌-◌, ◌<◌, ◌≤◌, true, false, List, ◌∷◌, length, refl, sym, ap, ◌∙◌, subst, arith, inl, inr, Some, None, Option}
use Rattle.std.proofs.lemmas.Bool.{cases_eq, cases_Bool}
use Rattle.std.proofs.lemmas.List.Sums.{get_or-le-sum_by}
use Rattle.std.proofs.lemmas.List.Elements.{All-head}
use Rattle.slub_object_layout.specs.Layout.{address_of}
use Rattle.slub_words.specs.declared.cpu.CpuWord.{CpuWord}
use Rattle.slub_words.specs.declared.slab.SlabWord.{SlabWord}
use Rattle.slub_words.specs.declared.board.BoardWord.{BoardWord}
use Rattle.slub_cpu_partial.specs.declared.words.ListWord.{ListWord}
use Rattle.slub_trace.specs.declared.reply.Reply.TheVariants as reply
use Rattle.slub_core.specs.declared.call.CallKind.TheVariants.{Free, Trim}
use Rattle.slub_core.specs.declared.spot.Spot.{Spot}
use Rattle.slub_core.specs.declared.spot.Spot.TheVariants.{InAlloc, InFree, InTrim}
use Rattle.slub_core.specs.declared.spot.AllocSpot.TheVariants.{Pop}
use Rattle.slub_core.specs.declared.spot.FreeSpot.TheVariants.{TakeBoard, Push, FreeSlab, FreeLocked}
use Rattle.slub_core.specs.declared.spot.TrimSpot.TheVariants.{GiveTrim}
use Rattle.slub_core.specs.declared.step.Answer.{Answer}
use Rattle.slub_core.specs.declared.step.Answer.TheVariants.{Done, Won}
use Rattle.slub_core.specs.World.{World, LockValue, set_cpu, set_list, set_slab, set_link, set_board, set_lock, cache_at, object_at, in_chain, on_board}
use Rattle.slub_core.specs.Local.{Worker, here, address_in}
use Rattle.slub_core.specs.Ops.{own_cpu}
use Rattle.slub_core.specs.Alloc.{popped_word, alloc_advance}
use Rattle.slub_core.specs.Free.{pushed_word, freed_word, was_full, way_of_freed, board_taken, free_advance}
use Rattle.slub_core.specs.Offline.{trim_advance}
use Rattle.slub_core.specs.Steps.{told, advance_at}
use Rattle.slub_core.specs.Spots.{doing, is_freeing, takes_board}
use Rattle.slub_core.specs.Placed.{owned}
use Rattle.slub_core.specs.Fresh.{IsAtWork}
use Rattle.slub_core.specs.Coherent.{Stands}
use Rattle.slub_core.specs.Accounted.{boarded, public, IsDoing, IsTold, IsAccounted}
use Rattle.slub_core.proofs.Update.{each_updated, term_le_sum}
use Rattle.slub_core.proofs.Exists.{object_at-le, word-object, head-exists, head-slab, exists_at-within, nothing-there, owned-object}
use Rattle.slub_core.proofs.StepValues.{word-cache}
use Rattle.slub_core.proofs.ValueStep.{known-owned, board-object}
use Rattle.slub_core.proofs.Changes.{own-word}
use Rattle.slub_core.proofs.TaleQuiet.{Unseen, told_quiet}
use Rattle.slub_core.proofs.TaleAnswer.{Answers}
use Rattle.slub_core.proofs.TaleReplies.{spoken, told-of, not-holding, told_same, told_freed}
use Rattle.slub_core.proofs.TaleGiven.{IsUnheld, place-unheld, told_given}
use Rattle.slub_core.proofs.TaleTake.{told_take}
use Rattle.slub_core.proofs.TaleTurns.{quiet_turn}

-- ---- words that the account doesn't read

pub unseen-same : (w : World) → Unseen w w
unseen-same w = record { setup = refl; tids = λ n. omega arith; board = λ o. refl; memory = λ p. refl; dry = λ order. refl }

-- the account reads the workers' locals alone
pub accounted-as : (opening w : World) (x z : Worker) (others : List Worker) → z.local ≡ x.local → IsAccounted opening w (x ∷ others) → IsAccounted opening w (z ∷ others)
accounted-as opening w x z others e ac =
    told_quiet opening w w x z others ac (unseen-same w) (rw e (record { known = refl; done = refl; todo = refl; place = refl; freeing = refl; frees = refl; call = λ kind e. (e, λ h. h) }))

pub unseen-lock : (w : World) (n v : ℕ) → Unseen w (set_lock w n v)
unseen-lock w n v = record { setup = refl; tids = λ n. omega arith; board = λ o. refl; memory = λ p. refl; dry = λ order. refl }

pub unseen-list : (w : World) (n : ℕ) (v : ListWord) → Unseen w (set_list w n v)
unseen-list w n v = record { setup = refl; tids = λ n. omega arith; board = λ o. refl; memory = λ p. refl; dry = λ order. refl }

pub unseen-slab : (w : World) (f : ℕ) (v : SlabWord) → Unseen w (set_slab w f v)
unseen-slab w f v = record { setup = refl; tids = λ n. omega arith; board = λ o. refl; memory = λ p. refl; dry = λ order. refl }

pub unseen-link : (w : World) (f v : ℕ) → Unseen w (set_link w f v)
unseen-link w f v = record { setup = refl; tids = λ n. omega arith; board = λ o. refl; memory = λ p. refl; dry = λ order. refl }

pub unseen-cpu : (w : World) (n : ℕ) (v : CpuWord) → (w.cpu n).tid ≤ v.tid → Unseen w (set_cpu w n v)
unseen-cpu w n v more = record {
  setup = refl;
  tids = each_updated w.cpu n v (λ k c. (w.cpu k).tid ≤ c.tid) more (λ k d. omega arith);
  board = λ o. refl;
  memory = λ p. refl;
  dry = λ order. refl;
}

-- a board word that isn't there is taken
pub unseen-board : (w : World) (n : ℕ) → w.board n ≡ None → Unseen w (set_board w n None)
unseen-board w n none = record {
  setup = refl;
  tids = λ n. omega arith;
  board = each_updated w.board n None (λ k b. b ≡ w.board k) (sym none) (λ k d. refl);
  memory = λ p. refl;
  dry = λ order. refl;
}

-- ---- a step without a reply

pub told_turn : (opening w v : World) (value : ℕ → LockValue) (x : Worker) (others : List Worker) (a : Answer) → IsAccounted opening w (x ∷ others) → Unseen w v → takes_board x.local.spot ≡ false → (advance_at w.setup value x.local x.local.spot a).reply ≡ None
    → IsAccounted opening v (record x { local = told (advance_at w.setup value x.local x.local.spot a) } ∷ others)
told_turn opening w v value x others a ac same away none =
    rw none (told_quiet opening w v x (record x { local = (advance_at w.setup value x.local x.local.spot a).local }) others ac same (quiet_turn w.setup value x.local x.local.spot a refl away none))

-- ---- an object of a freelist

-- an object of a CPU freelist is held by nobody, and isn't on the board
pub chain-unheld : (w : World) (x : Worker) (others : List Worker) (n f i : ℕ) (s : Stands w (x ∷ others)) → n < w.setup.cpu_words → 1 ≤ in_chain (w.cpu n).frame (s.chains.cpu n) f i → 1 ≤ object_at w f i
    → IsUnheld w (x ∷ others) (address_of f i (w.setup.layout (cache_at w f)))
chain-unheld w x others n f i s below has some =
    let once = s.placed.once f i in
    let one = object_at-le w f i in
    let t = term_le_sum w.setup.cpu_words (λ k. in_chain (w.cpu k).frame (s.chains.cpu k) f i) n below in
    place-unheld w x others f i s some
    (λ k d within. let h = get_or-le-sum_by (owned f i) (x ∷ others) k d within in omega arith)
    (λ o within. let b = term_le_sum w.setup.objects (λ o. on_board (w.board o) f i) o within in omega arith)

at-work : (w : World) (x : Worker) (others : List Worker) → Stands w (x ∷ others) → IsAtWork w x
at-work w x others s = All-head (IsAtWork w) x others s.fresh.workers

pub told_Pop : (opening w : World) (x : Worker) (others : List Worker) → x.local.spot ≡ InAlloc Pop → w.cpu (own_cpu x.local) ≡ x.local.cpu_word → Stands w (x ∷ others) → IsAccounted opening w (x ∷ others)
    → IsAccounted opening (set_cpu w (own_cpu x.local) (popped_word w.setup x.local)) (record x { local = told (alloc_advance w.setup x.local Pop Won) } ∷ others)
told_Pop opening w x others is won s ac =
    let ok = at-work w x others s in
    let n = own_cpu x.local in
    let c = x.local.cpu_word in
    let own = own-word w x others s (rw is refl) in
    let some = (ok.spot.noted.head (rw is refl)).0 in
    let some' : 1 ≤ (w.cpu n).head = rw won some in
    let there = head-exists w s.chains (x ∷ others) n s.placed s.listed own.0 some' in
    let slab = head-slab w s.chains (x ∷ others) n s.placed s.listed own.0 some' in
    let within = exists_at-within w (w.cpu n).frame ((w.cpu n).head - 1) there.1 in
    let object = word-object w (w.cpu n).frame ((w.cpu n).head - 1) (omega arith) in
    let cache : cache_at w (w.cpu n).frame ≡ x.local.cache = word-cache w (w.cpu n).frame (omega arith) ∙ slab.1 ∙ own.1 in
    let un = chain-unheld w x others n (w.cpu n).frame ((w.cpu n).head - 1) s own.0 there.0 (omega arith) in
    let a : address_of (w.cpu n).frame ((w.cpu n).head - 1) (w.setup.layout (cache_at w (w.cpu n).frame)) ≡ address_of c.frame (c.head - 1) (w.setup.layout x.local.cache)
    = ap (λ k. address_of (w.cpu n).frame ((w.cpu n).head - 1) (w.setup.layout k)) cache ∙ ap (λ (c : CpuWord). address_of c.frame (c.head - 1) (w.setup.layout x.local.cache)) won in
    let real : 1 ≤ c.frame = subst (λ (c : CpuWord). 1 ≤ c.frame) won (omega (arith, slab.0)) in
    told_given opening w (set_cpu w n (popped_word w.setup x.local)) x (record x { local = told (alloc_advance w.setup x.local Pop Won) }) others c.frame (c.head - 1) ac
    (spoken w _ x.local _ (unseen-cpu w n (popped_word w.setup x.local) (let t = ap (λ (c : CpuWord). c.tid) won in omega arith)) refl)
    (rw is refl) (rw is refl) (ok.spot.awaits (rw is refl)).1 real (subst (IsUnheld w (x ∷ others)) a un)
    (record { known = refl; done = refl; todo = refl; freeing = refl; call = refl })

-- ---- an object is freed

-- an object that is held stands in a frame other than 0
pub held-real : (w : World) (x : Worker) (others : List Worker) → Stands w (x ∷ others) → x.local.place < length x.local.known → (here x.local).held ≡ true → 1 ≤ (here x.local).frame
held-real w x others s inside mine = elim (cases_eq (here x.local).frame 0) [
  | inl e ↦ absurd (
      let k = here x.local in
      let has = known-owned x x.local.place _ inside mine in
      let most = owned-object w s.chains (x ∷ others) k.frame k.index s.placed 0 x (omega arith) in
      let z : object_at w k.frame k.index ≡ 0 = ap (λ f. object_at w f k.index) e ∙ nothing-there w s.chains k.index s.listed.shaped in
      omega arith)
  | inr d ↦ omega (arith, d)
]

freed-at : (opening w v : World) (x z : Worker) (others : List Worker) (spot : Spot) → x.local.spot ≡ spot → doing spot ≡ Some Free → is_freeing spot ≡ true → Stands w (x ∷ others) → IsAccounted opening w (x ∷ others) → Unseen w v
    → (x.local.place < length x.local.known) × ((here x.local).held ≡ true) → Answers x.local z.local (record (here x.local) { held = false }) (reply.Freed (address_in w.setup (here x.local))) → IsAccounted opening v (z ∷ others)
freed-at opening w v x z others spot is at busy s ac same room after =
    let ok = told-of opening w x others ac in
    told_freed opening w v x z others ac (spoken w v x.local (reply.Freed (address_in w.setup (here x.local))) same refl) (ok.call Free (rw is at)).0 (rw is busy) room.1 (held-real w x others s room.0 room.1) after

pub told_Push : (opening w : World) (x : Worker) (others : List Worker) → x.local.spot ≡ InFree Push → w.cpu (own_cpu x.local) ≡ x.local.cpu_word → Stands w (x ∷ others) → IsAccounted opening w (x ∷ others)
    → IsAccounted opening (set_cpu w (own_cpu x.local) (pushed_word w.setup x.local)) (record x { local = told (free_advance w.setup x.local Push Won) } ∷ others)
told_Push opening w x others is won s ac =
    let f = (at-work w x others s).spot.frees (rw is refl) in
    freed-at opening w _ x _ others (InFree Push) is refl refl s ac (unseen-cpu w (own_cpu x.local) (pushed_word w.setup x.local) (let t = ap (λ (c : CpuWord). c.tid) won in omega arith)) (f.0, f.1)
    (record { known = refl; done = refl; todo = refl; freeing = refl; call = refl })

pub told_FreeLocked : (opening w : World) (x : Worker) (others : List Worker) → x.local.spot ≡ InFree FreeLocked → Stands w (x ∷ others) → IsAccounted opening w (x ∷ others)
    → IsAccounted opening (set_slab w (here x.local).frame (freed_word x.local)) (record x { local = told (free_advance w.setup x.local FreeLocked Won) } ∷ others)
told_FreeLocked opening w x others is s ac =
    let f = (at-work w x others s).spot.frees (rw is refl) in
    freed-at opening w _ x _ others (InFree FreeLocked) is refl refl s ac (unseen-slab w (here x.local).frame (freed_word x.local)) (f.0, f.1)
    (record { known = refl; done = refl; todo = refl; freeing = refl; call = refl })

freed-way : (s : SlabWord) → (is_freeing (way_of_freed s) ≡ false) × (doing (way_of_freed s) ≡ None)
freed-way s = elim (cases_Bool (was_full s)) [ inl e ↦ rw e (refl, refl) | inr e ↦ rw e (refl, refl) ]

pub told_FreeSlab : (opening w : World) (x : Worker) (others : List Worker) → x.local.spot ≡ InFree FreeSlab → Stands w (x ∷ others) → IsAccounted opening w (x ∷ others)
    → IsAccounted opening (set_slab w (here x.local).frame (freed_word x.local)) (record x { local = told (free_advance w.setup x.local FreeSlab Won) } ∷ others)
told_FreeSlab opening w x others is s ac =
    let f = (at-work w x others s).spot.frees (rw is refl) in
    let way = freed-way x.local.slab_word in
    freed-at opening w _ x _ others (InFree FreeSlab) is refl refl s ac (unseen-slab w (here x.local).frame (freed_word x.local)) (f.0, f.1)
    (record { known = refl; done = refl; todo = refl; freeing = way.0; call = way.1 })

-- ---- the board

pub told_TakeBoard : (opening w : World) (x : Worker) (others : List Worker) → x.local.spot ≡ InFree TakeBoard → Stands w (x ∷ others) → IsAccounted opening w (x ∷ others)
    → IsAccounted opening (set_board w (here x.local).object None) (record x { local = told (board_taken w.setup x.local (w.board (here x.local).object)) } ∷ others)
told_TakeBoard opening w x others is s ac = by_word (w.board (here x.local).object) refl
  where
    ok : IsAtWork w x
    ok = at-work w x others s

    tale : IsTold w.setup opening.board (public w (x ∷ others)) x.local
    tale = told-of opening w x others ac

    doing' : IsDoing x.local Free
    doing' = (tale.call Free (rw is refl)).0

    free : (here x.local).held ≡ false
    free = (ok.spot.awaits (rw is refl)).1

    by_word : (b : Option BoardWord) → w.board (here x.local).object ≡ b → IsAccounted opening (set_board w (here x.local).object None) (record x { local = told (board_taken w.setup x.local b) } ∷ others)
    by_word None e =
        told_same opening w _ x _ others Free reply.NotHeld ac (spoken w _ x.local reply.NotHeld (unseen-board w (here x.local).object e) refl) doing' (rw is refl) refl refl
        (record { known = refl; done = refl; todo = refl; freeing = refl; call = refl }) (
          rw doing'.same_kind refl,
          rw doing'.same_kind refl,
          rw (doing'.object refl) (not-holding opening w x others ac doing' refl (rw is refl) free),
          λ f. rw (doing'.object refl) (ap boarded e),
        )
    by_word (Some b) e =
        let there = board-object w x others s (here x.local).object b ok.spot.number e in
        let real : 1 ≤ b.frame = elim (cases_eq b.frame 0) [
          | inl z ↦ absurd (let n : object_at w b.frame b.index ≡ 0 = ap (λ f. object_at w f b.index) z ∙ nothing-there w s.chains b.index s.listed.shaped in omega arith)
          | inr d ↦ omega (arith, d)
        ] in
        elim (cases_Bool (w.setup.checks b.cache)) [
          | inl c ↦ told_take opening w x _ others b ac (rw is refl) (rw is refl) free e real (record { known = refl; done = refl; todo = refl; place = refl; freeing = rw c refl; call = rw c refl })
          | inr c ↦ told_take opening w x _ others b ac (rw is refl) (rw is refl) free e real (record { known = refl; done = refl; todo = refl; place = refl; freeing = rw c refl; call = rw c refl })
        ]

-- ---- ends of calls

pub told_GiveTrim : (opening w : World) (x : Worker) (others : List Worker) (n v : ℕ) → x.local.spot ≡ InTrim GiveTrim → Stands w (x ∷ others) → IsAccounted opening w (x ∷ others)
    → IsAccounted opening (set_lock w n v) (record x { local = told (trim_advance x.local GiveTrim Done) } ∷ others)
told_GiveTrim opening w x others n v is s ac =
    let ok = at-work w x others s in
    let call = (told-of opening w x others ac).call Trim (rw is refl) in
    told_same opening w _ x _ others Trim (reply.Trimmed x.local.count) ac (spoken w _ x.local (reply.Trimmed x.local.count) (unseen-lock w n v) refl) call.0 (rw is refl) refl refl
    (record { known = refl; done = refl; todo = refl; freeing = refl; call = refl })
    (call.0.same_kind, (x.local.cache, call.1, (ok.spot.plain (rw is refl)).2))
