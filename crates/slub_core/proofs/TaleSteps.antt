-- What a step does to the account, by what it answers: nothing without a reply, a spent transaction id, the end of a flush, a free pointer that is stored.
use Rattle.std.proofs.Common.{◌≡◌, ℕ, ◌+◌, ◌==◌, Bool, true, false, ◌||◌, if◌then◌else◌, Some, None, List, ◌∷◌, length, refl, inl, inr}
use Rattle.std.specs.Prelude.{nat_lt}
use Rattle.std.proofs.lemmas.Bool.{cases_Bool, ltb-true}
use Rattle.slub_trace.specs.declared.reply.Reply.TheVariants as reply
use Rattle.slub_core.specs.declared.call.CallKind.TheVariants.{Alloc, Flush}
use Rattle.slub_core.specs.declared.step.Answer.{Answer}
use Rattle.slub_core.specs.declared.step.Answer.TheVariants.{Word, Done}
use Rattle.slub_core.specs.declared.spot.Spot.{Spot}
use Rattle.slub_core.specs.declared.spot.Spot.TheVariants.{InAlloc, InPutAway, InMoveSet, InOffline}
use Rattle.slub_core.specs.declared.spot.PutAwaySpot.TheVariants.{WalkChain, LockAway}
use Rattle.slub_core.specs.declared.spot.Away.TheVariants.{ForSpent}
use Rattle.slub_core.specs.declared.spot.AllocSpot.TheVariants.{LoadCpu, LoadAgain}
use Rattle.slub_core.specs.declared.spot.MoveSet.TheVariants.{ForFree, ForOffline}
use Rattle.slub_core.specs.declared.spot.MoveSet.{MoveSet}
use Rattle.slub_core.specs.declared.spot.MoveSetSpot.TheVariants.{GiveMove}
use Rattle.slub_core.specs.declared.spot.Sweep.{Sweep}
use Rattle.slub_core.specs.declared.spot.Sweep.TheVariants.{Trimming, Flushing}
use Rattle.slub_core.specs.declared.spot.OfflineSpot.TheVariants.{TakeCurrent}
use Rattle.slub_core.specs.Words.{cpu_in, list_in}
use Rattle.slub_core.specs.World.{World, LockValue}
use Rattle.slub_core.specs.Local.{Worker, hand_of}
use Rattle.slub_core.specs.Ops.{own_cpu}
use Rattle.slub_core.specs.Alloc.{is_spent}
use Rattle.slub_core.specs.Steps.{advance_at, told}
use Rattle.slub_core.specs.Spots.{doing, is_freeing, takes_board}
use Rattle.slub_core.specs.Accounted.{IsAccounted}
use Rattle.slub_core.proofs.Accounts.{Accounts}
use Rattle.slub_core.proofs.TaleQuiet.{Unseen, IsQuiet, told_quiet}
use Rattle.slub_core.proofs.TaleReplies.{AnswersKept}
use Rattle.slub_core.proofs.TaleTurns.{quiet_turn}
use Rattle.slub_core.proofs.TaleEnds.{told_spent, told_flushed}
use Rattle.slub_core.proofs.TaleSpots.{unseen-same}

-- ---- a step without a reply

pub quietly : (opening w v : World) (value : ℕ → LockValue) (x : Worker) (others : List Worker) (spot : Spot) (a : Answer) → x.local.spot ≡ spot → IsAccounted opening w (x ∷ others) → Unseen w v
    → takes_board spot ≡ false → (advance_at w.setup value x.local spot a).reply ≡ None → Accounts opening v others (told (advance_at w.setup value x.local spot a))
quietly opening w v value x others spot a is ac same away none = (
  record x { local = told (advance_at w.setup value x.local spot a) },
  refl,
  rw none (told_quiet opening w v x (record x { local = (advance_at w.setup value x.local spot a).local }) others ac same (quiet_turn w.setup value x.local spot a is away none)),
)

-- where an answer leads without a reply
pub quiet_at : (w : World) (value : ℕ → LockValue) (x : Worker) (spot : Spot) (a : Answer) → x.local.spot ≡ spot → takes_board spot ≡ false → (advance_at w.setup value x.local spot a).reply ≡ None
    → IsQuiet x.local (advance_at w.setup value x.local spot a).local
quiet_at w value x spot a is away none = quiet_turn w.setup value x.local spot a is away none

-- ---- a spent transaction id

spent-end : (opening w : World) (x z : Worker) (others : List Worker) (word : ℕ) (spot : Spot) → x.local.spot ≡ spot → doing spot ≡ Some Alloc → is_freeing spot ≡ false → w.setup.checks x.local.cache ≡ false → w.cpu (own_cpu x.local) ≡ cpu_in word → is_spent w.setup (cpu_in word) ≡ true
    → IsAccounted opening w (x ∷ others) → AnswersKept x.local z.local (reply.IdsSpent (cpu_in word).tid) → IsAccounted opening w (z ∷ others)
spent-end opening w x z others word spot is at idle plain found spent ac after =
    told_spent opening w x z others ac (rw is at) (rw is idle) plain (rw found (ltb-true _ _ spent)) (rw found after)

pub tale_LoadCpu : (opening w : World) (value : ℕ → LockValue) (x : Worker) (others : List Worker) (word : ℕ) → x.local.spot ≡ InAlloc LoadCpu → w.setup.checks x.local.cache ≡ false → w.cpu (own_cpu x.local) ≡ cpu_in word → IsAccounted opening w (x ∷ others)
    → Accounts opening w others (told (advance_at w.setup value x.local (InAlloc LoadCpu) (Word word)))
tale_LoadCpu opening w value x others word is plain found ac = elim (cases_Bool (is_spent w.setup (cpu_in word))) [
  | inr left ↦ quietly opening w w value x others (InAlloc LoadCpu) (Word word) is ac (unseen-same w) refl (rw left refl)
  | inl spent ↦ elim (cases_Bool x.local.fast) [
    | inl try ↦ quietly opening w w value x others (InAlloc LoadCpu) (Word word) is ac (unseen-same w) refl (rw (spent, try) refl)
    | inr whole ↦ (
      record x { local = told (advance_at w.setup value x.local (InAlloc LoadCpu) (Word word)) },
      refl,
      spent-end opening w x _ others word (InAlloc LoadCpu) is refl refl plain found spent ac (record {
        known = rw (spent, whole) refl;
        done = rw (spent, whole) refl;
        todo = rw (spent, whole) refl;
        freeing = rw (spent, whole) refl;
        call = rw (spent, whole) refl;
      }),
    )
  ]
]

way-out : (b : Bool) (s t : Spot) → (is_freeing s ≡ false) × (doing s ≡ None) → (is_freeing t ≡ false) × (doing t ≡ None) → (is_freeing (if b then s else t) ≡ false) × (doing (if b then s else t) ≡ None)
way-out true s t a c = a
way-out false s t a c = c

pub tale_LoadAgain : (opening w : World) (value : ℕ → LockValue) (x : Worker) (others : List Worker) (word : ℕ) → x.local.spot ≡ InAlloc LoadAgain → w.setup.checks x.local.cache ≡ false → w.cpu (own_cpu x.local) ≡ cpu_in word → IsAccounted opening w (x ∷ others)
    → Accounts opening w others (told (advance_at w.setup value x.local (InAlloc LoadAgain) (Word word)))
tale_LoadAgain opening w value x others word is plain found ac = elim (cases_Bool (is_spent w.setup (cpu_in word))) [
  | inr left ↦ quietly opening w w value x others (InAlloc LoadAgain) (Word word) is ac (unseen-same w) refl (rw left refl)
  | inl spent ↦ (
      let out = way-out ((hand_of x.local).head == 0 || (hand_of x.local).walked) (InPutAway LockAway ForSpent) (InPutAway WalkChain ForSpent) (refl, refl) (refl, refl) in (
        record x { local = told (advance_at w.setup value x.local (InAlloc LoadAgain) (Word word)) },
        refl,
        spent-end opening w x _ others word (InAlloc LoadAgain) is refl refl plain found spent ac (record {
          known = rw spent refl;
          done = rw spent refl;
          todo = rw spent refl;
          freeing = rw spent out.0;
          call = rw spent out.1;
        }),
      ))
]

-- ---- a sweep goes on to the next CPU or cache, or ends

flush-end : (opening w v : World) (x z : Worker) (others : List Worker) (n : ℕ) (spot : Spot) → x.local.spot ≡ spot → doing spot ≡ Some Flush → is_freeing spot ≡ false → Unseen w v → IsAccounted opening w (x ∷ others)
    → AnswersKept x.local z.local (reply.Flushed n) → IsAccounted opening v (z ∷ others)
flush-end opening w v x z others n spot is at idle same ac after = told_flushed opening w v x z others n ac same (rw is at) (rw is idle) after

pub tale_TakeCurrent : (opening w v : World) (value : ℕ → LockValue) (x : Worker) (others : List Worker) (sweep : Sweep) (word : ℕ) → x.local.spot ≡ InOffline TakeCurrent sweep → Unseen w v → IsAccounted opening w (x ∷ others)
    → Accounts opening v others (told (advance_at w.setup value x.local (InOffline TakeCurrent sweep) (Word word)))
tale_TakeCurrent opening w v value x others sweep word is same ac = elim (cases_Bool ((list_in word).count == 0)) [
  | inr some ↦ quietly opening w v value x others (InOffline TakeCurrent sweep) (Word word) is ac same refl (rw some refl)
  | inl empty ↦ by_sweep sweep is empty
]
  where
    by_sweep : (sweep : Sweep) → x.local.spot ≡ InOffline TakeCurrent sweep → ((list_in word).count == 0) ≡ true → Accounts opening v others (told (advance_at w.setup value x.local (InOffline TakeCurrent sweep) (Word word)))
    by_sweep Trimming is empty = quietly opening w v value x others (InOffline TakeCurrent Trimming) (Word word) is ac same refl (rw empty refl)
    by_sweep Flushing is empty = elim (cases_Bool (nat_lt (x.local.turn + 1) (length w.setup.plain))) [
      | inl more ↦ quietly opening w v value x others (InOffline TakeCurrent Flushing) (Word word) is ac same refl (rw (empty, more) refl)
      | inr end ↦ (
        record x { local = told (advance_at w.setup value x.local (InOffline TakeCurrent Flushing) (Word word)) },
        refl,
        flush-end opening w v x _ others x.local.count (InOffline TakeCurrent Flushing) is refl refl same ac (record {
          known = rw (empty, end) refl;
          done = rw (empty, end) refl;
          todo = rw (empty, end) refl;
          freeing = rw (empty, end) refl;
          call = rw (empty, end) refl;
        }),
      )
    ]

pub tale_GiveMove : (opening w v : World) (value : ℕ → LockValue) (x : Worker) (others : List Worker) (move : MoveSet) → x.local.spot ≡ InMoveSet GiveMove move → Unseen w v → IsAccounted opening w (x ∷ others)
    → Accounts opening v others (told (advance_at w.setup value x.local (InMoveSet GiveMove move) Done))
tale_GiveMove opening w v value x others ForFree is same ac = quietly opening w v value x others (InMoveSet GiveMove ForFree) Done is ac same refl refl
tale_GiveMove opening w v value x others (ForOffline Trimming) is same ac = quietly opening w v value x others (InMoveSet GiveMove (ForOffline Trimming)) Done is ac same refl refl
tale_GiveMove opening w v value x others (ForOffline Flushing) is same ac = elim (cases_Bool (nat_lt (x.local.turn + 1) (length w.setup.plain))) [
  | inl more ↦ quietly opening w v value x others (InMoveSet GiveMove (ForOffline Flushing)) Done is ac same refl (rw more refl)
  | inr end ↦ (
    record x { local = told (advance_at w.setup value x.local (InMoveSet GiveMove (ForOffline Flushing)) Done) },
    refl,
    flush-end opening w v x _ others x.local.count (InMoveSet GiveMove (ForOffline Flushing)) is refl refl same ac (record {
      known = rw end refl;
      done = rw end refl;
      todo = rw end refl;
      freeing = rw end refl;
      call = rw end refl;
    }),
  )
]
