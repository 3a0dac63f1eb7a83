-- A worker begins its next call: no word changes, and it relies on no more than what a call that may begin has.
use Rattle.std.proofs.Common.{◌≡◌, ℕ, ◌<◌, ◌≤◌, ◌⊎◌, ◌==◌, Bool, true, false, if◌then◌else◌, not, Option, Some, None, List, [], ◌∷◌, length, get_or, refl, sym, ◌∙◌, subst, arith, inl, inr}
use Rattle.std.specs.Prelude.{slice_index}
use Rattle.std.proofs.lemmas.Bool.{cases_Bool, false≢true, eq-eqb, cases_eq}
use Rattle.std.proofs.lemmas.Option.{none-some}
use Rattle.slub_trace.specs.declared.reply.Reply.TheVariants as reply
use Rattle.slub_core.specs.declared.call.Call.{Call}
use Rattle.slub_core.specs.declared.call.CallKind.{CallKind}
use Rattle.slub_core.specs.declared.call.CallKind.TheVariants.{Alloc, Free, Write, Read, Poke, Trim, Flush}
use Rattle.slub_core.specs.declared.local.Known.{Known}
use Rattle.slub_core.specs.declared.spot.Spot.{Spot}
use Rattle.slub_core.specs.declared.spot.Spot.TheVariants.{Between, InAlloc, InFree, InOffline, WriteWord, ReadWord, InChecked}
use Rattle.slub_core.specs.declared.spot.AllocSpot.TheVariants.{LoadCpu}
use Rattle.slub_core.specs.declared.spot.FreeSpot.TheVariants.{TakeBoard, LoadOwn}
use Rattle.slub_core.specs.declared.spot.Sweep.TheVariants.{Trimming, Flushing}
use Rattle.slub_core.specs.declared.spot.OfflineSpot.TheVariants.{LoadCurrent}
use Rattle.slub_core.specs.declared.spot.CheckedSpot.TheVariants.{LockChecked}
use Rattle.slub_core.specs.Calls.{call_kind, call_cpu, call_cache, call_place, call_word}
use Rattle.slub_core.specs.Setup.{Setup, IsPlain, IsChecked}
use Rattle.slub_core.specs.World.{World}
use Rattle.slub_core.specs.Local.{Local, Worker, nobody, call_of}
use Rattle.slub_core.specs.Listed.{marked_of, takes}
use Rattle.slub_core.specs.Steps.{told_at_once, told_of_alloc, told_of_trim, is_outside, cache_for, first_spot, first_cpu, begun_at, begun_with, begun}
use Rattle.slub_core.specs.Fresh.{IsAtWork}
use Rattle.slub_core.specs.Coherent.{Stands}
use Rattle.slub_core.specs.Law.{TakesStep}
use Rattle.slub_core.proofs.MayBegin.{MayBegin, MayBeginFirst, number-at}
use Rattle.slub_core.proofs.Counts.{places-cons}
use Rattle.slub_core.proofs.LocalStep.{local_step}
use Rattle.slub_core.proofs.Locks.{ComesTo}
use Rattle.slub_core.proofs.Leads.{at_work}
use Rattle.slub_core.proofs.StepValues.{object-within, cache-live}
use Rattle.slub_core.proofs.ValueStep.{known-owned}

-- whether the call is a try
module _ (fast : Bool) where
  -- the worker in a call
  abbrev pub begins : Local → Spot → ℕ → ℕ → ℕ → Local
  begins l spot cache cpu place = record l { spot = spot; cache = cache; cpu = cpu; place = place; fast = fast; turn = 0; count = 0 }

  -- the object of the call
  abbrev named : Local → Call → Known
  named l call = get_or l.known (call_place call) nobody

  -- ---- what it relies on, by its first spot

  alloc-work : (w : World) (x : Worker) (cache cpu place : ℕ) → x.local.spot ≡ Between → cpu < w.setup.cpus → IsPlain w.setup cache → place < length x.local.known → (get_or x.local.known place nobody).object < w.setup.objects
      → (get_or x.local.known place nobody).held ≡ false → IsAtWork w x → IsAtWork w (record x { local = begins x.local (InAlloc LoadCpu) cache cpu place })
  alloc-work w x cache cpu place is below plain inside number held ok = grind arith

  alloc_checked-work : (w : World) (x : Worker) (cache cpu place : ℕ) → x.local.spot ≡ Between → cpu < w.setup.cpus → IsChecked w.setup cache → place < length x.local.known → (get_or x.local.known place nobody).object < w.setup.objects
      → (get_or x.local.known place nobody).held ≡ false → IsAtWork w x → IsAtWork w (record x { local = begins x.local (InChecked LockChecked Alloc) cache cpu place })
  alloc_checked-work w x cache cpu place is below checked inside number held ok = grind arith

  board-work : (w : World) (x : Worker) (cache cpu place : ℕ) → x.local.spot ≡ Between → cpu < w.setup.cpus → place < length x.local.known → 1 ≤ (get_or x.local.known place nobody).object → (get_or x.local.known place nobody).object < w.setup.objects
      → (get_or x.local.known place nobody).held ≡ false → IsAtWork w x → IsAtWork w (record x { local = begins x.local (InFree TakeBoard) cache cpu place })
  board-work w x cache cpu place is below inside some number held ok = grind arith

  free-work : (w : World) (x : Worker) (cache cpu place : ℕ) → x.local.spot ≡ Between → cpu < w.setup.cpus → IsPlain w.setup cache → place < length x.local.known → (get_or x.local.known place nobody).object < w.setup.objects
      → (get_or x.local.known place nobody).held ≡ true → (get_or x.local.known place nobody).cache ≡ cache → IsAtWork w x → IsAtWork w (record x { local = begins x.local (InFree LoadOwn) cache cpu place })
  free-work w x cache cpu place is below plain inside number held owner ok = grind arith

  write-work : (w : World) (x : Worker) (cache cpu place : ℕ) → x.local.spot ≡ Between → is_outside (w.setup.layout cache) (call_word (call_of x.local)) ≡ false → cpu < w.setup.cpus → IsPlain w.setup cache → place < length x.local.known → (get_or x.local.known place nobody).object < w.setup.objects
      → (get_or x.local.known place nobody).held ≡ true → (get_or x.local.known place nobody).cache ≡ cache → IsAtWork w x → IsAtWork w (record x { local = begins x.local WriteWord cache cpu place })
  write-work w x cache cpu place is within below plain inside number held owner ok = grind arith

  read-work : (w : World) (x : Worker) (cache cpu place : ℕ) → x.local.spot ≡ Between → is_outside (w.setup.layout cache) (call_word (call_of x.local)) ≡ false → cpu < w.setup.cpus → IsPlain w.setup cache → place < length x.local.known → (get_or x.local.known place nobody).object < w.setup.objects
      → (get_or x.local.known place nobody).held ≡ true → (get_or x.local.known place nobody).cache ≡ cache → IsAtWork w x → IsAtWork w (record x { local = begins x.local ReadWord cache cpu place })
  read-work w x cache cpu place is within below plain inside number held owner ok = grind arith

  free_checked-work : (w : World) (x : Worker) (cache cpu place : ℕ) → x.local.spot ≡ Between → cpu < w.setup.cpus → IsChecked w.setup cache → place < length x.local.known → (get_or x.local.known place nobody).object < w.setup.objects
      → (get_or x.local.known place nobody).held ≡ true → (get_or x.local.known place nobody).cache ≡ cache → IsAtWork w x → IsAtWork w (record x { local = begins x.local (InChecked LockChecked Free) cache cpu place })
  free_checked-work w x cache cpu place is below checked inside number held owner ok = grind arith

  write_checked-work : (w : World) (x : Worker) (cache cpu place : ℕ) → x.local.spot ≡ Between → is_outside (w.setup.layout cache) (call_word (call_of x.local)) ≡ false → cpu < w.setup.cpus → IsChecked w.setup cache → place < length x.local.known → (get_or x.local.known place nobody).object < w.setup.objects
      → (get_or x.local.known place nobody).held ≡ true → (get_or x.local.known place nobody).cache ≡ cache → IsAtWork w x → IsAtWork w (record x { local = begins x.local (InChecked LockChecked Write) cache cpu place })
  write_checked-work w x cache cpu place is within below checked inside number held owner ok = grind arith

  read_checked-work : (w : World) (x : Worker) (cache cpu place : ℕ) → x.local.spot ≡ Between → is_outside (w.setup.layout cache) (call_word (call_of x.local)) ≡ false → cpu < w.setup.cpus → IsChecked w.setup cache → place < length x.local.known → (get_or x.local.known place nobody).object < w.setup.objects
      → (get_or x.local.known place nobody).held ≡ true → (get_or x.local.known place nobody).cache ≡ cache → IsAtWork w x → IsAtWork w (record x { local = begins x.local (InChecked LockChecked Read) cache cpu place })
  read_checked-work w x cache cpu place is within below checked inside number held owner ok = grind arith

  poke-work : (w : World) (x : Worker) (cache cpu place : ℕ) → x.local.spot ≡ Between → cpu < w.setup.cpus → IsChecked w.setup cache → place < length x.local.known → (get_or x.local.known place nobody).object < w.setup.objects
      → (get_or x.local.known place nobody).cache ≡ cache → 1 ≤ (get_or x.local.known place nobody).frame → IsAtWork w x → IsAtWork w (record x { local = begins x.local (InChecked LockChecked Poke) cache cpu place })
  poke-work w x cache cpu place is below checked inside number owner real ok = grind arith

  trim-work : (w : World) (x : Worker) (cache cpu place : ℕ) → x.local.spot ≡ Between → cpu < w.setup.cpus → IsPlain w.setup cache → (get_or x.local.known place nobody).object < w.setup.objects
      → IsAtWork w x → IsAtWork w (record x { local = begins x.local (InOffline LoadCurrent Trimming) cache cpu place })
  trim-work w x cache cpu place is below plain number ok = grind arith

  flush-work : (w : World) (x : Worker) (cache cpu place : ℕ) → x.local.spot ≡ Between → cpu < w.setup.cpus → IsPlain w.setup cache → 1 ≤ length w.setup.plain → cache ≡ slice_index w.setup.plain 0 → (get_or x.local.known place nobody).object < w.setup.objects
      → IsAtWork w x → IsAtWork w (record x { local = begins x.local (InOffline LoadCurrent Flushing) cache cpu place })
  flush-work w x cache cpu place is below plain some oldest number ok = grind arith

  -- ---- caches

  -- that of a held object is live
  held-cache : (w : World) (x : Worker) (others : List Worker) (place : ℕ) → Stands w (x ∷ others) → place < length x.local.known → (get_or x.local.known place nobody).held ≡ true
      → IsPlain w.setup (get_or x.local.known place nobody).cache ⊎ IsChecked w.setup (get_or x.local.known place nobody).cache
  held-cache w x others place s inside held =
      let k = get_or x.local.known place nobody in
      let has = known-owned x place nobody inside held in
      let p = places-cons w s.chains x others k.frame k.index in
      let o = s.placed.once k.frame k.index in
      let within = object-within w k.frame k.index (omega arith) in
      let owner = (at_work w x others s).seen.known place nobody inside held in
      rw owner (cache-live w s.chains k.frame s.listed.shaped s.fresh.setup.live (omega arith))

  plain-of : (m : Setup) (k : ℕ) → IsPlain m k ⊎ IsChecked m k → m.checks k ≡ false → IsPlain m k
  plain-of m k (inl p) none = p
  plain-of m k (inr q) none = absurd (false≢true (sym none ∙ q.2))

  checked-of : (m : Setup) (k : ℕ) → IsPlain m k ⊎ IsChecked m k → m.checks k ≡ true → IsChecked m k
  checked-of m k (inl p) some = absurd (false≢true (sym p.2 ∙ some))
  checked-of m k (inr q) some = q

  -- ---- the begin

  goes-on : (w : World) (x : Worker) (others : List Worker) (spot : Spot) (cache cpu place : ℕ) → x.local.spot ≡ Between → Stands w (x ∷ others)
      → ((f : ℕ) → marked_of f (record x { local = begins x.local spot cache cpu place }) ≡ 0) → ((n : ℕ) → takes n (record x { local = begins x.local spot cache cpu place }) ≡ 0)
      → IsAtWork w (record x { local = begins x.local spot cache cpu place }) → ComesTo w others (begins x.local spot cache cpu place)
  goes-on w x others spot cache cpu place is s marks locks work = (
    record x { local = begins x.local spot cache cpu place },
    refl,
    local_step w x _ others s (λ f i. refl) (record { home = λ f. refl; marked = λ f. rw is (marks f); covered = λ g. refl; takes = λ n. rw is (locks n) }) work,
  )

  not_outside : (b : Bool) → (if b then Some reply.OutOfObject else None) ≡ None → b ≡ false
  not_outside true e = absurd (none-some _ (sym e))
  not_outside false e = refl

  -- the number that its place has
  number-named : (w : World) (x : Worker) (others : List Worker) (call : Call) → Stands w (x ∷ others) → MayBegin w.setup x.local call → (named x.local call).object < w.setup.objects
  number-named w x others call s may = number-at w.setup x.local.known (call_place call) (let n = (at_work w x others s).spot.number in omega arith) may.numbers

  -- by the kind of the call
  abbrev begun_by : Setup → Local → Call → CallKind → Local
  begun_by m l call kind =
      let cache = cache_for m (named l call) (call_cache call) kind in
      begins l (first_spot kind (m.checks cache) (named l call).held) cache (first_cpu kind (call_cpu call)) (call_place call)

  begins_by : (w : World) (x : Worker) (others : List Worker) (call : Call) (kind : CallKind) → call_kind call ≡ kind → call_of x.local ≡ call → x.local.spot ≡ Between → Stands w (x ∷ others) → MayBegin w.setup x.local call
      → told_at_once w.setup (named x.local call) call kind ≡ None → ComesTo w others (begun_by w.setup x.local call kind)
  begins_by w x others call Alloc e first is s may none = by_name (call_cache call) refl none
    where
      by_name : (name : Option ℕ) → call_cache call ≡ name → told_of_alloc name ≡ None → ComesTo w others (let cache = cache_for w.setup (named x.local call) name Alloc in begins x.local (first_spot Alloc (w.setup.checks cache) (named x.local call).held) cache (call_cpu call) (call_place call))
      by_name None n none = absurd (none-some _ (sym none))
      by_name (Some k) n none =
          let lives : w.setup.lives k ≡ true = rw n at may.cache in
          let below = s.fresh.setup.live k lives in
          let number = number-named w x others call s may in
          elim (cases_Bool (w.setup.checks k)) [
            | inl c ↦ rw c (goes-on w x others (InChecked LockChecked Alloc) k (call_cpu call) (call_place call) is s (λ f. refl) (λ n. refl)
                (alloc_checked-work w x k (call_cpu call) (call_place call) is may.cpu (below, lives, c) (may.place (rw e refl)) number (may.new e) (at_work w x others s)))
            | inr c ↦ rw c (goes-on w x others (InAlloc LoadCpu) k (call_cpu call) (call_place call) is s (λ f. refl) (λ n. refl)
                (alloc-work w x k (call_cpu call) (call_place call) is may.cpu (below, lives, c) (may.place (rw e refl)) number (may.new e) (at_work w x others s)))
          ]
  begins_by w x others call Free e first is s may none =
      let k = (named x.local call).cache in
      let number = number-named w x others call s may in
      let some = let a = may.known (rw e refl) in let b = may.object (rw e refl) in subst (λ o. 1 ≤ o) (sym a) b.0 in
      let ok = at_work w x others s in
      elim (cases_Bool (named x.local call).held) [
        | inr h ↦ rw h (goes-on w x others (InFree TakeBoard) k (call_cpu call) (call_place call) is s (λ f. refl) (λ n. refl) (board-work w x k (call_cpu call) (call_place call) is may.cpu (may.place (rw e refl)) some number h ok))
        | inl h ↦
            let live = held-cache w x others (call_place call) s (may.place (rw e refl)) h in
            elim (cases_Bool (w.setup.checks k)) [
              | inl c ↦ rw (h, c) (goes-on w x others (InChecked LockChecked Free) k (call_cpu call) (call_place call) is s (λ f. refl) (λ n. refl)
                  (free_checked-work w x k (call_cpu call) (call_place call) is may.cpu (checked-of w.setup k live c) (may.place (rw e refl)) number h refl ok))
              | inr c ↦ rw (h, c) (goes-on w x others (InFree LoadOwn) k (call_cpu call) (call_place call) is s (λ f. refl) (λ n. refl)
                  (free-work w x k (call_cpu call) (call_place call) is may.cpu (plain-of w.setup k live c) (may.place (rw e refl)) number h refl ok))
            ]
      ]
  begins_by w x others call Write e first is s may none =
      let k = (named x.local call).cache in
      let number = number-named w x others call s may in
      let ok = at_work w x others s in
      elim (cases_Bool (named x.local call).held) [
        | inr h ↦ absurd (none-some _ (sym (rw h at none)))
        | inl h ↦
            let live = held-cache w x others (call_place call) s (may.place (rw e refl)) h in
            let within = not_outside (is_outside (w.setup.layout k) (call_word call)) (rw h at none) in
            elim (cases_Bool (w.setup.checks k)) [
              | inl c ↦ rw c (goes-on w x others (InChecked LockChecked Write) k (call_cpu call) (call_place call) is s (λ f. refl) (λ n. refl)
                  (write_checked-work w x k (call_cpu call) (call_place call) is (rw first within) may.cpu (checked-of w.setup k live c) (may.place (rw e refl)) number h refl ok))
              | inr c ↦ rw c (goes-on w x others WriteWord k (call_cpu call) (call_place call) is s (λ f. refl) (λ n. refl)
                  (write-work w x k (call_cpu call) (call_place call) is (rw first within) may.cpu (plain-of w.setup k live c) (may.place (rw e refl)) number h refl ok))
            ]
      ]
  begins_by w x others call Read e first is s may none =
      let k = (named x.local call).cache in
      let number = number-named w x others call s may in
      let ok = at_work w x others s in
      elim (cases_Bool (named x.local call).held) [
        | inr h ↦ absurd (none-some _ (sym (rw h at none)))
        | inl h ↦
            let live = held-cache w x others (call_place call) s (may.place (rw e refl)) h in
            let within = not_outside (is_outside (w.setup.layout k) (call_word call)) (rw h at none) in
            elim (cases_Bool (w.setup.checks k)) [
              | inl c ↦ rw c (goes-on w x others (InChecked LockChecked Read) k (call_cpu call) (call_place call) is s (λ f. refl) (λ n. refl)
                  (read_checked-work w x k (call_cpu call) (call_place call) is (rw first within) may.cpu (checked-of w.setup k live c) (may.place (rw e refl)) number h refl ok))
              | inr c ↦ rw c (goes-on w x others ReadWord k (call_cpu call) (call_place call) is s (λ f. refl) (λ n. refl)
                  (read-work w x k (call_cpu call) (call_place call) is (rw first within) may.cpu (plain-of w.setup k live c) (may.place (rw e refl)) number h refl ok))
            ]
      ]
  begins_by w x others call Poke e first is s may none =
      let k = (named x.local call).cache in
      let number = number-named w x others call s may in
      let c = by_checks ((named x.local call).frame == 0) (w.setup.checks k) none in
      let lives = s.fresh.setup.checked k c.1 in
      let real : 1 ≤ (named x.local call).frame = elim (cases_eq (named x.local call).frame 0) [
        | inl z ↦ absurd (false≢true (sym c.0 ∙ eq-eqb (named x.local call).frame 0 z))
        | inr d ↦ omega (arith, d)
      ] in
      goes-on w x others (InChecked LockChecked Poke) k (call_cpu call) (call_place call) is s (λ f. refl) (λ n. refl)
      (poke-work w x k (call_cpu call) (call_place call) is may.cpu (s.fresh.setup.live k lives, lives, c.1) (may.place (rw e refl)) number refl real (at_work w x others s))
    where
      by_checks : (zero checks : Bool) → (if zero then Some reply.NotHeld else if not checks then Some reply.NotChecked else None) ≡ None → (zero ≡ false) × (checks ≡ true)
      by_checks true checks e = absurd (none-some _ (sym e))
      by_checks false true e = (refl, refl)
      by_checks false false e = absurd (none-some _ (sym e))
  begins_by w x others call Trim e first is s may none = by_name (call_cache call) refl none
    where
      by_name : (name : Option ℕ) → call_cache call ≡ name → told_of_trim w.setup name ≡ None → ComesTo w others (let cache = cache_for w.setup (named x.local call) name Trim in begins x.local (first_spot Trim (w.setup.checks cache) (named x.local call).held) cache 0 (call_place call))
      by_name None n none = absurd (none-some _ (sym none))
      by_name (Some k) n none =
          let lives : w.setup.lives k ≡ true = rw n at may.cache in
          let below = s.fresh.setup.live k lives in
          let cpus = s.fresh.setup.cpus in
          let number = number-named w x others call s may in
          elim (cases_Bool (w.setup.checks k)) [
            | inl c ↦ absurd (none-some _ (sym (rw c at none)))
            | inr c ↦ goes-on w x others (InOffline LoadCurrent Trimming) k 0 (call_place call) is s (λ f. refl) (λ n. refl) (trim-work w x k 0 (call_place call) is (omega arith) (below, lives, c) number (at_work w x others s))
          ]
  begins_by w x others call Flush e first is s may none =
      let plain = w.setup.plain in
      let number = number-named w x others call s may in
      elim (cases_eq (length plain) 0) [
        | inl z ↦ absurd (none-some _ (sym (rw (eq-eqb (length plain) 0 z) at none)))
        | inr d ↦
            let some : 1 ≤ length plain = omega arith in
            goes-on w x others (InOffline LoadCurrent Flushing) (slice_index plain 0) (call_cpu call) (call_place call) is s (λ f. refl) (λ n. refl)
            (flush-work w x (slice_index plain 0) (call_cpu call) (call_place call) is may.cpu (s.fresh.setup.plain 0 0 some) some refl number (at_work w x others s))
      ]

  pub begin : (w : World) (x : Worker) (others : List Worker) → Stands w (x ∷ others) → (x.local.spot ≡ Between → MayBeginFirst w.setup x.local x.local.todo) → (x.local.spot ≡ Between → TakesStep w.setup x.local x.local.todo)
      → ComesTo w others (begun w.setup fast x.local)
  begin w x others s may rested = by_spot x.local.spot refl
    where
      by_todo : (calls : List Call) → x.local.todo ≡ calls → x.local.spot ≡ Between → MayBeginFirst w.setup x.local calls → TakesStep w.setup x.local calls → ComesTo w others (begun_with w.setup fast x.local calls)
      by_todo [] e is may rested = (x, refl, s)
      by_todo (call ∷ calls) e is may rested = begins_by w x others call (call_kind call) refl (rw e refl) is s may rested

      by_spot : (spot : Spot) → x.local.spot ≡ spot → ComesTo w others (begun_at w.setup fast x.local spot)
      by_spot Between is = by_todo x.local.todo refl is (may is) (rested is)
      by_spot _ is = (x, refl, s)
