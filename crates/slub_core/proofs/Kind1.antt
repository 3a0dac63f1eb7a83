-- Kind 1, spot by spot: a CPU word is loaded.
use Rattle.std.proofs.Common.{◌≡◌, ◌≢◌, ℕ, ◌+◌, inl, inr, ◌-◌, ◌*◌, ◌^◌, ◌<◌, ◌≤◌, ◌==◌, ◌&&◌, ◌||◌, not, true, false, if◌then◌else◌, List, [], ◌∷◌, refl, subst, arith}
use Rattle.std.proofs.lemmas.Bool.{cond_both, eqb-true, eqb-false, ltb-false, not-true, not-false, and_parts, or_parts, or_cases}
use Rattle.std.proofs.lemmas.List.Elements.{All-head}
use Rattle.slub_words.specs.declared.cpu.CpuWord.{CpuWord}
use Rattle.slub_core.specs.declared.local.Hand.{Hand}
use Rattle.slub_core.specs.declared.step.Answer.TheVariants.{Word}
use Rattle.slub_core.specs.declared.spot.Spot.{Spot}
use Rattle.slub_core.specs.declared.spot.Spot.TheVariants.{Between, InAlloc, InPutAway, InFree, InOffline}
use Rattle.slub_core.specs.declared.spot.AllocSpot.TheVariants.{LoadCpu, LoadNext, Detach, TakeList, LoadAgain, DetachOther, Install}
use Rattle.slub_core.specs.declared.spot.Away.TheVariants.{ForSpent}
use Rattle.slub_core.specs.declared.spot.PutAwaySpot.TheVariants.{WalkChain, LockAway}
use Rattle.slub_core.specs.declared.spot.FreeSpot.TheVariants.{LoadOwn, LinkOwn, LoadSlab}
use Rattle.slub_core.specs.declared.spot.Sweep.{Sweep}
use Rattle.slub_core.specs.declared.spot.OfflineSpot.TheVariants.{LoadCurrent, DetachCurrent, TakeCurrent}
use Rattle.slub_core.specs.Setup.{Setup, IsSetup, pointer_at}
use Rattle.slub_core.specs.Words.{cpu_in}
use Rattle.slub_core.specs.World.{World}
use Rattle.slub_core.specs.Local.{Worker, here, hand_of}
use Rattle.slub_core.specs.Ops.{own_cpu}
use Rattle.slub_core.specs.Alloc.{alloc_advance, is_spent, way_of_word, way_of_again, way_of_away}
use Rattle.slub_core.specs.Free.{free_advance, way_of_own}
use Rattle.slub_core.specs.Offline.{offline_advance, way_of_current}
use Rattle.slub_core.specs.Spots.{Leaving, Loaded}
use Rattle.slub_core.specs.Fresh.{AreHands, AreHeld, IsAtWork}
use Rattle.slub_core.specs.Coherent.{Stands}
use Rattle.slub_core.proofs.Apart.{word-inside}
use Rattle.slub_core.proofs.Exists.{head-exists, head-slab}
use Rattle.slub_core.proofs.Slots.{pointer-word}
use Rattle.slub_core.proofs.LocalStep.{local_step}
use Rattle.slub_core.proofs.Locks.{ComesTo}

-- a CPU word, as words are
abbrev IsCpuWord : CpuWord → Type 0
IsCpuWord c = (c.tid < 2 ^ 32) × (c.frame < 2 ^ 16) × (c.head < 2 ^ 16)

-- the worker with the word that it has loaded
abbrev with_word : Worker → CpuWord → Spot → Worker
with_word x c spot = record x { local = record x.local { cpu_word = c; spot = spot } }

unspent : (m : Setup) (c : CpuWord) → IsSetup m → is_spent m c ≡ false → c.tid + 2 * m.step < 2 ^ 32
unspent m c setup e = let s = setup.step in let l = ltb-false (4294967295 - 2 * m.step) c.tid e in omega arith

-- ---- an allocation

load_next-work : (w : World) (x : Worker) (c : CpuWord) → x.local.spot ≡ InAlloc LoadCpu → w.cpu (own_cpu x.local) ≡ c → IsCpuWord c → c.tid + 2 * w.setup.step < 2 ^ 32 → 1 ≤ c.head
    → pointer_at w.setup x.local.cache c.frame (c.head - 1) < 512 * w.setup.frames → IsAtWork w x → IsAtWork w (with_word x c (InAlloc LoadNext))
load_next-work w x c is there fits room some inside ok = grind arith

detach-work : (w : World) (x : Worker) (c : CpuWord) → x.local.spot ≡ InAlloc LoadCpu → w.cpu (own_cpu x.local) ≡ c → IsCpuWord c → c.tid + 2 * w.setup.step < 2 ^ 32 → c.head ≡ 0 → c.frame ≢ 0
    → IsAtWork w x → IsAtWork w (with_word x c (InAlloc Detach))
detach-work w x c is there fits room none some ok = grind arith

take_list-work : (w : World) (x : Worker) (c : CpuWord) → x.local.spot ≡ InAlloc LoadCpu → IsCpuWord c → IsAtWork w x → IsAtWork w (with_word x c (InAlloc TakeList))
take_list-work w x c is fits ok = grind arith

between-work : (w : World) (x : Worker) (c : CpuWord) → x.local.spot ≡ InAlloc LoadCpu → IsCpuWord c → IsAtWork w x → IsAtWork w (with_word x c Between)
between-work w x c is fits ok = grind arith

pub at_LoadCpu : (w : World) (x : Worker) (others : List Worker) (word : ℕ) → x.local.spot ≡ InAlloc LoadCpu → w.cpu (own_cpu x.local) ≡ cpu_in word → Stands w (x ∷ others)
    → ComesTo w others (alloc_advance w.setup x.local LoadCpu (Word word)).local
at_LoadCpu w x others word is there s = (with_word x c (way_of_word w.setup x.local.fast c), refl, by_spent)
  where
    c : CpuWord
    c = cpu_in word

    ok : IsAtWork w x
    ok = All-head (IsAtWork w) x others s.fresh.workers

    n : ℕ
    n = own_cpu x.local

    fits : IsCpuWord c
    fits = subst IsCpuWord there (s.fresh.worded.cpu n)

    GoesTo : Spot → Type 0
    GoesTo spot = Stands w (with_word x c spot ∷ others)

    inside : 1 ≤ c.head → pointer_at w.setup x.local.cache c.frame (c.head - 1) < 512 * w.setup.frames
    inside some =
        let plain = ok.spot.plain (rw is refl) in
        let cpu = ok.spot.cpu in
        let few = s.fresh.setup.cpus in
        let words = s.fresh.setup.cpu_words in
        let below : n < w.setup.cpu_words = omega arith in
        let some' : 1 ≤ (w.cpu n).head = rw there some in
        let e = head-exists w s.chains (x ∷ others) n s.placed s.listed below some' in
        let k = (head-slab w s.chains (x ∷ others) n s.placed s.listed below some').1 in
        let cache : (w.slab (w.cpu n).frame).cache ≡ x.local.cache = omega arith in
        let p = word-inside w (x ∷ others) (w.cpu n).frame ((w.cpu n).head - 1) (pointer_at w.setup x.local.cache (w.cpu n).frame ((w.cpu n).head - 1)) s e.1
        (rw cache (pointer-word w.setup x.local.cache (w.cpu n).frame ((w.cpu n).head - 1) s.fresh.setup plain.1)) in
        subst (λ (d : CpuWord). pointer_at w.setup x.local.cache d.frame (d.head - 1) < 512 * w.setup.frames) there p

    to_between : GoesTo Between
    to_between = local_step w x _ others s (λ f i. refl) (record { home = λ f. refl; marked = λ f. rw is refl; covered = λ g. refl; takes = λ k. rw is refl }) (between-work w x c is fits ok)

    to_next : c.tid + 2 * w.setup.step < 2 ^ 32 → 1 ≤ c.head → GoesTo (InAlloc LoadNext)
    to_next room some = local_step w x _ others s (λ f i. refl) (record { home = λ f. refl; marked = λ f. rw is refl; covered = λ g. refl; takes = λ k. rw is refl }) (load_next-work w x c is there fits room some (inside some) ok)

    to_detach : c.tid + 2 * w.setup.step < 2 ^ 32 → c.head ≡ 0 → c.frame ≢ 0 → GoesTo (InAlloc Detach)
    to_detach room none some = local_step w x _ others s (λ f i. refl) (record { home = λ f. refl; marked = λ f. rw is refl; covered = λ g. refl; takes = λ k. rw is refl }) (detach-work w x c is there fits room none some ok)

    to_list : GoesTo (InAlloc TakeList)
    to_list = local_step w x _ others s (λ f i. refl) (record { home = λ f. refl; marked = λ f. rw is refl; covered = λ g. refl; takes = λ k. rw is refl }) (take_list-work w x c is fits ok)

    by_frame : c.tid + 2 * w.setup.step < 2 ^ 32 → c.head ≡ 0 → GoesTo (if x.local.fast then Between else if not (c.frame == 0) then InAlloc Detach else InAlloc TakeList)
    by_frame room none = cond_both x.local.fast Between (if not (c.frame == 0) then InAlloc Detach else InAlloc TakeList) GoesTo (λ _. to_between)
        (λ _. cond_both (not (c.frame == 0)) (InAlloc Detach) (InAlloc TakeList) GoesTo (λ e. to_detach room none (eqb-false c.frame 0 (not-true (c.frame == 0) e))) (λ _. to_list))

    by_spent : GoesTo (way_of_word w.setup x.local.fast c)
    by_spent = cond_both (is_spent w.setup c) Between (if not (c.head == 0) then InAlloc LoadNext else if x.local.fast then Between else if not (c.frame == 0) then InAlloc Detach else InAlloc TakeList) GoesTo (λ _. to_between)
        (λ e. let room = unspent w.setup c s.fresh.setup e in
        cond_both (not (c.head == 0)) (InAlloc LoadNext) (if x.local.fast then Between else if not (c.frame == 0) then InAlloc Detach else InAlloc TakeList) GoesTo
        (λ h. to_next room (let d = eqb-false c.head 0 (not-true (c.head == 0) h) in omega (arith, d)))
        (λ h. by_frame room (eqb-true c.head 0 (not-false (c.head == 0) h))))

-- ---- before an install

leaving : (hs : List Hand) (xss : List (List ℕ)) → AreHands (Loaded ∷ []) hs xss → AreHands (Leaving ∷ []) hs xss
leaving [] xss ok = absurd ok
leaving (h ∷ hs) [] ok = absurd ok
leaving (h ∷ hs) (xs ∷ xss) ok = (ok.0, ok.1, ok.2, tt, ok.4, ok.5)

leaving-held : (w : World) (cache : ℕ) (hs : List Hand) (xss : List (List ℕ)) (end : ℕ) → AreHeld w cache (Loaded ∷ []) hs xss end → AreHeld w cache (Leaving ∷ []) hs xss end
leaving-held w cache [] xss end ok = tt
leaving-held w cache (h ∷ hs) [] end ok = tt
leaving-held w cache (h ∷ hs) (xs ∷ xss) end ok = (ok.0, ok.1, ok.2, ok.3)

spent_lock-work : (w : World) (x : Worker) (c : CpuWord) → x.local.spot ≡ InAlloc LoadAgain → IsCpuWord c → AreHands (Leaving ∷ []) x.local.hands x.chains → AreHeld w x.local.cache (Leaving ∷ []) x.local.hands x.chains 0
    → (1 ≤ (hand_of x.local).head → (hand_of x.local).walked ≡ true) → IsAtWork w x → IsAtWork w (with_word x c (InPutAway LockAway ForSpent))
spent_lock-work w x c is fits hands held walked ok = grind arith

spent_walk-work : (w : World) (x : Worker) (c : CpuWord) → x.local.spot ≡ InAlloc LoadAgain → IsCpuWord c → AreHands (Leaving ∷ []) x.local.hands x.chains → AreHeld w x.local.cache (Leaving ∷ []) x.local.hands x.chains 0
    → 1 ≤ (hand_of x.local).head → (hand_of x.local).walked ≡ false → IsAtWork w x → IsAtWork w (with_word x c (InPutAway WalkChain ForSpent))
spent_walk-work w x c is fits hands held some walked ok = grind arith

install-work : (w : World) (x : Worker) (c : CpuWord) → x.local.spot ≡ InAlloc LoadAgain → w.cpu (own_cpu x.local) ≡ c → IsCpuWord c → c.tid + 2 * w.setup.step < 2 ^ 32 → c.frame ≡ 0 → c.head ≡ 0
    → IsAtWork w x → IsAtWork w (with_word x c (InAlloc Install))
install-work w x c is there fits room none bare ok = grind arith

detach_other-work : (w : World) (x : Worker) (c : CpuWord) → x.local.spot ≡ InAlloc LoadAgain → w.cpu (own_cpu x.local) ≡ c → IsCpuWord c → c.tid + 2 * w.setup.step < 2 ^ 32 → c.frame ≢ 0
    → IsAtWork w x → IsAtWork w (with_word x c (InAlloc DetachOther))
detach_other-work w x c is there fits room some ok = grind arith

pub at_LoadAgain : (w : World) (x : Worker) (others : List Worker) (word : ℕ) → x.local.spot ≡ InAlloc LoadAgain → w.cpu (own_cpu x.local) ≡ cpu_in word → Stands w (x ∷ others)
    → ComesTo w others (alloc_advance w.setup x.local LoadAgain (Word word)).local
at_LoadAgain w x others word is there s = (with_word x c (way_of_again w.setup (hand_of x.local) c), refl, by_spent)
  where
    c : CpuWord
    c = cpu_in word

    ok : IsAtWork w x
    ok = All-head (IsAtWork w) x others s.fresh.workers

    fits : IsCpuWord c
    fits = subst IsCpuWord there (s.fresh.worded.cpu (own_cpu x.local))

    GoesTo : Spot → Type 0
    GoesTo spot = Stands w (with_word x c spot ∷ others)

    hands : AreHands (Leaving ∷ []) x.local.hands x.chains
    hands = leaving x.local.hands x.chains (rw is at ok.spot.hands)

    held : AreHeld w x.local.cache (Leaving ∷ []) x.local.hands x.chains 0
    held = leaving-held w x.local.cache x.local.hands x.chains 0 (rw is at ok.seen.hands)

    bare : c.frame ≡ 0 → c.head ≡ 0
    bare none =
        let plain = ok.spot.plain (rw is refl) in
        let cpu = ok.spot.cpu in
        let few = s.fresh.setup.cpus in
        let words = s.fresh.setup.cpu_words in
        let below : own_cpu x.local < w.setup.cpu_words = omega arith in
        subst (λ (d : CpuWord). d.head ≡ 0) there (s.listed.shaped.bare (own_cpu x.local) below (rw there none))

    by_away : GoesTo (way_of_away (hand_of x.local) ForSpent)
    by_away = cond_both (((hand_of x.local).head == 0) || (hand_of x.local).walked) (InPutAway LockAway ForSpent) (InPutAway WalkChain ForSpent) GoesTo
        (λ e. local_step w x _ others s (λ f i. refl) (record { home = λ f. refl; marked = λ f. rw is refl; covered = λ g. refl; takes = λ k. rw is refl })
        (spent_lock-work w x c is fits hands held (λ some. elim (or_cases ((hand_of x.local).head == 0) (hand_of x.local).walked e) [ inl z ↦ absurd (let n = eqb-true (hand_of x.local).head 0 z in omega arith) | inr t ↦ t ]) ok))
        (λ e. let b = or_parts ((hand_of x.local).head == 0) (hand_of x.local).walked e in
        local_step w x _ others s (λ f i. refl) (record { home = λ f. refl; marked = λ f. rw is refl; covered = λ g. refl; takes = λ k. rw is refl })
        (spent_walk-work w x c is fits hands held (let d = eqb-false (hand_of x.local).head 0 b.0 in omega (arith, d)) b.1 ok))

    by_spent : GoesTo (way_of_again w.setup (hand_of x.local) c)
    by_spent = cond_both (is_spent w.setup c) (way_of_away (hand_of x.local) ForSpent) (if c.frame == 0 then InAlloc Install else InAlloc DetachOther) GoesTo (λ _. by_away)
        (λ e. let room = unspent w.setup c s.fresh.setup e in
        cond_both (c.frame == 0) (InAlloc Install) (InAlloc DetachOther) GoesTo
        (λ z. let none = eqb-true c.frame 0 z in
        local_step w x _ others s (λ f i. refl) (record { home = λ f. refl; marked = λ f. rw is refl; covered = λ g. refl; takes = λ k. rw is refl }) (install-work w x c is there fits room none (bare none) ok))
        (λ z. local_step w x _ others s (λ f i. refl) (record { home = λ f. refl; marked = λ f. rw is refl; covered = λ g. refl; takes = λ k. rw is refl }) (detach_other-work w x c is there fits room (eqb-false c.frame 0 z) ok)))

-- ---- a free

link_own-work : (w : World) (x : Worker) (c : CpuWord) → x.local.spot ≡ InFree LoadOwn → w.cpu (own_cpu x.local) ≡ c → IsCpuWord c → c.tid + 2 * w.setup.step < 2 ^ 32 → c.frame ≡ (here x.local).frame
    → IsAtWork w x → IsAtWork w (with_word x c (InFree LinkOwn))
link_own-work w x c is there fits room own ok = grind arith

load_slab-work : (w : World) (x : Worker) (c : CpuWord) → x.local.spot ≡ InFree LoadOwn → IsCpuWord c → IsAtWork w x → IsAtWork w (with_word x c (InFree LoadSlab))
load_slab-work w x c is fits ok = grind arith

pub at_LoadOwn : (w : World) (x : Worker) (others : List Worker) (word : ℕ) → x.local.spot ≡ InFree LoadOwn → w.cpu (own_cpu x.local) ≡ cpu_in word → Stands w (x ∷ others)
    → ComesTo w others (free_advance w.setup x.local LoadOwn (Word word)).local
at_LoadOwn w x others word is there s = (with_word x c (way_of_own w.setup x.local c), refl, by_frame)
  where
    c : CpuWord
    c = cpu_in word

    ok : IsAtWork w x
    ok = All-head (IsAtWork w) x others s.fresh.workers

    fits : IsCpuWord c
    fits = subst IsCpuWord there (s.fresh.worded.cpu (own_cpu x.local))

    GoesTo : Spot → Type 0
    GoesTo spot = Stands w (with_word x c spot ∷ others)

    by_frame : GoesTo (way_of_own w.setup x.local c)
    by_frame = cond_both ((c.frame == (here x.local).frame) && not (is_spent w.setup c)) (InFree LinkOwn) (InFree LoadSlab) GoesTo
        (λ e. let b = and_parts (c.frame == (here x.local).frame) (not (is_spent w.setup c)) e in
        local_step w x _ others s (λ f i. refl) (record { home = λ f. refl; marked = λ f. rw is refl; covered = λ g. refl; takes = λ k. rw is refl })
        (link_own-work w x c is there fits (unspent w.setup c s.fresh.setup (not-true (is_spent w.setup c) b.1)) (eqb-true c.frame (here x.local).frame b.0) ok))
        (λ _. local_step w x _ others s (λ f i. refl) (record { home = λ f. refl; marked = λ f. rw is refl; covered = λ g. refl; takes = λ k. rw is refl }) (load_slab-work w x c is fits ok))

-- ---- a sweep

detach_current-work : (w : World) (x : Worker) (c : CpuWord) (sweep : Sweep) → x.local.spot ≡ InOffline LoadCurrent sweep → w.cpu (own_cpu x.local) ≡ c → IsCpuWord c → c.tid + w.setup.step < 2 ^ 32 → c.frame ≢ 0
    → IsAtWork w x → IsAtWork w (with_word x c (InOffline DetachCurrent sweep))
detach_current-work w x c sweep is there fits room some ok = grind arith

take_current-work : (w : World) (x : Worker) (c : CpuWord) (sweep : Sweep) → x.local.spot ≡ InOffline LoadCurrent sweep → IsCpuWord c → IsAtWork w x → IsAtWork w (with_word x c (InOffline TakeCurrent sweep))
take_current-work w x c sweep is fits ok = grind arith

pub at_LoadCurrent : (w : World) (x : Worker) (others : List Worker) (sweep : Sweep) (word : ℕ) → x.local.spot ≡ InOffline LoadCurrent sweep → w.cpu (own_cpu x.local) ≡ cpu_in word → Stands w (x ∷ others)
    → ComesTo w others (offline_advance w.setup x.local LoadCurrent sweep (Word word)).local
at_LoadCurrent w x others sweep word is there s = (with_word x c (way_of_current sweep c), refl, by_frame)
  where
    c : CpuWord
    c = cpu_in word

    ok : IsAtWork w x
    ok = All-head (IsAtWork w) x others s.fresh.workers

    fits : IsCpuWord c
    fits = subst IsCpuWord there (s.fresh.worded.cpu (own_cpu x.local))

    GoesTo : Spot → Type 0
    GoesTo spot = Stands w (with_word x c spot ∷ others)

    room : c.frame ≢ 0 → c.tid + w.setup.step < 2 ^ 32
    room some =
        let plain = ok.spot.plain (rw is refl) in
        let cpu = ok.spot.cpu in
        let few = s.fresh.setup.cpus in
        let words = s.fresh.setup.cpu_words in
        let below : own_cpu x.local < w.setup.cpu_words = omega arith in
        subst (λ (d : CpuWord). d.tid + w.setup.step < 2 ^ 32) there (s.fresh.worded.room (own_cpu x.local) below (rw there some))

    by_frame : GoesTo (way_of_current sweep c)
    by_frame = cond_both (c.frame == 0) (InOffline TakeCurrent sweep) (InOffline DetachCurrent sweep) GoesTo
        (λ _. local_step w x _ others s (λ f i. refl) (record { home = λ f. refl; marked = λ f. rw is refl; covered = λ g. refl; takes = λ k. rw is refl }) (take_current-work w x c sweep is fits ok))
        (λ z. let some = eqb-false c.frame 0 z in
        local_step w x _ others s (λ f i. refl) (record { home = λ f. refl; marked = λ f. rw is refl; covered = λ g. refl; takes = λ k. rw is refl }) (detach_current-work w x c sweep is there fits (room some) some ok))
