-- The step of a spot, on the table of words: words of memory, which lie among the table's.
use Rattle.std.proofs.Common.{◌≡◌, ℕ, suc, ◌+◌, ◌-◌, ◌*◌, ◌/◌, ◌<◌, ◌≤◌, true, false, Option, Some, None, List, [], ◌∷◌, length, refl, sym, ap, ◌∙◌, subst, arith, get_or}
use Rattle.std.specs.Prelude.{slice_index, IsSome}
use Rattle.std.proofs.lemmas.Bool.{leb-true, not-false, false≢true}
use Rattle.std.proofs.lemmas.List.Elements.{All-head}
use Rattle.slub_common.specs.Times.{times}
use Rattle.slub_core.specs.declared.local.FrameRun.{FrameRun}
use Rattle.slub_core.specs.declared.local.Hand.{Hand}
use Rattle.slub_core.specs.declared.spot.Spot.TheVariants.{InAlloc, InPutAway, InFree, WriteWord}
use Rattle.slub_core.specs.declared.spot.AllocSpot.TheVariants.{LinkNew, LoadReady}
use Rattle.slub_core.specs.declared.spot.Away.{Away}
use Rattle.slub_core.specs.declared.spot.PutAwaySpot.TheVariants.{WalkChain, LinkLast}
use Rattle.slub_core.specs.declared.spot.FreeSpot.TheVariants.{LinkOwn, LinkSlab, LinkLocked}
use Rattle.slub_core.specs.declared.step.Answer.TheVariants.{Word, Done}
use Rattle.slub_core.specs.declared.step.Place.TheVariants.{MemoryOf}
use Rattle.slub_core.specs.Calls.{call_word, call_value}
use Rattle.slub_core.specs.Setup.{pointer_at, word_at, hardened}
use Rattle.slub_core.specs.World.{World, pointer, exists_at, object_at, in_chain, Leads, world_from, world_of}
use Rattle.slub_core.specs.Local.{Worker, here, hand_of, run_of, run_in, call_of}
use Rattle.slub_core.specs.Alloc.{alloc_advance, reached}
use Rattle.slub_core.specs.PutAway.{put_away_advance}
use Rattle.slub_core.specs.Steps.{advance_at, told}
use Rattle.slub_core.specs.Spots.{Ready, Leaving, Untied, beside_away, frees, uses, uses_word, in_plain}
use Rattle.slub_core.specs.Placed.{owned, in_hands}
use Rattle.slub_core.specs.Fresh.{IsHeldRun, AreHands, AreHeld, rising_next}
use Rattle.slub_core.specs.Coherent.{Stands}
use Rattle.slub_core.proofs.Apart.{word-inside}
use Rattle.slub_core.proofs.Exists.{in_chain-here, hands-exist, owned-object}
use Rattle.slub_core.proofs.StepHands.{one-hand, first-hand}
use Rattle.slub_core.proofs.Kind4.{at_LinkOwn, at_LinkSlab, at_LinkLocked, at_WriteWord}
use Rattle.slub_core.proofs.Kind17.{at_LoadReady, at_WalkChain}
use Rattle.slub_core.proofs.Kind20.{at_LinkNew, at_LinkLast}
use Rattle.slub_core.proofs.Leads.{AtSpot, at_work}
use Rattle.slub_core.proofs.Lists.{times-at}
use Rattle.slub_core.proofs.Loads.{held-object, freed-object}
use Rattle.slub_core.proofs.Locks.{ComesTo}
use Rattle.slub_core.proofs.Slots.{IsWordOf, pointer-word, word-word, word-frame, sized-fits}
use Rattle.slub_core.proofs.Walks.{Leads-some, place_of, reached-at}
use Rattle.slub_core.proofs.StepWords.{memory-read}
use Rattle.slub_core.proofs.WordSteps.{load, memory_store}
use Rattle.slub_core.proofs.Accounts.{Reaches}
use Rattle.slub_core.proofs.TaleSteps.{quietly}
use Rattle.slub_core.proofs.TaleLinks.{tale_link, tale_LinkLast, tale_LinkNew}
use Rattle.slub_core.proofs.TaleSpots.{unseen-same}
use Rattle.slub_core.proofs.TaleUses.{told_WriteWord}
use Rattle.slub_core.specs.Words.{number_of}

-- ---- the words lie in memory

-- of an object that a worker holds: its free pointer, and each word of it
held-there : (w : World) (x : Worker) (others : List Worker) → Stands w (x ∷ others) → 1 ≤ owned (here x.local).frame (here x.local).index x → exists_at w (here x.local).frame (here x.local).index ≡ object_at w (here x.local).frame (here x.local).index
    → 1 ≤ exists_at w (here x.local).frame (here x.local).index
held-there w x others s has same =
    let k = here x.local in
    let all = All-head (λ o. owned k.frame k.index o ≤ object_at w k.frame k.index) x others (owned-object w s.chains (x ∷ others) k.frame k.index s.placed) in
    omega arith

pub freed-inside : (w : World) (x : Worker) (others : List Worker) → Stands w (x ∷ others) → frees x.local.spot ≡ true → pointer_at w.setup (here x.local).cache (here x.local).frame (here x.local).index < 512 * w.setup.frames
freed-inside w x others s is =
    let k = here x.local in
    let o = freed-object w x others s is in
    let mine = (at_work w x others s).spot.frees is in
    let cache : k.cache ≡ (w.slab k.frame).cache = mine.2 ∙ o.0.cache in
    let live = (s.listed.shaped.plain k.frame o.0.live).1 in
    subst (λ c. pointer_at w.setup c k.frame k.index < 512 * w.setup.frames) (sym cache)
    (word-inside w (x ∷ others) k.frame k.index (pointer_at w.setup (w.slab k.frame).cache k.frame k.index) s (held-there w x others s o.1 o.0.exists) (pointer-word w.setup (w.slab k.frame).cache k.frame k.index s.fresh.setup live))

pub used-inside : (w : World) (x : Worker) (others : List Worker) → Stands w (x ∷ others) → in_plain x.local.spot ≡ true → uses x.local.spot ≡ true → uses_word x.local.spot ≡ true → word_at w.setup (here x.local).cache (here x.local).frame (here x.local).index (call_word (call_of x.local)) < 512 * w.setup.frames
used-inside w x others s plain used is =
    let k = here x.local in
    let ok = at_work w x others s in
    let mine = ok.spot.uses used in
    let o = held-object w x others s plain mine in
    let cache : k.cache ≡ (w.slab k.frame).cache = mine.2 ∙ o.0.cache in
    let live = (s.listed.shaped.plain k.frame o.0.live).1 in
    let inside : 8 * (call_word (call_of x.local) + 1) ≤ (w.setup.layout (w.slab k.frame).cache).object_size
    = subst (λ c. 8 * (call_word (call_of x.local) + 1) ≤ (w.setup.layout c).object_size) o.0.cache (leb-true (8 * (call_word (call_of x.local) + 1)) (w.setup.layout x.local.cache).object_size (not-false _ (ok.spot.inside is))) in
    subst (λ c. word_at w.setup c k.frame k.index (call_word (call_of x.local)) < 512 * w.setup.frames) (sym cache)
    (word-inside w (x ∷ others) k.frame k.index (word_at w.setup (w.slab k.frame).cache k.frame k.index (call_word (call_of x.local))) s (held-there w x others s o.1 o.0.exists) (word-word w.setup (w.slab k.frame).cache k.frame k.index (call_word (call_of x.local)) s.fresh.setup live inside))

-- of an object in a chain in hand
chain-inside : (w : World) (x : Worker) (others : List Worker) (h : Hand) (hs : List Hand) (xs : List ℕ) (xss : List (List ℕ)) (j : ℕ) → Stands w (x ∷ others) → in_plain x.local.spot ≡ true → (w.slab h.frame).cache ≡ x.local.cache
    → x.local.hands ≡ h ∷ hs → x.chains ≡ xs ∷ xss → 1 ≤ times j xs → pointer_at w.setup x.local.cache h.frame j < 512 * w.setup.frames
chain-inside w x others h hs xs xss j s is cache one chain has =
    let e = All-head (λ (o : Worker). in_hands h.frame j o.local.hands o.chains ≤ exists_at w h.frame j) x others (hands-exist w s.chains (x ∷ others) h.frame j s.placed s.listed) in
    let e' : in_chain h.frame xs h.frame j + in_hands h.frame j hs xss ≤ exists_at w h.frame j = rw (one, chain) at e in
    let c = in_chain-here h.frame xs j in
    let live = ((at_work w x others s).spot.plain is).1 in
    word-inside w (x ∷ others) h.frame j (pointer_at w.setup x.local.cache h.frame j) s (omega arith)
    (subst (λ c. IsWordOf (w.setup.layout c) h.frame j (pointer_at w.setup x.local.cache h.frame j)) (sym cache) (pointer-word w.setup x.local.cache h.frame j s.fresh.setup live))

pub ready-inside : (w : World) (x : Worker) (others : List Worker) → x.local.spot ≡ InAlloc LoadReady → Stands w (x ∷ others) → pointer_at w.setup x.local.cache (hand_of x.local).frame ((hand_of x.local).head - 1) < 512 * w.setup.frames
ready-inside w x others is s =
    let ok = at_work w x others s in
    let r = one-hand Ready x.local.hands x.chains (rw is at ok.spot.hands) in
    by_hand r.0 r.1 r.2 r.3
  where
    by_hand : (h : Hand) (xs : List ℕ) → x.local.hands ≡ h ∷ [] → x.chains ≡ xs ∷ [] → pointer_at w.setup x.local.cache (hand_of x.local).frame ((hand_of x.local).head - 1) < 512 * w.setup.frames
    by_hand h xs one chain =
        let ok = at_work w x others s in
        let hands : AreHands (Ready ∷ []) (h ∷ []) (xs ∷ []) = rw (is, one, chain) at ok.spot.hands in
        let held : AreHeld w x.local.cache (Ready ∷ []) (h ∷ []) (xs ∷ []) 0 = rw (is, one, chain) at ok.seen.hands in
        let long = Leads-some (pointer w x.local.cache h.frame) h.head xs hands.3.0 held.0 in
        let first : h.head ≡ suc (slice_index xs 0) = head-of h xs held.0 long in
        let hand : hand_of x.local ≡ h = rw one refl in
        let has : 1 ≤ times (h.head - 1) xs = times-at (h.head - 1) xs 0 (omega arith) (omega arith) in
        subst (λ (g : Hand). pointer_at w.setup x.local.cache g.frame (g.head - 1) < 512 * w.setup.frames) (sym hand) (chain-inside w x others h [] xs [] (h.head - 1) s (rw is refl) held.1 one chain has)
      where
        head-of : (h : Hand) (xs : List ℕ) → Leads (pointer w x.local.cache h.frame) h.head xs 0 → 1 ≤ length xs → h.head ≡ suc (slice_index xs 0)
        head-of h [] c long = absurd (omega arith)
        head-of h (y ∷ ys) c long = c.0

pub walk-inside : (w : World) (x : Worker) (others : List Worker) (away : Away) → x.local.spot ≡ InPutAway WalkChain away → Stands w (x ∷ others) → pointer_at w.setup x.local.cache (hand_of x.local).frame (reached (hand_of x.local) - 1) < 512 * w.setup.frames
walk-inside w x others away is s =
    let ok = at_work w x others s in
    let r = first-hand Leaving (beside_away away) x.local.hands x.chains (rw is at ok.spot.hands) in
    by_hand r.0 r.1 r.2 r.3 r.4 r.5
  where
    by_hand : (h : Hand) (hs : List Hand) (xs : List ℕ) (xss : List (List ℕ)) → x.local.hands ≡ h ∷ hs → x.chains ≡ xs ∷ xss → pointer_at w.setup x.local.cache (hand_of x.local).frame (reached (hand_of x.local) - 1) < 512 * w.setup.frames
    by_hand h hs xs xss one chain =
        let ok = at_work w x others s in
        let hands : AreHands (Leaving ∷ beside_away away) (h ∷ hs) (xs ∷ xss) = rw (is, one, chain) at ok.spot.hands in
        let held : AreHeld w x.local.cache (Leaving ∷ beside_away away) (h ∷ hs) (xs ∷ xss) 0 = rw (is, one, chain) at ok.seen.hands in
        let hand : hand_of x.local ≡ h = rw one refl in
        let some : 1 ≤ h.head = (let t : (1 ≤ (hand_of x.local).head) × ((hand_of x.local).walked ≡ false) = ok.spot.walking (rw is refl) in (rw hand at t).0) in
        let long = Leads-some (pointer w x.local.cache h.frame) h.head xs some held.0 in
        let at_place = reached-at (pointer w x.local.cache h.frame) xs h 0 long held.0 hands.4 in
        let within = hands.4.short in
        let has : 1 ≤ times (reached h - 1) xs = times-at (reached h - 1) xs (place_of h) (omega arith) (omega arith) in
        subst (λ (g : Hand). pointer_at w.setup x.local.cache g.frame (reached g - 1) < 512 * w.setup.frames) (sym hand) (chain-inside w x others h hs xs xss (reached h - 1) s (rw is refl) held.1 one chain has)

pub last-inside : (w : World) (x : Worker) (others : List Worker) (away : Away) → x.local.spot ≡ InPutAway LinkLast away → Stands w (x ∷ others) → pointer_at w.setup x.local.cache (hand_of x.local).frame ((hand_of x.local).last - 1) < 512 * w.setup.frames
last-inside w x others away is s =
    let ok = at_work w x others s in
    let r = first-hand Untied (beside_away away) x.local.hands x.chains (rw is at ok.spot.hands) in
    by_hand r.0 r.1 r.2 r.3 r.4 r.5
  where
    by_hand : (h : Hand) (hs : List Hand) (xs : List ℕ) (xss : List (List ℕ)) → x.local.hands ≡ h ∷ hs → x.chains ≡ xs ∷ xss → pointer_at w.setup x.local.cache (hand_of x.local).frame ((hand_of x.local).last - 1) < 512 * w.setup.frames
    by_hand h hs xs xss one chain =
        let ok = at_work w x others s in
        let hands : AreHands (Untied ∷ beside_away away) (h ∷ hs) (xs ∷ xss) = rw (is, one, chain) at ok.spot.hands in
        let held : AreHeld w x.local.cache (Untied ∷ beside_away away) (h ∷ hs) (xs ∷ xss) 0 = rw (is, one, chain) at ok.seen.hands in
        let hand : hand_of x.local ≡ h = rw one refl in
        let some : 1 ≤ h.head = (let t : 1 ≤ (hand_of x.local).head = ok.spot.some_chain (rw is refl) in rw hand at t) in
        let walked : h.walked ≡ true = (let t : 1 ≤ (hand_of x.local).head → (hand_of x.local).walked ≡ true = ok.spot.walked (rw is refl) in (rw hand at t) some) in
        let ended = hands.4.ended walked in
        let last = hands.4.last ended.1 in
        let within = hands.4.short in
        let more = ended.1 in
        let has : 1 ≤ times (h.last - 1) xs = times-at (h.last - 1) xs (h.length - 1) (omega arith) (omega arith) in
        subst (λ (g : Hand). pointer_at w.setup x.local.cache g.frame (g.last - 1) < 512 * w.setup.frames) (sym hand) (chain-inside w x others h hs xs xss (h.last - 1) s (rw is refl) held.1 one chain has)

-- of a run in hand
pub run-inside : (w : World) (x : Worker) (others : List Worker) (i : ℕ) → x.local.spot ≡ InAlloc (LinkNew i) → Stands w (x ∷ others) → pointer_at w.setup x.local.cache (run_of x.local).frame i < 512 * w.setup.frames
run-inside w x others i is s = by_run x.local.run refl
  where
    by_run : (r : Option FrameRun) → x.local.run ≡ r → pointer_at w.setup x.local.cache (run_of x.local).frame i < 512 * w.setup.frames
    by_run None none = absurd (let some : IsSome x.local.run = (at_work w x others s).spot.run (rw is refl) in false≢true (rw none at some))
    by_run (Some run) some =
        let ok = at_work w x others s in
        let mine : run_of x.local ≡ run = ap run_in some in
        let room : i < run.objects = (let b : i < (run_of x.local).objects = rw is at (ok.spot.unstored (rw is refl)) in rw mine at b) in
        let had : IsHeldRun w x.local.cache (Some run) i = (let h : IsHeldRun w x.local.cache x.local.run i = rw is at ok.seen.run in rw some at h) in
        let live = (ok.spot.plain (rw is refl)).1 in
        let fits = sized-fits w.setup x.local.cache run.order run.objects s.fresh.setup live had.0.sized in
        let frame = word-frame (w.setup.layout x.local.cache) run.frame i run.objects run.order (pointer_at w.setup x.local.cache run.frame i) (pointer-word w.setup x.local.cache run.frame i s.fresh.setup live) room fits in
        let end = had.0.inside in
        let below : pointer_at w.setup x.local.cache run.frame i < 512 * w.setup.frames = (let f = frame.1 in below-frames (pointer_at w.setup x.local.cache run.frame i) w.setup.frames (omega arith)) in
        subst (λ (r : FrameRun). pointer_at w.setup x.local.cache r.frame i < 512 * w.setup.frames) (sym mine) below
      where
        below-frames : (p n : ℕ) → p / 512 < n → p < 512 * n
        below-frames p n b = omega arith

-- ---- spot by spot

pub leads_LoadReady : AtSpot (InAlloc LoadReady)
unfolding world_of world_from
leads_LoadReady opening m value words x others t is s ac =
    let w = world_of m value words in
    let p = pointer_at m x.local.cache (hand_of x.local).frame ((hand_of x.local).head - 1) in
    load m value words (MemoryOf p) (λ v a. Reaches opening v others (advance_at m value x.local (InAlloc LoadReady) a))
    (subst (λ q. ComesTo w others (alloc_advance m x.local LoadReady (Word q)).local) (memory-read m value words p (ready-inside w x others is s)) (at_LoadReady w x others is s), quietly opening w w value x others (InAlloc LoadReady) (Word (get_or words (number_of m (MemoryOf p)) 0)) is ac (unseen-same w) refl refl)

pub leads_WalkChain : (away : Away) → AtSpot (InPutAway WalkChain away)
unfolding world_of world_from
leads_WalkChain away opening m value words x others t is s ac =
    let w = world_of m value words in
    let p = pointer_at m x.local.cache (hand_of x.local).frame (reached (hand_of x.local) - 1) in
    load m value words (MemoryOf p) (λ v a. Reaches opening v others (advance_at m value x.local (InPutAway WalkChain away) a))
    (subst (λ q. ComesTo w others (put_away_advance m value x.local WalkChain away (Word q)).local) (memory-read m value words p (walk-inside w x others away is s)) (at_WalkChain w x others away is s), quietly opening w w value x others (InPutAway WalkChain away) (Word (get_or words (number_of m (MemoryOf p)) 0)) is ac (unseen-same w) refl refl)

pub leads_LinkOwn : AtSpot (InFree LinkOwn)
unfolding world_of world_from
leads_LinkOwn opening m value words x others t is s ac =
    let w = world_of m value words in
    let k = here x.local in
    memory_store m value words (pointer_at m k.cache k.frame k.index) (hardened k.cache (pointer_at m k.cache k.frame k.index) x.local.cpu_word.head) (λ v a. Reaches opening v others (advance_at m value x.local (InFree LinkOwn) a)) t
    (freed-inside w x others s (rw is refl))
    (at_LinkOwn w x others is s, tale_link opening w value x others (hardened k.cache (pointer_at m k.cache k.frame k.index) x.local.cpu_word.head) (InFree LinkOwn) is refl refl refl refl s ac)

pub leads_LinkSlab : AtSpot (InFree LinkSlab)
unfolding world_of world_from
leads_LinkSlab opening m value words x others t is s ac =
    let w = world_of m value words in
    let k = here x.local in
    memory_store m value words (pointer_at m k.cache k.frame k.index) (hardened k.cache (pointer_at m k.cache k.frame k.index) x.local.slab_word.head) (λ v a. Reaches opening v others (advance_at m value x.local (InFree LinkSlab) a)) t
    (freed-inside w x others s (rw is refl))
    (at_LinkSlab w x others is s, tale_link opening w value x others (hardened k.cache (pointer_at m k.cache k.frame k.index) x.local.slab_word.head) (InFree LinkSlab) is refl refl refl refl s ac)

pub leads_LinkLocked : AtSpot (InFree LinkLocked)
unfolding world_of world_from
leads_LinkLocked opening m value words x others t is s ac =
    let w = world_of m value words in
    let k = here x.local in
    memory_store m value words (pointer_at m k.cache k.frame k.index) (hardened k.cache (pointer_at m k.cache k.frame k.index) x.local.slab_word.head) (λ v a. Reaches opening v others (advance_at m value x.local (InFree LinkLocked) a)) t
    (freed-inside w x others s (rw is refl))
    (at_LinkLocked w x others is s, tale_link opening w value x others (hardened k.cache (pointer_at m k.cache k.frame k.index) x.local.slab_word.head) (InFree LinkLocked) is refl refl refl refl s ac)

pub leads_WriteWord : AtSpot WriteWord
unfolding world_of world_from
leads_WriteWord opening m value words x others t is s ac =
    let w = world_of m value words in
    let k = here x.local in
    memory_store m value words (word_at m k.cache k.frame k.index (call_word (call_of x.local))) (call_value (call_of x.local)) (λ v a. Reaches opening v others (advance_at m value x.local WriteWord a)) t
    (used-inside w x others s (rw is refl) (rw is refl) (rw is refl))
    (at_WriteWord w x others is s, (record x { local = told (advance_at m value x.local WriteWord Done) }, refl, told_WriteWord opening w value x others is s ac))

pub leads_LinkNew : (i : ℕ) → AtSpot (InAlloc (LinkNew i))
unfolding world_of world_from
leads_LinkNew i opening m value words x others t is s ac =
    let w = world_of m value words in
    let p = pointer_at m x.local.cache (run_of x.local).frame i in
    memory_store m value words p (hardened x.local.cache p (rising_next (run_of x.local).objects i)) (λ v a. Reaches opening v others (advance_at m value x.local (InAlloc (LinkNew i)) a)) t
    (run-inside w x others i is s)
    (at_LinkNew w x others i is s, tale_LinkNew opening w value x others (hardened x.local.cache p (rising_next (run_of x.local).objects i)) i is s ac)

pub leads_LinkLast : (away : Away) → AtSpot (InPutAway LinkLast away)
unfolding world_of world_from
leads_LinkLast away opening m value words x others t is s ac =
    let w = world_of m value words in
    let p = pointer_at m x.local.cache (hand_of x.local).frame ((hand_of x.local).last - 1) in
    memory_store m value words p (hardened x.local.cache p x.local.slab_word.head) (λ v a. Reaches opening v others (advance_at m value x.local (InPutAway LinkLast away) a)) t
    (last-inside w x others away is s)
    (at_LinkLast w x others away is s, tale_LinkLast opening w value x others (hardened x.local.cache p x.local.slab_word.head) away is s ac)
