-- A step that changes a word of memory: a free pointer, or a word of a held object.
use Rattle.std.proofs.Common.{◌≡◌, ◌≢◌, ℕ, ◌-◌, ◌/◌, ◌%◌, ◌^◌, ◌<◌, ◌≤◌, ◌⊎◌, true, Option, Some, None, List, [], ◌∷◌, length, get_or, refl, sym, ap, ◌∙◌, subst, arith, inl, inr}
use Rattle.std.specs.Prelude.{All}
use Rattle.std.proofs.lemmas.List.Elements.{All-cons, All-tail}
use Rattle.slub_common.specs.Times.{times}
use Rattle.slub_words.specs.declared.cpu.CpuWord.{CpuWord}
use Rattle.slub_core.specs.declared.local.FrameRun.{FrameRun}
use Rattle.slub_core.specs.declared.local.Hand.{Hand}
use Rattle.slub_core.specs.Setup.{IsSetup, pointer_at, hardened}
use Rattle.slub_core.specs.World.{World, Chains, set_memory, pointer, exists_at, object_at, in_chain}
use Rattle.slub_core.specs.Local.{Worker, here, nobody, run_of, run_in}
use Rattle.slub_core.specs.Ops.{own_cpu}
use Rattle.slub_core.specs.Spots.{Role, Taken, Ready, Loaded, Leaving, Untied, Popped, Kept, Loose, roles, frees, stored_in}
use Rattle.slub_core.specs.Placed.{owned, in_hands, IsPlaced}
use Rattle.slub_core.specs.Listed.{IsListed}
use Rattle.slub_core.specs.Fresh.{LeadsFor, AreHeld, IsHeldRun, IsAtWork, end_of}
use Rattle.slub_core.specs.Coherent.{Stands}
use Rattle.slub_core.proofs.Chains.{Leads-same}
use Rattle.slub_core.proofs.Exists.{plain-object, in_chain-here, own-exists, owned-object, hands-exist, chain-exists, exists-none, head-exists, head-slab, alone}
use Rattle.slub_core.proofs.Frames.{shaped-memory, worded-memory}
use Rattle.slub_core.proofs.LocalStep.{Settled, placed-settled, listed-settled}
use Rattle.slub_core.proofs.Spots.{next-cpu, next-head, next-plain, linked_cpu-frees, linked_slab-frees, frees-plain}
use Rattle.slub_core.proofs.Update.{update_other}
use Rattle.slub_core.proofs.ValueStep.{known-owned}

-- the word is no free pointer of another object, nor one of another worker's run in hand
pub record IsApart (w : World) (others : List Worker) (f i p : ℕ) : Type 0 where
  pub objects : (g j : ℕ) → 1 ≤ exists_at w g j → (g ≡ f → j ≡ i → ⊥) → pointer_at w.setup (w.slab g).cache g j ≢ p
  pub runs : All (λ (o : Worker). (run : FrameRun) (j : ℕ) → o.local.run ≡ Some run → j < run.objects → pointer_at w.setup o.local.cache run.frame j ≢ p) others

-- a free pointer stays where another word is stored
pub pointer-other : (w : World) (p v cache f i : ℕ) → pointer_at w.setup cache f i ≢ p → pointer (set_memory w p v) cache f i ≡ pointer w cache f i
pointer-other w p v cache f i d = ap (hardened cache (pointer_at w.setup cache f i)) (update_other w.memory p v (pointer_at w.setup cache f i) d)

-- a chain stays where its members' pointers do
LeadsFor-same : (r : Role) (g h : ℕ → ℕ) (head : ℕ) (xs : List ℕ) (end : ℕ) → ((j : ℕ) → 1 ≤ times j xs → h j ≡ g j) → LeadsFor r g head xs end → LeadsFor r h head xs end
LeadsFor-same Taken g h head xs end same ok = Leads-same g h head xs end same ok
LeadsFor-same Ready g h head xs end same ok = Leads-same g h head xs end same ok
LeadsFor-same Loaded g h head xs end same ok = Leads-same g h head xs end same ok
LeadsFor-same Leaving g h head xs end same ok = Leads-same g h head xs end same ok
LeadsFor-same Untied g h head xs end same ok = (ok.0, Leads-same g h head xs ok.0 same ok.1)
LeadsFor-same Popped g h head xs end same ok = Leads-same g h head xs end same ok
LeadsFor-same Kept g h head xs end same ok = Leads-same g h head xs end same ok
LeadsFor-same Loose g h head xs end same ok = Leads-same g h head xs end same ok

-- chains in hand of which no free pointer is stored
pub held-memory : (w : World) (p v cache : ℕ) (rs : List Role) (hs : List Hand) (xss : List (List ℕ)) (end : ℕ)
    → ((g j : ℕ) → 1 ≤ in_hands g j hs xss → pointer_at w.setup (w.slab g).cache g j ≢ p) → AreHeld w cache rs hs xss end → AreHeld (set_memory w p v) cache rs hs xss end
held-memory w p v cache (r ∷ rs) (h ∷ hs) (xs ∷ xss) end apart ok = (
  LeadsFor-same r (pointer w cache h.frame) (pointer (set_memory w p v) cache h.frame) h.head xs end
      (λ j some. pointer-other w p v cache h.frame j (subst (λ k. pointer_at w.setup k h.frame j ≢ p) ok.1 (apart h.frame j (let c = in_chain-here h.frame xs j in omega arith)))) ok.0,
  ok.1,
  ok.2,
  held-memory w p v cache rs hs xss 0 (λ g j some. apart g j (omega arith)) ok.3,
)
held-memory w p v cache [] hs xss end apart ok = tt
held-memory w p v cache (r ∷ rs) [] xss end apart ok = tt
held-memory w p v cache (r ∷ rs) (h ∷ hs) [] end apart ok = tt

-- a run in hand of which no free pointer is stored
pub run-memory : (w : World) (p v cache : ℕ) (r : Option FrameRun) (stored : ℕ)
    → ((run : FrameRun) (j : ℕ) → r ≡ Some run → j < stored → pointer_at w.setup cache run.frame j ≢ p) → IsHeldRun w cache r stored → IsHeldRun (set_memory w p v) cache r stored
run-memory w p v cache None stored apart ok = tt
run-memory w p v cache (Some run) stored apart ok = (ok.0, ok.1, λ j below. pointer-other w p v cache run.frame j (apart run j refl below) ∙ ok.2 j below)

-- the others' free pointers are others
others-memory : (w : World) (y : Chains) (xs : List Worker) (p v : ℕ) (o : Worker) → IsSetup w.setup → IsPlaced w y xs → IsListed w y xs
    → ((g j : ℕ) → 1 ≤ exists_at w g j → 1 ≤ owned g j o → pointer_at w.setup (w.slab g).cache g j ≢ p)
    → ((n g j : ℕ) → n < w.setup.cpu_words → 1 ≤ in_chain (w.cpu n).frame (y.cpu n) g j → pointer_at w.setup (w.slab g).cache g j ≢ p)
    → ((run : FrameRun) (j : ℕ) → o.local.run ≡ Some run → j < run.objects → pointer_at w.setup o.local.cache run.frame j ≢ p)
    → ((g j : ℕ) → owned g j o ≤ object_at w g j) → ((g j : ℕ) → in_hands g j o.local.hands o.chains ≤ exists_at w g j)
    → IsAtWork w o → IsAtWork (set_memory w p v) o
others-memory w y xs p v o setup placed listed apart cpus runs exists hands ok =
    let mine : frees o.local.spot ≡ true → pointer (set_memory w p v) (here o.local).cache (here o.local).frame (here o.local).index ≡ pointer w (here o.local).cache (here o.local).frame (here o.local).index
    = λ s.
    let k = here o.local in
    let h = ok.spot.frees s in
    let plain = ok.spot.plain (frees-plain o.local.spot s) in
    let some = known-owned o o.local.place nobody h.0 h.1 in
    let e = exists k.frame k.index in
    let is = plain-object w y k.cache k.frame k.index listed.shaped (ap w.setup.checks h.2 ∙ plain.2) (ok.seen.known o.local.place nobody h.0 h.1) (omega arith) in
    let there = is.exists in
    pointer-other w p v k.cache k.frame k.index (subst (λ c. pointer_at w.setup c k.frame k.index ≢ p) (sym is.cache) (apart k.frame k.index (omega arith) some)) in
    record {
      spot = ok.spot;
      seen = record {
        cpu_word = ok.seen.cpu_word;
        next = λ s t.
            let n = own_cpu o.local in
            let is = (ok.seen.cpu_word (next-cpu o.local.spot s)).same t in
            let plain = ok.spot.plain (next-plain o.local.spot s) in
            let cpu = ok.spot.cpu in
            let cpus' = setup.cpus in
            let words = setup.cpu_words in
            let below : n < w.setup.cpu_words = omega arith in
            let some : 1 ≤ (w.cpu n).head = subst (λ (c : CpuWord). 1 ≤ c.head) is (ok.spot.noted.head (next-head o.local.spot s)).0 in
            let e = head-exists w y xs n placed listed below some in
            let c = (head-slab w y xs n placed listed below some).1 in
            let cache : (w.slab (w.cpu n).frame).cache ≡ o.local.cache = omega arith in
            let there : pointer (set_memory w p v) o.local.cache (w.cpu n).frame ((w.cpu n).head - 1) ≡ pointer w o.local.cache (w.cpu n).frame ((w.cpu n).head - 1)
            = pointer-other w p v o.local.cache (w.cpu n).frame ((w.cpu n).head - 1) (subst (λ k. pointer_at w.setup k (w.cpu n).frame ((w.cpu n).head - 1) ≢ p) cache (cpus n (w.cpu n).frame ((w.cpu n).head - 1) below e.0)) in
            let there' : pointer (set_memory w p v) o.local.cache o.local.cpu_word.frame (o.local.cpu_word.head - 1) ≡ pointer w o.local.cache o.local.cpu_word.frame (o.local.cpu_word.head - 1)
            = subst (λ (d : CpuWord). pointer (set_memory w p v) o.local.cache d.frame (d.head - 1) ≡ pointer w o.local.cache d.frame (d.head - 1)) (sym is) there in
            ok.seen.next s t ∙ ap (λ (q : ℕ). q % 2 ^ 16) (sym there');
        linked_cpu = λ s. mine (linked_cpu-frees o.local.spot s) ∙ ok.seen.linked_cpu s;
        linked_slab = λ s. mine (linked_slab-frees o.local.spot s) ∙ ok.seen.linked_slab s;
        known = ok.seen.known;
        hands = held-memory w p v o.local.cache (roles o.local.spot _) o.local.hands o.chains (end_of o.local)
            (λ g j some. let e = hands g j in apart g j (omega arith) (omega arith)) ok.seen.hands;
        string = ok.seen.string;
        run = run-memory w p v o.local.cache o.local.run (stored_in o.local.spot (run_of o.local).objects)
            (λ run j is below. runs run j is (let b = ok.spot.stored in let e : (run_of o.local).objects ≡ run.objects = ap (λ r. (run_in r).objects) is in omega arith)) ok.seen.run;
        emptied = ok.seen.emptied;
        freed_last = ok.seen.freed_last;
        scanned = ok.seen.scanned;
        scan = ok.seen.scan;
        scan_next = ok.seen.scan_next;
        locks = ok.seen.locks;
      };
    }

pair-same : (P : ℕ → ℕ → Type 0) {g f j i : ℕ} → g ≡ f → j ≡ i → P f i → P g j
pair-same P {g} {f} {j} {i} e h p = subst (λ z. P z j) (sym e) (subst (λ z. P f z) (sym h) p)

-- What a store into memory owes: it is in an object that only this worker has, or in a run in its hand, where no object is.
pub memory_step : (w : World) (x z : Worker) (others : List Worker) (f i p v : ℕ) → Stands w (x ∷ others)
    → IsApart w others f i p → (1 ≤ owned f i x) ⊎ (exists_at w f i ≡ 0)
    → ((g j : ℕ) → owned g j z ≡ owned g j x) → Settled x z
    → IsAtWork (set_memory w p v) z
    → Stands (set_memory w p v) (z ∷ others)
memory_step w x z others f i p v s apart own same settled ok =
    let y = s.chains in
    let xs : List Worker = x ∷ others in
    let l = listed-settled w y x z others settled s.listed in
    let c = placed-settled w y x z others same s.placed in
    record {
      chains = y;
      placed = record {
        once = c.once;
        cpu_chain = λ n below. Leads-same (pointer w (n / 16) (w.cpu n).frame) (pointer (set_memory w p v) (n / 16) (w.cpu n).frame) (w.cpu n).head (y.cpu n) 0 (λ j some. cpu-pointer n j below some) (s.placed.cpu_chain n below);
        own_chain = λ g. Leads-same (pointer w (w.slab g).cache g) (pointer (set_memory w p v) (w.slab g).cache g) (w.slab g).head (y.own g) 0
            (λ j some. pointer-other w p v (w.slab g).cache g j (let e = own-exists w y xs g j s.placed s.listed.shaped some in apart.objects g j e (away-own own g j e some))) (s.placed.own_chain g);
      };
      listed = record { once = l.once; marked = l.marked; framed = l.framed; locked = l.locked; shaped = shaped-memory w p v y l.shaped };
      fresh = record {
        setup = s.fresh.setup;
        worded = worded-memory w p v s.fresh.worded;
        workers = All-cons (IsAtWork (set_memory w p v)) z others ok
            (λ k d below. others-memory w y xs p v (get_or others k d) s.fresh.setup s.placed s.listed
            (λ g j there has. apart.objects g j there (away-others own k d below g j there has))
            cpu-apart (apart.runs k d below)
            (λ g j. All-tail (λ o. owned g j o ≤ object_at w g j) x others (owned-object w y xs g j s.placed) k d below)
            (λ g j. All-tail (λ (o : Worker). in_hands g j o.local.hands o.chains ≤ exists_at w g j) x others (hands-exist w y xs g j s.placed s.listed) k d below)
            (All-tail (IsAtWork w) x others s.fresh.workers k d below));
      };
    }
  where
    nothing-at : exists_at w f i ≡ 0 → (g j : ℕ) → 1 ≤ exists_at w g j → g ≡ f → j ≡ i → ⊥
    nothing-at none g j there e h = absurd (let n : exists_at w g j ≡ 0 = pair-same (λ g j. exists_at w g j ≡ 0) e h none in omega arith)

    away-own : (1 ≤ owned f i x) ⊎ (exists_at w f i ≡ 0) → (g j : ℕ) → 1 ≤ exists_at w g j → 1 ≤ times j (s.chains.own g) → g ≡ f → j ≡ i → ⊥
    away-own (inl holds) g j there some e h = absurd (let n : times j (s.chains.own g) ≡ 0 = pair-same (λ g j. times j (s.chains.own g) ≡ 0) e h (alone w s.chains x others f i s.placed holds).own in omega arith)
    away-own (inr none) g j there some e h = nothing-at none g j there e h

    away-others : (1 ≤ owned f i x) ⊎ (exists_at w f i ≡ 0) → (k : ℕ) (d : Worker) → k < length others → (g j : ℕ) → 1 ≤ exists_at w g j → 1 ≤ owned g j (get_or others k d) → g ≡ f → j ≡ i → ⊥
    away-others (inl holds) k d below g j there some e h = absurd (let n : owned g j (get_or others k d) ≡ 0 = pair-same (λ g j. owned g j (get_or others k d) ≡ 0) e h ((alone w s.chains x others f i s.placed holds).rest k d below) in omega arith)
    away-others (inr none) k d below g j there some e h = nothing-at none g j there e h

    away-cpus : (1 ≤ owned f i x) ⊎ (exists_at w f i ≡ 0) → (n g j : ℕ) → n < w.setup.cpu_words → 1 ≤ exists_at w g j → 1 ≤ in_chain (w.cpu n).frame (s.chains.cpu n) g j → g ≡ f → j ≡ i → ⊥
    away-cpus (inl holds) n g j below there some e h = absurd (let z : in_chain (w.cpu n).frame (s.chains.cpu n) g j ≡ 0 = pair-same (λ g j. in_chain (w.cpu n).frame (s.chains.cpu n) g j ≡ 0) e h ((alone w s.chains x others f i s.placed holds).cpus n below) in omega arith)
    away-cpus (inr none) n g j below there some e h = nothing-at none g j there e h

    cpu-apart : (n g j : ℕ) → n < w.setup.cpu_words → 1 ≤ in_chain (w.cpu n).frame (s.chains.cpu n) g j → pointer_at w.setup (w.slab g).cache g j ≢ p
    cpu-apart n g j below some = let there = chain-exists w s.chains (x ∷ others) n g j s.placed s.listed below some in apart.objects g j there (away-cpus own n g j below there some)

    cpu-pointer : (n j : ℕ) → n < w.setup.cpu_words → 1 ≤ times j (s.chains.cpu n) → pointer (set_memory w p v) (n / 16) (w.cpu n).frame j ≡ pointer w (n / 16) (w.cpu n).frame j
    cpu-pointer n j below some =
        let c : 1 ≤ in_chain (w.cpu n).frame (s.chains.cpu n) (w.cpu n).frame j = (let h = in_chain-here (w.cpu n).frame (s.chains.cpu n) j in omega arith) in
        let there = chain-exists w s.chains (x ∷ others) n (w.cpu n).frame j s.placed s.listed below c in
        let real : (w.cpu n).frame ≢ 0 = λ z. absurd (let e = exists-none w s.chains j s.listed.shaped in let e' : 1 ≤ exists_at w 0 j = subst (λ g. 1 ≤ exists_at w g j) z there in omega arith) in
        let cache = (s.listed.shaped.current n below real).0 in
        pointer-other w p v (n / 16) (w.cpu n).frame j (subst (λ k. pointer_at w.setup k (w.cpu n).frame j ≢ p) cache (cpu-apart n (w.cpu n).frame j below c))
