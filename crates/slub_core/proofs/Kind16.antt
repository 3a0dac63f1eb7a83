-- Kind 16: a slab in hand becomes current, and its first object is given.
use Rattle.std.proofs.Common.{◌≡◌, ℕ, suc, ◌+◌, ◌-◌, ◌/◌, ◌^◌, ◌<◌, ◌≤◌, ◌==◌, true, List, [], ◌∷◌, get_or, set, refl, sym, ap, ◌∙◌, subst, arith, inl, inr}
use Rattle.std.specs.Prelude.{All, slice_index}
use Rattle.std.proofs.lemmas.Bool.{ne_eqb, eq-eqb, cond-true, cond-false}
use Rattle.std.proofs.lemmas.List.Elements.{All-head}
use Rattle.slub_common.specs.Times.{times}
use Rattle.slub_words.specs.declared.cpu.CpuWord.{CpuWord}
use Rattle.slub_core.specs.declared.local.Known.{Known}
use Rattle.slub_core.specs.declared.local.Hand.{Hand}
use Rattle.slub_core.specs.declared.step.Answer.TheVariants.{Won}
use Rattle.slub_core.specs.declared.spot.Spot.TheVariants.{Between, InAlloc}
use Rattle.slub_core.specs.declared.spot.AllocSpot.TheVariants.{Install}
use Rattle.slub_core.specs.World.{World, set_cpu, pointer, cache_at, exists_at, one_if, in_chain, Leads, IsChain}
use Rattle.slub_core.specs.Local.{Worker, nobody, gets, hand_of}
use Rattle.slub_core.specs.Ops.{own_cpu}
use Rattle.slub_core.specs.Alloc.{alloc_advance, installed_word, second_of}
use Rattle.slub_core.specs.Spots.{Loaded}
use Rattle.slub_core.specs.Placed.{held, owned, in_hands}
use Rattle.slub_core.specs.Listed.{home_of}
use Rattle.slub_core.specs.Fresh.{IsWalk, IsLoaded, AreHands, AreHeld, IsAtWork}
use Rattle.slub_core.specs.Coherent.{Stands}
use Rattle.slub_core.proofs.Chains.{IsChain-first, IsChain-from, IsChain-none, Leads-small}
use Rattle.slub_core.proofs.Changes.{own-word, grown}
use Rattle.slub_core.proofs.CpuStep.{cpu_step}
use Rattle.slub_core.proofs.Exists.{in_chain-cons, in_chain-here, hands-exist, object-small, exists_at-within}
use Rattle.slub_core.proofs.StepHands.{one-hand, in_chain-nil}
use Rattle.slub_core.proofs.Kind3.{given}
use Rattle.slub_core.proofs.Knowns.{held-gets, here-set, known-set}
use Rattle.slub_core.proofs.Lists.{times-first}
use Rattle.slub_core.proofs.Locks.{ComesTo}
use Rattle.slub_core.proofs.StepValues.{word-cache}

-- what was loaded of the first object is where the rest of the chain begins
second-is : (g : ℕ → ℕ) (h : Hand) (ys : List ℕ) → 1 ≤ h.head → IsLoaded h → IsWalk ((h.head - 1) ∷ ys) h → Leads g (g (h.head - 1)) ys 0 → second_of h ≡ g (h.head - 1)
second-is g h [] some (inl one) walk rest = cond-false (h.length == 2) h.last 0 (ne_eqb h.length 2 (let l = one.0 in λ e. absurd (omega arith))) ∙ sym rest
second-is g h (y ∷ ys) some (inl one) walk rest = absurd (let l = one.0 in let e = (walk.ended one.1).0 in omega arith)
second-is g h [] some (inr two) walk rest = absurd (let l = two.0 in let s = walk.short in omega arith)
second-is g h (y ∷ ys) some (inr two) walk rest =
    let l = two.0 in
    let last : h.last ≡ suc (slice_index ((h.head - 1) ∷ y ∷ ys) (2 - 1)) = rw l at (walk.last (omega arith)) in
    cond-true (h.length == 2) h.last 0 (eq-eqb h.length 2 l) ∙ last ∙ sym rest.0

owned-one : (x : Worker) (h : Hand) (xs : List ℕ) (f i : ℕ) → x.local.hands ≡ h ∷ [] → x.chains ≡ xs ∷ [] → owned f i x ≡ held f i x.local + in_chain h.frame xs f i
owned-one x h xs f i one chain = rw (one, chain) (omega arith)

home-one : (x : Worker) (h : Hand) (f : ℕ) → x.local.hands ≡ h ∷ [] → home_of f x ≡ one_if (h.frame == f) + times f x.string
home-one x h f one = rw one (omega arith)

installed-work : (w : World) (x : Worker) (n : ℕ) (v : CpuWord) (h : Hand) (frame index : ℕ) → x.local.spot ≡ InAlloc Install → x.local.hands ≡ h ∷ []
    → get_or (set x.local.known x.local.place (given x.local frame index)) x.local.place nobody ≡ given x.local frame index
    → All (λ (k : Known). k.held ≡ true → k.cache ≡ cache_at w k.frame) (set x.local.known x.local.place (given x.local frame index)) → IsAtWork w x
    → IsAtWork (set_cpu w n v) (record x { local = record (gets x.local x.local.cache frame index) { hands = []; spot = Between }; chains = [] })
installed-work w x n v h frame index is one now caches ok = grind arith

pub at_Install-won : (w : World) (x : Worker) (others : List Worker) → x.local.spot ≡ InAlloc Install → w.cpu (own_cpu x.local) ≡ x.local.cpu_word → Stands w (x ∷ others)
    → ComesTo (set_cpu w (own_cpu x.local) (installed_word w.setup x.local)) others (alloc_advance w.setup x.local Install Won).local
at_Install-won w x others is won s =
    let ok = All-head (IsAtWork w) x others s.fresh.workers in
    let r = one-hand Loaded x.local.hands x.chains (rw is at ok.spot.hands) in
    by_hand r.0 r.1 r.2 r.3 ok
  where
    by_hand : (h : Hand) (xs : List ℕ) → x.local.hands ≡ h ∷ [] → x.chains ≡ xs ∷ [] → IsAtWork w x
        → ComesTo (set_cpu w (own_cpu x.local) (installed_word w.setup x.local)) others (alloc_advance w.setup x.local Install Won).local
    by_hand h xs one chain ok =
        let n = own_cpu x.local in
        let c = x.local.cpu_word in
        let own = own-word w x others s (rw is refl) in
        let room = ok.spot.awaits (rw is refl) in
        let hands : AreHands (Loaded ∷ []) (h ∷ []) (xs ∷ []) = rw (is, one, chain) at ok.spot.hands in
        let held : AreHeld w x.local.cache (Loaded ∷ []) (h ∷ []) (xs ∷ []) 0 = rw (is, one, chain) at ok.seen.hands in
        let some = hands.3.0 in
        let first = IsChain-first (pointer w x.local.cache h.frame) h.head xs some held.0 in
        let ys = first.0 in
        let there : (j : ℕ) → 1 ≤ times j xs → 1 ≤ exists_at w h.frame j = λ j has.
        let e = All-head (λ (o : Worker). in_hands h.frame j o.local.hands o.chains ≤ exists_at w h.frame j) x others (hands-exist w s.chains (x ∷ others) h.frame j s.placed s.listed) in
        let e' : in_chain h.frame xs h.frame j + 0 ≤ exists_at w h.frame j = rw (one, chain) at e in
        let k = in_chain-here h.frame xs j in
        omega arith in
        let members : (j : ℕ) → times j xs ≡ times j ((h.head - 1) ∷ ys) = λ j. ap (times j) first.1 in
        let head_there : 1 ≤ exists_at w h.frame (h.head - 1) = there (h.head - 1) (let t = times-first (h.head - 1) (h.head - 1) ys in let o : one_if ((h.head - 1) == (h.head - 1)) ≡ 1 = rw (eq-eqb (h.head - 1) (h.head - 1) refl) refl in let m = members (h.head - 1) in omega arith) in
        let second : second_of h ≡ pointer w x.local.cache h.frame (h.head - 1) = second-is (pointer w x.local.cache h.frame) h ys some hands.3.1 (rw first.1 at hands.4) first.2 in
        let small : pointer w x.local.cache h.frame (h.head - 1) < 2 ^ 16 = Leads-small (pointer w x.local.cache h.frame) (pointer w x.local.cache h.frame (h.head - 1)) ys
        (λ j has. object-small w (x ∷ others) h.frame j s (there j (let t = times-first j (h.head - 1) ys in let m = members j in omega arith))) first.2 in
        let live : 1 ≤ (w.slab h.frame).objects = (let b = exists_at-within w h.frame (h.head - 1) head_there in omega arith) in
        let frame = ap (λ (c : CpuWord). c.frame) won in
        let none : (w.cpu n).frame ≡ 0 = frame ∙ (ok.spot.noted.none (rw is refl)).0 in
        let nil = IsChain-none (pointer w (n / 16) (w.cpu n).frame) (w.cpu n).head (s.chains.cpu n) (s.listed.shaped.bare n own.0 none) (s.placed.cpu_chain n own.0) in
        let hand : hand_of x.local ≡ h = rw one refl in
        let v : CpuWord = record { tid = c.tid + w.setup.step; frame = h.frame; head = second_of h } in
        let same : installed_word w.setup x.local ≡ v = ap (λ (g : Hand). record { tid = c.tid + w.setup.step; frame = g.frame; head = second_of g }) hand in
        let z : Worker = record x { local = record (gets x.local x.local.cache h.frame (h.head - 1)) { hands = []; spot = Between }; chains = [] } in (
          z,
          rw one refl,
          subst (λ u. Stands (set_cpu w n u) (z ∷ others)) (sym same)
              (cpu_step w x z others n v ys s own.0
              (grown w n c h.frame (second_of h) s.fresh.setup won (ok.spot.noted.step (rw is refl)) (λ _. ok.spot.noted.fresh (rw is refl)) hands.1 (rw second small) (λ _. (held.1 ∙ sym own.1, held.2)) (λ zero. absurd (let real = hands.0 in omega arith)))
              (subst (λ k. IsChain (pointer w k h.frame) (second_of h) ys) (sym own.1) (IsChain-from (pointer w x.local.cache h.frame) (pointer w x.local.cache h.frame (h.head - 1)) (second_of h) ys second first.2))
              (λ f i.
              let had = owned-one x h xs f i one chain in
              let now = held-gets f i x.local x.local.cache h.frame (h.head - 1) room.0 room.1 in
              let split = in_chain-cons h.frame (h.head - 1) ys f i in
              let mine : in_chain h.frame xs f i ≡ in_chain h.frame ((h.head - 1) ∷ ys) f i = ap (λ zs. in_chain h.frame zs f i) first.1 in
              let was : in_chain (w.cpu n).frame (s.chains.cpu n) f i ≡ 0 = ap (λ zs. in_chain (w.cpu n).frame zs f i) nil ∙ in_chain-nil (w.cpu n).frame f i in
              omega arith)
              (λ f real. let had = home-one x h f one in let e : one_if ((w.cpu n).frame == f) ≡ 0 = rw (ne_eqb (w.cpu n).frame f (λ e. real (sym e ∙ none))) refl in omega arith)
              (λ f. rw is refl) (λ g. refl) (λ k. rw is refl)
              (installed-work w x n v h h.frame (h.head - 1) is one (here-set x.local (given x.local h.frame (h.head - 1)) room.0)
              (known-set w x.local.known x.local.place (given x.local h.frame (h.head - 1)) (λ _. sym (word-cache w h.frame live ∙ held.1)) ok.seen.known) ok)),
        )
