-- At once: the head of a node list is popped, or the list is left.
use Rattle.std.proofs.Common.{◌≡◌, ℕ, suc, ◌+◌, ◌<◌, ◌≤◌, ◌==◌, true, List, [], ◌∷◌, length, refl, sym, ap, subst, arith, inl, inr}
use Rattle.std.specs.Prelude.{All}
use Rattle.std.proofs.lemmas.Bool.{cases_eq, cases_Bool, eq-eqb, false≢true}
use Rattle.std.proofs.lemmas.List.Elements.{All-head}
use Rattle.slub_common.specs.Times.{times}
use Rattle.slub_core.specs.declared.local.Known.{Known}
use Rattle.slub_core.specs.declared.spot.Spot.TheVariants.{InAlloc}
use Rattle.slub_core.specs.declared.spot.AllocSpot.TheVariants.{PopNode, LoadPopped, GiveNode}
use Rattle.slub_core.specs.Setup.{node_lock}
use Rattle.slub_core.specs.World.{World, LockValue, Node, set_value, cache_at, one_if, frames_in}
use Rattle.slub_core.specs.Local.{Worker, at, bare_hand, stays}
use Rattle.slub_core.specs.Alloc.{node_of, pop_node, asks_for_another, alloc_at_once}
use Rattle.slub_core.specs.Spots.{Popped, ready_of, roles}
use Rattle.slub_core.specs.Listed.{takes, IsStocked}
use Rattle.slub_core.specs.Fresh.{AreHands, AreHeld, IsWalk, IsAtWork}
use Rattle.slub_core.specs.Coherent.{Stands}
use Rattle.slub_core.proofs.StepHands.{in_chain-nil}
use Rattle.slub_core.proofs.Lists.{times-first}
use Rattle.slub_core.proofs.LocalStep.{local_step}
use Rattle.slub_core.proofs.Update.{term_le_sum}
use Rattle.slub_core.proofs.UnderLock.{Makes, node_step, stocked-within, known-same, locks-same}

leave-work : (w : World) (x : Worker) → x.local.spot ≡ InAlloc PopNode → IsAtWork w x → IsAtWork w (record x { local = at x.local (InAlloc GiveNode) })
leave-work w x is ok = grind arith

pub bare-walk : (f : ℕ) → IsWalk [] (bare_hand f)
bare-walk f = record { short = omega arith; last = λ some. absurd (omega arith); ended = λ e. absurd (false≢true e) }

pop-work : (w : World) (x : Worker) (f : ℕ) (n : ℕ) (v : LockValue) → x.local.spot ≡ InAlloc PopNode
    → AreHands (roles (InAlloc LoadPopped) (suc (length x.local.hands))) (bare_hand f ∷ x.local.hands) ([] ∷ x.chains)
    → AreHeld (set_value w n v) x.local.cache (roles (InAlloc LoadPopped) (suc (length x.local.hands))) (bare_hand f ∷ x.local.hands) ([] ∷ x.chains) 0
    → All (λ (k : Known). k.held ≡ true → k.cache ≡ cache_at (set_value w n v) k.frame) x.local.known
    → ((n : ℕ) → 1 ≤ takes n (record x { local = record x.local { hands = bare_hand f ∷ x.local.hands; spot = InAlloc LoadPopped }; chains = [] ∷ x.chains }) → w.lock n ≡ suc x.local.worker) → IsAtWork w x
    → IsAtWork (set_value w n v) (record x { local = record x.local { hands = bare_hand f ∷ x.local.hands; spot = InAlloc LoadPopped }; chains = [] ∷ x.chains })
pop-work w x f n v is hands held known locks ok = grind arith

popped-roles : (n : ℕ) → roles (InAlloc LoadPopped) (suc n) ≡ Popped ∷ ready_of n
popped-roles n = ap (λ k. Popped ∷ ready_of k) (omega arith)

pub at_PopNode : (w : World) (x : Worker) (others : List Worker) → x.local.spot ≡ InAlloc PopNode → Stands w (x ∷ others)
    → Makes w others (alloc_at_once w.setup w.value x.local PopNode)
at_PopNode w x others is s = by_list (node_of w.value x.local) refl
  where
    ok : IsAtWork w x
    ok = All-head (IsAtWork w) x others s.fresh.workers

    leaves : Makes w others (stays w.value (at x.local (InAlloc GiveNode)))
    leaves = (record x { local = at x.local (InAlloc GiveNode) }, refl, local_step w x _ others s (λ f i. refl) (record { home = λ f. refl; marked = λ f. rw is refl; covered = λ g. refl; takes = λ n. rw is refl }) (leave-work w x is ok))

    by_list : (fs : List ℕ) → node_of w.value x.local ≡ fs → Makes w others (pop_node w.setup w.value x.local fs)
    by_list [] e = leaves
    by_list (f ∷ fs) e = elim (cases_Bool (asks_for_another w.setup x.local)) [
      | inr enough ↦ rw enough leaves
      | inl asks ↦
          let plain = ok.spot.plain (rw is refl) in
          let count = s.fresh.setup.locks in
          let frames = s.fresh.setup.frames in
          let n = node_lock x.local.cache in
          let below : n < w.setup.locks = let c = plain.0 in omega arith in
          let first : (g : ℕ) → times g (node_of w.value x.local) ≡ one_if (f == g) + times g fs = λ g. rw e (times-first g f fs) in
          let none : times 0 (node_of w.value x.local) ≡ 0 = let a = s.listed.shaped.no_lists in let t = term_le_sum w.setup.locks (λ k. times 0 (frames_in (w.value k))) n below in omega arith in
          let stocked : (g : ℕ) → 1 ≤ times g (node_of w.value x.local) → IsStocked (w.slab g) x.local.cache = λ g some. s.listed.shaped.node x.local.cache g below some in
          let here : one_if (f == f) ≡ 1 = rw (eq-eqb f f refl) refl in
          let mine = stocked f (let a = first f in omega arith) in
          let in' = stocked-within w s.chains f x.local.cache s.listed.shaped mine in
          let real : 1 ≤ f = elim (cases_eq f 0) [ inl z ↦ absurd (let a = first 0 in let o : one_if (f == 0) ≡ 1 = rw (eq-eqb f 0 z) refl in omega arith) | inr d ↦ omega (arith, d) ] in
          let same : (k : ℕ) → takes k (record x { local = record x.local { hands = bare_hand f ∷ x.local.hands; spot = InAlloc LoadPopped }; chains = [] ∷ x.chains }) ≡ takes k x = λ k. rw is refl in
          let hands : AreHands (ready_of (length x.local.hands)) x.local.hands x.chains = rw is at ok.spot.hands in
          let held : AreHeld w x.local.cache (ready_of (length x.local.hands)) x.local.hands x.chains 0 = rw is at ok.seen.hands in
          rw asks (
            record x { local = record x.local { hands = bare_hand f ∷ x.local.hands; spot = InAlloc LoadPopped }; chains = [] ∷ x.chains },
            refl,
            node_step w x _ others fs s (rw is refl) (rw is refl) (let a = first 0 in omega arith) (λ g some. stocked g (let a = first g in omega arith))
                (λ g i. let c = in_chain-nil f g i in omega arith)
                (λ g. let a = first g in omega arith)
                (λ g. let a = first g in rw is (omega arith))
                (λ g. refl) same
                (λ slabs. pop-work w x f n (Node fs) is
                (subst (λ rs. AreHands rs (bare_hand f ∷ x.local.hands) ([] ∷ x.chains)) (sym (popped-roles (length x.local.hands))) (real, omega arith, omega arith, (refl, refl), bare-walk f, hands))
                (subst (λ rs. AreHeld (set_value w n (Node fs)) x.local.cache rs (bare_hand f ∷ x.local.hands) ([] ∷ x.chains) 0) (sym (popped-roles (length x.local.hands))) (refl, mine.owner, (mine.unfrozen, mine.head), held))
                (known-same w n (Node fs) x slabs ok) (locks-same w x (record x { local = record x.local { hands = bare_hand f ∷ x.local.hands; spot = InAlloc LoadPopped }; chains = [] ∷ x.chains }) refl same ok) ok),
          )
    ]
