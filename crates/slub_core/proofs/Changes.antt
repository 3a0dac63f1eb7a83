-- What an exchange of a CPU word that is won has in common with others, and lost ones.
use Rattle.std.proofs.Common.{◌≡◌, ◌≢◌, ℕ, ◌+◌, ◌*◌, ◌/◌, ◌%◌, ◌^◌, ◌<◌, true, List, ◌∷◌, refl, sym, ap, ◌∙◌, subst, arith}
use Rattle.std.proofs.Math.Nat.{add-mod_right}
use Rattle.std.proofs.lemmas.Bool.{cond_both}
use Rattle.std.proofs.lemmas.List.Elements.{All-head}
use Rattle.slub_words.specs.declared.cpu.CpuWord.{CpuWord}
use Rattle.slub_core.specs.declared.step.Answer.TheVariants.{Lost}
use Rattle.slub_core.specs.declared.spot.Spot.TheVariants.{Between, InAlloc, InFree, InOffline}
use Rattle.slub_core.specs.declared.spot.AllocSpot.TheVariants.{LoadCpu, Pop, Detach, LoadAgain, DetachOther, Install}
use Rattle.slub_core.specs.declared.spot.FreeSpot.TheVariants.{LoadOwn, Push}
use Rattle.slub_core.specs.declared.spot.Sweep.{Sweep}
use Rattle.slub_core.specs.declared.spot.OfflineSpot.TheVariants.{LoadCurrent, DetachCurrent}
use Rattle.slub_core.specs.Setup.{IsSetup}
use Rattle.slub_core.specs.World.{World, in_chain}
use Rattle.slub_core.specs.Local.{Worker, at}
use Rattle.slub_core.specs.Ops.{own_cpu}
use Rattle.slub_core.specs.Spots.{in_plain}
use Rattle.slub_core.specs.Alloc.{alloc_advance, way_of_lost}
use Rattle.slub_core.specs.Free.{free_advance}
use Rattle.slub_core.specs.Offline.{offline_advance}
use Rattle.slub_core.specs.Fresh.{IsAtWork}
use Rattle.slub_core.specs.Coherent.{Stands}
use Rattle.slub_core.proofs.CpuStep.{IsNextWord}
use Rattle.slub_core.proofs.LocalStep.{local_step}
use Rattle.slub_core.proofs.Locks.{ComesTo}

-- the CPU word of a call is one of the words, and of the call's cache
pub own-word : (w : World) (x : Worker) (others : List Worker) → Stands w (x ∷ others) → in_plain x.local.spot ≡ true → (own_cpu x.local < w.setup.cpu_words) × (own_cpu x.local / 16 ≡ x.local.cache)
own-word w x others s is =
    let ok = All-head (IsAtWork w) x others s.fresh.workers in
    let plain = ok.spot.plain is in
    let cpu = ok.spot.cpu in
    let few = s.fresh.setup.cpus in
    let words = s.fresh.setup.cpu_words in
    (omega arith, omega arith)

-- the next word of a CPU
pub grown : (w : World) (n : ℕ) (c : CpuWord) (frame head : ℕ) → IsSetup w.setup → w.cpu n ≡ c → c.tid + w.setup.step < 2 ^ 32 → (frame ≢ 0 → c.tid + 2 * w.setup.step < 2 ^ 32) → frame < 2 ^ 16 → head < 2 ^ 16
    → (frame ≢ 0 → ((w.slab frame).cache ≡ n / 16) × ((w.slab frame).frozen ≡ true)) → (frame ≡ 0 → head ≡ 0) → IsNextWord w n (record { tid = c.tid + w.setup.step; frame = frame; head = head })
grown w n c frame head setup won more room small small' slab bare =
    let t = ap (λ (c : CpuWord). c.tid) won in
    record {
      fits = (more, small, small');
      grows = (let p = setup.step in let q = setup.cpus in omega arith);
      remainder = add-mod_right c.tid w.setup.step ∙ ap (λ t. t % w.setup.step) (sym t);
      room = λ some. let r = room some in omega arith;
      slab = slab;
      bare = bare;
    }

pub in_chain-same : (c d : CpuWord) (xs ys : List ℕ) (f i : ℕ) → c ≡ d → xs ≡ ys → in_chain c.frame xs f i ≡ in_chain d.frame ys f i
in_chain-same c d xs ys f i e h = rw (e, h) refl

-- the current slab is frozen, and of the word's cache
pub current-slab : (w : World) (x : Worker) (others : List Worker) → Stands w (x ∷ others) → in_plain x.local.spot ≡ true → w.cpu (own_cpu x.local) ≡ x.local.cpu_word → x.local.cpu_word.frame ≢ 0
    → ((w.slab x.local.cpu_word.frame).cache ≡ own_cpu x.local / 16) × ((w.slab x.local.cpu_word.frame).frozen ≡ true)
current-slab w x others s is won some =
    let n = own_cpu x.local in
    let frame = ap (λ (c : CpuWord). c.frame) won in
    subst (λ f. ((w.slab f).cache ≡ n / 16) × ((w.slab f).frozen ≡ true)) frame (s.listed.shaped.current n (own-word w x others s is).0 (λ z. some (sym frame ∙ z)))

-- ---- an exchange that is lost begins again

lost_pop-work : (w : World) (x : Worker) → x.local.spot ≡ InAlloc Pop → IsAtWork w x → IsAtWork w (record x { local = at x.local (InAlloc LoadCpu) })
lost_pop-work w x is ok = grind arith

lost_try-work : (w : World) (x : Worker) → x.local.spot ≡ InAlloc Pop → IsAtWork w x → IsAtWork w (record x { local = at x.local Between })
lost_try-work w x is ok = grind arith

pub at_Pop-lost : (w : World) (x : Worker) (others : List Worker) (word : ℕ) → x.local.spot ≡ InAlloc Pop → Stands w (x ∷ others)
    → ComesTo w others (alloc_advance w.setup x.local Pop (Lost word)).local
at_Pop-lost w x others word is s =
    let ok = All-head (IsAtWork w) x others s.fresh.workers in (
      record x { local = at x.local (way_of_lost x.local.fast) },
      refl,
      cond_both x.local.fast Between (InAlloc LoadCpu) (λ spot. Stands w (record x { local = at x.local spot } ∷ others))
          (λ _. local_step w x _ others s (λ f i. refl) (record { home = λ f. refl; marked = λ f. rw is refl; covered = λ g. refl; takes = λ k. rw is refl }) (lost_try-work w x is ok))
          (λ _. local_step w x _ others s (λ f i. refl) (record { home = λ f. refl; marked = λ f. rw is refl; covered = λ g. refl; takes = λ k. rw is refl }) (lost_pop-work w x is ok)),
    )

lost_detach-work : (w : World) (x : Worker) → x.local.spot ≡ InAlloc Detach → IsAtWork w x → IsAtWork w (record x { local = at x.local (InAlloc LoadCpu) })
lost_detach-work w x is ok = grind arith

pub at_Detach-lost : (w : World) (x : Worker) (others : List Worker) (word : ℕ) → x.local.spot ≡ InAlloc Detach → Stands w (x ∷ others)
    → ComesTo w others (alloc_advance w.setup x.local Detach (Lost word)).local
at_Detach-lost w x others word is s =
    (record x { local = at x.local (InAlloc LoadCpu) }, refl, local_step w x _ others s (λ f i. refl) (record { home = λ f. refl; marked = λ f. rw is refl; covered = λ g. refl; takes = λ k. rw is refl }) (lost_detach-work w x is (All-head (IsAtWork w) x others s.fresh.workers)))

lost_other-work : (w : World) (x : Worker) → x.local.spot ≡ InAlloc DetachOther → IsAtWork w x → IsAtWork w (record x { local = at x.local (InAlloc LoadAgain) })
lost_other-work w x is ok = grind arith

pub at_DetachOther-lost : (w : World) (x : Worker) (others : List Worker) (word : ℕ) → x.local.spot ≡ InAlloc DetachOther → Stands w (x ∷ others)
    → ComesTo w others (alloc_advance w.setup x.local DetachOther (Lost word)).local
at_DetachOther-lost w x others word is s =
    (record x { local = at x.local (InAlloc LoadAgain) }, refl, local_step w x _ others s (λ f i. refl) (record { home = λ f. refl; marked = λ f. rw is refl; covered = λ g. refl; takes = λ k. rw is refl }) (lost_other-work w x is (All-head (IsAtWork w) x others s.fresh.workers)))

lost_install-work : (w : World) (x : Worker) → x.local.spot ≡ InAlloc Install → IsAtWork w x → IsAtWork w (record x { local = at x.local (InAlloc LoadAgain) })
lost_install-work w x is ok = grind arith

pub at_Install-lost : (w : World) (x : Worker) (others : List Worker) (word : ℕ) → x.local.spot ≡ InAlloc Install → Stands w (x ∷ others)
    → ComesTo w others (alloc_advance w.setup x.local Install (Lost word)).local
at_Install-lost w x others word is s =
    (record x { local = at x.local (InAlloc LoadAgain) }, refl, local_step w x _ others s (λ f i. refl) (record { home = λ f. refl; marked = λ f. rw is refl; covered = λ g. refl; takes = λ k. rw is refl }) (lost_install-work w x is (All-head (IsAtWork w) x others s.fresh.workers)))

lost_push-work : (w : World) (x : Worker) → x.local.spot ≡ InFree Push → IsAtWork w x → IsAtWork w (record x { local = at x.local (InFree LoadOwn) })
lost_push-work w x is ok = grind arith

pub at_Push-lost : (w : World) (x : Worker) (others : List Worker) (word : ℕ) → x.local.spot ≡ InFree Push → Stands w (x ∷ others)
    → ComesTo w others (free_advance w.setup x.local Push (Lost word)).local
at_Push-lost w x others word is s =
    (record x { local = at x.local (InFree LoadOwn) }, refl, local_step w x _ others s (λ f i. refl) (record { home = λ f. refl; marked = λ f. rw is refl; covered = λ g. refl; takes = λ k. rw is refl }) (lost_push-work w x is (All-head (IsAtWork w) x others s.fresh.workers)))

lost_current-work : (w : World) (x : Worker) (sweep : Sweep) → x.local.spot ≡ InOffline DetachCurrent sweep → IsAtWork w x → IsAtWork w (record x { local = at x.local (InOffline LoadCurrent sweep) })
lost_current-work w x sweep is ok = grind arith

pub at_DetachCurrent-lost : (w : World) (x : Worker) (others : List Worker) (sweep : Sweep) (word : ℕ) → x.local.spot ≡ InOffline DetachCurrent sweep → Stands w (x ∷ others)
    → ComesTo w others (offline_advance w.setup x.local DetachCurrent sweep (Lost word)).local
at_DetachCurrent-lost w x others sweep word is s =
    (record x { local = at x.local (InOffline LoadCurrent sweep) }, refl, local_step w x _ others s (λ f i. refl) (record { home = λ f. refl; marked = λ f. rw is refl; covered = λ g. refl; takes = λ k. rw is refl }) (lost_current-work w x sweep is (All-head (IsAtWork w) x others s.fresh.workers)))
