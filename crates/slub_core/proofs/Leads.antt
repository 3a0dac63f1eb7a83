-- What the step of a spot leads to, on the table of words: all stands again and the account agrees, with the worker where the answer leads it and the others unchanged.
use Rattle.std.proofs.Common.{◌≡◌, ◌≢◌, ℕ, ◌<◌, ◌≤◌, true, List, ◌∷◌, length, subst, arith}
use Rattle.std.proofs.lemmas.List.Elements.{All-head}
use Rattle.slub_words.specs.declared.cpu.CpuWord.{CpuWord}
use Rattle.slub_words.specs.declared.slab.SlabWord.{SlabWord}
use Rattle.slub_cpu_partial.specs.declared.words.ListWord.{ListWord}
use Rattle.slub_core.specs.declared.spot.Spot.{Spot}
use Rattle.slub_core.specs.Setup.{Setup, IsPlain, IsChecked, node_lock, pool_lock}
use Rattle.slub_core.specs.Words.{word_count}
use Rattle.slub_core.specs.Listed.{home_of}
use Rattle.slub_core.specs.World.{World, LockValue, set_cpu, set_slab, set_list, world_from, world_of}
use Rattle.slub_core.specs.Local.{Local, Worker, here, nobody}
use Rattle.slub_core.specs.Ops.{own_cpu}
use Rattle.slub_core.specs.Spots.{in_plain, in_checked}
use Rattle.slub_core.specs.Steps.{step_at, advance_at}
use Rattle.slub_core.specs.Fresh.{IsAtWork}
use Rattle.slub_core.specs.Coherent.{Stands}
use Rattle.slub_core.specs.Accounted.{IsAccounted}
use Rattle.slub_core.proofs.Accounts.{Reaches}
use Rattle.slub_core.proofs.Locks.{ComesTo}
use Rattle.slub_core.proofs.Exists.{home-live}
use Rattle.slub_core.proofs.StepValues.{word-objects, object-within}
use Rattle.slub_core.proofs.ValueStep.{known-owned}
use Rattle.slub_core.proofs.Counts.{places-cons, homes-cons}
use Rattle.slub_core.proofs.Update.{update_same}
use Rattle.slub_core.proofs.Packed.{IsCpuFit, IsSlabFit, IsListFit}
use Rattle.slub_core.proofs.StepWords.{IsTable}
use Rattle.slub_core.proofs.WordSteps.{AfterStep}

abbrev pub Leads : World → Setup → (ℕ → LockValue) → List ℕ → Worker → List Worker → Spot → Type 0
Leads opening m value words x others spot = AfterStep m value words (step_at m value x.local spot) (λ v a. Reaches opening v others (advance_at m value x.local spot a))

abbrev pub AtSpot : Spot → Type 0
AtSpot spot = (opening : World) (m : Setup) (value : ℕ → LockValue) (words : List ℕ) (x : Worker) (others : List Worker) → IsTable m words → x.local.spot ≡ spot → Stands (world_of m value words) (x ∷ others)
    → IsAccounted opening (world_of m value words) (x ∷ others) → Leads opening m value words x others spot

pub at_work : (w : World) (x : Worker) (others : List Worker) → Stands w (x ∷ others) → IsAtWork w x
at_work w x others s = All-head (IsAtWork w) x others s.fresh.workers

-- the table of a machine at work
pub table : (m : Setup) (value : ℕ → LockValue) (words : List ℕ) (x : Worker) (others : List Worker) → length words ≡ word_count m → Stands (world_of m value words) (x ∷ others) → IsTable m words
unfolding world_of world_from
table m value words x others long s =
    let setup = s.fresh.setup in
    let number = (at_work (world_of m value words) x others s).spot.number in
    record { length = long; locks = setup.locks; cpu_words = setup.cpu_words; frames = let f = setup.frames in omega arith; objects = omega arith }

-- a word of the worker's cache is one of the table's
pub plain_here : (m : Setup) (value : ℕ → LockValue) (words : List ℕ) (x : Worker) (others : List Worker) → in_plain x.local.spot ≡ true → Stands (world_of m value words) (x ∷ others) → IsPlain m x.local.cache
unfolding world_of world_from
plain_here m value words x others is s = (at_work (world_of m value words) x others s).spot.plain is

pub checked_here : (m : Setup) (value : ℕ → LockValue) (words : List ℕ) (x : Worker) (others : List Worker) → in_checked x.local.spot ≡ true → Stands (world_of m value words) (x ∷ others) → IsChecked m x.local.cache
unfolding world_of world_from
checked_here m value words x others is s = (at_work (world_of m value words) x others s).spot.checked is

pub node_below : (m : Setup) {words : List ℕ} (cache : ℕ) → IsTable m words → cache < 32 → node_lock cache < m.locks
node_below m cache t below = let locks = t.locks in omega arith

pub pool_below : (m : Setup) {words : List ℕ} → IsTable m words → pool_lock < m.locks
pool_below m t = let locks = t.locks in omega arith

pub cpu_below : (m : Setup) (value : ℕ → LockValue) (words : List ℕ) (x : Worker) (others : List Worker) → IsTable m words → in_plain x.local.spot ≡ true → Stands (world_of m value words) (x ∷ others) → own_cpu x.local < m.cpu_words
unfolding world_of world_from
cpu_below m value words x others t is s =
    let ok = (at_work (world_of m value words) x others s).spot in
    let plain = (ok.plain is).0 in
    let cpu = ok.cpu in
    let room = s.fresh.setup.cpus in
    let all = t.cpu_words in
    omega arith

-- slabs are among the frames: by their word, where a worker has them in hand, and where it holds an object of them
pub slab_below : (w : World) (xs : List Worker) (f : ℕ) → Stands w xs → 1 ≤ (w.slab f).objects → f < w.setup.frames
slab_below w xs f s some = let e = word-objects w f some in s.listed.shaped.within f (omega arith)

pub home_below : (w : World) (x : Worker) (others : List Worker) (f : ℕ) → Stands w (x ∷ others) → f ≢ 0 → 1 ≤ home_of f x → f < w.setup.frames
home_below w x others f s real has = let h = homes-cons w s.chains x others f in slab_below w (x ∷ others) f s (home-live w s.chains (x ∷ others) f s.listed real (omega arith))

pub held_below : (w : World) (x : Worker) (others : List Worker) → Stands w (x ∷ others) → x.local.place < length x.local.known → (here x.local).held ≡ true → (here x.local).frame < w.setup.frames
held_below w x others s inside held =
    let has = known-owned x x.local.place nobody inside held in
    let f = (here x.local).frame in
    let i = (here x.local).index in
    let p = places-cons w s.chains x others f i in
    let o = s.placed.once f i in
    let within = object-within w f i (omega arith) in
    s.listed.shaped.within f (omega arith)

-- a word that stands in a machine where all stands is a word: so is one that a step leaves
pub cpu_fits : (w : World) (n : ℕ) (v : CpuWord) (others : List Worker) (l : Local) → ComesTo (set_cpu w n v) others l → IsCpuFit v
cpu_fits w n v others l c = subst IsCpuFit (update_same w.cpu n v) (c.2.fresh.worded.cpu n)

pub slab_fits : (w : World) (f : ℕ) (v : SlabWord) (others : List Worker) (l : Local) → ComesTo (set_slab w f v) others l → IsSlabFit v
slab_fits w f v others l c = subst IsSlabFit (update_same w.slab f v) (c.2.fresh.worded.slab f)

pub list_fits : (w : World) (n : ℕ) (v : ListWord) (others : List Worker) (l : Local) → ComesTo (set_list w n v) others l → IsListFit v
list_fits w n v others l c = subst IsListFit (update_same w.list n v) (c.2.fresh.worded.list n)
