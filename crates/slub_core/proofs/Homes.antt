-- What the counts of slabs and locks give: what is one worker's is no other's.
use Rattle.std.proofs.Common.{◌≡◌, ◌≢◌, ℕ, ◌+◌, ◌<◌, ◌≤◌, ◌==◌, Bool, true, false, cond, List, [], ◌∷◌, length, get_or, refl, arith, inl, inr}
use Rattle.std.specs.Prelude.{All, sum_by, nat_lt, slice_index_or}
use Rattle.std.proofs.lemmas.List.Sums.{sum_by-cons}
use Rattle.std.proofs.lemmas.Bool.{cases_Bool, eq-eqb, ne_eqb, false≢true}
use Rattle.std.proofs.lemmas.List.Elements.{All-head, All-tail}
use Rattle.slub_common.specs.Times.{times}
use Rattle.slub_core.specs.declared.local.Hand.{Hand}
use Rattle.slub_words.specs.declared.slab.SlabWord.{SlabWord}
use Rattle.slub_core.specs.declared.spot.Spot.{Spot}
use Rattle.slub_core.specs.declared.spot.Spot.TheVariants.{InAlloc, InPutAway, InDiscard, InMoveSet}
use Rattle.slub_core.specs.declared.spot.AllocSpot.TheVariants.{LoadPopped, FreezePopped, Unlist}
use Rattle.slub_core.specs.declared.spot.PutAwaySpot.TheVariants.{PutNode}
use Rattle.slub_core.specs.declared.spot.DiscardSpot.TheVariants.{Unmake}
use Rattle.slub_core.specs.declared.spot.MoveSetSpot.TheVariants.{PutTail}
use Rattle.slub_core.specs.Setup.{Setup}
use Rattle.slub_core.specs.World.{World, Chains, live, off_list, one_if, sum_below, frames_in}
use Rattle.slub_core.specs.Local.{Worker, no_hand}
use Rattle.slub_core.specs.Spots.{is_marked, roles}
use Rattle.slub_core.specs.Listed.{home_of, hands_count, marked_of, on_lists, takes}
use Rattle.slub_core.specs.Fresh.{AreHands, IsAtSpot, IsAtWork}
use Rattle.slub_core.specs.Coherent.{Stands}
use Rattle.slub_core.proofs.Counts.{All-from_no_sum, homes-cons}
use Rattle.slub_core.proofs.Update.{term_le_sum}

one-most : (b : Bool) → one_if b ≤ 1
one-most true = omega arith
one-most false = omega arith

pub live-most : (s : SlabWord) → live s ≤ 1
live-most s = one-most (nat_lt 0 s.objects)

-- a slab that is in the worker's hand, or on no list, is in no other's hand
pub mine-alone : (w : World) (x : Worker) (others : List Worker) (f : ℕ) → Stands w (x ∷ others) → f ≢ 0 → 1 ≤ home_of f x + off_list (w.slab f) → All (λ o. home_of f o ≡ 0) others
mine-alone w x others f s some mine =
    let split = homes-cons w s.chains x others f in
    let once = s.listed.once f some in
    let one = live-most (w.slab f) in
    All-from_no_sum (home_of f) others (omega arith)

-- a lock that is free, or the worker's, is no other's
pub lock-alone : (w : World) (x : Worker) (others : List Worker) (n : ℕ) → Stands w (x ∷ others) → n < w.setup.locks → 1 ≤ takes n x + one_if (w.lock n == 0) → All (λ o. takes n o ≡ 0) others
lock-alone w x others n s below mine =
    let split = sum_by-cons (takes n) x others in
    let once = s.listed.locked n below in
    All-from_no_sum (takes n) others (omega arith)

-- a slab in hand is counted
pub hand-home : (f : ℕ) (hs : List Hand) → 1 ≤ length hs → (get_or hs 0 no_hand).frame ≡ f → 1 ≤ hands_count f hs
hand-home f [] some e = absurd (omega arith)
hand-home f (h ∷ hs) some e = let o : one_if (h.frame == f) ≡ 1 = rw (eq-eqb h.frame f e) refl in omega arith

-- so is one that is current, on a partial list or on a node list
pub on-cpu : (w : World) (n : ℕ) → n < w.setup.cpu_words → 1 ≤ sum_below w.setup.cpu_words (λ k. one_if ((w.cpu k).frame == (w.cpu n).frame))
on-cpu w n below =
    let t = term_le_sum w.setup.cpu_words (λ k. one_if ((w.cpu k).frame == (w.cpu n).frame)) n below in
    let o : one_if ((w.cpu n).frame == (w.cpu n).frame) ≡ 1 = rw (eq-eqb (w.cpu n).frame (w.cpu n).frame refl) refl in
    omega arith

pub on-list : (w : World) (y : Chains) (n f : ℕ) → n < w.setup.cpu_words → 1 ≤ times f (y.list n) → 1 ≤ on_lists w y f
on-list w y n f below some = let t = term_le_sum w.setup.cpu_words (λ k. times f (y.list k)) n below in omega arith

pub on-node : (w : World) (y : Chains) (n f : ℕ) → n < w.setup.locks → 1 ≤ times f (frames_in (w.value n)) → 1 ≤ on_lists w y f
on-node w y n f below some = let t = term_le_sum w.setup.locks (λ k. times f (frames_in (w.value k))) n below in omega arith

-- ---- marks

has-hand : (s : Spot) (n : ℕ) (xss : List (List ℕ)) → is_marked s ≡ true → AreHands (roles s n) [] xss → ⊥
has-hand (InAlloc LoadPopped) n [] is ok = ok
has-hand (InAlloc LoadPopped) n (xs ∷ xss) is ok = ok
has-hand (InAlloc FreezePopped) n [] is ok = ok
has-hand (InAlloc FreezePopped) n (xs ∷ xss) is ok = ok
has-hand (InAlloc Unlist) n [] is ok = ok
has-hand (InAlloc Unlist) n (xs ∷ xss) is ok = ok
has-hand (InPutAway PutNode away) n [] is ok = ok
has-hand (InPutAway PutNode away) n (xs ∷ xss) is ok = ok
has-hand (InDiscard Unmake discard) n [] is ok = ok
has-hand (InDiscard Unmake discard) n (xs ∷ xss) is ok = ok
has-hand (InMoveSet PutTail move) n [] is ok = ok
has-hand (InMoveSet PutTail move) n (xs ∷ xss) is ok = ok
has-hand _ n xss is ok = false≢true is

hand-le : (f : ℕ) (hs : List Hand) → 1 ≤ length hs → one_if ((slice_index_or hs 0 no_hand).frame == f) ≤ hands_count f hs
hand-le f [] some = absurd (omega arith)
hand-le f (h ∷ hs) some = omega arith

-- a slab in hand that is marked is in hand
pub marked-home : (f : ℕ) (m : Setup) (x : Worker) → IsAtSpot m x → marked_of f x ≤ home_of f x
marked-home f m x ok = elim (cases_Bool (is_marked x.local.spot)) [
  | inl e ↦ rw e (let h = hand-le f x.local.hands (some-hand x.local.hands ok.hands e) in omega arith)
  | inr e ↦ rw e (omega arith)
]
  where
    some-hand : (hs : List Hand) → AreHands (roles x.local.spot (length x.local.hands)) hs x.chains → is_marked x.local.spot ≡ true → 1 ≤ length hs
    some-hand [] ok e = absurd (has-hand x.local.spot (length x.local.hands) x.chains e ok)
    some-hand (h ∷ hs) ok e = omega arith

-- the mark of a slab that is a worker's is as its spot has it
pub mine-marked : (w : World) (x : Worker) (others : List Worker) (f : ℕ) → Stands w (x ∷ others) → f ≢ 0 → 1 ≤ home_of f x → one_if (w.slab f).listed ≡ marked_of f x
mine-marked w x others f s some mine =
    let split = homes-cons w s.chains x others f in
    let once = s.listed.once f some in
    let one = live-most (w.slab f) in
    let a = sum_by-cons (marked_of f) x others in
    let b = s.listed.marked f in
    let none = sum-none (marked_of f) others (λ k d below. let h = mine-alone w x others f s some (omega arith) k d below in let m = marked-home f w.setup (get_or others k d) (All-tail (IsAtWork w) x others s.fresh.workers k d below).spot in omega arith) in
    omega arith
  where
    sum-none : (g : Worker → ℕ) (xs : List Worker) → All (λ o. g o ≡ 0) xs → sum_by g xs ≡ 0
    sum-none g [] all = refl
    sum-none g (o ∷ os) all = let e = sum_by-cons g o os in let h = All-head (λ o. g o ≡ 0) o os all in let r = sum-none g os (All-tail (λ o. g o ≡ 0) o os all) in omega arith

-- a slab with an object to give is to be on a list
pub off-some : (s : SlabWord) → 1 ≤ s.head → off_list s ≡ 0
off-some s some =
    let d : s.head ≡ 0 → ⊥ = λ e. absurd (omega arith) in
    rw (ne_eqb s.head 0 d) (both s.frozen s.listed)
  where
    both : (a b : Bool) → ◌≡◌ {A = ℕ} (cond a 0 (cond b 0 0)) 0
    both true b = refl
    both false true = refl
    both false false = refl
