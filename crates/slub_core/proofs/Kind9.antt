-- Kinds 9 and 10: an object is freed into its slab, in place or under the node lock; a full slab is taken in hand by it.
use Rattle.std.proofs.Common.{◌≡◌, ◌≢◌, ℕ, zero, suc, ◌+◌, ◌-◌, ◌^◌, ◌<◌, ◌≤◌, ◌==◌, ◌&&◌, not, true, false, List, [], ◌∷◌, length, get_or, set, refl, sym, ap, ◌∙◌, subst, arith, add-one, inl, inr}
use Rattle.std.specs.Prelude.{All, sum_by}
use Rattle.std.proofs.lemmas.Bool.{cases_eq, cases_Bool, eq-eqb, ne_eqb, lt-ltb, eqb-true, eqb-false, and_parts, and_cases, not-true, not-false, false≢true, false_from_ne_true}
use Rattle.std.proofs.lemmas.List.Sums.{sum_by-cons}
use Rattle.std.proofs.lemmas.List.Elements.{All-head, All-tail}
use Rattle.slub_common.specs.Times.{times}
use Rattle.slub_words.specs.declared.slab.SlabWord.{SlabWord}
use Rattle.slub_core.specs.declared.local.Known.{Known}
use Rattle.slub_core.specs.declared.local.Hand.{Hand}
use Rattle.slub_core.specs.declared.step.Answer.TheVariants.{Won}
use Rattle.slub_core.specs.declared.spot.Spot.{Spot}
use Rattle.slub_core.specs.declared.spot.Spot.TheVariants.{Between, InAlloc, InPutAway, InDiscard, InFree, InMoveSet}
use Rattle.slub_core.specs.declared.spot.AllocSpot.TheVariants.{LoadPopped, FreezePopped, Unlist}
use Rattle.slub_core.specs.declared.spot.PutAwaySpot.TheVariants.{PutNode}
use Rattle.slub_core.specs.declared.spot.DiscardSpot.TheVariants.{Unmake}
use Rattle.slub_core.specs.declared.spot.MoveSetSpot.TheVariants.{PutTail}
use Rattle.slub_core.specs.declared.spot.FreeSpot.TheVariants.{FreeSlab, FreeLocked, LoadCount, TakeOff}
use Rattle.slub_core.specs.Setup.{Setup, node_lock}
use Rattle.slub_core.specs.World.{World, LockValue, Nothing, Node, Checked, Pool, set_slab, pointer, cache_at, object_at, exists_at, one_if, sum_below, is_at, off_list, frames_in, IsChain}
use Rattle.slub_core.specs.Local.{Local, Worker, here, nobody, no_hand, hand_of, at, loses, bare_hand}
use Rattle.slub_core.specs.Alloc.{node_of}
use Rattle.slub_core.specs.Free.{free_advance, freed_word, is_last_listed, was_full}
use Rattle.slub_core.specs.Spots.{Role, Ready, Popped, Kept, Loose, ready_of, beside_away, beside_discard, beside_move, roles, frees, is_marked, has_node}
use Rattle.slub_core.specs.Placed.{owned}
use Rattle.slub_core.specs.Listed.{marked_of, takes, IsGuarded}
use Rattle.slub_core.specs.Fresh.{AreHands, AreHeld, IsEmptied, IsAtWork, end_of}
use Rattle.slub_core.specs.Coherent.{Stands}
use Rattle.slub_core.proofs.Chains.{IsChain-from}
use Rattle.slub_core.proofs.Exists.{owned-object, exists-none, object-small}
use Rattle.slub_core.proofs.StepHands.{in_chain-nil}
use Rattle.slub_core.proofs.Homes.{off-some, lock-alone}
use Rattle.slub_core.proofs.Kind18.{known-kept}
use Rattle.slub_core.proofs.Knowns.{held-loses, here-set, known-set}
use Rattle.slub_core.proofs.Lists.{times-first}
use Rattle.slub_core.proofs.Loads.{freed-object}
use Rattle.slub_core.proofs.Locks.{ComesTo, one-self}
use Rattle.slub_core.proofs.PopNode.{bare-walk}
use Rattle.slub_core.proofs.SlabStep.{keeps_marks, is_mine, slab_step}
use Rattle.slub_core.proofs.Update.{update_same}
use Rattle.slub_core.proofs.StepValues.{word-objects}

-- the object that it holds no more
abbrev lost : Local → Known
lost l = record (here l) { held = false }

-- what a free finds
record IsFreed (w : World) (x : Worker) (v : SlabWord) (own : List ℕ) : Type 0 where
  real : (here x.local).frame ≢ 0
  alive : 1 ≤ (w.slab (here x.local).frame).objects
  owner : x.local.cache ≡ (w.slab (here x.local).frame).cache
  fits : (v.head < 2 ^ 16) × (v.inuse < 2 ^ 16)
  cache : v.cache ≡ (w.slab (here x.local).frame).cache
  objects : v.objects ≡ (w.slab (here x.local).frame).objects
  counted : v.inuse + length ((here x.local).index ∷ own) ≡ v.objects
  marks : v.listed ≡ true → (1 ≤ v.head) × (v.frozen ≡ false)
  chain : IsChain (pointer w (w.slab (here x.local).frame).cache (here x.local).frame) v.head ((here x.local).index ∷ own)

freed : (w : World) (x : Worker) (others : List Worker) (s : Stands w (x ∷ others)) → frees x.local.spot ≡ true → w.slab (here x.local).frame ≡ x.local.slab_word → 1 ≤ x.local.slab_word.inuse
    → pointer w (here x.local).cache (here x.local).frame (here x.local).index ≡ x.local.slab_word.head
    → IsFreed w x (freed_word x.local) (s.chains.own (here x.local).frame)
freed w x others s is won used linked =
    let ok = All-head (IsAtWork w) x others s.fresh.workers in
    let k = here x.local in
    let f = k.frame in
    let v = freed_word x.local in
    let own = s.chains.own f in
    let mine = ok.spot.frees is in
    let object = freed-object w x others s is in
    let all = All-head (λ o. owned f k.index o ≤ object_at w f k.index) x others (owned-object w s.chains (x ∷ others) f k.index s.placed) in
    let there : 1 ≤ exists_at w f k.index = (let e = object.0.exists in let o = object.1 in omega arith) in
    let head : (w.slab f).head ≡ x.local.slab_word.head = ap (λ (u : SlabWord). u.head) won in
    let inuse : (w.slab f).inuse ≡ x.local.slab_word.inuse = ap (λ (u : SlabWord). u.inuse) won in
    let objects : (w.slab f).objects ≡ x.local.slab_word.objects = ap (λ (u : SlabWord). u.objects) won in
    let small = object-small w (x ∷ others) f k.index s there in
    let word = ok.spot.packed.slab_word in
    let next : pointer w (w.slab f).cache f k.index ≡ (w.slab f).head = subst (λ a. pointer w a f k.index ≡ (w.slab f).head) (mine.2 ∙ object.0.cache) (linked ∙ sym head) in
    record {
      real = λ z. absurd (let e = exists-none w s.chains k.index s.listed.shaped in let t : 1 ≤ exists_at w 0 k.index = subst (λ g. 1 ≤ exists_at w g k.index) z there in omega arith);
      alive = object.0.live;
      owner = object.0.cache;
      fits = (omega arith, omega (arith, word.1));
      cache = sym (ap (λ (u : SlabWord). u.cache) won);
      objects = sym objects;
      counted = let c = s.listed.shaped.counted f in omega arith;
      marks = λ e. (omega arith, sym (ap (λ (u : SlabWord). u.frozen) won) ∙ (s.listed.shaped.marks f (ap (λ (u : SlabWord). u.listed) won ∙ e)).1);
      chain = (add-one k.index, IsChain-from (pointer w (w.slab f).cache f) (w.slab f).head (pointer w (w.slab f).cache f k.index) own next (s.placed.own_chain f));
    }

index-at : (f i j : ℕ) → one_if (is_at f i f j) ≡ one_if (i == j)
index-at f i j = rw (eq-eqb f f refl) refl

elsewhere : (f i g j : ℕ) → (g ≡ f → ⊥) → one_if (is_at f i g j) ≡ 0
elsewhere f i g j away = rw (ne_eqb f g (λ e. away (sym e))) refl

-- ---- without the node lock

in_place-work : (w : World) (x : Worker) (f : ℕ) (v : SlabWord) → x.local.spot ≡ InFree FreeSlab → get_or (set x.local.known x.local.place (lost x.local)) x.local.place nobody ≡ lost x.local
    → All (λ (k : Known). k.held ≡ true → k.cache ≡ cache_at (set_slab w f v) k.frame) (set x.local.known x.local.place (lost x.local)) → IsAtWork w x
    → IsAtWork (set_slab w f v) (record x { local = at (loses x.local) Between })
in_place-work w x f v is now known ok = grind arith

full-work : (w : World) (x : Worker) (f : ℕ) (v : SlabWord) → x.local.spot ≡ InFree FreeSlab → get_or (set x.local.known x.local.place (lost x.local)) x.local.place nobody ≡ lost x.local
    → AreHands (Kept ∷ []) (bare_hand f ∷ x.local.hands) ([] ∷ x.chains) → AreHeld (set_slab w f v) x.local.cache (Kept ∷ []) (bare_hand f ∷ x.local.hands) ([] ∷ x.chains) 0
    → All (λ (k : Known). k.held ≡ true → k.cache ≡ cache_at (set_slab w f v) k.frame) (set x.local.known x.local.place (lost x.local)) → IsAtWork w x
    → IsAtWork (set_slab w f v) (record x { local = record (loses x.local) { hands = bare_hand f ∷ x.local.hands; spot = InFree LoadCount }; chains = [] ∷ x.chains })
full-work w x f v is now hands held known ok = grind arith

-- a slab that isn't full and on no list stays where it is
on-list-off : (u : SlabWord) → was_full u ≡ false → off_list u ≡ 0
on-list-off u e = elim (and_cases (not u.frozen) (u.head == 0) e) [
  | inl a ↦ rw (not-false u.frozen a) refl
  | inr b ↦ off-some u (let d = eqb-false u.head 0 b in omega (arith, d))
]

pub at_FreeSlab-won : (w : World) (x : Worker) (others : List Worker) → x.local.spot ≡ InFree FreeSlab → w.slab (here x.local).frame ≡ x.local.slab_word → Stands w (x ∷ others)
    → ComesTo (set_slab w (here x.local).frame (freed_word x.local)) others (free_advance w.setup x.local FreeSlab Won).local
at_FreeSlab-won w x others is won s = elim (cases_Bool (was_full x.local.slab_word)) [
  | inl full ↦ rw full (
      let parts = and_parts (not x.local.slab_word.frozen) (x.local.slab_word.head == 0) full in
      let frozen : x.local.slab_word.frozen ≡ false = not-true x.local.slab_word.frozen parts.0 in
      let none : x.local.slab_word.head ≡ 0 = eqb-true x.local.slab_word.head 0 parts.1 in
      let unmarked : x.local.slab_word.listed ≡ false = false_from_ne_true x.local.slab_word.listed (λ e. absurd (let m = (s.listed.shaped.marks f (ap (λ (u : SlabWord). u.listed) won ∙ e)).0 in let h = ap (λ (u : SlabWord). u.head) won in omega arith)) in
      let objects = i.objects in
      let alive = i.alive in
      let off : off_list x.local.slab_word ≡ 1 = rw (frozen, unmarked, eq-eqb x.local.slab_word.head 0 none, lt-ltb 0 x.local.slab_word.objects (omega arith)) refl in
      let off' : off_list (w.slab f) ≡ 1 = ap off_list won ∙ off in
      let on = off-some v (omega arith) in
      let one = one-self f in
      let rest : AreHands [] x.local.hands x.chains = rw is at ok.spot.hands in
      let now = update_same w.slab f v in
      let below = s.listed.shaped.within f (let e = word-objects w f alive in omega arith) in
      let frames = s.fresh.setup.frames in (
        record x { local = record (loses x.local) { hands = bare_hand f ∷ x.local.hands; spot = InFree LoadCount }; chains = [] ∷ x.chains },
        refl,
        slab_step w x _ others f v (k.index ∷ own) s i.real i.alive i.fits i.cache i.objects i.counted i.marks i.chain
            (λ j. let h = held-loses f j x.local mine.0 mine.1 in let t = times-first j k.index own in let a = index-at f k.index j in let c = in_chain-nil f f j in omega arith)
            (λ g j away. let h = held-loses g j x.local mine.0 mine.1 in let a = elsewhere f k.index g j away in let c = in_chain-nil f g j in omega arith)
            (omega arith)
            (λ g away. let o : one_if (f == g) ≡ 0 = rw (ne_eqb f g (λ e. away (sym e))) refl in omega arith)
            (let a : one_if (w.slab f).listed ≡ one_if v.listed = ap (λ (u : SlabWord). one_if u.listed) won in rw is (omega arith))
            (λ g away. rw is refl)
            (λ g. refl) (λ n. rw is refl) (is_mine (omega arith))
            (full-work w x f v is (here-set x.local (lost x.local) mine.0)
            (let real = i.real in omega (arith, real), omega arith, omega arith, (refl, refl), bare-walk f, rest)
            (refl, ap (λ (u : SlabWord). u.cache) now ∙ i.cache ∙ sym i.owner, (ap (λ (u : SlabWord). u.frozen) now ∙ frozen, ap (λ (u : SlabWord). u.listed) now ∙ unmarked, rw now (omega arith)), tt)
            (known-kept w f v (set x.local.known x.local.place (lost x.local)) i.cache i.objects (known-set w x.local.known x.local.place (lost x.local) (λ e. absurd (false≢true e)) ok.seen.known)) ok),
      ))
  | inr part ↦ rw part (
      let off : off_list (w.slab f) ≡ 0 = ap off_list won ∙ on-list-off x.local.slab_word part in
      let on = off-some v (omega arith) in
      let used = (ok.spot.noted.in_use (rw is refl)).0 in
      let inuse = ap (λ (u : SlabWord). u.inuse) won in (
        record x { local = at (loses x.local) Between },
        refl,
        slab_step w x _ others f v (k.index ∷ own) s i.real i.alive i.fits i.cache i.objects i.counted i.marks i.chain
            (λ j. let h = held-loses f j x.local mine.0 mine.1 in let t = times-first j k.index own in let a = index-at f k.index j in omega arith)
            (λ g j away. let h = held-loses g j x.local mine.0 mine.1 in let a = elsewhere f k.index g j away in omega arith)
            (omega arith)
            (λ g away. refl)
            (let a : one_if (w.slab f).listed ≡ one_if v.listed = ap (λ (u : SlabWord). one_if u.listed) won in rw is (omega arith))
            (λ g away. rw is refl)
            (λ g. refl) (λ n. rw is refl)
            (keeps_marks (sym (ap (λ (u : SlabWord). u.frozen) won)) (sym (ap (λ (u : SlabWord). u.listed) won)) (omega arith) (omega arith))
            (in_place-work w x f v is (here-set x.local (lost x.local) mine.0)
            (known-kept w f v (set x.local.known x.local.place (lost x.local)) i.cache i.objects (known-set w x.local.known x.local.place (lost x.local) (λ e. absurd (false≢true e)) ok.seen.known)) ok),
      ))
]
  where
    ok : IsAtWork w x
    ok = All-head (IsAtWork w) x others s.fresh.workers

    k : Known
    k = here x.local

    f : ℕ
    f = (here x.local).frame

    v : SlabWord
    v = freed_word x.local

    own : List ℕ
    own = s.chains.own (here x.local).frame

    mine : (x.local.place < length x.local.known) × ((here x.local).held ≡ true) × ((here x.local).cache ≡ x.local.cache)
    mine = ok.spot.frees (rw is refl)

    i : IsFreed w x (freed_word x.local) (s.chains.own (here x.local).frame)
    i = freed w x others s (rw is refl) won (ok.spot.noted.in_use (rw is refl)).0 (ok.seen.linked_slab (rw is refl))

-- ---- a marked slab of no hand is on its cache's node list

marked-node : (s : Spot) → is_marked s ≡ true → has_node s ≡ true
marked-node (InAlloc LoadPopped) e = refl
marked-node (InAlloc FreezePopped) e = refl
marked-node (InAlloc Unlist) e = refl
marked-node (InPutAway PutNode away) e = refl
marked-node (InDiscard Unmake discard) e = refl
marked-node (InMoveSet PutTail move) e = refl
marked-node _ e = absurd (false≢true e)

first-cache : (w : World) (cache : ℕ) (r : Role) (rs : List Role) (hs : List Hand) (xss : List (List ℕ)) (end : ℕ) → AreHands (r ∷ rs) hs xss → AreHeld w cache (r ∷ rs) hs xss end → (w.slab (get_or hs 0 no_hand).frame).cache ≡ cache
first-cache w cache r rs [] xss end ok held = absurd ok
first-cache w cache r rs (h ∷ hs) [] end ok held = absurd ok
first-cache w cache r rs (h ∷ hs) (xs ∷ xss) end ok held = held.1

marked-cache : (w : World) (cache : ℕ) (s : Spot) (n : ℕ) (hs : List Hand) (xss : List (List ℕ)) (end : ℕ) → is_marked s ≡ true → AreHands (roles s n) hs xss → AreHeld w cache (roles s n) hs xss end → (w.slab (get_or hs 0 no_hand).frame).cache ≡ cache
marked-cache w cache (InAlloc LoadPopped) n hs xss end e ok held = first-cache w cache Popped (ready_of (n - 1)) hs xss end ok held
marked-cache w cache (InAlloc FreezePopped) n hs xss end e ok held = first-cache w cache Popped [] hs xss end ok held
marked-cache w cache (InAlloc Unlist) n hs xss end e ok held = first-cache w cache Popped (Ready ∷ []) hs xss end ok held
marked-cache w cache (InPutAway PutNode away) n hs xss end e ok held = first-cache w cache Loose (beside_away away) hs xss end ok held
marked-cache w cache (InDiscard Unmake discard) n hs xss end e ok held = first-cache w cache Loose (beside_discard discard) hs xss end ok held
marked-cache w cache (InMoveSet PutTail move) n hs xss end e ok held = first-cache w cache Loose (beside_move move) hs xss end ok held
marked-cache w cache _ n hs xss end e ok held = absurd (false≢true e)

none-marked : (g : Worker → ℕ) (xs : List Worker) → All (λ o. g o ≡ 0) xs → sum_by g xs ≡ 0
none-marked g [] all = refl
none-marked g (o ∷ os) all = let e = sum_by-cons g o os in let h = All-head (λ o. g o ≡ 0) o os all in let r = none-marked g os (All-tail (λ o. g o ≡ 0) o os all) in omega arith

-- another worker has no marked slab of a cache whose node lock isn't its
other-mark : (w : World) (f : ℕ) (o : Worker) → IsAtWork w o → takes (node_lock (w.slab f).cache) o ≡ 0 → marked_of f o ≡ 0
other-mark w f o ok free = elim (cases_Bool (is_marked o.local.spot)) [
  | inr e ↦ rw e refl
  | inl e ↦ elim (cases_eq (hand_of o.local).frame f) [
    | inr d ↦ rw (e, ne_eqb (hand_of o.local).frame f d) refl
    | inl h ↦ absurd (
        let cache : (w.slab f).cache ≡ o.local.cache = subst (λ g. (w.slab g).cache ≡ o.local.cache) h (marked-cache w o.local.cache o.local.spot (length o.local.hands) o.local.hands o.chains (end_of o.local) e ok.spot.hands ok.seen.hands) in
        let one = one-self (node_lock o.local.cache) in
        let has : 1 ≤ takes (node_lock o.local.cache) o = rw (marked-node o.local.spot e) (omega arith) in
        let t : takes (node_lock o.local.cache) o ≡ 0 = subst (λ c. takes (node_lock c) o ≡ 0) cache free in
        omega arith)
  ]
]

some-term : (m : ℕ) (g : ℕ → ℕ) → 1 ≤ sum_below m g → (n : ℕ) × (n < m) × (1 ≤ g n)
some-term zero g some = absurd (omega arith)
some-term (suc m) g some = elim (cases_eq (g m) 0) [
  | inl e ↦ (let r = some-term m g (omega arith) in let b = r.1 in (r.0, omega arith, r.2))
  | inr d ↦ (m, omega arith, omega (arith, d))
]

list-lock : (m : Setup) (n f : ℕ) (v : LockValue) → IsGuarded m n v → 1 ≤ times f (frames_in v) → (cache : ℕ) × (n ≡ node_lock cache)
list-lock m n f Nothing g some = absurd (omega arith)
list-lock m n f (Node frames) g some = (g.0, g.1)
list-lock m n f (Checked slabs) g some = absurd (omega arith)
list-lock m n f (Pool pool) g some = absurd (omega arith)

on-node-list : (w : World) (x : Worker) (others : List Worker) (f : ℕ) → Stands w (x ∷ others) → (w.slab f).listed ≡ true → (w.slab f).cache ≡ x.local.cache → x.local.cache < 32 → has_node x.local.spot ≡ true → is_marked x.local.spot ≡ false
    → 1 ≤ times f (node_of w.value x.local)
on-node-list w x others f s listed cache below node unmarked =
    let locks = s.fresh.setup.locks in
    let one = one-self (node_lock x.local.cache) in
    let has : 1 ≤ takes (node_lock x.local.cache) x = rw node (omega arith) in
    let alone = lock-alone w x others (node_lock x.local.cache) s (omega arith) (omega arith) in
    let rest = none-marked (marked_of f) others (λ k d in'. other-mark w f (get_or others k d) (All-tail (IsAtWork w) x others s.fresh.workers k d in') (subst (λ c. takes (node_lock c) (get_or others k d) ≡ 0) (sym cache) (alone k d in'))) in
    let mine : marked_of f x ≡ 0 = rw unmarked refl in
    let split = sum_by-cons (marked_of f) x others in
    let marked = s.listed.marked f in
    let is : one_if (w.slab f).listed ≡ 1 = rw listed refl in
    let r = some-term w.setup.locks (λ n. times f (frames_in (w.value n))) (omega arith) in
    let l = list-lock w.setup r.0 f (w.value r.0) (s.listed.shaped.guarded r.0 r.1) r.2 in
    let in' : node_lock l.0 < w.setup.locks = let a = r.1 in let e = l.1 in omega arith in
    let on : 1 ≤ times f (frames_in (w.value (node_lock l.0))) = subst (λ n. 1 ≤ times f (frames_in (w.value n))) l.1 r.2 in
    let owner = (s.listed.shaped.node l.0 f in' on).owner in
    subst (λ c. 1 ≤ times f (frames_in (w.value (node_lock c)))) (sym owner ∙ cache) on

-- ---- under the node lock

locked-work : (w : World) (x : Worker) (f : ℕ) (v : SlabWord) → x.local.spot ≡ InFree FreeLocked → get_or (set x.local.known x.local.place (lost x.local)) x.local.place nobody ≡ lost x.local
    → All (λ (k : Known). k.held ≡ true → k.cache ≡ cache_at (set_slab w f v) k.frame) (set x.local.known x.local.place (lost x.local))
    → IsEmptied ((set_slab w f v).slab (here (at (loses x.local) (InFree TakeOff))).frame) (at (loses x.local) (InFree TakeOff)) × (1 ≤ times (here (at (loses x.local) (InFree TakeOff))).frame (node_of w.value x.local)) → IsAtWork w x
    → IsAtWork (set_slab w f v) (record x { local = at (loses x.local) (InFree TakeOff) })
locked-work w x f v is now known last ok = grind arith

pub at_FreeLocked-won : (w : World) (x : Worker) (others : List Worker) → x.local.spot ≡ InFree FreeLocked → w.slab (here x.local).frame ≡ x.local.slab_word → Stands w (x ∷ others)
    → ComesTo (set_slab w (here x.local).frame (freed_word x.local)) others (free_advance w.setup x.local FreeLocked Won).local
at_FreeLocked-won w x others is won s =
    let u = x.local.slab_word in
    let last : is_last_listed u ≡ true = ok.spot.noted.last_in_use (rw is refl) in
    let a = and_parts (not u.frozen && u.listed && not (u.head == 0)) (u.inuse == 1) last in
    let b = and_parts (not u.frozen && u.listed) (not (u.head == 0)) a.0 in
    let c = and_parts (not u.frozen) u.listed b.0 in
    let some : 1 ≤ u.head = let d = eqb-false u.head 0 (not-true (u.head == 0) b.1) in omega (arith, d) in
    let used : u.inuse ≡ 1 = eqb-true u.inuse 1 a.1 in
    let i = freed w x others s (rw is refl) won (omega arith) (ok.seen.linked_slab (rw is refl)) in
    let mine = ok.spot.frees (rw is refl) in
    let off : off_list (w.slab f) ≡ 0 = ap off_list won ∙ off-some u some in
    let on = off-some v (omega arith) in
    let inuse = ap (λ (u : SlabWord). u.inuse) won in
    let now = here-set x.local (lost x.local) mine.0 in
    let plain = ok.spot.plain (rw is refl) in
    let listed = on-node-list w x others f s (ap (λ (u : SlabWord). u.listed) won ∙ c.1) (sym i.owner) plain.0 (rw is refl) (rw is refl) in
    let there = update_same w.slab f v in
    let frame : (here (at (loses x.local) (InFree TakeOff))).frame ≡ f = ap (λ (k : Known). k.frame) now in
    let empty : IsEmptied ((set_slab w f v).slab f) (at (loses x.local) (InFree TakeOff)) = rw there (record { none = (let e = used in omega arith); objects = refl; some = (let e = i.objects in let l = i.alive in omega arith); cache = i.cache ∙ sym i.owner }) in (
      record x { local = at (loses x.local) (InFree TakeOff) },
      refl,
      slab_step w x _ others f v (k.index ∷ own) s i.real i.alive i.fits i.cache i.objects i.counted i.marks i.chain
          (λ j. let h = held-loses f j x.local mine.0 mine.1 in let t = times-first j k.index own in let a = index-at f k.index j in omega arith)
          (λ g j away. let h = held-loses g j x.local mine.0 mine.1 in let a = elsewhere f k.index g j away in omega arith)
          (omega arith)
          (λ g away. refl)
          (let a : one_if (w.slab f).listed ≡ one_if v.listed = ap (λ (u : SlabWord). one_if u.listed) won in rw is (omega arith))
          (λ g away. rw is refl)
          (λ g. refl) (λ n. rw is refl)
          (keeps_marks (sym (ap (λ (u : SlabWord). u.frozen) won)) (sym (ap (λ (u : SlabWord). u.listed) won)) (omega arith) (omega arith))
          (locked-work w x f v is now
          (known-kept w f v (set x.local.known x.local.place (lost x.local)) i.cache i.objects (known-set w x.local.known x.local.place (lost x.local) (λ e. absurd (false≢true e)) ok.seen.known))
          (rw frame empty, rw frame listed) ok),
    )
  where
    ok : IsAtWork w x
    ok = All-head (IsAtWork w) x others s.fresh.workers

    k : Known
    k = here x.local

    f : ℕ
    f = (here x.local).frame

    v : SlabWord
    v = freed_word x.local

    own : List ℕ
    own = s.chains.own (here x.local).frame
