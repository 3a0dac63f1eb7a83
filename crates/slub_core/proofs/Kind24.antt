-- Kinds 24 and 26: a string in hand is put before a CPU's partial list, once its last slab is linked to the front of that.
use Rattle.std.proofs.Common.{◌≡◌, ◌≢◌, ℕ, suc, ◌+◌, ◌-◌, ◌^◌, ◌<◌, ◌≤◌, Option, Some, None, List, [], ◌∷◌, ◌++◌, length, refl, sym, ap, ◌∙◌, subst, arith, inl, inr}
use Rattle.std.specs.Prelude.{slice_index}
use Rattle.std.proofs.lemmas.Bool.{cases_eq}
use Rattle.std.proofs.lemmas.List.{length-append}
use Rattle.std.proofs.lemmas.List.Elements.{All-head}
use Rattle.slub_common.specs.Times.{times}
use Rattle.slub_common.proofs.Times.{times-append}
use Rattle.slub_cpu_partial.specs.declared.words.ListWord.{ListWord}
use Rattle.slub_core.specs.declared.local.Hand.{Hand}
use Rattle.slub_core.specs.declared.local.PartialString.{PartialString}
use Rattle.slub_core.specs.declared.step.Answer.TheVariants.{Won, Done}
use Rattle.slub_core.specs.declared.spot.Spot.TheVariants.{Between, InAlloc, InPutOnList}
use Rattle.slub_core.specs.declared.spot.AllocSpot.TheVariants.{LoadKept, PopNode}
use Rattle.slub_core.specs.declared.spot.PutOnList.{PutOnList}
use Rattle.slub_core.specs.declared.spot.PutOnList.TheVariants.{OfRest, OfNode, OfFree}
use Rattle.slub_core.specs.declared.spot.PutOnListSpot.TheVariants.{LinkString, PushString}
use Rattle.slub_core.specs.World.{World, update, set_list, set_link, Links, IsString}
use Rattle.slub_core.specs.Local.{Worker, string_of}
use Rattle.slub_core.specs.Ops.{own_cpu}
use Rattle.slub_core.specs.PutOnList.{put_on_list_advance, longer_list, puts, way_of_pushed}
use Rattle.slub_core.specs.Spots.{Ready, ready_of, beside_put}
use Rattle.slub_core.specs.Listed.{marked_of, takes}
use Rattle.slub_core.specs.Fresh.{AreHands, AreHeld, IsCursor, IsKeptSlab, IsHeldString, IsLinked, IsAtWork}
use Rattle.slub_core.specs.Coherent.{Stands}
use Rattle.slub_core.proofs.Changes.{own-word}
use Rattle.slub_core.proofs.Counts.{homes-cons}
use Rattle.slub_core.proofs.Exists.{times-self}
use Rattle.slub_core.proofs.StepHands.{one-hand}
use Rattle.slub_core.proofs.Homes.{live-most}
use Rattle.slub_core.proofs.Kind25.{list-real, string-real}
use Rattle.slub_core.proofs.Lists.{times-first, times-at}
use Rattle.slub_core.proofs.ListStep.{list_step, link_step}
use Rattle.slub_core.proofs.Locks.{ComesTo, one-self}
use Rattle.slub_core.proofs.UnderLock.{stocked-within}
use Rattle.slub_core.proofs.Update.{update_at, update_other}

-- ---- the last slab of a string is linked

-- the slabs of a string stay, where the link of the last one changes
IsString-last : (link : ℕ → ℕ) (g v front : ℕ) (fs : List ℕ) → 1 ≤ length fs → slice_index fs (length fs - 1) ≡ g → times g fs ≤ 1 → IsString link front fs → IsString (update link g v) front fs
IsString-last link g v front [] some last one is = tt
IsString-last link g v front (f ∷ []) some last one is = (is.0, tt)
IsString-last link g v front (f ∷ h ∷ hs) some last one is =
    let n : length (f ∷ h ∷ hs) - 1 ≡ suc (length (h ∷ hs) - 1) = omega arith in
    let end : slice_index (h ∷ hs) (length (h ∷ hs) - 1) ≡ g = subst (λ k. slice_index (f ∷ h ∷ hs) k ≡ g) n last in
    let on = times-at g (h ∷ hs) (length (h ∷ hs) - 1) (omega arith) end in
    let t = times-first g f (h ∷ hs) in
    let apart : f ≡ g → ⊥ = λ e. absurd (let o = one-self g in let u = times-first g g (h ∷ hs) in let c : times g (f ∷ h ∷ hs) ≡ times g (g ∷ h ∷ hs) = ap (λ k. times g (k ∷ h ∷ hs)) e in omega arith) in
    (is.0, rw (update_other link g v f apart) (IsString-last link g v (link f) (h ∷ hs) (omega arith) end (omega arith) is.1))

link-work : (w : World) (x : Worker) (put : PutOnList) (g v : ℕ) (old string : PartialString) → x.local.spot ≡ InPutOnList LinkString put → x.local.string ≡ Some old → string.front ≡ old.front → string.count ≡ old.count → string.place ≡ old.place → string.cursor ≡ old.cursor
    → string.link ≡ Some x.local.list_word.front → IsCursor string x.string → IsHeldString (set_link w g v) x.local.cache (Some string) x.string → AreHeld (set_link w g v) x.local.cache (beside_put put) x.local.hands x.chains 0 → IsAtWork w x
    → IsAtWork (set_link w g v) (record x { local = record x.local { string = Some string; spot = InPutOnList PushString put } })
link-work w x put g v old string is e front count place cursor link now held hands ok = grind arith

pub at_LinkString : (w : World) (x : Worker) (others : List Worker) (put : PutOnList) → x.local.spot ≡ InPutOnList LinkString put → Stands w (x ∷ others)
    → ComesTo (set_link w (string_of x.local).cursor x.local.list_word.front) others (put_on_list_advance x.local LinkString put Done).local
at_LinkString w x others put is s = by_string x.local.string refl
  where
    ok : IsAtWork w x
    ok = All-head (IsAtWork w) x others s.fresh.workers

    by_string : (string : Option PartialString) → x.local.string ≡ string → ComesTo (set_link w (string_of x.local).cursor x.local.list_word.front) others (put_on_list_advance x.local LinkString put Done).local
    by_string None e = absurd (let least : 1 ≤ (string_of x.local).count = rw is at ok.spot.least in let z : 1 ≤ 0 = rw e at least in omega arith)
    by_string (Some old) e =
        let v = x.local.list_word.front in
        let g = old.cursor in
        let string : PartialString = record old { link = Some v } in
        let cursor : IsCursor old x.string = rw e at ok.spot.string in
        let held : IsHeldString w x.local.cache (Some old) x.string = rw e at ok.seen.string in
        let end : old.place ≡ old.count = rw e at (ok.spot.at_end (rw is refl)) in
        let n = cursor.count in
        let p = cursor.place in
        let back : old.place - 1 ≡ length x.string - 1 = omega arith in
        let last : slice_index x.string (length x.string - 1) ≡ g = sym (cursor.cursor ∙ ap (slice_index x.string) back) in
        let on = times-at g x.string (length x.string - 1) (omega arith) last in
        let kept = held.2 g on in
        let real : g ≢ 0 = λ z. absurd (let k = kept.0 in omega arith) in
        let once = s.listed.once g real in
        let homes = homes-cons w s.chains x others g in
        let most = live-most (w.slab g) in
        let now : IsHeldString (set_link w g v) x.local.cache (Some string) x.string = (
          IsString-last w.link g v old.front x.string (omega arith) last (omega arith) held.0,
          update_at w.link g v (slice_index x.string (length x.string - 1)) last,
          held.2,
        ) in
        let hands : AreHeld (set_link w g v) x.local.cache (beside_put put) x.local.hands x.chains 0 = rw is at ok.seen.hands in
        rw e (
          record x { local = record x.local { string = Some string; spot = InPutOnList PushString put } },
          refl,
          link_step w x _ others g v s real ok.spot.packed.list_word.0 (omega arith) (λ f i. refl)
              (record { home = λ f. refl; marked = λ f. rw is refl; covered = λ f. refl; takes = λ k. rw is refl })
              (link-work w x put g v old string is e refl refl refl refl refl (record { count = cursor.count; place = cursor.place; cursor = cursor.cursor }) now hands ok),
        )

-- ---- the string is put before the list

Links-from : (link : ℕ → ℕ) (front : ℕ) (fs : List ℕ) (end : ℕ) → 1 ≤ length fs → IsString link front fs → link (slice_index fs (length fs - 1)) ≡ end → Links link front fs end
Links-from link front [] end some is last = absurd (omega arith)
Links-from link front (f ∷ []) end some is last = (is.0, last)
Links-from link front (f ∷ g ∷ gs) end some is last =
    let n : length (f ∷ g ∷ gs) - 1 ≡ suc (length (g ∷ gs) - 1) = omega arith in
    (is.0, Links-from link (link f) (g ∷ gs) end (omega arith) is.1 (subst (λ k. link (slice_index (f ∷ g ∷ gs) k) ≡ end) n last))

Links-append : (link : ℕ → ℕ) (front : ℕ) (fs : List ℕ) (mid : ℕ) (gs : List ℕ) (end : ℕ) → Links link front fs mid → Links link mid gs end → Links link front (fs ++ gs) end
Links-append link front [] mid gs end a b = rw a b
Links-append link front (f ∷ fs) mid gs end a b = (a.0, Links-append link (link f) fs mid gs end a.1 b)

rest-work : (w : World) (x : Worker) (n put : ℕ) (v : ListWord) → x.local.spot ≡ InPutOnList PushString OfRest → IsAtWork w x
    → IsAtWork (set_list w n v) (record x { local = record x.local { string = None; put = put; spot = InAlloc LoadKept }; string = [] })
rest-work w x n put v is ok = grind arith

node-work : (w : World) (x : Worker) (n put : ℕ) (v : ListWord) → x.local.spot ≡ InPutOnList PushString OfNode
    → AreHands (ready_of (length x.local.hands)) x.local.hands x.chains → AreHeld (set_list w n v) x.local.cache (ready_of (length x.local.hands)) x.local.hands x.chains 0 → IsAtWork w x
    → IsAtWork (set_list w n v) (record x { local = record x.local { string = None; put = put; spot = InAlloc PopNode }; string = [] })
node-work w x n put v is hands held ok = grind arith

free-work : (w : World) (x : Worker) (n put : ℕ) (v : ListWord) → x.local.spot ≡ InPutOnList PushString OfFree → IsAtWork w x
    → IsAtWork (set_list w n v) (record x { local = record x.local { string = None; put = put; spot = Between }; string = [] })
free-work w x n put v is ok = grind arith

pub at_PushString-won : (w : World) (x : Worker) (others : List Worker) (put : PutOnList) → x.local.spot ≡ InPutOnList PushString put → w.list (own_cpu x.local) ≡ x.local.list_word → Stands w (x ∷ others)
    → ComesTo (set_list w (own_cpu x.local) (longer_list x.local)) others (put_on_list_advance x.local PushString put Won).local
at_PushString-won w x others put is won s = (
  record x { local = record x.local { string = None; put = x.local.put + puts put; spot = way_of_pushed put }; string = [] },
  refl,
  by_string x.local.string refl,
)
  where
    n : ℕ
    n = own_cpu x.local

    fs : List ℕ
    fs = s.chains.list n

    ok : IsAtWork w x
    ok = All-head (IsAtWork w) x others s.fresh.workers

    z : Worker
    z = record x { local = record x.local { string = None; put = x.local.put + puts put; spot = way_of_pushed put }; string = [] }

    node-ready : (v : ListWord) (h : Hand) → x.local.hands ≡ h ∷ [] → x.local.spot ≡ InPutOnList PushString OfNode → IsAtWork (set_list w n v) (record x { local = record x.local { string = None; put = x.local.put + puts OfNode; spot = InAlloc PopNode }; string = [] })
    node-ready v h one at =
        let ready : ready_of (length x.local.hands) ≡ Ready ∷ [] = rw one refl in
        let hands : AreHands (Ready ∷ []) x.local.hands x.chains = rw at at ok.spot.hands in
        let held : AreHeld (set_list w n v) x.local.cache (Ready ∷ []) x.local.hands x.chains 0 = rw at at ok.seen.hands in
        node-work w x n (x.local.put + puts OfNode) v at (rw ready hands) (rw ready held) ok

    work : (put : PutOnList) (v : ListWord) → x.local.spot ≡ InPutOnList PushString put → IsAtWork (set_list w n v) (record x { local = record x.local { string = None; put = x.local.put + puts put; spot = way_of_pushed put }; string = [] })
    work OfRest v at = rest-work w x n (x.local.put + puts OfRest) v at ok
    work OfNode v at = let r = one-hand Ready x.local.hands x.chains (rw at at ok.spot.hands) in node-ready v r.0 r.2 at
    work OfFree v at = free-work w x n (x.local.put + puts OfFree) v at ok

    marks : (put : PutOnList) → x.local.spot ≡ InPutOnList PushString put → (f : ℕ) → marked_of f (record x { local = record x.local { string = None; put = x.local.put + puts put; spot = way_of_pushed put }; string = [] }) ≡ marked_of f x
    marks OfRest at f = rw at refl
    marks OfNode at f = rw at refl
    marks OfFree at f = rw at refl

    locks : (put : PutOnList) → x.local.spot ≡ InPutOnList PushString put → (k : ℕ) → takes k (record x { local = record x.local { string = None; put = x.local.put + puts put; spot = way_of_pushed put }; string = [] }) ≡ takes k x
    locks OfRest at k = rw at refl
    locks OfNode at k = rw at refl
    locks OfFree at k = rw at refl

    by_string : (string : Option PartialString) → x.local.string ≡ string → Stands (set_list w n (longer_list x.local)) (z ∷ others)
    by_string None e = absurd (let least : 1 ≤ (string_of x.local).count = rw is at ok.spot.least in let z : 1 ≤ 0 = rw e at least in omega arith)
    by_string (Some string) e =
        let held : IsHeldString w x.local.cache (Some string) x.string = rw e at ok.seen.string in
        let cursor : IsCursor string x.string = rw e at ok.spot.string in
        let linked : string.link ≡ Some x.local.list_word.front = rw e at (ok.spot.linked (rw is refl)) in
        let noted : x.local.list_word.count + string.count ≤ w.setup.frames - 1 = rw e at (ok.spot.noted.list (rw is refl)).1 in
        let own = own-word w x others s (rw is refl) in
        let frames = s.fresh.setup.frames in
        let c = cursor.count in
        let p = cursor.place in
        let last : IsLinked w.link x.string (Some x.local.list_word.front) = subst (IsLinked w.link x.string) linked held.1 in
        let mine : Links w.link string.front x.string x.local.list_word.front = Links-from w.link string.front x.string x.local.list_word.front (omega arith) held.0 last in
        let theirs : Links w.link x.local.list_word.front fs 0 = subst (λ (v : ListWord). Links w.link v.front fs 0) won (s.listed.shaped.string n own.0) in
        let count : x.local.list_word.count ≡ length fs = subst (λ (v : ListWord). v.count ≡ length fs) won (s.listed.shaped.count n own.0) in
        let small : string.front < 2 ^ 16 = front-small string e held.0 held.2 in
        let both : (f : ℕ) → times f (x.string ++ fs) ≡ times f x.string + times f fs = λ f. times-append f x.string fs in
        let v : ListWord = record { front = string.front; count = x.local.list_word.count + string.count } in
        subst (λ (u : ListWord). Stands (set_list w n u) (z ∷ others)) (long string e)
        (list_step w x z others n v (x.string ++ fs) s own.0
        (small, omega arith)
        (Links-append w.link string.front x.string x.local.list_word.front fs 0 mine theirs)
        (let a = length-append x.string fs in omega arith)
        (λ f some. elim (cases_eq (times f x.string) 0) [
          | inl none ↦ s.listed.shaped.partial n f own.0 (let b = both f in omega arith)
          | inr d ↦ (let k = held.2 f (omega (arith, d)) in (record { owner = k.1.owner ∙ sym own.1; head = k.1.head; unfrozen = k.1.unfrozen }, k.1.unlisted))
        ])
        (let b = both 0 in let a = list-real w (x ∷ others) n s own.0 in let d = string-real w x.local.cache x.local.string x.string ok.spot.string ok.seen.string in omega arith)
        (λ f i. refl)
        (λ f. let b = both f in omega arith)
        (marks put is) (λ g. refl) (locks put is)
        (work put v is))
      where
        long : (string : PartialString) → x.local.string ≡ Some string → record { front = string.front; count = x.local.list_word.count + string.count } ≡ longer_list x.local
        long string e = rw e refl

        front-small : (string : PartialString) → x.local.string ≡ Some string → IsString w.link string.front x.string → ((f : ℕ) → 1 ≤ times f x.string → (1 ≤ f) × IsKeptSlab (w.slab f) x.local.cache) → string.front < 2 ^ 16
        front-small string e is kept = small-front x.string is kept (let c : IsCursor string x.string = rw e at ok.spot.string in let a = c.count in let b = c.place in omega arith)
          where
            small-front : (gs : List ℕ) → IsString w.link string.front gs → ((f : ℕ) → 1 ≤ times f gs → (1 ≤ f) × IsKeptSlab (w.slab f) x.local.cache) → 1 ≤ length gs → string.front < 2 ^ 16
            small-front [] is kept some = absurd (omega arith)
            small-front (g ∷ gs) is kept some =
                let k = kept g (times-self g gs) in
                let in' = stocked-within w s.chains g x.local.cache s.listed.shaped (record { owner = k.1.owner; head = k.1.head; unfrozen = k.1.unfrozen }) in
                let frames = s.fresh.setup.frames in
                let front : string.front ≡ g = is.0 in
                omega arith
