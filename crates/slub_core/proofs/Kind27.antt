-- Kind 27, spot by spot: the link of a slab of a string in hand is loaded.
use Rattle.std.proofs.Common.{◌≡◌, ℕ, zero, suc, ◌-◌, ◌%◌, ◌^◌, ◌<◌, ◌≤◌, Option, Some, None, List, [], ◌∷◌, length, refl, sym, ap, ◌∙◌, subst, arith}
use Rattle.std.specs.Prelude.{slice_index, nat_lt}
use Rattle.std.proofs.lemmas.Bool.{cond_both, ltb-true, ltb-false}
use Rattle.std.proofs.lemmas.List.Elements.{All-head}
use Rattle.slub_core.specs.declared.local.PartialString.{PartialString}
use Rattle.slub_core.specs.declared.step.Answer.TheVariants.{Word}
use Rattle.slub_core.specs.declared.spot.Spot.TheVariants.{InAlloc, InPutOnList, InMoveSet}
use Rattle.slub_core.specs.declared.spot.AllocSpot.TheVariants.{FollowFront}
use Rattle.slub_core.specs.declared.spot.PutOnList.{PutOnList}
use Rattle.slub_core.specs.declared.spot.PutOnList.TheVariants.{OfRest}
use Rattle.slub_core.specs.declared.spot.PutOnListSpot.TheVariants.{LoadList, WalkString, LinkString}
use Rattle.slub_core.specs.declared.spot.MoveSet.{MoveSet}
use Rattle.slub_core.specs.declared.spot.MoveSetSpot.TheVariants.{FollowSet, LoadMoved}
use Rattle.slub_core.specs.World.{World, IsString}
use Rattle.slub_core.specs.Local.{Worker, string_of, bare_hand}
use Rattle.slub_core.specs.Alloc.{alloc_advance, taken_string}
use Rattle.slub_core.specs.PutOnList.{put_on_list_advance, way_of_string, with_cursor}
use Rattle.slub_core.specs.MoveSet.{move_set_advance}
use Rattle.slub_core.specs.Spots.{Role, Kept, beside_move}
use Rattle.slub_core.specs.Fresh.{AreHands, AreHeld, IsCursor, IsStringOf, IsHeldString, IsLinked, IsAtWork}
use Rattle.slub_core.specs.Coherent.{Stands}
use Rattle.slub_core.proofs.StepHands.{in_chain-nil}
use Rattle.slub_core.proofs.Lists.{times-first}
use Rattle.slub_core.proofs.LocalStep.{local_step}
use Rattle.slub_core.proofs.Locks.{ComesTo, one-self}
use Rattle.slub_core.proofs.PopNode.{bare-walk}
use Rattle.slub_core.proofs.UnderLock.{stocked-within}

-- ---- the front of a string of two slabs or more comes in hand

two-slabs : (fs : List ℕ) → 2 ≤ length fs → (f : ℕ) × (g : ℕ) × (gs : List ℕ) × (fs ≡ f ∷ g ∷ gs)
two-slabs [] some = absurd (omega arith)
two-slabs (f ∷ []) some = absurd (omega arith)
two-slabs (f ∷ g ∷ gs) some = (f, g, gs, refl)

-- the string behind its front
pub rest-cursor : (string : PartialString) (f g : ℕ) (gs : List ℕ) (next : ℕ) → IsCursor string (f ∷ g ∷ gs) → next ≡ g → IsCursor (taken_string next (string.count - 1)) (g ∷ gs)
rest-cursor string f g gs next c e = let n = c.count in record { count = omega arith; place = (omega arith, omega arith); cursor = e }

pub rest-held : (w : World) (cache : ℕ) (string : PartialString) (f g : ℕ) (gs : List ℕ) → string.link ≡ Some 0 → IsHeldString w cache (Some string) (f ∷ g ∷ gs)
    → IsHeldString w cache (Some (taken_string (w.link string.front) (string.count - 1))) (g ∷ gs)
rest-held w cache string f g gs ended held = (
  subst (λ k. IsString w.link (w.link k) (g ∷ gs)) (sym held.0.0) held.0.1,
  linked string.link ended held.1,
  λ h some. held.2 h (let t = times-first h f (g ∷ gs) in omega arith),
)
  where
    linked : (to : Option ℕ) → to ≡ Some 0 → IsLinked w.link (f ∷ g ∷ gs) to → w.link (slice_index (g ∷ gs) (length (g ∷ gs) - 1)) ≡ 0
    linked to e is = let i : IsLinked w.link (f ∷ g ∷ gs) (Some 0) = rw e at is in let n : length (f ∷ g ∷ gs) - 1 ≡ suc (length (g ∷ gs) - 1) = omega arith in subst (λ k. w.link (slice_index (f ∷ g ∷ gs) k) ≡ 0) n i

-- the front, as a slab in hand
front-kept : (w : World) (x : Worker) (others : List Worker) (string : PartialString) (f g : ℕ) (gs : List ℕ) (rs : List Role) → Stands w (x ∷ others)
    → IsHeldString w x.local.cache (Some string) (f ∷ g ∷ gs) → AreHands rs x.local.hands x.chains → AreHeld w x.local.cache rs x.local.hands x.chains 0
    → AreHands (Kept ∷ rs) (bare_hand string.front ∷ x.local.hands) ([] ∷ x.chains) × AreHeld w x.local.cache (Kept ∷ rs) (bare_hand string.front ∷ x.local.hands) ([] ∷ x.chains) 0
front-kept w x others string f g gs rs s held hands mine =
    let front : string.front ≡ f = held.0.0 in
    let t = times-first f f (g ∷ gs) in
    let one = one-self f in
    let kept = held.2 f (omega arith) in
    let in' = stocked-within w s.chains f x.local.cache s.listed.shaped (record { owner = kept.1.owner; head = kept.1.head; unfrozen = kept.1.unfrozen }) in
    let frames = s.fresh.setup.frames in
    rw front ((kept.0, omega arith, omega arith, (refl, refl), bare-walk f, hands), (refl, kept.1.owner, (kept.1.unfrozen, kept.1.unlisted, kept.1.head), mine))

follow-work : (w : World) (x : Worker) (string : PartialString) (f : ℕ) (gs : List ℕ) → x.local.spot ≡ InAlloc FollowFront
    → AreHands (Kept ∷ []) (bare_hand f ∷ x.local.hands) ([] ∷ x.chains) → AreHeld w x.local.cache (Kept ∷ []) (bare_hand f ∷ x.local.hands) ([] ∷ x.chains) 0
    → IsCursor string gs → IsHeldString w x.local.cache (Some string) gs → 1 ≤ string.count → IsAtWork w x
    → IsAtWork w (record { local = record x.local { hands = bare_hand f ∷ x.local.hands; string = Some string; spot = InPutOnList LoadList OfRest }; chains = [] ∷ x.chains; string = gs })
follow-work w x string f gs is hands held cursor string_held some ok = grind arith

pub at_FollowFront : (w : World) (x : Worker) (others : List Worker) (word : ℕ) → x.local.spot ≡ InAlloc FollowFront → w.link (string_of x.local).front ≡ word → Stands w (x ∷ others)
    → ComesTo w others (alloc_advance w.setup x.local FollowFront (Word word)).local
at_FollowFront w x others word is there s = by_string x.local.string refl
  where
    ok : IsAtWork w x
    ok = All-head (IsAtWork w) x others s.fresh.workers

    by_slabs : (string : PartialString) → x.local.string ≡ Some string → (f g : ℕ) (gs : List ℕ) → x.string ≡ f ∷ g ∷ gs
        → ComesTo w others (record x.local { hands = bare_hand string.front ∷ x.local.hands; string = Some (taken_string (word % 2 ^ 16) (string.count - 1)); spot = InPutOnList LoadList OfRest })
    by_slabs string e f g gs slabs =
        let held : IsHeldString w x.local.cache (Some string) (f ∷ g ∷ gs) = rw (e, slabs) at ok.seen.string in
        let cursor : IsCursor string (f ∷ g ∷ gs) = rw (e, slabs) at ok.spot.string in
        let ended : string.link ≡ Some 0 = rw e at (ok.spot.ended (rw is refl)) in
        let link : w.link string.front ≡ word = rw e at there in
        let small = s.fresh.worded.link string.front in
        let same : word % 2 ^ 16 ≡ w.link string.front = omega arith in
        let next : w.link string.front ≡ g = ap w.link held.0.0 ∙ held.0.1.0 in
        let rest : AreHands [] x.local.hands x.chains = rw is at ok.spot.hands in
        let front = front-kept w x others string f g gs [] s held rest tt in
        let count = cursor.count in (
          record { local = record x.local { hands = bare_hand string.front ∷ x.local.hands; string = Some (taken_string (w.link string.front) (string.count - 1)); spot = InPutOnList LoadList OfRest }; chains = [] ∷ x.chains; string = g ∷ gs },
          rw same refl,
          local_step w x _ others s
              (λ h i. let c = in_chain-nil string.front h i in omega arith)
              (record { home = λ h. rw (slabs, held.0.0) (let t = times-first h f (g ∷ gs) in omega arith); marked = λ h. rw is refl; covered = λ h. refl; takes = λ n. rw is refl })
              (follow-work w x (taken_string (w.link string.front) (string.count - 1)) string.front (g ∷ gs) is front.0 front.1 (rest-cursor string f g gs (w.link string.front) cursor next) (rest-held w x.local.cache string f g gs ended held) (omega arith) ok),
        )

    by_string : (string : Option PartialString) → x.local.string ≡ string → ComesTo w others (alloc_advance w.setup x.local FollowFront (Word word)).local
    by_string None e = absurd (let least : 2 ≤ (string_of x.local).count = rw is at ok.spot.least in let z : 2 ≤ 0 = rw e at least in omega arith)
    by_string (Some string) e =
        let least : 2 ≤ (string_of x.local).count = rw is at ok.spot.least in
        let two : 2 ≤ string.count = rw e at least in
        let cursor : IsStringOf (Some string) x.string = rw e at ok.spot.string in
        let r = two-slabs x.string (let c = cursor.count in omega arith) in
        rw e (by_slabs string e r.0 r.1 r.2 r.3)

-- ---- a set that is moved

moved-work : (w : World) (x : Worker) (move : MoveSet) (string : PartialString) (f : ℕ) (gs : List ℕ) → x.local.spot ≡ InMoveSet FollowSet move
    → AreHands (Kept ∷ beside_move move) (bare_hand f ∷ x.local.hands) ([] ∷ x.chains) → AreHeld w x.local.cache (Kept ∷ beside_move move) (bare_hand f ∷ x.local.hands) ([] ∷ x.chains) 0
    → IsCursor string gs → IsHeldString w x.local.cache (Some string) gs → string.link ≡ Some 0 → IsAtWork w x
    → IsAtWork w (record { local = record x.local { hands = bare_hand f ∷ x.local.hands; string = Some string; spot = InMoveSet LoadMoved move }; chains = [] ∷ x.chains; string = gs })
moved-work w x move string f gs is hands held cursor string_held ended ok = grind arith

pub at_FollowSet : (w : World) (x : Worker) (others : List Worker) (move : MoveSet) (word : ℕ) → x.local.spot ≡ InMoveSet FollowSet move → w.link (string_of x.local).front ≡ word → Stands w (x ∷ others)
    → ComesTo w others (move_set_advance w.setup w.value x.local FollowSet move (Word word)).local
at_FollowSet w x others move word is there s = by_string x.local.string refl
  where
    ok : IsAtWork w x
    ok = All-head (IsAtWork w) x others s.fresh.workers

    by_slabs : (string : PartialString) → x.local.string ≡ Some string → (f g : ℕ) (gs : List ℕ) → x.string ≡ f ∷ g ∷ gs
        → ComesTo w others (record x.local { hands = bare_hand string.front ∷ x.local.hands; string = Some (taken_string (word % 2 ^ 16) (string.count - 1)); spot = InMoveSet LoadMoved move })
    by_slabs string e f g gs slabs =
        let held : IsHeldString w x.local.cache (Some string) (f ∷ g ∷ gs) = rw (e, slabs) at ok.seen.string in
        let cursor : IsCursor string (f ∷ g ∷ gs) = rw (e, slabs) at ok.spot.string in
        let ended : string.link ≡ Some 0 = rw e at (ok.spot.ended (rw is refl)) in
        let link : w.link string.front ≡ word = rw e at there in
        let small = s.fresh.worded.link string.front in
        let same : word % 2 ^ 16 ≡ w.link string.front = omega arith in
        let next : w.link string.front ≡ g = ap w.link held.0.0 ∙ held.0.1.0 in
        let rest : AreHands (beside_move move) x.local.hands x.chains = rw is at ok.spot.hands in
        let mine : AreHeld w x.local.cache (beside_move move) x.local.hands x.chains 0 = rw is at ok.seen.hands in
        let front = front-kept w x others string f g gs (beside_move move) s held rest mine in (
          record { local = record x.local { hands = bare_hand string.front ∷ x.local.hands; string = Some (taken_string (w.link string.front) (string.count - 1)); spot = InMoveSet LoadMoved move }; chains = [] ∷ x.chains; string = g ∷ gs },
          rw same refl,
          local_step w x _ others s
              (λ h i. let c = in_chain-nil string.front h i in omega arith)
              (record { home = λ h. rw (slabs, held.0.0) (let t = times-first h f (g ∷ gs) in omega arith); marked = λ h. rw is refl; covered = λ h. refl; takes = λ n. rw is refl })
              (moved-work w x move (taken_string (w.link string.front) (string.count - 1)) string.front (g ∷ gs) is front.0 front.1 (rest-cursor string f g gs (w.link string.front) cursor next) (rest-held w x.local.cache string f g gs ended held) refl ok),
        )

    by_string : (string : Option PartialString) → x.local.string ≡ string → ComesTo w others (move_set_advance w.setup w.value x.local FollowSet move (Word word)).local
    by_string None e = absurd (let least : 2 ≤ (string_of x.local).count = rw is at ok.spot.least in let z : 2 ≤ 0 = rw e at least in omega arith)
    by_string (Some string) e =
        let least : 2 ≤ (string_of x.local).count = rw is at ok.spot.least in
        let two : 2 ≤ string.count = rw e at least in
        let cursor : IsStringOf (Some string) x.string = rw e at ok.spot.string in
        let r = two-slabs x.string (let c = cursor.count in omega arith) in
        rw e (by_slabs string e r.0 r.1 r.2 r.3)

-- ---- the walk along a string

-- what the link of a slab of a string leads to
string-next : (link : ℕ → ℕ) (front : ℕ) (fs : List ℕ) (k : ℕ) → suc k < length fs → IsString link front fs → link (slice_index fs k) ≡ slice_index fs (suc k)
string-next link front [] k below is = absurd (omega arith)
string-next link front (f ∷ []) k below is = absurd (omega arith)
string-next link front (f ∷ g ∷ gs) zero below is = is.1.0
string-next link front (f ∷ g ∷ gs) (suc k) below is = string-next link (link f) (g ∷ gs) k (omega arith) is.1

walk-work : (w : World) (x : Worker) (put : PutOnList) (old string : PartialString) → x.local.spot ≡ InPutOnList WalkString put → x.local.string ≡ Some old → string.front ≡ old.front → string.count ≡ old.count → string.link ≡ old.link
    → IsCursor string x.string → string.place < string.count → IsAtWork w x
    → IsAtWork w (record x { local = record x.local { string = Some string; spot = InPutOnList WalkString put } })
walk-work w x put old string is e front count link cursor more ok = grind arith

end-work : (w : World) (x : Worker) (put : PutOnList) (old string : PartialString) → x.local.spot ≡ InPutOnList WalkString put → x.local.string ≡ Some old → string.front ≡ old.front → string.count ≡ old.count → string.link ≡ old.link
    → IsCursor string x.string → string.place ≡ string.count → IsAtWork w x
    → IsAtWork w (record x { local = record x.local { string = Some string; spot = InPutOnList LinkString put } })
end-work w x put old string is e front count link cursor last ok = grind arith

pub at_WalkString : (w : World) (x : Worker) (others : List Worker) (put : PutOnList) (word : ℕ) → x.local.spot ≡ InPutOnList WalkString put → w.link (string_of x.local).cursor ≡ word → Stands w (x ∷ others)
    → ComesTo w others (put_on_list_advance x.local WalkString put (Word word)).local
at_WalkString w x others put word is there s = by_string x.local.string refl
  where
    ok : IsAtWork w x
    ok = All-head (IsAtWork w) x others s.fresh.workers

    by_string : (string : Option PartialString) → x.local.string ≡ string → ComesTo w others (put_on_list_advance x.local WalkString put (Word word)).local
    by_string None e = absurd (let least : 1 ≤ (string_of x.local).count = rw is at ok.spot.least in let z : 1 ≤ 0 = rw e at least in omega arith)
    by_string (Some old) e =
        let string = with_cursor old (word % 2 ^ 16) in
        let cursor : IsCursor old x.string = rw e at ok.spot.string in
        let held : IsHeldString w x.local.cache (Some old) x.string = rw e at ok.seen.string in
        let before : old.place < old.count = rw e at (ok.spot.before_end (rw is refl)) in
        let link : w.link old.cursor ≡ word = rw e at there in
        let small = s.fresh.worded.link old.cursor in
        let p = cursor.place in
        let n = cursor.count in
        let up : suc (old.place - 1) ≡ old.place = omega arith in
        let next : w.link (slice_index x.string (old.place - 1)) ≡ slice_index x.string old.place = subst (λ k. w.link (slice_index x.string (old.place - 1)) ≡ slice_index x.string k) up (string-next w.link old.front x.string (old.place - 1) (omega arith) held.0) in
        let found : word ≡ slice_index x.string old.place = sym link ∙ ap w.link cursor.cursor ∙ next in
        let same : word % 2 ^ 16 ≡ word = omega arith in
        let back : old.place ≡ string.place - 1 = omega arith in
        let now : IsCursor string x.string = record { count = cursor.count; place = (omega arith, omega arith); cursor = same ∙ found ∙ ap (slice_index x.string) back } in
        rw e (
          record x { local = record x.local { string = Some string; spot = way_of_string string put } },
          refl,
          cond_both (nat_lt string.place string.count) (InPutOnList WalkString put) (InPutOnList LinkString put) (λ spot. Stands w (record x { local = record x.local { string = Some string; spot = spot } } ∷ others))
              (λ l. local_step w x _ others s (λ f i. refl) (record { home = λ f. refl; marked = λ f. rw is refl; covered = λ g. refl; takes = λ k. rw is refl }) (walk-work w x put old string is e refl refl refl now (ltb-true string.place string.count l) ok))
              (λ g. local_step w x _ others s (λ f i. refl) (record { home = λ f. refl; marked = λ f. rw is refl; covered = λ g. refl; takes = λ k. rw is refl }) (end-work w x put old string is e refl refl refl now (let l = ltb-false string.place string.count g in omega arith) ok)),
        )
