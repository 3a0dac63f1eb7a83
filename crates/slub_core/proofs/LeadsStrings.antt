-- The step of a spot, on the table of words: list words and links are loaded.
use Rattle.std.proofs.Common.{◌≡◌, ℕ, ◌+◌, ◌-◌, ◌<◌, ◌≤◌, Option, Some, None, List, [], ◌∷◌, get_or, refl, sym, arith}
use Rattle.slub_common.specs.Times.{times}
use Rattle.slub_core.specs.declared.local.PartialString.{PartialString}
use Rattle.slub_core.specs.declared.spot.Spot.TheVariants.{InAlloc, InPutOnList, InFree, InMoveSet}
use Rattle.slub_core.specs.declared.spot.AllocSpot.TheVariants.{FollowFront}
use Rattle.slub_core.specs.declared.spot.PutOnList.{PutOnList}
use Rattle.slub_core.specs.declared.spot.PutOnListSpot.TheVariants.{LoadList, WalkString}
use Rattle.slub_core.specs.declared.spot.FreeSpot.TheVariants.{LoadCount}
use Rattle.slub_core.specs.declared.spot.MoveSet.{MoveSet}
use Rattle.slub_core.specs.declared.spot.MoveSetSpot.TheVariants.{FollowSet}
use Rattle.slub_core.specs.declared.step.Place.TheVariants.{ListOf, LinkOf}
use Rattle.slub_core.specs.Words.{list_base, link_base}
use Rattle.slub_core.specs.World.{World, world_from, world_of}
use Rattle.slub_core.specs.Local.{Worker, string_of}
use Rattle.slub_core.specs.Ops.{own_cpu}
use Rattle.slub_core.specs.Fresh.{IsStringOf, IsHeldString}
use Rattle.slub_core.specs.Steps.{advance_at}
use Rattle.slub_core.specs.Coherent.{Stands}
use Rattle.slub_core.proofs.Exists.{times-self}
use Rattle.slub_core.proofs.Lists.{times-at}
use Rattle.slub_core.proofs.Leads.{AtSpot, at_work, cpu_below, home_below}
use Rattle.slub_core.proofs.StepWords.{list-read, link-read}
use Rattle.slub_core.proofs.WordSteps.{load}
use Rattle.slub_core.proofs.Kind25.{at_LoadList, at_LoadCount}
use Rattle.slub_core.proofs.Kind27.{at_FollowFront, at_FollowSet, at_WalkString}
use Rattle.slub_core.proofs.Accounts.{Reaches}
use Rattle.slub_core.proofs.TaleSteps.{quietly}
use Rattle.slub_core.proofs.TaleSpots.{unseen-same}
use Rattle.slub_core.specs.declared.step.Answer.TheVariants.{Word}

-- ---- slabs of a string in hand are among the frames

-- a slab that stands in the string
string_below : (w : World) (x : Worker) (others : List Worker) (f : ℕ) → Stands w (x ∷ others) → 1 ≤ f → 1 ≤ times f x.string → f < w.setup.frames
string_below w x others f s real on = home_below w x others f s (λ z. absurd (omega arith)) (omega arith)

pub front_below : (w : World) (x : Worker) (others : List Worker) → Stands w (x ∷ others) → 1 ≤ (string_of x.local).count → (string_of x.local).front < w.setup.frames
front_below w x others s some = by_string x.local.string x.string refl refl (at_work w x others s).spot.string (at_work w x others s).seen.string
  where
    by_string : (string : Option PartialString) (frames : List ℕ) → x.local.string ≡ string → x.string ≡ frames → IsStringOf string frames → IsHeldString w x.local.cache string frames → (string_of x.local).front < w.setup.frames
    by_string None frames e l is held = absurd (let z : 1 ≤ 0 = rw e at some in omega arith)
    by_string (Some string) [] e l is held = absurd (let c = is.count in let z : 1 ≤ string.count = rw e at some in omega arith)
    by_string (Some string) (f ∷ fs) e l is held =
        let on = times-self f fs in
        let real = (held.2 f on).0 in
        let below = string_below w x others f s real (rw l on) in
        rw (e, held.0.0) below

pub cursor_below : (w : World) (x : Worker) (others : List Worker) → Stands w (x ∷ others) → 1 ≤ (string_of x.local).count → (string_of x.local).cursor < w.setup.frames
cursor_below w x others s some = by_string x.local.string x.string refl refl (at_work w x others s).spot.string (at_work w x others s).seen.string
  where
    by_string : (string : Option PartialString) (frames : List ℕ) → x.local.string ≡ string → x.string ≡ frames → IsStringOf string frames → IsHeldString w x.local.cache string frames → (string_of x.local).cursor < w.setup.frames
    by_string None frames e l is held = absurd (let z : 1 ≤ 0 = rw e at some in omega arith)
    by_string (Some string) frames e l is held =
        let count = is.count in
        let place = is.place in
        let on = times-at string.cursor frames (string.place - 1) (omega arith) (sym is.cursor) in
        let real = (held.2 string.cursor on).0 in
        let below = string_below w x others string.cursor s real (rw l on) in
        rw e below

-- ---- list words

pub leads_LoadList : (put : PutOnList) → AtSpot (InPutOnList LoadList put)
unfolding world_of world_from
leads_LoadList put opening m value words x others t is s ac =
    let w = world_of m value words in
    let n = own_cpu x.local in
    load m value words (ListOf n) (λ v a. Reaches opening v others (advance_at m value x.local (InPutOnList LoadList put) a))
    (at_LoadList w x others put (get_or words (list_base + n) 0) is (list-read m value words n (cpu_below m value words x others t (rw is refl) s)) s, quietly opening w w value x others (InPutOnList LoadList put) (Word (get_or words (list_base + n) 0)) is ac (unseen-same w) refl refl)

pub leads_LoadCount : AtSpot (InFree LoadCount)
unfolding world_of world_from
leads_LoadCount opening m value words x others t is s ac =
    let w = world_of m value words in
    let n = own_cpu x.local in
    load m value words (ListOf n) (λ v a. Reaches opening v others (advance_at m value x.local (InFree LoadCount) a))
    (at_LoadCount w x others (get_or words (list_base + n) 0) is (list-read m value words n (cpu_below m value words x others t (rw is refl) s)) s, quietly opening w w value x others (InFree LoadCount) (Word (get_or words (list_base + n) 0)) is ac (unseen-same w) refl refl)

-- ---- links

pub leads_FollowFront : AtSpot (InAlloc FollowFront)
unfolding world_of world_from
leads_FollowFront opening m value words x others t is s ac =
    let w = world_of m value words in
    let f = (string_of x.local).front in
    let least : 2 ≤ (string_of x.local).count = rw is at (at_work w x others s).spot.least in
    load m value words (LinkOf f) (λ v a. Reaches opening v others (advance_at m value x.local (InAlloc FollowFront) a))
    (at_FollowFront w x others (get_or words (link_base m + f) 0) is (link-read m value words f (front_below w x others s (omega arith))) s, quietly opening w w value x others (InAlloc FollowFront) (Word (get_or words (link_base m + f) 0)) is ac (unseen-same w) refl refl)

pub leads_FollowSet : (move : MoveSet) → AtSpot (InMoveSet FollowSet move)
unfolding world_of world_from
leads_FollowSet move opening m value words x others t is s ac =
    let w = world_of m value words in
    let f = (string_of x.local).front in
    let least : 2 ≤ (string_of x.local).count = rw is at (at_work w x others s).spot.least in
    load m value words (LinkOf f) (λ v a. Reaches opening v others (advance_at m value x.local (InMoveSet FollowSet move) a))
    (at_FollowSet w x others move (get_or words (link_base m + f) 0) is (link-read m value words f (front_below w x others s (omega arith))) s, quietly opening w w value x others (InMoveSet FollowSet move) (Word (get_or words (link_base m + f) 0)) is ac (unseen-same w) refl refl)

pub leads_WalkString : (put : PutOnList) → AtSpot (InPutOnList WalkString put)
unfolding world_of world_from
leads_WalkString put opening m value words x others t is s ac =
    let w = world_of m value words in
    let f = (string_of x.local).cursor in
    let least : 1 ≤ (string_of x.local).count = rw is at (at_work w x others s).spot.least in
    load m value words (LinkOf f) (λ v a. Reaches opening v others (advance_at m value x.local (InPutOnList WalkString put) a))
    (at_WalkString w x others put (get_or words (link_base m + f) 0) is (link-read m value words f (cursor_below w x others s least)) s, quietly opening w w value x others (InPutOnList WalkString put) (Word (get_or words (link_base m + f) 0)) is ac (unseen-same w) refl refl)
