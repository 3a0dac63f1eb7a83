-- Kind 25, spot by spot: a list word is loaded.
use Rattle.std.proofs.Common.{◌≡◌, ◌≢◌, ℕ, ◌+◌, ◌-◌, ◌^◌, ◌<◌, ◌≤◌, true, Option, Some, None, List, [], ◌∷◌, ◌++◌, length, refl, ap, ◌∙◌, subst, arith, inl, inr}
use Rattle.std.specs.Prelude.{nat_lt}
use Rattle.std.proofs.lemmas.Bool.{cases_eq, cases_Bool, cond_both, ltb-true, ltb-false, eqb-true, false≢true}
use Rattle.std.proofs.lemmas.List.{length-append}
use Rattle.std.proofs.lemmas.List.Elements.{All-head}
use Rattle.slub_common.specs.Times.{times}
use Rattle.slub_common.proofs.Times.{times-append}
use Rattle.slub_cpu_partial.specs.declared.words.ListWord.{ListWord}
use Rattle.slub_cpu_partial.specs.Strings.{IsList}
use Rattle.slub_core.specs.declared.local.Hand.{Hand}
use Rattle.slub_core.specs.declared.local.PartialString.{PartialString}
use Rattle.slub_core.specs.declared.step.Answer.TheVariants.{Word}
use Rattle.slub_core.specs.declared.spot.Spot.{Spot}
use Rattle.slub_core.specs.declared.spot.Spot.TheVariants.{InPutOnList, InFree}
use Rattle.slub_core.specs.declared.spot.PutOnList.{PutOnList}
use Rattle.slub_core.specs.declared.spot.PutOnList.TheVariants.{OfFree}
use Rattle.slub_core.specs.declared.spot.PutOnListSpot.TheVariants.{LoadList, WalkString, LinkString, PushString}
use Rattle.slub_core.specs.declared.spot.FreeSpot.TheVariants.{LoadCount, TakeSet}
use Rattle.slub_core.specs.Words.{list_in}
use Rattle.slub_core.specs.World.{World, Links}
use Rattle.slub_core.specs.Local.{Worker, string_of}
use Rattle.slub_core.specs.Ops.{own_cpu}
use Rattle.slub_core.specs.Alloc.{single_string}
use Rattle.slub_core.specs.PutOnList.{put_on_list_advance, leads_to, way_of_string, way_of_front}
use Rattle.slub_core.specs.Free.{free_advance, is_long, count_loaded}
use Rattle.slub_core.specs.Spots.{Kept}
use Rattle.slub_core.specs.Listed.{homes}
use Rattle.slub_core.specs.Fresh.{AreHands, AreHeld, IsCursor, IsStringOf, IsHeldString, IsAtWork}
use Rattle.slub_core.specs.Coherent.{Stands}
use Rattle.slub_core.proofs.Changes.{own-word}
use Rattle.slub_core.proofs.Counts.{homes-cons}
use Rattle.slub_core.proofs.Exists.{home-live, times-self}
use Rattle.slub_core.proofs.GiveMove.{single-cursor, alone-held}
use Rattle.slub_core.proofs.StepHands.{one-hand, in_chain-nil}
use Rattle.slub_core.proofs.Homes.{live-most, on-list}
use Rattle.slub_core.proofs.Lists.{times-first}
use Rattle.slub_core.proofs.LocalStep.{local_step}
use Rattle.slub_core.proofs.Locks.{ComesTo}
use Rattle.slub_core.proofs.Pigeon.{length-below}
use Rattle.slub_core.proofs.Update.{term_le_sum}
use Rattle.slub_core.proofs.StepValues.{word-objects}

-- ---- what a list word says of its slabs

-- no slab is slab 0
pub list-real : (w : World) (xs : List Worker) (n : ℕ) (s : Stands w xs) → n < w.setup.cpu_words → times 0 (s.chains.list n) ≡ 0
list-real w xs n s below = let z = s.listed.shaped.no_lists in let t = term_le_sum w.setup.cpu_words (λ k. times 0 (s.chains.list k)) n below in omega arith

-- and each is one among the frames
pub listed-below : (w : World) (x : Worker) (others : List Worker) (n f : ℕ) (s : Stands w (x ∷ others)) → n < w.setup.cpu_words → f ≢ 0 → 1 ≤ times f (s.chains.list n) → f < w.setup.frames
listed-below w x others n f s below real some =
    let a = on-list w s.chains n f below some in
    let h = homes-cons w s.chains x others f in
    let live = home-live w s.chains (x ∷ others) f s.listed real (omega arith) in
    let e = word-objects w f live in
    s.listed.shaped.within f (omega arith)

-- it has a front and a count, or neither
pub is-list : (w : World) (xs : List Worker) (n : ℕ) (s : Stands w xs) → n < w.setup.cpu_words → IsList (w.list n).front (w.list n).count
is-list w xs n s below = by_slabs (s.chains.list n) (s.listed.shaped.string n below) (s.listed.shaped.count n below) (list-real w xs n s below)
  where
    by_slabs : (fs : List ℕ) → Links w.link (w.list n).front fs 0 → (w.list n).count ≡ length fs → times 0 fs ≡ 0 → IsList (w.list n).front (w.list n).count
    by_slabs [] links count none = inl (links, count)
    by_slabs (f ∷ fs) links count none = elim (cases_eq f 0) [
      | inl e ↦ absurd (let t : 1 ≤ times 0 (f ∷ fs) = subst (λ g. 1 ≤ times g (f ∷ fs)) e (times-self f fs) in omega arith)
      | inr d ↦ inr (let a = links.0 in omega (arith, d), omega arith)
    ]

-- the slabs of a list and those of a string in hand are different ones among the frames
pub lists-fit : (w : World) (x : Worker) (others : List Worker) (n : ℕ) (s : Stands w (x ∷ others)) → n < w.setup.cpu_words → times 0 x.string ≡ 0
    → (w.list n).count + length x.string ≤ w.setup.frames - 1
lists-fit w x others n s below none =
    let fs = s.chains.list n in
    let c = s.listed.shaped.count n below in
    let frames = s.fresh.setup.frames in
    let real = list-real w (x ∷ others) n s below in
    let both : (g : ℕ) → times g (fs ++ x.string) ≡ times g fs + times g x.string = λ g. times-append g fs x.string in
    let within : (g : ℕ) → g ≢ 0 → times g fs + times g x.string ≤ homes w s.chains (x ∷ others) g = λ g some. let h = homes-cons w s.chains x others g in let t = term_le_sum w.setup.cpu_words (λ k. times g (s.chains.list k)) n below in omega arith in
    let small : (g : ℕ) → times g (fs ++ x.string) ≤ 1 = λ g. let b = both g in elim (cases_eq g 0) [
      | inl e ↦ (let r : times g fs ≡ 0 = ap (λ k. times k fs) e ∙ real in let q : times g x.string ≡ 0 = ap (λ k. times k x.string) e ∙ none in omega arith)
      | inr d ↦ (let h = within g d in let o = s.listed.once g d in let m = live-most (w.slab g) in omega arith)
    ] in
    let past : (g : ℕ) → w.setup.frames ≤ g → times g (fs ++ x.string) ≡ 0 = λ g above. let b = both g in elim (cases_eq (times g (fs ++ x.string)) 0) [
      | inl e ↦ e
      | inr d ↦ absurd (
          let h = within g (λ e. absurd (omega arith)) in
          let live = home-live w s.chains (x ∷ others) g s.listed (λ e. absurd (omega arith)) (omega (arith, d)) in
          let e = word-objects w g live in
          let f = s.listed.shaped.within g (omega arith) in
          omega arith)
    ] in
    let l = length-below w.setup.frames (fs ++ x.string) (omega arith) small past (let b = both 0 in omega arith) in
    let a = length-append fs x.string in
    omega arith

-- a string in hand has no slab 0
pub string-real : (w : World) (cache : ℕ) (string : Option PartialString) (fs : List ℕ) → IsStringOf string fs → IsHeldString w cache string fs → times 0 fs ≡ 0
string-real w cache None fs is held = rw is refl
string-real w cache (Some string) fs is held = elim (cases_eq (times 0 fs) 0) [ inl e ↦ e | inr d ↦ absurd (let h = (held.2 0 (omega (arith, d))).0 in omega arith) ]

-- ---- before a string is put on the list

abbrev IsListWord : ListWord → Type 0
IsListWord v = (v.front < 2 ^ 16) × (v.count < 2 ^ 16)

abbrev with_list : Worker → ListWord → Spot → Worker
with_list x v spot = record x { local = record x.local { list_word = v; spot = spot } }

push-work : (w : World) (x : Worker) (put : PutOnList) (v : ListWord) → x.local.spot ≡ InPutOnList LoadList put → IsListWord v → IsList v.front v.count × (v.count + (string_of x.local).count ≤ w.setup.frames - 1)
    → (string_of x.local).link ≡ Some v.front → IsAtWork w x → IsAtWork w (with_list x v (InPutOnList PushString put))
push-work w x put v is fits list linked ok = grind arith

walk-work : (w : World) (x : Worker) (put : PutOnList) (v : ListWord) → x.local.spot ≡ InPutOnList LoadList put → IsListWord v → IsList v.front v.count × (v.count + (string_of x.local).count ≤ w.setup.frames - 1)
    → (string_of x.local).place < (string_of x.local).count → IsAtWork w x → IsAtWork w (with_list x v (InPutOnList WalkString put))
walk-work w x put v is fits list more ok = grind arith

link-work : (w : World) (x : Worker) (put : PutOnList) (v : ListWord) → x.local.spot ≡ InPutOnList LoadList put → IsListWord v → IsList v.front v.count × (v.count + (string_of x.local).count ≤ w.setup.frames - 1)
    → (string_of x.local).place ≡ (string_of x.local).count → IsAtWork w x → IsAtWork w (with_list x v (InPutOnList LinkString put))
link-work w x put v is fits list last ok = grind arith

leads-to : (to : Option ℕ) (front : ℕ) → leads_to to front ≡ true → to ≡ Some front
leads-to None front e = absurd (false≢true e)
leads-to (Some link) front e = ap (λ k. Some k) (eqb-true link front e)

pub at_LoadList : (w : World) (x : Worker) (others : List Worker) (put : PutOnList) (word : ℕ) → x.local.spot ≡ InPutOnList LoadList put → w.list (own_cpu x.local) ≡ list_in word → Stands w (x ∷ others)
    → ComesTo w others (put_on_list_advance x.local LoadList put (Word word)).local
at_LoadList w x others put word is there s = (with_list x v (way_of_front (string_of x.local) v.front put), refl, by_front)
  where
    v : ListWord
    v = list_in word

    n : ℕ
    n = own_cpu x.local

    ok : IsAtWork w x
    ok = All-head (IsAtWork w) x others s.fresh.workers

    below : n < w.setup.cpu_words
    below = (own-word w x others s (rw is refl)).0

    packed : IsListWord v
    packed = subst IsListWord there (s.fresh.worded.list n)

    GoesTo : Spot → Type 0
    GoesTo spot = Stands w (with_list x v spot ∷ others)

    counted : (string : Option PartialString) → x.local.string ≡ string → (length x.string ≡ (string_of x.local).count) × ((string_of x.local).place ≤ (string_of x.local).count)
    counted None e = absurd (let least : 1 ≤ (string_of x.local).count = rw is at ok.spot.least in let z : 1 ≤ 0 = rw e at least in omega arith)
    counted (Some string) e = let c : IsCursor string x.string = rw e at ok.spot.string in rw e (c.count, c.place.1)

    list : IsList v.front v.count × (v.count + (string_of x.local).count ≤ w.setup.frames - 1)
    list =
        let a = subst (λ (c : ListWord). IsList c.front c.count) there (is-list w (x ∷ others) n s below) in
        let b = subst (λ (c : ListWord). c.count + length x.string ≤ w.setup.frames - 1) there (lists-fit w x others n s below (string-real w x.local.cache x.local.string x.string ok.spot.string ok.seen.string)) in
        let c = counted x.local.string refl in
        (a, omega arith)

    by_place : GoesTo (way_of_string (string_of x.local) put)
    by_place = cond_both (nat_lt (string_of x.local).place (string_of x.local).count) (InPutOnList WalkString put) (InPutOnList LinkString put) GoesTo
        (λ e. local_step w x _ others s (λ f i. refl) (record { home = λ f. refl; marked = λ f. rw is refl; covered = λ g. refl; takes = λ k. rw is refl }) (walk-work w x put v is packed list (ltb-true (string_of x.local).place (string_of x.local).count e) ok))
        (λ e. local_step w x _ others s (λ f i. refl) (record { home = λ f. refl; marked = λ f. rw is refl; covered = λ g. refl; takes = λ k. rw is refl }) (link-work w x put v is packed list (let l = ltb-false (string_of x.local).place (string_of x.local).count e in let c = counted x.local.string refl in omega arith) ok))

    by_front : GoesTo (way_of_front (string_of x.local) v.front put)
    by_front = cond_both (leads_to (string_of x.local).link v.front) (InPutOnList PushString put) (way_of_string (string_of x.local) put) GoesTo
        (λ e. local_step w x _ others s (λ f i. refl) (record { home = λ f. refl; marked = λ f. rw is refl; covered = λ g. refl; takes = λ k. rw is refl }) (push-work w x put v is packed list (leads-to (string_of x.local).link v.front e) ok))
        (λ e. by_place)

-- ---- before a list is moved, where it is long

take_set-work : (w : World) (x : Worker) (v : ListWord) → x.local.spot ≡ InFree LoadCount → IsListWord v → IsAtWork w x → IsAtWork w (with_list x v (InFree TakeSet))
take_set-work w x v is fits ok = grind arith

alone-work : (w : World) (x : Worker) (v : ListWord) (f : ℕ) → x.local.spot ≡ InFree LoadCount → IsListWord v → IsCursor (single_string f) (f ∷ []) → IsHeldString w x.local.cache (Some (single_string f)) (f ∷ []) → IsAtWork w x
    → IsAtWork w (record x { local = record x.local { list_word = v; hands = []; string = Some (single_string f); spot = InPutOnList LoadList OfFree }; chains = []; string = f ∷ [] })
alone-work w x v f is fits cursor held ok = grind arith

-- the slab in hand, by what the worker relies on
pub kept-alone : (w : World) (x : Worker) (h : Hand) (xs : List ℕ) → AreHands (Kept ∷ []) (h ∷ []) (xs ∷ []) → AreHeld w x.local.cache (Kept ∷ []) (h ∷ []) (xs ∷ []) 0 → (xs ≡ []) × IsHeldString w x.local.cache (Some (single_string h.frame)) (h.frame ∷ [])
kept-alone w x h xs hands held = (hands.3.1, alone-held w x.local.cache h.frame hands.0 (record { owner = held.1; unfrozen = held.2.0; unlisted = held.2.1; head = held.2.2 }))

pub at_LoadCount : (w : World) (x : Worker) (others : List Worker) (word : ℕ) → x.local.spot ≡ InFree LoadCount → w.list (own_cpu x.local) ≡ list_in word → Stands w (x ∷ others)
    → ComesTo w others (free_advance w.setup x.local LoadCount (Word word)).local
at_LoadCount w x others word is there s =
    let ok = All-head (IsAtWork w) x others s.fresh.workers in
    let r = one-hand Kept x.local.hands x.chains (rw is at ok.spot.hands) in
    by_length r.0 r.1 r.2 r.3 ok
  where
    v : ListWord
    v = list_in word

    packed : IsListWord v
    packed = subst IsListWord there (s.fresh.worded.list (own_cpu x.local))

    by_length : (h : Hand) (xs : List ℕ) → x.local.hands ≡ h ∷ [] → x.chains ≡ xs ∷ [] → IsAtWork w x → ComesTo w others (count_loaded w.setup x.local v)
    by_length h xs one chain ok = elim (cases_Bool (is_long w.setup x.local v)) [
      | inl e ↦ rw e (with_list x v (InFree TakeSet), refl, local_step w x _ others s (λ f i. refl) (record { home = λ f. refl; marked = λ f. rw is refl; covered = λ g. refl; takes = λ k. rw is refl }) (take_set-work w x v is packed ok))
      | inr e ↦
          let k = kept-alone w x h xs (rw (is, one, chain) at ok.spot.hands) (rw (is, one, chain) at ok.seen.hands) in
          let bare : x.chains ≡ [] ∷ [] = chain ∙ ap (λ ys. ys ∷ []) k.0 in
          let none : x.local.string ≡ None = ok.spot.no_string (rw is refl) in
          let empty : x.string ≡ [] = rw none at ok.spot.string in
          let f = h.frame in
          rw e (
            record x { local = record x.local { list_word = v; hands = []; string = Some (single_string f); spot = InPutOnList LoadList OfFree }; chains = []; string = f ∷ [] },
            rw one refl,
            local_step w x _ others s
                (λ g i. rw (one, bare) (let c = in_chain-nil f g i in omega arith))
                (record { home = λ g. rw (one, empty) (let t = times-first g f [] in omega arith); marked = λ g. rw is refl; covered = λ g. refl; takes = λ n. rw is refl })
                (alone-work w x v f is packed (single-cursor f) k.1 ok),
          )
    ]
