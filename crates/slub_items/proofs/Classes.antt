-- The board after a `kmalloc`, a `kget` and a `krealloc`.
use Rattle.std.proofs.Common.{◌≡◌, ◌≢◌, ℕ, ◌+◌, ◌<◌, ◌≤◌, ◌&&◌, not, Bool, true, false, List, [], ◌∷◌, length, get_or, refl, sym, ◌∙◌, ap, subst, All, arith, Option, Some, None, IsSome, Result, Ok, Err, is_some}
use Rattle.std.specs.List.{list_any, range_with_len}
use Rattle.std.specs.Option.{option_map_or}
use Rattle.std.specs.Str.{bytes_eq}
use Rattle.std.proofs.lemmas.List.Elements.{All-cons, All-head, All-nil}
use Rattle.std.proofs.lemmas.List.Quantifiers.{position-Some}
use Rattle.slub_trace.specs.declared.event.Act.TheVariants.{Alloc, Free}
use Rattle.slub_object_layout.specs.Layout.{address_of, is_checked, no_layout}
use Rattle.slub_object_layout.specs.declared.layout.Spec.{Spec}
use Rattle.slub_trace.specs.declared.create.Created.{Created}
use Rattle.slub_trace.specs.declared.create.Created.TheVariants.{New, Merged}
use Rattle.slub_trace.specs.declared.create.CreateRefusal.{CreateRefusal}
use Rattle.slub_trace.specs.declared.reply.Reply.{Reply}
use Rattle.slub_trace.specs.declared.reply.Reply.TheVariants as reply
use Rattle.slub_trace.specs.Kinds.{is_freed, is_given}
use Rattle.slub_cache_create.specs.Table.{cache_of as live_cache}
use Rattle.slub_cache_create.specs.declared.caches.Cache.{Cache}
use Rattle.slub_lists.specs.declared.lists.Held.{Held}
use Rattle.slub_lists.specs.State.{State}
use Rattle.slub_lists.specs.Alloc.{cache_of, checked_of}
use Rattle.slub_lists.specs.Coherent.{IsCoherent, held_under}
use Rattle.slub_lists.specs.Places.{layout_at}
use Rattle.slub_lists.proofs.CheckedSlabs.{at_some}
use Rattle.slub_trace.specs.declared.trace.Client.{Client as Asked}
use Rattle.slub_trace.specs.declared.trace.Client.TheVariants as line
use Rattle.slub_trace.specs.declared.trace.Trace.{Trace}
use Rattle.slub_trace.specs.Classes.{class_names}
use Rattle.slub_calls.specs.Laws.{MayDo}
use Rattle.slub_slabinfo_text.specs.declared.client.CacheRefusal.{CacheRefusal}
use Rattle.slub_slabinfo_text.specs.declared.client.CacheRefusal.TheVariants as why
use Rattle.slub_slabinfo_text.specs.declared.client.ClientAnswer.{ClientAnswer}
use Rattle.slub_slabinfo_text.specs.declared.client.ClientAnswer.TheVariants as answer
use Rattle.slub_slabinfo_text.specs.declared.client.ClientDone.{ClientDone}
use Rattle.slub_slabinfo_text.specs.declared.client.ClientRound.{ClientRound}
use Rattle.slub_slabinfo_text.specs.Asked.{refusal_of, round_of}
use Rattle.slub_slabinfo_text.specs.Classes.{class_place}
use Rattle.slub_slabinfo_text.specs.Lawful.{CreatesName, IsUnheld}
use Rattle.slub_law_rounds.specs.Round.{IsRound}
use Rattle.slub_law_rounds.proofs.Steps.{match_bool, match_either, match_some}
use Rattle.slub_law_rounds.proofs.Times.{once_times}
use Rattle.slub_rounds.specs.Heap.{HeapState}
use Rattle.slub_rounds.specs.TextLaws.{RoundsByTextAreLawful}
use Rattle.slub_rounds.specs.Asked.{AnswersAtOnce, DoesAsked, IsOpenTo, IsServable}
use Rattle.slub_rounds.specs.BulkLines.{AddsNumbers}
use Rattle.slub_rounds.specs.Kmalloc.{CreatesClasses, MovesOn, ServesClasses, ServesKget, ServesKrealloc, TakesOfClass, class_name, given_answer, is_enough, is_kmalloc, names_cache, place_of_class}
use Rattle.slub_rounds.specs.ClientLaws.{AllocationsMayBeDone, FreesMayBeDone, IsNumber}
use Rattle.slub_rounds.proofs.Allowed.{one-differs}
use Rattle.slub_rounds.proofs.ClientReplies.{one_reply}
use Rattle.slub_rounds.proofs.Staying.{open-fewer}
use Rattle.slub_bulk.proofs.Boards.{asked_lawful, frees-follow}
use Rattle.slub_bulk.proofs.Plain.{IsPlain, frees-plain, held-plain}
use Rattle.slub_items.specs.Leaves.{LeavesClasses, MovesNumber}
use Rattle.slub_items.proofs.Ones.{IsAsBefore, freed-gone, freed-others, given-at, given-board, given-there, mine-alone, refused-board}

pub same-board : (h after : HeapState) → after ≡ h → IsAsBefore h.lists after.lists
same-board h after is object = ap (λ (t : HeapState). held_under t.lists object) is

-- ---- creations

creates-board : (s : State) (name : List ℕ) (spec : Spec) (told : Result Created CreateRefusal) (after : State) → CreatesName s name spec told after → after.board ≡ s.board
creates-board s name spec (Ok (New cache)) after done =
    match_some (live_cache done.2.0 cache) _ (after.board ≡ s.board) done.2.2 (λ live is made. ap (λ (t : State). t.board) made)
creates-board s name spec (Ok (Merged cache title)) after done = ap (λ (t : State). t.board) done.2.2
creates-board s name spec (Err why) after done = ap (λ (t : State). t.board) done.1

classes-board : (h : HeapState) (trace : Trace) (classes : List ℕ) (answers : List (Result Created CreateRefusal)) (after : HeapState) → CreatesClasses h trace classes answers after → after.lists.board ≡ h.lists.board
classes-board h trace [] [] after done = ap (λ (t : HeapState). t.lists.board) done
classes-board h trace [] (told ∷ answers) after done = absurd done
classes-board h trace (class ∷ classes) [] after done = absurd done
classes-board h trace (class ∷ classes) (told ∷ answers) after done = classes-board done.0 trace classes answers after done.2 ∙ creates-board h.lists _ _ told done.0.lists done.1.creates

-- ---- an object of a class

-- a refusal gives nothing
pub refused-given : (told : Reply) (why : CacheRefusal) → refusal_of told ≡ Some why → is_given told ≡ false
refused-given (reply.Given address) why is = absurd (let never : None ≡ Some why = is in cc)
refused-given told why is = refl

module _ (lawful : RoundsByTextAreLawful) (may : AllocationsMayBeDone) (h : HeapState) (trace : Trace) (cpu class object : ℕ) (rounds : List ClientRound) (after : HeapState) (is_open : IsOpenTo h trace 1) (within : cpu < trace.cpus) (known : IsNumber h object) (unheld : IsUnheld h.lists object) where
  -- its allocation may be done, and is lawful
  alloc-may : (place : ℕ) → place_of_class trace class ≡ Some place → MayDo h.lists trace (round_of cpu (Alloc place object ∷ []))
  alloc-may place is =
      may h trace cpu place (object ∷ []) is_open within (position-Some (bytes_eq (class_name class)) trace.names place [] is).0 (All-cons (IsNumber h) object [] known (All-nil (IsNumber h))) (All-cons (IsUnheld h.lists) object [] unheld (All-nil (IsUnheld h.lists))) (one-differs object)

  alloc-law : (place : ℕ) (round : ClientRound) → place_of_class trace class ≡ Some place → DoesAsked h cpu (Alloc place object ∷ []) round after → IsRound h.lists (round_of cpu (Alloc place object ∷ [])) round.result after.lists
  alloc-law place round is does = asked_lawful h trace cpu (Alloc place object ∷ []) round after lawful is_open.sound.coherent is_open.rest (alloc-may place is) does

  pub refused-class : (why : CacheRefusal) → TakesOfClass h trace cpu class object rounds (Err why) after → IsAsBefore h.lists after.lists
  refused-class why takes = match_either (place_of_class trace class) _ _ (IsAsBefore h.lists after.lists) takes
      (λ none nothing. same-board h after nothing.2)
      (λ place is done. refused-board h.lists cpu place object done.0.result after.lists unheld (alloc-law place done.0 is done.3) done.1 done.4 (refused-given done.1 why done.5))

  pub record Given (address : ℕ) : Type 0 where
    pub place : ℕ
    pub round : ClientRound
    pub allowed : MayDo h.lists trace (round_of cpu (Alloc place object ∷ []))
    pub law : IsRound h.lists (round_of cpu (Alloc place object ∷ [])) round.result after.lists
    pub told : round.result.replies ≡ reply.Given address ∷ []

  pub given-class : (address : ℕ) → TakesOfClass h trace cpu class object rounds (Ok address) after → Given address
  given-class address takes = match_either (place_of_class trace class) _ _ (Given address) takes
      (λ none nothing. absurd (let never : Ok address ≡ Err why.NoSuchCache = nothing.1 in cc))
      (λ place is done. record { place = place; round = done.0; allowed = alloc-may place is; law = alloc-law place done.0 is done.3; told = done.4 ∙ ap (λ (r : Reply). r ∷ []) done.5 })

-- ---- a move

module _ (s : State) (cpu object fresh address : ℕ) (held : Held) (mid after : State) (place : ℕ) (first second : ClientRound) (coherent : IsCoherent s) (unheld : IsUnheld s fresh) (there : held_under s object ≡ Some held) (plain : is_kmalloc s held.cache ≡ true)
    (law : IsRound s (round_of cpu (Alloc place fresh ∷ [])) first.result mid) (told : first.result.replies ≡ reply.Given address ∷ []) (second-law : IsRound mid (round_of cpu (Free object ∷ [])) second.result after) where
  adds : AddsNumbers s (fresh ∷ []) mid
  adds = given-board s cpu place fresh first.result mid unheld law address told

  differ : object ≢ fresh
  differ e = let never : Some held ≡ None = sym there ∙ ap (held_under s) e ∙ unheld in cc

  some : IsSome (held_under s object)
  some = rw there refl

  still : held_under mid object ≡ Some held
  still = adds.stay object some ∙ there

  -- its cache isn't checked
  unchecked : IsSome (checked_of s held.cache) → ⊥
  unchecked was = by (cache_of s held.cache) refl
    where
      by : (x : Option Cache) → cache_of s held.cache ≡ x → ⊥
      by None e = let never : false ≡ true = sym (ap (λ (x : Option Cache). option_map_or (λ live. not (is_checked live.flags)) x false && list_any (names_cache s held.cache) class_names) e) ∙ plain in absurd (cc)
      by (Some live) e = of-flag (is_checked live.flags) refl
        where
          of-flag : (b : Bool) → is_checked live.flags ≡ b → ⊥
          of-flag true on =
              let never : false ≡ true =
              sym (ap (λ (x : Option Cache). option_map_or (λ live. not (is_checked live.flags)) x false && list_any (names_cache s held.cache) class_names) e ∙ ap (λ b. not b && list_any (names_cache s held.cache) class_names) on) ∙ plain in
              absurd (cc)
          of-flag false off =
              let has : is_checked live.flags ≡ is_some (checked_of s held.cache) = at_some (cache_of s held.cache) live (λ (live : Cache). is_checked live.flags ≡ is_some (checked_of s held.cache)) e (coherent.shaped.checked.all held.cache) in
              let never : false ≡ true = sym off ∙ has ∙ was in
              absurd (cc)

  -- so the second round frees the object
  ready : All (IsPlain mid) (object ∷ [])
  ready = All-cons (IsPlain mid) object [] (record { there = rw still refl; plain = held-plain s mid object held coherent law.coherent law.table still unchecked }) (All-nil (IsPlain mid))

  second-told : (told : Reply) × (second.result.replies ≡ told ∷ [])
  second-told = one_reply mid cpu (Free object) second.result after second-law

  freed : is_freed second-told.0 ≡ true
  freed =
      All-head (λ (told : Reply). is_freed told ≡ true) second-told.0 []
      (subst (All (λ (told : Reply). is_freed told ≡ true)) second-told.1 (frees-plain mid cpu (object ∷ []) second.result after second-law (λ x. once_times x (object ∷ []) (one-differs object)) ready))

  others : (x : ℕ) → x ≢ object → held_under after x ≡ held_under mid x
  others = freed-others mid cpu object second.result after second-law second-told.0 second-told.1 freed

  fresh-stays : held_under after fresh ≡ held_under mid fresh
  fresh-stays = others fresh (λ e. differ (sym e))

  pub moved : MovesNumber s object fresh address after
  moved = record {
    gone = freed-gone mid cpu object second.result after second-law second-told.0 second-told.1 freed;
    there = subst (λ (x : Option Held). IsSome x) (sym fresh-stays) (given-there s cpu place fresh first.result mid unheld law address told);
    at =
        ap (λ t. option_map_or (λ held. address_of held.frame held.index (option_map_or (λ live. live.layout) (live_cache t held.cache) no_layout)) (held_under after fresh) 0) second-law.table
        ∙ ap (λ (x : Option Held). option_map_or (λ held. address_of held.frame held.index (layout_at mid held.cache)) x 0) fresh-stays
        ∙ given-at s cpu place fresh first.result mid unheld law address told;
    others = λ other apart not_fresh. others other apart ∙ before other not_fresh (held_under s other) refl;
  }
    where
      before : (other : ℕ) → other ≢ fresh → (x : Option Held) → held_under s other ≡ x → held_under mid other ≡ held_under s other
      before other not_fresh None is = unnamed (held_under mid other) (λ some. not_fresh (mine-alone fresh other ((adds.come other is).0 some))) ∙ sym is
        where
          unnamed : (x : Option Held) → (IsSome x → ⊥) → x ≡ None
          unnamed None never = refl
          unnamed (Some held) never = absurd (never refl)
      before other not_fresh (Some held) is = adds.stay other (rw is refl)

-- ---- the lines

module _ (lawful : RoundsByTextAreLawful) (may : AllocationsMayBeDone) (frees : FreesMayBeDone) (h : HeapState) (trace : Trace) (done : ClientDone) (after : HeapState) (is_open : IsOpenTo h trace 1) (cpu : ℕ) (within : cpu < trace.cpus) where
  kgets : (size object : ℕ) → IsNumber h object → IsUnheld h.lists object → ServesKget h trace cpu size object done after → LeavesClasses h.lists (line.Kget cpu size object) after.lists done.answer
  kgets size object known unheld served = match_either (class_place size) _ _ (LeavesClasses h.lists (line.Kget cpu size object) after.lists done.answer) served
      (λ none told. subst (LeavesClasses h.lists (line.Kget cpu size object) after.lists) (sym told.1) (same-board h after told.2))
      (λ class is takes. subst (LeavesClasses h.lists (line.Kget cpu size object) after.lists) (sym takes.2) (by class takes.0 takes.1))
    where
      by : (class : ℕ) (told : Result ℕ CacheRefusal) → TakesOfClass h trace cpu class object done.rounds told after → LeavesClasses h.lists (line.Kget cpu size object) after.lists (given_answer told)
      by class (Ok address) takes =
          let given = given-class lawful may h trace cpu class object done.rounds after is_open within known unheld address takes in
          (given-board h.lists cpu given.place object given.round.result after.lists unheld given.law address given.told, given-at h.lists cpu given.place object given.round.result after.lists unheld given.law address given.told)
      by class (Err why) takes = refused-class lawful may h trace cpu class object done.rounds after is_open within known unheld why takes

  kreallocs : (object size fresh : ℕ) → IsNumber h object → IsNumber h fresh → IsUnheld h.lists fresh → ServesKrealloc h trace cpu object size fresh done after → LeavesClasses h.lists (line.Krealloc cpu object size fresh) after.lists done.answer
  kreallocs object size fresh numbered known unheld served = match_either (held_under h.lists object) _ _ Goal served
      (λ none told. at-once answer.NotHeld told (same-board h after told.2))
      (λ held there served. match_bool (is_kmalloc h.lists held.cache) _ _ Goal served
      (λ plain served. match_either (class_place size) _ _ Goal served
      (λ none told. at-once answer.TooLarge told (same-board h after told.2))
      (λ class is served. match_bool (is_enough h.lists held.cache size) _ _ Goal served
      (λ enough told. at-once answer.Stays told (same-board h after told.2))
      (λ less moves. by held there plain class moves.0 moves.1 moves.2 moves.3 moves.4)))
      (λ other told. at-once answer.NotKmalloc told (same-board h after told.2)))
    where
      Goal : Type 0
      Goal = LeavesClasses h.lists (line.Krealloc cpu object size fresh) after.lists done.answer

      at-once : (told : ClientAnswer) → AnswersAtOnce h told done after → LeavesClasses h.lists (line.Krealloc cpu object size fresh) after.lists told → Goal
      at-once told is leaves = subst (LeavesClasses h.lists (line.Krealloc cpu object size fresh) after.lists) (sym is.1) leaves

      by : (held : Held) → held_under h.lists object ≡ Some held → is_kmalloc h.lists held.cache ≡ true → (class : ℕ) (told : Result ℕ CacheRefusal) (first : List ClientRound) (mid : HeapState)
          → TakesOfClass h trace cpu class fresh first told mid → MovesOn mid cpu object told first done after → Goal
      by held there plain class (Ok address) first mid takes moves =
          let given = given-class lawful may h trace cpu class fresh first mid is_open within known unheld address takes in
          let before : MayDo h.lists trace (round_of cpu (Free object ∷ [])) = frees h trace cpu (object ∷ []) (open-fewer h trace 1 0 (omega arith) is_open) within (omega arith) (All-cons (IsNumber h) object [] numbered (All-nil (IsNumber h))) in
          let second : IsRound mid.lists (round_of cpu (Free object ∷ [])) moves.0.result after.lists =
          asked_lawful mid trace cpu (Free object ∷ []) moves.0 after lawful given.law.coherent given.law.rest
          (frees-follow h trace cpu given.place (fresh ∷ []) (object ∷ []) given.round.result mid.lists is_open given.allowed before given.law) moves.1 in
          subst (LeavesClasses h.lists (line.Krealloc cpu object size fresh) after.lists) (sym moves.3)
          (moved h.lists cpu object fresh address held mid.lists after.lists given.place given.round moves.0 is_open.sound.coherent unheld there plain given.law given.told second)
      by held there plain class (Err why) first mid takes moves =
          let kept = refused-class lawful may h trace cpu class fresh first mid is_open within known unheld why takes in
          subst (LeavesClasses h.lists (line.Krealloc cpu object size fresh) after.lists) (sym moves.1) (λ x. same-board mid after moves.2 x ∙ kept x)

number-of : (h : HeapState) (trace : Trace) (object : ℕ) → length h.lists.board ≡ trace.objects + 1 → (1 ≤ object) × (object ≤ trace.objects) → IsNumber h object
number-of h trace object long sound = (sound.0, omega (arith, long, sound.1))

pub serves : RoundsByTextAreLawful → AllocationsMayBeDone → FreesMayBeDone → (h : HeapState) (trace : Trace) (client : Asked) (done : ClientDone) (after : HeapState) → IsServable h trace client → ServesClasses h trace client done after
    → LeavesClasses h.lists client after.lists done.answer
serves lawful may frees h trace line.Kmalloc done after servable served =
    subst (LeavesClasses h.lists line.Kmalloc after.lists) (sym served.2) (λ object. ap (λ (l : List (Option Held)). get_or l object None) (classes-board h trace (range_with_len 0 13) served.0 after served.3))
serves lawful may frees h trace (line.Kget cpu size object) done after servable served =
    kgets lawful may frees h trace done after servable.heap cpu servable.sound.0 size object (number-of h trace object servable.heap.objects servable.sound.2) (All-head (IsUnheld h.lists) object [] servable.unheld) served
serves lawful may frees h trace (line.Krealloc cpu object size fresh) done after servable served =
    kreallocs lawful may frees h trace done after servable.heap cpu servable.sound.0 object size fresh (number-of h trace object servable.heap.objects servable.sound.1) (number-of h trace fresh servable.heap.objects servable.sound.3) (All-head (IsUnheld h.lists) fresh [] servable.unheld) served
serves lawful may frees h trace _ done after servable served = absurd served
