-- `kmalloc`, `kget` and `krealloc` have one outcome.
use Rattle.std.proofs.Common.{◌≡◌, ℕ, List, [], ◌∷◌, ◌++◌, Option, Some, None, Result, Ok, Err, MatchOption, refl, sym, ap, ◌∙◌, subst}
use Rattle.std.specs.Bool.{MatchBool}
use Rattle.std.specs.List.{range_with_len}
use Rattle.std.specs.Option.{option_map}
use Rattle.slub_trace.specs.declared.event.Act.TheVariants.{Alloc, Free}
use Rattle.slub_object_layout.specs.declared.layout.Spec.{Spec}
use Rattle.slub_trace.specs.declared.create.Created.{Created}
use Rattle.slub_trace.specs.declared.create.CreateRefusal.{CreateRefusal}
use Rattle.slub_trace.specs.declared.reply.Reply.{Reply}
use Rattle.slub_lists.specs.declared.lists.Held.{Held}
use Rattle.slub_lists.specs.Coherent.{held_under}
use Rattle.slub_trace.specs.declared.trace.Client.{Client as Asked}
use Rattle.slub_trace.specs.declared.trace.Client.TheVariants as line
use Rattle.slub_trace.specs.declared.trace.Trace.{Trace}
use Rattle.slub_slabinfo_text.specs.declared.client.CacheRefusal.{CacheRefusal}
use Rattle.slub_slabinfo_text.specs.declared.client.CacheRefusal.TheVariants as why
use Rattle.slub_slabinfo_text.specs.declared.client.ClientAnswer.TheVariants as answer
use Rattle.slub_slabinfo_text.specs.declared.client.ClientDone.{ClientDone}
use Rattle.slub_slabinfo_text.specs.declared.client.ClientRound.{ClientRound}
use Rattle.slub_slabinfo_text.specs.Asked.{Tells}
use Rattle.slub_slabinfo_text.specs.Classes.{class_place, class_spec}
use Rattle.slub_law_alone.proofs.Creations.{creations_one}
use Rattle.slub_rounds.specs.Heap.{HeapState}
use Rattle.slub_rounds.specs.Asked.{AnswersAtOnce, DoesAsked}
use Rattle.slub_rounds.specs.Kmalloc.{CreatesClasses, CreatesFor, MovesOn, Moves, ServesClasses, ServesHeld, ServesKget, ServesKmalloc, ServesKrealloc, TakesOfClass, class_name, given_answer, ids_made, is_enough, is_kmalloc, place_of_class}
use Rattle.slub_law_replay.proofs.Asked.{ServesOne, asked-one, at-once-one, bool-one, one-reply, option-one, same-done, tells-one}

-- ---- `kmalloc`

creates-one : (h : HeapState) (trace : Trace) (name : List ℕ) (spec : Spec) (one other : Result Created CreateRefusal) (left right : HeapState) → CreatesFor h trace name spec one left → CreatesFor h trace name spec other right
    → (one ≡ other) × (left ≡ right)
creates-one h trace name spec one other left right does again =
    let same = creations_one h.lists name spec one other left.lists right.lists does.creates again.creates in
    let ids : left.ids ≡ right.ids = does.ids ∙ ap (λ (made : Result Created CreateRefusal). option_map (ids_made trace h.lists made) h.ids) same.0 ∙ sym again.ids in
    (same.0, λ i. record { lists = same.1 i; ids = ids i })

classes-made : (h : HeapState) (trace : Trace) (classes : List ℕ) (ones others : List (Result Created CreateRefusal)) (left right : HeapState) → CreatesClasses h trace classes ones left → CreatesClasses h trace classes others right
    → (ones ≡ others) × (left ≡ right)
classes-made h trace [] [] [] left right does again = (refl, does ∙ sym again)
classes-made h trace [] [] (other ∷ others) left right does again = absurd again
classes-made h trace [] (one ∷ ones) others left right does again = absurd does
classes-made h trace (class ∷ classes) [] others left right does again = absurd does
classes-made h trace (class ∷ classes) (one ∷ ones) [] left right does again = absurd again
classes-made h trace (class ∷ classes) (one ∷ ones) (other ∷ others) left right does again =
    let first = creates-one h trace (class_name class) (class_spec class) one other does.0 again.0 does.1 again.1 in
    let rest = classes-made again.0 trace classes ones others left right (subst (λ (mid : HeapState). CreatesClasses mid trace classes ones left) first.1 does.2) again.2 in
    ((λ i. first.0 i ∷ rest.0 i), rest.1)

kmalloc-one : (h : HeapState) (trace : Trace) → ServesOne HeapState (ServesKmalloc h trace)
kmalloc-one h trace one other left right does again =
    let same = classes-made h trace (range_with_len 0 13) does.0 again.0 left right does.3 again.3 in
    (same-done one other (does.1 ∙ sym again.1) (does.2 ∙ ap (λ (answers : List (Result Created CreateRefusal)). answer.Created answers) same.0 ∙ sym again.2), same.1)

-- ---- one allocation

-- from the cache that the name at a place names
abbrev TakesAt : HeapState → ℕ → ℕ → ℕ → List ClientRound → Result ℕ CacheRefusal → HeapState → Type 0
TakesAt h cpu object place rounds told after =
    (round : ClientRound) × (reply : Reply) × (rounds ≡ round ∷ []) × DoesAsked h cpu (Alloc place object ∷ []) round after × (round.result.replies ≡ reply ∷ []) × Tells reply told

module _ (h : HeapState) (cpu object : ℕ) (rounds others : List ClientRound) (one other : Result ℕ CacheRefusal) (left right : HeapState) where
  takes-at : (place : ℕ) → TakesAt h cpu object place rounds one left → TakesAt h cpu object place others other right → (rounds ≡ others) × (one ≡ other) × (left ≡ right)
  takes-at place does again =
      let same = asked-one h cpu (Alloc place object ∷ []) does.0 again.0 left right does.3 again.3 in
      let reply : does.1 ≡ again.1 = one-reply does.0.result.replies again.0.result.replies does.1 again.1 (ap (λ (round : ClientRound). round.result.replies) same.0) does.4 again.4 in (
        does.2 ∙ ap (λ (round : ClientRound). round ∷ []) same.0 ∙ sym again.2,
        tells-one again.1 one other (subst (λ (r : Reply). Tells r one) reply does.5) again.5,
        same.1,
      )

  takes-where : (place : Option ℕ) → MatchOption place ((rounds ≡ []) × (one ≡ Err why.NoSuchCache) × (left ≡ h)) (λ place. TakesAt h cpu object place rounds one left)
      → MatchOption place ((others ≡ []) × (other ≡ Err why.NoSuchCache) × (right ≡ h)) (λ place. TakesAt h cpu object place others other right) → (rounds ≡ others) × (one ≡ other) × (left ≡ right)
  takes-where None does again = (does.0 ∙ sym again.0, does.1 ∙ sym again.1, does.2 ∙ sym again.2)
  takes-where (Some place) does again = takes-at place does again

  takes-one : (trace : Trace) (class : ℕ) → TakesOfClass h trace cpu class object rounds one left → TakesOfClass h trace cpu class object others other right → (rounds ≡ others) × (one ≡ other) × (left ≡ right)
  takes-one trace class does again = takes-where (place_of_class trace class) does again

-- ---- `kget`

abbrev GetsOf : HeapState → Trace → ℕ → ℕ → ℕ → ClientDone → HeapState → Type 0
GetsOf h trace cpu object class done after = (told : Result ℕ CacheRefusal) × TakesOfClass h trace cpu class object done.rounds told after × (done.answer ≡ given_answer told)

gets-of-one : (h : HeapState) (trace : Trace) (cpu object class : ℕ) → ServesOne HeapState (GetsOf h trace cpu object class)
gets-of-one h trace cpu object class one other left right does again =
    let same = takes-one h cpu object one.rounds other.rounds does.0 again.0 left right trace class does.1 again.1 in
    (same-done one other same.0 (does.2 ∙ ap given_answer same.1 ∙ sym again.2), same.2)

kget-one : (h : HeapState) (trace : Trace) (cpu size object : ℕ) → ServesOne HeapState (ServesKget h trace cpu size object)
kget-one h trace cpu size object = option-one ℕ HeapState (class_place size) (AnswersAtOnce h answer.TooLarge) (GetsOf h trace cpu object) (at-once-one h answer.TooLarge) (gets-of-one h trace cpu object)

-- ---- `krealloc`

moves-on-one : (mid : HeapState) (cpu object : ℕ) (told : Result ℕ CacheRefusal) (first : List ClientRound) → ServesOne HeapState (MovesOn mid cpu object told first)
moves-on-one mid cpu object (Ok address) first one other left right does again =
    let same = asked-one mid cpu (Free object ∷ []) does.0 again.0 left right does.1 again.1 in
    (same-done one other (does.2 ∙ ap (λ (round : ClientRound). first ++ round ∷ []) same.0 ∙ sym again.2) (does.3 ∙ sym again.3), same.1)
moves-on-one mid cpu object (Err why) first one other left right does again = (same-done one other (does.0 ∙ sym again.0) (does.1 ∙ sym again.1), does.2 ∙ sym again.2)

moves-one : (h : HeapState) (trace : Trace) (cpu class object fresh : ℕ) → ServesOne HeapState (Moves h trace cpu class object fresh)
moves-one h trace cpu class object fresh one other left right does again =
    let same = takes-one h cpu fresh does.1 again.1 does.0 again.0 does.2 again.2 trace class does.3 again.3 in
    let moved : MovesOn again.2 cpu object again.0 again.1 one left =
    subst (λ (mid : HeapState). MovesOn mid cpu object again.0 again.1 one left) same.2
    (subst (λ (told : Result ℕ CacheRefusal). MovesOn does.2 cpu object told again.1 one left) same.1
    (subst (λ (first : List ClientRound). MovesOn does.2 cpu object does.0 first one left) same.0 does.4)) in
    moves-on-one again.2 cpu object again.0 again.1 one other left right moved again.4

abbrev MovesOrStays : HeapState → Trace → ℕ → ℕ → ℕ → ℕ → ℕ → ℕ → ClientDone → HeapState → Type 0
MovesOrStays h trace cpu object size fresh cache class done after = MatchBool (is_enough h.lists cache size) (AnswersAtOnce h answer.Stays done after) (Moves h trace cpu class object fresh done after)

abbrev FitsClass : HeapState → Trace → ℕ → ℕ → ℕ → ℕ → ℕ → ClientDone → HeapState → Type 0
FitsClass h trace cpu object size fresh cache done after =
    MatchOption (class_place size) (AnswersAtOnce h answer.TooLarge done after) (λ class. MovesOrStays h trace cpu object size fresh cache class done after)

held-one : (h : HeapState) (trace : Trace) (cpu object size fresh cache : ℕ) → ServesOne HeapState (ServesHeld h trace cpu object size fresh cache)
held-one h trace cpu object size fresh cache =
    bool-one HeapState (is_kmalloc h.lists cache) (FitsClass h trace cpu object size fresh cache) (AnswersAtOnce h answer.NotKmalloc)
    (option-one ℕ HeapState (class_place size) (AnswersAtOnce h answer.TooLarge) (MovesOrStays h trace cpu object size fresh cache) (at-once-one h answer.TooLarge)
    (λ class. bool-one HeapState (is_enough h.lists cache size) (AnswersAtOnce h answer.Stays) (Moves h trace cpu class object fresh) (at-once-one h answer.Stays) (moves-one h trace cpu class object fresh)))
    (at-once-one h answer.NotKmalloc)

krealloc-one : (h : HeapState) (trace : Trace) (cpu object size fresh : ℕ) → ServesOne HeapState (ServesKrealloc h trace cpu object size fresh)
krealloc-one h trace cpu object size fresh =
    option-one Held HeapState (held_under h.lists object) (AnswersAtOnce h answer.NotHeld) (λ held. ServesHeld h trace cpu object size fresh held.cache) (at-once-one h answer.NotHeld)
    (λ held. held-one h trace cpu object size fresh held.cache)

-- ---- all three

pub classes-one : (h : HeapState) (trace : Trace) (client : Asked) → ServesOne HeapState (ServesClasses h trace client)
classes-one h trace line.Kmalloc one other left right does again = kmalloc-one h trace one other left right does again
classes-one h trace (line.Kget cpu size object) one other left right does again = kget-one h trace cpu size object one other left right does again
classes-one h trace (line.Krealloc cpu object size fresh) one other left right does again = krealloc-one h trace cpu object size fresh one other left right does again
classes-one h trace _ one other left right does again = absurd does
