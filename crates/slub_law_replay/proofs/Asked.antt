-- A round that a client makes has one outcome, and what is told of it.
use Rattle.std.proofs.Common.{◌≡◌, ℕ, Bool, true, false, List, [], ◌∷◌, get_or, Option, Some, None, Result, Ok, Err, MatchOption, sym, ap, ◌∙◌}
use Rattle.std.specs.Bool.{MatchBool}
use Rattle.std.proofs.lemmas.Option.{none-some, same_Some}
use Rattle.slub_trace.specs.declared.event.Act.{Act}
use Rattle.slub_trace.specs.declared.reply.Reply.{Reply}
use Rattle.slub_trace.specs.declared.reply.Reply.TheVariants as reply
use Rattle.slub_slabinfo_text.specs.declared.client.CacheRefusal.{CacheRefusal}
use Rattle.slub_slabinfo_text.specs.declared.client.ClientAnswer.{ClientAnswer}
use Rattle.slub_slabinfo_text.specs.declared.client.ClientDone.{ClientDone}
use Rattle.slub_slabinfo_text.specs.declared.client.ClientRound.{ClientRound}
use Rattle.slub_slabinfo_text.specs.Asked.{Tells, refusal_of, round_of}
use Rattle.slub_rounds.specs.Heap.{HeapState}
use Rattle.slub_rounds.specs.Asked.{AnswersAtOnce, DoesAsked}
use Rattle.slub_law_replay.proofs.OneTextRounds.{texts-one}

-- ---- rounds

pub asked-one : (h : HeapState) (cpu : ℕ) (acts : List Act) (one other : ClientRound) (left right : HeapState) → DoesAsked h cpu acts one left → DoesAsked h cpu acts other right
    → (one ≡ other) × (left ≡ right)
asked-one h cpu acts one other left right does again =
    let same = texts-one h.lists h.ids (round_of cpu acts) one.result other.result left.lists right.lists left.ids right.ids
    does.memory again.memory does.does again.does in
    ((λ i. record { asked = (does.asked ∙ sym again.asked) i; result = same.result i }), λ i. record { lists = same.machine i; ids = same.ids i })

-- the one reply of a round
pub one-reply : (xs ys : List Reply) (x y : Reply) → xs ≡ ys → xs ≡ x ∷ [] → ys ≡ y ∷ [] → x ≡ y
one-reply xs ys x y same is also = ap (λ (xs : List Reply). get_or xs 0 x) (sym is ∙ same ∙ also)

given_in : Reply → ℕ
given_in (reply.Given address) = address
given_in _ = 0

pub tells-one : (r : Reply) (x y : Result ℕ CacheRefusal) → Tells r x → Tells r y → x ≡ y
unfolding given_in
tells-one r (Ok x) (Ok y) one other = ap (λ (n : ℕ). Ok n) (ap given_in (sym one ∙ other))
tells-one r (Ok x) (Err y) one other = absurd (none-some y (sym (ap refusal_of one) ∙ other))
tells-one r (Err x) (Ok y) one other = absurd (none-some x (sym (ap refusal_of other) ∙ one))
tells-one r (Err x) (Err y) one other = ap (λ (why : CacheRefusal). Err why) (same_Some x y (sym one ∙ other))

-- ---- lines

pub same-done : (one other : ClientDone) → one.rounds ≡ other.rounds → one.answer ≡ other.answer → one ≡ other
same-done one other rounds answer = λ i. record { rounds = rounds i; answer = answer i }

-- a line that is served so makes the same rounds, is answered the same and leaves the same
abbrev pub ServesOne : (Left : Type 0) → (ClientDone → Left → Type 0) → Type 0
ServesOne Left Does =
    (one other : ClientDone) (left right : Left) → Does one left → Does other right → (one ≡ other) × (left ≡ right)

pub option-one : (X Left : Type 0) (o : Option X) (N : ClientDone → Left → Type 0) (S : X → ClientDone → Left → Type 0) → ServesOne Left N → ((x : X) → ServesOne Left (S x))
    → ServesOne Left (λ done after. MatchOption o (N done after) (λ x. S x done after))
option-one X Left None N S none some = none
option-one X Left (Some x) N S none some = some x

pub bool-one : (Left : Type 0) (b : Bool) (T F : ClientDone → Left → Type 0) → ServesOne Left T → ServesOne Left F → ServesOne Left (λ done after. MatchBool b (T done after) (F done after))
bool-one Left true T F first second = first
bool-one Left false T F first second = second

pub at-once-one : (h : HeapState) (answer : ClientAnswer) → ServesOne HeapState (AnswersAtOnce h answer)
at-once-one h answer one other left right does again = (same-done one other (does.0 ∙ sym again.0) (does.1 ∙ sym again.1), does.2 ∙ sym again.2)
