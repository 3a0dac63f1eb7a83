-- `mempool`, `mget` and `mput` have one outcome.
use Rattle.std.proofs.Common.{◌≡◌, ℕ, List, [], ◌∷◌, ◌++◌, length, drop, get_or, Option, Some, None, Result, Ok, Err, MatchOption, refl, sym, ap, ◌∙◌, subst, arith}
use Rattle.std.specs.Prelude.{nat_le, nat_lt}
use Rattle.std.specs.Bool.{MatchBool}
use Rattle.std.specs.List.{list_any}
use Rattle.std.proofs.lemmas.List.{length-append}
use Rattle.slub_trace.specs.declared.event.Act.TheVariants.{Alloc, Free}
use Rattle.slub_trace.specs.declared.reply.Reply.{Reply}
use Rattle.slub_trace.specs.declared.reply.Reply.TheVariants as reply
use Rattle.slub_lists.specs.declared.lists.Held.{Held}
use Rattle.slub_lists.specs.State.{State}
use Rattle.slub_lists.specs.Coherent.{held_under}
use Rattle.slub_trace.specs.declared.trace.Client.{Client as Asked}
use Rattle.slub_trace.specs.declared.trace.Client.TheVariants as line
use Rattle.slub_slabinfo_text.specs.declared.client.CacheRefusal.{CacheRefusal}
use Rattle.slub_slabinfo_text.specs.declared.client.ClientAnswer.{ClientAnswer}
use Rattle.slub_slabinfo_text.specs.declared.client.ClientAnswer.TheVariants as answer
use Rattle.slub_slabinfo_text.specs.declared.client.ClientDone.{ClientDone}
use Rattle.slub_slabinfo_text.specs.declared.client.ClientRound.{ClientRound}
use Rattle.slub_slabinfo_text.specs.Asked.{Tells}
use Rattle.slub_rounds.specs.Heap.{HeapState}
use Rattle.slub_rounds.specs.Asked.{AnswersAtOnce}
use Rattle.slub_rounds.specs.Reserves.{AnswersLeaving, Asks, Fills, Gets, Lends, Makes, Pops, Puts, PutsBack, Refills, Reserve, ServesKept, ServesMempool, ServesMget, ServesMput, ServesReserves, TakesOne, TellsFree, fresh_reserve, has_number, is_of_cache, kept_in, place_of_reserve, reserve_at, reserves_max, with_numbers}
use Rattle.slub_law_replay.proofs.Asked.{ServesOne, asked-one, at-once-one, bool-one, one-reply, option-one, same-done, tells-one}
use Rattle.slub_law_replay.proofs.BulkLines.{takes-all-one}

-- ---- lists, ids and reserves together

-- what a line of a reserve leaves
abbrev Left : Type 0
Left = HeapState × List Reserve

abbrev Leaves : (ClientDone → HeapState → List Reserve → Type 0) → ClientDone → Left → Type 0
Leaves Does done both = Does done both.0 both.1

same-both : (a b : Left) → a.0 ≡ b.0 → a.1 ≡ b.1 → a ≡ b
same-both a b heap reserves = λ i. (heap i, reserves i)

leaving-one : (h : HeapState) (reserves : List Reserve) (told : ClientAnswer) → ServesOne Left (Leaves (AnswersLeaving h reserves told))
leaving-one h reserves told one other left right does again =
    let same = at-once-one h told one other left.0 right.0 does.0 again.0 in
    (same.0, same-both left right same.1 (does.1 ∙ sym again.1))

-- ---- `mempool`

makes-one : (reserves : List Reserve) (fresh : Reserve) (refusal : Option CacheRefusal) (one other : ClientAnswer) (left right : List Reserve) → Makes reserves fresh refusal one left → Makes reserves fresh refusal other right → (one ≡ other) × (left ≡ right)
makes-one reserves fresh None one other left right does again = (does.0 ∙ sym again.0, does.1 ∙ sym again.1)
makes-one reserves fresh (Some why) one other left right does again = (does.0 ∙ sym again.0, does.1 ∙ sym again.1)

fills-one : (h : HeapState) (reserves : List Reserve) (fresh : Reserve) → ServesOne Left (Leaves (Fills h reserves fresh))
fills-one h reserves fresh one other left right does again =
    let same = takes-all-one h 0 fresh.cache fresh.numbers does.0 again.0 one.rounds other.rounds left.0 right.0 does.1 again.1 in
    let made = makes-one reserves fresh again.0 one.answer other.answer left.1 right.1 (subst (λ (refusal : Option CacheRefusal). Makes reserves fresh refusal one.answer left.1) same.0 does.2) again.2 in
    (same-done one other same.1 made.0, same-both left right same.2 made.1)

abbrev MayFill : HeapState → List Reserve → Reserve → ClientDone → Left → Type 0
MayFill h reserves fresh done both = MatchBool (nat_le reserves_max (length reserves)) (AnswersLeaving h reserves answer.TooMany done both.0 both.1) (Fills h reserves fresh done both.0 both.1)

mempool-one : (h : HeapState) (reserves : List Reserve) (fresh : Reserve) → ServesOne Left (Leaves (ServesMempool h reserves fresh))
mempool-one h reserves fresh =
    option-one ℕ Left (place_of_reserve reserves fresh.name) (MayFill h reserves fresh) (λ at. Leaves (AnswersLeaving h reserves answer.Taken))
    (bool-one Left (nat_le reserves_max (length reserves)) (Leaves (AnswersLeaving h reserves answer.TooMany)) (Leaves (Fills h reserves fresh)) (leaving-one h reserves answer.TooMany) (fills-one h reserves fresh))
    (λ at. leaving-one h reserves answer.Taken)

-- ---- `mget`

-- the last of a list, and what is before it
last-one : (xs ys : List ℕ) (x y : ℕ) → xs ++ x ∷ [] ≡ ys ++ y ∷ [] → (xs ≡ ys) × (x ≡ y)
last-one [] [] x y same = (refl, ap (λ (xs : List ℕ). get_or xs 0 0) same)
last-one [] (b ∷ ys) x y same = absurd (let never : ⊥ = omega (arith, ap (λ (xs : List ℕ). length xs) same, length-append ys (y ∷ [])) in never)
last-one (a ∷ xs) [] x y same = absurd (let never : ⊥ = omega (arith, ap (λ (xs : List ℕ). length xs) same, length-append xs (x ∷ [])) in never)
last-one (a ∷ xs) (b ∷ ys) x y same =
    let first : a ≡ b = ap (λ (xs : List ℕ). get_or xs 0 0) same in
    let rest = last-one xs ys x y (ap (λ (xs : List ℕ). drop 1 xs) same) in
    ((λ i. first i ∷ rest.0 i), rest.1)

none-last : (xs : List ℕ) (x : ℕ) → [] ≡ xs ++ x ∷ [] → ⊥
none-last xs x same = omega (arith, ap (λ (xs : List ℕ). length xs) same, length-append xs (x ∷ []))

pops-one : (numbers : List ℕ) (one other : Option ℕ) (rest others : List ℕ) → Pops numbers one rest → Pops numbers other others → (one ≡ other) × (rest ≡ others)
pops-one numbers None None rest others does again = (refl, does.1 ∙ sym again.1)
pops-one numbers None (Some y) rest others does again = absurd (none-last others y (sym does.0 ∙ again))
pops-one numbers (Some x) None rest others does again = absurd (none-last rest x (sym again.0 ∙ does))
pops-one numbers (Some x) (Some y) rest others does again = let same = last-one rest others x y (sym does ∙ again) in (ap (λ (n : ℕ). Some n) same.1, same.0)

lends-one : (s : State) (reserves : List Reserve) (at : ℕ) (why : CacheRefusal) (lent : Option ℕ) (rest : List ℕ) (one other : ClientAnswer) (left right : List Reserve)
    → Lends s reserves at why lent rest one left → Lends s reserves at why lent rest other right → (one ≡ other) × (left ≡ right)
lends-one s reserves at why None rest one other left right does again = (does.0 ∙ sym again.0, does.1 ∙ sym again.1)
lends-one s reserves at why (Some last) rest one other left right does again = (does.0 ∙ sym again.0, does.1 ∙ sym again.1)

gets-one : (s : State) (reserves : List Reserve) (at : ℕ) (told : Result ℕ CacheRefusal) (one other : ClientAnswer) (left right : List Reserve) → Gets s reserves at told one left → Gets s reserves at told other right → (one ≡ other) × (left ≡ right)
gets-one s reserves at (Ok address) one other left right does again = (does.0 ∙ sym again.0, does.1 ∙ sym again.1)
gets-one s reserves at (Err why) one other left right does again =
    let popped = pops-one (reserve_at reserves at).numbers does.0 again.0 does.1 again.1 does.2 again.2 in
    lends-one s reserves at why again.0 again.1 one other left right
    (subst (λ (lent : Option ℕ). Lends s reserves at why lent again.1 one left) popped.0 (subst (λ (rest : List ℕ). Lends s reserves at why does.0 rest one left) popped.1 does.3)) again.3

module _ (h : HeapState) (cpu place object : ℕ) (rounds others : List ClientRound) (one other : Result ℕ CacheRefusal) (left right : HeapState) where
  takes-one-one : TakesOne h cpu place object rounds one left → TakesOne h cpu place object others other right → (rounds ≡ others) × (one ≡ other) × (left ≡ right)
  takes-one-one does again =
      let same = asked-one h cpu (Alloc place object ∷ []) does.0 again.0 left right does.2 again.2 in
      let reply : does.1 ≡ again.1 = one-reply does.0.result.replies again.0.result.replies does.1 again.1 (ap (λ (round : ClientRound). round.result.replies) same.0) does.3 again.3 in (
        does.5 ∙ ap (λ (round : ClientRound). round ∷ []) same.0 ∙ sym again.5,
        tells-one again.1 one other (subst (λ (r : Reply). Tells r one) reply does.4) again.4,
        same.1,
      )

asks-one : (h : HeapState) (reserves : List Reserve) (at cpu object : ℕ) → ServesOne Left (Leaves (Asks h reserves at cpu object))
asks-one h reserves at cpu object one other left right does again =
    let same = takes-one-one h cpu (reserve_at reserves at).cache object one.rounds other.rounds does.0 again.0 left.0 right.0 does.1 again.1 in
    let got = gets-one right.0.lists reserves at again.0 one.answer other.answer left.1 right.1
    (subst (λ (after : HeapState). Gets after.lists reserves at again.0 one.answer left.1) same.2 (subst (λ (told : Result ℕ CacheRefusal). Gets left.0.lists reserves at told one.answer left.1) same.1 does.2)) again.2 in
    (same-done one other same.0 got.0, same-both left right same.2 got.1)

mget-one : (h : HeapState) (reserves : List Reserve) (cpu : ℕ) (pool : List ℕ) (object : ℕ) → ServesOne Left (Leaves (ServesMget h reserves cpu pool object))
mget-one h reserves cpu pool object =
    option-one ℕ Left (place_of_reserve reserves pool) (Leaves (AnswersLeaving h reserves answer.NoPool)) (λ at. Leaves (Asks h reserves at cpu object)) (leaving-one h reserves answer.NoPool) (λ at. asks-one h reserves at cpu object)

-- ---- `mput`

tells-free-one : (r : Reply) (one other : ClientAnswer) → TellsFree r one → TellsFree r other → one ≡ other
tells-free-one (reply.Freed address) one other does again = does ∙ sym again
tells-free-one (reply.Corrupt damage) one other does again = does ∙ sym again
tells-free-one _ one other does again = absurd does

puts-back-one : (h : HeapState) (cpu object : ℕ) → ServesOne HeapState (PutsBack h cpu object)
puts-back-one h cpu object one other left right does again =
    let same = asked-one h cpu (Free object ∷ []) does.0 again.0 left right does.2 again.2 in
    let reply : does.1 ≡ again.1 = one-reply does.0.result.replies again.0.result.replies does.1 again.1 (ap (λ (round : ClientRound). round.result.replies) same.0) does.3 again.3 in (
      same-done one other (does.5 ∙ ap (λ (round : ClientRound). round ∷ []) same.0 ∙ sym again.5)
          (tells-free-one again.1 one.answer other.answer (subst (λ (r : Reply). TellsFree r one.answer) reply does.4) again.4),
      same.1,
    )

abbrev Keeps : HeapState → List Reserve → ℕ → ℕ → ClientDone → Left → Type 0
Keeps h reserves at object done both = AnswersAtOnce h answer.Kept done both.0 × (both.1 ≡ with_numbers reserves at ((reserve_at reserves at).numbers ++ object ∷ []))

abbrev GoesBack : HeapState → List Reserve → ℕ → ℕ → ClientDone → Left → Type 0
GoesBack h reserves cpu object done both = PutsBack h cpu object done both.0 × (both.1 ≡ reserves)

refills-one : (h : HeapState) (reserves : List Reserve) (at cpu object : ℕ) → ServesOne Left (Leaves (Refills h reserves at cpu object))
refills-one h reserves at cpu object =
    bool-one Left (nat_lt (length (reserve_at reserves at).numbers) (reserve_at reserves at).min_nr) (Keeps h reserves at object) (GoesBack h reserves cpu object)
    (λ one other left right does again.
    let same = at-once-one h answer.Kept one other left.0 right.0 does.0 again.0 in
    (same.0, same-both left right same.1 (does.1 ∙ sym again.1)))
    (λ one other left right does again.
    let same = puts-back-one h cpu object one other left.0 right.0 does.0 again.0 in
    (same.0, same-both left right same.1 (does.1 ∙ sym again.1)))

abbrev Returns : HeapState → List Reserve → ℕ → ℕ → ℕ → ClientDone → Left → Type 0
Returns h reserves at cpu object done both = MatchBool (list_any (has_number object) reserves) (AnswersLeaving h reserves answer.InReserve done both.0 both.1) (Refills h reserves at cpu object done both.0 both.1)

puts-one : (h : HeapState) (reserves : List Reserve) (at cpu object cache : ℕ) → ServesOne Left (Leaves (Puts h reserves at cpu object cache))
puts-one h reserves at cpu object cache =
    bool-one Left (is_of_cache h.lists (reserve_at reserves at) cache) (Returns h reserves at cpu object) (Leaves (AnswersLeaving h reserves answer.WrongCache))
    (bool-one Left (list_any (has_number object) reserves) (Leaves (AnswersLeaving h reserves answer.InReserve)) (Leaves (Refills h reserves at cpu object)) (leaving-one h reserves answer.InReserve) (refills-one h reserves at cpu object))
    (leaving-one h reserves answer.WrongCache)

abbrev PutsHeld : HeapState → List Reserve → ℕ → ℕ → ℕ → ClientDone → Left → Type 0
PutsHeld h reserves cpu object at done both =
    MatchOption (held_under h.lists object) (AnswersLeaving h reserves answer.NotHeld done both.0 both.1) (λ held. Puts h reserves at cpu object held.cache done both.0 both.1)

mput-one : (h : HeapState) (reserves : List Reserve) (cpu : ℕ) (pool : List ℕ) (object : ℕ) → ServesOne Left (Leaves (ServesMput h reserves cpu pool object))
mput-one h reserves cpu pool object =
    option-one ℕ Left (place_of_reserve reserves pool) (Leaves (AnswersLeaving h reserves answer.NoPool)) (PutsHeld h reserves cpu object) (leaving-one h reserves answer.NoPool)
    (λ at. option-one Held Left (held_under h.lists object) (Leaves (AnswersLeaving h reserves answer.NotHeld)) (λ held. Leaves (Puts h reserves at cpu object held.cache)) (leaving-one h reserves answer.NotHeld)
    (λ held. puts-one h reserves at cpu object held.cache))

-- ---- all three

kept-one : (h : HeapState) (reserves : List Reserve) (client : Asked) → ServesOne Left (Leaves (ServesKept h reserves client))
kept-one h reserves (line.Mempool pool place min first) one other left right does again = mempool-one h reserves (fresh_reserve pool place min first) one other left right does again
kept-one h reserves (line.Mget cpu pool object) one other left right does again = mget-one h reserves cpu pool object one other left right does again
kept-one h reserves (line.Mput cpu pool object) one other left right does again = mput-one h reserves cpu pool object one other left right does again
kept-one h reserves _ one other left right does again = absurd does

pub reserves-one : (h : HeapState) (reserves : List Reserve) (client : Asked) (one other : ClientDone) (left right : HeapState) (those these : List Reserve)
    → ServesReserves h reserves client one left those → ServesReserves h reserves client other right these → (one ≡ other) × (left ≡ right) × (those ≡ these)
reserves-one h reserves client one other left right those these does again =
    let same = kept-one h (kept_in h.lists reserves) client one other (left, those) (right, these) does again in
    (same.0, ap (λ (both : Left). both.0) same.1, ap (λ (both : Left). both.1) same.1)
