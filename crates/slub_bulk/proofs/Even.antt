-- What the ledger of a bulk's round counts.
use Rattle.std.proofs.Common.{◌≡◌, ℕ, ◌+◌, ◌≤◌, ◌&&◌, cond, eqb, Bool, true, false, List, [], ◌∷◌, length, map, refl, ◌∙◌, ap, All, arith}
use Rattle.std.specs.Prelude.{count_by, slice_index_or, sum_by}
use Rattle.std.proofs.lemmas.List.Elements.{All-head, All-tail}
use Rattle.std.proofs.lemmas.List.Sums.{sum_by-cons}
use Rattle.slub_trace.specs.declared.event.Act.{Act}
use Rattle.slub_trace.specs.declared.ledger.Ledger.{Ledger}
use Rattle.slub_trace.specs.declared.reply.Reply.{Reply}
use Rattle.slub_trace.specs.declared.reply.Reply.TheVariants as reply
use Rattle.slub_trace.specs.Kinds.{is_freed, is_given}
use Rattle.slub_common.specs.Times.{times}
use Rattle.slub_common.proofs.Times.{times-cons}
use Rattle.slub_lists.specs.State.{State}
use Rattle.slub_slabinfo_text.specs.Asked.{event_of}
use Rattle.slub_rounds.specs.BulkLines.{replied}
use Rattle.slub_slabinfo_text.specs.Lawful.{AreLedgers, freed_in, given_in, is_by}
use Rattle.slub_law_rounds.specs.Answered.{Answered}
use Rattle.slub_bulk.proofs.Boards.{answers_of}

-- ---- numbers with a reply of a kind

pub replied-few : (is : Reply → Bool) (x : ℕ) (numbers : List ℕ) (replies : List Reply) → times x (replied is numbers replies) ≤ times x numbers
replied-few is x [] replies = omega arith
replied-few is x (number ∷ numbers) [] = omega arith
replied-few is x (number ∷ numbers) (told ∷ replies) = by (is told) refl (replied-few is x numbers replies) (times-cons x number numbers)
  where
    by : (b : Bool) → is told ≡ b → times x (replied is numbers replies) ≤ times x numbers → times x (number ∷ numbers) ≡ cond (eqb number x) 1 0 + times x numbers
        → times x (replied is (number ∷ numbers) (told ∷ replies)) ≤ times x (number ∷ numbers)
    by true e few more = rw e (omega (arith, few, more, times-cons x number (replied is numbers replies)))
    by false e few more = rw e (omega (arith, few, more))

-- all of them, where each reply is of the kind
pub replied-all : (is : Reply → Bool) (numbers : List ℕ) (replies : List Reply) → length replies ≡ length numbers → All (λ told. is told ≡ true) replies → replied is numbers replies ≡ numbers
replied-all is [] replies even all = refl
replied-all is (number ∷ numbers) [] even all = absurd (let never : ⊥ = omega arith in never)
replied-all is (number ∷ numbers) (told ∷ replies) even all =
    rw (All-head (λ told. is told ≡ true) told replies all) (ap (λ (l : List ℕ). number ∷ l) (replied-all is numbers replies (omega arith) (All-tail (λ told. is told ≡ true) told replies all)))

-- none of them, where none is
pub replied-none : (is : Reply → Bool) (numbers : List ℕ) (replies : List Reply) → All (λ told. is told ≡ false) replies → replied is numbers replies ≡ []
replied-none is [] replies all = refl
replied-none is (number ∷ numbers) [] all = refl
replied-none is (number ∷ numbers) (told ∷ replies) all =
    rw (All-head (λ told. is told ≡ false) told replies all) (replied-none is numbers replies (All-tail (λ told. is told ≡ false) told replies all))

-- ---- replies

-- what is freed isn't given
pub freed-given : (told : Reply) → is_freed told ≡ true → is_given told ≡ false
freed-given (reply.Freed address) is = refl
freed-given told is = absurd (let never : false ≡ true = is in cc)

pub none-given : (replies : List Reply) → All (λ told. is_freed told ≡ true) replies → All (λ told. is_given told ≡ false) replies
none-given replies all = λ k d inside. freed-given _ (all k d inside)

-- ---- the ledger

-- every event is worker 0's
counted-replied : (is : Reply → Bool) (act : ℕ → Act) (cpu : ℕ) (numbers : List ℕ) (replies : List Reply) → count_by (λ (one : Answered). is_by 0 one && is one.1) (answers_of cpu (map act numbers) replies) ≡ length (replied is numbers replies)
counted-replied is act cpu [] replies = refl
counted-replied is act cpu (number ∷ numbers) [] = refl
counted-replied is act cpu (number ∷ numbers) (told ∷ replies) =
    by (is told) refl (counted-replied is act cpu numbers replies) (sum_by-cons (λ (one : Answered). cond (is_by 0 one && is one.1) 1 0) (event_of cpu (act number), told) (answers_of cpu (map act numbers) replies))
  where
    by : (b : Bool) → is told ≡ b → count_by (λ (one : Answered). is_by 0 one && is one.1) (answers_of cpu (map act numbers) replies) ≡ length (replied is numbers replies)
        → count_by (λ (one : Answered). is_by 0 one && is one.1) (answers_of cpu (map act (number ∷ numbers)) (told ∷ replies)) ≡ cond (is told) 1 0 + count_by (λ (one : Answered). is_by 0 one && is one.1) (answers_of cpu (map act numbers) replies)
        → count_by (λ (one : Answered). is_by 0 one && is one.1) (answers_of cpu (map act (number ∷ numbers)) (told ∷ replies)) ≡ length (replied is (number ∷ numbers) (told ∷ replies))
    by true e rest split = rw e (let here = rw e at split in omega (arith, here, rest))
    by false e rest split = rw e (let here = rw e at split in omega (arith, here, rest))

one-ledger : (number : Ledger → ℕ) (ledgers : List Ledger) (d : Ledger) → length ledgers ≡ 1 → sum_by number ledgers ≡ number (slice_index_or ledgers 0 d)
one-ledger number [] d one = absurd (let never : ⊥ = omega (arith, one) in never)
one-ledger number (ledger ∷ []) d one = sum_by-cons number ledger [] ∙ omega arith
one-ledger number (ledger ∷ more ∷ ledgers) d one = absurd (let never : ⊥ = omega (arith, one) in never)

abbrev blank : Ledger
blank = record { given = 0; freed = 0; no_frames = [] }

pub ledger-given : (s : State) (act : ℕ → Act) (cpu : ℕ) (numbers : List ℕ) (replies : List Reply) (ledgers : List Ledger) → AreLedgers s (answers_of cpu (map act numbers) replies) 1 ledgers → given_in ledgers ≡ length (replied is_given numbers replies)
ledger-given s act cpu numbers replies ledgers are =
    one-ledger (λ ledger. ledger.given) ledgers blank are.each ∙ (are.counts 0 blank (omega arith)).given ∙ counted-replied is_given act cpu numbers replies

pub ledger-freed : (s : State) (act : ℕ → Act) (cpu : ℕ) (numbers : List ℕ) (replies : List Reply) (ledgers : List Ledger) → AreLedgers s (answers_of cpu (map act numbers) replies) 1 ledgers → freed_in ledgers ≡ length (replied is_freed numbers replies)
ledger-freed s act cpu numbers replies ledgers are =
    one-ledger (λ ledger. ledger.freed) ledgers blank are.each ∙ (are.counts 0 blank (omega arith)).freed ∙ counted-replied is_freed act cpu numbers replies
