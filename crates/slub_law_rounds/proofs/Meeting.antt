-- A reply with the act that it answers.
use Rattle.std.proofs.Common.{◌≡◌, ℕ, ◌+◌, Bool, cond, List, [], ◌∷◌, refl, ap, ◌∙◌, arith, All, Option, Some}
use Rattle.std.specs.Prelude.{⊤, ℤ, count_by}
use Rattle.std.specs.List.{fold}
use Rattle.std.proofs.lemmas.List.Elements.{All-nil, All-cons, All-head, All-tail}
use Rattle.std.proofs.lemmas.List.Sums.{sum_by-cons}
use Rattle.slub_trace.specs.declared.event.Act.{Act}
use Rattle.slub_trace.specs.declared.event.Act.TheVariants.{Alloc, Free, Write, Poke}
use Rattle.slub_trace.specs.declared.event.Event.{Event}
use Rattle.slub_trace.specs.declared.damage.Damage.{Damage}
use Rattle.slub_trace.specs.declared.reply.Reply.{Reply}
use Rattle.slub_trace.specs.declared.reply.Reply.TheVariants as reply
use Rattle.slub_words.specs.declared.board.BoardWord.{BoardWord}
use Rattle.slub_cache_create.specs.Table.{Table}
use Rattle.slub_core.specs.declared.call.CallKind.TheVariants as kind
use Rattle.slub_core.specs.declared.local.Known.{Known}
use Rattle.slub_core.specs.declared.local.Answered.{Answered as Done}
use Rattle.slub_core.specs.Setup.{Setup}
use Rattle.slub_core.specs.Replies.{Public, Cause, Caused}
use Rattle.slub_core.specs.declared.call.Call.{Call}
use Rattle.slub_core.specs.Calls.{call_kind, call_cache}
use Rattle.slub_calls.specs.Calls.{call_for, cache_named}
use Rattle.slub_law_rounds.specs.Answered.{Answered}
use Rattle.slub_law_rounds.proofs.Split.{told, back}

-- a reply that changes nothing of what a worker holds
abbrev pub IsStill : Reply → Type 0
IsStill (reply.Given address) = ⊥
IsStill (reply.Freed address) = ⊥
IsStill (reply.Corrupt damage) = ⊥
IsStill _ = ⊤

-- and that tells of no write, no poke and no want of frames
abbrev pub IsQuiet : Reply → Type 0
IsQuiet reply.Wrote = ⊥
IsQuiet reply.Poked = ⊥
IsQuiet reply.NoFrames = ⊥
IsQuiet r = IsStill r

pub quiet-still : (r : Reply) → IsQuiet r → IsStill r
quiet-still (reply.Given a) quiet = quiet
quiet-still (reply.Freed a) quiet = quiet
quiet-still (reply.Corrupt d) quiet = quiet
quiet-still r quiet = tt

pub data Meets (table : Table) : Act → Reply → Type 0 where
  gave : (place x address : ℕ) → Meets table (Alloc place x) (reply.Given address)
  lacked : (place x k : ℕ) → cache_named table place ≡ Some k → Meets table (Alloc place x) reply.NoFrames
  freed : (x address : ℕ) → Meets table (Free x) (reply.Freed address)
  found : (x : ℕ) (damage : Damage) → Meets table (Free x) (reply.Corrupt damage)
  wrote : (x word value : ℕ) → Meets table (Write word x value) reply.Wrote
  poked : (x : ℕ) (offset : ℤ) (byte : ℕ) → Meets table (Poke x offset byte) reply.Poked
  quiet : (act : Act) (r : Reply) → IsQuiet r → Meets table act r

-- the call that a reply answers
abbrev Suits : Call → Reply → Type 0
Suits c (reply.Given address) = call_kind c ≡ kind.Alloc
Suits c reply.NoFrames = (call_kind c ≡ kind.Alloc) × ((k : ℕ) × (call_cache c ≡ Some k))
Suits c (reply.Freed address) = call_kind c ≡ kind.Free
Suits c (reply.Corrupt damage) = call_kind c ≡ kind.Free
Suits c reply.Wrote = call_kind c ≡ kind.Write
Suits c reply.Poked = call_kind c ≡ kind.Poke
Suits c _ = ⊤

cause-suits : (m : Setup) (before : ℕ → Option BoardWord) (p : Public) (ds : List Done) (c : Call) (r : Reply) → Cause m before p ds c r → Suits c r
cause-suits m before p ds c (reply.Given a) cause = cause.0
cause-suits m before p ds c reply.NoFrames cause = cause
cause-suits m before p ds c (reply.Freed a) cause = cause.0
cause-suits m before p ds c (reply.Corrupt d) cause = cause.0
cause-suits m before p ds c reply.Wrote cause = cause.0
cause-suits m before p ds c reply.Poked cause = cause.0
cause-suits m before p ds c r cause = tt

meets : (table : Table) (rooms : List Known) (cpu : ℕ) (a : Act) (r : Reply) → Suits (call_for table rooms cpu a) r → Meets table a r
meets table rooms cpu (Alloc place x) (reply.Given a) suits = gave place x a
meets table rooms cpu act (reply.Given a) suits = absurd (cc)
meets table rooms cpu (Alloc place x) reply.NoFrames suits = lacked place x suits.1.0 suits.1.1
meets table rooms cpu act reply.NoFrames suits = absurd (let k = suits.0 in cc)
meets table rooms cpu (Free x) (reply.Freed a) suits = freed x a
meets table rooms cpu act (reply.Freed a) suits = absurd (cc)
meets table rooms cpu (Free x) (reply.Corrupt d) suits = found x d
meets table rooms cpu act (reply.Corrupt d) suits = absurd (cc)
meets table rooms cpu (Write word x value) reply.Wrote suits = wrote x word value
meets table rooms cpu act reply.Wrote suits = absurd (cc)
meets table rooms cpu (Poke x offset byte) reply.Poked suits = poked x offset byte
meets table rooms cpu act reply.Poked suits = absurd (cc)
meets table rooms cpu act r suits = quiet act r tt

-- ---- all replies of a worker

abbrev pub IsMet : Table → Answered → Type 0
IsMet table one = Meets table one.0.act one.1

module _ (table : Table) (rooms : List Known) where
  module _ (m : Setup) (before : ℕ → Option BoardWord) (p : Public) where
    pub caused-first : (own : List Answered) (ds : List Done) → Caused m before p (back table rooms own ds) → Caused m before p ds
    caused-first [] ds caused = caused
    caused-first (one ∷ own) ds caused = (caused-first own (told table rooms one ∷ ds) caused).1

    pub all-met : (own : List Answered) (ds : List Done) → Caused m before p (back table rooms own ds) → All (IsMet table) own
    all-met [] ds caused = All-nil (IsMet table)
    all-met (one ∷ own) ds caused =
        let first = caused-first own (told table rooms one ∷ ds) caused in
        All-cons (IsMet table) one own (meets table rooms one.0.cpu one.0.act one.1 (cause-suits m before p ds (told table rooms one).call one.1 first.0)) (all-met own (told table rooms one ∷ ds) caused)

  -- a fold over the events from the first to the last, and what is read of the calls from the last to
  -- the first
  pub fold-back : {X : Type 0} (F : List Done → X) (f : X → Answered → X) → ((ds : List Done) (event : Event) (a : Act) (r : Reply) → event.act ≡ a → Meets table a r → f (F ds) (event, r) ≡ F (told table rooms (event, r) ∷ ds))
      → (own : List Answered) (ds : List Done) → All (IsMet table) own → fold f (F ds) own ≡ F (back table rooms own ds)
  fold-back F f step [] ds met = refl
  fold-back F f step (one ∷ own) ds met =
      ap (λ x. fold f x own) (step ds one.0 one.0.act one.1 refl (All-head (IsMet table) one own met)) ∙ fold-back F f step own (told table rooms one ∷ ds) (All-tail (IsMet table) one own met)

  -- and a count
  pub count-back : (F : List Done → ℕ) (p : Answered → Bool) → ((ds : List Done) (event : Event) (a : Act) (r : Reply) → event.act ≡ a → Meets table a r → F (told table rooms (event, r) ∷ ds) ≡ cond (p (event, r)) 1 0 + F ds)
      → (own : List Answered) (ds : List Done) → All (IsMet table) own → F (back table rooms own ds) ≡ count_by p own + F ds
  count-back F p step [] ds met = omega arith
  count-back F p step (one ∷ own) ds met =
      let here = step ds one.0 one.0.act one.1 refl (All-head (IsMet table) one own met) in
      let rest = count-back F p step own (told table rooms one ∷ ds) (All-tail (IsMet table) one own met) in
      omega (arith, here, rest, sum_by-cons (λ (one : Answered). cond (p one) 1 0) one own)
