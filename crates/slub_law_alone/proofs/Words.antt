-- Writes, reads and pokes have one outcome.
use Rattle.std.proofs.Common.{◌≡◌, ℕ, ℤ, refl, sym, ◌∙◌, MatchOption}
use Rattle.std.specs.Prelude.{nat_lt}
use Rattle.slub_cache_create.specs.declared.caches.Cache.{Cache}
use Rattle.slub_red_zone.specs.State.{CheckedState, objects_in, slab_of as checked_slab}
use Rattle.slub_red_zone.specs.Steps.{with_byte}
use Rattle.slub_trace.specs.declared.reply.Reply.{Reply}
use Rattle.slub_trace.specs.declared.reply.Reply.TheVariants.{NotChecked, NotHeld, OutOfObject, Poked, Value, Wrote}
use Rattle.slub_lists.specs.declared.lists.Held.{Held}
use Rattle.slub_lists.specs.State.{State}
use Rattle.slub_lists.specs.Alloc.{cache_of, checked_of}
use Rattle.slub_lists.specs.Checked.{slot_of_held, with_checked}
use Rattle.slub_lists.specs.Words.{PokesChecked, PokesSlot, ReadsHeld, WritesHeld, held_by, inside, is_word, known_to, outside, with_word, word_of}
use Rattle.slub_law_alone.specs.Outcome.{HasOneOutcome}
use Rattle.slub_law_alone.specs.Events.{PokesHaveOneOutcome, ReadsHaveOneReply, WritesHaveOneOutcome}
use Rattle.slub_law_alone.proofs.Steps.{exact, never, by_option, by_bool}

-- ---- words

pub writes_one : WritesHaveOneOutcome
writes_one s worker object word value =
    by_option Reply State Held (held_by s worker object) (λ reply after. (reply ≡ NotHeld) × (after ≡ s))
    (λ held reply after. MatchOption (cache_of s held.cache) ⊥ (λ live. WritesHeld s live.layout held word value reply after))
    (exact Reply State NotHeld s)
    (λ held. by_option Reply State Cache (cache_of s held.cache) (λ reply after. ⊥) (λ live. WritesHeld s live.layout held word value) (never Reply State)
    (λ live. by_bool Reply State (is_word live.layout word) (λ reply after. (reply ≡ Wrote) × (after ≡ with_word s live.layout held word value))
    (λ reply after. (reply ≡ OutOfObject) × (after ≡ s)) (exact Reply State Wrote (with_word s live.layout held word value)) (exact Reply State OutOfObject s)))

-- a reply that is told outright
told : (a : Reply) → HasOneOutcome Reply (Unit {0}) (λ reply left. reply ≡ a)
told a one other left right x y = (x ∙ sym y, refl)

pub reads_one : ReadsHaveOneReply
reads_one s worker object word one other a b =
    (by_option Reply (Unit {0}) Held (held_by s worker object) (λ reply left. reply ≡ NotHeld)
    (λ held reply left. MatchOption (cache_of s held.cache) ⊥ (λ live. ReadsHeld s live.layout held word reply))
    (told NotHeld)
    (λ held. by_option Reply (Unit {0}) Cache (cache_of s held.cache) (λ reply left. ⊥) (λ live reply left. ReadsHeld s live.layout held word reply) (never Reply (Unit {0}))
    (λ live. by_bool Reply (Unit {0}) (is_word live.layout word) (λ reply left. reply ≡ Value (word_of s live.layout held word)) (λ reply left. reply ≡ OutOfObject)
    (told (Value (word_of s live.layout held word))) (told OutOfObject)))
    one other tt tt a b).0

-- ---- pokes

slot_one : (s : State) (slabs : CheckedState) (held : Held) (offset : ℤ) (byte : ℕ) → HasOneOutcome Reply State (PokesSlot s slabs held offset byte)
slot_one s slabs held offset byte =
    let poked : State = with_checked s held.cache (with_byte slabs (slot_of_held held) offset byte) in
    by_bool Reply State (nat_lt held.index (objects_in (checked_slab slabs held.frame))) (λ reply after. (reply ≡ Poked) × (after ≡ poked))
    (λ reply after. (reply ≡ NotHeld) × (after ≡ s)) (exact Reply State Poked poked) (exact Reply State NotHeld s)

checked_one : (s : State) (slabs : CheckedState) (held : Held) (offset : ℤ) (byte : ℕ) → HasOneOutcome Reply State (PokesChecked s slabs held offset byte)
checked_one s slabs held offset byte one other left right (outside out r e) (outside out' q f) = (r ∙ sym q, e ∙ sym f)
checked_one s slabs held offset byte one other left right (outside out r e) (inside within p) = absurd (out within)
checked_one s slabs held offset byte one other left right (inside within p) (outside out r e) = absurd (out within)
checked_one s slabs held offset byte one other left right (inside within p) (inside within' q) = slot_one s slabs held offset byte one other left right p q

pub pokes_one : PokesHaveOneOutcome
pokes_one s worker object offset byte =
    by_option Reply State Held (known_to s worker object) (λ reply after. (reply ≡ NotHeld) × (after ≡ s))
    (λ held reply after. MatchOption (checked_of s held.cache) ((reply ≡ NotChecked) × (after ≡ s)) (λ slabs. PokesChecked s slabs held offset byte reply after))
    (exact Reply State NotHeld s)
    (λ held. by_option Reply State CheckedState (checked_of s held.cache) (λ reply after. (reply ≡ NotChecked) × (after ≡ s))
    (λ slabs. PokesChecked s slabs held offset byte) (exact Reply State NotChecked s) (λ slabs. checked_one s slabs held offset byte))
