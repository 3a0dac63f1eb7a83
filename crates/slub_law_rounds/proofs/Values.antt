-- A word of an object that isn't checked is what its worker wrote there last.
use Rattle.std.proofs.Common.{◌≡◌, ◌≢◌, ℕ, ◌&&◌, Bool, true, false, cond, eqb, List, [], ◌∷◌, ◌++◌, get_or, set, refl, sym, ◌∙◌, ap, subst, arith, Option, Some, None, IfSome, inl, inr, is_some, get_or-set_other, get_or-set_same}
use Rattle.std.specs.Option.{option_and_then, option_map_or}
use Rattle.std.proofs.lemmas.Bool.{cases_eq, eq-eqb, ne_eqb}
use Rattle.slub_trace.specs.declared.event.Act.TheVariants.{Write}
use Rattle.slub_object_layout.specs.Layout.{is_checked}
use Rattle.slub_cache_create.specs.Table.{Table, cache_of as live_cache}
use Rattle.slub_cache_create.specs.declared.caches.Cache.{Cache}
use Rattle.slub_red_zone.specs.State.{CheckedState}
use Rattle.slub_red_zone.specs.Steps.{with_word as slab_word}
use Rattle.slub_lists.specs.declared.lists.Held.{Held}
use Rattle.slub_trace.specs.declared.reply.Reply.{Reply}
use Rattle.slub_trace.specs.declared.reply.Reply.TheVariants as reply
use Rattle.slub_lists.specs.State.{State}
use Rattle.slub_lists.specs.Alloc.{cache_of, checked_of}
use Rattle.slub_lists.specs.Checked.{slot_of_held, with_checked}
use Rattle.slub_lists.specs.Coherent.{IsCoherent, held_under}
use Rattle.slub_lists.specs.Laws.{Names}
use Rattle.slub_lists.specs.Alloc.{HasLayout}
use Rattle.slub_lists.specs.Words.{Writes, is_word, is_worker, own, with_word, word_at}
use Rattle.slub_lists.proofs.ObjectWords.{memory-read, own-is, word-inside, writes-word}
use Rattle.slub_lists.proofs.Spared.{writes-spare}
use Rattle.slub_slabinfo_text.specs.Lawful.{is_by}
use Rattle.slub_law_rounds.specs.Answered.{Answered, gave, is_alloc_of, last_written, of_worker, written_after}
use Rattle.slub_law_rounds.proofs.Runs.{Turn, comes, fold-own, goes, rests, stays}
use Rattle.slub_law_rounds.proofs.Steps.{Holds, Step, flushes, frees, gives, keeps, lacks, nameless, pokes, pokes_not, reads, reads_none, reads_not, refuses, trims, trims_checked, trims_none, wants, word-keeps, writes, writes_none, writes_not}
use Rattle.slub_law_rounds.proofs.Tale.{injected, same-worker}

-- ---- which caches are checked

-- a live cache is checked before as after
pub checked-kept : (s after : State) (cache : ℕ) (live : Cache) → IsCoherent s → IsCoherent after → after.table ≡ s.table → cache_of s cache ≡ Some live → is_some (checked_of s cache) ≡ is_some (checked_of after cache)
checked-kept s after cache live coherent next table is =
    sym (at s is (coherent.shaped.checked.all cache)) ∙ at after (ap (λ (t : Table). live_cache t cache) table ∙ is) (next.shaped.checked.all cache)
  where
    at : (t : State) → cache_of t cache ≡ Some live → IfSome (cache_of t cache) (λ live. is_checked live.flags ≡ is_some (checked_of t cache)) → is_checked live.flags ≡ is_some (checked_of t cache)
    at t is all = subst (λ x. IfSome x (λ live. is_checked live.flags ≡ is_some (checked_of t cache))) is all

pub unchecked-back : (s after : State) (cache : ℕ) (live : Cache) → IsCoherent s → IsCoherent after → after.table ≡ s.table → cache_of s cache ≡ Some live → checked_of after cache ≡ None → checked_of s cache ≡ None
unchecked-back s after cache live coherent next table is none = gone (checked_of s cache) (checked-kept s after cache live coherent next table is ∙ ap is_some none)
  where
    gone : (x : Option CheckedState) → is_some x ≡ false → x ≡ None
    gone None e = refl
    gone (Some slabs) e = absurd (cc)

-- ---- what was written last

abbrev is_wrote : Reply → Bool
is_wrote reply.Wrote = true
is_wrote answer = false

same-written : (object word : ℕ) (last : Option ℕ) (one : Answered) → is_wrote one.1 ≡ false → gave object one ≡ false → written_after object word last one ≡ last
same-written object word last (event, reply.Wrote) other given = absurd (cc)
same-written object word last (event, reply.Given address) other given = by (is_alloc_of object event.act) given
  where
    by : (b : Bool) → (b && true) ≡ false → cond b None last ≡ last
    by true is = absurd (cc)
    by false is = refl
same-written object word last (event, answer) other given = refl

given-written : (object word : ℕ) (last : Option ℕ) (one : Answered) (address : ℕ) → one.1 ≡ reply.Given address → gave object one ≡ true → written_after object word last one ≡ None
given-written object word last (event, answer) address is given = rw is (by (is_alloc_of object event.act) (rw is at given))
  where
    by : (b : Bool) → (b && true) ≡ true → cond b None last ≡ None
    by true e = refl
    by false e = absurd (cc)

wrote-written : (object word other place value : ℕ) (last : Option ℕ) (one : Answered) → one.1 ≡ reply.Wrote → one.0.act ≡ Write place other value → written_after object word last one ≡ cond (eqb other object && eqb place word) (Some value) last
wrote-written object word other place value last (event, answer) is asks = rw (is, asks) refl

-- ---- what an event does to the words of the frames

-- a word is written, or the words are as before
pub data Words (s : State) (one : Answered) (after : State) : Type 0 where
  unwrote : after.memory ≡ s.memory → is_wrote one.1 ≡ false → Words s one after
  wrote : (object word value : ℕ) (live : Cache) (held : Held) → one.0.act ≡ Write word object value → Holds s one.0.worker object held live → is_word live.layout word ≡ true
      → one.1 ≡ reply.Wrote → after ≡ with_word s live.layout held word value → Words s one after

pub words-of : (s : State) (one : Answered) (after : State) → Step s one.0 one.1 after → Words s one after
words-of s one after (gives place object live held asks names is_live mine is unheld board gone table memory cpus frames dry) = unwrote memory (ap is_wrote is)
words-of s one after (lacks place object cache live asks names is_live is board gone table memory cpus frames dry) = unwrote memory (ap is_wrote is)
words-of s one after (wants place object cache live slabs asks names is_live checked is kept) = unwrote kept.memory (ap is_wrote is)
words-of s one after (nameless place object asks none is now) = unwrote (ap (λ (t : State). t.memory) now) (ap is_wrote is)
words-of s one after (frees object live held asks was may is_live is board gone table memory cpus frames dry) = unwrote memory (ap is_wrote is)
words-of s one after (keeps object damage held slabs asks was may checked taken is now) = unwrote (ap (λ (t : State). t.memory) now) (ap is_wrote is)
words-of s one after (refuses object asks why is now) = unwrote (ap (λ (t : State). t.memory) now) (ap is_wrote is)
words-of s one after (writes object word value live held asks holds within is now) = wrote object word value live held asks holds within is now
words-of s one after (writes_none object word value live held asks holds past is now) = unwrote (ap (λ (t : State). t.memory) now) (ap is_wrote is)
words-of s one after (writes_not object word value asks none is now) = unwrote (ap (λ (t : State). t.memory) now) (ap is_wrote is)
words-of s one after (reads object word live held asks holds within is now) = unwrote (ap (λ (t : State). t.memory) now) (ap is_wrote is)
words-of s one after (reads_none object word live held asks holds past is now) = unwrote (ap (λ (t : State). t.memory) now) (ap is_wrote is)
words-of s one after (reads_not object word asks none is now) = unwrote (ap (λ (t : State). t.memory) now) (ap is_wrote is)
words-of s one after (pokes object offset byte held slabs asks knows checked inside is now) = unwrote (ap (λ (t : State). t.memory) now) (ap is_wrote is)
words-of s one after (trims place cache slabs asks names unchecked is kept same_slabs) = unwrote kept.memory (ap is_wrote is)
words-of s one after (trims_checked place cache slabs asks names checked is now) = unwrote (ap (λ (t : State). t.memory) now) (ap is_wrote is)
words-of s one after (trims_none place asks none is now) = unwrote (ap (λ (t : State). t.memory) now) (ap is_wrote is)
words-of s one after (flushes slabs asks is kept same_slabs) = unwrote kept.memory (ap is_wrote is)
words-of s one after (pokes_not object offset byte asks why now) = unwrote (ap (λ (t : State). t.memory) now) (elim why [
  | inl is ↦ ap is_wrote is
  | inr rest ↦ elim rest [ inl is ↦ ap is_wrote is | inr is ↦ ap is_wrote is ]
])

-- ---- the words of what is held

abbrev pub Values : List Answered → State → Type 0
Values past s = (worker object word value : ℕ) (held : Held) (live : Cache) → held_under s object ≡ Some held → held.worker ≡ Some worker → checked_of s held.cache ≡ None → cache_of s held.cache ≡ Some live
    → is_word live.layout word ≡ true → last_written object word (of_worker worker past) ≡ Some value → get_or s.memory (word_at live.layout held word) 0 ≡ value

has-layout : (s : State) (held : Held) (live : Cache) → cache_of s held.cache ≡ Some live → HasLayout s held.cache live.layout
has-layout s held live is = rw is refl

pub own-worker : (worker : ℕ) (x : Option Held) (held : Held) → option_and_then (own worker) x ≡ Some held → held.worker ≡ Some worker
own-worker worker None held e = absurd (cc)
own-worker worker (Some other) held e = by (is_worker worker other.worker) refl e
  where
    named : (w : Option ℕ) → is_worker worker w ≡ true → w ≡ Some worker
    named None is = absurd (cc)
    named (Some holder) is = ap Some (same-worker holder worker is)

    by : (b : Bool) → is_worker worker other.worker ≡ b → cond b (Some other) None ≡ Some held → held.worker ≡ Some worker
    by true is e = ap (λ (h : Held). h.worker) (sym (injected e)) ∙ named other.worker is
    by false is e = absurd (cc)

module _ (past : List Answered) (s : State) (one : Answered) (after : State) (coherent : IsCoherent s) (next : IsCoherent after) (table : after.table ≡ s.table) (values : Values past s) where
  -- the last write, where this event is none of the word
  unwritten : (worker object word : ℕ) → ((last : Option ℕ) → written_after object word last one ≡ last) → last_written object word (of_worker worker (past ++ one ∷ [])) ≡ last_written object word (of_worker worker past)
  unwritten worker object word other = fold-own (written_after object word) None worker past one ∙ pick (is_by worker one)
    where
      pick : (b : Bool) → cond b (written_after object word (last_written object word (of_worker worker past)) one) (last_written object word (of_worker worker past)) ≡ last_written object word (of_worker worker past)
      pick true = other (last_written object word (of_worker worker past))
      pick false = refl

  module _ (worker object word value : ℕ) (held : Held) (live : Cache) (there : held_under after object ≡ Some held) (mine : held.worker ≡ Some worker) (unchecked : checked_of after held.cache ≡ None)
      (is_live : cache_of after held.cache ≡ Some live) (within : is_word live.layout word ≡ true) (last : last_written object word (of_worker worker (past ++ one ∷ [])) ≡ Some value) where
    was-live : cache_of s held.cache ≡ Some live
    was-live = ap (λ (t : Table). live_cache t held.cache) (sym table) ∙ is_live

    was-unchecked : checked_of s held.cache ≡ None
    was-unchecked = unchecked-back s after held.cache live coherent next table was-live unchecked

    -- the words are as before
    quiet : after.memory ≡ s.memory → is_wrote one.1 ≡ false → Turn s one after object → get_or after.memory (word_at live.layout held word) 0 ≡ value
    quiet memory other (rests board gone given freed bad) =
        ap (λ m. get_or m (word_at live.layout held word) 0) memory
        ∙ values worker object word value held live (sym board ∙ there) mine was-unchecked was-live within (sym (unwritten worker object word (λ last. same-written object word last one other given)) ∙ last)
    quiet memory other (comes place address come none now gone owner given freed bad asks is asked spot) =
        let same : Some one.0.worker ≡ Some worker = sym owner ∙ ap (λ (h : Held). h.worker) (injected (sym now ∙ there)) ∙ mine in
        let own : is_by worker one ≡ true = eq-eqb one.0.worker worker (injected same) in
        absurd (let never : None ≡ Some value = sym (given-written object word (last_written object word (of_worker worker past)) one address is given) ∙ rw own at (sym (fold-own (written_after object word) None worker past one) ∙ last) in cc)
    quiet memory other (goes address was_held was may now gone given freed bad asks is spot) = absurd (let never : None ≡ Some held = sym now ∙ there in cc)
    quiet memory other (stays was_held slabs checked was may now gone given freed bad) =
        absurd (let never : Some slabs ≡ None = sym checked ∙ ap (λ (h : Held). checked_of s h.cache) (injected (sym now ∙ there)) ∙ was-unchecked in cc)

    -- a word of another object, or another word of this one
    module _ (other place new : ℕ) (owner : Cache) (own : Held) (asks : one.0.act ≡ Write place other new) (holds : Holds s one.0.worker other own owner) (fits : is_word owner.layout place ≡ true)
        (is : one.1 ≡ reply.Wrote) (now : after ≡ with_word s owner.layout own place new) where
      was-there : held_under s object ≡ Some held
      was-there = ap (λ (b : List (Option Held)). get_or b object None) (sym (ap (λ (t : State). t.board) now ∙ (word-keeps s owner.layout own place new).board)) ∙ there

      own-there : held_under s other ≡ Some own
      own-there = own-is one.0.worker (held_under s other) own holds.here

      not-mine : eqb other object && eqb place word ≡ false → last_written object word (of_worker worker past) ≡ Some value
      not-mine differ = sym (unwritten worker object word (λ last. wrote-written object word other place new last one is asks ∙ ap (λ b. cond b (Some new) last) differ)) ∙ last

      before-it : eqb other object && eqb place word ≡ false → get_or s.memory (word_at live.layout held word) 0 ≡ value
      before-it differ = values worker object word value held live was-there mine was-unchecked was-live within (not-mine differ)

      -- another object: a write spares its words
      spared : other ≢ object → get_or after.memory (word_at live.layout held word) 0 ≡ value
      spared differ =
          let done : Writes s one.0.worker other place new reply.Wrote after = writes-word s one.0.worker other place own owner.layout holds.here (has-layout s own owner holds.cache) new after fits now in
          let names : Names s object held live.layout = record { here = was-there; live = has-layout s held live was-live } in
          memory-read after live.layout held word unchecked
          ∙ writes-spare s one.0.worker other place new reply.Wrote after coherent done object word held live.layout (λ e. differ (sym e)) names within
          ∙ sym (memory-read s live.layout held word was-unchecked)
          ∙ before-it (rw (ne_eqb other object differ) refl)

      -- this object
      of-mine : other ≡ object → get_or after.memory (word_at live.layout held word) 0 ≡ value
      of-mine same =
          let one_object : own ≡ held = injected (sym own-there ∙ ap (held_under s) same ∙ was-there) in
          let one_cache : owner ≡ live = injected (sym holds.cache ∙ ap (λ (h : Held). cache_of s h.cache) one_object ∙ was-live) in
          let owned : checked_of s own.cache ≡ None = ap (λ (h : Held). checked_of s h.cache) one_object ∙ was-unchecked in
          let stored : after ≡ record s { memory = set s.memory (word_at owner.layout own place) new } =
          now ∙ ap (λ x. option_map_or (λ slabs. with_checked s own.cache (slab_word slabs (slot_of_held own) place new)) x (record s { memory = set s.memory (word_at owner.layout own place) new })) owned in
          let memory : after.memory ≡ set s.memory (word_at live.layout held place) new = ap (λ (t : State). t.memory) stored ∙ ap (λ (h : Held). set s.memory (word_at owner.layout h place) new) one_object ∙ ap (λ (c : Cache). set s.memory (word_at c.layout held place) new) one_cache in
          let fits_mine : is_word live.layout place ≡ true = ap (λ (c : Cache). is_word c.layout place) (sym one_cache) ∙ fits in
          ap (λ m. get_or m (word_at live.layout held word) 0) memory ∙ elim (cases_eq place word) [
            | inl here ↦
                let mine_too : Some one.0.worker ≡ Some worker = sym (own-worker one.0.worker (held_under s other) own holds.here) ∙ ap (λ (h : Held). h.worker) one_object ∙ mine in
                let by_it : is_by worker one ≡ true = eq-eqb one.0.worker worker (injected mine_too) in
                let written : Some new ≡ Some value =
                sym (wrote-written object word other place new (last_written object word (of_worker worker past)) one is asks ∙ ap (λ b. cond (b && eqb place word) (Some new) (last_written object word (of_worker worker past))) (eq-eqb other object same) ∙ ap (λ b. cond b (Some new) (last_written object word (of_worker worker past))) (eq-eqb place word here))
                ∙ rw by_it at (sym (fold-own (written_after object word) None worker past one) ∙ last) in
                ap (λ w. get_or (set s.memory (word_at live.layout held place) new) (word_at live.layout held w) 0) (sym here)
                ∙ get_or-set_same s.memory (word_at live.layout held place) new 0 (word-inside s held live.layout (record { object = object; here = was-there }) (has-layout s held live was-live) coherent place fits_mine)
                ∙ injected written
            | inr elsewhere ↦
                get_or-set_other s.memory (word_at live.layout held place) (word_at live.layout held word) new 0 (λ e. elsewhere (sym (let same : word ≡ place = omega (arith, e) in same)))
                ∙ before-it (rw (ne_eqb place word elsewhere) (by (eqb other object)))
          ]
        where
          by : (b : Bool) → (b && false) ≡ false
          by true = refl
          by false = refl

      written : get_or after.memory (word_at live.layout held word) 0 ≡ value
      written = elim (cases_eq other object) [ inl same ↦ of-mine same | inr differ ↦ spared differ ]

    value-by : Words s one after → Turn s one after object → get_or after.memory (word_at live.layout held word) 0 ≡ value
    value-by (unwrote memory other) turn = quiet memory other turn
    value-by (wrote other place new owner own asks holds fits is now) turn = written other place new owner own asks holds fits is now

  pub values-step : Step s one.0 one.1 after → ((object : ℕ) → Turn s one after object) → Values (past ++ one ∷ []) after
  values-step step turns = λ worker object word value held live there mine unchecked is_live within last.
      value-by worker object word value held live there mine unchecked is_live within last (words-of s one after step) (turns object)
