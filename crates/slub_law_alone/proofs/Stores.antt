-- Writes and reads over other words of the frames.
use Rattle.std.proofs.Common.{◌≡◌, ℕ, ◌⊎◌, Bool, true, false, List, get_or, set, Option, Some, None, MatchOption, MatchBool, refl, ap, sym, ◌∙◌, subst, inl, inr}
use Rattle.std.specs.Option.{option_and_then, option_map_or}
use Rattle.std.proofs.lemmas.Bool.{cases_Bool, eqb-true, false≢true}
use Rattle.slub_trace.specs.declared.reply.Reply.{Reply}
use Rattle.slub_trace.specs.declared.reply.Reply.TheVariants.{NotHeld, Wrote, Value, OutOfObject}
use Rattle.slub_cache_create.specs.declared.caches.Cache.{Cache}
use Rattle.slub_red_zone.specs.State.{CheckedState}
use Rattle.slub_red_zone.specs.Steps.{with_word as slab_word}
use Rattle.slub_lists.specs.declared.lists.Held.{Held}
use Rattle.slub_lists.specs.State.{State}
use Rattle.slub_lists.specs.Alloc.{cache_of, checked_of}
use Rattle.slub_lists.specs.Checked.{slot_of_held, with_checked}
use Rattle.slub_lists.specs.Coherent.{held_under}
use Rattle.slub_lists.specs.Places.{layout_at}
use Rattle.slub_lists.specs.Words.{Writes, Reads, WritesHeld, ReadsHeld, held_by, own, is_worker, is_word, word_at, with_word, word_of}
use Rattle.slub_lists.proofs.ObjectWords.{memory-read, memory-written, slab-read}
use Rattle.slub_law_alone.proofs.FastFree.{layout_of}
use Rattle.slub_law_alone.proofs.Memory.{over}

-- what a worker holds under a number, the number names, and it is the worker's
pub held-own : (s : State) (worker object : ℕ) (held : Held) → held_by s worker object ≡ Some held → (held_under s object ≡ Some held) × (held.worker ≡ Some worker)
held-own s worker object held is = by (held_under s object) refl is
  where
    same : {x y : Held} → Some x ≡ Some y → x ≡ y
    same e = cc

    mine : (n : Option ℕ) → is_worker worker n ≡ true → n ≡ Some worker
    mine None e = absurd (false≢true e)
    mine (Some n) e = ap Some (eqb-true n worker e)

    own-it : (x : Held) (b : Bool) → is_worker worker x.worker ≡ b → own worker x ≡ Some held → (x ≡ held) × (held.worker ≡ Some worker)
    own-it x true e found = let x_is : x ≡ held = same (sym (rw e refl) ∙ found) in (x_is, ap (λ (x : Held). x.worker) (sym x_is) ∙ mine x.worker e)
    own-it x false e found = absurd (let none : own worker x ≡ None = rw e refl in let both = sym none ∙ found in cc both)

    by : (o : Option Held) → held_under s object ≡ o → option_and_then (own worker) o ≡ Some held → (held_under s object ≡ Some held) × (held.worker ≡ Some worker)
    by None e found = absurd (cc found)
    by (Some x) e found = let r = own-it x (is_worker worker x.worker) refl found in (e ∙ ap Some r.0, r.1)

-- what a write over some words leaves, and what it leaves over others: it writes no word of the frames, or one word of an object of an unchecked cache that the worker holds
pub record WritesBoth (s : State) (old new : List ℕ) (worker object word value : ℕ) (reply : Reply) (after : State) : Type 0 where
  pub lists : State
  pub left : List ℕ
  pub writes : Writes (over old s) worker object word value reply (over left lists)
  pub wrote : List ℕ
  pub after_is : after ≡ over wrote lists
  pub table : lists.table ≡ s.table
  pub board : lists.board ≡ s.board
  pub gone : lists.gone ≡ s.gone
  pub words : ((left ≡ old) × (wrote ≡ new) × ((held : Held) → held_by s worker object ≡ Some held → checked_of s held.cache ≡ None → is_word (layout_at s held.cache) word ≡ false))
      ⊎ ((held : Held) × (held_by s worker object ≡ Some held) × (is_word (layout_at s held.cache) word ≡ true)
      × (left ≡ set old (word_at (layout_at s held.cache) held word) value) × (wrote ≡ set new (word_at (layout_at s held.cache) held word) value))

module _ (s : State) (old new : List ℕ) (worker object word : ℕ) (reply : Reply) where
  same-held : {x y : Held} → Some x ≡ Some y → x ≡ y
  same-held e = cc

  module _ (value : ℕ) (after : State) where
    abbrev Answer : List ℕ → State → Option Held → Type 0
    Answer memory t o = MatchOption o ((reply ≡ NotHeld) × (t ≡ over memory s)) (λ (held : Held). MatchOption (cache_of s held.cache) ⊥ (λ live. WritesHeld (over memory s) live.layout held word value reply t))

    nothing : ((held : Held) → held_by s worker object ≡ Some held → checked_of s held.cache ≡ None → is_word (layout_at s held.cache) word ≡ false) → Answer old (over old s) (held_by s worker object) → after ≡ over new s → WritesBoth s old new worker object word value reply after
    nothing none writes is = record { lists = s; left = old; writes = writes; wrote = new; after_is = is; table = refl; board = refl; gone = refl; words = inl (refl, refl, none) }

    module _ (held : Held) (is : held_by s worker object ≡ Some held) (live : Cache) (there : cache_of s held.cache ≡ Some live) (done : WritesHeld (over new s) live.layout held word value reply after) where
      answers : (t : State) → WritesHeld (over old s) live.layout held word value reply t → Answer old t (held_by s worker object)
      answers t writes = subst (Answer old t) (sym is) (subst (λ x. MatchOption x ⊥ (λ live. WritesHeld (over old s) live.layout held word value reply t)) (sym there) writes)

      abbrev Told : List ℕ → State → Bool → Type 0
      Told memory t b = MatchBool b ((reply ≡ Wrote) × (t ≡ with_word (over memory s) live.layout held word value)) ((reply ≡ OutOfObject) × (t ≡ over memory s))

      inside : is_word live.layout word ≡ true → (x : Option CheckedState) → checked_of s held.cache ≡ x → WritesBoth s old new worker object word value reply after
      inside in_it None plain =
          let layout = layout_of s held.cache live there in
          let wrote = subst (Told new after) in_it done in
          let left : List ℕ = set old (word_at live.layout held word) value in
          record {
            lists = s;
            left = left;
            writes = answers (over left s) (subst (Told old (over left s)) (sym in_it) (wrote.0, memory-written (over old s) live.layout held word value plain));
            wrote = set new (word_at live.layout held word) value;
            after_is = wrote.1 ∙ sym (memory-written (over new s) live.layout held word value plain);
            table = refl;
            board = refl;
            gone = refl;
            words = inr (held, is, ap (λ layout. is_word layout word) layout ∙ in_it, ap (λ layout. set old (word_at layout held word) value) (sym layout), ap (λ layout. set new (word_at layout held word) value) (sym layout));
          }
      inside in_it (Some slabs) checked =
          let wrote = subst (Told new after) in_it done in
          let lists : State = with_checked s held.cache (slab_word slabs (slot_of_held held) word value) in
          let now : (memory : List ℕ) → with_word (over memory s) live.layout held word value ≡ over memory lists
          = λ memory. ap (λ x. option_map_or (λ slabs. with_checked (over memory s) held.cache (slab_word slabs (slot_of_held held) word value)) x (record s { memory = set memory (word_at live.layout held word) value })) checked in
          record {
            lists = lists;
            left = old;
            writes = answers (over old lists) (subst (Told old (over old lists)) (sym in_it) (wrote.0, sym (now old)));
            wrote = new;
            after_is = wrote.1 ∙ now new;
            table = refl;
            board = refl;
            gone = refl;
            words = inl (refl, refl, λ other also plain. absurd (let both = sym checked ∙ ap (λ (h : Held). checked_of s h.cache) (same-held (sym is ∙ also)) ∙ plain in cc both));
          }

      outside : is_word live.layout word ≡ false → WritesBoth s old new worker object word value reply after
      outside out =
          let told = subst (Told new after) out done in
          nothing (λ other also plain. ap (λ (h : Held). is_word (layout_at s h.cache) word) (same-held (sym also ∙ is)) ∙ ap (λ layout. is_word layout word) (layout_of s held.cache live there) ∙ out)
          (answers (over old s) (subst (Told old (over old s)) (sym out) (told.0, refl))) told.1

      within : WritesBoth s old new worker object word value reply after
      within = elim (cases_Bool (is_word live.layout word)) [ inl in_it ↦ inside in_it (checked_of s held.cache) refl | inr out ↦ outside out ]

    pub writes-over : Writes (over new s) worker object word value reply after → WritesBoth s old new worker object word value reply after
    writes-over done = by (held_by s worker object) refl done
      where
        live-match : (held : Held) → held_by s worker object ≡ Some held → (x : Option Cache) → cache_of s held.cache ≡ x → MatchOption x ⊥ (λ live. WritesHeld (over new s) live.layout held word value reply after) → WritesBoth s old new worker object word value reply after
        live-match held is None there none = absurd none
        live-match held is (Some live) there done = within held is live there done

        by : (o : Option Held) → held_by s worker object ≡ o → Answer new after o → WritesBoth s old new worker object word value reply after
        by None is none = nothing (λ held found plain. absurd (let both = sym is ∙ found in cc both)) (subst (Answer old (over old s)) (sym is) (none.0, refl)) none.1
        by (Some held) is done = live-match held is (cache_of s held.cache) refl done

  -- a read of a word that is the same in both
  pub reads-over : ((held : Held) → held_by s worker object ≡ Some held → checked_of s held.cache ≡ None → is_word (layout_at s held.cache) word ≡ true → get_or new (word_at (layout_at s held.cache) held word) 0 ≡ get_or old (word_at (layout_at s held.cache) held word) 0)
      → Reads (over new s) worker object word reply → Reads (over old s) worker object word reply
  reads-over same done = by (held_by s worker object) refl done
    where
      value-same : (held : Held) → held_by s worker object ≡ Some held → (live : Cache) → cache_of s held.cache ≡ Some live → is_word live.layout word ≡ true → (x : Option CheckedState) → checked_of s held.cache ≡ x → word_of (over new s) live.layout held word ≡ word_of (over old s) live.layout held word
      value-same held is live there in_it None plain =
          sym (memory-read (over new s) live.layout held word plain)
          ∙ subst (λ layout. is_word layout word ≡ true → get_or new (word_at layout held word) 0 ≡ get_or old (word_at layout held word) 0) (layout_of s held.cache live there) (same held is plain) in_it
          ∙ memory-read (over old s) live.layout held word plain
      value-same held is live there in_it (Some slabs) checked =
          sym (slab-read (over new s) live.layout held word slabs checked) ∙ slab-read (over old s) live.layout held word slabs checked

      inside : (held : Held) → held_by s worker object ≡ Some held → (live : Cache) → cache_of s held.cache ≡ Some live → ReadsHeld (over new s) live.layout held word reply → ReadsHeld (over old s) live.layout held word reply
      inside held is live there done = elim (cases_Bool (is_word live.layout word)) [
        | inl in_it ↦
            let told = subst (λ b. MatchBool b (reply ≡ Value (word_of (over new s) live.layout held word)) (reply ≡ OutOfObject)) in_it done in
            subst (λ b. MatchBool b (reply ≡ Value (word_of (over old s) live.layout held word)) (reply ≡ OutOfObject)) (sym in_it)
            (told ∙ ap Value (value-same held is live there in_it (checked_of s held.cache) refl))
        | inr out ↦
            subst (λ b. MatchBool b (reply ≡ Value (word_of (over old s) live.layout held word)) (reply ≡ OutOfObject)) (sym out)
            (subst (λ b. MatchBool b (reply ≡ Value (word_of (over new s) live.layout held word)) (reply ≡ OutOfObject)) out done)
      ]

      live-match : (held : Held) → held_by s worker object ≡ Some held → (x : Option Cache) → cache_of s held.cache ≡ x → MatchOption x ⊥ (λ live. ReadsHeld (over new s) live.layout held word reply) → MatchOption x ⊥ (λ live. ReadsHeld (over old s) live.layout held word reply)
      live-match held is None there none = absurd none
      live-match held is (Some live) there done = inside held is live there done

      by : (o : Option Held) → held_by s worker object ≡ o → MatchOption o (reply ≡ NotHeld) (λ (held : Held). MatchOption (cache_of s held.cache) ⊥ (λ live. ReadsHeld (over new s) live.layout held word reply)) → MatchOption o (reply ≡ NotHeld) (λ (held : Held). MatchOption (cache_of s held.cache) ⊥ (λ live. ReadsHeld (over old s) live.layout held word reply))
      by None is none = none
      by (Some held) is done = live-match held is (cache_of s held.cache) refl done
