-- The cause that a reply has on the step machine is one in the text.
use Rattle.std.proofs.Common.{◌≡◌, ◌≢◌, ℕ, ◌≤◌, ◌<◌, eqb, Bool, true, false, cond, not, List, [], ◌∷◌, refl, sym, ap, subst, ◌∙◌, arith, All, Option, Some, None, IsSome, IfSome, MatchOption, is_some, inl, inr, ◌⊎◌}
use Rattle.std.specs.Option.{option_and_then, option_map, option_map_or}
use Rattle.std.proofs.lemmas.Bool.{cases_Bool, false≢true}
use Rattle.std.proofs.lemmas.Bool.Decides.{nat_tests}
use Rattle.std.proofs.lemmas.Option.{none-some, same_Some}
use Rattle.slub_trace.specs.declared.event.Act.{Act}
use Rattle.slub_trace.specs.declared.event.Act.TheVariants.{Alloc, Free, Write, Read, Poke, Trim, Flush}
use Rattle.slub_object_layout.specs.declared.layout.Layout.{Layout}
use Rattle.slub_object_layout.specs.Layout.{address_of, no_layout}
use Rattle.slub_trace.specs.declared.reply.Reply.{Reply}
use Rattle.slub_trace.specs.declared.reply.Reply.TheVariants as reply
use Rattle.slub_words.specs.declared.board.BoardWord.{BoardWord}
use Rattle.slub_words.specs.Words.{IsSpent}
use Rattle.slub_cache_create.specs.declared.caches.Cache.{Cache}
use Rattle.slub_lists.specs.declared.lists.Held.{Held}
use Rattle.slub_lists.specs.State.{State}
use Rattle.slub_lists.specs.Alloc.{cache_of, checked_of, named}
use Rattle.slub_lists.specs.Coherent.{IsCoherent, held_under}
use Rattle.slub_lists.specs.Places.{layout_at}
use Rattle.slub_lists.specs.Words.{is_word}
use Rattle.slub_lists.proofs.ObjectWords.{held-cache}
use Rattle.slub_core.specs.declared.call.Call.{Call}
use Rattle.slub_core.specs.declared.call.CallKind.{CallKind}
use Rattle.slub_core.specs.declared.call.CallKind.TheVariants as kind
use Rattle.slub_core.specs.declared.local.Known.{Known}
use Rattle.slub_core.specs.declared.local.Answered.{Answered as Done}
use Rattle.slub_core.specs.Calls.{call_kind, call_object, call_word}
use Rattle.slub_core.specs.Setup.{Setup}
use Rattle.slub_core.specs.Steps.{is_outside}
use Rattle.slub_core.specs.Replies as core
use Rattle.slub_law_opening.specs.Opening.{Beside, board_word, setup_of}
use Rattle.slub_calls.specs.Calls.{call_for}
use Rattle.slub_law_rounds.specs.Answered.{Answered, holding, last_written, times_freed, times_taken}
use Rattle.slub_law_rounds.specs.Round.{AllocCause, ReplyCause, FlushCause, FreeCause, IsFreeable, IsOfChecked, IsOwnBytes, IsNearEnd, IsSpare, NamesUnchecked, PokeCause, ReadCause, Spot, TrimCause, WriteCause, has_word, layout_of, spot_by, spot_of, spot_under}
use Rattle.slub_law_rounds.proofs.Split.{back}
use Rattle.slub_law_rounds.proofs.Meeting.{IsMet}
use Rattle.slub_law_rounds.proofs.TellingRan.{holding-told, spot_from, spot_of_calls, spot-told}
use Rattle.slub_law_rounds.proofs.Counting.{written-told}

-- ---- which replies a call has

abbrev may_answer : CallKind → Reply → Bool
may_answer kind.Alloc (reply.Given address) = true
may_answer kind.Alloc reply.NoFrames = true
may_answer kind.Alloc reply.NoMemory = true
may_answer kind.Alloc reply.NoSuchCache = true
may_answer kind.Alloc (reply.IdsSpent tid) = true
may_answer kind.Free (reply.Freed address) = true
may_answer kind.Free reply.NotHeld = true
may_answer kind.Free (reply.Corrupt damage) = true
may_answer kind.Write reply.Wrote = true
may_answer kind.Write reply.NotHeld = true
may_answer kind.Write reply.OutOfObject = true
may_answer kind.Read (reply.Value value) = true
may_answer kind.Read reply.NotHeld = true
may_answer kind.Read reply.OutOfObject = true
may_answer kind.Poke reply.Poked = true
may_answer kind.Poke reply.OutOfSlot = true
may_answer kind.Poke reply.NotChecked = true
may_answer kind.Poke reply.NotHeld = true
may_answer kind.Trim (reply.Trimmed slabs) = true
may_answer kind.Trim reply.Checked = true
may_answer kind.Trim reply.NoSuchCache = true
may_answer kind.Flush (reply.Flushed slabs) = true
may_answer k r = false

unheld-answers : (k : CallKind) → core.names_object k ≡ true → core.is_alloc k ≡ false → may_answer k reply.NotHeld ≡ true
unheld-answers kind.Alloc names not_alloc = absurd (false≢true (sym not_alloc))
unheld-answers kind.Free names not_alloc = refl
unheld-answers kind.Write names not_alloc = refl
unheld-answers kind.Read names not_alloc = refl
unheld-answers kind.Poke names not_alloc = refl
unheld-answers kind.Trim names not_alloc = absurd (false≢true names)
unheld-answers kind.Flush names not_alloc = absurd (false≢true names)

either-answers : (k one other : CallKind) (r : Reply) → may_answer one r ≡ true → may_answer other r ≡ true → (k ≡ one) ⊎ (k ≡ other) → may_answer k r ≡ true
either-answers k one other r first second (inl is) = subst (λ k. may_answer k r ≡ true) (sym is) first
either-answers k one other r first second (inr is) = subst (λ k. may_answer k r ≡ true) (sym is) second

cause-answers : (m : Setup) (before : ℕ → Option BoardWord) (p : core.Public) (ds : List Done) (c : Call) (r : Reply) → core.Cause m before p ds c r → may_answer (call_kind c) r ≡ true
cause-answers m before p ds c (reply.Given a) cause = subst (λ k. may_answer k (reply.Given a) ≡ true) (sym cause.0) refl
cause-answers m before p ds c reply.NoFrames cause = subst (λ k. may_answer k reply.NoFrames ≡ true) (sym cause.0) refl
cause-answers m before p ds c reply.NoSuchCache cause = either-answers (call_kind c) kind.Alloc kind.Trim reply.NoSuchCache refl refl cause.0
cause-answers m before p ds c reply.NoMemory cause = subst (λ k. may_answer k reply.NoMemory ≡ true) (sym cause.0) refl
cause-answers m before p ds c (reply.IdsSpent t) cause = subst (λ k. may_answer k (reply.IdsSpent t) ≡ true) (sym cause.0) refl
cause-answers m before p ds c (reply.Freed a) cause = subst (λ k. may_answer k (reply.Freed a) ≡ true) (sym cause.0) refl
cause-answers m before p ds c reply.NotHeld cause = unheld-answers (call_kind c) cause.0 cause.1
cause-answers m before p ds c (reply.Corrupt d) cause = subst (λ k. may_answer k (reply.Corrupt d) ≡ true) (sym cause.0) refl
cause-answers m before p ds c reply.Wrote cause = subst (λ k. may_answer k reply.Wrote ≡ true) (sym cause.0) refl
cause-answers m before p ds c (reply.Value v) cause = subst (λ k. may_answer k (reply.Value v) ≡ true) (sym cause.0) refl
cause-answers m before p ds c reply.OutOfObject cause = either-answers (call_kind c) kind.Write kind.Read reply.OutOfObject refl refl cause.0
cause-answers m before p ds c reply.Poked cause = subst (λ k. may_answer k reply.Poked ≡ true) (sym cause.0) refl
cause-answers m before p ds c reply.OutOfSlot cause = subst (λ k. may_answer k reply.OutOfSlot ≡ true) (sym cause.0) refl
cause-answers m before p ds c reply.NotChecked cause = subst (λ k. may_answer k reply.NotChecked ≡ true) (sym cause.0) refl
cause-answers m before p ds c (reply.Trimmed n) cause = subst (λ k. may_answer k (reply.Trimmed n) ≡ true) (sym cause.0) refl
cause-answers m before p ds c reply.Checked cause = subst (λ k. may_answer k reply.Checked ≡ true) (sym cause.0) refl
cause-answers m before p ds c (reply.Flushed n) cause = subst (λ k. may_answer k (reply.Flushed n) ≡ true) (sym cause) refl

-- ---- where an object stands

some-of : {A : Type 0} (x : Option A) → is_some x ≡ true → (y : A) × (x ≡ Some y)
some-of None none = absurd (false≢true none)
some-of (Some y) some = (y, refl)

none-of : {A : Type 0} (x : Option A) → is_some x ≡ false → x ≡ None
none-of None none = refl
none-of (Some y) some = absurd (false≢true (sym some))

-- what has a cache by the replies has an address
addressed : (m : Setup) (before : ℕ → Option BoardWord) (ds : List Done) (o k : ℕ) → core.cache_by before ds o ≡ Some k → (a : ℕ) × (core.address_by m before ds o ≡ Some a)
addressed m before [] o k is = by (before o) is
  where
    by : (x : Option BoardWord) → option_map (λ (b : BoardWord). b.cache) x ≡ Some k → (a : ℕ) × (core.address_on m x ≡ Some a)
    by None is = absurd (none-some k is)
    by (Some b) is = (address_of b.frame b.index (m.layout b.cache), refl)
addressed m before (d ∷ ds) o k is = by (addressed m before ds o k) (eqb (call_object d.call) o) d.reply is
  where
    by : (core.cache_by before ds o ≡ Some k → (a : ℕ) × (core.address_by m before ds o ≡ Some a)) → (same : Bool) (r : Reply) → cond same (core.cache_after d.call r (core.cache_by before ds o)) (core.cache_by before ds o) ≡ Some k
        → (a : ℕ) × (cond same (core.address_after r (core.address_by m before ds o)) (core.address_by m before ds o) ≡ Some a)
    by again false r is = again is
    by again true (reply.Given a) is = (a, refl)
    by again true r is = again is

-- and what has an address has a cache, where each reply has its cause
cached : (m : Setup) (before : ℕ → Option BoardWord) (p : core.Public) (ds : List Done) (o a : ℕ) → core.Caused m before p ds → core.address_by m before ds o ≡ Some a → (k : ℕ) × (core.cache_by before ds o ≡ Some k)
cached m before p [] o a caused is = by (before o) is
  where
    by : (x : Option BoardWord) → core.address_on m x ≡ Some a → (k : ℕ) × (option_map (λ (b : BoardWord). b.cache) x ≡ Some k)
    by None is = absurd (none-some a is)
    by (Some b) is = (b.cache, refl)
cached m before p (d ∷ ds) o a caused is = by (cached m before p ds o a caused.1) (eqb (call_object d.call) o) d.reply caused.0 is
  where
    by : (core.address_by m before ds o ≡ Some a → (k : ℕ) × (core.cache_by before ds o ≡ Some k)) → (same : Bool) (r : Reply) → core.Cause m before p ds d.call r
        → cond same (core.address_after r (core.address_by m before ds o)) (core.address_by m before ds o) ≡ Some a
        → (k : ℕ) × (cond same (core.cache_after d.call r (core.cache_by before ds o)) (core.cache_by before ds o) ≡ Some k)
    by again false r cause is = again is
    by again true (reply.Given a) cause is = cause.1
    by again true r cause is = again is

-- ---- one worker

module _ (s : State) (b : Beside) (rooms : List Known) (before : ℕ → Option BoardWord) (p : core.Public) (board-is : (o : ℕ) → before o ≡ option_map board_word (held_under s o)) (coherent : IsCoherent s) (step : b.step ≤ 16) where
  abbrev some_spot : Spot → Option Spot
  some_spot spot = Some spot

  live-here : (held : Held) (live : Cache) → cache_of s held.cache ≡ Some live → spot_of s held ≡ Some (record { cache = held.cache; address = address_of held.frame held.index (layout_at s held.cache) })
  live-here held live is =
      let layout : layout_at s held.cache ≡ live.layout = rw is refl in
      let spot : spot_of s held ≡ Some (record { cache = held.cache; address = address_of held.frame held.index live.layout }) = rw is refl in
      spot ∙ ap (λ (l : Layout). some_spot (record { cache = held.cache; address = address_of held.frame held.index l })) (sym layout)

  -- on the board it stands where its slab's layout says
  pub spot-here : (o : ℕ) → spot_under s o ≡ spot_of_calls s rooms (setup_of s b) before o []
  spot-here o = by (held_under s o) refl ∙ ap (λ x. spot_from (option_map (λ (b : BoardWord). b.cache) x) (core.address_on (setup_of s b) x)) (sym (board-is o))
    where
      by : (x : Option Held) → held_under s o ≡ x → option_and_then (spot_of s) (held_under s o) ≡ spot_from (option_map (λ (b : BoardWord). b.cache) (option_map board_word (held_under s o))) (core.address_on (setup_of s b) (option_map board_word (held_under s o)))
      by None is = rw is refl
      by (Some held) is =
          let live = some-of (cache_of s held.cache) (held-cache s held (record { object = o; here = is }) coherent) in
          rw is (live-here held live.0 live.1)

  module _ (own : List Answered) (met : All (IsMet s.table) own) (caused : core.Caused (setup_of s b) before p (back s.table rooms own [])) where
    abbrev ds : List Done
    ds = back s.table rooms own []

    held-told : (o : ℕ) → holding o own ≡ core.holding ds o
    held-told o = holding-told s.table rooms o own met

    stands : (o : ℕ) → spot_by s o own ≡ spot_from (core.cache_by before ds o) (core.address_by (setup_of s b) before ds o)
    stands o = spot-told s rooms (setup_of s b) before o own met (spot-here o)

    at-spot : (o k a : ℕ) → core.cache_by before ds o ≡ Some k → core.address_by (setup_of s b) before ds o ≡ Some a → spot_by s o own ≡ Some (record { cache = k; address = a })
    at-spot o k a cache address = stands o ∙ ap (λ x. spot_from x (core.address_by (setup_of s b) before ds o)) cache ∙ ap (spot_from (Some k)) address

    spot-with : (o k : ℕ) → core.cache_by before ds o ≡ Some k → (a : ℕ) × (spot_by s o own ≡ Some (record { cache = k; address = a }))
    spot-with o k cache = let at = addressed (setup_of s b) before ds o k cache in (at.0, at-spot o k at.0 cache at.1)

    spot-at : (o a : ℕ) → core.address_by (setup_of s b) before ds o ≡ Some a → (k : ℕ) × (spot_by s o own ≡ Some (record { cache = k; address = a }))
    spot-at o a address = let of = cached (setup_of s b) before p ds o a caused address in (of.0, at-spot o of.0 a of.1 address)

    -- a word lies in the object, or it doesn't
    word-told : (o k word : ℕ) → core.cache_by before ds o ≡ Some k → has_word s o own word ≡ is_word (layout_at s k) word
    word-told o k word cache =
        let at = spot-with o k cache in
        ap (λ x. option_map_or (λ layout. is_word layout word) (option_and_then (layout_of s) x) false) at.1 ∙ by (cache_of s k)
      where
        by : (x : Option Cache) → option_map_or (λ layout. is_word layout word) (option_map (λ (live : Cache). live.layout) x) false ≡ is_word (option_map_or (λ (live : Cache). live.layout) x no_layout) word
        by None = grind (arith, nat_tests)
        by (Some live) = refl

    inside : (c : Call) → core.IsWithin (setup_of s b) (core.cache_by before ds (call_object c)) c → has_word s (call_object c) own (call_word c) ≡ true
    inside c within = word-told (call_object c) within.0 (call_word c) within.1 ∙ by (is_word (layout_at s within.0) (call_word c)) within.2
      where
        by : (w : Bool) → not w ≡ false → w ≡ true
        by true is = refl
        by false is = sym is

    outside : (c : Call) (k : ℕ) → core.cache_by before ds (call_object c) ≡ Some k → is_outside (layout_at s k) (call_word c) ≡ true → has_word s (call_object c) own (call_word c) ≡ false
    outside c k cache out = word-told (call_object c) k (call_word c) cache ∙ by (is_word (layout_at s k) (call_word c)) out
      where
        by : (w : Bool) → not w ≡ true → w ≡ false
        by true is = sym is
        by false is = refl

    -- an object of a cache that isn't checked, or of one that is
    plain-told : (o k : ℕ) → core.cache_by before ds o ≡ Some k → (¬ IsOfChecked s o own) → is_some (checked_of s k) ≡ false
    plain-told o k cache unchecked =
        let at = spot-with o k cache in
        elim (cases_Bool (is_some (checked_of s k))) [
          | inl checked ↦ absurd (unchecked (subst (λ x. MatchOption x ⊥ (λ (spot : Spot). IsSome (checked_of s spot.cache))) (sym at.1) checked))
          | inr plain ↦ plain
        ]

    checked-told : (o k : ℕ) → core.cache_by before ds o ≡ Some k → is_some (checked_of s k) ≡ true → IsOfChecked s o own
    checked-told o k cache checked =
        let at = spot-with o k cache in
        subst (λ x. MatchOption x ⊥ (λ (spot : Spot). IsSome (checked_of s spot.cache))) (sym at.1) checked

    on-board : (o a : ℕ) → core.address_on (setup_of s b) (before o) ≡ Some a → IsSome (held_under s o)
    on-board o a at = by (held_under s o) (ap (core.address_on (setup_of s b)) (sym (board-is o)) ∙ at)
      where
        by : (x : Option Held) → core.address_on (setup_of s b) (option_map board_word x) ≡ Some a → IsSome x
        by None is = absurd (none-some a is)
        by (Some held) is = refl

    -- ---- by the act; `all` are the answers of every worker

    module _ (all : List Answered) (cpu : ℕ) (freed-is : (o : ℕ) → p.freed o ≡ times_freed o all) (gone : (o : ℕ) → p.boarded o ≡ 0 → (held_under s o ≡ None) ⊎ (0 < times_taken o all))
        (kept : (o : ℕ) → core.holding ds o ≡ true → core.freed_in o ds ≡ 0) where
      spare : (a : ℕ) → ((o : ℕ) → core.address_by (setup_of s b) before ds o ≡ Some a → core.holding ds o ≡ false) → ((o : ℕ) → core.address_on (setup_of s b) (before o) ≡ Some a → 1 ≤ p.freed o) → IsSpare s all own a
      spare a unheld off = record {
        unheld = λ o holds. by o (core.cache_by before ds o) (core.address_by (setup_of s b) before ds o) refl (stands o) (sym (held-told o) ∙ holds);
        off_board = λ o. there o (spot_under s o) (spot-here o);
      }
        where
          by : (o : ℕ) (k at : Option ℕ) → core.address_by (setup_of s b) before ds o ≡ at → spot_by s o own ≡ spot_from k at → core.holding ds o ≡ true → IfSome (spot_by s o own) (λ spot. spot.address ≢ a)
          by o None at address is holds = subst (λ x. IfSome x (λ (spot : Spot). spot.address ≢ a)) (sym is) tt
          by o (Some k) None address is holds = subst (λ x. IfSome x (λ (spot : Spot). spot.address ≢ a)) (sym is) tt
          by o (Some k) (Some x) address is holds = subst (λ y. IfSome y (λ (spot : Spot). spot.address ≢ a)) (sym is) (λ same. false≢true (sym (unheld o (address ∙ ap (λ n. Some n) same)) ∙ holds))

          there : (o : ℕ) (x : Option Spot) → x ≡ spot_from (option_map (λ (b : BoardWord). b.cache) (before o)) (core.address_on (setup_of s b) (before o)) → IfSome x (λ spot. spot.address ≡ a → 0 < times_freed o all)
          there o None is = tt
          there o (Some spot) is = λ same. let some = off o (at (before o) is same) in omega (arith, some, freed-is o)
            where
              at : (w : Option BoardWord) → Some spot ≡ spot_from (option_map (λ (b : BoardWord). b.cache) w) (core.address_on (setup_of s b) w) → spot.address ≡ a → core.address_on (setup_of s b) w ≡ Some a
              at None is same = absurd (none-some spot (sym is))
              at (Some w) is same = ap (λ n. Some n) (sym (ap (λ (x : Spot). x.address) (same_Some spot _ is)) ∙ same)

      -- a name of a cache that isn't checked
      unchecked : (place k : ℕ) → named s place ≡ Some k → is_some (checked_of s k) ≡ false → NamesUnchecked s place
      unchecked place k is plain = subst (λ y. MatchOption y ⊥ (λ cache. checked_of s cache ≡ None)) (sym is) (none-of (checked_of s k) plain)

      -- each change of a transaction id adds 16 at most
      near_end : (t : ℕ) → IsSpent t b.step → IsNearEnd t
      near_end t spent = omega (arith, spent, step)

      alloc-cause : (place x : ℕ) (r : Reply) → may_answer kind.Alloc r ≡ true → core.Cause (setup_of s b) before p ds (call_for s.table rooms cpu (Alloc place x)) r → AllocCause s all own place r
      alloc-cause place x (reply.Given a) may cause = (ap is_some cause.1.1, spare a cause.2 cause.3)
      alloc-cause place x reply.NoFrames may cause = ap is_some cause.1.1
      alloc-cause place x reply.NoMemory may cause = subst (λ y. MatchOption y ⊥ (λ cache. IsSome (checked_of s cache))) (sym cause.1.1) cause.1.2
      alloc-cause place x reply.NoSuchCache may cause = cause.1
      alloc-cause place x (reply.IdsSpent t) may cause = (unchecked place cause.2.0 cause.2.1 cause.2.2, near_end t cause.1)
      alloc-cause place x r may cause = absurd (false≢true may)

      freeable : (o a : ℕ) → (core.holding ds o ≡ true) ⊎ (core.address_on (setup_of s b) (before o) ≡ Some a) → IsFreeable s own o
      freeable o a (inl holds) = inl (held-told o ∙ holds)
      freeable o a (inr on) = inr (on-board o a on)

      free-cause : (x : ℕ) (r : Reply) → may_answer kind.Free r ≡ true → core.Cause (setup_of s b) before p ds (call_for s.table rooms cpu (Free x)) r → FreeCause s all own x r
      free-cause x (reply.Freed a) may cause =
          let at = spot-at x a cause.1 in
          (freeable x a cause.2, subst (λ y. MatchOption y ⊥ (λ (spot : Spot). spot.address ≡ a)) (sym at.1) refl)
      free-cause x (reply.Corrupt d) may cause = (by cause.3, checked-told x cause.2.0 cause.2.1 cause.2.2, cause.1)
        where
          by : (core.holding ds x ≡ true) ⊎ ((a : ℕ) × (core.address_on (setup_of s b) (before x) ≡ Some a)) → IsFreeable s own x
          by (inl holds) = inl (held-told x ∙ holds)
          by (inr on) = inr (on-board x on.0 on.1)
      free-cause x reply.NotHeld may cause = (held-told x ∙ cause.2, gone x (cause.3 refl))
      free-cause x r may cause = absurd (false≢true may)

      write-cause : (x word value : ℕ) (r : Reply) → may_answer kind.Write r ≡ true → core.Cause (setup_of s b) before p ds (call_for s.table rooms cpu (Write word x value)) r → WriteCause s own x word r
      write-cause x word value reply.Wrote may cause = (held-told x ∙ cause.1, inside (call_for s.table rooms cpu (Write word x value)) cause.2)
      write-cause x word value reply.OutOfObject may cause = (held-told x ∙ cause.1, outside (call_for s.table rooms cpu (Write word x value)) cause.2.0 cause.2.1 cause.2.2)
      write-cause x word value reply.NotHeld may cause = held-told x ∙ cause.2
      write-cause x word value r may cause = absurd (false≢true may)

      read-cause : (x word : ℕ) (r : Reply) → ((value : ℕ) → r ≡ reply.Value value → IsOfChecked s x own → IsOwnBytes s all own x word value) → may_answer kind.Read r ≡ true
          → core.Cause (setup_of s b) before p ds (call_for s.table rooms cpu (Read word x)) r → ReadCause s all own x word r
      read-cause x word (reply.Value v) own_bytes may cause = (
        held-told x ∙ cause.1,
        inside (call_for s.table rooms cpu (Read word x)) cause.2,
        record {
          unchecked = λ plain.
              let is : last_written x word own ≡ Some v = written-told s.table rooms x word own met (kept x cause.1) ∙ cause.3 (cause.2.0, cause.2.1, plain-told x cause.2.0 cause.2.1 plain) in
              subst (λ y. IfSome y (λ written. v ≡ written)) (sym is) refl;
          checked = own_bytes v refl;
        },
      )
      read-cause x word reply.OutOfObject own_bytes may cause = (held-told x ∙ cause.1, outside (call_for s.table rooms cpu (Read word x)) cause.2.0 cause.2.1 cause.2.2)
      read-cause x word reply.NotHeld own_bytes may cause = held-told x ∙ cause.2
      read-cause x word r own_bytes may cause = absurd (false≢true may)

      poke-cause : (r : Reply) → may_answer kind.Poke r ≡ true → PokeCause r
      poke-cause reply.Poked may = tt
      poke-cause reply.OutOfSlot may = tt
      poke-cause reply.NotChecked may = tt
      poke-cause reply.NotHeld may = tt
      poke-cause r may = absurd (false≢true may)

      trim-cause : (place : ℕ) (r : Reply) → may_answer kind.Trim r ≡ true → core.Cause (setup_of s b) before p ds (call_for s.table rooms cpu (Trim place)) r → TrimCause s place r
      trim-cause place (reply.Trimmed n) may cause = unchecked place cause.1.0 cause.1.1 cause.1.2
      trim-cause place reply.Checked may cause = subst (λ y. MatchOption y ⊥ (λ cache. IsSome (checked_of s cache))) (sym cause.1.1) cause.1.2
      trim-cause place reply.NoSuchCache may cause = cause.1
      trim-cause place r may cause = absurd (false≢true may)

      flush-cause : (r : Reply) → may_answer kind.Flush r ≡ true → FlushCause r
      flush-cause (reply.Flushed n) may = tt
      flush-cause r may = absurd (false≢true may)

      pub cause-told : (a : Act) (r : Reply) → ((x word value : ℕ) → a ≡ Read word x → r ≡ reply.Value value → IsOfChecked s x own → IsOwnBytes s all own x word value)
          → core.Cause (setup_of s b) before p ds (call_for s.table rooms cpu a) r → ReplyCause s all own a r
      cause-told a r reads cause = by a reads cause (cause-answers (setup_of s b) before p ds (call_for s.table rooms cpu a) r cause)
        where
          by : (a : Act) → ((x word value : ℕ) → a ≡ Read word x → r ≡ reply.Value value → IsOfChecked s x own → IsOwnBytes s all own x word value) → core.Cause (setup_of s b) before p ds (call_for s.table rooms cpu a) r
              → may_answer (call_kind (call_for s.table rooms cpu a)) r ≡ true → ReplyCause s all own a r
          by (Alloc place x) reads cause may = alloc-cause place x r may cause
          by (Free x) reads cause may = free-cause x r may cause
          by (Write word x value) reads cause may = write-cause x word value r may cause
          by (Read word x) reads cause may = read-cause x word r (λ value. reads x word value refl) may cause
          by (Poke x offset byte) reads cause may = poke-cause r may
          by (Trim place) reads cause may = trim-cause place r may cause
          by Flush reads cause may = flush-cause r may
