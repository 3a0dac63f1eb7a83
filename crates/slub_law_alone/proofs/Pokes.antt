-- A poke in the middle of a round: it takes a step, or its reply, which it has already, is that of the lists.
use Rattle.std.proofs.Common.{◌≡◌, ℕ, ◌<◌, ◌≤◌, cond, eqb, not, Bool, true, false, List, ◌∷◌, get_or, Option, Some, None, MatchBool, MatchOption, refl, ap, sym, ◌∙◌, subst, arith, inl, inr}
use Rattle.std.specs.Prelude.{ℤ, is_some, nat_lt}
use Rattle.std.specs.Option.{option_or}
use Rattle.std.proofs.lemmas.Bool.{cases_Bool}
use Rattle.slub_trace.specs.declared.reply.Reply.{Reply}
use Rattle.slub_trace.specs.Kinds.{is_no_memory}
use Rattle.slub_trace.specs.declared.reply.Reply.TheVariants.{NotChecked, NotHeld, Poked}
use Rattle.slub_trace.specs.declared.event.Act.TheVariants as act
use Rattle.slub_trace.specs.declared.event.Event.{Event}
use Rattle.slub_trace.specs.declared.event.Round.{Round}
use Rattle.slub_red_zone.specs.State.{CheckedState, objects_in, slab_of as checked_slab}
use Rattle.slub_red_zone.specs.Steps.{with_byte}
use Rattle.slub_lists.specs.declared.lists.Held.{Held}
use Rattle.slub_lists.specs.State.{State}
use Rattle.slub_lists.specs.Alloc.{checked_of}
use Rattle.slub_lists.specs.Checked.{slot_of_held, with_checked}
use Rattle.slub_lists.specs.Words.{Pokes, PokesChecked, freed_by, known_to}
use Rattle.slub_lists.specs.Words.PokesChecked.{inside, outside}
use Rattle.slub_lists.proofs.Kept.{consistent-of}
use Rattle.slub_core.specs.declared.local.Known.{Known}
use Rattle.slub_core.specs.Calls.{call_place}
use Rattle.slub_core.specs.Local.{nobody}
use Rattle.slub_core.specs.Run.{System}
use Rattle.slub_core.specs.Steps.{told_of_poke}
use Rattle.slub_core.specs.World.{World}
use Rattle.slub_law_opening.specs.Opening.{Beside}
use Rattle.slub_law_opening.proofs.Names.{as_held}
use Rattle.slub_law_alone.specs.Alone.{known_at, worker_at}
use Rattle.slub_law_alone.specs.CheckedAlone.{PokesAlone, held_known}
use Rattle.slub_law_alone.proofs.CheckedPokes.{pokes_done}
use Rattle.slub_law_alone.specs.Serial.{IsSameWritten, call_of}
use Rattle.slub_law_alone.proofs.Acts.{event_of}
use Rattle.slub_law_alone.proofs.SerialAway.{checks-same, left-same, unwritten}
use Rattle.slub_law_alone.proofs.Knowing.{KnowsGone, gone_as, held-frame}
use Rattle.slub_law_alone.proofs.Memory.{IsFreed, over}
use Rattle.slub_law_alone.proofs.Middle.{IsInText, Stepped, at_once, by_turns, comes-next, grows-more, knows-the-same, m, mine, more-grown, none-there, table-same}
use Rattle.slub_law_alone.proofs.Scripts.{script-same}
use Rattle.slub_law_alone.proofs.SerialUses.{its, known, no-more, number, same-known, under}
use Rattle.slub_calls.specs.Events.{changes_of}

-- ---- over other words

-- what a poke leaves
record IsPoked (s : State) (memory : List ℕ) (reply : Reply) (after : State) : Type 0 where
  memory_is : after.memory ≡ memory
  table : after.table ≡ s.table
  board : after.board ≡ s.board
  gone : after.gone ≡ s.gone
  there_is : is_no_memory reply ≡ false

module _ (s : State) (old new : List ℕ) (worker object : ℕ) (offset : ℤ) (byte : ℕ) (reply : Reply) (after : State) where
  poked-as : (t : State) → after ≡ over new t → t.table ≡ s.table → t.board ≡ s.board → t.gone ≡ s.gone → is_no_memory reply ≡ false → IsPoked s new reply after
  poked-as t is table board gone there_is = record {
    memory_is = ap (λ (t : State). t.memory) is;
    table = ap (λ (t : State). t.table) is ∙ table;
    board = ap (λ (t : State). t.board) is ∙ board;
    gone = ap (λ (t : State). t.gone) is ∙ gone;
    there_is = there_is;
  }

  slot-over : (slabs : CheckedState) (cache : ℕ) (b : Bool) → MatchBool b ((reply ≡ Poked) × (after ≡ with_checked (over new s) cache slabs)) ((reply ≡ NotHeld) × (after ≡ over new s))
      → MatchBool b ((reply ≡ Poked) × (over old after ≡ with_checked (over old s) cache slabs)) ((reply ≡ NotHeld) × (over old after ≡ over old s)) × IsPoked s new reply after
  slot-over slabs cache true done = ((done.0, ap (over old) done.1), poked-as (with_checked s cache slabs) done.1 refl refl refl (ap is_no_memory done.0))
  slot-over slabs cache false done = ((done.0, ap (over old) done.1), poked-as s done.1 refl refl refl (ap is_no_memory done.0))

  slabs-over : (slabs : CheckedState) (held : Held) → PokesChecked (over new s) slabs held offset byte reply after → PokesChecked (over old s) slabs held offset byte reply (over old after) × IsPoked s new reply after
  slabs-over slabs held (outside out said is) = (outside out said (ap (over old) is), poked-as s is refl refl refl (ap is_no_memory said))
  slabs-over slabs held (inside in_it done) =
      let r = slot-over (with_byte slabs (slot_of_held held) offset byte) held.cache (nat_lt held.index (objects_in (checked_slab slabs held.frame))) done in
      (inside in_it r.0, r.1)

  cache-over : (held : Held) (y : Option CheckedState) → MatchOption y ((reply ≡ NotChecked) × (after ≡ over new s)) (λ slabs. PokesChecked (over new s) slabs held offset byte reply after)
      → MatchOption y ((reply ≡ NotChecked) × (over old after ≡ over old s)) (λ slabs. PokesChecked (over old s) slabs held offset byte reply (over old after)) × IsPoked s new reply after
  cache-over held None done = ((done.0, ap (over old) done.1), poked-as s done.1 refl refl refl (ap is_no_memory done.0))
  cache-over held (Some slabs) done = slabs-over slabs held done

  known-over : (x : Option Held) → MatchOption x ((reply ≡ NotHeld) × (after ≡ over new s)) (λ held. MatchOption (checked_of s held.cache) ((reply ≡ NotChecked) × (after ≡ over new s)) (λ slabs. PokesChecked (over new s) slabs held offset byte reply after))
      → MatchOption x ((reply ≡ NotHeld) × (over old after ≡ over old s)) (λ held. MatchOption (checked_of s held.cache) ((reply ≡ NotChecked) × (over old after ≡ over old s)) (λ slabs. PokesChecked (over old s) slabs held offset byte reply (over old after))) × IsPoked s new reply after
  known-over None done = ((done.0, ap (over old) done.1), poked-as s done.1 refl refl refl (ap is_no_memory done.0))
  known-over (Some held) done = cache-over held (checked_of s held.cache) done

  poke-over : Pokes (over new s) worker object offset byte reply after → Pokes (over old s) worker object offset byte reply (over old after) × IsPoked s new reply after
  poke-over done = known-over (known_to s worker object) done

-- ---- replies that take no step, on lists

module _ (s : State) (worker object : ℕ) (offset : ℤ) (byte : ℕ) where
  pokes-unknown : known_to s worker object ≡ None → Pokes s worker object offset byte NotHeld s
  pokes-unknown none =
      subst (λ o. MatchOption o ((NotHeld ≡ NotHeld) × (s ≡ s)) (λ (held : Held). MatchOption (checked_of s held.cache) ((NotHeld ≡ NotChecked) × (s ≡ s)) (λ slabs. PokesChecked s slabs held offset byte NotHeld s))) (sym none) (refl, refl)

  pokes-unchecked : (held : Held) → known_to s worker object ≡ Some held → checked_of s held.cache ≡ None → Pokes s worker object offset byte NotChecked s
  pokes-unchecked held its plain =
      subst (λ o. MatchOption o ((NotChecked ≡ NotHeld) × (s ≡ s)) (λ (held : Held). MatchOption (checked_of s held.cache) ((NotChecked ≡ NotChecked) × (s ≡ s)) (λ slabs. PokesChecked s slabs held offset byte NotChecked s))) (sym its)
      (subst (λ y. MatchOption y ((NotChecked ≡ NotChecked) × (s ≡ s)) (λ slabs. PokesChecked s slabs held offset byte NotChecked s)) (sym plain) (refl, refl))

-- ---- which of them the worker has

data IsPoke (s : State) (worker object : ℕ) (k : Known) (told : Option Reply) : Type 0 where
  unknown : told ≡ Some NotHeld → known_to s worker object ≡ None → IsPoke s worker object k told
  unchecked : told ≡ Some NotChecked → known_to s worker object ≡ Some (held_known worker k) → checked_of s k.cache ≡ None → IsPoke s worker object k told
  steps : told ≡ None → known_to s worker object ≡ Some (held_known worker k) → IsPoke s worker object k told

module _ (s0 : State) (b0 : Beside) (round : Round) (opening : World) (line worker cpu object : ℕ) (offset : ℤ) (byte : ℕ) (events past : List Event) (told : ℕ → List Reply) (s t : State) (d : Beside) (system : System)
    (is : IsInText s0 b0 round opening (event_of line worker cpu (act.Poke object offset byte) ∷ events) past told s t d system) (below : worker < round.workers) where
  abbrev pokes : Event
  pokes = event_of line worker cpu (act.Poke object offset byte)

  abbrev k : Known
  k = known s0 b0 round opening pokes events past told s t d system is below object

  -- what the lists say that the worker knows, it knows
  knows : known_to s worker object ≡ gone_as worker k
  knows = elim (cases_Bool k.held) [
    | inr free ↦
        ap (λ h. option_or h (freed_by s worker object)) (no-more s0 b0 round opening pokes events past told s t d system is below object free)
        ∙ subst (KnowsGone s worker object) (same-known s0 b0 round opening pokes events past told s t d system is below object) (is.known.knows worker below object) free
    | inl held ↦
        ap (λ h. option_or h (freed_by s worker object)) (its s0 b0 round opening pokes events past told s t d system is below object held)
        ∙ sym (ap (λ b. cond {A = Option Held} b None (Some (held_known worker k))) (held-frame t object (as_held worker k) (consistent-of t is.rest.lists) (under s0 b0 round opening pokes events past told s t d system is below object held)))
  ]

  poke_of : IsPoke s worker object k (told_of_poke (m s0 b0 round opening) k)
  poke_of =
      let all = λ (a b : Bool). cond {A = Option Reply} a (Some NotHeld) (cond {A = Option Reply} (not b) (Some NotChecked) None) in
      let checks = is_some (checked_of s0 k.cache) in
      elim (cases_Bool (eqb k.frame 0)) [
        | inl none ↦ unknown (ap (λ a. all a checks) none) (knows ∙ ap (λ b. cond {A = Option Held} b None (Some (held_known worker k))) none)
        | inr some ↦
            let its = knows ∙ ap (λ b. cond {A = Option Held} b None (Some (held_known worker k))) some in
            elim (cases_Bool checks) [
              | inl checked ↦ steps (ap (λ a. all a checks) some ∙ ap (all false) checked) its
              | inr plain ↦ unchecked (ap (λ a. all a checks) some ∙ ap (all false) plain) its
                  (none-there (checked_of s k.cache) (sym (checks-same s0 b0 round opening line worker cpu (act.Poke object offset byte) events past told s t d system is below (λ w o at written. written) k.cache) ∙ plain))
            ]
      ]

  none-written : IsSameWritten (pokes ∷ past) s t
  none-written = unwritten s0 b0 round opening line worker cpu (act.Poke object offset byte) events past told s t d system is below (λ w o at written. written)

  no-changes : (n : ℕ) → changes_of s0.table past n ≤ changes_of s0.table (pokes ∷ past) n
  no-changes n = let more = more-grown s0 b0 round opening pokes events past told s t d system is below n in omega (arith, more)

  module _ (none : told_of_poke (m s0 b0 round opening) k ≡ None) (holds : known_to s worker object ≡ Some (held_known worker k)) where
    own-number : (worker_at system worker).worker ≡ worker
    own-number = number s0 b0 round opening pokes events past told s t d system is below object

    at-place : known_at (worker_at system worker) (call_of s0.table round pokes) ≡ k
    at-place = ap (λ ks. get_or ks (call_place (call_of s0.table round pokes)) nobody) (script-same (m s0 b0 round opening) s0.table round worker (pokes ∷ events) (told worker) (worker_at system worker) (mine s0 b0 round opening pokes events past told s t d system is below))

    holds-there : known_to t (worker_at system worker).worker object ≡ Some (held_known (worker_at system worker).worker (known_at (worker_at system worker) (call_of s0.table round pokes)))
    holds-there =
        ap (λ (t : State). known_to t (worker_at system worker).worker object) is.same.lists ∙ ap (λ n. known_to s n object) own-number ∙ holds
        ∙ sym (ap (λ n. Some (held_known n (known_at (worker_at system worker) (call_of s0.table round pokes)))) own-number ∙ ap (λ k. Some (held_known worker k)) at-place)

    poked : PokesAlone opening t d system worker (call_of s0.table round pokes)
    poked = pokes_done opening t d system worker (call_of s0.table round pokes) is.rest (comes-next s0 b0 round opening pokes events past told s t d system is below none) refl holds-there

    poke-left : Pokes s worker object offset byte poked.reply (over s.memory poked.after) × IsPoked s t.memory poked.reply poked.after
    poke-left = poke-over s s.memory t.memory worker object offset byte poked.reply poked.after
        (subst (λ t. Pokes t worker object offset byte poked.reply poked.after) is.same.lists
        (subst (λ n. Pokes t n object offset byte poked.reply poked.after) own-number poked.pokes))

    as-freed : IsFreed s t.memory poked.after
    as-freed = record { memory_is = poke-left.1.memory_is; table = poke-left.1.table; named = λ other held there plain. sym (ap (λ b. get_or b other None) poke-left.1.board) ∙ there }

    poke-stored : Stepped s0 b0 round opening pokes events past told s d system
    poke-stored = by_turns s0 b0 round opening pokes events past told s t d system is below none 2 poked.reply poked.after d poked.replies
        (over s.memory poked.after) poke-left.0 poke-left.1.there_is
        (left-same s0 b0 round opening line worker cpu (act.Poke object offset byte) events past told s t d system is below (λ w o at written. written) poked.after d poked.replies.setup as-freed)
        (poke-left.1.table ∙ table-same s0 b0 round opening pokes events past told s t d system is below)
        (grows-more (changes_of s0.table past) (changes_of s0.table (pokes ∷ past)) b0 d no-changes is.grown) refl
        (worker_at system worker).known poked.known (knows-the-same s0 b0 round opening pokes events past told s t d system is below (over s.memory poked.after) poke-left.1.gone poke-left.1.board)

  pub poke_steps : Stepped s0 b0 round opening pokes events past told s d system
  poke_steps = by poke_of
    where
      by : IsPoke s worker object k (told_of_poke (m s0 b0 round opening) k) → Stepped s0 b0 round opening pokes events past told s d system
      by (unknown has none) = at_once s0 b0 round opening pokes events past told s t d system is below NotHeld has (pokes-unknown s worker object offset byte none) refl none-written refl
      by (unchecked has holds plain) = at_once s0 b0 round opening pokes events past told s t d system is below NotChecked has (pokes-unchecked s worker object offset byte (held_known worker k) holds plain) refl none-written refl
      by (steps none holds) = poke-stored none holds
