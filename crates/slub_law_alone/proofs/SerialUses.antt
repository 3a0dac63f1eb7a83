-- A write or a read in the middle of a round: it takes a step, or its reply, which it has already, is that of the lists.
use Rattle.std.proofs.Common.{◌≡◌, ℕ, ◌<◌, cond, not, true, false, List, ◌∷◌, get_or, Option, Some, None, MatchOption, MatchBool, refl, ap, sym, ◌∙◌, subst, inl, inr}
use Rattle.std.specs.Prelude.{is_some}
use Rattle.std.specs.Option.{option_and_then}
use Rattle.std.proofs.lemmas.Bool.{cases_Bool, eq-eqb, false≢true, not-true}
use Rattle.slub_trace.specs.declared.reply.Reply.{Reply}
use Rattle.slub_trace.specs.declared.reply.Reply.TheVariants.{NotHeld, OutOfObject, Value, Wrote}
use Rattle.slub_cache_create.specs.declared.caches.Cache.{Cache}
use Rattle.slub_trace.specs.declared.event.Event.{Event}
use Rattle.slub_trace.specs.declared.event.Round.{Round}
use Rattle.slub_lists.specs.declared.lists.Held.{Held}
use Rattle.slub_lists.specs.State.{State}
use Rattle.slub_lists.specs.Alloc.{cache_of}
use Rattle.slub_lists.specs.Coherent.{held_under}
use Rattle.slub_lists.specs.Places.{layout_at}
use Rattle.slub_lists.specs.Words.{Reads, ReadsHeld, Writes, WritesHeld, held_by, is_word, own, with_word, word_of}
use Rattle.slub_lists.proofs.ObjectWords.{held-cache}
use Rattle.slub_core.specs.declared.call.Call.{Call}
use Rattle.slub_core.specs.declared.local.Known.{Known}
use Rattle.slub_core.specs.Calls.{call_word}
use Rattle.slub_core.specs.Accounted.{known_of, place_of}
use Rattle.slub_core.specs.Local.{nobody}
use Rattle.slub_core.specs.Run.{System}
use Rattle.slub_core.specs.Steps.{is_outside, told_of_use}
use Rattle.slub_core.specs.World.{World}
use Rattle.slub_law_opening.specs.Opening.{Beside}
use Rattle.slub_law_opening.proofs.Names.{as_held}
use Rattle.slub_calls.specs.Calls.{events_by, rooms_for}
use Rattle.slub_law_alone.specs.Alone.{worker_at}
use Rattle.slub_law_alone.proofs.FastFree.{layout_of}
use Rattle.slub_law_alone.proofs.Holders.{is-held, not-held}
use Rattle.slub_law_alone.proofs.Middle.{IsInText, layouts, m, mine, numbered, there}
use Rattle.slub_law_alone.proofs.Scripts.{script-known}

-- ---- replies that take no step, on lists

module _ (s : State) (worker object word : ℕ) where
  pub reads-unheld : held_by s worker object ≡ None → Reads s worker object word NotHeld
  reads-unheld none = subst (λ o. MatchOption o (NotHeld ≡ NotHeld) (λ (held : Held). MatchOption (cache_of s held.cache) ⊥ (λ live. ReadsHeld s live.layout held word NotHeld))) (sym none) refl

  pub writes-unheld : (value : ℕ) → held_by s worker object ≡ None → Writes s worker object word value NotHeld s
  writes-unheld value none =
      subst (λ o. MatchOption o ((NotHeld ≡ NotHeld) × (s ≡ s)) (λ (held : Held). MatchOption (cache_of s held.cache) ⊥ (λ live. WritesHeld s live.layout held word value NotHeld s))) (sym none) (refl, refl)

  module _ (held : Held) (is : held_by s worker object ≡ Some held) (lives : is_some (cache_of s held.cache) ≡ true) (out : is_word (layout_at s held.cache) word ≡ false) where
    at-live : (P : Cache → Type 0) → ((live : Cache) → is_word live.layout word ≡ false → P live) → MatchOption (cache_of s held.cache) ⊥ P
    at-live P each = by (cache_of s held.cache) refl lives
      where
        by : (o : Option Cache) → cache_of s held.cache ≡ o → is_some o ≡ true → MatchOption o ⊥ P
        by None e live = false≢true live
        by (Some live) e has_it = each live (ap (λ layout. is_word layout word) (sym (layout_of s held.cache live e)) ∙ out)

    pub reads-outside : Reads s worker object word OutOfObject
    reads-outside =
        subst (λ o. MatchOption o (OutOfObject ≡ NotHeld) (λ (held : Held). MatchOption (cache_of s held.cache) ⊥ (λ live. ReadsHeld s live.layout held word OutOfObject))) (sym is)
        (at-live (λ live. ReadsHeld s live.layout held word OutOfObject) (λ live out. subst (λ b. MatchBool b (OutOfObject ≡ Value (word_of s live.layout held word)) (OutOfObject ≡ OutOfObject)) (sym out) refl))

    pub writes-outside : (value : ℕ) → Writes s worker object word value OutOfObject s
    writes-outside value =
        subst (λ o. MatchOption o ((OutOfObject ≡ NotHeld) × (s ≡ s)) (λ (held : Held). MatchOption (cache_of s held.cache) ⊥ (λ live. WritesHeld s live.layout held word value OutOfObject s))) (sym is)
        (at-live (λ live. WritesHeld s live.layout held word value OutOfObject s)
        (λ live out. subst (λ b. MatchBool b ((OutOfObject ≡ Wrote) × (s ≡ with_word s live.layout held word value)) ((OutOfObject ≡ OutOfObject) × (s ≡ s))) (sym out) (refl, refl)))

-- ---- which of them the worker has

pub data IsUse (s : State) (worker object word : ℕ) (told : Option Reply) : Type 0 where
  unheld : told ≡ Some NotHeld → held_by s worker object ≡ None → IsUse s worker object word told
  outside : (held : Held) → told ≡ Some OutOfObject → held_by s worker object ≡ Some held → is_some (cache_of s held.cache) ≡ true → is_word (layout_at s held.cache) word ≡ false → IsUse s worker object word told
  steps : told ≡ None → IsUse s worker object word told

module _ (s0 : State) (b0 : Beside) (round : Round) (opening : World) (event : Event) (events past : List Event) (told : ℕ → List Reply) (s t : State) (d : Beside) (system : System) (is : IsInText s0 b0 round opening (event ∷ events) past told s t d system)
    (below : event.worker < round.workers) (object : ℕ) where
  abbrev x : ℕ
  x = event.worker

  abbrev pub known : Known
  known = get_or (mine s0 b0 round opening event events past told s t d system is below).base.known (place_of (rooms_for (events_by x round.events)) object) nobody

  pub same-known : known_of (worker_at system x).known object ≡ known
  same-known = script-known (m s0 b0 round opening) s0.table round x (event ∷ events) (told x) (worker_at system x) (mine s0 b0 round opening event events past told s t d system is below) object

  pub number : (worker_at system x).worker ≡ x
  number = numbered s0 b0 round opening event events past told s t d system is below x (there s0 b0 round opening event events past told s t d system is below)

  pub no-more : known.held ≡ false → held_by s x object ≡ None
  no-more free =
      ap (λ (t : State). held_by t x object) (sym is.same.lists)
      ∙ not-held opening t d system x is.rest (there s0 b0 round opening event events past told s t d system is below) (numbered s0 b0 round opening event events past told s t d system is below) object (ap (λ (k : Known). k.held) same-known ∙ free)

  module _ (held : known.held ≡ true) where
    pub under : held_under t object ≡ Some (as_held x known)
    under =
        is-held opening t d system x is.rest (there s0 b0 round opening event events past told s t d system is below) object (ap (λ (k : Known). k.held) same-known ∙ held)
        ∙ ap (λ n. Some (as_held n (known_of (worker_at system x).known object))) number ∙ ap (λ k. Some (as_held x k)) same-known

    pub its : held_by s x object ≡ Some (as_held x known)
    its =
        ap (λ (t : State). held_by t x object) (sym is.same.lists) ∙ ap (option_and_then (own x)) under
        ∙ ap (λ b. cond {A = Option Held} b (Some (as_held x known)) None) (eq-eqb x x refl)

    lives : is_some (cache_of s known.cache) ≡ true
    lives = ap (λ (t : State). is_some (cache_of t known.cache)) (sym is.same.lists) ∙ held-cache t (as_held x known) (record { object = object; here = under }) is.rest.lists

  pub use_of : (call : Call) → IsUse s x object (call_word call) (told_of_use (m s0 b0 round opening) known (call_word call))
  use_of call = elim (cases_Bool known.held) [
    | inr free ↦ unheld (ap (λ b. cond {A = Option Reply} (not b) (Some NotHeld) (cond {A = Option Reply} (is_outside (layout_at s0 known.cache) (call_word call)) (Some OutOfObject) None)) free) (no-more free)
    | inl held ↦
        let first : told_of_use (m s0 b0 round opening) known (call_word call) ≡ cond {A = Option Reply} (is_outside (layout_at s0 known.cache) (call_word call)) (Some OutOfObject) None
        = ap (λ b. cond {A = Option Reply} (not b) (Some NotHeld) (cond {A = Option Reply} (is_outside (layout_at s0 known.cache) (call_word call)) (Some OutOfObject) None)) held in
        elim (cases_Bool (is_outside (layout_at s0 known.cache) (call_word call))) [
          | inl out ↦ outside (as_held x known) (first ∙ ap (λ b. cond {A = Option Reply} b (Some OutOfObject) None) out) (its held) (lives held)
              (ap (λ layout. is_word layout (call_word call)) (sym (layouts s0 b0 round opening event events past told s t d system is below known.cache)) ∙ not-true (is_word (layout_at s0 known.cache) (call_word call)) out)
          | inr inside ↦ steps (first ∙ ap (λ b. cond {A = Option Reply} b (Some OutOfObject) None) inside)
        ]
  ]
