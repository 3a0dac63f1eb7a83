-- Where a machine stands before and after an item.
use Rattle.std.proofs.Common.{◌≡◌, ℕ, zero, suc, ◌+◌, ◌<◌, List, [], ◌∷◌, ◌++◌, length, map, take, drop, get_or, flat_map, refl, sym, ◌∙◌, ap, subst, All, nat_eq, Option, Some, None, IfSome}
use Rattle.std.specs.List.{IsDistinct}
use Rattle.std.specs.Option.{option_map}
use Rattle.std.proofs.lemmas.List.{drop_more, take-append-drop}
use Rattle.std.proofs.lemmas.List.Concat.{flat_map-append}
use Rattle.slub_trace.specs.declared.event.Round.{Round}
use Rattle.slub_lists.specs.declared.lists.Held.{Held}
use Rattle.slub_lists.specs.State.{State}
use Rattle.slub_lists.specs.Coherent.{IsCoherent, KeepsMachine, all_on_board, laid_down}
use Rattle.slub_trace.specs.declared.trace.Item.{Item}
use Rattle.slub_trace.specs.declared.trace.Item.TheVariants as item
use Rattle.slub_trace.specs.declared.trace.Trace.{Trace}
use Rattle.slub_trace.specs.Sound.{IsSound, objects_in, objects_of}
use Rattle.slub_slabinfo_text.specs.Lawful.{IsAtRest, IsReady, IsUnheld, coming}
use Rattle.slub_slabinfo_text.proofs.Laws.{no_held}
use Rattle.slub_engine.specs.Steps.{KeepsSizes, KeepsUnheld}
use Rattle.slub_engine.proofs.Parts.{All-back, All-front, distinct_back, distinct_front}
use Rattle.slub_engine.proofs.Unheld.{board_keeps, still_unheld}

-- ---- the numbers that are to come

-- those of an item, and those of the items after it
coming_split : (trace : Trace) (number : ℕ) (it : Item) → number < length trace.items → it ≡ get_or trace.items number it
    → coming trace number ≡ objects_in it ++ coming trace (number + 1)
coming_split trace number it within is =
    ap (λ (items : List Item). flat_map objects_in items) (drop_more trace.items number it within ∙ ap (λ (first : Item). first ∷ drop (number + 1) trace.items) (sym is))

-- no number comes twice
coming_distinct : (trace : Trace) (number : ℕ) (it : Item) → IsSound trace → number < length trace.items → it ≡ get_or trace.items number it
    → IsDistinct nat_eq (objects_in it ++ coming trace (number + 1))
coming_distinct trace number it sound within is =
    let all : flat_map objects_in trace.items ≡ flat_map objects_in (take number trace.items) ++ coming trace number =
    ap (λ (items : List Item). flat_map objects_in items) (sym (take-append-drop number trace.items)) ∙ flat_map-append objects_in (take number trace.items) (drop number trace.items) in
    subst (IsDistinct nat_eq) (coming_split trace number it within is) (distinct_back (flat_map objects_in (take number trace.items)) (coming trace number) (subst (IsDistinct nat_eq) all sound.distinct))

coming_unheld : (s : State) (trace : Trace) (number : ℕ) (it : Item) → IsReady s trace number → number < length trace.items → it ≡ get_or trace.items number it
    → All (IsUnheld s) (objects_in it ++ coming trace (number + 1))
coming_unheld s trace number it ready within is = subst (All (IsUnheld s)) (coming_split trace number it within is) ready.unheld

-- ---- at rest

-- at the end of a round each object that was given is on the board
laid_held : (board : List (Option Held)) (object : ℕ) → IfSome (get_or (map (option_map laid_down) board) object None) (λ held. held.worker ≡ None)
laid_held [] object = tt
laid_held (None ∷ board) zero = tt
laid_held (Some held ∷ board) zero = refl
laid_held (held ∷ board) (suc object) = laid_held board object

-- and nothing is noted as freed
nothing_gone : (gone : List (Option Held)) (object : ℕ) → get_or (map (λ (freed : Option Held). no_held) gone) object None ≡ None
nothing_gone [] object = refl
nothing_gone (freed ∷ gone) zero = refl
nothing_gone (freed ∷ gone) (suc object) = nothing_gone gone object

pub rest_on_board : (s after : State) → after ≡ all_on_board s → IsAtRest after
rest_on_board s after is = rw is (record { laid_down = laid_held s.board; forgotten = nothing_gone s.gone })

-- with the same board, and the same that was freed, it stays so
rest_kept : (s after : State) → after.board ≡ s.board → after.gone ≡ s.gone → IsAtRest s → IsAtRest after
rest_kept s after board gone rest = record { laid_down = rw board rest.laid_down; forgotten = rw gone rest.forgotten }

-- ---- after an item

pub ready_next : (s after : State) (trace : Trace) (number : ℕ) (it : Item) → IsSound trace → IsReady s trace number → number < length trace.items → it ≡ get_or trace.items number it
    → IsCoherent after → KeepsSizes s after → IsAtRest after → KeepsUnheld s (objects_in it) after → IsReady after trace (number + 1)
ready_next s after trace number it sound ready within is coherent sizes rest keeps = record {
  coherent = coherent;
  frames = sizes.frames ∙ ready.frames;
  cpus = sizes.cpus ∙ ready.cpus;
  objects = sizes.board ∙ ready.objects;
  names = sizes.kept ∙ ready.names;
  rest = rest;
  unheld = still_unheld s after (objects_in it) (coming trace (number + 1)) keeps (coming_distinct trace number it sound within is)
      (All-back (IsUnheld s) (objects_in it) (coming trace (number + 1)) (coming_unheld s trace number it ready within is));
}

-- after an item that allocates nothing
pub ready_kept : (s after : State) (trace : Trace) (number : ℕ) (it : Item) → IsSound trace → IsReady s trace number → number < length trace.items → it ≡ get_or trace.items number it
    → IsCoherent after → KeepsMachine s after → after.board ≡ s.board → IsReady after trace (number + 1)
ready_kept s after trace number it sound ready within at coherent keeps board =
    ready_next s after trace number it sound ready within at coherent
    (record { frames = keeps.frames; cpus = keeps.cpus; kept = keeps.kept; board = ap (λ board. length board) board })
    (rest_kept s after board keeps.gone ready.rest) (board_keeps s after (objects_in it) board)

-- after an item that leaves the machine as it was
pub ready_same : (s : State) (trace : Trace) (number : ℕ) (it : Item) → IsSound trace → IsReady s trace number → number < length trace.items → it ≡ get_or trace.items number it → IsReady s trace (number + 1)
ready_same s trace number it sound ready within at =
    ready_kept s s trace number it sound ready within at ready.coherent (record { frames = refl; cpus = refl; kept = refl; gone = refl }) refl

-- ---- before a client's line

-- no object has a number that it may allocate
pub item_unheld : (s : State) (trace : Trace) (number : ℕ) (it : Item) → IsReady s trace number → number < length trace.items → it ≡ get_or trace.items number it → All (IsUnheld s) (objects_in it)
item_unheld s trace number it ready within at = All-front (IsUnheld s) (objects_in it) (coming trace (number + 1)) (coming_unheld s trace number it ready within at)

-- ---- before a round

-- its numbers are different, and no object has one of them
pub round_ready : (s : State) (trace : Trace) (number : ℕ) (it : Item) (round : Round) → IsSound trace → IsReady s trace number → number < length trace.items → it ≡ get_or trace.items number it
    → it ≡ item.Round round → All (IsUnheld s) (objects_of round.events) × IsDistinct nat_eq (objects_of round.events)
round_ready s trace number it round sound ready within at is =
    let mine : objects_in it ≡ objects_of round.events = ap objects_in is in (
      subst (All (IsUnheld s)) mine (All-front (IsUnheld s) (objects_in it) (coming trace (number + 1)) (coming_unheld s trace number it ready within at)),
      subst (IsDistinct nat_eq) mine (distinct_front (objects_in it) (coming trace (number + 1)) (coming_distinct trace number it sound within at)),
    )
