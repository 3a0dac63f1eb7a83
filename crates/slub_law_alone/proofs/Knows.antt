-- What a worker knows where its turns end.
use Rattle.std.proofs.Common.{◌≡◌, ℕ, ◌<◌, true, false, cond, List, length, get_or, set, Option, Some, None, refl, ap, sym, ◌∙◌}
use Rattle.std.specs.Prelude.{IfSome, if◌then◌else◌, is_some}
use Rattle.std.specs.Option.{option_map_or}
use Rattle.std.proofs.lemmas.Bool.{eq-eqb}
use Rattle.std.proofs.lemmas.List.{get_or-set_same, set-get_or}
use Rattle.slub_lists.specs.declared.lists.Held.{Held}
use Rattle.slub_lists.specs.State.{State}
use Rattle.slub_lists.specs.Coherent.{held_under}
use Rattle.slub_lists.specs.Free.{is_freeable}
use Rattle.slub_core.specs.declared.local.Known.{Known}
use Rattle.slub_core.specs.declared.spot.Spot.TheVariants.{Between}
use Rattle.slub_core.specs.Local.{Local, nobody}
use Rattle.slub_core.specs.Run.{System, idle}
use Rattle.slub_core.specs.Steps.{rested}
use Rattle.slub_core.specs.World.{LockValue}
use Rattle.slub_law_opening.specs.Opening.{Beside, setup_of}
use Rattle.slub_law_opening.proofs.Names.{as_held}
use Rattle.slub_law_alone.specs.Alone.{alone, known_after, known_as, known_under, worker_at}
use Rattle.slub_law_alone.specs.Laws.{may_free, IsUnheld}
use Rattle.slub_law_alone.proofs.Turns.{machine}
use Rattle.slub_law_alone.proofs.Workers.{rested_calls}

-- replies that take no step change nothing of it
pub known_ends : (s : State) (b : Beside) (system : System) (x turns : ℕ) (told : Local) (words : List ℕ) (value : ℕ → LockValue) → x < length system.locals → alone (setup_of s b) x turns system ≡ machine words value (set system.locals x (rested (setup_of s b) told)) → told.spot ≡ Between
    → known_after (setup_of s b) system x turns ≡ told.known
known_ends s b system x turns told words value there whole between =
    ap (λ (t : System). (worker_at t x).known) whole ∙ ap (λ (l : Local). l.known) (get_or-set_same system.locals x (rested (setup_of s b) told) idle there) ∙ ap (λ (l : Local). l.known) (rested_calls (setup_of s b) told between).same

-- the object that it was given is the one that the lists have under the number
pub knows_given : (ks : List Known) (place j o : ℕ) (board : List (Option Held)) (held : Held) (t : State) → t.board ≡ set board o (Some held) → o < length board → j ≡ o
    → set ks place (record { object = j; frame = held.frame; index = held.index; cache = held.cache; held = true }) ≡ set ks place (known_under t o)
knows_given ks place j o board held t is inside same = ap (set ks place) (as_number ∙ sym (ap (λ h. option_map_or (known_as o) h nobody) there))
  where
    as_number : record { object = j; frame = held.frame; index = held.index; cache = held.cache; held = true } ≡ known_as o held
    as_number = λ i. record { object = same i; frame = held.frame; index = held.index; cache = held.cache; held = true }

    there : held_under t o ≡ Some held
    there = ap (λ (b : List (Option Held)). get_or b o None) is ∙ get_or-set_same board o (Some held) None inside

-- ---- frees

-- of a number in these lists, that names this after: what is known
abbrev pub known_freed : List Known → ℕ → ℕ → ℕ → Option Held → Option Held → List Known
known_freed ks place o x was now = if option_map_or (λ (held : Held). is_freeable x held.worker) was false then set ks place (record (option_map_or (known_as o) was nobody) { held = is_some now }) else ks

-- it holds the freed object no more
pub knows_freed : (ks : List Known) (place j o x : ℕ) (s t : State) (held : Held) → held_under s o ≡ Some held → is_freeable x held.worker ≡ true → o < length s.board → t.board ≡ set s.board o None → j ≡ o
    → set ks place (record { object = j; frame = held.frame; index = held.index; cache = held.cache; held = false }) ≡ (if may_free s x o then set ks place (record (known_under s o) { held = is_some (held_under t o) }) else ks)
knows_freed ks place j o x s t held there free inside is same =
    ap (set ks place) as_number ∙ sym (ap (λ was. known_freed ks place o x was (held_under t o)) there ∙ ap (λ z. cond {A = List Known} z (set ks place (record (known_as o held) { held = is_some (held_under t o) })) ks) free
    ∙ ap (λ now. set ks place (record (known_as o held) { held = is_some now })) gone)
  where
    as_number : record { object = j; frame = held.frame; index = held.index; cache = held.cache; held = false } ≡ record (known_as o held) { held = false }
    as_number = λ i. record { object = same i; frame = held.frame; index = held.index; cache = held.cache; held = false }

    gone : held_under t o ≡ None
    gone = ap (λ (b : List (Option Held)). get_or b o None) is ∙ get_or-set_same s.board o None None inside

-- it holds the damaged object still
pub knows_damaged : (ks : List Known) (place o x : ℕ) (s : State) (k : Known) → get_or ks place nobody ≡ k → k.held ≡ true → k.object ≡ o → held_under s o ≡ Some (as_held x k)
    → ks ≡ (if may_free s x o then set ks place (record (known_under s o) { held = is_some (held_under s o) }) else ks)
knows_damaged ks place o x s k here held object there =
    sym (set-get_or ks place nobody) ∙ ap (set ks place) (here ∙ as_number) ∙ sym (ap (λ h. known_freed ks place o x h h) there ∙ ap (λ z. cond {A = List Known} z (set ks place (known_as o (as_held x k))) ks) (eq-eqb x x refl))
  where
    as_number : k ≡ known_as o (as_held x k)
    as_number = λ i. record { object = object i; frame = k.frame; index = k.index; cache = k.cache; held = held i }

-- it knows nothing of a number that names nothing
pub knows_unheld : (ks other : List Known) (s : State) (x o : ℕ) → IsUnheld s x o → ks ≡ (if may_free s x o then other else ks)
knows_unheld ks other s x o unheld = sym (ap (λ z. cond {A = List Known} z other ks) (by (held_under s o) unheld))
  where
    by : (was : Option Held) → IfSome was (λ held. is_freeable x held.worker ≡ false) → option_map_or (λ (held : Held). is_freeable x held.worker) was false ≡ false
    by None is = refl
    by (Some held) is = is
