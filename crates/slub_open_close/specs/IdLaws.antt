-- Items keep the transaction ids of the CPU words fitting.
use Rattle.std.specs.Prelude.{◌≡◌, ℕ, List}
use Rattle.slub_lists.specs.State.{State}
use Rattle.slub_lists.specs.Coherent.{IsCoherent}
use Rattle.slub_trace.specs.declared.trace.Item.{Item}
use Rattle.slub_trace.specs.declared.trace.Trace.{Trace}
use Rattle.slub_trace.specs.Sound.{IsSound}
use Rattle.slub_slabinfo_text.specs.declared.journal.Done.{Done}
use Rattle.slub_slabinfo_text.specs.Lawful.{DoesPlain, opening_of}
use Rattle.slub_open_close.specs.Ids.{AreIds, first_ids}
use Rattle.slub_open_close.specs.Growth.{ids_after}

-- the first ids fit the opening machine
abbrev pub FirstIdsFit : Type 0
FirstIdsFit =
    (trace : Trace) → IsSound trace → AreIds (opening_of trace) (first_ids trace.tid trace.cpus)

-- and what an item leaves of ids that fit fits what it leaves of the lists
abbrev pub ItemsKeepIds : Type 0
ItemsKeepIds =
    (s : State) (trace : Trace) (item : Item) (done : Done) (after : State) (ids : List ℕ)
    → IsSound trace → s.cpus ≡ trace.cpus → IsCoherent s → IsCoherent after → AreIds s ids
    → DoesPlain s trace item done after → AreIds after (ids_after trace s item done ids)
