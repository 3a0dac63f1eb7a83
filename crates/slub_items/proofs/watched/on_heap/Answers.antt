use Rattle.std.proofs.Common.{ℕ, List, Option, sym, subst}
use Rattle.std.specs.Prelude.{IfErr, IfOk}
use Rattle.slub_rounds.specs.Heap.{HeapState}
use Rattle.slub_law_replay.specs.Ways.{ids_before}
use Rattle.slub_items.specs.Watched.{DoesWatched, IsUnwatched}
use Rattle.slub_items.proofs.watched.on_heap.Goals as goal

pub returns-in-Some-clause-does : goal.returns-in-Some-clause-does
returns-in-Some-clause-does g c =
    let w = g.W.Watch in
    let P : HeapState → Type 0 = λ h. IfOk c.beside.result.0 (λ done. DoesWatched w.begins_round w.chooses w.hears w.is_done c.args.watch c.beside.result.1 h.lists h.ids c.args.round.now done.1 done.0.lists done.0.ids done.2) in
    let Q : Option (List ℕ) → Type 0 = λ ids. P (record { lists = c.heap.inside.lists; ids = ids }) in
    subst P c.heap.view_is (subst Q (sym c.in-Some.is) c.beside.ensures.does)

pub returns-in-None-clause-does : goal.returns-in-None-clause-does
returns-in-None-clause-does g c =
    let w = g.W.Watch in
    let P : HeapState → Type 0 = λ h. IfOk c.anew.result.0 (λ done. DoesWatched w.begins_round w.chooses w.hears w.is_done c.args.watch c.anew.result.1 h.lists h.ids c.args.round.now done.1 done.0.lists done.0.ids done.2) in
    let Q : Option (List ℕ) → Type 0 = λ ids. P (record { lists = c.heap.inside.lists; ids = ids }) in
    subst P c.heap.view_is (subst Q (sym c.in-None.is) c.anew.ensures.does)

pub returns-in-None-clause-unwatched : goal.returns-in-None-clause-unwatched
returns-in-None-clause-unwatched g c =
    let w = g.W.Watch in
    let P : HeapState → Type 0 = λ h. IfErr c.anew.result.0 (IsUnwatched w.begins_round w.chooses w.hears w.halts h h.lists (ids_before h.lists h.ids) c.args.round.now c.args.watch c.anew.result.1) in
    let Q : Option (List ℕ) → Type 0 = λ ids. P (record { lists = c.heap.inside.lists; ids = ids }) in
    subst P c.heap.view_is (subst Q (sym c.in-None.is) c.anew.ensures.unwatched)
