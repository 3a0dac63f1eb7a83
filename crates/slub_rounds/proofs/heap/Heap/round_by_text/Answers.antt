use Rattle.std.proofs.Common.{◌≡◌, ◌∙◌, IfOk, Option, List, ℕ, None, Some, ap, sym, subst}
use Rattle.slub_slabinfo_text.specs.Lawful.{IsAtRest}
use Rattle.slub_law_rounds.specs.Round.{IsRound}
use Rattle.slub_rounds.specs.Heap.{DoesRoundOf, HeapState, IsSoundHeap, heap_of}
use Rattle.slub_rounds.proofs.Heaped.{lawful-after, map-ok, rest-after, sound-after}
use Rattle.slub_rounds.proofs.heap.Heap.round_by_text.Goals as goal

pub returns-in-None-clause-lawful : goal.returns-in-None-clause-lawful
returns-in-None-clause-lawful c =
    let (trace, may) = c.requires.may_do in
    let h = c.args.self in
    let round = c.args.round.now in
    let same : heap_of c.self.inside.lists None ≡ h = ap (λ (ids : Option (List ℕ)). heap_of c.self.inside.lists ids) (sym c.in-None.is) ∙ c.self.view_is in
    let does : IfOk c.without_ids.result (λ done. DoesRoundOf h round done.1 done.0) = subst (λ (h : HeapState). IfOk c.without_ids.result (λ done. DoesRoundOf h round done.1 done.0)) same c.without_ids.ensures.does in
    map-ok c.without_ids.result (λ done. DoesRoundOf h round done.1 done.0) (λ done. IsRound h.lists round done.1 done.0.lists)
    (λ done does. lawful-after h trace round c.rounds_by_text_are_lawful.ensures c.rounds_by_text_keep_ids.ensures c.requires.sound c.requires.rest may done.1 done.0 does) does

pub returns-in-None-clause-sound : goal.returns-in-None-clause-sound
returns-in-None-clause-sound c =
    let (trace, may) = c.requires.may_do in
    let h = c.args.self in
    let round = c.args.round.now in
    let same : heap_of c.self.inside.lists None ≡ h = ap (λ (ids : Option (List ℕ)). heap_of c.self.inside.lists ids) (sym c.in-None.is) ∙ c.self.view_is in
    let does : IfOk c.without_ids.result (λ done. DoesRoundOf h round done.1 done.0) = subst (λ (h : HeapState). IfOk c.without_ids.result (λ done. DoesRoundOf h round done.1 done.0)) same c.without_ids.ensures.does in
    map-ok c.without_ids.result (λ done. DoesRoundOf h round done.1 done.0) (λ done. IsSoundHeap done.0)
    (λ done does. sound-after h trace round c.rounds_by_text_are_lawful.ensures c.rounds_by_text_keep_ids.ensures c.requires.sound c.requires.rest may done.1 done.0 does) does

pub returns-in-None-clause-rest : goal.returns-in-None-clause-rest
returns-in-None-clause-rest c =
    let (trace, may) = c.requires.may_do in
    let h = c.args.self in
    let round = c.args.round.now in
    let same : heap_of c.self.inside.lists None ≡ h = ap (λ (ids : Option (List ℕ)). heap_of c.self.inside.lists ids) (sym c.in-None.is) ∙ c.self.view_is in
    let does : IfOk c.without_ids.result (λ done. DoesRoundOf h round done.1 done.0) = subst (λ (h : HeapState). IfOk c.without_ids.result (λ done. DoesRoundOf h round done.1 done.0)) same c.without_ids.ensures.does in
    map-ok c.without_ids.result (λ done. DoesRoundOf h round done.1 done.0) (λ done. IsAtRest done.0.lists)
    (λ done does. rest-after h trace round c.rounds_by_text_are_lawful.ensures c.rounds_by_text_keep_ids.ensures c.requires.sound c.requires.rest may done.1 done.0 does) does

pub returns-in-Some-clause-does : goal.returns-in-Some-clause-does
returns-in-Some-clause-does c =
    let (trace, may) = c.requires.may_do in
    let h = c.args.self in
    let round = c.args.round.now in
    let same : heap_of c.self.inside.lists (Some c.in-Some.ids) ≡ h = ap (λ (ids : Option (List ℕ)). heap_of c.self.inside.lists ids) (sym c.in-Some.is) ∙ c.self.view_is in
    let does : IfOk c.beside_ids.result (λ done. DoesRoundOf h round done.1 done.0) = subst (λ (h : HeapState). IfOk c.beside_ids.result (λ done. DoesRoundOf h round done.1 done.0)) same c.beside_ids.ensures.does in
    does

pub returns-in-Some-clause-lawful : goal.returns-in-Some-clause-lawful
returns-in-Some-clause-lawful c =
    let (trace, may) = c.requires.may_do in
    let h = c.args.self in
    let round = c.args.round.now in
    let same : heap_of c.self.inside.lists (Some c.in-Some.ids) ≡ h = ap (λ (ids : Option (List ℕ)). heap_of c.self.inside.lists ids) (sym c.in-Some.is) ∙ c.self.view_is in
    let does : IfOk c.beside_ids.result (λ done. DoesRoundOf h round done.1 done.0) = subst (λ (h : HeapState). IfOk c.beside_ids.result (λ done. DoesRoundOf h round done.1 done.0)) same c.beside_ids.ensures.does in
    map-ok c.beside_ids.result (λ done. DoesRoundOf h round done.1 done.0) (λ done. IsRound h.lists round done.1 done.0.lists)
    (λ done does. lawful-after h trace round c.rounds_by_text_are_lawful.ensures c.rounds_by_text_keep_ids.ensures c.requires.sound c.requires.rest may done.1 done.0 does) does

pub returns-in-Some-clause-sound : goal.returns-in-Some-clause-sound
returns-in-Some-clause-sound c =
    let (trace, may) = c.requires.may_do in
    let h = c.args.self in
    let round = c.args.round.now in
    let same : heap_of c.self.inside.lists (Some c.in-Some.ids) ≡ h = ap (λ (ids : Option (List ℕ)). heap_of c.self.inside.lists ids) (sym c.in-Some.is) ∙ c.self.view_is in
    let does : IfOk c.beside_ids.result (λ done. DoesRoundOf h round done.1 done.0) = subst (λ (h : HeapState). IfOk c.beside_ids.result (λ done. DoesRoundOf h round done.1 done.0)) same c.beside_ids.ensures.does in
    map-ok c.beside_ids.result (λ done. DoesRoundOf h round done.1 done.0) (λ done. IsSoundHeap done.0)
    (λ done does. sound-after h trace round c.rounds_by_text_are_lawful.ensures c.rounds_by_text_keep_ids.ensures c.requires.sound c.requires.rest may done.1 done.0 does) does

pub returns-in-Some-clause-rest : goal.returns-in-Some-clause-rest
returns-in-Some-clause-rest c =
    let (trace, may) = c.requires.may_do in
    let h = c.args.self in
    let round = c.args.round.now in
    let same : heap_of c.self.inside.lists (Some c.in-Some.ids) ≡ h = ap (λ (ids : Option (List ℕ)). heap_of c.self.inside.lists ids) (sym c.in-Some.is) ∙ c.self.view_is in
    let does : IfOk c.beside_ids.result (λ done. DoesRoundOf h round done.1 done.0) = subst (λ (h : HeapState). IfOk c.beside_ids.result (λ done. DoesRoundOf h round done.1 done.0)) same c.beside_ids.ensures.does in
    map-ok c.beside_ids.result (λ done. DoesRoundOf h round done.1 done.0) (λ done. IsAtRest done.0.lists)
    (λ done does. rest-after h trace round c.rounds_by_text_are_lawful.ensures c.rounds_by_text_keep_ids.ensures c.requires.sound c.requires.rest may done.1 done.0 does) does
