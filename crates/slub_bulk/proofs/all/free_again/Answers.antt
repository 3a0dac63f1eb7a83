use Rattle.std.proofs.Common.{rules, IfErr, ◌≡◌, [], ◌∷◌, ◌++◌, List, sym, ◌∙◌, ap}
use Rattle.slub_slabinfo_text.specs.declared.client.ClientRound.{ClientRound}
use Rattle.slub_slabinfo_text.specs.Asked.{frees_of}
use Rattle.slub_rounds.specs.Asked.{SpendsAsked}
use Rattle.slub_rounds.specs.ClientStopped.{IsStoppedWhere}
use Rattle.slub_rounds.proofs.Staying.{stays-same}
use Rattle.slub_rounds.proofs.Stopping.{none-stopped, whole-stopped}
use Rattle.slub_bulk.proofs.Boards.{again_made, none_made, some_there}
use Rattle.slub_bulk.proofs.all.free_again.Goals as goal

pub returns-then-is_empty-clause-freed : goal.returns-then-is_empty-clause-freed
returns-then-is_empty-clause-freed c =
    let items : c.push.new.self.items ≡ c.args.first ∷ [] = c.in_ok-push.ensures.items ∙ ap (λ (l : List ClientRound). l ++ c.args.first ∷ []) c.requires.empty in
    none_made c.args.heap c.args.cpu c.args.numbers.now c.args.first c.push.new.self.items (sym c.is_empty.ensures ∙ c.if-is_empty.true) items

pub returns-then-is_empty-clause-stays : goal.returns-then-is_empty-clause-stays
returns-then-is_empty-clause-stays c = λ trace. stays-same c.args.heap trace 0

pub returns-clause-freed : goal.returns-clause-freed
returns-clause-freed c =
    let items : c.push-2.new.self.items ≡ c.args.first ∷ c.in_ok-after.second ∷ [] =
    c.in_ok-push-2.ensures.items ∙ ap (λ (l : List ClientRound). l ++ c.in_ok-after.second ∷ []) (c.in_ok-push.ensures.items ∙ ap (λ (l : List ClientRound). l ++ c.args.first ∷ []) c.requires.empty) in
    again_made c.args.heap c.args.cpu c.args.numbers.now c.args.first c.in_ok-after.second c.push-2.new.self.items c.in_ok-after.after (sym c.is_empty.ensures ∙ c.if-is_empty.false) c.in_ok-after.ensures.done items

pub returns-in_err-push-2-clause-stopped : goal.returns-in_err-push-2-clause-stopped
returns-in_err-push-2-clause-stopped c = none-stopped _ c.from_residual-in_err-push-2.result c.from_residual-in_err-push-2.ensures.1

pub returns-in_err-after-clause-stopped : goal.returns-in_err-after-clause-stopped
returns-in_err-after-clause-stopped c =
    let part : IfErr c.from_residual-in_err-after.result (IsStoppedWhere (SpendsAsked c.args.heap c.args.cpu (frees_of c.args.numbers.now))) = search rules in
    whole-stopped _ _ (λ spent. (some_there c.args.numbers.now (sym c.is_empty.ensures ∙ c.if-is_empty.false), spent)) c.from_residual-in_err-after.result part
