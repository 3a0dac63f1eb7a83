use Rattle.std.proofs.Common.{◌≡◌, ℕ, List, [], ◌∷◌, Option, replicate, length, map, set, take, drop, ◌+◌, ◌<◌, Some, None, option_map, refl, sym, ◌∙◌, ap, subst, arith}
use Rattle.std.proofs.lemmas.Grind.{common_steps}
use Rattle.slub_lists.specs.declared.lists.Held.{Held}
use Rattle.std.specs.Vec.{with_items}
use Rattle.std.proofs.lemmas.List.{with_items_is}
use Rattle.slub_lists.specs.Coherent.{IsCoherent, laid_down, all_on_board}
use Rattle.slub_list_machine.specs.contracts.lists.Lists.{the_view}
use Rattle.slub_list_machine.proofs.Laying.{laid-next, laid-rest, laid-all, with_board}
use Rattle.slub_lists.proofs.Coherence.{all_on_board-consistent}
use Rattle.slub_lists.proofs.Kept.{coherent-of, consistent-of}
use Rattle.slub_list_machine.proofs.lists.Lists.end_round.Goals as goal
use Rattle.slub_list_machine.proofs.lists.Lists.end_round.Goals.{in-Some, in_default}

pub loop-held-init : goal.loop-held-init
loop-held-init c = record { down = refl; rest = refl }

pub loop-held-preserved : goal.loop-held-preserved
loop-held-preserved c =
    let items = c.loop-held.held-items in
    let first = c.deref_mut-held-items.result.now in
    let inside : c.loop-held.held-index < length items = omega arith in
    elim c.match-held.branch [
      | in-Some w ↦ record {
        down = ap (take (c.loop-held.held-index + 1)) w.held-items-is ∙ laid-next items first c.loop-held.held-index (Some w.in-Some.held) inside c.loop-held.auto.held-items c.loop-held.invariant.down c.loop-held.invariant.rest w.in-Some.is;
        rest = ap (drop (c.loop-held.held-index + 1)) w.held-items-is ∙ laid-rest items first c.loop-held.held-index (Some w.in-Some.held) inside c.loop-held.auto.held-items c.loop-held.invariant.down c.loop-held.invariant.rest w.in-Some.is;
      }
      | in_default w ↦
          let kept = w.held-items-is ∙ ap (set items c.loop-held.held-index) w.in_default.is in record {
            down = ap (take (c.loop-held.held-index + 1)) kept ∙ laid-next items first c.loop-held.held-index None inside c.loop-held.auto.held-items c.loop-held.invariant.down c.loop-held.invariant.rest w.in_default.is;
            rest = ap (drop (c.loop-held.held-index + 1)) kept ∙ laid-rest items first c.loop-held.held-index None inside c.loop-held.auto.held-items c.loop-held.invariant.down c.loop-held.invariant.rest w.in_default.is;
          }
    ]

-- nobody knows a freed number
cleared : (xs : List (Option Held)) (n : ℕ) → length xs ≡ n → replicate {A = Option Held} n None ≡ map (λ (freed : Option Held). None) xs
cleared [] n e = rw (← e) refl
cleared (x ∷ xs) n e = rw (← e) (ap (λ (l : List (Option Held)). None ∷ l) (cleared xs (length xs) refl))

pub returns-clause-on_board : goal.returns-clause-on_board
returns-clause-on_board c =
    let laid = laid-all c.loop-held.held-items c.deref_mut-held-items.result.now c.loop-held.held-index c.loop-held.auto.held-items c.loop-held-test.false c.loop-held.invariant.down in
    let items : (with_items c.self.inside.board c.loop-held.held-items).items ≡ c.loop-held.held-items = with_items_is c.self.inside.board c.loop-held.held-items (omega arith) in
    let none : c.fill.new.self.items ≡ replicate c.self.inside.gone.len None = grind (arith, common_steps) in
    with_board (the_view c.self.inside) (with_items c.self.inside.board c.loop-held.held-items).items c.fill.new.self.items (items ∙ laid ∙ ap (map (option_map laid_down)) c.deref_mut-held-items.ensures.value)
    (none ∙ cleared c.self.inside.gone.items c.self.inside.gone.len (sym c.self.inside.gone.ok.0)) ∙ ap all_on_board c.self.view_is

pub returns-clause-coherent : goal.returns-clause-coherent
returns-clause-coherent c =
    subst IsCoherent (sym (returns-clause-on_board c))
    (coherent-of (all_on_board c.args.self.now) (all_on_board-consistent c.args.self.now (consistent-of c.args.self.now c.requires.coherent)) c.requires.coherent.kept)
