use Rattle.std.proofs.Common.{◌≡◌, ◌++◌, List, [], ◌∷◌, map, refl, arith, ap, ◌∙◌}
use Rattle.std.specs.List.{range_with_len}
use Rattle.slub_core.specs.World.{LockValue}
use Rattle.slub_core.specs.World as value
use Rattle.slub_core.specs.declared.guarded.Guarded.{Guarded}
use Rattle.slub_core.specs.declared.guarded.Guarded.TheVariants as guarded
use Rattle.slub_core.specs.Values.{value_in}
use Rattle.slub_list_machine.specs.Parts.{state_of}
use Rattle.slub_open_close.specs.Values.{value_at}
use Rattle.slub_open_close.proofs.Guards.{values-whole, kept-bare}
use Rattle.slub_open_close.proofs.values.moved.Goals as goal

pub returns-clause-values : goal.returns-clause-values
returns-clause-values c =
    let s = state_of c.args.parts in
    let pushed : map value_in c.push_reserved.new.self.items ≡ value.Pool c.args.parts.pool ∷ [] =
    ap (map value_in) (c.push_reserved.ensures.items ∙ ap (λ (l : List Guarded). l ++ guarded.Pool c.args.parts.pool ∷ []) c.requires.values.0) in
    values-whole s c.move_nodes.new.values.items c.requires.consistent
    (c.move_nodes.ensures.values
    ∙ ap (λ (l : List LockValue). l ++ map (value_at c.args.parts.table c.args.parts.nodes.items c.args.parts.checked.items) (range_with_len 0 32)) pushed)

pub returns-clause-rest : goal.returns-clause-rest
returns-clause-rest c =
    let s = state_of c.args.parts in
    let shaped = c.requires.consistent.shaped in
    record {
      frames = refl;
      cpus = refl;
      table = refl;
      slabs = shaped.slabs;
      frees = shaped.frees;
      cpu_lists = shaped.cpu_lists;
      board = refl;
      gone = shaped.gone;
      live = shaped.live;
      tids = c.requires.tids;
      links = c.requires.links;
      nodes = (c.move_nodes.ensures.nodes.0, omega (arith, c.move_nodes.ensures.nodes.1, c.args.parts.nodes.ok, shaped.nodes));
      checked = c.move_nodes.ensures.checked;
      taken = c.move_nodes.ensures.taken;
      kept = c.move_nodes.ensures.kept;
      kept_node = kept-bare s c.move_nodes.new.kept.items c.requires.consistent
          c.move_nodes.ensures.kept_nodes c.move_nodes.ensures.kept;
    }

pub returns-clause-still : goal.returns-clause-still
returns-clause-still c =
    record { slabs = refl; frees = refl; cpu_lists = refl; board = refl; gone = refl; live = refl }
