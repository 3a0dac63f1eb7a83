use Rattle.std.proofs.Common.{◌≡◌, [], length, get_or, None, refl, ap, sym, ◌∙◌, arith}
use Rattle.std.specs.Vec.{with_items}
use Rattle.std.proofs.lemmas.List.{with_items_is}
use Rattle.slub_lists.specs.State.{State}
use Rattle.slub_open_close.proofs.closing.put_together.Goals as goal

pub returns : goal.returns
returns c =
    let rest = c.args.rest in
    let e = c.from_parts-lists.ensures in
    let items : (with_items rest.checked c.take_back-pool.new.checked).items ≡ c.take_back-pool.new.checked =
    with_items_is rest.checked c.take_back-pool.new.checked (omega (arith, c.take_back-pool.auto.checked, c.deref_mut.ensures.len)) in
    let long : length (with_items rest.checked c.take_back-pool.new.checked).items ≡ 32 =
    omega (arith, ap length items, c.take_back-pool.auto.checked, ap length c.deref_mut.ensures.value, c.requires.checked) in
    record {
      lists = e ∙ (λ i. record {
        frames = rest.frames;
        cpus = rest.cpus;
        pool = c.take_back-pool.ensures.pool i;
        slabs = rest.slabs.items;
        frees = rest.frees;
        table = rest.table;
        cpu_lists = rest.cpu_lists.items;
        nodes = sym (ap (λ (z : State). z.nodes) e) i;
        checked = sym (ap (λ (z : State). z.checked) e) i;
        memory = c.args.memory;
        board = rest.board.items;
        gone = rest.gone.items;
        live = rest.live.items;
      });
      node_count = ap (λ (z : State). length z.nodes) e ∙ c.take_back-pool.ensures.node_count;
      nodes = λ cache below. ap (λ (z : State). get_or z.nodes cache []) e ∙ c.take_back-pool.ensures.nodes cache below;
      checked_count = ap (λ (z : State). length z.checked) e ∙ long;
      checked = λ cache below. ap (λ (z : State). get_or z.checked cache None) e ∙ ap (λ xs. get_or xs cache None) items ∙ c.take_back-pool.ensures.checked cache below;
      tids = refl;
      links = refl;
      raise = refl;
    }
