use Rattle.std.proofs.Common.{◌≡◌, ℕ, ◌+◌, ◌*◌, ◌/◌, ◌%◌, length, get_or, replicate, Option, None, refl, ap, sym, ◌∙◌, subst, arith, sum_by}
use Rattle.std.specs.Vec.{with_items}
use Rattle.std.proofs.lemmas.Grind.{common_steps}
use Rattle.std.proofs.lemmas.List.{with_items_is, length-replicate}
use Rattle.slub_lists.specs.declared.lists.Held.{Held}
use Rattle.slub_lists.specs.Alloc.{no_lists}
use Rattle.slub_lists.specs.Coherent.{held_of}
use Rattle.slub_open_close.specs.Reads.{lists_at}
use Rattle.slub_open_close.specs.Closing.{AreKnown}
use Rattle.slub_open_close.proofs.closing.write_lists.Goals as goal

pub returns : goal.returns
returns c =
    let rest = c.args.rest.now in
    let setup = c.args.setup.now in
    let words = c.args.table.now.words in
    let objects : c.len.result ≡ length rest.board.items = omega (arith, c.len.ensures, rest.board.ok.0) in
    let slabs : (with_items rest.slabs c.close_slabs.new.slabs).items ≡ c.close_slabs.new.slabs = with_items_is rest.slabs c.close_slabs.new.slabs (omega (arith, c.close_slabs.auto.slabs, c.deref_mut.ensures.len)) in
    let lists : (with_items rest.cpu_lists c.close_cpus.new.all).items ≡ c.close_cpus.new.all = with_items_is rest.cpu_lists c.close_cpus.new.all (omega (arith, c.close_cpus.auto.all, c.deref_mut-2.ensures.len)) in
    let board : (with_items rest.board c.close_board.new.board).items ≡ c.close_board.new.board = with_items_is rest.board c.close_board.new.board (omega (arith, c.close_board.auto.board, c.deref_mut-3.ensures.len)) in
    let live : (with_items rest.live c.count_live.new.live).items ≡ c.count_live.new.live = with_items_is rest.live c.count_live.new.live (omega (arith, c.count_live.auto.live, c.deref_mut-4.ensures.len)) in
    let tids : (with_items rest.tids c.close_tids.new.tids).items ≡ c.close_tids.new.tids = with_items_is rest.tids c.close_tids.new.tids (omega (arith, c.close_tids.auto.tids, c.deref_mut-5.ensures.len)) in
    let gone : c.fill.new.self.items ≡ replicate rest.gone.len None = grind (arith, common_steps) in
    let links : c.fill-2.new.self.items ≡ replicate rest.links.len 0 = grind (arith, common_steps) in
    record {
      sizes = record {
        frames = c.requires.frames;
        cpus = c.requires.cpus;
        slabs = omega (arith, ap length slabs, c.close_slabs.auto.slabs, ap length c.deref_mut.ensures.value, c.requires.slabs);
        frees = c.close_frees.ensures.lists;
        cpu_lists = omega (arith, ap length lists, c.close_cpus.auto.all, ap length c.deref_mut-2.ensures.value, c.requires.cpu_lists);
        board = omega (arith, ap length board, c.close_board.auto.board, ap length c.deref_mut-3.ensures.value, c.requires.board);
        gone = omega (arith, ap length gone, length-replicate {A = Option Held} rest.gone.len None, rest.gone.ok.0, c.requires.gone, ap length board, c.close_board.auto.board, ap length c.deref_mut-3.ensures.value);
        live = omega (arith, ap length live, c.count_live.auto.live, ap length c.deref_mut-4.ensures.value, c.requires.live);
        tids = omega (arith, ap length tids, c.close_tids.auto.tids, ap length c.deref_mut-5.ensures.value, c.requires.tids);
        links = omega (arith, ap length links, length-replicate {A = ℕ} rest.links.len 0, rest.links.ok.0, c.requires.links);
      };
      objects = omega (arith, ap length board, c.close_board.auto.board, ap length c.deref_mut-3.ensures.value);
      rest = refl;
      slabs = λ frame below. ap (λ xs. get_or xs frame None) slabs ∙ c.close_slabs.ensures frame (omega (arith, below, ap length c.deref_mut.ensures.value, c.requires.slabs));
      frees = c.close_frees.ensures.walked;
      lists = λ place below.
          ap (λ xs. get_or xs place no_lists) lists
          ∙ c.close_cpus.ensures place (omega (arith, below, ap length c.deref_mut-2.ensures.value, c.requires.cpu_lists))
          ∙ ap (λ n. lists_at setup words c.args.memory.now (1056 + rest.frames + n + 512 * rest.frames) (place / rest.cpus * 16 + place % rest.cpus)) objects;
      board = λ known object below.
          let same : length c.deref_mut-3.result.now ≡ length rest.board.items = ap length c.deref_mut-3.ensures.value in
          ap (λ xs. get_or xs object None) board
          ∙ c.close_board.ensures (subst (λ n. AreKnown n c.args.locals.now) (sym same) known) object (omega (arith, below, same));
      gone = gone ∙ ap (λ n. replicate n None) (let e : rest.gone.len ≡ length rest.board.items = omega (arith, rest.gone.ok.0, c.requires.gone) in e);
      live = λ cache below.
          ap (λ xs. get_or xs cache 0) live
          ∙ c.count_live.ensures cache (omega (arith, below, ap length c.deref_mut-4.ensures.value, c.requires.live))
          ∙ ap (sum_by (held_of cache)) c.deref.ensures.value;
      tids = λ n below. ap (λ xs. get_or xs n 0) tids ∙ c.close_tids.ensures n (omega (arith, below, ap length c.deref_mut-5.ensures.value, c.requires.tids));
      links = links ∙ ap (λ n. replicate n 0) (let e : rest.links.len ≡ rest.frames = omega (arith, rest.links.ok.0, c.requires.links) in e);
    }
