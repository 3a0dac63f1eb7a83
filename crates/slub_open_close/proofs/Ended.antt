-- What the end of a round gives to the bodies that close it, and what they give back.
use Rattle.std.proofs.Common.{◌≡◌, ℕ, zero, suc, ◌+◌, ◌*◌, ◌/◌, ◌%◌, ◌<◌, ◌≤◌, ◌&&◌, cond, Bool, true, false, List, [], ◌∷◌, length, sum_by, get_or, replicate, vec_capacity, None, refl, ap, sym, ◌∙◌, subst, arith}
use Rattle.std.specs.Prelude.{All, not}
use Rattle.std.specs.Option.{option_or}
use Rattle.std.proofs.lemmas.Bool.{cond-true, false≢true}
use Rattle.std.proofs.lemmas.List.FromFn.{get_or-map-range_with_len, length-map-range_with_len}
use Rattle.std.proofs.lemmas.List.Elements.{All-map}
use Rattle.slub_lists.specs.State.{State}
use Rattle.slub_lists.specs.Alloc.{no_lists}
use Rattle.slub_lists.specs.Coherent.{held_of}
use Rattle.slub_core.specs.declared.local.Known.{Known}
use Rattle.slub_core.specs.Setup.{Setup}
use Rattle.slub_core.specs.Words.{memory_base, link_base}
use Rattle.slub_core.specs.Accounted.{AreDistinct}
use Rattle.slub_core.specs.Listed.{IsGuarded}
use Rattle.slub_core.specs.Local.{Local, Worker}
use Rattle.slub_core.specs.Run.{System}
use Rattle.slub_core.specs.World.{World, LockValue, world_of}
use Rattle.slub_core.proofs.StepWords.{setup_of as core_setup_of, value_of as core_value_of}
use Rattle.slub_core.specs.declared.guarded.Guarded.{Guarded}
use Rattle.slub_core.specs.declared.guarded.Guarded.TheVariants.{Nothing, Node, Checked, Pool}
use Rattle.slub_core.specs.Facts.{Facts}
use Rattle.slub_core.specs.Values.{value_in, values_of, room_in, rooms_of, IsPoolValue}
use Rattle.slub_schedule.specs.Table.{WordTable}
use Rattle.slub_law_opening.specs.Opening.{setup_of}
use Rattle.slub_law_opening.specs.Opening as opening
use Rattle.slub_law_opening.specs.Rests.{held_among}
use Rattle.slub_law_opening.proofs.Systems.{closed-are_coherent}
use Rattle.slub_open_close.specs.declared.beside.Beside.{Beside}
use Rattle.slub_open_close.specs.declared.opened.KeptNode.{KeptNode}
use Rattle.slub_open_close.specs.declared.opened.KeptNode.TheVariants.{Whole, Counts}
use Rattle.slub_open_close.specs.declared.opened.Rest.{Rest}
use Rattle.slub_open_close.specs.Beside.{beside_of}
use Rattle.slub_open_close.specs.Opened.{room_of}
use Rattle.slub_open_close.specs.Values.{IsKeptOf}
use Rattle.slub_open_close.specs.Joins.{Joins}
use Rattle.slub_open_close.specs.Reads.{lists_at, own_at, on_board}
use Rattle.slub_open_close.specs.Closing.{IsEnded, IsClosed, HasSizes, IsWrittenBack, MayTakeBack, IsPutTogether, AreKnown, system_of, links_at}
use Rattle.slub_open_close.proofs.Made.{IsRead, closes, keeps}

-- ---- what is behind a lock, and what was kept of its node list

pool-there : (m : Setup) (v : Guarded) → IsGuarded m 0 (value_in v) → IsPoolValue v
pool-there m Nothing g = absurd (let e = g.1 in omega arith)
pool-there m (Node list) g = absurd (let e = g.1 in omega arith)
pool-there m (Checked slabs) g = absurd (let e = g.1 in omega arith)
pool-there m (Pool pool) g = tt

-- a lock of a cache guards what its cache says
joined : (m : Setup) (cache : ℕ) (v : Guarded) (k : KeptNode) → IsGuarded m (suc cache) (value_in v) → room_in v ≡ cond (m.lives cache && not (m.checks cache)) 4095 0 → IsKeptOf (m.lives cache && not (m.checks cache)) [] k → Joins v k
joined m cache Nothing (Whole node) g room kept = kept.1
joined m cache Nothing (Counts counts) g room kept = false≢true (sym (none (m.checks cache)) ∙ kept.0)
  where
    dead : m.lives cache ≡ false
    dead = subst (λ j. m.lives j ≡ false) (let e = g.1 in omega arith) g.2

    none : (z : Bool) → m.lives cache && not z ≡ false
    none z = ap (λ b. b && not z) dead
joined m cache (Node list) (Whole node) g room kept = false≢true (sym kept.0 ∙ ap (λ b. b && not (m.checks cache)) lives ∙ ap not plain)
  where
    same : g.0 ≡ cache
    same = let e = g.1 in omega arith

    lives : m.lives cache ≡ true
    lives = subst (λ j. m.lives j ≡ true) same g.2

    plain : m.checks cache ≡ false
    plain = subst (λ j. m.checks j ≡ false) same g.3
joined m cache (Node list) (Counts counts) g room kept = (room ∙ cond-true {A = ℕ} (m.lives cache && not (m.checks cache)) 4095 0 kept.0, kept.1)
joined m cache (Checked slabs) (Whole node) g room kept = kept.1
joined m cache (Checked slabs) (Counts counts) g room kept = false≢true (sym (none (m.lives cache)) ∙ kept.0)
  where
    checks : m.checks cache ≡ true
    checks = subst (λ j. m.checks j ≡ true) (let e = g.1 in omega arith) g.3

    both : (z : Bool) → z && false ≡ false
    both true = refl
    both false = refl

    none : (z : Bool) → z && not (m.checks cache) ≡ false
    none z = ap (λ b. z && not b) checks ∙ both z
joined m cache (Pool pool) k g room kept = absurd (let e = g.0 in omega arith)

pub room-at : (values : List Guarded) (n : ℕ) → n < length values → get_or (rooms_of values) n 0 ≡ room_in (get_or values n Nothing)
room-at [] n below = absurd (omega arith)
room-at (v ∷ vs) zero below = refl
room-at (v ∷ vs) (suc n) below = room-at vs n (let l : length (v ∷ vs) ≡ suc (length vs) = refl in omega arith)

pub length-rooms : (values : List Guarded) → length (rooms_of values) ≡ length values
length-rooms [] = refl
length-rooms (v ∷ vs) = ap suc (length-rooms vs)

module _ (facts : Facts) (table : WordTable) (values : List Guarded) (rest : Rest) (locals : List Local) (s : State) (b : opening.Beside) (world : World) (ended : IsEnded facts table values rest locals s b world) where
  abbrev pub system : System
  system = system_of table values locals

  abbrev pub w : World
  w = world_of (setup_of s b) system.value system.words

  its-setup : w.setup ≡ setup_of s b
  its-setup = core_setup_of (setup_of s b) system.value system.words

  its-value : w.value ≡ values_of values
  its-value = core_value_of (setup_of s b) system.value system.words

  guarded : (n : ℕ) → n < 33 → IsGuarded (setup_of s b) n (values_of values n)
  guarded n below =
      let g = ended.coherent.coherent.listed.shaped.guarded n (omega (arith, below, ap (λ (m : Setup). m.locks) its-setup)) in
      subst (λ (v : ℕ → LockValue). IsGuarded (setup_of s b) n (v n)) its-value (subst (λ m. IsGuarded m n (w.value n)) its-setup g)

  pub sizes : HasSizes rest
  sizes = record {
    frames = omega (arith, ended.waiting.frames, ended.may_open.coherent.shaped.frames.1);
    cpus = (omega (arith, ended.waiting.cpus, ended.may_open.coherent.shaped.cpus.0), omega (arith, ended.waiting.cpus, ended.may_open.coherent.shaped.cpus.1));
    slabs = ended.waiting.slabs ∙ sym ended.waiting.frames;
    frees = ended.waiting.frees ∙ sym ended.waiting.frames;
    cpu_lists = ended.waiting.cpu_lists ∙ ap (λ n. 32 * n) (sym ended.waiting.cpus);
    board = omega (arith, ended.waiting.board, ended.may_open.beside.objects.1);
    gone = ended.waiting.gone ∙ sym ended.waiting.board;
    live = ended.waiting.live;
    tids = ended.waiting.tids;
    links = ended.waiting.links ∙ sym ended.waiting.frames;
  }

  count : length values ≡ 33
  count = sym (length-rooms values) ∙ ap length ended.rooms ∙ length-map-range_with_len (room_of s) 0 33

  joins : (cache : ℕ) (otherwise : KeptNode) → cache < 32 → Joins (get_or values (suc cache) Nothing) (get_or rest.kept.items cache otherwise)
  joins cache otherwise below =
      let room : room_in (get_or values (suc cache) Nothing) ≡ room_of s (suc cache) =
      sym (room-at values (suc cache) (omega (arith, below, count))) ∙ ap (λ rs. get_or rs (suc cache) 0) ended.rooms ∙ get_or-map-range_with_len (room_of s) 0 33 (suc cache) (suc cache) 0 (omega arith) (omega arith) in
      joined (setup_of s b) cache (get_or values (suc cache) Nothing) (get_or rest.kept.items cache otherwise) (guarded (suc cache) (omega arith)) room (ended.waiting.kept_node cache otherwise below)

  pub may-take : (new : Rest) → new.nodes ≡ rest.nodes → new.kept ≡ rest.kept → length new.checked.items ≡ length rest.checked.items → MayTakeBack values new
  may-take new nodes kept checked = record {
    count = count;
    pool = pool-there (setup_of s b) (get_or values 0 Nothing) (guarded 0 (omega arith));
    kept = ap (λ k. length k.items) kept ∙ ended.waiting.kept;
    joins = λ cache otherwise below. subst (λ k. Joins (get_or values (suc cache) Nothing) (get_or k.items cache otherwise)) (sym kept) (joins cache otherwise below);
    nodes = (ap (λ n. n.items) nodes ∙ ended.waiting.nodes.0, subst (λ n. 32 ≤ vec_capacity n) (sym nodes) ended.waiting.nodes.1);
    checked = checked ∙ ended.waiting.checked;
  }

  -- ---- what each worker knows

  distinct : All (λ (l : Local). AreDistinct l.known) locals
  distinct = subst (λ ls. All (λ (l : Local). AreDistinct l.known) ls) ended.coherent.locals
      (All-map (λ (l : Local). AreDistinct l.known) (λ (x : Worker). x.local) ended.coherent.workers (λ i d below. (ended.coherent.coherent.accounted.told i d below).distinct))

  known : AreKnown (length rest.board.items) locals
  known = λ i d below. (distinct i d below, subst (λ n. All (λ (k : Known). k.object < n) (get_or locals i d).known) (sym ended.waiting.board) (ended.may_close.between i d below).numbers)

  -- ---- the machine that is put together

  module _ (new : Rest) (memory : List ℕ) (t : State) (beside : Beside) (count : length memory ≡ 512 * table.frames) (words : (at : ℕ) → at < 512 * table.frames → get_or memory at 0 ≡ get_or table.words (1056 + table.frames + table.objects + at) 0)
      (written : IsWrittenBack facts table.words memory (values_of values) locals rest new) (put : IsPutTogether facts.step (values_of values) new memory t beside) where
    links-base : links_at rest ≡ link_base (setup_of s b)
    links-base = omega (arith, ended.waiting.frames, ended.waiting.board)

    memory-base : 1056 + table.frames + table.objects ≡ memory_base (setup_of s b)
    memory-base = omega (arith, ended.sizes.frames, ended.sizes.objects)

    memory-same : t.memory ≡ memory
    memory-same = ap (λ (z : State). z.memory) put.lists

    board-same : t.board ≡ new.board.items
    board-same = ap (λ (z : State). z.board) put.lists

    read-so : IsRead facts s b system t (beside_of beside b.means)
    read-so = record {
      frames = ap (λ (z : State). z.frames) put.lists ∙ ap (λ (r : Rest). r.frames) written.rest ∙ ended.waiting.frames;
      cpus = ap (λ (z : State). z.cpus) put.lists ∙ ap (λ (r : Rest). r.cpus) written.rest ∙ ended.waiting.cpus;
      table = ap (λ (z : State). z.table) put.lists ∙ ap (λ (r : Rest). r.table) written.rest ∙ ended.waiting.table;
      pool = ap (λ (z : State). z.pool) put.lists;
      slab_count = ap (λ (z : State). length z.slabs) put.lists ∙ written.sizes.slabs ∙ ap (λ (r : Rest). r.frames) written.rest ∙ ended.waiting.frames;
      slabs = λ f below. ap (λ (z : State). get_or z.slabs f None) put.lists ∙ written.slabs f (omega (arith, below, ended.waiting.frames));
      free_count = ap (λ (z : State). length z.frees) put.lists ∙ written.sizes.frees ∙ ap (λ (r : Rest). r.frames) written.rest ∙ ended.waiting.frames;
      frees = λ f below. ap (λ (z : State). get_or z.frees f []) put.lists ∙ written.frees f (omega (arith, below, ended.waiting.frames)) ∙ ap (λ m. own_at facts table.words m f) (sym memory-same);
      list_count = ap (λ (z : State). length z.cpu_lists) put.lists ∙ written.sizes.cpu_lists ∙ ap (λ (r : Rest). 32 * r.cpus) written.rest ∙ ap (λ n. 32 * n) ended.waiting.cpus;
      lists = λ p below.
          ap (λ (z : State). get_or z.cpu_lists p no_lists) put.lists
          ∙ written.lists p (omega (arith, below, ended.waiting.cpus))
          ∙ ap (λ m. lists_at facts table.words m (links_at rest) (p / rest.cpus * 16 + p % rest.cpus)) (sym memory-same)
          ∙ ap (λ l. lists_at facts table.words t.memory l (p / rest.cpus * 16 + p % rest.cpus)) links-base
          ∙ ap (λ n. lists_at facts table.words t.memory (link_base (setup_of s b)) (p / n * 16 + p % n)) ended.waiting.cpus;
      node_count = put.node_count;
      nodes = put.nodes;
      checked_count = put.checked_count;
      checked = put.checked;
      word_count = ap length memory-same ∙ count ∙ ap (λ n. 512 * n) (sym ended.sizes.frames);
      memory = λ p below. ap (λ m. get_or m p 0) memory-same ∙ words p (omega (arith, below, ended.sizes.frames)) ∙ ap (λ n. get_or table.words (n + p) 0) memory-base;
      object_count = ap length board-same ∙ written.objects ∙ ended.waiting.board;
      board = λ o below.
          ap (λ h. get_or h o None) board-same
          ∙ written.board known o (omega (arith, below, ended.waiting.board))
          ∙ ap (λ n. option_or (on_board table.words (1056 + n) o) (held_among locals o)) ended.waiting.frames;
      gone = ap (λ (z : State). z.gone) put.lists ∙ written.gone ∙ ap (λ n. replicate n None) ended.waiting.board;
      live_count = ap (λ (z : State). length z.live) put.lists ∙ written.sizes.live;
      live = λ k below. ap (λ (z : State). get_or z.live k 0) put.lists ∙ written.live k below ∙ ap (sum_by (held_of k)) (sym board-same);
      tid_count = ap length put.tids ∙ written.sizes.tids;
      tids = λ n below. ap (λ ts. get_or ts n 0) put.tids ∙ written.tids n below;
      links = put.links ∙ written.links ∙ ap (λ n. replicate n 0) ended.waiting.frames;
      step = put.raise ∙ ap (λ (m : Setup). m.step) ended.setup;
      means = refl;
    }

    pub is-closed : IsClosed s b system t (beside_of beside b.means)
    is-closed =
        let z = closes facts s t b (beside_of beside b.means) world system ended.setup ended.may_open ended.coherent ended.may_close read-so in
        let r = closed-are_coherent s t b (beside_of beside b.means) world system ended.may_open ended.coherent z in
        let k = keeps facts s t b (beside_of beside b.means) world system ended.setup ended.may_open ended.coherent ended.may_close read-so in
        record { closes = z; words = k; coherent = r.0; again = r.1 }
