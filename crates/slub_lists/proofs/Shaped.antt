-- The numbers of things stay, and each slab and object keeps to its cache.
use Rattle.std.proofs.Common.{◌≡◌, ℕ, zero, suc, ◌+◌, ◌*◌, ◌%◌, ◌^◌, ◌<◌, ◌≤◌, Bool, true, false, List, [], ◌∷◌, length, get_or, set, map, Option, Some, None, option_map, IfSome, MatchOption, refl, ap, sym, ◌∙◌, subst, arith, length-set}
use Rattle.std.specs.List.{range_with_len}
use Rattle.std.proofs.lemmas.List.{length-map, length-replicate}
use Rattle.slub_page_pool.specs.FreeFrames.{FreeFrames, IsPool}
use Rattle.slub_page_pool.specs.FreeFrames as pool
use Rattle.slub_lists.specs.declared.lists.Slab.{Slab}
use Rattle.slub_lists.specs.declared.lists.CpuLists.{CpuLists}
use Rattle.slub_lists.specs.declared.lists.Held.{Held}
use Rattle.slub_lists.specs.declared.lists.Run.{Run}
use Rattle.slub_lists.specs.State.{State}
use Rattle.slub_lists.specs.Alloc.{marked, no_lists, cpu_place, cache_of, slab_of, lists_of, with_lists, with_node, retired, taken_up, with_new_slab, with_given, IsLive}
use Rattle.slub_cache_create.specs.Sound.{IsLiveCache, IsSound}
use Rattle.slub_cache_create.specs.Table.{opening as no_caches}
use Rattle.slub_lists.specs.Coherent.{AreChecked, IsShaped, IsSlabOf, held_under, laid_down, all_on_board, opening}
use Rattle.slub_lists.proofs.Writes.{at_marked}
use Rattle.slub_common.proofs.Writes.{at_written, get_or-replicate_any}
use Rattle.slub_lists.proofs.Unchecked.{checked-opening, checked-rest}

-- a CPU with no slab has no freelist
abbrev pub IsBare : CpuLists → Type 0
IsBare lists = lists.current ≡ None → lists.free ≡ []

-- the slab, if there is one, is one of its cache
abbrev pub IsOfItsCache : State → Option Slab → Type 0
IsOfItsCache s x = IfSome x (λ slab. MatchOption (cache_of s slab.cache) ⊥ (λ live. IsSlabOf live.layout slab))

-- its run begins at a multiple of its length
abbrev pub IsAligned : ℕ → Option Slab → Type 0
IsAligned frame x = IfSome x (λ slab. frame % 2 ^ slab.order ≡ 0)

-- there is a slab, and it is one of this cache
abbrev pub IsLiveOf : ℕ → Option Slab → Type 0
IsLiveOf cache x = MatchOption x ⊥ (λ slab. slab.cache ≡ cache)

IsOfItsCache-marked : (s : State) (b : Bool) (x : Option Slab) → IsOfItsCache s x → IsOfItsCache s (option_map (marked b) x)
IsOfItsCache-marked s b None h = h
IsOfItsCache-marked s b (Some slab) h = h

IsAligned-marked : (frame : ℕ) (b : Bool) (x : Option Slab) → IsAligned frame x → IsAligned frame (option_map (marked b) x)
IsAligned-marked frame b None h = h
IsAligned-marked frame b (Some slab) h = h

IsLiveOf-marked : (cache : ℕ) (b : Bool) (x : Option Slab) → IsLiveOf cache x → IsLiveOf cache (option_map (marked b) x)
IsLiveOf-marked cache b None h = h
IsLiveOf-marked cache b (Some slab) h = h

-- what holds of the value, if there is one, holds of it in another form
pub IfSome-weaker : {X : Type 0} (x : Option X) (P Q : X → Type 0) → ((y : X) → P y → Q y) → IfSome x P → IfSome x Q
IfSome-weaker None P Q weaker h = tt
IfSome-weaker (Some y) P Q weaker h = weaker y h

pub MatchOption-weaker : {X : Type 0} (x : Option X) (P Q : X → Type 0) → ((y : X) → P y → Q y) → MatchOption x ⊥ P → MatchOption x ⊥ Q
MatchOption-weaker None P Q weaker h = h
MatchOption-weaker (Some y) P Q weaker h = weaker y h

-- each live cache has a layout that was made for it
pub layouts-live : (s : State) (cache : ℕ) → IsShaped s → IfSome (cache_of s cache) (λ live. IsLive live.layout)
layouts-live s cache shaped = IfSome-weaker (cache_of s cache) (IsLiveCache s.table cache) (λ live. IsLive live.layout) (λ live good. (live.flags, good.layout)) (shaped.table.live cache)

-- lists are written and slabs marked
pub shaped-relisted : (s : State) (slabs : List (Option Slab)) (frees : List (List ℕ)) (cpu_lists : List CpuLists) (nodes : List (List ℕ))
    → length slabs ≡ length s.slabs → length frees ≡ length s.frees → length cpu_lists ≡ length s.cpu_lists → length nodes ≡ length s.nodes
    → ((P : Option Slab → Type 0) (f : ℕ) → ((b : Bool) (x : Option Slab) → P x → P (option_map (marked b) x)) → P (get_or s.slabs f None) → P (get_or slabs f None))
    → ((place : ℕ) → IsBare (get_or cpu_lists place no_lists))
    → AreChecked (record s { slabs = slabs; frees = frees; cpu_lists = cpu_lists; nodes = nodes })
    → IsShaped s → IsShaped (record s { slabs = slabs; frees = frees; cpu_lists = cpu_lists; nodes = nodes })
shaped-relisted s slabs frees cpu_lists nodes same_slabs same_frees same_lists same_nodes keeps bare checked shaped = record {
  frames = shaped.frames;
  cpus = shaped.cpus;
  pool = shaped.pool;
  pool_frames = shaped.pool_frames;
  slabs = same_slabs ∙ shaped.slabs;
  frees = same_frees ∙ shaped.frees;
  table = shaped.table;
  checked = checked;
  cpu_lists = same_lists ∙ shaped.cpu_lists;
  nodes = same_nodes ∙ shaped.nodes;
  memory = shaped.memory;
  live = shaped.live;
  board = shaped.board;
  gone = shaped.gone;
  slab = λ f. keeps (IsOfItsCache s) f (IsOfItsCache-marked s) (shaped.slab f);
  aligned = λ f. keeps (IsAligned f) f (IsAligned-marked f) (shaped.aligned f);
  held = λ object. IfSome-weaker (held_under s object) (λ held. IsLiveOf held.cache (slab_of s held.frame)) (λ held. IsLiveOf held.cache (get_or slabs held.frame None))
      (λ held. keeps (IsLiveOf held.cache) held.frame (IsLiveOf-marked held.cache)) (shaped.held object);
  no_zero = shaped.no_zero;
  bare = bare;
}

module _ (s : State) (cache cpu : ℕ) where
  -- what a CPU has of a cache is written
  pub bare-written : (v : CpuLists) → IsBare v → IsShaped s → (place : ℕ) → IsBare (get_or (set s.cpu_lists (cpu_place s cache cpu) v) place no_lists)
  bare-written v new shaped place = at_written IsBare s.cpu_lists (cpu_place s cache cpu) place v no_lists (λ e. new) (shaped.bare place)

  pub shaped-retired : (frame : ℕ) → AreChecked (retired s cache cpu frame) → IsShaped s → IsShaped (retired s cache cpu frame)
  shaped-retired frame checked shaped =
      let v : CpuLists = record { current = None; free = []; partial = (lists_of s cache cpu).partial } in
      let after : State = retired s cache cpu frame in
      shaped-relisted s after.slabs s.frees after.cpu_lists s.nodes (length-set s.slabs frame (option_map (marked false) (slab_of s frame))) refl (length-set s.cpu_lists (cpu_place s cache cpu) v) refl
      (λ P f closed. at_marked P false s.slabs frame f (closed false)) (bare-written v (λ e. refl) shaped) checked shaped

  pub shaped-taken_up : (frame : ℕ) (partial : List ℕ) → AreChecked (taken_up s cache cpu frame partial) → IsShaped s → IsShaped (taken_up s cache cpu frame partial)
  shaped-taken_up frame partial checked shaped =
      let after : State = taken_up s cache cpu frame partial in
      let v : CpuLists = record { current = Some frame; free = get_or s.frees frame []; partial = partial } in
      shaped-relisted s after.slabs after.frees after.cpu_lists s.nodes (length-set s.slabs frame (option_map (marked true) (slab_of s frame))) (length-set s.frees frame []) (length-set s.cpu_lists (cpu_place s cache cpu) v) refl
      (λ P f closed. at_marked P true s.slabs frame f (closed true)) (bare-written v (λ e. cc) shaped) checked shaped

  pub shaped-partial : (partial frames : List ℕ) → AreChecked (let lists : CpuLists = lists_of s cache cpu in with_lists (with_node s cache frames) cache cpu (record lists { partial = partial }))
      → IsShaped s → IsShaped (let lists : CpuLists = lists_of s cache cpu in with_lists (with_node s cache frames) cache cpu (record lists { partial = partial }))
  shaped-partial partial frames checked shaped =
      let lists : CpuLists = lists_of s cache cpu in
      let v : CpuLists = record lists { partial = partial } in
      shaped-relisted s s.slabs s.frees (set s.cpu_lists (cpu_place s cache cpu) v) (set s.nodes cache frames) refl refl (length-set s.cpu_lists (cpu_place s cache cpu) v) (length-set s.nodes cache frames)
      (λ P f closed h. h) (bare-written v (shaped.bare (cpu_place s cache cpu)) shaped) checked shaped

  -- a new slab of the cache, aligned, where there was none
  pub shaped-with_new_slab : (pool : FreeFrames) (run : Run) → run.frame < length s.slabs → slab_of s run.frame ≡ None
      → IsPool pool → pool.frames ≡ s.pool.frames → run.frame % 2 ^ run.order ≡ 0
      → MatchOption (cache_of s cache) ⊥ (λ live. IsSlabOf live.layout (record { cache = cache; order = run.order; objects = run.objects; frozen = true }))
      → AreChecked (with_new_slab s cache cpu pool run) → IsShaped s → IsShaped (with_new_slab s cache cpu pool run)
  shaped-with_new_slab pool run slot unused good same aligned fits checked shaped =
      let new : Slab = record { cache = cache; order = run.order; objects = run.objects; frozen = true } in
      let v : CpuLists = record { current = Some run.frame; free = range_with_len 0 run.objects; partial = (lists_of s cache cpu).partial } in
      record {
        frames = shaped.frames;
        cpus = shaped.cpus;
        pool = good;
        pool_frames = same ∙ shaped.pool_frames;
        slabs = length-set s.slabs run.frame (Some new) ∙ shaped.slabs;
        frees = shaped.frees;
        table = shaped.table;
        checked = checked;
        cpu_lists = length-set s.cpu_lists (cpu_place s cache cpu) v ∙ shaped.cpu_lists;
        nodes = shaped.nodes;
        memory = shaped.memory;
        live = shaped.live;
        board = shaped.board;
        gone = shaped.gone;
        slab = λ f. at_written (IsOfItsCache s) s.slabs run.frame f (Some new) None (λ e. fits) (shaped.slab f);
        aligned = λ f. at_written (IsAligned f) s.slabs run.frame f (Some new) None (λ e. ap (λ n. n % 2 ^ run.order) e ∙ aligned) (shaped.aligned f);
        held = λ object. IfSome-weaker (held_under s object) (λ held. IsLiveOf held.cache (slab_of s held.frame)) (λ held. IsLiveOf held.cache (get_or (set s.slabs run.frame (Some new)) held.frame None))
            (λ held. λ was. at_written (IsLiveOf held.cache) s.slabs run.frame held.frame (Some new) None (λ e. absurd (nobody held.cache (slab_of s held.frame) (ap (slab_of s) e ∙ unused) was)) was) (shaped.held object);
        no_zero = shaped.no_zero;
        bare = bare-written v (λ e. cc) shaped;
      }
    where
      nobody : (c : ℕ) (x : Option Slab) → x ≡ None → IsLiveOf c x → ⊥
      nobody c None e h = h
      nobody c (Some slab) e h = cc

  -- an object of a slab of the cache is given
  pub shaped-with_given : (object frame index worker : ℕ) (rest : List ℕ) → 1 ≤ object → IsLiveOf cache (slab_of s frame)
      → AreChecked (with_given s cache cpu (record { current = Some frame; free = rest; partial = (lists_of s cache cpu).partial }) object (record { frame = frame; index = index; cache = cache; worker = Some worker }))
      → IsShaped s → IsShaped (with_given s cache cpu (record { current = Some frame; free = rest; partial = (lists_of s cache cpu).partial }) object (record { frame = frame; index = index; cache = cache; worker = Some worker }))
  shaped-with_given object frame index worker rest numbered own checked shaped =
      let v : CpuLists = record { current = Some frame; free = rest; partial = (lists_of s cache cpu).partial } in
      let held : Held = record { frame = frame; index = index; cache = cache; worker = Some worker } in
      record {
        frames = shaped.frames;
        cpus = shaped.cpus;
        pool = shaped.pool;
        pool_frames = shaped.pool_frames;
        slabs = shaped.slabs;
        frees = shaped.frees;
        table = shaped.table;
        checked = checked;
        cpu_lists = length-set s.cpu_lists (cpu_place s cache cpu) v ∙ shaped.cpu_lists;
        nodes = shaped.nodes;
        memory = shaped.memory;
        live = length-set s.live cache (get_or s.live cache 0 + 1) ∙ shaped.live;
        board = omega (arith, shaped.board, length-set s.board object (Some held));
        gone = omega (arith, shaped.gone, length-set s.board object (Some held));
        slab = shaped.slab;
        aligned = shaped.aligned;
        held = λ number. at_written (λ x. IfSome x (λ h. IsLiveOf h.cache (slab_of s h.frame))) s.board object number (Some held) None (λ e. own) (shaped.held number);
        no_zero = at_written (λ x. x ≡ None) s.board object 0 (Some held) None (λ e. absurd (omega (arith, e, numbered))) shaped.no_zero;
        bare = bare-written v (λ e. cc) shaped;
      }

-- the pool counts
pub shaped-with_pool : (s : State) (pool : FreeFrames) → IsPool pool → pool.frames ≡ s.pool.frames → IsShaped s → IsShaped (record s { pool = pool })
shaped-with_pool s pool good same shaped = record {
  frames = shaped.frames;
  cpus = shaped.cpus;
  pool = good;
  pool_frames = same ∙ shaped.pool_frames;
  slabs = shaped.slabs;
  frees = shaped.frees;
  table = shaped.table;
  checked = checked-rest s pool s.memory s.board s.gone s.live shaped.checked;
  cpu_lists = shaped.cpu_lists;
  nodes = shaped.nodes;
  memory = shaped.memory;
  live = shaped.live;
  board = shaped.board;
  gone = shaped.gone;
  slab = shaped.slab;
  aligned = shaped.aligned;
  held = shaped.held;
  no_zero = shaped.no_zero;
  bare = shaped.bare;
}

-- objects are laid down
pub shaped-all_on_board : (s : State) → IsShaped s → IsShaped (all_on_board s)
shaped-all_on_board s shaped = record {
  frames = shaped.frames;
  cpus = shaped.cpus;
  pool = shaped.pool;
  pool_frames = shaped.pool_frames;
  slabs = shaped.slabs;
  frees = shaped.frees;
  table = shaped.table;
  checked = checked-rest s s.pool s.memory (map (option_map laid_down) s.board) (map (λ (freed : Option Held). None) s.gone) s.live shaped.checked;
  cpu_lists = shaped.cpu_lists;
  nodes = shaped.nodes;
  memory = shaped.memory;
  live = shaped.live;
  board = omega (arith, shaped.board, length-map s.board (option_map laid_down));
  gone = length-map s.gone (λ (freed : Option Held). None) ∙ shaped.gone ∙ sym (length-map s.board (option_map laid_down));
  slab = shaped.slab;
  aligned = shaped.aligned;
  held = λ object. held_down s.board object (λ h. IsLiveOf h.cache (slab_of s h.frame)) (λ h down. down) (shaped.held object);
  no_zero = none_down s.board shaped.no_zero;
  bare = shaped.bare;
}
  where
    none_down : (board : List (Option Held)) → get_or board 0 None ≡ None → get_or (map (option_map laid_down) board) 0 None ≡ None
    none_down [] none = refl
    none_down (None ∷ board) none = refl
    none_down (Some x ∷ board) none = cc

    held_down : (board : List (Option Held)) (object : ℕ) (P : Held → Type 0) → ((h : Held) → P h → P (laid_down h)) → IfSome (get_or board object None) P → IfSome (get_or (map (option_map laid_down) board) object None) P
    held_down [] object P keeps h = h
    held_down (None ∷ board) zero P keeps h = h
    held_down (Some x ∷ board) zero P keeps h = keeps x h
    held_down (x ∷ board) (suc object) P keeps h = held_down board object P keeps h

-- before the first item
pub shaped-opening : (frames cpus objects : ℕ) (names : List (List ℕ)) → 2 ≤ frames → frames ≤ 4096 → 1 ≤ cpus → cpus ≤ 16 → objects ≤ 1048576 → IsPool (pool.opening frames) → IsSound (no_caches names) → IsShaped (opening frames cpus objects names)
shaped-opening frames cpus objects names least most one sixteen numbers good sound =
    let s : State = opening frames cpus objects names in
    let no_slab : (P : Slab → Type 0) (f : ℕ) → IfSome (slab_of s f) P = λ P f. subst (λ x. IfSome x P) (sym (get_or-replicate_any frames f None)) tt in
    record {
      frames = (least, most);
      cpus = (one, sixteen);
      pool = good;
      pool_frames = refl;
      slabs = length-replicate frames None;
      frees = length-replicate frames [];
      table = sound;
      checked = checked-opening frames cpus objects names;
      cpu_lists = length-replicate (32 * cpus) no_lists;
      nodes = refl;
      memory = length-replicate (512 * frames) 0;
      live = refl;
      board = let e = length-replicate {A = Option Held} (objects + 1) None in omega (arith, e);
      gone = refl;
      slab = no_slab (λ slab. MatchOption (cache_of s slab.cache) ⊥ (λ live. IsSlabOf live.layout slab));
      aligned = λ f. no_slab (λ slab. f % 2 ^ slab.order ≡ 0) f;
      held = λ object. subst (λ x. IfSome x (λ h. IsLiveOf h.cache (slab_of s h.frame))) (sym (get_or-replicate_any (objects + 1) object None)) tt;
      no_zero = get_or-replicate_any (objects + 1) 0 None;
      bare = λ place. subst IsBare (sym (get_or-replicate_any (32 * cpus) place no_lists)) (λ e. refl);
    }
