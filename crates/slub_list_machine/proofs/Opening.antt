-- The machine before its first item, from its parts.
use Rattle.std.proofs.Common.{◌≡◌, ℕ, ◌+◌, ◌*◌, List, [], replicate, Option, None, ap, ◌∙◌}
use Rattle.slub_page_pool.specs.FreeFrames.{FreeFrames}
use Rattle.slub_page_pool.specs.FreeFrames as pool
use Rattle.slub_cache_create.specs.Table.{Table, opening as no_caches}
use Rattle.slub_red_zone.specs.State.{CheckedState}
use Rattle.slub_lists.specs.declared.lists.Slab.{Slab}
use Rattle.slub_lists.specs.declared.lists.CpuLists.{CpuLists}
use Rattle.slub_lists.specs.declared.lists.Held.{Held}
use Rattle.slub_lists.specs.State.{State}
use Rattle.slub_lists.specs.Alloc.{no_lists}
use Rattle.slub_lists.specs.Coherent.{opening}

-- each part is the opening one
pub is-opening : (frames cpus objects : ℕ) (names : List (List ℕ)) (free : FreeFrames) (slabs : List (Option Slab)) (frees : List (List ℕ)) (table : Table) (cpu_lists : List CpuLists) (nodes : List (List ℕ))
    (checked : List (Option CheckedState)) (memory : List ℕ) (board gone : List (Option Held)) (live : List ℕ)
    → free ≡ pool.opening frames → slabs ≡ replicate frames None → frees ≡ replicate frames [] → table ≡ no_caches names → cpu_lists ≡ replicate (32 * cpus) no_lists → nodes ≡ replicate 32 [] → checked ≡ replicate 32 None
    → memory ≡ replicate (512 * frames) 0 → board ≡ replicate (objects + 1) None → gone ≡ replicate (objects + 1) None → live ≡ replicate 32 0
    → ◌≡◌ {A = State} (record {
      frames = frames;
      cpus = cpus;
      pool = free;
      slabs = slabs;
      frees = frees;
      table = table;
      cpu_lists = cpu_lists;
      nodes = nodes;
      checked = checked;
      memory = memory;
      board = board;
      gone = gone;
      live = live;
    }) (opening frames cpus objects names)
is-opening frames cpus objects names free slabs frees table cpu_lists nodes checked memory board gone live is_pool is_slabs is_frees is_table is_lists is_nodes is_checked is_memory is_board is_gone is_live =
    let s : State = record {
      frames = frames;
      cpus = cpus;
      pool = free;
      slabs = slabs;
      frees = frees;
      table = table;
      cpu_lists = cpu_lists;
      nodes = nodes;
      checked = checked;
      memory = memory;
      board = board;
      gone = gone;
      live = live;
    } in
    let a : State = record s { pool = pool.opening frames } in
    let b : State = record a { slabs = replicate frames None } in
    let c : State = record b { frees = replicate frames [] } in
    let d : State = record c { table = no_caches names } in
    let e : State = record d { cpu_lists = replicate (32 * cpus) no_lists } in
    let f : State = record e { nodes = replicate 32 [] } in
    let g : State = record f { checked = replicate 32 None } in
    let h : State = record g { memory = replicate (512 * frames) 0 } in
    let i : State = record h { board = replicate (objects + 1) None } in
    let j : State = record i { gone = replicate (objects + 1) None } in
    ap (λ (x : FreeFrames). record s { pool = x }) is_pool
    ∙ ap (λ (x : List (Option Slab)). record a { slabs = x }) is_slabs
    ∙ ap (λ (x : List (List ℕ)). record b { frees = x }) is_frees
    ∙ ap (λ (x : Table). record c { table = x }) is_table
    ∙ ap (λ (x : List CpuLists). record d { cpu_lists = x }) is_lists
    ∙ ap (λ (x : List (List ℕ)). record e { nodes = x }) is_nodes
    ∙ ap (λ (x : List (Option CheckedState)). record f { checked = x }) is_checked
    ∙ ap (λ (x : List ℕ). record g { memory = x }) is_memory
    ∙ ap (λ (x : List (Option Held)). record h { board = x }) is_board
    ∙ ap (λ (x : List (Option Held)). record i { gone = x }) is_gone
    ∙ ap (λ (x : List ℕ). record j { live = x }) is_live
