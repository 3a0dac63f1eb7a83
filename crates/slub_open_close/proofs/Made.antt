-- The lists that are read of a coherent machine are those into which it closes.
use Rattle.std.proofs.Common.{◌≡◌, ℕ, zero, suc, ◌+◌, ◌-◌, ◌*◌, ◌/◌, ◌%◌, ◌^◌, ◌<◌, ◌≤◌, eqb, List, [], length, map, get_or, replicate, None, inl, inr, refl, ap, sym, ◌∙◌, subst, arith, sum_by}
use Rattle.std.specs.Prelude.{nat_lt, All, IfSome}
use Rattle.std.specs.Option.{option_map, option_or}
use Rattle.std.specs.List.{range_with_len}
use Rattle.std.proofs.lemmas.Bool.{cases_eq, cases_lt, cond-true, cond-false, eq-eqb, ne_eqb, lt-ltb, le-ltb}
use Rattle.std.proofs.lemmas.List.{ext_get_or, get_or_past, length-replicate}
use Rattle.std.proofs.lemmas.List.FromFn.{get_or-map-range_with_len, length-map-range_with_len}
use Rattle.slub_words.specs.declared.cpu.CpuWord.{CpuWord}
use Rattle.slub_words.specs.declared.slab.SlabWord.{SlabWord}
use Rattle.slub_lists.specs.State.{State}
use Rattle.slub_lists.specs.Alloc.{own_free, cache_of, checked_of, node_of, lists_of, no_lists}
use Rattle.slub_lists.specs.Coherent.{IsAccounted, held_of}
use Rattle.slub_lists.specs.declared.lists.CpuLists.{CpuLists}
use Rattle.slub_core.specs.Setup.{Setup, node_lock}
use Rattle.slub_core.specs.Words.{word_count, board_base, memory_base, link_base, board_in}
use Rattle.slub_core.specs.Run.{System}
use Rattle.slub_core.specs.World.{World, Chains, LockValue, world_of, world_from, word_in, board_words, pool_in, frames_in}
use Rattle.slub_core.specs.Coherent.{Stands}
use Rattle.slub_core.specs.Law.{IsCoherentSystem}
use Rattle.slub_core.proofs.StepWords.{setup_of as core_setup_of, value_of as core_value_of}
use Rattle.slub_core.specs.Facts.{Facts}
use Rattle.slub_core.specs.Facts as local
use Rattle.slub_law_opening.specs.Opening.{Beside, setup_of, cpu_at}
use Rattle.slub_law_opening.specs.Rests.{IsBetween, Rests, IsCpuOf, current_in, held_on, held_among, named, times_named}
use Rattle.slub_law_opening.specs.Rests as rests
use Rattle.slub_law_opening.specs.Closing.{HasLengths, Closes, MayClose, checked_in}
use Rattle.slub_law_opening.specs.Laws.{MayOpen}
use Rattle.slub_law_opening.proofs.Closed.{chain-same, string-same}
use Rattle.slub_law_opening.proofs.Counts.{locals_of}
use Rattle.slub_law_opening.proofs.Cpus.{number-block}
use Rattle.slub_law_opening.proofs.Made.{IsCut, read, made, made_beside, checked-at, stays, made-rests, made-lengths, made-live}
use Rattle.slub_law_opening.proofs.Once.{named-once}
use Rattle.slub_open_close.specs.Closing.{KeepsWords}
use Rattle.slub_open_close.specs.Reads.{slab_at, slab_or, slab_in_values, own_at, chain_in, next_in, string_in, link_in, lists_at, cpu_word_in, front_in, on_board}
use Rattle.slub_open_close.proofs.Walked.{walked-chain, walked-string}
use Rattle.slub_open_close.proofs.Bounds.{own-small, own-few, cpu-small, cpu-few, list-real, list-few}
use Rattle.slub_open_close.proofs.Worlds.{cpu-read, front-read, slab-read, link-read, memory-read, memory-past, board-read, next-read, slab-there}

-- what was read, class by class, of a machine that was opened from s and b
pub record IsRead (facts : Facts) (s : State) (b : Beside) (system : System) (t : State) (d : Beside) : Type 0 where
  pub frames : t.frames ≡ s.frames
  pub cpus : t.cpus ≡ s.cpus
  pub table : t.table ≡ s.table
  pub pool : t.pool ≡ pool_in (system.value 0)
  pub slab_count : length t.slabs ≡ s.frames
  pub slabs : (f : ℕ) → f < s.frames → get_or t.slabs f None ≡ slab_at facts system.words system.value f
  pub free_count : length t.frees ≡ s.frames
  pub frees : (f : ℕ) → f < s.frames → own_free t f ≡ own_at facts system.words t.memory f
  pub list_count : length t.cpu_lists ≡ 32 * s.cpus
  pub lists : (p : ℕ) → p < 32 * s.cpus → get_or t.cpu_lists p no_lists ≡ lists_at facts system.words t.memory (link_base (setup_of s b)) (p / s.cpus * 16 + p % s.cpus)
  pub node_count : length t.nodes ≡ 32
  pub nodes : (k : ℕ) → k < 32 → node_of t k ≡ frames_in (system.value (suc k))
  pub checked_count : length t.checked ≡ 32
  pub checked : (k : ℕ) → k < 32 → checked_of t k ≡ checked_in (system.value (suc k))
  pub word_count : length t.memory ≡ 512 * s.frames
  pub memory : (p : ℕ) → p < 512 * s.frames → get_or t.memory p 0 ≡ get_or system.words (memory_base (setup_of s b) + p) 0
  pub object_count : length t.board ≡ length s.board
  pub board : (o : ℕ) → o < length s.board → get_or t.board o None ≡ option_or (on_board system.words (board_base (setup_of s b)) o) (held_among system.locals o)
  pub gone : t.gone ≡ replicate (length s.board) None
  pub live_count : length t.live ≡ 32
  pub live : (k : ℕ) → k < 32 → get_or t.live k 0 ≡ sum_by (held_of k) t.board
  pub tid_count : length d.tids ≡ 512
  pub tids : (n : ℕ) → n < 512 → get_or d.tids n 0 ≡ (cpu_word_in system.words n).tid
  pub links : d.links ≡ replicate s.frames 0
  pub step : d.step ≡ b.step
  pub means : d.means ≡ b.means

-- a list by what stands at each place
listed : {A : Type 0} (d : A) (f : ℕ → A) (xs : List A) (n : ℕ) → length xs ≡ n → ((i : ℕ) → i < n → get_or xs i d ≡ f i) → xs ≡ map f (range_with_len 0 n)
listed d f xs n long at = ext_get_or d xs (map f (range_with_len 0 n)) (long ∙ sym (length-map-range_with_len f 0 n))
    (λ i below. at i (omega arith) ∙ sym (get_or-map-range_with_len f 0 n i i d (omega arith) (omega arith)))

-- past its bounds a table of words has nothing
table-cut : (m : Setup) (value : ℕ → LockValue) (words : List ℕ) → IsCut (world_of m value words)
unfolding world_of world_from board_words word_in board_in
table-cut m value words = record {
  zero = refl;
  board = λ o past. elim (cases_eq o 0) [
    | inl z ↦ ap board_in (cond-true (eqb o 0) 0 _ (eq-eqb o 0 z))
    | inr d ↦ ap board_in (cond-false (eqb o 0) 0 _ (ne_eqb o 0 d) ∙ cond-false (nat_lt o m.objects) _ 0 (le-ltb o m.objects past))
  ];
  memory = λ p past. cond-false (nat_lt p (512 * m.frames)) _ 0 (le-ltb p (512 * m.frames) past);
}

module _ (facts : Facts) (s t : State) (b d : Beside) (opening : World) (system : System) (is : local.setup_of facts b.means ≡ setup_of s b) (may : MayOpen s b) (standing : IsCoherentSystem (setup_of s b) opening system)
    (close : MayClose s b system) (r : IsRead facts s b system t d) where
  abbrev pub w : World
  w = world_of (setup_of s b) system.value system.words

  its-setup : w.setup ≡ setup_of s b
  its-setup = core_setup_of (setup_of s b) system.value system.words

  its-value : w.value ≡ system.value
  its-value = core_value_of (setup_of s b) system.value system.words

  abbrev pub all-stand : Stands w standing.workers
  all-stand = record { chains = standing.chains; placed = standing.coherent.placed; listed = standing.coherent.listed; fresh = standing.coherent.fresh }

  abbrev pub y : Chains
  y = standing.chains

  between-here : All (IsBetween w.setup) (locals_of standing.workers)
  between-here = subst (λ m. All (IsBetween m) (locals_of standing.workers)) (sym its-setup) (subst (λ ls. All (IsBetween (setup_of s b)) ls) (sym standing.locals) close.between)

  named-here : (o : ℕ) → times_named w (locals_of standing.workers) o ≤ 1
  named-here = named-once opening w standing.workers standing.coherent.accounted

  frames : w.setup.frames ≡ s.frames
  frames = ap (λ (m : Setup). m.frames) its-setup

  inside : (n : ℕ) → n < 512 → n < w.setup.cpu_words
  inside n l = omega (arith, l, ap (λ (m : Setup). m.cpu_words) its-setup)

  layouts : (cache : ℕ) → (local.cache_of facts cache).layout ≡ w.setup.layout cache
  layouts cache = ap (λ (m : Setup). m.layout cache) (is ∙ sym its-setup)

  memories : (p : ℕ) → get_or t.memory p 0 ≡ w.memory p
  memories p = elim (cases_lt p (512 * s.frames)) [
    | inl l ↦ r.memory p l ∙ sym (memory-read (setup_of s b) system.value system.words p l)
    | inr g ↦ get_or_past t.memory p 0 (omega (arith, g, r.word_count)) ∙ sym (memory-past (setup_of s b) system.value system.words p g)
  ]

  -- ---- slabs and their freelists

  slabs-read : (f : ℕ) → f < s.frames → get_or t.slabs f None ≡ rests.slab_at w f
  slabs-read f below =
      r.slabs f below
      ∙ ap (λ (x : SlabWord). slab_or facts x (slab_in_values system.value 33 f)) (sym (slab-read (setup_of s b) system.value system.words f below))
      ∙ ap (λ (v : ℕ → LockValue). slab_or facts (w.slab f) (slab_in_values v 33 f)) (sym its-value)
      ∙ slab-there w facts f (ap (λ (m : Setup). m.locks) its-setup) layouts (λ none. (standing.coherent.listed.shaped.unslabbed f none).1)

  frees-read : (f : ℕ) → f < s.frames → own_free t f ≡ y.own f
  frees-read f below =
      r.frees f below
      ∙ ap (λ (x : SlabWord). chain_in facts t.memory x.cache f x.head) (sym (slab-read (setup_of s b) system.value system.words f below))
      ∙ walked-chain _ (next_in facts t.memory (w.slab f).cache f) (next-read w facts t.memory layouts memories (w.slab f).cache f) 512 (w.slab f).head (y.own f)
      (own-small w standing.workers all-stand f) (own-few w standing.workers all-stand f) (standing.coherent.placed.own_chain f)

  -- ---- CPUs

  free-read : (n : ℕ) → n < 512 → chain_in facts t.memory (n / 16) (w.cpu n).frame (w.cpu n).head ≡ y.cpu n
  free-read n below =
      walked-chain _ (next_in facts t.memory (n / 16) (w.cpu n).frame) (next-read w facts t.memory layouts memories (n / 16) (w.cpu n).frame) 512 (w.cpu n).head (y.cpu n)
      (λ j. cpu-small w standing.workers all-stand n j (inside n below)) (cpu-few w standing.workers all-stand n (inside n below)) (standing.coherent.placed.cpu_chain n (inside n below))

  links-to : (f : ℕ) → f < s.frames → link_in system.words (link_base (setup_of s b)) f ≡ w.link f
  links-to f below =
      let e = link-read (setup_of s b) system.value system.words f below in
      let small = standing.coherent.fresh.worded.link f in
      let m : w.link f % 2 ^ 16 ≡ w.link f = omega arith in
      ap (λ x. x % 2 ^ 16) (sym e) ∙ m

  string-read : (n : ℕ) → n < 512 → string_in system.words (link_base (setup_of s b)) (front_in system.words n) ≡ y.list n
  string-read n below =
      ap (string_in system.words (link_base (setup_of s b))) (sym (front-read (setup_of s b) system.value system.words n below))
      ∙ walked-string w.link (link_in system.words (link_base (setup_of s b))) 4095 (w.list n).front (y.list n)
      (λ f some. let q = list-real w standing.workers all-stand n f (inside n below) some in (q.0, links-to f (omega (arith, q.1, frames))))
      (list-few w standing.workers all-stand n (inside n below)) (standing.coherent.listed.shaped.string n (inside n below))

  number-below : (p cpus : ℕ) → 1 ≤ cpus → cpus ≤ 16 → p < 32 * cpus → p / cpus * 16 + p % cpus < 512
  number-below p cpus some few below =
      let q : p / cpus < 32 = elim (cases_lt (p / cpus) 32) [
        | inl l ↦ l
        | inr g ↦ absurd (let m = mono 32 (p / cpus) cpus g in let e : p / cpus * cpus + p % cpus ≡ p = omega arith in omega arith)
      ] in
      let z : p % cpus < cpus = omega arith in
      omega arith
    where
      mono : (a d n : ℕ) → a ≤ d → a * n ≤ d * n
      mono a d n le = let t : d * n ≡ (a + (d - a)) * n = ap (λ z. z * n) (let q : d ≡ a + (d - a) = omega arith in q) in omega arith

  -- ---- the board

  names : (o : ℕ) → o < length s.board → get_or t.board o None ≡ named w (locals_of standing.workers) o
  names o below =
      r.board o below
      ∙ ap (λ x. option_or (option_map held_on x) (held_among system.locals o)) (sym (board-read (setup_of s b) system.value system.words o below))
      ∙ ap (λ ls. option_or (option_map held_on (w.board o)) (held_among ls o)) (sym standing.locals)

  board-is : t.board ≡ map (named w (locals_of standing.workers)) (range_with_len 0 (length s.board))
  board-is = listed None (named w (locals_of standing.workers)) t.board (length s.board) r.object_count names

  live-is : t.live ≡ map (λ k. sum_by (held_of k) (map (named w (locals_of standing.workers)) (range_with_len 0 (length s.board)))) (range_with_len 0 32)
  live-is = listed 0 (λ k. sum_by (held_of k) (map (named w (locals_of standing.workers)) (range_with_len 0 (length s.board)))) t.live 32 r.live_count (λ k below. r.live k below ∙ ap (sum_by (held_of k)) board-is)

  -- ---- the whole

  frees-are : t.frees ≡ map y.own (range_with_len 0 s.frames)
  frees-are = listed [] y.own t.frees s.frames r.free_count frees-read

  nodes-are : t.nodes ≡ map (λ k. frames_in (w.value (suc k))) (range_with_len 0 32)
  nodes-are = listed [] (λ k. frames_in (w.value (suc k))) t.nodes 32 r.node_count (λ k below. r.nodes k below ∙ ap (λ (v : ℕ → LockValue). frames_in (v (suc k))) (sym its-value))

  checked-are : t.checked ≡ map (λ k. checked_in (w.value (suc k))) (range_with_len 0 32)
  checked-are = listed None (λ k. checked_in (w.value (suc k))) t.checked 32 r.checked_count (λ k below. r.checked k below ∙ ap (λ (v : ℕ → LockValue). checked_in (v (suc k))) (sym its-value))

  memory-is : t.memory ≡ map w.memory (range_with_len 0 (512 * s.frames))
  memory-is = listed 0 w.memory t.memory (512 * s.frames) r.word_count (λ p below. memories p)

  tids-are : d.tids ≡ map (λ n. (w.cpu n).tid) (range_with_len 0 512)
  tids-are = listed 0 (λ n. (w.cpu n).tid) d.tids 512 r.tid_count (λ n below. r.tids n below ∙ ap (λ (c : CpuWord). c.tid) (sym (cpu-read (setup_of s b) system.value system.words n below)))

  -- ---- so it closes

  abbrev lists : State
  lists = made s w y (locals_of standing.workers)

  abbrev ids : Beside
  ids = made_beside s b w

  same-setup : setup_of s b ≡ setup_of lists ids
  same-setup = stays s b w standing.workers may.coherent may.beside its-setup all-stand (table-cut (setup_of s b) system.value system.words) between-here named-here close.idle

  rest-here : Rests lists ids w (locals_of standing.workers)
  rest-here = made-rests s b w standing.workers may.coherent may.beside its-setup all-stand (table-cut (setup_of s b) system.value system.words) between-here named-here close.idle

  lengths-here : HasLengths lists
  lengths-here = made-lengths s b w standing.workers may.coherent may.beside its-setup all-stand (table-cut (setup_of s b) system.value system.words) between-here named-here close.idle

  live-here : IsAccounted lists
  live-here = made-live s b w standing.workers may.coherent may.beside its-setup all-stand (table-cut (setup_of s b) system.value system.words) between-here named-here close.idle

  -- what a CPU has in the lists that are made
  number-same : (p : ℕ) → 1 ≤ s.cpus → s.cpus ≤ 16 → ((p / s.cpus * 16 + p % s.cpus) / 16 ≡ p / s.cpus) × ((p / s.cpus * 16 + p % s.cpus) % 16 ≡ p % s.cpus)
  number-same p some few = number-block (p / s.cpus) (p % s.cpus) (omega arith)

  made-cpu : (p : ℕ) → p < 32 * s.cpus → cpu_at lists (p / s.cpus * 16 + p % s.cpus) ≡ read w y (p / s.cpus * 16 + p % s.cpus)
  unfolding made
  made-cpu p below =
      let few = may.coherent.shaped.cpus in
      let n = p / s.cpus * 16 + p % s.cpus in
      let q = number-same p few.0 few.1 in
      let back : n / 16 * s.cpus + n % 16 ≡ p = ap (λ k. k * s.cpus + n % 16) q.0 ∙ ap (λ c. p / s.cpus * s.cpus + c) q.1 ∙ (let e : p / s.cpus * s.cpus + p % s.cpus ≡ p = omega arith in e) in
      cond-true (nat_lt (n % 16) s.cpus) (lists_of lists (n / 16) (n % 16)) no_lists (lt-ltb (n % 16) s.cpus (let z : p % s.cpus < s.cpus = omega arith in omega (arith, q.1)))
      ∙ ap (λ z. get_or lists.cpu_lists z no_lists) back
      ∙ get_or-map-range_with_len (λ p. read w y (p / s.cpus * 16 + p % s.cpus)) 0 (32 * s.cpus) p p no_lists below (omega arith)

  read-is : (n : ℕ) → n < 512 → IsCpuOf ids w n (read w y n) → lists_at facts system.words t.memory (link_base (setup_of s b)) n ≡ read w y n
  read-is n below c =
      let e = cpu-read (setup_of s b) system.value system.words n below in
      let free : chain_in facts t.memory (n / 16) (w.cpu n).frame (w.cpu n).head ≡ (read w y n).free =
      free-read n below ∙ chain-same _ (w.cpu n).head (y.cpu n) (read w y n).free (standing.coherent.placed.cpu_chain n (inside n below)) c.free in
      let partial : string_in system.words (link_base (setup_of s b)) (front_in system.words n) ≡ (read w y n).partial =
      string-read n below ∙ string-same w.link (w.list n).front (y.list n) (read w y n).partial (sym (standing.coherent.listed.shaped.count n (inside n below)) ∙ c.count) (standing.coherent.listed.shaped.string n (inside n below)) c.partial in
      ap (λ (x : CpuWord). let z : CpuLists = record { current = current_in x.frame; free = chain_in facts t.memory (n / 16) x.frame x.head; partial = string_in system.words (link_base (setup_of s b)) (front_in system.words n) } in z) (sym e)
      ∙ (λ i. record { current = sym c.current i; free = free i; partial = partial i })

  lists-are : t.cpu_lists ≡ map (λ p. read w y (p / s.cpus * 16 + p % s.cpus)) (range_with_len 0 (32 * s.cpus))
  lists-are =
      let few = may.coherent.shaped.cpus in
      listed no_lists (λ p. read w y (p / s.cpus * 16 + p % s.cpus)) t.cpu_lists (32 * s.cpus) r.list_count (λ p below.
      let small = number-below p s.cpus few.0 few.1 below in
      r.lists p below ∙ read-is (p / s.cpus * 16 + p % s.cpus) small (subst (IsCpuOf ids w (p / s.cpus * 16 + p % s.cpus)) (made-cpu p below) (rest-here.cpu (p / s.cpus * 16 + p % s.cpus) small)))

  pub lists-made : t ≡ made s w y (locals_of standing.workers)
  unfolding made
  lists-made = λ i. record {
    frames = r.frames i;
    cpus = r.cpus i;
    pool = (r.pool ∙ ap (λ (v : ℕ → LockValue). pool_in (v 0)) (sym its-value)) i;
    slabs = listed None (rests.slab_at w) t.slabs s.frames r.slab_count slabs-read i;
    frees = frees-are i;
    table = r.table i;
    cpu_lists = lists-are i;
    nodes = nodes-are i;
    checked = checked-are i;
    memory = memory-is i;
    board = board-is i;
    gone = r.gone i;
    live = live-is i;
  }

  pub ids-made : d ≡ made_beside s b w
  unfolding made_beside
  ids-made = λ i. record { tids = tids-are i; links = r.links i; step = r.step i; means = r.means i }

  flags-here : (k : ℕ) → IfSome (checked_of lists k) (λ slabs. IfSome (cache_of s k) (λ live. live.flags ≡ slabs.flags))
  flags-here k = elim (cases_lt k 32) [
    | inl l ↦ (
        let e : checked_of lists k ≡ checked_in (system.value (node_lock k)) =
        checked-at s b w standing.workers may.coherent may.beside its-setup all-stand (table-cut (setup_of s b) system.value system.words) between-here named-here close.idle k l
        ∙ ap (λ (value : ℕ → LockValue). checked_in (value (suc k))) its-value ∙ ap (λ n. checked_in (system.value n)) (let q : suc k ≡ node_lock k = omega arith in q) in
        subst (λ o. IfSome o (λ slabs. IfSome (cache_of s k) (λ live. live.flags ≡ slabs.flags))) (sym e) (close.flags k))
    | inr g ↦ subst (λ o. IfSome o (λ slabs. IfSome (cache_of s k) (λ live. live.flags ≡ slabs.flags))) (sym (get_or_past lists.checked k None (let c = lengths-here.checked in omega arith))) tt
  ]

  closing : Closes s b system lists ids
  unfolding made made_beside
  closing = record {
    stays = sym same-setup;
    table = refl;
    lengths = lengths-here;
    rests = record {
      count = standing.words ∙ ap word_count same-setup;
      rests = subst (λ ls. Rests lists ids (world_of (setup_of lists ids) system.value system.words) ls) standing.locals (subst (λ m. Rests lists ids (world_of m system.value system.words) (locals_of standing.workers)) same-setup rest-here);
    };
    tids = length-map-range_with_len (λ n. (w.cpu n).tid) 0 512;
    links = length-replicate s.frames 0;
    link = λ f. subst (λ x. x < 2 ^ 16) (sym (all-zero s.frames f)) (omega arith);
    live = live-here;
    flags = flags-here;
  }
    where
      all-zero : (n f : ℕ) → get_or {A = ℕ} (replicate n 0) f 0 ≡ 0
      all-zero zero f = refl
      all-zero (suc n) zero = refl
      all-zero (suc n) (suc f) = all-zero n f

  -- every word was read, and nothing is noted as freed
  pub keeps : KeepsWords s b system t
  keeps = record { memory = memories; gone = r.gone ∙ ap (λ n. replicate n None) (sym r.object_count) }

  -- what was read is what the machine closes into
  pub closes : Closes s b system t d
  closes = subst (λ z. Closes s b system z d) (sym lists-made) (subst (λ z. Closes s b system lists z) (sym ids-made) closing)
