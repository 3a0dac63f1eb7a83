-- The words of the whole machine, of its classes.
use Rattle.std.proofs.Common.{◌≡◌, ℕ, zero, suc, ◌+◌, ◌-◌, ◌*◌, ◌/◌, ◌<◌, ◌++◌, List, Option, None, length, map, get_or, refl, ap, sym, ◌∙◌, subst, arith, append_assoc, length-append, []}
use Rattle.std.specs.Prelude.{All}
use Rattle.std.specs.List.{range_with_len}
use Rattle.std.proofs.lemmas.List.FromFn.{length-map-range_with_len}
use Rattle.slub_words.specs.Words.{cpu_bits, slab_bits}
use Rattle.slub_cpu_partial.specs.Strings.{list_bits}
use Rattle.slub_lists.specs.declared.lists.Slab.{Slab}
use Rattle.slub_lists.specs.declared.lists.CpuLists.{CpuLists}
use Rattle.slub_lists.specs.State.{State}
use Rattle.slub_lists.specs.Alloc.{slab_of, own_free}
use Rattle.slub_lists.specs.Coherent.{IsConsistent}
use Rattle.slub_lists.specs.Places.{pointer_at}
use Rattle.slub_lists.proofs.Places.{pointer-inside}
use Rattle.slub_core.specs.Setup.{Means}
use Rattle.slub_core.specs.World.{World}
use Rattle.slub_core.specs.declared.cache.CacheFacts.{CacheFacts}
use Rattle.slub_core.specs.Facts.{Facts, pointer_in}
use Rattle.slub_law_opening.specs.Opening.{Row, lay_each, cpu_at, frame_of, cache_in, own_row, cpu_row, opened_words, value_of}
use Rattle.slub_law_opening.specs.Table.{board_number, words_of}
use Rattle.slub_law_opening.proofs.Rows.{own-pointer, cpu-pointer}
use Rattle.slub_open_close.specs.declared.beside.Beside.{Beside}
use Rattle.slub_open_close.specs.Beside.{beside_of}
use Rattle.slub_open_close.specs.Classes.{no_lock, front_words, lock_words, list_number, list_words, cpu_number, cpu_words, slab_number, slab_words, object_number, board_words}
use Rattle.slub_open_close.specs.Facts.{facts_of}
use Rattle.slub_open_close.specs.Laying.{read, IsLayable, own_in, cpu_in, cpu_free_in, string_in}
use Rattle.slub_open_close.specs.declared.opened.Rest.{Rest}
use Rattle.slub_open_close.specs.Opened.{room_of}
use Rattle.slub_open_close.specs.Rest.{IsRestOf}
use Rattle.slub_open_close.proofs.Small.{all-of, own-small, cpu-small, string-inside}
use Rattle.slub_open_close.proofs.Laid.{same-functions, list-read}
use Rattle.slub_open_close.proofs.Setups.{facts-at, row-same}

-- ---- what is laid is that of the machine

pub own-layable : (s : State) (step f : ℕ) → IsConsistent s → IsLayable (facts_of s step) (length s.memory) (cache_in (slab_of s f)) f (own_free s f)
own-layable s step f consistent =
    all-of (λ x. (x < 512) × (pointer_in (facts_of s step) (cache_in (slab_of s f)) f x < length s.memory)) (own_free s f) (λ x some.
    let p = own-pointer s f x consistent some in
    let same : pointer_in (facts_of s step) (cache_in (slab_of s f)) f x ≡ (own_row s f).place x = ap (λ (c : CacheFacts). pointer_at c.layout f x) (facts-at s consistent step (cache_in (slab_of s f))) in
    (own-small s f x consistent some, omega (arith, same, p.place, pointer-inside s f x p.slab consistent p.is p.inside)))

pub cpu-layable : (s : State) (step n : ℕ) → IsConsistent s → IsLayable (facts_of s step) (length s.memory) (n / 16) (frame_of (cpu_at s n).current) (cpu_at s n).free
cpu-layable s step n consistent =
    let f = frame_of (cpu_at s n).current in
    all-of (λ x. (x < 512) × (pointer_in (facts_of s step) (n / 16) (frame_of (cpu_at s n).current) x < length s.memory)) (cpu_at s n).free (λ x some.
    let p = cpu-pointer s n x consistent some in
    let same : pointer_in (facts_of s step) (n / 16) (frame_of (cpu_at s n).current) x ≡ (cpu_row s n).place x = ap (λ (c : CacheFacts). pointer_at c.layout (frame_of (cpu_at s n).current) x) (facts-at s consistent step (n / 16)) in
    (cpu-small s n x consistent some, omega (arith, same, p.at.place, pointer-inside s p.frame x p.at.slab consistent p.at.is p.at.inside)))

pub string-layable : (s : State) (n : ℕ) → IsConsistent s → All (λ f. f < s.frames) (cpu_at s n).partial
string-layable s n consistent = all-of (λ f. f < s.frames) (cpu_at s n).partial (λ f some. string-inside s n f consistent some)

-- under other names
pub own-layable-as : (s : State) (facts : Facts) (step : ℕ) (slabs : List (Option Slab)) (frees : List (List ℕ)) (m : List ℕ) (f : ℕ) → IsConsistent s → facts ≡ facts_of s step → slabs ≡ s.slabs → frees ≡ s.frees → m ≡ s.memory
    → IsLayable facts (length m) (cache_in (get_or slabs f None)) f (get_or frees f [])
own-layable-as s facts step slabs frees m f consistent ef es er em =
    subst (λ (z : Facts). IsLayable z (length m) (cache_in (get_or slabs f None)) f (get_or frees f [])) (sym ef)
    (subst (λ (z : List ℕ). IsLayable (facts_of s step) (length z) (cache_in (get_or slabs f None)) f (get_or frees f [])) (sym em)
    (subst (λ (z : List (Option Slab)). IsLayable (facts_of s step) (length s.memory) (cache_in (get_or z f None)) f (get_or frees f [])) (sym es)
    (subst (λ (z : List (List ℕ)). IsLayable (facts_of s step) (length s.memory) (cache_in (slab_of s f)) f (get_or z f [])) (sym er) (own-layable s step f consistent))))

pub cpu-layable-as : (s : State) (facts : Facts) (step : ℕ) (lists : List CpuLists) (m n : ℕ) → IsConsistent s → facts ≡ facts_of s step → lists ≡ s.cpu_lists → m ≡ length s.memory
    → IsLayable facts m (n / 16) (frame_of (cpu_in s.cpus lists n).current) (cpu_in s.cpus lists n).free
cpu-layable-as s facts step lists m n consistent ef el em =
    subst (λ (z : Facts). IsLayable z m (n / 16) (frame_of (cpu_in s.cpus lists n).current) (cpu_in s.cpus lists n).free) (sym ef)
    (subst (λ z. IsLayable (facts_of s step) z (n / 16) (frame_of (cpu_in s.cpus lists n).current) (cpu_in s.cpus lists n).free) (sym em)
    (subst (λ (z : List CpuLists). IsLayable (facts_of s step) (length s.memory) (n / 16) (frame_of (cpu_in s.cpus z n).current) (cpu_in s.cpus z n).free) (sym el) (cpu-layable s step n consistent)))

pub string-layable-as : (s : State) (lists : List CpuLists) (m n : ℕ) → IsConsistent s → lists ≡ s.cpu_lists → m ≡ s.frames → All (λ f. f < m) (cpu_in s.cpus lists n).partial
string-layable-as s lists m n consistent el em =
    subst (λ z. All (λ f. f < z) (cpu_in s.cpus lists n).partial) (sym em)
    (subst (λ (z : List CpuLists). All (λ f. f < s.frames) (cpu_in s.cpus z n).partial) (sym el) (string-layable s n consistent))

pub own-rows : (s : State) (step : ℕ) → IsConsistent s → own_in (facts_of s step) s.slabs s.frees ≡ own_row s
own-rows s step consistent = λ i f. row-same s consistent step (cache_in (slab_of s f)) f (own_free s f) i

pub cpu-rows : (s : State) (step : ℕ) → IsConsistent s → cpu_free_in (facts_of s step) s.cpus s.cpu_lists ≡ cpu_row s
cpu-rows s step consistent = λ i n. row-same s consistent step (n / 16) (frame_of (cpu_at s n).current) (cpu_at s n).free i

pub memory-laid : (s : State) (facts : Facts) (step : ℕ) (slabs : List (Option Slab)) (frees : List (List ℕ)) (lists : List CpuLists) (m0 m1 m m2 : List ℕ) → IsConsistent s → facts ≡ facts_of s step
    → slabs ≡ s.slabs → frees ≡ s.frees → lists ≡ s.cpu_lists → m0 ≡ s.memory → read m1 ≡ lay_each (own_in facts slabs frees) (length slabs) (read m0) → m ≡ m1 → read m2 ≡ lay_each (cpu_free_in facts s.cpus lists) 512 (read m)
    → read m2 ≡ lay_each (cpu_row s) 512 (lay_each (own_row s) s.frames (read s.memory))
memory-laid s facts step slabs frees lists m0 m1 m m2 consistent of es ef el e0 first e second =
    second
    ∙ (λ i. lay_each (cpu_free_in (of i) s.cpus (el i)) 512 (read (e i)))
    ∙ ap (λ (rows : ℕ → Row). lay_each rows 512 (read m1)) (cpu-rows s step consistent)
    ∙ ap (λ (w : ℕ → ℕ). lay_each (cpu_row s) 512 w)
    (first ∙ (λ i. lay_each (own_in (of i) (es i) (ef i)) (length (es i)) (read (e0 i))) ∙ (λ i. lay_each (own-rows s step consistent i) (consistent.shaped.slabs i) (read s.memory)))

-- ---- the words

seven : (a b c d e f g : List ℕ) → (((((a ++ b) ++ c) ++ d) ++ e) ++ f) ++ g ≡ a ++ (b ++ (c ++ (d ++ (e ++ (f ++ g)))))
seven a b c d e f g = simp append_assoc

classes : (w : World) (a b c d e f g : List ℕ)
    → a ≡ map w.lock (range_with_len 0 w.setup.locks)
    → b ≡ map (λ n. list_bits (w.list n)) (range_with_len 0 w.setup.cpu_words)
    → c ≡ map (λ n. cpu_bits (w.cpu n)) (range_with_len 0 w.setup.cpu_words)
    → d ≡ map (λ f. slab_bits (w.slab f)) (range_with_len 0 w.setup.frames)
    → e ≡ map (λ o. board_number (w.board o)) (range_with_len 1 (w.setup.objects - 1))
    → f ≡ map w.memory (range_with_len 0 (512 * w.setup.frames))
    → g ≡ map w.link (range_with_len 0 w.setup.frames)
    → (((((a ++ b) ++ c) ++ d) ++ e) ++ f) ++ g ≡ words_of w
classes w a b c d e f g ea eb ec ed ee ef eg = seven a b c d e f g ∙ (λ i. ea i ++ (eb i ++ (ec i ++ (ed i ++ (ee i ++ (ef i ++ eg i))))))

pub words-whole : (s : State) (b : Beside) (means : Means) (memory links : List ℕ) → IsConsistent s
    → length memory ≡ 512 * s.frames → read memory ≡ (opened_words s (beside_of b means)).memory
    → length links ≡ s.frames → read links ≡ (opened_words s (beside_of b means)).link
    → (front_words s b.tids.items ++ memory) ++ links ≡ words_of (opened_words s (beside_of b means))
words-whole s b means memory links consistent memory_count memory_is links_count links_are =
    classes (opened_words s (beside_of b means)) lock_words (list_words s) (cpu_words s b.tids.items) (slab_words s) (board_words s) memory links
    refl refl refl refl refl
    (list-read memory (512 * s.frames) memory_count ∙ ap (λ (m : ℕ → ℕ). map m (range_with_len 0 (512 * s.frames))) memory_is)
    (list-read links s.frames links_count ∙ ap (λ (m : ℕ → ℕ). map m (range_with_len 0 s.frames)) links_are)

-- ---- how many there are

lock-count : length lock_words ≡ 33
lock-count = length-map-range_with_len no_lock 0 33

list-count : (s : State) → length (list_words s) ≡ 512
list-count s = length-map-range_with_len (list_number s) 0 512

cpu-count : (s : State) (tids : List ℕ) → length (cpu_words s tids) ≡ 512
cpu-count s tids = length-map-range_with_len (λ n. cpu_number (get_or tids n 0) (cpu_at s n)) 0 512

slab-count : (s : State) → length (slab_words s) ≡ s.frames
slab-count s = length-map-range_with_len (slab_number s) 0 s.frames

board-count : (s : State) → length (board_words s) ≡ length s.board - 1
board-count s = length-map-range_with_len (object_number s) 1 (length s.board - 1)

-- the lengths of the words, class by class
pub record AreCounted (s : State) (a b c d e : List ℕ) : Type 0 where
  pub locks : length a ≡ 33
  pub lists : length b ≡ 545
  pub cpus : length c ≡ 1057
  pub slabs : length d ≡ 1057 + s.frames
  pub board : length e ≡ 1057 + s.frames + (length s.board - 1)

appended : (old new more : List ℕ) (n : ℕ) → new ≡ old ++ more → length more ≡ n → length new ≡ length old + n
appended old new more n is count = ap length is ∙ length-append old more ∙ ap (λ k. length old + k) count

pub counted : (s : State) (tids old a b c d e : List ℕ) → old ≡ [] → a ≡ old ++ lock_words → b ≡ a ++ list_words s → c ≡ b ++ cpu_words s tids → d ≡ c ++ slab_words s → e ≡ d ++ board_words s → AreCounted s a b c d e × (e ≡ front_words s tids)
counted s tids old a b c d e none ea eb ec ed ee =
    let start : a ≡ lock_words = ea ∙ ap (λ (l : List ℕ). l ++ lock_words) none in
    let la : length a ≡ 33 = ap length start ∙ lock-count in
    let lb = appended a b (list_words s) 512 eb (list-count s) in
    let lc = appended b c (cpu_words s tids) 512 ec (cpu-count s tids) in
    let ld = appended c d (slab_words s) s.frames ed (slab-count s) in
    let le = appended d e (board_words s) (length s.board - 1) ee (board-count s) in (
      record { locks = la; lists = omega (arith, la, lb); cpus = omega (arith, la, lb, lc); slabs = omega (arith, la, lb, lc, ld); board = omega (arith, la, lb, lc, ld, le) },
      ee ∙ ap (λ (l : List ℕ). l ++ board_words s) (ed ∙ ap (λ (l : List ℕ). l ++ slab_words s) (ec ∙ ap (λ (l : List ℕ). l ++ cpu_words s tids) (eb ∙ ap (λ (l : List ℕ). l ++ list_words s) start))),
    )

pub front-count : (s : State) (tids : List ℕ) → length (front_words s tids) ≡ 1057 + s.frames + (length s.board - 1)
front-count s tids = (counted s tids [] lock_words (lock_words ++ list_words s) ((lock_words ++ list_words s) ++ cpu_words s tids) (((lock_words ++ list_words s) ++ cpu_words s tids) ++ slab_words s) (front_words s tids) refl refl refl refl refl refl).0.board

-- ---- what waits

pub rest-of : (s : State) (memory : List ℕ) (rest : Rest) → IsRestOf (record s { memory = memory }) rest → IsRestOf s rest
rest-of s memory rest r = record {
  frames = r.frames;
  cpus = r.cpus;
  table = r.table;
  slabs = r.slabs;
  frees = r.frees;
  cpu_lists = r.cpu_lists;
  board = r.board;
  gone = r.gone;
  live = r.live;
  tids = r.tids;
  links = r.links;
  nodes = r.nodes;
  checked = r.checked;
  taken = r.taken;
  kept = r.kept;
  kept_node = r.kept_node;
}

pub links-laid : (s : State) (lists : List CpuLists) (l0 l1 : List ℕ) (links : List ℕ) → lists ≡ s.cpu_lists → l0 ≡ links → read l1 ≡ lay_each (string_in s.cpus lists) 512 (read l0) → read l1 ≡ lay_each (string_in s.cpus s.cpu_lists) 512 (read links)
links-laid s lists l0 l1 links el e0 laid = laid ∙ (λ i. lay_each (string_in s.cpus (el i)) 512 (read (e0 i)))

pub values-same : (s : State) (memory : List ℕ) → value_of (record s { memory = memory }) ≡ value_of s
values-same s memory = same-functions at
  where
    at : (n : ℕ) → value_of (record s { memory = memory }) n ≡ value_of s n
    at zero = refl
    at (suc k) = refl

pub rooms-same : (s : State) (memory : List ℕ) → room_of (record s { memory = memory }) ≡ room_of s
rooms-same s memory = same-functions at
  where
    at : (n : ℕ) → room_of (record s { memory = memory }) n ≡ room_of s n
    at zero = refl
    at (suc k) = refl
