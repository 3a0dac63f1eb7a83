-- The free pointers of a new slab are stored, one in each turn.
use Rattle.std.proofs.Common.{◌≡◌, ℕ, zero, suc, ◌+◌, ◌*◌, ◌<◌, ◌≤◌, List, length, get_or, set, Some, refl, ap, sym, ◌∙◌, subst, arith}
use Rattle.std.specs.Prelude.{nat_lt}
use Rattle.std.specs.List.{range_with_len}
use Rattle.std.proofs.lemmas.Bool.{lt-ltb, le-ltb, cond-true, cond-false}
use Rattle.std.proofs.lemmas.List.{get_or-set_other, length-set}
use Rattle.slub_core.specs.declared.local.FrameRun.{FrameRun}
use Rattle.slub_core.specs.declared.spot.Spot.{Spot}
use Rattle.slub_core.specs.declared.spot.Spot.TheVariants.{InAlloc}
use Rattle.slub_core.specs.declared.spot.AllocSpot.TheVariants.{LinkNew, Make}
use Rattle.slub_core.specs.declared.step.Answer.TheVariants.{Done}
use Rattle.slub_core.specs.declared.step.Op.TheVariants.{Store}
use Rattle.slub_core.specs.declared.step.Place.TheVariants.{MemoryOf}
use Rattle.slub_core.specs.Setup.{Setup, pointer_at, hardened}
use Rattle.slub_core.specs.Words.{memory_base}
use Rattle.slub_core.specs.World.{World, LockValue, update, set_memory, world_of, IsChain}
use Rattle.slub_core.specs.Local.{Local, at, goes}
use Rattle.slub_core.specs.Fresh.{rising_next}
use Rattle.slub_core.specs.Run.{System, turn}
use Rattle.slub_core.proofs.Update.{update_other}
use Rattle.slub_core.proofs.StepWords.{IsTable, world_of-memory}
use Rattle.slub_law_alone.specs.Alone.{AreWhole, own_pick, alone}
use Rattle.slub_law_alone.proofs.Bits.{whole_memory}
use Rattle.slub_law_alone.proofs.Turns.{machine, turn_goes, settle_goes, then_turn}

-- ---- several turns, and then several more

pub alone_then : (m : Setup) (x i j n : ℕ) (s t r : System) → n ≡ i + j → alone m x i s ≡ t → alone m x j t ≡ r → alone m x n s ≡ r
alone_then m x zero j n s t r sum first rest = subst (λ n. alone m x n s ≡ r) (let e : j ≡ n = omega (arith, sum) in e) (ap (alone m x j) first ∙ rest)
alone_then m x (suc i) j zero s t r sum first rest = absurd (omega (arith, sum))
alone_then m x (suc i) j (suc n) s t r sum first rest = alone_then m x i j n (turn m s (own_pick x)) t r (omega (arith, sum)) first rest

-- ---- the words after n free pointers from i on

abbrev pub link_value : Setup → ℕ → ℕ → ℕ → ℕ → ℕ
link_value m k f objects i = hardened k (pointer_at m k f i) (rising_next objects i)

abbrev pub filled : Setup → ℕ → ℕ → ℕ → ℕ → ℕ → List ℕ → List ℕ
filled m k f objects i zero words = words
filled m k f objects i (suc n) words = filled m k f objects (i + 1) n (set words (memory_base m + pointer_at m k f i) (link_value m k f objects i))

-- memory after them
abbrev pub fill : Setup → ℕ → ℕ → ℕ → ℕ → ℕ → (ℕ → ℕ) → ℕ → ℕ
fill m k f objects i zero memory = memory
fill m k f objects i (suc n) memory = fill m k f objects (i + 1) n (update memory (pointer_at m k f i) (link_value m k f objects i))

pub fill_other : (m : Setup) (k f objects i n : ℕ) (memory : ℕ → ℕ) (p : ℕ) → ((j : ℕ) → i ≤ j → j < i + n → p ≡ pointer_at m k f j → ⊥) → fill m k f objects i n memory p ≡ memory p
fill_other m k f objects i zero memory p away = refl
fill_other m k f objects i (suc n) memory p away =
    fill_other m k f objects (i + 1) n (update memory (pointer_at m k f i) (link_value m k f objects i)) p (λ j le lt. away j (omega (arith, le)) (omega (arith, lt)))
    ∙ update_other memory (pointer_at m k f i) (link_value m k f objects i) p (away i (omega arith) (omega arith))

pub filled_other : (m : Setup) (k f objects i n : ℕ) (words : List ℕ) (q : ℕ) → q < memory_base m → get_or (filled m k f objects i n words) q 0 ≡ get_or words q 0
filled_other m k f objects i zero words q below = refl
filled_other m k f objects i (suc n) words q below =
    filled_other m k f objects (i + 1) n (set words (memory_base m + pointer_at m k f i) (link_value m k f objects i)) q below
    ∙ get_or-set_other words (memory_base m + pointer_at m k f i) q (link_value m k f objects i) 0 (λ e. absurd (omega (arith, e, below)))

pub filled_table : (m : Setup) (k f objects i n : ℕ) (words : List ℕ) → IsTable m words → IsTable m (filled m k f objects i n words)
filled_table m k f objects i zero words table = table
filled_table m k f objects i (suc n) words table = filled_table m k f objects (i + 1) n (set words (memory_base m + pointer_at m k f i) (link_value m k f objects i)) (record {
  length = length-set words (memory_base m + pointer_at m k f i) (link_value m k f objects i) ∙ table.length;
  locks = table.locks;
  cpu_words = table.cpu_words;
  frames = table.frames;
  objects = table.objects;
})

pub filled_whole : (m : Setup) (k f objects i n : ℕ) (words : List ℕ) → m.cpu_words ≡ 512 → 1 ≤ m.objects → AreWhole m words → AreWhole m (filled m k f objects i n words)
filled_whole m k f objects i zero words few some whole = whole
filled_whole m k f objects i (suc n) words few some whole =
    filled_whole m k f objects (i + 1) n (set words (memory_base m + pointer_at m k f i) (link_value m k f objects i)) few some (whole_memory m words (pointer_at m k f i) (link_value m k f objects i) few some whole)

pub with_memory : World → (ℕ → ℕ) → World
with_memory w memory = record w { memory = memory }

pub filled_world : (m : Setup) (value : ℕ → LockValue) (k f objects i n : ℕ) (words : List ℕ) (w : World) → IsTable m words → ((j : ℕ) → i ≤ j → j < i + n → pointer_at m k f j < 512 * m.frames) → world_of m value words ≡ w
    → world_of m value (filled m k f objects i n words) ≡ record w { memory = fill m k f objects i n w.memory }
filled_world m value k f objects i zero words w table inside is = is
filled_world m value k f objects i (suc n) words w table inside is =
    filled_world m value k f objects (i + 1) n (set words (memory_base m + pointer_at m k f i) (link_value m k f objects i)) (set_memory w (pointer_at m k f i) (link_value m k f objects i))
    (filled_table m k f objects i 1 words table) (λ j le lt. inside j (omega (arith, le)) (omega (arith, lt)))
    (world_of-memory m value words (pointer_at m k f i) (link_value m k f objects i) table (inside i (omega arith) (omega arith)) ∙ ap (λ w. set_memory w (pointer_at m k f i) (link_value m k f objects i)) is)

-- ---- the turns

pub fill_turns : (m : Setup) (value : ℕ → LockValue) (ls : List Local) (x : ℕ) (l : Local) (run : FrameRun) (n i : ℕ) (words : List ℕ) → x < length ls → i + suc n ≡ run.objects
    → alone m x (suc n) (machine words value (set ls x (record l { run = Some run; spot = InAlloc (LinkNew i) }))) ≡ machine (filled m l.cache run.frame run.objects i (suc n) words) value (set ls x (record l { run = Some run; spot = InAlloc Make }))
fill_turns m value ls x l run zero i words below sum =
    let links : Local = record l { run = Some run; spot = InAlloc (LinkNew i) } in
    let makes : Local = record l { run = Some run; spot = InAlloc Make } in
    let p = pointer_at m l.cache run.frame i in
    let stored = set words (memory_base m + p) (link_value m l.cache run.frame run.objects i) in
    then_turn m x 0 (machine words value (set ls x links)) (machine stored value (set ls x makes)) (machine stored value (set ls x makes))
    (turn_goes m words stored value ls x links links makes (record { place = MemoryOf p; op = Store (link_value m l.cache run.frame run.objects i) }) Done below refl refl refl refl
    (settle_goes m value links makes Done (ap (λ spot. goes (at links spot)) (cond-false {A = Spot} (nat_lt (i + 1) run.objects) (InAlloc (LinkNew (i + 1))) (InAlloc Make) (le-ltb (i + 1) run.objects (omega (arith, sum))))) refl refl)) refl
fill_turns m value ls x l run (suc n) i words below sum =
    let links : Local = record l { run = Some run; spot = InAlloc (LinkNew i) } in
    let more : Local = record l { run = Some run; spot = InAlloc (LinkNew (i + 1)) } in
    let makes : Local = record l { run = Some run; spot = InAlloc Make } in
    let p = pointer_at m l.cache run.frame i in
    let stored = set words (memory_base m + p) (link_value m l.cache run.frame run.objects i) in
    then_turn m x (suc n) (machine words value (set ls x links)) (machine stored value (set ls x more)) (machine (filled m l.cache run.frame run.objects i (suc (suc n)) words) value (set ls x makes))
    (turn_goes m words stored value ls x links links more (record { place = MemoryOf p; op = Store (link_value m l.cache run.frame run.objects i) }) Done below refl refl refl refl
    (settle_goes m value links more Done (ap (λ spot. goes (at links spot)) (cond-true {A = Spot} (nat_lt (i + 1) run.objects) (InAlloc (LinkNew (i + 1))) (InAlloc Make) (lt-ltb (i + 1) run.objects (omega (arith, sum))))) refl refl))
    (fill_turns m value ls x l run n (i + 1) stored below (omega (arith, sum)))

-- ---- the chain that they make

pub rising_chain : (next : ℕ → ℕ) (objects n i : ℕ) → i + suc n ≡ objects → ((j : ℕ) → j < objects → next j ≡ rising_next objects j) → IsChain next (i + 1) (range_with_len i (suc n))
rising_chain next objects zero i sum is = (omega arith, is i (omega (arith, sum)) ∙ cond-false (nat_lt (i + 1) objects) (i + 2) 0 (le-ltb (i + 1) objects (omega (arith, sum))))
rising_chain next objects (suc n) i sum is = (
  omega arith,
  subst (λ z. IsChain next z (range_with_len (i + 1) (suc n))) (sym (is i (omega (arith, sum)) ∙ cond-true (nat_lt (i + 1) objects) (i + 2) 0 (lt-ltb (i + 1) objects (omega (arith, sum))) ∙ (let z : i + 2 ≡ i + 1 + 1 = omega arith in z)))
      (rising_chain next objects n (i + 1) (omega (arith, sum)) is),
)
