-- A machine rests in changed lists: what is to be shown where slabs, node lists, partial lists and locks stay as they were.
use Rattle.std.proofs.Common.{false, ◌≡◌, ℕ, ◌<◌, ◌≤◌, Bool, cond, List, [], length, get_or, Option, Some, None, refl, ap, sym, ◌∙◌, subst, true}
use Rattle.std.specs.Prelude.{nat_lt, is_some, All}
use Rattle.std.specs.Option.{option_map}
use Rattle.slub_words.specs.declared.cpu.CpuWord.{CpuWord}
use Rattle.slub_words.specs.declared.slab.SlabWord.{SlabWord}
use Rattle.slub_words.specs.declared.board.BoardWord.{BoardWord}
use Rattle.slub_cpu_partial.specs.declared.words.ListWord.{ListWord}
use Rattle.slub_lists.specs.declared.lists.Slab.{Slab}
use Rattle.slub_lists.specs.declared.lists.CpuLists.{CpuLists}
use Rattle.slub_lists.specs.declared.lists.Held.{Held}
use Rattle.slub_lists.specs.State.{State}
use Rattle.slub_lists.specs.Alloc.{cache_of, checked_of, node_of, marked}
use Rattle.slub_common.specs.Times.{times}
use Rattle.slub_lists.specs.Places.{layout_at}
use Rattle.slub_object_layout.specs.Layout.{order_for}
use Rattle.slub_core.specs.Local.{Local}
use Rattle.slub_core.specs.World.{World, objects_in_values, cache_in_values, order_in_values, objects_at, cache_at, order_at}
use Rattle.slub_core.specs.Fresh.{IsWorded}
use Rattle.slub_law_opening.specs.Opening.{Beside, setup_of, plain_caches, cpu_at}
use Rattle.slub_law_opening.specs.Rests.{IsBetween, IsFreelistOf, IsCpuOf, KeepsWord, Rests, slab_at, named, times_named}

-- a slab's word tells the same slab
pub record SameSlab (c d : SlabWord) : Type 0 where
  pub objects : d.objects ≡ c.objects
  pub cache : d.cache ≡ c.cache
  pub frozen : d.frozen ≡ c.frozen
  pub listed : d.listed ≡ c.listed

pub same_word : (c : SlabWord) → SameSlab c c
same_word c = record { objects = refl; cache = refl; frozen = refl; listed = refl }

-- the slab at a frame, by what its word says
abbrev pub slab_by : World → ℕ → ℕ → ℕ → Bool → Option Slab
slab_by w f o k z =
    let n = cond (nat_lt 0 o) o (objects_in_values w.value w.setup.locks f) in
    cond (nat_lt 0 n)
    (Some (record {
      cache = cond (nat_lt 0 o) k (cache_in_values w.value w.setup.locks f);
      order = cond (nat_lt 0 o) (order_for (w.setup.layout k) o) (order_in_values w.value w.setup.locks f);
      objects = n;
      frozen = z;
    })) None

module _ (s : State) (b : Beside) (w : World) (ls : List Local) (frees : List (List ℕ)) (cpu_lists : List CpuLists) (memory : List ℕ) (board gone : List (Option Held)) (live tids : List ℕ)
    (cpu : ℕ → CpuWord) (slab : ℕ → SlabWord) (bytes : ℕ → ℕ) (ends : List Local) where
  abbrev pub t : State
  t = record s { frees = frees; cpu_lists = cpu_lists; memory = memory; board = board; gone = gone; live = live }

  abbrev pub d : Beside
  d = record b { tids = tids }

  abbrev pub v : World
  v = record w { cpu = cpu; slab = slab; memory = bytes }

  pub setup_same : length board ≡ length s.board → setup_of t d ≡ setup_of s b
  setup_same e = λ i. record {
    frames = s.frames;
    cpus = s.cpus;
    step = b.step;
    objects = e i;
    locks = 33;
    cpu_words = 512;
    plain = plain_caches s;
    lives = λ cache. is_some (cache_of s cache);
    layout = layout_at s;
    checks = λ cache. is_some (checked_of s cache);
    means = b.means;
  }

  slab_same : (f : ℕ) → SameSlab (w.slab f) (slab f) → slab_at v f ≡ slab_at w f
  slab_same f is =
      ap (λ o. slab_by w f o (slab f).cache (slab f).frozen) is.objects
      ∙ ap (λ k. slab_by w f (w.slab f).objects k (slab f).frozen) is.cache
      ∙ ap (slab_by w f (w.slab f).objects (w.slab f).cache) is.frozen

  pub rests_changed : Rests s b w ls → length board ≡ length s.board → IsWorded v → All (IsBetween w.setup) ends → ((n : ℕ) → n < 512 → IsCpuOf d v n (cpu_at t n)) → ((f : ℕ) → SameSlab (w.slab f) (slab f))
      → ((f : ℕ) → IsFreelistOf v f (get_or frees f [])) → ((o : ℕ) → get_or board o None ≡ named v ends o) → ((o : ℕ) → times_named v ends o ≤ 1)
      → ((o word : ℕ) (held : Held) → get_or board o None ≡ Some held → KeepsWord t v held word) → Rests t d v ends
  rests_changed rests long words workers cpus slabs own names once contents = record {
    setup = rests.setup ∙ sym (setup_same long);
    words = words;
    workers = workers;
    locks = rests.locks;
    values = rests.values;
    nodes = rests.nodes;
    cpu = cpus;
    slab = λ f. rests.slab f ∙ sym (slab_same f (slabs f));
    unchecked = λ f some. ap (checked_of s) (slabs f).cache ∙ rests.unchecked f (subst (λ n. 1 ≤ n) (slabs f).objects some);
    unslabbed = λ f none. (slabs f).frozen ∙ rests.unslabbed f (sym (slabs f).objects ∙ none);
    own = own;
    listed = λ f. (slabs f).listed ∙ rests.listed f ∙ ap (marks f) (sym (slabs f).cache);
    named = names;
    once = once;
    no_zero = rests.no_zero;
    contents = contents;
  }
    where
      marks : ℕ → ℕ → Bool
      marks f k = nat_lt 0 (times f (node_of s k))

-- The same where slabs, partial lists of CPUs and the board change too.
module _ (s : State) (b : Beside) (w : World) (ls : List Local) (slabs : List (Option Slab)) (frees : List (List ℕ)) (cpu_lists : List CpuLists) (memory : List ℕ) (board gone : List (Option Held)) (live tids : List ℕ)
    (cpu : ℕ → CpuWord) (list : ℕ → ListWord) (slab : ℕ → SlabWord) (link : ℕ → ℕ) (boards : ℕ → Option BoardWord) (bytes : ℕ → ℕ) (ends : List Local) where
  abbrev pub t2 : State
  t2 = record s { slabs = slabs; frees = frees; cpu_lists = cpu_lists; memory = memory; board = board; gone = gone; live = live }

  abbrev pub d2 : Beside
  d2 = record b { tids = tids }

  abbrev pub v2 : World
  v2 = record w { cpu = cpu; list = list; slab = slab; link = link; board = boards; memory = bytes }

  pub rests_relisted : Rests s b w ls → length board ≡ length s.board → IsWorded v2 → All (IsBetween w.setup) ends → ((n : ℕ) → n < 512 → IsCpuOf d2 v2 n (cpu_at t2 n)) → ((f : ℕ) → get_or slabs f None ≡ slab_at v2 f)
      → ((f : ℕ) → 1 ≤ (slab f).objects → checked_of s (slab f).cache ≡ None) → ((f : ℕ) → (slab f).objects ≡ 0 → (slab f).frozen ≡ false) → ((f : ℕ) → (slab f).listed ≡ nat_lt 0 (times f (node_of s (slab f).cache)))
      → ((f : ℕ) → IsFreelistOf v2 f (get_or frees f [])) → ((o : ℕ) → get_or board o None ≡ named v2 ends o) → ((o : ℕ) → times_named v2 ends o ≤ 1)
      → ((o word : ℕ) (held : Held) → get_or board o None ≡ Some held → KeepsWord t2 v2 held word) → boards 0 ≡ None → Rests t2 d2 v2 ends
  rests_relisted rests long words workers cpus slab_is unchecked unslabbed listed own names once contents no_zero = record {
    setup = rests.setup ∙ sym (setup_same s b w ls frees cpu_lists memory board gone live tids cpu slab bytes ends long);
    words = words;
    workers = workers;
    locks = rests.locks;
    values = rests.values;
    nodes = rests.nodes;
    cpu = cpus;
    slab = slab_is;
    unchecked = unchecked;
    unslabbed = unslabbed;
    own = own;
    listed = listed;
    named = names;
    once = once;
    no_zero = no_zero;
    contents = contents;
  }

-- a slab that is frozen is the same slab, frozen
pub slab_frozen : (w u : World) (f : ℕ) → u.setup ≡ w.setup → u.value ≡ w.value → (u.slab f).objects ≡ (w.slab f).objects → (u.slab f).cache ≡ (w.slab f).cache → (u.slab f).frozen ≡ true → slab_at u f ≡ option_map (marked true) (slab_at w f)
slab_frozen w u f setup value objects cache frozen =
    ap (λ o. slab_by u f o (u.slab f).cache (u.slab f).frozen) objects ∙ ap (λ k. slab_by u f (w.slab f).objects k (u.slab f).frozen) cache ∙ ap (slab_by u f (w.slab f).objects (w.slab f).cache) frozen
    ∙ ap (λ m. slab_by (record u { setup = m }) f (w.slab f).objects (w.slab f).cache true) setup ∙ ap (λ values. slab_by (record u { setup = w.setup; value = values }) f (w.slab f).objects (w.slab f).cache true) value
    ∙ by (nat_lt 0 (objects_at w f))
  where
    at_it : Bool → Slab
    at_it z = record { cache = cache_at w f; order = order_at w f; objects = objects_at w f; frozen = z }

    by : (z : Bool) → cond {A = Option Slab} z (Some (at_it true)) None ≡ option_map (marked true) (cond z (Some (at_it (w.slab f).frozen)) None)
    by true = refl
    by false = refl

-- and any other as it was
pub slab_as_it_was : (w u : World) (f : ℕ) → u.setup ≡ w.setup → u.value ≡ w.value → u.slab f ≡ w.slab f → slab_at u f ≡ slab_at w f
slab_as_it_was w u f setup value same =
    ap (λ (c : SlabWord). slab_by u f c.objects c.cache c.frozen) same
    ∙ ap (λ m. slab_by (record u { setup = m }) f (w.slab f).objects (w.slab f).cache (w.slab f).frozen) setup ∙ ap (λ values. slab_by (record u { setup = w.setup; value = values }) f (w.slab f).objects (w.slab f).cache (w.slab f).frozen) value

pub slab_kept : (w u : World) (f : ℕ) → u.setup ≡ w.setup → u.value ≡ w.value → SameSlab (w.slab f) (u.slab f) → slab_at u f ≡ slab_at w f
slab_kept w u f setup value same =
    ap (λ o. slab_by u f o (u.slab f).cache (u.slab f).frozen) same.objects ∙ ap (λ k. slab_by u f (w.slab f).objects k (u.slab f).frozen) same.cache ∙ ap (slab_by u f (w.slab f).objects (w.slab f).cache) same.frozen
    ∙ ap (λ m. slab_by (record u { setup = m }) f (w.slab f).objects (w.slab f).cache (w.slab f).frozen) setup ∙ ap (λ values. slab_by (record u { setup = w.setup; value = values }) f (w.slab f).objects (w.slab f).cache (w.slab f).frozen) value
