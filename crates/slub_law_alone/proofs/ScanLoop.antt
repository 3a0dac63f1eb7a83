-- A worker that goes along a node list at the end of a trim, from a slab on, does to the lists what the operation does: slabs of which nothing is in use go.
use Rattle.std.proofs.Common.{◌≡◌, ℕ, zero, suc, ◌+◌, ◌-◌, ◌<◌, ◌≤◌, eqb, cond, true, false, List, [], ◌∷◌, ◌++◌, length, map, fold, filter, get_or, set, Some, None, inl, inr, refl, ap, sym, ◌∙◌, subst, arith, length-append, append-nil, append_assoc}
use Rattle.std.specs.Prelude.{is_some, nat_lt, not, slice_index}
use Rattle.std.specs.Option.{option_map_or}
use Rattle.std.proofs.lemmas.Bool.{cases_Bool, cases_eq, eq-eqb, ne_eqb, eqb-false}
use Rattle.std.proofs.lemmas.List.{get_or-set_same, get_or-set_other, length-map, length-set, map-append}
use Rattle.slub_common.specs.Times.{times}
use Rattle.slub_common.proofs.Times.{times-append, times-cons_other}
use Rattle.slub_words.specs.declared.slab.SlabWord.{SlabWord}
use Rattle.slub_words.specs.Words.{slab_bits}
use Rattle.slub_lists.specs.declared.lists.Slab.{Slab}
use Rattle.slub_lists.specs.State.{State}
use Rattle.slub_lists.specs.Alloc.{cache_of, checked_of, node_of, own_free, with_node}
use Rattle.slub_lists.specs.Free.{discarded, inuse_of, order_of, without_slab}
use Rattle.slub_lists.specs.Leaving.{LeavesSlabs}
use Rattle.slub_lists.specs.Shrink.{slabs_of, swept_slab}
use Rattle.slub_lists.specs.Shrinking.{KeepsChecked}
use Rattle.slub_lists.proofs.Flushing.{rest-both, same-all}
use Rattle.slub_lists.proofs.Leaving.{leaves-both, leaves-discarded, leaves-same}
use Rattle.slub_lists.proofs.Sweeping.{gone-rest}
use Rattle.slub_core.specs.declared.spot.Spot.TheVariants.{InDiscard}
use Rattle.slub_core.specs.declared.spot.Discard.TheVariants.{FromTrim}
use Rattle.slub_core.specs.declared.spot.DiscardSpot.TheVariants.{LockDiscard, GiveDiscard}
use Rattle.slub_core.specs.Setup.{Setup, node_lock, pool_lock}
use Rattle.slub_object_layout.specs.Layout.{order_for}
use Rattle.slub_core.specs.Words.{slab_base, slab_in, no_slab_word}
use Rattle.slub_core.specs.World.{World, LockValue, Node, Pool, update, set_lock, set_slab, world_of, frames_in, one_if, pool_in, size_in}
use Rattle.slub_core.specs.Discard.{with_put}
use Rattle.slub_core.specs.Offline.{without_at}
use Rattle.slub_core.specs.Local.{Local}
use Rattle.slub_core.specs.Run.{System}
use Rattle.slub_core.proofs.Lists.{times-first}
use Rattle.slub_core.proofs.Packed.{IsSlabFit, slab_in-bits}
use Rattle.slub_core.proofs.Update.{update_same, update_other}
use Rattle.slub_core.proofs.StepWords.{IsTable, lock-read, slab-read, setup_of as setup_is, value_of as value_is, world_of-slab, world_of-lock, world_of-value}
use Rattle.slub_law_opening.specs.Opening.{Beside, value_of}
use Rattle.slub_law_opening.specs.Rests.{Rests}
use Rattle.slub_law_alone.specs.Alone.{alone}
use Rattle.slub_law_alone.proofs.Apart.{IsSlabAt, slab_word}
use Rattle.slub_law_alone.proofs.Bits.{whole_lock, whole_slab}
use Rattle.slub_law_alone.proofs.Discarded as gone
use Rattle.slub_law_alone.proofs.InPlace.{update_back}
use Rattle.slub_law_alone.proofs.Movable.{size_kept}
use Rattle.slub_law_alone.proofs.MoveLoop.{none_of}
use Rattle.slub_law_alone.proofs.NodePlaces as placed
use Rattle.slub_law_alone.proofs.PutAway.{update_twice}
use Rattle.slub_law_alone.proofs.ScanLists.{IsScanned, AreScanned, all_stay, at_seam, counts_stay, filter_seam, used_stays, without_seam}
use Rattle.slub_law_alone.proofs.ScanTurns.{dropped, guards, pool_put, run_of, scans, turn_drops, turn_gives, turn_keeps, turn_puts, turn_unmakes, with_run}
use Rattle.slub_law_alone.proofs.TrimLists.{gone_counts, is_inside, live_of}
use Rattle.slub_law_alone.proofs.Turns.{machine, then_turn}
use Rattle.slub_law_alone.proofs.UnderLock.{RestsUnder, given_back, table_set}
use Rattle.slub_law_alone.proofs.WalkTurns.{first_there}

-- how many objects of each of them are free
abbrev pub free_in : State → List ℕ → List ℕ
free_in s fs = map (λ f. length (own_free s f)) fs

-- the slabs that are left are scanned: where the worker stands then, and the lists
pub record ScanEnds (m : Setup) (b : Beside) (ls ends : List Local) (x : ℕ) (l : Local) (there : x < length ls) (t u : State) (words : List ℕ) (value : ℕ → LockValue) (z : SlabWord) (c : ℕ) (sc rest : List ℕ) : Type 0 where
  pub turns : ℕ
  pub after : List ℕ
  pub kept : ℕ → LockValue
  pub word : SlabWord
  pub told : ℕ
  pub counts : List ℕ
  pub ran : alone m x turns (machine words (guards m ls x l there value sc rest) (set ls x (scans m ls x l there z c sc rest))) ≡ machine after (guards m ls x l there kept counts []) (set ls x (scans m ls x l there word told counts []))
  pub under : RestsUnder m b ends (node_lock l.cache) u after kept
  pub fit : IsSlabFit word
  pub counted : told + slabs_of u l.cache ≡ c + slabs_of t l.cache
  pub counts_are : counts ≡ free_in u (node_of u l.cache)
  pub leaves : LeavesSlabs t l.cache u
  pub used : (g : ℕ) → 0 < times g (node_of u l.cache) → 0 < inuse_of u g
  pub lists : u.cpu_lists ≡ t.cpu_lists
  pub keeps : KeepsChecked t u

module _ (m : Setup) (b : Beside) (ls ends : List Local) (x : ℕ) (l : Local) (there : x < length ls) (small : l.cache < 32) (lives : m.lives l.cache ≡ true) (plain : m.checks l.cache ≡ false) where
  abbrev k : ℕ
  k = l.cache

  abbrev j : ℕ
  j = node_lock l.cache

  abbrev a : ℕ
  a = l.worker + 1

  -- ---- one slab

  module _ (t : State) (words : List ℕ) (value : ℕ → LockValue) (holds : RestsUnder m b ends j t words value) (done : List ℕ) (f : ℕ) (fs : List ℕ) (nodes : node_of t k ≡ done ++ f ∷ fs) (is : IsScanned t k f) (off_done : times f done ≡ 0) (off_rest : times f fs ≡ 0) where
    abbrev u : World
    u = world_of m value words

    abbrev w : World
    w = given_back m j words value

    abbrev y : SlabWord
    y = u.slab f

    inside : f < m.frames
    inside = let same = ap (λ (m : Setup). m.frames) holds.same in let long = holds.lengths.slabs in let below = is_inside t k f is.slab in omega (arith, same, long, below)

    pub reads : slab_in (get_or words (slab_base + f) 0) ≡ y
    reads = sym (slab-read m value words f inside)

    some : 1 ≤ y.objects
    some = let u = (holds.rests.own f).in_use in let free = is.stocked in omega (arith, u, free)

    at_it : IsSlabAt t w f
    at_it = slab_word t b w ends holds.rests f some

    cache : y.cache ≡ k
    cache = sym at_it.cache ∙ ap (λ (y : Slab). y.cache) (injected (sym at_it.there ∙ is.slab.1)) ∙ is.slab.2
      where
        injected : {x y : Slab} → Some x ≡ Some y → x ≡ y
        injected e = cc

    pub used_is : inuse_of t f ≡ y.inuse
    used_is =
        let u = (holds.rests.own f).in_use in
        let objects = ap (λ o. option_map_or (λ (y : Slab). y.objects) o 0) at_it.there ∙ at_it.objects in
        omega (arith, u, objects)

    pub free_is : y.objects - y.inuse ≡ length (own_free t f)
    free_is = let u = (holds.rests.own f).in_use in omega (arith, u)

    pub node_is : frames_in (value j) ≡ done ++ f ∷ fs
    node_is = ap frames_in (sym (ap (λ (value : ℕ → LockValue). value j) (value_is m value words)) ∙ holds.rests.values j (omega (arith, small))) ∙ sym (holds.rests.nodes k) ∙ nodes

    pub word_fit : IsSlabFit y
    word_fit = holds.rests.words.slab f

    abbrev pub next : State
    next = discarded (without_slab t k f) f

    -- ---- it goes

    abbrev left : List ℕ
    left = done ++ fs

    abbrev t0 : State
    t0 = with_node t k left

    nodes_left : without_slab t k f ≡ t0
    nodes_left = ap (with_node t k) (ap (filter (λ other. not (eqb other f))) nodes ∙ filter_seam done f fs off_done off_rest)

    in_nodes : k < length t.nodes
    in_nodes = let long = holds.lengths.nodes in omega (arith, long, small)

    off_left : nat_lt 0 (times f left) ≡ false
    off_left = ap (nat_lt 0) (let e = times-append f done fs in let none : times f left ≡ 0 = omega (arith, e, off_done, off_rest) in none)

    same_left : (g : ℕ) → (g ≡ f → ⊥) → times g left ≡ times g (node_of t k)
    same_left g away =
        let e = times-append g done fs in let d = times-append g done (f ∷ fs) in let n = ap (times g) nodes in let c = times-cons_other g f fs (λ q. away (sym q)) in
        omega (arith, e, d, n, c)

    off_rests : Rests t0 b (placed.v t b w ends k f left false) ends
    off_rests = placed.rests_placed t b w ends k f left false holds.rests in_nodes small (ap (λ (m : Setup). m.lives k) holds.same ∙ lives) (none_of (checked_of t k) (ap (λ (m : Setup). m.checks k) holds.same ∙ plain)) cache off_left same_left

    abbrev v0 : World
    v0 = placed.v t b w ends k f left false

    off_values : (n : ℕ) → size_in (value_of t0 n) f ≡ 0
    off_values zero = refl
    off_values (suc n) = size_kept (is_some (cache_of t n)) (checked_of t n) (node_of t0 n) (node_of t n) f ∙ is.off_values (suc n)

    off_nodes : (i : ℕ) → times f (node_of t0 i) ≡ 0
    off_nodes i = elim (cases_eq i k) [
      | inl e ↦ ap (λ i. times f (node_of t0 i)) e ∙ ap (times f) (get_or-set_same t.nodes k left [] in_nodes) ∙ (let e = times-append f done fs in omega (arith, e, off_done, off_rest))
      | inr away ↦ ap (times f) (get_or-set_other t.nodes k i left [] away) ∙ is.off_others i away
    ]

    in_frees : f < length t.frees
    in_frees = let long = holds.lengths.frees in let wide = holds.lengths.slabs in let below = is_inside t k f is.slab in omega (arith, long, wide, below)

    gone_rests : Rests (discarded t0 f) b (gone.v t0 b v0 ends f) ends
    gone_rests = gone.rests_discarded t0 b v0 ends f off_rests (is_inside t k f is.slab) in_frees off_values off_nodes

    abbrev without_values : ℕ → LockValue
    without_values = update value j (Node left)

    abbrev pub unmade : List ℕ
    unmade = set words (slab_base + f) (slab_bits no_slab_word)

    abbrev pub locked : List ℕ
    locked = set unmade 0 a

    abbrev pub gone_words : List ℕ
    gone_words = set locked 0 0

    abbrev pub put_values : ℕ → LockValue
    put_values = pool_put m ls x l there without_values (run_of m ls x l there f y)

    no_fit : IsSlabFit no_slab_word
    no_fit = (omega arith, omega arith, omega arith, omega arith)

    table : IsTable m words
    table = holds.table

    some_lock : 0 < m.locks
    some_lock = let many = table.locks in omega (arith, many)

    pool_free : u.lock 0 ≡ 0
    pool_free = sym (update_other u.lock j 0 0 (λ q. absurd (omega (arith, q)))) ∙ holds.rests.locks 0 (omega arith)

    pub pool_hit : eqb (get_or unmade 0 0) 0 ≡ true
    pool_hit = eq-eqb (get_or unmade 0 0) 0 (get_or-set_other words (slab_base + f) 0 (slab_bits no_slab_word) 0 (λ q. absurd (omega (arith, q))) ∙ sym (lock-read m value words 0 some_lock) ∙ pool_free)

    says_gone : world_of m put_values gone_words ≡ record u { slab = update u.slab f no_slab_word; value = put_values }
    says_gone = world_of-value m value put_values gone_words
        ∙ ap (λ (u : World). record u { value = put_values }) (world_of-lock m value locked 0 0 (table_set m unmade 0 a (table_set m words (slab_base + f) (slab_bits no_slab_word) table)) some_lock
        ∙ ap (λ (u : World). set_lock u 0 0) (world_of-lock m value unmade 0 a (table_set m words (slab_base + f) (slab_bits no_slab_word) table) some_lock
        ∙ ap (λ (u : World). set_lock u 0 a) (world_of-slab m value words f (slab_bits no_slab_word) table inside ∙ ap (set_slab u f) (slab_in-bits no_slab_word no_fit))))
        ∙ ap by (update_back u.lock 0 a 0 pool_free)
      where
        by : (ℕ → ℕ) → World
        by lock = record u { slab = update u.slab f no_slab_word; value = put_values; lock = lock }

    order_here : order_for (m.layout k) y.objects ≡ order_of t0 f
    order_here = sym (gone.order_is t b w ends holds.rests f some ∙ (λ i. order_for ((setup_is m value words i).layout (cache i)) y.objects))

    pool_is : with_put (pool_in (without_values pool_lock)) (run_of m ls x l there f y) ≡ gone.pool t0 b v0 ends f
    pool_is = ap (λ v. with_put (pool_in v) (run_of m ls x l there f y)) (update_other value j (Node left) 0 (λ q. absurd (omega (arith, q))) ∙ sym (ap (λ (value : ℕ → LockValue). value 0) (value_is m value words)) ∙ holds.rests.values 0 (omega arith))
        ∙ ap (λ order. with_put t.pool (record { frame = f; order = order; objects = y.objects })) order_here

    says : given_back m j gone_words put_values ≡ gone.v t0 b v0 ends f
    says = ap (λ (u : World). set_lock u j 0) says_gone
        ∙ (λ i. by (sym (update_twice w.slab f (record (w.slab f) { listed = false }) no_slab_word) i) (update (update (sym (value_is m value words) i) j (Node left)) 0 (Pool (pool_is i))))
      where
        by : (ℕ → SlabWord) → (ℕ → LockValue) → World
        by slabs values = record w { slab = slabs; value = values }

    pub under_gone : RestsUnder m b ends j next gone_words put_values
    under_gone = subst (λ s. RestsUnder m b ends j (discarded s f) gone_words put_values) (sym nodes_left) (record {
      same = holds.same;
      lengths = record {
        slabs = length-set t.slabs f None ∙ holds.lengths.slabs;
        frees = length-set t.frees f [] ∙ holds.lengths.frees;
        cpu_lists = holds.lengths.cpu_lists;
        nodes = length-set t.nodes k left ∙ holds.lengths.nodes;
        checked = holds.lengths.checked;
        memory = holds.lengths.memory;
        gone = holds.lengths.gone;
        live = holds.lengths.live;
      };
      table = table_set m locked 0 0 (table_set m unmade 0 a (table_set m words (slab_base + f) (slab_bits no_slab_word) table));
      whole = whole_lock m locked 0 0 (omega arith) (whole_lock m unmade 0 a (omega arith) (whole_slab m words f no_slab_word table.cpu_words (let long = table.length in omega (arith, long, inside)) no_fit holds.whole));
      rests = subst (λ (v : World). Rests (discarded t0 f) b v ends) (sym says) gone_rests;
    })

    pub gone_counted : 1 + slabs_of next k ≡ slabs_of t k
    gone_counted = gone_counts (without_slab t k f) k f is.slab

    pub gone_leaves : LeavesSlabs t k next
    gone_leaves = leaves-both t (without_slab t k f) next k (leaves-same t (without_slab t k f) k refl) (leaves-discarded (without_slab t k f) k f (live_of t k f is.slab))

    pub gone_nodes : node_of next k ≡ done ++ fs
    gone_nodes = ap (λ s. node_of (discarded s f) k) nodes_left ∙ get_or-set_same t.nodes k left [] in_nodes

    -- ---- its turns, and those that follow

    module _ (z : SlabWord) (c : ℕ) (sc : List ℕ) (counts : sc ≡ free_in t done) where
      short : length sc ≡ length done
      short = ap (length {A = ℕ}) counts ∙ length-map done (λ f. length (own_free t f))

      at_f : slice_index (frames_in (value j)) (length sc) ≡ f
      at_f = ap (λ n. slice_index (frames_in (value j)) n) short ∙ ap (λ xs. slice_index xs (length done)) node_is ∙ at_seam done f fs

      long : length (frames_in (value j)) ≡ suc (length sc) + length fs
      long = let e = ap (length {A = ℕ}) node_is in let n = length-append done (f ∷ fs) in omega (arith, e, n, short)

      abbrev pub more : List ℕ
      more = sc ++ (y.objects - y.inuse) ∷ []

      pub more_is : more ≡ free_in t (done ++ f ∷ [])
      more_is = (λ i. counts i ++ free_is i ∷ []) ∙ sym (map-append (λ f. length (own_free t f)) done (f ∷ []))

      abbrev from : System
      from = machine words value (set ls x (scans m ls x l there z c sc (f ∷ fs)))

      pub keeps_on : eqb y.inuse 0 ≡ false → ScanEnds m b ls ends x l there t (fold (swept_slab k) t fs) words value y c more fs → ScanEnds m b ls ends x l there t (fold (swept_slab k) t (f ∷ fs)) words value z c sc (f ∷ fs)
      keeps_on in_use r = subst (λ s. ScanEnds m b ls ends x l there t (fold (swept_slab k) s fs) words value z c sc (f ∷ fs)) (sym same) (record {
        turns = suc r.turns;
        after = r.after;
        kept = r.kept;
        word = r.word;
        told = r.told;
        counts = r.counts;
        ran = then_turn m x r.turns from (machine words (guards m ls x l there value more fs) (set ls x (scans m ls x l there y c more fs))) (machine r.after (guards m ls x l there r.kept r.counts []) (set ls x (scans m ls x l there r.word r.told r.counts [])))
            (turn_keeps m ls x l there words value z y c f sc fs at_f reads in_use long) r.ran;
        under = r.under;
        fit = r.fit;
        counted = r.counted;
        counts_are = r.counts_are;
        leaves = r.leaves;
        used = r.used;
        lists = r.lists;
        keeps = r.keeps;
      })
        where
          same : swept_slab k t f ≡ t
          same = ap (λ z. cond {A = State} z (discarded (without_slab t k f) f) t) (ap (λ n. eqb n 0) used_is ∙ in_use)

      pub goes_on : eqb y.inuse 0 ≡ true → ScanEnds m b ls ends x l there next (fold (swept_slab k) next fs) gone_words put_values y (c + 1) sc fs → ScanEnds m b ls ends x l there t (fold (swept_slab k) t (f ∷ fs)) words value z c sc (f ∷ fs)
      goes_on none r = subst (λ s. ScanEnds m b ls ends x l there t (fold (swept_slab k) s fs) words value z c sc (f ∷ fs)) (sym same) (record {
        turns = suc (suc (suc (suc r.turns)));
        after = r.after;
        kept = r.kept;
        word = r.word;
        told = r.told;
        counts = r.counts;
        ran = then_turn m x (suc (suc (suc r.turns))) from first end
            (turn_drops m ls x l there words value z y c f sc fs at_f reads none ∙ ap (λ xs. machine words (update value j (Node xs)) (set ls x (dropped m ls x l there words value z y c f sc fs at_f reads))) (ap (λ n. without_at (frames_in (value j)) n) short ∙ ap (λ xs. without_at xs (length done)) node_is ∙ without_seam done f fs))
            (then_turn m x (suc (suc r.turns)) first second end (turn_unmakes m ls x l there words without_values y c f sc)
            (then_turn m x (suc r.turns) second third end (turn_puts m ls x l there unmade without_values y (c + 1) sc (run_of m ls x l there f y) pool_hit)
            (then_turn m x r.turns third (machine gone_words (guards m ls x l there put_values sc fs) (set ls x (scans m ls x l there y (c + 1) sc fs))) end (turn_gives m ls x l there locked put_values y (c + 1) sc fs shorter) r.ran)));
        under = r.under;
        fit = r.fit;
        counted = (let a = r.counted in let d = gone_counted in omega (arith, a, d));
        counts_are = r.counts_are;
        leaves = leaves-both t next (fold (swept_slab k) next fs) k gone_leaves r.leaves;
        used = r.used;
        lists = r.lists;
        keeps = rest-both t next (fold (swept_slab k) next fs) (gone-rest t k f) r.keeps;
      })
        where
          same : swept_slab k t f ≡ next
          same = ap (λ z. cond {A = State} z (discarded (without_slab t k f) f) t) (ap (λ n. eqb n 0) used_is ∙ none)

          first : System
          first = machine words without_values (set ls x (dropped m ls x l there words value z y c f sc fs at_f reads))

          second : System
          second = machine unmade without_values (set ls x (with_run m ls x l there y (c + 1) sc (Some (run_of m ls x l there f y)) (InDiscard LockDiscard FromTrim)))

          third : System
          third = machine locked put_values (set ls x (with_run m ls x l there y (c + 1) sc None (InDiscard GiveDiscard FromTrim)))

          end : System
          end = machine r.after (guards m ls x l there r.kept r.counts []) (set ls x (scans m ls x l there r.word r.told r.counts []))

          shorter : length (frames_in (put_values j)) ≡ length sc + length fs
          shorter = ap (λ v. length (frames_in v)) (update_other without_values 0 (Pool (with_put (pool_in (without_values pool_lock)) (run_of m ls x l there f y))) j (λ q. absurd (omega (arith, q))) ∙ update_same value j (Node left))
              ∙ (let n = length-append done fs in omega (arith, n, short))

  -- ---- all that are left

  pub scan_all : (rest done : List ℕ) (t : State) (words : List ℕ) (value : ℕ → LockValue) → RestsUnder m b ends j t words value → node_of t k ≡ done ++ rest → AreScanned t k rest → ((g : ℕ) → 1 ≤ times g rest → times g done ≡ 0) → (z : SlabWord) (c : ℕ) (sc : List ℕ) → IsSlabFit z → sc ≡ free_in t done
      → ((g : ℕ) → 0 < times g done → 0 < inuse_of t g) → ScanEnds m b ls ends x l there t (fold (swept_slab k) t rest) words value z c sc rest
  scan_all [] done t words value holds nodes are off z c sc fit counts used = record {
    turns = 0;
    after = words;
    kept = value;
    word = z;
    told = c;
    counts = sc;
    ran = refl;
    under = holds;
    fit = fit;
    counted = refl;
    counts_are = counts ∙ ap (free_in t) (sym all);
    leaves = leaves-same t t k refl;
    used = λ g on. used g (subst (λ xs. 0 < times g xs) all on);
    lists = refl;
    keeps = same-all t;
  }
    where
      all : node_of t k ≡ done
      all = nodes ∙ append-nil done
  scan_all (f ∷ fs) done t words value holds nodes are off z c sc fit counts used =
      let off_done = off f (first_there f fs) in
      let y = (world_of m value words).slab f in
      elim (cases_Bool (eqb y.inuse 0)) [
        | inl none ↦ goes_on t words value holds done f fs nodes are.0 off_done are.1 z c sc counts none
            (scan_all fs done (next t words value holds done f fs nodes are.0 off_done are.1) (gone_words t words value holds done f fs nodes are.0 off_done are.1) (put_values t words value holds done f fs nodes are.0 off_done are.1) (under_gone t words value holds done f fs nodes are.0 off_done are.1) (gone_nodes t words value holds done f fs nodes are.0 off_done are.1)
            (all_stay t k f fs are.1 are.2) (λ g on. off g (let c = times-first g f fs in omega (arith, c, on))) y (c + 1) sc (word_fit t words value holds done f fs nodes are.0 off_done are.1) (counts ∙ sym (counts_stay t k f done off_done))
            (λ g on. let away : g ≡ f → ⊥ = λ e. absurd (let n = ap (λ g. times g done) e in omega (arith, n, on, off_done)) in let was = used g on in let same = used_stays t k f g away in omega (arith, was, same)))
        | inr in_use ↦ keeps_on t words value holds done f fs nodes are.0 off_done are.1 z c sc counts in_use
            (scan_all fs (done ++ f ∷ []) t words value holds (nodes ∙ sym (append_assoc done (f ∷ []) fs)) are.2 (λ g on. let e = times-append g done (f ∷ []) in let c = times-first g f fs in let d = times-first g f [] in let none : times g [] ≡ 0 = refl in let o = off g (omega (arith, c, on)) in
            let away : one_if (eqb f g) ≡ 0 = ap one_if (ne_eqb f g (λ q. absurd (let t = ap (λ g. times g fs) q in let w = are.1 in omega (arith, t, w, on)))) in omega (arith, e, d, o, away, none))
            y c (more t words value holds done f fs nodes are.0 off_done are.1 z c sc counts) (word_fit t words value holds done f fs nodes are.0 off_done are.1) (more_is t words value holds done f fs nodes are.0 off_done are.1 z c sc counts)
            (λ g on. elim (cases_eq g f) [
              | inl e ↦ (let u = used_is t words value holds done f fs nodes are.0 off_done are.1 in let at = ap (inuse_of t) e in let some = eqb-false y.inuse 0 in_use in omega (arith, u, at, some))
              | inr away ↦ used g (let e = times-append g done (f ∷ []) in let d = times-first g f [] in let none : times g [] ≡ 0 = refl in let o : one_if (eqb f g) ≡ 0 = ap one_if (ne_eqb f g (λ q. away (sym q))) in omega (arith, e, d, none, o, on))
            ]))
      ]
