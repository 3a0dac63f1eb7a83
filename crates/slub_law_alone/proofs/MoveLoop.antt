-- A worker that moves a set of slabs to the node list, from the first one on, does to the lists what the operation does that moves them all.
use Rattle.std.proofs.Common.{◌≡◌, ℕ, suc, ◌+◌, ◌%◌, ◌^◌, ◌<◌, ◌≤◌, ◌&&◌, eqb, cond, true, false, List, [], ◌∷◌, ◌++◌, length, get_or, set, Option, Some, None, inl, inr, refl, ap, sym, ◌∙◌, subst, arith}
use Rattle.std.specs.Prelude.{is_some, nat_le, IfSome}
use Rattle.std.specs.Option.{option_map_or}
use Rattle.std.proofs.lemmas.Bool.{cases_Bool, false≢true, cond-true, cond-false, eq-eqb}
use Rattle.std.proofs.lemmas.List.{get_or-set_other}
use Rattle.slub_words.specs.declared.slab.SlabWord.{SlabWord}
use Rattle.slub_words.specs.Words.{slab_bits}
use Rattle.slub_lists.specs.declared.lists.Slab.{Slab}
use Rattle.slub_lists.specs.State.{State}
use Rattle.slub_lists.specs.Alloc.{checked_of, node_of, with_node}
use Rattle.slub_lists.specs.Free.{discarded, inuse_of, is_spare, moved, moved_all, order_of}
use Rattle.slub_core.specs.declared.spot.Spot.TheVariants.{InDiscard, InMoveSet}
use Rattle.slub_core.specs.declared.spot.Spot.{Spot}
use Rattle.slub_core.specs.declared.spot.Discard.TheVariants.{FromMove}
use Rattle.slub_core.specs.declared.spot.DiscardSpot.TheVariants.{Unmake, LockDiscard, GiveDiscard}
use Rattle.slub_core.specs.declared.spot.MoveSet.{MoveSet}
use Rattle.slub_core.specs.declared.spot.MoveSetSpot.TheVariants.{LoadMoved, ListSlab}
use Rattle.slub_core.specs.Setup.{Setup, node_lock, pool_lock}
use Rattle.slub_object_layout.specs.Layout.{order_for}
use Rattle.slub_core.specs.Words.{slab_base, link_base, slab_in, no_slab_word}
use Rattle.slub_core.specs.World.{World, LockValue, Node, Pool, Links, update, set_lock, set_slab, world_of, frames_in, pool_in}
use Rattle.slub_core.specs.Discard.{counts_for, with_put}
use Rattle.slub_core.specs.Local.{Local}
use Rattle.slub_core.specs.MoveSet.{listed_word}
use Rattle.slub_core.specs.Run.{System}
use Rattle.slub_core.proofs.Packed.{IsSlabFit, slab_in-bits}
use Rattle.slub_core.proofs.Update.{update_other}
use Rattle.slub_core.proofs.StepWords.{IsTable, lock-read, slab-read, link-read, setup_of as setup_is, value_of as value_is, world_of-slab, world_of-lock, world_of-value}
use Rattle.slub_law_opening.specs.Opening.{Beside}
use Rattle.slub_law_opening.specs.Rests.{Rests}
use Rattle.slub_law_alone.specs.Alone.{alone}
use Rattle.slub_law_alone.proofs.Apart.{IsSlabAt, slab_word}
use Rattle.slub_law_alone.proofs.Bits.{keeps_small, whole_lock, whole_slab}
use Rattle.slub_law_alone.proofs.Discarded as gone
use Rattle.slub_law_alone.proofs.InPlace.{update_back}
use Rattle.slub_law_alone.proofs.Movable.{IsMovable, AreMovable, stay_movable, listed_keeps, discarded_keeps, lengths_kept}
use Rattle.slub_law_alone.proofs.MoveTurns.{with_slab, before, with_run, run_of, pool_put, turn_follows, turn_loads, turn_lists, turn_unmakes, turn_puts, turn_gives}
use Rattle.slub_law_alone.proofs.MovedLists as listed
use Rattle.slub_law_alone.proofs.Turns.{machine, then_turn}
use Rattle.slub_law_alone.proofs.UnderLock.{RestsUnder, given_back, table_set, then_turns}

pub none_of : {A : Type 0} (o : Option A) → is_some o ≡ false → o ≡ None
none_of None e = refl
none_of (Some y) e = absurd (false≢true (sym e))

-- so many turns of a worker under a lock: they lead to these lists, and change no link
pub record LeadsTo (m : Setup) (b : Beside) (ls ends : List Local) (x j : ℕ) (words : List ℕ) (value : ℕ → LockValue) (from : Local) (t : State) (to : SlabWord → ℕ → Local) (count : ℕ) : Type 0 where
  pub turns : ℕ
  pub after : List ℕ
  pub guards : ℕ → LockValue
  pub word : SlabWord
  pub told : ℕ
  pub ran : alone m x turns (machine words value (set ls x from)) ≡ machine after guards (set ls x (to word told))
  pub under : RestsUnder m b ends j t after guards
  pub links : (world_of m guards after).link ≡ (world_of m value words).link
  pub fit : IsSlabFit word
  pub counted : told ≡ count

-- what a set tells whose discarded slabs count so much each
abbrev pub told_of : ℕ → ℕ → ℕ → State → List ℕ → ℕ
told_of each min k s [] = 0
told_of each min k s (f ∷ fs) = cond (is_spare s min k f) each 0 + told_of each min k (moved min k s f) fs

module _ (m : Setup) (b : Beside) (ls ends : List Local) (x : ℕ) (l : Local) (move : MoveSet) (there : x < length ls) (small : l.cache < 32) (lives : m.lives l.cache ≡ true) (plain : m.checks l.cache ≡ false) where
  abbrev k : ℕ
  k = l.cache

  abbrev j : ℕ
  j = node_lock l.cache

  abbrev a : ℕ
  a = l.worker + 1

  abbrev min : ℕ
  min = (m.layout l.cache).min_partial

  abbrev each : ℕ
  each = counts_for (FromMove move)

  -- ---- one slab

  module _ (s : State) (words : List ℕ) (value : ℕ → LockValue) (holds : RestsUnder m b ends j s words value) (f : ℕ) (is : IsMovable s k f) where
    abbrev u : World
    u = world_of m value words

    abbrev w : World
    w = given_back m j words value

    abbrev y : SlabWord
    y = u.slab f

    inside : f < m.frames
    inside = let same = ap (λ (m : Setup). m.frames) holds.same in let below = is.within in omega (arith, same, below)

    reads : y ≡ slab_in (get_or words (slab_base + f) 0)
    reads = slab-read m value words f inside

    hit : eqb (get_or words (slab_base + f) 0) (slab_bits y) ≡ true
    hit = eq-eqb (get_or words (slab_base + f) 0) (slab_bits y) (sym (holds.whole.slab f inside) ∙ ap slab_bits (sym reads))

    some : 1 ≤ y.objects
    some = let u = (holds.rests.own f).in_use in let free = is.stocked in omega (arith, u, free)

    at_it : IsSlabAt s w f
    at_it = slab_word s b w ends holds.rests f some

    cache : y.cache ≡ k
    cache = sym at_it.cache ∙ subst (λ (o : Option Slab). IfSome o (λ (slab : Slab). slab.cache ≡ k)) at_it.there is.of_cache

    used : inuse_of s f ≡ y.inuse
    used =
        let u = (holds.rests.own f).in_use in
        let objects = ap (λ o. option_map_or (λ (y : Slab). y.objects) o 0) at_it.there ∙ at_it.objects in
        omega (arith, u, objects)

    node_is : frames_in (value j) ≡ node_of s k
    node_is = ap frames_in (sym (ap (λ (value : ℕ → LockValue). value j) (value_is m value words)) ∙ holds.rests.values j (omega (arith, small))) ∙ sym (holds.rests.nodes k)

    -- what the worker looks at is what the lists look at
    spare_is : eqb y.inuse 0 && nat_le min (length (frames_in (value j))) ≡ is_spare s min k f
    spare_is = λ i. eqb (sym used i) 0 && nat_le min (length (node_is i))

    fit : IsSlabFit y
    fit = holds.rests.words.slab f

    in_nodes : k < length s.nodes
    in_nodes = let long = holds.lengths.nodes in omega (arith, long, small)

    table : IsTable m words
    table = holds.table

    below : slab_base + f < length words
    below = let long = table.length in omega (arith, long, inside)

    -- ---- it goes to the node list

    abbrev marked_words : List ℕ
    marked_words = set words (slab_base + f) (slab_bits (listed_word y))

    abbrev tail_values : ℕ → LockValue
    tail_values = update value j (Node (frames_in (value j) ++ f ∷ []))

    says_marked : world_of m tail_values marked_words ≡ record u { slab = update u.slab f (listed_word y); value = tail_values }
    says_marked = world_of-value m value tail_values marked_words
        ∙ ap (λ (u : World). record u { value = tail_values }) (world_of-slab m value words f (slab_bits (listed_word y)) table inside ∙ ap (set_slab u f) (slab_in-bits (listed_word y) fit))

    says_listed : given_back m j marked_words tail_values ≡ record w { slab = update w.slab f (listed_word y); value = update w.value j (Node (node_of s k ++ f ∷ [])) }
    says_listed = ap (λ (u : World). set_lock u j 0) says_marked ∙ ap by (ap (λ fs. update value j (Node (fs ++ f ∷ []))) node_is ∙ ap (λ (value : ℕ → LockValue). update value j (Node (node_of s k ++ f ∷ []))) (sym (value_is m value words)))
      where
        by : (ℕ → LockValue) → World
        by values = record w { slab = update w.slab f (listed_word y); value = values }

    under_listed : RestsUnder m b ends j (with_node s k (node_of s k ++ f ∷ [])) marked_words tail_values
    under_listed = record {
      same = holds.same;
      lengths = lengths_kept s (with_node s k (node_of s k ++ f ∷ [])) (listed_keeps s k (node_of s k ++ f ∷ [])) holds.lengths;
      table = table_set m words (slab_base + f) (slab_bits (listed_word y)) table;
      whole = whole_slab m words f (listed_word y) table.cpu_words below fit holds.whole;
      rests = subst (λ (v : World). Rests (with_node s k (node_of s k ++ f ∷ [])) b v ends) (sym says_listed)
          (listed.rests_listed s b w ends k f holds.rests in_nodes small (ap (λ (m : Setup). m.lives k) holds.same ∙ lives) (none_of (checked_of s k) (ap (λ (m : Setup). m.checks k) holds.same ∙ plain)) cache);
    }

    -- ---- it is discarded

    abbrev unmade : List ℕ
    unmade = set words (slab_base + f) (slab_bits no_slab_word)

    abbrev locked : List ℕ
    locked = set unmade 0 a

    abbrev gone_words : List ℕ
    gone_words = set locked 0 0

    abbrev put_values : ℕ → LockValue
    put_values = pool_put m ls x l move there value (run_of m ls x l move there f y)

    no_fit : IsSlabFit no_slab_word
    no_fit = (omega arith, omega arith, omega arith, omega arith)

    some_lock : 0 < m.locks
    some_lock = let many = table.locks in omega (arith, many)

    pool_free : u.lock 0 ≡ 0
    pool_free = sym (update_other u.lock j 0 0 (λ q. absurd (omega (arith, q)))) ∙ holds.rests.locks 0 (omega arith)

    pool_hit : eqb (get_or unmade 0 0) 0 ≡ true
    pool_hit = eq-eqb (get_or unmade 0 0) 0 (get_or-set_other words (slab_base + f) 0 (slab_bits no_slab_word) 0 (λ q. absurd (omega (arith, q))) ∙ sym (lock-read m value words 0 some_lock) ∙ pool_free)

    order_here : order_for (m.layout k) y.objects ≡ order_of s f
    order_here = sym (gone.order_is s b w ends holds.rests f some ∙ (λ i. order_for ((setup_is m value words i).layout (cache i)) y.objects))

    pool_is : with_put (pool_in (value pool_lock)) (run_of m ls x l move there f y) ≡ gone.pool s b w ends f
    pool_is = ap (λ v. with_put (pool_in v) (run_of m ls x l move there f y)) (sym (ap (λ (value : ℕ → LockValue). value 0) (value_is m value words)) ∙ holds.rests.values 0 (omega arith))
        ∙ ap (λ order. with_put s.pool (record { frame = f; order = order; objects = y.objects })) order_here

    says_gone : world_of m put_values gone_words ≡ record u { slab = update u.slab f no_slab_word; value = put_values }
    says_gone = world_of-value m value put_values gone_words
        ∙ ap (λ (u : World). record u { value = put_values }) (world_of-lock m value locked 0 0 (table_set m unmade 0 a (table_set m words (slab_base + f) (slab_bits no_slab_word) table)) some_lock
        ∙ ap (λ (u : World). set_lock u 0 0) (world_of-lock m value unmade 0 a (table_set m words (slab_base + f) (slab_bits no_slab_word) table) some_lock
        ∙ ap (λ (u : World). set_lock u 0 a) (world_of-slab m value words f (slab_bits no_slab_word) table inside ∙ ap (set_slab u f) (slab_in-bits no_slab_word no_fit))))
        ∙ ap by (update_back u.lock 0 a 0 pool_free)
      where
        by : (ℕ → ℕ) → World
        by lock = record u { slab = update u.slab f no_slab_word; value = put_values; lock = lock }

    says_discarded : given_back m j gone_words put_values ≡ gone.v s b w ends f
    says_discarded = ap (λ (u : World). set_lock u j 0) says_gone ∙ ap by (ap (λ pool. update value 0 (Pool pool)) pool_is ∙ ap (λ (value : ℕ → LockValue). update value 0 (Pool (gone.pool s b w ends f))) (sym (value_is m value words)))
      where
        by : (ℕ → LockValue) → World
        by values = record w { slab = update w.slab f no_slab_word; value = values }

    under_discarded : RestsUnder m b ends j (discarded s f) gone_words put_values
    under_discarded = record {
      same = holds.same;
      lengths = lengths_kept s (discarded s f) (discarded_keeps s f) holds.lengths;
      table = table_set m locked 0 0 (table_set m unmade 0 a (table_set m words (slab_base + f) (slab_bits no_slab_word) table));
      whole = whole_lock m locked 0 0 (omega arith) (whole_lock m unmade 0 a (omega arith) (whole_slab m words f no_slab_word table.cpu_words below no_fit holds.whole));
      rests = subst (λ (v : World). Rests (discarded s f) b v ends) (sym says_discarded)
          (gone.rests_discarded s b w ends f holds.rests (let long = holds.lengths.slabs in let within = is.within in omega (arith, long, within)) (let long = holds.lengths.frees in let within = is.within in omega (arith, long, within)) is.off_values is.off_node);
    }

    -- ---- its turns

    module _ (fs : List ℕ) (z : SlabWord) (c : ℕ) where
      abbrev from : Local
      from = with_slab m ls x l move there c f fs z (InMoveSet LoadMoved move)

      abbrev Leads : State → ℕ → Type 0
      Leads t count = LeadsTo m b ls ends x j words value from t (λ z c. before m ls x l move there z c fs) count

      abbrev standing : List ℕ → (ℕ → LockValue) → Local → System
      standing words value l = machine words value (set ls x l)

      abbrev looked : Spot → Local
      looked spot = with_slab m ls x l move there c f fs y spot

      listed_turns : is_spare s min k f ≡ false → Leads (with_node s k (node_of s k ++ f ∷ [])) c
      listed_turns kept = record {
        turns = 2;
        after = marked_words;
        guards = tail_values;
        word = y;
        told = c;
        ran = then_turn m x 1 (standing words value from) (standing words value (looked (InMoveSet ListSlab move))) end
            (turn_loads m ls x l move there words value z y c f fs (InMoveSet ListSlab move) (sym reads) (ap (λ h. cond {A = Spot} h (InDiscard Unmake (FromMove move)) (InMoveSet ListSlab move)) (spare_is ∙ kept)) refl refl)
            (then_turn m x 0 (standing words value (looked (InMoveSet ListSlab move))) end end (turn_lists m ls x l move there words value y c f fs hit) refl);
        under = under_listed;
        links = ap (λ (w : World). w.link) says_marked;
        fit = fit;
        counted = refl;
      }
        where
          end : System
          end = standing marked_words tail_values (before m ls x l move there y c fs)

      discarded_turns : is_spare s min k f ≡ true → Leads (discarded s f) (c + each)
      discarded_turns spare = record {
        turns = 4;
        after = gone_words;
        guards = put_values;
        word = y;
        told = c + each;
        ran = then_turn m x 3 (standing words value from) (standing words value (looked unmake)) end
            (turn_loads m ls x l move there words value z y c f fs unmake (sym reads) (ap (λ h. cond {A = Spot} h unmake (InMoveSet ListSlab move)) (spare_is ∙ spare)) refl refl)
            (then_turn m x 2 (standing words value (looked unmake)) (standing unmade value first) end (turn_unmakes m ls x l move there words value y c f fs)
            (then_turn m x 1 (standing unmade value first) (standing locked put_values second) end (turn_puts m ls x l move there unmade value y c fs (run_of m ls x l move there f y) pool_hit)
            (then_turn m x 0 (standing locked put_values second) end end (turn_gives m ls x l move there locked put_values y c fs) refl)));
        under = under_discarded;
        links = ap (λ (w : World). w.link) says_gone;
        fit = fit;
        counted = refl;
      }
        where
          unmake : Spot
          unmake = InDiscard Unmake (FromMove move)

          first : Local
          first = with_run m ls x l move there c fs y (Some (run_of m ls x l move there f y)) (InDiscard LockDiscard (FromMove move))

          second : Local
          second = with_run m ls x l move there c fs y None (InDiscard GiveDiscard (FromMove move))

          end : System
          end = standing gone_words put_values (before m ls x l move there y (c + each) fs)

      one_moved : Leads (moved min k s f) (c + cond (is_spare s min k f) each 0)
      one_moved = elim (cases_Bool (is_spare s min k f)) [
        | inl spare ↦ subst (λ t. Leads t (c + cond (is_spare s min k f) each 0)) (sym (cond-true {A = State} (is_spare s min k f) (discarded s f) (with_node s k (node_of s k ++ f ∷ [])) spare))
            (subst (λ n. Leads (discarded s f) (c + n)) (sym (cond-true {A = ℕ} (is_spare s min k f) each 0 spare)) (discarded_turns spare))
        | inr kept ↦ subst (λ t. Leads t (c + cond (is_spare s min k f) each 0)) (sym (cond-false {A = State} (is_spare s min k f) (discarded s f) (with_node s k (node_of s k ++ f ∷ [])) kept))
            (subst (λ n. Leads (with_node s k (node_of s k ++ f ∷ [])) n) (let none = cond-false {A = ℕ} (is_spare s min k f) each 0 kept in omega (arith, none)) (listed_turns kept))
      ]

  -- ---- the first of those that are left

  abbrev LeadsFrom : State → List ℕ → (ℕ → LockValue) → Local → (SlabWord → ℕ → Local) → ℕ → Type 0
  LeadsFrom t words value from to count = LeadsTo m b ls ends x j words value from t to count

  front_moved : (s : State) (words : List ℕ) (value : ℕ → LockValue) → RestsUnder m b ends j s words value → (f : ℕ) (fs : List ℕ) → IsMovable s k f → Links (world_of m value words).link ((world_of m value words).link f) fs 0 → (z : SlabWord) (c : ℕ)
      → LeadsFrom (moved min k s f) words value (before m ls x l move there z c (f ∷ fs)) (λ z c. before m ls x l move there z c fs) (c + cond (is_spare s min k f) each 0)
  front_moved s words value holds f [] is links z c = one_moved s words value holds f is [] z c
  front_moved s words value holds f (g ∷ fs) is links z c =
      let r = one_moved s words value holds f is (g ∷ fs) z c in
      record {
        turns = suc r.turns;
        after = r.after;
        guards = r.guards;
        word = r.word;
        told = r.told;
        ran = then_turn m x r.turns (machine words value (set ls x (before m ls x l move there z c (f ∷ g ∷ fs)))) (machine words value (set ls x (with_slab m ls x l move there c f (g ∷ fs) z (InMoveSet LoadMoved move))))
            (machine r.after r.guards (set ls x (before m ls x l move there r.word r.told (g ∷ fs)))) (turn_follows m ls x l move there words value z c f g fs link) r.ran;
        under = r.under;
        links = r.links;
        fit = r.fit;
        counted = r.counted;
      }
    where
      reads : (world_of m value words).link f ≡ get_or words (link_base m + f) 0
      reads = link-read m value words f (let same = ap (λ (m : Setup). m.frames) holds.same in let below = is.within in omega (arith, same, below))

      link : get_or words (link_base m + f) 0 % 2 ^ 16 ≡ g
      link = ap (λ q. q % 2 ^ 16) (sym reads) ∙ keeps_small ((world_of m value words).link f) (holds.rests.words.link f) ∙ links.0

  -- ---- all of them

  pub all_moved : (fs : List ℕ) (s : State) (words : List ℕ) (value : ℕ → LockValue) → RestsUnder m b ends j s words value → AreMovable s k fs → (front : ℕ) → Links (world_of m value words).link front fs 0 → (z : SlabWord) (c : ℕ) → IsSlabFit z
      → LeadsFrom (moved_all s min k fs) words value (before m ls x l move there z c fs) (λ z c. before m ls x l move there z c []) (c + told_of each min k s fs)
  all_moved [] s words value holds are front links z c fit =
      record { turns = 0; after = words; guards = value; word = z; told = c; ran = refl; under = holds; links = refl; fit = fit; counted = omega arith }
  all_moved (f ∷ fs) s words value holds are front links z c fit =
      let linked = links.1 in
      let r = front_moved s words value holds f fs are.0 linked z c in
      let next = all_moved fs (moved min k s f) r.after r.guards r.under (stay_movable s min k f fs (let long = holds.lengths.nodes in omega (arith, long, small)) are.1 are.2) ((world_of m value words).link f)
      (subst (λ (link : ℕ → ℕ). Links link ((world_of m value words).link f) fs 0) (sym r.links) linked) r.word r.told r.fit in
      record {
        turns = r.turns + next.turns;
        after = next.after;
        guards = next.guards;
        word = next.word;
        told = next.told;
        ran = then_turns m x r.turns next.turns (r.turns + next.turns) (machine words value (set ls x (before m ls x l move there z c (f ∷ fs)))) (machine r.after r.guards (set ls x (before m ls x l move there r.word r.told fs)))
            (machine next.after next.guards (set ls x (before m ls x l move there next.word next.told []))) refl r.ran next.ran;
        under = next.under;
        links = next.links ∙ r.links;
        fit = next.fit;
        counted = (let first = r.counted in let last = next.counted in omega (arith, first, last));
      }
