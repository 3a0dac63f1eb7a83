-- The turns in which a worker puts away a slab that it has in hand with its chain, under the node lock.
use Rattle.std.proofs.Common.{◌≡◌, ℕ, ◌+◌, ◌-◌, ◌<◌, eqb, cond, true, false, List, ◌∷◌, length, get_or, set, Some, None, refl, ap, ◌∙◌}
use Rattle.std.proofs.lemmas.List.{set-get_or}
use Rattle.slub_words.specs.declared.slab.SlabWord.{SlabWord}
use Rattle.slub_words.specs.Words.{slab_bits}
use Rattle.slub_core.specs.declared.local.FrameRun.{FrameRun}
use Rattle.slub_core.specs.declared.local.Hand.{Hand}
use Rattle.slub_core.specs.declared.spot.Spot.{Spot}
use Rattle.slub_core.specs.declared.spot.Spot.TheVariants.{InDiscard, InPutAway, InOffline}
use Rattle.slub_core.specs.declared.spot.Away.{Away}
use Rattle.slub_core.specs.declared.spot.Away.TheVariants.{ForSweep}
use Rattle.slub_core.specs.declared.spot.Sweep.{Sweep}
use Rattle.slub_core.specs.declared.spot.Discard.TheVariants.{FromAway}
use Rattle.slub_core.specs.declared.spot.DiscardSpot.TheVariants.{Unmake, LockDiscard, PutRun, GiveDiscard}
use Rattle.slub_core.specs.declared.spot.OfflineSpot.TheVariants.{TakeCurrent}
use Rattle.slub_core.specs.declared.spot.PutAwaySpot.TheVariants.{LockAway, LoadAway, LinkLast, Unfreeze, PutNode, GiveAway}
use Rattle.slub_core.specs.declared.step.Answer.{Answer}
use Rattle.slub_core.specs.declared.step.Answer.TheVariants.{Word, Done, Won, Lost}
use Rattle.slub_core.specs.declared.step.Op.TheVariants.{Load, Store, Exchange}
use Rattle.slub_core.specs.declared.step.Place.TheVariants.{SlabOf, MemoryOf, LockOf}
use Rattle.slub_core.specs.Setup.{Setup, node_lock, pool_lock, pointer_at, hardened}
use Rattle.slub_object_layout.specs.Layout.{order_for}
use Rattle.slub_core.specs.Words.{slab_base, memory_base, slab_in, no_slab_word}
use Rattle.slub_core.specs.World.{LockValue, Node, Pool, update, frames_in, pool_in}
use Rattle.slub_core.specs.Discard.{with_put}
use Rattle.slub_core.specs.Local.{Local, at, bare_hand, goes}
use Rattle.slub_core.specs.Offline.{if_trimming}
use Rattle.slub_core.specs.PutAway.{head_away, is_to_discard, put_on_node, unfrozen_word, way_of_end}
use Rattle.slub_core.specs.Run.{turn}
use Rattle.slub_core.specs.Steps.{advance_at}
use Rattle.slub_law_alone.specs.Alone.{own_pick}
use Rattle.slub_law_alone.proofs.MovedLists.{turn_changes, settle_twice}
use Rattle.slub_law_alone.proofs.Turns.{machine, turn_goes, settle_goes}

module _ (m : Setup) (ls : List Local) (x : ℕ) (l : Local) (sweep : Sweep) (there : x < length ls) where
  abbrev k : ℕ
  k = l.cache

  abbrev j : ℕ
  j = node_lock l.cache

  abbrev a : ℕ
  a = l.worker + 1

  abbrev away : Away
  away = ForSweep sweep

  -- it has the slab in hand
  abbrev pub with_slab : Hand → SlabWord → Spot → Local
  with_slab h z spot = record l { hands = h ∷ l.hands; slab_word = z; spot = spot }

  -- or not any more
  abbrev pub put : SlabWord → Spot → Local
  put z spot = record l { slab_word = z; spot = spot }

  pub turn_locks : (words : List ℕ) (value : ℕ → LockValue) (h : Hand) (z : SlabWord) → eqb (get_or words j 0) 0 ≡ true
      → turn m (machine words value (set ls x (with_slab h z (InPutAway LockAway away)))) (own_pick x) ≡ machine (set words j a) value (set ls x (with_slab h z (InPutAway LoadAway away)))
  turn_locks words value h z hit =
      turn_goes m words (set words j a) value ls x was was next (record { place = LockOf j; op = Exchange 0 a }) Won there refl refl
      (ap (λ h. set words j (cond {A = ℕ} h a (get_or words j 0))) hit) (ap (λ h. cond {A = Answer} h Won (Lost (get_or words j 0))) hit) (settle_goes m value was next Won refl refl refl)
    where
      was : Local
      was = with_slab h z (InPutAway LockAway away)

      next : Local
      next = with_slab h z (InPutAway LoadAway away)

  -- it loads the slab's word: with no chain the slab is unfrozen next
  pub turn_loads_bare : (words : List ℕ) (value : ℕ → LockValue) (h : Hand) (z y : SlabWord) → slab_in (get_or words (slab_base + h.frame) 0) ≡ y → eqb h.head 0 ≡ true
      → turn m (machine words value (set ls x (with_slab h z (InPutAway LoadAway away)))) (own_pick x) ≡ machine words value (set ls x (with_slab h y (InPutAway Unfreeze away)))
  turn_loads_bare words value h z y reads none =
      turn_goes m words words value ls x was was next (record { place = SlabOf h.frame; op = Load }) (Word q) there refl refl (set-get_or words (slab_base + h.frame) 0) refl (settle_goes m value was next (Word q) leads refl refl)
    where
      was : Local
      was = with_slab h z (InPutAway LoadAway away)

      next : Local
      next = with_slab h y (InPutAway Unfreeze away)

      q : ℕ
      q = get_or words (slab_base + h.frame) 0

      leads : advance_at m value was (InPutAway LoadAway away) (Word q) ≡ goes next
      leads = (λ i. goes (with_slab h (reads i) (way_of_end h away))) ∙ ap (λ b. goes (with_slab h y (cond {A = Spot} b (InPutAway Unfreeze away) (InPutAway LinkLast away)))) none

  -- with one its last object is linked
  pub turn_loads : (words : List ℕ) (value : ℕ → LockValue) (h : Hand) (z y : SlabWord) → slab_in (get_or words (slab_base + h.frame) 0) ≡ y → eqb h.head 0 ≡ false
      → turn m (machine words value (set ls x (with_slab h z (InPutAway LoadAway away)))) (own_pick x) ≡ machine words value (set ls x (with_slab h y (InPutAway LinkLast away)))
  turn_loads words value h z y reads some =
      turn_goes m words words value ls x was was next (record { place = SlabOf h.frame; op = Load }) (Word q) there refl refl (set-get_or words (slab_base + h.frame) 0) refl (settle_goes m value was next (Word q) leads refl refl)
    where
      was : Local
      was = with_slab h z (InPutAway LoadAway away)

      next : Local
      next = with_slab h y (InPutAway LinkLast away)

      q : ℕ
      q = get_or words (slab_base + h.frame) 0

      leads : advance_at m value was (InPutAway LoadAway away) (Word q) ≡ goes next
      leads = (λ i. goes (with_slab h (reads i) (way_of_end h away))) ∙ ap (λ b. goes (with_slab h y (cond {A = Spot} b (InPutAway Unfreeze away) (InPutAway LinkLast away)))) some

  -- the last object of the chain comes to lead to the slab's own freelist
  pub turn_links : (words : List ℕ) (value : ℕ → LockValue) (h : Hand) (y : SlabWord) (p : ℕ) → pointer_at m k h.frame (h.last - 1) ≡ p
      → turn m (machine words value (set ls x (with_slab h y (InPutAway LinkLast away)))) (own_pick x) ≡ machine (set words (memory_base m + p) (hardened k p y.head)) value (set ls x (with_slab h y (InPutAway Unfreeze away)))
  turn_links words value h y p at_p =
      turn_goes m words (set words (memory_base m + p) (hardened k p y.head)) value ls x was was next (record { place = MemoryOf p; op = Store (hardened k p y.head) }) Done there refl
      (ap (λ p. record { place = MemoryOf p; op = Store (hardened k p y.head) }) at_p) refl refl (settle_goes m value was next Done refl refl refl)
    where
      was : Local
      was = with_slab h y (InPutAway LinkLast away)

      next : Local
      next = with_slab h y (InPutAway Unfreeze away)

  -- ---- the slab is unfrozen

  abbrev pub unfreezes : Hand → SlabWord → Local
  unfreezes h y = with_slab h y (InPutAway Unfreeze away)

  abbrev pub thawed : (ℕ → LockValue) → Hand → SlabWord → SlabWord
  thawed value h y = unfrozen_word m value (unfreezes h y)

  abbrev pub unfrozen_words : List ℕ → (ℕ → LockValue) → Hand → SlabWord → List ℕ
  unfrozen_words words value h y = set words (slab_base + h.frame) (slab_bits (thawed value h y))

  module _ (words : List ℕ) (value : ℕ → LockValue) (h : Hand) (y : SlabWord) (hit : eqb (get_or words (slab_base + h.frame) 0) (slab_bits y) ≡ true) where
    q : ℕ
    q = get_or words (slab_base + h.frame) 0

    abbrev after : List ℕ
    after = unfrozen_words words value h y

    moves : set words (slab_base + h.frame) (cond {A = ℕ} (eqb (get_or words (slab_base + h.frame) 0) (slab_bits y)) (slab_bits (thawed value h y)) (get_or words (slab_base + h.frame) 0)) ≡ after
    moves = ap (λ b. set words (slab_base + h.frame) (cond {A = ℕ} b (slab_bits (thawed value h y)) (get_or words (slab_base + h.frame) 0))) hit

    answers : cond {A = Answer} (eqb (get_or words (slab_base + h.frame) 0) (slab_bits y)) Won (Lost (get_or words (slab_base + h.frame) 0)) ≡ Won
    answers = ap (λ b. cond {A = Answer} b Won (Lost (get_or words (slab_base + h.frame) 0))) hit

    -- where it leads to
    abbrev gone_on : SlabWord → Local
    gone_on y = put y (InPutAway GiveAway away)

    abbrev with_bare : Spot → Local
    with_bare spot = with_slab (bare_hand h.frame) y spot

    -- one without a free object is on no list
    pub turn_full : eqb (head_away h y) 0 ≡ true → turn m (machine words value (set ls x (unfreezes h y))) (own_pick x) ≡ machine after value (set ls x (gone_on y))
    turn_full full =
        turn_goes m words after value ls x (unfreezes h y) (unfreezes h y) (gone_on y) (record { place = SlabOf h.frame; op = Exchange (slab_bits y) (slab_bits (thawed value h y)) }) Won there refl refl moves answers
        (settle_goes m value (unfreezes h y) (gone_on y) Won leads refl refl)
      where
        leads : advance_at m value (unfreezes h y) (InPutAway Unfreeze away) Won ≡ goes (gone_on y)
        leads = ap (λ b. goes (cond {A = Local} b (gone_on y) (with_bare (cond {A = Spot} (is_to_discard m value (unfreezes h y)) (InDiscard Unmake (FromAway away)) (InPutAway PutNode away))))) full

    -- one that isn't spare goes to the node list at once
    pub turn_puts_on : eqb (head_away h y) 0 ≡ false → is_to_discard m value (unfreezes h y) ≡ false
        → turn m (machine words value (set ls x (unfreezes h y))) (own_pick x) ≡ machine after (update value j (Node (put_on_node y h.frame (frames_in (value j))))) (set ls x (gone_on y))
    turn_puts_on some kept =
        turn_changes m words after value values ls x (unfreezes h y) (gone_on y) (record { place = SlabOf h.frame; op = Exchange (slab_bits y) (slab_bits (thawed value h y)) }) Won there refl refl moves answers
        (settle_twice m value values (unfreezes h y) (with_bare (InPutAway PutNode away)) (gone_on y) (gone_on y) Won leads refl refl refl)
      where
        values : ℕ → LockValue
        values = update value j (Node (put_on_node y h.frame (frames_in (value j))))

        leads : advance_at m value (unfreezes h y) (InPutAway Unfreeze away) Won ≡ goes (with_bare (InPutAway PutNode away))
        leads = ap (λ b. goes (cond {A = Local} b (gone_on y) (with_bare (cond {A = Spot} (is_to_discard m value (unfreezes h y)) (InDiscard Unmake (FromAway away)) (InPutAway PutNode away))))) some
            ∙ ap (λ b. goes (with_bare (cond {A = Spot} b (InDiscard Unmake (FromAway away)) (InPutAway PutNode away)))) kept

    -- a spare one is discarded
    pub turn_spares : eqb (head_away h y) 0 ≡ false → is_to_discard m value (unfreezes h y) ≡ true
        → turn m (machine words value (set ls x (unfreezes h y))) (own_pick x) ≡ machine after value (set ls x (with_bare (InDiscard Unmake (FromAway away))))
    turn_spares some spare =
        turn_goes m words after value ls x (unfreezes h y) (unfreezes h y) (with_bare (InDiscard Unmake (FromAway away))) (record { place = SlabOf h.frame; op = Exchange (slab_bits y) (slab_bits (thawed value h y)) }) Won there refl refl moves answers
        (settle_goes m value (unfreezes h y) (with_bare (InDiscard Unmake (FromAway away))) Won leads refl refl)
      where
        leads : advance_at m value (unfreezes h y) (InPutAway Unfreeze away) Won ≡ goes (with_bare (InDiscard Unmake (FromAway away)))
        leads = ap (λ b. goes (cond {A = Local} b (gone_on y) (with_bare (cond {A = Spot} (is_to_discard m value (unfreezes h y)) (InDiscard Unmake (FromAway away)) (InPutAway PutNode away))))) some
            ∙ ap (λ b. goes (with_bare (cond {A = Spot} b (InDiscard Unmake (FromAway away)) (InPutAway PutNode away)))) spare

  -- ---- the slab is discarded

  abbrev pub run_of : ℕ → SlabWord → FrameRun
  run_of f y = record { frame = f; order = order_for (m.layout k) y.objects; objects = y.objects }

  pub turn_unmakes : (words : List ℕ) (value : ℕ → LockValue) (f : ℕ) (y : SlabWord)
      → turn m (machine words value (set ls x (with_slab (bare_hand f) y (InDiscard Unmake (FromAway away))))) (own_pick x)
      ≡ machine (set words (slab_base + f) (slab_bits no_slab_word)) value (set ls x (record l { slab_word = y; run = Some (run_of f y); count = l.count + if_trimming sweep 1; spot = InDiscard LockDiscard (FromAway away) }))
  turn_unmakes words value f y =
      turn_goes m words (set words (slab_base + f) (slab_bits no_slab_word)) value ls x was was next (record { place = SlabOf f; op = Store (slab_bits no_slab_word) }) Done there refl refl refl refl (settle_goes m value was next Done refl refl refl)
    where
      was : Local
      was = with_slab (bare_hand f) y (InDiscard Unmake (FromAway away))

      next : Local
      next = record l { slab_word = y; run = Some (run_of f y); count = l.count + if_trimming sweep 1; spot = InDiscard LockDiscard (FromAway away) }

  abbrev pub pool_put : (ℕ → LockValue) → FrameRun → ℕ → LockValue
  pool_put value run = update value pool_lock (Pool (with_put (pool_in (value pool_lock)) run))

  pub turn_puts : (words : List ℕ) (value : ℕ → LockValue) (y : SlabWord) (n : ℕ) (run : FrameRun) → eqb (get_or words 0 0) 0 ≡ true
      → turn m (machine words value (set ls x (record l { slab_word = y; run = Some run; count = n; spot = InDiscard LockDiscard (FromAway away) }))) (own_pick x)
      ≡ machine (set words 0 a) (pool_put value run) (set ls x (record l { slab_word = y; run = None; count = n; spot = InDiscard GiveDiscard (FromAway away) }))
  turn_puts words value y n run hit =
      turn_changes m words (set words 0 a) value (pool_put value run) ls x was next (record { place = LockOf 0; op = Exchange 0 a }) Won there refl refl
      (ap (λ h. set words 0 (cond {A = ℕ} h a (get_or words 0 0))) hit) (ap (λ h. cond {A = Answer} h Won (Lost (get_or words 0 0))) hit)
      (settle_twice m value (pool_put value run) was (at was (InDiscard PutRun (FromAway away))) next next Won refl refl refl refl)
    where
      was : Local
      was = record l { slab_word = y; run = Some run; count = n; spot = InDiscard LockDiscard (FromAway away) }

      next : Local
      next = record l { slab_word = y; run = None; count = n; spot = InDiscard GiveDiscard (FromAway away) }

  pub turn_gives_pool : (words : List ℕ) (value : ℕ → LockValue) (y : SlabWord) (n : ℕ)
      → turn m (machine words value (set ls x (record l { slab_word = y; run = None; count = n; spot = InDiscard GiveDiscard (FromAway away) }))) (own_pick x)
      ≡ machine (set words 0 0) value (set ls x (record l { slab_word = y; run = None; count = n; spot = InPutAway GiveAway away }))
  turn_gives_pool words value y n =
      turn_goes m words (set words 0 0) value ls x was was next (record { place = LockOf 0; op = Store 0 }) Done there refl refl refl refl (settle_goes m value was next Done refl refl refl)
    where
      was : Local
      was = record l { slab_word = y; run = None; count = n; spot = InDiscard GiveDiscard (FromAway away) }

      next : Local
      next = record l { slab_word = y; run = None; count = n; spot = InPutAway GiveAway away }

  -- ---- the lock is given back

  pub turn_gives : (words : List ℕ) (value : ℕ → LockValue) (end : Local) → turn m (machine words value (set ls x (at end (InPutAway GiveAway away)))) (own_pick x) ≡ machine (set words (node_lock end.cache) 0) value (set ls x (at end (InOffline TakeCurrent sweep)))
  turn_gives words value end =
      turn_goes m words (set words (node_lock end.cache) 0) value ls x was was next (record { place = LockOf (node_lock end.cache); op = Store 0 }) Done there refl refl refl refl (settle_goes m value was next Done refl refl refl)
    where
      was : Local
      was = at end (InPutAway GiveAway away)

      next : Local
      next = at end (InOffline TakeCurrent sweep)
