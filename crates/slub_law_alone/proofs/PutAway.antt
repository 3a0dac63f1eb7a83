-- What a CPU has of a cache is put away: no current slab, or one that is unfrozen and then stands on no list, on the node list, or is discarded.
use Rattle.std.proofs.Common.{◌≡◌, ℕ, suc, ◌+◌, ◌-◌, ◌*◌, ◌<◌, ◌≤◌, ◌^◌, ◌&&◌, ◌||◌, eqb, cond, Bool, true, false, List, [], ◌∷◌, ◌++◌, length, get_or, set, Option, Some, None, inl, inr, refl, ap, sym, ◌∙◌, subst, arith}
use Rattle.std.specs.Prelude.{is_some, nat_le, nat_lt, not}
use Rattle.std.specs.Option.{option_map_or}
use Rattle.std.proofs.lemmas.Bool.{cases_Bool, cases_eq, eq-eqb, eqb-true, false≢true, ne_eqb, cond_both, cond-true, cond-false, lt-ltb}
use Rattle.std.proofs.lemmas.List.{get_or-set_other, length-set}
use Rattle.slub_common.specs.Times.{times}
use Rattle.slub_common.proofs.Times.{times-push, times-cons_other, times-cons_same}
use Rattle.slub_cache_create.specs.declared.caches.Cache.{Cache}
use Rattle.slub_words.specs.declared.cpu.CpuWord.{CpuWord}
use Rattle.slub_words.specs.declared.slab.SlabWord.{SlabWord}
use Rattle.slub_words.specs.Words.{slab_bits}
use Rattle.slub_lists.specs.declared.lists.CpuLists.{CpuLists}
use Rattle.slub_lists.specs.State.{State}
use Rattle.slub_lists.specs.Alloc.{cache_of, checked_of, lists_of, node_of, own_free, slab_of, with_node}
use Rattle.slub_lists.specs.Coherent.{IsConsistent, IsAccounted}
use Rattle.slub_lists.specs.Free.{discarded, inuse_of, is_spare, order_of}
use Rattle.slub_lists.specs.Places.{layout_at}
use Rattle.slub_object_layout.specs.Layout.{no_layout, order_for}
use Rattle.slub_lists.specs.Shrink.{min_partial_of, put_away_slab, put_on_node, put_where, taken_down}
use Rattle.slub_core.specs.declared.local.FrameRun.{FrameRun}
use Rattle.slub_core.specs.declared.local.Hand.{Hand}
use Rattle.slub_core.specs.declared.spot.Spot.{Spot}
use Rattle.slub_core.specs.declared.spot.Spot.TheVariants.{InDiscard, InOffline, InPutAway}
use Rattle.slub_core.specs.declared.spot.Sweep.{Sweep}
use Rattle.slub_core.specs.declared.spot.Sweep.TheVariants.{Trimming, Flushing}
use Rattle.slub_core.specs.declared.spot.Away.TheVariants.{ForSweep}
use Rattle.slub_core.specs.declared.spot.Discard.TheVariants.{FromAway}
use Rattle.slub_core.specs.declared.spot.DiscardSpot.TheVariants.{Unmake, LockDiscard, GiveDiscard}
use Rattle.slub_core.specs.declared.spot.OfflineSpot.TheVariants.{LoadCurrent, DetachCurrent, TakeCurrent}
use Rattle.slub_core.specs.declared.spot.PutAwaySpot.TheVariants.{Unfreeze, GiveAway}
use Rattle.slub_core.specs.Setup.{Setup, cpu_number, node_lock, pool_lock}
use Rattle.slub_core.specs.Words.{slab_base, slab_in, no_slab_word}
use Rattle.slub_core.specs.World.{World, LockValue, Node, Pool, IsChain, pointer, update, set_cpu, set_lock, set_slab, frames_in, pool_in, world_of}
use Rattle.slub_core.specs.Discard.{with_put}
use Rattle.slub_core.specs.Fresh.{IsWorded}
use Rattle.slub_core.specs.Local.{Local, at, bare_hand}
use Rattle.slub_core.specs.Offline.{if_flushing, if_trimming}
use Rattle.slub_core.specs.PutAway.{is_to_discard}
use Rattle.slub_core.specs.PutAway as words
use Rattle.slub_core.specs.Run.{System}
use Rattle.slub_core.specs.Law.{IsCoherentSystem}
use Rattle.slub_core.proofs.Packed.{IsSlabFit, slab_in-bits}
use Rattle.slub_core.proofs.Update.{update_same, update_other}
use Rattle.slub_core.proofs.StepWords.{IsTable, lock-read, setup_of as setup_is, value_of as value_is, world_of-slab, world_of-lock, world_of-value}
use Rattle.slub_law_opening.specs.Opening.{Beside, tid_of}
use Rattle.slub_law_opening.specs.Rests.{Rests}
use Rattle.slub_law_opening.specs.Closing.{HasLengths}
use Rattle.slub_law_opening.proofs.Words.{chain-none}
use Rattle.slub_law_alone.specs.Alone.{alone, AreWhole}
use Rattle.slub_law_alone.specs.Away.{RestsBut, ComesTo, PutsAway, CurrentSlabsArePutAway, told_of_slab}
use Rattle.slub_law_alone.proofs.AwayStart as begun
use Rattle.slub_law_alone.proofs.AwayTurns.{thawed, with_slab, run_of, pool_put, turn_full, turn_puts_on, turn_spares, turn_unmakes, turn_puts, turn_gives_pool, turn_gives}
use Rattle.slub_law_alone.proofs.Bits.{current_frame, current_none, whole_lock, whole_slab}
use Rattle.slub_law_alone.proofs.Discarded as gone
use Rattle.slub_law_alone.proofs.Ended.{alone_keeps}
use Rattle.slub_law_alone.proofs.InPlace.{update_back}
use Rattle.slub_law_alone.proofs.Movable.{discarded_keeps, listed_keeps, lengths_kept, no_value}
use Rattle.slub_law_alone.proofs.NodePlaces as placed
use Rattle.slub_law_alone.proofs.Sweeping as sweeping
use Rattle.slub_law_alone.proofs.TakenDown as down
use Rattle.slub_law_alone.proofs.Turns.{machine, then_turn}
use Rattle.slub_law_alone.proofs.UnderLock.{RestsUnder, given_back, given_says, table_set, then_turns}
use Rattle.slub_law_alone.proofs.Workers.{at_front}
use Rattle.slub_calls.specs.Changes.{grown}

-- a function changed twice at one number
pub update_twice : {A : Type 0} (g : ℕ → A) (n : ℕ) (a c : A) → update (update g n a) n c ≡ update g n c
update_twice g n a c = λ i k. same k i
  where
    same : (k : ℕ) → update (update g n a) n c k ≡ update g n c k
    same k = elim (cases_eq k n) [
      | inl e ↦ ap (update (update g n a) n c) e ∙ update_same (update g n a) n c ∙ sym (update_same g n c) ∙ ap (update g n c) (sym e)
      | inr d ↦ update_other (update g n a) n c k d ∙ update_other g n a k d ∙ sym (update_other g n c k d)
    ]

-- how many slabs a node list is to keep
pub least_of : (s : State) (k : ℕ) → (layout_at s k).min_partial ≡ min_partial_of s k
least_of s k = by (cache_of s k)
  where
    by : (o : Option Cache) → (option_map_or (λ (y : Cache). y.layout) o no_layout).min_partial ≡ option_map_or (λ (y : Cache). y.layout.min_partial) o 0
    by None = refl
    by (Some live) = refl

module _ (opening : World) (s : State) (b : Beside) (system : System) (x : ℕ) (l : Local) (sweep : Sweep) (is : RestsBut opening s b system x (at l (InOffline LoadCurrent sweep))) where
  abbrev m : Setup
  m = begun.m opening s b system x l sweep is

  abbrev w : World
  w = begun.w opening s b system x l sweep is

  abbrev k : ℕ
  k = l.cache

  abbrev n : ℕ
  n = cpu_number l.cache l.cpu

  abbrev c : CpuWord
  c = w.cpu n

  abbrev f : ℕ
  f = c.frame

  abbrev lists : CpuLists
  lists = lists_of s k l.cpu

  abbrev min : ℕ
  min = min_partial_of s k

  abbrev ls : List Local
  ls = begun.ls opening s b system x l sweep is

  abbrev resting : Rests s b w ls
  resting = begun.resting opening s b system x l sweep is

  abbrev start : System
  start = begun.start opening s b system x l sweep is

  consistent : IsConsistent s
  consistent = sweeping.consistent opening s b system x l (InOffline LoadCurrent sweep) refl is

  long : HasLengths s
  long = sweeping.lengths opening s b system x l (InOffline LoadCurrent sweep) refl is

  from_start : (turns : ℕ) (end : System) → alone m x turns start ≡ end → alone m x turns system ≡ end
  from_start turns end ran = ap (alone m x turns) (sym (begun.start_is opening s b system x l sweep is)) ∙ ran

  -- ---- no current slab

  puts_nothing : lists.current ≡ None → PutsAway opening s b system x l sweep
  puts_nothing none = record {
    cpu_word = c;
    slab_word = l.slab_word;
    comes = subst (λ o. ComesTo opening s b system x (option_map_or (put_away_slab s min k l.cpu) o s) (cond (is_some o) (grown b n 1) b) (at_count (l.count + option_map_or (told_of_slab s sweep k l.cpu) o 0))) (sym none)
        (subst (λ count. ComesTo opening s b system x s b (at_count count)) (omega arith) comes);
  }
    where
      at_count : ℕ → Local
      at_count count = record l { spot = InOffline TakeCurrent sweep; cpu_word = c; slab_word = l.slab_word; count = count }

      bare : eqb f 0 ≡ true
      bare = eq-eqb f 0 (current_none f (sym (begun.cpu_is opening s b system x l sweep is).current ∙ none))

      end : System
      end = machine system.words system.value (set system.locals x (at_count l.count))

      comes : ComesTo opening s b system x s b (at_count l.count)
      comes = sweeping.comes_to opening s b system x l (InOffline LoadCurrent sweep) refl is sweep s b 0 system.words system.value c l.slab_word l.count
          (from_start 1 end (then_turn m x 0 start end end (begun.turn_begins opening s b system x l sweep is (InOffline TakeCurrent sweep) (ap (λ b. cond {A = Spot} b (InOffline TakeCurrent sweep) (InOffline DetachCurrent sweep)) bare) refl refl) refl))
          refl refl refl long is.rest.lists.accounted is.rest.beside.tids refl refl resting refl is.rest.whole (resting.words.cpu n)
          (sweeping.waits_between opening s b system x l (InOffline LoadCurrent sweep) refl is).packed.slab_word

  -- ---- a current slab

  module _ (current : lists.current ≡ Some f) where
    abbrev z : SlabWord
    z = w.slab f

    abbrev inside : k < 32
    inside = begun.inside opening s b system x l sweep is

    abbrev cpu : l.cpu < s.cpus
    cpu = begun.cpu opening s b system x l sweep is

    abbrev plain : checked_of s k ≡ None
    plain = begun.unchecked opening s b system x l sweep is

    abbrev some : 1 ≤ z.objects
    some = begun.some opening s b system x l sweep is current

    abbrev within : (0 < f) × (f < s.frames)
    within = begun.within opening s b system x l sweep is current

    abbrev j : ℕ
    j = node_lock k

    abbrev a : ℕ
    a = l.worker + 1

    abbrev j_small : j < 33
    j_small = begun.j_small opening s b system x l sweep is

    abbrev r : begun.IsJoined opening s b system x l sweep is current
    r = begun.joined opening s b system x l sweep is current

    abbrev head : ℕ
    head = begun.head opening s b system x l sweep is current

    abbrev l1 : Local
    l1 = begun.l1 opening s b system x l sweep is current

    abbrev d : CpuWord
    d = begun.d opening s b system x l sweep is current

    abbrev hand : Hand
    hand = begun.hand opening s b system x l sweep is current r.last r.seen r.walked

    abbrev t : State
    t = taken_down s k l.cpu f

    abbrev b1 : Beside
    b1 = grown b n 1

    fit : head < 2 ^ 16
    fit = cond_both (eqb c.head 0) z.head c.head (λ h. h < 2 ^ 16) (λ _. (resting.words.slab f).0) (λ _. (resting.words.cpu n).2)

    abbrev e : SlabWord
    e = down.e s b w ls k l.cpu f resting consistent inside cpu current plain long is.rest.beside.tids some r.bytes head fit

    abbrev v : World
    v = down.v s b w ls k l.cpu f resting consistent inside cpu current plain long is.rest.beside.tids some r.bytes head fit

    cache : z.cache ≡ k
    cache = down.cache s b w ls k l.cpu f resting consistent inside cpu current plain long is.rest.beside.tids some

    fits : IsSlabFit e
    fits = down.fits s b w ls k l.cpu f resting consistent inside cpu current plain long is.rest.beside.tids some r.bytes head fit

    down_long : HasLengths t
    down_long = down.down_lengths s b w ls k l.cpu f resting consistent inside cpu current plain long is.rest.beside.tids some r.bytes head fit

    -- in which the machine rests, were the lock given back and the slab unfrozen
    down_rests : Rests t b1 v ls
    down_rests = down.rests_down s b w ls k l.cpu f resting consistent inside cpu current plain long is.rest.beside.tids some r.bytes head fit worded r.chain r.cpus r.owns r.kept
      where
        at_unfreeze : System
        at_unfreeze = alone m x r.turns start

        coherent : IsWorded (world_of m at_unfreeze.value at_unfreeze.words)
        coherent = (at_front m opening (alone m x r.turns start) x below (alone_keeps m opening x r.turns start (subst (IsCoherentSystem m opening) (sym (begun.start_is opening s b system x l sweep is)) is.coherent))).stands.fresh.worded
          where
            below : x < length (alone m x r.turns start).locals
            below = let q = ap (λ (y : System). length y.locals) r.ran ∙ length-set system.locals x _ in omega (arith, q, is.there)

        there : IsWorded (record w { cpu = update w.cpu n d; lock = update w.lock j a; memory = r.bytes })
        there = subst IsWorded r.says (subst (λ (y : System). IsWorded (world_of m y.value y.words)) r.ran coherent)

        worded : IsWorded (set_cpu w n d)
        worded = record { cpu = there.cpu; slab = there.slab; list = there.list; link = there.link; room = there.room; remainder = there.remainder }

    -- ---- from where the slab is about to be unfrozen

    -- it has put the slab away, and tells of so many
    abbrev standing : ℕ → Spot → Local
    standing count spot = record l { cpu_word = c; slab_word = z; count = count; spot = spot }

    finish : (y : State) (turns : ℕ) (words : List ℕ) (value : ℕ → LockValue) (count : ℕ) → alone m x turns start ≡ machine words value (set system.locals x (standing count (InPutAway GiveAway (ForSweep sweep)))) → RestsUnder m b1 ls j y words value
        → y.table ≡ s.table → y.checked ≡ s.checked → IsAccounted y → y.frames ≡ s.frames → ComesTo opening s b system x y b1 (standing count (InOffline TakeCurrent sweep))
    finish y turns words value count ran under names checked accounted frames =
        sweeping.comes_to opening s b system x l (InOffline LoadCurrent sweep) refl is sweep y b1 turns (set words j 0) value c z count
        (from_start (suc turns) end (then_turns m x turns 1 (suc turns) start (machine words value (set system.locals x (standing count (InPutAway GiveAway (ForSweep sweep))))) end (omega arith) ran
        (then_turn m x 0 (machine words value (set system.locals x (standing count (InPutAway GiveAway (ForSweep sweep))))) end end (turn_gives m system.locals x l1 sweep is.there words value (standing count (InPutAway GiveAway (ForSweep sweep)))) refl)))
        under.same names checked under.lengths accounted (length-set b.tids n (tid_of b n + 1 * b.step) ∙ is.rest.beside.tids) refl frames
        (subst (λ (w : World). Rests y b1 w ls) (sym (given_says m j words value j_small under.table)) under.rests)
        (setup_is m value (set words j 0) ∙ sym (setup_is m system.value system.words)) (whole_lock m words j 0 j_small under.whole) (resting.words.cpu n) (resting.words.slab f)
      where
        end : System
        end = machine (set words j 0) value (set system.locals x (standing count (InOffline TakeCurrent sweep)))

    hit : eqb (get_or r.words (slab_base + f) 0) (slab_bits z) ≡ true
    hit = eq-eqb (get_or r.words (slab_base + f) 0) (slab_bits z) (r.there ∙ sym (is.rest.whole.slab f within.1) ∙ ap slab_bits (sym (begun.slab_reads opening s b system x l sweep is current)))

    below : slab_base + f < length r.words
    below = let q = r.table.length in omega (arith, q, within.1)

    abbrev unfreezing : Local
    unfreezing = with_slab m system.locals x l1 sweep is.there hand z (InPutAway Unfreeze (ForSweep sweep))

    -- the word that the slab has then
    abbrev thaw : SlabWord
    thaw = thawed m system.locals x l1 sweep is.there system.value hand z

    abbrev words4 : List ℕ
    words4 = set r.words (slab_base + f) (slab_bits thaw)

    thaw_is : (on : Bool) → not (eqb head 0 || is_to_discard m system.value unfreezing) ≡ on → thaw ≡ record e { listed = on }
    thaw_is on marks = λ i. record z { head = head; inuse = z.inuse - r.seen_is i; frozen = false; listed = marks i }

    thaw_fits : IsSlabFit thaw
    thaw_fits = (fits.0, (let q = (resting.words.slab f).1 in omega (arith, q)), fits.2, fits.3)

    -- what the words say, were the lock given back
    says_thawed : given_back m j words4 system.value ≡ record v { slab = update w.slab f thaw }
    says_thawed =
        ap (λ (u : World). set_lock u j 0) (world_of-slab m system.value r.words f (slab_bits thaw) r.table within.1 ∙ ap (λ (u : World). set_slab u f (slab_in (slab_bits thaw))) r.says
        ∙ ap (set_slab (record w { cpu = update w.cpu n d; lock = update w.lock j a; memory = r.bytes }) f) (slab_in-bits thaw thaw_fits))
        ∙ ap by (update_back w.lock j a 0 (resting.locks j j_small))
      where
        by : (ℕ → ℕ) → World
        by lock = record v { slab = update w.slab f thaw; lock = lock }

    table4 : IsTable m words4
    table4 = table_set m r.words (slab_base + f) (slab_bits thaw) r.table

    whole4 : AreWhole m words4
    whole4 = whole_slab m r.words f thaw r.table.cpu_words below thaw_fits r.whole

    -- ---- what the worker looks at is what the lists look at

    node_is : frames_in (system.value j) ≡ node_of s k
    node_is = ap frames_in (sym (ap (λ (value : ℕ → LockValue). value j) (value_is m system.value system.words)) ∙ resting.values j j_small) ∙ sym (resting.nodes k)

    used : inuse_of t f ≡ z.inuse - length lists.free
    used = down.used s b w ls k l.cpu f resting consistent inside cpu current plain long is.rest.beside.tids some

    abbrev spare : Bool
    spare = is_spare t min k f

    spare_is : is_to_discard m system.value unfreezing ≡ spare
    spare_is = λ i. eqb (left i) 0 && nat_le (least_of s k i) (length (node_is i))
      where
        left : z.inuse - r.seen ≡ inuse_of t f
        left = ap (λ n. z.inuse - n) r.seen_is ∙ sym used

    abbrev both : List ℕ
    both = lists.free ++ own_free s f

    own_t : own_free t f ≡ both
    own_t = down.own_t s b w ls k l.cpu f resting consistent inside cpu current plain long is.rest.beside.tids some

    abbrev has : Bool
    has = nat_lt 0 (length (own_free t f))

    -- ---- one with no free object

    puts_full : eqb head 0 ≡ true → ComesTo opening s b system x t b1 (standing l1.count (InOffline TakeCurrent sweep))
    puts_full full =
        finish t (r.turns + 1) words4 system.value l1.count
        (then_turns m x r.turns 1 (r.turns + 1) start (machine r.words system.value (set system.locals x unfreezing)) end refl r.ran
        (then_turn m x 0 (machine r.words system.value (set system.locals x unfreezing)) end end (turn_full m system.locals x l1 sweep is.there r.words system.value hand z hit full) refl))
        (record { same = refl; lengths = down_long; table = table4; whole = whole4; rests = subst (λ (u : World). Rests t b1 u ls) (sym (says_thawed ∙ ap by (thaw_is false (ap (λ h. not (h || is_to_discard m system.value unfreezing)) full)))) down_rests })
        refl refl is.rest.lists.accounted refl
      where
        end : System
        end = machine words4 system.value (set system.locals x (standing l1.count (InPutAway GiveAway (ForSweep sweep))))

        by : SlabWord → World
        by y = record v { slab = update w.slab f y }

    none_full : eqb head 0 ≡ true → both ≡ []
    none_full full = chain-none (pointer (record w { memory = r.bytes }) k f) head both r.chain (eqb-true head 0 full)

    some_else : eqb head 0 ≡ false → 0 < length both
    some_else some_head = by both r.chain
      where
        by : (xs : List ℕ) → IsChain (pointer (record w { memory = r.bytes }) k f) head xs → 0 < length xs
        by [] none = absurd (false≢true (sym some_head ∙ eq-eqb head 0 none))
        by (y ∷ ys) chain = omega arith

    -- ---- one that goes to the node list

    abbrev fs : List ℕ
    fs = words.put_on_node z f (node_of s k)

    abbrev values4 : ℕ → LockValue
    values4 = update system.value j (Node (words.put_on_node z f (frames_in (system.value j))))

    on_it : 1 ≤ times f fs
    on_it = cond_both (eqb z.head 0) (f ∷ node_of s k) (node_of s k ++ f ∷ []) (λ fs. 1 ≤ times f fs) (λ _. let q = times-cons_same f f (node_of s k) refl in omega (arith, q))
        (λ _. let p = times-push f f (node_of s k) in let o : cond {A = ℕ} (eqb f f) 1 0 ≡ 1 = ap (λ h. cond {A = ℕ} h 1 0) (eq-eqb f f refl) in omega (arith, p, o))

    others : (g : ℕ) → (g ≡ f → ⊥) → times g fs ≡ times g (node_of t k)
    others g away = cond_both (eqb z.head 0) (f ∷ node_of s k) (node_of s k ++ f ∷ []) (λ fs. times g fs ≡ times g (node_of s k)) (λ _. times-cons_other g f (node_of s k) (λ q. away (sym q)))
        (λ _. let p = times-push g f (node_of s k) in let o : cond {A = ℕ} (eqb f g) 1 0 ≡ 0 = ap (λ h. cond {A = ℕ} h 1 0) (ne_eqb f g (λ q. away (sym q))) in omega (arith, p, o))

    puts_on : eqb head 0 ≡ false → spare ≡ false → ComesTo opening s b system x (with_node t k fs) b1 (standing l1.count (InOffline TakeCurrent sweep))
    puts_on some_head kept =
        finish (with_node t k fs) (r.turns + 1) words4 values4 l1.count
        (then_turns m x r.turns 1 (r.turns + 1) start (machine r.words system.value (set system.locals x unfreezing)) end refl r.ran
        (then_turn m x 0 (machine r.words system.value (set system.locals x unfreezing)) end end (turn_puts_on m system.locals x l1 sweep is.there r.words system.value hand z hit some_head (spare_is ∙ kept)) refl))
        (record { same = refl; lengths = lengths_kept t (with_node t k fs) (listed_keeps t k fs) down_long; table = table4; whole = whole4; rests = subst (λ (u : World). Rests (with_node t k fs) b1 u ls) (sym says) on_node })
        refl refl is.rest.lists.accounted refl
      where
        end : System
        end = machine words4 values4 (set system.locals x (standing l1.count (InPutAway GiveAway (ForSweep sweep))))

        nodes : k < length s.nodes
        nodes = let q = long.nodes in omega (arith, q, inside)

        on_node : Rests (with_node t k fs) b1 (placed.v t b1 v ls k f fs true) ls
        on_node = placed.rests_placed t b1 v ls k f fs true down_rests nodes inside (begun.lives opening s b system x l sweep is) plain (ap (λ (y : SlabWord). y.cache) (update_same w.slab f e) ∙ cache) (lt-ltb 0 (times f fs) on_it) others

        by : (ℕ → SlabWord) → (ℕ → LockValue) → World
        by slabs values = record v { slab = slabs; value = values }

        says : given_back m j words4 values4 ≡ placed.v t b1 v ls k f fs true
        says = ap (λ (u : World). set_lock u j 0) (world_of-value m system.value values4 words4) ∙ ap (λ (u : World). record u { value = values4 }) says_thawed
            ∙ ap (λ y. by (update w.slab f y) values4) (thaw_is true (λ i. not (some_head i || (spare_is ∙ kept) i)))
            ∙ (λ i. by (slabs i) (values i))
          where
            slabs : update w.slab f (record e { listed = true }) ≡ update (update w.slab f e) f (record (update w.slab f e f) { listed = true })
            slabs = sym (update_twice w.slab f e (record e { listed = true })) ∙ ap (λ (y : SlabWord). update (update w.slab f e) f (record y { listed = true })) (sym (update_same w.slab f e))

            values : values4 ≡ update w.value j (Node fs)
            values = (λ i. update (sym (value_is m system.value system.words) i) j (Node (words.put_on_node z f (node_is i))))

    -- ---- a spare one

    abbrev words5 : List ℕ
    words5 = set words4 (slab_base + f) (slab_bits no_slab_word)

    abbrev words6 : List ℕ
    words6 = set words5 0 a

    abbrev words7 : List ℕ
    words7 = set words6 0 0

    abbrev values7 : ℕ → LockValue
    values7 = pool_put m system.locals x l1 sweep is.there system.value (run_of m system.locals x l1 sweep is.there f z)

    table5 : IsTable m words5
    table5 = table_set m words4 (slab_base + f) (slab_bits no_slab_word) table4

    no_fit : IsSlabFit no_slab_word
    no_fit = (omega arith, omega arith, omega arith, omega arith)

    pool_free : get_or words5 0 0 ≡ 0
    pool_free = get_or-set_other words4 (slab_base + f) 0 (slab_bits no_slab_word) 0 (λ q. absurd (omega (arith, q))) ∙ get_or-set_other r.words (slab_base + f) 0 (slab_bits thaw) 0 (λ q. absurd (omega (arith, q)))
        ∙ sym (lock-read m system.value r.words 0 (omega arith)) ∙ ap (λ (u : World). u.lock 0) r.says ∙ update_other w.lock j a 0 (λ q. absurd (omega (arith, q))) ∙ resting.locks 0 (omega arith)

    said5 : (world_of m system.value words5).lock 0 ≡ 0
    said5 = lock-read m system.value words5 0 (omega arith) ∙ pool_free

    says7 : world_of m values7 words7 ≡ record (world_of m system.value words4) { slab = update (world_of m system.value words4).slab f no_slab_word; value = values7 }
    says7 = world_of-value m system.value values7 words7 ∙ ap (λ (u : World). record u { value = values7 })
        (world_of-lock m system.value words6 0 0 (table_set m words5 0 a table5) (omega arith) ∙ ap (λ (u : World). set_lock u 0 0) (world_of-lock m system.value words5 0 a table5 (omega arith)) ∙ ap by (update_back (world_of m system.value words5).lock 0 a 0 said5)
        ∙ world_of-slab m system.value words4 f (slab_bits no_slab_word) table4 within.1 ∙ ap (set_slab (world_of m system.value words4) f) (slab_in-bits no_slab_word no_fit))
      where
        by : (ℕ → ℕ) → World
        by lock = record (world_of m system.value words5) { lock = lock }

    puts_back : eqb head 0 ≡ false → spare ≡ true → ComesTo opening s b system x (discarded t f) b1 (standing (l1.count + if_trimming sweep 1) (InOffline TakeCurrent sweep))
    puts_back some_head goes =
        finish (discarded t f) (r.turns + 4) words7 values7 (l1.count + if_trimming sweep 1)
        (then_turns m x r.turns 4 (r.turns + 4) start (machine r.words system.value (set system.locals x unfreezing)) end refl r.ran
        (then_turn m x 3 (machine r.words system.value (set system.locals x unfreezing)) first end (turn_spares m system.locals x l1 sweep is.there r.words system.value hand z hit some_head (spare_is ∙ goes))
        (then_turn m x 2 first second end (turn_unmakes m system.locals x l1 sweep is.there words4 system.value f z)
        (then_turn m x 1 second third end (turn_puts m system.locals x l1 sweep is.there words5 system.value z (l1.count + if_trimming sweep 1) (run_of m system.locals x l1 sweep is.there f z) (eq-eqb (get_or words5 0 0) 0 pool_free))
        (then_turn m x 0 third (last None) end (turn_gives_pool m system.locals x l1 sweep is.there words6 values7 z (l1.count + if_trimming sweep 1)) (ap last (sym (sweeping.waits_between opening s b system x l (InOffline LoadCurrent sweep) refl is).run)))))))
        (record {
          same = refl;
          lengths = lengths_kept t (discarded t f) (discarded_keeps t f) down_long;
          table = table_set m words6 0 0 (table_set m words5 0 a table5);
          whole = whole_lock m words6 0 0 (omega arith) (whole_lock m words5 0 a (omega arith) (whole_slab m words4 f no_slab_word table4.cpu_words (let q = table4.length in omega (arith, q, within.1)) no_fit whole4));
          rests = subst (λ (u : World). Rests (discarded t f) b1 u ls) (sym says) off;
        })
        refl refl is.rest.lists.accounted refl
      where
        first : System
        first = machine words4 system.value (set system.locals x (with_slab m system.locals x l1 sweep is.there (bare_hand f) z (InDiscard Unmake (FromAway (ForSweep sweep)))))

        second : System
        second = machine words5 system.value (set system.locals x (record l1 { slab_word = z; run = Some (run_of m system.locals x l1 sweep is.there f z); count = l1.count + if_trimming sweep 1; spot = InDiscard LockDiscard (FromAway (ForSweep sweep)) }))

        third : System
        third = machine words6 values7 (set system.locals x (record l1 { slab_word = z; run = None; count = l1.count + if_trimming sweep 1; spot = InDiscard GiveDiscard (FromAway (ForSweep sweep)) }))

        last : Option FrameRun → System
        last run = machine words7 values7 (set system.locals x (record l1 { slab_word = z; run = run; count = l1.count + if_trimming sweep 1; spot = InPutAway GiveAway (ForSweep sweep) }))

        end : System
        end = last l.run

        slab_there : slab_of t f ≡ Some (record (down.there s b w ls k l.cpu f resting consistent inside cpu current plain long is.rest.beside.tids some).slab { frozen = false })
        slab_there = down.slab_t s b w ls k l.cpu f resting consistent inside cpu current plain long is.rest.beside.tids some

        in_slabs : f < length t.slabs
        in_slabs = let q = down_long.slabs in omega (arith, q, within.1)

        in_frees : f < length t.frees
        in_frees = let q = down_long.frees in omega (arith, q, within.1)

        at_cache : (down.there s b w ls k l.cpu f resting consistent inside cpu current plain long is.rest.beside.tids some).slab.cache ≡ k
        at_cache = (down.there s b w ls k l.cpu f resting consistent inside cpu current plain long is.rest.beside.tids some).cache ∙ cache

        off : Rests (discarded t f) b1 (gone.v t b1 v ls f) ls
        off = gone.rests_discarded t b1 v ls f down_rests in_slabs in_frees
            (no_value t f _ (down.down s b w ls k l.cpu f resting consistent inside cpu current plain long is.rest.beside.tids some) slab_there (ap (checked_of s) at_cache ∙ plain))
            (down.off_nodes s b w ls k l.cpu f resting consistent inside cpu current plain long is.rest.beside.tids some)

        by : (ℕ → SlabWord) → (ℕ → LockValue) → World
        by slabs values = record v { slab = slabs; value = values }

        over : World → World
        over u = set_lock (record u { slab = update u.slab f no_slab_word; value = values7 }) j 0

        order_here : order_for (m.layout k) z.objects ≡ order_of t f
        order_here = sym (gone.order_is t b1 v ls down_rests f (subst (λ (y : SlabWord). 1 ≤ y.objects) (sym (update_same w.slab f e)) some)
            ∙ ap (λ (y : SlabWord). order_for (w.setup.layout y.cache) y.objects) (update_same w.slab f e) ∙ (λ i. order_for ((setup_is m system.value system.words i).layout (cache i)) z.objects))

        pool_is : with_put (pool_in (system.value pool_lock)) (run_of m system.locals x l1 sweep is.there f z) ≡ gone.pool t b1 v ls f
        pool_is = ap (λ y. with_put (pool_in y) (run_of m system.locals x l1 sweep is.there f z)) (sym (ap (λ (value : ℕ → LockValue). value 0) (value_is m system.value system.words)) ∙ resting.values 0 (omega arith))
            ∙ ap (λ order. with_put s.pool (record { frame = f; order = order; objects = z.objects })) order_here

        says : given_back m j words7 values7 ≡ gone.v t b1 v ls f
        says = ap (λ (u : World). set_lock u j 0) says7
            ∙ ap (λ (u : World). record u { slab = update u.slab f no_slab_word; value = values7 }) says_thawed
            ∙ ap (λ y. by (update (update w.slab f y) f no_slab_word) values7) (thaw_is false (λ i. not (some_head i || (spare_is ∙ goes) i)))
            ∙ ap (by (update (update w.slab f e) f no_slab_word)) (λ i. update (sym (value_is m system.value system.words) i) pool_lock (Pool (pool_is i)))

    -- ---- whichever it is

    no_trim : if_trimming sweep 0 ≡ 0
    no_trim = by sweep
      where
        by : (sweep : Sweep) → if_trimming sweep 0 ≡ 0
        by Trimming = refl
        by Flushing = refl

    abbrev told : Bool → ℕ
    told spare = l.count + (if_flushing sweep 1 + if_trimming sweep (cond spare 1 0))

    told_none : l1.count ≡ told false
    told_none = omega (arith, no_trim)

    told_one : l1.count + if_trimming sweep 1 ≡ told true
    told_one = omega arith

    abbrev Leads : State → ℕ → Type 0
    Leads y count = ComesTo opening s b system x y b1 (standing count (InOffline TakeCurrent sweep))

    on_same : with_node t k fs ≡ put_on_node t k f (own_free s f)
    on_same = by (own_free s f) (resting.own f).chain
      where
        by : (xs : List ℕ) → IsChain (pointer w z.cache f) z.head xs → with_node t k fs ≡ put_on_node t k f xs
        by [] none = ap (λ b. with_node t k (cond b (f ∷ node_of s k) (node_of s k ++ f ∷ []))) (eq-eqb z.head 0 none)
        by (y ∷ ys) chain = ap (λ b. with_node t k (cond b (f ∷ node_of s k) (node_of s k ++ f ∷ []))) (ne_eqb z.head 0 (λ q. absurd (let first = chain.0 in omega (arith, q, first))))

    puts_where : Leads (put_where t min k f (own_free s f)) (told spare)
    puts_where = elim (cases_Bool (eqb head 0)) [
      | inl full ↦
          let none = none_full full in
          let not_spare : spare ≡ false = ap (λ h. h && nat_le min (length (node_of t k))) (ne_eqb (inuse_of t f) 0 (λ q. absurd (unused none q))) in
          let not_has : has ≡ false = ap (λ xs. nat_lt 0 (length xs)) (own_t ∙ none) in
          subst (λ y. Leads y (told spare)) (sym (cond-false {A = State} spare (discarded t f) _ not_spare ∙ cond-false {A = State} has (put_on_node t k f (own_free s f)) t not_has))
          (subst (λ q. Leads t (told q)) (sym not_spare) (subst (Leads t) told_none (puts_full full)))
      | inr some_head ↦
          elim (cases_Bool spare) [
            | inl goes ↦ subst (λ y. Leads y (told spare)) (sym (cond-true {A = State} spare (discarded t f) _ goes)) (subst (λ q. Leads (discarded t f) (told q)) (sym goes) (subst (Leads (discarded t f)) told_one (puts_back some_head goes)))
            | inr kept ↦
                let is_has : has ≡ true = lt-ltb 0 (length (own_free t f)) (subst (λ xs. 0 < length xs) (sym own_t) (some_else some_head)) in
                subst (λ y. Leads y (told spare)) (sym (cond-false {A = State} spare (discarded t f) _ kept ∙ cond-true {A = State} has (put_on_node t k f (own_free s f)) t is_has))
                (subst (λ q. Leads (put_on_node t k f (own_free s f)) (told q)) (sym kept) (subst (λ y. Leads y (told false)) on_same (subst (Leads (with_node t k fs)) told_none (puts_on some_head kept))))
          ]
    ]
      where
        unused : both ≡ [] → inuse_of t f ≡ 0 → ⊥
        unused none q =
            let u = (resting.own f).in_use in
            let lengths = down.sums s b w ls k l.cpu f resting consistent inside cpu current plain long is.rest.beside.tids some in
            let short = ap (length {A = ℕ}) none in
            omega (arith, u, lengths, short, used, q, some)

    puts_current : PutsAway opening s b system x l sweep
    puts_current = record {
      cpu_word = c;
      slab_word = z;
      comes = subst (λ o. ComesTo opening s b system x (option_map_or (put_away_slab s min k l.cpu) o s) (cond (is_some o) (grown b n 1) b) (standing (l.count + option_map_or (told_of_slab s sweep k l.cpu) o 0) (InOffline TakeCurrent sweep))) (sym current) puts_where;
    }

  puts_away : PutsAway opening s b system x l sweep
  puts_away = by lists.current refl
    where
      by : (o : Option ℕ) → lists.current ≡ o → PutsAway opening s b system x l sweep
      by None none = puts_nothing none
      by (Some g) current = puts_current (current ∙ ap Some (sym (current_frame f g (sym (begun.cpu_is opening s b system x l sweep is).current ∙ current))))

pub put_away_alone : CurrentSlabsArePutAway
put_away_alone opening s b system x l sweep is = puts_away opening s b system x l sweep is
