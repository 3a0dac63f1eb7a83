-- Putting away a slab in hand with its chain: `deactivate_slab` of Linux 6.1.
use Rattle.std.specs.Prelude.{ℕ, ◌-◌, Bool, false, not, ◌&&◌, ◌||◌, ◌==◌, nat_le, if◌then◌else◌, List, [], ◌∷◌, ◌++◌, length}
use Rattle.slub_words.specs.declared.slab.SlabWord.{SlabWord}
use Rattle.slub_core.specs.declared.local.Hand.{Hand}
use Rattle.slub_core.specs.declared.step.Step.{Step}
use Rattle.slub_core.specs.declared.step.Answer.{Answer}
use Rattle.slub_core.specs.declared.step.Answer.TheVariants.{Word, Done, Won, Lost}
use Rattle.slub_core.specs.declared.spot.Spot.{Spot}
use Rattle.slub_core.specs.declared.spot.Spot.TheVariants.{Between, InAlloc, InPutAway, InDiscard, InOffline}
use Rattle.slub_core.specs.declared.spot.AllocSpot.TheVariants.{LoadAgain}
use Rattle.slub_core.specs.declared.spot.Away.{Away}
use Rattle.slub_core.specs.declared.spot.Away.TheVariants.{ForInstall, ForSpent, ForSweep}
use Rattle.slub_core.specs.declared.spot.PutAwaySpot.{PutAwaySpot}
use Rattle.slub_core.specs.declared.spot.PutAwaySpot.TheVariants.{WalkChain, LockAway, LoadAway, LinkLast, Unfreeze, PutNode, GiveAway}
use Rattle.slub_core.specs.declared.spot.Discard.TheVariants.{FromAway}
use Rattle.slub_core.specs.declared.spot.DiscardSpot.TheVariants.{Unmake}
use Rattle.slub_core.specs.declared.spot.OfflineSpot.TheVariants.{TakeCurrent}
use Rattle.slub_core.specs.Setup.{Setup}
use Rattle.slub_core.specs.Words.{slab_in}
use Rattle.slub_core.specs.World.{LockValue}
use Rattle.slub_core.specs.Local.{Local, Turn, Change, hand_of, at, set_hand, less_hand, bare_hand, goes, stays}
use Rattle.slub_core.specs.Ops.{load_slab, change_slab, load_pointer, store_pointer, take_node, give_node, no_step}
use Rattle.slub_core.specs.Alloc.{reached, walked_on, found_at, way_of_away, node_of, with_node}

-- the node list has as many slabs as it is to keep (`n->nr_partial >= s->min_partial` of
-- `deactivate_slab`, `__slab_free` and `__unfreeze_partials`)
abbrev pub has_enough : Setup → (ℕ → LockValue) → Local → Bool
has_enough m value l = nat_le (m.layout l.cache).min_partial (length (node_of value l))

-- the chain in hand comes before the slab's own freelist (stage two of `deactivate_slab`)
abbrev pub head_away : Hand → SlabWord → ℕ
head_away hand s = if hand.head == 0 then s.head else hand.head

-- the objects of the chain are in use no more (`free_delta` of `deactivate_slab`)
abbrev pub inuse_away : Hand → SlabWord → ℕ
inuse_away hand s = s.inuse - hand.length

-- no object would be in use, and the list has enough slabs without it (M_FREE of `deactivate_slab`)
abbrev pub is_to_discard : Setup → (ℕ → LockValue) → Local → Bool
is_to_discard m value l = (inuse_away (hand_of l) l.slab_word == 0) && has_enough m value l

-- it isn't frozen any more (`deactivate_slab`); it is marked as listed where it has a free object
-- and isn't to be discarded (profile)
abbrev pub unfrozen_word : Setup → (ℕ → LockValue) → Local → SlabWord
unfrozen_word m value l =
    record l.slab_word {
      head = head_away (hand_of l) l.slab_word;
      inuse = inuse_away (hand_of l) l.slab_word;
      frozen = false;
      listed = not ((head_away (hand_of l) l.slab_word == 0) || is_to_discard m value l);
    }

-- the end of the chain is stored first, where there is a chain (`freelist_tail` of
-- `deactivate_slab`)
abbrev pub way_of_end : Hand → Away → Spot
way_of_end hand away = if hand.head == 0 then InPutAway Unfreeze away else InPutAway LinkLast away

-- a slab with no free object is on no list and leaves the hand, an empty one that isn't needed is
-- discarded, any other goes to the list (`M_FULL_NOLIST`, `M_FREE`, `M_PARTIAL` of
-- `deactivate_slab`)
abbrev pub unfrozen : Setup → (ℕ → LockValue) → Local → Away → Local
unfrozen m value l away =
    if head_away (hand_of l) l.slab_word == 0 then at (less_hand l) (InPutAway GiveAway away)
    else at (set_hand l (bare_hand (hand_of l).frame)) (if is_to_discard m value l
    then InDiscard Unmake (FromAway away) else InPutAway PutNode away)

-- where a slab that was put away leads to (`retry_load_slab:` of `___slab_alloc`,
-- `__flush_cpu_slab`; after spent transaction ids nowhere: profile)
abbrev pub way_of_put : Away → Spot
way_of_put ForInstall = InAlloc LoadAgain
way_of_put ForSpent = Between
way_of_put (ForSweep sweep) = InOffline TakeCurrent sweep

-- ---- spot by spot

-- the step at each spot of putting a slab away (`deactivate_slab`)
abbrev pub put_away_step : Setup → (ℕ → LockValue) → Local → PutAwaySpot → Step
put_away_step m value l WalkChain =
    load_pointer m l.cache (hand_of l).frame (reached (hand_of l) - 1)
put_away_step m value l LockAway = take_node l
put_away_step m value l LoadAway = load_slab (hand_of l).frame
put_away_step m value l LinkLast =
    store_pointer m l.cache (hand_of l).frame ((hand_of l).last - 1) l.slab_word.head
put_away_step m value l Unfreeze = change_slab l (hand_of l).frame (unfrozen_word m value l)
put_away_step m value l PutNode = no_step
put_away_step m value l GiveAway = give_node l

-- where its answer leads (`deactivate_slab`)
abbrev pub put_away_advance : Setup → (ℕ → LockValue) → Local → PutAwaySpot → Away → Answer → Turn
put_away_advance m value l WalkChain away (Word x) =
    let hand = walked_on (hand_of l)
    (found_at m l.cache (hand_of l).frame (reached (hand_of l) - 1) x) in
    goes (at (set_hand l hand) (way_of_away hand away))
put_away_advance m value l LockAway away Won = goes (at l (InPutAway LoadAway away))
put_away_advance m value l LoadAway away (Word x) =
    goes (record l { slab_word = slab_in x; spot = way_of_end (hand_of l) away })
put_away_advance m value l LinkLast away Done = goes (at l (InPutAway Unfreeze away))
put_away_advance m value l Unfreeze away Won = goes (unfrozen m value l away)
-- the last free pointer is set again, to the head that is loaded then
put_away_advance m value l Unfreeze away (Lost x) = goes (at l (InPutAway LoadAway away))
put_away_advance m value l GiveAway away Done = goes (at l (way_of_put away))
put_away_advance m value l s away a = goes l

-- to the head of the list, or to its tail where the slab's own freelist wasn't empty (`add_partial`
-- of `deactivate_slab`; that the exchange that wins chooses is profile)
abbrev pub put_on_node : SlabWord → ℕ → List ℕ → List ℕ
put_on_node s frame frames = if s.head == 0 then frame ∷ frames else frames ++ frame ∷ []

-- the slab is put on the list, under the node lock (`add_partial` of `deactivate_slab`)
abbrev pub put_away_at_once : (ℕ → LockValue) → Local → PutAwaySpot → Away → Change
put_away_at_once value l PutNode away =
    stays (with_node value l (put_on_node l.slab_word (hand_of l).frame (node_of value l)))
    (at (less_hand l) (InPutAway GiveAway away))
put_away_at_once value l s away = stays value l
