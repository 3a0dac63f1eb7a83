-- Moving a string of slabs to the node list, its empty slabs to the pool: `__unfreeze_partials` of
-- Linux 6.1.
use Rattle.std.specs.Prelude.{ℕ, ◌-◌, ◌%◌, ◌^◌, true, ◌&&◌, ◌==◌, if◌then◌else◌, [], ◌∷◌, ◌++◌, Option, Some, None}
use Rattle.slub_words.specs.declared.slab.SlabWord.{SlabWord}
use Rattle.slub_core.specs.declared.local.PartialString.{PartialString}
use Rattle.slub_core.specs.declared.step.Step.{Step}
use Rattle.slub_core.specs.declared.step.Answer.{Answer}
use Rattle.slub_core.specs.declared.step.Answer.TheVariants.{Word, Done, Won, Lost}
use Rattle.slub_core.specs.declared.spot.Spot.{Spot}
use Rattle.slub_core.specs.declared.spot.Spot.TheVariants.{InDiscard, InMoveSet}
use Rattle.slub_core.specs.declared.spot.Discard.TheVariants.{FromMove}
use Rattle.slub_core.specs.declared.spot.DiscardSpot.TheVariants.{Unmake}
use Rattle.slub_core.specs.declared.spot.MoveSet.{MoveSet}
use Rattle.slub_core.specs.declared.spot.MoveSet.TheVariants.{ForFree, ForOffline}
use Rattle.slub_core.specs.declared.spot.MoveSetSpot.{MoveSetSpot}
use Rattle.slub_core.specs.declared.spot.MoveSetSpot.TheVariants.{LockMove, ChooseFront, FollowSet, LoadMoved, ListSlab, PutTail, GiveMove}
use Rattle.slub_core.specs.Setup.{Setup}
use Rattle.slub_core.specs.Words.{slab_in}
use Rattle.slub_core.specs.World.{LockValue}
use Rattle.slub_core.specs.Local.{Local, Turn, Change, hand_of, string_of, at, with_hand, less_hand, bare_hand, goes, stays}
use Rattle.slub_core.specs.Ops.{load_slab, change_slab, load_link, take_node, give_node, no_step}
use Rattle.slub_core.specs.Alloc.{taken_string, node_of, with_node}
use Rattle.slub_core.specs.Offline.{next_swept}
use Rattle.slub_core.specs.PutAway.{has_enough}
use Rattle.slub_core.specs.Free.{alone}

-- a slab that is to stand on the node list is marked (profile: `__unfreeze_partials` takes its
-- frozen mark away)
abbrev pub listed_word : SlabWord → SlabWord
listed_word s = record s { listed = true }

-- an empty slab is discarded, where the list has enough without it (`__unfreeze_partials`)
abbrev pub way_of_moved : Setup → (ℕ → LockValue) → Local → MoveSet → SlabWord → Spot
way_of_moved m value l move s =
    if (s.inuse == 0) && has_enough m value l then InDiscard Unmake (FromMove move)
    else InMoveSet ListSlab move

-- the front is taken off the string; the last slab of it at once, since nothing follows
-- (`__unfreeze_partials`)
abbrev pub front_taken : Local → MoveSet → Option PartialString → Local
front_taken l move None = at l (InMoveSet GiveMove move)
front_taken l move (Some string) =
    if string.count == 1 then record (with_hand l (bare_hand string.front)) {
      string = None;
      spot = InMoveSet LoadMoved move;
    }
    else at l (InMoveSet FollowSet move)

-- a free goes on with the slab that it has in hand (`put_cpu_partial`; the kernel has pushed it
-- already), a sweep with the next CPU (`flush_all_cpus_locked`) or cache (`slub_cpu_dead`)
abbrev pub after_move : Setup → Local → MoveSet → Turn
after_move m l ForFree = goes (alone l)
after_move m l (ForOffline sweep) = next_swept m l sweep

-- ---- spot by spot

-- the step at each spot of moving a string (`__unfreeze_partials`)
abbrev pub move_set_step : Local → MoveSetSpot → Step
move_set_step l LockMove = take_node l
move_set_step l ChooseFront = no_step
move_set_step l FollowSet = load_link (string_of l).front
move_set_step l LoadMoved = load_slab (hand_of l).frame
move_set_step l ListSlab = change_slab l (hand_of l).frame (listed_word l.slab_word)
move_set_step l PutTail = no_step
move_set_step l GiveMove = give_node l

-- where its answer leads (`__unfreeze_partials`)
abbrev pub move_set_advance : Setup → (ℕ → LockValue) → Local → MoveSetSpot → MoveSet → Answer
    → Turn
move_set_advance m value l LockMove move Won = goes (at l (InMoveSet ChooseFront move))
move_set_advance m value l FollowSet move (Word x) =
    goes (record (with_hand l (bare_hand (string_of l).front)) {
      string = Some
          (taken_string (x % 2 ^ 16) ((string_of l).count - 1));
      spot = InMoveSet LoadMoved move;
    })
move_set_advance m value l LoadMoved move (Word x) =
    goes (record l { slab_word = slab_in x; spot = way_of_moved m value l move (slab_in x) })
move_set_advance m value l ListSlab move Won = goes (at l (InMoveSet PutTail move))
move_set_advance m value l ListSlab move (Lost x) = goes (at l (InMoveSet LoadMoved move))
move_set_advance m value l GiveMove move Done = after_move m l move
move_set_advance m value l s move a = goes l

-- what is done under the node lock without a step: a front is taken off the string, a slab goes to
-- the list's tail (`add_partial` of `__unfreeze_partials`)
abbrev pub move_set_at_once : (ℕ → LockValue) → Local → MoveSetSpot → MoveSet → Change
move_set_at_once value l ChooseFront move = stays value (front_taken l move l.string)
move_set_at_once value l PutTail move =
    stays (with_node value l (node_of value l ++ (hand_of l).frame ∷ []))
    (at (less_hand l) (InMoveSet ChooseFront move))
move_set_at_once value l s move = stays value l
