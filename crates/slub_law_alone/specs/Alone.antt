-- A worker that makes its turns alone, with no turn of another worker in between: where it begins,
-- and the lists in which the machine comes to rest.
use Rattle.std.specs.Prelude.{◌≡◌, ◌≢◌, ℕ, ◌+◌, ◌*◌, ◌^◌, ◌<◌, true, false, List, ◌∷◌, length, drop, replicate, slice_index_or, slice_set, None, Some}
use Rattle.std.specs.Option.{option_map_or}
use Rattle.slub_trace.specs.declared.reply.Reply.{Reply}
use Rattle.slub_lists.specs.declared.lists.Held.{Held}
use Rattle.slub_lists.specs.State.{State}
use Rattle.slub_lists.specs.Alloc.{checked_of}
use Rattle.slub_lists.specs.Coherent as plain
use Rattle.slub_lists.specs.Places.{layout_at}
use Rattle.slub_lists.specs.Words.{is_word, word_at}
use Rattle.slub_core.specs.declared.call.Call.{Call}
use Rattle.slub_core.specs.declared.local.Known.{Known}
use Rattle.slub_core.specs.declared.spot.Spot.TheVariants.{Between}
use Rattle.slub_core.specs.Calls.{call_place}
use Rattle.slub_core.specs.Setup.{Setup}
use Rattle.slub_words.specs.Words.{slab_bits}
use Rattle.slub_cpu_partial.specs.Strings.{list_bits}
use Rattle.slub_core.specs.Words.{slab_base, list_base, slab_in, list_in}
use Rattle.slub_core.specs.World.{World}
use Rattle.slub_core.specs.Local.{Local, nobody}
use Rattle.slub_core.specs.Steps.{rested}
use Rattle.slub_core.specs.Run.{System, Pick, run, idle}
use Rattle.slub_core.specs.Law.{IsCoherentSystem}
use Rattle.slub_law_opening.specs.Opening.{Beside, IsBeside, setup_of, tid_of}
use Rattle.slub_law_opening.specs.Table.{RestsIn}

-- ---- turns of one worker

abbrev pub own_pick : ℕ → Pick
own_pick worker = record { worker = worker; refused = false; tries = false }

-- so many turns of a worker, one after the other, and none of another worker
abbrev pub alone : Setup → ℕ → ℕ → System → System
alone m worker turns system = run m system (replicate turns (own_pick worker))

abbrev pub worker_at : System → ℕ → Local
worker_at system worker = slice_index_or system.locals worker idle

-- what the worker knows at the place that the call names: the object that it is given or holds
abbrev pub known_at : Local → Call → Known
known_at l call = slice_index_or l.known (call_place call) nobody

-- what the worker knows after so many turns alone
abbrev pub known_after : Setup → System → ℕ → ℕ → List Known
known_after m system worker turns = (worker_at (alone m worker turns system) worker).known

-- what is known of the object that the lists have under this number, by who holds it
abbrev pub known_as : ℕ → Held → Known
known_as object held = record {
  object = object;
  frame = held.frame;
  index = held.index;
  cache = held.cache;
  held = true;
}

abbrev pub known_under : State → ℕ → Known
known_under s object = option_map_or (known_as object) (plain.held_under s object) nobody

-- ---- where it begins

-- no slab word and no list word has a bit beside its fields: a worker that has read it and finds it
-- again as it was wins the exchange
pub record AreWhole (m : Setup) (words : List ℕ) : Type 0 where
  pub slab : (frame : ℕ) → frame < m.frames
      → let x = slice_index_or words (slab_base + frame) 0 in slab_bits (slab_in x) ≡ x
  pub list : (n : ℕ) → n < m.cpu_words
      → let x = slice_index_or words (list_base + n) 0 in list_bits (list_in x) ≡ x

-- coherent lists, and a machine in words that rests in them: no worker is in a call. It is one of a
-- round that began in the state `opening`
pub record IsAtRest (opening : World) (s : State) (b : Beside) (system : System) : Type 0 where
  pub lists : plain.IsCoherent s
  pub beside : IsBeside s b
  pub rests : RestsIn s b system
  pub whole : AreWhole (setup_of s b) system.words
  pub coherent : IsCoherentSystem (setup_of s b) opening system

-- this is the next call that the worker has to make
pub record IsNext (system : System) (worker : ℕ) (call : Call) : Type 0 where
  pub there : worker < length system.locals
  pub calls : List Call
  pub todo : (worker_at system worker).todo ≡ call ∷ calls

-- so many changes of a CPU word are made before its transaction ids are spent
abbrev pub HasIds : Beside → ℕ → ℕ → Type 0
HasIds b n times = tid_of b n + (times + 1) * b.step < 2 ^ 32

-- ---- where it ends

-- the worker had this reply to its call, which is over, and then at once those to further calls
-- that take no step
pub record HasReply (m : Setup) (before : Local) (call : Call) (reply : Reply)
    (after : Local) : Type 0 where
  pub told : Local
  pub between : told.spot ≡ Between
  pub number : told.worker ≡ before.worker
  pub done : told.done ≡ record { call = call; reply = reply } ∷ before.done
  pub todo : told.todo ≡ drop 1 before.todo
  pub rested : after ≡ rested m told

-- by so many turns of the worker alone it has its reply, and the machine rests in these lists. No
-- other worker has changed
pub record Replies (opening : World) (s : State) (b : Beside) (system : System) (worker : ℕ)
    (call : Call) (turns : ℕ) (reply : Reply) (after : State) (d : Beside) : Type 0 where
  pub setup : setup_of after d ≡ setup_of s b
  pub rest : IsAtRest opening after d (alone (setup_of s b) worker turns system)
  pub replied : HasReply (setup_of s b) (worker_at system worker) call reply
      (worker_at (alone (setup_of s b) worker turns system) worker)
  pub others : (alone (setup_of s b) worker turns system).locals ≡ slice_set system.locals worker
      (worker_at (alone (setup_of s b) worker turns system) worker)

-- ---- words of an object that was given

-- a word of an object of an unchecked cache is the same in both
abbrev pub HasWord : State → State → Held → ℕ → Type 0
HasWord s t held word = let p = word_at (layout_at s held.cache) held word in
    checked_of s held.cache ≡ None → is_word (layout_at s held.cache) word ≡ true
    → slice_index_or t.memory p 0 ≡ slice_index_or s.memory p 0

-- the same lists, and the same words of every object but the one under this number: what an object
-- has in it when it is given, nobody knows
pub record IsGiven (object : ℕ) (s t : State) : Type 0 where
  pub lists : t ≡ record s { memory = t.memory }
  pub sized : length t.memory ≡ length s.memory
  pub words : (other word : ℕ) (held : Held) → other ≢ object
      → plain.held_under s other ≡ Some held → HasWord s t held word
