-- A worker: where it stands, what it has noted, what it knows and what it has in hand.
use Rattle.std.specs.Prelude.{ℕ, Bool, false, List, [], ◌∷◌, slice_index_or, slice_set, drop, Option, Some, None, true}
use Rattle.slub_words.specs.declared.cpu.CpuWord.{CpuWord}
use Rattle.slub_words.specs.declared.slab.SlabWord.{SlabWord}
use Rattle.slub_cpu_partial.specs.declared.words.ListWord.{ListWord}
use Rattle.slub_object_layout.specs.Layout.{address_of}
use Rattle.slub_trace.specs.declared.reply.Reply.{Reply}
use Rattle.slub_core.specs.declared.call.Call.{Call}
use Rattle.slub_core.specs.declared.call.Call.TheVariants.{Flush}
use Rattle.slub_core.specs.declared.local.Known.{Known}
use Rattle.slub_core.specs.declared.local.Hand.{Hand}
use Rattle.slub_core.specs.declared.local.PartialString.{PartialString}
use Rattle.slub_core.specs.declared.local.FrameRun.{FrameRun}
use Rattle.slub_core.specs.declared.local.Answered.{Answered}
use Rattle.slub_core.specs.declared.spot.Spot.{Spot}
use Rattle.slub_core.specs.Setup.{Setup}
use Rattle.slub_core.specs.World.{LockValue}

-- what is so of a worker in plain data
pub record Local : Type 0 where
  -- its number, from 0 on, and its next step
  pub worker : ℕ
  pub spot : Spot
  -- the cache and the CPU of its call; in a trim or a flush those that it has come to
  pub cache : ℕ
  pub cpu : ℕ
  -- the place of the call's object among those that it knows
  pub place : ℕ
  -- the call is a try: of the fast path alone, if it allocates from a cache that isn't checked
  pub fast : Bool
  -- noted: the words that it loaded last, and the index plus one that a free pointer had
  pub cpu_word : CpuWord
  pub slab_word : SlabWord
  pub list_word : ListWord
  pub next : ℕ
  -- the objects that it was given or took from the board in this round
  pub known : List Known
  -- in hand: slabs, the last one first; a string of slabs; a run of frames
  pub hands : List Hand
  pub string : Option PartialString
  pub run : Option FrameRun
  -- of an allocation: how many slabs it has put on the CPU's partial list
  pub put : ℕ
  -- of a flush: the place in the order of caches; of a trim or a flush: what it is to tell
  pub turn : ℕ
  pub count : ℕ
  -- of a trim: how many free objects each slab has that it has come by
  pub scanned : List ℕ
  -- the calls without a reply, that of the call that it is in first, and those with one, the last
  -- one first
  pub todo : List Call
  pub done : List Answered

-- a worker as the law sees it: with the chains in hand, one for each slab, and the slabs of the
-- string in hand. No program has these two
pub record Worker : Type 0 where
  pub local : Local
  pub chains : List (List ℕ)
  pub string : List ℕ

-- ---- where there is none

abbrev pub nobody : Known
nobody = record { object = 0; frame = 0; index = 0; cache = 0; held = false }

abbrev pub no_hand : Hand
no_hand = record { frame = 0; head = 0; last = 0; length = 0; walked = false }

abbrev pub no_string : PartialString
no_string = record { front = 0; count = 0; cursor = 0; place = 0; link = None }

abbrev pub no_run : FrameRun
no_run = record { frame = 0; order = 0; objects = 0 }

abbrev pub no_call : Call
no_call = Flush 0

-- ---- what is read of a worker

-- the object of its call, as far as it knows it
abbrev pub here : Local → Known
here l = slice_index_or l.known l.place nobody

-- the slab that it works on, and the one that it keeps beside
abbrev pub hand_of : Local → Hand
hand_of l = slice_index_or l.hands 0 no_hand

abbrev pub beside : Local → Hand
beside l = slice_index_or l.hands 1 no_hand

abbrev pub string_in : Option PartialString → PartialString
string_in None = no_string
string_in (Some string) = string

abbrev pub string_of : Local → PartialString
string_of l = string_in l.string

abbrev pub run_in : Option FrameRun → FrameRun
run_in None = no_run
run_in (Some run) = run

abbrev pub run_of : Local → FrameRun
run_of l = run_in l.run

-- its call
abbrev pub call_of : Local → Call
call_of l = slice_index_or l.todo 0 no_call

-- where an object that it knows stands, in bytes
abbrev pub address_in : Setup → Known → ℕ
address_in m k = address_of k.frame k.index (m.layout k.cache)

-- the chain of the slab that it works on
abbrev pub chain_of : Worker → List ℕ
chain_of x = slice_index_or x.chains 0 []

-- ---- changes

-- it goes to a spot
abbrev pub at : Local → Spot → Local
at l spot = record l { spot = spot }

-- it holds the object of this slot
abbrev pub gets : Local → ℕ → ℕ → ℕ → Local
gets l cache frame index =
    record l {
      known = slice_set l.known l.place (record {
        object = (here l).object;
        frame = frame;
        index = index;
        cache = cache;
        held = true;
      });
    }

-- it holds the object of its call no more
abbrev pub loses : Local → Local
loses l = record l { known = slice_set l.known l.place (record (here l) { held = false }) }

-- it takes a slab in hand, works on another form of it, or lets it go
abbrev pub with_hand : Local → Hand → Local
with_hand l hand = record l { hands = hand ∷ l.hands }

abbrev pub set_hand : Local → Hand → Local
set_hand l hand = record l { hands = slice_set l.hands 0 hand }

abbrev pub less_hand : Local → Local
less_hand l = record l { hands = drop 1 l.hands }

-- a slab in hand with a chain from a head
abbrev pub hand_from : ℕ → ℕ → Hand
hand_from frame head = record { frame = frame; head = head; last = 0; length = 0; walked = false }

-- a slab in hand with no chain
abbrev pub bare_hand : ℕ → Hand
bare_hand frame = hand_from frame 0

-- the call that it is in has a reply
abbrev pub answered : Local → Reply → Local
answered l reply = record l {
  todo = drop 1 l.todo;
  done = record { call = call_of l; reply = reply } ∷ l.done;
}

abbrev pub noted : Local → Option Reply → Local
noted l None = l
noted l (Some reply) = answered l reply

-- where a step leads: the worker after it, and the reply that its call has by it
pub record Turn : Type 0 where
  pub local : Local
  pub reply : Option Reply

abbrev pub goes : Local → Turn
goes l = record { local = l; reply = None }

abbrev pub tells : Local → Reply → Turn
tells l reply = record { local = l; reply = Some reply }

-- what a worker does at once, under a lock: the values of the locks and the worker after it, and
-- the reply
pub record Change : Type 0 where
  pub value : ℕ → LockValue
  pub local : Local
  pub reply : Option Reply

abbrev pub stays : (ℕ → LockValue) → Local → Change
stays value l = record { value = value; local = l; reply = None }
