-- Putting a string of slabs before a CPU's partial list: `put_cpu_partial` of Linux 6.1, without a
-- lock.
use Rattle.std.specs.Prelude.{ℕ, ◌+◌, ◌%◌, ◌^◌, Bool, false, ◌==◌, nat_lt, if◌then◌else◌, Option, Some, None}
use Rattle.slub_cpu_partial.specs.declared.words.ListWord.{ListWord}
use Rattle.slub_core.specs.declared.local.PartialString.{PartialString}
use Rattle.slub_core.specs.declared.step.Step.{Step}
use Rattle.slub_core.specs.declared.step.Answer.{Answer}
use Rattle.slub_core.specs.declared.step.Answer.TheVariants.{Word, Done, Won, Lost}
use Rattle.slub_core.specs.declared.spot.Spot.{Spot}
use Rattle.slub_core.specs.declared.spot.Spot.TheVariants.{Between, InAlloc, InPutOnList}
use Rattle.slub_core.specs.declared.spot.AllocSpot.TheVariants.{LoadKept, PopNode}
use Rattle.slub_core.specs.declared.spot.PutOnList.{PutOnList}
use Rattle.slub_core.specs.declared.spot.PutOnList.TheVariants.{OfRest, OfNode, OfFree}
use Rattle.slub_core.specs.declared.spot.PutOnListSpot.{PutOnListSpot}
use Rattle.slub_core.specs.declared.spot.PutOnListSpot.TheVariants.{LoadList, WalkString, LinkString, PushString}
use Rattle.slub_core.specs.Words.{list_in}
use Rattle.slub_core.specs.Local.{Local, Turn, string_of, at, goes}
use Rattle.slub_core.specs.Ops.{load_list, change_list, load_link, store_link}

-- the last link is known to lead to this frame, or to nothing where the frame is 0 (profile)
abbrev pub leads_to : Option ℕ → ℕ → Bool
leads_to None front = false
leads_to (Some link) front = link == front

-- the walk to the string's last slab goes on, or its link is stored (profile: `put_cpu_partial` has
-- one slab)
abbrev pub way_of_string : PartialString → PutOnList → Spot
way_of_string string put = if nat_lt string.place string.count then InPutOnList WalkString put
    else InPutOnList LinkString put

-- nothing is stored where the string leads to the list's front already (profile: `put_cpu_partial`
-- always stores `slab->next`)
abbrev pub way_of_front : PartialString → ℕ → PutOnList → Spot
way_of_front string front put = if leads_to string.link front then InPutOnList PushString put
    else way_of_string string put

-- the string comes before the list, which has as many slabs more (`slab->slabs` of
-- `put_cpu_partial`)
abbrev pub longer_list : Local → ListWord
longer_list l = record {
  front = (string_of l).front;
  count = l.list_word.count + (string_of l).count;
}

-- where a string that was put on the list leads to: on in `___slab_alloc` or `get_partial_node`, or
-- to the end of `__slab_free`
abbrev pub way_of_pushed : PutOnList → Spot
way_of_pushed OfRest = InAlloc LoadKept
way_of_pushed OfNode = InAlloc PopNode
way_of_pushed OfFree = Between

-- whether it counts among the slabs that the node gave (`partial_slabs` of `get_partial_node`)
abbrev pub puts : PutOnList → ℕ
puts OfRest = 0
puts OfNode = 1
puts OfFree = 0

-- a walk along a string goes on to this slab (profile: `put_cpu_partial` has one slab)
abbrev pub with_cursor : PartialString → ℕ → PartialString
with_cursor string frame = record string { cursor = frame; place = string.place + 1 }

-- ---- spot by spot

-- the step at each spot of putting a string on a CPU's list (`put_cpu_partial`; by an exchange in
-- place of the CPU's local lock: profile)
abbrev pub put_on_list_step : Local → PutOnListSpot → Step
put_on_list_step l LoadList = load_list l
put_on_list_step l WalkString = load_link (string_of l).cursor
put_on_list_step l LinkString = store_link (string_of l).cursor l.list_word.front
put_on_list_step l PushString = change_list l (longer_list l)

-- where its answer leads (`put_cpu_partial`)
abbrev pub put_on_list_advance : Local → PutOnListSpot → PutOnList → Answer → Turn
put_on_list_advance l LoadList put (Word x) =
    goes (record l {
      list_word = list_in x;
      spot = way_of_front (string_of l) (list_in x).front put;
    })
put_on_list_advance l WalkString put (Word x) =
    let string = with_cursor (string_of l) (x % 2 ^ 16) in
    goes (record l { string = Some string; spot = way_of_string string put })
put_on_list_advance l LinkString put Done =
    goes (record l {
      string = Some (record (string_of l) { link = Some l.list_word.front });
      spot = InPutOnList PushString put;
    })
put_on_list_advance l PushString put Won =
    goes (record l { string = None; put = l.put + puts put; spot = way_of_pushed put })
-- the last slab and what its link leads to stay known
put_on_list_advance l PushString put (Lost x) = goes (at l (InPutOnList LoadList put))
put_on_list_advance l s put a = goes l
