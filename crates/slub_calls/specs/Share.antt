-- The worker that a share makes.
use Rattle.std.specs.Prelude.{map}
use Rattle.slub_core.specs.Local.{Local}
use Rattle.slub_core.specs.Run.{idle}
use Rattle.slub_calls.specs.declared.share.Share.{Share}
use Rattle.slub_calls.specs.Calls.{room_for}

-- it has the events of the share to come, and knows no more than their objects' numbers
abbrev pub gathered : Share → Local
gathered share = record idle {
  worker = share.worker;
  known = map room_for share.numbers.keys;
  todo = share.calls.items;
}
