use Rattle.std.proofs.Common.{◌≡◌, ◌+◌}
use Rattle.slub_recorded.specs.Groups.{FitTrace}
use Rattle.slub_recorded.proofs.Grouping.{Parted, members_of}
use Rattle.slub_recorded.proofs.HowMany.{Filled}
use Rattle.slub_recorded.proofs.groups.group.Given as goal

abbrev pub invariant-loop-number : goal.invariant-loop-number
invariant-loop-number l = record {
  fits : FitTrace l.chosen.items;
  count : l.groups + 1 ≡ l.number;
  parted : Parted (members_of l.initial.rest.items) l.group l.groups l.rest.items l.chosen.items;
  filled : Filled (members_of l.initial.rest.items) l.groups;
}
