use Rattle.std.proofs.Common.{◌≡◌, drop}
use Rattle.slub_law_opening.specs.Opening.{front_of, string_row}
use Rattle.slub_open_close.specs.Laying.{laid_items}
use Rattle.slub_open_close.proofs.laying.lay_string.Given as goal

-- the links of the last slabs stand there
abbrev pub invariant-loop-at : goal.invariant-loop-at
invariant-loop-at l = record {
  links : l.links ≡ laid_items (string_row l.frames).place (string_row l.frames).value (drop l.at l.frames) l.fn.links;
  next : l.next ≡ front_of (drop l.at l.frames);
}
