use Rattle.std.proofs.Common.{◌≡◌, ◌++◌, take, vec_capacity}
use Rattle.slub_open_close.proofs.classes.push_links.Given as goal

-- so many are there
abbrev pub invariant-loop-link : goal.invariant-loop-link
invariant-loop-link l = record {
  words : l.words.items ≡ l.fn.words.items ++ take l.link-index l.links;
  capacity : vec_capacity l.words ≡ vec_capacity l.fn.words;
}
