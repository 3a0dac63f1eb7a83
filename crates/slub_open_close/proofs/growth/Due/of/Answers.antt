use Rattle.std.proofs.Common.{◌≡◌, ℕ, false, Option, Some, IfSome, get_or, replicate, subst, sym, ◌∙◌}
use Rattle.slub_open_close.specs.declared.growth.Due.{Due}
use Rattle.slub_open_close.specs.Due.{AreCurrent, IsDueOf}
use Rattle.slub_open_close.proofs.Looking.{detached-within}
use Rattle.slub_open_close.proofs.Settling.{due-at, item-at}
use Rattle.slub_open_close.proofs.growth.Due.of.Goals as goal

pub current_of-current-requires-clause-within : goal.current_of-current-requires-clause-within
current_of-current-requires-clause-within c =
    detached-within c.args.trace.now c.args.lists.now c.index-as_slice-number.result c.in-Some.cache c.requires.coherent (sym c.detached_by-cache.ensures ∙ c.in-Some.is)

pub returns-in-Some : goal.returns-in-Some
returns-in-Some c =
    let s = c.args.lists.now in
    let it = c.index-as_slice-number.result in
    let read : it ≡ get_or c.args.trace.now.items c.args.number it = rw (← c.as_slice.ensures) c.index-as_slice-number.is in
    let due : Due = record { cache = Some c.in-Some.cache; current = c.current_of-current.result } in
    let is : IsDueOf s c.args.trace.now it due = record { cache = sym c.in-Some.is ∙ c.detached_by-cache.ensures; current = c.current_of-current.ensures } in
    due-at s c.args.trace.now c.args.number it due (item-at c.args.trace.now c.args.number it c.requires.within read) is

pub returns-in-None : goal.returns-in-None
returns-in-None c =
    let s = c.args.lists.now in
    let it = c.index-as_slice-number.result in
    let read : it ≡ get_or c.args.trace.now.items c.args.number it = rw (← c.as_slice.ensures) c.index-as_slice-number.is in
    let due : Due = record { cache = c.detached_by-cache.result; current = replicate 16 false } in
    let is : IsDueOf s c.args.trace.now it due = record {
      cache = c.detached_by-cache.ensures;
      current = subst (λ (x : Option ℕ). IfSome x (λ cache. AreCurrent s cache due.current)) (sym c.in-None.is) tt;
    } in
    due-at s c.args.trace.now c.args.number it due (item-at c.args.trace.now c.args.number it c.requires.within read) is
