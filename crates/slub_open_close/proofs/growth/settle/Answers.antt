use Rattle.std.proofs.Common.{◌≡◌, ◌∙◌, refl, true, None, get_or, length, ap, arith, subst, sym}
use Rattle.std.specs.Vec.{with_items}
use Rattle.std.proofs.lemmas.List.{with_items_is}
use Rattle.slub_open_close.specs.Ids.{id_at}
use Rattle.slub_open_close.specs.Due.{DetachHasRoom, came_about, made_by, with_steps}
use Rattle.slub_open_close.specs.Growth.{with_first}
use Rattle.slub_open_close.proofs.Settling.{item-at, room-of, settled-begun, settled-detached, settled-same}
use Rattle.slub_open_close.proofs.growth.settle.Goals as goal

pub begin_cache-requires-clause-words : goal.begin_cache-requires-clause-words
begin_cache-requires-clause-words c = c.requires.fits.3.count

pub detach-requires-clause-room : goal.detach-requires-clause-room
detach-requires-clause-room c =
    let fits = c.requires.fits in
    let it = c.index-as_slice-number.result in
    let read : it ≡ get_or c.args.trace.now.items c.args.number it = rw (← c.as_slice.ensures) c.index-as_slice-number.is in
    let at = item-at c.args.trace.now c.args.number it c.requires.within read in
    let was : c.deref_mut.result.now ≡ c.args.ids.now = c.deref_mut.ensures.value ∙ c.ids.view_is in
    λ n. subst (λ ids. DetachHasRoom c.step_of.result c.in-Some-cache.cache c.args.due.now.current n (id_at ids n)) (sym was)
    (room-of fits.0 c.args.trace.now c.args.number it c.args.due.now c.args.ids.now c.in-Some-cache.cache c.step_of.result at c.in-Some-cache.is c.step_of.ensures c.requires.sound.cpus fits.1 fits.2 fits.3 n)

pub returns-in-Some : goal.returns-in-Some
returns-in-Some c =
    let it = c.index-as_slice-number.result in
    let read : it ≡ get_or c.args.trace.now.items c.args.number it = rw (← c.as_slice.ensures) c.index-as_slice-number.is in
    let at = item-at c.args.trace.now c.args.number it c.requires.within read in
    settled-begun c.args.trace.now c.args.number it c.args.due.now c.args.done.now c.args.ids.now c.begin_cache.new.ids at c.in-Some.cache (sym c.made_by.ensures ∙ c.in-Some.is)
    c.begin_cache.ensures

pub returns-in-Some-cache : goal.returns-in-Some-cache
returns-in-Some-cache c =
    let it = c.index-as_slice-number.result in
    let read : it ≡ get_or c.args.trace.now.items c.args.number it = rw (← c.as_slice.ensures) c.index-as_slice-number.is in
    let at = item-at c.args.trace.now c.args.number it c.requires.within read in
    let came : came_about it c.args.done.now ≡ true = sym c.came_about.ensures ∙ c.if-came_about.true in
    let was : c.deref_mut.result.now ≡ c.args.ids.now = c.deref_mut.ensures.value ∙ c.ids.view_is in
    let now : (with_items c.ids.inside.by_word c.detach.new.words).items ≡ c.detach.new.words = with_items_is c.ids.inside.by_word c.detach.new.words (omega (arith, c.detach.auto.words, c.deref_mut.ensures.len)) in
    settled-detached c.args.trace.now c.args.number it c.args.due.now c.args.done.now c.args.ids.now (with_items c.ids.inside.by_word c.detach.new.words).items at c.in-Some-cache.cache c.step_of.result came c.in-Some-cache.is c.step_of.ensures
    (now ∙ c.detach.ensures ∙ ap (λ ids. with_steps c.step_of.result c.in-Some-cache.cache c.args.due.now.current ids) was)

pub returns-else-came_about : goal.returns-else-came_about
returns-else-came_about c =
    let it = c.index-as_slice-number.result in
    let read : it ≡ get_or c.args.trace.now.items c.args.number it = rw (← c.as_slice.ensures) c.index-as_slice-number.is in
    let at = item-at c.args.trace.now c.args.number it c.requires.within read in
    let made : made_by it c.args.done.now ≡ None = sym c.made_by.ensures ∙ c.in_default.is in
    settled-same c.args.trace.now c.args.number it c.args.due.now c.args.done.now c.args.ids.now c.args.ids.now at made (sym c.came_about.ensures ∙ c.if-came_about.false) refl
