use Rattle.std.proofs.Common.{◌≡◌, ◌∙◌, length, ap, arith}
use Rattle.std.specs.Vec.{with_items}
use Rattle.std.proofs.lemmas.List.{with_items_is}
use Rattle.slub_open_close.specs.Growth.{with_first}
use Rattle.slub_open_close.proofs.growth.begin_cache.Goals as goal

pub begin-requires-clause-words : goal.begin-requires-clause-words
begin-requires-clause-words c = ap length (c.deref_mut.ensures.value ∙ c.ids.view_is) ∙ c.requires.words

pub returns : goal.returns
returns c =
    let was : c.deref_mut.result.now ≡ c.args.ids.now = c.deref_mut.ensures.value ∙ c.ids.view_is in
    let now : (with_items c.ids.inside.by_word c.begin.new.words).items ≡ c.begin.new.words = with_items_is c.ids.inside.by_word c.begin.new.words (omega (arith, c.begin.auto.words, c.deref_mut.ensures.len)) in
    now ∙ c.begin.ensures ∙ ap (λ ids. with_first c.args.trace.now.tid c.args.trace.now.cpus c.args.cache ids) was
