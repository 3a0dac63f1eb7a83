use Rattle.std.proofs.Common.{◌≡◌, length, Some, ap, sym, ◌∙◌, arith}
use Rattle.slub_cache_create.specs.Table.{Table, name_at, number_of}
use Rattle.slub_lists.specs.Alloc.{named}
use Rattle.slub_rounds.proofs.Raised.{alloc-checked, named-within, word-within}
use Rattle.slub_rounds.proofs.raising.raise_alloc.Goals as goal

pub is_checked-requires-clause-cache : goal.is_checked-requires-clause-cache
is_checked-requires-clause-cache c =
    let s = c.args.lists.now in
    let name : named s c.args.place ≡ Some c.in-Some.cache = ap (λ (t : Table). number_of t (name_at t c.args.place)) (sym c.caches.ensures) ∙ sym c.at.ensures.named ∙ c.in-Some.is in
    named-within s c.args.place c.in-Some.cache c.requires.coherent name

pub returns-then-is_checked-clause-raised : goal.returns-then-is_checked-clause-raised
returns-then-is_checked-clause-raised c =
    let s = c.args.lists.now in
    let name : named s c.args.place ≡ Some c.in-Some.cache = ap (λ (t : Table). number_of t (name_at t c.args.place)) (sym c.caches.ensures) ∙ sym c.at.ensures.named ∙ c.in-Some.is in
    alloc-checked s c.args.step c.args.cpu c.args.place c.in-Some.cache c.args.words.now name (sym c.is_checked.ensures ∙ c.if-is_checked.true)

pub lists_at-requires-clause-cache : goal.lists_at-requires-clause-cache
lists_at-requires-clause-cache c =
    let s = c.args.lists.now in
    let name : named s c.args.place ≡ Some c.in-Some.cache = ap (λ (t : Table). number_of t (name_at t c.args.place)) (sym c.caches.ensures) ∙ sym c.at.ensures.named ∙ c.in-Some.is in
    named-within s c.args.place c.in-Some.cache c.requires.coherent name

pub raise_word-requires : goal.raise_word-requires
raise_word-requires c =
    let s = c.args.lists.now in
    let name : named s c.args.place ≡ Some c.in-Some.cache = ap (λ (t : Table). number_of t (name_at t c.args.place)) (sym c.caches.ensures) ∙ sym c.at.ensures.named ∙ c.in-Some.is in
    let within = word-within c.in-Some.cache c.args.cpu s.cpus (length c.args.words.now) (named-within s c.args.place c.in-Some.cache c.requires.coherent name) c.requires.cpu c.requires.coherent.shaped.cpus.1 c.requires.count in
    (omega (arith, c.word_of-word.ensures, within), c.requires.room c.word_of-word.result)
