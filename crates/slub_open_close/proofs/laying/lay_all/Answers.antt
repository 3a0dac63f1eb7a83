use Rattle.std.proofs.Common.{◌≡◌, length, refl, ap, sym, ◌∙◌}
use Rattle.std.proofs.lemmas.List.{with_items_is}
use Rattle.slub_list_machine.specs.Parts.{state_of}
use Rattle.slub_open_close.specs.Laying.{read}
use Rattle.slub_open_close.proofs.Whole.{own-layable-as, cpu-layable-as, string-layable-as, memory-laid, links-laid}
use Rattle.slub_open_close.proofs.laying.lay_all.Goals as goal

pub lay_own-requires-clause-layable : goal.lay_own-requires-clause-layable
lay_own-requires-clause-layable c = λ f.
    own-layable-as (state_of c.args.parts.now) c.args.setup.now c.requires.setup.0 c.deref.result.now c.args.parts.now.frees c.args.parts.now.memory f c.requires.consistent c.requires.setup.1 c.deref.ensures.value refl refl

pub lay_cpus-requires-clause-layable : goal.lay_cpus-requires-clause-layable
lay_cpus-requires-clause-layable c = λ n.
    cpu-layable-as (state_of c.args.parts.now) c.args.setup.now c.requires.setup.0 c.deref-2.result.now (length c.lay_own.new.memory) n c.requires.consistent c.requires.setup.1 c.deref-2.ensures.value c.lay_own.ensures.count

pub lay_links-requires-clause-inside : goal.lay_links-requires-clause-inside
lay_links-requires-clause-inside c = λ n.
    string-layable-as (state_of c.args.parts.now) c.deref-3.result.now (length c.deref_mut.result.now) n c.requires.consistent c.deref-3.ensures.value (ap length c.deref_mut.ensures.value ∙ c.requires.links)

pub returns-clause-memory : goal.returns-clause-memory
returns-clause-memory c =
    memory-laid (state_of c.args.parts.now) c.args.setup.now c.requires.setup.0 c.deref.result.now c.args.parts.now.frees c.deref-2.result.now c.args.parts.now.memory c.lay_own.new.memory c.lay_own.new.memory c.lay_cpus.new.memory
    c.requires.consistent c.requires.setup.1 c.deref.ensures.value refl c.deref-2.ensures.value refl c.lay_own.ensures.memory refl c.lay_cpus.ensures.memory

pub returns-clause-links : goal.returns-clause-links
returns-clause-links c =
    let count : length c.lay_links.new.links ≡ c.args.links.now.len = c.lay_links.auto.links ∙ ap length c.deref_mut.ensures.value ∙ sym c.args.links.now.ok.0 in
    ap read (with_items_is c.args.links.now c.lay_links.new.links count)
    ∙ links-laid (state_of c.args.parts.now) c.deref-3.result.now c.deref_mut.result.now c.lay_links.new.links c.args.links.now.items c.deref-3.ensures.value c.deref_mut.ensures.value c.lay_links.ensures
