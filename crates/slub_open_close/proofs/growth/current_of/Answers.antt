use Rattle.std.proofs.Common.{◌≡◌, ◌+◌, ◌*◌, ◌<◌, is_some, length, get_or, ap, sym, ◌∙◌, arith}
use Rattle.slub_lists.specs.declared.lists.CpuLists.{CpuLists}
use Rattle.slub_lists.specs.Alloc.{cpu_place, lists_of, no_lists}
use Rattle.slub_lists.proofs.Coherence.{place-inside}
use Rattle.slub_lists.proofs.ObjectWords.{read-inside}
use Rattle.slub_open_close.proofs.Looking.{found-all, found-more, found-none}
use Rattle.slub_open_close.proofs.growth.current_of.Goals as goal

pub loop-cpu-init : goal.loop-cpu-init
loop-cpu-init c = found-none _ _

pub loop-cpu-preserved : goal.loop-cpu-preserved
loop-cpu-preserved c =
    let s = c.args.lists.now in
    let cache = c.args.cache in
    let cpu = c.loop-cpu.cpu in
    let all = c.cpu_lists-all.result.now in
    let place = cache * c.cpus-cpus.result + cpu in
    let below : cpu < s.cpus = omega (arith, c.loop-cpu-test.true, c.cpus-cpus.ensures) in
    let same : place ≡ cpu_place s cache cpu = ap (λ k. cache * k + cpu) c.cpus-cpus.ensures in
    let inside : place < length all = omega (arith, same, place-inside s cache cpu c.requires.coherent.shaped c.requires.within below, ap length c.cpu_lists-all.ensures) in
    let read : c.index-all-cache.result ≡ lists_of s cache cpu =
    read-inside all place c.index-all-cache.result no_lists inside c.index-all-cache.is ∙ ap (λ l. get_or l place no_lists) c.cpu_lists-all.ensures ∙ ap (λ n. get_or s.cpu_lists n no_lists) same in
    found-more s cache c.loop-cpu.current cpu c.is_some.result (omega (arith, below, c.requires.coherent.shaped.cpus))
    (c.is_some.ensures ∙ ap (λ (x : CpuLists). is_some x.current) (sym c.index-all-cache.is ∙ read)) c.loop-cpu.invariant

pub returns : goal.returns
returns c = found-all c.args.lists.now c.args.cache c.loop-cpu.current c.loop-cpu.cpu (omega (arith, c.loop-cpu-test.false, c.loop-cpu.auto, c.cpus-cpus.ensures)) c.loop-cpu.invariant
