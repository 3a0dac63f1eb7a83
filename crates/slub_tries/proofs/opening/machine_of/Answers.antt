use Rattle.std.proofs.Common.{◌≡◌, ℕ, ap, ◌∙◌, sym, subst, arith}
use Rattle.slub_cache_create.specs.Table.{Table}
use Rattle.slub_calls.specs.Calls.{workers_of}
use Rattle.slub_open_close.specs.Beside.{first_links}
use Rattle.slub_open_close.specs.Ids.{IsStepOf}
use Rattle.slub_rounds.proofs.Machines.{begun-count}
use Rattle.slub_rounds.proofs.Threads.{may-work, sizes-are}
use Rattle.slub_tries.proofs.Begins.{may-run, opens-into}
use Rattle.slub_tries.proofs.opening.machine_of.Goals as goal

pub overflow_cast-sizes : goal.overflow_cast-sizes
overflow_cast-sizes c =
    let s = c.args.lists in
    let b = c.in_ok-beside.beside in
    let round = c.args.round.now in
    let begun = c.begun-machine.ensures.begun s b round c.in-Ok.ensures.opened (c.in_ok-locals.ensures ∙ ap (λ (t : Table). workers_of t round) c.caches.ensures) in
    omega (arith, c.len.ensures, begun.waiting.board, c.requires.objects)

pub returns-clause-work : goal.returns-clause-work
returns-clause-work c =
    let s = c.args.lists in
    let ids = c.args.ids.now in
    let round = c.args.round.now in
    let b = c.in_ok-beside.beside in
    let (trace, does) = c.requires.may_do in
    let beside = c.in_ok-beside.ensures in
    let frames : c.frames.result ≡ s.frames = c.frames.ensures in
    let cpus : c.cpus.result ≡ s.cpus = c.cpus.ensures in
    let fits = beside.fits s c.requires.coherent (sym frames) (sym cpus) (omega (arith, does.objects)) c.requires.objects c.requires.ids in
    let may = may-run s ids b trace round c.requires.coherent c.requires.laid_down does c.besides_fit.ensures fits (subst (λ (n : ℕ). IsStepOf n b.step) cpus beside.step) beside.tids (beside.links ∙ ap first_links frames) in
    let begun = c.begun-machine.ensures.begun s b round c.in-Ok.ensures.opened (c.in_ok-locals.ensures ∙ ap (λ (t : Table). workers_of t round) c.caches.ensures) in
    may-work s ids b trace round c.begun-machine.result.0 c.begun-machine.result.1 may begun

pub returns-clause-sizes : goal.returns-clause-sizes
returns-clause-sizes c =
    let s = c.args.lists in
    let b = c.in_ok-beside.beside in
    let round = c.args.round.now in
    let begun = c.begun-machine.ensures.begun s b round c.in-Ok.ensures.opened (c.in_ok-locals.ensures ∙ ap (λ (t : Table). workers_of t round) c.caches.ensures) in
    let sizes = sizes-are s b round c.begun-machine.result.0 c.begun-machine.result.1 begun in
    (sizes.0, omega (arith, c.len.ensures, sizes.1))

pub returns-clause-workers : goal.returns-clause-workers
returns-clause-workers c =
    let s = c.args.lists in
    let b = c.in_ok-beside.beside in
    let round = c.args.round.now in
    let begun = c.begun-machine.ensures.begun s b round c.in-Ok.ensures.opened (c.in_ok-locals.ensures ∙ ap (λ (t : Table). workers_of t round) c.caches.ensures) in
    begun-count s b round c.begun-machine.result.0 c.begun-machine.result.1 begun

pub returns-clause-opens : goal.returns-clause-opens
returns-clause-opens c =
    let s = c.args.lists in
    let ids = c.args.ids.now in
    let round = c.args.round.now in
    let b = c.in_ok-beside.beside in
    let (trace, does) = c.requires.may_do in
    let beside = c.in_ok-beside.ensures in
    let frames : c.frames.result ≡ s.frames = c.frames.ensures in
    let cpus : c.cpus.result ≡ s.cpus = c.cpus.ensures in
    let fits = beside.fits s c.requires.coherent (sym frames) (sym cpus) (omega (arith, does.objects)) c.requires.objects c.requires.ids in
    let may = may-run s ids b trace round c.requires.coherent c.requires.laid_down does c.besides_fit.ensures fits (subst (λ (n : ℕ). IsStepOf n b.step) cpus beside.step) beside.tids (beside.links ∙ ap first_links frames) in
    let begun = c.begun-machine.ensures.begun s b round c.in-Ok.ensures.opened (c.in_ok-locals.ensures ∙ ap (λ (t : Table). workers_of t round) c.caches.ensures) in
    opens-into s ids b trace round c.begun-machine.result.0 c.begun-machine.result.1 may begun
