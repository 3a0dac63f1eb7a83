use Rattle.std.proofs.Common.{◌+◌, ℕ, List, swap, sym, ap, ◌∙◌, subst, arith}
use Rattle.slub_core.specs.Words.{list_base, cpu_base, slab_base}
use Rattle.slub_workers.proofs.InPlace.{Turns, turns-stay, turns-more, exchanges-none, exchanges-more, exchanges-all}
use Rattle.slub_workers.proofs.cell.rearrange.Goals as goal
use Rattle.slub_workers.proofs.cell.rearrange.Goals.{then-number-other, else-number-other}

pub loop-number-preserved : goal.loop-number-preserved
loop-number-preserved c =
    let i : ℕ = c.loop-number.number in
    let first : List ℕ = c.args.words.now in
    let now : List ℕ = c.loop-number.words in
    let inv = c.loop-number.invariant in
    let low = c.loop-number-test.true in
    let other = c.mirrored-other.ensures in
    elim c.if-number-other.branch [
      | then-number-other w ↦
          let less = w.if-number-other.true in
          let lists : List ℕ = w.swap.new.self in
          let cpus : List ℕ = w.swap-then-number-other.new.self in
          let one = w.swap.ensures.after ∙ ap (λ (k : ℕ). swap now (list_base + i) (list_base + k)) other in
          let two = w.swap-then-number-other.ensures.after ∙ ap (λ (k : ℕ). swap lists (cpu_base + i) (cpu_base + k)) other in
          let three = w.swap-then-number-other-2.ensures.after ∙ ap (λ (k : ℕ). swap cpus (slab_base + i) (slab_base + k)) other in
          turns-more i first now lists cpus c.if-number-other.words low (omega arith) c.requires inv one two (w.words-is ∙ three)
      | else-number-other w ↦
          let most = w.if-number-other.false in
          subst (λ (z : List ℕ). Turns (i + 1) first z) (sym w.words-is) (turns-stay i first now low (omega arith) inv)
    ]

pub loop-lock-init : goal.loop-lock-init
loop-lock-init c = exchanges-none c.loop-number.number c.args.words.now c.loop-number.words c.loop-number-test.false c.loop-number.invariant

pub loop-lock-preserved : goal.loop-lock-preserved
loop-lock-preserved c =
    let i : ℕ = c.loop-lock.lock in
    let now : List ℕ = c.loop-lock.words in
    let list = c.list_of_lock.ensures in
    exchanges-more i c.args.words.now now c.swap-in-loop-lock.new.self c.loop-lock-test.true c.requires c.loop-lock.invariant
    (c.swap-in-loop-lock.ensures.after ∙ ap (λ (k : ℕ). swap now i (list_base + k)) list)

pub returns : goal.returns
returns c = exchanges-all c.loop-lock.lock c.args.words.now c.loop-lock.words c.loop-lock-test.false (omega arith) c.requires c.loop-lock.invariant
