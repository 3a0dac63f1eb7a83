-- What a CPU has of a cache, by the number of their word.
use Rattle.std.proofs.Common.{◌≡◌, ℕ, ◌/◌, ◌%◌, ◌<◌, ◌≤◌, cond, ap, ◌∙◌, arith}
use Rattle.std.specs.Prelude.{nat_lt}
use Rattle.std.proofs.lemmas.Bool.{lt-ltb, cond-true}
use Rattle.slub_lists.specs.State.{State}
use Rattle.slub_lists.specs.Alloc.{lists_of, no_lists}
use Rattle.slub_core.specs.Setup.{cpu_number}
use Rattle.slub_law_opening.specs.Opening.{cpu_at}

pub number-of : (k c : ℕ) → c < 16 → (cpu_number k c / 16 ≡ k) × (cpu_number k c % 16 ≡ c)
number-of k c below = (omega arith, omega arith)

pub cpu_here : (s : State) (k c : ℕ) → c < s.cpus → s.cpus ≤ 16 → cpu_at s (cpu_number k c) ≡ lists_of s k c
cpu_here s k c below few =
    let n = number-of k c (omega arith) in
    ap (λ r. cond (nat_lt r s.cpus) (lists_of s (cpu_number k c / 16) r) no_lists) n.1
    ∙ cond-true (nat_lt c s.cpus) (lists_of s (cpu_number k c / 16) c) no_lists (lt-ltb c s.cpus below) ∙ ap (λ q. lists_of s q c) n.0
