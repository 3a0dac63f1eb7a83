-- Freelists that can be laid.
use Rattle.std.proofs.Common.{◌≡◌, ℕ, ◌<◌, List, arith, sym, subst}
use Rattle.std.specs.Prelude.{All}
use Rattle.slub_core.specs.Facts.{Facts, pointer_in}
use Rattle.slub_open_close.specs.Laying.{IsLayable}

pub layable-places : (facts : Facts) (count words cache frame : ℕ) (free : List ℕ) → words ≡ count → IsLayable facts count cache frame free → All (λ x. pointer_in facts cache frame x < words) free
layable-places facts count words cache frame free e all = λ i d below. let h = all i d below in omega (arith, h.1)

-- under other names
pub layable-as : (facts : Facts) (count words cache kache frame : ℕ) (free other : List ℕ) → words ≡ count → kache ≡ cache → other ≡ free → IsLayable facts count cache frame free → IsLayable facts words kache frame other
layable-as facts count words cache kache frame free other w k o all =
    subst (λ xs. IsLayable facts words kache frame xs) (sym o)
    (subst (λ z. IsLayable facts words z frame free) (sym k)
    (subst (λ z. IsLayable facts z cache frame free) (sym w) all))
