-- A machine rests in no two lists.
use Rattle.std.proofs.Common.{◌≡◌, ℕ, suc, ◌<◌, Bool, true, false, List, Option, Some, None, refl, ap, sym, ◌∙◌, subst, arith}
use Rattle.std.specs.Prelude.{is_some}
use Rattle.slub_red_zone.specs.State.{CheckedState}
use Rattle.slub_lists.specs.State.{State}
use Rattle.slub_lists.specs.Alloc.{own_free, cache_of, checked_of, node_of}
use Rattle.slub_core.specs.Setup.{node_lock}
use Rattle.slub_core.specs.Local.{Local}
use Rattle.slub_core.specs.World.{World, LockValue, Checked, frames_in, pool_in, world_of}
use Rattle.slub_law_opening.specs.Opening.{Beside, setup_of, cpu_at, value_of, node_value}
use Rattle.slub_law_opening.specs.Rests.{Rests}
use Rattle.slub_law_opening.specs.Closing.{AreAlike}
use Rattle.slub_law_opening.specs.Laws.{WordsTellLists}
use Rattle.slub_law_opening.proofs.Closed.{chain-same, string-same}

-- the checked slabs that a lock guards
checked_in : LockValue → Option CheckedState
checked_in (Checked slabs) = Some slabs
checked_in v = None

checked-value : (s : State) (k : ℕ) → checked_in (value_of s (suc k)) ≡ checked_of s k
unfolding checked_in
checked-value s k = go (checked_of s k)
  where
    go : (o : Option CheckedState) → checked_in (node_value (is_some (cache_of s k)) o (node_of s k)) ≡ o
    go None = list (is_some (cache_of s k))
      where
        list : (z : Bool) → checked_in (node_value z None (node_of s k)) ≡ None
        list true = refl
        list false = refl
    go (Some c) = refl

alike : (s t : State) (b d : Beside) (w : World) (ls : List Local) → Rests s b w ls → Rests t d w ls → AreAlike s t
alike s t b d w ls one other = record {
  pool = ap pool_in (sym (one.values 0 (omega arith)) ∙ other.values 0 (omega arith));
  slab = λ f. one.slab f ∙ sym (other.slab f);
  own = λ f. chain-same _ (w.slab f).head (own_free s f) (own_free t f) (one.own f).chain (other.own f).chain;
  cpu = cpu;
  node = λ k below. one.nodes k ∙ ap frames_in (sym (one.values (node_lock k) (omega arith)) ∙ other.values (node_lock k) (omega arith)) ∙ sym (other.nodes k);
  checked = λ k below. sym (checked-value s k) ∙ ap checked_in (sym (one.values (suc k) (omega arith)) ∙ other.values (suc k) (omega arith)) ∙ checked-value t k;
  board = λ o. one.named o ∙ sym (other.named o);
}
  where
    cpu : (n : ℕ) → n < 512 → cpu_at s n ≡ cpu_at t n
    cpu n below =
        let x = one.cpu n below in
        let y = other.cpu n below in
        let current = x.current ∙ sym y.current in
        let free = chain-same _ (w.cpu n).head (cpu_at s n).free (cpu_at t n).free x.free y.free in
        let partial = string-same w.link (w.list n).front (cpu_at s n).partial (cpu_at t n).partial (sym x.count ∙ y.count) x.partial y.partial in
        λ i. record { current = current i; free = free i; partial = partial i }

pub words-tell : WordsTellLists
words-tell s t b d system same one other =
    alike s t b d (world_of (setup_of t d) system.value system.words) system.locals (subst (λ m. Rests s b (world_of m system.value system.words) system.locals) same one.rests) other.rests
