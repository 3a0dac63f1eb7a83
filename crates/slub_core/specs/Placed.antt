-- Each object is in exactly one place.
use Rattle.std.specs.Prelude.{◌≡◌, ℕ, ◌+◌, ◌/◌, ◌<◌, ◌&&◌, List, [], ◌∷◌, sum_by}
use Rattle.slub_common.specs.Times.{times}
use Rattle.slub_core.specs.declared.local.Known.{Known}
use Rattle.slub_core.specs.declared.local.Hand.{Hand}
use Rattle.slub_core.specs.World.{World, Chains, pointer, idle_in, one_if, sum_below, is_at, in_chain, on_board, object_at, IsChain}
use Rattle.slub_core.specs.Local.{Local, Worker}

-- 1 where a worker holds this object under an object number
abbrev pub held_as : ℕ → ℕ → Known → ℕ
held_as f i k = one_if (k.held && is_at k.frame k.index f i)

abbrev pub held : ℕ → ℕ → Local → ℕ
held f i l = sum_by (held_as f i) l.known

-- how often the object stands in the chains in hand
abbrev pub in_hands : ℕ → ℕ → List Hand → List (List ℕ) → ℕ
in_hands f i [] chains = 0
in_hands f i (h ∷ hs) [] = 0
in_hands f i (h ∷ hs) (xs ∷ chains) = in_chain h.frame xs f i + in_hands f i hs chains

-- what a worker has of the object
abbrev pub owned : ℕ → ℕ → Worker → ℕ
owned f i x = held f i x.local + in_hands f i x.local.hands x.chains

-- the places of an object: with a worker, held or in a chain in hand; on the board; on a CPU's
-- freelist; on its slab's own freelist; free or set aside in a checked slab
abbrev pub places : World → Chains → List Worker → ℕ → ℕ → ℕ
places w y xs f i =
    sum_by (owned f i) xs
    + sum_below w.setup.objects (λ o. on_board (w.board o) f i)
    + sum_below w.setup.cpu_words (λ n. in_chain (w.cpu n).frame (y.cpu n) f i)
    + times i (y.own f)
    + sum_below w.setup.locks (λ n. idle_in (w.value n) f i)

-- each object of a live slab is in exactly one place, and what is no object of a live slab is in
-- none
pub record IsPlaced (w : World) (y : Chains) (xs : List Worker) : Type 0 where
  pub once : (f i : ℕ) → places w y xs f i ≡ object_at w f i
  -- the freelists are chains
  pub cpu_chain : (n : ℕ) → n < w.setup.cpu_words
      → IsChain (pointer w (n / 16) (w.cpu n).frame) (w.cpu n).head (y.cpu n)
  pub own_chain : (f : ℕ) → IsChain (pointer w (w.slab f).cache f) (w.slab f).head (y.own f)
