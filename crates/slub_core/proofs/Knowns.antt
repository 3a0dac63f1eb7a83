-- What a worker knows, where it gets the object of its call or loses it.
use Rattle.std.proofs.Common.{◌≡◌, ℕ, ◌+◌, ◌<◌, true, false, List, length, get_or, set, refl, arith}
use Rattle.std.specs.Prelude.{All}
use Rattle.std.proofs.lemmas.List.{get_or-set_same}
use Rattle.std.proofs.lemmas.List.Sums.{sum_by-set}
use Rattle.std.proofs.lemmas.List.Elements.{All-set}
use Rattle.slub_core.specs.declared.local.Known.{Known}
use Rattle.slub_core.specs.World.{World, cache_at, one_if, is_at}
use Rattle.slub_core.specs.Local.{Local, nobody, here, gets, loses}
use Rattle.slub_core.specs.Placed.{held, held_as}

not-held : (f i : ℕ) (k : Known) → k.held ≡ false → held_as f i k ≡ 0
not-held f i k e = rw e refl

is-held : (f i : ℕ) (k : Known) → k.held ≡ true → held_as f i k ≡ one_if (is_at k.frame k.index f i)
is-held f i k e = rw e refl

-- it holds one object more, or one less
pub held-gets : (f i : ℕ) (l : Local) (cache frame index : ℕ) → l.place < length l.known → (here l).held ≡ false → held f i (gets l cache frame index) ≡ held f i l + one_if (is_at frame index f i)
held-gets f i l cache frame index below none =
    let e = sum_by-set (held_as f i) l.known l.place (record { object = (here l).object; frame = frame; index = index; cache = cache; held = true }) nobody below in
    let z = not-held f i (here l) none in
    omega arith

pub held-loses : (f i : ℕ) (l : Local) → l.place < length l.known → (here l).held ≡ true → held f i (loses l) + one_if (is_at (here l).frame (here l).index f i) ≡ held f i l
held-loses f i l below some =
    let e = sum_by-set (held_as f i) l.known l.place (record (here l) { held = false }) nobody below in
    let z = is-held f i (here l) some in
    omega arith

-- what it holds is of its slabs' caches, where that is so of what it gets
pub known-set : (w : World) (ks : List Known) (p : ℕ) (k : Known) → (k.held ≡ true → k.cache ≡ cache_at w k.frame)
    → All (λ (k : Known). k.held ≡ true → k.cache ≡ cache_at w k.frame) ks → All (λ (k : Known). k.held ≡ true → k.cache ≡ cache_at w k.frame) (set ks p k)
known-set w ks p k here all = All-set (λ (k : Known). k.held ≡ true → k.cache ≡ cache_at w k.frame) ks p k here all

-- the object of its call is then this one
pub here-set : (l : Local) (k : Known) → l.place < length l.known → get_or (set l.known l.place k) l.place nobody ≡ k
here-set l k below = get_or-set_same l.known l.place k nobody below
