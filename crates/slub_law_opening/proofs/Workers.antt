-- A worker between two calls relies on nothing but what it holds.
use Rattle.std.proofs.Common.{◌≡◌, ℕ, ◌<◌, ◌≤◌, true, length, inl, inr, ap, sym, subst, arith}
use Rattle.std.specs.Prelude.{All, false, []}
use Rattle.std.proofs.lemmas.Bool.{cases_lt}
use Rattle.std.proofs.lemmas.List.{get_or_past}
use Rattle.std.proofs.lemmas.List.Elements.{All-get_or}
use Rattle.slub_core.specs.declared.local.Known.{Known}
use Rattle.slub_core.specs.Setup.{Setup}
use Rattle.slub_core.specs.Local.{Local, Worker, nobody, here}
use Rattle.slub_core.specs.World.{World, cache_at}
use Rattle.slub_core.specs.Listed.{home_of, covered_by, marked_of, takes}
use Rattle.slub_core.specs.Fresh.{IsAtSpot, IsSeen, IsAtWork}
use Rattle.slub_law_opening.specs.Rests.{IsBetween}

-- as the laws see it, it has no chain and no string either
pub record IsBare (x : Worker) : Type 0 where
  pub chains : x.chains ≡ []
  pub string : x.string ≡ []

-- before its first call it holds no object
abbrev pub HoldsNothing : Local → Type 0
HoldsNothing l = All (λ (k : Known). k.held ≡ false) l.known

-- its numbers are the machine's, and where it knows nothing the number is 0
pub here-number : (m : Setup) (l : Local) → 1 ≤ m.objects → IsBetween m l → (here l).object < m.objects
here-number m l some between = elim (cases_lt l.place (length l.known)) [
  | inl below ↦ All-get_or (λ (k : Known). k.object < m.objects) l.known l.place nobody below between.numbers
  | inr past ↦ subst (λ (k : Known). k.object < m.objects) (sym (get_or_past l.known l.place nobody past)) (omega arith)
]

pub no-home : (f : ℕ) (m : Setup) (x : Worker) → IsBetween m x.local → IsBare x → home_of f x ≡ 0
no-home f m x between bare = grind (arith, between.hands, bare.string)

pub no-run : (g : ℕ) (m : Setup) (x : Worker) → IsBetween m x.local → IsBare x → covered_by g x.local.run ≡ 0
no-run g m x between bare = ap (covered_by g) between.run

pub no-mark : (f : ℕ) (m : Setup) (x : Worker) → IsBetween m x.local → IsBare x → marked_of f x ≡ 0
no-mark f m x between bare = grind (arith, between.between)

pub no-lock : (n : ℕ) (m : Setup) (x : Worker) → IsBetween m x.local → IsBare x → takes n x ≡ 0
no-lock n m x between bare = grind (arith, between.between)

at-spot : (m : Setup) (x : Worker) → 1 ≤ m.objects → IsBetween m x.local → IsBare x → IsAtSpot m x
at-spot m x some between bare = let number = here-number m x.local some between in grind (arith, between, bare, number)

sees : (w : World) (x : Worker) → IsBetween w.setup x.local → IsBare x → All (λ (k : Known). k.held ≡ true → k.cache ≡ cache_at w k.frame) x.local.known → IsSeen w x
sees w x between bare known = grind (arith, between, bare, known)

pub at-work : (w : World) (x : Worker) → 1 ≤ w.setup.objects → IsBetween w.setup x.local → IsBare x → All (λ (k : Known). k.held ≡ true → k.cache ≡ cache_at w k.frame) x.local.known → IsAtWork w x
at-work w x some between bare known = record { spot = at-spot w.setup x some between bare; seen = sees w x between bare known }
