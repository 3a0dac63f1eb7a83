-- What events are answered, one after another.
use Rattle.std.proofs.Common.{◌≡◌, List, [], ◌∷◌, ◌++◌, refl, sym, subst}
use Rattle.slub_workers.specs.Begun.{Begun}
use Rattle.slub_workers.specs.Standing.{Standing}
use Rattle.slub_tries.specs.declared.tries.Told.{Told}
use Rattle.slub_tries.specs.Told.{AreTold, IsTold}

-- one more
told-more : (key : Begun) (x : Standing) (all : List Told) (mid : Standing) (told : Told) (after : Standing) → AreTold key x all mid → IsTold key mid told after → AreTold key x (all ++ told ∷ []) after
told-more key x [] mid told after is next = (after, transported key told mid x after is next, refl)
  where
    transported : (key : Begun) (told : Told) (mid x after : Standing) → mid ≡ x → IsTold key mid told after → IsTold key x told after
    transported key told mid x after is next = rw (← is) next
told-more key x (first ∷ all) mid told after are next = (are.0, are.1, told-more key are.0 all mid told after are.2 next)

-- one more, in the words of a loop
pub told-next : (key now : Begun) (x : Standing) (all more : List Told) (mid : Standing) (told : Told) (after : Standing) → now ≡ key → AreTold key x all mid → IsTold now mid told after → more ≡ all ++ told ∷ [] → AreTold key x more after
told-next key now x all more mid told after same are next is =
    let one : IsTold key mid told after = subst (λ (k : Begun). IsTold k mid told after) same next in
    subst (λ (list : List Told). AreTold key x list after) (sym is) (told-more key x all mid told after are one)
