-- A worker's turns alone add replies and take none back, and what it knows stays under the same numbers.
use Rattle.std.proofs.Common.{◌≡◌, ℕ, zero, suc, ◌<◌, ◌++◌, Bool, false, Option, Some, None, List, [], ◌∷◌, length, get_or, refl, sym, ap, ◌∙◌, subst}
use Rattle.std.proofs.lemmas.List.{append_assoc}
use Rattle.slub_trace.specs.declared.reply.Reply.{Reply}
use Rattle.slub_core.specs.declared.call.Call.{Call}
use Rattle.slub_core.specs.declared.local.Known.{Known}
use Rattle.slub_core.specs.declared.local.Answered.{Answered}
use Rattle.slub_core.specs.declared.spot.Spot.{Spot}
use Rattle.slub_core.specs.declared.spot.Spot.TheVariants.{Between}
use Rattle.slub_core.specs.Calls.{call_kind, call_place}
use Rattle.slub_core.specs.Setup.{Setup}
use Rattle.slub_core.specs.Local.{Local, nobody, call_of, answered, noted}
use Rattle.slub_core.specs.Steps.{told_at_once, or_step, rested, rested_with, rested_at, begun_at, begun_with}
use Rattle.slub_core.specs.Run.{System, turn}
use Rattle.slub_core.proofs.Scripts.{Leaves}
use Rattle.slub_law_alone.specs.Alone.{own_pick, alone, worker_at}
use Rattle.slub_law_alone.proofs.Goes.{Goes, Keeps}
use Rattle.slub_law_alone.proofs.OneCall.{Kept, kept-turn, noted-same, rested-fast, rested-known, turn-long}

-- replies before these
abbrev pub Grown : List Answered → List Answered → Type 0
Grown old new = (extra : List Answered) × (new ≡ extra ++ old)

pub grown-then : (a b c : List Answered) → Grown a b → Grown b c → Grown a c
grown-then a b c (front, first) (more, second) = (more ++ front, second ∙ ap (λ xs. more ++ xs) first ∙ sym (append_assoc more front a))

pub noted-grown : (l n : Local) (s : Spot) (r : Option Reply) → Leaves l s n r → Grown l.done (noted n r).done
noted-grown l n s None leaves = ([], leaves.1)
noted-grown l n s (Some reply) leaves = (record { call = call_of n; reply = reply } ∷ [], ap (λ ds. record { call = call_of n; reply = reply } ∷ ds) leaves.1)

pub rested_with-grown : (m : Setup) (calls : List Call) (l : Local) → Grown l.done (rested_with m calls l).done
rested_with-grown m [] l = ([], refl)
rested_with-grown m (call ∷ calls) l = by (told_at_once m (get_or l.known (call_place call) nobody) call (call_kind call)) (λ reply. rested_with-grown m calls (answered l reply))
  where
    by : (r : Option Reply) → ((reply : Reply) → Grown (answered l reply).done (rested_with m calls (answered l reply)).done) → Grown l.done (or_step l (λ reply. rested_with m calls (answered l reply)) r).done
    by None more = ([], refl)
    by (Some reply) more = grown-then l.done (answered l reply).done (rested_with m calls (answered l reply)).done (record { call = call_of l; reply = reply } ∷ [], refl) (more reply)

rested_at-grown : (m : Setup) (l : Local) (s : Spot) → Grown l.done (rested_at m l s).done
rested_at-grown m l Between = rested_with-grown m l.todo l
rested_at-grown m l _ = ([], refl)

pub rested-grown : (m : Setup) (l : Local) → Grown l.done (rested m l).done
rested-grown m l = rested_at-grown m l l.spot

-- ---- over turns

pub record Later (base l : Local) : Type 0 where
  pub plain : l.fast ≡ false
  pub known : Keeps base.known l.known
  pub done : Grown base.done l.done

module _ (base : Local) where
  later-steps : (l n : Local) (s : Spot) (r : Option Reply) → l.spot ≡ s → Leaves l s n r → Goes l s n r → Later base l → Later base (noted n r)
  later-steps l n s r is leaves goes was =
      let same = noted-same n r in
      record {
        plain = same.1 ∙ ap (λ (q : Bool × ℕ). q.0) goes.0 ∙ was.plain;
        known = λ p. ap (λ (ks : List Known). (get_or ks p nobody).object) same.2 ∙ goes.2 p ∙ was.known p;
        done = grown-then base.done l.done (noted n r).done was.done (noted-grown l n s r leaves);
      }

  later-kept : Kept (Later base)
  later-kept = record { plain = λ l was. was.plain; steps = later-steps }

  later-rested : (m : Setup) (n : Local) → Later base n → Later base (rested m n)
  later-rested m n was = record {
    plain = rested-fast m n ∙ was.plain;
    known = λ p. ap (λ (ks : List Known). (get_or ks p nobody).object) (rested-known m n) ∙ was.known p;
    done = grown-then base.done n.done (rested m n).done was.done (rested-grown m n);
  }

  later-begun : (m : Setup) (l : Local) (s : Spot) → Later base l → Later base (begun_at m false l s)
  later-begun m l Between was = by l.todo
    where
      by : (calls : List Call) → Later base (begun_with m false l calls)
      by [] = was
      by (call ∷ calls) = record { plain = refl; known = was.known; done = was.done }
  later-begun m l _ was = was

  pub later-turns : (m : Setup) (x n : ℕ) (system : System) → x < length system.locals → Later base (worker_at system x) → Later base (worker_at (alone m x n system) x)
  later-turns m x zero system below was = was
  later-turns m x (suc n) system below was =
      let next = turn m system (own_pick x) in
      let l = worker_at system x in
      let r = kept-turn (Later base) later-kept m x system below (later-begun m l l.spot was) in
      later-turns m x n next (turn-long m x system below) (subst (Later base) (sym r.2) (later-rested m r.0 r.1))

-- where a worker is alone, what it was answered stays
pub turns-later : (m : Setup) (x n : ℕ) (system : System) → x < length system.locals → (worker_at system x).fast ≡ false → Later (worker_at system x) (worker_at (alone m x n system) x)
turns-later m x n system below plain = later-turns (worker_at system x) m x n system below (record { plain = plain; known = λ p. refl; done = ([], refl) })
