-- Once each worker is finished the machine closes, into coherent lists.
use Rattle.std.proofs.Common.{◌≡◌, ℕ, List, [], ◌∷◌, length, get_or, Option, Some, None, refl, sym, ap, subst}
use Rattle.std.specs.Prelude.{All, IfSome}
use Rattle.std.specs.Option.{option_map}
use Rattle.std.proofs.lemmas.List.Elements.{All-map}
use Rattle.slub_object_layout.specs.declared.layout.Flags.{Flags}
use Rattle.slub_cache_create.specs.declared.caches.Cache.{Cache}
use Rattle.slub_red_zone.specs.State.{CheckedState}
use Rattle.slub_cpu_partial.specs.declared.words.ListWord.{ListWord}
use Rattle.slub_lists.specs.State.{State}
use Rattle.slub_lists.specs.Alloc.{cache_of}
use Rattle.slub_core.specs.declared.local.Hand.{Hand}
use Rattle.slub_core.specs.Setup.{Setup, node_lock}
use Rattle.slub_core.specs.World.{World, LockValue, world_from, world_of}
use Rattle.slub_core.specs.Local.{Local, Worker}
use Rattle.slub_core.specs.Run.{System, Pick, run, IsFinished}
use Rattle.slub_core.specs.Spots.{roles}
use Rattle.slub_core.specs.Fresh.{AreHands, IsAtWork}
use Rattle.slub_core.specs.Accounted.{IsTold, public}
use Rattle.slub_core.specs.Law.{IsCoherentSystem}
use Rattle.slub_core.proofs.Opens.{rounds_keep}
use Rattle.slub_core.proofs.Turns.{run_both}
use Rattle.slub_law_opening.specs.Opening.{Beside, setup_of}
use Rattle.slub_law_opening.specs.Rests.{IsBetween}
use Rattle.slub_law_opening.specs.Table.{system_of}
use Rattle.slub_law_opening.specs.Closing.{checked_in, MayClose}
use Rattle.slub_law_opening.specs.Laws.{MayOpen, MayBegin}
use Rattle.slub_law_opening.proofs.Closes.{machines-close}
use Rattle.slub_law_opening.proofs.Systems.{opened-rest, closed-are_coherent}
use Rattle.slub_law_opening.specs.Bounded.{IsWithin, IsBounded}
use Rattle.slub_law_opening.specs.BoundLaws.{flags_of, AreNumbered, begins, MachinesMayClose, RoundsCloseIntoLists}
use Rattle.slub_law_opening.proofs.Opens.{begins-bounded}
use Rattle.slub_law_opening.proofs.Turns.{All-unmap, after-bounded}

-- ---- a worker between two calls has nothing in hand

no-hands : (hs : List Hand) (xss : List (List ℕ)) → AreHands [] hs xss → hs ≡ []
no-hands [] xss are = refl
no-hands (h ∷ hs) [] are = absurd are
no-hands (h ∷ hs) (xs ∷ xss) are = absurd are

finished-between : (m : Setup) (value : ℕ → LockValue) (words : List ℕ) (opening : World) (xs : List Worker) (x : Worker) → IsAtWork (world_of m value words) x → IsTold m opening.board (public (world_of m value words) xs) x.local → IsWithin m value x.local → IsFinished x.local → IsBetween m x.local
unfolding world_of world_from
finished-between m value words opening xs x ok told within finished =
    let is = finished.between in
    record {
      between = is;
      hands = no-hands x.local.hands x.chains (subst (λ s. AreHands (roles s (length x.local.hands)) x.local.hands x.chains) is ok.spot.hands);
      string = ok.spot.no_string (rw is refl);
      run = ok.spot.no_run (rw is refl);
      packed = ok.spot.packed;
      cpu = ok.spot.cpu;
      numbers = told.numbers;
      some = within.some;
    }

all-between : (m : Setup) (flags : ℕ → Option Flags) (opening : World) (s : System) → IsCoherentSystem m opening s → IsBounded m flags s → All IsFinished s.locals → All (IsBetween m) s.locals
unfolding world_of world_from
all-between m flags opening s is ok finished =
    let f = λ (x : Worker). x.local in
    let within = All-unmap (IsWithin m s.value) f is.workers (subst (All (IsWithin m s.value)) (sym is.locals) ok.workers) in
    let ended = All-unmap IsFinished f is.workers (subst (All IsFinished) (sym is.locals) finished) in
    subst (All (IsBetween m)) is.locals (All-map (IsBetween m) f is.workers (λ k d below.
    finished-between m s.value s.words opening is.workers (get_or is.workers k d) (is.coherent.fresh.workers k d below) (is.coherent.accounted.told k d below) (within k d below) (ended k d below)))

-- ---- flags

flags-back : (c : Option CheckedState) (o : Option Cache) → IfSome c (λ slabs. IfSome (option_map (λ (live : Cache). live.flags) o) (λ kept. kept ≡ slabs.flags)) → IfSome c (λ slabs. IfSome o (λ live. live.flags ≡ slabs.flags))
flags-back None o is = tt
flags-back (Some slabs) None is = tt
flags-back (Some slabs) (Some live) is = is

-- ---- the whole

module _ (s : State) (b : Beside) (ls : List Local) (picks : List Pick) (may : MayOpen s b) (begin : MayBegin s b ls) (numbered : AreNumbered ls) where
  abbrev first : World
  first = world_of (setup_of s b) (system_of s b ls).value (system_of s b ls).words

  abbrev end : System
  end = run (setup_of s b) (begins s b ls) picks

  starts : IsCoherentSystem (setup_of s b) first (begins s b ls)
  starts = rounds_keep (setup_of s b) (system_of s b ls) [] (opened-rest s b ls may begin).1

  standing : IsCoherentSystem (setup_of s b) first end
  standing = (run_both (setup_of s b) first (begins s b ls) picks starts).0

  bounded : IsBounded (setup_of s b) (flags_of s) end
  bounded = after-bounded (setup_of s b) (flags_of s) first (begins s b ls) picks starts (begins-bounded s b ls may begin numbered)

  pub may-close : All IsFinished end.locals → MayClose s b end
  may-close finished = record {
    between = all-between (setup_of s b) (flags_of s) first end standing bounded finished;
    idle = λ n below past. let is = bounded.unused n below past in (is.frame, ap (λ (v : ListWord). v.count) is.list);
    flags = λ k. flags-back (checked_in (end.value (node_lock k))) (cache_of s k) (bounded.flags k);
  }

pub machines-may_close : MachinesMayClose
machines-may_close s b ls picks may begin numbered finished = may-close s b ls picks may begin numbered finished

pub rounds-close : RoundsCloseIntoLists
rounds-close s b ls picks may begin numbered finished =
    let m = setup_of s b in
    let end = run m (begins s b ls) picks in
    let is = standing s b ls picks may begin numbered in
    let closes = machines-close s b (first s b ls picks may begin numbered) end may is (may-close s b ls picks may begin numbered finished) in
    let coherent = closed-are_coherent s closes.0 b closes.1 (first s b ls picks may begin numbered) end may is closes.2 in
    (closes.0, closes.1, closes.2, coherent.0, coherent.1)
