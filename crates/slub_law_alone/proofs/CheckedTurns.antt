-- The turns of a call of a checked cache: it takes the node lock and does what it does at once, and gives the lock back.
use Rattle.std.proofs.Common.{◌≡◌, ℕ, suc, ◌+◌, ◌<◌, eqb, cond, true, false, List, ◌∷◌, length, get_or, set, Some, refl, ap, sym, ◌∙◌, arith}
use Rattle.std.specs.Prelude.{is_some}
use Rattle.std.proofs.lemmas.Bool.{eq-eqb}
use Rattle.slub_trace.specs.declared.reply.Reply.{Reply}
use Rattle.slub_red_zone.specs.State.{CheckedState}
use Rattle.slub_common.proofs.Writes.{inside-of}
use Rattle.slub_lists.specs.State.{State}
use Rattle.slub_lists.specs.Alloc.{cache_of, checked_of, node_of}
use Rattle.slub_core.specs.declared.call.Call.{Call}
use Rattle.slub_core.specs.declared.call.CallKind.{CallKind}
use Rattle.slub_core.specs.declared.spot.Spot.{Spot}
use Rattle.slub_core.specs.declared.spot.Spot.TheVariants.{Between, InChecked}
use Rattle.slub_core.specs.declared.spot.CheckedSpot.TheVariants.{LockChecked, DoChecked, GiveChecked}
use Rattle.slub_core.specs.declared.step.Step.{Step}
use Rattle.slub_core.specs.declared.step.Answer.{Answer}
use Rattle.slub_core.specs.declared.step.Answer.TheVariants.{Done, Won, Lost}
use Rattle.slub_core.specs.declared.step.Op.TheVariants.{Store, Exchange}
use Rattle.slub_core.specs.declared.step.Place.TheVariants.{LockOf}
use Rattle.slub_core.specs.Calls.{call_kind, call_cpu, call_cache, call_place}
use Rattle.slub_core.specs.Setup.{Setup, node_lock}
use Rattle.slub_core.specs.World.{World, LockValue, Checked}
use Rattle.slub_core.specs.Local.{Local, at, answered}
use Rattle.slub_core.specs.Run.{System, turn}
use Rattle.slub_core.specs.Steps.{at_once, begun, begun_at, begun_with, cache_for, first_spot, first_cpu, rested}
use Rattle.slub_core.proofs.StepWords.{lock-read, value_of}
use Rattle.slub_law_opening.specs.Opening.{Beside, setup_of, value_of as value_in, node_value}
use Rattle.slub_law_alone.specs.Alone.{own_pick, alone, known_at}
use Rattle.slub_law_alone.specs.Ready.{IsReady}
use Rattle.slub_law_alone.proofs.NewSlabSearch.{turn_changes, settle_does, change, lock_back}
use Rattle.slub_law_alone.proofs.Turns.{machine, turn_goes, settle_rests, then_turn}

-- ---- where it begins

-- a worker whose call is of this cache
abbrev pub asking : Local → Call → ℕ → Local
asking l call k = record l { cache = k; cpu = call_cpu call; place = call_place call; fast = false; turn = 0; count = 0 }

-- the worker begins a call of a checked cache
pub begin_checked : (m : Setup) (l : Local) (call : Call) (calls : List Call) (kind : CallKind) (k : ℕ) → l.spot ≡ Between → l.todo ≡ call ∷ calls → call_kind call ≡ kind → cache_for m (known_at l call) (call_cache call) kind ≡ k → first_cpu kind (call_cpu call) ≡ call_cpu call
    → m.checks k ≡ true → first_spot kind true (known_at l call).held ≡ InChecked LockChecked kind → begun m false l ≡ at (asking l call k) (InChecked LockChecked kind)
begin_checked m l call calls kind k between todo is cache cpu checked at_spot =
    ap (begun_at m false l) between ∙ ap (begun_with m false l) todo
    ∙ ap (λ kind. by (first_spot kind (m.checks (cache_for m (known_at l call) (call_cache call) kind)) (known_at l call).held) (cache_for m (known_at l call) (call_cache call) kind) (first_cpu kind (call_cpu call))) is
    ∙ ap (λ k. by (first_spot kind (m.checks k) (known_at l call).held) k (first_cpu kind (call_cpu call))) cache
    ∙ ap (by (first_spot kind (m.checks k) (known_at l call).held) k) cpu
    ∙ ap (λ z. by (first_spot kind z (known_at l call).held) k (call_cpu call)) checked
    ∙ ap (λ spot. by spot k (call_cpu call)) at_spot
  where
    by : Spot → ℕ → ℕ → Local
    by spot cache cpu = record l { spot = spot; cache = cache; cpu = cpu; place = call_place call; fast = false; turn = 0; count = 0 }

-- ---- what is there

pub lock_free : {x : ℕ} (opening : World) (s : State) (b : Beside) (system : System) → IsReady opening s b system x → (j : ℕ) → j < 33 → get_or system.words j 0 ≡ 0
lock_free opening s b system rest j below = sym (lock-read (setup_of s b) system.value system.words j below) ∙ rest.rests.rests.locks j below

-- a checked cache is one of the machine's
pub checked_few : {x : ℕ} (opening : World) (s : State) (b : Beside) (system : System) → IsReady opening s b system x → (k : ℕ) (c : CheckedState) → checked_of s k ≡ Some c → k < 32
checked_few opening s b system rest k c was = omega (arith, inside-of s.checked k c was, rest.lists.shaped.checked.numbers)

-- its lock guards its slabs
pub slabs_guarded : {x : ℕ} (opening : World) (s : State) (b : Beside) (system : System) → IsReady opening s b system x → (k : ℕ) (c : CheckedState) → checked_of s k ≡ Some c → system.value (node_lock k) ≡ Checked c
slabs_guarded opening s b system rest k c was =
    ap (λ (value : ℕ → LockValue). value (node_lock k)) (sym (value_of (setup_of s b) system.value system.words))
    ∙ rest.rests.rests.values (node_lock k) (omega (arith, checked_few opening s b system rest k c was))
    ∙ ap (value_in s) (let e : node_lock k ≡ suc k = omega arith in e)
    ∙ ap (λ o. node_value (is_some (cache_of s k)) o (node_of s k)) was

-- ---- two turns

module _ (m : Setup) (words : List ℕ) (value later : ℕ → LockValue) (ls : List Local) (x : ℕ) (l q r : Local) (kind : CallKind) (reply : Reply) (below : x < length ls) (begins : begun m false l ≡ at q (InChecked LockChecked kind)) (free : get_or words (node_lock q.cache) 0 ≡ 0) (same : r.cache ≡ q.cache)
    (does : at_once m false value (at q (InChecked DoChecked kind)) (InChecked DoChecked kind) ≡ change later (at r (InChecked GiveChecked kind)) (Some reply)) where
  abbrev j : ℕ
  j = node_lock q.cache

  abbrev a : ℕ
  a = q.worker + 1

  abbrev asked : Local
  asked = at q (InChecked LockChecked kind)

  abbrev giving : Local
  giving = answered (at r (InChecked GiveChecked kind)) reply

  abbrev told : Local
  told = answered (at r Between) reply

  abbrev words1 : List ℕ
  words1 = set words j a

  hit : eqb (get_or words j 0) 0 ≡ true
  hit = eq-eqb (get_or words j 0) 0 free

  turn1 : turn m (machine words value (set ls x l)) (own_pick x) ≡ machine words1 later (set ls x giving)
  turn1 = turn_changes m words words1 value later ls x l asked giving (record { place = LockOf j; op = Exchange 0 a }) Won below begins refl
      (ap (λ h. set words j (cond {A = ℕ} h a (get_or words j 0))) hit) (ap (λ h. cond {A = Answer} h Won (Lost (get_or words j 0))) hit)
      (settle_does m value later asked (at q (InChecked DoChecked kind)) (at r (InChecked GiveChecked kind)) Won (Some reply) refl does refl refl)

  turn2 : turn m (machine words1 later (set ls x giving)) (own_pick x) ≡ machine words later (set ls x (rested m told))
  turn2 = turn_goes m words1 words later ls x giving giving (rested m told) (record { place = LockOf j; op = Store 0 }) Done below refl (ap gives same) (lock_back words j a free) refl
      (settle_rests m later giving told Done refl refl)
    where
      gives : ℕ → Step
      gives k = record { place = LockOf (node_lock k); op = Store 0 }

  pub two_turns : alone m x 2 (machine words value (set ls x l)) ≡ machine words later (set ls x (rested m told))
  two_turns = then_turn m x 1 (machine words value (set ls x l)) (machine words1 later (set ls x giving)) (machine words later (set ls x (rested m told))) turn1
      (then_turn m x 0 (machine words1 later (set ls x giving)) (machine words later (set ls x (rested m told))) (machine words later (set ls x (rested m told))) turn2 refl)
