-- What a worker reads it wrote before.
use Rattle.std.proofs.Common.{◌≡◌, ℕ, Bool, true, false, ◌&&◌, ◌||◌, cond, if◌then◌else◌, List, [], ◌∷◌, map, refl, sym, subst, eqb, arith}
use Rattle.std.proofs.lemmas.Bool.{false≢true}
use Rattle.std.proofs.lemmas.Bool.Decides.{nat_tests}
use Rattle.slub_trace.specs.declared.event.Act.{Act}
use Rattle.slub_trace.specs.declared.event.Act.TheVariants as act
use Rattle.slub_trace.specs.declared.event.Event.{Event}
use Rattle.slub_cache_create.specs.Table.{Table}
use Rattle.slub_trace.specs.Sound.{AreReadable, IsReadable, is_written, written_after}
use Rattle.slub_core.specs.declared.call.Call.{Call}
use Rattle.slub_core.specs.declared.local.Known.{Known}
use Rattle.slub_core.specs.Calls.{call_kind}
use Rattle.slub_core.specs.Accounted.{MayCome, written}
use Rattle.slub_core.specs.Accounted as core
use Rattle.slub_calls.specs.Calls.{call_for, events_by}

module _ (table : Table) (rooms : List Known) (worker : ℕ) where
  abbrev pub call : Event → Call
  call event = call_for table rooms event.cpu event.act

  -- the calls of the worker's events among these
  abbrev pub calls : List Event → List Call
  calls events = map call (events_by worker events)

  -- ---- what was written

  -- whoever's event it is, the word was written before it or by it
  other_wrote : (a : Act) (o t : ℕ) (was : Bool) → written_after a false o t was ≡ true → was ≡ true
  other_wrote (act.Alloc place x) o t was is = by (eqb x o) is
    where
      by : (b : Bool) → (if b then false else was) ≡ true → was ≡ true
      by true is = absurd (false≢true is)
      by false is = is
  other_wrote (act.Free x) o t was is = is
  other_wrote (act.Write at x value) o t was is = is
  other_wrote (act.Read at x) o t was is = is
  other_wrote (act.Poke x offset byte) o t was is = is
  other_wrote (act.Trim place) o t was is = is
  other_wrote act.Flush o t was is = is

  same_either : (b : Bool) (now : Bool) → now ≡ true → cond b now now ≡ true
  same_either true now is = is
  same_either false now is = is

  -- it is the worker's own event
  mine_wrote : (cpu : ℕ) (a : Act) (o t : ℕ) (was : Bool) (cs : List Call) → (was ≡ true → written cs o t ≡ true)
      → written_after a true o t was ≡ true → written (call_for table rooms cpu a ∷ cs) o t ≡ true
  mine_wrote cpu (act.Alloc place x) o t was cs rest is = by (eqb x o) is
    where
      by : (b : Bool) → (if b then false else was) ≡ true → cond b false (written cs o t) ≡ true
      by true is = absurd (false≢true is)
      by false is = rest is
  mine_wrote cpu (act.Write at x value) o t was cs rest is = by (eqb x o) (eqb at t) is
    where
      by : (b c : Bool) → ((true && b && c) || was) ≡ true → cond b (cond c true (written cs o t)) (written cs o t) ≡ true
      by true true is = refl
      by true false is = rest is
      by false c is = rest is
  mine_wrote cpu (act.Free x) o t was cs rest is = same_either (eqb x o) (written cs o t) (rest is)
  mine_wrote cpu (act.Read at x) o t was cs rest is = same_either (eqb x o) (written cs o t) (rest is)
  mine_wrote cpu (act.Poke x offset byte) o t was cs rest is = same_either (eqb x o) (written cs o t) (rest is)
  mine_wrote cpu (act.Trim place) o t was cs rest is = same_either (eqb 0 o) (written cs o t) (rest is)
  mine_wrote cpu act.Flush o t was cs rest is = same_either (eqb 0 o) (written cs o t) (rest is)

  wrote : (before : List Event) (o t : ℕ) → is_written before worker o t ≡ true → written (calls before) o t ≡ true
  wrote [] o t is = absurd (false≢true is)
  wrote (event ∷ before) o t is = by (eqb event.worker worker) (wrote before o t) is
    where
      by : (b : Bool) → (is_written before worker o t ≡ true → written (calls before) o t ≡ true) → written_after event.act b o t (is_written before worker o t) ≡ true
          → written (map call (cond b (event ∷ events_by worker before) (events_by worker before))) o t ≡ true
      by true rest is = mine_wrote event.cpu event.act o t (is_written before worker o t) (calls before) rest is
      by false rest is = rest (other_wrote event.act o t (is_written before worker o t) is)

  -- ---- what is read

  may_come : (event : Event) (before : List Event) (a : Act) → event.worker ≡ worker → IsReadable before event a
      → MayCome (calls before) (call_for table rooms event.cpu a) (call_kind (call_for table rooms event.cpu a))
  may_come event before (act.Read at x) mine reads = wrote before x at (subst (λ w. is_written before w x at ≡ true) mine reads)
  may_come event before (act.Alloc place x) mine reads = tt
  may_come event before (act.Free x) mine reads = tt
  may_come event before (act.Write at x value) mine reads = tt
  may_come event before (act.Poke x offset byte) mine reads = tt
  may_come event before (act.Trim place) mine reads = tt
  may_come event before act.Flush mine reads = tt

  pub readable : (before events : List Event) → AreReadable before events → core.AreReadable (calls before) (calls events)
  readable before [] reads = tt
  readable before (event ∷ events) reads = by (eqb event.worker worker) refl (readable (event ∷ before) events reads.1)
    where
      chosen : Bool → List Event → List Call
      chosen b others = map call (cond b (event ∷ events_by worker others) (events_by worker others))

      by : (b : Bool) → eqb event.worker worker ≡ b → core.AreReadable (chosen (eqb event.worker worker) before) (calls events)
          → core.AreReadable (calls before) (chosen (eqb event.worker worker) events)
      by true is rest =
          let mine : event.worker ≡ worker = grind (arith, nat_tests, is) in
          let on : core.AreReadable (chosen true before) (calls events) = subst (λ b. core.AreReadable (chosen b before) (calls events)) is rest in
          subst (λ b. core.AreReadable (calls before) (chosen b events)) (sym is) (may_come event before event.act mine reads.0, on)
      by false is rest =
          let on : core.AreReadable (chosen false before) (calls events) = subst (λ b. core.AreReadable (chosen b before) (calls events)) is rest in
          subst (λ b. core.AreReadable (calls before) (chosen b events)) (sym is) on
