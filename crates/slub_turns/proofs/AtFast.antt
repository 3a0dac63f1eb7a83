-- A turn at a spot of a fast path: nothing is done at once after its step, and the locks' values decide nothing.
use Rattle.std.proofs.Common.{◌≡◌, ℕ, ◌==◌, Bool, true, false, if◌then◌else◌, List, Option, Some, None, refl, sym, ap, ◌∙◌}
use Rattle.std.specs.Prelude.{not}
use Rattle.std.proofs.lemmas.Bool.{eq-eqb}
use Rattle.slub_words.specs.declared.cpu.CpuWord.{CpuWord}
use Rattle.slub_trace.specs.declared.reply.Reply.{Reply}
use Rattle.slub_core.specs.declared.spot.Spot.{Spot}
use Rattle.slub_core.specs.declared.spot.Spot.TheVariants.{Between, InAlloc, InFree}
use Rattle.slub_core.specs.declared.spot.AllocSpot.TheVariants as alloc
use Rattle.slub_core.specs.declared.spot.FreeSpot.TheVariants as free
use Rattle.slub_core.specs.declared.step.Answer.{Answer}
use Rattle.slub_core.specs.declared.step.Answer.TheVariants.{Word, Done, Won, Lost}
use Rattle.slub_core.specs.Setup.{Setup}
use Rattle.slub_core.specs.Words.{cpu_in}
use Rattle.slub_core.specs.World.{LockValue}
use Rattle.slub_core.specs.World as value
use Rattle.slub_core.specs.Local.{Local, Turn, at, noted, stays}
use Rattle.slub_core.specs.Alloc.{is_spent, way_of_word}
use Rattle.slub_core.specs.Free.{way_of_own}
use Rattle.slub_core.specs.Steps.{advance_at, settled, rested, told}
use Rattle.slub_core.specs.declared.guarded.Guarded.{Guarded}
use Rattle.slub_core.specs.Values.{values_of}
use Rattle.slub_core.specs.Ways as ways
use Rattle.slub_turns.specs.declared.quick.Quick.{Quick}
use Rattle.slub_turns.specs.declared.quick.Quick.TheVariants as quick
use Rattle.slub_turns.specs.Spots.{is_at_once}
use Rattle.slub_turns.specs.Quick.{spot_of, blind, quick_to}
use Rattle.slub_turns.proofs.Stays.{settled_none}

-- ---- what the locks guard decides nothing

sees_none : (m : Setup) (v w : ℕ → LockValue) (l : Local) (s : Quick) (a : Answer) → advance_at m v l (spot_of s) a ≡ advance_at m w l (spot_of s) a
sees_none m v w l quick.LoadCpu a = refl
sees_none m v w l quick.LoadNext a = refl
sees_none m v w l quick.Pop a = refl
sees_none m v w l quick.LoadOwn a = refl
sees_none m v w l quick.LinkOwn a = refl
sees_none m v w l quick.Push a = refl

pub blindly : (m : Setup) (v : ℕ → LockValue) (l : Local) (s : Quick) (a : Answer) → advance_at m v l (spot_of s) a ≡ blind m l (spot_of s) a
blindly m v l s a = sees_none m v (λ _. value.Nothing) l s a

-- ---- nothing is done at once

one_of : (b : Bool) (s t : Spot) → is_at_once s ≡ false → is_at_once t ≡ false → is_at_once (if b then s else t) ≡ false
one_of true s t one other = one
one_of false s t one other = other

word_calls : (m : Setup) (fast : Bool) (c : CpuWord) → is_at_once (way_of_word m fast c) ≡ false
word_calls m fast c =
    one_of (is_spent m c) Between _ refl
    (one_of (not (c.head == 0)) (InAlloc alloc.LoadNext) _ refl (one_of fast Between _ refl (one_of (not (c.frame == 0)) (InAlloc alloc.Detach) (InAlloc alloc.TakeList) refl refl)))

own_calls : (m : Setup) (l : Local) (c : CpuWord) → is_at_once (way_of_own m l c) ≡ false
own_calls m l c = one_of _ (InFree free.LinkOwn) (InFree free.LoadSlab) refl refl

-- the spot that it leads to calls for a step, or the worker is in no call
pub calls : (m : Setup) (v : ℕ → LockValue) (l : Local) (s : Quick) (a : Answer) → is_at_once l.spot ≡ false → is_at_once (advance_at m v l (spot_of s) a).local.spot ≡ false
calls m v l quick.LoadCpu (Word x) here = word_calls m l.fast (cpu_in x)
calls m v l quick.LoadCpu a here = here
calls m v l quick.LoadNext (Word x) here = refl
calls m v l quick.LoadNext a here = here
calls m v l quick.Pop Won here = refl
calls m v l quick.Pop (Lost x) here = one_of l.fast Between (InAlloc alloc.LoadCpu) refl refl
calls m v l quick.Pop a here = here
calls m v l quick.LoadOwn (Word x) here = own_calls m l (cpu_in x)
calls m v l quick.LoadOwn a here = here
calls m v l quick.LinkOwn Done here = refl
calls m v l quick.LinkOwn a here = here
calls m v l quick.Push Won here = refl
calls m v l quick.Push (Lost x) here = refl
calls m v l quick.Push a here = here

pub begins_calls : (s : Quick) → is_at_once (spot_of s) ≡ false
begins_calls quick.LoadCpu = refl
begins_calls quick.LoadNext = refl
begins_calls quick.Pop = refl
begins_calls quick.LoadOwn = refl
begins_calls quick.LinkOwn = refl
begins_calls quick.Push = refl

pub noted_spot : (l : Local) (reply : Option Reply) → (noted l reply).spot ≡ l.spot
noted_spot l None = refl
noted_spot l (Some reply) = refl

-- ---- a try that finds no object ends

pub try_ends : (m : Setup) (l : Local) (x : ℕ) (c : CpuWord) → c ≡ cpu_in x → is_spent m c ≡ false → c.head ≡ 0 → l.fast ≡ true → rested m (at (record l { cpu_word = c }) Between) ≡ quick_to m l (InAlloc alloc.LoadCpu) (Word x)
try_ends m l x c is unspent none fast = rw (← is, unspent, eq-eqb c.head 0 none, fast) refl

-- ---- so its turn is that of its step alone

-- its reply is all that comes with the answer
pub settles_at_fast : (m : Setup) (values : List Guarded) (l : Local) (s : Quick) (a : Answer) → l.spot ≡ spot_of s → let t = advance_at m (values_of values) l (spot_of s) a in
    settled m false (ways.changed values t.local t.reply) ≡ stays (values_of values) (told t)
settles_at_fast m values l s a at =
    let turn : Turn = advance_at m (values_of values) l (spot_of s) a in
    let still : is_at_once (told turn).spot ≡ false = ap is_at_once (noted_spot turn.local turn.reply) ∙ calls m (values_of values) l s a (ap is_at_once at ∙ begins_calls s) in
    settled_none m false (ways.changed values turn.local turn.reply) still

-- and the worker rests where that leads
pub rests_at_fast : (m : Setup) (values : List Guarded) (l : Local) (s : Quick) (a : Answer) → quick_to m l (spot_of s) a ≡ rested m (told (advance_at m (values_of values) l (spot_of s) a))
rests_at_fast m values l s a = sym (ap (λ (t : Turn). rested m (told t)) (blindly m (values_of values) l s a))
