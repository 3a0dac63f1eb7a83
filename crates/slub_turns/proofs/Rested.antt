-- The replies that take no step, one call after the other.
use Rattle.std.proofs.Common.{◌≡◌, ◌<◌, ◌∙◌, List, [], ◌∷◌, length, get_or, drop, Option, Some, None, refl, ap, arith, length-drop}
use Rattle.slub_trace.specs.declared.reply.Reply.{Reply}
use Rattle.slub_core.specs.declared.call.Call.{Call}
use Rattle.slub_core.specs.declared.local.Known.{Known}
use Rattle.slub_core.specs.Calls.{call_kind, call_place}
use Rattle.slub_core.specs.Setup.{Setup}
use Rattle.slub_core.specs.Local.{Local, nobody, no_call, call_of, answered}
use Rattle.slub_core.specs.Steps.{told_at_once, rested_with}

-- the worker's calls end
rested_none : (m : Setup) (calls : List Call) (l : Local) → length calls ≡ 0 → rested_with m calls l ≡ l
rested_none m [] l none = refl
rested_none m (call ∷ calls) l none = absurd (omega arith)

pub rested_over : (m : Setup) (l : Local) → length l.todo ≡ 0 → rested_with m l.todo l ≡ l
rested_over m l none = rested_none m l.todo l none

-- the first call takes a step
rested_at_step : (m : Setup) (calls : List Call) (l : Local) → 0 < length calls → let call = get_or calls 0 no_call in None ≡ told_at_once m (get_or l.known (call_place call) nobody) call (call_kind call) → rested_with m calls l ≡ l
rested_at_step m [] l some told = absurd (omega arith)
rested_at_step m (call ∷ calls) l some told = rw (← told) refl

pub rested_stays : (m : Setup) (l : Local) → 0 < length l.todo → None ≡ told_at_once m (get_or l.known (call_place (call_of l)) nobody) (call_of l) (call_kind (call_of l)) → rested_with m l.todo l ≡ l
rested_stays m l some told = rested_at_step m l.todo l some told

-- the first call has its reply at once
rested_after : (m : Setup) (calls : List Call) (l : Local) (reply : Reply) → 0 < length calls → let call = get_or calls 0 no_call in Some reply ≡ told_at_once m (get_or l.known (call_place call) nobody) call (call_kind call)
    → rested_with m calls l ≡ rested_with m (drop 1 calls) (answered l reply)
rested_after m [] l reply some told = absurd (omega arith)
rested_after m (call ∷ calls) l reply some told = rw (← told) refl

pub rested_more : (m : Setup) (l : Local) (reply : Reply) → 0 < length l.todo → Some reply ≡ told_at_once m (get_or l.known (call_place (call_of l)) nobody) (call_of l) (call_kind (call_of l))
    → rested_with m l.todo l ≡ rested_with m (answered l reply).todo (answered l reply)
rested_more m l reply some told = rested_after m l.todo l reply some told

-- the same, where the call and what is known of its object were read before
pub told_here : (m : Setup) (l : Local) (call : Call) (known : Known) (r : Option Reply) → call ≡ call_of l → known ≡ get_or l.known (call_place call) nobody → r ≡ told_at_once m known call (call_kind call)
    → r ≡ told_at_once m (get_or l.known (call_place (call_of l)) nobody) (call_of l) (call_kind (call_of l))
told_here m l call known r is here told =
    told ∙ ap (λ (k : Known). told_at_once m k call (call_kind call)) here ∙ ap (λ (x : Call). told_at_once m (get_or l.known (call_place x) nobody) x (call_kind x)) is

pub fewer_calls : (l k : Local) (reply : Reply) → k ≡ answered l reply → 0 < length l.todo → length k.todo < length l.todo
fewer_calls l k reply is some = rw is (omega (arith, length-drop 1 l.todo))
