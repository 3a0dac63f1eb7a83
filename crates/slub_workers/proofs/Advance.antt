-- Where an answer leads a worker rests on what its locks guard then, and nothing else is changed.
use Rattle.std.proofs.Common.{◌≡◌, ℕ, Bool, true, List, Contains, None, refl, sym, ap, ◌∙◌, subst}
use Rattle.slub_core.specs.declared.step.Answer.{Answer}
use Rattle.slub_core.specs.Setup.{Setup, node_lock}
use Rattle.slub_core.specs.World.{LockValue}
use Rattle.slub_core.specs.Local.{Local, Turn, Change, noted}
use Rattle.slub_core.specs.Steps.{advance_at, at_once, changed, settled, rested, advance_of}
use Rattle.slub_workers.specs.Locks.{locks_of}
use Rattle.slub_workers.proofs.Locals.{uses_values, advance_alike, noted_locks, rested_locks, at_once_locks}
use Rattle.slub_workers.proofs.AtOnce.{Agree, AreAlike, at_once_alike}

-- ---- the locks after it

pub changed_locks : (m : Setup) (r : Bool) (c : Change) → locks_of (changed m r c).local ≡ locks_of c.local
changed_locks m r c = at_once_locks m r c.value (noted c.local c.reply) ∙ noted_locks c.local c.reply

settled_locks : (m : Setup) (r : Bool) (c : Change) → locks_of (settled m r c).local ≡ locks_of c.local
settled_locks m r c = changed_locks m r (changed m r c) ∙ changed_locks m r c

-- the turn as a change, before anything is done at once
abbrev from_turn : Turn → (ℕ → LockValue) → Change
from_turn turn v = record { value = v; local = turn.local; reply = turn.reply }

pub advance_of_locks : (m : Setup) (r : Bool) (v : ℕ → LockValue) (l : Local) (a : Answer) → locks_of (advance_of m r v l a).local ≡ locks_of (advance_at m v l l.spot a).local
advance_of_locks m r v l a =
    let c = from_turn (advance_at m v l l.spot a) v in
    let d = settled m r c in
    rested_locks m (noted d.local d.reply) ∙ noted_locks d.local d.reply ∙ settled_locks m r c

-- ---- with other values

pub noted_same : (c d : Change) → c.local ≡ d.local → c.reply ≡ d.reply → noted c.local c.reply ≡ noted d.local d.reply
noted_same c d local reply = ap (λ k. noted k c.reply) local ∙ ap (λ r. noted d.local r) reply

pub changed_alike : (m : Setup) (r : Bool) (locks : List ℕ) (v w : ℕ → LockValue) (c d : Change) → locks_of c.local ≡ locks → AreAlike locks v w c d → AreAlike locks v w (changed m r c) (changed m r d)
changed_alike m r locks v w c d is same =
    let l : Local = noted c.local c.reply in
    let k : Local = noted d.local d.reply in
    let here : locks_of l ≡ locks = noted_locks c.local c.reply ∙ is in
    let agree : Agree (locks_of l) c.value d.value = λ lock has. same.here lock (subst (λ ls. Contains ls lock) here has) in
    let at_l : AreAlike locks c.value d.value (changed m r c) (changed m r d) =
    subst (λ ls. AreAlike ls c.value d.value (changed m r c) (changed m r d)) here
    (subst (λ j. AreAlike (locks_of l) c.value d.value (changed m r c) (at_once m r d.value j j.spot)) (noted_same c d same.local same.reply) (at_once_alike m r c.value d.value l agree)) in
    record {
      local = at_l.local;
      reply = at_l.reply;
      here = at_l.here;
      one = λ lock hasnt. at_l.one lock hasnt ∙ same.one lock hasnt;
      other = λ lock hasnt. at_l.other lock hasnt ∙ same.other lock hasnt;
    }

settled_alike : (m : Setup) (r : Bool) (locks : List ℕ) (v w : ℕ → LockValue) (c d : Change) → locks_of c.local ≡ locks → AreAlike locks v w c d → AreAlike locks v w (settled m r c) (settled m r d)
settled_alike m r locks v w c d is same = changed_alike m r locks v w (changed m r c) (changed m r d) (changed_locks m r c ∙ is) (changed_alike m r locks v w c d is same)

-- where the turn is the same with both
pub turned_alike : (v w : ℕ → LockValue) (t u : Turn) → t ≡ u → Agree (locks_of t.local) v w → AreAlike (locks_of t.local) v w (from_turn t v) (from_turn u w)
turned_alike v w t u same agree = record {
  local = ap (λ (x : Turn). x.local) same;
  reply = ap (λ (x : Turn). x.reply) same;
  here = agree;
  one = λ lock hasnt. refl;
  other = λ lock hasnt. refl;
}

-- with the replies that take no step
rested_alike : (m : Setup) (locks : List ℕ) (v w : ℕ → LockValue) (c d : Change) → AreAlike locks v w c d
    → AreAlike locks v w (record { value = c.value; local = rested m (noted c.local c.reply); reply = None }) (record { value = d.value; local = rested m (noted d.local d.reply); reply = None })
rested_alike m locks v w c d same = record {
  local = ap (λ k. rested m k) (noted_same c d same.local same.reply);
  reply = refl;
  here = same.here;
  one = same.one;
  other = same.other;
}

-- ---- all that comes with an answer

pub advance_of_alike : (m : Setup) (r : Bool) (v w : ℕ → LockValue) (l : Local) (a : Answer) → (uses_values l.spot ≡ true → v (node_lock l.cache) ≡ w (node_lock l.cache))
    → ((lock : ℕ) → Contains (locks_of (advance_at m v l l.spot a).local) lock → v lock ≡ w lock)
    → AreAlike (locks_of (advance_of m r v l a).local) v w (advance_of m r v l a) (advance_of m r w l a)
advance_of_alike m r v w l a uses agree =
    let t = advance_at m v l l.spot a in
    let u = advance_at m w l l.spot a in
    let locks = locks_of t.local in
    let start = turned_alike v w t u (advance_alike m v w l l.spot a uses) agree in
    let end = settled_alike m r locks v w (from_turn t v) (from_turn u w) refl start in
    subst (λ ls. AreAlike ls v w (advance_of m r v l a) (advance_of m r w l a)) (sym (advance_of_locks m r v l a)) (rested_alike m locks v w (settled m r (from_turn t v)) (settled m r (from_turn u w)) end)
