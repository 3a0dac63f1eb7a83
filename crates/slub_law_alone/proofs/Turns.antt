-- A turn of one worker, from its step and where the answer leads.
use Rattle.std.proofs.Common.{◌≡◌, ℕ, suc, ◌<◌, false, List, get_or, set, None, ap, ◌∙◌, length}
use Rattle.std.proofs.lemmas.List.{get_or-set_same, set-set}
use Rattle.slub_trace.specs.declared.reply.Reply.{Reply}
use Rattle.slub_core.specs.declared.step.Step.{Step}
use Rattle.slub_core.specs.declared.step.Answer.{Answer}
use Rattle.slub_core.specs.declared.spot.Spot.TheVariants.{Between}
use Rattle.slub_core.specs.Setup.{Setup}
use Rattle.slub_core.specs.Words.{number_of, after_op, answer_of}
use Rattle.slub_core.specs.World.{LockValue}
use Rattle.slub_core.specs.Local.{Local, Turn, Change, answered, noted, goes, tells, stays}
use Rattle.slub_core.specs.Steps.{step_of, advance_at, advance_of, at_once, settled, changed, rested, begun}
use Rattle.slub_core.specs.Run.{System, idle, after_step, turn}
use Rattle.slub_law_alone.specs.Alone.{own_pick, alone}

abbrev pub machine : List ℕ → (ℕ → LockValue) → List Local → System
machine words value locals = record { words = words; value = value; locals = locals }

-- where the step leads, by the step
abbrev with_step : Setup → List ℕ → (ℕ → LockValue) → List Local → ℕ → Local → Step → System
with_step m words value ls x l step =
    let n = number_of m step.place in
    let q = get_or words n 0 in
    let c = advance_of m false value l (answer_of step.op q) in
    record { words = set words n (after_op step.op q); value = c.value; locals = set ls x c.local }

pub turn_goes : (m : Setup) (words after : List ℕ) (value : ℕ → LockValue) (ls : List Local) (x : ℕ) (l begins next : Local) (step : Step) (a : Answer) → x < length ls → begun m false l ≡ begins → step_of m value begins ≡ step
    → set words (number_of m step.place) (after_op step.op (get_or words (number_of m step.place) 0)) ≡ after → answer_of step.op (get_or words (number_of m step.place) 0) ≡ a
    → advance_of m false value begins a ≡ stays value next → turn m (machine words value (set ls x l)) (own_pick x) ≡ machine after value (set ls x next)
turn_goes m words after value ls x l begins next step a below begin steps moves answers leads =
    let s : System = machine words value (set ls x l) in
    let n = number_of m step.place in
    let q = get_or words n 0 in
    ap (λ l. after_step m false s x (begun m false l)) (get_or-set_same ls x l idle below)
    ∙ ap (after_step m false s x) begin
    ∙ ap (with_step m words value (set ls x l) x begins) steps
    ∙ ap (λ a. by_change n q (advance_of m false value begins a)) answers
    ∙ ap (by_change n q) leads
    ∙ ap (λ ws. machine ws value (set (set ls x l) x next)) moves
    ∙ ap (machine after value) (set-set ls x l next)
  where
    by_change : ℕ → ℕ → Change → System
    by_change n q c = record { words = set words n (after_op step.op q); value = c.value; locals = set (set ls x l) x c.local }

-- ---- where an answer leads

pub settle_goes : (m : Setup) (value : ℕ → LockValue) (l next : Local) (a : Answer) → advance_at m value l l.spot a ≡ goes next → at_once m false value next next.spot ≡ stays value next → rested m next ≡ next → advance_of m false value l a ≡ stays value next
settle_goes m value l next a leads waits rests =
    ap by_turn leads ∙ ap (λ c. end (changed m false c)) waits ∙ ap end waits ∙ ap (stays value) rests
  where
    end : Change → Change
    end c = record { value = c.value; local = rested m (noted c.local c.reply); reply = None }

    by_turn : Turn → Change
    by_turn t = end (settled m false (record { value = value; local = t.local; reply = t.reply }))

pub once_between : (m : Setup) (value : ℕ → LockValue) (l : Local) → l.spot ≡ Between → at_once m false value l l.spot ≡ stays value l
once_between m value l is = ap (at_once m false value l) is

pub settle_tells : (m : Setup) (value : ℕ → LockValue) (l next : Local) (a : Answer) (reply : Reply) → advance_at m value l l.spot a ≡ tells next reply → next.spot ≡ Between → advance_of m false value l a ≡ stays value (rested m (answered next reply))
settle_tells m value l next a reply leads is =
    ap by_turn leads ∙ ap (λ c. end (changed m false c)) (once_between m value (answered next reply) is) ∙ ap end (once_between m value (answered next reply) is)
  where
    end : Change → Change
    end c = record { value = c.value; local = rested m (noted c.local c.reply); reply = None }

    by_turn : Turn → Change
    by_turn t = end (settled m false (record { value = value; local = t.local; reply = t.reply }))

-- a worker that comes to stand between calls has the replies that take no step
pub settle_rests : (m : Setup) (value : ℕ → LockValue) (l next : Local) (a : Answer) → advance_at m value l l.spot a ≡ goes next → next.spot ≡ Between → advance_of m false value l a ≡ stays value (rested m next)
settle_rests m value l next a leads is =
    ap by_turn leads ∙ ap (λ c. end (changed m false c)) (once_between m value next is) ∙ ap end (once_between m value next is)
  where
    end : Change → Change
    end c = record { value = c.value; local = rested m (noted c.local c.reply); reply = None }

    by_turn : Turn → Change
    by_turn t = end (settled m false (record { value = value; local = t.local; reply = t.reply }))

-- a call has its reply, and something is done at once
pub settle_tells_once : (m : Setup) (value : ℕ → LockValue) (l next mid : Local) (a : Answer) (reply : Reply) → advance_at m value l l.spot a ≡ tells next reply → at_once m false value (answered next reply) next.spot ≡ stays value mid → at_once m false value mid mid.spot ≡ stays value mid → rested m mid ≡ mid
    → advance_of m false value l a ≡ stays value mid
settle_tells_once m value l next mid a reply leads does waits rests =
    ap by_turn leads ∙ ap (λ c. end (changed m false c)) does ∙ ap end waits ∙ ap (stays value) rests
  where
    end : Change → Change
    end c = record { value = c.value; local = rested m (noted c.local c.reply); reply = None }

    by_turn : Turn → Change
    by_turn t = end (settled m false (record { value = value; local = t.local; reply = t.reply }))

-- ---- several turns

pub then_turn : (m : Setup) (x n : ℕ) (s t r : System) → turn m s (own_pick x) ≡ t → alone m x n t ≡ r → alone m x (suc n) s ≡ r
then_turn m x n s t r first rest = ap (alone m x n) first ∙ rest
