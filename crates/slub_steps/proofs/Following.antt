-- Whose turns a log has let be made, and how each ended.
use Rattle.std.proofs.Common.{◌≡◌, ◌≤◌, ℕ, Bool, false, List, [], ◌∷◌, ◌++◌, All, length, append_assoc, append-nil, refl, ap, sym, subst, ◌∙◌}
use Rattle.std.proofs.lemmas.List.Elements.{All-cons, All-nil}
use Rattle.std.specs.Prelude.{slice_index}
use Rattle.std.specs.List.{fold}
use Rattle.slub_core.specs.Setup.{Setup}
use Rattle.slub_core.specs.Run.{Pick, System, run, turn}
use Rattle.slub_schedule.specs.Schedule.{AreDrawn, IsCall, is_between, unfinished}
use Rattle.slub_turns.specs.Happenings.{Happening, Rests, happenings_of}
use Rattle.slub_picks.specs.declared.list.Entry.{Entry}
use Rattle.slub_picks.specs.declared.walk.Ended.{Ended}
use Rattle.slub_picks.specs.declared.walk.Misfit.{Misfit}
use Rattle.slub_picks.specs.declared.walk.Misfit.TheVariants.{PicksEnd}
use Rattle.slub_picks.specs.declared.walk.Walk.{Walk}
use Rattle.slub_picks.specs.Misfits.{IsMisfit}
use Rattle.slub_picks.specs.Turns.{Say, Turn}
use Rattle.slub_picks.specs.Walks.{IsAlong}
use Rattle.slub_round_log.specs.declared.choice.Choice.{Choice}
use Rattle.slub_round_log.specs.declared.choice.Choice.TheVariants as choice
use Rattle.slub_round_log.specs.Choices.{Chooses, Goes, IsOver, Refuses}
use Rattle.slub_round_log.specs.Laws.{IsOneTurn}
use Rattle.slub_round_log.specs.Log.{ended_by, waits_after}
use Rattle.slub_steps.specs.Inner.{OpensAs}
use Rattle.slub_steps.specs.Sayers.{Alone, AreAllSaid, AreFirst, AreSaid, Drawn, IsOfUnfinished, Listed, Misfits, Sayer, ended_of, over_after, turns_by}

-- ---- how a turn ended

fold_both : {A B : Type 0} (f : B → A → B) (b : B) (xs ys : List A) → fold f b (xs ++ ys) ≡ fold f (fold f b xs) ys
fold_both f b [] ys = refl
fold_both f b (x ∷ xs) ys = fold_both f (f b x) xs ys

-- it goes by its end and by its step alone
pub ended_is : (m : Setup) (refused : Bool) (s : System) (worker : ℕ) (waits : Bool) (turn : IsOneTurn (happenings_of m refused s worker))
    → ended_by turn.last (fold waits_after waits turn.front) ≡ ended_of (happenings_of m refused s worker)
ended_is m refused s worker waits turn =
    let hs : List Happening = happenings_of m refused s worker in
    let end : List Happening = Rests turn.value turn.before turn.last ∷ [] in
    let over : fold over_after false hs ≡ is_between turn.last.spot =
    ap (λ (xs : List Happening). fold over_after false xs) turn.happenings_are ∙ fold_both over_after false turn.front end in
    let lost : fold waits_after waits hs ≡ fold waits_after waits turn.front =
    ap (λ (xs : List Happening). fold waits_after waits xs) turn.happenings_are ∙ fold_both waits_after waits turn.front end in
    let step : fold waits_after waits hs ≡ fold waits_after false hs = refl in
    let E : Bool → Bool → Ended = λ b c. record { is_event_over = b; is_lost_at_lock = c } in
    ap (λ (b : Bool). E b (fold waits_after waits turn.front)) (sym over) ∙ ap (λ (c : Bool). E (fold over_after false hs) c) (sym lost ∙ step)

-- ---- who chose them

-- what says whose turn comes next comes from the one to the other by these turns
abbrev pub AreChosen : Setup → Choice → System → List Pick → Choice → Type 0
AreChosen m c s [] after = after ≡ c
AreChosen m c s (pick ∷ picks) after =
    (chosen : Choice) × (next : Choice) × (1 ≤ length (unfinished s)) × IsCall pick
    × Chooses c (unfinished s) pick.worker chosen
    × Goes chosen (ended_of (happenings_of m pick.refused s pick.worker)) next
    × AreChosen m next (turn m s pick) picks after

pub calls_of : (m : Setup) (c : Choice) (s : System) (picks : List Pick) (after : Choice) → AreChosen m c s picks after → All IsCall picks
calls_of m c s [] after chose = All-nil IsCall
calls_of m c s (pick ∷ picks) after chose = All-cons IsCall pick picks chose.3 (calls_of m chose.1 (turn m s pick) picks after chose.6)

-- a round of one worker
pub first_said : (m : Setup) (c : Choice) (s : System) (picks : List Pick) (after : Choice) → c ≡ choice.Alone → AreChosen m c s picks after → AreFirst m s picks × (after ≡ choice.Alone)
first_said m c s [] after is chose = (tt, chose ∙ is)
first_said m c s (pick ∷ picks) after is chose =
    let C : Choice → Type 0 = λ x. Chooses x (unfinished s) pick.worker chose.0 in
    let one : (pick.worker ≡ slice_index (unfinished s) 0) × (chose.0 ≡ choice.Alone) = subst C is chose.4 in
    let G : Choice → Type 0 = λ x. Goes x (ended_of (happenings_of m pick.refused s pick.worker)) chose.1 in
    let next : chose.1 ≡ choice.Alone = subst G one.1 chose.5 in
    let rest = first_said m chose.1 (turn m s pick) picks after next chose.6 in
    ((chose.2, one.0, chose.3, rest.0), rest.1)

-- by a seed
pub drawn_said : (m : Setup) (c : Choice) (s : System) (picks : List Pick) (after : Choice) (x : ℕ) → c ≡ choice.Seed x → AreChosen m c s picks after → AreDrawn m s x picks × ((y : ℕ) × (after ≡ choice.Seed y))
drawn_said m c s [] after x is chose = (tt, (x, chose ∙ is))
drawn_said m c s (pick ∷ picks) after x is chose =
    let C : Choice → Type 0 = λ a. Chooses a (unfinished s) pick.worker chose.0 in
    let one = subst C is chose.4 in
    let G : Choice → Type 0 = λ a. Goes a (ended_of (happenings_of m pick.refused s pick.worker)) chose.1 in
    let next = subst G one.1 chose.5 in
    let rest = drawn_said m chose.1 (turn m s pick) picks after _ next chose.6 in
    ((chose.2, one.0, chose.3, rest.0), rest.1)

-- along a part of a list
pub record IsThere (walk : Walk) (turns : List Turn) (after : Choice) : Type 0 where
  pub there : Walk
  pub after_is : after ≡ choice.Part there
  pub entries : there.entries.now ≡ walk.entries.now
  pub workers : there.workers ≡ walk.workers
  pub along : (left : List ℕ) → IsAlong there turns left

pub among_said : (m : Setup) (c : Choice) (s : System) (picks : List Pick) (after : Choice) (walk : Walk) → c ≡ choice.Part walk → AreChosen m c s picks after → All IsOfUnfinished (turns_by m s picks)
among_said m c s [] after walk is chose = All-nil IsOfUnfinished
among_said m c s (pick ∷ picks) after walk is chose =
    let u : List ℕ = unfinished s in
    let ended : Ended = ended_of (happenings_of m pick.refused s pick.worker) in
    let C : Choice → Type 0 = λ a. Chooses a u pick.worker chose.0 in
    let one = subst C is chose.4 in
    let G : Choice → Type 0 = λ a. Goes a ended chose.1 in
    let goes = subst G one.1 chose.5 in
    All-cons IsOfUnfinished (record { worker = pick.worker; ended = ended; unfinished = u }) (turns_by m (turn m s pick) picks) one.2.among
    (among_said m chose.1 (turn m s pick) picks after goes.0 goes.1 chose.6)

pub part_said : (m : Setup) (c : Choice) (s : System) (picks : List Pick) (after : Choice) (walk : Walk) (turns : List Turn) → c ≡ choice.Part walk → ((left : List ℕ) → IsAlong walk turns left) → AreChosen m c s picks after
    → IsThere walk (turns ++ turns_by m s picks) after
part_said m c s [] after walk turns is along chose = record {
  there = walk;
  after_is = chose ∙ is;
  entries = refl;
  workers = refl;
  along = subst (λ (ts : List Turn). (left : List ℕ) → IsAlong walk ts left) (sym (append-nil turns)) along;
}
part_said m c s (pick ∷ picks) after walk turns is along chose =
    let u : List ℕ = unfinished s in
    let ended : Ended = ended_of (happenings_of m pick.refused s pick.worker) in
    let t : Turn = record { worker = pick.worker; ended = ended; unfinished = u } in
    let C : Choice → Type 0 = λ a. Chooses a u pick.worker chose.0 in
    let one = subst C is chose.4 in
    let mid : Walk = one.0 in
    let G : Choice → Type 0 = λ a. Goes a ended chose.1 in
    let goes = subst G one.1 chose.5 in
    let next : Walk = goes.0 in
    let more : (left : List ℕ) → IsAlong next (turns ++ t ∷ []) left =
    λ left. goes.2.along pick.worker turns u left one.2.is_next (one.2.along turns (along u)) in
    let rest = part_said m chose.1 (turn m s pick) picks after next (turns ++ t ∷ []) goes.1 more chose.6 in
    record {
      there = rest.there;
      after_is = rest.after_is;
      entries = rest.entries ∙ goes.2.part.entries ∙ one.2.part.entries;
      workers = rest.workers ∙ goes.2.part.workers ∙ one.2.part.workers;
      along = subst (λ (ts : List Turn). (left : List ℕ) → IsAlong rest.there ts left) (append_assoc turns (t ∷ []) (turns_by m (turn m s pick) picks)) rest.along;
    }

-- ---- they are those that are said

pub are_said : (sayer : Sayer) (workers : ℕ) (m : Setup) (c : Choice) (s : System) (picks : List Pick) (after : Choice) → OpensAs sayer workers c → AreChosen m c s picks after → AreSaid sayer workers m s picks
are_said Alone workers m c s picks after opens chose = (first_said m c s picks after opens chose).0
are_said (Drawn seed) workers m c s picks after opens chose = (drawn_said m c s picks after seed opens chose).0
are_said (Listed entries) workers m c s picks after opens chose =
    let t = part_said m c s picks after opens.0 [] opens.1 opens.4 chose in (
      calls_of m c s picks after chose,
      among_said m c s picks after opens.0 opens.1 chose,
      record {
        walk = t.there;
        entries_are = t.entries ∙ opens.2;
        workers_are = t.workers ∙ opens.3;
        along = t.along (unfinished (run m s picks));
      },
    )

pub are_all_said : (sayer : Sayer) (workers : ℕ) (m : Setup) (c : Choice) (s : System) (picks : List Pick) (after : Choice) → OpensAs sayer workers c → AreChosen m c s picks after → IsOver after → AreAllSaid sayer workers m s picks
are_all_said Alone workers m c s picks after opens chose over = tt
are_all_said (Drawn seed) workers m c s picks after opens chose over = tt
are_all_said (Listed entries) workers m c s picks after opens chose over =
    let t = part_said m c s picks after opens.0 [] opens.1 opens.4 chose in
    let at : IsOver (choice.Part t.there) = subst IsOver t.after_is over in
    let say : Say t.there.workers t.there.entries.now (turns_by m s picks) [] = at (turns_by m s picks) (t.along []) in
    let W : ℕ → Type 0 = λ n. Say n t.there.entries.now (turns_by m s picks) [] in
    let E : List Entry → Type 0 = λ es. Say workers es (turns_by m s picks) [] in
    subst E (t.entries ∙ opens.2) (subst W (t.workers ∙ opens.3) say)

pub misfits : (sayer : Sayer) (workers : ℕ) (m : Setup) (c : Choice) (s last : System) (picks : List Pick) (after : Choice) (misfit : Misfit) → OpensAs sayer workers c → AreChosen m c s picks after → last ≡ run m s picks → Refuses after (unfinished last) misfit
    → Misfits sayer workers m s picks misfit
misfits Alone workers m c s last picks after misfit opens chose ran refuses =
    subst (λ (x : Choice). Refuses x (unfinished last) misfit) (first_said m c s picks after opens chose).1 refuses
misfits (Drawn seed) workers m c s last picks after misfit opens chose ran refuses =
    subst (λ (x : Choice). Refuses x (unfinished last) misfit) (drawn_said m c s picks after seed opens chose).1.1 refuses
misfits (Listed entries) workers m c s last picks after misfit opens chose ran refuses =
    let t = part_said m c s picks after opens.0 [] opens.1 opens.4 chose in
    let at : Refuses (choice.Part t.there) (unfinished last) misfit = subst (λ (x : Choice). Refuses x (unfinished last) misfit) t.after_is refuses in
    let bad : IsMisfit t.there.workers t.there.entries.now (turns_by m s picks) (unfinished last) misfit = at.0 (turns_by m s picks) (t.along (unfinished last)) in
    let W : ℕ → Type 0 = λ n. IsMisfit n t.there.entries.now (turns_by m s picks) (unfinished last) misfit in
    let E : List Entry → Type 0 = λ es. IsMisfit workers es (turns_by m s picks) (unfinished last) misfit in
    let L : System → Type 0 = λ x. IsMisfit workers entries (turns_by m s picks) (unfinished x) misfit × (misfit ≡ PicksEnd → 1 ≤ length (unfinished x)) in
    subst L ran (subst E (t.entries ∙ opens.2) (subst W (t.workers ∙ opens.3) bad), at.1)
