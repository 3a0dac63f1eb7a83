-- What a log has written over a round of a machine that it watches, for the crate that has the
-- machine: `view` is the machine's log, `facts` what stays while the round runs.
use Rattle.std.proofs.Common.{◌≡◌, ℕ, List, [], ◌∷◌, None, ap, subst, ◌∙◌}
use Rattle.std.specs.List.{FoldsTo}
use Rattle.slub_core.specs.Facts.{Facts}
use Rattle.slub_core.specs.Setup.{Setup}
use Rattle.slub_core.specs.Run.{Pick, System}
use Rattle.slub_schedule.specs.Made.{AreMade, IsTurn}
use Rattle.slub_turns.specs.Happenings.{Happening, happenings_of}
use Rattle.slub_round_log.specs.Laws.{AreHeard, AreWritten, Heard, IsChosen, LogState, all_of, told_by}
use Rattle.slub_round_log.proofs.OneTurn.{one_turn}
use Rattle.slub_round_log.proofs.Written.{rounds_written}

-- a chain of what a watcher hears, seen as one of its log
pub heard_by : {W : Type 0} (m : Facts) (hears : W → Happening → W → Type 0) (view : W → LogState) → ((w : W) (h : Happening) (v : W) → hears w h v → Heard m (view w) h (view v))
    → (w : W) (hs : List Happening) (v : W) → FoldsTo hears w hs v → FoldsTo (Heard m) (view w) hs (view v)
heard_by m hears view by w [] v heard = ap view heard
heard_by m hears view by w (h ∷ hs) v heard = (view heard.0, by w h heard.0 heard.1, heard_by m hears view by heard.0 hs v heard.2)

module _ {M : Type 0} (setup : M → Setup) (system : M → System) (chooses : M → ℕ → M → Type 0) (notes : M → Pick → M → Type 0) (facts : M → Facts) (view : M → LogState)
    (choosing : (a : M) (worker : ℕ) (b : M) → chooses a worker b → IsChosen (view a) (view b) × (facts b ≡ facts a))
    (noting : (a : M) (pick : Pick) (b : M) → notes a pick b
    → FoldsTo (Heard (facts a)) (view a) (happenings_of (setup a) pick.refused (system a) pick.worker) (view b) × (facts b ≡ facts a)) where
  pub round_heard : (before : M) (picks : List Pick) (after : M) → AreMade setup system chooses notes before picks after
      → AreHeard (facts before) (view before) (told_by (setup before) (system before) picks) (view after)
  round_heard before [] after made = ap view made
  round_heard before (pick ∷ picks) after made =
      let next : M = made.0 in
      let one : IsTurn setup system chooses notes before pick next = made.1 in
      let chosen = choosing before pick.worker one.chosen one.choice in
      let noted = noting one.chosen pick next one.noted in
      let rest : AreHeard (facts next) (view next) (told_by (setup next) (system next) picks) (view after) = round_heard next picks after made.2 in
      let F : Facts → Type 0 = λ m. FoldsTo (Heard m) (view one.chosen) (happenings_of (setup one.chosen) pick.refused (system one.chosen) pick.worker) (view next) in
      let S : Setup → Type 0 = λ m. FoldsTo (Heard (facts before)) (view one.chosen) (happenings_of m pick.refused (system one.chosen) pick.worker) (view next) in
      let Y : System → Type 0 = λ s. FoldsTo (Heard (facts before)) (view one.chosen) (happenings_of (setup before) pick.refused s pick.worker) (view next) in
      let A : Facts → Type 0 = λ m. AreHeard m (view next) (told_by (setup next) (system next) picks) (view after) in
      let B : Setup → Type 0 = λ m. AreHeard (facts before) (view next) (told_by m (system next) picks) (view after) in
      let C : System → Type 0 = λ s. AreHeard (facts before) (view next) (told_by (setup before) s picks) (view after) in (
        view one.chosen,
        view next,
        chosen.0,
        one_turn (setup before) pick.refused (system before) pick.worker,
        subst Y one.same (subst S one.kept (subst F chosen.1 noted.0)),
        subst C one.turned (subst B one.stays (subst A (noted.1 ∙ chosen.1) rest)),
      )

  -- a round that had no lines left from before, and in which nothing has failed
  pub round_written : (before : M) (picks : List Pick) (after : M) → AreMade setup system chooses notes before picks after
      → (view before).kept.lines.items ≡ [] → (view after).kept.fault ≡ None
      → AreWritten (facts before) (view before) (all_of (told_by (setup before) (system before) picks)) (view after)
  round_written before picks after made empty fine =
      rounds_written (facts before) (view before) (told_by (setup before) (system before) picks) (view after) (round_heard before picks after made) empty fine
