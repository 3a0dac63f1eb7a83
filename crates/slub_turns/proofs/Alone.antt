-- The turn of a worker asks for and leaves the same where it is alone and where it is one of several.
use Rattle.std.proofs.Common.{◌≡◌, ℕ, ◌∙◌, Bool, List, [], ◌∷◌, ◌++◌, length, get_or, set, take, drop, refl, sym, ap, subst}
use Rattle.slub_core.specs.Setup.{Setup}
use Rattle.slub_core.specs.Local.{Local}
use Rattle.slub_core.specs.Run.{System, Pick, idle, turn}
use Rattle.slub_core.specs.declared.guarded.Guarded.{Guarded}
use Rattle.slub_schedule.specs.Table.{WordTable}
use Rattle.slub_turns.specs.Fits.{PickFits}
use Rattle.slub_turns.specs.System.{system_of, alone, picked_alone}

pub fits_alone : (m : Setup) (table : WordTable) (guarded : List Guarded) (locals : List Local) (local : Local) (pick : Pick) → local ≡ get_or locals pick.worker idle
    → PickFits m (system_of table guarded locals) pick → PickFits m (alone table guarded local) (picked_alone pick.tries)
fits_alone m table guarded locals local pick is fits =
    let P : Local → Type 0 = λ l. PickFits m (alone table guarded l) (picked_alone pick.tries) in
    subst P (sym is) (record {
      begin = fits.begin;
      rested = fits.rested;
      turn = λ refused. let t = fits.turn refused in record { step = t.step; first = t.first; second = t.second; last = t.last };
    })

-- the worker's turn in the machine in which it is one of several
pub turn_among : (m : Setup) (table after : WordTable) (guarded now : List Guarded) (locals : List Local) (local l : Local) (worker : ℕ) (refused tries : Bool) → local ≡ get_or locals worker idle
    → alone after now l ≡ turn m (alone table guarded local) (record { worker = 0; refused = refused; tries = tries })
    → system_of after now (set locals worker l) ≡ turn m (system_of table guarded locals) (record { worker = worker; refused = refused; tries = tries })
turn_among m table after guarded now locals local l worker refused tries is turned =
    let among : System → System = λ t. record { words = t.words; value = t.value; locals = set locals worker (get_or t.locals 0 idle) } in
    let pick : Pick = record { worker = 0; refused = refused; tries = tries } in
    ap among turned ∙ ap (λ (k : Local). among (turn m (alone table guarded k) pick)) is

-- what was lent as a whole comes back as a whole
taken_front : (ys zs : List Guarded) → take (length ys) (ys ++ zs) ≡ ys
taken_front [] zs = refl
taken_front (y ∷ ys) zs = ap (λ (xs : List Guarded). y ∷ xs) (taken_front ys zs)

pub back_whole : (n : ℕ) (ys items : List Guarded) → length ys ≡ n → take n (ys ++ drop (length ys) items) ≡ ys
back_whole n ys items long = ap (λ (k : ℕ). take k (ys ++ drop (length ys) items)) (sym long) ∙ taken_front ys (drop (length ys) items)
