-- A worker that is alone: its seat from the begin to the end.
use Rattle.std.proofs.Common.{◌≡◌, ℕ, zero, suc, List, [], ◌∷◌, ◌<◌, length, map, refl, sym, ap, ◌∙◌, subst, arith, All, get_or, slice_set}
use Rattle.std.proofs.lemmas.List.Elements.{All-head}
use Rattle.atomic_table.specs.Seated.{TableId}
use Rattle.slub_core.specs.declared.call.Call.{Call}
use Rattle.slub_core.specs.declared.spot.Spot.TheVariants.{Between}
use Rattle.slub_core.specs.Local.{Local}
use Rattle.slub_core.specs.Run.{IsFinished}
use Rattle.slub_workers.specs.declared.fast.Fast.{Fast}
use Rattle.slub_workers.specs.declared.fast.Fast.TheVariants.{Given, Empty, Moved, IdsSpent}
use Rattle.slub_workers.specs.declared.workers.Workers.{Workers}
use Rattle.slub_workers.specs.Begun.{Begun}
use Rattle.slub_workers.specs.Ends.{AreSeated, IsIdleAt, IsRoom, rising, seated_first}
use Rattle.slub_workers.specs.Standing.{Standing}
use Rattle.slub_workers.specs.Try.{IsTold}
use Rattle.slub_workers.specs.Turns.{HasNext}
use Rattle.slub_workers.specs.Workers.{MayTurnAt, MayWorkAt, countdown, worker_in}
use Rattle.slub_tries.specs.Lone.{IsAloneIn, SitsAlone, begins_as, first_of, standing_of}

-- ---- the begin

-- of one item all holds that holds of it
pub all-one : {A : Type 0} (P : A → Type 0) (x : A) → P x → All P (x ∷ [])
all-one P x p zero d low = p
all-one P x p (suc k) d low = absurd (omega arith)

one-long : (list : List (TableId × Standing)) → map worker_in list ≡ countdown 1 → length list ≡ 1
one-long [] numbers = ap (λ (ns : List ℕ). length ns) numbers
one-long (w ∷ []) numbers = refl
one-long (w ∷ v ∷ ws) numbers = absurd (let two : suc (suc (length (map worker_in ws))) ≡ 1 = ap (λ (ns : List ℕ). length ns) numbers in omega (arith, two))

abbrev first-of : List ℕ → ℕ
first-of [] = 1
first-of (n ∷ ns) = n

-- a worker that has its seat alone at a table
pub alone-one : (key : Begun) (table : TableId) (list : List (TableId × Standing)) (w : TableId × Standing) → list ≡ w ∷ [] → MayTurnAt key table w → w.1.local.spot ≡ Between → worker_in w ≡ 0 → IsAloneIn key table list
alone-one key table list w is may between number =
    subst (IsAloneIn key table) (sym is) (record {
      one = ap (λ (t : TableId). (t, w.1) ∷ []) may.0;
      may = may.1;
      between = between;
      number = number;
    })

seated-list : (key : Begun) (table : TableId) (list : List (TableId × Standing)) → length list ≡ 1 → map worker_in list ≡ countdown 1 → All (MayWorkAt key table) list → All (IsIdleAt table) list → IsAloneIn key table list
seated-list key table [] long numbers may idle = absurd (omega (arith, long))
seated-list key table (w ∷ []) long numbers may idle =
    alone-one key table (w ∷ []) w refl (All-head (MayWorkAt key table) w [] may).0 (All-head (IsIdleAt table) w [] idle).1 (ap first-of numbers)
seated-list key table (w ∷ v ∷ ws) long numbers may idle = absurd (omega (arith, long))

-- the workers of a machine with one
seated-alone : (key : Begun) (table : TableId) (list : List (TableId × Standing)) (count : ℕ) → count ≡ 1 → map worker_in list ≡ countdown count → All (MayWorkAt key table) list → All (IsIdleAt table) list → IsAloneIn key table list
seated-alone key table list count one numbers may idle =
    let now : map worker_in list ≡ countdown 1 = numbers ∙ ap countdown one in
    seated-list key table list (one-long list now) now may idle

pub seated-sits : (key : Begun) (table : TableId) (ws : Workers) → AreSeated key table ws → length key.locals ≡ 1 → SitsAlone key table ws
seated-sits key table ws seated one = record {
  count = one;
  alone = seated-alone key table ws.list.items (length key.locals) one seated.numbers seated.list seated.idle;
  room = subst (λ (n : ℕ). IsRoom table n ws.rest) one seated.room;
}

one-first : (table : TableId) (locals : List Local) → length locals ≡ 1 → standing_of (seated_first table locals) ≡ first_of locals
one-first table [] one = refl
one-first table (l ∷ []) one = refl
one-first table (l ∷ k ∷ ls) one = absurd (omega (arith, one))

-- it stands as it begins
pub seated-begins : (key : Begun) (table : TableId) (ws : Workers) → AreSeated key table ws → length key.locals ≡ 1 → standing_of ws.list.items ≡ begins_as key
seated-begins key table ws seated one = ap standing_of seated.first ∙ one-first table key.locals one

-- ---- where it is

module _ (key : Begun) (table : TableId) (list : List (TableId × Standing)) (alone : IsAloneIn key table list) where
  -- the item of the list
  pub here-of : (w : TableId × Standing) → w ≡ get_or list 0 w → w ≡ (table, standing_of list)
  here-of w is = is ∙ ap (λ (ws : List (TableId × Standing)). get_or ws 0 w) alone.one

  -- the list with the worker as it stands now
  set-one : (w : TableId × Standing) → slice_set list 0 w ≡ w ∷ []
  set-one w = ap (λ (ws : List (TableId × Standing)). slice_set ws 0 w) alone.one

  pub set-standing : (w : TableId × Standing) → standing_of (slice_set list 0 w) ≡ w.1
  set-standing w = ap standing_of (set-one w)

  pub set-alone : (before w : TableId × Standing) → before ≡ get_or list 0 before → MayTurnAt key table w → worker_in w ≡ worker_in before → w.1.local.spot ≡ Between → IsAloneIn key table (slice_set list 0 w)
  set-alone before w is may number between =
      alone-one key table (slice_set list 0 w) w (set-one w) may between (number ∙ ap worker_in (here-of before is) ∙ alone.number)

-- ---- its calls

-- whatever a try is told, the worker is between two calls after it
pub told-between : (before : Local) (fast : Fast) (after : Local) → IsTold before fast after → after.spot ≡ Between
told-between before (Given address) after told = told.between
told-between before (Empty word) after told = told.between
told-between before (Moved word) after told = told.between
told-between before (IdsSpent tid) after told = told.between

none-left : (calls : List Call) → ¬ (0 < length calls) → calls ≡ []
none-left [] none = refl
none-left (call ∷ calls) none = absurd (none (omega arith))

-- a worker between two calls without a next one is finished
pub finished-so : (l : Local) → l.spot ≡ Between → ¬ HasNext l → IsFinished l
finished-so l between none = record {
  between = between;
  none = none-left l.todo (λ some. none (record { between = between; some = some }));
}

-- ---- the end

pub alone-idle : (key : Begun) (table : TableId) (list : List (TableId × Standing)) → IsAloneIn key table list → All (IsIdleAt table) list
alone-idle key table list alone = subst (All (IsIdleAt table)) (sym alone.one) (all-one (IsIdleAt table) (table, standing_of list) (refl, alone.between))

pub alone-long : (key : Begun) (table : TableId) (list : List (TableId × Standing)) → IsAloneIn key table list → length list ≡ 1
alone-long key table list alone = ap (λ (ws : List (TableId × Standing)). length ws) alone.one

pub alone-numbers : (key : Begun) (table : TableId) (list : List (TableId × Standing)) → IsAloneIn key table list → map worker_in list ≡ countdown (length list)
alone-numbers key table list alone =
    ap (λ (ws : List (TableId × Standing)). map worker_in ws) alone.one ∙ ap (λ (n : ℕ). n ∷ []) alone.number
    ∙ sym (ap countdown (alone-long key table list alone))

pub alone-rising : (key : Begun) (table : TableId) (list : List (TableId × Standing)) → IsAloneIn key table list → rising list ≡ (standing_of list).local ∷ []
alone-rising key table list alone = ap rising alone.one
