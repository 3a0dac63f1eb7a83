-- A round by schedule turn by turn: the turns made so far, and the workers that are unfinished.
use Rattle.std.specs.Prelude.{slice_index, MatchResult}
use Rattle.std.proofs.Common.{◌≡◌, ℕ, zero, suc, ◌+◌, ◌<◌, ◌≤◌, ◌==◌, Bool, true, false, not, List, [], ◌∷◌, ◌++◌, length, get_or, set, Result, Ok, Err, refl, sym, ap, ◌∙◌, subst, arith}
use Rattle.std.proofs.lemmas.Bool.{eqb-true, false≢true}
use Rattle.std.proofs.lemmas.List.{map-set, set-get_or, get_or-set_same, get_or-map, length_push}
use Rattle.slub_core.specs.Setup.{Setup}
use Rattle.slub_core.specs.Local.{Local}
use Rattle.slub_core.specs.Run.{System, Pick, idle, turn}
use Rattle.slub_schedule.specs.declared.machine.Unended.{Unended}
use Rattle.slub_schedule.specs.declared.machine.Unended.TheVariants.{TurnsSpent, Halted}
use Rattle.slub_schedule.specs.Schedule.{is_finished, marks_of, places_of, unfinished}
use Rattle.slub_schedule.specs.Turns.{turns_of}
use Rattle.slub_schedule.specs.Rounds.{IsFinishedSystem}
use Rattle.slub_schedule.specs.Made.{IsTurn, AreMade, EndsBy, SpendsBy, HaltsBy, IsUnended, IsNoEnd}
use Rattle.slub_schedule.proofs.Picks.{all_finished, place_unfinished}

-- ---- the turns so far

module _ {M : Type 0} (setup : M → Setup) (system : M → System) (chooses : M → ℕ → M → Type 0) (notes : M → Pick → M → Type 0) where
  pub turns_more : (a : M) (ps : List Pick) (b : M) (p : Pick) (c : M) → AreMade setup system chooses notes a ps b → IsTurn setup system chooses notes b p c → AreMade setup system chooses notes a (ps ++ p ∷ []) c
  turns_more a [] b p c is turn = (c, subst (λ (x : M). IsTurn setup system chooses notes x p c) is turn, refl)
  turns_more a (q ∷ ps) b p c (next, first, rest) turn = (next, first, turns_more next ps b p c rest turn)

  -- so many turns were made since the first
  pub record IsMade (first : M) (n : ℕ) (now : M) : Type 0 where
    pub picks : List Pick
    pub made : AreMade setup system chooses notes first picks now
    pub count : length picks ≡ n

  pub made_none : (first : M) → IsMade first 0 first
  made_none first = record { picks = []; made = refl; count = refl }

  pub made_more : (first : M) (n : ℕ) (now : M) (pick : Pick) (after : M) → IsMade first n now → IsTurn setup system chooses notes now pick after → IsMade first (n + 1) after
  made_more first n now pick after made turn = record {
    picks = made.picks ++ pick ∷ [];
    made = turns_more first made.picks now pick after made.made turn;
    count = length_push made.picks pick ∙ ap (λ k. k + 1) made.count;
  }

  pub made_ended : (is_done : M → M → Type 0) (first : M) (n : ℕ) (now last : M) → IsMade first n now → n ≤ turns_of (system first) → length (unfinished (system now)) ≡ 0 → system last ≡ system now → is_done now last → EndsBy setup system chooses notes is_done first last
  made_ended is_done first n now last made few none same done = record {
    picks = made.picks;
    by = now;
    made = made.made;
    within = let c = made.count in omega arith;
    done = done;
    same = same;
    finished = subst (λ (s : System). IsFinishedSystem s) (sym same) (all_finished 0 (system now).locals none);
  }

  pub made_spent : (first : M) (n : ℕ) (now : M) → IsMade first n now → n ≡ turns_of (system first) → 1 ≤ length (unfinished (system now)) → SpendsBy setup system chooses notes first now
  made_spent first n now made all some = record { picks = made.picks; made = made.made; all = made.count ∙ all; unfinished = some }

  pub made_halted : {H : Type 0} (halts : M → H → M → Type 0) (first : M) (n : ℕ) (now : M) (why : H) (last : M) → IsMade first n now → n ≤ turns_of (system first) → system last ≡ system now → halts now why last → HaltsBy setup system chooses notes halts first why last
  made_halted halts first n now why last made few same stops = record {
    picks = made.picks;
    by = now;
    made = made.made;
    within = let c = made.count in omega arith;
    halted = stops;
    same = same;
  }

  -- the end is none, which says why
  pub made_unended : {H : Type 0} (halts : M → H → M → Type 0) (first : M) (n : ℕ) (now : M) (why : Unended H) (last : M) → IsMade first n now → n ≤ turns_of (system first) → system last ≡ system now → IsNoEnd halts now why last → IsUnended setup system chooses notes halts first why last
  made_unended halts first n now TurnsSpent last made few same none = absurd none
  made_unended halts first n now (Halted why) last made few same stops = made_halted halts first n now why last made few same stops

  pub made_concluded : {H : Type 0} (is_done : M → M → Type 0) (halts : M → H → M → Type 0) (first : M) (n : ℕ) (now last : M) (result : Result Unit (Unended H)) → IsMade first n now → n ≤ turns_of (system first) → length (unfinished (system now)) ≡ 0 → system last ≡ system now
      → MatchResult result (λ _. is_done now last) (λ why. IsNoEnd halts now why last)
      → MatchResult result (λ _. EndsBy setup system chooses notes is_done first last) (λ why. IsUnended setup system chooses notes halts first why last)
  made_concluded is_done halts first n now last (Ok _) made few none same done = made_ended is_done first n now last made few none same done
  made_concluded is_done halts first n now last (Err why) made few none same stops = made_unended halts first n now why last made few same stops

-- ---- the workers that are unfinished after a turn

-- a list of workers of which one changes
marks-set : (ls : List Local) (k : ℕ) (l : Local) → k < length ls → marks_of (set ls k l) ≡ set (marks_of ls) k (not (is_finished (get_or (set ls k l) k idle)))
marks-set ls k l below = map-set (λ (l : Local). not (is_finished l)) ls k l ∙ ap (λ (l : Local). set (marks_of ls) k (not (is_finished l))) (sym (get_or-set_same ls k l idle below))

marked-at : (ls : List Local) (k : ℕ) → k < length ls → get_or (marks_of ls) k false ≡ not (is_finished (get_or ls k idle))
marked-at ls k below = get_or-map (λ (l : Local). not (is_finished l)) ls k idle false below

-- of a chosen worker that is unfinished still they are the same
pub order_kept : (m : Setup) (s : System) (pick : Pick) → pick.worker < length s.locals → is_finished (get_or s.locals pick.worker idle) ≡ false → is_finished (get_or (turn m s pick).locals pick.worker idle) ≡ false → unfinished (turn m s pick) ≡ unfinished s
order_kept m s pick below was is =
    let ls = s.locals in
    let k = pick.worker in
    let marked : get_or (marks_of ls) k false ≡ true = marked-at ls k below ∙ ap not was in
    ap places_of (marks-set s.locals k _ below ∙ ap (λ b. set (marks_of ls) k (not b)) is ∙ ap (set (marks_of ls) k) (sym marked) ∙ set-get_or (marks_of ls) k false)

-- and of one that is finished they are those without its mark
pub order_less : (m : Setup) (s : System) (pick : Pick) → pick.worker < length s.locals → is_finished (get_or (turn m s pick).locals pick.worker idle) ≡ true → unfinished (turn m s pick) ≡ places_of (set (marks_of s.locals) pick.worker false)
order_less m s pick below is = ap places_of (marks-set s.locals pick.worker _ below ∙ ap (λ b. set (marks_of s.locals) pick.worker (not b)) is)

-- ---- one turn of the schedule

pub some_left : (n : ℕ) → false ≡ (n == 0) → 1 ≤ n
some_left zero is = absurd (false≢true is)
some_left (suc n) is = omega arith

pub turn_made : {M : Type 0} (setup : M → Setup) (system : M → System) (chooses : M → ℕ → M → Type 0) (notes : M → Pick → M → Type 0) (first now then after : M) (n worker : ℕ) (refused : Bool) → IsMade setup system chooses notes first n now → 1 ≤ length (unfinished (system now)) → chooses now worker then → setup then ≡ setup now → system then ≡ system now
    → setup after ≡ setup then → system after ≡ turn (setup then) (system then) (record { worker = worker; refused = refused; tries = false }) → notes then (record { worker = worker; refused = refused; tries = false }) after
    → IsMade setup system chooses notes first (n + 1) after
turn_made setup system chooses notes first now then after n worker refused made some chose kept same stays turned noted =
    let pick : Pick = record { worker = worker; refused = refused; tries = false } in
    made_more setup system chooses notes first n now pick after made (record {
      some = some;
      chosen = then;
      choice = chose;
      kept = kept;
      same = same;
      call = refl;
      stays = stays ∙ kept;
      turned = turned ∙ (λ i. turn (kept i) (same i) pick);
      noted = noted;
    })

-- the workers of a machine after the turn of one of them
pub turn_kept : (k : Setup) (s t : System) (order : List ℕ) (worker : ℕ) (refused : Bool) → t ≡ turn k s (record { worker = worker; refused = refused; tries = false }) → worker < length s.locals → is_finished (get_or s.locals worker idle) ≡ false → false ≡ is_finished (get_or t.locals worker idle) → order ≡ unfinished s
    → order ≡ unfinished t
turn_kept k s t order worker refused turned below was is same =
    let pick : Pick = record { worker = worker; refused = refused; tries = false } in
    let left : is_finished (get_or (turn k s pick).locals worker idle) ≡ false = ap (λ (t : System). is_finished (get_or t.locals worker idle)) (sym turned) ∙ sym is in
    same ∙ sym (order_kept k s pick below was left) ∙ ap (λ (t : System). unfinished t) (sym turned)

pub turn_less : (k : Setup) (s t : System) (order rest : List ℕ) (place worker : ℕ) (refused : Bool) → t ≡ turn k s (record { worker = worker; refused = refused; tries = false }) → worker < length s.locals → true ≡ is_finished (get_or t.locals worker idle) → order ≡ unfinished s
    → worker ≡ slice_index order place → ((marks : List Bool) → order ≡ places_of marks → rest ≡ places_of (set marks (slice_index order place) false)) → rest ≡ unfinished t
turn_less k s t order rest place worker refused turned below is same at removed =
    let pick : Pick = record { worker = worker; refused = refused; tries = false } in
    let done : is_finished (get_or (turn k s pick).locals worker idle) ≡ true = ap (λ (t : System). is_finished (get_or t.locals worker idle)) (sym turned) ∙ sym is in
    removed (marks_of s.locals) same ∙ ap (λ k. places_of (set (marks_of s.locals) k false)) (sym at) ∙ sym (order_less k s pick below done) ∙ ap (λ (t : System). unfinished t) (sym turned)

pub none_left : (n : ℕ) → true ≡ (n == 0) → n ≡ 0
none_left n is = eqb-true n 0 (sym is)

-- where the order is empty no worker is unfinished
pub nothing_left : (order unfinished : List ℕ) → order ≡ unfinished → true ≡ (length order == 0) → unfinished ≡ []
nothing_left [] unfinished is none = sym is
nothing_left (x ∷ xs) unfinished is none = absurd (let e : suc (length xs) ≡ 0 = none_left (suc (length xs)) none in let never : ⊥ = omega (arith, e) in never)

-- the worker at a place among those that are unfinished
pub worker_at : (s t : System) (order : List ℕ) (place worker : ℕ) → order ≡ unfinished s → place < length order → worker ≡ slice_index order place → t ≡ s → (worker < length t.locals) × (is_finished (get_or t.locals worker idle) ≡ false)
worker_at s t order place worker same inside is still =
    let there : place < length (unfinished s) = subst (λ (u : List ℕ). place < length u) same inside in
    let at : worker ≡ slice_index (unfinished s) place = is ∙ ap (λ (u : List ℕ). slice_index u place) same in
    let was = place_unfinished s place there in
    let now = subst (λ (k : ℕ). (k < length s.locals) × (is_finished (get_or s.locals k idle) ≡ false)) (sym at) was in
    subst (λ (x : System). (worker < length x.locals) × (is_finished (get_or x.locals worker idle) ≡ false)) (sym still) now
