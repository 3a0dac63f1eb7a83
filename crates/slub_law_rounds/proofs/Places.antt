-- What a worker took from the board in a round it holds where it stood there.
use Rattle.std.proofs.Common.{◌≡◌, ℕ, zero, suc, ◌+◌, ◌≤◌, ◌<◌, eqb, Bool, true, false, List, [], ◌∷◌, length, get_or, set, map, refl, sym, ap, subst, ◌∙◌, arith, All, Option, Some, None, inl, inr, ◌⊎◌}
use Rattle.std.proofs.lemmas.Bool.{cases_lt, eq-eqb, eqb-true, false≢true}
use Rattle.std.proofs.lemmas.Option.{none-some, same_Some}
use Rattle.std.proofs.lemmas.List.Elements.{All-cons, All-head, All-map, All-set, All-tail, All-weaker}
use Rattle.std.proofs.lemmas.List.Sums.{sum_by-cons}
use Rattle.slub_trace.specs.declared.reply.Reply.{Reply}
use Rattle.slub_words.specs.declared.board.BoardWord.{BoardWord}
use Rattle.slub_core.specs.declared.call.Call.{Call}
use Rattle.slub_core.specs.declared.call.CallKind.TheVariants.{Alloc}
use Rattle.slub_core.specs.declared.local.Known.{Known}
use Rattle.slub_core.specs.declared.spot.Spot.{Spot}
use Rattle.slub_core.specs.declared.spot.Spot.TheVariants.{Between, InFree}
use Rattle.slub_core.specs.declared.spot.FreeSpot.TheVariants.{TakeBoard}
use Rattle.slub_core.specs.declared.step.Answer.TheVariants.{Word}
use Rattle.slub_core.specs.Calls.{call_kind, call_object}
use Rattle.slub_core.specs.Setup.{Setup}
use Rattle.slub_core.specs.Words.{after_op, answer_of, board_in, number_of, word_count}
use Rattle.slub_core.specs.World.{World, LockValue, world_from, world_of}
use Rattle.slub_core.specs.Local.{Local, Worker, here, no_call, noted}
use Rattle.slub_core.specs.Accounted.{IsAccounted, boarded, known_of}
use Rattle.slub_core.specs.Coherent.{Stands}
use Rattle.slub_core.specs.Opening.{IsNew, IsOpening, IsRoom, opened}
use Rattle.slub_core.specs.Law.{IsCoherentSystem}
use Rattle.slub_core.specs.Replies.{asked_in}
use Rattle.slub_core.specs.Run.{System, Pick, idle, run, turn}
use Rattle.slub_core.specs.Spots.{doing}
use Rattle.slub_core.specs.Steps.{advance_at, advance_of, at_once, begun, begun_at, begun_with, rested, step_at, step_of}
use Rattle.slub_core.proofs.Accounts.{Comes}
use Rattle.slub_core.proofs.Dispatch.{leads}
use Rattle.slub_core.proofs.Leads.{at_work, table}
use Rattle.slub_core.proofs.Noted.{noted-comes}
use Rattle.slub_core.proofs.Opens.{opens}
use Rattle.slub_core.proofs.Rests.{joined}
use Rattle.slub_core.proofs.TaleReplies.{told-of}
use Rattle.slub_core.proofs.TaleSettled.{comes_once}
use Rattle.slub_core.proofs.Tells.{turn-tells}
use Rattle.slub_core.proofs.Turns.{turn_keeps}
use Rattle.slub_core.proofs.StepWords.{board-read}
use Rattle.slub_schedule.specs.Closed.{word_of}
use Rattle.slub_law_opening.proofs.Carried.{rested-keeps}
use Rattle.slub_law_opening.proofs.Turns.{has-begun}
use Rattle.slub_law_rounds.proofs.Taking.{KeepsLocal, turn-keeps, once-keeps}

-- what it holds under a number that was on the board stands where it stood there
abbrev pub IsFrom : (ℕ → Option BoardWord) → Known → Type 0
IsFrom before k = k.held ≡ true → (b : BoardWord) → before k.object ≡ Some b → word_of k ≡ b

abbrev pub HoldsFrom : (ℕ → Option BoardWord) → Local → Type 0
HoldsFrom before l = All (IsFrom before) l.known

-- ---- a step

from-keeps : (before : ℕ → Option BoardWord) (taken : BoardWord → Type 0) (l n : Local) (s : Spot) → KeepsLocal taken l s n → (doing s ≡ Some Alloc → before (here l).object ≡ None) → ((b : BoardWord) → taken b → before (here l).object ≡ Some b)
    → HoldsFrom before l → HoldsFrom before n
from-keeps before taken l n s (inl same) new was ok = subst (All (IsFrom before)) (sym same) ok
from-keeps before taken l n s (inr sets) new was ok =
    subst (All (IsFrom before)) (sym sets.is_set) (All-set (IsFrom before) l.known l.place sets.mine (λ held b on. let how = sets.object held in by b (ap before (sym how.0) ∙ on) how.1) ok)
  where
    by : (b : BoardWord) → before (here l).object ≡ Some b → (doing s ≡ Some Alloc) ⊎ taken (word_of sets.mine) → word_of sets.mine ≡ b
    by b on (inl alloc) = absurd (none-some b (sym (new alloc) ∙ on))
    by b on (inr it) = same_Some (word_of sets.mine) b (sym (was (word_of sets.mine) it) ∙ on)

noted-from : (before : ℕ → Option BoardWord) (l : Local) (r : Option Reply) → HoldsFrom before l → HoldsFrom before (noted l r)
noted-from before l None ok = ok
noted-from before l (Some r) ok = ok

asked-first : (o : ℕ) (cs : List Call) → 1 ≤ length cs → call_kind (get_or cs 0 no_call) ≡ Alloc → call_object (get_or cs 0 no_call) ≡ o → 1 ≤ asked_in o cs
asked-first o [] some alloc same = absurd (omega (arith, some))
asked-first o (c ∷ cs) some alloc same =
    let one : asked_in o (c ∷ cs) ≡ 1 + asked_in o cs = rw alloc (rw (eq-eqb (call_object c) o same) refl) in omega (arith, one)

off-board : (x : Option BoardWord) → boarded x ≡ 0 → x ≡ None
off-board None none = refl
off-board (Some b) none = absurd (omega (arith, none))

-- what is allocated was not on the board
new-here : (opening w : World) (x : Worker) (others : List Worker) → IsAccounted opening w (x ∷ others) → doing x.local.spot ≡ Some Alloc → opening.board (here x.local).object ≡ None
new-here opening w x others ac does =
    let o = (here x.local).object in
    let call = ((told-of opening w x others ac).call Alloc does).0 in
    let asks = asked-first o x.local.todo call.some call.same_kind (call.object refl) in
    let once = ac.once o in
    let sum = sum_by-cons (λ (x : Worker). asked_in o x.local.todo) x others in
    off-board (opening.board o) (omega (arith, asks, once, sum))

-- what is taken from the board stood there before
was-on : (opening w : World) (x : Worker) (others : List Worker) (b : BoardWord) → IsAccounted opening w (x ∷ others) → w.board (here x.local).object ≡ Some b → opening.board (here x.local).object ≡ Some b
was-on opening w x others b ac is = by (ac.stands (here x.local).object)
  where
    by : (w.board (here x.local).object ≡ None) ⊎ (w.board (here x.local).object ≡ opening.board (here x.local).object) → opening.board (here x.local).object ≡ Some b
    by (inl off) = absurd (none-some b (sym off ∙ is))
    by (inr same) = sym same ∙ is

taken-from : (opening : World) (m : Setup) (value : ℕ → LockValue) (words : List ℕ) (x : Worker) (others : List Worker) (y : ℕ) (b : BoardWord) → Stands (world_of m value words) (x ∷ others) → IsAccounted opening (world_of m value words) (x ∷ others)
    → x.local.spot ≡ InFree TakeBoard
    → answer_of (step_at m value x.local x.local.spot).op (get_or words (number_of m (step_at m value x.local x.local.spot).place) 0) ≡ Word y → board_in y ≡ Some b → opening.board (here x.local).object ≡ Some b
unfolding world_of world_from
taken-from opening m value words x others y b s ac is word there =
    let w = world_of m value words in
    let o = (here x.local).object in
    let ok = (at_work w x others s).spot in
    let some : 1 ≤ o = ok.board (rw is refl) in
    let below : o < m.objects = ok.number in
    let same = word-same (subst (λ s. answer_of (step_at m value x.local s).op (get_or words (number_of m (step_at m value x.local s).place) 0) ≡ Word y) is word) in
    was-on opening w x others b ac (board-read m value words o some below ∙ ap board_in same ∙ there)
  where
    word-same : {a c : ℕ} → Word a ≡ Word c → a ≡ c
    word-same e = cc

step-from : (opening : World) (m : Setup) (value : ℕ → LockValue) (words : List ℕ) (x : Worker) (others : List Worker) → Stands (world_of m value words) (x ∷ others) → IsAccounted opening (world_of m value words) (x ∷ others) → HoldsFrom opening.board x.local
    → let step = step_of m value x.local in let turn = advance_at m value x.local x.local.spot (answer_of step.op (get_or words (number_of m step.place) 0)) in HoldsFrom opening.board (noted turn.local turn.reply)
step-from opening m value words x others s ac ok =
    let l = x.local in
    let step = step_of m value l in
    let a = answer_of step.op (get_or words (number_of m step.place) 0) in
    let turn = advance_at m value l l.spot a in
    let was : BoardWord → Type 0 = λ b. opening.board (here l).object ≡ Some b in
    noted-from opening.board turn.local turn.reply
    (from-keeps opening.board was l turn.local l.spot (turn-keeps was m value l l.spot a (λ y b is word there. taken-from opening m value words x others y b s ac is word there))
    (new-here opening (world_of m value words) x others ac) (λ b it. it) ok)

once-at : (opening w : World) (refused : Bool) (x : Worker) (others : List Worker) → IsAccounted opening w (x ∷ others) → HoldsFrom opening.board x.local
    → let c = at_once w.setup refused w.value x.local x.local.spot in HoldsFrom opening.board (noted c.local c.reply)
once-at opening w refused x others ac ok =
    let l = x.local in
    let c = at_once w.setup refused w.value l l.spot in
    noted-from opening.board c.local c.reply (from-keeps opening.board (λ b. ⊥) l c.local l.spot (once-keeps (λ b. ⊥) w.setup refused w.value l l.spot) (new-here opening w x others ac) (λ b never. absurd never) ok)

once-from : (opening w : World) (refused : Bool) (l : Local) (others : List Worker) → Comes opening w others l → HoldsFrom opening.board l → let c = at_once w.setup refused w.value l l.spot in HoldsFrom opening.board (noted c.local c.reply)
once-from opening w refused l others comes ok = by_worker (joined opening w others l comes)
  where
    by_worker : (z : Worker) × (z.local ≡ l) × Stands w (z ∷ others) × IsAccounted opening w (z ∷ others) → let c = at_once w.setup refused w.value l l.spot in HoldsFrom opening.board (noted c.local c.reply)
    by_worker (z, e, s, ac) = subst (λ l. let c = at_once w.setup refused w.value l l.spot in HoldsFrom opening.board (noted c.local c.reply)) e (once-at opening w refused z others ac (subst (HoldsFrom opening.board) (sym e) ok))

steps-from : (opening : World) (m : Setup) (value : ℕ → LockValue) (words : List ℕ) (refused : Bool) (x : Worker) (others : List Worker) → length words ≡ word_count m → Stands (world_of m value words) (x ∷ others) → IsAccounted opening (world_of m value words) (x ∷ others)
    → HoldsFrom opening.board x.local
    → let step = step_of m value x.local in let q = get_or words (number_of m step.place) 0 in let c = advance_of m refused value x.local (answer_of step.op q) in HoldsFrom opening.board c.local
unfolding world_of world_from
steps-from opening m value words refused x others long s ac ok =
    let step = step_of m value x.local in
    let n = number_of m step.place in
    let q = get_or words n 0 in
    let a = answer_of step.op q in
    let after = set words n (after_op step.op q) in
    let turn = advance_at m value x.local x.local.spot a in
    let led = leads x.local.spot opening m value words x others (table m value words x others long s) refl s ac in
    let w = world_of m value after in
    let l = noted turn.local turn.reply in
    let comes : Comes opening w others l = (noted-comes w others turn.local turn.reply (turn-tells m value x.local x.local.spot a) led.0, led.1) in
    let stepped = step-from opening m value words x others s ac ok in
    let first = at_once m refused value l l.spot in
    let once = once-from opening w refused l others comes stepped in
    let v = world_of m first.value after in
    let k = noted first.local first.reply in
    let twice = once-from opening v refused k others (comes_once opening w refused others l comes) once in
    let second = at_once m refused first.value k k.spot in
    rested-keeps (HoldsFrom opening.board) (λ l r ok. ok) m (noted second.local second.reply) twice

-- ---- a turn

begun_with-from : (before : ℕ → Option BoardWord) (m : Setup) (tries : Bool) (l : Local) (calls : List Call) → HoldsFrom before l → HoldsFrom before (begun_with m tries l calls)
begun_with-from before m tries l [] ok = ok
begun_with-from before m tries l (call ∷ calls) ok = ok

begun_at-from : (before : ℕ → Option BoardWord) (m : Setup) (tries : Bool) (l : Local) (spot : Spot) → HoldsFrom before l → HoldsFrom before (begun_at m tries l spot)
begun_at-from before m tries l Between ok = begun_with-from before m tries l l.todo ok
begun_at-from before m tries l _ ok = ok

begun-from : (before : ℕ → Option BoardWord) (m : Setup) (tries : Bool) (l : Local) → HoldsFrom before l → HoldsFrom before (begun m tries l)
begun-from before m tries l ok = begun_at-from before m tries l l.spot ok

turn-from : (m : Setup) (opening : World) (s : System) (pick : Pick) → IsCoherentSystem m opening s → All (HoldsFrom opening.board) s.locals → All (HoldsFrom opening.board) (turn m s pick).locals
turn-from m opening s pick is ok = elim (cases_lt pick.worker (length s.locals)) [
  | inl below ↦ (
      let b = has-begun m opening s pick below is in
      let l = get_or s.locals pick.worker idle in
      let mine = begun-from opening.board m pick.tries l (ok pick.worker idle below) in
      let carried = subst (λ b. let step = step_of m s.value b in let q = get_or s.words (number_of m step.place) 0 in let c = advance_of m pick.refused s.value b (answer_of step.op q) in HoldsFrom opening.board c.local) b.local
      (steps-from opening m s.value s.words pick.refused b.x _ is.words b.stands b.accounted (subst (HoldsFrom opening.board) (sym b.local) mine)) in
      All-set (HoldsFrom opening.board) s.locals pick.worker _ carried ok)
  | inr past ↦ set-past (HoldsFrom opening.board) s.locals pick.worker _ past ok
]
  where
    set-past : {X : Type 0} (P : X → Type 0) (xs : List X) (k : ℕ) (v : X) → length xs ≤ k → All P xs → All P (set xs k v)
    set-past P [] k v past all = all
    set-past P (x ∷ xs) zero v past all = absurd (omega (arith, past))
    set-past P (x ∷ xs) (suc k) v past all = All-cons P x (set xs k v) (All-head P x xs all) (set-past P xs k v (omega (arith, past)) (All-tail P x xs all))

run-from : (m : Setup) (opening : World) (s : System) (picks : List Pick) → IsCoherentSystem m opening s → All (HoldsFrom opening.board) s.locals → All (HoldsFrom opening.board) (run m s picks).locals
run-from m opening s [] is ok = ok
run-from m opening s (pick ∷ picks) is ok = run-from m opening (turn m s pick) picks (turn_keeps m opening s pick is) (turn-from m opening s pick is ok)

-- ---- a round

new-from : (before : ℕ → Option BoardWord) (m : Setup) (ls : List Local) → All (IsNew m) ls → All (HoldsFrom before) (map (rested m) ls)
new-from before m ls new =
    All-map (HoldsFrom before) (rested m) ls
    (All-weaker (IsNew m) (λ (l : Local). HoldsFrom before (rested m l)) (λ l is. rested-keeps (HoldsFrom before) (λ l r ok. ok) m l (All-weaker (IsRoom m) (IsFrom before) (λ k room held. absurd (false≢true (sym room.2 ∙ held))) l.known is.known)) ls new)

pub round-from : (m : Setup) (s : System) (picks : List Pick) → IsOpening m s → All (HoldsFrom (world_of m s.value s.words).board) (run m (opened m s) picks).locals
round-from m s picks new = run-from m (world_of m s.value s.words) (opened m s) picks (opens m s new) (new-from (world_of m s.value s.words).board m s.locals new.new)

-- by number
pub known-from : (before : ℕ → Option BoardWord) (o : ℕ) (b : BoardWord) (ks : List Known) → before o ≡ Some b → All (IsFrom before) ks → (known_of ks o).held ≡ true → word_of (known_of ks o) ≡ b
known-from before o b [] on from held = absurd (false≢true held)
known-from before o b (k ∷ ks) on from held = by (eqb k.object o) refl (known-from before o b ks on (All-tail (IsFrom before) k ks from))
  where
    by : (same : Bool) → eqb k.object o ≡ same → ((known_of ks o).held ≡ true → word_of (known_of ks o) ≡ b) → word_of (known_of (k ∷ ks) o) ≡ b
    by true is rest =
        let mine : known_of (k ∷ ks) o ≡ k = rw is refl in
        ap word_of mine ∙ All-head (IsFrom before) k ks from (ap (λ (k : Known). k.held) (sym mine) ∙ held) b (ap before (eqb-true k.object o is) ∙ on)
    by false is rest =
        let other : known_of (k ∷ ks) o ≡ known_of ks o = rw is refl in
        ap word_of other ∙ rest (ap (λ (k : Known). k.held) (sym other) ∙ held)
