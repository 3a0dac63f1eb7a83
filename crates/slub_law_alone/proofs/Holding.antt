-- What the lists say that a worker holds, it holds under the number's place, where no other worker has its number.
use Rattle.std.proofs.Common.{◌≡◌, ℕ, suc, ◌<◌, ◌&&◌, Bool, true, false, cond, eqb, List, [], ◌∷◌, length, get_or, Option, Some, None, ◌⊎◌, inl, inr, refl, ap, sym, ◌∙◌, subst, arith}
use Rattle.std.specs.Prelude.{All, is_some}
use Rattle.std.specs.Option.{option_map, option_or}
use Rattle.std.proofs.lemmas.Bool.{cases_Bool, cond-false, eqb-true, false≢true}
use Rattle.std.proofs.lemmas.Option.{same_Some}
use Rattle.std.proofs.lemmas.List.Elements.{All-head}
use Rattle.slub_words.specs.declared.board.BoardWord.{BoardWord}
use Rattle.slub_lists.specs.declared.lists.Held.{Held}
use Rattle.slub_lists.specs.State.{State}
use Rattle.slub_lists.specs.Coherent.{held_under}
use Rattle.slub_core.specs.declared.call.Call.{Call}
use Rattle.slub_core.specs.declared.local.Known.{Known}
use Rattle.slub_core.specs.Calls.{call_kind, call_object}
use Rattle.slub_core.specs.Accounted.{place_of, known_of, AreDistinct, CallFits}
use Rattle.slub_core.specs.Local.{Local, nobody}
use Rattle.slub_core.specs.Replies.{names_object}
use Rattle.slub_core.specs.Run.{System, idle}
use Rattle.slub_core.specs.World.{World, world_of}
use Rattle.slub_core.proofs.TaleKnowns.{held-inside}
use Rattle.slub_core.proofs.TaleReplies.{told-of}
use Rattle.slub_law_opening.specs.Opening.{Beside, setup_of}
use Rattle.slub_law_opening.specs.Rests.{held_on, held_in, held_among}
use Rattle.slub_law_opening.proofs.Names.{as_held}
use Rattle.slub_law_alone.specs.Alone.{worker_at, known_at, IsAtRest, IsNext}
use Rattle.slub_law_alone.specs.Frees.{HasOwnNumber}
use Rattle.slub_law_alone.proofs.InPlace.{and_no}
use Rattle.slub_law_alone.proofs.Start.{IsStart, starts}

-- ---- one worker

-- what it holds under a number names it
names_worker : (worker o : ℕ) (ks : List Known) (h : Held) → held_in worker ks o ≡ Some h → h.worker ≡ Some worker
names_worker worker o [] h e = absurd (cc e)
names_worker worker o (k ∷ ks) h e = by (k.held && eqb k.object o) e (names_worker worker o ks h)
  where
    by : (z : Bool) → cond {A = Option Held} z (Some (as_held worker k)) (held_in worker ks o) ≡ Some h → (held_in worker ks o ≡ Some h → h.worker ≡ Some worker) → h.worker ≡ Some worker
    by true is more = ap (λ (h : Held). h.worker) (sym (same_Some (as_held worker k) h is))
    by false is more = more is

-- and is known at the number's place
held_there : (worker o : ℕ) (ks : List Known) (h : Held) → AreDistinct ks → held_in worker ks o ≡ Some h → (known_of ks o).held ≡ true
held_there worker o [] h distinct e = absurd (cc e)
held_there worker o (k ∷ ks) h distinct e = by (cases_Bool (eqb k.object o)) (held_there worker o ks h distinct.1)
  where
    later : k.held && eqb k.object o ≡ false → held_in worker ks o ≡ Some h
    later other = sym (cond-false {A = Option Held} (k.held && eqb k.object o) (Some (as_held worker k)) (held_in worker ks o) other) ∙ e

    here : eqb k.object o ≡ true → (held_in worker ks o ≡ Some h → (known_of ks o).held ≡ true) → (z : Bool) → k.held ≡ z → k.held ≡ true
    here at more true is = is
    here at more false is = absurd (
        let below = held-inside ks o (more (later (ap (λ z. z && eqb k.object o) is))) in
        let past = ap (place_of ks) (sym (eqb-true k.object o at)) ∙ distinct.0 in
        omega (arith, below, past))

    by : (eqb k.object o ≡ true) ⊎ (eqb k.object o ≡ false) → (held_in worker ks o ≡ Some h → (known_of ks o).held ≡ true) → (known_of (k ∷ ks) o).held ≡ true
    by (inl at) more = ap (λ (b : Bool). (get_or (k ∷ ks) (cond b 0 (suc (place_of ks o))) nobody).held) at ∙ here at more k.held refl
    by (inr off) more = ap (λ (b : Bool). (get_or (k ∷ ks) (cond b 0 (suc (place_of ks o))) nobody).held) off ∙ more (later (and_no k.held off))

-- ---- all workers

-- what is held one of them holds
one_holds : (o : ℕ) (ls : List Local) (h : Held) → held_among ls o ≡ Some h → (y : ℕ) × (y < length ls) × (held_in (get_or ls y idle).worker (get_or ls y idle).known o ≡ Some h)
one_holds o [] h e = absurd (cc e)
one_holds o (l ∷ ls) h e = by (held_in l.worker l.known o) refl e (one_holds o ls h)
  where
    by : (x : Option Held) → held_in l.worker l.known o ≡ x → option_or x (held_among ls o) ≡ Some h → (held_among ls o ≡ Some h → (y : ℕ) × (y < length ls) × (held_in (get_or ls y idle).worker (get_or ls y idle).known o ≡ Some h))
        → (y : ℕ) × (y < length (l ∷ ls)) × (held_in (get_or (l ∷ ls) y idle).worker (get_or (l ∷ ls) y idle).known o ≡ Some h)
    by None is e more = let r = more e in (suc r.0, omega (arith, r.1), r.2)
    by (Some x) is e more = (0, omega arith, is ∙ e)

-- what a worker holds isn't on the board
off_board : (d : Option BoardWord) (rest : Option Held) (h : Held) → is_some h.worker ≡ true → option_or (option_map held_on d) rest ≡ Some h → rest ≡ Some h
off_board None rest h held e = e
off_board (Some d) rest h held e = absurd (false≢true (ap (λ (h : Held). is_some h.worker) (same_Some (held_on d) h e) ∙ held))

-- ---- the object of a call

pub holds_it : (opening : World) (s : State) (b : Beside) (system : System) (x : ℕ) (call : Call) (held : Held) → IsAtRest opening s b system → IsNext system x call → HasOwnNumber system x → names_object (call_kind call) ≡ true
    → held_under s (call_object call) ≡ Some held → held.worker ≡ Some (worker_at system x).worker → (known_at (worker_at system x) call).held ≡ true
holds_it opening s b system x call held rest next own names named mine =
    let m = setup_of s b in
    let w = world_of m system.value system.words in
    let l = worker_at system x in
    let begin : IsStart opening s b system x call = starts opening s b system x call rest next in
    let told = told-of opening w begin.front.worker begin.front.others begin.front.account in
    let distinct = subst (λ (l : Local). AreDistinct l.known) begin.front.local told.distinct in
    let fits = All-head (CallFits w.setup l.known) call next.calls (subst (All (CallFits w.setup l.known)) next.todo (subst (λ (l : Local). All (CallFits w.setup l.known) l.todo) begin.front.local told.fits)) in
    let among = off_board (w.board (call_object call)) (held_among system.locals (call_object call)) held (ap is_some mine) (sym (rest.rests.rests.named (call_object call)) ∙ named) in
    let one = one_holds (call_object call) system.locals held among in
    let y = worker_at system one.0 in
    let number = same_Some y.worker l.worker (sym (names_worker y.worker (call_object call) y.known held one.2) ∙ mine) in
    let itself = subst (λ z. held_in (worker_at system z).worker (worker_at system z).known (call_object call) ≡ Some held) (own one.0 one.1 number) one.2 in
    ap (λ p. (get_or l.known p nobody).held) (fits.place names) ∙ held_there l.worker (call_object call) l.known held distinct itself
