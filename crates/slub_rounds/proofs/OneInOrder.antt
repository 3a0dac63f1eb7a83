-- The order of the text has one round by steps.
use Rattle.std.proofs.Common.{◌≡◌, ℕ, zero, suc, ◌-◌, ◌<◌, ◌≤◌, true, List, [], ◌∷◌, length, get_or, map, Option, None, All, refl, sym, ap, ◌∙◌, subst, arith, inl, inr}
use Rattle.std.specs.List.{zip}
use Rattle.std.specs.Option.{option_or}
use Rattle.std.proofs.lemmas.Bool.{cases_eq, eq-eqb, ne_eqb}
use Rattle.std.proofs.lemmas.Option.{none-some, same_Some}
use Rattle.std.proofs.lemmas.List.{length-map, length-reverse}
use Rattle.std.proofs.lemmas.List.Elements.{All-head, All-tail}
use Rattle.std.proofs.Math.ListN.{get_or-map}
use Rattle.slub_trace.specs.declared.event.Event.{Event}
use Rattle.slub_trace.specs.declared.reply.Reply.{Reply}
use Rattle.slub_core.specs.declared.local.Answered.{Answered}
use Rattle.slub_core.specs.declared.spot.Spot.TheVariants.{Between}
use Rattle.slub_core.specs.Law.{replies_of}
use Rattle.slub_core.specs.Local.{Local}
use Rattle.slub_core.specs.Run.{System, Pick, IsFinished, idle, run, turn}
use Rattle.slub_core.specs.Setup.{Setup}
use Rattle.slub_core.specs.World.{update}
use Rattle.slub_core.proofs.Update.{update_same, update_other}
use Rattle.slub_schedule.specs.Schedule.{AreRefusedAlike, is_finished, marks_of, places_from, unfinished}
use Rattle.slub_schedule.specs.Rounds.{IsFinishedSystem}
use Rattle.slub_law_opening.specs.Opening.{Beside, setup_of}
use Rattle.slub_calls.specs.Replies.{replies_by, told_to, AreReplies}
use Rattle.slub_rounds.specs.Rounds.{system_begun}
use Rattle.slub_rounds.specs.InOrder.{AreInOrder, EndsInOrder, answered, next_in, next_worker}
use Rattle.slub_rounds.specs.Laws.{RoundsInOrderAreOne}
use Rattle.slub_rounds.proofs.Doing.{count, count-other, count-own, none-busy}
use Rattle.slub_rounds.proofs.One.{beside-one, one-round, other-reply, same-beside}

-- ---- whose turn is next

-- where each worker has as many replies as events, no event is without a reply
none-next : (es : List Event) (answers : ℕ → ℕ) → ((worker : ℕ) → count worker es ≤ answers worker) → next_worker es answers ≡ None
none-next [] answers all = refl
none-next (e ∷ es) answers all =
    let w = e.worker in
    let some : suc (count w es) ≤ answers w = omega (arith, all w, count-own e es w refl) in
    rw (ne_eqb (answers w) 0 (λ none. absurd (let never : ⊥ = omega (arith, none, some) in never))) (none-next es (update answers w (answers w - 1)) (λ v. elim (cases_eq v w) [
      | inl is ↦
          let now : update answers w (answers w - 1) v ≡ answers w - 1 = subst (λ (k : ℕ). update answers w (answers w - 1) k ≡ answers w - 1) (sym is) (update_same answers w (answers w - 1)) in
          let same : count v es ≡ count w es = ap (λ (k : ℕ). count k es) is in
          omega (arith, now, same, some)
      | inr other ↦ omega (arith, update_other answers w (answers w - 1) v other, count-other e es v (λ is. other (sym is)), all v)
    ]))

-- so it is nobody's turn
none-in : (es : List Event) (s : System) → IsFinishedSystem s → ((worker : ℕ) → count worker es ≤ answered s worker) → next_in es s ≡ None
none-in es s finished all = ap (λ (o : Option ℕ). option_or o (next_worker es (answered s))) (none-busy 0 s.locals (λ v. idle-or s.locals v finished)) ∙ none-next es (answered s) all
  where
    idle-or : (ls : List Local) (v : ℕ) → All IsFinished ls → (get_or ls v idle).spot ≡ Between
    idle-or [] v all = refl
    idle-or (l ∷ ls) zero all = (All-head IsFinished l ls all).between
    idle-or (l ∷ ls) (suc v) all = idle-or ls v (All-tail IsFinished l ls all)

-- a worker has as many replies as it was told
count-told : (es : List Event) (xs : List Reply) (worker : ℕ) → length xs ≡ length es → count worker es ≡ length (replies_by worker (zip es xs))
count-told [] xs worker long = refl
count-told (e ∷ es) [] worker long = absurd (omega (arith, long))
count-told (e ∷ es) (x ∷ xs) worker long =
    let rest = count-told es xs worker (omega (arith, long)) in
    elim (cases_eq e.worker worker) [
      | inl own ↦ count-own e es worker own ∙ ap suc rest ∙ sym (ap (λ (rs : List Reply). length rs) (mine own))
      | inr other ↦ count-other e es worker other ∙ rest ∙ sym (ap (λ (rs : List Reply). length rs) (other-reply worker e x (zip es xs) other))
    ]
  where
    mine : e.worker ≡ worker → replies_by worker ((e, x) ∷ zip es xs) ≡ x ∷ replies_by worker (zip es xs)
    mine own = rw (eq-eqb e.worker worker own) refl

as-many : (es : List Event) (s : System) (xs : List Reply) → AreReplies es (replies_of s) xs → (worker : ℕ) → count worker es ≤ answered s worker
as-many es s xs are worker =
    let dones = get_or (replies_of s) worker [] in
    let own : dones ≡ (get_or s.locals worker idle).done = get_or-map (λ (l : Local). l.done) s.locals worker idle in
    let told : length (told_to worker (replies_of s)) ≡ length dones = length-reverse (map (λ (d : Answered). d.reply) dones) ∙ length-map dones (λ (d : Answered). d.reply) in
    let many : count worker es ≡ answered s worker =
    count-told es xs worker are.each ∙ ap (λ (rs : List Reply). length rs) (are.own worker) ∙ told ∙ ap (λ (ds : List Answered). length ds) own in
    omega (arith, many)

-- ---- one run

alike-in-order : (m : Setup) (es : List Event) (s : System) (ps qs : List Pick) → AreInOrder m es s ps → AreInOrder m es s qs → AreRefusedAlike ps qs
    → (length ps < length qs → next_in es (run m s ps) ≡ None) → (length qs < length ps → next_in es (run m s qs) ≡ None) → ps ≡ qs
alike-in-order m es s [] [] one other same f g = refl
alike-in-order m es s [] (q ∷ qs) one other same f g = absurd (none-some q.worker (sym (f (omega arith)) ∙ other.0))
alike-in-order m es s (p ∷ ps) [] one other same f g = absurd (none-some p.worker (sym (g (omega arith)) ∙ one.0))
alike-in-order m es s (p ∷ ps) (q ∷ qs) one other same f g =
    let worker : p.worker ≡ q.worker = same_Some p.worker q.worker (sym one.0 ∙ other.0) in
    let tries : p.tries ≡ q.tries = one.1 ∙ sym other.1 in
    let e : p ≡ q = λ i. record { worker = worker i; refused = same.0 i; tries = tries i } in
    let r = alike-in-order m es (turn m s p) ps qs one.2 (subst (λ (p : Pick). AreInOrder m es (turn m s p) qs) (sym e) other.2) same.1
    (λ fewer. f (omega (arith, fewer))) (λ fewer. subst (λ (p : Pick). next_in es (run m (turn m s p) qs) ≡ None) (sym e) (g (omega (arith, fewer)))) in
    λ i. e i ∷ r i

finished-none : (n : ℕ) (ls : List Local) → All IsFinished ls → places_from n (marks_of ls) ≡ []
finished-none n [] all = refl
finished-none n (l ∷ ls) all =
    let first = All-head IsFinished l ls all in
    let is : is_finished l ≡ true = rw (first.between, first.none) refl in
    rw is (finished-none (suc n) ls (All-tail IsFinished l ls all))

some-unfinished : (s : System) → IsFinishedSystem s → 1 ≤ length (unfinished s) → ⊥
some-unfinished s all some = let e = ap (λ (ns : List ℕ). length ns) (finished-none 0 s.locals all) in omega (arith, e, some)

-- ---- the round

abbrev EndsFor : List Event → Setup → System → List Pick → System → Type 0
EndsFor es m first picks last = EndsInOrder m es first picks last

pub orders-one : RoundsInOrderAreOne
orders-one s ids round one other t u left kept does = (
  λ also refused.
      let beside = beside-one (EndsFor round.events) s ids round one other t u left kept does also in
      let m = setup_of s also.beside in
      let first = system_begun s also.beside round in
      let ends : EndsInOrder m round.events first does.picks does.last = subst (λ (b : Beside). EndsInOrder (setup_of s b) round.events (system_begun s b round) does.picks does.last) beside does.ends in
      let picks = alike-in-order m round.events first does.picks also.picks ends.in_order also.ends.in_order refused
      (λ fewer. subst (λ (x : System). next_in round.events x ≡ None) ends.run (none-in round.events does.last ends.finished (as-many round.events does.last one.replies does.replies)))
      (λ fewer. subst (λ (x : System). next_in round.events x ≡ None) also.ends.run (none-in round.events also.last also.ends.finished (as-many round.events also.last other.replies also.replies))) in
      one-round (EndsFor round.events) s ids round one other t u left kept does also (ends.run ∙ ap (run m first) picks ∙ sym also.ends.run),
  λ spends refused.
      let beside = same-beside s ids does.beside spends.beside does.stands spends.stands does.means spends.means in
      let m = setup_of s spends.beside in
      let first = system_begun s spends.beside round in
      let ends : EndsInOrder m round.events first does.picks does.last = subst (λ (b : Beside). EndsInOrder (setup_of s b) round.events (system_begun s b round) does.picks does.last) beside does.ends in
      let spent = spends.spent in
      let picks = alike-in-order m round.events first does.picks spends.picks ends.in_order spent.in_order refused
      (λ fewer. subst (λ (x : System). next_in round.events x ≡ None) ends.run (none-in round.events does.last ends.finished (as-many round.events does.last one.replies does.replies)))
      (λ fewer. absurd (let never : ⊥ = omega (arith, fewer, spent.all, ends.within) in never)) in
      let same : does.last ≡ spends.last = ends.run ∙ ap (run m first) picks ∙ sym spent.run in
      some-unfinished spends.last (subst IsFinishedSystem same ends.finished) spent.unfinished,
)
