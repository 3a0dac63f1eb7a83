-- A seed has one round.
use Rattle.std.proofs.Common.{◌≡◌, ◌≢◌, ℕ, ◌<◌, ◌≤◌, List, [], ◌∷◌, length, drop, get_or, map, Option, None, refl, sym, ap, ◌∙◌, subst, arith, inl, inr}
use Rattle.std.specs.List.{flat_map, zip}
use Rattle.std.specs.Option.{option_map_or}
use Rattle.std.proofs.lemmas.Bool.{cases_eq, cases_lt, eq-eqb, ne_eqb}
use Rattle.std.proofs.lemmas.List.{ext_get_or}
use Rattle.slub_trace.specs.declared.event.Event.{Event}
use Rattle.slub_trace.specs.declared.event.Round.{Round}
use Rattle.slub_cache_create.specs.Table.{Table, cache_of as live_cache}
use Rattle.slub_red_zone.specs.State.{CheckedState}
use Rattle.slub_trace.specs.declared.ledger.Ledger.{Ledger}
use Rattle.slub_trace.specs.declared.reply.Reply.{Reply}
use Rattle.slub_lists.specs.State.{State}
use Rattle.slub_lists.specs.Alloc.{checked_of}
use Rattle.slub_lists.specs.Coherent.{all_on_board}
use Rattle.slub_core.specs.Law.{replies_of}
use Rattle.slub_core.specs.Run.{System, Pick}
use Rattle.slub_core.specs.Setup.{Setup}
use Rattle.slub_core.specs.World.{world_of}
use Rattle.slub_schedule.specs.Schedule.{AreRefusedAlike}
use Rattle.slub_schedule.specs.Rounds.{EndsRound, IsSpent}
use Rattle.slub_schedule.proofs.Picks.{rounds_unique}
use Rattle.slub_law_opening.specs.Opening.{Beside, setup_of}
use Rattle.slub_law_opening.specs.Table.{RestsIn}
use Rattle.slub_law_opening.specs.Closing.{AreAlike, Closes}
use Rattle.slub_law_opening.proofs.Turns.{get_or-beyond}
use Rattle.slub_open_close.specs.Closing.{KeepsWords}
use Rattle.slub_open_close.proofs.Firsts.{one-step}
use Rattle.slub_slabinfo_text.specs.Lawful.{AreLedgers, IsLedger, cache_numbers, found_in, reports_of, title_of}
use Rattle.slub_slabinfo_text.specs.declared.journal.RoundResult.{RoundResult}
use Rattle.slub_turns.specs.Means.{the_means}
use Rattle.slub_calls.specs.Replies.{replies_by, told_to}
use Rattle.slub_rounds.specs.Rounds.{DoesRoundBySteps, StandsBeside, system_begun}
use Rattle.slub_rounds.specs.Laws.{AreOneRound, CountAlike, RoundsBySeedAreOne}
use Rattle.slub_rounds.proofs.Lists.{same-close}

-- ---- what stands beside the lists

pub same-beside : (s : State) (ids : List ℕ) (b d : Beside) → StandsBeside s ids b → StandsBeside s ids d → b.means ≡ the_means → d.means ≡ the_means → b ≡ d
same-beside s ids b d one other means also =
    let step : b.step ≡ d.step = one-step s.cpus b.step d.step one.step other.step in
    λ i. record {
      tids = (one.tids ∙ sym other.tids) i;
      links = (one.links ∙ sym other.links) i;
      step = step i;
      means = (means ∙ sym also) i;
    }

-- ---- replies

abbrev first_or : Reply → List Reply → Reply
first_or other [] = other
first_or other (x ∷ xs) = x

abbrev behind : List Reply → List Reply
behind [] = []
behind (x ∷ xs) = xs

own-reply : (e : Event) (x : Reply) (answers : List (Event × Reply)) → replies_by e.worker ((e, x) ∷ answers) ≡ x ∷ replies_by e.worker answers
own-reply e x answers = rw (eq-eqb e.worker e.worker refl) refl

pub other-reply : (worker : ℕ) (e : Event) (x : Reply) (answers : List (Event × Reply)) → e.worker ≢ worker → replies_by worker ((e, x) ∷ answers) ≡ replies_by worker answers
other-reply worker e x answers other = rw (ne_eqb e.worker worker other) refl

-- the replies to each worker in their order are all replies in theirs
pub same-replies : (es : List Event) (xs ys : List Reply) → length xs ≡ length es → length ys ≡ length es → ((worker : ℕ) → replies_by worker (zip es xs) ≡ replies_by worker (zip es ys)) → xs ≡ ys
same-replies [] [] [] long also same = refl
same-replies [] (x ∷ xs) ys long also same = absurd (omega (arith, long))
same-replies [] [] (y ∷ ys) long also same = absurd (omega (arith, also))
same-replies (e ∷ es) [] ys long also same = absurd (omega (arith, long))
same-replies (e ∷ es) (x ∷ xs) [] long also same = absurd (omega (arith, also))
same-replies (e ∷ es) (x ∷ xs) (y ∷ ys) long also same =
    let own : x ∷ replies_by e.worker (zip es xs) ≡ y ∷ replies_by e.worker (zip es ys) = sym (own-reply e x (zip es xs)) ∙ same e.worker ∙ own-reply e y (zip es ys) in
    let first : x ≡ y = ap (first_or x) own in
    let rest : xs ≡ ys = same-replies es xs ys (omega (arith, long)) (omega (arith, also)) (λ worker. elim (cases_eq e.worker worker) [
      | inl mine ↦ subst (λ (w : ℕ). replies_by w (zip es xs) ≡ replies_by w (zip es ys)) mine (ap behind own)
      | inr other ↦ sym (other-reply worker e x (zip es xs) other) ∙ same worker ∙ other-reply worker e y (zip es ys) other
    ]) in
    λ i. first i ∷ rest i

-- ---- the lists

module _ (s t u : State) (table : t.table ≡ u.table) (alike : AreAlike t u) (long : length t.checked ≡ 32) (also : length u.checked ≡ 32) where
  pub same-checked : (cache : ℕ) → checked_of t cache ≡ checked_of u cache
  same-checked cache = elim (cases_lt cache 32) [
    | inl below ↦ alike.checked cache below
    | inr past ↦ get_or-beyond t.checked cache None (omega (arith, long, past)) ∙ sym (get_or-beyond u.checked cache None (omega (arith, also, past)))
  ]

  -- what is told of damages
  pub same-found : found_in s t ≡ found_in s u
  same-found = λ i. flat_map (λ cache. map (λ report. record { title = title cache i; report = report }) (drop (length (reports_of s cache)) (reports cache i))) cache_numbers
    where
      title : (cache : ℕ) → title_of t cache ≡ title_of u cache
      title cache = ap (λ (x : Table). option_map_or (λ live. live.title) (live_cache x cache) []) table

      reports : (cache : ℕ) → reports_of t cache ≡ reports_of u cache
      reports cache = ap (λ (x : Option CheckedState). option_map_or (λ slabs. slabs.reports) x []) (same-checked cache)

-- ---- the transaction ids

-- they are those of the words
pub same-ids : (t u : State) (d e : Beside) (one other : System) → one ≡ other → setup_of t d ≡ setup_of u e → RestsIn t d one → RestsIn u e other → length d.tids ≡ 512 → length e.tids ≡ 512 → d.tids ≡ e.tids
same-ids t u d e one other same stays rests also long count = ext_get_or 0 d.tids e.tids (long ∙ sym count) (λ n below.
    let inside : n < 512 = omega (arith, below, long) in
    sym (rests.rests.cpu n inside).tid ∙ (λ i. ((world_of (stays i) (same i).value (same i).words).cpu n).tid) ∙ (also.rests.cpu n inside).tid)

-- ---- ledgers

same-counts : (s : State) (answers : List (Event × Reply)) (worker : ℕ) (one other : Ledger) → IsLedger s answers worker one → IsLedger s answers worker other → CountAlike one other
same-counts s answers worker one other x y = record {
  given = x.given ∙ sym y.given;
  freed = x.freed ∙ sym y.freed;
  no_frames = λ order below. x.no_frames order below ∙ sym (y.no_frames order below);
}

-- ---- the round

-- rounds whose last machine is the same are one
module _ (Ending : Setup → System → List Pick → System → Type 0) (s : State) (ids : List ℕ) (round : Round) (one other : RoundResult) (t u : State) (left kept : List ℕ)
    (does : DoesRoundBySteps Ending s ids round one t left) (also : DoesRoundBySteps Ending s ids round other u kept) where
  pub beside-one : does.beside ≡ also.beside
  beside-one = same-beside s ids does.beside also.beside does.stands also.stands does.means also.means

  module _ (last : does.last ≡ also.last) where
    closes : Closes s also.beside also.last does.lists does.left
    closes = subst (λ (b : Beside). Closes s b also.last does.lists does.left) beside-one (subst (λ (x : System). Closes s does.beside x does.lists does.left) last does.closes)

    words : KeepsWords s also.beside also.last does.lists
    words = subst (λ (b : Beside). KeepsWords s b also.last does.lists) beside-one (subst (λ (x : System). KeepsWords s does.beside x does.lists) last does.words)

    few : s.cpus ≤ 16
    few = omega (arith, also.stands.fits.step.0, also.stands.fits.step.1)

    lists : does.lists ≡ also.lists
    lists = same-close s does.lists also.lists also.beside does.left also.left also.last few closes also.closes words also.words

    replies : one.replies ≡ other.replies
    replies = same-replies round.events one.replies other.replies does.replies.each also.replies.each
        (λ worker. does.replies.own worker ∙ ap (λ (x : System). told_to worker (replies_of x)) last ∙ sym (also.replies.own worker))

    ledgers : AreLedgers s (zip round.events other.replies) round.workers one.ledgers
    ledgers = subst (λ (xs : List Reply). AreLedgers s (zip round.events xs) round.workers one.ledgers) replies does.ledgers

    pub one-round : AreOneRound one other t u left kept
    one-round = record {
      replies = replies;
      damages = does.damages ∙ ap (found_in s) lists ∙ sym also.damages;
      workers = ledgers.each ∙ sym also.ledgers.each;
      ledgers = λ worker x y below. same-counts s (zip round.events other.replies) worker (get_or one.ledgers worker x) (get_or other.ledgers worker y)
          (ledgers.counts worker x (omega (arith, below, ledgers.each)))
          (also.ledgers.counts worker y (omega (arith, below, ledgers.each)));
      ids = does.ids_are
          ∙ same-ids does.lists also.lists does.left also.left also.last also.last refl (closes.stays ∙ sym also.closes.stays) closes.rests also.closes.rests closes.tids also.closes.tids
          ∙ sym also.ids_are;
      left = does.after_is ∙ ap all_on_board lists ∙ sym also.after_is;
    }

-- ---- by a seed

module _ (s : State) (seed : ℕ) (round : Round) (b d : Beside) (ps qs : List Pick) (x y : System) (same : b ≡ d) (alike : AreRefusedAlike ps qs)
    (ends : EndsRound (setup_of s b) seed (system_begun s b round) ps x) where
  moved : EndsRound (setup_of s d) seed (system_begun s d round) ps x
  moved = subst (λ (b : Beside). EndsRound (setup_of s b) seed (system_begun s b round) ps x) same ends

  pub same-last : EndsRound (setup_of s d) seed (system_begun s d round) qs y → x ≡ y
  same-last other = ((rounds_unique (setup_of s d) seed (system_begun s d round) ps qs x y alike).0 moved other).1

  not-spent : IsSpent (setup_of s d) seed (system_begun s d round) qs y → ⊥
  not-spent spent = (rounds_unique (setup_of s d) seed (system_begun s d round) ps qs x y alike).2 moved spent

abbrev EndsBy : ℕ → Setup → System → List Pick → System → Type 0
EndsBy seed m first picks last = EndsRound m seed first picks last

pub are-one : RoundsBySeedAreOne
are-one s ids seed round one other t u left kept does = (
  λ also refused.
      let beside = beside-one (EndsBy seed) s ids round one other t u left kept does also in
      one-round (EndsBy seed) s ids round one other t u left kept does also
      (same-last s seed round does.beside also.beside does.picks also.picks does.last also.last beside refused does.ends also.ends),
  λ spends alike.
      let beside = same-beside s ids does.beside spends.beside does.stands spends.stands does.means spends.means in
      not-spent s seed round does.beside spends.beside does.picks spends.picks does.last spends.last beside alike does.ends spends.spent,
)
