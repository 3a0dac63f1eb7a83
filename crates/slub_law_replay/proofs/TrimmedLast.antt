-- A cache that was trimmed last, and of which no object is given any more, has no slab.
use Rattle.std.proofs.Common.{◌≡◌, ℕ, false, List, [], ◌∷◌, ◌++◌, get_or, Option, Some, None, MatchOption, refl, ap, sym, ◌∙◌, subst, arith}
use Rattle.std.specs.Option.{option_map_or}
use Rattle.slub_trace.specs.declared.event.Act.{Act}
use Rattle.slub_trace.specs.declared.event.Event.{Event}
use Rattle.slub_trace.specs.declared.event.Round.{Round}
use Rattle.slub_trace.specs.declared.reply.Reply.{Reply}
use Rattle.slub_trace.specs.declared.reply.Reply.TheVariants as reply
use Rattle.slub_red_zone.specs.State.{CheckedState, aside_count}
use Rattle.slub_lists.specs.State.{State}
use Rattle.slub_lists.specs.Alloc.{checked_of, named}
use Rattle.slub_lists.specs.Coherent.{all_on_board}
use Rattle.slub_lists.specs.Shrink.{ShrinksCache, busy_of, has_slab}
use Rattle.slub_lists.specs.Trim.{Trims, TrimsCache}
use Rattle.slub_slabinfo_text.specs.declared.journal.RoundResult.{RoundResult}
use Rattle.slub_slabinfo_text.specs.Lawful.{Answers, RunsEvents}
use Rattle.slub_law_replay.specs.Trimmed.{EndsTrimmed}

-- the last event is answered last
record LastAnswer (event : Event) (after : State) : Type 0 where
  before : State
  answer : Reply
  answers : Answers before event event.act answer after

last-answer : (s : State) (first : List Event) (event : Event) (replies : List Reply) (after : State) → RunsEvents s (first ++ event ∷ []) replies after → LastAnswer event after
last-answer s [] event [] after runs = absurd runs
last-answer s [] event (answer ∷ []) after runs =
    record { before = s; answer = answer; answers = subst (λ (t : State). Answers s event event.act answer t) (sym runs.3) runs.1 }
last-answer s [] event (answer ∷ other ∷ others) after runs = absurd runs.3
last-answer s (one ∷ first) event [] after runs = absurd runs
last-answer s (one ∷ first) event (answer ∷ replies) after runs = last-answer runs.0 first event replies after runs.3

same-cache : (x : Option ℕ) (one other : ℕ) → x ≡ Some one → x ≡ Some other → one ≡ other
same-cache x one other a b = some-is (sym a ∙ b)
  where
    some-is : {m n : ℕ} → Some m ≡ Some n → m ≡ n
    some-is e = cc

module _ (s after : State) (place cache : ℕ) (answer : Reply) (of-cache : named after place ≡ Some cache) (unchecked : checked_of after cache ≡ None) (idle : busy_of after cache ≡ 0) where
  -- it was shrunk, and nothing of it was in use
  shrunk : (other : ℕ) → named s place ≡ Some other → checked_of s other ≡ None → ShrinksCache s other after → has_slab after cache ≡ false
  shrunk other is plain shrinks =
      let same : cache ≡ other = same-cache (named after place) cache other of-cache (ap (λ t. named (record s { table = t }) place) shrinks.held.table ∙ is) in
      let aside : option_map_or aside_count (checked_of s other) 0 ≡ 0 = ap (λ (x : Option CheckedState). option_map_or aside_count x 0) plain in
      let live : get_or s.live other 0 ≡ get_or after.live cache 0 = sym (ap (λ (l : List ℕ). get_or l other 0) shrinks.held.live) ∙ ap (λ n. get_or after.live n 0) (sym same) in
      subst (λ n. has_slab after n ≡ false) (sym same) (shrinks.emptied (omega (arith, live, idle, aside))).0

  trimmed : Trims s place answer after → has_slab after cache ≡ false
  trimmed trims = by (named s place) refl trims
    where
      none-some : (x : Option ℕ) → x ≡ None → x ≡ Some cache → ⊥
      none-some x a b = cc

      left-some : (x : Option CheckedState) (slabs : CheckedState) → x ≡ None → x ≡ Some slabs → ⊥
      left-some x slabs a b = cc

      by-kind : (other : ℕ) → named s place ≡ Some other → (x : Option CheckedState) → checked_of s other ≡ x
          → MatchOption x (TrimsCache s other answer after) (λ slabs. (answer ≡ reply.Checked) × (after ≡ s)) → has_slab after cache ≡ false
      by-kind other is None plain done = shrunk other is plain done.2
      by-kind other is (Some slabs) plain done =
          let same : cache ≡ other = same-cache (named after place) cache other of-cache (ap (λ (t : State). named t place) done.1 ∙ is) in
          absurd (left-some (checked_of after cache) slabs unchecked (ap (λ (t : State). checked_of t cache) done.1 ∙ ap (checked_of s) same ∙ plain))

      by : (x : Option ℕ) → named s place ≡ x
          → MatchOption x ((answer ≡ reply.NoSuchCache) × (after ≡ s)) (λ other. MatchOption (checked_of s other) (TrimsCache s other answer after) (λ slabs. (answer ≡ reply.Checked) × (after ≡ s))) → has_slab after cache ≡ false
      by None is done = absurd (none-some (named after place) (ap (λ (t : State). named t place) done.1 ∙ is) of-cache)
      by (Some other) is done = by-kind other is (checked_of s other) refl done

pub trimmed-last : (s : State) (round : Round) (result : RoundResult) (cache : ℕ) (after : State) → EndsTrimmed s round result cache after → has_slab after cache ≡ false
trimmed-last s round result cache after ends =
    let does = ends.does in
    let runs = subst (λ (events : List Event). RunsEvents s events result.replies does.last) ends.events does.runs in
    let last = last-answer s ends.first ends.last result.replies does.last runs in
    let trims = subst (λ (act : Act). Answers last.before ends.last act last.answer does.last) ends.trims last.answers in
    let on-board : after ≡ all_on_board does.last = does.after_is in
    ap (λ (t : State). has_slab t cache) on-board
    ∙ trimmed last.before does.last ends.place cache last.answer
    (sym (ap (λ (t : State). named t ends.place) on-board) ∙ ends.of_cache)
    (sym (ap (λ (t : State). checked_of t cache) on-board) ∙ ends.unchecked)
    (sym (ap (λ (t : State). busy_of t cache) on-board) ∙ ends.idle) trims
