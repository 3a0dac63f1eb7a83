-- An item between rounds has one outcome, and so have items that are done one after the other.
use Rattle.std.proofs.Common.{◌≡◌, ℕ, Bool, List, [], ◌∷◌, Result, refl, sym, ◌∙◌, ap, subst}
use Rattle.std.proofs.lemmas.List.Elements.{All-head, All-tail}
use Rattle.slub_common.specs.declared.no_such_cache.NoSuchCache.{NoSuchCache}
use Rattle.slub_object_layout.specs.declared.layout.Setting.{Setting}
use Rattle.slub_object_layout.specs.declared.layout.Spec.{Spec}
use Rattle.slub_trace.specs.declared.event.Round.{Round}
use Rattle.slub_trace.specs.declared.create.Created.{Created}
use Rattle.slub_trace.specs.declared.create.CreateRefusal.{CreateRefusal}
use Rattle.slub_trace.specs.declared.destroy.Destroyed.{Destroyed}
use Rattle.slub_trace.specs.declared.destroy.DestroyRefusal.{DestroyRefusal}
use Rattle.slub_trace.specs.declared.tune.TuneRefusal.{TuneRefusal}
use Rattle.slub_lists.specs.State.{State}
use Rattle.slub_lists.specs.Shrink.{Shrinks}
use Rattle.slub_lists.specs.Destroy.{Destroys}
use Rattle.slub_lists.specs.Tune.{Tunes}
use Rattle.slub_slabinfo_text.specs.declared.counts.InfoRow.{InfoRow}
use Rattle.slub_slabinfo_text.specs.Counts.{rows_of}
use Rattle.slub_trace.specs.declared.trace.Client.{Client}
use Rattle.slub_trace.specs.declared.trace.Item.{Item}
use Rattle.slub_trace.specs.declared.trace.Item.TheVariants as item
use Rattle.slub_trace.specs.declared.trace.Trace.{Trace}
use Rattle.slub_slabinfo_text.specs.declared.journal.Done.{Done}
use Rattle.slub_slabinfo_text.specs.declared.journal.Done.TheVariants as done
use Rattle.slub_slabinfo_text.specs.declared.journal.RoundResult.{RoundResult}
use Rattle.slub_slabinfo_text.specs.Lawful.{CreatesName, DoesPlain, DoesRound, name_at}
use Rattle.slub_law_alone.specs.Items.{DoesItem, DoesItems, IsToldWhole, JournalsHaveOneOutcome, PlainItemsHaveOneOutcome}
use Rattle.slub_law_alone.proofs.Creations.{creations_one}
use Rattle.slub_law_alone.proofs.Between.{shrinks_one, destructions_one, settings_one}
use Rattle.slub_law_alone.proofs.Events.{same_wants}
use Rattle.slub_law_alone.proofs.Rounds.{rounds_one}

-- ---- the answer is of the item's kind

module _ (s : State) (trace : Trace) where
  created_by : (place : ℕ) (spec : Spec) (d : Done) (after : State) → DoesPlain s trace (item.Cache place spec) d after
      → (answer : Result Created CreateRefusal) × (d ≡ done.Created answer) × CreatesName s (name_at trace place) spec answer after
  unfolding DoesPlain
  created_by place spec (done.Created answer) after a = (answer, refl, a)
  created_by place spec _ after a = absurd a

  shrunk_by : (place : ℕ) (d : Done) (after : State) → DoesPlain s trace (item.Shrink place) d after
      → (answer : Result Bool NoSuchCache) × (d ≡ done.Shrunk answer) × Shrinks s (name_at trace place) answer after
  unfolding DoesPlain
  shrunk_by place (done.Shrunk answer) after a = (answer, refl, a)
  shrunk_by place _ after a = absurd a

  destroyed_by : (place : ℕ) (d : Done) (after : State) → DoesPlain s trace (item.Destroy place) d after
      → (answer : Result Destroyed DestroyRefusal) × (d ≡ done.Destroyed answer) × Destroys s (name_at trace place) answer after
  unfolding DoesPlain
  destroyed_by place (done.Destroyed answer) after a = (answer, refl, a)
  destroyed_by place _ after a = absurd a

  told_by : (d : Done) (after : State) → DoesPlain s trace item.Slabinfo d after → (d ≡ done.Slabinfo (rows_of s)) × (after ≡ s)
  unfolding DoesPlain
  told_by (done.Slabinfo rows) after a = (ap (λ (rows : List InfoRow). done.Slabinfo rows) a.0, a.1)
  told_by _ after a = absurd a

  tuned_by : (place : ℕ) (setting : Setting) (d : Done) (after : State) → DoesPlain s trace (item.Tune place setting) d after
      → (answer : Result (Unit {0}) TuneRefusal) × (d ≡ done.Tuned answer) × Tunes s (name_at trace place) setting answer after
  unfolding DoesPlain
  tuned_by place setting (done.Tuned answer) after a = (answer, refl, a)
  tuned_by place setting _ after a = absurd a

  -- a round and a client's line are done otherwise
  no_round : (round : Round) (d : Done) (after : State) → DoesPlain s trace (item.Round round) d after → ⊥
  unfolding DoesPlain
  no_round round (done.Created answer) after a = a
  no_round round _ after a = a

  no_client : (client : Client) (d : Done) (after : State) → DoesPlain s trace (item.Client client) d after → ⊥
  unfolding DoesPlain
  no_client client (done.Created answer) after a = a
  no_client client _ after a = a

-- ---- one item

pub plain_items_one : PlainItemsHaveOneOutcome
plain_items_one s trace (item.Cache place spec) one other left right a b =
    let x = created_by s trace place spec one left a in
    let y = created_by s trace place spec other right b in
    let same = creations_one s (name_at trace place) spec x.0 y.0 left right x.2 y.2 in
    (x.1 ∙ ap (λ (answer : Result Created CreateRefusal). done.Created answer) same.0 ∙ sym y.1, same.1)
plain_items_one s trace (item.Shrink place) one other left right a b =
    let x = shrunk_by s trace place one left a in
    let y = shrunk_by s trace place other right b in
    let same = shrinks_one s (name_at trace place) x.0 y.0 left right x.2 y.2 in
    (x.1 ∙ ap (λ (answer : Result Bool NoSuchCache). done.Shrunk answer) same.0 ∙ sym y.1, same.1)
plain_items_one s trace (item.Destroy place) one other left right a b =
    let x = destroyed_by s trace place one left a in
    let y = destroyed_by s trace place other right b in
    let same = destructions_one s (name_at trace place) x.0 y.0 left right x.2 y.2 in
    (x.1 ∙ ap (λ (answer : Result Destroyed DestroyRefusal). done.Destroyed answer) same.0 ∙ sym y.1, same.1)
plain_items_one s trace item.Slabinfo one other left right a b =
    let x = told_by s trace one left a in
    let y = told_by s trace other right b in
    (x.0 ∙ sym y.0, x.1 ∙ sym y.1)
plain_items_one s trace (item.Tune place setting) one other left right a b =
    let x = tuned_by s trace place setting one left a in
    let y = tuned_by s trace place setting other right b in
    let same = settings_one s (name_at trace place) setting x.0 y.0 left right x.2 y.2 in
    (x.1 ∙ ap (λ (answer : Result (Unit {0}) TuneRefusal). done.Tuned answer) same.0 ∙ sym y.1, same.1)
plain_items_one s trace (item.Round round) one other left right a b = absurd (no_round s trace round one left a)
plain_items_one s trace (item.Client client) one other left right a b = absurd (no_client s trace client one left a)

-- ---- one after the other

-- a round, whose answer is of its kind
round_by : (s : State) (trace : Trace) (round : Round) (d : Done) (after : State) → DoesItem s trace (item.Round round) d after
    → (result : RoundResult) × (d ≡ done.Round result) × DoesRound s round result after
round_by s trace round (done.Round result) after a = (result, refl, a)
round_by s trace round _ after a = absurd (no_round s trace round _ after a)

rounds_same : (s : State) (trace : Trace) (round : Round) → (one other : Done) (left right : State) → IsToldWhole one → IsToldWhole other
    → DoesItem s trace (item.Round round) one left → DoesItem s trace (item.Round round) other right → (one ≡ other) × (left ≡ right)
rounds_same s trace round one other left right whole whole' a b =
    let x = round_by s trace round one left a in
    let y = round_by s trace round other right b in
    let v : IsToldWhole (done.Round x.0) = subst IsToldWhole x.1 whole in
    let w : IsToldWhole (done.Round y.0) = subst IsToldWhole y.1 whole' in
    let wants = same_wants s round.events x.0.replies y.0.replies x.2.last y.2.last v w x.2.runs y.2.runs in
    let same = rounds_one s round x.0 y.0 left right wants x.2 y.2 in
    (x.1 ∙ ap (λ (result : RoundResult). done.Round result) same.0 ∙ sym y.1, same.1)

items_same : (s : State) (trace : Trace) (what : Item) (one other : Done) (left right : State) → IsToldWhole one → IsToldWhole other
    → DoesItem s trace what one left → DoesItem s trace what other right → (one ≡ other) × (left ≡ right)
items_same s trace (item.Round round) one other left right v w a b = rounds_same s trace round one other left right v w a b
items_same s trace (item.Cache place spec) one other left right v w a b = plain_items_one s trace (item.Cache place spec) one other left right a b
items_same s trace (item.Shrink place) one other left right v w a b = plain_items_one s trace (item.Shrink place) one other left right a b
items_same s trace (item.Destroy place) one other left right v w a b = plain_items_one s trace (item.Destroy place) one other left right a b
items_same s trace item.Slabinfo one other left right v w a b = plain_items_one s trace item.Slabinfo one other left right a b
items_same s trace (item.Tune place setting) one other left right v w a b = plain_items_one s trace (item.Tune place setting) one other left right a b
items_same s trace (item.Client client) one other left right v w a b = plain_items_one s trace (item.Client client) one other left right a b

pub journals_one : JournalsHaveOneOutcome
journals_one s trace [] [] [] left right v w a b = (refl, a ∙ sym b)
journals_one s trace [] [] (other ∷ others) left right v w a b = absurd b
journals_one s trace [] (one ∷ ones) others left right v w a b = absurd a
journals_one s trace (what ∷ items) [] others left right v w a b = absurd a
journals_one s trace (what ∷ items) (one ∷ ones) [] left right v w a b = absurd b
journals_one s trace (what ∷ items) (one ∷ ones) (other ∷ others) left right v w a b =
    let first = items_same s trace what one other a.0 b.0 (All-head IsToldWhole one ones v) (All-head IsToldWhole other others w) a.1 b.1 in
    let rest = journals_one b.0 trace items ones others left right (All-tail IsToldWhole one ones v) (All-tail IsToldWhole other others w)
    (subst (λ (mid : State). DoesItems mid trace items ones left) first.1 a.2) b.2 in
    ((λ i. first.0 i ∷ rest.0 i), rest.1)
