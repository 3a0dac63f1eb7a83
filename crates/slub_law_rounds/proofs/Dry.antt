-- The want of frames is counted once for each reply that tells of it.
use Rattle.std.proofs.Common.{◌≡◌, ℕ, ◌+◌, ◌-◌, ◌^◌, ◌<◌, Bool, true, false, eqb, min, List, [], ◌∷◌, ◌++◌, get_or, refl, sym, ◌∙◌, ap, arith, Some, inl, inr, count_by, get_or-set_other, get_or-set_same}
use Rattle.std.specs.Option.{option_and_then, option_map}
use Rattle.std.proofs.lemmas.Bool.{cases_eq, eq-eqb, ne_eqb}
use Rattle.slub_page_pool.specs.FreeFrames.{FreeFrames}
use Rattle.slub_trace.specs.declared.event.Act.TheVariants.{Alloc}
use Rattle.slub_cache_create.specs.Table.{Table, cache_of as live_cache, name_at, number_of}
use Rattle.slub_cache_create.specs.declared.caches.Cache.{Cache}
use Rattle.slub_trace.specs.declared.reply.Reply.{Reply}
use Rattle.slub_trace.specs.declared.reply.Reply.TheVariants as reply
use Rattle.slub_lists.specs.State.{State}
use Rattle.slub_lists.specs.Alloc.{cache_of, named}
use Rattle.slub_lists.specs.Coherent.{IsCoherent}
use Rattle.slub_slabinfo_text.specs.Lawful.{is_order, lacks as lacks_run, least_order_of, min_order_of}
use Rattle.slub_law_rounds.specs.Answered.{Answered}
use Rattle.slub_law_rounds.proofs.Runs.{count-more}
use Rattle.slub_law_rounds.proofs.Steps.{Step, counted, flushes, frees, gives, keeps, lacks, nameless, pokes, pokes_not, reads, reads_none, reads_not, refuses, trims, trims_checked, trims_none, wants, word-keeps, writes, writes_none, writes_not}
use Rattle.slub_law_rounds.proofs.Times.{one_where}

abbrev pub Dry : State → List Answered → State → Type 0
Dry before past s = (order : ℕ) → order < 11 → get_or before.pool.dry order 0 + count_by (lacks_run before order) past < 2 ^ 64 → get_or s.pool.dry order 0 ≡ get_or before.pool.dry order 0 + count_by (lacks_run before order) past

abbrev is_lack : Reply → Bool
is_lack reply.NoFrames = true
is_lack answer = false

not-lack : (before : State) (order : ℕ) (one : Answered) → is_lack one.1 ≡ false → lacks_run before order one ≡ false
not-lack before order (event, reply.NoFrames) other = absurd (cc)
not-lack before order (event, answer) other = refl

module _ (before : State) (past : List Answered) (s : State) (one : Answered) (after : State) (coherent : IsCoherent s) (table : s.table ≡ before.table) (dry : Dry before past s) where
  quiet : after.pool.dry ≡ s.pool.dry → is_lack one.1 ≡ false → Dry before (past ++ one ∷ []) after
  quiet same other order within room =
      let none : one_where (lacks_run before order one) ≡ 0 = ap one_where (not-lack before order one other) in
      let more = count-more (lacks_run before order) past one in
      let was = dry order within (omega (arith, room, none, more)) in
      omega (arith, ap (λ (d : List ℕ). get_or d order 0) same, was, none, more)

  lacked : (place object cache : ℕ) (live : Cache) → one.0.act ≡ Alloc place object → named s place ≡ Some cache → cache_of s cache ≡ Some live → one.1 ≡ reply.NoFrames
      → after.pool.dry ≡ counted s.pool.dry live.layout.min_order → Dry before (past ++ one ∷ []) after
  lacked place object cache live asks names is_live is now order within room =
      ap (λ (d : List ℕ). get_or d order 0) now ∙ elim (cases_eq live.layout.min_order order) [
        | inl same ↦
            let here : one_where (lacks_run before order one) ≡ 1 = ap one_where (counts ∙ eq-eqb live.layout.min_order order same) in
            let was = dry order within (omega (arith, room, here, more)) in
            ap (λ m. get_or (counted s.pool.dry m) order 0) same ∙ get_or-set_same s.pool.dry order (min (get_or s.pool.dry order 0 + 1) (2 ^ 64 - 1)) 0 (omega (arith, within, coherent.shaped.pool.orders))
            ∙ omega (arith, was, here, more, room)
        | inr differ ↦
            let none : one_where (lacks_run before order one) ≡ 0 = ap one_where (counts ∙ ne_eqb live.layout.min_order order differ) in
            let was = dry order within (omega (arith, room, none, more)) in
            get_or-set_other s.pool.dry live.layout.min_order order (min (get_or s.pool.dry live.layout.min_order 0 + 1) (2 ^ 64 - 1)) 0 (λ e. differ (sym e)) ∙ omega (arith, was, none, more)
      ]
    where
      more : count_by (lacks_run before order) (past ++ one ∷ []) ≡ count_by (lacks_run before order) past + one_where (lacks_run before order one)
      more = count-more (lacks_run before order) past one

      least : least_order_of before (Alloc place object) ≡ Some live.layout.min_order
      least = ap (λ (t : Table). option_map min_order_of (option_and_then (live_cache t) (number_of t (name_at t place)))) (sym table)
          ∙ ap (λ x. option_map min_order_of (option_and_then (cache_of s) x)) names ∙ ap (option_map min_order_of) is_live

      asked : (one : Answered) → one.0.act ≡ Alloc place object → one.1 ≡ reply.NoFrames → lacks_run before order one ≡ is_order order (least_order_of before (Alloc place object))
      asked (event, answer) asks is = rw (is, asks) refl

      counts : lacks_run before order one ≡ eqb live.layout.min_order order
      counts = asked one asks is ∙ ap (is_order order) least

  pub dry-step : Step s one.0 one.1 after → Dry before (past ++ one ∷ []) after
  dry-step (gives place object live held asks names is_live mine is unheld board gone table memory cpus frames same) = quiet same (ap is_lack is)
  dry-step (lacks place object cache live asks names is_live is board gone table memory cpus frames now) = lacked place object cache live asks names is_live is now
  dry-step (wants place object cache live slabs asks names is_live checked is kept) = quiet kept.dry (ap is_lack is)
  dry-step (nameless place object asks none is now) = quiet (ap (λ (t : State). t.pool.dry) now) (ap is_lack is)
  dry-step (frees object live held asks was may is_live is board gone table memory cpus frames same) = quiet same (ap is_lack is)
  dry-step (keeps object damage held slabs asks was may checked taken is now) = quiet (ap (λ (t : State). t.pool.dry) now) (ap is_lack is)
  dry-step (refuses object asks why is now) = quiet (ap (λ (t : State). t.pool.dry) now) (ap is_lack is)
  dry-step (writes object word value live held asks holds within is now) =
      quiet (ap (λ (t : State). t.pool.dry) now ∙ ap (λ (p : FreeFrames). p.dry) (word-keeps s live.layout held word value).pool) (ap is_lack is)
  dry-step (writes_none object word value live held asks holds past is now) = quiet (ap (λ (t : State). t.pool.dry) now) (ap is_lack is)
  dry-step (writes_not object word value asks none is now) = quiet (ap (λ (t : State). t.pool.dry) now) (ap is_lack is)
  dry-step (reads object word live held asks holds within is now) = quiet (ap (λ (t : State). t.pool.dry) now) (ap is_lack is)
  dry-step (reads_none object word live held asks holds past is now) = quiet (ap (λ (t : State). t.pool.dry) now) (ap is_lack is)
  dry-step (reads_not object word asks none is now) = quiet (ap (λ (t : State). t.pool.dry) now) (ap is_lack is)
  dry-step (pokes object offset byte held slabs asks knows checked inside is now) = quiet (ap (λ (t : State). t.pool.dry) now) (ap is_lack is)
  dry-step (pokes_not object offset byte asks why now) = quiet (ap (λ (t : State). t.pool.dry) now) (elim why [
    | inl is ↦ ap is_lack is
    | inr rest ↦ elim rest [ inl is ↦ ap is_lack is | inr is ↦ ap is_lack is ]
  ])
  dry-step (trims place cache slabs asks names unchecked is kept same_slabs) = quiet kept.dry (ap is_lack is)
  dry-step (trims_checked place cache slabs asks names checked is now) = quiet (ap (λ (t : State). t.pool.dry) now) (ap is_lack is)
  dry-step (trims_none place asks none is now) = quiet (ap (λ (t : State). t.pool.dry) now) (ap is_lack is)
  dry-step (flushes slabs asks is kept same_slabs) = quiet kept.dry (ap is_lack is)
