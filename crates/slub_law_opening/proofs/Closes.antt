-- There are lists into which a coherent machine closes.
use Rattle.std.proofs.Common.{◌≡◌, ℕ, zero, suc, ◌*◌, ◌^◌, ◌<◌, ◌≤◌, eqb, List, get_or, replicate, None, inl, inr, refl, ap, sym, ◌∙◌, subst, arith}
use Rattle.std.specs.Prelude.{nat_lt, All, IfSome}
use Rattle.std.proofs.lemmas.Bool.{cases_eq, cases_lt, cond-true, cond-false, eq-eqb, ne_eqb, le-ltb}
use Rattle.std.proofs.lemmas.List.{get_or_past, length-replicate}
use Rattle.std.proofs.lemmas.List.FromFn.{length-map-range_with_len}
use Rattle.slub_lists.specs.State.{State}
use Rattle.slub_lists.specs.Alloc.{cache_of, checked_of}
use Rattle.slub_lists.specs.Coherent.{IsAccounted}
use Rattle.slub_core.specs.Setup.{Setup, node_lock}
use Rattle.slub_core.specs.Words.{word_count, board_in}
use Rattle.slub_core.specs.Run.{System}
use Rattle.slub_core.specs.World.{World, LockValue, world_of, world_from, word_in, board_words}
use Rattle.slub_core.specs.Coherent.{Stands}
use Rattle.slub_core.specs.Law.{IsCoherentSystem}
use Rattle.slub_core.proofs.StepWords.{setup_of as core_setup_of, value_of as core_value_of}
use Rattle.slub_law_opening.specs.Opening.{Beside, setup_of}
use Rattle.slub_law_opening.specs.Rests.{IsBetween, Rests, times_named}
use Rattle.slub_law_opening.specs.Closing.{HasLengths, Closes, MayClose, checked_in}
use Rattle.slub_law_opening.specs.Laws.{MayOpen, MachinesClose}
use Rattle.slub_law_opening.proofs.Counts.{locals_of}
use Rattle.slub_law_opening.proofs.Made.{IsCut, made, made_beside, checked-at, stays, made-rests, made-lengths, made-live}
use Rattle.slub_law_opening.proofs.Once.{named-once}

-- past its bounds a table of words has nothing
table-cut : (m : Setup) (value : ℕ → LockValue) (words : List ℕ) → IsCut (world_of m value words)
unfolding world_of world_from board_words word_in board_in
table-cut m value words = record {
  zero = refl;
  board = λ o past. elim (cases_eq o 0) [
    | inl z ↦ ap board_in (cond-true (eqb o 0) 0 _ (eq-eqb o 0 z))
    | inr d ↦ ap board_in (cond-false (eqb o 0) 0 _ (ne_eqb o 0 d) ∙ cond-false (nat_lt o m.objects) _ 0 (le-ltb o m.objects past))
  ];
  memory = λ p past. cond-false (nat_lt p (512 * m.frames)) _ 0 (le-ltb p (512 * m.frames) past);
}

module _ (s : State) (b : Beside) (opening : World) (system : System) (may : MayOpen s b) (standing : IsCoherentSystem (setup_of s b) opening system) (close : MayClose s b system) where
  its-setup : (world_of (setup_of s b) system.value system.words).setup ≡ setup_of s b
  its-setup = core_setup_of (setup_of s b) system.value system.words

  its-value : (world_of (setup_of s b) system.value system.words).value ≡ system.value
  its-value = core_value_of (setup_of s b) system.value system.words

  all-stand : Stands (world_of (setup_of s b) system.value system.words) standing.workers
  all-stand = record { chains = standing.chains; placed = standing.coherent.placed; listed = standing.coherent.listed; fresh = standing.coherent.fresh }

  between-here : All (IsBetween (world_of (setup_of s b) system.value system.words).setup) (locals_of standing.workers)
  between-here = subst (λ m. All (IsBetween m) (locals_of standing.workers)) (sym its-setup) (subst (λ ls. All (IsBetween (setup_of s b)) ls) (sym standing.locals) close.between)

  named-here : (o : ℕ) → times_named (world_of (setup_of s b) system.value system.words) (locals_of standing.workers) o ≤ 1
  named-here = named-once opening (world_of (setup_of s b) system.value system.words) standing.workers standing.coherent.accounted

  lists : State
  lists = made s (world_of (setup_of s b) system.value system.words) standing.chains (locals_of standing.workers)

  ids : Beside
  ids = made_beside s b (world_of (setup_of s b) system.value system.words)

  same-setup : setup_of s b ≡ setup_of lists ids
  unfolding lists ids all-stand
  same-setup = stays s b (world_of (setup_of s b) system.value system.words) standing.workers may.coherent may.beside its-setup all-stand (table-cut (setup_of s b) system.value system.words) between-here named-here close.idle

  rest-here : Rests lists ids (world_of (setup_of s b) system.value system.words) (locals_of standing.workers)
  unfolding lists ids all-stand
  rest-here = made-rests s b (world_of (setup_of s b) system.value system.words) standing.workers may.coherent may.beside its-setup all-stand (table-cut (setup_of s b) system.value system.words) between-here named-here close.idle

  lengths-here : HasLengths lists
  unfolding lists all-stand
  lengths-here = made-lengths s b (world_of (setup_of s b) system.value system.words) standing.workers may.coherent may.beside its-setup all-stand (table-cut (setup_of s b) system.value system.words) between-here named-here close.idle

  live-here : IsAccounted lists
  unfolding lists all-stand
  live-here = made-live s b (world_of (setup_of s b) system.value system.words) standing.workers may.coherent may.beside its-setup all-stand (table-cut (setup_of s b) system.value system.words) between-here named-here close.idle

  flags-here : (k : ℕ) → IfSome (checked_of lists k) (λ slabs. IfSome (cache_of s k) (λ live. live.flags ≡ slabs.flags))
  unfolding lists all-stand
  flags-here k = elim (cases_lt k 32) [
    | inl l ↦ (
        let e : checked_of lists k ≡ checked_in (system.value (node_lock k)) =
        checked-at s b (world_of (setup_of s b) system.value system.words) standing.workers may.coherent may.beside its-setup all-stand (table-cut (setup_of s b) system.value system.words) between-here named-here close.idle k l
        ∙ ap (λ (value : ℕ → LockValue). checked_in (value (suc k))) its-value ∙ ap (λ n. checked_in (system.value n)) (let q : suc k ≡ node_lock k = omega arith in q) in
        subst (λ o. IfSome o (λ slabs. IfSome (cache_of s k) (λ live. live.flags ≡ slabs.flags))) (sym e) (close.flags k))
    | inr g ↦ subst (λ o. IfSome o (λ slabs. IfSome (cache_of s k) (λ live. live.flags ≡ slabs.flags))) (sym (get_or_past lists.checked k None (let c = lengths-here.checked in omega arith))) tt
  ]

  closing : Closes s b system lists ids
  unfolding lists ids made made_beside
  closing = record {
    stays = sym same-setup;
    table = refl;
    lengths = lengths-here;
    rests = record {
      count = standing.words ∙ ap word_count same-setup;
      rests = subst (λ ls. Rests lists ids (world_of (setup_of lists ids) system.value system.words) ls) standing.locals (subst (λ m. Rests lists ids (world_of m system.value system.words) (locals_of standing.workers)) same-setup rest-here);
    };
    tids = length-map-range_with_len (λ n. ((world_of (setup_of s b) system.value system.words).cpu n).tid) 0 512;
    links = length-replicate s.frames 0;
    link = λ f. subst (λ x. x < 2 ^ 16) (sym (all-zero s.frames f)) (omega arith);
    live = live-here;
    flags = flags-here;
  }
    where
      all-zero : (n f : ℕ) → get_or {A = ℕ} (replicate n 0) f 0 ≡ 0
      all-zero zero f = refl
      all-zero (suc n) zero = refl
      all-zero (suc n) (suc f) = all-zero n f

  pub closes-so : (t : State) × (d : Beside) × Closes s b system t d
  closes-so = (lists, ids, closing)

pub machines-close : MachinesClose
machines-close s b opening system may standing close = closes-so s b opening system may standing close
