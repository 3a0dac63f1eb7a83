-- Kind 7: an object is taken from the board, where it is there.
use Rattle.std.proofs.Common.{◌≡◌, ℕ, ◌+◌, ◌⊎◌, true, Option, Some, None, List, ◌∷◌, length, get_or, set, refl, sym, ap, ◌∙◌, arith, inl, inr}
use Rattle.std.specs.Prelude.{All}
use Rattle.std.proofs.lemmas.Bool.{cases_Bool, false≢true}
use Rattle.std.proofs.lemmas.List.{length-set}
use Rattle.std.proofs.lemmas.List.Elements.{All-head}
use Rattle.slub_words.specs.declared.board.BoardWord.{BoardWord}
use Rattle.slub_core.specs.declared.call.CallKind.TheVariants.{Free}
use Rattle.slub_core.specs.declared.local.Known.{Known}
use Rattle.slub_core.specs.declared.spot.Spot.TheVariants.{Between, InFree, InChecked}
use Rattle.slub_core.specs.declared.spot.FreeSpot.TheVariants.{TakeBoard, LoadOwn}
use Rattle.slub_core.specs.declared.spot.CheckedSpot.TheVariants.{LockChecked}
use Rattle.slub_core.specs.Setup.{IsPlain, IsChecked}
use Rattle.slub_core.specs.World.{World, set_board, on_board, is_at, one_if, cache_at}
use Rattle.slub_core.specs.Local.{Local, Worker, here, gets, nobody, at}
use Rattle.slub_core.specs.Free.{board_taken}
use Rattle.slub_core.specs.Placed.{owned}
use Rattle.slub_core.specs.Listed.{marked_of, takes}
use Rattle.slub_core.specs.Fresh.{IsAtWork}
use Rattle.slub_core.specs.Coherent.{Stands}
use Rattle.slub_core.proofs.BoardStep.{board_step}
use Rattle.slub_core.proofs.Knowns.{held-gets, here-set, known-set}
use Rattle.slub_core.proofs.LocalStep.{Settled}
use Rattle.slub_core.proofs.Locks.{ComesTo}
use Rattle.slub_core.proofs.StepValues.{object-within, cache-live}
use Rattle.slub_core.proofs.ValueStep.{board-object}

-- the object of a board word, as the worker then knows it
abbrev pub known_from : Local → BoardWord → Known
known_from l b = record { object = (here l).object; frame = b.frame; index = b.index; cache = b.cache; held = true }

none-work : (w : World) (x : Worker) (n : ℕ) → x.local.spot ≡ InFree TakeBoard → IsAtWork w x → IsAtWork (set_board w n None) (record x { local = at x.local Between })
none-work w x n is ok = grind arith

plain-work : (w : World) (x : Worker) (n : ℕ) (b : BoardWord) → x.local.spot ≡ InFree TakeBoard → IsPlain w.setup b.cache → length (set x.local.known x.local.place (known_from x.local b)) ≡ length x.local.known
    → get_or (set x.local.known x.local.place (known_from x.local b)) x.local.place nobody ≡ known_from x.local b
    → All (λ (k : Known). k.held ≡ true → k.cache ≡ cache_at w k.frame) (set x.local.known x.local.place (known_from x.local b)) → IsAtWork w x
    → IsAtWork (set_board w n None) (record x { local = record (gets x.local b.cache b.frame b.index) { cache = b.cache; spot = InFree LoadOwn } })
plain-work w x n b is plain same now caches ok = grind arith

checked-work : (w : World) (x : Worker) (n : ℕ) (b : BoardWord) → x.local.spot ≡ InFree TakeBoard → IsChecked w.setup b.cache → length (set x.local.known x.local.place (known_from x.local b)) ≡ length x.local.known
    → get_or (set x.local.known x.local.place (known_from x.local b)) x.local.place nobody ≡ known_from x.local b
    → All (λ (k : Known). k.held ≡ true → k.cache ≡ cache_at w k.frame) (set x.local.known x.local.place (known_from x.local b)) → IsAtWork w x
    → IsAtWork (set_board w n None) (record x { local = record (gets x.local b.cache b.frame b.index) { cache = b.cache; spot = InChecked LockChecked Free } })
checked-work w x n b is checked same now caches ok = grind arith

settled-set : (x : Worker) (l : Local) → l.hands ≡ x.local.hands → l.run ≡ x.local.run → ((f : ℕ) → marked_of f (record x { local = l }) ≡ 0) → ((n : ℕ) → takes n (record x { local = l }) ≡ 0) → ((f : ℕ) → marked_of f x ≡ 0) → ((n : ℕ) → takes n x ≡ 0) → Settled x (record x { local = l })
settled-set x l hands run marks locks was had = record {
  home = λ f. rw hands refl;
  marked = λ f. marks f ∙ sym (was f);
  covered = λ g. rw run refl;
  takes = λ n. locks n ∙ sym (had n);
}

pub at_TakeBoard : (w : World) (x : Worker) (others : List Worker) → x.local.spot ≡ InFree TakeBoard → Stands w (x ∷ others)
    → ComesTo (set_board w (here x.local).object None) others (board_taken w.setup x.local (w.board (here x.local).object)).local
at_TakeBoard w x others is s = by_word (w.board (here x.local).object) refl
  where
    ok : IsAtWork w x
    ok = All-head (IsAtWork w) x others s.fresh.workers

    n : ℕ
    n = (here x.local).object

    by_word : (b : Option BoardWord) → w.board (here x.local).object ≡ b → ComesTo (set_board w (here x.local).object None) others (board_taken w.setup x.local b).local
    by_word None e = (
      record x { local = at x.local Between },
      refl,
      board_step w x _ others n s ok.spot.number (λ f i. let z : on_board (w.board n) f i ≡ 0 = ap (λ b. on_board b f i) e in omega arith)
          (settled-set x _ refl refl (λ f. refl) (λ n. refl) (λ f. rw is refl) (λ n. rw is refl))
          (none-work w x n is ok),
    )
    by_word (Some b) e =
        let room = ok.spot.awaits (rw is refl) in
        let owner = s.listed.shaped.board n b ok.spot.number e in
        let there = object-within w b.frame b.index (board-object w x others s n b ok.spot.number e) in
        let lives : IsPlain w.setup b.cache ⊎ IsChecked w.setup b.cache = rw owner (cache-live w s.chains b.frame s.listed.shaped s.fresh.setup.live (omega arith)) in
        let same = length-set x.local.known x.local.place (known_from x.local b) in
        let now = here-set x.local (known_from x.local b) room.0 in
        let caches = known-set w x.local.known x.local.place (known_from x.local b) (λ _. owner) ok.seen.known in
        let moved : (f i : ℕ) → owned f i (record x { local = gets x.local b.cache b.frame b.index }) ≡ owned f i x + on_board (w.board n) f i
        = λ f i.
        let z : on_board (w.board n) f i ≡ one_if (is_at b.frame b.index f i) = ap (λ b. on_board b f i) e in
        let g = held-gets f i x.local b.cache b.frame b.index room.0 room.1 in
        omega arith in
        elim (cases_Bool (w.setup.checks b.cache)) [
          | inl c ↦
              let checked : IsChecked w.setup b.cache = elim lives [ inl p ↦ absurd (false≢true (sym p.2 ∙ c)) | inr q ↦ q ] in (
                record x { local = record (gets x.local b.cache b.frame b.index) { cache = b.cache; spot = InChecked LockChecked Free } },
                rw c refl,
                board_step w x _ others n s ok.spot.number moved
                    (settled-set x _ refl refl (λ f. refl) (λ n. refl) (λ f. rw is refl) (λ n. rw is refl))
                    (checked-work w x n b is checked same now caches ok),
              )
          | inr c ↦
              let plain : IsPlain w.setup b.cache = elim lives [ inl p ↦ p | inr q ↦ absurd (false≢true (sym c ∙ q.2)) ] in (
                record x { local = record (gets x.local b.cache b.frame b.index) { cache = b.cache; spot = InFree LoadOwn } },
                rw c refl,
                board_step w x _ others n s ok.spot.number moved
                    (settled-set x _ refl refl (λ f. refl) (λ n. refl) (λ f. rw is refl) (λ n. rw is refl))
                    (plain-work w x n b is plain same now caches ok),
              )
        ]
