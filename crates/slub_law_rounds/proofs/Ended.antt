-- What is so of a round whose workers have all their replies, and what they hold.
use Rattle.std.proofs.Common.{◌≡◌, ℕ, suc, ◌&&◌, eqb, Bool, true, false, cond, if◌then◌else◌, List, [], ◌∷◌, length, map, refl, sym, ap, ◌∙◌, arith, All, Option, Some, None}
use Rattle.std.specs.Option.{option_map, option_or}
use Rattle.std.proofs.lemmas.Bool.{eqb-true}
use Rattle.std.proofs.lemmas.List.Elements.{All-head, All-tail}
use Rattle.std.proofs.lemmas.List.Sums.{sum_by-cons}
use Rattle.slub_trace.specs.declared.event.Round.{Round}
use Rattle.slub_words.specs.declared.board.BoardWord.{BoardWord}
use Rattle.slub_lists.specs.declared.lists.Held.{Held}
use Rattle.slub_lists.specs.State.{State}
use Rattle.slub_lists.specs.Coherent.{held_under, laid_down}
use Rattle.slub_core.specs.declared.local.Known.{Known}
use Rattle.slub_core.specs.declared.local.Answered.{Answered as Done}
use Rattle.slub_core.specs.Local.{Local}
use Rattle.slub_core.specs.World.{World, pool_of, one_if}
use Rattle.slub_core.specs.Accounted.{AreDistinct, known_of, place_of}
use Rattle.slub_core.specs.Replies.{holding}
use Rattle.slub_core.specs.Round.{IsRoundOnWords, held_over}
use Rattle.slub_schedule.specs.Finished.{HoldsAsTold}
use Rattle.slub_schedule.specs.Closed.{held_by, or_held, word_of}
use Rattle.slub_schedule.proofs.Closed.{held_count}
use Rattle.slub_schedule.proofs.Finished.{Counted}
use Rattle.slub_law_opening.specs.Opening.{Beside, board_word, setup_of}
use Rattle.slub_law_opening.specs.Rests.{held_among, held_in, held_on, named}
use Rattle.slub_calls.specs.Calls.{workers_of}

-- the words and the workers after a round, the words before it, and the lists before and after
pub record Ended (s : State) (b : Beside) (round : Round) (opening w : World) (ls : List Local) (lists : State) : Type 0 where
  pub board : (o : ℕ) → opening.board o ≡ option_map board_word (held_under s o)
  pub law : IsRoundOnWords (setup_of s b) opening w (map (λ (l : Local). l.todo) (workers_of s.table round)) (map (λ (l : Local). l.done) ls)
  pub setup : w.setup ≡ setup_of s b
  pub counted : Counted opening w ls
  pub distinct : All (λ (l : Local). AreDistinct l.known) ls
  pub names : (o : ℕ) → held_under lists o ≡ named w ls o
  pub pool : pool_of opening ≡ s.pool
  pub left : pool_of w ≡ lists.pool

-- ---- what a worker holds under a number

-- where a number has no place, nothing is held under it
absent : (worker o : ℕ) (ks : List Known) → place_of ks o ≡ length ks → held_in worker ks o ≡ None
absent worker o [] past = refl
absent worker o (k ∷ ks) past = by (eqb k.object o) refl (absent worker o ks)
  where
    by : (same : Bool) → eqb k.object o ≡ same → (place_of ks o ≡ length ks → held_in worker ks o ≡ None) → held_in worker (k ∷ ks) o ≡ None
    by true is again = absurd (let e : cond (eqb k.object o) 0 (suc (place_of ks o)) ≡ 0 = rw is refl in let p : cond (eqb k.object o) 0 (suc (place_of ks o)) ≡ suc (length ks) = past in omega (arith, e, p))
    by false is again =
        let e : suc (place_of ks o) ≡ suc (length ks) = rw is at past in
        rw is (both k.held ∙ again (omega (arith, e)))
      where
        both : (held : Bool) → cond (held && false) (Some (record { frame = k.frame; index = k.index; cache = k.cache; worker = Some worker })) (held_in worker ks o) ≡ held_in worker ks o
        both true = refl
        both false = refl

-- by place and by number it is the same
abbrev held_known : ℕ → Known → Option Held
held_known worker k = cond k.held (Some (record { frame = k.frame; index = k.index; cache = k.cache; worker = Some worker })) None

held-known : (worker o : ℕ) (ks : List Known) → AreDistinct ks → held_in worker ks o ≡ held_known worker (known_of ks o)
held-known worker o [] distinct = refl
held-known worker o (k ∷ ks) distinct = by (eqb k.object o) refl (held-known worker o ks distinct.1)
  where
    by : (same : Bool) → eqb k.object o ≡ same → held_in worker ks o ≡ held_known worker (known_of ks o) → held_in worker (k ∷ ks) o ≡ held_known worker (known_of (k ∷ ks) o)
    by true is again =
        let mine : known_of (k ∷ ks) o ≡ k = rw is refl in
        let none : held_in worker ks o ≡ None = absent worker o ks (ap (place_of ks) (sym (eqb-true k.object o is)) ∙ distinct.0) in
        rw is (both k.held none) ∙ ap (held_known worker) (sym mine)
      where
        both : (held : Bool) → held_in worker ks o ≡ None → cond (held && true) (Some (record { frame = k.frame; index = k.index; cache = k.cache; worker = Some worker })) (held_in worker ks o)
            ≡ cond held (Some (record { frame = k.frame; index = k.index; cache = k.cache; worker = Some worker })) None
        both true none = refl
        both false none = none
    by false is again =
        let other : known_of (k ∷ ks) o ≡ known_of ks o = rw is refl in
        rw is (both k.held ∙ again) ∙ ap (held_known worker) (sym other)
      where
        both : (held : Bool) → cond (held && false) (Some (record { frame = k.frame; index = k.index; cache = k.cache; worker = Some worker })) (held_in worker ks o) ≡ held_in worker ks o
        both true = refl
        both false = refl

among-by : (o : ℕ) (ls : List Local) → All (λ (l : Local). AreDistinct l.known) ls → option_map laid_down (held_among ls o) ≡ option_map held_on (held_by ls o)
among-by o [] distinct = refl
among-by o (l ∷ ls) distinct =
    ap (λ x. option_map laid_down (option_or x (held_among ls o))) (held-known l.worker o l.known (All-head (λ (l : Local). AreDistinct l.known) l ls distinct))
    ∙ by (known_of l.known o) (known_of l.known o).held (among-by o ls (All-tail (λ (l : Local). AreDistinct l.known) l ls distinct))
  where
    by : (k : Known) (held : Bool) → option_map laid_down (held_among ls o) ≡ option_map held_on (held_by ls o)
        → option_map laid_down (option_or (cond held (Some (record { frame = k.frame; index = k.index; cache = k.cache; worker = Some l.worker })) None) (held_among ls o)) ≡ option_map held_on (if held then Some (word_of k) else held_by ls o)
    by k true rest = refl
    by k false rest = rest

-- on the board once it is closed is what was on it and what a worker holds
pub closed-names : (w : World) (ls : List Local) (o : ℕ) → All (λ (l : Local). AreDistinct l.known) ls → option_map laid_down (named w ls o) ≡ option_map held_on (or_held (w.board o) (held_by ls o))
closed-names w ls o distinct = by (w.board o)
  where
    by : (x : Option BoardWord) → option_map laid_down (option_or (option_map held_on x) (held_among ls o)) ≡ option_map held_on (or_held x (held_by ls o))
    by None = among-by o ls distinct
    by (Some b) = refl

-- ---- how many hold a number

pub held-over : (before : ℕ → Option BoardWord) (w : World) (o : ℕ) (ls : List Local) → All (HoldsAsTold before w) ls → held_count o ls ≡ held_over o (map (λ (l : Local). l.done) ls)
held-over before w o [] all = refl
held-over before w o (l ∷ ls) all =
    let first : one_if (known_of l.known o).held ≡ one_if (holding l.done o) = ap one_if ((All-head (HoldsAsTold before w) l ls all).held o) in
    let rest = held-over before w o ls (All-tail (HoldsAsTold before w) l ls all) in
    omega (arith, first, rest, sum_by-cons (λ (l : Local). one_if (known_of l.known o).held) l ls, sum_by-cons (λ (ds : List Done). one_if (holding ds o)) l.done (map (λ (l : Local). l.done) ls))
