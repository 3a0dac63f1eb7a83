-- Where all workers are back and finished, the table has the machine that a run leads to.
use Rattle.std.proofs.Common.{◌≡◌, ℕ, zero, suc, ◌+◌, ◌<◌, Bool, false, List, [], ◌∷◌, length, get_or, refl, sym, ap, ◌∙◌, subst, arith}
use Rattle.std.specs.Prelude.{Contains}
use mathlib.Core.Option.{some, some-injective, some-ne-none}
use lib.ListN.{get_elem?}
use Rattle.atomic_table.specs.Table.{Final, Seen}
use Rattle.slub_core.specs.Local.{Local}
use Rattle.slub_core.specs.Facts.{Facts}
use Rattle.slub_core.specs.declared.guarded.Guarded.{Guarded}
use Rattle.slub_core.specs.declared.guarded.Guarded.TheVariants.{Nothing}
use Rattle.slub_schedule.specs.Table.{WordTable}
use Rattle.slub_turns.specs.System.{system_of}
use Rattle.slub_turns.specs.Ready.{IsReady}
use Rattle.slub_workers.specs.Begun.{Begun}
use Rattle.slub_workers.specs.Cells.{by_number}
use Rattle.slub_workers.specs.Locks.{locks_of}
use Rattle.slub_workers.specs.Standing.{Standing, Fork, branch, branches, locals_of}
use Rattle.slub_workers.specs.Rule.{Stands, Holds, Owns, number_in, setup_in, table_in}
use Rattle.slub_workers.specs.Ranks.{AreBack}
use Rattle.slub_workers.specs.Round.{HasClosed}
use Rattle.slub_workers.proofs.Backs.{back_length, back_at, back_between, all_between, refused_in, refused_back, untried_back}
use Rattle.slub_workers.proofs.Branches.{branches_at}
use Rattle.slub_workers.proofs.Opening.{place_or, to_map, has_none}
use Rattle.slub_workers.proofs.StepReady.{many-guards}

-- ---- lists

same_at : {A : Type 0} (xs ys : List A) → length xs ≡ length ys → ((k : ℕ) (x : A) → get_elem? xs k ≡ some x → get_elem? ys k ≡ some x) → xs ≡ ys
same_at [] [] e s = refl
same_at [] (y ∷ ys) e s = absurd (omega arith)
same_at (x ∷ xs) [] e s = absurd (omega arith)
same_at (x ∷ xs) (y ∷ ys) e s =
    let h = some-injective y x (s 0 x refl) in
    let t = same_at xs ys (omega arith) (λ k z at. s (suc k) z at) in
    λ i. sym h i ∷ t i

same_or : {A : Type 0} (xs ys : List A) (d : A) → length xs ≡ length ys → ((k : ℕ) → k < length xs → get_or xs k d ≡ get_or ys k d) → xs ≡ ys
same_or [] [] d e s = refl
same_or [] (y ∷ ys) d e s = absurd (omega arith)
same_or (x ∷ xs) [] d e s = absurd (omega arith)
same_or (x ∷ xs) (y ∷ ys) d e s =
    let h = s 0 (omega arith) in
    let t = same_or xs ys d (omega arith) (λ k low. s (suc k) (omega arith)) in
    λ i. h i ∷ t i

-- ---- the first seat's workers are all

owns_at : (owner : ℕ → ℕ) (fs : List Fork) (id : ℕ) (v : List Fork) (k : ℕ) (f : Fork) → Owns owner fs id v → get_elem? v k ≡ some f → get_elem? fs (number_in f) ≡ some f
owns_at owner fs id [] k f o at = absurd (some-ne-none f (sym at))
owns_at owner fs id (x ∷ v) zero f o at = subst (λ (y : Fork). get_elem? fs (number_in y) ≡ some y) (some-injective x f at) o.0
owns_at owner fs id (x ∷ v) (suc k) f o at = owns_at owner fs id v k f o.3 at

module _ (t : Bool) (key : Begun) (id : ℕ) (v : List Fork) (locals : List Local) (words : List ℕ) (xs : List Guarded) (back : AreBack t 0 v locals) (count : length locals ≡ length key.locals)
    (final : Final (Seen (Holds key) id v) words xs) where
  holds : Holds key final.0
  holds = final.1.0

  -- whether memory was refused to it or not, a worker has its number
  numbered : (k : ℕ) (f : Fork) → get_elem? v k ≡ some f → number_in f ≡ k
  numbered k f at =
      let b = back_at t 0 v locals k f back at in
      let there = owns_at holds.owner holds.forks id v k f (holds.tied id v final.1.1) at in
      let stands = holds.stand (λ _. b.1.refused) in
      let x = branch b.1.refused f in
      let number : x.local.worker ≡ number_in f = stands.numbers (number_in f) x (branches_at (number_in f) (λ _. b.1.refused) holds.forks f there) in
      let is : x.local.worker ≡ 0 + k = ap (λ (l : Local). l.worker) (sym b.1.stands) ∙ b.1.number in
      omega arith

  all_of : v ≡ holds.forks
  all_of =
      let n = back_length t 0 v locals back in
      let m = holds.count in
      same_at v holds.forks (omega arith) (λ k f at. subst (λ (i : ℕ). get_elem? holds.forks i ≡ some f) (numbered k f at) (owns_at holds.owner holds.forks id v k f (holds.tied id v final.1.1) at))

  abbrev refused : ℕ → Bool
  refused = refused_in t 0 v locals back 0 false

  abbrev workers : List Standing
  workers = branches refused holds.forks

  stand : Stands key (by_number final.0.words) final.0.homes workers
  stand = holds.stand refused

  locals_are : locals_of workers ≡ locals
  locals_are = ap (λ (fs : List Fork). locals_of (branches refused fs)) (sym all_of) ∙ refused_back t 0 0 v locals back false

  -- none of them has a lock
  no_lock : (lock k : ℕ) (x : Standing) → get_elem? workers k ≡ some x → ¬ Contains (locks_of x.local) lock
  no_lock lock k x at has =
      let there : get_elem? locals k ≡ some x.local = ap (λ (ls : List Local). get_elem? ls k) (sym locals_are) ∙ to_map (λ (y : Standing). y.local) workers k x at in
      has_none x.local lock (back_between t 0 v locals k x.local back there) has

  -- nor has one tried
  untried : t ≡ false → (k : ℕ) (x : Standing) → get_elem? workers k ≡ some x → x.tried ≡ false
  untried none k x at = untried_back t 0 0 v locals back false k x (ap (λ (fs : List Fork). get_elem? (branches refused fs) k) all_of ∙ at) none

  many : length stand.guards ≡ 33
  many = many-guards (setup_in key) stand.guards stand.ready.full

  guards_are : length xs ≡ 33 → stand.guards ≡ xs
  guards_are slots =
      let n = many in
      same_or stand.guards xs Nothing (omega arith) (λ k low.
      let g = get_or stand.guards k Nothing in
      let home : get_elem? final.0.homes k ≡ some (some g) = stand.home k (omega arith) (no_lock k) in
      sym (place_or xs k g Nothing (final.4 k g home)))

  pub ends : (facts : Facts) (table : WordTable) → length xs ≡ 33 → facts ≡ key.facts → table ≡ table_in key (by_number words) → HasClosed key t record { facts = facts; table = table; guards = xs; locals = locals }
  ends facts table slots facts_is table_is =
      let g = guards_are slots in
      let e : table_in key (by_number final.0.words) ≡ table = ap (λ (w : List ℕ). table_in key (by_number w)) final.2 ∙ sym table_is in
      record {
        facts = facts_is;
        ready = subst (λ (y : (Facts × WordTable) × (List Guarded × List Local)). IsReady y.0.0 y.0.1 y.1.0 y.1.1) (λ i. ((sym facts_is i, e i), (g i, locals_are i))) stand.ready;
        picks = stand.picks;
        calls = λ none. stand.calls (untried none);
        ran = sym (stand.ran ∙ (λ i. system_of (e i) (g i) (locals_are i)));
        between = all_between t 0 v locals back;
      }
