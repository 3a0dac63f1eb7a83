-- What the lists note as freed by a worker is what the worker knows: it is kept by each act.
use Rattle.std.proofs.Common.{◌≡◌, ◌≢◌, ℕ, ◌+◌, ◌<◌, ◌≤◌, cond, eqb, Bool, true, false, List, ◌∷◌, length, map, get_or, set, Option, Some, None, refl, ap, sym, ◌∙◌, subst, arith, inl, inr}
use Rattle.std.specs.Prelude.{IfSome, MatchOption, is_some}
use Rattle.std.specs.List.{cons_option}
use Rattle.std.specs.Option.{option_and_then, option_map_or}
use Rattle.std.proofs.lemmas.Bool.{cases_eq, cases_lt, eq-eqb, false≢true, ne_eqb}
use Rattle.std.proofs.lemmas.List.{get_or-set_same, get_or-set_other, get_or_past}
use Rattle.slub_common.specs.Times.{times}
use Rattle.slub_trace.specs.declared.event.Event.{Event}
use Rattle.slub_trace.specs.Sound.{allocated, objects_of}
use Rattle.slub_lists.specs.declared.lists.Held.{Held}
use Rattle.slub_lists.specs.declared.lists.Slab.{Slab}
use Rattle.slub_lists.specs.State.{State}
use Rattle.slub_lists.specs.Alloc.{slab_of}
use Rattle.slub_lists.specs.Coherent.{IsConsistent, held_under}
use Rattle.slub_lists.specs.Free.{is_freeable}
use Rattle.slub_lists.specs.Words.{freed_by, own}
use Rattle.slub_lists.proofs.Places.{slab-inside}
use Rattle.slub_core.proofs.Lists.{times-first}
use Rattle.slub_core.proofs.TaleKnowns.{place_of-object}
use Rattle.slub_core.specs.declared.local.Known.{Known}
use Rattle.slub_core.specs.Accounted.{known_of, place_of}
use Rattle.slub_core.specs.Local.{Local, nobody}
use Rattle.slub_core.specs.Run.{System, idle}
use Rattle.slub_core.specs.World.{one_if}
use Rattle.slub_law_alone.specs.Alone.{known_as, known_under, worker_at}
use Rattle.slub_law_alone.specs.CheckedAlone.{held_known}
use Rattle.slub_law_alone.specs.Laws.{may_free}
use Rattle.slub_law_alone.proofs.Gone.{IsFree, IsNoted}
use Rattle.slub_law_alone.proofs.Gone.IsFree.{gone, kept, nothing}
use Rattle.slub_law_alone.proofs.Memory.{set-none}
use Rattle.slub_law_alone.proofs.Scripts.{place-in, place_in}

-- ---- what is so between two events

-- an object that the worker knows and doesn't hold, as the lists note it
abbrev pub gone_as : ℕ → Known → Option Held
gone_as x k = cond (eqb k.frame 0) None (Some (held_known x k))

abbrev pub KnowsGone : State → ℕ → ℕ → Known → Type 0
KnowsGone s x o k = k.held ≡ false → freed_by s x o ≡ gone_as x k

abbrev pub there_is : Option Held → ℕ
there_is o = cond (is_some o) 1 0

abbrev pub gone_under : State → ℕ → Option Held
gone_under s o = get_or s.gone o None

-- a number is held, or noted as freed, or one of the events to come allocates it, and once
pub record IsKnown (workers : ℕ) (events : List Event) (s : State) (system : System) : Type 0 where
  pub knows : (x : ℕ) → x < workers → (o : ℕ) → KnowsGone s x o (known_of (worker_at system x).known o)
  pub once : (o : ℕ) → there_is (held_under s o) + there_is (gone_under s o) + times o (objects_of events) ≤ 1

fewer : (o : ℕ) (a : Option ℕ) (xs : List ℕ) → times o xs ≤ times o (cons_option a xs)
fewer o None xs = omega arith
fewer o (Some y) xs = let first = times-first o y xs in omega (arith, first)

fewer-times : (o : ℕ) (event : Event) (events : List Event) → times o (objects_of events) ≤ times o (objects_of (event ∷ events))
fewer-times o event events = fewer o (allocated event.act) (objects_of events)

-- an event changed nothing
pub fewer-known : (workers : ℕ) (event : Event) (events : List Event) (s : State) (system : System) → IsKnown workers (event ∷ events) s system → IsKnown workers events s system
fewer-known workers event events s system is = record { knows = is.knows; once = λ o. let few = is.once o in let less = fewer-times o event events in omega (arith, few, less) }

-- ---- options and lists

none-of : (o : Option Held) → there_is o ≤ 0 → o ≡ None
none-of None e = refl
none-of (Some h) e = absurd (omega (arith, e))

most-one : (o : Option Held) → there_is o ≤ 1
most-one None = omega arith
most-one (Some h) = omega arith

inside-of : (xs : List (Option Held)) (i : ℕ) (h : Held) → get_or xs i None ≡ Some h → i < length xs
inside-of xs i h is = elim (cases_lt i (length xs)) [
  | inl below ↦ below
  | inr past ↦ absurd (let both = sym (get_or_past xs i None past) ∙ is in cc both)
]

-- an object is in no frame before the first slab's
pub held-frame : (s : State) (n : ℕ) (held : Held) → IsConsistent s → held_under s n ≡ Some held → eqb held.frame 0 ≡ false
held-frame s n held consistent there =
    ne_eqb held.frame 0 (λ none. let above = by (slab_of s held.frame) refl (subst (λ h. IfSome h (λ (held : Held). MatchOption (slab_of s held.frame) ⊥ (λ slab. slab.cache ≡ held.cache))) there (consistent.shaped.held n)) in absurd (omega (arith, above, none)))
  where
    by : (o : Option Slab) → slab_of s held.frame ≡ o → MatchOption o ⊥ (λ slab. slab.cache ≡ held.cache) → 0 < held.frame
    by None e none = absurd none
    by (Some slab) e same = (slab-inside s held.frame slab consistent e).0

-- a place that is written is the place of its number alone
module _ (ks : List Known) (p : ℕ) (k : Known) (rooms : map (λ (k : Known). k.object) (set ks p k) ≡ map (λ (k : Known). k.object) ks) where
  at-place : (o : ℕ) → known_of (set ks p k) o ≡ get_or (set ks p k) (place_of ks o) nobody
  at-place o = ap (λ i. get_or (set ks p k) i nobody) (place-in (set ks p k) o ∙ ap (λ xs. place_in xs o) rooms ∙ sym (place-in ks o))

  module _ (n : ℕ) (below : p < length ks) (place : p ≡ place_of ks n) where
    known-here : known_of (set ks p k) n ≡ k
    known-here = at-place n ∙ ap (λ i. get_or (set ks p k) i nobody) (sym place) ∙ get_or-set_same ks p k nobody below

    known-else : (o : ℕ) → o ≢ n → known_of (set ks p k) o ≡ known_of ks o
    known-else o apart = at-place o ∙ get_or-set_other ks p (place_of ks o) k nobody away
      where
        object-at : (o : ℕ) → p ≡ place_of ks o → (get_or ks p nobody).object ≡ o
        object-at o e = ap (λ i. (get_or ks i nobody).object) e ∙ place_of-object ks o (subst (λ i. i < length ks) e below)

        away : place_of ks o ≢ p
        away e = apart (sym (object-at o (sym e)) ∙ object-at n place)

-- ---- a turn of one worker

module _ (workers : ℕ) (event : Event) (events : List Event) (s mid : State) (system last : System) (x : ℕ) (inside : x < workers) (is : IsKnown workers (event ∷ events) s system) (others : last.locals ≡ set system.locals x (worker_at last x)) where
  other-same : (y : ℕ) → x ≢ y → worker_at last y ≡ worker_at system y
  other-same y apart = ap (λ ls. get_or ls y idle) others ∙ get_or-set_other system.locals x y (worker_at last x) idle (λ e. apart (sym e))

  all-know : ((o : ℕ) → KnowsGone mid x o (known_of (worker_at last x).known o)) → ((y o : ℕ) → x ≢ y → (k : Known) → KnowsGone s y o k → KnowsGone mid y o k)
      → (y : ℕ) → y < workers → (o : ℕ) → KnowsGone mid y o (known_of (worker_at last y).known o)
  all-know mine theirs y below o = elim (cases_eq x y) [
    | inl e ↦ subst (λ y. KnowsGone mid y o (known_of (worker_at last y).known o)) e (mine o)
    | inr apart ↦ theirs y o apart (known_of (worker_at last y).known o) (subst (λ (l : Local). KnowsGone s y o (known_of l.known o)) (sym (other-same y apart)) (is.knows y below o))
  ]

  same-gone : IsNoted s mid → (y o : ℕ) (k : Known) → KnowsGone s y o k → KnowsGone mid y o k
  same-gone noted y o k knows free = ap (λ g. option_and_then (own y) (get_or g o None)) noted ∙ knows free

  -- what it knew
  mine-before : (o : ℕ) → KnowsGone s x o (known_of (worker_at system x).known o)
  mine-before o = is.knows x inside o

  -- nothing is noted, and it knows what it knew
  pub same-known : IsNoted s mid → mid.board ≡ s.board → (worker_at last x).known ≡ (worker_at system x).known → IsKnown workers events mid last
  same-known noted board known = record {
    knows = all-know (λ o. same-gone noted x o (known_of (worker_at last x).known o) (subst (λ ks. KnowsGone s x o (known_of ks o)) (sym known) (mine-before o))) (λ y o apart k. same-gone noted y o k);
    once = λ o.
        let few = is.once o in
        let less = fewer-times o event events in
        let held = ap (λ b. there_is (get_or b o None)) board in
        let gone_too = ap (λ g. there_is (get_or g o None)) noted in
        omega (arith, few, less, held, gone_too);
  }

  module _ (place n : ℕ) (below : place < length (worker_at system x).known) (place_is : place ≡ place_of (worker_at system x).known n) (rooms : map (λ (k : Known). k.object) (worker_at last x).known ≡ map (λ (k : Known). k.object) (worker_at system x).known) where
    abbrev ks : List Known
    ks = (worker_at system x).known

    -- it knows another thing under the number
    written : (k : Known) → (worker_at last x).known ≡ set ks place k → ((o : ℕ) → o ≢ n → KnowsGone s x o (known_of ks o) → KnowsGone mid x o (known_of ks o)) → KnowsGone mid x n k → (o : ℕ) → KnowsGone mid x o (known_of (worker_at last x).known o)
    written k known elsewhere here o =
        let same_rooms = sym (ap (map (λ (k : Known). k.object)) known) ∙ rooms in
        subst (λ ks. KnowsGone mid x o (known_of ks o)) (sym known) (elim (cases_eq o n) [
          | inl e ↦ subst (λ o. KnowsGone mid x o (known_of (set ks place k) o)) (sym e) (subst (KnowsGone mid x n) (sym (known-here ks place k same_rooms n below place_is)) here)
          | inr apart ↦ subst (KnowsGone mid x o) (sym (known-else ks place k same_rooms n below place_is o apart)) (elsewhere o apart (mine-before o))
        ])

    -- ---- an allocation

    module _ (allocates : allocated event.act ≡ Some n) (noted : IsNoted s mid) (board : (o : ℕ) → o ≢ n → held_under mid o ≡ held_under s o) where
      comes : times n (objects_of (event ∷ events)) ≡ 1 + times n (objects_of events)
      comes = ap (λ a. times n (cons_option a (objects_of events))) allocates ∙ times-first n n (objects_of events) ∙ ap (λ b. one_if b + times n (objects_of events)) (eq-eqb n n refl)

      none-gone : gone_under mid n ≡ None
      none-gone = ap (λ g. get_or g n None) noted ∙ none-of (gone_under s n) (let few = is.once n in omega (arith, few, comes))

      here-none : (h : Option Held) → KnowsGone mid x n (option_map_or (known_as n) h nobody)
      here-none None free = ap (option_and_then (own x)) none-gone
      here-none (Some h) free = absurd (false≢true (sym free))

      alloc-once : (o : ℕ) → there_is (held_under mid o) + there_is (gone_under mid o) + times o (objects_of events) ≤ 1
      alloc-once o = elim (cases_eq o n) [
        | inl e ↦ subst (λ o. there_is (held_under mid o) + there_is (gone_under mid o) + times o (objects_of events) ≤ 1) (sym e)
            (let few = is.once n in let most = most-one (held_under mid n) in let none = ap there_is none-gone in omega (arith, few, comes, most, none))
        | inr apart ↦
            let few = is.once o in
            let less = fewer-times o event events in
            let held = ap there_is (board o apart) in
            let gone_too = ap (λ g. there_is (get_or g o None)) noted in
            omega (arith, few, less, held, gone_too)
      ]

      pub alloc-known : (given : Bool) → (worker_at last x).known ≡ cond given (set ks place (known_under mid n)) ks → IsKnown workers events mid last
      alloc-known given known = record { knows = all-know (by given known) (λ y o apart k. same-gone noted y o k); once = alloc-once }
        where
          by : (given : Bool) → (worker_at last x).known ≡ cond given (set ks place (known_under mid n)) ks → (o : ℕ) → KnowsGone mid x o (known_of (worker_at last x).known o)
          by true known o = written (known_under mid n) known (λ o apart. same-gone noted x o (known_of ks o)) (here-none (held_under mid n)) o
          by false known o = same-gone noted x o (known_of (worker_at last x).known o) (subst (λ ks. KnowsGone s x o (known_of ks o)) (sym known) (mine-before o))

    -- ---- a free

    abbrev free_known : State → Known
    free_known t = record (known_under s n) { held = is_some (held_under t n) }

    module _ (consistent : IsConsistent s) (known : (worker_at last x).known ≡ cond (may_free s x n) (set ks place (free_known mid)) ks) where
      module _ (held : Held) (there : held_under s n ≡ Some held) (may : is_freeable x held.worker ≡ true) where
        frees : (worker_at last x).known ≡ set ks place (free_known mid)
        frees = known ∙ ap (λ b. cond b (set ks place (free_known mid)) ks) (ap (λ h. option_map_or (λ (held : Held). is_freeable x held.worker) h false) there ∙ may)

        inside-board : n < length s.board
        inside-board = inside-of s.board n held there

        under-is : known_under s n ≡ known_as n held
        under-is = ap (λ h. option_map_or (known_as n) h nobody) there

        no-gone : gone_under s n ≡ None
        no-gone = none-of (gone_under s n) (let few = is.once n in let one = ap there_is there in omega (arith, few, one))

        none-comes : times n (objects_of events) ≡ 0
        none-comes = let few = is.once n in let one = ap there_is there in let less = fewer-times n event events in omega (arith, few, one, less)

        -- it is the worker's still
        kept-known : mid.gone ≡ s.gone → mid.board ≡ set s.board n (Some (record held { worker = Some x })) → IsKnown workers events mid last
        kept-known noted board = record {
          knows = all-know (written (free_known mid) frees (λ o apart. same-gone noted x o (known_of ks o)) (λ free. absurd (let is_there = now-there in let both = sym is_there ∙ free in false≢true (sym both)))) (λ y o apart k. same-gone noted y o k);
          once = once-kept;
        }
          where
            now-there : is_some (held_under mid n) ≡ true
            now-there = ap (λ b. is_some (get_or b n None)) board ∙ ap (λ (h : Option Held). is_some h) (get_or-set_same s.board n (Some (record held { worker = Some x })) None inside-board)

            once-kept : (o : ℕ) → there_is (held_under mid o) + there_is (gone_under mid o) + times o (objects_of events) ≤ 1
            once-kept o = elim (cases_eq o n) [
              | inl e ↦ subst (λ o. there_is (held_under mid o) + there_is (gone_under mid o) + times o (objects_of events) ≤ 1) (sym e)
                  (let most = most-one (held_under mid n) in let none = ap (λ g. there_is (get_or g n None)) noted ∙ ap there_is no-gone in omega (arith, none-comes, most, none))
              | inr apart ↦
                  let few = is.once o in
                  let less = fewer-times o event events in
                  let held_too = ap (λ b. there_is (get_or b o None)) board ∙ ap there_is (get_or-set_other s.board n o (Some (record held { worker = Some x })) None apart) in
                  let gone_too = ap (λ g. there_is (get_or g o None)) noted in
                  omega (arith, few, less, held_too, gone_too)
            ]

        -- it is noted as freed
        module _ (noted : mid.gone ≡ set s.gone n (Some (record held { worker = Some x }))) (board : mid.board ≡ set s.board n None) where
          gone-other : (o : ℕ) → o ≢ n → gone_under mid o ≡ gone_under s o
          gone-other o apart = ap (λ g. get_or g o None) noted ∙ get_or-set_other s.gone n o (Some (record held { worker = Some x })) None apart

          gone-here : gone_under mid n ≡ Some (record held { worker = Some x })
          gone-here = ap (λ g. get_or g n None) noted ∙ get_or-set_same s.gone n (Some (record held { worker = Some x })) None (let same = consistent.shaped.gone in omega (arith, same, inside-board))

          elsewhere : (y o : ℕ) → o ≢ n → (k : Known) → KnowsGone s y o k → KnowsGone mid y o k
          elsewhere y o apart k knows free = ap (option_and_then (own y)) (gone-other o apart) ∙ knows free

          here-freed : KnowsGone mid x n (free_known mid)
          here-freed free =
              ap (option_and_then (own x)) gone-here ∙ ap (λ b. cond {A = Option Held} b (Some (record held { worker = Some x })) None) (eq-eqb x x refl)
              ∙ sym (ap (λ b. cond {A = Option Held} b None (Some (record held { worker = Some x }))) (held-frame s n held consistent there)) ∙ ap (λ (k : Known). gone_as x k) (sym under-is)

          other-freed : (y o : ℕ) → x ≢ y → (k : Known) → KnowsGone s y o k → KnowsGone mid y o k
          other-freed y o apart k knows = elim (cases_eq o n) [
            | inl e ↦ λ free.
                ap (λ o. freed_by mid y o) e ∙ ap (option_and_then (own y)) gone-here ∙ ap (λ b. cond {A = Option Held} b (Some (record held { worker = Some x })) None) (ne_eqb x y apart)
                ∙ sym (ap (λ o. freed_by s y o) e ∙ ap (option_and_then (own y)) no-gone) ∙ knows free
            | inr away ↦ elsewhere y o away k knows
          ]

          once-freed : (o : ℕ) → there_is (held_under mid o) + there_is (gone_under mid o) + times o (objects_of events) ≤ 1
          once-freed o = elim (cases_eq o n) [
            | inl e ↦ subst (λ o. there_is (held_under mid o) + there_is (gone_under mid o) + times o (objects_of events) ≤ 1) (sym e)
                (let most = most-one (gone_under mid n) in let none = ap (λ b. there_is (get_or b n None)) board ∙ ap there_is (set-none s.board n) in omega (arith, none-comes, most, none))
            | inr apart ↦
                let few = is.once o in
                let less = fewer-times o event events in
                let held_too = ap (λ b. there_is (get_or b o None)) board ∙ ap there_is (get_or-set_other s.board n o None None apart) in
                let gone_too = ap there_is (gone-other o apart) in
                omega (arith, few, less, held_too, gone_too)
          ]

          gone-known : IsKnown workers events mid last
          gone-known = record { knows = all-know (written (free_known mid) frees (λ o apart. elsewhere x o apart (known_of ks o)) here-freed) other-freed; once = once-freed }

      pub free-known : IsFree s x n mid → IsKnown workers events mid last
      free-known (nothing same none) = same-known (ap (λ (t : State). t.gone) same) (ap (λ (t : State). t.board) same)
          (known ∙ ap (λ b. cond b (set ks place (free_known mid)) ks) (by (held_under s n) none))
        where
          by : (h : Option Held) → ((held : Held) → h ≡ Some held → is_freeable x held.worker ≡ false) → option_map_or (λ (held : Held). is_freeable x held.worker) h false ≡ false
          by None none = refl
          by (Some held) none = none held refl
      free-known (kept held there may noted board) = kept-known held there may noted board
      free-known (gone held there may noted board) = gone-known held there may noted board
