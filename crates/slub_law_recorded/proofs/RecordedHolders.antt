-- Who allocated what: in the round that isn't ended by the worker that holds it, or in a round before.
use Rattle.std.proofs.Common.{◌≡◌, ℕ, ◌==◌, Bool, true, false, cond, inl, inr, List, [], ◌∷◌, ◌++◌, refl, sym, ap, subst, ◌∙◌, Option, None, Some, nat_eq, Contains, true≢false}
use Rattle.std.specs.Prelude.{filter, flat_map, if◌then◌else◌}
use Rattle.std.specs.List.{cons_option}
use Rattle.std.specs.Map.{lookup}
use Rattle.std.proofs.lemmas.Bool.{eqb-true, eqb-false, eq-eqb}
use Rattle.std.proofs.lemmas.List.{append-nil}
use Rattle.std.proofs.lemmas.List.Concat.{flat_map-append}
use Rattle.std.proofs.lemmas.List.Elements.{Contains-append_left, Contains-append_right, filter-append, filter_map-append}
use Rattle.indexmap.specs.IndexMap.{insert_entry}
use Rattle.slub_common.proofs.Lists.{Contains-head, Contains-tail, Contains-cons_cases}
use Rattle.slub_recorded.specs.Rounds.{Holders}
use Rattle.slub_trace.specs.declared.event.Event.{Event}
use Rattle.slub_trace.specs.declared.event.Round.{Round as Events}
use Rattle.slub_trace.specs.declared.trace.Item.{Item}
use Rattle.slub_trace.specs.declared.trace.Item.TheVariants.{Round}
use Rattle.slub_trace.specs.Sound.{allocated, objects_in, objects_of}

-- ---- holders

twice : (b : Bool) (x y l : Option ℕ) → cond b x l ≡ cond b x (cond b y l)
twice true x y l = refl
twice false x y l = refl

swapped : (b c : Bool) (x y l : Option ℕ) → (b ≡ true → c ≡ true → ⊥) → cond b y (cond c x l) ≡ cond c x (cond b y l)
swapped true true x y l never = absurd (never refl refl)
swapped true false x y l never = refl
swapped false c x y l never = refl

found_by : (q p : ℕ) (e : ℕ × ℕ) (es : Holders) (w : ℕ) → lookup (nat_eq q) (insert_entry nat_eq es p w) ≡ cond (nat_eq q p) (Some w) (lookup (nat_eq q) es)
    → (b : Bool) → nat_eq p e.0 ≡ b → lookup (nat_eq q) (if b then (e.0, w) ∷ es else e ∷ insert_entry nat_eq es p w) ≡ cond (nat_eq q p) (Some w) (cond (nat_eq q e.0) (Some e.1) (lookup (nat_eq q) es))
found_by q p e es w rest true is =
    let same : e.0 ≡ p = sym (eqb-true p e.0 is) in
    let P : ℕ → Type 0 = λ n. cond (nat_eq q n) (Some w) (lookup (nat_eq q) es) ≡ cond (nat_eq q p) (Some w) (cond (nat_eq q n) (Some e.1) (lookup (nat_eq q) es)) in
    subst P (sym same) (twice (nat_eq q p) (Some w) (Some e.1) (lookup (nat_eq q) es))
found_by q p e es w rest false is =
    ap (λ l. cond (nat_eq q e.0) (Some e.1) l) rest
    ∙ swapped (nat_eq q e.0) (nat_eq q p) (Some w) (Some e.1) (lookup (nat_eq q) es) (λ one other. eqb-false p e.0 is (sym (eqb-true q p other) ∙ eqb-true q e.0 one))

-- who holds an object where one more is held
pub found : (held : Holders) (p q w : ℕ) → lookup (nat_eq q) (insert_entry nat_eq held p w) ≡ cond (nat_eq q p) (Some w) (lookup (nat_eq q) held)
found [] p q w = refl
found (e ∷ es) p q w = found_by q p e es w (found es p q w) (nat_eq p e.0) refl

-- ---- objects of some events

more : (o : Option ℕ) (ys : List ℕ) (n : ℕ) → Contains ys n → Contains (cons_option o ys) n
more None ys n there = there
more (Some x) ys n there = Contains-tail x ys n there

grown : (o : Option ℕ) (xs ys : List ℕ) (n : ℕ) → (Contains xs n → Contains ys n) → Contains (cons_option o xs) n → Contains (cons_option o ys) n
grown None xs ys n rest there = rest there
grown (Some x) xs ys n rest there = elim (Contains-cons_cases x xs n there) [
  | inl same ↦ subst (λ z. Contains (x ∷ ys) z) same (Contains-head x ys)
  | inr later ↦ Contains-tail x ys n (rest later)
]

among_by : (b : Bool) (e : Event) (xs es : List Event) (n : ℕ) → (Contains (objects_of xs) n → Contains (objects_of es) n) → Contains (objects_of (cond b (e ∷ xs) xs)) n → Contains (objects_of (e ∷ es)) n
among_by true e xs es n rest there = grown (allocated e.act) (objects_of xs) (objects_of es) n rest there
among_by false e xs es n rest there = more (allocated e.act) (objects_of es) n (rest there)

-- what some of the events allocate, all do
among : (p : Event → Bool) (es : List Event) (n : ℕ) → Contains (objects_of (filter p es)) n → Contains (objects_of es) n
among p [] n there = there
among p (e ∷ es) n there = among_by (p e) e (filter p es) es n (among p es n) there

-- ---- where an object was allocated

-- the events of a worker
abbrev pub events_of_worker : ℕ → List Event → List Event
events_of_worker worker events = filter (λ event. event.worker == worker) events

-- in the round by its holder, or before the round
abbrev pub IsAt : List Item → List Event → ℕ → Option ℕ → Type 0
IsAt items events object None = Contains (flat_map objects_in items) object
IsAt items events object (Some worker) = Contains (objects_of (events_of_worker worker events)) object

worker_more : (worker : ℕ) (events later : List Event) → objects_of (events_of_worker worker (events ++ later)) ≡ objects_of (events_of_worker worker events) ++ objects_of (events_of_worker worker later)
worker_more worker events later =
    ap objects_of (filter-append (λ (event : Event). event.worker == worker) events later)
    ∙ filter_map-append (λ (event : Event). allocated event.act) (events_of_worker worker events) (events_of_worker worker later)

-- so it is behind more events
pub at_more : (items : List Item) (events later : List Event) (object : ℕ) (holder : Option ℕ) → IsAt items events object holder → IsAt items (events ++ later) object holder
at_more items events later object None at = at
at_more items events later object (Some worker) at =
    subst (λ os. Contains os object) (sym (worker_more worker events later))
    (Contains-append_left (objects_of (events_of_worker worker events)) (objects_of (events_of_worker worker later)) object at)

own : (event : Event) (object : ℕ) → allocated event.act ≡ Some object → (b : Bool) → b ≡ true → Contains (objects_of (cond b (event ∷ []) [])) object
own event object is true same = subst (λ o. Contains (cons_option o []) object) (sym is) (Contains-head object [])
own event object is false same = absurd (true≢false (sym same))

-- the object that the last event allocates
pub at_last : (items : List Item) (events : List Event) (event : Event) (object : ℕ) → allocated event.act ≡ Some object → IsAt items (events ++ event ∷ []) object (Some event.worker)
at_last items events event object is =
    subst (λ os. Contains os object) (sym (worker_more event.worker events (event ∷ [])))
    (Contains-append_right (objects_of (events_of_worker event.worker events)) (objects_of (events_of_worker event.worker (event ∷ []))) object
    (own event object is (event.worker == event.worker) (eq-eqb event.worker event.worker refl)))

-- ---- behind the round

round_objects : (items : List Item) (round : Events) → flat_map objects_in (items ++ Round round ∷ []) ≡ flat_map objects_in items ++ objects_of round.events
round_objects items round = flat_map-append objects_in items (Round round ∷ []) ∙ ap (λ l. flat_map objects_in items ++ l) (append-nil (objects_of round.events))

-- where the round is ended, it was allocated before
pub at_ended : (items : List Item) (round : Events) (object : ℕ) (holder : Option ℕ) → IsAt items round.events object holder → IsAt (items ++ Round round ∷ []) [] object None
at_ended items round object None at =
    subst (λ os. Contains os object) (sym (round_objects items round)) (Contains-append_left (flat_map objects_in items) (objects_of round.events) object at)
at_ended items round object (Some worker) at =
    subst (λ os. Contains os object) (sym (round_objects items round))
    (Contains-append_right (flat_map objects_in items) (objects_of round.events) object (among (λ (event : Event). event.worker == worker) round.events object at))

pub at_further : (items later : List Item) (object : ℕ) → IsAt items [] object None → IsAt (items ++ later) [] object None
at_further items later object at =
    subst (λ os. Contains os object) (sym (flat_map-append objects_in items later)) (Contains-append_left (flat_map objects_in items) (flat_map objects_in later) object at)
