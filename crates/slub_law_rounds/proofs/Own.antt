-- What workers put in the words of checked objects that they hold stands there: what each change owes to that.
use Rattle.std.proofs.Common.{◌≡◌, ℕ, zero, suc, ◌+◌, ◌*◌, ◌<◌, ◌≤◌, true, List, [], ◌∷◌, length, get_or, Some, refl, sym, ap, ◌∙◌, subst, arith, inl, inr}
use Rattle.std.specs.Prelude.{All, sum_by, pos}
use Rattle.std.proofs.lemmas.Bool.{cases_eq}
use Rattle.std.proofs.lemmas.List.Sums.{sum_by-cons, get_or-le-sum_by}
use Rattle.std.proofs.lemmas.List.Elements.{All-head}
use Rattle.slub_object_layout.specs.declared.layout.Layout.{Layout}
use Rattle.slub_red_zone.specs.State.{CheckedState, slab_of, objects_in, bytes_of}
use Rattle.slub_red_zone.specs.Objects.{idle}
use Rattle.slub_core.specs.declared.local.Answered.{Answered}
use Rattle.slub_core.specs.declared.local.Known.{Known}
use Rattle.slub_core.specs.Setup.{Setup, node_lock}
use Rattle.slub_core.specs.World.{World, LockValue, Checked, update, idle_in, object_at, one_if}
use Rattle.slub_core.specs.Local.{Worker, nobody, here, address_in}
use Rattle.slub_core.specs.Checked.{slabs_in}
use Rattle.slub_core.specs.Spots.{in_checked}
use Rattle.slub_core.specs.Placed.{held_as, held, owned}
use Rattle.slub_core.specs.Fresh.{IsAtWork}
use Rattle.slub_core.specs.Coherent.{Stands}
use Rattle.slub_core.specs.Replies.{holding}
use Rattle.slub_core.specs.Accounted.{had, place_of, known_of, IsAccounted}
use Rattle.slub_core.proofs.CheckedStep.{object-there}
use Rattle.slub_core.proofs.Exists.{alone, object_at-le, owned-object}
use Rattle.slub_core.proofs.TaleGiven.{known-object}
use Rattle.slub_core.proofs.TaleKnowns.{held-inside, place_of-object}
use Rattle.slub_core.proofs.TaleWritten.{held_as-one}
use Rattle.slub_core.proofs.Update.{update_same, update_other, term_le_sum}
use Rattle.slub_law_rounds.specs.Contents.{slabs_at, last_put, IsPut}
use Rattle.slub_law_rounds.specs.Law.{byte_in, HasWords}
use Rattle.slub_law_rounds.proofs.Grows.{Grows, put-later}

-- ---- one word of one object

-- what a worker put there, where it knows the object so
abbrev pub OwnOf : Setup → World → List (List Answered) → (ℕ → LockValue) → List Answered → ℕ → ℕ → ℕ → ℕ → Known → Type 0
OwnOf m opening dones value ds o word place put k = k.held ≡ true → holding ds o ≡ true → m.checks k.cache ≡ true → last_put ds o word place ≡ Some put
    → 8 * (word + 1) ≤ (m.layout k.cache).object_size → place < 8 → IsPut m opening dones k.cache o (pos (address_in m k + (8 * word + place))) put (byte_in (slabs_at m value k.cache) k word place)

-- its byte stays, and so does what the worker put there
pub own-still : (m : Setup) (opening : World) (dones more : List (List Answered)) (value after : ℕ → LockValue) (ds es : List Answered) (o word place put : ℕ) (k : Known) → Grows dones more
    → (holding es o ≡ true → holding ds o ≡ true) → (last_put es o word place ≡ Some put → last_put ds o word place ≡ Some put)
    → (k.held ≡ true → m.checks k.cache ≡ true → 8 * (word + 1) ≤ (m.layout k.cache).object_size → place < 8 → byte_in (slabs_at m after k.cache) k word place ≡ byte_in (slabs_at m value k.cache) k word place)
    → OwnOf m opening dones value ds o word place put k → OwnOf m opening more after es o word place put k
own-still m opening dones more value after ds es o word place put k grows hold last bytes own has mine checks is ends below =
    let at = pos (address_in m k + (8 * word + place)) in
    subst (λ b. IsPut m opening more k.cache o at put b) (sym (bytes has checks ends below))
    (put-later m opening dones more k.cache o at put (byte_in (slabs_at m value k.cache) k word place) grows (own has (hold mine) checks (last is) ends below))

-- the others, where no byte changes
pub others-still : (m : Setup) (opening : World) (dones more : List (List Answered)) (value after : ℕ → LockValue) (others : List Worker) → Grows dones more
    → ((k : ℕ) (d : Worker) → k < length others → (o word place : ℕ) → let q = known_of (get_or others k d).local.known o in q.held ≡ true → m.checks q.cache ≡ true → 8 * (word + 1) ≤ (m.layout q.cache).object_size → place < 8
    → byte_in (slabs_at m after q.cache) q word place ≡ byte_in (slabs_at m value q.cache) q word place)
    → All (λ (y : Worker). HasWords m opening dones value y.local) others → All (λ (y : Worker). HasWords m opening more after y.local) others
others-still m opening dones more value after others grows bytes all k d below o word place put =
    let y = get_or others k d in
    own-still m opening dones more value after y.local.done y.local.done o word place put (known_of y.local.known o) grows (λ e. e) (λ e. e) (bytes k d below o word place) (all k d below o word place put)

-- no value changes
pub others-later : (m : Setup) (opening : World) (dones more : List (List Answered)) (value : ℕ → LockValue) (others : List Worker) → Grows dones more
    → All (λ (y : Worker). HasWords m opening dones value y.local) others → All (λ (y : Worker). HasWords m opening more value y.local) others
others-later m opening dones more value others grows all = others-still m opening dones more value value others grows (λ k d below o word place held checks ends few. refl) all

-- ---- where a held object is

-- what any worker holds of the cache is an object of its slabs, and not idle
pub held-old : (w : World) (x : Worker) (others : List Worker) (old : CheckedState) (k : ℕ) (d : Worker) (o : ℕ) → Stands w (x ∷ others) → in_checked x.local.spot ≡ true → w.value (node_lock x.local.cache) ≡ Checked old → k < length (x ∷ others)
    → let q = known_of (get_or (x ∷ others) k d).local.known o in q.held ≡ true → q.cache ≡ x.local.cache → (q.index < objects_in (slab_of old q.frame)) × (idle old q.frame q.index ≡ 0)
held-old w x others old k d o s at was below is mine =
    let y = get_or (x ∷ others) k d in
    let q = known_of y.local.known o in
    let f = q.frame in
    let i = q.index in
    let ok = All-head (IsAtWork w) x others s.fresh.workers in
    let checked = ok.spot.checked at in
    let count = s.fresh.setup.locks in
    let obj = known-object w (x ∷ others) k d s below o is in
    let there = object-there w x others old f i s at was (sym mine ∙ obj.1) obj.0 in
    let once = s.placed.once f i in
    let one = object_at-le w f i in
    let t = term_le_sum w.setup.locks (λ n. idle_in (w.value n) f i) (node_lock x.local.cache) (let c = checked.0 in omega arith) in
    let z : idle_in (w.value (node_lock x.local.cache)) f i ≡ idle old f i = ap (λ v. idle_in v f i) was in
    let mine_owned = get_or-le-sum_by (owned f i) (x ∷ others) k d below in
    (there.0, omega arith)

two-held : (f i : ℕ) (ks : List Known) (p q : ℕ) → p < length ks → q < length ks → (p ≡ q → ⊥) → held_as f i (get_or ks p nobody) ≡ 1 → held_as f i (get_or ks q nobody) ≡ 1 → 2 ≤ sum_by (held_as f i) ks
two-held f i [] p q a b d x y = absurd (omega arith)
two-held f i (k ∷ ks) zero zero a b d x y = absurd (d refl)
two-held f i (k ∷ ks) zero (suc q) a b d x y = let s = sum_by-cons (held_as f i) k ks in let t = get_or-le-sum_by (held_as f i) ks q nobody (omega arith) in omega arith
two-held f i (k ∷ ks) (suc p) zero a b d x y = let s = sum_by-cons (held_as f i) k ks in let t = get_or-le-sum_by (held_as f i) ks p nobody (omega arith) in omega arith
two-held f i (k ∷ ks) (suc p) (suc q) a b d x y = let s = sum_by-cons (held_as f i) k ks in let r = two-held f i ks p q (omega arith) (omega arith) (λ e. d (ap suc e)) x y in omega arith

-- no other object that the worker holds is that of its call
pub apart-mine : (w : World) (x : Worker) (others : List Worker) (o : ℕ) → Stands w (x ∷ others) → x.local.place < length x.local.known → (here x.local).held ≡ true → (known_of x.local.known o).held ≡ true → (o ≡ (here x.local).object → ⊥)
    → (known_of x.local.known o).frame ≡ (here x.local).frame → (known_of x.local.known o).index ≡ (here x.local).index → ⊥
apart-mine w x others o s inside mine is other frame index =
    let f = (here x.local).frame in
    let i = (here x.local).index in
    let there = held-inside x.local.known o is in
    let two = two-held f i x.local.known x.local.place (place_of x.local.known o) inside there (λ z. other (sym (place_of-object x.local.known o there) ∙ ap (λ q. (get_or x.local.known q nobody).object) (sym z)))
    (held_as-one (here x.local) f i mine refl refl) (held_as-one (known_of x.local.known o) f i is frame index) in
    let most : owned f i x ≤ object_at w f i = owned-object w s.chains (x ∷ others) f i s.placed 0 x (omega arith) in
    let one = object_at-le w f i in
    omega arith

-- nor one that another worker holds
pub apart-other : (w : World) (x : Worker) (others : List Worker) (k : ℕ) (d : Worker) (o : ℕ) → Stands w (x ∷ others) → x.local.place < length x.local.known → (here x.local).held ≡ true → k < length others → (known_of (get_or others k d).local.known o).held ≡ true
    → (known_of (get_or others k d).local.known o).frame ≡ (here x.local).frame → (known_of (get_or others k d).local.known o).index ≡ (here x.local).index → ⊥
apart-other w x others k d o s inside mine below is frame index =
    let f = (here x.local).frame in
    let i = (here x.local).index in
    let one = held_as-one (here x.local) f i mine refl refl in
    let t = get_or-le-sum_by (held_as f i) x.local.known x.local.place nobody inside in
    let has : 1 ≤ owned f i x = omega arith in
    let rest = (alone w s.chains x others f i s.placed has).rest k d below in
    let obj = known-object w (x ∷ others) (suc k) d s (omega arith) o is in
    let h : 1 ≤ held f i (get_or others k d).local = subst (λ f. 1 ≤ held f i (get_or others k d).local) frame (subst (λ i. 1 ≤ held (known_of (get_or others k d).local.known o).frame i (get_or others k d).local) index obj.2) in
    omega arith

-- a number that the worker has had is held by no other
pub one-holder : (opening w : World) (x : Worker) (others : List Worker) (k : ℕ) (d : Worker) (o : ℕ) → IsAccounted opening w (x ∷ others) → 1 ≤ had o x.local → k < length others → (known_of (get_or others k d).local.known o).held ≡ true → ⊥
one-holder opening w x others k d o ac mine below is =
    let c = ac.count o in
    let once = ac.once o in
    let s = sum_by-cons (λ (x : Worker). had o x.local) x others in
    let t = get_or-le-sum_by (λ (x : Worker). had o x.local) others k d below in
    let h : one_if (known_of (get_or others k d).local.known o).held ≡ 1 = ap one_if is in
    omega arith

-- ---- the slabs of one cache are others

pub bytes-at : (m : Setup) (value : ℕ → LockValue) (cache : ℕ) (old new : CheckedState) (q : Known) (word place : ℕ) → value (node_lock cache) ≡ Checked old
    → (q.cache ≡ cache → byte_in new q word place ≡ byte_in old q word place)
    → byte_in (slabs_at m (update value (node_lock cache) (Checked new)) q.cache) q word place ≡ byte_in (slabs_at m value q.cache) q word place
bytes-at m value cache old new q word place was same =
    elim (cases_eq q.cache cache) [
      | inl e ↦ (
          let now : slabs_at m (update value (node_lock cache) (Checked new)) q.cache ≡ new = ap (λ k. slabs_at m (update value (node_lock cache) (Checked new)) k) e ∙ ap (slabs_in (m.layout cache)) (update_same value (node_lock cache) (Checked new)) in
          let before : slabs_at m value q.cache ≡ old = ap (λ k. slabs_at m value k) e ∙ ap (slabs_in (m.layout cache)) was in
          ap (λ s. byte_in s q word place) now ∙ same e ∙ sym (ap (λ s. byte_in s q word place) before))
      | inr other ↦ ap (λ v. byte_in (slabs_in (m.layout q.cache) v) q word place) (update_other value (node_lock cache) (Checked new) (node_lock q.cache) (λ e. other (omega arith)))
    ]

-- bytes of a slot stay
pub bytes-in : (old new : CheckedState) (q : Known) (word place : ℕ) → new.layout ≡ old.layout → bytes_of new (record { frame = q.frame; index = q.index }) ≡ bytes_of old (record { frame = q.frame; index = q.index }) → byte_in new q word place ≡ byte_in old q word place
bytes-in old new q word place layout bytes =
    ap (λ bs. get_or bs (new.layout.left_pad + (8 * word + place)) 0) bytes ∙ ap (λ (l : Layout). get_or (bytes_of old (record { frame = q.frame; index = q.index })) (l.left_pad + (8 * word + place)) 0) layout
