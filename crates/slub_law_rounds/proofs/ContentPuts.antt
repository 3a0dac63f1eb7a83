-- What workers put in words, through the calls of a checked cache under its lock.
use Rattle.std.proofs.Common.{◌≡◌, ◌≢◌, ℕ, zero, suc, ◌+◌, ◌*◌, ◌<◌, ◌≤◌, true, List, [], ◌∷◌, length, get_or, refl, sym, ◌∙◌, subst, arith, inl, inr}
use Rattle.std.specs.Prelude.{All}
use Rattle.std.proofs.lemmas.Bool.{cases_eq}
use Rattle.slub_red_zone.specs.declared.checked.Slot.{Slot}
use Rattle.slub_red_zone.specs.State.{CheckedState, bytes_of}
use Rattle.slub_red_zone.specs.Changes.{IsObject}
use Rattle.slub_core.specs.declared.local.Answered.{Answered}
use Rattle.slub_core.specs.declared.local.Known.{Known}
use Rattle.slub_core.specs.Calls.{call_object}
use Rattle.slub_core.specs.Setup.{Setup, node_lock}
use Rattle.slub_core.specs.World.{World, LockValue, Checked}
use Rattle.slub_core.specs.Local.{Worker, here, call_of}
use Rattle.slub_core.specs.Checked.{slot_of, with_slabs}
use Rattle.slub_core.specs.Spots.{in_checked}
use Rattle.slub_core.specs.Coherent.{Stands}
use Rattle.slub_core.specs.Accounted.{known_of}
use Rattle.slub_law_rounds.specs.Contents.{slabs_at}
use Rattle.slub_law_rounds.specs.Law.{byte_in, HasWords}
use Rattle.slub_law_rounds.proofs.Grows.{Grows, front-grows}
use Rattle.slub_law_rounds.proofs.Words.{holding-other, put-other, Calm, holding-calm, put-calm, slot-differs}
use Rattle.slub_law_rounds.proofs.Own.{OwnOf, own-still, others-still, held-old, apart-mine, apart-other, bytes-at, bytes-in}

-- of a worker that knows these objects and was answered so, beside others
abbrev pub HasWordsOf : Setup → World → List (List Answered) → (ℕ → LockValue) → List Known → List Answered → Type 0
HasWordsOf m opening dones value known ds = (o word place put : ℕ) → OwnOf m opening dones value ds o word place put (known_of known o)

abbrev pub WordsOf : Setup → World → List (List Answered) → (ℕ → LockValue) → List Known → List Answered → List Worker → Type 0
WordsOf m opening rest value known ds others = HasWordsOf m opening (ds ∷ rest) value known ds × All (λ (y : Worker). HasWords m opening (ds ∷ rest) value y.local) others

-- a byte of what is known so
abbrev pub IsByteKept : Setup → (ℕ → LockValue) → (ℕ → LockValue) → Known → Type 0
IsByteKept m value after q = (word place : ℕ) → q.held ≡ true → m.checks q.cache ≡ true → 8 * (word + 1) ≤ (m.layout q.cache).object_size → place < 8 → byte_in (slabs_at m after q.cache) q word place ≡ byte_in (slabs_at m value q.cache) q word place

-- what a reply owes: the object of the call, and the bytes of each other
pub words-act : (m : Setup) (opening : World) (rest : List (List Answered)) (value after : ℕ → LockValue) (known now : List Known) (ds : List Answered) (d : Answered) (others : List Worker)
    → ((o : ℕ) → (call_object d.call ≡ o → ⊥) → known_of now o ≡ known_of known o)
    → ((o : ℕ) → (call_object d.call ≡ o → ⊥) → IsByteKept m value after (known_of known o))
    → ((o word place put : ℕ) → call_object d.call ≡ o → OwnOf m opening ((d ∷ ds) ∷ rest) after (d ∷ ds) o word place put (known_of now o))
    → ((k : ℕ) (e : Worker) → k < length others → (o : ℕ) → IsByteKept m value after (known_of (get_or others k e).local.known o))
    → WordsOf m opening rest value known ds others → WordsOf m opening rest after now (d ∷ ds) others
words-act m opening rest value after known now ds d others same stays mine theirs has =
    let dones = ds ∷ rest in
    let more = (d ∷ ds) ∷ rest in
    let grows = front-grows ds d rest in (
      λ o word place put.
          elim (cases_eq (call_object d.call) o) [
            | inl e ↦ mine o word place put e
            | inr other ↦
                subst (OwnOf m opening more after (d ∷ ds) o word place put) (sym (same o other))
                (own-still m opening dones more value after ds (d ∷ ds) o word place put (known_of known o) grows (λ h. sym (holding-other d ds o other) ∙ h) (λ h. sym (put-other d ds o word place other) ∙ h) (stays o other word place) (has.0 o word place put))
          ],
      others-still m opening dones more value after others grows (λ k e below o word place. theirs k e below o word place) has.1,
    )

-- no reply, or one that changes nothing of what it holds and put
pub words-calm : (m : Setup) (opening : World) (rest : List (List Answered)) (value after : ℕ → LockValue) (known : List Known) (ds : List Answered) (d : Answered) (others : List Worker) → Calm d.reply
    → ((o : ℕ) → IsByteKept m value after (known_of known o)) → ((k : ℕ) (e : Worker) → k < length others → (o : ℕ) → IsByteKept m value after (known_of (get_or others k e).local.known o))
    → WordsOf m opening rest value known ds others → WordsOf m opening rest after known (d ∷ ds) others
words-calm m opening rest value after known ds d others calm stays theirs has =
    let dones = ds ∷ rest in
    let more = (d ∷ ds) ∷ rest in
    let grows = front-grows ds d rest in (
      λ o word place put. own-still m opening dones more value after ds (d ∷ ds) o word place put (known_of known o) grows (λ h. sym (holding-calm d ds o calm) ∙ h) (λ h. sym (put-calm d ds o word place calm) ∙ h) (stays o word place) (has.0 o word place put),
      others-still m opening dones more value after others grows (λ k e below o word place. theirs k e below o word place) has.1,
    )

pub words-none : (m : Setup) (opening : World) (rest : List (List Answered)) (value after : ℕ → LockValue) (known : List Known) (ds : List Answered) (others : List Worker)
    → ((o : ℕ) → IsByteKept m value after (known_of known o)) → ((k : ℕ) (e : Worker) → k < length others → (o : ℕ) → IsByteKept m value after (known_of (get_or others k e).local.known o))
    → WordsOf m opening rest value known ds others → WordsOf m opening rest after known ds others
words-none m opening rest value after known ds others stays theirs has =
    let dones = ds ∷ rest in
    let grows : Grows dones dones = λ es there. ([], there) in (
      λ o word place put. own-still m opening dones dones value after ds ds o word place put (known_of known o) grows (λ h. h) (λ h. h) (stays o word place) (has.0 o word place put),
      others-still m opening dones dones value after others grows (λ k e below o word place. theirs k e below o word place) has.1,
    )

-- ---- the slabs of the call's cache are others

-- every object that somebody holds, but one
abbrev pub KeepsHeld : World → Worker → List Worker → CheckedState → CheckedState → Type 0
KeepsHeld w x others old new = (k : ℕ) (e : Worker) → k < length (x ∷ others) → (o : ℕ) → let q = known_of (get_or (x ∷ others) k e).local.known o in q.held ≡ true → q.cache ≡ x.local.cache → (k ≡ 0 → call_object (call_of x.local) ≡ o → ⊥)
    → bytes_of new (record { frame = q.frame; index = q.index }) ≡ bytes_of old (record { frame = q.frame; index = q.index })

module _ (w : World) (x : Worker) (others : List Worker) (old new : CheckedState) (was : w.value (node_lock x.local.cache) ≡ Checked old) (layout : new.layout ≡ old.layout) (keeps : KeepsHeld w x others old new) where
  pub mine-stays : (o : ℕ) → (call_object (call_of x.local) ≡ o → ⊥) → IsByteKept w.setup w.value (with_slabs w.value x.local new) (known_of x.local.known o)
  mine-stays o other word place held checks ends below =
      let q = known_of x.local.known o in
      bytes-at w.setup w.value x.local.cache old new q word place was (λ mine. bytes-in old new q word place layout (keeps 0 x (omega arith) o held mine (λ z. other)))

  pub others-stay : (k : ℕ) (e : Worker) → k < length others → (o : ℕ) → IsByteKept w.setup w.value (with_slabs w.value x.local new) (known_of (get_or others k e).local.known o)
  others-stay k e below o word place held checks ends few =
      let q = known_of (get_or others k e).local.known o in
      bytes-at w.setup w.value x.local.cache old new q word place was (λ mine. bytes-in old new q word place layout (keeps (suc k) e (omega arith) o held mine (λ z. absurd (omega arith))))

-- the same slabs
pub same-stays : (w : World) (x : Worker) (old : CheckedState) (q : Known) → w.value (node_lock x.local.cache) ≡ Checked old → IsByteKept w.setup w.value (with_slabs w.value x.local old) q
same-stays w x old q was word place held checks ends below = bytes-at w.setup w.value x.local.cache old old q word place was (λ mine. refl)

-- an object is written, taken back or poked: each other that is held keeps its bytes
pub held-apart : (w : World) (x : Worker) (others : List Worker) (old new : CheckedState) → Stands w (x ∷ others) → in_checked x.local.spot ≡ true → w.value (node_lock x.local.cache) ≡ Checked old → x.local.place < length x.local.known → (here x.local).held ≡ true
    → call_object (call_of x.local) ≡ (here x.local).object → ((other : Slot) → other ≢ slot_of x.local → IsObject old other → bytes_of new other ≡ bytes_of old other) → KeepsHeld w x others old new
held-apart w x others old new s at was inside mine same keeps k e below o held of not = by k below held of not
  where
    by : (k : ℕ) → k < length (x ∷ others) → (known_of (get_or (x ∷ others) k e).local.known o).held ≡ true → (known_of (get_or (x ∷ others) k e).local.known o).cache ≡ x.local.cache → (k ≡ 0 → call_object (call_of x.local) ≡ o → ⊥)
        → bytes_of new (record { frame = (known_of (get_or (x ∷ others) k e).local.known o).frame; index = (known_of (get_or (x ∷ others) k e).local.known o).index })
        ≡ bytes_of old (record { frame = (known_of (get_or (x ∷ others) k e).local.known o).frame; index = (known_of (get_or (x ∷ others) k e).local.known o).index })
    by zero below held of not = keeps _ (slot-differs _ (slot_of x.local) (apart-mine w x others o s inside mine held (λ z. not refl (same ∙ sym z)))) (held-old w x others old 0 e o s at was below held of).0
    by (suc k) below held of not = keeps _ (slot-differs _ (slot_of x.local) (apart-other w x others k e o s inside mine (omega arith) held)) (held-old w x others old (suc k) e o s at was below held of).0
