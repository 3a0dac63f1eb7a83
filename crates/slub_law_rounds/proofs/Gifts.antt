-- What workers put in words stands there where objects of a checked cache are given, freed or found damaged.
use Rattle.std.proofs.Common.{◌≡◌, ℕ, zero, suc, ◌<◌, ◌≤◌, true, false, List, ◌∷◌, length, get_or, set, Ok, Option, Some, None, refl, sym, ap, ◌∙◌, subst, arith, inl, inr}
use Rattle.std.specs.Prelude.{IsSome}
use Rattle.std.proofs.lemmas.Bool.{cases_eq, cases_Bool, eq-eqb, ne_eqb, lt-ltb, false≢true}
use Rattle.std.proofs.lemmas.Option.{none-some}
use Rattle.std.proofs.lemmas.List.Sums.{sum_by-cons}
use Rattle.slub_red_zone.specs.declared.checked.Slot.{Slot}
use Rattle.slub_red_zone.specs.declared.checked.Run.{Run}
use Rattle.slub_red_zone.specs.declared.checked.CheckedGive.{CheckedGive}
use Rattle.slub_red_zone.specs.declared.checked.CheckedGive.TheVariants as give
use Rattle.slub_trace.specs.declared.damage.Damage.{Damage}
use Rattle.slub_red_zone.specs.State.{SlabState, CheckedState, Has as HasSlab, slab_of, slot_of as slot_bytes, objects_in}
use Rattle.slub_red_zone.specs.Sound.{IsSound}
use Rattle.slub_object_layout.specs.Layout.{IsSized}
use Rattle.slub_red_zone.specs.Objects.{idle, one_of, here as here_slot}
use Rattle.slub_red_zone.specs.Steps.{Gives, IsSpare, damage_of_used, with_taken, without_slab, with_given, with_new_slab, new_slab}
use Rattle.slub_red_zone.proofs.Changed.{gives-bytes, takes-bytes}
use Rattle.slub_red_zone.proofs.Objects.{gives-object, taken-object, takes-slab}
use Rattle.slub_red_zone.proofs.NewSlabs.{with-new-sound, giving-new}
use Rattle.slub_red_zone.proofs.Pokes.{adds-bytes}
use Rattle.slub_red_zone.proofs.Telling.{slab_at-other}
use Rattle.slub_red_zone.proofs.Whole.{slab-there}
use Rattle.slub_words.specs.declared.board.BoardWord.{BoardWord}
use Rattle.slub_trace.specs.declared.reply.Reply.TheVariants as reply
use Rattle.slub_core.specs.declared.call.CallKind.TheVariants.{Alloc, Free}
use Rattle.slub_core.specs.declared.local.Answered.{Answered}
use Rattle.slub_core.specs.declared.local.Known.{Known}
use Rattle.slub_core.specs.declared.spot.Spot.TheVariants.{InChecked}
use Rattle.slub_core.specs.declared.spot.CheckedSpot.TheVariants.{DoChecked}
use Rattle.slub_core.specs.Calls.{call_object}
use Rattle.slub_core.specs.Setup.{Setup, node_lock}
use Rattle.slub_core.specs.World.{World, LockValue, Checked, one_if}
use Rattle.slub_core.specs.Local.{Local, Worker, here, call_of}
use Rattle.slub_core.specs.Checked.{slot_of, with_slabs}
use Rattle.slub_core.specs.Spots.{in_checked, doing}
use Rattle.slub_core.specs.Listed.{IsCheckedOf}
use Rattle.slub_core.specs.Coherent.{Stands}
use Rattle.slub_core.specs.Replies.{holding, freed_in, address_on}
use Rattle.slub_core.specs.Accounted.{boarded, had, public, known_of, IsAccounted}
use Rattle.slub_core.proofs.CheckedSpots.{held-object}
use Rattle.slub_core.proofs.TaleKnowns.{known_of-other}
use Rattle.slub_core.proofs.TaleReplies.{told-of}
use Rattle.slub_core.proofs.CheckedStep.{shape-size}
use Rattle.slub_law_rounds.specs.Contents.{last_put}
use Rattle.slub_law_rounds.proofs.Grows.{front-grows}
use Rattle.slub_law_rounds.proofs.Acts.{one-more}
use Rattle.slub_law_rounds.proofs.Words.{holding-this, put-this, knows-had, put-knows, slot-differs}
use Rattle.slub_law_rounds.proofs.Own.{OwnOf, own-still, held-old, apart-mine, apart-other, bytes-at, bytes-in}
use Rattle.slub_law_rounds.proofs.ContentPuts.{WordsOf, KeepsHeld, words-act, words-none, mine-stays, others-stay, held-apart}
use Rattle.slub_law_rounds.proofs.Stores.{here-of}

-- the worker knows each other object as it did
pub other-known : (l : Local) (k : Known) (o : ℕ) → l.place < length l.known → k.object ≡ (here l).object → call_object (call_of l) ≡ (here l).object → (call_object (call_of l) ≡ o → ⊥) → known_of (set l.known l.place k) o ≡ known_of l.known o
other-known l k o below same called other = known_of-other l.known l.place k o below same (λ e. other (called ∙ sym e))

-- of an object that was just given, or is freed, nothing is said
pub given-none : (m : Setup) (opening : World) (dones : List (List Answered)) (value : ℕ → LockValue) (d : Answered) (ds : List Answered) (a o word place put : ℕ) (k : Known) → d.reply ≡ reply.Given a → call_object d.call ≡ o → OwnOf m opening dones value (d ∷ ds) o word place put k
given-none m opening dones value d ds a o word place put k is e held hold checks last ends below = absurd (none-some put (let z = sym (put-this d ds o word place e) ∙ last in rw is at z))

pub freed-none : (m : Setup) (opening : World) (dones : List (List Answered)) (value : ℕ → LockValue) (d : Answered) (ds : List Answered) (a o word place put : ℕ) (k : Known) → d.reply ≡ reply.Freed a → call_object d.call ≡ o → OwnOf m opening dones value (d ∷ ds) o word place put k
freed-none m opening dones value d ds a o word place put k is e held hold checks last ends below = absurd (false≢true (let z = sym (holding-this d ds o e) ∙ hold in rw is at z))

on-some : (m : Setup) (x : Option BoardWord) (a : ℕ) → address_on m x ≡ Some a → boarded x ≡ 1
on-some m None a e = absurd (none-some a e)
on-some m (Some b) a e = refl

module _ (opening w : World) (x : Worker) (others : List Worker) (rest : List (List Answered)) (old : CheckedState) (s : Stands w (x ∷ others)) (ac : IsAccounted opening w (x ∷ others)) (was : w.value (node_lock x.local.cache) ≡ Checked old) (of : IsCheckedOf w.setup x.local.cache old) where
  -- ---- a free

  -- an object is taken back, and its slab stays
  pub taken-keeps : x.local.spot ≡ InChecked DoChecked Free → damage_of_used old (slot_of x.local) ≡ None → KeepsHeld w x others old (with_taken old (slot_of x.local))
  taken-keeps is none =
      let ok = (s.fresh.workers 0 x (omega arith)) in
      let keep = ok.spot.keeps (rw is refl) in
      let mine = here-of opening w x others Free ac (rw is refl) refl in
      let used = held-object w x others old s (rw is refl) (rw is refl) was in
      held-apart w x others old (with_taken old (slot_of x.local)) s (rw is refl) was keep.0 keep.1 mine.same (takes-bytes old (slot_of x.local) (Ok tt) (with_taken old (slot_of x.local)) of.sound used (none, refl)).others

  -- or goes
  pub gone-keeps : x.local.spot ≡ InChecked DoChecked Free → damage_of_used old (slot_of x.local) ≡ None → IsSound (with_taken old (slot_of x.local)) → (limit : ℕ) → IsSpare (with_taken old (slot_of x.local)) (here x.local).frame limit
      → 0 < objects_in (slab_of (with_taken old (slot_of x.local)) (here x.local).frame)
      → KeepsHeld w x others old (without_slab (with_taken old (slot_of x.local)) (here x.local).frame)
  gone-keeps is none sound limit spare some k e below o held cache not =
      let q = known_of (get_or (x ∷ others) k e).local.known o in
      let f = (here x.local).frame in
      let mid = with_taken old (slot_of x.local) in
      let first = taken-keeps is none k e below o held cache not in
      elim (cases_eq q.frame f) [
        | inl same ↦ absurd (busy k e below o held cache not same)
        | inr other ↦ ap (λ (slab : SlabState). slot_bytes old.layout slab.bytes q.index) (slab_at-other mid.slabs f q.frame None other) ∙ first
      ]
    where
      busy : (k : ℕ) (e : Worker) → k < length (x ∷ others) → (o : ℕ) → (known_of (get_or (x ∷ others) k e).local.known o).held ≡ true → (known_of (get_or (x ∷ others) k e).local.known o).cache ≡ x.local.cache → (k ≡ 0 → call_object (call_of x.local) ≡ o → ⊥)
          → (known_of (get_or (x ∷ others) k e).local.known o).frame ≡ (here x.local).frame → ⊥
      busy k e below o held cache not same = apart k below held cache not same
        where
          -- every object of the slab is idle then
          idle-now : (g i : ℕ) → (i < objects_in (slab_of old g)) × (idle old g i ≡ 0) → g ≡ (here x.local).frame → (i ≡ (here x.local).index → ⊥) → ⊥
          idle-now g i there same differs =
              let f = (here x.local).frame in
              let mid = with_taken old (slot_of x.local) in
              let used = held-object w x others old s (rw is refl) (rw is refl) was in
              let took = taken-object old (slot_of x.local) of.sound used in
              let run : Run = record { frame = f; order = (slab_of mid f).order } in
              let gone = takes-slab mid f limit run (without_slab mid f) sound (subst (λ a. IsSome a) (sym (slab-there mid.slabs f some)) refl) (spare, refl, refl) in
              let free = gone.before i in
              let now = took.objects f i in
              let size = shape-size old mid f (took.slabs.shape f) in
              let inside : i < objects_in (slab_of mid f) = (let z = subst (λ h. i < objects_in (slab_of old h)) same there.0 in omega (arith, z, size)) in
              let one : one_of (objects_in (slab_of mid f)) i ≡ 1 = rw (lt-ltb i (objects_in (slab_of mid f)) inside) refl in
              let zero_here : here_slot (slot_of x.local) f i ≡ 0 = rw (eq-eqb f f refl, ne_eqb (here x.local).index i (λ z. differs (sym z))) refl in
              let was_zero : idle old f i ≡ 0 = subst (λ h. idle old h i ≡ 0) same there.1 in
              omega arith

          apart : (k : ℕ) → k < length (x ∷ others) → (known_of (get_or (x ∷ others) k e).local.known o).held ≡ true → (known_of (get_or (x ∷ others) k e).local.known o).cache ≡ x.local.cache → (k ≡ 0 → call_object (call_of x.local) ≡ o → ⊥)
              → (known_of (get_or (x ∷ others) k e).local.known o).frame ≡ (here x.local).frame → ⊥
          apart zero below held cache not same =
              let ok = (s.fresh.workers 0 x (omega arith)) in
              let keep = ok.spot.keeps (rw is refl) in
              let mine = here-of opening w x others Free ac (rw is refl) refl in
              idle-now (known_of x.local.known o).frame (known_of x.local.known o).index (held-old w x others old 0 e o s (rw is refl) was below held cache) same (apart-mine w x others o s keep.0 keep.1 held (λ z. not refl (mine.same ∙ sym z)) same)
          apart (suc k) below held cache not same =
              let ok = (s.fresh.workers 0 x (omega arith)) in
              let keep = ok.spot.keeps (rw is refl) in
              idle-now (known_of (get_or others k e).local.known o).frame (known_of (get_or others k e).local.known o).index (held-old w x others old (suc k) e o s (rw is refl) was below held cache) same (apart-other w x others k e o s keep.0 keep.1 (omega arith) held same)

  pub words-freed : (new : CheckedState) (a : ℕ) (k : Known) → x.local.spot ≡ InChecked DoChecked Free → new.layout ≡ old.layout → k.object ≡ (here x.local).object → KeepsHeld w x others old new → WordsOf w.setup opening rest w.value x.local.known x.local.done others
      → WordsOf w.setup opening rest (with_slabs w.value x.local new) (set x.local.known x.local.place k) (one-more x.local (reply.Freed a) ∷ x.local.done) others
  words-freed new a k is layout object keeps has =
      let ok = (s.fresh.workers 0 x (omega arith)) in
      let keep = ok.spot.keeps (rw is refl) in
      let mine = here-of opening w x others Free ac (rw is refl) refl in
      let d = one-more x.local (reply.Freed a) in
      words-act w.setup opening rest w.value (with_slabs w.value x.local new) x.local.known (set x.local.known x.local.place k) x.local.done d others
      (λ o other. other-known x.local k o keep.0 object mine.same other) (mine-stays w x others old new was layout keeps)
      (λ o word place put e. freed-none w.setup opening ((d ∷ x.local.done) ∷ rest) (with_slabs w.value x.local new) d x.local.done a o word place put (known_of (set x.local.known x.local.place k) o) refl e)
      (others-stay w x others old new was layout keeps) has

  -- what is found damaged was put to by its worker only where the worker held it
  fresh-none : x.local.spot ≡ InChecked DoChecked Free → (word place put : ℕ) → holding x.local.done (here x.local).object ≡ false → last_put x.local.done (here x.local).object word place ≡ Some put → ⊥
  fresh-none is word place put none last =
      let l = x.local in
      let o = (here l).object in
      let tale = told-of opening w x others ac in
      let ok = (s.fresh.workers 0 x (omega arith)) in
      let keep = ok.spot.keeps (rw is refl) in
      let mine = here-of opening w x others Free ac (rw is refl) refl in
      let held : one_if (known_of l.known o).held ≡ 1 = ap (λ (j : Known). one_if j.held) mine.knew ∙ ap one_if keep.1 in
      let knew = put-knows w.setup opening.board (public w (x ∷ others)) l.done o word place put tale.caused last in
      let freed : 1 ≤ freed_in o l.done = elim (knows-had l.done o knew) [ inl a ↦ absurd (false≢true (sym none ∙ a)) | inr b ↦ b ] in
      let c = ac.count o in
      let once = ac.once o in
      let t = sum_by-cons (λ (x : Worker). had o x.local) x others in
      omega arith

  pub words-corrupt : (damage : Damage) → x.local.spot ≡ InChecked DoChecked Free → WordsOf w.setup opening rest w.value x.local.known x.local.done others
      → WordsOf w.setup opening rest w.value x.local.known (one-more x.local (reply.Corrupt damage) ∷ x.local.done) others
  words-corrupt damage is has =
      let l = x.local in
      let m = w.setup in
      let d = one-more l (reply.Corrupt damage) in
      let mine = here-of opening w x others Free ac (rw is refl) refl in
      let grows = front-grows l.done d rest in
      words-act m opening rest w.value w.value l.known l.known l.done d others (λ o other. refl) (λ o other word place held checks ends below. refl)
      (λ o word place put e.
      let kept : last_put (d ∷ l.done) o word place ≡ last_put l.done o word place = put-this d l.done o word place e in
      λ held hold checks last ends below.
      elim (cases_Bool (holding l.done o)) [
        | inl holds ↦ own-still m opening (l.done ∷ rest) ((d ∷ l.done) ∷ rest) w.value w.value l.done (d ∷ l.done) o word place put (known_of l.known o) grows (λ h. holds) (λ h. sym kept ∙ h) (λ held checks ends below. refl) (has.0 o word place put) held hold checks last ends below
        | inr none ↦ absurd (
            let o_is : o ≡ (here l).object = sym e ∙ mine.same in
            fresh-none is word place put (ap (holding l.done) (sym o_is) ∙ none) (ap (λ n. last_put l.done n word place) (sym o_is) ∙ sym kept ∙ last))
      ])
      (λ k e below o word place held checks ends few. refl) has

  -- ---- an allocation

  gave-keeps : (answer : CheckedGive) (after : CheckedState) → x.local.spot ≡ InChecked DoChecked Alloc → Gives old answer after → KeepsHeld w x others old after
  gave-keeps give.Empty after is gives k e below o held cache not = gives-bytes old give.Empty after of.sound gives _ (held-old w x others old k e o s (rw is refl) was below held cache).0
  gave-keeps (give.Given slot) after is gives k e below o held cache not =
      let there = held-old w x others old k e o s (rw is refl) was below held cache in
      let q = known_of (get_or (x ∷ others) k e).local.known o in
      (gives-bytes old (give.Given slot) after of.sound gives).others _ (slot-differs _ slot (λ f i.
      let one = (gives-object old (give.Given slot) after of.sound gives).objects.one slot.frame slot.index in
      let h : here_slot slot slot.frame slot.index ≡ 1 = rw (eq-eqb slot.frame slot.frame refl, eq-eqb slot.index slot.index refl) refl in
      let z : idle old slot.frame slot.index ≡ 0 = sym (ap (λ g. idle old g q.index) f ∙ ap (idle old slot.frame) i) ∙ there.1 in
      omega arith)) there.0

  pub words-gave : (slot : Slot) (after : CheckedState) (a : ℕ) (k : Known) → x.local.spot ≡ InChecked DoChecked Alloc → Gives old (give.Given slot) after → k.object ≡ (here x.local).object → WordsOf w.setup opening rest w.value x.local.known x.local.done others
      → WordsOf w.setup opening rest (with_slabs w.value x.local after) (set x.local.known x.local.place k) (one-more x.local (reply.Given a) ∷ x.local.done) others
  words-gave slot after a k is gives object has =
      let ok = (s.fresh.workers 0 x (omega arith)) in
      let room = ok.spot.awaits (rw is refl) in
      let mine = here-of opening w x others Alloc ac (rw is refl) refl in
      let d = one-more x.local (reply.Given a) in
      let layout = (gives-object old (give.Given slot) after of.sound gives).slabs.layout in
      let keeps = gave-keeps (give.Given slot) after is gives in
      words-act w.setup opening rest w.value (with_slabs w.value x.local after) x.local.known (set x.local.known x.local.place k) x.local.done d others
      (λ o other. other-known x.local k o room.0 object mine.same other) (mine-stays w x others old after was layout keeps)
      (λ o word place put e. given-none w.setup opening ((d ∷ x.local.done) ∷ rest) (with_slabs w.value x.local after) d x.local.done a o word place put (known_of (set x.local.known x.local.place k) o) refl e)
      (others-stay w x others old after was layout keeps) has

  pub words-empty : (after : CheckedState) → x.local.spot ≡ InChecked DoChecked Alloc → Gives old give.Empty after → WordsOf w.setup opening rest w.value x.local.known x.local.done others → WordsOf w.setup opening rest (with_slabs w.value x.local after) x.local.known x.local.done others
  words-empty after is gives has =
      let layout = (gives-object old give.Empty after of.sound gives).slabs.layout in
      words-none w.setup opening rest w.value (with_slabs w.value x.local after) x.local.known x.local.done others
      (λ o word place held checks ends below. bytes-at w.setup w.value x.local.cache old after (known_of x.local.known o) word place was (λ cache. bytes-in old after (known_of x.local.known o) word place layout (gives-bytes old give.Empty after of.sound gives _ (held-old w x others old 0 x o s (rw is refl) was (omega arith) held cache).0)))
      (λ k e below o word place held checks ends few. bytes-at w.setup w.value x.local.cache old after (known_of (get_or others k e).local.known o) word place was (λ cache. bytes-in old after (known_of (get_or others k e).local.known o) word place layout (gives-bytes old give.Empty after of.sound gives _ (held-old w x others old (suc k) e o s (rw is refl) was (omega arith) held cache).0)))
      has

  -- ---- a new slab

  added-keeps : (run : Run) (objects : ℕ) → in_checked x.local.spot ≡ true → objects_in (slab_of old run.frame) ≡ 0 → ¬ HasSlab old run.frame → 1 ≤ run.frame → run.frame < 4096 → IsSized old.layout run.order objects
      → KeepsHeld w x others old (with_given (with_new_slab old run objects) (record { frame = run.frame; index = 0 }))
  added-keeps run objects at none fresh first last sized k e below o held cache not =
      let q = known_of (get_or (x ∷ others) k e).local.known o in
      let slot : Slot = record { frame = run.frame; index = 0 } in
      let mid = with_new_slab old run objects in
      let there = held-old w x others old k e o s at was below held cache in
      let away : q.frame ≡ run.frame → ⊥ = λ f. let z = subst (λ h. q.index < objects_in (slab_of old h)) f there.0 in omega (arith, z, none) in
      let same : slab_of mid q.frame ≡ slab_of old q.frame = slab_at-other old.slabs run.frame q.frame (Some (new_slab old.layout old.flags run.order objects)) away in
      let inside : q.index < objects_in (slab_of mid q.frame) = subst (λ slab. q.index < objects_in slab) (sym same) there.0 in
      (gives-bytes mid (give.Given slot) (with_given mid slot) (with-new-sound old run objects of.sound fresh first last sized) (giving-new old run objects of.sound last slot (with_given mid slot) sized (refl, refl))).others _ (slot-differs _ slot (λ f i. away f)) inside
      ∙ adds-bytes old run objects fresh _ there.0

  pub words-added : (run : Run) (objects a : ℕ) (k : Known) → in_checked x.local.spot ≡ true → doing x.local.spot ≡ Some Alloc → x.local.place < length x.local.known → k.object ≡ (here x.local).object
      → objects_in (slab_of old run.frame) ≡ 0 → ¬ HasSlab old run.frame → 1 ≤ run.frame → run.frame < 4096 → IsSized old.layout run.order objects → WordsOf w.setup opening rest w.value x.local.known x.local.done others
      → WordsOf w.setup opening rest (with_slabs w.value x.local (with_given (with_new_slab old run objects) (record { frame = run.frame; index = 0 }))) (set x.local.known x.local.place k) (one-more x.local (reply.Given a) ∷ x.local.done) others
  words-added run objects a k at doing below object none fresh first last sized has =
      let mine = here-of opening w x others Alloc ac doing refl in
      let d = one-more x.local (reply.Given a) in
      let new = with_given (with_new_slab old run objects) (record { frame = run.frame; index = 0 }) in
      let keeps = added-keeps run objects at none fresh first last sized in
      words-act w.setup opening rest w.value (with_slabs w.value x.local new) x.local.known (set x.local.known x.local.place k) x.local.done d others
      (λ o other. other-known x.local k o below object mine.same other) (mine-stays w x others old new was refl keeps)
      (λ o word place put e. given-none w.setup opening ((d ∷ x.local.done) ∷ rest) (with_slabs w.value x.local new) d x.local.done a o word place put (known_of (set x.local.known x.local.place k) o) refl e)
      (others-stay w x others old new was refl keeps) has
