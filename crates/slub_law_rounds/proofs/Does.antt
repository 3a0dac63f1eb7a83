-- At once, under a checked cache's lock: all that is said of contents, call by call.
use Rattle.std.proofs.Common.{◌≡◌, ℕ, ◌+◌, ◌*◌, ◌<◌, ◌≤◌, ◌&&◌, ◌||◌, eqb, Bool, true, false, if◌then◌else◌, List, [], ◌∷◌, length, get_or, map, ℤ, Option, Some, None, refl, sym, ap, ◌∙◌, subst, arith, inl, inr}
use Rattle.std.specs.Prelude.{IfSome, nat_lt, pos, slice_range, sum_by}
use Rattle.std.specs.Ordering.{int_eq}
use Rattle.std.proofs.lemmas.Option.{none-some, same_Some}
use Rattle.std.specs.List.{Any}
use Rattle.std.specs.Option.{option_map}
use Rattle.std.proofs.lemmas.List.Sums.{sum_by-cons}
use Rattle.slub_trace.specs.declared.reply.Reply.{Reply}
use Rattle.slub_words.specs.declared.board.BoardWord.{BoardWord}
use Rattle.slub_core.specs.Round.{freed_over}
use Rattle.std.proofs.lemmas.Bool.{cases_eq, cases_Bool, eq-eqb, ne_eqb, leb-true, not-false, ltb-true, false≢true}
use Rattle.std.proofs.lemmas.Grind.{common_steps}
use Rattle.slub_object_layout.specs.declared.layout.Layout.{Layout}
use Rattle.slub_object_layout.specs.Layout.{address_of}
use Rattle.slub_page_pool.specs.FreeFrames.{FreeFrames}
use Rattle.slub_trace.specs.declared.damage.Damage.{Damage}
use Rattle.slub_red_zone.specs.declared.checked.Run.{Run}
use Rattle.slub_red_zone.specs.declared.checked.CheckedGive.{CheckedGive}
use Rattle.slub_red_zone.specs.declared.checked.CheckedGive.TheVariants as give
use Rattle.slub_red_zone.specs.Zones.{red_inactive}
use Rattle.slub_red_zone.specs.State.{CheckedState, slab_of, objects_in, bytes_of}
use Rattle.slub_red_zone.specs.Steps.{Gives, damage_of_used, with_taken, without_slab, with_byte, word_of, place_of}
use Rattle.slub_red_zone.proofs.Objects.{taken-object}
use Rattle.slub_red_zone.proofs.Pokes.{word-in-slot}
use Rattle.slub_red_zone.proofs.Taken.{frame-within, used-object, used-some, used-inside, taken-sound}
use Rattle.slub_red_zone.proofs.Written.{slot-long}
use Rattle.slub_trace.specs.declared.reply.Reply.TheVariants as reply
use Rattle.slub_core.specs.declared.call.CallKind.{CallKind}
use Rattle.slub_core.specs.declared.call.CallKind.TheVariants.{Alloc, Free, Write, Read, Poke, Trim, Flush}
use Rattle.slub_core.specs.declared.local.Answered.{Answered}
use Rattle.slub_core.specs.declared.local.Known.{Known}
use Rattle.slub_core.specs.declared.spot.Spot.TheVariants.{InChecked}
use Rattle.slub_core.specs.declared.spot.CheckedSpot.TheVariants.{DoChecked, AddSlab, LockRun, GiveChecked}
use Rattle.slub_core.specs.Calls.{call_object, call_word, call_offset, call_byte}
use Rattle.slub_core.specs.Setup.{Setup, node_lock, pool_lock}
use Rattle.slub_core.specs.World.{World, LockValue, Checked, Pool, update, pool_of, one_if}
use Rattle.slub_core.specs.Local.{Local, Worker, Change, here, call_of, address_in, run_of, at, loses, noted}
use Rattle.slub_core.specs.Checked.{slabs_of, slabs_in, slot_of, with_slabs, gave, is_spare, run_at, took_back, is_offset, slab_added, do_checked, checked_at_once}
use Rattle.slub_core.specs.Discard.{with_put}
use Rattle.slub_core.specs.Spots.{is_freeing}
use Rattle.slub_core.specs.Listed.{IsCheckedOf}
use Rattle.slub_core.specs.Coherent.{Stands}
use Rattle.slub_core.specs.Replies.{holding, is_given, given_in, freed_in, address_on}
use Rattle.slub_core.specs.Accounted.{had, known_of, IsAccounted}
use Rattle.slub_core.proofs.CheckedBytes.{length-set_slot}
use Rattle.slub_core.proofs.CheckedStep.{the-slabs, shape-size}
use Rattle.slub_core.proofs.CheckedSpots.{held-object}
use Rattle.slub_core.proofs.PoolSpots.{some-run}
use Rattle.slub_core.proofs.TaleReplies.{told-of}
use Rattle.slub_core.proofs.Update.{update_same, update_other}
use Rattle.slub_law_rounds.specs.Contents.{slabs_at, Came, put_after, last_put, IsPut, IsReadByte, IsValue}
use Rattle.slub_law_rounds.specs.Law.{byte_in, is_wrote, wrote, HasBoarded}
use Rattle.slub_law_rounds.proofs.Boards.{address-ungiven, boarded-later}
use Rattle.slub_law_rounds.proofs.Holders.{cache-ungiven, only-holder, unfreed-held}
use Rattle.slub_law_rounds.proofs.Shelves.{boarded-write, boarded-poke, boarded-taken, boarded-gone, boarded-gave, boarded-added}
use Rattle.slub_law_rounds.proofs.Grows.{front-grows, came-later, put-later, has-reply}
use Rattle.slub_law_rounds.proofs.Acts.{HasAt, HasAfter, one-more, at-work, is-between, spare-is, where-held, poke-was, does_write, does_poke, does_free, does_gave, new-run, adds_slab}
use Rattle.slub_law_rounds.proofs.Words.{calm-mild, calm-value, knows-had, put-this, put-other}
use Rattle.slub_law_rounds.proofs.Own.{OwnOf}
use Rattle.slub_law_rounds.proofs.ContentPuts.{WordsOf, IsByteKept, words-calm, same-stays}
use Rattle.slub_law_rounds.proofs.Stores.{here-of, slabs-were, words-write, words-poke}
use Rattle.slub_law_rounds.proofs.Gifts.{words-freed, taken-keeps, gone-keeps, words-corrupt, words-gave, words-empty, words-added}

-- where a change leads
abbrev pub WordsAfter : Setup → World → List (List Answered) → List Worker → Change → Type 0
WordsAfter m opening rest others c = let l = noted c.local c.reply in WordsOf m opening rest c.value l.known l.done others

abbrev pub WordsAt : Setup → World → List (List Answered) → List Worker → (ℕ → LockValue) → Local → Type 0
WordsAt m opening rest others value l = WordsOf m opening rest value l.known l.done others

-- what stands in objects of the board
abbrev pub BoardedAt : Setup → World → List (List Answered) → (ℕ → LockValue) → Local → Type 0
BoardedAt m opening rest value l = HasBoarded m opening (l.done ∷ rest) value

abbrev pub BoardedAfter : Setup → World → List (List Answered) → Change → Type 0
BoardedAfter m opening rest c = HasBoarded m opening ((noted c.local c.reply).done ∷ rest) c.value

-- how often a number was freed
abbrev pub IsOver : List Worker → List (List Answered) → Type 0
IsOver others rest = (o : ℕ) → sum_by (λ (y : Worker). freed_in o y.local.done) others ≡ freed_over o rest

freed-more : (o : ℕ) (ds : List Answered) (d : Answered) (rest : List (List Answered)) → freed_over o (ds ∷ rest) ≤ freed_over o ((d ∷ ds) ∷ rest)
freed-more o ds d rest = let a = sum_by-cons (freed_in o) ds rest in let b = sum_by-cons (freed_in o) (d ∷ ds) rest in omega arith

-- a reply, and no slabs change
pub boarded-reply : (m : Setup) (opening : World) (rest : List (List Answered)) (value after : ℕ → LockValue) (ds : List Answered) (d : Answered) → ((cache : ℕ) → m.checks cache ≡ true → slabs_at m after cache ≡ slabs_at m value cache)
    → HasBoarded m opening (ds ∷ rest) value → HasBoarded m opening ((d ∷ ds) ∷ rest) after
boarded-reply m opening rest value after ds d same has = boarded-later m opening (ds ∷ rest) ((d ∷ ds) ∷ rest) value after (front-grows ds d rest) (λ o. freed-more o ds d rest) same has

pub boarded-none : (m : Setup) (opening : World) (dones : List (List Answered)) (value after : ℕ → LockValue) → ((cache : ℕ) → m.checks cache ≡ true → slabs_at m after cache ≡ slabs_at m value cache) → HasBoarded m opening dones value → HasBoarded m opening dones after
boarded-none m opening dones value after same has = boarded-later m opening dones dones value after (λ ds there. ([], there)) (λ o. omega arith) same has

-- a value that is put where it was
same-slabs : (m : Setup) (value : ℕ → LockValue) (k : ℕ) (old : CheckedState) → value (node_lock k) ≡ Checked old → (cache : ℕ) → m.checks cache ≡ true → slabs_at m (update value (node_lock k) (Checked old)) cache ≡ slabs_at m value cache
same-slabs m value k old was cache checks = elim (cases_eq cache k) [
  | inl e ↦ ap (λ j. slabs_at m (update value (node_lock k) (Checked old)) j) e ∙ ap (slabs_in (m.layout k)) (update_same value (node_lock k) (Checked old) ∙ sym was) ∙ sym (ap (λ j. slabs_at m value j) e)
  | inr other ↦ ap (slabs_in (m.layout cache)) (update_other value (node_lock k) (Checked old) (node_lock cache) (λ e. other (omega arith)))
]

-- ---- a read

read-some : (m : Setup) (opening : World) (dones : List (List Answered)) (cache object : ℕ) (at : ℤ) (put : Option ℕ) (byte : ℕ) → ((v : ℕ) → put ≡ Some v → IsPut m opening dones cache object at v byte)
    → (put ≡ None → (b : BoardWord) → opening.board object ≡ Some b → Came m opening dones cache at byte) → IsReadByte m opening dones cache object at put byte
read-some m opening dones cache object at (Some v) byte to none = to v refl
read-some m opening dones cache object at None byte to none = by (opening.board object) (none refl)
  where
    by : (x : Option BoardWord) → ((b : BoardWord) → x ≡ Some b → Came m opening dones cache at byte) → IfSome x (λ b. Came m opening dones cache at byte)
    by None to = tt
    by (Some b) to = to b refl

-- who wrote a word, and was not given the object since, put something there
wrote-puts : (ds : List Answered) (o word place : ℕ) → given_in o ds ≡ 0 → wrote ds o word ≡ true → last_put ds o word place ≡ None → ⊥
wrote-puts [] o word place none is last = false≢true is
wrote-puts (d ∷ ds) o word place none is last = elim (cases_eq (call_object d.call) o) [
  | inr other ↦ wrote-puts ds o word place (omega arith) (past d.reply (eqb (call_word d.call) word) (ne_eqb (call_object d.call) o other) is) (sym (put-other d ds o word place other) ∙ last)
  | inl same ↦ by d.reply (let z : one_if (is_given d.reply && eqb (call_object d.call) o) ≡ 0 = omega arith in rw (eq-eqb (call_object d.call) o same) at z) (let z = is in rw (eq-eqb (call_object d.call) o same) at z) (sym (put-this d ds o word place same) ∙ last) (λ z w. wrote-puts ds o word place (omega arith) w z)
]
  where
    past : (r : Reply) (b : Bool) → eqb (call_object d.call) o ≡ false → ((is_wrote r && eqb (call_object d.call) o && b) || wrote ds o word) ≡ true → wrote ds o word ≡ true
    past r b other e = by_wrote (is_wrote r) (rw other at e)
      where
        by_wrote : (c : Bool) → ((c && false && b) || wrote ds o word) ≡ true → wrote ds o word ≡ true
        by_wrote true e = e
        by_wrote false e = e

    by : (r : Reply) → one_if (is_given r && true) ≡ 0 → ((is_wrote r && true && eqb (call_word d.call) word) || wrote ds o word) ≡ true → put_after d.call r word place (last_put ds o word place) ≡ None → (last_put ds o word place ≡ None → wrote ds o word ≡ true → ⊥) → ⊥
    by (reply.Given a) none w z rest = omega (arith, none)
    by reply.Wrote none w z rest = elim (cases_Bool (eqb (call_word d.call) word)) [
      | inl hit ↦ none-some _ (sym (rw hit at z))
      | inr missed ↦ rest (rw missed at z) (rw missed at w)
    ]
    by reply.Poked none w z rest = elim (cases_Bool (int_eq (call_offset d.call) (pos (8 * word + place)))) [
      | inl hit ↦ none-some _ (sym (rw hit at z))
      | inr missed ↦ rest (rw missed at z) w
    ]
    by (reply.Freed a) none w z rest = rest z w
    by (reply.Corrupt damage) none w z rest = rest z w
    by reply.NoFrames none w z rest = rest z w
    by reply.NoSuchCache none w z rest = rest z w
    by reply.NoMemory none w z rest = rest z w
    by (reply.IdsSpent t) none w z rest = rest z w
    by reply.NotHeld none w z rest = rest z w
    by (reply.Value v) none w z rest = rest z w
    by reply.OutOfObject none w z rest = rest z w
    by reply.OutOfSlot none w z rest = rest z w
    by reply.NotChecked none w z rest = rest z w
    by (reply.Trimmed n) none w z rest = rest z w
    by reply.Checked none w z rest = rest z w
    by (reply.Flushed n) none w z rest = rest z w

range-read : (xs : List ℕ) (a n p : ℕ) → p < n → get_or (slice_range xs a (a + n)) p 0 ≡ get_or xs (a + p) 0
range-read xs a n p below = grind (arith, common_steps)

range-long : (xs : List ℕ) (a n : ℕ) → a + n ≤ length xs → length (slice_range xs a (a + n)) ≡ n
range-long xs a n fits = grind (arith, common_steps)

value-read : (opening w : World) (x : Worker) (others : List Worker) (rest : List (List Answered)) (old : CheckedState) → x.local.spot ≡ InChecked DoChecked Read → Stands w (x ∷ others) → IsAccounted opening w (x ∷ others)
    → w.value (node_lock x.local.cache) ≡ Checked old → IsCheckedOf w.setup x.local.cache old → rest ≡ map (λ (y : Worker). y.local.done) others → WordsAt w.setup opening rest others w.value x.local → BoardedAt w.setup opening rest w.value x.local
    → let v = word_of old (slot_of x.local) (call_word (call_of x.local)) in IsValue w.setup opening ((one-more x.local (reply.Value v) ∷ x.local.done) ∷ rest) x.local.done (call_of x.local) v
value-read opening w x others rest old is s ac was of are words boarded_at =
    let l = x.local in
    let m = w.setup in
    let ds = l.done in
    let slot = slot_of l in
    let W = call_word (call_of l) in
    let v = word_of old slot W in
    let d = one-more l (reply.Value v) in
    let ok = at-work w x others s in
    let keep = ok.spot.keeps (rw is refl) in
    let place_of_it = where-held opening w x others Read ac (rw is refl) refl keep.1 in
    let mine = here-of opening w x others Read ac (rw is refl) refl in
    let tale = told-of opening w x others ac in
    let used = held-object w x others old s (rw is refl) (rw is refl) was in
    let size : old.layout.object_size ≡ (m.layout l.cache).object_size = ap (λ (l : Layout). l.object_size) of.layout in
    let fits : 8 * (W + 1) ≤ (m.layout l.cache).object_size = leb-true (8 * (W + 1)) (m.layout l.cache).object_size (not-false _ (ok.spot.inside (rw is refl))) in
    let inner : 8 * (W + 1) ≤ old.layout.object_size = omega (arith, size, fits) in
    let b = of.sound.layout.bounds in
    let from = old.layout.left_pad + 8 * W in
    let long = slot-long old.layout (slab_of old slot.frame).bytes slot.index (used-inside old slot of.sound used) in
    let o = call_object (call_of l) in
    let kq : known_of l.known o ≡ here l = ap (known_of l.known) mine.same ∙ mine.knew in
    let held : (here l).held ≡ true = keep.1 in
    let holds : holding ds o ≡ true = sym (tale.holds o (λ f. absurd (false≢true (let z : is_freeing l.spot ≡ false = rw is refl in sym z ∙ f)))) ∙ ap (λ (k : Known). k.held) kq ∙ keep.1 in
    let checks : m.checks (here l).cache ≡ true = ap m.checks keep.2 ∙ (ok.spot.checked (rw is refl)).2 in
    let ends : 8 * (W + 1) ≤ (m.layout (here l).cache).object_size = subst (λ c. 8 * (W + 1) ≤ (m.layout c).object_size) (sym keep.2) fits in
    record {
      cache = l.cache;
      of = place_of_it.cache ∙ ap Some keep.2;
      address = address_in m (here l);
      object = place_of_it.address;
      bytes = slice_range (bytes_of old slot) from (from + 8);
      eight = range-long (bytes_of old slot) from 8 (omega (arith, long, inner, b.inuse.0, b.inuse.1, b.left_pad));
      spelled = word-in-slot old slot W of.sound (used-object old slot of.sound used) inner;
      each = λ place below.
          let byte : byte_in (slabs_at m w.value (here l).cache) (here l) W place ≡ get_or (slice_range (bytes_of old slot) from (from + 8)) place 0
          = slabs-were m w.value l.cache old (here l) W place was keep.2 ∙ ap (λ p. get_or (bytes_of old slot) p 0) (let e : old.layout.left_pad + (8 * W + place) ≡ from + place = omega arith in e) ∙ sym (range-read (bytes_of old slot) from 8 place below) in
          read-some m opening ((d ∷ ds) ∷ rest) l.cache o (pos (address_in m (here l) + (8 * W + place))) (last_put ds o W place) (get_or (slice_range (bytes_of old slot) from (from + 8)) place 0)
          (λ put last.
          let own = subst (OwnOf m opening (ds ∷ rest) w.value ds o W place put) kq (words.0 o W place put) in
          let stands = own held holds checks last ends below in
          put-later m opening (ds ∷ rest) ((d ∷ ds) ∷ rest) l.cache o (pos (address_in m (here l) + (8 * W + place))) put _ (front-grows ds d rest)
          (subst (λ y. IsPut m opening (ds ∷ rest) l.cache o (pos (address_in m (here l) + (8 * W + place))) put y) byte
          (subst (λ c. IsPut m opening (ds ∷ rest) c o (pos (address_in m (here l) + (8 * W + place))) put (byte_in (slabs_at m w.value (here l).cache) (here l) W place)) keep.2 stands)))
          (λ last b on.
          let un = unfreed-held opening w x others o b ac on (ap (λ (k : Known). k.held) kq ∙ keep.1) in
          let where_is : address_in m (here l) ≡ address_of b.frame b.index (m.layout b.cache) = same_Some _ _ (sym place_of_it.address ∙ address-ungiven m opening.board ds o un.0 ∙ ap (address_on m) on) in
          let owner : b.cache ≡ (here l).cache = same_Some b.cache (here l).cache (sym (cache-ungiven opening.board ds o un.0 ∙ ap (option_map (λ (b : BoardWord). b.cache)) on) ∙ place_of_it.cache) in
          let has = boarded_at o (here l).frame (here l).index W place b on (ap m.checks owner ∙ checks) (subst (λ r. freed_over o (ds ∷ r) ≡ 0) (sym are) un.1)
          (subst (λ t. (here l).index < objects_in (slab_of t (here l).frame)) (sym (ap (λ k. slabs_at m w.value k) (owner ∙ keep.2) ∙ ap (slabs_in (m.layout l.cache)) was)) (used-object old slot of.sound used))
          (ap (λ c. address_of (here l).frame (here l).index (m.layout c)) owner ∙ where_is) (subst (λ c. 8 * (W + 1) ≤ (m.layout c).object_size) (sym owner) ends) below in
          elim has [
            | inr any ↦ absurd (only-holder opening w x others o b W ac on (subst (λ r. Any (λ own. wrote own o W ≡ true) (ds ∷ r)) are any) (ap (λ (k : Known). k.held) kq ∙ keep.1) (λ mine_wrote. wrote-puts ds o W place un.0 mine_wrote last) s)
            | inl came ↦ (
                let stood = came-later m opening (ds ∷ rest) ((d ∷ ds) ∷ rest) b.cache (front-grows ds d rest) _ _ came in
                let here_byte : get_or (bytes_of (slabs_at m w.value b.cache) (record { frame = (here l).frame; index = (here l).index })) ((slabs_at m w.value b.cache).layout.left_pad + (8 * W + place)) 0 ≡ get_or (slice_range (bytes_of old slot) from (from + 8)) place 0
                = ap (λ k. byte_in (slabs_at m w.value k) (here l) W place) owner ∙ byte in
                subst (λ y. Came m opening ((d ∷ ds) ∷ rest) l.cache (pos (address_in m (here l) + (8 * W + place))) y) here_byte
                (subst (λ a. Came m opening ((d ∷ ds) ∷ rest) l.cache (pos (a + (8 * W + place))) (get_or (bytes_of (slabs_at m w.value b.cache) (record { frame = (here l).frame; index = (here l).index })) ((slabs_at m w.value b.cache).layout.left_pad + (8 * W + place)) 0)) (sym where_is)
                (subst (λ k. Came m opening ((d ∷ ds) ∷ rest) k (pos (address_of b.frame b.index (m.layout b.cache) + (8 * W + place))) (get_or (bytes_of (slabs_at m w.value b.cache) (record { frame = (here l).frame; index = (here l).index })) ((slabs_at m w.value b.cache).layout.left_pad + (8 * W + place)) 0)) (owner ∙ keep.2) stood)))
          ]);
    }

-- ---- call by call

over-map : (xs : List Worker) → IsOver xs (map (λ (y : Worker). y.local.done) xs)
over-map [] o = refl
over-map (y ∷ ys) o =
    let a = sum_by-cons (λ (y : Worker). freed_in o y.local.done) y ys in
    let b = sum_by-cons (freed_in o) y.local.done (map (λ (y : Worker). y.local.done) ys) in
    let r = over-map ys o in
    omega arith

pub over-of : (others : List Worker) (rest : List (List Answered)) → rest ≡ map (λ (y : Worker). y.local.done) others → IsOver others rest
over-of others rest are = subst (IsOver others) (sym are) (over-map others)

abbrev DoesBoth : CallKind → Type 0
DoesBoth kind = (opening w : World) (x : Worker) (others : List Worker) (rest : List (List Answered)) (old : CheckedState) → x.local.spot ≡ InChecked DoChecked kind → Stands w (x ∷ others) → IsAccounted opening w (x ∷ others)
    → w.value (node_lock x.local.cache) ≡ Checked old → IsCheckedOf w.setup x.local.cache old → rest ≡ map (λ (y : Worker). y.local.done) others → HasAt w.setup opening rest w.value x.local → WordsAt w.setup opening rest others w.value x.local → BoardedAt w.setup opening rest w.value x.local
    → HasAfter w.setup opening rest (do_checked w.setup w.value x.local kind old) × WordsAfter w.setup opening rest others (do_checked w.setup w.value x.local kind old) × BoardedAfter w.setup opening rest (do_checked w.setup w.value x.local kind old)

both_write : DoesBoth Write
both_write opening w x others rest old is s ac was of are has words board = (does_write opening w x others rest old is s ac was of has, words-write opening w x others rest old s ac was of is words, boarded-write opening w x others rest (over-of others rest are) old s ac (rw is refl) was of is board)

both_read : DoesBoth Read
both_read opening w x others rest old is s ac was of are has words board =
    let v = word_of old (slot_of x.local) (call_word (call_of x.local)) in
    let d = one-more x.local (reply.Value v) in (
      has-reply w.setup opening w.value x.local.done rest d (λ checked. value-read opening w x others rest old is s ac was of are words board) has,
      words-calm w.setup opening rest w.value w.value x.local.known x.local.done d others (calm-value v) (λ o word place held checks ends below. refl) (λ k e below o word place held checks ends few. refl) words,
      boarded-reply w.setup opening rest w.value w.value x.local.done d (λ cache checks. refl) board,
    )

-- the worker has had the object that it pokes
had-some : (opening w : World) (x : Worker) (others : List Worker) → IsAccounted opening w (x ∷ others) → x.local.spot ≡ InChecked DoChecked Poke → 1 ≤ (here x.local).frame → 1 ≤ had (here x.local).object x.local
had-some opening w x others ac is real =
    let l = x.local in
    let o = (here l).object in
    let tale = told-of opening w x others ac in
    let mine = here-of opening w x others Poke ac (rw is refl) refl in
    let holds = tale.holds o (λ f. absurd (false≢true (let z : is_freeing l.spot ≡ false = rw is refl in sym z ∙ f))) in
    let by_held : (known_of l.known o).held ≡ true → 1 ≤ had o l = λ h. (let e : one_if (known_of l.known o).held ≡ 1 = ap one_if h in omega arith) in
    elim (tale.unknown o (subst (λ (k : Known). 1 ≤ k.frame) (sym mine.knew) real)) [
      | inl known ↦ elim (knows-had l.done o known) [ inl h ↦ by_held (holds ∙ h) | inr freed ↦ omega arith ]
      | inr held ↦ by_held held
    ]

both_poke : DoesBoth Poke
both_poke opening w x others rest old is s ac was of are has words board =
    let p = by_place (is_offset old.layout (call_offset (call_of x.local))) (nat_lt (here x.local).index (objects_in (slab_of old (here x.local).frame))) refl refl in
    (does_poke opening w x others rest old is s ac was of has, p.0, p.1)
  where
    poked_as : Bool → Bool → Change
    poked_as inside there = record {
      value = with_slabs w.value x.local (if inside && there then with_byte old (slot_of x.local) (call_offset (call_of x.local)) (call_byte (call_of x.local)) else old);
      local = at x.local (InChecked GiveChecked Poke);
      reply = Some (if inside then (if there then reply.Poked else reply.NotHeld) else reply.OutOfSlot);
    }

    by_place : (inside there : Bool) → is_offset old.layout (call_offset (call_of x.local)) ≡ inside → nat_lt (here x.local).index (objects_in (slab_of old (here x.local).frame)) ≡ there → WordsAfter w.setup opening rest others (poked_as inside there) × BoardedAfter w.setup opening rest (poked_as inside there)
    by_place true true e f =
        let ok = at-work w x others s in
        let k = ok.spot.pokes (rw is refl) in
        let put = poke-was opening w x others rest old is s ac of in (
          words-poke opening w x others rest old s ac was of is (is-between (pos 0) (place_of old.layout (call_offset (call_of x.local))) (pos old.layout.size) e)
              (ltb-true (here x.local).index (objects_in (slab_of old (here x.local).frame)) f) put (put, refl) (had-some opening w x others ac is k.2) words,
          boarded-poke opening w x others rest (over-of others rest are) old s ac (rw is refl) was of (is-between (pos 0) (place_of old.layout (call_offset (call_of x.local))) (pos old.layout.size) e)
              (ltb-true (here x.local).index (objects_in (slab_of old (here x.local).frame)) f) k.1 put board,
        )
    by_place true false e f = (
      words-calm w.setup opening rest w.value (with_slabs w.value x.local old) x.local.known x.local.done (one-more x.local reply.NotHeld) others (calm-mild reply.NotHeld tt)
          (λ o. same-stays w x old (known_of x.local.known o) was) (λ k d below o. same-stays w x old (known_of (get_or others k d).local.known o) was) words,
      boarded-reply w.setup opening rest w.value (with_slabs w.value x.local old) x.local.done (one-more x.local reply.NotHeld) (same-slabs w.setup w.value x.local.cache old was) board,
    )
    by_place false there e f = (
      words-calm w.setup opening rest w.value (with_slabs w.value x.local old) x.local.known x.local.done (one-more x.local reply.OutOfSlot) others (calm-mild reply.OutOfSlot tt)
          (λ o. same-stays w x old (known_of x.local.known o) was) (λ k d below o. same-stays w x old (known_of (get_or others k d).local.known o) was) words,
      boarded-reply w.setup opening rest w.value (with_slabs w.value x.local old) x.local.done (one-more x.local reply.OutOfSlot) (same-slabs w.setup w.value x.local.cache old was) board,
    )

both_free : DoesBoth Free
both_free opening w x others rest old is s ac was of are has words board = let p = by_damage (damage_of_used old (slot_of x.local)) refl in (does_free opening w x others rest old is s ac was of has, p.0, p.1)
  where
    back : (spare : Bool) → damage_of_used old (slot_of x.local) ≡ None → is_spare w.setup (with_taken old (slot_of x.local)) x.local.cache (here x.local).frame ≡ spare → let c : Change = (record {
      value = with_slabs w.value x.local (if spare then without_slab (with_taken old (slot_of x.local)) (here x.local).frame else with_taken old (slot_of x.local));
      local = record (loses x.local) {
        run = (if spare then Some (run_at (with_taken old (slot_of x.local)) (here x.local).frame) else None);
        spot = (if spare then InChecked LockRun Free else InChecked GiveChecked Free);
      };
      reply = Some (reply.Freed (address_in w.setup (here x.local)));
    }) in WordsAfter w.setup opening rest others c × BoardedAfter w.setup opening rest c
    back true none e =
        let slot = slot_of x.local in
        let f = (here x.local).frame in
        let mid = with_taken old slot in
        let used = held-object w x others old s (rw is refl) (rw is refl) was in
        let sound = taken-sound old slot of.sound used (length-set_slot old.layout old.flags red_inactive (slab_of old f).bytes slot.index of.sound.layout.bounds (used-inside old slot of.sound used)) in
        let size = shape-size old mid f ((taken-object old slot of.sound used).slabs.shape f) in
        let some = used-some old slot of.sound used in
        let spare = spare-is w.setup mid x.local.cache f e in (
          words-freed opening w x others rest old s ac was of (without_slab mid f) (address_in w.setup (here x.local)) (record (here x.local) { held = false }) is refl refl
              (gone-keeps opening w x others rest old s ac was of is none sound (w.setup.layout x.local.cache).min_partial spare (omega (arith, size, some))) words,
          boarded-gone opening w x others rest (over-of others rest are) old s ac (rw is refl) was of (address_in w.setup (here x.local)) f is none (frame-within old f of.sound some) board,
        )
    back false none e = (
      words-freed opening w x others rest old s ac was of (with_taken old (slot_of x.local)) (address_in w.setup (here x.local)) (record (here x.local) { held = false }) is refl refl
          (taken-keeps opening w x others rest old s ac was of is none) words,
      boarded-taken opening w x others rest (over-of others rest are) old s ac (rw is refl) was of (address_in w.setup (here x.local)) is none board,
    )

    by_damage : (damage : Option Damage) → damage_of_used old (slot_of x.local) ≡ damage → WordsAfter w.setup opening rest others (took_back w.setup w.value x.local old damage) × BoardedAfter w.setup opening rest (took_back w.setup w.value x.local old damage)
    by_damage None e = back (is_spare w.setup (with_taken old (slot_of x.local)) x.local.cache (here x.local).frame) e refl
    by_damage (Some damage) e = (words-corrupt opening w x others rest old s ac was of damage is words, boarded-reply w.setup opening rest w.value w.value x.local.done (one-more x.local (reply.Corrupt damage)) (λ cache checks. refl) board)

words_given : (opening w : World) (x : Worker) (others : List Worker) (rest : List (List Answered)) (old after : CheckedState) (answer : CheckedGive) → x.local.spot ≡ InChecked DoChecked Alloc → Stands w (x ∷ others) → IsAccounted opening w (x ∷ others)
    → w.value (node_lock x.local.cache) ≡ Checked old → IsCheckedOf w.setup x.local.cache old → Gives old answer after → rest ≡ map (λ (y : Worker). y.local.done) others → WordsAt w.setup opening rest others w.value x.local → BoardedAt w.setup opening rest w.value x.local
    → WordsAfter w.setup opening rest others (gave w.setup w.value x.local after answer) × BoardedAfter w.setup opening rest (gave w.setup w.value x.local after answer)
words_given opening w x others rest old after give.Empty is s ac was of gives are words board =
    (words-empty opening w x others rest old s ac was of after is gives words, boarded-gave opening w x others rest (over-of others rest are) old s ac (rw is refl) was of give.Empty after (x.local.done ∷ rest) (λ ds there. ([], there)) (λ o. omega arith) gives board)
words_given opening w x others rest old after (give.Given slot) is s ac was of gives are words board =
    let d = one-more x.local (reply.Given (address_of slot.frame slot.index (w.setup.layout x.local.cache))) in (
      words-gave opening w x others rest old s ac was of slot after (address_of slot.frame slot.index (w.setup.layout x.local.cache)) (record { object = (here x.local).object; frame = slot.frame; index = slot.index; cache = x.local.cache; held = true }) is gives refl words,
      boarded-gave opening w x others rest (over-of others rest are) old s ac (rw is refl) was of (give.Given slot) after ((d ∷ x.local.done) ∷ rest) (front-grows x.local.done d rest) (λ o. freed-more o x.local.done d rest) gives board,
    )

by-kind : (kind : CallKind) → DoesBoth kind
by-kind Alloc opening w x others rest old is s ac was of are has words board =
    let gives = w.setup.means.gives old of.sound in
    let p = words_given opening w x others rest old (w.setup.means.give old) (w.setup.means.gave old) is s ac was of gives are words board in
    (does_gave opening w x others rest old (w.setup.means.give old) (w.setup.means.gave old) is s was of gives has, p.0, p.1)
by-kind Free opening w x others rest old is s ac was of are has words board = both_free opening w x others rest old is s ac was of are has words board
by-kind Write opening w x others rest old is s ac was of are has words board = both_write opening w x others rest old is s ac was of are has words board
by-kind Read opening w x others rest old is s ac was of are has words board = both_read opening w x others rest old is s ac was of are has words board
by-kind Poke opening w x others rest old is s ac was of are has words board = both_poke opening w x others rest old is s ac was of are has words board
by-kind Trim opening w x others rest old is s ac was of are has words board = (has, words, board)
by-kind Flush opening w x others rest old is s ac was of are has words board = (has, words, board)

pub does_checked : (kind : CallKind) (opening w : World) (x : Worker) (others : List Worker) (rest : List (List Answered)) → x.local.spot ≡ InChecked DoChecked kind → Stands w (x ∷ others) → IsAccounted opening w (x ∷ others)
    → rest ≡ map (λ (y : Worker). y.local.done) others → HasAt w.setup opening rest w.value x.local → WordsAt w.setup opening rest others w.value x.local → BoardedAt w.setup opening rest w.value x.local
    → let c = do_checked w.setup w.value x.local kind (slabs_of w.setup w.value x.local) in HasAfter w.setup opening rest c × WordsAfter w.setup opening rest others c × BoardedAfter w.setup opening rest c
does_checked kind opening w x others rest is s ac are has words board =
    let r = the-slabs w x others s (rw is refl) in
    let e : slabs_of w.setup w.value x.local ≡ r.0 = ap (slabs_in (w.setup.layout x.local.cache)) r.1 in
    subst (λ slabs. HasAfter w.setup opening rest (do_checked w.setup w.value x.local kind slabs) × WordsAfter w.setup opening rest others (do_checked w.setup w.value x.local kind slabs) × BoardedAfter w.setup opening rest (do_checked w.setup w.value x.local kind slabs)) (sym e) (by-kind kind opening w x others rest r.0 is s ac r.1 r.2 are has words board)

-- ---- a new slab

-- a pool's value is none of a checked cache
pool-stays : (m : Setup) (value : ℕ → LockValue) (pool : FreeFrames) (q : Known) → IsByteKept m value (update value pool_lock (Pool pool)) q
pool-stays m value pool q word place held checks ends below = ap (λ v. byte_in (slabs_in (m.layout q.cache) v) q word place) (update_other value pool_lock (Pool pool) (node_lock q.cache) (λ e. absurd (omega arith)))

pub both_added : (opening w : World) (x : Worker) (others : List Worker) (rest : List (List Answered)) (refused : Bool) (kind : CallKind) → x.local.spot ≡ InChecked AddSlab kind → Stands w (x ∷ others) → IsAccounted opening w (x ∷ others)
    → rest ≡ map (λ (y : Worker). y.local.done) others → HasAt w.setup opening rest w.value x.local → WordsAt w.setup opening rest others w.value x.local → BoardedAt w.setup opening rest w.value x.local
    → let c = checked_at_once w.setup refused w.value x.local AddSlab kind in HasAfter w.setup opening rest c × WordsAfter w.setup opening rest others c × BoardedAfter w.setup opening rest c
both_added opening w x others rest true kind is s ac are has words board = (
  adds_slab opening w x others rest true kind is s has,
  (let pool = with_put (pool_of w) (run_of x.local) in
      words-calm w.setup opening rest w.value (update w.value pool_lock (Pool pool)) x.local.known x.local.done (one-more x.local reply.NoMemory) others (calm-mild reply.NoMemory tt)
      (λ o. pool-stays w.setup w.value pool (known_of x.local.known o)) (λ k d below o. pool-stays w.setup w.value pool (known_of (get_or others k d).local.known o)) words),
  boarded-reply w.setup opening rest w.value (update w.value pool_lock (Pool (with_put (pool_of w) (run_of x.local)))) x.local.done (one-more x.local reply.NoMemory)
      (λ cache checks. ap (slabs_in (w.setup.layout cache)) (update_other w.value pool_lock (Pool (with_put (pool_of w) (run_of x.local))) (node_lock cache) (λ e. absurd (omega arith)))) board,
)
both_added opening w x others rest false kind is s ac are has words board = (
  adds_slab opening w x others rest false kind is s has,
  (let ok = at-work w x others s in
      let r = the-slabs w x others s (rw is refl) in
      let e : slabs_of w.setup w.value x.local ≡ r.0 = ap (slabs_in (w.setup.layout x.local.cache)) r.1 in
      let run = run_of x.local in
      let as_run : Run = record { frame = run.frame; order = run.order } in
      let fits = new-run w x others kind run r.0 is (some-run x.local.run (ok.spot.run (rw is refl))) s r.1 r.2 in
      subst (λ slabs. WordsAfter w.setup opening rest others (slab_added w.setup w.value x.local slabs run)) (sym e)
      (words-added opening w x others rest r.0 s ac r.1 r.2 as_run run.objects (address_of run.frame 0 (w.setup.layout x.local.cache)) (record { object = (here x.local).object; frame = run.frame; index = 0; cache = x.local.cache; held = true })
      (rw is refl) (rw is refl) (ok.spot.awaits (rw is refl)).0 refl fits.none fits.fresh fits.first fits.last fits.sized words)),
  (let ok = at-work w x others s in
      let r = the-slabs w x others s (rw is refl) in
      let e : slabs_of w.setup w.value x.local ≡ r.0 = ap (slabs_in (w.setup.layout x.local.cache)) r.1 in
      let run = run_of x.local in
      let mine = some-run x.local.run (ok.spot.run (rw is refl)) in
      let fits = new-run w x others kind run r.0 is mine s r.1 r.2 in
      subst (λ slabs. BoardedAfter w.setup opening rest (slab_added w.setup w.value x.local slabs run)) (sym e)
      (boarded-added opening w x others rest (over-of others rest are) r.0 s ac (rw is refl) r.1 r.2 run (address_of run.frame 0 (w.setup.layout x.local.cache)) mine fits.none fits.fresh fits.first fits.last fits.sized board)),
)
