-- One checked cache through the calls on its slabs: examined bytes, reports and objects set aside.
use Rattle.std.proofs.Common.{◌≡◌, ℕ, zero, suc, ◌+◌, ◌*◌, ◌<◌, ◌≤◌, Ok, List, [], ◌∷◌, ◌++◌, length, map, get_or, set, replicate, drop, Option, Some, None, unwrap_or, refl, sym, ap, ◌∙◌, subst, arith, inl, inr, ℤ}
use Rattle.std.specs.Prelude.{slice_get, pos, nat_abs, ◌+ℤ◌, count_by}
use Rattle.std.specs.List.{Any, Contains}
use Rattle.std.proofs.Math.IntN.{+ℤ_assoc, pos-+ℤ-pos}
use Rattle.std.proofs.lemmas.Bool.{cases_eq, cases_lt}
use Rattle.std.proofs.lemmas.List.{append_assoc, append-nil}
use Rattle.std.proofs.lemmas.List.Elements.{All-nil, All-cons, All-append, All-weaker, Contains-append_left, Contains-append_right}
use Rattle.std.proofs.lemmas.Option.{slice_get_past}
use Rattle.slub_common.proofs.Writes.{at_written}
use Rattle.slub_object_layout.specs.declared.layout.Layout.{Layout}
use Rattle.slub_object_layout.specs.Layout.{address_of, IsSized}
use Rattle.slub_red_zone.specs.declared.slab.ObjectState.{ObjectState}
use Rattle.slub_red_zone.specs.declared.slab.ObjectState.TheVariants.{Free, Used, Aside}
use Rattle.slub_red_zone.specs.declared.checked.CheckedGive.{CheckedGive}
use Rattle.slub_red_zone.specs.declared.checked.CheckedGive.TheVariants as give
use Rattle.slub_red_zone.specs.declared.checked.Run.{Run}
use Rattle.slub_red_zone.specs.declared.checked.Slot.{Slot}
use Rattle.slub_trace.specs.declared.damage.Damage.{Damage}
use Rattle.slub_trace.specs.declared.damage.Report.{Report}
use Rattle.slub_red_zone.specs.State.{SlabState, CheckedState, Has, IsUsed, no_slab, slab_at, slab_of, state_of, is_free, is_aside, objects_in, aside_in, bytes_of}
use Rattle.slub_red_zone.specs.Sound.{IsSound}
use Rattle.slub_red_zone.specs.Steps.{Gives, IsNext, IsOffset, IsSpare, place_of, damage_of_free, damage_of_used, next_is_damaged, next_is_whole, nothing_listed, new_slab, report_of, set_aside, slab_set_aside, slab_with_given, slab_with_taken, with_byte, with_damaged, with_given, with_new_slab, with_taken, with_word, without_slab}
use Rattle.slub_red_zone.specs.declared.zones.Part.{Part}
use Rattle.slub_red_zone.specs.Bytes.{Tells}
use Rattle.slub_red_zone.specs.Zones.{examined_free, examined_used}
use Rattle.slub_red_zone.specs.Told.{SetsNoneAside}
use Rattle.slub_red_zone.proofs.Counting.{one_if, count-set, got, kinds-sum}
use Rattle.slub_red_zone.proofs.Given.{damaged-sound, next-frame, next-inside, next-slab}
use Rattle.slub_red_zone.proofs.NewSlabs.{with-new-sound, giving-new}
use Rattle.slub_red_zone.proofs.NoneAside as none_aside
use Rattle.slub_red_zone.proofs.OneSlab.{given-counts}
use Rattle.slub_red_zone.proofs.Parts.{given-tells, taken-tells}
use Rattle.slub_red_zone.proofs.Sums.{slab_at-set}
use Rattle.slub_red_zone.proofs.Taken.{used-inside}
use Rattle.slub_red_zone.proofs.Telling.{slab_at-other}
use Rattle.slub_red_zone.proofs.Written.{slot-long}
use Rattle.slub_law_rounds.proofs.Bytes.{offset-place, poke-address}
use Rattle.slub_law_rounds.proofs.Clean.{aside-clean, parts_of, parts-fit, poked-clean, slot-byte, written-clean}
use Rattle.slub_law_rounds.proofs.Cleaning.{Clean, back-clean, by_place, clean-with, coming-clean, gone-clean, next-given}
use Rattle.slub_law_rounds.proofs.Founds.{first-state}
use Rattle.slub_law_rounds.specs.Contents.{IsDamage, IsReport, IsReportIn, KeepsSlabs}

-- what a call on its slabs does: what was set aside stays so, and examined bytes are whole or came there
pub record Goes (came : ℤ → ℕ → Type 0) (old new : CheckedState) : Type 0 where
  pub keeps : KeepsSlabs came old new
  pub stays : (slot : Slot) → state_of old slot ≡ Some Aside → state_of new slot ≡ Some Aside
  pub bytes : Clean came new

-- ---- one call after another

abbrev report-later : (came : ℤ → ℕ → Type 0) (old new : CheckedState) (report : Report) → Goes came old new → IsReport came old report → IsReport came new report
report-later came old new report goes told = record {
  slot = told.slot;
  aside = goes.stays told.slot told.aside;
  cache = told.cache ∙ sym goes.keeps.number;
  address = told.address ∙ ap (address_of told.slot.frame told.slot.index) (sym goes.keeps.layout);
  bad = told.bad;
}

pub any-left : {X : Type 0} (P : X → Type 0) (xs ys : List X) → Any P xs → Any P (xs ++ ys)
any-left P xs ys any = let c = Contains-append_left xs ys any.1 (any.0, any.2, any.3) in (c.0, any.1, c.1, c.2, any.4)

pub any-right : {X : Type 0} (P : X → Type 0) (xs ys : List X) → Any P ys → Any P (xs ++ ys)
any-right P xs ys any = let c = Contains-append_right xs ys any.1 (any.0, any.2, any.3) in (c.0, any.1, c.1, c.2, any.4)

pub keeps-more : (came : ℤ → ℕ → Type 0) (first old new : CheckedState) → KeepsSlabs came first old → Goes came old new → KeepsSlabs came first new
keeps-more came first old new was goes =
    let now = goes.keeps in
    record {
      number = now.number ∙ was.number;
      layout = now.layout ∙ was.layout;
      found = was.found ++ now.found;
      added = now.added ∙ ap (λ rs. rs ++ now.found) was.added ∙ append_assoc first.reports was.found now.found;
      told = All-append (IsReport came new) was.found now.found (All-weaker (IsReport came old) (IsReport came new) (λ r told. report-later came old new r goes told) was.found was.told) now.told;
      aside = λ slot is.
          elim (now.aside slot is) [
            | inr any ↦ inr (any-right (IsReportIn came new slot.frame) was.found now.found any)
            | inl before ↦ elim (was.aside slot before) [
              | inl first ↦ inl first
              | inr any ↦ inr (any-left (IsReportIn came new slot.frame) was.found now.found (any.0, any.1, any.2, any.3, (report-later came old new any.1 goes any.4.0, any.4.1)))
            ]
          ];
      more_aside = λ frame more.
          elim (cases_lt (aside_in (slab_of first frame)) (aside_in (slab_of old frame))) [
            | inl before ↦
                let any = was.more_aside frame before in
                any-left (IsReportIn came new frame) was.found now.found (any.0, any.1, any.2, any.3, (report-later came old new any.1 goes any.4.0, any.4.1))
            | inr after ↦ any-right (IsReportIn came new frame) was.found now.found (now.more_aside frame (omega (arith, more, after)))
          ];
    }

pub goes-more : (came : ℤ → ℕ → Type 0) (first old new : CheckedState) → Goes came first old → Goes came old new → Goes came first new
goes-more came first old new a b = record {
  keeps = keeps-more came first old new a.keeps b;
  stays = λ slot is. b.stays slot (a.stays slot is);
  bytes = b.bytes;
}

-- ---- states of objects

-- one slab is written
stays-with : (s : CheckedState) (frame : ℕ) (x : Option SlabState) (listed : List ℕ) (reports : List Report)
    → ((index : ℕ) → slice_get (slab_of s frame).states index ≡ Some Aside → slice_get (unwrap_or x no_slab).states index ≡ Some Aside)
    → (slot : Slot) → state_of s slot ≡ Some Aside → state_of (record s { slabs = set s.slabs frame x; listed = listed; reports = reports }) slot ≡ Some Aside
stays-with s frame x listed reports kept slot is =
    at_written (λ y. slice_get (unwrap_or y no_slab).states slot.index ≡ Some Aside) s.slabs frame slot.frame x None
    (λ same. kept slot.index (subst (λ f. slice_get (slab_of s f).states slot.index ≡ Some Aside) same is)) is

-- the other way
comes-with : (s : CheckedState) (frame : ℕ) (x : Option SlabState) (listed : List ℕ) (reports : List Report)
    → ((index : ℕ) → slice_get (unwrap_or x no_slab).states index ≡ Some Aside → slice_get (slab_of s frame).states index ≡ Some Aside)
    → (slot : Slot) → state_of (record s { slabs = set s.slabs frame x; listed = listed; reports = reports }) slot ≡ Some Aside → state_of s slot ≡ Some Aside
comes-with s frame x listed reports kept slot =
    at_written (λ y. slice_get (unwrap_or y no_slab).states slot.index ≡ Some Aside → state_of s slot ≡ Some Aside) s.slabs frame slot.frame x None
    (λ same is. subst (λ f. slice_get (slab_of s f).states slot.index ≡ Some Aside) (sym same) (kept slot.index is)) (λ is. is)

set-comes : (states : List ObjectState) (i : ℕ) (new : ObjectState) → (Some new ≡ Some Aside → ⊥) → (j : ℕ) → slice_get (set states i new) j ≡ Some Aside → slice_get states j ≡ Some Aside
set-comes [] i new other j is = is
set-comes (x ∷ xs) zero new other zero is = absurd (other is)
set-comes (x ∷ xs) zero new other (suc j) is = is
set-comes (x ∷ xs) (suc i) new other zero is = is
set-comes (x ∷ xs) (suc i) new other (suc j) is = set-comes xs i new other j is

none-there : (j : ℕ) → slice_get no_slab.states j ≡ Some Aside → ⊥
none-there j is = let none = sym (slice_get_past no_slab.states j (omega arith)) ∙ is in cc

new-free : (n j : ℕ) → slice_get (replicate n Free) j ≡ Some Aside → ⊥
new-free zero j is = none-there j is
new-free (suc n) zero is = cc
new-free (suc n) (suc j) is = new-free n j is

-- another object's state is
set-stays : (states : List ObjectState) (i : ℕ) (old new : ObjectState) → slice_get states i ≡ Some old → (Some old ≡ Some Aside → ⊥) → (j : ℕ) → slice_get states j ≡ Some Aside → slice_get (set states i new) j ≡ Some Aside
set-stays [] i old new was other j is = is
set-stays (x ∷ xs) zero old new was other zero is = absurd (other (sym was ∙ is))
set-stays (x ∷ xs) zero old new was other (suc j) is = is
set-stays (x ∷ xs) (suc i) old new was other zero is = is
set-stays (x ∷ xs) (suc i) old new was other (suc j) is = set-stays xs i old new was other j is

-- all free objects are set aside
map-stays : (states : List ObjectState) (j : ℕ) → slice_get states j ≡ Some Aside → slice_get (map set_aside states) j ≡ Some Aside
map-stays [] j is = is
map-stays (Free ∷ xs) zero is = refl
map-stays (Used ∷ xs) zero is = absurd (cc)
map-stays (Aside ∷ xs) zero is = refl
map-stays (x ∷ xs) (suc j) is = map-stays xs j is

map-sets : (states : List ObjectState) (j : ℕ) → slice_get states j ≡ Some Free → slice_get (map set_aside states) j ≡ Some Aside
map-sets [] j is = absurd (cc)
map-sets (Free ∷ xs) zero is = refl
map-sets (Used ∷ xs) zero is = absurd (cc)
map-sets (Aside ∷ xs) zero is = absurd (cc)
map-sets (x ∷ xs) (suc j) is = map-sets xs j is

-- where all are free none is set aside
all-free : (states : List ObjectState) (j : ℕ) → count_by is_free states ≡ length states → slice_get states j ≡ Some Aside → ⊥
all-free states j all is =
    let inside : j < length states = elim (cases_lt j (length states)) [
      | inl below ↦ below
      | inr past ↦ absurd (let none = sym (slice_get_past states j past) ∙ is in cc)
    ] in
    let count = count-set is_aside states j Free Aside inside in
    let mine : one_if (is_aside (get_or states j Aside)) ≡ 1 = ap (λ x. one_if (is_aside x)) (got states j Aside is) in
    let kinds = kinds-sum states in
    omega (arith, all, count, mine, kinds)

free-apart : Some Free ≡ Some Aside → ⊥
free-apart e = cc

used-apart : Some Used ≡ Some Aside → ⊥
used-apart e = cc

-- ---- calls that find nothing

quiet-keeps : (came : ℤ → ℕ → Type 0) (old new : CheckedState) → new.cache ≡ old.cache → new.layout ≡ old.layout → new.reports ≡ old.reports → SetsNoneAside old new → ((slot : Slot) → state_of new slot ≡ Some Aside → state_of old slot ≡ Some Aside) → KeepsSlabs came old new
quiet-keeps came old new number layout reports none comes = record {
  number = number;
  layout = layout;
  found = [];
  added = reports ∙ sym (append-nil old.reports);
  told = All-nil (IsReport came new);
  aside = λ slot is. inl (comes slot is);
  more_aside = λ frame more. absurd (let few = none frame in omega (arith, more, few));
}

pub goes-none : (came : ℤ → ℕ → Type 0) (s : CheckedState) → Clean came s → Goes came s s
goes-none came s clean = record { keeps = quiet-keeps came s s refl refl refl (λ frame. omega arith) (λ slot is. is); stays = λ slot is. is; bytes = clean }

-- an object is taken back
pub goes-taken : (came : ℤ → ℕ → Type 0) (s : CheckedState) (slot : Slot) → IsSound s → IsUsed s slot → damage_of_used s slot ≡ None → Clean came s → Goes came s (with_taken s slot)
goes-taken came s slot sound used none clean = record {
  keeps = quiet-keeps came s (with_taken s slot) refl refl refl (none_aside.taken s slot (Ok tt) (with_taken s slot) sound used (none, refl))
      (comes-with s slot.frame (Some (slab_with_taken s.layout s.flags (slab_of s slot.frame) slot.index)) (with_taken s slot).listed s.reports (set-comes (slab_of s slot.frame).states slot.index Free free-apart));
  stays = stays-with s slot.frame (Some (slab_with_taken s.layout s.flags (slab_of s slot.frame) slot.index)) (with_taken s slot).listed s.reports (set-stays (slab_of s slot.frame).states slot.index Used Free used used-apart);
  bytes = back-clean came s slot sound used clean;
}

-- a slab whose objects are all free is there no more
pub goes-gone : (came : ℤ → ℕ → Type 0) (s : CheckedState) (frame limit : ℕ) → IsSpare s frame limit → count_by is_free (slab_of s frame).states ≡ objects_in (slab_of s frame) → Clean came s → Goes came s (without_slab s frame)
goes-gone came s frame limit spare all clean = record {
  keeps = quiet-keeps came s (without_slab s frame) refl refl refl (none_aside.gone s frame limit (Some (record { frame = frame; order = (slab_of s frame).order })) (without_slab s frame) (spare, refl, refl))
      (comes-with s frame None (without_slab s frame).listed s.reports (λ index is. absurd (none-there index is)));
  stays = stays-with s frame None (without_slab s frame).listed s.reports (λ index is. absurd (all-free (slab_of s frame).states index all is));
  bytes = gone-clean came s frame clean;
}

-- a byte is poked
pub goes-poked : (came : ℤ → ℕ → Type 0) (s : CheckedState) (slot : Slot) (offset : ℤ) (byte : ℕ) → IsSound s → IsOffset s.layout offset → came (pos (address_of slot.frame slot.index s.layout) +ℤ offset) byte → Clean came s → Goes came s (with_byte s slot offset byte)
goes-poked came s slot offset byte sound inside did clean = record {
  keeps = quiet-keeps came s (with_byte s slot offset byte) refl refl refl (none_aside.poked s slot offset byte (Ok tt) (with_byte s slot offset byte) (inside, refl)) (comes-with s slot.frame _ s.listed s.reports (λ index is. is));
  stays = stays-with s slot.frame _ s.listed s.reports (λ index is. is);
  bytes = clean-with came s slot.frame _ s.listed s.reports clean
      (poked-clean (by_place came s.layout slot.frame) s.layout s.flags sound.layout (slab_of s slot.frame) slot.index (nat_abs (place_of s.layout offset)) byte (offset-place s.layout offset inside).0
      (subst (λ z. came z byte) (poke-address s.layout slot.frame slot.index offset inside) did) (clean slot.frame));
}

-- a word is written
pub goes-written : (came : ℤ → ℕ → Type 0) (s : CheckedState) (slot : Slot) (word value : ℕ) → IsSound s → IsUsed s slot → 8 * (word + 1) ≤ s.layout.object_size → Clean came s → Goes came s (with_word s slot word value)
goes-written came s slot word value sound used ends clean = record {
  keeps = quiet-keeps came s (with_word s slot word value) refl refl refl (none_aside.written s slot word value) (comes-with s slot.frame _ s.listed s.reports (λ index is. is));
  stays = stays-with s slot.frame _ s.listed s.reports (λ index is. is);
  bytes = clean-with came s slot.frame _ s.listed s.reports clean
      (written-clean (by_place came s.layout slot.frame) s.layout s.flags sound.layout (slab_of s slot.frame) slot.index word value ends (used-inside s slot sound used) used (clean slot.frame));
}

-- a slab is there that wasn't
pub goes-new : (came : ℤ → ℕ → Type 0) (s : CheckedState) (run : Run) (objects : ℕ) → IsSound s → objects_in (slab_of s run.frame) ≡ 0 → Clean came s → Goes came s (with_new_slab s run objects)
goes-new came s run objects sound none clean = record {
  keeps = quiet-keeps came s (with_new_slab s run objects) refl refl refl (none_aside.come s run objects)
      (comes-with s run.frame (Some (new_slab s.layout s.flags run.order objects)) (run.frame ∷ s.listed) s.reports (λ index is. absurd (new-free objects index is)));
  stays = stays-with s run.frame (Some (new_slab s.layout s.flags run.order objects)) (run.frame ∷ s.listed) s.reports (λ index is. absurd (nothing (slab_of s run.frame).states index none is));
  bytes = coming-clean came s run objects sound.layout clean;
}
  where
    nothing : (states : List ObjectState) (index : ℕ) → length states ≡ 0 → slice_get states index ≡ Some Aside → ⊥
    nothing [] index none is = cc
    nothing (x ∷ xs) index none is = omega (arith, none)

-- ---- damages

place-address : (frame index place : ℕ) (layout : Layout) (offset : ℤ) → place_of layout offset ≡ pos place → pos (address_of frame index layout) +ℤ offset ≡ pos (frame * 4096 + index * layout.size + place)
place-address frame index place layout offset is = by (frame * 4096 + index * layout.size) layout.left_pad place (sym is)
  where
    by : (b l q : ℕ) → pos q ≡ pos l +ℤ offset → pos (b + l) +ℤ offset ≡ pos (b + q)
    by b l q is = ap (λ z. z +ℤ offset) (sym (pos-+ℤ-pos b l)) ∙ +ℤ_assoc (pos b) (pos l) offset ∙ ap (λ z. pos b +ℤ z) (sym is) ∙ pos-+ℤ-pos b q

-- what is told of an examined part came there
tells-bad : (came : ℤ → ℕ → Type 0) (s : CheckedState) (slot : Slot) (parts : List Part) (damage : Damage) → IsSound s → Clean came s → parts_of s.layout s.flags (state_of s slot) ≡ parts → Tells s.layout (bytes_of s slot) parts damage
    → IsDamage came (address_of slot.frame slot.index s.layout) damage
tells-bad came s slot parts damage sound clean is tells =
    let place = tells.place in
    let there : Contains (parts_of s.layout s.flags (state_of s slot)) tells.part = subst (λ (ps : List Part). Contains ps tells.part) (sym is) tells.of_these in
    let few = parts-fit (by_place came s.layout slot.frame) s.layout s.flags sound.layout (state_of s slot) tells.part place there tells.inside in
    let byte = get_or (slab_of s slot.frame).bytes (slot.index * s.layout.size + place) 0 in
    let found : damage.found ≡ byte = tells.found ∙ slot-byte s.layout (slab_of s slot.frame).bytes slot.index place few in
    record {
      other = tells.other;
      there = elim (clean slot.frame slot.index place tells.part there tells.inside) [
        | inl whole ↦ absurd (tells.other (found ∙ whole ∙ sym tells.wanted))
        | inr did ↦
            subst (λ b. came (pos (address_of slot.frame slot.index s.layout) +ℤ damage.offset) b) (sym found)
            (subst (λ z. came z byte) (sym (place-address slot.frame slot.index place s.layout damage.offset tells.offset)) did)
      ];
    }

-- ---- giving

module _ (came : ℤ → ℕ → Type 0) (s : CheckedState) (slot : Slot) (sound : IsSound s) (next : IsNext s slot) (clean : Clean came s) where
  goes-given : damage_of_free s slot ≡ None → Goes came s (with_given s slot)
  goes-given whole = record {
    keeps = quiet-keeps came s (with_given s slot) refl refl refl none
        (comes-with s slot.frame (Some (slab_with_given s.layout s.flags (slab_of s slot.frame) slot.index)) (with_given s slot).listed s.reports (set-comes (slab_of s slot.frame).states slot.index Used used-apart));
    stays = stays-with s slot.frame (Some (slab_with_given s.layout s.flags (slab_of s slot.frame) slot.index)) (with_given s slot).listed s.reports (set-stays (slab_of s slot.frame).states slot.index Free Used (first-state s slot sound next) free-apart);
    bytes = next-given came s slot sound next clean;
  }
    where
      none : SetsNoneAside s (with_given s slot)
      none frame =
          let was = slab_of s slot.frame in
          let now : SlabState = slab_with_given s.layout s.flags was slot.index in
          elim (cases_eq frame slot.frame) [
            | inl same ↦ (
                let at = λ (f : ℕ). aside_in (slab_at (set s.slabs slot.frame (Some now)) f) in
                let is = ap at same ∙ ap (λ (slab : SlabState). aside_in slab) (slab_at-set s.slabs slot.frame now (next-frame s slot sound next))
                ∙ (given-counts s.layout was (next-slab s slot sound next) slot.index _ next.free s.flags).2 ∙ sym (ap (λ (f : ℕ). aside_in (slab_of s f)) same) in
                omega (arith, is))
            | inr other ↦ (let is = ap (λ (slab : SlabState). aside_in slab) (slab_at-other s.slabs slot.frame frame (Some now) other) in omega (arith, is))
          ]

  goes-damaged : (damage : Damage) → damage_of_free s slot ≡ Some damage → Goes came s (with_damaged s slot damage)
  goes-damaged damage found =
      let was = slab_of s slot.frame in
      let now : SlabState = slab_set_aside was in
      let told : Report = report_of s slot damage in
      let damaged : CheckedState = with_damaged s slot damage in
      let mine : state_of damaged slot ≡ Some Aside = ap (λ (slab : SlabState). slice_get slab.states slot.index) (slab_at-set s.slabs slot.frame now (next-frame s slot sound next)) ∙ map-sets was.states slot.index (first-state s slot sound next) in
      let report : IsReport came damaged told = record {
        slot = slot;
        aside = mine;
        cache = refl;
        address = refl;
        bad = tells-bad came s slot (examined_free s.layout s.flags) damage sound clean (ap (parts_of s.layout s.flags) (first-state s slot sound next))
            (given-tells s.layout sound.layout.bounds s.flags (bytes_of s slot) (slot-long s.layout was.bytes slot.index (next-inside s slot sound next)) damage found);
      } in
      record {
        keeps = record {
          number = refl;
          layout = refl;
          found = told ∷ [];
          added = refl;
          told = All-cons (IsReport came damaged) told [] report (All-nil (IsReport came damaged));
          aside = λ other is.
              elim (cases_eq other.frame slot.frame) [
                | inl same ↦ inr (0, told, omega arith, refl, (report, sym same))
                | inr ne ↦ inl (sym (ap (λ (slab : SlabState). slice_get slab.states other.index) (slab_at-other s.slabs slot.frame other.frame (Some now) ne)) ∙ is)
              ];
          more_aside = λ frame more.
              elim (cases_eq frame slot.frame) [
                | inl same ↦ (0, told, omega arith, refl, (report, sym same))
                | inr ne ↦ absurd (let as_many = ap (λ (slab : SlabState). aside_in slab) (slab_at-other s.slabs slot.frame frame (Some now) ne) in omega (arith, more, as_many))
              ];
        };
        stays = stays-with s slot.frame (Some now) (drop 1 s.listed) damaged.reports (map-stays was.states);
        bytes = clean-with came s slot.frame (Some now) (drop 1 s.listed) damaged.reports clean
            (aside-clean (by_place came s.layout slot.frame) s.layout s.flags sound.layout was (clean slot.frame));
      }

-- whatever is given
pub goes-give : (came : ℤ → ℕ → Type 0) (s : CheckedState) (answer : CheckedGive) (after : CheckedState) → IsSound s → Gives s answer after → Clean came s → Goes came s after
goes-give came _ _ _ sound (nothing_listed s none) clean = goes-none came s clean
goes-give came _ _ _ sound (next_is_whole s slot next whole) clean = goes-given came s slot sound next clean whole
goes-give came _ _ _ sound (next_is_damaged s slot damage answer after next is asked) clean =
    let damaged = goes-damaged came s slot sound next clean damage is in
    goes-more came s (with_damaged s slot damage) after damaged (goes-give came (with_damaged s slot damage) answer after (damaged-sound s slot sound next damage) asked damaged.bytes)

-- the first object of a new slab is given
pub goes-added : (came : ℤ → ℕ → Type 0) (s : CheckedState) (run : Run) (objects : ℕ) (slot : Slot) → IsSound s → objects_in (slab_of s run.frame) ≡ 0 → ¬ Has s run.frame → 1 ≤ run.frame → run.frame < 4096 → IsSized s.layout run.order objects
    → slot ≡ record { frame = run.frame; index = 0 } → Clean came s → Goes came s (with_given (with_new_slab s run objects) slot)
goes-added came s run objects slot sound none fresh first last sized is clean =
    let mid : CheckedState = with_new_slab s run objects in
    let come = goes-new came s run objects sound none clean in
    goes-more came s mid (with_given mid slot) come
    (goes-give came mid (give.Given slot) (with_given mid slot) (with-new-sound s run objects sound fresh first last sized) (giving-new s run objects sound last slot (with_given mid slot) sized (is, refl)) come.bytes)

-- the damage of an object that isn't taken back
pub damage-of : (came : ℤ → ℕ → Type 0) (s : CheckedState) (slot : Slot) (damage : Damage) → IsSound s → IsUsed s slot → damage_of_used s slot ≡ Some damage → Clean came s → IsDamage came (address_of slot.frame slot.index s.layout) damage
damage-of came s slot damage sound used is clean =
    tells-bad came s slot (examined_used s.layout s.flags) damage sound clean (ap (parts_of s.layout s.flags) used)
    (taken-tells s.layout sound.layout.bounds s.flags (bytes_of s slot) (slot-long s.layout (slab_of s slot.frame).bytes slot.index (used-inside s slot sound used)) damage is)
