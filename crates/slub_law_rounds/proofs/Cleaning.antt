-- Examined bytes of a checked cache through the calls on its slabs, and what its reports tell.
use Rattle.std.proofs.Common.{◌≡◌, ℕ, ◌+◌, ◌*◌, ◌<◌, List, [], ◌∷◌, ◌++◌, drop, get_or, set, sym, ◌∙◌, ap, subst, arith, All, Option, Some, None, unwrap_or, inl, inr, ℤ}
use Rattle.std.specs.List.{Contains}
use Rattle.std.specs.Prelude.{pos, ◌+ℤ◌, ◌-ℤ◌, slice_get}
use Rattle.std.proofs.lemmas.List.{append_assoc, append-nil}
use Rattle.std.proofs.lemmas.List.Elements.{All-cons}
use Rattle.std.proofs.lemmas.Option.{slice_get_past}
use Rattle.std.proofs.Math.IntN.{+ℤ_assoc, +ℤ_comm, -ℤ-+ℤ_cancel, pos-+ℤ-pos}
use Rattle.slub_common.proofs.Writes.{at_written}
use Rattle.slub_object_layout.specs.Layout.{address_of}
use Rattle.slub_object_layout.specs.declared.layout.Layout.{Layout}
use Rattle.slub_red_zone.specs.declared.slab.ObjectState.TheVariants.{Free, Used}
use Rattle.slub_red_zone.specs.declared.checked.CheckedGive.{CheckedGive}
use Rattle.slub_red_zone.specs.declared.checked.Run.{Run}
use Rattle.slub_red_zone.specs.declared.checked.Slot.{Slot}
use Rattle.slub_trace.specs.declared.damage.Damage.{Damage}
use Rattle.slub_red_zone.specs.declared.zones.Part.{Part}
use Rattle.slub_trace.specs.declared.damage.Report.{Report}
use Rattle.slub_red_zone.specs.Sound.{IsLayoutFor, IsSound}
use Rattle.slub_red_zone.specs.State.{CheckedState, IsUsed, SlabState, no_slab, slab_of, slot_of, state_of}
use Rattle.slub_red_zone.specs.Steps.{Gives, IsNext, TakesEmpty, damage_of_free, damage_of_used, new_slab, next_is_damaged, next_is_whole, nothing_listed, report_of, slab_set_aside, slab_with_given, slab_with_taken, with_damaged, with_given, with_new_slab, with_taken, without_slab}
use Rattle.slub_red_zone.proofs.Given.{damaged-sound, next-inside}
use Rattle.slub_red_zone.proofs.Taken.{used-inside}
use Rattle.slub_law_rounds.proofs.Bytes.{Has}
use Rattle.slub_law_rounds.proofs.Clean.{CleanSlab, aside-clean, given-clean, new-clean, parts-fit, parts_of, slot-byte, taken-clean}
use Rattle.slub_law_rounds.proofs.Damages.{IsDamageOf, damage-given, damage-taken}
use Rattle.slub_law_rounds.proofs.Founds.{first-state}

-- the byte at a place of a slot was poked, where a byte at an address may be said to have been
abbrev pub by_place : (ℤ → ℕ → Type 0) → Layout → ℕ → ℕ → ℕ → ℕ → Type 0
by_place poked layout frame index place byte = poked (pos (frame * 4096 + index * layout.size + place)) byte

-- each byte of each examined part is the wanted one, or was poked
abbrev pub Clean : (ℤ → ℕ → Type 0) → CheckedState → Type 0
Clean poked s = (frame : ℕ) → CleanSlab (by_place poked s.layout frame) s.layout s.flags (slab_of s frame)

-- what the report tells of was poked
abbrev pub ToldPoked : (ℤ → ℕ → Type 0) → Report → Type 0
ToldPoked poked report = poked (pos report.address +ℤ report.damage.offset) report.damage.found

-- ---- places and addresses

place-address : (frame index place : ℕ) (layout : Layout) → pos (address_of frame index layout) +ℤ (pos place -ℤ pos layout.left_pad) ≡ pos (frame * 4096 + index * layout.size + place)
place-address frame index place layout = by (frame * 4096 + index * layout.size) layout.left_pad place
  where
    by : (b l p : ℕ) → pos (b + l) +ℤ (pos p -ℤ pos l) ≡ pos (b + p)
    by b l p =
        ap (λ z. z +ℤ (pos p -ℤ pos l)) (sym (pos-+ℤ-pos b l)) ∙ +ℤ_assoc (pos b) (pos l) (pos p -ℤ pos l)
        ∙ ap (λ z. pos b +ℤ z) (+ℤ_comm (pos l) (pos p -ℤ pos l) ∙ -ℤ-+ℤ_cancel (pos p) (pos l)) ∙ pos-+ℤ-pos b p

module _ (poked : ℤ → ℕ → Type 0) where
  pub clean-with : (s : CheckedState) (frame : ℕ) (x : Option SlabState) (listed : List ℕ) (reports : List Report) → Clean poked s → CleanSlab (by_place poked s.layout frame) s.layout s.flags (unwrap_or x no_slab)
      → Clean poked (record s { slabs = set s.slabs frame x; listed = listed; reports = reports })
  clean-with s frame x listed reports clean new at =
      at_written (λ y. CleanSlab (by_place poked s.layout at) s.layout s.flags (unwrap_or y no_slab)) s.slabs frame at x None
      (λ same. subst (λ n. CleanSlab (by_place poked s.layout n) s.layout s.flags (unwrap_or x no_slab)) (sym same) new) (clean at)

  -- the damage of an object is a byte that was poked
  damage-poked : (s : CheckedState) (slot : Slot) (parts : List Part) (damage : Damage) → Clean poked s → parts_of s.layout s.flags (state_of s slot) ≡ parts → ((part : Part) (p : ℕ) → Contains parts part → Has part p → p < s.layout.size)
      → IsDamageOf s.layout (slot_of s.layout (slab_of s slot.frame).bytes slot.index) parts damage → poked (pos (address_of slot.frame slot.index s.layout) +ℤ damage.offset) damage.found
  damage-poked s slot parts damage clean is fit of =
      let part = of.part in
      let place = of.here.place in
      let has : Has part place = (of.here.from, of.here.below) in
      let byte = get_or (slab_of s slot.frame).bytes (slot.index * s.layout.size + place) 0 in
      let there : Contains (parts_of s.layout s.flags (state_of s slot)) part = subst (λ l. Contains l part) (sym is) of.one in
      let at : get_or (slot_of s.layout (slab_of s slot.frame).bytes slot.index) place 0 ≡ byte = slot-byte s.layout (slab_of s slot.frame).bytes slot.index place (fit part place of.one has) in
      let found : damage.found ≡ byte = ap (λ (d : Damage). d.found) of.here.is ∙ at in
      let offset : damage.offset ≡ pos place -ℤ pos s.layout.left_pad = ap (λ (d : Damage). d.offset) of.here.is in
      elim (clean slot.frame slot.index place part there has) [
        | inl whole ↦ absurd (of.here.differs (at ∙ whole))
        | inr did ↦
            subst (λ b. poked (pos (address_of slot.frame slot.index s.layout) +ℤ damage.offset) b) (sym found)
            (subst (λ o. poked (pos (address_of slot.frame slot.index s.layout) +ℤ o) byte) (sym offset)
            (subst (λ z. poked z byte) (sym (place-address slot.frame slot.index place s.layout)) did))
      ]

  -- ---- giving

  pub next-given : (s : CheckedState) (slot : Slot) → IsSound s → IsNext s slot → Clean poked s → Clean poked (with_given s slot)
  next-given s slot sound next clean =
      clean-with s slot.frame (Some (slab_with_given s.layout s.flags (slab_of s slot.frame) slot.index)) (with_given s slot).listed s.reports clean
      (given-clean (by_place poked s.layout slot.frame) s.layout s.flags sound.layout (slab_of s slot.frame) slot.index (next-inside s slot sound next) (first-state s slot sound next) (clean slot.frame))

  next-aside : (s : CheckedState) (slot : Slot) (damage : Damage) → IsSound s → Clean poked s → Clean poked (with_damaged s slot damage)
  next-aside s slot damage sound clean =
      clean-with s slot.frame (Some (slab_set_aside (slab_of s slot.frame))) (drop 1 s.listed) (with_damaged s slot damage).reports clean
      (aside-clean (by_place poked s.layout slot.frame) s.layout s.flags sound.layout (slab_of s slot.frame) (clean slot.frame))

  next-told : (s : CheckedState) (slot : Slot) (damage : Damage) → IsSound s → IsNext s slot → damage_of_free s slot ≡ Some damage → Clean poked s → ToldPoked poked (report_of s slot damage)
  next-told s slot damage sound next is clean =
      damage-poked s slot (parts_of s.layout s.flags (Some Free)) damage clean (ap (parts_of s.layout s.flags) (first-state s slot sound next))
      (λ part p there has. parts-fit (by_place poked s.layout slot.frame) s.layout s.flags sound.layout (Some Free) part p there has)
      (damage-given s.layout s.flags (slot_of s.layout (slab_of s slot.frame).bytes slot.index) damage is)

  -- a give leaves the bytes clean, and tells of what was poked alone
  pub record Asked (s after : CheckedState) : Type 0 where
    pub found : List Report
    pub reports : after.reports ≡ s.reports ++ found
    pub told : All (ToldPoked poked) found
    pub clean : Clean poked after

  pub gives-clean : (s : CheckedState) (answer : CheckedGive) (after : CheckedState) → IsSound s → Gives s answer after → Clean poked s → Asked s after
  gives-clean _ _ _ sound (nothing_listed s none) clean = record { found = []; reports = sym (append-nil s.reports); told = λ k d within. absurd (omega (arith, within)); clean = clean }
  gives-clean _ _ _ sound (next_is_whole s slot next whole) clean =
      record { found = []; reports = sym (append-nil s.reports); told = λ k d within. absurd (omega (arith, within)); clean = next-given s slot sound next clean }
  gives-clean _ _ _ sound (next_is_damaged s slot damage answer after next is asked) clean =
      let more = gives-clean (with_damaged s slot damage) answer after (damaged-sound s slot sound next damage) asked (next-aside s slot damage sound clean) in
      record {
        found = report_of s slot damage ∷ more.found;
        reports = more.reports ∙ append_assoc s.reports (report_of s slot damage ∷ []) more.found;
        told = All-cons (ToldPoked poked) (report_of s slot damage) more.found (next-told s slot damage sound next is clean) more.told;
        clean = more.clean;
      }

  -- ---- taking back

  pub back-clean : (s : CheckedState) (slot : Slot) → IsSound s → IsUsed s slot → Clean poked s → Clean poked (with_taken s slot)
  back-clean s slot sound used clean =
      clean-with s slot.frame (Some (slab_with_taken s.layout s.flags (slab_of s slot.frame) slot.index)) (with_taken s slot).listed s.reports clean
      (taken-clean (by_place poked s.layout slot.frame) s.layout s.flags sound.layout (slab_of s slot.frame) slot.index (used-inside s slot sound used) used (clean slot.frame))

  pub back-told : (s : CheckedState) (slot : Slot) (damage : Damage) → IsSound s → IsUsed s slot → damage_of_used s slot ≡ Some damage → Clean poked s → poked (pos (address_of slot.frame slot.index s.layout) +ℤ damage.offset) damage.found
  back-told s slot damage sound used is clean =
      damage-poked s slot (parts_of s.layout s.flags (Some Used)) damage clean (ap (parts_of s.layout s.flags) used)
      (λ part p there has. parts-fit (by_place poked s.layout slot.frame) s.layout s.flags sound.layout (Some Used) part p there has)
      (damage-taken s.layout s.flags (slot_of s.layout (slab_of s slot.frame).bytes slot.index) damage is)

  -- ---- slabs that come and go

  gone-slab : (layout : Layout) (frame : ℕ) (s : CheckedState) → CleanSlab (by_place poked layout frame) s.layout s.flags no_slab
  gone-slab layout frame s j p part there has = absurd (nothing j there)
    where
      nothing : (j : ℕ) → Contains (parts_of s.layout s.flags (slice_get no_slab.states j)) part → ⊥
      nothing j there = let none = subst (λ x. Contains (parts_of s.layout s.flags x) part) (slice_get_past no_slab.states j (omega arith)) there in omega (arith, none.1)

  pub gone-clean : (s : CheckedState) (frame : ℕ) → Clean poked s → Clean poked (without_slab s frame)
  gone-clean s frame clean = clean-with s frame None (without_slab s frame).listed s.reports clean (gone-slab s.layout frame s)

  pub empty-clean : (s : CheckedState) (frame limit : ℕ) (run : Option Run) (after : CheckedState) → TakesEmpty s frame limit run after → Clean poked s → Clean poked after
  empty-clean s frame limit None after takes clean = subst (Clean poked) (sym takes.1) clean
  empty-clean s frame limit (Some run) after takes clean = subst (Clean poked) (sym takes.2) (gone-clean s frame clean)

  pub coming-clean : (s : CheckedState) (run : Run) (objects : ℕ) → IsLayoutFor s.flags s.layout → Clean poked s → Clean poked (with_new_slab s run objects)
  coming-clean s run objects good clean =
      clean-with s run.frame (Some (new_slab s.layout s.flags run.order objects)) (run.frame ∷ s.listed) s.reports clean
      (new-clean (by_place poked s.layout run.frame) s.layout s.flags good run.order objects)
