use Rattle.std.proofs.Common.{◌≡◌, ℕ, ◌+◌, ◌<◌, ◌≤◌, ◌≢◌, ◌⊎◌, List, [], ◌∷◌, length, ap, sym, subst, refl, ◌∙◌, arith}
use Rattle.std.proofs.lemmas.Bool.{eqb-false, eqb-true}
use Rattle.slub_recorded.specs.declared.groups.Chosen.{Chosen}
use Rattle.slub_recorded.specs.declared.groups.Split.{Split}
use Rattle.slub_recorded.specs.Groups.{FitTrace}
use Rattle.slub_recorded.specs.Members.{Packs, in_group}
use Rattle.slub_recorded.proofs.Grouping.{Parted, Whole, grouped, members_of, none_parted, parted_else, parted_here, placed_of, whole_last, whole_none}
use Rattle.slub_recorded.proofs.HowMany.{Filled, count_is, last_filled, more_filled, none_filled}
use Rattle.slub_recorded.proofs.Slots.{nothing}
use Rattle.slub_recorded.proofs.groups.group.Goals as goal
use Rattle.slub_recorded.proofs.groups.group.Goals.{else-loop-number-test, then-loop-number-test+in_ok-taken+then-is_empty, then-number-group, else-number-group}

is_nil : (xs : List Chosen) → length xs ≡ 0 → xs ≡ []
is_nil [] e = refl
is_nil (x ∷ xs) e = absurd (omega (arith, e))

pub loop-number-init : goal.loop-number-init
loop-number-init c = record {
  fits = subst FitTrace (sym c.new-chosen.ensures.items) nothing;
  count = refl;
  parted = none_parted c.args.group c.in_ok-rest.rest.items c.new-chosen.result.items c.new-chosen.ensures.items;
  filled = none_filled (members_of c.in_ok-rest.rest.items);
}

pub loop-number-preserved : goal.loop-number-preserved
loop-number-preserved c =
    let inv = c.loop-number.invariant in
    let rest : List Chosen = c.in_ok-rest.rest.items in
    let split : Split = c.in_ok-taken.field-0 in
    let groups = c.loop-number.groups in
    let count : groups + 1 ≡ c.loop-number.number = inv.count in
    let few : groups < 256 = omega (arith, count, c.loop-number-test.true) in
    let packs : Packs c.loop-number.rest.items split = subst (λ (r : List Chosen). Packs r split) c.as_slice.ensures.value c.in_ok-taken.ensures.packs in
    let P : ℕ → Type 0 = λ n. Parted (members_of rest) c.args.group n split.others.items c.if-number-group.chosen.items in
    let Q : List Chosen → Type 0 = λ l. Parted (members_of rest) c.args.group (groups + 1) split.others.items l in
    let parted : Q c.if-number-group.chosen.items = elim c.if-number-group.branch [
      | then-number-group w ↦
          let here : c.args.group ≡ groups + 1 = omega (arith, count, w.if-number-group.true) in
          subst Q (sym (ap (λ v. v.items) w.chosen-is)) (parted_here (members_of rest) c.args.group groups c.loop-number.rest.items c.loop-number.chosen.items split (placed_of rest) few here inv.parted packs)
      | else-number-group w ↦
          let other : c.args.group ≢ groups + 1 = λ e. absurd (omega (arith, count, w.if-number-group.false, e)) in
          subst Q (sym (ap (λ v. v.items) w.chosen-is)) (parted_else (members_of rest) c.args.group groups c.loop-number.rest.items c.loop-number.chosen.items split (placed_of rest) few other inv.parted packs)
    ] in
    let some : split.others.items ≢ [] = λ none. eqb-false split.others.len 0 (sym c.is_empty.ensures ∙ c.if-is_empty.false) (omega (arith, ap length none, split.others.ok.0)) in
    let are = grouped c.args.cpus c.args.caches.now rest c.in_ok-rest.ensures.held c.in_ok-rest.ensures.sorted in
    record {
      fits = elim c.if-number-group.branch [
        | then-number-group w ↦ subst FitTrace (sym (ap (λ v. v.items) w.chosen-is)) c.in_ok-taken.ensures.split.fits
        | else-number-group w ↦ subst FitTrace (sym (ap (λ v. v.items) w.chosen-is)) inv.fits
      ];
      count = refl;
      parted = subst P count parted;
      filled = subst (λ (n : ℕ). Filled (members_of rest) n) count (more_filled c.args.cpus c.args.caches.now (members_of rest) groups split.others.items are few inv.filled parted.rest_is some);
    }

pub returns : goal.returns
returns c =
    let inv = c.loop-number.invariant in
    let rest : List Chosen = c.in_ok-rest.rest.items in
    let groups = c.loop-number.groups in
    let count : groups + 1 ≡ c.loop-number.number = inv.count in
    let R : ℕ → List Chosen → List Chosen → Type 0 = λ g r l. Whole (members_of rest) c.args.group g r l in
    let whole : Whole (members_of rest) c.args.group c.loop-number-test.groups c.loop-number-test.rest.items c.loop-number-test.chosen.items = elim c.loop-number-test.branch [
      | else-loop-number-test w ↦
          let all : groups ≡ 256 = omega (arith, count, w.loop-number-test.false, c.loop-number.auto.number-end) in
          let done = whole_last (members_of rest) c.args.group groups c.loop-number.rest.items c.loop-number.chosen.items (placed_of rest) all inv.parted in
          subst (λ (g : ℕ). R g c.loop-number-test.rest.items c.loop-number-test.chosen.items) (sym w.groups-is)
          (subst (λ (r : List Chosen). R groups r c.loop-number-test.chosen.items) (sym (ap (λ v. v.items) w.rest-is))
          (subst (λ (l : List Chosen). R groups c.loop-number.rest.items l) (sym (ap (λ v. v.items) w.chosen-is)) done))
      | then-loop-number-test+in_ok-taken+then-is_empty w ↦
          let split : Split = w.in_ok-taken.field-0 in
          let few : groups < 256 = omega (arith, count, w.loop-number-test.true) in
          let packs : Packs c.loop-number.rest.items split = subst (λ (r : List Chosen). Packs r split) w.as_slice.ensures.value w.in_ok-taken.ensures.packs in
          let Q : List Chosen → Type 0 = λ l. Parted (members_of rest) c.args.group (groups + 1) split.others.items l in
          let next : Parted (members_of rest) c.args.group (groups + 1) split.others.items w.if-number-group.chosen.items = elim w.if-number-group.branch [
            | then-number-group v ↦
                let here : c.args.group ≡ groups + 1 = omega (arith, count, v.if-number-group.true) in
                subst Q (sym (ap (λ u. u.items) v.chosen-is)) (parted_here (members_of rest) c.args.group groups c.loop-number.rest.items c.loop-number.chosen.items split (placed_of rest) few here inv.parted packs)
            | else-number-group v ↦
                let other : c.args.group ≢ groups + 1 = λ e. absurd (omega (arith, count, v.if-number-group.false, e)) in
                subst Q (sym (ap (λ u. u.items) v.chosen-is)) (parted_else (members_of rest) c.args.group groups c.loop-number.rest.items c.loop-number.chosen.items split (placed_of rest) few other inv.parted packs)
          ] in
          let zero : split.others.len ≡ 0 = eqb-true split.others.len 0 (sym w.is_empty.ensures ∙ w.if-is_empty.true) in
          let none : split.others.items ≡ [] = is_nil split.others.items (omega (arith, zero, split.others.ok.0)) in
          let done = whole_none (members_of rest) c.args.group (groups + 1) split.others.items w.if-number-group.chosen.items none next in
          subst (λ (g : ℕ). R g c.loop-number-test.rest.items c.loop-number-test.chosen.items) (count ∙ sym w.groups-is)
          (subst (λ (r : List Chosen). R (groups + 1) r c.loop-number-test.chosen.items) (sym (ap (λ v. v.items) w.rest-is))
          (subst (λ (l : List Chosen). R (groups + 1) split.others.items l) (sym (ap (λ v. v.items) w.chosen-is)) done))
    ] in
    let ms = members_of rest in
    let are = grouped c.args.cpus c.args.caches.now rest c.in_ok-rest.ensures.held c.in_ok-rest.ensures.sorted in
    let one : 1 ≤ c.loop-number-test.groups = elim c.loop-number-test.branch [
      | else-loop-number-test w ↦ omega (arith, count, w.loop-number-test.false, c.loop-number.auto.number-end, w.groups-is)
      | then-loop-number-test+in_ok-taken+then-is_empty w ↦ omega (arith, count, w.groups-is)
    ] in
    let L : ℕ → Type 0 = λ g. (g ≤ 1) ⊎ (in_group g ms ≢ []) in
    let last : L c.loop-number-test.groups = elim c.loop-number-test.branch [
      | else-loop-number-test w ↦ subst L (sym w.groups-is) inv.filled.last
      | then-loop-number-test+in_ok-taken+then-is_empty w ↦
          let few : groups < 256 = omega (arith, count, w.loop-number-test.true) in
          subst L (count ∙ sym w.groups-is) (last_filled c.args.cpus c.args.caches.now ms groups are few inv.filled)
    ] in
    record {
      fits = elim c.loop-number-test.branch [
        | else-loop-number-test w ↦ subst FitTrace (sym (ap (λ v. v.items) w.chosen-is)) inv.fits
        | then-loop-number-test+in_ok-taken+then-is_empty w ↦ subst FitTrace (sym (ap (λ v. v.items) w.chosen-is)) (elim w.if-number-group.branch [
          | then-number-group v ↦ subst FitTrace (sym (ap (λ u. u.items) v.chosen-is)) w.in_ok-taken.ensures.split.fits
          | else-number-group v ↦ subst FitTrace (sym (ap (λ u. u.items) v.chosen-is)) inv.fits
        ])
      ];
      grouped = record {
        members = ms;
        grouped = are;
        chosen = whole.chosen_are;
        beyond = whole.beyond;
        count = count_is ms c.loop-number-test.groups one whole.last last;
      };
    }
