use Rattle.std.proofs.Common.{◌≡◌, ℕ, ◌+◌, ◌-◌, ◌<◌, false, true, is_some, IsSome, List, Option, Some, MatchOption, length, get_or, drop, take, fold, refl, ap, sym, ◌∙◌, subst, arith}
use Rattle.slub_common.specs.Times.{times}
use Rattle.slub_red_zone.specs.State.{CheckedState}
use Rattle.slub_lists.specs.State.{State}
use Rattle.slub_lists.specs.Alloc.{checked_of}
use Rattle.slub_lists.specs.Leaving.{KeepsHeld, LeavesSlabs}
use Rattle.slub_lists.specs.Shrink.{busy_of, swept_checked, swept_checked_slab}
use Rattle.slub_lists.specs.Shrinking.{all_free_in, listed_of}
use Rattle.slub_lists.proofs.Leaving.{leaves-both, leaves-same, leaves-swept-checked}
use Rattle.slub_lists.proofs.Sweeping.{drop-past, take-past}
use Rattle.slub_lists.proofs.SweepingChecked.{AreInUse, at-goes, at-stays, held-both, left, left-busy, left-in-use, left-next, left-shorter, left-state, left-was, listed-is, listed-there, stays-in-use, stays-next-listed, swept_checked-held, the-checked}
use Rattle.slub_list_machine.proofs.lists.Lists.sweep_checked.Goals as goal

pub loop-frame-init : goal.loop-frame-init
loop-frame-init c = record {
  swept = refl;
  used = λ frame some. absurd (omega arith);
  checked = c.requires.checked;
  busy = omega arith;
  slabs = leaves-same c.args.self.now c.args.self.now c.args.cache refl;
  kept = record { frames = refl; cpus = refl; table = refl; board = refl; gone = refl; live = refl };
  coherent = c.requires.coherent;
}

-- the slab that is looked at is listed
pub sweep_checked_slab-requires-clause-there : goal.sweep_checked_slab-requires-clause-there
sweep_checked_slab-requires-clause-there c =
    let s : State = c.loop-frame.self in
    let own = the-checked (checked_of s c.args.cache) c.loop-frame.invariant.checked in
    let there = listed-there s c.args.cache c.loop-frame.place own.0 c.loop-frame.invariant.coherent own.1 c.in-Some.ensures.slab.0 in
    subst (λ n. 0 < times n (listed_of s c.args.cache)) c.in-Some.ensures.slab.1 there

-- what is left where a slab went
module _ (c : goal.Else-not-sweep_checked_slab) where
  abbrev s : State
  s = c.loop-frame.self

  own : (slabs : CheckedState) × (checked_of s c.args.cache ≡ Some slabs)
  own = the-checked (checked_of s c.args.cache) c.loop-frame.invariant.checked

  free : all_free_in s c.args.cache (get_or (listed_of s c.args.cache) c.loop-frame.place 0) ≡ true
  free = ap (λ n. all_free_in s c.args.cache n) c.in-Some.ensures.slab.1 ∙ sym c.sweep_checked_slab.ensures.gone ∙ c.if-not-sweep_checked_slab.false

  new-is : c.sweep_checked_slab.new.self ≡ left-state s c.args.cache c.loop-frame.place own.0 c.loop-frame.invariant.coherent own.1 c.in-Some.ensures.slab.0
  new-is =
      c.sweep_checked_slab.ensures.swept ∙ ap (λ n. swept_checked_slab c.args.cache s n) (sym c.in-Some.ensures.slab.1)
      ∙ at-goes s c.args.cache c.loop-frame.place own.0 c.loop-frame.invariant.coherent own.1 c.in-Some.ensures.slab.0 free

pub loop-frame-smaller : goal.loop-frame-smaller
loop-frame-smaller c =
    let s : State = c.loop-frame.self in
    let shorter = left-shorter s c.args.cache c.loop-frame.place (own c).0 c.loop-frame.invariant.coherent (own c).1 c.in-Some.ensures.slab.0 in
    let same = ap (λ (t : State). length (listed_of t c.args.cache)) (new-is c) in
    let less : length (listed_of c.sweep_checked_slab.new.self c.args.cache) - c.loop-frame.place < length (listed_of s c.args.cache) - c.loop-frame.place = omega (arith, shorter, same, c.in-Some.ensures.slab.0) in
    less

pub loop-frame-preserved : goal.loop-frame-preserved
loop-frame-preserved c =
    let s : State = c.loop-frame.self in
    let place = c.loop-frame.place in
    let cache = c.args.cache in
    let below = c.in-Some.ensures.slab.0 in
    let coherent = c.loop-frame.invariant.coherent in
    let is = sym (new-is c) in
    record {
      swept = ap (λ (t : State). fold (swept_checked_slab cache) t (drop place (listed_of t cache))) (new-is c)
          ∙ left-next s cache place (own c).0 coherent (own c).1 below (fold (swept_checked_slab cache) c.args.self.now (listed_of c.args.self.now cache)) (free c) c.loop-frame.invariant.swept;
      used = subst (λ (t : State). AreInUse t cache (take place (listed_of t cache))) is (left-in-use s cache place (own c).0 coherent (own c).1 below c.loop-frame.invariant.used);
      checked = subst (λ (t : State). IsSome (checked_of t cache)) is (ap is_some (left-was s cache place (own c).0 coherent (own c).1 below));
      busy = omega (arith, ap (λ (t : State). busy_of t cache) (new-is c), left-busy s cache place (own c).0 coherent (own c).1 below, c.loop-frame.invariant.busy);
      slabs = leaves-both c.args.self.now s c.sweep_checked_slab.new.self cache c.loop-frame.invariant.slabs
          (subst (λ (t : State). LeavesSlabs s cache t) is
          (leaves-swept-checked s cache (get_or (listed_of s cache) place 0) (own c).0 (left s cache place (own c).0 coherent (own c).1 below) coherent (own c).1 (listed-there s cache place (own c).0 coherent (own c).1 below)));
      kept = held-both c.args.self.now s c.sweep_checked_slab.new.self c.loop-frame.invariant.kept
          (subst (λ (t : State). KeepsHeld s t) (sym c.sweep_checked_slab.ensures.swept) (swept_checked-held s cache c.in-Some.frame));
      coherent = c.sweep_checked_slab.ensures.coherent;
    }

pub returns-clause-swept : goal.returns-clause-swept
returns-clause-swept c =
    let s : State = c.loop-frame.self in
    let first : State = c.args.self.now in
    let own = the-checked (checked_of first c.args.cache) c.requires.checked in
    let all : s ≡ fold (swept_checked_slab c.args.cache) first (listed_of first c.args.cache) =
    sym (ap (λ (l : List ℕ). fold (swept_checked_slab c.args.cache) s l) (drop-past c.loop-frame.place (listed_of s c.args.cache) c.in_default.ensures.slab)) ∙ c.loop-frame.invariant.swept in
    subst (λ (x : Option CheckedState). MatchOption x ⊥ (λ slabs. s ≡ swept_checked first c.args.cache slabs)) (sym own.1)
    (all ∙ ap (λ (l : List ℕ). fold (swept_checked_slab c.args.cache) first l) (listed-is first c.args.cache 0 own.0 c.requires.coherent own.1))

pub returns-clause-used : goal.returns-clause-used
returns-clause-used c =
    let s : State = c.loop-frame.self in
    subst (AreInUse s c.args.cache) (take-past c.loop-frame.place (listed_of s c.args.cache) c.in_default.ensures.slab) c.loop-frame.invariant.used

-- where the slab stayed, the next is at the next place
pub loop-frame-preserved-then-not-sweep_checked_slab : goal.loop-frame-preserved-then-not-sweep_checked_slab
loop-frame-preserved-then-not-sweep_checked_slab c =
    let s : State = c.loop-frame.self in
    let place = c.loop-frame.place in
    let cache = c.args.cache in
    let below = c.in-Some.ensures.slab.0 in
    let coherent = c.loop-frame.invariant.coherent in
    let own = the-checked (checked_of s cache) c.loop-frame.invariant.checked in
    let used : all_free_in s cache (get_or (listed_of s cache) place 0) ≡ false = ap (λ n. all_free_in s cache n) c.in-Some.ensures.slab.1 ∙ sym c.sweep_checked_slab.ensures.gone ∙ c.if-not-sweep_checked_slab.true in
    let same : c.sweep_checked_slab.new.self ≡ s = c.sweep_checked_slab.ensures.swept ∙ ap (λ n. swept_checked_slab cache s n) (sym c.in-Some.ensures.slab.1) ∙ at-stays s cache place own.0 coherent own.1 below used in
    let is = sym same in
    record {
      swept = ap (λ (t : State). fold (swept_checked_slab cache) t (drop (place + 1) (listed_of t cache))) same
          ∙ stays-next-listed s cache place own.0 coherent own.1 below (fold (swept_checked_slab cache) c.args.self.now (listed_of c.args.self.now cache)) used c.loop-frame.invariant.swept;
      used = subst (λ (t : State). AreInUse t cache (take (place + 1) (listed_of t cache))) is (stays-in-use s cache place own.0 coherent own.1 below used c.loop-frame.invariant.used);
      checked = subst (λ (t : State). IsSome (checked_of t cache)) is c.loop-frame.invariant.checked;
      busy = omega (arith, ap (λ (t : State). busy_of t cache) same, c.loop-frame.invariant.busy);
      slabs = subst (λ (t : State). LeavesSlabs c.args.self.now cache t) is c.loop-frame.invariant.slabs;
      kept = subst (λ (t : State). KeepsHeld c.args.self.now t) is c.loop-frame.invariant.kept;
      coherent = c.sweep_checked_slab.ensures.coherent;
    }
