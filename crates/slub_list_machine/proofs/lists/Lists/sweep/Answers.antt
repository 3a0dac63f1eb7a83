use Rattle.std.proofs.Common.{◌≡◌, ℕ, ◌-◌, ◌<◌, eqb, true, List, length, get_or, drop, take, fold, refl, ap, sym, ◌∙◌, subst, arith}
use Rattle.slub_common.specs.Times.{times}
use Rattle.slub_lists.specs.State.{State}
use Rattle.slub_lists.specs.Alloc.{node_of}
use Rattle.slub_lists.specs.Coherent.{IsConsistent}
use Rattle.slub_lists.specs.Free.{inuse_of}
use Rattle.slub_lists.specs.Leaving.{LeavesSlabs}
use Rattle.slub_lists.specs.Shrink.{swept, swept_slab}
use Rattle.slub_lists.specs.Shrinking.{KeepsChecked}
use Rattle.slub_lists.proofs.Kept.{consistent-of}
use Rattle.slub_lists.proofs.Flushing.{rest-both}
use Rattle.slub_lists.proofs.Leaving.{leaves-both, leaves-same, leaves-swept}
use Rattle.slub_lists.proofs.Sweeping.{AreUsed, at-there, drop-past, take-past, gone, gone-next, gone-rest, gone-shorter, gone-used, goes-slab}
use Rattle.slub_list_machine.proofs.lists.Lists.sweep.Goals as goal

pub loop-frame-init : goal.loop-frame-init
loop-frame-init c = record {
  swept = refl;
  used = λ frame some. absurd (omega arith);
  lists = refl;
  slabs = leaves-same c.args.self.now c.args.self.now c.args.cache refl;
  rest = record { held = record { frames = refl; cpus = refl; table = refl; board = refl; gone = refl; live = refl }; checked = refl };
  coherent = c.requires.coherent;
}

-- the slab that is looked at stands on the list
pub sweep_slab-requires-clause-there : goal.sweep_slab-requires-clause-there
sweep_slab-requires-clause-there c =
    let s : State = c.loop-frame.self in
    let there = at-there s c.args.cache c.loop-frame.place (consistent-of s c.loop-frame.invariant.coherent) c.requires.cache c.in-Some.ensures.slab.0 in
    subst (λ n. 0 < times n (node_of s c.args.cache)) c.in-Some.ensures.slab.1 there

-- what is left where a slab went
module _ (c : goal.Else-not-sweep_slab) where
  abbrev s : State
  s = c.loop-frame.self

  consistent : IsConsistent s
  consistent = consistent-of s c.loop-frame.invariant.coherent

  unused : eqb (inuse_of s (get_or (node_of s c.args.cache) c.loop-frame.place 0)) 0 ≡ true
  unused = ap (λ n. eqb (inuse_of s n) 0) c.in-Some.ensures.slab.1 ∙ sym c.sweep_slab.ensures.gone ∙ c.if-not-sweep_slab.false

  new-is : c.sweep_slab.new.self ≡ gone s c.args.cache c.loop-frame.place consistent c.requires.cache c.in-Some.ensures.slab.0
  new-is =
      c.sweep_slab.ensures.swept ∙ ap (λ n. swept_slab c.args.cache s n) (sym c.in-Some.ensures.slab.1)
      ∙ goes-slab s c.args.cache (get_or (node_of s c.args.cache) c.loop-frame.place 0) unused

pub loop-frame-smaller : goal.loop-frame-smaller
loop-frame-smaller c =
    let s : State = c.loop-frame.self in
    let shorter = gone-shorter s c.args.cache c.loop-frame.place (consistent c) c.requires.cache c.in-Some.ensures.slab.0 in
    let same = ap (λ (t : State). length (node_of t c.args.cache)) (new-is c) in
    let less : length (node_of c.sweep_slab.new.self c.args.cache) - c.loop-frame.place < length (node_of s c.args.cache) - c.loop-frame.place = omega (arith, shorter, same, c.in-Some.ensures.slab.0) in
    less

pub loop-frame-preserved : goal.loop-frame-preserved
loop-frame-preserved c =
    let s : State = c.loop-frame.self in
    let place = c.loop-frame.place in
    let cache = c.args.cache in
    let below = c.in-Some.ensures.slab.0 in
    record {
      swept = ap (λ (t : State). fold (swept_slab cache) t (drop place (node_of t cache))) (new-is c) ∙ gone-next s cache place (consistent c) c.requires.cache below (swept c.args.self.now cache) (unused c) c.loop-frame.invariant.swept;
      used = subst (λ (t : State). AreUsed t (take place (node_of t cache))) (sym (new-is c)) (gone-used s cache place (consistent c) c.requires.cache below c.loop-frame.invariant.used);
      lists = ap (λ (t : State). t.cpu_lists) (new-is c) ∙ c.loop-frame.invariant.lists;
      slabs = leaves-both c.args.self.now s c.sweep_slab.new.self cache c.loop-frame.invariant.slabs
          (subst (λ (t : State). LeavesSlabs s cache t) (sym (new-is c)) (leaves-swept s cache (get_or (node_of s cache) place 0) (consistent c) (at-there s cache place (consistent c) c.requires.cache below)));
      rest = rest-both c.args.self.now s c.sweep_slab.new.self c.loop-frame.invariant.rest
          (subst (λ (t : State). KeepsChecked s t) (sym (new-is c)) (gone-rest s cache (get_or (node_of s cache) place 0)));
      coherent = c.sweep_slab.ensures.coherent;
    }

pub returns-clause-swept : goal.returns-clause-swept
returns-clause-swept c =
    let s : State = c.loop-frame.self in
    sym (ap (λ (l : List ℕ). fold (swept_slab c.args.cache) s l) (drop-past c.loop-frame.place (node_of s c.args.cache) c.in_default.ensures.slab)) ∙ c.loop-frame.invariant.swept

pub returns-clause-used : goal.returns-clause-used
returns-clause-used c =
    let s : State = c.loop-frame.self in
    subst (AreUsed s) (take-past c.loop-frame.place (node_of s c.args.cache) c.in_default.ensures.slab) c.loop-frame.invariant.used
