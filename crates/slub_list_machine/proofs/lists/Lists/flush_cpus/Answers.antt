use Rattle.std.proofs.Common.{◌≡◌, ◌+◌, ◌-◌, ◌<◌, List, Option, ap, refl, sym, ◌∙◌, subst, arith, inl, inr, fold, get_or, None}
use Rattle.slub_red_zone.specs.State.{CheckedState}
use Rattle.std.proofs.lemmas.Bool.{cases_eq}
use Rattle.std.specs.List.{range_with_len}
use Rattle.slub_lists.specs.State.{State}
use Rattle.slub_lists.specs.Alloc.{lists_of, no_lists}
use Rattle.slub_lists.specs.Shrink.{flushed}
use Rattle.slub_lists.specs.Shrinking.{KeepsChecked}
use Rattle.slub_lists.proofs.Leaving.{leaves-both, leaves-same}
use Rattle.slub_lists.proofs.Flushing.{flushed-bare, flushed-others, fold-next, rest-both, rest-flushed}
use Rattle.slub_list_machine.proofs.lists.Lists.flush_cpus.Goals as goal

pub loop-cpu-init : goal.loop-cpu-init
loop-cpu-init c = record {
  flushed =
      let s : State = c.args.self.now in
      let whole : s.cpus - 0 ≡ s.cpus = omega arith in
      ap (λ n. fold (flushed c.args.min_partial c.args.cache) s (range_with_len 0 n)) whole;
  bare = λ cpu below. absurd (omega arith);
  slabs = leaves-same c.args.self.now c.args.self.now c.args.cache refl;
  rest = record { held = record { frames = refl; cpus = refl; table = refl; board = refl; gone = refl; live = refl }; checked = refl };
  coherent = c.requires.coherent;
}

-- the numbers of CPUs is what it was
within : (c : goal.After-flush_cache-arg-1) → c.loop-cpu.cpu < c.args.self.now.cpus
within c =
    let same : c.self.inside.cpus ≡ c.args.self.now.cpus = ap (λ (s : State). s.cpus) c.self.view_is in
    omega (arith, c.loop-cpu-test.true, same)

pub flush_cache-requires-clause-cpu : goal.flush_cache-requires-clause-cpu
flush_cache-requires-clause-cpu c = omega (arith, within c, c.loop-cpu.invariant.rest.held.cpus)

pub flush_cache-requires-clause-coherent : goal.flush_cache-requires-clause-coherent
flush_cache-requires-clause-coherent c = c.loop-cpu.invariant.coherent

pub flush_cache-requires-clause-unchecked : goal.flush_cache-requires-clause-unchecked
flush_cache-requires-clause-unchecked c = ap (λ (xs : List (Option CheckedState)). get_or xs c.args.cache None) c.loop-cpu.invariant.rest.checked ∙ c.requires.unchecked

pub loop-cpu-preserved : goal.loop-cpu-preserved
loop-cpu-preserved c =
    let s : State = c.loop-cpu.self in
    let shaped = c.loop-cpu.invariant.coherent.shaped in
    let same : c.self.inside.cpus ≡ c.args.self.now.cpus = ap (λ (s : State). s.cpus) c.self.view_is in
    let below : c.loop-cpu.cpu < c.args.self.now.cpus = omega (arith, c.loop-cpu-test.true, same) in
    let cpu_within : c.loop-cpu.cpu < s.cpus = omega (arith, below, c.loop-cpu.invariant.rest.held.cpus) in
    record {
      flushed =
          ap (λ (t : State). fold (flushed c.args.min_partial c.args.cache) t (range_with_len (c.loop-cpu.cpu + 1) (c.args.self.now.cpus - (c.loop-cpu.cpu + 1)))) c.flush_cache.ensures.flushed
          ∙ sym (fold-next (flushed c.args.min_partial c.args.cache) s c.loop-cpu.cpu c.args.self.now.cpus below) ∙ c.loop-cpu.invariant.flushed;
      bare = λ other other_below.
          ap (λ (t : State). lists_of t c.args.cache other) c.flush_cache.ensures.flushed
          ∙ elim (cases_eq other c.loop-cpu.cpu) [
            | inl e ↦ subst (λ n. lists_of (flushed c.args.min_partial c.args.cache s c.loop-cpu.cpu) c.args.cache n ≡ no_lists) (sym e) (flushed-bare s c.args.min_partial c.args.cache c.loop-cpu.cpu shaped c.requires.cache cpu_within)
            | inr ne ↦ flushed-others s c.args.min_partial c.args.cache c.loop-cpu.cpu shaped c.requires.cache cpu_within other ne (c.loop-cpu.invariant.bare other (omega arith))
          ];
      slabs = leaves-both c.args.self.now s c.flush_cache.new.self c.args.cache c.loop-cpu.invariant.slabs c.flush_cache.ensures.slabs;
      rest = rest-both c.args.self.now s c.flush_cache.new.self c.loop-cpu.invariant.rest
          (subst (λ (t : State). KeepsChecked s t) (sym c.flush_cache.ensures.flushed) (rest-flushed c.args.min_partial c.args.cache s c.loop-cpu.cpu));
      coherent = c.flush_cache.ensures.coherent;
    }
