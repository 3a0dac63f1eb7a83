use Rattle.std.proofs.Common.{◌≡◌, true, false, nat_eq, refl, sym, ◌∙◌, arith}
use Rattle.std.specs.List.{list_any}
use Rattle.std.proofs.lemmas.Bool.{false≢true}
use Rattle.slub_trace_reader.proofs.Runs.{each_run, run_each, up_to}
use Rattle.slub_trace_reader.proofs.numbers.has_all.Goals as goal

pub loop-object-init : goal.loop-object-init
loop-object-init c = record { low = omega arith; each = λ n low high. absurd (let never : ⊥ = omega arith in never) }

pub returns-then-not-has : goal.returns-then-not-has
returns-then-not-has c =
    let found : list_any (nat_eq c.loop-object.object) c.args.objects.now.keys ≡ false = sym c.has.ensures ∙ c.if-not-has.true in
    (λ is. absurd (false≢true is), λ all. absurd (false≢true (sym found ∙ each_run (λ m. list_any (nat_eq m) c.args.objects.now.keys ≡ true) c.args.first c.args.count c.loop-object.object all c.loop-object.invariant.low c.loop-object-test.true)))

pub loop-object-preserved : goal.loop-object-preserved
loop-object-preserved c =
    let was = c.loop-object.invariant in
    let here : list_any (nat_eq c.loop-object.object) c.args.objects.now.keys ≡ true = sym c.has.ensures ∙ c.if-not-has.false in
    record { low = omega (arith, was.low); each = up_to (λ m. list_any (nat_eq m) c.args.objects.now.keys ≡ true) c.args.first c.loop-object.object was.each here }

pub returns : goal.returns
returns c = (
  λ is. run_each (λ m. list_any (nat_eq m) c.args.objects.now.keys ≡ true) c.args.first c.args.count (λ n low high. c.loop-object.invariant.each n low (let end = c.loop-object-test.false in omega arith)),
  λ all. refl,
)
