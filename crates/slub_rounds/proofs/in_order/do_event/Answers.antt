use Rattle.std.proofs.Common.{◌≡◌, ℕ, ◌<◌, Bool, false, List, refl, sym, ap, ◌∙◌, subst, length, get_or, arith}
use Rattle.slub_core.specs.Setup.{Setup}
use Rattle.slub_core.specs.Local.{Local}
use Rattle.slub_core.specs.Run.{System, Pick, idle}
use Rattle.slub_core.specs.Facts.{Facts, setup_of}
use Rattle.slub_turns.specs.Means.{the_means}
use Rattle.slub_rounds.specs.Doing.{HasTurned, is_through, local_at}
use Rattle.slub_rounds.specs.Machine.{system_in}
use Rattle.slub_rounds.proofs.Doing.{turn-long, turned-more, turned-none}
use Rattle.slub_rounds.proofs.in_order.do_event.Goals as goal

pub loop-count-init : goal.loop-count-init
loop-count-init c = record {
  ready = c.requires.ready;
  setup = refl;
  turned = turned-none _ _ _ _ _;
  worker = c.requires.worker;
  counted = c.requires.made;
}

pub has_come-requires : goal.has_come-requires
has_come-requires c = subst (λ (ls : List Local). c.args.worker < length ls) (sym c.deref.ensures.value) c.loop-count.invariant.worker

pub has_come-requires-2 : goal.has_come-requires-2
has_come-requires-2 c = subst (λ (ls : List Local). c.args.worker < length ls) (sym c.deref-2.ensures.value) c.loop-count.invariant.worker

-- what is said of the worker's local is said of the machine's
said : (told : Bool) (passed worker : ℕ) (lent items : List Local) → told ≡ is_through passed (get_or lent worker idle) → lent ≡ items → is_through passed (get_or items worker idle) ≡ told
said told passed worker lent items is same = sym (is ∙ ap (λ (ls : List Local). is_through passed (get_or ls worker idle)) same)

pub loop-count-preserved : goal.loop-count-preserved
loop-count-preserved c =
    let m : Setup = setup_of c.args.machine.now.setup the_means in
    let k : Setup = setup_of c.loop-count.machine.setup the_means in
    let s : System = system_in c.loop-count.machine in
    let t : System = system_in c.turn.new.self in
    let i = c.loop-count.invariant in
    let (refused, turned) = c.turn.ensures.turned in
    let pick : Pick = record { worker = c.args.worker; refused = refused; tries = false } in
    let not : is_through c.args.passed (local_at s c.args.worker) ≡ false = said c.has_come.result c.args.passed c.args.worker c.deref.result.now c.loop-count.machine.locals.items c.has_come.ensures c.deref.ensures.value ∙ c.if-has_come.false in
    let long : length t.locals ≡ length s.locals = ap (λ (y : System). length y.locals) turned ∙ turn-long k s pick in
    let below : c.args.worker < length s.locals = i.worker in
    record {
      ready = c.turn.ensures.ready;
      setup = ap (λ (f : Facts). setup_of f the_means) c.turn.ensures.setup ∙ i.setup;
      turned = turned-more m k c.args.worker c.args.passed (system_in c.args.machine.now) s t c.args.made c.loop-count.count refused i.turned i.setup not turned;
      worker = omega (arith, long, below);
      counted = omega (arith, c.loop-count-test.true);
    }

pub returns-then-has_come-clause-through : goal.returns-then-has_come-clause-through
returns-then-has_come-clause-through c = record {
  turned = c.loop-count.invariant.turned;
  within = c.loop-count.invariant.counted;
  through = said c.has_come.result c.args.passed c.args.worker c.deref.result.now c.loop-count.machine.locals.items c.has_come.ensures c.deref.ensures.value ∙ c.if-has_come.true;
}

pub returns-then-has_come-2-clause-through : goal.returns-then-has_come-2-clause-through
returns-then-has_come-2-clause-through c =
    let m : Setup = setup_of c.args.machine.now.setup the_means in
    let P : ℕ → Type 0 = λ n. HasTurned m c.args.worker c.args.passed (system_in c.args.machine.now) (system_in c.loop-count.machine) c.args.made n in
    let all : c.loop-count.count ≡ c.args.turns = omega (arith, c.loop-count-test, c.loop-count.invariant.counted) in
    record {
      turned = subst P all c.loop-count.invariant.turned;
      within = omega arith;
      through = said c.has_come-2.result c.args.passed c.args.worker c.deref-2.result.now c.loop-count.machine.locals.items c.has_come-2.ensures c.deref-2.ensures.value ∙ c.if-has_come-2.true;
    }

pub returns-else-has_come-2-clause-under : goal.returns-else-has_come-2-clause-under
returns-else-has_come-2-clause-under c =
    let m : Setup = setup_of c.args.machine.now.setup the_means in
    let P : ℕ → Type 0 = λ n. HasTurned m c.args.worker c.args.passed (system_in c.args.machine.now) (system_in c.loop-count.machine) c.args.made n in
    let all : c.loop-count.count ≡ c.args.turns = omega (arith, c.loop-count-test, c.loop-count.invariant.counted) in
    record {
      turned = subst P all c.loop-count.invariant.turned;
      under = said c.has_come-2.result c.args.passed c.args.worker c.deref-2.result.now c.loop-count.machine.locals.items c.has_come-2.ensures c.deref-2.ensures.value ∙ c.if-has_come-2.false;
    }
