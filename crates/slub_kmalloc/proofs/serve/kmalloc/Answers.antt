use Rattle.std.proofs.Common.{rules, ◌≡◌, ℕ, List, [], ◌∷◌, ◌++◌, refl, ◌∙◌, ap, subst, Result, arith}
use Rattle.std.specs.List.{range_with_len}
use Rattle.slub_trace.specs.declared.create.Created.{Created}
use Rattle.slub_trace.specs.declared.create.CreateRefusal.{CreateRefusal}
use Rattle.slub_slabinfo_text.specs.declared.client.ClientAnswer.TheVariants as answer
use Rattle.slub_rounds.specs.Kmalloc.{CreatesClasses}
use Rattle.slub_rounds.proofs.Staying.{stays-now, stays-same, stays-then}
use Rattle.slub_kmalloc.proofs.Serving.{creates_more, range_more}
use Rattle.slub_kmalloc.proofs.serve.kmalloc.Goals as goal

pub loop-class-init : goal.loop-class-init
loop-class-init c = record { made = search rules; stays = stays-same c.args.heap c.args.trace.now 0; board = refl }

pub create-requires-clause-asks : goal.create-requires-clause-asks
create-requires-clause-asks c = stays-now c.args.heap c.args.trace.now 0 c.loop-class.now c.requires.asks c.loop-class.invariant.stays

pub returns-clause-stays : goal.returns-clause-stays
returns-clause-stays c = c.loop-class.invariant.stays

pub loop-class-preserved : goal.loop-class-preserved
loop-class-preserved c =
    let before = c.loop-class.invariant in
    let creates = rw (c.class_name.ensures, c.class_spec.ensures) at c.in_ok-after.ensures.creates in
    let grown : c.push.new.self.items ≡ c.loop-class.answers.items ++ c.in_ok-after.made ∷ [] = c.in_ok-push.ensures.items in
    record {
      made = rw (range_more c.loop-class.class, grown) (creates_more c.args.heap c.args.trace.now (range_with_len 0 c.loop-class.class) c.loop-class.answers.items c.loop-class.now c.in_ok-after.after c.loop-class.class c.in_ok-after.made before.made creates);
      stays = stays-then c.args.heap c.loop-class.now c.in_ok-after.after c.args.trace.now 0 before.stays c.in_ok-after.ensures.stays;
      board = c.in_ok-after.ensures.board ∙ before.board;
    }

pub returns-clause-served : goal.returns-clause-served
returns-clause-served c =
    let all : c.loop-class.class ≡ 13 = omega (arith, c.loop-class-test.false, c.loop-class.auto) in
    let made = subst (λ (n : ℕ). CreatesClasses c.args.heap c.args.trace.now (range_with_len 0 n) c.loop-class.answers.items c.loop-class.now) all c.loop-class.invariant.made in
    let told = c.at_once.ensures.answer ∙ ap (λ (made : List (Result Created CreateRefusal)). answer.Created made) c.from_vec.ensures in
    (c.loop-class.answers.items, c.at_once.ensures.rounds, told, made)
