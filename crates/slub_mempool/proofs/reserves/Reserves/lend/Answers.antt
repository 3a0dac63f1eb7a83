use Rattle.std.proofs.Common.{◌≡◌, [], ◌∷◌, ◌++◌, sym, ◌∙◌, ap, arith}
use Rattle.std.proofs.lemmas.Grind.{common_steps}
use Rattle.slub_rounds.specs.Reserves.{Reserve, reserve_at}
use Rattle.slub_mempool.proofs.Keeping.{last-in}
use Rattle.slub_mempool.proofs.reserves.Reserves.lend.Goals as goal

pub address_under-requires-clause-number : goal.address_under-requires-clause-number
address_under-requires-clause-number c =
    let now : c.index_mut.result.now ≡ reserve_at c.args.self.now c.args.at = grind (arith, common_steps) in
    let has : (reserve_at c.args.self.now c.args.at).numbers ≡ c.take_last.new.self.numbers ++ c.in-Some.object ∷ [] = ap (λ (r : Reserve). r.numbers) (sym now) ∙ c.in-Some.ensures.popped in
    c.requires.known c.in-Some.object (last-in c.args.self.now c.args.at c.in-Some.object c.take_last.new.self.numbers c.requires.at has)
