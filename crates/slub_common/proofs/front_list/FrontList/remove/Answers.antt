use Rattle.std.proofs.Common.{◌≡◌, ◌+◌, eqb, length, filter, refl, ap, ◌∙◌, arith, rules}
use Rattle.std.specs.Prelude.{not}
use Rattle.std.proofs.lemmas.Fn.{filter_same}
use Rattle.std.proofs.lemmas.Bool.Decides.{nat_tests}
use Rattle.std.proofs.lemmas.List.Sums.{length-filter}
use Rattle.std.proofs.lemmas.List.Filters.{length-filter_both}
use Rattle.slub_common.specs.Times.{times}
use Rattle.slub_common.proofs.front_list.FrontList.remove.Goals as goal

pub returns-clause-removed : goal.returns-clause-removed
returns-clause-removed g c = filter_same _ (λ other. not (eqb other c.args.item)) _ (λ x b f k. search rules) _ _ c.retain.ensures.filtered ∙ ap (filter (λ other. not (eqb other c.args.item))) c.self.view_is

-- it stood there where fewer are left
pub returns-clause-found : goal.returns-clause-found
returns-clause-found g c =
    let left = ap length (returns-clause-removed g c) in
    let both : length (filter (λ x. eqb x c.args.item) c.args.self.now) + length (filter (λ x. not (eqb x c.args.item)) c.args.self.now) ≡ length c.args.self.now =
    length-filter_both (λ x. eqb x c.args.item) (λ x. not (eqb x c.args.item)) (λ x. refl) c.args.self.now in
    let there : length (filter (λ x. eqb x c.args.item) c.args.self.now) ≡ times c.args.item c.args.self.now = length-filter (λ x. eqb x c.args.item) c.args.self.now in
    grind (arith, nat_tests, left, both, there)
