use Rattle.std.proofs.Common.{◌≡◌, List, [], ◌∷◌, ◌++◌, length, map, refl, sym, ◌∙◌, ap, append_assoc, append-nil, arith}
use Rattle.std.proofs.lemmas.List.{map_push}
use Rattle.std.specs.Vec.Iter.{into_iter_items}
use Rattle.slub_core.specs.Local.{Local}
use Rattle.slub_calls.specs.Share.{gathered}
use Rattle.slub_calls.specs.declared.share.Share.{Share}
use Rattle.slub_calls.proofs.workers.workers.Goals as goal

opened_more : (locals more : List Local) (local : Local) (shares : List Share) (share : Share) → more ≡ locals ++ local ∷ [] → locals ≡ map gathered shares → local ≡ gathered share
    → more ≡ map gathered (shares ++ share ∷ [])
opened_more locals more local shares share pushed opened is =
    pushed ∙ ap (λ locals. locals ++ local ∷ []) opened ∙ ap (λ local. map gathered shares ++ local ∷ []) is ∙ sym (map_push gathered shares share)

pub loop-share-preserved : goal.loop-share-preserved
loop-share-preserved c =
    let at = c.loop-share in
    let share : Share = c.in-Some.share in
    let steps : into_iter_items at.share-iterator ≡ share ∷ into_iter_items c.next.new.self = c.in-Some.ensures.steps.0 in record {
      opened = opened_more at.workers.items _ c.in_ok-into_local.field-0 at.yielded share c.in_ok-push.ensures.items at.invariant.opened c.in_ok-into_local.ensures;
      all = append_assoc at.yielded (share ∷ []) _ ∙ rw (← steps) at.invariant.all;
      long =
          let was = at.invariant.long in
          let gone = c.in-Some.ensures.steps.1 in
          let short = ap length steps in
          omega arith;
    }

none_left : (shares : List Share) → length shares ≡ 0 → shares ≡ []
none_left [] none = refl
none_left (share ∷ shares) none = absurd (omega (arith, none))

pub returns : goal.returns
returns c =
    let at = c.loop-share in
    let empty : into_iter_items at.share-iterator ≡ [] = none_left _ (sym at.invariant.long ∙ c.in-None.ensures.steps.0) in
    let all = sym (append-nil at.yielded) ∙ rw empty at at.invariant.all ∙ c.into_iter-share-iterator.ensures.into_iter_gives.0 in
    at.invariant.opened ∙ ap (map gathered) all ∙ c.in_ok-shares.ensures
