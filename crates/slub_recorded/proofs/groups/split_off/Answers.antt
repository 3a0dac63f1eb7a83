use Rattle.std.proofs.Common.{◌≡◌, ◌+◌, ◌≤◌, refl, ap, map, ◌++◌, ◌∷◌, [], sym, subst, ◌∙◌, List, length, take, drop, arith}
use Rattle.std.proofs.lemmas.List.{append-nil, drop_all, drop_more, take_all, take_more}
use Rattle.slub_recorded.specs.declared.groups.Chosen.{Chosen}
use Rattle.slub_recorded.specs.Groups.{IsSplit}
use Rattle.slub_recorded.specs.Members.{Need, left_over, need_of, packed}
use Rattle.slub_recorded.proofs.Packing.{left_nil, packed_nil}
use Rattle.slub_recorded.proofs.Rooms.{Same, one_parted}
use Rattle.slub_recorded.proofs.Slots.{none_yet}
use Rattle.slub_recorded.proofs.groups.split_off.Goals as goal

pub loop-cache-init : goal.loop-cache-init
loop-cache-init c = record {
  split = none_yet _ c.in_ok-with_capacity.ensures.items refl c.new.ensures.items;
  taken = ap (λ (t : List Chosen). packed (map need_of t) (map need_of c.args.caches.now)) c.in_ok-with_capacity.ensures.items;
  others = (λ i. map need_of (c.new.ensures.items i) ++ left_over (map need_of (c.in_ok-with_capacity.ensures.items i)) (map need_of c.args.caches.now));
}

pub loop-cache-preserved : goal.loop-cache-preserved
loop-cache-preserved c =
    let caches = c.args.caches.now in
    let i = c.loop-cache.cache-index in
    let item = c.cache-item.result in
    let inv = c.loop-cache.invariant in
    let new = c.place_in.new.split in
    let rest : List Need = map need_of (drop (i + 1) caches) in
    let split = c.in_ok-place_in.ensures.split (take i caches) inv.split in
    let packs = c.in_ok-place_in.ensures.packs (take i caches) inv.split in
    let more : drop i caches ≡ item ∷ drop (i + 1) caches = drop_more caches i item c.loop-cache-test.true ∙ ap (λ (x : Chosen). x ∷ drop (i + 1) caches) (sym c.cache-item.is) in
    let s : Same c.loop-cache.split new item rest = one_parted c.loop-cache.split new item rest packs in
    let P : List Chosen → Type 0 = λ given. IsSplit given new in
    let old = c.loop-cache.split in
    record {
      split = subst P (ap (λ (x : Chosen). take i caches ++ x ∷ []) c.cache-item.is ∙ sym (take_more caches i item c.loop-cache-test.true)) split;
      taken = s.taken ∙ ap (λ (l : List Chosen). packed (map need_of old.taken.items) (map need_of l)) (sym more) ∙ inv.taken;
      others = s.others ∙ ap (λ (l : List Chosen). map need_of old.others.items ++ left_over (map need_of old.taken.items) (map need_of l)) (sym more) ∙ inv.others;
    }

pub returns : goal.returns
returns c =
    let caches = c.args.caches.now in
    let i = c.loop-cache.cache-index in
    let inv = c.loop-cache.invariant in
    let split = c.loop-cache.split in
    let t = map need_of split.taken.items in
    let end : length caches ≤ i = omega (arith, c.loop-cache-test.false) in
    let none : drop i caches ≡ [] = drop_all i caches end in
    record {
      split = subst (λ (g : List Chosen). IsSplit g split) (take_all i caches end) inv.split;
      packs = record {
        taken = sym (packed_nil t) ∙ ap (λ (l : List Chosen). packed t (map need_of l)) (sym none) ∙ inv.taken;
        others = sym (append-nil (map need_of split.others.items)) ∙ ap (λ (l : List Need). map need_of split.others.items ++ l) (sym (left_nil t)) ∙ ap (λ (l : List Chosen). map need_of split.others.items ++ left_over t (map need_of l)) (sym none) ∙ inv.others;
      };
    }
