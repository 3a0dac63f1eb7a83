-- Whether a group has room for one more cache.
use Rattle.std.proofs.Common.{◌≡◌, ℕ, ◌+◌, ◌<◌, ◌≤◌, ◌==◌, ◌⊎◌, inl, inr, Bool, true, false, ◌&&◌, List, [], ◌∷◌, ◌++◌, length, map, cond, nat_lt, refl, sym, ap, ◌∙◌, arith, append_assoc}
use Rattle.std.specs.Prelude.{count_by, nat_le, sum_by}
use Rattle.std.proofs.lemmas.Bool.{false≢true}
use Rattle.std.proofs.lemmas.Bool.Decides.{nat_tests}
use Rattle.std.proofs.lemmas.List.{length-map, map-append}
use Rattle.std.proofs.lemmas.List.Folds.{fold-map}
use Rattle.slub_recorded.specs.declared.groups.Chosen.{Chosen}
use Rattle.slub_recorded.specs.declared.groups.Split.{Split}
use Rattle.slub_recorded.specs.Groups.{frames_of}
use Rattle.slub_recorded.specs.Members.{Need, PacksMore, has_room, left_over, need_of, packed}
use Rattle.slub_recorded.proofs.Packing.{left_no, left_yes, packed_no, packed_yes}

needs_count : (slot : ℕ) (cs : List Chosen) → count_by (λ (n : Need). n.cache.slot == slot) (map need_of cs) ≡ count_by (λ (o : Chosen). o.cache.slot == slot) cs
needs_count slot cs = fold-map (λ a (n : Need). a + cond (n.cache.slot == slot) 1 0) need_of 0 cs

needs_frames : (cs : List Chosen) → sum_by (λ (n : Need). n.frames) (map need_of cs) ≡ frames_of cs
unfolding frames_of
needs_frames cs = fold-map (λ a (n : Need). a + n.frames) need_of 0 cs

no_first : (a b c : Bool) → a ≡ false → (a && b && c) ≡ false
no_first true b c e = absurd (false≢true (sym e))
no_first false b c e = refl

no_second : (a b c : Bool) → b ≡ false → (a && b && c) ≡ false
no_second true true c e = absurd (false≢true (sym e))
no_second true false c e = refl
no_second false b c e = refl

no_third : (a b c : Bool) → c ≡ false → (a && b && c) ≡ false
no_third true true c e = e
no_third true false c e = refl
no_third false b c e = refl

pub room_yes : (taken : List Chosen) (c : Chosen) (same : ℕ) → length taken < 32 → same ≡ count_by (λ (o : Chosen). o.cache.slot == c.cache.slot) taken → same < 2 → frames_of taken + c.frames ≤ 4095 → has_room (map need_of taken) (need_of c) ≡ true
unfolding has_room
room_yes taken c same room is less sum =
    let there = map need_of taken in
    let count : count_by (λ (n : Need). n.cache.slot == c.cache.slot) there ≡ same = needs_count c.cache.slot taken ∙ sym is in
    let frames = needs_frames taken in
    let long : length there ≡ length taken = length-map taken need_of in
    let fewer : length there < 32 = omega (arith, long, room) in
    let two : count_by (λ (n : Need). n.cache.slot == c.cache.slot) there < 2 = omega (arith, count, less) in
    let fit : sum_by (λ (n : Need). n.frames) there + c.frames ≤ 4095 = omega (arith, frames, sum) in
    let a : nat_lt (length there) 32 ≡ true = grind (arith, nat_tests) in
    let b : nat_lt (count_by (λ (n : Need). n.cache.slot == c.cache.slot) there) 2 ≡ true = grind (arith, nat_tests) in
    let f : nat_le (sum_by (λ (n : Need). n.frames) there + c.frames) 4095 ≡ true = grind (arith, nat_tests) in
    λ i. a i && b i && f i

pub room_no : (taken : List Chosen) (c : Chosen) (same : ℕ) → same ≡ count_by (λ (o : Chosen). o.cache.slot == c.cache.slot) taken → (32 ≤ length taken) ⊎ ((2 ≤ same) ⊎ (4095 < frames_of taken + c.frames)) → has_room (map need_of taken) (need_of c) ≡ false
unfolding has_room
room_no taken c same is why =
    let there = map need_of taken in
    let count : count_by (λ (n : Need). n.cache.slot == c.cache.slot) there ≡ same = needs_count c.cache.slot taken ∙ sym is in
    let frames = needs_frames taken in
    let long : length there ≡ length taken = length-map taken need_of in
    let a = nat_lt (length there) 32 in
    let b = nat_lt (count_by (λ (n : Need). n.cache.slot == c.cache.slot) there) 2 in
    let f = nat_le (sum_by (λ (n : Need). n.frames) there + c.frames) 4095 in
    elim why [
      | inl h ↦ let more : 32 ≤ length there = omega (arith, long, h) in no_first a b f (grind (arith, nat_tests))
      | inr (inl h) ↦ let more : 2 ≤ count_by (λ (n : Need). n.cache.slot == c.cache.slot) there = omega (arith, count, h) in no_second a b f (grind (arith, nat_tests))
      | inr (inr h) ↦ let more : 4095 < sum_by (λ (n : Need). n.frames) there + c.frames = omega (arith, frames, h) in no_third a b f (grind (arith, nat_tests))
    ]

pub took_one : (old new : Split) (c d : Chosen) → has_room (map need_of old.taken.items) (need_of c) ≡ true → need_of d ≡ need_of c → new.taken.items ≡ old.taken.items ++ d ∷ [] → new.others.items ≡ old.others.items → PacksMore old c new
took_one old new c d room same taken others =
    let t = map need_of old.taken.items in
    let o = map need_of old.others.items in
    record {
      taken = ap (map need_of) taken ∙ map-append need_of old.taken.items (d ∷ []) ∙ ap (λ (n : Need). t ++ n ∷ []) same ∙ sym (ap (λ (b : Bool). cond b (t ++ need_of c ∷ []) t) room);
      others = ap (map need_of) others ∙ sym (ap (λ (b : Bool). cond b o (o ++ need_of c ∷ [])) room);
    }

pub left_one : (old new : Split) (c : Chosen) → has_room (map need_of old.taken.items) (need_of c) ≡ false → new.taken.items ≡ old.taken.items → new.others.items ≡ old.others.items ++ c ∷ [] → PacksMore old c new
left_one old new c room taken others =
    let t = map need_of old.taken.items in
    let o = map need_of old.others.items in
    record {
      taken = ap (map need_of) taken ∙ sym (ap (λ (b : Bool). cond b (t ++ need_of c ∷ []) t) room);
      others = ap (map need_of) others ∙ map-append need_of old.others.items (c ∷ []) ∙ sym (ap (λ (b : Bool). cond b o (o ++ need_of c ∷ [])) room);
    }

-- ---- what is left to be parted

pub record Same (old new : Split) (c : Chosen) (rest : List Need) : Type 0 where
  pub taken : packed (map need_of new.taken.items) rest ≡ packed (map need_of old.taken.items) (need_of c ∷ rest)
  pub others : map need_of new.others.items ++ left_over (map need_of new.taken.items) rest ≡ map need_of old.others.items ++ left_over (map need_of old.taken.items) (need_of c ∷ rest)

pub one_parted : (old new : Split) (c : Chosen) (rest : List Need) → PacksMore old c new → Same old new c rest
one_parted old new c rest more = by (has_room (map need_of old.taken.items) (need_of c)) refl
  where
    t : List Need
    t = map need_of old.taken.items

    o : List Need
    o = map need_of old.others.items

    by : (b : Bool) → has_room (map need_of old.taken.items) (need_of c) ≡ b → Same old new c rest
    by true e =
        let taken : map need_of new.taken.items ≡ t ++ need_of c ∷ [] = more.taken ∙ ap (λ (b : Bool). cond b (t ++ need_of c ∷ []) t) e in
        let others : map need_of new.others.items ≡ o = more.others ∙ ap (λ (b : Bool). cond b o (o ++ need_of c ∷ [])) e in
        record {
          taken = ap (λ (l : List Need). packed l rest) taken ∙ sym (packed_yes t (need_of c) rest e);
          others = (λ i. others i ++ left_over (taken i) rest) ∙ ap (λ (l : List Need). o ++ l) (sym (left_yes t (need_of c) rest e));
        }
    by false e =
        let taken : map need_of new.taken.items ≡ t = more.taken ∙ ap (λ (b : Bool). cond b (t ++ need_of c ∷ []) t) e in
        let others : map need_of new.others.items ≡ o ++ need_of c ∷ [] = more.others ∙ ap (λ (b : Bool). cond b o (o ++ need_of c ∷ [])) e in
        record {
          taken = ap (λ (l : List Need). packed l rest) taken ∙ sym (packed_no t (need_of c) rest e);
          others = (λ i. others i ++ left_over (taken i) rest) ∙ append_assoc o (need_of c ∷ []) (left_over t rest) ∙ ap (λ (l : List Need). o ++ l) (sym (left_no t (need_of c) rest e));
        }
