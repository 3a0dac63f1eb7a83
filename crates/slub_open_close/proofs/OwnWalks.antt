-- Walks into a slab's own freelist: what was come by stands there the other way round.
use Rattle.std.proofs.Common.{◌≡◌, ℕ, ◌-◌, ◌<◌, ◌≤◌, ◌++◌, List, [], ◌∷◌, length, get_or, set, reverse, ap, sym, ◌∙◌, arith, length-set, set-set, get_or-set_same}
use Rattle.std.proofs.lemmas.List.{length-reverse, reverse-append}
use Rattle.slub_open_close.specs.Reads.{walked}
use Rattle.slub_open_close.proofs.Walked.{walk-further, walk-done}

module _ (item next : ℕ → ℕ) where
  -- only the list of one frame changes; what was come by, and what the walk comes by from here on, are
  -- the whole
  pub record IsUnderWay (all now : List (List ℕ)) (frame at : ℕ) (whole : List ℕ) : Type 0 where
    pub inside : frame < length all
    pub others : now ≡ set all frame (get_or now frame [])
    pub come : whole ≡ reverse (get_or now frame []) ++ walked item next (512 - length (reverse (get_or now frame []))) at

  module _ (all : List (List ℕ)) (frame : ℕ) where
    pub begun : (now : List (List ℕ)) (head : ℕ) → frame < length all → now ≡ set all frame [] → IsUnderWay all now frame head (walked item next 512 head)
    begun now head inside is =
        let none : get_or now frame [] ≡ [] = ap (λ (lists : List (List ℕ)). get_or lists frame []) is ∙ get_or-set_same all frame [] [] inside in
        record {
          inside = inside;
          others = is ∙ ap (set all frame) (sym none);
          come = ap (λ (own : List ℕ). reverse own ++ walked item next (512 - length (reverse own)) head) (sym none);
        }

    module _ (now : List (List ℕ)) (at : ℕ) (whole : List ℕ) (under_way : IsUnderWay all now frame at whole) where
      pub as-many : length now ≡ length all
      as-many = ap length under_way.others ∙ length-set all frame (get_or now frame [])

      -- one object more is at the front
      pub further : (after : List (List ℕ)) (to x : ℕ) → 0 < at → length (get_or now frame []) < 512 → x ≡ item at → to ≡ next at → after ≡ set now frame (x ∷ get_or now frame []) → IsUnderWay all after frame to whole
      further after to x some room is leads more =
          let here : get_or after frame [] ≡ x ∷ get_or now frame [] =
          ap (λ (lists : List (List ℕ)). get_or lists frame []) more ∙ get_or-set_same now frame (x ∷ get_or now frame []) [] (omega (arith, as-many, under_way.inside)) in
          let step = walk-further item next 512 at to x (reverse (get_or now frame [])) whole some (omega (arith, room, length-reverse (get_or now frame []))) is leads under_way.come in
          record {
            inside = under_way.inside;
            others =
                more ∙ ap (λ (lists : List (List ℕ)). set lists frame (x ∷ get_or now frame [])) under_way.others
                ∙ set-set all frame (get_or now frame []) (x ∷ get_or now frame []) ∙ ap (set all frame) (sym here);
            come = step ∙ ap (λ (own : List ℕ). own ++ walked item next (512 - length own) to) (sym (reverse-append (x ∷ []) (get_or now frame [])) ∙ ap reverse (sym here));
          }

      -- nothing is left, or there is no room
      pub ended : (0 < at → 512 ≤ length (get_or now frame [])) → set now frame (reverse (get_or now frame [])) ≡ set all frame whole
      ended done =
          ap (λ (lists : List (List ℕ)). set lists frame (reverse (get_or now frame []))) under_way.others
          ∙ set-set all frame (get_or now frame []) (reverse (get_or now frame []))
          ∙ ap (set all frame) (walk-done item next 512 at (reverse (get_or now frame [])) whole (λ some. let d = done some in omega (arith, d, length-reverse (get_or now frame []))) under_way.come)
