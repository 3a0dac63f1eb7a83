-- One event more, and the numbers that it is drawn by.
use Rattle.std.proofs.Common.{◌≡◌, ℕ, suc, ◌+◌, ◌*◌, ◌%◌, [], ◌∷◌, ◌++◌, refl, ap, ◌∙◌, arith}
use Rattle.slub_trace_reader.specs.Generator.{drawn, next, number, state_after}
use Rattle.slub_trace_reader.specs.Load.{drawn_events, event_behind}

state_none : (seed : ℕ) → state_after seed 0 ≡ seed
unfolding state_after
state_none seed = refl

state_more : (seed count : ℕ) → state_after seed (suc count) ≡ next (state_after seed count)
unfolding state_after
state_more seed count = refl

pub state_first : (seed : ℕ) → state_after seed (2 * 0) ≡ seed
state_first seed = state_none seed

-- two numbers more
pub state_two : (seed before : ℕ) → state_after seed (2 * (before + 1)) ≡ next (next (state_after seed (2 * before)))
state_two seed before =
    let two : 2 * (before + 1) ≡ suc (suc (2 * before)) = omega arith in
    ap (state_after seed) two ∙ state_more seed (suc (2 * before)) ∙ ap next (state_more seed (2 * before))

number_first : (seed before : ℕ) → number seed (2 * before) ≡ drawn (next (state_after seed (2 * before)))
unfolding number
number_first seed before = ap drawn (state_more seed (2 * before))

number_second : (seed before : ℕ) → number seed (2 * before + 1) ≡ drawn (next (next (state_after seed (2 * before))))
unfolding number
number_second seed before =
    let one : suc (2 * before + 1) ≡ suc (suc (2 * before)) = omega arith in
    ap drawn (ap (state_after seed) one ∙ state_more seed (suc (2 * before)) ∙ ap next (state_more seed (2 * before)))

pub drawn_none : (seed workers : ℕ) → drawn_events seed workers 0 ≡ []
unfolding drawn_events
drawn_none seed workers = refl

-- the same with the numbers as the definition has them
pub drawn_next : (seed workers before : ℕ) → drawn_events seed workers (suc before)
    ≡ drawn_events seed workers before ++ event_behind (drawn_events seed workers before) (number seed (2 * before) % workers) (number seed (2 * before + 1) % 8) ∷ []
unfolding drawn_events
drawn_next seed workers before = refl

pub drawn_more : (seed workers before : ℕ) → drawn_events seed workers (before + 1)
    ≡ drawn_events seed workers before
    ++ event_behind (drawn_events seed workers before) (drawn (next (state_after seed (2 * before))) % workers) (drawn (next (next (state_after seed (2 * before)))) % 8) ∷ []
drawn_more seed workers before =
    let one : before + 1 ≡ suc before = omega arith in
    let es = drawn_events seed workers before in
    ap (drawn_events seed workers) one ∙ drawn_next seed workers before
    ∙ ap (λ n. es ++ event_behind es (n % workers) (number seed (2 * before + 1) % 8) ∷ []) (number_first seed before)
    ∙ ap (λ n. es ++ event_behind es (drawn (next (state_after seed (2 * before))) % workers) (n % 8) ∷ []) (number_second seed before)
