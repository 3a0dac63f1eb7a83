-- Each event has one fate, and is counted once.
use Rattle.std.proofs.Common.{◌≡◌, ℕ, suc, ◌+◌, ◌==◌, Bool, true, false, List, [], ◌∷◌, length, filter, refl, sym, ap, ◌∙◌, arith}
use Rattle.std.specs.Prelude.{fold, if◌then◌else◌}
use Rattle.std.proofs.lemmas.List.{length-append}
use Rattle.std.proofs.lemmas.List.Sums.{length-filter}
use Rattle.slub_recording.specs.declared.event.KmemEvent.{KmemEvent}
use Rattle.slub_recorded.specs.declared.pairing.Fate.{Fate}
use Rattle.slub_recorded.specs.declared.pairing.Fate.TheVariants as fate
use Rattle.slub_recorded.specs.Pairing.{Seen, after, fate_of, held_at, nothing, seen, with_fate, with_moves}
use Rattle.slub_recorded.specs.Told.{count_fate, fate_code, fate_notes, sum_told}

-- how many fates have this number
many : ℕ → List Fate → ℕ
many code fates = length (filter (λ f. fate_code f == code) fates)

all_codes : (fates : List Fate) → many 0 fates + (many 1 fates + (many 2 fates + (many 3 fates + (many 4 fates + (many 5 fates + (many 6 fates + (many 7 fates + 0))))))) ≡ length fates
unfolding many
all_codes [] = refl
all_codes (fate.Given ∷ fates) = let more = all_codes fates in omega (arith, more)
all_codes (fate.Failed ∷ fates) = let more = all_codes fates in omega (arith, more)
all_codes (fate.PagesGiven ∷ fates) = let more = all_codes fates in omega (arith, more)
all_codes (fate.Freed ∷ fates) = let more = all_codes fates in omega (arith, more)
all_codes (fate.OfNothing ∷ fates) = let more = all_codes fates in omega (arith, more)
all_codes (fate.PagesFreed ∷ fates) = let more = all_codes fates in omega (arith, more)
all_codes (fate.CacheUnknown ∷ fates) = let more = all_codes fates in omega (arith, more)
all_codes (fate.Unknown ∷ fates) = let more = all_codes fates in omega (arith, more)

counts : (fates : List Fate) (f : Fate) → count_fate fates f ≡ many (fate_code f) fates
unfolding many
counts fates f = sym (length-filter (λ other. fate_code other == fate_code f) fates)

fates_sum : (fates : List Fate) → sum_told (fate_notes fates) ≡ length fates
fates_sum fates =
    let a = counts fates fate.Given in
    let b = counts fates fate.Failed in
    let c = counts fates fate.PagesGiven in
    let d = counts fates fate.Freed in
    let e = counts fates fate.OfNothing in
    let f = counts fates fate.PagesFreed in
    let g = counts fates fate.CacheUnknown in
    let h = counts fates fate.Unknown in
    let all = all_codes fates in
    omega (arith, a, b, c, d, e, f, g, h, all)

one_by : (s : Seen) (e : KmemEvent) (b : Bool)
    → (let t : Seen = if b then with_fate s (fate_of e.act b (held_at s.held e.pointer)) else with_moves (with_fate s (fate_of e.act b (held_at s.held e.pointer))) e in length t.fates ≡ length s.fates + 1)
one_by s e true = length-append s.fates _
one_by s e false = length-append s.fates _

fates_many : (es : List KmemEvent) (s : Seen) → length (fold after s es).fates ≡ length s.fates + length es
unfolding after
fates_many [] s = let same : length s.fates ≡ length s.fates + 0 = omega arith in same
fates_many (e ∷ es) s =
    let more : length (fold after (after s e) es).fates ≡ length (after s e).fates + length es = fates_many es (after s e) in
    let one : length (after s e).fates ≡ length s.fates + 1 = one_by s e (e.pointer == 0) in
    more ∙ ap (λ n. n + length es) one ∙ (let step : length s.fates + 1 + length es ≡ length s.fates + suc (length es) = omega arith in step)

pub add_up : (events : List KmemEvent) → sum_told (fate_notes (seen events).fates) ≡ length events
add_up events = fates_sum (seen events).fates ∙ fates_many events nothing ∙ (let none : 0 + length events ≡ length events = omega arith in none)
