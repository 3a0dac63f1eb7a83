-- Strings of frames.
use Rattle.std.proofs.Common.{◌≡◌, ◌≢◌, ℕ, zero, suc, ◌+◌, ◌-◌, ◌<◌, ◌≤◌, List, [], ◌∷◌, ◌++◌, length, get_or, take, set, refl, sym, ◌∙◌, ap, subst, arith}
use Rattle.std.specs.Prelude.{slice_index, Contains}
use Rattle.std.proofs.lemmas.List.{take_more_set, get_or-set_other}
use Rattle.std.proofs.lemmas.List.Elements.{Contains-append_right}
use Rattle.slub_cpu_partial.specs.Strings.{string_of, frame_after, AreLinked}

-- a string is as long as its count
pub length-string_of : (next : ℕ → ℕ) (front count : ℕ) → length (string_of next front count) ≡ count
length-string_of next front zero = refl
length-string_of next front (suc count) = ap suc (length-string_of next (next front) count)

-- a longer string goes on where the shorter one leads
string_of-add : (next : ℕ → ℕ) (front n m : ℕ) → string_of next front (n + m) ≡ string_of next front n ++ string_of next (frame_after next front n) m
string_of-add next front zero m = let none : 0 + m ≡ m = omega arith in rw none refl
string_of-add next front (suc n) m =
    let more : suc n + m ≡ suc (n + m) = omega arith in
    rw more (ap (λ (frames : List ℕ). front ∷ frames) (string_of-add next (next front) n m))

-- frames whose last leads to the front of a string stand before it
pub joined : (next : ℕ → ℕ) (front more old count : ℕ) → (1 ≤ count → frame_after next front more ≡ old)
    → string_of next front (more + count) ≡ string_of next front more ++ string_of next old count
joined next front more old zero linked = string_of-add next front more 0
joined next front more old (suc count) linked =
    string_of-add next front more (suc count) ∙ ap (λ (frame : ℕ). string_of next front more ++ string_of next frame (suc count)) (linked (omega arith))

-- links that agree on a string have the same one
same_links : (next other : ℕ → ℕ) (front count : ℕ) → ((frame : ℕ) → Contains (string_of next front count) frame → other frame ≡ next frame)
    → string_of other front count ≡ string_of next front count
same_links next other front zero agree = refl
same_links next other front (suc count) agree =
    let rest = string_of next (next front) count in
    let here : other front ≡ next front = agree front (0, omega arith, refl) in
    ap (λ (frames : List ℕ). front ∷ frames)
    (ap (λ (frame : ℕ). string_of other frame count) here
    ∙ same_links next other (next front) count (λ frame later. agree frame (Contains-append_right (front ∷ []) rest frame later)))

-- a new link of a frame off the string leaves the string alone
pub stays : (links : List ℕ) (front count frame next : ℕ) → ¬ Contains (string_of (λ f. slice_index links f) front count) frame
    → string_of (λ f. slice_index (set links frame next) f) front count ≡ string_of (λ f. slice_index links f) front count
stays links front count frame next apart =
    same_links (λ f. slice_index links f) (λ f. slice_index (set links frame next) f) front count
    (λ f on. let other : f ≢ frame = λ same. apart (subst (λ (x : ℕ). Contains (string_of (λ g. slice_index links g) front count) x) same on) in rw get_or-set_other refl)

-- one link more
frame_after-more : (next : ℕ → ℕ) (front n : ℕ) → frame_after next front (suc n) ≡ next (frame_after next front n)
frame_after-more next front zero = refl
frame_after-more next front (suc n) = frame_after-more next (next front) n

-- the frame at a place of a string is the one that as many links lead to
string_of-at : (next : ℕ → ℕ) (front n i : ℕ) → i < n → get_or (string_of next front n) i 0 ≡ frame_after next front i
string_of-at next front zero i less = absurd (omega arith)
string_of-at next front (suc n) zero less = refl
string_of-at next front (suc n) (suc i) less = string_of-at next (next front) n i (omega arith)

-- a frame before the last has a link
pub has_link : (links : List ℕ) (front n at frame : ℕ) → 0 < at → at < n
    → AreLinked links (string_of (λ f. slice_index links f) front (n - 1)) → frame ≡ frame_after (λ f. slice_index links f) front (at - 1) → frame < length links
has_link links front n at frame some less linked is =
    let within : at - 1 < length (string_of (λ f. slice_index links f) front (n - 1)) = rw length-string_of (omega arith) in
    let below = linked (at - 1) 0 within in
    let here = string_of-at (λ f. slice_index links f) front (n - 1) (at - 1) (omega arith) in
    omega (arith, below, here, is)

-- the frame behind it is found by its link
pub followed : (links : List ℕ) (front at frame next : ℕ) → 0 < at → frame ≡ frame_after (λ f. slice_index links f) front (at - 1)
    → next ≡ slice_index links frame → next ≡ frame_after (λ f. slice_index links f) front at
followed links front zero frame next some is found = absurd (omega arith)
followed links front (suc n) frame next some is found =
    let back : suc n - 1 ≡ n = omega arith in
    let same : frame ≡ frame_after (λ f. slice_index links f) front n = is ∙ ap (frame_after (λ f. slice_index links f) front) back in
    found ∙ ap (λ (f : ℕ). slice_index links f) same ∙ sym (frame_after-more (λ f. slice_index links f) front n)

-- one more frame is written
pub written : (next : ℕ → ℕ) (room : List ℕ) (front at frame : ℕ) → at < length room → take at room ≡ string_of next front at → frame ≡ frame_after next front at
    → take (at + 1) (set room at frame) ≡ string_of next front (at + 1)
written next room front at frame inside so_far is =
    rw (take_more_set, string_of-add next front at 1) (ap (λ (xs : List ℕ). xs ++ frame ∷ []) so_far ∙ ap (λ (f : ℕ). string_of next front at ++ f ∷ []) is)
