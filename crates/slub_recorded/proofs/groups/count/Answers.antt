use Rattle.std.proofs.Common.{◌≡◌, ℕ, zero, suc, ◌<◌, ◌≤◌, List, [], ◌∷◌, length, get_or, set, slice_get, Option, Some, None, refl, ap, sym, ◌∙◌, arith}
use Rattle.std.specs.Prelude.{option_map, slice_index}
use Rattle.std.proofs.lemmas.List.{length-map, get_or-map}
use Rattle.std.proofs.lemmas.Option.{none-some, get_or_from_slice_get, slice_get_past, slice_get_within}
use Rattle.slub_recorded.specs.declared.groups.Cache.{Cache}
use Rattle.slub_recorded.specs.declared.naming.Title.{Title}
use Rattle.slub_recorded.specs.Caches.{ArePlaces, cache_of, counted, is_alloc, names_of, object_of}
use Rattle.slub_recorded.proofs.Placing.{no_object, one_object}
use Rattle.slub_recorded.proofs.groups.count.Goals as goal

out_of : {X : Type 0} (places : List X) (object : ℕ) → slice_get places object ≡ None → length places ≤ object
out_of [] object none = omega arith
out_of (p ∷ ps) zero none = absurd (none-some p (sym none))
out_of (p ∷ ps) (suc object) none = let more = out_of ps object none in omega (arith, more)

-- an object with a place has a title, and the place is that of its name
record Found (titles : List Title) (object place : ℕ) : Type 0 where
  title : Title
  at : slice_get titles object ≡ Some title
  named : slice_get (names_of titles) place ≡ Some title.name

found : (titles : List Title) (places : List ℕ) (object place : ℕ) → ArePlaces titles (names_of titles) places → slice_get places object ≡ Some place → Found titles object place
found titles places object place are there = by (slice_get titles object) refl
  where
    long : length places ≡ length titles
    long = are.long

    inside : object < length titles
    inside = let less = slice_get_within places object place there in omega (arith, long, less)

    value : slice_index places object ≡ place
    value = get_or_from_slice_get places object place 0 there

    by : (o : Option Title) → slice_get titles object ≡ o → Found titles object place
    by None e =
        let past = out_of titles object e in
        absurd (omega (arith, past, inside))
    by (Some t) e = record {
      title = t;
      at = e;
      named = ap (slice_get (names_of titles)) (sym value) ∙ are.at object inside ∙ ap (option_map (λ (x : Title). x.name)) e;
    }

pub returns-in_default : goal.returns-in_default
returns-in_default c titles objects moves few are is =
    let no : slice_get c.args.places.now c.object_of.result ≡ None = sym c.place_at.ensures ∙ c.in_default.is in
    let past = out_of c.args.places.now c.object_of.result no in
    let long : length c.args.places.now ≡ length titles = are.long in
    let at : c.object_of.result ≡ object_of c.args.step.now = c.object_of.ensures in
    is ∙ no_object titles objects moves c.args.step.now (slice_get_past titles (object_of c.args.step.now) (omega (arith, past, long, at)))

pub returns-then-place-len : goal.returns-then-place-len
returns-then-place-len c titles objects moves few are is =
    let place = c.in-Some.place in
    let step = c.args.step.now in
    let yes : slice_get c.args.places.now (object_of step) ≡ Some place = ap (slice_get c.args.places.now) (sym c.object_of.ensures) ∙ sym c.place_at.ensures ∙ c.in-Some.is in
    let f = found titles c.args.places.now (object_of step) place are yes in
    let inside : place < length (names_of titles) = slice_get_within (names_of titles) place f.title.name f.named in
    let old : get_or c.args.caches.now.items place c.index_mut.result.now ≡ cache_of titles objects moves f.title.name =
    ap (λ (l : List Cache). get_or l place c.index_mut.result.now) is ∙ get_or-map (cache_of titles objects moves) (names_of titles) place [] c.index_mut.result.now inside ∙ ap (cache_of titles objects moves) (get_or_from_slice_get (names_of titles) place f.title.name [] f.named) in
    let was : c.index_mut.result.now ≡ cache_of titles objects moves f.title.name = c.index_mut.ensures.value ∙ old in
    let new : c.count_in.new.cache ≡ counted (is_alloc step) (cache_of titles objects moves f.title.name) = c.count_in.ensures ∙ (λ i. counted (c.is_alloc.ensures i) (was i)) in
    (λ i. set (is i) place (new i)) ∙ one_object titles objects moves step f.title place few are.once f.at f.named

pub returns-else-place-len : goal.returns-else-place-len
returns-else-place-len c titles objects moves few are is =
    let place = c.in-Some.place in
    let step = c.args.step.now in
    let yes : slice_get c.args.places.now (object_of step) ≡ Some place = ap (slice_get c.args.places.now) (sym c.object_of.ensures) ∙ sym c.place_at.ensures ∙ c.in-Some.is in
    let f = found titles c.args.places.now (object_of step) place are yes in
    let inside : place < length (names_of titles) = slice_get_within (names_of titles) place f.title.name f.named in
    let long : length c.args.caches.now.items ≡ length (names_of titles) = ap length is ∙ length-map (names_of titles) (cache_of titles objects moves) in
    absurd (omega (arith, inside, long, c.len.ensures, c.if-place-len.false))
