use Rattle.std.proofs.Common.{◌≡◌, ℕ, ◌+◌, ◌<◌, ◌≤◌, Bool, true, false, not, List, [], ◌∷◌, ◌++◌, length, map, take, get_or, slice_get, Some, cond, refl, ap, sym, ◌∙◌, arith}
use Rattle.std.specs.Prelude.{option_map, slice_index}
use Rattle.std.specs.List.{list_any}
use Rattle.std.specs.Str.{bytes_eq}
use Rattle.std.specs.Cmp.Lexicographic.{bytes_decides}
use Rattle.std.proofs.Common.{below_more}
use Rattle.std.proofs.lemmas.Bool.{false≢true}
use Rattle.std.proofs.lemmas.List.{take_more, take_all, map-append, length_push, get_or_append_left, get_or_push}
use Rattle.std.proofs.lemmas.Option.{slice_get-get_or, slice_get_read}
use Rattle.indexmap.proofs.SetLemmas.{set_all_push}
use Rattle.indexmap.specs.IndexSet.{insert_all, insert_key}
use Rattle.slub_recorded.specs.declared.groups.Cache.{Cache}
use Rattle.slub_recorded.specs.declared.naming.Title.{Title}
use Rattle.slub_recorded.specs.declared.pairing.Born.{Born}
use Rattle.slub_recorded.specs.Caches.{cache_of, names_of, slot_of}
use Rattle.slub_recorded.proofs.Placing.{kept_place, names_once, slot_is}
use Rattle.slub_recorded.proofs.groups.named.Goals as goal
use Rattle.slub_recorded.proofs.groups.named.Goals.{then-is_new+in_ok-push, else-is_new}

absent : (b : Bool) → not b ≡ true → b ≡ false
absent true e = absurd (false≢true e)
absent false e = refl

present : (b : Bool) → not b ≡ false → b ≡ true
present true e = refl
present false e = absurd (false≢true (sym e))

key_new : (ks : List (List ℕ)) (name : List ℕ) → list_any (bytes_eq name) ks ≡ false → insert_key bytes_eq ks name ≡ ks ++ name ∷ []
key_new ks name e = ap (λ (b : Bool). cond b ks (ks ++ name ∷ [])) e

key_old : (ks : List (List ℕ)) (name : List ℕ) → list_any (bytes_eq name) ks ≡ true → insert_key bytes_eq ks name ≡ ks
key_old ks name e = ap (λ (b : Bool). cond b ks (ks ++ name ∷ [])) e

pub loop-object-preserved : goal.loop-object-preserved
loop-object-preserved c =
    let titles : List Title = c.args.titles.now in
    let objects : List Born = c.args.objects.now in
    let i = c.loop-object.object in
    let t : Title = c.index-titles-object.result in
    let inv = c.loop-object.invariant in
    let old : List (List ℕ) = c.loop-object.names.keys in
    let new : List (List ℕ) = c.insert_full.new.self.keys in
    let name_of : Title → List ℕ = λ x. x.name in
    let cache : List ℕ → Cache = cache_of titles objects [] in
    let front : List Title = take i titles in
    let added : new ≡ insert_key bytes_eq old t.name = c.in_ok-place.ensures.keys in
    let at : slice_get titles i ≡ Some t = slice_get_read titles (length titles) i t refl c.loop-object-test.true c.index-titles-object.is in
    let more : map name_of front ++ t.name ∷ [] ≡ map name_of (take (i + 1) titles) =
    sym (map-append name_of front (t ∷ [])) ∙ ap (map name_of) (ap (λ (x : Title). front ++ x ∷ []) c.index-titles-object.is ∙ sym (take_more titles i t c.loop-object-test.true)) in
    let places : List ℕ = c.push-in-loop-object.new.self.items in
    let pushed : places ≡ c.loop-object.places.items ++ c.in_ok-place.place ∷ [] = c.in_ok-push-2.ensures.items in
    let long : length c.loop-object.places.items ≡ i = inv.long in
    let count = length_push c.loop-object.places.items c.in_ok-place.place in
    let wide = ap length pushed in
    let P : ℕ → Type 0 = λ k. slice_get new (slice_index places k) ≡ option_map name_of (slice_get titles k) in
    let new_is : c.in_ok-place.is_new ≡ not (list_any (bytes_eq t.name) old) = c.in_ok-place.ensures.added in
    record {
      keys = added ∙ ap (λ (l : List (List ℕ)). insert_key bytes_eq l t.name) inv.keys ∙ sym (set_all_push bytes_eq [] (map name_of front) t.name) ∙ ap (insert_all bytes_eq []) more;
      caches = elim c.if-is_new.branch [
        | then-is_new+in_ok-push w ↦
            let no : list_any (bytes_eq t.name) old ≡ false = absent (list_any (bytes_eq t.name) old) (sym new_is ∙ w.if-is_new.true) in
            let free : list_any (bytes_eq t.name) (insert_all bytes_eq [] (map name_of front)) ≡ false = ap (list_any (bytes_eq t.name)) (sym inv.keys) ∙ no in
            let slot : w.slot_at.result ≡ slot_of titles objects t.name = w.slot_at.ensures ∙ sym (slot_is titles objects i t at free) in
            ap (λ v. v.items) w.caches-is ∙ w.in_ok-push.ensures.items ∙ (λ j. inv.caches j ++ record { name = t.name; slot = slot j; objects = 0; live = 0; most = 0 } ∷ [])
            ∙ sym (map-append cache old (t.name ∷ [])) ∙ ap (map cache) (sym (added ∙ key_new old t.name no))
        | else-is_new w ↦
            let yes : list_any (bytes_eq t.name) old ≡ true = present (list_any (bytes_eq t.name) old) (sym new_is ∙ w.if-is_new.false) in
            ap (λ v. v.items) w.caches-is ∙ inv.caches ∙ ap (map cache) (sym (added ∙ key_old old t.name yes))
      ];
      long = omega (arith, long, count, wide);
      at = below_more P i (λ k less.
          let there : k < length titles = omega (arith, less, c.loop-object-test.true) in
          let title : Title = get_or titles k t in
          let some : slice_get titles k ≡ Some title = slice_get-get_or titles k t there in
          let was : slice_get old (slice_index c.loop-object.places.items k) ≡ Some title.name = inv.at k less ∙ ap (option_map name_of) some in
          let same : slice_index places k ≡ slice_index c.loop-object.places.items k = ap (λ (l : List ℕ). slice_index l k) pushed ∙ get_or_append_left c.loop-object.places.items (c.in_ok-place.place ∷ []) 0 k (omega (arith, long, less)) in
          (λ j. slice_get (added j) (same j)) ∙ kept_place old t.name title.name (slice_index c.loop-object.places.items k) was ∙ sym (ap (option_map name_of) some))
          (let stored = c.in_ok-place.ensures.stored in
          let same : slice_index places i ≡ c.in_ok-place.place = ap (λ (l : List ℕ). slice_index l i) pushed ∙ get_or_push c.loop-object.places.items c.in_ok-place.place 0 i long in
          let key : t.name ≡ stored.0 = (bytes_decides t.name stored.0).0 stored.2 in
          ap (slice_get new) same ∙ stored.1 ∙ ap (λ (n : List ℕ). Some n) (sym key) ∙ sym (ap (option_map name_of) at));
    }

pub returns-clause-places : goal.returns-clause-places
returns-clause-places c =
    let titles : List Title = c.args.titles.now in
    let i = c.loop-object.object in
    let inv = c.loop-object.invariant in
    let end : length titles ≤ i = omega (arith, c.loop-object-test.false) in
    let most : i ≤ length titles = omega (arith, c.loop-object.auto.object-end) in
    let all : c.loop-object.names.keys ≡ names_of titles = inv.keys ∙ ap (λ (l : List Title). insert_all bytes_eq [] (map (λ (x : Title). x.name) l)) (take_all i titles end) in
    let long : length c.loop-object.places.items ≡ i = inv.long in
    record {
      long = omega (arith, long, end, most);
      at = λ object less. ap (λ (l : List (List ℕ)). slice_get l (slice_index c.loop-object.places.items object)) (sym all) ∙ inv.at object (omega (arith, less, end));
      once = names_once titles;
    }
