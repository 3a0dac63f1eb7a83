-- Every recording that is read is sound.
use Rattle.std.proofs.Common.{◌≡◌, ℕ, ◌+◌, ◌<◌, ◌≤◌, max, Bool, true, Result, Ok, Err, Some, None, List, [], ◌∷◌, length, refl, subst, arith, inl, inr, All, length-append}
use Rattle.std.specs.Prelude.{IfOk}
use Rattle.std.proofs.lemmas.Bool.{cases_Bool, false≢true}
use Rattle.std.proofs.lemmas.List.Elements.{All-append, All-cons, All-nil}
use Rattle.std.specs.List.{list_any, position_or_len}
use Rattle.std.specs.Str.{bytes_eq}
use Rattle.slub_recording.specs.declared.event.KmemAct.{KmemAct}
use Rattle.slub_recording.specs.declared.event.KmemAct.TheVariants as act
use Rattle.slub_recording.specs.declared.event.KmemEvent.{KmemEvent}
use Rattle.slub_recording.specs.declared.fault.LineFault.{LineFault}
use Rattle.slub_recording.specs.declared.fault.RecordingFault.{RecordingFault}
use Rattle.slub_recording.specs.declared.fault.RecordingFault.TheVariants.{BadLine, NoKmemEvent}
use Rattle.slub_recording.specs.declared.line.Said.{Said}
use Rattle.slub_recording.specs.declared.line.Said.TheVariants.{Passed, Cpus, Buffer, Lost, Other, Kmem}
use Rattle.slub_recording.specs.declared.line.SaidAct.{SaidAct}
use Rattle.slub_recording.specs.declared.line.SaidAct.TheVariants as said
use Rattle.slub_recording.specs.declared.recording.Recording.{Recording}
use Rattle.slub_recording.specs.Recording.{Above, Recorded, recorded, empty, start, after, place_of, with_text, sites_after, names_after, act_of, event_of, with_event, recorded_after, with_some, read_from, reading}
use Rattle.slub_common.specs.Lines.{cut_lines}
use Rattle.slub_recording.specs.Says.{says}
use Rattle.slub_recording.specs.Sound.{IsPlaced, IsPlacedWhole, IsSound}
use Rattle.slub_recording.specs.State.{IsAnswer}
use Rattle.slub_recording.proofs.Counts.{lines_read}

-- ---- places

any_within : (p : List ℕ → Bool) (xs : List (List ℕ)) → list_any p xs ≡ true → position_or_len p xs < length xs
any_within p [] is = absurd (false≢true is)
any_within p (x ∷ xs) is = elim (cases_Bool (p x)) [
  | inl here ↦ rw here (omega arith)
  | inr other ↦
      (let there : list_any p xs ≡ true = rw other at is in
      let more = any_within p xs there in
      rw other (omega (arith, more)))
]

most_within : (p : List ℕ → Bool) (xs : List (List ℕ)) → position_or_len p xs ≤ length xs
most_within p [] = omega arith
most_within p (x ∷ xs) = elim (cases_Bool (p x)) [
  | inl here ↦ rw here (omega arith)
  | inr other ↦ (let more = most_within p xs in rw other (omega (arith, more)))
]

place_within : (texts : List (List ℕ)) (text : List ℕ) → place_of text texts < length (with_text texts text)
place_within texts text = elim (cases_Bool (list_any (bytes_eq text) texts)) [
  | inl there ↦ rw there (any_within (bytes_eq text) texts there)
  | inr absent ↦ rw absent (omega (arith, most_within (bytes_eq text) texts, length-append texts (text ∷ [])))
]

texts_grow : (texts : List (List ℕ)) (text : List ℕ) → length texts ≤ length (with_text texts text)
texts_grow texts text = elim (cases_Bool (list_any (bytes_eq text) texts)) [
  | inl there ↦ rw there (omega arith)
  | inr absent ↦ rw absent (omega (arith, length-append texts (text ∷ [])))
]

sites_grow : (sites : List (List ℕ)) (a : SaidAct) → length sites ≤ length (sites_after sites a)
sites_grow sites (said.CacheAlloc asked slot site) = texts_grow sites site
sites_grow sites (said.Kmalloc slot kind) = omega arith
sites_grow sites (said.CacheFree name) = omega arith
sites_grow sites said.Kfree = omega arith

names_grow : (names : List (List ℕ)) (a : SaidAct) → length names ≤ length (names_after names a)
names_grow names (said.CacheAlloc asked slot site) = omega arith
names_grow names (said.Kmalloc slot kind) = omega arith
names_grow names (said.CacheFree None) = omega arith
names_grow names (said.CacheFree (Some name)) = texts_grow names name
names_grow names said.Kfree = omega arith

-- places stay among more
placed_more : (s n t m : ℕ) (a : KmemAct) → s ≤ t → n ≤ m → IsPlaced s n a → IsPlaced t m a
placed_more s n t m (act.CacheAlloc asked slot site) more also is = omega arith
placed_more s n t m (act.Kmalloc slot kind) more also is = tt
placed_more s n t m (act.CacheFree None) more also is = tt
placed_more s n t m (act.CacheFree (Some name)) more also is = omega arith
placed_more s n t m act.Kfree more also is = tt

-- a new act has its places
placed_new : (sites names : List (List ℕ)) (a : SaidAct) → IsPlaced (length (sites_after sites a)) (length (names_after names a)) (act_of sites names a)
placed_new sites names (said.CacheAlloc asked slot site) = place_within sites site
placed_new sites names (said.Kmalloc slot kind) = tt
placed_new sites names (said.CacheFree None) = tt
placed_new sites names (said.CacheFree (Some name)) = place_within names name
placed_new sites names said.Kfree = tt

-- ---- events

event_whole : (r : Recorded) (cpu pointer : ℕ) (a : SaidAct) → IsPlacedWhole r → IsPlacedWhole (with_event r cpu pointer a)
event_whole r cpu pointer a is =
    let P : KmemEvent → Type 0 = λ e. IsPlaced (length (sites_after r.sites a)) (length (names_after r.names a)) e.act in
    let Q : KmemEvent → Type 0 = λ e. e.cpu ≤ max r.greatest_cpu cpu in
    let e : KmemEvent = event_of r cpu pointer a in
    let old_places : All P r.events =
    λ i d h. placed_more (length r.sites) (length r.names) _ _ _ (sites_grow r.sites a) (names_grow r.names a) (is.placed i d h) in
    let old_cpus : All Q r.events = λ i d h. (let below = is.cpus i d h in omega (arith, below)) in
    let here : cpu ≤ max r.greatest_cpu cpu = omega arith in record {
      placed = All-append P r.events (e ∷ []) old_places (All-cons P e [] (placed_new r.sites r.names a) (All-nil P));
      cpus = All-append Q r.events (e ∷ []) old_cpus (All-cons Q e [] here (All-nil Q));
    }

whole_after : (a : Above) (s : Said) → IsPlacedWhole a.recorded → IsPlacedWhole (recorded_after a s)
unfolding recorded_after
whole_after a Passed is = is
whole_after a (Cpus cpus) is = record { placed = is.placed; cpus = is.cpus }
whole_after a (Buffer overwritten cpus) is = record { placed = is.placed; cpus = is.cpus }
whole_after a (Lost count) is = record { placed = is.placed; cpus = is.cpus }
whole_after a (Other time) is = record { placed = is.placed; cpus = is.cpus }
whole_after a (Kmem cpu time pointer act) is =
    let more = event_whole a.recorded cpu pointer act is in record { placed = more.placed; cpus = more.cpus }

whole_start : IsPlacedWhole empty
whole_start = record {
  placed = All-nil (λ (e : KmemEvent). IsPlaced 0 0 e.act);
  cpus = All-nil (λ (e : KmemEvent). e.cpu ≤ 0);
}

-- ---- all bytes

some_sound : (r s : Recorded) (events : List KmemEvent) → events ≡ r.events → IsPlacedWhole r → with_some r events ≡ Ok s → IsSound s
some_sound r s [] same whole is = (let never : Err NoKmemEvent ≡ Ok s = is in cc)
some_sound r s (e ∷ es) same whole is =
    let is_same : r ≡ s = cc in
    let some : 0 < length r.events = subst (λ l. 0 < length l) same (omega arith) in
    subst (λ x. IsSound x) is_same (record { whole = whole; some = some })

sound_from : (a : Above) (texts : List (List ℕ)) (rest : List ℕ) (r : Recorded) → IsPlacedWhole a.recorded → read_from a texts rest ≡ Ok r → IsSound r
unfolding read_from
sound_from a [] [] r whole is = some_sound a.recorded r a.recorded.events refl whole is
sound_from a [] (b ∷ bs) r whole is = cc
sound_from a (text ∷ texts) rest r whole is = by (says text) refl (λ b w h. sound_from b texts rest r w h)
  where
    by : (said : Result Said LineFault) → says text ≡ said → ((b : Above) → IsPlacedWhole b.recorded → read_from b texts rest ≡ Ok r → IsSound r) → IsSound r
    by (Err why) says_is behind = (let never : Err (BadLine (a.lines + 1) why) ≡ Ok r = rw (says_is, read_from) at is in cc)
    by (Ok s) says_is behind =
        let more : read_from (after a s) texts rest ≡ Ok r = rw (says_is, read_from) at is in
        behind (after a s) (whole_after a s whole) more

pub sound_reading : (bytes : List ℕ) (r : Recorded) → reading bytes ≡ Ok r → IsSound r
sound_reading bytes r is =
    sound_from start (cut_lines bytes).0 (cut_lines bytes).1 r whole_start (lines_read bytes r is)

-- the same of the code's answer
pub sound_answer : (bytes : List ℕ) (r : Result Recording RecordingFault) → IsAnswer (reading bytes) r → IfOk r (λ x. IsSound (recorded x))
sound_answer bytes (Ok recording) is = sound_reading bytes (recorded recording) is
sound_answer bytes (Err fault) is = tt
