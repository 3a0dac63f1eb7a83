-- Each reply has its cause.
use Rattle.std.proofs.Common.{◌≡◌, ◌≢◌, ℕ, ◌+◌, ◌*◌, ◌<◌, ◌≤◌, ◌||◌, Bool, true, false, cond, List, [], ◌∷◌, ◌++◌, length, get_or, set, get_or-set_other, get_or-set_same, refl, sym, ◌∙◌, ap, subst, arith, Option, Some, None, IsSome, IfSome, MatchOption, inl, inr, ◌⊎◌, is_some}
use Rattle.std.specs.Prelude.{pos, slice_range}
use Rattle.std.specs.Option.{option_and_then, option_map, option_map_or}
use Rattle.std.proofs.lemmas.Bool.{cases_eq, eq-eqb}
use Rattle.std.proofs.lemmas.Grind.{common_steps}
use Rattle.std.proofs.lemmas.List.Sums.{sum_by-cons}
use Rattle.slub_trace.specs.declared.event.Act.{Act}
use Rattle.slub_object_layout.specs.declared.layout.Layout.{Layout}
use Rattle.slub_object_layout.specs.Layout.{address_of}
use Rattle.slub_cache_create.specs.Table.{Table, cache_of as live_cache, name_at, number_of}
use Rattle.slub_cache_create.specs.declared.caches.Cache.{Cache}
use Rattle.slub_red_zone.specs.Sound.{IsSound}
use Rattle.slub_red_zone.specs.State.{CheckedState, slab_of as checked_slab}
use Rattle.slub_red_zone.specs.Steps.{word_place}
use Rattle.slub_red_zone.proofs.Taken.{used-inside}
use Rattle.slub_lists.specs.declared.lists.Held.{Held}
use Rattle.slub_trace.specs.declared.reply.Reply.{Reply}
use Rattle.slub_lists.specs.State.{State}
use Rattle.slub_lists.specs.Alloc.{cache_of, checked_of, named, HasLayout, IsLive}
use Rattle.slub_lists.specs.Checked.{slot_of_held}
use Rattle.slub_lists.specs.Coherent.{IsCoherent, IsSetFrom, held_under, laid_down}
use Rattle.slub_lists.specs.Free.{is_freeable}
use Rattle.slub_lists.specs.Laws.{HasByte}
use Rattle.slub_lists.specs.Words.{held_by, is_word, is_worker, own, word_of}
use Rattle.slub_lists.proofs.Apart.{held-apart}
use Rattle.slub_lists.proofs.CheckedGiving.{layout-live}
use Rattle.slub_lists.proofs.CheckedTaking.{checked-set}
use Rattle.slub_lists.proofs.ObjectWords.{held-cache, memory-read, own-is, slab-read, used-word}
use Rattle.slub_lists.proofs.Trimming.{place-live}
use Rattle.slub_law_rounds.specs.Answered.{Answered, did_free, found_bad, gave, holding, last_put, last_written, of_worker, times_freed, times_taken}
use Rattle.slub_law_rounds.specs.Round.{ReplyCause, IsFreeable, IsOfChecked, IsOwnBytes, IsOwnValue, IsPokedUnder, IsSpare, Spot, has_word, layout_of, spot_by, spot_of, spot_under}
use Rattle.slub_law_rounds.proofs.ByteTurns.{byte-in}
use Rattle.slub_law_rounds.proofs.Damages.{damage-differs, damage-taken}
use Rattle.slub_law_rounds.proofs.Puts.{under-more}
use Rattle.slub_law_rounds.proofs.Reports.{slabs-sound}
use Rattle.slub_law_rounds.proofs.Rounds.{Moves, Tale, new-unheld, step-of}
use Rattle.slub_law_rounds.proofs.Runs.{on_board}
use Rattle.slub_law_rounds.proofs.Steps.{Holds, Step, flushes, frees, gives, keeps, lacks, nameless, pokes, pokes_not, reads, reads_none, reads_not, refuses, trims, trims_checked, trims_none, wants, writes, writes_none, writes_not}
use Rattle.slub_law_rounds.proofs.Tale.{held-by-some, injected, some-object}
use Rattle.slub_law_rounds.proofs.Times.{counted_append, one_where}
use Rattle.slub_law_rounds.proofs.Values.{checked-kept, own-worker, unchecked-back}

-- ---- what is there

pub if-some : {A : Type 0} (x : Option A) (P : A → Type 0) → ((y : A) → x ≡ Some y → P y) → IfSome x P
if-some None P each = tt
if-some (Some y) P each = each y refl

found : {A : Type 0} (x : Option A) → is_some x ≡ true → (y : A) × (x ≡ Some y)
found None none = absurd (cc)
found (Some y) some = (y, refl)

-- an object's spot is that of its live cache
pub live-spot : (s : State) (held : Held) (spot : Spot) → spot_of s held ≡ Some spot → (live : Cache) × (cache_of s held.cache ≡ Some live) × (spot.address ≡ address_of held.frame held.index live.layout)
live-spot s held spot is = by (cache_of s held.cache) refl is
  where
    by : (x : Option Cache) → cache_of s held.cache ≡ x → option_map (λ (live : Cache). record { cache = held.cache; address = address_of held.frame held.index live.layout }) x ≡ Some spot
        → (live : Cache) × (cache_of s held.cache ≡ Some live) × (spot.address ≡ address_of held.frame held.index live.layout)
    by None e is = absurd (cc)
    by (Some live) e is = (live, e, ap (λ (x : Spot). x.address) (sym (injected is)))

the-spot : (s : State) (held : Held) (live : Cache) → cache_of s held.cache ≡ Some live → spot_of s held ≡ Some (record { cache = held.cache; address = address_of held.frame held.index live.layout })
the-spot s held live is = ap (option_map (λ (live : Cache). record { cache = held.cache; address = address_of held.frame held.index live.layout })) is

-- ---- objects of one address

-- the address of an object lies in its slot
own-byte : (s : State) (object : ℕ) (held : Held) (live : Cache) (address : ℕ) → IsCoherent s → held_under s object ≡ Some held → cache_of s held.cache ≡ Some live → address ≡ address_of held.frame held.index live.layout
    → HasByte s object address
own-byte s object held live address coherent there is_live at =
    let has : HasLayout s held.cache live.layout = rw is_live refl in
    let good : IsLive live.layout = layout-live s held.cache live.layout has coherent.shaped in
    record {
      held = held;
      layout = live.layout;
      names = record { here = there; live = has };
      inside = record {
        from = omega (arith, at);
        below = omega (arith, at, good.1.made.inuse.0, good.1.made.inuse.1, good.1.made.left_pad, good.1.made.object_size.0);
      };
    }

-- two numbers with objects of one address are one
one-address : (s : State) (one other : ℕ) (held also : Held) (live owner : Cache) → IsCoherent s → held_under s one ≡ Some held → held_under s other ≡ Some also → cache_of s held.cache ≡ Some live → cache_of s also.cache ≡ Some owner
    → address_of held.frame held.index live.layout ≡ address_of also.frame also.index owner.layout → one ≡ other
one-address s one other held also live owner coherent there here is_live is_owner same =
    held-apart s one other (address_of held.frame held.index live.layout) coherent
    (own-byte s one held live (address_of held.frame held.index live.layout) coherent there is_live refl) (own-byte s other also owner (address_of held.frame held.index live.layout) coherent here is_owner same)

-- ---- what a reply counts

freed-taken : (object : ℕ) (answers : List Answered) → times_freed object answers ≤ times_taken object answers
freed-taken object [] = omega arith
freed-taken object (one ∷ answers) =
    omega (arith, freed-taken object answers, sum_by-cons (λ one. cond (did_free object one) 1 0) one answers, sum_by-cons (λ one. cond (did_free object one || found_bad object one) 1 0) one answers, each (did_free object one) (found_bad object one))
  where
    each : (b c : Bool) → cond b 1 0 ≤ cond (b || c) 1 0
    each true c = omega arith
    each false c = omega arith

-- ---- the causes of one event

module _ (before : State) (past : List Answered) (s : State) (one : Answered) (after : State) (rest : List Answered) (moves : Moves before past s one after) (tale : Tale before past s) where
  abbrev answers : List Answered
  answers = past ++ one ∷ rest

  abbrev mine : List Answered
  mine = of_worker one.0.worker past

  -- the table is the one before the round
  live-now : (cache : ℕ) (live : Cache) → cache_of before cache ≡ Some live → cache_of s cache ≡ Some live
  live-now cache live is = ap (λ (t : Table). live_cache t cache) tale.caches.table ∙ is

  live-before : (cache : ℕ) (live : Cache) → cache_of s cache ≡ Some live → cache_of before cache ≡ Some live
  live-before cache live is = ap (λ (t : Table). live_cache t cache) (sym tale.caches.table) ∙ is

  named-before : (place : ℕ) → named s place ≡ named before place
  named-before place = ap (λ (t : Table). number_of t (name_at t place)) tale.caches.table

  -- what the worker holds by its replies it holds
  held-mine : (object : ℕ) → holding object mine ≡ true → (held : Held) × (held_under s object ≡ Some held) × (held.worker ≡ Some one.0.worker)
  held-mine object holds =
      let there = found (held_by s one.0.worker object) (sym (tale.holds one.0.worker object) ∙ holds) in
      (there.0, own-is one.0.worker (held_under s object) there.0 there.1, own-worker one.0.worker (held_under s object) there.0 there.1)

  may-own : (held : Held) (worker : ℕ) → held.worker ≡ Some worker → is_freeable worker held.worker ≡ true
  may-own held worker is = subst (λ w. is_freeable worker w ≡ true) (sym is) (let same : is_freeable worker (Some worker) ≡ true = itself worker in same)
    where
      itself : (n : ℕ) → is_freeable n (Some n) ≡ true
      itself n = grind arith

  -- a number that was on the board, and has no object now, was freed in this round
  freed-since : (object : ℕ) → IsSome (held_under before object) → held_under s object ≡ None → 0 < times_freed object answers
  freed-since object some none =
      let off : on_board object s ≡ 0 = ap (λ (x : Option Held). one_where (is_some x)) none in
      omega (arith, tale.count object, off, some-object (held_under before object) some, counted_append (did_free object) past (one ∷ rest))

  -- ---- allocation

  module _ (object : ℕ) (held : Held) (live : Cache) (is_live : cache_of s held.cache ≡ Some live) (now : held_under after object ≡ Some held) (none : held_under s object ≡ None)
      (table : after.table ≡ s.table) (others : (other : ℕ) → other ≢ object → held_under after other ≡ held_under s other) where
    address : ℕ
    address = address_of held.frame held.index live.layout

    -- no other object has the address
    differs : (other : ℕ) (also : Held) (owner : Cache) → held_under s other ≡ Some also → cache_of before also.cache ≡ Some owner → address_of also.frame also.index owner.layout ≢ address_of held.frame held.index live.layout
    differs other also owner there is_owner same = elim (cases_eq other object) [
      | inl mine ↦ absurd (let never : None ≡ Some also = sym none ∙ ap (held_under s) (sym mine) ∙ there in cc)
      | inr differ ↦
          differ (one-address after other object also held owner live moves.coherent (others other differ ∙ there) now
          (ap (λ (t : Table). live_cache t also.cache) table ∙ live-now also.cache owner is_owner) (ap (λ (t : Table). live_cache t held.cache) table ∙ is_live) same)
    ]

    spare : IsSpare before answers mine (address_of held.frame held.index live.layout)
    spare = record {
      unheld = λ other holds.
          let there = held-mine other holds in
          let spot = tale.spots one.0.worker other there.0 there.1 (may-own there.0 one.0.worker there.2) in
          if-some (spot_by before other mine) _ (λ at is.
          let of = live-spot before there.0 at (sym spot ∙ is) in
          λ same. differs other there.0 of.0 there.1 of.1 (sym of.2 ∙ same));
      off_board = λ other. if-some (spot_under before other) _ (λ at is same. off other at is same (held_under before other) refl (held_under s other) refl);
    }
      where
        off : (other : ℕ) (at : Spot) → spot_under before other ≡ Some at → at.address ≡ address_of held.frame held.index live.layout → (was : Option Held) → held_under before other ≡ was → (here : Option Held) → held_under s other ≡ here → 0 < times_freed other answers
        off other at is same None then here e = absurd (let never : None ≡ Some at = ap (option_and_then (spot_of before)) (sym then) ∙ is in cc)
        off other at is same (Some was) then None e = freed-since other (ap is_some then) e
        off other at is same (Some was) then (Some here) e =
            let of = live-spot before was at (ap (option_and_then (spot_of before)) (sym then) ∙ is) in
            let place : laid_down here ≡ laid_down was = tale.boards.placed other was here then e in
            let cache : here.cache ≡ was.cache = ap (λ (h : Held). h.cache) place in
            let at_it : address_of here.frame here.index of.0.layout ≡ address_of was.frame was.index of.0.layout = ap (λ (h : Held). address_of h.frame h.index of.0.layout) place in
            absurd (differs other here of.0 e (ap (cache_of before) cache ∙ of.1) (at_it ∙ sym of.2 ∙ same))

  -- ---- freeing

  freeable : (object : ℕ) (held : Held) → held_under s object ≡ Some held → is_freeable one.0.worker held.worker ≡ true → IsFreeable before mine object
  freeable object held there may = by held.worker refl
    where
      by : (w : Option ℕ) → held.worker ≡ w → IsFreeable before mine object
      by None e = inr (ap is_some (tale.boards.still object held there e))
      by (Some holder) e = inl (tale.holds one.0.worker object ∙ held-by-some s one.0.worker object held there ∙ ap (is_worker one.0.worker) e ∙ subst (λ w. is_freeable one.0.worker w ≡ true) e may)

  -- what is found damaged is of a checked cache, which was checked before the round
  of-damaged : IsCoherent before → (object : ℕ) (held : Held) (slabs : CheckedState) → held_under s object ≡ Some held → is_freeable one.0.worker held.worker ≡ true → checked_of s held.cache ≡ Some slabs
      → IsOfChecked before object mine
  of-damaged coherent object held slabs was may checked =
      let live = found (cache_of s held.cache) (held-cache s held (record { object = object; here = was }) tale.coherent) in
      let here : cache_of before held.cache ≡ Some live.0 = live-before held.cache live.0 live.1 in
      subst (λ (x : Option Spot). MatchOption x ⊥ (λ spot. IsSome (checked_of before spot.cache)))
      (sym (tale.spots one.0.worker object held was may ∙ the-spot before held live.0 here))
      (checked-kept before s held.cache live.0 coherent tale.coherent tale.caches.table here ∙ ap is_some checked)

  refused : (object : ℕ) → (held_under s object ≡ None) ⊎ ((held : Held) × (held_under s object ≡ Some held) × (is_freeable one.0.worker held.worker ≡ false))
      → (holding object mine ≡ false) × ((held_under before object ≡ None) ⊎ (0 < times_taken object answers))
  refused object (inl none) = (
    tale.holds one.0.worker object ∙ ap (λ (x : Option Held). is_some (option_and_then (own one.0.worker) x)) none,
    by (held_under before object) refl,
  )
    where
      by : (x : Option Held) → held_under before object ≡ x → (held_under before object ≡ None) ⊎ (0 < times_taken object answers)
      by None e = inl e
      by (Some was) e = inr (let freed = freed-since object (ap is_some e) none in omega (arith, freed, freed-taken object answers))
  refused object (inr (held, there, other)) = by held.worker refl
    where
      taken : (holder : ℕ) → held.worker ≡ Some holder → (x : Option Held) → held_under before object ≡ x → (held_under before object ≡ None) ⊎ (0 < times_taken object answers)
      taken holder e None none = inl none
      taken holder e (Some was) some =
          inr (let more = tale.takens.holder object holder held (ap is_some some) there e in omega (arith, more, counted_append (λ one. did_free object one || found_bad object one) past (one ∷ rest)))

      by : (w : Option ℕ) → held.worker ≡ w → (holding object mine ≡ false) × ((held_under before object ≡ None) ⊎ (0 < times_taken object answers))
      by None e = absurd (let never : true ≡ false = subst (λ w. is_freeable one.0.worker w ≡ false) e other in cc)
      by (Some holder) e = (
        tale.holds one.0.worker object ∙ held-by-some s one.0.worker object held there ∙ ap (is_worker one.0.worker) e ∙ subst (λ w. is_freeable one.0.worker w ≡ false) e other,
        taken holder e (held_under before object) refl,
      )

  -- ---- words

  module _ (object : ℕ) (held : Held) (live : Cache) (holds : Holds s one.0.worker object held live) where
    holds-it : holding object mine ≡ true
    holds-it = tale.holds one.0.worker object ∙ ap is_some holds.here

    its-spot : spot_by before object mine ≡ Some (record { cache = held.cache; address = address_of held.frame held.index live.layout })
    its-spot =
        let there = own-is one.0.worker (held_under s object) held holds.here in
        tale.spots one.0.worker object held there (may-own held one.0.worker (own-worker one.0.worker (held_under s object) held holds.here)) ∙ the-spot before held live (live-before held.cache live holds.cache)

    its-word : (word : ℕ) → has_word before object mine word ≡ is_word live.layout word
    its-word word =
        ap (λ (x : Option Spot). option_map_or (λ layout. is_word layout word) (option_and_then (layout_of before) x) false) its-spot
        ∙ ap (λ (x : Option Cache). option_map_or (λ layout. is_word layout word) (option_map (λ (live : Cache). live.layout) x) false) (live-before held.cache live holds.cache)

    there : held_under s object ≡ Some held
    there = own-is one.0.worker (held_under s object) held holds.here

    owner : held.worker ≡ Some one.0.worker
    owner = own-worker one.0.worker (held_under s object) held holds.here

    -- the object's cache is checked before the round as it is now
    checked-before : IsCoherent before → is_some (checked_of before held.cache) ≡ is_some (checked_of s held.cache)
    checked-before coherent = checked-kept before s held.cache live coherent tale.coherent tale.caches.table (live-before held.cache live holds.cache)

    of-checked : IsOfChecked before object mine ≡ IsSome (checked_of before held.cache)
    of-checked = ap (λ (x : Option Spot). MatchOption x ⊥ (λ spot. IsSome (checked_of before spot.cache))) its-spot

    -- the bytes of a checked object's word
    its-bytes : (word : ℕ) → is_word live.layout word ≡ true → (slabs : CheckedState) → checked_of s held.cache ≡ Some slabs → IsOwnBytes before answers mine object word (word_of s live.layout held word)
    its-bytes word within slabs was = record {
      bytes = slice_range (checked_slab slabs held.frame).bytes from (from + 8);
      eight = long (checked_slab slabs held.frame).bytes fits;
      spelled = sym (slab-read s live.layout held word slabs was);
      each = λ place below. if-some (last_put object word place mine) _ (λ put last.
          let is : get_or (slice_range (checked_slab slabs held.frame).bytes from (from + 8)) place 0 ≡ byte-in slabs.layout slabs held word place =
          read (checked_slab slabs held.frame).bytes place below ∙ ap (λ n. get_or (checked_slab slabs held.frame).bytes n 0) (let e : from + place ≡ held.index * slabs.layout.size + (slabs.layout.left_pad + (8 * word + place)) = omega arith in e) in
          elim (tale.puts.bytes one.0.worker object word place put held live slabs there owner holds.cache was within below last) [
            | inl same ↦ inl (is ∙ same)
            | inr poked ↦ inr (
              pos (address_of held.frame held.index slabs.layout + (8 * word + place)),
              subst (λ (x : Option Spot). MatchOption x ⊥ (λ spot. pos (spot.address + (8 * word + place)) ≡ pos (address_of held.frame held.index slabs.layout + (8 * word + place)))) (sym its-spot)
                  (ap (λ (l : Layout). pos (address_of held.frame held.index l + (8 * word + place))) set_from),
              subst (λ b. IsPokedUnder before answers object (pos (address_of held.frame held.index slabs.layout + (8 * word + place))) b) (sym is) (under-more before past (one ∷ rest) object _ _ poked),
            )
          ]);
    }
      where
        from : ℕ
        from = word_place slabs.layout held.index word

        sound : IsSound slabs
        sound = (slabs-sound s held.cache slabs tale.coherent was).sound

        set_from : IsSetFrom slabs.layout live.layout
        set_from = checked-set s held.cache live.layout slabs (rw holds.cache refl) (slabs-sound s held.cache slabs tale.coherent was)

        fits : from + 8 ≤ length (checked_slab slabs held.frame).bytes
        fits =
            let its = used-word s held live.layout (record { object = object; here = there }) (rw holds.cache refl) tale.coherent word within slabs was in
            omega (arith, its.1, used-inside slabs (slot_of_held held) sound its.0, sound.layout.bounds.inuse.0, sound.layout.bounds.inuse.1, sound.layout.bounds.left_pad)

        long : (xs : List ℕ) → from + 8 ≤ length xs → length (slice_range xs from (from + 8)) ≡ 8
        long xs inside = eight xs from inside
          where
            eight : (xs : List ℕ) (a : ℕ) → a + 8 ≤ length xs → length (slice_range xs a (a + 8)) ≡ 8
            eight xs a inside = grind (arith, common_steps)

        read : (xs : List ℕ) (i : ℕ) → i < 8 → get_or (slice_range xs from (from + 8)) i 0 ≡ get_or xs (from + i) 0
        read xs i below = at xs from i below
          where
            at : (xs : List ℕ) (a i : ℕ) → i < 8 → get_or (slice_range xs a (a + 8)) i 0 ≡ get_or xs (a + i) 0
            at xs a i below = grind (arith, common_steps)

    -- a value is the one that the worker wrote last; of a checked object its bytes are those that were put last
    its-value : IsCoherent before → (word : ℕ) → is_word live.layout word ≡ true → IsOwnValue before answers mine object word (word_of s live.layout held word)
    its-value coherent word within = by (checked_of s held.cache) refl
      where
        by : (x : Option CheckedState) → checked_of s held.cache ≡ x → IsOwnValue before answers mine object word (word_of s live.layout held word)
        by None e = record {
          unchecked = λ other. if-some (last_written object word mine) _ (λ written last.
              sym (memory-read s live.layout held word e) ∙ tale.values one.0.worker object word written held live there owner e holds.cache within last);
          checked = λ is. absurd (let never : true ≡ false = sym (subst (λ A. A) of-checked is) ∙ checked-before coherent ∙ ap is_some e in cc);
        }
        by (Some slabs) e = record {
          unchecked = λ other. absurd (other (subst (λ A. A) (sym of-checked) (checked-before coherent ∙ ap is_some e)));
          checked = λ is. its-bytes word within slabs e;
        }

  -- ---- the event

  others-kept : (object : ℕ) (held : Option Held) → after.board ≡ set s.board object held → (other : ℕ) → other ≢ object → held_under after other ≡ held_under s other
  others-kept object held board other differ = ap (λ (b : List (Option Held)). get_or b other None) board ∙ get_or-set_other s.board object other held None differ

  on-after : (object : ℕ) (held : Held) → gave object one ≡ true → after.board ≡ set s.board object (Some held) → held_under after object ≡ Some held
  on-after object held did board =
      ap (λ (b : List (Option Held)). get_or b object None) board ∙ get_or-set_same s.board object (Some held) None (omega (arith, moves.inside object did, tale.caches.board))

  as-is : (act : Act) (answer : Reply) → one.0.act ≡ act → one.1 ≡ answer → ReplyCause before answers mine act answer → ReplyCause before answers mine one.0.act one.1
  as-is act answer asks is cause = subst (λ a. ReplyCause before answers mine a one.1) (sym asks) (subst (λ r. ReplyCause before answers mine act r) (sym is) cause)

  cause-by : IsCoherent before → Step s one.0 one.1 after → ReplyCause before answers mine one.0.act one.1
  cause-by coherent (gives place object live held asks names is_live owner is unheld board gone table memory cpus frames dry) =
      let did : gave object one ≡ true = rw (asks, is, eq-eqb object object refl) refl in
      let none = new-unheld before past s one after moves tale object did in
      as-is _ _ asks is (ap is_some (sym (named-before place) ∙ names), spare object held live is_live (on-after object held did board) none table (others-kept object (Some held) board))
  cause-by coherent (lacks place object cache live asks names is_live is board gone table memory cpus frames dry) = as-is _ _ asks is (ap is_some (sym (named-before place) ∙ names))
  cause-by coherent (wants place object cache live slabs asks names is_live checked is kept) =
      as-is _ _ asks is (subst (λ (x : Option ℕ). MatchOption x ⊥ (λ cache. IsSome (checked_of before cache))) (sym names ∙ named-before place)
      (checked-kept before s cache live coherent tale.coherent tale.caches.table (live-before cache live is_live) ∙ ap is_some checked))
  cause-by coherent (nameless place object asks none is now) = as-is _ _ asks is (sym (named-before place) ∙ none)
  cause-by coherent (frees object live held asks was may is_live is board gone table memory cpus frames dry) = as-is _ _ asks is (
    freeable object held was may,
    subst (λ (x : Option Spot). MatchOption x ⊥ (λ spot. spot.address ≡ address_of held.frame held.index live.layout))
        (sym (tale.spots one.0.worker object held was may ∙ the-spot before held live (live-before held.cache live is_live))) refl,
  )
  cause-by coherent (keeps object damage held slabs asks was may checked taken is now) = as-is _ _ asks is (
    freeable object held was may,
    of-damaged coherent object held slabs was may checked,
    damage-differs slabs.layout _ _ damage (damage-taken slabs.layout slabs.flags _ damage taken.0),
  )
  cause-by coherent (refuses object asks why is now) = as-is _ _ asks is (refused object why)
  cause-by coherent (writes object word value live held asks holds within is now) = as-is _ _ asks is (holds-it object held live holds, its-word object held live holds word ∙ within)
  cause-by coherent (writes_none object word value live held asks holds beyond is now) = as-is _ _ asks is (holds-it object held live holds, its-word object held live holds word ∙ beyond)
  cause-by coherent (writes_not object word value asks none is now) = as-is _ _ asks is (tale.holds one.0.worker object ∙ ap is_some none)
  cause-by coherent (reads object word live held asks holds within is now) = as-is _ _ asks is (holds-it object held live holds, its-word object held live holds word ∙ within, its-value object held live holds coherent word within)
  cause-by coherent (reads_none object word live held asks holds beyond is now) = as-is _ _ asks is (holds-it object held live holds, its-word object held live holds word ∙ beyond)
  cause-by coherent (reads_not object word asks none is now) = as-is _ _ asks is (tale.holds one.0.worker object ∙ ap is_some none)
  cause-by coherent (pokes object offset byte held slabs asks knows checked inside is now) = as-is _ _ asks is tt
  cause-by coherent (pokes_not object offset byte asks why now) = elim why [
    | inl is ↦ as-is _ _ asks is tt
    | inr more ↦ elim more [
      | inl is ↦ as-is _ _ asks is tt
      | inr is ↦ as-is _ _ asks is tt
    ]
  ]
  cause-by coherent (trims place cache slabs asks names unchecked is kept same_slabs) =
      let live = found (cache_of s cache) (place-live s place cache tale.coherent.shaped names) in
      as-is _ _ asks is (subst (λ (x : Option ℕ). MatchOption x ⊥ (λ cache. checked_of before cache ≡ None)) (sym names ∙ named-before place)
      (unchecked-back before s cache live.0 coherent tale.coherent tale.caches.table (live-before cache live.0 live.1) unchecked))
  cause-by coherent (trims_checked place cache slabs asks names checked is now) =
      let live = found (cache_of s cache) (place-live s place cache tale.coherent.shaped names) in
      as-is _ _ asks is (subst (λ (x : Option ℕ). MatchOption x ⊥ (λ cache. IsSome (checked_of before cache))) (sym names ∙ named-before place)
      (checked-kept before s cache live.0 coherent tale.coherent tale.caches.table (live-before cache live.0 live.1) ∙ ap is_some checked))
  cause-by coherent (trims_none place asks none is now) = as-is _ _ asks is (sym (named-before place) ∙ none)
  cause-by coherent (flushes slabs asks is kept same_slabs) = as-is _ _ asks is tt

  pub cause-of : IsCoherent before → ReplyCause before answers mine one.0.act one.1
  cause-of coherent = cause-by coherent (step-of before past s one after moves tale)
