-- A byte of a word of a checked object is the one that its worker put there last, or was poked there under another number.
use Rattle.std.proofs.Common.{◌≡◌, ℕ, ◌+◌, ◌*◌, ◌<◌, ◌&&◌, Bool, true, false, cond, List, [], ◌∷◌, ◌++◌, refl, sym, ◌∙◌, ap, subst, arith, Option, Some, None, inl, inr, ◌⊎◌, ℤ, is_some}
use Rattle.std.specs.Prelude.{pos, ◌+ℤ◌}
use Rattle.std.specs.Option.{option_map}
use Rattle.std.proofs.lemmas.Bool.{eq-eqb}
use Rattle.std.proofs.lemmas.List.{append_assoc}
use Rattle.std.proofs.lemmas.List.Elements.{filter-append}
use Rattle.slub_object_layout.specs.declared.layout.Layout.{Layout}
use Rattle.slub_object_layout.specs.Layout.{address_of}
use Rattle.slub_cache_create.specs.Table.{Table, cache_of as live_cache}
use Rattle.slub_cache_create.specs.declared.caches.Cache.{Cache}
use Rattle.slub_red_zone.specs.State.{CheckedState}
use Rattle.slub_trace.specs.declared.reply.Reply.{Reply}
use Rattle.slub_trace.specs.declared.reply.Reply.TheVariants as reply
use Rattle.slub_lists.specs.declared.lists.Held.{Held}
use Rattle.slub_lists.specs.State.{State}
use Rattle.slub_lists.specs.Alloc.{cache_of, checked_of}
use Rattle.slub_lists.specs.Coherent.{IsCoherent, IsSetFrom, held_under}
use Rattle.slub_lists.specs.Free.{is_freeable}
use Rattle.slub_lists.specs.Words.{held_by, is_word}
use Rattle.slub_lists.proofs.CheckedTaking.{checked-set}
use Rattle.slub_lists.proofs.ObjectWords.{own-is}
use Rattle.slub_slabinfo_text.specs.Lawful.{Answers, is_by}
use Rattle.slub_law_rounds.specs.Answered.{Answered, IsAfter, did_free, gave, is_corrupt, is_free_of, last_put, of_worker, put_after, times_freed, times_given}
use Rattle.slub_law_rounds.specs.Round.{IsPokedUnder, spot_after, spot_by, spot_of, spot_under}
use Rattle.slub_law_rounds.proofs.ByteTurns.{ByteTurn, Kind, asks_one, byte-in, byte-turn, frees_one, given-put, is_put, kind-of, known-is, poked-other, puts, puts_byte, puts_none, puts_word, same-put, still, under, wrote-other}
use Rattle.slub_law_rounds.proofs.Reports.{slabs-sound}
use Rattle.slub_law_rounds.proofs.Runs.{Turn, comes, count-more, fold-own, goes, gone_under, on_board, own-more, rests, stays}
use Rattle.slub_law_rounds.proofs.Steps.{event-step}
use Rattle.slub_law_rounds.proofs.Tale.{Spots, injected, same-spot, same-worker}
use Rattle.slub_law_rounds.proofs.Times.{one_where}
use Rattle.slub_law_rounds.proofs.Values.{checked-kept, own-worker}

-- ---- numbers that were freed in the round

pub record Gones (before : State) (past : List Answered) (s : State) : Type 0 where
  -- such a number names what it named
  pub spots : (worker object : ℕ) (held : Held) → gone_under s object ≡ Some held → held.worker ≡ Some worker → spot_by before object (of_worker worker past) ≡ spot_of before held
  pub freed_once : (object : ℕ) (held : Held) → gone_under s object ≡ Some held → 0 < times_freed object past
  pub off : (object : ℕ) (held : Held) → gone_under s object ≡ Some held → held_under s object ≡ None

module _ (before : State) (past : List Answered) (s : State) (one : Answered) (after : State) (count : (object : ℕ) → on_board object s + times_freed object past ≡ on_board object before + times_given object past)
    (new : (object : ℕ) → gave object one ≡ true → on_board object before + times_given object past ≡ 0) (spots : Spots before past s) (gones : Gones before past s) where
  -- a number that isn't given names what it named
  named-still : (worker object : ℕ) → gave object one ≡ false → spot_by before object (of_worker worker (past ++ one ∷ [])) ≡ spot_by before object (of_worker worker past)
  named-still worker object given = fold-own (spot_after before object) (spot_under before object) worker past one ∙ pick (is_by worker one)
    where
      pick : (b : Bool) → cond b (spot_after before object (spot_by before object (of_worker worker past)) one) (spot_by before object (of_worker worker past)) ≡ spot_by before object (of_worker worker past)
      pick true = same-spot before object (spot_by before object (of_worker worker past)) one given
      pick false = refl

  more-freed : (object : ℕ) → 0 < times_freed object past → 0 < times_freed object (past ++ one ∷ [])
  more-freed object some = omega (arith, some, count-more (did_free object) past one)

  -- what is given was not freed
  never-given : (object : ℕ) (held : Held) {A : Type 0} → gave object one ≡ true → gone_under s object ≡ Some held → A
  never-given object held did there = absurd (omega (arith, gones.freed_once object held there, count object, new object did))

  pub gones-step : ((object : ℕ) → Turn s one after object) → Gones before (past ++ one ∷ []) after
  gones-step turns = record {
    spots = λ worker object held there mine. names worker object held there mine (turns object);
    freed_once = λ object held there. some object held there (turns object);
    off = λ object held there. none object held there (turns object);
  }
    where
      names : (worker object : ℕ) (held : Held) → gone_under after object ≡ Some held → held.worker ≡ Some worker → Turn s one after object → spot_by before object (of_worker worker (past ++ one ∷ [])) ≡ spot_of before held
      names worker object held there mine (rests board gone given freed bad) = named-still worker object given ∙ gones.spots worker object held (sym gone ∙ there) mine
      names worker object held there mine (comes place address come unheld now gone owner did freed bad asks is asked spot) = never-given object held did (sym gone ∙ there)
      names worker object held there mine (goes address was_held was may now gone given freed bad asks is spot) =
          let same : record was_held { worker = Some one.0.worker } ≡ held = injected (sym gone ∙ there) in
          let worker_is : one.0.worker ≡ worker = injected (ap (λ (h : Held). h.worker) same ∙ mine) in
          named-still worker object given ∙ spots worker object was_held was (subst (λ w. is_freeable w was_held.worker ≡ true) worker_is may) ∙ ap (spot_of before) same
      names worker object held there mine (stays was_held slabs checked was may now gone given freed bad) = absurd (let never : None ≡ Some was_held = sym (gones.off object held (sym gone ∙ there)) ∙ was in cc)

      some : (object : ℕ) (held : Held) → gone_under after object ≡ Some held → Turn s one after object → 0 < times_freed object (past ++ one ∷ [])
      some object held there (rests board gone given freed bad) = more-freed object (gones.freed_once object held (sym gone ∙ there))
      some object held there (comes place address come unheld now gone owner did freed bad asks is asked spot) = never-given object held did (sym gone ∙ there)
      some object held there (goes address was_held was may now gone given freed bad asks is spot) = omega (arith, count-more (did_free object) past one, ap one_where freed)
      some object held there (stays was_held slabs checked was may now gone given freed bad) = more-freed object (gones.freed_once object held (sym gone ∙ there))

      none : (object : ℕ) (held : Held) → gone_under after object ≡ Some held → Turn s one after object → held_under after object ≡ None
      none object held there (rests board gone given freed bad) = board ∙ gones.off object held (sym gone ∙ there)
      none object held there (comes place address come unheld now gone owner did freed bad asks is asked spot) = never-given object held did (sym gone ∙ there)
      none object held there (goes address was_held was may now gone given freed bad asks is spot) = now
      none object held there (stays was_held slabs checked was may now gone given freed bad) = absurd (let never : None ≡ Some was_held = sym (gones.off object held (sym gone ∙ there)) ∙ was in cc)

-- ---- more events

-- an event comes after the same events of its worker, whatever follows
pub after-more : (past more : List Answered) (worker : ℕ) (own : List Answered) (one : Answered) → IsAfter past worker own one → IsAfter (past ++ more) worker own one
after-more past more worker own one there = record {
  later = there.later ++ of_worker worker more;
  split = filter-append (is_by worker) past more ∙ ap (λ l. l ++ of_worker worker more) there.split ∙ append_assoc own (one ∷ there.later) (of_worker worker more);
}

pub under-more : (before : State) (past more : List Answered) (object : ℕ) (at : ℤ) (byte : ℕ) → IsPokedUnder before past object at byte → IsPokedUnder before (past ++ more) object at byte
under-more before past more object at byte poked = record {
  worker = poked.worker;
  own = poked.own;
  one = poked.one;
  there = after-more past more poked.worker poked.own poked.one poked.there;
  other = poked.other;
  offset = poked.offset;
  differs = poked.differs;
  asks = poked.asks;
  done = poked.done;
  spot = poked.spot;
  names = poked.names;
  is = poked.is;
}

-- ---- what was put last

-- the byte is the one that was put last, or was poked there under another number
abbrev pub IsPut : State → List Answered → ℕ → Layout → CheckedState → Held → ℕ → ℕ → ℕ → Type 0
IsPut before answers object layout slabs held word place byte =
    (byte-in layout slabs held word place ≡ byte) ⊎ IsPokedUnder before answers object (pos (address_of held.frame held.index layout + (8 * word + place))) (byte-in layout slabs held word place)

pub record Puts (before : State) (past : List Answered) (s : State) : Type 0 where
  -- nobody put anything in what lies on the board
  pub unput : (worker object word place : ℕ) (held : Held) → held_under s object ≡ Some held → held.worker ≡ None → last_put object word place (of_worker worker past) ≡ None
  pub bytes : (worker object word place byte : ℕ) (held : Held) (live : Cache) (slabs : CheckedState) → held_under s object ≡ Some held → held.worker ≡ Some worker → cache_of s held.cache ≡ Some live → checked_of s held.cache ≡ Some slabs
      → is_word live.layout word ≡ true → place < 8 → last_put object word place (of_worker worker past) ≡ Some byte → IsPut before past object slabs.layout slabs held word place byte

module _ (before : State) (past : List Answered) (s : State) (one : Answered) (after : State) (coherent : IsCoherent s) (next : IsCoherent after) (table_before : s.table ≡ before.table) (table : after.table ≡ s.table)
    (answers : Answers s one.0 one.0.act one.1 after) (turns : (object : ℕ) → Turn s one after object) (spots : Spots before past s) (gones : Gones before past s) (put : Puts before past s) where
  abbrev now : List Answered
  now = past ++ one ∷ []

  -- what was put last, where this event puts nothing there
  unput-now : (worker object word place : ℕ) → ((last : Option ℕ) → put_after object word place last one ≡ last) → last_put object word place (of_worker worker now) ≡ last_put object word place (of_worker worker past)
  unput-now worker object word place same = fold-own (put_after object word place) None worker past one ∙ pick (is_by worker one)
    where
      pick : (b : Bool) → cond b (put_after object word place (last_put object word place (of_worker worker past)) one) (last_put object word place (of_worker worker past)) ≡ last_put object word place (of_worker worker past)
      pick true = same (last_put object word place (of_worker worker past))
      pick false = refl

  own-now : (worker object word place : ℕ) → one.0.worker ≡ worker → last_put object word place (of_worker worker now) ≡ put_after object word place (last_put object word place (of_worker worker past)) one
  own-now worker object word place mine =
      let own : is_by worker one ≡ true = eq-eqb one.0.worker worker mine in
      rw own at (fold-own (put_after object word place) None worker past one)

  not-gone : (object : ℕ) (held : Held) → held_under s object ≡ Some held → (x : Option Held) → gone_under s object ≡ x → x ≡ None
  not-gone object held there None e = refl
  not-gone object held there (Some freed) e = absurd (let never : None ≡ Some held = sym (gones.off object freed e) ∙ there in cc)

  -- ---- what lies on the board

  board-kept : (object word place : ℕ) (held : Held) → held_under s object ≡ Some held → held.worker ≡ None → gave object one ≡ false → Kind s one after → (last : Option ℕ) → put_after object word place last one ≡ last
  board-kept object word place held there free given kind last = by kind
    where
      other-held : (mine : Held) → held_under s object ≡ Some mine → mine.worker ≡ Some one.0.worker → ⊥
      other-held mine here owner = let never : None ≡ Some one.0.worker = sym free ∙ ap (λ (h : Held). h.worker) (injected (sym there ∙ here)) ∙ owner in cc

      by : Kind s one after → put_after object word place last one ≡ last
      by (puts_none same none) = same-put object word place last one none given
      by (asks_one at other asks none) = same-put object word place last one none given
      by (frees_one other asks is none) = same-put object word place last one none given
      by (puts_word other at value live mine asks holds fits is written) = wrote-other object word place other at value last one is asks
          (λ same. other-held mine (own-is one.0.worker (held_under s object) mine (ap (held_by s one.0.worker) (sym same) ∙ holds.here)) (own-worker one.0.worker (held_under s object) mine (ap (held_by s one.0.worker) (sym same) ∙ holds.here)))
      by (puts_byte other offset byte known slabs asks knows checked inside is written) = poked-other object word place other byte offset last one is asks (λ same. elim (known-is s one.0.worker other known knows) [
        | inl on_board ↦ other-held known (ap (held_under s) (sym same) ∙ on_board.0) on_board.1
        | inr gone ↦ (let never : None ≡ Some known = sym (not-gone object held there (gone_under s object) refl) ∙ ap (gone_under s) (sym same) ∙ gone.0 in cc)
      ])

  kind : Kind s one after
  kind = kind-of s one after (event-step s one.0 one.1 after answers)

  unput-by : (worker object word place : ℕ) (held : Held) → held_under after object ≡ Some held → held.worker ≡ None → Turn s one after object → last_put object word place (of_worker worker now) ≡ None
  unput-by worker object word place held there free (rests board gone given freed bad) =
      unput-now worker object word place (board-kept object word place held (sym board ∙ there) free given kind) ∙ put.unput worker object word place held (sym board ∙ there) free
  unput-by worker object word place held there free (comes at address come none now gone owner given freed bad asks is asked spot) =
      absurd (let never : None ≡ Some one.0.worker = sym free ∙ ap (λ (h : Held). h.worker) (injected (sym there ∙ now)) ∙ owner in cc)
  unput-by worker object word place held there free (goes address was_held was may now gone given freed bad asks is spot) = absurd (let never : None ≡ Some held = sym now ∙ there in cc)
  unput-by worker object word place held there free (stays was_held slabs checked was may now gone given freed bad) =
      absurd (let never : None ≡ Some one.0.worker = sym free ∙ ap (λ (h : Held). h.worker) (injected (sym there ∙ now)) in cc)

  -- ---- the words of what is held

  module _ (worker object word place byte : ℕ) (held : Held) (live : Cache) (rest : CheckedState) (below : place < 8) (within : is_word live.layout word ≡ true) (last : last_put object word place (of_worker worker now) ≡ Some byte) where
    -- an object that was there stays, with its worker
    module _ (was_held : Held) (slabs : CheckedState) (there : held_under s object ≡ Some was_held) (mine : was_held.worker ≡ Some worker) (is_live : cache_of s was_held.cache ≡ Some live) (was : checked_of s was_held.cache ≡ Some slabs) where
      by-turn : ByteTurn s one object was_held slabs rest word place → IsPut before now object slabs.layout rest was_held word place byte
      by-turn (still same none) = elim (put.bytes worker object word place byte was_held live slabs there mine is_live was within below (sym (unput-now worker object word place none) ∙ last)) [
        | inl is ↦ inl (same ∙ is)
        | inr poked ↦ inr (subst (λ b. IsPokedUnder before now object (pos (address_of was_held.frame was_held.index slabs.layout + (8 * word + place))) b) (sym same) (under-more before past (one ∷ []) object _ _ poked))
      ]
      by-turn (puts new owner is did) =
          let worker_is : one.0.worker ≡ worker = injected (sym owner ∙ mine) in
          inl (is ∙ injected (sym (did (last_put object word place (of_worker worker past))) ∙ sym (own-now worker object word place worker_is) ∙ last))
      by-turn (under other offset known differs asks is knows cache hits none) = inr (record {
        worker = one.0.worker;
        own = of_worker one.0.worker past;
        one = one;
        there = record { later = []; split = own-more one.0.worker past one ∙ ap (λ l. of_worker one.0.worker past ++ l) mine-alone };
        other = other;
        offset = offset;
        differs = differs;
        asks = asks;
        done = is;
        spot = record { cache = known.cache; address = address_of known.frame known.index live.layout };
        names = spot-names ∙ spot-is;
        is = ap (λ n. pos n +ℤ offset) (ap (λ (l : Layout). address_of known.frame known.index l) set_from) ∙ hits;
      })
        where
          mine-alone : of_worker one.0.worker (one ∷ []) ≡ one ∷ []
          mine-alone = let own : is_by one.0.worker one ≡ true = eq-eqb one.0.worker one.0.worker refl in rw own refl

          spot-names : spot_by before other (of_worker one.0.worker past) ≡ spot_of before known
          spot-names = elim (known-is s one.0.worker other known knows) [
            | inl on_board ↦ spots one.0.worker other known on_board.0 (subst (λ w. is_freeable one.0.worker w ≡ true) (sym on_board.1) (eq-eqb one.0.worker one.0.worker refl))
            | inr gone ↦ gones.spots one.0.worker other known gone.0 gone.1
          ]

          spot-is : spot_of before known ≡ Some (record { cache = known.cache; address = address_of known.frame known.index live.layout })
          spot-is = ap (option_map (λ (live : Cache). record { cache = known.cache; address = address_of known.frame known.index live.layout })) (ap (λ (t : Table). live_cache t known.cache) (sym table_before) ∙ ap (cache_of s) cache ∙ is_live)

          set_from : IsSetFrom slabs.layout live.layout
          set_from = checked-set s was_held.cache live.layout slabs (rw is_live refl) (slabs-sound s was_held.cache slabs coherent was)

    -- the entry of the board before
    of-board : (was_held : Held) → held_under s object ≡ Some was_held → was_held.worker ≡ Some worker → gave object one ≡ false → did_free object one ≡ false → cache_of s was_held.cache ≡ Some live → checked_of after was_held.cache ≡ Some rest
        → IsPut before now object rest.layout rest was_held word place byte
    of-board was_held there mine given unfreed is_live now_rest =
        let old = found (checked_of s was_held.cache) (checked-kept s after was_held.cache live coherent next table is_live ∙ ap is_some now_rest) in
        let turned = byte-turn s one after coherent answers object was_held live old.0 rest there (not-gone object was_held there (gone_under s object) refl) given unfreed is_live old.1 now_rest word place within below in
        subst (λ (l : Layout). IsPut before now object l rest was_held word place byte) (sym turned.0) (by-turn was_held old.0 there mine is_live old.1 turned.1)
      where
        found : (x : Option CheckedState) → is_some x ≡ true → (y : CheckedState) × (x ≡ Some y)
        found None none = absurd (cc)
        found (Some y) some = (y, refl)

    put-by : held_under after object ≡ Some held → held.worker ≡ Some worker → cache_of after held.cache ≡ Some live → checked_of after held.cache ≡ Some rest → Turn s one after object → IsPut before now object rest.layout rest held word place byte
    put-by there mine is_live now_rest (rests board gone given freed bad) = of-board held (sym board ∙ there) mine given freed (ap (λ (t : Table). live_cache t held.cache) (sym table) ∙ is_live) now_rest
    put-by there mine is_live now_rest (comes at address come none is_now gone owner given freed bad asks is asked spot) =
        let worker_is : one.0.worker ≡ worker = injected (sym owner ∙ ap (λ (h : Held). h.worker) (injected (sym is_now ∙ there)) ∙ mine) in
        absurd (let never : None ≡ Some byte = sym (given-put object word place (last_put object word place (of_worker worker past)) one address is given) ∙ sym (own-now worker object word place worker_is) ∙ last in cc)
    put-by there mine is_live now_rest (goes address was_held was may is_now gone given freed bad asks is spot) = absurd (let never : None ≡ Some held = sym is_now ∙ there in cc)
    put-by there mine is_live now_rest (stays was_held slabs checked was may is_now gone given freed bad) =
        let same : record was_held { worker = Some one.0.worker } ≡ held = injected (sym is_now ∙ there) in
        let worker_is : one.0.worker ≡ worker = injected (ap (λ (h : Held). h.worker) same ∙ mine) in
        let cache : was_held.cache ≡ held.cache = ap (λ (h : Held). h.cache) same in
        subst (λ (h : Held). IsPut before now object rest.layout rest h word place byte) same
        (of-board was_held was (owned was_held.worker refl worker_is may) given freed (ap (cache_of s) cache ∙ ap (λ (t : Table). live_cache t held.cache) (sym table) ∙ is_live) (ap (checked_of after) cache ∙ now_rest))
      where
        no-put : is_put one.1 ≡ false
        no-put = corrupt (is_free_of object one.0.act) one.1 bad
          where
            corrupt : (b : Bool) (answer : Reply) → (b && is_corrupt answer) ≡ true → is_put answer ≡ false
            corrupt false answer bad = absurd (cc)
            corrupt true (reply.Corrupt damage) bad = refl
            corrupt true answer bad = absurd (cc)

        owned : (w : Option ℕ) → was_held.worker ≡ w → one.0.worker ≡ worker → is_freeable one.0.worker was_held.worker ≡ true → was_held.worker ≡ Some worker
        owned None e worker_is may =
            absurd (let never : None ≡ Some byte = sym (put.unput worker object word place was_held was e) ∙ sym (unput-now worker object word place (λ last. same-put object word place last one no-put given)) ∙ last in cc)
        owned (Some holder) e worker_is may = e ∙ ap Some (same-worker holder one.0.worker (subst (λ w. is_freeable one.0.worker w ≡ true) e may) ∙ worker_is)

  pub puts-step : Puts before now after
  puts-step = record {
    unput = λ worker object word place held there free. unput-by worker object word place held there free (turns object);
    bytes = λ worker object word place byte held live rest there mine is_live now_rest within below last.
        put-by worker object word place byte held live rest below within last there mine is_live now_rest (turns object);
  }
