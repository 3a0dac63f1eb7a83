-- The board after a round, in the words of the text.
use Rattle.std.proofs.Common.{◌≡◌, ℕ, zero, suc, ◌+◌, ◌≤◌, ◌<◌, ◌↔◌, Bool, true, false, cond, List, [], ◌∷◌, get_or, map, refl, sym, ap, subst, ◌∙◌, arith, All, Option, Some, None, IsSome, IfSome, is_some, inl, inr, ◌⊎◌}
use Rattle.std.specs.Option.{option_and_then, option_map}
use Rattle.std.specs.List.{Contains, filter, fold, zip}
use Rattle.std.proofs.Math.ListN.{get_or-map as get_or-mapped}
use Rattle.std.proofs.lemmas.Bool.{false≢true}
use Rattle.std.proofs.lemmas.List.{get_or_default, length-map}
use Rattle.std.proofs.lemmas.List.Elements.{All-contains}
use Rattle.std.proofs.lemmas.Option.{none-some, same_Some}
use Rattle.slub_trace.specs.declared.event.Event.{Event}
use Rattle.slub_trace.specs.declared.event.Round.{Round}
use Rattle.slub_object_layout.specs.declared.layout.Layout.{Layout}
use Rattle.slub_object_layout.specs.Layout.{address_of}
use Rattle.slub_trace.specs.declared.reply.Reply.{Reply}
use Rattle.slub_trace.specs.declared.reply.Reply.TheVariants as reply
use Rattle.slub_words.specs.declared.board.BoardWord.{BoardWord}
use Rattle.slub_cache_create.specs.Table.{Table, cache_of as live_cache}
use Rattle.slub_cache_create.specs.declared.caches.Cache.{Cache}
use Rattle.slub_lists.specs.declared.lists.Held.{Held}
use Rattle.slub_lists.specs.State.{State}
use Rattle.slub_lists.specs.Alloc.{cache_of}
use Rattle.slub_lists.specs.Coherent.{IsCoherent, all_on_board, held_under, laid_down}
use Rattle.slub_lists.specs.Places.{layout_at}
use Rattle.slub_slabinfo_text.specs.Lawful.{is_by}
use Rattle.slub_core.specs.declared.local.Answered.{Answered as Done}
use Rattle.slub_core.specs.Local.{Local, address_in}
use Rattle.slub_core.specs.World.{World}
use Rattle.slub_core.specs.Accounted.{boarded, known_of}
use Rattle.slub_core.specs.Replies as core
use Rattle.slub_core.specs.Round.{held_over, outcome}
use Rattle.slub_schedule.specs.Finished.{HoldsAsTold}
use Rattle.slub_schedule.specs.Closed.{held_by, or_held}
use Rattle.slub_schedule.proofs.Closed.{closed-count, held_count, holder}
use Rattle.slub_law_opening.specs.Opening.{Beside, IsLaidDown, board_word, setup_of}
use Rattle.slub_law_opening.specs.Rests.{held_on}
use Rattle.slub_calls.specs.Calls.{events_by, rooms_for}
use Rattle.slub_law_rounds.specs.Answered.{Answered, is_alloc_of, of_worker, times_freed, times_given}
use Rattle.slub_law_rounds.specs.Round.{IsBoardAfter, IsGiftOf, Spot, WasGivenAt, spot_after, spot_asked, spot_by, spot_of, spot_under}
use Rattle.slub_calls.specs.Replies.{AreReplies}
use Rattle.slub_law_rounds.proofs.Split.{back}
use Rattle.slub_law_rounds.proofs.TellingRan.{spot_from, spot-told}
use Rattle.slub_law_rounds.proofs.CausesRan.{spot-here}
use Rattle.slub_law_rounds.proofs.Sums.{IsBelow}
use Rattle.slub_law_rounds.proofs.Places.{HoldsFrom, known-from}
use Rattle.slub_law_rounds.proofs.Ended.{Ended, closed-names, held-over}
use Rattle.slub_law_rounds.proofs.Counts.{done-at, given-is, freed-is, its_done, many, met-by, one-taker}

-- ---- lists

there-after : {A : Type 0} (y : A) (xs : List A) (x : A) → Contains xs x → Contains (y ∷ xs) x
there-after y xs x (n, inside, is) = (suc n, omega (arith, inside), is)

filtered : {A : Type 0} (p : A → Bool) (xs : List A) (x : A) → Contains (filter p xs) x → Contains xs x
filtered p [] x there = there
filtered p (y ∷ ys) x there = by (p y) there (filtered p ys x)
  where
    by : (b : Bool) → Contains (cond b (y ∷ filter p ys) (filter p ys)) x → (Contains (filter p ys) x → Contains ys x) → Contains (y ∷ ys) x
    by false there again = there-after y ys x (again there)
    by true (zero, inside, is) again = (zero, omega arith, is)
    by true (suc n, inside, is) again = there-after y ys x (again (n, omega (arith, inside), is))

-- ---- what a number names that was not on the board was given

spot-gift : (s : State) (o : ℕ) (spot : Spot) (own : List Answered) (x : Option Spot) → fold (spot_after s o) x own ≡ Some spot → (x ≡ Some spot) ⊎ ((one : Answered) × Contains own one × IsGiftOf s o spot one)
spot-gift s o spot [] x is = inl is
spot-gift s o spot (one ∷ own) x is = by one (spot-gift s o spot own (spot_after s o x one) is)
  where
    by : (one : Answered) → (spot_after s o x one ≡ Some spot) ⊎ ((other : Answered) × Contains own other × IsGiftOf s o spot other) → (x ≡ Some spot) ⊎ ((other : Answered) × Contains (one ∷ own) other × IsGiftOf s o spot other)
    by one (inr (other, there, gift)) = inr (other, there-after one own other there, gift)
    by (event, reply.Given a) (inl is) = mine (is_alloc_of o event.act) refl is
      where
        mine : (b : Bool) → is_alloc_of o event.act ≡ b → cond b (spot_asked s event.act a) x ≡ Some spot → (x ≡ Some spot) ⊎ ((other : Answered) × Contains ((event, reply.Given a) ∷ own) other × IsGiftOf s o spot other)
        mine true asks is = inr ((event, reply.Given a), (zero, omega arith, refl), (asks, is))
        mine false asks is = inl is
    by (event, r) (inl is) = inl is

-- ---- the board

abbrev some_held : Held → Option Held
some_held held = Some held

module _ (s : State) (b : Beside) (round : Round) (replies : List Reply) (opening w : World) (ls : List Local) (lists : State) (ended : Ended s b round opening w ls lists) (are : AreReplies round.events (map (λ (l : Local). l.done) ls) replies)
    (within : All (λ (event : Event). event.worker < round.workers) round.events) (below : All (IsBelow round.workers) (zip round.events replies)) (coherent : IsCoherent s) (step : b.step ≤ 16) (table : lists.table ≡ s.table) where
  abbrev answers : List Answered
  answers = zip round.events replies

  abbrev dones : List (List Done)
  dones = map (λ (l : Local). l.done) ls

  abbrev closed_at : ℕ → Option BoardWord
  closed_at o = or_held (w.board o) (held_by ls o)

  after-is : (o : ℕ) → held_under (all_on_board lists) o ≡ option_map held_on (closed_at o)
  after-is o = get_or-mapped (option_map laid_down) lists.board o None ∙ ap (option_map laid_down) (ended.names o) ∙ closed-names w ls o ended.distinct

  held-count : (o : ℕ) → held_count o ls ≡ held_over o dones
  held-count o = held-over opening.board w o ls ended.counted.kept.holds

  closed-is : (o : ℕ) → boarded (closed_at o) + times_freed o answers ≡ boarded (opening.board o) + times_given o answers
  closed-is o =
      let count = ended.law.count o in
      let once = ended.law.once o in
      let held = held-count o in
      let all = closed-count o ls (w.board o) (omega (arith, count, once, held)) in
      omega (
        arith,
        count,
        held,
        all,
        given-is s b round replies opening w ls lists ended are within below coherent o,
        freed-is s b round replies opening w ls lists ended are within below coherent o,
      )

  few : (o : ℕ) → boarded (opening.board o) + times_given o answers ≤ 1
  few o = omega (arith, ended.law.once o, given-is s b round replies opening w ls lists ended are within below coherent o)

  numbers : (o : ℕ) → IsSome (held_under (all_on_board lists) o) ↔ ((IsSome (held_under s o) ⊎ (0 < times_given o answers)) × (times_freed o answers ≡ 0))
  numbers o = (
    λ some. by (closed_at o) refl (subst IsSome (after-is o) some),
    λ why. subst IsSome (sym (after-is o)) (back_so (closed_at o) refl why.0 why.1),
  )
    where
      source : (x : Option Held) → held_under s o ≡ x → 1 ≤ boarded (opening.board o) + times_given o answers → IsSome (held_under s o) ⊎ (0 < times_given o answers)
      source (Some held) is some = inl (ap is_some is)
      source None is some = let none : boarded (opening.board o) ≡ 0 = ap boarded (ended.board o) ∙ ap (λ x. boarded (option_map board_word x)) is in inr (omega (arith, some, none))

      by : (x : Option BoardWord) → closed_at o ≡ x → IsSome (option_map held_on (closed_at o)) → (IsSome (held_under s o) ⊎ (0 < times_given o answers)) × (times_freed o answers ≡ 0)
      by None is some = absurd (false≢true (sym (ap (λ x. is_some (option_map held_on x)) is) ∙ some))
      by (Some c) is some =
          let on : boarded (closed_at o) ≡ 1 = ap boarded is in
          let all = closed-is o in
          let most = few o in
          (source (held_under s o) refl (omega (arith, on, all)), omega (arith, on, all, most))

      there : (IsSome (held_under s o) ⊎ (0 < times_given o answers)) → 1 ≤ boarded (opening.board o) + times_given o answers
      there (inr given) = omega (arith, given)
      there (inl some) = on (held_under s o) refl some
        where
          on : (x : Option Held) → held_under s o ≡ x → IsSome x → 1 ≤ boarded (opening.board o) + times_given o answers
          on None is some = absurd (false≢true some)
          on (Some held) is some = let one : boarded (opening.board o) ≡ 1 = ap boarded (ended.board o) ∙ ap (λ x. boarded (option_map board_word x)) is in omega (arith, one)

      back_so : (x : Option BoardWord) → closed_at o ≡ x → (IsSome (held_under s o) ⊎ (0 < times_given o answers)) → times_freed o answers ≡ 0 → IsSome (option_map held_on (closed_at o))
      back_so (Some c) is why none = ap (λ x. is_some (option_map held_on x)) is
      back_so None is why none = absurd (let off : boarded (closed_at o) ≡ 0 = ap boarded is in let some = there why in omega (arith, off, some, none, closed-is o))

  -- what a worker holds under a number that was not on the board it was given
  held-gift : (o : ℕ) (c : BoardWord) → held_under s o ≡ None → held_by ls o ≡ Some c → WasGivenAt s answers o (record { cache = c.cache; address = address_of c.frame c.index (layout_at s c.cache) })
  held-gift o c none is =
      let h = holder o ls c is in
      let l = h.0 in
      let n = h.1.0 in
      let known = known_of l.known o in
      let as_told : HoldsAsTold opening.board w l = All-contains (HoldsAsTold opening.board w) ls l ended.counted.kept.holds h.1 in
      let holds : core.holding l.done o ≡ true = sym (as_told.held o) ∙ h.2 in
      let inside : n < round.workers = omega (arith, h.1.1, many s b round replies opening w ls lists ended are within below coherent, length-map ls (λ (l : Local). l.done)) in
      let mine : l.done ≡ its_done s b round replies opening w ls lists ended are within below coherent n
      = ap (λ (l : Local). l.done) (sym h.1.2) ∙ sym (get_or-mapped (λ (l : Local). l.done) ls n l) ∙ default n l inside ∙ done-at s b round replies opening w ls lists ended are within below coherent n inside in
      let rooms = rooms_for (events_by n round.events) in
      let own = of_worker n answers in
      let cache : core.cache_by opening.board (back s.table rooms own []) o ≡ Some known.cache = ap (λ ds. core.cache_by opening.board ds o) (sym mine) ∙ as_told.cache o holds in
      let address : core.address_by (setup_of s b) opening.board (back s.table rooms own []) o ≡ Some (address_in (setup_of s b) known)
      = ap (λ ds. core.address_by (setup_of s b) opening.board ds o) (sym mine) ∙ subst (λ m. core.address_by m opening.board l.done o ≡ Some (address_in m known)) ended.setup (as_told.address o holds) in
      let spot : spot_by s o own ≡ Some (record { cache = known.cache; address = address_in (setup_of s b) known })
      = spot-told s rooms (setup_of s b) opening.board o own (met-by s b round replies opening w ls lists ended are within below coherent n) (spot-here s b rooms opening.board (outcome w dones) ended.board coherent step o)
      ∙ ap (λ x. spot_from x (core.address_by (setup_of s b) opening.board (back s.table rooms own []) o)) cache ∙ ap (spot_from (Some known.cache)) address in
      subst (λ (c : BoardWord). WasGivenAt s answers o (record { cache = c.cache; address = address_of c.frame c.index (layout_at s c.cache) })) h.3
      (given n (record { cache = known.cache; address = address_in (setup_of s b) known }) (spot-gift s o (record { cache = known.cache; address = address_in (setup_of s b) known }) own (spot_under s o) spot))
    where
      default : (n : ℕ) (l : Local) → n < round.workers → get_or dones n l.done ≡ get_or dones n []
      default n l inside = get_or_default dones n l.done [] (omega (arith, inside, many s b round replies opening w ls lists ended are within below coherent))

      given : (n : ℕ) (spot : Spot) → (spot_under s o ≡ Some spot) ⊎ ((one : Answered) × Contains (of_worker n answers) one × IsGiftOf s o spot one) → WasGivenAt s answers o spot
      given n spot (inl on) = absurd (none-some spot (sym (ap (option_and_then (spot_of s)) none) ∙ on))
      given n spot (inr (one, there, gift)) = (one, filtered (is_by n) answers one there, gift)

  comes : (o : ℕ) → held_under s o ≡ None → IfSome (spot_under (all_on_board lists) o) (WasGivenAt s answers o)
  comes o none = subst (λ x. IfSome (option_and_then (spot_of (all_on_board lists)) x) (WasGivenAt s answers o)) (sym (after-is o)) (by (w.board o) refl (held_by ls o) refl)
    where
      at : (c : BoardWord) (x : Option Cache) → cache_of (all_on_board lists) c.cache ≡ x → WasGivenAt s answers o (record { cache = c.cache; address = address_of c.frame c.index (layout_at s c.cache) })
          → IfSome (option_map (λ (live : Cache). record { cache = c.cache; address = address_of c.frame c.index live.layout }) x) (WasGivenAt s answers o)
      at c None is given = tt
      at c (Some live) is given =
          let same : cache_of s c.cache ≡ Some live = ap (λ (t : Table). live_cache t c.cache) (sym table) ∙ is in
          let layout : layout_at s c.cache ≡ live.layout = rw same refl in
          subst (λ (l : Layout). WasGivenAt s answers o (record { cache = c.cache; address = address_of c.frame c.index l })) layout given

      by : (x : Option BoardWord) → w.board o ≡ x → (y : Option BoardWord) → held_by ls o ≡ y → IfSome (option_and_then (spot_of (all_on_board lists)) (option_map held_on (or_held (w.board o) (held_by ls o)))) (WasGivenAt s answers o)
      by (Some d) on y is = absurd (never (ended.law.board o))
        where
          never : (w.board o ≡ None) ⊎ (w.board o ≡ opening.board o) → ⊥
          never (inl off) = none-some d (sym off ∙ on)
          never (inr same) = none-some d (sym (ap (option_map board_word) none) ∙ sym (ended.board o) ∙ sym same ∙ on)
      by None off None is = rw off (rw is tt)
      by None off (Some c) is = rw off (rw is (at c (cache_of (all_on_board lists) c.cache) refl (held-gift o c none is)))

  -- a number that stays keeps its place
  stays : IsLaidDown s → All (HoldsFrom opening.board) ls → (o : ℕ) → IfSome (held_under s o) (λ held. (held_under (all_on_board lists) o ≡ Some held) ⊎ (held_under (all_on_board lists) o ≡ None))
  stays down from o = by (held_under s o) refl (down o)
    where
      by : (x : Option Held) → held_under s o ≡ x → IfSome x (λ held. held.worker ≡ None) → IfSome x (λ held. (held_under (all_on_board lists) o ≡ Some held) ⊎ (held_under (all_on_board lists) o ≡ None))
      by None is laid = tt
      by (Some held) is laid = at (w.board o) refl (held_by ls o) refl
        where
          on : opening.board o ≡ Some (board_word held)
          on = ended.board o ∙ ap (option_map board_word) is

          whole : held_on (board_word held) ≡ held
          whole = λ i. record held { worker = sym laid i }

          same : (c : BoardWord) → closed_at o ≡ Some c → c ≡ board_word held → held_under (all_on_board lists) o ≡ Some held
          same c there is_so = after-is o ∙ ap (option_map held_on) there ∙ ap (λ (c : BoardWord). option_map held_on (Some c)) is_so ∙ ap (λ (h : Held). some_held h) whole

          stood : (d : BoardWord) → w.board o ≡ Some d → (w.board o ≡ None) ⊎ (w.board o ≡ opening.board o) → d ≡ board_word held
          stood d e (inl off) = absurd (none-some d (sym off ∙ e))
          stood d e (inr kept) = same_Some d (board_word held) (sym e ∙ kept ∙ on)

          at : (x : Option BoardWord) → w.board o ≡ x → (y : Option BoardWord) → held_by ls o ≡ y → (held_under (all_on_board lists) o ≡ Some held) ⊎ (held_under (all_on_board lists) o ≡ None)
          at (Some d) e y f = inl (same d (ap (λ x. or_held x (held_by ls o)) e) (stood d e (ended.law.board o)))
          at None e None f = inr (after-is o ∙ ap (option_map held_on) (ap (λ x. or_held x (held_by ls o)) e ∙ f))
          at None e (Some c) f =
              let h = holder o ls c f in
              let from_it = All-contains (HoldsFrom opening.board) ls h.0 from h.1 in
              inl (same c (ap (λ x. or_held x (held_by ls o)) e ∙ f) (sym h.3 ∙ known-from opening.board o (board_word held) h.0.known on from_it h.2))

  pub board-after : IsLaidDown s → All (HoldsFrom opening.board) ls → IsBoardAfter s answers (all_on_board lists)
  board-after down from = record {
    numbers = numbers;
    stays = stays down from;
    comes = comes;
    once = λ o. let all = closed-is o in let most = few o in omega (arith, all, most);
    one_worker = λ o one other some first second. one-taker s b round replies opening w ls lists ended are within below coherent o one other first second;
  }
