-- What a round of one allocation, or of one free, leaves on the board.
use Rattle.std.proofs.Common.{◌≡◌, ◌≢◌, ℕ, zero, suc, ◌+◌, ◌<◌, ◌≤◌, ◌&&◌, cond, eqb, Bool, true, false, List, [], ◌∷◌, refl, sym, ◌∙◌, ap, subst, arith, Option, Some, None, IsSome, inl, inr}
use Rattle.std.specs.List.{Contains}
use Rattle.std.specs.Option.{option_map, option_map_or}
use Rattle.std.proofs.lemmas.Bool.{false≢true}
use Rattle.std.proofs.lemmas.List.Elements.{All-cons, All-nil}
use Rattle.std.proofs.lemmas.List.Sums.{sum_by-cons}
use Rattle.slub_common.specs.Times.{times}
use Rattle.slub_common.proofs.Times.{Contains-times, times-absent, times-contained}
use Rattle.slub_trace.specs.declared.event.Act.TheVariants.{Alloc, Free}
use Rattle.slub_trace.specs.declared.event.Event.{Event}
use Rattle.slub_object_layout.specs.Layout.{address_of, no_layout}
use Rattle.slub_trace.specs.declared.reply.Reply.{Reply}
use Rattle.slub_trace.specs.declared.reply.Reply.TheVariants as reply
use Rattle.slub_trace.specs.Kinds.{is_freed, is_given}
use Rattle.slub_cache_create.specs.declared.caches.Cache.{Cache}
use Rattle.slub_lists.specs.declared.lists.Held.{Held}
use Rattle.slub_lists.specs.State.{State}
use Rattle.slub_lists.specs.Alloc.{cache_of, named}
use Rattle.slub_lists.specs.Coherent.{held_under}
use Rattle.slub_lists.specs.Places.{layout_at}
use Rattle.slub_lists.proofs.CheckedSlabs.{at_some}
use Rattle.slub_lists.proofs.ObjectWords.{held-cache}
use Rattle.slub_slabinfo_text.specs.declared.journal.RoundResult.{RoundResult}
use Rattle.slub_slabinfo_text.specs.Asked.{event_of, round_of}
use Rattle.slub_slabinfo_text.specs.Lawful.{IsUnheld}
use Rattle.slub_law_rounds.specs.Answered.{Answered, did_free, gave, times_freed, times_given}
use Rattle.slub_law_rounds.specs.Round.{IsGiftOf, IsRound, Spot, WasGivenAt, spot_of, spot_under}
use Rattle.slub_law_rounds.proofs.Tale.{injected}
use Rattle.slub_law_rounds.proofs.Times.{events_given}
use Rattle.slub_rounds.specs.BulkLines.{AddsNumbers, address_under}
use Rattle.slub_bulk.proofs.Boards.{allocs_free_none, allocs_give_all, answers_of, frees_few, frees_give_none}
use Rattle.slub_bulk.proofs.Leaving.{either-way, nobody, not-some}

-- every number names what it named
abbrev pub IsAsBefore : State → State → Type 0
IsAsBefore s after = (object : ℕ) → held_under after object ≡ held_under s object

-- a list of one number has it alone
pub mine-alone : (object x : ℕ) → Contains (object ∷ []) x → x ≡ object
mine-alone object x (zero, within, is) = sym is
mine-alone object x (suc k, within, is) = absurd (let never : ⊥ = omega (arith, within) in never)

once : (object : ℕ) → 0 < times object (object ∷ [])
once object = times-contained object (object ∷ []) (zero, omega arith, refl)

-- the spot of an object of a live cache
the-spot : (s : State) (held : Held) (live : Cache) → cache_of s held.cache ≡ Some live → spot_of s held ≡ Some (record { cache = held.cache; address = address_of held.frame held.index live.layout })
the-spot s held live is = ap (option_map (λ (live : Cache). record { cache = held.cache; address = address_of held.frame held.index live.layout })) is

-- ---- an allocation

module _ (s : State) (cpu place object : ℕ) (result : RoundResult) (after : State) (unheld : IsUnheld s object) (law : IsRound s (round_of cpu (Alloc place object ∷ [])) result after) where
  abbrev answers : List Answered
  answers = answers_of cpu (Alloc place object ∷ []) result.replies

  abbrev event : Event
  event = event_of cpu (Alloc place object)

  none-freed : (x : ℕ) → times_freed x answers ≡ 0
  none-freed x = allocs_free_none x cpu place (object ∷ []) result.replies

  few : (x : ℕ) → times_given x answers ≤ times x (object ∷ [])
  few x = events_given x (round_of cpu (Alloc place object ∷ [])).events result.replies

  -- what was there is there still
  stay : (x : ℕ) → IsSome (held_under s x) → held_under after x ≡ held_under s x
  stay x some = either-way s after x (law.board.stays x) some ((law.board.numbers x).1 (inl some, none-freed x))

  come : (x : ℕ) → held_under s x ≡ None → IsSome (held_under after x) → 0 < times_given x answers
  come x none there = elim ((law.board.numbers x).0 there).0 [
    | inl before ↦ absurd (not-some (held_under s x) none before)
    | inr given ↦ given
  ]

  -- nothing was given
  module _ (told : Reply) (is : result.replies ≡ told ∷ []) (not_given : is_given told ≡ false) where
    none-given : (x : ℕ) → times_given x answers ≡ 0
    none-given x =
        subst (λ (l : List Reply). times_given x (answers_of cpu (Alloc place object ∷ []) l) ≡ 0) (sym is)
        (by (eqb object x) (is_given told) not_given (sum_by-cons (λ (one : Answered). cond (gave x one) 1 0) (event, told) []))
      where
        by : (b c : Bool) → c ≡ false → times_given x ((event, told) ∷ []) ≡ cond (b && c) 1 0 + times_given x [] → times_given x ((event, told) ∷ []) ≡ 0
        by b true never first = absurd (false≢true (sym never))
        by true false none first = omega (arith, first)
        by false false none first = omega (arith, first)

    pub refused-board : IsAsBefore s after
    refused-board x = by (held_under s x) refl
      where
        by : (was : Option Held) → held_under s x ≡ was → held_under after x ≡ held_under s x
        by None none = nobody (held_under after x) (λ there. let given = come x none there in let never : ⊥ = omega (arith, given, none-given x) in never) ∙ sym none
        by (Some held) there = stay x (rw there refl)

  -- an object was, at this address
  module _ (address : ℕ) (is : result.replies ≡ reply.Given address ∷ []) where
    given-once : 0 < times_given object answers
    given-once =
        let all : times_given object (answers_of cpu (Alloc place object ∷ []) (reply.Given address ∷ [])) ≡ times object (object ∷ []) =
        allocs_give_all object cpu place (object ∷ []) (reply.Given address ∷ []) refl (All-cons (λ (told : Reply). is_given told ≡ true) (reply.Given address) [] refl (All-nil (λ (told : Reply). is_given told ≡ true))) in
        subst (λ (l : List Reply). 0 < times_given object (answers_of cpu (Alloc place object ∷ []) l)) (sym is) (omega (arith, all, once object))

    pub given-there : IsSome (held_under after object)
    given-there = (law.board.numbers object).1 (inr given-once, none-freed object)

    -- where it was given
    gift-address : (spot : Spot) → WasGivenAt s answers object spot → spot.address ≡ address
    gift-address spot given = by (subst (λ (l : List Reply). WasGivenAt s (answers_of cpu (Alloc place object ∷ []) l) object spot) is given)
      where
        asked : (x : Option ℕ) → option_map (λ (cache : ℕ). record { cache = cache; address = address }) x ≡ Some spot → spot.address ≡ address
        asked None e = absurd (let never : None ≡ Some spot = e in cc)
        asked (Some cache) e = sym (ap (λ (spot : Spot). spot.address) (injected e))

        by : WasGivenAt s ((event, reply.Given address) ∷ []) object spot → spot.address ≡ address
        by (one, (zero, within, e), gift) = let mine : IsGiftOf s object spot (event, reply.Given address) = subst (IsGiftOf s object spot) (sym e) gift in asked (named s place) mine.1
        by (one, (suc k, within, e), gift) = absurd (let never : ⊥ = omega (arith, within) in never)

    pub given-at : address_under after object ≡ address
    given-at = by (held_under after object) refl given-there
      where
        by : (x : Option Held) → held_under after object ≡ x → IsSome (held_under after object) → address_under after object ≡ address
        by None none there = absurd (not-some (held_under after object) none there)
        by (Some held) there some = of-cache (cache_of after held.cache) refl (held-cache after held (record { object = object; here = there }) law.coherent)
          where
            of-cache : (x : Option Cache) → cache_of after held.cache ≡ x → IsSome (cache_of after held.cache) → address_under after object ≡ address
            of-cache None none live = absurd (false≢true (subst IsSome none live))
            of-cache (Some live) e live_there =
                let spot : Spot = record { cache = held.cache; address = address_of held.frame held.index live.layout } in
                let here : spot_under after object ≡ Some spot = rw there (the-spot after held live e) in
                let layout : layout_at after held.cache ≡ live.layout = ap (λ (x : Option Cache). option_map_or (λ live. live.layout) x no_layout) e in
                ap (λ (x : Option Held). option_map_or (λ held. address_of held.frame held.index (layout_at after held.cache)) x 0) there
                ∙ ap (address_of held.frame held.index) layout
                ∙ gift-address spot (at_some (spot_under after object) spot (WasGivenAt s answers object) here (law.board.comes object unheld))

    pub given-board : AddsNumbers s (object ∷ []) after
    given-board = record {
      stay = stay;
      come = λ x none. (λ some. Contains-times x (object ∷ []) (let given = come x none some in omega (arith, given, few x)), λ mine. subst (λ n. IsSome (held_under after n)) (sym (mine-alone object x mine)) given-there);
      apart = λ one other mine also same. mine-alone object one mine ∙ sym (mine-alone object other also);
    }

-- ---- a free

module _ (s : State) (cpu object : ℕ) (result : RoundResult) (after : State) (law : IsRound s (round_of cpu (Free object ∷ [])) result after) (told : Reply) (is : result.replies ≡ told ∷ []) (freed : is_freed told ≡ true) where
  -- the number names nothing
  pub freed-gone : held_under after object ≡ None
  freed-gone = nobody (held_under after object) (λ there. let none = ((law.board.numbers object).0 there).1 in let never : ⊥ = omega (arith, none, freed-once) in never)
    where
      freed-once : 0 < times_freed object (answers_of cpu (Free object ∷ []) result.replies)
      freed-once =
          subst (λ (l : List Reply). 0 < times_freed object (answers_of cpu (Free object ∷ []) l)) (sym is)
          (by (eqb object object) (is_freed told) eqb-same freed (sum_by-cons (λ (one : Answered). cond (did_free object one) 1 0) (event_of cpu (Free object), told) []))
        where
          eqb-same : eqb object object ≡ true
          eqb-same = grind (arith)

          by : (b c : Bool) → b ≡ true → c ≡ true → times_freed object ((event_of cpu (Free object), told) ∷ []) ≡ cond (b && c) 1 0 + times_freed object [] → 0 < times_freed object ((event_of cpu (Free object), told) ∷ [])
          by true true same did first = omega (arith, first)
          by true false same did first = absurd (false≢true did)
          by false c same did first = absurd (false≢true same)

  -- every other one what it named
  pub freed-others : (x : ℕ) → x ≢ object → held_under after x ≡ held_under s x
  freed-others x apart = by (held_under s x) refl
    where
      out : times x (object ∷ []) ≡ 0
      out = times-absent x (object ∷ []) (λ mine. apart (mine-alone object x mine))

      none-freed : times_freed x (answers_of cpu (Free object ∷ []) result.replies) ≡ 0
      none-freed = let few = frees_few x cpu (object ∷ []) result.replies in omega (arith, few, out)

      by : (was : Option Held) → held_under s x ≡ was → held_under after x ≡ held_under s x
      by None none = nobody (held_under after x) (λ there. elim ((law.board.numbers x).0 there).0 [
        | inl before ↦ absurd (not-some (held_under s x) none before)
        | inr given ↦ absurd (let never : ⊥ = omega (arith, given, frees_give_none x cpu (object ∷ []) result.replies) in never)
      ]) ∙ sym none
      by (Some held) there = let some : IsSome (held_under s x) = rw there refl in either-way s after x (law.board.stays x) some ((law.board.numbers x).1 (inl some, none-freed))
