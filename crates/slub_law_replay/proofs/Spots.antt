-- Where a number's object stands to a worker, it was given under that number: in the round, or before it.
use Rattle.std.proofs.Common.{◌≡◌, ℕ, Bool, true, false, cond, suc, List, [], ◌∷◌, ◌++◌, zero, filter, Option, Some, None, MatchOption, IsSome, refl, sym, ap, ◌∙◌, subst, arith, inl, inr, ◌⊎◌}
use Rattle.std.specs.Option.{option_and_then, option_map}
use Rattle.std.specs.List.{Contains, fold}
use Rattle.std.proofs.lemmas.Bool.{false≢true}
use Rattle.std.proofs.lemmas.List.Elements.{Contains-append_right}
use Rattle.slub_object_layout.specs.declared.layout.Layout.{Layout}
use Rattle.slub_object_layout.specs.Layout.{address_of}
use Rattle.slub_trace.specs.declared.event.Act.{Act}
use Rattle.slub_trace.specs.declared.event.Act.TheVariants.{Alloc}
use Rattle.slub_trace.specs.declared.event.Event.{Event}
use Rattle.slub_trace.specs.declared.reply.Reply.{Reply}
use Rattle.slub_trace.specs.declared.reply.Reply.TheVariants as reply
use Rattle.slub_cache_create.specs.declared.caches.Cache.{Cache}
use Rattle.slub_red_zone.specs.State.{CheckedState}
use Rattle.slub_lists.specs.declared.lists.Held.{Held}
use Rattle.slub_lists.specs.State.{State}
use Rattle.slub_lists.specs.Alloc.{cache_of, checked_of, named}
use Rattle.slub_lists.specs.Coherent.{IsCacheOf, IsCoherent, held_under}
use Rattle.slub_law_rounds.specs.Answered.{Answered, is_alloc_of, of_worker}
use Rattle.slub_law_rounds.specs.Pokes.{WasGiven}
use Rattle.slub_law_rounds.specs.Round.{IsGiftOf, Spot, spot_after, spot_asked, spot_by, spot_of, spot_under}
use Rattle.slub_law_rounds.proofs.Poked.{IsTold, given-later}
use Rattle.slub_law_rounds.proofs.Reports.{slabs-sound}
use Rattle.slub_law_rounds.proofs.Tale.{injected}

-- ---- more events

-- what a filter keeps was there
filter-there : {A : Type 0} (p : A → Bool) (xs : List A) (x : A) → Contains (filter p xs) x → Contains xs x
filter-there p [] x there = absurd (omega (arith, there.1))
filter-there p (y ∷ xs) x there = by (λ more. filter-there p xs x more) (p y) there
  where
    by : (Contains (filter p xs) x → Contains xs x) → (b : Bool) → Contains (cond b (y ∷ filter p xs) (filter p xs)) x → Contains (y ∷ xs) x
    by again false more = Contains-append_right (y ∷ []) xs x (again more)
    by again true (zero, below, is) = (0, omega arith, is)
    by again true (suc k, below, is) = Contains-append_right (y ∷ []) xs x (again (k, omega (arith, below), is))

pub worker-there : (worker : ℕ) (answers : List Answered) (one : Answered) → Contains (of_worker worker answers) one → Contains answers one
worker-there worker answers one there = filter-there _ answers one there

-- what was given among some events was given among these
pub given-among : (some all : List Answered) (object address : ℕ) → ((one : Answered) → Contains some one → Contains all one) → WasGiven some object address → WasGiven all object address
given-among some all object address there was = (was.0, there was.0 was.1, was.2, was.3)

-- ---- the spot of a number

abbrev some_spot : Spot → Option Spot
some_spot spot = Some spot

-- an allocation that is answered with an address asks for an object there
asked-address : (before : State) (act : Act) (address : ℕ) (spot : Spot) → spot_asked before act address ≡ Some spot → address ≡ spot.address
asked-address before (Alloc place other) address spot is = by (named before place) is
  where
    at : ℕ → Spot
    at cache = record { cache = cache; address = address }

    by : (x : Option ℕ) → option_map at x ≡ Some spot → address ≡ spot.address
    by None e = absurd (let never : None ≡ Some spot = e in cc)
    by (Some cache) e = ap (λ (s : Spot). s.address) (injected e)
asked-address before _ address spot is = absurd (let never : None ≡ Some spot = is in cc)

-- after one event more
spot-more : (before : State) (object : ℕ) (event : Event) (r : Reply) (x : Option Spot) (spot : Spot) → spot_after before object x (event, r) ≡ Some spot → ((r ≡ reply.Given spot.address) × (is_alloc_of object event.act ≡ true)) ⊎ (x ≡ Some spot)
spot-more before object event (reply.Given address) x spot is = by (is_alloc_of object event.act) refl is
  where
    by : (b : Bool) → is_alloc_of object event.act ≡ b → cond b (spot_asked before event.act address) x ≡ Some spot → ((reply.Given address ≡ reply.Given spot.address) × (is_alloc_of object event.act ≡ true)) ⊎ (x ≡ Some spot)
    by true of e = inl (ap reply.Given (asked-address before event.act address spot e), of)
    by false of e = inr e
spot-more before object event _ x spot is = inr is

-- a worker's number was given to it, or names what it did before
spots-from : (before : State) (object : ℕ) (own : List Answered) (x : Option Spot) (spot : Spot) → fold (spot_after before object) x own ≡ Some spot → WasGiven own object spot.address ⊎ (x ≡ Some spot)
spots-from before object [] x spot is = inr is
spots-from before object (one ∷ own) x spot is =
    elim (spots-from before object own (spot_after before object x one) spot is) [
      | inl given ↦ inl (given-among own (one ∷ own) object spot.address (λ other there. Contains-append_right (one ∷ []) own other there) given)
      | inr here ↦
          elim (spot-more before object one.0 one.1 x spot here) [
            | inl now ↦ inl (one, (0, omega arith, refl), now.0, now.1)
            | inr was ↦ inr was
          ]
    ]

-- what an event gave it gave under its number
pub gift-given : (before : State) (answers : List Answered) (object : ℕ) (spot : Spot) (event : Event) (r : Reply) → Contains answers (event, r) → IsGiftOf before object spot (event, r) → WasGiven answers object spot.address
gift-given before answers object spot event (reply.Given address) there gift = ((event, reply.Given address), there, ap reply.Given (asked-address before event.act address spot gift.1), gift.0)
gift-given before answers object spot event _ there gift = absurd gift

-- ---- objects on the board

-- an object of a checked cache has the same address by the layout of its cache and by that of the slabs
pub checked-spot : (s : State) (object : ℕ) (held : Held) (slabs : CheckedState) → IsCoherent s → held_under s object ≡ Some held → checked_of s held.cache ≡ Some slabs
    → spot_under s object ≡ Some (record { cache = held.cache; address = address_of held.frame held.index slabs.layout })
checked-spot s object held slabs coherent there checked = ap (option_and_then (spot_of s)) there ∙ by (cache_of s held.cache) (slabs-sound s held.cache slabs coherent checked).live
  where
    at : Layout → Spot
    at layout = record { cache = held.cache; address = address_of held.frame held.index layout }

    by : (x : Option Cache) → MatchOption x ⊥ (λ live. IsCacheOf slabs live.layout live.flags) → option_map (λ (live : Cache). at live.layout) x ≡ Some (at slabs.layout)
    by None never = absurd never
    by (Some live) of = ap (λ (l : Layout). some_spot (record { cache = held.cache; address = address_of held.frame held.index l })) of.0

spot-cache : (s : State) (held : Held) (spot : Spot) → spot_of s held ≡ Some spot → held.cache ≡ spot.cache
spot-cache s held spot is = by (cache_of s held.cache) is
  where
    at : Layout → Spot
    at layout = record { cache = held.cache; address = address_of held.frame held.index layout }

    by : (x : Option Cache) → option_map (λ (live : Cache). at live.layout) x ≡ Some spot → held.cache ≡ spot.cache
    by None e = absurd (let never : None ≡ Some spot = e in cc)
    by (Some live) e = ap (λ (s : Spot). s.cache) (injected e)

-- what stands on the board in a checked cache was given where it stands
board-given : (told : List Answered) (s : State) (object : ℕ) (spot : Spot) → IsCoherent s → IsTold told s → IsSome (checked_of s spot.cache) → spot_under s object ≡ Some spot → WasGiven told object spot.address
board-given told s object spot coherent is_told checked is = by (held_under s object) refl
  where
    on : (held : Held) → held_under s object ≡ Some held → (x : Option CheckedState) → checked_of s held.cache ≡ x → IsSome x → WasGiven told object spot.address
    on held there None at some = absurd (false≢true some)
    on held there (Some slabs) at some =
        subst (λ (p : Spot). WasGiven told object p.address) (injected (sym (checked-spot s object held slabs coherent there at) ∙ is)) (is_told.known object held slabs (inl there) at)

    by : (x : Option Held) → held_under s object ≡ x → WasGiven told object spot.address
    by None e = absurd (let never : None ≡ Some spot = sym (ap (option_and_then (spot_of s)) e) ∙ is in cc)
    by (Some held) e =
        let cache = spot-cache s held spot (sym (ap (option_and_then (spot_of s)) e) ∙ is) in
        on held e (checked_of s held.cache) refl (subst (λ c. IsSome (checked_of s c)) (sym cache) checked)

-- so was what a number names to a worker, among the events told before and those of the round
pub spot-given : (told : List Answered) (s : State) (answers : List Answered) (object : ℕ) (own : List Answered) (spot : Spot) → IsCoherent s → IsTold told s → ((one : Answered) → Contains own one → Contains answers one) → IsSome (checked_of s spot.cache)
    → spot_by s object own ≡ Some spot → WasGiven (told ++ answers) object spot.address
spot-given told s answers object own spot coherent is_told there checked is =
    elim (spots-from s object own (spot_under s object) spot is) [
      | inl given ↦ given-among own (told ++ answers) object spot.address (λ one among. Contains-append_right told answers one (there one among)) given
      | inr on ↦ given-later told answers object spot.address (board-given told s object spot coherent is_told checked on)
    ]
