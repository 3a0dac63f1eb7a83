-- What the replies of a worker tell is the same in the text and in its calls.
use Rattle.std.proofs.Common.{◌≡◌, ℕ, ◌+◌, eqb, Bool, true, false, cond, not, ◌&&◌, ◌||◌, List, [], ◌∷◌, refl, sym, ap, ◌∙◌, arith, All, Option, Some, None}
use Rattle.std.specs.Option.{option_map}
use Rattle.std.specs.List.{fold}
use Rattle.slub_trace.specs.declared.event.Act.{Act}
use Rattle.slub_trace.specs.declared.event.Event.{Event}
use Rattle.slub_trace.specs.declared.reply.Reply.{Reply}
use Rattle.slub_trace.specs.declared.reply.Reply.TheVariants as reply
use Rattle.slub_trace.specs.Kinds as kinds
use Rattle.slub_cache_create.specs.Table.{Table}
use Rattle.slub_lists.specs.State.{State}
use Rattle.slub_lists.specs.Alloc.{named}
use Rattle.slub_core.specs.declared.call.Call.{Call}
use Rattle.slub_core.specs.declared.local.Known.{Known}
use Rattle.slub_core.specs.declared.local.Answered.{Answered as Done}
use Rattle.slub_core.specs.Calls.{call_object}
use Rattle.slub_core.specs.Replies as core
use Rattle.slub_core.specs.World.{one_if}
use Rattle.slub_core.specs.Setup.{Setup}
use Rattle.slub_words.specs.declared.board.BoardWord.{BoardWord}
use Rattle.slub_calls.specs.Calls.{call_for, cache_named}
use Rattle.slub_law_rounds.specs.Answered.{Answered, did_free, gave as did_give, holding, holds_after, is_alloc_of, is_corrupt, is_free_of, times_freed, times_given}
use Rattle.slub_law_rounds.specs.Round.{Spot, spot_after, spot_by, spot_under}
use Rattle.slub_law_rounds.proofs.Split.{told, back}
use Rattle.slub_law_rounds.proofs.Meeting.{Meets, gave, lacked, freed, found, wrote, poked, quiet, IsStill, quiet-still, IsMet, fold-back, count-back}

-- ---- tests

pub same-either : {X : Type 0} (b : Bool) (x : X) → cond b x x ≡ x
same-either true x = refl
same-either false x = refl

never : (p q h : Bool) → ((p && false) || (q && false) || (h && not (q && false))) ≡ h
never true true true = refl
never true true false = refl
never true false true = refl
never true false false = refl
never false true true = refl
never false true false = refl
never false false true = refl
never false false false = refl

still-told : (p q h : Bool) (r : Reply) → IsStill r → ((p && kinds.is_given r) || (q && is_corrupt r) || (h && not (q && kinds.is_freed r))) ≡ h
still-told p q h (reply.Given a) still = absurd still
still-told p q h (reply.Freed a) still = absurd still
still-told p q h (reply.Corrupt d) still = absurd still
still-told p q h r still = never p q h

still-holds : (r : Reply) (h : Bool) → IsStill r → core.holds_after r h ≡ h
still-holds (reply.Given a) h still = absurd still
still-holds (reply.Freed a) h still = absurd still
still-holds (reply.Corrupt d) h still = absurd still
still-holds r h still = refl

gives-so : (b h : Bool) → ((b && true) || (false && false) || (h && not (false && false))) ≡ cond b true h
gives-so true true = refl
gives-so true false = refl
gives-so false true = refl
gives-so false false = refl

frees-so : (b h : Bool) → ((false && false) || (b && false) || (h && not (b && true))) ≡ cond b false h
frees-so true true = refl
frees-so true false = refl
frees-so false true = refl
frees-so false false = refl

finds-so : (b h : Bool) → ((false && false) || (b && true) || (h && not (b && false))) ≡ cond b true h
finds-so true true = refl
finds-so true false = refl
finds-so false true = refl
finds-so false false = refl

module _ (table : Table) (rooms : List Known) where
  -- ---- whether it holds an object

  module _ (o : ℕ) where
    holds-step : (ds : List Done) (event : Event) (a : Act) (r : Reply) → event.act ≡ a → Meets table a r → holds_after o (core.holding ds o) (event, r) ≡ core.holding (told table rooms (event, r) ∷ ds) o
    holds-step ds event _ _ is (gave place x address) = rw is (gives-so (eqb x o) (core.holding ds o))
    holds-step ds event _ _ is (lacked place x k is_k) = rw is (still-told (eqb x o) false (core.holding ds o) reply.NoFrames tt ∙ sym (same-either (eqb x o) (core.holding ds o)))
    holds-step ds event _ _ is (freed x address) = rw is (frees-so (eqb x o) (core.holding ds o))
    holds-step ds event _ _ is (found x damage) = rw is (finds-so (eqb x o) (core.holding ds o))
    holds-step ds event _ _ is (wrote x word value) = rw is (still-told false false (core.holding ds o) reply.Wrote tt ∙ sym (same-either (eqb x o) (core.holding ds o)))
    holds-step ds event _ _ is (poked x offset byte) = rw is (still-told false false (core.holding ds o) reply.Poked tt ∙ sym (same-either (eqb x o) (core.holding ds o)))
    holds-step ds event a r is (quiet _ _ none) =
        let still = quiet-still r none in
        let h = core.holding ds o in
        let b = eqb (call_object (call_for table rooms event.cpu event.act)) o in
        still-told (is_alloc_of o event.act) (is_free_of o event.act) h r still ∙ sym (same-either b h) ∙ ap (λ x. cond b x h) (sym (still-holds r h still))

    pub holding-told : (own : List Answered) → All (IsMet table) own → holding o own ≡ core.holding (back table rooms own []) o
    holding-told own met = fold-back table rooms (λ ds. core.holding ds o) (holds_after o) holds-step own [] met

-- ---- where an object stands

-- an object of a cache at an address
abbrev pub spot_from : Option ℕ → Option ℕ → Option Spot
spot_from (Some k) (Some a) = Some (record { cache = k; address = a })
spot_from (Some k) None = None
spot_from None a = None

spot-given : (k : Option ℕ) (address : ℕ) → option_map (λ cache. record { cache = cache; address = address }) k ≡ spot_from k (Some address)
spot-given None address = refl
spot-given (Some k) address = refl

still-address : (r : Reply) (x : Option ℕ) → IsStill r → core.address_after r x ≡ x
still-address (reply.Given a) x still = absurd still
still-address r x still = refl

still-cache : (c : Call) (r : Reply) (x : Option ℕ) → IsStill r → core.cache_after c r x ≡ x
still-cache c (reply.Given a) x still = absurd still
still-cache c r x still = refl

module _ (s : State) (rooms : List Known) (m : Setup) (before : ℕ → Option BoardWord) (o : ℕ) where
  -- what the calls say of it
  abbrev pub spot_of_calls : List Done → Option Spot
  spot_of_calls ds = spot_from (core.cache_by before ds o) (core.address_by m before ds o)

  still-spot : (event : Event) (r : Reply) (x : Option Spot) → IsStill r → spot_after s o x (event, r) ≡ x
  still-spot event (reply.Given a) x still = absurd still
  still-spot event r x still = refl

  kept-spot : (b : Bool) (k a : Option ℕ) → spot_from k a ≡ spot_from (cond b k k) (cond b a a)
  kept-spot true k a = refl
  kept-spot false k a = refl

  spot-step : (ds : List Done) (event : Event) (a : Act) (r : Reply) → event.act ≡ a → Meets s.table a r → spot_after s o (spot_of_calls ds) (event, r) ≡ spot_of_calls (told s.table rooms (event, r) ∷ ds)
  spot-step ds event _ _ is (gave place x address) = rw is (by (eqb x o))
    where
      by : (b : Bool) → cond b (option_map (λ cache. record { cache = cache; address = address }) (named s place)) (spot_of_calls ds)
          ≡ spot_from (cond b (cache_named s.table place) (core.cache_by before ds o)) (cond b (Some address) (core.address_by m before ds o))
      by true = spot-given (named s place) address
      by false = refl
  spot-step ds event _ _ is (lacked place x k is_k) = rw is (kept-spot (eqb x o) (core.cache_by before ds o) (core.address_by m before ds o))
  spot-step ds event _ _ is (freed x address) = rw is (kept-spot (eqb x o) (core.cache_by before ds o) (core.address_by m before ds o))
  spot-step ds event _ _ is (found x damage) = rw is (kept-spot (eqb x o) (core.cache_by before ds o) (core.address_by m before ds o))
  spot-step ds event _ _ is (wrote x word value) = rw is (kept-spot (eqb x o) (core.cache_by before ds o) (core.address_by m before ds o))
  spot-step ds event _ _ is (poked x offset byte) = rw is (kept-spot (eqb x o) (core.cache_by before ds o) (core.address_by m before ds o))
  spot-step ds event a r is (quiet _ _ none) =
      let still = quiet-still r none in
      let c = call_for s.table rooms event.cpu event.act in
      let k = core.cache_by before ds o in
      let at = core.address_by m before ds o in
      still-spot event r (spot_of_calls ds) still ∙ kept-spot (eqb (call_object c) o) k at
      ∙ ap (λ x. spot_from (cond (eqb (call_object c) o) x k) (cond (eqb (call_object c) o) at at)) (sym (still-cache c r k still))
      ∙ ap (λ x. spot_from (cond (eqb (call_object c) o) (core.cache_after c r k) k) (cond (eqb (call_object c) o) x at)) (sym (still-address r at still))

  pub spot-told : (own : List Answered) → All (IsMet s.table) own → spot_under s o ≡ spot_of_calls [] → spot_by s o own ≡ spot_of_calls (back s.table rooms own [])
  spot-told own met here = ap (λ x. fold (spot_after s o) x own) here ∙ fold-back s.table rooms spot_of_calls (spot_after s o) spot-step own [] met

-- ---- how often an object was given and freed

module _ (table : Table) (rooms : List Known) (o : ℕ) where
  not-both : (b c : Bool) → cond (b && false) 1 0 ≡ one_if (false && c)
  not-both true c = refl
  not-both false c = refl

  both : (b : Bool) → cond (b && true) 1 0 ≡ one_if (true && b)
  both true = refl
  both false = refl

  still-given : (b c : Bool) (r : Reply) → IsStill r → cond (b && kinds.is_given r) 1 0 ≡ one_if (core.is_given r && c)
  still-given b c (reply.Given a) still = absurd still
  still-given b c r still = not-both b c

  still-freed : (b c : Bool) (r : Reply) → IsStill r → cond (b && kinds.is_freed r) 1 0 ≡ one_if (core.is_freed r && c)
  still-freed b c (reply.Freed a) still = absurd still
  still-freed b c r still = not-both b c

  given-one : (event : Event) (a : Act) (r : Reply) → event.act ≡ a → Meets table a r → cond (did_give o (event, r)) 1 0 ≡ one_if (core.is_given r && eqb (call_object (call_for table rooms event.cpu event.act)) o)
  given-one event _ _ is (gave place x address) = rw is (both (eqb x o))
  given-one event _ _ is (lacked place x k is_k) = rw is (not-both (eqb x o) (eqb x o))
  given-one event _ _ is (freed x address) = rw is refl
  given-one event _ _ is (found x damage) = rw is refl
  given-one event _ _ is (wrote x word value) = rw is refl
  given-one event _ _ is (poked x offset byte) = rw is refl
  given-one event a r is (quiet _ _ none) = still-given (is_alloc_of o event.act) (eqb (call_object (call_for table rooms event.cpu event.act)) o) r (quiet-still r none)

  freed-one : (event : Event) (a : Act) (r : Reply) → event.act ≡ a → Meets table a r → cond (did_free o (event, r)) 1 0 ≡ one_if (core.is_freed r && eqb (call_object (call_for table rooms event.cpu event.act)) o)
  freed-one event _ _ is (gave place x address) = rw is refl
  freed-one event _ _ is (lacked place x k is_k) = rw is refl
  freed-one event _ _ is (freed x address) = rw is (both (eqb x o))
  freed-one event _ _ is (found x damage) = rw is (not-both (eqb x o) (eqb x o))
  freed-one event _ _ is (wrote x word value) = rw is refl
  freed-one event _ _ is (poked x offset byte) = rw is refl
  freed-one event a r is (quiet _ _ none) = still-freed (is_free_of o event.act) (eqb (call_object (call_for table rooms event.cpu event.act)) o) r (quiet-still r none)

  pub given-told : (own : List Answered) → All (IsMet table) own → core.given_in o (back table rooms own []) ≡ times_given o own
  given-told own met = let all = count-back table rooms (core.given_in o) (did_give o) (λ ds event a r is met. ap (λ n. n + core.given_in o ds) (sym (given-one event a r is met))) own [] met in omega (arith, all)

  pub freed-told : (own : List Answered) (ds : List Done) → All (IsMet table) own → core.freed_in o (back table rooms own ds) ≡ times_freed o own + core.freed_in o ds
  freed-told own ds met = count-back table rooms (core.freed_in o) (did_free o) (λ ds event a r is met. ap (λ n. n + core.freed_in o ds) (sym (freed-one event a r is met))) own ds met
