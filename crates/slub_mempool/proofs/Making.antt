-- That a line was served, or spent its turns, by the parts of serving it.
use Rattle.std.proofs.Common.{◌≡◌, ℕ, ◌<◌, ◌++◌, [], ◌∷◌, true, false, List, length, is_some, refl, arith, Option, Some, None}
use Rattle.std.specs.List.{list_any}
use Rattle.std.specs.Prelude.{nat_le, nat_lt}
use Rattle.std.proofs.lemmas.Bool.Decides.{nat_tests}
use Rattle.slub_lists.specs.declared.lists.Held.{Held}
use Rattle.slub_lists.specs.Coherent.{held_under}
use Rattle.slub_slabinfo_text.specs.declared.client.CacheRefusal.{CacheRefusal}
use Rattle.slub_slabinfo_text.specs.declared.client.ClientAnswer.{ClientAnswer}
use Rattle.slub_slabinfo_text.specs.declared.client.ClientAnswer.TheVariants as answer
use Rattle.slub_slabinfo_text.specs.declared.client.ClientDone.{ClientDone}
use Rattle.slub_rounds.specs.Heap.{HeapState}
use Rattle.slub_rounds.specs.BulkLines.{SpendsTaking}
use Rattle.slub_rounds.specs.Reserves.{Fills, IsTurnedAway, Makes, PutsBack, Reserve, ServesMempool, ServesMput, SpendsMempool, has_number, is_of_cache, place_of_reserve, reserve_at}

-- all were given
pub made-all : (reserves : List Reserve) (fresh : Reserve) (refusal : Option CacheRefusal) (told : ClientAnswer) (left : List Reserve) → refusal ≡ None → told ≡ answer.Made → left ≡ reserves ++ fresh ∷ [] → Makes reserves fresh refusal told left
made-all reserves fresh None told left is made more = (made, more)
made-all reserves fresh (Some why) told left is made more = absurd (cc)

-- or one was refused
pub made-none : (reserves : List Reserve) (fresh : Reserve) (refusal : Option CacheRefusal) (why : CacheRefusal) (told : ClientAnswer) (left : List Reserve) → refusal ≡ Some why → told ≡ answer.Nothing why → left ≡ reserves → Makes reserves fresh refusal told left
made-none reserves fresh None why told left is nothing same = absurd (cc)
made-none reserves fresh (Some other) why told left is nothing same = let mine : other ≡ why = cc in rw mine (nothing, same)

no-place : (x : Option ℕ) → is_some x ≡ false → x ≡ None
no-place None is = refl
no-place (Some at) is = absurd (let never : true ≡ false = is in cc)

-- a reserve whose name is free, where there is room, is filled
pub fresh-served : (h : HeapState) (reserves : List Reserve) (fresh : Reserve) (done : ClientDone) (after : HeapState) (left : List Reserve) → is_some (place_of_reserve reserves fresh.name) ≡ false → length reserves < 8
    → Fills h reserves fresh done after left → ServesMempool h reserves fresh done after left
fresh-served h reserves fresh done after left free room fills =
    let none : place_of_reserve reserves fresh.name ≡ None = no-place (place_of_reserve reserves fresh.name) free in
    let few : nat_le 8 (length reserves) ≡ false = grind (arith, nat_tests, room) in
    rw none (rw few fills)

-- or its turns are spent
pub fresh-spent : (h : HeapState) (reserves : List Reserve) (fresh : Reserve) → is_some (place_of_reserve reserves fresh.name) ≡ false → length reserves < 8 → SpendsTaking h 0 fresh.cache fresh.numbers → SpendsMempool h reserves fresh
fresh-spent h reserves fresh free room spent = (no-place (place_of_reserve reserves fresh.name) free, room, spent)

-- an object that is put, and for which its reserve has no room
pub full-served : (h : HeapState) (reserves : List Reserve) (cpu : ℕ) (pool : List ℕ) (object at : ℕ) (held : Held) (done : ClientDone) (after : HeapState) (left : List Reserve) → place_of_reserve reserves pool ≡ Some at → held_under h.lists object ≡ Some held
    → is_of_cache h.lists (reserve_at reserves at) held.cache ≡ true → list_any (has_number object) reserves ≡ false → nat_lt (length (reserve_at reserves at).numbers) (reserve_at reserves at).min_nr ≡ false
    → PutsBack h cpu object done after → left ≡ reserves → ServesMput h reserves cpu pool object done after left
full-served h reserves cpu pool object at held done after left place here own none full back same = rw place (rw here (rw own (rw none (rw full (back, same)))))

-- or the turns of its free are spent
pub full-away : (h : HeapState) (reserves : List Reserve) (object at : ℕ) (held : Held) → held_under h.lists object ≡ Some held
    → is_of_cache h.lists (reserve_at reserves at) held.cache ≡ true → list_any (has_number object) reserves ≡ false → nat_lt (length (reserve_at reserves at).numbers) (reserve_at reserves at).min_nr ≡ false
    → IsTurnedAway h.lists reserves at object
full-away h reserves object at held here own none full = record { held = held; here = here; own = own; out = none; full = grind (arith, nat_tests, full) }
