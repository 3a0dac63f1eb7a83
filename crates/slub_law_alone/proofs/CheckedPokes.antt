-- A poke of an object of a checked cache: two turns.
use Rattle.std.proofs.Common.{◌≡◌, ℕ, ◌&&◌, cond, Bool, true, false, Option, Some, None, refl, ap, sym, ◌∙◌, subst, arith, ℤ, pos, int_le, int_lt, T, if◌then◌else◌}
use Rattle.std.specs.Prelude.{not, is_some, nat_lt, MatchOption, MatchBool}
use Rattle.std.specs.Option.{option_or}
use Rattle.std.proofs.lemmas.Bool.{false≢true, ltb-true}
use Rattle.slub_trace.specs.declared.reply.Reply.{Reply}
use Rattle.slub_trace.specs.declared.reply.Reply.TheVariants.{NotHeld, Poked, OutOfSlot, NotChecked}
use Rattle.slub_object_layout.specs.declared.layout.Layout.{Layout}
use Rattle.slub_red_zone.specs.State.{CheckedState, slab_of, objects_in}
use Rattle.slub_red_zone.specs.Objects.{KeepsObjects}
use Rattle.slub_red_zone.specs.Steps.{IsOffset, with_byte, place_of}
use Rattle.slub_red_zone.proofs.Objects.{written-objects}
use Rattle.slub_lists.specs.declared.lists.Held.{Held}
use Rattle.slub_lists.specs.State.{State}
use Rattle.slub_lists.specs.Alloc.{checked_of}
use Rattle.slub_lists.specs.Checked.{with_checked}
use Rattle.slub_lists.specs.Words.{Pokes, PokesChecked, outside, inside, known_to, freed_by}
use Rattle.slub_lists.proofs.CheckedFrees.{the-slabs}
use Rattle.slub_lists.proofs.CheckedTaking.{with-checked-same}
use Rattle.slub_core.specs.declared.call.Call.{Call}
use Rattle.slub_core.specs.declared.call.CallKind.TheVariants.{Poke}
use Rattle.slub_core.specs.declared.local.Known.{Known}
use Rattle.slub_core.specs.declared.spot.Spot.TheVariants.{InChecked}
use Rattle.slub_core.specs.declared.spot.CheckedSpot.TheVariants.{GiveChecked}
use Rattle.slub_core.specs.Calls.{call_kind, call_object, call_offset, call_byte}
use Rattle.slub_core.specs.Setup.{Setup, node_lock}
use Rattle.slub_core.specs.World.{World, Checked, update}
use Rattle.slub_core.specs.Local.{Local, Change, at}
use Rattle.slub_core.specs.Checked.{is_offset}
use Rattle.slub_core.specs.Replies.{names_object}
use Rattle.slub_core.specs.Steps.{told_at_once}
use Rattle.slub_core.specs.Run.{System}
use Rattle.slub_law_opening.specs.Opening.{Beside, setup_of}
use Rattle.slub_law_alone.specs.Alone.{worker_at, known_at, IsAtRest, IsNext}
use Rattle.slub_law_alone.specs.Ready.{IsReady}
use Rattle.slub_law_alone.specs.CheckedAlone.{PokesAlone, PokesAreStores, held_known}
use Rattle.slub_law_alone.proofs.CheckedTurns.{asking}
use Rattle.slub_law_alone.proofs.CheckedUses.{unchanged, replies_kept, known_kept, whole_of, call_is, sound}
use Rattle.slub_law_alone.proofs.NewSlabSearch.{change}
use Rattle.slub_law_alone.proofs.Ready.{rests_ready}
use Rattle.slub_law_alone.proofs.Start.{has_object}
use Rattle.slub_law_alone.proofs.Uses.{takes, held-by}

-- a poke that takes a step is of a checked cache
poke_told : (z h : Bool) → cond {A = Option Reply} z (Some NotHeld) (cond {A = Option Reply} (not h) (Some NotChecked) None) ≡ None → h ≡ true
poke_told true h e = absurd (cc e)
poke_told false true e = refl
poke_told false false e = absurd (cc e)

-- ---- offsets in a slot, as a test and as a fact

is_true : (b : Bool) → b ≡ true → T b
is_true true e = tt
is_true false e = absurd (false≢true e)

true_is : (b : Bool) → T b → b ≡ true
true_is true t = refl
true_is false t = absurd t

both_true : (a b : Bool) → a && b ≡ true → (a ≡ true) × (b ≡ true)
both_true true b e = (refl, e)
both_true false b e = absurd (false≢true e)

and_true : (a b : Bool) → a ≡ true → b ≡ true → a && b ≡ true
and_true true b a e = e
and_true false b a e = absurd (false≢true a)

offset_in : (layout : Layout) (offset : ℤ) → is_offset layout offset ≡ true → IsOffset layout offset
offset_in layout offset e =
    let h = both_true (int_le (pos 0) (place_of layout offset)) (int_lt (place_of layout offset) (pos layout.size)) e in
    (record { le = is_true _ h.0 }, record { lt = is_true _ h.1 })

offset_out : (layout : Layout) (offset : ℤ) → is_offset layout offset ≡ false → ¬ IsOffset layout offset
offset_out layout offset e is = false≢true (sym e ∙ and_true (int_le (pos 0) (place_of layout offset)) (int_lt (place_of layout offset) (pos layout.size)) (true_is _ is.0.le) (true_is _ is.1.lt))

-- what a worker holds, the lists know
pub knows_held : (opening : World) (s : State) (b : Beside) (system : System) (x : ℕ) (call : Call) → IsAtRest opening s b system → IsNext system x call → call_kind call ≡ Poke → (known_at (worker_at system x) call).held ≡ true
    → known_to s (worker_at system x).worker (call_object call) ≡ Some (held_known (worker_at system x).worker (known_at (worker_at system x) call))
knows_held opening s b system x call rest next is held_it =
    let l = worker_at system x in
    let has = has_object opening s b system x call rest next (ap names_object is) held_it in
    ap (λ h. option_or h (freed_by s l.worker (call_object call))) (held-by s l.worker (call_object call) (known_at l call) has.named)

module _ (opening : World) (s : State) (b : Beside) (system : System) (x : ℕ) (call : Call) (rest : IsReady opening s b system x) (next : IsNext system x call) (c : CheckedState) (was : checked_of s (known_at (worker_at system x) call).cache ≡ Some c)
    (knows : known_to s (worker_at system x).worker (call_object call) ≡ Some (held_known (worker_at system x).worker (known_at (worker_at system x) call))) where
  abbrev m : Setup
  m = setup_of s b

  abbrev l : Local
  l = worker_at system x

  abbrev o : Known
  o = known_at l call

  abbrev k : ℕ
  k = o.cache

  abbrev q : Local
  q = asking l call k

  abbrev held : Held
  held = held_known l.worker o

  -- the byte lies in the slot, and the slab is there
  abbrev in_slot : Call → Bool
  in_slot call = is_offset c.layout (call_offset call)

  abbrev is_there : Bool
  is_there = nat_lt o.index (objects_in (slab_of c o.frame))

  abbrev reply_by : Bool → Bool → Reply
  reply_by a d = if a then (if d then Poked else NotHeld) else OutOfSlot

  abbrev slabs_by : Call → Bool → Bool → CheckedState
  slabs_by call a d = if a && d then with_byte c (record { frame = o.frame; index = o.index }) (call_offset call) (call_byte call) else c

  keeps : (a d : Bool) → is_there ≡ d → KeepsObjects c (slabs_by call a d)
  keeps true true e = let below = ltb-true o.index (objects_in (slab_of c o.frame)) e in written-objects c o.frame (sound opening s b system x call rest next c was) (omega arith) _
  keeps true false e = unchanged c
  keeps false d e = unchanged c

  pokes_slabs : (a d : Bool) → in_slot call ≡ a → is_there ≡ d → PokesChecked s c held (call_offset call) (call_byte call) (reply_by a d) (with_checked s k (slabs_by call a d))
  pokes_slabs true true a d = inside (offset_in c.layout (call_offset call) a) (subst (λ z. MatchBool z ((Poked ≡ Poked) × (with_checked s k (slabs_by call true true) ≡ with_checked s k (slabs_by call true true))) ((Poked ≡ NotHeld) × (with_checked s k (slabs_by call true true) ≡ s))) (sym d) (refl, refl))
  pokes_slabs true false a d = inside (offset_in c.layout (call_offset call) a) (subst (λ z. MatchBool z ((NotHeld ≡ Poked) × (with_checked s k c ≡ with_checked s k (slabs_by call true true))) ((NotHeld ≡ NotHeld) × (with_checked s k c ≡ s))) (sym d) (refl, with-checked-same s k c was))
  pokes_slabs false d a e = outside (offset_out c.layout (call_offset call) a) refl (with-checked-same s k c was)

  abbrev reply : Reply
  reply = reply_by (in_slot call) is_there

  abbrev slabs : CheckedState
  slabs = slabs_by call (in_slot call) is_there

  pokes : Pokes s l.worker (call_object call) (call_offset call) (call_byte call) reply (with_checked s k slabs)
  pokes = subst (λ h. MatchOption h ((reply ≡ NotHeld) × (with_checked s k slabs ≡ s)) (λ (held : Held). MatchOption (checked_of s held.cache) ((reply ≡ NotChecked) × (with_checked s k slabs ≡ s)) (λ slabs_there. PokesChecked s slabs_there held (call_offset call) (call_byte call) reply (with_checked s k slabs)))) (sym knows)
      (subst (λ h. MatchOption h ((reply ≡ NotChecked) × (with_checked s k slabs ≡ s)) (λ slabs_there. PokesChecked s slabs_there held (call_offset call) (call_byte call) reply (with_checked s k slabs))) (sym was) (pokes_slabs (in_slot call) is_there refl refl))

  poke_alone : call_kind call ≡ Poke → PokesAlone opening s b system x call
  poke_alone is = record {
    reply = reply;
    after = with_checked s k slabs;
    pokes = pokes;
    replies = replies_kept opening s b system x call rest next k c slabs was (keeps (in_slot call) is_there refl) 1 reply (whole_of opening s b system x call rest next c was Poke slabs reply is refl refl refl (ap by_call (call_is opening s b system x call rest next c was)));
    known = known_kept opening s b system x call rest next k c slabs was (keeps (in_slot call) is_there refl) 1 reply (whole_of opening s b system x call rest next c was Poke slabs reply is refl refl refl (ap by_call (call_is opening s b system x call rest next c was)));
  }
    where
      by_call : Call → Change
      by_call call = change (update system.value (node_lock k) (Checked (slabs_by call (in_slot call) is_there))) (at q (InChecked GiveChecked Poke)) (Some (reply_by (in_slot call) is_there))

pub pokes_done : PokesAreStores
pokes_done opening s b system x call rest next is knows =
    let k = known_at (worker_at system x) call in
    let there = poke_told _ (is_some (checked_of s k.cache)) (sym (ap (told_at_once (setup_of s b) k call) is) ∙ takes opening s b system x call rest next) in
    let c = the-slabs (checked_of s k.cache) there in
    poke_alone opening s b system x call (rests_ready opening s b system x call rest next) next c.0 c.1 knows is
