-- A write and a read of an object of a checked cache: two turns each.
use Rattle.std.proofs.Common.{◌≡◌, ℕ, suc, ◌<◌, true, false, get_or, set, Option, Some, inl, inr, refl, ap, sym, ◌∙◌, subst, arith}
use Rattle.std.specs.Prelude.{is_some}
use Rattle.std.specs.Option.{option_map_or}
use Rattle.std.proofs.lemmas.Bool.{cases_eq}
use Rattle.std.proofs.lemmas.List.{set-get_or}
use Rattle.slub_trace.specs.declared.reply.Reply.{Reply}
use Rattle.slub_trace.specs.declared.reply.Reply.TheVariants.{Wrote, Value}
use Rattle.slub_red_zone.specs.declared.checked.Slot.{Slot}
use Rattle.slub_red_zone.specs.State.{CheckedState, slab_of, objects_in}
use Rattle.slub_red_zone.specs.Objects.{KeepsObjects}
use Rattle.slub_red_zone.specs.Sound.{IsSound}
use Rattle.slub_red_zone.specs.Steps.{with_word, word_of}
use Rattle.slub_red_zone.proofs.Objects.{written-objects}
use Rattle.slub_lists.specs.declared.lists.Held.{Held}
use Rattle.slub_lists.specs.State.{State}
use Rattle.slub_lists.specs.Alloc.{cache_of, checked_of, HasLayout}
use Rattle.slub_lists.specs.Checked.{with_checked}
use Rattle.slub_lists.specs.Coherent.{held_under}
use Rattle.slub_lists.specs.Places.{layout_at}
use Rattle.slub_lists.specs.Words.{is_word}
use Rattle.slub_lists.specs.Words as words
use Rattle.slub_lists.proofs.CheckedFrees.{the-slabs}
use Rattle.slub_lists.proofs.CheckedSlabs.{was-checked}
use Rattle.slub_lists.proofs.CheckedTaking.{held-index, with-checked-same}
use Rattle.slub_lists.proofs.ObjectWords.{writes-word, reads-word, slab-read}
use Rattle.slub_core.specs.declared.call.Call.{Call}
use Rattle.slub_core.specs.declared.call.CallKind.{CallKind}
use Rattle.slub_core.specs.declared.call.CallKind.TheVariants.{Write, Read}
use Rattle.slub_core.specs.declared.local.Known.{Known}
use Rattle.slub_core.specs.declared.spot.Spot.TheVariants.{Between, InChecked}
use Rattle.slub_core.specs.declared.spot.CheckedSpot.TheVariants.{LockChecked, DoChecked, GiveChecked}
use Rattle.slub_core.specs.Calls.{call_kind, call_cpu, call_cache, call_object, call_word, call_value}
use Rattle.slub_core.specs.Setup.{Setup, node_lock}
use Rattle.slub_core.specs.World.{World, LockValue, Checked, update, world_of}
use Rattle.slub_core.specs.Local.{Local, Change, at, answered, call_of, no_call}
use Rattle.slub_core.specs.Checked.{slabs_in, do_checked}
use Rattle.slub_core.specs.Replies.{names_object}
use Rattle.slub_core.specs.Steps.{at_once, told_at_once, first_spot, first_cpu, cache_for, rested}
use Rattle.slub_core.specs.Run.{System, idle}
use Rattle.slub_core.proofs.Update.{update_at, update_other}
use Rattle.slub_law_opening.specs.Opening.{Beside, setup_of}
use Rattle.slub_law_opening.specs.Rests.{IsBetween, named as named_in}
use Rattle.slub_law_opening.proofs.Names.{as_held}
use Rattle.slub_law_alone.specs.Alone.{alone, worker_at, known_at, known_after, IsNext, Replies}
use Rattle.slub_law_alone.specs.Ready.{IsReady}
use Rattle.slub_law_alone.specs.CheckedAlone.{CheckedWritesAreStores, CheckedReadsAreLoads}
use Rattle.slub_law_alone.specs.Laws.{WritesAlone, ReadsAlone}
use Rattle.slub_law_alone.proofs.CheckedEnds.{rests_between, told_between, names_same, locked_setup, locked_rest}
use Rattle.slub_law_alone.proofs.CheckedTurns.{asking, begin_checked, lock_free, checked_few, slabs_guarded, two_turns}
use Rattle.slub_law_alone.proofs.Ended.{replies_of}
use Rattle.slub_law_alone.proofs.Knows.{known_ends}
use Rattle.slub_law_alone.proofs.FastFree.{layout_of}
use Rattle.slub_law_alone.proofs.NewSlabSearch.{change}
use Rattle.slub_law_alone.proofs.Ready.{rests_ready, IsReadyStart, ready_starts, ready_object}
use Rattle.slub_law_alone.proofs.Start.{HasObject}
use Rattle.slub_law_alone.proofs.Turns.{machine}
use Rattle.slub_law_alone.proofs.Uses.{used, live_match, held-by}

-- a value that is what it was
pub update_was : {A : Type 0} (g : ℕ → A) (n : ℕ) (v : A) → g n ≡ v → update g n v ≡ g
update_was g n v was = same (λ j. elim (cases_eq j n) [
  | inl at ↦ update_at g n v j at ∙ sym (ap g at ∙ was)
  | inr away ↦ update_other g n v j away
])
  where
    same : ((j : ℕ) → update g n v j ≡ g j) → update g n v ≡ g
    same h = λ i j. h j i

pub has_layout : (s : State) (k : ℕ) → is_some (cache_of s k) ≡ true → HasLayout s k (layout_at s k)
has_layout s k lives = live_match s k (λ live. live.layout ≡ layout_at s k) lives (λ live e. sym (layout_of s k live e))

-- ---- a call after which the worker knows what it knew

module _ (opening : World) (s : State) (b : Beside) (system : System) (x : ℕ) (call : Call) (rest : IsReady opening s b system x) (next : IsNext system x call) (k : ℕ) (c e : CheckedState) (was : checked_of s k ≡ Some c) (keeps : KeepsObjects c e) (n : ℕ) (reply : Reply)
    (whole : alone (setup_of s b) x (suc n) system ≡ machine system.words (update system.value (node_lock k) (Checked e)) (set system.locals x (rested (setup_of s b) (answered (at (asking (worker_at system x) call k) Between) reply)))) where
  abbrev told : Local
  told = answered (at (asking (worker_at system x) call k) Between) reply

  begin : IsReadyStart opening s b system x call
  begin = ready_starts opening s b system x call rest next

  between : IsBetween (world_of (setup_of s b) system.value system.words).setup (rested (setup_of s b) told)
  between = rests_between (setup_of s b) (world_of (setup_of s b) system.value system.words).setup told
      (told_between (world_of (setup_of s b) system.value system.words).setup (worker_at system x) call k reply begin.between (subst (λ (m : Setup). call_cpu call < m.cpus) (sym rest.rests.rests.setup) begin.may.cpu))

  names : (o : ℕ) → held_under s o ≡ named_in (world_of (setup_of s b) system.value system.words) (set system.locals x (rested (setup_of s b) told)) o
  names o = rest.rests.rests.named o ∙ sym (names_same (setup_of s b) (world_of (setup_of s b) system.value system.words) system.locals x told refl refl refl o)

  pub replies_kept : Replies opening s b system x call (suc n) reply (with_checked s k e) b
  replies_kept =
      replies_of opening s (with_checked s k e) b b system x (suc n) call reply told system.words (update system.value (node_lock k) (Checked e)) next whole refl refl refl refl
      (locked_setup opening s b system x rest next.there k c e was n told whole keeps.slabs.shape keeps.slabs.flags s.board s.gone s.live refl refl refl rest.lists.accounted between names (λ o held is plain. is))
      (locked_rest opening s b system x rest next.there k c e was n told whole keeps.slabs.shape keeps.slabs.flags s.board s.gone s.live refl refl refl rest.lists.accounted between names (λ o held is plain. is))

  pub known_kept : known_after (setup_of s b) system x (suc n) ≡ (worker_at system x).known
  known_kept = known_ends s b system x (suc n) told system.words (update system.value (node_lock k) (Checked e)) next.there whole refl

-- ---- writes and reads

pub unchanged : (c : CheckedState) → KeepsObjects c c
unchanged c = record { slabs = record { layout = refl; flags = refl; cache = refl; shape = λ f. refl }; objects = λ f i. refl; reports = refl; listed = refl }

module _ (opening : World) (s : State) (b : Beside) (system : System) (x : ℕ) (call : Call) (rest : IsReady opening s b system x) (next : IsNext system x call) (c : CheckedState) (was : checked_of s (known_at (worker_at system x) call).cache ≡ Some c) where
  abbrev m : Setup
  m = setup_of s b

  abbrev l : Local
  l = worker_at system x

  abbrev o : Known
  o = known_at l call

  abbrev k : ℕ
  k = o.cache

  abbrev slot : Slot
  slot = record { frame = o.frame; index = o.index }

  abbrev q : Local
  q = asking l call k

  begins_at : IsReadyStart opening s b system x call
  begins_at = ready_starts opening s b system x call rest next

  pub call_is : call_of l ≡ call
  call_is = ap (λ todo. get_or todo 0 no_call) next.todo

  pub guarded : system.value (node_lock k) ≡ Checked c
  guarded = slabs_guarded opening s b system rest k c was

  pub sound : IsSound c
  sound = (was-checked s k c c was rest.lists.shaped.checked).sound

  free : get_or system.words (node_lock k) 0 ≡ 0
  free = lock_free opening s b system rest (node_lock k) (omega (arith, checked_few opening s b system rest k c was))

  checks : m.checks k ≡ true
  checks = ap is_some was

  from_start : machine system.words system.value (set system.locals x l) ≡ system
  from_start = ap (machine system.words system.value) (set-get_or system.locals x idle)

  -- what is done at once
  does_kind : (kind : CallKind) (then_is : Change) → do_checked m system.value (at q (InChecked DoChecked kind)) kind c ≡ then_is → at_once m false system.value (at q (InChecked DoChecked kind)) (InChecked DoChecked kind) ≡ then_is
  does_kind kind then_is is = ap (λ v. do_checked m system.value (at q (InChecked DoChecked kind)) kind (slabs_in (m.layout k) v)) guarded ∙ is

  -- the two turns, after which the worker is another
  pub whole_to : (kind : CallKind) (e : CheckedState) (r : Local) (reply : Reply) → call_kind call ≡ kind → cache_for m o (call_cache call) kind ≡ k → first_cpu kind (call_cpu call) ≡ call_cpu call → first_spot kind true o.held ≡ InChecked LockChecked kind → r.cache ≡ k
      → do_checked m system.value (at q (InChecked DoChecked kind)) kind c ≡ change (update system.value (node_lock k) (Checked e)) (at r (InChecked GiveChecked kind)) (Some reply)
      → alone m x 2 system ≡ machine system.words (update system.value (node_lock k) (Checked e)) (set system.locals x (rested m (answered (at r Between) reply)))
  whole_to kind e r reply is cache cpu spot same does = ap (alone m x 2) (sym from_start)
      ∙ two_turns m system.words system.value (update system.value (node_lock k) (Checked e)) system.locals x l q r kind reply next.there (begin_checked m l call next.calls kind k begins_at.between.between next.todo is cache cpu checks spot) free same (does_kind kind _ does)

  -- or knows what it knew
  pub whole_of : (kind : CallKind) (e : CheckedState) (reply : Reply) → call_kind call ≡ kind → cache_for m o (call_cache call) kind ≡ k → first_cpu kind (call_cpu call) ≡ call_cpu call → first_spot kind true o.held ≡ InChecked LockChecked kind
      → do_checked m system.value (at q (InChecked DoChecked kind)) kind c ≡ change (update system.value (node_lock k) (Checked e)) (at q (InChecked GiveChecked kind)) (Some reply)
      → alone m x 2 system ≡ machine system.words (update system.value (node_lock k) (Checked e)) (set system.locals x (rested m (answered (at q Between) reply)))
  whole_of kind e reply is cache cpu spot does = whole_to kind e q reply is cache cpu spot refl does

  -- the worker holds the object, and the word lies in it
  module _ (held_it : o.held ≡ true) (names : names_object (call_kind call) ≡ true) (fits : is_word (layout_at s k) (call_word call) ≡ true) where
    abbrev held : Held
    held = as_held l.worker o

    has : HasObject s system x call
    has = ready_object opening s b system x call rest next names held_it

    known : words.held_by s l.worker (call_object call) ≡ Some held
    known = held-by s l.worker (call_object call) o has.named

    layout_is : HasLayout s k (layout_at s k)
    layout_is = has_layout s k has.lives

    some : 0 < objects_in (slab_of c o.frame)
    some = omega (arith, held-index s (call_object call) held c has.named was begins_at.consistent)

    abbrev written : CheckedState
    written = with_word c slot (call_word call) (call_value call)

    write_locked : call_kind call ≡ Write → WritesAlone opening s b system x call 2
    write_locked is = record {
      reply = Wrote;
      after = with_checked s k written;
      writes = writes-word s l.worker (call_object call) (call_word call) held (layout_at s k) known layout_is (call_value call) (with_checked s k written) fits (sym (ap in_lists was));
      replies = replies_kept opening s b system x call rest next k c written was (written-objects c o.frame sound some _) 1 Wrote (whole_of Write written Wrote is refl refl refl (ap by_call call_is));
      known = known_kept opening s b system x call rest next k c written was (written-objects c o.frame sound some _) 1 Wrote (whole_of Write written Wrote is refl refl refl (ap by_call call_is));
    }
      where
        in_lists : Option CheckedState → State
        in_lists o = option_map_or (λ slabs. with_checked s k (with_word slabs slot (call_word call) (call_value call))) o (record s { memory = set s.memory (words.word_at (layout_at s k) held (call_word call)) (call_value call) })

        by_call : Call → Change
        by_call call = change (update system.value (node_lock k) (Checked (with_word c slot (call_word call) (call_value call)))) (at q (InChecked GiveChecked Write)) (Some Wrote)

    abbrev found : ℕ
    found = word_of c slot (call_word call)

    read_locked : call_kind call ≡ Read → ReadsAlone opening s b system x call 2
    read_locked is = record {
      reply = Value found;
      reads = reads-word s l.worker (call_object call) (call_word call) held (layout_at s k) known layout_is found fits (slab-read s (layout_at s k) held (call_word call) c was);
      replies = subst (λ t. Replies opening s b system x call 2 (Value found) t b) (with-checked-same s k c was)
          (replies_kept opening s b system x call rest next k c c was (unchanged c) 1 (Value found) (whole_of Read c (Value found) is refl refl refl (ap by_call call_is ∙ ap by_value (sym (update_was system.value (node_lock k) (Checked c) guarded)))));
      known = known_kept opening s b system x call rest next k c c was (unchanged c) 1 (Value found) (whole_of Read c (Value found) is refl refl refl (ap by_call call_is ∙ ap by_value (sym (update_was system.value (node_lock k) (Checked c) guarded))));
    }
      where
        by_call : Call → Change
        by_call call = change system.value (at q (InChecked GiveChecked Read)) (Some (Value (word_of c slot (call_word call))))

        by_value : (ℕ → LockValue) → Change
        by_value value = change value (at q (InChecked GiveChecked Read)) (Some (Value found))

pub checked_stores : CheckedWritesAreStores
checked_stores opening s b system x call rest next is some =
    let u = used opening s b system x call rest next (ap (told_at_once (setup_of s b) (known_at (worker_at system x) call) call) is) in
    let c = the-slabs (checked_of s (known_at (worker_at system x) call).cache) some in
    write_locked opening s b system x call (rests_ready opening s b system x call rest next) next c.0 c.1 u.0 (ap names_object is) u.1 is

pub checked_loads : CheckedReadsAreLoads
checked_loads opening s b system x call rest next is some =
    let u = used opening s b system x call rest next (ap (told_at_once (setup_of s b) (known_at (worker_at system x) call) call) is) in
    let c = the-slabs (checked_of s (known_at (worker_at system x) call).cache) some in
    read_locked opening s b system x call (rests_ready opening s b system x call rest next) next c.0 c.1 u.0 (ap names_object is) u.1 is
