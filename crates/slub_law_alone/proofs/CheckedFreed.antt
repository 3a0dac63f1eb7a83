-- A free of an object of a checked cache that the worker holds: it is found damaged, or taken back, and its slab stays.
use Rattle.std.proofs.Common.{◌≡◌, ℕ, ◌-◌, ◌<◌, ◌≤◌, ◌&&◌, ◌==◌, Bool, true, false, List, length, get_or, set, Option, Some, None, Ok, Err, inl, inr, refl, ap, sym, ◌∙◌, subst, arith, if◌then◌else◌}
use Rattle.std.specs.Prelude.{is_some, nat_le, MatchOption, MatchBool}
use Rattle.std.proofs.lemmas.Bool.{cases_eq, false≢true, eq-eqb, eqb-true, leb-true, le-leb}
use Rattle.std.proofs.lemmas.List.{get_or-set_same, get_or-set_other, set-get_or, length-set}
use Rattle.std.proofs.lemmas.List.Elements.{All-set}
use Rattle.slub_trace.specs.declared.reply.Reply.{Reply}
use Rattle.slub_trace.specs.declared.reply.Reply.TheVariants.{Freed, Corrupt, NotHeld}
use Rattle.slub_object_layout.specs.Layout.{address_of}
use Rattle.slub_red_zone.specs.declared.checked.Slot.{Slot}
use Rattle.slub_trace.specs.declared.damage.Damage.{Damage}
use Rattle.slub_red_zone.specs.State.{CheckedState, slab_of, objects_in, IsUsed}
use Rattle.slub_red_zone.specs.Objects.{TakesObject}
use Rattle.slub_red_zone.specs.Steps.{IsSpare, damage_of_used, with_taken as slab_taken, without_slab}
use Rattle.slub_red_zone.proofs.Objects.{taken-object}
use Rattle.slub_lists.specs.declared.lists.Held.{Held}
use Rattle.slub_lists.specs.State.{State}
use Rattle.slub_lists.specs.Alloc.{cache_of, checked_of}
use Rattle.slub_lists.specs.Checked.{FreesChecked, with_checked, kept_by}
use Rattle.slub_lists.specs.Coherent.{IsAccounted, held_under}
use Rattle.slub_lists.specs.Free.{FreesUnchecked, is_freeable, with_taken, with_gone}
use Rattle.slub_lists.specs.Freeing.{Frees, FreesHeld}
use Rattle.slub_lists.specs.Places.{layout_at}
use Rattle.slub_lists.proofs.CheckedTaking.{held-used, with-checked-same}
use Rattle.slub_lists.proofs.Taking.{taken-accounted}
use Rattle.slub_core.specs.declared.call.Call.{Call}
use Rattle.slub_core.specs.declared.call.CallKind.TheVariants.{Free}
use Rattle.slub_core.specs.declared.local.Known.{Known}
use Rattle.slub_core.specs.declared.spot.Spot.TheVariants.{Between, InChecked}
use Rattle.slub_core.specs.declared.spot.CheckedSpot.TheVariants.{LockChecked, DoChecked, GiveChecked, LockRun}
use Rattle.slub_core.specs.Calls.{call_cpu, call_object, call_place}
use Rattle.slub_core.specs.Setup.{Setup, node_lock}
use Rattle.slub_core.specs.World.{World, LockValue, Checked, update, world_of}
use Rattle.slub_core.specs.Local.{Local, Change, at, answered, loses}
use Rattle.slub_core.specs.Checked.{is_spare, run_at, took_back}
use Rattle.slub_core.specs.Replies.{names_object}
use Rattle.slub_core.specs.Steps.{first_spot, rested}
use Rattle.slub_core.specs.Run.{System}
use Rattle.slub_law_opening.specs.Opening.{Beside, setup_of}
use Rattle.slub_law_opening.specs.Rests.{IsBetween, named as named_in}
use Rattle.slub_law_opening.proofs.Names.{as_held}
use Rattle.slub_law_alone.specs.Alone.{alone, worker_at, known_at, IsNext, Replies}
use Rattle.slub_law_alone.specs.Ready.{IsReady}
use Rattle.slub_law_alone.specs.Laws.{FreesAlone}
use Rattle.slub_law_alone.specs.CheckedAlone.{IsCheckedFree, BecomesSpare, slot_known, DamagedFreesAreTold, CheckedFreesAreTaken}
use Rattle.slub_law_alone.proofs.CheckedEnds.{rests_between, locked_setup, locked_rest}
use Rattle.slub_law_alone.proofs.CheckedTurns.{asking}
use Rattle.slub_law_alone.proofs.CheckedUses.{update_was, unchanged, replies_kept, known_kept, whole_of, whole_to, guarded, sound}
use Rattle.slub_law_alone.proofs.Ended.{replies_of}
use Rattle.slub_law_alone.proofs.Knows.{known_ends, knows_damaged, knows_freed}
use Rattle.slub_law_alone.proofs.FastFree.{layout_of}
use Rattle.slub_law_alone.proofs.Names.{named_other, named_lost}
use Rattle.slub_law_alone.proofs.NewSlabSearch.{change}
use Rattle.slub_law_alone.proofs.Ready.{IsReadyStart, ready_starts, ready_object}
use Rattle.slub_law_alone.proofs.Start.{HasObject}
use Rattle.slub_law_alone.proofs.Turns.{machine}
use Rattle.slub_law_alone.proofs.Uses.{live_match}
use Rattle.slub_law_alone.proofs.Workers.{IsWithCalls, rested_calls}

-- ---- spare slabs, as a test and as a fact

pub spare_true : (m : Setup) (c : CheckedState) (k f : ℕ) → IsSpare c f (m.layout k).min_partial → is_spare m c k f ≡ true
spare_true m c k f spare = ap (λ z. z && nat_le (m.layout k).min_partial (length c.listed)) (eq-eqb (length (slab_of c f).free) (objects_in (slab_of c f)) spare.all_free) ∙ le-leb (m.layout k).min_partial (length c.listed) spare.enough

pub spare_false : (m : Setup) (c : CheckedState) (k f : ℕ) → ¬ IsSpare c f (m.layout k).min_partial → is_spare m c k f ≡ false
spare_false m c k f none = by (length (slab_of c f).free == objects_in (slab_of c f)) (nat_le (m.layout k).min_partial (length c.listed)) refl refl
  where
    by : (a d : Bool) → (length (slab_of c f).free == objects_in (slab_of c f)) ≡ a → nat_le (m.layout k).min_partial (length c.listed) ≡ d → a && d ≡ false
    by true true a d = absurd (none (record { all_free = eqb-true _ _ a; enough = leb-true (m.layout k).min_partial (length c.listed) d }))
    by true false a d = refl
    by false d a e = refl

-- ---- on lists

-- the free of an object of a checked cache that the worker holds is that of the lists
pub frees_checked : (s : State) (cpu worker object : ℕ) (k : Known) (reply : Reply) (after : State) (c : CheckedState) → held_under s object ≡ Some (as_held worker k) → is_some (cache_of s k.cache) ≡ true → checked_of s k.cache ≡ Some c
    → FreesChecked s (layout_at s k.cache) c worker object (as_held worker k) reply after → Frees s cpu worker object reply after
frees_checked s cpu worker object k reply after c named lives was frees =
    subst (λ o. MatchOption o ((reply ≡ NotHeld) × (after ≡ s)) (λ (held : Held). MatchBool (is_freeable worker held.worker) (FreesHeld s cpu worker object held reply after) ((reply ≡ NotHeld) × (after ≡ s)))) (sym named)
    (subst (λ z. MatchBool z (FreesHeld s cpu worker object (as_held worker k) reply after) ((reply ≡ NotHeld) × (after ≡ s))) (sym (eq-eqb worker worker refl))
    (live_match s k.cache (λ live. MatchOption (checked_of s k.cache) (FreesUnchecked s live.layout cpu worker object (as_held worker k) reply after) (λ slabs. FreesChecked s live.layout slabs worker object (as_held worker k) reply after)) lives (λ live e.
    subst (λ o. MatchOption o (FreesUnchecked s live.layout cpu worker object (as_held worker k) reply after) (λ slabs. FreesChecked s live.layout slabs worker object (as_held worker k) reply after)) (sym was)
    (subst (λ layout. FreesChecked s layout c worker object (as_held worker k) reply after) (layout_of s k.cache live e) frees))))

module _ (opening : World) (s : State) (b : Beside) (system : System) (x : ℕ) (call : Call) (rest : IsReady opening s b system x) (next : IsNext system x call) (c : CheckedState) (is : IsCheckedFree s (worker_at system x) call c) where
  abbrev m : Setup
  m = setup_of s b

  abbrev w : World
  w = world_of m system.value system.words

  abbrev l : Local
  l = worker_at system x

  abbrev o : Known
  o = known_at l call

  abbrev k : ℕ
  k = o.cache

  abbrev slot : Slot
  slot = slot_known o

  abbrev q : Local
  q = asking l call k

  abbrev held : Held
  held = as_held l.worker o

  begin : IsReadyStart opening s b system x call
  begin = ready_starts opening s b system x call rest next

  pub free_has : HasObject s system x call
  free_has = ready_object opening s b system x call rest next (ap names_object is.kind) is.held

  pub free_spot : first_spot Free true o.held ≡ InChecked LockChecked Free
  free_spot = ap (first_spot Free true) is.held

  -- ---- a damaged object

  module _ (damage : Damage) (found : damage_of_used c slot ≡ Some damage) where
    told_damage : Frees s (call_cpu call) l.worker (call_object call) (Corrupt damage) s
    told_damage = frees_checked s (call_cpu call) l.worker (call_object call) o (Corrupt damage) s c free_has.named free_has.lives is.checked (Err damage, c, (found, refl), (refl, sym still))
      where
        still : kept_by s (call_object call) l.worker held ≡ s
        still = ap (λ (board : List (Option Held)). record s { board = board }) (ap (set s.board (call_object call)) (sym free_has.named) ∙ set-get_or s.board (call_object call) None)

    damaged : FreesAlone opening s b system x call 2 b
    damaged = record {
      reply = Corrupt damage;
      after = s;
      frees = told_damage;
      replies = subst (λ t. Replies opening s b system x call 2 (Corrupt damage) t b) (with-checked-same s k c is.checked)
          (replies_kept opening s b system x call rest next k c c is.checked (unchanged c) 1 (Corrupt damage)
          (whole_of opening s b system x call rest next c is.checked Free c (Corrupt damage) is.kind refl refl free_spot
          (ap (took_back m system.value (at q (InChecked DoChecked Free)) c) found ∙ ap by_value (sym (update_was system.value (node_lock k) (Checked c) (guarded opening s b system x call rest next c is.checked))))));
      known = known_kept opening s b system x call rest next k c c is.checked (unchanged c) 1 (Corrupt damage)
          (whole_of opening s b system x call rest next c is.checked Free c (Corrupt damage) is.kind refl refl free_spot
          (ap (took_back m system.value (at q (InChecked DoChecked Free)) c) found ∙ ap by_value (sym (update_was system.value (node_lock k) (Checked c) (guarded opening s b system x call rest next c is.checked)))))
          ∙ knows_damaged l.known (call_place call) (call_object call) l.worker s o refl is.held free_has.object free_has.named;
    }
      where
        by_value : (ℕ → LockValue) → Change
        by_value value = change value (at q (InChecked GiveChecked Free)) (Some (Corrupt damage))

  -- ---- a whole object

  abbrev pub lost : Known
  lost = record o { held = false }

  abbrev pub freed_reply : Reply
  freed_reply = Freed (address_of o.frame o.index (layout_at s k))

  -- the worker that holds it no more
  abbrev pub freed_local : Local
  freed_local = record (loses q) { run = None }

  abbrev pub freed_told : Local
  freed_told = answered (at freed_local Between) freed_reply

  pub freed_between : IsBetween w.setup (rested m freed_told)
  freed_between = rests_between m w.setup freed_told (record {
    between = refl;
    hands = begin.between.hands;
    string = begin.between.string;
    run = refl;
    packed = record { cpu_word = begin.between.packed.cpu_word; slab_word = begin.between.packed.slab_word; list_word = begin.between.packed.list_word; next = begin.between.packed.next };
    cpu = subst (λ (m : Setup). call_cpu call < m.cpus) (sym rest.rests.rests.setup) begin.may.cpu;
    numbers = All-set (λ (k : Known). k.object < w.setup.objects) l.known (call_place call) lost (subst (λ (m : Setup). o.object < m.objects) (sym rest.rests.rests.setup) (omega (arith, free_has.object, free_has.on_board))) begin.between.numbers;
    some = All-set (λ (k : Known). k.held ≡ true → 1 ≤ k.object) l.known (call_place call) lost (λ e. absurd (false≢true e)) begin.between.some;
  })

  abbrev pub freed_board : List (Option Held)
  freed_board = set s.board (call_object call) None

  pub freed_names : (j : ℕ) → get_or freed_board j None ≡ named_in w (set system.locals x (rested m freed_told)) j
  freed_names j = elim (cases_eq j (call_object call)) [
    | inl e ↦ ap (λ o. get_or freed_board o None) e ∙ get_or-set_same s.board (call_object call) None None free_has.on_board
        ∙ sym (named_lost w system.locals x (call_place call) (rested m freed_told) lost next.there free_has.place known_is refl is.held j (free_has.object ∙ sym e) (rest.rests.rests.once j))
    | inr away ↦ get_or-set_other s.board (call_object call) j None None away ∙ rest.rests.rests.named j ∙ sym (named_other w system.locals x (call_place call) (rested m freed_told) lost worker_is known_is refl j (λ e. away (sym e ∙ free_has.object)))
  ]
    where
      calls : IsWithCalls freed_told (rested m freed_told)
      calls = rested_calls m freed_told refl

      known_is : (rested m freed_told).known ≡ set l.known (call_place call) lost
      known_is = ap (λ (l : Local). l.known) calls.same

      worker_is : (rested m freed_told).worker ≡ l.worker
      worker_is = ap (λ (l : Local). l.worker) calls.same

  pub freed_were : (j : ℕ) (h : Held) → get_or freed_board j None ≡ Some h → held_under s j ≡ Some h
  freed_were j h there = elim (cases_eq j (call_object call)) [
    | inl e ↦ absurd (let none = ap (λ o. get_or freed_board o None) e ∙ get_or-set_same s.board (call_object call) None None free_has.on_board in cc (none, there))
    | inr away ↦ sym (get_or-set_other s.board (call_object call) j None None away) ∙ there
  ]

  abbrev pub freed_gone : List (Option Held)
  freed_gone = set s.gone (call_object call) (Some held)

  abbrev pub freed_live : List ℕ
  freed_live = set s.live k (get_or s.live k 0 - 1)

  pub freed_accounted : IsAccounted (record s { board = freed_board; live = freed_live })
  freed_accounted = taken-accounted s (call_object call) held begin.consistent free_has.named

  abbrev pub slabs_taken : CheckedState
  slabs_taken = slab_taken c slot

  pub taken_used : IsUsed c slot
  taken_used = held-used s (call_object call) held c free_has.named is.checked begin.consistent

  pub takes_it : TakesObject c slot (Ok tt) slabs_taken
  takes_it = taken-object c slot (sound opening s b system x call rest next c is.checked) taken_used

  -- its slab stays
  module _ (whole_it : damage_of_used c slot ≡ None) (stays_in : ¬ BecomesSpare s c o) where
    abbrev after : State
    after = with_gone (with_checked (with_taken s (call_object call) k) k slabs_taken) (call_object call) l.worker held

    whole : alone m x 2 system ≡ machine system.words (update system.value (node_lock k) (Checked slabs_taken)) (set system.locals x (rested m freed_told))
    whole = whole_to opening s b system x call rest next c is.checked Free slabs_taken freed_local freed_reply is.kind refl refl free_spot refl
        (ap (took_back m system.value (at q (InChecked DoChecked Free)) c) whole_it ∙ ap by_spare (spare_false m slabs_taken k o.frame stays_in))
      where
        by_spare : Bool → Change
        by_spare spare = record {
          value = update system.value (node_lock k) (Checked (if spare then without_slab slabs_taken o.frame else slabs_taken));
          local = record (loses (at q (InChecked DoChecked Free))) {
            run = (if spare then Some (run_at slabs_taken o.frame) else None);
            spot = (if spare then InChecked LockRun Free else InChecked GiveChecked Free);
          };
          reply = Some freed_reply;
        }

    frees : Frees s (call_cpu call) l.worker (call_object call) freed_reply after
    frees = frees_checked s (call_cpu call) l.worker (call_object call) o freed_reply after c free_has.named free_has.lives is.checked (Ok tt, slabs_taken, (whole_it, refl), (refl, None, slabs_taken, (stays_in, refl), refl))

    taken : FreesAlone opening s b system x call 2 b
    taken = record {
      reply = freed_reply;
      after = after;
      frees = frees;
      known = known_ends s b system x 2 freed_told system.words (update system.value (node_lock k) (Checked slabs_taken)) next.there whole refl ∙ knows_freed l.known (call_place call) o.object (call_object call) l.worker s after held free_has.named (eq-eqb l.worker l.worker refl) free_has.on_board refl free_has.object;
      replies = replies_of opening s after b b system x 2 call freed_reply freed_told system.words (update system.value (node_lock k) (Checked slabs_taken)) next whole refl refl refl refl
          (locked_setup opening s b system x rest next.there k c slabs_taken is.checked 1 freed_told whole takes_it.slabs.shape takes_it.slabs.flags freed_board freed_gone freed_live (length-set s.board (call_object call) None) (length-set s.gone (call_object call) (Some held)) (length-set s.live k _) freed_accounted freed_between freed_names (λ j h there plain. freed_were j h there))
          (locked_rest opening s b system x rest next.there k c slabs_taken is.checked 1 freed_told whole takes_it.slabs.shape takes_it.slabs.flags freed_board freed_gone freed_live (length-set s.board (call_object call) None) (length-set s.gone (call_object call) (Some held)) (length-set s.live k _) freed_accounted freed_between freed_names (λ j h there plain. freed_were j h there));
    }

pub damage_told : DamagedFreesAreTold
damage_told opening s b system x call c damage rest next is found = damaged opening s b system x call rest next c is damage found

pub taken_alone : CheckedFreesAreTaken
taken_alone opening s b system x call c rest next is whole stays_in = taken opening s b system x call rest next c is whole stays_in
