-- The lists in which a held object has gone to its slab's own freelist: the machine rests in them as soon as the object and the slab's word say so, with the worker as it is between calls.
use Rattle.std.proofs.Common.{◌≡◌, ◌≢◌, ℕ, ◌+◌, ◌-◌, ◌<◌, ◌≤◌, true, false, List, [], ◌∷◌, length, get_or, set, Some, None, inl, inr, refl, ap, sym, ◌∙◌, subst, arith, sum_by}
use Rattle.std.proofs.lemmas.Bool.{cases_eq, false≢true}
use Rattle.std.proofs.lemmas.List.{get_or-set_same, get_or-set_other, length-set}
use Rattle.std.proofs.lemmas.List.Elements.{All-set}
use Rattle.std.proofs.lemmas.List.Sums.{sum_by-set}
use Rattle.slub_words.specs.declared.slab.SlabWord.{SlabWord}
use Rattle.slub_lists.specs.declared.lists.Held.{Held}
use Rattle.slub_lists.specs.State.{State}
use Rattle.slub_lists.specs.Alloc.{lists_of, own_free}
use Rattle.slub_lists.specs.Coherent.{held_under}
use Rattle.slub_lists.specs.Free.{with_freed, with_gone, with_taken}
use Rattle.slub_lists.specs.Places.{layout_at}
use Rattle.slub_lists.specs.Words.{word_at}
use Rattle.slub_core.specs.declared.call.Call.{Call}
use Rattle.slub_core.specs.declared.local.Known.{Known}
use Rattle.slub_core.specs.Calls.{call_cpu, call_object, call_place}
use Rattle.slub_core.specs.Setup.{Setup, pointer_at, hardened}
use Rattle.slub_core.specs.World.{World, update, set_slab, set_memory, pointer, IsChain, world_of}
use Rattle.slub_core.specs.Local.{Local, nobody}
use Rattle.slub_core.specs.Replies.{names_object}
use Rattle.slub_core.specs.Run.{System, idle}
use Rattle.slub_core.proofs.Packed.{IsSlabFit}
use Rattle.slub_core.proofs.Update.{update_same, update_other, each_updated}
use Rattle.slub_law_opening.specs.Opening.{Beside, setup_of}
use Rattle.slub_law_opening.specs.Rests.{IsBetween, IsFreelistOf, KeepsWord, Rests, times_held as held_by, named as named_in, times_named}
use Rattle.slub_law_opening.proofs.Names.{as_held, holds}
use Rattle.slub_law_opening.proofs.Rows.{comes-back}
use Rattle.slub_law_alone.specs.Alone.{worker_at, known_at, IsNext}
use Rattle.slub_law_alone.specs.Ready.{IsReady}
use Rattle.slub_law_alone.specs.Laws.{IsFree}
use Rattle.slub_law_alone.proofs.Apart.{pointer_own, cpu_stands, own_stands, word_apart}
use Rattle.slub_law_alone.proofs.Changed.{SameSlab, rests_changed, same_word}
use Rattle.slub_law_alone.proofs.InPlace as place
use Rattle.slub_law_alone.proofs.Names.{named_other, named_lost}
use Rattle.slub_law_alone.proofs.Ready.{IsReadyStart, ready_starts, ready_object}
use Rattle.slub_law_alone.proofs.Start.{HasObject}

module _ (opening : World) (s : State) (b : Beside) (system : System) (x : ℕ) (call : Call) (rest : IsReady opening s b system x) (next : IsNext system x call) (is : IsFree s (worker_at system x) call)
    (away : (lists_of s (known_at (worker_at system x) call).cache (call_cpu call)).current ≢ Some (known_at (worker_at system x) call).frame) where
  abbrev m : Setup
  m = setup_of s b

  abbrev w : World
  w = world_of m system.value system.words

  abbrev l : Local
  l = worker_at system x

  abbrev o : Known
  o = known_at l call

  abbrev f : ℕ
  f = o.frame

  abbrev z : SlabWord
  z = w.slab f

  abbrev held : Held
  held = as_held l.worker o

  abbrev p : ℕ
  p = pointer_at m o.cache f o.index

  abbrev value : ℕ
  value = hardened o.cache p z.head

  begin : IsReadyStart opening s b system x call
  begin = ready_starts opening s b system x call rest next

  has : HasObject s system x call
  has = ready_object opening s b system x call rest next (ap names_object is.kind) is.held

  resting : Rests s b w system.locals
  resting = rest.rests.rests

  abbrev lost : Known
  lost = record o { held = false }

  -- the worker without the object
  abbrev pub quiet : Local
  quiet = record l { known = set l.known (call_place call) lost }

  abbrev pub ends : List Local
  ends = set system.locals x quiet

  -- the object freed, in words and in lists
  abbrev pub v : SlabWord
  v = record z { head = o.index + 1; inuse = z.inuse - 1 }

  abbrev pub put : World
  put = set_slab (set_memory w p value) f v

  abbrev pub freed : State
  freed = with_gone (with_freed (with_taken s (call_object call) o.cache) f o.index) (call_object call) l.worker held

  quiet_rests : IsBetween w.setup quiet
  quiet_rests = record {
    between = begin.between.between;
    hands = begin.between.hands;
    string = begin.between.string;
    run = begin.between.run;
    packed = record { cpu_word = begin.between.packed.cpu_word; slab_word = begin.between.packed.slab_word; list_word = begin.between.packed.list_word; next = begin.between.packed.next };
    cpu = begin.between.cpu;
    numbers = All-set (λ (k : Known). k.object < w.setup.objects) l.known (call_place call) lost (subst (λ (m : Setup). o.object < m.objects) (sym resting.setup) (omega (arith, has.object, has.on_board))) begin.between.numbers;
    some = All-set (λ (k : Known). k.held ≡ true → 1 ≤ k.object) l.known (call_place call) lost (λ e. absurd (false≢true e)) begin.between.some;
  }

  -- no number names more than before
  once : (j : ℕ) → times_named put ends j ≤ 1
  once j =
      let a = sum_by-set (held_by j) system.locals x quiet idle next.there in
      let c = sum_by-set (holds j) l.known (call_place call) lost nobody has.place in
      let was = resting.once j in
      let less : held_by j quiet ≡ sum_by (holds j) (set l.known (call_place call) lost) = refl in
      let all : held_by j l ≡ sum_by (holds j) l.known = refl in
      let none : holds j lost ≡ 0 = refl in
      omega (arith, a, c, was, less, all, none)

  frees_below : f < length s.frees
  frees_below = let within = place.within opening s b system x call rest next is away in omega (arith, within, rest.lists.shaped.frees)

  free_is : get_or (set s.frees f (o.index ∷ own_free s f)) f [] ≡ o.index ∷ own_free s f
  free_is = get_or-set_same s.frees f (o.index ∷ own_free s f) [] frees_below

  stands : (j : ℕ) → IsChain (pointer put (w.slab j).cache j) (w.slab j).head (own_free s j)
  stands j = own_stands s (call_object call) held begin.consistent has.named p (pointer_own s (call_object call) held begin.consistent has.named) b w system.locals resting w.cpu (update w.slab f v) value j

  leads_back : pointer put z.cache f o.index ≡ z.head
  leads_back = ap (λ k. pointer put k f o.index) (place.cache opening s b system x call rest next is away)
      ∙ ap (λ (m : Setup). hardened o.cache (pointer_at m o.cache f o.index) (update w.memory p value (pointer_at m o.cache f o.index))) resting.setup
      ∙ ap (hardened o.cache p) (update_same w.memory p value) ∙ comes-back o.cache p z.head

  names_are : (j : ℕ) → get_or (set s.board (call_object call) None) j None ≡ named_in put ends j
  names_are j = elim (cases_eq j (call_object call)) [
    | inl e ↦ ap (λ o. get_or (set s.board (call_object call) None) o None) e ∙ get_or-set_same s.board (call_object call) None None has.on_board
        ∙ sym (named_lost put system.locals x (call_place call) quiet lost next.there has.place refl refl is.held j (has.object ∙ sym e) (resting.once j))
    | inr d ↦ get_or-set_other s.board (call_object call) j None None d ∙ resting.named j ∙ sym (named_other put system.locals x (call_place call) quiet lost refl refl refl j (λ e. d (sym e ∙ has.object)))
  ]

  words_are : (j word : ℕ) (h : Held) → get_or (set s.board (call_object call) None) j None ≡ Some h → KeepsWord s put h word
  words_are j word h there plain inside = elim (cases_eq j (call_object call)) [
    | inl e ↦ absurd (let none = ap (λ o. get_or (set s.board (call_object call) None) o None) e ∙ get_or-set_same s.board (call_object call) None None has.on_board in cc (none, there))
    | inr d ↦
        let before : held_under s j ≡ Some h = sym (get_or-set_other s.board (call_object call) j None None d) ∙ there in
        update_other w.memory p value (word_at (layout_at s h.cache) h word) (word_apart s (call_object call) held begin.consistent has.named j word h before d inside) ∙ resting.contents j word h before plain inside
  ]

  -- where an object of the slab is in use
  module _ (in_use : 1 ≤ z.inuse) where
    own_ends : (j : ℕ) → IsFreelistOf put j (get_or (set s.frees f (o.index ∷ own_free s f)) j [])
    own_ends j = elim (cases_eq j f) [
      | inl e ↦ subst (λ j. IsFreelistOf put j (get_or (set s.frees f (o.index ∷ own_free s f)) j [])) (sym e) (subst (IsFreelistOf put f) (sym free_is) at_it)
      | inr d ↦ subst (IsFreelistOf put j) (sym (get_or-set_other s.frees f j (o.index ∷ own_free s f) [] d)) (record {
        chain = subst (λ (c : SlabWord). IsChain (pointer put c.cache j) c.head (own_free s j)) (sym (update_other w.slab f v j d)) (stands j);
        in_use = subst (λ (c : SlabWord). c.inuse + length (own_free s j) ≡ c.objects) (sym (update_other w.slab f v j d)) (resting.own j).in_use;
      })
    ]
      where
        at_it : IsFreelistOf put f (o.index ∷ own_free s f)
        at_it = record {
          chain = subst (λ (c : SlabWord). IsChain (pointer put c.cache f) c.head (o.index ∷ own_free s f)) (sym (update_same w.slab f v))
              (omega arith, subst (λ h. IsChain (pointer put z.cache f) h (own_free s f)) (sym leads_back) (stands f));
          in_use = subst (λ (c : SlabWord). c.inuse + length (o.index ∷ own_free s f) ≡ c.objects) (sym (update_same w.slab f v)) (let u = (place.own opening s b system x call rest next is away).in_use in omega (arith, u, in_use));
        }

    pub freed_rests : Rests freed b put ends
    freed_rests = rests_changed s b w system.locals (set s.frees f (o.index ∷ own_free s f)) s.cpu_lists s.memory (set s.board (call_object call) None) (set s.gone (call_object call) (Some held)) (set s.live o.cache (get_or s.live o.cache 0 - 1)) b.tids
        w.cpu (update w.slab f v) (update w.memory p value) ends resting
        (length-set s.board (call_object call) None)
        (record {
          cpu = resting.words.cpu;
          slab = each_updated w.slab f v (λ _ (d : SlabWord). IsSlabFit d) (place.fit opening s b system x call rest next is away) (λ i d. resting.words.slab i);
          list = resting.words.list;
          link = resting.words.link;
          room = resting.words.room;
          remainder = resting.words.remainder;
        })
        (All-set (IsBetween w.setup) system.locals x quiet quiet_rests resting.workers)
        (λ n below. let c = resting.cpu n below in record {
          tid = c.tid;
          current = c.current;
          free = cpu_stands s (call_object call) held begin.consistent has.named p (pointer_own s (call_object call) held begin.consistent has.named) b w system.locals resting w.cpu (update w.slab f v) value n below;
          count = c.count;
          partial = c.partial;
        })
        (each_updated w.slab f v (λ j (c : SlabWord). SameSlab (w.slab j) c) (record { objects = refl; cache = refl; frozen = refl; listed = refl }) (λ j d. same_word (w.slab j)))
        own_ends names_are once words_are
