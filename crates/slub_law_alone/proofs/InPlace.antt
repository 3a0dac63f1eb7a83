-- A free of an object of a slab that isn't current on the CPU and stays where it is: the CPU word and the slab word are loaded, the slab's freelist's head is stored in the object, and the object is put on that freelist.
use Rattle.std.proofs.Common.{◌≡◌, ◌≢◌, ℕ, suc, ◌+◌, ◌-◌, ◌*◌, ◌<◌, ◌≤◌, ◌&&◌, eqb, cond, Bool, true, false, List, [], ◌∷◌, length, get_or, set, Option, Some, None, inl, inr, refl, ap, sym, ◌∙◌, subst, arith}
use Rattle.std.specs.Prelude.{nat_lt, nat_le, not, is_some}
use Rattle.std.specs.Option.{option_map_or}
use Rattle.std.proofs.lemmas.Bool.{cases_eq, cases_Bool, false≢true, eq-eqb, ne_eqb, cond-true, cond-false, leb-true, lt-ltb}
use Rattle.std.proofs.lemmas.List.{get_or-set_same, get_or-set_other, set-get_or, length-set}
use Rattle.std.proofs.lemmas.List.Elements.{All-set}
use Rattle.slub_common.specs.Times.{times}
use Rattle.slub_trace.specs.declared.reply.Reply.{Reply}
use Rattle.slub_trace.specs.declared.reply.Reply.TheVariants.{Freed}
use Rattle.slub_object_layout.specs.declared.layout.Layout.{Layout}
use Rattle.slub_object_layout.specs.Layout.{address_of}
use Rattle.slub_words.specs.declared.cpu.CpuWord.{CpuWord}
use Rattle.slub_words.specs.declared.slab.SlabWord.{SlabWord}
use Rattle.slub_words.specs.Words.{slab_bits}
use Rattle.slub_lists.specs.declared.lists.Slab.{Slab}
use Rattle.slub_lists.specs.declared.lists.Held.{Held}
use Rattle.slub_lists.specs.State.{State}
use Rattle.slub_lists.specs.Alloc.{cache_of, lists_of, checked_of, node_of, own_free, slab_of}
use Rattle.slub_lists.specs.Free.{is_current, is_frozen, is_spare, inuse_of, freed_here, freed_there, settled, put_partial, without_spare, without_slab, discarded, with_freed, with_taken, with_gone}
use Rattle.slub_lists.specs.Freeing.{Frees}
use Rattle.slub_lists.specs.Words.{word_at}
use Rattle.slub_lists.specs.Coherent.{IsAccounted, held_under}
use Rattle.slub_lists.specs.Places.{layout_at}
use Rattle.slub_lists.proofs.Places.{objects-few, slab-inside}
use Rattle.slub_lists.proofs.Taking.{taken-accounted}
use Rattle.slub_core.specs.declared.call.Call.{Call}
use Rattle.slub_core.specs.declared.call.CallKind.TheVariants.{Free}
use Rattle.slub_core.specs.declared.local.Known.{Known}
use Rattle.slub_core.specs.declared.spot.Spot.TheVariants.{Between, InFree, InDiscard}
use Rattle.slub_core.specs.declared.spot.FreeSpot.TheVariants.{LoadOwn, LoadSlab, LinkSlab, FreeSlab, LockFree, LoadLocked, LinkLocked, FreeLocked, TakeOff, GiveFree}
use Rattle.slub_core.specs.declared.step.Answer.{Answer}
use Rattle.slub_core.specs.declared.step.Answer.TheVariants.{Word, Done, Won, Lost}
use Rattle.slub_core.specs.declared.step.Op.TheVariants.{Load, Store, Exchange}
use Rattle.slub_core.specs.declared.step.Place.TheVariants.{CpuOf, SlabOf, MemoryOf, LockOf}
use Rattle.slub_core.specs.Setup.{Setup, cpu_number, pointer_at, hardened, node_lock}
use Rattle.slub_core.specs.Words.{cpu_in, slab_in, cpu_base, slab_base, memory_base}
use Rattle.slub_core.specs.World.{World, update, set_slab, set_memory, pointer, IsChain, world_of, LockValue, set_lock, frames_in}
use Rattle.slub_core.specs.Fresh.{IsWorded}
use Rattle.slub_core.specs.Local.{here, Local, Turn, at, loses, answered, goes, Change, with_hand, bare_hand}
use Rattle.slub_core.specs.Free.{way_of_own, way_of_slab, way_of_freed, hands_of_freed, is_last_listed, was_full, way_of_locked, without}
use Rattle.slub_core.specs.Replies.{names_object}
use Rattle.slub_core.specs.Spots.{frees_open}
use Rattle.slub_core.specs.Steps.{begun, rested, advance_at}
use Rattle.slub_core.specs.Run.{System, idle, turn}
use Rattle.slub_core.specs.Law.{IsCoherentSystem}
use Rattle.slub_core.proofs.Leads.{at_work}
use Rattle.slub_core.proofs.Packed.{IsSlabFit, slab_in-bits}
use Rattle.slub_core.proofs.Update.{update_same, update_other, each_updated, update_at}
use Rattle.slub_core.proofs.StepWords.{world_of-slab, world_of-memory, cpu-read, slab-read, IsTable, world_of-lock, lock-read, value_of}
use Rattle.slub_law_opening.specs.Opening.{Beside, setup_of}
use Rattle.slub_law_opening.specs.Rests.{IsBetween, IsCpuOf, IsFreelistOf, KeepsWord, Rests, current_in, named as named_in, times_named}
use Rattle.slub_law_opening.specs.Closing.{HasLengths}
use Rattle.slub_law_opening.proofs.Names.{as_held}
use Rattle.slub_law_opening.proofs.Rows.{comes-back}
use Rattle.slub_law_opening.proofs.Words.{chain-some, chain-empty}
use Rattle.slub_core.specs.Alloc.{node_of as node_in, with_node}
use Rattle.slub_core.specs.declared.spot.DiscardSpot.TheVariants.{Unmake}
use Rattle.slub_core.specs.declared.spot.Discard.TheVariants.{FromFree}
use Rattle.slub_core.specs.Calls.{call_kind, call_cpu, call_object, call_place}
use Rattle.slub_cache_create.specs.declared.caches.Cache.{Cache}
use Rattle.slub_law_alone.specs.Alone.{AreWhole, own_pick, alone, worker_at, known_at, IsNext}
use Rattle.slub_law_alone.specs.Ready.{IsReady}
use Rattle.slub_law_alone.specs.Laws.{IsFree, FreesAlone, StaysThere, frozen, partial, FreesInPlaceArePuts, LastOfListedAreKept}
use Rattle.slub_law_alone.proofs.Apart.{IsSlabAt, slab_word, plain_word, pointer_own, cpu_stands, own_stands, word_apart}
use Rattle.slub_law_alone.proofs.Bits.{whole_memory, whole_slab, whole_lock}
use Rattle.slub_law_alone.proofs.Changed.{SameSlab, rests_changed, setup_same, same_word}
use Rattle.slub_calls.proofs.ChangeNumbers.{cpu_here}
use Rattle.slub_law_alone.proofs.Ended.{replies_of}
use Rattle.slub_law_alone.proofs.Knows.{known_ends, knows_freed}
use Rattle.slub_law_alone.proofs.FastFree.{frees_held, layout_of}
use Rattle.slub_law_alone.proofs.Names.{named_other, named_lost}
use Rattle.slub_law_alone.proofs.NewSlabFill.{alone_then}
use Rattle.slub_law_alone.proofs.OnNode.{node_away}
use Rattle.slub_law_alone.proofs.Ready.{IsReadyStart, ready_starts, ready_object, along, ends_ready}
use Rattle.slub_law_alone.proofs.Start.{HasObject, begin_held}
use Rattle.slub_law_alone.proofs.Turns.{machine, turn_goes, settle_goes, settle_rests, settle_tells, settle_tells_once, then_turn}
use Rattle.slub_law_alone.proofs.Workers.{AtFront, at_front, once_named, IsWithCalls, rested_calls}

-- a function changed and changed back
pub update_back : {A : Type 0} (g : ℕ → A) (n : ℕ) (a b : A) → g n ≡ b → update (update g n a) n b ≡ g
update_back g n a b was = λ i k. same k i
  where
    same : (k : ℕ) → update (update g n a) n b k ≡ g k
    same k = elim (cases_eq k n) [
      | inl e ↦ update_at (update g n a) n b k e ∙ sym was ∙ ap g (sym e)
      | inr d ↦ update_other (update g n a) n b k d ∙ update_other g n a k d
    ]

-- ---- marks

pub not_listed : (a b c d : Bool) → b ≡ false → a && b && c && d ≡ false
not_listed true true c d e = absurd (false≢true (sym e))
not_listed true false c d e = refl
not_listed false b c d e = refl

pub not_last : (a b c d : Bool) → d ≡ false → a && b && c && d ≡ false
not_last true true true d e = e
not_last true true false d e = refl
not_last true false c d e = refl
not_last false b c d e = refl

pub and_no : (h : Bool) {e : Bool} → e ≡ false → h && e ≡ false
and_no true e = e
and_no false e = refl

-- ---- on lists

pub not_current : (f : ℕ) (o : Option ℕ) → o ≢ Some f → is_current f o ≡ false
not_current f None away = refl
not_current f (Some c) away = ne_eqb c f (λ e. away (ap Some e))

-- the slab stays where it is
pub stays_settled : (s : State) (layout : Layout) (k cpu f i : ℕ) → f < length s.frees → StaysThere s k f → settled (with_freed s f i) layout k cpu f (own_free s f) ≡ with_freed s f i
stays_settled s layout k cpu f i below (frozen is) = go (own_free s f)
  where
    go : (free : List ℕ) → settled (with_freed s f i) layout k cpu f free ≡ with_freed s f i
    go [] = cond-true {A = State} (is_frozen s f) (with_freed s f i) (put_partial (with_freed s f i) layout k cpu f) is
    go (j ∷ free) = cond-true {A = State} (is_frozen s f) (with_freed s f i) (without_spare (with_freed s f i) layout.min_partial k f) is
stays_settled s layout k cpu f i below (partial some which) = go (own_free s f) some
  where
    spared : is_spare (with_freed s f i) layout.min_partial k f && nat_lt 0 (times f (node_of s k)) ≡ false
    spared = elim which [
      | inl none ↦ and_no (is_spare (with_freed s f i) layout.min_partial k f) (ap (nat_lt 0) none)
      | inr more ↦ ap (λ z. z && nat_lt 0 (times f (node_of s k))) (ap (λ z. z && nat_le layout.min_partial (length (node_of s k))) (ne_eqb (inuse_of (with_freed s f i) f) 0 (λ z.
          let own = ap (length {A = ℕ}) (get_or-set_same s.frees f (i ∷ own_free s f) [] below) in
          absurd (omega (arith, z, own, more)))))
    ]

    go : (free : List ℕ) → 0 < length free → settled (with_freed s f i) layout k cpu f free ≡ with_freed s f i
    go [] some = absurd (omega arith)
    go (j ∷ free) some = elim (cases_Bool (is_frozen s f)) [
      | inl t ↦ cond-true {A = State} (is_frozen s f) (with_freed s f i) (without_spare (with_freed s f i) layout.min_partial k f) t
      | inr e ↦ cond-false {A = State} (is_frozen s f) (with_freed s f i) (without_spare (with_freed s f i) layout.min_partial k f) e
          ∙ cond-false {A = State} (is_spare (with_freed s f i) layout.min_partial k f && nat_lt 0 (times f (node_of s k))) (discarded (without_slab (with_freed s f i) k f) f) (with_freed s f i) spared
    ]

module _ (opening : World) (s : State) (b : Beside) (system : System) (x : ℕ) (call : Call) (rest : IsReady opening s b system x) (next : IsNext system x call) (is : IsFree s (worker_at system x) call)
    (away : (lists_of s (known_at (worker_at system x) call).cache (call_cpu call)).current ≢ Some (known_at (worker_at system x) call).frame) where
  abbrev m : Setup
  m = setup_of s b

  abbrev w : World
  w = world_of m system.value system.words

  abbrev l : Local
  l = worker_at system x

  abbrev o : Known
  o = known_at l call

  abbrev f : ℕ
  f = o.frame

  abbrev n : ℕ
  n = cpu_number o.cache (call_cpu call)

  abbrev c : CpuWord
  c = w.cpu n

  abbrev z : SlabWord
  z = w.slab f

  abbrev held : Held
  held = as_held l.worker o

  begin : IsReadyStart opening s b system x call
  begin = ready_starts opening s b system x call rest next

  names : names_object (call_kind call) ≡ true
  names = ap names_object is.kind

  has : HasObject s system x call
  has = ready_object opening s b system x call rest next names is.held

  resting : Rests s b w system.locals
  resting = rest.rests.rests

  cpu : call_cpu call < s.cpus
  cpu = begin.may.cpu

  pub small : n < 512
  small = omega (arith, has.inside, cpu, begin.few)

  pub cpu_is : IsCpuOf b w n (lists_of s o.cache (call_cpu call))
  cpu_is = subst (IsCpuOf b w n) (cpu_here s o.cache (call_cpu call) cpu begin.few) (resting.cpu n small)

  pub within : (0 < f) × (f < s.frames)
  within = slab-inside s f has.slab.0 begin.consistent has.slab.1

  frame_away : c.frame ≡ f → ⊥
  frame_away e = away (cpu_is.current ∙ ap current_in e ∙ cond-false {A = Option ℕ} (eqb f 0) None (Some f) (ne_eqb f 0 (λ none. absurd (let some = within.0 in omega arith))))

  abbrev p : ℕ
  p = pointer_at m o.cache f o.index

  p_inside : p < 512 * m.frames
  p_inside = has.pointer

  -- ---- the slab

  pub some : 1 ≤ z.objects
  some = plain_word s b w system.locals begin.front.stands.chains resting begin.front.stands.listed.shaped f o.index has.slab.0 has.slab.1 has.slab.3 (ap (checked_of s) has.slab.2 ∙ is.unchecked)

  pub slab_at_it : IsSlabAt s w f
  slab_at_it = slab_word s b w system.locals resting f some

  same_slab : has.slab.0 ≡ slab_at_it.slab
  same_slab = injected (sym has.slab.1 ∙ slab_at_it.there)
    where
      injected : {x y : Slab} → Some x ≡ Some y → x ≡ y
      injected e = cc

  pub cache : z.cache ≡ o.cache
  cache = sym slab_at_it.cache ∙ ap (λ (x : Slab). x.cache) (sym same_slab) ∙ has.slab.2

  pub frozen_is : is_frozen s f ≡ z.frozen
  frozen_is = ap (λ o. option_map_or (λ (x : Slab). x.frozen) o false) slab_at_it.there ∙ slab_at_it.frozen

  objects_is : option_map_or (λ (x : Slab). x.objects) (slab_of s f) 0 ≡ z.objects
  objects_is = ap (λ o. option_map_or (λ (x : Slab). x.objects) o 0) slab_at_it.there ∙ slab_at_it.objects

  pub own : IsFreelistOf w f (own_free s f)
  own = resting.own f

  listed_is : z.listed ≡ nat_lt 0 (times f (node_of s o.cache))
  listed_is = resting.listed f ∙ ap (λ k. nat_lt 0 (times f (node_of s k))) cache

  -- ---- the worker, and what it leaves

  abbrev asked : Local
  asked = record l { spot = InFree LoadOwn; cache = o.cache; cpu = call_cpu call; place = call_place call; fast = false; turn = 0; count = 0 }

  abbrev loaded : Local
  loaded = record asked { cpu_word = c; spot = InFree LoadSlab }

  abbrev lost : Known
  lost = record o { held = false }

  abbrev freed_it : Local
  freed_it = record loaded { slab_word = z; spot = Between; known = set l.known (call_place call) lost }

  abbrev reply : Reply
  reply = Freed (address_of f o.index (layout_at s o.cache))

  abbrev told : Local
  told = answered freed_it reply

  abbrev v : SlabWord
  v = record z { head = o.index + 1; inuse = z.inuse - 1 }

  abbrev q : ℕ
  q = get_or system.words (cpu_base + n) 0

  abbrev r : ℕ
  r = get_or system.words (slab_base + f) 0

  abbrev value : ℕ
  value = hardened o.cache p z.head

  cpu_reads : c ≡ cpu_in q
  cpu_reads = cpu-read m system.value system.words n small

  pub slab_reads : z ≡ slab_in r
  slab_reads = slab-read m system.value system.words f within.1

  begins : begun m false l ≡ asked
  begins = begin_held m l call next.calls Free (InFree LoadOwn) begin.between.between next.todo is.kind refl refl (ap is_some is.unchecked) is.held refl

  pub turn1 : turn m (machine system.words system.value (set system.locals x l)) (own_pick x) ≡ machine system.words system.value (set system.locals x loaded)
  turn1 = turn_goes m system.words system.words system.value system.locals x l asked loaded (record { place = CpuOf n; op = Load }) (Word q) next.there begins refl (set-get_or system.words (cpu_base + n) 0) refl
      (settle_goes m system.value asked loaded (Word q) leads refl refl)
    where
      by_word : CpuWord → Turn
      by_word z = record { local = record asked { cpu_word = z; spot = way_of_own m asked z }; reply = None }

      way : way_of_own m asked c ≡ InFree LoadSlab
      way = rw (ne_eqb c.frame f frame_away) refl

      leads : advance_at m system.value asked (InFree LoadOwn) (Word q) ≡ goes loaded
      leads = ap by_word (sym cpu_reads) ∙ (λ i. record { local = record asked { cpu_word = c; spot = way i }; reply = None })

  pub fit : IsSlabFit v
  fit = (let few = objects-few s f has.slab.0 begin.consistent has.slab.1 in omega (arith, few.1, has.slab.3), let old = (resting.words.slab f).1 in omega arith, (resting.words.slab f).2, (resting.words.slab f).3)

  abbrev put : World
  put = set_slab (set_memory w p value) f v

  -- the lists with the object on its slab's freelist
  abbrev pub freed : State
  freed = with_gone (with_freed (with_taken s (call_object call) o.cache) f o.index) (call_object call) l.worker held

  pub frees_below : f < length s.frees
  frees_below = omega (arith, within.1, rest.lists.shaped.frees)

  -- ---- the object is there, and the worker between two calls

  module _ (end : Local) (known_is : end.known ≡ set l.known (call_place call) lost) (worker_is : end.worker ≡ l.worker) (between : IsBetween w.setup end) (worded : IsWorded put) (once : (j : ℕ) → times_named put (set system.locals x end) j ≤ 1) (in_use : 1 ≤ z.inuse) where
    free_is : get_or (set s.frees f (o.index ∷ own_free s f)) f [] ≡ o.index ∷ own_free s f
    free_is = get_or-set_same s.frees f (o.index ∷ own_free s f) [] frees_below

    stands : (g : ℕ) → IsChain (pointer put (w.slab g).cache g) (w.slab g).head (own_free s g)
    stands g = own_stands s (call_object call) held begin.consistent has.named p (pointer_own s (call_object call) held begin.consistent has.named) b w system.locals resting w.cpu (update w.slab f v) value g

    leads_back : pointer put z.cache f o.index ≡ z.head
    leads_back = ap (λ k. pointer put k f o.index) cache
        ∙ ap (λ (m : Setup). hardened o.cache (pointer_at m o.cache f o.index) (update w.memory p value (pointer_at m o.cache f o.index))) resting.setup
        ∙ ap (hardened o.cache p) (update_same w.memory p value) ∙ comes-back o.cache p z.head

    own_ends : (g : ℕ) → IsFreelistOf put g (get_or (set s.frees f (o.index ∷ own_free s f)) g [])
    own_ends g = elim (cases_eq g f) [
      | inl e ↦ subst (λ g. IsFreelistOf put g (get_or (set s.frees f (o.index ∷ own_free s f)) g [])) (sym e) (subst (IsFreelistOf put f) (sym free_is) at_it)
      | inr d ↦ subst (IsFreelistOf put g) (sym (get_or-set_other s.frees f g (o.index ∷ own_free s f) [] d)) (record {
        chain = subst (λ (c : SlabWord). IsChain (pointer put c.cache g) c.head (own_free s g)) (sym (update_other w.slab f v g d)) (stands g);
        in_use = subst (λ (c : SlabWord). c.inuse + length (own_free s g) ≡ c.objects) (sym (update_other w.slab f v g d)) (resting.own g).in_use;
      })
    ]
      where
        at_it : IsFreelistOf put f (o.index ∷ own_free s f)
        at_it = record {
          chain = subst (λ (c : SlabWord). IsChain (pointer put c.cache f) c.head (o.index ∷ own_free s f)) (sym (update_same w.slab f v))
              (omega arith, subst (λ h. IsChain (pointer put z.cache f) h (own_free s f)) (sym leads_back) (stands f));
          in_use = subst (λ (c : SlabWord). c.inuse + length (o.index ∷ own_free s f) ≡ c.objects) (sym (update_same w.slab f v)) (let u = own.in_use in omega (arith, u, in_use));
        }

    pub freed_rests : Rests freed b put (set system.locals x end)
    freed_rests = rests_changed s b w system.locals (set s.frees f (o.index ∷ own_free s f)) s.cpu_lists s.memory (set s.board (call_object call) None) (set s.gone (call_object call) (Some held)) (set s.live o.cache (get_or s.live o.cache 0 - 1)) b.tids
        w.cpu (update w.slab f v) (update w.memory p value) (set system.locals x end) resting
        (length-set s.board (call_object call) None)
        worded
        (All-set (IsBetween w.setup) system.locals x end between resting.workers)
        (λ n below. let c = resting.cpu n below in record {
          tid = c.tid;
          current = c.current;
          free = cpu_stands s (call_object call) held begin.consistent has.named p (pointer_own s (call_object call) held begin.consistent has.named) b w system.locals resting w.cpu (update w.slab f v) value n below;
          count = c.count;
          partial = c.partial;
        })
        (each_updated w.slab f v (λ g (c : SlabWord). SameSlab (w.slab g) c) (record { objects = refl; cache = refl; frozen = refl; listed = refl }) (λ g d. same_word (w.slab g)))
        own_ends names_are once words_are
      where
        names_are : (j : ℕ) → get_or (set s.board (call_object call) None) j None ≡ named_in put (set system.locals x end) j
        names_are j = elim (cases_eq j (call_object call)) [
          | inl e ↦ ap (λ o. get_or (set s.board (call_object call) None) o None) e ∙ get_or-set_same s.board (call_object call) None None has.on_board
              ∙ sym (named_lost put system.locals x (call_place call) end lost next.there has.place known_is refl is.held j (has.object ∙ sym e) (resting.once j))
          | inr d ↦ get_or-set_other s.board (call_object call) j None None d ∙ resting.named j ∙ sym (named_other put system.locals x (call_place call) end lost worker_is known_is refl j (λ e. d (sym e ∙ has.object)))
        ]

        words_are : (j word : ℕ) (h : Held) → get_or (set s.board (call_object call) None) j None ≡ Some h → KeepsWord s put h word
        words_are j word h there plain inside = elim (cases_eq j (call_object call)) [
          | inl e ↦ absurd (let none = ap (λ o. get_or (set s.board (call_object call) None) o None) e ∙ get_or-set_same s.board (call_object call) None None has.on_board in cc (none, there))
          | inr d ↦
              let before : held_under s j ≡ Some h = sym (get_or-set_other s.board (call_object call) j None None d) ∙ there in
              update_other w.memory p value (word_at (layout_at s h.cache) h word) (word_apart s (call_object call) held begin.consistent has.named j word h before d inside) ∙ resting.contents j word h before plain inside
        ]

  -- ---- where such turns end

  module _ (turns : ℕ) (words : List ℕ) (whole : alone m x (suc turns) system ≡ machine words system.value (set system.locals x (rested m told))) (says : world_of m system.value words ≡ put) (are_whole : AreWhole m words) (in_use : 1 ≤ z.inuse)
      (settles : (live : Cache) → cache_of s o.cache ≡ Some live → settled (with_freed (with_taken s (call_object call) o.cache) f o.index) live.layout o.cache (call_cpu call) f (own_free s f) ≡ with_freed (with_taken s (call_object call) o.cache) f o.index) where
    ended : IsCoherentSystem m opening (machine words system.value (set system.locals x (rested m told)))
    ended = subst (IsCoherentSystem m opening) whole (along opening s b system x next.there rest turns)

    calls : IsWithCalls told (rested m told)
    calls = rested_calls m told refl

    known_is : (rested m told).known ≡ set l.known (call_place call) lost
    known_is = ap (λ (l : Local). l.known) calls.same

    worker_is : (rested m told).worker ≡ l.worker
    worker_is = ap (λ (l : Local). l.worker) calls.same

    once : (j : ℕ) → times_named put (set system.locals x (rested m told)) j ≤ 1
    once j = subst (λ w. times_named w (set system.locals x (rested m told)) j ≤ 1) says (once_named m opening (machine words system.value (set system.locals x (rested m told))) ended j)

    worker_rests : IsBetween w.setup (rested m told)
    worker_rests = subst (IsBetween w.setup) (sym calls.same) (record {
      between = refl;
      hands = begin.between.hands;
      string = begin.between.string;
      run = begin.between.run;
      packed = record { cpu_word = resting.words.cpu n; slab_word = resting.words.slab f; list_word = begin.between.packed.list_word; next = begin.between.packed.next };
      cpu = subst (λ (m : Setup). call_cpu call < m.cpus) (sym resting.setup) begin.may.cpu;
      numbers = All-set (λ (k : Known). k.object < w.setup.objects) l.known (call_place call) lost (subst (λ (m : Setup). o.object < m.objects) (sym resting.setup) (omega (arith, has.object, has.on_board))) begin.between.numbers;
      some = All-set (λ (k : Known). k.held ≡ true → 1 ≤ k.object) l.known (call_place call) lost (λ e. absurd (false≢true e)) begin.between.some;
    })

    ends : Rests freed b put (set system.locals x (rested m told))
    ends = freed_rests (rested m told) known_is worker_is worker_rests
        (let front = at_front m opening (machine words system.value (set system.locals x (rested m told))) x (omega (arith, next.there, length-set system.locals x (rested m told))) ended in subst IsWorded says front.stands.fresh.worded)
        once in_use

    -- ---- on lists

    accounted : IsAccounted freed
    accounted = taken-accounted s (call_object call) held begin.consistent has.named

    lengths : HasLengths freed
    lengths = record {
      slabs = rest.lists.shaped.slabs;
      frees = length-set s.frees f (o.index ∷ own_free s f) ∙ rest.lists.shaped.frees;
      cpu_lists = rest.lists.shaped.cpu_lists;
      nodes = rest.lists.shaped.nodes;
      checked = rest.lists.shaped.checked.numbers;
      memory = rest.lists.shaped.memory;
      gone = length-set s.gone (call_object call) (Some held) ∙ rest.lists.shaped.gone ∙ sym (length-set s.board (call_object call) None);
      live = length-set s.live o.cache (get_or s.live o.cache 0 - 1) ∙ rest.lists.shaped.live;
    }

    frees : Frees s (call_cpu call) l.worker (call_object call) reply freed
    frees = frees_held s (call_cpu call) l.worker (call_object call) o freed has.named has.lives is.unchecked (λ live e. (
      ap (λ layout. Freed (address_of f o.index layout)) (layout_of s o.cache live e),
      sym (ap (λ h. with_gone (cond {A = State} h (freed_here (with_taken s (call_object call) o.cache) o.cache (call_cpu call) o.index) (freed_there (with_taken s (call_object call) o.cache) live.layout o.cache (call_cpu call) f o.index)) (call_object call) l.worker held) (not_current f (lists_of s o.cache (call_cpu call)).current away)
          ∙ ap (λ t. with_gone t (call_object call) l.worker held) (settles live e)),
    ))

    puts : FreesAlone opening s b system x call (suc turns) b
    puts = record {
      reply = reply;
      after = freed;
      frees = frees;
      known = known_ends s b system x (suc turns) told words system.value next.there whole refl ∙ knows_freed l.known (call_place call) o.object (call_object call) l.worker s freed held has.named (eq-eqb l.worker l.worker refl) has.on_board refl has.object;
      replies = replies_of opening s freed b b system x (suc turns) call reply told words system.value next whole refl refl refl refl same
          (ends_ready opening put s freed b b system (machine words system.value (set system.locals x (rested m told))) rest same refl refl lengths accounted rest.beside.tids refl refl ended says ends are_whole);
    }
      where
        same : setup_of freed b ≡ setup_of s b
        same = setup_same s b w system.locals (set s.frees f (o.index ∷ own_free s f)) s.cpu_lists s.memory (set s.board (call_object call) None) (set s.gone (call_object call) (Some held)) (set s.live o.cache (get_or s.live o.cache 0 - 1)) b.tids
            w.cpu (update w.slab f v) (update w.memory p value) (set system.locals x (rested m told)) (length-set s.board (call_object call) None)

  -- ---- under no lock

  module _ (stays_there : StaysThere s o.cache f) where
    full : was_full z ≡ false
    full = by stays_there
      where
        by : StaysThere s o.cache f → was_full z ≡ false
        by (frozen is) = ap (λ t. not t && eqb z.head 0) (sym frozen_is ∙ is)
        by (partial free which) = and_no (not z.frozen) (ne_eqb z.head 0 (λ none. absurd (let first = chain-some (pointer w z.cache f) z.head (own_free s f) own.chain free in omega arith)))

    last : is_last_listed z ≡ false
    last = by stays_there
      where
        by : StaysThere s o.cache f → is_last_listed z ≡ false
        by (frozen is) = ap (λ t. not t && z.listed && not (eqb z.head 0) && eqb z.inuse 1) (sym frozen_is ∙ is)
        by (partial free which) = elim which [
          | inl none ↦ not_listed (not z.frozen) z.listed (not (eqb z.head 0)) (eqb z.inuse 1) (listed_is ∙ ap (nat_lt 0) none)
          | inr more ↦ not_last (not z.frozen) z.listed (not (eqb z.head 0)) (eqb z.inuse 1) (ne_eqb z.inuse 1 (λ one. absurd (let u = own.in_use in let v = objects_is in omega (arith, one, u, v, more))))
        ]

    abbrev seen : Local
    seen = record loaded { slab_word = z; spot = InFree LinkSlab }

    abbrev linked : Local
    linked = at seen (InFree FreeSlab)

    abbrev words1 : List ℕ
    words1 = set system.words (memory_base m + p) value

    abbrev words : List ℕ
    words = set words1 (slab_base + f) (slab_bits v)

    stays_word : get_or words1 (slab_base + f) 0 ≡ r
    stays_word = get_or-set_other system.words (memory_base m + p) (slab_base + f) value 0 (λ e. absurd (omega (arith, e, within.1, begin.table.objects)))

    hit : eqb (get_or words1 (slab_base + f) 0) (slab_bits z) ≡ true
    hit = eq-eqb (get_or words1 (slab_base + f) 0) (slab_bits z) (stays_word ∙ sym (rest.whole.slab f within.1) ∙ ap slab_bits (sym slab_reads))

    turn2 : turn m (machine system.words system.value (set system.locals x loaded)) (own_pick x) ≡ machine system.words system.value (set system.locals x seen)
    turn2 = turn_goes m system.words system.words system.value system.locals x loaded loaded seen (record { place = SlabOf f; op = Load }) (Word r) next.there refl refl (set-get_or system.words (slab_base + f) 0) refl
        (settle_goes m system.value loaded seen (Word r) leads refl refl)
      where
        by_word : SlabWord → Turn
        by_word z = record { local = record loaded { slab_word = z; spot = way_of_slab z }; reply = None }

        way : way_of_slab z ≡ InFree LinkSlab
        way = rw last refl

        leads : advance_at m system.value loaded (InFree LoadSlab) (Word r) ≡ goes seen
        leads = ap by_word (sym slab_reads) ∙ (λ i. record { local = record loaded { slab_word = z; spot = way i }; reply = None })

    turn3 : turn m (machine system.words system.value (set system.locals x seen)) (own_pick x) ≡ machine words1 system.value (set system.locals x linked)
    turn3 = turn_goes m system.words words1 system.value system.locals x seen seen linked (record { place = MemoryOf p; op = Store value }) Done next.there refl refl refl refl (settle_goes m system.value seen linked Done refl refl refl)

    turn4 : turn m (machine words1 system.value (set system.locals x linked)) (own_pick x) ≡ machine words system.value (set system.locals x (rested m told))
    turn4 = turn_goes m words1 words system.value system.locals x linked linked (rested m told) (record { place = SlabOf f; op = Exchange (slab_bits z) (slab_bits v) }) Won next.there refl refl
        (ap (λ h. set words1 (slab_base + f) (cond {A = ℕ} h (slab_bits v) (get_or words1 (slab_base + f) 0))) hit) (ap (λ h. cond {A = Answer} h Won (Lost (get_or words1 (slab_base + f) 0))) hit)
        (settle_tells m system.value linked freed_it Won reply (λ i. record { local = record (loses linked) { hands = hands i; spot = way i }; reply = Some reply }) refl)
      where
        hands : hands_of_freed linked ≡ linked.hands
        hands = rw full refl

        way : way_of_freed z ≡ Between
        way = rw full refl

    start : alone m x 2 system ≡ machine system.words system.value (set system.locals x seen)
    start = ap (alone m x 2) (ap (machine system.words system.value) (sym (set-get_or system.locals x idle)))
        ∙ then_turn m x 1 (machine system.words system.value (set system.locals x l)) (machine system.words system.value (set system.locals x loaded)) (machine system.words system.value (set system.locals x seen)) turn1
        (then_turn m x 0 (machine system.words system.value (set system.locals x loaded)) (machine system.words system.value (set system.locals x seen)) (machine system.words system.value (set system.locals x seen)) turn2 refl)

    whole : alone m x 4 system ≡ machine words system.value (set system.locals x (rested m told))
    whole = ap (alone m x 2) start
        ∙ then_turn m x 1 (machine system.words system.value (set system.locals x seen)) (machine words1 system.value (set system.locals x linked)) (machine words system.value (set system.locals x (rested m told))) turn3
        (then_turn m x 0 (machine words1 system.value (set system.locals x linked)) (machine words system.value (set system.locals x (rested m told))) (machine words system.value (set system.locals x (rested m told))) turn4 refl)

    -- the object is in use until then: so the worker relies on it
    in_use : 1 ≤ z.inuse
    in_use =
        let sys : System = machine system.words system.value (set system.locals x seen) in
        let coherent = subst (IsCoherentSystem m opening) start (along opening s b system x next.there rest 1) in
        let front : AtFront m opening sys x = at_front m opening sys x (omega (arith, next.there, length-set system.locals x seen)) coherent in
        let mine = front.local ∙ get_or-set_same system.locals x seen idle next.there in
        let noted = (at_work (world_of m system.value system.words) front.worker front.others front.stands).spot.noted.in_use in
        (subst (λ (l : Local). frees_open l.spot ≡ true → (1 ≤ l.slab_word.inuse) × (is_last_listed l.slab_word ≡ false)) mine noted refl).0

    says : world_of m system.value words ≡ set_slab (set_memory w p value) f v
    says = world_of-slab m system.value words1 f (slab_bits v) (record { length = length-set system.words (memory_base m + p) value ∙ begin.table.length; locks = refl; cpu_words = refl; frames = begin.table.frames; objects = begin.table.objects }) within.1
        ∙ ap (λ w. set_slab w f (slab_in (slab_bits v))) (world_of-memory m system.value system.words p value begin.table p_inside) ∙ ap (set_slab (set_memory w p value) f) (slab_in-bits v fit)

    stays_taken : StaysThere (with_taken s (call_object call) o.cache) o.cache f
    stays_taken = by stays_there
      where
        by : StaysThere s o.cache f → StaysThere (with_taken s (call_object call) o.cache) o.cache f
        by (frozen is) = frozen is
        by (partial free which) = partial free which

    put_in_place : FreesAlone opening s b system x call 4 b
    put_in_place = puts 3 words whole says (whole_slab m words1 f v refl (let long = length-set system.words (memory_base m + p) value in omega (arith, long, begin.table.length, within.1)) fit (whole_memory m system.words p value refl begin.table.objects rest.whole)) in_use
        (λ live e. stays_settled (with_taken s (call_object call) o.cache) live.layout o.cache (call_cpu call) f o.index frees_below stays_taken)

  -- ---- under the node lock

  module _ (on_node : 1 ≤ times f (node_of s o.cache)) (one : inuse_of s f ≡ 1) where
    marked : z.listed ≡ true
    marked = listed_is ∙ lt-ltb 0 (times f (node_of s o.cache)) on_node

    pub marks : (1 ≤ z.head) × (z.frozen ≡ false)
    marks = begin.front.stands.listed.shaped.marks f marked

    pub inuse_one : z.inuse ≡ 1
    inuse_one = let u = own.in_use in let y = objects_is in omega (arith, one, u, y)

    is_last : is_last_listed z ≡ true
    is_last = rw (marks.1, marked, ne_eqb z.head 0 (λ none. absurd (let some = marks.0 in omega arith)), eq-eqb z.inuse 1 inuse_one) refl

    abbrev j : ℕ
    j = node_lock o.cache

    pub j_small : j < 33
    j_small = omega (arith, has.inside)

    abbrev a : ℕ
    a = l.worker + 1

    abbrev waits : Local
    waits = record loaded { slab_word = z; spot = InFree LockFree }

    abbrev locked : Local
    locked = at waits (InFree LoadLocked)

    abbrev again : Local
    again = at waits (InFree LinkLocked)

    abbrev stored : Local
    stored = at waits (InFree FreeLocked)

    abbrev giving : Local
    giving = at (answered (at (loses stored) (InFree TakeOff)) reply) (InFree GiveFree)

    abbrev lock1 : List ℕ
    lock1 = set system.words j a

    abbrev lock2 : List ℕ
    lock2 = set lock1 (memory_base m + p) value

    abbrev lock3 : List ℕ
    lock3 = set lock2 (slab_base + f) (slab_bits v)

    abbrev lock4 : List ℕ
    lock4 = set lock3 j 0

    pub lock_free : w.lock j ≡ 0
    lock_free = resting.locks j j_small

    lock_hit : eqb (get_or system.words j 0) 0 ≡ true
    lock_hit = eq-eqb (get_or system.words j 0) 0 (sym (lock-read m system.value system.words j j_small) ∙ lock_free)

    slab_there : get_or lock1 (slab_base + f) 0 ≡ r
    slab_there = get_or-set_other system.words j (slab_base + f) a 0 (λ e. absurd (omega (arith, e, j_small)))

    slab_still : get_or lock2 (slab_base + f) 0 ≡ r
    slab_still = get_or-set_other lock1 (memory_base m + p) (slab_base + f) value 0 (λ e. absurd (omega (arith, e, within.1, begin.table.objects))) ∙ slab_there

    pub slab_hit : eqb (get_or lock2 (slab_base + f) 0) (slab_bits z) ≡ true
    slab_hit = eq-eqb (get_or lock2 (slab_base + f) 0) (slab_bits z) (slab_still ∙ sym (rest.whole.slab f within.1) ∙ ap slab_bits (sym slab_reads))

    lturn2 : turn m (machine system.words system.value (set system.locals x loaded)) (own_pick x) ≡ machine system.words system.value (set system.locals x waits)
    lturn2 = turn_goes m system.words system.words system.value system.locals x loaded loaded waits (record { place = SlabOf f; op = Load }) (Word r) next.there refl refl (set-get_or system.words (slab_base + f) 0) refl
        (settle_goes m system.value loaded waits (Word r) leads refl refl)
      where
        by_word : SlabWord → Turn
        by_word z = record { local = record loaded { slab_word = z; spot = way_of_slab z }; reply = None }

        way : way_of_slab z ≡ InFree LockFree
        way = rw is_last refl

        leads : advance_at m system.value loaded (InFree LoadSlab) (Word r) ≡ goes waits
        leads = ap by_word (sym slab_reads) ∙ (λ i. record { local = record loaded { slab_word = z; spot = way i }; reply = None })

    lturn3 : turn m (machine system.words system.value (set system.locals x waits)) (own_pick x) ≡ machine lock1 system.value (set system.locals x locked)
    lturn3 = turn_goes m system.words lock1 system.value system.locals x waits waits locked (record { place = LockOf j; op = Exchange 0 a }) Won next.there refl refl
        (ap (λ h. set system.words j (cond {A = ℕ} h a (get_or system.words j 0))) lock_hit) (ap (λ h. cond {A = Answer} h Won (Lost (get_or system.words j 0))) lock_hit) (settle_goes m system.value waits locked Won refl refl refl)

    lturn4 : turn m (machine lock1 system.value (set system.locals x locked)) (own_pick x) ≡ machine lock1 system.value (set system.locals x again)
    lturn4 = turn_goes m lock1 lock1 system.value system.locals x locked locked again (record { place = SlabOf f; op = Load }) (Word (get_or lock1 (slab_base + f) 0)) next.there refl refl (set-get_or lock1 (slab_base + f) 0) refl
        (settle_goes m system.value locked again (Word (get_or lock1 (slab_base + f) 0)) leads refl refl)
      where
        by_word : SlabWord → Turn
        by_word z = record { local = record locked { slab_word = z; spot = way_of_locked z }; reply = None }

        way : way_of_locked z ≡ InFree LinkLocked
        way = rw is_last refl

        leads : advance_at m system.value locked (InFree LoadLocked) (Word (get_or lock1 (slab_base + f) 0)) ≡ goes again
        leads = ap (λ y. by_word (slab_in y)) slab_there ∙ ap by_word (sym slab_reads) ∙ (λ i. record { local = record locked { slab_word = z; spot = way i }; reply = None })

    lturn5 : turn m (machine lock1 system.value (set system.locals x again)) (own_pick x) ≡ machine lock2 system.value (set system.locals x stored)
    lturn5 = turn_goes m lock1 lock2 system.value system.locals x again again stored (record { place = MemoryOf p; op = Store value }) Done next.there refl refl refl refl (settle_goes m system.value again stored Done refl refl refl)

    pub chain_some : 0 < length (own_free s f)
    chain_some = elim (cases_eq (length (own_free s f)) 0) [
      | inl none ↦ absurd (let t = chain-empty (pointer w z.cache f) z.head (own_free s f) own.chain none in omega (arith, t, marks.0))
      | inr d ↦ omega (arith, d)
    ]

    pub ltable1 : IsTable m lock1
    ltable1 = record { length = length-set system.words j a ∙ begin.table.length; locks = refl; cpu_words = refl; frames = begin.table.frames; objects = begin.table.objects }

    pub ltable2 : IsTable m lock2
    ltable2 = record { length = length-set lock1 (memory_base m + p) value ∙ ltable1.length; locks = refl; cpu_words = refl; frames = begin.table.frames; objects = begin.table.objects }

    -- up to the object's free pointer
    pub locked_turns : alone m x 5 system ≡ machine lock2 system.value (set system.locals x stored)
    locked_turns = ap (alone m x 5) (ap (machine system.words system.value) (sym (set-get_or system.locals x idle)))
        ∙ then_turn m x 4 (machine system.words system.value (set system.locals x l)) (machine system.words system.value (set system.locals x loaded)) (machine lock2 system.value (set system.locals x stored)) turn1
        (then_turn m x 3 (machine system.words system.value (set system.locals x loaded)) (machine system.words system.value (set system.locals x waits)) (machine lock2 system.value (set system.locals x stored)) lturn2
        (then_turn m x 2 (machine system.words system.value (set system.locals x waits)) (machine lock1 system.value (set system.locals x locked)) (machine lock2 system.value (set system.locals x stored)) lturn3
        (then_turn m x 1 (machine lock1 system.value (set system.locals x locked)) (machine lock1 system.value (set system.locals x again)) (machine lock2 system.value (set system.locals x stored)) lturn4
        (then_turn m x 0 (machine lock1 system.value (set system.locals x again)) (machine lock2 system.value (set system.locals x stored)) (machine lock2 system.value (set system.locals x stored)) lturn5 refl))))

    -- the list is short

    module _ (few_slabs : length (node_of s o.cache) < (layout_at s o.cache).min_partial) where
      short : nat_le (layout_at s o.cache).min_partial (length (frames_in (system.value j))) ≡ false
      short = elim (cases_Bool (nat_le (layout_at s o.cache).min_partial (length (frames_in (system.value j))))) [
        | inr no_more ↦ no_more
        | inl enough ↦ absurd (
            let le = leb-true (layout_at s o.cache).min_partial (length (frames_in (system.value j))) enough in
            let same = ap (λ v. length (frames_in v)) (sym (ap (λ value. value j) (value_of m system.value system.words)) ∙ resting.values j j_small) ∙ ap (length {A = ℕ}) (sym (resting.nodes o.cache)) in
            omega (arith, le, same, few_slabs))
      ]

      lturn6 : turn m (machine lock2 system.value (set system.locals x stored)) (own_pick x) ≡ machine lock3 system.value (set system.locals x giving)
      lturn6 = turn_goes m lock2 lock3 system.value system.locals x stored stored giving (record { place = SlabOf f; op = Exchange (slab_bits z) (slab_bits v) }) Won next.there refl refl
          (ap (λ h. set lock2 (slab_base + f) (cond {A = ℕ} h (slab_bits v) (get_or lock2 (slab_base + f) 0))) slab_hit) (ap (λ h. cond {A = Answer} h Won (Lost (get_or lock2 (slab_base + f) 0))) slab_hit)
          (settle_tells_once m system.value stored (at (loses stored) (InFree TakeOff)) giving Won reply refl (ap off short) refl refl)
        where
          mid : Local
          mid = answered (at (loses stored) (InFree TakeOff)) reply

          off : Bool → Change
          off h = record {
            value = cond {A = ℕ → LockValue} h (with_node system.value mid (without (node_in system.value mid) (here mid).frame)) system.value;
            local = cond {A = Local} h (at (with_hand mid (bare_hand (here mid).frame)) (InDiscard Unmake FromFree)) (at mid (InFree GiveFree));
            reply = None;
          }

      lturn7 : turn m (machine lock3 system.value (set system.locals x giving)) (own_pick x) ≡ machine lock4 system.value (set system.locals x (rested m told))
      lturn7 = turn_goes m lock3 lock4 system.value system.locals x giving giving (rested m told) (record { place = LockOf j; op = Store 0 }) Done next.there refl refl refl refl (settle_rests m system.value giving told Done refl refl)

      lock_whole : alone m x 7 system ≡ machine lock4 system.value (set system.locals x (rested m told))
      lock_whole = alone_then m x 5 2 7 system (machine lock2 system.value (set system.locals x stored)) (machine lock4 system.value (set system.locals x (rested m told))) refl locked_turns
          (then_turn m x 1 (machine lock2 system.value (set system.locals x stored)) (machine lock3 system.value (set system.locals x giving)) (machine lock4 system.value (set system.locals x (rested m told))) lturn6
          (then_turn m x 0 (machine lock3 system.value (set system.locals x giving)) (machine lock4 system.value (set system.locals x (rested m told))) (machine lock4 system.value (set system.locals x (rested m told))) lturn7 refl))

      ltable3 : IsTable m lock3
      ltable3 = record { length = length-set lock2 (slab_base + f) (slab_bits v) ∙ ltable2.length; locks = refl; cpu_words = refl; frames = begin.table.frames; objects = begin.table.objects }

      lock_says : world_of m system.value lock4 ≡ put
      lock_says = world_of-lock m system.value lock3 j 0 ltable3 j_small
          ∙ ap (λ w. set_lock w j 0) (world_of-slab m system.value lock2 f (slab_bits v) ltable2 within.1
          ∙ ap (λ w. set_slab w f (slab_in (slab_bits v))) (world_of-memory m system.value lock1 p value ltable1 p_inside ∙ ap (λ w. set_memory w p value) (world_of-lock m system.value system.words j a begin.table j_small))
          ∙ ap (set_slab (set_memory (set_lock w j a) p value) f) (slab_in-bits v fit))
          ∙ ap with_locks (update_back w.lock j a 0 lock_free)
        where
          with_locks : (ℕ → ℕ) → World
          with_locks g = record w { slab = update w.slab f v; memory = update w.memory p value; lock = g }

      lock_settles : (live : Cache) → cache_of s o.cache ≡ Some live → settled (with_freed (with_taken s (call_object call) o.cache) f o.index) live.layout o.cache (call_cpu call) f (own_free s f) ≡ with_freed (with_taken s (call_object call) o.cache) f o.index
      lock_settles live e = go (own_free s f) chain_some
        where
          min_is : live.layout.min_partial ≡ (layout_at s o.cache).min_partial
          min_is = ap (λ (y : Layout). y.min_partial) (sym (layout_of s o.cache live e))

          spared : is_spare (with_freed (with_taken s (call_object call) o.cache) f o.index) live.layout.min_partial o.cache f && nat_lt 0 (times f (node_of s o.cache)) ≡ false
          spared = ap (λ h. h && nat_lt 0 (times f (node_of s o.cache))) (and_no (eqb (inuse_of (with_freed (with_taken s (call_object call) o.cache) f o.index) f) 0) (elim (cases_Bool (nat_le live.layout.min_partial (length (node_of s o.cache)))) [
            | inr no_more ↦ no_more
            | inl enough ↦ absurd (let le = leb-true live.layout.min_partial (length (node_of s o.cache)) enough in omega (arith, le, few_slabs, min_is))
          ]))

          go : (free : List ℕ) → 0 < length free → settled (with_freed (with_taken s (call_object call) o.cache) f o.index) live.layout o.cache (call_cpu call) f free ≡ with_freed (with_taken s (call_object call) o.cache) f o.index
          go [] none = absurd (omega arith)
          go (i ∷ free) more =
              cond-false {A = State} (is_frozen s f) (with_freed (with_taken s (call_object call) o.cache) f o.index) (without_spare (with_freed (with_taken s (call_object call) o.cache) f o.index) live.layout.min_partial o.cache f) (frozen_is ∙ marks.1)
              ∙ cond-false {A = State} (is_spare (with_freed (with_taken s (call_object call) o.cache) f o.index) live.layout.min_partial o.cache f && nat_lt 0 (times f (node_of s o.cache))) (discarded (without_slab (with_freed (with_taken s (call_object call) o.cache) f o.index) o.cache f) f) (with_freed (with_taken s (call_object call) o.cache) f o.index) spared

      put_locked : FreesAlone opening s b system x call 7 b
      put_locked = puts 6 lock4 lock_whole lock_says
          (whole_lock m lock3 j 0 j_small (whole_slab m lock2 f v refl (omega (arith, ltable2.length, within.1)) fit (whole_memory m lock1 p value refl begin.table.objects (whole_lock m system.words j a j_small rest.whole))))
          (omega (arith, inuse_one)) lock_settles

pub in_place : FreesInPlaceArePuts
in_place opening s b system x call rest next is away stays = put_in_place opening s b system x call rest next is away stays

pub last_kept : LastOfListedAreKept
last_kept opening s b system x call rest next is on_node one few_slabs =
    let known = known_at (worker_at system x) call in
    let away = node_away s known.cache known.cache (call_cpu call) known.frame (ready_starts opening s b system x call rest next).consistent on_node in
    put_locked opening s b system x call rest next is away on_node one few_slabs
