-- The slabs that follow the first one off a node list, under its lock: each goes to the front of the CPU's partial list in five turns.
use Rattle.std.proofs.Common.{◌≡◌, ℕ, zero, suc, ◌+◌, ◌*◌, ◌/◌, ◌^◌, ◌<◌, ◌≤◌, eqb, cond, Bool, true, false, List, [], ◌∷◌, length, take, drop, get_or, set, Some, None, refl, ap, sym, ◌∙◌, arith}
use Rattle.std.specs.Prelude.{nat_le, ◌||◌, ◌==◌}
use Rattle.std.proofs.lemmas.Bool.{eq-eqb, le-leb, lt-leb, cond-true, cond-false}
use Rattle.std.proofs.lemmas.List.{get_or-set_same, get_or-set_other, set-get_or, length-set}
use Rattle.slub_common.specs.Times.{times}
use Rattle.slub_words.specs.declared.slab.SlabWord.{SlabWord}
use Rattle.slub_words.specs.Words.{slab_bits}
use Rattle.slub_cpu_partial.specs.declared.words.ListWord.{ListWord}
use Rattle.slub_cpu_partial.specs.Strings.{list_bits}
use Rattle.slub_core.specs.declared.local.Hand.{Hand}
use Rattle.slub_core.specs.declared.spot.Spot.{Spot}
use Rattle.slub_core.specs.declared.spot.Spot.TheVariants.{InAlloc, InPutOnList}
use Rattle.slub_core.specs.declared.spot.AllocSpot.TheVariants.{PopNode, LoadPopped, Unlist, GiveNode}
use Rattle.slub_core.specs.declared.spot.PutOnListSpot.TheVariants.{LoadList, LinkString, PushString}
use Rattle.slub_core.specs.declared.spot.PutOnList.TheVariants.{OfNode}
use Rattle.slub_core.specs.declared.step.Answer.{Answer}
use Rattle.slub_core.specs.declared.step.Answer.TheVariants.{Word, Done, Won, Lost}
use Rattle.slub_core.specs.declared.step.Op.TheVariants.{Load, Store, Exchange}
use Rattle.slub_core.specs.declared.step.Place.TheVariants.{SlabOf, ListOf, LinkOf}
use Rattle.slub_core.specs.Setup.{Setup, node_lock}
use Rattle.slub_core.specs.Words.{slab_in, list_in, slab_base, list_base, link_base}
use Rattle.slub_core.specs.World.{LockValue, Node, update, set_slab, set_list, set_link, world_of, frames_in}
use Rattle.slub_core.specs.Local.{Local, Turn, Change, bare_hand, goes, stays}
use Rattle.slub_core.specs.Ops.{own_cpu}
use Rattle.slub_core.specs.Alloc.{unlisted_word, way_of_popped, asks_for_another, pop_node, single_string}
use Rattle.slub_core.specs.PutOnList.{way_of_front}
use Rattle.slub_core.specs.Steps.{at_once, rested}
use Rattle.slub_core.specs.Run.{System, turn}
use Rattle.slub_core.proofs.Lists.{times-first}
use Rattle.slub_core.proofs.Packed.{IsSlabFit, slab_in-bits, IsListFit, list_in-bits}
use Rattle.slub_core.proofs.Update.{update_same}
use Rattle.slub_core.proofs.StepWords.{IsTable, world_of-slab, world_of-list, world_of-link, slab-read, list-read}
use Rattle.slub_law_alone.specs.Alone.{own_pick, alone, AreWhole}
use Rattle.slub_law_alone.proofs.Bits.{whole_slab, whole_list_word, whole_link}
use Rattle.slub_law_alone.proofs.NewSlabSearch.{turn_changes, settle_does}
use Rattle.slub_law_alone.proofs.OwnTaken.{update_twice}
use Rattle.slub_law_alone.proofs.Pushed.{slab_fits, first_of, pushed_world, pushed_none, pushed_more}
use Rattle.slub_law_alone.proofs.Turns.{machine, turn_goes, settle_goes, then_turn}

-- ---- turns

-- five for each slab, and so many more
abbrev pub batch_turns : List ℕ → ℕ → ℕ
batch_turns [] t = t
batch_turns (g ∷ gs) t = suc (suc (suc (suc (suc (batch_turns gs t)))))

pub batch_turns_are : (gs : List ℕ) (t : ℕ) → batch_turns gs t ≡ 5 * length gs + t
batch_turns_are [] t = omega arith
batch_turns_are (g ∷ gs) t = let r = batch_turns_are gs t in omega (arith, r)

-- a pop has no reply, and at the spot to which it leads nothing is done at once
pub record IsQuiet (m : Setup) (c : Change) : Type 0 where
  pub told : c ≡ stays c.value c.local
  pub waits : at_once m false c.value c.local c.local.spot ≡ stays c.value c.local
  pub rests : rested m c.local ≡ c.local

pub pop_quiet : (m : Setup) (value : ℕ → LockValue) (l : Local) (gs : List ℕ) → IsQuiet m (pop_node m value l gs)
pop_quiet m value l [] = record { told = refl; waits = refl; rests = refl }
pop_quiet m value l (g ∷ gs) = by (asks_for_another m l)
  where
    by : (z : Bool) → IsQuiet m (cond z (stays (update value (node_lock l.cache) (Node gs)) (record l { hands = bare_hand g ∷ l.hands; spot = InAlloc LoadPopped })) (stays value (record l { spot = InAlloc GiveNode })))
    by true = record { told = refl; waits = refl; rests = refl }
    by false = record { told = refl; waits = refl; rests = refl }

-- the worker has the node lock, and one slab in hand
module _ (m : Setup) (ls : List Local) (x : ℕ) (l : Local) (h : Hand) (value : ℕ → LockValue) (below : x < length ls) (bare : l.hands ≡ []) where
  abbrev pub n : ℕ
  n = own_cpu l

  abbrev pub half : ℕ
  half = (m.layout l.cache).cpu_partial_slabs / 2

  -- the node list has these slabs
  abbrev pub holds : List ℕ → ℕ → LockValue
  holds gs = update value (node_lock l.cache) (Node gs)

  abbrev pub pops : SlabWord → ListWord → ℕ → Local
  pops z y i = record l { spot = InAlloc PopNode; hands = h ∷ l.hands; slab_word = z; list_word = y; string = None; put = i }

  abbrev pub gives : SlabWord → ListWord → ℕ → Local
  gives z y i = record l { spot = InAlloc GiveNode; hands = h ∷ l.hands; slab_word = z; list_word = y; string = None; put = i }

  abbrev popped : ℕ → SlabWord → ListWord → ℕ → Local
  popped g z y i = record l { spot = InAlloc LoadPopped; hands = bare_hand g ∷ h ∷ l.hands; slab_word = z; list_word = y; string = None; put = i }

  -- the machine once it has looked for another slab
  abbrev pub looks : List ℕ → List ℕ → SlabWord → ListWord → ℕ → System
  looks words gs z y i = let c = pop_node m (holds gs) (pops z y i) gs in machine words c.value (set ls x c.local)

  asks : (z : SlabWord) (y : ListWord) (i : ℕ) → asks_for_another m (pops z y i) ≡ nat_le i half
  asks z y i = ap (λ (hands : List Hand). (length (h ∷ hands) == 0) || nat_le i half) bare

  takes_one : (g : ℕ) (gs : List ℕ) (z : SlabWord) (y : ListWord) (i : ℕ) → i ≤ half → pop_node m (holds (g ∷ gs)) (pops z y i) (g ∷ gs) ≡ stays (holds gs) (popped g z y i)
  takes_one g gs z y i few = cond-true (asks_for_another m (pops z y i)) _ _ (asks z y i ∙ le-leb i half few) ∙ ap (λ value. stays value (popped g z y i)) (update_twice value (node_lock l.cache) (Node (g ∷ gs)) (Node gs))

  takes_none : (gs : List ℕ) (z : SlabWord) (y : ListWord) (i : ℕ) → half < i → pop_node m (holds gs) (pops z y i) gs ≡ stays (holds gs) (gives z y i)
  takes_none [] z y i many = refl
  takes_none (g ∷ gs) z y i many = cond-false (asks_for_another m (pops z y i)) _ _ (asks z y i ∙ lt-leb i half many)

  -- ---- the turns of one slab

  module _ (words gs : List ℕ) (g i : ℕ) (z0 z : SlabWord) (y0 y : ListWord) where
    abbrev pub words1 : List ℕ
    words1 = set words (slab_base + g) (slab_bits (unlisted_word z))

    abbrev pub words2 : List ℕ
    words2 = set words1 (link_base m + g) y.front

    abbrev pub longer : ListWord
    longer = record { front = g; count = y.count + 1 }

    abbrev pub words3 : List ℕ
    words3 = set words2 (list_base + n) (list_bits longer)

    abbrev seen : Local
    seen = record (popped g z0 y0 i) { slab_word = z; spot = InAlloc Unlist }

    abbrev strung : Local
    strung = record l { spot = InPutOnList LoadList OfNode; hands = h ∷ l.hands; slab_word = z; list_word = y0; string = Some (single_string g); put = i }

    abbrev linking : Local
    linking = record strung { list_word = y; spot = InPutOnList LinkString OfNode }

    abbrev pushing : Local
    pushing = record linking { string = Some (record { front = g; count = 1; cursor = g; place = 1; link = Some y.front }); spot = InPutOnList PushString OfNode }

    slab_turns : (t : ℕ) (r : System) → n < 512 → g < m.frames → 1 ≤ m.objects → IsSlabFit z → IsListFit y → get_or words (slab_base + g) 0 ≡ slab_bits z → get_or words (list_base + n) 0 ≡ list_bits y → alone m x t (looks words3 gs z y (i + 1)) ≡ r
        → alone m x (suc (suc (suc (suc (suc t))))) (machine words (holds gs) (set ls x (popped g z0 y0 i))) ≡ r
    slab_turns t r small inside some fit_z fit_y slab_there list_there ends =
        then_turn m x (suc (suc (suc (suc t)))) (machine words (holds gs) (set ls x (popped g z0 y0 i))) (machine words (holds gs) (set ls x seen)) r turn1
        (then_turn m x (suc (suc (suc t))) (machine words (holds gs) (set ls x seen)) (machine words1 (holds gs) (set ls x strung)) r turn2
        (then_turn m x (suc (suc t)) (machine words1 (holds gs) (set ls x strung)) (machine words1 (holds gs) (set ls x linking)) r turn3
        (then_turn m x (suc t) (machine words1 (holds gs) (set ls x linking)) (machine words2 (holds gs) (set ls x pushing)) r turn4
        (then_turn m x t (machine words2 (holds gs) (set ls x pushing)) (looks words3 gs z y (i + 1)) r turn5 ends))))
      where
        slab_hit : eqb (get_or words (slab_base + g) 0) (slab_bits z) ≡ true
        slab_hit = eq-eqb (get_or words (slab_base + g) 0) (slab_bits z) slab_there

        list_still : get_or words1 (list_base + n) 0 ≡ list_bits y
        list_still = get_or-set_other words (slab_base + g) (list_base + n) (slab_bits (unlisted_word z)) 0 (λ e. absurd (omega (arith, e, small))) ∙ list_there

        list_last : get_or words2 (list_base + n) 0 ≡ list_bits y
        list_last = get_or-set_other words1 (link_base m + g) (list_base + n) y.front 0 (λ e. absurd (omega (arith, e, small))) ∙ list_still

        list_hit : eqb (get_or words2 (list_base + n) 0) (list_bits y) ≡ true
        list_hit = eq-eqb (get_or words2 (list_base + n) 0) (list_bits y) list_last

        turn1 : turn m (machine words (holds gs) (set ls x (popped g z0 y0 i))) (own_pick x) ≡ machine words (holds gs) (set ls x seen)
        turn1 = turn_goes m words words (holds gs) ls x (popped g z0 y0 i) (popped g z0 y0 i) seen (record { place = SlabOf g; op = Load }) (Word (get_or words (slab_base + g) 0)) below refl refl (set-get_or words (slab_base + g) 0) refl
            (settle_goes m (holds gs) (popped g z0 y0 i) seen (Word (get_or words (slab_base + g) 0)) (ap by_word (ap slab_in slab_there ∙ slab_in-bits z fit_z) ∙ ap by_spot way) refl refl)
          where
            by_word : SlabWord → Turn
            by_word z = goes (record (popped g z0 y0 i) { slab_word = z; spot = way_of_popped (bare_hand g ∷ h ∷ l.hands) })

            by_spot : Spot → Turn
            by_spot spot = goes (record (popped g z0 y0 i) { slab_word = z; spot = spot })

            way : way_of_popped (bare_hand g ∷ h ∷ l.hands) ≡ InAlloc Unlist
            way = ap (λ (hands : List Hand). way_of_popped (bare_hand g ∷ h ∷ hands)) bare

        turn2 : turn m (machine words (holds gs) (set ls x seen)) (own_pick x) ≡ machine words1 (holds gs) (set ls x strung)
        turn2 = turn_goes m words words1 (holds gs) ls x seen seen strung (record { place = SlabOf g; op = Exchange (slab_bits z) (slab_bits (unlisted_word z)) }) Won below refl refl
            (ap (λ h. set words (slab_base + g) (cond {A = ℕ} h (slab_bits (unlisted_word z)) (get_or words (slab_base + g) 0))) slab_hit) (ap (λ h. cond {A = Answer} h Won (Lost (get_or words (slab_base + g) 0))) slab_hit)
            (settle_goes m (holds gs) seen strung Won refl refl refl)

        turn3 : turn m (machine words1 (holds gs) (set ls x strung)) (own_pick x) ≡ machine words1 (holds gs) (set ls x linking)
        turn3 = turn_goes m words1 words1 (holds gs) ls x strung strung linking (record { place = ListOf n; op = Load }) (Word (get_or words1 (list_base + n) 0)) below refl refl (set-get_or words1 (list_base + n) 0) refl
            (settle_goes m (holds gs) strung linking (Word (get_or words1 (list_base + n) 0)) (ap by_list (ap list_in list_still ∙ list_in-bits y fit_y)) refl refl)
          where
            by_list : ListWord → Turn
            by_list list = goes (record strung { list_word = list; spot = way_of_front (single_string g) list.front OfNode })

        turn4 : turn m (machine words1 (holds gs) (set ls x linking)) (own_pick x) ≡ machine words2 (holds gs) (set ls x pushing)
        turn4 = turn_goes m words1 words2 (holds gs) ls x linking linking pushing (record { place = LinkOf g; op = Store y.front }) Done below refl refl refl refl (settle_goes m (holds gs) linking pushing Done refl refl refl)

        c : Change
        c = pop_node m (holds gs) (pops z y (i + 1)) gs

        turn5 : turn m (machine words2 (holds gs) (set ls x pushing)) (own_pick x) ≡ looks words3 gs z y (i + 1)
        turn5 =
            let quiet = pop_quiet m (holds gs) (pops z y (i + 1)) gs in
            turn_changes m words2 words3 (holds gs) c.value ls x pushing pushing c.local (record { place = ListOf n; op = Exchange (list_bits y) (list_bits longer) }) Won below refl refl
            (ap (λ h. set words2 (list_base + n) (cond {A = ℕ} h (list_bits longer) (get_or words2 (list_base + n) 0))) list_hit) (ap (λ h. cond {A = Answer} h Won (Lost (get_or words2 (list_base + n) 0))) list_hit)
            (settle_does m (holds gs) c.value pushing (pops z y (i + 1)) c.local Won None refl (ap (pop_node m (holds gs) (pops z y (i + 1))) (ap frames_in (update_same value (node_lock l.cache) (Node gs))) ∙ quiet.told) quiet.waits quiet.rests)

    -- the same in words
    slab_says : IsTable m words → n < 512 → g < m.frames → IsSlabFit z → IsListFit longer → (world_of m value words).slab g ≡ z → let w = world_of m value words in
        world_of m value words3 ≡ record w { list = update w.list n longer; slab = update w.slab g (unlisted_word (w.slab g)); link = update w.link g y.front }
    slab_says table small inside fit_z fit_longer reads =
        let w = world_of m value words in
        world_of-list m value words2 n (list_bits longer) table2 (omega (arith, small, table.cpu_words))
        ∙ ap (λ w. set_list w n (list_in (list_bits longer))) (world_of-link m value words1 g y.front table1 inside ∙ ap (λ w. set_link w g y.front) (world_of-slab m value words g (slab_bits (unlisted_word z)) table inside ∙ ap (set_slab w g) (slab_in-bits (unlisted_word z) fit_z)))
        ∙ ap (set_list (set_link (set_slab w g (unlisted_word z)) g y.front) n) (list_in-bits longer fit_longer)
        ∙ ap (λ (z : SlabWord). record w { list = update w.list n longer; slab = update w.slab g (unlisted_word z); link = update w.link g y.front }) (sym reads)
      where
        table1 : IsTable m words1
        table1 = record { length = length-set words (slab_base + g) (slab_bits (unlisted_word z)) ∙ table.length; locks = table.locks; cpu_words = table.cpu_words; frames = table.frames; objects = table.objects }

        table2 : IsTable m words2
        table2 = record { length = length-set words1 (link_base m + g) y.front ∙ table1.length; locks = table.locks; cpu_words = table.cpu_words; frames = table.frames; objects = table.objects }

    slab_table : IsTable m words → IsTable m words3
    slab_table table = record {
      length = length-set words2 (list_base + n) (list_bits longer) ∙ length-set words1 (link_base m + g) y.front ∙ length-set words (slab_base + g) (slab_bits (unlisted_word z)) ∙ table.length;
      locks = table.locks;
      cpu_words = table.cpu_words;
      frames = table.frames;
      objects = table.objects;
    }

    slab_whole : IsTable m words → n < 512 → g < m.frames → IsSlabFit z → IsListFit longer → AreWhole m words → AreWhole m words3
    slab_whole table small inside fit_z fit_longer whole =
        let long1 = length-set words (slab_base + g) (slab_bits (unlisted_word z)) in
        let long2 = length-set words1 (link_base m + g) y.front in
        whole_list_word m words2 n longer table.cpu_words small (omega (arith, small, long1, long2, table.length)) fit_longer (whole_link m words1 g y.front table.cpu_words table.objects (whole_slab m words g (unlisted_word z) table.cpu_words (omega (arith, inside, table.length)) fit_z whole))

  -- ---- the whole batch

  -- these slabs went to the partial list, whose word was this, and those are left on the node list
  pub record Pushed (words : List ℕ) (start : System) (left gs : List ℕ) (list : ListWord) : Type 0 where
    pub after : List ℕ
    pub slab_word : SlabWord
    pub list_word : ListWord
    pub put : ℕ
    pub ran : (t : ℕ) (r : System) → alone m x t (machine after (holds left) (set ls x (gives slab_word list_word put))) ≡ r → alone m x (batch_turns gs t) start ≡ r
    pub says : world_of m value after ≡ pushed_world n (world_of m value words) list gs
    pub table : IsTable m after
    pub whole : AreWhole m after
    pub slab_fit : IsSlabFit slab_word
    pub list_fit : IsListFit list_word

  stops : (words gs : List ℕ) (z : SlabWord) (y0 y : ListWord) (i : ℕ) → pop_node m (holds gs) (pops z y0 i) gs ≡ stays (holds gs) (gives z y0 i) → n < 512 → IsTable m words → AreWhole m words → get_or words (list_base + n) 0 ≡ list_bits y → IsListFit y → IsSlabFit z → IsListFit y0
      → Pushed words (looks words gs z y0 i) gs [] y
  stops words gs z y0 y i none small table whole there fit slab_fit list_fit = record {
    after = words;
    slab_word = z;
    list_word = y0;
    put = i;
    ran = λ t r ends. ap (λ (c : Change). alone m x t (machine words c.value (set ls x c.local))) none ∙ ends;
    says = pushed_none n (world_of m value words) y (list-read m value words n (omega (arith, small, table.cpu_words)) ∙ ap list_in there ∙ list_in-bits y fit);
    table = table;
    whole = whole;
    slab_fit = slab_fit;
    list_fit = list_fit;
  }

  -- one slab, and then those that follow it
  module _ (c i : ℕ) (words : List ℕ) (g : ℕ) (gs : List ℕ) (z : SlabWord) (y0 y : ListWord) (small : n < 512) (within : g < m.frames) (few : m.frames < 2 ^ 16) (room : y.count + 1 < 2 ^ 16) (table : IsTable m words) (whole : AreWhole m words) where
    abbrev word : ℕ
    word = get_or words (slab_base + g) 0

    abbrev v : SlabWord
    v = slab_in word

    abbrev next : ListWord
    next = record { front = g; count = y.count + 1 }

    abbrev then_words : List ℕ
    then_words = words3 words gs g i z v y0 y

    next_fit : IsListFit next
    next_fit = (omega (arith, within, few), room)

    then_table : IsTable m then_words
    then_table = slab_table words gs g i z v y0 y table

    then_whole : AreWhole m then_words
    then_whole = slab_whole words gs g i z v y0 y table small within (slab_fits word) next_fit whole

    then_there : get_or then_words (list_base + n) 0 ≡ list_bits next
    then_there =
        let t = then_table.length in
        let long = length-set (words2 words gs g i z v y0 y) (list_base + n) (list_bits next) in
        get_or-set_same (words2 words gs g i z v y0 y) (list_base + n) (list_bits next) 0 (omega (arith, small, t, long))

    goes_on : i ≤ half → get_or words (list_base + n) 0 ≡ list_bits y → IsListFit y → Pushed then_words (looks then_words gs v y (i + 1)) (drop c gs) (take c gs) next → Pushed words (looks words (g ∷ gs) z y0 i) (drop c gs) (g ∷ take c gs) y
    goes_on more there fit rest = record {
      after = rest.after;
      slab_word = rest.slab_word;
      list_word = rest.list_word;
      put = rest.put;
      ran = λ t r ends. ap (λ (c : Change). alone m x (batch_turns (g ∷ gone) t) (machine words c.value (set ls x c.local))) (takes_one g gs z y0 i more)
          ∙ slab_turns words gs g i z v y0 y (batch_turns gone t) r small within table.objects (slab_fits word) fit (sym (whole.slab g within)) there (rest.ran t r ends);
      says = rest.says ∙ ap (λ w. pushed_world n w next gone) (slab_says words gs g i z v y0 y table small within (slab_fits word) next_fit (slab-read m value words g within)) ∙ pushed_more n (world_of m value words) y g gone;
      table = rest.table;
      whole = rest.whole;
      slab_fit = rest.slab_fit;
      list_fit = rest.list_fit;
    }
      where
        gone : List ℕ
        gone = take c gs

  -- c more slabs are asked for
  pub batch_goes : (c i : ℕ) (words gs : List ℕ) (z : SlabWord) (y0 y : ListWord) → i + c ≡ suc half → y.count + c < 2 ^ 16 → m.frames < 2 ^ 16 → n < 512 → IsTable m words → AreWhole m words → get_or words (list_base + n) 0 ≡ list_bits y → IsListFit y → IsSlabFit z → IsListFit y0 → ((g : ℕ) → 1 ≤ times g gs → g < m.frames)
      → Pushed words (looks words gs z y0 i) (drop c gs) (take c gs) y
  batch_goes zero i words gs z y0 y sum room few small table whole there fit slab_fit list_fit inside = stops words gs z y0 y i (takes_none gs z y0 i (omega (arith, sum))) small table whole there fit slab_fit list_fit
  batch_goes (suc c) i words [] z y0 y sum room few small table whole there fit slab_fit list_fit inside = stops words [] z y0 y i refl small table whole there fit slab_fit list_fit
  batch_goes (suc c) i words (g ∷ gs) z y0 y sum room few small table whole there fit slab_fit list_fit inside =
      let within = inside g (let t = first_of g gs in omega (arith, t)) in
      let less : y.count + 1 < 2 ^ 16 = omega (arith, room) in
      goes_on c i words g gs z y0 y small within few less table whole (omega (arith, sum)) there fit
      (batch_goes c (i + 1) (then_words c i words g gs z y0 y small within few less table whole) gs (v c i words g gs z y0 y small within few less table whole) y (next c i words g gs z y0 y small within few less table whole) (omega (arith, sum)) (omega (arith, room)) few small
      (then_table c i words g gs z y0 y small within few less table whole) (then_whole c i words g gs z y0 y small within few less table whole) (then_there c i words g gs z y0 y small within few less table whole) (next_fit c i words g gs z y0 y small within few less table whole)
      (slab_fits (get_or words (slab_base + g) 0)) fit (λ j some. inside j (let t = times-first j g gs in omega (arith, t, some))))
