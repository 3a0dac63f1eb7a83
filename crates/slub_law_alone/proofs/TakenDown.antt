-- A current slab that is taken down: its CPU freelist stands before its own, it is unfrozen and on no list, and its CPU has no slab. All else rests as it did.
use Rattle.std.proofs.Common.{◌≡◌, ℕ, ◌+◌, ◌-◌, ◌*◌, ◌/◌, ◌<◌, ◌≤◌, ◌^◌, false, List, [], ◌++◌, length, get_or, set, Some, None, option_map, inl, inr, refl, ap, sym, ◌∙◌, subst, arith, length-append}
use Rattle.std.specs.Prelude.{nat_lt}
use Rattle.std.specs.Option.{option_map_or}
use Rattle.std.proofs.lemmas.Bool.{cases_eq}
use Rattle.std.proofs.lemmas.List.{get_or-set_same, get_or-set_other, length-set}
use Rattle.slub_common.specs.Times.{times}
use Rattle.slub_words.specs.declared.cpu.CpuWord.{CpuWord}
use Rattle.slub_words.specs.declared.slab.SlabWord.{SlabWord}
use Rattle.slub_lists.specs.declared.lists.CpuLists.{CpuLists}
use Rattle.slub_lists.specs.declared.lists.Slab.{Slab}
use Rattle.slub_lists.specs.declared.lists.Held.{Held}
use Rattle.slub_lists.specs.State.{State}
use Rattle.slub_lists.specs.Alloc.{checked_of, cpu_place, lists_of, marked, node_of, own_free, slab_of}
use Rattle.slub_lists.specs.Coherent.{IsConsistent, held_under}
use Rattle.slub_lists.specs.Free.{inuse_of}
use Rattle.slub_lists.specs.Places.{IsCurrent}
use Rattle.slub_lists.specs.Shrink.{taken_down}
use Rattle.slub_lists.proofs.Coherence.{place-inside}
use Rattle.slub_lists.proofs.Flushing.{down-consistent, down-unlisted, own-slot, slot}
use Rattle.slub_lists.proofs.Listed.{node-counted}
use Rattle.slub_lists.proofs.Places.{own-length}
use Rattle.slub_core.specs.Setup.{cpu_number}
use Rattle.slub_core.specs.Local.{Local}
use Rattle.slub_core.specs.World.{World, update, set_cpu, pointer, IsChain}
use Rattle.slub_core.specs.Fresh.{IsWorded}
use Rattle.slub_core.proofs.Packed.{IsSlabFit}
use Rattle.slub_core.proofs.Update.{update_same, update_other, each_updated}
use Rattle.slub_law_opening.specs.Opening.{Beside, cpu_at, tid_of}
use Rattle.slub_law_opening.specs.Rests.{IsFreelistOf, KeepsWord, Rests, slab_at}
use Rattle.slub_law_opening.specs.Closing.{HasLengths}
use Rattle.slub_law_opening.proofs.Cpus.{current-at}
use Rattle.slub_calls.specs.Changes.{grown}
use Rattle.slub_law_alone.proofs.Apart.{IsSlabAt, slab_word}
use Rattle.slub_law_alone.proofs.Changed.{rests_relisted, slab_as_it_was}
use Rattle.slub_law_alone.proofs.CpuWords.{cpus_changed}
use Rattle.slub_law_alone.proofs.SpentSlab.{slab_marked}
use Rattle.slub_calls.proofs.ChangeNumbers.{cpu_here}

module _ (s : State) (b : Beside) (w : World) (ls : List Local) (k c f : ℕ) (rests : Rests s b w ls) (consistent : IsConsistent s) (inside : k < 32) (below : c < s.cpus) (current : (lists_of s k c).current ≡ Some f) (plain : checked_of s k ≡ None)
    (long : HasLengths s) (tids : length b.tids ≡ 512) (some : 1 ≤ (w.slab f).objects) where
  abbrev pub n : ℕ
  n = cpu_number k c

  abbrev pub lists : CpuLists
  lists = lists_of s k c

  abbrev pub z : SlabWord
  z = w.slab f

  few : s.cpus ≤ 16
  few = consistent.shaped.cpus.1

  pub small : n < 512
  small = omega (arith, inside, below, few)

  pub at_cpu : cpu_at s n ≡ lists
  at_cpu = cpu_here s k c below few

  pub number : n / 16 ≡ k
  number = omega (arith, below, few)

  -- ---- the slab

  pub there : IsSlabAt s w f
  there = slab_word s b w ls rests f some

  is_current : IsCurrent s k f
  is_current = subst (λ k. IsCurrent s k f) number (current-at s n f consistent (ap (λ (x : CpuLists). x.current) at_cpu ∙ current))

  injected : {x y : Slab} → Some x ≡ Some y → x ≡ y
  injected e = cc

  pub cache : z.cache ≡ k
  cache = sym there.cache ∙ ap (λ (x : Slab). x.cache) (injected (sym there.there ∙ is_current.there)) ∙ is_current.own

  abbrev pub t : State
  t = taken_down s k c f

  pub down : IsConsistent t
  down = down-consistent s k c consistent inside below f current plain

  abbrev pub joined : List ℕ
  joined = lists.free ++ own_free s f

  pub own_t : own_free t f ≡ joined
  own_t = get_or-set_same s.frees f joined [] (own-slot s k c consistent inside below f current)

  pub slab_t : slab_of t f ≡ Some (record there.slab { frozen = false })
  slab_t = get_or-set_same s.slabs f (option_map (marked false) (slab_of s f)) None (slot s k c consistent inside below f current) ∙ ap (option_map (marked false)) there.there

  room : length joined ≤ z.objects
  room = let le = own-length t f (record there.slab { frozen = false }) down slab_t in let e = ap (length {A = ℕ}) own_t in let o = there.objects in omega (arith, le, e, o)

  pub sums : length joined ≡ length lists.free + length (own_free s f)
  sums = length-append lists.free (own_free s f)

  in_use : z.inuse + length (own_free s f) ≡ z.objects
  in_use = (rests.own f).in_use

  pub used : inuse_of t f ≡ z.inuse - length lists.free
  used =
      let o : option_map_or (λ (y : Slab). y.objects) (slab_of t f) 0 ≡ z.objects = ap (λ o. option_map_or (λ (y : Slab). y.objects) o 0) slab_t ∙ there.objects in
      let e = ap (length {A = ℕ}) own_t in
      omega (arith, o, e, sums, in_use, room)

  -- no node list has it
  pub off_nodes : (j : ℕ) → times f (node_of t j) ≡ 0
  off_nodes j = let none = down-unlisted s k c consistent inside below f current in let le = node-counted t f j in omega (arith, none, le)

  -- ---- the words

  module _ (bytes : ℕ → ℕ) (head : ℕ) (fit : head < 2 ^ 16) where
    abbrev pub d : CpuWord
    d = record { tid = (w.cpu n).tid + b.step; frame = 0; head = 0 }

    abbrev pub e : SlabWord
    e = record z { head = head; inuse = z.inuse - length lists.free; frozen = false; listed = false }

    abbrev pub v : World
    v = record w { cpu = update w.cpu n d; slab = update w.slab f e; memory = bytes }

    pub fits : IsSlabFit e
    fits = (fit, (let h = (rests.words.slab f).1 in omega (arith, h)), (rests.words.slab f).2, (rests.words.slab f).3)

    abbrev left : CpuLists
    left = record { current = None; free = []; partial = lists.partial }

    at_word : (P : ℕ → SlabWord → Type 0) → P f e → ((g : ℕ) → P g (w.slab g)) → (g : ℕ) → P g (update w.slab f e g)
    at_word P here there = each_updated w.slab f e P here (λ g d. there g)

    slabs_are : (g : ℕ) → get_or (set s.slabs f (option_map (marked false) (slab_of s f))) g None ≡ slab_at v g
    slabs_are g = elim (cases_eq g f) [
      | inl same ↦ ap (λ g. get_or (set s.slabs f (option_map (marked false) (slab_of s f))) g None) same ∙ get_or-set_same s.slabs f (option_map (marked false) (slab_of s f)) None (slot s k c consistent inside below f current) ∙ ap (option_map (marked false)) (rests.slab f)
          ∙ sym (slab_marked false w v f refl refl (ap (λ (c : SlabWord). c.objects) (update_same w.slab f e)) (ap (λ (c : SlabWord). c.cache) (update_same w.slab f e)) (ap (λ (c : SlabWord). c.frozen) (update_same w.slab f e))) ∙ ap (slab_at v) (sym same)
      | inr other ↦ get_or-set_other s.slabs f g (option_map (marked false) (slab_of s f)) None other ∙ rests.slab g ∙ sym (slab_as_it_was w v g refl refl (update_other w.slab f e g other))
    ]

    pub rests_down : IsWorded (set_cpu w n d) → IsChain (pointer v k f) head joined → ((q : ℕ) → q < 512 → (q ≡ n → ⊥) → IsChain (pointer v (q / 16) (w.cpu q).frame) (w.cpu q).head (cpu_at s q).free)
        → ((g : ℕ) → IsChain (pointer v (w.slab g).cache g) (w.slab g).head (own_free s g)) → ((o word : ℕ) (held : Held) → held_under s o ≡ Some held → KeepsWord s v held word) → Rests t (grown b n 1) v ls
    rests_down worded chain cpus owns words =
        rests_relisted s b w ls (set s.slabs f (option_map (marked false) (slab_of s f))) (set s.frees f joined) (set s.cpu_lists (cpu_place s k c) left) s.memory s.board s.gone s.live (set b.tids n (tid_of b n + 1 * b.step))
        (update w.cpu n d) w.list (update w.slab f e) w.link w.board bytes ls rests refl
        (record { cpu = worded.cpu; slab = at_word (λ _ (d : SlabWord). IsSlabFit d) fits (λ g. rests.words.slab g); list = worded.list; link = worded.link; room = worded.room; remainder = worded.remainder })
        rests.workers
        (cpus_changed s b w k c left d (tid_of b n + 1 * b.step) (update w.slab f e) bytes below few (place-inside s k c consistent.shaped inside below) (omega (arith, small, tids)) rests.cpu tid_is refl refl refl cpus)
        slabs_are
        (at_word (λ g (c : SlabWord). 1 ≤ c.objects → checked_of s c.cache ≡ None) (rests.unchecked f) (λ g. rests.unchecked g))
        (at_word (λ g (c : SlabWord). c.objects ≡ 0 → c.frozen ≡ false) (λ _. refl) (λ g. rests.unslabbed g))
        (at_word (λ g (c : SlabWord). c.listed ≡ nat_lt 0 (times g (node_of s c.cache))) (sym (ap (nat_lt 0) (off_nodes z.cache))) (λ g. rests.listed g))
        own_ends rests.named rests.once words rests.no_zero
      where
        tid_is : d.tid ≡ tid_of b n + 1 * b.step
        tid_is = let q = (rests.cpu n small).tid in omega (arith, q)

        own_ends : (g : ℕ) → IsFreelistOf v g (get_or (set s.frees f joined) g [])
        own_ends g = elim (cases_eq g f) [
          | inl same ↦ subst (λ g. IsFreelistOf v g (get_or (set s.frees f joined) g [])) (sym same) (subst (IsFreelistOf v f) (sym own_t) at_it)
          | inr other ↦ subst (IsFreelistOf v g) (sym (get_or-set_other s.frees f g joined [] other)) (record {
            chain = subst (λ (c : SlabWord). IsChain (pointer v c.cache g) c.head (own_free s g)) (sym (update_other w.slab f e g other)) (owns g);
            in_use = subst (λ (c : SlabWord). c.inuse + length (own_free s g) ≡ c.objects) (sym (update_other w.slab f e g other)) (rests.own g).in_use;
          })
        ]
          where
            at_it : IsFreelistOf v f joined
            at_it = record {
              chain = subst (λ (c : SlabWord). IsChain (pointer v c.cache f) c.head joined) (sym (update_same w.slab f e)) (subst (λ k. IsChain (pointer v k f) head joined) (sym cache) chain);
              in_use = subst (λ (c : SlabWord). c.inuse + length joined ≡ c.objects) (sym (update_same w.slab f e)) (omega (arith, in_use, sums, room));
            }

    -- the lists have their lengths
    pub down_lengths : HasLengths t
    down_lengths = record {
      slabs = length-set s.slabs f (option_map (marked false) (slab_of s f)) ∙ long.slabs;
      frees = length-set s.frees f joined ∙ long.frees;
      cpu_lists = length-set s.cpu_lists (cpu_place s k c) left ∙ long.cpu_lists;
      nodes = long.nodes;
      checked = long.checked;
      memory = long.memory;
      gone = long.gone;
      live = long.live;
    }
