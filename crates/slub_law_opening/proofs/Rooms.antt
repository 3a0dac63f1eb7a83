-- An opened machine fits its table of words.
use Rattle.std.proofs.Common.{◌≡◌, ℕ, ◌*◌, ◌^◌, ◌<◌, ◌≤◌, List, get_or, Option, Some, None, refl, ap, ◌∙◌, subst, arith}
use Rattle.std.specs.Prelude.{All, MatchOption, option_map}
use Rattle.std.proofs.lemmas.List.{get_or_past}
use Rattle.slub_common.proofs.Writes.{inside-of}
use Rattle.slub_words.specs.declared.board.BoardWord.{BoardWord}
use Rattle.slub_lists.specs.declared.lists.CpuLists.{CpuLists}
use Rattle.slub_lists.specs.declared.lists.Held.{Held}
use Rattle.slub_lists.specs.State.{State}
use Rattle.slub_lists.specs.Alloc.{slab_of, cache_of}
use Rattle.slub_lists.specs.Coherent.{IsCoherent, IsConsistent, IsSlabOf, held_under}
use Rattle.slub_lists.proofs.CheckedGiving.{the-value}
use Rattle.slub_lists.proofs.CheckedSlabs.{at_some}
use Rattle.slub_lists.proofs.CheckedTaking.{held-slab}
use Rattle.slub_lists.proofs.Kept.{consistent-of}
use Rattle.slub_lists.proofs.Places.{objects-few, slab-inside, pointer-inside}
use Rattle.slub_core.specs.Local.{Local}
use Rattle.slub_core.specs.Words.{cpu_in, list_in, slab_in}
use Rattle.slub_law_opening.specs.Opening.{Beside, IsBeside, IsLaidDown, lay_each, string_row, cpu_at, cpu_word, list_word, own_row, cpu_row, link_of, slab_word, board_word, opened_words, setup_of}
use Rattle.slub_law_opening.specs.Rests.{IsBetween}
use Rattle.slub_law_opening.proofs.Cpus.{has-cpus, cpu-past}
use Rattle.slub_law_opening.proofs.Rows.{own-pointer, cpu-pointer}
use Rattle.slub_law_opening.proofs.Opened.{each-other, string-frame, words-opened}
use Rattle.slub_law_opening.proofs.Tables.{HasRoom}
use Rattle.slub_law_opening.proofs.Workers.{HoldsNothing}

module _ (s : State) (b : Beside) (ls : List Local) (beside : IsBeside s b) (coherent : IsCoherent s) (down : IsLaidDown s) (between : All (IsBetween (setup_of s b)) ls) (nothing : All HoldsNothing ls) where
  consistent : IsConsistent s
  consistent = consistent-of s coherent

  boarded : (o : ℕ) (d : BoardWord) → (opened_words s b).board o ≡ Some d → (d.index < 65535) × (d.frame < 2 ^ 16) × (d.cache < 2 ^ 8)
  boarded o d = go (held_under s o) refl
    where
      fits : (h : Held) → held_under s o ≡ Some h → (h.index < 65535) × (h.frame < 2 ^ 16) × (h.cache < 2 ^ 8)
      fits h e =
          let x = held-slab s o h e consistent in
          let few = objects-few s h.frame x.0 consistent x.1 in
          let f = slab-inside s h.frame x.0 consistent x.1 in
          let live = the-value (cache_of s x.0.cache) (λ live. IsSlabOf live.layout x.0) (at_some (slab_of s h.frame) x.0 (λ slab. MatchOption (cache_of s slab.cache) ⊥ (λ live. IsSlabOf live.layout slab)) x.1 (consistent.shaped.slab h.frame)) in
          let c = inside-of s.table.caches x.0.cache live.0 live.1 in
          (omega (arith, x.3, few), omega (arith, f, consistent.shaped.frames.1), omega (arith, c, x.2, consistent.shaped.table.numbers))

      injected : {x y : BoardWord} → Some x ≡ Some y → x ≡ y
      injected e = cc

      go : (h : Option Held) → held_under s o ≡ h → option_map board_word h ≡ Some d → (d.index < 65535) × (d.frame < 2 ^ 16) × (d.cache < 2 ^ 8)
      go None e is = absurd (cc is)
      go (Some h) e is = subst (λ (d : BoardWord). (d.index < 65535) × (d.frame < 2 ^ 16) × (d.cache < 2 ^ 8)) (injected is) (fits h e)

  cpu-room : (n : ℕ) → 512 ≤ n → (opened_words s b).cpu n ≡ cpu_in 0
  unfolding cpu_in
  cpu-room n past =
      let t : get_or b.tids n 0 ≡ 0 = get_or_past b.tids n 0 (omega (arith, past, beside.tids)) in
      ap (cpu_word b n) (cpu-past s n (has-cpus s consistent) past) ∙ (λ i. record { tid = t i; frame = 0; head = 0 })

  list-room : (n : ℕ) → 512 ≤ n → (opened_words s b).list n ≡ list_in 0
  unfolding list_in
  list-room n past = ap (λ (x : CpuLists). list_word x.partial) (cpu-past s n (has-cpus s consistent) past)

  slab-room : (f : ℕ) → s.frames ≤ f → (opened_words s b).slab f ≡ slab_in 0
  unfolding slab_in
  slab-room f past = ap (slab_word s f) (get_or_past s.slabs f None (omega (arith, past, consistent.shaped.slabs)))

  memory-room : (p : ℕ) → 512 * s.frames ≤ p → (opened_words s b).memory p ≡ 0
  memory-room p past =
      let m : ℕ → ℕ = λ p. get_or s.memory p 0 in
      each-other (cpu_row s) 512 (lay_each (own_row s) s.frames m) p
      (λ n x le same. let q = cpu-pointer s n x consistent le in let i = pointer-inside s q.frame x q.at.slab consistent q.at.is q.at.inside in omega (arith, past, same, q.at.place, i, consistent.shaped.memory))
      ∙ each-other (own_row s) s.frames m p
      (λ f x le same. let q = own-pointer s f x consistent le in let i = pointer-inside s f x q.slab consistent q.is q.inside in omega (arith, past, same, q.place, i, consistent.shaped.memory))
      ∙ get_or_past s.memory p 0 (omega (arith, past, consistent.shaped.memory))

  link-room : (f : ℕ) → s.frames ≤ f → (opened_words s b).link f ≡ 0
  link-room f past =
      each-other (λ n. string_row (cpu_at s n).partial) 512 (link_of b) f (λ n x le same. let t = string-frame s b ls beside coherent down between nothing n x le in omega (arith, past, same, t.1))
      ∙ get_or_past b.links f 0 (omega (arith, past, beside.links))

  pub has-room : HasRoom (opened_words s b)
  has-room = record {
    locks = refl;
    cpu_words = refl;
    objects = beside.objects.0;
    worded = words-opened s b ls beside coherent down between nothing;
    boarded = boarded;
    lock = λ n past. refl;
    list = list-room;
    cpu = cpu-room;
    slab = slab-room;
    none = ap (option_map board_word) coherent.shaped.no_zero;
    board = λ o past. ap (option_map board_word) (get_or_past s.board o None past);
    memory = memory-room;
    link = link-room;
  }
