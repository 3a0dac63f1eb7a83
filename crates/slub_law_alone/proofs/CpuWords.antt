-- What CPUs have, where one of them changes.
use Rattle.std.proofs.Common.{◌≡◌, ℕ, ◌+◌, ◌*◌, ◌/◌, ◌%◌, ◌<◌, ◌≤◌, cond, length, set, inl, inr, ap, sym, ◌∙◌, subst, arith}
use Rattle.std.specs.Prelude.{nat_lt}
use Rattle.std.proofs.lemmas.Bool.{cases_eq, cases_lt, le-ltb, cond-false}
use Rattle.std.proofs.lemmas.List.{get_or-set_same, get_or-set_other}
use Rattle.slub_words.specs.declared.cpu.CpuWord.{CpuWord}
use Rattle.slub_words.specs.declared.slab.SlabWord.{SlabWord}
use Rattle.slub_cpu_partial.specs.declared.words.ListWord.{ListWord}
use Rattle.slub_lists.specs.declared.lists.CpuLists.{CpuLists}
use Rattle.slub_lists.specs.State.{State}
use Rattle.slub_lists.specs.Alloc.{lists_of, no_lists, cpu_place}
use Rattle.slub_core.specs.Setup.{cpu_number}
use Rattle.slub_core.specs.World.{World, update, pointer, IsChain, Links}
use Rattle.slub_core.proofs.Update.{update_same, update_other}
use Rattle.slub_law_opening.specs.Opening.{Beside, cpu_at}
use Rattle.slub_law_opening.specs.Rests.{IsCpuOf, current_in}
use Rattle.slub_law_opening.proofs.Sums.{product_apart}
use Rattle.slub_calls.proofs.ChangeNumbers.{cpu_here, number-of}

abbrev with_cpu : State → ℕ → ℕ → CpuLists → State
with_cpu s k c x = record s { cpu_lists = set s.cpu_lists (cpu_place s k c) x }

pub cpu_changed : (s : State) (k c : ℕ) (x : CpuLists) → c < s.cpus → s.cpus ≤ 16 → cpu_place s k c < length s.cpu_lists → cpu_at (with_cpu s k c x) (cpu_number k c) ≡ x
cpu_changed s k c x below few inside = cpu_here (with_cpu s k c x) k c below few ∙ get_or-set_same s.cpu_lists (cpu_place s k c) x no_lists inside

pub cpu_other : (s : State) (k c : ℕ) (x : CpuLists) (n : ℕ) → c < s.cpus → s.cpus ≤ 16 → (n ≡ cpu_number k c → ⊥) → cpu_at (with_cpu s k c x) n ≡ cpu_at s n
cpu_other s k c x n below few away = elim (cases_lt (n % 16) s.cpus) [
  | inl l ↦ ap (λ y. cond (nat_lt (n % 16) s.cpus) y no_lists) (get_or-set_other s.cpu_lists (cpu_place s k c) (cpu_place s (n / 16) (n % 16)) x no_lists
      (λ e. let p = product_apart s.cpus k c (n / 16) (n % 16) below l (apart e) in away (let a = p.0 in let b = p.1 in omega arith)))
  | inr g ↦ cond-false (nat_lt (n % 16) s.cpus) _ no_lists (le-ltb (n % 16) s.cpus g) ∙ sym (cond-false (nat_lt (n % 16) s.cpus) (lists_of s (n / 16) (n % 16)) no_lists (le-ltb (n % 16) s.cpus g))
]
  where
    apart : cpu_place s (n / 16) (n % 16) ≡ cpu_place s k c → k * s.cpus + c ≡ n / 16 * s.cpus + n % 16
    apart e = sym e

module _ (s : State) (b : Beside) (w : World) (k c : ℕ) (x : CpuLists) (word : CpuWord) (tid : ℕ) (slab : ℕ → SlabWord) (bytes : ℕ → ℕ) where
  abbrev pub t : State
  t = record s { cpu_lists = set s.cpu_lists (cpu_place s k c) x }

  abbrev pub d : Beside
  d = record b { tids = set b.tids (cpu_number k c) tid }

  abbrev pub v : World
  v = record w { cpu = update w.cpu (cpu_number k c) word; slab = slab; memory = bytes }

  -- one CPU word and what its CPU has change; all other freelists stand in memory as it is then
  pub cpus_changed : c < s.cpus → s.cpus ≤ 16 → cpu_place s k c < length s.cpu_lists → cpu_number k c < length b.tids → ((n : ℕ) → n < 512 → IsCpuOf b w n (cpu_at s n)) → word.tid ≡ tid → x.current ≡ current_in word.frame
      → IsChain (pointer v k word.frame) word.head x.free → x.partial ≡ (lists_of s k c).partial → ((n : ℕ) → n < 512 → (n ≡ cpu_number k c → ⊥) → IsChain (pointer v (n / 16) (w.cpu n).frame) (w.cpu n).head (cpu_at s n).free)
      → (n : ℕ) → n < 512 → IsCpuOf d v n (cpu_at t n)
  cpus_changed below few inside room old is_tid current chain partial others n small = elim (cases_eq n (cpu_number k c)) [
    | inl e ↦ subst (λ j. IsCpuOf d v j (cpu_at t j)) (sym e) (subst (IsCpuOf d v (cpu_number k c)) (sym (cpu_changed s k c x below few inside)) (at_it (subst (λ j. j < 512) e small)))
    | inr away ↦ subst (IsCpuOf d v n) (sym (cpu_other s k c x n below few away)) (elsewhere away)
  ]
    where
      at_it : cpu_number k c < 512 → IsCpuOf d v (cpu_number k c) x
      at_it small =
          let m = cpu_number k c in
          let was = subst (IsCpuOf b w m) (cpu_here s k c below few) (old m small) in
          let here = update_same w.cpu m word in
          record {
            tid = ap (λ (z : CpuWord). z.tid) here ∙ is_tid ∙ sym (get_or-set_same b.tids m tid 0 room);
            current = current ∙ ap (λ (z : CpuWord). current_in z.frame) (sym here);
            free = subst (λ (z : CpuWord). IsChain (pointer v (m / 16) z.frame) z.head x.free) (sym here) (subst (λ q. IsChain (pointer v q word.frame) word.head x.free) (sym (number-of k c (omega arith)).0) chain);
            count = was.count ∙ ap (length {A = ℕ}) (sym partial);
            partial = subst (λ fs. Links w.link (w.list m).front fs 0) (sym partial) was.partial;
          }

      elsewhere : (n ≡ cpu_number k c → ⊥) → IsCpuOf d v n (cpu_at s n)
      elsewhere away =
          let was = old n small in
          let there = update_other w.cpu (cpu_number k c) word n away in
          record {
            tid = ap (λ (z : CpuWord). z.tid) there ∙ was.tid ∙ sym (get_or-set_other b.tids (cpu_number k c) n tid 0 away);
            current = was.current ∙ ap (λ (z : CpuWord). current_in z.frame) (sym there);
            free = subst (λ (z : CpuWord). IsChain (pointer v (n / 16) z.frame) z.head (cpu_at s n).free) (sym there) (others n small away);
            count = was.count;
            partial = was.partial;
          }

module _ (s : State) (b : Beside) (w : World) (k c : ℕ) (x : CpuLists) (word : CpuWord) (tid : ℕ) (list : ListWord) (slab : ℕ → SlabWord) where
  abbrev pub t2 : State
  t2 = record s { cpu_lists = set s.cpu_lists (cpu_place s k c) x }

  abbrev pub d2 : Beside
  d2 = record b { tids = set b.tids (cpu_number k c) tid }

  abbrev pub v2 : World
  v2 = record w { cpu = update w.cpu (cpu_number k c) word; list = update w.list (cpu_number k c) list; slab = slab }

  -- one CPU word, one list word and what their CPU has change
  pub cpus_relisted : c < s.cpus → s.cpus ≤ 16 → cpu_place s k c < length s.cpu_lists → cpu_number k c < length b.tids → ((n : ℕ) → n < 512 → IsCpuOf b w n (cpu_at s n)) → word.tid ≡ tid → x.current ≡ current_in word.frame
      → IsChain (pointer v2 k word.frame) word.head x.free → list.count ≡ length x.partial → Links w.link list.front x.partial 0 → (n : ℕ) → n < 512 → IsCpuOf d2 v2 n (cpu_at t2 n)
  cpus_relisted below few inside room old is_tid current chain count links n small = elim (cases_eq n (cpu_number k c)) [
    | inl e ↦ subst (λ j. IsCpuOf d2 v2 j (cpu_at t2 j)) (sym e) (subst (IsCpuOf d2 v2 (cpu_number k c)) (sym (cpu_changed s k c x below few inside)) at_it)
    | inr away ↦ subst (IsCpuOf d2 v2 n) (sym (cpu_other s k c x n below few away)) (elsewhere away)
  ]
    where
      at_it : IsCpuOf d2 v2 (cpu_number k c) x
      at_it =
          let m = cpu_number k c in
          let here = update_same w.cpu m word in
          let there = update_same w.list m list in
          record {
            tid = ap (λ (z : CpuWord). z.tid) here ∙ is_tid ∙ sym (get_or-set_same b.tids m tid 0 room);
            current = current ∙ ap (λ (z : CpuWord). current_in z.frame) (sym here);
            free = subst (λ (z : CpuWord). IsChain (pointer v2 (m / 16) z.frame) z.head x.free) (sym here) (subst (λ q. IsChain (pointer v2 q word.frame) word.head x.free) (sym (number-of k c (omega arith)).0) chain);
            count = ap (λ (z : ListWord). z.count) there ∙ count;
            partial = subst (λ (z : ListWord). Links w.link z.front x.partial 0) (sym there) links;
          }

      elsewhere : (n ≡ cpu_number k c → ⊥) → IsCpuOf d2 v2 n (cpu_at s n)
      elsewhere away =
          let was = old n small in
          let there = update_other w.cpu (cpu_number k c) word n away in
          let lists = update_other w.list (cpu_number k c) list n away in
          record {
            tid = ap (λ (z : CpuWord). z.tid) there ∙ was.tid ∙ sym (get_or-set_other b.tids (cpu_number k c) n tid 0 away);
            current = was.current ∙ ap (λ (z : CpuWord). current_in z.frame) (sym there);
            free = subst (λ (z : CpuWord). IsChain (pointer v2 (n / 16) z.frame) z.head (cpu_at s n).free) (sym there) was.free;
            count = ap (λ (z : ListWord). z.count) lists ∙ was.count;
            partial = subst (λ (z : ListWord). Links w.link z.front (cpu_at s n).partial 0) (sym lists) was.partial;
          }
