-- A round begins within the bounds.
use Rattle.std.proofs.Common.{◌≡◌, ℕ, zero, suc, ◌/◌, ◌%◌, ◌<◌, ◌≤◌, Bool, true, false, List, [], ◌∷◌, length, get_or, map, Option, Some, None, refl, sym, ap, ◌∙◌, subst, arith, inl, inr}
use Rattle.std.specs.Prelude.{IfSome, MatchOption, not, is_some, nat_lt}
use Rattle.std.specs.Option.{option_map, option_map_or}
use Rattle.std.proofs.lemmas.Bool.{cases_eq, cond-false, le-ltb, ne_eqb, false≢true}
use Rattle.std.proofs.lemmas.List.{length-map}
use Rattle.std.proofs.lemmas.List.Elements.{All-map, All-weaker}
use Rattle.std.proofs.lemmas.List.Filters.{length-filter_both}
use Rattle.slub_cache_create.specs.declared.caches.Cache.{Cache}
use Rattle.slub_cache_create.specs.Sound.{IsLiveCache}
use Rattle.slub_red_zone.specs.State.{CheckedState}
use Rattle.slub_cpu_partial.specs.declared.words.ListWord.{ListWord}
use Rattle.slub_lists.specs.declared.lists.CpuLists.{CpuLists}
use Rattle.slub_lists.specs.State.{State}
use Rattle.slub_lists.specs.Alloc.{cache_of, checked_of, node_of, lists_of, no_lists}
use Rattle.slub_lists.specs.Coherent.{IsCacheOf, IsCheckedOf}
use Rattle.slub_object_layout.specs.Layout.{no_layout}
use Rattle.slub_lists.proofs.FlushingCpu.{ages-most}
use Rattle.slub_core.specs.declared.local.Known.{Known}
use Rattle.slub_core.specs.Setup.{Setup, node_lock}
use Rattle.slub_core.specs.Words.{no_list_word}
use Rattle.slub_core.specs.World.{World, LockValue, world_of}
use Rattle.slub_core.specs.Local.{Local}
use Rattle.slub_core.specs.Steps.{rested}
use Rattle.slub_core.specs.Run.{idle}
use Rattle.slub_core.specs.Opening.{IsRoom, IsNew}
use Rattle.slub_law_opening.specs.Opening.{Beside, setup_of, plain_caches, cpu_at, value_of, node_value}
use Rattle.slub_law_opening.specs.Rests.{current_in, IsCpuOf}
use Rattle.slub_law_opening.specs.Table.{system_of}
use Rattle.slub_law_opening.specs.Closing.{checked_in}
use Rattle.slub_law_opening.proofs.Systems.{opened-rest}
use Rattle.slub_law_opening.specs.Bounded.{CountsFew, IsWithin, IsUnused}
use Rattle.slub_law_opening.specs.BoundLaws.{flags_of, RoundsBeginBounded}
use Rattle.slub_law_opening.proofs.Carried.{rested-keeps}
use Rattle.slub_law_opening.proofs.Steps.{goes-few}

-- ---- what stays

-- a live cache was tuned within its range
few-slabs : (s : State) (k : ℕ) (o : Option Cache) → IfSome o (IsLiveCache s.table k) → (option_map_or (λ (live : Cache). live.layout) o no_layout).cpu_partial_slabs ≤ 8192
few-slabs s k None is = omega arith
few-slabs s k (Some live) is = is.layout.cpu_partial_slabs

few-plain : (s : State) → length s.table.ages ≤ 32 → length (plain_caches s) ≤ 32
few-plain s few = let both = length-filter_both (λ k. not (is_some (checked_of s k))) (λ k. not (not (is_some (checked_of s k)))) (λ k. refl) s.table.ages in omega arith

-- ---- CPUs that the machine hasn't

no-current : (frame : ℕ) → None ≡ current_in frame → frame ≡ 0
no-current frame e = elim (cases_eq frame 0) [ inl z ↦ z | inr d ↦ absurd (let f = ne_eqb frame 0 d in let is : None ≡ Some frame = rw f at e in cc) ]

unused-word : (b : Beside) (w : World) (n : ℕ) (lists : CpuLists) → lists ≡ no_lists → IsCpuOf b w n lists → IsUnused w n
unused-word b w n lists none is = by_lists (subst (IsCpuOf b w n) none is)
  where
    by_lists : IsCpuOf b w n no_lists → IsUnused w n
    by_lists is =
        let frame = no-current (w.cpu n).frame is.current in
        let front = is.partial in
        let count = is.count in
        record { frame = frame; head = is.free; list = same-word (w.list n) front count }
      where
        same-word : (v : ListWord) → v.front ≡ 0 → v.count ≡ 0 → v ≡ no_list_word
        same-word v front count = λ i. record { front = front i; count = count i }

-- ---- workers

new-within : (m : Setup) (value : ℕ → LockValue) (l : Local) → IsNew m l → l.put ≡ 0 → l.count ≡ 0 → IsWithin m value l
new-within m value l new put count = record {
  few = subst (CountsFew m value l) (sym new.between) (goes-few (omega arith) refl (omega arith));
  some = All-weaker (IsRoom m) (λ (k : Known). k.held ≡ true → 1 ≤ k.object) (λ k is held. absurd (false≢true (sym is.2 ∙ held))) l.known new.known;
}

at-map : {X Y : Type 0} (f : X → Y) (xs : List X) (k : ℕ) (d : X) (e : Y) → k < length xs → get_or (map f xs) k e ≡ f (get_or xs k d)
at-map f [] k d e below = absurd (omega arith)
at-map f (x ∷ xs) zero d e below = refl
at-map f (x ∷ xs) (suc k) d e below = at-map f xs k d e (omega arith)

-- ---- flags

kept-flags : (s : State) (k : ℕ) (lives : Bool) (o : Option CheckedState) → IfSome o (IsCheckedOf s k) → IfSome (checked_in (node_value lives o (node_of s k))) (λ slabs. IfSome (flags_of s k) (λ kept. kept ≡ slabs.flags))
kept-flags s k true None is = tt
kept-flags s k false None is = tt
kept-flags s k lives (Some slabs) is = by_cache (cache_of s k) is.live
  where
    by_cache : (o : Option Cache) → MatchOption o ⊥ (λ live. IsCacheOf slabs live.layout live.flags) → IfSome (option_map (λ (live : Cache). live.flags) o) (λ kept. kept ≡ slabs.flags)
    by_cache None is = tt
    by_cache (Some live) is = is.1

-- ---- the whole

pub begins-bounded : RoundsBeginBounded
begins-bounded s b ls may begin numbered =
    let m = setup_of s b in
    let rest = (opened-rest s b ls may begin).0.rests in
    record {
      tuned = λ k. few-slabs s k (cache_of s k) (may.coherent.shaped.table.live k);
      plain = few-plain s (ages-most s.table may.coherent.shaped.table);
      unused = λ n below past. unused-word b (world_of m (value_of s) (system_of s b ls).words) n (cpu_at s n) (cond-false {A = CpuLists} (nat_lt (n % 16) s.cpus) (lists_of s (n / 16) (n % 16)) no_lists (le-ltb (n % 16) s.cpus past)) (rest.cpu n below);
      numbers = λ k below. number m k (subst (λ n. k < n) (length-map ls (rested m)) below);
      workers = All-map (IsWithin m (value_of s)) (rested m) ls (λ k d below. within m (get_or ls k d) (begin.new k d below) (numbered.put k d below) (numbered.count k d below));
      flags = λ k. subst (λ n. IfSome (checked_in (value_of s n)) (λ slabs. IfSome (flags_of s k) (λ kept. kept ≡ slabs.flags))) (let e : suc k ≡ node_lock k = omega arith in e) (kept-flags s k (is_some (cache_of s k)) (checked_of s k) (may.coherent.shaped.checked.those k));
    }
  where
    number : (m : Setup) (k : ℕ) → k < length ls → (get_or (map (rested m) ls) k idle).worker ≡ k
    number m k below = ap (λ (l : Local). l.worker) (at-map (rested m) ls k idle idle below) ∙ rested-keeps (λ l. l.worker ≡ k) (λ l r is. is) m (get_or ls k idle) (numbered.numbers k below)

    within : (m : Setup) (l : Local) → IsNew m l → l.put ≡ 0 → l.count ≡ 0 → IsWithin m (value_of s) (rested m l)
    within m l new put count =
        rested-keeps (IsWithin m (value_of s)) (λ l r ok. record { few = record { put = ok.few.put; asked = ok.few.asked; count = ok.few.count }; some = ok.some }) m l (new-within m (value_of s) l new put count)
