-- Trims and flushes neither read nor change the words of the frames: over other words they do the same.
use Rattle.std.proofs.Common.{◌≡◌, ℕ, ◌⊎◌, cond, eqb, List, [], ◌∷◌, length, get_or, fold, Option, Some, None, MatchOption, refl, ap, sym, ◌∙◌, subst, inl, inr, nat_lt}
use Rattle.std.specs.Prelude.{is_some}
use Rattle.std.specs.List.{range_with_len}
use Rattle.std.specs.Option.{option_map_or}
use Rattle.slub_trace.specs.declared.reply.Reply.{Reply}
use Rattle.slub_trace.specs.declared.reply.Reply.TheVariants.{Checked, NoSuchCache}
use Rattle.slub_cache_create.specs.declared.caches.Cache.{Cache}
use Rattle.slub_red_zone.specs.State.{CheckedState}
use Rattle.slub_lists.specs.State.{State}
use Rattle.slub_lists.specs.Alloc.{cache_of, checked_of, lists_of, named, node_of, own_free}
use Rattle.slub_lists.specs.Coherent.{held_under}
use Rattle.slub_lists.specs.Flush.{Flushes, flushed_cpu, flushed_of}
use Rattle.slub_lists.specs.Free.{discarded, inuse_of, is_spare, with_partial, without_slab}
use Rattle.slub_lists.specs.Leaving.{FreesAll, FreesLost, HasFrame, KeepsHeld}
use Rattle.slub_lists.specs.Shrink.{Promotes, ShrinksByKind, ShrinksCache, ShrinksChecked, ShrinksUnchecked, flushed, flushed_below, min_partial_of, moved_partial, put_away, put_away_slab, put_on_node, put_where, swept, swept_slab, taken_down}
use Rattle.slub_lists.specs.Shrinking.{KeepsChecked}
use Rattle.slub_lists.specs.Trim.{Trims, TrimsCache}
use Rattle.slub_lists.proofs.Flushing.{rest-both, same-all}
use Rattle.slub_lists.proofs.FlushingCpu.{rest-flushed_of}
use Rattle.slub_law_alone.proofs.Memory.{IsFreed, all-over, if-over, over}

-- ---- what a CPU has is put away

module _ (memory : List ℕ) where
  on-node-over : (s : State) (cache frame : ℕ) (own : List ℕ) → put_on_node (over memory s) cache frame own ≡ over memory (put_on_node s cache frame own)
  on-node-over s cache frame [] = refl
  on-node-over s cache frame (index ∷ own) = refl

  put-where-over : (s : State) (min_partial cache frame : ℕ) (own : List ℕ) → put_where (over memory s) min_partial cache frame own ≡ over memory (put_where s min_partial cache frame own)
  put-where-over s min_partial cache frame own =
      let spare = is_spare s min_partial cache frame in
      let has = nat_lt 0 (length (own_free s frame)) in
      ap (λ t. cond spare (over memory (discarded s frame)) t) (ap (λ t. cond has t (over memory s)) (on-node-over s cache frame own) ∙ if-over memory has (put_on_node s cache frame own) s)
      ∙ if-over memory spare (discarded s frame) (cond has (put_on_node s cache frame own) s)

  put-away-over : (s : State) (min_partial cache cpu : ℕ) → put_away (over memory s) min_partial cache cpu ≡ over memory (put_away s min_partial cache cpu)
  put-away-over s min_partial cache cpu = by (lists_of s cache cpu).current
    where
      by : (x : Option ℕ) → option_map_or (put_away_slab (over memory s) min_partial cache cpu) x (over memory s) ≡ over memory (option_map_or (put_away_slab s min_partial cache cpu) x s)
      by None = refl
      by (Some frame) = put-where-over (taken_down s cache cpu frame) min_partial cache frame (own_free s frame)

  flushed-over : (min_partial cache : ℕ) (s : State) (cpu : ℕ) → flushed min_partial cache (over memory s) cpu ≡ over memory (flushed min_partial cache s cpu)
  flushed-over min_partial cache s cpu =
      let t = put_away s min_partial cache cpu in
      ap (λ t. moved_partial t min_partial cache cpu) (put-away-over s min_partial cache cpu)
      ∙ all-over memory (with_partial t cache cpu []) min_partial cache (lists_of t cache cpu).partial

  -- one after the other
  fold-over : (f : State → ℕ → State) → ((s : State) (k : ℕ) → f (over memory s) k ≡ over memory (f s k)) → (s : State) (ks : List ℕ) → fold f (over memory s) ks ≡ over memory (fold f s ks)
  fold-over f each s [] = refl
  fold-over f each s (k ∷ ks) = ap (λ t. fold f t ks) (each s k) ∙ fold-over f each (f s k) ks

  flushed-of-over : (cpu : ℕ) (s : State) (cache : ℕ) → flushed_of cpu (over memory s) cache ≡ over memory (flushed_of cpu s cache)
  flushed-of-over cpu s cache =
      let checked = is_some (checked_of s cache) in
      let rest = flushed (min_partial_of s cache) cache s cpu in
      ap (λ t. cond checked (over memory s) t) (flushed-over (min_partial_of s cache) cache s cpu) ∙ if-over memory checked s rest

  flushed-cpu-over : (s : State) (cpu : ℕ) → flushed_cpu (over memory s) cpu ≡ over memory (flushed_cpu s cpu)
  flushed-cpu-over s cpu = fold-over (flushed_of cpu) (flushed-of-over cpu) s s.table.ages

  -- ---- the node list

  swept-slab-over : (cache : ℕ) (s : State) (frame : ℕ) → swept_slab cache (over memory s) frame ≡ over memory (swept_slab cache s frame)
  swept-slab-over cache s frame = if-over memory (eqb (inuse_of s frame) 0) (discarded (without_slab s cache frame) frame) s

  swept-over : (s : State) (cache : ℕ) → swept (over memory s) cache ≡ over memory (swept s cache)
  swept-over s cache = fold-over (swept_slab cache) (swept-slab-over cache) s (node_of s cache)

  bare-over : (s : State) (min_partial cache : ℕ) → swept (flushed_below (over memory s) min_partial cache s.cpus) cache ≡ over memory (swept (flushed_below s min_partial cache s.cpus) cache)
  bare-over s min_partial cache =
      ap (λ t. swept t cache) (fold-over (flushed min_partial cache) (flushed-over min_partial cache) s (range_with_len 0 s.cpus)) ∙ swept-over (flushed_below s min_partial cache s.cpus) cache

-- ---- what stays

-- the board and the table stay
kept-freed : (s rest after : State) (memory : List ℕ) → after ≡ over memory rest → rest.table ≡ s.table → rest.board ≡ s.board → IsFreed s memory after
kept-freed s rest after memory is table board = record {
  memory_is = ap (λ (t : State). t.memory) is;
  table = ap (λ (t : State). t.table) is ∙ table;
  named = λ other held there plain. sym (ap (λ (t : State). held_under t other) is ∙ ap (λ b. get_or b other None) board) ∙ there;
}

pub rest-fold : (cpu : ℕ) (s : State) (ks : List ℕ) → KeepsChecked s (fold (flushed_of cpu) s ks)
rest-fold cpu s [] = same-all s
rest-fold cpu s (k ∷ ks) = rest-both s (flushed_of cpu s k) (fold (flushed_of cpu) (flushed_of cpu s k) ks) (rest-flushed_of cpu s k) (rest-fold cpu (flushed_of cpu s k) ks)

-- ---- a flush

pub flush-over : (s : State) (old new : List ℕ) (cpu : ℕ) (reply : Reply) (after : State) → Flushes (over new s) cpu reply after → Flushes (over old s) cpu reply (over old after) × IsFreed s new after
flush-over s old new cpu reply after done =
    let now : after ≡ over new (flushed_cpu s cpu) = done.steps ∙ flushed-cpu-over new s cpu in
    let rest = rest-fold cpu s s.table.ages in
    (record { moved = done.moved; steps = ap (over old) now ∙ sym (flushed-cpu-over old s cpu) }, kept-freed s (flushed_cpu s cpu) after new now rest.held.table rest.held.board)

-- ---- a trim

sum-map : {A B C : Type 0} → (B → C) → A ⊎ B → A ⊎ C
sum-map f (inl a) = inl a
sum-map f (inr b) = inr (f b)

same-frame : (a b : State) (cache frame : ℕ) → b.slabs ≡ a.slabs → HasFrame a cache frame → HasFrame b cache frame
same-frame a b cache frame same has = record {
  first = has.first;
  slab = has.slab;
  there = ap (λ slabs. get_or slabs has.first None) same ∙ has.there;
  own = has.own;
  from = has.from;
  below = has.below;
}

module _ (s : State) (old new : List ℕ) (cache : ℕ) (after : State) where
  lost-over : FreesLost (over new s) cache after → FreesLost (over old s) cache (over old after)
  lost-over lost frame = (
    (λ free. sum-map (λ gone. (same-frame (over new s) (over old s) cache frame refl gone.0, λ still. gone.1 (same-frame (over old after) after cache frame refl still))) ((lost frame).0 free)),
    λ from. (lost frame).1 (sum-map (λ gone. (same-frame (over old s) (over new s) cache frame refl gone.0, λ still. gone.1 (same-frame after (over old after) cache frame refl still))) from),
  )

  all-frames-over : FreesAll (over new s) cache after → FreesAll (over old s) cache (over old after)
  all-frames-over all frame = (
    (λ free. sum-map (same-frame (over new s) (over old s) cache frame refl) ((all frame).0 free)),
    λ from. (all frame).1 (sum-map (same-frame (over old s) (over new s) cache frame refl) from),
  )

  held-over : KeepsHeld (over new s) after → KeepsHeld (over old s) (over old after)
  held-over kept = record { frames = kept.frames; cpus = kept.cpus; table = kept.table; board = kept.board; gone = kept.gone; live = kept.live }

  promotes-over : (t : State) → Promotes (over new t) cache after → Promotes (over old t) cache (over old after) × (after.memory ≡ new)
  promotes-over t done = ((done.0, done.1, ap (over old) done.2), ap (λ (t : State). t.memory) done.2)

  unchecked-shrunk : (min_partial : ℕ) → ShrinksUnchecked (over new s) min_partial cache after → ShrinksUnchecked (over old s) min_partial cache (over old after) × (after.memory ≡ new)
  unchecked-shrunk min_partial done =
      let bare = swept (flushed_below s min_partial cache s.cpus) cache in
      let r = promotes-over bare (subst (λ t. Promotes t cache after) (bare-over new s min_partial cache) done) in
      (subst (λ t. Promotes t cache (over old after)) (sym (bare-over old s min_partial cache)) r.0, r.1)

  kind-over : checked_of s cache ≡ None → ShrinksByKind (over new s) cache after → ShrinksByKind (over old s) cache (over old after) × (after.memory ≡ new)
  kind-over plain done = by (cache_of s cache) (checked_of s cache) plain done
    where
      by : (x : Option Cache) (y : Option CheckedState) → y ≡ None → MatchOption x ⊥ (λ live. MatchOption y (ShrinksUnchecked (over new s) live.layout.min_partial cache after) (λ slabs. ShrinksChecked (over new s) cache slabs after))
          → MatchOption x ⊥ (λ live. MatchOption y (ShrinksUnchecked (over old s) live.layout.min_partial cache (over old after)) (λ slabs. ShrinksChecked (over old s) cache slabs (over old after))) × (after.memory ≡ new)
      by None y none done = absurd done
      by (Some live) None none done = unchecked-shrunk live.layout.min_partial done
      by (Some live) (Some slabs) none done = absurd (let never : ⊥ = cc in never)

  shrunk-over : checked_of s cache ≡ None → ShrinksCache (over new s) cache after → ShrinksCache (over old s) cache (over old after) × IsFreed s new after
  shrunk-over plain done =
      let kind = kind-over plain done.steps in (
        record {
          steps = kind.0;
          held = held-over done.held;
          slabs = done.slabs;
          pages = lost-over done.pages;
          emptied = λ idle. ((done.emptied idle).0, all-frames-over (done.emptied idle).1);
        },
        record {
          memory_is = kind.1;
          table = done.held.table;
          named = λ other held there plain. sym (ap (λ b. get_or b other None) done.held.board) ∙ there;
        },
      )

module _ (s : State) (old new : List ℕ) (reply : Reply) (after : State) where
  nothing-trimmed : after ≡ over new s → IsFreed s new after
  nothing-trimmed is = kept-freed s s after new is refl refl

  cache-over : (cache : ℕ) (y : Option CheckedState) → checked_of s cache ≡ y → MatchOption y (TrimsCache (over new s) cache reply after) (λ slabs. (reply ≡ Checked) × (after ≡ over new s))
      → MatchOption y (TrimsCache (over old s) cache reply (over old after)) (λ slabs. (reply ≡ Checked) × (over old after ≡ over old s)) × IsFreed s new after
  cache-over cache None plain done = let r = shrunk-over s old new cache after plain done.2 in ((done.0, done.1, r.0, done.3), r.1)
  cache-over cache (Some slabs) checked done = ((done.0, ap (over old) done.1), nothing-trimmed done.1)

  named-over : (x : Option ℕ) → MatchOption x ((reply ≡ NoSuchCache) × (after ≡ over new s)) (λ cache. MatchOption (checked_of s cache) (TrimsCache (over new s) cache reply after) (λ slabs. (reply ≡ Checked) × (after ≡ over new s)))
      → MatchOption x ((reply ≡ NoSuchCache) × (over old after ≡ over old s)) (λ cache. MatchOption (checked_of s cache) (TrimsCache (over old s) cache reply (over old after)) (λ slabs. (reply ≡ Checked) × (over old after ≡ over old s))) × IsFreed s new after
  named-over None done = ((done.0, ap (over old) done.1), nothing-trimmed done.1)
  named-over (Some cache) done = cache-over cache (checked_of s cache) refl done

  pub trim-over : (place : ℕ) → Trims (over new s) place reply after → Trims (over old s) place reply (over old after) × IsFreed s new after
  trim-over place done = named-over (named s place) done
