-- Where a worker's turns end: the changed lists are coherent, and the machine rests in them.
use Rattle.std.proofs.Common.{◌≡◌, ℕ, suc, ◌<◌, ◌^◌, List, ◌∷◌, drop, length, get_or, set, Option, Some, None, inl, inr, ap, sym, ◌∙◌, subst, zero}
use Rattle.std.specs.Prelude.{MatchOption, IfSome, is_some}
use Rattle.std.proofs.lemmas.Bool.{cases_eq}
use Rattle.std.proofs.lemmas.List.{get_or-set_same, get_or-set_other}
use Rattle.slub_trace.specs.declared.reply.Reply.{Reply}
use Rattle.slub_cache_create.specs.declared.caches.Cache.{Cache}
use Rattle.slub_red_zone.specs.State.{CheckedState}
use Rattle.slub_lists.specs.State.{State}
use Rattle.slub_lists.specs.Alloc.{cache_of, checked_of}
use Rattle.slub_lists.specs.Coherent.{IsCoherent, IsCacheOf, IsCheckedOf, IsAccounted}
use Rattle.slub_common.proofs.Writes.{inside-of}
use Rattle.slub_lists.proofs.CheckedSlabs.{at_some}
use Rattle.slub_lists.proofs.Kept.{consistent-of}
use Rattle.slub_core.specs.Setup.{Setup}
use Rattle.slub_core.specs.Words.{word_count}
use Rattle.slub_core.specs.declared.call.Call.{Call}
use Rattle.slub_core.specs.declared.local.Answered.{Answered}
use Rattle.slub_core.specs.declared.spot.Spot.TheVariants.{Between}
use Rattle.slub_core.specs.Local.{Local, call_of, no_call}
use Rattle.slub_core.specs.Steps.{rested}
use Rattle.slub_core.specs.World.{World, LockValue, world_of}
use Rattle.slub_core.specs.Coherent.{Stands}
use Rattle.slub_core.specs.Law.{IsCoherentSystem}
use Rattle.slub_core.proofs.Turns.{turn_keeps}
use Rattle.slub_core.specs.Run.{System, idle, turn}
use Rattle.slub_law_opening.specs.Opening.{Beside, IsBeside, setup_of}
use Rattle.slub_law_opening.specs.Rests.{Rests}
use Rattle.slub_law_opening.specs.Closing.{HasLengths}
use Rattle.slub_law_opening.proofs.Counts.{locals_of}
use Rattle.slub_law_opening.proofs.Shaped.{Keeps, closed-coherent}
use Rattle.slub_law_opening.proofs.Systems.{closed-beside}
use Rattle.slub_law_alone.specs.Alone.{own_pick, alone, worker_at, AreWhole, IsAtRest, IsNext, Replies}
use Rattle.slub_law_alone.proofs.Turns.{machine}

-- turns of one worker keep all
pub alone_keeps : (m : Setup) (opening : World) (x n : ℕ) (system : System) → IsCoherentSystem m opening system → IsCoherentSystem m opening (alone m x n system)
alone_keeps m opening x zero system is = is
alone_keeps m opening x (suc n) system is = alone_keeps m opening x n (turn m system (own_pick x)) (turn_keeps m opening system (own_pick x) is)

-- the flags of checked slabs are those of their caches
flags-of : (s : State) → IsCoherent s → (k : ℕ) → IfSome (checked_of s k) (λ slabs. IfSome (cache_of s k) (λ live. live.flags ≡ slabs.flags))
flags-of s coherent k = go (checked_of s k) (coherent.shaped.checked.those k)
  where
    by : (c : CheckedState) (o : Option Cache) → MatchOption o ⊥ (λ live. IsCacheOf c live.layout live.flags) → IfSome o (λ live. live.flags ≡ c.flags)
    by c None is = tt
    by c (Some live) is = is.1

    go : (o : Option CheckedState) → IfSome o (IsCheckedOf s k) → IfSome o (λ slabs. IfSome (cache_of s k) (λ live. live.flags ≡ slabs.flags))
    go None is = tt
    go (Some c) is = by c (cache_of s k) is.live

-- lists of the same table, in which checked caches have slabs of the same flags, are coherent where a coherent machine rests in them
pub ends_keeping : (opening v : World) (s t : State) (b d : Beside) (end : System) → IsCoherent s → IsBeside s b → setup_of t d ≡ setup_of s b → Keeps s t
    → length d.tids ≡ 512 → d.links ≡ b.links → t.frames ≡ s.frames → IsCoherentSystem (setup_of s b) opening end → world_of (setup_of s b) end.value end.words ≡ v → Rests t d v end.locals → AreWhole (setup_of s b) end.words → IsAtRest opening t d end
ends_keeping opening v s t b d end lists beside same keeps tids links frames is says rests whole =
    let m = setup_of s b in
    let w = world_of m end.value end.words in
    let xs = is.workers in
    let stands : Stands w xs = record { chains = is.chains; placed = is.coherent.placed; listed = is.coherent.listed; fresh = is.coherent.fresh } in
    let resting : Rests t d w (locals_of xs) = subst (Rests t d w) (sym is.locals) (subst (λ w. Rests t d w end.locals) (sym says) rests) in
    let coherent = closed-coherent s t d w xs lists keeps stands resting in
    record {
      lists = coherent;
      beside = closed-beside s t b d w (locals_of xs) beside (consistent-of t coherent) same resting tids (ap (length {A = ℕ}) links ∙ beside.links ∙ sym frames) (subst (λ ls. (f : ℕ) → get_or ls f 0 < 2 ^ 16) (sym links) beside.link);
      rests = record {
        count = subst (λ m. length end.words ≡ word_count m) (sym same) is.words;
        rests = subst (λ m. Rests t d (world_of m end.value end.words) end.locals) (sym same) (subst (λ w. Rests t d w end.locals) (sym says) rests);
      };
      whole = subst (λ m. AreWhole m end.words) (sym same) whole;
      coherent = subst (λ m. IsCoherentSystem m opening end) (sym same) is;
    }

-- and so where the checked caches are as they were
pub ends_from : (opening v : World) (s t : State) (b d : Beside) (end : System) → IsCoherent s → IsBeside s b → setup_of t d ≡ setup_of s b → t.table ≡ s.table → t.checked ≡ s.checked → HasLengths t → IsAccounted t
    → length d.tids ≡ 512 → d.links ≡ b.links → t.frames ≡ s.frames → IsCoherentSystem (setup_of s b) opening end → world_of (setup_of s b) end.value end.words ≡ v → Rests t d v end.locals → AreWhole (setup_of s b) end.words → IsAtRest opening t d end
ends_from opening v s t b d end lists beside same table checked lengths live =
    let flags = subst (λ table. (k : ℕ) → IfSome (get_or s.checked k None) (λ slabs. IfSome (cache_of (record s { table = table }) k) (λ live. live.flags ≡ slabs.flags))) (sym table) (flags-of s lists) in
    let keeps : Keeps s t = record {
      lengths = lengths;
      table = table;
      checks = λ k. ap (λ c. is_some (get_or c k None)) checked;
      live = live;
      flags = subst (λ c. (k : ℕ) → IfSome (get_or c k None) (λ slabs. IfSome (cache_of t k) (λ live. live.flags ≡ slabs.flags))) (sym checked) flags;
    } in
    ends_keeping opening v s t b d end lists beside same keeps

pub ends_at_rest : (opening v : World) (s t : State) (b d : Beside) (system end : System) → IsAtRest opening s b system → setup_of t d ≡ setup_of s b → t.table ≡ s.table → t.checked ≡ s.checked → HasLengths t → IsAccounted t
    → length d.tids ≡ 512 → d.links ≡ b.links → t.frames ≡ s.frames → IsCoherentSystem (setup_of s b) opening end → world_of (setup_of s b) end.value end.words ≡ v → Rests t d v end.locals → AreWhole (setup_of s b) end.words → IsAtRest opening t d end
ends_at_rest opening v s t b d system end rest = ends_from opening v s t b d end rest.lists rest.beside

-- one checked cache has other slabs, of the same flags
pub keeps_with : (s t : State) (k : ℕ) (c e : CheckedState) → IsCoherent s → checked_of s k ≡ Some c → e.flags ≡ c.flags → t.checked ≡ set s.checked k (Some e) → t.table ≡ s.table → HasLengths t → IsAccounted t → Keeps s t
keeps_with s t k c e coherent was same checked table lengths live = record {
  lengths = lengths;
  table = table;
  checks = λ j. ap (λ cs. is_some (get_or cs j None)) checked ∙ checks j;
  live = live;
  flags = subst (λ cs. (j : ℕ) → IfSome (get_or cs j None) (λ slabs. IfSome (cache_of t j) (λ live. live.flags ≡ slabs.flags))) (sym checked)
      (subst (λ table. (j : ℕ) → IfSome (get_or (set s.checked k (Some e)) j None) (λ slabs. IfSome (cache_of (record s { table = table }) j) (λ live. live.flags ≡ slabs.flags))) (sym table) flags);
}
  where
    here : (j : ℕ) → j ≡ k → get_or (set s.checked k (Some e)) j None ≡ Some e
    here j at = ap (λ j. get_or (set s.checked k (Some e)) j None) at ∙ get_or-set_same s.checked k (Some e) None (inside-of s.checked k c was)

    checks : (j : ℕ) → is_some (get_or (set s.checked k (Some e)) j None) ≡ is_some (checked_of s j)
    checks j = elim (cases_eq j k) [
      | inl at ↦ ap is_some (here j at) ∙ sym (ap is_some (ap (checked_of s) at ∙ was))
      | inr away ↦ ap is_some (get_or-set_other s.checked k j (Some e) None away)
    ]

    flags : (j : ℕ) → IfSome (get_or (set s.checked k (Some e)) j None) (λ slabs. IfSome (cache_of s j) (λ live. live.flags ≡ slabs.flags))
    flags j = elim (cases_eq j k) [
      | inl at ↦ subst (λ o. IfSome o (λ slabs. IfSome (cache_of s j) (λ live. live.flags ≡ slabs.flags))) (sym (here j at))
          (subst (λ flags. IfSome (cache_of s j) (λ live. live.flags ≡ flags)) (sym same) (at_some (checked_of s j) c (λ slabs. IfSome (cache_of s j) (λ live. live.flags ≡ slabs.flags)) (ap (checked_of s) at ∙ was) (flags-of s coherent j)))
      | inr away ↦ subst (λ o. IfSome o (λ slabs. IfSome (cache_of s j) (λ live. live.flags ≡ slabs.flags))) (sym (get_or-set_other s.checked k j (Some e) None away)) (flags-of s coherent j)
    ]

-- what is told of such turns, where they end
pub replies_of : (opening : World) (s t : State) (b d : Beside) (system : System) (x turns : ℕ) (call : Call) (reply : Reply) (told : Local) (words : List ℕ) (value : ℕ → LockValue) → IsNext system x call → alone (setup_of s b) x turns system ≡ machine words value (set system.locals x (rested (setup_of s b) told))
    → told.spot ≡ Between → told.worker ≡ (worker_at system x).worker → told.done ≡ record { call = call_of (worker_at system x); reply = reply } ∷ (worker_at system x).done → told.todo ≡ drop 1 (worker_at system x).todo → setup_of t d ≡ setup_of s b
    → IsAtRest opening t d (machine words value (set system.locals x (rested (setup_of s b) told))) → Replies opening s b system x call turns reply t d
replies_of opening s t b d system x turns call reply told words value next whole between number done todo same rest =
    let m = setup_of s b in
    let end = ap (λ (s : System). worker_at s x) whole ∙ get_or-set_same system.locals x (rested m told) idle next.there in
    record {
      setup = same;
      rest = subst (IsAtRest opening t d) (sym whole) rest;
      replied = record {
        told = told;
        between = between;
        number = number;
        done = done ∙ ap (λ todo. by_call (get_or todo 0 no_call)) next.todo;
        todo = todo;
        rested = end;
      };
      others = ap (λ (s : System). s.locals) whole ∙ ap (set system.locals x) (sym end);
    }
  where
    by_call : Call → List Answered
    by_call call = record { call = call; reply = reply } ∷ (worker_at system x).done
