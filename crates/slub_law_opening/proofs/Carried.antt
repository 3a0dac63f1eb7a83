-- What a worker carries through its turn: its counts, its number, the flags of checked slabs, and the node lists that others rely on.
use Rattle.std.proofs.Common.{◌≡◌, ℕ, ◌+◌, ◌*◌, ◌<◌, ◌≤◌, ◌⊎◌, ◌==◌, Bool, true, false, Option, Some, None, List, [], ◌∷◌, length, get_or, refl, sym, ap, ◌∙◌, subst, arith, inl, inr}
use Rattle.std.specs.Prelude.{All, IfSome}
use Rattle.std.proofs.lemmas.Bool.{cases_eq, eq-eqb}
use Rattle.std.proofs.lemmas.List.Elements.{All-set}
use Rattle.slub_object_layout.specs.declared.layout.Flags.{Flags}
use Rattle.slub_trace.specs.declared.reply.Reply.{Reply}
use Rattle.slub_red_zone.specs.State.{CheckedState}
use Rattle.slub_red_zone.specs.Sound.{IsSound}
use Rattle.slub_cpu_partial.specs.declared.words.ListWord.{ListWord}
use Rattle.slub_core.specs.declared.call.Call.{Call}
use Rattle.slub_core.specs.declared.call.CallKind.{CallKind}
use Rattle.slub_core.specs.declared.call.CallKind.TheVariants.{Alloc, Free, Write, Read, Poke, Trim, Flush}
use Rattle.slub_core.specs.declared.local.Known.{Known}
use Rattle.slub_core.specs.declared.spot.Spot.{Spot}
use Rattle.slub_core.specs.declared.spot.Spot.TheVariants.{Between, InDiscard, InOffline, InTrim}
use Rattle.slub_core.specs.declared.spot.Sweep.{Sweep}
use Rattle.slub_core.specs.declared.spot.OfflineSpot.{OfflineSpot}
use Rattle.slub_core.specs.declared.spot.OfflineSpot.TheVariants.{LoadCurrent, DetachCurrent, TakeCurrent}
use Rattle.slub_core.specs.declared.spot.DiscardSpot.TheVariants.{Unmake, LockDiscard, PutRun, GiveDiscard}
use Rattle.slub_core.specs.declared.spot.TrimSpot.TheVariants.{LockTrim, ScanNode, LoadScanned, DropScanned, GiveTrim}
use Rattle.slub_core.specs.declared.step.Answer.TheVariants.{Word}
use Rattle.slub_core.specs.Calls.{call_kind, call_cpu, call_cache, call_place}
use Rattle.slub_core.specs.Setup.{Setup, IsPlain, node_lock, pool_lock}
use Rattle.slub_core.specs.Words.{number_of, answer_of, list_in}
use Rattle.slub_core.specs.World.{World, LockValue, Node, Checked, Pool, update, frames_in, world_from, world_of, one_if}
use Rattle.slub_core.specs.Local.{Local, Worker, nobody, no_call, here, string_of, answered, noted}
use Rattle.slub_core.specs.Alloc.{node_of}
use Rattle.slub_core.specs.Checked.{slabs_in, slabs_of}
use Rattle.slub_core.specs.Ops.{own_cpu}
use Rattle.slub_core.specs.Replies.{names_object}
use Rattle.slub_core.specs.Spots.{has_node, in_plain, in_checked}
use Rattle.slub_core.specs.Steps.{told_at_once, or_step, cache_for, first_spot, first_cpu, begun_at, begun_with, begun, rested_with, rested_at, rested, step_at, step_of, advance_at, at_once}
use Rattle.slub_core.specs.Listed.{takes, IsGuarded}
use Rattle.slub_core.specs.Accounted.{IsAccounted}
use Rattle.slub_core.specs.Coherent.{Stands}
use Rattle.slub_core.proofs.Accounts.{Comes}
use Rattle.slub_core.proofs.CheckedStep.{the-slabs}
use Rattle.slub_core.proofs.Homes.{lock-alone}
use Rattle.slub_core.proofs.Kind25.{lists-fit, string-real}
use Rattle.slub_core.proofs.Leads.{at_work}
use Rattle.slub_core.proofs.Rests.{joined}
use Rattle.slub_core.proofs.TaleReplies.{told-of}
use Rattle.slub_core.proofs.UnderLock.{node-is, takes-node}
use Rattle.slub_core.proofs.Update.{update_at, update_other}
use Rattle.slub_core.proofs.StepWords.{list-read}
use Rattle.slub_law_opening.specs.Closing.{checked_in}
use Rattle.slub_law_opening.specs.Bounded.{asks_node, come_by, left_to_tell, HoldsNamed, IsWithin}
use Rattle.slub_law_opening.proofs.Keeps.{IsOfObject, KeepsLocal, turn-keeps, once-keeps}
use Rattle.slub_law_opening.proofs.Steps.{KnowsFew, goes-few, turn-few}
use Rattle.slub_law_opening.proofs.BoundOnce.{once-few}
use Rattle.slub_law_opening.proofs.Sets.{Sets, once-sets}

-- ---- what is carried

-- checked slabs have their cache's flags
abbrev pub HaveFlags : (ℕ → Option Flags) → (ℕ → LockValue) → Type 0
HaveFlags flags value = (cache : ℕ) → IfSome (checked_in (value (node_lock cache))) (λ slabs. IfSome (flags cache) (λ kept. kept ≡ slabs.flags))

-- the node list of a worker that has its lock
abbrev pub SameNode : (ℕ → LockValue) → (ℕ → LockValue) → Worker → Type 0
SameNode old value o = has_node o.local.spot ≡ true → node_of value o.local ≡ node_of old o.local

-- `old`: what the locks guarded as the turn began, `number`: whose turn it is
pub record Carries (m : Setup) (kept : ℕ → Option Flags) (old : ℕ → LockValue) (number : ℕ) (beside : List Worker) (value : ℕ → LockValue) (l : Local) : Type 0 where
  pub within : IsWithin m value l
  pub worker : l.worker ≡ number
  pub flags : HaveFlags kept value
  pub others : All (SameNode old value) beside

pub answered-carries : (m : Setup) (flags : ℕ → Option Flags) (old : ℕ → LockValue) (number : ℕ) (others : List Worker) (value : ℕ → LockValue) (l : Local) (r : Reply) → Carries m flags old number others value l → Carries m flags old number others value (answered l r)
answered-carries m flags old number others value l r ok = record {
  within = record { few = record { put = ok.within.few.put; asked = ok.within.few.asked; count = ok.within.few.count }; some = ok.within.some };
  worker = ok.worker;
  flags = ok.flags;
  others = ok.others;
}

noted-carries : (m : Setup) (flags : ℕ → Option Flags) (old : ℕ → LockValue) (number : ℕ) (others : List Worker) (value : ℕ → LockValue) (l : Local) (r : Option Reply) → Carries m flags old number others value l → Carries m flags old number others value (noted l r)
noted-carries m flags old number others value l None ok = ok
noted-carries m flags old number others value l (Some r) ok = answered-carries m flags old number others value l r ok

-- ---- replies that take no step

or-so : (P : Local → Type 0) (l : Local) (more : Reply → Local) (r : Option Reply) → P l → ((reply : Reply) → P (more reply)) → P (or_step l more r)
or-so P l more None p q = p
or-so P l more (Some reply) p q = q reply

rested-so : (P : Local → Type 0) → ((l : Local) (r : Reply) → P l → P (answered l r)) → (m : Setup) (calls : List Call) (l : Local) → P l → P (rested_with m calls l)
rested-so P keeps m [] l p = p
rested-so P keeps m (call ∷ calls) l p =
    or-so P l (λ reply. rested_with m calls (answered l reply)) (told_at_once m (get_or l.known (call_place call) nobody) call (call_kind call)) p
    (λ reply. rested-so P keeps m calls (answered l reply) (keeps l reply p))

rested_at-so : (P : Local → Type 0) → ((l : Local) (r : Reply) → P l → P (answered l r)) → (m : Setup) (l : Local) (spot : Spot) → P l → P (rested_at m l spot)
rested_at-so P keeps m l Between p = rested-so P keeps m l.todo l p
rested_at-so P keeps m l _ p = p

pub rested-keeps : (P : Local → Type 0) → ((l : Local) (r : Reply) → P l → P (answered l r)) → (m : Setup) (l : Local) → P l → P (rested m l)
rested-keeps P keeps m l p = rested_at-so P keeps m l l.spot p

-- ---- the begin of a call

-- a sweep has all to come, and nothing else counts
first-few : (kind : CallKind) (checks held : Bool) (string nodes cpu turn : ℕ) → (asks_node (first_spot kind checks held) ≡ false) × (0 + left_to_tell string nodes (first_spot kind checks held) ≤ 4096 * come_by cpu turn (first_spot kind checks held))
first-few Alloc false held string nodes cpu turn = (refl, omega arith)
first-few Alloc true held string nodes cpu turn = (refl, omega arith)
first-few Free checked false string nodes cpu turn = (refl, omega arith)
first-few Free false true string nodes cpu turn = (refl, omega arith)
first-few Free true true string nodes cpu turn = (refl, omega arith)
first-few Write false held string nodes cpu turn = (refl, omega arith)
first-few Write true held string nodes cpu turn = (refl, omega arith)
first-few Read false held string nodes cpu turn = (refl, omega arith)
first-few Read true held string nodes cpu turn = (refl, omega arith)
first-few Poke checked held string nodes cpu turn = (refl, omega arith)
first-few Trim checked held string nodes cpu turn = (refl, omega arith)
first-few Flush checked held string nodes cpu turn = (refl, omega arith)

begun_with-within : (m : Setup) (tries : Bool) (value : ℕ → LockValue) (l : Local) (calls : List Call) → IsWithin m value l → IsWithin m value (begun_with m tries l calls)
begun_with-within m tries value l [] ok = ok
begun_with-within m tries value l (call ∷ calls) ok =
    let known = get_or l.known (call_place call) nobody in
    let cache = cache_for m known (call_cache call) (call_kind call) in
    let first = first-few (call_kind call) (m.checks cache) known.held (string_of l).count (length (frames_in (value (node_lock cache)))) (first_cpu (call_kind call) (call_cpu call)) 0 in
    record { few = goes-few ok.few.put first.0 first.1; some = ok.some }

begun_at-within : (m : Setup) (tries : Bool) (value : ℕ → LockValue) (l : Local) (spot : Spot) → IsWithin m value l → IsWithin m value (begun_at m tries l spot)
begun_at-within m tries value l Between ok = begun_with-within m tries value l l.todo ok
begun_at-within m tries value l _ ok = ok

pub begun-within : (m : Setup) (tries : Bool) (value : ℕ → LockValue) (l : Local) → IsWithin m value l → IsWithin m value (begun m tries l)
begun-within m tries value l ok = begun_at-within m tries value l l.spot ok

begun_with-worker : (m : Setup) (tries : Bool) (l : Local) (calls : List Call) → (begun_with m tries l calls).worker ≡ l.worker
begun_with-worker m tries l [] = refl
begun_with-worker m tries l (call ∷ calls) = refl

begun_at-worker : (m : Setup) (tries : Bool) (l : Local) (spot : Spot) → (begun_at m tries l spot).worker ≡ l.worker
begun_at-worker m tries l Between = begun_with-worker m tries l l.todo
begun_at-worker m tries l _ = refl

pub begun-worker : (m : Setup) (tries : Bool) (l : Local) → (begun m tries l).worker ≡ l.worker
begun-worker m tries l = begun_at-worker m tries l l.spot

-- ---- what is so of a worker in a coherent machine

pub knows-few : (w : World) (x : Worker) (others : List Worker) → length w.setup.plain ≤ 32 → Stands w (x ∷ others) → KnowsFew w.value x.local x.local.spot
knows-few w x others plain s =
    let ok = at_work w x others s in
    let setup = s.fresh.setup in
    record {
      cpu = let cpu = ok.spot.cpu in let few = setup.cpus in omega arith;
      turn = λ flush. let turn = (ok.spot.flush flush).0 in omega arith;
      nodes = λ is. short (ok.spot.plain is);
      least = ok.spot.least;
      next = ok.seen.scan_next;
    }
  where
    short : IsPlain w.setup x.local.cache → length (node_of w.value x.local) ≤ 4095
    short plain =
        let n = node_lock x.local.cache in
        let count = s.fresh.setup.locks in
        let frames = s.fresh.setup.frames in
        let c = plain.0 in
        let g = s.listed.shaped.guarded n (omega arith) in
        let is = node-is w.setup x.local.cache (w.value n) plain g in
        let most = (subst (IsGuarded w.setup n) is g).4 in
        omega arith

-- a list word that it loads has no more slabs than the machine has
pub list-short : (m : Setup) (value : ℕ → LockValue) (words : List ℕ) (x : Worker) (others : List Worker) (sweep : Sweep) (y : ℕ) → Stands (world_of m value words) (x ∷ others) → x.local.spot ≡ InOffline TakeCurrent sweep
    → answer_of (step_at m value x.local x.local.spot).op (get_or words (number_of m (step_at m value x.local x.local.spot).place) 0) ≡ Word y → (list_in y).count ≤ 4095
unfolding world_of world_from
list-short m value words x others sweep y s is word =
    let w = world_of m value words in
    let ok = at_work w x others s in
    let n = own_cpu x.local in
    let count = s.fresh.setup.cpu_words in
    let cpu = ok.spot.cpu in
    let cpus = s.fresh.setup.cpus in
    let cache = (ok.spot.plain (rw is refl)).0 in
    let frames = s.fresh.setup.frames in
    let below : n < m.cpu_words = omega arith in
    let fit = lists-fit w x others n s below (string-real w x.local.cache x.local.string x.string ok.spot.string ok.seen.string) in
    let read = list-read m value words n below in
    let same = word-same (subst (λ s. answer_of (step_at m value x.local s).op (get_or words (number_of m (step_at m value x.local s).place) 0) ≡ Word y) is word) in
    let both : (list_in y).count ≡ (w.list n).count = ap (λ z. (list_in z).count) (sym same) ∙ sym (ap (λ (v : ListWord). v.count) read) in
    omega arith
  where
    word-same : {a b : ℕ} → Word a ≡ Word b → a ≡ b
    word-same e = cc

-- in a call of an object it names one by a number from 1 on
here-some : (opening w : World) (x : Worker) (others : List Worker) → IsAccounted opening w (x ∷ others) → IsOfObject x.local.spot → 1 ≤ (here x.local).object
here-some opening w x others ac (kind, does, names) =
    let told = told-of opening w x others ac in
    let call = (told.call kind does).0 in
    let fits = told.fits 0 no_call call.some in
    subst (λ o. 1 ≤ o) (call.object names) (fits.object (ap names_object call.same_kind ∙ names)).0

holds-named : (l n : Local) (s : Spot) → KeepsLocal l s n → (IsOfObject s → 1 ≤ (here l).object) → HoldsNamed l → HoldsNamed n
holds-named l n s (_, inl same) some ok = subst (All (λ (k : Known). k.held ≡ true → 1 ≤ k.object)) (sym same) ok
holds-named l n s (_, inr sets) some ok =
    subst (All (λ (k : Known). k.held ≡ true → 1 ≤ k.object)) (sym sets.is_set)
    (All-set (λ (k : Known). k.held ≡ true → 1 ≤ k.object) l.known l.place sets.mine (λ held. let o = sets.object held in subst (λ n. 1 ≤ n) (sym o.0) (some o.1)) ok)

-- ---- a step

pub step-carries : (opening : World) (m : Setup) (flags : ℕ → Option Flags) (old : ℕ → LockValue) (number : ℕ) (value : ℕ → LockValue) (words : List ℕ) (x : Worker) (others : List Worker) → ((cache : ℕ) → (m.layout cache).cpu_partial_slabs ≤ 8192)
    → length m.plain ≤ 32 → Stands (world_of m value words) (x ∷ others) → IsAccounted opening (world_of m value words) (x ∷ others) → Carries m flags old number others value x.local
    → let step = step_of m value x.local in let turn = advance_at m value x.local x.local.spot (answer_of step.op (get_or words (number_of m step.place) 0)) in Carries m flags old number others value (noted turn.local turn.reply)
unfolding world_of world_from
step-carries opening m flags old number value words x others tuned plain s ac ok =
    let w = world_of m value words in
    let l = x.local in
    let step = step_of m value l in
    let a = answer_of step.op (get_or words (number_of m step.place) 0) in
    let turn = advance_at m value l l.spot a in
    let keeps = turn-keeps m value l l.spot a in
    noted-carries m flags old number others value turn.local turn.reply (record {
      within = record {
        few = turn-few m value l l.spot a tuned (λ sweep y is word. list-short m value words x others sweep y s is word) (knows-few w x others plain s) refl ok.within.few;
        some = holds-named l turn.local l.spot keeps (here-some opening w x others ac) ok.within.some;
      };
      worker = keeps.0 ∙ ok.worker;
      flags = ok.flags;
      others = ok.others;
    })

-- ---- what is done at once

-- another worker that has a node lock has another one
node-elsewhere : (value : ℕ → LockValue) (n : ℕ) (v : LockValue) (o : Worker) → takes n o ≡ 0 → has_node o.local.spot ≡ true → node_of (update value n v) o.local ≡ node_of value o.local
node-elsewhere value n v o none has = elim (cases_eq (node_lock o.local.cache) n) [
  | inl e ↦ absurd (let one : one_if (node_lock o.local.cache == n) ≡ 1 = rw (eq-eqb (node_lock o.local.cache) n e) refl in let z : 1 ≤ takes n o = rw has (omega arith) in omega arith)
  | inr d ↦ ap frames_in (update_other value n v (node_lock o.local.cache) d)
]

module _ (w : World) (flags : ℕ → Option Flags) (old : ℕ → LockValue) (x : Worker) (others : List Worker) (s : Stands w (x ∷ others)) where
  -- the lock of its cache is no other's
  cache-below : (in_plain x.local.spot ≡ true) ⊎ (in_checked x.local.spot ≡ true) → node_lock x.local.cache < w.setup.locks
  cache-below (inl is) = let c = ((at_work w x others s).spot.plain is).0 in let count = s.fresh.setup.locks in omega arith
  cache-below (inr is) = let c = ((at_work w x others s).spot.checked is).0 in let count = s.fresh.setup.locks in omega arith

  others-see : (v : LockValue) → has_node x.local.spot ≡ true → (in_plain x.local.spot ≡ true) ⊎ (in_checked x.local.spot ≡ true) → All (SameNode old w.value) others → All (SameNode old (update w.value (node_lock x.local.cache) v)) others
  others-see v has of all = λ k d below has_it.
      let none = lock-alone w x others (node_lock x.local.cache) s (cache-below of) (let t = takes-node x has in omega arith) k d below in
      node-elsewhere w.value (node_lock x.local.cache) v (get_or others k d) none has_it ∙ all k d below has_it

  others-pool : (v : LockValue) → All (SameNode old w.value) others → All (SameNode old (update w.value pool_lock v)) others
  others-pool v all = λ k d below has. ap frames_in (update_other w.value pool_lock v (node_lock (get_or others k d).local.cache) (λ e. absurd (omega arith))) ∙ all k d below has

  sets-others : (after : ℕ → LockValue) → Sets w.setup x.local x.local.spot w.value after → All (SameNode old w.value) others → All (SameNode old after) others
  sets-others after (inl same) all = subst (λ v. All (SameNode old v) others) (sym same) all
  sets-others after (inr (inl sets)) all = subst (λ v. All (SameNode old v) others) (sym sets.is_set) (others-see (Node sets.frames) sets.has (inl sets.plain) all)
  sets-others after (inr (inr (inl sets))) all = subst (λ v. All (SameNode old v) others) (sym sets.is_set) (others-see (Checked sets.slabs) sets.has (inr sets.checked) all)
  sets-others after (inr (inr (inr sets))) all = subst (λ v. All (SameNode old v) others) (sym sets.is_set) (others-pool (Pool sets.pool) all)

  -- flags stay
  flags-set : (v : LockValue) (n : ℕ) → HaveFlags flags w.value → ((cache : ℕ) → node_lock cache ≡ n → IfSome (checked_in v) (λ slabs. IfSome (flags cache) (λ kept. kept ≡ slabs.flags))) → HaveFlags flags (update w.value n v)
  flags-set v n have here cache = elim (cases_eq (node_lock cache) n) [
    | inl e ↦ subst (λ u. IfSome (checked_in u) (λ slabs. IfSome (flags cache) (λ kept. kept ≡ slabs.flags))) (sym (update_at w.value n v (node_lock cache) e)) (here cache e)
    | inr d ↦ subst (λ u. IfSome (checked_in u) (λ slabs. IfSome (flags cache) (λ kept. kept ≡ slabs.flags))) (sym (update_other w.value n v (node_lock cache) d)) (have cache)
  ]

  flags-slabs : (slabs : CheckedState) → in_checked x.local.spot ≡ true → (slabs_of w.setup w.value x.local).flags ≡ slabs.flags → HaveFlags flags w.value → IfSome (flags x.local.cache) (λ kept. kept ≡ slabs.flags)
  flags-slabs slabs is same have =
      let r = the-slabs w x others s is in
      let e : slabs_of w.setup w.value x.local ≡ r.0 = ap (slabs_in (w.setup.layout x.local.cache)) r.1 in
      let was : IfSome (flags x.local.cache) (λ kept. kept ≡ (slabs_of w.setup w.value x.local).flags) =
      subst (λ (c : CheckedState). IfSome (flags x.local.cache) (λ kept. kept ≡ c.flags)) (sym e) (subst (λ v. IfSome (checked_in v) (λ slabs. IfSome (flags x.local.cache) (λ kept. kept ≡ slabs.flags))) r.1 (have x.local.cache)) in
      subst (λ f. IfSome (flags x.local.cache) (λ kept. kept ≡ f)) same was

  sets-flags : (after : ℕ → LockValue) → Sets w.setup x.local x.local.spot w.value after → HaveFlags flags w.value → HaveFlags flags after
  sets-flags after (inl same) have = subst (HaveFlags flags) (sym same) have
  sets-flags after (inr (inl sets)) have = subst (HaveFlags flags) (sym sets.is_set) (flags-set (Node sets.frames) (node_lock x.local.cache) have (λ cache e. tt))
  sets-flags after (inr (inr (inl sets))) have =
      let r = the-slabs w x others s sets.checked in
      let e : slabs_of w.setup w.value x.local ≡ r.0 = ap (slabs_in (w.setup.layout x.local.cache)) r.1 in
      let same = sets.flags (subst IsSound (sym e) r.2.sound) in
      subst (HaveFlags flags) (sym sets.is_set)
      (flags-set (Checked sets.slabs) (node_lock x.local.cache) have (λ cache at. let same_cache : x.local.cache ≡ cache = omega arith in subst (λ c. IfSome (flags c) (λ kept. kept ≡ sets.slabs.flags)) same_cache (flags-slabs sets.slabs sets.checked (sym same) have)))
  sets-flags after (inr (inr (inr sets))) have = subst (HaveFlags flags) (sym sets.is_set) (flags-set (Pool sets.pool) pool_lock have (λ cache e. tt))

once-at : (opening w : World) (refused : Bool) (flags : ℕ → Option Flags) (old : ℕ → LockValue) (number : ℕ) (x : Worker) (others : List Worker) → length w.setup.plain ≤ 32 → Stands w (x ∷ others) → IsAccounted opening w (x ∷ others)
    → Carries w.setup flags old number others w.value x.local → let c = at_once w.setup refused w.value x.local x.local.spot in Carries w.setup flags old number others c.value (noted c.local c.reply)
once-at opening w refused flags old number x others plain s ac ok =
    let l = x.local in
    let c = at_once w.setup refused w.value l l.spot in
    let keeps = once-keeps w.setup refused w.value l l.spot in
    let sets = once-sets w.setup refused w.value l l.spot in
    noted-carries w.setup flags old number others c.value c.local c.reply (record {
      within = record {
        few = once-few w.setup refused w.value l l.spot (knows-few w x others plain s) refl ok.within.few;
        some = holds-named l c.local l.spot keeps (here-some opening w x others ac) ok.within.some;
      };
      worker = keeps.0 ∙ ok.worker;
      flags = sets-flags w flags old x others s c.value sets ok.flags;
      others = sets-others w flags old x others s c.value sets ok.others;
    })

pub once-carries : (opening w : World) (refused : Bool) (flags : ℕ → Option Flags) (old : ℕ → LockValue) (number : ℕ) (l : Local) (others : List Worker) → length w.setup.plain ≤ 32 → Comes opening w others l
    → Carries w.setup flags old number others w.value l → let c = at_once w.setup refused w.value l l.spot in Carries w.setup flags old number others c.value (noted c.local c.reply)
once-carries opening w refused flags old number l others plain comes ok = by_worker (joined opening w others l comes)
  where
    by_worker : (z : Worker) × (z.local ≡ l) × Stands w (z ∷ others) × IsAccounted opening w (z ∷ others) → let c = at_once w.setup refused w.value l l.spot in Carries w.setup flags old number others c.value (noted c.local c.reply)
    by_worker (z, e, s, ac) =
        subst (λ l. let c = at_once w.setup refused w.value l l.spot in Carries w.setup flags old number others c.value (noted c.local c.reply)) e
        (once-at opening w refused flags old number z others plain s ac (subst (Carries w.setup flags old number others w.value) (sym e) ok))

-- ---- other workers

-- what they may tell yet rests on no node list but one of theirs
left-nodes : (s : Spot) (string one other : ℕ) → (has_node s ≡ true → one ≡ other) → left_to_tell string one s ≡ left_to_tell string other s
left-nodes (InDiscard Unmake discard) string one other same = rw (same refl) refl
left-nodes (InDiscard LockDiscard discard) string one other same = rw (same refl) refl
left-nodes (InDiscard PutRun discard) string one other same = rw (same refl) refl
left-nodes (InDiscard GiveDiscard discard) string one other same = rw (same refl) refl
left-nodes (InTrim LockTrim) string one other same = refl
left-nodes (InTrim ScanNode) string one other same = rw (same refl) refl
left-nodes (InTrim LoadScanned) string one other same = rw (same refl) refl
left-nodes (InTrim DropScanned) string one other same = rw (same refl) refl
left-nodes (InTrim GiveTrim) string one other same = refl
left-nodes (InOffline TakeCurrent sweep) string one other same = refl
left-nodes (InOffline s sweep) string one other same = offline s
  where
    offline : (s : OfflineSpot) → left_to_tell string one (InOffline s sweep) ≡ left_to_tell string other (InOffline s sweep)
    offline LoadCurrent = refl
    offline DetachCurrent = refl
    offline TakeCurrent = refl
left-nodes s string one other same = refl

pub other-within : (m : Setup) (old value : ℕ → LockValue) (o : Worker) → SameNode old value o → IsWithin m old o.local → IsWithin m value o.local
other-within m old value o same ok =
    let l = o.local in
    let left = left-nodes l.spot (string_of l).count (length (node_of value l)) (length (node_of old l)) (λ has. ap length (same has)) in
    let count = ok.few.count in
    record { few = record { put = ok.few.put; asked = ok.few.asked; count = omega arith }; some = ok.some }
