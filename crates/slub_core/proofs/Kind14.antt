-- Kind 14, spot by spot: a lock is given back.
use Rattle.std.proofs.Common.{◌≡◌, ℕ, suc, ◌<◌, ◌≤◌, true, false, cond, inl, inr, Option, Some, None, List, [], ◌∷◌, length, refl, sym, ap, ◌∙◌, arith}
use Rattle.std.specs.Prelude.{IsSome}
use Rattle.std.proofs.lemmas.Bool.{ne_eqb, false≢true}
use Rattle.std.proofs.lemmas.List.Elements.{All-head}
use Rattle.slub_core.specs.declared.call.CallKind.{CallKind}
use Rattle.slub_core.specs.declared.local.Hand.{Hand}
use Rattle.slub_core.specs.declared.local.FrameRun.{FrameRun}
use Rattle.slub_core.specs.declared.step.Answer.TheVariants.{Done}
use Rattle.slub_core.specs.declared.spot.Spot.TheVariants.{Between, InAlloc, InPutAway, InDiscard, InFree, InTrim, InChecked}
use Rattle.slub_core.specs.declared.spot.AllocSpot.TheVariants.{GiveNode, LockPool, LoadReady, GivePool, GiveDry, LinkNew}
use Rattle.slub_core.specs.declared.spot.Away.{Away}
use Rattle.slub_core.specs.declared.spot.Away.TheVariants.{ForInstall, ForSpent, ForSweep}
use Rattle.slub_core.specs.declared.spot.PutAwaySpot.TheVariants.{GiveAway}
use Rattle.slub_core.specs.declared.spot.Discard.{Discard}
use Rattle.slub_core.specs.declared.spot.Discard.TheVariants.{FromAway, FromFree, FromMove, FromTrim}
use Rattle.slub_core.specs.declared.spot.DiscardSpot.TheVariants.{GiveDiscard}
use Rattle.slub_core.specs.declared.spot.FreeSpot.TheVariants.{GoBack, GiveFree, LoadSlab}
use Rattle.slub_core.specs.declared.spot.TrimSpot.TheVariants.{GiveTrim}
use Rattle.slub_core.specs.declared.spot.CheckedSpot.TheVariants.{GiveRun, GiveChecked}
use Rattle.slub_core.specs.Setup.{Setup, IsSetup, node_lock, pool_lock}
use Rattle.slub_core.specs.World.{World, set_lock}
use Rattle.slub_core.specs.Local.{Worker, at, run_of, run_in}
use Rattle.slub_core.specs.Spots.{has_node, has_pool, is_marked}
use Rattle.slub_core.specs.Alloc.{alloc_advance, way_of_node}
use Rattle.slub_core.specs.PutAway.{put_away_advance, way_of_put}
use Rattle.slub_core.specs.Discard.{discard_advance, way_of_discarded}
use Rattle.slub_core.specs.Free.{free_advance}
use Rattle.slub_core.specs.Offline.{trim_advance}
use Rattle.slub_core.specs.Checked.{checked_advance}
use Rattle.slub_object_layout.specs.Layout.{IsSized}
use Rattle.slub_core.specs.Fresh.{IsHeldRun, IsAtWork}
use Rattle.slub_core.specs.Coherent.{Stands}
use Rattle.slub_core.proofs.Locks.{ComesTo, lent, give-node, give-pool}

-- where no slab is in hand, and where one is
give_node-none : (w : World) (x : Worker) → x.local.spot ≡ InAlloc GiveNode → x.local.hands ≡ [] → ((n : ℕ) → w.lock n ≡ suc x.local.worker) → IsAtWork w x → IsAtWork w (record x { local = at x.local (InAlloc LockPool) })
give_node-none w x is none locks ok = grind arith

give_node-ready : (w : World) (x : Worker) (h : Hand) (hs : List Hand) → x.local.spot ≡ InAlloc GiveNode → x.local.hands ≡ h ∷ hs → ((n : ℕ) → w.lock n ≡ suc x.local.worker) → IsAtWork w x → IsAtWork w (record x { local = at x.local (InAlloc LoadReady) })
give_node-ready w x h hs is some locks ok = grind arith

way-ready : (h : Hand) (hs : List Hand) → way_of_node (h ∷ hs) ≡ InAlloc LoadReady
way-ready h hs = rw (ne_eqb (length (h ∷ hs)) 0 (λ e. absurd (omega arith))) refl

pub at_GiveNode : (w : World) (x : Worker) (others : List Worker) → x.local.spot ≡ InAlloc GiveNode → Stands w (x ∷ others)
    → ComesTo (set_lock w (node_lock x.local.cache) 0) others (alloc_advance w.setup x.local GiveNode Done).local
at_GiveNode w x others is s = by_hands x.local.hands refl
  where
    cache : x.local.cache < 32
    cache = ((All-head (IsAtWork w) x others s.fresh.workers).spot.plain (rw is refl)).0

    by_hands : (hs : List Hand) → x.local.hands ≡ hs → ComesTo (set_lock w (node_lock x.local.cache) 0) others (at x.local (way_of_node x.local.hands))
    by_hands [] e =
        (record x { local = at x.local (InAlloc LockPool) }, ap (at x.local) (sym (ap way_of_node e)), give-node w x _ others s cache (record { owned = λ f i. refl; home = λ f. refl; marked = λ f. rw is refl; covered = λ g. refl }) (rw is refl) (rw is refl) refl refl refl (give_node-none (lent w x.local.worker) x is e (λ n. refl)))
    by_hands (h ∷ hs) e =
        (record x { local = at x.local (InAlloc LoadReady) }, ap (at x.local) (sym (ap way_of_node e ∙ way-ready h hs)), give-node w x _ others s cache (record { owned = λ f i. refl; home = λ f. refl; marked = λ f. rw is refl; covered = λ g. refl }) (rw is refl) (rw is refl) refl refl refl (give_node-ready (lent w x.local.worker) x h hs is e (λ n. refl)))

-- a slab has an object at least
run-some : (m : Setup) (cache : ℕ) (r : Option FrameRun) (stored : ℕ) (w : World) → w.setup ≡ m → IsSetup m → m.lives cache ≡ true → IsSome r → IsHeldRun w cache r stored → 1 ≤ (run_in r).objects
run-some m cache None stored w same setup live some held = absurd (false≢true some)
run-some m cache (Some run) stored w same setup live some held =
    let b = setup.layout cache live in
    let sized : IsSized (m.layout cache) run.order run.objects = rw same at held.0.sized in
    elim sized [ inl e ↦ (let o = b.objects in omega (arith, e.1)) | inr e ↦ (let o = b.min_objects_slab in omega (arith, e.1)) ]

give_pool-work : (w : World) (x : Worker) → x.local.spot ≡ InAlloc GivePool → 1 ≤ (run_of x.local).objects → ((n : ℕ) → w.lock n ≡ suc x.local.worker) → IsAtWork w x → IsAtWork w (record x { local = at x.local (InAlloc (LinkNew 0)) })
give_pool-work w x is some locks ok = grind arith

pub at_GivePool : (w : World) (x : Worker) (others : List Worker) → x.local.spot ≡ InAlloc GivePool → Stands w (x ∷ others)
    → ComesTo (set_lock w pool_lock 0) others (alloc_advance w.setup x.local GivePool Done).local
at_GivePool w x others is s =
    let ok = All-head (IsAtWork w) x others s.fresh.workers in
    let some = run-some w.setup x.local.cache x.local.run _ w refl s.fresh.setup (ok.spot.plain (rw is refl)).1 (ok.spot.run (rw is refl)) ok.seen.run in
    (record x { local = at x.local (InAlloc (LinkNew 0)) }, refl, give-pool w x _ others s (record { owned = λ f i. refl; home = λ f. refl; marked = λ f. rw is refl; covered = λ g. refl }) (rw is refl) refl (rw is refl) refl refl (give_pool-work (lent w x.local.worker) x is some (λ n. refl)))

give_dry-work : (w : World) (x : Worker) → x.local.spot ≡ InAlloc GiveDry → ((n : ℕ) → w.lock n ≡ suc x.local.worker) → IsAtWork w x → IsAtWork w (record x { local = at x.local Between })
give_dry-work w x is locks ok = grind arith

pub at_GiveDry : (w : World) (x : Worker) (others : List Worker) → x.local.spot ≡ InAlloc GiveDry → Stands w (x ∷ others)
    → ComesTo (set_lock w pool_lock 0) others (alloc_advance w.setup x.local GiveDry Done).local
at_GiveDry w x others is s =
    (record x { local = at x.local Between }, refl, give-pool w x _ others s (record { owned = λ f i. refl; home = λ f. refl; marked = λ f. rw is refl; covered = λ g. refl }) (rw is refl) refl (rw is refl) refl refl (give_dry-work (lent w x.local.worker) x is (λ n. refl)))

give_away-work : (w : World) (x : Worker) (away : Away) → x.local.spot ≡ InPutAway GiveAway away → ((n : ℕ) → w.lock n ≡ suc x.local.worker) → IsAtWork w x → IsAtWork w (record x { local = at x.local (way_of_put away) })
give_away-work w x ForInstall is locks ok = grind arith
give_away-work w x ForSpent is locks ok = grind arith
give_away-work w x (ForSweep sweep) is locks ok = grind arith

no_node-away : (away : Away) → has_node (way_of_put away) ≡ false
no_node-away ForInstall = refl
no_node-away ForSpent = refl
no_node-away (ForSweep sweep) = refl

no_pool-away : (away : Away) → has_pool (way_of_put away) ≡ false
no_pool-away ForInstall = refl
no_pool-away ForSpent = refl
no_pool-away (ForSweep sweep) = refl

unmarked-away : (n : ℕ) (away : Away) → cond (is_marked (way_of_put away)) n 0 ≡ 0
unmarked-away n ForInstall = refl
unmarked-away n ForSpent = refl
unmarked-away n (ForSweep sweep) = refl

pub at_GiveAway : (w : World) (x : Worker) (others : List Worker) (away : Away) → x.local.spot ≡ InPutAway GiveAway away → Stands w (x ∷ others)
    → ComesTo (set_lock w (node_lock x.local.cache) 0) others (put_away_advance w.setup w.value x.local GiveAway away Done).local
at_GiveAway w x others away is s =
    let cache = ((All-head (IsAtWork w) x others s.fresh.workers).spot.plain (rw is refl)).0 in
    (record x { local = at x.local (way_of_put away) }, refl, give-node w x _ others s cache (record { owned = λ f i. refl; home = λ f. refl; marked = λ f. rw is (unmarked-away _ away); covered = λ g. refl }) (rw is refl) (rw is refl) (no_node-away away) (no_pool-away away) refl (give_away-work (lent w x.local.worker) x away is (λ n. refl)))

give_discard-work : (w : World) (x : Worker) (discard : Discard) → x.local.spot ≡ InDiscard GiveDiscard discard → ((n : ℕ) → w.lock n ≡ suc x.local.worker) → IsAtWork w x → IsAtWork w (record x { local = at x.local (way_of_discarded discard) })
give_discard-work w x (FromAway away) is locks ok = grind arith
give_discard-work w x FromFree is locks ok = grind arith
give_discard-work w x (FromMove move) is locks ok = grind arith
give_discard-work w x FromTrim is locks ok = grind arith

has_node-discard : (discard : Discard) → has_node (way_of_discarded discard) ≡ true
has_node-discard (FromAway away) = refl
has_node-discard FromFree = refl
has_node-discard (FromMove move) = refl
has_node-discard FromTrim = refl

no_pool-discard : (discard : Discard) → has_pool (way_of_discarded discard) ≡ false
no_pool-discard (FromAway away) = refl
no_pool-discard FromFree = refl
no_pool-discard (FromMove move) = refl
no_pool-discard FromTrim = refl

unmarked-discard : (n : ℕ) (discard : Discard) → cond (is_marked (way_of_discarded discard)) n 0 ≡ 0
unmarked-discard n (FromAway away) = refl
unmarked-discard n FromFree = refl
unmarked-discard n (FromMove move) = refl
unmarked-discard n FromTrim = refl

pub at_GiveDiscard : (w : World) (x : Worker) (others : List Worker) (discard : Discard) → x.local.spot ≡ InDiscard GiveDiscard discard → Stands w (x ∷ others)
    → ComesTo (set_lock w pool_lock 0) others (discard_advance w.setup x.local GiveDiscard discard Done).local
at_GiveDiscard w x others discard is s =
    (record x { local = at x.local (way_of_discarded discard) }, refl, give-pool w x _ others s (record { owned = λ f i. refl; home = λ f. refl; marked = λ f. rw is (unmarked-discard _ discard); covered = λ g. refl }) (rw is refl) (no_pool-discard discard) (rw is (has_node-discard discard)) refl refl (give_discard-work (lent w x.local.worker) x discard is (λ n. refl)))

go_back-work : (w : World) (x : Worker) → x.local.spot ≡ InFree GoBack → ((n : ℕ) → w.lock n ≡ suc x.local.worker) → IsAtWork w x → IsAtWork w (record x { local = at x.local (InFree LoadSlab) })
go_back-work w x is locks ok = grind arith

pub at_GoBack : (w : World) (x : Worker) (others : List Worker) → x.local.spot ≡ InFree GoBack → Stands w (x ∷ others)
    → ComesTo (set_lock w (node_lock x.local.cache) 0) others (free_advance w.setup x.local GoBack Done).local
at_GoBack w x others is s =
    let cache = ((All-head (IsAtWork w) x others s.fresh.workers).spot.plain (rw is refl)).0 in
    (record x { local = at x.local (InFree LoadSlab) }, refl, give-node w x _ others s cache (record { owned = λ f i. refl; home = λ f. refl; marked = λ f. rw is refl; covered = λ g. refl }) (rw is refl) (rw is refl) refl refl refl (go_back-work (lent w x.local.worker) x is (λ n. refl)))

give_free-work : (w : World) (x : Worker) → x.local.spot ≡ InFree GiveFree → ((n : ℕ) → w.lock n ≡ suc x.local.worker) → IsAtWork w x → IsAtWork w (record x { local = at x.local Between })
give_free-work w x is locks ok = grind arith

pub at_GiveFree : (w : World) (x : Worker) (others : List Worker) → x.local.spot ≡ InFree GiveFree → Stands w (x ∷ others)
    → ComesTo (set_lock w (node_lock x.local.cache) 0) others (free_advance w.setup x.local GiveFree Done).local
at_GiveFree w x others is s =
    let cache = ((All-head (IsAtWork w) x others s.fresh.workers).spot.plain (rw is refl)).0 in
    (record x { local = at x.local Between }, refl, give-node w x _ others s cache (record { owned = λ f i. refl; home = λ f. refl; marked = λ f. rw is refl; covered = λ g. refl }) (rw is refl) (rw is refl) refl refl refl (give_free-work (lent w x.local.worker) x is (λ n. refl)))

give_trim-work : (w : World) (x : Worker) → x.local.spot ≡ InTrim GiveTrim → ((n : ℕ) → w.lock n ≡ suc x.local.worker) → IsAtWork w x → IsAtWork w (record x { local = at x.local Between })
give_trim-work w x is locks ok = grind arith

pub at_GiveTrim : (w : World) (x : Worker) (others : List Worker) → x.local.spot ≡ InTrim GiveTrim → Stands w (x ∷ others)
    → ComesTo (set_lock w (node_lock x.local.cache) 0) others (trim_advance x.local GiveTrim Done).local
at_GiveTrim w x others is s =
    let cache = ((All-head (IsAtWork w) x others s.fresh.workers).spot.plain (rw is refl)).0 in
    (record x { local = at x.local Between }, refl, give-node w x _ others s cache (record { owned = λ f i. refl; home = λ f. refl; marked = λ f. rw is refl; covered = λ g. refl }) (rw is refl) (rw is refl) refl refl refl (give_trim-work (lent w x.local.worker) x is (λ n. refl)))

give_run-work : (w : World) (x : Worker) (kind : CallKind) → x.local.spot ≡ InChecked GiveRun kind → ((n : ℕ) → w.lock n ≡ suc x.local.worker) → IsAtWork w x → IsAtWork w (record x { local = at x.local (InChecked GiveChecked kind) })
give_run-work w x kind is locks ok = grind arith

pub at_GiveRun : (w : World) (x : Worker) (others : List Worker) (kind : CallKind) → x.local.spot ≡ InChecked GiveRun kind → Stands w (x ∷ others)
    → ComesTo (set_lock w pool_lock 0) others (checked_advance x.local GiveRun kind Done).local
at_GiveRun w x others kind is s =
    (record x { local = at x.local (InChecked GiveChecked kind) }, refl, give-pool w x _ others s (record { owned = λ f i. refl; home = λ f. refl; marked = λ f. rw is refl; covered = λ g. refl }) (rw is refl) refl (rw is refl) refl refl (give_run-work (lent w x.local.worker) x kind is (λ n. refl)))

give_checked-work : (w : World) (x : Worker) (kind : CallKind) → x.local.spot ≡ InChecked GiveChecked kind → ((n : ℕ) → w.lock n ≡ suc x.local.worker) → IsAtWork w x → IsAtWork w (record x { local = at x.local Between })
give_checked-work w x kind is locks ok = grind arith

pub at_GiveChecked : (w : World) (x : Worker) (others : List Worker) (kind : CallKind) → x.local.spot ≡ InChecked GiveChecked kind → Stands w (x ∷ others)
    → ComesTo (set_lock w (node_lock x.local.cache) 0) others (checked_advance x.local GiveChecked kind Done).local
at_GiveChecked w x others kind is s =
    let cache = ((All-head (IsAtWork w) x others s.fresh.workers).spot.checked (rw is refl)).0 in
    (record x { local = at x.local Between }, refl, give-node w x _ others s cache (record { owned = λ f i. refl; home = λ f. refl; marked = λ f. rw is refl; covered = λ g. refl }) (rw is refl) (rw is refl) refl refl refl (give_checked-work (lent w x.local.worker) x kind is (λ n. refl)))
