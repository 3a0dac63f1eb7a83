-- The turns in which a worker goes along a node list at the end of a trim, under the node lock.
use Rattle.std.proofs.Common.{◌≡◌, ℕ, suc, ◌+◌, ◌-◌, ◌<◌, eqb, cond, Bool, true, false, List, [], ◌∷◌, ◌++◌, length, get_or, set, Option, Some, None, refl, ap, ◌∙◌, arith, length-append}
use Rattle.std.specs.Prelude.{slice_index}
use Rattle.std.proofs.lemmas.Bool.{le-ltb, lt-ltb}
use Rattle.std.proofs.lemmas.List.{set-get_or}
use Rattle.slub_trace.specs.declared.reply.Reply.TheVariants.{Trimmed}
use Rattle.slub_words.specs.declared.slab.SlabWord.{SlabWord}
use Rattle.slub_words.specs.Words.{slab_bits}
use Rattle.slub_core.specs.declared.local.FrameRun.{FrameRun}
use Rattle.slub_core.specs.declared.spot.Spot.{Spot}
use Rattle.slub_core.specs.declared.spot.Spot.TheVariants.{Between, InDiscard, InTrim}
use Rattle.slub_core.specs.declared.spot.Discard.TheVariants.{FromTrim}
use Rattle.slub_core.specs.declared.spot.DiscardSpot.TheVariants.{Unmake, LockDiscard, PutRun, GiveDiscard}
use Rattle.slub_core.specs.declared.spot.TrimSpot.TheVariants.{LockTrim, ScanNode, LoadScanned, DropScanned, GiveTrim}
use Rattle.slub_core.specs.declared.step.Answer.{Answer}
use Rattle.slub_core.specs.declared.step.Answer.TheVariants.{Word, Done, Won, Lost}
use Rattle.slub_core.specs.declared.step.Op.TheVariants.{Load, Store, Exchange}
use Rattle.slub_core.specs.declared.step.Place.TheVariants.{SlabOf, LockOf}
use Rattle.slub_core.specs.Setup.{Setup, node_lock, pool_lock}
use Rattle.slub_object_layout.specs.Layout.{order_for}
use Rattle.slub_core.specs.Words.{slab_base, slab_in, no_slab_word}
use Rattle.slub_core.specs.World.{LockValue, Node, Pool, update, frames_in, pool_in}
use Rattle.slub_core.specs.Discard.{with_put}
use Rattle.slub_core.specs.Local.{Change, Local, answered, at, bare_hand, goes, stays}
use Rattle.slub_core.specs.Offline.{scanned_word, without_at}
use Rattle.slub_core.specs.Ops.{load_slab}
use Rattle.slub_core.specs.Run.{turn}
use Rattle.slub_core.specs.Steps.{advance_at, at_once, rested}
use Rattle.slub_law_alone.specs.Alone.{own_pick}
use Rattle.slub_law_alone.proofs.MovedLists.{turn_changes, settle_twice}
use Rattle.slub_law_alone.proofs.Turns.{machine, turn_goes, settle_goes, settle_tells}

module _ (m : Setup) (ls : List Local) (x : ℕ) (l : Local) (there : x < length ls) where
  abbrev k : ℕ
  k = l.cache

  abbrev j : ℕ
  j = node_lock l.cache

  abbrev a : ℕ
  a = l.worker + 1

  -- it has come by so many slabs, and tells of so many
  abbrev pub scanning : SlabWord → ℕ → List ℕ → Spot → Local
  scanning z c sc spot = record l { slab_word = z; count = c; scanned = sc; run = None; spot = spot }

  -- where it stands with these slabs to come, and what the locks guard then
  abbrev pub scans : SlabWord → ℕ → List ℕ → List ℕ → Local
  scans z c sc [] = scanning z c sc (InTrim GiveTrim)
  scans z c sc (f ∷ fs) = scanning z c sc (InTrim LoadScanned)

  abbrev pub guards : (ℕ → LockValue) → List ℕ → List ℕ → ℕ → LockValue
  guards value sc [] = update value j (Node (m.means.promote (frames_in (value j)) sc))
  guards value sc (f ∷ fs) = value

  once_is : (value : ℕ → LockValue) (z : SlabWord) (c : ℕ) (sc fs : List ℕ) → length (frames_in (value j)) ≡ length sc + length fs → at_once m false value (scanning z c sc (InTrim ScanNode)) (InTrim ScanNode) ≡ stays (guards value sc fs) (scans z c sc fs)
  once_is value z c sc [] long = ap (λ b. cond {A = Change} b (stays value (scanning z c sc (InTrim LoadScanned))) (stays (guards value sc []) (scanning z c sc (InTrim GiveTrim)))) (le-ltb (length sc) (length (frames_in (value j))) (omega (arith, long)))
  once_is value z c sc (f ∷ fs) long = ap (λ b. cond {A = Change} b (stays value (scanning z c sc (InTrim LoadScanned))) (stays (guards value sc []) (scanning z c sc (InTrim GiveTrim)))) (lt-ltb (length sc) (length (frames_in (value j))) (omega (arith, long)))

  waits : (value : ℕ → LockValue) (z : SlabWord) (c : ℕ) (sc fs : List ℕ) → at_once m false value (scans z c sc fs) (scans z c sc fs).spot ≡ stays value (scans z c sc fs)
  waits value z c sc [] = refl
  waits value z c sc (f ∷ fs) = refl

  stands : (z : SlabWord) (c : ℕ) (sc fs : List ℕ) → rested m (scans z c sc fs) ≡ scans z c sc fs
  stands z c sc [] = refl
  stands z c sc (f ∷ fs) = refl

  -- it takes the node lock
  pub turn_locks : (words : List ℕ) (value : ℕ → LockValue) (z : SlabWord) (c : ℕ) (sc fs : List ℕ) → eqb (get_or words j 0) 0 ≡ true → length (frames_in (value j)) ≡ length fs
      → turn m (machine words value (set ls x (scanning z c sc (InTrim LockTrim)))) (own_pick x) ≡ machine (set words j a) (guards value [] fs) (set ls x (scans z c [] fs))
  turn_locks words value z c sc fs hit long =
      turn_changes m words (set words j a) value (guards value [] fs) ls x was (scans z c [] fs) (record { place = LockOf j; op = Exchange 0 a }) Won there refl refl
      (ap (λ h. set words j (cond {A = ℕ} h a (get_or words j 0))) hit) (ap (λ h. cond {A = Answer} h Won (Lost (get_or words j 0))) hit)
      (settle_twice m value (guards value [] fs) was (scanning z c [] (InTrim ScanNode)) (scans z c [] fs) (scans z c [] fs) Won refl (once_is value z c [] fs (omega (arith, long))) (waits (guards value [] fs) z c [] fs) (stands z c [] fs))
    where
      was : Local
      was = scanning z c sc (InTrim LockTrim)

  -- ---- one slab

  module _ (words : List ℕ) (value : ℕ → LockValue) (z y : SlabWord) (c f : ℕ) (sc fs : List ℕ) (at_f : slice_index (frames_in (value j)) (length sc) ≡ f) (reads : slab_in (get_or words (slab_base + f) 0) ≡ y) where
    was : Local
    was = scanning z c sc (InTrim LoadScanned)

    q : ℕ
    q = get_or words (slab_base + f) 0

    abbrev free : ℕ
    free = y.objects - y.inuse

    abbrev to : Bool → Local
    to none = scanning y c (cond none sc (sc ++ free ∷ [])) (cond none (InTrim DropScanned) (InTrim ScanNode))

    leads : (none : Bool) → eqb y.inuse 0 ≡ none → advance_at m value (scanning z c sc (InTrim LoadScanned)) (InTrim LoadScanned) (Word (get_or words (slab_base + f) 0)) ≡ goes (to none)
    leads none is = ap (λ y. goes (scanned_word (scanning z c sc (InTrim LoadScanned)) y)) reads ∙ ap (λ b. goes (to b)) is

    -- something of it is in use
    pub turn_keeps : eqb y.inuse 0 ≡ false → length (frames_in (value j)) ≡ suc (length sc) + length fs
        → turn m (machine words value (set ls x (scanning z c sc (InTrim LoadScanned)))) (own_pick x) ≡ machine words (guards value (sc ++ free ∷ []) fs) (set ls x (scans y c (sc ++ free ∷ []) fs))
    turn_keeps some long =
        turn_changes m words words value (guards value (sc ++ free ∷ []) fs) ls x (scanning z c sc (InTrim LoadScanned)) (scans y c (sc ++ free ∷ []) fs) (record { place = SlabOf f; op = Load }) (Word (get_or words (slab_base + f) 0)) there refl (ap load_slab at_f) (set-get_or words (slab_base + f) 0) refl
        (settle_twice m value (guards value (sc ++ free ∷ []) fs) (scanning z c sc (InTrim LoadScanned)) (to false) (scans y c (sc ++ free ∷ []) fs) (scans y c (sc ++ free ∷ []) fs) (Word (get_or words (slab_base + f) 0)) (leads false some)
        (once_is value y c (sc ++ free ∷ []) fs (let e = length-append sc (free ∷ []) in omega (arith, long, e))) (waits (guards value (sc ++ free ∷ []) fs) y c (sc ++ free ∷ []) fs) (stands y c (sc ++ free ∷ []) fs))

    -- nothing is: it comes off the list at once
    abbrev pub dropped : Local
    dropped = record l { slab_word = y; count = c; scanned = sc; run = None; hands = bare_hand f ∷ l.hands; spot = InDiscard Unmake FromTrim }

    abbrev pub without : ℕ → LockValue
    without = update value j (Node (without_at (frames_in (value j)) (length sc)))

    pub turn_drops : eqb y.inuse 0 ≡ true → turn m (machine words value (set ls x (scanning z c sc (InTrim LoadScanned)))) (own_pick x) ≡ machine words without (set ls x dropped)
    turn_drops none =
        turn_changes m words words value without ls x (scanning z c sc (InTrim LoadScanned)) dropped (record { place = SlabOf f; op = Load }) (Word (get_or words (slab_base + f) 0)) there refl (ap load_slab at_f) (set-get_or words (slab_base + f) 0) refl
        (settle_twice m value without (scanning z c sc (InTrim LoadScanned)) (to true) dropped dropped (Word (get_or words (slab_base + f) 0)) (leads true none) (ap (λ f. stays without (record dropped { hands = bare_hand f ∷ l.hands })) at_f) refl refl)

  abbrev pub run_of : ℕ → SlabWord → FrameRun
  run_of f y = record { frame = f; order = order_for (m.layout k) y.objects; objects = y.objects }

  abbrev pub with_run : SlabWord → ℕ → List ℕ → Option FrameRun → Spot → Local
  with_run y c sc run spot = record l { slab_word = y; count = c; scanned = sc; run = run; spot = spot }

  pub turn_unmakes : (words : List ℕ) (value : ℕ → LockValue) (y : SlabWord) (c f : ℕ) (sc : List ℕ)
      → turn m (machine words value (set ls x (record l { slab_word = y; count = c; scanned = sc; run = None; hands = bare_hand f ∷ l.hands; spot = InDiscard Unmake FromTrim }))) (own_pick x)
      ≡ machine (set words (slab_base + f) (slab_bits no_slab_word)) value (set ls x (with_run y (c + 1) sc (Some (run_of f y)) (InDiscard LockDiscard FromTrim)))
  turn_unmakes words value y c f sc =
      turn_goes m words (set words (slab_base + f) (slab_bits no_slab_word)) value ls x was was next (record { place = SlabOf f; op = Store (slab_bits no_slab_word) }) Done there refl refl refl refl (settle_goes m value was next Done refl refl refl)
    where
      was : Local
      was = record l { slab_word = y; count = c; scanned = sc; run = None; hands = bare_hand f ∷ l.hands; spot = InDiscard Unmake FromTrim }

      next : Local
      next = with_run y (c + 1) sc (Some (run_of f y)) (InDiscard LockDiscard FromTrim)

  abbrev pub pool_put : (ℕ → LockValue) → FrameRun → ℕ → LockValue
  pool_put value run = update value pool_lock (Pool (with_put (pool_in (value pool_lock)) run))

  pub turn_puts : (words : List ℕ) (value : ℕ → LockValue) (y : SlabWord) (c : ℕ) (sc : List ℕ) (run : FrameRun) → eqb (get_or words 0 0) 0 ≡ true
      → turn m (machine words value (set ls x (with_run y c sc (Some run) (InDiscard LockDiscard FromTrim)))) (own_pick x) ≡ machine (set words 0 a) (pool_put value run) (set ls x (with_run y c sc None (InDiscard GiveDiscard FromTrim)))
  turn_puts words value y c sc run hit =
      turn_changes m words (set words 0 a) value (pool_put value run) ls x was next (record { place = LockOf 0; op = Exchange 0 a }) Won there refl refl
      (ap (λ h. set words 0 (cond {A = ℕ} h a (get_or words 0 0))) hit) (ap (λ h. cond {A = Answer} h Won (Lost (get_or words 0 0))) hit)
      (settle_twice m value (pool_put value run) was (at was (InDiscard PutRun FromTrim)) next next Won refl refl refl refl)
    where
      was : Local
      was = with_run y c sc (Some run) (InDiscard LockDiscard FromTrim)

      next : Local
      next = with_run y c sc None (InDiscard GiveDiscard FromTrim)

  pub turn_gives : (words : List ℕ) (value : ℕ → LockValue) (y : SlabWord) (c : ℕ) (sc fs : List ℕ) → length (frames_in (value j)) ≡ length sc + length fs
      → turn m (machine words value (set ls x (with_run y c sc None (InDiscard GiveDiscard FromTrim)))) (own_pick x) ≡ machine (set words 0 0) (guards value sc fs) (set ls x (scans y c sc fs))
  turn_gives words value y c sc fs long =
      turn_changes m words (set words 0 0) value (guards value sc fs) ls x was (scans y c sc fs) (record { place = LockOf 0; op = Store 0 }) Done there refl refl refl refl
      (settle_twice m value (guards value sc fs) was (scanning y c sc (InTrim ScanNode)) (scans y c sc fs) (scans y c sc fs) Done refl (once_is value y c sc fs long) (waits (guards value sc fs) y c sc fs) (stands y c sc fs))
    where
      was : Local
      was = with_run y c sc None (InDiscard GiveDiscard FromTrim)

  -- ---- the lock is given back, and the call has its reply

  pub turn_ends : (words : List ℕ) (value : ℕ → LockValue) (y : SlabWord) (c : ℕ) (sc : List ℕ)
      → turn m (machine words value (set ls x (scanning y c sc (InTrim GiveTrim)))) (own_pick x) ≡ machine (set words j 0) value (set ls x (rested m (answered (scanning y c sc Between) (Trimmed c))))
  turn_ends words value y c sc =
      turn_goes m words (set words j 0) value ls x was was (rested m (answered (scanning y c sc Between) (Trimmed c))) (record { place = LockOf j; op = Store 0 }) Done there refl refl refl refl (settle_tells m value was (scanning y c sc Between) Done (Trimmed c) refl refl)
    where
      was : Local
      was = scanning y c sc (InTrim GiveTrim)
