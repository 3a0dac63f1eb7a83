-- The turns in which a worker moves one slab of a set that it has in hand, under the node lock.
use Rattle.std.proofs.Common.{◌≡◌, ℕ, suc, ◌+◌, ◌-◌, ◌%◌, ◌^◌, ◌<◌, eqb, cond, Bool, true, false, List, [], ◌∷◌, ◌++◌, length, get_or, set, Option, Some, None, refl, ap, ◌∙◌, arith}
use Rattle.std.proofs.lemmas.Bool.{ne_eqb}
use Rattle.std.proofs.lemmas.List.{set-get_or}
use Rattle.slub_words.specs.declared.slab.SlabWord.{SlabWord}
use Rattle.slub_words.specs.Words.{slab_bits}
use Rattle.slub_core.specs.declared.local.FrameRun.{FrameRun}
use Rattle.slub_core.specs.declared.local.PartialString.{PartialString}
use Rattle.slub_core.specs.declared.spot.Spot.{Spot}
use Rattle.slub_core.specs.declared.spot.Spot.TheVariants.{InDiscard, InMoveSet}
use Rattle.slub_core.specs.declared.spot.Discard.TheVariants.{FromMove}
use Rattle.slub_core.specs.declared.spot.DiscardSpot.TheVariants.{Unmake, LockDiscard, PutRun, GiveDiscard}
use Rattle.slub_core.specs.declared.spot.MoveSet.{MoveSet}
use Rattle.slub_core.specs.declared.spot.MoveSetSpot.TheVariants.{LockMove, ChooseFront, FollowSet, LoadMoved, ListSlab, PutTail, GiveMove}
use Rattle.slub_core.specs.declared.step.Answer.{Answer}
use Rattle.slub_core.specs.declared.step.Answer.TheVariants.{Word, Done, Won, Lost}
use Rattle.slub_core.specs.declared.step.Op.TheVariants.{Load, Store, Exchange}
use Rattle.slub_core.specs.declared.step.Place.TheVariants.{SlabOf, LinkOf, LockOf}
use Rattle.slub_core.specs.Setup.{Setup, node_lock, pool_lock}
use Rattle.slub_object_layout.specs.Layout.{order_for}
use Rattle.slub_core.specs.Words.{slab_base, link_base, slab_in, no_slab_word}
use Rattle.slub_core.specs.World.{LockValue, Node, Pool, update, frames_in, pool_in}
use Rattle.slub_core.specs.Alloc.{taken_string}
use Rattle.slub_core.specs.Discard.{counts_for, with_put}
use Rattle.slub_core.specs.Local.{Local, Turn, at, bare_hand, goes, less_hand, stays}
use Rattle.slub_core.specs.MoveSet.{front_taken, listed_word, way_of_moved}
use Rattle.slub_core.specs.Run.{turn}
use Rattle.slub_core.specs.Steps.{advance_at, at_once, rested}
use Rattle.slub_law_alone.specs.Alone.{own_pick}
use Rattle.slub_law_alone.proofs.MovedLists.{turn_changes, settle_twice}
use Rattle.slub_law_alone.proofs.Turns.{machine, turn_goes, settle_goes}

-- the string of the slabs that are to come
abbrev pub string_for : List ℕ → Option PartialString
string_for [] = None
string_for (f ∷ fs) = Some (taken_string f (suc (length fs)))

module _ (m : Setup) (ls : List Local) (x : ℕ) (l : Local) (move : MoveSet) (there : x < length ls) where
  abbrev k : ℕ
  k = l.cache

  abbrev j : ℕ
  j = node_lock l.cache

  abbrev a : ℕ
  a = l.worker + 1

  -- ---- where the worker stands

  -- it has a slab in hand, and a string of others
  abbrev pub with_slab : ℕ → ℕ → List ℕ → SlabWord → Spot → Local
  with_slab c f fs z spot = record l { slab_word = z; count = c; run = None; hands = bare_hand f ∷ l.hands; string = string_for fs; spot = spot }

  -- it is about to move the slabs
  abbrev pub before : SlabWord → ℕ → List ℕ → Local
  before z c [] = record l { slab_word = z; count = c; run = None; string = None; spot = InMoveSet GiveMove move }
  before z c (f ∷ []) = with_slab c f [] z (InMoveSet LoadMoved move)
  before z c (f ∷ g ∷ fs) = record l { slab_word = z; count = c; run = None; string = Some (taken_string f (suc (suc (length fs)))); spot = InMoveSet FollowSet move }

  pub front_is : (z : SlabWord) (c : ℕ) (spot : Spot) (fs : List ℕ) → front_taken (record l { slab_word = z; count = c; run = None; string = string_for fs; spot = spot }) move (string_for fs) ≡ before z c fs
  front_is z c spot [] = refl
  front_is z c spot (f ∷ []) = refl
  front_is z c spot (f ∷ g ∷ fs) = ap by (ne_eqb (suc (suc (length fs))) 1 (λ e. absurd (omega (arith, e))))
    where
      by : Bool → Local
      by h = cond {A = Local} h (record l { slab_word = z; count = c; run = None; hands = bare_hand f ∷ l.hands; string = None; spot = InMoveSet LoadMoved move }) (before z c (f ∷ g ∷ fs))

  pub before_waits : (value : ℕ → LockValue) (z : SlabWord) (c : ℕ) (fs : List ℕ) → at_once m false value (before z c fs) (before z c fs).spot ≡ stays value (before z c fs)
  before_waits value z c [] = refl
  before_waits value z c (f ∷ []) = refl
  before_waits value z c (f ∷ g ∷ fs) = refl

  pub before_rests : (z : SlabWord) (c : ℕ) (fs : List ℕ) → rested m (before z c fs) ≡ before z c fs
  before_rests z c [] = refl
  before_rests z c (f ∷ []) = refl
  before_rests z c (f ∷ g ∷ fs) = refl

  -- ---- turn by turn

  -- it takes the node lock
  pub turn_locks : (words : List ℕ) (value : ℕ → LockValue) (z : SlabWord) (c : ℕ) (fs : List ℕ) → eqb (get_or words j 0) 0 ≡ true
      → turn m (machine words value (set ls x (record l { slab_word = z; count = c; run = None; string = string_for fs; spot = InMoveSet LockMove move }))) (own_pick x) ≡ machine (set words j a) value (set ls x (before z c fs))
  turn_locks words value z c fs hit =
      turn_goes m words (set words j a) value ls x was was (before z c fs) (record { place = LockOf j; op = Exchange 0 a }) Won there refl refl
      (ap (λ h. set words j (cond {A = ℕ} h a (get_or words j 0))) hit) (ap (λ h. cond {A = Answer} h Won (Lost (get_or words j 0))) hit)
      (settle_twice m value value was (at was (InMoveSet ChooseFront move)) (before z c fs) (before z c fs) Won refl (ap (stays value) (front_is z c (InMoveSet ChooseFront move) fs)) (before_waits value z c fs) (before_rests z c fs))
    where
      was : Local
      was = record l { slab_word = z; count = c; run = None; string = string_for fs; spot = InMoveSet LockMove move }

  -- it loads the first slab's link, and takes the slab in hand
  pub turn_follows : (words : List ℕ) (value : ℕ → LockValue) (z : SlabWord) (c f g : ℕ) (fs : List ℕ) → get_or words (link_base m + f) 0 % 2 ^ 16 ≡ g
      → turn m (machine words value (set ls x (before z c (f ∷ g ∷ fs)))) (own_pick x) ≡ machine words value (set ls x (with_slab c f (g ∷ fs) z (InMoveSet LoadMoved move)))
  turn_follows words value z c f g fs link =
      turn_goes m words words value ls x (before z c (f ∷ g ∷ fs)) (before z c (f ∷ g ∷ fs)) next (record { place = LinkOf f; op = Load }) (Word q) there refl refl (set-get_or words (link_base m + f) 0) refl
      (settle_goes m value (before z c (f ∷ g ∷ fs)) next (Word q) leads refl refl)
    where
      next : Local
      next = with_slab c f (g ∷ fs) z (InMoveSet LoadMoved move)

      q : ℕ
      q = get_or words (link_base m + f) 0

      by : ℕ → ℕ → Turn
      by h n = goes (record l { slab_word = z; count = c; run = None; hands = bare_hand f ∷ l.hands; string = Some (taken_string h n); spot = InMoveSet LoadMoved move })

      leads : advance_at m value (before z c (f ∷ g ∷ fs)) (InMoveSet FollowSet move) (Word q) ≡ goes next
      leads = ap (λ h. by h (suc (suc (length fs)) - 1)) link ∙ ap (by g) (omega arith)

  -- it loads the slab's word
  pub turn_loads : (words : List ℕ) (value : ℕ → LockValue) (z y : SlabWord) (c f : ℕ) (fs : List ℕ) (spot : Spot) → slab_in (get_or words (slab_base + f) 0) ≡ y → way_of_moved m value (with_slab c f fs z (InMoveSet LoadMoved move)) move y ≡ spot
      → at_once m false value (with_slab c f fs y spot) spot ≡ stays value (with_slab c f fs y spot) → rested m (with_slab c f fs y spot) ≡ with_slab c f fs y spot
      → turn m (machine words value (set ls x (with_slab c f fs z (InMoveSet LoadMoved move)))) (own_pick x) ≡ machine words value (set ls x (with_slab c f fs y spot))
  turn_loads words value z y c f fs spot reads way waits rests =
      turn_goes m words words value ls x was was (with_slab c f fs y spot) (record { place = SlabOf f; op = Load }) (Word q) there refl refl (set-get_or words (slab_base + f) 0) refl (settle_goes m value was (with_slab c f fs y spot) (Word q) leads waits rests)
    where
      was : Local
      was = with_slab c f fs z (InMoveSet LoadMoved move)

      q : ℕ
      q = get_or words (slab_base + f) 0

      by : SlabWord → Turn
      by y = goes (with_slab c f fs y (way_of_moved m value was move y))

      leads : advance_at m value was (InMoveSet LoadMoved move) (Word q) ≡ goes (with_slab c f fs y spot)
      leads = ap by reads ∙ ap (λ spot. goes (with_slab c f fs y spot)) way

  -- it marks the slab, which goes to the tail of the node list at once
  pub turn_lists : (words : List ℕ) (value : ℕ → LockValue) (y : SlabWord) (c f : ℕ) (fs : List ℕ) → eqb (get_or words (slab_base + f) 0) (slab_bits y) ≡ true
      → turn m (machine words value (set ls x (with_slab c f fs y (InMoveSet ListSlab move)))) (own_pick x)
      ≡ machine (set words (slab_base + f) (slab_bits (listed_word y))) (update value j (Node (frames_in (value j) ++ f ∷ []))) (set ls x (before y c fs))
  turn_lists words value y c f fs hit =
      turn_changes m words (set words (slab_base + f) (slab_bits (listed_word y))) value after ls x was (before y c fs) (record { place = SlabOf f; op = Exchange (slab_bits y) (slab_bits (listed_word y)) }) Won there refl refl
      (ap (λ h. set words (slab_base + f) (cond {A = ℕ} h (slab_bits (listed_word y)) (get_or words (slab_base + f) 0))) hit) (ap (λ h. cond {A = Answer} h Won (Lost (get_or words (slab_base + f) 0))) hit)
      (settle_twice m value after was (at was (InMoveSet PutTail move)) (at (less_hand was) (InMoveSet ChooseFront move)) (before y c fs) Won refl refl (ap (stays after) (front_is y c (InMoveSet ChooseFront move) fs)) (before_rests y c fs))
    where
      was : Local
      was = with_slab c f fs y (InMoveSet ListSlab move)

      after : ℕ → LockValue
      after = update value j (Node (frames_in (value j) ++ f ∷ []))

  -- ---- the slab is discarded

  abbrev pub run_of : ℕ → SlabWord → FrameRun
  run_of f y = record { frame = f; order = order_for (m.layout k) y.objects; objects = y.objects }

  abbrev pub with_run : ℕ → List ℕ → SlabWord → Option FrameRun → Spot → Local
  with_run c fs y run spot = record l { slab_word = y; count = c + counts_for (FromMove move); run = run; string = string_for fs; spot = spot }

  pub turn_unmakes : (words : List ℕ) (value : ℕ → LockValue) (y : SlabWord) (c f : ℕ) (fs : List ℕ)
      → turn m (machine words value (set ls x (with_slab c f fs y (InDiscard Unmake (FromMove move))))) (own_pick x) ≡ machine (set words (slab_base + f) (slab_bits no_slab_word)) value (set ls x (with_run c fs y (Some (run_of f y)) (InDiscard LockDiscard (FromMove move))))
  turn_unmakes words value y c f fs =
      turn_goes m words (set words (slab_base + f) (slab_bits no_slab_word)) value ls x was was next (record { place = SlabOf f; op = Store (slab_bits no_slab_word) }) Done there refl refl refl refl (settle_goes m value was next Done refl refl refl)
    where
      was : Local
      was = with_slab c f fs y (InDiscard Unmake (FromMove move))

      next : Local
      next = with_run c fs y (Some (run_of f y)) (InDiscard LockDiscard (FromMove move))

  abbrev pub pool_put : (ℕ → LockValue) → FrameRun → ℕ → LockValue
  pool_put value run = update value pool_lock (Pool (with_put (pool_in (value pool_lock)) run))

  pub turn_puts : (words : List ℕ) (value : ℕ → LockValue) (y : SlabWord) (c : ℕ) (fs : List ℕ) (run : FrameRun) → eqb (get_or words 0 0) 0 ≡ true
      → turn m (machine words value (set ls x (with_run c fs y (Some run) (InDiscard LockDiscard (FromMove move))))) (own_pick x) ≡ machine (set words 0 a) (pool_put value run) (set ls x (with_run c fs y None (InDiscard GiveDiscard (FromMove move))))
  turn_puts words value y c fs run hit =
      turn_changes m words (set words 0 a) value (pool_put value run) ls x was next (record { place = LockOf 0; op = Exchange 0 a }) Won there refl refl
      (ap (λ h. set words 0 (cond {A = ℕ} h a (get_or words 0 0))) hit) (ap (λ h. cond {A = Answer} h Won (Lost (get_or words 0 0))) hit) (settle_twice m value (pool_put value run) was (at was (InDiscard PutRun (FromMove move))) next next Won refl refl refl refl)
    where
      was : Local
      was = with_run c fs y (Some run) (InDiscard LockDiscard (FromMove move))

      next : Local
      next = with_run c fs y None (InDiscard GiveDiscard (FromMove move))

  pub turn_gives : (words : List ℕ) (value : ℕ → LockValue) (y : SlabWord) (c : ℕ) (fs : List ℕ)
      → turn m (machine words value (set ls x (with_run c fs y None (InDiscard GiveDiscard (FromMove move))))) (own_pick x) ≡ machine (set words 0 0) value (set ls x (before y (c + counts_for (FromMove move)) fs))
  turn_gives words value y c fs =
      turn_goes m words (set words 0 0) value ls x was was next (record { place = LockOf 0; op = Store 0 }) Done there refl refl refl refl
      (settle_twice m value value was (at was (InMoveSet ChooseFront move)) next next Done refl (ap (stays value) (front_is y (c + counts_for (FromMove move)) (InMoveSet ChooseFront move) fs)) (before_waits value y (c + counts_for (FromMove move)) fs) (before_rests y (c + counts_for (FromMove move)) fs))
    where
      was : Local
      was = with_run c fs y None (InDiscard GiveDiscard (FromMove move))

      next : Local
      next = before y (c + counts_for (FromMove move)) fs
