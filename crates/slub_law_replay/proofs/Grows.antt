-- The replies of workers grow, and what is said of bytes that are off goes along.
use Rattle.std.proofs.Common.{◌≡◌, ℕ, true, List, [], ◌∷◌, ◌⊎◌, sym, ap, subst, arith, inl, inr, ℤ}
use Rattle.std.specs.Prelude.{All, Option, pos, ◌+ℤ◌}
use Rattle.std.proofs.lemmas.Bool.{cases_eq}
use Rattle.std.proofs.lemmas.List.Elements.{All-cons, All-head, All-tail, All-weaker}
use Rattle.slub_trace.specs.declared.damage.Damage.{Damage}
use Rattle.slub_trace.specs.declared.damage.Report.{Report}
use Rattle.slub_red_zone.specs.State.{CheckedState}
use Rattle.slub_words.specs.declared.board.BoardWord.{BoardWord}
use Rattle.slub_trace.specs.declared.reply.Reply.{Reply}
use Rattle.slub_trace.specs.declared.reply.Reply.TheVariants as reply
use Rattle.slub_core.specs.declared.call.Call.{Call}
use Rattle.slub_core.specs.declared.local.Answered.{Answered}
use Rattle.slub_core.specs.Setup.{Setup, node_lock, pool_lock}
use Rattle.slub_core.specs.World.{World, LockValue, Checked, Pool, update}
use Rattle.slub_core.specs.Checked.{slabs_in}
use Rattle.slub_page_pool.specs.FreeFrames.{FreeFrames}
use Rattle.slub_core.proofs.Update.{update_same, update_other}
use Rattle.slub_law_rounds.proofs.Cleaning.{Clean}
use Rattle.slub_law_rounds.specs.Contents.{slabs_at, WasPoked, IsDamage, IsReport, KeepsSlabs}
use Rattle.slub_law_rounds.proofs.Moves.{Goes, keeps-more, goes-none}
use Rattle.slub_law_rounds.proofs.Grows.{Grows, front-grows, poked-later}
use Rattle.slub_law_replay.specs.Off.{AreFound, Finds, IsFound}

-- ---- more came to addresses

abbrev Later : (ℤ → ℕ → Type 0) → (ℤ → ℕ → Type 0) → Type 0
Later came after = (at : ℤ) (byte : ℕ) → came at byte → after at byte

pub damage-later : (came after : ℤ → ℕ → Type 0) (address : ℕ) (damage : Damage) → Later came after → IsDamage came address damage → IsDamage after address damage
damage-later came after address damage later bad = record { other = bad.other; there = later (pos address +ℤ damage.offset) damage.found bad.there }

abbrev report-later : (came after : ℤ → ℕ → Type 0) (s : CheckedState) (report : Report) → Later came after → IsReport came s report → IsReport after s report
report-later came after s report later told = record {
  slot = told.slot;
  aside = told.aside;
  cache = told.cache;
  address = told.address;
  bad = damage-later came after report.address report.damage later told.bad;
}

pub keeps-later : (came after : ℤ → ℕ → Type 0) (first last : CheckedState) → Later came after → KeepsSlabs came first last → KeepsSlabs after first last
keeps-later came after first last later keeps = record {
  number = keeps.number;
  layout = keeps.layout;
  found = keeps.found;
  added = keeps.added;
  told = All-weaker (IsReport came last) (IsReport after last) (λ r told. report-later came after last r later told) keeps.found keeps.told;
  aside = λ slot is.
      elim (keeps.aside slot is) [
        | inl was ↦ inl was
        | inr any ↦ inr (any.0, any.1, any.2, any.3, (report-later came after last any.1 later any.4.0, any.4.1))
      ];
  more_aside = λ frame more. let any = keeps.more_aside frame more in (any.0, any.1, any.2, any.3, (report-later came after last any.1 later any.4.0, any.4.1));
}

pub clean-later : (came after : ℤ → ℕ → Type 0) (s : CheckedState) → Later came after → Clean came s → Clean after s
clean-later came after s later clean frame index place part there has =
    elim (clean frame index place part there has) [
      | inl whole ↦ inl whole
      | inr did ↦ inr (later _ _ did)
    ]

-- ---- what replies tell

abbrev CacheLater : (ℕ → ℤ → ℕ → Type 0) → (ℕ → ℤ → ℕ → Type 0) → Type 0
CacheLater came after = (cache : ℕ) (at : ℤ) (byte : ℕ) → came cache at byte → after cache at byte

module _ (m : Setup) (board : ℕ → Option BoardWord) (came after : ℕ → ℤ → ℕ → Type 0) (later : CacheLater came after) where
  found-later : (own : List Answered) (call : Call) (damage : Damage) → IsFound came m board own call damage → IsFound after m board own call damage
  found-later own call damage is = record {
    cache = is.cache;
    of = is.of;
    address = is.address;
    object = is.object;
    bad = damage-later (came is.cache) (after is.cache) is.address damage (later is.cache) is.bad;
  }

  finds-later : (own : List Answered) (call : Call) (r : Reply) → Finds came m board own call r → Finds after m board own call r
  finds-later own call (reply.Corrupt damage) is = found-later own call damage is
  finds-later own call _ is = tt

  pub are-later : (ds : List Answered) → AreFound came m board ds → AreFound after m board ds
  are-later [] told = tt
  are-later (d ∷ ds) told = (finds-later ds d.call d.reply told.0, are-later ds told.1)

-- ---- the whole, by values and replies: `said` is what is said of bytes before the round, by cache and address

module _ (said : ℕ → ℤ → ℕ → Type 0) where
  -- it was said of the byte before the round, or it was poked
  abbrev pub Put : Setup → World → List (List Answered) → ℕ → ℤ → ℕ → Type 0
  Put m before dones cache at byte = said cache at byte ⊎ WasPoked m before.board dones cache at byte

  pub put-later : (m : Setup) (before : World) (dones more : List (List Answered)) → Grows dones more → CacheLater (Put m before dones) (Put m before more)
  put-later m before dones more grows cache at byte (inl before_it) = inl before_it
  put-later m before dones more grows cache at byte (inr poked) = inr (poked-later m before.board dones more cache grows at byte poked)

  pub record Has (m : Setup) (opening : World) (value : ℕ → LockValue) (dones : List (List Answered)) : Type 0 where
    pub slabs : (cache : ℕ) → m.checks cache ≡ true → KeepsSlabs (Put m opening dones cache) (slabs_at m opening.value cache) (slabs_at m value cache)
    pub bytes : (cache : ℕ) → m.checks cache ≡ true → Clean (Put m opening dones cache) (slabs_at m value cache)
    pub told : All (AreFound (Put m opening dones) m opening.board) dones

  -- what a change owes to each checked cache
  abbrev pub GoesAll : Setup → World → List (List Answered) → (ℕ → LockValue) → (ℕ → LockValue) → Type 0
  GoesAll m opening dones value after = (cache : ℕ) → m.checks cache ≡ true → Clean (Put m opening dones cache) (slabs_at m value cache) → Goes (Put m opening dones cache) (slabs_at m value cache) (slabs_at m after cache)

  pub has-later : (m : Setup) (opening : World) (value : ℕ → LockValue) (dones more : List (List Answered)) → Grows dones more → All (AreFound (Put m opening more) m opening.board) more → Has m opening value dones → Has m opening value more
  has-later m opening value dones more grows told has = record {
    slabs = λ cache checks. keeps-later (Put m opening dones cache) (Put m opening more cache) (slabs_at m opening.value cache) (slabs_at m value cache) (put-later m opening dones more grows cache) (has.slabs cache checks);
    bytes = λ cache checks. clean-later (Put m opening dones cache) (Put m opening more cache) (slabs_at m value cache) (put-later m opening dones more grows cache) (has.bytes cache checks);
    told = told;
  }

  pub has-goes : (m : Setup) (opening : World) (value after : ℕ → LockValue) (dones : List (List Answered)) → GoesAll m opening dones value after → Has m opening value dones → Has m opening after dones
  has-goes m opening value after dones goes has = record {
    slabs = λ cache checks. keeps-more (Put m opening dones cache) (slabs_at m opening.value cache) (slabs_at m value cache) (slabs_at m after cache) (has.slabs cache checks) (goes cache checks (has.bytes cache checks));
    bytes = λ cache checks. (goes cache checks (has.bytes cache checks)).bytes;
    told = has.told;
  }

  -- what was told before is told still
  pub told-grown : (m : Setup) (opening : World) (dones more xs : List (List Answered)) → Grows dones more → All (AreFound (Put m opening dones) m opening.board) xs → All (AreFound (Put m opening more) m opening.board) xs
  told-grown m opening dones more xs grows told =
      All-weaker (AreFound (Put m opening dones) m opening.board) (AreFound (Put m opening more) m opening.board) (λ es is. are-later m opening.board (Put m opening dones) (Put m opening more) (put-later m opening dones more grows) es is) xs told

  -- ---- one worker before the others

  -- it has one more reply
  pub has-reply : (m : Setup) (opening : World) (value : ℕ → LockValue) (ds : List Answered) (rest : List (List Answered)) (d : Answered) → Finds (Put m opening ((d ∷ ds) ∷ rest)) m opening.board ds d.call d.reply
      → Has m opening value (ds ∷ rest) → Has m opening value ((d ∷ ds) ∷ rest)
  has-reply m opening value ds rest d finds has =
      let more = (d ∷ ds) ∷ rest in
      let grows = front-grows ds d rest in
      let told = told-grown m opening (ds ∷ rest) more (ds ∷ rest) grows has.told in
      has-later m opening value (ds ∷ rest) more grows
      (All-cons (AreFound (Put m opening more) m opening.board) (d ∷ ds) rest (finds, All-head (AreFound (Put m opening more) m opening.board) ds rest told) (All-tail (AreFound (Put m opening more) m opening.board) ds rest told)) has

  -- the bytes that are looked at, once it has one more reply
  pub bytes-reply : (m : Setup) (opening : World) (value : ℕ → LockValue) (ds : List Answered) (rest : List (List Answered)) (d : Answered) (cache : ℕ) → m.checks cache ≡ true → Has m opening value (ds ∷ rest)
      → Clean (Put m opening ((d ∷ ds) ∷ rest) cache) (slabs_at m value cache)
  bytes-reply m opening value ds rest d cache checks has =
      clean-later (Put m opening (ds ∷ rest) cache) (Put m opening ((d ∷ ds) ∷ rest) cache) (slabs_at m value cache) (put-later m opening (ds ∷ rest) ((d ∷ ds) ∷ rest) (front-grows ds d rest) cache) (has.bytes cache checks)

  -- ---- the slabs of one cache are others, or none are

  pub goes-at : (m : Setup) (opening : World) (dones : List (List Answered)) (value : ℕ → LockValue) (k : ℕ) (old new : CheckedState) → value (node_lock k) ≡ Checked old
      → (Clean (Put m opening dones k) old → Goes (Put m opening dones k) old new) → GoesAll m opening dones value (update value (node_lock k) (Checked new))
  goes-at m opening dones value k old new is goes cache checks =
      elim (cases_eq cache k) [
        | inl same ↦
            subst (λ j. Clean (Put m opening dones j) (slabs_at m value j) → Goes (Put m opening dones j) (slabs_at m value j) (slabs_at m (update value (node_lock k) (Checked new)) j)) (sym same)
            (subst (λ s. Clean (Put m opening dones k) s → Goes (Put m opening dones k) s (slabs_at m (update value (node_lock k) (Checked new)) k)) (sym (ap (slabs_in (m.layout k)) is))
            (subst (λ s. Clean (Put m opening dones k) old → Goes (Put m opening dones k) old s) (sym (ap (slabs_in (m.layout k)) (update_same value (node_lock k) (Checked new)))) goes))
        | inr other ↦
            let stay : slabs_at m (update value (node_lock k) (Checked new)) cache ≡ slabs_at m value cache = ap (slabs_in (m.layout cache)) (update_other value (node_lock k) (Checked new) (node_lock cache) (λ e. other (omega arith))) in
            λ clean. subst (λ s. Goes (Put m opening dones cache) (slabs_at m value cache) s) (sym stay) (goes-none (Put m opening dones cache) (slabs_at m value cache) clean)
      ]

  pub goes-pool : (m : Setup) (opening : World) (dones : List (List Answered)) (value : ℕ → LockValue) (pool : FreeFrames) → GoesAll m opening dones value (update value pool_lock (Pool pool))
  goes-pool m opening dones value pool cache checks clean =
      let stay : slabs_at m (update value pool_lock (Pool pool)) cache ≡ slabs_at m value cache = ap (slabs_in (m.layout cache)) (update_other value pool_lock (Pool pool) (node_lock cache) (λ e. absurd (omega arith))) in
      subst (λ s. Goes (Put m opening dones cache) (slabs_at m value cache) s) (sym stay) (goes-none (Put m opening dones cache) (slabs_at m value cache) clean)
