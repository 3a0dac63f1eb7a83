-- The replies of workers grow; what was poked was poked still, and what is said of contents goes along.
use Rattle.std.proofs.Common.{◌≡◌, ℕ, zero, suc, ◌+◌, ◌*◌, true, List, [], ◌∷◌, ◌++◌, Option, Some, None, sym, ap, subst, arith, inl, inr, ℤ}
use Rattle.std.specs.Prelude.{All, IfSome, slice_index, pos, ◌+ℤ◌}
use Rattle.std.specs.List.{Contains}
use Rattle.std.proofs.lemmas.Bool.{cases_eq}
use Rattle.std.proofs.lemmas.List.{append_assoc}
use Rattle.std.proofs.lemmas.List.Elements.{All-cons, All-head, All-tail, All-weaker}
use Rattle.slub_trace.specs.declared.damage.Damage.{Damage}
use Rattle.slub_trace.specs.declared.damage.Report.{Report}
use Rattle.slub_red_zone.specs.State.{CheckedState}
use Rattle.slub_words.specs.declared.board.BoardWord.{BoardWord}
use Rattle.slub_trace.specs.declared.reply.Reply.{Reply}
use Rattle.slub_trace.specs.declared.reply.Reply.TheVariants as reply
use Rattle.slub_core.specs.declared.call.Call.{Call}
use Rattle.slub_core.specs.declared.local.Answered.{Answered}
use Rattle.slub_core.specs.Calls.{call_object, call_word}
use Rattle.slub_core.specs.Setup.{Setup, node_lock}
use Rattle.slub_core.specs.World.{World, LockValue, Checked, update}
use Rattle.slub_core.specs.Checked.{slabs_in}
use Rattle.slub_core.proofs.Update.{update_same, update_other}
use Rattle.slub_law_rounds.proofs.Cleaning.{Clean}
use Rattle.slub_law_rounds.specs.Contents.{slabs_at, WasPoked, Came, IsDamage, IsReport, KeepsSlabs, IsCorrupt, last_put, IsPut, IsReadByte, IsValue, TellsOfByte, AreTold, KeepsContents}
use Rattle.slub_law_rounds.proofs.Moves.{Goes, keeps-more, goes-none}

-- each worker has its replies, and maybe more
abbrev pub Grows : List (List Answered) → List (List Answered) → Type 0
Grows dones more = (ds : List Answered) → Contains dones ds → (new : List Answered) × Contains more (new ++ ds)

-- ---- what came to an address

abbrev Later : (ℤ → ℕ → Type 0) → (ℤ → ℕ → Type 0) → Type 0
Later came after = (at : ℤ) (byte : ℕ) → came at byte → after at byte

abbrev pub poked-later : (m : Setup) (board : ℕ → Option BoardWord) (dones more : List (List Answered)) (cache : ℕ) → Grows dones more → Later (WasPoked m board dones cache) (WasPoked m board more cache)
poked-later m board dones more cache grows at byte was =
    let g = grows (was.later ++ was.one ∷ was.own) was.there in
    record {
      own = was.own;
      one = was.one;
      later = g.0 ++ was.later;
      there = subst (Contains more) (sym (append_assoc g.0 was.later (was.one ∷ was.own))) g.1;
      asks = was.asks;
      done = was.done;
      puts = was.puts;
      of = was.of;
      address = was.address;
      object = was.object;
      is = was.is;
    }

pub came-later : (m : Setup) (before : World) (dones more : List (List Answered)) (cache : ℕ) → Grows dones more → Later (Came m before dones cache) (Came m before more cache)
came-later m before dones more cache grows at byte (inl stood) = inl stood
came-later m before dones more cache grows at byte (inr was) = inr (poked-later m before.board dones more cache grows at byte was)

damage-later : (came after : ℤ → ℕ → Type 0) (address : ℕ) (damage : Damage) → Later came after → IsDamage came address damage → IsDamage after address damage
damage-later came after address damage later bad = record { other = bad.other; there = later (pos address +ℤ damage.offset) damage.found bad.there }

abbrev report-later : (came after : ℤ → ℕ → Type 0) (s : CheckedState) (report : Report) → Later came after → IsReport came s report → IsReport after s report
report-later came after s report later told = record {
  slot = told.slot;
  aside = told.aside;
  cache = told.cache;
  address = told.address;
  bad = damage-later came after report.address report.damage later told.bad;
}

keeps-later : (came after : ℤ → ℕ → Type 0) (first last : CheckedState) → Later came after → KeepsSlabs came first last → KeepsSlabs after first last
keeps-later came after first last later keeps = record {
  number = keeps.number;
  layout = keeps.layout;
  found = keeps.found;
  added = keeps.added;
  told = All-weaker (IsReport came last) (IsReport after last) (λ r told. report-later came after last r later told) keeps.found keeps.told;
  aside = λ slot is.
      elim (keeps.aside slot is) [
        | inl was ↦ inl was
        | inr any ↦ inr (any.0, any.1, any.2, any.3, (report-later came after last any.1 later any.4.0, any.4.1))
      ];
  more_aside = λ frame more. let any = keeps.more_aside frame more in (any.0, any.1, any.2, any.3, (report-later came after last any.1 later any.4.0, any.4.1));
}

clean-later : (came after : ℤ → ℕ → Type 0) (s : CheckedState) → Later came after → Clean came s → Clean after s
clean-later came after s later clean frame index place part there has =
    elim (clean frame index place part there has) [
      | inl whole ↦ inl whole
      | inr did ↦ inr (later _ _ did)
    ]

-- ---- what replies tell

corrupt-later : (m : Setup) (before : World) (dones more : List (List Answered)) (own : List Answered) (call : Call) (damage : Damage) → Grows dones more → IsCorrupt m before dones own call damage → IsCorrupt m before more own call damage
corrupt-later m before dones more own call damage grows is = record {
  cache = is.cache;
  of = is.of;
  address = is.address;
  object = is.object;
  bad = damage-later (Came m before dones is.cache) (Came m before more is.cache) is.address damage (came-later m before dones more is.cache grows) is.bad;
}

pub put-later : (m : Setup) (before : World) (dones more : List (List Answered)) (cache object : ℕ) (at : ℤ) (put byte : ℕ) → Grows dones more → IsPut m before dones cache object at put byte → IsPut m before more cache object at put byte
put-later m before dones more cache object at put byte grows (inl same) = inl same
put-later m before dones more cache object at put byte grows (inr under) = inr (poked-later m before.board dones more cache grows at byte under.0, under.1)

read-later : (m : Setup) (before : World) (dones more : List (List Answered)) (cache object : ℕ) (at : ℤ) (put : Option ℕ) (byte : ℕ) → Grows dones more → IsReadByte m before dones cache object at put byte → IsReadByte m before more cache object at put byte
read-later m before dones more cache object at (Some put) byte grows is = put-later m before dones more cache object at put byte grows is
read-later m before dones more cache object at None byte grows is = by (before.board object) is
  where
    by : (x : Option BoardWord) → IfSome x (λ b. Came m before dones cache at byte) → IfSome x (λ b. Came m before more cache at byte)
    by None is = is
    by (Some b) is = came-later m before dones more cache grows at byte is

value-later : (m : Setup) (before : World) (dones more : List (List Answered)) (own : List Answered) (call : Call) (v : ℕ) → Grows dones more → IsValue m before dones own call v → IsValue m before more own call v
value-later m before dones more own call v grows is = record {
  cache = is.cache;
  of = is.of;
  address = is.address;
  object = is.object;
  bytes = is.bytes;
  eight = is.eight;
  spelled = is.spelled;
  each = λ place below.
      read-later m before dones more is.cache (call_object call) (pos (is.address + (8 * call_word call + place))) (last_put own (call_object call) (call_word call) place) (slice_index is.bytes place) grows (is.each place below);
}

tells-later : (m : Setup) (before : World) (dones more : List (List Answered)) (own : List Answered) (call : Call) (r : Reply) → Grows dones more → TellsOfByte m before dones own call r → TellsOfByte m before more own call r
tells-later m before dones more own call (reply.Corrupt damage) grows is = corrupt-later m before dones more own call damage grows is
tells-later m before dones more own call (reply.Given a) grows is = tt
tells-later m before dones more own call (reply.Freed a) grows is = tt
tells-later m before dones more own call reply.NoFrames grows is = tt
tells-later m before dones more own call reply.NoSuchCache grows is = tt
tells-later m before dones more own call reply.NoMemory grows is = tt
tells-later m before dones more own call (reply.IdsSpent t) grows is = tt
tells-later m before dones more own call reply.NotHeld grows is = tt
tells-later m before dones more own call reply.Wrote grows is = tt
tells-later m before dones more own call (reply.Value v) grows is = λ of. value-later m before dones more own call v grows (is of)
tells-later m before dones more own call reply.OutOfObject grows is = tt
tells-later m before dones more own call reply.Poked grows is = tt
tells-later m before dones more own call reply.OutOfSlot grows is = tt
tells-later m before dones more own call reply.NotChecked grows is = tt
tells-later m before dones more own call (reply.Trimmed n) grows is = tt
tells-later m before dones more own call reply.Checked grows is = tt
tells-later m before dones more own call (reply.Flushed n) grows is = tt

pub told-later : (m : Setup) (before : World) (dones more : List (List Answered)) (ds : List Answered) → Grows dones more → AreTold m before dones ds → AreTold m before more ds
told-later m before dones more [] grows told = tt
told-later m before dones more (d ∷ ds) grows told = (tells-later m before dones more ds d.call d.reply grows told.0, told-later m before dones more ds grows told.1)

-- ---- the whole, by values and replies

pub record Has (m : Setup) (opening : World) (value : ℕ → LockValue) (dones : List (List Answered)) : Type 0 where
  pub contents : KeepsContents m opening value dones
  pub bytes : (cache : ℕ) → m.checks cache ≡ true → Clean (Came m opening dones cache) (slabs_at m value cache)

-- what a change owes to each checked cache
abbrev pub GoesAll : Setup → World → List (List Answered) → (ℕ → LockValue) → (ℕ → LockValue) → Type 0
GoesAll m opening dones value after = (cache : ℕ) → m.checks cache ≡ true → Clean (Came m opening dones cache) (slabs_at m value cache) → Goes (Came m opening dones cache) (slabs_at m value cache) (slabs_at m after cache)

pub has-later : (m : Setup) (opening : World) (value : ℕ → LockValue) (dones more : List (List Answered)) → Grows dones more → All (AreTold m opening more) more → Has m opening value dones → Has m opening value more
has-later m opening value dones more grows told has = record {
  contents = record {
    slabs = λ cache checks. keeps-later (Came m opening dones cache) (Came m opening more cache) (slabs_at m opening.value cache) (slabs_at m value cache) (came-later m opening dones more cache grows) (has.contents.slabs cache checks);
    told = told;
  };
  bytes = λ cache checks. clean-later (Came m opening dones cache) (Came m opening more cache) (slabs_at m value cache) (came-later m opening dones more cache grows) (has.bytes cache checks);
}

pub has-goes : (m : Setup) (opening : World) (value after : ℕ → LockValue) (dones : List (List Answered)) → GoesAll m opening dones value after → Has m opening value dones → Has m opening after dones
has-goes m opening value after dones goes has = record {
  contents = record {
    slabs = λ cache checks. keeps-more (Came m opening dones cache) (slabs_at m opening.value cache) (slabs_at m value cache) (slabs_at m after cache) (has.contents.slabs cache checks) (goes cache checks (has.bytes cache checks));
    told = has.contents.told;
  };
  bytes = λ cache checks. (goes cache checks (has.bytes cache checks)).bytes;
}

-- ---- one worker before the others

pub front-grows : (ds : List Answered) (d : Answered) (rest : List (List Answered)) → Grows (ds ∷ rest) ((d ∷ ds) ∷ rest)
front-grows ds d rest es (zero, below, is) = (d ∷ [], (0, omega arith, ap (λ xs. d ∷ xs) is))
front-grows ds d rest es (suc k, below, is) = ([], (suc k, omega arith, is))

-- it has one more reply
pub has-reply : (m : Setup) (opening : World) (value : ℕ → LockValue) (ds : List Answered) (rest : List (List Answered)) (d : Answered) → TellsOfByte m opening ((d ∷ ds) ∷ rest) ds d.call d.reply
    → Has m opening value (ds ∷ rest) → Has m opening value ((d ∷ ds) ∷ rest)
has-reply m opening value ds rest d tells has =
    let more = (d ∷ ds) ∷ rest in
    let grows = front-grows ds d rest in
    let told = All-weaker (AreTold m opening (ds ∷ rest)) (AreTold m opening more) (λ es is. told-later m opening (ds ∷ rest) more es grows is) (ds ∷ rest) has.contents.told in
    has-later m opening value (ds ∷ rest) more grows
    (All-cons (AreTold m opening more) (d ∷ ds) rest (tells, All-head (AreTold m opening more) ds rest told) (All-tail (AreTold m opening more) ds rest told)) has

-- the bytes that are looked at, once it has one more reply
pub bytes-reply : (m : Setup) (opening : World) (value : ℕ → LockValue) (ds : List Answered) (rest : List (List Answered)) (d : Answered) (cache : ℕ) → m.checks cache ≡ true → Has m opening value (ds ∷ rest)
    → Clean (Came m opening ((d ∷ ds) ∷ rest) cache) (slabs_at m value cache)
bytes-reply m opening value ds rest d cache checks has =
    clean-later (Came m opening (ds ∷ rest) cache) (Came m opening ((d ∷ ds) ∷ rest) cache) (slabs_at m value cache) (came-later m opening (ds ∷ rest) ((d ∷ ds) ∷ rest) cache (front-grows ds d rest)) (has.bytes cache checks)

-- ---- the slabs of one cache are others

pub goes-at : (m : Setup) (opening : World) (dones : List (List Answered)) (value : ℕ → LockValue) (k : ℕ) (old new : CheckedState) → value (node_lock k) ≡ Checked old
    → (Clean (Came m opening dones k) old → Goes (Came m opening dones k) old new) → GoesAll m opening dones value (update value (node_lock k) (Checked new))
goes-at m opening dones value k old new was goes cache checks =
    elim (cases_eq cache k) [
      | inl same ↦
          subst (λ j. Clean (Came m opening dones j) (slabs_at m value j) → Goes (Came m opening dones j) (slabs_at m value j) (slabs_at m (update value (node_lock k) (Checked new)) j)) (sym same)
          (subst (λ s. Clean (Came m opening dones k) s → Goes (Came m opening dones k) s (slabs_at m (update value (node_lock k) (Checked new)) k)) (sym (ap (slabs_in (m.layout k)) was))
          (subst (λ s. Clean (Came m opening dones k) old → Goes (Came m opening dones k) old s) (sym (ap (slabs_in (m.layout k)) (update_same value (node_lock k) (Checked new)))) goes))
      | inr other ↦
          let stay : slabs_at m (update value (node_lock k) (Checked new)) cache ≡ slabs_at m value cache = ap (slabs_in (m.layout cache)) (update_other value (node_lock k) (Checked new) (node_lock cache) (λ e. other (omega arith))) in
          λ clean. subst (λ s. Goes (Came m opening dones cache) (slabs_at m value cache) s) (sym stay) (goes-none (Came m opening dones cache) (slabs_at m value cache) clean)
    ]
