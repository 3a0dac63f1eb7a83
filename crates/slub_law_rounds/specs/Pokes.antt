-- Bytes that were poked, by the replies.
use Rattle.std.specs.Prelude.{◌≡◌, ℕ, true, List, Contains, pos, ◌+ℤ◌, ℤ}
use Rattle.slub_trace.specs.declared.event.Act.TheVariants.{Free, Poke}
use Rattle.slub_trace.specs.declared.reply.Reply.TheVariants as reply
use Rattle.slub_trace.specs.declared.damage.Damage.{Damage}
use Rattle.slub_trace.specs.declared.damage.Report.{Report}
use Rattle.slub_law_rounds.specs.Answered.{Answered, is_alloc_of}

-- a number was given an object at this address, in bytes
abbrev pub WasGiven : List Answered → ℕ → ℕ → Type 0
WasGiven answers object address =
    (one : Answered) × Contains answers one × (one.1 ≡ reply.Given address)
    × (is_alloc_of object one.0.act ≡ true)

-- this byte was poked at this address: a poke of an object, at its offset from where that was
-- given, was answered Poked
pub record WasPoked (answers : List Answered) (at : ℤ) (byte : ℕ) : Type 0 where
  pub one : Answered
  pub there : Contains answers one
  pub object : ℕ
  pub offset : ℤ
  pub asks : one.0.act ≡ Poke object offset byte
  pub done : one.1 ≡ reply.Poked
  pub address : ℕ
  pub given : WasGiven answers object address
  pub is : pos address +ℤ offset ≡ at

-- the damage of an object at this address is a byte that was poked there
abbrev pub IsPoked : List Answered → ℕ → Damage → Type 0
IsPoked answers address damage = WasPoked answers (pos address +ℤ damage.offset) damage.found

-- the damage that a report tells of was poked there
abbrev pub IsPokedReport : List Answered → Report → Type 0
IsPokedReport answers report = IsPoked answers report.address report.damage

-- a free was answered that its object is damaged, and that was poked there
abbrev pub IsPokedFree : List Answered → Answered → Type 0
IsPokedFree answers one =
    (object : ℕ) (damage : Damage) → one.0.act ≡ Free object → one.1 ≡ reply.Corrupt damage
    → (address : ℕ) × WasGiven answers object address × IsPoked answers address damage
