-- A turn of any worker leaves words that have no bit beyond their fields, and so does a run of turns.
use Rattle.std.proofs.Common.{ℕ, ◌+◌, ◌^◌, ◌<◌, List, [], ◌∷◌, ◌++◌, length, get_or, refl, sym, subst, arith, inl, inr}
use Rattle.std.proofs.lemmas.Bool.{cases_lt}
use Rattle.slub_words.specs.declared.cpu.CpuWord.{CpuWord}
use Rattle.slub_core.specs.Setup.{Setup}
use Rattle.slub_core.specs.Words.{cpu_base, link_base, cpu_in}
use Rattle.slub_core.specs.World.{World, LockValue, world_of}
use Rattle.slub_core.specs.Local.{Local}
use Rattle.slub_core.specs.Run.{System, Pick, turn}
use Rattle.slub_core.specs.Fresh.{IsWorded}
use Rattle.slub_core.specs.Law.{IsCoherentSystem}
use Rattle.slub_core.proofs.Leads.{table}
use Rattle.slub_core.proofs.StepWords.{cpu-read, link-read}
use Rattle.slub_core.proofs.Turns.{turn_keeps}
use Rattle.slub_law_opening.proofs.Turns.{has-begun, no-turn}
use Rattle.slub_law_words.specs.Packed.{IsCpuPacked, IsLinkPacked, ArePacked}
use Rattle.slub_law_words.specs.Laws.{TurnsKeepWords, RunsKeepWords}
use Rattle.slub_law_words.proofs.Classes.{AreTight}
use Rattle.slub_law_words.proofs.Leaves.{Leaves, leaves}

-- ---- the words that have no bits to spare

cpu-packed : (x : ℕ) → (cpu_in x).tid < 2 ^ 32 → IsCpuPacked x
unfolding cpu_in
cpu-packed x few = (omega arith, omega (arith, few))

link-packed : (x : ℕ) → x < 2 ^ 16 → IsLinkPacked x
link-packed x few = omega (arith, few)

-- what the law of the step machine says of these, and what is shown here of the others
pub packed-of : (m : Setup) (value : ℕ → LockValue) (words : List ℕ) → IsWorded (world_of m value words) → AreTight m words → ArePacked m words
packed-of m value words worded tight = record {
  cpu = λ n below. cpu-packed (get_or words (cpu_base + n) 0) (subst (λ (c : CpuWord). c.tid < 2 ^ 32) (cpu-read m value words n below) (worded.cpu n).0);
  list = tight.list;
  slab = tight.slab;
  board = tight.board;
  link = λ f below. link-packed (get_or words (link_base m + f) 0) (subst (λ x. x < 2 ^ 16) (link-read m value words f below) (worded.link f));
}

tight-of : (m : Setup) (words : List ℕ) → ArePacked m words → AreTight m words
tight-of m words packed = record { list = packed.list; slab = packed.slab; board = packed.board }

-- ---- a turn, and a run

turn-tight : (m : Setup) (opening : World) (s : System) (pick : Pick) → IsCoherentSystem m opening s → AreTight m s.words → AreTight m (turn m s pick).words
turn-tight m opening s pick is tight = elim (cases_lt pick.worker (length s.locals)) [
  | inl below ↦ (
      let b = has-begun m opening s pick below is in
      let others = b.front ++ b.back in
      subst (λ (l : Local). Leaves m s.value s.words l l.spot) b.local
      (leaves b.x.local.spot m s.value s.words b.x others (table m s.value s.words b.x others is.words b.stands) refl b.stands tight))
  | inr past ↦ subst (λ (t : System). AreTight m t.words) (sym (no-turn m s pick past)) tight
]

pub turns_keep_words : TurnsKeepWords
turns_keep_words m opening s pick is packed =
    let after = turn m s pick in
    packed-of m after.value after.words (turn_keeps m opening s pick is).coherent.fresh.worded (turn-tight m opening s pick is (tight-of m s.words packed))

pub runs_keep_words : RunsKeepWords
runs_keep_words m opening s [] is packed = packed
runs_keep_words m opening s (pick ∷ picks) is packed = (packed, runs_keep_words m opening (turn m s pick) picks (turn_keeps m opening s pick is) (turns_keep_words m opening s pick is packed))
