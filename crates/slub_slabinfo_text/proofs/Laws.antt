-- What the crates above stand on: the machine that is opened for a trace is ready.
use Rattle.std.proofs.Common.{◌≡◌, ℕ, zero, suc, ◌+◌, replicate, get_or, refl, sym, subst, None, Option, IfSome}
use Rattle.std.proofs.lemmas.List.{length-replicate}
use Rattle.slub_lists.specs.declared.lists.Held.{Held}
use Rattle.slub_lists.specs.Coherent.{IsCoherent}
use Rattle.slub_trace.specs.declared.trace.Trace.{Trace}
use Rattle.slub_slabinfo_text.specs.Lawful.{IsReady, coming, opening_of}

-- ---- the machine that is opened

abbrev pub no_held : Option Held
no_held = None

-- on an empty board no object has a number
bare_unheld : (n object : ℕ) → get_or (replicate n no_held) object None ≡ None
bare_unheld zero object = refl
bare_unheld (suc n) zero = refl
bare_unheld (suc n) (suc object) = bare_unheld n object

-- it has no object
opened_laid : (n object : ℕ) → IfSome (get_or (replicate n no_held) object None) (λ held. held.worker ≡ None)
opened_laid n object = subst (λ (found : Option Held). IfSome found (λ held. held.worker ≡ None)) (sym (bare_unheld n object)) tt

-- the machine that is opened for a trace stands before its first item
pub opened_ready : (trace : Trace) → IsCoherent (opening_of trace) → IsReady (opening_of trace) trace 0
opened_ready trace coherent =
    record {
      coherent = coherent;
      frames = refl;
      cpus = refl;
      objects = length-replicate (trace.objects + 1) no_held;
      names = refl;
      rest = record { laid_down = opened_laid (trace.objects + 1); forgotten = bare_unheld (trace.objects + 1) };
      unheld = λ k d within. bare_unheld (trace.objects + 1) (get_or (coming trace 0) k d);
    }
