-- The give has one answer, which the machine's gifts tell.
use Rattle.std.proofs.Common.{◌≡◌, ℕ, ◌+◌, ◌∙◌, ap, subst, sym}
use Rattle.slub_red_zone.specs.declared.checked.CheckedGive.{CheckedGive}
use Rattle.slub_red_zone.specs.State.{CheckedState}
use Rattle.slub_red_zone.specs.Sound.{IsSound}
use Rattle.slub_red_zone.specs.Steps.{Gives}
use Rattle.slub_core.specs.Setup.{node_lock}
use Rattle.slub_core.specs.World.{LockValue, Checked, update}
use Rattle.slub_core.specs.Checked.{gave}
use Rattle.slub_core.specs.Facts.{setup_of}
use Rattle.slub_core.specs.Values.{values_of}
use Rattle.slub_checked_paths.specs.Slabs.{slabs_at}
use Rattle.slub_checked_paths.proofs.Gifts.{given-is}
use Rattle.slub_checked_paths.proofs.AtOnce.{alloc-done}
use Rattle.slub_checked_paths.proofs.checked.do_alloc.Goals as goal

pub returns-clause-change : goal.returns-clause-change
returns-clause-change c = λ means.
    let value : ℕ → LockValue = values_of c.args.values.now in
    let after : ℕ → LockValue = values_of c.give_in-give.new.values in
    let lock : node_lock c.cache.result ≡ node_lock c.args.local.now.cache = ap (λ (k : ℕ). k + 1) c.cache.ensures in
    let is = subst (λ (k : ℕ). after ≡ update value k (Checked (slabs_at (after k)))) lock c.give_in-give.ensures.after in
    let gives = subst (λ (k : ℕ). Gives (slabs_at (value k)) c.give_in-give.result (slabs_at (after k))) lock c.give_in-give.ensures.gives in
    let sound = subst (λ (k : ℕ). IsSound (slabs_at (value k))) lock c.give_in-give.ensures.sound in
    let told = given-is (setup_of c.args.setup.now means) (slabs_at (value (node_lock c.args.local.now.cache))) c.give_in-give.result (slabs_at (after (node_lock c.args.local.now.cache))) sound gives in
    alloc-done c.args.setup.now means value after c.args.local.now c.given.new.local c.given.result (slabs_at (after (node_lock c.args.local.now.cache))) c.give_in-give.result is c.given.ensures
    ∙ ap (λ (r : CheckedGive). gave (setup_of c.args.setup.now means) value c.args.local.now (slabs_at (after (node_lock c.args.local.now.cache))) r) (sym told.0)
    ∙ ap (λ (s : CheckedState). gave (setup_of c.args.setup.now means) value c.args.local.now s (means.gave (slabs_at (value (node_lock c.args.local.now.cache))))) (sym told.1)
