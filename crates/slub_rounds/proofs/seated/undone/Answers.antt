use Rattle.std.proofs.Common.{◌≡◌, List, ℕ, length, sym, ap, ◌∙◌, subst, arith}
use Rattle.slub_open_close.specs.Undoing.{WasOpened}
use Rattle.slub_words.specs.Stored.{AreStored}
use Rattle.slub_rounds.proofs.Threads.{kept-again}
use Rattle.slub_rounds.proofs.seated.undone.Goals as goal

pub restore-requires : goal.restore-requires
restore-requires c =
    let (s, was) = c.requires in
    let inside = was.kept_are.inside in
    let frames = was.frames in
    let count = c.into_memory-memory.ensures.count in
    let words = ap length c.as_slice.ensures.value in
    omega arith

pub put_back-requires : goal.put_back-requires
put_back-requires c =
    let (s, was) = c.requires in
    let long : length c.restore.new.self ≡ length s.memory = c.restore.ensures.count ∙ c.into_memory-memory.ensures.count ∙ sym was.frames in
    let stored = subst (λ (ws : List ℕ). AreStored ws c.restore.new.self) c.as_slice.ensures.value c.restore.ensures.stored in
    let again = kept-again c.args.kept.items s.memory c.restore.new.self was.kept_are stored long in
    (s, subst (WasOpened s c.args.machine.values.items c.args.rest) (sym again) was.opened)

pub returns : goal.returns
returns c = λ s was.
    let long : length c.restore.new.self ≡ length s.memory = c.restore.ensures.count ∙ c.into_memory-memory.ensures.count ∙ sym was.frames in
    let stored = subst (λ (ws : List ℕ). AreStored ws c.restore.new.self) c.as_slice.ensures.value c.restore.ensures.stored in
    let again = kept-again c.args.kept.items s.memory c.restore.new.self was.kept_are stored long in
    c.put_back.ensures s (subst (WasOpened s c.args.machine.values.items c.args.rest) (sym again) was.opened)
