use Rattle.std.proofs.Common.{ℕ, [], ◌∷◌, ◌++◌, refl, sym, subst, ◌∙◌}
use Rattle.std.proofs.lemmas.List.{append-nil}
use Rattle.slub_picks.specs.Made.{IsMade}
use Rattle.slub_round_log.proofs.kept.Kept.note_begin.Goals as goal

pub returns-clause-noted : goal.returns-clause-noted
returns-clause-noted c =
    record {
      choice = refl;
      lines = sym (append-nil c.args.self.now.lines.items);
      context = c.in_ok-begins.ensures;
      made = λ turns h. let P : ℕ → Type 0 = λ worker. IsMade c.push.new.self (turns ++ worker ∷ []) in
          subst P (c.from.ensures ∙ c.worker.ensures) (c.in_ok-push.ensures turns h);
      waits = refl;
    }
