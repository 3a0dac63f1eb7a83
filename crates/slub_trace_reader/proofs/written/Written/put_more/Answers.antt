use Rattle.std.proofs.Common.{◌≡◌, ◌∙◌, ◌++◌, ◌∷◌, [], true, not, sym}
use Rattle.std.specs.List.{list_any}
use Rattle.slub_trace_reader.specs.Above.{is_spot}
use Rattle.slub_trace_reader.proofs.WrittenWords.{noted_more, fresh_one}
use Rattle.slub_trace_reader.proofs.written.Written.put_more.Goals as goal

pub returns-in_ok-push-clause-noted : goal.returns-in_ok-push-clause-noted
returns-in_ok-push-clause-noted c =
    let old = c.args.self.now in
    let spot = c.args.spot in
    let fresh : true ≡ not (list_any (is_spot spot) old.more.keys) = sym c.if-branch.true ∙ c.in_ok-insert.ensures.added in
    let more : c.insert.new.self.keys ≡ old.more.keys ++ spot ∷ [] = c.in_ok-insert.ensures.keys ∙ fresh_one old.more.keys spot fresh in
    rw (c.in_ok-push.ensures, more) (noted_more old.keys old.more.keys old.places.items spot c.requires.noted c.requires.known)
