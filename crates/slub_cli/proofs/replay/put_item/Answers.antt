use Rattle.std.proofs.Common.{◌≡◌, ap, arith, refl}
use Rattle.std.proofs.lemmas.Grind.{common_steps}
use Rattle.std.proofs.lemmas.Result.{err_from_is_err_and}
use Rattle.slub_slabinfo_text.specs.Text.{text_at}
use Rattle.slub_cli.proofs.Texts.{grows_text, grows_front, item_entry}
use Rattle.slub_slabinfo_text.proofs.Given.{given-none}
use Rattle.slub_cli.proofs.replay.put_item.Goals as goal

pub returns-in_err-write-clause-told : goal.returns-in_err-write-clause-told
returns-in_err-write-clause-told g c =
    let put : c.index-as_slice-number.result ≡ c.args.done = grind (arith, common_steps) in
    let p = err_from_is_err_and c.from_residual-in_err-write.result c.from_residual-in_err-write.ensures.1 in
    rw (p.1, p.2) (grows_front c.args.replies _ _ c.args.trace.now _ _ _ _ (item_entry c.args.replies c.args.trace.now _ _ _ _ c.requires.so_far c.requires.no_total refl c.in_ok-push.ensures) (ap (text_at c.args.replies c.args.trace.now c.args.number) put) c.in_err-write.ensures.err)

pub returns-clause-told : goal.returns-clause-told
returns-clause-told g c =
    let put : c.index-as_slice-number.result ≡ c.args.done = grind (arith, common_steps) in
    grows_text c.args.replies _ _ c.args.trace.now _ _ _ _ (item_entry c.args.replies c.args.trace.now _ _ _ _ c.requires.so_far c.requires.no_total refl c.in_ok-push.ensures) (ap (text_at c.args.replies c.args.trace.now c.args.number) put) c.in_ok-write.ensures.ok

pub returns-in_err-write-clause-put : goal.returns-in_err-write-clause-put
returns-in_err-write-clause-put g c =
    let p = err_from_is_err_and c.from_residual-in_err-write.result c.from_residual-in_err-write.ensures.1 in
    rw (p.1, p.2) (record { items = c.in_ok-push.ensures; total = refl; machine = record { frames = refl; cpus = refl; tid = refl } })

pub returns-clause-put : goal.returns-clause-put
returns-clause-put g c = record { items = c.in_ok-push.ensures; total = refl; machine = record { frames = refl; cpus = refl; tid = refl } }

pub returns-in_err-make-clause-lines : goal.returns-in_err-make-clause-lines
returns-in_err-make-clause-lines g c = given-none (g.K.Sink.pieces c.args.sink.now)

pub returns-in_err-push-clause-lines : goal.returns-in_err-push-clause-lines
returns-in_err-push-clause-lines g c = given-none (g.K.Sink.pieces c.args.sink.now)
