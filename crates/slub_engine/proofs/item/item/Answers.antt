use Rattle.std.proofs.Common.{◌≡◌, get_or, ◌∙◌}
use Rattle.slub_slabinfo_text.proofs.Items.{does_creation, does_destroy, does_shrink, does_slabinfo, does_tune}
use Rattle.slub_engine.proofs.Ready.{ready_kept, ready_same}
use Rattle.slub_engine.proofs.item.item.Goals as goal

pub returns-in_ok-create-in-Cache-clause-done : goal.returns-in_ok-create-in-Cache-clause-done
returns-in_ok-create-in-Cache-clause-done c =
    let at : c.index-as_slice-number.result ≡ get_or c.args.trace.now.items c.args.number c.index-as_slice-number.result = rw (← c.as_slice.ensures) c.index-as_slice-number.is in
    does_creation c.args.lists.now c.args.trace.now c.args.number _ _ _ _ c.create.new.lists c.requires.within at c.in-Cache.is (rw c.name_of.ensures at c.in_ok-create-in-Cache.ensures.creates)

pub returns-in_ok-create-in-Cache-clause-ready : goal.returns-in_ok-create-in-Cache-clause-ready
returns-in_ok-create-in-Cache-clause-ready c =
    let at : c.index-as_slice-number.result ≡ get_or c.args.trace.now.items c.args.number c.index-as_slice-number.result = rw (← c.as_slice.ensures) c.index-as_slice-number.is in
    ready_kept c.args.lists.now c.create.new.lists c.args.trace.now c.args.number _ c.requires.sound c.requires.ready c.requires.within at
    c.in_ok-create-in-Cache.ensures.coherent c.in_ok-create-in-Cache.ensures.kept c.in_ok-create-in-Cache.ensures.board

pub returns-in-Shrink-clause-done : goal.returns-in-Shrink-clause-done
returns-in-Shrink-clause-done c =
    let at : c.index-as_slice-number.result ≡ get_or c.args.trace.now.items c.args.number c.index-as_slice-number.result = rw (← c.as_slice.ensures) c.index-as_slice-number.is in
    does_shrink c.args.lists.now c.args.trace.now c.args.number _ _ _ c.shrink.new.self c.requires.within at c.in-Shrink.is (rw c.name_of-in-Shrink.ensures at c.shrink.ensures.shrinks)

pub returns-in-Shrink-clause-ready : goal.returns-in-Shrink-clause-ready
returns-in-Shrink-clause-ready c =
    let at : c.index-as_slice-number.result ≡ get_or c.args.trace.now.items c.args.number c.index-as_slice-number.result = rw (← c.as_slice.ensures) c.index-as_slice-number.is in
    ready_kept c.args.lists.now c.shrink.new.self c.args.trace.now c.args.number _ c.requires.sound c.requires.ready c.requires.within at
    c.shrink.ensures.coherent c.shrink.ensures.kept c.shrink.ensures.board

pub returns-in-Destroy-clause-done : goal.returns-in-Destroy-clause-done
returns-in-Destroy-clause-done c =
    let at : c.index-as_slice-number.result ≡ get_or c.args.trace.now.items c.args.number c.index-as_slice-number.result = rw (← c.as_slice.ensures) c.index-as_slice-number.is in
    does_destroy c.args.lists.now c.args.trace.now c.args.number _ _ _ c.destroy.new.self c.requires.within at c.in-Destroy.is (rw c.name_of-in-Destroy.ensures at c.destroy.ensures.destroys)

pub returns-in-Destroy-clause-ready : goal.returns-in-Destroy-clause-ready
returns-in-Destroy-clause-ready c =
    let at : c.index-as_slice-number.result ≡ get_or c.args.trace.now.items c.args.number c.index-as_slice-number.result = rw (← c.as_slice.ensures) c.index-as_slice-number.is in
    ready_kept c.args.lists.now c.destroy.new.self c.args.trace.now c.args.number _ c.requires.sound c.requires.ready c.requires.within at
    c.destroy.ensures.coherent c.destroy.ensures.kept c.destroy.ensures.board

pub returns-in_ok-info_rows-in-Slabinfo-clause-done : goal.returns-in_ok-info_rows-in-Slabinfo-clause-done
returns-in_ok-info_rows-in-Slabinfo-clause-done c =
    let at : c.index-as_slice-number.result ≡ get_or c.args.trace.now.items c.args.number c.index-as_slice-number.result = rw (← c.as_slice.ensures) c.index-as_slice-number.is in
    does_slabinfo c.args.lists.now c.args.trace.now c.args.number _ _ c.requires.within at c.in-Slabinfo.is (c.from_vec.ensures ∙ c.in_ok-info_rows-in-Slabinfo.ensures)

pub returns-in_ok-info_rows-in-Slabinfo-clause-ready : goal.returns-in_ok-info_rows-in-Slabinfo-clause-ready
returns-in_ok-info_rows-in-Slabinfo-clause-ready c =
    let at : c.index-as_slice-number.result ≡ get_or c.args.trace.now.items c.args.number c.index-as_slice-number.result = rw (← c.as_slice.ensures) c.index-as_slice-number.is in
    ready_same c.args.lists.now c.args.trace.now c.args.number _ c.requires.sound c.requires.ready c.requires.within at

pub returns-in-Tune-clause-done : goal.returns-in-Tune-clause-done
returns-in-Tune-clause-done c =
    let at : c.index-as_slice-number.result ≡ get_or c.args.trace.now.items c.args.number c.index-as_slice-number.result = rw (← c.as_slice.ensures) c.index-as_slice-number.is in
    does_tune c.args.lists.now c.args.trace.now c.args.number _ _ _ _ c.tune.new.self c.requires.within at c.in-Tune.is (rw c.name_of-in-Tune.ensures at c.tune.ensures.tunes)

pub returns-in-Tune-clause-ready : goal.returns-in-Tune-clause-ready
returns-in-Tune-clause-ready c =
    let at : c.index-as_slice-number.result ≡ get_or c.args.trace.now.items c.args.number c.index-as_slice-number.result = rw (← c.as_slice.ensures) c.index-as_slice-number.is in
    ready_kept c.args.lists.now c.tune.new.self c.args.trace.now c.args.number _ c.requires.sound c.requires.ready c.requires.within at
    c.tune.ensures.coherent c.tune.ensures.kept c.tune.ensures.board
