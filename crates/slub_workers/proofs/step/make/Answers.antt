use Rattle.std.proofs.Common.{refl, ap, ◌∙◌, arith}
use Rattle.slub_workers.specs.Cells.{cell_of}
use Rattle.slub_workers.specs.Rule.{setup_in}
use Rattle.slub_workers.proofs.Makes.{load_asks, swap_asks, outside_asks, outside_stays, made_kept, load_answers, swap_answers, sized, counted}
use Rattle.slub_workers.proofs.step.make.Goals as goal

pub load-requires : goal.load-requires
load-requires g c =
    let r = c.requires in
    let s = c.args.shared.now in
    let sizes = sized g.N.Naming.key s.words.shared.key s.setup s.frames s.objects r.key s.facts s.sizes in
    let all = counted g.N.Naming.key s.words.shared.table_id.words s.frames s.objects sizes s.words_are in
    let here = c.cell-word.ensures ∙ ap cell_of (c.number.ensures (setup_in g.N.Naming.key) sizes.0 sizes.1) in
    let many = s.words_are in
    let far = c.if-word-word_count.true in
    let count = c.word_count.ensures in (
      r.seat,
      omega (arith, many),
      outside_asks c.turns_keep_ready.ensures c.picks_fit.ensures s.words.shared.key g.N.Naming.key r.key _ _ g.N.Naming.tries g.N.Naming.standing c.args.seat.now.me c.args.seat.now.me c.args.values.now c.args.step r.steps refl
          s.words.shared.table_id.words (omega (arith, here, far, count)) all,
    )

pub returns-then-word-word_count-clause-made : goal.returns-then-word-word_count-clause-made
returns-then-word-word_count-clause-made g c =
    let r = c.requires in
    let s = c.args.shared.now in
    let sizes = sized g.N.Naming.key s.words.shared.key s.setup s.frames s.objects r.key s.facts s.sizes in
    let all = counted g.N.Naming.key s.words.shared.table_id.words s.frames s.objects sizes s.words_are in
    let here = c.cell-word.ensures ∙ ap cell_of (c.number.ensures (setup_in g.N.Naming.key) sizes.0 sizes.1) in
    let far = c.if-word-word_count.true in
    let count = c.word_count.ensures in
    let stays = outside_stays c.turns_keep_ready.ensures c.picks_fit.ensures s.words.shared.key g.N.Naming.key r.key 0 0 g.N.Naming.tries g.N.Naming.standing c.args.seat.now.me c.args.seat.now.me c.args.values.now c.args.step r.steps refl
    s.words.shared.table_id.words (omega (arith, here, far, count)) all in
    made_kept g.N.Naming.key g.N.Naming.tries g.N.Naming.standing c.args.seat.now.me c.load.new.seat.me c.args.values.now c.args.step 0 c.answer.result r.steps stays c.answer.ensures c.load.ensures.2

pub load-requires-in-Load : goal.load-requires-in-Load
load-requires-in-Load g c =
    let r = c.requires in
    let s = c.args.shared.now in
    let sizes = sized g.N.Naming.key s.words.shared.key s.setup s.frames s.objects r.key s.facts s.sizes in
    let near = c.if-word-word_count.false in
    let count = c.word_count.ensures in (
      r.seat,
      omega (arith, near, count),
      load_asks c.turns_keep_ready.ensures c.picks_fit.ensures s.words.shared.key g.N.Naming.key r.key _ _ g.N.Naming.tries g.N.Naming.standing c.args.seat.now.me c.args.seat.now.me c.args.values.now c.args.step r.steps refl
          c.cell-word.result (c.cell-word.ensures ∙ ap cell_of (c.number.ensures (setup_in g.N.Naming.key) sizes.0 sizes.1)) c.in-Load.is,
    )

pub store-requires-clause-word : goal.store-requires-clause-word
store-requires-clause-word g c =
    let s = c.args.shared.now in
    let sizes = sized g.N.Naming.key s.words.shared.key s.setup s.frames s.objects c.requires.key s.facts s.sizes in
    c.cell-word.ensures ∙ ap cell_of (c.number.ensures (setup_in g.N.Naming.key) sizes.0 sizes.1)

pub swap-requires : goal.swap-requires
swap-requires g c =
    let r = c.requires in
    let s = c.args.shared.now in
    let sizes = sized g.N.Naming.key s.words.shared.key s.setup s.frames s.objects r.key s.facts s.sizes in
    let near = c.if-word-word_count.false in
    let count = c.word_count.ensures in (
      r.seat,
      omega (arith, near, count),
      swap_asks c.turns_keep_ready.ensures c.picks_fit.ensures s.words.shared.key g.N.Naming.key r.key _ _ g.N.Naming.tries g.N.Naming.standing c.args.seat.now.me c.args.seat.now.me c.args.values.now c.args.step r.steps refl
          c.cell-word.result c.in-Swap.value (c.cell-word.ensures ∙ ap cell_of (c.number.ensures (setup_in g.N.Naming.key) sizes.0 sizes.1)) c.in-Swap.is,
    )

pub exchange-requires-clause-word : goal.exchange-requires-clause-word
exchange-requires-clause-word g c =
    let s = c.args.shared.now in
    let sizes = sized g.N.Naming.key s.words.shared.key s.setup s.frames s.objects c.requires.key s.facts s.sizes in
    c.cell-word.ensures ∙ ap cell_of (c.number.ensures (setup_in g.N.Naming.key) sizes.0 sizes.1)

pub returns-in-Load-clause-made : goal.returns-in-Load-clause-made
returns-in-Load-clause-made g c =
    let n = c.load-in-Load.result in
    let a = load_answers c.args.step n c.in-Load.is in
    made_kept g.N.Naming.key g.N.Naming.tries g.N.Naming.standing c.args.seat.now.me c.load-in-Load.new.seat.me c.args.values.now c.args.step n _ c.requires.steps a.0 a.1 c.load-in-Load.ensures.2

pub returns-in-Swap-clause-made : goal.returns-in-Swap-clause-made
returns-in-Swap-clause-made g c =
    let n = c.swap.result in
    let a = swap_answers c.args.step c.in-Swap.value n c.in-Swap.is in
    made_kept g.N.Naming.key g.N.Naming.tries g.N.Naming.standing c.args.seat.now.me c.swap.new.seat.me c.args.values.now c.args.step n _ c.requires.steps a.0 a.1 c.swap.ensures.2
