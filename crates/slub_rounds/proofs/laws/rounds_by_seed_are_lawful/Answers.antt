use Rattle.slub_rounds.proofs.laws.rounds_by_seed_are_lawful.Goals as goal

pub returns : goal.returns
returns c = λ s ids seed trace round result after ids_after coherent laid does done.
    c.drawn_rounds_are_lawful.ensures s done.beside seed trace round result done.picks done.last done.lists after done.left coherent laid done.stands.fits does
    done.ends done.closes done.replies done.damages done.ledgers done.after_is
