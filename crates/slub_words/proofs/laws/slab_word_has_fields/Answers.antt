use Rattle.std.proofs.Common.{rules}
use Rattle.slub_words.proofs.Fields.{slab_words_same}
use Rattle.slub_words.proofs.laws.slab_word_has_fields.Goals as goal

pub returns : goal.returns
returns c =
    slab_words_same c.args.one c.args.other (search rules) (search rules) (search rules) (search rules) (search rules) (search rules) c.requires
