use Rattle.std.proofs.Common.{◌∙◌, sym}
use Rattle.slub_recording.proofs.Splits.{words_empty, words_more}
use Rattle.slub_recording.proofs.words.next_word.Goals as goal

pub returns-then-is_empty-clause-none : goal.returns-then-is_empty-clause-none
returns-then-is_empty-clause-none c = sym c.past_blanks-rest.ensures.same ∙ words_empty c.past_blanks-rest.result.now c.if-is_empty.ensures

pub returns-clause-found : goal.returns-clause-found
returns-clause-found c =
    sym c.past_blanks-rest.ensures.same
    ∙ words_more c.past_blanks-rest.result.now c.split_word.result.0.now c.split_word.result.1.now c.split_word.ensures.whole c.split_word.ensures.word c.split_word.ensures.behind c.past_blanks-rest.ensures.front c.if-is_empty.ensures
