use Rattle.std.proofs.Common.{◌≢◌, ℕ, List, [], length, get_or, ap, ◌∙◌, arith, below_more, length-set, get_or-set_same, get_or-set_other}
use Rattle.slub_words.specs.declared.slab.SlabWord.{SlabWord}
use Rattle.slub_core.specs.Words.{slab_in}
use Rattle.slub_open_close.specs.Reads.{chain_in}
use Rattle.slub_open_close.proofs.slabs.close_frees.Goals as goal

pub loop-frame-preserved : goal.loop-frame-preserved
loop-frame-preserved c =
    let frame = c.loop-frame.frame in
    let own : SlabWord → List ℕ = λ word. chain_in c.args.setup.now c.args.memory.now word.cache frame word.head in
    let chain = own c.slab_in-slab.result in
    let at : ℕ → List (List ℕ) → List ℕ = λ k lists. get_or lists k [] in
    record {
      walked = below_more _ _
          (λ k h. let ne : k ≢ frame = omega arith in ap (at k) c.walk_own.ensures ∙ get_or-set_other c.loop-frame.frees frame k chain [] ne ∙ c.loop-frame.invariant.walked k h)
          (ap (at frame) c.walk_own.ensures
          ∙ get_or-set_same c.loop-frame.frees frame chain [] (omega (arith, c.loop-frame-test.true, c.loop-frame.invariant.lists))
          ∙ ap own (c.slab_in-slab.ensures ∙ ap slab_in c.word.ensures));
      lists = ap length c.walk_own.ensures ∙ length-set c.loop-frame.frees frame chain ∙ c.loop-frame.invariant.lists;
    }
