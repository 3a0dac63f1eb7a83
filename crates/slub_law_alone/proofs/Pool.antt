-- What a take from the page pool chooses, and what a search of a run finds, is one.
use Rattle.std.proofs.Common.{◌≡◌, ℕ, inl, inr, Some, None, refl, sym, ◌∙◌, ap}
use Rattle.slub_page_pool.specs.FreeFrames.{FreeFrames}
use Rattle.slub_page_pool.specs.Block.{Takes}
use Rattle.slub_page_pool.proofs.Steps.{Takes-unique}
use Rattle.slub_lists.specs.declared.lists.Run.{Run}
use Rattle.slub_law_alone.specs.Parts.{TakesHaveOneOutcome, NotedTakesHaveOneOutcome, SearchesHaveOneOutcome}

pub takes_one : TakesHaveOneOutcome
takes_one pool order one other left right a b = Takes-unique pool order one other left right a b

-- a take that finds nothing leaves no run for another
none_some : (pool : FreeFrames) (order frame : ℕ) (left right : FreeFrames) → Takes pool order None left → Takes pool order (Some frame) right → ⊥
none_some pool order frame left right a b = let e : None ≡ Some frame = (takes_one pool order None (Some frame) left right a b).0 in cc

pub noted_one : NotedTakesHaveOneOutcome
noted_one pool order None None left right a b = (refl, a.0 ∙ sym b.0)
noted_one pool order None (Some g) left right a b = absurd (none_some pool order g pool right (refl, a.1) b)
noted_one pool order (Some f) None left right a b = absurd (none_some pool order f pool left (refl, b.1) a)
noted_one pool order (Some f) (Some g) left right a b = takes_one pool order (Some f) (Some g) left right a b

some_same : (f g : ℕ) → Some f ≡ Some g → f ≡ g
some_same f g e = cc

run_same : (a b : Run) → a.frame ≡ b.frame → a.order ≡ b.order → a.objects ≡ b.objects → a ≡ b
run_same a b frames orders objects = λ i. record { frame = frames i; order = orders i; objects = objects i }

pub searches_one : SearchesHaveOneOutcome
searches_one pool layout None None left right a b = (refl, (noted_one pool layout.min_order None None left right a.1 b.1).1)
searches_one pool layout None (Some r) left right a (inl b) = absurd (none_some pool layout.order r.frame pool right a.0 b.2)
searches_one pool layout None (Some r) left right a (inr b) =
    absurd (let e : None ≡ Some r.frame = (noted_one pool layout.min_order None (Some r.frame) left right a.1 b.4).0 in cc)
searches_one pool layout (Some r) None left right (inl a) b = absurd (none_some pool layout.order r.frame pool left b.0 a.2)
searches_one pool layout (Some r) None left right (inr a) b =
    absurd (let e : Some r.frame ≡ None = (noted_one pool layout.min_order (Some r.frame) None left right a.4 b.1).0 in cc)
searches_one pool layout (Some r) (Some q) left right (inl a) (inl b) =
    let same = takes_one pool layout.order (Some r.frame) (Some q.frame) left right a.2 b.2 in
    (ap (λ (run : Run). Some run) (run_same r q (some_same r.frame q.frame same.0) (a.0 ∙ sym b.0) (a.1 ∙ sym b.1)), same.1)
searches_one pool layout (Some r) (Some q) left right (inl a) (inr b) = absurd (none_some pool layout.order r.frame pool left b.3 a.2)
searches_one pool layout (Some r) (Some q) left right (inr a) (inl b) = absurd (none_some pool layout.order q.frame pool right a.3 b.2)
searches_one pool layout (Some r) (Some q) left right (inr a) (inr b) =
    let same = takes_one pool layout.min_order (Some r.frame) (Some q.frame) left right a.4 b.4 in
    (ap (λ (run : Run). Some run) (run_same r q (some_same r.frame q.frame same.0) (a.1 ∙ sym b.1) (a.2 ∙ sym b.2)), same.1)
