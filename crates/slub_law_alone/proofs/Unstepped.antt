-- A reply by a step to a call that takes one is not a reply that takes no step.
use Rattle.std.proofs.Common.{◌≡◌, suc, ◌≤◌, ◌++◌, ◌==◌, Bool, true, false, not, if◌then◌else◌, Option, Some, None, List, [], ◌∷◌, length, get_or, drop, refl, sym, ap, ◌∙◌, subst, arith}
use Rattle.std.proofs.lemmas.Bool.{false≢true}
use Rattle.std.proofs.lemmas.Option.{none-some, same_Some}
use Rattle.std.proofs.lemmas.List.{length-append}
use Rattle.slub_trace.specs.declared.reply.Reply.{Reply}
use Rattle.slub_trace.specs.declared.reply.Reply.TheVariants as reply
use Rattle.slub_core.specs.declared.call.Call.{Call}
use Rattle.slub_core.specs.declared.call.CallKind.{CallKind}
use Rattle.slub_core.specs.declared.call.CallKind.TheVariants.{Alloc, Free, Write, Read, Poke, Trim, Flush}
use Rattle.slub_core.specs.declared.local.Known.{Known}
use Rattle.slub_core.specs.declared.local.Answered.{Answered}
use Rattle.slub_core.specs.Calls.{call_kind, call_place, call_word}
use Rattle.slub_core.specs.Setup.{Setup}
use Rattle.slub_core.specs.Local.{Local, nobody, call_of, answered}
use Rattle.slub_core.specs.Steps.{told_at_once, is_outside, or_step, rested_with}
use Rattle.slub_law_alone.proofs.Goes.{unstepped}
use Rattle.slub_law_alone.proofs.Onward.{Grown, rested_with-grown}

-- ---- by the call's kind

use_unstepped : (b c : Bool) (r : Reply) (kind : CallKind) → unstepped kind reply.NotHeld ≡ true → unstepped kind reply.OutOfObject ≡ true → (if b then Some reply.NotHeld else if c then Some reply.OutOfObject else None) ≡ Some r → unstepped kind r ≡ true
use_unstepped true c r kind lost out is = subst (λ r. unstepped kind r ≡ true) (same_Some reply.NotHeld r is) lost
use_unstepped false true r kind lost out is = subst (λ r. unstepped kind r ≡ true) (same_Some reply.OutOfObject r is) out
use_unstepped false false r kind lost out is = absurd (none-some r is)

poke_unstepped : (b c : Bool) (r : Reply) → b ≡ false → (if b then Some reply.NotHeld else if c then Some reply.NotChecked else None) ≡ Some r → unstepped Poke r ≡ true
poke_unstepped true c r there is = absurd (false≢true (sym there))
poke_unstepped false true r there is = subst (λ r. unstepped Poke r ≡ true) (same_Some reply.NotChecked r is) refl
poke_unstepped false false r there is = absurd (none-some r is)

-- where the call took a step, and has a reply by it, it has not that reply without a step later
pub no_reply_at_once : (m : Setup) (k q : Known) (call : Call) (kind : CallKind) (r : Reply) → (kind ≡ Poke → (q.frame == 0) ≡ false) → unstepped kind r ≡ false → told_at_once m k call kind ≡ None → told_at_once m q call kind ≡ Some r → ⊥
no_reply_at_once m k q call Alloc r there stepped none some = none-some r (sym none ∙ some)
no_reply_at_once m k q call Free r there stepped none some = none-some r some
no_reply_at_once m k q call Write r there stepped none some = false≢true (sym stepped ∙ use_unstepped (not q.held) (is_outside (m.layout q.cache) (call_word call)) r Write refl refl some)
no_reply_at_once m k q call Read r there stepped none some = false≢true (sym stepped ∙ use_unstepped (not q.held) (is_outside (m.layout q.cache) (call_word call)) r Read refl refl some)
no_reply_at_once m k q call Poke r there stepped none some = false≢true (sym stepped ∙ poke_unstepped (q.frame == 0) (not (m.checks q.cache)) r (there refl) some)
no_reply_at_once m k q call Trim r there stepped none some = none-some r (sym none ∙ some)
no_reply_at_once m k q call Flush r there stepped none some = none-some r (sym none ∙ some)

-- ---- two lists of replies

cons-nil : {A : Type 0} (a : A) (ws : List A) → [] ≡ a ∷ ws → ⊥
cons-nil a ws e = let long = ap length e in omega arith

first-same : {A : Type 0} (a b : A) (ws zs : List A) → a ∷ ws ≡ b ∷ zs → (a ≡ b) × (ws ≡ zs)
first-same a b ws zs e = (ap (λ xs. get_or xs 0 a) e, ap (drop 1) e)

-- the elements before ends of the same length are the same
pub before-ends : {A : Type 0} (xs ys : List A) (a b : A) (ws zs : List A) → length ws ≡ length zs → xs ++ a ∷ ws ≡ ys ++ b ∷ zs → a ≡ b
before-ends [] [] a b ws zs long e = (first-same a b ws zs e).0
before-ends [] (y ∷ ys) a b ws zs long e = absurd (let n = ap length e in let k = length-append ys (b ∷ zs) in omega arith)
before-ends (x ∷ xs) [] a b ws zs long e = absurd (let n = ap length e in let k = length-append xs (a ∷ ws) in omega arith)
before-ends (x ∷ xs) (y ∷ ys) a b ws zs long e = before-ends xs ys a b ws zs long (first-same x y (xs ++ a ∷ ws) (ys ++ b ∷ zs) e).1

pub grown-long : (old new : List Answered) → Grown old new → length old ≤ length new
grown-long old new (extra, e) = let n = ap length e in let k = length-append extra old in omega arith

-- ---- two workers with the same calls to come, and ws many replies

abbrev pub answer : Call → Reply → Answered
answer call reply = record { call = call; reply = reply }

-- the first has a call left, of which the second had this reply without a step
abbrev pub Without : Setup → Local → Local → Call → Reply → Type 0
Without m u v call r = (told_at_once m (get_or u.known (call_place call) nobody) call (call_kind call) ≡ None) × (told_at_once m (get_or v.known (call_place call) nobody) call (call_kind call) ≡ Some r)

pub compared : (m : Setup) (calls : List Call) (u v : Local) (call : Call) (more : List Call) (r : Reply) (extra : List Answered) → u.todo ≡ calls → v.todo ≡ calls → length u.done ≡ length v.done
    → (rested_with m calls u).todo ≡ call ∷ more → (rested_with m calls v).done ≡ extra ++ answer call r ∷ (rested_with m calls u).done → Without m u v call r
compared m [] u v call more r extra us vs long todo done = absurd (cons-nil call more (sym us ∙ todo))
compared m (c ∷ cs) u v call more r extra us vs long todo done =
    by (told_at_once m (get_or u.known (call_place c) nobody) c (call_kind c)) (told_at_once m (get_or v.known (call_place c) nobody) c (call_kind c)) refl refl
    (λ p q. compared m cs (answered u p) (answered v q) call more r extra (ap (drop 1) us) (ap (drop 1) vs) (ap suc long)) todo done
  where
    by : (a b : Option Reply) → told_at_once m (get_or u.known (call_place c) nobody) c (call_kind c) ≡ a → told_at_once m (get_or v.known (call_place c) nobody) c (call_kind c) ≡ b
        → ((p q : Reply) → (rested_with m cs (answered u p)).todo ≡ call ∷ more → (rested_with m cs (answered v q)).done ≡ extra ++ answer call r ∷ (rested_with m cs (answered u p)).done → Without m u v call r)
        → (or_step u (λ p. rested_with m cs (answered u p)) a).todo ≡ call ∷ more → (or_step v (λ q. rested_with m cs (answered v q)) b).done ≡ extra ++ answer call r ∷ (or_step u (λ p. rested_with m cs (answered u p)) a).done → Without m u v call r
    by None None ua vb go todo done = absurd (let n = ap length done in let k = length-append extra (answer call r ∷ u.done) in omega arith)
    by None (Some q) ua vb go todo done =
        let same : c ≡ call = (first-same c call cs more (sym us ∙ todo)).0 in
        let grown = rested_with-grown m cs (answered v q) in
        let one : answer (call_of v) q ≡ answer call r = before-ends grown.0 extra (answer (call_of v) q) (answer call r) v.done u.done (sym long) (sym grown.1 ∙ done) in (
          subst (λ (c : Call). told_at_once m (get_or u.known (call_place c) nobody) c (call_kind c) ≡ None) same ua,
          subst (λ (c : Call). told_at_once m (get_or v.known (call_place c) nobody) c (call_kind c) ≡ Some r) same (vb ∙ ap (λ (d : Answered). Some d.reply) one),
        )
    by (Some p) None ua vb go todo done =
        let grown = grown-long (answered u p).done (rested_with m cs (answered u p)).done (rested_with-grown m cs (answered u p)) in
        absurd (let n = ap length done in let k = length-append extra (answer call r ∷ (rested_with m cs (answered u p)).done) in omega arith)
    by (Some p) (Some q) ua vb go todo done = go p q todo done
