-- Steps without a reply: what the worker knows and what it was answered stay.
use Rattle.std.proofs.Common.{◌≡◌, ℕ, ◌≤◌, true, List, ◌∷◌, refl, sym, ap, ◌∙◌, arith, inr, ◌⊎◌, Some, Option}
use Rattle.std.specs.Prelude.{All, slice_index}
use Rattle.std.proofs.lemmas.List.Elements.{All-cons, All-head, All-tail, All-weaker}
use Rattle.slub_words.specs.declared.board.BoardWord.{BoardWord}
use Rattle.slub_core.specs.declared.call.CallKind.{CallKind}
use Rattle.slub_core.specs.Setup.{Setup}
use Rattle.slub_core.specs.World.{World, pool_of, content}
use Rattle.slub_core.specs.Local.{Local, Worker, here, address_in}
use Rattle.slub_core.specs.Spots.{doing, frees, is_freeing}
use Rattle.slub_core.specs.Replies.{holding, address_on, Public}
use Rattle.slub_core.specs.Accounted.{boarded, public, IsDoing, NamesCache, IsTold, HasWritten, IsAccounted}
use Rattle.slub_core.proofs.TaleStep.{Onward, Moved, told-later, told_step}

-- a state with the same board, memory and counts of lacking runs, and no transaction id less
pub record Unseen (w v : World) : Type 0 where
  pub setup : v.setup ≡ w.setup
  pub tids : (n : ℕ) → (w.cpu n).tid ≤ (v.cpu n).tid
  pub board : (o : ℕ) → v.board o ≡ w.board o
  pub memory : (p : ℕ) → v.memory p ≡ w.memory p
  pub dry : (order : ℕ) → slice_index (pool_of v).dry order ≡ slice_index (pool_of w).dry order

-- a worker with the same records, in a call that it has: where it freed an object, it frees the same one
pub record Like (m : Setup) (before : ℕ → Option BoardWord) (l n : Local) : Type 0 where
  pub known : n.known ≡ l.known
  pub done : n.done ≡ l.done
  pub todo : n.todo ≡ l.todo
  pub freeing : is_freeing l.spot ≡ true → (is_freeing n.spot ≡ true) × (n.place ≡ l.place)
  pub frees : frees l.spot ≡ true → (frees n.spot ≡ true) × (n.place ≡ l.place)
  pub source : is_freeing n.spot ≡ true → (holding n.done (here n).object ≡ true) ⊎ (address_on m (before (here n).object) ≡ Some (address_in m (here n)))
  pub call : (kind : CallKind) → doing n.spot ≡ Some kind → IsDoing n kind × NamesCache n kind

object-same : (l n : Local) → n.known ≡ l.known → n.place ≡ l.place → (here n).object ≡ (here l).object
object-same l n k p = rw (k, p) refl

pub told-like : (m : Setup) (before : ℕ → Option BoardWord) (p : Public) (l n : Local) → Like m before l n → IsTold m before p l → IsTold m before p n
told-like m before p l n like ok = record {
  caused = rw like.done ok.caused;
  holds = λ o not. rw (like.known, like.done) (ok.holds o (λ f e. let g = like.freeing f in not g.0 (e ∙ sym (object-same l n like.known g.1))));
  source = like.source;
  address = λ o. rw (like.known, like.done) (ok.address o);
  cache = λ o. rw (like.known, like.done) (ok.cache o);
  tells = λ o. rw (like.known, like.done) (ok.tells o);
  unknown = λ o. rw (like.known, like.done) (ok.unknown o);
  call = like.call;
  fits = rw (like.known, like.todo) ok.fits;
  distinct = rw like.known ok.distinct;
  numbers = rw like.known ok.numbers;
}

-- the words of objects are those of a state with the same memory
pub content-same : (w v : World) → v.setup ≡ w.setup → ((p : ℕ) → v.memory p ≡ w.memory p) → (cache frame index a : ℕ) → content v cache frame index a ≡ content w cache frame index a
content-same w v setup memory cache frame index a = rw setup (memory _)

pub written-same : (w v : World) (before : ℕ → Option BoardWord) (l : Local) → v.setup ≡ w.setup → ((p : ℕ) → v.memory p ≡ w.memory p) → HasWritten w before l → HasWritten v before l
written-same w v before l setup memory ok = record {
  stands = λ o a x not is plain wrote. content-same w v setup memory _ _ _ a ∙ ok.stands o a x not is (rw setup at plain) wrote;
  inside = λ o a x is wrote. rw setup (ok.inside o a x is wrote);
  reads = ok.reads;
  new = ok.new;
}

pub others-written : (w v : World) (before : ℕ → Option BoardWord) (x : Worker) (others : List Worker) → v.setup ≡ w.setup → ((p : ℕ) → v.memory p ≡ w.memory p)
    → All (λ (o : Worker). HasWritten w before o.local) (x ∷ others) → All (λ (o : Worker). HasWritten v before o.local) others
others-written w v before x others setup memory all =
    All-weaker (λ (o : Worker). HasWritten w before o.local) (λ (o : Worker). HasWritten v before o.local) (λ o. written-same w v before o.local setup memory) others (All-tail (λ (o : Worker). HasWritten w before o.local) x others all)

pub written-like : (m : Setup) (w : World) (before : ℕ → Option BoardWord) (l n : Local) → Like m before l n → HasWritten w before l → HasWritten w before n
written-like m w before l n like ok = record {
  stands = λ o a v not. rw (like.known, like.done) (ok.stands o a v (λ f e. let g = like.frees f in not g.0 (e ∙ sym (object-same l n like.known g.1))));
  inside = λ o a v. rw (like.known, like.done) (ok.inside o a v);
  reads = rw (like.done, like.todo) ok.reads;
  new = rw like.done ok.new;
}

moved-like : (m : Setup) (before : ℕ → Option BoardWord) (w v : World) (l n : Local) → Unseen w v → Like m before l n → Moved w v l n
moved-like m before w v l n same like = record {
  count = λ o. let b = ap boarded (same.board o) in rw (like.known, like.done) (omega arith);
  asks = λ o. rw (like.done, like.todo) (omega arith);
  frees = λ o. rw like.done (omega arith);
  few = rw (like.done, like.todo) (omega arith);
  dry = λ order. let d = same.dry order in rw like.done (omega arith);
}

pub onward : (w v : World) → Unseen w v → Onward w v
onward w v same = record { setup = same.setup; tids = same.tids; less = λ o. inr (same.board o) }

-- a step at which no memory word changes, and the worker's records stay
pub told_like : (opening w v : World) (x z : Worker) (others : List Worker) → IsAccounted opening w (x ∷ others) → Unseen w v → Like w.setup opening.board x.local z.local → IsAccounted opening v (z ∷ others)
told_like opening w v x z others ac same like =
    let told = All-head (λ (o : Worker). IsTold w.setup opening.board (public w (x ∷ others)) o.local) x others ac.told in
    let written = All-head (λ (o : Worker). HasWritten w opening.board o.local) x others ac.written in
    told_step opening w v x z others ac (onward w v same) (moved-like w.setup opening.board w v x.local z.local same like)
    (λ p later. told-like w.setup opening.board p x.local z.local like (told-later w.setup opening.board _ p x.local later told))
    (All-cons (λ (o : Worker). HasWritten v opening.board o.local) z others
    (written-like w.setup v opening.board x.local z.local like (written-same w v opening.board x.local same.setup same.memory written))
    (others-written w v opening.board x others same.setup same.memory ac.written))

-- without a reply a worker goes on in its call, or leaves it
pub record IsQuiet (l n : Local) : Type 0 where
  pub known : n.known ≡ l.known
  pub done : n.done ≡ l.done
  pub todo : n.todo ≡ l.todo
  pub place : n.place ≡ l.place
  pub freeing : is_freeing n.spot ≡ is_freeing l.spot
  pub frees : frees n.spot ≡ frees l.spot
  pub call : (kind : CallKind) → doing n.spot ≡ Some kind → (doing l.spot ≡ Some kind) × (NamesCache l kind → NamesCache n kind)

doing-same : (l n : Local) (kind : CallKind) → n.known ≡ l.known → n.todo ≡ l.todo → n.place ≡ l.place → IsDoing l kind → IsDoing n kind
doing-same l n kind k t p d = record { some = rw t d.some; same_kind = rw t d.same_kind; object = λ names. rw (k, t, p) (d.object names); place = rw (t, p) d.place }

pub quiet-like : (m : Setup) (before : ℕ → Option BoardWord) (p : Public) (l n : Local) → IsQuiet l n → IsTold m before p l → Like m before l n
quiet-like m before p l n q ok = record {
  known = q.known;
  done = q.done;
  todo = q.todo;
  freeing = λ f. (q.freeing ∙ f, q.place);
  frees = λ f. (q.frees ∙ f, q.place);
  source = λ f. rw (q.known, q.place, q.done) (ok.source (sym q.freeing ∙ f));
  call = λ kind e. let c = q.call kind e in let d = ok.call kind c.0 in (doing-same l n kind q.known q.todo q.place d.0, c.1 d.1);
}

pub told_quiet : (opening w v : World) (x z : Worker) (others : List Worker) → IsAccounted opening w (x ∷ others) → Unseen w v → IsQuiet x.local z.local → IsAccounted opening v (z ∷ others)
told_quiet opening w v x z others ac same quiet =
    told_like opening w v x z others ac same
    (quiet-like w.setup opening.board (public w (x ∷ others)) x.local z.local quiet (All-head (λ (o : Worker). IsTold w.setup opening.board (public w (x ∷ others)) o.local) x others ac.told))
