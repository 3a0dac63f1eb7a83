-- What a step owes to the account of what the workers were answered.
use Rattle.std.proofs.Common.{◌≡◌, ℕ, ◌+◌, ◌*◌, ◌≤◌, List, [], ◌∷◌, length, sym, ◌∙◌, subst, arith, inl, inr, ◌⊎◌, None, Option}
use Rattle.std.specs.Prelude.{All, sum_by, slice_index}
use Rattle.std.proofs.lemmas.List.Sums.{sum_by-cons}
use Rattle.std.proofs.lemmas.List.Elements.{All-cons, All-tail, All-weaker}
use Rattle.slub_words.specs.declared.board.BoardWord.{BoardWord}
use Rattle.slub_trace.specs.declared.reply.Reply.{Reply}
use Rattle.slub_trace.specs.declared.reply.Reply.TheVariants as reply
use Rattle.slub_core.specs.declared.call.Call.{Call}
use Rattle.slub_core.specs.declared.local.Answered.{Answered}
use Rattle.slub_core.specs.Calls.{call_cpu, call_object}
use Rattle.slub_core.specs.Setup.{Setup}
use Rattle.slub_core.specs.World.{World, pool_of}
use Rattle.slub_core.specs.Local.{Local, Worker}
use Rattle.slub_core.specs.Replies.{given_in, freed_in, asked_in, dry_in, Public, Later, Cause, Caused}
use Rattle.slub_core.specs.Accounted.{boarded, had, public, IsTold, HasWritten, IsAccounted}

-- a cause stays
cause-later : (m : Setup) (before : ℕ → Option BoardWord) (p q : Public) (ds : List Answered) (c : Call) (r : Reply) → Later p q → Cause m before p ds c r → Cause m before q ds c r
cause-later m before p q ds c (reply.Given a) later h = (h.0, h.1, h.2, λ o at. let f = later.freed o in let g = h.3 o at in omega arith)
cause-later m before p q ds c (reply.IdsSpent t) later h = (h.0, h.1, (h.2.0, h.2.1, h.2.2, let f = later.tid (16 * h.2.0 + call_cpu c) in let g = h.2.3 in omega arith))
cause-later m before p q ds c reply.NotHeld later h = (h.0, h.1, h.2, λ f. let b = later.boarded (call_object c) in let z = h.3 f in omega arith)
cause-later m before p q ds c reply.NoFrames later h = h
cause-later m before p q ds c reply.NoSuchCache later h = h
cause-later m before p q ds c reply.NoMemory later h = h
cause-later m before p q ds c (reply.Freed a) later h = h
cause-later m before p q ds c (reply.Corrupt d) later h = h
cause-later m before p q ds c reply.Wrote later h = h
cause-later m before p q ds c (reply.Value v) later h = h
cause-later m before p q ds c reply.OutOfObject later h = h
cause-later m before p q ds c reply.Poked later h = h
cause-later m before p q ds c reply.OutOfSlot later h = h
cause-later m before p q ds c reply.NotChecked later h = h
cause-later m before p q ds c (reply.Trimmed n) later h = h
cause-later m before p q ds c reply.Checked later h = h
cause-later m before p q ds c (reply.Flushed n) later h = h

pub caused-later : (m : Setup) (before : ℕ → Option BoardWord) (p q : Public) (ds : List Answered) → Later p q → Caused m before p ds → Caused m before q ds
caused-later m before p q [] later c = c
caused-later m before p q (d ∷ ds) later c = (cause-later m before p q ds d.call d.reply later c.0, caused-later m before p q ds later c.1)

pub told-later : (m : Setup) (before : ℕ → Option BoardWord) (p q : Public) (l : Local) → Later p q → IsTold m before p l → IsTold m before q l
told-later m before p q l later ok = record {
  caused = caused-later m before p q l.done later ok.caused;
  holds = ok.holds;
  source = ok.source;
  address = ok.address;
  cache = ok.cache;
  tells = ok.tells;
  unknown = ok.unknown;
  call = ok.call;
  fits = ok.fits;
  distinct = ok.distinct;
  numbers = ok.numbers;
}

-- what a step does to the state, as far as the account reads it
pub record Onward (w v : World) : Type 0 where
  pub setup : v.setup ≡ w.setup
  pub tids : (n : ℕ) → (w.cpu n).tid ≤ (v.cpu n).tid
  pub less : (o : ℕ) → (v.board o ≡ None) ⊎ (v.board o ≡ w.board o)

-- of each number a worker moves no more than it answers for
pub record Moved (w v : World) (l m : Local) : Type 0 where
  pub count : (o : ℕ) → boarded (v.board o) + had o m + given_in o l.done ≡ boarded (w.board o) + had o l + given_in o m.done
  pub asks : (o : ℕ) → given_in o m.done + asked_in o m.todo ≤ given_in o l.done + asked_in o l.todo
  pub frees : (o : ℕ) → freed_in o l.done ≤ freed_in o m.done
  pub few : length m.done + length m.todo ≤ length l.done + length l.todo
  pub dry : (order : ℕ) → slice_index (pool_of v).dry order + dry_in w.setup order l.done ≡ slice_index (pool_of w).dry order + dry_in w.setup order m.done

boarded-less : (a b : Option BoardWord) → (a ≡ None) ⊎ (a ≡ b) → boarded a ≤ boarded b
boarded-less a b (inl z) = rw z (omega arith)
boarded-less a b (inr e) = rw e (omega arith)

-- What a step owes: it moves no more than it answers for, and the worker's own records agree with its replies and with the words.
pub told_step : (opening w v : World) (x z : Worker) (others : List Worker) → IsAccounted opening w (x ∷ others) → Onward w v → Moved w v x.local z.local
    → ((p : Public) → Later (public w (x ∷ others)) p → IsTold w.setup opening.board p z.local)
    → All (λ (x : Worker). HasWritten v opening.board x.local) (z ∷ others)
    → IsAccounted opening v (z ∷ others)
told_step opening w v x z others ac on moved told written =
    let later : Later (public w (x ∷ others)) (public v (z ∷ others)) = record {
      boarded = λ o. boarded-less (v.board o) (w.board o) (on.less o);
      freed = λ o. let a = sum_by-cons (λ (x : Worker). freed_in o x.local.done) x others in let b = sum_by-cons (λ (x : Worker). freed_in o x.local.done) z others in let f = moved.frees o in omega arith;
      tid = on.tids;
    } in
    let same = on.setup in
    record {
      setup = same ∙ ac.setup;
      tids = λ n. let a = ac.tids n in let b = on.tids n in omega arith;
      within = λ o b is. rw same (ac.within o b is);
      stands = λ o. elim (on.less o) [ inl z ↦ inl z | inr e ↦ elim (ac.stands o) [ inl z ↦ inl (e ∙ z) | inr s ↦ inr (e ∙ s) ] ];
      count = λ o.
          let a = sum_by-cons (λ (x : Worker). had o x.local) x others in let b = sum_by-cons (λ (x : Worker). had o x.local) z others in
          let c = sum_by-cons (λ (x : Worker). given_in o x.local.done) x others in let d = sum_by-cons (λ (x : Worker). given_in o x.local.done) z others in
          let was = ac.count o in let both = moved.count o in omega arith;
      once = λ o.
          let a = sum_by-cons (λ (x : Worker). asked_in o x.local.todo) x others in let b = sum_by-cons (λ (x : Worker). asked_in o x.local.todo) z others in
          let c = sum_by-cons (λ (x : Worker). given_in o x.local.done) x others in let d = sum_by-cons (λ (x : Worker). given_in o x.local.done) z others in
          let was = ac.once o in let both = moved.asks o in omega arith;
      few = (
        let a = sum_by-cons (λ (x : Worker). length x.local.done + length x.local.todo) x others in let b = sum_by-cons (λ (x : Worker). length x.local.done + length x.local.todo) z others in
            let was = ac.few.0 in let both = moved.few in omega arith,
        ac.few.1,
      );
      dry = λ order.
          let a = sum_by-cons (λ (x : Worker). dry_in w.setup order x.local.done) x others in let b = sum_by-cons (λ (x : Worker). dry_in w.setup order x.local.done) z others in
          let was = ac.dry order in let both = moved.dry order in
          subst (λ m. slice_index (pool_of v).dry order ≡ slice_index (pool_of opening).dry order + sum_by (λ (x : Worker). dry_in m order x.local.done) (z ∷ others)) (sym same) (omega arith);
      told = subst (λ m. All (λ (o : Worker). IsTold m opening.board (public v (z ∷ others)) o.local) (z ∷ others)) (sym same)
          (All-cons (λ (o : Worker). IsTold w.setup opening.board (public v (z ∷ others)) o.local) z others (told (public v (z ∷ others)) later)
          (All-weaker (λ (o : Worker). IsTold w.setup opening.board (public w (x ∷ others)) o.local) (λ (o : Worker). IsTold w.setup opening.board (public v (z ∷ others)) o.local) (λ o. told-later w.setup opening.board _ _ o.local later) others
          (All-tail (λ (o : Worker). IsTold w.setup opening.board (public w (x ∷ others)) o.local) x others ac.told)));
      written = written;
    }
