-- A worker begins its next call; and the account does not depend on the order of the workers.
use Rattle.std.proofs.Common.{◌≡◌, ℕ, ◌+◌, ◌++◌, Bool, true, false, List, [], ◌∷◌, length, get_or, refl, sym, ap, ◌∙◌, subst, arith, inl, Some, None, Option}
use Rattle.std.specs.Prelude.{All, sum_by, unwrap_or}
use Rattle.std.proofs.lemmas.Bool.{false≢true}
use Rattle.std.proofs.lemmas.Option.{none-some}
use Rattle.std.proofs.lemmas.List.Elements.{All-head, All-weaker}
use Rattle.slub_core.specs.declared.call.Call.{Call}
use Rattle.slub_core.specs.declared.call.CallKind.{CallKind}
use Rattle.slub_core.specs.declared.call.CallKind.TheVariants.{Alloc, Free, Write, Read, Poke, Trim, Flush}
use Rattle.slub_core.specs.declared.local.Known.{Known}
use Rattle.slub_core.specs.declared.spot.Spot.{Spot}
use Rattle.slub_core.specs.declared.spot.Spot.TheVariants.{Between}
use Rattle.slub_core.specs.Calls.{call_kind, call_cpu, call_cache, call_object, call_place}
use Rattle.slub_core.specs.Setup.{Setup}
use Rattle.slub_core.specs.World.{World}
use Rattle.slub_core.specs.Local.{Local, Worker, nobody, no_call, here, call_of}
use Rattle.slub_core.specs.Steps.{told_of_alloc, told_of_trim, told_at_once, cache_for, first_spot, first_cpu, begun_call, begun_with, begun_at, begun}
use Rattle.slub_core.specs.Spots.{doing, is_freeing}
use Rattle.slub_core.specs.Replies.{names_object, given_in, freed_in, asked_in, dry_in, Later}
use Rattle.slub_core.specs.Accounted.{had, public, place_of, known_of, CallFits, NamesCache, IsTold, HasWritten, IsAccounted}
use Rattle.slub_core.specs.Law.{TakesStep}
use Rattle.slub_core.proofs.MayBegin.{MayBegin, MayBeginFirst, may_begin}
use Rattle.slub_core.proofs.Among.{sum_by-middle, All-middle, All-back}
use Rattle.slub_core.proofs.Accounts.{Accounts}
use Rattle.slub_core.proofs.TaleStep.{told-later}
use Rattle.slub_core.proofs.TaleQuiet.{told_like}
use Rattle.slub_core.proofs.TaleReplies.{told-of}
use Rattle.slub_core.proofs.TaleSpots.{unseen-same}

-- ---- the begin of a call

first-doing : (k : CallKind) (c h : Bool) → doing (first_spot k c h) ≡ Some k
first-doing Alloc false h = refl
first-doing Alloc true h = refl
first-doing Free c false = refl
first-doing Free false true = refl
first-doing Free true true = refl
first-doing Write false h = refl
first-doing Write true h = refl
first-doing Read false h = refl
first-doing Read true h = refl
first-doing Poke c h = refl
first-doing Trim c h = refl
first-doing Flush c h = refl

first-freeing : (k : CallKind) (c h : Bool) → is_freeing (first_spot k c h) ≡ true → h ≡ true
first-freeing Alloc false h is = absurd (false≢true is)
first-freeing Alloc true h is = absurd (false≢true is)
first-freeing Free c false is = absurd (false≢true is)
first-freeing Free false true is = refl
first-freeing Free true true is = refl
first-freeing Write false h is = absurd (false≢true is)
first-freeing Write true h is = absurd (false≢true is)
first-freeing Read false h is = absurd (false≢true is)
first-freeing Read true h is = absurd (false≢true is)
first-freeing Poke c h is = absurd (false≢true is)
first-freeing Trim c h is = absurd (false≢true is)
first-freeing Flush c h is = absurd (false≢true is)

first-names : (k : CallKind) (c h : Bool) → is_freeing (first_spot k c h) ≡ true → names_object k ≡ true
first-names Alloc c h is = refl
first-names Free c h is = refl
first-names Write c h is = refl
first-names Read c h is = refl
first-names Poke c h is = refl
first-names Trim c h is = absurd (false≢true is)
first-names Flush c h is = absurd (false≢true is)

named-alloc : (cache : Option ℕ) → told_of_alloc cache ≡ None → cache ≡ Some (unwrap_or cache 0)
named-alloc None none = absurd (none-some _ (sym none))
named-alloc (Some k) none = refl

named-trim : (m : Setup) (cache : Option ℕ) → told_of_trim m cache ≡ None → cache ≡ Some (unwrap_or cache 0)
named-trim m None none = absurd (none-some _ (sym none))
named-trim m (Some k) none = refl

-- the cache of the call is the one that it names
names-first : (m : Setup) (known : Known) (n : Local) (call : Call) (kind : CallKind) → call_of n ≡ call → n.cache ≡ cache_for m known (call_cache call) kind → n.cpu ≡ first_cpu kind (call_cpu call) → told_at_once m known call kind ≡ None → NamesCache n kind
names-first m known n call Alloc is cache cpu none = (ap (λ (c : Call). call_cache c) is ∙ named-alloc (call_cache call) none ∙ ap Some (sym cache), ap (λ (c : Call). call_cpu c) is ∙ sym cpu)
names-first m known n call Free is cache cpu none = tt
names-first m known n call Write is cache cpu none = tt
names-first m known n call Read is cache cpu none = tt
names-first m known n call Poke is cache cpu none = tt
names-first m known n call Trim is cache cpu none = ap (λ (c : Call). call_cache c) is ∙ named-trim m (call_cache call) none ∙ ap Some (sym cache)
names-first m known n call Flush is cache cpu none = tt

kind-same : {a b : CallKind} → Some a ≡ Some b → a ≡ b
kind-same e = cc

-- a call that takes a step begins
pub told_begun : (opening w : World) (fast : Bool) (x : Worker) (others : List Worker) (call : Call) (calls : List Call) → x.local.spot ≡ Between → x.local.todo ≡ call ∷ calls → MayBegin w.setup x.local call
    → told_at_once w.setup (get_or x.local.known (call_place call) nobody) call (call_kind call) ≡ None → IsAccounted opening w (x ∷ others) → IsAccounted opening w (record x { local = begun_call w.setup fast x.local call } ∷ others)
told_begun opening w fast x others call calls is todo may none ac =
    let l = x.local in
    let m = w.setup in
    let n = begun_call m fast l call in
    let known = get_or l.known (call_place call) nobody in
    let tale = told-of opening w x others ac in
    let mine : call_of n ≡ call = ap (λ cs. get_or cs 0 no_call) todo in
    let fits = All-head (CallFits m l.known) call calls (subst (All (CallFits m l.known)) todo tale.fits) in
    let object : names_object (call_kind call) ≡ true → (here n).object ≡ call_object call = may.known in
    let knew : names_object (call_kind call) ≡ true → known_of l.known (here n).object ≡ here n = λ names. ap (λ q. get_or l.known q nobody) (ap (place_of l.known) (object names) ∙ sym (fits.place names)) in
    told_like opening w w x (record x { local = n }) others ac (unseen-same w) (record {
      known = refl;
      done = refl;
      todo = refl;
      freeing = λ f. absurd (false≢true (rw is at f));
      frees = λ f. absurd (false≢true (rw is at f));
      source = λ f. inl (sym (tale.holds (here n).object (λ g. absurd (false≢true (rw is at g)))) ∙ ap (λ (k : Known). k.held) (knew (first-names (call_kind call) _ known.held f)) ∙ first-freeing (call_kind call) _ known.held f);
      call = λ kind e. let same : call_kind call ≡ kind = kind-same (sym (first-doing (call_kind call) _ known.held) ∙ e) in (
        record {
          some = rw todo (omega arith);
          same_kind = ap (λ (c : Call). call_kind c) mine ∙ same;
          object = λ names. ap (λ (c : Call). call_object c) mine ∙ sym (object (ap names_object same ∙ names));
          place = ap (λ (c : Call). call_place c) (sym mine);
        },
        subst (NamesCache n) same (names-first m known n call (call_kind call) mine refl refl none),
      );
    })

-- a worker between two calls begins its next one
pub told_begin : (fast : Bool) (opening w : World) (x : Worker) (others : List Worker) → (x.local.spot ≡ Between → TakesStep w.setup x.local x.local.todo) → IsAccounted opening w (x ∷ others) → Accounts opening w others (begun w.setup fast x.local)
told_begin fast opening w x others rested ac = by_spot x.local.spot refl
  where
    by_todo : (calls : List Call) → x.local.todo ≡ calls → x.local.spot ≡ Between → MayBeginFirst w.setup x.local calls → TakesStep w.setup x.local calls → Accounts opening w others (begun_with w.setup fast x.local calls)
    by_todo [] e is may takes = (x, refl, ac)
    by_todo (call ∷ calls) e is may takes = (record x { local = begun_call w.setup fast x.local call }, refl, told_begun opening w fast x others call calls is e may takes ac)

    by_spot : (spot : Spot) → x.local.spot ≡ spot → Accounts opening w others (begun_at w.setup fast x.local spot)
    by_spot Between is = by_todo x.local.todo refl is (may_begin opening w x others ac) (rested is)
    by_spot _ is = (x, refl, ac)

-- ---- the order of the workers

same_sums : (opening w : World) (xs ys : List Worker) → ((f : Worker → ℕ) → sum_by f ys ≡ sum_by f xs) → ((P : Worker → Type 0) → All P xs → All P ys) → IsAccounted opening w xs → IsAccounted opening w ys
same_sums opening w xs ys sums all ac =
    let later : Later (public w xs) (public w ys) = record {
      boarded = λ o. omega arith;
      freed = λ o. let e = sums (λ (x : Worker). freed_in o x.local.done) in omega arith;
      tid = λ n. omega arith;
    } in
    record {
      setup = ac.setup;
      tids = ac.tids;
      within = ac.within;
      stands = ac.stands;
      count = λ o. let a = sums (λ (x : Worker). had o x.local) in let b = sums (λ (x : Worker). given_in o x.local.done) in let was = ac.count o in omega arith;
      once = λ o. let a = sums (λ (x : Worker). asked_in o x.local.todo) in let b = sums (λ (x : Worker). given_in o x.local.done) in let was = ac.once o in omega arith;
      few = (let a = sums (λ (x : Worker). length x.local.done + length x.local.todo) in let was = ac.few.0 in omega arith, ac.few.1);
      dry = λ order. let a = sums (λ (x : Worker). dry_in w.setup order x.local.done) in let was = ac.dry order in omega arith;
      told = all (λ (o : Worker). IsTold w.setup opening.board (public w ys) o.local)
          (All-weaker (λ (o : Worker). IsTold w.setup opening.board (public w xs) o.local) (λ (o : Worker). IsTold w.setup opening.board (public w ys) o.local) (λ o. told-later w.setup opening.board _ _ o.local later) xs ac.told);
      written = all (λ (o : Worker). HasWritten w opening.board o.local) ac.written;
    }

pub accounted_to_front : (opening w : World) (front back : List Worker) (x : Worker) → IsAccounted opening w (front ++ x ∷ back) → IsAccounted opening w (x ∷ (front ++ back))
accounted_to_front opening w front back x ac = same_sums opening w (front ++ x ∷ back) (x ∷ (front ++ back)) (λ f. sym (sum_by-middle f front back x)) (λ P. All-middle P front back x) ac

pub accounted_from_front : (opening w : World) (front back : List Worker) (x : Worker) → IsAccounted opening w (x ∷ (front ++ back)) → IsAccounted opening w (front ++ x ∷ back)
accounted_from_front opening w front back x ac = same_sums opening w (x ∷ (front ++ back)) (front ++ x ∷ back) (λ f. sum_by-middle f front back x) (λ P. All-back P front back x) ac
