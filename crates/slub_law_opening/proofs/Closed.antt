-- A machine in which all stands, and whose workers are between two calls, rests in lists that are in order.
use Rattle.std.proofs.Common.{◌≡◌, ◌≢◌, ℕ, zero, suc, ◌+◌, ◌-◌, ◌*◌, ◌/◌, ◌<◌, ◌≤◌, ◌&&◌, cond, eqb, Bool, true, false, List, [], ◌∷◌, length, get_or, Option, Some, None, IsSome, inl, inr, refl, ap, sym, ◌∙◌, subst, arith}
use Rattle.std.specs.Prelude.{nat_lt, IfSome, All, IsTrue, ◌↔◌}
use Rattle.std.proofs.lemmas.Bool.{cases_eq, cases_lt, false≢true, eq-eqb, ne_eqb, cond-true, cond-false, lt-ltb, le-ltb}
use Rattle.std.proofs.lemmas.List.{get_or_past}
use Rattle.std.proofs.lemmas.List.Elements.{All-from_get_or, All-contains_itself, All-contains}
use Rattle.slub_common.specs.Times.{times}
use Rattle.slub_words.specs.declared.slab.SlabWord.{SlabWord}
use Rattle.slub_lists.specs.declared.lists.Slab.{Slab}
use Rattle.slub_lists.specs.declared.lists.CpuLists.{CpuLists}
use Rattle.slub_lists.specs.State.{State}
use Rattle.slub_lists.specs.Alloc.{slab_of, own_free, lists_of, node_of, no_lists}
use Rattle.slub_lists.specs.Coherent.{IsPlaced, IsFramed, IsListed, IsKept, if_current, times_current, times_partial, covered_from}
use Rattle.slub_core.specs.Setup.{Setup, node_lock}
use Rattle.slub_core.specs.Local.{Worker}
use Rattle.slub_core.specs.World.{World, Chains, IsChain, Links, frames_in, pool_in, pool_of, objects_at, one_if, sum_below, live, off_list}
use Rattle.slub_core.specs.Listed.{IsStocked, home_of, on_lists, covered_by, frame_roles}
use Rattle.slub_core.specs.declared.local.Hand.{Hand}
use Rattle.slub_core.specs.declared.local.PartialString.{PartialString}
use Rattle.slub_core.specs.Spots.{Role, roles}
use Rattle.slub_core.specs.Fresh.{IsAtWork, AreHands, IsStringOf}
use Rattle.slub_core.specs.Coherent.{Stands}
use Rattle.slub_core.proofs.StepValues.{word-objects, word-cache}
use Rattle.slub_core.proofs.Pigeon.{sum_below-none}
use Rattle.slub_law_opening.specs.Opening.{Beside, cpu_at}
use Rattle.slub_law_opening.specs.Rests.{IsBetween, Rests}
use Rattle.slub_law_opening.proofs.Sums.{positive-term}
use Rattle.slub_law_opening.proofs.Cpus.{HasCpus, cpu-sum, number-block}
use Rattle.slub_law_opening.proofs.Counts.{HasCounts, LeadsTo, IsSeen, locals_of, workers-none, slab-none, slab-some, object-same, places-same, currents-same, lists-same, covered}
use Rattle.slub_law_opening.proofs.Words.{chain-none, chain-some}
use Rattle.slub_law_opening.proofs.Standing.{no_worker, local-in, narrow}
use Rattle.slub_law_opening.proofs.Workers.{IsBare, no-home, no-run}

-- ---- a chain and a string are one list

pub chain-same : (next : ℕ → ℕ) (head : ℕ) (xs ys : List ℕ) → IsChain next head xs → IsChain next head ys → xs ≡ ys
chain-same next head [] [] a c = refl
chain-same next head [] (z ∷ ys) a c = absurd (omega (arith, a, c.0))
chain-same next head (x ∷ xs) [] a c = absurd (omega (arith, a.0, c))
chain-same next head (x ∷ xs) (z ∷ ys) a c =
    let e : x ≡ z = omega (arith, a.0, c.0) in
    let rest = chain-same next (next x) xs ys a.1 (subst (λ i. IsChain next (next i) ys) (sym e) c.1) in
    λ i. e i ∷ rest i

pub string-same : (link : ℕ → ℕ) (front : ℕ) (xs ys : List ℕ) → length xs ≡ length ys → Links link front xs 0 → Links link front ys 0 → xs ≡ ys
string-same link front [] [] long a c = refl
string-same link front [] (z ∷ ys) long a c = absurd (omega arith)
string-same link front (x ∷ xs) [] long a c = absurd (omega arith)
string-same link front (x ∷ xs) (z ∷ ys) long a c =
    let e : x ≡ z = sym a.0 ∙ c.0 in
    let rest = string-same link (link x) xs ys (omega arith) a.1 (subst (λ i. Links link (link i) ys 0) (sym e) c.1) in
    λ i. e i ∷ rest i

-- ---- workers between two calls have no chain and no string

pub bare-worker : (m : Setup) (w : World) (x : Worker) → IsBetween m x.local → IsAtWork w x → IsBare x
bare-worker m w x between work = record {
  chains = go x.chains (subst (λ hs. Shape hs x.chains) between.hands (shape (roles x.local.spot (length x.local.hands)) x.local.hands x.chains work.spot.hands));
  string = subst (λ o. Held o) between.string work.spot.string;
}
  where
    Shape : List Hand → List (List ℕ) → Type 0
    Shape hs cs = length hs ≡ length cs

    Held : Option PartialString → Type 0
    Held o = IsStringOf o x.string

    shape : (rs : List Role) (hs : List Hand) (cs : List (List ℕ)) → AreHands rs hs cs → length hs ≡ length cs
    shape [] [] [] a = refl
    shape [] [] (c ∷ cs) a = absurd a
    shape [] (h ∷ hs) [] a = absurd a
    shape [] (h ∷ hs) (c ∷ cs) a = absurd a
    shape (r ∷ rs) [] [] a = absurd a
    shape (r ∷ rs) [] (c ∷ cs) a = absurd a
    shape (r ∷ rs) (h ∷ hs) [] a = absurd a
    shape (r ∷ rs) (h ∷ hs) (c ∷ cs) a = let e = shape rs hs cs a.5 in omega arith

    go : (cs : List (List ℕ)) → Shape [] cs → cs ≡ []
    go [] e = refl
    go (c ∷ cs) e = absurd (omega arith)

pub bare-workers : (w : World) (xs : List Worker) → All (IsBetween w.setup) (locals_of xs) → All (IsAtWork w) xs → All IsBare xs
bare-workers w xs between work = All-from_get_or IsBare xs no_worker (λ i below.
    let x = get_or xs i no_worker in
    let is = All-contains_itself xs i no_worker below in
    bare-worker w.setup w x (All-contains (IsBetween w.setup) (locals_of xs) x.local between (local-in xs x is)) (All-contains (IsAtWork w) xs x work is))

-- ---- lists by numbers of CPU words

pub lists-number : (t : State) (k c : ℕ) → HasCpus t → c < t.cpus → (P : CpuLists → Type 0) → P no_lists → ((n : ℕ) → n < 512 → n / 16 ≡ k → P (cpu_at t n)) → P (lists_of t k c)
lists-number t k c has below P none some = elim (cases_lt k 32) [
  | inl l ↦ (
      let q = number-block k c (omega (arith, has.few.1)) in
      let at : cpu_at t (k * 16 + c) ≡ lists_of t k c =
      ap (λ z. cond (nat_lt z t.cpus) (lists_of t ((k * 16 + c) / 16) z) no_lists) q.1 ∙ (ap (λ z. cond (nat_lt c t.cpus) (lists_of t z c) no_lists) q.0 ∙ cond-true (nat_lt c t.cpus) (lists_of t k c) no_lists (lt-ltb c t.cpus below)) in
      subst P at (some (k * 16 + c) (omega (arith, has.few.1)) q.0))
  | inr g ↦ subst P (sym (get_or_past t.cpu_lists (k * t.cpus + c) no_lists (let m = mono 32 k t.cpus g in omega (arith, has.length, m)))) none
]
  where
    mono : (a d n : ℕ) → a ≤ d → a * n ≤ d * n
    mono a d n le = let t : d * n ≡ (a + (d - a)) * n = ap (λ z. z * n) (let q : d ≡ a + (d - a) = omega arith in q) in omega arith

module _ (t : State) (b : Beside) (w : World) (xs : List Worker) (long : HasCounts t) (stands : Stands w xs) (rests : Rests t b w (locals_of xs)) where
  abbrev pub y : Chains
  y = stands.chains

  cpu_words : w.setup.cpu_words ≡ 512
  cpu_words = ap (λ (m : Setup). m.cpu_words) rests.setup

  locks : w.setup.locks ≡ 33
  locks = ap (λ (m : Setup). m.locks) rests.setup

  frames : w.setup.frames ≡ t.frames
  frames = ap (λ (m : Setup). m.frames) rests.setup

  inside : (n : ℕ) → n < 512 → n < w.setup.cpu_words
  inside n l = omega (arith, l, cpu_words)

  pub bare : All IsBare xs
  bare = bare-workers w xs rests.workers stands.fresh.workers

  pub leads : LeadsTo t stands.chains
  leads = record {
    own = λ f. chain-same _ (w.slab f).head (stands.chains.own f) (own_free t f) (stands.placed.own_chain f) (rests.own f).chain;
    cpu = λ n below. chain-same _ (w.cpu n).head (stands.chains.cpu n) (cpu_at t n).free (stands.placed.cpu_chain n (inside n below)) (rests.cpu n below).free;
    list = λ n below. string-same w.link (w.list n).front (stands.chains.list n) (cpu_at t n).partial (sym (stands.listed.shaped.count n (inside n below)) ∙ (rests.cpu n below).count) (stands.listed.shaped.string n (inside n below)) (rests.cpu n below).partial;
  }

  no-frame : (n : ℕ) → n < 512 → (cpu_at t n).current ≡ None → (w.cpu n).frame ≡ 0
  no-frame n below none = elim (cases_eq (w.cpu n).frame 0) [
    | inl z ↦ z
    | inr d ↦ absurd (cc (none, (rests.cpu n below).current, cond-false (eqb (w.cpu n).frame 0) None (Some (w.cpu n).frame) (ne_eqb (w.cpu n).frame 0 d)))
  ]

  pub is-frame : (n f : ℕ) → n < 512 → (cpu_at t n).current ≡ Some f → ((w.cpu n).frame ≡ f) × (f ≢ 0)
  is-frame n f below some = elim (cases_eq (w.cpu n).frame 0) [
    | inl z ↦ absurd (cc (some, (rests.cpu n below).current, cond-true (eqb (w.cpu n).frame 0) None (Some (w.cpu n).frame) (eq-eqb (w.cpu n).frame 0 z)))
    | inr d ↦ (
        let e = injected (sym (cond-false (eqb (w.cpu n).frame 0) None (Some (w.cpu n).frame) (ne_eqb (w.cpu n).frame 0 d)) ∙ sym (rests.cpu n below).current ∙ some) in
        (e, λ z. d (e ∙ z)))
  ]
    where
      injected : {x y : ℕ} → Some x ≡ Some y → x ≡ y
      injected e = cc

  pub empty : (n : ℕ) → n < 512 → (cpu_at t n).current ≡ None → (cpu_at t n).free ≡ []
  empty n below none = chain-none _ (w.cpu n).head (cpu_at t n).free (rests.cpu n below).free (stands.listed.shaped.bare n (inside n below) (no-frame n below none))

  pub seen : (f : ℕ) (x : Slab) → slab_of t f ≡ Some x → IsSeen w f x
  seen f x e = slab-some t b w stands.chains xs long rests leads empty f x e

  pub unseen : (f : ℕ) → slab_of t f ≡ None → objects_at w f ≡ 0
  unseen f e = slab-none t b w stands.chains xs long rests leads empty f e

  currents : (f : ℕ) → f ≢ 0 → sum_below w.setup.cpu_words (λ n. one_if (eqb (w.cpu n).frame f)) ≡ times_current t f
  currents f some = currents-same t b w stands.chains xs long rests leads empty f some

  listing : (f : ℕ) → on_lists w stands.chains f ≡ times_partial t f
  listing f = lists-same t b w stands.chains xs long rests leads empty f

  -- ---- objects and frames

  pub closed-placed : IsPlaced t
  closed-placed f i =
      sym (places-same t b w stands.chains xs long rests leads empty f i) ∙ stands.placed.once f i ∙ object-same t b w stands.chains xs long rests leads empty f i

  pub closed-framed : IsFramed t
  closed-framed g =
      let a = workers-none (λ (x : Worker). covered_by g x.local.run) w.setup xs (no-run g w.setup) rests.workers bare in
      let c = covered t b w stands.chains xs long rests leads empty g in
      let p : times g (pool_of w).free ≡ times g t.pool.free = ap (λ v. times g (pool_in v).free) (rests.values 0 (omega arith)) in
      let e : times g t.pool.free + covered_from g 0 t.slabs ≡ frame_roles w xs g = omega arith in
      e ∙ stands.listed.framed g ∙ ap (λ n. one_if (nat_lt 0 g && nat_lt g n)) frames

  -- ---- lists

  pub zero-listed : times_partial t 0 ≡ 0
  zero-listed = sym (listing 0) ∙ stands.listed.shaped.no_lists

  zero-current : times_current t 0 ≡ 0
  zero-current =
      sym (cpu-sum t w.setup.cpu_words (λ x. if_current 0 1 x.current) refl long.cpus cpu_words)
      ∙ sum_below-none w.setup.cpu_words (λ n. if_current 0 1 (cpu_at t n).current) (λ n below. none n (narrow n w.setup.cpu_words below cpu_words) (cpu_at t n).current refl)
    where
      none : (n : ℕ) → n < 512 → (o : Option ℕ) → (cpu_at t n).current ≡ o → if_current 0 1 o ≡ 0
      none n below None e = refl
      none n below (Some f) e = cond-false {A = ℕ} (eqb f 0) 1 0 (ne_eqb f 0 (is-frame n f below e).1)

  in-roles : (f : ℕ) → f ≢ 0 → times_current t f + times_partial t f + off_list (w.slab f) ≡ live (w.slab f)
  in-roles f some =
      let a = workers-none (home_of f) w.setup xs (no-home f w.setup) rests.workers bare in
      let c = currents f some in
      let d = listing f in
      let h = stands.listed.once f some in
      omega arith

  live-le : (c : SlabWord) → live c ≤ 1
  live-le c = le (nat_lt 0 c.objects)
    where
      le : (z : Bool) → one_if z ≤ 1
      le true = omega arith
      le false = omega arith

  objects-some : (c : SlabWord) → 1 ≤ live c → 1 ≤ c.objects
  objects-some c some = elim (cases_lt 0 c.objects) [ inl l ↦ l | inr g ↦ absurd (let z : live c ≡ 0 = ap one_if (le-ltb 0 c.objects g) in omega arith) ]

  -- a slab with a word
  pub word-slab : (f : ℕ) → 1 ≤ (w.slab f).objects → (x : Slab) × (slab_of t f ≡ Some x) × (x.cache ≡ (w.slab f).cache)
  word-slab f some = go (slab_of t f) refl
    where
      go : (o : Option Slab) → slab_of t f ≡ o → (x : Slab) × (slab_of t f ≡ Some x) × (x.cache ≡ (w.slab f).cache)
      go None e = absurd (let z = unseen f e in let o = word-objects w f some in omega arith)
      go (Some x) e = (x, e, sym (seen f x e).cache ∙ word-cache w f some)

  word-some : (k f : ℕ) → 1 ≤ (w.slab f).objects → (w.slab f).cache ≡ k → IfSome (slab_of t f) (λ slab. slab.cache ≡ k)
  word-some k f some own = let x = word-slab f some in subst (λ (o : Option Slab). IfSome o (λ slab. slab.cache ≡ k)) (sym x.1) (x.2 ∙ own)

  -- a head or the mark of a frozen slab tells that there is one
  pub has-head : (f : ℕ) → 1 ≤ (w.slab f).head → 1 ≤ (w.slab f).objects
  has-head f some = elim (cases_eq (w.slab f).objects 0) [ inl z ↦ absurd (let u = (stands.listed.shaped.unslabbed f z).0 in omega arith) | inr d ↦ omega arith ]

  pub has-frozen : (f : ℕ) → (w.slab f).frozen ≡ true → 1 ≤ (w.slab f).objects
  has-frozen f some = elim (cases_eq (w.slab f).objects 0) [ inl z ↦ absurd (false≢true (sym (stands.listed.shaped.unslabbed f z).1 ∙ some)) | inr d ↦ omega arith ]

  -- a slab on a list
  pub in-string : (n f : ℕ) → n < 512 → 1 ≤ times f (cpu_at t n).partial → IsStocked (w.slab f) (n / 16)
  in-string n f below some = (stands.listed.shaped.partial n f (inside n below) (subst (λ fs. 1 ≤ times f fs) (sym (leads.list n below)) some)).0

  pub in-node : (k f : ℕ) → k < 32 → 1 ≤ times f (node_of t k) → IsStocked (w.slab f) k
  in-node k f below some =
      let v = rests.values (node_lock k) (omega arith) in
      stands.listed.shaped.node k f (omega (arith, below, locks)) (subst (λ fs. 1 ≤ times f fs) (rests.nodes k ∙ sym (ap frames_in v)) some)

  on-list : (f : ℕ) → 0 < times_partial t f → (k : ℕ) × IsStocked (w.slab f) k
  on-list f some =
      let e = listing f in
      elim (cases_lt 0 (sum_below w.setup.cpu_words (λ n. times f (stands.chains.list n)))) [
        | inl l ↦ (let n = positive-term w.setup.cpu_words (λ n. times f (stands.chains.list n)) l in (n.0 / 16, (stands.listed.shaped.partial n.0 f n.1 n.2).0))
        | inr g ↦ (let n = positive-term w.setup.locks (λ n. times f (frames_in (w.value n))) (omega arith) in node n.0 n.1 n.2)
      ]
    where
      node : (n : ℕ) → n < w.setup.locks → 0 < times f (frames_in (w.value n)) → (k : ℕ) × IsStocked (w.slab f) k
      node zero below there = absurd (let z : times f (frames_in (w.value 0)) ≡ 0 = ap (λ v. times f (frames_in v)) (rests.values 0 (omega arith)) in omega arith)
      node (suc k) below there =
          let e : suc k ≡ node_lock k = omega arith in
          (k, stands.listed.shaped.node k f (omega (arith, below)) (subst (λ n. 1 ≤ times f (frames_in (w.value n))) e there))

  frozen-at : (f : ℕ) (x : Slab) → slab_of t f ≡ Some x → IsTrue x.frozen ↔ (0 < times_current t f)
  frozen-at f x e = (to, from)
    where
      is : IsSeen w f x
      is = seen f x e

      some : f ≢ 0
      some z = absurd (let o = is.objects in let s = is.some in let n : objects_at w f ≡ 0 = ap (objects_at w) z ∙ stands.listed.shaped.no_slab in omega arith)

      to : x.frozen ≡ true → 0 < times_current t f
      to frozen =
          let mark : (w.slab f).frozen ≡ true = is.frozen ∙ frozen in
          let objects = has-frozen f mark in
          let one : live (w.slab f) ≡ 1 = ap one_if (lt-ltb 0 (w.slab f).objects objects) in
          let off : off_list (w.slab f) ≡ 0 = cond-true {A = ℕ} (w.slab f).frozen 0 _ mark in
          elim (cases_lt 0 (times_partial t f)) [
            | inl l ↦ absurd (let k = on-list f l in false≢true (sym k.1.unfrozen ∙ mark))
            | inr g ↦ omega (arith, in-roles f some, one, off, g)
          ]

      from : 0 < times_current t f → x.frozen ≡ true
      from there =
          let n = positive-term w.setup.cpu_words (λ n. one_if (eqb (w.cpu n).frame f)) (omega (arith, currents f some, there)) in
          let at : (w.cpu n.0).frame ≡ f = is-it (w.cpu n.0).frame n.2 in
          let c = stands.listed.shaped.current n.0 n.1 (λ z. some (sym at ∙ z)) in
          sym is.frozen ∙ ap (λ g. (w.slab g).frozen) (sym at) ∙ c.1
        where
          is-it : (g : ℕ) → 0 < one_if (eqb g f) → g ≡ f
          is-it g there = elim (cases_eq g f) [ inl e ↦ e | inr d ↦ absurd (let z : one_if (eqb g f) ≡ 0 = ap one_if (ne_eqb g f d) in omega arith) ]

  pub closed-listed : IsListed t
  closed-listed = record {
    once = λ f. elim (cases_eq f 0) [
      | inl z ↦ subst (λ g. times_current t g + times_partial t g ≤ 1) (sym z) (let a = zero-current in let c = zero-listed in omega arith)
      | inr some ↦ omega (arith, in-roles f some, live-le (w.slab f))
    ];
    live = λ f there. elim (cases_eq f 0) [
      | inl z ↦ absurd (none f z there)
      | inr some ↦ (let x = word-slab f (objects-some (w.slab f) (omega (arith, in-roles f some, there))) in subst (λ (o : Option Slab). IsSome o) (sym x.1) refl)
    ];
    stocked = λ f there. (let k = on-list f there in chain-length f k.1.head);
    of_current = λ k c f below. lists-number t k c long.cpus below (λ l. l.current ≡ Some f → IfSome (slab_of t f) (λ slab. slab.cache ≡ k)) (λ e. absurd (cc e))
        (λ n small at e.
        let g = is-frame n f small e in
        let c = stands.listed.shaped.current n (inside n small) (λ z. g.1 (sym g.0 ∙ z)) in
        word-some k f (has-frozen f (ap (λ g. (w.slab g).frozen) (sym g.0) ∙ c.1)) (ap (λ g. (w.slab g).cache) (sym g.0) ∙ c.0 ∙ at));
    of_partial = λ k c f below. lists-number t k c long.cpus below (λ l. 0 < times f l.partial → IfSome (slab_of t f) (λ slab. slab.cache ≡ k)) (λ e. absurd (omega arith))
        (λ n small at e. (let s = in-string n f small e in word-some k f (has-head f s.head) (s.owner ∙ at)));
    of_node = λ k f there. elim (cases_lt k 32) [
      | inl l ↦ (let s = in-node k f l there in word-some k f (has-head f s.head) s.owner)
      | inr g ↦ absurd (let z : times f (node_of t k) ≡ 0 = ap (times f) (get_or_past t.nodes k [] (omega (arith, g, long.nodes))) in omega arith)
    ];
    frozen = λ f. by f (slab_of t f) refl;
  }
    where
      none : (f : ℕ) → f ≡ 0 → 0 < times_current t f + times_partial t f → ⊥
      none f z there = let a = zero-current in let c = zero-listed in let d : times_current t f + times_partial t f ≡ times_current t 0 + times_partial t 0 = ap (λ g. times_current t g + times_partial t g) z in omega arith

      chain-length : (f : ℕ) → 1 ≤ (w.slab f).head → 0 < length (own_free t f)
      chain-length f some = elim (cases_eq (length (own_free t f)) 0) [
        | inl z ↦ absurd (headless _ (own_free t f) (rests.own f).chain z)
        | inr d ↦ omega arith
      ]
        where
          headless : (next : ℕ → ℕ) (zs : List ℕ) → IsChain next (w.slab f).head zs → length zs ≡ 0 → ⊥
          headless next [] c z = omega arith
          headless next (x ∷ zs) c z = omega arith

      by : (f : ℕ) (o : Option Slab) → slab_of t f ≡ o → IfSome o (λ slab. IsTrue slab.frozen ↔ (0 < times_current t f))
      by f None e = tt
      by f (Some x) e = frozen-at f x e

  pub closed-kept : IsKept t
  closed-kept f there =
      let head : 1 ≤ (w.slab f).head = chain-some _ (w.slab f).head (own_free t f) (rests.own f).chain there in
      let objects = has-head f head in
      let some : f ≢ 0 = λ z. absurd (let o = word-objects w f objects in let n : objects_at w f ≡ 0 = ap (objects_at w) z ∙ stands.listed.shaped.no_slab in omega arith) in
      let one : live (w.slab f) ≡ 1 = ap one_if (lt-ltb 0 (w.slab f).objects objects) in
      omega (arith, in-roles f some, one, not-off (w.slab f) head)
    where
      not-off : (c : SlabWord) → 1 ≤ c.head → off_list c ≡ 0
      not-off c some = by c.frozen c.listed
        where
          by : (a m : Bool) → cond a 0 (cond m 0 (cond (eqb c.head 0) (live c) 0)) ≡ 0
          by true m = refl
          by false true = refl
          by false false = cond-false (eqb c.head 0) (live c) 0 (ne_eqb c.head 0 (λ z. absurd (omega arith)))
