-- The turns of a try, and where they lead.
use Rattle.std.proofs.Common.{◌≡◌, ◌≢◌, ℕ, ◌+◌, ◌-◌, ◌%◌, ◌^◌, Bool, true, false, ◌||◌, ◌==◌, if◌then◌else◌, List, [], ◌∷◌, ◌++◌, length, nat_lt, get_or, Option, Some, None, refl, sym, ap, ◌∙◌, subst, arith, append_assoc, inl, inr}
use Rattle.std.proofs.Math.Nat.{mod-add-mod}
use Rattle.std.proofs.lemmas.Bool.{cases_Bool, eq-eqb, ne_eqb}
use Rattle.slub_object_layout.specs.Layout.{address_of}
use Rattle.slub_words.specs.declared.cpu.CpuWord.{CpuWord}
use Rattle.slub_words.specs.Words.{cpu_bits}
use Rattle.slub_trace.specs.declared.reply.Reply.{Reply}
use Rattle.slub_trace.specs.declared.reply.Reply.TheVariants as reply
use Rattle.slub_core.specs.declared.call.Call.{Call}
use Rattle.slub_core.specs.declared.call.CallKind.TheVariants.{Alloc}
use Rattle.slub_core.specs.declared.local.Answered.{Answered}
use Rattle.slub_core.specs.declared.step.Step.{Step}
use Rattle.slub_core.specs.declared.step.Answer.{Answer}
use Rattle.slub_core.specs.declared.step.Answer.TheVariants.{Word, Won, Lost}
use Rattle.slub_core.specs.declared.spot.Spot.{Spot}
use Rattle.slub_core.specs.declared.spot.Spot.TheVariants.{Between, InAlloc}
use Rattle.slub_core.specs.declared.spot.AllocSpot.TheVariants.{LoadCpu, LoadNext, Pop}
use Rattle.slub_core.specs.Setup.{Setup}
use Rattle.slub_core.specs.Words.{cpu_in, answer_of}
use Rattle.slub_core.specs.Alloc.{is_spent, found_at}
use Rattle.slub_core.specs.Local.{Local, nobody, no_call, at, gets, answered, call_of}
use Rattle.slub_core.specs.Steps.{step_of, advance_of, told_at_once, or_step, rested_with, rested}
use Rattle.slub_core.specs.Facts.{Facts, cache_of}
use Rattle.slub_core.specs.Ways.{is_spent_by}
use Rattle.slub_core.specs.declared.guarded.Guarded.{Guarded}
use Rattle.slub_core.specs.declared.guarded.Guarded.TheVariants.{Nothing}
use Rattle.slub_core.specs.Calls.{call_kind, call_cpu, call_cache, call_place}
use Rattle.slub_core.specs.Values.{values_of, rooms_of}
use Rattle.slub_workers.specs.declared.fast.Fast.TheVariants.{Given, Empty, Moved, IdsSpent}
use Rattle.slub_workers.specs.Begun.{Begun}
use Rattle.slub_workers.specs.Locks.{move_of, values_moved}
use Rattle.slub_workers.specs.Standing.{Standing, counted, begun_in, step_in, after_turn, all_guarded}
use Rattle.slub_workers.specs.Rule.{setup_in}
use Rattle.slub_workers.specs.Sits.{HasTurned}
use Rattle.slub_workers.specs.Turns.{after_turns, IsAnswered, IsUnanswered}
use Rattle.slub_workers.specs.Try.{MayTry, steps_of_try, met_by_try, fast_answer, HasTried}
use Rattle.slub_workers.proofs.StepValues.{all_guarded_is}

-- ---- replies that take no step come on top of those that there are

abbrev Grows : Local → Local → Type 0
Grows after before = (after.spot ≡ before.spot) × ((more : List Answered) × (after.done ≡ more ++ before.done))

or_grows : (l : Local) (more : Reply → Local) (r : Option Reply) → ((reply : Reply) → Grows (more reply) l) → Grows (or_step l more r) l
or_grows l more None g = (refl, ([], refl))
or_grows l more (Some reply) g = g reply

rested_grows : (m : Setup) (calls : List Call) (l : Local) → Grows (rested_with m calls l) l
rested_grows m [] l = (refl, ([], refl))
rested_grows m (call ∷ calls) l =
    or_grows l (λ reply. rested_with m calls (answered l reply)) (told_at_once m (get_or l.known (call_place call) nobody) call (call_kind call))
    (λ reply.
    let g = rested_grows m calls (answered l reply) in
    let one : List Answered = record { call = call_of l; reply = reply } ∷ [] in
    (g.0, (g.1.0 ++ one, g.1.1 ∙ sym (append_assoc g.1.0 one l.done))))

-- ---- a try is noted

pub has_tried : (b : Bool) → (b || true) ≡ true
has_tried true = refl
has_tried false = refl

-- ---- a turn that takes no lock

same_values : (x : Standing) → all_guarded (rooms_of x.values) (values_of x.values) ≡ x.values
same_values x = all_guarded_is x.values (rooms_of x.values) (values_of x.values) refl refl

-- where it leads, by where its call has begun
abbrev turn_at : Setup → Standing → Local → ℕ → Guarded → Bool → Standing
turn_at m x l found value refused =
    let step = step_of m (values_of x.values) l in
    let values = values_moved (move_of step found) value x.values in
    let c = advance_of m refused (values_of values) l (answer_of step.op found) in
    record { local = c.local; values = all_guarded (rooms_of values) c.value; tried = x.tried || true; answer = answer_of step.op found; steps = counted x.steps 1 }

-- a try leaves what the worker has in hand
abbrev pub stands : Standing → Local → Answer → Standing
stands x l a = record { local = l; values = x.values; tried = x.tried || true; answer = a; steps = counted x.steps 1 }

module _ (m : Setup) (x : Standing) (may : MayTry m x.local) where
  -- where it has begun
  abbrev pub entered : Local
  entered = record x.local { spot = InAlloc LoadCpu; cache = may.cache; cpu = call_cpu may.call; place = call_place may.call; fast = true; turn = 0; count = 0 }

  pub begins : begun_in m true x ≡ entered
  begins = rw (may.between, may.next, may.kind, may.names, may.plain) refl

  -- ---- it loads the CPU word

  abbrev pub loaded_at : ℕ → Spot → Local
  loaded_at w spot = record entered { cpu_word = cpu_in w; spot = spot }

  module _ (w : ℕ) (value : Guarded) (refused : Bool) where
    enters : after_turn m true x w value refused ≡ turn_at m x entered w value refused
    enters = ap (λ (l : Local). turn_at m x l w value refused) begins

    pub finds_spent : is_spent m (cpu_in w) ≡ true → after_turn m true x w value refused ≡ stands x (loaded_at w Between) (Word w)
    finds_spent e = enters ∙ rw (e, may.next, may.kind, may.names, same_values x) refl

    pub finds_none : is_spent m (cpu_in w) ≡ false → ((cpu_in w).head == 0) ≡ true → after_turn m true x w value refused ≡ stands x (loaded_at w Between) (Word w)
    finds_none e z = enters ∙ rw (e, z, may.next, may.kind, may.names, same_values x) refl

    pub finds_some : is_spent m (cpu_in w) ≡ false → ((cpu_in w).head == 0) ≡ false → after_turn m true x w value refused ≡ stands x (loaded_at w (InAlloc LoadNext)) (Word w)
    finds_some e z = enters ∙ rw (e, z, same_values x) refl

  -- ---- it loads the free pointer

  abbrev pub next_at : ℕ → ℕ → Spot → Local
  next_at w n spot =
      let c = cpu_in w in record (loaded_at w spot) { next = found_at m may.cache c.frame (c.head - 1) n; spot = spot }

  abbrev pub has_loaded : ℕ → Standing
  has_loaded w = stands x (loaded_at w (InAlloc LoadNext)) (Word w)

  abbrev pub has_next : ℕ → ℕ → Standing
  has_next w n = stands (has_loaded w) (next_at w n (InAlloc Pop)) (Word n)

  pub finds_next : (w n : ℕ) (value : Guarded) (refused : Bool) → after_turn m true (has_loaded w) n value refused ≡ has_next w n
  finds_next w n value refused = rw (same_values x) refl

  -- ---- it takes the object off

  abbrev pub has_object : ℕ → ℕ → Local
  has_object w n =
      let c = cpu_in w in
      rested m (answered (at (gets (next_at w n (InAlloc Pop)) may.cache c.frame (c.head - 1)) Between) (reply.Given (address_of c.frame (c.head - 1) (m.layout may.cache))))

  pub wins : (w n found : ℕ) (value : Guarded) (refused : Bool) → (found == cpu_bits (cpu_in w)) ≡ true → after_turn m true (has_next w n) found value refused ≡ stands (has_next w n) (has_object w n) Won
  wins w n found value refused e = rw (e, same_values x) refl

  pub loses : (w n found : ℕ) (value : Guarded) (refused : Bool) → (found == cpu_bits (cpu_in w)) ≡ false → after_turn m true (has_next w n) found value refused ≡ stands (has_next w n) (next_at w n Between) (Lost found)
  loses w n found value refused e = rw (e, may.next, may.kind, may.names, same_values x) refl

  -- ---- what it meets, what it answers, and what becomes of its call

  module _ (w next found : ℕ) where
    pub leads_spent : is_spent m (cpu_in w) ≡ true → after_turns m true x (met_by_try m w next found) ≡ stands x (loaded_at w Between) (Word w)
    leads_spent e = rw e (finds_spent w Nothing false e)

    pub leads_none : is_spent m (cpu_in w) ≡ false → ((cpu_in w).head == 0) ≡ true → after_turns m true x (met_by_try m w next found) ≡ stands x (loaded_at w Between) (Word w)
    leads_none e z = rw (e, z) (finds_none w Nothing false e z)

    pub leads_some : is_spent m (cpu_in w) ≡ false → ((cpu_in w).head == 0) ≡ false → after_turns m true x (met_by_try m w next found) ≡ after_turn m true (has_next w next) found Nothing false
    leads_some e z =
        let first = ap (λ (y : Standing). after_turn m true (after_turn m true y next Nothing false) found Nothing false) (finds_some w Nothing false e z) in
        let second = ap (λ (y : Standing). after_turn m true y found Nothing false) (finds_next w next Nothing false) in
        rw (e, z) (first ∙ second)

    pub answers_spent : is_spent m (cpu_in w) ≡ true → fast_answer m may.cache w found ≡ IdsSpent (cpu_in w).tid
    answers_spent e = rw e refl

    pub answers_none : is_spent m (cpu_in w) ≡ false → ((cpu_in w).head == 0) ≡ true → fast_answer m may.cache w found ≡ Empty w
    answers_none e z = rw (e, z) refl

    pub answers_won : is_spent m (cpu_in w) ≡ false → ((cpu_in w).head == 0) ≡ false → (found == w) ≡ true
        → fast_answer m may.cache w found ≡ Given (address_of (cpu_in w).frame ((cpu_in w).head - 1) (m.layout may.cache))
    answers_won e z is = rw (e, z, is) refl

    pub answers_lost : is_spent m (cpu_in w) ≡ false → ((cpu_in w).head == 0) ≡ false → (found == w) ≡ false → fast_answer m may.cache w found ≡ Moved found
    answers_lost e z is = rw (e, z, is) refl

    pub steps_spent : is_spent m (cpu_in w) ≡ true → steps_of_try m w ≡ 1
    steps_spent e = rw e refl

    pub steps_none : is_spent m (cpu_in w) ≡ false → ((cpu_in w).head == 0) ≡ true → steps_of_try m w ≡ 1
    steps_none e z = rw (e, z) refl

    pub steps_some : is_spent m (cpu_in w) ≡ false → ((cpu_in w).head == 0) ≡ false → steps_of_try m w ≡ 3
    steps_some e z = rw (e, z) refl

  pub stays_next : (y : Standing) (w : ℕ) → y ≡ stands x (loaded_at w Between) (Word w) → IsUnanswered x.local y.local
  stays_next y w is = record {
    between = ap (λ (y : Standing). y.local.spot) is;
    todo = ap (λ (y : Standing). y.local.todo) is;
    done = ap (λ (y : Standing). y.local.done) is;
  }

  pub stays_lost : (u : Standing) (w n found : ℕ) → u ≡ stands (has_next w n) (next_at w n Between) (Lost found) → IsUnanswered x.local u.local
  stays_lost u w n found is = record {
    between = ap (λ (y : Standing). y.local.spot) is;
    todo = ap (λ (y : Standing). y.local.todo) is;
    done = ap (λ (y : Standing). y.local.done) is;
  }

  pub is_given : (u : Standing) (w n : ℕ) → u ≡ stands (has_next w n) (has_object w n) Won
      → IsAnswered x.local (reply.Given (address_of (cpu_in w).frame ((cpu_in w).head - 1) (m.layout may.cache))) u.local
  is_given u w n is =
      let c = cpu_in w in
      let l : Local = answered (at (gets (next_at w n (InAlloc Pop)) may.cache c.frame (c.head - 1)) Between) (reply.Given (address_of c.frame (c.head - 1) (m.layout may.cache))) in
      let g = rested_grows m l.todo l in
      record {
        between = ap (λ (y : Standing). y.local.spot) is ∙ g.0;
        more = g.1.0;
        done = ap (λ (y : Standing). y.local.done) is ∙ g.1.1;
      }

-- ---- the word that it compares with is the one that it loaded

bits_of : (w : ℕ) → cpu_bits (cpu_in w) ≡ w
unfolding cpu_in
bits_of w = omega arith

abbrev word_in : Answer → ℕ
word_in (Word w) = w
word_in (Lost w) = w
word_in _ = 0

-- ---- three steps more

thrice : (steps : ℕ) → counted (counted (counted steps 1) 1) 1 ≡ counted steps 3
thrice steps = mod-add-mod ((steps + 1) % 2 ^ 64 + 1) (2 ^ 64) 1 ∙ ap (λ (n : ℕ). n % 2 ^ 64) (sum ((steps + 1) % 2 ^ 64)) ∙ mod-add-mod (steps + 1) (2 ^ 64) 2 ∙ ap (λ (n : ℕ). n % 2 ^ 64) (more steps)
  where
    sum : (n : ℕ) → n + 1 + 1 ≡ n + 2
    sum n = omega arith

    more : (n : ℕ) → n + 1 + 2 ≡ n + 3
    more n = omega arith

-- ---- the try

module _ (key : Begun) (facts : Facts) (same : key.facts ≡ facts) (x : Standing) (may : MayTry (setup_in key) x.local) (made : Step × Answer) (y : Standing) (h : HasTurned key true x made y)
    (word : CpuWord) (noted : word ≡ y.local.cpu_word) where
  abbrev m : Setup
  m = setup_in key

  abbrev w : ℕ
  w = h.found

  turned : (s : Spot) × (after_turn m true x w h.value h.refused ≡ stands x (loaded_at m x may w s) (Word w))
  turned = elim (cases_Bool (is_spent m (cpu_in w))) [
    | inl e ↦ (Between, finds_spent m x may w h.value h.refused e)
    | inr e ↦ elim (cases_Bool ((cpu_in w).head == 0)) [
      | inl z ↦ (Between, finds_none m x may w h.value h.refused e z)
      | inr z ↦ (InAlloc LoadNext, finds_some m x may w h.value h.refused e z)
    ]
  ]

  word_is : word ≡ cpu_in w
  word_is = noted ∙ ap (λ (y : Standing). y.local.cpu_word) (h.leads ∙ turned.1)

  -- of the call that it tries
  pub cache_is : (cache : ℕ) → cache ≡ y.local.cache → cache ≡ may.cache
  cache_is cache is = is ∙ ap (λ (y : Standing). y.local.cache) (h.leads ∙ turned.1)

  spent_is : is_spent_by facts.step word ≡ is_spent m (cpu_in w)
  spent_is = ap (λ (f : Facts). is_spent_by f.step word) (sym same) ∙ ap (λ (c : CpuWord). is_spent m c) word_is

  head_is : word.head ≡ (cpu_in w).head
  head_is = ap (λ (c : CpuWord). c.head) word_is

  answers_word : made.1 ≡ Word w
  answers_word =
      h.answer ∙ ap (λ (s : Step). answer_of s.op w) h.step ∙ ap (λ (l : Local). answer_of (step_of m (values_of x.values) l).op w) (begins m x may)

  pub is_word : (a : Answer) → made.1 ≡ a → a ≡ Word w
  is_word a is = sym is ∙ answers_word

  pub tried_spent : is_spent_by facts.step word ≡ true → HasTried key may.cache x (IdsSpent word.tid) y
  tried_spent is =
      let e = sym spent_is ∙ is in
      record {
        loaded = w;
        next = 0;
        found = 0;
        answers = ap (λ (c : CpuWord). IdsSpent c.tid) word_is ∙ sym (answers_spent m x may w 0 0 e);
        leads = h.leads ∙ finds_spent m x may w h.value h.refused e ∙ sym (leads_spent m x may w 0 0 e);
        told = stays_next m x may y w (h.leads ∙ finds_spent m x may w h.value h.refused e);
        steps = ap (λ (y : Standing). y.steps) (h.leads ∙ finds_spent m x may w h.value h.refused e) ∙ ap (counted x.steps) (sym (steps_spent m x may w 0 0 e));
      }

  pub tried_none : is_spent_by facts.step word ≡ false → word.head ≡ 0 → (loaded : ℕ) → made.1 ≡ Word loaded → HasTried key may.cache x (Empty loaded) y
  tried_none is none loaded told =
      let e = sym spent_is ∙ is in
      let z = eq-eqb (cpu_in w).head 0 (sym head_is ∙ none) in
      record {
        loaded = w;
        next = 0;
        found = 0;
        answers = ap Empty (ap word_in (sym told ∙ answers_word)) ∙ sym (answers_none m x may w 0 0 e z);
        leads = h.leads ∙ finds_none m x may w h.value h.refused e z ∙ sym (leads_none m x may w 0 0 e z);
        told = stays_next m x may y w (h.leads ∙ finds_none m x may w h.value h.refused e z);
        steps = ap (λ (y : Standing). y.steps) (h.leads ∙ finds_none m x may w h.value h.refused e z) ∙ ap (counted x.steps) (sym (steps_none m x may w 0 0 e z));
      }

  -- where it goes on

  pub goes_next : is_spent_by facts.step word ≡ false → word.head ≢ 0 → y.local.spot ≡ InAlloc LoadNext
  goes_next is some =
      let unspent : is_spent m (cpu_in w) ≡ false = sym spent_is ∙ is in
      let filled : ((cpu_in w).head == 0) ≡ false = ne_eqb (cpu_in w).head 0 (λ e. some (head_is ∙ e)) in
      ap (λ (u : Standing). u.local.spot) (h.leads ∙ finds_some m x may w h.value h.refused unspent filled)

  pub goes_pop : is_spent_by facts.step word ≡ false → word.head ≢ 0 → (second : Step × Answer) (z : Standing) → HasTurned key true y second z → z.local.spot ≡ InAlloc Pop
  goes_pop is some second z g =
      let unspent : is_spent m (cpu_in w) ≡ false = sym spent_is ∙ is in
      let filled : ((cpu_in w).head == 0) ≡ false = ne_eqb (cpu_in w).head 0 (λ e. some (head_is ∙ e)) in
      ap (λ (u : Standing). u.local.spot)
      (g.leads ∙ ap (λ (u : Standing). after_turn m true u g.found g.value g.refused) (h.leads ∙ finds_some m x may w h.value h.refused unspent filled) ∙ finds_next m x may w g.found g.value g.refused)

  module _ (is : is_spent_by facts.step word ≡ false) (some : word.head ≢ 0) (second third : Step × Answer) (z u : Standing) (g : HasTurned key true y second z) (f : HasTurned key true z third u) where
    unspent : is_spent m (cpu_in w) ≡ false
    unspent = sym spent_is ∙ is

    filled : ((cpu_in w).head == 0) ≡ false
    filled = ne_eqb (cpu_in w).head 0 (λ e. some (head_is ∙ e))

    has : z ≡ has_next m x may w g.found
    has =
        g.leads ∙ ap (λ (y : Standing). after_turn m true y g.found g.value g.refused) (h.leads ∙ finds_some m x may w h.value h.refused unspent filled) ∙ finds_next m x may w g.found g.value g.refused

    now : u ≡ after_turn m true (has_next m x may w g.found) f.found f.value f.refused
    now = f.leads ∙ ap (λ (y : Standing). after_turn m true y f.found f.value f.refused) has

    answers : third.1 ≡ (if f.found == cpu_bits (cpu_in w) then Won else Lost f.found)
    answers = f.answer ∙ ap (λ (s : Step). answer_of s.op f.found) f.step ∙ ap (λ (y : Standing). answer_of (step_in m true y).op f.found) has

    three : (y : Standing) → y.steps ≡ counted (counted (counted x.steps 1) 1) 1 → y.steps ≡ counted x.steps (steps_of_try m w)
    three y is = is ∙ thrice x.steps ∙ ap (counted x.steps) (sym (steps_some m x may w g.found f.found unspent filled))

    compared : (f.found == w) ≡ (f.found == cpu_bits (cpu_in w))
    compared = ap (λ (n : ℕ). f.found == n) (sym (bits_of w))

    moved : (f.found == cpu_bits (cpu_in w)) ≡ false → HasTried key may.cache x (Moved f.found) u
    moved away =
        let lost = now ∙ loses m x may w g.found f.found f.value f.refused away in
        record {
          loaded = w;
          next = g.found;
          found = f.found;
          answers = sym (answers_lost m x may w g.found f.found unspent filled (compared ∙ away));
          leads = lost ∙ sym (leads_some m x may w g.found f.found unspent filled ∙ loses m x may w g.found f.found Nothing false away);
          told = stays_lost m x may u w g.found f.found lost;
          steps = three u (ap (λ (y : Standing). y.steps) lost);
        }

    given : (f.found == cpu_bits (cpu_in w)) ≡ true → HasTried key may.cache x (Given (address_of (cpu_in w).frame ((cpu_in w).head - 1) (m.layout may.cache))) u
    given won =
        let won_so = now ∙ wins m x may w g.found f.found f.value f.refused won in
        record {
          loaded = w;
          next = g.found;
          found = f.found;
          answers = sym (answers_won m x may w g.found f.found unspent filled (compared ∙ won));
          leads = won_so ∙ sym (leads_some m x may w g.found f.found unspent filled ∙ wins m x may w g.found f.found Nothing false won);
          told = is_given m x may u w g.found won_so;
          steps = three u (ap (λ (y : Standing). y.steps) won_so);
        }

    pub tried_lost : (found : ℕ) → third.1 ≡ Lost found → HasTried key may.cache x (Moved found) u
    tried_lost found lost = elim (cases_Bool (f.found == cpu_bits (cpu_in w))) [
      | inl won ↦ absurd (let e : Won ≡ Lost found = sym (answers ∙ rw won refl) ∙ lost in cc e)
      | inr away ↦ (let e : Lost f.found ≡ Lost found = sym (answers ∙ rw away refl) ∙ lost in subst (λ (n : ℕ). HasTried key may.cache x (Moved n) u) (ap word_in e) (moved away))
    ]

    pub tried_won : ((found : ℕ) → third.1 ≢ Lost found) → (cache address : ℕ) → cache ≡ y.local.cache → address ≡ address_of word.frame (word.head - 1) (cache_of facts cache).layout → HasTried key may.cache x (Given address) u
    tried_won never cache address of is = elim (cases_Bool (f.found == cpu_bits (cpu_in w))) [
      | inl won ↦ subst (λ (n : ℕ). HasTried key may.cache x (Given n) u) (sym (is ∙ here)) (given won)
      | inr away ↦ absurd (never f.found (answers ∙ rw away refl))
    ]
      where
        here : address_of word.frame (word.head - 1) (cache_of facts cache).layout ≡ address_of (cpu_in w).frame ((cpu_in w).head - 1) (m.layout may.cache)
        here =
            ap (λ (c : CpuWord). address_of c.frame (c.head - 1) (cache_of facts cache).layout) word_is ∙ ap (λ (k : ℕ). address_of (cpu_in w).frame ((cpu_in w).head - 1) (cache_of facts k).layout) (cache_is cache of)
            ∙ ap (λ (g : Facts). address_of (cpu_in w).frame ((cpu_in w).head - 1) (cache_of g may.cache).layout) (sym same)

-- ---- when it may be tried

pub may_be_tried : (key : Begun) (facts : Facts) → key.facts ≡ facts → (l : Local) (call : Call) (cache : ℕ) → l.spot ≡ Between → nat_lt 0 (length l.todo) ≡ true → call ≡ call_of l → call_kind call ≡ Alloc → call_cache call ≡ Some cache
    → (cache_of facts cache).checks ≡ false → MayTry (setup_in key) l
may_be_tried key facts same l call cache between some is kind names plain = by_todo l.todo refl
  where
    by_todo : (calls : List Call) → l.todo ≡ calls → MayTry (setup_in key) l
    by_todo [] e = absurd (let none : nat_lt 0 0 ≡ true = ap (λ (calls : List Call). nat_lt 0 (length calls)) (sym e) ∙ some in cc none)
    by_todo (first ∷ more) e =
        let here : call ≡ first = is ∙ ap (λ (calls : List Call). get_or calls 0 no_call) e in
        record {
          cache = cache;
          call = first;
          more = more;
          between = between;
          next = e;
          kind = ap (λ (c : Call). call_kind c) (sym here) ∙ kind;
          names = ap (λ (c : Call). call_cache c) (sym here) ∙ names;
          plain = ap (λ (f : Facts). (cache_of f cache).checks) same ∙ plain;
        }
