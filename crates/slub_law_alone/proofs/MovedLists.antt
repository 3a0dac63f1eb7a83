-- A CPU's partial list that is taken, slabs of it that go to the node list, and a slab that takes their place: what rests in the lists then.
use Rattle.std.proofs.Common.{◌≡◌, ℕ, zero, suc, ◌+◌, ◌-◌, ◌<◌, ◌≤◌, ◌&&◌, eqb, cond, Bool, true, false, List, [], ◌∷◌, ◌++◌, length, get_or, set, Option, Some, None, inl, inr, refl, ap, sym, ◌∙◌, subst, arith}
use Rattle.std.specs.Prelude.{nat_lt, is_some}
use Rattle.std.proofs.lemmas.Bool.{cases_eq, eq-eqb, ne_eqb, lt-ltb}
use Rattle.std.proofs.lemmas.List.{get_or-set_same, get_or-set_other, set-set}
use Rattle.slub_common.specs.Times.{times}
use Rattle.slub_common.proofs.Times.{times-push}
use Rattle.slub_words.specs.declared.slab.SlabWord.{SlabWord}
use Rattle.slub_cpu_partial.specs.declared.words.ListWord.{ListWord}
use Rattle.slub_lists.specs.declared.lists.Slab.{Slab}
use Rattle.slub_lists.specs.declared.lists.CpuLists.{CpuLists}
use Rattle.slub_lists.specs.State.{State}
use Rattle.slub_lists.specs.Alloc.{cache_of, checked_of, cpu_place, lists_of, node_of}
use Rattle.slub_core.specs.declared.step.Step.{Step}
use Rattle.slub_core.specs.declared.step.Answer.{Answer}
use Rattle.slub_core.specs.Setup.{Setup, cpu_number, node_lock}
use Rattle.slub_object_layout.specs.Layout.{order_for}
use Rattle.slub_core.specs.Words.{number_of, after_op, answer_of, list_in}
use Rattle.slub_core.specs.World.{World, LockValue, Node, update, pointer, IsChain, Links, one_if, frames_in, size_in, order_in, objects_in_values, cache_in_values, order_in_values}
use Rattle.slub_core.specs.Fresh.{IsWorded}
use Rattle.slub_core.specs.Local.{Local, Turn, Change, noted, goes, stays}
use Rattle.slub_core.specs.Run.{System, idle, after_step, turn}
use Rattle.slub_core.specs.Steps.{step_of, advance_at, advance_of, at_once, settled, changed, rested, begun}
use Rattle.slub_core.proofs.Lists.{times-first}
use Rattle.slub_core.proofs.Packed.{IsListFit, IsSlabFit}
use Rattle.slub_core.proofs.Update.{update_same, update_other, update_at, each_updated}
use Rattle.slub_law_opening.specs.Opening.{Beside, cpu_at, value_of, node_value}
use Rattle.slub_law_opening.specs.Rests.{IsCpuOf, Rests, slab_at}
use Rattle.slub_law_alone.specs.Alone.{own_pick}
use Rattle.slub_law_alone.proofs.CpuWords.{cpu_changed, cpu_other}
use Rattle.slub_law_alone.proofs.Turns.{machine}
use Rattle.slub_calls.proofs.ChangeNumbers.{cpu_here}

-- ---- marks

pub no_head : (a b c d : Bool) → c ≡ false → a && b && c && d ≡ false
no_head true true c d e = ap (λ h. h && d) e
no_head true false c d e = refl
no_head false b c d e = refl

pub list_zero : list_in 0 ≡ record { front = 0; count = 0 }
unfolding list_in
list_zero = refl

-- ---- a turn that changes what a lock guards

abbrev by_step : Setup → List ℕ → (ℕ → LockValue) → List Local → ℕ → Local → Step → System
by_step m words value ls x l step =
    let n = number_of m step.place in
    let q = get_or words n 0 in
    let c = advance_of m false value l (answer_of step.op q) in
    record { words = set words n (after_op step.op q); value = c.value; locals = set ls x c.local }

pub turn_changes : (m : Setup) (words after : List ℕ) (value then' : ℕ → LockValue) (ls : List Local) (x : ℕ) (l next : Local) (step : Step) (a : Answer) → x < length ls → begun m false l ≡ l → step_of m value l ≡ step
    → set words (number_of m step.place) (after_op step.op (get_or words (number_of m step.place) 0)) ≡ after → answer_of step.op (get_or words (number_of m step.place) 0) ≡ a
    → advance_of m false value l a ≡ stays then' next → turn m (machine words value (set ls x l)) (own_pick x) ≡ machine after then' (set ls x next)
turn_changes m words after value then' ls x l next step a below begin steps moves answers leads =
    let s : System = machine words value (set ls x l) in
    let n = number_of m step.place in
    let q = get_or words n 0 in
    ap (λ l. after_step m false s x (begun m false l)) (get_or-set_same ls x l idle below)
    ∙ ap (after_step m false s x) begin
    ∙ ap (by_step m words value (set ls x l) x l) steps
    ∙ ap (λ a. by_change n q (advance_of m false value l a)) answers
    ∙ ap (by_change n q) leads
    ∙ ap (λ ws. machine ws then' (set (set ls x l) x next)) moves
    ∙ ap (machine after then') (set-set ls x l next)
  where
    by_change : ℕ → ℕ → Change → System
    by_change n q c = record { words = set words n (after_op step.op q); value = c.value; locals = set (set ls x l) x c.local }

-- two things are done at once
pub settle_twice : (m : Setup) (value then' : ℕ → LockValue) (l mid between next : Local) (a : Answer) → advance_at m value l l.spot a ≡ goes mid → at_once m false value mid mid.spot ≡ stays then' between → at_once m false then' between between.spot ≡ stays then' next → rested m next ≡ next
    → advance_of m false value l a ≡ stays then' next
settle_twice m value then' l mid between next a leads first second rests =
    ap by_turn leads ∙ ap (λ c. end (changed m false c)) first ∙ ap end second ∙ ap (stays then') rests
  where
    end : Change → Change
    end c = record { value = c.value; local = rested m (noted c.local c.reply); reply = None }

    by_turn : Turn → Change
    by_turn t = end (settled m false (record { value = value; local = t.local; reply = t.reply }))

-- ---- a slab is pushed

links_apart : (link : ℕ → ℕ) (g v front : ℕ) (fs : List ℕ) (end : ℕ) → times g fs ≡ 0 → Links link front fs end → Links (update link g v) front fs end
links_apart link g v front [] end none is = is
links_apart link g v front (f ∷ fs) end none is =
    let c = times-first g f fs in
    let d : f ≡ g → ⊥ = λ e. absurd (let o : one_if (eqb f g) ≡ 1 = ap one_if (eq-eqb f g e) in omega arith) in
    (is.0, subst (λ h. Links (update link g v) h fs end) (sym (update_other link g v f d)) (links_apart link g v (link f) fs end (omega arith) is.1))

module _ (s : State) (b : Beside) (w : World) (ls : List Local) (k c f front count : ℕ) (is_front : (w.list (cpu_number k c)).front ≡ front) (is_count : (w.list (cpu_number k c)).count + 1 ≡ count) where
  abbrev pub lists : CpuLists
  lists = record (lists_of s k c) { partial = f ∷ (lists_of s k c).partial }

  abbrev pub t : State
  t = record s { cpu_lists = set s.cpu_lists (cpu_place s k c) lists }

  abbrev pub word : ListWord
  word = record { front = f; count = count }

  abbrev pub v : World
  v = record w { list = update w.list (cpu_number k c) word; link = update w.link f front }

  -- the slab is on no list: so each link that leads to another slab stays
  cpus_pushed : c < s.cpus → s.cpus ≤ 16 → cpu_place s k c < length s.cpu_lists → ((n : ℕ) → n < 512 → IsCpuOf b w n (cpu_at s n)) → ((n : ℕ) → times f (cpu_at s n).partial ≡ 0) → (n : ℕ) → n < 512 → IsCpuOf b v n (cpu_at t n)
  cpus_pushed below few inside old apart n small = elim (cases_eq n (cpu_number k c)) [
    | inl e ↦ subst (λ j. IsCpuOf b v j (cpu_at t j)) (sym e) (subst (IsCpuOf b v (cpu_number k c)) (sym (cpu_changed s k c lists below few inside)) (at_it (subst (λ j. j < 512) e small)))
    | inr away ↦ subst (IsCpuOf b v n) (sym (cpu_other s k c lists n below few away)) (elsewhere away)
  ]
    where
      at_it : cpu_number k c < 512 → IsCpuOf b v (cpu_number k c) lists
      at_it small =
          let m = cpu_number k c in
          let was = subst (IsCpuOf b w m) (cpu_here s k c below few) (old m small) in
          let off = subst (λ (x : CpuLists). times f x.partial ≡ 0) (cpu_here s k c below few) (apart m) in
          let here = update_same w.list m word in
          let mine = links_apart w.link f front (w.list m).front (lists_of s k c).partial 0 off was.partial in
          let linked = subst (λ h. Links (update w.link f front) h (lists_of s k c).partial 0) (is_front ∙ sym (update_same w.link f front)) mine in
          record {
            tid = was.tid;
            current = was.current;
            free = was.free;
            count = ap (λ (z : ListWord). z.count) here ∙ (let q = was.count in omega (arith, q, is_count));
            partial = subst (λ (z : ListWord). Links (update w.link f front) z.front (f ∷ (lists_of s k c).partial) 0) (sym here) (refl, linked);
          }

      elsewhere : (n ≡ cpu_number k c → ⊥) → IsCpuOf b v n (cpu_at s n)
      elsewhere away =
          let was = old n small in
          let there = update_other w.list (cpu_number k c) word n away in
          let mine = links_apart w.link f front (w.list n).front (cpu_at s n).partial 0 (apart n) was.partial in
          record {
            tid = was.tid;
            current = was.current;
            free = was.free;
            count = ap (λ (z : ListWord). z.count) there ∙ was.count;
            partial = subst (λ (z : ListWord). Links (update w.link f front) z.front (cpu_at s n).partial 0) (sym there) mine;
          }

  -- a list word with the link of its new front: all else rests as it did
  pub rests_pushed : Rests s b w ls → IsWorded v → c < s.cpus → s.cpus ≤ 16 → cpu_place s k c < length s.cpu_lists → ((n : ℕ) → times f (cpu_at s n).partial ≡ 0) → Rests t b v ls
  rests_pushed rests worded below few inside apart = record {
    setup = rests.setup;
    words = worded;
    workers = rests.workers;
    locks = rests.locks;
    values = rests.values;
    nodes = rests.nodes;
    cpu = cpus_pushed below few inside rests.cpu apart;
    slab = rests.slab;
    unchecked = rests.unchecked;
    unslabbed = rests.unslabbed;
    own = λ g. record { chain = (rests.own g).chain; in_use = (rests.own g).in_use };
    listed = rests.listed;
    named = rests.named;
    once = rests.once;
    no_zero = rests.no_zero;
    contents = rests.contents;
  }

-- ---- a CPU's partial list is taken

module _ (s : State) (b : Beside) (w : World) (ls : List Local) (k c : ℕ) where
  abbrev pub emptied : CpuLists
  emptied = record (lists_of s k c) { partial = [] }

  abbrev pub t3 : State
  t3 = record s { cpu_lists = set s.cpu_lists (cpu_place s k c) emptied }

  abbrev pub none : ListWord
  none = record { front = 0; count = 0 }

  abbrev pub v3 : World
  v3 = record w { list = update w.list (cpu_number k c) none }

  cpus_emptied : c < s.cpus → s.cpus ≤ 16 → cpu_place s k c < length s.cpu_lists → ((n : ℕ) → n < 512 → IsCpuOf b w n (cpu_at s n)) → (n : ℕ) → n < 512 → IsCpuOf b v3 n (cpu_at t3 n)
  cpus_emptied below few inside old n small = elim (cases_eq n (cpu_number k c)) [
    | inl q ↦ subst (λ j. IsCpuOf b v3 j (cpu_at t3 j)) (sym q) (subst (IsCpuOf b v3 (cpu_number k c)) (sym (cpu_changed s k c emptied below few inside)) (at_it (subst (λ j. j < 512) q small)))
    | inr away ↦ subst (IsCpuOf b v3 n) (sym (cpu_other s k c emptied n below few away)) (elsewhere away)
  ]
    where
      at_it : cpu_number k c < 512 → IsCpuOf b v3 (cpu_number k c) emptied
      at_it small =
          let m = cpu_number k c in
          let was = subst (IsCpuOf b w m) (cpu_here s k c below few) (old m small) in
          let here = update_same w.list m none in
          record {
            tid = was.tid;
            current = was.current;
            free = was.free;
            count = ap (λ (z : ListWord). z.count) here;
            partial = ap (λ (z : ListWord). z.front) here;
          }

      elsewhere : (n ≡ cpu_number k c → ⊥) → IsCpuOf b v3 n (cpu_at s n)
      elsewhere away =
          let was = old n small in
          let there = update_other w.list (cpu_number k c) none n away in
          record {
            tid = was.tid;
            current = was.current;
            free = was.free;
            count = ap (λ (z : ListWord). z.count) there ∙ was.count;
            partial = subst (λ (z : ListWord). Links w.link z.front (cpu_at s n).partial 0) (sym there) was.partial;
          }

  -- its slabs are on no list then: all else rests as it did
  pub rests_emptied : Rests s b w ls → c < s.cpus → s.cpus ≤ 16 → cpu_place s k c < length s.cpu_lists → Rests t3 b v3 ls
  rests_emptied rests below few inside = record {
    setup = rests.setup;
    words = record {
      cpu = rests.words.cpu;
      slab = rests.words.slab;
      list = each_updated w.list (cpu_number k c) none (λ _ (d : ListWord). IsListFit d) (omega arith, omega arith) (λ i d. rests.words.list i);
      link = rests.words.link;
      room = rests.words.room;
      remainder = rests.words.remainder;
    };
    workers = rests.workers;
    locks = rests.locks;
    values = rests.values;
    nodes = rests.nodes;
    cpu = cpus_emptied below few inside rests.cpu;
    slab = rests.slab;
    unchecked = rests.unchecked;
    unslabbed = rests.unslabbed;
    own = λ g. record { chain = (rests.own g).chain; in_use = (rests.own g).in_use };
    listed = rests.listed;
    named = rests.named;
    once = rests.once;
    no_zero = rests.no_zero;
    contents = rests.contents;
  }

-- ---- a slab goes to the node list

-- but for its mark a slab's word is the same
pub record IsKept (c d : SlabWord) : Type 0 where
  pub head : d.head ≡ c.head
  pub inuse : d.inuse ≡ c.inuse
  pub objects : d.objects ≡ c.objects
  pub cache : d.cache ≡ c.cache
  pub frozen : d.frozen ≡ c.frozen

-- what locks guard has the same slabs of checked caches
objects_same : (value after : ℕ → LockValue) (f : ℕ) → ((n : ℕ) → size_in (after n) f ≡ size_in (value n) f) → (n : ℕ) → objects_in_values after n f ≡ objects_in_values value n f
objects_same value after f size zero = refl
objects_same value after f size (suc n) = λ i. cond (nat_lt 0 (size n i)) (size n i) (objects_same value after f size n i)

cache_same : (value after : ℕ → LockValue) (f : ℕ) → ((n : ℕ) → size_in (after n) f ≡ size_in (value n) f) → (n : ℕ) → cache_in_values after n f ≡ cache_in_values value n f
cache_same value after f size zero = refl
cache_same value after f size (suc n) = λ i. cond (nat_lt 0 (size n i)) (n - 1) (cache_same value after f size n i)

order_same : (value after : ℕ → LockValue) (f : ℕ) → ((n : ℕ) → size_in (after n) f ≡ size_in (value n) f) → ((n : ℕ) → order_in (after n) f ≡ order_in (value n) f) → (n : ℕ) → order_in_values after n f ≡ order_in_values value n f
order_same value after f size order zero = refl
order_same value after f size order (suc n) = λ i. cond (nat_lt 0 (size n i)) (order n i) (order_same value after f size order n i)

pub slab_same : (w v : World) (f : ℕ) → v.setup ≡ w.setup → IsKept (w.slab f) (v.slab f) → ((n : ℕ) → size_in (v.value n) f ≡ size_in (w.value n) f) → ((n : ℕ) → order_in (v.value n) f ≡ order_in (w.value n) f) → slab_at v f ≡ slab_at w f
slab_same w v f setup kept size order =
    ap (λ (m : Setup). slab_at (record v { setup = m }) f) setup
    ∙ (λ i. by
    (cond (nat_lt 0 (kept.objects i)) (kept.objects i) (objects_same w.value v.value f size w.setup.locks i))
    (cond (nat_lt 0 (kept.objects i)) (kept.cache i) (cache_same w.value v.value f size w.setup.locks i))
    (cond (nat_lt 0 (kept.objects i)) (order_for (w.setup.layout (kept.cache i)) (kept.objects i)) (order_same w.value v.value f size order w.setup.locks i))
    (kept.frozen i))
  where
    by : ℕ → ℕ → ℕ → Bool → Option Slab
    by o k d z = cond (nat_lt 0 o) (Some (record { cache = k; order = d; objects = o; frozen = z })) None

module _ (s : State) (b : Beside) (w : World) (ls : List Local) (k e : ℕ) where
  abbrev pub fs : List ℕ
  fs = node_of s k ++ e ∷ []

  abbrev pub t1 : State
  t1 = record s { nodes = set s.nodes k fs }

  abbrev pub marked : SlabWord
  marked = record (w.slab e) { listed = true }

  abbrev pub v1 : World
  v1 = record w { slab = update w.slab e marked; value = update w.value (node_lock k) (Node fs) }

  kept : (f : ℕ) → IsKept (w.slab f) (update w.slab e marked f)
  kept = each_updated w.slab e marked (λ f (d : SlabWord). IsKept (w.slab f) d) (record { head = refl; inuse = refl; objects = refl; cache = refl; frozen = refl }) (λ f away. record { head = refl; inuse = refl; objects = refl; cache = refl; frozen = refl })

  next_is : node_lock k ≡ suc k
  next_is = omega arith

  -- the slab is the tail of the node list, and its word is marked
  module _ (rests : Rests s b w ls) (inside : k < length s.nodes) (lock_inside : k < 32) (lives : is_some (cache_of s k) ≡ true) (plain : checked_of s k ≡ None) (own_cache : (w.slab e).cache ≡ k) where
    node_t : node_of t1 k ≡ fs
    node_t = get_or-set_same s.nodes k fs [] inside

    node_here : value_of t1 (node_lock k) ≡ Node fs
    node_here = ap (value_of t1) next_is ∙ ap (λ z. node_value z (checked_of s k) (node_of t1 k)) lives ∙ ap (λ c. node_value true c (node_of t1 k)) plain ∙ ap Node node_t

    node_was : w.value (node_lock k) ≡ Node (node_of s k)
    node_was = rests.values (node_lock k) (omega (arith, lock_inside)) ∙ ap (value_of s) next_is ∙ ap (λ z. node_value z (checked_of s k) (node_of s k)) lives ∙ ap (λ c. node_value true c (node_of s k)) plain

    other : (n : ℕ) → (n ≡ node_lock k → ⊥) → value_of s n ≡ value_of t1 n
    other zero away = refl
    other (suc j) away = ap (node_value (is_some (cache_of s j)) (checked_of s j)) (sym (get_or-set_other s.nodes k j fs [] (λ q. away (omega (arith, q)))))

    values_are : (n : ℕ) → n < 33 → update w.value (node_lock k) (Node fs) n ≡ value_of t1 n
    values_are n below = elim (cases_eq n (node_lock k)) [
      | inl q ↦ update_at w.value (node_lock k) (Node fs) n q ∙ sym node_here ∙ ap (value_of t1) (sym q)
      | inr away ↦ update_other w.value (node_lock k) (Node fs) n away ∙ rests.values n below ∙ other n away
    ]

    nodes_are : (cache : ℕ) → node_of t1 cache ≡ frames_in (value_of t1 (node_lock cache))
    nodes_are cache = elim (cases_eq cache k) [
      | inl q ↦ subst (λ c. node_of t1 c ≡ frames_in (value_of t1 (node_lock c))) (sym q) (node_t ∙ sym (ap frames_in node_here))
      | inr away ↦ get_or-set_other s.nodes k cache fs [] away ∙ rests.nodes cache ∙ ap frames_in (other (node_lock cache) (λ q. away (omega (arith, q))))
    ]

    size_is : (f n : ℕ) → size_in (update w.value (node_lock k) (Node fs) n) f ≡ size_in (w.value n) f
    size_is f n = elim (cases_eq n (node_lock k)) [
      | inl q ↦ ap (λ x. size_in x f) (update_at w.value (node_lock k) (Node fs) n q) ∙ sym (ap (λ x. size_in x f) (ap w.value q ∙ node_was))
      | inr away ↦ ap (λ x. size_in x f) (update_other w.value (node_lock k) (Node fs) n away)
    ]

    order_is : (f n : ℕ) → order_in (update w.value (node_lock k) (Node fs) n) f ≡ order_in (w.value n) f
    order_is f n = elim (cases_eq n (node_lock k)) [
      | inl q ↦ ap (λ x. order_in x f) (update_at w.value (node_lock k) (Node fs) n q) ∙ sym (ap (λ x. order_in x f) (ap w.value q ∙ node_was))
      | inr away ↦ ap (λ x. order_in x f) (update_other w.value (node_lock k) (Node fs) n away)
    ]

    pushed : (f : ℕ) → (f ≡ e → ⊥) → times f fs ≡ times f (node_of s k)
    pushed f away =
        let p = times-push f e (node_of s k) in
        let z : cond {A = ℕ} (eqb e f) 1 0 ≡ 0 = ap (λ h. cond {A = ℕ} h 1 0) (ne_eqb e f (λ q. away (sym q))) in
        omega (arith, p, z)

    abbrev is_on : ℕ → ℕ → Bool
    is_on f j = nat_lt 0 (times f (node_of t1 j))

    listed_is : (f : ℕ) → (update w.slab e marked f).listed ≡ is_on f (update w.slab e marked f).cache
    listed_is f = elim (cases_eq f e) [
      | inl q ↦ subst (λ f. (update w.slab e marked f).listed ≡ is_on f (update w.slab e marked f).cache) (sym q)
          (ap (λ (z : SlabWord). z.listed) (update_same w.slab e marked) ∙ sym (ap (is_on e) ((kept e).cache ∙ own_cache) ∙ ap (λ xs. nat_lt 0 (times e xs)) node_t ∙ lt-ltb 0 (times e fs) at_tail))
      | inr away ↦ ap (λ (z : SlabWord). z.listed) (update_other w.slab e marked f away) ∙ rests.listed f ∙ nodes_f away ∙ ap (is_on f) (sym (kept f).cache)
    ]
      where
        at_tail : 0 < times e fs
        at_tail =
            let p = times-push e e (node_of s k) in
            let o : cond {A = ℕ} (eqb e e) 1 0 ≡ 1 = ap (λ h. cond {A = ℕ} h 1 0) (eq-eqb e e refl) in
            omega (arith, p, o)

        nodes_f : (f ≡ e → ⊥) → nat_lt 0 (times f (node_of s (w.slab f).cache)) ≡ is_on f (w.slab f).cache
        nodes_f away = elim (cases_eq (w.slab f).cache k) [
          | inl q ↦ ap (λ j. nat_lt 0 (times f (node_of s j))) q ∙ ap (nat_lt 0) (sym (pushed f away)) ∙ sym (ap (λ xs. nat_lt 0 (times f xs)) node_t) ∙ ap (is_on f) (sym q)
          | inr elsewhere ↦ ap (λ xs. nat_lt 0 (times f xs)) (sym (get_or-set_other s.nodes k (w.slab f).cache fs [] elsewhere))
        ]

    pub rests_listed : Rests t1 b v1 ls
    rests_listed = record {
      setup = rests.setup;
      words = record {
        cpu = rests.words.cpu;
        slab = each_updated w.slab e marked (λ _ (d : SlabWord). IsSlabFit d) (rests.words.slab e) (λ i d. rests.words.slab i);
        list = rests.words.list;
        link = rests.words.link;
        room = rests.words.room;
        remainder = rests.words.remainder;
      };
      workers = rests.workers;
      locks = rests.locks;
      values = values_are;
      nodes = nodes_are;
      cpu = λ n below. let c = rests.cpu n below in record { tid = c.tid; current = c.current; free = c.free; count = c.count; partial = c.partial };
      slab = λ f. rests.slab f ∙ sym (slab_same w v1 f refl (kept f) (size_is f) (order_is f));
      unchecked = λ f some. ap (checked_of s) (kept f).cache ∙ rests.unchecked f (subst (λ n. 1 ≤ n) (kept f).objects some);
      unslabbed = λ f none. (kept f).frozen ∙ rests.unslabbed f (sym (kept f).objects ∙ none);
      own = λ f. record {
        chain = subst (λ j. IsChain (pointer w j f) (update w.slab e marked f).head (get_or s.frees f [])) (sym (kept f).cache) (subst (λ h. IsChain (pointer w (w.slab f).cache f) h (get_or s.frees f [])) (sym (kept f).head) (rests.own f).chain);
        in_use = (let u = (rests.own f).in_use in omega (arith, u, (kept f).inuse, (kept f).objects));
      };
      listed = listed_is;
      named = rests.named;
      once = rests.once;
      no_zero = rests.no_zero;
      contents = rests.contents;
    }
