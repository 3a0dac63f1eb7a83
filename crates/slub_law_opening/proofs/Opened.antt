-- An opened machine says what the lists say.
use Rattle.std.proofs.Common.{◌≡◌, ◌≢◌, ℕ, zero, suc, ◌+◌, ◌/◌, ◌^◌, ◌<◌, ◌≤◌, ◌&&◌, cond, eqb, Bool, true, false, List, [], ◌∷◌, length, get_or, Option, Some, None, IsSome, inl, inr, refl, ap, sym, ◌∙◌, subst, arith, sum_by}
use Rattle.std.specs.Prelude.{MatchOption, IfSome, nat_lt, is_some, option_map, All}
use Rattle.std.specs.Option.{option_or}
use Rattle.std.proofs.lemmas.Bool.{cases_eq, ne_eqb, cond-true, cond-false, lt-ltb, le-ltb}
use Rattle.std.proofs.lemmas.List.Elements.{All-head, All-tail}
use Rattle.std.proofs.lemmas.List.Sums.{sum_by-cons}
use Rattle.slub_common.specs.Times.{times}
use Rattle.slub_common.proofs.Times.{times-cons}
use Rattle.slub_common.proofs.Sums.{element-counted}
use Rattle.slub_common.proofs.Writes.{inside-of}
use Rattle.slub_red_zone.specs.State.{CheckedState}
use Rattle.slub_words.specs.declared.slab.SlabWord.{SlabWord}
use Rattle.slub_lists.specs.declared.lists.Slab.{Slab}
use Rattle.slub_lists.specs.declared.lists.Held.{Held}
use Rattle.slub_lists.specs.State.{State}
use Rattle.slub_lists.specs.Alloc.{slab_of, own_free, cache_of, checked_of, node_of, held_here}
use Rattle.slub_lists.specs.Coherent.{IsCoherent, IsConsistent, IsSlabOf, held_under, times_current, times_partial}
use Rattle.slub_lists.specs.Places.{layout_at}
use Rattle.slub_lists.specs.Words.{is_word, word_at}
use Rattle.slub_lists.proofs.CheckedGiving.{the-value, one-object}
use Rattle.slub_lists.proofs.CheckedSlabs.{at_some, held-once, was-checked}
use Rattle.slub_lists.proofs.Counting.{once-length}
use Rattle.slub_lists.proofs.Kept.{consistent-of}
use Rattle.slub_lists.proofs.Listed.{unlisted-unused}
use Rattle.slub_lists.proofs.Places.{slab-inside, objects-few, own-object, own-length, own-none, own-checked, checked-unfrozen, listed-is, words-apart}
use Rattle.slub_core.specs.declared.local.Known.{Known}
use Rattle.slub_core.specs.Local.{Local}
use Rattle.slub_core.specs.Setup.{node_lock}
use Rattle.slub_core.specs.Words.{no_slab_word}
use Rattle.slub_core.specs.World.{World, IsChain, pointer, frames_in, one_if}
use Rattle.slub_core.specs.Fresh.{IsWorded}
use Rattle.slub_core.proofs.Update.{update_at, update_other}
use Rattle.slub_law_opening.specs.Opening.{Beside, IsBeside, IsLaidDown, Row, lay_each, lay_items, head_of, front_of, string_row, cpu_at, frame_of, cache_in, own_row, cpu_row, link_of, plain_word, slab_word, board_word, node_value, value_of, opened_words, setup_of}
use Rattle.slub_law_opening.specs.Rests.{IsBetween, IsCpuOf, IsFreelistOf, Rests, held_on, held_in, held_among, times_held as held_by, named, times_named, current_in}
use Rattle.slub_law_opening.proofs.Lay.{lay-other, first-there}
use Rattle.slub_law_opening.proofs.Cpus.{cpu-alone, current-at, partial-one}
use Rattle.slub_law_opening.proofs.Rows.{own-pointer, cpu-pointer, own-chain, cpu-chain, strings-stand}
use Rattle.slub_law_opening.proofs.Slabs.{IsOpened, is_none, is_checked, is_plain, word-cases, slab-opened}
use Rattle.slub_law_opening.proofs.Workers.{HoldsNothing}

-- ---- words of objects

pub each-other : (rows : ℕ → Row) (n : ℕ) (m : ℕ → ℕ) (q : ℕ) → ((k x : ℕ) → 1 ≤ times x (rows k).items → q ≡ (rows k).place x → ⊥) → lay_each rows n m q ≡ m q
each-other rows zero m q away = refl
each-other rows (suc n) m q away = lay-other (rows n).place (rows n).value (rows n).items (lay_each rows n m) q (λ x le. away n x le) ∙ each-other rows n m q away

held-word-kept : (s : State) (b : Beside) (object word : ℕ) (held : Held) → IsConsistent s → held_under s object ≡ Some held → is_word (layout_at s held.cache) word ≡ true
    → (opened_words s b).memory (word_at (layout_at s held.cache) held word) ≡ get_or s.memory (word_at (layout_at s held.cache) held word) 0
held-word-kept s b object word held consistent is inside =
    let q = word_at (layout_at s held.cache) held word in
    let m : ℕ → ℕ = λ p. get_or s.memory p 0 in
    each-other (cpu_row s) 512 (lay_each (own_row s) s.frames m) q
    (λ n x le same.
    let p = cpu-pointer s n x consistent le in
    let e = words-apart s object word held p.frame x p.at.slab consistent is inside p.at.is p.at.inside (same ∙ p.at.place) in
    let c = cpu-alone s n p.frame x consistent p.current in
    let t : sum_by (held_here p.frame x) s.board ≡ sum_by (held_here held.frame held.index) s.board = ap (λ g. sum_by (held_here g x) s.board) (sym e.0) ∙ ap (λ z. sum_by (held_here held.frame z) s.board) (sym e.1) in
    omega (arith, le, c, t, held-once s object held is, one-object x (slab_of s p.frame)))
    ∙ each-other (own_row s) s.frames m q
    (λ f x le same.
    let p = own-pointer s f x consistent le in
    let e = words-apart s object word held f x p.slab consistent is inside p.is p.inside (same ∙ p.place) in
    let t : times x (own_free s f) ≡ times held.index (own_free s held.frame) = ap (λ g. times x (own_free s g)) (sym e.0) ∙ ap (λ z. times z (own_free s held.frame)) (sym e.1) in
    omega (arith, le, t, consistent.placed held.frame held.index, held-once s object held is, one-object held.index (slab_of s held.frame)))

-- ---- workers that hold nothing

pub none-held : (worker : ℕ) (ks : List Known) (object : ℕ) → All (λ (k : Known). k.held ≡ false) ks → held_in worker ks object ≡ None
none-held worker [] object nothing = refl
none-held worker (k ∷ ks) object nothing =
    let h = All-head (λ (k : Known). k.held ≡ false) k ks nothing in
    cond-false {A = Option Held} (k.held && eqb k.object object) _ (held_in worker ks object) (ap (λ b. b && eqb k.object object) h)
    ∙ none-held worker ks object (All-tail (λ (k : Known). k.held ≡ false) k ks nothing)

pub none-among : (ls : List Local) (object : ℕ) → All HoldsNothing ls → held_among ls object ≡ None
none-among [] object nothing = refl
none-among (l ∷ ls) object nothing =
    ap (λ h. option_or h (held_among ls object)) (none-held l.worker l.known object (All-head HoldsNothing l ls nothing)) ∙ none-among ls object (All-tail HoldsNothing l ls nothing)

pub none-counted : (ks : List Known) (object : ℕ) → All (λ (k : Known). k.held ≡ false) ks → sum_by (λ (k : Known). one_if (k.held && eqb k.object object)) ks ≡ 0
none-counted [] object nothing = refl
none-counted (k ∷ ks) object nothing =
    let f : Known → ℕ = λ k. one_if (k.held && eqb k.object object) in
    let h = All-head (λ (k : Known). k.held ≡ false) k ks nothing in
    let z : f k ≡ 0 = ap (λ b. one_if (b && eqb k.object object)) h in
    let r = none-counted ks object (All-tail (λ (k : Known). k.held ≡ false) k ks nothing) in
    let e = sum_by-cons f k ks in
    omega arith

pub none-held_by : (ls : List Local) (object : ℕ) → All HoldsNothing ls → sum_by (held_by object) ls ≡ 0
none-held_by [] object nothing = refl
none-held_by (l ∷ ls) object nothing =
    let z = none-counted l.known object (All-head HoldsNothing l ls nothing) in
    let r = none-held_by ls object (All-tail HoldsNothing l ls nothing) in
    let e = sum_by-cons (held_by object) l ls in
    omega arith

-- ---- the whole

module _ (s : State) (b : Beside) (ls : List Local) (beside : IsBeside s b) (coherent : IsCoherent s) (down : IsLaidDown s) (between : All (IsBetween (setup_of s b)) ls) (nothing : All HoldsNothing ls) where
  abbrev pub w : World
  w = opened_words s b

  consistent : IsConsistent s
  consistent = consistent-of s coherent

  -- a fact of the slab word at a frame
  by-word : (f : ℕ) (P : SlabWord → Type 0)
      → (own_free s f ≡ [] → times_current s f + times_partial s f ≡ 0 → P no_slab_word)
      → ((x : Slab) → slab_of s f ≡ Some x → checked_of s x.cache ≡ None → P (plain_word s f x))
      → P (slab_word s f (slab_of s f))
  by-word f P bare some = go (word-cases s f)
    where
      go : IsOpened s f (slab_word s f (slab_of s f)) → P (slab_word s f (slab_of s f))
      go (is_none e c) = subst P (sym c) (bare (own-none s f consistent e) (unlisted-unused s f e consistent.listed))
      go (is_checked x k e was c) = subst P (sym c) (bare (own-checked s f x k consistent e was) (checked-unfrozen s f x k consistent e was).1)
      go (is_plain x e was c) = subst P (sym c) (some x e was)

  -- ---- ranges

  by-current : (n : ℕ) (P : Option ℕ → Type 0) → ((cpu_at s n).current ≡ None → P None) → ((f : ℕ) → (cpu_at s n).current ≡ Some f → P (Some f)) → P (cpu_at s n).current
  by-current n P bare some = go (cpu_at s n).current refl
    where
      go : (y : Option ℕ) → (cpu_at s n).current ≡ y → P (cpu_at s n).current
      go None e = subst P (sym e) (bare e)
      go (Some f) e = subst P (sym e) (some f e)

  current-frame : (n f : ℕ) → (cpu_at s n).current ≡ Some f → (0 < f) × (f < 4096)
  current-frame n f e =
      let c = current-at s n f consistent e in
      let t = slab-inside s f c.slab consistent c.there in
      (t.0, omega (arith, t.1, consistent.shaped.frames.1))

  cache-small : (f : ℕ) (x : Slab) → slab_of s f ≡ Some x → x.cache < 32
  cache-small f x e =
      let live = the-value (cache_of s x.cache) (λ live. IsSlabOf live.layout x) (at_some (slab_of s f) x (λ slab. MatchOption (cache_of s slab.cache) ⊥ (λ live. IsSlabOf live.layout slab)) e (consistent.shaped.slab f)) in
      omega (arith, inside-of s.table.caches x.cache live.0 live.1, consistent.shaped.table.numbers)

  small-head : (xs : List ℕ) → ((i : ℕ) → 1 ≤ times i xs → suc i ≤ 512) → head_of xs ≤ 512
  small-head [] small = omega arith
  small-head (x ∷ xs) small = small x (first-there x xs)

  cpu-head : (n : ℕ) → head_of (cpu_at s n).free ≤ 512
  cpu-head n = small-head (cpu_at s n).free (λ i some. let p = cpu-pointer s n i consistent some in omega (arith, p.at.inside, objects-few s p.frame p.at.slab consistent p.at.is))

  own-head : (f : ℕ) → head_of (own_free s f) ≤ 512
  own-head f = small-head (own_free s f) (λ i some. let p = own-object s f i consistent some in omega (arith, p.2, objects-few s f p.0 consistent p.1))

  pub string-frame : (n f : ℕ) → 1 ≤ times f (cpu_at s n).partial → (0 < f) × (f < s.frames) × (s.frames ≤ 4096)
  string-frame n f some =
      let x = listed-is s f consistent (omega (arith, partial-one s n f, some)) in
      let t = slab-inside s f x.0 consistent x.1 in
      (t.0, t.1, consistent.shaped.frames.1)

  string-range : (n : ℕ) → (front_of (cpu_at s n).partial < 2 ^ 16) × (length (cpu_at s n).partial < 2 ^ 16)
  string-range n =
      let few = once-length 4096 (cpu_at s n).partial once in
      (go (cpu_at s n).partial (λ f some. string-frame n f some), omega (arith, few))
    where
      once : (f : ℕ) → times f (cpu_at s n).partial ≤ cond (nat_lt f 4096) 1 0
      once f = elim (cases_eq (times f (cpu_at s n).partial) 0) [
        | inl z ↦ omega arith
        | inr d ↦
            let in_machine = string-frame n f (omega arith) in
            let one : one_if (nat_lt f 4096) ≡ 1 = cond-true (nat_lt f 4096) 1 0 (lt-ltb f 4096 (omega arith)) in
            omega (arith, one, partial-one s n f, consistent.listed.once f)
      ]

      go : (fs : List ℕ) → ((f : ℕ) → 1 ≤ times f fs → (0 < f) × (f < s.frames) × (s.frames ≤ 4096)) → front_of fs < 2 ^ 16
      go [] in_machine = omega arith
      go (f ∷ fs) in_machine = let t = in_machine f (first-there f fs) in omega arith

  link-range : (f : ℕ) → (opened_words s b).link f < 2 ^ 16
  link-range f = rows 512 f
    where
      row : (fs : List ℕ) (m : ℕ → ℕ) → ((f : ℕ) → 1 ≤ times f fs → f < 4096) → ((f : ℕ) → m f < 2 ^ 16) → (f : ℕ) → lay_items (λ f. f) (λ f rest. front_of rest) fs m f < 2 ^ 16
      row [] m small old f = old f
      row (x ∷ fs) m small old f =
          elim (cases_eq f x) [
            | inl e ↦ subst (λ v. v < 2 ^ 16) (sym (update_at (lay_items (λ f. f) (λ f rest. front_of rest) fs m) x (front_of fs) f e)) (front fs (λ g le. small g (let t = times-cons g x fs in omega arith)))
            | inr d ↦ subst (λ v. v < 2 ^ 16) (sym (update_other (lay_items (λ f. f) (λ f rest. front_of rest) fs m) x (front_of fs) f d)) (row fs m (λ g le. small g (let t = times-cons g x fs in omega arith)) old f)
          ]
        where
          front : (fs : List ℕ) → ((f : ℕ) → 1 ≤ times f fs → f < 4096) → front_of fs < 2 ^ 16
          front [] small = omega arith
          front (g ∷ gs) small = let t = small g (first-there g gs) in omega arith

      rows : (n : ℕ) (f : ℕ) → lay_each (λ n. string_row (cpu_at s n).partial) n (link_of b) f < 2 ^ 16
      rows zero f = beside.link f
      rows (suc n) f = row (cpu_at s n).partial (lay_each (λ n. string_row (cpu_at s n).partial) n (link_of b)) (λ g le. let t = string-frame n g le in omega arith) (rows n) f

  live-some : (k : ℕ) → is_some (cache_of s k) ≡ true → IsSome (cache_of s k)
  live-some k e = e

  pub words-opened : IsWorded (opened_words s b)
  words-opened = record {
    cpu = λ n. (beside.tid n, by-current n (λ y. frame_of y < 2 ^ 16) (λ e. omega arith) (λ f e. let t = (current-frame n f e).1 in omega arith), (let t = cpu-head n in omega arith));
    slab = λ f. by-word f (λ c. (c.head < 2 ^ 16) × (c.inuse < 2 ^ 16) × (c.objects < 2 ^ 16) × (c.cache < 2 ^ 8)) (λ _ _. (omega arith, omega arith, omega arith, omega arith))
        (λ x e was.
        let h = own-head f in
        let few = objects-few s f x consistent e in
        let c = cache-small f x e in
        (omega arith, omega (arith, few), omega (arith, few), omega arith));
    list = string-range;
    link = link-range;
    room = λ n below some. beside.room n (go n (cpu_at s n).current refl some);
    remainder = λ n below inside live. beside.remainder n below inside (live-some (n / 16) live);
  }
    where
      go : (n : ℕ) (y : Option ℕ) → (cpu_at s n).current ≡ y → frame_of y ≢ 0 → IsSome y
      go n None e d = absurd (d refl)
      go n (Some f) e d = refl

  -- ---- the node lists

  node-le : (k f : ℕ) → times f (node_of s k) ≤ times_partial s f
  node-le k f = omega (arith, element-counted (times f) s.nodes k [] refl)

  empty-list : (xs : List ℕ) → ((f : ℕ) → 1 ≤ times f xs → ⊥) → xs ≡ []
  empty-list [] never = refl
  empty-list (x ∷ xs) never = absurd (never x (first-there x xs))

  dead-node : (k : ℕ) → is_some (cache_of s k) ≡ false → node_of s k ≡ []
  dead-node k dead = empty-list (node_of s k) (λ f some.
      let x = listed-is s f consistent (omega (arith, node-le k f, some)) in
      let of : x.0.cache ≡ k = at_some (slab_of s f) x.0 (λ slab. slab.cache ≡ k) x.1 (consistent.listed.of_node k f some) in
      let live = the-value (cache_of s x.0.cache) (λ live. IsSlabOf live.layout x.0) (at_some (slab_of s f) x.0 (λ slab. MatchOption (cache_of s slab.cache) ⊥ (λ live. IsSlabOf live.layout slab)) x.1 (consistent.shaped.slab f)) in
      cc (dead, ap (λ j. is_some (cache_of s j)) of, ap is_some live.1))

  nodes-opened : (k : ℕ) → node_of s k ≡ frames_in (value_of s (node_lock k))
  nodes-opened k = go (checked_of s k) refl ∙ ap (λ n. frames_in (value_of s n)) (let e : suc k ≡ node_lock k = omega arith in e)
    where
      by : (b : Bool) → is_some (cache_of s k) ≡ b → node_of s k ≡ frames_in (node_value b None (node_of s k))
      by true e = refl
      by false e = dead-node k e

      go : (o : Option CheckedState) → checked_of s k ≡ o → node_of s k ≡ frames_in (node_value (is_some (cache_of s k)) o (node_of s k))
      go None e = by (is_some (cache_of s k)) refl
      go (Some c) e = (was-checked s k c c e consistent.shaped.checked).off_node

  -- ---- what CPUs have

  cpu-opened : (n : ℕ) → n < 512 → IsCpuOf b (opened_words s b) n (cpu_at s n)
  cpu-opened n below = record {
    tid = refl;
    current = by-current n (λ y. y ≡ current_in (frame_of y)) (λ e. refl) (λ f e. sym (cond-false (eqb f 0) None (Some f) (ne_eqb f 0 (λ z. absurd (let t = (current-frame n f e).0 in omega arith)))));
    free = cpu-chain s b n consistent;
    count = refl;
    partial = strings-stand s b n consistent below;
  }

  -- ---- slabs

  own-opened : (f : ℕ) → IsFreelistOf (opened_words s b) f (own_free s f)
  own-opened f = record {
    chain = by-word f (λ c. IsChain (pointer (opened_words s b) c.cache f) c.head (own_free s f))
        (λ e _. subst (λ xs. IsChain (pointer (opened_words s b) 0 f) 0 xs) (sym e) refl)
        (λ x e was. subst (λ y. IsChain (pointer (opened_words s b) (cache_in y) f) (head_of (own_free s f)) (own_free s f)) e (own-chain s b f consistent));
    in_use = by-word f (λ c. c.inuse + length (own_free s f) ≡ c.objects) (λ e _. let z = ap (length {A = ℕ}) e in omega arith) (λ x e was. let l = own-length s f x consistent e in omega arith);
  }

  -- ---- objects

  named-opened : (o : ℕ) → held_under s o ≡ named (opened_words s b) ls o
  named-opened o = go (held_under s o) refl (down o)
    where
      go : (h : Option Held) → held_under s o ≡ h → IfSome h (λ held. held.worker ≡ None) → h ≡ option_or (option_map held_on (option_map board_word h)) (held_among ls o)
      go None e free = sym (none-among ls o nothing)
      go (Some held) e free = λ i. Some (record { frame = held.frame; index = held.index; cache = held.cache; worker = free i })

  once-opened : (o : ℕ) → times_named (opened_words s b) ls o ≤ 1
  once-opened o = let z = none-held_by ls o nothing in go ((opened_words s b).board o) z
    where
      go : {A : Type 0} (h : Option A) → sum_by (held_by o) ls ≡ 0 → one_if (is_some h) + sum_by (held_by o) ls ≤ 1
      go None z = omega arith
      go (Some x) z = omega arith

  pub opened-rests : Rests s b (opened_words s b) ls
  opened-rests = record {
    setup = refl;
    words = words-opened;
    workers = between;
    locks = λ n below. refl;
    values = λ n below. refl;
    nodes = nodes-opened;
    cpu = cpu-opened;
    slab = λ f. slab-opened s b f consistent;
    unchecked = λ f. by-word f (λ c. 1 ≤ c.objects → checked_of s c.cache ≡ None) (λ _ _ some. absurd (omega arith)) (λ x e was some. was);
    unslabbed = λ f. by-word f (λ c. c.objects ≡ 0 → c.frozen ≡ false) (λ _ _ z. refl) (λ x e was z. absurd (omega (arith, (objects-few s f x consistent e).0, z)));
    own = own-opened;
    listed = λ f. by-word f (λ c. c.listed ≡ nat_lt 0 (times f (node_of s c.cache))) (λ e z. sym (le-ltb 0 (times f (node_of s 0)) (let t = node-le 0 f in omega arith))) (λ x e was. refl);
    named = named-opened;
    once = once-opened;
    no_zero = ap (option_map board_word) coherent.shaped.no_zero;
    contents = λ object word held is plain inside. held-word-kept s b object word held consistent is inside;
  }
