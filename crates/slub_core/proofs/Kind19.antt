-- Kind 19: a slab in hand is unfrozen, with the chain in hand before its own freelist.
use Rattle.std.proofs.Common.{◌≡◌, ◌≢◌, ℕ, ◌+◌, ◌-◌, ◌^◌, ◌<◌, ◌≤◌, ◌==◌, not, true, false, cond, if◌then◌else◌, List, [], ◌∷◌, ◌++◌, length, refl, sym, ap, ◌∙◌, subst, arith, inl, inr}
use Rattle.std.specs.Prelude.{All}
use Rattle.std.proofs.lemmas.Bool.{cases_eq, cases_Bool, eq-eqb, ne_eqb, lt-ltb, eqb-true, eqb-false, and_parts, false≢true}
use Rattle.std.proofs.lemmas.List.{length-append}
use Rattle.std.proofs.lemmas.List.Elements.{All-head}
use Rattle.slub_common.specs.Times.{times}
use Rattle.slub_common.proofs.Times.{times-append}
use Rattle.slub_words.specs.declared.slab.SlabWord.{SlabWord}
use Rattle.slub_core.specs.declared.local.Known.{Known}
use Rattle.slub_core.specs.declared.local.Hand.{Hand}
use Rattle.slub_core.specs.declared.step.Answer.TheVariants.{Won}
use Rattle.slub_core.specs.declared.spot.Spot.TheVariants.{InPutAway, InDiscard}
use Rattle.slub_core.specs.declared.spot.Away.{Away}
use Rattle.slub_core.specs.declared.spot.PutAwaySpot.TheVariants.{Unfreeze, PutNode, GiveAway}
use Rattle.slub_core.specs.declared.spot.Discard.TheVariants.{FromAway}
use Rattle.slub_core.specs.declared.spot.DiscardSpot.TheVariants.{Unmake}
use Rattle.slub_core.specs.World.{World, set_slab, pointer, cache_at, one_if, off_list, Leads, IsChain}
use Rattle.slub_core.specs.Local.{Worker, hand_of, bare_hand}
use Rattle.slub_core.specs.PutAway.{put_away_advance, has_enough, head_away, inuse_away, is_to_discard, unfrozen_word, unfrozen}
use Rattle.slub_core.specs.Spots.{Leaving, Loose, beside_away}
use Rattle.slub_core.specs.Listed.{home_of, hands_count}
use Rattle.slub_core.specs.Fresh.{AreHands, AreHeld, IsEmptied, IsWalk, IsAtWork}
use Rattle.slub_core.specs.Coherent.{Stands}
use Rattle.slub_core.proofs.Exists.{in_chain-here, in_chain-away}
use Rattle.slub_core.proofs.StepHands.{first-hand, in_chain-nil}
use Rattle.slub_core.proofs.Homes.{off-some}
use Rattle.slub_core.proofs.Kind29.{hand-once, frozen-unlisted}
use Rattle.slub_core.proofs.Kind18.{known-kept}
use Rattle.slub_core.proofs.Kind8.{hand-live}
use Rattle.slub_core.proofs.Locks.{ComesTo, one-self}
use Rattle.slub_core.proofs.PopNode.{bare-walk}
use Rattle.slub_core.proofs.SlabStep.{is_mine, slab_step, held-apart}
use Rattle.slub_core.proofs.Update.{update_same}

Leads-append : (g : ℕ → ℕ) (head : ℕ) (xs : List ℕ) (mid : ℕ) (ys : List ℕ) (end : ℕ) → Leads g head xs mid → Leads g mid ys end → Leads g head (xs ++ ys) end
Leads-append g head [] mid ys end a b = rw a b
Leads-append g head (x ∷ xs) mid ys end a b = (a.0, Leads-append g (g x) xs mid ys end a.1 b)

no-chain : (g : ℕ → ℕ) (head : ℕ) (xs : List ℕ) → head ≡ 0 → Leads g head xs 0 → xs ≡ []
no-chain g head [] none c = refl
no-chain g head (x ∷ xs) none c = absurd (let e = c.0 in omega arith)

-- ---- by what becomes of the slab

full-work : (w : World) (x : Worker) (away : Away) (f : ℕ) (v : SlabWord) (hs : List Hand) (xss : List (List ℕ)) → x.local.spot ≡ InPutAway Unfreeze away
    → AreHands (beside_away away) hs xss → AreHeld (set_slab w f v) x.local.cache (beside_away away) hs xss 0
    → All (λ (k : Known). k.held ≡ true → k.cache ≡ cache_at (set_slab w f v) k.frame) x.local.known → IsAtWork w x
    → IsAtWork (set_slab w f v) (record { local = record x.local { hands = hs; spot = InPutAway GiveAway away }; chains = xss; string = x.string })
full-work w x away f v hs xss is hands held known ok = grind arith

empty-work : (w : World) (x : Worker) (away : Away) (f : ℕ) (v : SlabWord) (hs : List Hand) (xss : List (List ℕ)) → x.local.spot ≡ InPutAway Unfreeze away
    → AreHands (Loose ∷ beside_away away) (bare_hand f ∷ hs) ([] ∷ xss) → AreHeld (set_slab w f v) x.local.cache (Loose ∷ beside_away away) (bare_hand f ∷ hs) ([] ∷ xss) 0
    → IsEmptied ((set_slab w f v).slab f) x.local
    → All (λ (k : Known). k.held ≡ true → k.cache ≡ cache_at (set_slab w f v) k.frame) x.local.known → IsAtWork w x
    → IsAtWork (set_slab w f v) (record { local = record x.local { hands = bare_hand f ∷ hs; spot = InDiscard Unmake (FromAway away) }; chains = [] ∷ xss; string = x.string })
empty-work w x away f v hs xss is hands held empty known ok = grind arith

list-work : (w : World) (x : Worker) (away : Away) (f : ℕ) (v : SlabWord) (hs : List Hand) (xss : List (List ℕ)) → x.local.spot ≡ InPutAway Unfreeze away
    → AreHands (Loose ∷ beside_away away) (bare_hand f ∷ hs) ([] ∷ xss) → AreHeld (set_slab w f v) x.local.cache (Loose ∷ beside_away away) (bare_hand f ∷ hs) ([] ∷ xss) 0
    → All (λ (k : Known). k.held ≡ true → k.cache ≡ cache_at (set_slab w f v) k.frame) x.local.known → IsAtWork w x
    → IsAtWork (set_slab w f v) (record { local = record x.local { hands = bare_hand f ∷ hs; spot = InPutAway PutNode away }; chains = [] ∷ xss; string = x.string })
list-work w x away f v hs xss is hands held known ok = grind arith

-- what is so of the slab and of the word that it gets
record IsUnfrozen (w : World) (x : Worker) (f : ℕ) (v : SlabWord) (xs own : List ℕ) : Type 0 where
  real : f ≢ 0
  alive : 1 ≤ (w.slab f).objects
  fits : (v.head < 2 ^ 16) × (v.inuse < 2 ^ 16)
  cache : v.cache ≡ (w.slab f).cache
  objects : v.objects ≡ (w.slab f).objects
  counted : v.inuse + length (xs ++ own) ≡ v.objects
  chain : IsChain (pointer w (w.slab f).cache f) v.head (xs ++ own)
  frozen : (w.slab f).frozen ≡ true
  unmarked : (w.slab f).listed ≡ false
  owner : (w.slab f).cache ≡ x.local.cache

pub at_Unfreeze-won : (w : World) (x : Worker) (others : List Worker) (away : Away) → x.local.spot ≡ InPutAway Unfreeze away → w.slab (hand_of x.local).frame ≡ x.local.slab_word → Stands w (x ∷ others)
    → ComesTo (set_slab w (hand_of x.local).frame (unfrozen_word w.setup w.value x.local)) others (put_away_advance w.setup w.value x.local Unfreeze away Won).local
at_Unfreeze-won w x others away is won s =
    let r = first-hand Leaving (beside_away away) x.local.hands x.chains (rw is at ok.spot.hands) in
    by_hand r.0 r.1 r.2 r.3 r.4 r.5
  where
    ok : IsAtWork w x
    ok = All-head (IsAtWork w) x others s.fresh.workers

    v : SlabWord
    v = unfrozen_word w.setup w.value x.local

    unfreezes : (h : Hand) (hs : List Hand) (xs : List ℕ) (xss : List (List ℕ)) → x.local.hands ≡ h ∷ hs → x.chains ≡ xs ∷ xss → IsUnfrozen w x h.frame v xs (s.chains.own h.frame)
    unfreezes h hs xs xss first chain =
        let f = h.frame in
        let own = s.chains.own f in
        let u = x.local.slab_word in
        let hands : AreHands (Leaving ∷ beside_away away) (h ∷ hs) (xs ∷ xss) = rw (is, first, chain) at ok.spot.hands in
        let held : AreHeld w x.local.cache (Leaving ∷ beside_away away) (h ∷ hs) (xs ∷ xss) (cond (not (h.head == 0)) u.head 0) = rw (is, first, chain) at ok.seen.hands in
        let here : w.slab f ≡ u = rw first at won in
        let real : f ≢ 0 = λ e. absurd (let a = hands.0 in omega arith) in
        let walk : IsWalk xs h = hands.4 in
        let used : length xs ≤ u.inuse = rw chain at (ok.spot.away (rw is refl)) in
        let walked : 1 ≤ h.head → h.walked ≡ true = rw first at (ok.spot.walked (rw is refl)) in
        let inuse = ap (λ (u : SlabWord). u.inuse) here in
        let head = ap (λ (u : SlabWord). u.head) here in
        let objects = ap (λ (u : SlabWord). u.objects) here in
        let word = ok.spot.packed.slab_word in
        let mine : IsChain (pointer w (w.slab f).cache f) u.head own = subst (λ n. IsChain (pointer w (w.slab f).cache f) n own) head (s.placed.own_chain f) in
        let both = by_head f h xs own hands.2 walk walked (subst (λ k. Leads (pointer w k f) h.head xs (cond (not (h.head == 0)) u.head 0)) (sym held.1) held.0) mine in
        let hand : hand_of x.local ≡ h = rw first refl in
        let gone : v.inuse ≡ u.inuse - h.length = rw first refl in
        let put : v.head ≡ (if h.head == 0 then u.head else h.head) = rw first refl in
        record {
          real = real;
          alive = hand-live w x others h hs s first real;
          fits = (subst (λ n. n < 2 ^ 16) (sym put) both.1, omega (arith, word.1));
          cache = sym (ap (λ (u : SlabWord). u.cache) here);
          objects = sym objects;
          counted = let c = s.listed.shaped.counted f in let a = length-append xs own in let l = both.2 in omega arith;
          chain = subst (λ n. IsChain (pointer w (w.slab f).cache f) n (xs ++ own)) (sym put) both.0;
          frozen = held.2;
          unmarked = frozen-unlisted w (x ∷ others) f s held.2;
          owner = held.1;
        }
      where
        by_head : (f : ℕ) (h : Hand) (xs own : List ℕ) → h.head < 2 ^ 16 → IsWalk xs h → (1 ≤ h.head → h.walked ≡ true) → Leads (pointer w (w.slab f).cache f) h.head xs (cond (not (h.head == 0)) x.local.slab_word.head 0) → IsChain (pointer w (w.slab f).cache f) x.local.slab_word.head own
            → IsChain (pointer w (w.slab f).cache f) (if h.head == 0 then x.local.slab_word.head else h.head) (xs ++ own) × ((if h.head == 0 then x.local.slab_word.head else h.head) < 2 ^ 16) × (h.length ≡ length xs)
        by_head f h xs own small walk walked leads mine = elim (cases_eq h.head 0) [
          | inl e ↦ (let b = eq-eqb h.head 0 e in let led : Leads (pointer w (w.slab f).cache f) h.head xs 0 = rw b at leads in let nil = no-chain (pointer w (w.slab f).cache f) h.head xs e led in
              rw b (subst (λ ys. IsChain (pointer w (w.slab f).cache f) x.local.slab_word.head (ys ++ own)) (sym nil) mine, ok.spot.packed.slab_word.0, let a = walk.short in let l = ap length nil in omega arith))
          | inr d ↦ (let b = ne_eqb h.head 0 d in let led : Leads (pointer w (w.slab f).cache f) h.head xs x.local.slab_word.head = rw b at leads in
              rw b (Leads-append (pointer w (w.slab f).cache f) h.head xs x.local.slab_word.head own 0 led mine, small, (walk.ended (walked (omega (arith, d)))).0))
        ]

    -- with no free object it is on no list
    full : (h : Hand) (hs : List Hand) (xs : List ℕ) (xss : List (List ℕ)) → x.local.hands ≡ h ∷ hs → x.chains ≡ xs ∷ xss → IsUnfrozen w x h.frame v xs (s.chains.own h.frame) → (head_away (hand_of x.local) x.local.slab_word == 0) ≡ true
        → ComesTo (set_slab w h.frame v) others (unfrozen w.setup w.value x.local away)
    full h hs xs xss first chain u none =
        let f = h.frame in
        let own = s.chains.own f in
        let hands : AreHands (Leaving ∷ beside_away away) (h ∷ hs) (xs ∷ xss) = rw (is, first, chain) at ok.spot.hands in
        let held : AreHeld w x.local.cache (Leaving ∷ beside_away away) (h ∷ hs) (xs ∷ xss) (cond (not (h.head == 0)) x.local.slab_word.head 0) = rw (is, first, chain) at ok.seen.hands in
        let zero : v.head ≡ 0 = eqb-true v.head 0 none in
        let unlisted : v.listed ≡ false = rw none refl in
        let one = one-self f in
        let off : off_list (w.slab f) ≡ 0 = (let e = u.frozen in rw e refl) in
        let on : off_list v ≡ 1 = rw (unlisted, none, lt-ltb 0 v.objects (let a = u.alive in let o = u.objects in omega arith)) refl in
        let has : 1 ≤ home_of f x = rw first (omega arith) in
        let m : one_if (w.slab f).listed ≡ 0 = (let e = u.unmarked in rw e refl) in
        let l : one_if v.listed ≡ 0 = rw unlisted refl in
        let rest : hands_count f hs ≡ 0 = (hand-once w x others h hs s first u.real).0 in (
          record { local = record x.local { hands = hs; spot = InPutAway GiveAway away }; chains = xss; string = x.string },
          rw (none, first) refl,
          slab_step w x _ others f v (xs ++ own) s u.real u.alive u.fits u.cache u.objects u.counted (λ e. absurd (false≢true (sym unlisted ∙ e))) u.chain
              (λ j. rw (first, chain) (let a = in_chain-here f xs j in let b = times-append j xs own in omega arith))
              (λ g j d. rw (first, chain) (let a = in_chain-away f xs g j (λ e. d (sym e)) in omega arith))
              (let hx : home_of f x ≡ one_if (f == f) + hands_count f hs + times f x.string = rw first refl in omega arith)
              (λ g d. rw first (let o : one_if (f == g) ≡ 0 = rw (ne_eqb f g (λ e. d (sym e))) refl in omega arith))
              (rw is (omega arith))
              (λ g d. rw is refl)
              (λ g. refl) (λ k. rw is refl) (is_mine (omega arith))
              (full-work w x away f v hs xss is hands.5 (held-apart w f v x.local.cache (beside_away away) hs xss 0 rest held.3) (known-kept w f v x.local.known u.cache u.objects ok.seen.known) ok),
        )

    -- an empty one that isn't needed is discarded
    goes : (h : Hand) (hs : List Hand) (xs : List ℕ) (xss : List (List ℕ)) → x.local.hands ≡ h ∷ hs → x.chains ≡ xs ∷ xss → IsUnfrozen w x h.frame v xs (s.chains.own h.frame) → (head_away (hand_of x.local) x.local.slab_word == 0) ≡ false → is_to_discard w.setup w.value x.local ≡ true
        → ComesTo (set_slab w h.frame v) others (unfrozen w.setup w.value x.local away)
    goes h hs xs xss first chain u head discard =
        let f = h.frame in
        let own = s.chains.own f in
        let hands : AreHands (Leaving ∷ beside_away away) (h ∷ hs) (xs ∷ xss) = rw (is, first, chain) at ok.spot.hands in
        let held : AreHeld w x.local.cache (Leaving ∷ beside_away away) (h ∷ hs) (xs ∷ xss) (cond (not (h.head == 0)) x.local.slab_word.head 0) = rw (is, first, chain) at ok.seen.hands in
        let some : 1 ≤ v.head = (let d = eqb-false v.head 0 head in omega (arith, d)) in
        let unlisted : v.listed ≡ false = rw (head, discard) refl in
        let one = one-self f in
        let off : off_list (w.slab f) ≡ 0 = (let e = u.frozen in rw e refl) in
        let on = off-some v some in
        let has : 1 ≤ home_of f x = rw first (omega arith) in
        let m : one_if (w.slab f).listed ≡ 0 = (let e = u.unmarked in rw e refl) in
        let l : one_if v.listed ≡ 0 = rw unlisted refl in
        let rest : hands_count f hs ≡ 0 = (hand-once w x others h hs s first u.real).0 in
        let now = update_same w.slab f v in
        let none : v.inuse ≡ 0 = eqb-true v.inuse 0 (and_parts (inuse_away (hand_of x.local) x.local.slab_word == 0) (has_enough w.setup w.value x.local) discard).0 in
        let alive : 1 ≤ v.objects = (let a = u.alive in let o = u.objects in omega arith) in (
          record { local = record x.local { hands = bare_hand f ∷ hs; spot = InDiscard Unmake (FromAway away) }; chains = [] ∷ xss; string = x.string },
          rw (head, discard, first) refl,
          slab_step w x _ others f v (xs ++ own) s u.real u.alive u.fits u.cache u.objects u.counted (λ e. absurd (false≢true (sym unlisted ∙ e))) u.chain
              (λ j. rw (first, chain) (let a = in_chain-here f xs j in let b = times-append j xs own in let c = in_chain-nil f f j in omega arith))
              (λ g j d. rw (first, chain) (let a = in_chain-away f xs g j (λ e. d (sym e)) in let c = in_chain-nil f g j in omega arith))
              (let hx : home_of f x ≡ one_if (f == f) + hands_count f hs + times f x.string = rw first refl in omega arith)
              (λ g d. rw first refl)
              (rw is (omega arith))
              (λ g d. rw is refl)
              (λ g. refl) (λ k. rw is refl) (is_mine (omega arith))
              (empty-work w x away f v hs xss is (hands.0, hands.1, omega arith, (refl, refl), bare-walk f, hands.5)
              (refl, ap (λ (k : SlabWord). k.cache) now ∙ u.cache ∙ u.owner, (ap (λ (k : SlabWord). k.frozen) now, rw now some), held-apart w f v x.local.cache (beside_away away) hs xss 0 rest held.3)
              (rw now (record { none = none; objects = refl; some = alive; cache = u.cache ∙ u.owner }))
              (known-kept w f v x.local.known u.cache u.objects ok.seen.known) ok),
        )

    -- any other goes to the node list
    joins : (h : Hand) (hs : List Hand) (xs : List ℕ) (xss : List (List ℕ)) → x.local.hands ≡ h ∷ hs → x.chains ≡ xs ∷ xss → IsUnfrozen w x h.frame v xs (s.chains.own h.frame) → (head_away (hand_of x.local) x.local.slab_word == 0) ≡ false → is_to_discard w.setup w.value x.local ≡ false
        → ComesTo (set_slab w h.frame v) others (unfrozen w.setup w.value x.local away)
    joins h hs xs xss first chain u head stays =
        let f = h.frame in
        let own = s.chains.own f in
        let hands : AreHands (Leaving ∷ beside_away away) (h ∷ hs) (xs ∷ xss) = rw (is, first, chain) at ok.spot.hands in
        let held : AreHeld w x.local.cache (Leaving ∷ beside_away away) (h ∷ hs) (xs ∷ xss) (cond (not (h.head == 0)) x.local.slab_word.head 0) = rw (is, first, chain) at ok.seen.hands in
        let some : 1 ≤ v.head = (let d = eqb-false v.head 0 head in omega (arith, d)) in
        let marked : v.listed ≡ true = rw (head, stays) refl in
        let one = one-self f in
        let off : off_list (w.slab f) ≡ 0 = (let e = u.frozen in rw e refl) in
        let on = off-some v some in
        let has : 1 ≤ home_of f x = rw first (omega arith) in
        let m : one_if (w.slab f).listed ≡ 0 = (let e = u.unmarked in rw e refl) in
        let l : one_if v.listed ≡ 1 = rw marked refl in
        let rest : hands_count f hs ≡ 0 = (hand-once w x others h hs s first u.real).0 in
        let now = update_same w.slab f v in (
          record { local = record x.local { hands = bare_hand f ∷ hs; spot = InPutAway PutNode away }; chains = [] ∷ xss; string = x.string },
          rw (head, stays, first) refl,
          slab_step w x _ others f v (xs ++ own) s u.real u.alive u.fits u.cache u.objects u.counted (λ e. (some, refl)) u.chain
              (λ j. rw (first, chain) (let a = in_chain-here f xs j in let b = times-append j xs own in let c = in_chain-nil f f j in omega arith))
              (λ g j d. rw (first, chain) (let a = in_chain-away f xs g j (λ e. d (sym e)) in let c = in_chain-nil f g j in omega arith))
              (let hx : home_of f x ≡ one_if (f == f) + hands_count f hs + times f x.string = rw first refl in omega arith)
              (λ g d. rw first refl)
              (rw is (omega arith))
              (λ g d. let o : one_if (f == g) ≡ 0 = rw (ne_eqb f g (λ e. d (sym e))) refl in rw is o)
              (λ g. refl) (λ k. rw is refl) (is_mine (omega arith))
              (list-work w x away f v hs xss is (hands.0, hands.1, omega arith, (refl, refl), bare-walk f, hands.5)
              (refl, ap (λ (k : SlabWord). k.cache) now ∙ u.cache ∙ u.owner, (ap (λ (k : SlabWord). k.frozen) now, rw now some), held-apart w f v x.local.cache (beside_away away) hs xss 0 rest held.3)
              (known-kept w f v x.local.known u.cache u.objects ok.seen.known) ok),
        )

    by_hand : (h : Hand) (hs : List Hand) (xs : List ℕ) (xss : List (List ℕ)) → x.local.hands ≡ h ∷ hs → x.chains ≡ xs ∷ xss
        → ComesTo (set_slab w (hand_of x.local).frame v) others (unfrozen w.setup w.value x.local away)
    by_hand h hs xs xss first chain =
        let hand : hand_of x.local ≡ h = rw first refl in
        let frame : (hand_of x.local).frame ≡ h.frame = ap (λ (k : Hand). k.frame) hand in
        subst (λ g. ComesTo (set_slab w g v) others (unfrozen w.setup w.value x.local away)) (sym frame) (elim (cases_Bool (head_away (hand_of x.local) x.local.slab_word == 0)) [
          | inl none ↦ full h hs xs xss first chain (unfreezes h hs xs xss first chain) none
          | inr some ↦ elim (cases_Bool (is_to_discard w.setup w.value x.local)) [
            | inl away' ↦ goes h hs xs xss first chain (unfreezes h hs xs xss first chain) some away'
            | inr stays ↦ joins h hs xs xss first chain (unfreezes h hs xs xss first chain) some stays
          ]
        ])
