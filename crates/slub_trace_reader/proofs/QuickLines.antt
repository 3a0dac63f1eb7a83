-- Lines `alloc`, `free`, `write` and `read` in front of bytes, told and taken in one go.
use Rattle.std.proofs.Common.{◌≡◌, ◌≢◌, ℕ, ◌<◌, ◌≤◌, ◌^◌, true, false, List, [], ◌∷◌, ◌++◌, refl, sym, ap, ◌∙◌, arith, append_assoc, nat_eq}
use Rattle.std.specs.Prelude.{codes}
use Rattle.std.specs.List.{list_any}
use Rattle.std.proofs.lemmas.List.Elements.{All-append, All-cons, All-nil}
use Rattle.slub_trace.specs.declared.event.Act.TheVariants as act
use Rattle.slub_trace_reader.specs.declared.line.Line.TheVariants.{Alloc, Free, Write, Read}
use Rattle.slub_trace_reader.specs.declared.place.Place.{Place}
use Rattle.slub_trace_reader.specs.declared.place.Place.TheVariants.{First, Second, Between, Within, After}
use Rattle.slub_trace_reader.specs.Above.{Above, after, is_spot, workers_in, with_event}
use Rattle.slub_trace_reader.specs.Digits.{IsFront}
use Rattle.slub_trace_reader.specs.Grammar.{IsInRound, IsLine, IsObject, IsOneLine}
use Rattle.slub_trace_reader.specs.Parsing.{IsAllocFront, IsFreeFront, IsNameFront, IsReadFront, IsWriteFront, TakesFront}
use Rattle.slub_trace_reader.specs.State.{with_alloc}
use Rattle.slub_trace_reader.proofs.WordTexts.{name_lacks, number_lacks}

-- a number with this byte behind it
pub front_to : (bytes behind rest : List ℕ) (n c end : ℕ) → IsFront bytes n behind → behind ≡ c ∷ rest → c ≡ end → IsFront bytes n (end ∷ rest)
front_to bytes behind rest n c end is whole same = (is.0, is.1 ∙ ap (λ r. is.0 ++ r) (whole ∙ ap (λ d. d ∷ rest) same), is.2)

-- ---- texts without a line feed

-- a word in front, with a space behind it
one_more : (word rest : List ℕ) → IsOneLine word → IsOneLine rest → IsOneLine (word ++ 32 ∷ rest)
one_more word rest one more = All-append (λ b. b ≢ 10) word (32 ∷ rest) one (All-cons (λ b. b ≢ 10) 32 rest (λ is. absurd (let never : ⊥ = omega arith in never)) more)

-- the words of the lines
one_alloc : (rest : List ℕ) → IsOneLine rest → IsOneLine (codes "alloc " ++ rest)
one_alloc rest one = one_more (codes "alloc") rest (λ k d low is. grind arith) one

one_free : (rest : List ℕ) → IsOneLine rest → IsOneLine (codes "free " ++ rest)
one_free rest one = one_more (codes "free") rest (λ k d low is. grind arith) one

one_write : (rest : List ℕ) → IsOneLine rest → IsOneLine (codes "write " ++ rest)
one_write rest one = one_more (codes "write") rest (λ k d low is. grind arith) one

one_read : (rest : List ℕ) → IsOneLine rest → IsOneLine (codes "read " ++ rest)
one_read rest one = one_more (codes "read") rest (λ k d low is. grind arith) one

-- ---- lines in front

pub alloc_in_front : (names : List (List ℕ)) (bytes r0 r1 r2 r3 rest : List ℕ) (worker cpu cache object : ℕ) → bytes ≡ codes "alloc " ++ r0 → IsFront r0 worker (32 ∷ r1)
    → IsFront r1 cpu (32 ∷ r2) → IsNameFront names r2 cache r3 → IsFront r3 object (10 ∷ rest) → IsAllocFront names bytes worker cpu cache object rest
alloc_in_front names bytes r0 r1 r2 r3 rest worker cpu cache object whole w c n o =
    let tail : List ℕ = w.0 ++ 32 ∷ (c.0 ++ 32 ∷ (n.0 ++ 32 ∷ o.0)) in
    let one : IsOneLine tail = one_more _ _ (number_lacks 10 w.0 (omega arith) w.2.form) (one_more _ _ (number_lacks 10 c.0 (omega arith) c.2.form)
    (one_more _ _ (name_lacks 10 n.0 (omega arith) n.2.0) (number_lacks 10 o.0 (omega arith) o.2.form))) in
    let parts : r0 ≡ w.0 ++ 32 ∷ (c.0 ++ 32 ∷ (n.0 ++ 32 ∷ (o.0 ++ 10 ∷ rest))) = w.1 ∙ ap (λ t. w.0 ++ 32 ∷ t) (c.1 ∙ ap (λ t. c.0 ++ 32 ∷ t) (n.1 ∙ ap (λ t. n.0 ++ 32 ∷ t) o.1)) in
    let joined : tail ++ 10 ∷ rest ≡ w.0 ++ 32 ∷ (c.0 ++ 32 ∷ (n.0 ++ 32 ∷ (o.0 ++ 10 ∷ rest))) = simp append_assoc in
    (codes "alloc " ++ tail, n.0, whole ∙ ap (λ t. codes "alloc " ++ t) (parts ∙ sym joined), one_alloc tail one, (w.0, c.0, o.0, w.2, c.2, n.2.0, o.2, refl), n.2.1, n.2.2)

pub free_in_front : (bytes r0 r1 r2 rest : List ℕ) (worker cpu object : ℕ) → bytes ≡ codes "free " ++ r0 → IsFront r0 worker (32 ∷ r1) → IsFront r1 cpu (32 ∷ r2) → IsFront r2 object (10 ∷ rest)
    → IsFreeFront bytes worker cpu object rest
free_in_front bytes r0 r1 r2 rest worker cpu object whole w c o =
    let tail : List ℕ = w.0 ++ 32 ∷ (c.0 ++ 32 ∷ o.0) in
    let one : IsOneLine tail = one_more _ _ (number_lacks 10 w.0 (omega arith) w.2.form) (one_more _ _ (number_lacks 10 c.0 (omega arith) c.2.form) (number_lacks 10 o.0 (omega arith) o.2.form)) in
    let parts : r0 ≡ w.0 ++ 32 ∷ (c.0 ++ 32 ∷ (o.0 ++ 10 ∷ rest)) = w.1 ∙ ap (λ t. w.0 ++ 32 ∷ t) (c.1 ∙ ap (λ t. c.0 ++ 32 ∷ t) o.1) in
    let joined : tail ++ 10 ∷ rest ≡ w.0 ++ 32 ∷ (c.0 ++ 32 ∷ (o.0 ++ 10 ∷ rest)) = simp append_assoc in
    (codes "free " ++ tail, whole ∙ ap (λ t. codes "free " ++ t) (parts ∙ sym joined), one_free tail one, (w.0, c.0, o.0, w.2, c.2, o.2, refl))

pub write_in_front : (bytes r0 r1 r2 r3 rest : List ℕ) (worker object word value : ℕ) → bytes ≡ codes "write " ++ r0 → IsFront r0 worker (32 ∷ r1) → IsFront r1 object (32 ∷ r2)
    → IsFront r2 word (32 ∷ r3) → IsFront r3 value (10 ∷ rest) → IsWriteFront bytes worker object word value rest
write_in_front bytes r0 r1 r2 r3 rest worker object word value whole w o k v =
    let tail : List ℕ = w.0 ++ 32 ∷ (o.0 ++ 32 ∷ (k.0 ++ 32 ∷ v.0)) in
    let one : IsOneLine tail = one_more _ _ (number_lacks 10 w.0 (omega arith) w.2.form) (one_more _ _ (number_lacks 10 o.0 (omega arith) o.2.form)
    (one_more _ _ (number_lacks 10 k.0 (omega arith) k.2.form) (number_lacks 10 v.0 (omega arith) v.2.form))) in
    let parts : r0 ≡ w.0 ++ 32 ∷ (o.0 ++ 32 ∷ (k.0 ++ 32 ∷ (v.0 ++ 10 ∷ rest))) = w.1 ∙ ap (λ t. w.0 ++ 32 ∷ t) (o.1 ∙ ap (λ t. o.0 ++ 32 ∷ t) (k.1 ∙ ap (λ t. k.0 ++ 32 ∷ t) v.1)) in
    let joined : tail ++ 10 ∷ rest ≡ w.0 ++ 32 ∷ (o.0 ++ 32 ∷ (k.0 ++ 32 ∷ (v.0 ++ 10 ∷ rest))) = simp append_assoc in
    (codes "write " ++ tail, whole ∙ ap (λ t. codes "write " ++ t) (parts ∙ sym joined), one_write tail one, (w.0, o.0, k.0, v.0, w.2, o.2, k.2, v.2, refl))

pub read_in_front : (bytes r0 r1 r2 rest : List ℕ) (worker object word : ℕ) → bytes ≡ codes "read " ++ r0 → IsFront r0 worker (32 ∷ r1) → IsFront r1 object (32 ∷ r2) → IsFront r2 word (10 ∷ rest)
    → IsReadFront bytes worker object word rest
read_in_front bytes r0 r1 r2 rest worker object word whole w o k =
    let tail : List ℕ = w.0 ++ 32 ∷ (o.0 ++ 32 ∷ k.0) in
    let one : IsOneLine tail = one_more _ _ (number_lacks 10 w.0 (omega arith) w.2.form) (one_more _ _ (number_lacks 10 o.0 (omega arith) o.2.form) (number_lacks 10 k.0 (omega arith) k.2.form)) in
    let parts : r0 ≡ w.0 ++ 32 ∷ (o.0 ++ 32 ∷ (k.0 ++ 10 ∷ rest)) = w.1 ∙ ap (λ t. w.0 ++ 32 ∷ t) (o.1 ∙ ap (λ t. o.0 ++ 32 ∷ t) k.1) in
    let joined : tail ++ 10 ∷ rest ≡ w.0 ++ 32 ∷ (o.0 ++ 32 ∷ (k.0 ++ 10 ∷ rest)) = simp append_assoc in
    (codes "read " ++ tail, whole ∙ ap (λ t. codes "read " ++ t) (parts ∙ sym joined), one_read tail one, (w.0, o.0, k.0, w.2, o.2, k.2, refl))

-- ---- lines that may come next

-- a round with a worker isn't ended
in_round : (place : Place) (worker : ℕ) → worker < workers_in place → IsInRound place
in_round First worker low = absurd (let never : ⊥ = omega arith in never)
in_round Second worker low = absurd (let never : ⊥ = omega arith in never)
in_round Between worker low = absurd (let never : ⊥ = omega arith in never)
in_round (Within workers) worker low = tt
in_round After worker low = absurd (let never : ⊥ = omega arith in never)

-- the line is taken where its numbers are in range and its object is new
pub alloc_takes : (a b : Above) (bytes rest : List ℕ) (worker cpu cache object : ℕ) → IsAllocFront a.names bytes worker cpu cache object rest
    → worker < workers_in a.place → cpu < a.cpus → IsObject object → list_any (nat_eq object) a.objects ≡ false → b ≡ with_alloc a worker cpu cache object → TakesFront a bytes rest b
alloc_takes a b bytes rest worker cpu cache object f low few is fresh put =
    let New : ℕ → Type 0 = λ n. list_any (nat_eq n) a.objects ≡ false in
    let Old : ℕ → Type 0 = λ n. list_any (nat_eq n) a.objects ≡ true in
    let line : IsLine a f.0 (Alloc worker cpu f.1 object) = record {
      says = f.4;
      stands = in_round a.place worker low;
      range = (low, few, is);
      room = tt;
      named = f.5;
      fresh = All-cons New object [] fresh (All-nil New);
      known = All-nil Old;
      written = tt;
    } in
    (f.0, f.2, f.3, (Alloc worker cpu f.1 object, line, put ∙ ap (λ place. with_alloc a worker cpu place object) f.6))

-- and where its object is known
pub free_takes : (a b : Above) (bytes rest : List ℕ) (worker cpu object : ℕ) → IsFreeFront bytes worker cpu object rest
    → worker < workers_in a.place → cpu < a.cpus → IsObject object → list_any (nat_eq object) a.objects ≡ true → b ≡ with_event a worker cpu (act.Free object) → TakesFront a bytes rest b
free_takes a b bytes rest worker cpu object f low few is known put =
    let New : ℕ → Type 0 = λ n. list_any (nat_eq n) a.objects ≡ false in
    let Old : ℕ → Type 0 = λ n. list_any (nat_eq n) a.objects ≡ true in
    let line : IsLine a f.0 (Free worker cpu object) = record {
      says = f.3;
      stands = in_round a.place worker low;
      range = (low, few, is);
      room = tt;
      named = tt;
      fresh = All-nil New;
      known = All-cons Old object [] known (All-nil Old);
      written = tt;
    } in
    (f.0, f.1, f.2, (Free worker cpu object, line, put))

-- the same of a write
pub write_takes : (a b : Above) (bytes rest : List ℕ) (worker object word value : ℕ) → IsWriteFront bytes worker object word value rest → value < 2 ^ 64
    → worker < workers_in a.place → IsObject object → word ≤ 4095 → list_any (nat_eq object) a.objects ≡ true → b ≡ after a (Write worker object word value) → TakesFront a bytes rest b
write_takes a b bytes rest worker object word value f small low is few known put =
    let New : ℕ → Type 0 = λ n. list_any (nat_eq n) a.objects ≡ false in
    let Old : ℕ → Type 0 = λ n. list_any (nat_eq n) a.objects ≡ true in
    let line : IsLine a f.0 (Write worker object word value) = record {
      says = f.3;
      stands = in_round a.place worker low;
      range = (low, is, few, omega arith);
      room = tt;
      named = tt;
      fresh = All-nil New;
      known = All-cons Old object [] known (All-nil Old);
      written = tt;
    } in
    (f.0, f.1, f.2, (Write worker object word value, line, put))

-- and of a read of what is written
pub read_takes : (a b : Above) (bytes rest : List ℕ) (worker object word : ℕ) → IsReadFront bytes worker object word rest
    → worker < workers_in a.place → IsObject object → word ≤ 4095 → list_any (nat_eq object) a.objects ≡ true → list_any (is_spot (worker, object, word)) a.written ≡ true
    → b ≡ with_event a worker 0 (act.Read word object) → TakesFront a bytes rest b
read_takes a b bytes rest worker object word f low is few known written put =
    let New : ℕ → Type 0 = λ n. list_any (nat_eq n) a.objects ≡ false in
    let Old : ℕ → Type 0 = λ n. list_any (nat_eq n) a.objects ≡ true in
    let line : IsLine a f.0 (Read worker object word) = record {
      says = f.3;
      stands = in_round a.place worker low;
      range = (low, is, few);
      room = tt;
      named = tt;
      fresh = All-nil New;
      known = All-cons Old object [] known (All-nil Old);
      written = written;
    } in
    (f.0, f.1, f.2, (Read worker object word, line, put))
