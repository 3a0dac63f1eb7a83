-- Texts and clients' lines: a text that says one is read as that line with its numbers cut at 2 ^ 64, and what is read is said.
use Rattle.std.proofs.Common.{◌≡◌, ℕ, Some, None, List, [], ◌∷◌, ◌++◌, refl, sym, ap, ◌∙◌, nat_eq, inl, inr}
use Rattle.std.specs.Prelude.{codes}
use Rattle.std.specs.Cmp.Lexicographic.{pointwise, bytes_decides}
use Rattle.slub_common.specs.Numbers.{cut_number}
use Rattle.slub_common.proofs.Digits.{number_found, number_some}
use Rattle.slub_trace_reader.specs.declared.client.ClientLine.{ClientLine}
use Rattle.slub_trace_reader.specs.declared.client.ClientLine.TheVariants.{Kmalloc, Kget, Krealloc, Bulk, Bulkfree, Mempool, Mget, Mput}
use Rattle.slub_trace_reader.specs.Forms.{strip, kmalloc_line, kget_line, krealloc_line, bulk_line, bulkfree_line, mempool_line, mget_line, mput_line, client_line}
use Rattle.slub_trace_reader.specs.Lines.{SaysClient, parted}
use Rattle.slub_trace_reader.specs.Cut.{cut_client}
use Rattle.slub_trace_reader.proofs.Fields.{strip_found, strip_some}
use Rattle.slub_trace_reader.proofs.WordTexts.{bind_found, bind_some, same_some, or_none, or_found, or_some, number_at_found, number_at_some, name_at_found, name_at_some, chosen}

-- ---- lines with equal numbers

kget_same : (x0 y0 : ℕ) (x1 y1 : ℕ) (x2 y2 : ℕ) → x0 ≡ y0 → x1 ≡ y1 → x2 ≡ y2 → Kget x0 x1 x2 ≡ Kget y0 y1 y2
kget_same x0 y0 x1 y1 x2 y2 e0 e1 e2 = rw (e0, e1, e2) refl

krealloc_same : (x0 y0 : ℕ) (x1 y1 : ℕ) (x2 y2 : ℕ) (x3 y3 : ℕ) → x0 ≡ y0 → x1 ≡ y1 → x2 ≡ y2 → x3 ≡ y3 → Krealloc x0 x1 x2 x3 ≡ Krealloc y0 y1 y2 y3
krealloc_same x0 y0 x1 y1 x2 y2 x3 y3 e0 e1 e2 e3 = rw (e0, e1, e2, e3) refl

bulk_same : (x0 y0 : ℕ) (x1 : List ℕ) (x2 y2 : ℕ) (x3 y3 : ℕ) → x0 ≡ y0 → x2 ≡ y2 → x3 ≡ y3 → Bulk x0 x1 x2 x3 ≡ Bulk y0 x1 y2 y3
bulk_same x0 y0 x1 x2 y2 x3 y3 e0 e2 e3 = rw (e0, e2, e3) refl

bulkfree_same : (x0 y0 : ℕ) (x1 y1 : ℕ) (x2 y2 : ℕ) → x0 ≡ y0 → x1 ≡ y1 → x2 ≡ y2 → Bulkfree x0 x1 x2 ≡ Bulkfree y0 y1 y2
bulkfree_same x0 y0 x1 y1 x2 y2 e0 e1 e2 = rw (e0, e1, e2) refl

mempool_same : (x0 : List ℕ) (x1 : List ℕ) (x2 y2 : ℕ) (x3 y3 : ℕ) → x2 ≡ y2 → x3 ≡ y3 → Mempool x0 x1 x2 x3 ≡ Mempool x0 x1 y2 y3
mempool_same x0 x1 x2 y2 x3 y3 e2 e3 = rw (e2, e3) refl

mget_same : (x0 y0 : ℕ) (x1 : List ℕ) (x2 y2 : ℕ) → x0 ≡ y0 → x2 ≡ y2 → Mget x0 x1 x2 ≡ Mget y0 x1 y2
mget_same x0 y0 x1 x2 y2 e0 e2 = rw (e0, e2) refl

mput_same : (x0 y0 : ℕ) (x1 : List ℕ) (x2 y2 : ℕ) → x0 ≡ y0 → x2 ≡ y2 → Mput x0 x1 x2 ≡ Mput y0 x1 y2
mput_same x0 y0 x1 x2 y2 e0 e2 = rw (e0, e2) refl

-- ---- the forms

-- the text says a client's line, and this is that line with its numbers cut
abbrev pub IsCutOfClient : List ℕ → ClientLine → Type 0
IsCutOfClient text c = (line : ClientLine) × SaysClient text line × (c ≡ cut_client line)

kmalloc_again : (text : List ℕ) → text ≡ codes "kmalloc" → kmalloc_line text ≡ Some Kmalloc
unfolding kmalloc_line
kmalloc_again text is = rw is refl

kmalloc_said : (text : List ℕ) (line : ClientLine) → kmalloc_line text ≡ Some line → IsCutOfClient text line
unfolding kmalloc_line
kmalloc_said text line is = elim (chosen (pointwise nat_eq text (codes "kmalloc")) (Some Kmalloc) None (Some line) is) [
  | inl here ↦ (Kmalloc, (bytes_decides text (codes "kmalloc")).0 here.0, sym (same_some _ _ here.1))
  | inr there ↦ (let never : None ≡ Some line = there.1 in cc)
]

-- a text that says a kget line is read
kget_again : (text : List ℕ) (cpu : ℕ) (size : ℕ) (object : ℕ) → SaysClient text (Kget cpu size object) → kget_line text ≡ Some (Kget (cut_number cpu) (cut_number size) (cut_number object))
unfolding kget_line
kget_again text cpu size object is =
    ap kget_line is.6 ∙ bind_found _ _ _ _ (strip_found (codes "kget ") (is.0 ++ 32 ∷ (is.1 ++ 32 ∷ (is.2))))
    (bind_found _ _ _ _ (number_at_found is.0 cpu _ is.3) (bind_found _ _ _ _ (number_at_found is.1 size _ is.4) (bind_found _ _ _ _ (number_found is.2 object is.5) refl)))

-- what is read as a kget line says one
kget_said : (text : List ℕ) (line : ClientLine) → kget_line text ≡ Some line → IsCutOfClient text line
unfolding kget_line
kget_said text line is =
    let s = bind_some _ _ _ is in
    let s0 = bind_some _ _ _ s.2 in
    let s1 = bind_some _ _ _ s0.2 in
    let s2 = bind_some _ _ _ s1.2 in
    let f0 = number_at_some s.0 s0.0 s0.1 in
    let f1 = number_at_some s0.0.1 s1.0 s1.1 in
    let f2 = number_some s1.0.1 s2.0 s2.1 in
    let whole : text ≡ parted (codes "kget" ∷ f0.0 ∷ f1.0 ∷ s1.0.1 ∷ []) =
    strip_some (codes "kget ") text s.0 s.1 ∙ ap (λ t. codes "kget " ++ t) (f0.3 ∙ ap (λ t. f0.0 ++ 32 ∷ t) f1.3) in
    let same : Kget s0.0.0 s1.0.0 s2.0 ≡ Kget (cut_number f0.1) (cut_number f1.1) (cut_number f2.0) = kget_same s0.0.0 (cut_number f0.1) s1.0.0 (cut_number f1.1) s2.0 (cut_number f2.0) f0.4 f1.4 f2.2 in
    (Kget f0.1 f1.1 f2.0, (f0.0, f1.0, s1.0.1, f0.2, f1.2, f2.1, whole), sym (same_some _ _ s2.2) ∙ same)

-- a text that says a krealloc line is read
krealloc_again : (text : List ℕ) (cpu : ℕ) (object : ℕ) (size : ℕ) (fresh : ℕ) → SaysClient text (Krealloc cpu object size fresh) → krealloc_line text ≡ Some (Krealloc (cut_number cpu) (cut_number object) (cut_number size) (cut_number fresh))
unfolding krealloc_line
krealloc_again text cpu object size fresh is =
    ap krealloc_line is.8 ∙ bind_found _ _ _ _ (strip_found (codes "krealloc ") (is.0 ++ 32 ∷ (is.1 ++ 32 ∷ (is.2 ++ 32 ∷ (is.3)))))
    (bind_found _ _ _ _ (number_at_found is.0 cpu _ is.4) (bind_found _ _ _ _ (number_at_found is.1 object _ is.5) (bind_found _ _ _ _ (number_at_found is.2 size _ is.6) (bind_found _ _ _ _ (number_found is.3 fresh is.7) refl))))

-- what is read as a krealloc line says one
krealloc_said : (text : List ℕ) (line : ClientLine) → krealloc_line text ≡ Some line → IsCutOfClient text line
unfolding krealloc_line
krealloc_said text line is =
    let s = bind_some _ _ _ is in
    let s0 = bind_some _ _ _ s.2 in
    let s1 = bind_some _ _ _ s0.2 in
    let s2 = bind_some _ _ _ s1.2 in
    let s3 = bind_some _ _ _ s2.2 in
    let f0 = number_at_some s.0 s0.0 s0.1 in
    let f1 = number_at_some s0.0.1 s1.0 s1.1 in
    let f2 = number_at_some s1.0.1 s2.0 s2.1 in
    let f3 = number_some s2.0.1 s3.0 s3.1 in
    let whole : text ≡ parted (codes "krealloc" ∷ f0.0 ∷ f1.0 ∷ f2.0 ∷ s2.0.1 ∷ []) =
    strip_some (codes "krealloc ") text s.0 s.1 ∙ ap (λ t. codes "krealloc " ++ t) (f0.3 ∙ ap (λ t. f0.0 ++ 32 ∷ t) (f1.3 ∙ ap (λ t. f1.0 ++ 32 ∷ t) f2.3)) in
    let same : Krealloc s0.0.0 s1.0.0 s2.0.0 s3.0 ≡ Krealloc (cut_number f0.1) (cut_number f1.1) (cut_number f2.1) (cut_number f3.0) = krealloc_same s0.0.0 (cut_number f0.1) s1.0.0 (cut_number f1.1) s2.0.0 (cut_number f2.1) s3.0 (cut_number f3.0) f0.4 f1.4 f2.4 f3.2 in
    (Krealloc f0.1 f1.1 f2.1 f3.0, (f0.0, f1.0, f2.0, s2.0.1, f0.2, f1.2, f2.2, f3.1, whole), sym (same_some _ _ s3.2) ∙ same)

-- a text that says a bulk line is read
bulk_again : (text : List ℕ) (cpu : ℕ) (name : List ℕ) (first : ℕ) (count : ℕ) → SaysClient text (Bulk cpu name first count) → bulk_line text ≡ Some (Bulk (cut_number cpu) name (cut_number first) (cut_number count))
unfolding bulk_line
bulk_again text cpu name first count is =
    ap bulk_line is.7 ∙ bind_found _ _ _ _ (strip_found (codes "bulk ") (is.0 ++ 32 ∷ (name ++ 32 ∷ (is.1 ++ 32 ∷ (is.2)))))
    (bind_found _ _ _ _ (number_at_found is.0 cpu _ is.3) (bind_found _ _ _ _ (name_at_found name _ is.4) (bind_found _ _ _ _ (number_at_found is.1 first _ is.5) (bind_found _ _ _ _ (number_found is.2 count is.6) refl))))

-- what is read as a bulk line says one
bulk_said : (text : List ℕ) (line : ClientLine) → bulk_line text ≡ Some line → IsCutOfClient text line
unfolding bulk_line
bulk_said text line is =
    let s = bind_some _ _ _ is in
    let s0 = bind_some _ _ _ s.2 in
    let s1 = bind_some _ _ _ s0.2 in
    let s2 = bind_some _ _ _ s1.2 in
    let s3 = bind_some _ _ _ s2.2 in
    let f0 = number_at_some s.0 s0.0 s0.1 in
    let f1 = name_at_some s0.0.1 s1.0 s1.1 in
    let f2 = number_at_some s1.0.1 s2.0 s2.1 in
    let f3 = number_some s2.0.1 s3.0 s3.1 in
    let whole : text ≡ parted (codes "bulk" ∷ f0.0 ∷ s1.0.0 ∷ f2.0 ∷ s2.0.1 ∷ []) =
    strip_some (codes "bulk ") text s.0 s.1 ∙ ap (λ t. codes "bulk " ++ t) (f0.3 ∙ ap (λ t. f0.0 ++ 32 ∷ t) (f1.1 ∙ ap (λ t. s1.0.0 ++ 32 ∷ t) f2.3)) in
    let same : Bulk s0.0.0 s1.0.0 s2.0.0 s3.0 ≡ Bulk (cut_number f0.1) s1.0.0 (cut_number f2.1) (cut_number f3.0) = bulk_same s0.0.0 (cut_number f0.1) s1.0.0 s2.0.0 (cut_number f2.1) s3.0 (cut_number f3.0) f0.4 f2.4 f3.2 in
    (Bulk f0.1 s1.0.0 f2.1 f3.0, (f0.0, f2.0, s2.0.1, f0.2, f1.0, f2.2, f3.1, whole), sym (same_some _ _ s3.2) ∙ same)

-- a text that says a bulkfree line is read
bulkfree_again : (text : List ℕ) (cpu : ℕ) (first : ℕ) (count : ℕ) → SaysClient text (Bulkfree cpu first count) → bulkfree_line text ≡ Some (Bulkfree (cut_number cpu) (cut_number first) (cut_number count))
unfolding bulkfree_line
bulkfree_again text cpu first count is =
    ap bulkfree_line is.6 ∙ bind_found _ _ _ _ (strip_found (codes "bulkfree ") (is.0 ++ 32 ∷ (is.1 ++ 32 ∷ (is.2))))
    (bind_found _ _ _ _ (number_at_found is.0 cpu _ is.3) (bind_found _ _ _ _ (number_at_found is.1 first _ is.4) (bind_found _ _ _ _ (number_found is.2 count is.5) refl)))

-- what is read as a bulkfree line says one
bulkfree_said : (text : List ℕ) (line : ClientLine) → bulkfree_line text ≡ Some line → IsCutOfClient text line
unfolding bulkfree_line
bulkfree_said text line is =
    let s = bind_some _ _ _ is in
    let s0 = bind_some _ _ _ s.2 in
    let s1 = bind_some _ _ _ s0.2 in
    let s2 = bind_some _ _ _ s1.2 in
    let f0 = number_at_some s.0 s0.0 s0.1 in
    let f1 = number_at_some s0.0.1 s1.0 s1.1 in
    let f2 = number_some s1.0.1 s2.0 s2.1 in
    let whole : text ≡ parted (codes "bulkfree" ∷ f0.0 ∷ f1.0 ∷ s1.0.1 ∷ []) =
    strip_some (codes "bulkfree ") text s.0 s.1 ∙ ap (λ t. codes "bulkfree " ++ t) (f0.3 ∙ ap (λ t. f0.0 ++ 32 ∷ t) f1.3) in
    let same : Bulkfree s0.0.0 s1.0.0 s2.0 ≡ Bulkfree (cut_number f0.1) (cut_number f1.1) (cut_number f2.0) = bulkfree_same s0.0.0 (cut_number f0.1) s1.0.0 (cut_number f1.1) s2.0 (cut_number f2.0) f0.4 f1.4 f2.2 in
    (Bulkfree f0.1 f1.1 f2.0, (f0.0, f1.0, s1.0.1, f0.2, f1.2, f2.1, whole), sym (same_some _ _ s2.2) ∙ same)

-- a text that says a mempool line is read
mempool_again : (text : List ℕ) (pool : List ℕ) (name : List ℕ) (min : ℕ) (first : ℕ) → SaysClient text (Mempool pool name min first) → mempool_line text ≡ Some (Mempool pool name (cut_number min) (cut_number first))
unfolding mempool_line
mempool_again text pool name min first is =
    ap mempool_line is.6 ∙ bind_found _ _ _ _ (strip_found (codes "mempool ") (pool ++ 32 ∷ (name ++ 32 ∷ (is.0 ++ 32 ∷ (is.1)))))
    (bind_found _ _ _ _ (name_at_found pool _ is.2) (bind_found _ _ _ _ (name_at_found name _ is.3) (bind_found _ _ _ _ (number_at_found is.0 min _ is.4) (bind_found _ _ _ _ (number_found is.1 first is.5) refl))))

-- what is read as a mempool line says one
mempool_said : (text : List ℕ) (line : ClientLine) → mempool_line text ≡ Some line → IsCutOfClient text line
unfolding mempool_line
mempool_said text line is =
    let s = bind_some _ _ _ is in
    let s0 = bind_some _ _ _ s.2 in
    let s1 = bind_some _ _ _ s0.2 in
    let s2 = bind_some _ _ _ s1.2 in
    let s3 = bind_some _ _ _ s2.2 in
    let f0 = name_at_some s.0 s0.0 s0.1 in
    let f1 = name_at_some s0.0.1 s1.0 s1.1 in
    let f2 = number_at_some s1.0.1 s2.0 s2.1 in
    let f3 = number_some s2.0.1 s3.0 s3.1 in
    let whole : text ≡ parted (codes "mempool" ∷ s0.0.0 ∷ s1.0.0 ∷ f2.0 ∷ s2.0.1 ∷ []) =
    strip_some (codes "mempool ") text s.0 s.1 ∙ ap (λ t. codes "mempool " ++ t) (f0.1 ∙ ap (λ t. s0.0.0 ++ 32 ∷ t) (f1.1 ∙ ap (λ t. s1.0.0 ++ 32 ∷ t) f2.3)) in
    let same : Mempool s0.0.0 s1.0.0 s2.0.0 s3.0 ≡ Mempool s0.0.0 s1.0.0 (cut_number f2.1) (cut_number f3.0) = mempool_same s0.0.0 s1.0.0 s2.0.0 (cut_number f2.1) s3.0 (cut_number f3.0) f2.4 f3.2 in
    (Mempool s0.0.0 s1.0.0 f2.1 f3.0, (f2.0, s2.0.1, f0.0, f1.0, f2.2, f3.1, whole), sym (same_some _ _ s3.2) ∙ same)

-- a text that says a mget line is read
mget_again : (text : List ℕ) (cpu : ℕ) (pool : List ℕ) (object : ℕ) → SaysClient text (Mget cpu pool object) → mget_line text ≡ Some (Mget (cut_number cpu) pool (cut_number object))
unfolding mget_line
mget_again text cpu pool object is =
    ap mget_line is.5 ∙ bind_found _ _ _ _ (strip_found (codes "mget ") (is.0 ++ 32 ∷ (pool ++ 32 ∷ (is.1))))
    (bind_found _ _ _ _ (number_at_found is.0 cpu _ is.2) (bind_found _ _ _ _ (name_at_found pool _ is.3) (bind_found _ _ _ _ (number_found is.1 object is.4) refl)))

-- what is read as a mget line says one
mget_said : (text : List ℕ) (line : ClientLine) → mget_line text ≡ Some line → IsCutOfClient text line
unfolding mget_line
mget_said text line is =
    let s = bind_some _ _ _ is in
    let s0 = bind_some _ _ _ s.2 in
    let s1 = bind_some _ _ _ s0.2 in
    let s2 = bind_some _ _ _ s1.2 in
    let f0 = number_at_some s.0 s0.0 s0.1 in
    let f1 = name_at_some s0.0.1 s1.0 s1.1 in
    let f2 = number_some s1.0.1 s2.0 s2.1 in
    let whole : text ≡ parted (codes "mget" ∷ f0.0 ∷ s1.0.0 ∷ s1.0.1 ∷ []) =
    strip_some (codes "mget ") text s.0 s.1 ∙ ap (λ t. codes "mget " ++ t) (f0.3 ∙ ap (λ t. f0.0 ++ 32 ∷ t) f1.1) in
    let same : Mget s0.0.0 s1.0.0 s2.0 ≡ Mget (cut_number f0.1) s1.0.0 (cut_number f2.0) = mget_same s0.0.0 (cut_number f0.1) s1.0.0 s2.0 (cut_number f2.0) f0.4 f2.2 in
    (Mget f0.1 s1.0.0 f2.0, (f0.0, s1.0.1, f0.2, f1.0, f2.1, whole), sym (same_some _ _ s2.2) ∙ same)

-- a text that says a mput line is read
mput_again : (text : List ℕ) (cpu : ℕ) (pool : List ℕ) (object : ℕ) → SaysClient text (Mput cpu pool object) → mput_line text ≡ Some (Mput (cut_number cpu) pool (cut_number object))
unfolding mput_line
mput_again text cpu pool object is =
    ap mput_line is.5 ∙ bind_found _ _ _ _ (strip_found (codes "mput ") (is.0 ++ 32 ∷ (pool ++ 32 ∷ (is.1))))
    (bind_found _ _ _ _ (number_at_found is.0 cpu _ is.2) (bind_found _ _ _ _ (name_at_found pool _ is.3) (bind_found _ _ _ _ (number_found is.1 object is.4) refl)))

-- what is read as a mput line says one
mput_said : (text : List ℕ) (line : ClientLine) → mput_line text ≡ Some line → IsCutOfClient text line
unfolding mput_line
mput_said text line is =
    let s = bind_some _ _ _ is in
    let s0 = bind_some _ _ _ s.2 in
    let s1 = bind_some _ _ _ s0.2 in
    let s2 = bind_some _ _ _ s1.2 in
    let f0 = number_at_some s.0 s0.0 s0.1 in
    let f1 = name_at_some s0.0.1 s1.0 s1.1 in
    let f2 = number_some s1.0.1 s2.0 s2.1 in
    let whole : text ≡ parted (codes "mput" ∷ f0.0 ∷ s1.0.0 ∷ s1.0.1 ∷ []) =
    strip_some (codes "mput ") text s.0 s.1 ∙ ap (λ t. codes "mput " ++ t) (f0.3 ∙ ap (λ t. f0.0 ++ 32 ∷ t) f1.1) in
    let same : Mput s0.0.0 s1.0.0 s2.0 ≡ Mput (cut_number f0.1) s1.0.0 (cut_number f2.0) = mput_same s0.0.0 (cut_number f0.1) s1.0.0 s2.0 (cut_number f2.0) f0.4 f2.2 in
    (Mput f0.1 s1.0.0 f2.0, (f0.0, s1.0.1, f0.2, f1.0, f2.1, whole), sym (same_some _ _ s2.2) ∙ same)

-- ---- the client's line of a text

-- what is read says a client's line, and is that line with its numbers cut
pub client_said : (text : List ℕ) (line : ClientLine) → client_line text ≡ Some line → IsCutOfClient text line
unfolding client_line
client_said text line is = elim (or_some _ _ _ is) [
  | inl here ↦ kmalloc_said text line here
  | inr there ↦ elim (or_some _ _ _ there) [
    | inl here ↦ kget_said text line here
    | inr there ↦ elim (or_some _ _ _ there) [
      | inl here ↦ krealloc_said text line here
      | inr there ↦ elim (or_some _ _ _ there) [
        | inl here ↦ bulk_said text line here
        | inr there ↦ elim (or_some _ _ _ there) [
          | inl here ↦ bulkfree_said text line here
          | inr there ↦ elim (or_some _ _ _ there) [
            | inl here ↦ mempool_said text line here
            | inr there ↦ elim (or_some _ _ _ there) [
              | inl here ↦ mget_said text line here
              | inr there ↦ mput_said text line there
            ]
          ]
        ]
      ]
    ]
  ]
]

-- which form a text has is told by its first word
kget_alone : (rest : List ℕ) → let text : List ℕ = codes "kget " ++ rest in (kmalloc_line text ≡ None)
unfolding kmalloc_line kget_line krealloc_line bulk_line bulkfree_line mempool_line mget_line mput_line strip
kget_alone rest = refl

krealloc_alone : (rest : List ℕ) → let text : List ℕ = codes "krealloc " ++ rest in (kmalloc_line text ≡ None) × (kget_line text ≡ None)
unfolding kmalloc_line kget_line krealloc_line bulk_line bulkfree_line mempool_line mget_line mput_line strip
krealloc_alone rest = (refl, refl)

bulk_alone : (rest : List ℕ) → let text : List ℕ = codes "bulk " ++ rest in (kmalloc_line text ≡ None) × (kget_line text ≡ None) × (krealloc_line text ≡ None)
unfolding kmalloc_line kget_line krealloc_line bulk_line bulkfree_line mempool_line mget_line mput_line strip
bulk_alone rest = (refl, refl, refl)

bulkfree_alone : (rest : List ℕ) → let text : List ℕ = codes "bulkfree " ++ rest in (kmalloc_line text ≡ None) × (kget_line text ≡ None) × (krealloc_line text ≡ None) × (bulk_line text ≡ None)
unfolding kmalloc_line kget_line krealloc_line bulk_line bulkfree_line mempool_line mget_line mput_line strip
bulkfree_alone rest = (refl, refl, refl, refl)

mempool_alone : (rest : List ℕ) → let text : List ℕ = codes "mempool " ++ rest in (kmalloc_line text ≡ None) × (kget_line text ≡ None) × (krealloc_line text ≡ None) × (bulk_line text ≡ None) × (bulkfree_line text ≡ None)
unfolding kmalloc_line kget_line krealloc_line bulk_line bulkfree_line mempool_line mget_line mput_line strip
mempool_alone rest = (refl, refl, refl, refl, refl)

mget_alone : (rest : List ℕ) → let text : List ℕ = codes "mget " ++ rest in (kmalloc_line text ≡ None) × (kget_line text ≡ None) × (krealloc_line text ≡ None) × (bulk_line text ≡ None) × (bulkfree_line text ≡ None) × (mempool_line text ≡ None)
unfolding kmalloc_line kget_line krealloc_line bulk_line bulkfree_line mempool_line mget_line mput_line strip
mget_alone rest = (refl, refl, refl, refl, refl, refl)

mput_alone : (rest : List ℕ) → let text : List ℕ = codes "mput " ++ rest in (kmalloc_line text ≡ None) × (kget_line text ≡ None) × (krealloc_line text ≡ None) × (bulk_line text ≡ None) × (bulkfree_line text ≡ None) × (mempool_line text ≡ None) × (mget_line text ≡ None)
unfolding kmalloc_line kget_line krealloc_line bulk_line bulkfree_line mempool_line mget_line mput_line strip
mput_alone rest = (refl, refl, refl, refl, refl, refl, refl)

-- a text that says a client's line is read as that line with its numbers cut
pub client_again : (text : List ℕ) (line : ClientLine) → SaysClient text line → client_line text ≡ Some (cut_client line)
unfolding client_line
client_again text Kmalloc is = or_found _ _ _ (kmalloc_again text is)
client_again text (Kget cpu size object) is =
    let alone = kget_alone (parted (is.0 ∷ is.1 ∷ is.2 ∷ [])) in
    let whole : text ≡ codes "kget " ++ (parted (is.0 ∷ is.1 ∷ is.2 ∷ [])) = is.6 in
    or_none _ _ _ (ap kmalloc_line whole ∙ alone) (or_found _ _ _ (kget_again text cpu size object is))
client_again text (Krealloc cpu object size fresh) is =
    let alone = krealloc_alone (parted (is.0 ∷ is.1 ∷ is.2 ∷ is.3 ∷ [])) in
    let whole : text ≡ codes "krealloc " ++ (parted (is.0 ∷ is.1 ∷ is.2 ∷ is.3 ∷ [])) = is.8 in
    or_none _ _ _ (ap kmalloc_line whole ∙ alone.0) (or_none _ _ _ (ap kget_line whole ∙ alone.1) (or_found _ _ _ (krealloc_again text cpu object size fresh is)))
client_again text (Bulk cpu name first count) is =
    let alone = bulk_alone (parted (is.0 ∷ name ∷ is.1 ∷ is.2 ∷ [])) in
    let whole : text ≡ codes "bulk " ++ (parted (is.0 ∷ name ∷ is.1 ∷ is.2 ∷ [])) = is.7 in
    or_none _ _ _ (ap kmalloc_line whole ∙ alone.0) (or_none _ _ _ (ap kget_line whole ∙ alone.1) (or_none _ _ _ (ap krealloc_line whole ∙ alone.2) (or_found _ _ _ (bulk_again text cpu name first count is))))
client_again text (Bulkfree cpu first count) is =
    let alone = bulkfree_alone (parted (is.0 ∷ is.1 ∷ is.2 ∷ [])) in
    let whole : text ≡ codes "bulkfree " ++ (parted (is.0 ∷ is.1 ∷ is.2 ∷ [])) = is.6 in
    or_none _ _ _ (ap kmalloc_line whole ∙ alone.0) (or_none _ _ _ (ap kget_line whole ∙ alone.1) (or_none _ _ _ (ap krealloc_line whole ∙ alone.2) (or_none _ _ _ (ap bulk_line whole ∙ alone.3) (or_found _ _ _ (bulkfree_again text cpu first count is)))))
client_again text (Mempool pool name min first) is =
    let alone = mempool_alone (parted (pool ∷ name ∷ is.0 ∷ is.1 ∷ [])) in
    let whole : text ≡ codes "mempool " ++ (parted (pool ∷ name ∷ is.0 ∷ is.1 ∷ [])) = is.6 in
    or_none _ _ _ (ap kmalloc_line whole ∙ alone.0) (or_none _ _ _ (ap kget_line whole ∙ alone.1) (or_none _ _ _ (ap krealloc_line whole ∙ alone.2) (or_none _ _ _ (ap bulk_line whole ∙ alone.3) (or_none _ _ _ (ap bulkfree_line whole ∙ alone.4) (or_found _ _ _ (mempool_again text pool name min first is))))))
client_again text (Mget cpu pool object) is =
    let alone = mget_alone (parted (is.0 ∷ pool ∷ is.1 ∷ [])) in
    let whole : text ≡ codes "mget " ++ (parted (is.0 ∷ pool ∷ is.1 ∷ [])) = is.5 in
    or_none _ _ _ (ap kmalloc_line whole ∙ alone.0) (or_none _ _ _ (ap kget_line whole ∙ alone.1) (or_none _ _ _ (ap krealloc_line whole ∙ alone.2) (or_none _ _ _ (ap bulk_line whole ∙ alone.3) (or_none _ _ _ (ap bulkfree_line whole ∙ alone.4) (or_none _ _ _ (ap mempool_line whole ∙ alone.5) (or_found _ _ _ (mget_again text cpu pool object is)))))))
client_again text (Mput cpu pool object) is =
    let alone = mput_alone (parted (is.0 ∷ pool ∷ is.1 ∷ [])) in
    let whole : text ≡ codes "mput " ++ (parted (is.0 ∷ pool ∷ is.1 ∷ [])) = is.5 in
    or_none _ _ _ (ap kmalloc_line whole ∙ alone.0) (or_none _ _ _ (ap kget_line whole ∙ alone.1) (or_none _ _ _ (ap krealloc_line whole ∙ alone.2) (or_none _ _ _ (ap bulk_line whole ∙ alone.3) (or_none _ _ _ (ap bulkfree_line whole ∙ alone.4) (or_none _ _ _ (ap mempool_line whole ∙ alone.5) (or_none _ _ _ (ap mget_line whole ∙ alone.6) (mput_again text cpu pool object is)))))))
