-- Texts and lines: a text that says a line is read as that line with its numbers cut at 2 ^ 64, and what is read is said.
use Rattle.std.proofs.Common.{◌≡◌, ℕ, ◌+◌, Bool, true, cond, Option, Some, None, List, [], ◌∷◌, ◌++◌, refl, sym, ap, ◌∙◌, nat_eq, inl, inr}
use Rattle.std.specs.Prelude.{option_map, codes}
use Rattle.std.specs.Cmp.Lexicographic.{pointwise, bytes_decides}
use Rattle.std.proofs.lemmas.Bool.{eqb-true, eq-eqb}
use Rattle.slub_object_layout.specs.declared.layout.Flags.{Flags}
use Rattle.slub_common.specs.Numbers.{Writes, cut_number}
use Rattle.slub_common.proofs.Digits.{number_found, number_some}
use Rattle.slub_trace_reader.specs.declared.line.Knob.{Knob}
use Rattle.slub_trace_reader.specs.declared.line.Line.{Line}
use Rattle.slub_trace_reader.specs.declared.line.Line.TheVariants.{Passed, Slubtrace, Machine, Cache, Shrink, Destroy, Tune, Slabinfo, Round, Alloc, Free, Write, Read, Poke, Trim, Flush, Done, End}
use Rattle.slub_trace_reader.specs.Forms.{field, slubtrace_line, machine_tail, machine_end, machine_line, cache_line, shrink_line, destroy_line, tune_line, round_line, alloc_line, free_line, write_line, read_line, poke_line, trim_line, flush_line, plain_line, is_passed}
use Rattle.slub_trace_reader.specs.Lines.{Says, SaysTid, IsPassed, knob_word, parted}
use Rattle.slub_trace_reader.specs.Cut.{cut_line}
use Rattle.slub_trace_reader.proofs.Fields.{strip_found, strip_some, field_found, field_none, field_some}
use Rattle.slub_trace_reader.proofs.WordTexts.{bind_found, bind_some, same_some, map_some, number_word, number_at_found, number_at_some, name_found, name_some, name_at_found, name_at_some, flags_found, flags_some, byte_found, byte_some, offset_at_found, offset_at_some, chosen, knob_at_found, knob_at_some, version_found, version_some}

-- ---- lines with equal numbers

round_same : (x0 y0 : ℕ) → x0 ≡ y0 → Round x0 ≡ Round y0
round_same x0 y0 e0 = rw (e0) refl

cache_same : (x0 : List ℕ) (x1 y1 : ℕ) (x2 y2 : ℕ) (x3 : Flags) → x1 ≡ y1 → x2 ≡ y2 → Cache x0 x1 x2 x3 ≡ Cache x0 y1 y2 x3
cache_same x0 x1 y1 x2 y2 x3 e1 e2 = rw (e1, e2) refl

alloc_same : (x0 y0 : ℕ) (x1 y1 : ℕ) (x2 : List ℕ) (x3 y3 : ℕ) → x0 ≡ y0 → x1 ≡ y1 → x3 ≡ y3 → Alloc x0 x1 x2 x3 ≡ Alloc y0 y1 x2 y3
alloc_same x0 y0 x1 y1 x2 x3 y3 e0 e1 e3 = rw (e0, e1, e3) refl

free_same : (x0 y0 : ℕ) (x1 y1 : ℕ) (x2 y2 : ℕ) → x0 ≡ y0 → x1 ≡ y1 → x2 ≡ y2 → Free x0 x1 x2 ≡ Free y0 y1 y2
free_same x0 y0 x1 y1 x2 y2 e0 e1 e2 = rw (e0, e1, e2) refl

write_same : (x0 y0 : ℕ) (x1 y1 : ℕ) (x2 y2 : ℕ) (x3 y3 : ℕ) → x0 ≡ y0 → x1 ≡ y1 → x2 ≡ y2 → x3 ≡ y3 → Write x0 x1 x2 x3 ≡ Write y0 y1 y2 y3
write_same x0 y0 x1 y1 x2 y2 x3 y3 e0 e1 e2 e3 = rw (e0, e1, e2, e3) refl

read_same : (x0 y0 : ℕ) (x1 y1 : ℕ) (x2 y2 : ℕ) → x0 ≡ y0 → x1 ≡ y1 → x2 ≡ y2 → Read x0 x1 x2 ≡ Read y0 y1 y2
read_same x0 y0 x1 y1 x2 y2 e0 e1 e2 = rw (e0, e1, e2) refl

poke_same : (x0 y0 : ℕ) (x1 y1 : ℕ) (x2 : Bool) (x3 y3 : ℕ) (x4 : ℕ) → x0 ≡ y0 → x1 ≡ y1 → x3 ≡ y3 → Poke x0 x1 x2 x3 x4 ≡ Poke y0 y1 x2 y3 x4
poke_same x0 y0 x1 y1 x2 x3 y3 x4 e0 e1 e3 = rw (e0, e1, e3) refl

tune_same : (x0 : List ℕ) (x1 : Knob) (x2 y2 : ℕ) → x2 ≡ y2 → Tune x0 x1 x2 ≡ Tune x0 x1 y2
tune_same x0 x1 x2 y2 e2 = rw (e2) refl

trim_same : (x0 y0 : ℕ) (x1 : List ℕ) → x0 ≡ y0 → Trim x0 x1 ≡ Trim y0 x1
trim_same x0 y0 x1 e0 = rw (e0) refl

flush_same : (x0 y0 : ℕ) (x1 y1 : ℕ) → x0 ≡ y0 → x1 ≡ y1 → Flush x0 x1 ≡ Flush y0 y1
flush_same x0 y0 x1 y1 e0 e1 = rw (e0, e1) refl

-- ---- the forms

-- the text says a line, and this is that line with its numbers cut
abbrev pub IsCutOf : List ℕ → Line → Type 0
IsCutOf text c = (line : Line) × Says text line × (c ≡ cut_line line)

-- a text that says a round line is read
pub round_again : (text : List ℕ) (workers : ℕ) → Says text (Round workers) → round_line text ≡ Some (Round (cut_number workers))
unfolding round_line
round_again text workers is = ap round_line is.2 ∙ bind_found _ _ _ _ (strip_found (codes "round ") (is.0)) (bind_found _ _ _ _ (number_found is.0 workers is.1) refl)

-- what is read as a round line says one
pub round_said : (text : List ℕ) (line : Line) → round_line text ≡ Some line → IsCutOf text line
unfolding round_line
round_said text line is =
    let s = bind_some _ _ _ is in
    let s0 = bind_some _ _ _ s.2 in
    let f0 = number_some s.0 s0.0 s0.1 in
    let whole : text ≡ parted (codes "round" ∷ s.0 ∷ []) = strip_some (codes "round ") text s.0 s.1 in
    let same : Round s0.0 ≡ Round (cut_number f0.0) = round_same s0.0 (cut_number f0.0) f0.2 in
    (Round f0.0, (s.0, f0.1, whole), sym (same_some _ _ s0.2) ∙ same)

-- a text that says a shrink line is read
pub shrink_again : (text : List ℕ) (name : List ℕ) → Says text (Shrink name) → shrink_line text ≡ Some (Shrink name)
unfolding shrink_line
shrink_again text name is = ap shrink_line is.1 ∙ bind_found _ _ _ _ (strip_found (codes "shrink ") (name)) (bind_found _ _ _ _ (name_found name is.0) refl)

-- what is read as a shrink line says one
pub shrink_said : (text : List ℕ) (line : Line) → shrink_line text ≡ Some line → IsCutOf text line
unfolding shrink_line
shrink_said text line is =
    let s = bind_some _ _ _ is in
    let s0 = bind_some _ _ _ s.2 in
    let f0 = name_some s.0 s0.0 s0.1 in
    let whole : text ≡ parted (codes "shrink" ∷ s0.0 ∷ []) = strip_some (codes "shrink ") text s.0 s.1 ∙ ap (λ t. codes "shrink " ++ t) f0.1 in
    (Shrink s0.0, (f0.0, whole), sym (same_some _ _ s0.2))

-- a text that says a destroy line is read
pub destroy_again : (text : List ℕ) (name : List ℕ) → Says text (Destroy name) → destroy_line text ≡ Some (Destroy name)
unfolding destroy_line
destroy_again text name is = ap destroy_line is.1 ∙ bind_found _ _ _ _ (strip_found (codes "destroy ") (name)) (bind_found _ _ _ _ (name_found name is.0) refl)

-- what is read as a destroy line says one
pub destroy_said : (text : List ℕ) (line : Line) → destroy_line text ≡ Some line → IsCutOf text line
unfolding destroy_line
destroy_said text line is =
    let s = bind_some _ _ _ is in
    let s0 = bind_some _ _ _ s.2 in
    let f0 = name_some s.0 s0.0 s0.1 in
    let whole : text ≡ parted (codes "destroy" ∷ s0.0 ∷ []) = strip_some (codes "destroy ") text s.0 s.1 ∙ ap (λ t. codes "destroy " ++ t) f0.1 in
    (Destroy s0.0, (f0.0, whole), sym (same_some _ _ s0.2))

-- a text that says a cache line is read
pub cache_again : (text : List ℕ) (name : List ℕ) (size : ℕ) (align : ℕ) (flags : Flags) → Says text (Cache name size align flags) → cache_line text ≡ Some (Cache name (cut_number size) (cut_number align) flags)
unfolding cache_line
cache_again text name size align flags is = ap cache_line is.7 ∙ bind_found _ _ _ _ (strip_found (codes "cache ") (name ++ 32 ∷ (is.0 ++ 32 ∷ (is.1 ++ 32 ∷ (is.2))))) (bind_found _ _ _ _ (name_at_found name _ is.3) (bind_found _ _ _ _ (number_at_found is.0 size _ is.4) (bind_found _ _ _ _ (number_at_found is.1 align _ is.5) (bind_found _ _ _ _ (flags_found is.2 flags is.6) refl))))

-- what is read as a cache line says one
pub cache_said : (text : List ℕ) (line : Line) → cache_line text ≡ Some line → IsCutOf text line
unfolding cache_line
cache_said text line is =
    let s = bind_some _ _ _ is in
    let s0 = bind_some _ _ _ s.2 in
    let s1 = bind_some _ _ _ s0.2 in
    let s2 = bind_some _ _ _ s1.2 in
    let s3 = bind_some _ _ _ s2.2 in
    let f0 = name_at_some s.0 s0.0 s0.1 in
    let f1 = number_at_some s0.0.1 s1.0 s1.1 in
    let f2 = number_at_some s1.0.1 s2.0 s2.1 in
    let f3 = flags_some s2.0.1 s3.0 s3.1 in
    let whole : text ≡ parted (codes "cache" ∷ s0.0.0 ∷ f1.0 ∷ f2.0 ∷ s2.0.1 ∷ []) = strip_some (codes "cache ") text s.0 s.1 ∙ ap (λ t. codes "cache " ++ t) (f0.1 ∙ ap (λ t. s0.0.0 ++ 32 ∷ t) (f1.3 ∙ ap (λ t. f1.0 ++ 32 ∷ t) f2.3)) in
    let same : Cache s0.0.0 s1.0.0 s2.0.0 s3.0 ≡ Cache s0.0.0 (cut_number f1.1) (cut_number f2.1) s3.0 = cache_same s0.0.0 s1.0.0 (cut_number f1.1) s2.0.0 (cut_number f2.1) s3.0 f1.4 f2.4 in
    (Cache s0.0.0 f1.1 f2.1 s3.0, (f1.0, f2.0, s2.0.1, f0.0, f1.2, f2.2, f3, whole), sym (same_some _ _ s3.2) ∙ same)

-- a text that says a alloc line is read
pub alloc_again : (text : List ℕ) (worker : ℕ) (cpu : ℕ) (name : List ℕ) (object : ℕ) → Says text (Alloc worker cpu name object) → alloc_line text ≡ Some (Alloc (cut_number worker) (cut_number cpu) name (cut_number object))
unfolding alloc_line
alloc_again text worker cpu name object is = ap alloc_line is.7 ∙ bind_found _ _ _ _ (strip_found (codes "alloc ") (is.0 ++ 32 ∷ (is.1 ++ 32 ∷ (name ++ 32 ∷ (is.2))))) (bind_found _ _ _ _ (number_at_found is.0 worker _ is.3) (bind_found _ _ _ _ (number_at_found is.1 cpu _ is.4) (bind_found _ _ _ _ (name_at_found name _ is.5) (bind_found _ _ _ _ (number_found is.2 object is.6) refl))))

-- what is read as a alloc line says one
pub alloc_said : (text : List ℕ) (line : Line) → alloc_line text ≡ Some line → IsCutOf text line
unfolding alloc_line
alloc_said text line is =
    let s = bind_some _ _ _ is in
    let s0 = bind_some _ _ _ s.2 in
    let s1 = bind_some _ _ _ s0.2 in
    let s2 = bind_some _ _ _ s1.2 in
    let s3 = bind_some _ _ _ s2.2 in
    let f0 = number_at_some s.0 s0.0 s0.1 in
    let f1 = number_at_some s0.0.1 s1.0 s1.1 in
    let f2 = name_at_some s1.0.1 s2.0 s2.1 in
    let f3 = number_some s2.0.1 s3.0 s3.1 in
    let whole : text ≡ parted (codes "alloc" ∷ f0.0 ∷ f1.0 ∷ s2.0.0 ∷ s2.0.1 ∷ []) = strip_some (codes "alloc ") text s.0 s.1 ∙ ap (λ t. codes "alloc " ++ t) (f0.3 ∙ ap (λ t. f0.0 ++ 32 ∷ t) (f1.3 ∙ ap (λ t. f1.0 ++ 32 ∷ t) f2.1)) in
    let same : Alloc s0.0.0 s1.0.0 s2.0.0 s3.0 ≡ Alloc (cut_number f0.1) (cut_number f1.1) s2.0.0 (cut_number f3.0) = alloc_same s0.0.0 (cut_number f0.1) s1.0.0 (cut_number f1.1) s2.0.0 s3.0 (cut_number f3.0) f0.4 f1.4 f3.2 in
    (Alloc f0.1 f1.1 s2.0.0 f3.0, (f0.0, f1.0, s2.0.1, f0.2, f1.2, f2.0, f3.1, whole), sym (same_some _ _ s3.2) ∙ same)

-- a text that says a free line is read
pub free_again : (text : List ℕ) (worker : ℕ) (cpu : ℕ) (object : ℕ) → Says text (Free worker cpu object) → free_line text ≡ Some (Free (cut_number worker) (cut_number cpu) (cut_number object))
unfolding free_line
free_again text worker cpu object is = ap free_line is.6 ∙ bind_found _ _ _ _ (strip_found (codes "free ") (is.0 ++ 32 ∷ (is.1 ++ 32 ∷ (is.2)))) (bind_found _ _ _ _ (number_at_found is.0 worker _ is.3) (bind_found _ _ _ _ (number_at_found is.1 cpu _ is.4) (bind_found _ _ _ _ (number_found is.2 object is.5) refl)))

-- what is read as a free line says one
pub free_said : (text : List ℕ) (line : Line) → free_line text ≡ Some line → IsCutOf text line
unfolding free_line
free_said text line is =
    let s = bind_some _ _ _ is in
    let s0 = bind_some _ _ _ s.2 in
    let s1 = bind_some _ _ _ s0.2 in
    let s2 = bind_some _ _ _ s1.2 in
    let f0 = number_at_some s.0 s0.0 s0.1 in
    let f1 = number_at_some s0.0.1 s1.0 s1.1 in
    let f2 = number_some s1.0.1 s2.0 s2.1 in
    let whole : text ≡ parted (codes "free" ∷ f0.0 ∷ f1.0 ∷ s1.0.1 ∷ []) = strip_some (codes "free ") text s.0 s.1 ∙ ap (λ t. codes "free " ++ t) (f0.3 ∙ ap (λ t. f0.0 ++ 32 ∷ t) f1.3) in
    let same : Free s0.0.0 s1.0.0 s2.0 ≡ Free (cut_number f0.1) (cut_number f1.1) (cut_number f2.0) = free_same s0.0.0 (cut_number f0.1) s1.0.0 (cut_number f1.1) s2.0 (cut_number f2.0) f0.4 f1.4 f2.2 in
    (Free f0.1 f1.1 f2.0, (f0.0, f1.0, s1.0.1, f0.2, f1.2, f2.1, whole), sym (same_some _ _ s2.2) ∙ same)

-- a text that says a write line is read
pub write_again : (text : List ℕ) (worker : ℕ) (object : ℕ) (word : ℕ) (value : ℕ) → Says text (Write worker object word value) → write_line text ≡ Some (Write (cut_number worker) (cut_number object) (cut_number word) (cut_number value))
unfolding write_line
write_again text worker object word value is = ap write_line is.8 ∙ bind_found _ _ _ _ (strip_found (codes "write ") (is.0 ++ 32 ∷ (is.1 ++ 32 ∷ (is.2 ++ 32 ∷ (is.3))))) (bind_found _ _ _ _ (number_at_found is.0 worker _ is.4) (bind_found _ _ _ _ (number_at_found is.1 object _ is.5) (bind_found _ _ _ _ (number_at_found is.2 word _ is.6) (bind_found _ _ _ _ (number_found is.3 value is.7) refl))))

-- what is read as a write line says one
pub write_said : (text : List ℕ) (line : Line) → write_line text ≡ Some line → IsCutOf text line
unfolding write_line
write_said text line is =
    let s = bind_some _ _ _ is in
    let s0 = bind_some _ _ _ s.2 in
    let s1 = bind_some _ _ _ s0.2 in
    let s2 = bind_some _ _ _ s1.2 in
    let s3 = bind_some _ _ _ s2.2 in
    let f0 = number_at_some s.0 s0.0 s0.1 in
    let f1 = number_at_some s0.0.1 s1.0 s1.1 in
    let f2 = number_at_some s1.0.1 s2.0 s2.1 in
    let f3 = number_some s2.0.1 s3.0 s3.1 in
    let whole : text ≡ parted (codes "write" ∷ f0.0 ∷ f1.0 ∷ f2.0 ∷ s2.0.1 ∷ []) = strip_some (codes "write ") text s.0 s.1 ∙ ap (λ t. codes "write " ++ t) (f0.3 ∙ ap (λ t. f0.0 ++ 32 ∷ t) (f1.3 ∙ ap (λ t. f1.0 ++ 32 ∷ t) f2.3)) in
    let same : Write s0.0.0 s1.0.0 s2.0.0 s3.0 ≡ Write (cut_number f0.1) (cut_number f1.1) (cut_number f2.1) (cut_number f3.0) = write_same s0.0.0 (cut_number f0.1) s1.0.0 (cut_number f1.1) s2.0.0 (cut_number f2.1) s3.0 (cut_number f3.0) f0.4 f1.4 f2.4 f3.2 in
    (Write f0.1 f1.1 f2.1 f3.0, (f0.0, f1.0, f2.0, s2.0.1, f0.2, f1.2, f2.2, f3.1, whole), sym (same_some _ _ s3.2) ∙ same)

-- a text that says a read line is read
pub read_again : (text : List ℕ) (worker : ℕ) (object : ℕ) (word : ℕ) → Says text (Read worker object word) → read_line text ≡ Some (Read (cut_number worker) (cut_number object) (cut_number word))
unfolding read_line
read_again text worker object word is = ap read_line is.6 ∙ bind_found _ _ _ _ (strip_found (codes "read ") (is.0 ++ 32 ∷ (is.1 ++ 32 ∷ (is.2)))) (bind_found _ _ _ _ (number_at_found is.0 worker _ is.3) (bind_found _ _ _ _ (number_at_found is.1 object _ is.4) (bind_found _ _ _ _ (number_found is.2 word is.5) refl)))

-- what is read as a read line says one
pub read_said : (text : List ℕ) (line : Line) → read_line text ≡ Some line → IsCutOf text line
unfolding read_line
read_said text line is =
    let s = bind_some _ _ _ is in
    let s0 = bind_some _ _ _ s.2 in
    let s1 = bind_some _ _ _ s0.2 in
    let s2 = bind_some _ _ _ s1.2 in
    let f0 = number_at_some s.0 s0.0 s0.1 in
    let f1 = number_at_some s0.0.1 s1.0 s1.1 in
    let f2 = number_some s1.0.1 s2.0 s2.1 in
    let whole : text ≡ parted (codes "read" ∷ f0.0 ∷ f1.0 ∷ s1.0.1 ∷ []) = strip_some (codes "read ") text s.0 s.1 ∙ ap (λ t. codes "read " ++ t) (f0.3 ∙ ap (λ t. f0.0 ++ 32 ∷ t) f1.3) in
    let same : Read s0.0.0 s1.0.0 s2.0 ≡ Read (cut_number f0.1) (cut_number f1.1) (cut_number f2.0) = read_same s0.0.0 (cut_number f0.1) s1.0.0 (cut_number f1.1) s2.0 (cut_number f2.0) f0.4 f1.4 f2.2 in
    (Read f0.1 f1.1 f2.0, (f0.0, f1.0, s1.0.1, f0.2, f1.2, f2.1, whole), sym (same_some _ _ s2.2) ∙ same)

-- a text that says a poke line is read
pub poke_again : (text : List ℕ) (worker : ℕ) (object : ℕ) (negative : Bool) (offset : ℕ) (byte : ℕ) → Says text (Poke worker object negative offset byte) → poke_line text ≡ Some (Poke (cut_number worker) (cut_number object) negative (cut_number offset) byte)
unfolding poke_line
poke_again text worker object negative offset byte is = ap poke_line is.8 ∙ bind_found _ _ _ _ (strip_found (codes "poke ") (is.0 ++ 32 ∷ (is.1 ++ 32 ∷ (is.2 ++ 32 ∷ (is.3))))) (bind_found _ _ _ _ (number_at_found is.0 worker _ is.4) (bind_found _ _ _ _ (number_at_found is.1 object _ is.5) (bind_found _ _ _ _ (offset_at_found is.2 negative offset _ is.6) (bind_found _ _ _ _ (byte_found is.3 byte is.7) refl))))

-- what is read as a poke line says one
pub poke_said : (text : List ℕ) (line : Line) → poke_line text ≡ Some line → IsCutOf text line
unfolding poke_line
poke_said text line is =
    let s = bind_some _ _ _ is in
    let s0 = bind_some _ _ _ s.2 in
    let s1 = bind_some _ _ _ s0.2 in
    let s2 = bind_some _ _ _ s1.2 in
    let s3 = bind_some _ _ _ s2.2 in
    let f0 = number_at_some s.0 s0.0 s0.1 in
    let f1 = number_at_some s0.0.1 s1.0 s1.1 in
    let f2 = offset_at_some s1.0.1 s2.0 s2.1 in
    let f3 = byte_some s2.0.1 s3.0 s3.1 in
    let whole : text ≡ parted (codes "poke" ∷ f0.0 ∷ f1.0 ∷ f2.0 ∷ s2.0.1 ∷ []) = strip_some (codes "poke ") text s.0 s.1 ∙ ap (λ t. codes "poke " ++ t) (f0.3 ∙ ap (λ t. f0.0 ++ 32 ∷ t) (f1.3 ∙ ap (λ t. f1.0 ++ 32 ∷ t) f2.3)) in
    let same : Poke s0.0.0 s1.0.0 s2.0.0.0 s2.0.0.1 s3.0 ≡ Poke (cut_number f0.1) (cut_number f1.1) s2.0.0.0 (cut_number f2.1) s3.0 = poke_same s0.0.0 (cut_number f0.1) s1.0.0 (cut_number f1.1) s2.0.0.0 s2.0.0.1 (cut_number f2.1) s3.0 f0.4 f1.4 f2.4 in
    (Poke f0.1 f1.1 s2.0.0.0 f2.1 s3.0, (f0.0, f1.0, f2.0, s2.0.1, f0.2, f1.2, f2.2, f3, whole), sym (same_some _ _ s3.2) ∙ same)

-- the end of a machine line
end_none : (frames : ℕ) (word : List ℕ) (cpus : ℕ) → Writes word cpus → machine_end frames word ≡ Some (Machine frames (cut_number cpus) None)
unfolding machine_end
end_none frames word cpus is =
    ap (machine_tail frames word) (field_none word (number_word word is.form)) ∙ ap (option_map (λ c. Machine frames c None)) (number_found word cpus is)

end_tid : (frames : ℕ) (word : List ℕ) (cpus : ℕ) (digits : List ℕ) (tid : ℕ) → Writes word cpus → Writes digits tid
    → machine_end frames (word ++ 32 ∷ (codes "tid " ++ digits)) ≡ Some (Machine frames (cut_number cpus) (Some (cut_number tid)))
unfolding machine_end
end_tid frames word cpus digits tid is also =
    ap (machine_tail frames (word ++ 32 ∷ (codes "tid " ++ digits))) (field_found word (codes "tid " ++ digits) (number_word word is.form))
    ∙ bind_found _ _ _ _ (number_found word cpus is) (bind_found _ _ _ _ (strip_found (codes "tid ") digits) (bind_found _ _ _ _ (number_found digits tid also) refl))

-- what is read there
EndSays : ℕ → List ℕ → Line → Type 0
EndSays frames bytes line =
    (c : List ℕ) × (rest : List (List ℕ)) × (cpus : ℕ) × (tid : Option ℕ) × Writes c cpus × SaysTid rest tid × (bytes ≡ parted (c ∷ rest))
    × (line ≡ Machine frames (cut_number cpus) (option_map cut_number tid))

tail_said : (frames : ℕ) (bytes : List ℕ) (o : Option (List ℕ × List ℕ)) (line : Line) → field bytes ≡ o → machine_tail frames bytes o ≡ Some line → EndSays frames bytes line
unfolding EndSays
tail_said frames bytes None line at is =
    let m = map_some _ _ _ is in
    let f = number_some bytes m.0 m.1 in
    (bytes, [], f.0, None, f.1, refl, refl, sym m.2 ∙ ap (λ c. Machine frames c None) f.2)
tail_said frames bytes (Some found) line at is =
    let s0 = bind_some _ _ _ is in
    let s1 = bind_some _ _ _ s0.2 in
    let s2 = bind_some _ _ _ s1.2 in
    let f0 = number_some found.0 s0.0 s0.1 in
    let f2 = number_some s1.0 s2.0 s2.1 in
    let whole : bytes ≡ parted (found.0 ∷ codes "tid" ∷ s1.0 ∷ []) =
    (field_some bytes found.0 found.1 at).0 ∙ ap (λ t. found.0 ++ 32 ∷ t) (strip_some (codes "tid ") found.1 s1.0 s1.1) in (
      found.0,
      codes "tid" ∷ s1.0 ∷ [],
      f0.0,
      Some f2.0,
      f0.1,
      (s1.0, f2.1, refl),
      whole,
      sym (same_some _ _ s2.2) ∙ ap (λ c. Machine frames c (Some s2.0)) f0.2 ∙ ap (λ t. Machine frames (cut_number f0.0) (Some t)) f2.2,
    )

end_said : (frames : ℕ) (bytes : List ℕ) (line : Line) → machine_end frames bytes ≡ Some line → EndSays frames bytes line
unfolding machine_end
end_said frames bytes line is = tail_said frames bytes (field bytes) line refl is

-- a text that says a machine line is read
pub machine_again : (text : List ℕ) (frames cpus : ℕ) (tid : Option ℕ) → Says text (Machine frames cpus tid) → machine_line text ≡ Some (cut_line (Machine frames cpus tid))
unfolding machine_line
machine_again text frames cpus None is =
    let whole : text ≡ parted (codes "machine" ∷ is.0 ∷ is.1 ∷ []) = is.6 ∙ ap (λ r. parted (codes "machine" ∷ is.0 ∷ is.1 ∷ r)) is.5 in
    ap machine_line whole ∙ bind_found _ _ _ _ (strip_found (codes "machine ") (is.0 ++ 32 ∷ is.1))
    (bind_found _ _ _ _ (number_at_found is.0 frames _ is.3) (end_none (cut_number frames) is.1 cpus is.4))
machine_again text frames cpus (Some tid) is =
    let whole : text ≡ parted (codes "machine" ∷ is.0 ∷ is.1 ∷ codes "tid" ∷ is.5.0 ∷ []) = is.6 ∙ ap (λ r. parted (codes "machine" ∷ is.0 ∷ is.1 ∷ r)) is.5.2 in
    ap machine_line whole ∙ bind_found _ _ _ _ (strip_found (codes "machine ") (is.0 ++ 32 ∷ (is.1 ++ 32 ∷ (codes "tid " ++ is.5.0))))
    (bind_found _ _ _ _ (number_at_found is.0 frames _ is.3) (end_tid (cut_number frames) is.1 cpus is.5.0 tid is.4 is.5.1))

-- what is read as a machine line says one
pub machine_said : (text : List ℕ) (line : Line) → machine_line text ≡ Some line → IsCutOf text line
unfolding machine_line EndSays
machine_said text line is =
    let s = bind_some _ _ _ is in
    let s0 = bind_some _ _ _ s.2 in
    let f0 = number_at_some s.0 s0.0 s0.1 in
    let e = end_said s0.0.0 s0.0.1 line s0.2 in
    let whole : text ≡ parted (codes "machine" ∷ f0.0 ∷ e.0 ∷ e.1) = strip_some (codes "machine ") text s.0 s.1 ∙ ap (λ t. codes "machine " ++ t) (f0.3 ∙ ap (λ t. f0.0 ++ 32 ∷ t) e.6) in
    (Machine f0.1 e.2 e.3, (f0.0, e.0, e.1, f0.2, e.4, e.5, whole), e.7 ∙ ap (λ f. Machine f (cut_number e.2) (option_map cut_number e.3)) f0.4)

-- a text that says a slubtrace line is read
pub slubtrace_again : (text : List ℕ) (version : ℕ) → Says text (Slubtrace version) → slubtrace_line text ≡ Some (Slubtrace version)
unfolding slubtrace_line
slubtrace_again text version is =
    ap slubtrace_line is.2 ∙ bind_found _ _ _ _ (strip_found (codes "slubtrace ") ((48 + version) ∷ [])) (bind_found _ _ _ _ (version_found version is.0 is.1) refl)

-- what is read as a slubtrace line says one
pub slubtrace_said : (text : List ℕ) (line : Line) → slubtrace_line text ≡ Some line → IsCutOf text line
unfolding slubtrace_line
slubtrace_said text line is =
    let s = bind_some _ _ _ is in
    let s0 = bind_some _ _ _ s.2 in
    let f0 = version_some s.0 s0.0 s0.1 in
    let whole : text ≡ parted (codes "slubtrace" ∷ ((48 + s0.0) ∷ []) ∷ []) = strip_some (codes "slubtrace ") text s.0 s.1 ∙ ap (λ t. codes "slubtrace " ++ t) f0.2 in
    (Slubtrace s0.0, (f0.0, f0.1, whole), sym (same_some _ _ s0.2))

-- a text that says a tune line is read
pub tune_again : (text : List ℕ) (name : List ℕ) (knob : Knob) (number : ℕ) → Says text (Tune name knob number) → tune_line text ≡ Some (Tune name knob (cut_number number))
unfolding tune_line
tune_again text name knob number is =
    ap tune_line is.3 ∙ bind_found _ _ _ _ (strip_found (codes "tune ") (name ++ 32 ∷ (knob_word knob ++ 32 ∷ (is.0))))
    (bind_found _ _ _ _ (name_at_found name _ is.1) (bind_found _ _ _ _ (knob_at_found knob _) (bind_found _ _ _ _ (number_found is.0 number is.2) refl)))

-- what is read as a tune line says one
pub tune_said : (text : List ℕ) (line : Line) → tune_line text ≡ Some line → IsCutOf text line
unfolding tune_line
tune_said text line is =
    let s = bind_some _ _ _ is in
    let s0 = bind_some _ _ _ s.2 in
    let s1 = bind_some _ _ _ s0.2 in
    let s2 = bind_some _ _ _ s1.2 in
    let f0 = name_at_some s.0 s0.0 s0.1 in
    let f1 = knob_at_some s0.0.1 s1.0 s1.1 in
    let f2 = number_some s1.0.1 s2.0 s2.1 in
    let whole : text ≡ parted (codes "tune" ∷ s0.0.0 ∷ knob_word s1.0.0 ∷ s1.0.1 ∷ []) =
    strip_some (codes "tune ") text s.0 s.1 ∙ ap (λ t. codes "tune " ++ t) (f0.1 ∙ ap (λ t. s0.0.0 ++ 32 ∷ t) f1) in
    let same : Tune s0.0.0 s1.0.0 s2.0 ≡ Tune s0.0.0 s1.0.0 (cut_number f2.0) = tune_same s0.0.0 s1.0.0 s2.0 (cut_number f2.0) f2.2 in
    (Tune s0.0.0 s1.0.0 f2.0, (s1.0.1, f0.0, f2.1, whole), sym (same_some _ _ s2.2) ∙ same)

-- a text that says a trim line is read
pub trim_again : (text : List ℕ) (worker : ℕ) (name : List ℕ) → Says text (Trim worker name) → trim_line text ≡ Some (Trim (cut_number worker) name)
unfolding trim_line
trim_again text worker name is =
    ap trim_line is.3 ∙ bind_found _ _ _ _ (strip_found (codes "trim ") (is.0 ++ 32 ∷ (name)))
    (bind_found _ _ _ _ (number_at_found is.0 worker _ is.1) (bind_found _ _ _ _ (name_found name is.2) refl))

-- what is read as a trim line says one
pub trim_said : (text : List ℕ) (line : Line) → trim_line text ≡ Some line → IsCutOf text line
unfolding trim_line
trim_said text line is =
    let s = bind_some _ _ _ is in
    let s0 = bind_some _ _ _ s.2 in
    let s1 = bind_some _ _ _ s0.2 in
    let f0 = number_at_some s.0 s0.0 s0.1 in
    let f1 = name_some s0.0.1 s1.0 s1.1 in
    let whole : text ≡ parted (codes "trim" ∷ f0.0 ∷ s1.0 ∷ []) =
    strip_some (codes "trim ") text s.0 s.1 ∙ ap (λ t. codes "trim " ++ t) (f0.3 ∙ ap (λ t. f0.0 ++ 32 ∷ t) f1.1) in
    let same : Trim s0.0.0 s1.0 ≡ Trim (cut_number f0.1) s1.0 = trim_same s0.0.0 (cut_number f0.1) s1.0 f0.4 in
    (Trim f0.1 s1.0, (f0.0, f0.2, f1.0, whole), sym (same_some _ _ s1.2) ∙ same)

-- a text that says a flush line is read
pub flush_again : (text : List ℕ) (worker : ℕ) (cpu : ℕ) → Says text (Flush worker cpu) → flush_line text ≡ Some (Flush (cut_number worker) (cut_number cpu))
unfolding flush_line
flush_again text worker cpu is =
    ap flush_line is.4 ∙ bind_found _ _ _ _ (strip_found (codes "flush ") (is.0 ++ 32 ∷ (is.1)))
    (bind_found _ _ _ _ (number_at_found is.0 worker _ is.2) (bind_found _ _ _ _ (number_found is.1 cpu is.3) refl))

-- what is read as a flush line says one
pub flush_said : (text : List ℕ) (line : Line) → flush_line text ≡ Some line → IsCutOf text line
unfolding flush_line
flush_said text line is =
    let s = bind_some _ _ _ is in
    let s0 = bind_some _ _ _ s.2 in
    let s1 = bind_some _ _ _ s0.2 in
    let f0 = number_at_some s.0 s0.0 s0.1 in
    let f1 = number_some s0.0.1 s1.0 s1.1 in
    let whole : text ≡ parted (codes "flush" ∷ f0.0 ∷ s0.0.1 ∷ []) =
    strip_some (codes "flush ") text s.0 s.1 ∙ ap (λ t. codes "flush " ++ t) f0.3 in
    let same : Flush s0.0.0 s1.0 ≡ Flush (cut_number f0.1) (cut_number f1.0) = flush_same s0.0.0 (cut_number f0.1) s1.0 (cut_number f1.0) f0.4 f1.2 in
    (Flush f0.1 f1.0, (f0.0, s0.0.1, f0.2, f1.1, whole), sym (same_some _ _ s1.2) ∙ same)

-- ---- lines of fixed text

passed_tells : (text : List ℕ) → (is_passed text ≡ true → IsPassed text) × (IsPassed text → is_passed text ≡ true)
passed_tells [] = (λ is. tt, λ is. refl)
passed_tells (c ∷ cs) = (λ is. eqb-true c 35 is, λ is. eq-eqb c 35 is)

pub passed_test : (text : List ℕ) → IsPassed text → is_passed text ≡ true
passed_test text is = (passed_tells text).1 is

pub test_passed : (text : List ℕ) → is_passed text ≡ true → IsPassed text
test_passed text is = (passed_tells text).0 is

-- what is read as a line of fixed text says one
pub plain_said : (text : List ℕ) (line : Line) → plain_line text ≡ Some line → IsCutOf text line
unfolding plain_line
plain_said text line is =
    let last : Option Line = cond (pointwise nat_eq text (codes "end")) (Some End) None in
    let info : Option Line = cond (pointwise nat_eq text (codes "slabinfo")) (Some Slabinfo) last in
    let done : Option Line = cond (pointwise nat_eq text (codes "done")) (Some Done) info in
    elim (chosen (is_passed text) (Some Passed) done (Some line) is) [
      | inl here ↦ (Passed, (passed_tells text).0 here.0, sym (same_some _ _ here.1))
      | inr there ↦ elim (chosen (pointwise nat_eq text (codes "done")) (Some Done) info (Some line) there.1) [
        | inl here ↦ (Done, (bytes_decides text (codes "done")).0 here.0, sym (same_some _ _ here.1))
        | inr there ↦ elim (chosen (pointwise nat_eq text (codes "slabinfo")) (Some Slabinfo) last (Some line) there.1) [
          | inl here ↦ (Slabinfo, (bytes_decides text (codes "slabinfo")).0 here.0, sym (same_some _ _ here.1))
          | inr there ↦ elim (chosen (pointwise nat_eq text (codes "end")) (Some End) None (Some line) there.1) [
            | inl here ↦ (End, (bytes_decides text (codes "end")).0 here.0, sym (same_some _ _ here.1))
            | inr there ↦ (let never : None ≡ Some line = there.1 in cc)
          ]
        ]
      ]
    ]
