-- The text of a note is a comment.
use Rattle.std.proofs.Common.{◌≡◌, ◌≢◌, ℕ, ◌+◌, ◌<◌, ◌^◌, Bool, true, false, not, ◌&&◌, List, [], ◌∷◌, ◌++◌, length, take, get_or, refl, sym, ap, subst, ◌∙◌, append_assoc, nat_eq, true≢false}
use Rattle.std.specs.Prelude.{codes, flat_map, All}
use Rattle.std.specs.Fmt.{decimal}
use Rattle.std.specs.List.{list_all}
use Rattle.std.proofs.lemmas.Bool.{eqb-false}
use Rattle.std.proofs.lemmas.List.{append-nil, take_more}
use Rattle.std.proofs.lemmas.Grind.{flat_map-append}
use Rattle.std.proofs.lemmas.List.Elements.{All-append, All-cons, All-nil}
use Rattle.slub_object_layout.specs.Name.{IsName}
use Rattle.slub_recorded.specs.declared.told.About.{About}
use Rattle.slub_recorded.specs.declared.told.About.TheVariants.{UnknownFrees, Letter, LeftOutCache}
use Rattle.slub_recorded.specs.declared.told.Note.{Note}
use Rattle.slub_recorded.specs.declared.told.Note.TheVariants.{Count, Of}
use Rattle.slub_recorded.specs.declared.told.Word.{Word}
use Rattle.slub_recorded.specs.declared.told.Word.TheVariants.{Given, Overwritten, Lost, Back, Others, ByKmalloc, ByFree, BySite, BySizes, Failed, PagesGiven, Freed, OfNothing, PagesFreed, CacheUnknown, Unknown, PutIn, Live, KeptMoves, Moves, KeptCaches, Caches, LeftOut, Group, Groups, Cpus, CacheAllocs, Kmallocs, CacheFrees, Kfrees, Rounds, ByHolder, NoCache}
use Rattle.slub_recorded.specs.Comments.{IsNote}
use Rattle.slub_recorded.specs.Told.{about_text, note_text, word_text}
use Rattle.slub_recorded.proofs.Lines.{one_name, one_number}
use Rattle.slub_trace_reader.specs.Grammar.{IsOneLine}

abbrev pub lacks : List ℕ → Bool
lacks text = list_all (λ b. not (nat_eq b 10)) text

one_by : (c : ℕ) (cs : List ℕ) (t : Bool) → nat_eq c 10 ≡ t → (not t && lacks cs) ≡ true → (lacks cs ≡ true → IsOneLine cs) → IsOneLine (c ∷ cs)
one_by c cs true is all more = absurd (true≢false (sym all))
one_by c cs false is all more = All-cons (λ b. b ≢ 10) c cs (eqb-false c 10 is) (more all)

-- a text that lacks a line feed, by the test
one_tested : (text : List ℕ) → lacks text ≡ true → IsOneLine text
one_tested [] all = All-nil (λ b. b ≢ 10)
one_tested (c ∷ cs) all = one_by c cs (nat_eq c 10) refl all (one_tested cs)

word_lacks : (word : Word) → lacks (word_text word) ≡ true
word_lacks Given = refl
word_lacks Overwritten = refl
word_lacks Lost = refl
word_lacks Back = refl
word_lacks Others = refl
word_lacks ByKmalloc = refl
word_lacks ByFree = refl
word_lacks BySite = refl
word_lacks BySizes = refl
word_lacks Failed = refl
word_lacks PagesGiven = refl
word_lacks Freed = refl
word_lacks OfNothing = refl
word_lacks PagesFreed = refl
word_lacks CacheUnknown = refl
word_lacks Unknown = refl
word_lacks PutIn = refl
word_lacks Live = refl
word_lacks KeptMoves = refl
word_lacks Moves = refl
word_lacks KeptCaches = refl
word_lacks Caches = refl
word_lacks LeftOut = refl
word_lacks Group = refl
word_lacks Groups = refl
word_lacks Cpus = refl
word_lacks CacheAllocs = refl
word_lacks Kmallocs = refl
word_lacks CacheFrees = refl
word_lacks Kfrees = refl
word_lacks Rounds = refl
word_lacks ByHolder = refl
word_lacks NoCache = refl

about_lacks : (about : About) → lacks (about_text about) ≡ true
about_lacks UnknownFrees = refl
about_lacks Letter = refl
about_lacks LeftOutCache = refl

pub count_is : (word : Word) (number : ℕ) → number < 2 ^ 64 → IsNote (Count word number)
unfolding IsNote
count_is word number low =
    let P : ℕ → Type 0 = λ b. b ≢ 10 in (
      refl,
      All-append P (codes "# " ++ word_text word ++ codes ": ") (decimal number)
          (All-append P (codes "# " ++ word_text word) (codes ": ") (All-append P (codes "# ") (word_text word) (one_tested (codes "# ") refl) (one_tested (word_text word) (word_lacks word))) (one_tested (codes ": ") refl))
          (one_number number low),
    )

pub of_is : (about : About) (name : List ℕ) (number : ℕ) → IsName name → number < 2 ^ 64 → IsNote (Of about name number)
unfolding IsNote
of_is about name number is low =
    let P : ℕ → Type 0 = λ b. b ≢ 10 in
    let front : List ℕ = codes "# " ++ about_text about in
    let one : All P front = All-append P (codes "# ") (about_text about) (one_tested (codes "# ") refl) (one_tested (about_text about) (about_lacks about)) in (
      refl,
      All-append P (front ++ name ++ codes ": ") (decimal number)
          (All-append P (front ++ name) (codes ": ") (All-append P front name one (one_name name is)) (one_tested (codes ": ") refl))
          (one_number number low),
    )

-- a loop over notes
pub noted : (notes : List Note) (i : ℕ) (d : Note) → i < length notes → All IsNote (take i notes) → IsNote (get_or notes i d) → All IsNote (take (i + 1) notes)
noted notes i d low all one =
    let P : List Note → Type 0 = λ ns. All IsNote ns in
    subst P (sym (take_more notes i d low)) (All-append IsNote (take i notes) (get_or notes i d ∷ []) all (All-cons IsNote (get_or notes i d) [] one (All-nil IsNote)))

pub written : (front old new : List ℕ) (notes : List Note) (i : ℕ) (d : Note) → i < length notes → old ≡ front ++ flat_map note_text (take i notes)
    → new ≡ old ++ note_text (get_or notes i d) → new ≡ front ++ flat_map note_text (take (i + 1) notes)
written front old new notes i d low is put =
    let more : take (i + 1) notes ≡ take i notes ++ get_or notes i d ∷ [] = take_more notes i d low in
    let last : List ℕ = note_text (get_or notes i d) in
    put ∙ ap (λ t. t ++ last) is ∙ append_assoc front (flat_map note_text (take i notes)) last
    ∙ ap (λ t. front ++ t) (ap (λ t. flat_map note_text (take i notes) ++ t) (sym (append-nil last)) ∙ sym (flat_map-append note_text (take i notes) (get_or notes i d ∷ [])) ∙ ap (flat_map note_text) (sym more))
