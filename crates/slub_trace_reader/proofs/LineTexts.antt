-- The line of a text: what is said is read with its numbers cut at 2 ^ 64, and what is read is said.
use Rattle.std.proofs.Common.{◌≡◌, ℕ, ◌+◌, Some, None, List, [], ◌∷◌, ◌++◌, refl, sym, ap, ◌∙◌, inl, inr}
use Rattle.std.specs.Prelude.{option_map, codes}
use Rattle.slub_trace_reader.specs.declared.client.ClientLine.{ClientLine}
use Rattle.slub_trace_reader.specs.declared.client.ClientLine.TheVariants.{Kmalloc, Kget, Krealloc, Bulk, Bulkfree, Mempool, Mget, Mput}
use Rattle.slub_trace_reader.specs.declared.line.Line.{Line}
use Rattle.slub_trace_reader.specs.declared.line.Line.TheVariants.{Passed, Slubtrace, Machine, Cache, Shrink, Destroy, Tune, Slabinfo, Client, Round, Alloc, Free, Write, Read, Poke, Trim, Flush, Done, End}
use Rattle.slub_trace_reader.specs.Forms.{strip, slubtrace_line, machine_line, cache_line, shrink_line, destroy_line, tune_line, round_line, alloc_line, free_line, write_line, read_line, poke_line, trim_line, flush_line, plain_line, event_line, item_line, client_line, line_of}
use Rattle.slub_trace_reader.specs.Lines.{Says, SaysClient, IsPassed, knob_word, parted}
use Rattle.slub_trace_reader.specs.Cut.{cut_line}
use Rattle.slub_trace_reader.proofs.ClientTexts.{client_again, client_said}
use Rattle.slub_trace_reader.proofs.Texts.{IsCutOf, passed_test, plain_said, alloc_again, alloc_said, free_again, free_said, write_again, write_said, read_again, read_said, poke_again, poke_said, trim_again, trim_said, flush_again, flush_said, round_again, round_said, shrink_again, shrink_said, destroy_again, destroy_said, cache_again, cache_said, tune_again, tune_said, machine_again, machine_said, slubtrace_again, slubtrace_said}
use Rattle.slub_trace_reader.proofs.WordTexts.{map_some, or_none, or_found, or_some}

event_said : (text : List ℕ) (line : Line) → event_line text ≡ Some line → IsCutOf text line
unfolding event_line
event_said text line is = elim (or_some _ _ _ is) [
  | inl here ↦ alloc_said text line here
  | inr there ↦ elim (or_some _ _ _ there) [
    | inl here ↦ free_said text line here
    | inr there ↦ elim (or_some _ _ _ there) [
      | inl here ↦ write_said text line here
      | inr there ↦ elim (or_some _ _ _ there) [
        | inl here ↦ read_said text line here
        | inr there ↦ elim (or_some _ _ _ there) [
          | inl here ↦ poke_said text line here
          | inr there ↦ elim (or_some _ _ _ there) [
            | inl here ↦ trim_said text line here
            | inr there ↦ flush_said text line there
          ]
        ]
      ]
    ]
  ]
]

item_said : (text : List ℕ) (line : Line) → item_line text ≡ Some line → IsCutOf text line
unfolding item_line
item_said text line is = elim (or_some _ _ _ is) [
  | inl here ↦ round_said text line here
  | inr there ↦ elim (or_some _ _ _ there) [
    | inl here ↦ shrink_said text line here
    | inr there ↦ elim (or_some _ _ _ there) [
      | inl here ↦ destroy_said text line here
      | inr there ↦ elim (or_some _ _ _ there) [
        | inl here ↦ cache_said text line here
        | inr there ↦ elim (or_some _ _ _ there) [
          | inl here ↦ tune_said text line here
          | inr there ↦ elim (or_some _ _ _ there) [
            | inl here ↦ machine_said text line here
            | inr there ↦ slubtrace_said text line there
          ]
        ]
      ]
    ]
  ]
]

asked_said : (text : List ℕ) (line : Line) → option_map Client (client_line text) ≡ Some line → IsCutOf text line
asked_said text line is =
    let m = map_some _ _ _ is in
    let said = client_said text m.0 m.1 in
    (Client said.0, said.1, sym m.2 ∙ ap Client said.2)

-- what is read says a line, and is that line with its numbers cut
pub line_said : (text : List ℕ) (line : Line) → line_of text ≡ Some line → IsCutOf text line
unfolding line_of
line_said text line is = elim (or_some _ _ _ is) [
  | inl here ↦ plain_said text line here
  | inr there ↦ elim (or_some _ _ _ there) [
    | inl here ↦ event_said text line here
    | inr there ↦ elim (or_some _ _ _ there) [
      | inl here ↦ item_said text line here
      | inr there ↦ asked_said text line there
    ]
  ]
]

-- which form a text has is told by its first word
alloc_alone : (rest : List ℕ) → let text : List ℕ = codes "alloc " ++ rest in (plain_line text ≡ None)
unfolding plain_line event_line item_line alloc_line free_line write_line read_line poke_line trim_line flush_line round_line shrink_line destroy_line cache_line tune_line machine_line slubtrace_line strip
alloc_alone rest = refl

free_alone : (rest : List ℕ) → let text : List ℕ = codes "free " ++ rest in (plain_line text ≡ None) × (alloc_line text ≡ None)
unfolding plain_line event_line item_line alloc_line free_line write_line read_line poke_line trim_line flush_line round_line shrink_line destroy_line cache_line tune_line machine_line slubtrace_line strip
free_alone rest = (refl, refl)

write_alone : (rest : List ℕ) → let text : List ℕ = codes "write " ++ rest in (plain_line text ≡ None) × (alloc_line text ≡ None) × (free_line text ≡ None)
unfolding plain_line event_line item_line alloc_line free_line write_line read_line poke_line trim_line flush_line round_line shrink_line destroy_line cache_line tune_line machine_line slubtrace_line strip
write_alone rest = (refl, refl, refl)

read_alone : (rest : List ℕ) → let text : List ℕ = codes "read " ++ rest in (plain_line text ≡ None) × (alloc_line text ≡ None) × (free_line text ≡ None) × (write_line text ≡ None)
unfolding plain_line event_line item_line alloc_line free_line write_line read_line poke_line trim_line flush_line round_line shrink_line destroy_line cache_line tune_line machine_line slubtrace_line strip
read_alone rest = (refl, refl, refl, refl)

poke_alone : (rest : List ℕ) → let text : List ℕ = codes "poke " ++ rest in (plain_line text ≡ None) × (alloc_line text ≡ None) × (free_line text ≡ None) × (write_line text ≡ None) × (read_line text ≡ None)
unfolding plain_line event_line item_line alloc_line free_line write_line read_line poke_line trim_line flush_line round_line shrink_line destroy_line cache_line tune_line machine_line slubtrace_line strip
poke_alone rest = (refl, refl, refl, refl, refl)

trim_alone : (rest : List ℕ) → let text : List ℕ = codes "trim " ++ rest in (plain_line text ≡ None) × (alloc_line text ≡ None) × (free_line text ≡ None) × (write_line text ≡ None) × (read_line text ≡ None) × (poke_line text ≡ None)
unfolding plain_line event_line item_line alloc_line free_line write_line read_line poke_line trim_line flush_line round_line shrink_line destroy_line cache_line tune_line machine_line slubtrace_line strip
trim_alone rest = (refl, refl, refl, refl, refl, refl)

flush_alone : (rest : List ℕ) → let text : List ℕ = codes "flush " ++ rest in (plain_line text ≡ None) × (alloc_line text ≡ None) × (free_line text ≡ None) × (write_line text ≡ None) × (read_line text ≡ None) × (poke_line text ≡ None) × (trim_line text ≡ None)
unfolding plain_line event_line item_line alloc_line free_line write_line read_line poke_line trim_line flush_line round_line shrink_line destroy_line cache_line tune_line machine_line slubtrace_line strip
flush_alone rest = (refl, refl, refl, refl, refl, refl, refl)

round_alone : (rest : List ℕ) → let text : List ℕ = codes "round " ++ rest in (plain_line text ≡ None) × (event_line text ≡ None)
unfolding plain_line event_line item_line alloc_line free_line write_line read_line poke_line trim_line flush_line round_line shrink_line destroy_line cache_line tune_line machine_line slubtrace_line strip
round_alone rest = (refl, refl)

shrink_alone : (rest : List ℕ) → let text : List ℕ = codes "shrink " ++ rest in (plain_line text ≡ None) × (event_line text ≡ None) × (round_line text ≡ None)
unfolding plain_line event_line item_line alloc_line free_line write_line read_line poke_line trim_line flush_line round_line shrink_line destroy_line cache_line tune_line machine_line slubtrace_line strip
shrink_alone rest = (refl, refl, refl)

destroy_alone : (rest : List ℕ) → let text : List ℕ = codes "destroy " ++ rest in (plain_line text ≡ None) × (event_line text ≡ None) × (round_line text ≡ None) × (shrink_line text ≡ None)
unfolding plain_line event_line item_line alloc_line free_line write_line read_line poke_line trim_line flush_line round_line shrink_line destroy_line cache_line tune_line machine_line slubtrace_line strip
destroy_alone rest = (refl, refl, refl, refl)

cache_alone : (rest : List ℕ) → let text : List ℕ = codes "cache " ++ rest in (plain_line text ≡ None) × (event_line text ≡ None) × (round_line text ≡ None) × (shrink_line text ≡ None) × (destroy_line text ≡ None)
unfolding plain_line event_line item_line alloc_line free_line write_line read_line poke_line trim_line flush_line round_line shrink_line destroy_line cache_line tune_line machine_line slubtrace_line strip
cache_alone rest = (refl, refl, refl, refl, refl)

tune_alone : (rest : List ℕ) → let text : List ℕ = codes "tune " ++ rest in (plain_line text ≡ None) × (event_line text ≡ None) × (round_line text ≡ None) × (shrink_line text ≡ None) × (destroy_line text ≡ None) × (cache_line text ≡ None)
unfolding plain_line event_line item_line alloc_line free_line write_line read_line poke_line trim_line flush_line round_line shrink_line destroy_line cache_line tune_line machine_line slubtrace_line strip
tune_alone rest = (refl, refl, refl, refl, refl, refl)

machine_alone : (rest : List ℕ) → let text : List ℕ = codes "machine " ++ rest in (plain_line text ≡ None) × (event_line text ≡ None) × (round_line text ≡ None) × (shrink_line text ≡ None) × (destroy_line text ≡ None) × (cache_line text ≡ None) × (tune_line text ≡ None)
unfolding plain_line event_line item_line alloc_line free_line write_line read_line poke_line trim_line flush_line round_line shrink_line destroy_line cache_line tune_line machine_line slubtrace_line strip
machine_alone rest = (refl, refl, refl, refl, refl, refl, refl)

slubtrace_alone : (rest : List ℕ) → let text : List ℕ = codes "slubtrace " ++ rest in (plain_line text ≡ None) × (event_line text ≡ None) × (round_line text ≡ None) × (shrink_line text ≡ None) × (destroy_line text ≡ None) × (cache_line text ≡ None) × (tune_line text ≡ None) × (machine_line text ≡ None)
unfolding plain_line event_line item_line alloc_line free_line write_line read_line poke_line trim_line flush_line round_line shrink_line destroy_line cache_line tune_line machine_line slubtrace_line strip
slubtrace_alone rest = (refl, refl, refl, refl, refl, refl, refl, refl)

kget_alone : (rest : List ℕ) → let text : List ℕ = codes "kget " ++ rest in (plain_line text ≡ None) × (event_line text ≡ None) × (item_line text ≡ None)
unfolding plain_line event_line item_line alloc_line free_line write_line read_line poke_line trim_line flush_line round_line shrink_line destroy_line cache_line tune_line machine_line slubtrace_line strip
kget_alone rest = (refl, refl, refl)

krealloc_alone : (rest : List ℕ) → let text : List ℕ = codes "krealloc " ++ rest in (plain_line text ≡ None) × (event_line text ≡ None) × (item_line text ≡ None)
unfolding plain_line event_line item_line alloc_line free_line write_line read_line poke_line trim_line flush_line round_line shrink_line destroy_line cache_line tune_line machine_line slubtrace_line strip
krealloc_alone rest = (refl, refl, refl)

bulk_alone : (rest : List ℕ) → let text : List ℕ = codes "bulk " ++ rest in (plain_line text ≡ None) × (event_line text ≡ None) × (item_line text ≡ None)
unfolding plain_line event_line item_line alloc_line free_line write_line read_line poke_line trim_line flush_line round_line shrink_line destroy_line cache_line tune_line machine_line slubtrace_line strip
bulk_alone rest = (refl, refl, refl)

bulkfree_alone : (rest : List ℕ) → let text : List ℕ = codes "bulkfree " ++ rest in (plain_line text ≡ None) × (event_line text ≡ None) × (item_line text ≡ None)
unfolding plain_line event_line item_line alloc_line free_line write_line read_line poke_line trim_line flush_line round_line shrink_line destroy_line cache_line tune_line machine_line slubtrace_line strip
bulkfree_alone rest = (refl, refl, refl)

mempool_alone : (rest : List ℕ) → let text : List ℕ = codes "mempool " ++ rest in (plain_line text ≡ None) × (event_line text ≡ None) × (item_line text ≡ None)
unfolding plain_line event_line item_line alloc_line free_line write_line read_line poke_line trim_line flush_line round_line shrink_line destroy_line cache_line tune_line machine_line slubtrace_line strip
mempool_alone rest = (refl, refl, refl)

mget_alone : (rest : List ℕ) → let text : List ℕ = codes "mget " ++ rest in (plain_line text ≡ None) × (event_line text ≡ None) × (item_line text ≡ None)
unfolding plain_line event_line item_line alloc_line free_line write_line read_line poke_line trim_line flush_line round_line shrink_line destroy_line cache_line tune_line machine_line slubtrace_line strip
mget_alone rest = (refl, refl, refl)

mput_alone : (rest : List ℕ) → let text : List ℕ = codes "mput " ++ rest in (plain_line text ≡ None) × (event_line text ≡ None) × (item_line text ≡ None)
unfolding plain_line event_line item_line alloc_line free_line write_line read_line poke_line trim_line flush_line round_line shrink_line destroy_line cache_line tune_line machine_line slubtrace_line strip
mput_alone rest = (refl, refl, refl)

-- lines of fixed text
passed_again : (text : List ℕ) → IsPassed text → line_of text ≡ Some Passed
unfolding line_of plain_line
passed_again text is = rw (passed_test text is) refl

slabinfo_again : line_of (codes "slabinfo") ≡ Some Slabinfo
unfolding line_of plain_line
slabinfo_again = refl

done_again : line_of (codes "done") ≡ Some Done
unfolding line_of plain_line
done_again = refl

end_again : line_of (codes "end") ≡ Some End
unfolding line_of plain_line
end_again = refl

kmalloc_alone : let text : List ℕ = codes "kmalloc" in (plain_line text ≡ None) × (event_line text ≡ None) × (item_line text ≡ None)
unfolding plain_line event_line item_line alloc_line free_line write_line read_line poke_line trim_line flush_line round_line shrink_line destroy_line cache_line tune_line machine_line slubtrace_line strip
kmalloc_alone = (refl, refl, refl)

-- a client's line is no line of another kind
asked_alone : (text : List ℕ) (line : ClientLine) → SaysClient text line → (plain_line text ≡ None) × (event_line text ≡ None) × (item_line text ≡ None)
asked_alone text Kmalloc is = (ap plain_line is ∙ kmalloc_alone.0, ap event_line is ∙ kmalloc_alone.1, ap item_line is ∙ kmalloc_alone.2)
asked_alone text (Kget cpu size object) is =
    let alone = kget_alone (parted (is.0 ∷ is.1 ∷ is.2 ∷ [])) in
    let whole : text ≡ codes "kget " ++ (parted (is.0 ∷ is.1 ∷ is.2 ∷ [])) = is.6 in
    (ap plain_line whole ∙ alone.0, ap event_line whole ∙ alone.1, ap item_line whole ∙ alone.2)
asked_alone text (Krealloc cpu object size fresh) is =
    let alone = krealloc_alone (parted (is.0 ∷ is.1 ∷ is.2 ∷ is.3 ∷ [])) in
    let whole : text ≡ codes "krealloc " ++ (parted (is.0 ∷ is.1 ∷ is.2 ∷ is.3 ∷ [])) = is.8 in
    (ap plain_line whole ∙ alone.0, ap event_line whole ∙ alone.1, ap item_line whole ∙ alone.2)
asked_alone text (Bulk cpu name first count) is =
    let alone = bulk_alone (parted (is.0 ∷ name ∷ is.1 ∷ is.2 ∷ [])) in
    let whole : text ≡ codes "bulk " ++ (parted (is.0 ∷ name ∷ is.1 ∷ is.2 ∷ [])) = is.7 in
    (ap plain_line whole ∙ alone.0, ap event_line whole ∙ alone.1, ap item_line whole ∙ alone.2)
asked_alone text (Bulkfree cpu first count) is =
    let alone = bulkfree_alone (parted (is.0 ∷ is.1 ∷ is.2 ∷ [])) in
    let whole : text ≡ codes "bulkfree " ++ (parted (is.0 ∷ is.1 ∷ is.2 ∷ [])) = is.6 in
    (ap plain_line whole ∙ alone.0, ap event_line whole ∙ alone.1, ap item_line whole ∙ alone.2)
asked_alone text (Mempool pool name min first) is =
    let alone = mempool_alone (parted (pool ∷ name ∷ is.0 ∷ is.1 ∷ [])) in
    let whole : text ≡ codes "mempool " ++ (parted (pool ∷ name ∷ is.0 ∷ is.1 ∷ [])) = is.6 in
    (ap plain_line whole ∙ alone.0, ap event_line whole ∙ alone.1, ap item_line whole ∙ alone.2)
asked_alone text (Mget cpu pool object) is =
    let alone = mget_alone (parted (is.0 ∷ pool ∷ is.1 ∷ [])) in
    let whole : text ≡ codes "mget " ++ (parted (is.0 ∷ pool ∷ is.1 ∷ [])) = is.5 in
    (ap plain_line whole ∙ alone.0, ap event_line whole ∙ alone.1, ap item_line whole ∙ alone.2)
asked_alone text (Mput cpu pool object) is =
    let alone = mput_alone (parted (is.0 ∷ pool ∷ is.1 ∷ [])) in
    let whole : text ≡ codes "mput " ++ (parted (is.0 ∷ pool ∷ is.1 ∷ [])) = is.5 in
    (ap plain_line whole ∙ alone.0, ap event_line whole ∙ alone.1, ap item_line whole ∙ alone.2)

-- a text that says a line is read as that line with its numbers cut
pub line_again : (text : List ℕ) (line : Line) → Says text line → line_of text ≡ Some (cut_line line)
unfolding line_of event_line item_line
line_again text Passed is = passed_again text is
line_again text Slabinfo is = ap line_of is ∙ slabinfo_again
line_again text Done is = ap line_of is ∙ done_again
line_again text End is = ap line_of is ∙ end_again
line_again text (Client line) is =
    let alone = asked_alone text line is in
    or_none _ _ _ alone.0 (or_none _ _ _ alone.1 (or_none _ _ _ alone.2 (ap (option_map Client) (client_again text line is))))
line_again text (Alloc worker cpu name object) is =
    let alone = alloc_alone (parted (is.0 ∷ is.1 ∷ name ∷ is.2 ∷ [])) in
    let whole : text ≡ codes "alloc " ++ (parted (is.0 ∷ is.1 ∷ name ∷ is.2 ∷ [])) = is.7 in
    or_none _ _ _ (ap plain_line whole ∙ alone) (or_found _ _ _ (or_found _ _ _ (alloc_again text worker cpu name object is)))
line_again text (Free worker cpu object) is =
    let alone = free_alone (parted (is.0 ∷ is.1 ∷ is.2 ∷ [])) in
    let whole : text ≡ codes "free " ++ (parted (is.0 ∷ is.1 ∷ is.2 ∷ [])) = is.6 in
    or_none _ _ _ (ap plain_line whole ∙ alone.0) (or_found _ _ _ (or_none _ _ _ (ap alloc_line whole ∙ alone.1) (or_found _ _ _ (free_again text worker cpu object is))))
line_again text (Write worker object word value) is =
    let alone = write_alone (parted (is.0 ∷ is.1 ∷ is.2 ∷ is.3 ∷ [])) in
    let whole : text ≡ codes "write " ++ (parted (is.0 ∷ is.1 ∷ is.2 ∷ is.3 ∷ [])) = is.8 in
    or_none _ _ _ (ap plain_line whole ∙ alone.0) (or_found _ _ _ (or_none _ _ _ (ap alloc_line whole ∙ alone.1) (or_none _ _ _ (ap free_line whole ∙ alone.2) (or_found _ _ _ (write_again text worker object word value is)))))
line_again text (Read worker object word) is =
    let alone = read_alone (parted (is.0 ∷ is.1 ∷ is.2 ∷ [])) in
    let whole : text ≡ codes "read " ++ (parted (is.0 ∷ is.1 ∷ is.2 ∷ [])) = is.6 in
    or_none _ _ _ (ap plain_line whole ∙ alone.0) (or_found _ _ _ (or_none _ _ _ (ap alloc_line whole ∙ alone.1) (or_none _ _ _ (ap free_line whole ∙ alone.2) (or_none _ _ _ (ap write_line whole ∙ alone.3) (or_found _ _ _ (read_again text worker object word is))))))
line_again text (Poke worker object negative offset byte) is =
    let alone = poke_alone (parted (is.0 ∷ is.1 ∷ is.2 ∷ is.3 ∷ [])) in
    let whole : text ≡ codes "poke " ++ (parted (is.0 ∷ is.1 ∷ is.2 ∷ is.3 ∷ [])) = is.8 in
    or_none _ _ _ (ap plain_line whole ∙ alone.0) (or_found _ _ _ (or_none _ _ _ (ap alloc_line whole ∙ alone.1) (or_none _ _ _ (ap free_line whole ∙ alone.2) (or_none _ _ _ (ap write_line whole ∙ alone.3) (or_none _ _ _ (ap read_line whole ∙ alone.4) (or_found _ _ _ (poke_again text worker object negative offset byte is)))))))
line_again text (Trim worker name) is =
    let alone = trim_alone (parted (is.0 ∷ name ∷ [])) in
    let whole : text ≡ codes "trim " ++ (parted (is.0 ∷ name ∷ [])) = is.3 in
    or_none _ _ _ (ap plain_line whole ∙ alone.0) (or_found _ _ _ (or_none _ _ _ (ap alloc_line whole ∙ alone.1) (or_none _ _ _ (ap free_line whole ∙ alone.2) (or_none _ _ _ (ap write_line whole ∙ alone.3) (or_none _ _ _ (ap read_line whole ∙ alone.4) (or_none _ _ _ (ap poke_line whole ∙ alone.5) (or_found _ _ _ (trim_again text worker name is))))))))
line_again text (Flush worker cpu) is =
    let alone = flush_alone (parted (is.0 ∷ is.1 ∷ [])) in
    let whole : text ≡ codes "flush " ++ (parted (is.0 ∷ is.1 ∷ [])) = is.4 in
    or_none _ _ _ (ap plain_line whole ∙ alone.0) (or_found _ _ _ (or_none _ _ _ (ap alloc_line whole ∙ alone.1) (or_none _ _ _ (ap free_line whole ∙ alone.2) (or_none _ _ _ (ap write_line whole ∙ alone.3) (or_none _ _ _ (ap read_line whole ∙ alone.4) (or_none _ _ _ (ap poke_line whole ∙ alone.5) (or_none _ _ _ (ap trim_line whole ∙ alone.6) (flush_again text worker cpu is))))))))
line_again text (Round workers) is =
    let alone = round_alone (parted (is.0 ∷ [])) in
    let whole : text ≡ codes "round " ++ (parted (is.0 ∷ [])) = is.2 in
    or_none _ _ _ (ap plain_line whole ∙ alone.0) (or_none _ _ _ (ap event_line whole ∙ alone.1) (or_found _ _ _ (or_found _ _ _ (round_again text workers is))))
line_again text (Shrink name) is =
    let alone = shrink_alone (parted (name ∷ [])) in
    let whole : text ≡ codes "shrink " ++ (parted (name ∷ [])) = is.1 in
    or_none _ _ _ (ap plain_line whole ∙ alone.0) (or_none _ _ _ (ap event_line whole ∙ alone.1) (or_found _ _ _ (or_none _ _ _ (ap round_line whole ∙ alone.2) (or_found _ _ _ (shrink_again text name is)))))
line_again text (Destroy name) is =
    let alone = destroy_alone (parted (name ∷ [])) in
    let whole : text ≡ codes "destroy " ++ (parted (name ∷ [])) = is.1 in
    or_none _ _ _ (ap plain_line whole ∙ alone.0) (or_none _ _ _ (ap event_line whole ∙ alone.1) (or_found _ _ _ (or_none _ _ _ (ap round_line whole ∙ alone.2) (or_none _ _ _ (ap shrink_line whole ∙ alone.3) (or_found _ _ _ (destroy_again text name is))))))
line_again text (Cache name size align flags) is =
    let alone = cache_alone (parted (name ∷ is.0 ∷ is.1 ∷ is.2 ∷ [])) in
    let whole : text ≡ codes "cache " ++ (parted (name ∷ is.0 ∷ is.1 ∷ is.2 ∷ [])) = is.7 in
    or_none _ _ _ (ap plain_line whole ∙ alone.0) (or_none _ _ _ (ap event_line whole ∙ alone.1) (or_found _ _ _ (or_none _ _ _ (ap round_line whole ∙ alone.2) (or_none _ _ _ (ap shrink_line whole ∙ alone.3) (or_none _ _ _ (ap destroy_line whole ∙ alone.4) (or_found _ _ _ (cache_again text name size align flags is)))))))
line_again text (Tune name knob number) is =
    let alone = tune_alone (parted (name ∷ knob_word knob ∷ is.0 ∷ [])) in
    let whole : text ≡ codes "tune " ++ (parted (name ∷ knob_word knob ∷ is.0 ∷ [])) = is.3 in
    or_none _ _ _ (ap plain_line whole ∙ alone.0) (or_none _ _ _ (ap event_line whole ∙ alone.1) (or_found _ _ _ (or_none _ _ _ (ap round_line whole ∙ alone.2) (or_none _ _ _ (ap shrink_line whole ∙ alone.3) (or_none _ _ _ (ap destroy_line whole ∙ alone.4) (or_none _ _ _ (ap cache_line whole ∙ alone.5) (or_found _ _ _ (tune_again text name knob number is))))))))
line_again text (Machine frames cpus tid) is =
    let alone = machine_alone (is.0 ++ 32 ∷ parted (is.1 ∷ is.2)) in
    let whole : text ≡ codes "machine " ++ (is.0 ++ 32 ∷ parted (is.1 ∷ is.2)) = is.6 in
    or_none _ _ _ (ap plain_line whole ∙ alone.0) (or_none _ _ _ (ap event_line whole ∙ alone.1) (or_found _ _ _ (or_none _ _ _ (ap round_line whole ∙ alone.2) (or_none _ _ _ (ap shrink_line whole ∙ alone.3) (or_none _ _ _ (ap destroy_line whole ∙ alone.4) (or_none _ _ _ (ap cache_line whole ∙ alone.5) (or_none _ _ _ (ap tune_line whole ∙ alone.6) (or_found _ _ _ (machine_again text frames cpus tid is)))))))))
line_again text (Slubtrace version) is =
    let alone = slubtrace_alone ((48 + version) ∷ []) in
    let whole : text ≡ codes "slubtrace " ++ ((48 + version) ∷ []) = is.2 in
    or_none _ _ _ (ap plain_line whole ∙ alone.0) (or_none _ _ _ (ap event_line whole ∙ alone.1) (or_found _ _ _ (or_none _ _ _ (ap round_line whole ∙ alone.2) (or_none _ _ _ (ap shrink_line whole ∙ alone.3) (or_none _ _ _ (ap destroy_line whole ∙ alone.4) (or_none _ _ _ (ap cache_line whole ∙ alone.5) (or_none _ _ _ (ap tune_line whole ∙ alone.6) (or_none _ _ _ (ap machine_line whole ∙ alone.7) (slubtrace_again text version is)))))))))
