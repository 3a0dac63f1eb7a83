-- The places of `layout`.
use Rattle.std.proofs.Common.{◌≡◌, ◌≢◌, ◌⊎◌, ◌&&◌, Some, None, List, [], ◌∷◌, true, refl, sym, ap, ◌∙◌, subst, codes, false}
use Rattle.std.specs.Prelude.{fold}
use Rattle.std.proofs.lemmas.Bool.{and_parts}
use Rattle.clap.specs.Walk.{Row, Rule, Text, first_of, nothing_held, rows_of, with_default}
use Rattle.clap.specs.Simple.{App, Shape, is_simple, matches_of}
use Rattle.clap.specs.Matches.{first_value}
use Rattle.clap.specs.Kinds.{IsAmong}
use Rattle.clap.proofs.WalkLemmas.{first_value-rows}
use Rattle.clap.specs.declared.parser.matches.Found.{Found as Entries}
use Rattle.clap.specs.declared.error.kind.ErrorKind.{ErrorKind}
use Rattle.clap.specs.declared.error.kind.ErrorKind.TheVariants.{OutOfMemory}
use Rattle.slub_command.specs.Options.{is_plain}
use Rattle.slub_command.proofs.Given.{no_fault, refused, rows_found}
use Rattle.clap.specs.Faults.{check_fault, defaults_fault, fault_of, is_simple_and_free, level_fault}
use Rattle.clap.proofs.FaultLemmas.{leaf_fault}
use Rattle.clap.specs.declared.error.kind.ErrorKind.TheVariants as kind
use Rattle.slub_command.specs.Arguments.{layout_app, no_dashes}
use Rattle.slub_command.proofs.Walks.{rest, row, shape_with}
use Rattle.slub_command.proofs.PlaceWalks.{HasPlaces, IsPlain, clean_first, level_passed, level_passes, opening, place_at, place_passes, place_plain, placed, plain_word}

abbrev pub rules : List Rule
rules = placed (codes "size") 1 ∷ placed (codes "align") 2 ∷ placed (codes "flags") 3 ∷ placed (codes "cpus") 4 ∷ []

abbrev pub shape : Shape
shape = shape_with (codes "layout") rules

places : HasPlaces shape
places = record { long = λ name. refl; short = λ c. refl }

fault_is : (words : List Text) → fault_of layout_app words ≡ level_fault shape [] nothing_held words false []
fault_is words = leaf_fault (record { top = shape; subs = [] }) nothing_held words refl

abbrev pub rows : Text → Text → Text → Text → List Row
rows size align flags cpus = row (codes "size") size ∷ row (codes "align") align ∷ row (codes "flags") flags ∷ row (codes "cpus") cpus ∷ []

-- each place has a word, and no other word is there
pub record Found (words : List Text) : Type 0 where
  pub size : Text
  pub align : Text
  pub flags : Text
  pub cpus : Text
  pub words_are : words ≡ size ∷ align ∷ flags ∷ cpus ∷ []
  pub found : matches_of layout_app words ≡ rows size align flags cpus

some_rows : (a b : List Row) → Some a ≡ Some b → a ≡ b
some_rows a b is = cc

-- what is read of fewer words lacks what is required
lacks : {A : Type 0} (read few : List Row) → Some few ≡ Some read → check_fault shape (fold with_default few rules) false ≡ kind.MissingRequiredArgument ∷ [] → check_fault shape (fold with_default read rules) false ≡ [] → A
lacks read few is missing complete =
    let same : few ≡ read = cc in
    let bad : kind.MissingRequiredArgument ∷ [] ≡ [] = sym missing ∙ subst (λ r. check_fault shape (fold with_default r rules) false ≡ []) (sym same) complete in
    cc

pub sound : (words : List Text) → no_dashes words ≡ true → fault_of layout_app words ≡ [] → Found words
unfolding rest
sound [] clean is =
    let p = level_passed shape ([]) (sym (fault_is ([])) ∙ is) in
    lacks p.read ([]) p.walked_to refl p.complete
sound (size ∷ []) clean is =
    let p = level_passed shape (size ∷ []) (sym (fault_is (size ∷ [])) ∙ is) in
    let c0 = clean_first size ([]) clean in
    let e0 : rest shape (place_at ([]) (Some (codes "size", size ∷ [])) 2) ([]) ≡ Some p.read = place_passes shape places [] None 1 size ([]) p.read c0.0 p.walked_to in
    lacks p.read (row (codes "size") size ∷ []) e0 refl p.complete
sound (size ∷ align ∷ []) clean is =
    let p = level_passed shape (size ∷ align ∷ []) (sym (fault_is (size ∷ align ∷ [])) ∙ is) in
    let c0 = clean_first size (align ∷ []) clean in
    let e0 : rest shape (place_at ([]) (Some (codes "size", size ∷ [])) 2) (align ∷ []) ≡ Some p.read = place_passes shape places [] None 1 size (align ∷ []) p.read c0.0 p.walked_to in
    let c1 = clean_first align ([]) c0.1 in
    let e1 : rest shape (place_at (row (codes "size") size ∷ []) (Some (codes "align", align ∷ [])) 3) ([]) ≡ Some p.read = place_passes shape places ([]) (Some (codes "size", size ∷ [])) 2 align ([]) p.read c1.0 e0 in
    lacks p.read (row (codes "size") size ∷ row (codes "align") align ∷ []) e1 refl p.complete
sound (size ∷ align ∷ flags ∷ []) clean is =
    let p = level_passed shape (size ∷ align ∷ flags ∷ []) (sym (fault_is (size ∷ align ∷ flags ∷ [])) ∙ is) in
    let c0 = clean_first size (align ∷ flags ∷ []) clean in
    let e0 : rest shape (place_at ([]) (Some (codes "size", size ∷ [])) 2) (align ∷ flags ∷ []) ≡ Some p.read = place_passes shape places [] None 1 size (align ∷ flags ∷ []) p.read c0.0 p.walked_to in
    let c1 = clean_first align (flags ∷ []) c0.1 in
    let e1 : rest shape (place_at (row (codes "size") size ∷ []) (Some (codes "align", align ∷ [])) 3) (flags ∷ []) ≡ Some p.read = place_passes shape places ([]) (Some (codes "size", size ∷ [])) 2 align (flags ∷ []) p.read c1.0 e0 in
    let c2 = clean_first flags ([]) c1.1 in
    let e2 : rest shape (place_at (row (codes "size") size ∷ row (codes "align") align ∷ []) (Some (codes "flags", flags ∷ [])) 4) ([]) ≡ Some p.read = place_passes shape places (row (codes "size") size ∷ []) (Some (codes "align", align ∷ [])) 3 flags ([]) p.read c2.0 e1 in
    lacks p.read (row (codes "size") size ∷ row (codes "align") align ∷ row (codes "flags") flags ∷ []) e2 refl p.complete
sound (size ∷ align ∷ flags ∷ cpus ∷ []) clean is =
    let p = level_passed shape (size ∷ align ∷ flags ∷ cpus ∷ []) (sym (fault_is (size ∷ align ∷ flags ∷ cpus ∷ [])) ∙ is) in
    let c0 = clean_first size (align ∷ flags ∷ cpus ∷ []) clean in
    let e0 : rest shape (place_at ([]) (Some (codes "size", size ∷ [])) 2) (align ∷ flags ∷ cpus ∷ []) ≡ Some p.read = place_passes shape places [] None 1 size (align ∷ flags ∷ cpus ∷ []) p.read c0.0 p.walked_to in
    let c1 = clean_first align (flags ∷ cpus ∷ []) c0.1 in
    let e1 : rest shape (place_at (row (codes "size") size ∷ []) (Some (codes "align", align ∷ [])) 3) (flags ∷ cpus ∷ []) ≡ Some p.read = place_passes shape places ([]) (Some (codes "size", size ∷ [])) 2 align (flags ∷ cpus ∷ []) p.read c1.0 e0 in
    let c2 = clean_first flags (cpus ∷ []) c1.1 in
    let e2 : rest shape (place_at (row (codes "size") size ∷ row (codes "align") align ∷ []) (Some (codes "flags", flags ∷ [])) 4) (cpus ∷ []) ≡ Some p.read = place_passes shape places (row (codes "size") size ∷ []) (Some (codes "align", align ∷ [])) 3 flags (cpus ∷ []) p.read c2.0 e1 in
    let c3 = clean_first cpus ([]) c2.1 in
    let e3 : rest shape (place_at (row (codes "size") size ∷ row (codes "align") align ∷ row (codes "flags") flags ∷ []) (Some (codes "cpus", cpus ∷ [])) 5) ([]) ≡ Some p.read = place_passes shape places (row (codes "size") size ∷ row (codes "align") align ∷ []) (Some (codes "flags", flags ∷ [])) 4 cpus ([]) p.read c3.0 e2 in
    let same : rows size align flags cpus ≡ p.read = some_rows (rows size align flags cpus) p.read e3 in
    record { size = size; align = align; flags = flags; cpus = cpus; words_are = refl; found = p.found ∙ ap (λ (r : List Row). fold with_default r rules) (sym same) }
sound (size ∷ align ∷ flags ∷ cpus ∷ more ∷ words) clean is =
    let p = level_passed shape (size ∷ align ∷ flags ∷ cpus ∷ more ∷ words) (sym (fault_is (size ∷ align ∷ flags ∷ cpus ∷ more ∷ words)) ∙ is) in
    let c0 = clean_first size (align ∷ flags ∷ cpus ∷ more ∷ words) clean in
    let e0 : rest shape (place_at ([]) (Some (codes "size", size ∷ [])) 2) (align ∷ flags ∷ cpus ∷ more ∷ words) ≡ Some p.read = place_passes shape places [] None 1 size (align ∷ flags ∷ cpus ∷ more ∷ words) p.read c0.0 p.walked_to in
    let c1 = clean_first align (flags ∷ cpus ∷ more ∷ words) c0.1 in
    let e1 : rest shape (place_at (row (codes "size") size ∷ []) (Some (codes "align", align ∷ [])) 3) (flags ∷ cpus ∷ more ∷ words) ≡ Some p.read = place_passes shape places ([]) (Some (codes "size", size ∷ [])) 2 align (flags ∷ cpus ∷ more ∷ words) p.read c1.0 e0 in
    let c2 = clean_first flags (cpus ∷ more ∷ words) c1.1 in
    let e2 : rest shape (place_at (row (codes "size") size ∷ row (codes "align") align ∷ []) (Some (codes "flags", flags ∷ [])) 4) (cpus ∷ more ∷ words) ≡ Some p.read = place_passes shape places (row (codes "size") size ∷ []) (Some (codes "align", align ∷ [])) 3 flags (cpus ∷ more ∷ words) p.read c2.0 e1 in
    let c3 = clean_first cpus (more ∷ words) c2.1 in
    let e3 : rest shape (place_at (row (codes "size") size ∷ row (codes "align") align ∷ row (codes "flags") flags ∷ []) (Some (codes "cpus", cpus ∷ [])) 5) (more ∷ words) ≡ Some p.read = place_passes shape places (row (codes "size") size ∷ row (codes "align") align ∷ []) (Some (codes "flags", flags ∷ [])) 4 cpus (more ∷ words) p.read c3.0 e2 in
    let c4 = clean_first more words c3.1 in
    let bad : None ≡ Some p.read = place_passes shape places (row (codes "size") size ∷ row (codes "align") align ∷ row (codes "flags") flags ∷ []) (Some (codes "cpus", cpus ∷ [])) 5 more words p.read c4.0 e3 in
    cc

-- words with no hyphen in front, one for each place, pass
pub complete : (size align flags cpus : Text) → IsPlain size → IsPlain align → IsPlain flags → IsPlain cpus → (fault_of layout_app (size ∷ align ∷ flags ∷ cpus ∷ []) ≡ []) × (matches_of layout_app (size ∷ align ∷ flags ∷ cpus ∷ []) ≡ rows size align flags cpus)
unfolding rest defaults_fault
complete size align flags cpus plain_size plain_align plain_flags plain_cpus =
    let walked_to : rest shape opening (size ∷ align ∷ flags ∷ cpus ∷ []) ≡ Some (rows size align flags cpus) = place_plain shape [] None 1 size (align ∷ flags ∷ cpus ∷ []) plain_size.not_dashes plain_size.long plain_size.short
    ∙ (place_plain shape ([]) (Some (codes "size", size ∷ [])) 2 align (flags ∷ cpus ∷ []) plain_align.not_dashes plain_align.long plain_align.short
    ∙ (place_plain shape (row (codes "size") size ∷ []) (Some (codes "align", align ∷ [])) 3 flags (cpus ∷ []) plain_flags.not_dashes plain_flags.long plain_flags.short
    ∙ (place_plain shape (row (codes "size") size ∷ row (codes "align") align ∷ []) (Some (codes "flags", flags ∷ [])) 4 cpus ([]) plain_cpus.not_dashes plain_cpus.long plain_cpus.short))) in
    let passes = level_passes shape (size ∷ align ∷ flags ∷ cpus ∷ []) (rows size align flags cpus) walked_to refl refl in
    (fault_is (size ∷ align ∷ flags ∷ cpus ∷ []) ∙ passes.0, passes.1)

-- what a parse that passed says of the places
pub record Parsed (words : List Text) (entries : Entries) : Type 0 where
  pub places : Found words
  pub says : (id : Text) → first_value entries id ≡ first_of id (rows places.size places.align places.flags places.cpus)

pub parsed : (a : App) (words : List Text) (entries : Entries) (P : Type 0) → a ≡ layout_app → no_dashes words ≡ true → (is_simple_and_free a ≡ true → fault_of a words ≡ [])
    → (is_simple a ≡ true → (rows_of entries ≡ matches_of a words) × P) → Parsed words entries
parsed a words entries P is clean passes has =
    let found = sound words clean (no_fault a layout_app words is refl passes) in
    let rows_are = rows_found a layout_app words (rows_of entries) P is refl has in
    record { places = found; says = λ id. first_value-rows entries id ∙ ap (first_of id) (rows_are ∙ found.found) }

-- an error that isn't want of memory says that there are no such words
pub no_places : (a : App) (words : List Text) (k : ErrorKind) → a ≡ layout_app → (is_simple_and_free a ≡ true → (k ≡ OutOfMemory) ⊎ IsAmong k (fault_of a words)) → k ≢ OutOfMemory
    → (size align flags cpus : Text) → words ≡ size ∷ align ∷ flags ∷ cpus ∷ [] → (is_plain size && is_plain align && is_plain flags && is_plain cpus) ≡ true → ⊥
no_places a words k is fails other size align flags cpus words_are plain =
    let parts4 = and_parts (is_plain size && is_plain align && is_plain flags) (is_plain cpus) plain in
    let parts3 = and_parts (is_plain size && is_plain align) (is_plain flags) parts4.0 in
    let parts2 = and_parts (is_plain size) (is_plain align) parts3.0 in
    let passes = complete size align flags cpus (plain_word size parts2.0) (plain_word align parts2.1) (plain_word flags parts3.1) (plain_word cpus parts4.1) in
    refused a layout_app words k is refl fails other (ap (fault_of layout_app) words_are ∙ passes.0)
