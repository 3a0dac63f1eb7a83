-- The places of `load`.
use Rattle.std.proofs.Common.{◌≡◌, ◌≢◌, ◌⊎◌, ◌&&◌, Some, None, List, [], ◌∷◌, true, refl, sym, ap, ◌∙◌, subst, codes, false}
use Rattle.std.specs.Prelude.{fold}
use Rattle.std.proofs.lemmas.Bool.{and_parts}
use Rattle.clap.specs.Walk.{Row, Rule, Text, first_of, nothing_held, rows_of, with_default}
use Rattle.clap.specs.Simple.{App, Shape, is_simple, matches_of}
use Rattle.clap.specs.Matches.{first_value}
use Rattle.clap.specs.Kinds.{IsAmong}
use Rattle.clap.proofs.WalkLemmas.{first_value-rows}
use Rattle.clap.specs.declared.parser.matches.Found.{Found as Entries}
use Rattle.clap.specs.declared.error.kind.ErrorKind.{ErrorKind}
use Rattle.clap.specs.declared.error.kind.ErrorKind.TheVariants.{OutOfMemory}
use Rattle.slub_command.specs.Options.{is_plain}
use Rattle.slub_command.proofs.Given.{no_fault, refused, rows_found}
use Rattle.clap.specs.Faults.{check_fault, defaults_fault, fault_of, is_simple_and_free, level_fault}
use Rattle.clap.proofs.FaultLemmas.{leaf_fault}
use Rattle.clap.specs.declared.error.kind.ErrorKind.TheVariants as kind
use Rattle.slub_command.specs.Arguments.{load_app, no_dashes}
use Rattle.slub_command.proofs.Walks.{rest, row, shape_with}
use Rattle.slub_command.proofs.PlaceWalks.{HasPlaces, IsPlain, clean_first, level_passed, level_passes, opening, place_at, place_passes, place_plain, placed, plain_word}

abbrev pub rules : List Rule
rules = placed (codes "seed") 1 ∷ placed (codes "events") 2 ∷ placed (codes "workers") 3 ∷ []

abbrev pub shape : Shape
shape = shape_with (codes "load") rules

places : HasPlaces shape
places = record { long = λ name. refl; short = λ c. refl }

fault_is : (words : List Text) → fault_of load_app words ≡ level_fault shape [] nothing_held words false []
fault_is words = leaf_fault (record { top = shape; subs = [] }) nothing_held words refl

abbrev pub rows : Text → Text → Text → List Row
rows seed events workers = row (codes "seed") seed ∷ row (codes "events") events ∷ row (codes "workers") workers ∷ []

-- each place has a word, and no other word is there
pub record Found (words : List Text) : Type 0 where
  pub seed : Text
  pub events : Text
  pub workers : Text
  pub words_are : words ≡ seed ∷ events ∷ workers ∷ []
  pub found : matches_of load_app words ≡ rows seed events workers

some_rows : (a b : List Row) → Some a ≡ Some b → a ≡ b
some_rows a b is = cc

-- what is read of fewer words lacks what is required
lacks : {A : Type 0} (read few : List Row) → Some few ≡ Some read → check_fault shape (fold with_default few rules) false ≡ kind.MissingRequiredArgument ∷ [] → check_fault shape (fold with_default read rules) false ≡ [] → A
lacks read few is missing complete =
    let same : few ≡ read = cc in
    let bad : kind.MissingRequiredArgument ∷ [] ≡ [] = sym missing ∙ subst (λ r. check_fault shape (fold with_default r rules) false ≡ []) (sym same) complete in
    cc

pub sound : (words : List Text) → no_dashes words ≡ true → fault_of load_app words ≡ [] → Found words
unfolding rest
sound [] clean is =
    let p = level_passed shape ([]) (sym (fault_is ([])) ∙ is) in
    lacks p.read ([]) p.walked_to refl p.complete
sound (seed ∷ []) clean is =
    let p = level_passed shape (seed ∷ []) (sym (fault_is (seed ∷ [])) ∙ is) in
    let c0 = clean_first seed ([]) clean in
    let e0 : rest shape (place_at ([]) (Some (codes "seed", seed ∷ [])) 2) ([]) ≡ Some p.read = place_passes shape places [] None 1 seed ([]) p.read c0.0 p.walked_to in
    lacks p.read (row (codes "seed") seed ∷ []) e0 refl p.complete
sound (seed ∷ events ∷ []) clean is =
    let p = level_passed shape (seed ∷ events ∷ []) (sym (fault_is (seed ∷ events ∷ [])) ∙ is) in
    let c0 = clean_first seed (events ∷ []) clean in
    let e0 : rest shape (place_at ([]) (Some (codes "seed", seed ∷ [])) 2) (events ∷ []) ≡ Some p.read = place_passes shape places [] None 1 seed (events ∷ []) p.read c0.0 p.walked_to in
    let c1 = clean_first events ([]) c0.1 in
    let e1 : rest shape (place_at (row (codes "seed") seed ∷ []) (Some (codes "events", events ∷ [])) 3) ([]) ≡ Some p.read = place_passes shape places ([]) (Some (codes "seed", seed ∷ [])) 2 events ([]) p.read c1.0 e0 in
    lacks p.read (row (codes "seed") seed ∷ row (codes "events") events ∷ []) e1 refl p.complete
sound (seed ∷ events ∷ workers ∷ []) clean is =
    let p = level_passed shape (seed ∷ events ∷ workers ∷ []) (sym (fault_is (seed ∷ events ∷ workers ∷ [])) ∙ is) in
    let c0 = clean_first seed (events ∷ workers ∷ []) clean in
    let e0 : rest shape (place_at ([]) (Some (codes "seed", seed ∷ [])) 2) (events ∷ workers ∷ []) ≡ Some p.read = place_passes shape places [] None 1 seed (events ∷ workers ∷ []) p.read c0.0 p.walked_to in
    let c1 = clean_first events (workers ∷ []) c0.1 in
    let e1 : rest shape (place_at (row (codes "seed") seed ∷ []) (Some (codes "events", events ∷ [])) 3) (workers ∷ []) ≡ Some p.read = place_passes shape places ([]) (Some (codes "seed", seed ∷ [])) 2 events (workers ∷ []) p.read c1.0 e0 in
    let c2 = clean_first workers ([]) c1.1 in
    let e2 : rest shape (place_at (row (codes "seed") seed ∷ row (codes "events") events ∷ []) (Some (codes "workers", workers ∷ [])) 4) ([]) ≡ Some p.read = place_passes shape places (row (codes "seed") seed ∷ []) (Some (codes "events", events ∷ [])) 3 workers ([]) p.read c2.0 e1 in
    let same : rows seed events workers ≡ p.read = some_rows (rows seed events workers) p.read e2 in
    record { seed = seed; events = events; workers = workers; words_are = refl; found = p.found ∙ ap (λ (r : List Row). fold with_default r rules) (sym same) }
sound (seed ∷ events ∷ workers ∷ more ∷ words) clean is =
    let p = level_passed shape (seed ∷ events ∷ workers ∷ more ∷ words) (sym (fault_is (seed ∷ events ∷ workers ∷ more ∷ words)) ∙ is) in
    let c0 = clean_first seed (events ∷ workers ∷ more ∷ words) clean in
    let e0 : rest shape (place_at ([]) (Some (codes "seed", seed ∷ [])) 2) (events ∷ workers ∷ more ∷ words) ≡ Some p.read = place_passes shape places [] None 1 seed (events ∷ workers ∷ more ∷ words) p.read c0.0 p.walked_to in
    let c1 = clean_first events (workers ∷ more ∷ words) c0.1 in
    let e1 : rest shape (place_at (row (codes "seed") seed ∷ []) (Some (codes "events", events ∷ [])) 3) (workers ∷ more ∷ words) ≡ Some p.read = place_passes shape places ([]) (Some (codes "seed", seed ∷ [])) 2 events (workers ∷ more ∷ words) p.read c1.0 e0 in
    let c2 = clean_first workers (more ∷ words) c1.1 in
    let e2 : rest shape (place_at (row (codes "seed") seed ∷ row (codes "events") events ∷ []) (Some (codes "workers", workers ∷ [])) 4) (more ∷ words) ≡ Some p.read = place_passes shape places (row (codes "seed") seed ∷ []) (Some (codes "events", events ∷ [])) 3 workers (more ∷ words) p.read c2.0 e1 in
    let c3 = clean_first more words c2.1 in
    let bad : None ≡ Some p.read = place_passes shape places (row (codes "seed") seed ∷ row (codes "events") events ∷ []) (Some (codes "workers", workers ∷ [])) 4 more words p.read c3.0 e2 in
    cc

-- words with no hyphen in front, one for each place, pass
pub complete : (seed events workers : Text) → IsPlain seed → IsPlain events → IsPlain workers → (fault_of load_app (seed ∷ events ∷ workers ∷ []) ≡ []) × (matches_of load_app (seed ∷ events ∷ workers ∷ []) ≡ rows seed events workers)
unfolding rest defaults_fault
complete seed events workers plain_seed plain_events plain_workers =
    let walked_to : rest shape opening (seed ∷ events ∷ workers ∷ []) ≡ Some (rows seed events workers) = place_plain shape [] None 1 seed (events ∷ workers ∷ []) plain_seed.not_dashes plain_seed.long plain_seed.short
    ∙ (place_plain shape ([]) (Some (codes "seed", seed ∷ [])) 2 events (workers ∷ []) plain_events.not_dashes plain_events.long plain_events.short
    ∙ (place_plain shape (row (codes "seed") seed ∷ []) (Some (codes "events", events ∷ [])) 3 workers ([]) plain_workers.not_dashes plain_workers.long plain_workers.short)) in
    let passes = level_passes shape (seed ∷ events ∷ workers ∷ []) (rows seed events workers) walked_to refl refl in
    (fault_is (seed ∷ events ∷ workers ∷ []) ∙ passes.0, passes.1)

-- what a parse that passed says of the places
pub record Parsed (words : List Text) (entries : Entries) : Type 0 where
  pub places : Found words
  pub says : (id : Text) → first_value entries id ≡ first_of id (rows places.seed places.events places.workers)

pub parsed : (a : App) (words : List Text) (entries : Entries) (P : Type 0) → a ≡ load_app → no_dashes words ≡ true → (is_simple_and_free a ≡ true → fault_of a words ≡ [])
    → (is_simple a ≡ true → (rows_of entries ≡ matches_of a words) × P) → Parsed words entries
parsed a words entries P is clean passes has =
    let found = sound words clean (no_fault a load_app words is refl passes) in
    let rows_are = rows_found a load_app words (rows_of entries) P is refl has in
    record { places = found; says = λ id. first_value-rows entries id ∙ ap (first_of id) (rows_are ∙ found.found) }

-- an error that isn't want of memory says that there are no such words
pub no_places : (a : App) (words : List Text) (k : ErrorKind) → a ≡ load_app → (is_simple_and_free a ≡ true → (k ≡ OutOfMemory) ⊎ IsAmong k (fault_of a words)) → k ≢ OutOfMemory
    → (seed events workers : Text) → words ≡ seed ∷ events ∷ workers ∷ [] → (is_plain seed && is_plain events && is_plain workers) ≡ true → ⊥
no_places a words k is fails other seed events workers words_are plain =
    let parts3 = and_parts (is_plain seed && is_plain events) (is_plain workers) plain in
    let parts2 = and_parts (is_plain seed) (is_plain events) parts3.0 in
    let passes = complete seed events workers (plain_word seed parts2.0) (plain_word events parts2.1) (plain_word workers parts3.1) in
    refused a load_app words k is refl fails other (ap (fault_of load_app) words_are ∙ passes.0)
