-- What a conversion promises follows from what its parts do.
use Rattle.std.proofs.Common.{◌≡◌, ℕ, zero, suc, ◌<◌, ◌≤◌, ◌⊎◌, false, List, [], ◌∷◌, length, map, get_or, refl, sym, ap, subst, ◌∙◌, Option, None, Some, true≢false}
use Rattle.std.specs.Prelude.{All}
use Rattle.std.specs.Str.{bytes_eq}
use Rattle.std.proofs.lemmas.List.Quantifiers.{position-Some}
use Rattle.slub_recording.specs.declared.event.KmemEvent.{KmemEvent}
use Rattle.slub_recording.specs.declared.recording.Recording.{Recording}
use Rattle.slub_recorded.specs.declared.naming.Title.{Title}
use Rattle.slub_recorded.specs.declared.pairing.Born.{Born}
use Rattle.slub_recorded.specs.declared.pairing.Move.{Move}
use Rattle.slub_recorded.specs.declared.pairing.Pairing.{Pairing}
use Rattle.slub_recorded.specs.declared.convert.ConvertFault.TheVariants.{NoSuchGroup, TooManyObjects, TooLong}
use Rattle.slub_recorded.specs.declared.convert.Options.{Options}
use Rattle.slub_recorded.specs.declared.groups.Cache.{Cache}
use Rattle.slub_recorded.specs.declared.groups.Groups.{Groups}
use Rattle.slub_recorded.specs.declared.rounds.Step.{Step}
use Rattle.slub_recorded.specs.declared.text.Row.{Row}
use Rattle.slub_recorded.specs.declared.told.Note.{Note}
use Rattle.slub_recorded.specs.declared.tunes.Tune.{Tune}
use Rattle.slub_recorded.specs.declared.turns.Turn.{Turn}
use Rattle.slub_recorded.specs.Caches.{caches_of}
use Rattle.slub_recorded.specs.Comments.{IsNote, IsComment}
use Rattle.slub_recorded.specs.Converted.{IsConverted, IsFault, IsLaidOut, IsTraceText, IsTune, IsWritten, cpus_asked, caches, place_of, titles, turns_by}
use Rattle.slub_recorded.specs.Groups.{row_of}
use Rattle.slub_recorded.specs.Members.{AreGrouped, IsGrouped}
use Rattle.slub_recorded.specs.Naming.{titles_of}
use Rattle.slub_recorded.specs.Paired.{view}
use Rattle.slub_recorded.specs.Pairing.{Seen, seen}
use Rattle.slub_recorded.specs.Rounds.{count_workers, steps_of, turns_in}
use Rattle.slub_recorded.specs.Told.{note_words}
use Rattle.slub_recorded.specs.Turns.{AreNext, count_kept, turns_of}
use Rattle.slub_recorded.proofs.Lines.{AreTurns}
use Rattle.slub_recorded.proofs.Moves.{moves_are}
use Rattle.slub_recorded.proofs.Owned.{Agrees, moves_fit, moves_next}
use Rattle.slub_recorded.proofs.Shown.{chosen_by}
use Rattle.slub_recorded.proofs.Steps.{all_held, all_turns, few_cuts, few_workers, some_workers, steps_fit}
use Rattle.slub_recorded.proofs.Whole.{text_is_trace}

place_below : (rows : List Row) (title : Title) (p : ℕ) → place_of rows title ≡ Some p → p < length rows
place_below [] title p is = absurd cc
place_below (row ∷ rows) title p is = (position-Some (λ r. bytes_eq title.name r.name) (row ∷ rows) p row is).0

-- the places of objects are places of caches
places_below : (rows : List Row) (titles : List Title) (o p : ℕ) → get_or (map (place_of rows) titles) o None ≡ Some p → p < length rows
places_below rows [] o p is = absurd cc
places_below rows (title ∷ titles) zero p is = place_below rows title p is
places_below rows (title ∷ titles) (suc o) p is = places_below rows titles o p is

comments : (notes : List Note) → All IsNote notes → All (λ n. IsComment (note_words n)) notes
unfolding IsNote
comments notes are = are

pub moves_seen : (p : Pairing) (s : Seen) → view p ≡ s → (p.moves.items ≡ s.moves) × (p.fates.items ≡ s.fates) × (p.objects.items ≡ s.objects)
unfolding view
moves_seen p s is = (ap (λ (t : Seen). t.moves) is, ap (λ (t : Seen). t.fates) is, ap (λ (t : Seen). t.objects) is)

-- a text that isn't too long is what a conversion promises
pub converted : (recording : Recording) (options : Options) (tunes : List Tune) (notes : List Note) (text : List ℕ) → IsWritten recording options tunes notes text → All IsTune tunes → length text ≤ 16777216 → IsConverted recording options tunes notes text
converted recording options tunes notes text made fit short =
    let cpus : ℕ = made.cpus in
    let rows : List Row = made.rows in
    let places : List (Option ℕ) = made.places in
    let laid : IsLaidOut recording options cpus rows places = made.laid in
    let ms : List Move = (seen recording.events).moves in
    let ts : List Turn = turns_of places cpus ms in
    let n : ℕ = count_workers options.workers cpus in
    let body : IsTraceText notes cpus rows tunes n (steps_of options ts) text = made.written in
    let F : List (Option ℕ) → Type 0 = λ ps. (o p : ℕ) → get_or ps o None ≡ Some p → p < length rows in
    let inside : F places = subst F (sym laid.named) (places_below rows (titles recording)) in
    let turned : AreTurns cpus rows ts = moves_fit places cpus rows ms laid.some_cpu inside made.few_objects in
    let agrees : Agrees places 0 (λ _. false) (λ _. false) = record { below = λ o live. absurd (true≢false (sym live)); lively = λ o k live here. absurd (true≢false (sym live)) } in
    let next : AreNext (λ _. false) 0 ts = moves_next places cpus ms 0 0 (λ _. false) (λ _. false) refl (moves_are recording.events) agrees in
    let done : turns_in (steps_of options ts) ≡ ts = all_turns options ts in
    let N : List Turn → Type 0 = λ t. AreNext (λ _. false) 0 t in
    record {
      cpus = cpus;
      rows = rows;
      places = places;
      steps = steps_of options ts;
      named = laid.named;
      cpus_are = laid.cpus_are;
      some_cpu = laid.some_cpu;
      few_cpus = laid.few_cpus;
      few_caches = made.few_caches;
      few_objects = made.few_objects;
      apart = made.apart;
      shown = made.shown;
      next = next;
      cut = refl;
      done = done;
      held = all_held options ts;
      spells = text_is_trace note_words notes cpus rows tunes n (steps_of options ts) text (comments notes body.notes_are) laid.some_cpu laid.few_cpus (some_workers options.workers cpus laid.some_cpu) (few_workers options.workers cpus laid.few_cpus)
          made.lines fit (steps_fit cpus rows options ts turned) (subst N (sym done) next) (few_cuts options ts) short body.text_is;
      told = made.told;
    }

-- ---- faults

-- there is no group of the number that is asked for
pub no_group : (recording : Recording) (options : Options) (tunes : List Tune) (cpus : ℕ) (cs : List Cache) (groups : Groups) → IsGrouped cpus cs options.group groups → cs ≡ caches recording → cpus ≡ cpus_asked recording options → 1 ≤ cpus → cpus ≤ 16
    → (options.group ≡ 0) ⊎ (groups.groups < options.group) → IsFault recording options tunes (NoSuchGroup options.group groups.groups)
no_group recording options tunes cpus cs groups is ce asked some few none =
    let G : ℕ → Type 0 = λ n. AreGrouped n (caches recording) is.members in
    let C : List Cache → Type 0 = λ l. AreGrouped cpus l is.members in
    record {
      some_cpu = subst (λ (n : ℕ). 1 ≤ n) asked some;
      few_cpus = subst (λ (n : ℕ). n ≤ 16) asked few;
      members = is.members;
      grouped = subst G asked (subst C ce is.grouped);
      groups_are = is.count;
      group_is = refl;
      none = none;
    }

-- too many objects are kept
pub crowded : (recording : Recording) (options : Options) (tunes : List Tune) (cpus : ℕ) (rows : List Row) (places : List (Option ℕ)) (objects : ℕ) → IsLaidOut recording options cpus rows places → objects ≡ count_kept places → 1048576 < objects
    → IsFault recording options tunes (TooManyObjects objects)
crowded recording options tunes cpus rows places objects laid is many = record { cpus = cpus; rows = rows; places = places; laid = laid; objects_are = is; many = many }

-- the text is too long
pub too_long : (recording : Recording) (options : Options) (tunes : List Tune) (notes : List Note) (text : List ℕ) (bytes : ℕ) → IsWritten recording options tunes notes text → bytes ≡ length text → 16777216 < bytes → IsFault recording options tunes (TooLong bytes)
too_long recording options tunes notes text bytes made is long = record { notes = notes; text = text; written = made; bytes_are = is; long = long }

-- ---- what the parts of a conversion made

-- what a pairing has of moves and fates is the recording's
pub seen_are : (recording : Recording) (events : List KmemEvent) (p : Pairing) → view p ≡ seen events → events ≡ recording.events → (p.moves.items ≡ (seen recording.events).moves) × (p.fates.items ≡ (seen recording.events).fates)
seen_are recording events p v ee =
    let were = moves_seen p (seen events) v in
    (were.0 ∙ ap (λ e. (seen e).moves) ee, were.1 ∙ ap (λ e. (seen e).fates) ee)

-- the titles of what a pairing has are those of the recording
pub titles_are : (recording : Recording) (events : List KmemEvent) (p : Pairing) (names : List (List ℕ)) (objects : List Born) (moves : List Move)
    → view p ≡ seen events → events ≡ recording.events → names ≡ recording.names.keys → objects ≡ p.objects.items → moves ≡ p.moves.items → titles_of names objects moves ≡ titles recording
titles_are recording events p names objects moves v ee ne oe me =
    let were = moves_seen p (seen events) v in
    let os : objects ≡ (seen recording.events).objects = oe ∙ were.2 ∙ ap (λ e. (seen e).objects) ee in
    let ms : moves ≡ (seen recording.events).moves = me ∙ were.0 ∙ ap (λ e. (seen e).moves) ee in
    ap (λ n. titles_of n objects moves) ne ∙ ap (λ o. titles_of recording.names.keys o moves) os ∙ ap (λ m. titles_of recording.names.keys (seen recording.events).objects m) ms

-- the caches of what a pairing has are those of the recording
pub caches_are : (recording : Recording) (events : List KmemEvent) (p : Pairing) (ts : List Title) (objects : List Born) (moves : List Move)
    → view p ≡ seen events → events ≡ recording.events → ts ≡ titles recording → objects ≡ p.objects.items → moves ≡ p.moves.items → caches_of ts objects moves ≡ caches recording
caches_are recording events p ts objects moves v ee te oe me =
    let were = moves_seen p (seen events) v in
    let os : objects ≡ (seen recording.events).objects = oe ∙ were.2 ∙ ap (λ e. (seen e).objects) ee in
    let ms : moves ≡ (seen recording.events).moves = me ∙ were.0 ∙ ap (λ e. (seen e).moves) ee in
    ap (λ t. caches_of t objects moves) te ∙ ap (λ o. caches_of (titles recording) o moves) os ∙ ap (λ m. caches_of (titles recording) (seen recording.events).objects m) ms

-- what the caches and places are
pub laid_by : (recording : Recording) (options : Options) (cpus : ℕ) (rows : List Row) (places : List (Option ℕ)) (groups : Groups) → cpus ≡ cpus_asked recording options → 1 ≤ cpus → cpus ≤ 16 → IsGrouped cpus (caches recording) options.group groups
    → rows ≡ map row_of groups.chosen.items → 1 ≤ options.group → options.group ≤ groups.groups → places ≡ map (place_of rows) (titles recording) → IsLaidOut recording options cpus rows places
laid_by recording options cpus rows places groups asked some few is rows_are one there named =
    record { cpus_are = asked; some_cpu = some; few_cpus = few; members = is.members; chosen = chosen_by recording options cpus rows groups is rows_are one there; named = named }

-- the text, with what slices are lent of each part
pub text_by : (recording : Recording) (options : Options) (tunes : List Tune) (cpus : ℕ) (rows : List Row) (places : List (Option ℕ)) (moves : List Move) (notes : List Note) (text : List ℕ)
    (rows_lent : List Row) (turns turns_lent : List Turn) (steps steps_lent : List Step) (notes_lent : List Note) (workers : ℕ)
    → moves ≡ (seen recording.events).moves → rows_lent ≡ rows → turns ≡ turns_of places cpus moves → turns_lent ≡ turns → steps ≡ steps_of options turns_lent → steps_lent ≡ steps → notes_lent ≡ notes
    → workers ≡ count_workers options.workers cpus → IsTraceText notes_lent cpus rows_lent tunes workers steps_lent text
    → IsTraceText notes cpus rows tunes (count_workers options.workers cpus) (steps_of options (turns_by recording places cpus)) text
text_by recording options tunes cpus rows places moves notes text rows_lent turns turns_lent steps steps_lent notes_lent workers me re turned te cut se ne we written =
    let n : ℕ = count_workers options.workers cpus in
    let W : ℕ → Type 0 = λ w. IsTraceText notes_lent cpus rows_lent tunes w steps_lent text in
    let N : List Note → Type 0 = λ x. IsTraceText x cpus rows_lent tunes n steps_lent text in
    let R : List Row → Type 0 = λ r. IsTraceText notes cpus r tunes n steps_lent text in
    let S : List Step → Type 0 = λ s. IsTraceText notes cpus rows tunes n s text in
    subst S (se ∙ cut ∙ ap (steps_of options) (te ∙ turned ∙ ap (turns_of places cpus) me)) (subst R re (subst N ne (subst W we written)))
