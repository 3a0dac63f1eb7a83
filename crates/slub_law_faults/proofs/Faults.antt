-- Which causes exclude which, and what they leave open of a text.
use Rattle.std.proofs.Common.{◌≡◌, ℕ, ◌<◌, ◌≤◌, ◌≢◌, ◌⊎◌, inl, inr, List, ◌++◌, map, refl, sym, ap, subst, ◌∙◌, arith, Option}
use Rattle.std.specs.Prelude.{flat_map}
use Rattle.slub_recording.specs.declared.recording.Recording.{Recording}
use Rattle.slub_recorded.specs.declared.convert.ConvertFault.{ConvertFault}
use Rattle.slub_recorded.specs.declared.convert.ConvertFault.TheVariants.{NoMemory, TooManyCpus, NoSuchGroup, TooManyObjects, TooLong}
use Rattle.slub_recorded.specs.declared.convert.Options.{Options}
use Rattle.slub_recorded.specs.declared.naming.Title.{Title}
use Rattle.slub_recorded.specs.declared.text.Row.{Row}
use Rattle.slub_recorded.specs.declared.told.Note.{Note}
use Rattle.slub_recorded.specs.declared.tunes.Tune.{Tune}
use Rattle.slub_recorded.specs.Converted.{IsConverted, IsCrowded, IsFault, IsLaidOut, IsNoGroup, caches, cpus_asked, place_of, titles, turns_by}
use Rattle.slub_recorded.specs.Lines.{IsTraceOf, body_lines}
use Rattle.slub_recorded.specs.Members.{AreGrouped, Member, count_groups, in_group, row_for, unlettered_row}
use Rattle.slub_recorded.specs.Rounds.{count_workers, steps_of}
use Rattle.slub_recorded.specs.Text.{body_text}
use Rattle.slub_recorded.specs.Told.{note_text}
use Rattle.slub_recorded.specs.Tunes.{head_text}
use Rattle.slub_recorded.specs.Turns.{count_kept}
use Rattle.slub_trace_reader.specs.declared.line.Line.{Line}
use Rattle.slub_law_faults.specs.Settled.{FaultsExcludeEachOther, FaultsExcludeTraces, TextsDifferInComments, TracesDifferInComments, lines_with, unmeasured}
use Rattle.slub_law_faults.proofs.Groups.{groups-same}
use Rattle.slub_law_faults.proofs.Rows.{place-unlettered, same-letters}

-- ---- the CPUs

few-or-many : (asked n m : ℕ) → n ≡ asked → 1 ≤ n → n ≤ 16 → m ≡ asked → (m ≡ 0) ⊎ (16 < m) → ⊥
few-or-many asked n m is some few also (inl none) = omega (arith, is, some, few, also, none)
few-or-many asked n m is some few also (inr many) = omega (arith, is, some, few, also, many)

-- ---- the groups

here-or-not : (group groups count others : ℕ) → 1 ≤ group → group ≤ count → count ≡ others → groups ≡ others → (asked : ℕ) → asked ≡ group → (asked ≡ 0) ⊎ (groups < asked) → ⊥
here-or-not group groups count others one few same are asked is (inl none) = omega (arith, one, is, none)
here-or-not group groups count others one few same are asked is (inr above) = omega (arith, few, same, are, is, above)

module _ (recording : Recording) (options : Options) where
  -- groups are on the CPUs that are asked for
  on-asked : (cpus : ℕ) (ms : List Member) → cpus ≡ cpus_asked recording options → AreGrouped cpus (caches recording) ms → AreGrouped (cpus_asked recording options) (caches recording) ms
  on-asked cpus ms is grouped = let G : ℕ → Type 0 = λ n. AreGrouped n (caches recording) ms in subst G is grouped

  no-cpus : (cpus : ℕ) (rows : List Row) (places : List (Option ℕ)) (m : ℕ) → IsLaidOut recording options cpus rows places → m ≡ cpus_asked recording options → (m ≡ 0) ⊎ (16 < m) → ⊥
  no-cpus cpus rows places m laid is bad = few-or-many (cpus_asked recording options) cpus m laid.cpus_are laid.some_cpu laid.few_cpus is bad

  no-group : (cpus : ℕ) (rows : List Row) (places : List (Option ℕ)) (group groups : ℕ) → IsLaidOut recording options cpus rows places → IsNoGroup recording options group groups → ⊥
  no-group cpus rows places group groups laid none =
      let same : laid.members ≡ none.members = groups-same recording (cpus_asked recording options) laid.members none.members (on-asked cpus laid.members laid.cpus_are laid.chosen.grouped) none.grouped in
      here-or-not options.group groups (count_groups laid.members) (count_groups none.members) laid.chosen.group laid.chosen.few (ap count_groups same) none.groups_are group none.group_is none.none

  -- ---- the caches of a trace

  rows-same : (n m : ℕ) (rows others : List Row) (places also : List (Option ℕ)) → IsLaidOut recording options n rows places → IsLaidOut recording options m others also → map unlettered_row rows ≡ map unlettered_row others
  rows-same n m rows others places also a b =
      let same : a.members ≡ b.members =
      groups-same recording (cpus_asked recording options) a.members b.members (on-asked n a.members a.cpus_are a.chosen.grouped) (on-asked m b.members b.cpus_are b.chosen.grouped) in
      a.chosen.shown ∙ ap (λ (ms : List Member). map row_for (in_group options.group ms)) same ∙ sym b.chosen.shown

  places-same : (n m : ℕ) (rows others : List Row) (places also : List (Option ℕ)) → IsLaidOut recording options n rows places → IsLaidOut recording options m others also → places ≡ also
  places-same n m rows others places also a b =
      let same : map unlettered_row rows ≡ map unlettered_row others = rows-same n m rows others places also a b in
      let at : (title : Title) → place_of rows title ≡ place_of others title = λ title. sym (place-unlettered rows title) ∙ ap (λ (l : List Row). place_of l title) same ∙ place-unlettered others title in
      let all : map (place_of rows) (titles recording) ≡ map (place_of others) (titles recording) = λ i. map (λ (title : Title). at title i) (titles recording) in
      a.named ∙ all ∙ sym b.named

  -- ---- the objects

  not-crowded : (cpus : ℕ) (rows : List Row) (places : List (Option ℕ)) (objects : ℕ) → IsLaidOut recording options cpus rows places → count_kept places ≤ 1048576 → IsCrowded recording options objects → ⊥
  not-crowded cpus rows places objects laid few crowd =
      let same : count_kept places ≡ count_kept crowd.places = ap count_kept (places-same cpus crowd.cpus rows crowd.rows places crowd.places laid crowd.laid) in
      let are : objects ≡ count_kept crowd.places = crowd.objects_are in
      let many : 1048576 < objects = crowd.many in
      omega (arith, same, few, are, many)

  laid-out : (tunes : List Tune) (notes : List Note) (text : List ℕ) (conv : IsConverted recording options tunes notes text) → IsLaidOut recording options conv.cpus conv.rows conv.places
  laid-out tunes notes text conv =
      record { cpus_are = conv.cpus_are; some_cpu = conv.some_cpu; few_cpus = conv.few_cpus; members = conv.shown.members; chosen = conv.shown.chosen; named = conv.named }

-- ---- faults and traces

pub exclude-traces : FaultsExcludeTraces
exclude-traces recording options tunes notes text NoMemory conv settled fault = settled
exclude-traces recording options tunes notes text (TooManyCpus cpus) conv settled fault = no-cpus recording options conv.cpus conv.rows conv.places cpus (laid-out recording options tunes notes text conv) fault.0 fault.1
exclude-traces recording options tunes notes text (NoSuchGroup group groups) conv settled fault = no-group recording options conv.cpus conv.rows conv.places group groups (laid-out recording options tunes notes text conv) fault
exclude-traces recording options tunes notes text (TooManyObjects objects) conv settled fault = not-crowded recording options conv.cpus conv.rows conv.places objects (laid-out recording options tunes notes text conv) conv.few_objects fault
exclude-traces recording options tunes notes text (TooLong bytes) conv settled fault = settled

-- ---- faults

module _ (recording : Recording) (options : Options) (tunes : List Tune) where
  -- what excludes the causes behind it

  cpus-first : (cpus : ℕ) (other : ConvertFault) → IsFault recording options tunes (TooManyCpus cpus) → IsFault recording options tunes other → other ≢ NoMemory → unmeasured (TooManyCpus cpus) ≡ unmeasured other
  cpus-first cpus NoMemory a b some = absurd (some refl)
  cpus-first cpus (TooManyCpus others) a b some = ap TooManyCpus (a.0 ∙ sym b.0)
  cpus-first cpus (NoSuchGroup group groups) a b some = absurd (few-or-many (cpus_asked recording options) (cpus_asked recording options) cpus refl b.some_cpu b.few_cpus a.0 a.1)
  cpus-first cpus (TooManyObjects objects) a b some = absurd (no-cpus recording options b.cpus b.rows b.places cpus b.laid a.0 a.1)
  cpus-first cpus (TooLong bytes) a b some = absurd (no-cpus recording options b.written.cpus b.written.rows b.written.places cpus b.written.laid a.0 a.1)

  group-next : (group groups : ℕ) (other : ConvertFault) → IsFault recording options tunes (NoSuchGroup group groups) → IsFault recording options tunes other → other ≢ NoMemory → unmeasured (NoSuchGroup group groups) ≡ unmeasured other
  group-next group groups NoMemory a b some = absurd (some refl)
  group-next group groups (TooManyCpus cpus) a b some = sym (cpus-first cpus (NoSuchGroup group groups) b a (λ e. absurd cc))
  group-next group groups (NoSuchGroup asked others) a b some =
      let same : a.members ≡ b.members = groups-same recording (cpus_asked recording options) a.members b.members a.grouped b.grouped in
      let group_is : group ≡ asked = a.group_is ∙ sym b.group_is in
      let groups_are : groups ≡ others = a.groups_are ∙ ap count_groups same ∙ sym b.groups_are in
      λ i. NoSuchGroup (group_is i) (groups_are i)
  group-next group groups (TooManyObjects objects) a b some = absurd (no-group recording options b.cpus b.rows b.places group groups b.laid a)
  group-next group groups (TooLong bytes) a b some = absurd (no-group recording options b.written.cpus b.written.rows b.written.places group groups b.written.laid a)

  objects-next : (objects : ℕ) (other : ConvertFault) → IsFault recording options tunes (TooManyObjects objects) → IsFault recording options tunes other → other ≢ NoMemory → unmeasured (TooManyObjects objects) ≡ unmeasured other
  objects-next objects NoMemory a b some = absurd (some refl)
  objects-next objects (TooManyCpus cpus) a b some = sym (cpus-first cpus (TooManyObjects objects) b a (λ e. absurd cc))
  objects-next objects (NoSuchGroup group groups) a b some = sym (group-next group groups (TooManyObjects objects) b a (λ e. absurd cc))
  objects-next objects (TooManyObjects others) a b some =
      ap TooManyObjects (a.objects_are ∙ ap count_kept (places-same recording options a.cpus b.cpus a.rows b.rows a.places b.places a.laid b.laid) ∙ sym b.objects_are)
  objects-next objects (TooLong bytes) a b some = absurd (not-crowded recording options b.written.cpus b.written.rows b.written.places objects b.written.laid b.written.few_objects a)

  length-last : (bytes : ℕ) (other : ConvertFault) → IsFault recording options tunes (TooLong bytes) → IsFault recording options tunes other → other ≢ NoMemory → unmeasured (TooLong bytes) ≡ unmeasured other
  length-last bytes NoMemory a b some = absurd (some refl)
  length-last bytes (TooManyCpus cpus) a b some = sym (cpus-first cpus (TooLong bytes) b a (λ e. absurd cc))
  length-last bytes (NoSuchGroup group groups) a b some = sym (group-next group groups (TooLong bytes) b a (λ e. absurd cc))
  length-last bytes (TooManyObjects objects) a b some = sym (objects-next objects (TooLong bytes) b a (λ e. absurd cc))
  length-last bytes (TooLong others) a b some = refl

pub exclude-each-other : FaultsExcludeEachOther
exclude-each-other recording options tunes NoMemory other a b some also = absurd (some refl)
exclude-each-other recording options tunes (TooManyCpus cpus) other a b some also = cpus-first recording options tunes cpus other a b also
exclude-each-other recording options tunes (NoSuchGroup group groups) other a b some also = group-next recording options tunes group groups other a b also
exclude-each-other recording options tunes (TooManyObjects objects) other a b some also = objects-next recording options tunes objects other a b also
exclude-each-other recording options tunes (TooLong bytes) other a b some also = length-last recording options tunes bytes other a b also

-- ---- traces and texts

pub spell-alike : TracesDifferInComments
spell-alike recording options tunes notes others text other a b =
    let la = laid-out recording options tunes notes text a in
    let lb = laid-out recording options tunes others other b in
    let cpus : a.cpus ≡ b.cpus = a.cpus_are ∙ sym b.cpus_are in
    let rows : a.rows ≡ b.rows = same-letters a.rows b.rows (rows-same recording options a.cpus b.cpus a.rows b.rows a.places b.places la lb) a.apart b.apart in
    let places : a.places ≡ b.places = places-same recording options a.cpus b.cpus a.rows b.rows a.places b.places la lb in
    let cut : steps_of options (turns_by recording a.places a.cpus) ≡ steps_of options (turns_by recording b.places b.cpus) = λ i. steps_of options (turns_by recording (places i) (cpus i)) in
    let steps : a.steps ≡ b.steps = a.cut ∙ cut ∙ sym b.cut in
    let same : body_lines a.cpus a.rows tunes (count_workers options.workers a.cpus) a.steps ≡ body_lines b.cpus b.rows tunes (count_workers options.workers b.cpus) b.steps =
    λ i. body_lines (cpus i) (rows i) tunes (count_workers options.workers (cpus i)) (steps i) in
    record {
      below = body_lines a.cpus a.rows tunes (count_workers options.workers a.cpus) a.steps;
      text_spells = a.spells;
      other_spells = subst (λ (l : List Line). IsTraceOf other (lines_with tunes others l)) (sym same) b.spells;
    }

-- what stands below the comments
body : Recording → Options → List Tune → ℕ → List Row → List (Option ℕ) → List ℕ
body recording options tunes cpus rows places = body_text cpus rows tunes (count_workers options.workers cpus) (steps_of options (turns_by recording places cpus))

pub differ-in-comments : TextsDifferInComments
unfolding body
differ-in-comments recording options tunes notes others text other a b =
    let cpus : a.cpus ≡ b.cpus = a.laid.cpus_are ∙ sym b.laid.cpus_are in
    let rows : a.rows ≡ b.rows = same-letters a.rows b.rows (rows-same recording options a.cpus b.cpus a.rows b.rows a.places b.places a.laid b.laid) a.apart b.apart in
    let places : a.places ≡ b.places = places-same recording options a.cpus b.cpus a.rows b.rows a.places b.places a.laid b.laid in
    let same : body recording options tunes a.cpus a.rows a.places ≡ body recording options tunes b.cpus b.rows b.places = λ i. body recording options tunes (cpus i) (rows i) (places i) in
    record {
      body = body recording options tunes a.cpus a.rows a.places;
      text_is = a.written.text_is;
      other_is = b.written.text_is ∙ ap (λ (l : List ℕ). head_text tunes ++ flat_map note_text others ++ l) (sym same);
    }
