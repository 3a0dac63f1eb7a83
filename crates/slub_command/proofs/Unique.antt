-- Words spell one command.
use Rattle.std.proofs.Common.{◌≡◌, ℕ, Bool, true, false, Option, Some, None, List, [], ◌∷◌, refl, sym, ◌∙◌, subst, codes}
use Rattle.std.specs.Str.{bytes_eq}
use Rattle.slub_object_layout.specs.declared.layout.Flags.{Flags}
use Rattle.slub_object_layout.specs.declared.layout.Spec.{Spec}
use Rattle.slub_command.specs.declared.command.How.{How}
use Rattle.slub_command.specs.declared.command.How.TheVariants.{Serial, Schedule, Threads}
use Rattle.slub_command.specs.declared.command.Command.{Command}
use Rattle.slub_command.specs.declared.command.Command.TheVariants.{Replay, Layout, Load}
use Rattle.slub_command.specs.Command.{IsCommand, IsLayout, IsLoad}
use Rattle.slub_command.specs.Options.{IsHow, IsReplay, IsSeed, how_word}
use Rattle.slub_command.specs.Spelling.{Word, IsFlags, IsNumber}
use Rattle.slub_command.proofs.Commands.{apart, options_clean, replay_bare, same_four, same_three}
use Rattle.slub_command.proofs.Matches.{flag_text, read_complete}

one_word : {A : Type 0} (value one other : Word) → bytes_eq one one ≡ true → bytes_eq one other ≡ false → value ≡ one → value ≡ other → A
one_word value one other same differ is also = apart one other same differ (sym is ∙ also)

one_how_word : (value : Word) (a b : How) → value ≡ how_word a → value ≡ how_word b → a ≡ b
one_how_word value Serial Serial is also = refl
one_how_word value Serial Schedule is also = one_word value (codes "serial") (codes "schedule") refl refl is also
one_how_word value Serial Threads is also = one_word value (codes "serial") (codes "threads") refl refl is also
one_how_word value Schedule Serial is also = one_word value (codes "schedule") (codes "serial") refl refl is also
one_how_word value Schedule Schedule is also = refl
one_how_word value Schedule Threads is also = one_word value (codes "schedule") (codes "threads") refl refl is also
one_how_word value Threads Serial is also = one_word value (codes "threads") (codes "serial") refl refl is also
one_how_word value Threads Schedule is also = one_word value (codes "threads") (codes "schedule") refl refl is also
one_how_word value Threads Threads is also = refl

one_how : (text : Option Word) (a b : How) → IsHow text a → IsHow text b → a ≡ b
one_how None a b is also = is ∙ sym also
one_how (Some value) a b is also = one_how_word value a b is also

one_number : (least most : ℕ) (word : Word) (a b : ℕ) → IsNumber least most word a → IsNumber least most word b → a ≡ b
one_number least most word a b is also = is.writes.value ∙ sym also.writes.value

one_seed : (text : Option Word) (a b : ℕ) → IsSeed text a → IsSeed text b → a ≡ b
one_seed None a b is also = is ∙ sym also
one_seed (Some value) a b is also = one_number _ _ value a b is also

one_text : (a b : Bool) → Some (flag_text a) ≡ Some (flag_text b) → a ≡ b
one_text true true is = refl
one_text false false is = refl
one_text true false is = cc
one_text false true is = cc

abbrev pub flags_from : Bool → Bool → Bool → Bool → Bool → Bool → Bool → Bool → Flags
flags_from l r c z p u t f = record { line = l; reclaim = r; checks = c; zones = z; poison = p; user = u; trace = t; fail = f }

one_flags : (word : Word) (a b : Flags) → IsFlags word a → IsFlags word b → a ≡ b
one_flags word a b is also =
    let same : flags_from a.line a.reclaim a.checks a.zones a.poison a.user a.trace a.fail ≡ flags_from b.line b.reclaim b.checks b.zones b.poison b.user b.trace b.fail =
    rw (
      is.line ∙ sym also.line,
      is.reclaim ∙ sym also.reclaim,
      is.checks ∙ sym also.checks,
      is.zones ∙ sym also.zones,
      is.poison ∙ sym also.poison,
      is.user ∙ sym also.user,
      is.trace ∙ sym also.trace,
      is.fail ∙ sym also.fail,
    ) refl in
    same

abbrev pub spec_from : ℕ → ℕ → Flags → Spec
spec_from size align flags = record { size = size; align = align; flags = flags }

one_replay : (words : List Word) (how other_how : How) (seed other_seed : ℕ) (replies other : Bool) → IsReplay words how seed replies → IsReplay words other_how other_seed other
    → Replay how seed replies ≡ Replay other_how other_seed other
one_replay words how other_how seed other_seed replies other is also =
    let bare = replay_bare words how seed replies is in
    let clean = options_clean words is.how_text is.seed_text replies is.options bare in
    let found = read_complete words is.how_text is.seed_text replies is.options bare clean in
    let again = read_complete words also.how_text also.seed_text other also.options (replay_bare words other_how other_seed other also) clean in
    let hows_are = sym found.how_is ∙ again.how_is in
    let seeds_are = sym found.seed_is ∙ again.seed_is in
    let replies_are = one_text replies other (sym found.replies_is ∙ again.replies_is) in
    let how_is = one_how also.how_text how other_how (subst (λ t. IsHow t how) hows_are is.how_is) also.how_is in
    let seed_is = one_seed also.seed_text seed other_seed (subst (λ t. IsSeed t seed) seeds_are is.seed_is) also.seed_is in
    cc

one_layout : (words : List Word) (spec other_spec : Spec) (cpus other_cpus : ℕ) → IsLayout words spec cpus → IsLayout words other_spec other_cpus → Layout spec cpus ≡ Layout other_spec other_cpus
one_layout words spec other_spec cpus other_cpus is also =
    let same = same_four _ _ _ _ _ _ _ _ (sym is.places ∙ also.places) in
    let size = one_number _ _ also.size_word _ _ (subst (λ w. IsNumber 0 4294967295 w spec.size) same.0 is.say.size_is) also.say.size_is in
    let align = one_number _ _ also.align_word _ _ (subst (λ w. IsNumber 0 4294967295 w spec.align) same.1 is.say.align_is) also.say.align_is in
    let flags = one_flags also.flags_word _ _ (subst (λ w. IsFlags w spec.flags) same.2 is.say.flags_is) also.say.flags_is in
    let count = one_number _ _ also.cpus_word _ _ (subst (λ w. IsNumber 1 16 w cpus) same.3 is.say.cpus_is) also.say.cpus_is in
    let specs : spec_from spec.size spec.align spec.flags ≡ spec_from other_spec.size other_spec.align other_spec.flags = rw (size, align, flags) refl in
    let same_spec : spec ≡ other_spec = specs in
    cc

one_load : (words : List Word) (seed other_seed events other_events workers other_workers : ℕ) → IsLoad words seed events workers → IsLoad words other_seed other_events other_workers
    → Load seed events workers ≡ Load other_seed other_events other_workers
one_load words seed other_seed events other_events workers other_workers is also =
    let same = same_three _ _ _ _ _ _ (sym is.places ∙ also.places) in
    let first = one_number _ _ also.seed_word _ _ (subst (λ w. IsNumber 0 18446744073709551615 w seed) same.0 is.say.seed_is) also.say.seed_is in
    let second = one_number _ _ also.events_word _ _ (subst (λ w. IsNumber 0 500000 w events) same.1 is.say.events_is) also.say.events_is in
    let third = one_number _ _ also.workers_word _ _ (subst (λ w. IsNumber 1 16 w workers) same.2 is.say.workers_is) also.say.workers_is in
    cc

pub one_command : (words : List Word) (a b : Command) → IsCommand words a → IsCommand words b → a ≡ b
one_command [] a b is also = absurd is
one_command (name ∷ words) (Replay h s r) (Replay i t q) is also = one_replay words h i s t r q is.1 also.1
one_command (name ∷ words) (Layout s c) (Layout t d) is also = one_layout words s t c d is.1 also.1
one_command (name ∷ words) (Load s e w) (Load t f v) is also = one_load words s t e f w v is.1 also.1
one_command (name ∷ words) (Replay h s r) (Layout t d) is also = one_word name (codes "replay") (codes "layout") refl refl is.0 also.0
one_command (name ∷ words) (Replay h s r) (Load t f v) is also = one_word name (codes "replay") (codes "load") refl refl is.0 also.0
one_command (name ∷ words) (Layout s c) (Replay i t q) is also = one_word name (codes "layout") (codes "replay") refl refl is.0 also.0
one_command (name ∷ words) (Layout s c) (Load t f v) is also = one_word name (codes "layout") (codes "load") refl refl is.0 also.0
one_command (name ∷ words) (Load s e w) (Replay i t q) is also = one_word name (codes "load") (codes "replay") refl refl is.0 also.0
one_command (name ∷ words) (Load s e w) (Layout t d) is also = one_word name (codes "load") (codes "layout") refl refl is.0 also.0
