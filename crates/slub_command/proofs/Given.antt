-- What the calls of `clap` say of the options.
use Rattle.std.proofs.Common.{◌≡◌, ◌≢◌, Bool, true, false, ◌&&◌, ◌⊎◌, Option, Some, List, [], refl, sym, ap, ◌∙◌, inl, inr, subst, codes}
use Rattle.std.specs.List.{list_all}
use Rattle.clap.specs.Kinds.{IsAmong}
use Rattle.clap.specs.Matches.{first_value, one_text}
use Rattle.clap.specs.Simple.{App, is_simple, matches_of}
use Rattle.clap.specs.Faults.{fault_of, is_simple_and_free}
use Rattle.clap.specs.Walk.{Row, Text, rows_of, first_of, one_of}
use Rattle.clap.proofs.WalkLemmas.{first_value-rows, one_text-rows}
use Rattle.clap.specs.declared.error.kind.ErrorKind.{ErrorKind}
use Rattle.clap.specs.declared.error.kind.ErrorKind.TheVariants.{OutOfMemory}
use Rattle.clap.specs.declared.parser.matches.Found.{Found}
use Rattle.slub_command.specs.Arguments.{no_dashes, replay_app}
use Rattle.slub_command.specs.Options.{AreOptions, is_bare, listed}
use Rattle.slub_command.proofs.Matches.{read_sound, read_complete, flag_text}

-- what a parse that passed says of the options
pub record Said (words : List Text) (found : Found) (how seed : Option Text) (set : Bool) : Type 0 where
  pub clean : no_dashes words ≡ true
  pub passes : fault_of replay_app words ≡ []
  pub rows : rows_of found ≡ matches_of replay_app words
  pub how_is : how ≡ first_value found (codes "how")
  pub seed_is : seed ≡ first_value found (codes "seed")
  pub set_is : one_text found (codes "replies") ≡ Some (codes "true") → set ≡ true
  pub unset_is : one_text found (codes "replies") ≡ Some (codes "false") → set ≡ false

pub no_fault : (a b : App) (words : List Text) → a ≡ b → is_simple_and_free b ≡ true → (is_simple_and_free a ≡ true → fault_of a words ≡ []) → fault_of b words ≡ []
no_fault a b words is simple passes = sym (ap (λ x. fault_of x words) is) ∙ passes (ap is_simple_and_free is ∙ simple)

pub rows_found : (a b : App) (words : List Text) (rows : List Row) (P : Type 0) → a ≡ b → is_simple b ≡ true → (is_simple a ≡ true → (rows ≡ matches_of a words) × P) → rows ≡ matches_of b words
rows_found a b words rows P is simple has = (has (ap is_simple is ∙ simple)).0 ∙ ap (λ x. matches_of x words) is

flag_is : (one : Option Text) (set replies : Bool) → (one ≡ Some (codes "true") → set ≡ true) → (one ≡ Some (codes "false") → set ≡ false) → one ≡ Some (flag_text replies) → set ≡ replies
flag_is one set true on off is = on is
flag_is one set false on off is = off is

module _ (words : List Text) (found : Found) (how seed : Option Text) (set : Bool) (said : Said words found how seed set) where
  how_rows : how ≡ first_of (codes "how") (matches_of replay_app words)
  how_rows = said.how_is ∙ (first_value-rows found (codes "how") ∙ ap (first_of (codes "how")) said.rows)

  seed_rows : seed ≡ first_of (codes "seed") (matches_of replay_app words)
  seed_rows = said.seed_is ∙ (first_value-rows found (codes "seed") ∙ ap (first_of (codes "seed")) said.rows)

  set_rows : (replies : Bool) → one_of (codes "replies") (matches_of replay_app words) ≡ Some (flag_text replies) → set ≡ replies
  set_rows replies is = flag_is (one_text found (codes "replies")) set replies said.set_is said.unset_is (one_text-rows found (codes "replies") ∙ (ap (one_of (codes "replies")) said.rows ∙ is))

  pub given_options : AreOptions words how seed set
  given_options =
      let f = read_sound words said.clean said.passes in
      subst (λ h. AreOptions words h seed set) (sym how_rows)
      (subst (λ s. AreOptions words (first_of (codes "how") (matches_of replay_app words)) s set) (sym seed_rows)
      (subst (λ b. AreOptions words (first_of (codes "how") (matches_of replay_app words)) (first_of (codes "seed") (matches_of replay_app words)) b) (sym (set_rows f.replies f.replies_is)) f.options))

  pub only_options : (other_how other_seed : Option Text) (replies : Bool) → AreOptions words other_how other_seed replies
      → (list_all is_bare (listed other_how) && list_all is_bare (listed other_seed)) ≡ true → (other_how ≡ how) × (other_seed ≡ seed) × (replies ≡ set)
  only_options other_how other_seed replies options good =
      let f = read_complete words other_how other_seed replies options good said.clean in
      (sym f.how_is ∙ sym how_rows, sym f.seed_is ∙ sym seed_rows, sym (set_rows replies f.replies_is))

-- an error that isn't want of memory says that the words are refused
pub refused : (a b : App) (words : List Text) (k : ErrorKind) → a ≡ b → is_simple_and_free b ≡ true → (is_simple_and_free a ≡ true → (k ≡ OutOfMemory) ⊎ IsAmong k (fault_of a words)) → k ≢ OutOfMemory → fault_of b words ≡ [] → ⊥
refused a b words k is simple fails other none =
    elim (fails (ap is_simple_and_free is ∙ simple)) [
      | inl memory ↦ other memory
      | inr among ↦ subst (λ kinds. IsAmong k kinds) (ap (λ x. fault_of x words) is ∙ none) among
    ]

pub no_options : (a : App) (words : List Text) (k : ErrorKind) → a ≡ replay_app → no_dashes words ≡ true → (is_simple_and_free a ≡ true → (k ≡ OutOfMemory) ⊎ IsAmong k (fault_of a words)) → k ≢ OutOfMemory
    → (how seed : Option Text) (replies : Bool) → AreOptions words how seed replies → (list_all is_bare (listed how) && list_all is_bare (listed seed)) ≡ true → ⊥
no_options a words k is clean fails other how seed replies options good =
    refused a replay_app words k is refl fails other (read_complete words how seed replies options good clean).passes
