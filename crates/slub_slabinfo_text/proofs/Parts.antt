-- A text that is written in two parts.
use Rattle.std.proofs.Common.{◌≡◌, ℕ, List, [], ◌++◌, ap, sym, ◌∙◌, append-nil, subst, Option, Result, Ok, Err, OnErr, OnOk}
use Rattle.std.specs.Io.KnownBytes.{Appends}
use Rattle.std.proofs.KnownBytes.{Appends-trans}
use Rattle.slub_edges.specs.Edges.{AppendsFront}
use Rattle.slub_edges.proofs.Told.{AppendsFront-within}

module _ {A E : Type 0} (a b d : Option (List ℕ)) (text first second : List ℕ) (parts : text ≡ first ++ second) (before : Appends a b first) where
  -- the second was written whole
  pub whole_written : (r : Result A E) → OnOk r (Appends b d second) → OnOk r (Appends a d text)
  whole_written (Ok x) then = subst (Appends a d) (sym parts) (Appends-trans a b d first second before then)
  whole_written (Err e) then = tt

  -- a front of the second was written
  pub front_written : (r : Result A E) → OnErr r (AppendsFront b d 0 second) → OnErr r (AppendsFront a d 0 text)
  front_written (Ok x) then = tt
  front_written (Err e) then = AppendsFront-within a b d text first second [] (parts ∙ ap (λ l. first ++ l) (sym (append-nil second))) before then
