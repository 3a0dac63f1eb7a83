-- Turns of one worker, one after another, each a turn of the step machine.
use Rattle.std.specs.Prelude.{◌≡◌, ◌<◌, ℕ, Bool, false, List, [], ◌∷◌, ◌++◌, length}
use Rattle.slub_trace.specs.declared.reply.Reply.{Reply}
use Rattle.slub_core.specs.declared.local.Answered.{Answered}
use Rattle.slub_core.specs.declared.spot.Spot.TheVariants.{Between}
use Rattle.slub_core.specs.Setup.{Setup}
use Rattle.slub_core.specs.Local.{Local, call_of}
use Rattle.slub_core.specs.declared.guarded.Guarded.{Guarded}
use Rattle.slub_core.specs.declared.guarded.Guarded.TheVariants.{Nothing}
use Rattle.slub_workers.specs.Standing.{Standing, after_turn}

-- ---- where turns lead

-- what a turn meets: the word that its step finds, what a lock guards that it takes, and whether
-- memory is refused in it
pub record Met : Type 0 where
  pub word : ℕ
  pub value : Guarded
  pub refused : Bool

-- a turn that takes no lock and no memory finds this word
abbrev pub word_alone : ℕ → Met
word_alone word = record { word = word; value = Nothing; refused = false }

abbrev pub after_one : Setup → Bool → Standing → Met → Standing
after_one m tries x met = after_turn m tries x met.word met.value met.refused

-- where a worker stands after the turns that meet these
abbrev pub after_turns : Setup → Bool → Standing → List Met → Standing
after_turns m tries x [] = x
after_turns m tries x (met ∷ more) = after_turns m tries (after_one m tries x met) more

-- ---- its next call

-- it is between two calls, and has one without a reply
pub record HasNext (l : Local) : Type 0 where
  pub between : l.spot ≡ Between
  pub some : 0 < length l.todo

-- its next call has this reply. Replies that take no step may have come with it
pub record IsAnswered (before : Local) (reply : Reply) (after : Local) : Type 0 where
  pub between : after.spot ≡ Between
  pub more : List Answered
  pub done : after.done
      ≡ more ++ record { call = call_of before; reply = reply } ∷ before.done

-- the call is its next one still
pub record IsUnanswered (before after : Local) : Type 0 where
  pub between : after.spot ≡ Between
  pub todo : after.todo ≡ before.todo
  pub done : after.done ≡ before.done
