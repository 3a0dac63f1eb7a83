-- What a watcher is told of a turn, part by part.
use Rattle.std.proofs.Common.{◌≡◌, ℕ, ◌∙◌, Bool, true, false, ◌||◌, if◌then◌else◌, List, [], ◌∷◌, ◌++◌, length, get_or, Option, refl, sym, ap, subst}
use Rattle.std.specs.List.{FoldsTo}
use Rattle.slub_trace.specs.declared.reply.Reply.{Reply}
use Rattle.slub_core.specs.declared.step.Step.{Step}
use Rattle.slub_core.specs.declared.step.Answer.{Answer}
use Rattle.slub_core.specs.declared.guarded.Guarded.{Guarded}
use Rattle.slub_core.specs.Setup.{Setup}
use Rattle.slub_core.specs.Words.{number_of, answer_of}
use Rattle.slub_core.specs.World.{LockValue}
use Rattle.slub_core.specs.Local.{Local, Change, noted, stays}
use Rattle.slub_core.specs.Steps.{step_at, changed, settled, rested, begun}
use Rattle.slub_core.specs.Values.{values_of}
use Rattle.slub_core.specs.Ways as ways
use Rattle.slub_checked_paths.specs.Slabs.{is_refused}
use Rattle.slub_schedule.specs.Table.{WordTable}
use Rattle.slub_turns.specs.Fits.{after_answer}
use Rattle.slub_turns.specs.Happenings.{Happening, Begins, Steps, Advances, Changing, Changed, Rests, change_told, settling_told, answer_told, step_told, happenings_of}
use Rattle.slub_turns.specs.Spots.{is_at_once}
use Rattle.slub_core.specs.Run.{idle}
use Rattle.slub_turns.specs.System.{alone, system_of}
use Rattle.slub_turns.proofs.Settled.{once}
use Rattle.slub_turns.proofs.Stays.{stays_at}

-- ---- chains

pub heard_then : {W A : Type 0} (R : W → A → W → Type 0) (w : W) (xs ys : List A) (u v : W) → FoldsTo R w xs u → FoldsTo R u ys v → FoldsTo R w (xs ++ ys) v
heard_then {W} R w [] ys u v first more = let P : W → Type 0 = λ x. FoldsTo R x ys v in subst P (sym first) more
heard_then R w (x ∷ xs) ys u v first more = (first.0, first.1, heard_then R first.0 xs ys u v first.2 more)

-- ---- a change that is done at once

abbrev pub pair : (ℕ → LockValue) → Local → Change → List Happening
pair value l next = Changing value l ∷ Changed next.value next.local next.reply ∷ []

abbrev told_where : Setup → Bool → Change → Bool → List Happening
told_where m refused c b = if b then pair c.value (noted c.local c.reply) (changed m refused c) else []

none_told : (m : Setup) (a : Bool) (c : Change) → is_at_once (noted c.local c.reply).spot ≡ false → change_told m a c ≡ []
none_told m a c not_so = ap (λ (b : Bool). told_where m a c b) not_so

some_told : (m : Setup) (a : Bool) (c next : Change) → is_at_once (noted c.local c.reply).spot ≡ true → changed m a c ≡ next → change_told m a c ≡ pair c.value (noted c.local c.reply) next
some_told m a c next so is = ap (λ (b : Bool). told_where m a c b) so ∙ ap (λ (x : Change). pair c.value (noted c.local c.reply) x) is

-- ---- and all of them

neither_told : (m : Setup) (a : Bool) (c : Change) → is_at_once (noted c.local c.reply).spot ≡ false → settling_told m a c ≡ []
neither_told m a c not_so =
    let l : Local = noted c.local c.reply in
    let stay : changed m a c ≡ stays c.value l = stays_at m a c.value l l.spot not_so in
    ap (λ (hs : List Happening). hs ++ change_told m a (changed m a c)) (none_told m a c not_so)
    ∙ ap (λ (x : Change). change_told m a x) stay
    ∙ none_told m a (stays c.value l) not_so

first_told : (m : Setup) (a : Bool) (c one : Change) → changed m a c ≡ one → is_at_once (noted c.local c.reply).spot ≡ true → is_at_once (noted one.local one.reply).spot ≡ false
    → settling_told m a c ≡ pair c.value (noted c.local c.reply) one
first_told m a c one first so not_so =
    ap (λ (hs : List Happening). hs ++ change_told m a (changed m a c)) (some_told m a c one so first)
    ∙ ap (λ (hs : List Happening). pair c.value (noted c.local c.reply) one ++ hs) (ap (λ (x : Change). change_told m a x) first ∙ none_told m a one not_so)

both_told : (m : Setup) (a : Bool) (c one two : Change) → changed m a c ≡ one → changed m a one ≡ two → is_at_once (noted c.local c.reply).spot ≡ true → is_at_once (noted one.local one.reply).spot ≡ true
    → settling_told m a c ≡ pair c.value (noted c.local c.reply) one ++ pair one.value (noted one.local one.reply) two
both_told m a c one two first second so still =
    ap (λ (hs : List Happening). hs ++ change_told m a (changed m a c)) (some_told m a c one so first)
    ∙ ap (λ (hs : List Happening). pair c.value (noted c.local c.reply) one ++ hs) (ap (λ (x : Change). change_told m a x) first ∙ some_told m a one two still second)

-- as a program tells them, which has noted the replies before
module _ {W : Type 0} (R : W → Happening → W → Type 0) (m : Setup) (values : List Guarded) (local k : Local) (reply : Option Reply) (is : k ≡ noted local reply) where
  abbrev start : Change
  start = ways.changed values local reply

  abbrev spot_is : (b : Bool) → is_at_once k.spot ≡ b → is_at_once (noted local reply).spot ≡ b
  spot_is b at = subst (λ (x : Local). is_at_once x.spot ≡ b) is at

  pub heard_neither : (w : W) → is_at_once k.spot ≡ false → FoldsTo R w (settling_told m false start) w
  heard_neither w not_so =
      let P : List Happening → Type 0 = λ hs. FoldsTo R w hs w in
      subst P (sym (neither_told m false start (spot_is false not_so))) refl

  module _ (one : List Guarded) (l n : Local) (r : Option Reply) (first : ways.changed one l r ≡ changed m (is_refused r) start) (next : n ≡ noted l r) (so : is_at_once k.spot ≡ true) where
    abbrev next_is : (b : Bool) → is_at_once n.spot ≡ b → is_at_once (noted l r).spot ≡ b
    next_is b at = subst (λ (x : Local). is_at_once x.spot ≡ b) next at

    pub heard_first : (w v : W) (refused : Bool) → refused ≡ is_refused r → is_at_once n.spot ≡ false → FoldsTo R w (pair (values_of values) k (ways.changed one l r)) v
        → FoldsTo R w (settling_told m refused start) v
    heard_first w v refused told not_so heard =
        let P : List Happening → Type 0 = λ hs. FoldsTo R w hs v in
        let list : settling_told m refused start ≡ pair (values_of values) k (ways.changed one l r) =
        ap (λ (b : Bool). settling_told m b start) told
        ∙ first_told m (is_refused r) start (ways.changed one l r) (sym first) (spot_is true so) (next_is false not_so)
        ∙ ap (λ (x : Local). pair (values_of values) x (ways.changed one l r)) (sym is) in
        subst P (sym list) heard

    pub heard_both : (w v u : W) (two : List Guarded) (j : Local) (q : Option Reply) (refused : Bool) → refused ≡ (is_refused r || is_refused q)
        → ways.changed two j q ≡ changed m (is_refused q) (ways.changed one l r) → is_at_once n.spot ≡ true
        → FoldsTo R w (pair (values_of values) k (ways.changed one l r)) v → FoldsTo R v (pair (values_of one) n (ways.changed two j q)) u
        → FoldsTo R w (settling_told m refused start) u
    heard_both w v u two j q refused told second still heard more =
        let P : List Happening → Type 0 = λ hs. FoldsTo R w hs u in
        let are = once m start (ways.changed one l r) (ways.changed two j q) first second in
        let list : settling_told m refused start ≡ pair (values_of values) k (ways.changed one l r) ++ pair (values_of one) n (ways.changed two j q) =
        ap (λ (b : Bool). settling_told m b start) told
        ∙ both_told m (is_refused r || is_refused q) start (ways.changed one l r) (ways.changed two j q) are.first are.second (spot_is true so) (next_is true still)
        ∙ ap (λ (x : Local). pair (values_of values) x (ways.changed one l r) ++ pair (values_of one) (noted l r) (ways.changed two j q)) (sym is)
        ∙ ap (λ (x : Local). pair (values_of values) k (ways.changed one l r) ++ pair (values_of one) x (ways.changed two j q)) (sym next) in
        subst P (sym list) (heard_then R w (pair (values_of values) k (ways.changed one l r)) (pair (values_of one) n (ways.changed two j q)) v u heard more)

-- ---- a turn, once the call has begun

-- as a program tells it, after the answer
abbrev pub told_after : Setup → Bool → List Guarded → List Guarded → Local → Option Reply → Local → Local → List Happening
told_after m refused values now after reply n last =
    Advances after reply ∷ settling_told m refused (ways.changed values after reply) ++ Rests (values_of now) (length n.done) last ∷ []

pub answer_is_told : (m : Setup) (refused : Bool) (values now : List Guarded) (after : Local) (reply : Option Reply) (n last : Local)
    → (let c = settled m refused (ways.changed values after reply) in (values_of now ≡ c.value) × (n ≡ noted c.local c.reply)) → last ≡ rested m n
    → told_after m refused values now after reply n last ≡ answer_told m refused (ways.changed values after reply)
answer_is_told m refused values now after reply n last settle rest =
    let told : List Happening → List Happening = λ hs. Advances after reply ∷ settling_told m refused (ways.changed values after reply) ++ hs in
    let end : (ℕ → LockValue) → Local → Local → List Happening = λ value l k. told (Rests value (length l.done) k ∷ []) in
    let value = settle.0 in
    let local = settle.1 in
    ap (λ (k : Local). end (values_of now) n k) rest
    ∙ ap (λ (l : Local). end (values_of now) l (rested m l)) local
    ∙ ap (λ (x : ℕ → LockValue). let c = settled m refused (ways.changed values after reply) in end x (noted c.local c.reply) (rested m (noted c.local c.reply))) value

pub step_is_told : (m : Setup) (refused : Bool) (table : WordTable) (values : List Guarded) (k : Local) (step : Step) (answer : Answer) (c : Change)
    → step ≡ step_at m (values_of values) k k.spot
    → answer ≡ answer_of step.op (get_or table.words (number_of m step.place) 0)
    → c ≡ after_answer m (alone table values k) k
    → Steps (values_of values) k step answer ∷ answer_told m refused c ≡ step_told m refused (alone table values k) k
step_is_told m refused table values k step answer c made told led =
    ap (λ (a : Answer). Steps (values_of values) k step a ∷ answer_told m refused c) told
    ∙ ap (λ (t : Step). Steps (values_of values) k t (answer_of t.op (get_or table.words (number_of m t.place) 0)) ∷ answer_told m refused c) made
    ∙ ap (λ (x : Change). Steps (values_of values) k (step_at m (values_of values) k k.spot) (answer_of (step_at m (values_of values) k k.spot).op (get_or table.words (number_of m (step_at m (values_of values) k k.spot).place) 0)) ∷ answer_told m refused x) led

-- the same of a worker that is alone and of one of several
pub told_among : (m : Setup) (refused : Bool) (table : WordTable) (values : List Guarded) (locals : List Local) (local : Local) (worker : ℕ) → local ≡ get_or locals worker idle
    → happenings_of m refused (alone table values local) 0 ≡ happenings_of m refused (system_of table values locals) worker
told_among m refused table values locals local worker is =
    ap (λ (l : Local). let k = begun m false l in Begins k ∷ step_told m refused (system_of table values locals) k) is
