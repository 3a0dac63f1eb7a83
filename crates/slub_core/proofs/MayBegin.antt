-- What the account says of a call that begins: it fits the machine, names the place of its object, and allocates nothing that its worker holds.
use Rattle.std.proofs.Common.{◌≡◌, ℕ, zero, suc, ◌+◌, ◌<◌, ◌≤◌, true, false, List, [], ◌∷◌, length, get_or, eqb, ◌&&◌, refl, ap, ◌∙◌, subst, arith, inl, inr}
use Rattle.std.specs.Prelude.{All, IfSome}
use Rattle.std.proofs.lemmas.Bool.{cases_Bool, eq-eqb}
use Rattle.std.proofs.lemmas.List.Sums.{sum_by-cons}
use Rattle.std.proofs.lemmas.List.Elements.{All-head, All-tail}
use Rattle.slub_core.specs.declared.call.Call.{Call}
use Rattle.slub_core.specs.declared.call.CallKind.TheVariants.{Alloc}
use Rattle.slub_core.specs.declared.local.Known.{Known}
use Rattle.slub_core.specs.Calls.{call_kind, call_cpu, call_cache, call_object, call_place}
use Rattle.slub_core.specs.Setup.{Setup}
use Rattle.slub_core.specs.World.{World, one_if}
use Rattle.slub_core.specs.Local.{Local, Worker, nobody}
use Rattle.slub_core.specs.Replies.{asked_in, is_alloc, names_object}
use Rattle.slub_core.specs.Accounted.{had, known_of, CallFits, IsAccounted}
use Rattle.slub_core.proofs.TaleKnowns.{place_of-object}
use Rattle.slub_core.proofs.TaleReplies.{told-of}

pub record MayBegin (m : Setup) (l : Local) (call : Call) : Type 0 where
  pub cpu : call_cpu call < m.cpus
  pub object : names_object (call_kind call) ≡ true → (1 ≤ call_object call) × (call_object call < m.objects)
  pub place : names_object (call_kind call) ≡ true → call_place call < length l.known
  pub known : names_object (call_kind call) ≡ true → (get_or l.known (call_place call) nobody).object ≡ call_object call
  pub numbers : All (λ (k : Known). k.object < m.objects) l.known
  pub cache : IfSome (call_cache call) (λ k. m.lives k ≡ true)
  pub new : call_kind call ≡ Alloc → (get_or l.known (call_place call) nobody).held ≡ false

-- also where a call names no place, the number there is one of the machine
pub number-at : (m : Setup) (ks : List Known) (n : ℕ) → 1 ≤ m.objects → All (λ (k : Known). k.object < m.objects) ks → (get_or ks n nobody).object < m.objects
number-at m [] n some all = some
number-at m (k ∷ ks) zero some all = All-head (λ (k : Known). k.object < m.objects) k ks all
number-at m (k ∷ ks) (suc n) some all = number-at m ks n some (All-tail (λ (k : Known). k.object < m.objects) k ks all)

-- the first of the calls to come
abbrev pub MayBeginFirst : Setup → Local → List Call → Type 0
MayBeginFirst m l [] = Unit {0}
MayBeginFirst m l (call ∷ calls) = MayBegin m l call

-- a worker doesn't hold what it is to allocate: a number is given once, and isn't on the board then
asked-unheld : (opening w : World) (x : Worker) (others : List Worker) (call : Call) (calls : List Call) → x.local.todo ≡ call ∷ calls → call_kind call ≡ Alloc → IsAccounted opening w (x ∷ others) → (known_of x.local.known (call_object call)).held ≡ false
asked-unheld opening w x others call calls todo kind ac = elim (cases_Bool (known_of x.local.known (call_object call)).held) [
  | inr free ↦ free
  | inl held ↦ absurd (
      let o = call_object call in
      let once = ac.once o in
      let count = ac.count o in
      let asks : one_if (is_alloc (call_kind call) && eqb (call_object call) o) ≡ 1 = rw (kind, eq-eqb o o refl) refl in
      let asked : asked_in o x.local.todo ≡ one_if (is_alloc (call_kind call) && eqb (call_object call) o) + asked_in o calls = ap (asked_in o) todo in
      let has : one_if (known_of x.local.known o).held ≡ 1 = rw held refl in
      let a = sum_by-cons (λ (x : Worker). asked_in o x.local.todo) x others in
      let h = sum_by-cons (λ (x : Worker). had o x.local) x others in
      omega arith)
]

pub may_begin : (opening w : World) (x : Worker) (others : List Worker) → IsAccounted opening w (x ∷ others) → MayBeginFirst w.setup x.local x.local.todo
may_begin opening w x others ac = by_todo x.local.todo refl
  where
    by_todo : (calls : List Call) → x.local.todo ≡ calls → MayBeginFirst w.setup x.local calls
    by_todo [] todo = tt
    by_todo (call ∷ calls) todo =
        let l = x.local in
        let tale = told-of opening w x others ac in
        let fits = All-head (CallFits w.setup l.known) call calls (subst (All (CallFits w.setup l.known)) todo tale.fits) in
        record {
          cpu = fits.cpu;
          object = fits.object;
          place = fits.inside;
          known = λ names. ap (λ q. (get_or l.known q nobody).object) (fits.place names) ∙ place_of-object l.known (call_object call) (subst (λ q. q < length l.known) (fits.place names) (fits.inside names));
          numbers = tale.numbers;
          cache = fits.cache;
          new = λ kind. ap (λ q. (get_or l.known q nobody).held) (fits.place (rw kind refl)) ∙ asked-unheld opening w x others call calls todo kind ac;
        }
