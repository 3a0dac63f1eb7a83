-- What is known of a worker that is to make a call next, and of the object that it holds under the call's number.
use Rattle.std.proofs.Common.{◌≡◌, ℕ, ◌*◌, ◌<◌, ◌≤◌, true, false, List, ◌∷◌, length, Some, refl, ap, sym, ◌∙◌, subst, arith}
use Rattle.std.specs.Prelude.{is_some}
use Rattle.std.proofs.lemmas.List.Elements.{All-get_or, All-contains_itself}
use Rattle.slub_lists.specs.declared.lists.Slab.{Slab}
use Rattle.slub_lists.specs.State.{State}
use Rattle.slub_lists.specs.Alloc.{slab_of, cache_of}
use Rattle.slub_lists.specs.Coherent.{IsCoherent, IsConsistent, held_under}
use Rattle.slub_lists.specs.Places.{layout_at, pointer_at}
use Rattle.slub_lists.proofs.CheckedTaking.{held-slab}
use Rattle.slub_lists.proofs.Kept.{consistent-of}
use Rattle.slub_lists.proofs.ObjectWords.{held-cache}
use Rattle.slub_lists.proofs.Places.{pointer-inside}
use Rattle.slub_core.specs.declared.call.Call.{Call}
use Rattle.slub_core.specs.declared.call.CallKind.{CallKind}
use Rattle.slub_core.specs.declared.spot.Spot.{Spot}
use Rattle.slub_core.specs.declared.spot.Spot.TheVariants.{Between}
use Rattle.slub_core.specs.Calls.{call_kind, call_cpu, call_cache, call_object, call_place}
use Rattle.slub_core.specs.Setup.{Setup, IsSetup}
use Rattle.slub_core.specs.Local.{Local, nobody}
use Rattle.slub_core.specs.Replies.{names_object}
use Rattle.slub_core.specs.Run.{System, idle}
use Rattle.slub_core.specs.Steps.{begun, begun_at, begun_with, cache_for, first_spot, first_cpu}
use Rattle.slub_core.specs.World.{World, world_of}
use Rattle.slub_core.proofs.MayBegin.{MayBegin}
use Rattle.slub_core.proofs.StepWords.{IsTable}
use Rattle.slub_law_opening.specs.Opening.{Beside, setup_of}
use Rattle.slub_law_opening.specs.Rests.{IsBetween, Rests}
use Rattle.slub_law_opening.proofs.Names.{as_held, held-named}
use Rattle.slub_law_alone.specs.Alone.{worker_at, known_at, IsAtRest, IsNext}
use Rattle.slub_law_alone.proofs.Workers.{AtFront, at_front, may_call}

pub record IsStart (opening : World) (s : State) (b : Beside) (system : System) (x : ℕ) (call : Call) : Type 0 where
  pub front : AtFront (setup_of s b) opening system x
  pub may : MayBegin (setup_of s b) (worker_at system x) call
  pub between : IsBetween (world_of (setup_of s b) system.value system.words).setup (worker_at system x)
  pub setup : IsSetup (setup_of s b)
  pub few : s.cpus ≤ 16
  pub table : IsTable (setup_of s b) system.words
  pub consistent : IsConsistent s

pub starts : (opening : World) (s : State) (b : Beside) (system : System) (x : ℕ) (call : Call) → IsAtRest opening s b system → IsNext system x call → IsStart opening s b system x call
starts opening s b system x call rest next =
    let m = setup_of s b in
    let w = world_of m system.value system.words in
    let front = at_front m opening system x next.there rest.coherent in
    let setup = subst IsSetup rest.rests.rests.setup front.stands.fresh.setup in
    record {
      front = front;
      may = may_call m opening system x call next.calls front next.todo;
      between = All-get_or (IsBetween w.setup) system.locals x idle next.there rest.rests.rests.workers;
      setup = setup;
      few = rest.lists.shaped.cpus.1;
      table = record { length = rest.rests.count; locks = refl; cpu_words = refl; frames = omega (arith, setup.frames); objects = rest.beside.objects.0 };
      consistent = consistent-of s rest.lists;
    }

-- the object of the call, which the worker holds
pub record HasObject (s : State) (system : System) (x : ℕ) (call : Call) : Type 0 where
  pub place : call_place call < length (worker_at system x).known
  pub object : (known_at (worker_at system x) call).object ≡ call_object call
  pub some : 1 ≤ call_object call
  pub on_board : call_object call < length s.board
  pub named : held_under s (call_object call) ≡ Some (as_held (worker_at system x).worker (known_at (worker_at system x) call))
  pub slab : (slab : Slab) × (slab_of s (known_at (worker_at system x) call).frame ≡ Some slab) × (slab.cache ≡ (known_at (worker_at system x) call).cache) × ((known_at (worker_at system x) call).index < slab.objects)
  pub lives : is_some (cache_of s (known_at (worker_at system x) call).cache) ≡ true
  pub inside : (known_at (worker_at system x) call).cache < 32
  pub pointer : pointer_at (layout_at s (known_at (worker_at system x) call).cache) (known_at (worker_at system x) call).frame (known_at (worker_at system x) call).index < 512 * s.frames

pub object_of : (s : State) (b : Beside) (system : System) (x : ℕ) (call : Call) → IsCoherent s → Rests s b (world_of (setup_of s b) system.value system.words) system.locals → x < length system.locals → MayBegin (setup_of s b) (worker_at system x) call → IsSetup (setup_of s b)
    → names_object (call_kind call) ≡ true → (known_at (worker_at system x) call).held ≡ true → HasObject s system x call
object_of s b system x call lists rests there may setup names held =
    let w = world_of (setup_of s b) system.value system.words in
    let l = worker_at system x in
    let k = known_at l call in
    let consistent = consistent-of s lists in
    let place = may.place names in
    let object = may.known names in
    let named : held_under s (call_object call) ≡ Some (as_held l.worker k) = ap (held_under s) (sym object) ∙ rests.named k.object
    ∙ held-named w system.locals l k (All-contains_itself system.locals x idle there) (All-contains_itself l.known (call_place call) nobody place) held (rests.once k.object) in
    let slab = held-slab s (call_object call) (as_held l.worker k) named consistent in
    let lives = held-cache s (as_held l.worker k) (record { object = call_object call; here = named }) lists in
    record {
      place = place;
      object = object;
      some = (may.object names).0;
      on_board = (may.object names).1;
      named = named;
      slab = slab;
      lives = lives;
      inside = setup.live k.cache lives;
      pointer = subst (λ c. pointer_at (layout_at s c) k.frame k.index < 512 * s.frames) slab.2 (omega (arith, pointer-inside s k.frame k.index slab.0 consistent slab.1 slab.3, lists.shaped.memory));
    }

pub has_object : (opening : World) (s : State) (b : Beside) (system : System) (x : ℕ) (call : Call) → IsAtRest opening s b system → IsNext system x call → names_object (call_kind call) ≡ true → (known_at (worker_at system x) call).held ≡ true → HasObject s system x call
has_object opening s b system x call rest next names held =
    let begin = starts opening s b system x call rest next in
    object_of s b system x call rest.lists rest.rests.rests next.there begin.may begin.setup names held

-- the worker begins a call of an object of an unchecked cache that it holds
pub begin_held : (m : Setup) (l : Local) (call : Call) (calls : List Call) (kind : CallKind) (spot : Spot) → l.spot ≡ Between → l.todo ≡ call ∷ calls → call_kind call ≡ kind → cache_for m (known_at l call) (call_cache call) kind ≡ (known_at l call).cache → first_cpu kind (call_cpu call) ≡ call_cpu call
    → m.checks (known_at l call).cache ≡ false → (known_at l call).held ≡ true → first_spot kind false true ≡ spot → begun m false l ≡ record l { spot = spot; cache = (known_at l call).cache; cpu = call_cpu call; place = call_place call; fast = false; turn = 0; count = 0 }
begin_held m l call calls kind spot between todo is cache cpu plain held at_spot =
    ap (begun_at m false l) between ∙ ap (begun_with m false l) todo
    ∙ ap (λ kind. by (first_spot kind (m.checks (cache_for m (known_at l call) (call_cache call) kind)) (known_at l call).held) (cache_for m (known_at l call) (call_cache call) kind) (first_cpu kind (call_cpu call))) is
    ∙ ap (λ k. by (first_spot kind (m.checks k) (known_at l call).held) k (first_cpu kind (call_cpu call))) cache
    ∙ ap (by (first_spot kind (m.checks (known_at l call).cache) (known_at l call).held) (known_at l call).cache) cpu
    ∙ ap (λ z. by (first_spot kind z (known_at l call).held) (known_at l call).cache (call_cpu call)) plain
    ∙ ap (λ z. by (first_spot kind false z) (known_at l call).cache (call_cpu call)) held
    ∙ ap (λ spot. by spot (known_at l call).cache (call_cpu call)) at_spot
  where
    by : Spot → ℕ → ℕ → Local
    by spot cache cpu = record l { spot = spot; cache = cache; cpu = cpu; place = call_place call; fast = false; turn = 0; count = 0 }
