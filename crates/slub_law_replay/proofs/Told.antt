-- What the workers of a round by steps were answered tells of damages, in the words of the text.
use Rattle.std.proofs.Common.{◌≡◌, ℕ, suc, ◌<◌, ◌≤◌, ◌++◌, Bool, true, false, cond, List, [], ◌∷◌, length, drop, get_or, map, refl, sym, ap, subst, ◌∙◌, arith, All, Some, IsSome, MatchOption, inl, inr, ◌⊎◌, zero}
use Rattle.std.specs.Prelude.{ℤ, pos, ◌+ℤ◌}
use Rattle.std.specs.List.{Contains, zip}
use Rattle.std.proofs.lemmas.Bool.{eq-eqb}
use Rattle.std.proofs.lemmas.List.{get_or_default, length-append}
use Rattle.std.proofs.lemmas.List.Elements.{All-cons, All-get_or, All-head, All-nil, All-tail, Contains-append_left, Contains-append_right}
use Rattle.slub_trace.specs.declared.event.Act.{Act}
use Rattle.slub_trace.specs.declared.event.Act.TheVariants.{Alloc, Free, Write, Read, Poke, Trim, Flush}
use Rattle.slub_trace.specs.declared.event.Event.{Event}
use Rattle.slub_trace.specs.declared.event.Round.{Round}
use Rattle.slub_trace.specs.declared.reply.Reply.{Reply}
use Rattle.slub_trace.specs.declared.reply.Reply.TheVariants as reply
use Rattle.slub_cache_create.specs.Table.{Table}
use Rattle.slub_lists.specs.State.{State}
use Rattle.slub_lists.specs.Alloc.{checked_of}
use Rattle.slub_lists.specs.Coherent.{IsCoherent}
use Rattle.slub_core.specs.declared.call.Call.{Call}
use Rattle.slub_core.specs.declared.call.CallKind.TheVariants as kind
use Rattle.slub_core.specs.declared.local.Known.{Known}
use Rattle.slub_core.specs.declared.local.Answered.{Answered as Done}
use Rattle.slub_core.specs.Calls.{call_kind, call_object, call_offset, call_byte}
use Rattle.slub_core.specs.Local.{Local}
use Rattle.slub_core.specs.World.{World}
use Rattle.slub_core.specs.Replies as core
use Rattle.slub_core.specs.Round.{outcome}
use Rattle.slub_law_opening.specs.Opening.{Beside, setup_of}
use Rattle.slub_calls.specs.Calls.{call_for, events_by, rooms_for}
use Rattle.slub_slabinfo_text.specs.Lawful.{is_by}
use Rattle.slub_law_rounds.specs.Answered.{Answered, IsAfter, of_worker}
use Rattle.slub_law_rounds.specs.Pokes.{IsPokedFree, WasPoked}
use Rattle.slub_law_rounds.specs.Round.{ReplyCause, FreeCause, HaveCauses, Spot, spot_by}
use Rattle.slub_law_rounds.proofs.Poked.{IsTold, poked-later}
use Rattle.slub_calls.specs.Replies.{AreReplies}
use Rattle.slub_law_rounds.specs.Contents as contents
use Rattle.slub_law_rounds.proofs.Split.{told as call_told, back, back-append}
use Rattle.slub_law_rounds.proofs.Meeting.{IsMet}
use Rattle.slub_law_rounds.proofs.TellingRan.{spot_from, spot-told}
use Rattle.slub_law_rounds.proofs.CausesRan.{spot-here}
use Rattle.slub_law_rounds.proofs.Sums.{IsBelow}
use Rattle.slub_law_rounds.proofs.Ended.{Ended}
use Rattle.slub_law_rounds.proofs.Counts.{done-at, its_done, many, met-by}
use Rattle.slub_law_replay.specs.Off.{AreFound, Finds, IsFound}
use Rattle.slub_law_replay.proofs.Grows.{Put}
use Rattle.slub_law_replay.proofs.Spots.{spot-given, worker-there}

-- ---- a reply among those of a worker

-- the events before one, and those after it, behind other replies
record IsAmong (table : Table) (rooms : List Known) (own : List Answered) (es : List Done) (d : Done) (ds : List Done) : Type 0 where
  front : List Answered
  one : Answered
  more : List Answered
  split : own ≡ front ++ one ∷ more
  is : call_told table rooms one ≡ d
  before : back table rooms front es ≡ ds

behind : (table : Table) (rooms : List Known) (own : List Answered) (es later : List Done) (d : Done) (ds : List Done) → back table rooms own es ≡ later ++ d ∷ ds
    → ((later' : List Done) × (es ≡ later' ++ d ∷ ds)) ⊎ IsAmong table rooms own es d ds
behind table rooms [] es later d ds is = inl (later, is)
behind table rooms (x ∷ own) es later d ds is = by (behind table rooms own (call_told table rooms x ∷ es) later d ds is)
  where
    head-is : (first : Done) (rest : List Done) (later' : List Done) → first ∷ rest ≡ later' ++ d ∷ ds → ((first ≡ d) × (rest ≡ ds)) ⊎ ((later'' : List Done) × (rest ≡ later'' ++ d ∷ ds))
    head-is first rest [] e = inl (ap (λ (xs : List Done). get_or xs 0 d) e, ap (drop 1) e)
    head-is first rest (y ∷ later'') e = inr (later'', ap (drop 1) e)

    here : ((call_told table rooms x ≡ d) × (es ≡ ds)) ⊎ ((later'' : List Done) × (es ≡ later'' ++ d ∷ ds)) → ((later' : List Done) × (es ≡ later' ++ d ∷ ds)) ⊎ IsAmong table rooms (x ∷ own) es d ds
    here (inl (same, rest)) = inr (record { front = []; one = x; more = own; split = refl; is = same; before = rest })
    here (inr (later'', rest)) = inl (later'', rest)

    by : ((later' : List Done) × (call_told table rooms x ∷ es ≡ later' ++ d ∷ ds)) ⊎ IsAmong table rooms own (call_told table rooms x ∷ es) d ds → ((later' : List Done) × (es ≡ later' ++ d ∷ ds)) ⊎ IsAmong table rooms (x ∷ own) es d ds
    by (inr there) = inr (record { front = x ∷ there.front; one = there.one; more = there.more; split = ap (λ xs. x ∷ xs) there.split; is = there.is; before = there.before })
    by (inl (later', e)) = here (head-is (call_told table rooms x) es later' e)

among : (table : Table) (rooms : List Known) (own : List Answered) (later : List Done) (d : Done) (ds : List Done) → back table rooms own [] ≡ later ++ d ∷ ds → IsAmong table rooms own [] d ds
among table rooms own later d ds is = by (behind table rooms own [] later d ds is)
  where
    by : ((later' : List Done) × ([] ≡ later' ++ d ∷ ds)) ⊎ IsAmong table rooms own [] d ds → IsAmong table rooms own [] d ds
    by (inl (later', e)) = absurd (let long = length-append later' (d ∷ ds) in let none : 0 ≡ length (later' ++ d ∷ ds) = ap length e in let more : length (d ∷ ds) ≡ suc (length ds) = refl in omega (arith, long, none, more))
    by (inr there) = there

-- ---- an event among all, and among those of its worker

-- an event of a worker, with those before it
is-after : (worker : ℕ) (answers : List Answered) (one : Answered) → one.0.worker ≡ worker → Contains answers one → (own : List Answered) × IsAfter answers worker own one
is-after worker [] one mine there = absurd (omega (arith, there.1))
is-after worker (x ∷ answers) one mine (zero, below, is) =
    let by : is_by worker x ≡ true = ap (is_by worker) is ∙ eq-eqb one.0.worker worker mine in
    ([], record { later = of_worker worker answers; split = ap (λ b. cond b (x ∷ of_worker worker answers) (of_worker worker answers)) by ∙ ap (λ y. y ∷ of_worker worker answers) is })
is-after worker (x ∷ answers) one mine (suc k, below, is) = more (is_by worker x) refl (is-after worker answers one mine (k, omega (arith, below), is))
  where
    more : (b : Bool) → is_by worker x ≡ b → (own : List Answered) × IsAfter answers worker own one → (own : List Answered) × IsAfter (x ∷ answers) worker own one
    more true by (own, after) = (x ∷ own, record { later = after.later; split = ap (λ b. cond b (x ∷ of_worker worker answers) (of_worker worker answers)) by ∙ ap (λ ys. x ∷ ys) after.split })
    more false by (own, after) = (own, record { later = after.later; split = ap (λ b. cond b (x ∷ of_worker worker answers) (of_worker worker answers)) by ∙ after.split })

first-met : (table : Table) (own more : List Answered) → All (IsMet table) (own ++ more) → All (IsMet table) own
first-met table [] more met = All-nil (IsMet table)
first-met table (x ∷ own) more met = All-cons (IsMet table) x own (All-head (IsMet table) x (own ++ more) met) (first-met table own more (All-tail (IsMet table) x (own ++ more) met))

poke-asks : (table : Table) (rooms : List Known) (a : Act) (cpu : ℕ) (c : Call) → call_for table rooms cpu a ≡ c → call_kind c ≡ kind.Poke → a ≡ Poke (call_object c) (call_offset c) (call_byte c)
poke-asks table rooms (Poke x offset byte) cpu c is poke = λ i. Poke (call_object (is i)) (call_offset (is i)) (call_byte (is i))
poke-asks table rooms (Alloc p x) cpu c is poke = absurd (let e = ap (λ (c : Call). call_kind c) is ∙ poke in cc)
poke-asks table rooms (Free x) cpu c is poke = absurd (let e = ap (λ (c : Call). call_kind c) is ∙ poke in cc)
poke-asks table rooms (Write at x value) cpu c is poke = absurd (let e = ap (λ (c : Call). call_kind c) is ∙ poke in cc)
poke-asks table rooms (Read at x) cpu c is poke = absurd (let e = ap (λ (c : Call). call_kind c) is ∙ poke in cc)
poke-asks table rooms (Trim p) cpu c is poke = absurd (let e = ap (λ (c : Call). call_kind c) is ∙ poke in cc)
poke-asks table rooms Flush cpu c is poke = absurd (let e = ap (λ (c : Call). call_kind c) is ∙ poke in cc)

-- ---- a round that has ended

-- what is said of bytes before the round: they were poked
abbrev pub before_poked : List Answered → ℕ → ℤ → ℕ → Type 0
before_poked told cache at byte = WasPoked told at byte

module _ (told : List Answered) (s : State) (b : Beside) (round : Round) (replies : List Reply) (opening w : World) (ls : List Local) (lists : State) (ended : Ended s b round opening w ls lists) (are : AreReplies round.events (map (λ (l : Local). l.done) ls) replies)
    (within : All (λ (event : Event). event.worker < round.workers) round.events) (below : All (IsBelow round.workers) (zip round.events replies)) (coherent : IsCoherent s) (step : b.step ≤ 16) (is_told : IsTold told s) where
  abbrev answers : List Answered
  answers = zip round.events replies

  abbrev dones : List (List Done)
  dones = map (λ (l : Local). l.done) ls

  abbrev rooms : ℕ → List Known
  rooms k = rooms_for (events_by k round.events)

  -- where an object stands to a worker
  spot-is : (k : ℕ) (own : List Answered) (o cache address : ℕ) → All (IsMet s.table) own → core.cache_by opening.board (back s.table (rooms k) own []) o ≡ Some cache → core.address_by (setup_of s b) opening.board (back s.table (rooms k) own []) o ≡ Some address
      → spot_by s o own ≡ Some (record { cache = cache; address = address })
  spot-is k own o cache address met of at =
      spot-told s (rooms k) (setup_of s b) opening.board o own met (spot-here s b (rooms k) opening.board (outcome w dones) ended.board coherent step o)
      ∙ ap (λ x. spot_from x (core.address_by (setup_of s b) opening.board (back s.table (rooms k) own []) o)) of ∙ ap (spot_from (Some cache)) at

  -- a poke among the replies of a worker is one in the text, of an object that was given
  poked-told : (cache : ℕ) (at : ℤ) (byte : ℕ) → IsSome (checked_of s cache) → contents.WasPoked (setup_of s b) opening.board dones cache at byte → WasPoked (told ++ answers) at byte
  poked-told cache at byte checked was =
      let k = was.there.0 in
      let inside : k < round.workers = omega (arith, was.there.1, many s b round replies opening w ls lists ended are within below coherent) in
      let default : get_or dones k [] ≡ get_or dones k (was.later ++ was.one ∷ was.own) = get_or_default dones k [] (was.later ++ was.one ∷ was.own) was.there.1 in
      let it = among s.table (rooms k) (of_worker k answers) was.later was.one was.own (sym (done-at s b round replies opening w ls lists ended are within below coherent k inside) ∙ default ∙ was.there.2) in
      let met = first-met s.table it.front (it.one ∷ it.more) (subst (All (IsMet s.table)) it.split (met-by s b round replies opening w ls lists ended are within below coherent k)) in
      let o = call_object was.one.call in
      let spot : spot_by s o it.front ≡ Some (record { cache = cache; address = was.address }) =
      spot-is k it.front o cache was.address met (ap (λ ds. core.cache_by opening.board ds o) it.before ∙ was.of) (ap (λ ds. core.address_by (setup_of s b) opening.board ds o) it.before ∙ was.object) in
      record {
        one = it.one;
        there = Contains-append_right told answers it.one (worker-there k answers it.one (subst (λ (own : List Answered). Contains own it.one) (sym it.split) (Contains-append_right it.front (it.one ∷ it.more) it.one (0, omega arith, refl))));
        object = o;
        offset = call_offset was.one.call;
        asks = poke-asks s.table (rooms k) it.one.0.act it.one.0.cpu was.one.call (ap (λ (d : Done). d.call) it.is) was.asks ∙ ap (λ y. Poke o (call_offset was.one.call) y) was.puts;
        done = ap (λ (d : Done). d.reply) it.is ∙ was.done;
        address = was.address;
        given = spot-given told s answers o it.front (record { cache = cache; address = was.address }) coherent is_told
            (λ other there. worker-there k answers other (subst (λ (own : List Answered). Contains own other) (sym it.split) (Contains-append_left it.front (it.one ∷ it.more) other there))) checked spot;
        is = was.is;
      }

  abbrev put : ℕ → ℤ → ℕ → Type 0
  put cache at byte = Put (before_poked told) (setup_of s b) opening dones cache at byte

  -- so is each byte of a checked cache that was poked, before the round or in it
  pub put-told : (cache : ℕ) (at : ℤ) (byte : ℕ) → IsSome (checked_of s cache) → put cache at byte → WasPoked (told ++ answers) at byte
  put-told cache at byte checked (inl was) = poked-later told answers at byte was
  put-told cache at byte checked (inr was) = poked-told cache at byte checked was

  found-first : (k : ℕ) (own : List Answered) (ds : List Done) → AreFound put (setup_of s b) opening.board (back s.table (rooms k) own ds) → AreFound put (setup_of s b) opening.board ds
  found-first k [] ds all = all
  found-first k (one ∷ own) ds all = (found-first k own (call_told s.table (rooms k) one ∷ ds) all).1

  -- a free that found its object damaged tells of a byte that was poked
  free-at : HaveCauses s answers → All (AreFound put (setup_of s b) opening.board) dones → (worker : ℕ) (own : List Answered) (one : Answered) → worker < round.workers → IsAfter answers worker own one → IsPokedFree (told ++ answers) one
  free-at causes all worker own one inside after object damage asks tells =
      let ds = back s.table (rooms worker) own [] in
      let c = call_for s.table (rooms worker) one.0.cpu one.0.act in
      let its : AreFound put (setup_of s b) opening.board (its_done s b round replies opening w ls lists ended are within below coherent worker) =
      subst (AreFound put (setup_of s b) opening.board) (done-at s b round replies opening w ls lists ended are within below coherent worker inside)
      (All-get_or (AreFound put (setup_of s b) opening.board) dones worker [] (omega (arith, inside, many s b round replies opening w ls lists ended are within below coherent)) all) in
      let there : AreFound put (setup_of s b) opening.board (back s.table (rooms worker) after.later (call_told s.table (rooms worker) one ∷ ds)) =
      subst (AreFound put (setup_of s b) opening.board) (ap (λ xs. back s.table (rooms worker) xs []) after.split ∙ back-append s.table (rooms worker) own (one ∷ after.later) []) its in
      let mine = (found-first worker after.later (call_told s.table (rooms worker) one ∷ ds) there).0 in
      let found : IsFound put (setup_of s b) opening.board ds c damage = subst (λ r. Finds put (setup_of s b) opening.board ds c r) tells mine in
      let met = first-met s.table own (one ∷ after.later) (subst (All (IsMet s.table)) after.split (met-by s b round replies opening w ls lists ended are within below coherent worker)) in
      let same_object : call_object c ≡ object = ap (λ a. call_object (call_for s.table (rooms worker) one.0.cpu a)) asks in
      let spot : spot_by s object own ≡ Some (record { cache = found.cache; address = found.address }) =
      subst (λ o. spot_by s o own ≡ Some (record { cache = found.cache; address = found.address })) same_object (spot-is worker own (call_object c) found.cache found.address met found.of found.object) in
      let cause : FreeCause s answers own object (reply.Corrupt damage) = subst (λ r. ReplyCause s answers own (Free object) r) tells (subst (λ a. ReplyCause s answers own a one.1) asks (causes worker own one after)) in
      let checked : IsSome (checked_of s found.cache) = subst (λ x. MatchOption x ⊥ (λ (spot : Spot). IsSome (checked_of s spot.cache))) spot cause.1 in (
        found.address,
        spot-given told s answers object own (record { cache = found.cache; address = found.address }) coherent is_told
            (λ other there. worker-there worker answers other (subst (λ (all : List Answered). Contains all other) (sym after.split) (Contains-append_left own (one ∷ after.later) other there))) checked spot,
        put-told found.cache (pos found.address +ℤ damage.offset) damage.found checked found.bad.there,
      )

  pub frees-told : HaveCauses s answers → All (AreFound put (setup_of s b) opening.board) dones → (one : Answered) → Contains answers one → IsPokedFree (told ++ answers) one
  frees-told causes all one there =
      let after = is-after one.0.worker answers one refl there in
      free-at causes all one.0.worker after.0 one (subst (IsBelow round.workers) there.2 (below there.0 one there.1)) after.1
