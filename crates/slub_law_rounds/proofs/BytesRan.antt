-- What a read of a checked object answers, in the words of the text.
use Rattle.std.proofs.Common.{◌≡◌, ℕ, suc, ◌+◌, ◌*◌, ◌≤◌, ◌<◌, ◌&&◌, ◌++◌, eqb, Bool, true, false, cond, List, [], ◌∷◌, length, drop, get_or, map, refl, sym, ap, subst, ◌∙◌, arith, All, Option, Some, None, IsSome, IfSome, MatchOption, inl, inr, ◌⊎◌}
use Rattle.std.specs.Prelude.{ℤ, pos, slice_index}
use Rattle.std.specs.Int.{to_le_bytes, w64}
use Rattle.std.specs.Ordering.{int_eq}
use Rattle.std.specs.List.{zip}
use Rattle.std.proofs.lemmas.Bool.{cases_lt}
use Rattle.std.proofs.lemmas.List.{get_or_default, length-append}
use Rattle.std.proofs.lemmas.List.Elements.{All-cons, All-get_or, All-head, All-nil, All-tail}
use Rattle.slub_trace.specs.declared.event.Act.{Act}
use Rattle.slub_trace.specs.declared.event.Act.TheVariants.{Alloc, Free, Write, Read, Poke, Trim, Flush}
use Rattle.slub_trace.specs.declared.event.Event.{Event}
use Rattle.slub_trace.specs.declared.event.Round.{Round}
use Rattle.slub_trace.specs.declared.reply.Reply.{Reply}
use Rattle.slub_trace.specs.declared.reply.Reply.TheVariants as reply
use Rattle.slub_cache_create.specs.Table.{Table}
use Rattle.slub_lists.specs.State.{State}
use Rattle.slub_lists.specs.Alloc.{checked_of}
use Rattle.slub_lists.specs.Coherent.{IsCoherent}
use Rattle.slub_core.specs.declared.call.Call.{Call}
use Rattle.slub_core.specs.declared.call.CallKind.TheVariants as kind
use Rattle.slub_core.specs.declared.local.Known.{Known}
use Rattle.slub_core.specs.declared.local.Answered.{Answered as Done}
use Rattle.slub_core.specs.Calls.{call_kind, call_object, call_word, call_value, call_offset, call_byte}
use Rattle.slub_core.specs.Local.{Local}
use Rattle.slub_core.specs.World.{World}
use Rattle.slub_core.specs.Replies as core
use Rattle.slub_core.specs.Round.{outcome}
use Rattle.slub_law_opening.specs.Opening.{Beside, setup_of}
use Rattle.slub_calls.specs.Calls.{call_for, events_by, rooms_for}
use Rattle.slub_law_rounds.specs.Answered as law
use Rattle.slub_law_rounds.specs.Answered.{Answered, IsAfter, of_worker}
use Rattle.slub_law_rounds.specs.Round.{IsByteAt, IsOfChecked, IsOwnBytes, IsPokedUnder, Spot, spot_by}
use Rattle.slub_calls.specs.Replies.{AreReplies}
use Rattle.slub_law_rounds.specs.Contents as contents
use Rattle.slub_law_rounds.proofs.Split.{told, back, back-append}
use Rattle.slub_law_rounds.proofs.Meeting.{IsMet, IsQuiet, Meets, gave, lacked, freed, found, wrote, poked, quiet, fold-back}
use Rattle.slub_law_rounds.proofs.TellingRan.{same-either, spot_from, spot-told}
use Rattle.slub_law_rounds.proofs.CausesRan.{spot-here}
use Rattle.slub_law_rounds.proofs.Sums.{IsBelow, none-beyond}
use Rattle.slub_law_rounds.proofs.Ended.{Ended}
use Rattle.slub_law_rounds.proofs.Counts.{done-at, its_done, many, met-by}

-- ---- what was put in a byte last

module _ (table : Table) (rooms : List Known) (o word place : ℕ) where
  put-quiet : (event : Event) (r : Reply) (x : Option ℕ) → IsQuiet r → law.put_after o word place x (event, r) ≡ x
  put-quiet event (reply.Given a) x none = absurd none
  put-quiet event reply.Wrote x none = absurd none
  put-quiet event reply.Poked x none = absurd none
  put-quiet event r x none = refl

  call-quiet : (c : Call) (r : Reply) (x : Option ℕ) → IsQuiet r → contents.put_after c r word place x ≡ x
  call-quiet c (reply.Given a) x none = absurd none
  call-quiet c reply.Wrote x none = absurd none
  call-quiet c reply.Poked x none = absurd none
  call-quiet c r x none = refl

  both : (b c : Bool) (put : ℕ) (x : Option ℕ) → cond (b && c) (Some put) x ≡ cond b (cond c (Some put) x) x
  both true c put x = refl
  both false c put x = refl

  put-step : (ds : List Done) (event : Event) (a : Act) (r : Reply) → event.act ≡ a → Meets table a r → law.put_after o word place (contents.last_put ds o word place) (event, r) ≡ contents.last_put (told table rooms (event, r) ∷ ds) o word place
  put-step ds event _ _ is (gave p x address) = rw is refl
  put-step ds event _ _ is (lacked p x k is_k) = rw is (sym (same-either (eqb x o) (contents.last_put ds o word place)))
  put-step ds event _ _ is (freed x address) = rw is (sym (same-either (eqb x o) (contents.last_put ds o word place)))
  put-step ds event _ _ is (found x damage) = rw is (sym (same-either (eqb x o) (contents.last_put ds o word place)))
  put-step ds event _ _ is (wrote x at value) =
      let last = contents.last_put ds o word place in
      ap (law.byte_by_write o word place last) is ∙ both (eqb x o) (eqb at word) (slice_index (to_le_bytes w64 value) place) last
      ∙ ap (λ a. let c = call_for table rooms event.cpu a in cond (eqb (call_object c) o) (cond (eqb (call_word c) word) (Some (slice_index (to_le_bytes w64 (call_value c)) place)) last) last) (sym is)
  put-step ds event _ _ is (poked x offset byte) = rw is (both (eqb x o) (int_eq offset (pos (8 * word + place))) byte (contents.last_put ds o word place))
  put-step ds event a r is (quiet _ _ still) =
      let c = call_for table rooms event.cpu event.act in
      let x = contents.last_put ds o word place in
      put-quiet event r x still ∙ sym (same-either (eqb (call_object c) o) x) ∙ ap (λ y. cond (eqb (call_object c) o) y x) (sym (call-quiet c r x still))

  put-told : (own : List Answered) → All (IsMet table) own → law.last_put o word place own ≡ contents.last_put (back table rooms own []) o word place
  put-told own met = fold-back table rooms (λ ds. contents.last_put ds o word place) (law.put_after o word place) put-step own [] met

-- ---- a reply among those of a worker

-- the events before one, and those after it
record IsAmong (table : Table) (rooms : List Known) (own : List Answered) (es : List Done) (d : Done) (ds : List Done) : Type 0 where
  front : List Answered
  one : Answered
  more : List Answered
  split : own ≡ front ++ one ∷ more
  is : told table rooms one ≡ d
  before : back table rooms front es ≡ ds

among : (table : Table) (rooms : List Known) (own : List Answered) (es later : List Done) (d : Done) (ds : List Done) → back table rooms own es ≡ later ++ d ∷ ds
    → ((later' : List Done) × (es ≡ later' ++ d ∷ ds)) ⊎ IsAmong table rooms own es d ds
among table rooms [] es later d ds is = inl (later, is)
among table rooms (x ∷ own) es later d ds is = by (among table rooms own (told table rooms x ∷ es) later d ds is)
  where
    head-is : (first : Done) (rest : List Done) (later' : List Done) → first ∷ rest ≡ later' ++ d ∷ ds → ((first ≡ d) × (rest ≡ ds)) ⊎ ((later'' : List Done) × (rest ≡ later'' ++ d ∷ ds))
    head-is first rest [] e = inl (ap (λ (xs : List Done). get_or xs 0 d) e, ap (drop 1) e)
    head-is first rest (y ∷ later'') e = inr (later'', ap (drop 1) e)

    by : ((later' : List Done) × (told table rooms x ∷ es ≡ later' ++ d ∷ ds)) ⊎ IsAmong table rooms own (told table rooms x ∷ es) d ds → ((later' : List Done) × (es ≡ later' ++ d ∷ ds)) ⊎ IsAmong table rooms (x ∷ own) es d ds
    by (inr there) = inr (record { front = x ∷ there.front; one = there.one; more = there.more; split = ap (λ xs. x ∷ xs) there.split; is = there.is; before = there.before })
    by (inl (later', e)) = here (head-is (told table rooms x) es later' e)
      where
        here : ((told table rooms x ≡ d) × (es ≡ ds)) ⊎ ((later'' : List Done) × (es ≡ later'' ++ d ∷ ds)) → ((later' : List Done) × (es ≡ later' ++ d ∷ ds)) ⊎ IsAmong table rooms (x ∷ own) es d ds
        here (inl (same, rest)) = inr (record { front = []; one = x; more = own; split = refl; is = same; before = rest })
        here (inr (later'', rest)) = inl (later'', rest)

-- ---- a round that has ended

module _ (s : State) (b : Beside) (round : Round) (replies : List Reply) (opening w : World) (ls : List Local) (lists : State) (ended : Ended s b round opening w ls lists) (are : AreReplies round.events (map (λ (l : Local). l.done) ls) replies)
    (within : All (λ (event : Event). event.worker < round.workers) round.events) (below : All (IsBelow round.workers) (zip round.events replies)) (coherent : IsCoherent s) (step : b.step ≤ 16) where
  abbrev answers : List Answered
  answers = zip round.events replies

  abbrev dones : List (List Done)
  dones = map (λ (l : Local). l.done) ls

  abbrev rooms : ℕ → List Known
  rooms k = rooms_for (events_by k round.events)

  -- where an object stands to a worker
  spot-is : (k : ℕ) (own : List Answered) (o cache address : ℕ) → All (IsMet s.table) own → core.cache_by opening.board (back s.table (rooms k) own []) o ≡ Some cache → core.address_by (setup_of s b) opening.board (back s.table (rooms k) own []) o ≡ Some address
      → spot_by s o own ≡ Some (record { cache = cache; address = address })
  spot-is k own o cache address met of at =
      spot-told s (rooms k) (setup_of s b) opening.board o own met (spot-here s b (rooms k) opening.board (outcome w dones) ended.board coherent step o)
      ∙ ap (λ x. spot_from x (core.address_by (setup_of s b) opening.board (back s.table (rooms k) own []) o)) of ∙ ap (spot_from (Some cache)) at

  first-met : (own more : List Answered) → All (IsMet s.table) (own ++ more) → All (IsMet s.table) own
  first-met [] more met = All-nil (IsMet s.table)
  first-met (x ∷ own) more met = All-cons (IsMet s.table) x own (All-head (IsMet s.table) x (own ++ more) met) (first-met own more (All-tail (IsMet s.table) x (own ++ more) met))

  poke-asks : (a : Act) (k cpu : ℕ) (c : Call) → call_for s.table (rooms k) cpu a ≡ c → call_kind c ≡ kind.Poke → a ≡ Poke (call_object c) (call_offset c) (call_byte c)
  poke-asks (Poke x offset byte) k cpu c is poke = λ i. Poke (call_object (is i)) (call_offset (is i)) (call_byte (is i))
  poke-asks (Alloc p x) k cpu c is poke = absurd (let e = ap (λ (c : Call). call_kind c) is ∙ poke in cc)
  poke-asks (Free x) k cpu c is poke = absurd (let e = ap (λ (c : Call). call_kind c) is ∙ poke in cc)
  poke-asks (Write at x value) k cpu c is poke = absurd (let e = ap (λ (c : Call). call_kind c) is ∙ poke in cc)
  poke-asks (Read at x) k cpu c is poke = absurd (let e = ap (λ (c : Call). call_kind c) is ∙ poke in cc)
  poke-asks (Trim p) k cpu c is poke = absurd (let e = ap (λ (c : Call). call_kind c) is ∙ poke in cc)
  poke-asks Flush k cpu c is poke = absurd (let e = ap (λ (c : Call). call_kind c) is ∙ poke in cc)

  -- a poke among the replies of a worker is one in the text
  poked-under : (o cache : ℕ) (at : ℤ) (byte : ℕ) → contents.IsPokedUnder (setup_of s b) opening.board dones cache o at byte → IsPokedUnder s answers o at byte
  poked-under o cache at byte (was, differs) = by (among s.table (rooms was.there.0) (of_worker was.there.0 answers) [] was.later was.one was.own (sym (done-at s b round replies opening w ls lists ended are within below coherent was.there.0 inside) ∙ default ∙ was.there.2))
    where
      inside : was.there.0 < round.workers
      inside = omega (arith, was.there.1, many s b round replies opening w ls lists ended are within below coherent)

      default : get_or dones was.there.0 [] ≡ get_or dones was.there.0 (was.later ++ was.one ∷ was.own)
      default = get_or_default dones was.there.0 [] (was.later ++ was.one ∷ was.own) was.there.1

      by : ((later' : List Done) × ([] ≡ later' ++ was.one ∷ was.own)) ⊎ IsAmong s.table (rooms was.there.0) (of_worker was.there.0 answers) [] was.one was.own → IsPokedUnder s answers o at byte
      by (inl (later', e)) = absurd (let long = length-append later' (was.one ∷ was.own) in let none : 0 ≡ length (later' ++ was.one ∷ was.own) = ap length e in let more : length (was.one ∷ was.own) ≡ suc (length was.own) = refl in omega (arith, long, none, more))
      by (inr among) =
          let met = first-met among.front (among.one ∷ among.more) (subst (All (IsMet s.table)) among.split (met-by s b round replies opening w ls lists ended are within below coherent was.there.0)) in
          record {
            worker = was.there.0;
            own = among.front;
            one = among.one;
            there = record { later = among.more; split = among.split };
            other = call_object was.one.call;
            offset = call_offset was.one.call;
            differs = differs;
            asks = poke-asks among.one.0.act was.there.0 among.one.0.cpu was.one.call (ap (λ (d : Done). d.call) among.is) was.asks ∙ ap (λ y. Poke (call_object was.one.call) (call_offset was.one.call) y) was.puts;
            done = ap (λ (d : Done). d.reply) among.is ∙ was.done;
            spot = record { cache = cache; address = was.address };
            names = spot-is was.there.0 among.front (call_object was.one.call) cache was.address met (ap (λ ds. core.cache_by opening.board ds (call_object was.one.call)) among.before ∙ was.of) (ap (λ ds. core.address_by (setup_of s b) opening.board ds (call_object was.one.call)) among.before ∙ was.object);
            is = was.is;
          }

  -- a value that is told is one in the text
  pub value-told : (k : ℕ) (own : List Answered) (c : Call) (o word value : ℕ) → call_object c ≡ o → call_word c ≡ word → All (IsMet s.table) own → contents.IsValue (setup_of s b) opening dones (back s.table (rooms k) own []) c value → IsOwnBytes s answers own o word value
  value-told k own c o word value same_object same_word met is = subst (λ o. IsOwnBytes s answers own o word value) same_object (subst (λ word. IsOwnBytes s answers own (call_object c) word value) same_word (record {
    bytes = is.bytes;
    eight = is.eight;
    spelled = is.spelled;
    each = λ place few. subst (λ x. IfSome x (λ put. (slice_index is.bytes place ≡ put) ⊎ ((at : ℤ) × IsByteAt s (call_object c) own (call_word c) place at × IsPokedUnder s answers (call_object c) at (slice_index is.bytes place))))
        (sym (put-told s.table (rooms k) (call_object c) (call_word c) place own met)) (by place (contents.last_put (back s.table (rooms k) own []) (call_object c) (call_word c) place) (is.each place few));
  }))
    where
      at-byte : (place : ℕ) → IsByteAt s (call_object c) own (call_word c) place (pos (is.address + (8 * call_word c + place)))
      at-byte place = subst (λ x. MatchOption x ⊥ (λ (spot : Spot). pos (spot.address + (8 * call_word c + place)) ≡ pos (is.address + (8 * call_word c + place)))) (sym (spot-is k own (call_object c) is.cache is.address met is.of is.object)) refl

      put : (place put : ℕ) → contents.IsPut (setup_of s b) opening dones is.cache (call_object c) (pos (is.address + (8 * call_word c + place))) put (slice_index is.bytes place)
          → (slice_index is.bytes place ≡ put) ⊎ ((at : ℤ) × IsByteAt s (call_object c) own (call_word c) place at × IsPokedUnder s answers (call_object c) at (slice_index is.bytes place))
      put place x (inl same) = inl same
      put place x (inr under) = inr (pos (is.address + (8 * call_word c + place)), at-byte place, poked-under (call_object c) is.cache (pos (is.address + (8 * call_word c + place))) (slice_index is.bytes place) under)

      by : (place : ℕ) (x : Option ℕ) → contents.IsReadByte (setup_of s b) opening dones is.cache (call_object c) (pos (is.address + (8 * call_word c + place))) x (slice_index is.bytes place)
          → IfSome x (λ put. (slice_index is.bytes place ≡ put) ⊎ ((at : ℤ) × IsByteAt s (call_object c) own (call_word c) place at × IsPokedUnder s answers (call_object c) at (slice_index is.bytes place)))
      by place None told = tt
      by place (Some x) told = put place x told

  -- an object of a checked cache is one of a checked cache to the step machine
  pub checked-told : (k : ℕ) (own : List Answered) (o : ℕ) → All (IsMet s.table) own → IsOfChecked s o own → core.IsOfChecked (setup_of s b) (core.cache_by opening.board (back s.table (rooms k) own []) o)
  checked-told k own o met checked = by (core.cache_by opening.board (back s.table (rooms k) own []) o) (core.address_by (setup_of s b) opening.board (back s.table (rooms k) own []) o)
      (subst (λ x. MatchOption x ⊥ (λ (spot : Spot). IsSome (checked_of s spot.cache))) (spot-told s (rooms k) (setup_of s b) opening.board o own met (spot-here s b (rooms k) opening.board (outcome w dones) ended.board coherent step o)) checked)
    where
      by : (x y : Option ℕ) → MatchOption (spot_from x y) ⊥ (λ (spot : Spot). IsSome (checked_of s spot.cache)) → core.IsOfChecked (setup_of s b) x
      by None y never = absurd never
      by (Some cache) None never = absurd never
      by (Some cache) (Some a) is = (cache, refl, is)

  told-first : (k : ℕ) (own : List Answered) (ds : List Done) → contents.AreTold (setup_of s b) opening dones (back s.table (rooms k) own ds) → contents.AreTold (setup_of s b) opening dones ds
  told-first k [] ds all = all
  told-first k (one ∷ own) ds all = (told-first k own (told s.table (rooms k) one ∷ ds) all).1

  -- what reads of checked objects are answered
  pub reads-own : All (contents.AreTold (setup_of s b) opening dones) dones → (worker : ℕ) (own : List Answered) (one : Answered) (object word value : ℕ) → IsAfter (zip round.events replies) worker own one → one.0.act ≡ Read word object → one.1 ≡ reply.Value value → IsOfChecked s object own
      → IsOwnBytes s (zip round.events replies) own object word value
  reads-own all worker own one object word value is asks tells checked = elim (cases_lt worker round.workers) [
    | inr past ↦ absurd (let none : own ++ one ∷ is.later ≡ [] = sym is.split ∙ none-beyond round.workers worker answers below past in
        let long : length (own ++ one ∷ is.later) ≡ length own + suc (length is.later) = length-append own (one ∷ is.later) in let nil : length (own ++ one ∷ is.later) ≡ 0 = ap length none in omega (arith, long, nil))
    | inl inside ↦ (
        let ds = back s.table (rooms worker) own [] in
        let c = call_for s.table (rooms worker) one.0.cpu one.0.act in
        let its : contents.AreTold (setup_of s b) opening dones (its_done s b round replies opening w ls lists ended are within below coherent worker) =
        subst (contents.AreTold (setup_of s b) opening dones) (done-at s b round replies opening w ls lists ended are within below coherent worker inside)
        (All-get_or (contents.AreTold (setup_of s b) opening dones) dones worker [] (omega (arith, inside, many s b round replies opening w ls lists ended are within below coherent)) all) in
        let there : contents.AreTold (setup_of s b) opening dones (back s.table (rooms worker) is.later (told s.table (rooms worker) one ∷ ds)) =
        subst (contents.AreTold (setup_of s b) opening dones) (ap (λ xs. back s.table (rooms worker) xs []) is.split ∙ back-append s.table (rooms worker) own (one ∷ is.later) []) its in
        let mine = (told-first worker is.later (told s.table (rooms worker) one ∷ ds) there).0 in
        let says : contents.TellsOfByte (setup_of s b) opening dones ds c (reply.Value value) = subst (λ r. contents.TellsOfByte (setup_of s b) opening dones ds c r) tells mine in
        let met = first-met own (one ∷ is.later) (subst (All (IsMet s.table)) is.split (met-by s b round replies opening w ls lists ended are within below coherent worker)) in
        let same_object : call_object c ≡ object = ap (λ a. call_object (call_for s.table (rooms worker) one.0.cpu a)) asks in
        let same_word : call_word c ≡ word = ap (λ a. call_word (call_for s.table (rooms worker) one.0.cpu a)) asks in
        value-told worker own c object word value same_object same_word met
        (says (subst (λ o. core.IsOfChecked (setup_of s b) (core.cache_by opening.board ds o)) (sym same_object) (checked-told worker own object met checked))))
  ]
