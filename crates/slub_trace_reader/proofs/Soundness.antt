-- A trace that is read is sound: what the lines so far say is, line by line.
use Rattle.std.proofs.Common.{◌≡◌, ℕ, ◌+◌, ◌-◌, ◌*◌, ◌%◌, ◌<◌, ◌≤◌, Bool, true, false, cond, max, pos, neg_ℤ, ◌≤ℤ◌, Option, Some, None, List, [], ◌∷◌, ◌++◌, length, fold, get_or, refl, sym, ap, ◌∙◌, arith, subst, All, inl, inr, append_assoc, length-append, leb, nat_eq, unwrap_or, flat_map}
use Rattle.std.specs.Prelude.{IfOk, Result, Ok, Err}
use Rattle.std.specs.List.{list_any, position_or_len, IsDistinct, cons_option, range_with_len}
use Rattle.std.specs.Str.{bytes_eq}
use Rattle.std.specs.Cmp.Lexicographic.{nat_list_eq_equiv}
use Rattle.std.proofs.lemmas.Bool.{false≢true, cases_Bool, cond_both, or_parts}
use Rattle.std.proofs.lemmas.Int.{ints}
use Rattle.std.proofs.lemmas.List.{append-nil}
use Rattle.std.proofs.lemmas.List.Sums.{fold-append}
use Rattle.std.proofs.lemmas.List.Elements.{All-cons, All-nil, All-append, All-head, All-tail}
use Rattle.std.proofs.lemmas.Map.Keys.{IsDistinct-push}
use Rattle.slub_trace.specs.declared.event.Act.{Act}
use Rattle.slub_trace.specs.declared.event.Act.TheVariants as act
use Rattle.slub_trace.specs.declared.event.Event.{Event}
use Rattle.slub_object_layout.specs.Name.{IsName}
use Rattle.slub_trace_reader.specs.declared.client.ClientLine.{ClientLine}
use Rattle.slub_trace_reader.specs.declared.client.ClientLine.TheVariants.{Kmalloc, Kget, Krealloc, Bulk, Bulkfree, Mempool, Mget, Mput}
use Rattle.slub_trace_reader.specs.declared.line.Knob.{Knob}
use Rattle.slub_trace_reader.specs.declared.line.Knob.TheVariants.{MinPartial, CpuPartial}
use Rattle.slub_trace_reader.specs.declared.line.Line.{Line}
use Rattle.slub_trace_reader.specs.declared.line.Line.TheVariants.{Passed, Slubtrace, Machine, Cache, Shrink, Destroy, Tune, Slabinfo, Client, Round, Alloc, Free, Write, Read, Poke, Trim, Flush, Done, End}
use Rattle.slub_trace_reader.specs.declared.place.Place.{Place}
use Rattle.slub_trace_reader.specs.declared.place.Place.TheVariants.{First, Second, Between, Within, After}
use Rattle.slub_trace.specs.declared.trace.Client.{Client as Asked}
use Rattle.slub_trace.specs.declared.trace.Client.TheVariants as client
use Rattle.slub_trace.specs.declared.trace.Item.{Item}
use Rattle.slub_trace.specs.declared.trace.Item.TheVariants as item
use Rattle.slub_trace.specs.declared.trace.Trace.{Trace}
use Rattle.slub_trace_reader.specs.Above.{Above, start, after, after_all, trace_of, workers_in, place_of, with_one, with_name, with_names, asked_of, names_below, setting_of, offset_of}
use Rattle.slub_trace.specs.Classes.{class_names}
use Rattle.slub_trace.specs.Ranges.{IsTid}
use Rattle.slub_trace_reader.specs.Grammar.{IsLine, AreLines, IsTrace, IsInRound, IsOffset, ClientInRange, HasSource}
use Rattle.slub_trace_reader.specs.Lines.{SaysClient}
use Rattle.slub_trace_reader.specs.Numbers.{client_allocates, client_needs}
use Rattle.slub_trace.specs.Sound.{allocated, asked_objects, objects_of, objects_in, events_in, IsSoundAct, IsSoundEvent, IsSoundClient, IsSoundSetting, IsSoundObject, AreSoundObjects, IsSoundItem, IsSound, AreReadable}
use Rattle.slub_trace_reader.proofs.LinesBelow.{count_after}
use Rattle.slub_trace_reader.proofs.Readable.{IsRead, ReadAt, ended_read, read_after}
use Rattle.slub_trace_reader.proofs.Runs.{from_first, any_within, greatest_more, greatest_from, greatest_within, distinct_run, each_run}
use Rattle.slub_trace_reader.proofs.ClassNames.{are_class_names}

-- ---- lists

-- what stands in a list has a place in it
found_within : {X : Type 0} (p : X → Bool) (xs : List X) → list_any p xs ≡ true → position_or_len p xs < length xs
found_within p [] is = absurd (false≢true is)
found_within p (x ∷ xs) is = elim (cases_Bool (p x)) [
  | inl here ↦ grind (arith, here)
  | inr apart ↦ (let more : list_any p xs ≡ true = rw apart at is in let low = found_within p xs more in grind (arith, apart, low))
]

flat_more : {X Y : Type 0} (f : X → List Y) (xs : List X) (x : X) → flat_map f (xs ++ x ∷ []) ≡ flat_map f xs ++ f x
flat_more f [] x = append-nil (f x)
flat_more f (y ∷ xs) x = ap (λ l. f y ++ l) (flat_more f xs x) ∙ sym (append_assoc (f y) (flat_map f xs) (f x))

-- the object of an act, as a list
abbrev pub one_of : Option ℕ → List ℕ
one_of o = cons_option o []

option_append : (o : Option ℕ) (xs ys : List ℕ) → cons_option o (xs ++ ys) ≡ cons_option o xs ++ ys
option_append None xs ys = refl
option_append (Some n) xs ys = refl

objects_more : (events : List Event) (e : Event) → objects_of (events ++ e ∷ []) ≡ objects_of events ++ one_of (allocated e.act)
objects_more [] e = refl
objects_more (x ∷ events) e = ap (cons_option (allocated x.act)) (objects_more events e) ∙ option_append (allocated x.act) (objects_of events) (one_of (allocated e.act))

-- ---- traces that grow

pub record Grows (s t : Trace) : Type 0 where
  pub names : length s.names ≤ length t.names
  pub objects : s.objects ≤ t.objects
  pub cpus : s.cpus ≡ t.cpus

grown_act : (s t : Trace) (a : Act) → Grows s t → IsSoundAct s a → IsSoundAct t a
grown_act s t (act.Alloc place object) g is = (omega (arith, g.names, is.0), is.1, omega (arith, g.objects, is.2))
grown_act s t (act.Free object) g is = (is.0, omega (arith, g.objects, is.1))
grown_act s t (act.Write word object value) g is = (is.0, omega (arith, g.objects, is.1), is.2)
grown_act s t (act.Read word object) g is = (is.0, omega (arith, g.objects, is.1), is.2)
grown_act s t (act.Poke object offset byte) g is = (is.0, omega (arith, g.objects, is.1), is.2, is.3)
grown_act s t (act.Trim place) g is = omega (arith, g.names, is)
grown_act s t act.Flush g is = tt

grown_event : (s t : Trace) (workers : ℕ) (e : Event) → Grows s t → IsSoundEvent s workers e → IsSoundEvent t workers e
grown_event s t workers e g is = record { worker = is.worker; cpu = omega (arith, is.cpu, g.cpus); act = grown_act s t e.act g is.act; idle = is.idle }

grown_events : (s t : Trace) (workers : ℕ) (es : List Event) → Grows s t → All (IsSoundEvent s workers) es → All (IsSoundEvent t workers) es
grown_events s t workers es g all = λ k d low. grown_event s t workers (get_or es k d) g (all k d low)

grown_object : (s t : Trace) (object : ℕ) → Grows s t → IsSoundObject s object → IsSoundObject t object
grown_object s t object g is = (is.0, omega (arith, g.objects, is.1))

grown_objects : (s t : Trace) (most first count : ℕ) → Grows s t → AreSoundObjects s most first count → AreSoundObjects t most first count
grown_objects s t most first count g is = (is.0, is.1, is.2, omega (arith, g.objects, is.3))

grown_client : (s t : Trace) (c : Asked) → Grows s t → IsSoundClient s c → IsSoundClient t c
grown_client s t client.Kmalloc g is = tt
grown_client s t (client.Kget cpu size object) g is = (omega (arith, is.0, g.cpus), is.1, grown_object s t object g is.2)
grown_client s t (client.Krealloc cpu object size fresh) g is =
    (omega (arith, is.0, g.cpus), grown_object s t object g is.1, is.2, grown_object s t fresh g is.3)
grown_client s t (client.Bulk cpu place first count) g is =
    (omega (arith, is.0, g.cpus), omega (arith, g.names, is.1), grown_objects s t 1024 first count g is.2)
grown_client s t (client.Bulkfree cpu first count) g is = (omega (arith, is.0, g.cpus), grown_objects s t 1024 first count g is.1)
grown_client s t (client.Mempool pool place min first) g is = (is.0, omega (arith, g.names, is.1), grown_objects s t 64 first min g is.2)
grown_client s t (client.Mget cpu pool object) g is = (omega (arith, is.0, g.cpus), is.1, grown_object s t object g is.2)
grown_client s t (client.Mput cpu pool object) g is = (omega (arith, is.0, g.cpus), is.1, grown_object s t object g is.2)

grown_item : (s t : Trace) (i : Item) → Grows s t → IsSoundItem s i → IsSoundItem t i
grown_item s t (item.Cache name spec) g is = omega (arith, g.names, is)
grown_item s t (item.Round round) g is = record { workers = is.workers; events = grown_events s t round.workers round.events g is.events; readable = is.readable }
grown_item s t (item.Shrink name) g is = omega (arith, g.names, is)
grown_item s t (item.Destroy name) g is = omega (arith, g.names, is)
grown_item s t item.Slabinfo g is = tt
grown_item s t (item.Tune name setting) g is = (omega (arith, g.names, is.0), is.1)
grown_item s t (item.Client client) g is = grown_client s t client g is

grown_items : (s t : Trace) (is : List Item) → Grows s t → All (IsSoundItem s) is → All (IsSoundItem t) is
grown_items s t is g all = λ k d low. grown_item s t (get_or is k d) g (all k d low)

-- ---- what the lines so far keep

-- the machine of the second line
pub record IsHeaded (a : Above) : Type 0 where
  pub version : (1 ≤ a.version) × (a.version ≤ 4)
  pub frames : (2 ≤ a.frames) × (a.frames ≤ 4096)
  pub cpus : (1 ≤ a.cpus) × (a.cpus ≤ 16)
  pub tid : IsTid a.cpus (Some a.tid)

HeadAt : Place → Above → Type 0
HeadAt First a = (a.items ≡ []) × (a.events ≡ [])
HeadAt Second a = (1 ≤ a.version) × (a.version ≤ 4) × (a.items ≡ []) × (a.events ≡ [])
HeadAt Between a = IsHeaded a × (a.events ≡ [])
HeadAt (Within workers) a = IsHeaded a × (1 ≤ workers) × (workers ≤ 16)
HeadAt After a = IsHeaded a × (a.events ≡ [])

-- the names and the objects
pub record IsWide (a : Above) : Type 0 where
  pub named : All IsName a.names
  pub differ : IsDistinct bytes_eq a.names
  pub fewer : length a.names ≤ 13 * a.count
  pub least : fold max 0 a.objects ≤ 1048576
  pub distinct : IsDistinct nat_eq a.objects

-- the items and the events
pub record IsListed (a : Above) : Type 0 where
  pub items : All (IsSoundItem (trace_of a)) a.items
  pub events : All (IsSoundEvent (trace_of a) (workers_in a.place)) a.events
  pub same : a.objects ≡ flat_map objects_in a.items ++ objects_of a.events
  pub brief : length (flat_map events_in a.items) + length a.events ≤ a.count

-- ---- one line more, for the items and the events

-- an event more
event_listed : (a b : Above) (e : Event) → IsListed a → b.items ≡ a.items → b.events ≡ a.events ++ e ∷ [] → workers_in b.place ≡ workers_in a.place → b.count ≡ a.count + 1
    → Grows (trace_of a) (trace_of b) → IsSoundEvent (trace_of b) (workers_in a.place) e → b.objects ≡ a.objects ++ one_of (allocated e.act) → IsListed b
event_listed a b e listed items events place count grows sound objects = record {
  items = subst (λ (is : List Item). All (IsSoundItem (trace_of b)) is) (sym items) (grown_items (trace_of a) (trace_of b) a.items grows listed.items);
  events = subst (λ (n : ℕ). All (IsSoundEvent (trace_of b) n) b.events) (sym place) (subst (λ (es : List Event). All (IsSoundEvent (trace_of b) (workers_in a.place)) es) (sym events)
      (All-append (IsSoundEvent (trace_of b) (workers_in a.place)) a.events (e ∷ []) (grown_events (trace_of a) (trace_of b) (workers_in a.place) a.events grows listed.events)
      (All-cons (IsSoundEvent (trace_of b) (workers_in a.place)) e [] sound (All-nil (IsSoundEvent (trace_of b) (workers_in a.place))))));
  same = objects ∙ ap (λ l. l ++ one_of (allocated e.act)) listed.same ∙ append_assoc (flat_map objects_in a.items) (objects_of a.events) (one_of (allocated e.act))
      ∙ ap (λ l. flat_map objects_in a.items ++ l) (sym (objects_more a.events e)) ∙ ap (λ es. flat_map objects_in a.items ++ objects_of es) (sym events) ∙ ap (λ is. flat_map objects_in is ++ objects_of b.events) (sym items);
  brief = omega (arith, ap (λ is. length (flat_map events_in is)) items, ap (λ es. length es) events, length-append a.events (e ∷ []), count, listed.brief);
}

-- an item more, which is no round
item_listed : (a b : Above) (i : Item) → IsListed a → a.events ≡ [] → b.items ≡ a.items ++ i ∷ [] → b.events ≡ [] → b.count ≡ a.count + 1
    → Grows (trace_of a) (trace_of b) → IsSoundItem (trace_of b) i → events_in i ≡ [] → b.objects ≡ a.objects ++ objects_in i → IsListed b
item_listed a b i listed none items events count grows sound no_events objects = record {
  items = subst (λ (is : List Item). All (IsSoundItem (trace_of b)) is) (sym items)
      (All-append (IsSoundItem (trace_of b)) a.items (i ∷ []) (grown_items (trace_of a) (trace_of b) a.items grows listed.items) (All-cons (IsSoundItem (trace_of b)) i [] sound (All-nil (IsSoundItem (trace_of b)))));
  events = subst (λ (es : List Event). All (IsSoundEvent (trace_of b) (workers_in b.place)) es) (sym events) (All-nil (IsSoundEvent (trace_of b) (workers_in b.place)));
  same = objects ∙ ap (λ l. l ++ objects_in i) (listed.same ∙ ap (λ es. flat_map objects_in a.items ++ objects_of es) none ∙ append-nil (flat_map objects_in a.items))
      ∙ sym (flat_more objects_in a.items i) ∙ ap (λ is. flat_map objects_in is) (sym items) ∙ sym (append-nil (flat_map objects_in b.items)) ∙ ap (λ es. flat_map objects_in b.items ++ objects_of es) (sym events);
  brief = omega (
    arith,
    ap (λ is. length (flat_map events_in is)) (items),
    ap (λ l. length l) (flat_more events_in a.items i),
    length-append (flat_map events_in a.items) (events_in i),
    ap (λ l. length l) no_events,
    ap (λ es. length es) events,
    count,
    listed.brief,
  );
}

-- the round ends
done_listed : (a b : Above) → IsListed a → AreReadable [] a.events → (1 ≤ workers_in a.place) × (workers_in a.place ≤ 16) → b.items ≡ a.items ++ item.Round (record { workers = workers_in a.place; events = a.events }) ∷ [] → b.events ≡ []
    → b.count ≡ a.count + 1 → Grows (trace_of a) (trace_of b) → b.objects ≡ a.objects → IsListed b
done_listed a b listed reads workers items events count grows objects =
    let round : Item = item.Round (record { workers = workers_in a.place; events = a.events }) in
    let sound : IsSoundItem (trace_of b) round = record { workers = workers; events = grown_events (trace_of a) (trace_of b) (workers_in a.place) a.events grows listed.events; readable = reads } in
    record {
      items = subst (λ (is : List Item). All (IsSoundItem (trace_of b)) is) (sym items)
          (All-append (IsSoundItem (trace_of b)) a.items (round ∷ []) (grown_items (trace_of a) (trace_of b) a.items grows listed.items) (All-cons (IsSoundItem (trace_of b)) round [] sound (All-nil (IsSoundItem (trace_of b)))));
      events = subst (λ (es : List Event). All (IsSoundEvent (trace_of b) (workers_in b.place)) es) (sym events) (All-nil (IsSoundEvent (trace_of b) (workers_in b.place)));
      same = objects ∙ listed.same ∙ sym (flat_more objects_in a.items round) ∙ sym (append-nil (flat_map objects_in (a.items ++ round ∷ [])))
          ∙ ap (λ is. flat_map objects_in is ++ []) (sym items) ∙ ap (λ es. flat_map objects_in b.items ++ objects_of es) (sym events);
      brief = omega (
        arith,
        ap (λ is. length (flat_map events_in is)) items,
        ap (λ l. length l) (flat_more events_in a.items round),
        length-append (flat_map events_in a.items) a.events,
        ap (λ es. length es) events,
        count,
        listed.brief,
      );
    }

-- no event and no item more, with no event open
quiet_listed : (a b : Above) → IsListed a → a.events ≡ [] → b.items ≡ a.items → b.events ≡ [] → b.count ≡ a.count + 1 → Grows (trace_of a) (trace_of b) → b.objects ≡ a.objects → IsListed b
quiet_listed a b listed none items events count grows objects = record {
  items = subst (λ (is : List Item). All (IsSoundItem (trace_of b)) is) (sym items) (grown_items (trace_of a) (trace_of b) a.items grows listed.items);
  events = subst (λ (es : List Event). All (IsSoundEvent (trace_of b) (workers_in b.place)) es) (sym events) (All-nil (IsSoundEvent (trace_of b) (workers_in b.place)));
  same = objects ∙ listed.same ∙ ap (λ es. flat_map objects_in a.items ++ objects_of es) (none ∙ sym events) ∙ ap (λ is. flat_map objects_in is ++ objects_of b.events) (sym items);
  brief = omega (arith, ap (λ is. length (flat_map events_in is)) items, ap (λ es. length es) events, count, listed.brief);
}

-- nothing yet
empty_listed : (a b : Above) → IsListed a → a.items ≡ [] → a.events ≡ [] → b.items ≡ a.items → b.events ≡ a.events → b.count ≡ a.count + 1 → b.objects ≡ a.objects → IsListed b
empty_listed a b listed no_items no_events items events count objects = record {
  items = subst (λ (is : List Item). All (IsSoundItem (trace_of b)) is) (sym (items ∙ no_items)) (All-nil (IsSoundItem (trace_of b)));
  events = subst (λ (es : List Event). All (IsSoundEvent (trace_of b) (workers_in b.place)) es) (sym (events ∙ no_events)) (All-nil (IsSoundEvent (trace_of b) (workers_in b.place)));
  same = objects ∙ listed.same ∙ ap (λ es. flat_map objects_in a.items ++ objects_of es) (sym events) ∙ ap (λ is. flat_map objects_in is ++ objects_of b.events) (sym items);
  brief = omega (arith, ap (λ is. length (flat_map events_in is)) items, ap (λ es. length es) events, count, listed.brief);
}

-- ---- one line more, for the names and the objects

-- what stands nowhere in a list would stand last
found_nowhere : {X : Type 0} (p : X → Bool) (xs : List X) → list_any p xs ≡ false → position_or_len p xs ≡ length xs
found_nowhere p [] is = refl
found_nowhere p (x ∷ xs) is =
    let parts = or_parts (p x) (list_any p xs) is in
    let more = found_nowhere p xs parts.1 in
    grind (arith, parts, more)

-- a thing stands where it was put, or was before
put_within : {X : Type 0} (eq : X → X → Bool) (xs : List X) (x : X) → position_or_len (eq x) xs < length (with_one eq xs x)
put_within eq xs x = elim (cases_Bool (list_any (eq x) xs)) [
  | inl old ↦ (let low = found_within (eq x) xs old in rw old low)
  | inr new ↦ (let last = found_nowhere (eq x) xs new in let longer = length-append xs (x ∷ []) in rw new (omega (arith, last, longer)))
]

-- nothing is taken away
put_more : {X : Type 0} (eq : X → X → Bool) (xs : List X) (x : X) → length xs ≤ length (with_one eq xs x)
put_more eq xs x = cond_both (list_any (eq x) xs) xs (xs ++ x ∷ []) (λ ys. length xs ≤ length ys) (λ _. omega arith) (λ _. omega (arith, length-append xs (x ∷ [])))

-- names, each once, so many at most, and no fewer than others
record AreNames (old : List (List ℕ)) (most : ℕ) (names : List (List ℕ)) : Type 0 where
  named : All IsName names
  differ : IsDistinct bytes_eq names
  fewer : length names ≤ most
  more : length old ≤ length names

-- names with one more are names
names_more : (old names : List (List ℕ)) (most : ℕ) (name : List ℕ) → AreNames old most names → IsName name → AreNames old (most + 1) (with_one bytes_eq names name)
names_more old names most name are is =
    let P : List (List ℕ) → Type 0 = λ ns. AreNames old (most + 1) ns in
    cond_both (list_any (bytes_eq name) names) names (names ++ name ∷ []) P
    (λ there. record { named = are.named; differ = are.differ; fewer = omega (arith, are.fewer); more = are.more })
    (λ new. record {
      named = All-append IsName names (name ∷ []) are.named (All-cons IsName name [] is (All-nil IsName));
      differ = IsDistinct-push nat_list_eq_equiv names name are.differ new;
      fewer = omega (arith, are.fewer, length-append names (name ∷ []));
      more = omega (arith, are.more, length-append names (name ∷ []));
    })

-- names with some more are names
names_all : (old names : List (List ℕ)) (most : ℕ) (more : List (List ℕ)) → AreNames old most names → All IsName more → AreNames old (most + length more) (with_names names more)
unfolding with_names
names_all old names most [] are all = record { named = are.named; differ = are.differ; fewer = omega (arith, are.fewer); more = are.more }
names_all old names most (name ∷ more) are all =
    let one = names_more old names most name are (All-head IsName name more all) in
    let rest = names_all old (with_name names name) (most + 1) more one (All-tail IsName name more all) in
    record { named = rest.named; differ = rest.differ; fewer = omega (arith, rest.fewer); more = rest.more }

wide_names : (a : Above) → IsWide a → AreNames a.names (13 * a.count) a.names
wide_names a wide = record { named = wide.named; differ = wide.differ; fewer = wide.fewer; more = omega arith }

same_names : (a : Above) → IsWide a → AreNames a.names (13 * a.count + 13) a.names
same_names a wide = record { named = wide.named; differ = wide.differ; fewer = omega (arith, wide.fewer); more = omega arith }

-- the names below a client's line
client_names : (a : Above) (line : ClientLine) → IsWide a → AreNames a.names (13 * a.count + 13) (names_below a.names line)
client_names a Kmalloc wide =
    let are = names_all a.names a.names (13 * a.count) class_names (wide_names a wide) are_class_names.1 in
    let long = are_class_names.0 in
    record { named = are.named; differ = are.differ; fewer = omega (arith, are.fewer, long); more = are.more }
client_names a (Kget cpu size object) wide = same_names a wide
client_names a (Krealloc cpu object size fresh) wide = same_names a wide
client_names a (Bulk cpu name first count) wide = same_names a wide
client_names a (Bulkfree cpu first count) wide = same_names a wide
client_names a (Mempool pool name min first) wide = same_names a wide
client_names a (Mget cpu pool object) wide = same_names a wide
client_names a (Mput cpu pool object) wide = same_names a wide

-- ---- one line more, for the objects

-- what a client's line may allocate is a run of numbers
AreRun : List ℕ → Type 0
AreRun objects = (first count : ℕ) × (objects ≡ range_with_len first count) × (first + count ≤ 1048577)

client_run : (a : Above) (line : ClientLine) → ClientInRange a line → AreRun (client_allocates line)
unfolding AreRun
client_run a Kmalloc range = (0, 0, refl, omega arith)
client_run a (Kget cpu size object) range = (object, 1, refl, omega (arith, range.2.1))
client_run a (Krealloc cpu object size fresh) range = (fresh, 1, refl, omega (arith, range.3.1))
client_run a (Bulk cpu name first count) range = (first, count, refl, omega (arith, range.1.3))
client_run a (Bulkfree cpu first count) range = (0, 0, refl, omega arith)
client_run a (Mempool pool name min first) range = (first, min, refl, omega (arith, range.3))
client_run a (Mget cpu pool object) range = (object, 1, refl, omega (arith, range.1.1))
client_run a (Mput cpu pool object) range = (0, 0, refl, omega arith)

one_run : (object : ℕ) → object ≤ 1048576 → AreRun (object ∷ [])
unfolding AreRun
one_run object low = (object, 1, refl, omega arith)

-- fresh numbers behind others
record AreObjectsMore (objects more : List ℕ) : Type 0 where
  least : fold max 0 (objects ++ more) ≤ 1048576
  distinct : IsDistinct nat_eq (objects ++ more)

objects_all : (objects more : List ℕ) → fold max 0 objects ≤ 1048576 → IsDistinct nat_eq objects → AreRun more → All (λ object. list_any (nat_eq object) objects ≡ false) more → AreObjectsMore objects more
unfolding AreRun
objects_all objects more least distinct run fresh =
    let all : All (λ object. list_any (nat_eq object) objects ≡ false) (range_with_len run.0 run.1) = subst (λ (os : List ℕ). All (λ object. list_any (nat_eq object) objects ≡ false) os) run.2 fresh in
    subst (λ (os : List ℕ). AreObjectsMore objects os) (sym run.2) (record {
      least = omega (arith, fold-append max 0 objects (range_with_len run.0 run.1), greatest_within (fold max 0 objects) run.0 run.1 1048576 least run.3);
      distinct = distinct_run objects run.0 run.1 distinct all;
    })

wide_after : (a : Above) (text : List ℕ) (line : Line) → IsWide a → IsLine a text line → IsWide (after a line)
wide_after a text Passed wide good = record { named = wide.named; differ = wide.differ; fewer = omega (arith, wide.fewer); least = wide.least; distinct = wide.distinct }
wide_after a text (Slubtrace version) wide good = record { named = wide.named; differ = wide.differ; fewer = omega (arith, wide.fewer); least = wide.least; distinct = wide.distinct }
wide_after a text (Machine frames cpus tid) wide good = record { named = wide.named; differ = wide.differ; fewer = omega (arith, wide.fewer); least = wide.least; distinct = wide.distinct }
wide_after a text (Cache name size align flags) wide good =
    let names = names_more a.names a.names (13 * a.count) name (wide_names a wide) good.says.3 in
    record { named = names.named; differ = names.differ; fewer = omega (arith, names.fewer); least = wide.least; distinct = wide.distinct }
wide_after a text (Shrink name) wide good = record { named = wide.named; differ = wide.differ; fewer = omega (arith, wide.fewer); least = wide.least; distinct = wide.distinct }
wide_after a text (Destroy name) wide good = record { named = wide.named; differ = wide.differ; fewer = omega (arith, wide.fewer); least = wide.least; distinct = wide.distinct }
wide_after a text (Tune name knob number) wide good = record { named = wide.named; differ = wide.differ; fewer = omega (arith, wide.fewer); least = wide.least; distinct = wide.distinct }
wide_after a text Slabinfo wide good = record { named = wide.named; differ = wide.differ; fewer = omega (arith, wide.fewer); least = wide.least; distinct = wide.distinct }
wide_after a text (Client line) wide good =
    let names = client_names a line wide in
    let objects = objects_all a.objects (client_allocates line) wide.least wide.distinct (client_run a line good.range) good.fresh in
    record { named = names.named; differ = names.differ; fewer = omega (arith, names.fewer); least = objects.least; distinct = objects.distinct }
wide_after a text (Round workers) wide good = record { named = wide.named; differ = wide.differ; fewer = omega (arith, wide.fewer); least = wide.least; distinct = wide.distinct }
wide_after a text (Alloc worker cpu name object) wide good =
    let objects = objects_all a.objects (object ∷ []) wide.least wide.distinct (one_run object good.range.2.1) good.fresh in
    record { named = wide.named; differ = wide.differ; fewer = omega (arith, wide.fewer); least = objects.least; distinct = objects.distinct }
wide_after a text (Free worker cpu object) wide good = record { named = wide.named; differ = wide.differ; fewer = omega (arith, wide.fewer); least = wide.least; distinct = wide.distinct }
wide_after a text (Write worker object word value) wide good = record { named = wide.named; differ = wide.differ; fewer = omega (arith, wide.fewer); least = wide.least; distinct = wide.distinct }
wide_after a text (Read worker object word) wide good = record { named = wide.named; differ = wide.differ; fewer = omega (arith, wide.fewer); least = wide.least; distinct = wide.distinct }
wide_after a text (Poke worker object negative offset byte) wide good = record { named = wide.named; differ = wide.differ; fewer = omega (arith, wide.fewer); least = wide.least; distinct = wide.distinct }
wide_after a text (Trim worker name) wide good = record { named = wide.named; differ = wide.differ; fewer = omega (arith, wide.fewer); least = wide.least; distinct = wide.distinct }
wide_after a text (Flush worker cpu) wide good = record { named = wide.named; differ = wide.differ; fewer = omega (arith, wide.fewer); least = wide.least; distinct = wide.distinct }
wide_after a text Done wide good = record { named = wide.named; differ = wide.differ; fewer = omega (arith, wide.fewer); least = wide.least; distinct = wide.distinct }
wide_after a text End wide good = record { named = wide.named; differ = wide.differ; fewer = omega (arith, wide.fewer); least = wide.least; distinct = wide.distinct }

-- ---- one line more, for the machine

-- the tid, or 0
tid_of : (cpus : ℕ) (tid : Option ℕ) → IsTid cpus tid → IsTid cpus (Some (unwrap_or tid 0))
tid_of cpus None is =
    let P : ℕ → Type 0 = λ s. (0 % s ≡ 0) × (0 + s ≤ 4294967296) in
    cond_both (leb cpus 1) 1 (cond (leb cpus 2) 2 (cond (leb cpus 4) 4 (cond (leb cpus 8) 8 16))) P (λ _. (refl, omega arith))
    (λ _. cond_both (leb cpus 2) 2 (cond (leb cpus 4) 4 (cond (leb cpus 8) 8 16)) P (λ _. (refl, omega arith))
    (λ _. cond_both (leb cpus 4) 4 (cond (leb cpus 8) 8 16) P (λ _. (refl, omega arith))
    (λ _. cond_both (leb cpus 8) 8 16 P (λ _. (refl, omega arith)) (λ _. (refl, omega arith)))))
tid_of cpus (Some tid) is = is

-- a round that isn't ended has a machine above and few workers
in_round : (a : Above) (p : Place) → IsInRound p → HeadAt p a → IsHeaded a × (1 ≤ workers_in p) × (workers_in p ≤ 16)
unfolding HeadAt
in_round a First is head = absurd is
in_round a Second is head = absurd is
in_round a Between is head = absurd is
in_round a (Within workers) is head = head
in_round a After is head = absurd is

round_head : (a : Above) (p : Place) → IsInRound p → IsHeaded a → (1 ≤ workers_in p) × (workers_in p ≤ 16) → HeadAt p a
unfolding HeadAt
round_head a First is head workers = absurd is
round_head a Second is head workers = absurd is
round_head a Between is head workers = absurd is
round_head a (Within n) is head workers = (head, workers.0, workers.1)
round_head a After is head workers = absurd is

passed_head : (a : Above) (p : Place) → HeadAt p a → HeadAt p (after a Passed)
unfolding HeadAt
passed_head a First head = head
passed_head a Second head = head
passed_head a Between head = (record { version = head.0.version; frames = head.0.frames; cpus = head.0.cpus; tid = head.0.tid }, head.1)
passed_head a (Within n) head = (record { version = head.0.version; frames = head.0.frames; cpus = head.0.cpus; tid = head.0.tid }, head.1, head.2)
passed_head a After head = (record { version = head.0.version; frames = head.0.frames; cpus = head.0.cpus; tid = head.0.tid }, head.1)

head_after : (a : Above) (text : List ℕ) (line : Line) → HeadAt a.place a → IsLine a text line → HeadAt (after a line).place (after a line)
unfolding HeadAt
head_after a text Passed head good = passed_head a a.place head
head_after a text (Slubtrace version) head good = (let here = subst (λ (p : Place). HeadAt p a) good.stands head in (good.says.0, good.says.1, here.0, here.1))
head_after a text (Machine frames cpus tid) head good = (let here = subst (λ (p : Place). HeadAt p a) good.stands head in let range = good.range in
    (record { version = (here.0, here.1); frames = (range.0, range.1); cpus = (range.2, range.3); tid = tid_of cpus tid range.4 }, here.3))
head_after a text (Cache name size align flags) head good = (let here = subst (λ (p : Place). HeadAt p a) good.stands head in
    subst (λ (p : Place). HeadAt p (after a (Cache name size align flags))) (sym good.stands) (record { version = here.0.version; frames = here.0.frames; cpus = here.0.cpus; tid = here.0.tid }, here.1))
head_after a text (Shrink name) head good = (let here = subst (λ (p : Place). HeadAt p a) good.stands head in
    subst (λ (p : Place). HeadAt p (after a (Shrink name))) (sym good.stands) (record { version = here.0.version; frames = here.0.frames; cpus = here.0.cpus; tid = here.0.tid }, here.1))
head_after a text (Destroy name) head good = (let here = subst (λ (p : Place). HeadAt p a) good.stands head in
    subst (λ (p : Place). HeadAt p (after a (Destroy name))) (sym good.stands) (record { version = here.0.version; frames = here.0.frames; cpus = here.0.cpus; tid = here.0.tid }, here.1))
head_after a text (Tune name knob number) head good = (let here = subst (λ (p : Place). HeadAt p a) good.stands.1 head in
    subst (λ (p : Place). HeadAt p (after a (Tune name knob number))) (sym good.stands.1) (record { version = here.0.version; frames = here.0.frames; cpus = here.0.cpus; tid = here.0.tid }, here.1))
head_after a text Slabinfo head good = (let here = subst (λ (p : Place). HeadAt p a) good.stands head in
    subst (λ (p : Place). HeadAt p (after a Slabinfo)) (sym good.stands) (record { version = here.0.version; frames = here.0.frames; cpus = here.0.cpus; tid = here.0.tid }, here.1))
head_after a text (Client line) head good = (let here = subst (λ (p : Place). HeadAt p a) good.stands.1 head in
    subst (λ (p : Place). HeadAt p (after a (Client line))) (sym good.stands.1) (record { version = here.0.version; frames = here.0.frames; cpus = here.0.cpus; tid = here.0.tid }, here.1))
head_after a text (Round workers) head good = (let here = subst (λ (p : Place). HeadAt p a) good.stands head in (record { version = here.0.version; frames = here.0.frames; cpus = here.0.cpus; tid = here.0.tid }, good.range.0, good.range.1))
head_after a text (Alloc worker cpu name object) head good = (let here = in_round a a.place good.stands head in
    round_head (after a (Alloc worker cpu name object)) a.place good.stands (record { version = here.0.version; frames = here.0.frames; cpus = here.0.cpus; tid = here.0.tid }) (here.1, here.2))
head_after a text (Free worker cpu object) head good = (let here = in_round a a.place good.stands head in
    round_head (after a (Free worker cpu object)) a.place good.stands (record { version = here.0.version; frames = here.0.frames; cpus = here.0.cpus; tid = here.0.tid }) (here.1, here.2))
head_after a text (Write worker object word value) head good = (let here = in_round a a.place good.stands head in
    round_head (after a (Write worker object word value)) a.place good.stands (record { version = here.0.version; frames = here.0.frames; cpus = here.0.cpus; tid = here.0.tid }) (here.1, here.2))
head_after a text (Read worker object word) head good = (let here = in_round a a.place good.stands head in
    round_head (after a (Read worker object word)) a.place good.stands (record { version = here.0.version; frames = here.0.frames; cpus = here.0.cpus; tid = here.0.tid }) (here.1, here.2))
head_after a text (Poke worker object negative offset byte) head good = (let here = in_round a a.place good.stands head in
    round_head (after a (Poke worker object negative offset byte)) a.place good.stands (record { version = here.0.version; frames = here.0.frames; cpus = here.0.cpus; tid = here.0.tid }) (here.1, here.2))
head_after a text (Trim worker name) head good = (let here = in_round a a.place good.stands.1 head in
    round_head (after a (Trim worker name)) a.place good.stands.1 (record { version = here.0.version; frames = here.0.frames; cpus = here.0.cpus; tid = here.0.tid }) (here.1, here.2))
head_after a text (Flush worker cpu) head good = (let here = in_round a a.place good.stands.1 head in
    round_head (after a (Flush worker cpu)) a.place good.stands.1 (record { version = here.0.version; frames = here.0.frames; cpus = here.0.cpus; tid = here.0.tid }) (here.1, here.2))
head_after a text Done head good = (let here = in_round a a.place good.stands head in (record { version = here.0.version; frames = here.0.frames; cpus = here.0.cpus; tid = here.0.tid }, refl))
head_after a text End head good = (let here = subst (λ (p : Place). HeadAt p a) good.stands head in (record { version = here.0.version; frames = here.0.frames; cpus = here.0.cpus; tid = here.0.tid }, here.1))

-- ---- one line more

-- nothing shrinks where names and objects stay
stays : (a b : Above) → b.names ≡ a.names → b.objects ≡ a.objects → b.cpus ≡ a.cpus → Grows (trace_of a) (trace_of b)
stays a b names objects cpus = record { names = omega (arith, ap (λ ns. length ns) names); objects = omega (arith, ap (λ os. fold max 0 os) objects); cpus = sym cpus }

-- an offset by its sign and its size lies in its range
offset_low : (negative : Bool) (size : ℕ) → size ≤ 32768 → neg_ℤ (pos 32768) ≤ℤ offset_of negative size
offset_low true size small = omega (arith, ints)
offset_low false size small = omega (arith, ints)

offset_high : (negative : Bool) (size : ℕ) → IsOffset negative size → offset_of negative size ≤ℤ pos 32767
offset_high true size small = omega (arith, ints)
offset_high false size small = omega (arith, ints)

offset_small : (negative : Bool) (size : ℕ) → IsOffset negative size → size ≤ 32768
offset_small true size small = small
offset_small false size small = omega (arith, small)

-- a number that a line needs is known
one_known : (a : Above) (object : ℕ) → All (λ o. list_any (nat_eq o) a.objects ≡ true) (object ∷ []) → list_any (nat_eq object) a.objects ≡ true
one_known a object known = All-head (λ o. list_any (nat_eq o) a.objects ≡ true) object [] known

-- so are the numbers of a run, up to the last
last_known : (a : Above) (first count : ℕ) → 1 ≤ count → All (λ o. list_any (nat_eq o) a.objects ≡ true) (range_with_len first count) → first + count - 1 ≤ fold max 0 a.objects
last_known a first count some known =
    any_within 0 (first + count - 1) a.objects (each_run (λ o. list_any (nat_eq o) a.objects ≡ true) first count (first + count - 1) known (omega arith) (omega arith))

-- what was set is in its range
sound_setting : (knob : Knob) (number : ℕ) → number ≤ 4096 → IsSoundSetting (setting_of knob number)
sound_setting MinPartial number low = low
sound_setting CpuPartial number low = low

-- a client allocates what its line does
client_same : (names : List (List ℕ)) (line : ClientLine) → client_allocates line ≡ asked_objects (asked_of names line)
client_same names Kmalloc = refl
client_same names (Kget cpu size object) = refl
client_same names (Krealloc cpu object size fresh) = refl
client_same names (Bulk cpu name first count) = refl
client_same names (Bulkfree cpu first count) = refl
client_same names (Mempool pool name min first) = refl
client_same names (Mget cpu pool object) = refl
client_same names (Mput cpu pool object) = refl

-- some names more are no fewer
names_grow : (names more : List (List ℕ)) → length names ≤ length (with_names names more)
unfolding with_names
names_grow names [] = omega arith
names_grow names (name ∷ more) = omega (arith, put_more bytes_eq names name, names_grow (with_name names name) more)

-- nothing shrinks below a client's line
names_stay : (names : List (List ℕ)) (line : ClientLine) → length names ≤ length (names_below names line)
names_stay names Kmalloc = names_grow names class_names
names_stay names (Kget cpu size object) = omega arith
names_stay names (Krealloc cpu object size fresh) = omega arith
names_stay names (Bulk cpu name first count) = omega arith
names_stay names (Bulkfree cpu first count) = omega arith
names_stay names (Mempool pool name min first) = omega arith
names_stay names (Mget cpu pool object) = omega arith
names_stay names (Mput cpu pool object) = omega arith

client_grows : (a : Above) (line : ClientLine) → Grows (trace_of a) (trace_of (after a (Client line)))
client_grows a line = record {
  names = names_stay a.names line;
  objects = omega (arith, fold-append max 0 a.objects (client_allocates line), from_first (fold max 0 a.objects) (client_allocates line));
  cpus = refl;
}

-- a number that is allocated is one of the trace's
AreWithin : ℕ → ClientLine → Type 0
AreWithin most Kmalloc = Unit {0}
AreWithin most (Kget cpu size object) = object ≤ most
AreWithin most (Krealloc cpu object size fresh) = fresh ≤ most
AreWithin most (Bulk cpu name first count) = first + count - 1 ≤ most
AreWithin most (Bulkfree cpu first count) = Unit {0}
AreWithin most (Mempool pool name min first) = first + min - 1 ≤ most
AreWithin most (Mget cpu pool object) = object ≤ most
AreWithin most (Mput cpu pool object) = Unit {0}

run_within : (objects : List ℕ) (first count : ℕ) → 1 ≤ count → first + count - 1 ≤ fold max 0 (objects ++ range_with_len first count)
run_within objects first count some = omega (arith, fold-append max 0 objects (range_with_len first count), greatest_from (fold max 0 objects) first count some)

one_within : (objects : List ℕ) (object : ℕ) → object ≤ fold max 0 (objects ++ object ∷ [])
one_within objects object = omega (arith, greatest_more 0 object objects)

client_within : (a : Above) (line : ClientLine) → ClientInRange a line → AreWithin (fold max 0 (a.objects ++ client_allocates line)) line
unfolding AreWithin
client_within a Kmalloc range = tt
client_within a (Kget cpu size object) range = one_within a.objects object
client_within a (Krealloc cpu object size fresh) range = one_within a.objects fresh
client_within a (Bulk cpu name first count) range = run_within a.objects first count range.1.1
client_within a (Bulkfree cpu first count) range = tt
client_within a (Mempool pool name min first) range = run_within a.objects first min range.1
client_within a (Mget cpu pool object) range = one_within a.objects object
client_within a (Mput cpu pool object) range = tt

-- what a client's line asks is sound
sound_client : (a : Above) (t : Trace) (text : List ℕ) (line : ClientLine) → SaysClient text line → ClientInRange a line → HasSource a line
    → All (λ o. list_any (nat_eq o) a.objects ≡ true) (client_needs line) → AreWithin t.objects line → Grows (trace_of a) t → IsSoundClient t (asked_of a.names line)
unfolding AreWithin
sound_client a t text Kmalloc says range source known within g = tt
sound_client a t text (Kget cpu size object) says range source known within g = (omega (arith, range.0, g.cpus), range.1, (range.2.0, within))
sound_client a t text (Krealloc cpu object size fresh) says range source known within g =
    let low = any_within 0 object a.objects (one_known a object known) in
    (omega (arith, range.0, g.cpus), (range.1.0, omega (arith, low, g.objects)), range.2, (range.3.0, within))
sound_client a t text (Bulk cpu name first count) says range source known within g =
    let place = found_within (bytes_eq name) a.names source in
    (omega (arith, range.0, g.cpus), omega (arith, place, g.names), (range.1.0.0, range.1.1, range.1.2, within))
sound_client a t text (Bulkfree cpu first count) says range source known within g =
    let low = last_known a first count range.1.1 known in
    (omega (arith, range.0, g.cpus), (range.1.0.0, range.1.1, range.1.2, omega (arith, low, g.objects)))
sound_client a t text (Mempool pool name min first) says range source known within g =
    let place = found_within (bytes_eq name) a.names source in
    (says.2, omega (arith, place, g.names), (range.0.0, range.1, range.2, within))
sound_client a t text (Mget cpu pool object) says range source known within g = (omega (arith, range.0, g.cpus), says.3, (range.1.0, within))
sound_client a t text (Mput cpu pool object) says range source known within g =
    let low = any_within 0 object a.objects (one_known a object known) in
    (omega (arith, range.0, g.cpus), says.3, (range.1.0, omega (arith, low, g.objects)))

listed_after : (a : Above) (text : List ℕ) (line : Line) → IsRead a → HeadAt a.place a → IsListed a → IsLine a text line → IsListed (after a line)
unfolding HeadAt
listed_after a text Passed read head listed good = record { items = listed.items; events = listed.events; same = listed.same; brief = omega (arith, listed.brief) }
listed_after a text (Slubtrace version) read head listed good = (let here = subst (λ (p : Place). HeadAt p a) good.stands head in empty_listed a (after a (Slubtrace version)) listed here.0 here.1 refl refl refl refl)
listed_after a text (Machine frames cpus tid) read head listed good = (let here = subst (λ (p : Place). HeadAt p a) good.stands head in empty_listed a (after a (Machine frames cpus tid)) listed here.2 here.3 refl refl refl refl)
listed_after a text (Cache name size align flags) read head listed good =
    let here = subst (λ (p : Place). HeadAt p a) good.stands head in
    item_listed a (after a (Cache name size align flags)) (item.Cache (place_of name a.names) (record { size = size; align = align; flags = flags })) listed here.1 refl here.1 refl
    (record { names = put_more bytes_eq a.names name; objects = omega arith; cpus = refl }) (put_within bytes_eq a.names name) refl (sym (append-nil a.objects))
listed_after a text (Shrink name) read head listed good =
    let here = subst (λ (p : Place). HeadAt p a) good.stands head in
    item_listed a (after a (Shrink name)) (item.Shrink (place_of name a.names)) listed here.1 refl here.1 refl (stays a (after a (Shrink name)) refl refl refl) (found_within (bytes_eq name) a.names good.named) refl (sym (append-nil a.objects))
listed_after a text (Destroy name) read head listed good =
    let here = subst (λ (p : Place). HeadAt p a) good.stands head in
    item_listed a (after a (Destroy name)) (item.Destroy (place_of name a.names)) listed here.1 refl here.1 refl (stays a (after a (Destroy name)) refl refl refl) (found_within (bytes_eq name) a.names good.named) refl (sym (append-nil a.objects))
listed_after a text (Tune name knob number) read head listed good =
    let here = subst (λ (p : Place). HeadAt p a) good.stands.1 head in
    item_listed a (after a (Tune name knob number)) (item.Tune (place_of name a.names) (setting_of knob number)) listed here.1 refl here.1 refl
    (stays a (after a (Tune name knob number)) refl refl refl) (found_within (bytes_eq name) a.names good.named, sound_setting knob number good.range) refl (sym (append-nil a.objects))
listed_after a text Slabinfo read head listed good =
    let here = subst (λ (p : Place). HeadAt p a) good.stands head in
    item_listed a (after a Slabinfo) (item.Slabinfo) listed here.1 refl here.1 refl (stays a (after a Slabinfo) refl refl refl) tt refl (sym (append-nil a.objects))
listed_after a text (Client line) read head listed good =
    let here = subst (λ (p : Place). HeadAt p a) good.stands.1 head in
    let b = after a (Client line) in
    let grows : Grows (trace_of a) (trace_of b) = client_grows a line in
    item_listed a b (item.Client (asked_of a.names line)) listed here.1 refl here.1 refl grows
    (sound_client a (trace_of b) text line good.says good.range good.named good.known (client_within a line good.range) grows) refl
    (ap (λ l. a.objects ++ l) (client_same a.names line))
listed_after a text (Round workers) read head listed good = (let here = subst (λ (p : Place). HeadAt p a) good.stands head in quiet_listed a (after a (Round workers)) listed here.1 refl refl refl (stays a (after a (Round workers)) refl refl refl) refl)
listed_after a text (Alloc worker cpu name object) read head listed good =
    let most : fold max 0 (a.objects ++ object ∷ []) ≡ max (fold max 0 a.objects) object = greatest_more 0 object a.objects in
    let e : Event = record { line = a.count + 1; worker = worker; cpu = cpu; act = act.Alloc (place_of name a.names) object } in
    event_listed a (after a (Alloc worker cpu name object)) e listed refl refl refl refl
    (record { names = omega arith; objects = omega (arith, most); cpus = refl })
    (record { worker = good.range.0; cpu = good.range.1; act = (found_within (bytes_eq name) a.names good.named, good.range.2.0, omega (arith, most)); idle = tt })
    refl
listed_after a text (Free worker cpu object) read head listed good =
    let here = in_round a a.place good.stands head in
    let e : Event = record { line = a.count + 1; worker = worker; cpu = cpu; act = act.Free object } in
    event_listed a (after a (Free worker cpu object)) e listed refl refl refl refl (stays a (after a (Free worker cpu object)) refl refl refl)
    (record { worker = good.range.0; cpu = good.range.1; act = (good.range.2.0, any_within 0 object a.objects (one_known a object good.known)); idle = tt }) (sym (append-nil a.objects))
listed_after a text (Write worker object word value) read head listed good =
    let here = in_round a a.place good.stands head in
    let e : Event = record { line = a.count + 1; worker = worker; cpu = 0; act = act.Write word object value } in
    event_listed a (after a (Write worker object word value)) e listed refl refl refl refl (stays a (after a (Write worker object word value)) refl refl refl)
    (record { worker = good.range.0; cpu = omega (arith, here.0.cpus.0); act = (good.range.1.0, any_within 0 object a.objects (one_known a object good.known), good.range.2); idle = refl }) (sym (append-nil a.objects))
listed_after a text (Read worker object word) read head listed good =
    let here = in_round a a.place good.stands head in
    let e : Event = record { line = a.count + 1; worker = worker; cpu = 0; act = act.Read word object } in
    event_listed a (after a (Read worker object word)) e listed refl refl refl refl (stays a (after a (Read worker object word)) refl refl refl)
    (record { worker = good.range.0; cpu = omega (arith, here.0.cpus.0); act = (good.range.1.0, any_within 0 object a.objects (one_known a object good.known), good.range.2); idle = refl }) (sym (append-nil a.objects))
listed_after a text (Poke worker object negative offset byte) read head listed good =
    let here = in_round a a.place good.stands head in
    let e : Event = record { line = a.count + 1; worker = worker; cpu = 0; act = act.Poke object (offset_of negative offset) byte } in
    event_listed a (after a (Poke worker object negative offset byte)) e listed refl refl refl refl (stays a (after a (Poke worker object negative offset byte)) refl refl refl)
    (record { worker = good.range.0; cpu = omega (arith, here.0.cpus.0); act = (good.range.1.0, any_within 0 object a.objects (one_known a object good.known), offset_low negative offset (offset_small negative offset good.range.2), offset_high negative offset good.range.2); idle = refl }) (sym (append-nil a.objects))
listed_after a text (Trim worker name) read head listed good =
    let here = in_round a a.place good.stands.1 head in
    let e : Event = record { line = a.count + 1; worker = worker; cpu = 0; act = act.Trim (place_of name a.names) } in
    event_listed a (after a (Trim worker name)) e listed refl refl refl refl (stays a (after a (Trim worker name)) refl refl refl)
    (record { worker = good.range; cpu = omega (arith, here.0.cpus.0); act = found_within (bytes_eq name) a.names good.named; idle = refl }) (sym (append-nil a.objects))
listed_after a text (Flush worker cpu) read head listed good =
    let e : Event = record { line = a.count + 1; worker = worker; cpu = cpu; act = act.Flush } in
    event_listed a (after a (Flush worker cpu)) e listed refl refl refl refl (stays a (after a (Flush worker cpu)) refl refl refl)
    (record { worker = good.range.0; cpu = good.range.1; act = tt; idle = tt }) (sym (append-nil a.objects))
listed_after a text Done read head listed good = (let here = in_round a a.place good.stands head in done_listed a (after a Done) listed (ended_read a good.stands read) (here.1, here.2) refl refl refl (stays a (after a Done) refl refl refl) refl)
listed_after a text End read head listed good = (let here = subst (λ (p : Place). HeadAt p a) good.stands head in quiet_listed a (after a End) listed here.1 refl here.1 refl (stays a (after a End) refl refl refl) refl)

-- ---- all lines

-- what the lines so far keep
record IsSoFar (a : Above) : Type 0 where
  pub head : HeadAt a.place a
  pub wide : IsWide a
  pub listed : IsListed a
  pub read : IsRead a

so_far_start : IsSoFar start
unfolding HeadAt IsDistinct ReadAt
so_far_start = record {
  head = (refl, refl);
  wide = record { named = All-nil IsName; differ = tt; fewer = omega arith; least = omega arith; distinct = tt };
  listed = record { items = All-nil (IsSoundItem (trace_of start)); events = All-nil (IsSoundEvent (trace_of start) 0); same = refl; brief = omega arith };
  read = tt;
}

so_far_all : (a : Above) (bytes : List ℕ) (lines : List Line) → IsSoFar a → AreLines a bytes lines → IsSoFar (after_all a lines)
so_far_all a bytes [] so are = so
so_far_all a bytes (line ∷ lines) so are =
    so_far_all (after a line) are.1 lines
    (record { head = head_after a are.0 line so.head are.4; wide = wide_after a are.0 line so.wide are.4; listed = listed_after a are.0 line so.read so.head so.listed are.4; read = read_after a are.0 line so.read are.4 }) are.5

-- each line has a byte at least
count_all : (a : Above) (bytes : List ℕ) (lines : List Line) → AreLines a bytes lines → (after_all a lines).count ≤ a.count + length bytes
count_all a bytes [] are = omega arith
count_all a bytes (line ∷ lines) are =
    omega (arith, count_all (after a line) are.1 lines are.5, count_after a line, ap (λ bs. length bs) are.2, length-append are.0 (10 ∷ are.1))

-- after `end` there is a machine, and no round is open
ended_head : (a : Above) → HeadAt After a → IsHeaded a × (a.events ≡ [])
unfolding HeadAt
ended_head a head = head

-- a trace that bytes spell is sound
pub trace_sound : (bytes : List ℕ) (trace : Trace) → IsTrace bytes trace → IsSound trace
trace_sound bytes trace is =
    let a = after_all start is.lines in
    let so = so_far_all start bytes is.lines so_far_start is.are in
    let head = ended_head a (subst (λ (p : Place). HeadAt p a) is.ended so.head) in
    let count = count_all start bytes is.lines is.are in
    let objects : a.objects ≡ flat_map objects_in a.items = so.listed.same ∙ ap (λ es. flat_map objects_in a.items ++ objects_of es) head.1 ∙ append-nil (flat_map objects_in a.items) in
    let sound : IsSound (trace_of a) = record {
      version = head.0.version;
      frames = head.0.frames;
      cpus = head.0.cpus;
      tid = head.0.tid;
      objects = so.wide.least;
      few = omega (arith, so.wide.fewer, count, is.short);
      named = so.wide.named;
      differ = so.wide.differ;
      items = so.listed.items;
      distinct = subst (λ (os : List ℕ). IsDistinct nat_eq os) objects so.wide.distinct;
      brief = omega (arith, so.listed.brief, count, is.short);
    } in
    subst IsSound (sym is.gives) sound

-- the same of an answer
pub ok_sound : {E : Type 0} (bytes : List ℕ) (r : Result Trace E) → IfOk r (IsTrace bytes) → IfOk r IsSound
ok_sound bytes (Ok trace) is = trace_sound bytes trace is
ok_sound bytes (Err e) is = tt
