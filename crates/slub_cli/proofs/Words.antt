-- Words spell one command only.
use Rattle.std.proofs.Common.{◌≡◌, ℕ, ◌≤◌, List, [], ◌∷◌, ◌++◌, Bool, true, Some, None, refl, sym, ap, subst, ◌∙◌, drop, inl, inr, get_or, false, eqb, eq-eqb}
use Rattle.std.specs.Prelude.{Option, ◌⊎◌, codes, if◌then◌else◌}
use Rattle.std.proofs.lemmas.Bool.{false≢true}
use Rattle.std.specs.Str.Parse.{digits_value}
use Rattle.slub_object_layout.specs.declared.layout.Flags.{Flags}
use Rattle.slub_object_layout.specs.declared.layout.Spec.{Spec}
use Rattle.slub_command.specs.declared.command.How.{How}
use Rattle.slub_command.specs.declared.command.How.TheVariants.{Serial, Schedule, Threads}
use Rattle.slub_command.specs.declared.command.Command.{Command}
use Rattle.slub_command.specs.declared.command.Command.TheVariants.{Replay, Layout, Load}
use Rattle.slub_command.specs.Spelling.{Word, IsFlags, IsNumber, stands_in}
use Rattle.slub_command.specs.Options.{AreGiven, Given, IsGiven, IsHow, IsReplay, IsSeed, how_given, hows, how_word, listed, replies_given, seed_given, seeds, times_replies}
use Rattle.slub_command.specs.Command.{IsCommand, IsLayout, IsLoad}

-- numbers that differ are not the same
differ : (m n : ℕ) → eqb m n ≡ false → m ≡ n → ⊥
differ m n apart same = false≢true (sym apart ∙ eq-eqb m n same)

-- the first word, and the second
abbrev first : List Word → Word
first [] = []
first (word ∷ words) = word

abbrev second : List Word → Word
second [] = []
second (word ∷ words) = first words

-- ---- the options

-- the words begin with this option, and these follow
abbrev Begins : Given → List Word → List Word → Type 0
Begins (how_given value) rest words = (words ≡ codes "--how" ∷ value ∷ rest) ⊎ (words ≡ (codes "--how" ++ 61 ∷ value) ∷ rest)
Begins (seed_given value) rest words = (words ≡ codes "--seed" ∷ value ∷ rest) ⊎ (words ≡ (codes "--seed" ++ 61 ∷ value) ∷ rest)
Begins replies_given rest words = words ≡ codes "--replies" ∷ rest

begins : (g : Given) (front rest words : List Word) → words ≡ front ++ rest → IsGiven g front → Begins g rest words
begins (how_given value) front rest words is (inl given) = inl (is ∙ ap (λ l. l ++ rest) given)
begins (how_given value) front rest words is (inr given) = inr (is ∙ ap (λ l. l ++ rest) given)
begins (seed_given value) front rest words is (inl given) = inl (is ∙ ap (λ l. l ++ rest) given)
begins (seed_given value) front rest words is (inr given) = inr (is ∙ ap (λ l. l ++ rest) given)
begins replies_given front rest words is given = is ∙ ap (λ l. l ++ rest) given

-- the letter behind the two hyphens
abbrev letter : List Word → ℕ
letter words = get_or (first words) 2 0

abbrev mark : Given → ℕ
mark (how_given value) = 104
mark (seed_given value) = 115
mark replies_given = 114

marked : (g : Given) (rest words : List Word) → Begins g rest words → letter words ≡ mark g
marked (how_given value) rest words (inl is) = ap (λ l. get_or (first l) 2 0) is
marked (how_given value) rest words (inr is) = ap (λ l. get_or (first l) 2 0) is
marked (seed_given value) rest words (inl is) = ap (λ l. get_or (first l) 2 0) is
marked (seed_given value) rest words (inr is) = ap (λ l. get_or (first l) 2 0) is
marked replies_given rest words is = ap (λ l. get_or (first l) 2 0) is

unmarked : (g : Given) → 0 ≡ mark g → ⊥
unmarked (how_given value) is = differ 0 104 refl is
unmarked (seed_given value) is = differ 0 115 refl is
unmarked replies_given is = differ 0 114 refl is

-- no option stands where no word is left
none_given : (g : Given) (rest words : List Word) → Begins g rest words → words ≡ [] → ⊥
none_given g rest words given none = unmarked g (sym (ap (λ l. get_or (first l) 2 0) none) ∙ marked g rest words given)

-- a value in the next word is none after `=`
apart_at : (n : ℕ) (xs ys : List Word) → xs ≡ ys → get_or (first xs) n 0 ≡ 0 → get_or (first ys) n 0 ≡ 61 → ⊥
apart_at n xs ys same a b = absurd (differ 0 61 refl (sym a ∙ ap (λ l. get_or (first l) n 0) same ∙ b))

-- words begin with one option only
same_given : (g h : Given) (rest other words : List Word) → Begins g rest words → Begins h other words → (g ≡ h) × (rest ≡ other)
same_given (how_given v) (how_given w) rest other words (inl a) (inl b) = (ap how_given (ap second (sym a ∙ b)), ap (drop 2) (sym a ∙ b))
same_given (how_given v) (how_given w) rest other words (inl a) (inr b) = absurd (apart_at 5 _ _ (sym a ∙ b) refl refl)
same_given (how_given v) (how_given w) rest other words (inr a) (inl b) = absurd (apart_at 5 _ _ (sym b ∙ a) refl refl)
same_given (how_given v) (how_given w) rest other words (inr a) (inr b) = (ap how_given (ap (λ l. drop 6 (first l)) (sym a ∙ b)), ap (drop 1) (sym a ∙ b))
same_given (seed_given v) (seed_given w) rest other words (inl a) (inl b) = (ap seed_given (ap second (sym a ∙ b)), ap (drop 2) (sym a ∙ b))
same_given (seed_given v) (seed_given w) rest other words (inl a) (inr b) = absurd (apart_at 6 _ _ (sym a ∙ b) refl refl)
same_given (seed_given v) (seed_given w) rest other words (inr a) (inl b) = absurd (apart_at 6 _ _ (sym b ∙ a) refl refl)
same_given (seed_given v) (seed_given w) rest other words (inr a) (inr b) = (ap seed_given (ap (λ l. drop 7 (first l)) (sym a ∙ b)), ap (drop 1) (sym a ∙ b))
same_given replies_given replies_given rest other words a b = (refl, ap (drop 1) (sym a ∙ b))
same_given (how_given v) (seed_given w) rest other words a b = absurd (differ 104 115 refl (sym (marked (how_given v) rest words a) ∙ marked (seed_given w) other words b))
same_given (how_given v) replies_given rest other words a b = absurd (differ 104 114 refl (sym (marked (how_given v) rest words a) ∙ marked replies_given other words b))
same_given (seed_given v) (how_given w) rest other words a b = absurd (differ 115 104 refl (sym (marked (seed_given v) rest words a) ∙ marked (how_given w) other words b))
same_given (seed_given v) replies_given rest other words a b = absurd (differ 115 114 refl (sym (marked (seed_given v) rest words a) ∙ marked replies_given other words b))
same_given replies_given (how_given w) rest other words a b = absurd (differ 114 104 refl (sym (marked replies_given rest words a) ∙ marked (how_given w) other words b))
same_given replies_given (seed_given w) rest other words a b = absurd (differ 114 115 refl (sym (marked replies_given rest words a) ∙ marked (seed_given w) other words b))

-- words give one list of options only
all_given : (gs hs : List Given) (words : List Word) → AreGiven gs words → AreGiven hs words → gs ≡ hs
all_given [] [] words a b = refl
all_given [] (h ∷ hs) words a (front, rest, is, given, more) = absurd (none_given h rest words (begins h front rest words is given) a)
all_given (g ∷ gs) [] words (front, rest, is, given, more) b = absurd (none_given g rest words (begins g front rest words is given) b)
all_given (g ∷ gs) (h ∷ hs) words (front, rest, is, given, more) (front2, rest2, is2, given2, more2) =
    let p = same_given g h rest rest2 words (begins g front rest words is given) (begins h front2 rest2 words is2 given2) in
    ap (λ x. x ∷ gs) p.0 ∙ ap (λ l. h ∷ l) (all_given gs hs rest more (subst (λ l. AreGiven hs l) (sym p.1) more2))

-- a way has one word
same_word : (a b : How) → how_word a ≡ how_word b → a ≡ b
same_word Serial Serial is = refl
same_word Schedule Schedule is = refl
same_word Threads Threads is = refl
same_word Serial Schedule is = absurd (differ 101 99 refl (ap (λ l. get_or l 1 0) is))
same_word Serial Threads is = absurd (differ 101 104 refl (ap (λ l. get_or l 1 0) is))
same_word Schedule Serial is = absurd (differ 99 101 refl (ap (λ l. get_or l 1 0) is))
same_word Schedule Threads is = absurd (differ 99 104 refl (ap (λ l. get_or l 1 0) is))
same_word Threads Serial is = absurd (differ 104 101 refl (ap (λ l. get_or l 1 0) is))
same_word Threads Schedule is = absurd (differ 104 99 refl (ap (λ l. get_or l 1 0) is))

same_how : (a b : Option Word) (x y : How) → listed a ≡ listed b → IsHow a x → IsHow b y → x ≡ y
same_how None None x y is p q = p ∙ sym q
same_how None (Some w) x y is p q = absurd (let e : [] ≡ w ∷ [] = is in cc)
same_how (Some v) None x y is p q = absurd (let e : v ∷ [] ≡ [] = is in cc)
same_how (Some v) (Some w) x y is p q = same_word x y (sym p ∙ ap first is ∙ q)

same_number : (least most : ℕ) (v w : Word) (m n : ℕ) → v ≡ w → IsNumber least most v m → IsNumber least most w n → m ≡ n
same_number least most v w m n same p q = p.writes.value ∙ ap (digits_value 10) same ∙ sym q.writes.value

same_seed : (a b : Option Word) (m n : ℕ) → listed a ≡ listed b → IsSeed a m → IsSeed b n → m ≡ n
same_seed None None m n is p q = p ∙ sym q
same_seed None (Some w) m n is p q = absurd (let e : [] ≡ w ∷ [] = is in cc)
same_seed (Some v) None m n is p q = absurd (let e : v ∷ [] ≡ [] = is in cc)
same_seed (Some v) (Some w) m n is p q = same_number 0 18446744073709551615 v w m n (ap first is) p q

-- once, or not at all
abbrev once_if : Bool → ℕ
once_if b = if b then 1 else 0

same_times : (b d : Bool) → once_if b ≡ once_if d → b ≡ d
same_times true true is = refl
same_times true false is = absurd (differ 1 0 refl is)
same_times false true is = absurd (differ 0 1 refl is)
same_times false false is = refl

-- words of a replay say one way, one seed, and `--replies` or not
one_replay : (words : List Word) (x y : How) (m n : ℕ) (b d : Bool) → IsReplay words x m b → IsReplay words y n d → (x ≡ y) × (m ≡ n) × (b ≡ d)
one_replay words x y m n b d p q =
    let same = all_given p.options.given q.options.given words p.options.spelled q.options.spelled in (
      same_how p.how_text q.how_text x y (sym p.options.how_once ∙ ap hows same ∙ q.options.how_once) p.how_is q.how_is,
      same_seed p.seed_text q.seed_text m n (sym p.options.seed_once ∙ ap seeds same ∙ q.options.seed_once) p.seed_is q.seed_is,
      same_times b d (sym p.options.replies_once ∙ ap times_replies same ∙ q.options.replies_once),
    )

-- ---- the layout

-- what the four words of a layout say
record Says (size_word align_word flags_word cpus_word : Word) (spec : Spec) (cpus : ℕ) : Type 0 where
  size_is : IsNumber 0 4294967295 size_word spec.size
  align_is : IsNumber 0 4294967295 align_word spec.align
  flags_is : IsFlags flags_word spec.flags
  cpus_is : IsNumber 1 16 cpus_word cpus

says : (words : List Word) (spec : Spec) (cpus : ℕ) (l : IsLayout words spec cpus) → Says l.size_word l.align_word l.flags_word l.cpus_word spec cpus
says words spec cpus l = record { size_is = l.say.size_is; align_is = l.say.align_is; flags_is = l.say.flags_is; cpus_is = l.say.cpus_is }

abbrev flags_of : Bool → Bool → Bool → Bool → Bool → Bool → Bool → Bool → Flags
flags_of a b c d e f g h = record { line = a; reclaim = b; checks = c; zones = d; poison = e; user = f; trace = g; fail = h }

flags_same : (a b c d e f g h a2 b2 c2 d2 e2 f2 g2 h2 : Bool) → a ≡ a2 → b ≡ b2 → c ≡ c2 → d ≡ d2 → e ≡ e2 → f ≡ f2 → g ≡ g2 → h ≡ h2 → flags_of a b c d e f g h ≡ flags_of a2 b2 c2 d2 e2 f2 g2 h2
flags_same a b c d e f g h a2 b2 c2 d2 e2 f2 g2 h2 p1 p2 p3 p4 p5 p6 p7 p8 = rw (p1, p2, p3, p4, p5, p6, p7, p8) refl

abbrev spec_of : ℕ → ℕ → Flags → Spec
spec_of size align flags = record { size = size; align = align; flags = flags }

spec_same : (a b : ℕ) (c : Flags) (a2 b2 : ℕ) (c2 : Flags) → a ≡ a2 → b ≡ b2 → c ≡ c2 → spec_of a b c ≡ spec_of a2 b2 c2
spec_same a b c a2 b2 c2 p q r = rw (p, q, r) refl

same_flags : (v w : Word) (f g : Flags) → v ≡ w → IsFlags v f → IsFlags w g → f ≡ g
same_flags v w f g same p q =
    let bit : (c : ℕ) → stands_in c v ≡ stands_in c w = λ c. ap (λ l. stands_in c l) same in
    let line : f.line ≡ g.line = p.line ∙ bit 72 ∙ sym q.line in
    let reclaim : f.reclaim ≡ g.reclaim = p.reclaim ∙ bit 82 ∙ sym q.reclaim in
    let checks : f.checks ≡ g.checks = p.checks ∙ bit 70 ∙ sym q.checks in
    let zones : f.zones ≡ g.zones = p.zones ∙ bit 90 ∙ sym q.zones in
    let poison : f.poison ≡ g.poison = p.poison ∙ bit 80 ∙ sym q.poison in
    let user : f.user ≡ g.user = p.user ∙ bit 85 ∙ sym q.user in
    let trace : f.trace ≡ g.trace = p.trace ∙ bit 84 ∙ sym q.trace in
    let fail : f.fail ≡ g.fail = p.fail ∙ bit 65 ∙ sym q.fail in
    flags_same f.line f.reclaim f.checks f.zones f.poison f.user f.trace f.fail g.line g.reclaim g.checks g.zones g.poison g.user g.trace g.fail line reclaim checks zones poison user trace fail

-- words of a layout say one only
pub one_layout : (words : List Word) (spec other : Spec) (cpus more : ℕ) → IsCommand words (Layout spec cpus) → IsCommand words (Layout other more) → (spec ≡ other) × (cpus ≡ more)
one_layout [] spec other cpus more p q = absurd p
one_layout (name ∷ words) spec other cpus more (named, p) (again, q) =
    let a = says words spec cpus p in
    let b = says words other more q in
    let e = sym p.places ∙ q.places in
    let size : spec.size ≡ other.size = same_number 0 4294967295 p.size_word q.size_word spec.size other.size (ap first e) a.size_is b.size_is in
    let align : spec.align ≡ other.align = same_number 0 4294967295 p.align_word q.align_word spec.align other.align (ap second e) a.align_is b.align_is in
    let flags : spec.flags ≡ other.flags = same_flags p.flags_word q.flags_word spec.flags other.flags (ap (λ l. first (drop 2 l)) e) a.flags_is b.flags_is in
    (spec_same spec.size spec.align spec.flags other.size other.align other.flags size align flags, same_number 1 16 p.cpus_word q.cpus_word cpus more (ap (λ l. first (drop 3 l)) e) a.cpus_is b.cpus_is)

-- a layout is for 1 to 16 CPUs
pub few_cpus : (words : List Word) (spec : Spec) (cpus : ℕ) → IsCommand words (Layout spec cpus) → (1 ≤ cpus) × (cpus ≤ 16)
few_cpus [] spec cpus p = absurd p
few_cpus (name ∷ words) spec cpus (named, p) = let a = says words spec cpus p in (a.cpus_is.least_of, a.cpus_is.most_of)

-- ---- the names

-- a replay is no layout, and neither is a load
pub replay_apart : (words : List Word) (how : How) (seed : ℕ) (replies : Bool) (spec : Spec) (cpus : ℕ) → IsCommand words (Replay how seed replies) → IsCommand words (Layout spec cpus) → ⊥
replay_apart [] how seed replies spec cpus p q = absurd p
replay_apart (name ∷ words) how seed replies spec cpus (named, p) (again, q) = absurd (differ 114 108 refl (ap (λ l. get_or l 0 0) (sym named ∙ again)))

pub load_apart : (words : List Word) (how : How) (seed : ℕ) (replies : Bool) (m events workers : ℕ) → IsCommand words (Replay how seed replies) → IsCommand words (Load m events workers) → ⊥
load_apart [] how seed replies m events workers p q = absurd p
load_apart (name ∷ words) how seed replies m events workers (named, p) (again, q) = absurd (differ 114 108 refl (ap (λ l. get_or l 0 0) (sym named ∙ again)))

pub layout_apart : (words : List Word) (spec : Spec) (cpus m events workers : ℕ) → IsCommand words (Layout spec cpus) → IsCommand words (Load m events workers) → ⊥
layout_apart [] spec cpus m events workers p q = absurd p
layout_apart (name ∷ words) spec cpus m events workers (named, p) (again, q) = absurd (differ 97 111 refl (ap (λ l. get_or l 1 0) (sym named ∙ again)))

pub same_replay : (words : List Word) (x y : How) (m n : ℕ) (b d : Bool) → IsCommand words (Replay x m b) → IsCommand words (Replay y n d) → x ≡ y
same_replay [] x y m n b d p q = absurd p
same_replay (name ∷ words) x y m n b d (named, p) (again, q) = (one_replay words x y m n b d p q).0

-- ---- one command

-- words of a load say one
one_load : (words : List Word) (m n events more workers crew : ℕ) → IsLoad words m events workers → IsLoad words n more crew → (m ≡ n) × (events ≡ more) × (workers ≡ crew)
one_load words m n events more workers crew p q =
    let e = sym p.places ∙ q.places in (
      same_number 0 18446744073709551615 p.seed_word q.seed_word m n (ap first e) p.say.seed_is q.say.seed_is,
      same_number 0 500000 p.events_word q.events_word events more (ap second e) p.say.events_is q.say.events_is,
      same_number 1 16 p.workers_word q.workers_word workers crew (ap (λ l. first (drop 2 l)) e) p.say.workers_is q.say.workers_is,
    )

replay_same : (x y : How) (m n : ℕ) (b d : Bool) → (x ≡ y) × (m ≡ n) × (b ≡ d) → Replay x m b ≡ Replay y n d
replay_same x y m n b d is = λ i. Replay (is.0 i) (is.1 i) (is.2 i)

load_same : (m n events more workers crew : ℕ) → (m ≡ n) × (events ≡ more) × (workers ≡ crew) → Load m events workers ≡ Load n more crew
load_same m n events more workers crew is = λ i. Load (is.0 i) (is.1 i) (is.2 i)

layout_same : (spec other : Spec) (cpus more : ℕ) → (spec ≡ other) × (cpus ≡ more) → Layout spec cpus ≡ Layout other more
layout_same spec other cpus more is = λ i. Layout (is.0 i) (is.1 i)

-- words spell one command
pub one_command : (words : List Word) (one other : Command) → IsCommand words one → IsCommand words other → one ≡ other
one_command [] one other p q = absurd p
one_command (name ∷ words) (Replay x m b) (Replay y n d) p q = replay_same x y m n b d (one_replay words x y m n b d p.1 q.1)
one_command (name ∷ words) (Replay x m b) (Layout spec cpus) p q = absurd (replay_apart (name ∷ words) x m b spec cpus p q)
one_command (name ∷ words) (Replay x m b) (Load n more crew) p q = absurd (load_apart (name ∷ words) x m b n more crew p q)
one_command (name ∷ words) (Layout spec cpus) (Replay y n d) p q = absurd (replay_apart (name ∷ words) y n d spec cpus q p)
one_command (name ∷ words) (Layout spec cpus) (Layout other more) p q = layout_same spec other cpus more (one_layout (name ∷ words) spec other cpus more p q)
one_command (name ∷ words) (Layout spec cpus) (Load n more crew) p q = absurd (layout_apart (name ∷ words) spec cpus n more crew p q)
one_command (name ∷ words) (Load m events workers) (Replay y n d) p q = absurd (load_apart (name ∷ words) y n d m events workers q p)
one_command (name ∷ words) (Load m events workers) (Layout spec cpus) p q = absurd (layout_apart (name ∷ words) spec cpus m events workers q p)
one_command (name ∷ words) (Load m events workers) (Load n more crew) p q = load_same m n events more workers crew (one_load words m n events more workers crew p.1 q.1)

-- ---- what was read

-- the words ask for a replay
pub replayed : (words : List Word) (command : Command) (how : How) (seed : ℕ) (replies : Bool) → IsCommand words command → command ≡ Replay how seed replies → IsCommand words (Replay how seed replies)
replayed words command how seed replies asked is = subst (λ x. IsCommand words x) is asked

-- a load is of few events and few workers
pub few_load : (words : List Word) (seed events workers : ℕ) → IsCommand words (Load seed events workers) → (events ≤ 500000) × (1 ≤ workers) × (workers ≤ 16)
few_load [] seed events workers p = absurd p
few_load (name ∷ words) seed events workers (named, p) = (p.say.events_is.most_of, p.say.workers_is.least_of, p.say.workers_is.most_of)
