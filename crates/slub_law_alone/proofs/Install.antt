-- The end of an allocation that has a slab with a chain in hand: the first object's free pointer is loaded, then the CPU word again, and the slab becomes current.
use Rattle.std.proofs.Common.{◌≡◌, ℕ, ◌+◌, ◌-◌, ◌%◌, ◌^◌, ◌<◌, eqb, cond, Bool, true, false, List, ◌∷◌, length, get_or, set, None, inl, inr, refl, ap, sym, ◌∙◌}
use Rattle.std.proofs.lemmas.Bool.{cases_eq, eq-eqb, ne_eqb}
use Rattle.std.proofs.lemmas.List.{set-get_or}
use Rattle.slub_trace.specs.declared.reply.Reply.{Reply}
use Rattle.slub_trace.specs.declared.reply.Reply.TheVariants.{Given}
use Rattle.slub_object_layout.specs.Layout.{address_of}
use Rattle.slub_words.specs.declared.cpu.CpuWord.{CpuWord}
use Rattle.slub_words.specs.Words.{cpu_bits}
use Rattle.slub_core.specs.declared.local.Hand.{Hand}
use Rattle.slub_core.specs.declared.local.Known.{Known}
use Rattle.slub_core.specs.declared.spot.Spot.TheVariants.{Between, InAlloc}
use Rattle.slub_core.specs.declared.spot.AllocSpot.TheVariants.{LoadReady, LoadAgain, Install}
use Rattle.slub_core.specs.declared.step.Step.{Step}
use Rattle.slub_core.specs.declared.step.Answer.{Answer}
use Rattle.slub_core.specs.declared.step.Answer.TheVariants.{Word, Won, Lost}
use Rattle.slub_core.specs.declared.step.Op.TheVariants.{Load, Exchange}
use Rattle.slub_core.specs.declared.step.Place.TheVariants.{CpuOf, MemoryOf}
use Rattle.slub_core.specs.Setup.{Setup, pointer_at, hardened}
use Rattle.slub_core.specs.Words.{cpu_in, cpu_base, memory_base}
use Rattle.slub_core.specs.World.{LockValue}
use Rattle.slub_core.specs.Local.{Local, Turn, nobody, hand_from, answered, goes}
use Rattle.slub_core.specs.Ops.{own_cpu}
use Rattle.slub_core.specs.Alloc.{is_spent, second_of, walked_on, way_of_again, told_of_word}
use Rattle.slub_core.specs.Steps.{rested}
use Rattle.slub_core.specs.Run.{turn}
use Rattle.slub_core.proofs.Packed.{IsCpuFit, cpu_in-bits}
use Rattle.slub_law_alone.specs.Alone.{own_pick, alone}
use Rattle.slub_law_alone.proofs.Turns.{machine, turn_goes, settle_goes, settle_tells, then_turn}

-- a slab in hand whose first object leads to this one
abbrev pub hand_with : ℕ → ℕ → ℕ → Hand
hand_with f h next = record { frame = f; head = h; last = cond (eqb next 0) h next; length = cond (eqb next 0) 1 2; walked = eqb next 0 }

walked_hand : (f h next : ℕ) → walked_on (hand_from f h) next ≡ hand_with f h next
walked_hand f h next = by (eqb next 0)
  where
    by : (z : Bool) → cond {A = Hand} z (record { frame = f; head = h; last = h; length = 1; walked = true }) (record { frame = f; head = h; last = next; length = 2; walked = false }) ≡ record { frame = f; head = h; last = cond z h next; length = cond z 1 2; walked = z }
    by true = refl
    by false = refl

second_hand : (f h next : ℕ) → second_of (hand_with f h next) ≡ next
second_hand f h next = elim (cases_eq next 0) [
  | inl e ↦ ap (λ z. cond {A = ℕ} (eqb (cond z 1 2) 2) (cond z h next) 0) (eq-eqb next 0 e) ∙ sym e
  | inr d ↦ ap (λ z. cond {A = ℕ} (eqb (cond z 1 2) 2) (cond z h next) 0) (ne_eqb next 0 d)
]

module _ (m : Setup) (words : List ℕ) (value : ℕ → LockValue) (ls : List Local) (x : ℕ) (l : Local) (hands : List Hand) (f h : ℕ) (d : CpuWord) where
  abbrev pub n : ℕ
  n = own_cpu l

  abbrev pub p : ℕ
  p = pointer_at m l.cache f (h - 1)

  abbrev pub follows : ℕ
  follows = hardened l.cache p (get_or words (memory_base m + p) 0) % 2 ^ 16

  abbrev pub ready : Local
  ready = record l { spot = InAlloc LoadReady; hands = hand_from f h ∷ hands }

  abbrev walked : Local
  walked = record l { spot = InAlloc LoadAgain; hands = hand_with f h follows ∷ hands }

  abbrev again : Local
  again = record l { spot = InAlloc Install; hands = hand_with f h follows ∷ hands; cpu_word = d }

  abbrev pub known : Known
  known = record { object = (get_or l.known l.place nobody).object; frame = f; index = h - 1; cache = l.cache; held = true }

  abbrev pub has : Local
  has = record l { spot = Between; hands = hands; cpu_word = d; known = set l.known l.place known }

  abbrev pub reply : Reply
  reply = Given (address_of f (h - 1) (m.layout l.cache))

  abbrev pub told : Local
  told = answered has reply

  abbrev pub v : CpuWord
  v = record { tid = d.tid + m.step; frame = f; head = follows }

  abbrev pub installed : List ℕ
  installed = set words (cpu_base + n) (cpu_bits v)

  pub install_turns : x < length ls → get_or words (cpu_base + n) 0 ≡ cpu_bits d → IsCpuFit d → d.frame ≡ 0 → is_spent m d ≡ false → alone m x 3 (machine words value (set ls x ready)) ≡ machine installed value (set ls x (rested m told))
  install_turns below reads fit bare unspent =
      then_turn m x 2 (machine words value (set ls x ready)) (machine words value (set ls x walked)) (machine installed value (set ls x (rested m told))) turn1
      (then_turn m x 1 (machine words value (set ls x walked)) (machine words value (set ls x again)) (machine installed value (set ls x (rested m told))) turn2
      (then_turn m x 0 (machine words value (set ls x again)) (machine installed value (set ls x (rested m told))) (machine installed value (set ls x (rested m told))) turn3 refl))
    where
      turn1 : turn m (machine words value (set ls x ready)) (own_pick x) ≡ machine words value (set ls x walked)
      turn1 = turn_goes m words words value ls x ready ready walked (record { place = MemoryOf p; op = Load }) (Word (get_or words (memory_base m + p) 0)) below refl refl (set-get_or words (memory_base m + p) 0) refl
          (settle_goes m value ready walked (Word (get_or words (memory_base m + p) 0)) (ap (λ hand. goes (record l { spot = InAlloc LoadAgain; hands = hand ∷ hands })) (walked_hand f h follows)) refl refl)

      by_word : CpuWord → Turn
      by_word z = record { local = record walked { cpu_word = z; spot = way_of_again m (hand_with f h follows) z }; reply = told_of_word m false z }

      way : way_of_again m (hand_with f h follows) d ≡ InAlloc Install
      way = rw (unspent, eq-eqb d.frame 0 bare) refl

      says : told_of_word m false d ≡ None
      says = rw unspent refl

      word : cpu_in (get_or words (cpu_base + n) 0) ≡ d
      word = ap cpu_in reads ∙ cpu_in-bits d fit

      turn2 : turn m (machine words value (set ls x walked)) (own_pick x) ≡ machine words value (set ls x again)
      turn2 = turn_goes m words words value ls x walked walked again (record { place = CpuOf n; op = Load }) (Word (get_or words (cpu_base + n) 0)) below refl refl (set-get_or words (cpu_base + n) 0) refl
          (settle_goes m value walked again (Word (get_or words (cpu_base + n) 0)) (ap by_word word ∙ (λ i. record { local = record walked { cpu_word = d; spot = way i }; reply = says i })) refl refl)

      to_step : ℕ → Step
      to_step to = record { place = CpuOf n; op = Exchange (cpu_bits d) to }

      hit : eqb (get_or words (cpu_base + n) 0) (cpu_bits d) ≡ true
      hit = eq-eqb (get_or words (cpu_base + n) 0) (cpu_bits d) reads

      second : cpu_bits (record { tid = d.tid + m.step; frame = f; head = second_of (hand_with f h follows) }) ≡ cpu_bits v
      second = ap (λ z. cpu_bits (record { tid = d.tid + m.step; frame = f; head = z })) (second_hand f h follows)

      turn3 : turn m (machine words value (set ls x again)) (own_pick x) ≡ machine installed value (set ls x (rested m told))
      turn3 = turn_goes m words installed value ls x again again (rested m told) (record { place = CpuOf n; op = Exchange (cpu_bits d) (cpu_bits v) }) Won below refl (ap to_step second)
          (ap (λ z. set words (cpu_base + n) (cond {A = ℕ} z (cpu_bits v) (get_or words (cpu_base + n) 0))) hit) (ap (λ z. cond {A = Answer} z Won (Lost (get_or words (cpu_base + n) 0))) hit) (settle_tells m value again has Won reply refl refl)
