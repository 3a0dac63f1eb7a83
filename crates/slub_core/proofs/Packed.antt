-- A word that was packed says what was packed.
use Rattle.std.proofs.Common.{◌≡◌, ℕ, ◌+◌, ◌*◌, ◌/◌, ◌%◌, ◌^◌, ◌<◌, ◌≤◌, ◌==◌, Bool, true, false, arith}
use Rattle.std.proofs.lemmas.Bool.{eq-eqb, ne_eqb}
use Rattle.slub_words.specs.declared.cpu.CpuWord.{CpuWord}
use Rattle.slub_words.specs.declared.slab.SlabWord.{SlabWord}
use Rattle.slub_words.specs.Words.{cpu_bits, slab_bits, bit_if}
use Rattle.slub_cpu_partial.specs.declared.words.ListWord.{ListWord}
use Rattle.slub_cpu_partial.specs.Strings.{list_bits}
use Rattle.slub_core.specs.Words.{cpu_in, slab_in, list_in}
use Rattle.slub_core.specs.World.{one_if}

-- each field is below its end
abbrev pub IsCpuFit : CpuWord → Type 0
IsCpuFit c = (c.tid < 2 ^ 32) × (c.frame < 2 ^ 16) × (c.head < 2 ^ 16)

abbrev pub IsSlabFit : SlabWord → Type 0
IsSlabFit s = (s.head < 2 ^ 16) × (s.inuse < 2 ^ 16) × (s.objects < 2 ^ 16) × (s.cache < 2 ^ 8)

abbrev pub IsListFit : ListWord → Type 0
IsListFit c = (c.front < 2 ^ 16) × (c.count < 2 ^ 16)

pub cpu_in-bits : (c : CpuWord) → IsCpuFit c → cpu_in (cpu_bits c) ≡ c
unfolding cpu_in
cpu_in-bits c fit =
    let y = c.head + c.frame * 2 ^ 16 + c.tid * 2 ^ 32 in
    let t : y / 2 ^ 32 ≡ c.tid = omega (arith, fit) in
    let f : y / 2 ^ 16 % 2 ^ 16 ≡ c.frame = omega (arith, fit) in
    let h : y % 2 ^ 16 ≡ c.head = omega (arith, fit) in
    λ i. record { tid = t i; frame = f i; head = h i }

pub list_in-bits : (c : ListWord) → IsListFit c → list_in (list_bits c) ≡ c
unfolding list_in
list_in-bits c fit =
    let y = c.front + c.count * 2 ^ 16 in
    let f : y % 2 ^ 16 ≡ c.front = omega (arith, fit) in
    let n : y / 2 ^ 16 % 2 ^ 16 ≡ c.count = omega (arith, fit) in
    λ i. record { front = f i; count = n i }

bit_if-mark : (mark : Bool) (k : ℕ) → bit_if mark k ≡ one_if mark * 2 ^ k
bit_if-mark true k = omega arith
bit_if-mark false k = omega arith

one_if-le : (mark : Bool) → one_if mark ≤ 1
one_if-le true = omega arith
one_if-le false = omega arith

mark-read : (mark : Bool) (y : ℕ) → y ≡ one_if mark → (y == 1) ≡ mark
mark-read true y e = eq-eqb y 1 e
mark-read false y e = ne_eqb y 1 (λ d. absurd (omega (arith, e, d)))

pub slab_in-bits : (s : SlabWord) → IsSlabFit s → slab_in (slab_bits s) ≡ s
unfolding slab_in
slab_in-bits s fit =
    let y = slab_bits s in
    let a = one_if s.frozen in
    let b = one_if s.listed in
    let p = bit_if-mark s.frozen 48 in
    let q = bit_if-mark s.listed 49 in
    let u = one_if-le s.frozen in
    let v = one_if-le s.listed in
    let z : y ≡ s.head + s.inuse * 2 ^ 16 + s.objects * 2 ^ 32 + a * 2 ^ 48 + b * 2 ^ 49 + s.cache * 2 ^ 56 = omega arith in
    let e : y % 2 ^ 16 ≡ s.head = omega (arith, z, fit) in
    let f : y / 2 ^ 16 % 2 ^ 16 ≡ s.inuse = omega (arith, z, fit) in
    let g : y / 2 ^ 32 % 2 ^ 16 ≡ s.objects = omega (arith, z, fit) in
    let k : y / 2 ^ 48 % 2 ≡ a = omega (arith, z, fit, u, v) in
    let l : y / 2 ^ 49 % 2 ≡ b = omega (arith, z, fit, u, v) in
    let m : y / 2 ^ 56 % 2 ^ 8 ≡ s.cache = omega (arith, z, fit, u, v) in
    let k' = mark-read s.frozen _ k in
    let l' = mark-read s.listed _ l in
    λ i. record { head = e i; inuse = f i; objects = g i; frozen = k' i; listed = l' i; cache = m i }
