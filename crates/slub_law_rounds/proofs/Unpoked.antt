-- Where nothing is poked, the bytes that were put last are those of the word that was written last.
use Rattle.std.proofs.Common.{◌≡◌, ◌≢◌, ℕ, ◌^◌, ◌<◌, ◌&&◌, Bool, true, false, cond, eqb, List, [], ◌∷◌, length, get_or, refl, sym, ◌∙◌, ap, subst, arith, Option, Some, None, IfSome, MatchOption, IsSome, inl, inr, ◌⊎◌, fold, is_some}
use Rattle.std.specs.Prelude.{ℤ}
use Rattle.std.specs.Int.{from_le_bytes, to_le_bytes, w64}
use Rattle.std.specs.List.{Contains}
use Rattle.std.specs.Option.{option_map}
use Rattle.std.proofs.lemmas.List.{ext_get_or}
use Rattle.std.proofs.lemmas.List.Elements.{All-contains, All-head, All-tail, Contains-append_right}
use Rattle.std.proofs.lemmas.Nat.{from_le_bytes-to_le_bytes_8}
use Rattle.slub_trace.specs.declared.event.Act.{Act}
use Rattle.slub_trace.specs.declared.event.Act.TheVariants.{Write}
use Rattle.slub_trace.specs.declared.reply.Reply.TheVariants as reply
use Rattle.slub_red_zone.specs.State.{CheckedState}
use Rattle.slub_lists.specs.State.{State}
use Rattle.slub_lists.specs.Alloc.{checked_of}
use Rattle.slub_slabinfo_text.specs.Lawful.{is_by}
use Rattle.slub_law_rounds.specs.Answered.{Answered, AreUnpoked, byte_by_write, is_alloc_of, last_put, last_written, put_after, written_after, written_by}
use Rattle.slub_law_rounds.proofs.Runs.{splits}
use Rattle.slub_law_rounds.specs.Round.{IsByteAt, IsOfChecked, IsOwnBytes, IsOwnValue, IsPokedUnder, Spot, spot_by}

-- the byte of a word
abbrev byte-of : ℕ → ℕ → ℕ
byte-of place value = get_or (to_le_bytes w64 value) place 0

module _ (object word place : ℕ) where
  by-write : (w : Option ℕ) (a : Act) → byte_by_write object word place (option_map (byte-of place) w) a ≡ option_map (byte-of place) (written_by object word w a)
  by-write w (Write at other value) = pick (eqb other object && eqb at word)
    where
      pick : (b : Bool) → cond b (Some (byte-of place value)) (option_map (byte-of place) w) ≡ option_map (byte-of place) (cond b (Some value) w)
      pick true = refl
      pick false = refl
  by-write w a = refl

  put-one : (w : Option ℕ) (one : Answered) → one.1 ≢ reply.Poked → put_after object word place (option_map (byte-of place) w) one ≡ option_map (byte-of place) (written_after object word w one)
  put-one w (event, reply.Wrote) unpoked = by-write w event.act
  put-one w (event, reply.Poked) unpoked = absurd (unpoked refl)
  put-one w (event, reply.Given address) unpoked = pick (is_alloc_of object event.act)
    where
      pick : (b : Bool) → cond b None (option_map (byte-of place) w) ≡ option_map (byte-of place) (cond b None w)
      pick true = refl
      pick false = refl
  put-one w (event, answer) unpoked = refl

  put-all : (own : List Answered) (w : Option ℕ) → AreUnpoked own → fold (put_after object word place) (option_map (byte-of place) w) own ≡ option_map (byte-of place) (fold (written_after object word) w own)
  put-all [] w unpoked = refl
  put-all (one ∷ own) w unpoked =
      ap (λ x. fold (put_after object word place) x own) (put-one w one (All-head (λ one. one.1 ≢ reply.Poked) one own unpoked))
      ∙ put-all own (written_after object word w one) (All-tail (λ one. one.1 ≢ reply.Poked) one own unpoked)

-- no byte was poked under another number either
none-under : (before : State) (answers : List Answered) (object : ℕ) (at : ℤ) (byte : ℕ) → AreUnpoked answers → IsPokedUnder before answers object at byte → ⊥
none-under before answers object at byte unpoked poked =
    let at = splits (is_by poked.worker) answers poked.own poked.there.later poked.one poked.there.split in
    let there : Contains answers poked.one = subst (λ l. Contains l poked.one) (sym at.parts) (Contains-append_right at.before (poked.one ∷ at.behind) poked.one (0, omega arith, refl)) in
    All-contains (λ one. one.1 ≢ reply.Poked) answers poked.one unpoked there poked.done

module _ (before : State) (answers own : List Answered) (object word value written : ℕ) (unpoked : AreUnpoked answers) (mine : AreUnpoked own) (last : last_written object word own ≡ Some written) (small : written < 2 ^ 64) where
  of-bytes : IsOwnBytes before answers own object word value → value ≡ written
  of-bytes is =
      is.spelled ∙ ap (from_le_bytes w64) (ext_get_or 0 is.bytes (to_le_bytes w64 written) (is.eight ∙ eight) (λ place below. one place (omega (arith, below, is.eight)))) ∙ from_le_bytes-to_le_bytes_8 written small
    where
      eight : 8 ≡ length (to_le_bytes w64 written)
      eight = refl

      one : (place : ℕ) → place < 8 → get_or is.bytes place 0 ≡ byte-of place written
      one place below =
          let put : last_put object word place own ≡ Some (byte-of place written) = put-all object word place own None mine ∙ ap (option_map (byte-of place)) last in
          of-byte (subst (λ x. IfSome x (λ put. (get_or is.bytes place 0 ≡ put)
          ⊎ ((at : ℤ) × IsByteAt before object own word place at × IsPokedUnder before answers object at (get_or is.bytes place 0)))) put (is.each place below))
        where
          of-byte : (get_or is.bytes place 0 ≡ byte-of place written) ⊎ ((at : ℤ) × IsByteAt before object own word place at × IsPokedUnder before answers object at (get_or is.bytes place 0))
              → get_or is.bytes place 0 ≡ byte-of place written
          of-byte (inl same) = same
          of-byte (inr poked) = absurd (none-under before answers object poked.0 (get_or is.bytes place 0) unpoked poked.2)

  pub written-value : IsOwnValue before answers own object word value → value ≡ written
  written-value is = by (spot_by before object own) refl
    where
      plain : (¬ IsOfChecked before object own) → value ≡ written
      plain other = subst (λ x. IfSome x (λ written. value ≡ written)) last (is.unchecked other)

      decide : (spot : Spot) → spot_by before object own ≡ Some spot → (x : Option CheckedState) → checked_of before spot.cache ≡ x → value ≡ written
      decide spot e None none = plain (λ checked. (let some : IsSome (checked_of before spot.cache) = subst (λ x. MatchOption x ⊥ (λ spot. IsSome (checked_of before spot.cache))) e checked in (let never : true ≡ false = sym some ∙ ap is_some none in cc)))
      decide spot e (Some slabs) was = of-bytes (is.checked (subst (λ x. MatchOption x ⊥ (λ spot. IsSome (checked_of before spot.cache))) (sym e) (ap is_some was)))

      by : (x : Option Spot) → spot_by before object own ≡ x → value ≡ written
      by None e = plain (λ checked. subst (λ x. MatchOption x ⊥ (λ spot. IsSome (checked_of before spot.cache))) e checked)
      by (Some spot) e = decide spot e (checked_of before spot.cache) refl
