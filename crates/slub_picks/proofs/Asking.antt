-- Options, put together one after the other.
use Rattle.std.proofs.Common.{◌≡◌, ℕ, ◌+◌, ◌<◌, Bool, true, false, suc, Option, Some, None, List, [], ◌∷◌, ◌++◌, length, refl, sym, ap, ◌∙◌, subst, arith, append-nil, codes}
use Rattle.std.specs.Option.{is_some}
use Rattle.slub_picks.specs.declared.words.Asked.{Asked}
use Rattle.slub_picks.specs.declared.words.Request.{Request}
use Rattle.slub_picks.specs.declared.words.Said.{Said}
use Rattle.slub_picks.specs.declared.words.Said.TheVariants as said
use Rattle.slub_picks.specs.declared.words.Way.{Way}
use Rattle.slub_picks.specs.Spelling.{Word}
use Rattle.slub_picks.specs.Words.{AreSaid, AskFor, Begins, IsRequest, IsWay, listed, pages, rounds, ways}
use Rattle.slub_picks.specs.Asked.{AskOn, CannotPut, Puts, request_of, times, way_of}
use Rattle.slub_picks.proofs.Options.{begins_once, begins_some, same_tails}

-- so far these options are read, and the rest of the words is to be read
pub record IsAskedTo (words rest : List Word) (asked : Asked) : Type 0 where
  pub sound : (request : Request) → AskOn asked rest request → AskFor words request
  pub only : (request : Request) → AskFor words request → AskOn asked rest request

pub asked_nothing : (words : List Word) (asked : Asked) → asked.way ≡ None → asked.round ≡ None → asked.page ≡ false → IsAskedTo words words asked
asked_nothing words asked way round page = record {
  sound = λ request on. record {
    options = on.options;
    said = on.said;
    way = subst (λ (w : Option Way). IsWay (listed w ++ ways on.options) request.way) way on.way;
    round = subst (λ (r : Option ℕ). listed r ++ rounds on.options ≡ listed request.round) round on.round;
    page = let e : times asked.page ≡ 0 = ap times page in omega (arith, e, on.page);
  };
  only = λ request for. record {
    options = for.options;
    said = for.said;
    way = subst (λ (w : Option Way). IsWay (listed w ++ ways for.options) request.way) (sym way) for.way;
    round = subst (λ (r : Option ℕ). listed r ++ rounds for.options ≡ listed request.round) (sym round) for.round;
    page = let e : times asked.page ≡ 0 = ap times page in omega (arith, e, for.page);
  };
}

-- ---- one more option

-- what it adds to the ways, the rounds and the pages
put_ways : (one : Said) (old new : Asked) (others : List Said) → Puts one old new → listed old.way ++ ways (one ∷ others) ≡ listed new.way ++ ways others
put_ways (said.Way way) old new others puts = rw (puts.0, puts.1) refl
put_ways (said.Round n) old new others puts = rw puts.2 refl
put_ways said.Page old new others puts = rw puts.2 refl

put_rounds : (one : Said) (old new : Asked) (others : List Said) → Puts one old new → listed old.round ++ rounds (one ∷ others) ≡ listed new.round ++ rounds others
put_rounds (said.Way way) old new others puts = rw puts.2 refl
put_rounds (said.Round n) old new others puts = rw (puts.0, puts.1) refl
put_rounds said.Page old new others puts = rw puts.3 refl

put_pages : (one : Said) (old new : Asked) (others : List Said) → Puts one old new → times old.page + pages (one ∷ others) ≡ times new.page + pages others
put_pages (said.Way way) old new others puts = rw puts.3 refl
put_pages (said.Round n) old new others puts = rw puts.3 refl
put_pages said.Page old new others puts = rw (puts.0, puts.1) (omega arith)

-- options behind it, where the words begin with it
others_of : (one : Said) (words behind : List Word) (options : List Said) → Begins one words behind → AreSaid options words → (others : List Said) × (options ≡ one ∷ others) × AreSaid others behind
others_of one words behind [] begins are = absurd (begins_some one words behind begins are)
others_of one words behind (other ∷ others) begins are =
    let same = begins_once one other words behind are.0 begins are.1 in
    (others, ap (λ (o : Said). o ∷ others) (sym same.0), subst (λ (ws : List Word). AreSaid others ws) (sym same.1) are.2)

pub asked_more : (words rest behind : List Word) (one : Said) (old new : Asked) → IsAskedTo words rest old → Begins one rest behind → Puts one old new → IsAskedTo words behind new
asked_more words rest behind one old new before begins puts = record {
  sound = λ request on. before.sound request (record {
    options = one ∷ on.options;
    said = (behind, begins, on.said);
    way = subst (λ (ws : List Way). IsWay ws request.way) (sym (put_ways one old new on.options puts)) on.way;
    round = put_rounds one old new on.options puts ∙ on.round;
    page = put_pages one old new on.options puts ∙ on.page;
  });
  only = λ request for.
      let on = before.only request for in
      let more = others_of one rest behind on.options begins on.said in
      record {
        options = more.0;
        said = more.2;
        way = subst (λ (ws : List Way). IsWay ws request.way) (ap (λ (os : List Said). listed old.way ++ ways os) more.1 ∙ put_ways one old new more.0 puts) on.way;
        round = sym (ap (λ (os : List Said). listed old.round ++ rounds os) more.1 ∙ put_rounds one old new more.0 puts) ∙ on.round;
        page = sym (ap (λ (os : List Said). times old.page + pages os) more.1 ∙ put_pages one old new more.0 puts) ∙ on.page;
      };
}

-- ---- an option twice

twice : (one : Said) (old : Asked) (others : List Said) (request : Request) → CannotPut one old → IsWay (listed old.way ++ ways (one ∷ others)) request.way → listed old.round ++ rounds (one ∷ others) ≡ listed request.round
    → times old.page + pages (one ∷ others) ≡ times request.page → ⊥
twice (said.Way way) old others request cannot is round page = some old.way cannot is
  where
    some : (was : Option Way) → is_some was ≡ true → IsWay (listed was ++ way ∷ ways others) request.way → ⊥
    some None never is = absurd (let no : ⊥ = cc in no)
    some (Some x) never is = is
twice (said.Round n) old others request cannot is round page = some old.round request.round cannot round
  where
    some : (was now : Option ℕ) → is_some was ≡ true → listed was ++ n ∷ rounds others ≡ listed now → ⊥
    some None now never is = absurd (let no : ⊥ = cc in no)
    some (Some x) None never is = absurd (let no : ⊥ = cc in no)
    some (Some x) (Some y) never is = absurd (let no : ⊥ = cc in no)
twice said.Page old others request cannot is round page = some old.page request.page cannot page
  where
    some : (was now : Bool) → was ≡ true → times was + suc (pages others) ≡ times now → ⊥
    some was true never is = let e : times was ≡ 1 = ap times never in omega (arith, e, is)
    some was false never is = omega (arith, is)

pub asked_twice : (words rest behind : List Word) (one : Said) (old : Asked) (request : Request) → IsAskedTo words rest old → Begins one rest behind → CannotPut one old → AskFor words request → ⊥
asked_twice words rest behind one old request before begins cannot for =
    let on = before.only request for in
    let more = others_of one rest behind on.options begins on.said in
    twice one old more.0 request cannot
    (subst (λ (os : List Said). IsWay (listed old.way ++ ways os) request.way) more.1 on.way)
    (subst (λ (os : List Said). listed old.round ++ rounds os ≡ listed request.round) more.1 on.round)
    (subst (λ (os : List Said). times old.page + pages os ≡ times request.page) more.1 on.page)

-- ---- words that begin with none

pub asked_no_more : (words rest : List Word) (old : Asked) (request : Request) → IsAskedTo words rest old → 0 < length rest → ((one : Said) (behind : List Word) → Begins one rest behind → ⊥) → AskFor words request → ⊥
asked_no_more words rest old request before some none for =
    let on = before.only request for in
    by on.options on.said
  where
    by : (options : List Said) → AreSaid options rest → ⊥
    by [] is = let zero : length rest ≡ 0 = ap length is in omega (arith, some, zero)
    by (one ∷ others) are = none one are.0 are.1

-- ---- the end

pub asked_all : (words rest : List Word) (asked : Asked) → IsAskedTo words rest asked → length rest ≡ 0 → AskFor words (request_of asked)
asked_all words rest asked before end = before.sound (request_of asked) (record {
  options = [];
  said = none rest end;
  way = way asked.way;
  round = append-nil (listed asked.round);
  page = omega arith;
})
  where
    none : (rest : List Word) → length rest ≡ 0 → rest ≡ []
    none [] is = refl
    none (w ∷ ws) is = absurd (omega (arith, is))

    way : (was : Option Way) → IsWay (listed was ++ []) (way_of was)
    way None = refl
    way (Some w) = refl

-- ---- the command's name

pub bad_request : (words options : List Word) (name : Word) → words ≡ name ∷ options → ((request : Request) → AskFor options request → ⊥) → (request : Request) → IsRequest words request → ⊥
bad_request words options name is none request asks =
    let same : asks.0 ≡ options = same_tails (codes "steps") name asks.0 options (sym asks.1 ∙ is) in
    none request (subst (λ (ws : List Word). AskFor ws request) same asks.2)
