use Rattle.std.proofs.Common.{◌≡◌, ℕ, ◌+◌, ◌<◌, ◌≤◌, List, length, take, get_or, ap, sym, subst, ◌∙◌, arith}
use Rattle.std.specs.Prelude.{All, Contains}
use Rattle.std.proofs.lemmas.Bool.{false≢true}
use Rattle.std.proofs.lemmas.List.{take_all}
use Rattle.slub_recorded.specs.declared.groups.Cache.{Cache}
use Rattle.slub_recorded.specs.declared.groups.Chosen.{Chosen}
use Rattle.slub_recorded.specs.declared.told.Note.{Note}
use Rattle.slub_recorded.specs.Members.{IsLeftOut}
use Rattle.slub_recorded.specs.Told.{IsOfLeft}
use Rattle.slub_recorded.proofs.Only.{any_left, left_more}
use Rattle.slub_recorded.proofs.Shown.{LeftTold, told_more, same_more}
use Rattle.slub_recorded.proofs.listed.put_left_out.Goals as goal
use Rattle.slub_recorded.proofs.listed.put_left_out.Goals.{then-is_left_out+in_ok-put, else-is_left_out}

-- the cache of a place is among those that are meant
there : (cpus : ℕ) (beyond : List Chosen) (left cs : List Cache) (i : ℕ) (cache : Cache) → i < length cs → cache ≡ get_or cs i cache → All (λ (c : Cache). IsLeftOut cpus c beyond → Contains left c) cs → IsLeftOut cpus cache beyond → Contains left cache
there cpus beyond left cs i cache inside is all out =
    let P : Cache → Type 0 = λ c. IsLeftOut cpus c beyond → Contains left c in
    subst P (sym is) (all i cache inside) out

pub loop-cache-init : goal.loop-cache-init
loop-cache-init c = record {
  told = λ k d low. absurd (omega (arith, low));
  only = λ left meant none. any_left left c.args.notes.now.items none;
}

pub loop-cache-preserved : goal.loop-cache-preserved
loop-cache-preserved c =
    let cpus = c.args.cpus in
    let beyond = c.args.beyond.now in
    let caches : List Cache = c.args.caches.now in
    let i = c.loop-cache.cache-index in
    let cache : Cache = c.cache-item.result in
    let old : List Note = c.loop-cache.notes.items in
    let inv = c.loop-cache.invariant in
    let P : List Note → Type 0 = λ l. All (LeftTold cpus beyond l) (take (i + 1) caches) in
    record {
      told = elim c.if-is_left_out.branch [
        | then-is_left_out+in_ok-put w ↦ subst P (sym (ap (λ v. v.items) w.notes-is ∙ w.in_ok-put.ensures)) (told_more cpus beyond old caches i cache c.loop-cache-test.true c.cache-item.is inv.told)
        | else-is_left_out w ↦
            subst P (sym (ap (λ v. v.items) w.notes-is))
            (same_more cpus beyond old caches i cache c.loop-cache-test.true c.cache-item.is (λ out. false≢true (sym w.if-is_left_out.false ∙ c.is_left_out.ensures.1 out)) inv.told)
      ];
      only = λ left meant none.
          let Q : List Note → Type 0 = λ l. All (IsOfLeft left) l in
          elim c.if-is_left_out.branch [
            | then-is_left_out+in_ok-put w ↦
                left_more left old c.if-is_left_out.notes.items cache (ap (λ v. v.items) w.notes-is ∙ w.in_ok-put.ensures)
                (there cpus beyond left caches i cache c.loop-cache-test.true c.cache-item.is meant (c.is_left_out.ensures.0 w.if-is_left_out.true)) (inv.only left meant none)
            | else-is_left_out w ↦ subst Q (sym (ap (λ v. v.items) w.notes-is)) (inv.only left meant none)
          ];
    }

pub returns : goal.returns
returns c =
    let caches : List Cache = c.args.caches.now in
    let end : length caches ≤ c.loop-cache.cache-index = omega (arith, c.loop-cache-test.false) in
    record {
      told = subst (λ (l : List Cache). All (LeftTold c.args.cpus c.args.beyond.now c.loop-cache.notes.items) l) (take_all c.loop-cache.cache-index caches end) c.loop-cache.invariant.told;
      only = c.loop-cache.invariant.only;
    }
