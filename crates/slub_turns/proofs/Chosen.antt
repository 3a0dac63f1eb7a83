-- What is so beside what an answer says.
use Rattle.std.proofs.Common.{Result, Ok, Err, IfOk, IfErr, MatchResult}

pub ok_beside : {T E : Type 0} (r : Result T E) (P : Type 0) (Q : T → Type 0) → P → IfOk r Q → IfOk r (λ x. P × Q x)
ok_beside (Ok x) P Q p q = (p, q)
ok_beside (Err e) P Q p q = q

pub err_beside : {T E : Type 0} (r : Result T E) (P : Type 0) (Q : E → Type 0) → P → IfErr r Q → IfErr r (λ e. P × Q e)
err_beside (Ok x) P Q p q = q
err_beside (Err e) P Q p q = (p, q)

pub both_beside : {T E : Type 0} (r : Result T E) (P : Type 0) (Q : T → Type 0) (R : E → Type 0) → P → MatchResult r Q R → MatchResult r (λ x. P × Q x) (λ e. P × R e)
both_beside (Ok x) P Q R p q = (p, q)
both_beside (Err e) P Q R p q = (p, q)
