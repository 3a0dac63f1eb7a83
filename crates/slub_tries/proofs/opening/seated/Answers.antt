use Rattle.std.proofs.Common.{◌∙◌, length, ap}
use Rattle.slub_workers.specs.Begun.{Begun}
use Rattle.slub_workers.specs.Tables.{begun_at, table_of}
use Rattle.slub_tries.proofs.Sitting.{seated-begins, seated-sits}
use Rattle.slub_tries.proofs.opening.seated.Goals as goal

pub returns-in-Ok-clause-sits : goal.returns-in-Ok-clause-sits
returns-in-Ok-clause-sits c =
    let seated = c.in-Ok.seated in
    seated-sits (begun_at seated.0) (table_of seated.0) seated.1 c.in-Ok.ensures.seated (ap (λ (k : Begun). length k.locals) c.in-Ok.ensures.key ∙ c.requires.alone)

pub returns-in-Ok-clause-stands : goal.returns-in-Ok-clause-stands
returns-in-Ok-clause-stands c =
    let seated = c.in-Ok.seated in
    seated-begins (begun_at seated.0) (table_of seated.0) seated.1 c.in-Ok.ensures.seated (ap (λ (k : Begun). length k.locals) c.in-Ok.ensures.key ∙ c.requires.alone)
