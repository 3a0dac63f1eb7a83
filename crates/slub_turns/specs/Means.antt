-- What the step machine leaves to its parts, as one record.
use Rattle.slub_core.specs.Setup.{Means}
use Rattle.slub_core.specs.Takes.{take_of}
use Rattle.slub_core.specs.Gifts.{gave_of, give_of}
use Rattle.slub_core.specs.Orders.{promote_of}
use Rattle.slub_core.proofs.Takes.{pools-give}
use Rattle.slub_core.proofs.Gifts.{checked_caches-give}
use Rattle.slub_core.proofs.Orders.{lists_are-promoted}

abbrev pub the_means : Means
the_means = record {
  take = take_of;
  takes = pools-give;
  gave = gave_of;
  give = give_of;
  gives = checked_caches-give;
  promote = promote_of;
  promotes = lists_are-promoted;
}
