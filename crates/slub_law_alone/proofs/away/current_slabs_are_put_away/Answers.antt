use Rattle.slub_law_alone.proofs.PutAway.{put_away_alone}
use Rattle.slub_law_alone.proofs.away.current_slabs_are_put_away.Goals as goal

pub returns : goal.returns
returns c = put_away_alone
