-- What a caller sees of a pairing.
use Rattle.slub_recorded.specs.declared.pairing.Pairing.{Pairing}
use Rattle.slub_recorded.specs.Pairing.{Seen}

-- what is known, as lists
unfoldable pub view : Pairing → Seen
view p = record {
  held = p.held.entries;
  objects = p.objects.items;
  moves = p.moves.items;
  fates = p.fates.items;
}
