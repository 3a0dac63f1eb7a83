use Rattle.std.proofs.Common.{◌∙◌, append_assoc}
use Rattle.slub_recorded.proofs.stop.convert_text.Goals as goal

pub returns-in_ok-text-in-NoSuchGroup : goal.returns-in_ok-text-in-NoSuchGroup
returns-in_ok-text-in-NoSuchGroup c = rw (c.in-NoSuchGroup.is, c.into_bytes-in-NoSuchGroup.ensures.value) (c.in_ok-text-in-NoSuchGroup.ensures.ok ∙ simp append_assoc)

pub returns-in_ok-text-in-TooManyObjects : goal.returns-in_ok-text-in-TooManyObjects
returns-in_ok-text-in-TooManyObjects c = rw (c.in-TooManyObjects.is, c.into_bytes-in-TooManyObjects.ensures.value) c.in_ok-text-in-TooManyObjects.ensures.ok
