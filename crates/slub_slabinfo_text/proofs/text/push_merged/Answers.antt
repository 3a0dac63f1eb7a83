use Rattle.std.proofs.Common.{◌≡◌, rules, append_assoc}
use Rattle.slub_slabinfo_text.proofs.text.push_merged.Goals as goal

pub returns : goal.returns
returns c =
    let title : c.as_bytes.result.now ≡ c.args.title.now = search rules in
    rw (c.in_ok-extend_from_slice-2.ensures.items, c.in_ok-extend_from_slice.ensures.items, title) (simp append_assoc)
