use Rattle.std.proofs.Common.{◌≡◌, ◌∙◌, ℕ, List, Some, None, ap}
use Rattle.std.specs.List.{position}
use Rattle.std.specs.Map.{remove_entry}
use Rattle.std.specs.Str.{bytes_eq}
use Rattle.slub_state_text.proofs.Naming.{removed_some, removed_none}
use Rattle.slub_state_text.proofs.names.LiveNames.remove.Goals as goal

pub returns-in-Some : goal.returns-in-Some
returns-in-Some c =
    let test = bytes_eq c.args.name.now in
    let place : position (λ (entry : List ℕ × ℕ). test entry.0) c.self.inside.named.items ≡ Some c.in-Some.place = cc in
    c.remove-removed.ensures.items ∙ removed_some test c.self.inside.named.items c.in-Some.place place ∙ ap (remove_entry test) c.self.view_is

pub returns-in_default : goal.returns-in_default
returns-in_default c =
    let test = bytes_eq c.args.name.now in
    let place : position (λ (entry : List ℕ × ℕ). test entry.0) c.args.self.now ≡ None = cc in
    removed_none test c.args.self.now place
