use Rattle.std.proofs.Common.{◌≡◌, ◌*◌, length, vec_len, vec_capacity}
use Rattle.slub_trace.specs.Sound.{objects_of}
use Rattle.slub_trace_reader.specs.Generator.{state_after}
use Rattle.slub_trace_reader.specs.Kept.{AreHeld}
use Rattle.slub_trace_reader.specs.Load.{drawn_events}
use Rattle.slub_trace_reader.proofs.load.Load.draw_events.Given as goal

abbrev pub invariant-loop : goal.invariant-loop
invariant-loop l = (
    (l.self.generator.state ≡ state_after l.initial.self.generator.state (2 * l.counter))
    × (l.self.events.items ≡ drawn_events l.initial.self.generator.state (vec_len l.initial.self.held) l.counter)
    × AreHeld l.self.events.items l.self.held.items
    × (l.self.given ≡ length (objects_of l.self.events.items))
    × (vec_len l.self.held ≡ vec_len l.initial.self.held)
    × (vec_capacity l.self.events ≡ vec_capacity l.initial.self.events)
    × (vec_len l.self.events ≡ l.counter)
    )
