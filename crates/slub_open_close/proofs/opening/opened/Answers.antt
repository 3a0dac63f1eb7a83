use Rattle.std.proofs.Common.{◌≡◌, ℕ, ◌+◌, ◌-◌, ◌*◌, ◌++◌, List, length, map, arith, ap, sym, subst, ◌∙◌, length-append}
use Rattle.std.specs.List.{range_with_len}
use Rattle.slub_lists.specs.State.{State}
use Rattle.slub_lists.specs.Coherent.{IsConsistent}
use Rattle.slub_lists.proofs.CheckedSlabs.{memory-consistent}
use Rattle.slub_core.specs.Facts as local
use Rattle.slub_core.specs.Facts.{Facts}
use Rattle.slub_schedule.specs.Table.{WordTable}
use Rattle.slub_list_machine.specs.Parts.{state_of}
use Rattle.slub_law_opening.specs.Opening.{value_of}
use Rattle.slub_open_close.specs.Classes.{front_words}
use Rattle.slub_open_close.specs.Opened.{room_of}
use Rattle.slub_open_close.specs.Rest.{IsRestOf}
use Rattle.slub_open_close.proofs.Setups.{setup-same}
use Rattle.slub_open_close.proofs.Whole.{front-count, words-whole, rest-of, values-same, rooms-same}
use Rattle.slub_open_close.proofs.opening.opened.Goals as goal

pub push_links-requires : goal.push_links-requires
push_links-requires c =
    let links : length c.deref-2.result.now ≡ (state_of c.args.parts).frames = ap length c.deref-2.ensures.value ∙ c.lay_all.ensures.links_count ∙ c.requires.beside.links in
    let none : length c.args.room.links.items ≡ 0 = ap length c.requires.room.links.0 in
    record { room = omega (arith, links, none, c.requires.room.links.1) }

pub moved-values-requires-clause-consistent : goal.moved-values-requires-clause-consistent
moved-values-requires-clause-consistent c =
    subst IsConsistent (sym c.lay_all.ensures.state) (memory-consistent (state_of c.args.parts) c.lay_all.new.parts.memory c.lay_all.ensures.count c.requires.consistent)

pub open-table-requires : goal.open-table-requires
open-table-requires c =
    let s = state_of c.args.parts in
    let rest = c.moved-values.result.2 in
    let frames : rest.frames ≡ s.frames = c.moved-values.ensures.rest.frames ∙ ap (λ (t : State). t.frames) c.lay_all.ensures.state in
    let board : length rest.board.items ≡ length s.board = c.moved-values.ensures.rest.board ∙ ap (λ (t : State). length t.board) c.lay_all.ensures.state in
    let front : length c.push_front.new.words.items ≡ 1057 + s.frames + (length s.board - 1) = ap length c.push_front.ensures.words ∙ front-count s c.deref.result.now in
    let memory : length c.moved-values.result.1 ≡ 512 * s.frames = ap length c.moved-values.ensures.memory ∙ c.lay_all.ensures.count ∙ c.requires.consistent.shaped.memory in
    let laid : length c.deref-2.result.now ≡ s.frames = ap length c.deref-2.ensures.value ∙ c.lay_all.ensures.links_count ∙ c.requires.beside.links in
    let links : length c.push_links.new.words.items ≡ length c.args.room.links.items + length c.deref-2.result.now = ap length c.push_links.ensures.words ∙ length-append c.args.room.links.items c.deref-2.result.now in
    let none : length c.args.room.links.items ≡ 0 = ap length c.requires.room.links.0 in
    record {
      front = omega (arith, front, frames, board, c.len.ensures, rest.board.ok.0, c.requires.beside.objects);
      memory = omega (arith, memory, frames);
      links = omega (arith, links, laid, none, frames);
    }

pub returns-clause-opened : goal.returns-clause-opened
returns-clause-opened c =
    let s = state_of c.args.parts in
    let b = c.args.beside in
    let memory = c.lay_all.new.parts.memory in
    let laid = c.lay_all.new.links.items in
    let rest = c.moved-values.result.2 in
    let e = c.lay_all.ensures.state in
    let front : c.push_front.new.words.items ≡ front_words s b.tids.items = c.push_front.ensures.words ∙ ap (front_words s) c.deref.ensures.value in
    let links : c.push_links.new.words.items ≡ laid = c.push_links.ensures.words ∙ ap (λ (l : List ℕ). l ++ c.deref-2.result.now) c.requires.room.links.0 ∙ c.deref-2.ensures.value in
    let all : (c.push_front.new.words.items ++ c.moved-values.result.1) ++ c.push_links.new.words.items ≡ (front_words s b.tids.items ++ memory) ++ laid = λ i. (front i ++ c.moved-values.ensures.memory i) ++ links i in
    record {
      setup = λ means. ap (λ (f : Facts). local.setup_of f means) c.requires.room.setup ∙ setup-same s c.requires.consistent b means;
      frames = ap (λ (t : WordTable). t.frames) c.open-table.ensures ∙ c.moved-values.ensures.rest.frames ∙ ap (λ (t : State). t.frames) e;
      objects = ap (λ (t : WordTable). t.objects) c.open-table.ensures ∙ (let n : c.len.result ≡ length rest.board.items = omega (arith, c.len.ensures, rest.board.ok.0) in n) ∙ c.moved-values.ensures.rest.board ∙ ap (λ (t : State). length t.board) e;
      words = λ means. ap (λ (t : WordTable). t.words) c.open-table.ensures ∙ all
          ∙ words-whole s b means memory laid c.requires.consistent (c.lay_all.ensures.count ∙ c.requires.consistent.shaped.memory) c.lay_all.ensures.memory (c.lay_all.ensures.links_count ∙ c.requires.beside.links) c.lay_all.ensures.links;
      values = c.moved-values.ensures.values ∙ ap value_of e ∙ values-same s memory;
      rooms = c.moved-values.ensures.rooms ∙ ap (λ (t : State). map (room_of t) (range_with_len 0 33)) e ∙ ap (λ (f : ℕ → ℕ). map f (range_with_len 0 33)) (rooms-same s memory);
      rest = rest-of s memory rest (subst (λ (t : State). IsRestOf t rest) e c.moved-values.ensures.rest);
    }

pub returns-clause-still : goal.returns-clause-still
returns-clause-still c =
    let e = c.lay_all.ensures.state in
    let still = c.moved-values.ensures.still in
    record {
      slabs = still.slabs ∙ ap (λ (t : State). t.slabs) e;
      frees = still.frees ∙ ap (λ (t : State). t.frees) e;
      cpu_lists = still.cpu_lists ∙ ap (λ (t : State). t.cpu_lists) e;
      board = still.board ∙ ap (λ (t : State). t.board) e;
      gone = still.gone ∙ ap (λ (t : State). t.gone) e;
      live = still.live ∙ ap (λ (t : State). t.live) e;
    }
