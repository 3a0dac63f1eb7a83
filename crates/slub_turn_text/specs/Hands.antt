-- The line of what is in hand.
use Rattle.std.specs.Prelude.{ℕ, ◌-◌, ◌==◌, nat_lt, if◌then◌else◌, List, [], ◌∷◌, ◌++◌, length, drop, codes, Option, Some, None}
use Rattle.std.specs.Fmt.{decimal}
use Rattle.std.specs.Str.{bytes_eq}
use Rattle.slub_core.specs.declared.local.Hand.{Hand}
use Rattle.slub_core.specs.declared.local.PartialString.{PartialString}
use Rattle.slub_core.specs.declared.local.FrameRun.{FrameRun}
use Rattle.slub_core.specs.Local.{Local, hand_of, beside, run_of}
use Rattle.slub_turn_text.specs.Columns.{front}
use Rattle.slub_turn_text.specs.Fields.{run_text}
use Rattle.slub_turn_text.specs.Labels.{RoundLabels}
use Rattle.slub_core.specs.Spots.{roles}
use Rattle.slub_turn_text.specs.Roles.{first_text, second_text}
use Rattle.slub_turn_text.specs.Turns.{lane_of}

-- ---- the parts, each with a comma before it

-- ` from I`, where a chain is in hand
unfoldable pub chain_text : ℕ → List ℕ
chain_text head = if head == 0 then [] else codes " from " ++ decimal (head - 1)

-- `slab F ROLE from I`
unfoldable pub slab_part : List ℕ → Hand → List ℕ
slab_part role hand =
    codes ", slab " ++ decimal hand.frame ++ 32 ∷ role ++ chain_text hand.head

-- the slab that is worked on
unfoldable pub first_part : Local → List ℕ
first_part l =
    let count = length l.hands in
    if count == 0 then [] else slab_part (first_text (roles l.spot count)) (hand_of l)

-- and the one beside it
unfoldable pub second_part : Local → List ℕ
second_part l =
    let count = length l.hands in
    if nat_lt count 2 then [] else slab_part (second_text (roles l.spot count)) (beside l)

-- `string of N from F`
unfoldable pub string_part : Option PartialString → List ℕ
string_part None = []
string_part (Some string) =
    codes ", string of " ++ decimal string.count ++ codes " from " ++ decimal string.front

-- `frames F..G`; no run begins at frame 0
unfoldable pub run_part : FrameRun → List ℕ
run_part run = if run.frame == 0 then []
    else codes ", frames " ++ run_text run.frame run.order

unfoldable pub parts : Local → List ℕ
parts l = first_part l ++ second_part l ++ string_part l.string ++ run_part (run_of l)

-- ---- all of them

-- without the first comma and the space behind it; `nothing` where there is no part
abbrev pub without_comma : List ℕ → List ℕ
without_comma [] = codes "nothing"
without_comma (c ∷ cs) = drop 1 cs

unfoldable pub hands_text : Local → List ℕ
hands_text l = without_comma (parts l)

-- `in hand ` and all of it
abbrev pub hands_line : RoundLabels → ℕ → List ℕ → List ℕ
hands_line labels worker hands =
    front (codes ":") (lane_of labels worker) ++ codes "in hand " ++ hands ++ 10 ∷ []

-- the line, where what is told isn't what was told before
abbrev pub hands_lines : RoundLabels → List ℕ → Local → List ℕ
hands_lines labels before l = if bytes_eq before (hands_text l) then []
    else hands_line labels l.worker (hands_text l)
