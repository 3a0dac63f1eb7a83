-- Which text a client's line has.
use Rattle.std.specs.Prelude.{ℕ, ◌==◌, Bool, true, false, List, [], ◌∷◌, ◌++◌, flat_map, codes, Result}
use Rattle.std.specs.List.{zip}
use Rattle.std.specs.Fmt.{decimal}
use Rattle.slub_trace.specs.declared.create.Created.{Created}
use Rattle.slub_trace.specs.declared.create.CreateRefusal.{CreateRefusal}
use Rattle.slub_slabinfo_text.specs.declared.text.ItemWord.TheVariants as word
use Rattle.slub_trace.specs.declared.trace.Client.{Client as Asked}
use Rattle.slub_trace.specs.declared.trace.Client.TheVariants as line
use Rattle.slub_trace.specs.Classes.{class_names}
use Rattle.slub_slabinfo_text.specs.declared.client.CacheRefusal.{CacheRefusal}
use Rattle.slub_slabinfo_text.specs.declared.client.CacheRefusal.TheVariants as why
use Rattle.slub_slabinfo_text.specs.declared.client.ClientAnswer.{ClientAnswer}
use Rattle.slub_slabinfo_text.specs.declared.client.ClientAnswer.TheVariants as answer
use Rattle.slub_slabinfo_text.specs.declared.client.ClientDone.{ClientDone}
use Rattle.slub_slabinfo_text.specs.Lines.{answer_line, created_answer, found_text, shown}

-- why a cache gave no object
abbrev pub refusal_words : CacheRefusal → List ℕ
refusal_words why.NoFrames = codes "no frames"
refusal_words (why.IdsSpent tid) = codes "ids spent " ++ decimal tid
refusal_words why.NoSuchCache = codes "no such cache"

-- what a client's line begins with
abbrev pub client_words : Asked → List ℕ
client_words line.Kmalloc = codes "kmalloc"
client_words (line.Kget cpu size object) = codes "kget " ++ decimal object
client_words (line.Krealloc cpu object size fresh) = codes "krealloc " ++ decimal object
client_words (line.Bulk cpu place first count) =
    codes "bulk " ++ decimal first ++ 32 ∷ decimal count
client_words (line.Bulkfree cpu first count) =
    codes "bulkfree " ++ decimal first ++ 32 ∷ decimal count
client_words (line.Mempool pool place min first) = codes "mempool " ++ pool
client_words (line.Mget cpu pool object) = codes "mget " ++ decimal object
client_words (line.Mput cpu pool object) = codes "mput " ++ decimal object

-- what it is answered; the creations of a `kmalloc` have lines of their own
abbrev pub answer_words : ClientAnswer → List ℕ
answer_words (answer.Created answers) = []
answer_words answer.TooLarge = codes "too large"
answer_words (answer.Given address) = codes "given " ++ decimal address
answer_words (answer.Refused why) = refusal_words why
answer_words answer.NotHeld = codes "not held"
answer_words answer.NotKmalloc = codes "not kmalloc"
answer_words answer.Stays = codes "stays"
answer_words (answer.Moved address) = codes "moved " ++ decimal address
answer_words answer.All = codes "all"
answer_words (answer.Nothing why) = codes "none " ++ refusal_words why
answer_words (answer.NotHeldOf object) = codes "not held " ++ decimal object
answer_words (answer.BulkFreed freed) = codes "freed " ++ decimal freed
answer_words answer.Taken = codes "taken"
answer_words answer.TooMany = codes "too many"
answer_words answer.Made = codes "made"
answer_words answer.NoPool = codes "no pool"
answer_words (answer.Lent object address) =
    codes "lent " ++ decimal object ++ 32 ∷ decimal address
answer_words answer.WrongCache = codes "wrong cache"
answer_words answer.InReserve = codes "in reserve"
answer_words answer.Kept = codes "kept"
answer_words (answer.Freed address) = codes "freed " ++ decimal address
answer_words answer.Corrupt = codes "corrupt"

-- so many numbers were freed as the line names
abbrev pub frees_all : Asked → ℕ → Bool
frees_all (line.Bulkfree cpu first count) freed = freed == count
frees_all _ freed = false

-- the answer is no refusal: its line is written with `--replies` alone
abbrev pub is_ok_client : Asked → ClientAnswer → Bool
is_ok_client client (answer.Given address) = true
is_ok_client client answer.Stays = true
is_ok_client client (answer.Moved address) = true
is_ok_client client answer.All = true
is_ok_client client (answer.BulkFreed freed) = frees_all client freed
is_ok_client client answer.Made = true
is_ok_client client (answer.Lent object address) = true
is_ok_client client answer.Kept = true
is_ok_client client (answer.Freed address) = true
is_ok_client client _ = false

-- the line of an answer
abbrev pub client_line : Asked → ClientAnswer → List ℕ
client_line client answered =
    client_words client ++ codes ": " ++ answer_words answered ++ 10 ∷ []

-- the line of a class's creation
abbrev pub creation_text : Bool → List ℕ × Result Created CreateRefusal → List ℕ
creation_text replies made = answer_line replies word.Cache made.0 (created_answer made.1)

-- the lines of an answer: for a `kmalloc` one for each class, in rising order
abbrev pub answered_text : Bool → Asked → ClientAnswer → List ℕ
answered_text replies client (answer.Created answers) =
    flat_map (creation_text replies) (zip class_names answers)
answered_text replies client answered =
    shown replies (is_ok_client client answered) (client_line client answered)

-- the lines of a client's line: its answer, and what was found damaged in its rounds
abbrev pub client_text : Bool → Asked → ClientDone → List ℕ
client_text replies client done =
    answered_text replies client done.answer
    ++ flat_map (λ round. flat_map found_text round.result.damages) done.rounds
