pub mod Fitting
pub mod Runs
pub mod Asking
pub mod Made
pub mod WithoutIds
pub mod Numbers
pub mod Dry
pub mod Rests
pub mod Standing
pub mod Ready
pub mod Adding
pub mod Balanced
pub mod Counted
pub mod Totals
pub mod Few
pub mod Tally
pub mod Places
pub mod AddsUp
pub mod Times
pub mod Moved
pub mod TrimmedLast
pub mod Rounds
pub mod OfSteps
pub mod Along
pub mod PokedRounds
pub mod Pokes
mod Swept
mod Flushed
mod SweptChecked
mod Shrunk
pub mod Drawn
pub mod OneTextRounds
pub mod Asked
pub mod Kmalloc
pub mod BulkLines
pub mod Reserves
pub mod IdsFit
pub mod Items
pub mod Causes
mod InUse
mod Knowing
pub mod Unheld
mod WantReplies
pub mod Wants
pub mod Refused
pub mod SameEnd
pub mod InOrder
pub mod NeverFall
pub mod Whole
pub mod InTextRounds
pub mod Simple
pub mod OnLists
pub mod Grows
pub mod Acts
pub mod Turns
pub mod Spots
pub mod Told
pub mod PokeRounds
mod WordReads
