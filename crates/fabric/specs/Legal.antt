-- The legal and complete journals of a machine, and what a run shows in the end, as an execution is in Shasha and Snir
-- (1988): an interleaving of what the nodes ask and of what the memory does.
use Rattle.std.specs.Prelude.{ℕ, ◌<◌, List, reverse, IsSome}
use Rattle.sc_isa.specs.declared.journal.Entry.{Entry}
use Rattle.fabric.specs.Access.{any_track}
use Rattle.fabric.specs.Barriers.{finished}
use Rattle.fabric.specs.Wired.{EntryWired, Wired, AllDone}
use Rattle.fabric.specs.Asked.{Machine, IsAsked, Asked}

-- the fabric allows the entry, and its node asks for it
pub record EntryAllowed (machine : Machine) (past : List Entry) (entry : Entry) : Type 0 where
  pub wired : EntryWired machine.start machine.nodes past entry
  pub asked : IsAsked machine past entry

-- each entry is allowed after those before it
pub record LegalPast (machine : Machine) (past : List Entry) : Type 0 where
  pub wired : Wired machine.start machine.nodes past
  pub asked : Asked machine past

-- each node has finished, and each part of each access has occurred
pub record CompletePast (machine : Machine) (past : List Entry) : Type 0 where
  pub all_finished : (node : ℕ) → node < machine.nodes → IsSome (finished node past)
  pub all_occurred : (node : ℕ) → node < machine.nodes → AllDone machine.start past any_track node

-- a journal, in the order of its entries, is legal
abbrev pub IsLegalJournal : Machine → List Entry → Type 0
IsLegalJournal machine journal = LegalPast machine (reverse journal)

-- it is complete
abbrev pub IsCompleteJournal : Machine → List Entry → Type 0
IsCompleteJournal machine journal = CompletePast machine (reverse journal)
