-- The journal as it grows, with room for more.
use Rattle.std.specs.Prelude.{◌≡◌, ℕ, ◌<◌, List, length, Bool, true, false, slice_index_or}
use Rattle.sc_isa.specs.declared.journal.Entry.{Entry}
use Rattle.sc_isa.specs.declared.journal.Entry.TheVariants.{Issued}
use Rattle.fabric.specs.Effects.{issues}

-- the entries so far, the newest first; for how many nodes they are, and for how many more there is room
pub record Log : Type 0 where
  pub past : List Entry
  pub nodes : ℕ
  pub room : ℕ

-- the entry is an issue
abbrev pub is_issue : Entry → Bool
is_issue (Issued node number access) = true
is_issue _ = false

-- the counts are of each node's issues
abbrev pub AreIssues : List ℕ → List Entry → Type 0
AreIssues counts past = (node : ℕ) → node < length counts → slice_index_or counts node 0 ≡ issues node past
