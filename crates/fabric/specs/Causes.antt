-- Which answer a wait and a barrier give: after the split-phase accesses and barriers of "Introduction to Split-C"
-- (Culler and others, 1995).
use Rattle.std.specs.Prelude.{ℕ, ◌+◌, ◌<◌, ◌==◌, ◌&&◌, ◌||◌, if◌then◌else◌, Option, Some, None, Bool, true, false}
use Rattle.sync_book.specs.declared.gap.Gap.{Gap}
use Rattle.sync_book.specs.declared.standing.Standing.{Standing}
use Rattle.sync_book.specs.declared.standing.Standing.TheVariants.{Released}
use Rattle.sync_book.specs.Book.{Book, node_at, gap_of, broken_by}
use Rattle.fabric.specs.declared.answers.Passed.{Passed}
use Rattle.fabric.specs.declared.answers.Passed.TheVariants.{Yes, NotYet, Broken}
use Rattle.fabric.specs.declared.answers.Waited.{Waited}
use Rattle.fabric.specs.declared.answers.Waited.TheVariants.{Landed, NotYet as Pending}

abbrev pub is_released : Standing → Bool
is_released Released = true
is_released _ = false

-- the barrier can't be passed: it is broken, or the gap is left
abbrev pub not_passed : Option ℕ → Gap → Passed
not_passed (Some ended) gap = Broken ended
not_passed None gap = NotYet gap.missing gap.flying

-- nothing is missing for the next release
abbrev pub is_closed : Gap → Bool
is_closed gap = (gap.missing == 0) && (gap.flying == 0)

-- the node passes where its arrival was released, or can be released now
abbrev pub may_pass : Book → (node : ℕ) → Bool
may_pass book node = is_released (node_at book node).standing || is_closed (gap_of book)

-- the answer to a node that asks to pass
abbrev pub passed_of : Book → (node : ℕ) → Passed
passed_of book node = if may_pass book node then Yes else not_passed (broken_by book) (gap_of book)

-- something is missing where the answer says so
abbrev pub SomeMissing : Passed → Type 0
SomeMissing (NotYet missing flying) = 0 < missing + flying
SomeMissing _ = Unit {0}

-- the answer to a wait while so many cells are outstanding
abbrev pub waited_of : (outstanding : ℕ) → Waited
waited_of outstanding = if outstanding == 0 then Landed else Pending outstanding
