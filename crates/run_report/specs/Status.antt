-- The statuses that the program ends with, the number of each, and which one the nodes' ends give a run. They are this
-- project's own.
use Rattle.std.specs.Prelude.{ℕ, zero, suc, ◌+◌, Option, Some, Bool, true, false, ◌||◌, if◌then◌else◌}
use Rattle.sc_base.specs.declared.value.End.{End}
use Rattle.sc_base.specs.declared.value.End.TheVariants.{Fault, Cut, Waiting}
use Rattle.run_report.specs.declared.status.Status.{Status}
use Rattle.run_report.specs.declared.status.Status.TheVariants.{Ended as AllEnded, Fault as SomeFault}
use Rattle.run_report.specs.declared.status.Status.TheVariants.{Cut as SomeCut, Waiting as SomeWaiting}
use Rattle.run_report.specs.declared.status.Status.TheVariants.{Words, Refused, Read, Write, Memory}

-- some node from this number on ended so
abbrev pub some_end : (Option End → Bool) → (ℕ → Option End) → ℕ → ℕ → Bool
some_end test ends first zero = false
some_end test ends first (suc count) = test (ends first) || some_end test ends (first + 1) count

abbrev pub is_fault : Option End → Bool
is_fault (Some (Fault kind at)) = true
is_fault _ = false

abbrev pub is_cut : Option End → Bool
is_cut (Some Cut) = true
is_cut _ = false

abbrev pub is_waiting : Option End → Bool
is_waiting (Some Waiting) = true
is_waiting _ = false

-- a fault before a cut, and a cut before a wait
abbrev pub status_of : ℕ → (ℕ → Option End) → Status
status_of nodes ends =
    if some_end is_fault ends 0 nodes then SomeFault else
    if some_end is_cut ends 0 nodes then SomeCut else
    if some_end is_waiting ends 0 nodes then SomeWaiting else AllEnded

abbrev pub code_of : Status → ℕ
code_of AllEnded = 0
code_of SomeFault = 10
code_of SomeWaiting = 11
code_of SomeCut = 12
code_of Words = 2
code_of Refused = 3
code_of Read = 4
code_of Write = 5
code_of Memory = 6
