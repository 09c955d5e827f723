-- The machine and the meaning of a source are one: direct and continuation-passing evaluation after Reynolds, "The
-- discoveries of continuations" (1993).
use Rattle.std.specs.Prelude.{◌≡◌, ℕ, slice_get}
use Rattle.sc_meaning.specs.Asking.{SourceDoing}
use Rattle.sc_meaning.specs.Meaning.{Setting, meaning}
use Rattle.core_machine.specs.Todo.{State}
use Rattle.core_machine.specs.Moves.{begun}
use Rattle.core_machine.specs.Runs.{Runs}

-- a node that begins with the body of `splitc_main` as its pending work does what the source makes it do
abbrev pub MachineFollowsMeaning : Type 0
MachineFollowsMeaning =
    (here : Setting) (budget : ℕ)
    → Runs here (begun (slice_get here.program.functions here.program.main) budget) (meaning here budget)

-- and of no state is it told in two ways what it does
abbrev pub RunsInOneWay : Type 0
RunsInOneWay = (here : Setting) (s : State) (d other : SourceDoing) → Runs here s d →
    Runs here s other → d ≡ other
