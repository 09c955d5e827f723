-- The meaning of a source with its points, and without them.
use Rattle.std.specs.Prelude.{◌≡◌, ℕ, List}
use Rattle.resumption.specs.Resumption.{run_of}
use Rattle.resumption.specs.Laws.{shown_run}
use Rattle.sc_meaning.specs.Asking.{Answer, request_in}
use Rattle.sc_meaning.specs.Meaning.{Setting, pointed, meaning}

-- under the same answers a run without the points is the run with them, of whose events the requests are left
abbrev pub PointsAreForgotten : Type 0
PointsAreForgotten =
    (here : Setting) (budget : ℕ) (answers : List Answer)
    → run_of (meaning here budget) answers ≡ shown_run request_in (run_of (pointed here budget) answers)
