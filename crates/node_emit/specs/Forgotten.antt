-- Marks and oracles leave the two runs as they are: without its marks a code's run is the code's run, and each run of
-- a source that ends is told by some oracle.
use Rattle.std.specs.Prelude.{◌≡◌, ℕ, List, [], ◌∷◌, ◌++◌, map, Option, Some, None, true, if◌then◌else◌}
use Rattle.resumption.specs.Resumption.{Asks, Makes, Says, Stops, Ends, run_of}
use Rattle.resumption.specs.Forgetting.{forget}
use Rattle.sc_base.specs.declared.value.End.{End}
use Rattle.sc_layout.specs.Layout.{Arrangement}
use Rattle.sc_isa.specs.declared.code.Code.{Code}
use Rattle.sc_isa.specs.Run.{Ask, Pass, Answer, code_run}
use Rattle.sc_core.specs.Core.{Program}
use Rattle.sc_meaning.specs.declared.request.Request.TheVariants.{Sync}
use Rattle.sc_meaning.specs.Asking as source
use Rattle.sc_meaning.specs.Asking.{PointedDoing, Requested, Finishes}
use Rattle.sc_meaning.specs.Meaning.{Setting, pointed, meaning}
use Rattle.sc_meaning.specs.OfAccess.{unlined}
use Rattle.site_graph.specs.declared.plan.Plan.{Plan}
use Rattle.node_emit.specs.Spelled.{Piece}
use Rattle.node_emit.specs.Pointed.{Event, Asked, Came, code_points}
use Rattle.node_emit.specs.Oracles.{Oracle, Told, requests, told_at_first, told_after, answer_by, tells}

abbrev pub ask_in : Event → Option Ask
ask_in (Asked ask) = Some ask
ask_in (Came point) = None

abbrev pub ask_or : Ask → Event → Ask
ask_or other (Asked ask) = ask
ask_or other (Came point) = other

-- whatever the marks are, without them the code's asks are left
abbrev pub MarksAreForgotten : Type 0
MarksAreForgotten =
    (code : Code) (layout : Arrangement) (plan : Plan) (pieces : List Piece) (between : ℕ → ℕ → List ℕ)
    (node budget many : ℕ) (answers : List Answer)
    → run_of (forget (ask_or Pass) ask_in (code_points code layout plan pieces between node budget many)) answers
    ≡ code_run code layout node budget many answers

-- the answers that the oracle gives along a source, as far as they fit
abbrev pub answers_told : Oracle → Told → PointedDoing → List source.Answer
answers_told oracle t (Makes (source.Came point) rest) = answers_told oracle t rest
answers_told oracle t (Makes (Requested request) rest) = answers_told oracle (told_after t request) rest
answers_told oracle t (Asks (Requested request) fits go) =
    if fits (answer_by oracle t request)
    then answer_by oracle t request ∷ answers_told oracle (told_after t request)
    (go (answer_by oracle t request)) else []
answers_told oracle t (Says text rest) = answers_told oracle t rest
answers_told oracle t _ = []

-- each run of a source that ends is told by some oracle
abbrev pub RunsAreByOracles : Type 0
RunsAreByOracles =
    (here : Setting) (budget : ℕ) (given : List source.Answer) (end : End)
    → (run_of (meaning here budget) given).end ≡ Ends (Finishes end)
    → (oracle : Oracle) × (more : List source.Answer)
    × (given ≡ answers_told oracle told_at_first (pointed here budget) ++ more)
    × ((tells oracle (λ t. true) told_at_first (pointed here budget)).events
    ≡ map (λ r. requests (unlined r)) (run_of (meaning here budget) given).events)
