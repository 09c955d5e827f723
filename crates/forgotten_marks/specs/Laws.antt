-- Stories and runs are tied: under each oracle code and source show what their runs do by the oracle's answers, and
-- each run that ends is by some oracle's answers.
use Rattle.std.specs.Prelude.{◌≡◌, ℕ, Bool, List, ◌++◌}
use Rattle.resumption.specs.Resumption.{Ends, run_of}
use Rattle.sc_base.specs.declared.value.End.{End}
use Rattle.sc_layout.specs.Layout.{Arrangement}
use Rattle.sc_isa.specs.declared.code.Code.{Code}
use Rattle.sc_isa.specs.Run.{Answer, Finish, code_run}
use Rattle.sc_meaning.specs.Meaning.{Setting, pointed, meaning}
use Rattle.site_graph.specs.declared.plan.Plan.{Plan}
use Rattle.node_emit.specs.Spelled.{Piece}
use Rattle.node_emit.specs.Pointed.{code_points}
use Rattle.node_emit.specs.Oracles.{Oracle, told_at_first, tells, at_first, plays}
use Rattle.node_emit.specs.Forgotten.{answers_told}
use Rattle.forgotten_marks.specs.Played.{answers_played, without_points, code_shows, source_shows}

-- what a source tells is its run by the oracle's answers
abbrev pub TellsAreRuns : Type 0
TellsAreRuns =
    (here : Setting) (budget : ℕ) (empty : ℕ → Bool) (oracle : Oracle)
    → without_points (tells oracle empty told_at_first (pointed here budget))
    ≡ source_shows (run_of (meaning here budget) (answers_told oracle told_at_first (pointed here budget)))

-- what code plays is its run by the oracle's answers
abbrev pub PlaysAreRuns : Type 0
PlaysAreRuns =
    (code : Code) (layout : Arrangement) (plan : Plan) (pieces : List Piece) (between : ℕ → ℕ → List ℕ)
    (node budget many : ℕ) (empty : ℕ → Bool) (oracle : Oracle)
    → without_points (plays oracle empty at_first (code_points code layout plan pieces between node budget many))
    ≡ code_shows (code_run code layout node budget many
    (answers_played oracle at_first (code_points code layout plan pieces between node budget many)))

-- each run of code that ends is by some oracle's answers, the first of those that it is given
abbrev pub RunsArePlayed : Type 0
RunsArePlayed =
    (code : Code) (layout : Arrangement) (plan : Plan) (pieces : List Piece) (between : ℕ → ℕ → List ℕ)
    (node budget many : ℕ) (given : List Answer) (end : End)
    → (code_run code layout node budget many given).end ≡ Ends (Finish end)
    → (oracle : Oracle) × (more : List Answer)
    × (given ≡ answers_played oracle at_first (code_points code layout plan pieces between node budget many) ++ more)
    × (code_run code layout node budget many
    (answers_played oracle at_first (code_points code layout plan pieces between node budget many))
    ≡ code_run code layout node budget many given)
