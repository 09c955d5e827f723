-- What an oracle answers along code, as it plays it, and what a story shows of requests.
use Rattle.std.specs.Prelude.{List, [], ◌∷◌, map, suc, Option, Some, None, ◌==◌, if◌then◌else◌}
use Rattle.std.specs.List.{filter_map}
use Rattle.resumption.specs.Resumption.{Asks, Makes, Says, RunEnd, Ends, Short, RunOf}
use Rattle.sc_base.specs.declared.value.End.{End}
use Rattle.sc_isa.specs.Run.{Ask, Issue, Wait, Arrive, Pass, Answer, Halt, Finish, Stuck, UsedUp}
use Rattle.sc_meaning.specs.declared.request.Request.{Request}
use Rattle.sc_meaning.specs.declared.request.Request.TheVariants.{Sync}
use Rattle.sc_meaning.specs.Asking as source
use Rattle.sc_meaning.specs.History.{barrier_of}
use Rattle.sc_meaning.specs.OfAccess.{request_in, unlined}
use Rattle.node_emit.specs.Pointed.{Asked, Came, PointedAsking}
use Rattle.node_emit.specs.Oracles.{Oracle, Shown, at, requests, Story, Progress, issued, waited, landing, passing}

-- the answers that the oracle gives along code, as far as they fit
abbrev pub answers_played : Oracle → Progress → PointedAsking → List Answer
answers_played oracle p (Makes (Came t) rest) = answers_played oracle p rest
answers_played oracle p (Makes (Asked (Issue access)) rest) = answers_played oracle (issued access p) rest
answers_played oracle p (Makes (Asked ask) rest) = answers_played oracle p rest
answers_played oracle p (Asks (Asked (Wait counter)) fits go) =
    if fits (landing oracle counter p)
    then landing oracle counter p ∷ answers_played oracle (waited counter p) (go (landing oracle counter p)) else []
answers_played oracle p (Asks (Asked Pass) fits go) =
    if fits (passing oracle p)
    then passing oracle p ∷ answers_played oracle (record p { barriers = suc p.barriers }) (go (passing oracle p))
    else []
answers_played oracle p (Says text rest) = answers_played oracle p rest
answers_played oracle p _ = []

-- ---- stories without their points

abbrev pub request_shown : Shown → Option Request
request_shown (at point) = None
request_shown (requests request) = Some request

abbrev pub without_points : Story → RunOf Request End
without_points story = record { events = filter_map request_shown story.events; text = story.text; end = story.end }

-- ---- what a run shows, as a story does: how it ends is shown where the node finishes

-- issues, waits for explicit accesses and arrivals are requests
abbrev pub request_asked : Ask → Option Request
request_asked (Issue access) = Some (request_in access)
request_asked (Wait counter) = if counter == 0 then Some (Sync 0) else None
request_asked (Arrive stores) = Some (barrier_of stores 0)
request_asked Pass = None

abbrev pub code_end : RunEnd Halt → RunEnd End
code_end (Ends (Finish end)) = Ends end
code_end (Ends Stuck) = Short
code_end (Ends UsedUp) = Short
code_end Short = Short

abbrev pub code_shows : RunOf Ask Halt → RunOf Request End
code_shows run = record { events = filter_map request_asked run.events; text = run.text; end = code_end run.end }

abbrev pub source_end : RunEnd source.Halt → RunEnd End
source_end (Ends (source.Finishes end)) = Ends end
source_end (Ends source.Breaks) = Short
source_end Short = Short

abbrev pub source_shows : RunOf Request source.Halt → RunOf Request End
source_shows run = record { events = map unlined run.events; text = run.text; end = source_end run.end }
