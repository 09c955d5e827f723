-- A state runs one resumption.
use Rattle.std.proofs.Common.{◌≡◌, Bool, refl, sym, ap, ◌∙◌, subst}
use Rattle.resumption.specs.Resumption as doing
use Rattle.sc_meaning.specs.declared.request.Request.{Request}
use Rattle.sc_meaning.specs.Asking.{Answer, SourceDoing}
use Rattle.sc_meaning.specs.Meaning.{Setting}
use Rattle.core_machine.specs.Todo.{State}
use Rattle.core_machine.specs.Runs.{Runs, goes, asks, makes, says, stops}
use Rattle.core_machine.proofs.Leading.{goes_on, Asked, asked, Made, made, Said, said, Stopped, stopped}

module _ (here : Setting) where
  same_asked : (s : State) (request : Request) (fits : Answer → Bool) (next : Answer → State) (go : Answer → SourceDoing) (d : SourceDoing)
      → ((answer : Answer) (d : SourceDoing) → Runs here (next answer) d → go answer ≡ d)
      → Asked here s request fits next d → doing.Asks request fits go ≡ d
  same_asked s request fits next go (doing.Asks r f g) once h =
      ap (λ r. doing.Asks r fits go) h.0 ∙ ap (λ f. doing.Asks r f go) h.1
      ∙ ap (λ g. doing.Asks r f g) (λ i answer. once answer (g answer) (h.2 answer) i)
  same_asked s request fits next go (doing.Makes r rest) once h = absurd h
  same_asked s request fits next go (doing.Says t rest) once h = absurd h
  same_asked s request fits next go (doing.Stops halt) once h = absurd h

  same_made : (s next : State) (request : Request) (rest d : SourceDoing) → ((d : SourceDoing) → Runs here next d → rest ≡ d)
      → Made here s request next d → doing.Makes request rest ≡ d
  same_made s next request rest (doing.Asks r f g) once h = absurd h
  same_made s next request rest (doing.Makes r other) once h = ap (λ r. doing.Makes r rest) h.0 ∙ ap (doing.Makes r) (once other h.1)
  same_made s next request rest (doing.Says t other) once h = absurd h
  same_made s next request rest (doing.Stops halt) once h = absurd h

  same_said : (s next : State) (text : _) (rest d : SourceDoing) → ((d : SourceDoing) → Runs here next d → rest ≡ d)
      → Said here s text next d → doing.Says text rest ≡ d
  same_said s next text rest (doing.Asks r f g) once h = absurd h
  same_said s next text rest (doing.Makes r other) once h = absurd h
  same_said s next text rest (doing.Says t other) once h = ap (λ t. doing.Says t rest) h.0 ∙ ap (doing.Says t) (once other h.1)
  same_said s next text rest (doing.Stops halt) once h = absurd h

  same_stopped : (s : State) (halt : _) (d : SourceDoing) → Stopped here s halt d → doing.Stops halt ≡ d
  same_stopped s halt (doing.Asks r f g) h = absurd h
  same_stopped s halt (doing.Makes r rest) h = absurd h
  same_stopped s halt (doing.Says t rest) h = absurd h
  same_stopped s halt (doing.Stops other) h = ap doing.Stops h

  pub runs_once : (s : State) (d d' : SourceDoing) → Runs here s d → Runs here s d' → d ≡ d'
  runs_once s d d' (goes {next = next} e r) r' = runs_once next d d' r (goes_on here s next d' e r')
  runs_once s d d' (asks {request = request} {fits = fits} {next = next} {go = go} e h) r' =
      same_asked s request fits next go d' (λ answer d'. runs_once (next answer) (go answer) d' (h answer)) (asked here s request fits next d' e r')
  runs_once s d d' (makes {next = next} {request = request} {d = rest} e r) r' =
      same_made s next request rest d' (λ d'. runs_once next rest d' r) (made here s request next d' e r')
  runs_once s d d' (says {next = next} {text = text} {d = rest} e r) r' =
      same_said s next text rest d' (λ d'. runs_once next rest d' r) (said here s text next d' e r')
  runs_once s d d' (stops {halt = halt} e) r' = same_stopped s halt d' (stopped here s halt d' e r')
