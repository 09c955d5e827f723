-- What a node with pending work does from there on: it does all that the resumption does, and nothing else.
use Rattle.std.specs.Prelude.{◌≡◌, ℕ, Bool, List}
use Rattle.resumption.specs.Resumption as doing
use Rattle.sc_meaning.specs.declared.request.Request.{Request}
use Rattle.sc_meaning.specs.Asking.{Answer, Halt, SourceDoing}
use Rattle.sc_meaning.specs.Meaning.{Setting}
use Rattle.core_machine.specs.Todo.{State, Goes, Asks, Makes, Says, Stops}
use Rattle.core_machine.specs.Moves.{move_of}

module _ (here : Setting) where
  pub data Runs : State → SourceDoing → Type 0 where
    goes : {s next : State} {d : SourceDoing} → move_of here s ≡ Goes next → Runs next d → Runs s d
    asks : {s : State} {request : Request} {fits : Answer → Bool} {next : Answer → State}
        {go : Answer → SourceDoing}
        → move_of here s ≡ Asks request fits next → ((answer : Answer) → Runs (next answer) (go answer))
        → Runs s (doing.Asks request fits go)
    makes : {s next : State} {request : Request} {d : SourceDoing} → move_of here s ≡ Makes request next
        → Runs next d
        → Runs s (doing.Makes request d)
    says : {s next : State} {text : List ℕ} {d : SourceDoing} → move_of here s ≡ Says text next → Runs next d
        → Runs s (doing.Says text d)
    stops : {s : State} {halt : Halt} → move_of here s ≡ Stops halt → Runs s (doing.Stops halt)
