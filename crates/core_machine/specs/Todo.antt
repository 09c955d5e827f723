-- What a node that walks its core tree has left to do, in the form of the machines of Landin, "The mechanical
-- evaluation of expressions" (1964): a list of pending work, the next first, and the values that it made, the last
-- first.
use Rattle.std.specs.Prelude.{ℕ, Bool, List}
use Rattle.sc_base.specs.declared.value.Place.{Place}
use Rattle.sc_base.specs.declared.value.Value.{Value}
use Rattle.sc_core.specs.declared.operation.Action.{Action}
use Rattle.sc_core.specs.declared.operation.Constant.{Constant}
use Rattle.sc_core.specs.declared.operation.Operation.{Operation}
use Rattle.sc_core.specs.Core.{Core, Arguments, Does}
use Rattle.sc_meaning.specs.declared.request.Request.{Request}
use Rattle.sc_meaning.specs.Asking.{Answer, Halt}
use Rattle.sc_meaning.specs.Memory.{Memory}

pub data Todo : Type 0 where
  -- the value of an expression; the values of arguments, in their order
  evaluates : Core → Todo
  takes_each : Arguments → Todo
  -- a step by so many values
  performs : Operation → (count line : ℕ) → Todo
  -- a test of the last value, and which expression is evaluated then
  decides : (of_pointer : Bool) → (on off : Core) → Todo
  -- the last value once more, and a value of its own
  doubles : Todo
  gains : Value → Todo
  -- a statement; a step without a value; a test, and which statement is done then
  does_ : Does → Todo
  enacts : Action → (count line : ℕ) → Todo
  chooses : (of_pointer : Bool) → (on off : Does) → Todo
  -- a loop: what is done before a turn, a turn, and what is done after its body
  rounds_of : (before body after : Does) → Todo
  turn_of : (before body after : Does) → Todo
  after_of : (before body after : Does) → Todo
  -- a return with the last value, and where a function is left; it gives this where no return comes
  returns : (line : ℕ) → Todo
  closes : (at_end : Constant) → (line : ℕ) → Todo
  -- what is asked and shown of the node, and how it ends
  reads_from : Place → (line : ℕ) → Todo
  fills_from : (local : ℕ) → Place → (line : ℕ) → Todo
  syncs : (line : ℕ) → Todo
  meets_at : (stores : Bool) → (line : ℕ) → Todo
  requests : Request → Todo
  says : List ℕ → Todo
  halts : Halt → Todo

-- with what the node remembers, and how many turns and calls the budget leaves
pub record State : Type 0 where
  pub todo : List Todo
  pub values : List Value
  pub memory : Memory
  pub left : ℕ

-- what the node does next: it goes on unseen; it asks, says which answers fit, and goes on by the answer; it makes a
-- request that has no answer, or says a text, and goes on; or it stops
pub data Move : Type 0 where
  Goes : State → Move
  Asks : Request → (fits : Answer → Bool) → (go : Answer → State) → Move
  Makes : Request → State → Move
  Says : List ℕ → State → Move
  Stops : Halt → Move
