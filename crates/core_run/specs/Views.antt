-- What a runner has left to do, and what it stands for.
use Rattle.std.specs.Prelude.{◌≡◌, ℕ, Bool, Option, Some, None, List, [], ◌∷◌, ◌++◌, map}
use Rattle.sc_base.specs.declared.value.Value.{Value}
use Rattle.sc_core.specs.declared.expression.CoreExpr.{CoreExpr, out-CoreExpr}
use Rattle.sc_core.specs.Core.{Core, constant}
use Rattle.sc_core.specs.View.{Linked, plain_core, arguments_of, every_of, any_of}
use Rattle.sc_core.specs.ViewParts.{plain_core_first, plain_core_link, plain_core_test, plain_core_arm}
use Rattle.sc_core.specs.ViewStatements.{plain_does, block_of, chosen as arms_of, plain_program}
use Rattle.sc_core.specs.Places.{number_one, number_zero}
use Rattle.sc_meaning.specs.declared.request.Request.TheVariants as request
use Rattle.sc_meaning.specs.Steps.{barrier_request}
use Rattle.sc_meaning.specs.Asking.{Answer, Shown, Landed, Passed, Broken, Halt, Finishes, Breaks}
use Rattle.sc_meaning.specs.Meaning.{Setting}
use Rattle.sc_meaning.specs.Memory.{Memory}
use Rattle.core_run.specs.declared.runner.Runner.{Runner}
use Rattle.core_run.specs.declared.step.Answer.{Answer as Given}
use Rattle.core_run.specs.declared.step.Answer.TheVariants as given
use Rattle.core_run.specs.declared.step.Halt.{Halt as Halted}
use Rattle.core_run.specs.declared.step.Halt.TheVariants as halt
use Rattle.core_run.specs.declared.step.Step.{Step}
use Rattle.core_run.specs.declared.step.Step.TheVariants as step
use Rattle.core_run.specs.declared.task.Task.{Task}
use Rattle.core_run.specs.declared.task.Task.TheVariants as task
use Rattle.core_machine.specs.Todo.{Todo, evaluates, takes_each, performs, decides, doubles, gains, does_, enacts}
use Rattle.core_machine.specs.Todo.{chooses, rounds_of, turn_of, after_of, returns, closes, reads_from, fills_from}
use Rattle.core_machine.specs.Todo.{syncs, meets_at, requests, halts, State}
use Rattle.core_machine.specs.Links.{unlinked}
use Rattle.core_machine.specs.Moves.{at_work, halted, by_value, chosen, truth_of}

abbrev pub plain_halt : Halted → Halt
plain_halt (halt.Finishes end) = Finishes end
plain_halt halt.Breaks = Breaks

abbrev pub plain_answer : Given → Answer
plain_answer (given.Shown value) = Shown value
plain_answer (given.Landed values) = Landed values.now
plain_answer given.Passed = Passed
plain_answer given.Broken = Broken

-- what an expression begins with, and its links
abbrev pub first_of : CoreExpr → Core
first_of e = plain_core_first (out-CoreExpr e).first

abbrev pub links_of : CoreExpr → List Linked
links_of e = map plain_core_link (out-CoreExpr e).links

-- what a piece of work is in the plain machine
abbrev pub todos_of : Task → List Todo
todos_of (task.Evaluate e) = evaluates (plain_core e.now) ∷ []
todos_of (task.First first) = evaluates (plain_core_first first.now) ∷ []
todos_of (task.Arguments all) = takes_each (arguments_of (map plain_core all.now)) ∷ []
todos_of (task.Links all) = unlinked (map plain_core_link all.now)
todos_of (task.Constant c) = evaluates (constant c) ∷ []
todos_of (task.Every all) = evaluates (every_of (map plain_core_test all.now)) ∷ []
todos_of (task.Any all) = evaluates (any_of (map plain_core_test all.now)) ∷ []
todos_of (task.DecideEvery of_pointer more) =
    decides of_pointer (every_of (map plain_core_test more.now)) number_zero ∷ []
todos_of (task.DecideAny of_pointer more) = decides of_pointer number_one (any_of (map plain_core_test more.now)) ∷ []
todos_of (task.Decide of_pointer on off) = decides of_pointer (plain_core on.now) (plain_core off.now) ∷ []
todos_of (task.Perform operation n line) = performs operation n line ∷ []
todos_of task.Double = doubles ∷ []
todos_of (task.Gain value) = gains value ∷ []
todos_of (task.Do s) = does_ (plain_does s.now) ∷ []
todos_of (task.Block all) = does_ (block_of (map plain_does all.now)) ∷ []
todos_of (task.Choose arms rest) = does_ (arms_of (map plain_core_arm arms.now) (plain_does rest.now)) ∷ []
todos_of (task.DecideArm of_pointer body arms rest) =
    chooses of_pointer (plain_does body.now) (arms_of (map plain_core_arm arms.now) (plain_does rest.now)) ∷ []
todos_of (task.Enact action n line) = enacts action n line ∷ []
todos_of (task.Rounds l) = rounds_of (plain_does l.before.now) (plain_does l.body.now) (plain_does l.after.now) ∷ []
todos_of (task.Turn l) = turn_of (plain_does l.before.now) (plain_does l.body.now) (plain_does l.after.now) ∷ []
todos_of (task.After l) = after_of (plain_does l.before.now) (plain_does l.body.now) (plain_does l.after.now) ∷ []
todos_of (task.Return line) = returns line ∷ []
todos_of (task.Close at_end line) = closes at_end line ∷ []
todos_of (task.Read place line) = reads_from place line ∷ []
todos_of (task.Fill local place line) = fills_from local place line ∷ []
todos_of (task.Sync line) = syncs line ∷ []
todos_of (task.Meet stores line) = meets_at stores line ∷ []
todos_of (task.Request request) = requests request ∷ []
todos_of (task.Halt h) = halts (plain_halt h) ∷ []

-- what the node does at it, if it is seen
abbrev pub step_of : Task → Option Step
step_of (task.Read place line) = Some (step.Asks (request.Read place line))
step_of (task.Fill local place line) = Some (step.Asks (request.Read place line))
step_of (task.Sync line) = Some (step.Asks (request.Sync line))
step_of (task.Meet stores line) = Some (step.Asks (barrier_request stores line))
step_of (task.Request r) = Some (step.Makes r)
step_of (task.Halt h) = Some (step.Stops h)
step_of _ = None

abbrev pub all_of : List Task → List Todo
all_of [] = []
all_of (t ∷ ts) = todos_of t ++ all_of ts

abbrev pub setting_of : Runner → Setting
setting_of r = record { layout = r.layout.now; node = r.node; program = plain_program r.program.now }

-- its state, and that with this work before the rest
abbrev pub working : Runner → List Todo → State
working r ts = at_work (ts ++ all_of r.tasks) r.values r.memory r.left

abbrev pub state_of : Runner → State
state_of r = at_work (all_of r.tasks) r.values r.memory r.left

-- by what it has left to do, its values, what it remembers and its budget
abbrev pub by : Runner → (List Todo → List Value → Memory → ℕ → State) → State
by r f = f (all_of r.tasks) r.values r.memory r.left

-- by the last value as a test, one piece of work or another
abbrev pub branched : Setting → (of_pointer : Bool) → (on off : Todo) → List Todo → List Value →
    Memory → ℕ → State
branched here of_pointer on off ts vs m left =
    by_value vs (λ v vs. chosen (truth_of here of_pointer v)
    (at_work (on ∷ ts) vs m left) (at_work (off ∷ ts) vs m left) (halted Breaks ts vs m left))
    (halted Breaks ts vs m left)

-- the same node of the same source stands so now
pub record Becomes (old : Runner) (s : State) (new : Runner) : Type 0 where
  pub state : state_of new ≡ s
  pub program : new.program ≡ old.program
  pub layout : new.layout ≡ old.layout
  pub node : new.node ≡ old.node
  pub printed : new.printed ≡ old.printed
