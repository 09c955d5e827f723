-- How a runner comes to what is seen.
use Rattle.std.proofs.Common.{◌≡◌, ℕ, true, Some, List, [], ◌∷◌, ◌++◌, refl, sym, ap, ◌∙◌, subst}
use Rattle.std.proofs.lemmas.List.{append-nil}
use Rattle.resumption.specs.Resumption as doing
use Rattle.resumption.specs.Resumption.{next_text, past_text}
use Rattle.sc_base.specs.declared.value.Value.{Value}
use Rattle.sc_meaning.specs.Asking.{Breaks, SourceDoing}
use Rattle.sc_meaning.specs.Meaning.{Setting}
use Rattle.sc_meaning.specs.Memory.{Memory}
use Rattle.core_machine.specs.Todo.{Todo}
use Rattle.core_machine.specs.Moves.{at_work, halted}
use Rattle.core_machine.specs.Runs.{Runs, stops}
use Rattle.core_machine.proofs.Leading.{stopped}
use Rattle.core_run.specs.declared.runner.Runner.{Runner}
use Rattle.core_run.specs.declared.step.Step.{Step}
use Rattle.core_run.specs.declared.step.Step.TheVariants as step
use Rattle.core_run.specs.declared.step.Halt.TheVariants as halt
use Rattle.core_run.specs.declared.task.Task.{Task}
use Rattle.core_run.specs.declared.task.Task.TheVariants as task
use Rattle.core_run.specs.Views.{todos_of, step_of, all_of, setting_of, working, Becomes}
use Rattle.core_run.specs.Seen.{Stands, Towards, IsTowards, is_seen, Shows}
use Rattle.core_run.proofs.Advancing.{none_is, stops_at}
use Rattle.core_run.proofs.Answering.{stands_so}

pub step_seen : (t : Task) (s : Step) (ts : List Todo) → step_of t ≡ Some s → is_seen (todos_of t ++ ts) ≡ true
step_seen (task.Read place line) s ts e = refl
step_seen (task.Fill local place line) s ts e = refl
step_seen (task.Sync line) s ts e = refl
step_seen (task.Meet stores line) s ts e = refl
step_seen (task.Request request) s ts e = refl
step_seen (task.Halt h) s ts e = refl
step_seen _ s ts e = none_is s e

-- the first piece of work is taken
pub taken_off : (r : Runner) (t : Task) (ts : List Task) (text : List ℕ) (rest : SourceDoing) → r.tasks ≡ t ∷ ts → IsTowards text rest r
    → Towards text rest (setting_of r) (working (record r { tasks = ts }) (todos_of t)) r.printed.items
taken_off r t ts text rest e w =
    subst (λ all. Towards text rest (setting_of r) (at_work (all_of all) r.values r.memory r.left) r.printed.items) e w

pub stops_there : (r : Runner) (t : Task) (ts us : List Task) (s : Step) (text : List ℕ) (rest : SourceDoing) → r.tasks ≡ t ∷ ts
    → us ≡ t ∷ ts → step_of t ≡ Some s → IsTowards text rest r
    → Stands (record r { tasks = us }) rest × Shows rest s × (r.printed.items ≡ text)
stops_there r t ts us s text rest e again is w =
    let h = stops_at (record r { tasks = ts }) t s text rest (taken_off r t ts text rest e w) is in
    (subst (λ us. Runs (setting_of r) (at_work (all_of us) r.values r.memory r.left) rest) (sym again) h.0, h.1, h.2)

-- from where it stands it is on the way
pub sets_out : (r : Runner) (d : SourceDoing) → Stands r d → IsTowards (r.printed.items ++ next_text d) (past_text d) r
sets_out r d h = record { doing = d; runs = h; said = refl; past = refl }

-- ---- with nothing left to do

breaks : (here : Setting) (vs : List Value) (m : Memory) (left : ℕ) (d : SourceDoing) → Runs here (at_work [] vs m left) d → d ≡ doing.Stops Breaks
breaks here vs m left (doing.Asks r f g) runs = absurd (stopped here _ _ (doing.Asks r f g) refl runs)
breaks here vs m left (doing.Makes r rest) runs = absurd (stopped here _ _ (doing.Makes r rest) refl runs)
breaks here vs m left (doing.Says t rest) runs = absurd (stopped here _ _ (doing.Says t rest) refl runs)
breaks here vs m left (doing.Stops h) runs = ap doing.Stops (sym (stopped here _ _ (doing.Stops h) refl runs))

pub breaks_there : (r new : Runner) (ts : List Task) (text : List ℕ) (rest : SourceDoing) → r.tasks ≡ []
    → Becomes (record r { tasks = ts }) (halted Breaks (all_of ts) r.values r.memory r.left) new → IsTowards text rest r
    → Stands new rest × Shows rest (step.Stops halt.Breaks) × (new.printed.items ≡ text)
breaks_there r new ts text rest e b w =
    let d : w.doing ≡ doing.Stops Breaks = breaks (setting_of r) r.values r.memory r.left w.doing
    (subst (λ all. Runs (setting_of r) (at_work (all_of all) r.values r.memory r.left) w.doing) e w.runs) in
    let is : doing.Stops Breaks ≡ rest = sym (ap past_text d) ∙ w.past in (
      subst (λ d. Stands new d) is (stands_so (record r { tasks = ts }) new (halted Breaks (all_of ts) r.values r.memory r.left) (doing.Stops Breaks) b (stops refl)),
      subst (λ d. Shows d (step.Stops halt.Breaks)) is refl,
      ap (λ p. p.items) b.printed ∙ sym (append-nil r.printed.items) ∙ ap (λ d. r.printed.items ++ next_text d) (sym d) ∙ w.said,
    )
