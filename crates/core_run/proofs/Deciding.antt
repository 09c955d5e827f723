-- What follows a test of the last value.
use Rattle.std.proofs.Common.{◌≡◌, Bool, true, false, Option, Some, None, List, [], ◌∷◌, ◌++◌, sym, ap, ◌∙◌}
use Rattle.sc_base.specs.declared.value.Value.{Value}
use Rattle.sc_meaning.specs.Asking.{Breaks}
use Rattle.core_machine.specs.Todo.{Todo, State}
use Rattle.core_machine.specs.Moves.{at_work, halted, truth_of, chosen, by_value}
use Rattle.core_run.specs.declared.runner.Runner.{Runner}
use Rattle.core_run.specs.declared.task.Task.{Task}
use Rattle.core_run.specs.Views.{todos_of, all_of, setting_of, by, branched, Becomes}

-- the last value is taken, and this is what it is as a test
abbrev pub Tested : Runner → Runner → Bool → Option Bool → Type 0
Tested old mid of_pointer result =
    (on off : List Value → State) → by_value old.values (λ v vs. chosen (truth_of (setting_of old) of_pointer v) (on vs) (off vs)
    (by (record old { values = vs }) (halted Breaks))) (by old (halted Breaks))
    ≡ chosen result (on mid.values) (off mid.values) (by mid (halted Breaks))

module _ (old mid : Runner) (of_pointer : Bool) (result : Option Bool) (test : Tested old mid of_pointer result)
    (kept : mid ≡ record old { values = mid.values }) (on off : Todo) where
  branches : (o : Option Bool) → result ≡ o → by old (branched (setting_of old) of_pointer on off)
      ≡ chosen o (at_work (on ∷ all_of old.tasks) mid.values old.memory old.left)
      (at_work (off ∷ all_of old.tasks) mid.values old.memory old.left) (by mid (halted Breaks))
  branches o e =
      test (λ vs. at_work (on ∷ all_of old.tasks) vs old.memory old.left) (λ vs. at_work (off ∷ all_of old.tasks) vs old.memory old.left)
      ∙ ap (λ o. chosen o (at_work (on ∷ all_of old.tasks) mid.values old.memory old.left)
      (at_work (off ∷ all_of old.tasks) mid.values old.memory old.left) (by mid (halted Breaks))) e

  -- with this work before the rest
  goes_to : (t : Task) (ts : List Task) (todo : Todo) → ts ≡ t ∷ mid.tasks → todos_of t ≡ todo ∷ []
      → at_work (all_of ts) mid.values mid.memory mid.left ≡ at_work (todo ∷ all_of old.tasks) mid.values old.memory old.left
  goes_to t ts todo e is =
      ap (λ ts. at_work (all_of ts) mid.values mid.memory mid.left) e
      ∙ ap (λ here. at_work (here ++ all_of mid.tasks) mid.values mid.memory mid.left) is
      ∙ ap (λ r. at_work (todo ∷ all_of r.tasks) mid.values r.memory r.left) kept

  pub if_true : (t : Task) (ts : List Task) → result ≡ Some true → todos_of t ≡ on ∷ [] → ts ≡ t ∷ mid.tasks
      → Becomes old (by old (branched (setting_of old) of_pointer on off)) (record mid { tasks = ts })
  if_true t ts so is e = record {
    state = goes_to t ts on e is ∙ sym (branches (Some true) so);
    program = ap (λ r. r.program) kept;
    layout = ap (λ r. r.layout) kept;
    node = ap (λ r. r.node) kept;
    printed = ap (λ r. r.printed) kept;
  }

  pub if_false : (t : Task) (ts : List Task) → result ≡ Some false → todos_of t ≡ off ∷ [] → ts ≡ t ∷ mid.tasks
      → Becomes old (by old (branched (setting_of old) of_pointer on off)) (record mid { tasks = ts })
  if_false t ts so is e = record {
    state = goes_to t ts off e is ∙ sym (branches (Some false) so);
    program = ap (λ r. r.program) kept;
    layout = ap (λ r. r.layout) kept;
    node = ap (λ r. r.node) kept;
    printed = ap (λ r. r.printed) kept;
  }

  pub if_none : (new : Runner) → result ≡ None → Becomes mid (by mid (halted Breaks)) new
      → Becomes old (by old (branched (setting_of old) of_pointer on off)) new
  if_none new so b = record {
    state = b.state ∙ sym (branches None so);
    program = b.program ∙ ap (λ r. r.program) kept;
    layout = b.layout ∙ ap (λ r. r.layout) kept;
    node = b.node ∙ ap (λ r. r.node) kept;
    printed = b.printed ∙ ap (λ r. r.printed) kept;
  }
