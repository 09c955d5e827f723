-- What an answer leaves to do.
use Rattle.std.proofs.Common.{◌≡◌, ℕ, Bool, true, false, Option, Some, None, List, [], ◌∷◌, ◌++◌, map, MatchOption, IfSome, refl, sym, ap, ◌∙◌, subst}
use Rattle.resumption.specs.Resumption as doing
use Rattle.sc_base.specs.declared.value.Value.{Value}
use Rattle.sc_core.specs.declared.expression.CoreLink.{CoreLink}
use Rattle.sc_core.specs.ViewParts.{plain_core_link}
use Rattle.sc_meaning.specs.declared.request.Request.{Request}
use Rattle.sc_meaning.specs.Asking.{Answer, SourceDoing}
use Rattle.sc_meaning.specs.Meaning.{Setting}
use Rattle.sc_meaning.specs.Memory.{Memory}
use Rattle.core_machine.specs.Todo.{Todo, State}
use Rattle.core_machine.specs.Links.{unlinked}
use Rattle.core_machine.specs.Moves.{at_work}
use Rattle.core_machine.specs.Runs.{Runs}
use Rattle.core_machine.proofs.Leading.{asked, made, stopped}
use Rattle.core_run.specs.declared.runner.Runner.{Runner}
use Rattle.core_run.specs.declared.task.Task.{Task}
use Rattle.core_run.specs.declared.task.Task.TheVariants as task
use Rattle.core_run.specs.Views.{todos_of, all_of, setting_of, state_of, Becomes}
use Rattle.core_run.specs.Seen.{Stands, is_seen, no_links, is_nothing, fits_task, next_by}
use Rattle.core_run.proofs.Advancing.{same_setting}

not_true : {A : Type 0} → false ≡ true → A
not_true e = absurd cc

not_false : {A : Type 0} → true ≡ false → A
not_false e = absurd cc

-- links are not seen
no_seen_links : {A : Type 0} → (ls : List CoreLink) (ts : List Todo) → no_links ls ≡ false
    → is_seen (unlinked (map plain_core_link ls) ++ ts) ≡ true → A
no_seen_links [] ts none seen = not_false none
no_seen_links (l ∷ ls) ts none seen = not_true seen

-- ---- a request that is answered

-- what is known of the answer to a piece of work
pub record Taken (here : Setting) (t : Task) (ts : List Todo) (vs : List Value) (m : Memory) (left : ℕ) (f : Answer → Bool) (go : Answer → SourceDoing) (answer : Answer) : Type 0 where
  pub fitting : fits_task here.layout m t answer ≡ f answer
  pub goes : Runs here (next_by t answer ts vs m left) (go answer)

module _ (here : Setting) (r : Request) (f : Answer → Bool) (go : Answer → SourceDoing) (answer : Answer) where
  pub taken : (t : Task) (ts : List Todo) (vs : List Value) (m : Memory) (left : ℕ)
      → is_nothing t ≡ false → is_seen (todos_of t ++ ts) ≡ true
      → Runs here (at_work (todos_of t ++ ts) vs m left) (doing.Asks r f go) → Taken here t ts vs m left f go answer
  taken (task.Read place line) ts vs m left some seen runs =
      let h = asked here _ _ _ _ (doing.Asks r f go) refl runs in record { fitting = ap (λ f. f answer) h.1; goes = h.2 answer }
  taken (task.Fill local place line) ts vs m left some seen runs =
      let h = asked here _ _ _ _ (doing.Asks r f go) refl runs in record { fitting = ap (λ f. f answer) h.1; goes = h.2 answer }
  taken (task.Sync line) ts vs m left some seen runs =
      let h = asked here _ _ _ _ (doing.Asks r f go) refl runs in record { fitting = ap (λ f. f answer) h.1; goes = h.2 answer }
  taken (task.Meet stores line) ts vs m left some seen runs =
      let h = asked here _ _ _ _ (doing.Asks r f go) refl runs in record { fitting = ap (λ f. f answer) h.1; goes = h.2 answer }
  taken (task.Request request) ts vs m left some seen runs = absurd (made here _ _ _ (doing.Asks r f go) refl runs)
  taken (task.Halt h) ts vs m left some seen runs = absurd (stopped here _ _ (doing.Asks r f go) refl runs)
  taken (task.Links all) ts vs m left some seen runs = no_seen_links all.now ts some seen
  taken _ ts vs m left some seen runs = not_true seen

-- ---- a request that is not

passed_on : (here : Setting) (r : Request) (rest : SourceDoing) (t : Task) (ts : List Todo) (vs : List Value) (m : Memory) (left : ℕ)
    → is_nothing t ≡ false → is_seen (todos_of t ++ ts) ≡ true
    → Runs here (at_work (todos_of t ++ ts) vs m left) (doing.Makes r rest) → Runs here (at_work ts vs m left) rest
passed_on here r rest (task.Read place line) ts vs m left some seen runs = absurd (asked here _ _ _ _ (doing.Makes r rest) refl runs)
passed_on here r rest (task.Fill local place line) ts vs m left some seen runs = absurd (asked here _ _ _ _ (doing.Makes r rest) refl runs)
passed_on here r rest (task.Sync line) ts vs m left some seen runs = absurd (asked here _ _ _ _ (doing.Makes r rest) refl runs)
passed_on here r rest (task.Meet stores line) ts vs m left some seen runs = absurd (asked here _ _ _ _ (doing.Makes r rest) refl runs)
passed_on here r rest (task.Request request) ts vs m left some seen runs = (made here _ _ _ (doing.Makes r rest) refl runs).1
passed_on here r rest (task.Halt h) ts vs m left some seen runs = absurd (stopped here _ _ (doing.Makes r rest) refl runs)
passed_on here r rest (task.Links all) ts vs m left some seen runs = no_seen_links all.now ts some seen
passed_on here r rest _ ts vs m left some seen runs = not_true seen

-- ---- of a runner

-- a runner in this state of the same node
pub stands_so : (old new : Runner) (s : State) (d : SourceDoing) → Becomes old s new → Runs (setting_of old) s d → Stands new d
stands_so old new s d b runs =
    subst (λ here. Runs here (state_of new) d) (sym (same_setting old new s b))
    (subst (λ s. Runs (setting_of old) s d) (sym b.state) runs)

-- with one piece of work less
pub record Less (old : Runner) (t : Task) (new : Runner) : Type 0 where
  pub before : all_of old.tasks ≡ todos_of t ++ all_of new.tasks
  pub some : is_nothing t ≡ false
  pub kept : new ≡ record old { tasks = new.tasks }
  pub seen : is_seen (all_of old.tasks) ≡ true

less_seen : (old new : Runner) (t : Task) → Less old t new → is_seen (todos_of t ++ all_of new.tasks) ≡ true
less_seen old new t l = subst (λ ts. is_seen ts ≡ true) l.before l.seen

less_runs : (old new : Runner) (t : Task) (d : SourceDoing) → Less old t new → Stands old d
    → Runs (setting_of new) (at_work (todos_of t ++ all_of new.tasks) new.values new.memory new.left) d
less_runs old new t d l runs =
    subst (λ (r : Runner). Runs (setting_of r) (at_work (todos_of t ++ all_of new.tasks) r.values r.memory r.left) d) (sym l.kept)
    (subst (λ ts. Runs (setting_of old) (at_work ts old.values old.memory old.left) d) l.before runs)

pub less_taken : (old new : Runner) (t : Task) (r : Request) (f : Answer → Bool) (go : Answer → SourceDoing) (answer : Answer)
    → Less old t new → Stands old (doing.Asks r f go)
    → Taken (setting_of new) t (all_of new.tasks) new.values new.memory new.left f go answer
less_taken old new t r f go answer l runs =
    taken (setting_of new) r f go answer t (all_of new.tasks) new.values new.memory new.left l.some (less_seen old new t l)
    (less_runs old new t (doing.Asks r f go) l runs)

pub less_passed : (old new : Runner) (t : Task) (r : Request) (rest : SourceDoing) → Less old t new → Stands old (doing.Makes r rest) → Stands new rest
less_passed old new t r rest l runs =
    passed_on (setting_of new) r rest t (all_of new.tasks) new.values new.memory new.left l.some (less_seen old new t l)
    (less_runs old new t (doing.Makes r rest) l runs)

pub passes_on : (old new : Runner) (o : Option Task)
    → MatchOption o (all_of old.tasks ≡ []) (λ t. all_of old.tasks ≡ todos_of t ++ all_of new.tasks)
    → IfSome o (λ t. is_nothing t ≡ false) → new ≡ record old { tasks = new.tasks } → is_seen (all_of old.tasks) ≡ true
    → (r : Request) (rest : SourceDoing) → Stands old (doing.Makes r rest) → Stands new rest
passes_on old new None before some kept seen r rest runs = not_true (sym (ap is_seen before) ∙ seen)
passes_on old new (Some t) before some kept seen r rest runs =
    less_passed old new t r rest (record { before = before; some = some; kept = kept; seen = seen }) runs
