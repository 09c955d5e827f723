-- A runner that becomes what its work says stands for the same.
use Rattle.std.proofs.Common.{◌≡◌, ℕ, Bool, Some, None, List, [], ◌∷◌, ◌++◌, refl, sym, ap, ◌∙◌, subst}
use Rattle.std.proofs.lemmas.List.{append-nil}
use Rattle.resumption.specs.Resumption as doing
use Rattle.resumption.specs.Resumption.{next_text, past_text}
use Rattle.sc_base.specs.declared.value.Value.{Value}
use Rattle.sc_core.specs.Core.{Core}
use Rattle.sc_core.specs.declared.expression.CoreExpr.{CoreExpr}
use Rattle.sc_core.specs.View.{Linked, linked, plain_core}
use Rattle.sc_core.proofs.ViewCoreLaws.{core_expr-is}
use Rattle.sc_core.specs.ViewStatements.{plain_program}
use Rattle.sc_meaning.specs.declared.request.Request.{Request}
use Rattle.sc_meaning.specs.Asking.{Answer, SourceDoing}
use Rattle.sc_meaning.specs.Meaning.{Setting}
use Rattle.sc_meaning.specs.Memory.{Memory}
use Rattle.sc_core.specs.declared.operation.Constant.{Constant}
use Rattle.core_machine.specs.Todo.{Todo, evaluates, closes, requests, State, Goes, Asks}
use Rattle.core_machine.specs.Links.{unlinked}
use Rattle.core_machine.specs.Moves.{at_work, move_of, returned, left_by_return}
use Rattle.core_machine.specs.Runs.{Runs}
use Rattle.core_machine.proofs.Leading.{goes_on, asked, Asked, made, Made as MadeSo, stopped, Stopped, links_lead}
use Rattle.core_run.specs.declared.runner.Runner.{Runner}
use Rattle.core_run.specs.declared.step.Step.{Step}
use Rattle.core_run.specs.declared.step.Step.TheVariants as step
use Rattle.core_run.specs.declared.step.Halt.{Halt as Halted}
use Rattle.core_run.specs.declared.task.Task.{Task}
use Rattle.core_run.specs.declared.task.Task.TheVariants as task
use Rattle.core_run.specs.Views.{first_of, links_of, plain_halt, todos_of, step_of, all_of, setting_of, working, state_of, by, Becomes}
use Rattle.core_run.specs.Seen.{Towards, Leads, Shows}

-- it is the same node of the same source
pub same_setting : (old new : Runner) (s : State) → Becomes old s new → setting_of new ≡ setting_of old
same_setting old new s b =
    ap (λ p. record { layout = new.layout.now; node = new.node; program = plain_program p.now }) b.program
    ∙ ap (λ l. record { layout = l.now; node = new.node; program = plain_program old.program.now }) b.layout
    ∙ ap (λ n. record { layout = old.layout.now; node = n; program = plain_program old.program.now }) b.node

-- in a state that runs the same resumption, with as much printed
pub moved_on : (old new : Runner) (ts : List Todo) (s : State)
    → ((d : SourceDoing) → Runs (setting_of old) (working old ts) d → Runs (setting_of old) s d)
    → Becomes old s new → Leads old ts new
moved_on old new ts s runs b text rest t = record {
  doing = t.doing;
  runs = subst (λ here. Runs here (state_of new) t.doing) (sym (same_setting old new s b))
      (subst (λ s. Runs (setting_of old) s t.doing) (sym b.state) (runs t.doing t.runs));
  said = ap (λ p. p.items ++ next_text t.doing) b.printed ∙ t.said;
  past = t.past;
}

-- by one piece of work
pub leads : (old new : Runner) (t : Todo) (s : State) → move_of (setting_of old) (working old (t ∷ [])) ≡ Goes s → Becomes old s new
    → Leads old (t ∷ []) new
leads old new t s e b = moved_on old new (t ∷ []) s (λ d. goes_on (setting_of old) (working old (t ∷ [])) s d e) b

pub evaluates_linked : (old new : Runner) (whole first : Core) (ls : List Linked) → whole ≡ linked first ls
    → Becomes old (by old (λ ts. at_work (evaluates first ∷ unlinked ls ++ ts))) new → Leads old (evaluates whole ∷ []) new
evaluates_linked old new whole first ls e b =
    moved_on old new (evaluates whole ∷ []) (by old (λ ts. at_work (evaluates first ∷ unlinked ls ++ ts)))
    (λ d r. links_lead (setting_of old) first ls (all_of old.tasks) old.values old.memory old.left d
    (subst (λ e. Runs (setting_of old) (at_work (evaluates e ∷ all_of old.tasks) old.values old.memory old.left) d) e r)) b

-- ---- what is seen

shown_asked : (here : Setting) (s : State) (request : Request) (fits : Answer → Bool) (next : Answer → State) (d : SourceDoing)
    → Asked here s request fits next d → Shows d (step.Asks request)
shown_asked here s request fits next (doing.Asks r f g) h = ap step.Asks h.0
shown_asked here s request fits next (doing.Makes r rest) h = absurd h
shown_asked here s request fits next (doing.Says t rest) h = absurd h
shown_asked here s request fits next (doing.Stops halt) h = absurd h

shown_made : (here : Setting) (s : State) (request : Request) (next : State) (d : SourceDoing) → MadeSo here s request next d
    → Shows d (step.Makes request)
shown_made here s request next (doing.Asks r f g) h = absurd h
shown_made here s request next (doing.Makes r rest) h = ap step.Makes h.0
shown_made here s request next (doing.Says t rest) h = absurd h
shown_made here s request next (doing.Stops halt) h = absurd h

shown_stopped : (here : Setting) (s : State) (h : Halted) (d : SourceDoing) → Stopped here s (plain_halt h) d → Shows d (step.Stops h)
shown_stopped here s h (doing.Asks r f g) e = absurd e
shown_stopped here s h (doing.Makes r rest) e = absurd e
shown_stopped here s h (doing.Says t rest) e = absurd e
shown_stopped here s h (doing.Stops halt) e = e

in_some : {A : Type 0} → (x y : A) → Some x ≡ Some y → x ≡ y
in_some x y e = cc

some_is : {A : Type 0} → (P : A → Type 0) (x y : A) → Some x ≡ Some y → P x → P y
some_is P x y e h = subst P (in_some x y e) h

pub none_is : {A : Type 0} {B : Type 0} → (x : A) → None ≡ Some x → B
none_is x e = absurd cc

pub seen_shows : (here : Setting) (t : Task) (s : Step) (ts : List Todo) (vs : List Value) (m : Memory) (left : ℕ) (d : SourceDoing)
    → step_of t ≡ Some s → Runs here (at_work (todos_of t ++ ts) vs m left) d → Shows d s
seen_shows here (task.Read place line) s ts vs m left d e r =
    some_is (Shows d) _ s e (shown_asked here (at_work (todos_of (task.Read place line) ++ ts) vs m left) _ _ _ d (asked here _ _ _ _ d refl r))
seen_shows here (task.Fill local place line) s ts vs m left d e r =
    some_is (Shows d) _ s e (shown_asked here (at_work (todos_of (task.Fill local place line) ++ ts) vs m left) _ _ _ d (asked here _ _ _ _ d refl r))
seen_shows here (task.Sync line) s ts vs m left d e r =
    some_is (Shows d) _ s e (shown_asked here (at_work (todos_of (task.Sync line) ++ ts) vs m left) _ _ _ d (asked here _ _ _ _ d refl r))
seen_shows here (task.Meet stores line) s ts vs m left d e r =
    some_is (Shows d) _ s e (shown_asked here (at_work (todos_of (task.Meet stores line) ++ ts) vs m left) _ _ _ d (asked here _ _ _ _ d refl r))
seen_shows here (task.Request request) s ts vs m left d e r =
    some_is (Shows d) _ s e (shown_made here (at_work (todos_of (task.Request request) ++ ts) vs m left) _ _ d (made here _ _ _ d refl r))
seen_shows here (task.Halt h) s ts vs m left d e r =
    some_is (Shows d) _ s e (shown_stopped here (at_work (todos_of (task.Halt h) ++ ts) vs m left) h d (stopped here _ _ d refl r))
seen_shows here _ s ts vs m left d e r = none_is s e

pub at_once : (d : SourceDoing) (s : Step) → Shows d s → past_text d ≡ d
at_once (doing.Asks r f g) s h = refl
at_once (doing.Makes r rest) s h = refl
at_once (doing.Says t rest) s h = absurd h
at_once (doing.Stops halt) s h = refl

pub says_nothing : (d : SourceDoing) (s : Step) → Shows d s → next_text d ≡ []
says_nothing (doing.Asks r f g) s h = refl
says_nothing (doing.Makes r rest) s h = refl
says_nothing (doing.Says t rest) s h = absurd h
says_nothing (doing.Stops halt) s h = refl

-- the runner stands at what is seen
pub stops_at : (r : Runner) (t : Task) (s : Step) (text : List ℕ) (rest : SourceDoing)
    → Towards text rest (setting_of r) (working r (todos_of t)) r.printed.items → step_of t ≡ Some s
    → Runs (setting_of r) (working r (todos_of t)) rest × Shows rest s × (r.printed.items ≡ text)
stops_at r t s text rest w e =
    let shows = seen_shows (setting_of r) t s (all_of r.tasks) r.values r.memory r.left w.doing e w.runs in
    let same : w.doing ≡ rest = sym (at_once w.doing s shows) ∙ w.past in (
      subst (Runs (setting_of r) (working r (todos_of t))) same w.runs,
      subst (λ d. Shows d s) same shows,
      sym (append-nil r.printed.items) ∙ ap (λ t. r.printed.items ++ t) (sym (says_nothing w.doing s shows)) ∙ w.said,
    )

-- ---- answers

-- what is known of a runner that asks, where the answer is this
pub record Answers (here : Setting) (request : Request) (fits : Answer → Bool) (next : Answer → State) (go : Answer → SourceDoing) (f : Answer → Bool) (answer : Answer) : Type 0 where
  pub fitting : f answer ≡ fits answer
  pub goes : Runs here (next answer) (go answer)

pub answers : (here : Setting) (s : State) (request : Request) (fits : Answer → Bool) (next : Answer → State)
    → move_of here s ≡ Asks request fits next
    → (r : Request) (f : Answer → Bool) (go : Answer → SourceDoing) (answer : Answer) → Runs here s (doing.Asks r f go)
    → Answers here request fits next go f answer
answers here s request fits next e r f go answer runs =
    let h = asked here s request fits next (doing.Asks r f go) e runs in
    record { fitting = ap (λ f. f answer) (sym h.1); goes = h.2 answer }

-- past a request that is not answered
pub passes : (here : Setting) (request : Request) (ts : List Todo) (vs : List Value) (m : Memory) (left : ℕ) (r : Request) (rest : SourceDoing)
    → Runs here (at_work (requests request ∷ ts) vs m left) (doing.Makes r rest) → Runs here (at_work ts vs m left) rest
passes here request ts vs m left r rest h = (made here (at_work (requests request ∷ ts) vs m left) request (at_work ts vs m left) (doing.Makes r rest) refl h).1

-- a whole expression is evaluated from what it begins with
pub linked_on : (old new : Runner) (e : CoreExpr) → Becomes old (by old (λ ts. at_work (evaluates (first_of e) ∷ unlinked (links_of e) ++ ts))) new
    → Leads old (evaluates (plain_core e) ∷ []) new
linked_on old new e b = evaluates_linked old new (plain_core e) (first_of e) (links_of e) (core_expr-is e) b

-- with the same state, of which the work is only told otherwise
pub stays : (old new : Runner) (ts : List Todo) → Becomes old (working old ts) new → Leads old ts new
stays old new ts b = moved_on old new ts (working old ts) (λ d r. r) b

-- a function is left where no return comes
pub closes_on : (old mid new : Runner) (zero : Constant) (line : ℕ) (v : Value) (ts : List Task)
    → Becomes old (at_work (all_of old.tasks) (v ∷ old.values) old.memory old.left) mid → ts ≡ task.Close zero line ∷ mid.tasks
    → Becomes (record mid { tasks = ts }) (returned line (left_by_return (all_of ts)) (all_of ts) mid.values mid.memory mid.left) new
    → Becomes old (returned line (Some (all_of old.tasks)) (closes zero line ∷ all_of old.tasks) (v ∷ old.values) old.memory old.left) new
closes_on old mid new zero line v ts b e last = record {
  state = last.state ∙ ap (λ ts. returned line (left_by_return (all_of ts)) (all_of ts) mid.values mid.memory mid.left) e
      ∙ ap (λ s. returned line (Some s.todo) (closes zero line ∷ s.todo) s.values s.memory s.left) b.state;
  program = last.program ∙ b.program;
  layout = last.layout ∙ b.layout;
  node = last.node ∙ b.node;
  printed = last.printed ∙ b.printed;
}
