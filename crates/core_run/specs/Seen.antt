-- What a runner does next, as far as it is seen from outside.
use Rattle.std.specs.Prelude.{◌≡◌, ℕ, Bool, true, false, List, [], ◌∷◌, ◌++◌, map}
use Rattle.resumption.specs.Resumption as doing
use Rattle.resumption.specs.Resumption.{next_text, past_text}
use Rattle.sc_base.specs.declared.value.Place.{Place}
use Rattle.sc_base.specs.declared.value.Value.{Value}
use Rattle.sc_core.specs.declared.expression.CoreLink.{CoreLink}
use Rattle.sc_layout.specs.Layout.{Arrangement}
use Rattle.sc_meaning.specs.Asking.{Answer, SourceDoing, fits_read, fits_sync, fits_barrier}
use Rattle.sc_meaning.specs.Meaning.{Setting}
use Rattle.sc_meaning.specs.Memory.{Memory, has, slot, with_slot, places, synced}
use Rattle.sc_meaning.specs.Steps.{shown_or_zero, landed_or_none}
use Rattle.core_state.specs.Locals.{spot_of}
use Rattle.core_state.specs.declared.memory.Spot.{Spot}
use Rattle.core_run.specs.declared.runner.Runner.{Runner}
use Rattle.core_run.specs.declared.step.Step.{Step}
use Rattle.core_run.specs.declared.step.Step.TheVariants as step
use Rattle.core_run.specs.declared.task.Task.{Task}
use Rattle.core_run.specs.declared.task.Task.TheVariants as task
use Rattle.core_machine.specs.Todo.{Todo, reads_from, fills_from, syncs, meets_at, requests, halts, State}
use Rattle.core_machine.specs.Moves.{at_work, unless_awaited, passed}
use Rattle.core_machine.specs.Runs.{Runs}
use Rattle.core_run.specs.Views.{plain_halt, todos_of, setting_of, state_of, working}

-- from here on the runner does all that the resumption does, and nothing else
abbrev pub Stands : Runner → SourceDoing → Type 0
Stands r d = Runs (setting_of r) (state_of r) d

-- what is printed with what is said before the next request is the text, and behind that comes the rest
pub record Towards (text : List ℕ) (rest : SourceDoing) (here : Setting) (s : State)
    (printed : List ℕ) : Type 0 where
  pub doing : SourceDoing
  pub runs : Runs here s doing
  pub said : printed ++ next_text doing ≡ text
  pub past : past_text doing ≡ rest

abbrev pub IsTowards : List ℕ → SourceDoing → Runner → Type 0
IsTowards text rest r = Towards text rest (setting_of r) (state_of r) r.printed.items

-- with this work before the rest it went where it goes now
abbrev pub Leads : Runner → List Todo → Runner → Type 0
Leads old ts new =
    (text : List ℕ) (rest : SourceDoing) → Towards text rest (setting_of old) (working old ts) old.printed.items
    → IsTowards text rest new

-- what stands next is seen from outside: a request or the end
abbrev pub is_seen : List Todo → Bool
is_seen (reads_from place line ∷ ts) = true
is_seen (fills_from local place line ∷ ts) = true
is_seen (syncs line ∷ ts) = true
is_seen (meets_at stores line ∷ ts) = true
is_seen (requests request ∷ ts) = true
is_seen (halts halt ∷ ts) = true
is_seen _ = false

-- what is next is this
abbrev pub Shows : SourceDoing → Step → Type 0
Shows (doing.Asks request fits go) s = s ≡ step.Asks request
Shows (doing.Makes request rest) s = s ≡ step.Makes request
Shows (doing.Says text rest) s = ⊥
Shows (doing.Stops halt) (step.Stops h) = plain_halt h ≡ halt
Shows (doing.Stops halt) _ = ⊥

-- ---- answers

abbrev pub no_links : List CoreLink → Bool
no_links [] = true
no_links (l ∷ ls) = false

-- links of which none is left, where nothing is to do
abbrev pub is_nothing : Task → Bool
is_nothing (task.Links all) = no_links all.now
is_nothing _ = false

-- where the gets read
abbrev pub places_of : List Spot → List Place
places_of spots = map (λ s. s.place) (map spot_of spots)

-- whether the piece of work is one that is answered, and the answer fits
abbrev pub fits_task : Arrangement → Memory → Task → Answer → Bool
fits_task layout m (task.Read place line) answer = fits_read layout place answer
fits_task layout m (task.Fill local place line) answer = fits_read layout place answer
fits_task layout m (task.Sync line) answer = fits_sync layout (places m) answer
fits_task layout m (task.Meet stores line) answer = fits_barrier answer
fits_task layout m _ answer = false

-- what the answer to the piece of work leaves to do
abbrev pub next_by : Task → Answer → List Todo → List Value → Memory → ℕ → State
next_by (task.Read place line) answer ts vs m left = at_work ts (shown_or_zero answer ∷ vs) m left
next_by (task.Fill local place line) answer ts vs m left =
    unless_awaited line (slot m local)
    (λ old. at_work ts vs (with_slot m local (has (shown_or_zero answer))) left) ts vs m left
next_by (task.Sync line) answer ts vs m left = at_work ts vs (synced (landed_or_none answer) m) left
next_by (task.Meet stores line) answer ts vs m left = passed answer ts vs m left
next_by t answer ts vs m left = at_work (todos_of t ++ ts) vs m left
