-- What a node's budget and its frames allow of its run, told by the points that the run passes. A turn of a loop or a
-- call begins at its point, unless the node is cut there.
use Rattle.std.specs.Prelude.{◌≡◌, ℕ, ◌+◌, ◌-◌, ◌≤◌, List, [], ◌∷◌, length, take, slice_get, Some, Bool, true, false, ◌⊎◌, if◌then◌else◌}
use Rattle.resumption.specs.Resumption.{RunOf, RunEnd, Ends, run_of}
use Rattle.sc_base.specs.declared.limits.TheConstants.{LIMITS}
use Rattle.sc_base.specs.declared.value.End.TheVariants.{Fault, Cut}
use Rattle.sc_base.specs.declared.value.FaultKind.TheVariants.{Depth}
use Rattle.sc_core.specs.Core.{Program}
use Rattle.sc_meaning.specs.Asking.{Event, Requested, Came, Answer, Halt, Finishes}
use Rattle.sc_meaning.specs.Meaning.{Setting, pointed}
use Rattle.meaning_laws.specs.Marks.{Mark, turn, call, enters, leaves, mark_at}

-- ---- turns and calls

abbrev pub counts : Mark → Bool
counts turn = true
counts call = true
counts _ = false

-- at how many points of turns and calls the node has come
abbrev pub turns_and_calls : Program → List Event → ℕ
turns_and_calls program [] = 0
turns_and_calls program (Requested request ∷ events) = turns_and_calls program events
turns_and_calls program (Came point ∷ events) =
    if counts (mark_at program point) then turns_and_calls program events + 1 else turns_and_calls program events

-- a node begins no more turns and calls than its budget, and is cut exactly where it would begin one more
pub record IsWithinBudget (program : Program) (budget : ℕ) (run : RunOf Event Halt) : Type 0 where
  pub within : turns_and_calls program run.events ≤ budget + 1
  pub cut_there : turns_and_calls program run.events ≡ budget + 1 → run.end ≡ Ends (Finishes Cut)
  pub cut_only : run.end ≡ Ends (Finishes Cut) → turns_and_calls program run.events ≡ budget + 1

abbrev pub BudgetBounds : Type 0
BudgetBounds =
    (here : Setting) (budget : ℕ) (answers : List Answer)
    → IsWithinBudget here.program budget (run_of (pointed here budget) answers)

-- ---- frames

abbrev pub after_mark : Mark → (frames : ℕ) → ℕ
after_mark enters frames = frames + 1
after_mark leaves frames = frames - 1
after_mark _ frames = frames

-- how many frames stand after the events, the oldest of which comes first
abbrev pub frames_after : Program → (frames : ℕ) → List Event → ℕ
frames_after program frames [] = frames
frames_after program frames (Requested request ∷ events) = frames_after program frames events
frames_after program frames (Came point ∷ events) =
    frames_after program (after_mark (mark_at program point) frames) events

-- this event of the run is a call where no further frame may stand
pub record IsDeepCall (program : Program) (events : List Event) (number : ℕ) : Type 0 where
  pub point : ℕ
  pub comes : slice_get events number ≡ Some (Came point)
  pub is_call : mark_at program point ≡ call
  pub full : frames_after program 0 (take number events) ≡ LIMITS.frames

abbrev pub IsCutOrDeep : RunEnd Halt → Type 0
IsCutOrDeep end = (end ≡ Ends (Finishes Cut)) ⊎ ((line : ℕ) × (end ≡ Ends (Finishes (Fault Depth line))))

-- No more frames stand than may. A call that would make one more is the last event: the node is cut there, or it is
-- the fault Depth, which comes nowhere else.
pub record IsWithinFrames (program : Program) (run : RunOf Event Halt) : Type 0 where
  pub few : (number : ℕ) → frames_after program 0 (take number run.events) ≤ LIMITS.frames
  pub deep : (number : ℕ) → IsDeepCall program run.events number
      → (length run.events ≡ number + 1) × IsCutOrDeep run.end
  pub deep_only : (line : ℕ) → run.end ≡ Ends (Finishes (Fault Depth line))
      → (number : ℕ) × IsDeepCall program run.events number × (length run.events ≡ number + 1)

abbrev pub FramesAreBounded : Type 0
FramesAreBounded =
    (here : Setting) (budget : ℕ) (answers : List Answer)
    → IsWithinFrames here.program (run_of (pointed here budget) answers)
