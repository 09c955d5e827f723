-- What holds of every run of a move, from what holds of the runs that follow it.
use Rattle.std.proofs.Common.{◌≡◌, ◌≢◌, ℕ, zero, suc, arith, Bool, true, false, if◌then◌else◌, List, [], ◌∷◌, refl, ap}
use Rattle.std.specs.List.{All}
use Rattle.resumption.specs.Resumption.{Ends as Ended_by, RunOf, unanswered, after_event, after_text, run_of}
use Rattle.sc_base.specs.declared.value.End.{End}
use Rattle.sc_base.specs.declared.value.End.TheVariants.{Waiting}
use Rattle.sc_base.specs.declared.value.Value.{Value}
use Rattle.sc_layout.specs.Layout.{Arrangement}
use Rattle.sc_isa.specs.Fitting.{fits_all}
use Rattle.sc_isa.specs.State.{State, reads_on, landed}
use Rattle.sc_isa.specs.Moves.{After, GoesOn, Ends, Sticks, Move, Comes, Issues, Waits, Meets, Says}
use Rattle.sc_isa.specs.Run.{Ask, Issue, Wait, Arrive, Pass, Answer, Landed, Passed, Broken, Halt, Finish, Stuck, UsedUp, NodeDoing, comes_to, asked_by}
use Rattle.sc_isa.specs.Sound.{Leads, Lands, IsDone, CanGoOn, IsPlacedMove}
use Rattle.sc_isa.specs.Laws.{IsPlacedAsk}

abbrev pub stopped : Halt → RunOf Ask Halt
stopped halt = record { events = []; text = []; end = Ended_by halt }

pub all_nothing : (P : Ask → Type 0) → All P []
all_nothing P k d lt = absurd (omega arith)

pub all_more : (P : Ask → Type 0) (ask : Ask) (asks : List Ask) → P ask → All P asks → All P (ask ∷ asks)
all_more P ask asks p h zero d lt = p
all_more P ask asks p h (suc k) d lt = h k d (omega arith)

-- it holds of a run that finishes at once or waits for an answer, and is kept by what comes before a run
pub record Kept (IsAsk : Ask → Type 0) (Good : RunOf Ask Halt → Type 0) : Type 0 where
  pub finished : (end : End) → Good (stopped (Finish end))
  pub waiting : (ask : Ask) → IsAsk ask → Good (unanswered ask)
  pub event : (ask : Ask) (run : RunOf Ask Halt) → IsAsk ask → Good run → Good (after_event ask run)
  pub said : (text : List ℕ) (run : RunOf Ask Halt) → Good run → Good (after_text text run)

-- where it is stuck, it holds of that
abbrev pub AfterOk : (RunOf Ask Halt → Type 0) → After → Type 0
AfterOk Good (GoesOn s) = Unit {0}
AfterOk Good (Ends end) = Unit {0}
AfterOk Good Sticks = Good (stopped Stuck)

abbrev pub MoveOk : (IsAsk : Ask → Type 0) → (Good : RunOf Ask Halt → Type 0) → Move → Type 0
MoveOk IsAsk Good (Comes after) = AfterOk Good after
MoveOk IsAsk Good (Issues access after) = IsAsk (Issue access) × AfterOk Good after
MoveOk IsAsk Good (Waits counter s) = IsAsk (Wait counter)
MoveOk IsAsk Good (Meets stores s) = IsAsk (Arrive stores) × IsAsk Pass
MoveOk IsAsk Good (Says text s) = Unit {0}

module _ (layout : Arrangement) (IsAsk : Ask → Type 0) (Good : RunOf Ask Halt → Type 0) (k : Kept IsAsk Good)
    (go : State → NodeDoing) where
  landed_good : (counter : ℕ) (s : State) (values : List Value) (answers : List Answer) (b : Bool)
      → fits_all layout (reads_on counter s.flying) values ≡ b → IsAsk (Wait counter)
      → ((next : State) → Lands layout counter s next → Good (run_of (go next) answers))
      → Good (if b then after_event (Wait counter) (run_of (go (landed counter values s)) answers)
      else unanswered (Wait counter))
  landed_good counter s values answers true e p h =
      k.event (Wait counter) _ p
      (h (landed counter values s) (record { values = values; fit = e; next_is = refl }))
  landed_good counter s values answers false e p h = k.waiting (Wait counter) p

  after_good : (after : After) (answers : List Answer) → AfterOk Good after
      → ((next : State) → Leads layout (Comes after) next → Good (run_of (go next) answers))
      → Good (run_of (comes_to go after) answers)
  after_good (GoesOn s) answers d h = h s refl
  after_good (Ends end) answers d h = k.finished end
  after_good Sticks answers d h = d

  pub move_good : (move : Move) (answers : List Answer) → MoveOk IsAsk Good move
      → ((next : State) (answers : List Answer) → Leads layout move next → Good (run_of (go next) answers))
      → Good (run_of (asked_by layout go move) answers)
  move_good (Comes after) answers d h = after_good after answers d (λ next l. h next answers l)
  move_good (Issues access after) answers d h =
      k.event (Issue access) (run_of (comes_to go after) answers) d.0
      (after_good after answers d.1 (λ next l. h next answers l))
  move_good (Waits counter s) [] d h = k.waiting (Wait counter) d
  move_good (Waits counter s) (Landed values ∷ answers) d h =
      landed_good counter s values answers (fits_all layout (reads_on counter s.flying) values) refl d
      (λ next l. h next answers l)
  move_good (Waits counter s) (Passed ∷ answers) d h = k.waiting (Wait counter) d
  move_good (Waits counter s) (Broken ∷ answers) d h = k.waiting (Wait counter) d
  move_good (Meets stores s) [] d h = k.event (Arrive stores) (unanswered Pass) d.0 (k.waiting Pass d.1)
  move_good (Meets stores s) (Landed values ∷ answers) d h =
      k.event (Arrive stores) (unanswered Pass) d.0 (k.waiting Pass d.1)
  move_good (Meets stores s) (Passed ∷ answers) d h =
      k.event (Arrive stores) (after_event Pass (run_of (go s) answers)) d.0
      (k.event Pass (run_of (go s) answers) d.1 (h s answers refl))
  move_good (Meets stores s) (Broken ∷ answers) d h =
      k.event (Arrive stores) (after_event Pass (stopped (Finish Waiting))) d.0
      (k.event Pass (stopped (Finish Waiting)) d.1 (k.finished Waiting))
  move_good (Says text s) answers d h = k.said text (run_of (go s) answers) (h s answers refl)

-- what sound code keeps is enough
after_done : (Good : RunOf Ask Halt → Type 0) (after : After) → CanGoOn after → AfterOk Good after
after_done Good (GoesOn s) d = tt
after_done Good (Ends end) d = tt
after_done Good Sticks d = absurd d

pub sound_move : (layout : Arrangement) (Good : RunOf Ask Halt → Type 0) (move : Move)
    → IsDone move → IsPlacedMove layout move → MoveOk (IsPlacedAsk layout) Good move
sound_move layout Good (Comes after) d p = after_done Good after d
sound_move layout Good (Issues access after) d p = (p, after_done Good after d)
sound_move layout Good (Waits counter s) d p = tt
sound_move layout Good (Meets stores s) d p = (tt, tt)
sound_move layout Good (Says text s) d p = tt

-- ---- two ways to go on

abbrev pub IsKnown : RunOf Ask Halt → Type 0
IsKnown run = run.end ≢ Ended_by UsedUp

module _ (layout : Arrangement) (go more : State → NodeDoing)
    (same : (next : State) (answers : List Answer) → IsKnown (run_of (go next) answers) → run_of (more next) answers
    ≡ run_of (go next) answers) where
  after_same : (after : After) (answers : List Answer) → IsKnown (run_of (comes_to go after) answers)
      → run_of (comes_to more after) answers ≡ run_of (comes_to go after) answers
  after_same (GoesOn s) answers h = same s answers h
  after_same (Ends end) answers h = refl
  after_same Sticks answers h = refl

  landed_same : (counter : ℕ) (next : State) (answers : List Answer) (b : Bool)
      → IsKnown (if b then after_event (Wait counter) (run_of (go next) answers) else unanswered (Wait counter))
      → (if b then after_event (Wait counter) (run_of (more next) answers) else unanswered (Wait counter))
      ≡ (if b then after_event (Wait counter) (run_of (go next) answers) else unanswered (Wait counter))
  landed_same counter next answers true h = ap (after_event (Wait counter)) (same next answers h)
  landed_same counter next answers false h = refl

  pub move_same : (move : Move) (answers : List Answer) → IsKnown (run_of (asked_by layout go move) answers)
      → run_of (asked_by layout more move) answers ≡ run_of (asked_by layout go move) answers
  move_same (Comes after) answers h = after_same after answers h
  move_same (Issues access after) answers h = ap (after_event (Issue access)) (after_same after answers h)
  move_same (Waits counter s) [] h = refl
  move_same (Waits counter s) (Landed values ∷ answers) h =
      landed_same counter (landed counter values s) answers (fits_all layout (reads_on counter s.flying) values) h
  move_same (Waits counter s) (Passed ∷ answers) h = refl
  move_same (Waits counter s) (Broken ∷ answers) h = refl
  move_same (Meets stores s) [] h = refl
  move_same (Meets stores s) (Landed values ∷ answers) h = refl
  move_same (Meets stores s) (Passed ∷ answers) h =
      ap (λ run. after_event (Arrive stores) (after_event Pass run)) (same s answers h)
  move_same (Meets stores s) (Broken ∷ answers) h = refl
  move_same (Says text s) answers h = ap (after_text text) (same s answers h)
