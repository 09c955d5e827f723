-- The budget bounds a node's turns and calls.
use Rattle.std.proofs.Common.{◌≡◌, ℕ, zero, suc, ◌+◌, ◌<◌, List, [], ◌∷◌, Bool, true, false, if◌then◌else◌, refl, sym, ap, ◌∙◌, arith}
use Rattle.resumption.specs.Resumption.{Asks, Makes, Says, Stops, RunOf, Ends, unanswered, after_event, run_of}
use Rattle.sc_base.specs.declared.limits.TheConstants.{LIMITS}
use Rattle.sc_base.specs.declared.value.End.TheVariants.{Ended, Fault, Cut, Waiting}
use Rattle.sc_base.specs.declared.value.FaultKind.TheVariants.{Depth}
use Rattle.sc_core.specs.Core.{Program}
use Rattle.sc_meaning.specs.declared.request.Request.{Request}
use Rattle.sc_meaning.specs.Asking.{PointedDoing, Event, Requested, Came, Answer, Halt, Finishes, Breaks}
use Rattle.sc_meaning.specs.Steps.{counted}
use Rattle.sc_meaning.specs.Meaning.{pass}
use Rattle.meaning_laws.specs.Marks.{Mark, plain, turn, call, enters, leaves, mark_at}
use Rattle.meaning_laws.specs.Budget.{counts, turns_and_calls, IsWithinBudget, BudgetBounds}
use Rattle.meaning_laws.proofs.Closure.{Keeps, IsMild, pointed_holds}

module _ (program : Program) where
  abbrev Within : ℕ → ℕ → PointedDoing → Type 0
  Within n left doing = (answers : List Answer) → IsWithinBudget program left (run_of doing answers)

  -- a run of no turn and no call, which is not cut
  uncut : (left : ℕ) (run : RunOf Event Halt) → turns_and_calls program run.events ≡ 0 → (run.end ≡ Ends (Finishes Cut) → ⊥)
      → IsWithinBudget program left run
  uncut left run none not_cut = record {
    within = omega arith;
    cut_there = λ e. absurd (omega arith);
    cut_only = λ e. absurd (not_cut e);
  }

  -- nothing that counts comes before
  same_count : (left : ℕ) (run next : RunOf Event Halt) → turns_and_calls program next.events ≡ turns_and_calls program run.events
      → next.end ≡ run.end → IsWithinBudget program left run → IsWithinBudget program left next
  same_count left run next e end_same h = record {
    within = (let w = h.within in omega arith);
    cut_there = λ c. end_same ∙ h.cut_there (sym e ∙ c);
    cut_only = λ c. e ∙ h.cut_only (sym end_same ∙ c);
  }

  -- one turn or call comes before
  one_more : (left : ℕ) (run next : RunOf Event Halt) → turns_and_calls program next.events ≡ turns_and_calls program run.events + 1
      → next.end ≡ run.end → IsWithinBudget program left run → IsWithinBudget program (suc left) next
  one_more left run next e end_same h = record {
    within = (let w = h.within in omega arith);
    cut_there = λ c. end_same ∙ h.cut_there (omega arith);
    cut_only = λ c. (let o = h.cut_only (sym end_same ∙ c) in omega arith);
  }

  answered : (left : ℕ) (request : Request) (b : Bool) (run : RunOf Event Halt) → IsWithinBudget program left run
      → IsWithinBudget program left (if b then after_event (Requested request) run else unanswered (Requested request))
  answered left request true run h = same_count left run (after_event (Requested request) run) refl refl h
  answered left request false run h = uncut left (unanswered (Requested request)) refl (λ e. cc)

  asks_within : (n left : ℕ) (request : Request) (fits : Answer → Bool) (go : Answer → PointedDoing)
      → ((answer : Answer) → Within n left (go answer)) → Within n left (Asks (Requested request) fits go)
  asks_within n left request fits go h [] = uncut left (unanswered (Requested request)) refl (λ e. cc)
  asks_within n left request fits go h (answer ∷ answers) =
      answered left request (fits answer) (run_of (go answer) answers) (h answer answers)

  stops_within : (n left : ℕ) (halt : Halt) → IsMild halt → Within n left (Stops halt)
  stops_within n left (Finishes Ended) h answers = uncut left _ refl (λ e. cc)
  stops_within n left (Finishes (Fault kind line)) h answers = uncut left _ refl (λ e. cc)
  stops_within n left (Finishes Cut) h answers = absurd h
  stops_within n left (Finishes Waiting) h answers = uncut left _ refl (λ e. cc)
  stops_within n left Breaks h answers = uncut left _ refl (λ e. cc)

  -- a point of this mark comes first
  uncounted : (point : ℕ) (mark : Mark) → mark_at program point ≡ mark → counts mark ≡ false → (run : RunOf Event Halt)
      → turns_and_calls program (after_event (Came point) run).events ≡ turns_and_calls program run.events
  uncounted point mark e no_count run =
      ap (λ (m : Mark). if counts m then turns_and_calls program run.events + 1 else turns_and_calls program run.events) e
      ∙ ap (λ b. if b then turns_and_calls program run.events + 1 else turns_and_calls program run.events) no_count

  counted_one : (point : ℕ) (mark : Mark) → mark_at program point ≡ mark → counts mark ≡ true → (run : RunOf Event Halt)
      → turns_and_calls program (after_event (Came point) run).events ≡ turns_and_calls program run.events + 1
  counted_one point mark e count run =
      ap (λ (m : Mark). if counts m then turns_and_calls program run.events + 1 else turns_and_calls program run.events) e
      ∙ ap (λ b. if b then turns_and_calls program run.events + 1 else turns_and_calls program run.events) count

  over_within : (n m left point : ℕ) (mark : Mark) (doing : PointedDoing) → mark_at program point ≡ mark → counts mark ≡ false
      → Within n left doing → Within m left (pass point doing)
  over_within n m left point mark doing e no_count h answers =
      same_count left (run_of doing answers) (run_of (pass point doing) answers) (uncounted point mark e no_count (run_of doing answers))
      refl (h answers)

  counted_within : (n left point : ℕ) (mark : Mark) (go : ℕ → PointedDoing) → mark_at program point ≡ mark → counts mark ≡ true
      → ((l : ℕ) → l < left → Within n l (go l)) → Within n left (pass point (counted left go))
  counted_within n zero point mark go e count h answers =
      let one = counted_one point mark e count (run_of (Stops (Finishes Cut)) answers) in
      record { within = omega arith; cut_there = λ c. refl; cut_only = λ c. one }
  counted_within n (suc left) point mark go e count h answers =
      one_more left (run_of (go left) answers) (run_of (pass point (go left)) answers)
      (counted_one point mark e count (run_of (go left) answers)) refl (h left (omega arith) answers)

  deep_within : (left point line : ℕ) → mark_at program point ≡ call
      → Within LIMITS.frames left (pass point (counted left (λ l. Stops (Finishes (Fault Depth line)))))
  deep_within left point line e =
      counted_within LIMITS.frames left point call _ e refl (λ l lt answers. uncut l _ refl (λ c. cc))

  keeps_within : Keeps program Within
  keeps_within = record {
    asks = asks_within;
    requests = λ n left request doing h answers.
        same_count left (run_of doing answers) (run_of (Makes (Requested request) doing) answers) refl refl (h answers);
    says = λ n left text doing h answers.
        same_count left (run_of doing answers) (run_of (Says text doing) answers) refl refl (h answers);
    stops = λ n left halt few mild. stops_within n left halt mild;
    passes = λ n left point doing e h. over_within n n left point plain doing e refl h;
    begins = λ n left point doing e h. over_within (suc n) n left point enters doing e refl h;
    returns = λ n left point doing few e h. over_within n (suc n) left point leaves doing e refl h;
    turns = λ n left point go few e h. counted_within n left point turn go e refl h;
    calls_more = λ n left point go few e h. counted_within n left point call go e refl h;
    calls_none = deep_within;
  }

pub budget_bounds : BudgetBounds
budget_bounds here budget answers = pointed_holds here (Within here.program) (keeps_within here.program) budget answers
