-- Where a node's runner stands.
use Rattle.std.specs.Prelude.{◌≡◌, ℕ, ◌<◌, ◌≤◌, List, [], ◌∷◌, ◌++◌, length, Option, Some, None, true, slice_get}
use Rattle.resumption.specs.Resumption.{next_event, next_text, past_text}
use Rattle.sc_meaning.specs.declared.request.Request.{Request}
use Rattle.sc_meaning.specs.Asking.{Answer, Passed, Halt, SourceDoing}
use Rattle.sc_layout.specs.Layout.{Arrangement}
use Rattle.sc_core.specs.Core.{Program}
use Rattle.sc_meaning.specs.Meaning.{meaning}
use Rattle.core_run.specs.declared.runner.Runner.{Runner}
use Rattle.core_run.specs.declared.step.Step.{Step}
use Rattle.core_run.specs.declared.step.Step.TheVariants as step
use Rattle.core_run.specs.Views.{plain_halt}
use Rattle.core_run.specs.Seen.{Stands}
use Rattle.replay_stages.specs.Courses.{Course, IsStuck}
use Rattle.sc_meaning.specs.Answering.{is_answered}
use Rattle.replay_stages.specs.Stage.{Front}
use Rattle.replay_stages.specs.Laws.{with_front}

abbrev pub request_in : Step → Option Request
request_in (step.Asks request) = Some request
request_in (step.Makes request) = Some request
request_in (step.Stops halt) = None

abbrev pub stop_in : Step → Option Halt
stop_in (step.Asks request) = None
stop_in (step.Makes request) = None
stop_in (step.Stops halt) = Some (plain_halt halt)

-- the runner printed the text, and does the rest
pub record IsAt (r : Runner) (f : Front) : Type 0 where
  pub stands : Stands r f.rest
  pub text : r.printed.items ≡ f.text

-- what is said before the next request is printed
abbrev pub said : Front → Front
said f = record { text = f.text ++ next_text f.rest; rest = past_text f.rest }

-- the runner made the requests under the answers
pub record StandsOn (r : Runner) (start : SourceDoing) (given : List Answer) (requests : List Request) : Type 0 where
  pub front : Front
  pub at : IsAt r front
  pub course : Course start given requests front.text front.rest

-- each runner stands where its node does
abbrev pub AllAt : List Runner → (ℕ → Front) → Type 0
AllAt runners fronts = (n : ℕ) (r : Runner) → slice_get runners n ≡ Some r → IsAt r (fronts n)

-- so it is but for the node, whose runner made the requests under the answers
pub record GoesTo (runners : List Runner) (fronts : ℕ → Front) (node : ℕ) (start : SourceDoing)
    (given : List Answer)
    (requests : List Request) : Type 0 where
  pub front : Front
  pub all : AllAt runners (with_front fronts node front)
  pub course : Course start given requests front.text front.rest

-- a node of the source before its first step
abbrev pub first_front : Arrangement → Program → (budget : ℕ) → ℕ → Front
first_front layout program budget node = record {
  text = [];
  rest = meaning (record { layout = layout; node = node; program = program }) budget;
}

-- ---- a barrier that is passed by all

-- the node asked for the last of its requests, and has no answer
pub record WaitsAt (start : SourceDoing) (given : List Answer) (all : List Request) (f : Front) : Type 0 where
  pub before : List Request
  pub last : Request
  pub whole : all ≡ before ++ last ∷ []
  pub course : Course start given before f.text f.rest
  pub next : next_event f.rest ≡ Some last
  pub answered : is_answered last ≡ true

module _ (count : ℕ) (start : ℕ → SourceDoing) (given : ℕ → List Answer) (all : ℕ → List Request) where
  pub record AllWait (runners : List Runner) (fronts : ℕ → Front) : Type 0 where
    pub at : AllAt runners fronts
    pub many : count ≡ length runners
    pub waits : (n : ℕ) → n < count → WaitsAt (start n) (given n) (all n) (fronts n)

  -- the nodes below this one have passed, and the others wait
  pub record Passing (node : ℕ) (runners : List Runner) (fronts : ℕ → Front) : Type 0 where
    pub now : ℕ → Front
    pub at : AllAt runners now
    pub passed : (n : ℕ) → n < node → Course (start n) (given n ++ Passed ∷ []) (all n)
        (now n).text (now n).rest
    pub left : (n : ℕ) → node ≤ n → now n ≡ fronts n

  pub record SomeStuck : Type 0 where
    pub node : ℕ
    pub within : node < count
    pub stuck : IsStuck (start node) (given node ++ Passed ∷ [])
