-- What the program answers, and why: the text of the command for the source; each reason for which there is none; and
-- that nothing else is answered where no stream fails and memory is not wanting.
use Rattle.std.specs.Prelude.{◌≡◌, ◌≢◌, ◌⊎◌, ℕ, ◌<◌, List, [], length, take, Option, Some, None}
use Rattle.std.specs.Io.KnownBytes.{Consumes, IsAtEnd}
use Rattle.sc_io.specs.Streams.{Rose, Gains}
use Rattle.splitc_compile.specs.Compiled.{Parts}
use Rattle.splitc_top.specs.Reasons.{reason_line, status_of_reason, Serves, IsOutside, Holds}
use Rattle.splitc_top.specs.Texts.{IsTextOf, IsMadeFor}
use Rattle.splitc_top.specs.declared.words.Command.{Command}
use Rattle.splitc_top.specs.declared.reason.Reason.{Reason}
use Rattle.splitc_top.specs.declared.reason.Reason.TheVariants as reason
use Rattle.run_report.specs.declared.status.Status.{Status}
use Rattle.run_report.specs.declared.status.Status.TheVariants.{Ended, Fault, Waiting, Cut, Words, Refused, Read}
use Rattle.run_report.specs.declared.status.Status.TheVariants.{Write, Memory}

-- ---- texts

-- a status that comes with the text of a command
abbrev pub IsReport : Status → Type 0
IsReport status = (status ≡ Ended) ⊎ (status ≡ Fault) ⊎ (status ≡ Waiting) ⊎ (status ≡ Cut)

-- The source was read to its end, and the text is that of the command for what it gave.
pub record IsReported (command : Option Command) (made : Option Parts) (before after : Option (List ℕ))
    (text : List ℕ)
    (status : Status) : Type 0 where
  pub named : Command
  pub words : command ≡ Some named
  pub given : List ℕ
  pub taken : Consumes before after given
  pub ended : IsAtEnd after
  pub text_of : IsTextOf named made given text status

-- What was made was made of the source, which was read to its end.
pub record IsMade (command : Option Command) (before after : Option (List ℕ)) (parts : Parts) : Type 0 where
  pub named : Command
  pub words : command ≡ Some named
  pub given : List ℕ
  pub taken : Consumes before after given
  pub ended : IsAtEnd after
  pub made_for : IsMadeFor named given parts

-- ---- refusals

-- a status that comes with the line of a reason
abbrev pub IsRefusal : Status → Type 0
IsRefusal status = (status ≡ Words) ⊎ (status ≡ Refused) ⊎ (status ≡ Read) ⊎ (status ≡ Memory)

-- ---- answers

-- what a stream told before a call and after it, and its counts of faults
pub record Stream : Type 0 where
  pub before : Option (List ℕ)
  pub after : Option (List ℕ)
  pub faults : ℕ
  pub faults_after : ℕ

abbrev pub stream : (before after : Option (List ℕ)) → (faults faults_after : ℕ) → Stream
stream before after faults faults_after =
    record { before = before; after = after; faults = faults; faults_after = faults_after }

-- what the words name, what the call did to the streams, and what it made
pub record Call : Type 0 where
  pub command : Option Command
  pub made : Option Parts
  pub source : Stream
  pub out : Stream
  pub err : Stream

abbrev pub Failed : Stream → Type 0
Failed s = Rose s.faults s.faults_after

abbrev pub Gained : Stream → List ℕ → Type 0
Gained s text = Gains s.before s.after text

-- a sink got the beginning of a text, and not all of it
abbrev pub GainedPart : Stream → List ℕ → Type 0
GainedPart s text = (n : ℕ) × (n < length text) × Gained s (take n text)

abbrev pub Tells : Call → List ℕ → Status → Type 0
Tells call text status = IsReported call.command call.made call.source.before call.source.after text status

-- The reason holds, and nothing was made, unless memory was wanting.
pub record IsCause (call : Call) (r : Reason) : Type 0 where
  pub holds : Holds call.command call.source.before call.source.after call.source.faults call.source.faults_after r
  pub unmade : r ≢ reason.Memory → call.made ≡ None

pub record IsAnswer (call : Call) (result : Status) : Type 0 where
  -- A text was written whole, and nothing else.
  pub reported : IsReport result → (text : List ℕ) × Tells call text result × Gained call.out text
      × Gained call.err []
  -- A refusal has its reason, whose line was written whole, and nothing else.
  pub refused : IsRefusal result → (r : Reason) × (result ≡ status_of_reason r) × IsCause call r
      × Gained call.out [] × Gained call.err (reason_line r)
  -- A write fault comes where a sink failed in this call, in the middle of a text or of a refusal's line.
  pub cut_short : result ≡ Write →
      ((text : List ℕ) × (status : Status) × Failed call.out × Tells call text status
      × GainedPart call.out text × Gained call.err [])
      ⊎ ((r : Reason) × Failed call.err × IsCause call r
      × Gained call.out [] × GainedPart call.err (reason_line r))
  -- Where nothing fails, each source has the one answer that is its own, or memory was wanting.
  pub words_alone : (Failed call.err → ⊥) → result ≢ Memory → call.command ≡ None → result ≡ Words
  pub served : (command : Command) (bytes : List ℕ)
      → call.command ≡ Some command → call.source.before ≡ Some bytes → Serves command bytes
      → (Failed call.source → ⊥) → (Failed call.out → ⊥) → (Failed call.err → ⊥) →
      result ≢ Memory → IsReport result
  pub outside : (command : Command) (bytes : List ℕ) (r : Reason)
      → call.command ≡ Some command → call.source.before ≡ Some bytes → IsOutside command bytes r
      → (Failed call.source → ⊥) → (Failed call.err → ⊥) → result ≢ Memory
      → (result ≡ Refused) × Gained call.err (reason_line r)
  -- Whatever was made is the code of the source.
  pub made : (parts : Parts) → call.made ≡ Some parts →
      IsMade call.command call.source.before call.source.after parts
