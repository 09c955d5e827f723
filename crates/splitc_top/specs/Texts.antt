-- What each command writes of a source.
use Rattle.std.specs.Prelude.{◌≡◌, ℕ, ◌≤◌, List, length, Option, Some}
use Rattle.sc_base.specs.declared.limits.TheConstants.{LIMITS}
use Rattle.sc_isa.specs.Listing.{listing_of}
use Rattle.splitc_compile.specs.Answers.{IsCompiled}
use Rattle.splitc_compile.specs.Compiled.{Parts}
use Rattle.run_texts.specs.Runs.{IsReportOf, IsExplanationOf}
use Rattle.run_report.specs.declared.status.Status.{Status}
use Rattle.run_report.specs.declared.status.Status.TheVariants.{Ended}
use Rattle.splitc_top.specs.declared.words.Command.{Command}
use Rattle.splitc_top.specs.declared.words.Command.TheVariants.{Run, Explain, Compile, Delays}
use Rattle.splitc_top.specs.Pairs.{delay_lines}
use Rattle.splitc_top.specs.Words.{nodes_of}

-- what the command writes of a compiled source, and the status that comes with it: the report of the seed's run, its
-- history, the listing of the code, or the pairs of accesses that must not overlap
abbrev pub Writes : Command → Parts → (text : List ℕ) → Status → Type 0
Writes (Run nodes seed budget memory) parts text status = IsReportOf parts seed budget memory text status
Writes (Explain nodes seed budget) parts text status = IsExplanationOf parts seed budget text × (status ≡ Ended)
Writes (Compile nodes) parts text status = (text ≡ listing_of parts.code) × (status ≡ Ended)
Writes (Delays nodes) parts text status = (text ≡ delay_lines parts.delays) × (status ≡ Ended)

-- The source that was given is within the limit, and is compiled to these parts on the command's nodes.
pub record IsMadeFor (command : Command) (given : List ℕ) (parts : Parts) : Type 0 where
  pub short : length given ≤ LIMITS.source
  pub compiled : IsCompiled given (nodes_of command) parts

-- The source is compiled, what was made of it is handed out, and the text is the command's of just that.
pub record IsTextOf (command : Command) (made : Option Parts) (given text : List ℕ) (status : Status) : Type 0 where
  pub parts : Parts
  pub made_is : made ≡ Some parts
  pub made_for : IsMadeFor command given parts
  pub writes : Writes command parts text status
