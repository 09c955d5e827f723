-- Why there is no text: what each reason says, the line that tells it, and its status. The lines are this project's
-- own.
use Rattle.std.specs.Prelude.{◌≡◌, ℕ, ◌<◌, ◌≤◌, List, ◌++◌, length, Option, Some, None, IsSome, codes}
use Rattle.std.specs.Fmt.{decimal}
use Rattle.std.specs.Io.KnownBytes.{Consumes, IsAtEnd}
use Rattle.sc_io.specs.Streams.{Rose}
use Rattle.sc_base.specs.declared.limits.TheConstants.{LIMITS}
use Rattle.splitc_compile.specs.Answers.{IsCompilable, Says}
use Rattle.front_end.specs.declared.refusal.CompileError.{CompileError}
use Rattle.front_end.specs.declared.refusal.CompileError.TheVariants as compile
use Rattle.front_end.specs.declared.refusal.Refusal.{Refusal}
use Rattle.front_end.specs.declared.refusal.Refusal.TheVariants as refusal
use Rattle.run_report.specs.Report.{line}
use Rattle.splitc_top.specs.declared.words.Command.{Command}
use Rattle.splitc_top.specs.Words.{nodes_of}
use Rattle.splitc_top.specs.declared.reason.Reason.{Reason}
use Rattle.splitc_top.specs.declared.reason.Reason.TheVariants as reason
use Rattle.run_report.specs.declared.status.Status.{Status}
use Rattle.run_report.specs.declared.status.Status.TheVariants.{Words, Refused, Read, Memory}

-- ---- lines and statuses

abbrev pub refusal_line : Refusal → List ℕ
refusal_line (refusal.BadByte at) = line (codes "splitc: bad byte at " ++ decimal at)
refusal_line (refusal.OpenComment at) = line (codes "splitc: open comment at " ++ decimal at)
refusal_line (refusal.WideNumber at) = line (codes "splitc: wide number at " ++ decimal at)
refusal_line (refusal.BadDirective at) = line (codes "splitc: bad directive on line " ++ decimal at)
refusal_line refusal.TooManyTokens = line (codes "splitc: too many tokens")
refusal_line (refusal.Syntax seen) = line (codes "splitc: syntax at token " ++ decimal seen)
refusal_line (refusal.TooDeep seen) = line (codes "splitc: too deep at token " ++ decimal seen)
refusal_line (refusal.TooManyObjects count) = line (codes "splitc: too many objects: " ++ decimal count)
refusal_line (refusal.BadBound at) = line (codes "splitc: bad bound on line " ++ decimal at)
refusal_line (refusal.TooManyCells cells) = line (codes "splitc: too many cells: " ++ decimal cells)
refusal_line (refusal.Rule number at) =
    codes "splitc: rule " ++ decimal number ++ codes " on line " ++ line (decimal at)
refusal_line (refusal.TooManySites count) = line (codes "splitc: too many sites: " ++ decimal count)
refusal_line (refusal.TooManyLocals count) = line (codes "splitc: too many locals: " ++ decimal count)

abbrev pub reason_line : Reason → List ℕ
reason_line reason.Words = line (codes "splitc: words")
reason_line reason.TooLong = line (codes "splitc: source too long")
reason_line (reason.Refused r) = refusal_line r
reason_line reason.Read = line (codes "splitc: read fault")
reason_line reason.Memory = line (codes "splitc: no memory")

-- a source that is not compiled, as a reason
abbrev pub reason_of : CompileError → Reason
reason_of (compile.Refused r) = reason.Refused r
reason_of compile.OutOfMemory = reason.Memory

abbrev pub status_of_reason : Reason → Status
status_of_reason reason.Words = Words
status_of_reason reason.TooLong = Refused
status_of_reason (reason.Refused r) = Refused
status_of_reason reason.Read = Read
status_of_reason reason.Memory = Memory

-- ---- sources

-- the source is within the limit, and has code
pub record HasCode (nodes : ℕ) (bytes : List ℕ) : Type 0 where
  pub short : length bytes ≤ LIMITS.source
  pub compilable : IsCompilable bytes nodes

-- the source is one that the command can do something with
abbrev pub Serves : Command → (bytes : List ℕ) → Type 0
Serves command bytes = HasCode (nodes_of command) bytes

-- the command does nothing with the source, for this reason
abbrev pub IsOutside : Command → (bytes : List ℕ) → Reason → Type 0
IsOutside command bytes reason.TooLong = LIMITS.source < length bytes
IsOutside command bytes (reason.Refused r) = (length bytes ≤ LIMITS.source) × Says bytes (nodes_of command) r
IsOutside command bytes _ = ⊥

-- why there is no text of a source that was read. Want of memory may come at any time.
abbrev pub Excuses : Command → (bytes : List ℕ) → Reason → Type 0
Excuses command bytes reason.Memory = Unit {0}
Excuses command bytes reason.TooLong = ⊥
Excuses command bytes r = IsOutside command bytes r

-- ---- reasons

-- a source that is too long was not read to its end
abbrev pub IsReadFor : Reason → (after : Option (List ℕ)) → Type 0
IsReadFor reason.TooLong after = Unit {0}
IsReadFor _ after = IsAtEnd after

-- the command does nothing with the bytes that the source gave, for this reason
pub record IsRefused (command : Option Command) (before after : Option (List ℕ)) (reason : Reason) : Type 0 where
  pub named : Command
  pub words : command ≡ Some named
  pub given : List ℕ
  pub taken : Consumes before after given
  pub ended : IsReadFor reason after
  pub outside : IsOutside named given reason

-- what the reason says of the words, of the source before and after, and of its counts of faults
abbrev pub Holds : Option Command → (before after : Option (List ℕ)) → (faults faults_after : ℕ) →
    Reason → Type 0
Holds command before after faults faults_after reason.Words = command ≡ None
Holds command before after faults faults_after reason.TooLong = IsRefused command before after reason.TooLong
Holds command before after faults faults_after (reason.Refused r) = IsRefused command before after (reason.Refused r)
Holds command before after faults faults_after reason.Read = IsSome command × Rose faults faults_after
Holds command before after faults faults_after reason.Memory = Unit {0}
