-- Why a source has no code is why there is no text for it.
use Rattle.std.proofs.Common.{ℕ, ◌≤◌, List, length}
use Rattle.sc_base.specs.declared.limits.TheConstants.{LIMITS}
use Rattle.splitc_compile.specs.Answers as compiling
use Rattle.front_end.specs.declared.refusal.CompileError.{CompileError}
use Rattle.front_end.specs.declared.refusal.CompileError.TheVariants as compile
use Rattle.splitc_top.specs.declared.words.Command.{Command}
use Rattle.splitc_top.specs.Words.{nodes_of}
use Rattle.splitc_top.specs.Reasons.{Excuses, reason_of}

pub excused : (command : Command) (bytes : List ℕ) (e : CompileError) → length bytes ≤ LIMITS.source
    → compiling.Excuses bytes (nodes_of command) e → Excuses command bytes (reason_of e)
excused command bytes (compile.Refused r) short h = (short, h)
excused command bytes compile.OutOfMemory short h = tt
