use Rattle.std.proofs.Common.{◌≡◌, ◌≤◌, false, drop}
use Rattle.sc_typing.proofs.Directives.{counted}
use Rattle.sc_typing.proofs.file.directives.Given as goal

-- the rest gives what the whole gives
abbrev pub invariant-loop-byte : goal.invariant-loop-byte
invariant-loop-byte l = (counted l.after l.count (drop l.byte-index l.text) ≡ counted false 0 l.text) × (l.count ≤ l.byte-index)
