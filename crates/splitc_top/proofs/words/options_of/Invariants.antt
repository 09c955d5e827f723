use Rattle.std.proofs.Common.{◌≡◌, map, length, string_bytes, Some}
use Rattle.splitc_top.specs.Words.{options_of, no_options}
use Rattle.splitc_top.proofs.words.options_of.Given as goal

abbrev pub invariant-loop-name : goal.invariant-loop-name
invariant-loop-name l = options_of (map string_bytes l.words) (Some no_options) ≡ options_of (map string_bytes l.rest) (Some l.options)

abbrev pub decreases-loop-name : goal.decreases-loop-name
decreases-loop-name l = length l.rest
