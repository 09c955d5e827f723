use Rattle.std.proofs.Common.{◌≡◌, ◌+◌, drop}
use Rattle.sc_typing.specs.Program.{star_tokens}
use Rattle.sc_check.proofs.parameters.star_tokens.Given as goal

abbrev pub invariant-loop-star : goal.invariant-loop-star
invariant-loop-star l = l.count + star_tokens (drop l.star-index l.stars) ≡ star_tokens l.stars
