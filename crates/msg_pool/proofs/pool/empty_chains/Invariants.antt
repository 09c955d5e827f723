use Rattle.std.proofs.Common.{◌≡◌, replicate}
use Rattle.msg_pool.specs.Chains.{empty_chain}
use Rattle.msg_pool.proofs.pool.empty_chains.Given as goal

abbrev pub invariant-loop : goal.invariant-loop
invariant-loop l = l.chains.items ≡ replicate l.counter empty_chain
