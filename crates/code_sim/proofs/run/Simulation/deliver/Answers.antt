use Rattle.std.proofs.Common.{◌≡◌, Some, sym, subst}
use Rattle.std.specs.Prelude.{slice_get}
use Rattle.msg_pool.specs.Pool.{Pool, ids, NamesOnce}
use Rattle.code_sim.proofs.Delivering.{delivered}
use Rattle.code_sim.proofs.run.Simulation.deliver.Goals as goal

pub returns-clause-delivered : goal.returns-clause-delivered
returns-clause-delivered c =
    delivered c.args.self.now.fabric c.deliver.new.self c.pool.ensures.of_journal c.args.k c.in-Some.id c.deliver.result.message c.deliver.result.value
    (sym (subst (λ (p : Pool). Some c.in-Some.id ≡ slice_get (ids p.pending) c.args.k) c.pool.ensures.is c.in-Some.ensures.id))
    (subst (λ (p : Pool). NamesOnce (ids p.pending)) c.pool.ensures.is c.in-Some.ensures.once)
    c.deliver.ensures.message c.deliver.ensures.value c.deliver.ensures.past c.deliver.ensures.layout c.deliver.ensures.sites
