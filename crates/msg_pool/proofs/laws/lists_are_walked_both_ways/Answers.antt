use Rattle.msg_pool.proofs.Walks.{walked_both_ways}
use Rattle.msg_pool.proofs.laws.lists_are_walked_both_ways.Goals as goal

pub returns : goal.returns
returns c = walked_both_ways
