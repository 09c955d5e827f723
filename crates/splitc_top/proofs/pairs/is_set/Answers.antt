use Rattle.std.proofs.lemmas.Bool.Decides.{same_from_decides}
use Rattle.splitc_top.specs.Pairs.{has_pair}
use Rattle.splitc_top.proofs.HasPair.{set_has}
use Rattle.splitc_top.proofs.pairs.is_set.Goals as goal

pub returns : goal.returns
returns c =
    let pairs = c.args.pairs.now in
    same_from_decides c.get.result (has_pair pairs c.args.row c.args.column) c.get.ensures
    (set_has pairs c.args.row c.args.column)
