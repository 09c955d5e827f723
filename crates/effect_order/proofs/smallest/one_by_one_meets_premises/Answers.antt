use Rattle.effect_order.proofs.OneByOne as OneByOne
use Rattle.effect_order.proofs.smallest.one_by_one_meets_premises.Goals as goal

pub returns-clause-timed : goal.returns-clause-timed
returns-clause-timed c nodes start time own all o = OneByOne.timed nodes start time own all o

pub returns-clause-analysed : goal.returns-clause-analysed
returns-clause-analysed c nodes start time own all o = OneByOne.analysed nodes start time own all o

pub returns-clause-code : goal.returns-clause-code
returns-clause-code c nodes start time own all o = OneByOne.code nodes start time own all o

pub returns-clause-tied : goal.returns-clause-tied
returns-clause-tied c nodes start time own all o = OneByOne.tied nodes start time own all o

pub returns-clause-direct : goal.returns-clause-direct
returns-clause-direct c nodes start time own all o = OneByOne.direct nodes start time own all o
