use Rattle.std.proofs.Common.{◌∙◌, sym}
use Rattle.delay_sets.proofs.Before.{split_answer, points_of}
use Rattle.delay_sets.proofs.preceding.over_at.Goals as goal

pub search_any-requires-clause-points : goal.search_any-requires-clause-points
search_any-requires-clause-points c = points_of c.args.flow.now c.in_ok-reached.reached c.in_ok-syncs.syncs.items _ c.deref.ensures.value c.in_ok-syncs.ensures

pub returns-then-is_split : goal.returns-then-is_split
returns-then-is_split c =
    split_answer c.args.flow.now c.args.site.now c.args.barriers.now c.in_ok-reached.reached c.in_ok-syncs.syncs.items c.deref.result.now c.args.at c.search_any.result
    c.requires.barriers c.requires.site (sym c.is_split.ensures ∙ c.if-is_split.true) c.in_ok-reached.ensures c.deref.ensures.value
    c.in_ok-syncs.ensures c.search_any.ensures
