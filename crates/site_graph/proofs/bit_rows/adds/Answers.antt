use Rattle.std.proofs.lemmas.Bool.{eqb-false, ne_eqb, not-true, not_from_false}
use Rattle.site_graph.proofs.Words.{adds_from, adds_to}
use Rattle.site_graph.proofs.bit_rows.adds.Goals as goal

pub returns : goal.returns
returns c = (
  λ t. adds_from c.args.word c.args.more c.ranges.word.fits c.ranges.more.fits (eqb-false _ _ (not-true _ t)),
  λ a. not_from_false _ (ne_eqb _ _ (adds_to c.args.word c.args.more a)),
)
