use Rattle.std.proofs.Common.{◌+◌, ap, bit_or, get_or, inr, arith}
use Rattle.site_graph.specs.BitWords.{Adds}
use Rattle.site_graph.proofs.Rows.{one_added, same_read, some_more, same_adds}
use Rattle.site_graph.proofs.bit_rows.join_words.Goals as goal

pub loop-i-preserved : goal.loop-i-preserved
loop-i-preserved c =
    let a = c.loop-i.invariant.joined in
    let to_read = a.outside (c.args.to + c.loop-i.i) (inr (omega arith)) in
    let from_read =
    same_read c.args.to c.args.from c.args.width c.loop-i.i (λ k. get_or c.args.words.now (c.args.from + k) 0) c.args.words.now c.loop-i.words a c.loop-i-test.true
    c.requires.apart in
    record {
      joined =
          one_added c.args.to c.loop-i.i (λ k. get_or c.args.words.now (c.args.from + k) 0) c.args.words.now c.loop-i.words _ a (omega arith)
          (ap (λ w. bit_or (get_or c.loop-i.words (c.args.to + c.loop-i.i) 0) w) from_read);
      gains =
          some_more (λ k. Adds (get_or c.args.words.now (c.args.to + k) 0) (get_or c.args.words.now (c.args.from + k) 0)) c.loop-i.i c.loop-i.gains
          c.adds-gains.result c.loop-i.invariant.gains
          (same_adds _ _ _ _ _ to_read from_read c.adds-gains.ensures);
    }
