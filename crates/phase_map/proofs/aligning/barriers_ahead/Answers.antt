use Rattle.std.proofs.Common.{◌∙◌, List, length, sym, ap, subst}
use Rattle.phase_map.specs.declared.aligning.Ahead.{Ahead}
use Rattle.phase_map.specs.Aligning.{AreAhead, IsSwept}
use Rattle.phase_map.proofs.Sweeping.{all_swept, written_back}
use Rattle.phase_map.proofs.aligning.barriers_ahead.Goals as goal

pub returns : goal.returns
returns c =
    let long = ap (λ (xs : List Ahead). length xs) c.deref_mut.ensures.value in
    let back = written_back c.loop.ahead.items c.sweep.new.ahead c.loop.ahead.len c.loop.ahead.ok.0 (c.sweep.ensures.count ∙ long) in
    subst (AreAhead c.args.flow.now) (sym back)
    (all_swept c.args.flow.now c.deref_mut.result.now c.sweep.new.ahead (long ∙ c.loop.invariant.0)
    (subst (IsSwept c.args.flow.now 0 c.deref_mut.result.now c.sweep.new.ahead) c.loop-test.false c.sweep.ensures))
