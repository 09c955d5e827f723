use Rattle.std.proofs.Common.{◌∙◌, ap, arith, w64, SFits, to_z, of_z}
use Rattle.std.specs.Int.{w128}
use Rattle.std.proofs.lemmas.Int.{ints}
use Rattle.wide_integer.specs.Value.{value_over, sign}
use Rattle.wide_integer.proofs.Values.{goes_on, ends, made}
use Rattle.wide_integer.proofs.number.sum_of.Goals as goal

pub loop-i-init : goal.loop-i-init
loop-i-init c = record {
  low = omega (arith, ints);
  high = omega (arith, ints);
  value = rw (c.in_ok-digits.ensures.items) (omega (arith, ints));
}

pub loop-i-preserved : goal.loop-i-preserved
loop-i-preserved c = record {
  low = omega (arith, ints, c.next-parts.ensures.low);
  high = omega (arith, ints, c.next-parts.ensures.high);
  value = goes_on _ _ c.next-parts.result.high _ _ _ _ _ _ _ _ c.loop-i.i _ _ _ c.loop-i.invariant.value
      c.next-parts.ensures.value c.digit-one.ensures c.digit-other.ensures c.in_ok-push.ensures.items (omega (arith, ints));
}

pub returns : goal.returns
returns c =
    let fits : SFits w64 c.args.factor = c.ranges.factor in
    made _ _ _ c.over.ensures
    (ends (to_z w64 (of_z w64 c.args.factor)) _ c.top.result (to_z w128 (of_z w128 c.top.result)) c.args.factor _ _
    c.as_slice-ones.result.now c.as_slice-others.result.now c.loop-i.digits.items c.a.inside.negative c.b.inside.negative c.loop-i.i
    (omega arith) (omega arith) c.loop-i.invariant.value c.top.ensures
    (omega (arith, ints)) (omega (arith, ints))
    (ap (λ digits. value_over digits (sign c.a.inside.negative)) c.as_slice-ones.ensures.value ∙ c.a.view_is)
    (ap (λ digits. value_over digits (sign c.b.inside.negative)) c.as_slice-others.ensures.value ∙ c.b.view_is))
