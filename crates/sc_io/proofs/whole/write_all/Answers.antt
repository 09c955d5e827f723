use Rattle.std.proofs.Common.{arith, subst, take, drop, sym, ◌+◌, ◌-◌, length, length-drop, length-take, ℕ, List, ◌≡◌, ◌++◌}
use Rattle.std.proofs.Math.Seq.{take-add, take-length}
use Rattle.sc_io.specs.Streams.{Gains}
use Rattle.sc_io.proofs.StreamSteps.{Gains-trans}
use Rattle.sc_io.proofs.whole.write_all.Goals as goal

-- the first d bytes, and then the first n of the others
further : (xs : List ℕ) (d n : ℕ) → take d xs ++ take n (take (length xs - d) (drop d xs)) ≡ take (d + n) xs
further xs d n = let e : length xs - d ≡ length (drop d xs) = omega (arith, length-drop d xs) in rw (e, take-length) (sym (take-add d n xs))

pub loop-done-preserved : goal.loop-done-preserved
loop-done-preserved g c =
    record {
      held = subst (λ t. Gains (g.K.Sink.held c.args.sink.now) (g.K.Sink.held c.put.new.self) t) (further c.args.bytes.now c.loop-done.done c.in-Done.n) (Gains-trans _ _ _ _ _ c.loop-done.invariant.held c.in-Done.ensures.bytes.2);
      within = omega (arith, c.in-Done.ensures.bytes.1, length-take {A = ℕ}, length-drop {A = ℕ});
      later = omega (arith, c.in-Done.ensures.cause.later);
    }
