use Rattle.std.proofs.Common.{refl, arith, take, ◌++◌, ℕ, length-append, length-take}
use Rattle.std.proofs.KnownBytes.{Consumes-trans}
use Rattle.sc_io.proofs.whole.read_all.Goals as goal

-- the source gave what was read before, and then the piece past the limit
pub returns-then-n-limit-clause-too_long : goal.returns-then-n-limit-clause-too_long
returns-then-n-limit-clause-too_long g c = (
  c.reading.bytes.items ++ take c.in-Got.n c.take.new.into,
  Consumes-trans _ _ _ _ _ c.reading.invariant.given c.in-Got.ensures.bytes.2,
  (λ _. omega (arith, c.len.ensures, c.in-Got.ensures.bytes.1, length-append {A = ℕ}, length-take {A = ℕ}), λ _. refl),
)

pub returns-then-is_err-clause-too_long : goal.returns-then-is_err-clause-too_long
returns-then-is_err-clause-too_long g c = (
  c.reading.bytes.items ++ take c.in-Got.n c.take.new.into,
  Consumes-trans _ _ _ _ _ c.reading.invariant.given c.in-Got.ensures.bytes.2,
  (λ e. cc, λ over. absurd (omega (arith, over, c.len.ensures, c.in-Got.ensures.bytes.1, length-append {A = ℕ}, length-take {A = ℕ}))),
)
