use Rattle.std.proofs.Common.{◌≡◌, None, arith}
use Rattle.splitc_top.specs.Words.{number_word}
use Rattle.splitc_top.proofs.Numbers.{number_word-above}
use Rattle.splitc_top.proofs.words.number_word.Goals as goal

pub returns-in_err-checked_mul-clause-value : goal.returns-in_err-checked_mul-clause-value
returns-in_err-checked_mul-clause-value c =
    let none : number_word c.args.low c.args.high c.args.word.now ≡ None = number_word-above _ _ c.loop-x.number c.args.word.now c.loop-x.x-index (omega arith) (omega arith) (omega arith) (omega arith) (omega arith) (omega (arith, c.in_err-checked_mul.ensures)) c.loop-x.invariant in
    cc

pub returns-in_err-number-clause-value : goal.returns-in_err-number-clause-value
returns-in_err-number-clause-value c =
    let none : number_word c.args.low c.args.high c.args.word.now ≡ None = number_word-above _ _ c.loop-x.number c.args.word.now c.loop-x.x-index (omega arith) (omega arith) (omega arith) (omega arith) (omega arith) (omega (arith, c.in_err-number.ensures, c.in_ok-checked_mul.ensures)) c.loop-x.invariant in
    cc
