use Rattle.std.proofs.Common.{◌≡◌, false, arith, sym, ap, ◌∙◌, drop}
use Rattle.std.specs.Prelude.{codes, nat_eq}
use Rattle.std.specs.List.{starts_with}
use Rattle.std.proofs.lemmas.List.{take_rest}
use Rattle.sc_lexer.proofs.Walks.{comment_end-skip}
use Rattle.sc_lexer.proofs.gap.comment_end.Goals as goal

-- no end begins here
pub loop-i-preserved : goal.loop-i-preserved
loop-i-preserved c =
    let bytes = c.args.bytes.now in
    let no_end : starts_with nat_eq (drop c.loop-i.i bytes) (codes "*/") ≡ false = ap (λ bs. starts_with nat_eq bs (codes "*/")) (sym (take_rest bytes c.loop-i.i)) ∙ sym c.if-starts_with.ensures.value in
    sym (comment_end-skip bytes c.loop-i.i (omega arith) no_end) ∙ c.loop-i.invariant
