use Rattle.std.proofs.Common.{◌≡◌, arith, length, sym, ap, ◌∙◌, drop}
use Rattle.sc_lexer.specs.Format.{format_end}
use Rattle.sc_lexer.proofs.Walks.{format_end-cut_escape}
use Rattle.sc_lexer.proofs.format.format_size.Goals as goal

-- the text ends after a backslash
pub returns-then-escaped-2 : goal.returns-then-escaped-2
returns-then-escaped-2 c =
    let bytes = c.args.bytes.now in
    let at_end : c.loop-i.i ≡ length bytes = omega arith in
    sym (format_end-cut_escape bytes c.loop-i.i at_end) ∙ ap (λ e. format_end e c.loop-i.i (drop c.loop-i.i bytes)) (sym c.if-escaped-2.true) ∙ c.loop-i.invariant
