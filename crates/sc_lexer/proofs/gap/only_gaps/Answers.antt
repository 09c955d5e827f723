use Rattle.std.proofs.Common.{◌≡◌, ◌+◌, ◌-◌, arith, sym, ap, ◌∙◌, length, drop}
use Rattle.std.specs.Prelude.{unwrap_or}
use Rattle.std.proofs.lemmas.List.{take_rest}
use Rattle.sc_lexer.specs.Gap.{gap_at, only_gaps}
use Rattle.sc_lexer.proofs.Walks.{only_gaps-stay, only_gaps-turn}
use Rattle.sc_lexer.proofs.gap.only_gaps.Goals as goal

-- nothing more is skipped
pub returns-then-size-eq0 : goal.returns-then-size-eq0
returns-then-size-eq0 c =
    let nothing : unwrap_or (gap_at c.loop-turn.rest.now) 0 ≡ 0 = ap (λ o. unwrap_or o 0) (sym c.gap_at.ensures.size) ∙ sym c.unwrap_or-size.ensures ∙ c.if-size-eq0.true in
    c.is_empty.ensures ∙ sym (only_gaps-stay (length c.args.line.now - c.loop-turn._turn) c.loop-turn.rest.now nothing) ∙ c.loop-turn.invariant

pub loop-turn-preserved : goal.loop-turn-preserved
loop-turn-preserved c =
    let rest = c.loop-turn.rest.now in
    let turns = length c.args.line.now - (c.loop-turn._turn + 1) in
    let size_is : c.unwrap_or-size.result ≡ unwrap_or (gap_at rest) 0 = c.unwrap_or-size.ensures ∙ ap (λ o. unwrap_or o 0) c.gap_at.ensures.size in
    let step : only_gaps (length c.args.line.now - c.loop-turn._turn) rest ≡ only_gaps turns (drop (unwrap_or (gap_at rest) 0) rest) = only_gaps-turn turns (length c.args.line.now - c.loop-turn._turn) rest (omega arith) in
    ap (only_gaps turns) (take_rest rest c.unwrap_or-size.result ∙ ap (λ k. drop k rest) size_is) ∙ sym step ∙ c.loop-turn.invariant
