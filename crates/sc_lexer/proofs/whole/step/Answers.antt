use Rattle.std.proofs.Common.{◌≡◌, ◌∙◌, List, ℕ, arith, subst, sym, ap, drop}
use Rattle.sc_lexer.specs.Text.{State, IsTakeable}
use Rattle.sc_lexer.proofs.StepLaws.{turn-good, turn-steps, taken-line}
use Rattle.sc_lexer.proofs.TextLaws.{taken-at}
use Rattle.sc_lexer.proofs.whole.step.Goals as goal

pub split_at-requires-2 : goal.split_at-requires-2
split_at-requires-2 c =
    let rest_is = c.split_at.ensures.back ∙ ap (λ n. drop n c.args.source.now) c.at.ensures in
    (turn-good c.args.source.now c.args.scan.now c.split_at.result.1.now rest_is c.in_ok-element.element c.requires.at (sym c.in_ok-element.was ∙ c.element.ensures)).within

pub take-requires : goal.take-requires
take-requires c =
    let rest_is = c.split_at.ensures.back ∙ ap (λ n. drop n c.args.source.now) c.at.ensures in
    let good = turn-good c.args.source.now c.args.scan.now c.split_at.result.1.now rest_is c.in_ok-element.element c.requires.at (sym c.in_ok-element.was ∙ c.element.ensures) in
    subst (λ (p : List ℕ). IsTakeable c.args.scan.now.defined p c.in_ok-element.element.found) (sym c.split_at-2.ensures.front) good.takeable

pub pass-requires : goal.pass-requires
pass-requires c =
    let rest_is = c.split_at.ensures.back ∙ ap (λ n. drop n c.args.source.now) c.at.ensures in
    let good = turn-good c.args.source.now c.args.scan.now c.split_at.result.1.now rest_is c.in_ok-element.element c.requires.at (sym c.in_ok-element.was ∙ c.element.ensures) in
    let piece = c.split_at-2.result.0.now in
    let place : c.take.new.self.at ≡ c.args.scan.now.at = ap (λ (s : State). s.at) c.in_ok-take.ensures ∙ taken-at c.args.scan.now piece c.in_ok-element.element.found in
    let line : c.take.new.self.line ≡ c.args.scan.now.line = ap (λ (s : State). s.line) c.in_ok-take.ensures ∙ taken-line c.args.scan.now piece c.in_ok-element.element.found in
    record {
      at = omega (arith, place, good.within, c.split_at-2.ensures.front_len, c.split_at.ensures.back_len, c.at.ensures, c.requires.small);
      line = omega (arith, line, good.within, c.split_at-2.ensures.front_len, c.split_at.ensures.back_len, c.at.ensures, c.requires.small, c.requires.line);
    }

pub returns : goal.returns
returns c =
    let rest_is = c.split_at.ensures.back ∙ ap (λ n. drop n c.args.source.now) c.at.ensures in
    record {
      steps = turn-steps c.args.source.now c.args.scan.now c.split_at.result.1.now rest_is c.in_ok-element.element c.split_at-2.result.0.now c.take.new.self c.pass.new.self (sym c.in_ok-element.was ∙ c.element.ensures) c.split_at-2.ensures.front c.in_ok-take.ensures c.pass.ensures;
      refused = tt;
    }
