use Rattle.std.proofs.Common.{◌-◌, ◌≤◌, length, map, take, drop, reverse, ap, ◌∙◌, ◌≡◌, arith}
use Rattle.std.proofs.lemmas.List.{take_rest}
use Rattle.std.specs.List.{list_all}
use Rattle.node_values.specs.Operands.{is_here, value_in}
use Rattle.core_state.proofs.Lists.{length_by, last_by, all_dropped}
use Rattle.core_state.proofs.values.Values.last.Goals as goal

pub returns-clause-values : goal.returns-clause-values
returns-clause-values c =
    let xs = c.self.inside.operands.items in
    let count = c.args.count in
    let within : count ≤ length xs = omega (arith, ap length c.self.view_is, length_by value_in xs) in
    ap (λ s. map value_in (take (length s - (c.len.result - count)) (drop (c.len.result - count) s))) c.as_slice.ensures.value
    ∙ ap (λ n. map value_in (take (length xs - (n - count)) (drop (n - count) xs))) (c.len.ensures ∙ c.self.inside.operands.ok.0)
    ∙ ap (map value_in) (take_rest xs (length xs - count))
    ∙ last_by value_in xs count within
    ∙ ap (λ l. reverse (take count l)) c.self.view_is

pub returns-clause-here : goal.returns-clause-here
returns-clause-here c =
    let xs = c.self.inside.operands.items in
    let from = c.len.result - c.args.count in
    ap (λ s. list_all is_here (take (length s - from) (drop from s))) c.as_slice.ensures.value
    ∙ ap (list_all is_here) (take_rest xs from)
    ∙ all_dropped is_here from xs c.self.invariant
