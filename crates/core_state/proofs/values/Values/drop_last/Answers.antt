use Rattle.std.proofs.Common.{◌-◌, ◌≤◌, length, map, take, drop, reverse, sym, ap, ◌∙◌, subst, ◌≡◌, true, arith}
use Rattle.std.specs.List.{list_all}
use Rattle.node_values.specs.Operands.{is_here, value_in}
use Rattle.core_state.proofs.Lists.{length_by, rest_by, all_taken}
use Rattle.core_state.proofs.values.Values.drop_last.Goals as goal

pub invariant_of-self : goal.invariant_of-self
invariant_of-self c =
    ap (list_all is_here) c.truncate.ensures.items
    ∙ all_taken is_here (c.len.result - c.args.count) c.self.inside.operands.items c.self.invariant

pub returns : goal.returns
returns c =
    let xs = c.self.inside.operands.items in
    let within : c.args.count ≤ length xs = omega (arith, ap length c.self.view_is, length_by value_in xs) in
    ap (λ s. reverse (map value_in s)) (c.truncate.ensures.items
    ∙ ap (λ n. take (n - c.args.count) xs) (c.len.ensures ∙ c.self.inside.operands.ok.0))
    ∙ rest_by value_in xs c.args.count within ∙ ap (drop c.args.count) c.self.view_is
