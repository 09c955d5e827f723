use Rattle.std.proofs.Common.{◌∙◌, ◌==◌}
use Rattle.std.specs.Prelude.{ltb}
use Rattle.std.proofs.lemmas.List.Filters.{dedup_is}
use Rattle.flow_form.proofs.Rises.{numbers_follow, numbers_same}
use Rattle.flow_form.proofs.Sorting.{deduped, sorted_as, number_none, number_ties, number_itself, number_test}
use Rattle.flow_form.proofs.sorted.rising_numbers.Goals as goal

pub returns : goal.returns
returns c =
    c.from_vec.ensures ∙ dedup_is _ _ _ c.dedup.ensures.filtered
    ∙ deduped ltb numbers_follow numbers_same number_none (λ x y. x == y) number_ties number_itself
    c.args.numbers.items c.sort_unstable.new.self.items c.sort_unstable.ensures.permutation
    (sorted_as _ ltb number_test c.sort_unstable.new.self.items c.sort_unstable.ensures.sorted)
