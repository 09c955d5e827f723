use Rattle.std.proofs.Common.{◌≡◌, ◌≤◌, map, take, length}
use Rattle.sc_core.specs.ViewParts.{plain_core_link}
use Rattle.index_form.specs.Seen.{all_join}
use Rattle.index_form.proofs.affine.are_joining.Given as goal

abbrev pub invariant-loop-i : goal.invariant-loop-i
invariant-loop-i l = record {
  within : l.i ≤ length l.links;
  same : all_join (map plain_core_link (take l.i l.links)) ≡ all_join (map plain_core_link l.links);
}

abbrev pub decreases-loop-i : goal.decreases-loop-i
decreases-loop-i l = l.i
