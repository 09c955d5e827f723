use Rattle.std.proofs.Common.{◌≡◌, map, drop}
use Rattle.sc_core.specs.ViewParts.{plain_core_link}
use Rattle.index_form.specs.Seen.{seen, seen_links}
use Rattle.index_form.proofs.affine.Sight.+known.Given as goal

abbrev pub invariant-links-loop-link : goal.invariant-links-loop-link
invariant-links-loop-link l =
    seen_links l.self.nodes (seen l.known) (map plain_core_link (drop l.link-index l.links))
    ≡ seen_links l.self.nodes (seen l.initial.known) (map plain_core_link l.links)
