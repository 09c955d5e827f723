use Rattle.std.proofs.Common.{◌≡◌, drop}
use Rattle.node_emit.specs.Drafts.{waits_put}
use Rattle.node_emit.proofs.draft.Draft.wait.Given as goal

abbrev pub invariant-loop-site : goal.invariant-loop-site
invariant-loop-site l = waits_put l.line (drop l.site-index l.sites) l.self ≡ waits_put l.line l.sites l.fn.self
