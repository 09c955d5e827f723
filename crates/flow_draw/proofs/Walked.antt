-- The laws that the walk over a core tree of the code goes by.
use Rattle.std.proofs.Common.{◌≡◌, ap, ◌∙◌, [], map}
use Rattle.sc_core.proofs.ViewCoreLaws.{core_expr-is, core_link-is, core_test-is}
use Rattle.sc_core.specs.declared.expression.CoreExpr.{CoreExpr, out-CoreExpr}
use Rattle.sc_core.specs.View.{plain_core, linked}
use Rattle.sc_core.specs.ViewParts.{plain_core_first, plain_core_link}
use Rattle.flow_draw.proofs.Grown.{all-none, all-on, drawn-constant}
use Rattle.flow_draw.proofs.Chained.{links-none, links-on, drawn-step, drawn-linked, drawn-choice}
use Rattle.flow_draw.proofs.Chosen.{drawn-any, drawn-every, any-none, any-on, every-none, every-on}
use Rattle.flow_draw.proofs.Updated.{drawn-update, site-at, site-none}

-- without links
pub core-alone : (e : CoreExpr) → (out-CoreExpr e).links ≡ [] → plain_core e ≡ plain_core_first (out-CoreExpr e).first
core-alone e h = core_expr-is e ∙ ap (λ ls. linked (plain_core_first (out-CoreExpr e).first) (map plain_core_link ls)) h

pub ruleset reads = (core_expr-is, core_link-is, core_test-is)

pub ruleset expressions = (core_expr-is, core-alone, drawn-linked)

pub ruleset forms = (drawn-constant, drawn-step, drawn-choice, drawn-every, drawn-any, drawn-update)

pub ruleset chains = (all-none, all-on)

pub ruleset links = (links-none, links-on)

pub ruleset everies = (every-none, every-on, core_test-is)

pub ruleset anies = (any-none, any-on, core_test-is)

pub ruleset sites = (site-at, site-none)
