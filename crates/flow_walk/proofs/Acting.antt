-- The forms of an action's places.
use Rattle.std.proofs.Common.{◌≡◌, refl, ℕ, zero, suc, List, [], ◌∷◌, Some, None, map, slice_get}
use Rattle.sc_core.specs.declared.expression.CoreExpr.{CoreExpr}
use Rattle.sc_core.specs.Forms.{form_of}
use Rattle.sc_core.specs.View.{plain_core, arguments_of}
use Rattle.site_graph.specs.declared.site.Form.TheVariants.{Exposed}
use Rattle.flow_form.specs.Within.{Within}
use Rattle.flow_form.specs.Forms.{form_by, form_at}
use Rattle.flow_draw.proofs.Noting.{noted-mark, noted-none}

pub form-there : (w : Within) (all : List CoreExpr) (n : ℕ) (e : CoreExpr) → slice_get all n ≡ Some e →
    form_at w (arguments_of (map plain_core all)) n ≡ form_by w (form_of (plain_core e))
form-there w [] n e h = absurd cc
form-there w (x ∷ all) zero e h = let same : x ≡ e = cc in rw same refl
form-there w (x ∷ all) (suc n) e h = form-there w all n e h

pub form-none : (w : Within) (all : List CoreExpr) (n : ℕ) → slice_get all n ≡ None →
    form_at w (arguments_of (map plain_core all)) n ≡ Exposed
form-none w [] n h = refl
form-none w (x ∷ all) zero h = absurd cc
form-none w (x ∷ all) (suc n) h = form-none w all n h

pub ruleset places = (form-there, form-none)

-- ---- what is fetched

pub ruleset marks = (noted-mark, noted-none)
