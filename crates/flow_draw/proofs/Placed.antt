-- What the form of a place depends on.
use Rattle.std.proofs.Common.{◌≡◌, refl, ap, ◌∙◌, ℕ, Bool, true, false, List}
use Rattle.sc_core.specs.Core.{Core, Arguments, none, argument}
use Rattle.sc_core.specs.Forms.{PlaceForm, own_object, element, own_exposed, exposed}
use Rattle.site_graph.specs.declared.site.IndexForm.{IndexForm}
use Rattle.site_graph.specs.declared.site.IndexForm.TheVariants as index
use Rattle.site_graph.specs.declared.site.Form.TheVariants.{Element}
use Rattle.flow_form.specs.Within.{Within}
use Rattle.index_form.specs.Readers.{within_of as seen_by}
use Rattle.flow_draw.specs.declared.around.Around.{Around}
use Rattle.flow_draw.specs.Around.{within_of}
use Rattle.flow_form.specs.Forms.{or_else, affine_of, if_fits, wrapped, mine, known, index_form, form_by}

index_at : (nodes : ℕ) → (mines : List ℕ) → Core → IndexForm
index_at nodes mines e = known (or_else (mine mines e) (or_else (wrapped nodes e) (if_fits index.Linear (affine_of nodes e))))

index-same : (v w : Within) → v.nodes ≡ w.nodes → v.mines ≡ w.mines → (plain : Bool) (indices : Arguments) →
    index_form v plain indices ≡ index_form w plain indices
unfolding index_at
index-same v w n m true none = refl
index-same v w n m true (argument e none) = ap (λ nodes. index_at nodes v.mines e) n ∙ ap (λ mines. index_at w.nodes mines e) m
index-same v w n m true (argument e (argument f more)) = refl
index-same v w n m false indices = refl

-- the number of nodes and the locals of the `for_my_1d` around
pub form-same : (v w : Within) → v.nodes ≡ w.nodes → v.mines ≡ w.mines → (place : PlaceForm) → form_by v place ≡ form_by w place
form-same v w n m (own_object o) = refl
form-same v w n m (element o plain indices) = ap (Element o) (index-same v w n m plain indices)
form-same v w n m own_exposed = refl
form-same v w n m exposed = refl

pub form-around : (a : Around) (place : PlaceForm) → form_by (seen_by a.nodes a.mines.now) place ≡ form_by (within_of a) place
form-around a place = form-same (seen_by a.nodes a.mines.now) (within_of a) refl refl place

pub ruleset placed = (form-around)
