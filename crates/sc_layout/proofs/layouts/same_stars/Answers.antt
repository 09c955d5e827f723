use Rattle.std.proofs.Common.{◌≡◌, refl}
use Rattle.std.specs.Bool.{Decides}
use Rattle.std.proofs.lemmas.Slice.Eq.{slice_eq-Decides}
use Rattle.sc_base.specs.declared.shape.Star.{Star}
use Rattle.sc_base.specs.declared.shape.Star.TheVariants.{Local, Global, Spread}
use Rattle.sc_base.specs.contracts.shape.StarPartialEq.TheImpl.{eq-value}
use Rattle.sc_layout.proofs.layouts.same_stars.Goals as goal

star-eq : (a b : Star) → Decides (eq-value.it a b) (a ≡ b)
star-eq Local Local = (λ _. refl, λ _. refl)
star-eq Local Global = (λ e. cc, λ e. cc)
star-eq Local Spread = (λ e. cc, λ e. cc)
star-eq Global Local = (λ e. cc, λ e. cc)
star-eq Global Global = (λ _. refl, λ _. refl)
star-eq Global Spread = (λ e. cc, λ e. cc)
star-eq Spread Local = (λ e. cc, λ e. cc)
star-eq Spread Global = (λ e. cc, λ e. cc)
star-eq Spread Spread = (λ _. refl, λ _. refl)

pub returns : goal.returns
returns c = slice_eq-Decides star-eq c.args.a.now c.args.b.now c.eq.result c.eq.ensures
