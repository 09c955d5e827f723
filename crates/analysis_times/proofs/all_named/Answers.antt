use Rattle.std.proofs.Common.{◌≡◌, ℕ, List, length, ◌<◌, ◌∙◌, ap, subst}
use Rattle.std.specs.List.{All}
use Rattle.site_graph.specs.declared.site.Site.{Site}
use Rattle.site_graph.specs.Graph.{Graph}
use Rattle.site_graph.specs.Kept.{NamesSite}
use Rattle.analysis_times.proofs.all_named.Goals as goal

named : (objects count : ℕ) (sites all : List Site) → count ≡ objects → sites ≡ all → All (NamesSite count) sites → All (NamesSite objects) all
named objects count sites all e f h = subst (λ n. All (NamesSite n) all) e (subst (λ (xs : List Site). All (NamesSite count) xs) f h)

below : (objects count : ℕ) (exposed all : List ℕ) → count ≡ objects → exposed ≡ all → All (λ o. o < count) exposed → All (λ o. o < objects) all
below objects count exposed all e f h = subst (λ n. All (λ o. o < n) all) e (subst (λ (xs : List ℕ). All (λ o. o < count) xs) f h)

pub returns : goal.returns
returns c = λ e. record {
  sites = named (length c.args.layout.now.objects) c.count-objects.result c.as_slice.result.now c.args.flow.now.sites c.count-objects.ensures.count
      (c.as_slice.ensures ∙ ap (λ (g : Graph). g.sites) c.flow.view_is) (c.sites_named.ensures.0 c.if-not-sites_named.false);
  exposed = below (length c.args.layout.now.objects) c.count-objects.result c.as_slice-2.result.now c.args.flow.now.exposed c.count-objects.ensures.count
      (c.as_slice-2.ensures ∙ ap (λ (g : Graph). g.exposed) c.flow.view_is) (c.exposed_named.ensures.0 e);
}
