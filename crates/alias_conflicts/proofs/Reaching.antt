-- What a form allows on a node is a region.
use Rattle.std.proofs.Common.{◌≡◌, ℕ, ◌<◌, ◌^◌, true, false, Some, None, sym, subst, slice_get}
use Rattle.sc_layout.specs.Layout.{Arrangement, LaidObject, IsLayout}
use Rattle.sc_layout.specs.Place.{place_of}
use Rattle.site_graph.specs.declared.site.Form.TheVariants.{Element, Own, OwnExposed, Exposed}
use Rattle.site_graph.specs.declared.site.IndexForm.{IndexForm}
use Rattle.site_graph.specs.Graph.{Graph}
use Rattle.alias_conflicts.specs.declared.region.Indices.{Indices}
use Rattle.alias_conflicts.specs.declared.region.Indices.TheVariants.{Any}
use Rattle.alias_conflicts.specs.Regions.{AreIndices, IsRegionOf}
use Rattle.alias_conflicts.proofs.Cells.{cell_from, index_of, fits_word, spread_any, ordinary_from}

pub element_none : (layout : Arrangement) (graph : Graph) (object : ℕ) (form : IndexForm) (node : ℕ) → IsLayout layout → layout.nodes < 2 ^ 32 → AreIndices layout.nodes node form None → IsRegionOf layout graph (Element object form) node None
element_none layout graph object form node h few none cell =
    (λ s. (let t = s in (none t.0 (fits_word layout node object t.0 cell h few t.2)).0 t.1), λ s. absurd s)

pub element_spread : (layout : Arrangement) (graph : Graph) (object : ℕ) (form : IndexForm) (node : ℕ) (indices : Indices) (o : LaidObject) → IsLayout layout → layout.nodes < 2 ^ 32 → node < layout.nodes → slice_get layout.objects object ≡ Some o → o.shape.spread ≡ true → AreIndices layout.nodes node form (Some indices) → IsRegionOf layout graph (Element object form) node (Some (record { object = Some object; node = None; indices = indices }))
element_spread layout graph object form node indices o h few low found s are cell = (
  λ t. (let w = cell_from layout node object t.0 cell h low t.2 in
      (t.0, record { place = w.place; at = subst (λ k. place_of layout cell.node k t.0 ≡ Some cell) (sym w.object_is) w.at; object = w.object_is; node = tt; index = (are t.0 (fits_word layout node object t.0 cell h few t.2)).0 t.1 })),
  λ t. (let w = t.1 in
      let at : place_of layout cell.node object t.0 ≡ Some cell = subst (λ k. place_of layout cell.node k t.0 ≡ Some cell) w.object w.at in
      (t.0, (are t.0 (fits_word layout cell.node object t.0 cell h few at)).1 w.index, spread_any layout cell.node node object t.0 cell o found s at)),
)

pub element_ordinary : (layout : Arrangement) (graph : Graph) (object : ℕ) (form : IndexForm) (node : ℕ) (indices : Indices) (o : LaidObject) → IsLayout layout → layout.nodes < 2 ^ 32 → node < layout.nodes → slice_get layout.objects object ≡ Some o → o.shape.spread ≡ false → AreIndices layout.nodes node form (Some indices) → IsRegionOf layout graph (Element object form) node (Some (record { object = Some object; node = Some node; indices = indices }))
element_ordinary layout graph object form node indices o h few low found s are cell = (
  λ t. (let w = cell_from layout node object t.0 cell h low t.2 in
      (t.0, record { place = w.place; at = subst (λ k. place_of layout cell.node k t.0 ≡ Some cell) (sym w.object_is) w.at; object = w.object_is; node = (ordinary_from layout node object t.0 cell o found s t.2).node_is; index = (are t.0 (fits_word layout node object t.0 cell h few t.2)).0 t.1 })),
  λ t. (let w = t.1 in
      let at : place_of layout cell.node object t.0 ≡ Some cell = subst (λ k. place_of layout cell.node k t.0 ≡ Some cell) w.object w.at in
      (t.0, (are t.0 (fits_word layout cell.node object t.0 cell h few at)).1 w.index, subst (λ n. place_of layout n object t.0 ≡ Some cell) w.node at)),
)

pub own_region : (layout : Arrangement) (graph : Graph) (object node : ℕ) → IsLayout layout → node < layout.nodes → IsRegionOf layout graph (Own object) node (Some (record { object = Some object; node = Some node; indices = Any }))
own_region layout graph object node h low cell = (
  λ t. (let i = index_of layout cell h t.0 in (i.0, record { place = t.0; at = i.1; object = t.1; node = t.2; index = tt })),
  λ t. (let w = t.1 in (w.place, w.object, w.node)),
)

pub own_exposed_region : (layout : Arrangement) (graph : Graph) (node : ℕ) → IsLayout layout → node < layout.nodes → IsRegionOf layout graph OwnExposed node (Some (record { object = None; node = Some node; indices = Any }))
own_exposed_region layout graph node h low cell = (
  λ t. (let i = index_of layout cell h t.0 in (i.0, record { place = t.0; at = i.1; object = t.1; node = t.2; index = tt })),
  λ t. (let w = t.1 in (w.place, w.object, w.node)),
)

pub exposed_region : (layout : Arrangement) (graph : Graph) (node : ℕ) → IsLayout layout → IsRegionOf layout graph Exposed node (Some (record { object = None; node = None; indices = Any }))
exposed_region layout graph node h cell = (
  λ t. (let i = index_of layout cell h t.0 in (i.0, record { place = t.0; at = i.1; object = t.1; node = tt; index = tt })),
  λ t. (let w = t.1 in (w.place, w.object)),
)
