-- What the cells of an object hold, one after another.
use Rattle.std.proofs.Common.{◌≡◌, ℕ, ◌+◌, List, ◌++◌, Some, codes, ap, ◌∙◌}
use Rattle.sc_base.specs.declared.value.Place.{Place}
use Rattle.sc_base.specs.declared.value.Value.{Value}
use Rattle.sc_tree.specs.Names.{Text}
use Rattle.sc_layout.specs.Layout.{Arrangement}
use Rattle.sc_layout.specs.Place.{place_of}
use Rattle.run_report.specs.Report.{value_text, cell_text, first_cells, cells_text, count_of}
use Rattle.run_report.proofs.Lines.{each_added}

-- one cell more
pub cell_added : (new old begun : List ℕ) (names : List Text) (layout : Arrangement) (memory : Place → Value)
    (node object index : ℕ) (place : Place) (value : Value) →
    new ≡ old ++ (codes " " ++ value_text names layout value) → value ≡ memory place →
    Some place ≡ place_of layout node object index →
    old ≡ begun ++ first_cells names layout memory node object index →
    new ≡ begun ++ first_cells names layout memory node object (index + 1)
cell_added new old begun names layout memory node object index place value added held here so_far =
    let cell : new ≡ old ++ cell_text names layout memory (place_of layout node object index) =
    added ∙ ap (λ v. old ++ (codes " " ++ value_text names layout v)) held
    ∙ ap (λ p. old ++ cell_text names layout memory p) here in
    each_added new old begun index (λ i. cell_text names layout memory (place_of layout node object i)) cell so_far

pub all_cells : (new begun : List ℕ) (names : List Text) (layout : Arrangement) (memory : Place → Value)
    (node object count : ℕ) → count ≡ count_of layout object →
    new ≡ begun ++ first_cells names layout memory node object count →
    new ≡ begun ++ cells_text names layout memory node object
unfolding cells_text
all_cells new begun names layout memory node object count all so_far =
    so_far ∙ ap (λ n. begun ++ first_cells names layout memory node object n) all
