-- A report and a status say nothing but of the nodes, and of the cells of the layout: equal outcomes give equal ones.
use Rattle.std.proofs.Common.{◌≡◌, ℕ, zero, suc, ◌+◌, ◌<◌, List, ◌++◌, Option, Some, None, Bool, ◌||◌, if◌then◌else◌}
use Rattle.std.proofs.Common.{codes, length, [], refl, ap, ap₂, arith}
use Rattle.std.specs.Fmt.{decimal}
use Rattle.sc_base.specs.declared.value.Value.{Value}
use Rattle.sc_base.specs.declared.value.Place.{Place}
use Rattle.sc_base.specs.declared.value.End.{End}
use Rattle.sc_tree.specs.Names.{Text}
use Rattle.sc_layout.specs.Layout.{Arrangement, IsLayout}
use Rattle.sc_layout.specs.Place.{IsPlace, place_of}
use Rattle.sc_meaning.specs.Whole.{Outcome}
use Rattle.run_report.specs.Report.{line, each_from, node_lines, name_of, cell_text, cells_text, copy_line}
use Rattle.run_report.specs.Report.{object_lines, is_spread, count_of, report}
use Rattle.run_report.specs.Status.{some_end, is_fault, is_cut, is_waiting, status_of}
use Rattle.run_report.proofs.Places.{is_place}

pub each_same : (first count : ℕ) (f g : ℕ → List ℕ) → ((k : ℕ) → k < first + count → f k ≡ g k) →
    each_from first count f ≡ each_from first count g
each_same first zero f g same = refl
each_same first (suc count) f g same =
    ap₂ (λ x y. x ++ y) (same first (omega arith)) (each_same (first + 1) count f g (λ k h. same k (omega arith)))

module _ (names : List Text) (layout : Arrangement) (f g : Place → Value) (laid : IsLayout layout)
    (same : (place : Place) → IsPlace layout place → f place ≡ g place) where
  cell_same : (place : Option Place) → ((p : Place) → place ≡ Some p → f p ≡ g p) →
      cell_text names layout f place ≡ cell_text names layout g place
  cell_same None holds = refl
  cell_same (Some p) holds = ap (λ v. cell_text names layout (λ q. v) (Some p)) (holds p refl)

  cells_same : (node object : ℕ) → node < layout.nodes →
      cells_text names layout f node object ≡ cells_text names layout g node object
  unfolding cells_text
  cells_same node object within =
      each_same 0 (count_of layout object) (λ i. cell_text names layout f (place_of layout node object i))
      (λ i. cell_text names layout g (place_of layout node object i))
      (λ k h. cell_same (place_of layout node object k) (λ p e. same p (is_place layout node object k p laid within e)))

  copy_same : (object node : ℕ) → node < layout.nodes →
      copy_line names layout f object node ≡ copy_line names layout g object node
  copy_same object node within = ap
      (λ r. line (name_of names layout object ++ codes "@" ++ decimal node ++ codes " =" ++ r))
      (cells_same node object within)

  object_same : (object : ℕ) → object_lines names layout f object ≡ object_lines names layout g object
  unfolding object_lines
  object_same object =
      ap₂ (λ x y. if is_spread layout object then x else y)
      (ap (λ r. line (name_of names layout object ++ codes " =" ++ r)) (cells_same 0 object laid.some_node))
      (each_same 0 layout.nodes (copy_line names layout f object) (copy_line names layout g object)
      (λ k h. copy_same object k (omega arith)))

-- outcomes with the same ends and texts of the nodes, and the same in each cell, give the same report
pub report_same : (names : List Text) (layout : Arrangement) (a b : Outcome) (shows_memory : Bool) → IsLayout layout
    → ((node : ℕ) → node < layout.nodes → a.ends node ≡ b.ends node)
    → ((node : ℕ) → node < layout.nodes → a.texts node ≡ b.texts node)
    → ((place : Place) → IsPlace layout place → a.memory place ≡ b.memory place)
    → report names layout a.ends a.texts a.memory shows_memory
    ≡ report names layout b.ends b.texts b.memory shows_memory
report_same names layout a b shows_memory laid ends texts memory =
    ap₂ (λ x y. x ++ (if shows_memory then line (codes "== memory ==") ++ y else []))
    (each_same 0 layout.nodes (λ n. node_lines n (a.ends n) (a.texts n)) (λ n. node_lines n (b.ends n) (b.texts n))
    (λ k h. ap₂ (λ e t. node_lines k e t) (ends k (omega arith)) (texts k (omega arith))))
    (each_same 0 (length layout.objects) (object_lines names layout a.memory) (object_lines names layout b.memory)
    (λ k h. object_same names layout a.memory b.memory laid memory k))

some_end_same : (test : Option End → Bool) (f g : ℕ → Option End) (first count : ℕ) →
    ((k : ℕ) → k < first + count → f k ≡ g k) → some_end test f first count ≡ some_end test g first count
some_end_same test f g first zero same = refl
some_end_same test f g first (suc count) same =
    ap₂ (λ x y. test x || y) (same first (omega arith))
    (some_end_same test f g (first + 1) count (λ k h. same k (omega arith)))

-- and the same ends give the same status
pub status_same : (nodes : ℕ) (a b : Outcome) → ((node : ℕ) → node < nodes → a.ends node ≡ b.ends node)
    → status_of nodes a.ends ≡ status_of nodes b.ends
status_same nodes a b same =
    let below : (k : ℕ) → k < 0 + nodes → a.ends k ≡ b.ends k = λ k h. same k (omega arith) in
    rw (
      some_end_same is_fault a.ends b.ends 0 nodes below,
      some_end_same is_cut a.ends b.ends 0 nodes below,
      some_end_same is_waiting a.ends b.ends 0 nodes below,
    ) refl
