-- The text of delays: a line for each pair of sites of which the first has to be over before the second begins, by the
-- first and then by the second. The text is this project's own.
use Rattle.std.specs.Prelude.{ℕ, List, [], ◌++◌, ◌==◌, ◌&&◌, Bool, if◌then◌else◌, codes}
use Rattle.std.specs.List.{list_any}
use Rattle.std.specs.Fmt.{decimal}
use Rattle.site_graph.specs.Bits.{Bits}
use Rattle.run_report.specs.Report.{line, each_from}

abbrev pub has_pair : Bits → (row column : ℕ) → Bool
has_pair bits row column = list_any (λ p. (p.0 == row) && (p.1 == column)) bits.set

abbrev pub pair_line : Bits → (row column : ℕ) → List ℕ
pair_line bits row column =
    if has_pair bits row column then line (codes "delay " ++ decimal row ++ codes " " ++ decimal column) else []

abbrev pub delay_lines : Bits → List ℕ
delay_lines bits = each_from 0 bits.rows (λ row. each_from 0 bits.columns (pair_line bits row))
