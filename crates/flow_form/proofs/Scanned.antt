-- What a scan of a source found: its points, its sites, and where each function begins and returns.
use Rattle.std.proofs.Common.{◌≡◌, refl, sym, ap, ◌∙◌, ℕ, zero, suc, ◌+◌, ◌<◌, List, [], ◌∷◌, ◌++◌, length, map, Option, Some, None, slice_get, subst, arith, append_assoc}
use Rattle.std.proofs.lemmas.List.{append-nil}
use Rattle.std.specs.Prelude.{sum_by}
use Rattle.std.specs.Option.{option_map_or}
use Rattle.std.proofs.lemmas.List.Sums.{sum_by-cons}
use Rattle.sc_core.specs.Core.{Function, Program}
use Rattle.sc_meaning.specs.Points.{size_of, first_from, first_point}
use Rattle.flow_form.specs.declared.count.Count.{Count}
use Rattle.flow_form.specs.declared.scan.Entry.{Entry}
use Rattle.flow_form.specs.declared.scan.Whole.{Whole}
use Rattle.flow_form.specs.Accesses.{accesses_in, accesses_of}
use Rattle.flow_form.specs.Statements.{returns_of}
use Rattle.flow_form.specs.FlowOf.{returns}
use Rattle.flow_form.specs.Counts.{with_more}
use Rattle.flow_form.specs.Scans.{function_scan, with_entry, with_function, with_functions, whole_of}
use Rattle.flow_form.proofs.Run.{last_from, sites_from, all_sites}

-- the functions, the first of which begins at this point
abbrev pub entries_from : (point : ℕ) → List Function → List Entry
entries_from k [] = []
entries_from k (f ∷ more) = record { first = k; returns = returns_of f k } ∷ entries_from (k + size_of f.body + 2) more

same_entries : (k l : ℕ) (more : List Function) → k ≡ l → entries_from k more ≡ entries_from l more
same_entries k l more e = ap (λ n. entries_from n more) e

withs_are : (functions : List Function) (w : Whole) →
    with_functions functions w ≡ record {
      entries = w.entries ++ entries_from w.count.points functions;
      count = record { points = last_from w.count.points functions; sites = sites_from w.count.sites functions };
    }
unfolding with_functions with_function with_entry function_scan with_more
withs_are [] w = ap (λ es. record { entries = es; count = w.count }) (sym (append-nil w.entries))
withs_are (f ∷ more) w =
    let k = w.count.points in
    let n : k + (size_of f.body + 2) ≡ k + size_of f.body + 2 = omega arith in
    let own : Entry = record { first = k; returns = returns_of f k } in
    let c : Count = record { points = k + (size_of f.body + 2); sites = w.count.sites + accesses_in f.body } in
    withs_are more (record { entries = w.entries ++ own ∷ []; count = c })
    ∙ ap (λ i. record {
      entries = (w.entries ++ own ∷ []) ++ entries_from i more;
      count = record { points = last_from i more; sites = sites_from (w.count.sites + accesses_in f.body) more };
    }) n
    ∙ ap (λ es. record {
      entries = es;
      count = record { points = last_from (k + size_of f.body + 2) more; sites = sites_from (w.count.sites + accesses_in f.body) more };
    }) (append_assoc w.entries (own ∷ []) (entries_from (k + size_of f.body + 2) more))

pub whole_is : (functions : List Function) →
    whole_of functions ≡ record {
      entries = entries_from 1 functions;
      count = record { points = last_from 1 functions; sites = sites_from 0 functions };
    }
unfolding whole_of
whole_is functions = withs_are functions (record { entries = []; count = record { points = 1; sites = 0 } })

pub sites_total : (program : Program) → (whole_of program.functions).count.sites ≡ accesses_of program
sites_total program =
    let e = all_sites 0 program.functions in
    ap (λ (w : Whole). w.count.sites) (whole_is program.functions) ∙ (omega arith)

pub points_total : (program : Program) → (whole_of program.functions).count.points ≡ last_from 1 program.functions
points_total program = ap (λ (w : Whole). w.count.points) (whole_is program.functions)

pub sites_of_whole : (w : Whole) (program : Program) → w ≡ whole_of program.functions → w.count.sites ≡ accesses_of program
sites_of_whole w program e = ap (λ (v : Whole). v.count.sites) e ∙ sites_total program

-- where a function returns, and begins
returns_from : (functions : List Function) (k f : ℕ) →
    option_map_or (λ (e : Entry). e.returns) (slice_get (entries_from k functions) f) []
    ≡ option_map_or (λ (g : Function). returns_of g (first_from k functions f)) (slice_get functions f) []
returns_from [] k f = refl
returns_from (g ∷ more) k zero = refl
returns_from (g ∷ more) k (suc f) = returns_from more (k + size_of g.body + 2) f

pub returns_found : (functions : List Function) (f : ℕ) →
    option_map_or (λ (e : Entry). e.returns) (slice_get (whole_of functions).entries f) [] ≡ returns functions f
returns_found functions f =
    ap (λ (w : Whole). option_map_or (λ (e : Entry). e.returns) (slice_get w.entries f) []) (whole_is functions)
    ∙ returns_from functions 1 f
