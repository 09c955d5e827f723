-- The entries of a source's functions say where they begin and return as the definition of the flow does.
use Rattle.std.proofs.Common.{◌≡◌, ◌⊎◌, inl, inr, ⊎_elim, refl, sym, ap, ◌∙◌, ℕ, zero, suc, ◌+◌, ◌<◌, ◌≤◌, List, [], ◌∷◌, ◌++◌, length, Option, Some, None, slice_get, arith}
use Rattle.std.specs.Prelude.{ltb, map, if◌then◌else◌}
use Rattle.std.specs.Option.{option_map_or}
use Rattle.std.proofs.lemmas.Bool.{lt-ltb, le-ltb}
use Rattle.sc_core.specs.Core.{Function}
use Rattle.sc_meaning.specs.Points.{size_of, first_from}
use Rattle.flow_form.specs.declared.scan.Entry.{Entry}
use Rattle.flow_form.specs.declared.scan.Whole.{Whole}
use Rattle.flow_form.specs.Within.{Placed}
use Rattle.flow_form.specs.FlowOf.{edge, edges_called, edges_at, returns}
use Rattle.flow_form.specs.Scans.{whole_of}
use Rattle.flow_form.proofs.Scanned.{entries_from, whole_is, returns_found}
use Rattle.flow_draw.specs.Around.{returns_by, edges_to, edges_by}

-- where functions return
pub returns-as : (functions : List Function) (f : ℕ) → returns_by (whole_of functions).entries f ≡ returns functions f
returns-as functions f = returns_found functions f

pub returns-same : (functions : List Function) → returns_by (whole_of functions).entries ≡ returns functions
returns-same functions = λ i f. returns-as functions f i

-- where they begin
less_suc : (a b : ℕ) → (a < b) ⊎ (b ≤ a) → ltb (suc a) (suc b) ≡ ltb a b
less_suc a b h =
    ⊎_elim (λ l. lt-ltb (suc a) (suc b) (omega arith) ∙ sym (lt-ltb a b l))
    (λ g. le-ltb (suc a) (suc b) (omega arith) ∙ sym (le-ltb a b g)) h

either : (a b : ℕ) → (a < b) ⊎ (b ≤ a)
either zero zero = inr (omega arith)
either zero (suc b) = inl (omega arith)
either (suc a) zero = inr (omega arith)
either (suc a) (suc b) = ⊎_elim (λ l. inl (omega arith)) (λ g. inr (omega arith)) (either a b)

firsts_from : (functions : List Function) (k from f : ℕ) →
    option_map_or (λ (e : Entry). edge from e.first ∷ []) (slice_get (entries_from k functions) f) []
    ≡ (if ltb f (length functions) then edge from (first_from k functions f) ∷ [] else [])
firsts_from [] k from f = rw (le-ltb f 0 (omega arith)) refl
firsts_from (g ∷ more) k from zero = rw (lt-ltb 0 (suc (length more)) (omega arith)) refl
firsts_from (g ∷ more) k from (suc f) =
    firsts_from more (k + size_of g.body + 2) from f
    ∙ ap (λ b. if b then edge from (first_from (k + size_of g.body + 2) more f) ∷ [] else []) (sym (less_suc f (length more) (either f (length more))))

edges_to-as : (functions : List Function) (from : ℕ) (callee : Option ℕ) →
    edges_to (whole_of functions).entries from callee ≡ edges_called functions from callee
edges_to-as functions from None = refl
edges_to-as functions from (Some f) =
    ap (λ (w : Whole). edges_to w.entries from (Some f)) (whole_is functions) ∙ firsts_from functions 1 from f

pub edges-as : (functions : List Function) (p : Placed) → edges_by (whole_of functions).entries p ≡ edges_at functions p
edges-as functions p = ap (λ es. map (λ from. edge from p.at) p.froms ++ es) (edges_to-as functions p.at p.callee)

pub edges-same : (functions : List Function) → edges_by (whole_of functions).entries ≡ edges_at functions
edges-same functions = λ i p. edges-as functions p i

pub ruleset entries = (returns-as, edges-as)
