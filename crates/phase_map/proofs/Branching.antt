-- Points from which two edges or more lead, by the numbers of their edges.
use Rattle.std.proofs.Common.{◌≡◌, ℕ, ◌+◌, ◌<◌, ◌≤◌, List, Some, true, ◌==◌, ◌&&◌, ltb, length, get_or, refl, sym, ap, ◌∙◌, ⊎_elim, arith}
use Rattle.std.specs.List.{slice_get}
use Rattle.std.proofs.lemmas.Bool.{or_cases, and_parts, ltb-true, cases_lt, cases_eq}
use Rattle.std.proofs.lemmas.Option.{slice_get-get_or}
use Rattle.site_graph.specs.declared.flow.Edge.{Edge}
use Rattle.site_graph.specs.Graph.{Graph}
use Rattle.site_graph.specs.Kept.{IsFlow}
use Rattle.site_graph.specs.Reached.{AreFirsts}
use Rattle.site_graph.specs.Rising.{edge_before}
use Rattle.site_graph.proofs.Firsts.{target_goes, goes_target}
use Rattle.phase_map.specs.Uneven.{Branches}

from_is : (graph : Graph) (firsts : List ℕ) (p k : ℕ) (e : Edge) → AreFirsts graph firsts → p < length graph.points → slice_get graph.edges k ≡ Some e
    → get_or firsts p 0 ≤ k → k < get_or firsts (p + 1) 0 → e.from ≡ p
from_is graph firsts p k e f l s low high =
    let below = (f.below (p + 1) k e (omega arith) s).0 high in
    ⊎_elim (λ q. absurd (let h = (f.below p k e (omega arith) s).1 q in omega (arith, h))) (λ q. omega (arith, below, q)) (cases_lt e.from p)

apart : (a b : Edge) → edge_before a b ≡ true → a.from ≡ b.from → a.to ≡ b.to → ⊥
apart a b t e same = ⊎_elim
    (λ s. let l = ltb-true a.from b.from s in omega (arith, l, e))
    (λ s. let l = ltb-true a.to b.to (and_parts (a.from == b.from) (ltb a.to b.to) s).1 in omega (arith, l, same))
    (or_cases (ltb a.from b.from) ((a.from == b.from) && ltb a.to b.to) t)

pub branches_from : (graph : Graph) (firsts : List ℕ) (p : ℕ) → IsFlow graph → AreFirsts graph firsts → p < length graph.points
    → get_or firsts p 0 + 1 < get_or firsts (p + 1) 0 → Branches graph p
branches_from graph firsts p kept f l two =
    let none : Edge = record { from = 0; to = 0 } in
    let w = f.within (p + 1) (omega arith) in
    let lo : get_or firsts p 0 < length graph.edges = omega arith in
    let hi : get_or firsts p 0 + 1 < length graph.edges = omega arith in
    both (get_or firsts p 0) (get_or graph.edges (get_or firsts p 0) none) (get_or graph.edges (get_or firsts p 0 + 1) none) refl
    (slice_get-get_or graph.edges (get_or firsts p 0) none lo) (slice_get-get_or graph.edges (get_or firsts p 0 + 1) none hi)
    (kept.edges_rise (get_or firsts p 0) (get_or firsts p 0 + 1) none (omega arith) hi)
  where
    both : (k : ℕ) (a b : Edge) → k ≡ get_or firsts p 0 → slice_get graph.edges k ≡ Some a → slice_get graph.edges (k + 1) ≡ Some b
        → edge_before a b ≡ true → Branches graph p
    both k a b e at_a at_b rise =
        let from_a = from_is graph firsts p k a f l at_a (omega arith) (omega arith) in
        let from_b = from_is graph firsts p (k + 1) b f l at_b (omega arith) (omega arith) in (
          a.to,
          b.to,
          apart a b rise (from_a ∙ sym from_b),
          target_goes graph firsts p a.to f l (k, a, omega arith, omega arith, at_a, refl),
          target_goes graph firsts p b.to f l (k + 1, b, omega arith, omega arith, at_b, refl),
        )

pub branches_to : (graph : Graph) (firsts : List ℕ) (p : ℕ) → AreFirsts graph firsts → p < length graph.points → Branches graph p
    → get_or firsts p 0 + 1 < get_or firsts (p + 1) 0
branches_to graph firsts p f l (a, b, differ, to_a, to_b) =
    let x = goes_target graph firsts p a f l to_a in
    let y = goes_target graph firsts p b f l to_b in
    ⊎_elim
    (λ q. absurd (same x.0 y.0 x.1 y.1 q x.4 y.4 x.5 y.5))
    (λ q. omega (arith, q, x.2, x.3, y.2, y.3)) (cases_eq x.0 y.0)
  where
    same : (k j : ℕ) (d e : Edge) → k ≡ j → slice_get graph.edges k ≡ Some d → slice_get graph.edges j ≡ Some e → d.to ≡ a → e.to ≡ b → ⊥
    same k j d e q at_d at_e is_a is_b =
        let one : Some d ≡ Some e = sym at_d ∙ (ap (λ n. slice_get graph.edges n) q ∙ at_e) in
        let eq : d ≡ e = cc in
        differ (sym is_a ∙ (ap (λ (x : Edge). x.to) eq ∙ is_b))
