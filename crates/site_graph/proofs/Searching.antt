-- A search by a list of open points: what is set is reached, and at the end all that is reached is set.
use Rattle.std.proofs.Common.{◌≡◌, ◌⊎◌, ℕ, ◌<◌, Result, Ok, Err, IfOk, List, [], ◌∷◌, ◌++◌, length, refl, sym, ap, ◌∙◌, subst, inl, inr, ⊎_elim, arith}
use Rattle.std.specs.List.{Contains}
use Rattle.std.proofs.lemmas.List.Elements.{Contains-append_left, Contains-push, Contains-push_cases, All-contains}
use Rattle.effect_order.specs.Flow.{PathBy, LeadsBy}
use Rattle.site_graph.specs.declared.flow.Edge.{Edge}
use Rattle.site_graph.specs.Bits.{Bits, IsSet, IsOf, no_bits}
use Rattle.site_graph.specs.Graph.{Graph}
use Rattle.site_graph.specs.Kept.{IsFlow, IsPointOf}
use Rattle.site_graph.specs.Opened.{IsOpened}
use Rattle.site_graph.specs.Reached.{ReachesBy, AreReachedFromAny}
use Rattle.site_graph.specs.Ways.{Goes}
use Rattle.site_graph.proofs.Members.{in_nil, in_first, in_cons}

-- ---- paths

pub path_further : {S : Type 0} (Goes : S → S → Type 0) (P : S → Type 0) (a : S) (zs : List S) (b c : S) → PathBy Goes P a zs b → P b → Goes b c
    → PathBy Goes P a (zs ++ b ∷ []) c
path_further Goes P a [] b c g p h = (g, p, h)
path_further Goes P a (z ∷ zs) b c (g, q, rest) p h = (g, q, path_further Goes P z zs b c rest p h)

pub leads_further : {S : Type 0} (Goes : S → S → Type 0) (P : S → Type 0) (a b c : S) → LeadsBy Goes P a b → P b → Goes b c → LeadsBy Goes P a c
leads_further Goes P a b c (zs, path) p g = (zs ++ b ∷ [], path_further Goes P a zs b c path p g)

pub leads_once : {S : Type 0} (Goes : S → S → Type 0) (P : S → Type 0) (a b : S) → Goes a b → LeadsBy Goes P a b
leads_once Goes P a b g = ([], g)

-- to where edges lead, paths lead
pub path_within : {S : Type 0} (Goes : S → S → Type 0) (P Q : S → Type 0) → ((a b : S) → Goes a b → Q b) → (a : S) (zs : List S) (b : S) → PathBy Goes P a zs b → Q b
path_within Goes P Q h a [] b g = h a b g
path_within Goes P Q h a (z ∷ zs) b (g, p, rest) = path_within Goes P Q h z zs b rest

pub goes_within : (graph : Graph) → IsFlow graph → (a b : ℕ) → Goes graph a b → IsPointOf graph b
goes_within graph kept a b g = (All-contains (λ (e : Edge). IsPointOf graph e.from × IsPointOf graph e.to) graph.edges (record { from = a; to = b }) kept.edges_within g).1

pub reached_within : (graph : Graph) → IsFlow graph → (stops : Bits) (row a t : ℕ) → ReachesBy graph stops row a t → IsPointOf graph t
reached_within graph kept stops row a t (zs, path) =
    path_within (Goes graph) (λ z. IsSet stops row z → ⊥) (IsPointOf graph) (goes_within graph kept) a zs t path

-- ---- the state of a search, from the points with From

-- a way leads to the point from one of them
abbrev pub FromSome : (graph : Graph) (stops : Bits) (row : ℕ) (From : ℕ → Type 0) → ℕ → Type 0
FromSome graph stops row From t = (a : ℕ) × From a × ReachesBy graph stops row a t

-- an edge does
abbrev pub Begun : (graph : Graph) (From : ℕ → Type 0) → ℕ → Type 0
Begun graph From t = (a : ℕ) × From a × Goes graph a t

pub record Searching (graph : Graph) (stops : Bits) (row : ℕ) (From : ℕ → Type 0) (found : Bits) (todo : List ℕ) : Type 0 where
  pub rows : found.rows ≡ 1
  pub columns : found.columns ≡ length graph.points
  pub sound : (r t : ℕ) → IsSet found r t → (r ≡ 0) × FromSome graph stops row From t
  pub first : (t : ℕ) → Begun graph From t → IsSet found 0 t
  pub listed : (t : ℕ) → Contains todo t → IsSet found 0 t
  pub closed : (z t : ℕ) → IsSet found 0 z → (IsSet stops row z → ⊥) → Goes graph z t → Contains todo z ⊎ IsSet found 0 t

pub search_begins : (graph : Graph) (stops : Bits) (row : ℕ) (From : ℕ → Type 0) (n : ℕ) (none found : Bits) (before todo : List ℕ) → none ≡ no_bits 1 n → n ≡ length graph.points
    → before ≡ [] → IsOpened (Begun graph From) none found before todo → Searching graph stops row From found todo
search_begins graph stops row From n none found before todo e w b o =
    let empty : (r t : ℕ) → IsSet none r t → ⊥ = λ r t s. in_nil (r, t) (subst (λ (b : Bits). IsSet b r t) e s) in
    record {
      rows = o.same_rows ∙ ap (λ (b : Bits). b.rows) e;
      columns = o.same_columns ∙ (ap (λ (b : Bits). b.columns) e ∙ w);
      sound = λ r t s. ⊎_elim (λ p. absurd (empty r t p)) (λ (z, (a, from, g)). (z, (a, from, leads_once (Goes graph) (λ z. IsSet stops row z → ⊥) a t g))) ((o.pairs r t).0 s);
      first = λ t g. (o.pairs 0 t).1 (inr (refl, g));
      listed = λ t i. ⊎_elim (λ j. absurd (in_nil t (subst (λ xs. Contains xs t) b j))) (λ s. s) (o.listed t i);
      closed = λ z t s p g. ⊎_elim (λ q. absurd (empty 0 z q)) inl (o.opened z s);
    }

-- a point that stops is left out
pub search_stops : (graph : Graph) (stops : Bits) (row : ℕ) (From : ℕ → Type 0) (z : ℕ) (found : Bits) (todo rest : List ℕ) → todo ≡ rest ++ z ∷ [] → IsSet stops row z
    → Searching graph stops row From found todo → Searching graph stops row From found rest
search_stops graph stops row From z found todo rest e stop s = record {
  rows = s.rows;
  columns = s.columns;
  sound = s.sound;
  first = s.first;
  listed = λ t i. s.listed t (subst (λ xs. Contains xs t) (sym e) (Contains-append_left rest (z ∷ []) t i));
  closed = λ y t h p g. ⊎_elim
      (λ i. ⊎_elim inl (λ q. absurd (p (subst (IsSet stops row) q stop))) (Contains-push_cases rest z y (subst (λ xs. Contains xs y) e i)))
      inr (s.closed y t h p g);
}

-- from one that does not, the points to which edges lead are opened
pub search_goes : (graph : Graph) (stops : Bits) (row : ℕ) (From : ℕ → Type 0) (z : ℕ) (found next : Bits) (todo rest more : List ℕ) → todo ≡ rest ++ z ∷ [] → (IsSet stops row z → ⊥)
    → Searching graph stops row From found todo → IsOpened (Goes graph z) found next rest more → Searching graph stops row From next more
search_goes graph stops row From z found next todo rest more e free s o =
    let at_z : IsSet found 0 z = s.listed z (subst (λ xs. Contains xs z) (sym e) (Contains-push rest z)) in
    record {
      rows = o.same_rows ∙ s.rows;
      columns = o.same_columns ∙ s.columns;
      sound = λ r t h. ⊎_elim (s.sound r t)
          (λ n. let (zero_row, (a, from, way)) = s.sound 0 z at_z in
          (n.0, (a, from, leads_further (Goes graph) (λ y. IsSet stops row y → ⊥) a z t way free n.1)))
          ((o.pairs r t).0 h);
      first = λ t g. (o.pairs 0 t).1 (inl (s.first t g));
      listed = λ t i. ⊎_elim
          (λ j. (o.pairs 0 t).1 (inl (s.listed t (subst (λ xs. Contains xs t) (sym e) (Contains-append_left rest (z ∷ []) t j)))))
          (λ h. h) (o.listed t i);
      closed = λ y t h p g. ⊎_elim
          (λ was. ⊎_elim
          (λ i. ⊎_elim (λ j. inl (o.kept y j)) (λ q. inr ((o.pairs 0 t).1 (inr (refl, subst (λ x. Goes graph x t) (sym q) g))))
          (Contains-push_cases rest z y (subst (λ xs. Contains xs y) e i)))
          (λ k. inr ((o.pairs 0 t).1 (inl k)))
          (s.closed y t was p g))
          inl (o.opened y h);
    }

-- ---- the end of a search

all_set : (Goes : ℕ → ℕ → Type 0) (P F : ℕ → Type 0) → ((z t : ℕ) → F z → P z → Goes z t → F t)
    → (a : ℕ) → ((t : ℕ) → Goes a t → F t) → (zs : List ℕ) (t : ℕ) → PathBy Goes P a zs t → F t
all_set Goes P F step a first [] t g = first t g
all_set Goes P F step a first (z ∷ zs) t (g, p, rest) = all_set Goes P F step z (λ u h. step z u (first z g) p h) zs t rest

pub search_ends : (graph : Graph) (stops : Bits) (row : ℕ) (From : ℕ → Type 0) (found : Bits) (todo : List ℕ) → IsFlow graph → todo ≡ [] → Searching graph stops row From found todo
    → IsOf 1 (length graph.points) (λ r t. FromSome graph stops row From t) found
search_ends graph stops row From found todo kept e s = record {
  same_rows = s.rows;
  same_columns = s.columns;
  pairs = λ r t. (
    (λ h. let (zero_row, (a, from, way)) = s.sound r t h in
        (omega (arith, zero_row), reached_within graph kept stops row a t way, (a, from, way))),
    (λ (h, k, (a, from, (zs, path))). let zero_row : r ≡ 0 = omega arith in
        subst (λ x. IsSet found x t) (sym zero_row)
        (all_set (Goes graph) (λ z. IsSet stops row z → ⊥) (IsSet found 0)
        (λ z u f p g. ⊎_elim (λ i. absurd (in_nil z (subst (λ xs. Contains xs z) e i))) (λ x. x) (s.closed z u f p g)) a (λ u g. s.first u (a, from, g)) zs t path)),
  );
}

pub listed_within : (graph : Graph) (stops : Bits) (row : ℕ) (From : ℕ → Type 0) (z : ℕ) (found : Bits) (todo rest : List ℕ) → IsFlow graph → todo ≡ rest ++ z ∷ []
    → Searching graph stops row From found todo → z < length graph.points
listed_within graph stops row From z found todo rest kept e s =
    let (zero_row, (a, from, way)) = s.sound 0 z (s.listed z (subst (λ xs. Contains xs z) (sym e) (Contains-push rest z))) in
    reached_within graph kept stops row a z way

-- a search from one point is one from a list
one_of : (graph : Graph) (stops : Bits) (row start : ℕ) (bits : Bits) → AreReachedFromAny graph (start ∷ []) stops row bits
    → IsOf 1 (length graph.points) (λ r t. ReachesBy graph stops row start t) bits
one_of graph stops row start bits b = record {
  same_rows = b.same_rows;
  same_columns = b.same_columns;
  pairs = λ r t. (
    (λ h. let (n, k, (a, is, way)) = (b.pairs r t).0 h in
        (n, k, ⊎_elim (λ e. subst (λ x. ReachesBy graph stops row x t) (sym e) way) (λ i. absurd (in_nil a i)) (in_cons start a [] is))),
    (λ (n, k, way). (b.pairs r t).1 (n, k, (start, in_first start [], way))),
  );
}

pub from_one : {E : Type 0} (graph : Graph) (stops : Bits) (row start : ℕ) (result : Result Bits E)
    → IfOk result (AreReachedFromAny graph (start ∷ []) stops row)
    → IfOk result (IsOf 1 (length graph.points) (λ r t. ReachesBy graph stops row start t))
from_one graph stops row start (Ok bits) b = one_of graph stops row start bits b
from_one graph stops row start (Err e) b = tt
