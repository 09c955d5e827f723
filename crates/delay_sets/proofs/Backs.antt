-- Links, back-paths and delays, row after row.
use Rattle.std.proofs.Common.{◌≡◌, ◌⊎◌, ◌↔◌, ℕ, ◌+◌, ◌<◌, ◌≤◌, List, [], ◌∷◌, ◌++◌, Result, Ok, Err, IfOk, length, refl, sym, ap, ◌∙◌, subst, inl, inr, ⊎_elim, arith}
use Rattle.std.proofs.lemmas.Bool.{cases_eq}
use Rattle.effect_order.specs.Flow.{PathBy, LeadsBy}
use Rattle.site_graph.specs.Bits.{Bits, IsSet, IsOf, IsWith, AreInOrder, no_bits}
use Rattle.site_graph.specs.Graph.{Graph, IsAt}
use Rattle.site_graph.specs.Kept.{IsFlow}
use Rattle.site_graph.specs.Ways.{Precedes}
use Rattle.site_graph.specs.Plans.{Blocks}
use Rattle.site_graph.proofs.Members.{in_nil}
use Rattle.site_graph.proofs.Starts.{none_of, as_bits}
use Rattle.delay_sets.specs.Delays.{Link, Back, BackPath, MustDelay}
use Rattle.delay_sets.specs.Relations.{HasPairs, IsUnion, IsClosed, IsComposed}
use Rattle.delay_sets.specs.Backing.{AreSquare, AreLinks, BackBy, AreBackPaths, DelaysBy, IsWithDelays}

-- ---- a row, column after column

abbrev pub RowOf : (R : ℕ → ℕ → Type 0) → (row count : ℕ) → Bits → Bits → Type 0
RowOf R row count old new = HasPairs old (λ r c. IsSet old r c ⊎ ((r ≡ row) × (c < count) × R r c)) new

pub row_none : (R : ℕ → ℕ → Type 0) (at : ℕ) (old : Bits) → RowOf R at 0 old old
row_none R at old = (refl, refl, λ r c. (inl, λ s. ⊎_elim (λ o. o) (λ (e, l, h). absurd (omega (arith, l))) s))

pub row_set : (R : ℕ → ℕ → Type 0) (row column : ℕ) (old now new : Bits) → R row column → RowOf R row column old now → IsWith row column now new
    → RowOf R row (column + 1) old new
row_set R row column old now new is (a, b, f) w = (
  w.same_rows ∙ a,
  w.same_columns ∙ b,
  λ r c. (
    (λ s. ⊎_elim (λ o. ⊎_elim inl (λ (e, l, h). inr (e, omega (arith, l), h)) ((f r c).0 o))
        (λ (e, g). inr (e, omega (arith, g), subst (λ x. R x c) (sym e) (subst (λ x. R row x) (sym g) is))) ((w.pairs r c).0 s)),
    (λ s. ⊎_elim (λ o. (w.pairs r c).1 (inl ((f r c).1 (inl o))))
        (λ (e, l, h). ⊎_elim (λ g. (w.pairs r c).1 (inr (e, g))) (λ g. (w.pairs r c).1 (inl ((f r c).1 (inr (e, omega (arith, l, g), h))))) (cases_eq c column)) s),
  ),
)

pub row_left : (R : ℕ → ℕ → Type 0) (row column : ℕ) (old now : Bits) → (R row column → ⊥) → RowOf R row column old now → RowOf R row (column + 1) old now
row_left R row column old now none (a, b, f) = (
  a,
  b,
  λ r c. (
    (λ s. ⊎_elim inl (λ (e, l, h). inr (e, omega (arith, l), h)) ((f r c).0 s)),
    (λ s. ⊎_elim (λ o. (f r c).1 (inl o))
        (λ (e, l, h). ⊎_elim (λ g. absurd (none (subst (λ x. R row x) g (subst (λ x. R x c) e h)))) (λ g. (f r c).1 (inr (e, omega (arith, l, g), h))) (cases_eq c column)) s),
  ),
)

-- ---- rows, one after another

abbrev pub RowsOf : (R : ℕ → ℕ → Type 0) → (size count : ℕ) → Bits → Type 0
RowsOf R size count bits = IsOf size size (λ r c. (r < count) × R r c) bits

pub rows_none : (R : ℕ → ℕ → Type 0) (size n count : ℕ) (bits : Bits) → bits ≡ no_bits n n → n ≡ size → ((r : ℕ) → r < count → (c : ℕ) → R r c → ⊥) → RowsOf R size count bits
rows_none R size n count bits e l none =
    none_of size size (λ r c. (r < count) × R r c) bits (e ∙ ap (λ x. no_bits x x) l) (λ r c h k (m, is). none r m c is)

pub rows_more : (R : ℕ → ℕ → Type 0) (size row : ℕ) (old new : Bits) → row < size → RowsOf R size row old → RowOf R row size old new → RowsOf R size (row + 1) new
rows_more R size row old new l h (a, b, f) = record {
  same_rows = a ∙ h.same_rows;
  same_columns = b ∙ h.same_columns;
  pairs = λ r c. (
    (λ s. ⊎_elim (λ o. let (x, y, (z, is)) = (h.pairs r c).0 o in (x, y, (omega (arith, z), is)))
        (λ (e, m, is). (omega (arith, e, l), m, (omega (arith, e), is))) ((f r c).0 s)),
    (λ (x, y, (z, is)). (f r c).1 (⊎_elim (λ e. inr (e, y, is)) (λ e. inl ((h.pairs r c).1 (x, y, (omega (arith, z, e), is)))) (cases_eq r row))),
  );
}

pub rows_left : (R : ℕ → ℕ → Type 0) (size row : ℕ) (bits : Bits) → ((c : ℕ) → R row c → ⊥) → RowsOf R size row bits → RowsOf R size (row + 1) bits
rows_left R size row bits none h =
    as_bits size size (λ r c. (r < row) × R r c) (λ r c. (r < row + 1) × R r c) bits h
    (λ r c x y (z, is). (omega (arith, z), is))
    (λ r c x y (z, is). ⊎_elim (λ e. absurd (none c (subst (λ u. R u c) e is))) (λ e. (omega (arith, z, e), is)) (cases_eq r row))

pub rows_all : (R : ℕ → ℕ → Type 0) (size n : ℕ) (bits : Bits) → size ≤ n → RowsOf R size n bits → IsOf size size R bits
rows_all R size n bits l h =
    as_bits size size (λ r c. (r < n) × R r c) R bits h (λ r c x y (z, is). is) (λ r c x y is. (omega (arith, x, l), is))

-- ---- back-paths

module _ (links before : Bits) where
  abbrev Steps : ℕ → ℕ → Type 0
  Steps c d = IsSet links c d ⊎ IsSet before c d

  path_back : (c : ℕ) (zs : List ℕ) (d a : ℕ) → PathBy Steps (λ z. Unit {0}) c zs d → IsSet links d a → BackBy links before c (zs ++ d ∷ []) a
  path_back c [] d a p l = (p, l)
  path_back c (z ∷ zs) d a (g, u, p) l = (g, path_back z zs d a p l)

  back_path : (c : ℕ) (ds : List ℕ) (a : ℕ) → BackBy links before c ds a
      → IsSet links c a ⊎ ((d : ℕ) × LeadsBy Steps (λ z. Unit {0}) c d × IsSet links d a)
  back_path c [] a l = inl l
  back_path c (d ∷ ds) a (s, rest) =
      ⊎_elim (λ l. inr (d, ([], s), l)) (λ (e, (zs, p), l). inr (e, (d ∷ zs, (s, tt, p)), l)) (back_path d ds a rest)

  pub are_back_paths : (both closed behind ends back : Bits) → ((r c : ℕ) → IsSet both r c ↔ Steps r c) → IsClosed both closed → IsComposed closed links behind
      → IsUnion behind links ends → IsComposed links ends back → links.columns ≡ links.rows → ((r c : ℕ) → Steps r c → r < closed.rows)
      → AreBackPaths links before back
  are_back_paths both closed behind ends back f g h u w e in_rows = record {
    same_rows = w.same_rows;
    same_columns = w.same_columns ∙ (u.1 ∙ (h.same_columns ∙ e));
    pairs = λ b a. (
      (λ s. let (x, y, (c, l, t)) = (w.pairs b a).0 s in (
        x,
        omega (arith, y, u.1, h.same_columns, e),
        ⊎_elim
            (λ o. let (m, n, (d, p, q)) = (h.pairs c a).0 o in
            let (zs, path) = (g.2 c d).0 p in
            (c, zs ++ d ∷ [], l, path_back c zs d a (as_steps c zs d path) q))
            (λ q. (c, [], l, q)) ((u.2 c a).0 t),
      )),
      (λ (x, y, (c, ds, l, t)).
          (w.pairs b a).1 (
            x,
            omega (arith, y, u.1, h.same_columns, e),
            (
              c,
              l,
              (u.2 c a).1 (⊎_elim inr
                  (λ (d, (zs, path), q). inl ((h.pairs c a).1 (within_rows c d zs path, omega (arith, y, e), (d, (g.2 c d).1 (zs, from_steps c zs d path), q))))
                  (back_path c ds a t)),
            ),
          )),
    );
  }
    where
      as_steps : (c : ℕ) (zs : List ℕ) (d : ℕ) → PathBy (IsSet both) (λ z. Unit {0}) c zs d → PathBy Steps (λ z. Unit {0}) c zs d
      as_steps c [] d p = (f c d).0 p
      as_steps c (z ∷ zs) d (s, v, p) = ((f c z).0 s, v, as_steps z zs d p)

      from_steps : (c : ℕ) (zs : List ℕ) (d : ℕ) → PathBy Steps (λ z. Unit {0}) c zs d → PathBy (IsSet both) (λ z. Unit {0}) c zs d
      from_steps c [] d p = (f c d).1 p
      from_steps c (z ∷ zs) d (s, v, p) = ((f c z).1 s, v, from_steps z zs d p)

      within_rows : (c d : ℕ) (zs : List ℕ) → PathBy Steps (λ z. Unit {0}) c zs d → c < closed.rows
      within_rows c d [] p = in_rows c d p
      within_rows c d (z ∷ zs) (s, v, p) = in_rows c z s

both_sides : (links before none one both : Bits) → ((r c : ℕ) → IsSet none r c → ⊥) → IsUnion none links one → IsUnion one before both → (r c : ℕ)
    → IsSet both r c ↔ (IsSet links r c ⊎ IsSet before r c)
both_sides links before none one both empty u v r c = (
  (λ s. ⊎_elim (λ o. ⊎_elim (λ n. absurd (empty r c n)) inl ((u.2 r c).0 o)) inr ((v.2 r c).0 s)),
  (λ s. (v.2 r c).1 (⊎_elim (λ l. inl ((u.2 r c).1 (inr l))) inr s)),
)

pub back_answer : {E : Type 0} (links before none one both closed behind ends : Bits) (n m : ℕ) (result : Result Bits E) → none ≡ no_bits n m → n ≡ links.rows
    → IsUnion none links one → IsUnion one before both → IsClosed both closed → IsComposed closed links behind → IsUnion behind links ends
    → links.columns ≡ links.rows → AreSquare links.rows before → AreInOrder links → AreInOrder before → IfOk result (IsComposed links ends)
    → IfOk result (AreBackPaths links before)
back_answer links before none one both closed behind ends n m (Ok back) e f u v g h x k square o p w =
    are_back_paths links before both closed behind ends back
    (both_sides links before none one both (λ r c s. in_nil (r, c) (subst (λ (b : Bits). IsSet b r c) e s)) u v) g h x w k
    (λ r c s. let rows : closed.rows ≡ links.rows = g.0 ∙ (v.0 ∙ (u.0 ∙ (ap (λ (b : Bits). b.rows) e ∙ f))) in
    ⊎_elim (λ l. omega (arith, (o.within r c l).0, rows)) (λ l. omega (arith, (p.within r c l).0, square.0, rows)) s)
back_answer links before none one both closed behind ends n m (Err err) e f u v g h x k square o p w = tt

-- ---- links and what comes before what, as the graph has them

module _ (graph : Graph) (cross own : Bits) where
  pub link_within : AreInOrder cross → AreInOrder own → AreSquare (length graph.sites + 1) cross → AreSquare (length graph.sites + 1) own → (a b : ℕ)
      → Link graph cross own a b → (a < length graph.sites + 1) × (b < length graph.sites + 1)
  link_within c o (c_rows, c_columns) (o_rows, o_columns) a b link =
      ⊎_elim (λ s. let w = c.within a b s in (omega (arith, w.0, c_rows), omega (arith, w.1, c_columns)))
      (λ (s, e). let w = o.within a b s in (omega (arith, w.0, o_rows), omega (arith, w.1, o_columns))) link

  pub are_links : (n : ℕ) (links : Bits) → AreInOrder cross → AreInOrder own → AreSquare (length graph.sites + 1) cross → AreSquare (length graph.sites + 1) own
      → length graph.sites + 1 ≤ n → RowsOf (Link graph cross own) (length graph.sites + 1) n links → AreLinks graph cross own links
  are_links n links c o cs os l h =
      let all = rows_all (Link graph cross own) (length graph.sites + 1) n links l h in (
        (all.same_rows, all.same_columns),
        λ a b. (
          (λ s. let (x, y, link) = (all.pairs a b).0 s in link),
          (λ link. let w = link_within c o cs os a b link in (all.pairs a b).1 (w.0, w.1, link)),
        ),
      )

  module _ (kept : IsFlow graph) (links before : Bits) (are : AreLinks graph cross own links)
      (precede : IsOf (length graph.sites + 1) (length graph.sites + 1) (Precedes graph) before) where
    site_of : (a t : ℕ) → IsAt graph a t → a < length graph.sites + 1
    site_of a t is = let w = kept.access_within t a is in omega (arith, w.1)

    pub before_of : (a b : ℕ) → IsSet before a b ↔ Precedes graph a b
    before_of a b = (
      (λ s. let (x, y, p) = (precede.pairs a b).0 s in p),
      (λ p. (precede.pairs a b).1 (site_of a p.from p.is_from, site_of b p.to p.is_to, p)),
    )

    back_from : (c : ℕ) (ds : List ℕ) (a : ℕ) → BackBy links before c ds a → Back graph cross own c ds a
    back_from c [] a l = (are.1 c a).0 l
    back_from c (d ∷ ds) a (s, rest) = (⊎_elim (λ l. inl ((are.1 c d).0 l)) (λ p. inr ((before_of c d).0 p)) s, back_from d ds a rest)

    back_to : (c : ℕ) (ds : List ℕ) (a : ℕ) → Back graph cross own c ds a → BackBy links before c ds a
    back_to c [] a l = (are.1 c a).1 l
    back_to c (d ∷ ds) a (s, rest) = (⊎_elim (λ l. inl ((are.1 c d).1 l)) (λ p. inr ((before_of c d).1 p)) s, back_to d ds a rest)

    back_within : (c : ℕ) (ds : List ℕ) (a : ℕ) → BackBy links before c ds a → (n : ℕ) → ((r d : ℕ) → IsSet links r d → d < n) → a < n
    back_within c [] a l n h = h c a l
    back_within c (d ∷ ds) a (s, rest) n h = back_within d ds a rest n h

    module _ (back : Bits) (backs : AreBackPaths links before back) (in_links : AreInOrder links) where
      pub back_of : (b a : ℕ) → IsSet back b a ↔ BackPath graph cross own b a
      back_of b a = (
        (λ s. let (x, y, (c, ds, l, rest)) = (backs.pairs b a).0 s in (c, ds, (are.1 b c).0 l, back_from c ds a rest)),
        (λ (c, ds, l, rest).
            let first = in_links.within b c ((are.1 b c).1 l) in
            let by = back_to c ds a rest in
            (backs.pairs b a).1 (
              first.0,
              back_within c ds a by links.rows (λ r d s. let w = in_links.within r d s in omega (arith, w.1, are.0.0, are.0.1)),
              (c, ds, (are.1 b c).1 l, by),
            )),
      )

      pub delays_of : (a b : ℕ) → Blocks graph a → DelaysBy before own back a b ↔ MustDelay graph cross own a b
      delays_of a b blocks = (
        (λ (p, s). (blocks, (before_of a b).0 p, ⊎_elim inl (λ q. inr ((back_of b a).0 q)) s)),
        (λ (blocks, p, s). ((before_of a b).1 p, ⊎_elim inl (λ q. inr ((back_of b a).1 q)) s)),
      )

      pub delays_more : (site n : ℕ) (old new : Bits) → Blocks graph site → n ≡ length graph.sites + 1 → site < n
          → RowsOf (MustDelay graph cross own) (length graph.sites + 1) site old → IsWithDelays before own back site n old new
          → RowsOf (MustDelay graph cross own) (length graph.sites + 1) (site + 1) new
      delays_more site n old new blocks e l h (a, b, f) =
          rows_more (MustDelay graph cross own) (length graph.sites + 1) site old new (omega (arith, e, l)) h (
            a,
            b,
            λ r c. (
              (λ s. ⊎_elim inl (λ (q, m, d). inr (q, omega (arith, m, e), (delays_of r c (subst (Blocks graph) (sym q) blocks)).0 d)) ((f r c).0 s)),
              (λ s. (f r c).1 (⊎_elim inl (λ (q, m, d). inr (q, omega (arith, m, e), (delays_of r c (subst (Blocks graph) (sym q) blocks)).1 d)) s)),
            ),
          )

  pub delays_left : (site : ℕ) (old : Bits) → (Blocks graph site → ⊥) → RowsOf (MustDelay graph cross own) (length graph.sites + 1) site old
      → RowsOf (MustDelay graph cross own) (length graph.sites + 1) (site + 1) old
  delays_left site old none h =
      rows_left (MustDelay graph cross own) (length graph.sites + 1) site old (λ c (blocks, p, s). none blocks) h
