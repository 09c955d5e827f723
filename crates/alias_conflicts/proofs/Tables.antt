-- The tables of conflicts grow by a site and another.
use Rattle.std.proofs.Common.{◌≡◌, ◌↔◌, get_or, ℕ, zero, suc, ◌+◌, ◌<◌, ◌≤◌, Bool, true, false, List, length, Some, inl, inr, ⊎_elim, refl, sym, ap, ◌∙◌, subst, arith, slice_get}
use Rattle.std.proofs.lemmas.Bool.{cases_lt, cases_Bool, both_ways}
use Rattle.std.proofs.lemmas.Option.{slice_get_within, slice_get-get_or}
use Rattle.sc_layout.specs.Layout.{Arrangement}
use Rattle.site_graph.specs.declared.site.Site.{Site}
use Rattle.site_graph.specs.Bits.{Bits, IsSet, IsWith, no_bits}
use Rattle.site_graph.specs.Graph.{Graph, site_at}
use Rattle.site_graph.proofs.Members.{in_nil}
use Rattle.alias_conflicts.specs.May.{Across, OwnConflict}
use Rattle.alias_conflicts.specs.Conflicting.{AreConflicts, BySites}
use Rattle.alias_conflicts.specs.Pairs.{IsMarked, IsRowSet, IsTable, AreTables, AreRowsUpTo, ShareAcross, ShareOwn}

-- ---- one row

pub row_none : (at : ℕ) (sites : List Site) (R : ℕ → Site → Type 0) (bits : Bits) → IsRowSet at 0 sites R bits bits
row_none at sites R bits r c = (λ s. inl s, λ s. ⊎_elim (λ i. i) (λ w. (let v = w.1 in let none = v.1 in absurd (omega arith))) s)

same_item : (sites : List Site) (i j : ℕ) (t u : Site) → i ≡ j → slice_get sites i ≡ Some t → slice_get sites j ≡ Some u → t ≡ u
same_item sites i j t u e f g = let h : slice_get sites j ≡ Some t = subst (λ k. slice_get sites k ≡ Some t) e f in cc

pub row_grows : (row end : ℕ) (sites : List Site) (R : ℕ → Site → Type 0) (old mid new : Bits) (t : Site) → slice_get sites end ≡ Some t → R (end + 1) t → IsRowSet row end sites R old mid → IsWith row (end + 1) mid new → IsRowSet row (end + 1) sites R old new
row_grows row end sites R old mid new t found holds so_far with r c = (
  λ s. ⊎_elim
      (λ i. ⊎_elim (λ j. inl j) (λ w. (let v = w.1 in let low = v.1 in inr (w.0, (v.0, omega arith, v.2, v.3)))) ((so_far r c).0 i))
      (λ e. inr (e.0, (end, omega arith, e.1, (t, found, subst (λ k. R k t) (sym e.1) holds))))
      ((with.pairs r c).0 s),
  λ s. ⊎_elim
      (λ i. (with.pairs r c).1 (inl ((so_far r c).1 (inl i))))
      (λ w. (let v = w.1 in
      elim (cases_lt v.0 end) [
        | inl h ↦ (with.pairs r c).1 (inl ((so_far r c).1 (inr (w.0, (v.0, h, v.2, v.3)))))
        | inr h ↦ (let low = v.1 in let is = v.2 in let same : c ≡ end + 1 = omega arith in (with.pairs r c).1 (inr (w.0, same)))
      ]))
      s,
)

pub row_stays : (row end : ℕ) (sites : List Site) (R : ℕ → Site → Type 0) (old mid : Bits) (t : Site) → slice_get sites end ≡ Some t → (R (end + 1) t → ⊥) → IsRowSet row end sites R old mid → IsRowSet row (end + 1) sites R old mid
row_stays row end sites R old mid t found fails so_far r c = (
  λ s. ⊎_elim (λ j. inl j) (λ w. (let v = w.1 in let low = v.1 in inr (w.0, (v.0, omega arith, v.2, v.3)))) ((so_far r c).0 s),
  λ s. ⊎_elim
      (λ i. (so_far r c).1 (inl i))
      (λ w. (let v = w.1 in
      elim (cases_lt v.0 end) [
        | inl h ↦ (so_far r c).1 (inr (w.0, (v.0, h, v.2, v.3)))
        | inr h ↦
            (let low = v.1 in
            let is = v.2 in
            let at : v.0 ≡ end = omega arith in
            let column : c ≡ end + 1 = omega arith in
            let u = v.3 in
            let same : u.0 ≡ t = same_item sites v.0 end u.0 t at u.1 found in
            absurd (fails (subst (λ k. R k t) column (subst (R c) same u.2))))
      ]))
      s,
)

marks_from : (row column : ℕ) (old new : Bits) → IsWith row column old new → IsMarked row column true old new
marks_from row column old new w =
    record {
      same_rows = w.same_rows;
      same_columns = w.same_columns;
      pairs = λ r c. (
        λ s. ⊎_elim (λ i. inl i) (λ e. inr (refl, e.0, e.1)) ((w.pairs r c).0 s),
        λ s. (w.pairs r c).1 (⊎_elim (λ i. inl i) (λ e. inr (e.1, e.2)) s),
      );
    }

pub marked : (row column : ℕ) (holds : Bool) (old new : Bits) → holds ≡ true → IsWith row column old new → IsMarked row column holds old new
marked row column holds old new e w = subst (λ b. IsMarked row column b old new) (sym e) (marks_from row column old new w)

pub not_marked : (row column : ℕ) (holds : Bool) (old : Bits) → holds ≡ false → IsMarked row column holds old old
not_marked row column holds old e =
    record {
      same_rows = refl;
      same_columns = refl;
      pairs = λ r c. (λ s. inl s, λ s. ⊎_elim (λ i. i) (λ w. absurd (both_ways holds e w.0)) s);
    }

pub row_marked : (row end : ℕ) (sites : List Site) (R : ℕ → Site → Type 0) (old mid new : Bits) (t : Site) (holds : Bool) → slice_get sites end ≡ Some t → (holds ≡ true) ↔ R (end + 1) t → IsRowSet row end sites R old mid → IsMarked row (end + 1) holds mid new → IsRowSet row (end + 1) sites R old new
row_marked row end sites R old mid new t holds found is so_far mark =
    ⊎_elim
    (λ e. row_grows row end sites R old mid new t found (is.0 e) so_far (record {
      same_rows = mark.same_rows;
      same_columns = mark.same_columns;
      pairs = λ r c. (
        λ s. ⊎_elim (λ i. inl i) (λ w. inr (w.1, w.2)) ((mark.pairs r c).0 s),
        λ s. (mark.pairs r c).1 (⊎_elim (λ i. inl i) (λ w. inr (e, w.0, w.1)) s),
      );
    }))
    (λ e. (λ r c. (let stays = row_stays row end sites R old mid t found (λ w. both_ways holds e (is.1 w)) so_far r c in
    (λ s. stays.0 (⊎_elim (λ i. i) (λ w. absurd (both_ways holds e w.0)) ((mark.pairs r c).0 s)), λ s. (mark.pairs r c).1 (inl (stays.1 s))))))
    (cases_Bool holds)

pub rows_marked : (layout : Arrangement) (graph : Graph) (meets : Bits) (row : ℕ) (site t : Site) (end : ℕ) (across from_one : Bool) (old_cross old_own mid_cross mid_own new_cross new_own : Bits) → slice_get graph.sites end ≡ Some t
    → (across ≡ true) ↔ (ShareAcross layout graph site t × IsSet meets row (end + 1)) → (from_one ≡ true) ↔ ShareOwn layout graph site t
    → AreRowsUpTo layout graph meets row site end old_cross old_own mid_cross mid_own → IsMarked row (end + 1) across mid_cross new_cross → IsMarked row (end + 1) from_one mid_own new_own
    → AreRowsUpTo layout graph meets row site (end + 1) old_cross old_own new_cross new_own
rows_marked layout graph meets row site t end across from_one old_cross old_own mid_cross mid_own new_cross new_own found is_across is_own so_far cross own =
    record {
      cross_rows = cross.same_rows ∙ so_far.cross_rows;
      cross_columns = cross.same_columns ∙ so_far.cross_columns;
      own_rows = own.same_rows ∙ so_far.own_rows;
      own_columns = own.same_columns ∙ so_far.own_columns;
      cross_is = row_marked row end graph.sites (λ c t. ShareAcross layout graph site t × IsSet meets row c) old_cross mid_cross new_cross t across found is_across so_far.cross_is cross;
      own_is = row_marked row end graph.sites (λ c t. ShareOwn layout graph site t) old_own mid_own new_own t from_one found is_own so_far.own_is own;
    }

pub rows_start : (layout : Arrangement) (graph : Graph) (meets : Bits) (row : ℕ) (site : Site) (cross own : Bits) → AreRowsUpTo layout graph meets row site 0 cross own cross own
rows_start layout graph meets row site cross own =
    record {
      cross_rows = refl;
      cross_columns = refl;
      own_rows = refl;
      own_columns = refl;
      cross_is = row_none row graph.sites (λ c t. ShareAcross layout graph site t × IsSet meets row c) cross;
      own_is = row_none row graph.sites (λ c t. ShareOwn layout graph site t) own;
    }

-- ---- all rows

pub table_none : (sites : List Site) (R : ℕ → ℕ → Site → Site → Type 0) (rows columns : ℕ) → IsTable sites 0 R (no_bits rows columns)
table_none sites R rows columns r c = (λ s. absurd (in_nil (r, c) s), λ w. (let low = w.2 in absurd (omega arith)))

pub table_grows : (sites : List Site) (end : ℕ) (R : ℕ → ℕ → Site → Site → Type 0) (old new : Bits) (s : Site) → slice_get sites end ≡ Some s → IsTable sites end R old → IsRowSet (end + 1) (length sites) sites (λ c t. R (end + 1) c s t) old new → IsTable sites (end + 1) R new
table_grows sites end R old new s found so_far grown r c = (
  λ i. ⊎_elim
      (λ j. (let w = (so_far r c).0 j in let low = w.2 in (w.0, w.1, omega arith, w.3, w.4, w.5, w.6)))
      (λ e. (let v = e.1 in
      let u = v.3 in
      (end, v.0, omega arith, e.0, v.1, v.2, (s, u.0, found, u.1, subst (λ k. R k c s u.0) (sym e.0) u.2))))
      ((grown r c).0 i),
  λ w. elim (cases_lt w.0 end) [
    | inl h ↦ (grown r c).1 (inl ((so_far r c).1 (w.0, w.1, h, w.3, w.4, w.5, w.6)))
    | inr h ↦
        (let low = w.2 in
        let is = w.3 in
        let at : w.0 ≡ end = omega arith in
        let row : r ≡ end + 1 = omega arith in
        let u = w.6 in
        let same : u.0 ≡ s = same_item sites w.0 end u.0 s at u.2 found in
        (grown r c).1 (inr (row, (w.1, w.4, w.5, (u.1, u.3, subst (λ k. R k c s u.1) row (subst (λ x. R r c x u.1) same u.4))))))
  ],
)

pub tables_start : (layout : Arrangement) (graph : Graph) (meets : Bits) (size : ℕ) → size ≡ length graph.sites + 1 → AreTables layout graph meets 0 (no_bits size size) (no_bits size size)
tables_start layout graph meets size e =
    record {
      cross_rows = e;
      cross_columns = e;
      own_rows = e;
      own_columns = e;
      cross_is = table_none graph.sites (λ r c s t. ShareAcross layout graph s t × IsSet meets r c) size size;
      own_is = table_none graph.sites (λ r c s t. ShareOwn layout graph s t) size size;
    }

pub tables_grow : (layout : Arrangement) (graph : Graph) (meets : Bits) (end : ℕ) (s : Site) (old_cross old_own new_cross new_own : Bits) → slice_get graph.sites end ≡ Some s
    → AreTables layout graph meets end old_cross old_own → AreRowsUpTo layout graph meets (end + 1) s (length graph.sites) old_cross old_own new_cross new_own → AreTables layout graph meets (end + 1) new_cross new_own
tables_grow layout graph meets end s old_cross old_own new_cross new_own found so_far row =
    record {
      cross_rows = row.cross_rows ∙ so_far.cross_rows;
      cross_columns = row.cross_columns ∙ so_far.cross_columns;
      own_rows = row.own_rows ∙ so_far.own_rows;
      own_columns = row.own_columns ∙ so_far.own_columns;
      cross_is = table_grows graph.sites end (λ r c s t. ShareAcross layout graph s t × IsSet meets r c) old_cross new_cross s found so_far.cross_is row.cross_is;
      own_is = table_grows graph.sites end (λ r c s t. ShareOwn layout graph s t) old_own new_own s found so_far.own_is row.own_is;
    }

-- ---- by the sites' numbers

number_of : (graph : Graph) (number before : ℕ) (s : Site) → number ≡ before + 1 → slice_get graph.sites before ≡ Some s → site_at graph number ≡ Some s
number_of graph zero before s e found = absurd (omega arith)
number_of graph (suc n) before s e found =
    let same : before ≡ n = omega arith in subst (λ k. slice_get graph.sites k ≡ Some s) same found

before_of : (graph : Graph) (number : ℕ) (s : Site) → site_at graph number ≡ Some s → (before : ℕ) × (number ≡ before + 1) × (slice_get graph.sites before ≡ Some s)
before_of graph zero s h = cc
before_of graph (suc n) s h = (n, omega arith, h)

table_by_sites : (graph : Graph) (R : ℕ → ℕ → Site → Site → Type 0) (S : ℕ → ℕ → Type 0) (bits : Bits) → bits.rows ≡ length graph.sites + 1 → bits.columns ≡ length graph.sites + 1 → IsTable graph.sites (length graph.sites) R bits
    → ((r c : ℕ) (s t : Site) → site_at graph r ≡ Some s → site_at graph c ≡ Some t → R r c s t → S r c)
    → ((r c : ℕ) → S r c → (s t : Site) × (site_at graph r ≡ Some s) × (site_at graph c ≡ Some t) × R r c s t)
    → BySites graph S bits
table_by_sites graph R S bits rows columns table to from =
    record {
      same_rows = rows;
      same_columns = columns;
      pairs = λ r c. (
        λ i. (let w = (table r c).0 i in
            let row = w.2 in
            let column = w.4 in
            let is_row = w.3 in
            let is_column = w.5 in
            let u = w.6 in
            (omega arith, omega arith, to r c u.0 u.1 (number_of graph r w.0 u.0 w.3 u.2) (number_of graph c w.1 u.1 w.5 u.3) u.4)),
        λ h. (let w = from r c h.2 in
            let a = before_of graph r w.0 w.2 in
            let b = before_of graph c w.1 w.3 in
            (table r c).1 (a.0, b.0, slice_get_within graph.sites a.0 w.0 a.2, a.1, slice_get_within graph.sites b.0 w.1 b.2, b.1, (w.0, w.1, a.2, b.2, w.4))),
      );
    }

pub all_tables : (layout : Arrangement) (graph : Graph) (meets cross own : Bits) → AreTables layout graph meets (length graph.sites) cross own → AreConflicts layout graph meets cross own
all_tables layout graph meets cross own t =
    record {
      cross_is = table_by_sites graph (λ r c s t. ShareAcross layout graph s t × IsSet meets r c) (λ a b. Across layout graph a b × IsSet meets a b) cross t.cross_rows t.cross_columns t.cross_is
          (λ r c s t at_r at_c h. (let w = h.0 in let v = w.2 in ((s, t, at_r, at_c, w.0, v.0, w.1, v.1, v.2, v.3), h.1)))
          (λ r c h. (let w = h.0 in (w.0, w.1, w.2, w.3, ((w.4, w.6, (w.5, w.7, w.8, w.9)), h.1))));
      own_is = table_by_sites graph (λ r c s t. ShareOwn layout graph s t) (OwnConflict layout graph) own t.own_rows t.own_columns t.own_is
          (λ r c s t at_r at_c h. (s, t, at_r, at_c, h.0, h.1, h.2))
          (λ r c h. (h.0, h.1, h.2, h.3, (h.4, h.5, h.6)));
    }

-- ---- the sites as the code reads them

pub item_at : (xs ys : List Site) (i : ℕ) (d : Site) → xs ≡ ys → i < length xs → slice_get ys i ≡ Some (get_or xs i d)
item_at xs ys i d e low = subst (λ zs. slice_get zs i ≡ Some (get_or xs i d)) e (slice_get-get_or xs i d low)

pub all_items : (xs ys : List Site) (i : ℕ) → xs ≡ ys → i ≤ length xs → length xs ≤ i → i ≡ length ys
all_items xs ys i e up down = let same : length xs ≡ length ys = ap (λ (zs : List Site). length zs) e in omega arith
