-- What is kept goes on with each event.
use Rattle.std.proofs.Common.{◌≡◌, ⊎_elim, ℕ, ◌+◌, ◌<◌, ◌≤◌, List, [], ◌∷◌, ◌++◌, length, Option, Some, None, Bool, true, false, ◌==◌, ◌&&◌, ◌||◌, refl, sym, ap, ◌∙◌, subst, if◌then◌else◌, arith, slice_get, eq-eqb, le_refl}
use Rattle.std.specs.Option.{option_map_or}
use Rattle.std.proofs.lemmas.Bool.Decides.{eqb_tells}
use Rattle.std.proofs.lemmas.List.{length-set, length-replicate, get_or-set_same, get_or-set_other, get_or-replicate}
use Rattle.std.proofs.lemmas.Option.{slice_get-get_or}
use Rattle.sc_base.specs.declared.value.CopyMode.{CopyMode}
use Rattle.sc_base.specs.declared.value.CopyMode.TheVariants.{Blocking, Split, OneWay}
use Rattle.sc_base.specs.declared.value.End.{End}
use Rattle.sc_base.specs.declared.value.Place.{Place}
use Rattle.sc_base.specs.declared.value.Value.{Value}
use Rattle.sc_meaning.specs.declared.request.Request.{Request}
use Rattle.sc_meaning.specs.declared.event.SourceEvent.{SourceEvent}
use Rattle.sc_meaning.specs.declared.event.SourceEvent.TheVariants.{Do, Issue, Sync, Arrive, End as Over}
use Rattle.effect_order.specs.Transfer.{part_value, same_flag}
use Rattle.sc_meaning.specs.Parts.{is_issued}
use Rattle.sc_meaning.specs.Past.{effects, releases, arrivals, stores_at, made, ended, issued_since, gets_among}
use Rattle.replay_books.specs.Counts.{how_many, AllBelow}
use Rattle.replay_books.specs.Entry.{EntryBook, may_occur_in}
use Rattle.replay_books.specs.Row.{RowBook, fresh_row, with_request, gets_with, open_of, is_open, may_occur_at, with_part}
use Rattle.replay_books.specs.Tables.{TablesBook, fresh_tables, row_at, with_row, landed, arrived, with_arrival, ended_so}
use Rattle.replay_laws.specs.Keeps.{KeepsRow, Keeps, requests_of}
use Rattle.replay_laws.specs.Laws.{GoOn, BooksGoOn}
use Rattle.replay_laws.proofs.Lists.{below_more, below_wider}
use Rattle.replay_laws.proofs.Others.{SameOf, keeps_same, when, unless, of_do, of_issue, of_effect, of_sync, of_arrive, of_end, of_release}
use Rattle.replay_laws.proofs.Requested.{Goes, requested, gets_kept, gets_issued}
use Rattle.replay_laws.proofs.Occurred.{off, occurs}

eq_self : (n : ℕ) → (n == n) ≡ true
eq_self n = eq-eqb n n refl

-- ---- one node's row

module _ (node : ℕ) (past : List SourceEvent) (row : RowBook) (k : KeepsRow node past row) (r : Request) where
  abbrev next : ℕ
  next = length row.entries

  wider : AllBelow (next + 1) (issued_since node past)
  wider = below_wider next (next + 1) (issued_since node past) (omega arith) k.issued_before

  -- the events that are no effect
  plain_goes : (later : List SourceEvent) → made node later ≡ made node past + 1 → effects later ≡ effects past
      → Goes node past row k r later
  plain_goes later m e = record {
    more = m;
    before = λ number cell wrote lt. ap (part_value node number cell wrote) e;
    fresh = λ i cell wrote. ap (part_value node next cell wrote) e ∙ k.none_beyond next cell wrote (le_refl next);
    beyond = λ number cell wrote lt. ap (part_value node number cell wrote) e ∙ k.none_beyond number cell wrote (omega arith);
  }

  done_goes : (wrote : Bool) (place : Place) (value : Value) → is_issued r ≡ false
      → Goes node past row k r (Do node (made node past) wrote place value ∷ past)
  done_goes wrote place value i = record {
    more = when (node == node) _ _ (eq_self node);
    before = λ number cell w lt. apart number cell w (λ e. let m = k.made in absurd (omega arith));
    fresh = λ j cell w. let c : true ≡ false = sym j ∙ i in absurd cc;
    beyond = λ number cell w lt.
        apart number cell w (λ e. let m = k.made in absurd (omega arith)) ∙ k.none_beyond number cell w (omega arith);
  }
    where
      apart : (number cell : ℕ) (w : Bool) → (made node past ≡ number → ⊥)
          → part_value node number cell w (effects (Do node (made node past) wrote place value ∷ past))
          ≡ part_value node number cell w (effects past)
      apart number cell w ne =
          off (node == node) (made node past == number) (0 == cell) (same_flag wrote w) _ _
          (⊎_elim (λ t. absurd (ne t.1)) (λ f. f.0) (eqb_tells (made node past) number))

  pub row_done : (wrote : Bool) (place : Place) (value : Value) → is_issued r ≡ false
      → KeepsRow node (Do node (made node past) wrote place value ∷ past) (with_request row r)
  row_done wrote place value i =
      requested node past row k r _ (done_goes wrote place value i) row.arrived (gets_with row r) k.arrived k.ended
      (gets_kept node past row k r i) wider

  pub row_issued : KeepsRow node (Issue node (made node past) ∷ past) (with_request row r)
  row_issued =
      let e : issued_since node (Issue node (made node past) ∷ past) ≡ issued_since node past ++ next ∷ [] =
      when (node == node) _ _ (eq_self node) ∙ ap (λ n. issued_since node past ++ n ∷ []) (sym k.made) in
      requested node past row k r _ (plain_goes _ (when (node == node) _ _ (eq_self node)) refl) row.arrived (gets_with row r)
      k.arrived k.ended
      (gets_issued node past row k r ∙ ap (gets_among (requests_of (with_request row r))) (sym e))
      (subst (AllBelow (next + 1)) (sym e) (below_more next next (issued_since node past) k.issued_before refl))

  pub row_synced : KeepsRow node (Sync node (made node past) ∷ past) (landed (with_request row r))
  row_synced =
      let e : issued_since node (Sync node (made node past) ∷ past) ≡ [] = when (node == node) _ _ (eq_self node) in
      requested node past row k r _ (plain_goes _ (when (node == node) _ _ (eq_self node)) refl) row.arrived []
      k.arrived k.ended (ap (gets_among (requests_of (with_request row r))) (sym e)) (subst (AllBelow (next + 1)) (sym e) tt)

  pub row_arrived : (stores : Bool) → is_issued r ≡ false
      → KeepsRow node (Arrive node (made node past) stores ∷ past) (arrived (with_request row r))
  row_arrived stores i =
      requested node past row k r _ (plain_goes _ (when (node == node) _ _ (eq_self node)) refl) (row.arrived + 1) (gets_with row r)
      (ap (λ n. n + 1) k.arrived ∙ sym (when (node == node) _ _ (eq_self node))) k.ended
      (gets_kept node past row k r i) wider

pub row_ended : (node : ℕ) (past : List SourceEvent) (row : RowBook) (end : End) → KeepsRow node past row
    → KeepsRow node (Over node end ∷ past) (ended_so end row)
row_ended node past row end k = record {
  made = k.made;
  arrived = k.arrived;
  ended = sym (when (node == node) (Some end) (ended node past) (eq_self node));
  entries = λ number e at. let h = k.entries number e at in record { sides = h.sides; parts = h.parts; left = h.left };
  none_beyond = k.none_beyond;
  gets = k.gets;
  issued_before = k.issued_before;
  opened = by;
}
  where
    by : (mode : CopyMode) → open_of mode (ended_so end row) ≡ how_many (is_open mode) row.entries
    by Blocking = k.opened Blocking
    by Split = k.opened Split
    by OneWay = k.opened OneWay

pub row_fresh : (node : ℕ) → KeepsRow node [] fresh_row
row_fresh node = record {
  made = refl;
  arrived = refl;
  ended = refl;
  entries = λ number e at. absurd cc;
  none_beyond = λ number cell wrote le. refl;
  gets = refl;
  issued_before = tt;
  opened = by;
}
  where
    by : (mode : CopyMode) → open_of mode fresh_row ≡ how_many (is_open mode) []
    by Blocking = refl
    by Split = refl
    by OneWay = refl

-- ---- all rows

module _ (nodes : ℕ) (past : List SourceEvent) (t : TablesBook) (k : Keeps nodes past t) where
  rows_after : (node : ℕ) (row : RowBook) (later : List SourceEvent) → node < nodes → KeepsRow node later row
      → ((n : ℕ) → (node == n) ≡ false → SameOf n past later)
      → (n : ℕ) → n < nodes → KeepsRow n later (row_at (with_row t node row) n)
  rows_after node row later lt own others n below =
      ⊎_elim
      (λ q. subst (λ m. KeepsRow m later (row_at (with_row t node row) m)) q.1
      (subst (KeepsRow node later) (sym (get_or-set_same t.rows node row fresh_row (let a = k.all in omega arith))) own))
      (λ f. subst (KeepsRow n later) (sym (get_or-set_other t.rows node n row fresh_row (λ e. f.1 (sym e))))
      (keeps_same n past later (row_at t n) (others n f.0) (k.rows n below)))
      (eqb_tells node n)

  -- after an event of the node that is no arrival and no release
  plain : (node : ℕ) (row : RowBook) (later : List SourceEvent) → node < nodes → KeepsRow node later row
      → ((n : ℕ) → (node == n) ≡ false → SameOf n past later)
      → releases later ≡ releases past → ((m : ℕ) → stores_at m later ≡ stores_at m past)
      → ((n : ℕ) → arrivals n later ≡ arrivals n past)
      → Keeps nodes later (with_row t node row)
  plain node row later lt own others rel st arr = record {
    all = length-set t.rows node row ∙ k.all;
    rows = rows_after node row later lt own others;
    released = k.released ∙ sym rel;
    stores = k.stores ∙ ap (λ n. stores_at (n + 1) past) (sym rel) ∙ sym (st (releases later + 1));
    no_later = λ m h. st m ∙ k.no_later m (let r = rel in omega arith);
    reached = λ n h. let a = arr n in let r = rel in let b = k.reached n h in omega arith;
    no_further = λ n h. let a = arr n in let r = rel in let b = k.no_further n h in omega arith;
  }

  row_here : (node : ℕ) → node < nodes → slice_get t.rows node ≡ Some (row_at t node)
  row_here node lt = slice_get-get_or t.rows node fresh_row (let a = k.all in omega arith)

  entry_here : (row : RowBook) (number cell : ℕ) (wrote : Bool) (place : Place) (value shown : Value)
      → may_occur_at row number cell wrote place value shown ≡ true
      → (e : EntryBook) × (slice_get row.entries number ≡ Some e) × (may_occur_in e cell wrote place value shown ≡ true)
  entry_here row number cell wrote place value shown may = by (slice_get row.entries number) refl may
    where
      by : (o : Option EntryBook) → o ≡ slice_get row.entries number
          → option_map_or (λ e. may_occur_in e cell wrote place value shown) o false ≡ true
          → (e : EntryBook) × (slice_get row.entries number ≡ Some e) × (may_occur_in e cell wrote place value shown ≡ true)
      by None g m = absurd cc
      by (Some e) g m = (e, sym g, m)

  pub goes : GoOn nodes past t
  goes = record {
    done = λ node wrote place value r lt i.
        plain node _ _ lt (row_done node past (row_at t node) (k.rows node lt) r wrote place value i)
        (λ n f. of_do node n past f (made node past) wrote place value) refl (λ m. refl) (λ n. refl);
    issued = λ node r lt i.
        plain node _ _ lt (row_issued node past (row_at t node) (k.rows node lt) r)
        (λ n f. of_issue node n past f (made node past)) refl (λ m. refl) (λ n. refl);
    occurred = λ node number cell wrote place value shown lt may.
        let m : may_occur_at (row_at t node) number cell wrote place value shown ≡ true =
        sym (ap (λ o. option_map_or (λ row. may_occur_at row number cell wrote place value shown) o false) (row_here node lt)) ∙ may in
        let h = entry_here (row_at t node) number cell wrote place value shown m in
        plain node (with_part (row_at t node) number cell wrote value) _ lt
        (occurs node past (row_at t node) (k.rows node lt) number h.0 h.1 cell wrote place value shown h.2)
        (λ n f. of_effect node n past f number cell wrote place value) refl (λ m. refl) (λ n. refl);
    synced = λ node r lt i.
        plain node _ _ lt (row_synced node past (row_at t node) (k.rows node lt) r)
        (λ n f. of_sync node n past f (made node past)) refl (λ m. refl) (λ n. refl);
    arrived = arrives;
    released = λ number all. record {
      all = k.all;
      rows = λ n lt. keeps_same n past _ (row_at t n) (of_release n number past) (k.rows n lt);
      released = ap (λ n. n + 1) k.released;
      stores = sym (k.no_later (releases past + 1 + 1) (omega arith));
      no_later = λ m h. k.no_later m (omega arith);
      reached = λ n lt. all n lt;
      no_further = λ n lt. let b = k.no_further n lt in omega arith;
    };
    ended = λ node end lt.
        plain node _ _ lt (row_ended node past (row_at t node) end (k.rows node lt))
        (λ n f. of_end node n past f end) refl (λ m. refl) (λ n. refl);
  }
    where
      swap : (a b : Bool) → a || b ≡ ((b && true) || a)
      swap true true = refl
      swap true false = refl
      swap false true = refl
      swap false false = refl

      never : (s b c : Bool) → b ≡ false → c ≡ false → ((s && b) || c) ≡ false
      never true false false p q = refl
      never false b false p q = refl
      never s b true p q = absurd cc
      never true true false p q = absurd cc

      arrives : (node : ℕ) (r : Request) (stores : Bool) → node < nodes → is_issued r ≡ false
          → arrivals node past ≤ releases past
          → Keeps nodes (Arrive node (made node past) stores ∷ past) (with_arrival t node r stores)
      arrives node r stores lt i le =
          let level : arrivals node past ≡ releases past = (let b = k.reached node lt in omega arith) in
          record {
            all = length-set t.rows node _ ∙ k.all;
            rows = rows_after node _ _ lt (row_arrived node past (row_at t node) (k.rows node lt) r stores i)
                (λ n f. of_arrive node n past f (made node past) stores);
            released = k.released;
            stores = ap (λ b. b || stores) k.stores ∙ swap (stores_at (releases past + 1) past) stores
                ∙ ap (λ b. (stores && b) || stores_at (releases past + 1) past)
                (sym (eq-eqb (arrivals node past + 1) (releases past + 1) (ap (λ n. n + 1) level)));
            no_later = λ m h. never stores (arrivals node past + 1 == m) (stores_at m past)
                (⊎_elim (λ q. let e = q.1 in absurd (omega arith)) (λ f. f.0) (eqb_tells (arrivals node past + 1) m)) (k.no_later m h);
            reached = λ n h. let b = k.reached n h in more (node == n) (arrivals n past) b;
            no_further = λ n h. at_most n h;
          }
        where
          more : (b : Bool) (a : ℕ) → releases past ≤ a → releases past ≤ (if b then a + 1 else a)
          more true a h = omega arith
          more false a h = h

          at_most : (n : ℕ) → n < nodes → (if node == n then arrivals n past + 1 else arrivals n past) ≤ releases past + 1
          at_most n h =
              ⊎_elim
              (λ q. subst (λ m. (if node == m then arrivals m past + 1 else arrivals m past) ≤ releases past + 1) q.1
              (subst (λ v. v ≤ releases past + 1) (sym (when (node == node) (arrivals node past + 1) (arrivals node past) (eq_self node))) (omega arith)))
              (λ f. subst (λ v. v ≤ releases past + 1) (sym (unless (node == n) (arrivals n past + 1) (arrivals n past) f.0)) (k.no_further n h))
              (eqb_tells node n)

begins : (nodes : ℕ) → Keeps nodes [] (fresh_tables nodes)
begins nodes = record {
  all = length-replicate nodes fresh_row;
  rows = λ n lt. subst (KeepsRow n []) (sym (get_or-replicate nodes n fresh_row fresh_row lt)) (row_fresh n);
  released = refl;
  stores = refl;
  no_later = λ m h. refl;
  reached = λ n h. omega arith;
  no_further = λ n h. omega arith;
}

pub books_go_on : BooksGoOn
books_go_on = record { begins = begins; goes_on = goes }
