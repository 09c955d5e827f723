-- The row of a node that makes a request keeps what the past and the event say.
use Rattle.std.proofs.Common.{◌≡◌, ⊎_elim, ℕ, ◌+◌, ◌<◌, List, [], ◌∷◌, ◌++◌, length, Some, None, Bool, true, false, refl, sym, ap, ◌∙◌, subst, if◌then◌else◌, arith, slice_get, is_none, length-append}
use Rattle.std.specs.Option.{option_map_or}
use Rattle.std.proofs.lemmas.List.{map-append, length-replicate, append-nil}
use Rattle.std.proofs.Math.ListN.{length-map}
use Rattle.sc_base.specs.declared.value.CopyMode.{CopyMode}
use Rattle.sc_base.specs.declared.value.CopyMode.TheVariants.{Blocking, Split, OneWay}
use Rattle.sc_base.specs.declared.value.Value.{Value}
use Rattle.sc_meaning.specs.declared.request.Request.{Request}
use Rattle.sc_meaning.specs.declared.request.Request.TheVariants as ask
use Rattle.sc_meaning.specs.declared.event.SourceEvent.{SourceEvent}
use Rattle.effect_order.specs.Transfer.{part_value}
use Rattle.sc_meaning.specs.Parts.{is_issued, is_get}
use Rattle.sc_meaning.specs.Past.{effects, arrivals, made, ended, issued_since, gets_among}
use Rattle.replay_books.specs.Counts.{one_if, how_many, AllBelow}
use Rattle.replay_books.specs.Entry.{EntryBook, fresh_entry, parts_of, side_of, part_of}
use Rattle.replay_books.specs.Row.{RowBook, with_request, gets_with, open_of, is_open}
use Rattle.replay_laws.specs.Keeps.{KeepsEntry, KeepsRow, requests_of}
use Rattle.replay_laws.proofs.Lists.{get_end, get_front, of_longer, count_more, blanks, count_blank, get_blank}

-- ---- a request of which no part has occurred

fresh_side : (r : Request) (wrote : Bool) → length (side_of (fresh_entry r) wrote) ≡ parts_of r wrote
fresh_side r true = length-replicate (parts_of r true) None
fresh_side r false = length-replicate (parts_of r false) None

fresh_part : (r : Request) (cell : ℕ) (wrote : Bool) → part_of (fresh_entry r) cell wrote ≡ None
fresh_part r cell true = get_blank Value (parts_of r true) cell
fresh_part r cell false = get_blank Value (parts_of r false) cell

pub fresh_keeps : (node number : ℕ) (past : List SourceEvent) (r : Request)
    → (is_issued r ≡ true → (cell : ℕ) (wrote : Bool) → part_value node number cell wrote (effects past) ≡ None)
    → KeepsEntry node number past (fresh_entry r)
fresh_keeps node number past r none = record {
  sides = fresh_side r;
  parts = λ issued cell wrote. fresh_part r cell wrote ∙ sym (none issued cell wrote);
  left = ap (λ n. n + parts_of r true) (sym (count_blank Value (parts_of r false)))
      ∙ ap (λ n. how_many is_none (blanks {A = Value} (parts_of r false)) + n) (sym (count_blank Value (parts_of r true)));
}

-- ---- the list of requests, and the gets among them

pub requests_more : (row : RowBook) (r : Request) → requests_of (with_request row r) ≡ requests_of row ++ r ∷ []
requests_more row r = map-append (λ e. e.request) row.entries (fresh_entry r ∷ [])

pub requests_length : (row : RowBook) → length (requests_of row) ≡ length row.entries
requests_length row = length-map row.entries (λ e. e.request)

abbrev gets_at : List Request → ℕ → Bool
gets_at rs number = option_map_or is_get (slice_get rs number) false

-- a longer list of requests has the same gets at the numbers that it had
pub gets_longer : (rs : List Request) (r : Request) (numbers : List ℕ) → AllBelow (length rs) numbers
    → gets_among (rs ++ r ∷ []) numbers ≡ gets_among rs numbers
gets_longer rs r [] h = refl
gets_longer rs r (n ∷ more) h =
    ap (λ b. if b then n ∷ gets_among (rs ++ r ∷ []) more else gets_among (rs ++ r ∷ []) more)
    (ap (λ o. option_map_or is_get o false) (get_front rs (r ∷ []) n h.0))
    ∙ ap (λ ns. if gets_at rs n then n ∷ ns else ns) (gets_longer rs r more h.1)

gets_joined : (rs : List Request) (numbers more : List ℕ) → gets_among rs (numbers ++ more) ≡ gets_among rs numbers ++ gets_among rs more
gets_joined rs [] more = refl
gets_joined rs (n ∷ numbers) more =
    ap (λ ns. if gets_at rs n then n ∷ ns else ns) (gets_joined rs numbers more)
    ∙ by (gets_at rs n) (gets_among rs numbers) (gets_among rs more)
  where
    by : (b : Bool) (xs ys : List ℕ) → (if b then n ∷ (xs ++ ys) else xs ++ ys) ≡ (if b then n ∷ xs else xs) ++ ys
    by true xs ys = refl
    by false xs ys = refl

gets_last : (rs : List Request) (r : Request) → gets_among (rs ++ r ∷ []) (length rs ∷ []) ≡ (if is_get r then length rs ∷ [] else [])
gets_last rs r = ap (λ o. if option_map_or is_get o false then length rs ∷ [] else []) (get_end rs r)

no_get : (r : Request) → is_issued r ≡ false → is_get r ≡ false
no_get (ask.Get place line) e = absurd cc
no_get (ask.Read place line) e = refl
no_get (ask.Write place value line) e = refl
no_get (ask.Put place value line) e = refl
no_get (ask.Store place value line) e = refl
no_get (ask.Copy from to cells mode line) e = refl
no_get (ask.Sync line) e = refl
no_get (ask.Barrier line) e = refl
no_get (ask.AllStoreSync line) e = refl

module _ (node : ℕ) (past : List SourceEvent) (row : RowBook) (k : KeepsRow node past row) (r : Request) where
  abbrev next : ℕ
  next = length row.entries

  -- the gets of a row with one request more, which is not a get
  pub gets_kept : is_issued r ≡ false → gets_with row r ≡ gets_among (requests_of (with_request row r)) (issued_since node past)
  gets_kept e =
      ap (λ b. if b then row.gets ++ next ∷ [] else row.gets) (no_get r e)
      ∙ k.gets
      ∙ sym (gets_longer (requests_of row) r (issued_since node past)
      (subst (λ n. AllBelow n (issued_since node past)) (sym (requests_length row)) k.issued_before))
      ∙ ap (λ rs. gets_among rs (issued_since node past)) (sym (requests_more row r))

  -- and of one with a request that is issued
  pub gets_issued : gets_with row r ≡ gets_among (requests_of (with_request row r)) (issued_since node past ++ next ∷ [])
  gets_issued =
      by (is_get r) row.gets
      ∙ ap (λ ns. ns ++ (if is_get r then next ∷ [] else [])) (k.gets
      ∙ sym (gets_longer (requests_of row) r (issued_since node past)
      (subst (λ n. AllBelow n (issued_since node past)) (sym (requests_length row)) k.issued_before)))
      ∙ ap (λ ns. gets_among (requests_of row ++ r ∷ []) (issued_since node past) ++ ns)
      (sym (ap (λ n. gets_among (requests_of row ++ r ∷ []) (n ∷ [])) (sym (requests_length row))
      ∙ gets_last (requests_of row) r ∙ ap (λ n. if is_get r then n ∷ [] else []) (requests_length row)))
      ∙ sym (gets_joined (requests_of row ++ r ∷ []) (issued_since node past) (next ∷ []))
      ∙ ap (λ rs. gets_among rs (issued_since node past ++ next ∷ [])) (sym (requests_more row r))
    where
      by : (b : Bool) (xs : List ℕ) → (if b then xs ++ next ∷ [] else xs) ≡ xs ++ (if b then next ∷ [] else [])
      by true xs = refl
      by false xs = sym (append-nil xs)

  -- what the event says of the parts of the node's requests
  pub record Goes (later : List SourceEvent) : Type 0 where
    pub more : made node later ≡ made node past + 1
    pub before : (number cell : ℕ) (wrote : Bool) → number < next
        → part_value node number cell wrote (effects later) ≡ part_value node number cell wrote (effects past)
    pub fresh : is_issued r ≡ true → (cell : ℕ) (wrote : Bool) → part_value node next cell wrote (effects later) ≡ None
    pub beyond : (number cell : ℕ) (wrote : Bool) → next < number → part_value node number cell wrote (effects later) ≡ None

  module _ (later : List SourceEvent) (g : Goes later) where
    pub longer : length (with_request row r).entries ≡ next + 1
    longer = length-append row.entries (fresh_entry r ∷ [])

    entry_keeps : (number : ℕ) (e : EntryBook) → slice_get (with_request row r).entries number ≡ Some e → KeepsEntry node number later e
    entry_keeps number e at =
        ⊎_elim
        (λ p. let h = k.entries number e p.1 in record {
          sides = h.sides;
          parts = λ issued cell wrote. h.parts issued cell wrote ∙ sym (g.before number cell wrote p.0);
          left = h.left;
        })
        (λ p. subst (λ n. KeepsEntry node n later e) (sym p.0)
        (subst (KeepsEntry node next later) p.1 (fresh_keeps node next later r g.fresh)))
        (of_longer row.entries (fresh_entry r) number e at)

    opened : (mode : CopyMode) → open_of mode (with_request row r) ≡ how_many (is_open mode) (with_request row r).entries
    opened Blocking = ap (λ n. n + one_if (is_open Blocking (fresh_entry r))) (k.opened Blocking)
        ∙ sym (count_more (is_open Blocking) row.entries (fresh_entry r))
    opened Split = ap (λ n. n + one_if (is_open Split (fresh_entry r))) (k.opened Split)
        ∙ sym (count_more (is_open Split) row.entries (fresh_entry r))
    opened OneWay = ap (λ n. n + one_if (is_open OneWay (fresh_entry r))) (k.opened OneWay)
        ∙ sym (count_more (is_open OneWay) row.entries (fresh_entry r))

    -- with these arrivals and gets it keeps what the event says
    pub requested : (arrived : ℕ) (gets : List ℕ) → arrived ≡ arrivals node later → row.ended ≡ ended node later
        → gets ≡ gets_among (requests_of (with_request row r)) (issued_since node later)
        → AllBelow (next + 1) (issued_since node later)
        → KeepsRow node later (record (with_request row r) { arrived = arrived; gets = gets })
    requested arrived gets a e same below = record {
      made = longer ∙ ap (λ n. n + 1) k.made ∙ sym g.more;
      arrived = a;
      ended = e;
      entries = entry_keeps;
      none_beyond = λ number cell wrote le. g.beyond number cell wrote (let l = longer in omega arith);
      gets = same;
      issued_before = subst (λ n. AllBelow n (issued_since node later)) (sym longer) below;
      opened = λ mode. by mode;
    }
      where
        by : (mode : CopyMode)
            → open_of mode (record (with_request row r) { arrived = arrived; gets = gets }) ≡ how_many (is_open mode) (with_request row r).entries
        by Blocking = opened Blocking
        by Split = opened Split
        by OneWay = opened OneWay
