-- Whether a pair is set, as a test.
use Rattle.std.proofs.Common.{◌≡◌, ℕ, ◌==◌, ◌&&◌, Bool, sym}
use Rattle.std.specs.Bool.{Decides}
use Rattle.std.specs.Cmp.{decided, unsigned_Decides}
use Rattle.std.proofs.lemmas.Bool.Decides.{Decides-and, Decides-like}
use Rattle.std.proofs.lemmas.Map.Views.{list_any-from_Contains, Contains-from_any}
use Rattle.site_graph.specs.Bits.{Bits, IsSet}
use Rattle.splitc_top.specs.Pairs.{has_pair}

abbrev same_pair : ℕ × ℕ → ℕ × ℕ → Bool
same_pair q p = (p.0 == q.0) && (p.1 == q.1)

same : (q p : ℕ × ℕ) → (p.0 ≡ q.0) × (p.1 ≡ q.1) → q ≡ p
same q p h = both q.0 q.1 p.0 p.1 (sym h.0) (sym h.1)
  where
    both : (a b c d : ℕ) → a ≡ c → b ≡ d → ◌≡◌ {A = ℕ × ℕ} (a, b) (c, d)
    both a b c d e f = cc

parts : (q p : ℕ × ℕ) → q ≡ p → (p.0 ≡ q.0) × (p.1 ≡ q.1)
parts q p e = (cc, cc)

same_decides : (q p : ℕ × ℕ) → Decides (same_pair q p) (q ≡ p)
same_decides q p =
    Decides-like (same_pair q p) (same q p) (parts q p)
    (Decides-and (p.0 == q.0) (p.1 == q.1) (unsigned_Decides p.0 q.0) (unsigned_Decides p.1 q.1))

pub set_has : (bits : Bits) (row column : ℕ) → Decides (has_pair bits row column) (IsSet bits row column)
set_has bits row column = (
  Contains-from_any (λ q p h. (same_decides q p).0 h) (row, column) bits.set,
  list_any-from_Contains (decided same_pair same_decides) (row, column) bits.set,
)
