-- Where a node begins.
use Rattle.std.proofs.Common.{◌≡◌, ℕ, ◌+◌, ◌<◌, ◌≤◌, true, false, Option, Some, None, List, [], length, drop, get_or, replicate, refl, ◌∙◌, if◌then◌else◌}
use Rattle.std.specs.Str.{bytes_eq}
use Rattle.std.proofs.lemmas.List.{drop_all, get_or-replicate, length-replicate}
use Rattle.sc_isa.specs.declared.code.FnRow.{FnRow}
use Rattle.sc_isa.specs.Begin.{row_named, begins_at}
use Rattle.node_machine.specs.View.{Counts}
use Rattle.node_values.proofs.Formats.{drop_next}

module _ (name : List ℕ) (functions : List FnRow) (names : List (List ℕ)) (k : ℕ) (row : FnRow) (d other : List ℕ) where
  abbrev now : Option FnRow
  now = row_named name (drop k functions) (drop k names)

  pub named_end : length functions ≤ k → now ≡ None
  named_end h = rw (drop_all k functions h) refl

  pub named_none : k < length functions → length names ≤ k → now ≡ None
  named_none h g = rw (drop_next functions k row h, drop_all k names g) refl

  split : k < length functions → k < length names → get_or names k d ≡ other
      → now ≡ (if bytes_eq name other then Some (get_or functions k row)
      else row_named name (drop (k + 1) functions) (drop (k + 1) names))
  split h g e = rw (drop_next functions k row h, drop_next names k d g, e) refl

  pub named_this : k < length functions → k < length names → get_or names k d ≡ other → bytes_eq name other ≡ true
      → now ≡ Some (get_or functions k row)
  named_this h g e b = split h g e ∙ rw b refl

  pub named_next : k < length functions → k < length names → get_or names k d ≡ other → bytes_eq name other ≡ false
      → now ≡ row_named name (drop (k + 1) functions) (drop (k + 1) names)
  named_next h g e b = split h g e ∙ rw b refl

pub no_counts : (n : ℕ) → Counts (replicate n 0) []
no_counts n = λ counter h. get_or-replicate n counter 0 0 (rw length-replicate at h)

pub begins_flying : (budget outside : ℕ) (row : Option FnRow) → (begins_at budget outside row).flying ≡ []
begins_flying budget outside None = refl
begins_flying budget outside (Some row) = refl
