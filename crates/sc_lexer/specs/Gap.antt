-- What stands between tokens: the white space and the comments of C (ISO/IEC 9899, "Comments"). Comments of the one
-- kind do not nest, and those of the other end before the newline.
use Rattle.std.specs.Prelude.{ℕ, zero, suc, ◌+◌, ◌==◌, Bool, List, [], ◌∷◌, Option, Some, None, if◌then◌else◌, drop, length, codes, nat_eq, unwrap_or, ◌≡◌, ◌⊎◌, ◌<◌, true, false, take}
use Rattle.std.specs.List.{prefix_len, starts_with, list_all}
use Rattle.sc_lexer.specs.Class.{is_blank, is_not_newline, begins_with}

-- the place after the first `*/` in the bytes, the first of which is at this place
abbrev pub comment_end : ℕ → List ℕ → Option ℕ
comment_end place [] = None
comment_end place (b ∷ bs) =
    if starts_with nat_eq (b ∷ bs) (codes "*/") then Some (place + 2) else comment_end (place + 1) bs

-- the size of the blank or comment at the front, 0 where there is none, and None for a comment without an end
abbrev pub gap_at : List ℕ → Option ℕ
gap_at [] = Some 0
gap_at (b ∷ bs) =
    if is_blank b then Some 1
    else (if starts_with nat_eq (b ∷ bs) (codes "//") then Some (prefix_len is_not_newline (b ∷ bs))
    else (if starts_with nat_eq (b ∷ bs) (codes "/*") then comment_end 2 (drop 2 (b ∷ bs))
    else Some 0))

-- whether nothing is left after as many blanks and whole comments
abbrev pub only_gaps : ℕ → List ℕ → Bool
only_gaps zero bytes = length bytes == 0
only_gaps (suc turns) bytes = only_gaps turns (drop (unwrap_or (gap_at bytes) 0) bytes)

-- the first `*/` of the bytes stands n behind their first
pub record IsFirstEnd (bytes : List ℕ) (n : ℕ) : Type 0 where
  pub ends : starts_with nat_eq (drop n bytes) (codes "*/") ≡ true
  pub first : (k : ℕ) → k < n → starts_with nat_eq (drop k bytes) (codes "*/") ≡ false

-- the place after the first `*/` of the bytes, the first of which is at this place
abbrev pub EndsAt : ℕ → List ℕ → ℕ → Type 0
EndsAt place bytes end = (n : ℕ) × (end ≡ place + n + 2) × IsFirstEnd bytes n

-- no `*/` stands in the bytes
abbrev pub HasNoEnd : List ℕ → Type 0
HasNoEnd bytes = (k : ℕ) → starts_with nat_eq (drop k bytes) (codes "*/") ≡ false

-- the comment at the front goes to the end of its line
pub record IsLineComment (bytes : List ℕ) (size : ℕ) : Type 0 where
  pub begins : starts_with nat_eq bytes (codes "//") ≡ true
  pub on_line : list_all is_not_newline (take size bytes) ≡ true
  pub ends : begins_with is_not_newline (drop size bytes) ≡ false

-- the comment at the front goes to the first `*/` behind its beginning
pub record IsBlockComment (bytes : List ℕ) (size : ℕ) : Type 0 where
  pub begins : starts_with nat_eq bytes (codes "/*") ≡ true
  pub ends : EndsAt 2 (drop 2 bytes) size

pub record IsBlank (bytes : List ℕ) (size : ℕ) : Type 0 where
  pub blank : begins_with is_blank bytes ≡ true
  pub one : size ≡ 1

-- so many bytes at the front are one blank or one comment
abbrev pub IsGap : List ℕ → ℕ → Type 0
IsGap bytes size = IsBlank bytes size ⊎ (IsLineComment bytes size ⊎ IsBlockComment bytes size)
