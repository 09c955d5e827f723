-- The text that a format and its values give, after `printf` of the C standard.
use Rattle.std.specs.Prelude.{ℕ, ℤ, List, [], ◌∷◌, ◌++◌, ◌==◌, ◌&&◌, if◌then◌else◌}
use Rattle.std.specs.Fmt.{signed_decimal}

-- The format's bytes, with each `%d` replaced by the next value in decimal and each `%%` by `%`. A `%d` past the last
-- value, and a `%` that neither `d` nor `%` follows, is written as it stands; values left over are dropped.
abbrev pub formatted : List ℕ → List ℤ → List ℕ
formatted [] values = []
formatted (byte ∷ []) values = byte ∷ []
formatted (byte ∷ next ∷ rest) [] =
    if (byte == 37) && (next == 37) then 37 ∷ formatted rest [] else byte ∷ formatted (next ∷ rest) []
formatted (byte ∷ next ∷ rest) (value ∷ values) =
    if (byte == 37) && (next == 37) then 37 ∷ formatted rest (value ∷ values)
    else if (byte == 37) && (next == 100) then signed_decimal value ++ formatted rest values
    else byte ∷ formatted (next ∷ rest) (value ∷ values)
