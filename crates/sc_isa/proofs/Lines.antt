-- The lines of a listing, one after another.
use Rattle.std.proofs.Common.{◌≡◌, ℕ, suc, ◌+◌, ◌<◌, List, ◌∷◌, ◌++◌, length, drop, get_or, refl, sym, ◌∙◌, ap, add-one, drop-cons}
use Rattle.sc_isa.specs.declared.code.FnRow.{FnRow}
use Rattle.sc_isa.specs.declared.op.Instr.{Instr}
use Rattle.sc_isa.specs.Listing.{heading_if, headings, instr_line, lines_from}

drop_first : {A : Type 0} → (xs : List A) (i : ℕ) (x : A) → i < length xs → x ≡ get_or xs i x → drop i xs
    ≡ x ∷ drop (i + 1) xs
drop_first xs i x h e = rw add-one (drop-cons xs i x h ∙ ap (λ y. y ∷ drop (suc i) xs) (sym e))

drop_next : {A : Type 0} → (xs : List A) (i : ℕ) (d : A) → i < length xs → drop i xs ≡ get_or xs i d ∷ drop (i + 1) xs
drop_next xs i d h = rw add-one (drop-cons xs i d h)

pub lines_step : (rows : List FnRow) (names : List (List ℕ)) (instrs : List Instr) (i at : ℕ) (d : Instr)
    → i < length instrs
    → lines_from rows names at (drop i instrs)
    ≡ headings at rows names ++ instr_line at (get_or instrs i d)
    ++ lines_from rows names (at + 1) (drop (i + 1) instrs)
lines_step rows names instrs i at d h = ap (lines_from rows names at) (drop_next instrs i d h)

headings_of : (at : ℕ) (rows left : List FnRow) (names more : List (List ℕ)) (row : FnRow) (name : List ℕ)
    → rows ≡ row ∷ left → names ≡ name ∷ more → headings at rows names ≡ heading_if name at row
    ++ headings at left more
headings_of at rows left names more row name e f = rw (e, f) refl

pub headings_step : (at : ℕ) (rows : List FnRow) (names : List (List ℕ)) (i : ℕ) (d : FnRow) (name : List ℕ)
    → i < length rows → i < length names → name ≡ get_or names i name
    → headings at (drop i rows) (drop i names) ≡ heading_if name at (get_or rows i d)
    ++ headings at (drop (i + 1) rows) (drop (i + 1) names)
headings_step at rows names i d name h k f =
    headings_of at (drop i rows) (drop (i + 1) rows) (drop i names) (drop (i + 1) names) (get_or rows i d) name
    (drop_next rows i d h) (drop_first names i name k f)
