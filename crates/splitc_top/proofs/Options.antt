-- The options of a list of words, from its first words.
use Rattle.std.proofs.Common.{◌≡◌, ℕ, List, [], ◌∷◌, map, Option, Some, None, true, false, String, Global, string_bytes, bytes_eq, codes, refl, sym, ap, ◌∙◌}
use Rattle.splitc_top.specs.declared.words.Options.{Options}
use Rattle.splitc_top.specs.Words.{options_of, with_memory, with_option}

pub options_of-memory : (name : List ℕ) (words : List (List ℕ)) (o : Options) → bytes_eq name (codes "-m") ≡ true → options_of (name ∷ words) (Some o) ≡ options_of words (with_memory o)
options_of-memory name [] o h = rw h (elim (with_memory o) as (λ m. m ≡ options_of [] m) [ None ↦ refl | Some p ↦ refl ])
options_of-memory name (word ∷ words) o h = rw h refl

pub options_of-option : (name word : List ℕ) (words : List (List ℕ)) (o : Options) → bytes_eq name (codes "-m") ≡ false → options_of (name ∷ word ∷ words) (Some o) ≡ options_of words (with_option name word o)
options_of-option name word words o h = rw h refl

pub options_of-lone : (name : List ℕ) (o : Options) → bytes_eq name (codes "-m") ≡ false → options_of (name ∷ []) (Some o) ≡ None
options_of-lone name o h = rw h refl

-- the same of words as text, after these options
pub after_memory : (words rest after : List (String Global)) (name : String Global) (start o : Options) (next : Option Options) → options_of (map string_bytes words) (Some start) ≡ options_of (map string_bytes rest) (Some o) → rest ≡ name ∷ after → bytes_eq (string_bytes name) (codes "-m") ≡ true → next ≡ with_memory o → options_of (map string_bytes words) (Some start) ≡ options_of (map string_bytes after) next
after_memory words rest after name start o next so_far cut named given =
    so_far ∙ ap (λ r. options_of (map string_bytes r) (Some o)) cut ∙ options_of-memory (string_bytes name) (map string_bytes after) o named ∙ ap (options_of (map string_bytes after)) (sym given)

pub after_option : (words rest later after : List (String Global)) (name word : String Global) (start o : Options) (next : Option Options) → options_of (map string_bytes words) (Some start) ≡ options_of (map string_bytes rest) (Some o) → rest ≡ name ∷ later → later ≡ word ∷ after → bytes_eq (string_bytes name) (codes "-m") ≡ false → next ≡ with_option (string_bytes name) (string_bytes word) o → options_of (map string_bytes words) (Some start) ≡ options_of (map string_bytes after) next
after_option words rest later after name word start o next so_far cut again named given =
    so_far ∙ ap (λ r. options_of (map string_bytes r) (Some o)) (cut ∙ ap (λ r. name ∷ r) again) ∙ options_of-option (string_bytes name) (string_bytes word) (map string_bytes after) o named ∙ ap (options_of (map string_bytes after)) (sym given)
