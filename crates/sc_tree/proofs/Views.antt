-- Texts and the vectors that hold them.
use Rattle.std.proofs.Common.{◌≡◌, refl, ap, ℕ, zero, suc, ◌+◌, List, [], ◌∷◌, ◌++◌, Some, None, map, take, add-one, ◌∙◌}
use Rattle.std.specs.Prelude.{slice_get, nat_eq, Vec}
use Rattle.std.specs.declared.alloc.Global.{Global}
use Rattle.std.specs.List.{list_any, position, position_or_len}
use Rattle.std.specs.Str.{bytes_eq}
use Rattle.std.specs.Cmp.Lexicographic.{pointwise}
use Rattle.std.proofs.lemmas.List.{length-map}
use Rattle.sc_tree.specs.Names.{Text}

some_same : (x t : Text) → Some x ≡ Some t → x ≡ t
some_same x t e = cc

pub any-map : (name : Text) (vs : List (Vec ℕ Global)) → list_any (bytes_eq name) (map (λ v. v.items) vs) ≡ list_any (λ v. pointwise nat_eq name v.items) vs
any-map name [] = refl
any-map name (v ∷ vs) = rw (any-map name vs) refl

pub place-map : (name : Text) (vs : List (Vec ℕ Global)) → position_or_len (bytes_eq name) (map (λ v. v.items) vs) ≡ position_or_len (λ v. pointwise nat_eq name v.items) vs
place-map name [] = refl
place-map name (v ∷ vs) = rw (place-map name vs) refl

pub position-map : (name : Text) (vs : List (Vec ℕ Global)) → position (bytes_eq name) (map (λ v. v.items) vs) ≡ position (λ v. pointwise nat_eq name v.items) vs
position-map name vs = rw (place-map name vs, length-map vs (λ v. v.items)) refl

pub map-push : (vs : List (Vec ℕ Global)) (v : Vec ℕ Global) → map (λ v. v.items) (vs ++ v ∷ []) ≡ map (λ v. v.items) vs ++ v.items ∷ []
map-push [] v = refl
map-push (x ∷ vs) v = ap (λ l. x.items ∷ l) (map-push vs v)

pub ruleset texts = (any-map, place-map, position-map, map-push)

-- one text more
take_suc-get : (ts : List Text) (n : ℕ) (t : Text) → slice_get ts n ≡ Some t → take (suc n) ts ≡ take n ts ++ t ∷ []
take_suc-get [] n t e = cc
take_suc-get (x ∷ ts) zero t e = ap (λ y. y ∷ []) (some_same x t e)
take_suc-get (x ∷ ts) (suc n) t e = ap (λ l. x ∷ l) (take_suc-get ts n t e)

pub take-get : (ts : List Text) (n : ℕ) (t : Text) → slice_get ts n ≡ Some t → take (n + 1) ts ≡ take n ts ++ t ∷ []
take-get ts n t e = ap (λ k. take k ts) (add-one n) ∙ take_suc-get ts n t e

-- and none
pub take-none : (ts : List Text) (n : ℕ) → slice_get ts n ≡ None → take n ts ≡ ts
take-none [] zero e = refl
take-none [] (suc n) e = refl
take-none (x ∷ ts) zero e = cc
take-none (x ∷ ts) (suc n) e = ap (λ l. x ∷ l) (take-none ts n e)

pub ruleset takes = (take-get, take-none)
