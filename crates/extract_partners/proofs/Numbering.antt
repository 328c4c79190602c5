-- The removals of a node as numbers, listed cube by cube. Assumes nothing.
use Prim.Native.Nat.{ℕ, suc, ◌+◌, ◌*◌, ◌<◌}
use mathlib.Core.Path.{◌≡◌, refl, sym, ap, ap₂, ◌∙◌}
use mathlib.Core.Logic.{inl, inr}
use mathlib.Core.List.Memᴰ
use mathlib.Core.List.Memᴰ.{head as here}
use mathlib.Core.List.Memᴰ.{tail as there}
use mathlib.Core.List.{List, [], ◌∷◌, ◌++◌, map, map-append}
use native.Mathlib.Numerals.{add-one}
use native.Mathlib.Omega.{arith}
use lib.ListN.{length, get_or, drop, length-append, length-map}
use lib.Dec.{ltb}
use borrow.Author.Tests.{ltb-true}
use Rattle.sets.proofs.{Truth.both, Places.drop-next}
use Rattle.sets.proofs.Lists.{◌∈◌, map-out, map-map}
use Rattle.extract_laws.specs.Divisor.{small}
use Rattle.extract_keys.specs.Keys.{part_code}
use Rattle.extract_partners.specs.Removal.{removals, removals_of}
use Rattle.extract_partners.specs.Table.{removal_of, part_at, removals_from}
use Rattle.extract_partners.proofs.{Removing.removal-out, Meeting.Narrow, Meeting.part-told}

-- those of a cube: its first literal alone, then with each other one, then those of the others
pub removals-cube : (j p : ℕ) (c : List ℕ)
    → map (removal_of j) (removals (p ∷ c)) ≡ (65536 * j + 257 * p) ∷ (map (λ q. removal_of j (p ∷ q ∷ [])) c ++ map (removal_of j) (removals c))
unfolding removals part_code
removals-cube j p c = ap₂ ◌∷◌ (omega arith)
    (map-append (removal_of j) (map (λ q. p ∷ q ∷ []) c) (removals c) ∙ ap (◌++ map (removal_of j) (removals c)) (map-map (removal_of j) (λ q. p ∷ q ∷ []) c))

-- those of the cubes from place j on: those of the first, and then those of the others
pub removals-next : (f : List (List ℕ)) (j : ℕ) → j < length f
    → removals_from j (drop j f) ≡ map (removal_of j) (removals (get_or f j [])) ++ removals_from (j + 1) (drop (j + 1) f)
unfolding removals_from
removals-next f j h =
    ap (removals_from j) (drop-next f j [] h)
    ∙ ap (λ i. map (removal_of j) (removals (get_or f j [])) ++ removals_from i (drop (j + 1) f)) (sym (add-one j))

-- so many are there
pub removals-many : (j : ℕ) (f : List (List ℕ)) → length (removals_from j f) ≡ removals_of f
unfolding removals_from removals_of
removals-many j [] = refl
removals-many j (c ∷ f) = omega (
  arith,
  length-append (map (removal_of j) (removals c)) (removals_from (suc j) f),
  length-map (removals c) (removal_of j),
  removals-many (suc j) f,
)

-- each has a literal in its part
pub removals-part : (j : ℕ) (f : List (List ℕ)) → ((c : List ℕ) → c ∈ f → Narrow c) → {w : ℕ} → w ∈ removals_from j f → 0 < length (part_at w)
unfolding removals_from small
removals-part j [] n m = absurd (Memᴰ.not-nil m)
removals-part j (c ∷ f) n m = elim (Memᴰ.append_cases (map (removal_of j) (removals c)) m) [
  | inl i ↦
      let (a, k, e) = map-out (removal_of j) (removals c) i in
      let r = removal-out c (n c (here refl)).ascends k in
      rw (e, part-told j (n c (here refl)) r) (ltb-true 0 (length a) (both (ltb 0 (length a)) (ltb (length a) 3) r.few).0)
  | inr i ↦ removals-part (suc j) f (λ d k. n d (there k)) i
]
