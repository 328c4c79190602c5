-- Arrays made of the places' numbers: what holds of each call holds of each element. Assumes nothing.
use Prim.Native.Nat.{ℕ, zero, suc, ◌+◌, ◌<◌, ◌≤◌}
use Rattle.std.proofs.Common.{◌≡◌, refl, subst, arith, List, get_or}
use Rattle.std.specs.Fn.{Called}
use Rattle.std.specs.Array.{IsFromFnResult, IsFromFnResultFrom}
use denote.Param.Members.{Mut}
use Rattle.sets.proofs.Truth.{compared, below, equal, beyond}

module _ {F B : Type 0} {g : Mut F (ℕ × Unit {0}) B} (P : ℕ → B → Type 0) (f : F) (m : ℕ)
    (k : (i : ℕ) (y : B) (q : F) → i < m → Called g f (i, tt) y q → (q ≡ f) × P i y) (d : B) where
  made-from : (ys : List B) (n i : ℕ) (q : F) → i + n ≤ m → q ≡ f → IsFromFnResultFrom g q ys i n → (j : ℕ) → i ≤ j → j < i + n → P j (get_or ys j d)
  made-from ys zero i q h e r j a b = absurd (omega arith)
  made-from ys (suc n) i q h e r j a b =
      let t = k i r.1 r.0 (omega arith) (subst (λ p. Called g p (i, tt) r.1 r.0) e r.3) in
      elim (compared j i) [
        | below l _ _ ↦ absurd (omega arith)
        | equal l _ _ ↦ rw (l, r.2.1 d) t.1
        | beyond l _ _ ↦ made-from ys n (i + 1) r.0 (omega arith) t.0 r.4 j (omega arith) (omega arith)
      ]

  pub made-at : (ys : List B) → IsFromFnResult g f ys m → (j : ℕ) → j < m → P j (get_or ys j d)
  made-at ys r j h = made-from ys m 0 f (omega arith) refl r.each j (omega arith) (omega arith)
