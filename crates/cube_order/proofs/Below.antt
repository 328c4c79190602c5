-- Literals of variables below a number, by the first one that is not. Assumes nothing.
use Prim.Native.Nat.{ℕ, ◌*◌, ◌/◌, ◌<◌}
use mathlib.Core.Path.{◌≡◌, refl, sym}
use mathlib.Core.{Bool.true, Bool.not, List.List}
use mathlib.Core.Option.{Option, none, some}
use native.Mathlib.Omega.{arith}
use lib.Dec.{ltb}
use borrow.Author.Tests.{ltb-true, lt-ltb}
use Rattle.sets.{specs.Lists.is_some, proofs.Sets.all-mem, proofs.Sets.mem-all, proofs.First.none_first, proofs.First.some_first}
use Rattle.sets.specs.Sets.{mem, asc, reads_below, first_from}
use Rattle.sets.proofs.Truth.{clash, refuted, Stand, below, equal, beyond, compared}

module _ (v : ℕ) (a : List ℕ) where
  pub all-below : ((x : ℕ) → mem x a ≡ true → x < 2 * v) → true ≡ reads_below v a
  all-below h = sym (all-mem (λ l. ltb (l / 2) v) a (λ x m. lt-ltb (x / 2) v (omega (arith, h x m))))

  pub first_below : asc a ≡ true → not (is_some (first_from (2 * v) a)) ≡ reads_below v a
  first_below s = go (first_from (2 * v) a) refl
    where
      go : (o : Option ℕ) → first_from (2 * v) a ≡ o → not (is_some o) ≡ reads_below v a
      go none e = all-below (λ x m. lower x m (compared x (2 * v)))
        where
          lower : (x : ℕ) → mem x a ≡ true → Stand x (2 * v) → x < 2 * v
          lower x m (below l _ _) = l
          lower x m (equal l _ _) = clash m (none_first (2 * v) a e x (omega arith))
          lower x m (beyond l _ _) = clash m (none_first (2 * v) a e x (omega arith))
      go (some x) e =
          let w = some_first (2 * v) a x s e in
          sym (refuted (λ h. let k = ltb-true (x / 2) v (mem-all (λ l. ltb (l / 2) v) a x h w.is_in) in omega (arith, w.not_below)))
