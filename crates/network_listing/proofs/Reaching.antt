-- Tests of an expression by known literals: that it is ready, and that it reaches no other variable. Assumes nothing.
use Prim.Native.Nat.{ℕ, ◌/◌, ◌≤◌}
use mathlib.Core.Path.{◌≡◌, ap, ◌∙◌}
use mathlib.Core.{Bool.◌||◌, Bool.or-false, List.List, List.[]}
use native.Mathlib.Omega.{arith}
use lib.Dec.{ltb}
use borrow.Author.Tests.{le-ltb}
use Rattle.sets.{specs.Lists.all, specs.Sets.mem, specs.Sets.sub, specs.Literal.plain_of, proofs.Lists.all-cong}
use Rattle.network_known.specs.Known.{known, BothWays, every_within}
use Rattle.network.specs.{Listing.ready, Held.reach}

module _ (n : ℕ) (listed k : List ℕ) (s : BothWays n listed k) where
  -- an expression is ready where its cubes have only literals of known variables
  pub within-ready : (f : List (List ℕ)) → every_within k f ≡ ready n listed f
  unfolding ready sub
  within-ready f =
      all-cong (λ c. sub c k) (all (λ l. ltb (l / 2) n || mem (l / 2) listed)) f
      (λ c _. all-cong (λ l. mem l k) (λ l. ltb (l / 2) n || mem (l / 2) listed) c (λ l _. s.each l))

  -- a variable that is no input is known where it is listed
  pub plain-listed : (v : ℕ) → n ≤ v → mem (plain_of v) k ≡ mem v listed
  plain-listed v h =
      let e : plain_of v / 2 ≡ v = omega arith in
      s.each (plain_of v) ∙ ap (known n listed) e ∙ ap (λ t. t || mem v listed) (le-ltb v n h)

-- with no more than v inputs known, that every literal is of one of them
pub within-reach : (v : ℕ) (k : List ℕ) → BothWays v [] k → (f : List (List ℕ)) → every_within k f ≡ reach v f
unfolding sub mem
within-reach v k s f =
    all-cong (λ c. sub c k) (all (λ l. ltb (l / 2) v)) f
    (λ c _. all-cong (λ l. mem l k) (λ l. ltb (l / 2) v) c (λ l _. s.each l ∙ or-false (ltb (l / 2) v)))
