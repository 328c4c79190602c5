-- Two removals, met: what they gain, by the three tests of the program. Assumes nothing.
use Prim.Native.Nat.{ℕ, ◌+◌, ◌-◌}
use mathlib.Core.Path.{◌≡◌, refl, sym}
use mathlib.Core.{Logic.inl, Logic.inr, Bool.true, Bool.false, List.List}
use lib.ListN.{length}
use Rattle.sets.{specs.Sets.same, specs.Sets.apart, proofs.Truth.decided}
use Rattle.extract_gains.specs.Gains.{Turns, only, none}
use Rattle.extract_gains.proofs.Table.{turns-none, turns_as}
use Rattle.extract_keys.specs.Keys.{part_code, two_codes}
use Rattle.extract_partners.specs.Table.{part_at, left_at, use_gain}

module _ (f : List (List ℕ)) (v w : ℕ) where
  differs : (k : ℕ) → same (left_at f v) (left_at f w) ≡ false → use_gain f k v w ≡ 0
  unfolding use_gain
  differs k h = rw h

  shares : (k : ℕ) → apart (part_at v) (part_at w) ≡ false → use_gain f k v w ≡ 0
  unfolding use_gain
  shares k h = elim (decided (same (left_at f v) (left_at f w))) [ inl t ↦ rw (t, h) | inr t ↦ rw t ]

  pub use-differs : (t g : List ℕ) → same (left_at f v) (left_at f w) ≡ false → Turns t g t g none (λ k. use_gain f k v w)
  use-differs t g h = turns_as (λ k. refl) (λ k. sym (differs k h)) (turns-none t g)

  pub use-shares : (t g : List ℕ) → apart (part_at v) (part_at w) ≡ false → Turns t g t g none (λ k. use_gain f k v w)
  use-shares t g h = turns_as (λ k. refl) (λ k. sym (shares k h)) (turns-none t g)

  pub use-met : {t g u h : List ℕ} (key by : ℕ) → same (left_at f v) (left_at f w) ≡ true → apart (part_at v) (part_at w) ≡ true
      → key ≡ two_codes (part_code (part_at v)) (part_code (part_at w)) → by ≡ length (left_at f w) + ((length (part_at v) + length (part_at w)) - 1)
      → Turns t g u h none (only key by) → Turns t g u h none (λ k. use_gain f k v w)
  unfolding use_gain
  use-met key by p q i j n = turns_as (λ k. refl) (λ k. rw (p, q, i, j)) n
