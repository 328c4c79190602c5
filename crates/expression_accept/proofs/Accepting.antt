-- Which words are refused, and with which number; what is accepted, in the paper's words. Assumes nothing.
use Prim.Native.Nat.{ℕ, zero, suc, ◌+◌, ◌*◌, ◌%◌, ◌<◌, ◌≤◌}
use mathlib.Core.Path.{◌≡◌, refl, sym, ◌∙◌, ap}
use mathlib.Core.Logic.{◌↔◌, inl, inr}
use mathlib.Core.Bool.{Bool, true, false, cond, ◌&&◌}
use mathlib.Core.List.{List, []}
use mathlib.Core.Option.{Option, none, some}
use native.Mathlib.Omega.{arith}
use lib.Dec.{ltb, eqb}
use lib.ListN.{length, get_or, drop, drop_of_length-le}
use Rattle.std.specs.List.{range_with_len}
use borrow.Author.Tests.{ltb-true, ltb-false, lt-ltb, le-ltb, eqb-true, eqb-false}
use Rattle.sets.{specs.Lists.all, specs.Lists.pairwise, proofs.First.some-not-none, proofs.Places.pairwise-at, proofs.Places.at-pairwise, proofs.Places.drop-next}
use Rattle.sets.specs.Sets.{sub, asc, proper}
use Rattle.sets.proofs.Truth.{both, decided, compared, below, equal, beyond}
use Rattle.sets.proofs.Lists.{all_in, all-out, all-cong}
use Rattle.expression.specs.Words.{cube_words, cubes_of}
use Rattle.expression.specs.Expression.{is_cube, loose, expression}
use Rattle.expression.specs.Answers.{most_handed, refusal, Acceptable}
use Rattle.expression.proofs.Words.{cubes-asc, spare-length, spare-none, spare-some}
use Rattle.expression.proofs.Absorbing.{loose-in, loose-out}

-- a relation between each element and every later one, place by place
module _ {A : Type 0} (r : A → A → Bool) (d : A) (l : List A) where
  abbrev pub from_place : ℕ → Bool
  from_place i = all (r (get_or l i d)) (drop (i + 1) l)

  pub places-pairwise : (k n : ℕ) → k + n ≡ length l → all from_place (range_with_len k n) ≡ pairwise r (drop k l)
  places-pairwise k zero h = let e = drop_of_length-le l {i = k} (omega arith) in rw e
  places-pairwise k (suc n) h =
      let lt : k < length l = omega arith in
      rw (drop-next l k d lt) (ap (from_place k &&◌) (places-pairwise (k + 1) n (omega arith)))

-- no cube contains or equals another, by places
pub loose-iff : (f : List (List ℕ))
    → (pairwise loose f ≡ true) ↔ ((i j : ℕ) → i < length f → j < length f → (i ≡ j → ⊥) → sub (get_or f i []) (get_or f j []) ≡ false)
loose-iff f = (
  out,
  λ k. at-pairwise loose [] f (λ i j b h.
      loose-in (get_or f i []) (get_or f j []) (k i j (omega arith) h (λ e. omega arith)) (k j i h (omega arith) (λ e. omega arith))),
)
  where
    out : pairwise loose f ≡ true → (i j : ℕ) → i < length f → j < length f → (i ≡ j → ⊥) → sub (get_or f i []) (get_or f j []) ≡ false
    out h i j a b n = elim (compared i j) [
      | below l _ _ ↦ (loose-out (get_or f i []) (get_or f j []) (pairwise-at loose [] f i j h l b)).0
      | equal e _ _ ↦ absurd (n e)
      | beyond l _ _ ↦ (loose-out (get_or f j []) (get_or f i []) (pairwise-at loose [] f j i h l a)).1
    ]

module _ (ws : List ℕ) where
  -- what words hold is ascending, so a cube is one that has no variable both ways
  pub cubes-proper : all is_cube (cubes_of ws) ≡ all proper (cubes_of ws)
  cubes-proper = all-cong is_cube proper (cubes_of ws) (λ c m. ap (λ t. t && proper c) (all-out asc m (cubes-asc ws)))

  pub refused-many : cube_words * most_handed < length ws → refusal ws ≡ some 6
  unfolding refusal
  refused-many h = rw (lt-ltb (cube_words * most_handed) (length ws) h)

  module _ (few : length ws ≤ cube_words * most_handed) where
    pub refused-spare : (length ws % cube_words ≡ 0 → ⊥) → refusal ws ≡ some 7
    unfolding refusal
    refused-spare h = rw (le-ltb (cube_words * most_handed) (length ws) few, spare-some ws h)

    pub refused-expression : length ws % cube_words ≡ 0 → refusal ws ≡ cond (expression (cubes_of ws)) none (some 7)
    unfolding refusal
    refused-expression h = rw (le-ltb (cube_words * most_handed) (length ws) few, spare-none ws h)

    pub refused-else : length ws % cube_words ≡ 0 → refusal ws ≡ cond (all proper (cubes_of ws) && pairwise loose (cubes_of ws)) none (some 7)
    refused-else h = refused-expression h ∙ rw cubes-proper

  pub accepted-iff : (refusal ws ≡ none) ↔ Acceptable ws
  accepted-iff = (
    out,
    λ (few, even, one, apart). refused-expression few even
        ∙ rw (cubes-proper, all_in proper (cubes_of ws) one, (loose-iff (cubes_of ws)).1 apart),
  )
    where
      few-of : refusal ws ≡ none → length ws ≤ cube_words * most_handed
      few-of h = elim (decided (ltb (cube_words * most_handed) (length ws))) [
        | inl t ↦ some-not-none (refusal ws) (refused-many (ltb-true _ _ t)) h
        | inr t ↦ ltb-false _ _ t
      ]

      even-of : refusal ws ≡ none → length ws % cube_words ≡ 0
      even-of h = elim (decided (eqb (length ws % cube_words) 0)) [
        | inl t ↦ eqb-true (length ws % cube_words) 0 t
        | inr t ↦ some-not-none (refusal ws) (refused-spare (few-of h) (eqb-false (length ws % cube_words) 0 t)) h
      ]

      rest : (b : Bool) → cond {A = Option ℕ} b none (some 7) ≡ none → b ≡ true
      rest true e = refl
      rest false e = some-not-none (some 7) refl e

      out : refusal ws ≡ none → Acceptable ws
      out h =
          let e = rest (expression (cubes_of ws)) (sym (refused-expression (few-of h) (even-of h)) ∙ h) in
          let q = both (all proper (cubes_of ws)) (pairwise loose (cubes_of ws)) (rw cubes-proper at e) in
          (few-of h, even-of h, λ c m. all-out proper m q.0, (loose-iff (cubes_of ws)).0 q.1)

-- so what is accepted is an expression, of no more cubes than may be handed in
pub record Accepted (ws : List ℕ) : Type 0 where
  pub cubes : expression (cubes_of ws) ≡ true
  pub few : length (cubes_of ws) ≤ most_handed

pub accepted-out : (ws : List ℕ) → refusal ws ≡ none → Accepted ws
accepted-out ws h =
    let (few, even, one, apart) = (accepted-iff ws).0 h in
    record {
      cubes = rw (cubes-proper ws, all_in proper (cubes_of ws) one, (loose-iff (cubes_of ws)).1 apart);
      few = omega (arith, spare-length ws);
    }
