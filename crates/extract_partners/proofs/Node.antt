-- The sums of a node: cube by cube, and by its removals. Assumes nothing.
use Prim.Native.Nat.{ℕ, ◌+◌, ◌*◌, ◌<◌, ◌≤◌}
use mathlib.Core.Path.{◌≡◌, refl, sym, ap, ◌∙◌, subst}
use mathlib.Core.List.Memᴰ
use mathlib.Core.List.{List, []}
use native.Mathlib.Omega.{arith}
use lib.Dec.{ltb}
use lib.ListN.{length, get_or, take, drop, replicate, length-replicate, get_or-replicate}
use lib.Seq.{get_or-take, length-take-le}
use borrow.Author.Tests.{lt-ltb}
use Rattle.sets.specs.{Lists.total, Sets.asc}
use Rattle.sets.proofs.{Lists.◌∈◌, Lists.all-out, Places.at_in, Places.drop-next, Sets.all-mem}
use Rattle.cube.specs.Cube.{width}
use Rattle.expression.{specs.Words.cubes_of, proofs.Words.cubes-asc, proofs.Words.cubes-inside}
use Rattle.extract_gains.specs.Gains.{Turns, none}
use Rattle.extract_gains.proofs.Table.{turns-none, turns_then, turns_as}
use Rattle.extract_counts.specs.Counts.{row_gain, sums_gain}
use Rattle.extract_partners.specs.Table.{part_at, removals_from, use_gain, every_two, room, newest, Entered}
use Rattle.extract_partners.proofs.Meeting.{Narrow, every-next, node-cubes}
use Rattle.extract_partners.proofs.Numbering.{removals-part}

-- ---- cube by cube

pub sums_none : (k : ℕ) → sums_gain k [] ≡ 0
unfolding sums_gain
sums_none k = refl

pub sums_next : (k : ℕ) (f : List (List ℕ)) (i : ℕ) → i < length f
    → sums_gain k (drop i f) ≡ sums_gain k (drop (i + 1) f) + row_gain k (get_or f i []) (drop (i + 1) f)
unfolding sums_gain
sums_next k f i h = ap (sums_gain k) (drop-next f i [] h) ∙ omega arith

-- ---- by removal

cubes-narrow : (ws : List ℕ) (c : List ℕ) → c ∈ cubes_of ws → Narrow c
cubes-narrow ws c m = record {
  ascends = all-out asc m (cubes-asc ws);
  below = all-mem (λ l. ltb l (2 * width)) c (λ z i. lt-ltb z (2 * width) (cubes-inside ws m z i));
}

-- nothing is in the chains at first
pub entered-none : (f : List (List ℕ)) (ws : List ℕ) → Entered f ws (replicate room 0) 0
unfolding newest
entered-none f ws = record {
  chained = record {
    long = length-replicate {A = ℕ} room 0;
    heads = λ h b. get_or-replicate {A = ℕ} room h 0 0 (omega arith);
    links = λ d b. absurd (omega arith);
  };
  within = omega arith;
  codes = λ d b. absurd (omega arith);
}

-- the first n of the numbers ws are the removals of the cubes in the words f
pub record Whole (f ws : List ℕ) (n : ℕ) : Type 0 where
  pub long : length ws ≡ 16384
  pub few : n ≤ length ws
  pub all : take n ws ≡ removals_from 0 (cubes_of f)

module _ {f ws : List ℕ} {n : ℕ} (w : Whole f ws n) where
  abbrev gains : ℕ → ℕ → ℕ
  gains e k = every_two (use_gain (cubes_of f) k) (take e ws)

  pub part-some : (e : ℕ) → e < n → 0 < length (part_at (get_or ws e 0))
  part-some e b =
      removals-part 0 (cubes_of f) (cubes-narrow f)
      (subst (get_or ws e 0 ∈◌) w.all (Memᴰ.cast (sym (get_or-take n ws e 0 b)) (at_in (take n ws) e 0 (omega (arith, length-take-le n ws w.few)))))

  pub turns-first : (t g : List ℕ) → Turns t g t g none (gains 0)
  unfolding every_two
  turns-first t g = turns-none t g

  pub turns_next : {t g u h v i : List ℕ} (e : ℕ) → e < n → Turns t g u h none (gains e)
      → Turns u h v i none (λ k. total (λ v. use_gain (cubes_of f) k v (get_or ws e 0)) (take e ws)) → Turns t g v i none (gains (e + 1))
  turns_next e b p q = turns_as (λ k. refl) (λ k. sym (every-next (use_gain (cubes_of f) k) ws e (omega (arith, w.few)))) (turns_then p q)

  pub turns-all : {t g u h : List ℕ} → Turns t g u h none (gains n) → Turns t g u h none (λ k. sums_gain k (cubes_of f))
  turns-all p = turns_as (λ k. refl) (λ k. ap (every_two (use_gain (cubes_of f) k)) w.all
      ∙ node-cubes (cubes_of f) k (cubes_of f) 0 (cubes-narrow f) (λ i. ap (λ j. get_or (cubes_of f) j []) (omega arith))) p
