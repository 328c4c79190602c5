-- Names of numbers in a row, and the variables of a set one after the other; a set that marks an ascending list is that list. Assumes nothing.
use Prim.Native.Nat.{ℕ, suc, ◌+◌, ◌-◌, ◌/◌, ◌%◌, ◌<◌, ◌≤◌}
use mathlib.Core.Path.{◌≡◌, refl, sym, ap, ◌∙◌, subst}
use mathlib.Core.Bool.{Bool, true, false, cond, ◌&&◌}
use mathlib.Core.List.{List, [], ◌∷◌, ◌++◌, map}
use native.Mathlib.Numerals.{add-one}
use native.Mathlib.Omega.{arith}
use lib.Dec.{ltb, eqb}
use Rattle.sets.specs.Lists.{keep, is_nil, from}
use Rattle.sets.specs.{Literal.plain_of, Sets.mem, Sets.asc}
use Rattle.sets.proofs.Truth.{iff, both, together, clash, refuted}
use Rattle.sets.proofs.Lists.{pairwise-keep}
use Rattle.sets.proofs.Sets.{ext, keep-mem, from_in, from-asc, mem-head, mem-nil, nil-mem}
use Rattle.cube.{specs.Cube.width, specs.Cube.lits, specs.declared.Cube.Cube, proofs.Lits.lits-inside}
use Rattle.letters.specs.Letters.{name_text}
use Rattle.network_reads.{specs.Reading.reads_of, specs.Reading.Marks, proofs.Marking.marks-plain, proofs.Reading.reads-asc}
use Rattle.blif_laws.specs.Text.{first_names}
use Rattle.blif_write.specs.Parts.{led, plains_of, AllPlain}

-- ---- numbers from i up to n

from_first : (i n : ℕ) → i < n → from i (n - i) ≡ i ∷ from (i + 1) (n - (i + 1))
unfolding from
from_first i n h =
    let e : n - i ≡ suc (n - (i + 1)) = omega arith in
    ap (from i) e ∙ ap (λ (j : ℕ). i ∷ from j (n - (i + 1))) (sym (add-one i))

from-none : (i n : ℕ) → n ≤ i → from i (n - i) ≡ []
unfolding from
from-none i n h = let e : n - i ≡ 0 = omega arith in ap (from i) e

-- their names
abbrev pub names_from : ℕ → ℕ → ℕ → List ℕ
names_from b n i = led (map (name_text b) (from i (n - i)))

module _ (b n : ℕ) where
  pub names-all : led (first_names b n) ≡ names_from b n 0
  names-all = let e : n ≡ n - 0 = omega arith in ap (λ (m : ℕ). led (map (name_text b) (from 0 m))) e

  pub names-next : (i : ℕ) → i < n → names_from b n i ≡ (32 ∷ name_text b i) ++ names_from b n (i + 1)
  names-next i h = ap (λ l. led (map (name_text b) l)) (from_first i n h)

  pub names-none : (i : ℕ) → n ≤ i → names_from b n i ≡ []
  names-none i h = ap (λ l. led (map (name_text b) l)) (from-none i n h)

-- ---- the variables of a set

module _ (c : List ℕ) where
  -- those from v on
  abbrev pub plains_from : ℕ → List ℕ
  plains_from v = keep (λ u. mem (plain_of u) c) (from v (width - v))

  pub plains_all : plains_of c ≡ plains_from 0
  unfolding plains_of
  plains_all = refl

  plains-next : (v : ℕ) → v < width → plains_from v ≡ cond (mem (plain_of v) c) (v ∷ plains_from (v + 1)) (plains_from (v + 1))
  plains-next v h = ap (keep (λ u. mem (plain_of u) c)) (from_first v width h)

  pub plains-none : (v : ℕ) → width ≤ v → plains_from v ≡ []
  plains-none v h = ap (keep (λ u. mem (plain_of u) c)) (from-none v width h)

  -- the name of v is next, where the set has it
  pub read_next : (v : ℕ) → v < width
      → led (map (name_text 120) (plains_from v)) ≡ cond (mem (plain_of v) c) (32 ∷ name_text 120 v) [] ++ led (map (name_text 120) (plains_from (v + 1)))
  read_next v h = ap (λ l. led (map (name_text 120) l)) (plains-next v h) ∙ go (mem (plain_of v) c)
    where
      go : (t : Bool) → led (map (name_text 120) (cond t (v ∷ plains_from (v + 1)) (plains_from (v + 1))))
          ≡ cond t (32 ∷ name_text 120 v) [] ++ led (map (name_text 120) (plains_from (v + 1)))
      go true = refl
      go false = refl

  -- and so is its sign
  pub sign-next : (s : ℕ → ℕ) (v : ℕ) → v < width
      → map s (plains_from v) ≡ cond (mem (plain_of v) c) (s v ∷ []) [] ++ map s (plains_from (v + 1))
  sign-next s v h = ap (map s) (plains-next v h) ∙ go (mem (plain_of v) c)
    where
      go : (t : Bool) → map s (cond t (v ∷ plains_from (v + 1)) (plains_from (v + 1))) ≡ cond t (s v ∷ []) [] ++ map s (plains_from (v + 1))
      go true = refl
      go false = refl

-- ---- a set that marks an ascending list

pub plains-marked : (c : Cube) (l : List ℕ) → asc l ≡ true → Marks (lits c) l → plains_of (lits c) ≡ l
unfolding plains_of
plains-marked c l h p = ext (plains_of (lits c)) l (pairwise-keep ltb test (from 0 width) (from-asc 0 width)) h (λ z. keep-mem test z (from 0 width) ∙ same z)
  where
    test : ℕ → Bool
    test v = mem (plain_of v) (lits c)

    same : (z : ℕ) → (mem z (from 0 width) && test z) ≡ mem z l
    same z = iff
        (λ t. sym (marks-plain p z) ∙ (both (mem z (from 0 width)) (test z) t).1)
        (λ t. let m : test z ≡ true = marks-plain p z ∙ t in
        together _ _ (from_in 0 width z (omega arith) (omega (arith, lits-inside c (plain_of z) m))) m)

-- the cube that marks it has plain literals only
pub reads_plain : (c : Cube) (f : List (List ℕ)) → Marks (lits c) (reads_of f) → AllPlain (lits c)
reads_plain c f p = subst (λ v. Marks (lits c) v) (sym (plains-marked c (reads_of f) (reads-asc f) p)) p

-- it is empty where it has no variable
pub plain-nil : (c : List ℕ) (l : List ℕ) → Marks c l → is_nil c ≡ is_nil l
plain-nil c [] p = mem-nil c (λ z. p.each z ∙ refuted (λ t. clash (both (eqb (z % 2) 0) (mem (z / 2) []) t).1 (nil-mem [] refl (z / 2))))
plain-nil c (v ∷ l) p = refuted (λ t. clash (marks-plain p v ∙ mem-head v l) (nil-mem c t (plain_of v)))
