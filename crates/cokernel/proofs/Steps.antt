-- The steps of the search: closing a cube in one pass, opening a branch, going on to the next literal. Assumes nothing.
use Prim.Native.Nat.{ℕ, suc, zero-le, ◌+◌, ◌-◌, ◌*◌, ◌<◌, ◌≤◌, min}
use mathlib.Core.Path.{◌≡◌, refl, sym, ◌∙◌, ap, subst}
use mathlib.Core.{Logic.inl, Logic.inr, Option.none, Option.some}
use mathlib.Core.Bool.{Bool, true, false, cond, not, ◌&&◌}
use mathlib.Core.List.{List, [], ◌∷◌, ◌++◌, append-nil}
use native.Mathlib.Numerals.{add-one}
use native.Mathlib.Omega.{arith}
use lib.Dec.{leb, ltb}
use lib.ListN.{length, get_or, drop, drop_of_length-le, length-append}
use borrow.Author.Tests.{leb-true, le-leb, lt-ltb, ltb-true, ltb-false, not-true}
use Rattle.sets.{specs.Lists.all, proofs.Places.drop-next, proofs.Rows.nil-of}
use Rattle.sets.specs.Sets.{mem, sub, asc, insert, without, meet, same, first_from}
use Rattle.sets.proofs.Truth.{iff, both, together, decided, clash}
use Rattle.sets.proofs.First.{none_first, some_first, IsFirst}
use Rattle.sets.proofs.Sets.{without-mem, all-mem, mem-all, sub_out}
use Rattle.std.proofs.Common.{Option, Some, None, MatchOption, unwrap_or}
use Rattle.cube.specs.{Cube.width, Cube.lits, Cube.joined, declared.Cube.Cube}
use Rattle.expression.specs.{Words.Placed, Expression.Cubes}
use Rattle.expression.proofs.Placing.{placed-none, placed-then, placed-length}
use Rattle.cokernel.specs.Cokernels.{above, common, is_cokernel, opens, beyond}
use Rattle.cokernel.specs.Parts.{only, Shared, Branched, Walks, Walked}
use Rattle.cokernel.specs.Meaning.{Held, Prefix, SameBelow}
use Rattle.cokernel.proofs.{Closing.above-asc, Closing.common-above, Exactly.beyond-none}
use Rattle.cokernel.proofs.Walking.{prefix-on, prefix-with, prefix-past, opens-out, opens_in}

-- ---- closing a cube, from the last cube to the first

-- how many cubes a there are, and what they have in common, if there are any
abbrev pub Shares : ℕ → Option Cube → Cubes → Type 0
Shares n None a = (n ≡ 0) × (a ≡ [])
Shares n (Some m) a = (n ≡ length a) × (0 < length a) × (lits m ≡ common a)

pub narrowed-number : (n : ℕ) (o : Option Cube) (a : Cubes) → Shares n o a → n ≡ length a
narrowed-number n None a (z, e) = omega (arith, ap length e)
narrowed-number n (Some m) a h = h.0

-- one cube more
narrowed-more : (o : Option Cube) (d r : Cube) (n : ℕ) (a : Cubes) → Shares n o a → MatchOption o (lits r ≡ lits d) (λ x. lits r ≡ meet (lits d) (lits x))
    → Shares (n + 1) (Some r) (lits d ∷ a)
unfolding common
narrowed-more None d r n a (z, e) h = rw (z, e) (omega arith, omega arith, h)
narrowed-more (Some x) d r n [] (z, p, e) h = absurd (omega arith)
narrowed-more (Some x) d r n (y ∷ a) (z, p, e) h = (omega arith, omega arith, h ∙ ap (meet (lits d)) e)

pub closed_none : (f : Cubes) (c : List ℕ) (i : ℕ) → i ≡ length f → Shares 0 None (above (drop i f) c)
closed_none f c i e = let past : length f ≤ i = omega arith in rw (drop_of_length-le f past) (refl, refl)

module _ (f : Cubes) (c : List ℕ) (i n : ℕ) (o : Option Cube) (s : i < length f) (k : Shares n o (above (drop (i + 1) f) c)) (d : Cube) (e : lits d ≡ get_or f i []) where
  pub closed-more : sub c (lits d) ≡ true → (r : Cube) → MatchOption o (lits r ≡ lits d) (λ x. lits r ≡ meet (lits d) (lits x))
      → Shares (n + 1) (Some r) (above (drop i f) c)
  closed-more t r u = rw (drop-next f i [] s, ← e, t) (narrowed-more o d r n (above (drop (i + 1) f) c) k u)

  pub closed_same : sub c (lits d) ≡ false → Shares n o (above (drop i f) c)
  closed_same t = rw (drop-next f i [] s, ← e, t) k

pub closed_all : (f : Cubes) (c : List ℕ) (n : ℕ) (o : Option Cube) (x : Cube) → lits x ≡ [] → Shares n o (above f c) → Shared f c n (lits (unwrap_or o x))
unfolding common
closed_all f c n None x e (z, h) = record { number = rw h z; common = rw h e }
closed_all f c n (Some m) x e (z, p, h) = record { number = z; common = h }

-- ---- no literal below j that the other lacks

pub none-low : (j : ℕ) (x : List ℕ) → none ≡ first_from 0 x → true ≡ all (leb j) x
none-low j x e = sym (all-mem (leb j) x (λ l m. clash m (none_first 0 x (sym e) l zero-le)))

pub first-low : (j : ℕ) (x : List ℕ) (l : ℕ) → asc x ≡ true → some l ≡ first_from 0 x → leb j l ≡ all (leb j) x
first-low j x l a e = iff
    (λ h. all-mem (leb j) x (λ z m. elim (decided (ltb z l))
    [ inl t ↦ clash m (r.least z zero-le (ltb-true z l t)) | inr t ↦ omega (arith, leb-true j l h, ltb-false z l t, le-leb) ]))
    (λ h. mem-all (leb j) x l h r.is_in)
  where
    r : IsFirst 0 x l
    r = some_first 0 x l a (sym e)

-- ---- whether a branch is open

module _ (n : ℕ) (f : Cubes) (g : Held n f) (j : ℕ) (q : List ℕ) (a : asc q ≡ true) where
  abbrev m : List ℕ
  m = common (above f q)

  pub opens-test : (leb 2 (length (above f q)) && all (leb j) (without m q)) ≡ opens f j q
  opens-test = iff
      (λ h. let w = both (leb 2 (length (above f q))) (all (leb j) (without m q)) h in
      opens_in f j q (above-asc f n q g) a (leb-true _ _ w.0) (alike (leb-true _ _ w.0) w.1))
      (λ h. let w = opens-out f j q h in together _ _ (le-leb _ _ w.0)
      (all-mem (leb j) (without m q) (λ l i. from-j w.1 l (both (mem l m) (not (mem l q)) (sym (without-mem l m q) ∙ i)))))
    where
      alike : 2 ≤ length (above f q) → all (leb j) (without m q) ≡ true → SameBelow j m q
      alike two h l s = iff
          (λ i. elim (decided (mem l q)) [
            | inl t ↦ t
            | inr t ↦ absurd
                (omega (arith, leb-true j l (mem-all (leb j) (without m q) l h (without-mem l m q ∙ rw (i, t)))))
          ])
          (λ i. sub_out q m l (common-above f q (omega arith)) i)

      from-j : SameBelow j m q → (l : ℕ) → (mem l m ≡ true) × (not (mem l q) ≡ true) → leb j l ≡ true
      from-j k l (i, t) = elim (decided (ltb l j)) [
        | inl u ↦ clash (sym (k l (ltb-true l j u)) ∙ i) (not-true (mem l q) t)
        | inr u ↦ omega (arith, ltb-false l j u, le-leb)
      ]

pub cokernel-test : (f : Cubes) (q : List ℕ) → (leb 2 (length (above f q)) && same (common (above f q)) q) ≡ is_cokernel f q
unfolding is_cokernel
cokernel-test f q = refl

-- ---- the cube q with the literals of p and j

-- a literal that a cube has a place for is added
pub joined-inside : (j : ℕ) (p : List ℕ) → j < 2 * width → joined j p ≡ insert j p
joined-inside j p h = rw (lt-ltb j (2 * width) h)

module _ (n : ℕ) (f : Cubes) (g : Held n f) (p : List ℕ) (j : ℕ) (q : List ℕ) (e : q ≡ insert j p) (k : ℕ) (m : List ℕ) (c : Shared f q k m) where
  pub branch-found : asc q ≡ true → (o b : Bool) → o ≡ (leb 2 k && all (leb j) (without m q)) → b ≡ (leb 2 k && same m q) → Branched f p j q m o b
  branch-found a o b t u = record { cube = e; common = c.common; opened = t ∙ opening; closed = u ∙ closing }
    where
      opening : (leb 2 k && all (leb j) (without m q)) ≡ opens f j q
      opening = rw (c.number, c.common) (opens-test n f g j q a)

      closing : (leb 2 k && same m q) ≡ is_cokernel f q
      closing = rw (c.number, c.common) (cokernel-test f q)

-- ---- from one literal to the next

-- those with j as their next literal, q being the cube that has it
abbrev pub with_it : Cubes → ℕ → List ℕ → Bool → Bool → Cubes
with_it f j q o e = cond o (only e q ++ beyond (2 * width - (j + 1)) f q (j + 1)) []

module _ (f : Cubes) (p : List ℕ) (j : ℕ) where
  pub beyond-end : j ≡ 2 * width → beyond (2 * width - j) f p j ≡ []
  unfolding beyond
  beyond-end e = rw e

  -- first those with j, and then those without it
  pub beyond-next : j < 2 * width → (q m : List ℕ) (o e : Bool) → Branched f p j q m o e
      → beyond (2 * width - j) f p j ≡ with_it f j q o e ++ beyond (2 * width - (j + 1)) f p (j + 1)
  unfolding beyond
  beyond-next h q m o e b =
      let k : 2 * width - j ≡ suc (2 * width - (j + 1)) = omega arith in
      rw (k, b.closed, b.opened, b.cube, add-one j)

module _ (f : Cubes) (p m : List ℕ) (j : ℕ) (w : Walks f p m j) where
  module _ (a : asc p ≡ true) where
    walks-prefix : Prefix p j
    walks-prefix = record { rising = a; low = w.low }

    pub walks-with : (q r : List ℕ) (o e : Bool) → j < 2 * width → Branched f p j q r o e → Walks f q r (j + 1)
    walks-with q r o e h b = record {
      inside = omega arith;
      low = λ l i. omega (arith, (prefix-with p j walks-prefix).low l (subst (λ z. mem l z ≡ true) b.cube i));
      common = b.common;
    }

    -- where all cubes above p have j, so has each co-kernel beyond p
    pub beyond-last : (q r : List ℕ) (o e : Bool) → j < 2 * width → Branched f p j q r o e → mem j m ≡ true → beyond (2 * width - j) f p j ≡ with_it f j q o e
    beyond-last q r o e h b i = beyond-next f p j h q r o e b ∙ rw (none, append-nil)
      where
        none : beyond (2 * width - (j + 1)) f p (j + 1) ≡ []
        none = rw (add-one j) (beyond-none (2 * width - suc j) f p (suc j) j (prefix-on p j walks-prefix) (omega arith)
            (prefix-past p j walks-prefix j (omega arith))
            (subst (λ z. mem j z ≡ true) w.common i))

-- ---- counted, and put where there are places

-- nothing is to come, or all that is counted is
pub walked-still : (ws : List ℕ) (most i : ℕ) (g : Cubes) → i ≡ min most (i + length g) → Walked ws ws most i g i
walked-still ws most i g e = record { next = e; placed = λ h k. rw (nil-of g (omega arith)) (placed-none ws i) }

pub walked_then : {old mid new : List ℕ} {most i r s : ℕ} {g k : Cubes} → Walked old mid most i g r → Walked mid new most r k s
    → Walked old new most i (g ++ k) s
walked_then {mid = mid} {new} {i = i} {r} {g = g} {k} p q = record {
  next = omega (arith, length-append g k, p.next, q.next);
  placed = λ h t.
      let l = length-append g k in
      let first = p.placed (omega arith) (omega arith) in
      let e : r ≡ i + length g = omega (arith, p.next) in
      placed-then first (omega arith) (subst (λ n. Placed mid new n k) e
      (q.placed (omega arith) (omega (arith, placed-length first (omega arith)))));
}

-- one cube or none, before counting stops
pub walked-only : {old new : List ℕ} {i r : ℕ} (most : ℕ) (b : Bool) (c : List ℕ) → i < most → Walked old new (i + 1) i (only b c) r
    → Walked old new most i (only b c) r
walked-only {i = i} most b c h p = record { next = omega (arith, few b, p.next); placed = λ s t. p.placed (few b) t }
  where
    few : (b : Bool) → i + length (only b c) ≤ i + 1
    few true = omega arith
    few false = omega arith
