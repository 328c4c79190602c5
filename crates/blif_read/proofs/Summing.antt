-- Sums over the blocks of a model: what stands below the top, how many variables are defined, how many cubes there are. Assumes nothing.
use Prim.Native.Nat.{ℕ, zero, suc, ◌+◌, ◌-◌, ◌/◌, ◌≤◌, ◌<◌}
use mathlib.Core.Path.{◌≡◌, refl, sym, ap, ap₂, ◌∙◌}
use mathlib.Core.Logic.{inl, inr}
use mathlib.Core.Bool.{Bool, true, false, cond, ◌&&◌}
use mathlib.Core.List.Memᴰ.{head as here}
use mathlib.Core.List.Memᴰ.{tail as there}
use mathlib.Core.List.{List, [], ◌∷◌, map}
use native.Mathlib.Omega.{arith}
use lib.Dec.{eqb, leb, ltb}
use lib.ListN.{length, get_or}
use borrow.Author.Tests.{eq-eqb, eqb-true, eqb-false, lt-ltb, le-ltb, ltb-true, ltb-false, le-leb}
use Rattle.sets.specs.{Lists.all, Lists.keep, Lists.total, Lists.from, Sets.mem, Sets.reads_below, Literal.variable_of}
use Rattle.sets.proofs.Truth.{iff, decided, clash}
use Rattle.sets.proofs.Lists.{◌∈◌, all_in, all-out, keep_out, total-cong, total-sum, total-ones, total-append, total-map}
use Rattle.sets.proofs.Sets.{mem-of, of_mem, from_out}
use Rattle.sets.proofs.{Rows.from-length, Places.at_in}
use Rattle.blif_laws.specs.Text.{Name, variable, output, Block, Model}
use Rattle.network.{specs.Net.cube_count, proofs.Numbering.numbered-cubes, proofs.Handing.flat-length}
use Rattle.expression.{specs.Expression.reach, proofs.Sorting.sort-length}
use Rattle.blif_laws.specs.Meaning.{Formed, is_input, has_block, is_read}
use Rattle.blif_laws.proofs.{Modelling.from-below, Modelling.below-from}
use Rattle.blif_laws.proofs.Standing.{same-name, stands-iff, for-block, once-each}
use Rattle.blif_laws.specs.Reading.{cubes_for, net_in, standing, gapless, same_name, blocks_for, times_defined, defined_once, is_variable, divisors_in}
use Rattle.blif_lines.{specs.Lining.top_of, proofs.Lining.top_below, proofs.Windows.one_hit}

-- ---- the top

-- the top is reached
pub top_reached : (l : List ℕ) (v : ℕ) → v < top_of l → (w : ℕ) × (w ∈ l) × (v ≤ w)
top_reached [] v h = absurd (omega arith)
top_reached (x ∷ l) v h = elim (decided (ltb v (suc x))) [
  | inl t ↦ (x, here refl, omega (arith, ltb-true v (suc x) t))
  | inr t ↦ let r = top_reached l v (omega (arith, ltb-false v (suc x) t)) in (r.0, there r.1, r.2)
]

-- ---- what stands

-- no gap: every number below the top stands
pub gapless-top : (d : Model) → gapless d ≡ all (λ v. mem v (standing d)) (from 0 (top_of (standing d)))
unfolding gapless
gapless-top d = iff into back
  where
    l : List ℕ
    l = standing d

    into : all (λ v. all (λ u. mem u l) (from 0 v)) l ≡ true → all (λ v. mem v l) (from 0 (top_of l)) ≡ true
    into h = all_in (λ v. mem v l) (from 0 (top_of l)) (λ v m.
        let r = top_reached l v (from-below (top_of l) v m) in
        elim (decided (eqb v r.0)) [
          | inl t ↦ ap (λ x. mem x l) (eqb-true v r.0 t) ∙ mem-of r.1
          | inr t ↦
              let k : v < r.0 = omega (arith, eqb-false v r.0 t, r.2) in
              all-out (λ u. mem u l) (below-from r.0 v k) (all-out (λ w. all (λ u. mem u l) (from 0 w)) r.1 h)
        ])

    back : all (λ v. mem v l) (from 0 (top_of l)) ≡ true → all (λ v. all (λ u. mem u l) (from 0 v)) l ≡ true
    back h = all_in (λ v. all (λ u. mem u l) (from 0 v)) l (λ v m.
        all_in (λ u. mem u l) (from 0 v) (λ u k.
        all-out (λ w. mem w l) (below-from (top_of l) u (omega (arith, from-below v u k, top_below m))) h))

-- so each of them does
below-stands : (d : Model) → gapless d ≡ true → {v : ℕ} → v < top_of (standing d) → v ∈ standing d
below-stands d g {v} h = of_mem v (standing d) (all-out (λ w. mem w (standing d)) (below-from (top_of (standing d)) v h) (sym (gapless-top d) ∙ g))

-- what holds of every variable that stands holds of every number below the top, and back
pub stands-top : (d : Model) (p : ℕ → Bool) → gapless d ≡ true → all p (standing d) ≡ all p (from 0 (top_of (standing d)))
stands-top d p g = iff
    (λ h. all_in p (from 0 (top_of (standing d))) (λ v m. all-out p (below-stands d g (from-below (top_of (standing d)) v m)) h))
    (λ h. all_in p (standing d) (λ v m. all-out p (below-from (top_of (standing d)) v (top_below m)) h))

-- defined once, over the numbers below the top
pub once-top : (d : Model) → gapless d ≡ true
    → defined_once d ≡ (all (λ v. eqb (times_defined d (variable v)) 1) (from 0 (top_of (standing d)))
    && all (λ j. eqb (times_defined d (output j)) 1) (from 0 d.outputs))
unfolding defined_once
once-top d g = ap (◌&& all (λ j. eqb (times_defined d (output j)) 1) (from 0 d.outputs)) (stands-top d (λ v. eqb (times_defined d (variable v)) 1) g)

-- ---- each block is counted under one name

-- one of the numbers from k on is x, or none is
number-hit : (k m x c : ℕ) → total (λ j. cond (eqb j x) c 0) (from k m) ≡ cond (leb k x && ltb x (k + m)) c 0
number-hit k m x c =
    total-cong (λ j. cond (eqb j x) c 0) (λ j. cond (eqb x j) c 0) (from k m)
    (λ j i. ap (λ (b : Bool). cond b c 0) (iff (λ t. eq-eqb x j (sym (eqb-true j x t))) (λ t. eq-eqb j x (sym (eqb-true x j t)))))
    ∙ one_hit k m x c

-- the name is one of m outputs, or one of k variables from n on
pub data Listed (n k m : ℕ) : Name → Type 0 where
  is_output : {j : ℕ} → j < m → Listed n k m (output j)
  is_divisor : {v : ℕ} → n ≤ v → v < n + k → Listed n k m (variable v)

pub total-zero : {A : Type 0} (l : List A) → total (λ x. 0) l ≡ 0
total-zero [] = refl
total-zero (x ∷ l) = omega (arith, total-zero l)

-- one block is counted under its own name alone
one_name : (n k m c : ℕ) (a : Name) → Listed n k m a
    → total (λ j. cond (same_name (output j) a) c 0) (from 0 m) + total (λ v. cond (same_name (variable v) a) c 0) (from n k) ≡ c
one_name n k m c a (is_output {j} h) =
    rw (number-hit 0 m j c, total-zero (from n k), le-leb 0 j (omega arith), lt-ltb j (0 + m) (omega arith)) (omega arith)
one_name n k m c a (is_divisor {v} h i) =
    rw (number-hit n k v c, total-zero (from 0 m), le-leb n v h, lt-ltb v (n + k) i) (omega arith)

pub total-block : (g : Block → ℕ) (a : Name) (b : Block) (bs : List Block)
    → total g (blocks_for a (b ∷ bs)) ≡ cond (same_name a b.name) (g b) 0 + total g (blocks_for a bs)
total-block g a b bs = go (same_name a b.name)
  where
    go : (e : Bool) → total g (cond e (b ∷ blocks_for a bs) (blocks_for a bs)) ≡ cond e (g b) 0 + total g (blocks_for a bs)
    go true = refl
    go false = omega arith

-- a sum over all blocks is the sum over all names of the sums over their blocks
pub by_names : (n k m : ℕ) (g : Block → ℕ) (bs : List Block) → ((b : Block) → b ∈ bs → Listed n k m b.name)
    → total (λ j. total g (blocks_for (output j) bs)) (from 0 m) + total (λ v. total g (blocks_for (variable v) bs)) (from n k) ≡ total g bs
by_names n k m g [] h = ap₂ ◌+◌ (total-zero (from 0 m)) (total-zero (from n k))
by_names n k m g (b ∷ bs) h =
    let x = total-sum (λ j. total g (blocks_for (output j) (b ∷ bs))) (λ j. cond (same_name (output j) b.name) (g b) 0)
    (λ j. total g (blocks_for (output j) bs)) (from 0 m) (λ j i. total-block g (output j) b bs) in
    let y = total-sum (λ v. total g (blocks_for (variable v) (b ∷ bs))) (λ v. cond (same_name (variable v) b.name) (g b) 0)
    (λ v. total g (blocks_for (variable v) bs)) (from n k) (λ v i. total-block g (variable v) b bs) in
    let z = one_name n k m (g b) b.name (h b (here refl)) in
    let w = by_names n k m g bs (λ c i. h c (there i)) in
    omega (arith, x, y, z, w)

-- ---- a model in the form, without a gap, each name defined once

-- the block that defines a name, where there is one
pub one_block : (a : Name) (bs : List Block) → length (blocks_for a bs) ≡ 1 → (b : Block) × (b ∈ bs) × (b.name ≡ a)
one_block a bs h =
    let b = get_or (blocks_for a bs) 0 (record { name = a; cubes = [] }) in
    let r = keep_out (λ (c : Block). same_name a c.name) bs (at_in (blocks_for a bs) 0 (record { name = a; cubes = [] }) (omega arith)) in
    (b, r.0, same-name a b.name r.1)

-- a sum of ones over what passes the test
total-test : (p : Block → Bool) (bs : List Block) → total (λ b. cond (p b) 1 0) bs ≡ length (keep p bs)
total-test p [] = refl
total-test p (b ∷ bs) = go (p b) (total-test p bs)
  where
    go : (e : Bool) → total (λ b. cond (p b) 1 0) bs ≡ length (keep p bs)
        → cond e 1 0 + total (λ b. cond (p b) 1 0) bs ≡ length (cond e (b ∷ keep p bs) (keep p bs))
    go true h = omega arith
    go false h = omega arith

-- 1 for a block that defines a variable
abbrev ones : Block → ℕ
ones b = cond (is_variable b.name) 1 0

none-for : (j : ℕ) (bs : List Block) → total ones (blocks_for (output j) bs) ≡ 0
none-for j bs = total-cong ones (λ b. 0) (blocks_for (output j) bs) (λ b i. go b.name (keep_out (λ (c : Block). same_name (output j) c.name) bs i).1)
    ∙ total-zero (blocks_for (output j) bs)
  where
    go : (a : Name) → same_name (output j) a ≡ true → ◌≡◌ {A = ℕ} (cond (is_variable a) 1 0) 0
    go (variable v) e = clash e refl
    go (output k) e = refl

all-for : (v : ℕ) (bs : List Block) → total ones (blocks_for (variable v) bs) ≡ length (blocks_for (variable v) bs)
all-for v bs = total-cong ones (λ b. 1) (blocks_for (variable v) bs) (λ b i. go b.name (keep_out (λ (c : Block). same_name (variable v) c.name) bs i).1)
    ∙ total-ones (blocks_for (variable v) bs)
  where
    go : (a : Name) → same_name (variable v) a ≡ true → ◌≡◌ {A = ℕ} (cond (is_variable a) 1 0) 1
    go (variable u) e = refl
    go (output k) e = clash e refl

-- the cubes of a name are those of its blocks
pub cubes-for : (a : Name) (bs : List Block) → length (cubes_for a bs) ≡ total (λ (b : Block). length b.cubes) (blocks_for a bs)
unfolding cubes_for
cubes-for a bs = sort-length _ ∙ flat-length (map (λ (b : Block). b.cubes) (blocks_for a bs)) ∙ total-map length (λ (b : Block). b.cubes) (blocks_for a bs)

module _ (d : Model) (f : Formed d) (g : gapless d ≡ true) (o : defined_once d ≡ true) where
  abbrev top : ℕ
  top = top_of (standing d)

  -- each variable below the top is defined once
  variable-once : (v : ℕ) → v < top → times_defined d (variable v) ≡ 1
  variable-once v h = once-each d o ((stands-iff d v).0 (below-stands d g h))

  -- the inputs are below the top
  pub inputs-top : d.inputs ≤ top
  inputs-top = go d.inputs refl
    where
      go : (n : ℕ) → d.inputs ≡ n → n ≤ top
      go zero e = omega arith
      go (suc n) e = omega (arith, top_below ((stands-iff d n).1 (is_input (omega arith))))

  -- what a block defines is an output, or a variable from the inputs on and below the top
  pub block_listed : (b : Block) → b ∈ d.blocks → Listed d.inputs (top - d.inputs) d.outputs b.name
  unfolding times_defined
  block_listed b i = go b.name refl
    where
      go : (a : Name) → b.name ≡ a → Listed d.inputs (top - d.inputs) d.outputs a
      go (output j) e = is_output ((f b i).among j e)
      go (variable v) e =
          let below = top_below ((stands-iff d v).1 (has_block i e)) in
          let once = variable-once v below in
          let some = for-block {a = variable v} i e in
          elim (decided (ltb v d.inputs)) [
            | inl t ↦ absurd (omega (arith, rw t at once, some))
            | inr t ↦ is_divisor (ltb-false v d.inputs t) (omega (arith, inputs-top, below))
          ]

  -- a variable from the inputs on has one block
  variable-block : (v : ℕ) → d.inputs ≤ v → v < top → length (blocks_for (variable v) d.blocks) ≡ 1
  unfolding times_defined
  variable-block v h i = let once = variable-once v i in omega (arith, rw (le-ltb v d.inputs h) at once)

  -- as many divisors as there are variables past the inputs
  pub divisors-top : divisors_in d ≡ top - d.inputs
  divisors-top =
      sym (total-test (λ b. is_variable b.name) d.blocks)
      ∙ sym (by_names d.inputs (top - d.inputs) d.outputs ones d.blocks block_listed)
      ∙ ap₂ ◌+◌ (total-cong _ (λ j. 0) (from 0 d.outputs) (λ j i. none-for j d.blocks) ∙ total-zero (from 0 d.outputs))
      (total-cong _ (λ v. 1) (from d.inputs (top - d.inputs)) each ∙ total-ones (from d.inputs (top - d.inputs)) ∙ from-length _ _)
      ∙ omega arith
    where
      each : (v : ℕ) → v ∈ from d.inputs (top - d.inputs) → total ones (blocks_for (variable v) d.blocks) ≡ 1
      each v i =
          let r = from_out d.inputs (top - d.inputs) v (mem-of i) in
          all-for v d.blocks ∙ variable-block v r.0 (omega (arith, inputs-top, r.1))

  -- the network read off has as many cubes as the blocks have rows
  pub cubes-sum : cube_count (net_in d) ≡ total (λ (b : Block). length b.cubes) d.blocks
  unfolding net_in
  cubes-sum =
      total-append length (map (λ j. cubes_for (output j) d.blocks) (from 0 d.outputs)) _
      ∙ ap₂ ◌+◌ (total-map length (λ j. cubes_for (output j) d.blocks) (from 0 d.outputs)
      ∙ total-cong _ _ (from 0 d.outputs) (λ j i. cubes-for (output j) d.blocks))
      (ap (total length) (numbered-cubes d.inputs (map (λ v. cubes_for (variable v) d.blocks) (from d.inputs (divisors_in d))))
      ∙ total-map length (λ v. cubes_for (variable v) d.blocks) (from d.inputs (divisors_in d))
      ∙ total-cong _ _ (from d.inputs (divisors_in d)) (λ v i. cubes-for (variable v) d.blocks)
      ∙ ap (λ k. total (λ v. total (λ (b : Block). length b.cubes) (blocks_for (variable v) d.blocks)) (from d.inputs k)) divisors-top)
      ∙ by_names d.inputs (top - d.inputs) d.outputs (λ b. length b.cubes) d.blocks block_listed

  -- every block reads variables below the top
  pub reads-top : (b : Block) → b ∈ d.blocks → reach top b.cubes ≡ true
  reads-top b i = all_in (reads_below top) b.cubes (λ c j. all_in (λ l. ltb (variable_of l) top) c (λ l k.
      lt-ltb (l / 2) top (top_below ((stands-iff d (l / 2)).1 (is_read i (c, j, (l, k, refl)))))))

  -- each variable from the inputs on, below the top, has its block
  pub divisor-there : (v : ℕ) → d.inputs ≤ v → v < top → (b : Block) × (b ∈ d.blocks) × (b.name ≡ variable v)
  divisor-there v h i = one_block (variable v) d.blocks (variable-block v h i)
