-- New numbers, literals, cubes and nodes for n inputs and listed divisors: one-to-one on known variables, so that cubes keep their size and
-- what they contain. Assumes nothing.
use Prim.Native.Nat.{ℕ, zero, suc, ◌+◌, ◌-◌, ◌/◌, ◌%◌, ◌<◌, ◌≤◌}
use mathlib.Core.Path.{◌≡◌, refl, sym, ap, ap₂, ◌∙◌, subst}
use mathlib.Core.Logic.{◌⊎◌, inl, inr}
use mathlib.Core.Bool.{Bool, true, false, cond, ◌&&◌, ◌||◌, or-false}
use mathlib.Core.List.Memᴰ
use mathlib.Core.List.Memᴰ.{head as here}
use mathlib.Core.List.Memᴰ.{tail as there}
use mathlib.Core.List.{List, [], ◌∷◌, ◌++◌, map, append-nil}
use native.Mathlib.Omega.{arith}
use lib.Dec.{eqb, ltb}
use lib.ListN.{length, get_or, length-map}
use borrow.Author.Tests.{eqb-true, eq-eqb, ne_eqb, ltb-true, ltb-false, lt-ltb, le-ltb}
use Rattle.sets.specs.Lists.{any, all, pairwise, from}
use Rattle.sets.specs.Literal.{opposite_of}
use Rattle.sets.specs.Sets.{mem, sub, asc, proper, insert, union}
use Rattle.sets.proofs.Truth.{iff, both, together, neither, decided, clash}
use Rattle.sets.proofs.Lists.{◌∈◌, all_in, all-out, map-in, map-out, map-fixed, total-map, total-const, pairwise_map, ahead}
use Rattle.sets.proofs.Sets.{mem-of, of_mem, insert_all, insert-length, union-mem, union-asc, sub_in, sub_out, proper-in, proper-out, head-once, ext}
use Rattle.expression.specs.Expression.{is_cube, loose, expression, sort, ordered, literals_of}
use Rattle.expression.specs.Value.{lit, value}
use Rattle.expression.proofs.Sorting.{sort-out, any-sort, total-sort, sort-length, ordered-sort, expression-sort}
use Rattle.network.specs.Meaning.{Reads}
use Rattle.image_laws.specs.Renumber.{index_of, new_number, new_literal, new_cube, new_node}

-- literals as a set are the literals
pub set-mem : (z : ℕ) (c : List ℕ) → mem z (union c []) ≡ mem z c
unfolding mem
set-mem z c = union-mem z c [] ∙ or-false (mem z c)

-- ---- the place of a number in a list

past_head : {v u : ℕ} {a : List ℕ} → eqb v u ≡ false → v ∈ (u ∷ a) → v ∈ a
past_head {v} {u} e m = elim (Memᴰ.cases_cons m) [ inl q ↦ clash (eq-eqb v u q) e | inr i ↦ i ]

pub index-before : (v : ℕ) (a b : List ℕ) → v ∈ a → index_of v (a ++ b) < length a
unfolding index_of
index-before v [] b m = absurd (Memᴰ.not-nil m)
index-before v (u ∷ a) b m = elim (decided (eqb v u)) [ inl e ↦ rw e (omega arith) | inr e ↦ rw e (omega (arith, index-before v a b (past_head e m))) ]

pub index-lt : (v : ℕ) (l : List ℕ) → v ∈ l → index_of v l < length l
index-lt v l m = subst (λ z. index_of v z < length l) (append-nil l) (index-before v l [] m)

-- it stands there
pub index_at : (v : ℕ) (l : List ℕ) → v ∈ l → get_or l (index_of v l) 0 ≡ v
unfolding index_of
index_at v [] m = absurd (Memᴰ.not-nil m)
index_at v (u ∷ l) m = elim (decided (eqb v u)) [ inl e ↦ rw e (sym (eqb-true v u e)) | inr e ↦ rw e (index_at v l (past_head e m)) ]

-- and first there
pub index-new : (v : ℕ) (a b : List ℕ) → mem v a ≡ false → index_of v (a ++ (v ∷ b)) ≡ length a
unfolding index_of mem
index-new v [] b h = rw (eq-eqb v v refl)
index-new v (u ∷ a) b h = let q = neither (eqb v u) (mem v a) h in rw q.0 (ap suc (index-new v a b q.1))

-- numbers in turn stand where they should
pub index-from : (k m i : ℕ) → i < m → index_of (k + i) (from k m) ≡ i
unfolding index_of from
index-from k zero i h = absurd (omega arith)
index-from k (suc m) zero h = rw (eq-eqb (k + 0) k (omega arith))
index-from k (suc m) (suc i) h =
    let e : k + suc i ≡ suc k + i = omega arith in
    rw (ne_eqb (k + suc i) k (λ p. omega arith)) (ap (λ z. suc (index_of z (from (suc k) m))) e ∙ ap suc (index-from (suc k) m i (omega arith)))

module _ (n : ℕ) (l : List ℕ) where
  -- ---- variables

  -- v is one of n inputs or listed
  abbrev pub Named : ℕ → Type 0
  Named v = (v < n) ⊎ (v ∈ l)

  -- inputs keep their numbers
  pub new-input : (v : ℕ) → v < n → new_number n l v ≡ v
  unfolding new_number
  new-input v h = rw (lt-ltb v n h)

  pub new-listed : (v : ℕ) → n ≤ v → new_number n l v ≡ n + index_of v l
  unfolding new_number
  new-listed v h = rw (le-ltb v n h)

  -- the number that took the number w
  abbrev pub old_number : ℕ → ℕ
  old_number w = cond (ltb w n) w (get_or l (w - n) 0)

  pub old-new : (v : ℕ) → Named v → old_number (new_number n l v) ≡ v
  old-new v k = elim (decided (ltb v n)) [
    | inl t ↦ rw (new-input v (ltb-true v n t), t)
    | inr t ↦ rw (new-listed v (ltb-false v n t)) (other (ltb-false v n t) k)
  ]
    where
      other : n ≤ v → Named v → old_number (n + index_of v l) ≡ v
      other h (inl q) = absurd (omega arith)
      other h (inr i) = let e : n + index_of v l - n ≡ index_of v l = omega arith in rw (le-ltb (n + index_of v l) n (omega arith), e) (index_at v l i)

  -- no two take the same number
  pub new-injective : (u v : ℕ) → Named u → Named v → new_number n l u ≡ new_number n l v → u ≡ v
  new-injective u v i j e = sym (old-new u i) ∙ ap old_number e ∙ old-new v j

  -- nor one past those in use
  pub new-below : (v : ℕ) → Named v → new_number n l v < n + length l
  new-below v k = elim (decided (ltb v n)) [
    | inl t ↦ let h = ltb-true v n t in omega (arith, new-input v h)
    | inr t ↦ let h = ltb-false v n t in elim k [ inl q ↦ absurd (omega arith) | inr i ↦ omega (arith, new-listed v h, index-lt v l i) ]
  ]

  -- ---- literals

  new-variable : (x : ℕ) → new_literal n l x / 2 ≡ new_number n l (x / 2)
  unfolding new_literal
  new-variable x = omega arith

  new-polarity : (x : ℕ) → new_literal n l x % 2 ≡ x % 2
  unfolding new_literal
  new-polarity x = omega arith

  new-opposite : (x : ℕ) → new_literal n l (opposite_of x) ≡ opposite_of (new_literal n l x)
  unfolding new_literal
  new-opposite x = let e : opposite_of x / 2 ≡ x / 2 = omega arith in rw e (omega arith)

  new-literal-injective : (x y : ℕ) → Named (x / 2) → Named (y / 2) → new_literal n l x ≡ new_literal n l y → x ≡ y
  new-literal-injective x y i j e =
      let v : x / 2 ≡ y / 2 = new-injective (x / 2) (y / 2) i j (sym (new-variable x) ∙ ap (◌/ 2) e ∙ new-variable y) in
      let p : x % 2 ≡ y % 2 = sym (new-polarity x) ∙ ap (◌% 2) e ∙ new-polarity y in
      omega arith

  -- ---- cubes

  -- every literal is of a known variable
  abbrev pub AllNamed : List ℕ → Type 0
  AllNamed c = (x : ℕ) → x ∈ c → Named (x / 2)

  abbrev fresh : ℕ → ℕ
  fresh x = new_literal n l x

  new-cube-set : (c : List ℕ) → new_cube n l c ≡ union (map fresh c) []
  unfolding new_cube union
  new-cube-set [] = refl
  new-cube-set (x ∷ c) = ap (insert (fresh x)) (new-cube-set c)

  new-cube-has : (z : ℕ) (c : List ℕ) → mem z (new_cube n l c) ≡ mem z (map fresh c)
  new-cube-has z c = ap (mem z) (new-cube-set c) ∙ set-mem z (map fresh c)

  new-cube-in : {x : ℕ} {c : List ℕ} → x ∈ c → fresh x ∈ new_cube n l c
  new-cube-in {x} {c} m = of_mem (fresh x) (new_cube n l c) (new-cube-has (fresh x) c ∙ mem-of (map-in fresh m))

  new-cube-out : (c : List ℕ) {z : ℕ} → z ∈ new_cube n l c → (x : ℕ) × (x ∈ c) × (z ≡ fresh x)
  new-cube-out c {z} m = map-out fresh c (of_mem z (map fresh c) (sym (new-cube-has z c) ∙ mem-of m))

  -- a literal is in a cube exactly when the new one is in the new one
  new-cube-mem : (c : List ℕ) (x : ℕ) → AllNamed c → Named (x / 2) → mem (fresh x) (new_cube n l c) ≡ mem x c
  new-cube-mem c x o k = iff
      (λ h. let r = new-cube-out c (of_mem (fresh x) (new_cube n l c) h) in
      mem-of (Memᴰ.cast (new-literal-injective x r.0 k (o r.0 r.1) r.2) r.1))
      (λ h. mem-of (new-cube-in (of_mem x c h)))

  new-cube-asc : (c : List ℕ) → asc (new_cube n l c) ≡ true
  new-cube-asc c = rw (new-cube-set c) (union-asc (map fresh c) [] refl)

  new-cube-length : (c : List ℕ) → asc c ≡ true → AllNamed c → length (new_cube n l c) ≡ length c
  unfolding new_cube
  new-cube-length [] h o = refl
  new-cube-length (x ∷ c) h o =
      insert-length (fresh x) (new_cube n l c) (new-cube-mem c x (λ y m. o y (there m)) (o x (here refl)) ∙ head-once x c h)
      ∙ ap suc (new-cube-length c (ahead ltb x c h).1 (λ y m. o y (there m)))

  -- no variable both ways
  new-cube-proper : (c : List ℕ) → AllNamed c → proper c ≡ true → proper (new_cube n l c) ≡ true
  new-cube-proper c o h = proper-in (new_cube n l c) (λ z m.
      let r = new-cube-out c (of_mem z (new_cube n l c) m) in
      let e : opposite_of r.0 / 2 ≡ r.0 / 2 = omega arith in
      rw (r.2, ← (new-opposite r.0))
      (new-cube-mem c (opposite_of r.0) o (subst Named (sym e) (o r.0 r.1)) ∙ proper-out c r.0 h (mem-of r.1)))

  -- one contains another exactly when it did
  new-cube-sub : (c d : List ℕ) → AllNamed c → AllNamed d → sub c d ≡ sub (new_cube n l c) (new_cube n l d)
  new-cube-sub c d o k = iff
      (λ h. sub_in (new_cube n l c) (new_cube n l d) (λ z m. let r = new-cube-out c (of_mem z (new_cube n l c) m) in
      rw r.2 (mem-of (new-cube-in (of_mem r.0 d (sub_out c d r.0 h (mem-of r.1)))))))
      (λ h. sub_in c d (λ z m. let i = of_mem z c m in
      sym (new-cube-mem d z k (o z i)) ∙ sub_out (new_cube n l c) (new_cube n l d) (new_literal n l z) h (mem-of (new-cube-in i))))

  -- ---- nodes

  -- every variable read is known
  abbrev pub Reaches : List (List ℕ) → Type 0
  Reaches f = (v : ℕ) → Reads f v → Named v

  reaches-over : {c : List ℕ} (f : List (List ℕ)) → Reaches f → c ∈ f → AllNamed c
  reaches-over {c} f k m x i = k (x / 2) (c, m, (x, i, refl))

  -- what a new node reads
  pub new-node-reads : (f : List (List ℕ)) (v : ℕ) → Reads (new_node n l f) v → (u : ℕ) × Reads f u × (v ≡ new_number n l u)
  unfolding new_node
  new-node-reads f v (d, m, (z, i, e)) =
      let r = map-out (new_cube n l) f (sort-out (map (new_cube n l) f) m) in
      let q = new-cube-out r.0 (subst (z ∈◌) r.2 i) in
      (q.0 / 2, (r.0, r.1, (q.0, q.1, refl)), e ∙ ap (◌/ 2) q.2 ∙ new-variable q.0)

  pub new-node-length : (f : List (List ℕ)) → length (new_node n l f) ≡ length f
  unfolding new_node
  new-node-length f = sort-length (map (new_cube n l) f) ∙ length-map f (new_cube n l)

  module _ (f : List (List ℕ)) (k : Reaches f) where
    module _ (h : expression f ≡ true) where
      cube-of : {c : List ℕ} → c ∈ f → (asc c ≡ true) × (proper c ≡ true)
      cube-of {c} m = both (asc c) (proper c) (all-out is_cube m (both (all is_cube f) (pairwise loose f) h).0)

      pub new-node-literals : literals_of (new_node n l f) ≡ literals_of f
      unfolding new_node
      new-node-literals =
          total-sort length (map (new_cube n l) f)
          ∙ total-map length (new_cube n l) f
          ∙ omega (arith, total-const (λ c. length (new_cube n l c)) length 0 f (λ c m. omega (arith, new-cube-length c (cube-of m).0 (reaches-over f k m))))

      -- a new node has an expression, in cube order
      pub new-node-expression : (expression (new_node n l f) ≡ true) × (ordered (new_node n l f) ≡ true)
      unfolding new_node loose
      new-node-expression = expression-sort (map (new_cube n l) f) (together _ _
          (all_in is_cube (map (new_cube n l) f) (λ d m. let r = map-out (new_cube n l) f m in
          rw r.2 (together _ _ (new-cube-asc r.0) (new-cube-proper r.0 (reaches-over f k r.1) (cube-of r.1).1))))
          (pairwise_map loose loose (new_cube n l) f (λ c d i j t. let a = reaches-over f k i in let b = reaches-over f k j in
          rw (← (new-cube-sub c d a b), ← (new-cube-sub d c b a)) t) (both (all is_cube f) (pairwise loose f) h).1))

    -- where new variables have the values of the old ones, so do nodes
    module _ (a b : ℕ → Bool) (e : (v : ℕ) → Named v → b (new_number n l v) ≡ a v) where
      new-lit : (x : ℕ) → Named (x / 2) → lit b (new_literal n l x) ≡ lit a x
      unfolding lit
      new-lit x i = rw (new-polarity x, new-variable x, e (x / 2) i)

      new-cube-value : (c : List ℕ) → AllNamed c → all (lit b) (new_cube n l c) ≡ all (lit a) c
      unfolding new_cube
      new-cube-value [] o = refl
      new-cube-value (x ∷ c) o =
          insert_all (lit b) (new_literal n l x) (new_cube n l c) ∙ ap₂ ◌&&◌ (new-lit x (o x (here refl))) (new-cube-value c (λ y m. o y (there m)))

      pub new-node-value : value (lit b) (new_node n l f) ≡ value (lit a) f
      unfolding new_node
      new-node-value = any-sort (all (lit b)) (map (new_cube n l) f) ∙ any-map f (λ c m. new-cube-value c (reaches-over f k m))
        where
          any-map : (g : List (List ℕ)) → ((c : List ℕ) → c ∈ g → all (lit b) (new_cube n l c) ≡ all (lit a) c)
              → any (all (lit b)) (map (new_cube n l) g) ≡ any (all (lit a)) g
          any-map [] q = refl
          any-map (c ∷ g) q = ap₂ ◌||◌ (q c (here refl)) (any-map g (λ d m. q d (there m)))

  -- ---- where every number stays

  module _ (e : (v : ℕ) → Named v → new_number n l v ≡ v) where
    new-literal-same : (x : ℕ) → Named (x / 2) → new_literal n l x ≡ x
    unfolding new_literal
    new-literal-same x i = omega (arith, e (x / 2) i)

    new-cube-same : (c : List ℕ) → asc c ≡ true → AllNamed c → new_cube n l c ≡ c
    new-cube-same c h o = ext (new_cube n l c) c (new-cube-asc c) h (λ z. iff
        (λ m. let r = new-cube-out c (of_mem z (new_cube n l c) m) in mem-of (Memᴰ.cast (r.2 ∙ new-literal-same r.0 (o r.0 r.1)) r.1))
        (λ m. let i = of_mem z c m in mem-of (Memᴰ.cast (sym (new-literal-same z (o z i))) (new-cube-in i))))

    -- a node in cube order stays
    pub new-node-same : (f : List (List ℕ)) → Reaches f → expression f ≡ true → ordered f ≡ true → new_node n l f ≡ f
    unfolding new_node
    new-node-same f k h o = ap sort (map-fixed (new_cube n l) f (λ c m. new-cube-same c (cube-of f k h m).0 (reaches-over f k m))) ∙ ordered-sort f o
