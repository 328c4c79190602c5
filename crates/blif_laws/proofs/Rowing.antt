-- Signs of a cube over ascending variables are read as that cube, and those of a row are its cube's, variable by variable. Assumes nothing.
use Prim.Native.Nat.{ℕ, suc, ◌/◌, ◌%◌}
use mathlib.Core.Path.{◌≡◌, refl, sym, ap, ap₂, ◌∙◌, subst}
use mathlib.Core.Logic.{◌⊎◌, inl, inr}
use mathlib.Core.Bool.{Bool, true, false, cond, not, ◌&&◌, ◌||◌}
use mathlib.Core.List.Memᴰ
use mathlib.Core.List.Memᴰ.{head as here}
use mathlib.Core.List.Memᴰ.{tail as there}
use mathlib.Core.List.{List, [], ◌∷◌, ◌++◌, map}
use native.Mathlib.Omega.{arith}
use lib.Dec.{eqb, ltb}
use lib.ListN.{length, length-map}
use borrow.Author.Tests.{eqb-true, eqb-false, eq-eqb, ne_eqb}
use Rattle.sets.specs.Lists.{all, pairwise}
use Rattle.sets.specs.Literal.{plain_of, negated_of, variable_of, opposite_of}
use Rattle.sets.specs.Sets.{mem, same, asc, proper}
use Rattle.sets.proofs.Truth.{iff, both, together, decided, clash, refuted}
use Rattle.sets.proofs.Lists.{◌∈◌, all_in, all-out, map-out, map-cong}
use Rattle.sets.proofs.Sets.{mem-of, of_mem, mem-head, head-once, tail-asc, ext, same-eq, same_self, proper-out}
use Rattle.letters_products.specs.Spelled.{spelled}
use Rattle.table_rows.specs.Lines.{is_place}
use Rattle.table_rows.proofs.Covering.{climbs, climbs-asc, climbs-proper}
use Rattle.expression.specs.Expression.{is_cube}
use Rattle.blif_laws.specs.Text.{spaced, sign_of, row_words}
use Rattle.blif_laws.specs.Reading.{words_in, pointed, is_row, cube_in}
use Rattle.blif_laws.specs.Meaning.{is_clear}
use Rattle.blif_laws.proofs.Cutting.{words-spaced, spaced-words, clear-words}

-- ---- the literals that are read

-- as many signs as there are variables are read
cube-front : (vs w t : List ℕ) → length vs ≡ length w → cube_in vs (w ++ t) ≡ cube_in vs w
unfolding cube_in
cube-front [] w t h = refl
cube-front (v ∷ vs) [] t h = absurd (omega arith)
cube-front (v ∷ vs) (b ∷ w) t h =
    ap (λ (k : List ℕ). cond (eqb b 49) (plain_of v ∷ k) (cond (eqb b 48) (negated_of v ∷ k) k)) (cube-front vs w t (omega arith))

-- each is of one of the variables
pub cube-over : (vs w : List ℕ) {l : ℕ} → l ∈ cube_in vs w → variable_of l ∈ vs
unfolding cube_in
cube-over [] w m = absurd (Memᴰ.not-nil m)
cube-over (v ∷ vs) [] m = absurd (Memᴰ.not-nil m)
cube-over (v ∷ vs) (b ∷ w) {l} m = go (eqb b 49) (eqb b 48) (λ k. there (cube-over vs w k)) m
  where
    go : (x y : Bool) → (l ∈ cube_in vs w → variable_of l ∈ (v ∷ vs))
        → l ∈ cond x (plain_of v ∷ cube_in vs w) (cond y (negated_of v ∷ cube_in vs w) (cube_in vs w)) → variable_of l ∈ (v ∷ vs)
    go true y f k = elim (Memᴰ.cases_cons k) [ inl e ↦ let q : l / 2 ≡ v = omega arith in here q | inr i ↦ f i ]
    go false true f k = elim (Memᴰ.cases_cons k) [ inl e ↦ let q : l / 2 ≡ v = omega arith in here q | inr i ↦ f i ]
    go false false f k = f k

cube-climbs : (vs w : List ℕ) → asc vs ≡ true → pairwise climbs (cube_in vs w) ≡ true
unfolding cube_in
cube-climbs [] w h = refl
cube-climbs (v ∷ vs) [] h = refl
cube-climbs (v ∷ vs) (b ∷ w) h = go (eqb b 49) (eqb b 48) (cube-climbs vs w (tail-asc v vs h))
  where
    first : (l : ℕ) → l / 2 ≡ v → all (climbs l) (cube_in vs w) ≡ true
    first l e = all_in (climbs l) (cube_in vs w) (λ y m.
        rw e (all-out (ltb v) (cube-over vs w m) (both (all (ltb v) vs) (asc vs) h).0))

    go : (x y : Bool) → pairwise climbs (cube_in vs w) ≡ true
        → pairwise climbs (cond x (plain_of v ∷ cube_in vs w) (cond y (negated_of v ∷ cube_in vs w) (cube_in vs w))) ≡ true
    go true y k = together (all (climbs (plain_of v)) (cube_in vs w)) _ (first (plain_of v) (omega arith)) k
    go false true k = together (all (climbs (negated_of v)) (cube_in vs w)) _ (first (negated_of v) (omega arith)) k
    go false false k = k

-- literals whose variables ascend are a cube
climbs-cube : (c : List ℕ) → pairwise climbs c ≡ true → is_cube c ≡ true
climbs-cube c h = together (asc c) (proper c) (climbs-asc c h) (climbs-proper c h)

-- what is read over ascending variables is a cube
pub cube-read : (vs w : List ℕ) → asc vs ≡ true → is_cube (cube_in vs w) ≡ true
cube-read vs w h = climbs-cube (cube_in vs w) (cube-climbs vs w h)

-- ---- from signs to literals and back

sign-other : (l u : ℕ) (c : List ℕ) → (l / 2 ≡ u → ⊥) → sign_of (l ∷ c) u ≡ sign_of c u
unfolding sign_of mem
sign-other l u c h = rw (ne_eqb (plain_of u) l (λ e. h (omega arith)), ne_eqb (negated_of u) l (λ e. h (omega arith)))

-- the signs of a variable that none of the rest is
module _ (v : ℕ) (vs w : List ℕ) (once : mem v vs ≡ false) where
  not_there : (l : ℕ) → l / 2 ≡ v → mem l (cube_in vs w) ≡ false
  not_there l e = refuted (λ k. clash (subst (λ x. mem x vs ≡ true) e (mem-of (cube-over vs w (of_mem l (cube_in vs w) k)))) once)

  sign-plain : sign_of (plain_of v ∷ cube_in vs w) v ≡ 49
  unfolding sign_of
  sign-plain = rw (mem-head (plain_of v) (cube_in vs w))

  sign-negated : sign_of (negated_of v ∷ cube_in vs w) v ≡ 48
  unfolding sign_of mem
  sign-negated = rw (ne_eqb (plain_of v) (negated_of v) (λ e. omega arith), not_there (plain_of v) (omega arith), eq-eqb (negated_of v) (negated_of v) refl)

  sign-none : sign_of (cube_in vs w) v ≡ 45
  unfolding sign_of
  sign-none = rw (not_there (plain_of v) (omega arith), not_there (negated_of v) (omega arith))

  signs-rest : (l : ℕ) → l / 2 ≡ v → map (sign_of (l ∷ cube_in vs w)) vs ≡ map (sign_of (cube_in vs w)) vs
  signs-rest l e = map-cong _ _ vs (λ u m. sign-other l u (cube_in vs w) (λ i. clash (mem-of m) (subst (λ x. mem x vs ≡ false) (sym e ∙ i) once)))

-- the signs of what is read are those of the row
pub signs-back : (vs w : List ℕ) → asc vs ≡ true → length vs ≡ length w → all is_place w ≡ true → map (sign_of (cube_in vs w)) vs ≡ w
unfolding cube_in
signs-back [] [] h n p = refl
signs-back [] (b ∷ w) h n p = absurd (omega arith)
signs-back (v ∷ vs) [] h n p = absurd (omega arith)
signs-back (v ∷ vs) (b ∷ w) h n p =
    let r = both (is_place b) (all is_place w) p in
    go (eqb b 48) refl (eqb b 49) refl (eqb b 45) refl r.0 (head-once v vs h) (signs-back vs w (tail-asc v vs h) (omega arith) r.1)
  where
    go : (y : Bool) → eqb b 48 ≡ y → (x : Bool) → eqb b 49 ≡ x → (z : Bool) → eqb b 45 ≡ z → (y || (x || z)) ≡ true → mem v vs ≡ false
        → map (sign_of (cube_in vs w)) vs ≡ w
        → map (sign_of (cond x (plain_of v ∷ cube_in vs w) (cond y (negated_of v ∷ cube_in vs w) (cube_in vs w)))) (v ∷ vs) ≡ b ∷ w
    go y e true f z g k o q = ap₂ ◌∷◌ (sign-plain v vs w o ∙ sym (eqb-true b 49 f)) (signs-rest v vs w o (plain_of v) (omega arith) ∙ q)
    go true e false f z g k o q = ap₂ ◌∷◌ (sign-negated v vs w o ∙ sym (eqb-true b 48 e)) (signs-rest v vs w o (negated_of v) (omega arith) ∙ q)
    go false e false f true g k o q = ap₂ ◌∷◌ (sign-none v vs w o ∙ sym (eqb-true b 45 g)) q
    go false e false f false g k o q = clash k refl

-- the literals that the signs of a cube are read as
sign_read : (x y : Bool) (p q k : List ℕ) → cond (eqb (cond x 49 (cond y 48 45)) 49) p (cond (eqb (cond x 49 (cond y 48 45)) 48) q k) ≡ cond x p (cond y q k)
sign_read true y p q k = refl
sign_read false true p q k = refl
sign_read false false p q k = refl

module _ (c : List ℕ) where
  abbrev signed : List ℕ → List ℕ
  signed vs = cube_in vs (map (sign_of c) vs)

  signed-more : (v : ℕ) (vs : List ℕ)
      → signed (v ∷ vs) ≡ cond (mem (plain_of v) c) (plain_of v ∷ signed vs) (cond (mem (negated_of v) c) (negated_of v ∷ signed vs) (signed vs))
  unfolding cube_in sign_of
  signed-more v vs = sign_read (mem (plain_of v) c) (mem (negated_of v) c) (plain_of v ∷ signed vs) (negated_of v ∷ signed vs) (signed vs)

  signed-out : (vs : List ℕ) {z : ℕ} → z ∈ signed vs → mem z c ≡ true
  unfolding cube_in
  signed-out [] m = absurd (Memᴰ.not-nil m)
  signed-out (v ∷ vs) {z} m = go (mem (plain_of v) c) refl (mem (negated_of v) c) refl (λ k. signed-out vs k) (subst (z ∈◌) (signed-more v vs) m)
    where
      go : (x : Bool) → mem (plain_of v) c ≡ x → (y : Bool) → mem (negated_of v) c ≡ y → (z ∈ signed vs → mem z c ≡ true)
          → z ∈ cond x (plain_of v ∷ signed vs) (cond y (negated_of v ∷ signed vs) (signed vs)) → mem z c ≡ true
      go true e y f i k = elim (Memᴰ.cases_cons k) [ inl q ↦ rw q e | inr j ↦ i j ]
      go false e true f i k = elim (Memᴰ.cases_cons k) [ inl q ↦ rw q f | inr j ↦ i j ]
      go false e false f i k = i k

  signed-in : proper c ≡ true → (vs : List ℕ) (z : ℕ) → mem z c ≡ true → variable_of z ∈ vs → z ∈ signed vs
  unfolding cube_in
  signed-in p [] z h m = absurd (Memᴰ.not-nil m)
  signed-in p (v ∷ vs) z h m =
      subst (z ∈◌) (sym (signed-more v vs))
      (go (mem (plain_of v) c) refl (mem (negated_of v) c) refl (Memᴰ.cases_cons m) (λ i. signed-in p vs z h i) (decided (eqb (z % 2) 0)))
    where
      go : (x : Bool) → mem (plain_of v) c ≡ x → (y : Bool) → mem (negated_of v) c ≡ y → (z / 2 ≡ v) ⊎ (z / 2 ∈ vs) → (z / 2 ∈ vs → z ∈ signed vs)
          → (eqb (z % 2) 0 ≡ true) ⊎ (eqb (z % 2) 0 ≡ false)
          → z ∈ cond x (plain_of v ∷ signed vs) (cond y (negated_of v ∷ signed vs) (signed vs))
      go true e y f (inr i) k t = there (k i)
      go false e true f (inr i) k t = there (k i)
      go false e false f (inr i) k t = k i
      go true e y f (inl q) k (inl t) = let w : z ≡ plain_of v = omega (arith, eqb-true (z % 2) 0 t) in here w
      go false e y f (inl q) k (inl t) =
          let w : z ≡ plain_of v = omega (arith, eqb-true (z % 2) 0 t) in clash (subst (λ u. mem u c ≡ true) w h) e
      go true e y f (inl q) k (inr t) =
          let w : opposite_of z ≡ plain_of v = omega (arith, eqb-false (z % 2) 0 t) in
          clash e (subst (λ u. mem u c ≡ false) w (proper-out c z p h))
      go false e true f (inl q) k (inr t) = let w : z ≡ negated_of v = omega (arith, eqb-false (z % 2) 0 t) in here w
      go false e false f (inl q) k (inr t) =
          let w : z ≡ negated_of v = omega (arith, eqb-false (z % 2) 0 t) in clash (subst (λ u. mem u c ≡ true) w h) f

-- the signs of a cube over ascending variables are read as that cube
pub signs-cube : (vs c : List ℕ) → asc vs ≡ true → is_cube c ≡ true → all (λ l. mem (variable_of l) vs) c ≡ true → cube_in vs (map (sign_of c) vs) ≡ c
signs-cube vs c h q a =
    let r = both (asc c) (proper c) q in
    ext (signed c vs) c (both (asc (signed c vs)) (proper (signed c vs)) (cube-read vs (map (sign_of c) vs) h)).0 r.0
    (λ z. iff (λ k. signed-out c vs (of_mem z (signed c vs) k))
    (λ k. mem-of (signed-in c r.1 vs z k (of_mem (variable_of z) vs (all-out (λ l. mem (variable_of l) vs) (of_mem z c k) a)))))

-- ---- rows

sign-place : (c : List ℕ) (v : ℕ) → is_place (sign_of c v) ≡ true
unfolding sign_of
sign-place c v = go (mem (plain_of v) c) (mem (negated_of v) c)
  where
    go : (x y : Bool) → is_place (cond x 49 (cond y 48 45)) ≡ true
    go true y = refl
    go false true = refl
    go false false = refl

pub signs-place : (c vs : List ℕ) → all is_place (map (sign_of c) vs) ≡ true
signs-place c vs = all_in is_place (map (sign_of c) vs) (λ b m. let r = map-out (sign_of c) vs m in ap is_place r.2 ∙ sign-place c r.0)

pub place-clear : (w : List ℕ) → all is_place w ≡ true → is_clear w ≡ true
place-clear w h = all_in _ w (λ b m. go b (eqb b 48) refl (eqb b 49) refl (eqb b 45) refl (all-out is_place m h))
  where
    go : (b : ℕ) (y : Bool) → eqb b 48 ≡ y → (x : Bool) → eqb b 49 ≡ x → (z : Bool) → eqb b 45 ≡ z → (y || (x || z)) ≡ true
        → (not (eqb b 32) && not (eqb b 10)) ≡ true
    go b true e x f z g k = rw (eqb-true b 48 e)
    go b false e true f z g k = rw (eqb-true b 49 f)
    go b false e false f true g k = rw (eqb-true b 45 g)
    go b false e false f false g k = clash k refl

-- no row has a space or an LF in its words, or begins with a point
pub row-clear : (vs c : List ℕ) → all is_clear (row_words vs c) ≡ true
unfolding row_words spelled
row-clear [] c = refl
row-clear (v ∷ vs) c = together (is_clear (map (sign_of c) (v ∷ vs))) true (place-clear (map (sign_of c) (v ∷ vs)) (signs-place c (v ∷ vs))) refl

pub row_plain : (vs c : List ℕ) → pointed (spaced (row_words vs c)) ≡ false
unfolding row_words spelled spaced sign_of
row_plain [] c = refl
row_plain (v ∷ vs) c = go (mem (plain_of v) c) (mem (negated_of v) c)
  where
    go : (x y : Bool) → eqb (cond x 49 (cond y 48 45)) 46 ≡ false
    go true y = refl
    go false true = refl
    go false false = refl

row_words_lem : (vs c : List ℕ) → words_in (spaced (row_words vs c)) ≡ row_words vs c
unfolding row_words
row_words_lem [] c = words-spaced (spelled "1") [] (clear-words (row_words [] c) (row-clear [] c))
row_words_lem (v ∷ vs) c = words-spaced (map (sign_of c) (v ∷ vs)) (spelled "1" ∷ []) (clear-words (row_words (v ∷ vs) c) (row-clear (v ∷ vs) c))

-- the signs of any cube and `1` are a row
pub row_in : (vs c : List ℕ) → is_row (length vs) (words_in (spaced (row_words vs c))) ≡ true
unfolding is_row row_words
row_in [] c = ap (is_row 0) (row_words_lem [] c) ∙ same_self (spelled "1")
row_in (v ∷ vs) c = ap (is_row (suc (length vs))) (row_words_lem (v ∷ vs) c)
    ∙ rw (ne_eqb (suc (length vs)) 0 (λ e. omega arith), length-map vs (sign_of c), eq-eqb (suc (length vs)) (suc (length vs)) refl)
    (together (all is_place (map (sign_of c) (v ∷ vs))) _ (signs-place c (v ∷ vs)) (same_self (spelled "1")))

-- which is read as the cube
pub row-cube : (vs c : List ℕ) → asc vs ≡ true → is_cube c ≡ true → all (λ l. mem (variable_of l) vs) c ≡ true → cube_in vs (spaced (row_words vs c)) ≡ c
unfolding row_words spaced cube_in
row-cube [] c h q a = signs-cube [] c h q a
row-cube (v ∷ vs) c h q a =
    cube-front (v ∷ vs) (map (sign_of c) (v ∷ vs)) _ (sym (length-map (v ∷ vs) (sign_of c))) ∙ signs-cube (v ∷ vs) c h q a

-- and back: a row is the signs of what is read, and `1`
back-words : (vs l : List ℕ) (ws : List (List ℕ)) → asc vs ≡ true → spaced ws ≡ l → is_row (length vs) ws ≡ true → row_words vs (cube_in vs l) ≡ ws
unfolding is_row row_words spaced
back-words vs l [] h e r = clash r refl
back-words [] l (w ∷ []) h e r = ap (◌∷ []) (sym (same-eq w (spelled "1") r))
back-words (v ∷ vs) l (w ∷ []) h e r =
    let q = eqb-true (length (v ∷ vs)) 0 (both (eqb (length (v ∷ vs)) 0) (same w (spelled "1")) r).0 in absurd (omega arith)
back-words [] l (w ∷ u ∷ []) h e r = clash r refl
back-words (v ∷ vs) l (w ∷ u ∷ []) h e r =
    let p = both (not (eqb (length (v ∷ vs)) 0)) _ r in
    let q = both (eqb (length w) (length (v ∷ vs))) _ p.1 in
    let s = both (all is_place w) (same u (spelled "1")) q.1 in
    let n : length (v ∷ vs) ≡ length w = sym (eqb-true (length w) (length (v ∷ vs)) q.0) in
    let c : cube_in (v ∷ vs) l ≡ cube_in (v ∷ vs) w = ap (cube_in (v ∷ vs)) (sym e) ∙ cube-front (v ∷ vs) w _ n in
    ap₂ (λ (x y : List ℕ). x ∷ y ∷ []) (ap (λ k. map (sign_of k) (v ∷ vs)) c ∙ signs-back (v ∷ vs) w h n s.0) (sym (same-eq u (spelled "1") s.1))
back-words vs l (w ∷ u ∷ x ∷ ws) h e r = clash r refl

pub row_out : (vs l : List ℕ) → asc vs ≡ true → is_row (length vs) (words_in l) ≡ true → l ≡ spaced (row_words vs (cube_in vs l))
row_out vs l h r = sym (ap spaced (back-words vs l (words_in l) h (spaced-words l) r) ∙ spaced-words l)
