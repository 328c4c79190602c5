-- The columns of a number and of a row too many, in the paper's words. Assumes nothing.
use Prim.Native.Nat.{ℕ, zero, suc, ◌+◌, ◌-◌, ◌<◌}
use mathlib.Core.Path.{◌≡◌, refl, sym, ap, ◌∙◌, subst}
use mathlib.Core.{Logic.◌↔◌, Option.Option, Option.some}
use mathlib.Core.Bool.{Bool, true, false, cond, not, ◌||◌, false≢true}
use mathlib.Core.List.Memᴰ.{append_right}
use mathlib.Core.List.{List, [], ◌∷◌, ◌++◌, map, append_assoc}
use native.Mathlib.Omega.{arith}
use lib.Dec.{eqb}
use lib.ListN.{length, get_or, take, drop, length-append, length-map, get_or-map}
use lib.Seq.{drop_at, get_or-append-add}
use borrow.Author.Tests.{eqb-true, eq-eqb}
use Rattle.sets.specs.Lists.{any, keep}
use Rattle.sets.proofs.Truth.{iff, clash, refuted}
use Rattle.sets.proofs.{Lists.any-in, Lists.all-out, Places.at_in}
use Rattle.letters.specs.Meaning.{is_digit}
use Rattle.table_lines.specs.Text.{is_blank, trim_front, content}
use Rattle.table_lines.proofs.Blanks.{gap-in}
use Rattle.table_kinds.specs.Meaning.{Names}
use Rattle.table_rows.specs.{Lines.is_mark, Lines.CubeLine, Lines.cube_line_of, Lines.rows_in, Meaning.Writes}
use Rattle.table_rows.proofs.Writing.{cube-line-iff, line-shaped}
use Rattle.table_columns.specs.{Forms.front, Meaning.FirstOf, Meaning.RowMore}
use Rattle.table_columns.specs.Columns.{one_place, place_in, place_of, column_of}
use Rattle.table_columns.proofs.{Counting.place_inside, Bytes.digit-high, Bytes.mark-high, Bytes.high-solid}
use Rattle.table_columns.proofs.Standing.{start, line_at, pointed, first-pointed}

-- ---- the first digit

-- up to the first byte that passes a test the others are counted
front-first : (f : ℕ → Bool) (c : List ℕ) → any f c ≡ true → FirstOf f c (front (λ x. not (f x)) (length c) c)
unfolding front
front-first f [] h = absurd (false≢true h)
front-first f (x ∷ c) h = go (f x) refl h (front-first f c)
  where
    far : ℕ
    far = front (λ y. not (f y)) (length c) c

    go : (e : Bool) → f x ≡ e → (e || any f c) ≡ true → (any f c ≡ true → FirstOf f c far) → FirstOf f (x ∷ c) (cond (not e) (suc far) 0)
    go true e i g = record { inside = omega arith; there = e; before = refl }
    go false e i g = let w = g i in record { inside = omega (arith, w.inside); there = w.there; before = rw e w.before }

-- 3: the first byte of the number
pub digit-iff : (w t : Option ℕ) (k : ℕ) (l : List ℕ) (c x n : ℕ) → Names x (content l) n
    → (column_of 3 w t k l ≡ c) ↔ ((p : ℕ) × (c ≡ p + 1) × FirstOf is_digit l p)
unfolding place_in
digit-iff w t k l c x n q = first-pointed is_digit l low 3 w t k c (front-first is_digit (content l) (rw q.text some-digit))
  where
    low : (y : ℕ) → is_blank y ≡ true → is_digit y ≡ false
    low y b = refuted (λ d. clash b (high-solid y (digit-high y d)))

    some-digit : any is_digit (46 ∷ x ∷ (q.blanks ++ q.digits)) ≡ true
    some-digit = let m = at_in q.digits 0 0 q.number.one in
        any-in is_digit (append_right (46 ∷ x ∷ q.blanks) m) (all-out is_digit m q.number.each)

-- ---- the output characters of a cube line

module _ {n m : ℕ} {c : List ℕ} {line : CubeLine} (w : Writes n m c line) where
  -- they follow the blanks after its places
  signs-left : trim_front (drop n c) ≡ w.signs
  signs-left =
      ap (λ (x : List ℕ). trim_front (drop n x)) w.text ∙ ap trim_front (drop_at line.places (w.blanks ++ w.signs) n w.number)
      ∙ (gap-in is_mark (λ x h. high-solid x (mark-high x h)) w.blanks w.signs w.between w.each).1

  -- and are its last
  signs-last : c ≡ (line.places ++ w.blanks) ++ w.signs
  signs-last = w.text ∙ sym (append_assoc line.places w.blanks w.signs)

  signs-start : length c ≡ length (line.places ++ w.blanks) + m
  signs-start = omega (arith, ap length signs-last, length-append (line.places ++ w.blanks) w.signs, w.count)

-- at place i of the marks stands a `1`, and k others stand before it
abbrev OneAfter : ℕ → ℕ → List Bool → Type 0
OneAfter k i l = (get_or l i false ≡ true) × (length (keep (λ b. b) (take i l)) ≡ k)

one_inside : (l : List Bool) (i : ℕ) → get_or l i false ≡ true → i < length l
one_inside [] i h = absurd (false≢true h)
one_inside (b ∷ l) zero h = omega arith
one_inside (b ∷ l) (suc i) h = omega (arith, one_inside l i h)

-- at no other place
one_only : (k : ℕ) (l : List Bool) (i j : ℕ) → OneAfter k i l → OneAfter k j l → i ≡ j
one_only k [] i j a b = absurd (false≢true a.0)
one_only k (x ∷ l) zero zero a b = refl
one_only k (false ∷ l) zero (suc j) a b = absurd (false≢true a.0)
one_only k (true ∷ l) zero (suc j) a b = absurd (omega (arith, a.1, b.1))
one_only k (false ∷ l) (suc i) zero a b = absurd (false≢true b.0)
one_only k (true ∷ l) (suc i) zero a b = absurd (omega (arith, a.1, b.1))
one_only k (false ∷ l) (suc i) (suc j) a b = ap suc (one_only k l i j a b)
one_only k (true ∷ l) (suc i) (suc j) a b = ap suc (one_only (k - 1) l i j (a.0, omega (arith, a.1)) (b.0, omega (arith, b.1)))

flip : (b : ℕ) → eqb b 49 ≡ eqb 49 b
flip b = iff (λ e. eq-eqb 49 b (sym (eqb-true b 49 e))) (λ e. eq-eqb b 49 (sym (eqb-true 49 b e)))

one_found : (k : ℕ) (o : List ℕ) → k < length (keep (λ b. b) (map (eqb 49) o)) → OneAfter k (one_place k o) (map (eqb 49) o)
unfolding one_place
one_found k [] h = absurd (omega arith)
one_found zero (b ∷ o) h = rw (flip b) (go (eqb 49 b) h (one_found zero o))
  where
    go : (e : Bool) → 0 < length (keep (λ d. d) (e ∷ map (eqb 49) o))
        → (0 < length (keep (λ d. d) (map (eqb 49) o)) → OneAfter 0 (one_place 0 o) (map (eqb 49) o))
        → OneAfter 0 (cond e 0 (suc (one_place 0 o))) (e ∷ map (eqb 49) o)
    go true i f = (refl, refl)
    go false i f = f i
one_found (suc k) (b ∷ o) h = rw (flip b) (go (eqb 49 b) h (λ j. one_found j o))
  where
    go : (e : Bool) → suc k < length (keep (λ d. d) (e ∷ map (eqb 49) o))
        → ((j : ℕ) → j < length (keep (λ d. d) (map (eqb 49) o)) → OneAfter j (one_place j o) (map (eqb 49) o))
        → OneAfter (suc k) (suc (one_place (cond e k (suc k)) o)) (e ∷ map (eqb 49) o)
    go true i f = let w = f k (omega arith) in (w.0, ap suc w.1)
    go false i f = f (suc k) i

row-only : {n m k : ℕ} {l : List ℕ} {p q : ℕ} → RowMore n m k l p → RowMore n m k l q → p ≡ q
row-only {k} a b =
    let e : a.line ≡ b.line = cc in
    let i : a.mark ≡ b.mark = one_only k a.line.marks a.mark b.mark (a.one, a.rows) (rw e (b.one, b.rows)) in
    omega (arith, a.place, b.place)

row-found : (n m k : ℕ) (t : Option ℕ) (l : List ℕ) (line : CubeLine) → cube_line_of n m (content l) ≡ some line → k < rows_in line
    → RowMore n m k l (place_of 6 (some n) t k l)
unfolding place_in
row-found n m k t l line e h =
    let c = content l in
    let w = (cube-line-iff n m c line).0 e in
    let o = w.signs in
    let i = one_place k o in
    let g : OneAfter k i line.marks = subst (OneAfter k i) (sym w.marks) (one_found k o (rw w.marks at h)) in
    let s : i < m = omega (arith, one_inside line.marks i g.0, (line-shaped n m c line e).marks) in
    let p : place_in 6 (some n) t k c ≡ (length c - m) + i = rw (signs-left w, w.count) in
    record {
      line = line;
      writes = e;
      mark = i;
      one = g.0;
      rows = g.1;
      place = omega (arith, signs-start w, place_inside 6 (some n) t k l (λ z. omega (arith, signs-start w)));
    }

-- 6: the output character that makes one row too many
pub row-iff : (n m k : ℕ) (t : Option ℕ) (l : List ℕ) (c : ℕ) (line : CubeLine) → cube_line_of n m (content l) ≡ some line → k < rows_in line
    → (column_of 6 (some n) t k l ≡ c) ↔ ((p : ℕ) × (c ≡ p + 1) × RowMore n m k l p)
row-iff n m k t l c line e h = let w = row-found n m k t l line e h in
    pointed (RowMore n m k l) (place_of 6 (some n) t k l) c w (λ p r. row-only r w)

-- it is a `1`
pub row-byte : (n m k : ℕ) (l : List ℕ) (p : ℕ) → RowMore n m k l p → get_or l p 0 ≡ 49
row-byte n m k l p h =
    let c = content l in
    let i = h.mark in
    let w = (cube-line-iff n m c h.line).0 h.writes in
    let a = h.line.places ++ w.blanks in
    let o = w.signs in
    let g : get_or (map (eqb 49) o) i false ≡ true = rw w.marks at h.one in
    let j : i < m = omega (arith, one_inside (map (eqb 49) o) i g, length-map o (eqb 49), w.count) in
    let q : p ≡ start l + (length a + i) = omega (arith, h.place, signs-start w) in
    let v : eqb 49 (get_or o i 0) ≡ true = sym (get_or-map (eqb 49) o i 0) ∙ g in
    ap (λ (x : ℕ). get_or l x 0) q ∙ line_at l (length a + i) (omega (arith, signs-start w))
    ∙ ap (λ (x : List ℕ). get_or x (length a + i) 0) (signs-last w)
    ∙ get_or-append-add a o i 0 ∙ sym (eqb-true 49 (get_or o i 0) v)
