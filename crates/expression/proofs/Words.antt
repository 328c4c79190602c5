-- The cubes of words: how many, which words each has, what writing one changes; they and the word left over are all that the words hold. Assumes nothing.
use Prim.Native.Nat.{ℕ, zero, suc, ◌+◌, ◌-◌, ◌*◌, ◌/◌, ◌%◌, ◌^◌, ◌<◌, ◌≤◌, min}
use mathlib.Core.Path.{◌≡◌, refl, sym, ◌∙◌, ap, ap₂, subst}
use mathlib.Core.Bool.{Bool, true, false}
use mathlib.Core.Logic.{inl, inr}
use mathlib.Core.List.Memᴰ
use mathlib.Core.List.{List, [], ◌∷◌, ◌++◌, append_assoc, nil≢cons, cons≢nil, head-eq_of_cons-eq, tail-eq_of_cons-eq}
use native.Mathlib.Omega.{arith}
use lib.Dec.{ltb}
use lib.ListN.{length, get_or, set, take, drop, replicate, length-take, length-drop, take-append-drop, drop_of_length-le, get_or-eq_default}
use lib.Seq.{set_out, take-nil, drop-nil, take_all, drop-drop, drop-append-le, length-take-le}
use borrow.Rule.Slice.PartMut.{put_mid, post_of, Post-is}
use borrow.Author.Tests.{ltb-true}
use Rattle.sets.{specs.Lists.all, specs.Lists.is_nil, specs.Sets.mem, specs.Sets.asc, specs.Masks.literals, proofs.Lists.◌∈◌}
use Rattle.sets.proofs.Truth.{both, Stand, below, equal, beyond, compared}
use Rattle.sets.proofs.Rows.{nil-of, nil-some}
use Rattle.sets.proofs.Literals.{literals-none, plain-injective, negated-injective}
use Rattle.cube.specs.{Cube.width, Cube.lits, declared.Cube.Cube}
use Rattle.cube.proofs.Lits.{lits-asc, lits-inside, lits-at-most}
use Rattle.expression.specs.Words.{cube_words, cubes_of, spare_of, Spans, Put, Written, Placed}
pub use Rattle.expression.specs.Words.{fit}
use Rattle.expression.specs.Expression.{literals_of}

pub cubes-length : (ws : List ℕ) → length (cubes_of ws) ≡ length ws / 2
unfolding cubes_of
cubes-length [] = refl
cubes-length (p ∷ []) = refl
cubes-length (p ∷ n ∷ ws) = omega (arith, cubes-length ws)

twice : (i : ℕ) → 2 * suc i ≡ suc (suc (2 * i))
twice i = omega arith

twice-next : (i : ℕ) → suc (suc (2 * i)) + 1 ≡ suc (suc (2 * i + 1))
twice-next i = omega arith

-- the words of one cube
pub cubes-at : (ws : List ℕ) (i : ℕ) → i < length ws / 2 → get_or (cubes_of ws) i [] ≡ literals width (get_or ws (2 * i) 0) (get_or ws (2 * i + 1) 0)
unfolding cubes_of
cubes-at [] i h = absurd (omega arith)
cubes-at (p ∷ []) i h = absurd (omega arith)
cubes-at (p ∷ n ∷ ws) zero h = refl
cubes-at (p ∷ n ∷ ws) (suc i) h = rw (twice i, twice-next i) (cubes-at ws i (omega arith))

-- the first cube, and the words after it
pub cubes-first : (ws : List ℕ) → 2 ≤ length ws → cubes_of ws ≡ literals width (get_or ws 0 0) (get_or ws 1 0) ∷ cubes_of (take (length ws - 2) (drop 2 ws))
unfolding cubes_of
cubes-first [] h = absurd (omega arith)
cubes-first (p ∷ []) h = absurd (omega arith)
cubes-first (p ∷ n ∷ ws) h = ap (λ vs. literals width p n ∷ cubes_of vs) (sym (take_all (length (p ∷ n ∷ ws) - 2) ws (omega arith)))

-- words too few for a cube
pub cubes-none : (ws : List ℕ) → length ws < 2 → cubes_of ws ≡ []
unfolding cubes_of
cubes-none [] h = refl
cubes-none (p ∷ []) h = refl
cubes-none (p ∷ n ∷ ws) h = absurd (omega arith)

-- past the last cube stands none
pub cubes-past : (ws : List ℕ) (i : ℕ) → length ws / 2 ≤ i → get_or (cubes_of ws) i [] ≡ []
cubes-past ws i h = get_or-eq_default (cubes_of ws) [] (omega (arith, cubes-length ws))

-- one cube written
pub cubes-set : (ws : List ℕ) (i p n : ℕ) → i < length ws / 2 → cubes_of (set (set ws (2 * i) p) (2 * i + 1) n) ≡ set (cubes_of ws) i (literals width p n)
unfolding cubes_of
cubes-set [] i p n h = absurd (omega arith)
cubes-set (x ∷ []) i p n h = absurd (omega arith)
cubes-set (x ∷ y ∷ ws) zero p n h = refl
cubes-set (x ∷ y ∷ ws) (suc i) p n h = rw (twice i, twice-next i) (ap (literals width x y ∷◌) (cubes-set ws i p n (omega arith)))

pub spare-set : (ws : List ℕ) (i p n : ℕ) → i < length ws / 2 → spare_of (set (set ws (2 * i) p) (2 * i + 1) n) ≡ spare_of ws
unfolding spare_of
spare-set [] i p n h = absurd (omega arith)
spare-set (x ∷ []) i p n h = absurd (omega arith)
spare-set (x ∷ y ∷ ws) zero p n h = refl
spare-set (x ∷ y ∷ ws) (suc i) p n h = rw (twice i, twice-next i) (spare-set ws i p n (omega arith))

-- ---- a part of the words is a part of the cubes

pub cubes-drop : (ws : List ℕ) (j : ℕ) → cubes_of (drop (2 * j) ws) ≡ drop j (cubes_of ws)
unfolding cubes_of
cubes-drop ws zero = refl
cubes-drop [] (suc j) = rw (twice j)
cubes-drop (p ∷ []) (suc j) = rw (twice j, drop-nil)
cubes-drop (p ∷ n ∷ ws) (suc j) = rw (twice j) (cubes-drop ws j)

pub cubes-take : (ws : List ℕ) (j : ℕ) → cubes_of (take (2 * j) ws) ≡ take j (cubes_of ws)
unfolding cubes_of
cubes-take ws zero = refl
cubes-take [] (suc j) = rw (twice j)
cubes-take (p ∷ []) (suc j) = rw (twice j, take-nil)
cubes-take (p ∷ n ∷ ws) (suc j) = rw (twice j) (ap (literals width p n ∷◌) (cubes-take ws j))

pub spare-take : (ws : List ℕ) (j : ℕ) → 2 * j ≤ length ws → spare_of (take (2 * j) ws) ≡ []
unfolding spare_of
spare-take ws zero h = refl
spare-take [] (suc j) h = absurd (omega arith)
spare-take (p ∷ []) (suc j) h = absurd (omega arith)
spare-take (p ∷ n ∷ ws) (suc j) h = rw (twice j) (spare-take ws j (omega arith))

-- the part from a up to e, both held to what there is
pub part_held : {A : Type 0} (f : List A) (a e : ℕ)
    → take (min e (length f) - min a (min e (length f))) (drop (min a (min e (length f))) f) ≡ take (e - a) (drop a f)
part_held f a e = go (compared a (min e (length f))) (compared e (length f))
  where
    past : length f ≤ a → take (e - a) (drop a f) ≡ []
    past h = rw (drop_of_length-le f h, take-nil)

    gone : min e (length f) ≤ a → Stand e (length f)
        → take (min e (length f) - min a (min e (length f))) (drop (min a (min e (length f))) f) ≡ take (e - a) (drop a f)
    gone h s = let q : min e (length f) - min a (min e (length f)) ≡ 0 = omega arith in rw q (sym (rest s))
      where
        rest : Stand e (length f) → take (e - a) (drop a f) ≡ []
        rest (below k _ _) = let z : e - a ≡ 0 = omega arith in rw z
        rest (equal k _ _) = past (omega arith)
        rest (beyond k _ _) = past (omega arith)

    go : Stand a (min e (length f)) → Stand e (length f)
        → take (min e (length f) - min a (min e (length f))) (drop (min a (min e (length f))) f) ≡ take (e - a) (drop a f)
    go (below h _ _) (below k _ _) = let p : min e (length f) ≡ e = omega arith in let q : min a e ≡ a = omega arith in rw (p, q)
    go (below h _ _) (equal k _ _) = let p : min e (length f) ≡ e = omega arith in let q : min a e ≡ a = omega arith in rw (p, q)
    go (below h _ _) (beyond k _ _) =
        let p : min e (length f) ≡ length f = omega arith in let q : min a (length f) ≡ a = omega arith in
        rw (p, q) (take_all (length f - a) (drop a f) (omega (arith, length-drop a f)) ∙ sym (take_all (e - a) (drop a f) (omega (arith, length-drop a f))))
    go (equal h _ _) s = gone (omega arith) s
    go (beyond h _ _) s = gone (omega arith) s

-- words of zeros are empty cubes
pub zeros : (n : ℕ) → cubes_of (replicate (cube_words * n) 0) ≡ replicate n []
unfolding cubes_of
zeros zero = refl
zeros (suc n) = rw (twice n) (ap₂ ◌∷◌ (literals-none width) (zeros n))

-- whole cubes in front, and then what follows
pub cubes-append : (a b : List ℕ) → spare_of a ≡ [] → cubes_of (a ++ b) ≡ cubes_of a ++ cubes_of b
unfolding cubes_of spare_of
cubes-append [] b h = refl
cubes-append (p ∷ []) b h = absurd (cons≢nil h)
cubes-append (p ∷ n ∷ a) b h = ap (literals width p n ∷◌) (cubes-append a b h)

pub spare-append : (a b : List ℕ) → spare_of a ≡ [] → spare_of (a ++ b) ≡ spare_of b
unfolding spare_of
spare-append [] b h = refl
spare-append (p ∷ []) b h = absurd (cons≢nil h)
spare-append (p ∷ n ∷ a) b h = spare-append a b h

pub spare-drop : (ws : List ℕ) (j : ℕ) → 2 * j ≤ length ws → spare_of (drop (2 * j) ws) ≡ spare_of ws
unfolding spare_of
spare-drop ws zero h = refl
spare-drop [] (suc j) h = absurd (omega arith)
spare-drop (p ∷ []) (suc j) h = absurd (omega arith)
spare-drop (p ∷ n ∷ ws) (suc j) h = rw (twice j) (spare-drop ws j (omega arith))

-- g written over the front of a part, and the part put back
module _ {A : Type 0} (f g : List A) where
  over : (n m : ℕ) → length g ≤ m → m ≤ length (drop n f) → take n f ++ ((g ++ drop (length g) (take m (drop n f))) ++ drop m (drop n f)) ≡ take n f ++
      (g ++ drop (length g) (drop n f))
  over n m h k =
      ap (take n f ++◌) (append_assoc g _ _ ∙ ap (g ++◌) (sym
      (drop-append-le (length g) (take m (drop n f)) (drop m (drop n f)) (omega (arith, length-take-le m (drop n f) k)))
      ∙ ap (drop (length g)) (take-append-drop m (drop n f))))

  pub over-held : (a e : ℕ) → length g ≤ length (take (e - a) (drop a f))
      → take (min a (min e (length f))) f ++
      ((g ++ drop (length g) (take (min e (length f) - min a (min e (length f))) (drop (min a (min e (length f))) f))) ++ drop (min e (length f)) f)
      ≡ take a f ++ (g ++ drop (length g) (drop a f))
  over-held a e h = go (compared a (min e (length f)))
    where
      n : ℕ
      n = min e (length f)

      -- nothing is there from a on, so g is nothing
      gone : n ≤ a → take (min a n) f ++ ((g ++ drop (length g) (take (n - min a n) (drop (min a n) f))) ++ drop n f) ≡ take a f ++
          (g ++ drop (length g) (drop a f))
      gone k =
          let q : min a n ≡ n = omega arith in
          let z : n - n ≡ 0 = omega arith in
          let l : length g ≡ 0 = omega (arith, h, length-take (e - a) (drop a f), length-drop a f) in
          rw (q, z, nil-of g l) (take-append-drop n f ∙ sym (take-append-drop a f))

      go : Stand a n → take (min a n) f ++ ((g ++ drop (length g) (take (n - min a n) (drop (min a n) f))) ++ drop n f) ≡ take a f ++
          (g ++ drop (length g) (drop a f))
      go (below k _ _) =
          let q : min a n ≡ a = omega arith in
          let w : a + (n - a) ≡ n = omega arith in
          let d : drop n f ≡ drop (n - a) (drop a f) = ap (λ x. drop x f) (sym w) ∙ sym (drop-drop (n - a) a f) in
          rw (q, d) (over a (n - a) (omega (arith, h, length-take (e - a) (drop a f), length-drop a f)) (omega (arith, length-drop a f)))
      go (equal k _ _) = gone (omega arith)
      go (beyond k _ _) = gone (omega arith)

module _ (ws : List ℕ) (a e from to : ℕ) (s : Spans ws a e from to) where
  abbrev high : ℕ
  high = min e (length (cubes_of ws))

  abbrev low : ℕ
  low = min a high

  width_of : to - from ≡ 2 * (high - low)
  width_of = omega (arith, s.start, s.stop)

  pub part_of : (cubes_of (take (to - from) (drop from ws)) ≡ take (e - a) (drop a (cubes_of ws))) × (spare_of (take (to - from) (drop from ws)) ≡ [])
  part_of = (
    rw (width_of, s.start, cubes-take (drop (2 * low) ws) (high - low), cubes-drop ws low) (part_held (cubes_of ws) a e),
    rw width_of (spare-take (drop from ws) (high - low) (omega (arith, s.start, s.within, s.stop, length-drop from ws))),
  )

  -- the part is put back with the cubes g at its front
  pub placed-part : (p : List ℕ) (g : List (List ℕ)) → length g ≤ length (take (e - a) (drop a (cubes_of ws))) → Written (take (to - from) (drop from ws)) p g
      → Placed ws (put_mid from (to - from) ws p) a g
  placed-part p g h w =
      let front : spare_of (take from ws) ≡ [] = rw s.start (spare-take ws low (omega (arith, s.start, s.within, s.forth))) in
      let mid : spare_of p ≡ [] = w.spare ∙ part_of.1 in
      let post : post_of from (to - from) ws ≡ drop (2 * high) ws = Post-is from to ws s.forth ∙ ap (λ x. drop x ws) s.stop in
      record {
        cubes = cubes-append (take from ws) _ front
            ∙ ap₂ ◌++◌ (ap (λ x. cubes_of (take x ws)) s.start ∙ cubes-take ws low)
            (cubes-append p _ mid ∙ ap₂ ◌++◌ (w.cubes ∙ ap (λ x. g ++ drop (length g) x) inner) (ap cubes_of post ∙ cubes-drop ws high))
            ∙ over-held (cubes_of ws) g a e h;
        spare = spare-append (take from ws) _ front ∙ spare-append p _ mid ∙ ap spare_of post ∙ spare-drop ws high (omega (arith, s.stop, s.within));
      }
    where
      inner : cubes_of (take (to - from) (drop from ws)) ≡ take (high - low) (drop low (cubes_of ws))
      inner = rw (width_of, s.start, cubes-take (drop (2 * low) ws) (high - low), cubes-drop ws low)

  -- so what an operation makes of the part's cubes stands in their place
  pub placed_by : (op : List (List ℕ) → List (List ℕ)) → ((f : List (List ℕ)) → length (op f) ≤ length f) → (p : List ℕ)
      → Written (take (to - from) (drop from ws)) p (op (cubes_of (take (to - from) (drop from ws))))
      → Placed ws (put_mid from (to - from) ws p) a (op (take (e - a) (drop a (cubes_of ws))))
  placed_by op le p w = placed-part p _ (le _) (subst (λ f. Written (take (to - from) (drop from ws)) p (op f)) part_of.0 w)

-- ---- each of the cubes is one that two masks hold

-- what holds of every cube holds of those
pub cubes-all : (p : List ℕ → Bool) → ((c : Cube) → p (lits c) ≡ true) → (ws : List ℕ) → all p (cubes_of ws) ≡ true
unfolding cubes_of
cubes-all p h [] = refl
cubes-all p h (x ∷ []) = refl
cubes-all p h (x ∷ y ∷ ws) = rw (h (record { plain = x; negated = y })) (cubes-all p h ws)

pub cubes-out : {c : List ℕ} (ws : List ℕ) → c ∈ cubes_of ws → (d : Cube) × (c ≡ lits d)
unfolding cubes_of
cubes-out [] m = absurd (Memᴰ.not-nil m)
cubes-out (x ∷ []) m = absurd (Memᴰ.not-nil m)
cubes-out (x ∷ y ∷ ws) m = elim (Memᴰ.cases_cons m) [ inl e ↦ (record { plain = x; negated = y }, e) | inr t ↦ cubes-out ws t ]

pub cubes-asc : (ws : List ℕ) → all asc (cubes_of ws) ≡ true
cubes-asc = cubes-all asc lits-asc

pub cubes-inside : {c : List ℕ} (ws : List ℕ) → c ∈ cubes_of ws → (l : ℕ) → mem l c ≡ true → l < 2 * width
cubes-inside ws m l i = let d = cubes-out ws m in lits-inside d.0 l (subst (λ z. mem l z ≡ true) d.1 i)

pub literals-most : (ws : List ℕ) → literals_of (cubes_of ws) ≤ 2 * width * length (cubes_of ws)
unfolding cubes_of
literals-most [] = omega arith
literals-most (x ∷ []) = omega arith
literals-most (x ∷ y ∷ ws) = omega (arith, lits-at-most (record { plain = x; negated = y }), literals-most ws)

-- ---- how many words, and how many cubes

-- a word is left over exactly where their number is odd
pub spare-length : (ws : List ℕ) → length ws ≡ cube_words * length (cubes_of ws) + length (spare_of ws)
unfolding cubes_of spare_of
spare-length [] = refl
spare-length (p ∷ []) = refl
spare-length (p ∷ n ∷ ws) = omega (arith, spare-length ws)

-- the words of whole cubes are a multiple of those of one
module _ (ws : List ℕ) where
  pub spare-few : length (spare_of ws) < cube_words
  spare-few = omega (arith, spare-length ws, cubes-length ws)

  pub spare-none : length ws % cube_words ≡ 0 → is_nil (spare_of ws) ≡ true
  spare-none h = ap is_nil (nil-of (spare_of ws) (omega (arith, spare-length ws, spare-few)))

  pub spare-some : (length ws % cube_words ≡ 0 → ⊥) → is_nil (spare_of ws) ≡ false
  spare-some h = nil-some (spare_of ws) (λ e. omega (arith, spare-length ws))

pub cubes-few : (ws : List ℕ) → length (cubes_of ws) ≤ length ws
cubes-few ws = omega (arith, cubes-length ws)

pub same-room : (a b : List ℕ) → length a ≡ length b → length (cubes_of a) ≡ length (cubes_of b)
same-room a b e = omega (arith, cubes-length a, cubes-length b)

-- words for n cubes hold n, and no word is left over
module _ (ws : List ℕ) (n : ℕ) where
  pub room-cubes : length ws ≡ cube_words * n → length (cubes_of ws) ≡ n
  room-cubes h = omega (arith, cubes-length ws)

pub put-past : (ws : List ℕ) (i : ℕ) (c : List ℕ) → length ws / 2 ≤ i → Put ws ws i c
put-past ws i c h = record { cubes = sym (set_out (cubes_of ws) i c (omega (arith, cubes-length ws))); spare = refl }

-- ---- words of 64 bits are known from their cubes and the word left over

pub words-ext : (a b : List ℕ) → fit a ≡ true → fit b ≡ true → cubes_of a ≡ cubes_of b → spare_of a ≡ spare_of b → a ≡ b
unfolding cubes_of spare_of
words-ext [] [] h k e s = refl
words-ext [] (y ∷ []) h k e s = absurd (nil≢cons s)
words-ext [] (y ∷ m ∷ b) h k e s = absurd (nil≢cons e)
words-ext (x ∷ []) [] h k e s = absurd (cons≢nil s)
words-ext (x ∷ []) (y ∷ []) h k e s = s
words-ext (x ∷ []) (y ∷ m ∷ b) h k e s = absurd (nil≢cons e)
words-ext (x ∷ n ∷ a) [] h k e s = absurd (cons≢nil e)
words-ext (x ∷ n ∷ a) (y ∷ []) h k e s = absurd (cons≢nil e)
words-ext (x ∷ n ∷ a) (y ∷ m ∷ b) h k e s =
    let hx = both (ltb x (2 ^ width)) (fit (n ∷ a)) h in let hn = both (ltb n (2 ^ width)) (fit a) hx.1 in
    let ky = both (ltb y (2 ^ width)) (fit (m ∷ b)) k in let km = both (ltb m (2 ^ width)) (fit b) ky.1 in
    let front : literals width x n ≡ literals width y m = head-eq_of_cons-eq e in
    ap₂ ◌∷◌ (plain-injective width x n y m (ltb-true _ _ hx.0) (ltb-true _ _ ky.0) front)
    (ap₂ ◌∷◌ (negated-injective width x n y m (ltb-true _ _ hn.0) (ltb-true _ _ km.0) front)
    (words-ext a b hn.1 km.1 (tail-eq_of_cons-eq e) s))

-- so what is written leaves one result
pub written_one : {old a b : List ℕ} {f : List (List ℕ)} → fit a ≡ true → fit b ≡ true → Written old a f → Written old b f → a ≡ b
written_one {a = a} {b} h k p q = words-ext a b h k (p.cubes ∙ sym q.cubes) (p.spare ∙ sym q.spare)

pub put_one : {old a b : List ℕ} {i : ℕ} {c : List ℕ} → fit a ≡ true → fit b ≡ true → Put old a i c → Put old b i c → a ≡ b
put_one {a = a} {b} h k p q = words-ext a b h k (p.cubes ∙ sym q.cubes) (p.spare ∙ sym q.spare)

pub placed_one : {old a b : List ℕ} {i : ℕ} {f : List (List ℕ)} → fit a ≡ true → fit b ≡ true → Placed old a i f → Placed old b i f → a ≡ b
placed_one {a = a} {b} h k p q = words-ext a b h k (p.cubes ∙ sym q.cubes) (p.spare ∙ sym q.spare)
