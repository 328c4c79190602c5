-- A cube line in the paper's words: what is read is what is written, and what is written is read. Assumes nothing.
use Prim.Native.Nat.{ℕ, ◌≤◌}
use mathlib.Core.Path.{◌≡◌, refl, sym, ap, ◌∙◌, subst}
use mathlib.Core.Logic.{inl, inr, ◌↔◌}
use mathlib.Core.Bool.{Bool, true, false, cond, ◌&&◌, true≢false}
use mathlib.Core.List.{List, [], ◌∷◌, ◌++◌, map}
use mathlib.Core.Option.{Option, none, some, some-injective}
use native.Mathlib.Omega.{arith}
use lib.Dec.{eqb}
use lib.ListN.{length, take, drop, length-map, take-append-drop}
use lib.Seq.{take_at, drop_at}
use borrow.Author.Tests.{eqb-true, eq-eqb}
use Rattle.sets.{specs.Lists.all, proofs.Truth.both, proofs.Truth.either}
use Rattle.table_lines.specs.Text.{is_blank, starts_blank, trim_front}
use Rattle.table_lines.proofs.Blanks.{gap-out, gap-in}
use Rattle.table_rows.specs.Lines.{is_place, is_mark, CubeLine, cube_line_of}
use Rattle.table_rows.specs.Meaning.{LineOf, Writes}

-- no mark is a blank
mark-solid : (x : ℕ) → is_mark x ≡ true → is_blank x ≡ false
mark-solid x h = elim (either (eqb x 48) (eqb x 49) h) [ inl e ↦ rw (eqb-true x 48 e) | inr e ↦ rw (eqb-true x 49 e) ]

line-out : (n m : ℕ) (c : List ℕ) (l : CubeLine) → cube_line_of n m c ≡ some l → Writes n m c l
unfolding cube_line_of
line-out n m c l e = go (eqb (length p) n && (all is_place p && (starts_blank r && (eqb (length o) m && all is_mark o)))) refl e
  where
    p : List ℕ
    p = take n c

    r : List ℕ
    r = drop n c

    o : List ℕ
    o = trim_front r

    go : (b : Bool) → (eqb (length p) n && (all is_place p && (starts_blank r && (eqb (length o) m && all is_mark o)))) ≡ b
        → cond b (some (record { places = p; marks = map (eqb 49) o })) none ≡ some l → Writes n m c l
    go false t q = let z : ◌≡◌ {A = ℕ} 0 1 = cc in absurd (omega arith)
    go true t q =
        let w = both (eqb (length p) n) (all is_place p && (starts_blank r && (eqb (length o) m && all is_mark o))) t in
        let x = both (all is_place p) (starts_blank r && (eqb (length o) m && all is_mark o)) w.1 in
        let y = both (starts_blank r) (eqb (length o) m && all is_mark o) x.1 in
        let z = both (eqb (length o) m) (all is_mark o) y.1 in
        let g = gap-out r y.0 in
        subst (Writes n m c) (some-injective _ _ q) (record {
          blanks = g.0;
          signs = o;
          text = sym (take-append-drop n c) ∙ ap (p ++◌) g.2;
          number = eqb-true (length p) n w.0;
          places = x.0;
          between = g.1;
          count = eqb-true (length o) m z.0;
          each = z.1;
          marks = refl;
        })

line-in : {n m : ℕ} {c : List ℕ} {l : CubeLine} → Writes n m c l → cube_line_of n m c ≡ some l
unfolding cube_line_of
line-in {n} {m} {c} {l} w =
    let p : take n c ≡ l.places = ap (take n) w.text ∙ take_at l.places (w.blanks ++ w.signs) n w.number in
    let r : drop n c ≡ w.blanks ++ w.signs = ap (drop n) w.text ∙ drop_at l.places (w.blanks ++ w.signs) n w.number in
    let g = gap-in is_mark mark-solid w.blanks w.signs w.between w.each in
    rw (p, r, g.0, g.1, eq-eqb (length l.places) n w.number, eq-eqb (length w.signs) m w.count, w.places, w.each)
    (ap (λ (x : List Bool). some (record { places = l.places; marks = x })) (sym w.marks))

-- what is left of a line is a cube line exactly when it is n of `0 1 -`, one or more blanks, m of `0 1`
pub cube-line-iff : (n m : ℕ) (c : List ℕ) (l : CubeLine) → (cube_line_of n m c ≡ some l) ↔ Writes n m c l
cube-line-iff n m c l = (line-out n m c l, line-in)

-- a cube line of n inputs and m outputs has n places and m marks
pub line-shaped : (n m : ℕ) (c : List ℕ) (l : CubeLine) → cube_line_of n m c ≡ some l → LineOf n m l
line-shaped n m c l e = let w = line-out n m c l e in
    record { places = w.number; bytes = w.places; marks = ap length w.marks ∙ length-map w.signs (eqb 49) ∙ w.count }

-- what does not begin with a place is none
pub line-none : (n m : ℕ) (c : List ℕ) → ((b : ℕ) (t : List ℕ) → c ≡ b ∷ t → is_place b ≡ false) → 1 ≤ n → cube_line_of n m c ≡ none
line-none n m c f h = go (cube_line_of n m c) refl
  where
    first : (p s : List ℕ) → length p ≡ n → all is_place p ≡ true → c ≡ p ++ s → ⊥
    first [] s k q e = omega arith
    first (b ∷ p) s k q e = true≢false (sym (both (is_place b) (all is_place p) q).0 ∙ f b (p ++ s) e)

    go : (o : Option CubeLine) → cube_line_of n m c ≡ o → o ≡ none
    go none e = refl
    go (some l) e = let w = line-out n m c l e in absurd (first l.places (w.blanks ++ w.signs) w.number w.places w.text)
