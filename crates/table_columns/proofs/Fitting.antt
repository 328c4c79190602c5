-- How far a line goes with the forms of good lines: a good line begins with so much of it, and none with more. Assumes nothing.
use Prim.Native.Nat.{ℕ, zero, suc, ◌≤◌}
use mathlib.Core.Path.{◌≡◌, refl, sym, ap, ◌∙◌}
use mathlib.Core.Logic.{◌⊎◌, inl, inr}
use mathlib.Core.{Bool.true, Option.Option, Option.some}
use mathlib.Core.List.{List, [], ◌∷◌, ◌++◌, map, append-nil, append_assoc, cons-ne-nil}
use native.Mathlib.Omega.{arith}
use lib.Dec.{eqb}
use lib.ListN.{length, take, drop, take-append-drop}
use lib.Seq.{length-take-le}
use borrow.Author.Tests.{eqb-true, eq-eqb}
use Rattle.sets.{specs.Lists.all, proofs.Truth.both, proofs.Truth.clash}
use Rattle.letters.specs.Meaning.{is_digit, read_back}
use Rattle.table_lines.specs.Text.{is_blank}
use Rattle.table_kinds.specs.{Kinds.most_digits, declared.Kind.Kind}
use Rattle.table_kinds.specs.Meaning.{Names, Spelled, bare, dot_i, dot_o, dot_p, dot_e, dot_end}
use Rattle.table_kinds.specs.declared.Kind.TheVariants.{Empty, Inputs, Outputs, Products, End}
use Rattle.table_rows.specs.{Lines.is_mark, Lines.CubeLine, Meaning.Writes}
use Rattle.table_columns.specs.Forms.{Part, exactly, between, or_more, reach, blanks, number_form, cube_form, cube_forms, forms}
use Rattle.table_columns.{specs.Forms.farthest, proofs.Counting.max_of}
use Rattle.table_columns.specs.{Columns.unless_zero, Meaning.Kinded, Meaning.spelled, Meaning.cube}
use Rattle.table_columns.proofs.Bytes.{high, digit-high, mark-high, high-solid}
use Rattle.table_columns.proofs.Reaching.{Takes, Sound, Fits, Clear, reach-begins, reach-most}

-- a good line with nothing before it and no comment: what is of a kind, and blanks, or none, after it
pub record Bare (w t : Option ℕ) (g : List ℕ) : Type 0 where
  pub kept : List ℕ
  pub tail : List ℕ
  pub text : g ≡ kept ++ tail
  pub kind : Kinded w t kept
  pub blank : all is_blank tail ≡ true

-- ---- the farthest

-- the forms are clear, and a line that fits one is good
data Proper (w t : Option ℕ) : List (List Part) → Type 0 where
  done : Proper w t []
  also : {f : List Part} {fs : List (List Part)} → Clear f → ((g : List ℕ) → Fits f g → Bare w t g) → Proper w t fs → Proper w t (f ∷ fs)

-- g fits one of the forms
abbrev FitsSome : List (List Part) → List ℕ → Type 0
FitsSome [] g = ⊥
FitsSome (f ∷ fs) g = Fits f g ⊎ FitsSome fs g

-- blanks alone are good
blank-good : (w t : Option ℕ) (g : List ℕ) → all is_blank g ≡ true → Bare w t g
blank-good w t g h = record { kept = []; tail = g; text = refl; kind = spelled Empty (bare refl); blank = h }

begins-proper : (w t : Option ℕ) (fs : List (List Part)) → Proper w t fs → (c : List ℕ) → (rest : List ℕ) × Bare w t (take (farthest fs c) c ++ rest)
unfolding farthest
begins-proper w t fs done c = ([], blank-good w t [] refl)
begins-proper w t fs (also {f = f} {fs = gs} e g r) c = let q = reach-begins f e c in
    max_of (λ k. (rest : List ℕ) × Bare w t (take k c ++ rest)) (reach f c) (farthest gs c)
    (q.0, g (take (reach f c) c ++ q.0) q.1) (begins-proper w t gs r c)

most-some : (w t : Option ℕ) (fs : List (List Part)) → Proper w t fs → (u v z : List ℕ) → FitsSome fs (u ++ z) → length u ≤ farthest fs (u ++ v)
unfolding farthest
most-some w t fs done u v z h = absurd h
most-some w t fs (also {f = f} {fs = gs} e g r) u v z (inl h) =
    omega (arith, reach-most f e u v z h)
most-some w t fs (also {f = f} {fs = gs} e g r) u v z (inr h) =
    omega (arith, most-some w t gs r u v z h)

-- ---- the parts of the forms

-- these bytes, and then the parts
abbrev word : List ℕ → List Part → List Part
word [] ps = ps
word (x ∷ a) ps = exactly 1 (eqb x) ∷ word a ps

word-clear : (a : List ℕ) (ps : List Part) → Clear ps → Clear (word a ps)
word-clear [] ps c = c
word-clear (x ∷ a) ps c = (record { byte = x; passes = eq-eqb x x refl; room = omega arith }, inl refl, word-clear a ps c)

word_in : (a : List ℕ) (ps : List Part) (b : List ℕ) → Fits ps b → Fits (word a ps) (a ++ b)
word_in [] ps b h = h
word_in (x ∷ a) ps b h =
    (x ∷ [], a ++ b, record { each = rw (eq-eqb x x refl); enough = omega arith; few = omega arith }, refl, word_in a ps b h)

one_byte : (x : ℕ) (a : List ℕ) → Takes (exactly 1 (eqb x)) a → a ≡ x ∷ []
one_byte x [] k = absurd (omega (arith, k.enough))
one_byte x (y ∷ []) k = ap (λ (n : ℕ). n ∷ []) (sym (eqb-true x y (both (eqb x y) true k.each).0))
one_byte x (y ∷ z ∷ a) k = absurd (omega (arith, k.few))

word_out : (a : List ℕ) (ps : List Part) (g : List ℕ) → Fits (word a ps) g → (b : List ℕ) × (g ≡ a ++ b) × Fits ps b
word_out [] ps g h = (g, refl, h)
word_out (x ∷ a) ps g h = let r = word_out a ps h.1 h.4 in
    (r.0, h.3 ∙ ap (◌++ h.1) (one_byte x h.0 h.2) ∙ ap (λ (l : List ℕ). x ∷ l) r.1, r.2)

-- blanks, or none, at the end
end-clear : Clear (blanks ∷ [])
end-clear = (record { byte = 32; passes = refl; room = omega arith }, inr (λ x b q h. cons-ne-nil x b h), tt)

end-in : (g : List ℕ) → all is_blank g ≡ true → Fits (blanks ∷ []) g
end-in g h = (g, [], record { each = h; enough = omega arith; few = omega arith }, sym (append-nil g), refl)

end-out : (g : List ℕ) → Fits (blanks ∷ []) g → all is_blank g ≡ true
end-out g h = rw (h.3, h.4, append-nil) h.2.each

-- a line begins with what the first part takes, where that is not nothing
starts : (p : Part) (ps : List Part) (x : ℕ) (b : List ℕ) → 1 ≤ p.least → Fits (p ∷ ps) (x ∷ b) → p.test x ≡ true
starts p ps x b l h = go h.0 h.2 h.3
  where
    go : (a : List ℕ) → Takes p a → x ∷ b ≡ a ++ h.1 → p.test x ≡ true
    go [] k e = absurd (omega (arith, k.enough))
    go (y ∷ a) k e = let q : x ≡ y = cc in rw q (both (p.test y) (all p.test a) k.each).0

-- one or more blanks, p, and the end
module _ (p : Part) where
  abbrev gapped : List Part
  gapped = or_more 1 is_blank ∷ p ∷ blanks ∷ []

  gap-clear : Sound p → 1 ≤ p.least → ((x : ℕ) → p.test x ≡ true → high x ≡ true) → Clear gapped
  gap-clear s l f = (record { byte = 32; passes = refl; room = omega arith }, inr before, (s, inr after, end-clear))
    where
      before : (x : ℕ) (b : List ℕ) → is_blank x ≡ true → Fits (p ∷ blanks ∷ []) (x ∷ b) → ⊥
      before x b q h = clash q (high-solid x (f x (starts p (blanks ∷ []) x b l h)))

      after : (x : ℕ) (b : List ℕ) → p.test x ≡ true → Fits (blanks ∷ []) (x ∷ b) → ⊥
      after x b q h = clash (both (is_blank x) (all is_blank b) (end-out (x ∷ b) h)).0 (high-solid x (f x q))

  gap-in : (b d s : List ℕ) → Takes (or_more 1 is_blank) b → Takes p d → all is_blank s ≡ true → Fits gapped ((b ++ d) ++ s)
  gap-in b d s k l h = (b, d ++ s, k, append_assoc b d s, (d, s, l, refl, end-in s h))

  gap-text : (g : List ℕ) (h : Fits gapped g) → g ≡ (h.0 ++ h.4.0) ++ h.4.1
  gap-text g h = h.3 ∙ ap (h.0 ++◌) h.4.3 ∙ sym (append_assoc h.0 h.4.0 h.4.1)

-- ---- the forms

abbrev numeral : Part
numeral = between 1 most_digits is_digit

number-clear : (x : ℕ) → Clear (number_form x)
number-clear x = word-clear (46 ∷ x ∷ []) (gapped numeral)
    (gap-clear numeral (record { byte = 48; passes = refl; room = omega arith }) (omega arith) digit-high)

number_in : (x n : ℕ) (c s : List ℕ) → Names x c n → all is_blank s ≡ true → Fits (number_form x) (c ++ s)
number_in x n c s h k = rw h.text (word_in (46 ∷ x ∷ []) (gapped numeral) ((h.blanks ++ h.digits) ++ s) (gap-in numeral h.blanks h.digits s
    (record { each = h.between.each; enough = h.between.one; few = omega arith })
    (record { each = h.number.each; enough = h.number.one; few = h.number.few }) k))

cube-clear : (n m : ℕ) → Clear (cube_form n (suc m))
cube-clear n m = (
  record { byte = 48; passes = refl; room = omega arith },
  inl refl,
  gap-clear (exactly (suc m) is_mark) (record { byte = 48; passes = refl; room = omega arith }) (omega arith) mark-high,
)

cube-in : (n m : ℕ) (c s : List ℕ) (l : CubeLine) → Writes n m c l → all is_blank s ≡ true → Fits (cube_form n m) (c ++ s)
cube-in n m c s l h k = (
  l.places,
  (h.blanks ++ h.signs) ++ s,
  record { each = h.places; enough = omega (arith, h.number); few = omega (arith, h.number) },
  rw h.text (append_assoc l.places (h.blanks ++ h.signs) s),
  gap-in (exactly m is_mark) h.blanks h.signs s (record { each = h.between.each; enough = h.between.one; few = omega arith })
      (record { each = h.each; enough = omega (arith, h.count); few = omega (arith, h.count) }) k,
)

-- a line that fits a form is good
module _ (w t : Option ℕ) where
  word_good : (a : List ℕ) → Spelled a End → (g : List ℕ) → Fits (word a (blanks ∷ [])) g → Bare w t g
  word_good a q g h = let r = word_out a (blanks ∷ []) g h in
      record { kept = a; tail = r.0; text = r.1; kind = spelled End q; blank = end-out r.0 r.2 }

  number-good : (x : ℕ) (k : ℕ → Kind) → ((c : List ℕ) (n : ℕ) → Names x c n → Spelled c (k n)) → (g : List ℕ) → Fits (number_form x) g → Bare w t g
  number-good x k f g h =
      let r = word_out (46 ∷ x ∷ []) (gapped numeral) g h in
      let b = r.2.0 in
      let d = r.2.4.0 in
      let e = r.2.4.2 in
      let y : Names x (46 ∷ x ∷ (b ++ d)) (read_back 0 d) = record {
        blanks = b;
        digits = d;
        text = refl;
        between = record { one = r.2.2.enough; each = r.2.2.each };
        number = record { one = e.enough; few = e.few; each = e.each; value = refl };
      } in
      record {
        kept = 46 ∷ x ∷ (b ++ d);
        tail = r.2.4.1;
        text = r.1 ∙ ap (λ (l : List ℕ). 46 ∷ x ∷ l) (gap-text numeral r.0 r.2);
        kind = spelled (k (read_back 0 d)) (f (46 ∷ x ∷ (b ++ d)) (read_back 0 d) y);
        blank = end-out r.2.4.1 r.2.4.4;
      }

  cube-good : (n m : ℕ) → w ≡ some n → t ≡ some m → (g : List ℕ) → Fits (cube_form n m) g → Bare w t g
  cube-good n m p q g h =
      let a = h.0 in
      let b = h.4.0 in
      let d = h.4.4.0 in
      let s = h.4.4.1 in
      let l : CubeLine = record { places = a; marks = map (eqb 49) d } in
      let y : Writes n m (a ++ (b ++ d)) l = record {
        blanks = b;
        signs = d;
        text = refl;
        number = omega (arith, h.2.enough, h.2.few);
        places = h.2.each;
        between = record { one = h.4.2.enough; each = h.4.2.each };
        count = omega (arith, h.4.4.2.enough, h.4.4.2.few);
        each = h.4.4.2.each;
        marks = refl;
      } in
      record {
        kept = a ++ (b ++ d);
        tail = s;
        text = h.3 ∙ ap (a ++◌) (gap-text (exactly m is_mark) h.1 h.4) ∙ sym (append_assoc a (b ++ d) s);
        kind = cube n m l p q y;
        blank = end-out s h.4.4.4;
      }

  -- and a good line fits one
  spelled-some : (c s : List ℕ) (k : Kind) → Spelled c k → all is_blank s ≡ true → FitsSome (forms w t) (c ++ s)
  spelled-some c s k (bare e) h = inl (rw e (end-in s h))
  spelled-some c s k (dot_i n y) h = inr (inl (number_in 105 n c s y h))
  spelled-some c s k (dot_o n y) h = inr (inr (inl (number_in 111 n c s y h)))
  spelled-some c s k (dot_p n y) h = inr (inr (inr (inl (number_in 112 n c s y h))))
  spelled-some c s k (dot_e e) h = inr (inr (inr (inr (inl (rw e (word_in (46 ∷ 101 ∷ []) (blanks ∷ []) s (end-in s h)))))))
  spelled-some c s k (dot_end e) h = inr (inr (inr (inr (inr (inl (rw e (word_in (46 ∷ 101 ∷ 110 ∷ 100 ∷ []) (blanks ∷ []) s (end-in s h))))))))

  kinded-some : (c s : List ℕ) → Kinded w t c → all is_blank s ≡ true → FitsSome (forms w t) (c ++ s)
  kinded-some c s (spelled k y) h = spelled-some c s k y h
  kinded-some c s (cube n m l p q y) h = rw (p, q) (inr (inr (inr (inr (inr (inr (inl (cube-in n m c s l y h))))))))

  bare-some : (g : List ℕ) → Bare w t g → FitsSome (forms w t) g
  bare-some g b = rw b.text (kinded-some b.kept b.tail b.kind b.blank)

cubes-proper : (n m : ℕ) → Proper (unless_zero n) (unless_zero m) (cube_forms (unless_zero n) (unless_zero m))
cubes-proper zero m = done
cubes-proper (suc n) zero = done
cubes-proper (suc n) (suc m) = also (cube-clear (suc n) m) (cube-good (some (suc n)) (some (suc m)) (suc n) (suc m) refl refl) done

forms-proper : (n m : ℕ) → Proper (unless_zero n) (unless_zero m) (forms (unless_zero n) (unless_zero m))
forms-proper n m =
    let w = unless_zero n in
    let t = unless_zero m in
    also end-clear (λ g h. blank-good w t g (end-out g h))
    (also (number-clear 105) (number-good w t 105 Inputs (λ c k. dot_i k))
    (also (number-clear 111) (number-good w t 111 Outputs (λ c k. dot_o k))
    (also (number-clear 112) (number-good w t 112 Products (λ c k. dot_p k))
    (also (word-clear (46 ∷ 101 ∷ []) (blanks ∷ []) end-clear) (word_good w t (46 ∷ 101 ∷ []) (dot_e refl))
    (also (word-clear (46 ∷ 101 ∷ 110 ∷ 100 ∷ []) (blanks ∷ []) end-clear) (word_good w t (46 ∷ 101 ∷ 110 ∷ 100 ∷ []) (dot_end refl))
    (cubes-proper n m))))))

-- with as much of c as that some good line begins
pub far-begins : (n m : ℕ) (c : List ℕ) → (rest : List ℕ)
    × Bare (unless_zero n) (unless_zero m) (take (farthest (forms (unless_zero n) (unless_zero m)) c) c ++ rest)
far-begins n m c = begins-proper (unless_zero n) (unless_zero m) (forms (unless_zero n) (unless_zero m)) (forms-proper n m) c

-- and with no more
pub far-most : (n m : ℕ) (c z : List ℕ) (j : ℕ) → j ≤ length c → Bare (unless_zero n) (unless_zero m) (take j c ++ z)
    → j ≤ farthest (forms (unless_zero n) (unless_zero m)) c
far-most n m c z j h b =
    let s = bare-some (unless_zero n) (unless_zero m) (take j c ++ z) b in
    let q = most-some (unless_zero n) (unless_zero m) (forms (unless_zero n) (unless_zero m)) (forms-proper n m) (take j c) (drop j c) z s in
    rw (length-take-le j c h, take-append-drop j c) at q
