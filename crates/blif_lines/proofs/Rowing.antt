-- Rows of signs: a text holds one row only of so many signs, so that a walk from sign to sign and from row to row finds them wherever they are.
-- Assumes nothing.
use Rattle.std.specs.Prelude.{Option, Some, None}
use Prim.Native.Nat.{ℕ, zero, suc, ◌+◌, ◌<◌, ◌≤◌}
use mathlib.Core.Path.{◌≡◌, refl, sym, ◌∙◌, ap, subst}
use mathlib.Core.{Logic.inl, Logic.inr, Bool.true, Bool.false}
use mathlib.Core.List.Memᴰ.{head as here}
use mathlib.Core.List.Memᴰ.{tail as there}
use mathlib.Core.List.{List, [], ◌∷◌, ◌++◌, map, map-append, append-nil, append_assoc}
use mathlib.Core.List.Memᴰ
use native.Mathlib.Omega.{arith}
use borrow.Author.Tests.{eqb-true, eq-eqb, ne_eqb}
use lib.Dec.{eqb}
use lib.ListN.{length, length-append}
use Rattle.sets.specs.Lists.{all}
use Rattle.sets.proofs.Truth.{both, together, decided, clash}
use Rattle.sets.proofs.Lists.{◌∈◌, all-out, all_append}
use Rattle.letters_products.specs.Spelled.{spelled}
use Rattle.table_rows.specs.Lines.{is_place}
use Rattle.network.{proofs.Handing.flat-last}
use Rattle.blif_laws.specs.{Text.ended, Reading.pointed}
use Rattle.blif_scan.specs.Scanning.{left, by_line, NextIs, EndedIs}
use Rattle.blif_scan.{proofs.Heading.ended-apart, specs.declared.Ended.Ended}
use Rattle.blif_lines.specs.Marking.{Raised}
use Rattle.blif_lines.specs.Lining.{Signs, row_line, row_end, signed, signed_in, SignIs, SignsGot, SignsNot, space_after, SpaceIs, EndIs}
use Rattle.blif_lines.specs.Lining.{RowGot, RowNot, RowIs, RowsOf, RowsGot, RowsNot}
use Rattle.blif_lines.proofs.Marking.{raised-none, raised-on}

-- ---- words of a length

-- two words of one length at the front of a text are the same
pub one-front : (u w x y : List ℕ) → length u ≡ length w → u ++ x ≡ w ++ y → (u ≡ w) × (x ≡ y)
one-front [] [] x y h e = (refl, e)
one-front [] (b ∷ w) x y h e = absurd (omega (arith, h))
one-front (b ∷ u) [] x y h e = absurd (omega (arith, h))
one-front (b ∷ u) (d ∷ w) x y h e =
    let s : b ≡ d = cc in
    let t : u ++ x ≡ w ++ y = cc in
    let r = one-front u w x y (omega (arith, h)) t in
    (ap (b ∷◌) r.0 ∙ ap (◌∷ w) s, r.1)

-- after a shorter word the next byte is of the longer one
pub byte-after : (u w x y : List ℕ) → length u < length w → u ++ x ≡ w ++ y → (b : ℕ) × (t : List ℕ) × (b ∈ w) × (x ≡ b ∷ t)
byte-after [] [] x y h e = absurd (omega (arith, h))
byte-after [] (b ∷ w) x y h e = (b, w ++ y, here refl, e)
byte-after (d ∷ u) [] x y h e = absurd (omega (arith, h))
byte-after (d ∷ u) (b ∷ w) x y h e =
    let t : u ++ x ≡ w ++ y = cc in
    let r = byte-after u w x y (omega (arith, h)) t in
    (r.0, r.1, there r.2, r.3)

-- ---- signs

signed-append : (i : ℕ) (w u : List ℕ) → signed i (w ++ u) ≡ signed i w ++ signed (i + length w) u
unfolding signed
signed-append i [] u = ap (λ (k : ℕ). signed k u) (omega arith)
signed-append i (b ∷ w) u = elim (decided (eqb b 45)) [
  | inl t ↦ rw t (signed-append (suc i) w u ∙ ap (λ (k : ℕ). signed (suc i) w ++ signed k u) (omega arith))
  | inr t ↦ rw t (ap (i ∷◌) (signed-append (suc i) w u ∙ ap (λ (k : ℕ). signed (suc i) w ++ signed k u) (omega arith)))
]

pub sign-none : (base i b : ℕ) (o : List ℕ) → b ≡ 45 → Raised base (signed i (b ∷ [])) o o
unfolding signed
sign-none base i b o e = rw (eq-eqb b 45 e) (raised-none base o)

pub sign-some : (base i b : ℕ) {o n : List ℕ} → (b ≡ 45 → ⊥) → Raised base (i ∷ []) o n → Raised base (signed i (b ∷ [])) o n
unfolding signed
sign-some base i b e x = rw (ne_eqb b 45 e) x

pub signs-none : (s : List ℕ) (at base : ℕ) (o : List ℕ) → SignsGot s at 0 base o o at
unfolding signed
signs-none s at base o = record {
  word = [];
  signs = record { number = refl; each = refl };
  text = refl;
  onward = record { on = omega arith; within = λ h. h };
  marks = raised-none base o;
}

module _ {s : List ℕ} {at i base : ℕ} {o m : List ℕ} {p : ℕ} (x : SignsGot s at i base o m p) where
  pub signs-next : (b q : ℕ) {n : List ℕ} → SignIs s p (Some (b, q)) → Raised base (signed i (b ∷ [])) m n → SignsGot s at (i + 1) base o n q
  signs-next b q {n} y z = record {
    word = x.word ++ (b ∷ []);
    signs = record {
      number = omega (arith, length-append x.word (b ∷ []), x.signs.number);
      each = all_append is_place x.word (b ∷ []) ∙ together (all is_place x.word) (all is_place (b ∷ [])) x.signs.each
          (together (is_place b) true y.2 refl);
    };
    text = x.text ∙ ap (x.word ++◌) y.0 ∙ sym (append_assoc x.word (b ∷ []) (left s q));
    onward = record { on = omega (arith, x.onward.on, y.1.on); within = λ h. y.1.within };
    marks = rw (signed-append 0 x.word (b ∷ []))
        (raised-on x.marks (subst (λ (k : ℕ). Raised base (signed k (b ∷ [])) m n) (omega (arith, x.signs.number)) z));
  }

  -- a byte that is no sign leaves no word of more signs
  pub signs-stop : (r : ℕ) → i < r → SignIs s p None → SignsNot s at r o m
  signs-stop r h f = record {
    size = x.marks.size;
    none = λ w t g e.
        let a = byte-after x.word w (left s p) t (omega (arith, x.signs.number, g.number)) (sym x.text ∙ e) in
        f a.0 a.1 (all-out is_place a.2 g.each) a.3;
  }

-- ---- the next byte

module _ (s : List ℕ) (at : ℕ) where
  pub sign-byte : (b p : ℕ) → NextIs s at (Some (b, p)) → is_place b ≡ true → SignIs s at (Some (b, p))
  sign-byte b p x h = (x.0, x.1, h)

  pub sign-other : (b p : ℕ) → NextIs s at (Some (b, p)) → is_place b ≡ false → SignIs s at None
  sign-other b p x h d t k e = let a = x.0 in let i : d ≡ b = cc in clash k (ap is_place i ∙ h)

  pub sign-end : NextIs s at None → SignIs s at None
  sign-end x d t k e = let z : ◌≡◌ {A = ℕ} 0 1 = cc in omega arith

  pub point-byte : (b p : ℕ) → NextIs s at (Some (b, p)) → eqb b 46 ≡ pointed (left s at)
  point-byte b p x = sym (ap pointed x.0)

  pub point-end : NextIs s at None → false ≡ pointed (left s at)
  point-end x = sym (ap pointed x)

  space-some : (r : ℕ) → (r ≡ 0 → ⊥) → space_after r ≡ 32 ∷ []
  space-some zero h = absurd (h refl)
  space-some (suc r) h = refl

  pub space-none : (r : ℕ) → r ≡ 0 → SpaceIs s at r (Some at)
  space-none r h = (ap (λ (k : ℕ). space_after k ++ left s at) (sym h), record { on = omega arith; within = λ k. k })

  module _ (r : ℕ) (n : r ≡ 0 → ⊥) where
    pub space-got : (b p : ℕ) → NextIs s at (Some (b, p)) → b ≡ 32 → SpaceIs s at r (Some p)
    space-got b p x h =
        (x.0 ∙ ap (◌∷ left s p) h ∙ ap (◌++ left s p) (sym (space-some r n)), record { on = omega (arith, x.1.on); within = λ k. x.1.within })

    pub space-other : (b p : ℕ) → NextIs s at (Some (b, p)) → (b ≡ 32 → ⊥) → SpaceIs s at r None
    space-other b p x h t e = let a = x.0 in let f : left s at ≡ 32 ∷ t = e ∙ ap (◌++ t) (space-some r n) in h (cc)

    pub space-end : NextIs s at None → SpaceIs s at r None
    space-end x t e = let f : left s at ≡ 32 ∷ t = e ∙ ap (◌++ t) (space-some r n) in let z : ◌≡◌ {A = ℕ} 0 1 = cc in omega arith

-- ---- the end of a row

pub end-as : (r : ℕ) → row_end r ≡ space_after r ++ (49 ∷ [])
unfolding row_end spelled
end-as zero = refl
end-as (suc r) = refl

pub row_as : (w : List ℕ) → row_line w ≡ w ++ row_end (length w)
unfolding row_line row_end
row_as [] = refl
row_as (b ∷ w) = refl

-- a row of r signs, as its signs and its end
row-text : (r : ℕ) (w t : List ℕ) → Signs r w → row_line w ++ (10 ∷ t) ≡ w ++ (row_end r ++ (10 ∷ t))
row-text r w t g = ap (◌++ (10 ∷ t)) (row_as w) ∙ append_assoc w (row_end (length w)) (10 ∷ t) ∙ ap (λ (k : ℕ). w ++ (row_end k ++ (10 ∷ t))) g.number

module _ (s : List ℕ) (at r : ℕ) where
  end-text : (t : List ℕ) → row_end r ++ (10 ∷ t) ≡ space_after r ++ (49 ∷ 10 ∷ t)
  end-text t = ap (◌++ (10 ∷ t)) (end-as r) ∙ append_assoc (space_after r) (49 ∷ []) (10 ∷ t)

  pub end-spaceless : SpaceIs s at r None → EndIs s at r None
  end-spaceless f t e = f (49 ∷ 10 ∷ t) (e ∙ end-text t)

  pub end-got : (p q : ℕ) → SpaceIs s at r (Some p) → EndedIs s p (49 ∷ []) (Some (Ended.Line q)) → EndIs s at r (Some q)
  end-got p q x y = (x.0 ∙ ap (space_after r ++◌) y.0 ∙ sym (end-text (left s q)), record { on = omega (arith, x.1.on, y.1.on); within = y.1.within })

  -- after the space `1` and an LF are all that may come
  end-text-one : (p : ℕ) → SpaceIs s at r (Some p) → (t : List ℕ) → left s at ≡ row_end r ++ (10 ∷ t) → left s p ≡ 49 ∷ 10 ∷ t
  end-text-one p x t i = (one-front (space_after r) (space_after r) (left s p) (49 ∷ 10 ∷ t) refl (sym x.0 ∙ i ∙ end-text t)).1

  pub end-wordless : (p : ℕ) → SpaceIs s at r (Some p) → EndedIs s p (49 ∷ []) None → EndIs s at r None
  end-wordless p x h t i = h (by_line t (end-text-one p x t i))

  pub end-other : (p : ℕ) (e : Ended) → SpaceIs s at r (Some p) → EndedIs s p (49 ∷ []) (Some e) → ((q : ℕ) → e ≡ Ended.Line q → ⊥) → EndIs s at r None
  end-other p (Ended.Space q) x h f t i = let a = end-text-one p x t i in let b = h.0 in let z : ◌≡◌ {A = ℕ} 32 10 = cc in omega arith
  end-other p (Ended.Line q) x h f t i = f q refl
  end-other p Ended.Finish x h f t i = let a = end-text-one p x t i in let z : ◌≡◌ {A = ℕ} 0 1 = cc in omega arith

-- ---- a row

pub row-signless : {s : List ℕ} {at r : ℕ} {o n : List ℕ} → SignsNot s at r o n → RowNot s at r o n
row-signless {r = r} x = record { size = x.size; none = λ w t g e. x.none w (row_end r ++ (10 ∷ t)) g (e ∙ row-text r w t g) }

module _ {s : List ℕ} {at r base : ℕ} {o n : List ℕ} {p : ℕ} (x : SignsGot s at r base o n p) where
  pub row_is : (a : Option ℕ) → EndIs s p r a → RowIs s at r base o n a
  row_is (Some q) y = record {
    word = x.word;
    signs = x.signs;
    text = x.text ∙ ap (x.word ++◌) y.0 ∙ sym (row-text r x.word (left s q) x.signs);
    forth = record { on = omega (arith, x.onward.on, y.1.on); within = y.1.within };
    marks = x.marks;
  }
  row_is None y = record {
    size = x.marks.size;
    none = λ w t g e.
        y t (one-front x.word w (left s p) (row_end r ++ (10 ∷ t)) (x.signs.number ∙ sym g.number) (sym x.text ∙ e ∙ row-text r w t g)).1;
  }

-- ---- rows

-- rows, each with its LF, and then t
abbrev pub row_lines : List (List ℕ) → List ℕ → List ℕ
row_lines [] t = t
row_lines (w ∷ ws) t = row_line w ++ (10 ∷ row_lines ws t)

pub rows_of : (ws : List (List ℕ)) (t : List ℕ) → ended (map row_line ws) ++ t ≡ row_lines ws t
unfolding ended
rows_of [] t = refl
rows_of (w ∷ ws) t = ended-apart (row_line w) (map row_line ws) t ∙ ap (λ (x : List ℕ). row_line w ++ (10 ∷ x)) (rows_of ws t)

rows_next : (ws : List (List ℕ)) (w t : List ℕ) → row_lines (ws ++ (w ∷ [])) t ≡ row_lines ws (row_line w ++ (10 ∷ t))
rows_next [] w t = refl
rows_next (u ∷ ws) w t = ap (λ (x : List ℕ). row_line u ++ (10 ∷ x)) (rows_next ws w t)

-- no row begins with a point
pub unpointed : (r : ℕ) (w t : List ℕ) → Signs r w → pointed (row_line w ++ t) ≡ true → ⊥
unfolding row_line spelled
unpointed r [] t g e = clash e refl
unpointed r (b ∷ w) t g e = clash (both (is_place b) (all is_place w) g.each).0 (ap is_place (eqb-true b 46 e))

-- two rows of r signs at the front of a text are the same
pub one-row : (r : ℕ) (w u x y : List ℕ) → Signs r w → Signs r u → row_line w ++ (10 ∷ x) ≡ row_line u ++ (10 ∷ y) → (w ≡ u) × (x ≡ y)
one-row r w u x y g h e =
    let a = one-front w u (row_end r ++ (10 ∷ x)) (row_end r ++ (10 ∷ y)) (g.number ∙ sym h.number) (sym (row-text r w x g) ∙ e ∙ row-text r u y h) in
    let b = (one-front (row_end r) (row_end r) (10 ∷ x) (10 ∷ y) refl a.1).1 in
    (a.0, (cc))

-- what is left of rows after some of them
rows-passed : (r : ℕ) (l : List (List ℕ)) (t : List ℕ) (ws : List (List ℕ)) (more : List ℕ)
    → ((w : List ℕ) → w ∈ l → Signs r w) → ((w : List ℕ) → w ∈ ws → Signs r w) → pointed more ≡ true → row_lines l t ≡ row_lines ws more
    → (k : List (List ℕ)) × (ws ≡ l ++ k) × (t ≡ row_lines k more)
rows-passed r [] t ws more g h c e = (ws, refl, e)
rows-passed r (w ∷ l) t [] more g h c e = absurd (unpointed r w (10 ∷ row_lines l t) (g w (here refl)) (ap pointed e ∙ c))
rows-passed r (w ∷ l) t (u ∷ ws) more g h c e =
    let a = one-row r w u (row_lines l t) (row_lines ws more) (g w (here refl)) (h u (here refl)) e in
    let k = rows-passed r l t ws more (λ x m. g x (there m)) (λ x m. h x (there m)) c a.1 in
    (k.0, ap (◌∷ ws) (sym a.0) ∙ ap (w ∷◌) k.1, k.2)

-- a text has one list of rows
pub rows-one : {t : List ℕ} {r : ℕ} {ws us : List (List ℕ)} {more less : List ℕ} → RowsOf t r ws more → RowsOf t r us less → (ws ≡ us) × (more ≡ less)
rows-one {r = r} {ws} {us} {more} {less} a b =
    let k = rows-passed r ws more us less a.each b.each b.point (sym (a.text ∙ rows_of ws more) ∙ b.text ∙ rows_of us less) in
    go k.0 k.1 k.2
  where
    go : (k : List (List ℕ)) → us ≡ ws ++ k → more ≡ row_lines k less → (ws ≡ us) × (more ≡ less)
    go [] e f = (sym (e ∙ append-nil ws), f)
    go (w ∷ k) e f = absurd (unpointed r w (10 ∷ row_lines k less) (b.each w (rw e (Memᴰ.append_right ws (here refl)))) (ap pointed (sym f) ∙ a.point))

-- the rows that are passed on the way from one place to another
pub record Rowing (s : List ℕ) (at r p count base : ℕ) (old new : List ℕ) : Type 0 where
  pub words : List (List ℕ)
  pub each : (w : List ℕ) → w ∈ words → Signs r w
  pub text : left s at ≡ row_lines words (left s p)
  pub number : count ≡ length words
  pub room : at + count ≤ p
  pub onward : (at ≤ length s → p ≤ length s)
  pub marks : Raised base (signed_in words) old new

pub rowing-none : (s : List ℕ) (at r base : ℕ) (o : List ℕ) → Rowing s at r at 0 base o o
rowing-none s at r base o = record {
  words = [];
  each = λ w m. absurd (Memᴰ.not-nil m);
  text = refl;
  number = refl;
  room = omega arith;
  onward = λ h. h;
  marks = raised-none base o;
}

module _ {s : List ℕ} {at r p count base : ℕ} {o m : List ℕ} (x : Rowing s at r p count base o m) where
  pub rowing-next : (q : ℕ) {n : List ℕ} → RowGot s p r base m n q → Rowing s at r q (count + 1) base o n
  rowing-next q y = record {
    words = x.words ++ (y.word ∷ []);
    each = λ w i. elim (Memᴰ.append_cases x.words i) [ inl j ↦ x.each w j | inr j ↦ rw (Memᴰ.eq_of_singleton j) y.signs ];
    text = x.text ∙ ap (row_lines x.words) y.text ∙ sym (rows_next x.words y.word (left s q));
    number = omega (arith, length-append x.words (y.word ∷ []), x.number);
    room = omega (arith, x.room, y.forth.on);
    onward = λ h. y.forth.within;
    marks = rw (map-append (signed 0) x.words (y.word ∷ []), flat-last (map (signed 0) x.words) (signed 0 y.word)) (raised-on x.marks y.marks);
  }

  pub rowing-got : pointed (left s p) ≡ true → RowsGot s at r base o m (record { count = count; next = p })
  rowing-got c = record {
    words = x.words;
    rows = record { each = x.each; text = x.text ∙ sym (rows_of x.words (left s p)); point = c };
    count = x.number;
    after = omega (arith, x.room);
    within = x.onward;
    marks = x.marks;
  }

  -- neither a point nor a row: there were no rows up to a point
  pub rowing-no : {n : List ℕ} → pointed (left s p) ≡ false → RowNot s p r m n → RowsNot s at r o n
  rowing-no {n} c y = record {
    size = y.size ∙ x.marks.size;
    none = λ ws t h.
        let k = rows-passed r x.words (left s p) ws t x.each h.each h.point (sym x.text ∙ h.text ∙ rows_of ws t) in
        none_left t h.point k.0 (λ w i. h.each w (rw k.1 (Memᴰ.append_right x.words i))) k.2;
  }
    where
      none_left : (t : List ℕ) → pointed t ≡ true → (ks : List (List ℕ)) → ((w : List ℕ) → w ∈ ks → Signs r w) → left s p ≡ row_lines ks t → ⊥
      none_left t d [] f e = clash d (ap pointed (sym e) ∙ c)
      none_left t d (w ∷ ks) f e = y.none w (row_lines ks t) (f w (here refl)) e
