-- The column of a line of no kind in the paper's words, of one of a kind, and of a cube line that comes too early. Assumes nothing.
use Prim.Native.Nat.{ℕ, suc, ◌+◌, ◌<◌, ◌≤◌}
use mathlib.Core.Path.{◌≡◌, refl, sym, ap, ◌∙◌, subst}
use mathlib.Core.Logic.{◌⊎◌, inl, inr, ◌↔◌}
use mathlib.Core.Option.{Option, none}
use mathlib.Core.Bool.{Bool, true, false, cond, not, ◌||◌, false≢true}
use mathlib.Core.List.{List, [], ◌∷◌, ◌++◌, append-nil, append_assoc}
use native.Mathlib.Omega.{arith}
use lib.Dec.{eqb}
use lib.ListN.{length, take, drop, get_or, take-append-drop}
use lib.Seq.{length-take-le, take-length, take-suc, take-take, get_or-take, append_snoc, split_at}
use borrow.Author.Tests.{eqb-true, eqb-false, not-true}
use Rattle.sets.{specs.Lists.all, specs.Sets.same, proofs.Truth.both, proofs.Truth.together, proofs.Truth.either}
use Rattle.sets.proofs.Lists.{all-imp, all_join, all-parts}
use Rattle.letters.specs.Meaning.{is_digit}
use Rattle.table_lines.specs.Text.{is_blank, starts_blank, uncommented, trim_front, trim_end, content}
use Rattle.table_lines.specs.Meaning.{lacks, ends_blank, Leaves}
use Rattle.table_lines.proofs.{Blanks.front-blanks, Blanks.front-solid, Spans.span-inside, Parting.end-out, Parting.content-iff}
use Rattle.table_kinds.specs.{Kinds.kind_of, Kinds.named, declared.Kind.Kind, declared.Kind.TheVariants.Empty, declared.Kind.TheVariants.Other}
use Rattle.table_kinds.specs.Meaning.{Names, Spelled, bare, dot_i, dot_o, dot_p, dot_e, dot_end}
use Rattle.table_rows.specs.Lines.{is_place, is_mark}
use Rattle.table_columns.specs.Forms.{front, reach, forms, farthest}
use Rattle.table_columns.specs.Columns.{unless_zero, place_in, place_of, column_of}
use Rattle.table_columns.specs.Meaning.{Kinded, spelled, cube, Good, Begins, First, Fault, soon, byte, FirstOf}
use Rattle.table_columns.proofs.Counting.{far-bound, known-one, cubes-less, kind-none, in-bound}
use Rattle.table_columns.proofs.Bytes.{high, digit-high, mark-high, place-high, high-solid, plain, highs-plain, blanks-plain}
use Rattle.table_columns.proofs.Standing.{start, gap-blank, line-take, line_at, only, first-pointed}
use Rattle.table_columns.proofs.Fitting.{Bare, far-begins, far-most}

-- no column is past the one after the line
pub place-bound : (r : ℕ) (w t : Option ℕ) (k : ℕ) (l : List ℕ) → place_of r w t k l ≤ length l
unfolding place_of
place-bound r w t k l = go (eqb p (length (content l)))
  where
    p : ℕ
    p = place_in r w t k (content l)

    go : (b : Bool) → cond b (length l) (start l + p) ≤ length l
    go true = omega arith
    go false = omega (arith, in-bound r w t k (content l), span-inside l)

-- ---- what is of a kind: at neither end stands a blank, and no `#` is in it

record Clean (c : List ℕ) : Type 0 where
  starts : starts_blank c ≡ false
  ends : ends_blank c ≡ false
  lacking : lacks 35 c ≡ true

clean-as : {c d : List ℕ} → c ≡ d → starts_blank d ≡ false → ends_blank d ≡ false → lacks 35 d ≡ true → Clean c
clean-as e s n l = subst Clean (sym e) (record { starts = s; ends = n; lacking = l })

starts-high : (a s : List ℕ) → 1 ≤ length a → all high a ≡ true → starts_blank (a ++ s) ≡ false
starts-high [] s n h = absurd (omega arith)
starts-high (x ∷ a) s n h = high-solid x (both (high x) (all high a) h).0

ends-high : (s d : List ℕ) → 1 ≤ length d → all high d ≡ true → ends_blank (s ++ d) ≡ false
ends-high [] [] n h = absurd (omega arith)
ends-high [] (x ∷ []) n h = high-solid x (both (high x) true h).0
ends-high [] (x ∷ y ∷ d) n h = ends-high [] (y ∷ d) (omega arith) (both (high x) (all high (y ∷ d)) h).1
ends-high (x ∷ []) [] n h = absurd (omega arith)
ends-high (x ∷ []) (y ∷ d) n h = ends-high [] (y ∷ d) n h
ends-high (x ∷ y ∷ s) d n h = ends-high (y ∷ s) d n h

-- bytes, blanks and bytes
spaced : (c a g d : List ℕ) → c ≡ a ++ (g ++ d) → 1 ≤ length a → all high a ≡ true → all is_blank g ≡ true → 1 ≤ length d → all high d ≡ true → Clean c
spaced c a g d e n h b m k =
    clean-as e (starts-high a (g ++ d) n h) (rw append_assoc at (ends-high (a ++ g) d m k))
    (all_join plain a (g ++ d) (highs-plain a h) (all_join plain g d (blanks-plain g b) (highs-plain d k)))

named-clean : (x n : ℕ) (c : List ℕ) → high x ≡ true → Names x c n → Clean c
named-clean x n c h w =
    spaced c (46 ∷ x ∷ []) w.blanks w.digits w.text (omega arith) (together (high x) true h refl) w.between.each
    w.number.one (all-imp is_digit high digit-high w.digits w.number.each)

spelled-clean : {c : List ℕ} {k : Kind} → Spelled c k → Clean c
spelled-clean (bare e) = clean-as e refl refl refl
spelled-clean {c} (dot_i n h) = named-clean 105 n c refl h
spelled-clean {c} (dot_o n h) = named-clean 111 n c refl h
spelled-clean {c} (dot_p n h) = named-clean 112 n c refl h
spelled-clean (dot_e e) = clean-as e refl refl refl
spelled-clean (dot_end e) = clean-as e refl refl refl

kinded-clean : (n m : ℕ) {c : List ℕ} → Kinded (unless_zero n) (unless_zero m) c → Clean c
kinded-clean n m (spelled k h) = spelled-clean h
kinded-clean n m {c} (cube i o l p q w) =
    let a = known-one n i p in
    let b = known-one m o q in
    spaced c l.places w.blanks w.signs w.text (omega (arith, w.number)) (all-imp is_place high place-high l.places w.places)
    w.between.each (omega (arith, w.count)) (all-imp is_mark high mark-high w.signs w.each)

-- ---- a good line, and one with nothing before it and no comment

-- blanks before it leave it good
bare-good : (n m : ℕ) (f a : List ℕ) → all is_blank f ≡ true → Bare (unless_zero n) (unless_zero m) a → Good (unless_zero n) (unless_zero m) (f ++ a)
bare-good n m f a h b = let p = kinded-clean n m b.kind in
    subst (Kinded (unless_zero n) (unless_zero m)) (sym ((content-iff (f ++ a) b.kept).1 (record {
      front = f;
      back = b.tail;
      comment = [];
      text = ap (f ++◌) b.text ∙ sym (append-nil (f ++ (b.kept ++ b.tail)));
      before = h;
      after = b.blank;
      plain = all_join plain f (b.kept ++ b.tail) (blanks-plain f h)
          (all_join plain b.kept b.tail p.lacking (blanks-plain b.tail b.blank));
      hash = refl;
      starts = p.starts;
      ends = p.ends;
    }))) b.kind

-- the comment starts past what lacks `#`
comment-past : (a z : List ℕ) → lacks 35 a ≡ true → uncommented (a ++ z) ≡ a ++ uncommented z
unfolding uncommented
comment-past [] z h = refl
comment-past (x ∷ a) z h = let w = both (plain x) (lacks 35 a) h in rw (not-true (eqb x 35) w.0) (ap (λ (s : List ℕ). x ∷ s) (comment-past a z w.1))

-- a good line that goes on so after blanks is one without them and its comment
good-bare : (w t : Option ℕ) (f a z : List ℕ) → all is_blank f ≡ true → lacks 35 a ≡ true → 1 ≤ length a → starts_blank a ≡ false
    → Good w t (f ++ (a ++ z)) → (y : List ℕ) × Bare w t (a ++ y)
good-bare w t f [] z h p n s g = absurd (omega arith)
good-bare w t f (x ∷ a) z h p n s g =
    let y = uncommented z in
    let u : uncommented (f ++ (x ∷ (a ++ z))) ≡ f ++ (x ∷ (a ++ y)) =
    comment-past f (x ∷ (a ++ z)) (blanks-plain f h) ∙ ap (f ++◌) (comment-past (x ∷ a) z p) in
    let c : content (f ++ (x ∷ (a ++ z))) ≡ trim_end (x ∷ (a ++ y)) =
    ap (λ (v : List ℕ). trim_end (trim_front v)) u ∙ ap trim_end (front-blanks f (x ∷ (a ++ y)) h ∙ front-solid (x ∷ (a ++ y)) s) in
    let e = end-out (x ∷ (a ++ y)) in
    (y, record { kept = trim_end (x ∷ (a ++ y)); tail = e.0; text = e.2; kind = subst (Kinded w t) c g; blank = e.1 })

-- what is left of a line starts with no blank and lacks `#`
parted : (l : List ℕ) → Leaves l (content l)
parted l = (content-iff l (content l)).0 refl

left-plain : (l : List ℕ) → lacks 35 (content l) ≡ true
left-plain l = let w = parted l in
    (all-parts plain (content l) w.back (all-parts plain w.front (content l ++ w.back) w.plain).1).0

-- ---- a line of no kind

take-starts : (j : ℕ) (c : List ℕ) → starts_blank c ≡ false → starts_blank (take (suc j) c) ≡ false
take-starts j [] h = refl
take-starts j (x ∷ c) h = h

module _ (n m : ℕ) (l : List ℕ) where
  abbrev far : ℕ
  far = farthest (forms (unless_zero n) (unless_zero m)) (content l)

  -- a good line begins with all that is left
  whole-begins : far ≡ length (content l) → Begins (unless_zero n) (unless_zero m) (content l)
  whole-begins e = let r = far-begins n m (content l) in
      let q : take far (content l) ≡ content l = ap (λ (k : ℕ). take k (content l)) e ∙ take-length (content l) in
      record { rest = r.0; good = bare-good n m [] (content l ++ r.0) refl (subst (λ (x : List ℕ). Bare (unless_zero n) (unless_zero m) (x ++ r.0)) q r.1) }

  -- no good line begins with all of it
  none-begins : far < length (content l) → Begins (unless_zero n) (unless_zero m) (content l) → ⊥
  none-begins h b =
      let g = good-bare (unless_zero n) (unless_zero m) [] (content l) b.rest refl (left-plain l) (omega arith) (parted l).starts b.good in
      let q = subst (λ (x : List ℕ). Bare (unless_zero n) (unless_zero m) (x ++ g.0)) (sym (take-length (content l))) g.1 in
      omega (arith, far-most n m (content l) g.0 (length (content l)) (omega arith) q)

  -- and then none could hold the byte there
  far-first : far < length (content l) → First (unless_zero n) (unless_zero m) l (start l + far)
  far-first h =
      let c = content l in
      let g = take (start l) l in
      let r = far-begins n m c in
      let f : take (start l + far) l ≡ g ++ take far c = line-take l far (omega arith) in
      record {
        inside = omega (arith, span-inside l);
        agrees = record {
          rest = r.0;
          good = subst (Good (unless_zero n) (unless_zero m)) (sym (ap (◌++ r.0) f ∙ append_assoc g (take far c) r.0))
              (bare-good n m g (take far c ++ r.0) (gap-blank l) r.1);
        };
        differs = λ b z y e.
            let q : take far c ++ (b ∷ z) ≡ take (suc far) c ++ z =
            sym (append_snoc (take far c) b z)
            ∙ ap (◌++ z) (ap (λ (x : ℕ). take far c ++ (x ∷ [])) (e ∙ line_at l far h) ∙ sym (take-suc c far 0 h)) in
            let t = ap (◌++ (b ∷ z)) f ∙ append_assoc g (take far c) (b ∷ z) ∙ ap (g ++◌) q in
            let p = all-parts plain (take (suc far) c) (drop (suc far) c) (ap (lacks 35) (take-append-drop (suc far) c) ∙ left-plain l) in
            let d = good-bare (unless_zero n) (unless_zero m) g (take (suc far) c) z (gap-blank l) p.0 (omega (arith, length-take-le (suc far) c h))
            (take-starts far c (parted l).starts) (subst (Good (unless_zero n) (unless_zero m)) t y) in
            omega (arith, far-most n m c d.0 (suc far) h d.1);
      }

-- at a later place some good line agrees with the byte at the earlier
module _ {w t : Option ℕ} {l : List ℕ} where
  first_below : (p q : ℕ) → First w t l p → First w t l q → p < q → ⊥
  first_below p q f g h =
      let a = take q l in
      let r = g.agrees.rest in
      let e : a ≡ take p l ++ (get_or l p 0 ∷ drop (suc p) a) =
      split_at a p 0 (omega (arith, length-take-le q l (omega (arith, g.inside))))
      ∙ ap (λ (x : List ℕ). x ++ (get_or a p 0 ∷ drop (suc p) a)) (take-take p q l (omega arith))
      ∙ ap (λ (x : ℕ). take p l ++ (x ∷ drop (suc p) a)) (get_or-take q l p 0 h) in
      f.differs (get_or l p 0) (drop (suc p) a ++ r)
      (subst (Good w t) (ap (◌++ r) e ∙ append_assoc (take p l) (get_or l p 0 ∷ drop (suc p) a) r) g.agrees.good) refl

  fault-one : {x y : ℕ} → Fault w t l x → Fault w t l y → x ≡ y
  fault-one (soon a) (soon b) = refl
  fault-one (soon a) (byte q n g) = absurd (n a)
  fault-one (byte p n f) (soon b) = absurd (n b)
  fault-one (byte p n f) (byte q k g) = ap (◌+ 1) (only (First w t l) first_below p q f g)

-- a line of no kind: the first byte that no good line could hold there, or one past a line that merely ends too soon
pub fault-iff : (n m k : ℕ) (l : List ℕ) (c : ℕ) → kind_of (content l) ≡ Other → (column_of 2 (unless_zero n) (unless_zero m) k l ≡ c)
    ↔ Fault (unless_zero n) (unless_zero m) l c
unfolding place_of place_in
fault-iff n m k l c h = (λ e. subst (Fault (unless_zero n) (unless_zero m) l) e column, λ f. fault-one column f)
  where
    go : (b : Bool) → eqb (far n m l) (length (content l)) ≡ b → Fault (unless_zero n) (unless_zero m) l (cond b (length l) (start l + far n m l) + 1)
    go true e = soon (whole-begins n m l (eqb-true (far n m l) (length (content l)) e))
    go false e = let d = eqb-false (far n m l) (length (content l)) e in
        let s : far n m l < length (content l) = omega (arith, far-bound (forms (unless_zero n) (unless_zero m)) (content l)) in
        byte (start l + far n m l) (none-begins n m l s) (far-first n m l s)

    column : Fault (unless_zero n) (unless_zero m) l (column_of 2 (unless_zero n) (unless_zero m) k l)
    column = rw h (go (eqb (far n m l) (length (content l))) refl)

-- ---- a line of a kind

-- what is of another kind than the empty line has a byte, and it is no blank
kind-solid : (c : List ℕ) → (kind_of c ≡ Empty → ⊥) → starts_blank c ≡ false → (0 < length c) × (not (is_blank (get_or c 0 0)) ≡ true)
unfolding kind_of
kind-solid [] h s = absurd (h refl)
kind-solid (x ∷ c) h s = (omega arith, rw s)

-- a line of a kind: its first byte that isn't blank
pub first-iff : (r : ℕ) (w t : Option ℕ) (k : ℕ) (l : List ℕ) (c : ℕ) → eqb r 3 ≡ false → eqb r 6 ≡ false
    → (kind_of (content l) ≡ Other → ⊥) → (kind_of (content l) ≡ Empty → ⊥)
    → (column_of r w t k l ≡ c) ↔ ((p : ℕ) × (c ≡ p + 1) × FirstOf (λ b. not (is_blank b)) l p)
unfolding place_in
first-iff r w t k l c a b o e =
    let s = kind-solid (content l) e (parted l).starts in
    first-pointed (λ x. not (is_blank x)) l (λ x h. rw h) r w t k c
    (rw (a, b, kind-none (kind_of (content l)) w t (content l) o) (record { inside = s.0; there = s.1; before = refl }))

-- ---- a line that begins as a cube line does, where none is good yet

-- one of `0 1 -` at the front: spelled as no kind, and no form goes with it
early-place : (b : ℕ) (c : List ℕ) → is_place b ≡ true → (kind_of (b ∷ c) ≡ Other) × (farthest (forms none none) (b ∷ c) ≡ 0)
unfolding kind_of named same farthest reach front
early-place b c h = elim (either (eqb b 48) (eqb b 49 || eqb b 45) h) [
  | inl e ↦ rw (eqb-true b 48 e) (refl, refl)
  | inr g ↦ elim (either (eqb b 49) (eqb b 45) g) [ inl e ↦ rw (eqb-true b 49 e) (refl, refl) | inr e ↦ rw (eqb-true b 45 e) (refl, refl) ]
]

-- while inputs or outputs are missing, a line that begins with one of `0 1 -`, as every cube line does: its first byte that isn't blank
pub early-iff : (w t : Option ℕ) (k : ℕ) (l : List ℕ) (c : ℕ) → (w ≡ none) ⊎ (t ≡ none) → is_place (get_or (content l) 0 0) ≡ true
    → (column_of 2 w t k l ≡ c) ↔ ((p : ℕ) × (c ≡ p + 1) × FirstOf (λ b. not (is_blank b)) l p)
unfolding place_in
early-iff w t k l c e h = first-pointed (λ b. not (is_blank b)) l (λ b z. rw z) 2 w t k c (go (content l) h)
  where
    less : forms w t ≡ forms none none
    less = elim e [ inl a ↦ rw a | inr a ↦ rw (a, cubes-less w) ]

    go : (d : List ℕ) → is_place (get_or d 0 0) ≡ true → FirstOf (λ b. not (is_blank b)) d (place_in 2 w t k d)
    go [] p = absurd (false≢true p)
    go (b ∷ d) p = let r = early-place b d p in
        rw (r.0, less, r.1) (record { inside = omega arith; there = rw (high-solid b (place-high b p)); before = refl })
