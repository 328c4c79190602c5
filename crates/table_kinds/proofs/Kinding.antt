-- The kind of a line in the paper's words: what is found is what is written, and what is written is found. Assumes nothing.
use Prim.Native.Nat.{ℕ}
use mathlib.Core.Path.{◌≡◌, refl, sym, ap, ap₂, ◌∙◌, subst}
use mathlib.Core.Logic.{◌⊎◌, inl, inr, ◌↔◌}
use mathlib.Core.Bool.{Bool, true, false, cond, ◌&&◌, ◌||◌}
use mathlib.Core.List.{List, [], ◌∷◌, ◌++◌}
use mathlib.Core.Option.{Option, none, some}
use native.Mathlib.Omega.{arith}
use lib.Dec.{leb}
use lib.ListN.{length, take, drop, take-append-drop}
use borrow.Author.Tests.{leb-true, le-leb, ne_eqb}
use Rattle.sets.{specs.Lists.all, specs.Sets.same, proofs.Truth.both, proofs.Sets.same-eq}
use Rattle.letters.specs.Meaning.{read_back, is_digit}
use Rattle.table_lines.specs.Text.{is_blank, starts_blank, trim_front}
use Rattle.table_lines.proofs.Blanks.{gap-out, gap-in}
use Rattle.table_kinds.specs.Kinds.{most_digits, number_of, argument, with_number, named, kind_of}
use Rattle.table_kinds.specs.Meaning.{Numeral, Names, Spelled, bare, dot_i, dot_o, dot_p, dot_e, dot_end, OfKind, known, another}
use Rattle.table_kinds.specs.declared.Kind.{Kind}
use Rattle.table_kinds.specs.declared.Kind.TheVariants.{Inputs, Outputs, Products, End, Other}

-- ---- a number

number-out : (d : List ℕ) (n : ℕ) → number_of d ≡ some n → Numeral d n
unfolding number_of
number-out d n e = go (leb 1 (length d) && (leb (length d) most_digits && all is_digit d)) refl e
  where
    go : (b : Bool) → (leb 1 (length d) && (leb (length d) most_digits && all is_digit d)) ≡ b → cond b (some (read_back 0 d)) none ≡ some n → Numeral d n
    go true h q =
        let x = both (leb 1 (length d)) (leb (length d) most_digits && all is_digit d) h in
        let y = both (leb (length d) most_digits) (all is_digit d) x.1 in
        record { one = leb-true 1 (length d) x.0; few = leb-true (length d) most_digits y.0; each = y.1; value = cc }
    go false h q = let z : ◌≡◌ {A = ℕ} 0 1 = cc in absurd (omega arith)

number_in : {d : List ℕ} {n : ℕ} → Numeral d n → number_of d ≡ some n
unfolding number_of
number_in {d} h = rw (le-leb 1 (length d) h.one, le-leb (length d) most_digits h.few, h.each) (ap some h.value)

-- no digit is a blank
digit-solid : (x : ℕ) → is_digit x ≡ true → is_blank x ≡ false
digit-solid x h =
    let l = leb-true 48 x (both (leb 48 x) (leb x 57) h).0 in
    rw (ne_eqb x 32 (omega arith), ne_eqb x 9 (omega arith), ne_eqb x 13 (omega arith))

argument-in : {x n : ℕ} {c : List ℕ} (h : Names x c n) → argument (h.blanks ++ h.digits) ≡ some n
unfolding argument
argument-in h = let g = gap-in is_digit digit-solid h.blanks h.digits h.between h.number.each in
    rw (g.0, g.1) (number_in h.number)

name_out : (c : List ℕ) (x n : ℕ) → same (take 2 c) (46 ∷ x ∷ []) ≡ true → argument (drop 2 c) ≡ some n → Names x c n
unfolding argument
name_out c x n h e = go (starts_blank (drop 2 c)) refl e
  where
    go : (b : Bool) → starts_blank (drop 2 c) ≡ b → cond b (number_of (trim_front (drop 2 c))) none ≡ some n → Names x c n
    go true k q = let g = gap-out (drop 2 c) k in record {
      blanks = g.0;
      digits = trim_front (drop 2 c);
      text = sym (take-append-drop 2 c) ∙ ap₂ ◌++◌ (same-eq (take 2 c) (46 ∷ x ∷ []) h) g.2;
      between = g.1;
      number = number-out (trim_front (drop 2 c)) n q;
    }
    go false k q = let z : ◌≡◌ {A = ℕ} 0 1 = cc in absurd (omega arith)

-- ---- a kind

named-out : (c : List ℕ) (k : Kind) → named c ≡ k → (k ≡ Other) ⊎ Spelled c k
unfolding named
named-out c k e = go (same f (46 ∷ 105 ∷ [])) (same f (46 ∷ 111 ∷ [])) (same f (46 ∷ 112 ∷ [])) refl refl refl (argument (drop 2 c)) refl e
  where
    f : List ℕ
    f = take 2 c

    go : (x y z : Bool) → same f (46 ∷ 105 ∷ []) ≡ x → same f (46 ∷ 111 ∷ []) ≡ y → same f (46 ∷ 112 ∷ []) ≡ z → (o : Option ℕ) → argument (drop 2 c) ≡ o
        → cond x (with_number Inputs o) (cond y (with_number Outputs o) (cond z (with_number Products o) Other)) ≡ k → (k ≡ Other) ⊎ Spelled c k
    go true y z p q r none a h = inl (sym h)
    go true y z p q r (some n) a h = inr (subst (Spelled c) h (dot_i n (name_out c 105 n p a)))
    go false true z p q r none a h = inl (sym h)
    go false true z p q r (some n) a h = inr (subst (Spelled c) h (dot_o n (name_out c 111 n q a)))
    go false false true p q r none a h = inl (sym h)
    go false false true p q r (some n) a h = inr (subst (Spelled c) h (dot_p n (name_out c 112 n r a)))
    go false false false p q r o a h = inl (sym h)

kind-out : (c : List ℕ) (k : Kind) → kind_of c ≡ k → (k ≡ Other) ⊎ Spelled c k
unfolding kind_of
kind-out [] k e = inr (subst (Spelled []) e (bare refl))
kind-out (b ∷ t) k e = go (same (b ∷ t) (46 ∷ 101 ∷ [])) (same (b ∷ t) (46 ∷ 101 ∷ 110 ∷ 100 ∷ [])) refl refl e
  where
    go : (x y : Bool) → same (b ∷ t) (46 ∷ 101 ∷ []) ≡ x → same (b ∷ t) (46 ∷ 101 ∷ 110 ∷ 100 ∷ []) ≡ y
        → cond (x || y) End (named (b ∷ t)) ≡ k → (k ≡ Other) ⊎ Spelled (b ∷ t) k
    go true y p q h = inr (subst (Spelled (b ∷ t)) h (dot_e (same-eq (b ∷ t) (46 ∷ 101 ∷ []) p)))
    go false true p q h = inr (subst (Spelled (b ∷ t)) h (dot_end (same-eq (b ∷ t) (46 ∷ 101 ∷ 110 ∷ 100 ∷ []) q)))
    go false false p q h = named-out (b ∷ t) k h

spelled-in : {c : List ℕ} {k : Kind} → Spelled c k → kind_of c ≡ k
unfolding kind_of named same
spelled-in (bare e) = ap kind_of e
spelled-in (dot_i n h) = ap kind_of h.text ∙ rw (argument-in h)
spelled-in (dot_o n h) = ap kind_of h.text ∙ rw (argument-in h)
spelled-in (dot_p n h) = ap kind_of h.text ∙ rw (argument-in h)
spelled-in (dot_e e) = ap kind_of e
spelled-in (dot_end e) = ap kind_of e

not-other : {c : List ℕ} {k : Kind} → Spelled c k → k ≡ Other → ⊥
not-other (bare e) h = let z : ◌≡◌ {A = ℕ} 0 1 = cc in omega arith
not-other (dot_i n e) h = let z : ◌≡◌ {A = ℕ} 0 1 = cc in omega arith
not-other (dot_o n e) h = let z : ◌≡◌ {A = ℕ} 0 1 = cc in omega arith
not-other (dot_p n e) h = let z : ◌≡◌ {A = ℕ} 0 1 = cc in omega arith
not-other (dot_e e) h = let z : ◌≡◌ {A = ℕ} 0 1 = cc in omega arith
not-other (dot_end e) h = let z : ◌≡◌ {A = ℕ} 0 1 = cc in omega arith

kind-in : {c : List ℕ} {k : Kind} → OfKind c k → kind_of c ≡ k
kind-in (known h) = spelled-in h
kind-in {c} (another f) = elim (kind-out c (kind_of c) refl) [ inl q ↦ q | inr h ↦ absurd (f (kind_of c) h) ]

-- what is left of a line is of a kind exactly when it is written so; of none of these, it is another
pub kind-iff : (c : List ℕ) (k : Kind) → (kind_of c ≡ k) ↔ OfKind c k
kind-iff c k = (λ e. into e (kind-out c k e), kind-in)
  where
    into : kind_of c ≡ k → (k ≡ Other) ⊎ Spelled c k → OfKind c k
    into e (inl q) = subst (OfKind c) (sym q) (another (λ j h. not-other h (sym (spelled-in h) ∙ e ∙ q)))
    into e (inr h) = known h
