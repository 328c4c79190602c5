-- The cube order: decided by the first difference, a prefix first; found from the least literal that only one of two cubes has; kept where
-- a literal of both is removed. Assumes nothing.
use mathlib.Core.Path.{◌≡◌, refl, sym, ◌∙◌, ap, ap₂, subst}
use mathlib.Core.Bool.{Bool, true, false, cond, xor, true≢false, false≢true}
use mathlib.Core.List.{List, [], ◌∷◌, ◌++◌}
use mathlib.Core.Logic.{◌⊎◌, inl, inr}
use mathlib.Core.Option.{none, some}
use Prim.Native.Nat.{ℕ, zero-le, ◌<◌, ◌≤◌}
use native.Mathlib.Omega.{arith}
use lib.Bits.{bit_xor}
use lib.Dec.{eqb, ltb, leb}
use borrow.Author.Tests.{ltb-true, ne_eqb, lt-ltb, le-leb, lt-leb}
use Rattle.sets.specs.Sets.{mem, asc, before, first_from}
use Rattle.sets.specs.{Lists.is_some, Masks.literals}
use Rattle.sets.specs.Meaning.{Earlier, prefix, differ}
use Rattle.sets.proofs.Truth.{decided, clash, Stand, below, equal, beyond, compared}
use Rattle.sets.proofs.Orders.{ltb-order, before-order, asym, lex-true, lex-self}
use Rattle.sets.proofs.Sets.{mem-head, head-le, tail-asc, tail-mem, ext}
use Rattle.sets.proofs.Literals.{literals-asc, mem-xor}
use Rattle.sets.proofs.First.{none_first, some_first, IsFirst}

pub before-irrefl : (a : List ℕ) → before a a ≡ false
before-irrefl = before-order.irrefl

pub before-trans : (a b c : List ℕ) → before a b ≡ true → before b c ≡ true → before a c ≡ true
before-trans = before-order.trans

pub before-linear : (a b : List ℕ) → before a b ≡ false → before b a ≡ false → a ≡ b
before-linear = before-order.linear

pub before-asym : (a b : List ℕ) → before a b ≡ true → before b a ≡ false
before-asym = asym before before-order

-- ---- the first difference decides, a prefix comes first

-- what `before` says of two lists that begin alike, and of two that do not
pub before_same : (x : ℕ) (a b : List ℕ) → before (x ∷ a) (x ∷ b) ≡ before a b
unfolding before
before_same x a b = lex-self ltb ltb-order x (before a b)

pub before_head : (x y : ℕ) (a b : List ℕ) → x < y → before (x ∷ a) (y ∷ b) ≡ true
unfolding before
before_head x y a b h = rw (lt-ltb x y h)

pub before-earlier : (a b : List ℕ) → before a b ≡ true → Earlier a b
unfolding before
before-earlier a [] h = absurd (false≢true h)
before-earlier [] (y ∷ b) h = prefix y b refl
before-earlier (x ∷ a) (y ∷ b) h = go (lex-true ltb ltb-order x y (before a b) h) (before-earlier a b)
  where
    more : x ≡ y → Earlier a b → Earlier (x ∷ a) (y ∷ b)
    more e (prefix z r q) = prefix z r (ap₂ ◌∷◌ (sym e) q)
    more e (differ u v p r s q t l) = differ u v (x ∷ p) r s (ap (x ∷◌) q) (ap₂ ◌∷◌ (sym e) t) l

    go : (ltb x y ≡ true) ⊎ ((x ≡ y) × (before a b ≡ true)) → (before a b ≡ true → Earlier a b) → Earlier (x ∷ a) (y ∷ b)
    go (inl l) k = differ x y [] a b refl refl (ltb-true x y l)
    go (inr (e, l)) k = more e (k l)

pub earlier-before : (a b : List ℕ) → Earlier a b → before a b ≡ true
unfolding before
earlier-before a b (prefix y r e) = rw e (go a)
  where
    go : (c : List ℕ) → before c (c ++ (y ∷ r)) ≡ true
    go [] = refl
    go (x ∷ c) = before_same x c (c ++ (y ∷ r)) ∙ go c
earlier-before a b (differ x y p r s e f l) = rw (e, f) (go p)
  where
    go : (c : List ℕ) → before (c ++ (x ∷ r)) (c ++ (y ∷ s)) ≡ true
    go [] = before_head x y r s l
    go (z ∷ c) = before_same z (c ++ (x ∷ r)) (c ++ (y ∷ s)) ∙ go c

-- ---- by the least literal that only one of two ascending lists has

-- the first list has d, the second has not, and below d they are alike: the first comes first just if the second goes on past d
pub before-first : (a b : List ℕ) (d : ℕ) → asc a ≡ true → asc b ≡ true
    → ((l : ℕ) → l < d → mem l a ≡ mem l b) → mem d a ≡ true → mem d b ≡ false → before a b ≡ is_some (first_from d b)
unfolding before first_from mem
before-first [] b d p q h m k = absurd (false≢true m)
before-first (x ∷ a) [] d p q h m k = refl
before-first (x ∷ a) (y ∷ b) d p q h m k = go (compared x d) (before-first a b d (tail-asc x a p) (tail-asc y b q))
  where
    le : x ≤ d
    le = head-le x a d p m

    go : Stand x d → (((l : ℕ) → l < d → mem l a ≡ mem l b) → mem d a ≡ true → mem d b ≡ false → before a b ≡ is_some (first_from d b))
        → before (x ∷ a) (y ∷ b) ≡ is_some (cond (leb d y) (some y) (first_from d b))
    go (below s _ _) ih =
        let yx : y ≤ x = head-le y b x q (sym (h x s) ∙ mem-head x a) in
        let xy : x ≤ y = head-le x a y p (h y (omega arith) ∙ mem-head y b) in
        let e : y ≡ x = omega arith in
        let q' : asc (x ∷ b) ≡ true = rw e at q in
        let ne : eqb d x ≡ false = ne_eqb d x (λ (t : d ≡ x). omega arith) in
        let ne' : eqb d y ≡ false = ne_eqb d y (λ (t : d ≡ y). omega arith) in
        ap (λ (z : ℕ). before (x ∷ a) (z ∷ b)) e ∙ before_same x a b
        ∙ ih (λ l lt. tail-mem x a b l p q' (subst (λ (z : ℕ). mem l (x ∷ a) ≡ mem l (z ∷ b)) e (h l lt))) (rw ne at m) (rw ne' at k)
        ∙ rw (lt-leb d y (omega arith))
    go (equal s _ _) ih = later (compared y d)
      where
        later : Stand y d → before (x ∷ a) (y ∷ b) ≡ is_some (cond (leb d y) (some y) (first_from d b))
        later (below t _ _) = let xy : x ≤ y = head-le x a y p (h y t ∙ mem-head y b) in absurd (omega arith)
        later (equal t _ _) = clash (subst (λ (z : ℕ). mem z (y ∷ b) ≡ true) t (mem-head y b)) k
        later (beyond t _ _) = before_head x y a b (omega arith) ∙ rw (le-leb d y (omega arith))
    go (beyond s _ _) ih = absurd (omega (arith, le))

-- the lists differ, so one comes first
before-other : (a b : List ℕ) (d : ℕ) → mem d a ≡ true → mem d b ≡ false → before a b ≡ false → before b a ≡ true
before-other a b d m k h = elim (decided (before b a)) [ inl t ↦ t | inr t ↦ clash m (ap (mem d) (before-linear a b h t) ∙ k) ]

-- ---- by masks, at any width: the literals of the masks' `^` are those that exactly one cube has

xor-false : (a b : Bool) → xor a b ≡ false → a ≡ b
unfolding xor
xor-false true true h = refl
xor-false true false h = h
xor-false false true h = sym h
xor-false false false h = refl

xor-left : (a b : Bool) → xor a b ≡ true → a ≡ true → b ≡ false
unfolding xor
xor-left true true h p = sym h
xor-left true false h p = refl
xor-left false b h p = absurd (false≢true p)

xor-right : (a b : Bool) → xor a b ≡ true → a ≡ false → b ≡ true
unfolding xor
xor-right true b h p = absurd (true≢false p)
xor-right false true h p = refl
xor-right false false h p = h

module _ (w p n q m : ℕ) where
  abbrev one : List ℕ
  one = literals w p n

  abbrev two : List ℕ
  two = literals w q m

  abbrev odd : List ℕ
  odd = literals w (bit_xor p q) (bit_xor n m)

  -- no literal that only one has: the cubes are the same
  pub none-odd : none ≡ first_from 0 odd → one ≡ two
  none-odd f = ext one two (literals-asc w p n) (literals-asc w q m)
      (λ l. xor-false (mem l one) (mem l two) (sym (mem-xor w p n q m l) ∙ none_first 0 odd (sym f) l zero-le))

  -- else the least such literal d decides: its cube comes first just if the other goes on past d
  module _ (d : ℕ) (f : some d ≡ first_from 0 odd) where
    first : IsFirst 0 odd d
    first = some_first 0 odd d (literals-asc w (bit_xor p q) (bit_xor n m)) (sym f)

    alike : (l : ℕ) → l < d → mem l one ≡ mem l two
    alike l h = xor-false (mem l one) (mem l two) (sym (mem-xor w p n q m l) ∙ first.least l zero-le h)

    apart : xor (mem d one) (mem d two) ≡ true
    apart = sym (mem-xor w p n q m d) ∙ first.is_in

    left : mem d one ≡ true → before one two ≡ is_some (first_from d two)
    left i = before-first one two d (literals-asc w p n) (literals-asc w q m) alike i (xor-left (mem d one) (mem d two) apart i)

    right : mem d one ≡ false → before two one ≡ is_some (first_from d one)
    right i = before-first two one d (literals-asc w q m) (literals-asc w p n) (λ l h. sym (alike l h)) (xor-right (mem d one) (mem d two) apart i) i

    pub left-before : mem d one ≡ true → is_some (first_from d two) ≡ true → before one two ≡ true
    left-before i s = left i ∙ s

    pub left_after : mem d one ≡ true → is_some (first_from d two) ≡ false → before two one ≡ true
    left_after i s = before-other one two d i (xor-left (mem d one) (mem d two) apart i) (left i ∙ s)

    pub right-after : mem d one ≡ false → is_some (first_from d one) ≡ true → before two one ≡ true
    right-after i s = right i ∙ s

    pub right-before : mem d one ≡ false → is_some (first_from d one) ≡ false → before one two ≡ true
    right-before i s = before-other two one d (xor-right (mem d one) (mem d two) apart i) i (right i ∙ s)
