-- Numbers in decimal: case by case as they are written, and what they mean. Assumes nothing.
use Prim.Native.Nat.{ℕ, zero, suc, ◌+◌, ◌-◌, ◌*◌, ◌/◌, ◌%◌, ◌<◌, ◌≤◌}
use mathlib.Core.Path.{◌≡◌, refl, sym, ◌∙◌, ap}
use mathlib.Core.{Bool.true, Logic.inl, Logic.inr}
use mathlib.Core.List.Memᴰ
use mathlib.Core.List.{List, [], ◌∷◌, ◌++◌}
use native.Mathlib.Omega.{arith}
use lib.Dec.{ltb}
use lib.ListN.{length, get_or, length-append, get_or-append}
use borrow.Author.Tests.{lt-ltb, le-ltb, ltb-true, ltb-false, le-leb}
use Rattle.sets.{specs.Lists.all, proofs.Truth.decided, proofs.Lists.all_in, proofs.Lists.all-out}
use Rattle.letters.specs.{Letters.digits, Letters.decimal, Meaning.read_back, Meaning.is_digit}

-- ---- case by case

abbrev last : ℕ → List ℕ
last n = (48 + n % 10) ∷ []

digits-one : (k n : ℕ) → n < 10 → digits k n ≡ (48 + n) ∷ []
unfolding digits
digits-one zero n h = let e : n % 10 ≡ n = omega arith in ap (λ (d : ℕ). (48 + d) ∷ []) e
digits-one (suc k) n h = rw (lt-ltb n 10 h)

digits_more : (k n : ℕ) → 10 ≤ n → digits (suc k) n ≡ digits k (n / 10) ++ last n
unfolding digits
digits_more k n h = rw (le-ltb n 10 h)

-- as many turns as the number is large are enough
digits-enough : (j k n : ℕ) → n ≤ j → n ≤ k → digits j n ≡ digits k n
digits-enough zero k n h i = digits-one zero n (omega arith) ∙ sym (digits-one k n (omega arith))
digits-enough (suc j) zero n h i = digits-one (suc j) n (omega arith) ∙ sym (digits-one zero n (omega arith))
digits-enough (suc j) (suc k) n h i = elim (decided (ltb n 10)) [
  | inl t ↦ digits-one (suc j) n (ltb-true n 10 t) ∙ sym (digits-one (suc k) n (ltb-true n 10 t))
  | inr t ↦
      let l : 10 ≤ n = ltb-false n 10 t in
      digits_more j n l ∙ ap (◌++ last n) (digits-enough j k (n / 10) (omega arith) (omega arith)) ∙ sym (digits_more k n l)
]

pub decimal-one : (n : ℕ) → n < 10 → decimal n ≡ (48 + n) ∷ []
unfolding decimal
decimal-one n h = digits-one n n h

pub decimal-more : (n : ℕ) → 10 ≤ n → decimal n ≡ decimal (n / 10) ++ ((48 + n % 10) ∷ [])
unfolding decimal
decimal-more zero h = absurd (omega arith)
decimal-more (suc k) h = digits_more k (suc k) h ∙ ap (◌++ last (suc k)) (digits-enough k (suc k / 10) (suc k / 10) (omega arith) (omega arith))

-- by the last digit
module _ {P : ℕ → Type 0} (one : (n : ℕ) → n < 10 → P n) (more : (n : ℕ) → 10 ≤ n → P (n / 10) → P n) where
  by-turns : (k n : ℕ) → n ≤ k → P n
  by-turns zero n h = one n (omega arith)
  by-turns (suc k) n h = elim (decided (ltb n 10)) [
    | inl t ↦ one n (ltb-true n 10 t)
    | inr t ↦ let l : 10 ≤ n = ltb-false n 10 t in more n l (by-turns k (n / 10) (omega arith))
  ]

  by_digits : (n : ℕ) → P n
  by_digits n = by-turns n n (omega arith)

-- ---- what they mean

read-append : (s t : List ℕ) (n : ℕ) → read_back n (s ++ t) ≡ read_back (read_back n s) t
unfolding read_back
read-append [] t n = refl
read-append (b ∷ s) t n = read-append s t (10 * n + (b - 48))

read_one : (n d : ℕ) → read_back n ((48 + d) ∷ []) ≡ 10 * n + d
unfolding read_back
read_one n d = omega arith

-- read back in base 10, the text of a number is the number
pub decimal-value : (n : ℕ) → read_back 0 (decimal n) ≡ n
decimal-value =
    by_digits
    (λ n h. ap (read_back 0) (decimal-one n h) ∙ read_one 0 n ∙ omega arith)
    (λ n h e. ap (read_back 0) (decimal-more n h) ∙ read-append (decimal (n / 10)) _ 0 ∙ read_one (read_back 0 (decimal (n / 10))) (n % 10) ∙ omega (arith, e))

-- every byte of it is a digit
pub decimal-digits : (n : ℕ) → all is_digit (decimal n) ≡ true
decimal-digits =
    by_digits
    (λ n h. ap (all is_digit) (decimal-one n h) ∙ digit n h)
    (λ n h e. ap (all is_digit) (decimal-more n h)
    ∙ all_in is_digit (decimal (n / 10) ++ last n) (λ x m. elim (Memᴰ.append_cases (decimal (n / 10)) {t = last n} m) [
      | inl i ↦ all-out is_digit i e
      | inr j ↦ all-out is_digit j (digit (n % 10) (omega arith))
    ]))
  where
    digit : (d : ℕ) → d < 10 → all is_digit ((48 + d) ∷ []) ≡ true
    digit d h = rw (le-leb 48 (48 + d) (omega arith), le-leb (48 + d) 57 (omega arith))

-- there is a first one, and it is no `0` but for the number 0
pub decimal-some : (n : ℕ) → 1 ≤ length (decimal n)
decimal-some =
    by_digits
    (λ n h. omega (arith, ap length (decimal-one n h)))
    (λ n h e. omega (arith, ap length (decimal-more n h), length-append (decimal (n / 10)) (last n)))

pub decimal-lead : (n : ℕ) → get_or (decimal n) 0 0 ≡ 48 → n ≡ 0
decimal-lead =
    by_digits
    (λ n h e. let f : 48 + n ≡ 48 = sym (ap (λ t. get_or t 0 0) (decimal-one n h)) ∙ e in omega arith)
    (λ n h f e.
    let same = get_or-append (decimal (n / 10)) (last n) 0 0 (decimal-some (n / 10)) in
    let z : n / 10 ≡ 0 = f (sym same ∙ sym (ap (λ t. get_or t 0 0) (decimal-more n h)) ∙ e) in
    absurd (omega arith))
