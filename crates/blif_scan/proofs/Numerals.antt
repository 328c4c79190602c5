-- Numbers and names in the joined text: a number ends where no digit goes on, and the digits of another stand nowhere else. Assumes nothing.
use Rattle.std.specs.Prelude.{Some, None}
use Prim.Native.Nat.{ℕ, ◌+◌, ◌-◌, ◌*◌, ◌/◌, ◌%◌, ◌<◌, ◌≤◌}
use mathlib.Core.Path.{◌≡◌, refl, sym, ◌∙◌, ap, subst}
use mathlib.Core.Bool.{true}
use mathlib.Core.List.{List, [], ◌∷◌, ◌++◌, append-nil, append_assoc, append_cancel_left}
use native.Mathlib.Omega.{arith}
use lib.ListN.{length, get_or}
use borrow.Author.Tests.{leb-true}
use Rattle.sets.{specs.Lists.all, specs.Word.largest, proofs.Truth.both, proofs.Lists.all_append}
use Rattle.letters.specs.{Letters.decimal, Meaning.read_back, Meaning.is_digit}
use Rattle.letters.proofs.Numbers.{decimal-one, decimal-more, decimal-value, decimal-digits, decimal-some, decimal-lead}
use Rattle.blif_laws.specs.{Text.Name, Text.variable, Text.output, Text.name_word, Meaning.is_clear}
use Rattle.blif_laws.proofs.{Cutting.clear_in, Naming.decimal-lacks}
use Rattle.blif_scan.specs.Scanning.{left, NextIs, Starts, by_space, by_line, by_end, EndedIs, DigitIs, NumeralIs, Small, CalledIs}
use Rattle.blif_scan.specs.declared.{Ended.Ended, Label.Label}
use Rattle.blif_scan.proofs.Scanning.{starts-tail, starts_none, starts-empty, starts-as, starts-past, ended-past}

-- ---- digits

-- a byte is a digit
pub digit-out : (b : ℕ) → is_digit b ≡ true → (48 ≤ b) × (b ≤ 57)
digit-out b h = let f = both _ _ h in (leb-true 48 b f.0, leb-true b 57 f.1)

-- neither space nor LF is in a number
pub decimal-clear : (n : ℕ) → is_clear (decimal n) ≡ true
decimal-clear n = clear_in (decimal n) (decimal-lacks 32 n refl) (decimal-lacks 10 n refl)

-- one digit more
pub decimal-next : (n d : ℕ) → 1 ≤ n → d < 10 → decimal (10 * n + d) ≡ decimal n ++ ((48 + d) ∷ [])
decimal-next n d h k =
    let q : (10 * n + d) / 10 ≡ n = omega arith in
    let r : (10 * n + d) % 10 ≡ d = omega arith in
    decimal-more (10 * n + d) (omega arith) ∙ rw (q, r)

-- more digits write no smaller number
read-grows : (t : List ℕ) (n : ℕ) → n ≤ read_back n t
unfolding read_back
read-grows [] n = omega arith
read-grows (b ∷ t) n = omega (arith, read-grows t (10 * n + (b - 48)))

read_more_lem : (s t : List ℕ) (n : ℕ) → read_back n s ≤ read_back n (s ++ t)
unfolding read_back
read_more_lem [] t n = read-grows t n
read_more_lem (b ∷ s) t n = read_more_lem s t (10 * n + (b - 48))

decimal-le : (n m : ℕ) (t : List ℕ) → decimal m ≡ decimal n ++ t → n ≤ m
decimal-le n m t e = omega (arith, decimal-value n, decimal-value m, ap (read_back 0) e, read_more_lem (decimal n) t 0)

-- the first digit
decimal-first : (m : ℕ) → (d : ℕ) × (t : List ℕ) × (d < 10) × (decimal m ≡ (48 + d) ∷ t)
decimal-first m = go (decimal m) (decimal-some m) (decimal-digits m)
  where
    go : (l : List ℕ) → 1 ≤ length l → all is_digit l ≡ true → (d : ℕ) × (t : List ℕ) × (d < 10) × (l ≡ (48 + d) ∷ t)
    go [] h k = absurd (omega arith)
    go (b ∷ t) h k =
        let d = digit-out b (both _ _ k).0 in
        let e : b ≡ 48 + (b - 48) = omega (arith, d.0) in
        (b - 48, t, omega (arith, d.0, d.1), ap (◌∷ t) e)

-- digits that go on
decimal-rest : (n m : ℕ) (t : List ℕ) → decimal m ≡ decimal n ++ t → all is_digit t ≡ true
decimal-rest n m t e =
    (both (all is_digit (decimal n)) (all is_digit t) (sym (all_append is_digit (decimal n) t) ∙ ap (all is_digit) (sym e) ∙ decimal-digits m)).1

decimal-same : (n m : ℕ) → decimal m ≡ decimal n → m ≡ n
decimal-same n m e = sym (decimal-value m) ∙ ap (read_back 0) e ∙ decimal-value n

-- the digit of a byte
digit-of : (b : ℕ) → 48 ≤ b → b ≡ 48 + (b - 48)
digit-of b h = omega arith

module _ (s : List ℕ) (at b p : ℕ) (next : NextIs s at (Some (b, p))) where
  pub digit-is : 48 ≤ b → b ≤ 57 → DigitIs s at (Some (b - 48, p))
  digit-is h k = (next.0 ∙ ap (◌∷ left s p) (digit-of b h), next.1, omega arith)

  pub digit_not : (48 ≤ b → b ≤ 57 → ⊥) → DigitIs s at None
  digit_not h = λ d t k e.
      let e₀ = next.0 in
      let f : b ≡ 48 + d = cc in
      h (omega arith) (omega arith)

pub digit-cut : (s : List ℕ) (at : ℕ) → left s at ≡ [] → DigitIs s at None
digit-cut s at e = λ d t k f. let z : ◌≡◌ {A = ℕ} 0 1 = cc in omega arith

-- ---- numbers

-- the first byte of the word
starts_first : {t w : List ℕ} {c : ℕ} → Starts t (c ∷ w) → (u : List ℕ) × (t ≡ c ∷ u)
starts_first {w = w} (by_space r e) = (w ++ (32 ∷ r), e)
starts_first {w = w} (by_line r e) = (w ++ (10 ∷ r), e)
starts_first {w = w} (by_end e) = (w, e)

-- no digit: no number
pub numeral-none : (s : List ℕ) (at : ℕ) → DigitIs s at None → NumeralIs s at None
numeral-none s at h = λ m k w.
    let f = decimal-first m in
    let u = starts_first (starts-as refl f.3 w) in
    h f.0 u.0 f.2 u.1

module _ (s : List ℕ) (at p n : ℕ) (text : left s at ≡ decimal n ++ left s p) where
  -- another number there begins with the same digits
  more : (m : ℕ) → Starts (left s at) (decimal m) → (t : List ℕ) × (decimal m ≡ decimal n ++ t) × Starts (left s p) t
  more m w = starts-past (decimal n) (decimal-clear n) (starts-as text refl w)

  -- it ends here
  pub numeral-ended : at ≤ p → (e : Ended) → EndedIs s p [] (Some e) → NumeralIs s at (Some (n, e))
  numeral-ended l e h = ended-past s (decimal n) at p text l (Some e) h

  -- it goes on with what is no digit
  numeral-by : ((m : ℕ) (t : List ℕ) → decimal m ≡ decimal n ++ t → Starts (left s p) t → t ≡ []) → EndedIs s p [] None → NumeralIs s at None
  numeral-by stop h = λ m k w. let r = more m w in h (starts-as refl (stop m r.0 r.1 r.2) r.2)

  pub numeral-stop : DigitIs s p None → EndedIs s p [] None → NumeralIs s at None
  numeral-stop none h = numeral-by stop h
    where
      stop : (m : ℕ) (t : List ℕ) → decimal m ≡ decimal n ++ t → Starts (left s p) t → t ≡ []
      stop m [] e w = refl
      stop m (b ∷ t) e w =
          let d = digit-out b (both (is_digit b) (all is_digit t) (decimal-rest n m (b ∷ t) e)).0 in
          let u = starts_first w in
          absurd (none (b - 48) u.0 (omega (arith, d.0, d.1)) (u.1 ∙ ap (◌∷ u.0) (digit-of b d.0)))

  module _ (d q : ℕ) (one : 1 ≤ n) (digit : DigitIs s p (Some (d, q))) where
    -- one digit more
    pub numeral-next : left s at ≡ decimal (10 * n + d) ++ left s q
    numeral-next =
        text ∙ ap (decimal n ++◌) digit.0
        ∙ sym (ap (◌++ left s q) (decimal-next n d one digit.2) ∙ append_assoc (decimal n) ((48 + d) ∷ []) (left s q))

    -- and no machine word holds it
    pub numeral-large : largest < 10 * n + d → NumeralIs s at None
    numeral-large l = λ m k w. let r = more m w in go m k r.0 r.1 (starts-as digit.0 refl r.2)
      where
        go : (m : ℕ) → m ≤ largest → (t : List ℕ) → decimal m ≡ decimal n ++ t → Starts ((48 + d) ∷ left s q) t → ⊥
        go m k [] e w = starts-empty w (λ f. omega arith) (λ f. omega arith)
        go m k (b ∷ t) e w =
            let same : b ≡ 48 + d = sym (starts-tail w).0 in
            let whole : decimal m ≡ decimal (10 * n + d) ++ t =
            e ∙ ap (λ (x : ℕ). decimal n ++ (x ∷ t)) same
            ∙ sym (ap (◌++ t) (decimal-next n d one digit.2) ∙ append_assoc (decimal n) ((48 + d) ∷ []) t) in
            omega (arith, decimal-le (10 * n + d) m t whole)

-- the number 0
zero-text : decimal 0 ≡ 48 ∷ []
zero-text = decimal-one 0 (omega arith)

zero-here : (s : List ℕ) (at d p : ℕ) → DigitIs s at (Some (d, p)) → d ≡ 0 → left s at ≡ decimal 0 ++ left s p
zero-here s at d p digit z = digit.0 ∙ ap (λ (x : ℕ). (48 + x) ∷ left s p) z ∙ ap (◌++ left s p) (sym zero-text)

pub numeral-zero : (s : List ℕ) (at d p : ℕ) → DigitIs s at (Some (d, p)) → d ≡ 0 → (e : Ended) → EndedIs s p [] (Some e) → NumeralIs s at (Some (0, e))
numeral-zero s at d p digit z e h = numeral-ended s at p 0 (zero-here s at d p digit z) (omega (arith, digit.1.on)) e h

-- it has no second digit
pub zero-stop : (s : List ℕ) (at d p : ℕ) → DigitIs s at (Some (d, p)) → d ≡ 0 → EndedIs s p [] None → NumeralIs s at None
zero-stop s at d p digit z h = numeral-by s at p 0 (zero-here s at d p digit z) stop h
  where
    stop : (m : ℕ) (t : List ℕ) → decimal m ≡ decimal 0 ++ t → Starts (left s p) t → t ≡ []
    stop m t e w =
        let lead : get_or (decimal m) 0 0 ≡ 48 = ap (λ (l : List ℕ). get_or l 0 0) (e ∙ ap (◌++ t) zero-text) in
        append_cancel_left (decimal 0) t [] (sym e ∙ ap decimal (decimal-lead m lead) ∙ sym (append-nil (decimal 0)))

-- ---- names

module _ (s : List ℕ) (at b p : ℕ) (next : NextIs s at (Some (b, p))) where
  -- a letter, and then a word
  pub lettered : (c : ℕ) (w : List ℕ) (r : Ended) → b ≡ c → EndedIs s p w (Some r) → EndedIs s at (c ∷ w) (Some r)
  lettered c w (Ended.Space q) e h =
      (next.0 ∙ ap (◌∷ left s p) e ∙ ap (c ∷◌) h.0, record { on = omega (arith, next.1.on, h.1.on); within = h.1.within })
  lettered c w (Ended.Line q) e h =
      (next.0 ∙ ap (◌∷ left s p) e ∙ ap (c ∷◌) h.0, record { on = omega (arith, next.1.on, h.1.on); within = h.1.within })
  lettered c w Ended.Finish e h = next.0 ∙ ap (◌∷ left s p) e ∙ ap (c ∷◌) h

  pub lettered-none : (c : ℕ) (w : List ℕ) → EndedIs s p w None → EndedIs s at (c ∷ w) None
  lettered-none c w h = λ k. h (starts-tail (starts-as next.0 refl k)).1

  pub lettered-not : (c : ℕ) (w : List ℕ) → (b ≡ c → ⊥) → EndedIs s at (c ∷ w) None
  lettered-not c w h = λ k. h (starts-tail (starts-as next.0 refl k)).0

  pub called-variable : b ≡ 120 → (v : ℕ) (e : Ended) → NumeralIs s p (Some (v, e)) → CalledIs s at (Some (Label.Variable v, e))
  unfolding name_word
  called-variable f v e h = lettered 120 (decimal v) e f h

  pub called-output : b ≡ 121 → (j : ℕ) (e : Ended) → NumeralIs s p (Some (j, e)) → CalledIs s at (Some (Label.Output j, e))
  unfolding name_word
  called-output f j e h = lettered 121 (decimal j) e f h

  -- no number follows
  pub called-none : NumeralIs s p None → CalledIs s at None
  unfolding name_word
  called-none h = λ a. elim a as (λ (z : Name). Small z → Starts (left s at) (name_word z) → ⊥) [
    | variable u ↦ λ l k. lettered-none 120 (decimal u) (h u l) k
    | output j ↦ λ l k. lettered-none 121 (decimal j) (h j l) k
  ]

  -- no letter of a name
  pub called-not : (b ≡ 120 → ⊥) → (b ≡ 121 → ⊥) → CalledIs s at None
  unfolding name_word
  called-not h k = λ a. elim a as (λ (z : Name). Small z → Starts (left s at) (name_word z) → ⊥) [
    | variable u ↦ λ l w. lettered-not 120 (decimal u) h w
    | output j ↦ λ l w. lettered-not 121 (decimal j) k w
  ]

pub lettered-cut : (s : List ℕ) (at : ℕ) → left s at ≡ [] → (c : ℕ) (w : List ℕ) → EndedIs s at (c ∷ w) None
lettered-cut s at e c w = λ k. starts_none (starts-as e refl k)

pub called-cut : (s : List ℕ) (at : ℕ) → left s at ≡ [] → CalledIs s at None
unfolding name_word
called-cut s at e = λ a. elim a as (λ (z : Name). Small z → Starts (left s at) (name_word z) → ⊥) [
  | variable u ↦ λ l k. lettered-cut s at e 120 (decimal u) k
  | output j ↦ λ l k. lettered-cut s at e 121 (decimal j) k
]

-- ---- a number that is looked for

module _ (s : List ℕ) (p n k : ℕ) where
  pub numeral-same : n ≡ k → (e : Ended) → NumeralIs s p (Some (n, e)) → EndedIs s p (decimal k) (Some e)
  numeral-same f e h = subst (λ (x : ℕ). EndedIs s p (decimal x) (Some e)) f h

  -- no digit of k follows those of n
  other : (n ≡ k → ⊥) → (t : List ℕ) → left s p ≡ decimal n ++ t → ((b : ℕ) (v : List ℕ) → is_digit b ≡ true → Starts t (b ∷ v) → ⊥)
      → EndedIs s p (decimal k) None
  other h t e stop = λ w. let r = starts-past (decimal n) (decimal-clear n) (starts-as e refl w) in go r.0 r.1 r.2
    where
      go : (v : List ℕ) → decimal k ≡ decimal n ++ v → Starts t v → ⊥
      go [] f w = h (sym (decimal-same n k (f ∙ append-nil (decimal n))))
      go (b ∷ v) f w = stop b v (both (is_digit b) (all is_digit v) (decimal-rest n k (b ∷ v) f)).0 w

  pub numeral-other : (n ≡ k → ⊥) → (e : Ended) → NumeralIs s p (Some (n, e)) → EndedIs s p (decimal k) None
  numeral-other h (Ended.Space q) g = other h (32 ∷ left s q) g.0 (λ b v d w.
      let e : 32 ≡ b = (starts-tail w).0 in omega (arith, (digit-out b d).0))
  numeral-other h (Ended.Line q) g = other h (10 ∷ left s q) g.0 (λ b v d w.
      let e : 10 ≡ b = (starts-tail w).0 in omega (arith, (digit-out b d).0))
  numeral-other h Ended.Finish g = other h [] (g ∙ sym (append-nil (decimal n))) (λ b v d w. starts_none w)
