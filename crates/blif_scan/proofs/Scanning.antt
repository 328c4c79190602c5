-- The joined text from a place on, byte by byte; and the words that it begins with. Assumes nothing.
use Rattle.std.specs.Prelude.{Option, Some, None}
use Prim.Native.Nat.{ℕ, ◌+◌, ◌<◌, ◌≤◌}
use mathlib.Core.Path.{◌≡◌, refl, sym, ◌∙◌, ap, subst}
use mathlib.Core.Bool.{Bool, true, false, not, ◌&&◌}
use mathlib.Core.Logic.{inl, inr}
use mathlib.Core.List.{List, [], ◌∷◌, ◌++◌, append-nil, append_assoc}
use native.Mathlib.Omega.{arith}
use lib.Dec.{eqb, ltb}
use lib.ListN.{length, get_or, take, drop, get_or-eq_default, length-append, take-append-drop}
use borrow.Author.Tests.{eqb-true, eq-eqb, ltb-true, ltb-false, not-true}
use Rattle.sets.proofs.{Truth.both, Truth.together, Truth.decided, Truth.clash, Places.drop-next, Rows.take_next}
use Rattle.blif_laws.{specs.Meaning.is_clear, proofs.Breaking.joined-break, proofs.Breaking.joined-byte}
use Rattle.blif_scan.specs.Scanning.{left, is_joint, NextIs, Starts, by_space, by_line, by_end, EndedIs}
use Rattle.blif_scan.specs.declared.Ended.{Ended}

-- ---- bytes

module _ (s : List ℕ) (p : ℕ) where
  -- the byte after it is inside
  pub joint-inside : is_joint s p ≡ true → p + 1 < length s
  joint-inside h = elim (decided (ltb (p + 1) (length s))) [
    | inl l ↦ ltb-true (p + 1) (length s) l
    | inr l ↦
        let e : get_or s (p + 1) 0 ≡ 10 = eqb-true (get_or s (p + 1) 0) 10 (both (eqb (get_or s p 0) 92) (eqb (get_or s (p + 1) 0) 10) h).1 in
        let f : get_or s (p + 1) 0 ≡ 0 = get_or-eq_default s 0 (ltb-false (p + 1) (length s) l) in
        absurd (omega arith)
  ]

  pub left-joint : is_joint s p ≡ true → left s p ≡ left s (p + 2)
  left-joint h =
      let e = both (eqb (get_or s p 0) 92) (eqb (get_or s (p + 1) 0) 10) h in
      joined-break s p (joint-inside h) (eqb-true (get_or s p 0) 92 e.0) (eqb-true (get_or s (p + 1) 0) 10 e.1)

  pub left-byte : p < length s → is_joint s p ≡ false → left s p ≡ get_or s p 0 ∷ left s (p + 1)
  left-byte l h = joined-byte s p l (λ k e f. clash (together _ _ (eq-eqb (get_or s p 0) 92 e) (eq-eqb (get_or s (p + 1) 0) 10 f)) h)

-- ---- words

-- a text and a word that begin with one byte each
pub starts-tail : {b c : ℕ} {t w : List ℕ} → Starts (b ∷ t) (c ∷ w) → (b ≡ c) × Starts t w
starts-tail (by_space r e) = (cc, by_space r (cc))
starts-tail (by_line r e) = (cc, by_line r (cc))
starts-tail (by_end e) = (cc, by_end (cc))

pub starts_none : {c : ℕ} {w : List ℕ} → Starts [] (c ∷ w) → ⊥
starts_none (by_space r e) = let z : ◌≡◌ {A = ℕ} 0 1 = cc in omega arith
starts_none (by_line r e) = let z : ◌≡◌ {A = ℕ} 0 1 = cc in omega arith
starts_none (by_end e) = let z : ◌≡◌ {A = ℕ} 0 1 = cc in omega arith

-- no word: the text ends, or begins with a space or an LF
pub starts-empty : {b : ℕ} {t : List ℕ} → Starts (b ∷ t) [] → (b ≡ 32 → ⊥) → (b ≡ 10 → ⊥) → ⊥
starts-empty (by_space r e) h k = h (cc)
starts-empty (by_line r e) h k = k (cc)
starts-empty (by_end e) h k = let z : ◌≡◌ {A = ℕ} 0 1 = cc in omega arith

-- the same in front of both
pub starts-cancel : (u : List ℕ) {t w : List ℕ} → Starts (u ++ t) (u ++ w) → Starts t w
starts-cancel [] h = h
starts-cancel (b ∷ u) h = starts-cancel u (starts-tail h).1

pub starts-as : {t u w v : List ℕ} → t ≡ u → w ≡ v → Starts t w → Starts u v
starts-as {t} {v = v} e f h = subst (λ x. Starts x v) e (subst (Starts t) f h)

-- a word is not itself with more after it
pub word-longer : (w : List ℕ) (b : ℕ) (t : List ℕ) → w ≡ w ++ (b ∷ t) → ⊥
word-longer w b t e = omega (arith, ap length e, length-append w (b ∷ t))

-- ---- bytes that end no word

abbrev pub stays : ℕ → Bool
stays b = not (eqb b 32) && not (eqb b 10)

pub stays_out : (b : ℕ) → stays b ≡ true → (b ≡ 32 → ⊥) × (b ≡ 10 → ⊥)
stays_out b h =
    let f = both (not (eqb b 32)) (not (eqb b 10)) h in
    (λ e. clash (eq-eqb b 32 e) (not-true (eqb b 32) f.0), λ e. clash (eq-eqb b 10 e) (not-true (eqb b 10) f.1))

-- what neither a space nor an LF ends is a part of the word
pub starts-past : (u : List ℕ) {t w : List ℕ} → is_clear u ≡ true → Starts (u ++ t) w → (v : List ℕ) × (w ≡ u ++ v) × Starts t v
starts-past [] {w = w} h k = (w, refl, k)
starts-past (b ∷ u) {w = []} h k =
    let f = stays_out b (both (stays b) (is_clear u) h).0 in
    absurd (starts-empty k f.0 f.1)
starts-past (b ∷ u) {w = c ∷ w} h k =
    let m = starts-tail k in
    let r = starts-past u (both (stays b) (is_clear u) h).1 m.1 in
    let e : b ≡ c = m.0 in
    (r.0, ap (λ (x : ℕ). x ∷ w) (sym e) ∙ ap (b ∷◌) r.1, r.2)

-- ---- what ends a word

module _ (s w : List ℕ) (at p : ℕ) (text : left s at ≡ w ++ left s p) where
  -- after the word
  pub ended-past : at ≤ p → (r : Option Ended) → EndedIs s p [] r → EndedIs s at w r
  ended-past l (Some (Ended.Space q)) (t, f) = (text ∙ ap (w ++◌) t, record { on = omega (arith, f.on); within = f.within })
  ended-past l (Some (Ended.Line q)) (t, f) = (text ∙ ap (w ++◌) t, record { on = omega (arith, f.on); within = f.within })
  ended-past l (Some Ended.Finish) t = text ∙ ap (w ++◌) t ∙ append-nil w
  ended-past l None h = λ k. h (starts-cancel w (starts-as text (sym (append-nil w)) k))

-- by the next byte
module _ (s : List ℕ) (at b p : ℕ) (next : NextIs s at (Some (b, p))) where
  pub ended-space : b ≡ 32 → EndedIs s at [] (Some (Ended.Space p))
  ended-space e = (next.0 ∙ ap (◌∷ left s p) e, next.1)

  pub ended-line : b ≡ 10 → EndedIs s at [] (Some (Ended.Line p))
  ended-line e = (next.0 ∙ ap (◌∷ left s p) e, next.1)

  pub ended-not : (b ≡ 32 → ⊥) → (b ≡ 10 → ⊥) → EndedIs s at [] None
  ended-not h k = λ w. starts-empty (starts-as next.0 refl w) h k

-- ---- a word byte by byte

module _ (s w : List ℕ) (at p i : ℕ) (within : i < length w) (text : left s at ≡ take i w ++ left s p) where
  -- from its byte i on
  abbrev rest : List ℕ
  rest = get_or w i 0 ∷ drop (i + 1) w

  whole : w ≡ take i w ++ rest
  whole = sym (take-append-drop i w) ∙ ap (take i w ++◌) (drop-next w i 0 within)

  left-starts : Starts (left s at) w → Starts (left s p) rest
  left-starts k = starts-cancel (take i w) (starts-as text whole k)

  -- the text ends inside it
  pub word_cut : NextIs s p None → EndedIs s at w None
  word_cut e = λ k. starts_none (starts-as e refl (left-starts k))

  -- another byte stands there
  pub word-other : (b q : ℕ) → NextIs s p (Some (b, q)) → (b ≡ get_or w i 0 → ⊥) → EndedIs s at w None
  word-other b q n h = λ k. h (starts-tail (starts-as n.0 refl (left-starts k))).0

  -- its byte stands there
  pub word_next : (b q : ℕ) → NextIs s p (Some (b, q)) → b ≡ get_or w i 0 → left s at ≡ take (i + 1) w ++ left s q
  word_next b q n h =
      text ∙ ap (take i w ++◌) (n.0 ∙ ap (◌∷ left s q) h)
      ∙ sym (ap (◌++ left s q) (take_next w i 0 within) ∙ append_assoc (take i w) (get_or w i 0 ∷ []) (left s q))
