-- Texts laid one after the other: what is due of a text, from the whole to nothing; and the length that was counted. Assumes nothing.
use Prim.Native.Nat.{ℕ, suc, ◌+◌, ◌≤◌, ◌<◌}
use mathlib.Core.Path.{◌≡◌, refl, sym, ◌∙◌, ap, subst}
use mathlib.Core.Logic.{inl, inr}
use mathlib.Core.List.{List, [], ◌∷◌, ◌++◌}
use native.Mathlib.Omega.{arith}
use lib.Dec.{ltb}
use lib.ListN.{length, drop, length-append}
use lib.Seq.{sets, sets-eq, length-sets, set_out}
use borrow.Author.Tests.{ltb-true, ltb-false}
use Rattle.sets.{proofs.Truth.decided, specs.Word.largest, proofs.Rows.sets-append}
use Rattle.letters.specs.Laid.{counted, Laid}

-- ---- bytes at a place

-- past the room no byte is stored
sets-past : (t o : List ℕ) (at : ℕ) → length o ≤ at → sets o at t ≡ o
sets-past [] o at h = refl
sets-past (b ∷ t) o at h = ap (λ p. sets p (suc at) t) (set_out o at b h) ∙ sets-past t o (suc at) (omega arith)

sets-counted : (t o : List ℕ) (n : ℕ) → length o ≤ largest → sets o (counted n) t ≡ sets o n t
sets-counted t o n h = elim (decided (ltb n largest)) [
  | inl l ↦ let e : counted n ≡ n = omega (arith, ltb-true n largest l) in rw e
  | inr l ↦ sets-past t o (counted n) (omega (arith, ltb-false n largest l)) ∙ sym (sets-past t o n (omega (arith, ltb-false n largest l)))
]

-- ---- one text

pub laid-length : {old new t : List ℕ} {at next : ℕ} → Laid old new at next t → length new ≡ length old
laid-length {old} {t = t} {at} r = ap length r.bytes ∙ length-sets old at t

pub laid_next : {old new t : List ℕ} {at next : ℕ} → Laid old new at next t → next ≤ largest
laid_next r = omega (arith, r.place)

-- the same, written otherwise
pub laid_as : {old new s t : List ℕ} {at next : ℕ} → Laid old new at next s → s ≡ t → Laid old new at next t
laid_as {old} {new} {at = at} {next} r e = subst (λ t. Laid old new at next t) e r

-- a whole text at the front
pub laid-whole : {old new t : List ℕ} {next : ℕ} → Laid old new 0 next t → length t ≤ length old → new ≡ t ++ drop (length t) old
laid-whole {old} {t = t} r h =
    let e : 0 + length t ≡ length t = omega arith in
    r.bytes ∙ sets-eq t old 0 (omega arith) ∙ ap (λ n. t ++ drop n old) e

-- no room, and so no byte
pub laid-nowhere : {new t : List ℕ} {at next : ℕ} → Laid [] new at next t → new ≡ []
laid-nowhere {t = t} {at} r = r.bytes ∙ sets-past t [] at (omega arith)

module _ {old new t : List ℕ} {n : ℕ} (r : Laid old new 0 n t) (m : ℕ) (room : m < largest) where
  -- what was counted is longer than a room exactly when the text is
  pub laid-long : m < n → m < length t
  laid-long h = omega (arith, r.place)

  pub laid-short : n ≤ m → n ≡ length t
  laid-short h = omega (arith, r.place)

-- ---- what is due

-- of the whole text at a place of the old bytes, t is still due at a place of the new ones
pub record Due (old : List ℕ) (from : ℕ) (whole new : List ℕ) (at : ℕ) (t : List ℕ) : Type 0 where
  pub room : length new ≤ largest
  pub sure : at ≤ largest
  pub place : counted (at + length t) ≡ counted (from + length whole)
  pub bytes : sets new at t ≡ sets old from whole

pub due_all : (o : List ℕ) (at : ℕ) {whole t : List ℕ} → length o ≤ largest → at ≤ largest → whole ≡ t → Due o at whole o at t
due_all o at h k e = record { room = h; sure = k; place = ap (λ w. counted (at + length w)) (sym e); bytes = ap (sets o at) (sym e) }

-- the same, written otherwise
pub due-as : {old whole new s t : List ℕ} {from at : ℕ} → Due old from whole new at s → s ≡ t → Due old from whole new at t
due-as {old} {whole} {new} {from = from} {at} d e = subst (λ t. Due old from whole new at t) e d

pub due-next : {old whole new new' s t : List ℕ} {from at next : ℕ}
    → Due old from whole new at (s ++ t) → Laid new new' at next s → Due old from whole new' next t
due-next {new = new} {new'} {s} {t} {at = at} {next} d r =
    let l : length new' ≤ largest = omega (arith, laid-length r, d.room) in
    record {
      room = l;
      sure = laid_next r;
      place = omega (arith, length-append s t, r.place, d.place);
      bytes = ap (λ n. sets new' n t) r.place ∙ sets-counted t new' (at + length s) l
          ∙ ap (λ o. sets o (at + length s) t) r.bytes ∙ sym (sets-append new at s t) ∙ d.bytes;
    }

pub due-last : {old whole new new' s : List ℕ} {from at next : ℕ} → Due old from whole new at s → Laid new new' at next s → Laid old new' from next whole
due-last d r = record { place = r.place ∙ d.place; bytes = r.bytes ∙ d.bytes }

pub due-done : {old whole new : List ℕ} {from at : ℕ} → Due old from whole new at [] → Laid old new from at whole
due-done d = record { place = omega (arith, d.sure, d.place); bytes = d.bytes }

pub due-trans : {old whole mid t new u : List ℕ} {from at next : ℕ} → Due old from whole mid at t → Due mid at t new next u → Due old from whole new next u
due-trans d e = record { room = e.room; sure = e.sure; place = e.place ∙ d.place; bytes = e.bytes ∙ d.bytes }
